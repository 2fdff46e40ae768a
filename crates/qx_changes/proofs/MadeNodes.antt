-- Which nodes a working state has once changes were made, and that it can be read still.
use Rattle.std.proofs.Common.{◌≡◌, ℕ, zero, suc, ◌*◌, ◌^◌, ◌≤◌, inl, inr, List, [], ◌∷◌, length, refl, sym, ◌∙◌, ap, subst}
use Rattle.std.specs.Prelude.{◌⊎◌, ◌&&◌, ◌==◌, nat_le, Some, IsTrue, Contains, if◌then◌else◌}
use Rattle.std.specs.Cmp.Derive.{both_true}
use Rattle.std.proofs.lemmas.Bool.{cases_eq, le-leb}
use Rattle.std.proofs.lemmas.List.{length-set}
use Rattle.qx_geom.specs.declared.root.Root.{Root}
use Rattle.qx_geom.specs.Pointer.{reach}
use Rattle.qx_geom.proofs.Members.{Contains-cons, Contains-head}
use Rattle.qx_nodes.specs.Content.{levels_fit}
use Rattle.qx_blocks.specs.BlockState.{BlockState}
use Rattle.qx_ptree.specs.Trees.{IsWorking, block_map}
use Rattle.qx_batch.specs.declared.batch.Waiting.{Waiting}
use Rattle.qx_batch.specs.Changes.{with_nodes}
use Rattle.qx_batch.specs.declared.planned.Planned.{Planned}
use Rattle.qx_batch.specs.Batches.{IsCommitted, plans_of}
use Rattle.qx_batch.specs.Nodes.{AreLaid, AreNodesOf, Nodes, with_node}
use Rattle.qx_batch.proofs.PlacedNodes.{placed_here, placed_other, waiting_planned}
use Rattle.qx_copies.specs.Copies.{Contents, inode_at, node_in}
use Rattle.qx_working.specs.declared.working.Working.{Working}
use Rattle.qx_working.specs.Standing.{IsReadable}
use Rattle.qx_working.specs.States.{copy_of, with_node_at, with_root}
use Rattle.qx_working.proofs.LaidNodes.{node_put}
use Rattle.qx_changes.specs.Made.{AreWritten, with_waiting}

-- ---- nodes

-- each change is of a number that has a node
abbrev pub HaveNodes : Nodes → List Waiting → Type 0
HaveNodes nodes ws = (x : Waiting) → Contains ws x → (a : Root) × (nodes x.plan.owner ≡ Some a)

-- such a number has one still once some got theirs
still : (nodes : Nodes) (ws : List Waiting) (o : ℕ) (old : Root) → nodes o ≡ Some old → (a : Root) × (with_nodes nodes ws o ≡ Some a)
still nodes [] o old is = (old, is)
still nodes (x ∷ xs) o old is = elim (cases_eq o x.plan.owner) [
  | inl same ↦ (x.prep.root, ap (with_node (with_nodes nodes xs) x.plan.owner (Some x.prep.root)) same ∙ placed_here (with_nodes nodes xs) x.plan.owner (Some x.prep.root))
  | inr other ↦ let (a, there) = still nodes xs o old is in (a, placed_other (with_nodes nodes xs) x.plan.owner o (Some x.prep.root) other ∙ there)
]

-- the nodes of the state are those that the changes make
pub nodes_waiting : (w : Working) (ws : List Waiting) → HaveNodes (node_in (copy_of w)) ws → (q : ℕ) → node_in (copy_of (with_waiting w ws)) q ≡ with_nodes (node_in (copy_of w)) ws q
nodes_waiting w [] have q = refl
nodes_waiting w (x ∷ xs) have q =
    let rest : (o : ℕ) → node_in (copy_of (with_waiting w xs)) o ≡ with_nodes (node_in (copy_of w)) xs o = nodes_waiting w xs (λ y among. have y (Contains-cons x y xs among)) in
    let (a, is) = have x (Contains-head x xs) in
    let (b, there) = still (node_in (copy_of w)) xs x.plan.owner a is in
    node_put (with_waiting w xs) x.plan.owner q x.prep.root b (rest x.plan.owner ∙ there) ∙ ap (λ v. if q == x.plan.owner then Some x.prep.root else v) (rest q)

-- those of planned changes are
pub have_nodes : (nodes : Nodes) (ps : List Planned) (ws : List Waiting) → plans_of ws ≡ ps → AreNodesOf nodes ps → HaveNodes nodes ws
have_nodes nodes ps ws plans of x among = (x.plan.node, of.is x.plan (subst (λ l. Contains l x.plan) plans (waiting_planned ws x among)))

-- a number that is changed has the node of a change, any other the one that it had
own_or_same : (nodes : Nodes) (ws : List Waiting) (o : ℕ) (node : Root) → with_nodes nodes ws o ≡ Some node → ((x : Waiting) × Contains ws x × (x.prep.root ≡ node)) ⊎ (nodes o ≡ Some node)
own_or_same nodes [] o node is = inr is
own_or_same nodes (x ∷ xs) o node is = elim (cases_eq o x.plan.owner) [
  | inl same ↦
      let both : Some x.prep.root ≡ Some node = sym (placed_here (with_nodes nodes xs) x.plan.owner (Some x.prep.root)) ∙ ap (with_node (with_nodes nodes xs) x.plan.owner (Some x.prep.root)) (sym same) ∙ is in
      let root : x.prep.root ≡ node = cc in
      inl (x, Contains-head x xs, root)
  | inr other ↦ elim (own_or_same nodes xs o node (sym (placed_other (with_nodes nodes xs) x.plan.owner o (Some x.prep.root) other) ∙ is)) [
    | inl own ↦ inl (own.0, Contains-cons x own.0 xs own.1, own.2)
    | inr before ↦ inr before
  ]
]

-- ---- reading

-- a node that is put leaves the orders, the links and the number of inodes
put_keeps : (w : Working) (o : ℕ) (node : Root) → ((with_node_at w o node).order ≡ w.order) × ((with_node_at w o node).table.order ≡ w.table.order) × ((with_node_at w o node).links ≡ w.links)
    × (length (with_node_at w o node).table.inodes ≡ length w.table.inodes)
put_keeps w zero node = (refl, refl, refl, refl)
put_keeps w (suc k) node = (refl, refl, refl, length-set w.table.inodes k (with_root node (inode_at w.table.inodes (suc k))))

-- and so do all of them
pub waiting_keeps : (w : Working) (ws : List Waiting) → ((with_waiting w ws).order ≡ w.order) × ((with_waiting w ws).table.order ≡ w.table.order) × ((with_waiting w ws).links ≡ w.links)
    × (length (with_waiting w ws).table.inodes ≡ length w.table.inodes)
waiting_keeps w [] = (refl, refl, refl, refl)
waiting_keeps w (x ∷ xs) =
    let (order, table, links, places) = waiting_keeps w xs in
    let (order_x, table_x, links_x, places_x) = put_keeps (with_waiting w xs) x.plan.owner x.prep.root in
    (order_x ∙ order, table_x ∙ table, links_x ∙ links, places_x ∙ places)

-- sizes within the format's bound fit
levels_fitting : (size levels blocksize : ℕ) → levels ≤ 5 → size ≤ reach blocksize levels * blocksize → size ≤ 2 ^ 48
    → IsTrue (nat_le levels 5 && (nat_le size (reach blocksize levels * blocksize) && nat_le size (2 ^ 48)))
levels_fitting size levels blocksize low reached most =
    both_true (le-leb levels 5 low) (both_true (le-leb size (reach blocksize levels * blocksize) reached) (le-leb size (2 ^ 48) most))

module _ (old new : BlockState) (w after : Working) (ps : List Planned) (r : IsReadable old w) (of : AreNodesOf (node_in (copy_of w)) ps) (held : Contents) (made : AreWritten old new w after ps held) where
  order_is : after.order ≡ w.order
  order_is = ap (λ s. s.order) made.state ∙ (waiting_keeps w made.waiting).0

  -- the nodes of the new state
  node_is : (o : ℕ) (node : Root) → node_in (copy_of after) o ≡ Some node → with_nodes (node_in (copy_of w)) made.waiting o ≡ Some node
  node_is o node is = sym (nodes_waiting w made.waiting (have_nodes (node_in (copy_of w)) ps made.waiting made.plans of) o) ∙ ap (λ s. node_in (copy_of s) o) (sym made.state) ∙ is

  -- are within the bounds
  bounds : ((p : Planned) → Contains ps p → p.change.size ≤ 2 ^ 48) → (o : ℕ) (node : Root) → node_in (copy_of after) o ≡ Some node → (length node.pointers ≡ 16) × IsTrue (levels_fit (block_map after.order new) node)
  bounds most o node is = elim (own_or_same (node_in (copy_of w)) made.waiting o node (node_is o node is)) [
    | inl own ↦
        let (x, among, root) = own in
        let c : IsCommitted w.order new x = made.committed x among in
        let size : x.prep.root.size ≤ 2 ^ 48 = subst (λ n. n ≤ 2 ^ 48) (sym c.size) (most x.plan (subst (λ l. Contains l x.plan) made.plans (waiting_planned made.waiting x among))) in
        subst (λ a. (length a.pointers ≡ 16) × IsTrue (levels_fit (block_map after.order new) a)) root
        (c.sixteen, levels_fitting x.prep.root.size x.prep.root.levels new.holdings.size c.levels.most c.levels.reached size)
    | inr before ↦ (r.bounded.sixteen o node before, subst (λ n. IsTrue (nat_le node.levels 5 && (nat_le node.size (reach n node.levels * n) && nat_le node.size (2 ^ 48)))) (sym made.size) (r.bounded.levels o node before))
  ]

  pub readable_after : (IsTrue new.tells → AreLaid w.order old (node_in (copy_of w))) → ((p : Planned) → Contains ps p → p.change.size ≤ 2 ^ 48) → IsReadable new after
  readable_after laid most = record {
    bounded = record { sixteen = λ o node is. (bounds most o node is).0; levels = λ o node is. (bounds most o node is).1 };
    order = ap (λ s. s.table.order) made.state ∙ (waiting_keeps w made.waiting).1 ∙ r.order ∙ sym order_is;
    places = ap (λ s. length s.links) made.state ∙ ap length (waiting_keeps w made.waiting).2 ∙ r.places ∙ sym (waiting_keeps w made.waiting).3 ∙ ap (λ s. length s.table.inodes) (sym made.state);
    works = λ told o node is. subst (λ x. IsWorking x new node) (sym order_is) ((made.told told (laid told)).moved.laid.node o node is).works;
  }
