-- What the nodes hold once changes were made, and once bytes were put.
use Rattle.std.proofs.Common.{◌≡◌, ◌≢◌, ℕ, ◌+◌, ◌<◌, ◌≤◌, inl, inr, List, [], ◌∷◌, length, refl, sym, ◌∙◌, ap, subst, arith}
use Rattle.std.specs.Prelude.{nat_eq, Bool, true, false, ◌||◌, Option, Some, None, IsTrue, Contains, if◌then◌else◌}
use Rattle.std.proofs.lemmas.Bool.{cases_eq, eq-eqb, eqb-false, ne_eqb}
use Rattle.qx_fields.specs.declared.order.Order.{Order}
use Rattle.qx_geom.specs.declared.root.Root.{Root}
use Rattle.qx_geom.specs.Lists.{Distinct, is_in}
use Rattle.qx_geom.specs.Pointer.{ceil_div}
use Rattle.qx_geom.proofs.Members.{Contains-cases, Contains-cons, Contains-head, in_cases}
use Rattle.qx_geom.proofs.Truths.{not_so, or_left, or_right, true_or_false}
use Rattle.qx_nodes.specs.BlockMap.{BlockMap}
use Rattle.qx_nodes.specs.NodeContents.{IsSameContent, NodeContent, node_content}
use Rattle.qx_blocks.specs.BlockState.{BlockState, Holdings, IsConsistent}
use Rattle.qx_ptree.specs.Trees.{block_map}
use Rattle.qx_ptree.specs.Fates.{is_written}
use Rattle.qx_ptree.specs.Takings.{Takes}
use Rattle.qx_file.specs.Puts.{CanPut, HasByte, Puts, leaves_end, with_part}
use Rattle.qx_file.proofs.PlannedChanges.{written_can}
use Rattle.qx_batch.specs.declared.batch.Waiting.{Waiting}
use Rattle.qx_batch.specs.declared.planned.Planned.{Planned}
use Rattle.qx_batch.specs.Batches.{IsCommitted, LeavesShared, plans_of}
use Rattle.qx_batch.specs.Changes.{AreChanged, IsChangedNode, IsKeptNode, changed_content, with_nodes}
use Rattle.qx_batch.specs.Nodes.{AreNodesOf, owners_of}
use Rattle.qx_batch.specs.PutNodes.{ArePut, has_byte, put_content}
use Rattle.qx_batch.proofs.PlacedNodes.{planned_waiting, with_own}
use Rattle.qx_batch.proofs.PutIntoNodes.{are_put, committed_still}
use Rattle.qx_copies.specs.Copies.{BlockCopy, Contents, content_or_none, contents_of, no_content, node_in}
use Rattle.qx_copies.proofs.ShownContents.{same_itself}
use Rattle.qx_working.specs.declared.working.Working.{Working}
use Rattle.qx_working.specs.States.{copy_of}
use Rattle.qx_placing.specs.MovedNodes.{KeepsShared}
use Rattle.qx_placing.proofs.MovedBlocks.{moved_put}
use Rattle.qx_changes.specs.Made.{AreHeld, AreWritten, CanPutInto, Writes, changed_contents, with_content}
use Rattle.qx_changes.proofs.MadeNodes.{have_nodes, nodes_waiting, waiting_keeps}

-- ---- contents that are the same

same_then : (size : ℕ) (a b c : NodeContent) → IsSameContent size a b → IsSameContent size b c → IsSameContent size a c
same_then size a b c first second = record {
  size = second.size ∙ first.size;
  present = second.present ∙ first.present;
  leaves = λ i below. second.leaves i (subst (λ n. i < ceil_div n size) (sym first.size) below) ∙ first.leaves i below;
}

-- with the same bytes put into both
put_alike : (size at : ℕ) (bytes : List ℕ) (a b : NodeContent) → IsSameContent size a b → IsSameContent size (put_content size at bytes a) (put_content size at bytes b)
put_alike size at bytes a b same = record {
  size = same.size;
  present = same.present;
  leaves = λ i below. ap (λ old. if has_byte size at (length bytes) i then with_part size i at bytes old else old) (same.leaves i below);
}

-- ---- contents by number

with_here : (c : Contents) (o : ℕ) (x : NodeContent) → with_content c o x o ≡ x
with_here c o x = ap (λ b. if b then x else c o) (eq-eqb o o refl)

with_other : (c : Contents) (o q : ℕ) (x : NodeContent) → q ≢ o → with_content c o x q ≡ c q
with_other c o q x differ = ap (λ b. if b then x else c q) (ne_eqb q o differ)

-- a number of a planned change holds what the change leaves
changed_own : (size : ℕ) (ps : List Planned) (c : Contents) (p : Planned) → Distinct (owners_of ps) → Contains ps p → changed_contents size ps c p.owner ≡ changed_content size p.change (c p.owner)
changed_own size [] c p distinct among = absurd (omega (arith, among.1))
changed_own size (x ∷ xs) c p distinct among = elim (Contains-cases x p xs among) [
  | inl is ↦ subst (λ (y : Planned). changed_contents size (x ∷ xs) c y.owner ≡ changed_content size y.change (c y.owner)) is (with_here (changed_contents size xs c) x.owner (changed_content size x.change (c x.owner)))
  | inr later ↦
      with_other (changed_contents size xs c) x.owner p.owner (changed_content size x.change (c x.owner))
      (λ e. distinct.0 (subst (Contains (owners_of xs)) e (owner_among xs p later)))
      ∙ changed_own size xs c p distinct.1 later
]
  where
    owner_among : (ys : List Planned) (y : Planned) → Contains ys y → Contains (owners_of ys) y.owner
    owner_among [] y there = absurd (omega (arith, there.1))
    owner_among (z ∷ zs) y there = elim (Contains-cases z y zs there) [
      | inl is ↦ subst (λ (a : Planned). Contains (owners_of (z ∷ zs)) a.owner) is (Contains-head z.owner (owners_of zs))
      | inr behind ↦ Contains-cons z.owner y.owner (owners_of zs) (owner_among zs y behind)
    ]

-- another holds what it held
changed_other : (size : ℕ) (ps : List Planned) (c : Contents) (o : ℕ) → is_in (owners_of ps) o ≡ false → changed_contents size ps c o ≡ c o
changed_other size [] c o out = refl
changed_other size (x ∷ xs) c o out =
    with_other (changed_contents size xs c) x.owner o (changed_content size x.change (c x.owner))
    (λ e. eqb-false x.owner o (or_left (nat_eq x.owner o) (is_in (owners_of xs) o) out) (sym e))
    ∙ changed_other size xs c o (or_right (nat_eq x.owner o) (is_in (owners_of xs) o) out)

-- a number that stands among the owners is that of a change
owner_of_one : (ps : List Planned) (o : ℕ) → is_in (owners_of ps) o ≡ true → (p : Planned) × Contains ps p × (p.owner ≡ o)
owner_of_one [] o there = absurd (cc)
owner_of_one (x ∷ xs) o there = elim (in_cases x.owner o (owners_of xs) there) [
  | inl is ↦ (x, Contains-head x xs, is)
  | inr later ↦ let (p, among, is) = owner_of_one xs o later in (p, Contains-cons x p xs among, is)
]

-- ---- after changes

module _ (order : Order) (old new : BlockState) (c d : BlockCopy) (ps : List Planned) (of : AreNodesOf (node_in c) ps) (changed : AreChanged order (node_in c) (node_in d) old new ps) where
  abbrev pub held : Contents
  held = changed_contents old.holdings.size ps (contents_of (block_map order old) c)

  planned_holds : (p : Planned) → Contains ps p → IsSameContent old.holdings.size (held p.owner) (contents_of (block_map order new) d p.owner)
  planned_holds p among =
      let own : IsChangedNode order old new p (node_in d p.owner) = changed.changed p among in
      let before : contents_of (block_map order old) c p.owner ≡ node_content (block_map order old) p.node = ap (content_or_none (block_map order old)) (of.is p among) in
      let after : contents_of (block_map order new) d p.owner ≡ node_content (block_map order new) own.root = ap (content_or_none (block_map order new)) own.is in
      let left : held p.owner ≡ changed_content old.holdings.size p.change (node_content (block_map order old) p.node) =
      changed_own old.holdings.size ps (contents_of (block_map order old) c) p of.owners among ∙ ap (changed_content old.holdings.size p.change) before in
      subst (λ a. IsSameContent old.holdings.size a (contents_of (block_map order new) d p.owner)) (sym left)
      (subst (IsSameContent old.holdings.size (changed_content old.holdings.size p.change (node_content (block_map order old) p.node))) (sym after) own.holds)

  kept_holds : (o : ℕ) (node : Option Root) → node_in c o ≡ node → is_in (owners_of ps) o ≡ false → IsSameContent old.holdings.size (content_or_none (block_map order old) node) (contents_of (block_map order new) d o)
  kept_holds o None is out = subst (IsSameContent old.holdings.size no_content) (sym (ap (content_or_none (block_map order new)) (changed.none o is))) (same_itself old.holdings.size no_content)
  kept_holds o (Some node) is out =
      let kept : IsKeptNode order old new node (node_in d o) = changed.kept o node is out in
      subst (IsSameContent old.holdings.size (node_content (block_map order old) node)) (sym (ap (content_or_none (block_map order new)) kept.is)) kept.holds

  -- all nodes hold what the changes leave
  pub changed_holds : (o : ℕ) → IsSameContent old.holdings.size (held o) (contents_of (block_map order new) d o)
  changed_holds o = by (is_in (owners_of ps) o) refl
    where
      by : (t : Bool) → is_in (owners_of ps) o ≡ t → IsSameContent old.holdings.size (held o) (contents_of (block_map order new) d o)
      by true there =
          let (p, among, is) = owner_of_one ps o there in
          subst (λ q. IsSameContent old.holdings.size (held q) (contents_of (block_map order new) d q)) is (planned_holds p among)
      by false out =
          subst (λ a. IsSameContent old.holdings.size a (contents_of (block_map order new) d o)) (sym (changed_other old.holdings.size ps (contents_of (block_map order old) c) o out))
          (kept_holds o (node_in c o) refl out)

-- ---- after a put

module _ (order : Order) (size : ℕ) (m n : BlockState) (d : BlockCopy) (owner at : ℕ) (bytes : List ℕ) (node : Root) (held : Contents)
    (sized : m.holdings.size ≡ size) (is : node_in d owner ≡ Some node) (put : ArePut order (node_in d) m n owner at bytes)
    (holds : (o : ℕ) → IsSameContent size (held o) (contents_of (block_map order m) d o)) where
  own_holds : IsSameContent size (put_content size at bytes (held owner)) (contents_of (block_map order n) d owner)
  own_holds =
      let there : (x : BlockMap) → contents_of x d owner ≡ node_content x node = λ x. ap (content_or_none x) is in
      same_then size (put_content size at bytes (held owner)) (put_content size at bytes (node_content (block_map order m) node)) (contents_of (block_map order n) d owner)
      (put_alike size at bytes (held owner) (node_content (block_map order m) node) (subst (IsSameContent size (held owner)) (there (block_map order m)) (holds owner)))
      (subst (IsSameContent size (put_content size at bytes (node_content (block_map order m) node))) (sym (there (block_map order n)))
      (subst (λ s. IsSameContent s (put_content s at bytes (node_content (block_map order m) node)) (node_content (block_map order n) node)) sized (put.put node is)))

  other_holds : (o : ℕ) (other : Option Root) → node_in d o ≡ other → o ≢ owner → IsSameContent size (content_or_none (block_map order m) other) (content_or_none (block_map order n) other)
  other_holds o None there differ = same_itself size no_content
  other_holds o (Some a) there differ = subst (λ s. IsSameContent s (node_content (block_map order m) a) (node_content (block_map order n) a)) sized (put.kept o a there differ).holds

  -- the node of the number has the bytes, and all others hold what they held
  pub put_holds : (o : ℕ) → IsSameContent size (with_content held owner (put_content size at bytes (held owner)) o) (contents_of (block_map order n) d o)
  put_holds o = elim (cases_eq o owner) [
    | inl same ↦ subst (λ q. IsSameContent size (with_content held owner (put_content size at bytes (held owner)) q) (contents_of (block_map order n) d q)) (sym same)
        (subst (λ a. IsSameContent size a (contents_of (block_map order n) d owner)) (sym (with_here held owner (put_content size at bytes (held owner)))) own_holds)
    | inr differ ↦ subst (λ a. IsSameContent size a (contents_of (block_map order n) d o)) (sym (with_other held owner o (put_content size at bytes (held owner)) differ))
        (same_then size (held o) (contents_of (block_map order m) d o) (contents_of (block_map order n) d o) (holds o) (other_holds o (node_in d o) refl differ))
  ]

-- ---- the relation

module _ (old new : BlockState) (w after : Working) (ps : List Planned) (held : Contents) (of : AreNodesOf (node_in (copy_of w)) ps) (written : AreWritten old new w after ps held) where
  -- the number of a planned change has the node that the change made
  made_node : (p : Planned) → Contains ps p → (x : Waiting) × Contains written.waiting x × (x.plan ≡ p) × (node_in (copy_of after) p.owner ≡ Some x.prep.root)
  made_node p among =
      let (x, there, is) = planned_waiting written.waiting p (subst (λ l. Contains l p) (sym written.plans) among) in
      let distinct : Distinct (owners_of (plans_of written.waiting)) = subst (λ l. Distinct (owners_of l)) (sym written.plans) of.owners in (
        x,
        there,
        is,
        ap (λ s. node_in (copy_of s) p.owner) written.state
            ∙ nodes_waiting w written.waiting (have_nodes (node_in (copy_of w)) ps written.waiting written.plans of) p.owner
            ∙ subst (λ (y : Planned). with_nodes (node_in (copy_of w)) written.waiting y.owner ≡ Some x.prep.root) is (with_own (node_in (copy_of w)) written.waiting x distinct there),
      )

  pub state_order : after.order ≡ w.order
  state_order = ap (λ s. s.order) written.state ∙ (waiting_keeps w written.waiting).0

  -- so bytes can be put into the leaves that it wrote
  pub can_put_into : (p : Planned) (owner at count : ℕ) → Contains ps p → Writes old.holdings.size p owner at count → at + count ≤ leaves_end old.holdings.size p.change.size → CanPutInto new after owner at count
  can_put_into p owner at count among writes below =
      let (x, there, is, made) = made_node p among in
      let c : IsCommitted w.order new x = written.committed x there in
      record {
        node = x.prep.root;
        is = subst (λ o. node_in (copy_of after) o ≡ Some x.prep.root) writes.owner_is made;
        can = subst (λ o. CanPut o new x.prep.root at count) (sym state_order)
            (written_can w.order new x.prep.root x.plan.change at count c.levels
            (subst (λ s. at + count ≤ leaves_end s x.prep.root.size) (sym written.size) (subst (λ n. at + count ≤ leaves_end old.holdings.size n) (sym (c.size ∙ ap (λ (y : Planned). y.change.size) is)) below))
            (λ i has. subst (λ (y : Planned). is_written y.change i ≡ true) (sym is) (writes.each i (subst (λ s. HasByte s at count i) written.size has)))
            c.ready);
      }

  -- and once they were put, the number holds them
  pub written_put : (new_now : BlockState) (p : Planned) (owner at : ℕ) (bytes : List ℕ) (node : Root) → IsConsistent new → Contains ps p → Writes old.holdings.size p owner at (length bytes)
      → node_in (copy_of after) owner ≡ Some node → CanPut after.order new node at (length bytes) → Puts after.order node at bytes new new_now
      → AreWritten old new_now w after ps (with_content held owner (put_content old.holdings.size at bytes (held owner)))
  written_put n p owner at bytes node consistent among writes there can puts =
      let (x, here, is, made) = made_node p among in
      let both : Some x.prep.root ≡ Some node = sym (subst (λ o. node_in (copy_of after) o ≡ Some x.prep.root) writes.owner_is made) ∙ there in
      let root : x.prep.root ≡ node = cc in
      let puts_in : Puts w.order node at bytes new n = subst (λ o. Puts o node at bytes new n) state_order puts in
      record {
        waiting = written.waiting;
        plans = written.plans;
        state = written.state;
        size = ap (λ (h : Holdings). h.size) puts.holdings ∙ written.size;
        shared = shared_kept n puts.holdings;
        committed = committed_still w.order new n written.waiting x at bytes written.apart written.committed here
            (λ i has. subst (λ (y : Planned). is_written y.change i ≡ true) (sym is) (writes.each i (subst (λ s. HasByte s at (length bytes) i) written.size has)))
            (subst (λ a. Puts w.order a at bytes new n) (sym root) puts_in);
        apart = written.apart;
        told_before = λ told. written.told_before (subst IsTrue puts.tells told);
        told = λ told laid.
            let told_new : IsTrue new.tells = subst IsTrue puts.tells told in
            let before : AreHeld old new w after ps held = written.told told_new laid in
            let put : ArePut w.order (node_in (copy_of after)) new n owner at bytes =
            are_put w.order (node_in (copy_of after)) new n owner at node bytes consistent before.moved.laid there (subst (λ o. CanPut o new node at (length bytes)) state_order can) puts_in in
            record {
              moved = moved_put w.order (node_in (copy_of w)) (node_in (copy_of after)) old new n ps owner at bytes before.moved put;
              holds = put_holds w.order old.holdings.size new n (copy_of after) owner at bytes node held written.size there put before.holds;
              shared = λ b kept out. put.shared b (written.shared.private b kept out) ∙ before.shared b kept out;
            };
      }
    where
      shared_kept : (n : BlockState) → n.holdings ≡ new.holdings → KeepsShared old n
      shared_kept n same = record {
        held = λ b kept out. subst (λ (h : Holdings). IsTrue (h.held b)) (sym same) (written.shared.held b kept out);
        private = λ b kept out. ap (λ (h : Holdings). h.private b) same ∙ written.shared.private b kept out;
      }

-- ---- the blocks of other trees

-- no block that another tree holds has other bytes after a preparation and a commit
pub shared_bytes : (fresh : List ℕ) (old mid new : BlockState) → Takes fresh old mid → LeavesShared mid new → IsTrue mid.tells → (b : ℕ) → IsTrue (old.holdings.held b) → old.holdings.private b ≡ false → new.bytes b ≡ old.bytes b
shared_bytes fresh old mid new takes leaves told b held out =
    let not_fresh : is_in fresh b ≡ false = not_so (is_in fresh b) (λ there. true_or_false (old.holdings.held b) held (takes.unheld b there)) in
    leaves.bytes b (takes.private b ∙ ap (λ t. t || is_in fresh b) out ∙ not_fresh) ∙ takes.told_bytes told b held

-- what can be put into a number's node can be put into the one that it has
pub can_put_there : (m : BlockState) (w : Working) (owner at count : ℕ) (node : Root) → CanPutInto m w owner at count → node_in (copy_of w) owner ≡ Some node → CanPut w.order m node at count
can_put_there m w owner at count node c is =
    let both : Some c.node ≡ Some node = sym c.is ∙ is in
    let same : c.node ≡ node = cc in
    subst (λ a. CanPut w.order m a at count) same c.can
