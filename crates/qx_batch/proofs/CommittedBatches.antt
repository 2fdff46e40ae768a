-- Changes of different nodes that are committed together: each makes of its node what it would alone, and other nodes stay.
use Rattle.std.proofs.Common.{◌≡◌, ◌≢◌, ℕ, List, [], ◌∷◌, inl, inr, sym, ◌∙◌, subst, arith}
use Rattle.std.specs.Prelude.{◌⊎◌, true, false, Some, IsTrue, Contains}
use Rattle.qx_fields.specs.declared.order.Order.{Order}
use Rattle.qx_geom.specs.declared.root.Root.{Root}
use Rattle.qx_geom.specs.Lists.{Distinct, is_in}
use Rattle.qx_geom.proofs.Members.{Contains-cases, Contains-cons, Contains-head, in_left, in_right}
use Rattle.qx_nodes.specs.Visits.{Visit, visits_of}
use Rattle.qx_blocks.specs.BlockState.{BlockState, IsConsistent}
use Rattle.qx_ptree.specs.Altered.{Alters}
use Rattle.qx_ptree.specs.KeptNodes.{KeepsNode}
use Rattle.qx_ptree.specs.Takings.{Takes}
use Rattle.qx_ptree.specs.Trees.{block_map}
use Rattle.qx_ptree.specs.WaitingChanges.{IsClearOf, IsWaiting}
use Rattle.qx_ptree.specs.WorkState.{Preparation, blocks_of, committed}
use Rattle.qx_ptree.proofs.CarriedPlans.{fresh_held, held_after}
use Rattle.qx_ptree.proofs.KeptNodes.{kept_others, kept_taken, kept_then, visits_kept}
use Rattle.qx_ptree.proofs.SeveralChanges.{altered_stays, clear_node, wait_commits, wait_others}
use Rattle.qx_ptree.proofs.WaitingChanges.{IsApart, apart_back}
use Rattle.qx_batch.specs.declared.batch.Waiting.{Waiting}
use Rattle.qx_batch.specs.declared.planned.Planned.{Planned}
use Rattle.qx_batch.specs.Batches.{ArePairsApart, ArePrepared, CanCommitAll, committed_all, fresh_of, plans_of}
use Rattle.qx_batch.specs.Nodes.{AreLaid, AreNodesOf, Nodes, owners_of}
use Rattle.qx_batch.proofs.CommittedStates.{AllConsistent, can_next, can_rest, commit_leaves, consistent_after}
use Rattle.qx_batch.proofs.PlacedNodes.{head_differs, waiting_planned}

-- ---- changes that are apart

-- two changes of some that are apart are one, or have no block in common
pub pair_apart : (ws : List Waiting) (u v : Waiting) → ArePairsApart ws → Contains ws u → Contains ws v → (u ≡ v) ⊎ IsApart (blocks_of u.prep) (blocks_of v.prep)
pair_apart [] u v a c d = absurd (omega (arith, c.1))
pair_apart (w ∷ ws) u v a c d = elim (Contains-cases w u ws c) [
  | inl first ↦ elim (Contains-cases w v ws d) [
    | inl same ↦ inl (sym first ∙ same)
    | inr later ↦ inr (subst (λ (x : Waiting). IsApart (blocks_of x.prep) (blocks_of v.prep)) first (apart_back (blocks_of v.prep) (blocks_of w.prep) (a.0 v later)))
  ]
  | inr behind ↦ elim (Contains-cases w v ws d) [
    | inl second ↦ inr (subst (λ (x : Waiting). IsApart (blocks_of u.prep) (blocks_of x.prep)) second (a.0 u behind))
    | inr later ↦ pair_apart ws u v a.1 behind later
  ]
]

-- ---- all of them

-- no change has a block of another, nor of the other's node
abbrev pub ArePairsClear : Order → BlockState → List Waiting → Type 0
ArePairsClear order old [] = Unit {0}
ArePairsClear order old (w ∷ ws) = ((v : Waiting) → Contains ws v → IsClearOf order old w.prep (blocks_of v.prep) × IsClearOf order old v.prep (blocks_of w.prep)) × ArePairsClear order old ws

-- a change that has no block of these waits on
pub wait_all : (order : Order) (old now : BlockState) (ws : List Waiting) (p : Preparation) → CanCommitAll now ws → IsWaiting order old now p → ((w : Waiting) → Contains ws w → IsClearOf order old p (blocks_of w.prep)) → IsWaiting order old (committed_all now ws) p
wait_all order old now [] p can waits clear = waits
wait_all order old now (w ∷ ws) p can waits clear =
    wait_others order (blocks_of w.prep) old (committed_all now ws) (committed_all now (w ∷ ws)) p
    (wait_all order old now ws p (can_rest now w ws can) waits (λ v c. clear v (Contains-cons w v ws c)))
    (clear w (Contains-head w ws)) (commit_leaves (committed_all now ws) w.prep (can_next now w ws can))

-- a node that has none of their blocks stays
pub keep_all : (order : Order) (old now : BlockState) (ws : List Waiting) (node : Root) → CanCommitAll now ws → KeepsNode order old now node
    → ((w : Waiting) (v : Visit) → Contains ws w → Contains (visits_of (block_map order old) node) v → is_in (blocks_of w.prep) v.block ≡ false) → KeepsNode order old (committed_all now ws) node
keep_all order old now [] node can keeps clear = keeps
keep_all order old now (w ∷ ws) node can keeps clear =
    let m : BlockState = committed_all now ws in
    let before : KeepsNode order old m node = keep_all order old now ws node (can_rest now w ws can) keeps (λ x v c. clear x v (Contains-cons w x ws c)) in
    kept_then order old m (committed m w.prep) node before
    (kept_others order (blocks_of w.prep) m (committed m w.prep) node (commit_leaves m w.prep (can_next now w ws can))
    (λ v c. clear w v (Contains-head w ws) (subst (λ vs. Contains vs v) (visits_kept order old m node before) c)))

-- each change has made of its node what it makes of it
pub alter_all : (order : Order) (old now : BlockState) (ws : List Waiting) → CanCommitAll now ws → AllConsistent now ws → ArePairsClear order old ws → ((w : Waiting) → Contains ws w → IsWaiting order old now w.prep)
    → (w : Waiting) → Contains ws w → Alters order old w.prep (committed_all now ws)
alter_all order old now [] can all clear waits w c = absurd (omega (arith, c.1))
alter_all order old now (x ∷ xs) can all clear waits w c =
    let m : BlockState = committed_all now xs in
    elim (Contains-cases x w xs c) [
      | inl is ↦ subst (λ (y : Waiting). Alters order old y.prep (committed_all now (x ∷ xs))) is
          (wait_commits order old m x.prep (wait_all order old now xs x.prep (can_rest now x xs can) (waits x (Contains-head x xs)) (λ v d. (clear.0 v d).0)))
      | inr later ↦ altered_stays order (blocks_of x.prep) old now m (committed m x.prep) w.prep (waits w c) (consistent_after now xs all.1) all.0 (clear.0 w later).1
          (commit_leaves m x.prep (can_next now x xs can))
          (alter_all order old now xs (can_rest now x xs can) all.1 clear.1 (λ v d. waits v (Contains-cons x v xs d)) w later)
    ]

-- ---- a batch

-- what one of the changes took, they all took
pub fresh_among : (ws : List Waiting) (w : Waiting) (b : ℕ) → Contains ws w → is_in w.prep.work.fresh b ≡ true → is_in (fresh_of ws) b ≡ true
fresh_among [] w b c h = absurd (omega (arith, c.1))
fresh_among (v ∷ vs) w b c h = elim (Contains-cases v w vs c) [
  | inl is ↦ in_left v.prep.work.fresh (fresh_of vs) b (subst (λ (x : Waiting). is_in x.prep.work.fresh b ≡ true) (sym is) h)
  | inr later ↦ in_right v.prep.work.fresh (fresh_of vs) b (fresh_among vs w b later h)
]

module _ (order : Order) (nodes : Nodes) (old now : BlockState) (ps : List Planned) (ws : List Waiting) (told : IsTrue now.tells) (s : IsConsistent old) (laid : AreLaid order old nodes) (own : AreNodesOf nodes ps) (a : ArePrepared order old now ps ws) where
  -- the plan of one that waits is one of these
  pub planned : (w : Waiting) → Contains ws w → Contains ps w.plan
  planned w c = subst (λ qs. Contains qs w.plan) a.plans (waiting_planned ws w c)

  -- its number has the node that it changes
  pub node_of : (w : Waiting) → Contains ws w → nodes w.plan.owner ≡ Some w.prep.node
  node_of w c = own.is w.plan (planned w c) ∙ (λ i. Some (sym (a.ready w c).node i))

  -- the numbers differ
  pub owners_differ : Distinct (owners_of (plans_of ws))
  owners_differ = subst (λ qs. Distinct (owners_of qs)) (sym a.plans) own.owners

  -- it waits
  pub waits : (w : Waiting) → Contains ws w → IsWaiting order old now w.prep
  waits w c =
      let t : Takes (fresh_of ws) old now = a.takes in
      let is = laid.node w.plan.owner w.prep.node (node_of w c) in
      let prepared = a.prepared told w c in
      record {
        node = is;
        unheld = λ b f. t.unheld b (fresh_among ws w b c f);
        held = λ b h. elim (prepared.blocks b h) [
          | inl fresh ↦ fresh_held (fresh_of ws) old now b t (fresh_among ws w b c fresh)
          | inr met ↦ subst (λ q. IsTrue (now.holdings.held q)) met.2 (held_after (fresh_of ws) old now met.0.block t (s.works_held met.0.block (is.works met.0 met.1)))
        ];
        kept = kept_taken order (fresh_of ws) old now w.prep.node s is.works told t;
        prepared = prepared;
      }

  -- it has no block of another node
  pub clear_of_node : (w : Waiting) (o : ℕ) (node : Root) (v : Visit) → Contains ws w → nodes o ≡ Some node → o ≢ w.plan.owner → Contains (visits_of (block_map order old) node) v → is_in (blocks_of w.prep) v.block ≡ false
  clear_of_node w o node v c there differ met =
      clear_node order old now w.prep node (waits w c) (laid.node o node there).works (laid.apart o w.plan.owner node w.prep.node there (node_of w c) differ) v met

  -- nor of another change
  pairs : (xs : List Waiting) → ((w : Waiting) → Contains xs w → Contains ws w) → Distinct (owners_of (plans_of xs)) → ArePairsApart xs → ArePairsClear order old xs
  pairs [] within differ apart = tt
  pairs (x ∷ xs) within differ apart = (
    λ v c.
        let here : Contains ws x = within x (Contains-head x xs) in
        let there : Contains ws v = within v (Contains-cons x v xs c) in
        let other : v.plan.owner ≢ x.plan.owner = head_differs x xs v differ c in (
          record { own = apart_back (blocks_of v.prep) (blocks_of x.prep) (apart.0 v c); met = λ u met. clear_of_node v x.plan.owner x.prep.node u there (node_of x here) (λ e. other (sym e)) met },
          record { own = apart.0 v c; met = λ u met. clear_of_node x v.plan.owner v.prep.node u here (node_of v there) other met },
        ),
    pairs xs (λ w c. within w (Contains-cons x w xs c)) differ.1 apart.1,
  )

  -- so it is with all of them
  pub pairs_clear : ArePairsClear order old ws
  pairs_clear = pairs ws (λ w c. c) owners_differ a.can.apart

  -- once all are committed each has made of its node what it makes of it
  pub altered : AllConsistent now ws → (w : Waiting) → Contains ws w → Alters order old w.prep (committed_all now ws)
  altered all w c = alter_all order old now ws a.can all pairs_clear waits w c

  -- and every other node stays
  pub others_stay : (o : ℕ) (node : Root) → nodes o ≡ Some node → ((w : Waiting) → Contains ws w → o ≢ w.plan.owner) → KeepsNode order old (committed_all now ws) node
  others_stay o node there differ = keep_all order old now ws node a.can (kept_taken order (fresh_of ws) old now node s (laid.node o node there).works told a.takes)
      (λ w v c met. clear_of_node w o node v c there (differ w c) met)
