-- Which node a number has once some were changed, and when nodes lie over the blocks.
use Rattle.std.proofs.Common.{◌≡◌, ◌≢◌, ℕ, List, [], ◌∷◌, inl, inr, refl, sym, ◌∙◌, ap, subst, arith}
use Rattle.std.specs.Prelude.{true, false, Option, Some, None, if◌then◌else◌, nat_eq, Contains}
use Rattle.std.proofs.lemmas.Bool.{cases_eq, eq-eqb, eqb-false, ne_eqb}
use Rattle.qx_fields.specs.declared.order.Order.{Order}
use Rattle.qx_geom.specs.declared.root.Root.{Root}
use Rattle.qx_geom.specs.Lists.{Distinct, is_in}
use Rattle.qx_geom.proofs.ImagesAndFilters.{Contains-in}
use Rattle.qx_geom.proofs.Members.{Contains-cases, Contains-cons, Contains-head, in_cases, in_head, in_tail}
use Rattle.qx_geom.proofs.Truths.{or_left, or_right}
use Rattle.qx_nodes.specs.Visits.{Visit, visits_of}
use Rattle.qx_blocks.specs.BlockState.{BlockState}
use Rattle.qx_ptree.specs.Trees.{AreApart, IsToldNode, block_map}
use Rattle.qx_ptree.proofs.ApartNodes.{apart_turned}
use Rattle.qx_batch.specs.declared.batch.Waiting.{Waiting}
use Rattle.qx_batch.specs.declared.planned.Planned.{Planned}
use Rattle.qx_batch.specs.Batches.{plans_of}
use Rattle.qx_batch.specs.Changes.{with_nodes}
use Rattle.qx_batch.specs.Nodes.{AreAllMet, AreLaid, IsMet, Nodes, owners_of, with_node}

-- ---- one number

-- the number has the node that it gets
pub placed_here : (nodes : Nodes) (o : ℕ) (node : Option Root) → with_node nodes o node o ≡ node
placed_here nodes o node = ap (λ b. if b then node else nodes o) (eq-eqb o o refl)

-- another one has what it had
pub placed_other : (nodes : Nodes) (o q : ℕ) (node : Option Root) → q ≢ o → with_node nodes o node q ≡ nodes q
placed_other nodes o q node differ = ap (λ b. if b then node else nodes q) (ne_eqb q o differ)

module _ (order : Order) (m : BlockState) (nodes : Nodes) (o : ℕ) (l : AreLaid order m nodes) where
  -- a number gets a node that is apart from all others
  pub laid_with : (node : Root) → IsToldNode order m node → ((q : ℕ) (a : Root) → nodes q ≡ Some a → q ≢ o → AreApart order m node a) → AreLaid order m (with_node nodes o (Some node))
  laid_with node is apart = record {
    node = λ q a there. elim (cases_eq q o) [
      | inl here ↦ subst (IsToldNode order m) (same q a here there) is
      | inr other ↦ l.node q a (was q a other there)
    ];
    apart = λ p q a b at to differ. elim (cases_eq p o) [
      | inl here ↦ subst (λ x. AreApart order m x b) (same p a here at) (apart q b (was q b (λ e. differ (here ∙ sym e)) to) (λ e. differ (here ∙ sym e)))
      | inr other ↦ elim (cases_eq q o) [
        | inl here ↦ subst (AreApart order m a) (same q b here to) (apart_turned order m node a (apart p a (was p a other at) other))
        | inr too ↦ l.apart p q a b (was p a other at) (was q b too to) differ
      ]
    ];
  } where
    same : (q : ℕ) (a : Root) → q ≡ o → with_node nodes o (Some node) q ≡ Some a → node ≡ a
    same q a here there = let both : Some node ≡ Some a = sym (placed_here nodes o (Some node)) ∙ ap (with_node nodes o (Some node)) (sym here) ∙ there in cc

    was : (q : ℕ) (a : Root) → q ≢ o → with_node nodes o (Some node) q ≡ Some a → nodes q ≡ Some a
    was q a other there = sym (placed_other nodes o q (Some node) other) ∙ there

  -- it loses its node
  pub laid_without : AreLaid order m (with_node nodes o None)
  laid_without = record {
    node = λ q a there. l.node q a (was q a there);
    apart = λ p q a b at to differ. l.apart p q a b (was p a at) (was q b to) differ;
  } where
    was : (q : ℕ) (a : Root) → with_node nodes o None q ≡ Some a → nodes q ≡ Some a
    was q a there = elim (cases_eq q o) [
      | inl here ↦ let both : None ≡ Some a = sym (placed_here nodes o None) ∙ ap (with_node nodes o None) (sym here) ∙ there in absurd (cc)
      | inr other ↦ sym (placed_other nodes o q None other) ∙ there
    ]

-- what is met stays so where a number that had no node gets one
pub met_with : (order : Order) (m : BlockState) (nodes : Nodes) (o : ℕ) (node : Root) → AreAllMet order m nodes → nodes o ≡ None → AreAllMet order m (with_node nodes o (Some node))
met_with order m nodes o node all none b works =
    let i : IsMet order m nodes b = all b works in
    record {
      number = i.number;
      node = i.node;
      is = placed_other nodes o i.number (Some node) (λ e. let both : None ≡ Some i.node = sym none ∙ ap nodes (sym e) ∙ i.is in cc) ∙ i.is;
      visit = i.visit;
      met = i.met;
      block = i.block;
    }

-- and where one loses a node that meets nothing
pub met_without : (order : Order) (m : BlockState) (nodes : Nodes) (o : ℕ) (node : Root) → AreAllMet order m nodes → nodes o ≡ Some node → visits_of (block_map order m) node ≡ [] → AreAllMet order m (with_node nodes o None)
met_without order m nodes o node all is none b works =
    let i : IsMet order m nodes b = all b works in
    record {
      number = i.number;
      node = i.node;
      is = placed_other nodes o i.number None (λ e. meets_none i.node i.visit (let both : Some node ≡ Some i.node = sym is ∙ ap nodes (sym e) ∙ i.is in cc) i.met) ∙ i.is;
      visit = i.visit;
      met = i.met;
      block = i.block;
    }
  where
    meets_none : (other : Root) (v : Visit) → node ≡ other → Contains (visits_of (block_map order m) other) v → ⊥
    meets_none other v same met =
        let vs : List Visit = [] in
        let c : Contains vs v = subst (λ vs. Contains vs v) none (subst (λ x. Contains (visits_of (block_map order m) x) v) (sym same) met) in
        omega (arith, c.1)

-- ---- several changes

-- the plan of a change that waits is among the plans
pub waiting_planned : (ws : List Waiting) (w : Waiting) → Contains ws w → Contains (plans_of ws) w.plan
waiting_planned [] w c = absurd (omega (arith, c.1))
waiting_planned (x ∷ xs) w c = elim (Contains-cases x w xs c) [
  | inl is ↦ subst (λ (y : Waiting). Contains (plans_of (x ∷ xs)) y.plan) is (Contains-head x.plan (plans_of xs))
  | inr later ↦ Contains-cons x.plan w.plan (plans_of xs) (waiting_planned xs w later)
]

-- and each plan is that of one that waits
pub planned_waiting : (ws : List Waiting) (p : Planned) → Contains (plans_of ws) p → (w : Waiting) × Contains ws w × (w.plan ≡ p)
planned_waiting [] p c = absurd (omega (arith, c.1))
planned_waiting (x ∷ xs) p c = elim (Contains-cases x.plan p (plans_of xs) c) [
  | inl is ↦ (x, Contains-head x xs, is)
  | inr later ↦ let r = planned_waiting xs p later in (r.0, Contains-cons x r.0 xs r.1, r.2)
]

-- so is its number among the numbers
pub owner_in : (ws : List Waiting) (w : Waiting) → Contains ws w → is_in (owners_of (plans_of ws)) w.plan.owner ≡ true
owner_in [] w c = absurd (omega (arith, c.1))
owner_in (x ∷ xs) w c = elim (Contains-cases x w xs c) [
  | inl is ↦ subst (λ (y : Waiting). is_in (owners_of (plans_of (x ∷ xs))) y.plan.owner ≡ true) is (in_head x.plan.owner (owners_of (plans_of xs)))
  | inr later ↦ in_tail x.plan.owner w.plan.owner (owners_of (plans_of xs)) (owner_in xs w later)
]

-- and each number is that of one that waits
pub owned : (ws : List Waiting) (o : ℕ) → is_in (owners_of (plans_of ws)) o ≡ true → (w : Waiting) × Contains ws w × (w.plan.owner ≡ o)
owned [] o h = absurd (cc)
owned (x ∷ xs) o h = elim (in_cases x.plan.owner o (owners_of (plans_of xs)) h) [
  | inl is ↦ (x, Contains-head x xs, is)
  | inr later ↦ let r = owned xs o later in (r.0, Contains-cons x r.0 xs r.1, r.2)
]

-- the first of changes of different nodes has another number than each behind it
pub head_differs : (x : Waiting) (xs : List Waiting) (w : Waiting) → Distinct (owners_of (plans_of (x ∷ xs))) → Contains xs w → w.plan.owner ≢ x.plan.owner
head_differs x xs w d c e = d.0 (subst (Contains (owners_of (plans_of xs))) e (Contains-in (owners_of (plans_of xs)) w.plan.owner (owner_in xs w c)))

-- the number of a change has the node that the change made
pub with_own : (nodes : Nodes) (ws : List Waiting) (w : Waiting) → Distinct (owners_of (plans_of ws)) → Contains ws w → with_nodes nodes ws w.plan.owner ≡ Some w.prep.root
with_own nodes [] w d c = absurd (omega (arith, c.1))
with_own nodes (x ∷ xs) w d c = elim (Contains-cases x w xs c) [
  | inl is ↦ subst (λ (y : Waiting). with_nodes nodes (x ∷ xs) y.plan.owner ≡ Some y.prep.root) is (placed_here (with_nodes nodes xs) x.plan.owner (Some x.prep.root))
  | inr later ↦ placed_other (with_nodes nodes xs) x.plan.owner w.plan.owner (Some x.prep.root) (head_differs x xs w d later) ∙ with_own nodes xs w d.1 later
]

-- every other number has the node that it had
pub with_other : (nodes : Nodes) (ws : List Waiting) (o : ℕ) → is_in (owners_of (plans_of ws)) o ≡ false → with_nodes nodes ws o ≡ nodes o
with_other nodes [] o out = refl
with_other nodes (x ∷ xs) o out =
    placed_other (with_nodes nodes xs) x.plan.owner o (Some x.prep.root) (λ e. eqb-false x.plan.owner o (or_left (nat_eq x.plan.owner o) (is_in (owners_of (plans_of xs)) o) out) (sym e))
    ∙ with_other nodes xs o (or_right (nat_eq x.plan.owner o) (is_in (owners_of (plans_of xs)) o) out)
