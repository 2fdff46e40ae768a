-- The pointers of a plan's node: each leads to a block that the working tree holds, and stands where the node has a position.
use Rattle.std.proofs.Common.{◌≡◌, ◌≢◌, ℕ, ◌+◌, ◌*◌, ◌-◌, ◌<◌, ◌≤◌, inl, inr, List, ◌++◌, drop, length, sym, ◌∙◌, ap, subst, arith}
use Rattle.std.specs.Prelude.{Bool, false, not, ◌||◌, ◌==◌, if◌then◌else◌, replicate, slice_index, slice_index_or, IsTrue}
use Rattle.std.proofs.lemmas.Bool.{cases_eq, cases_lt}
use Rattle.std.proofs.lemmas.List.{drop-replicate, get_or-append_right, get_or-replicate, get_or_append_left, get_or_default, get_or_past}
use Rattle.qx_geom.specs.Pointer.{absent, per_block}
use Rattle.qx_geom.specs.Positions.{has_position}
use Rattle.qx_geom.proofs.Truths.{or_left, or_right}
use Rattle.qx_nodes.specs.BlockMap.{BlockMap, word}
use Rattle.qx_nodes.specs.ForeignNodes.{has_bare_block, has_strays}
use Rattle.qx_blocks.specs.BlockState.{BlockState, IsConsistent}
use Rattle.qx_blocks.specs.Calls.{Keeps}
use Rattle.qx_ptree.specs.declared.plan.Plan.{Plan}
use Rattle.qx_ptree.specs.Parts.{has_below}
use Rattle.qx_ptree.specs.Plans.{IsPlan, alteration_in, planned_pointer}
use Rattle.qx_ptree.specs.Trees.{Leads, block_map}
use Rattle.qx_ptree.proofs.MetPositions.{IsMetWhole, pointer_met}
use Rattle.qx_ptree.proofs.PointerCounts.{words_bounds, words_positive}
use Rattle.qx_ptree.proofs.PointersByPosition.{at_above, none_beside, pointer_below, pointer_top}
use Rattle.qx_ptree.proofs.PresentPositions.{below_at, none_above, position_above, position_at}
use Rattle.qx_ptree.proofs.WorkingPaths.{works_below}

-- what is known of a plan where bytes are told
pub record IsToldPlan (m : BlockState) (plan : Plan) : Type 0 where
  pub consistent : IsConsistent m
  pub met : IsPlan m plan
  pub told : IsTrue m.tells

-- its node has no stray and no bare block
plain_parts : (a b c : Bool) → (a || (b || c)) ≡ false → (b ≡ false) × (c ≡ false)
plain_parts a b c e = (or_left b c (or_right a (b || c) e), or_right b c (or_right a (b || c) e))

-- it is met as a whole
pub planned_whole : (m : BlockState) (plan : Plan) → IsToldPlan m plan → IsMetWhole (block_map plan.order m) plan.node
planned_whole m plan p = record {
  words = words_positive m.holdings.size p.consistent.size;
  long = plan.sixteen;
  plain = (plain_parts _ (has_strays (block_map plan.order m) plan.node) (has_bare_block (block_map plan.order m) plan.node) (p.met.node.regular p.told).plain).0;
  numbers = λ v c. works_below m v.block p.consistent (p.met.node.works p.told v c);
}

-- and each of its pointer blocks has a present leaf
pub planned_bare : (m : BlockState) (plan : Plan) → IsToldPlan m plan → has_bare_block (block_map plan.order m) plan.node ≡ false
planned_bare m plan p = (plain_parts _ (has_strays (block_map plan.order m) plan.node) (has_bare_block (block_map plan.order m) plan.node) (p.met.node.regular p.told).plain).1

-- each pointer leads to a block of the working tree
pub planned_leads : (m : BlockState) (plan : Plan) (k j : ℕ) → IsToldPlan m plan → Leads m (planned_pointer plan m k j)
planned_leads m plan k j p there =
    elim (cases_lt plan.node.levels k) [
      | inl above ↦ absurd (there (at_above (block_map plan.order m) plan.node k j above))
      | inr h ↦ p.met.node.works p.told _ (pointer_met (block_map plan.order m) plan.node k j (planned_whole m plan p) h there)
    ]

-- so it is what counts as leading
pub planned_lead : (m : BlockState) (plan : Plan) (k j q lead : ℕ) → IsToldPlan m plan → q ≡ planned_pointer plan m k j → (Leads m q → lead ≡ q) → lead ≡ planned_pointer plan m k j
planned_lead m plan k j q lead p is same = same (subst (Leads m) (sym is) (planned_leads m plan k j p)) ∙ is

-- the node has a position where its pointer is there
pub planned_position : (m : BlockState) (plan : Plan) (k j : ℕ) → IsToldPlan m plan → has_position m.holdings.size (alteration_in plan m).old k j ≡ not (planned_pointer plan m k j == absent)
planned_position m plan k j p =
    let t : BlockMap = block_map plan.order m in
    elim (cases_lt plan.node.levels k) [
      | inl above ↦ position_above t plan.node k j above ∙ sym (ap (λ q. not (q == absent)) (at_above t plan.node k j above))
      | inr h ↦ position_at t plan.node k j (planned_whole m plan p) (planned_bare m plan p) h
    ]

-- at the node's levels, that is where a leaf is present below it
pub planned_below : (m : BlockState) (plan : Plan) (k j : ℕ) → IsToldPlan m plan → k ≤ plan.node.levels → has_below m.holdings.size (alteration_in plan m).old.present k j ≡ not (planned_pointer plan m k j == absent)
planned_below m plan k j p h = below_at (block_map plan.order m) plan.node k j (planned_whole m plan p) (planned_bare m plan p) h

-- above them all leaves lie below the first block
pub planned_above : (m : BlockState) (plan : Plan) (k j : ℕ) → IsToldPlan m plan → plan.node.levels < k → j ≢ 0 → has_below m.holdings.size (alteration_in plan m).old.present k j ≡ false
planned_above m plan k j p h other =
    let words : 128 ≤ per_block m.holdings.size = (words_bounds m.holdings.size p.consistent.size).0 in
    none_above (block_map plan.order m) plan.node k j (planned_whole m plan p) (omega arith) h other

-- ---- one level down

-- the pointers below a block are the words of it, but for those of the node below the first block of a level more
pub planned_step : (m : BlockState) (plan : Plan) (k j w q : ℕ) → IsConsistent m → 0 < k → w < per_block m.holdings.size → (k ≡ plan.node.levels + 1 → j ≢ 0) → q ≡ planned_pointer plan m k j
    → (if q == absent then absent else word (block_map plan.order m) q w) ≡ planned_pointer plan m (k - 1) (j * per_block m.holdings.size + w)
planned_step m plan k j w q s pos low other is =
    let t : BlockMap = block_map plan.order m in
    let words : 128 ≤ per_block m.holdings.size = (words_bounds m.holdings.size s.size).0 in
    ap (λ x. if x == absent then absent else word t x w) is ∙
    elim (cases_lt plan.node.levels k) [
      | inr h ↦ sym (pointer_below t plan.node k j w pos h low)
      | inl above ↦ ap (λ x. if x == absent then absent else word t x w) (at_above t plan.node k j above) ∙ sym (elim (cases_eq k (plan.node.levels + 1)) [
        | inl e ↦ let level : plan.node.levels ≡ k - 1 = omega arith in
            subst (λ l. planned_pointer plan m l (j * per_block m.holdings.size + w) ≡ absent) level (none_beside t plan.node j w plan.sixteen (omega arith) (other e))
        | inr ne ↦ at_above t plan.node (k - 1) (j * per_block m.holdings.size + w) (omega arith)
      ])
    ]

-- below that first block
pub planned_first : (m : BlockState) (plan : Plan) (k j w : ℕ) → k ≡ plan.node.levels + 1 → j ≡ 0 → slice_index_or plan.node.pointers w absent ≡ planned_pointer plan m (k - 1) (j * per_block m.holdings.size + w)
planned_first m plan k j w level first =
    let at : j * per_block m.holdings.size + w ≡ w = ap (λ i. i * per_block m.holdings.size + w) first ∙ omega arith in
    let top : k - 1 ≡ plan.node.levels = omega arith in
    sym ((λ i. planned_pointer plan m (top i) (at i)) ∙ pointer_top (block_map plan.order m) plan.node w)

-- the first pointers of a level, from the first one of the level above
pub planned_down : (m : BlockState) (plan : Plan) (k w q : ℕ) → 0 < k → k ≤ plan.node.levels → w < per_block m.holdings.size → q ≡ planned_pointer plan m k 0
    → (if q == absent then absent else word (block_map plan.order m) q w) ≡ planned_pointer plan m (k - 1) w
planned_down m plan k w q pos h low is =
    let at : 0 * per_block m.holdings.size + w ≡ w = omega arith in
    ap (λ x. if x == absent then absent else word (block_map plan.order m) x w) is ∙ sym (pointer_below (block_map plan.order m) plan.node k 0 w pos h low) ∙ ap (planned_pointer plan m (k - 1)) at

-- the node's own pointers with absent ones behind them
pub own_first : (pointers filled copied : List ℕ) (n w : ℕ) → length pointers ≡ 16 → copied ≡ pointers → filled ≡ replicate n absent → w < n → slice_index (copied ++ drop 16 filled) w ≡ slice_index_or pointers w absent
own_first pointers filled copied n w long is fills low =
    (λ i. slice_index (is i ++ drop 16 (fills i)) w) ∙
    elim (cases_lt w 16) [
      | inl h ↦ get_or_append_left pointers (drop 16 (replicate n absent)) 0 w (omega arith) ∙ get_or_default pointers w 0 absent (omega arith)
      | inr h ↦
          let behind : drop 16 (replicate n absent) ≡ replicate (n - 16) absent = drop-replicate 16 n absent in
          get_or-append_right pointers (drop 16 (replicate n absent)) 16 w 0 long h ∙ ap (λ xs. slice_index xs (w - 16)) behind ∙ get_or-replicate (n - 16) (w - 16) absent 0 (omega arith)
          ∙ sym (get_or_past pointers w absent (omega arith))
    ]

-- ---- down the first pointers of each level

-- the node's own are those of its topmost level
pub planned_top : (m : BlockState) (plan : Plan) (level j : ℕ) → j < 16 → slice_index plan.node.pointers j ≡ planned_pointer plan m (plan.node.levels + level - level) j
planned_top m plan level j low =
    let top : plan.node.levels + level - level ≡ plan.node.levels = omega arith in
    get_or_default plan.node.pointers j 0 absent (omega (arith, low, plan.sixteen)) ∙ sym (ap (λ k. planned_pointer plan m k j) top ∙ pointer_top (block_map plan.order m) plan.node j)

-- a pointer leads to a block of the working tree, after a call that keeps the blocks as well
pub leads_after : (old mid : BlockState) (plan : Plan) (k j q : ℕ) → IsConsistent old → IsPlan old plan → Keeps old mid → q ≡ planned_pointer plan old k j → IsTrue mid.tells → Leads mid q
leads_after old mid plan k j q s met keeps is told =
    let same : mid ≡ old = keeps.told told in
    subst (λ x. Leads x q) (sym same) (subst (Leads old) (sym is) (planned_leads old plan k j (record { consistent = s; met = met; told = subst (λ x. IsTrue x.tells) same told })))

-- one level further down
pub down_after : (old mid : BlockState) (plan : Plan) (k l w q next : ℕ) {new : BlockState} → IsConsistent old → Keeps old mid → k ≡ l + 1 → k ≤ plan.node.levels → w < 16 → (IsTrue mid.tells → q ≡ planned_pointer plan old k 0)
    → new ≡ mid → IsTrue new.tells → next ≡ (if q == absent then absent else word (block_map plan.order mid) q w) → next ≡ planned_pointer plan old l w
down_after old mid plan k l w q next s keeps step h low is after told next_is =
    let mid_told : IsTrue mid.tells = subst (λ x. IsTrue x.tells) after told in
    let words : 128 ≤ per_block old.holdings.size = (words_bounds old.holdings.size s.size).0 in
    let down : k - 1 ≡ l = omega arith in
    next_is ∙ ap (λ x. if q == absent then absent else word (block_map plan.order x) q w) (keeps.told mid_told) ∙ planned_down old plan k w q (omega arith) h (omega arith) (is mid_told) ∙ ap (λ i. planned_pointer plan old i w) down
