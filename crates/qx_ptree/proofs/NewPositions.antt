-- The new pointers of a node for which a change was prepared, once its bytes have come about: at each position stands the old block, a fresh one, or none.
use Rattle.std.proofs.Common.{◌≡◌, ◌≢◌, ℕ, zero, suc, ◌+◌, ◌-◌, ◌/◌, ◌%◌, ◌^◌, ◌<◌, ◌≤◌, inl, inr, List, refl, sym, ◌∙◌, ap, subst, arith}
use Rattle.std.specs.Prelude.{Bool, true, false, ◌==◌, if◌then◌else◌, slice_index, slice_index_or}
use Rattle.std.proofs.Math.Nat.{div-div-eq-div-mul, mul_comm, pow-suc}
use Rattle.std.proofs.lemmas.Bool.{cases_lt, or_right as or_second}
use Rattle.std.proofs.lemmas.List.{get_or_default, get_or_past}
use Rattle.qx_geom.specs.declared.root.Root.{Root}
use Rattle.qx_geom.specs.Lists.{is_in}
use Rattle.qx_geom.specs.Pointer.{absent, per_block}
use Rattle.qx_geom.specs.Positions.{has_position}
use Rattle.qx_geom.proofs.Truths.{not_so, true_or_false}
use Rattle.qx_nodes.specs.BlockMap.{BlockMap, word}
use Rattle.qx_nodes.proofs.LeafPaths.{by_one}
use Rattle.qx_blocks.specs.BlockState.{BlockState}
use Rattle.qx_ptree.specs.declared.plan.Plan.{Plan}
use Rattle.qx_ptree.specs.Altered.{keeps_block, takes_fresh}
use Rattle.qx_ptree.specs.Building.{IsPlaced, LiesUnder, Shows, new_pointer, pointer_down}
use Rattle.qx_ptree.specs.Plans.{alteration_in, planned_pointer}
use Rattle.qx_ptree.specs.Trees.{pointer_at, pointer_from}
use Rattle.qx_ptree.specs.WorkState.{WorkState}
use Rattle.qx_ptree.proofs.BuiltNodes.{IsBuilt, kept-old, kept-there, map_with, new-under, old-apart, old-fresh, old-held, own_row, stale-keeps}
use Rattle.qx_ptree.proofs.PointersByPosition.{at_above, at_from}

-- ---- pointers from above

-- below an absent pointer there are none
down-absent : (m : BlockMap) (d j : ℕ) → pointer_down m d absent j ≡ absent
down-absent m zero j = refl
down-absent m (suc d) j = ap (λ p. if p == absent then absent else word m p (j % per_block m.size)) (down-absent m d (j / per_block m.size))

-- a pointer is found from the node's own above it
pub from-down : (m : BlockMap) (node : Root) (d j : ℕ) → pointer_from m node d j ≡ pointer_down m d (slice_index_or node.pointers (j / per_block m.size ^ d) absent) j
from-down m node zero j = ap (λ x. slice_index_or node.pointers x absent) (sym (by_one j (per_block m.size)))
from-down m node (suc d) j =
    let P : ℕ = per_block m.size in
    let up : j / P / P ^ d ≡ j / P ^ suc d = div-div-eq-div-mul j P (P ^ d) ∙ ap (λ x. j / x) (mul_comm P (P ^ d) ∙ sym (pow-suc P d)) in
    ap (λ p. if p == absent then absent else word m p (j % P)) (from-down m node d (j / P) ∙ ap (λ x. pointer_down m d (slice_index_or node.pointers x absent) (j / P)) up)

-- ---- the new node

module _ (m n : BlockState) (plan : Plan) (root : Root) (outside : List ℕ) (rest : WorkState) (b : IsBuilt m n plan root outside rest)
    (bytes : ℕ → List ℕ) (shows : Shows m n plan rest (own_row root) bytes) where
  -- below the node's own pointers a pointer is the new one
  at-new : (k j : ℕ) → LiesUnder (per_block m.holdings.size) (own_row root) k j
      → pointer_at (map_with m plan bytes) root k j ≡ new_pointer m plan (own_row root) (slice_index root.pointers) bytes k j
  at-new k j under =
      let t : BlockMap = map_with m plan bytes in
      let d : ℕ = root.levels - k in
      let top : ℕ = j / per_block m.holdings.size ^ d in
      let low : top < 0 + 16 = under.to in
      at_from t root k j d under.level refl ∙ from-down t root d j ∙ ap (λ p. pointer_down t d p j) (sym (get_or_default root.pointers top 0 absent (omega (arith, low, b.long))))

  -- elsewhere there is none
  at-none : (k j : ℕ) → (LiesUnder (per_block m.holdings.size) (own_row root) k j → ⊥) → pointer_at (map_with m plan bytes) root k j ≡ absent
  at-none k j beyond =
      let t : BlockMap = map_with m plan bytes in
      let d : ℕ = root.levels - k in
      let top : ℕ = j / per_block m.holdings.size ^ d in
      elim (cases_lt root.levels k) [
        | inl above ↦ at_above t root k j above
        | inr level ↦ elim (cases_lt top 16) [
          | inl low ↦ absurd (beyond (record { level = level; from = omega arith; to = omega (arith, low) }))
          | inr far ↦ at_from t root k j d level refl ∙ from-down t root d j ∙ ap (λ p. pointer_down t d p j) (get_or_past root.pointers top absent (omega (arith, far, b.long))) ∙ down-absent t d j
        ]
      ]

  -- what stands at a position that is none of the new node
  none-placed : (k j p : ℕ) → has_position m.holdings.size (alteration_in plan m).new k j ≡ false → p ≡ absent → IsPlaced m n plan rest k j p
  none-placed k j p none is = record {
    none = λ e. is;
    stays = λ keeps. absurd (true_or_false (has_position m.holdings.size (alteration_in plan m).new k j) (kept-there m n plan root outside rest b k j keeps) none);
    fresh = λ there f. absurd (true_or_false (has_position m.holdings.size (alteration_in plan m).new k j) there none);
    bytes = λ z there f. absurd (true_or_false (has_position m.holdings.size (alteration_in plan m).new k j) there none);
  }

  -- each pointer is the one that the change makes of it
  pub placed : (k j : ℕ) → IsPlaced m n plan rest k j (pointer_at (map_with m plan bytes) root k j)
  placed k j =
      let P : ℕ = per_block m.holdings.size in
      elim (cases_lt root.levels k) [
        | inl above ↦ beyond (λ u. let low : k ≤ root.levels = u.level in omega arith)
        | inr level ↦ elim (cases_lt (j / P ^ (root.levels - k)) 16) [
          | inl low ↦ within (record { level = level; from = omega arith; to = omega (arith, low) })
          | inr far ↦ beyond (λ u. let low : j / P ^ (root.levels - k) < 0 + 16 = u.to in omega arith)
        ]
      ]
    where
      within : LiesUnder (per_block m.holdings.size) (own_row root) k j → IsPlaced m n plan rest k j (pointer_at (map_with m plan bytes) root k j)
      within under = subst (λ q. IsPlaced m n plan rest k j q) (sym (at-new k j under)) (b.builds.pointers bytes shows k j under)

      beyond : (LiesUnder (per_block m.holdings.size) (own_row root) k j → ⊥) → IsPlaced m n plan rest k j (pointer_at (map_with m plan bytes) root k j)
      beyond no_way = none-placed k j (pointer_at (map_with m plan bytes) root k j) (not_so (has_position m.holdings.size (alteration_in plan m).new k j) (λ there. no_way (new-under m n plan root outside rest b k j there))) (at-none k j no_way)

  -- a pointer that leads to a block stands at a position of the new node
  pub new-there : (k j : ℕ) → pointer_at (map_with m plan bytes) root k j ≢ absent → has_position m.holdings.size (alteration_in plan m).new k j ≡ true
  new-there k j leads =
      elim (has_position m.holdings.size (alteration_in plan m).new k j) as (λ t. has_position m.holdings.size (alteration_in plan m).new k j ≡ t → t ≡ true) [ true ↦ λ e. refl | false ↦ λ e. absurd (leads ((placed k j).none e)) ] refl

  -- a fresh block is one of the blocks
  pub fresh-number : (q : ℕ) → is_in rest.fresh q ≡ true → q < m.holdings.count
  fresh-number q f =
      let low : q < n.holdings.count = b.after.numbers q (b.takes.held q ∙ or_second (m.holdings.held q) (is_in rest.fresh q) f) in
      omega (arith, low, b.takes.count)

  -- so is one that stays
  pub kept-number : (k j : ℕ) → keeps_block (alteration_in plan m) k j ≡ true → planned_pointer plan m k j < m.holdings.count
  kept-number k j keeps = b.told.consistent.numbers (planned_pointer plan m k j) (old-held m n plan root outside rest b k j (kept-old m n plan root outside rest b k j keeps))

  -- at each position of the new node stands one of the blocks
  pub new-number : (k j : ℕ) → has_position m.holdings.size (alteration_in plan m).new k j ≡ true → pointer_at (map_with m plan bytes) root k j < m.holdings.count
  new-number k j there =
      elim (takes_fresh (alteration_in plan m) k j) as (λ t. takes_fresh (alteration_in plan m) k j ≡ t → pointer_at (map_with m plan bytes) root k j < m.holdings.count) [
        | true ↦ λ e. fresh-number (pointer_at (map_with m plan bytes) root k j) ((placed k j).fresh there e)
        | false ↦ λ e. let keeps : keeps_block (alteration_in plan m) k j ≡ true = stale-keeps (alteration_in plan m) k j there e in subst (λ q. q < m.holdings.count) (sym ((placed k j).stays keeps)) (kept-number k j keeps)
      ] refl

  -- so its pointer isn't absent
  pub new-leads : (k j : ℕ) → has_position m.holdings.size (alteration_in plan m).new k j ≡ true → pointer_at (map_with m plan bytes) root k j ≢ absent
  new-leads k j there is = let low : pointer_at (map_with m plan bytes) root k j < m.holdings.count = new-number k j there in omega (arith, low, is, b.told.consistent.count)

  -- no block stands at two positions
  pub new-apart : (k j h i : ℕ) → has_position m.holdings.size (alteration_in plan m).new k j ≡ true → has_position m.holdings.size (alteration_in plan m).new h i ≡ true
      → pointer_at (map_with m plan bytes) root k j ≡ pointer_at (map_with m plan bytes) root h i → (k ≡ h) × (j ≡ i)
  new-apart k j h i there too is = go (takes_fresh (alteration_in plan m) k j) (takes_fresh (alteration_in plan m) h i) refl refl
    where
      mixed : (k j h i : ℕ) → has_position m.holdings.size (alteration_in plan m).new k j ≡ true → takes_fresh (alteration_in plan m) k j ≡ true → keeps_block (alteration_in plan m) h i ≡ true
          → pointer_at (map_with m plan bytes) root k j ≡ pointer_at (map_with m plan bytes) root h i → ⊥
      mixed k j h i there f keeps is =
          old-fresh m n plan root outside rest b h i (kept-old m n plan root outside rest b h i keeps) (subst (λ q. is_in rest.fresh q ≡ true) (is ∙ (placed h i).stays keeps) ((placed k j).fresh there f))

      go : (x y : Bool) → takes_fresh (alteration_in plan m) k j ≡ x → takes_fresh (alteration_in plan m) h i ≡ y → (k ≡ h) × (j ≡ i)
      go true true e f =
          let u : LiesUnder (per_block m.holdings.size) (own_row root) k j = new-under m n plan root outside rest b k j there in
          let v : LiesUnder (per_block m.holdings.size) (own_row root) h i = new-under m n plan root outside rest b h i too in
          b.builds.apart bytes shows k j h i (record { under = u; there = there; fresh = e }) (record { under = v; there = too; fresh = f }) (sym (at-new k j u) ∙ is ∙ at-new h i v)
      go true false e f = absurd (mixed k j h i there e (stale-keeps (alteration_in plan m) h i too f) is)
      go false true e f = absurd (mixed h i k j too f (stale-keeps (alteration_in plan m) k j there e) (sym is))
      go false false e f =
          let x : keeps_block (alteration_in plan m) k j ≡ true = stale-keeps (alteration_in plan m) k j there e in
          let y : keeps_block (alteration_in plan m) h i ≡ true = stale-keeps (alteration_in plan m) h i too f in
          old-apart m n plan root outside rest b k j h i (kept-old m n plan root outside rest b k j x) (kept-old m n plan root outside rest b h i y) (sym ((placed k j).stays x) ∙ is ∙ (placed h i).stays y)
