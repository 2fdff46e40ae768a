-- Pointers by their position: those of one level from those of the level above.
use Rattle.std.proofs.Common.{◌≡◌, ◌≢◌, ℕ, zero, suc, ◌+◌, ◌*◌, ◌-◌, ◌^◌, ◌/◌, ◌%◌, ◌<◌, ◌≤◌, length, refl, sym, ◌∙◌, ap, subst, arith}
use Rattle.std.specs.Prelude.{true, false, ◌==◌, if◌then◌else◌, slice_index_or}
use Rattle.std.proofs.Math.Numerals.{sub-one}
use Rattle.std.proofs.Math.Nat.{div-div-eq-div-mul, mod-lt, pow-suc}
use Rattle.std.proofs.lemmas.Bool.{eq-eqb, le-ltb, lt-ltb}
use Rattle.std.proofs.lemmas.List.{get_or_past}
use Rattle.std.proofs.lemmas.Nat.{div-add-mod', div-mul-add, mod-mul-add}
use Rattle.qx_geom.specs.declared.root.Root.{Root}
use Rattle.qx_geom.specs.Pointer.{absent, per_block}
use Rattle.qx_nodes.specs.BlockMap.{BlockMap, word}
use Rattle.qx_nodes.proofs.LeafPaths.{by_one}
use Rattle.qx_ptree.specs.Trees.{pointer_at, pointer_from}

-- a pointer of the node's levels, by how far it stands below the node's own
pub at_from : (m : BlockMap) (node : Root) (k j d : ℕ) → k ≤ node.levels → node.levels - k ≡ d → pointer_at m node k j ≡ pointer_from m node d j
at_from m node k j d h e = ap (λ b. if b then absent else pointer_from m node (node.levels - k) j) (le-ltb node.levels k h) ∙ ap (λ d. pointer_from m node d j) e

-- above the node's levels there are none
pub at_above : (m : BlockMap) (node : Root) (k j : ℕ) → node.levels < k → pointer_at m node k j ≡ absent
at_above m node k j h = ap (λ b. if b then absent else pointer_from m node (node.levels - k) j) (lt-ltb node.levels k h)

-- a pointer is a word of the block above it, where there is one
pub from_step : (m : BlockMap) (node : Root) (d j w : ℕ) → w < per_block m.size
    → pointer_from m node (suc d) (j * per_block m.size + w) ≡ (if pointer_from m node d j == absent then absent else word m (pointer_from m node d j) w)
from_step m node d j w low = λ i. if pointer_from m node d (div-mul-add j (per_block m.size) w low i) == absent then absent else word m (pointer_from m node d (div-mul-add j (per_block m.size) w low i)) (mod-mul-add j (per_block m.size) w low i)

-- so it is by its level
pub pointer_step : (m : BlockMap) (node : Root) (k j w : ℕ) → suc k ≤ node.levels → w < per_block m.size
    → pointer_at m node k (j * per_block m.size + w) ≡ (if pointer_at m node (suc k) j == absent then absent else word m (pointer_at m node (suc k) j) w)
pointer_step m node k j w h low =
    let d : ℕ = node.levels - suc k in
    at_from m node k (j * per_block m.size + w) (suc d) (omega arith) (omega arith) ∙ from_step m node d j w low
    ∙ sym (ap (λ p. if p == absent then absent else word m p w) (at_from m node (suc k) j d h refl))

-- the pointers below a block, which are the words of it
pub pointer_below : (m : BlockMap) (node : Root) (k j w : ℕ) → 0 < k → k ≤ node.levels → w < per_block m.size
    → pointer_at m node (k - 1) (j * per_block m.size + w) ≡ (if pointer_at m node k j == absent then absent else word m (pointer_at m node k j) w)
pointer_below m node zero j w pos h low = absurd (omega arith)
pointer_below m node (suc k) j w pos h low = rw sub-one (pointer_step m node k j w h low)

-- the topmost pointers are the node's own
pub pointer_top : (m : BlockMap) (node : Root) (w : ℕ) → pointer_at m node node.levels w ≡ slice_index_or node.pointers w absent
pointer_top m node w = at_from m node node.levels w 0 (omega arith) (omega arith)

-- of which there are 16
pub pointer_past : (m : BlockMap) (node : Root) (w : ℕ) → length node.pointers ≡ 16 → 16 ≤ w → pointer_at m node node.levels w ≡ absent
pointer_past m node w long h = pointer_top m node w ∙ get_or_past node.pointers w absent (omega arith)

-- so none stands below a second block of a level more
pub none_beside : (m : BlockMap) (node : Root) (j w : ℕ) → length node.pointers ≡ 16 → 16 ≤ per_block m.size → j ≢ 0 → pointer_at m node node.levels (j * per_block m.size + w) ≡ absent
none_beside m node zero w long words other = absurd (other refl)
none_beside m node (suc j) w long words other = pointer_past m node (suc j * per_block m.size + w) long (more j (per_block m.size) words)
  where
    more : (j P : ℕ) → 16 ≤ P → 16 ≤ suc j * P + w
    more j P words = grind arith

-- ---- from below

-- where a pointer is there, so is the one above it, whose block has it as a word
pub record HasAbove (m : BlockMap) (p w q : ℕ) : Type 0 where
  pub there : p ≢ absent
  pub word_is : q ≡ word m p w

-- what the test on the block above leaves
pub if_above : (m : BlockMap) (p w : ℕ) → (if p == absent then absent else word m p w) ≢ absent → HasAbove m p w (if p == absent then absent else word m p w)
if_above m p w there =
    elim (p == absent) as (λ b. (p == absent) ≡ b → (if b then absent else word m p w) ≢ absent → HasAbove m p w (if b then absent else word m p w)) [
      | true ↦ λ e h. absurd (h refl)
      | false ↦ λ e h. record { there = λ is. absurd (cc (e, eq-eqb p absent is)); word_is = refl }
    ] refl there

-- one level up
pub pointer_up : (m : BlockMap) (node : Root) (k i : ℕ) → 0 < per_block m.size → suc k ≤ node.levels → pointer_at m node k i ≢ absent → pointer_at m node (suc k) (i / per_block m.size) ≢ absent
pointer_up m node k i pos h there =
    let P : ℕ = per_block m.size in
    let is : pointer_at m node k i ≡ (if pointer_at m node (suc k) (i / P) == absent then absent else word m (pointer_at m node (suc k) (i / P)) (i % P)) =
    ap (pointer_at m node k) (sym (div-add-mod' i P)) ∙ pointer_step m node k (i / P) (i % P) h (mod-lt i pos) in
    (if_above m (pointer_at m node (suc k) (i / P)) (i % P) (λ e. there (is ∙ e))).there

-- above a leaf that is there stands a pointer at each of the node's levels
pub leaf_up : (m : BlockMap) (node : Root) (k i : ℕ) → 0 < per_block m.size → k ≤ node.levels → pointer_at m node 0 i ≢ absent → pointer_at m node k (i / per_block m.size ^ k) ≢ absent
leaf_up m node zero i pos h there = subst (λ x. pointer_at m node 0 x ≢ absent) (sym (by_one i (per_block m.size))) there
leaf_up m node (suc k) i pos h there =
    let P : ℕ = per_block m.size in
    let up : i / P ^ k / P ≡ i / P ^ suc k = div-div-eq-div-mul i (P ^ k) P ∙ ap (λ q. i / q) (sym (pow-suc P k)) in
    subst (λ x. pointer_at m node (suc k) x ≢ absent) up (pointer_up m node k (i / P ^ k) pos h (leaf_up m node k i pos (omega arith) there))
