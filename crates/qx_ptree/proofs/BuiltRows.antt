-- A row that was built, and one block more of it.
use Rattle.std.proofs.Common.{◌≡◌, ◌≢◌, ℕ, zero, suc, ◌+◌, ◌-◌, ◌^◌, ◌/◌, ◌<◌, ◌≤◌, inl, inr, List, [], ◌++◌, length-append, refl, sym, ◌∙◌, ap, subst, arith}
use Rattle.std.specs.Prelude.{Bool, true, Contains, sum_by}
use Rattle.std.specs.List.{range_with_len}
use Rattle.std.proofs.lemmas.List.Elements.{Contains-append_cases, Contains-append_left, Contains-append_right}
use Rattle.std.proofs.lemmas.List.Sums.{sum_by-cons}
use Rattle.std.proofs.Math.Numerals.{add-one}
use Rattle.qx_geom.specs.Lists.{is_in}
use Rattle.qx_geom.specs.Pointer.{absent, per_block}
use Rattle.qx_geom.proofs.Members.{in_append_cases, in_left, in_right}
use Rattle.qx_nodes.specs.BlockMap.{BlockMap, with_bytes}
use Rattle.qx_nodes.specs.Visits.{Visit}
use Rattle.qx_blocks.specs.BlockState.{BlockState}
use Rattle.qx_ptree.specs.declared.plan.Plan.{Plan}
use Rattle.qx_ptree.specs.Building.{Builds, HasOldPosition, IsFreshPosition, IsOldPosition, IsPlaced, LiesUnder, Row, Shows, new_pointer, one_block, pointer_down}
use Rattle.qx_ptree.specs.Parts.{fresh_below}
use Rattle.qx_ptree.specs.Plans.{alteration_in, planned_pointer}
use Rattle.qx_ptree.specs.Trees.{block_map}
use Rattle.qx_ptree.specs.WorkState.{EditState, WorkState, and_then, no_work}
use Rattle.qx_ptree.proofs.MetPositions.{pointer_met}
use Rattle.qx_ptree.proofs.PlannedPointers.{IsToldPlan, planned_whole}
use Rattle.qx_ptree.proofs.PointersByPosition.{at_above}
use Rattle.qx_ptree.proofs.UnderRows.{none_under, row_before, row_last, row_more}
use Rattle.std.proofs.lemmas.Bool.{cases_lt}

-- ---- numbers

-- a sum over one number more
pub sum_more : (f : ℕ → ℕ) (a n : ℕ) → sum_by f (range_with_len a (n + 1)) ≡ sum_by f (range_with_len a n) + f (a + n)
sum_more f a n = ap (λ k. sum_by f (range_with_len a k)) (add-one n) ∙ go a n
  where
    go : (a n : ℕ) → sum_by f (range_with_len a (suc n)) ≡ sum_by f (range_with_len a n) + f (a + n)
    go a zero = let e : f a ≡ f (a + 0) = ap f (omega arith) in sum_by-cons f a [] ∙ omega arith
    go a (suc n) =
        sum_by-cons f a (range_with_len (a + 1) (suc n)) ∙ ap (λ s. f a + s) (go (a + 1) n)
        ∙ (let next : f (a + 1 + n) ≡ f (a + suc n) = ap f (omega arith) in omega (arith, sum_by-cons f a (range_with_len (a + 1) n)))

-- over one number it is what that one gives
pub sum_one : (f : ℕ → ℕ) (a : ℕ) → sum_by f (range_with_len a 1) ≡ f a
sum_one f a = sum_by-cons f a [] ∙ omega arith

-- ---- positions of a plan's node

-- no block stands at two of its positions
pub planned_apart : (m : BlockState) (plan : Plan) (k j h i : ℕ) → IsToldPlan m plan → planned_pointer plan m k j ≢ absent → planned_pointer plan m k j ≡ planned_pointer plan m h i → (k ≡ h) × (j ≡ i)
planned_apart m plan k j h i p there same =
    let t : BlockMap = block_map plan.order m in
    let other : planned_pointer plan m h i ≢ absent = λ e. there (same ∙ e) in
    let low : (k j : ℕ) → planned_pointer plan m k j ≢ absent → k ≤ plan.node.levels = λ k j e. elim (cases_lt plan.node.levels k) [ inl above ↦ absurd (e (at_above t plan.node k j above)) | inr h ↦ h ] in
    let is : record { level = k; index = j; block = planned_pointer plan m k j } ≡ record { level = h; index = i; block = planned_pointer plan m h i } =
    (p.met.node.regular p.told).apart _ _ (pointer_met t plan.node k j (planned_whole m plan p) (low k j there) there) (pointer_met t plan.node h i (planned_whole m plan p) (low h i other) other) same in
    (ap (λ (v : Visit). v.level) is, ap (λ (v : Visit). v.index) is)

-- ---- rows

-- no block at all
pub builds_none : (m n : BlockState) (plan : Plan) (row : Row) (tops : ℕ → ℕ) → row.count ≡ 0 → Builds m n plan no_work row tops
builds_none m n plan row tops none = record {
  pointers = λ bytes shows k j u. absurd (none_under _ row k j none u);
  apart = λ bytes shows k j h i a d same. absurd (none_under _ row k j none a.under);
  count = let e : 0 ≡ sum_by (fresh_below (alteration_in plan m) row.level) (range_with_len row.first 0) = refl in e ∙ ap (λ c. sum_by (fresh_below (alteration_in plan m) row.level) (range_with_len row.first c)) (sym none);
  released = λ k j q old lost. absurd (none_under _ row k j none old.under);
  only_lost = λ q s. absurd (cc);
  kept = λ k j q old keeps. absurd (none_under _ row k j none old.under);
  only_kept = λ q s. absurd (cc);
  edited = λ e s. absurd (omega (arith, s.1));
  edit_once = λ e f s t same. absurd (omega (arith, s.1));
}

-- the new pointers below a row, by those of its blocks
pub tops_alike : (m : BlockState) (plan : Plan) (one other : Row) (tops more : ℕ → ℕ) (bytes : ℕ → List ℕ) (k j : ℕ) → one.level ≡ other.level
    → tops (j / per_block m.holdings.size ^ (one.level - k)) ≡ more (j / per_block m.holdings.size ^ (one.level - k)) → new_pointer m plan one tops bytes k j ≡ new_pointer m plan other more bytes k j
tops_alike m plan one other tops more bytes k j same is =
    ap (λ q. pointer_down (with_bytes (block_map plan.order m) bytes) (one.level - k) q j) is
    ∙ (λ i. pointer_down (with_bytes (block_map plan.order m) bytes) (same i - k) (more (j / per_block m.holdings.size ^ (same i - k))) j)

-- a position of a part is one of the whole
pub old_wider : (m : BlockState) (plan : Plan) (one other : Row) (k j q : ℕ) → (LiesUnder (per_block m.holdings.size) one k j → LiesUnder (per_block m.holdings.size) other k j) → IsOldPosition m plan one k j q → IsOldPosition m plan other k j q
old_wider m plan one other k j q wider old = record { under = wider old.under; pointer = old.pointer; present = old.present }

-- what is shown of more is shown of less
pub shows_part : (m n : BlockState) (plan : Plan) (work all : WorkState) (part row : Row) (bytes : ℕ → List ℕ)
    → ((q : ℕ) → is_in work.fresh q ≡ true → is_in all.fresh q ≡ true) → ((e : EditState) → Contains work.edits e → Contains all.edits e)
    → ((k j : ℕ) → LiesUnder (per_block m.holdings.size) part k j → LiesUnder (per_block m.holdings.size) row k j)
    → Shows m n plan all row bytes → Shows m n plan work part bytes
shows_part m n plan work all part row bytes fresh edits under s = record { fresh = λ q e. s.fresh q (fresh q e); edits = λ e c. s.edits e (edits e c); others = λ k j u up old. s.others k j (under k j u) up old }

-- a pointer that is placed by some work is by more
pub placed_more : (m n : BlockState) (plan : Plan) (work all : WorkState) (k j q : ℕ) → ((q : ℕ) → is_in work.fresh q ≡ true → is_in all.fresh q ≡ true) → IsPlaced m n plan work k j q → IsPlaced m n plan all k j q
placed_more m n plan work all k j q fresh s = record { none = s.none; stays = s.stays; fresh = λ e f. fresh q (s.fresh e f); bytes = s.bytes }

-- a row with one block more
module _ (m n : BlockState) (plan : Plan) (p : IsToldPlan m plan) (w v : WorkState) (level first count : ℕ) (tops more : ℕ → ℕ) (q : ℕ)
    (alike : (j : ℕ) → first ≤ j → j < first + count → more j ≡ tops j) (last : more (first + count) ≡ q)
    (apart : (b : ℕ) → is_in w.fresh b ≡ true → is_in v.fresh b ≡ true → ⊥)
    (b : Builds m n plan w (record { level = level; first = first; count = count }) tops) (c : Builds m n plan v (one_block level (first + count)) (λ _. q)) where
  abbrev P : ℕ
  P = per_block m.holdings.size

  abbrev before : Row
  before = record { level = level; first = first; count = count }

  abbrev whole : Row
  whole = record { level = level; first = first; count = count + 1 }

  -- what is shown of the whole is shown of the blocks before and of the last one
  shows_before : (bytes : ℕ → List ℕ) → Shows m n plan (and_then w v) whole bytes → Shows m n plan w before bytes
  shows_before bytes s = shows_part m n plan w (and_then w v) before whole bytes (λ q e. in_left w.fresh v.fresh q e) (λ e c. Contains-append_left w.edits v.edits e c) (λ k j u. row_before P level first count k j u) s

  shows_last : (bytes : ℕ → List ℕ) → Shows m n plan (and_then w v) whole bytes → Shows m n plan v (one_block level (first + count)) bytes
  shows_last bytes s = shows_part m n plan v (and_then w v) (one_block level (first + count)) whole bytes (λ q e. in_right w.fresh v.fresh q e) (λ e c. Contains-append_right w.edits v.edits e c) (λ k j u. row_last P level first count k j u) s

  -- the new pointers
  new_before : (bytes : ℕ → List ℕ) (k j : ℕ) → LiesUnder P before k j → new_pointer m plan before tops bytes k j ≡ new_pointer m plan whole more bytes k j
  new_before bytes k j u = tops_alike m plan before whole tops more bytes k j refl (sym (alike (j / P ^ (level - k)) u.from u.to))

  new_last : (bytes : ℕ → List ℕ) (k j : ℕ) → LiesUnder P (one_block level (first + count)) k j → new_pointer m plan (one_block level (first + count)) (λ _. q) bytes k j ≡ new_pointer m plan whole more bytes k j
  new_last bytes k j u =
      let at : j / P ^ (level - k) ≡ first + count = omega (arith, u.from, u.to) in
      tops_alike m plan (one_block level (first + count)) whole (λ _. q) more bytes k j refl (sym (ap more at ∙ last))

  -- a fresh pointer
  fresh_before : (bytes : ℕ → List ℕ) (k j : ℕ) → Shows m n plan (and_then w v) whole bytes → LiesUnder P before k j → IsFreshPosition m plan whole k j → is_in w.fresh (new_pointer m plan whole more bytes k j) ≡ true
  fresh_before bytes k j s u f = subst (λ x. is_in w.fresh x ≡ true) (new_before bytes k j u) ((b.pointers bytes (shows_before bytes s) k j u).fresh f.there f.fresh)

  fresh_last : (bytes : ℕ → List ℕ) (k j : ℕ) → Shows m n plan (and_then w v) whole bytes → LiesUnder P (one_block level (first + count)) k j → IsFreshPosition m plan whole k j → is_in v.fresh (new_pointer m plan whole more bytes k j) ≡ true
  fresh_last bytes k j s u f = subst (λ x. is_in v.fresh x ≡ true) (new_last bytes k j u) ((c.pointers bytes (shows_last bytes s) k j u).fresh f.there f.fresh)

  -- two fresh pointers
  fresh_apart : (bytes : ℕ → List ℕ) (k j h i : ℕ) → Shows m n plan (and_then w v) whole bytes → IsFreshPosition m plan whole k j → IsFreshPosition m plan whole h i
      → new_pointer m plan whole more bytes k j ≡ new_pointer m plan whole more bytes h i → (k ≡ h) × (j ≡ i)
  fresh_apart bytes k j h i s f g same = elim (row_more P level first count k j f.under) [
    | inl u ↦ elim (row_more P level first count h i g.under) [
      | inl x ↦ b.apart bytes (shows_before bytes s) k j h i (record { under = u; there = f.there; fresh = f.fresh }) (record { under = x; there = g.there; fresh = g.fresh }) (new_before bytes k j u ∙ same ∙ sym (new_before bytes h i x))
      | inr x ↦ absurd (apart _ (subst (λ z. is_in w.fresh z ≡ true) same (fresh_before bytes k j s u f)) (fresh_last bytes h i s x g))
    ]
    | inr u ↦ elim (row_more P level first count h i g.under) [
      | inl x ↦ absurd (apart _ (fresh_before bytes h i s x g) (subst (λ z. is_in v.fresh z ≡ true) same (fresh_last bytes k j s u f)))
      | inr x ↦ c.apart bytes (shows_last bytes s) k j h i (record { under = u; there = f.there; fresh = f.fresh }) (record { under = x; there = g.there; fresh = g.fresh }) (new_last bytes k j u ∙ same ∙ sym (new_last bytes h i x))
    ]
  ]

  -- blocks of the two parts differ
  edits_apart : (e f : EditState) → Contains w.edits e → Contains v.edits f → e.block ≡ f.block → ⊥
  edits_apart e f s t same =
      let x = b.edited e s in
      let y = c.edited f t in
      let is : planned_pointer plan m x.0 x.1 ≡ planned_pointer plan m y.0 y.1 = x.2.pointer ∙ same ∙ sym y.2.pointer in
      let at : (x.0 ≡ y.0) × (x.1 ≡ y.1) = planned_apart m plan x.0 x.1 y.0 y.1 p (λ e. x.2.present (sym x.2.pointer ∙ e)) is in
      let one : x.1 / P ^ (level - x.0) ≡ y.1 / P ^ (level - y.0) = λ i. at.1 i / P ^ (level - at.0 i) in
      omega (arith, x.2.under.to, y.2.under.from)

  edits_once : (e f : EditState) → Contains (w.edits ++ v.edits) e → Contains (w.edits ++ v.edits) f → e.block ≡ f.block → e ≡ f
  edits_once e f s t same = elim (Contains-append_cases w.edits v.edits e s) [
    | inl x ↦ elim (Contains-append_cases w.edits v.edits f t) [ inl y ↦ b.edit_once e f x y same | inr y ↦ absurd (edits_apart e f x y same) ]
    | inr x ↦ elim (Contains-append_cases w.edits v.edits f t) [ inl y ↦ absurd (edits_apart f e y x (sym same)) | inr y ↦ c.edit_once e f x y same ]
  ]

  -- positions of the whole
  has_before : (test : ℕ → ℕ → Bool) (z : ℕ) → HasOldPosition m plan before test z → HasOldPosition m plan whole test z
  has_before test z (k, j, old, passes) = (k, j, old_wider m plan before whole k j z (row_before P level first count k j) old, passes)

  has_last : (test : ℕ → ℕ → Bool) (z : ℕ) → HasOldPosition m plan (one_block level (first + count)) test z → HasOldPosition m plan whole test z
  has_last test z (k, j, old, passes) = (k, j, old_wider m plan (one_block level (first + count)) whole k j z (row_last P level first count k j) old, passes)

  -- what was built of the row, and of one block more
  pub builds_more : Builds m n plan (and_then w v) whole more
  builds_more = record {
    pointers = λ bytes shows k j u. elim (row_more P level first count k j u) [
      | inl x ↦ placed_more m n plan w (and_then w v) k j _ (λ z e. in_left w.fresh v.fresh z e) (subst (λ z. IsPlaced m n plan w k j z) (new_before bytes k j x) (b.pointers bytes (shows_before bytes shows) k j x))
      | inr x ↦ placed_more m n plan v (and_then w v) k j _ (λ z e. in_right w.fresh v.fresh z e) (subst (λ z. IsPlaced m n plan v k j z) (new_last bytes k j x) (c.pointers bytes (shows_last bytes shows) k j x))
    ];
    apart = λ bytes shows k j h i f g same. fresh_apart bytes k j h i shows f g same;
    count = let f = fresh_below (alteration_in plan m) level in
        length-append w.fresh v.fresh ∙ (λ i. b.count i + (c.count ∙ sum_one f (first + count)) i) ∙ sym (sum_more f first count);
    released = λ k j z old lost. elim (row_more P level first count k j old.under) [
      | inl x ↦ in_left w.released v.released z (b.released k j z (record { under = x; pointer = old.pointer; present = old.present }) lost)
      | inr x ↦ in_right w.released v.released z (c.released k j z (record { under = x; pointer = old.pointer; present = old.present }) lost)
    ];
    only_lost = λ z s. elim (in_append_cases w.released v.released z s) [ inl x ↦ has_before _ z (b.only_lost z x) | inr x ↦ has_last _ z (c.only_lost z x) ];
    kept = λ k j z old keeps. elim (row_more P level first count k j old.under) [
      | inl x ↦ in_left w.kept v.kept z (b.kept k j z (record { under = x; pointer = old.pointer; present = old.present }) keeps)
      | inr x ↦ in_right w.kept v.kept z (c.kept k j z (record { under = x; pointer = old.pointer; present = old.present }) keeps)
    ];
    only_kept = λ z s. elim (in_append_cases w.kept v.kept z s) [ inl x ↦ has_before _ z (b.only_kept z x) | inr x ↦ has_last _ z (c.only_kept z x) ];
    edited = λ e s. elim (Contains-append_cases w.edits v.edits e s) [
      | inl x ↦ let r = b.edited e x in (r.0, r.1, old_wider m plan before whole r.0 r.1 e.block (row_before P level first count r.0 r.1) r.2, r.3, r.4)
      | inr x ↦ let r = c.edited e x in (r.0, r.1, old_wider m plan (one_block level (first + count)) whole r.0 r.1 e.block (row_last P level first count r.0 r.1) r.2, r.3, r.4)
    ];
    edit_once = edits_once;
  }
