-- A leaf that was built, and a pointer block above what was built below its words.
use Rattle.std.proofs.Common.{◌≡◌, ◌≢◌, ℕ, zero, suc, ◌+◌, ◌*◌, ◌-◌, ◌^◌, ◌/◌, ◌%◌, ◌<◌, ◌≤◌, ◌⊎◌, inl, inr, List, ◌++◌, length, length-append, sym, ◌∙◌, ap, subst, arith}
use Rattle.std.specs.Prelude.{Bool, true, ◌==◌, if◌then◌else◌, Contains, sum_by}
use Rattle.std.specs.List.{range_with_len}
use Rattle.std.proofs.Math.Nat.{div-div-eq-div-mul, mod-lt, mul_comm, pow-suc}
use Rattle.std.proofs.lemmas.Bool.{cases_lt}
use Rattle.std.proofs.lemmas.List.Elements.{Contains-append_cases, Contains-append_left}
use Rattle.std.proofs.lemmas.Nat.{div-add-mod', div-mul-add}
use Rattle.qx_geom.specs.Lists.{IsAscending, is_in}
use Rattle.qx_geom.specs.Pointer.{absent, per_block}
use Rattle.qx_geom.specs.Positions.{has_position}
use Rattle.qx_geom.proofs.Members.{in_append_cases, in_left, in_right}
use Rattle.qx_nodes.specs.BlockMap.{BlockMap, with_bytes, word}
use Rattle.qx_nodes.proofs.LeafPaths.{by_one}
use Rattle.qx_nodes.proofs.MetLeaves.{present_ascends}
use Rattle.qx_blocks.specs.BlockState.{BlockState}
use Rattle.qx_ptree.specs.declared.plan.Plan.{Plan}
use Rattle.qx_ptree.specs.Altered.{takes_fresh}
use Rattle.qx_ptree.specs.Alterations.{Alteration, shape_in}
use Rattle.qx_ptree.specs.Building.{Builds, HasOldPosition, IsFreshPosition, IsOldPosition, IsPlaced, LiesUnder, Row, Shows, is_kept, loses_block, new_pointer, one_block, pointer_down}
use Rattle.qx_ptree.specs.Parts.{fresh_below}
use Rattle.qx_ptree.specs.Plans.{alteration_in, planned_pointer}
use Rattle.qx_ptree.specs.Trees.{block_map}
use Rattle.qx_ptree.specs.WorkState.{EditState, WorkState, and_then}
use Rattle.qx_ptree.proofs.BuiltRows.{old_wider, placed_more, planned_apart, shows_part, sum_one}
use Rattle.qx_ptree.proofs.LeafParts.{new-ascends}
use Rattle.qx_ptree.proofs.OwnWork.{IsOwn, IsOwnWork}
use Rattle.qx_ptree.proofs.PartsOfBlocks.{fresh-leaf, fresh-up}
use Rattle.qx_ptree.proofs.PlannedPointers.{IsToldPlan}
use Rattle.qx_ptree.proofs.PointerCounts.{words_positive}
use Rattle.qx_ptree.proofs.SumsBelow.{sum_from}
use Rattle.qx_ptree.proofs.UnderRows.{far_up, own_under, under_own, under_words, words_under}

-- ---- numbers

-- a quotient by a power, one step before
pub div_first : (P d j : ℕ) → j / P / P ^ d ≡ j / P ^ suc d
div_first P d j = div-div-eq-div-mul j P (P ^ d) ∙ ap (λ (q : ℕ). j / q) (mul_comm P (P ^ d) ∙ sym (pow-suc P d))

-- the way down from a pointer goes first by its own word
pub down_first : (m : BlockMap) (d q j : ℕ) → pointer_down m (suc d) q j ≡ pointer_down m d (if q == absent then absent else word m q (j / per_block m.size ^ d % per_block m.size)) j
down_first m zero q j = ap (λ x. if q == absent then absent else word m q (x % per_block m.size)) (sym (by_one j (per_block m.size)))
down_first m (suc d) q j =
    let P : ℕ = per_block m.size in
    ap (λ above. if above == absent then absent else word m above (j % P))
    (down_first m d q (j / P) ∙ ap (λ x. pointer_down m d (if q == absent then absent else word m q (x % P)) (j / P)) (div_first P d j))

-- the leaves that are present after a change ascend
pub altered_ascends : (m : BlockState) (plan : Plan) → IsToldPlan m plan → IsAscending (alteration_in plan m).new.present
altered_ascends m plan p = new-ascends m.holdings.size (shape_in (block_map plan.order m) plan.node) plan.change (present_ascends (block_map plan.order m) plan.node (words_positive m.holdings.size p.consistent.size))

-- an old position that is a block's own
own_old : (m : BlockState) (plan : Plan) (k j b : ℕ) → IsOwn m plan k j b → IsOldPosition m plan (one_block k j) k j b
own_old m plan k j b o = record { under = own_under (per_block m.holdings.size) k j; pointer = o.is; present = o.there }

-- ---- a leaf

module _ (m n : BlockState) (plan : Plan) (p : IsToldPlan m plan) (work : WorkState) (j q : ℕ) (w : IsOwnWork m n plan work 0 j q) where
  -- below a leaf stands the leaf alone
  at_leaf : (Q : ℕ → ℕ → Type 0) → Q 0 j → (k i : ℕ) → LiesUnder (per_block m.holdings.size) (one_block 0 j) k i → Q k i
  at_leaf Q h k i u =
      let at : (k ≡ 0) × (i ≡ j) = under_own (per_block m.holdings.size) 0 j k i u (omega arith) in
      subst (λ x. Q x i) (sym at.0) (subst (λ y. Q 0 y) (sym at.1) h)

  -- the work at a leaf builds it
  pub builds_leaf : Builds m n plan work (one_block 0 j) (λ _. q)
  builds_leaf = record {
    pointers = λ bytes shows. at_leaf (λ k i. IsPlaced m n plan work k i (new_pointer m plan (one_block 0 j) (λ _. q) bytes k i)) w.placed;
    apart = λ bytes shows k i h e f g same.
        let one : (k ≡ 0) × (i ≡ j) = under_own (per_block m.holdings.size) 0 j k i f.under (omega arith) in
        let two : (h ≡ 0) × (e ≡ j) = under_own (per_block m.holdings.size) 0 j h e g.under (omega arith) in
        (one.0 ∙ sym two.0, one.1 ∙ sym two.1);
    count = w.count ∙ sym (fresh-leaf (alteration_in plan m) j (altered_ascends m plan p)) ∙ sym (sum_one (fresh_below (alteration_in plan m) 0) j);
    released = λ k i z old lost.
        at_leaf (λ k i. planned_pointer plan m k i ≡ z → loses_block (alteration_in plan m) k i ≡ true → is_in work.released z ≡ true)
        (λ is e. subst (λ x. is_in work.released x ≡ true) is (w.released (λ none. old.present (sym is ∙ none)) e)) k i old.under old.pointer lost;
    only_lost = λ z s. let r = w.only_lost z s in (0, j, own_old m plan 0 j z r.0, r.1);
    kept = λ k i z old keeps.
        at_leaf (λ k i. planned_pointer plan m k i ≡ z → is_kept (alteration_in plan m) k i ≡ true → is_in work.kept z ≡ true)
        (λ is e. subst (λ x. is_in work.kept x ≡ true) is (w.kept (λ none. old.present (sym is ∙ none)) e)) k i old.under old.pointer keeps;
    only_kept = λ z s. let r = w.only_kept z s in (0, j, own_old m plan 0 j z r.0, r.1);
    edited = λ e s. let r = w.edited e s in (0, j, own_old m plan 0 j e.block r.0, r.1, r.2);
    edit_once = λ e f s t same. w.edit_once e f s t;
  }

-- ---- a pointer block

module _ (m n : BlockState) (plan : Plan) (p : IsToldPlan m plan) (l index q : ℕ) (within : suc l ≤ (alteration_in plan m).new.levels) (w v : WorkState) (tops : ℕ → ℕ)
    (b : Builds m n plan w (record { level = l; first = index * per_block m.holdings.size; count = per_block m.holdings.size }) tops) (c : IsOwnWork m n plan v (suc l) index q)
    (apart : (x : ℕ) → is_in w.fresh x ≡ true → is_in v.fresh x ≡ true → ⊥)
    (words : (bytes : ℕ → List ℕ) → Shows m n plan (and_then w v) (one_block (suc l) index) bytes → (x : ℕ) → x < per_block m.holdings.size
    → (if q == absent then absent else word (with_bytes (block_map plan.order m) bytes) q x) ≡ tops (index * per_block m.holdings.size + x)) where
  abbrev P : ℕ
  P = per_block m.holdings.size

  abbrev a : Alteration
  a = alteration_in plan m

  -- the blocks to which its words lead
  abbrev row : Row
  row = record { level = l; first = index * P; count = P }

  -- the block itself
  abbrev top : Row
  top = one_block (suc l) index

  some : 0 < P
  some = words_positive m.holdings.size p.consistent.size

  -- a position is its own or below its words
  block_cases : (k j : ℕ) → LiesUnder P top k j → ((k ≡ suc l) × (j ≡ index)) ⊎ LiesUnder P row k j
  block_cases k j u = elim (cases_lt k (suc l)) [ inl low ↦ inr (under_words P l index k j some (omega arith) u) | inr high ↦ inl (under_own P (suc l) index k j u high) ]

  -- no position is both
  not_both : (k j : ℕ) → k ≡ suc l → LiesUnder P row k j → ⊥
  not_both k j is u = omega (arith, u.level)

  -- what is shown of all is shown of what lies below
  shows_words : (bytes : ℕ → List ℕ) → Shows m n plan (and_then w v) top bytes → Shows m n plan w row bytes
  shows_words bytes s = shows_part m n plan w (and_then w v) row top bytes (λ q e. in_left w.fresh v.fresh q e) (λ e c. Contains-append_left w.edits v.edits e c) (λ k j u. words_under P l index k j u) s

  -- its own new pointer
  new_own : (bytes : ℕ → List ℕ) (k j : ℕ) → (k ≡ suc l) × (j ≡ index) → new_pointer m plan top (λ _. q) bytes k j ≡ q
  new_own bytes k j at =
      let none : suc l - k ≡ 0 = omega (arith, at.0) in
      ap (λ d. pointer_down (with_bytes (block_map plan.order m) bytes) d q j) none

  -- and those below
  new_below : (bytes : ℕ → List ℕ) (k j : ℕ) → Shows m n plan (and_then w v) top bytes → LiesUnder P row k j → new_pointer m plan top (λ _. q) bytes k j ≡ new_pointer m plan row tops bytes k j
  new_below bytes k j s u =
      let t : BlockMap = with_bytes (block_map plan.order m) bytes in
      let y : ℕ = j / P ^ (l - k) in
      let x : ℕ = y % P in
      let part : ℕ = y - index * P in
      let whole : index * P + part ≡ y = omega (arith, u.from) in
      let up : y / P ≡ index = ap (λ z. z / P) (sym whole) ∙ div-mul-add index P part (omega (arith, u.from, u.to)) in
      let at : index * P + x ≡ y = ap (λ z. z * P + x) (sym up) ∙ div-add-mod' y P in
      ap (λ d. pointer_down t d q j) (far_up l k u.level) ∙ down_first t (l - k) q j
      ∙ ap (λ z. pointer_down t (l - k) z j) (words bytes s x (mod-lt y some) ∙ ap tops at)

  -- a fresh pointer is one of its own work, or of the work below
  fresh_own : (bytes : ℕ → List ℕ) (k j : ℕ) → (k ≡ suc l) × (j ≡ index) → IsFreshPosition m plan top k j → is_in v.fresh (new_pointer m plan top (λ _. q) bytes k j) ≡ true
  fresh_own bytes k j at f =
      subst (λ x. is_in v.fresh x ≡ true) (sym (new_own bytes k j at)) (c.placed.fresh ((λ i. has_position m.holdings.size a.new (sym at.0 i) (sym at.1 i)) ∙ f.there) ((λ i. takes_fresh a (sym at.0 i) (sym at.1 i)) ∙ f.fresh))

  fresh_below_words : (bytes : ℕ → List ℕ) (k j : ℕ) → Shows m n plan (and_then w v) top bytes → LiesUnder P row k j → IsFreshPosition m plan top k j → is_in w.fresh (new_pointer m plan top (λ _. q) bytes k j) ≡ true
  fresh_below_words bytes k j s u f = subst (λ x. is_in w.fresh x ≡ true) (sym (new_below bytes k j s u)) ((b.pointers bytes (shows_words bytes s) k j u).fresh f.there f.fresh)

  -- two fresh pointers
  fresh_apart : (bytes : ℕ → List ℕ) (k j h i : ℕ) → Shows m n plan (and_then w v) top bytes → IsFreshPosition m plan top k j → IsFreshPosition m plan top h i
      → new_pointer m plan top (λ _. q) bytes k j ≡ new_pointer m plan top (λ _. q) bytes h i → (k ≡ h) × (j ≡ i)
  fresh_apart bytes k j h i s f g same = elim (block_cases k j f.under) [
    | inl at ↦ elim (block_cases h i g.under) [
      | inl too ↦ (at.0 ∙ sym too.0, at.1 ∙ sym too.1)
      | inr x ↦ absurd (apart _ (fresh_below_words bytes h i s x g) (subst (λ z. is_in v.fresh z ≡ true) same (fresh_own bytes k j at f)))
    ]
    | inr u ↦ elim (block_cases h i g.under) [
      | inl too ↦ absurd (apart _ (subst (λ z. is_in w.fresh z ≡ true) same (fresh_below_words bytes k j s u f)) (fresh_own bytes h i too g))
      | inr x ↦ b.apart bytes (shows_words bytes s) k j h i (record { under = u; there = f.there; fresh = f.fresh }) (record { under = x; there = g.there; fresh = g.fresh }) (sym (new_below bytes k j s u) ∙ same ∙ new_below bytes h i s x)
    ]
  ]

  -- edits of the two parts
  edits_apart : (e f : EditState) → Contains w.edits e → Contains v.edits f → e.block ≡ f.block → ⊥
  edits_apart e f s t same =
      let x = b.edited e s in
      let y = c.edited f t in
      let is : planned_pointer plan m x.0 x.1 ≡ planned_pointer plan m (suc l) index = x.2.pointer ∙ same ∙ sym y.0.is in
      let at : (x.0 ≡ suc l) × (x.1 ≡ index) = planned_apart m plan x.0 x.1 (suc l) index p (λ e. x.2.present (sym x.2.pointer ∙ e)) is in
      not_both x.0 x.1 at.0 x.2.under

  edits_once : (e f : EditState) → Contains (w.edits ++ v.edits) e → Contains (w.edits ++ v.edits) f → e.block ≡ f.block → e ≡ f
  edits_once e f s t same = elim (Contains-append_cases w.edits v.edits e s) [
    | inl x ↦ elim (Contains-append_cases w.edits v.edits f t) [ inl y ↦ b.edit_once e f x y same | inr y ↦ absurd (edits_apart e f x y same) ]
    | inr x ↦ elim (Contains-append_cases w.edits v.edits f t) [ inl y ↦ absurd (edits_apart f e y x (sym same)) | inr y ↦ c.edit_once e f x y ]
  ]

  -- old positions of its words are below it
  has_words : (test : ℕ → ℕ → Bool) (z : ℕ) → HasOldPosition m plan row test z → HasOldPosition m plan top test z
  has_words test z (k, j, old, passes) = (k, j, old_wider m plan row top k j z (words_under P l index k j) old, passes)

  -- what is noted of the block's own position
  own_noted : (list : List ℕ) (test : ℕ → ℕ → Bool) (k j z : ℕ) → (planned_pointer plan m (suc l) index ≢ absent → test (suc l) index ≡ true → is_in list (planned_pointer plan m (suc l) index) ≡ true)
      → (k ≡ suc l) × (j ≡ index) → IsOldPosition m plan top k j z → test k j ≡ true → is_in list z ≡ true
  own_noted list test k j z own at old passes =
      let is : planned_pointer plan m (suc l) index ≡ z = (λ i. planned_pointer plan m (sym at.0 i) (sym at.1 i)) ∙ old.pointer in
      subst (λ x. is_in list x ≡ true) is (own (λ none. old.present (sym is ∙ none)) ((λ i. test (sym at.0 i) (sym at.1 i)) ∙ passes))

  -- the fresh blocks
  count_all : length (w.fresh ++ v.fresh) ≡ sum_by (fresh_below a (suc l)) (range_with_len index 1)
  count_all =
      length-append w.fresh v.fresh
      ∙ (λ i. (b.count ∙ sum_from (fresh_below a l) (index * P) P) i + c.count i)
      ∙ sym (fresh-up a l index (altered_ascends m plan p) some within) ∙ sym (sum_one (fresh_below a (suc l)) index)

  -- the work below its words and the block's own build it
  pub builds_block : Builds m n plan (and_then w v) top (λ _. q)
  builds_block = record {
    pointers = λ bytes shows k j u. elim (block_cases k j u) [
      | inl at ↦ subst (λ z. IsPlaced m n plan (and_then w v) k j z) (sym (new_own bytes k j at))
          (subst (λ x. IsPlaced m n plan (and_then w v) x j q) (sym at.0) (subst (λ y. IsPlaced m n plan (and_then w v) (suc l) y q) (sym at.1) (placed_more m n plan v (and_then w v) (suc l) index q (λ z e. in_right w.fresh v.fresh z e) c.placed)))
      | inr x ↦ placed_more m n plan w (and_then w v) k j _ (λ z e. in_left w.fresh v.fresh z e) (subst (λ z. IsPlaced m n plan w k j z) (sym (new_below bytes k j shows x)) (b.pointers bytes (shows_words bytes shows) k j x))
    ];
    apart = λ bytes shows k j h i f g same. fresh_apart bytes k j h i shows f g same;
    count = count_all;
    released = λ k j z old lost. elim (block_cases k j old.under) [
      | inl at ↦ in_right w.released v.released z (own_noted v.released (loses_block a) k j z c.released at old lost)
      | inr x ↦ in_left w.released v.released z (b.released k j z (record { under = x; pointer = old.pointer; present = old.present }) lost)
    ];
    only_lost = λ z s. elim (in_append_cases w.released v.released z s) [
      | inl x ↦ has_words (loses_block a) z (b.only_lost z x)
      | inr x ↦ let r = c.only_lost z x in (suc l, index, own_old m plan (suc l) index z r.0, r.1)
    ];
    kept = λ k j z old keeps. elim (block_cases k j old.under) [
      | inl at ↦ in_right w.kept v.kept z (own_noted v.kept (is_kept a) k j z c.kept at old keeps)
      | inr x ↦ in_left w.kept v.kept z (b.kept k j z (record { under = x; pointer = old.pointer; present = old.present }) keeps)
    ];
    only_kept = λ z s. elim (in_append_cases w.kept v.kept z s) [
      | inl x ↦ has_words (is_kept a) z (b.only_kept z x)
      | inr x ↦ let r = c.only_kept z x in (suc l, index, own_old m plan (suc l) index z r.0, r.1)
    ];
    edited = λ e s. elim (Contains-append_cases w.edits v.edits e s) [
      | inl x ↦ let r = b.edited e x in (r.0, r.1, old_wider m plan row top r.0 r.1 e.block (words_under P l index r.0 r.1) r.2, r.3, r.4)
      | inr x ↦ let r = c.edited e x in (suc l, index, own_old m plan (suc l) index e.block r.0, r.1, r.2)
    ];
    edit_once = edits_once;
  }
