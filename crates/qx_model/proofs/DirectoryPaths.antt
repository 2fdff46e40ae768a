-- A directory that doesn't lie below n is reached without n: its way up ends at the root before the walk up does.
use Rattle.std.proofs.Common.{◌≡◌, ℕ, zero, suc, ◌≤◌, inl, inr, List, [], ◌∷◌, length, refl, sym, ap, ◌∙◌, subst, arith}
use Rattle.std.specs.Prelude.{◌≢◌, true, false, Some, None, nat_eq}
use Rattle.std.specs.List.{range_with_len}
use Rattle.std.proofs.lemmas.Bool.{eq-eqb}
use Rattle.std.proofs.lemmas.List.FromFn.{length-range_with_len}
use Rattle.qx_geom.proofs.ImagesAndFilters.{in_Contains}
use Rattle.qx_geom.proofs.Members.{in_cases}
use Rattle.qx_geom.proofs.Truths.{not_so, or_left, or_right, true_or_false}
use Rattle.qx_geom.specs.Lists.{is_in}
use Rattle.qx_model.specs.Tree.{Slot, Tree, named_by}
use Rattle.qx_model.specs.Rooted.{IsRooted}
use Rattle.qx_model.specs.Space.{different_count}
use Rattle.qx_model.specs.Directories.{directories_above, is_within, parent_of}
use Rattle.qx_model.proofs.Outlines.{Absent, Dir, IsDir, IsRootedIn, NamesIn, Outline, Plain, ReachedIn, first, more, outline_live, outline_of, slots_in, to_rooted}
use Rattle.qx_model.proofs.AddedRows.{naming_live}
use Rattle.qx_model.proofs.MovedRows.{ReachedPast, begin, beyond}
use Rattle.qx_model.proofs.EditOutlines.{directory_parent, live_place, outline_directory}
use Rattle.qx_model.proofs.DifferentNumbers.{counted, different_bounded, fewer_different}
use Rattle.qx_model.proofs.ListMembers.{Contains-range}

-- ---- ways down

module _ (o : ℕ → Outline) (r : IsRootedIn o) where
  -- what names something is a directory
  naming_dir : (b k m : ℕ) → NamesIn o b k m → (p : ℕ) × IsDir o b p
  naming_dir b k m names = go (o b) refl names
    where
      go : (x : Outline) → o b ≡ x → named_by (slots_in x k) ≡ Some m → (p : ℕ) × IsDir o b p
      go Absent is h = absurd (cc)
      go Plain is h = absurd (cc)
      go (Dir slots p) is h = (p, record { slots = slots; is = is })

  -- how many inodes a way down passes, both ends counted
  size : {m : ℕ} → ReachedIn o m → ℕ
  size first = 1
  size (more k h names) = suc (size h)

  -- they
  passed : {m : ℕ} → ReachedIn o m → List ℕ
  passed {m} first = 1 ∷ []
  passed (more {c} {m} k h names) = m ∷ passed h

  length-passed : {m : ℕ} (h : ReachedIn o m) → length (passed h) ≡ size h
  unfolding size passed
  length-passed first = refl
  length-passed (more k h names) = ap suc (length-passed h)

  -- ways to one directory are as long
  same_size : {x y : ℕ} → x ≡ y → (h : ReachedIn o x) (g : ReachedIn o y) (p : ℕ) → IsDir o x p → size h ≡ size g
  unfolding size
  same_size e first first p dir = refl
  same_size e first (more {c} {m} k g names) p dir = absurd (r.no_top c k (subst (λ z. NamesIn o c k z) (sym e) names))
  same_size e (more {c} {m} k h names) first p dir = absurd (r.no_top c k (subst (λ z. NamesIn o c k z) e names))
  same_size {x} e (more {c} {m} k h names) (more {c = b} {m = q} l g others) p dir =
      let one = r.once c k b l x p names (subst (λ z. NamesIn o b l z) (sym e) others) dir in
      let d = naming_dir c k x names in
      ap suc (same_size one.0 h g d.0 d.1)

  -- each inode that is passed has a way of its own, no longer
  own_way : {m : ℕ} (h : ReachedIn o m) (x : ℕ) → is_in (passed h) x ≡ true → (g : ReachedIn o x) × (size g ≤ size h)
  unfolding size passed
  own_way first x e = elim (in_cases 1 x [] e) [ inl is ↦ subst (λ z. (g : ReachedIn o z) × (size g ≤ 1)) is (first, omega arith) | inr none ↦ absurd (cc) ]
  own_way (more {c} {m} k h names) x e = elim (in_cases m x (passed h) e) [
    | inl is ↦ subst (λ z. (g : ReachedIn o z) × (size g ≤ suc (size h))) is (more k h names, omega arith)
    | inr later ↦ let w = own_way h x later in (w.0, omega (arith, w.1))
  ]

  -- a way to a directory passes no inode twice
  all_differ : {m : ℕ} (h : ReachedIn o m) (p : ℕ) → IsDir o m p → different_count (passed h) ≡ size h
  unfolding size passed
  all_differ first p dir = refl
  all_differ (more {c} {m} k h names) p dir =
      let d = naming_dir c k m names in
      let alone : is_in (passed h) m ≡ false = not_so (is_in (passed h) m) (λ again. once_more again) in
      omega (arith, counted false m (passed h) alone, all_differ h d.0 d.1)
    where
      once_more : is_in (passed h) m ≡ true → ⊥
      once_more again =
          let w = own_way h m again in
          let same : suc (size h) ≡ size w.0 = same_size refl (more k h names) w.0 p dir in
          omega (arith, same, w.1)

  -- so it is no longer than there are inodes
  way_bounded : (n : ℕ) → ((x : ℕ) → o x ≢ Absent → is_in (range_with_len 1 n) x ≡ true) → {m : ℕ} (h : ReachedIn o m) (p : ℕ) → IsDir o m p → size h ≤ n
  way_bounded n within h p dir =
      omega (arith, all_differ h p dir, fewer_different (passed h) (range_with_len 1 n) (λ x e. (let w = own_way h x e in within x (r.closed x w.0))), different_bounded (range_with_len 1 n), length-range_with_len 1 n)

-- ---- the way up

module _ (t : Tree) (rooted : IsRooted t) (n : ℕ) where
  abbrev r : IsRootedIn (outline_of t)
  r = to_rooted t rooted

  -- a live inode is within the table
  within_table : (x : ℕ) → outline_of t x ≢ Absent → is_in (range_with_len 1 (length t.inodes)) x ≡ true
  within_table x live =
      let e = outline_live t x live in
      let place = live_place t x e.0 e.1 in
      let is : x ≡ suc place.index = place.is in
      in_Contains (range_with_len 1 (length t.inodes)) x (Contains-range 1 (length t.inodes) x (omega (arith, is)) (omega (arith, is, place.within)))

  -- the parent of a directory
  up_is : (c p : ℕ) → IsDir (outline_of t) c p → parent_of t c ≡ Some p
  up_is c p dir = let h = outline_directory t c dir.slots p dir.is in directory_parent t c h.0 ∙ ap (λ x. Some x) h.1

  -- where the walk up has steps enough and doesn't meet n, the directory is reached without n
  goes_past : {c : ℕ} (h : ReachedIn (outline_of t) c) (fuel : ℕ) → size (outline_of t) r h ≤ fuel → (p : ℕ) → IsDir (outline_of t) c p → is_in (directories_above t fuel c) n ≡ false → ReachedPast (outline_of t) n c
  unfolding size
  goes_past first zero le p dir none = absurd (omega arith)
  goes_past first (suc fuel) le p dir none = begin (λ e. true_or_false (nat_eq 1 n) (eq-eqb 1 n e) (or_left (nat_eq 1 n) _ none))
  goes_past (more k h names) zero le p dir none = absurd (omega arith)
  goes_past (more {c} {m} k h names) (suc fuel) le p dir none =
      let up = r.parent m p dir (λ e. r.no_top c k (subst (λ z. NamesIn (outline_of t) c k z) e names)) in
      let one = r.once c k p up.0 m p names up.1 dir in
      let d = naming_dir (outline_of t) r c k m names in
      let here = or_left (nat_eq m n) _ none in
      let above : is_in (directories_above t fuel p) n ≡ false =
      subst (λ x. is_in (elim x [ Some q ↦ directories_above t fuel q | None ↦ [] ]) n ≡ false) (up_is m p dir) (or_right (nat_eq m n) _ none) in
      beyond k (goes_past h fuel (omega arith) d.0 d.1 (subst (λ z. is_in (directories_above t fuel z) n ≡ false) (sym one.0) above)) names
      (λ e. true_or_false (nat_eq m n) (eq-eqb m n e) here)

  -- a directory that isn't within n is reached without n
  pub reached_past : (c p : ℕ) → IsDir (outline_of t) c p → is_within t n c ≡ false → ReachedPast (outline_of t) n c
  reached_past c p dir none =
      let h = r.reached c (λ gone. (let clash : Dir dir.slots p ≡ Absent = sym dir.is ∙ gone in no_dir dir.slots p clash)) in
      goes_past h (length t.inodes) (way_bounded (outline_of t) r (length t.inodes) within_table h p dir) p dir none
    where
      no_dir : (f : ℕ → Slot) (q : ℕ) → Dir f q ≡ Absent → ⊥
      no_dir f q h = cc

-- what is reached without n isn't n
pub past_differs : (o : ℕ → Outline) (n m : ℕ) → ReachedPast o n m → m ≢ n
past_differs o n m (begin ne) = ne
past_differs o n m (beyond k h names ne) = ne

-- no directory names itself
pub no_self : (o : ℕ → Outline) → IsRootedIn o → (n k p : ℕ) → IsDir o n p → NamesIn o n k n → ⊥
unfolding size
no_self o r n k p dir names =
    let h = r.reached n (naming_live o n k n names) in
    longer h
  where
    longer : ReachedIn o n → ⊥
    longer h = let same = same_size o r refl (more k h names) h p dir in suc_clash (size o r h) same
      where
        suc_clash : (x : ℕ) → suc x ≡ x → ⊥
        suc_clash x e = omega (arith, e)

-- past an inode that names nothing all others are reached
pub past_silent : (o : ℕ → Outline) → (n : ℕ) → 1 ≢ n → ((k m : ℕ) → NamesIn o n k m → ⊥) → {m : ℕ} → ReachedIn o m → m ≢ n → ReachedPast o n m
past_silent o n top silent first ne = begin ne
past_silent o n top silent (more {c} {m} k h names) ne = beyond k (past_silent o n top silent h (λ e. silent k m (subst (λ z. NamesIn o z k m) e names))) names ne
