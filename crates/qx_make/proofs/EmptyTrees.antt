-- The tree of a new volume by itself: its one directory names nothing.
use Rattle.std.proofs.Common.{◌≡◌, ℕ, inl, inr, ◌⊎◌, zero, suc, ◌-◌, ◌/◌, ◌≤◌, List, [], ◌∷◌, refl, ap, sym, ◌∙◌, subst, arith, length, Option, Some, None}
use Rattle.std.specs.Prelude.{replicate, slice_get}
use Rattle.std.specs.Option.{option_flatten}
use Rattle.std.proofs.lemmas.List.{length-replicate}
use Rattle.qx_model.specs.EmptyTree.{empty_tree, new_directory}
use Rattle.qx_model.specs.Tree.{Directory, Entry, Unused, IsDirectory, NamesAt, Reached, Row, Slot, Tree, entry_of, named_by, slots_of, slots_of_entry, top, down}
use Rattle.qx_model.specs.Rooted.{AreRows, IsRooted, is_plain}

-- ---- lists of one element

-- an element of such a list is that one
replicate_get : {A : Type 0} (n k : ℕ) (a x : A) → slice_get (replicate n a) k ≡ Some x → x ≡ a
replicate_get zero k a x e = absurd (cc)
replicate_get (suc n) zero a x e = cc
replicate_get (suc n) (suc k) a x e = replicate_get n k a x e

-- a free place
abbrev no_entry : Option Entry
no_entry = None

-- no inode is live among places that are free
none_live : (n k : ℕ) → option_flatten (slice_get (replicate n no_entry) k) ≡ None
none_live zero k = refl
none_live (suc n) zero = refl
none_live (suc n) (suc k) = none_live n k

module _ (blocksize num_inodes moment : ℕ) where
  -- the tree
  abbrev t : Tree
  t = empty_tree blocksize num_inodes moment

  -- its one entry
  abbrev pub root_entry : Entry
  root_entry = new_directory blocksize 1 1 moment

  -- the entry's slots
  abbrev root_slots : List Slot
  root_slots = Row 1 (46 ∷ []) None ∷ Row 1 (46 ∷ 46 ∷ []) None ∷ replicate (blocksize / 32 - 2) Unused

  -- inode 1 is the directory
  pub entry_top : entry_of t 1 ≡ Some root_entry
  unfolding empty_tree
  entry_top = refl

  -- no other inode is live
  pub entry_cases : (n : ℕ) → (n ≡ 1) ⊎ (entry_of t n ≡ None)
  unfolding empty_tree
  entry_cases zero = inr refl
  entry_cases (suc zero) = inl refl
  entry_cases (suc (suc k)) = inr (none_live (num_inodes - 1) k)

  -- so an entry is that one
  pub only_entry : (n : ℕ) (e : Entry) → entry_of t n ≡ Some e → (n ≡ 1) × (e ≡ root_entry)
  only_entry n e is = elim (entry_cases n) [
    | inl one ↦ (one, let here : entry_of t n ≡ Some root_entry = ap (λ k. entry_of t k) one ∙ entry_top in cc)
    | inr none ↦ absurd (cc)
  ]

  -- ---- slots

  -- a row of the directory is one of two
  row_cases : (k n : ℕ) (name : List ℕ) (long : Option ℕ) → slice_get root_slots k ≡ Some (Row n name long) → (n ≡ 1) × (((k ≡ 0) × (name ≡ 46 ∷ [])) ⊎ ((k ≡ 1) × (name ≡ 46 ∷ 46 ∷ [])))
  row_cases zero n name long e = (cc, inl (refl, cc))
  row_cases (suc zero) n name long e = (cc, inr (refl, cc))
  row_cases (suc (suc k)) n name long e = let free : Row n name long ≡ Unused = replicate_get (blocksize / 32 - 2) k Unused (Row n name long) e in absurd (cc)

  -- no slot of it names an inode but by `.` or `..`
  none_names : (k n : ℕ) (s : Slot) → slice_get root_slots k ≡ Some s → named_by s ≡ Some n → ⊥
  none_names zero n s e names = let is : s ≡ Row 1 (46 ∷ []) None = cc in let none : None ≡ Some n = ap named_by (sym is) ∙ names in cc
  none_names (suc zero) n s e names = let is : s ≡ Row 1 (46 ∷ 46 ∷ []) None = cc in let none : None ≡ Some n = ap named_by (sym is) ∙ names in cc
  none_names (suc (suc k)) n s e names = let is : s ≡ Unused = replicate_get (blocksize / 32 - 2) k Unused s e in let none : None ≡ Some n = ap named_by (sym is) ∙ names in cc

  -- so no directory does
  pub names_nothing : (d k n : ℕ) → NamesAt t d k n → ⊥
  names_nothing d k n at = elim (entry_cases d) [
    | inl one ↦
        let slots : slots_of t d ≡ root_slots = ap (λ i. slots_of_entry (entry_of t i)) one ∙ ap slots_of_entry entry_top in
        none_names k n at.0 (ap (λ l. slice_get l k) (sym slots) ∙ at.1) at.2
    | inr none ↦ let slots : slots_of t d ≡ [] = ap slots_of_entry none in let gone : None ≡ Some at.0 = ap (λ (l : List Slot). slice_get l k) (sym slots) ∙ at.1 in cc
  ]

  -- what is reached is inode 1
  pub reached_one : (n : ℕ) → Reached t n → n ≡ 1
  reached_one n top = refl
  reached_one n (down {d = d} r names) = absurd (names_nothing d names.0 n names.1)

  -- a directory is inode 1, which is its own parent
  pub directory_one : (d p : ℕ) → IsDirectory t d p → (d ≡ 1) × (p ≡ 1)
  directory_one d p (e, slots, is, body) =
      let only : (d ≡ 1) × (e ≡ root_entry) = only_entry d e is in
      let own : Directory root_slots 1 ≡ Directory slots p = ap (λ (x : Entry). x.body) (sym only.1) ∙ body in
      (only.0, cc)

  -- its rows are as they must be
  rows_are : AreRows 1 1 root_slots
  rows_are = record {
    plain = λ k n name long e. elim (row_cases k n name long e).1 [
      | inl dot ↦ ap is_plain dot.1
      | inr dots ↦ ap is_plain dots.1
    ];
    differ = λ k j n i name a b e f. elim (row_cases k n name a e).1 [
      | inl one ↦ elim (row_cases j i name b f).1 [ inl other ↦ one.0 ∙ sym other.0 | inr other ↦ absurd (cc) ]
      | inr one ↦ elim (row_cases j i name b f).1 [ inl other ↦ absurd (cc) | inr other ↦ one.0 ∙ sym other.0 ]
    ];
    dot = λ k n long e. (row_cases k n (46 ∷ []) long e).0;
    dots = λ k n long e. (row_cases k n (46 ∷ 46 ∷ []) long e).0;
  }

  -- the tree is one
  pub empty_rooted : IsRooted t
  empty_rooted = record {
    reached = λ n e is. subst (λ k. Reached t k) (sym (only_entry n e is).0) top;
    closed = λ n r. (root_entry, ap (λ k. entry_of t k) (reached_one n r) ∙ entry_top);
    top = (root_entry, root_slots, entry_top, refl);
    parent = λ d p is other. absurd (other (directory_one d p is).0);
    no_top = λ d names. names_nothing d names.0 1 names.1;
    once = λ d k c j n p a b is. absurd (names_nothing d k n a);
    rows = λ d p is.
        let one : (d ≡ 1) × (p ≡ 1) = directory_one d p is in
        let slots : slots_of t d ≡ root_slots = ap (λ i. slots_of_entry (entry_of t i)) one.0 ∙ ap slots_of_entry entry_top in
        subst (λ l. AreRows d p l) (sym slots) (subst (λ x. AreRows x p root_slots) (sym one.0) (subst (λ x. AreRows 1 x root_slots) (sym one.1) rows_are));
  }

  -- how many places it has
  pub empty_places : 1 ≤ num_inodes → length t.inodes ≡ num_inodes
  unfolding empty_tree
  empty_places some = omega (arith, length-replicate (num_inodes - 1) no_entry, some)
