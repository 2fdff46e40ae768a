-- Inodes whose parts agree, and written leaves that are present: what each step of an edit keeps of both.
use Rattle.std.proofs.Common.{◌≡◌, ℕ, zero, suc, ◌⊎◌, inl, inr, List, [], ◌∷◌, ◌++◌, length, refl, sym, ap, ◌∙◌, subst}
use Rattle.std.specs.Prelude.{◌≢◌, Bool, true, false, Option, Some, None, option_map, map, filter, if◌then◌else◌}
use Rattle.std.proofs.lemmas.Bool.{cases_eq, cases_lt}
use Rattle.std.proofs.lemmas.List.{map-append}
use Rattle.std.proofs.lemmas.List.Elements.{filter-append}
use Rattle.qx_geom.specs.Lists.{is_in}
use Rattle.qx_geom.proofs.Members.{in_append_cases}
use Rattle.qx_model.specs.Owners.{OfFurther, OfInode, OfInodes, OfLongfile, Owner, is_same_owner}
use Rattle.qx_model.specs.declared.attr.Attr.{Attr}
use Rattle.qx_model.specs.Tree.{Body, Directory, Entry, File, Link, Special, Tree, entry_of}
use Rattle.qx_model.specs.Directories.{with_entry}
use Rattle.qx_model.specs.Edits.{Edit, Leaf, altering, putting, unchanged, with_attr, writing}
use Rattle.qx_model.specs.TreePositions.{entry_shape, shape_in}
use Rattle.qx_model.specs.TreeTouch.{WritesPresent, written_in}
use Rattle.qx_model.specs.Whole.{AreWhole, IsWholeBody, IsWholeEntry}
use Rattle.qx_model.proofs.Outlines.{entry-other, entry-same, set_past}
use Rattle.qx_model.proofs.SamePositions.{same_owner-true}

-- what stands at an inode that was set: what it was set to, or what was there, where it has no place
pub set_or_stays : (t : Tree) (n : ℕ) (x : Option Entry) → (entry_of (with_entry t n x) n ≡ x) ⊎ (entry_of (with_entry t n x) n ≡ entry_of t n)
set_or_stays t zero x = inr refl
set_or_stays t (suc k) x = elim (cases_lt k (length t.inodes)) [
  | inl below ↦ inl (entry-same t k x below)
  | inr past ↦ inr (ap (λ xs. entry_of (record t { inodes = xs }) (suc k)) (set_past t.inodes k x past))
]

-- ---- written leaves

-- the leaves of an owner after more were written
pub written_cases : (o owner : Owner) (old : List Leaf) (leaves : List ℕ) (i : ℕ) → is_in (written_in o (old ++ map (λ j. let l : Leaf = record { owner = owner; index = j } in l) leaves)) i ≡ true
    → (is_in (written_in o old) i ≡ true) ⊎ ((o ≡ owner) × (is_in leaves i ≡ true))
written_cases o owner old leaves i h =
    elim (in_append_cases (written_in o old) (written_in o more) i (ap (λ xs. is_in xs i) (sym (ap (map (λ (l : Leaf). l.index)) (filter-append (λ (l : Leaf). is_same_owner l.owner o) old more)
    ∙ map-append (λ (l : Leaf). l.index) (filter (λ (l : Leaf). is_same_owner l.owner o) old) (filter (λ (l : Leaf). is_same_owner l.owner o) more))) ∙ h)) [
      | inl before ↦ inl before
      | inr new ↦ inr (own leaves new)
    ]
  where
    more : List Leaf
    more = map (λ j. let l : Leaf = record { owner = owner; index = j } in l) leaves

    own : (ls : List ℕ) → is_in (written_in o (map (λ j. let l : Leaf = record { owner = owner; index = j } in l) ls)) i ≡ true → (o ≡ owner) × (is_in ls i ≡ true)
    own ls h = (go (is_same_owner owner o) refl, here ls h)
      where
        none : (ls : List ℕ) → is_same_owner owner o ≡ false → written_in o (map (λ j. let l : Leaf = record { owner = owner; index = j } in l) ls) ≡ []
        none [] e = refl
        none (l ∷ ls) e = ap (λ b. map (λ (l : Leaf). l.index) (if b then record { owner = owner; index = l } ∷ filter (λ (l : Leaf). is_same_owner l.owner o) (map (λ j. let l : Leaf = record { owner = owner; index = j } in l) ls) else filter (λ (l : Leaf). is_same_owner l.owner o) (map (λ j. let l : Leaf = record { owner = owner; index = j } in l) ls))) e ∙ none ls e

        all : (ls : List ℕ) → is_same_owner owner o ≡ true → written_in o (map (λ j. let l : Leaf = record { owner = owner; index = j } in l) ls) ≡ ls
        all [] e = refl
        all (l ∷ ls) e = ap (λ b. map (λ (l : Leaf). l.index) (if b then record { owner = owner; index = l } ∷ filter (λ (l : Leaf). is_same_owner l.owner o) (map (λ j. let l : Leaf = record { owner = owner; index = j } in l) ls) else filter (λ (l : Leaf). is_same_owner l.owner o) (map (λ j. let l : Leaf = record { owner = owner; index = j } in l) ls))) e ∙ ap (λ xs. l ∷ xs) (all ls e)

        go : (b : Bool) → is_same_owner owner o ≡ b → o ≡ owner
        go true e = sym (same_owner-true owner o e)
        go false e = let none_there : is_in [] i ≡ true = ap (λ xs. is_in xs i) (sym (none ls e)) ∙ h in absurd (cc)

        here : (ls : List ℕ) → is_in (written_in o (map (λ j. let l : Leaf = record { owner = owner; index = j } in l) ls)) i ≡ true → is_in ls i ≡ true
        here ls h = by (is_same_owner owner o) refl
          where
            by : (b : Bool) → is_same_owner owner o ≡ b → is_in ls i ≡ true
            by true e = ap (λ xs. is_in xs i) (sym (all ls e)) ∙ h
            by false e = let none_there : is_in [] i ≡ true = ap (λ xs. is_in xs i) (sym (none ls e)) ∙ h in absurd (cc)

-- the leaves that an inode has
abbrev pub present_in : ℕ → Tree → Owner → List ℕ
present_in blocksize t o = let s = shape_in blocksize t o in s.present

-- ---- steps

-- what holds on the way
pub record IsSteadyEdit (blocksize : ℕ) (e : Edit) : Type 0 where
  pub entries : AreWhole blocksize e.tree
  pub present : WritesPresent blocksize e

-- it holds where nothing was edited yet
pub steady_start : (blocksize : ℕ) (t : Tree) → AreWhole blocksize t → IsSteadyEdit blocksize (unchanged t)
steady_start blocksize t whole = record { entries = whole; present = λ o i h. absurd (nothing i h) }
  where
    nothing : (i : ℕ) → is_in [] i ≡ true → ⊥
    nothing i h = cc

-- another tree in which each inode's leaves stay
pub steady_tree : (blocksize : ℕ) (e : Edit) (t : Tree) → IsSteadyEdit blocksize e → AreWhole blocksize t
    → ((o : Owner) (i : ℕ) → is_in (written_in o e.written) i ≡ true → is_in (present_in blocksize e.tree o) i ≡ true → is_in (present_in blocksize t o) i ≡ true) → IsSteadyEdit blocksize (record e { tree = t })
steady_tree blocksize e t s whole stays = record { entries = whole; present = λ o i h. stays o i h (s.present o i h) }

-- leaves that are present are written
pub steady_writing : (blocksize : ℕ) (owner : Owner) (leaves : List ℕ) (e : Edit) → IsSteadyEdit blocksize e → ((i : ℕ) → is_in leaves i ≡ true → is_in (present_in blocksize e.tree owner) i ≡ true)
    → IsSteadyEdit blocksize (writing owner leaves e)
steady_writing blocksize owner leaves e s there = record {
  entries = s.entries;
  present = λ o i h. (elim (written_cases o owner e.written leaves i h) [
    | inl before ↦ s.present o i before
    | inr w ↦ subst (λ p. is_in (present_in blocksize e.tree p) i ≡ true) (sym w.0) (there i w.1)
  ]);
}

-- an inode is set: it is whole, and has each of its written leaves
pub steady_set : (blocksize n : ℕ) (x : Option Entry) (e : Edit) → IsSteadyEdit blocksize e → ((y : Entry) → x ≡ Some y → IsWholeEntry blocksize n y)
    → ((i : ℕ) → is_in (written_in (OfInode n) e.written) i ≡ true → is_in (present_in blocksize e.tree (OfInode n)) i ≡ true → is_in (let s = entry_shape blocksize x in s.present) i ≡ true)
    → IsSteadyEdit blocksize (putting n x e)
steady_set blocksize n x e s whole stays = steady_tree blocksize e (with_entry e.tree n x) s entries kept
  where
    at_own : (m : ℕ) → m ≡ n → (y : Entry) → entry_of (with_entry e.tree n x) m ≡ Some y → IsWholeEntry blocksize m y
    at_own m is y h = subst (λ k. IsWholeEntry blocksize k y) (sym is) (elim (set_or_stays e.tree n x) [
      | inl new ↦ whole y (sym new ∙ ap (entry_of (with_entry e.tree n x)) (sym is) ∙ h)
      | inr old ↦ s.entries n y (sym old ∙ ap (entry_of (with_entry e.tree n x)) (sym is) ∙ h)
    ])

    entries : AreWhole blocksize (with_entry e.tree n x)
    entries m y h = elim (cases_eq m n) [
      | inl is ↦ at_own m is y h
      | inr ne ↦ s.entries m y (sym (entry-other e.tree n m x (λ z. ne (sym z))) ∙ h)
    ]

    longs : (k : ℕ) → present_in blocksize (with_entry e.tree k x) OfLongfile ≡ present_in blocksize e.tree OfLongfile
    longs zero = refl
    longs (suc k) = refl

    kept : (o : Owner) (i : ℕ) → is_in (written_in o e.written) i ≡ true → is_in (present_in blocksize e.tree o) i ≡ true → is_in (present_in blocksize (with_entry e.tree n x) o) i ≡ true
    kept OfInodes i w h = h
    kept (OfFurther k) i w h = h
    kept OfLongfile i w h = ap (λ xs. is_in xs i) (longs n) ∙ h
    kept (OfInode m) i w h = elim (cases_eq m n) [
      | inr ne ↦ ap (λ y. is_in (let s = entry_shape blocksize y in s.present) i) (entry-other e.tree n m x (λ z. ne (sym z))) ∙ h
      | inl is ↦ subst (λ k. is_in (present_in blocksize (with_entry e.tree n x) (OfInode k)) i ≡ true) (sym is) (own (subst (λ k. is_in (written_in (OfInode k) e.written) i ≡ true) is w)
          (subst (λ k. is_in (present_in blocksize e.tree (OfInode k)) i ≡ true) is h))
    ]
      where
        own : is_in (written_in (OfInode n) e.written) i ≡ true → is_in (present_in blocksize e.tree (OfInode n)) i ≡ true → is_in (present_in blocksize (with_entry e.tree n x) (OfInode n)) i ≡ true
        own w h = elim (set_or_stays e.tree n x) [
          | inl new ↦ ap (λ y. is_in (let s = entry_shape blocksize y in s.present) i) new ∙ stays i w h
          | inr old ↦ ap (λ y. is_in (let s = entry_shape blocksize y in s.present) i) old ∙ h
        ]

-- an inode is altered, and keeps its leaves
pub steady_altering : (blocksize n : ℕ) (change : Entry → Entry) (e : Edit) → IsSteadyEdit blocksize e
    → ((x : Entry) → entry_of e.tree n ≡ Some x → IsWholeEntry blocksize n (change x) × ((i : ℕ) → is_in (written_in (OfInode n) e.written) i ≡ true → is_in x.present i ≡ true → is_in (let y = change x in y.present) i ≡ true))
    → IsSteadyEdit blocksize (altering n change e)
steady_altering blocksize n change e s good = steady_set blocksize n (option_map change (entry_of e.tree n)) e s (λ y h. whole (entry_of e.tree n) refl y h) (λ i w h. stays (entry_of e.tree n) refl i w h)
  where
    whole : (o : Option Entry) → entry_of e.tree n ≡ o → (y : Entry) → option_map change o ≡ Some y → IsWholeEntry blocksize n y
    whole None is y h = absurd (cc)
    whole (Some x) is y h = let same : change x ≡ y = cc in subst (IsWholeEntry blocksize n) same (let g = good x is in g.0)

    stays : (o : Option Entry) → entry_of e.tree n ≡ o → (i : ℕ) → is_in (written_in (OfInode n) e.written) i ≡ true → is_in (let s = entry_shape blocksize o in s.present) i ≡ true
        → is_in (let s = entry_shape blocksize (option_map change o) in s.present) i ≡ true
    stays None is i w h = h
    stays (Some x) is i w h = let g = good x is in g.1 i w h

-- other attributes
pub attr_whole : (blocksize n : ℕ) (a : Attr) (x : Entry) → IsWholeEntry blocksize n x → IsWholeEntry blocksize n (record x { attr = a })
attr_whole blocksize n a x w = record { size = w.size; ascends = w.ascends; below = w.below; body = body x.body w.body }
  where
    body : (b : Body) → IsWholeBody blocksize n x b → IsWholeBody blocksize n (record x { attr = a }) b
    body (Directory slots parent) h = record { some = h.some; whole = h.whole; filled = h.filled; dot = h.dot; dots = h.dots }
    body (File content) h = tt
    body (Link target) h = tt
    body Special h = tt

-- and stays where attributes change
pub steady_attr : (blocksize n : ℕ) (change : Attr → Attr) (e : Edit) → IsSteadyEdit blocksize e → IsSteadyEdit blocksize (with_attr n change e)
steady_attr blocksize n change e s =
    steady_altering blocksize n (λ x. record x { attr = change x.attr }) e s (λ x live. (attr_whole blocksize n (change x.attr) x (s.entries n x live), λ i w h. h))

-- what was written of one owner before others were
pub not_written : (o owner : Owner) (e : Edit) (leaves : List ℕ) → o ≢ owner → ((i : ℕ) → is_in (written_in o e.written) i ≡ true → ⊥) → (i : ℕ) → is_in (written_in o (writing owner leaves e).written) i ≡ true → ⊥
not_written o owner e leaves ne none i h = elim (written_cases o owner e.written leaves i h) [
  | inl before ↦ none i before
  | inr w ↦ ne w.0
]
