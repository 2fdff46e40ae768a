-- The inode of each number, the first free number, and how many inodes are live.
use Rattle.std.proofs.Common.{◌≡◌, ◌≢◌, ℕ, zero, suc, ◌+◌, ◌-◌, ◌<◌, ◌≤◌, ◌⊎◌, inl, inr, Bool, true, false, not, List, [], ◌∷◌, length, find, get_or, set, refl, sym, ◌∙◌, ap, arith, Option, Some, None, if◌then◌else◌, cond}
use Rattle.std.specs.Prelude.{count_by, is_some, is_none}
use Rattle.std.specs.List.{range_with_len}
use Rattle.std.proofs.lemmas.List.{get_or-set_same, get_or-set_other}
use Rattle.std.proofs.lemmas.List.Sums.{sum_by-cons, sum_by-set, count_by-le-length}
use Rattle.qx_records.specs.declared.inode.Inode.{Inode}
use Rattle.qx_itable.specs.TableState.{TableState, first_free_in, inode_of, live_in, one_if_live}
use Rattle.qx_itable.proofs.FirstPlaces.{find-nowhere}

module _ (inodes : List (Option Inode)) (n : ℕ) (part : Option Inode) (from_one : 1 ≤ n) where
  -- what was set stands at its number
  pub number-set : n ≤ length inodes → get_or (set inodes (n - 1) part) (n - 1) None ≡ part
  number-set within = get_or-set_same inodes (n - 1) part None (omega arith)

  -- the other numbers keep theirs
  pub number-apart : (other : ℕ) → 1 ≤ other → other ≢ n → get_or (set inodes (n - 1) part) (other - 1) None ≡ get_or inodes (other - 1) None
  number-apart other positive apart =
      let places : other - 1 ≢ n - 1 = omega arith in
      get_or-set_other inodes (n - 1) (other - 1) part None places

  -- one more or less is live
  pub live-set : n ≤ length inodes
      → count_by is_some (set inodes (n - 1) part) + one_if_live (get_or inodes (n - 1) None) ≡ count_by is_some inodes + one_if_live part
  live-set within = sum_by-set one_if_live inodes (n - 1) part None (omega arith)

-- the first number of a range, or one behind it
first_or_behind : (a y : ℕ) → a ≤ y → (a ≡ y) ⊎ (a + 1 ≤ y)
first_or_behind a y low = grind arith

-- a number is the first of a range that passes the test
pub record IsFirstOf (p : ℕ → Bool) (a n x : ℕ) : Type 0 where
  pub from : a ≤ x
  pub below : x < a + n
  pub before : (y : ℕ) → a ≤ y → y < x → p y ≡ false
  pub passes : p x ≡ true

module _ (p : ℕ → Bool) where
  -- what is found is the first that passes
  pub find-tells : (a n x : ℕ) → find p (range_with_len a n) ≡ Some x → IsFirstOf p a n x
  find-tells a zero x found = absurd (cc found)
  find-tells a (suc n) x found = either (p a) refl found (find-tells (a + 1) n x) where
    either : (t : Bool) → p a ≡ t → (if t then Some a else find p (range_with_len (a + 1) n)) ≡ Some x
        → (find p (range_with_len (a + 1) n) ≡ Some x → IsFirstOf p (a + 1) n x) → IsFirstOf p a (suc n) x
    either true hit e rest =
        let here : a ≡ x = cc e in
        record { from = omega arith; below = omega arith; before = λ y low high. absurd (omega arith); passes = ap p (sym here) ∙ hit }
    either false miss e rest =
        let r : IsFirstOf p (a + 1) n x = rest e in
        record { from = omega (arith, r.from); below = omega (arith, r.below); before = λ y low high. earlier y low high r; passes = r.passes } where
          earlier : (y : ℕ) → a ≤ y → y < x → IsFirstOf p (a + 1) n x → p y ≡ false
          earlier y low high r = elim (first_or_behind a y low) [
            | inl is ↦ ap p (sym is) ∙ miss
            | inr behind ↦ r.before y behind high
          ]

  -- where nothing is found none passes
  pub find-fails : (a n : ℕ) → find p (range_with_len a n) ≡ None → (y : ℕ) → a ≤ y → y < a + n → p y ≡ false
  find-fails a zero none y low high = absurd (omega arith)
  find-fails a (suc n) none y low high = either (p a) refl none (λ rest behind. find-fails (a + 1) n rest y behind (omega arith)) where
    either : (t : Bool) → p a ≡ t → (if t then Some a else find p (range_with_len (a + 1) n)) ≡ None
        → (find p (range_with_len (a + 1) n) ≡ None → a + 1 ≤ y → p y ≡ false) → p y ≡ false
    either true hit e rest = absurd (cc e)
    either false miss e rest = elim (first_or_behind a y low) [
      | inl is ↦ ap p (sym is) ∙ miss
      | inr behind ↦ rest e behind
    ]

-- where each is live their count is their number
pub all-counted : (inodes : List (Option Inode)) → ((k : ℕ) → k < length inodes → is_some (get_or inodes k None) ≡ true) → count_by is_some inodes ≡ length inodes
all-counted [] all = refl
all-counted (o ∷ inodes) all =
    let first : one_if_live o ≡ 1 = ap (λ (t : Bool). cond {A = ℕ} t 1 0) (all 0 (omega arith)) in
    omega (arith, first, sum_by-cons one_if_live o inodes, all-counted inodes (λ k low. all (suc k) (omega arith)))

-- and the other way round
pub counted-all : (inodes : List (Option Inode)) → count_by is_some inodes ≡ length inodes → (k : ℕ) → k < length inodes → is_some (get_or inodes k None) ≡ true
counted-all [] counted k low = absurd (omega arith)
counted-all (o ∷ inodes) counted k low = either (is_some o) refl k low (counted-all inodes) where
  either : (t : Bool) → is_some o ≡ t → (k : ℕ) → k < length (o ∷ inodes)
      → (count_by is_some inodes ≡ length inodes → (k : ℕ) → k < length inodes → is_some (get_or inodes k None) ≡ true)
      → is_some (get_or (o ∷ inodes) k None) ≡ true
  either true is zero low rest = is
  either true is (suc k) low rest =
      let first : one_if_live o ≡ 1 = ap (λ (t : Bool). cond {A = ℕ} t 1 0) is in
      rest (omega (arith, first, counted, sum_by-cons one_if_live o inodes)) k (omega arith)
  either false is k low rest =
      let first : one_if_live o ≡ 0 = ap (λ (t : Bool). cond {A = ℕ} t 1 0) is in
      absurd (omega (arith, first, counted, sum_by-cons one_if_live o inodes, count_by-le-length is_some inodes))

-- an inode that isn't live is none
none-of : (o : Option Inode) → is_none o ≡ true → o ≡ None
none-of None is = refl
none-of (Some inode) is = absurd (cc is)

-- and one that isn't none is live
not_none : (o : Option Inode) → is_none o ≡ false → is_some o ≡ true
not_none None is = absurd (cc is)
not_none (Some inode) is = refl

module _ (t : TableState) where
  -- the test of the definition
  abbrev is_free : ℕ → Bool
  is_free n = is_none (inode_of t n)

  -- the first free number is such a first
  pub free-first : (n : ℕ) → first_free_in t ≡ Some n → IsFirstOf is_free 1 (length t.inodes) n
  free-first n found = find-tells is_free 1 (length t.inodes) n found

  -- it has no live inode
  pub free-none : (n : ℕ) → first_free_in t ≡ Some n → inode_of t n ≡ None
  free-none n found = none-of (inode_of t n) (free-first n found).passes

  -- and all below it have one
  pub free-least : (n m : ℕ) → first_free_in t ≡ Some n → 1 ≤ m → m < n → is_some (inode_of t m) ≡ true
  free-least n m found low high = not_none (inode_of t m) ((free-first n found).before m low high)

  -- without a free number each is live
  pub none-free : first_free_in t ≡ None → live_in t ≡ length t.inodes
  none-free none = all-counted t.inodes (λ k low.
      let back : k + 1 - 1 ≡ k = omega arith in
      ap (λ (i : ℕ). is_some (get_or t.inodes i None)) (sym back) ∙ not_none (inode_of t (k + 1)) (find-fails is_free 1 (length t.inodes) none (k + 1) (omega arith) (omega arith)))

  -- where each is live no number is free
  pub all-live : live_in t ≡ length t.inodes → first_free_in t ≡ None
  all-live counted = find-nowhere is_free 1 (length t.inodes) (λ n low high. ap not (counted-all t.inodes counted (n - 1) (omega arith)))
