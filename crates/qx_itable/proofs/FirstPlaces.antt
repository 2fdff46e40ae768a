-- The first number of a range that passes a test.
use Rattle.std.proofs.Common.{◌≡◌, ℕ, zero, suc, ◌+◌, ◌<◌, ◌≤◌, inl, inr, Bool, true, false, not, length, find, get_or, map, refl, sym, ◌∙◌, ap, arith, Some, None, if◌then◌else◌, ◌-◌}
use Rattle.std.specs.Prelude.{option_map, is_some, is_none}
use Rattle.std.specs.List.{range_with_len}
use Rattle.std.proofs.lemmas.Bool.{cases_eq}
use Rattle.std.proofs.lemmas.List.{length-map}
use Rattle.std.proofs.Math.ListN.{get_or-map}
use Rattle.qx_blockset.specs.Members.{Members, has, limit_of}
use Rattle.qx_itable.specs.FirstPlace.{first_absent_in, IsFirstFrom}
use Rattle.qx_itable.specs.TableState.{TableState, inode_of, first_free_in}

module _ (p : ℕ → Bool) where
  -- a number that doesn't pass isn't found
  find-behind : (a n : ℕ) → p a ≡ false → find p (range_with_len a (suc n)) ≡ find p (range_with_len (a + 1) n)
  find-behind a n out = ap (λ (t : Bool). if t then Some a else find p (range_with_len (a + 1) n)) out

  -- the first that passes is found
  pub find-here : (a n x : ℕ) → a ≤ x → x < a + n → ((y : ℕ) → a ≤ y → y < x → p y ≡ false) → p x ≡ true → find p (range_with_len a n) ≡ Some x
  find-here a zero x from below before hit = absurd (omega arith)
  find-here a (suc n) x from below before hit = elim (cases_eq x a) [
    | inl e ↦ ap (λ (t : Bool). if t then Some a else find p (range_with_len (a + 1) n)) (ap p (sym e) ∙ hit) ∙ ap Some (sym e)
    | inr apart ↦ find-behind a n (before a (omega arith) (omega arith)) ∙ find-here (a + 1) n x (omega arith) (omega arith) (λ y low high. before y (omega arith) high) hit
  ]

  -- where none passes nothing is found
  pub find-nowhere : (a n : ℕ) → ((y : ℕ) → a ≤ y → y < a + n → p y ≡ false) → find p (range_with_len a n) ≡ None
  find-nowhere a zero none = refl
  find-nowhere a (suc n) none = find-behind a n (none a (omega arith) (omega arith)) ∙ find-nowhere (a + 1) n (λ y low high. none y (omega arith) (omega arith))

  -- a range that begins one number later
  pub find-shifted : (a n : ℕ) → find p (range_with_len (a + 1) n) ≡ option_map (λ x. x + 1) (find (λ x. p (x + 1)) (range_with_len a n))
  find-shifted a zero = refl
  find-shifted a (suc n) = either (p (a + 1)) (find-shifted (a + 1) n) where
    either : (t : Bool) → find p (range_with_len (a + 1 + 1) n) ≡ option_map (λ x. x + 1) (find (λ x. p (x + 1)) (range_with_len (a + 1) n))
        → (if t then Some (a + 1) else find p (range_with_len (a + 1 + 1) n)) ≡ option_map (λ x. x + 1) (if t then Some a else find (λ x. p (x + 1)) (range_with_len (a + 1) n))
    either true rest = refl
    either false rest = rest

-- a place that a set knows as its first absent one is found, if there is one
pub first-known : (s : Members) (place : ℕ) → IsFirstFrom s 0 place → place < limit_of s → first_absent_in s ≡ Some place
first-known s place first below =
    find-here (λ x. not (has s x)) 0 (limit_of s) place (omega arith) (omega arith)
    (λ y low high. ap not (first.behind.each y low high)) (ap not first.absent)

-- and where it is the limit there is none
pub none-known : (s : Members) (place : ℕ) → IsFirstFrom s 0 place → limit_of s ≤ place → first_absent_in s ≡ None
none-known s place first past = find-nowhere (λ x. not (has s x)) 0 (limit_of s) (λ y low high. ap not (first.behind.each y low (omega arith)))

-- the first number without a live inode stands behind the first place that the set of live ones lacks
pub first_free-is : (t : TableState) → first_free_in t ≡ option_map (λ place. place + 1) (first_absent_in (map is_some t.inodes))
first_free-is t =
    find-shifted (λ n. is_none (inode_of t n)) 0 (length t.inodes)
    ∙ ap (λ (p : ℕ → Bool). option_map (λ place. place + 1) (find p (range_with_len 0 (length t.inodes)))) (λ i place. same place i)
    ∙ ap (λ (n : ℕ). option_map (λ place. place + 1) (find (λ place. not (has (map is_some t.inodes) place)) (range_with_len 0 n))) (sym (length-map t.inodes is_some)) where
      same : (place : ℕ) → is_none (inode_of t (place + 1)) ≡ not (has (map is_some t.inodes) place)
      same place =
          let back : place + 1 - 1 ≡ place = omega arith in
          ap (λ (k : ℕ). is_none (get_or t.inodes k None)) back ∙ ap not (sym (get_or-map is_some t.inodes place None))
