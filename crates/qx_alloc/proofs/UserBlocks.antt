-- The user blocks of a set.
use Rattle.std.proofs.Common.{◌≡◌, ◌≢◌, ℕ, ◌+◌, ◌<◌, inl, inr, false, ◌&&◌, length, get_or, set, sym, ◌∙◌, ap, subst, arith}
use Rattle.std.specs.Prelude.{nat_le, min}
use Rattle.std.proofs.lemmas.Bool.{cases_eq, cases_lt, le-leb, lt-leb}
use Rattle.std.proofs.lemmas.List.{ext_get_or, get_or-set_same, get_or-set_other, length-set, get_or_past}
use Rattle.std.proofs.lemmas.List.FromFn.{length-map-range_with_len, get_or-map-range_with_len}
use Rattle.qx_blockset.specs.Members.{Members, has}
use Rattle.qx_alloc.specs.SpaceState.{users_in}

-- as many blocks are seen
pub length-users : (first : ℕ) (s : Members) → length (users_in first s) ≡ length s
length-users first s = length-map-range_with_len (λ b. nat_le first b && has s b) 0 (length s)

-- a block below the limit is seen as the set has it, from the first user block on
pub has-users : (first : ℕ) (s : Members) (b : ℕ) → b < length s → has (users_in first s) b ≡ (nat_le first b && has s b)
has-users first s b low = get_or-map-range_with_len (λ b. nat_le first b && has s b) 0 (length s) b b false low (omega arith)

-- no block below the first user block is one
pub users-below : (first : ℕ) (s : Members) (b : ℕ) → b < first → has (users_in first s) b ≡ false
users-below first s b high = elim (cases_lt b (length s)) [
  | inl low ↦ has-users first s b low ∙ ap (λ t. t && has s b) (lt-leb first b high)
  | inr past ↦ get_or_past (users_in first s) b false (rw length-users past)
]

-- of a set whose system blocks from none on are left out nothing is
pub users-all : (s : Members) → users_in 0 s ≡ s
users-all s = ext_get_or false (users_in 0 s) s (length-users 0 s) (λ q low. has-users 0 s q (subst (λ n. q < n) (length-users 0 s) low) ∙ ap (λ t. t && has s q) (le-leb 0 q (omega arith)))

-- one block more is left out
pub users-more : (first : ℕ) (s : Members) → first < length s → set (users_in first s) first false ≡ users_in (first + 1) s
users-more first s within =
    ext_get_or false _ _ (length-set (users_in first s) first false ∙ length-users first s ∙ sym (length-users (first + 1) s))
    (λ q h. let low : q < length s = subst (λ n. q < n) (length-set (users_in first s) first false ∙ length-users first s) h in
    elim (cases_eq q first) [
      | inl e ↦ ap (λ k. get_or (set (users_in first s) first false) k false) e ∙ get_or-set_same (users_in first s) first false false (rw length-users within)
          ∙ sym (users-below (first + 1) s q (omega arith))
      | inr apart ↦ get_or-set_other (users_in first s) first q false false apart ∙ has-users first s q low
          ∙ ap (λ t. t && has s q) (same q apart) ∙ sym (has-users (first + 1) s q low)
    ]) where
      same : (q : ℕ) → q ≢ first → nat_le first q ≡ nat_le (first + 1) q
      same q apart = elim (cases_lt q first) [
        | inl below ↦ lt-leb first q below ∙ sym (lt-leb (first + 1) q (omega arith))
        | inr above ↦ le-leb first q above ∙ sym (le-leb (first + 1) q (omega arith))
      ]

-- past the last block there is nothing to leave out
pub users-past : (first : ℕ) (s : Members) → users_in (min first (length s)) s ≡ users_in first s
users-past first s =
    ext_get_or false _ _ (length-users (min first (length s)) s ∙ sym (length-users first s))
    (λ q h. let low : q < length s = subst (λ n. q < n) (length-users (min first (length s)) s) h in
    has-users (min first (length s)) s q low ∙ ap (λ t. t && has s q) (same q low) ∙ sym (has-users first s q low)) where
      same : (q : ℕ) → q < length s → nat_le (min first (length s)) q ≡ nat_le first q
      same q low = elim (cases_lt q first) [
        | inl below ↦ lt-leb (min first (length s)) q (omega arith) ∙ sym (lt-leb first q below)
        | inr above ↦ le-leb (min first (length s)) q (omega arith) ∙ sym (le-leb first q above)
      ]
