-- The members of a set, counted by the ones of its words.
use Rattle.std.proofs.Common.{◌≡◌, ℕ, zero, suc, ◌+◌, ◌-◌, ◌*◌, ◌/◌, ◌%◌, ◌^◌, ◌<◌, ◌≤◌, inl, inr, Bool, false, cond, List, [], ◌∷◌, length, get_or, map, take, refl, sym, ◌∙◌, ap, arith, count_ones}
use Rattle.std.specs.Prelude.{◌==◌, sum_by}
use Rattle.std.specs.List.{range_with_len}
use Rattle.std.specs.Int.{bit_at}
use Rattle.std.proofs.lemmas.Bool.{cases_lt}
use Rattle.std.proofs.lemmas.List.{get_or_past, take_all}
use Rattle.std.proofs.lemmas.List.FromFn.{length-map-range_with_len, get_or-map-range_with_len, sum_by-map-range_with_len_more}
use Rattle.std.proofs.lemmas.List.Sums.{count_by-le-length, sum_by_more}
use Rattle.std.proofs.lemmas.Nat.Bits.{bit_at-lt, bit_at_above, same_from_bits}
use Rattle.std.proofs.lemmas.Simd.{bit_mask_l, ones-mask_l}
use lib.Lanes.{mask_l}
use Rattle.qx_blockset.specs.Members.{count_of}
use Rattle.qx_blockset.specs.Words.{in_words, members}

-- how many of the numbers below n pass
abbrev count_below : (ℕ → Bool) → ℕ → ℕ
count_below p n = count_of (map p (range_with_len 0 n))

-- one number more
count-more : (p : ℕ → Bool) (n : ℕ) → count_below p (n + 1) ≡ count_below p n + cond (p n) 1 0
count-more p n = sum_by-map-range_with_len_more (λ x. cond x 1 0) p 0 n n (omega arith)

-- the numbers of a run, which pass as those below its length do by another test
count-behind : (p q : ℕ → Bool) (start n : ℕ) → ((k : ℕ) → k < n → p (start + k) ≡ q k) → count_below p (start + n) ≡ count_below p start + count_below q n
count-behind p q start zero same =
    let none : start + 0 ≡ start = omega arith in
    ap (count_below p) none ∙ omega arith
count-behind p q start (suc n) same =
    let before : count_below p (start + n) ≡ count_below p start + count_below q n = count-behind p q start n (λ k low. same k (omega arith)) in
    let more : count_below p (start + n + 1) ≡ count_below p (start + n) + cond (p (start + n)) 1 0 = count-more p (start + n) in
    let other : count_below q (n + 1) ≡ count_below q n + cond (q n) 1 0 = count-more q n in
    let last : cond {A = ℕ} (p (start + n)) 1 0 ≡ cond {A = ℕ} (q n) 1 0 = ap (λ t. cond t 1 0) (same n (omega arith)) in
    let sum : start + suc n ≡ start + n + 1 = omega arith in
    let length_is : n + 1 ≡ suc n = omega arith in
    ap (count_below p) sum ∙ more ∙ omega (arith, before, other, last) ∙ ap (λ m. count_below p start + count_below q m) length_is

-- where no number passes, none is counted
count-nowhere : (n : ℕ) → count_below (λ k. false) n ≡ 0
count-nowhere zero = refl
count-nowhere (suc n) =
    let sum : suc n ≡ n + 1 = omega arith in
    ap (count_below (λ k. false)) sum ∙ omega (arith, count-more (λ k. false) n, count-nowhere n)

-- the bits of a word
abbrev bits_of : ℕ → List Bool
bits_of word = map (λ k. bit_at word k == 1) (range_with_len 0 64)

-- a list of truths, each taken as it is
map-itself : (ms : List Bool) → map (λ m. m) ms ≡ ms
map-itself [] = refl
map-itself (m ∷ ms) = ap (λ xs. m ∷ xs) (map-itself ms)

-- a bit as a number, tested and taken back
bit-tested : (n : ℕ) → n < 2 → n ≡ cond (n == 1) 1 0
bit-tested zero low = refl
bit-tested (suc zero) low = refl
bit-tested (suc (suc n)) low = absurd (omega arith)

-- a word is made of its bits
word-bits : (word : ℕ) → word < 2 ^ 64 → word ≡ mask_l (bits_of word)
word-bits word fits = same_from_bits word (mask_l (bits_of word)) (λ i. bit i ∙ sym (bit_mask_l (bits_of word) i)) where
  bit : (i : ℕ) → bit_at word i ≡ cond (get_or (bits_of word) i false) 1 0
  bit i = elim (cases_lt i 64) [
    | inl low ↦ bit-tested (bit_at word i) (bit_at-lt word i) ∙ ap (λ t. cond t 1 0) (sym (get_or-map-range_with_len (λ k. bit_at word k == 1) 0 64 i i false low (omega arith)))
    | inr high ↦ bit_at_above word 64 i fits high ∙ ap (λ t. cond t 1 0) (sym (get_or_past (bits_of word) i false (rw length-map-range_with_len high)))
  ]

-- the ones of a word are its bits that are set
count-word : (word : ℕ) → word < 2 ^ 64 → count_ones word ≡ count_of (bits_of word)
count-word word fits =
    ap count_ones (word-bits word fits ∙ ap mask_l (sym (map-itself (bits_of word))))
    ∙ ones-mask_l (λ m. m) (bits_of word)

-- the numbers of the first words
count-words : (words : List ℕ) (n : ℕ) → n ≤ length words → ((k : ℕ) → k < length words → get_or words k 0 < 2 ^ 64) → count_below (in_words words) (64 * n) ≡ sum_by count_ones (take n words)
count-words words zero low fit = refl
count-words words (suc n) low fit =
    let before : count_below (in_words words) (64 * n) ≡ sum_by count_ones (take n words) = count-words words n (omega arith) fit in
    let here : count_below (in_words words) (64 * n + 64) ≡ count_below (in_words words) (64 * n) + count_of (bits_of (get_or words n 0))
    = count-behind (in_words words) (λ k. bit_at (get_or words n 0) k == 1) (64 * n) 64 (λ k small. in-word k small) in
    let word : count_ones (get_or words n 0) ≡ count_of (bits_of (get_or words n 0)) = count-word (get_or words n 0) (fit n (omega arith)) in
    let more : sum_by count_ones (take (n + 1) words) ≡ sum_by count_ones (take n words) + count_ones (get_or words n 0) = sum_by_more count_ones words n 0 (omega arith) in
    let place : 64 * suc n ≡ 64 * n + 64 = omega arith in
    let number : n + 1 ≡ suc n = omega arith in
    ap (count_below (in_words words)) place ∙ here ∙ omega (arith, before, word, more) ∙ ap (λ m. sum_by count_ones (take m words)) number where
      in-word : (k : ℕ) → k < 64 → in_words words (64 * n + k) ≡ (bit_at (get_or words n 0) k == 1)
      in-word k small =
          let which : (64 * n + k) / 64 ≡ n = omega arith in
          let bit : (64 * n + k) % 64 ≡ k = omega arith in
          λ i. bit_at (get_or words (which i) 0) (bit i) == 1

-- where no bit is set past the limit, the ones of all words are the members
pub count-members : (words : List ℕ) (limit : ℕ) → limit ≤ 64 * length words → ((k : ℕ) → k < length words → get_or words k 0 < 2 ^ 64)
    → ((b : ℕ) → limit ≤ b → in_words words b ≡ false) → sum_by count_ones words ≡ count_of (members words limit)
count-members words limit room fit clean =
    let all : count_below (in_words words) (64 * length words) ≡ sum_by count_ones (take (length words) words) = count-words words (length words) (omega arith) fit in
    let behind : count_below (in_words words) (limit + (64 * length words - limit)) ≡ count_below (in_words words) limit + count_below (λ k. false) (64 * length words - limit)
    = count-behind (in_words words) (λ k. false) limit (64 * length words - limit) (λ k low. clean (limit + k) (omega arith)) in
    let whole : sum_by count_ones words ≡ sum_by count_ones (take (length words) words) = ap (sum_by count_ones) (sym (take_all (length words) words (omega arith))) in
    let sum : 64 * length words ≡ limit + (64 * length words - limit) = omega arith in
    let joined : count_below (in_words words) (64 * length words) ≡ count_below (in_words words) (limit + (64 * length words - limit)) = ap (count_below (in_words words)) sum in
    omega (arith, all, behind, whole, joined, count-nowhere (64 * length words - limit))

-- a word has at most 64 ones
pub ones-word : (word : ℕ) → word < 2 ^ 64 → count_ones word ≤ 64
ones-word word fits =
    omega (arith, count-word word fits, count_by-le-length (λ m. m) (bits_of word), length-map-range_with_len (λ k. bit_at word k == 1) 0 64)
