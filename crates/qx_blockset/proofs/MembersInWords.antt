-- Bits of words, as members of a set.
use Rattle.std.proofs.Common.{◌≡◌, ◌≢◌, ℕ, ◌+◌, ◌-◌, ◌*◌, ◌/◌, ◌%◌, ◌^◌, ◌<◌, ◌≤◌, inl, inr, Bool, true, false, List, length, get_or, set, refl, sym, ◌∙◌, ap, subst, arith, replicate, w64}
use Rattle.std.specs.Prelude.{◌==◌, if◌then◌else◌, bit_or, bit_and}
use Rattle.std.specs.Int.{bit_at, bit_not}
use Rattle.std.proofs.lemmas.List.{get_or-set_same, get_or-set_other, length-set, ext_get_or, get_or-replicate, get_or_past, length-replicate}
use Rattle.std.proofs.lemmas.List.FromFn.{length-map-range_with_len, get_or-map-range_with_len}
use Rattle.std.proofs.lemmas.List.Sums.{sum_by-set, count_by-le-length}
use Rattle.std.proofs.lemmas.List.Folds.{sum_by-replicate}
use Rattle.std.proofs.lemmas.Grind.{get_or_default_zero}
use Rattle.std.specs.Vec.{vec_len, with_item}
use Rattle.std.proofs.lemmas.Bool.{cases_eq, cases_lt}
use Rattle.std.proofs.lemmas.Nat.Bits.{bit_at_set_same, bit_at_set_other, bit_at_clear_same, bit_at_clear_other, bit_at-zero, shr_and_one}
use Rattle.qx_blockset.specs.Members.{Members, has, count_of}
use Rattle.qx_blockset.specs.Words.{in_words, members, members_in, IsCounted}
use Rattle.qx_blockset.specs.declared.set.BlockSet.TheInside.{Inside}

-- as many numbers are seen as the limit says
pub length-members : (words : List ℕ) (limit : ℕ) → length (members words limit) ≡ limit
length-members words limit = length-map-range_with_len (in_words words) 0 limit

-- a number is seen as its bit says
pub has-members : (words : List ℕ) (limit b : ℕ) → b < limit → has (members words limit) b ≡ in_words words b
has-members words limit b low = get_or-map-range_with_len (in_words words) 0 limit b b false low (omega arith)

-- words that differ in one number alone
pub members-changed : (words others : List ℕ) (limit b : ℕ) (t : Bool) → b < limit
    → in_words others b ≡ t → ((q : ℕ) → q ≢ b → in_words others q ≡ in_words words q)
    → members others limit ≡ set (members words limit) b t
members-changed words others limit b t low here there =
    ext_get_or false _ _ (length-members others limit ∙ sym (length-members words limit) ∙ sym (length-set (members words limit) b t))
    (λ q h. let within : q < limit = subst (λ n. q < n) (length-members others limit) h in
    elim (cases_eq q b) [
      | inl e ↦ has-members others limit q within ∙ ap (in_words others) e ∙ here ∙ sym (ap (λ k. get_or (set (members words limit) b t) k false) e ∙ get_or-set_same (members words limit) b t false (rw length-members low))
      | inr ne ↦ has-members others limit q within ∙ there q ne ∙ sym (get_or-set_other (members words limit) b q t false ne ∙ has-members words limit q within)
    ])

-- one word is written
pub in_words-set : (words : List ℕ) (b q w : ℕ) → b / 64 < length words → q / 64 ≡ b / 64 → in_words (set words (b / 64) w) q ≡ (bit_at w (q % 64) == 1)
in_words-set words b q w low e = ap (λ x. bit_at x (q % 64) == 1) (ap (λ k. get_or (set words (b / 64) w) k 0) e ∙ get_or-set_same words (b / 64) w 0 low)

-- the numbers of other words stay
pub in_words-other : (words : List ℕ) (b q w : ℕ) → q / 64 ≢ b / 64 → in_words (set words (b / 64) w) q ≡ in_words words q
in_words-other words b q w ne = ap (λ x. bit_at x (q % 64) == 1) (get_or-set_other words (b / 64) (q / 64) w 0 ne)

-- the word with bit k set
abbrev pub with_bit : ℕ → ℕ → ℕ
with_bit n k = bit_or n (1 * 2 ^ k % 2 ^ 64)

abbrev pub without_bit : ℕ → ℕ → ℕ
without_bit n k = bit_and n (bit_not w64 (1 * 2 ^ k % 2 ^ 64))

-- a number's bit is set in its word, and the others stay
pub in_words-insert : (words : List ℕ) (b n q : ℕ) → b / 64 < length words → n ≡ get_or words (b / 64) 0 → q ≢ b → in_words (set words (b / 64) (with_bit n (b % 64))) q ≡ in_words words q
in_words-insert words b n q place is ne = elim (cases_eq (q / 64) (b / 64)) [
  | inl e ↦ let other : q % 64 ≢ b % 64 = λ h. ne (omega arith) in
      in_words-set words b q (with_bit n (b % 64)) place e ∙ ap (λ x. x == 1) (bit_at_set_other w64 n (b % 64) (omega arith) (q % 64) other ∙ ap (λ x. bit_at x (q % 64)) (is ∙ ap (λ k. get_or words k 0) (sym e)))
  | inr apart ↦ in_words-other words b q (with_bit n (b % 64)) apart
]

-- a number's bit is cleared in its word, and the others stay
pub in_words-remove : (words : List ℕ) (b n q : ℕ) → b / 64 < length words → n ≡ get_or words (b / 64) 0 → q ≢ b → in_words (set words (b / 64) (without_bit n (b % 64))) q ≡ in_words words q
in_words-remove words b n q place is ne = elim (cases_eq (q / 64) (b / 64)) [
  | inl e ↦ let other : q % 64 ≢ b % 64 = λ h. ne (omega arith) in
      in_words-set words b q (without_bit n (b % 64)) place e ∙ ap (λ x. x == 1) (bit_at_clear_other w64 n (b % 64) (omega arith) (q % 64) (omega arith) other ∙ ap (λ x. bit_at x (q % 64)) (is ∙ ap (λ k. get_or words k 0) (sym e)))
  | inr apart ↦ in_words-other words b q (without_bit n (b % 64)) apart
]

-- a number comes into the set
pub members-insert : (words : List ℕ) (limit b n : ℕ) → b < limit → b / 64 < length words → n ≡ get_or words (b / 64) 0
    → members (set words (b / 64) (with_bit n (b % 64))) limit ≡ set (members words limit) b true
members-insert words limit b n low place is =
    members-changed words (set words (b / 64) (with_bit n (b % 64))) limit b true low
    (in_words-set words b b (with_bit n (b % 64)) place refl ∙ ap (λ x. x == 1) (bit_at_set_same w64 n (b % 64) (omega arith)))
    (λ q ne. in_words-insert words b n q place is ne)

-- a number goes out of the set
pub members-remove : (words : List ℕ) (limit b n : ℕ) → b < limit → b / 64 < length words → n ≡ get_or words (b / 64) 0
    → members (set words (b / 64) (without_bit n (b % 64))) limit ≡ set (members words limit) b false
members-remove words limit b n low place is =
    members-changed words (set words (b / 64) (without_bit n (b % 64))) limit b false low
    (in_words-set words b b (without_bit n (b % 64)) place refl ∙ ap (λ x. x == 1) (bit_at_clear_same w64 n (b % 64) (omega arith)))
    (λ q ne. in_words-remove words b n q place is ne)

-- words that are all 0 have no bit that is set
pub in_words-zero : (n b : ℕ) → in_words (replicate n 0) b ≡ false
in_words-zero n b = ap (λ x. bit_at x (b % 64) == 1) (zero_word (b / 64)) ∙ ap (λ x. x == 1) (bit_at-zero (b % 64)) where
  zero_word : (k : ℕ) → get_or {A = ℕ} (replicate n 0) k 0 ≡ 0
  zero_word k = elim (cases_lt k n) [ inl low ↦ get_or-replicate n k 0 0 low | inr high ↦ get_or_past (replicate n 0) k 0 (rw length-replicate high) ]

-- and no members
pub members-zero : (n limit : ℕ) → members (replicate n 0) limit ≡ replicate limit false
members-zero n limit =
    ext_get_or false _ _ (length-members (replicate n 0) limit ∙ sym (length-replicate limit false))
    (λ q h. let within : q < limit = subst (λ k. q < k) (length-members (replicate n 0) limit) h in
    has-members (replicate n 0) limit q within ∙ in_words-zero n q ∙ sym (get_or-replicate limit q false false within))

-- a set of none has no members
pub count-none : (n : ℕ) → count_of (replicate n false) ≡ 0
count-none n = omega (arith, sum_by-replicate (λ x. if x then 1 else 0) n false)

-- the count, once a number has come
pub count-insert : (s : Members) (b : ℕ) → b < length s → has s b ≡ false → count_of (set s b true) ≡ count_of s + 1
count-insert s b low h =
    let e : count_of (set s b true) + (if has s b then 1 else 0) ≡ count_of s + 1 = sum_by-set (λ x. if x then 1 else 0) s b true false low in
    let plain : count_of (set s b true) + 0 ≡ count_of s + 1 = rw h at e in
    omega (arith, plain)

-- and once a member has gone
pub count-remove : (s : Members) (b : ℕ) → b < length s → has s b ≡ true → count_of (set s b false) + 1 ≡ count_of s
count-remove s b low h =
    let e : count_of (set s b false) + (if has s b then 1 else 0) ≡ count_of s + 0 = sum_by-set (λ x. if x then 1 else 0) s b false false low in
    let plain : count_of (set s b false) + 1 ≡ count_of s + 0 = rw h at e in
    omega (arith, plain)

-- a number below the limit of a set that is seen
pub record IsIn (a : Inside) (seen : Members) (b : ℕ) : Type 0 where
  pub counted : IsCounted a
  pub view : members_in a ≡ seen
  pub low : b < length seen

-- it lies below the limit that is kept
pub below-limit : (a : Inside) (seen : Members) (b : ℕ) → IsIn a seen b → b < a.limit
below-limit a seen b h = subst (λ n. b < n) (length-members a.words.items a.limit) (subst (λ s. b < length s) (sym h.view) h.low)

-- it has its word, by the number of words
pub place-below : (a : Inside) (seen : Members) (b : ℕ) → IsIn a seen b → b / 64 < vec_len a.words
place-below a seen b h = omega (arith, h.counted.words, below-limit a seen b h, a.words.ok.0)

-- it has its word among them
pub place-within : (a : Inside) (seen : Members) (b : ℕ) → IsIn a seen b → b / 64 < length a.words.items
place-within a seen b h = omega (arith, h.counted.words, below-limit a seen b h)

-- the word that was read is that word
pub word-is : (a : Inside) (seen : Members) (b n : ℕ) → IsIn a seen b → n ≡ get_or a.words.items (b / 64) n → n ≡ get_or a.words.items (b / 64) 0
word-is a seen b n h lies = lies ∙ get_or_default_zero a.words.items (b / 64) n (place-within a seen b h)

-- what the test of its bit says
pub bit-test : (a : Inside) (seen : Members) (b n : ℕ) → IsIn a seen b → n ≡ get_or a.words.items (b / 64) n → (bit_and (n / 2 ^ (b % 64)) 1 == 1) ≡ has seen b
bit-test a seen b n h lies =
    ap (λ x. x == 1) (shr_and_one n (b % 64) ∙ ap (λ w. bit_at w (b % 64)) (word-is a seen b n h lies))
    ∙ sym (has-members a.words.items a.limit b (below-limit a seen b h)) ∙ ap (λ s. has s b) h.view

-- the fields, with another word and another count
abbrev pub written : Inside → ℕ → ℕ → ℕ → Inside
written a b w count = record a { count = count; words = with_item a.words (b / 64) w }

-- a number comes into the set, as it is seen
pub view-insert : (a : Inside) (seen : Members) (b n count : ℕ) → IsIn a seen b → n ≡ get_or a.words.items (b / 64) n → members_in (written a b (with_bit n (b % 64)) count) ≡ set seen b true
view-insert a seen b n count h lies =
    members-insert a.words.items a.limit b n (below-limit a seen b h) (place-within a seen b h) (word-is a seen b n h lies) ∙ ap (λ s. set s b true) h.view

-- a number goes out of the set, as it is seen
pub view-remove : (a : Inside) (seen : Members) (b n count : ℕ) → IsIn a seen b → n ≡ get_or a.words.items (b / 64) n → members_in (written a b (without_bit n (b % 64)) count) ≡ set seen b false
view-remove a seen b n count h lies =
    members-remove a.words.items a.limit b n (below-limit a seen b h) (place-within a seen b h) (word-is a seen b n h lies) ∙ ap (λ s. set s b false) h.view

-- a number past the limit is another
beyond : (a : Inside) (seen : Members) (b q : ℕ) → IsIn a seen b → a.limit ≤ q → q ≢ b
beyond a seen b q h high e = omega (arith, below-limit a seen b h)

-- a number that wasn't in the set comes: the fields stay in order
pub counted-insert : (a : Inside) (seen : Members) (b n : ℕ) → IsIn a seen b → n ≡ get_or a.words.items (b / 64) n → has seen b ≡ false → IsCounted (written a b (with_bit n (b % 64)) (a.count + 1))
counted-insert a seen b n h lies out = record {
  words = length-set a.words.items (b / 64) (with_bit n (b % 64)) ∙ h.counted.words;
  clean = λ q high. in_words-insert a.words.items b n q (place-within a seen b h) (word-is a seen b n h lies) (beyond a seen b q h high) ∙ h.counted.clean q high;
  counted = sym (ap count_of (view-insert a seen b n (a.count + 1) h lies) ∙ count-insert seen b h.low out ∙ ap (λ k. k + 1) (sym (h.counted.counted ∙ ap count_of h.view)));
}

-- a member goes: the fields stay in order
pub counted-remove : (a : Inside) (seen : Members) (b n : ℕ) → IsIn a seen b → n ≡ get_or a.words.items (b / 64) n → has seen b ≡ true → IsCounted (written a b (without_bit n (b % 64)) (a.count - 1))
counted-remove a seen b n h lies there = record {
  words = length-set a.words.items (b / 64) (without_bit n (b % 64)) ∙ h.counted.words;
  clean = λ q high. in_words-remove a.words.items b n q (place-within a seen b h) (word-is a seen b n h lies) (beyond a seen b q h high) ∙ h.counted.clean q high;
  counted = sym (ap count_of (view-remove a seen b n (a.count - 1) h lies) ∙ omega (arith, count-remove seen b h.low there, h.counted.counted ∙ ap count_of h.view));
}

-- there is room for one more in the count
pub count-fits : (a : Inside) (seen : Members) (b : ℕ) → IsIn a seen b → has seen b ≡ false → a.count + 1 ≤ a.limit
count-fits a seen b h out =
    omega (arith, count-insert seen b h.low out, count_by-le-length (λ x. x) (set seen b true), length-set seen b true, ap length h.view, length-members a.words.items a.limit, h.counted.counted ∙ ap count_of h.view)

-- sets with one limit have their words alike
pub same-limit : (a o : Inside) (seen other : Members) → members_in a ≡ seen → members_in o ≡ other → length other ≡ length seen → a.limit ≡ o.limit
same-limit a o seen other view also same =
    sym (length-members a.words.items a.limit) ∙ ap length view ∙ sym same ∙ sym (ap length also) ∙ length-members o.words.items o.limit
