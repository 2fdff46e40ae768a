-- Verbs by their names.
use Rattle.std.proofs.Common.{◌≡◌, ℕ, ◌+◌, ◌-◌, ◌<◌, ◌≤◌, Bool, true, false, List, [], ◌∷◌, ◌++◌, length, drop, take, get_or, Some, refl, sym, ap, subst, ◌∙◌, arith, append_assoc}
use Rattle.std.specs.Prelude.{max, fold, find, bytes_eq, ◌==◌, if◌then◌else◌}
use Rattle.std.proofs.lemmas.List.{at_drop_more, take_more, get_or-drop, length-drop}
use Rattle.std.proofs.lemmas.Slice.Eq.{bytes_eq-Decides}
use Rattle.std.proofs.lemmas.Bool.Decides.{nat_tests}
use Rattle.qx_words.specs.declared.grammar.Verb.{Verb}
use Rattle.qx_words.specs.Commands.{name_of, verbs}
use Rattle.qx_words.specs.Reading.{first_word, furthest, shared, verb_named}

-- what is found passes the test
found_passes : (test : Verb → Bool) (vs : List Verb) (v : Verb) → find test vs ≡ Some v → test v ≡ true
found_passes test [] v e = absurd (cc)
found_passes test (x ∷ xs) v e = by_test (found_passes test xs v) (test x) refl e
  where
    by_test : (find test xs ≡ Some v → test v ≡ true) → (b : Bool) → test x ≡ b → (if b then Some x else find test xs) ≡ Some v → test v ≡ true
    by_test rest true is found = let same : x ≡ v = cc in subst (λ (w : Verb). test w ≡ true) same is
    by_test rest false is found = rest found

-- a verb that is found has the name
pub name_of_named : (name : List ℕ) (v : Verb) → verb_named name ≡ Some v → name_of v ≡ name
name_of_named name v e = (bytes_eq-Decides (name_of v) name).0 (found_passes (λ w. bytes_eq (name_of w) name) verbs v e)

-- nothing is shared with no bytes
pub shared_end : (xs : List ℕ) → shared xs [] ≡ 0
shared_end [] = refl
shared_end (x ∷ xs) = refl

-- no more is shared than there is
shared_within : (xs ys : List ℕ) → shared xs ys ≤ length ys
shared_within [] ys = omega arith
shared_within (x ∷ xs) [] = omega arith
shared_within (x ∷ xs) (y ∷ ys) = by_test (shared_within xs ys) (x == y)
  where
    by_test : shared xs ys ≤ length ys → (b : Bool) → (if b then shared xs ys + 1 else 0) ≤ length (y ∷ ys)
    by_test h true = omega arith
    by_test h false = omega arith

-- the most that is shared with some verb lies within
most_within : (bytes : List ℕ) (vs : List Verb) (most : ℕ) → most ≤ length bytes → fold (λ most v. max most (shared (name_of v) bytes)) most vs ≤ length bytes
most_within bytes [] most h = h
most_within bytes (v ∷ vs) most h = let k = shared_within (name_of v) bytes in most_within bytes vs (max most (shared (name_of v) bytes)) (omega arith)

pub furthest_within : (bytes : List ℕ) → furthest bytes ≤ length bytes
unfolding furthest
furthest_within bytes = most_within bytes verbs 0 (omega arith)

-- a byte more of the first word
pub word_more : (line : List ℕ) (at end : ℕ) → at ≤ end → end < length line → (get_or line end 0 ≡ 32 → ⊥)
    → take (end - at) (drop at line) ++ first_word (drop end line) ≡ first_word (drop at line)
    → take (end + 1 - at) (drop at line) ++ first_word (drop (end + 1) line) ≡ first_word (drop at line)
word_more line at end low high other so_far =
    let here : get_or (drop at line) (end - at) 0 ≡ get_or line end 0 = get_or-drop at line (end - at) 0 ∙ ap (λ (k : ℕ). get_or line k 0) (omega arith) in
    let longer : take (end + 1 - at) (drop at line) ≡ take (end - at) (drop at line) ++ get_or line end 0 ∷ []
    = ap (λ (k : ℕ). take k (drop at line)) (omega arith) ∙ take_more (drop at line) (end - at) 0 (rw (length-drop at line) (omega arith)) ∙ ap (λ (b : ℕ). take (end - at) (drop at line) ++ b ∷ []) here in
    let first : first_word (drop end line) ≡ get_or line end 0 ∷ first_word (drop (end + 1) line)
    = at_drop_more first_word line end 0 high ∙ next (get_or line end 0) (drop (end + 1) line) other in
    ap (λ (xs : List ℕ). xs ++ first_word (drop (end + 1) line)) longer
    ∙ append_assoc (take (end - at) (drop at line)) (get_or line end 0 ∷ []) (first_word (drop (end + 1) line))
    ∙ ap (λ (xs : List ℕ). take (end - at) (drop at line) ++ xs) (sym first) ∙ so_far
  where
    next : (c : ℕ) (cs : List ℕ) → (c ≡ 32 → ⊥) → first_word (c ∷ cs) ≡ c ∷ first_word cs
    next c cs other = grind (arith, nat_tests)
