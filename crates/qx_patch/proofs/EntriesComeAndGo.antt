-- Ordered entries, once one comes or goes.
use Rattle.std.proofs.Common.{◌≡◌, ℕ, zero, suc, ◌+◌, ◌-◌, ◌<◌, ◌≤◌, List, [], ◌∷◌, length, get_or, insert, remove, refl, sym, ◌∙◌, ap, subst, arith, All, inl, inr}
use Rattle.std.proofs.lemmas.Bool.{cases_eq, cases_lt}
use Rattle.std.proofs.lemmas.List.Edits.{length-insert, get_or-insert_below, get_or-insert_at, get_or-insert_above, length-remove, get_or-remove_below, get_or-remove_above}
use Rattle.qx_patch.specs.declared.patch.Entry.{Entry}
use Rattle.qx_patch.specs.PatchView.{IsAscending, pairs_of}
use Rattle.qx_patch.proofs.EntryMaps.{keys_of}

-- the pairs, once an entry comes
pub pairs-insert : (entries : List Entry) (at : ℕ) (entry : Entry) → pairs_of (insert entries at entry) ≡ insert (pairs_of entries) at (entry.block, entry.bytes.items)
pairs-insert entries zero entry = refl
pairs-insert [] (suc at) entry = refl
pairs-insert (first ∷ entries) (suc at) entry = ap (λ pairs. (first.block, first.bytes.items) ∷ pairs) (pairs-insert entries at entry)

-- once one goes
pub pairs-remove : (entries : List Entry) (at : ℕ) → pairs_of (remove entries at) ≡ remove (pairs_of entries) at
pairs-remove [] zero = refl
pairs-remove (first ∷ entries) zero = refl
pairs-remove [] (suc at) = refl
pairs-remove (first ∷ entries) (suc at) = ap (λ pairs. (first.block, first.bytes.items) ∷ pairs) (pairs-remove entries at)

-- the numbers, once a pair comes
pub keys-insert : (pairs : List (ℕ × List ℕ)) (at b : ℕ) (bytes : List ℕ) → keys_of (insert pairs at (b, bytes)) ≡ insert (keys_of pairs) at b
keys-insert pairs zero b bytes = refl
keys-insert [] (suc at) b bytes = refl
keys-insert (pair ∷ pairs) (suc at) b bytes = ap (λ keys. pair.0 ∷ keys) (keys-insert pairs at b bytes)

-- once one goes
pub keys-remove : (pairs : List (ℕ × List ℕ)) (at : ℕ) → keys_of (remove pairs at) ≡ remove (keys_of pairs) at
keys-remove [] zero = refl
keys-remove (pair ∷ pairs) zero = refl
keys-remove [] (suc at) = refl
keys-remove (pair ∷ pairs) (suc at) = ap (λ keys. pair.0 ∷ keys) (keys-remove pairs at)

-- what holds of each element and of one more
pub All-insert : {A : Type 0} (P : A → Type 0) (xs : List A) (at : ℕ) (x : A) → at ≤ length xs → P x → All P xs → All P (insert xs at x)
All-insert P xs at x within here each = λ k d low. elim (cases_lt k at) [
  | inl less ↦ subst P (sym (get_or-insert_below xs at x d k less within)) (each k d (omega arith))
  | inr more ↦ elim (cases_eq k at) [
    | inl is ↦ subst P (sym (ap (λ j. get_or (insert xs at x) j d) is ∙ get_or-insert_at xs at x d within)) here
    | inr behind ↦
        let long : length (insert xs at x) ≡ length xs + 1 = length-insert xs at x within in
        let next : k - 1 + 1 ≡ k = omega arith in
        subst P (sym (ap (λ j. get_or (insert xs at x) j d) (sym next) ∙ get_or-insert_above xs at x d (k - 1) (omega arith) within)) (each (k - 1) d (omega arith))
  ]
]

-- what holds of each element holds of each other
pub All-remove : {A : Type 0} (P : A → Type 0) (xs : List A) (at : ℕ) → at < length xs → All P xs → All P (remove xs at)
All-remove P xs at within each = λ k d low.
    let long : length (remove xs at) + 1 ≡ length xs = length-remove xs at within in
    elim (cases_lt k at) [
      | inl less ↦ subst P (sym (get_or-remove_below xs at d k less within)) (each k d (omega arith))
      | inr more ↦ subst P (sym (get_or-remove_above xs at d k more within)) (each (k + 1) d (omega arith))
    ]

-- a number comes between those below it and those above
pub ascending-insert : (ns : List ℕ) (at b : ℕ) → at ≤ length ns → IsAscending ns → ((k : ℕ) → k < at → get_or ns k 0 < b) → ((k : ℕ) → at ≤ k → k < length ns → b < get_or ns k 0) → IsAscending (insert ns at b)
ascending-insert ns at b within ascending below above = record { rises = rises } where
  long : length (insert ns at b) ≡ length ns + 1
  long = length-insert ns at b within

  front : (k : ℕ) → k < at → get_or (insert ns at b) k 0 ≡ get_or ns k 0
  front k less = get_or-insert_below ns at b 0 k less within

  back : (k : ℕ) → at < k → get_or (insert ns at b) k 0 ≡ get_or ns (k - 1) 0
  back k more = let next : k - 1 + 1 ≡ k = omega arith in ap (λ j. get_or (insert ns at b) j 0) (sym next) ∙ get_or-insert_above ns at b 0 (k - 1) (omega arith) within

  middle : (k : ℕ) → k ≡ at → get_or (insert ns at b) k 0 ≡ b
  middle k is = ap (λ j. get_or (insert ns at b) j 0) is ∙ get_or-insert_at ns at b 0 within

  rises : (i j : ℕ) → i < j → j < length (insert ns at b) → get_or (insert ns at b) i 0 < get_or (insert ns at b) j 0
  rises i j less low = elim (cases_lt i at) [
    | inl i_front ↦ elim (cases_lt j at) [
      | inl j_front ↦ omega (arith, front i i_front, front j j_front, ascending.rises i j less (omega arith))
      | inr j_more ↦ elim (cases_eq j at) [
        | inl j_is ↦ omega (arith, front i i_front, middle j j_is, below i i_front)
        | inr j_back ↦ let behind : at < j = omega arith in omega (arith, front i i_front, back j behind, below i i_front, above (j - 1) (omega arith) (omega (arith, long)))
      ]
    ]
    | inr i_more ↦ let behind : at < j = omega arith in elim (cases_eq i at) [
      | inl i_is ↦ omega (arith, middle i i_is, back j behind, above (j - 1) (omega arith) (omega (arith, long)))
      | inr i_back ↦ let i_behind : at < i = omega arith in omega (arith, back i i_behind, back j behind, ascending.rises (i - 1) (j - 1) (omega arith) (omega (arith, long)))
    ]
  ]

-- a number goes
pub ascending-remove : (ns : List ℕ) (at : ℕ) → at < length ns → IsAscending ns → IsAscending (remove ns at)
ascending-remove ns at within ascending = record { rises = rises } where
  long : length (remove ns at) + 1 ≡ length ns
  long = length-remove ns at within

  rises : (i j : ℕ) → i < j → j < length (remove ns at) → get_or (remove ns at) i 0 < get_or (remove ns at) j 0
  rises i j less low = elim (cases_lt j at) [
    | inl j_front ↦ omega (arith, get_or-remove_below ns at 0 i (omega arith) within, get_or-remove_below ns at 0 j j_front within, ascending.rises i j less (omega (arith, long)))
    | inr j_back ↦ elim (cases_lt i at) [
      | inl i_front ↦ omega (arith, get_or-remove_below ns at 0 i i_front within, get_or-remove_above ns at 0 j j_back within, ascending.rises i (j + 1) (omega arith) (omega (arith, long)))
      | inr i_back ↦ omega (arith, get_or-remove_above ns at 0 i i_back within, get_or-remove_above ns at 0 j j_back within, ascending.rises (i + 1) (j + 1) (omega arith) (omega (arith, long)))
    ]
  ]
