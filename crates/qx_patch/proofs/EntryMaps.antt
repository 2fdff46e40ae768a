-- A list of entries as a map, once one entry comes, changes or goes.
use Rattle.std.proofs.Common.{◌≡◌, ◌≢◌, ℕ, zero, suc, ◌<◌, ◌≤◌, Bool, true, false, cond, List, [], ◌∷◌, length, map, get_or, set, insert, remove, inl, inr, Some, None, refl, sym, ◌∙◌, ap, arith}
use Rattle.std.specs.Ordering.{nat_cmp, eq_by_cmp, is_eq}
use Rattle.std.specs.declared.cmp.Ordering.TheVariants.{Equal}
use Rattle.std.specs.Cmp.{Equal-is, nat_cmp_is}
use Rattle.std.proofs.lemmas.Cmp.{nat_cmp_total}
use Rattle.std.proofs.lemmas.Bool.{cases_eq}
use Rattle.std.specs.FinMap as fin
use Rattle.std.specs.FinMap.{find, from_entries, same_map, nat_cmp-IsAntisymmetric, get-insert, get-remove, get-from_entries}

-- the keys of entries
abbrev pub keys_of : List (ℕ × List ℕ) → List ℕ
keys_of entries = map (λ entry. entry.0) entries

-- a key and itself
pub tied : (q k : ℕ) → q ≡ k → eq_by_cmp nat_cmp q k ≡ true
tied q k same = ap is_eq (sym (nat_cmp_is q k Equal same))

-- two keys that differ
pub apart : (q k : ℕ) → q ≢ k → eq_by_cmp nat_cmp q k ≡ false
apart q k differ = elim (eq_by_cmp nat_cmp q k) as (λ t. eq_by_cmp nat_cmp q k ≡ t → t ≡ false) [
  | true ↦ λ h. absurd (differ (nat_cmp-IsAntisymmetric q k ((Equal-is (nat_cmp q k)).0 h)))
  | false ↦ λ _. refl
] refl

-- two tests for different keys, in either order
swapped : {A : Type 0} (q x y : ℕ) (a b c : A) → x ≢ y → cond (eq_by_cmp nat_cmp q x) a (cond (eq_by_cmp nat_cmp q y) b c) ≡ cond (eq_by_cmp nat_cmp q y) b (cond (eq_by_cmp nat_cmp q x) a c)
swapped q x y a b c differ = elim (cases_eq q x) [
  | inl is ↦ let other : q ≢ y = λ e. differ (sym is ∙ e) in rw (apart q y other) refl
  | inr other ↦ rw (apart q x other) refl
]

-- a key that no entry has
pub find-absent : (entries : List (ℕ × List ℕ)) (q : ℕ) → ((j : ℕ) → j < length entries → get_or (keys_of entries) j 0 ≢ q) → find nat_cmp q entries ≡ None
find-absent [] q absent = refl
find-absent (entry ∷ entries) q absent =
    let other : q ≢ entry.0 = λ e. absent 0 (omega arith) (sym e) in
    rw (apart q entry.0 other) (find-absent entries q (λ j low. absent (suc j) (omega arith)))

-- the key of an entry, which no earlier one has
pub find-at : (entries : List (ℕ × List ℕ)) (i q : ℕ) → i < length entries → get_or (keys_of entries) i 0 ≡ q → ((j : ℕ) → j < i → get_or (keys_of entries) j 0 ≢ q)
    → find nat_cmp q entries ≡ Some (get_or (map (λ entry. entry.1) entries) i [])
find-at [] i q low is before = absurd (omega arith)
find-at (entry ∷ entries) zero q low is before = rw (tied q entry.0 (sym is)) refl
find-at (entry ∷ entries) (suc i) q low is before =
    let other : q ≢ entry.0 = λ e. before 0 (omega arith) (sym e) in
    rw (apart q entry.0 other) (find-at entries i q (omega arith) is (λ j less. before (suc j) (omega arith)))

-- an entry comes, and none before it has its key
pub find-insert : (entries : List (ℕ × List ℕ)) (i k : ℕ) (v : List ℕ) (q : ℕ) → i ≤ length entries → ((j : ℕ) → j < i → get_or (keys_of entries) j 0 ≢ k)
    → find nat_cmp q (insert entries i (k, v)) ≡ cond (eq_by_cmp nat_cmp q k) (Some v) (find nat_cmp q entries)
find-insert entries zero k v q low before = refl
find-insert [] (suc i) k v q low before = absurd (omega arith)
find-insert (entry ∷ entries) (suc i) k v q low before =
    ap (cond (eq_by_cmp nat_cmp q entry.0) (Some entry.1)) (find-insert entries i k v q (omega arith) (λ j less. before (suc j) (omega arith)))
    ∙ swapped q entry.0 k (Some entry.1) (Some v) (find nat_cmp q entries) (before 0 (omega arith))

-- an entry changes, and none before it has its key
pub find-set : (entries : List (ℕ × List ℕ)) (i k : ℕ) (v : List ℕ) (q : ℕ) → i < length entries → get_or (keys_of entries) i 0 ≡ k → ((j : ℕ) → j < i → get_or (keys_of entries) j 0 ≢ k)
    → find nat_cmp q (set entries i (k, v)) ≡ cond (eq_by_cmp nat_cmp q k) (Some v) (find nat_cmp q entries)
find-set [] i k v q low is before = absurd (omega arith)
find-set (entry ∷ entries) zero k v q low is before =
    rw is (shadowed (eq_by_cmp nat_cmp q k) (Some v) (Some entry.1) (find nat_cmp q entries)) where
      shadowed : {A : Type 0} (t : Bool) (a b c : A) → cond t a c ≡ cond t a (cond t b c)
      shadowed true a b c = refl
      shadowed false a b c = refl
find-set (entry ∷ entries) (suc i) k v q low is before =
    ap (cond (eq_by_cmp nat_cmp q entry.0) (Some entry.1)) (find-set entries i k v q (omega arith) is (λ j less. before (suc j) (omega arith)))
    ∙ swapped q entry.0 k (Some entry.1) (Some v) (find nat_cmp q entries) (before 0 (omega arith))

-- an entry goes, and no other has its key
pub find-remove : (entries : List (ℕ × List ℕ)) (i k q : ℕ) → i < length entries → get_or (keys_of entries) i 0 ≡ k → ((j : ℕ) → j < length entries → j ≢ i → get_or (keys_of entries) j 0 ≢ k)
    → find nat_cmp q (remove entries i) ≡ cond (eq_by_cmp nat_cmp q k) None (find nat_cmp q entries)
find-remove [] i k q low is others = absurd (omega arith)
find-remove (entry ∷ entries) zero k q low is others = elim (cases_eq q k) [
  | inl same ↦ rw (tied q k same) (find-absent entries q (λ j less e. others (suc j) (omega arith) (omega arith) (e ∙ same)))
  | inr differ ↦ let other : q ≢ entry.0 = λ e. differ (e ∙ is) in rw (apart q k differ, apart q entry.0 other) refl
]
find-remove (entry ∷ entries) (suc i) k q low is others =
    ap (cond (eq_by_cmp nat_cmp q entry.0) (Some entry.1)) (find-remove entries i k q (omega arith) is (λ j less differ. others (suc j) (omega arith) (λ e. differ (omega arith))))
    ∙ swapped q entry.0 k (Some entry.1) None (find nat_cmp q entries) (others 0 (omega arith) (omega arith))

-- the map of the entries, once one comes
pub map-insert : (entries : List (ℕ × List ℕ)) (i k : ℕ) (v : List ℕ) → i ≤ length entries → ((j : ℕ) → j < i → get_or (keys_of entries) j 0 ≢ k)
    → from_entries {R = nat_cmp} (insert entries i (k, v)) ≡ fin.insert (from_entries entries) k v
map-insert entries i k v low before = same_map nat_cmp_total nat_cmp-IsAntisymmetric _ _
    (λ q. get-from_entries nat_cmp_total (insert entries i (k, v)) q ∙ find-insert entries i k v q low before
    ∙ sym (get-insert nat_cmp_total (from_entries entries) k v q ∙ ap (cond (eq_by_cmp nat_cmp q k) (Some v)) (get-from_entries nat_cmp_total entries q)))

-- once one changes
pub map-set : (entries : List (ℕ × List ℕ)) (i k : ℕ) (v : List ℕ) → i < length entries → get_or (keys_of entries) i 0 ≡ k → ((j : ℕ) → j < i → get_or (keys_of entries) j 0 ≢ k)
    → from_entries {R = nat_cmp} (set entries i (k, v)) ≡ fin.insert (from_entries entries) k v
map-set entries i k v low is before = same_map nat_cmp_total nat_cmp-IsAntisymmetric _ _
    (λ q. get-from_entries nat_cmp_total (set entries i (k, v)) q ∙ find-set entries i k v q low is before
    ∙ sym (get-insert nat_cmp_total (from_entries entries) k v q ∙ ap (cond (eq_by_cmp nat_cmp q k) (Some v)) (get-from_entries nat_cmp_total entries q)))

-- once one goes
pub map-remove : (entries : List (ℕ × List ℕ)) (i k : ℕ) → i < length entries → get_or (keys_of entries) i 0 ≡ k → ((j : ℕ) → j < length entries → j ≢ i → get_or (keys_of entries) j 0 ≢ k)
    → from_entries {R = nat_cmp} (remove entries i) ≡ fin.remove (from_entries entries) k
map-remove entries i k low is others = same_map nat_cmp_total nat_cmp-IsAntisymmetric _ _
    (λ q. get-from_entries nat_cmp_total (remove entries i) q ∙ find-remove entries i k q low is others
    ∙ sym (get-remove nat_cmp_total (from_entries entries) k q ∙ ap (cond (eq_by_cmp nat_cmp q k) None) (get-from_entries nat_cmp_total entries q)))
