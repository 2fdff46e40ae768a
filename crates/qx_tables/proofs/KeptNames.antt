-- Sets of names by their bytes: what a look-up finds, and what it finds once a name was put in.
use Rattle.std.proofs.Common.{◌≡◌, ℕ, inl, inr, List, [], ◌∷◌, refl, sym, ◌∙◌, ap}
use Rattle.std.specs.Prelude.{Bool, true, false, ◌||◌, bytes_eq, map}
use Rattle.std.specs.List.{list_any}
use Rattle.std.specs.Ordering.{is_eq, match_ordering, nat_cmp}
use Rattle.std.specs.declared.cmp.Ordering.{Ordering}
use Rattle.std.specs.declared.cmp.Ordering.TheVariants.{Less, Equal, Greater}
use Rattle.std.specs.BTreeMap.{is_at}
use Rattle.std.specs.BTreeSet.{insert_key}
use Rattle.std.specs.Cmp.Lexicographic.{slice_cmp}
use Rattle.std.proofs.lemmas.Bool.{cases_Bool}
use Rattle.std.proofs.lemmas.Map.Text.{is_eq-slice_cmp}
use Rattle.std.proofs.lemmas.Slice.Eq.{bytes_eq-Decides}

-- whether one of these names is that name
abbrev pub has_name : List (List ℕ) → List ℕ → Bool
has_name names name = list_any (λ other. bytes_eq other name) names

-- two names are equal either way round
bytes_eq-sym : (xs ys : List ℕ) → bytes_eq xs ys ≡ bytes_eq ys xs
bytes_eq-sym xs ys = elim (cases_Bool (bytes_eq xs ys)) [
  | inl equal ↦ equal ∙ sym ((bytes_eq-Decides ys xs).1 (sym ((bytes_eq-Decides xs ys).0 equal)))
  | inr differ ↦ elim (cases_Bool (bytes_eq ys xs)) [
    | inl equal ↦ let turned : bytes_eq xs ys ≡ true = (bytes_eq-Decides xs ys).1 (sym ((bytes_eq-Decides ys xs).0 equal)) in absurd (cc)
    | inr other ↦ differ ∙ sym other
  ]
]

-- what is met first doesn't matter
pub or_swap : (a b r : Bool) → (a || (b || r)) ≡ (b || (a || r))
or_swap true true r = refl
or_swap true false r = refl
or_swap false b r = refl

-- nor how often
or_twice : (a r : Bool) → (a || r) ≡ (a || (a || r))
or_twice true r = refl
or_twice false r = refl

module _ {K : Type 0} (bytes : K → List ℕ) where
  -- the order of keys, by their bytes
  abbrev pub key_cmp : K → K → Ordering
  key_cmp a b = slice_cmp nat_cmp (bytes a) (bytes b)

  -- a look-up finds the name where a key has it
  pub found_name : (name : List ℕ) (keys : List K) → list_any (is_at (λ k. slice_cmp nat_cmp name (bytes k))) keys ≡ has_name (map bytes keys) name
  found_name name [] = refl
  found_name name (k ∷ keys) = λ i. (is_eq-slice_cmp name (bytes k) ∙ bytes_eq-sym name (bytes k)) i || found_name name keys i

  -- once a key is in, its name is found as well, and no other
  pub inserted_name : (key : K) (keys : List K) (name : List ℕ) → has_name (map bytes (insert_key key_cmp keys key)) name ≡ (bytes_eq (bytes key) name || has_name (map bytes keys) name)
  inserted_name key [] name = refl
  inserted_name key (k ∷ keys) name = go (key_cmp key k) refl (inserted_name key keys name)
    where
      go : (o : Ordering) → key_cmp key k ≡ o → has_name (map bytes (insert_key key_cmp keys key)) name ≡ (bytes_eq (bytes key) name || has_name (map bytes keys) name)
          → has_name (map bytes (match_ordering o (key ∷ k ∷ keys) (k ∷ keys) (k ∷ insert_key key_cmp keys key))) name ≡ (bytes_eq (bytes key) name || has_name (map bytes (k ∷ keys)) name)
      go Less e more = refl
      go Equal e more =
          let same : bytes key ≡ bytes k = (bytes_eq-Decides (bytes key) (bytes k)).0 (sym (is_eq-slice_cmp (bytes key) (bytes k)) ∙ ap is_eq e) in
          or_twice (bytes_eq (bytes k) name) (has_name (map bytes keys) name) ∙ ap (λ b. bytes_eq b name || (bytes_eq (bytes k) name || has_name (map bytes keys) name)) (sym same)
      go Greater e more = ap (λ b. bytes_eq (bytes k) name || b) more ∙ or_swap (bytes_eq (bytes k) name) (bytes_eq (bytes key) name) (has_name (map bytes keys) name)

-- a set with one more key has one more name
pub more_names : {K : Type 0} (bytes : K → List ℕ) (olds news : List K) (key : K) (name : List ℕ) (names : List (List ℕ)) → ((n : List ℕ) → has_name (map bytes olds) n ≡ has_name names n)
    → news ≡ insert_key (key_cmp bytes) olds key → bytes key ≡ name → (n : List ℕ) → has_name (map bytes news) n ≡ has_name (name ∷ names) n
more_names bytes olds news key name names h e same n =
    ap (λ ks. has_name (map bytes ks) n) e ∙ inserted_name bytes key olds n ∙ ap (λ b. bytes_eq (bytes key) n || b) (h n) ∙ ap (λ (x : List ℕ). bytes_eq x n || has_name names n) same
