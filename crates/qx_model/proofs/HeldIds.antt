-- The held blocks are those in use, each counted once.
use Rattle.std.proofs.Common.{◌≡◌, ℕ, ◌↔◌, inl, inr, List, [], ◌∷◌, ◌++◌, length, refl, sym, ◌∙◌, subst, arith}
use Rattle.std.specs.Prelude.{Bool, true, false, Contains, Option, Some, None}
use Rattle.std.proofs.lemmas.List.Elements.{Contains-append_cases, Contains-append_left, Contains-append_right}
use Rattle.qx_geom.specs.Lists.{Distinct, is_in}
use Rattle.qx_geom.proofs.ImagesAndFilters.{Contains-in, in_Contains}
use Rattle.qx_geom.proofs.Members.{Contains-cases, Contains-cons, Contains-head}
use Rattle.qx_geom.proofs.Truths.{not_so, true_or_false}
use Rattle.qx_model.specs.Machine.{Copy, Frozen, Machine}
use Rattle.qx_model.specs.TreePositions.{positions_of}
use Rattle.qx_model.specs.Space.{different_count, durable_ids, held_count, ids_of, ids_of_frozen, snapshot_ids, working_ids}
use Rattle.qx_model.specs.IdReadings.{AreIdsInUse, HasFrozenId, HasId, IsUsed}
use Rattle.qx_model.proofs.DifferentNumbers.{counted, fewer_different}
use Rattle.qx_model.proofs.ListMembers.{Contains-map, map-Contains}
use Rattle.qx_model.proofs.TreeNodes.{listed_position, position_listed}

-- ---- lists without doubles

-- such a list counts whole
distinct_count : (xs : List ℕ) → Distinct xs → different_count xs ≡ length xs
distinct_count [] d = refl
distinct_count (x ∷ xs) d =
    let rest = distinct_count xs d.1 in
    let first : is_in xs x ≡ false = not_so (is_in xs x) (λ m. d.0 (Contains-in xs x m)) in
    omega (arith, counted false x xs first, rest)

-- two lists with the same members have as many different numbers
same_count : (xs ys : List ℕ) → ((i : ℕ) → Contains xs i ↔ Contains ys i) → different_count xs ≡ different_count ys
same_count xs ys same =
    let up = fewer_different xs ys (λ i m. in_Contains ys i ((same i).0 (Contains-in xs i m))) in
    let down = fewer_different ys xs (λ i m. in_Contains xs i ((same i).1 (Contains-in ys i m))) in
    omega arith

-- a list without the doubles of another
record Undoubled (xs : List ℕ) : Type 0 where
  members : List ℕ
  once : Distinct members
  same : (i : ℕ) → Contains members i ↔ Contains xs i

undoubled : (xs : List ℕ) → Undoubled xs
undoubled [] = record { members = []; once = tt; same = λ i. (λ c. c, λ c. c) }
undoubled (x ∷ xs) = go (is_in xs x) refl (undoubled xs)
  where
    go : (b : Bool) → is_in xs x ≡ b → Undoubled xs → Undoubled (x ∷ xs)
    go true there u = record {
      members = u.members;
      once = u.once;
      same = λ i. (
        λ c. Contains-cons x i xs ((u.same i).0 c),
        λ c. elim (Contains-cases x i xs c) [
          | inl is ↦ (u.same i).1 (subst (Contains xs) is (Contains-in xs x there))
          | inr h ↦ (u.same i).1 h
        ],
      );
    }
    go false none u = record {
      members = x ∷ u.members;
      once = (λ c. true_or_false (is_in xs x) (in_Contains xs x ((u.same x).0 c)) none, u.once);
      same = λ i. (
        λ c. elim (Contains-cases x i u.members c) [
          | inl is ↦ subst (Contains (x ∷ xs)) is (Contains-head x xs)
          | inr h ↦ Contains-cons x i xs ((u.same i).0 h)
        ],
        λ c. elim (Contains-cases x i xs c) [
          | inl is ↦ subst (Contains (x ∷ u.members)) is (Contains-head x u.members)
          | inr h ↦ Contains-cons x i u.members ((u.same i).1 h)
        ],
      );
    }

-- ---- ids in use

id_listed : (blocksize : ℕ) (c : Copy) (i : ℕ) → HasId blocksize c i → Contains (ids_of blocksize c) i
id_listed blocksize c i (p, h, is) = subst (Contains (ids_of blocksize c)) is (Contains-map c.ids (positions_of blocksize c.tree) p (position_listed blocksize c.tree p h))

listed_id : (blocksize : ℕ) (c : Copy) (i : ℕ) → Contains (ids_of blocksize c) i → HasId blocksize c i
listed_id blocksize c i l = let r = map-Contains c.ids (positions_of blocksize c.tree) i l in (r.0, listed_position blocksize c.tree r.0 r.1, r.2)

frozen_listed : (blocksize : ℕ) (o : Option Frozen) (i : ℕ) → HasFrozenId blocksize o i → Contains (ids_of_frozen blocksize o) i
frozen_listed blocksize None i h = absurd h
frozen_listed blocksize (Some p) i h = id_listed blocksize p.snapshot.copy i h

listed_frozen : (blocksize : ℕ) (o : Option Frozen) (i : ℕ) → Contains (ids_of_frozen blocksize o) i → HasFrozenId blocksize o i
listed_frozen blocksize None i l = absurd (omega (arith, l.1))
listed_frozen blocksize (Some p) i l = listed_id blocksize p.snapshot.copy i l

-- the ids of all copies
all_ids : Machine → List ℕ
all_ids s = working_ids s ++ snapshot_ids s

used_listed : (s : Machine) (i : ℕ) → IsUsed s i → Contains (all_ids s) i
unfolding all_ids
used_listed s i (inl w) = Contains-append_left (working_ids s) (snapshot_ids s) i (id_listed s.volume.blocksize s.working i w)
used_listed s i (inr (inl d)) =
    Contains-append_right (working_ids s) (snapshot_ids s) i
    (Contains-append_right (ids_of_frozen s.volume.blocksize s.frozen) (durable_ids s) i (id_listed s.volume.blocksize s.durable.copy i d))
used_listed s i (inr (inr f)) =
    Contains-append_right (working_ids s) (snapshot_ids s) i
    (Contains-append_left (ids_of_frozen s.volume.blocksize s.frozen) (durable_ids s) i (frozen_listed s.volume.blocksize s.frozen i f))

listed_used : (s : Machine) (i : ℕ) → Contains (all_ids s) i → IsUsed s i
unfolding all_ids
listed_used s i l = elim (Contains-append_cases (working_ids s) (snapshot_ids s) i l) [
  | inl w ↦ inl (listed_id s.volume.blocksize s.working i w)
  | inr k ↦ elim (Contains-append_cases (ids_of_frozen s.volume.blocksize s.frozen) (durable_ids s) i k) [
    | inl f ↦ inr (inr (listed_frozen s.volume.blocksize s.frozen i f))
    | inr d ↦ inr (inl (listed_id s.volume.blocksize s.durable.copy i d))
  ]
]

-- there is a list of the ids in use
pub used_list : (s : Machine) → (ids : List ℕ) × AreIdsInUse s ids
used_list s =
    let u = undoubled (all_ids s) in
    (u.members, record { once = u.once; used = λ i. (λ c. listed_used s i ((u.same i).0 c), λ h. (u.same i).1 (used_listed s i h)) })

-- and each such list is as long as blocks are held
pub used_count : (s : Machine) (ids : List ℕ) → AreIdsInUse s ids → length ids ≡ held_count s
unfolding all_ids
used_count s ids a =
    sym (distinct_count ids a.once) ∙ same_count ids (all_ids s) (λ i. (λ c. used_listed s i ((a.used i).0 c), λ c. (a.used i).1 (listed_used s i c)))
