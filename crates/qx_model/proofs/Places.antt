-- The place that a path names: a directory of the tree, and a plain name that isn't reserved.
use Rattle.std.proofs.Common.{◌≡◌, ℕ, zero, suc, ◌<◌, ◌≤◌, inl, inr, List, length, refl, sym, ap, ◌∙◌, subst, arith, get_or}
use Rattle.std.specs.Prelude.{IsTrue, IfSome, Bool, true, false, not, ◌&&◌, Option, Some, None, Result, Ok, Err, ok_or, cond, bytes_eq, is_some, nat_lt, nat_le, ◌==◌, if◌then◌else◌, option_and_then, slice_get, unwrap_or}
use Rattle.std.specs.List.{list_any, last_or, position_or_len}
use Rattle.std.proofs.lemmas.Bool.{cases_lt, leb-true, lt-ltb, ltb-false, ltb-true}
use Rattle.std.proofs.lemmas.List.Sums.{fails_before_first, passes_at_first}
use Rattle.std.proofs.lemmas.Slice.Eq.{bytes_eq-Decides}
use Rattle.std.proofs.lemmas.Option.{slice_get-get_or, slice_get_within, get_or_from_slice_get}
use Rattle.qx_geom.proofs.Truths.{and_left, and_right, true_or_false}
use Rattle.qx_path.specs.declared.fault.PathFault.{PathFault}
use Rattle.qx_path.specs.declared.fault.PathFault.TheVariants as fault
use Rattle.qx_path.specs.PathParts.{PathParts, is_name, last_name, parts_of, path_of}
use Rattle.qx_path.specs.Names.{is_empty, names_in}
use Rattle.qx_path.proofs.NamesOfPaths.{name-last_or, names-of_path}
use Rattle.qx_model.specs.declared.refusal.Refusal.{Refusal}
use Rattle.qx_model.specs.declared.refusal.Refusal.TheVariants as refusal
use Rattle.qx_model.specs.Outcomes.{◌>>=◌, ◌>>◌, refuse_if}
use Rattle.qx_model.specs.Tree.{Row, Slot, Tree, Unused, is_dots, slots_of}
use Rattle.qx_model.specs.Rooted.{is_plain}
use Rattle.qx_model.specs.Directories.{has_name, inode_named, inode_of_slot, is_directory, record_of, slot_at}
use Rattle.qx_model.specs.Paths.{Named, Place, named, parent_at, parents_of, parsed, path_or, place_at, start_of_walk, walk, Followed, links_allowed}
use Rattle.qx_model.proofs.Outlines.{slot_in}

-- what a place is
pub record IsPlace (t : Tree) (p : Place) : Type 0 where
  pub directory : is_directory t p.directory ≡ true
  pub plain : IsTrue (is_plain p.name)
  pub some : 0 < length p.name
  pub most : length p.name ≤ 510
  pub not_dots : is_dots p.name ≡ false

-- ---- parts of a definition by `do`

-- where the whole is a value, the first part is one, and the rest of it
pub ok_value : {A B : Type 0} (x : Result A Refusal) (rest : A → Result B Refusal) (b : B) → (x >>= rest) ≡ Ok b → (a : A) × (x ≡ Ok a) × (rest a ≡ Ok b)
ok_value (Ok a) rest b h = (a, refl, h)
ok_value (Err e) rest b h = absurd (cc)

-- where a test may refuse, it did not
pub ok_test : {B : Type 0} (test : Bool) (e : Refusal) (rest : Result B Refusal) (b : B) → (refuse_if test e >> rest) ≡ Ok b → (test ≡ false) × (rest ≡ Ok b)
ok_test true e rest b h = absurd (cc)
ok_test false e rest b h = (refl, h)

-- where an Option may refuse, it had a value
pub ok_some : {A : Type 0} (o : Option A) (e : Refusal) (a : A) → ok_or o e ≡ Ok a → o ≡ Some a
ok_some None e a h = absurd (cc)
ok_some (Some x) e a h = let same : x ≡ a = cc in ap (λ y. Some y) same

-- what is false when negated is true
pub not_false : (b : Bool) → not b ≡ false → b ≡ true
not_false true h = refl
not_false false h = absurd (cc)

-- ---- names

-- a parsed path is what the bytes say
parsed_is : (bytes : List ℕ) (p : PathParts) → parsed bytes ≡ Ok p → path_of bytes ≡ Ok p
parsed_is bytes p h = go (path_of bytes) h
  where
    go : (r : Result PathParts PathFault) → path_or r ≡ Ok p → r ≡ Ok p
    go (Ok q) h = let same : q ≡ p = cc in ap (λ x. Ok x) same
    go (Err e) h = absurd (cc)

path_parts : (a b c d : Bool) (x y z w : PathFault) (p q : PathParts) → (if a then Err x else if b then Err y else if c then Err z else if d then Err w else Ok p) ≡ Ok q → p ≡ q
path_parts true b c d x y z w p q h = absurd (cc)
path_parts false true c d x y z w p q h = absurd (cc)
path_parts false false true d x y z w p q h = absurd (cc)
path_parts false false false true x y z w p q h = absurd (cc)
path_parts false false false false x y z w p q h = cc

parts_are : (bytes : List ℕ) (p : PathParts) → path_of bytes ≡ Ok p → parts_of bytes ≡ p
parts_are bytes p h =
    path_parts (is_empty bytes) (nat_lt 1023 (length bytes)) (list_any (λ byte. byte == 0) bytes) (list_any (λ name. nat_lt 510 (length name)) (names_in bytes)) _ _ _ _ (parts_of bytes) p h

-- a parsed path has 1 to 1,023 bytes
pub path_long : (bytes : List ℕ) (p : PathParts) → parsed bytes ≡ Ok p → (0 < length bytes) × (length bytes < 1024)
path_long bytes p h = go (is_empty bytes) (nat_lt 1023 (length bytes)) refl refl (parsed_is bytes p h)
  where
    positive : (n : ℕ) → (n == 0) ≡ false → 0 < n
    positive zero h = absurd (cc)
    positive (suc n) h = omega arith

    go : (a b : Bool) → is_empty bytes ≡ a → nat_lt 1023 (length bytes) ≡ b
        → (if a then Err fault.Empty else if b then Err fault.TooLong else if list_any (λ byte. byte == 0) bytes then Err fault.ZeroByte else if list_any (λ name. nat_lt 510 (length name)) (names_in bytes) then Err fault.NameTooLong else Ok (parts_of bytes)) ≡ Ok p
        → (0 < length bytes) × (length bytes < 1024)
    go true b empty long h = absurd (cc)
    go false true empty long h = absurd (cc)
    go false false empty long h = (positive (length bytes) empty, omega (arith, ltb-false 1023 (length bytes) long))

-- the last name of a path is one
last_is_name : (bytes : List ℕ) (p : PathParts) (name : List ℕ) → path_of bytes ≡ Ok p → last_name p ≡ Some name → is_name name ≡ true
last_is_name bytes p name h is =
    let same = parts_are bytes p h in
    let all = names-of_path bytes (h ∙ ap (λ x. Ok x) (sym same)) in
    let some : last_or None (names_in bytes) ≡ Some name = ap last_name same ∙ is in
    subst (λ o. IfSome o (λ name. is_name name ≡ true)) some (name-last_or None (names_in bytes) tt all)

-- so it is plain
name_plain : (name : List ℕ) → is_name name ≡ true → IsTrue (is_plain name)
name_plain name good = and_right (nat_lt 0 (length name) && nat_le (length name) 510) (is_plain name) good

-- and has 1 to 510 bytes
name_some : (name : List ℕ) → is_name name ≡ true → 0 < length name
name_some name good = ltb-true 0 (length name) (and_left (nat_lt 0 (length name)) (nat_le (length name) 510) (and_left (nat_lt 0 (length name) && nat_le (length name) 510) (is_plain name) good))

name_most : (name : List ℕ) → is_name name ≡ true → length name ≤ 510
name_most name good = leb-true (length name) 510 (and_right (nat_lt 0 (length name)) (nat_le (length name) 510) (and_left (nat_lt 0 (length name) && nat_le (length name) 510) (is_plain name) good))

-- a name at the end of a path, in a directory
place_is : (t : Tree) (bytes : List ℕ) (p : PathParts) (n : Named) (d : ℕ) → parsed bytes ≡ Ok p → (last_name p ≡ Some n.name) × (is_dots n.name ≡ false) → is_directory t d ≡ true → IsPlace t (record { directory = d; name = n.name })
place_is t bytes p n d read facts dir =
    let good = last_is_name bytes p n.name (parsed_is bytes p read) facts.0 in
    record { directory = dir; plain = name_plain n.name good; some = name_some n.name good; most = name_most n.name good; not_dots = facts.1 }

-- ---- places

named_facts : (p : PathParts) (n : Named) → named p ≡ Ok n → (last_name p ≡ Some n.name) × (is_dots n.name ≡ false)
named_facts p n h =
    let a = ok_value (ok_or (last_name p) refusal.Reserved) _ n h in
    let b = ok_test (is_dots a.0) refusal.Reserved (Ok (record { parents = parents_of p; name = a.0 })) n a.2 in
    let m : Named = record { parents = parents_of p; name = a.0 } in
    let same : m ≡ n = cc in
    let name : a.0 ≡ n.name = ap (λ (x : Named). x.name) same in
    (ok_some (last_name p) refusal.Reserved a.0 a.1 ∙ ap (λ x. Some x) name, subst (λ x. is_dots x ≡ false) name b.0)

parent_facts : (t : Tree) (base : Option ℕ) (n : Named) (d : ℕ) → parent_at t base n ≡ Ok d → is_directory t d ≡ true
parent_facts t base n d h =
    let a = ok_value (start_of_walk n.parents base) _ d h in
    let b = ok_value (walk links_allowed t Followed a.0 n.parents.names) _ d a.2 in
    let c = ok_test (not (is_directory t b.0)) refusal.NotDir (Ok b.0) d b.2 in
    let same : b.0 ≡ d = cc in
    subst (λ x. is_directory t x ≡ true) same (not_false (is_directory t b.0) c.0)

-- a place that a path names has a directory and a plain name
pub place_facts : (t : Tree) (base : Option ℕ) (bytes : List ℕ) (p : Place) → place_at t base bytes ≡ Ok p → IsPlace t p
place_facts t base bytes p h =
    let a = ok_value (parsed bytes) _ p h in
    let b = ok_value (named a.0) _ p a.2 in
    let c = ok_value (parent_at t base b.0) _ p b.2 in
    let q : Place = record { directory = c.0; name = b.0.name } in
    let same : q ≡ p = cc in
    subst (IsPlace t) same (place_is t bytes a.0 b.0 c.0 a.1 (named_facts a.0 b.0 b.1) (parent_facts t base b.0 c.0 c.1))

-- the same of a path that was read before
pub place_of : (t : Tree) (base : Option ℕ) (bytes : List ℕ) (p : PathParts) (n : Named) (d : ℕ) → parsed bytes ≡ Ok p → named p ≡ Ok n → parent_at t base n ≡ Ok d → IsPlace t (record { directory = d; name = n.name })
place_of t base bytes p n d read is at = place_is t bytes p n d read (named_facts p n is) (parent_facts t base n d at)

-- ---- names that aren't taken

-- bytes are themselves
itself : (bytes : List ℕ) → bytes_eq bytes bytes ≡ true
itself bytes = (bytes_eq-Decides bytes bytes).1 refl

-- a name that no record is found for is no row's
pub not_taken : (t : Tree) (d : ℕ) (name : List ℕ) → is_some (inode_named t d name) ≡ false → (k i : ℕ) (long : Option ℕ) → slot_in (slots_of t d) k ≡ Row i name long → ⊥
not_taken t d name none k i long h = go (slice_get (slots_of t d) k) refl h
  where
    n : ℕ
    n = position_or_len (has_name name) (slots_of t d)

    found : (s : Slot) → slot_at t d (position_or_len (has_name name) (slots_of t d)) ≡ s → has_name name s ≡ true
        → nat_lt (position_or_len (has_name name) (slots_of t d)) (length (slots_of t d)) ≡ true → ⊥
    found Unused is has below = absurd (cc)
    found (Row m other l) is has below =
        let at : record_of t d name ≡ Some (position_or_len (has_name name) (slots_of t d)) = ap (λ b. cond b (Some (position_or_len (has_name name) (slots_of t d))) None) below in
        let inode : inode_named t d name ≡ Some m = ap (option_and_then (λ k. inode_of_slot (slot_at t d k))) at ∙ ap inode_of_slot is in
        true_or_false (is_some (inode_named t d name)) (ap is_some inode) none

    go : (o : Option Slot) → slice_get (slots_of t d) k ≡ o → unwrap_or o Unused ≡ Row i name long → ⊥
    go None is h = absurd (cc)
    go (Some s) is h =
        let at : get_or (slots_of t d) k Unused ≡ Row i name long = get_or_from_slice_get (slots_of t d) k s Unused is ∙ h in
        let has : has_name name (get_or (slots_of t d) k Unused) ≡ true = ap (has_name name) at ∙ itself name in
        let within : k < length (slots_of t d) = slice_get_within (slots_of t d) k s is in
        elim (cases_lt k (position_or_len (has_name name) (slots_of t d))) [
          | inl before ↦ true_or_false (has_name name (get_or (slots_of t d) k Unused)) has (fails_before_first (has_name name) (slots_of t d) k Unused before)
          | inr behind ↦
              let below : position_or_len (has_name name) (slots_of t d) < length (slots_of t d) = omega arith in
              let there = slice_get-get_or (slots_of t d) (position_or_len (has_name name) (slots_of t d)) Unused below in
              found (get_or (slots_of t d) (position_or_len (has_name name) (slots_of t d)) Unused) (ap (λ o. unwrap_or o Unused) there)
              (passes_at_first (has_name name) (slots_of t d) Unused below) (lt-ltb (position_or_len (has_name name) (slots_of t d)) (length (slots_of t d)) below)
        ]
