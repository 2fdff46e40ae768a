-- Rename leaves a tree rooted.
use Rattle.std.proofs.Common.{◌≡◌, ℕ, List, refl}
use Rattle.std.specs.Prelude.{◌≢◌, Bool, true, false, not, ◌&&◌, Option, Some, None, Result, Ok, Err, ok_or, is_some, ◌==◌, if◌then◌else◌, option_and_then, option_map}
use Rattle.std.proofs.lemmas.Bool.{eq-eqb}
use Rattle.qx_geom.proofs.Truths.{true_or_false}
use Rattle.qx_model.specs.declared.reply.Reply.TheVariants as reply
use Rattle.qx_model.specs.declared.refusal.Refusal.{Refusal}
use Rattle.qx_model.specs.declared.refusal.Refusal.TheVariants as refusal
use Rattle.qx_model.specs.Outcomes.{◌>>=◌, ◌>>◌, refuse_if}
use Rattle.qx_model.specs.Tree.{Tree}
use Rattle.qx_model.specs.Rooted.{IsRooted}
use Rattle.qx_model.specs.Directories.{inode_named, inode_of_slot, is_bare, is_directory, is_within, record_of, slot_at}
use Rattle.qx_model.specs.Paths.{Named, Place, named, parent_at, parsed}
use Rattle.qx_model.specs.Edits.{Setting}
use Rattle.qx_model.specs.Effects.{Answers, Edits, Effect}
use Rattle.qx_model.specs.LostNames.{RowAt, moved_onto, moved_to, refuse_into, refuse_onto, rename, rename_to, replace, row_at, row_in}
use Rattle.qx_model.proofs.Outlines.{outline_of, slot_in, to_rooted}
use Rattle.qx_model.proofs.EditOutlines.{directory_at, directory_outline}
use Rattle.qx_model.proofs.Places.{IsPlace, ok_some, ok_test, place_of}
use Rattle.qx_model.proofs.RootedContents.{KeepsRooted, answers_keeps, edit_keeps, refuse_keeps, refused_keeps, rest_keeps}
use Rattle.qx_model.proofs.RootedNames.{plain_outline}
use Rattle.qx_model.proofs.RootedRemovals.{IsRow, bare_silent, named_live, plain_silent, row_is}
use Rattle.qx_model.proofs.RootedMoves.{moved_to_rooted}
use Rattle.qx_model.proofs.RootedReplacements.{moved_onto_rooted}

-- the rest of a definition by `do` after a test of several parts
tests_keep : (t : Tree) (x : Result (Unit {0}) Refusal) (rest : Result Effect Refusal) → (x ≡ Ok tt → KeepsRooted t rest) → KeepsRooted t (x >> rest)
tests_keep t (Ok u) rest k = k refl
tests_keep t (Err e) rest k = refused_keeps t e

-- where there is no row there is no inode
pub no_row : (t : Tree) (p : Place) → row_at t p ≡ None → is_some (inode_named t p.directory p.name) ≡ false
no_row t p none = of_record (record_of t p.directory p.name) none
  where
    of_inode : (k : ℕ) (o : Option ℕ) → option_map (λ n. let q : RowAt = record { directory = p.directory; record_number = k; inode = n } in q) o ≡ None → is_some o ≡ false
    of_inode k None h = refl
    of_inode k (Some n) h = absurd (cc)

    of_record : (o : Option ℕ) → option_and_then (row_in t p.directory) o ≡ None → is_some (option_and_then (λ k. inode_of_slot (slot_at t p.directory k)) o) ≡ false
    of_record None h = refl
    of_record (Some k) h = of_inode k (inode_of_slot (slot_at t p.directory k)) h

-- an inode that may be replaced is bare, where it is a directory
pub bare_of : (t : Tree) (a b : ℕ) → refuse_onto t a b ≡ Ok tt → is_directory t b ≡ true → is_bare t b ≡ true
bare_of t a b h dir =
    let one = ok_test (is_directory t b && not (is_directory t a)) refusal.IsDir _ tt h in
    let two = ok_test (is_directory t a && not (is_directory t b)) refusal.NotDir _ tt one.1 in
    bare (is_directory t b) (is_bare t b) dir two.1
  where
    bare : (x y : Bool) → x ≡ true → refuse_if (x && not y) refusal.NotEmpty ≡ Ok tt → y ≡ true
    bare true true e h = refl
    bare true false e h = absurd (cc)
    bare false y e h = absurd (cc)

module _ (s : Setting) (t : Tree) (row : RowAt) (is : IsRow t row) (place : Place) (at : IsPlace t place) where
  into : Result (Unit {0}) Refusal
  into = refuse_into t row place.directory

  to_free : (none : row_at t place ≡ None) → KeepsRooted t (rename_to s t row place None)
  to_free none =
      refuse_keeps t (is_directory t row.inode && is_within t row.inode place.directory) refusal.IntoItself (Ok (Edits false (moved_to s t row place)))
      (λ apart. edit_keeps t false (moved_to s t row place) (λ r. moved_to_rooted s t r row is place at (no_row t place none) apart))

  onto : (old : RowAt) → IsRow t old → old.inode ≢ row.inode → (is_directory t row.inode && is_within t row.inode old.directory) ≡ false → refuse_onto t row.inode old.inode ≡ Ok tt
      → IsRooted t → IsRooted (moved_onto s t row old).tree
  onto old is_old differ apart free r = by_kind (is_directory t old.inode) refl
    where
      by_kind : (b : Bool) → is_directory t old.inode ≡ b → IsRooted (moved_onto s t row old).tree
      by_kind true dir =
          let h = directory_at t old.inode dir in
          moved_onto_rooted s t r row old is is_old differ (bare_silent t old.inode h (bare_of t row.inode old.inode free dir))
          (λ b k names other. (let one = (to_rooted t r).once b k old.directory old.record_number old.inode h.up names is_old.names (record { slots = slot_in h.slots; is = directory_outline t old.inode h }) in
          absurd (other one.0 one.1))) apart
      by_kind false dir =
          let plain = plain_outline t old.inode (named_live t old r is_old) dir in
          moved_onto_rooted s t r row old is is_old differ (plain_silent (outline_of t) old.inode plain) (λ b k names other. plain) apart

  replace_keeps : (old : RowAt) → IsRow t old → old.inode ≢ row.inode → KeepsRooted t (replace s t row old)
  replace_keeps old is_old differ =
      refuse_keeps t (is_directory t row.inode && is_within t row.inode old.directory) refusal.IntoItself (refuse_onto t row.inode old.inode >> Ok (Edits false (moved_onto s t row old)))
      (λ apart. tests_keep t (refuse_onto t row.inode old.inode) (Ok (Edits false (moved_onto s t row old)))
      (λ free. edit_keeps t false (moved_onto s t row old) (onto old is_old differ apart free)))

  rename_to_keeps : (old : Option RowAt) → row_at t place ≡ old → KeepsRooted t (rename_to s t row place old)
  rename_to_keeps None none = to_free none
  rename_to_keeps (Some old) there = go (old.inode == row.inode) refl
    where
      go : (b : Bool) → (old.inode == row.inode) ≡ b → KeepsRooted t (if b then Ok (Answers reply.Done) else replace s t row old)
      go true same = answers_keeps t reply.Done
      go false differ = replace_keeps old (row_is t place old at there) (λ e. true_or_false (old.inode == row.inode) (eq-eqb old.inode row.inode e) differ)

-- what follows once both paths are read
abbrev after_names : Setting → Tree → Named → Named → Result Effect Refusal
after_names s t old new =
    parent_at t s.base old >>= λ d. (ok_or (row_at t (record { directory = d; name = old.name })) refusal.NoEntry >>= λ row. (parent_at t s.base new >>= λ c.
    rename_to s t row (record { directory = c; name = new.name }) (row_at t (record { directory = c; name = new.name }))))

-- Rename
pub rename_keeps : (s : Setting) (t : Tree) (from to : List ℕ) → KeepsRooted t (rename s t from to)
rename_keeps s t from to =
    rest_keeps t (parsed from) (λ p. parsed to >>= λ q. (named p >>= λ old. (named q >>= λ new. after_names s t old new)))
    (λ p read_p. rest_keeps t (parsed to) (λ q. named p >>= λ old. (named q >>= λ new. after_names s t old new))
    (λ q read_q. rest_keeps t (named p) (λ old. named q >>= λ new. after_names s t old new)
    (λ old is_old. rest_keeps t (named q) (λ new. after_names s t old new)
    (λ new is_new. rest_keeps t (parent_at t s.base old) (λ d. ok_or (row_at t (record { directory = d; name = old.name })) refusal.NoEntry >>= λ row. (parent_at t s.base new >>= λ c.
    rename_to s t row (record { directory = c; name = new.name }) (row_at t (record { directory = c; name = new.name }))))
    (λ d at_d. rest_keeps t (ok_or (row_at t (record { directory = d; name = old.name })) refusal.NoEntry) (λ row. parent_at t s.base new >>= λ c.
    rename_to s t row (record { directory = c; name = new.name }) (row_at t (record { directory = c; name = new.name })))
    (λ row there. rest_keeps t (parent_at t s.base new) (λ c. rename_to s t row (record { directory = c; name = new.name }) (row_at t (record { directory = c; name = new.name })))
    (λ c at_c. (let first : Place = record { directory = d; name = old.name } in
    let place : Place = record { directory = c; name = new.name } in
    rename_to_keeps s t row (row_is t first row (place_of t s.base from p old d read_p is_old at_d) (ok_some (row_at t first) refusal.NoEntry row there)) place (place_of t s.base to q new c read_q is_new at_c)
    (row_at t place) refl))))))))
