-- What a row leaves behind where its tests pass.
use Rattle.std.proofs.Common.{◌≡◌, ℕ, List, [], ◌∷◌, ◌++◌, refl, ap, sym, ◌∙◌, subst}
use Rattle.std.specs.Prelude.{Bool, true, false, not, ◌&&◌, ◌==◌, Option, Some, None, is_some, unwrap_or, Result, Ok, Err, OnErr, OnOk, bytes_eq, length, map, option_and_then, if◌then◌else◌}
use Rattle.std.specs.List.{list_any}
use Rattle.std.proofs.lemmas.List.{append-nil}
use Rattle.qx_geom.specs.Lists.{is_in}
use Rattle.qx_model.specs.Tree.{Row, is_dots, named_by}
use Rattle.qx_nodes.specs.BlockMap.{BlockMap}
use Rattle.qx_records.specs.InodeRecord.{kind_of}
use Rattle.qx_records.specs.NameRecord.{Long, RawRecord, Short}
use Rattle.qx_records.specs.NameSum.{sum_fits}
use Rattle.qx_view.specs.declared.findings.Code.TheVariants as codes
use Rattle.qx_nodes.specs.LongNames.{long_name}
use Rattle.qx_view.specs.Images.{Roots, has_inode}
use Rattle.qx_model.specs.Rooted.{is_plain}
use Rattle.qx_view.specs.Entries.{long_slot}
use Rattle.qx_view.specs.Reading.{slot_of}
use Rattle.qx_view.specs.Walk.{Place, Test, Tested, first_failing, inode_mode, is_directory_inode, listed_after, new_ones, record_tests, row_tests, slot_name}
use Rattle.qx_walk.proofs.KeptLists.{one_listed}
use Rattle.qx_walk.proofs.RowsInOrder.{listed_same}
use Rattle.qx_pointers.specs.declared.halt.Halt.{Halt}
use Rattle.qx_pointers.specs.declared.halt.Halt.TheVariants as halts
use Rattle.qx_walk.specs.declared.state.Seen.{Seen}
use Rattle.qx_pointers.specs.Halts.{HaltsAt}
use Rattle.qx_walk.specs.Kept.{Kept, with_row}
use Rattle.qx_walk.specs.Rows.{Holds, WalksRecord, WalksRow}
use Rattle.qx_tables.specs.Tables.{HasListed, HasNames, HoldsNames}

-- the tests of a row, by what they say
abbrev tests_by : Place → Bool → Bool → Bool → Bool → Bool → Bool → Bool → List Test
tests_by at plain new dots wanted there kind once =
    Tested codes.NameByte at.inode at.block plain
    ∷ Tested codes.SameName at.inode at.block new
    ∷ (if dots
    then Tested codes.Dots at.inode at.block wanted ∷ []
    else Tested codes.NoInode at.inode at.block there
    ∷ Tested codes.Kind at.inode at.block kind
    ∷ Tested codes.DirTwice at.inode at.block once ∷ [])

-- none fails of a row that lists its inode
none_row : (met : List ℕ) (at : Place) (p q d w a k o : Bool) → p ≡ true → q ≡ true → d ≡ false → a ≡ true → k ≡ true → o ≡ true → first_failing met (tests_by at p q d w a k o) ≡ None
none_row met at p q d w a k o e f g h i j = rw (e, f, g, h, i, j)

-- the last fails of a directory that was listed
first_again : (met : List ℕ) (at : Place) (p q d w a k o : Bool) → p ≡ true → q ≡ true → d ≡ false → a ≡ true → k ≡ true → o ≡ false
    → first_failing met (tests_by at p q d w a k o) ≡ Some (record { code = codes.DirTwice; inode = at.inode; block = at.block })
first_again met at p q d w a k o e f g h i j = rw (e, f, g, h, i, j)

-- none fails of a row that is `.` or `..` as it has to be
dots_row : (met : List ℕ) (at : Place) (p q d w a k o : Bool) → p ≡ true → q ≡ true → d ≡ true → w ≡ true → first_failing met (tests_by at p q d w a k o) ≡ None
dots_row met at p q d w a k o e f g h = rw (e, f, g, h)

-- ---- a row with a name

-- no earlier row has the name
abbrev is_new : List ℕ → Kept → Bool
is_new name kept = not (list_any (λ other. bytes_eq other name) kept.names)

-- the inode is that which `.` or `..` has to name
abbrev is_wanted : Place → ℕ → List ℕ → Bool
is_wanted at n name = n == (if length name == 1 then at.inode else at.parent)

-- it isn't a directory that was listed
abbrev is_once : BlockMap → Roots → ℕ → Kept → Bool
is_once m r n kept = not (is_directory_inode m r n && is_in kept.listed n)

-- want of memory says nothing of the tests
row_unsaid : {T : Type 0} (m : BlockMap) (r : Roots) (at : Place) (n : ℕ) (name : List ℕ) (kept : Kept) (seen : Seen) (result : Result T Halt) → result ≡ Err halts.NoMemory → WalksRow {T = T} m r at n name kept result seen
row_unsaid {T = T} m r at n name kept seen result e = subst (λ z. WalksRow {T = T} m r at n name kept z seen) (sym e) (record { answer = λ met. tt; holds = tt })

-- a row but `.` and `..` lists its inode
pub walks_row : {T : Type 0} (m : BlockMap) (r : Roots) (at : Place) (n : ℕ) (name : List ℕ) (kept : Kept) (seen : Seen) (result : Result T Halt)
    → is_plain name ≡ true → is_new name kept ≡ true → is_dots name ≡ false → has_inode r.inodes n ≡ true → is_some (kind_of (inode_mode m r n)) ≡ true → is_once m r n kept ≡ true
    → OnErr result (result ≡ Err halts.NoMemory) → HasNames seen.names (name ∷ kept.names)
    → OnOk result (HasListed (kept.queue ++ map (λ k. (k, at.inode)) (new_ones (n ∷ []) kept.listed)) (listed_after (n ∷ []) kept.listed) seen.listing)
    → HoldsNames m r.longfile kept.numbers seen.longs → WalksRow {T = T} m r at n name kept result seen
walks_row m r at n name kept seen (Ok x) plain new d a k once fault names listing longs = record {
  answer = λ met. none_row met at (is_plain name) (is_new name kept) (is_dots name) (is_wanted at n name) (has_inode r.inodes n) (is_some (kind_of (inode_mode m r n))) (is_once m r n kept) plain new d a k once;
  holds = subst (λ o. Holds m r.longfile (with_row at.inode (name ∷ []) o None kept) seen) (sym (ap (λ b. if b then None else Some n) d))
      (record { names = names; listing = listed_same _ _ _ _ seen.listing refl (one_listed n kept.listed) listing; longs = longs });
}
walks_row m r at n name kept seen (Err halt) plain new d a k once fault names listing longs = row_unsaid m r at n name kept seen (Err halt) fault

-- and those list nothing
pub walks_dots : {T : Type 0} (m : BlockMap) (r : Roots) (at : Place) (n : ℕ) (name : List ℕ) (kept : Kept) (seen : Seen) (x : T)
    → is_plain name ≡ true → is_new name kept ≡ true → is_dots name ≡ true → is_wanted at n name ≡ true → HasNames seen.names (name ∷ kept.names)
    → HasListed kept.queue kept.listed seen.listing → HoldsNames m r.longfile kept.numbers seen.longs → WalksRow {T = T} m r at n name kept (Ok x) seen
walks_dots m r at n name kept seen x plain new d wanted names listing longs = record {
  answer = λ met. dots_row met at (is_plain name) (is_new name kept) (is_dots name) (is_wanted at n name) (has_inode r.inodes n) (is_some (kind_of (inode_mode m r n))) (is_once m r n kept) plain new d wanted;
  holds = subst (λ o. Holds m r.longfile (with_row at.inode (name ∷ []) o None kept) seen) (sym (ap (λ b. if b then None else Some n) d))
      (record { names = names; listing = subst (λ queue. HasListed queue kept.listed seen.listing) (sym (append-nil kept.queue)) listing; longs = longs });
}

-- a directory that was listed ends the walk
pub walks_again : {T : Type 0} (m : BlockMap) (r : Roots) (at : Place) (n : ℕ) (name : List ℕ) (kept : Kept) (seen : Seen) (halt : Halt) → halt ≡ halts.Finding (record { code = codes.DirTwice; inode = at.inode; block = at.block })
    → is_plain name ≡ true → is_new name kept ≡ true → is_dots name ≡ false → has_inode r.inodes n ≡ true → is_some (kind_of (inode_mode m r n)) ≡ true → is_once m r n kept ≡ false
    → WalksRow {T = T} m r at n name kept (Err halt) seen
walks_again m r at n name kept seen halt h plain new d a k once = record {
  answer = λ met. subst (λ z. HaltsAt (first_failing met (row_tests m r at kept.names kept.listed n name)) z) (sym h)
      (first_again met at (is_plain name) (is_new name kept) (is_dots name) (is_wanted at n name) (has_inode r.inodes n) (is_some (kind_of (inode_mode m r n))) (is_once m r n kept) plain new d a k once);
  holds = tt;
}

-- a record whose name is a short one is its row
pub short_walks : {T : Type 0} (m : BlockMap) (r : Roots) (at : Place) (n : ℕ) (name : List ℕ) (raw : RawRecord) (kept : Kept) (result : Result T Halt) (seen : Seen) → raw ≡ Short n name
    → WalksRow {T = T} m r at n name kept result seen → WalksRecord {T = T} m r at raw kept result seen
short_walks {T = T} m r at n name raw kept result seen e w = subst (λ z. WalksRecord {T = T} m r at z kept result seen) (sym e) (record { answer = w.answer; holds = w.holds })

-- ---- a record whose name is a long one

-- its tests, by what the leaf says
abbrev tests_with : BlockMap → Roots → Place → ℕ → ℕ → Kept → Option (List ℕ) → List Test
tests_with m r at n sum kept name =
    Tested codes.Record at.inode at.block true
    ∷ Tested codes.LongName at.inode at.block (is_some name)
    ∷ Tested codes.LongSum at.inode at.block (sum_fits sum (unwrap_or name []))
    ∷ row_tests m r at kept.names kept.listed n (unwrap_or name [])

-- and by whether the checksum is the name's
abbrev tests_summed : BlockMap → Roots → Place → ℕ → Kept → List ℕ → Bool → List Test
tests_summed m r at n kept name fits = Tested codes.Record at.inode at.block true ∷ Tested codes.LongName at.inode at.block true ∷ Tested codes.LongSum at.inode at.block fits ∷ row_tests m r at kept.names kept.listed n name

-- no name
pub long_nameless : {T : Type 0} (m : BlockMap) (r : Roots) (at : Place) (n number sum : ℕ) (kept : Kept) (seen : Seen) (halt : Halt) → halt ≡ halts.Finding (record { code = codes.LongName; inode = at.inode; block = at.block })
    → long_name m r.longfile number ≡ None → WalksRecord {T = T} m r at (Long n number sum) kept (Err halt) seen
long_nameless m r at n number sum kept seen halt h e = record {
  answer = λ met. subst (λ z. HaltsAt (first_failing met (record_tests m r at kept.names kept.listed (Long n number sum))) z) (sym h) (ap (λ o. first_failing met (tests_with m r at n sum kept o)) e);
  holds = tt;
}

-- another checksum
pub long_other : {T : Type 0} (m : BlockMap) (r : Roots) (at : Place) (n number sum : ℕ) (name : List ℕ) (kept : Kept) (seen : Seen) (halt : Halt) → halt ≡ halts.Finding (record { code = codes.LongSum; inode = at.inode; block = at.block })
    → long_name m r.longfile number ≡ Some name → sum_fits sum name ≡ false → WalksRecord {T = T} m r at (Long n number sum) kept (Err halt) seen
long_other m r at n number sum name kept seen halt h is e = record {
  answer = λ met. subst (λ z. HaltsAt (first_failing met (record_tests m r at kept.names kept.listed (Long n number sum))) z) (sym h)
      (ap (λ o. first_failing met (tests_with m r at n sum kept o)) is ∙ ap (λ b. first_failing met (tests_summed m r at n kept name b)) e);
  holds = tt;
}

-- its tests are those of the row
long_tests : (m : BlockMap) (r : Roots) (at : Place) (n number sum : ℕ) (name : List ℕ) (kept : Kept) (met : List ℕ) → long_name m r.longfile number ≡ Some name → sum_fits sum name ≡ true
    → first_failing met (record_tests m r at kept.names kept.listed (Long n number sum)) ≡ first_failing met (row_tests m r at kept.names kept.listed n name)
long_tests m r at n number sum name kept met is fits = ap (λ o. first_failing met (tests_with m r at n sum kept o)) is ∙ ap (λ b. first_failing met (tests_summed m r at n kept name b)) fits

-- the row halts
pub long_halts : {T U : Type 0} (m : BlockMap) (r : Roots) (at : Place) (n number sum : ℕ) (name : List ℕ) (kept : Kept) (mid seen : Seen) (halt : Halt)
    → long_name m r.longfile number ≡ Some name → sum_fits sum name ≡ true → WalksRow {T = U} m r at n name kept (Err halt) mid
    → WalksRecord {T = T} m r at (Long n number sum) kept (Err halt) seen
long_halts m r at n number sum name kept mid seen halt is fits w = record {
  answer = λ met. subst (λ z. HaltsAt z halt) (sym (long_tests m r at n number sum name kept met is fits)) (w.answer met);
  holds = tt;
}

-- the row passes, and its number is counted
pub long_walks : {T U : Type 0} (m : BlockMap) (r : Roots) (at : Place) (n number sum : ℕ) (name : List ℕ) (kept : Kept) (mid seen : Seen) (x : T) (y : U)
    → long_name m r.longfile number ≡ Some name → sum_fits sum name ≡ true → WalksRow {T = U} m r at n name kept (Ok y) mid
    → seen.names ≡ mid.names → seen.listing ≡ mid.listing → HoldsNames m r.longfile (number ∷ kept.numbers) seen.longs
    → WalksRecord {T = T} m r at (Long n number sum) kept (Ok x) seen
long_walks m r at n number sum name kept mid seen x y is fits w names listing longs =
    let row : slot_of m r.longfile (Long n number sum) ≡ Some (Row n name (Some number)) = ap (λ o. long_slot n number sum o) is ∙ ap (λ b. if b then Some (Row n name (Some number)) else None) fits in
    let after : Kept = with_row at.inode (name ∷ []) (named_by (Row n name None)) None kept in
    record {
      answer = λ met. long_tests m r at n number sum name kept met is fits ∙ w.answer met;
      holds = subst (λ s. Holds m r.longfile (with_row at.inode (slot_name s) (option_and_then named_by s) (Some number) kept) seen) (sym row) (record {
        names = subst (λ z. HasNames z (name ∷ kept.names)) (sym names) w.holds.names;
        listing = subst (λ z. HasListed after.queue after.listed z) (sym listing) w.holds.listing;
        longs = longs;
      });
    }
