-- What the walk of a directory's records does.
use Rattle.std.specs.Prelude.{◌≡◌, ◌<◌, ◌++◌, ◌&&◌, ℕ, Bool, false, List, [], ◌∷◌, map, None, Result, IfOk, OnOk, slice_range}
use Rattle.qx_fields.specs.declared.order.Order.{Order}
use Rattle.qx_geom.specs.declared.root.Root.{Root}
use Rattle.qx_model.specs.Tree.{Row, named_by}
use Rattle.qx_nodes.specs.BlockMap.{BlockMap}
use Rattle.qx_records.specs.NameRecord.{RawRecord, Unused, Short, Long, Bad, raw_in}
use Rattle.qx_view.specs.Images.{Roots, all_records, raw_of}
use Rattle.qx_view.specs.Sound.{is_foreign_directory, is_short, numbers_named_in}
use Rattle.qx_view.specs.Walk.{Place, first_failing, inodes_named_in, listed_after, new_ones, record_tests, records_tests, row_tests}
use Rattle.qx_walk.specs.declared.state.RecordPlace.{RecordPlace}
use Rattle.qx_pointers.specs.declared.halt.Halt.{Halt}
use Rattle.qx_walk.specs.declared.state.Directory.{Directory}
use Rattle.qx_walk.specs.declared.state.Seen.{Seen}
use Rattle.qx_pointers.specs.Halts.{Answers}
use Rattle.qx_walk.specs.Kept.{Kept, with_record, with_records, with_row}
use Rattle.qx_tables.specs.Tables.{HasListed, HasNames, HoldsNames}

-- what records left behind is in memory
pub record Holds (m : BlockMap) (longfile : Root) (kept : Kept) (seen : Seen) : Type 0 where
  pub names : HasNames seen.names kept.names
  pub listing : HasListed kept.queue kept.listed seen.listing
  pub longs : HoldsNames m longfile kept.numbers seen.longs

-- ---- one record

-- the directory, its parent and the block of a record
abbrev pub record_place : RecordPlace → Place
record_place at = record { inode = at.inode; parent = at.parent; block = at.block }

-- a row names an inode that isn't 0
abbrev pub NamesSome : RawRecord → Type 0
NamesSome Unused = Unit {0}
NamesSome (Short n name) = 0 < n
NamesSome (Long n number sum) = 0 < n
NamesSome (Bad count) = Unit {0}

-- a row with a name was gone through
pub record WalksRow {T : Type 0} (m : BlockMap) (r : Roots) (at : Place) (n : ℕ) (name : List ℕ) (kept : Kept) (result : Result T Halt) (seen : Seen) : Type 0 where
  pub answer : (met : List ℕ) → Answers (first_failing met (row_tests m r at kept.names kept.listed n name)) result
  pub holds : OnOk result (Holds m r.longfile (with_row at.inode (name ∷ []) (named_by (Row n name None)) None kept) seen)

-- a record was
pub record WalksRecord {T : Type 0} (m : BlockMap) (r : Roots) (at : Place) (raw : RawRecord) (kept : Kept) (result : Result T Halt) (seen : Seen) : Type 0 where
  pub answer : (met : List ℕ) → Answers (first_failing met (record_tests m r at kept.names kept.listed raw)) result
  pub holds : OnOk result (Holds m r.longfile (with_record m r.longfile at.inode raw kept) seen)

-- ---- records in order

-- these records of a directory were gone through
pub record WalksThrough {T : Type 0} (m : BlockMap) (r : Roots) (d : Directory) (ks : List ℕ) (kept : Kept) (result : Result T Halt) (seen : Seen) : Type 0 where
  pub answer : (met : List ℕ) → Answers (first_failing met (records_tests m r d.inode d.parent d.node kept.names kept.listed ks)) result
  pub holds : OnOk result (Holds m r.longfile (with_records m r.longfile d.inode d.node ks kept) seen)

-- a directory's first two records are short ones with the names `.` and `..`
abbrev pub begins_with_dots : BlockMap → Root → Bool
begins_with_dots m node = is_short (raw_of m node 0) (46 ∷ []) && is_short (raw_of m node 1) (46 ∷ 46 ∷ [])

-- the first two records among these bytes are
abbrev pub dots_in : Order → List ℕ → Bool
dots_in order bytes = is_short (raw_in order (slice_range bytes 0 32)) (46 ∷ []) && is_short (raw_in order (slice_range bytes 32 64)) (46 ∷ 46 ∷ [])

-- all records of a directory were gone through; `queue` and `listed` are what was to be taken and what was listed before, `numbers` the long-name numbers that were named before
pub record WalksRecords (m : BlockMap) (r : Roots) (d : Directory) (queue : List (ℕ × ℕ)) (listed numbers : List ℕ) (result : Result Bool Halt) (seen : Seen) : Type 0 where
  pub answer : (met : List ℕ) → Answers (first_failing met (records_tests m r d.inode d.parent d.node [] listed (all_records d.node))) result
  pub listing : OnOk result (let ns = inodes_named_in m r.longfile d.node (all_records d.node) in
      HasListed (queue ++ map (λ n. (n, d.inode)) (new_ones ns listed)) (listed_after ns listed) seen.listing)
  pub longs : OnOk result (HoldsNames m r.longfile (numbers_named_in m d.node (all_records d.node) ++ numbers) seen.longs)
  pub dots : IfOk result (λ dots. is_foreign_directory m d.node ≡ false → dots ≡ begins_with_dots m d.node)
