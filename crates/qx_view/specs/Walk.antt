-- The checker's first part: which inodes are taken in which order, all the tests in that order, and the first that fails.
use Rattle.std.specs.Prelude.{ℕ, zero, suc, ◌+◌, Bool, true, false, not, ◌&&◌, List, [], ◌∷◌, ◌++◌, length, map, flat_map, filter_map, Option, Some, None, is_some, option_and_then, option_to_list, unwrap_or, bytes_eq, nat_lt, ◌==◌, if◌then◌else◌}
use Rattle.std.specs.List.{list_any}
use Rattle.qx_geom.specs.declared.root.Root.{Root}
use Rattle.qx_geom.specs.Lists.{is_in}
use Rattle.qx_geom.specs.Pointer.{absent}
use Rattle.qx_nodes.specs.BlockMap.{BlockMap}
use Rattle.qx_nodes.specs.Visits.{Visit, visits_of}
use Rattle.qx_nodes.specs.Content.{levels_fit, root_fits}
use Rattle.qx_records.specs.declared.kind.Kind.{Kind}
use Rattle.qx_records.specs.declared.kind.Kind.TheVariants as kinds
use Rattle.qx_records.specs.InodeRecord.{kind_of}
use Rattle.qx_records.specs.NameRecord.{RawRecord, Short, Long, Bad}
use Rattle.qx_records.specs.NameRecord as records
use Rattle.qx_records.specs.NameSum.{sum_fits}
use Rattle.qx_model.specs.Tree.{Slot, Unused, Row, is_dots, named_by}
use Rattle.qx_view.specs.declared.findings.Code.TheVariants as codes
use Rattle.qx_view.specs.declared.findings.Finding.{Finding}
use Rattle.qx_view.specs.declared.findings.Code.{Code}
use Rattle.qx_nodes.specs.LongNames.{long_name}
use Rattle.qx_view.specs.Images.{Roots, all_records, inode_places, inode_of, has_inode, raw_of, record_block}
use Rattle.qx_model.specs.Rooted.{is_plain}
use Rattle.qx_view.specs.Reading.{slot_of}

-- ---- the order

-- the node of inode n
abbrev pub inode_root : BlockMap → Roots → ℕ → Root
inode_root m r n = (inode_of m r.inodes n).root

-- its mode
abbrev pub inode_mode : BlockMap → Roots → ℕ → ℕ
inode_mode m r n = (inode_of m r.inodes n).mode

-- a directory's kind
abbrev pub is_directory_kind : Option Kind → Bool
is_directory_kind None = false
is_directory_kind (Some kinds.Directory) = true
is_directory_kind (Some kinds.File) = false
is_directory_kind (Some kinds.Link) = false
is_directory_kind (Some kinds.Special) = false

-- inode n is a directory
abbrev pub is_directory_inode : BlockMap → Roots → ℕ → Bool
is_directory_inode m r n = is_directory_kind (kind_of (inode_mode m r n))

-- the inode that a record names; none where it is unused, bad, `.` or `..`
abbrev pub named_inode : BlockMap → Root → RawRecord → Option ℕ
named_inode m longfile raw = option_and_then named_by (slot_of m longfile raw)

-- the inodes that these records of a directory name
abbrev pub inodes_named_in : BlockMap → Root → Root → List ℕ → List ℕ
inodes_named_in m longfile node ks = filter_map (λ k. named_inode m longfile (raw_of m node k)) ks

-- the inodes that the records of inode n name, if it is a directory
abbrev pub named_inodes : BlockMap → Roots → ℕ → List ℕ
named_inodes m r n = if is_directory_inode m r n then inodes_named_in m r.longfile (inode_root m r n) (all_records (inode_root m r n)) else []

-- those of a list that weren't listed, each once
abbrev pub new_ones : List ℕ → List ℕ → List ℕ
new_ones [] listed = []
new_ones (n ∷ ns) listed = if is_in listed n then new_ones ns listed else n ∷ new_ones ns (n ∷ listed)

-- all that were listed once they are too
abbrev pub listed_after : List ℕ → List ℕ → List ℕ
listed_after [] listed = listed
listed_after (n ∷ ns) listed = if is_in listed n then listed_after ns listed else listed_after ns (n ∷ listed)

-- an inode that is taken from the list, the directory that put it there, and all that were listed before
pub record Taken : Type 0 where
  pub inode : ℕ
  pub parent : ℕ
  pub listed : List ℕ

-- what is taken from a list of inodes and their parents, at most so many
abbrev pub taken_from : BlockMap → Roots → ℕ → List (ℕ × ℕ) → List ℕ → List Taken
taken_from m r zero queue listed = []
taken_from m r (suc fuel) [] listed = []
taken_from m r (suc fuel) (e ∷ queue) listed =
    record { inode = e.0; parent = e.1; listed = listed }
    ∷ taken_from m r fuel (queue ++ map (λ n. (n, e.0)) (new_ones (named_inodes m r e.0) listed)) (listed_after (named_inodes m r e.0) listed)

-- what is taken from a list that begins with inode 1, which is its own parent
abbrev pub taken_of : BlockMap → Roots → List Taken
taken_of m r = taken_from m r (inode_places r + 1) ((1, 1) ∷ []) (1 ∷ [])

-- the inodes that the walk comes to, in its order
abbrev pub walked_inodes : BlockMap → Roots → List ℕ
walked_inodes m r = map (λ t. t.inode) (taken_of m r)

-- ---- the tests

-- a test with its code, inode and block and whether it passes; or that of a pointer whose block mustn't have been met before
pub data Test : Type 0 where
  Tested : (code : Code) (inode block : ℕ) (passes : Bool) → Test
  Met : (inode block : ℕ) → Test

-- the tests of a pointer that is met: it leads to a block of the volume, which wasn't met before
abbrev pub visit_tests : BlockMap → ℕ → Visit → List Test
visit_tests m inode v = Tested codes.Pointer inode v.block (nat_lt v.block m.count) ∷ Met inode v.block ∷ []

-- those of a node, which is within the bounds or not
abbrev pub node_tests : BlockMap → ℕ → Root → Bool → List Test
node_tests m inode node fits = Tested codes.Levels inode absent fits ∷ flat_map (λ v. visit_tests m inode v) (visits_of m node)

-- a directory, its parent, and the block that holds the record in question
pub record Place : Type 0 where
  pub inode : ℕ
  pub parent : ℕ
  pub block : ℕ

-- the tests of a row with a name; `names` are those of earlier rows, `listed` the inodes that were listed before
abbrev pub row_tests : BlockMap → Roots → Place → List (List ℕ) → List ℕ → ℕ → List ℕ → List Test
row_tests m r at names listed n name =
    Tested codes.NameByte at.inode at.block (is_plain name)
    ∷ Tested codes.SameName at.inode at.block (not (list_any (λ other. bytes_eq other name) names))
    ∷ (if is_dots name
    then Tested codes.Dots at.inode at.block (n == (if length name == 1 then at.inode else at.parent)) ∷ []
    else Tested codes.NoInode at.inode at.block (has_inode r.inodes n)
    ∷ Tested codes.Kind at.inode at.block (is_some (kind_of (inode_mode m r n)))
    ∷ Tested codes.DirTwice at.inode at.block (not (is_directory_inode m r n && is_in listed n)) ∷ [])

-- the tests of a record
abbrev pub record_tests : BlockMap → Roots → Place → List (List ℕ) → List ℕ → RawRecord → List Test
record_tests m r at names listed records.Unused = []
record_tests m r at names listed (Bad count) = Tested codes.Record at.inode at.block false ∷ []
record_tests m r at names listed (Short n name) = Tested codes.Record at.inode at.block true ∷ row_tests m r at names listed n name
record_tests m r at names listed (Long n number sum) =
    let name = long_name m r.longfile number in
    Tested codes.Record at.inode at.block true
    ∷ Tested codes.LongName at.inode at.block (is_some name)
    ∷ Tested codes.LongSum at.inode at.block (sum_fits sum (unwrap_or name []))
    ∷ row_tests m r at names listed n (unwrap_or name [])

-- the name of a row
abbrev pub slot_name : Option Slot → List (List ℕ)
slot_name None = []
slot_name (Some Unused) = []
slot_name (Some (Row n name long)) = name ∷ []

-- the tests of these records of directory d, one after another
abbrev pub records_tests : BlockMap → Roots → ℕ → ℕ → Root → List (List ℕ) → List ℕ → List ℕ → List Test
records_tests m r d p node names listed [] = []
records_tests m r d p node names listed (k ∷ ks) =
    let raw = raw_of m node k in
    record_tests m r (record { inode = d; parent = p; block = record_block m node k }) names listed raw
    ++ records_tests m r d p node (slot_name (slot_of m r.longfile raw) ++ names) (option_to_list (named_inode m r.longfile raw) ++ listed) ks

-- the tests of an inode's node, of a link's size and of a directory's records
abbrev pub kind_tests : BlockMap → Roots → Taken → Root → Option Kind → List Test
kind_tests m r t node None = []
kind_tests m r t node (Some kinds.Special) = []
kind_tests m r t node (Some kinds.File) = node_tests m t.inode node (levels_fit m node)
kind_tests m r t node (Some kinds.Link) =
    node_tests m t.inode node (levels_fit m node) ++ Tested codes.LinkSize t.inode absent (not (node.size == 0) && nat_lt node.size 1024) ∷ []
kind_tests m r t node (Some kinds.Directory) =
    node_tests m t.inode node (levels_fit m node) ++ records_tests m r t.inode t.parent node [] t.listed (all_records node)

-- all the tests of an inode that is taken
abbrev pub inode_tests : BlockMap → Roots → Taken → List Test
inode_tests m r t = kind_tests m r t (inode_root m r t.inode) (kind_of (inode_mode m r t.inode))

-- those of a root node
abbrev pub root_tests : BlockMap → Root → List Test
root_tests m node = node_tests m 0 node (root_fits m node)

-- the tests of inode 1
abbrev pub top_tests : BlockMap → Roots → List Test
top_tests m r = Tested codes.NoInode 1 absent (has_inode r.inodes 1) ∷ Tested codes.Kind 1 absent (is_directory_inode m r 1) ∷ []

-- all the tests of the tree that begins at these roots, in the order of the walk
abbrev pub tests_of : BlockMap → Roots → List Test
tests_of m r =
    root_tests m r.inodes ++ root_tests m r.longfile ++ flat_map (root_tests m) r.further
    ++ top_tests m r ++ flat_map (inode_tests m r) (taken_of m r)

-- ---- the first that fails

-- the blocks that these tests meet
abbrev pub met_of : List Test → List ℕ
met_of [] = []
met_of (Tested code inode block passes ∷ es) = met_of es
met_of (Met inode block ∷ es) = block ∷ met_of es

-- a test passes where these blocks were met before
abbrev pub passes : List ℕ → Test → Bool
passes met (Tested code inode block b) = b
passes met (Met inode block) = not (is_in met block)

-- what was met after it
abbrev pub met_after : List ℕ → Test → List ℕ
met_after met (Tested code inode block b) = met
met_after met (Met inode block) = block ∷ met

-- what was met once these tests were gone through
abbrev pub gone_through : List ℕ → List Test → List ℕ
gone_through met [] = met
gone_through met (e ∷ es) = gone_through (met_after met e) es

-- the finding of a test that fails
abbrev pub finding_at : Test → Finding
finding_at (Tested code inode block b) = record { code = code; inode = inode; block = block }
finding_at (Met inode block) = record { code = codes.Twice; inode = inode; block = block }

-- the first test that fails where these blocks were met before
abbrev pub first_failing : List ℕ → List Test → Option Finding
first_failing met [] = None
first_failing met (e ∷ es) = if passes met e then first_failing (met_after met e) es else Some (finding_at e)

-- the first test that fails of all
abbrev pub finding_of : BlockMap → Roots → Option Finding
finding_of m r = first_failing [] (tests_of m r)
