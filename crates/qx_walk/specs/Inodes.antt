-- What the walk of the inodes does, one after another.
use Rattle.std.specs.Prelude.{◌≡◌, ◌<◌, ◌≤◌, ◌-◌, ◌++◌, ◌&&◌, ℕ, Bool, false, not, IsTrue, List, [], ◌∷◌, drop, flat_map, length, map, None, Some, Option, Result, IfOk, OnOk, ◌==◌, if◌then◌else◌}
use Rattle.qx_blockset.specs.Members.{has, limit_of}
use Rattle.qx_geom.specs.declared.root.Root.{Root}
use Rattle.qx_geom.specs.Lists.{is_in}
use Rattle.qx_nodes.specs.BlockMap.{BlockMap}
use Rattle.qx_nodes.specs.Content.{levels_fit}
use Rattle.qx_view.specs.Images.{Roots, all_records}
use Rattle.qx_nodes.specs.ForeignNodes.{is_foreign_node}
use Rattle.qx_view.specs.Sound.{are_zero, bad_long_name, has_tail, numbers_named_in}
use Rattle.qx_view.specs.Usage.{met_blocks}
use Rattle.qx_view.specs.Walk.{Taken, Test, finding_of, first_failing, gone_through, inode_root, inode_tests, is_directory_inode, listed_after, named_inodes, new_ones, node_tests, root_tests, top_tests, walked_inodes}
use Rattle.qx_pointers.specs.declared.halt.Halt.{Halt}
use Rattle.qx_pointers.specs.declared.node.Part.{Part}
use Rattle.qx_walk.specs.declared.state.Seen.{Seen}
use Rattle.qx_walk.specs.declared.state.Way.{Way}
use Rattle.qx_pointers.specs.Halts.{Answers}
use Rattle.qx_pointers.specs.Marks.{Marks}
use Rattle.qx_pointers.specs.Parts.{IsWhole}
use Rattle.qx_tables.specs.Tables.{AreLeaves, HasListed, HoldsNames, bad_number}
use Rattle.qx_walk.specs.Trees.{IsNoted, note_if}

-- the tests that come before those of the inodes
abbrev pub tests_above : BlockMap → Roots → List Test
tests_above m r = root_tests m r.inodes ++ root_tests m r.longfile ++ flat_map (root_tests m) r.further ++ top_tests m r

-- ---- one node

-- a byte from this place on in the last leaf isn't 0; the leaf's block is given, where it is present
abbrev pub tail_at : BlockMap → ℕ → Option ℕ → Bool
tail_at m past None = false
tail_at m past (Some b) = not (past == 0) && not (are_zero (drop past (m.bytes b)))

-- the tests of an inode's own node
abbrev pub own_tests : BlockMap → ℕ → Root → List Test
own_tests m n node = node_tests m n node (levels_fit m node)

-- the node of inode n was walked, and noted where it isn't as this project writes it; these blocks were met before
pub record WalksNode (m : BlockMap) (n : ℕ) (node : Root) (keeps : Bool) (met : List ℕ) (result : Result Part Halt) (old new : Way) : Type 0 where
  pub answer : Answers (first_failing met (own_tests m n node)) result
  pub marks : OnOk result (Marks new.met (gone_through met (own_tests m n node)))
  pub part : IfOk result (IsWhole m node)
  pub leaves : OnOk result (IsTrue keeps → AreLeaves m node new.leaves.items)
  pub nodes : OnOk result (new.notes.nodes ≡ note_if (is_foreign_node m node) n old.notes.nodes)
  pub tails : OnOk result (new.notes.tails ≡ note_if (has_tail m node) n old.notes.tails)

-- ---- one inode

-- what the walk did so far: the blocks that it met, the inodes that are still to be taken with the directories that list them, all that were listed, the long-name numbers that were named, and the inodes that it took, the last one first
pub record Done : Type 0 where
  pub met : List ℕ
  pub queue : List (ℕ × ℕ)
  pub listed : List ℕ
  pub numbers : List ℕ
  pub taken : List ℕ

-- it is in memory
pub record Remembers (m : BlockMap) (r : Roots) (done : Done) (way : Way) (seen : Seen) : Type 0 where
  pub met : Marks way.met done.met
  pub listing : HasListed done.queue done.listed seen.listing
  pub longs : HoldsNames m r.longfile done.numbers seen.longs
  pub notes : IsNoted m r done.taken way.notes

-- inode n as it is taken then
abbrev pub taken_with : ℕ → ℕ → Done → Taken
taken_with n parent done = record { inode = n; parent = parent; listed = done.listed }

-- the long-name numbers of the records of inode n, if it is a directory
abbrev pub numbers_of : BlockMap → Roots → ℕ → List ℕ
numbers_of m r n = if is_directory_inode m r n then numbers_named_in m (inode_root m r n) (all_records (inode_root m r n)) else []

-- with inode n
abbrev pub with_inode : BlockMap → Roots → ℕ → ℕ → Done → Done
with_inode m r n parent done = record {
  met = gone_through done.met (inode_tests m r (taken_with n parent done));
  queue = done.queue ++ map (λ k. (k, n)) (new_ones (named_inodes m r n) done.listed);
  listed = listed_after (named_inodes m r n) done.listed;
  numbers = numbers_of m r n ++ done.numbers;
  taken = n ∷ done.taken;
}

-- an inode that was taken was walked
pub record WalksInode {T : Type 0} (m : BlockMap) (r : Roots) (n parent : ℕ) (done : Done) (result : Result T Halt) (way : Way) (seen : Seen) : Type 0 where
  pub answer : Answers (first_failing done.met (inode_tests m r (taken_with n parent done))) result
  pub remembers : OnOk result (Remembers m r (with_inode m r n parent done) way seen)

-- ---- all inodes

-- what was done before the first inode is taken
abbrev pub done_above : BlockMap → Roots → Done
done_above m r = record {
  met = gone_through [] (tests_above m r);
  queue = (1, 1) ∷ [];
  listed = 1 ∷ [];
  numbers = [];
  taken = [];
}

-- the walk comes to the inodes: all tests above them have passed
pub record Begins (m : BlockMap) (r : Roots) (way : Way) (seen : Seen) : Type 0 where
  pub passed : first_failing [] (tests_above m r) ≡ None
  pub top : IsTrue (is_directory_inode m r 1)
  pub remembers : Remembers m r (done_above m r) way seen
  pub next : seen.listing.next ≡ 0

-- all inodes were walked, and no test failed
pub record Ends (m : BlockMap) (r : Roots) (way : Way) (seen : Seen) : Type 0 where
  pub none : finding_of m r ≡ None
  pub met : Marks way.met (met_blocks m r)
  pub reached : (n : ℕ) → 0 < n → n ≤ limit_of seen.listing.listed → has seen.listing.listed (n - 1) ≡ is_in (walked_inodes m r) n
  pub live : length seen.listing.queue.items ≡ length (walked_inodes m r)
  pub notes : IsNoted m r (walked_inodes m r) way.notes
  pub numbers : List ℕ
  pub longs : HoldsNames m r.longfile numbers seen.longs
  pub named : bad_number m r.longfile numbers ≡ bad_long_name m r (walked_inodes m r)

-- the inodes were walked, to the first finding
pub record WalksAll {T : Type 0} (m : BlockMap) (r : Roots) (result : Result T Halt) (way : Way) (seen : Seen) : Type 0 where
  pub answer : Answers (finding_of m r) result
  pub ends : OnOk result (Ends m r way seen)
