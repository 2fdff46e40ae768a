-- What has become of a working state and its blocks once nodes were changed together, and bytes put into them since.
use Rattle.std.specs.Prelude.{◌≡◌, ℕ, ◌==◌, Bool, true, false, List, [], ◌∷◌, Some, IsTrue, if◌then◌else◌}
use Rattle.qx_geom.specs.declared.root.Root.{Root}
use Rattle.qx_geom.specs.Room.{fits}
use Rattle.qx_nodes.specs.NodeContents.{IsSameContent, NodeContent}
use Rattle.qx_blocks.specs.BlockState.{BlockState}
use Rattle.qx_ptree.specs.Fates.{is_written}
use Rattle.qx_ptree.specs.Trees.{block_map}
use Rattle.qx_file.specs.Puts.{CanPut, HasByte}
use Rattle.qx_batch.specs.declared.batch.Waiting.{Waiting}
use Rattle.qx_batch.specs.declared.planned.Planned.{Planned}
use Rattle.qx_batch.specs.Batches.{AreCommitted, ArePairsApart, plans_of}
use Rattle.qx_batch.specs.Changes.{changed_content}
use Rattle.qx_batch.specs.Fittings.{Lacks}
use Rattle.qx_batch.specs.Nodes.{AreLaid}
use Rattle.qx_batch.specs.Plans.{need_of_all}
use Rattle.qx_copies.specs.Copies.{Contents, contents_of, node_in}
use Rattle.qx_working.specs.declared.working.Working.{Working}
use Rattle.qx_working.specs.States.{copy_of, with_node_at}
use Rattle.qx_placing.specs.MovedNodes.{AreMoved, KeepsShared}
use Rattle.qx_changes.specs.declared.changing.Room.{Room}
use Rattle.qx_changes.specs.declared.changing.Room.TheVariants as rooms

-- ---- contents

-- number o holds this
abbrev pub with_content : Contents → ℕ → NodeContent → Contents
with_content c o x q = if q == o then x else c q

-- what planned changes leave of the contents
abbrev pub changed_contents : ℕ → List Planned → Contents → Contents
changed_contents blocksize [] c = c
changed_contents blocksize (p ∷ ps) c = with_content (changed_contents blocksize ps c) p.owner (changed_content blocksize p.change (c p.owner))

-- ---- states

-- the state in which each number has the node that its change makes
abbrev pub with_waiting : Working → List Waiting → Working
with_waiting w [] = w
with_waiting w (x ∷ xs) = with_node_at (with_waiting w xs) x.plan.owner x.prep.root

-- where bytes are told: the blocks stand where the changes put them, the nodes hold what is said, and no block that another tree holds was written
pub record AreHeld (old new : BlockState) (w after : Working) (ps : List Planned) (held : Contents) : Type 0 where
  pub moved : AreMoved w.order (node_in (copy_of w)) (node_in (copy_of after)) old new ps
  pub holds : (o : ℕ) → IsSameContent old.holdings.size (held o) (contents_of (block_map w.order new) (copy_of after) o)
  pub shared : (b : ℕ) → IsTrue (old.holdings.held b) → old.holdings.private b ≡ false → new.bytes b ≡ old.bytes b

-- the planned changes were made: what they write is ready, and the blocks of other trees stay theirs; where bytes are told and the nodes lay over the blocks, the nodes hold what is said
pub record AreWritten (old new : BlockState) (w after : Working) (ps : List Planned) (held : Contents) : Type 0 where
  pub waiting : List Waiting
  pub plans : plans_of waiting ≡ ps
  pub state : after ≡ with_waiting w waiting
  pub size : new.holdings.size ≡ old.holdings.size
  pub shared : KeepsShared old new
  pub committed : AreCommitted w.order new waiting
  pub apart : ArePairsApart waiting
  pub told_before : IsTrue new.tells → IsTrue old.tells
  pub told : IsTrue new.tells → AreLaid w.order old (node_in (copy_of w)) → AreHeld old new w after ps held

-- the changes were made, and where bytes are told they fit; or they don't fit, and nothing was changed
abbrev pub HasRoom : BlockState → BlockState → Working → Working → List Planned → Bool → Room → Type 0
HasRoom old new w after ps is_removing rooms.Made =
    AreWritten old new w after ps (changed_contents old.holdings.size ps (contents_of (block_map w.order old) (copy_of w)))
    × (IsTrue new.tells → fits is_removing (need_of_all w.order old ps) old.holdings.free ≡ true)
HasRoom old new w after ps is_removing (rooms.NoSpace need free) = Lacks w.order old new ps is_removing need free × (after ≡ w)

-- ---- bytes that are put

-- so many bytes from a place on can be put into the node of a number
pub record CanPutInto (m : BlockState) (w : Working) (owner at count : ℕ) : Type 0 where
  pub node : Root
  pub is : node_in (copy_of w) owner ≡ Some node
  pub can : CanPut w.order m node at count

-- a planned change is of this number, and writes each leaf that has one of so many bytes from a place on
pub record Writes (blocksize : ℕ) (p : Planned) (owner at count : ℕ) : Type 0 where
  pub owner_is : p.owner ≡ owner
  pub each : (i : ℕ) → HasByte blocksize at count i → is_written p.change i ≡ true
