-- A change of a node, by the positions that the node has before and after it.
use Rattle.std.specs.Prelude.{ℕ, ◌≤◌, Bool, List, IsTrue}
use Rattle.qx_fields.specs.declared.order.Order.{Order}
use Rattle.qx_geom.specs.declared.root.Root.{Root}
use Rattle.qx_geom.specs.Positions.{Shape, shape_after}
use Rattle.qx_geom.specs.Touch.{need_of}
use Rattle.qx_nodes.specs.BlockMap.{BlockMap}
use Rattle.qx_nodes.specs.Visits.{present_of}
use Rattle.qx_blocks.specs.BlockState.{BlockState}
use Rattle.qx_ptree.specs.declared.change.Change.{Change}
use Rattle.qx_ptree.specs.Fates.{written_by}
use Rattle.qx_ptree.specs.Trees.{block_map, pointer_at}

-- the shapes before and after it, the leaves that it writes, and at which positions the old block is the working tree's alone
pub record Alteration : Type 0 where
  pub blocksize : ℕ
  pub old : Shape
  pub new : Shape
  pub written : List ℕ
  pub private : ℕ → ℕ → Bool

-- the shape of a node
abbrev pub shape_in : BlockMap → Root → Shape
shape_in m node = record { levels = node.levels; present = present_of m node }

-- what a change makes of a node
abbrev pub alteration_of : Order → BlockState → Root → Change → Alteration
alteration_of order m node c = record {
  blocksize = m.holdings.size;
  old = shape_in (block_map order m) node;
  new = shape_after m.holdings.size (shape_in (block_map order m) node) c.size (written_by c) c.gone;
  written = written_by c;
  private = λ k j. m.holdings.private (pointer_at (block_map order m) node k j);
}

-- how many fresh blocks it takes
abbrev pub fresh_count : Alteration → ℕ
fresh_count a = need_of a.blocksize a.old a.new a.written a.private

-- as many blocks are free as a change of the node takes, where bytes are told
abbrev pub HasRoomFor : Order → BlockState → Root → Change → Type 0
HasRoomFor order m node c = IsTrue m.tells → fresh_count (alteration_of order m node c) ≤ m.holdings.free
