use Rattle.std.proofs.Common.{◌≡◌, ◌+◌, ◌-◌, ◌*◌, IsTrue, length, slice_index}
use Rattle.qx_geom.specs.Pointer.{per_block}
use Rattle.qx_ptree.specs.Building.{BuildsOnto}
use Rattle.qx_ptree.specs.Parts.{part_of}
use Rattle.qx_ptree.specs.Plans.{alteration_in}
use Rattle.qx_ptree.specs.Reaching.{IsMarked, ReachesOnto}
use Rattle.qx_ptree.proofs.SumsBelow.{any_up_to}
use Rattle.qx_ptree.proofs.new_parts.+prepare_at.Given as goal

abbrev pub decreases-prepare_at : goal.decreases-prepare_at
decreases-prepare_at g l = l.level

-- the words so far are built and reach the written leaves below them, and it is known what they change
abbrev pub invariant-loop-w : goal.invariant-loop-w
invariant-loop-w g l = record {
  told : IsTrue (g.B.Blocks.state l.blocks).tells → IsTrue (g.B.Blocks.state l.initial.blocks).tells;
  long : length l.new ≡ 1024;
  reaches : ReachesOnto (g.B.Blocks.state l.fn.blocks) (g.B.Blocks.state l.blocks) l.fn.work l.work l.fn.plan
      (record { level = l.fn.level - 1; first = l.fn.index * per_block (g.B.Blocks.state l.fn.blocks).holdings.size; count = l.w })
      (λ j. slice_index l.new (j - l.fn.index * per_block (g.B.Blocks.state l.fn.blocks).holdings.size));
  marked : IsMarked (g.B.Blocks.state l.fn.blocks) l.fn.plan
      (record { level = l.fn.level - 1; first = l.fn.index * per_block (g.B.Blocks.state l.fn.blocks).holdings.size; count = l.w }) l.changed l.present;
  built : BuildsOnto (g.B.Blocks.state l.fn.blocks) (g.B.Blocks.state l.blocks) l.fn.work l.work l.fn.plan
      (record { level = l.fn.level - 1; first = l.fn.index * per_block (g.B.Blocks.state l.fn.blocks).holdings.size; count = l.w })
      (λ j. slice_index l.new (j - l.fn.index * per_block (g.B.Blocks.state l.fn.blocks).holdings.size));
  changed : IsTrue (g.B.Blocks.state l.blocks).tells
      → l.changed ≡ any_up_to l.w (λ v. (part_of (alteration_in l.fn.plan (g.B.Blocks.state l.fn.blocks)) (l.fn.level - 1) (l.fn.index * per_block (g.B.Blocks.state l.fn.blocks).holdings.size + v)).changed);
  present : IsTrue (g.B.Blocks.state l.blocks).tells
      → l.present ≡ any_up_to l.w (λ v. (part_of (alteration_in l.fn.plan (g.B.Blocks.state l.fn.blocks)) (l.fn.level - 1) (l.fn.index * per_block (g.B.Blocks.state l.fn.blocks).holdings.size + v)).present);
  aside : (g.B.Blocks.beside l.blocks).aside ≡ (g.B.Blocks.beside l.fn.blocks).aside;
  faults : (g.B.Blocks.beside l.blocks).faults ≡ (g.B.Blocks.beside l.fn.blocks).faults;
}
