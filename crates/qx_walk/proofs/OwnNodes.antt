-- The node of an inode, once it was walked.
use Rattle.std.proofs.Common.{◌≡◌, ℕ, ◌%◌, List, ◌∙◌, ap, arith}
use Rattle.std.specs.Prelude.{Bool, Ok}
use Rattle.qx_geom.proofs.BlockSizes.{BlockSizeBounds, block_size-bounds}
use Rattle.qx_geom.specs.declared.root.Root.{Root}
use Rattle.qx_geom.specs.Pointer.{per_block}
use Rattle.qx_nodes.specs.BlockMap.{BlockMap}
use Rattle.qx_nodes.specs.Content.{HasSize, levels_fit}
use Rattle.qx_nodes.specs.Visits.{visits_of}
use Rattle.qx_view.proofs.PassingTests.{NodePasses, node_passes}
use Rattle.qx_nodes.specs.ForeignNodes.{is_foreign_node}
use Rattle.qx_walk.proofs.LastLeaf.{tail_is}
use Rattle.qx_pointers.specs.declared.node.Part.{Part}
use Rattle.qx_pointers.specs.declared.source.Shape.{Shape}
use Rattle.qx_walk.specs.declared.state.Way.{Way}
use Rattle.qx_walk.specs.Inodes.{WalksNode, own_tests, tail_at}
use Rattle.qx_pointers.specs.Marks.{GoesThrough, Marks}
use Rattle.qx_pointers.specs.Parts.{IsWhole, kept_leaves}
use Rattle.qx_walk.specs.Trees.{note_if}

-- blocks of a shape have room for pointers
pub sized_by : (m : BlockMap) (shape : Shape) → m.size ≡ shape.blocksize → HasSize m
sized_by m shape is =
    let bounds : BlockSizeBounds shape.blocksize = block_size-bounds shape.blocksize shape.sized in
    record { size = omega (arith, is, bounds.size_from); words = omega (arith, ap per_block is, bounds.pointers_from) }

-- a node whose tests have passed, with what is noted of it
pub node_walked : (m : BlockMap) (n : ℕ) (node : Root) (keeps tail : Bool) (met : List ℕ) (part : Part) (old new : Way) → HasSize m → Marks old.met met → GoesThrough (own_tests m n node) (Ok part) old.met new.met → IsWhole m node part
    → new.leaves.items ≡ kept_leaves keeps (visits_of m node) → new.notes.nodes ≡ note_if (is_foreign_node m node) n old.notes.nodes → new.notes.tails ≡ note_if tail n old.notes.tails → tail ≡ tail_at m (node.size % m.size) part.end → WalksNode m n node keeps met (Ok part) old new
node_walked m n node keeps tail met part old new sized marks tests whole kept nodes tails tail_as =
    let none = tests.answer met marks in
    let passes : NodePasses m node (levels_fit m node) = node_passes m n node (levels_fit m node) (record { met = met; none = none }) in
    record {
      answer = none;
      marks = tests.marks met marks;
      part = whole;
      leaves = λ keeping. record { are = kept ∙ ap (λ b. kept_leaves b (visits_of m node)) keeping; fits = passes.fit; undamaged = passes.undamaged };
      nodes = nodes;
      tails = tails ∙ ap (λ b. note_if b n old.notes.tails) (tail_as ∙ ap (tail_at m (node.size % m.size)) whole.end ∙ tail_is m node sized passes.fit passes.undamaged);
    }
