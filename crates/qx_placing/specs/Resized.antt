-- What planned changes leave of the sizes and the present leaves of contents, and what contents say of tails.
use Rattle.std.specs.Prelude.{◌≡◌, ℕ, ◌/◌, ◌%◌, Bool, false, not, ◌&&◌, ◌==◌, List, [], None, Contains, drop}
use Rattle.qx_geom.specs.Lists.{is_in}
use Rattle.qx_geom.specs.Positions.{present_after}
use Rattle.qx_nodes.specs.NodeContents.{NodeContent}
use Rattle.qx_ptree.specs.Fates.{leaves_after, written_by}
use Rattle.qx_batch.specs.declared.planned.Planned.{Planned}
use Rattle.qx_batch.specs.Nodes.{owners_of}
use Rattle.qx_view.specs.Sound.{are_zero}
use Rattle.qx_copies.specs.Copies.{BlockCopy, Contents, node_in}

-- each planned number's content has the size and the present leaves that its change leaves, every other those that it had
pub record AreResized (blocksize : ℕ) (ps : List Planned) (old new : Contents) : Type 0 where
  pub sizes : (p : Planned) → Contains ps p → (new p.owner).size ≡ p.change.size
  pub present : (p : Planned) → Contains ps p → (new p.owner).present ≡ present_after (old p.owner).present (leaves_after blocksize p.change) (written_by p.change) p.change.gone
  pub other_sizes : (o : ℕ) → is_in (owners_of ps) o ≡ false → (new o).size ≡ (old o).size
  pub others_present : (o : ℕ) → is_in (owners_of ps) o ≡ false → (new o).present ≡ (old o).present

-- a number without a node holds nothing
abbrev pub HoldNothingElse : BlockCopy → Contents → Type 0
HoldNothingElse c held = (o : ℕ) → node_in c o ≡ None → ((held o).size ≡ 0) × ((held o).present ≡ [])

-- a content has a byte past its size, in the leaf that has the size within it, that isn't 0
abbrev pub has_tail_in : ℕ → NodeContent → Bool
has_tail_in blocksize c = not (c.size % blocksize == 0) && not (are_zero (drop (c.size % blocksize) (c.leaves (c.size / blocksize))))
