-- The content of a new directory's node.
use Rattle.std.specs.Prelude.{◌≡◌, ℕ, ◌*◌, ◌<◌, ◌≤◌, [], ◌∷◌}
use Rattle.qx_fields.specs.declared.order.Order.{Order}
use Rattle.qx_nodes.specs.NodeContents.{NodeContent}
use Rattle.qx_records.specs.NameRecord.{Short}
use Rattle.qx_records.specs.NameRecord as raws
use Rattle.qx_model.specs.Tree.{dot_name, dots_name}
use Rattle.qx_edits.specs.RecordEdits.{record_of}

-- one leaf, with `.` and `..` first and no other row
pub record IsNewDirectory (order : Order) (blocksize n parent : ℕ) (c : NodeContent) : Type 0 where
  pub size : c.size ≡ blocksize
  pub present : c.present ≡ 0 ∷ []
  pub dot : record_of order blocksize c 0 ≡ Short n dot_name
  pub dots : record_of order blocksize c 1 ≡ Short parent dots_name
  pub rest : (k : ℕ) → 2 ≤ k → k * 32 < blocksize → record_of order blocksize c k ≡ raws.Unused
