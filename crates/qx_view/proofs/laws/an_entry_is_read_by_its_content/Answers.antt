use Rattle.qx_view.proofs.EntryContents.{entry_alike}
use Rattle.qx_view.proofs.laws.an_entry_is_read_by_its_content.Goals as goal

pub returns : goal.returns
returns c r i a b e pos same is = entry_alike r i a b e pos (λ own. same) is
