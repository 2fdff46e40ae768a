use Rattle.std.proofs.Common.{◌≡◌, ◌∙◌, ap, drop, rules, tests}
use Rattle.std.specs.Prelude.{◌==◌}
use Rattle.std.proofs.lemmas.List.{take_rest}
use Rattle.std.proofs.lemmas.Iterator.{YieldsList-from_slice}
use Rattle.std.proofs.lemmas.Iterator.Search.{all_from_yields_List}
use Rattle.qx_view.specs.Sound.{are_zero}
use Rattle.qx_tables.proofs.TableBytes.{inode_piece}
use Rattle.qx_tables.proofs.table.InodeTable.is_plain.Goals as goal

pub returns : goal.returns
returns c = λ m inodes h.
    let all : c.all.result ≡ are_zero (drop 102 c.bytes_of.result.now) = all_from_yields_List (λ b. b == 0) _ _ _ c.all.ensures.ran (YieldsList-from_slice (drop 102 c.bytes_of.result.now) (c.iter.ensures.rest ∙ take_rest c.bytes_of.result.now 102)) (λ x b q k. search (rules, tests)) in
    all ∙ ap (λ l. are_zero (drop 102 l)) (c.bytes_of.ensures.bytes ∙ inode_piece m inodes c.args.self.now c.args.n h c.requires.0 c.requires.1)
