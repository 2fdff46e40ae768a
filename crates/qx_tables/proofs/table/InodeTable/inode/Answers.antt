use Rattle.std.proofs.Common.{◌∙◌, ap}
use Rattle.qx_records.specs.InodeRecord.{inode_in}
use Rattle.qx_tables.proofs.TableBytes.{inode_piece}
use Rattle.qx_tables.proofs.table.InodeTable.inode.Goals as goal

pub returns-clause-shown : goal.returns-clause-shown
returns-clause-shown c = λ m inodes h.
    c.get.ensures ∙ c.new.ensures ∙ ap (λ order. inode_in order c.bytes_of.result.now) h.order
    ∙ ap (inode_in m.order) (c.bytes_of.ensures.bytes ∙ inode_piece m inodes c.args.self.now c.args.n h c.requires.0 c.requires.1)
