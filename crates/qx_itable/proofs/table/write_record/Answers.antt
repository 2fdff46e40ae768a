use Rattle.std.proofs.Common.{◌≡◌, ℕ, List, replicate, sym, ◌∙◌, ap}
use Rattle.qx_records.specs.InodeRecord.{inode_in}
use Rattle.qx_itable.specs.TableState.{if_live}
use Rattle.qx_itable.proofs.KeptInodes.{zeros-dead}
use Rattle.qx_itable.proofs.table.write_record.Goals as goal

pub returns-in-None-clause-read_back : goal.returns-in-None-clause-read_back
returns-in-None-clause-read_back c =
    let zeros : c.fill.new.self ≡ replicate 128 0 = c.fill.ensures.after (λ y e. cc) ∙ ap (λ (n : ℕ). replicate n 0) c.requires.record in
    ap (λ (l : List ℕ). if_live (inode_in c.args.order l)) zeros ∙ zeros-dead c.args.order ∙ sym c.in-None.is
