use Rattle.std.proofs.Common.{◌≡◌, ◌∙◌, ◌+◌, ◌≤◌, inl, inr, sym, ap, subst}
use Rattle.std.proofs.lemmas.Bool.{cases_lt}
use Rattle.qx_blocks.specs.BlockState.{IsBlockSize}
use Rattle.qx_ptree.specs.declared.change.Change.{Change}
use Rattle.qx_ptree.specs.Fates.{IsChange, is_written}
use Rattle.qx_ptree.specs.ReadyLeaves.{IsReadyApart, IsWrittenBy}
use Rattle.qx_geom.specs.Room.{greatest_end}
use Rattle.qx_file.specs.FilePlans.{write_change}
use Rattle.qx_batch.specs.declared.planned.Planned.{Planned}
use Rattle.block_tests.proofs.ThreeFiles.{passes_size}
use Rattle.block_tests.proofs.batches.planned_write.Goals as goal

pub returns-in-Ok-clause-writes : goal.returns-in-Ok-clause-writes
returns-in-Ok-clause-writes c =
    let sized = passes_size c.args.size c.requires.size in
    let ends : c.args.at + c.args.count ≤ greatest_end = elim (cases_lt greatest_end (c.args.at + c.args.count)) [ inl over ↦ absurd (cc (c.in-Ok.ensures.too_big over)) | inr low ↦ low ] in
    let is : c.in-Ok.change ≡ write_change c.args.node c.args.at c.args.count c.args.size = cc (c.in-Ok.ensures.fits ends) in
    let change : c.new.result.change ≡ write_change c.args.node c.args.at c.args.count c.args.size = ap (λ (p : Planned). p.change) c.new.ensures.1 ∙ is in
    let node : c.new.result.node ≡ c.args.node = ap (λ (p : Planned). p.node) c.new.ensures.1 in
    record {
      change = λ reached. subst (IsChange c.args.size) (sym change)
          (c.a_planned_write_writes_its_leaves.ensures.change c.args.node c.args.at c.args.count c.args.size sized c.requires.some (rw (sym node) reached) ends);
      writes = λ i has. ap (λ (x : Change). is_written x i) change ∙ (c.a_planned_write_writes_its_leaves.ensures.written c.args.node c.args.at c.args.count c.args.size i sized c.requires.some).1 has;
      can = λ order m w same plan ready.
          let planned : w.plan.change ≡ write_change c.args.node c.args.at c.args.count m.holdings.size = ap (λ (p : Planned). p.change) plan ∙ change ∙ ap (write_change c.args.node c.args.at c.args.count) (sym same) in
          c.a_planned_write_writes_its_leaves.ensures.can order m c.args.node w.prep.root c.args.at c.args.count (subst IsBlockSize (sym same) c.requires.size) c.requires.some ready.levels
          (ready.size ∙ ap (λ (x : Change). x.size) planned) (subst (λ (x : Change). IsReadyApart order m w.prep.root (IsWrittenBy x)) planned ready.ready);
    }
