use Rattle.std.proofs.Common.{◌≡◌, List, ℕ, replicate, ap, ◌∙◌}
use Rattle.qx_records.specs.NameRecord.{raw_in}
use Rattle.qx_records.proofs.WrittenRecords.{raw_in-zeros}
use Rattle.qx_records.proofs.rows.write_unused.Goals as goal

pub returns-clause-read_back : goal.returns-clause-read_back
returns-clause-read_back c =
    let zeros : c.fill.new.self ≡ replicate 32 0 = c.fill.ensures.after (λ y e. cc) ∙ ap (λ (n : ℕ). replicate n 0) c.requires in
    λ order. ap (λ (l : List ℕ). raw_in order l) zeros ∙ raw_in-zeros order
