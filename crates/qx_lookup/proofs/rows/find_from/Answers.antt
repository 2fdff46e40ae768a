use Rattle.std.proofs.Common.{◌≡◌, ◌*◌, ◌-◌, ◌≤◌, List, ℕ, length, take, ap, subst, arith}
use Rattle.qx_blocks.specs.BlockState.{BlockState}
use Rattle.qx_lookup.specs.Rows.{IsFoundAs}
use Rattle.qx_lookup.proofs.PartRecords.{found_as, found_in}
use Rattle.qx_lookup.proofs.rows.find_from.Goals as goal

-- the bytes that are searched
searched : (to : ℕ) (lent : List ℕ) → take (32 * to - 0) lent ≡ take (32 * to) lent
searched to lent = let all : 32 * to - 0 ≡ 32 * to = omega arith in ap (λ n. take n lent) all

pub returns-clause-found : goal.returns-clause-found
returns-clause-found g c told =
    let old : BlockState = g.B.Blocks.state c.args.blocks.now in
    let lent : List ℕ = c.in_ok-bytes.bytes.now in
    let long : 32 * c.args.to ≤ length lent = omega (arith, c.in_ok-bytes.ensures.long, c.requires.to) in
    let bytes = rw c.in_ok-bytes.was at c.read.follows.holds-at-none.1 in
    subst (λ bs. IsFoundAs c.args.order bs c.args.name.now c.args.from c.args.to c.find.result) (bytes told)
    (found_as c.args.order lent (take (32 * c.args.to - 0) lent) c.args.name.now c.args.to (searched c.args.to lent) long c.args.from c.find.result c.find.ensures)

pub returns-clause-between : goal.returns-clause-between
returns-clause-between g c =
    let lent : List ℕ = c.in_ok-bytes.bytes.now in
    let long : 32 * c.args.to ≤ length lent = omega (arith, c.in_ok-bytes.ensures.long, c.requires.to) in
    found_in c.args.order lent (take (32 * c.args.to - 0) lent) c.args.name.now c.args.to (searched c.args.to lent) long c.args.from c.find.result c.find.ensures
