use Rattle.std.proofs.Common.{◌≡◌, ◌*◌, ◌-◌, ◌≤◌, List, ℕ, length, take, ap, subst, arith}
use Rattle.qx_lookup.specs.UnusedRecords.{IsFirstOf}
use Rattle.qx_lookup.proofs.FreeRecords.{free_at, unused_of_part, unused_within}
use Rattle.qx_lookup.proofs.unused.unused_in_block.Goals as goal

-- the bytes that are searched
searched : (count : ℕ) (lent : List ℕ) → take (32 * count - 0) lent ≡ take (32 * count) lent
searched count lent = let all : 32 * count - 0 ≡ 32 * count = omega arith in ap (λ n. take n lent) all

pub returns-clause-unused : goal.returns-clause-unused
returns-clause-unused g c told =
    let lent : List ℕ = c.in_ok-bytes.bytes.now in
    let long : 32 * c.args.count ≤ length lent = omega (arith, c.in_ok-bytes.ensures.long, c.requires.count) in
    let bytes = rw c.in_ok-bytes.was at c.read.follows.holds-at-none.1 in
    subst (λ bs. IsFirstOf (free_at c.args.order bs) 0 c.args.count c.first_unused.result) (bytes told)
    (unused_of_part c.args.order lent (take (32 * c.args.count - 0) lent) c.args.count c.first_unused.result (searched c.args.count lent) long c.first_unused.ensures)

pub returns-clause-within : goal.returns-clause-within
returns-clause-within g c =
    let lent : List ℕ = c.in_ok-bytes.bytes.now in
    let long : 32 * c.args.count ≤ length lent = omega (arith, c.in_ok-bytes.ensures.long, c.requires.count) in
    unused_within c.args.order lent (take (32 * c.args.count - 0) lent) c.args.count c.first_unused.result (searched c.args.count lent) long c.first_unused.ensures
