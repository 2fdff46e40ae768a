use Rattle.std.proofs.Common.{◌≡◌, ◌<◌, ◌≤◌, ◌*◌, ◌^◌, ℕ, take, count_ones, bit_or, get_or}
use Rattle.std.specs.Prelude.{sum_by}
use Rattle.qx_blockset.proofs.set.unite.Given as goal

abbrev pub invariant-loop-place : goal.invariant-loop-place
invariant-loop-place l = record {
  united : (k : ℕ) → k < l.place → get_or l.words k 0 ≡ bit_or (get_or l.fn.words k 0) (get_or l.others k 0);
  untouched : (k : ℕ) → l.place ≤ k → get_or l.words k 0 ≡ get_or l.fn.words k 0;
  fit : (k : ℕ) → get_or l.words k 0 < 2 ^ 64;
  counted : l.ones ≡ sum_by count_ones (take l.place l.words);
  bounded : l.ones ≤ 64 * l.place;
}
