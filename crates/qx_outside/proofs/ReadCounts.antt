-- Counts of device reads, call after call.
use Rattle.std.proofs.Common.{◌≡◌, ℕ, ◌+◌, ◌≤◌, Option, Some, None, refl, ap, ◌∙◌, arith}
use Rattle.std.specs.Option.{option_map}
use Rattle.qx_outside.specs.Outside.{Outside}
use Rattle.qx_outside.specs.Calls.{ReadsAtMost}

-- one count after another
map_more : (j k : ℕ) (reads : Option ℕ) → option_map (λ n. n + k) (option_map (λ n. n + j) reads) ≡ option_map (λ n. n + (j + k)) reads
map_more j k None = refl
map_more j k (Some n) = ap (λ (m : ℕ). Some m) (let e : n + j + k ≡ n + (j + k) = omega arith in e)

-- some reads, and then some more
pub reads_then : (j k most : ℕ) (a b c : Outside) → j + k ≤ most → ReadsAtMost k b c → ReadsAtMost j a b → ReadsAtMost most a c
reads_then j k most a b c room later first = record {
  count = first.count + later.count;
  few = omega (arith, first.few, later.few);
  reads = later.reads ∙ ap (λ (r : Option ℕ). option_map (λ n. n + later.count) r) first.reads ∙ map_more first.count later.count a.dev_reads;
}
