use Rattle.std.proofs.Common.{◌≡◌, ◌+◌, ◌≤◌, All, length, vec_len, vec_capacity}
use Rattle.qx_patch.proofs.patch.add_buffers.Given as goal

abbrev pub invariant-loop : goal.invariant-loop
invariant-loop l = record {
  grown : vec_len l.spares ≡ vec_len l.fn.spares + l.counter;
  long : All (λ spare. length spare.items ≡ l.size) l.spares.items;
  room : vec_capacity l.fn.spares ≤ vec_capacity l.spares;
}
