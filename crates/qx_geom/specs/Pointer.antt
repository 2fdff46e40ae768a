-- Pointers and the leaves that they reach.
use Rattle.std.specs.Prelude.{ℕ, ◌+◌, ◌*◌, ◌-◌, ◌^◌, ◌/◌}

-- the pointer that leads to no block
abbrev pub absent : ℕ
absent = 0xFFFFFFFF

-- the quotient, rounded up
abbrev pub ceil_div : ℕ → ℕ → ℕ
ceil_div a b = (a + b - 1) / b

-- how many pointers a block has
abbrev pub per_block : ℕ → ℕ
per_block blocksize = blocksize / 4

-- how many leaves this many levels reach
abbrev pub reach : ℕ → ℕ → ℕ
reach blocksize levels = 16 * per_block blocksize ^ levels
