-- Which leaves of a file a write or a new size writes.
use Rattle.std.specs.Prelude.{ℕ, ◌+◌, ◌-◌, ◌/◌, ◌%◌, Bool, not, ◌&&◌, max, None, nat_lt, ◌==◌, if◌then◌else◌}
use Rattle.qx_geom.specs.declared.root.Root.{Root}
use Rattle.qx_ptree.specs.declared.change.Change.{Change}

-- a change to this size that writes some leaves
abbrev pub writes_range : ℕ → ℕ → ℕ → Change
writes_range size first count = record { size = size; first = first; count = count; also = None; gone = None }

-- a write of `count` bytes from a place on: the leaves that have one of the bytes, and a size that has them all
abbrev pub write_change : Root → ℕ → ℕ → ℕ → Change
write_change node at count blocksize = writes_range (max node.size (at + count)) (at / blocksize) ((at + count - 1) / blocksize + 1 - at / blocksize)

-- a file that is cut within a leaf has bytes past its end there, if the leaf is present
abbrev pub cuts_leaf : Root → ℕ → Bool → ℕ → Bool
cuts_leaf node size last_present blocksize = last_present && (nat_lt size node.size && not (size % blocksize == 0))

-- a new size: the leaf with the end is written where the file is cut within it
abbrev pub size_change : Root → ℕ → Bool → ℕ → Change
size_change node size last_present blocksize = writes_range size (size / blocksize) (if cuts_leaf node size last_present blocksize then 1 else 0)

-- how many bytes of the leaf with the end of a file lie past it, where it ends within one
abbrev pub past_end : ℕ → ℕ → ℕ
past_end blocksize size = blocksize - size % blocksize
