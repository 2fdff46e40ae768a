-- What is tested of a change holds of each that a node can undergo.
use Rattle.std.proofs.Common.{◌≡◌, ◌∙◌, ℕ, ◌+◌, ◌<◌, ◌≤◌, true, false}
use Rattle.std.specs.Prelude.{◌&&◌, ◌||◌, nat_le, nat_lt}
use Rattle.std.proofs.lemmas.Bool.{le-leb, lt-ltb}
use Rattle.std.proofs.Math.Bool.{or-true}
use Rattle.qx_geom.specs.Pointer.{reach}
use Rattle.qx_geom.specs.Positions.{is_named}
use Rattle.qx_blocks.specs.BlockState.{IsBlockSize}
use Rattle.qx_ptree.specs.declared.change.Change.{Change}
use Rattle.qx_ptree.specs.Fates.{IsChange, is_written, leaves_after}
use Rattle.qx_ptree.proofs.WholeNeed.{leaves-reached}
use Rattle.qx_ptree.proofs.PointerCounts.{size_positive}

-- the tests, where so many leaves lie below the new size
pub record HasPlaces (blocksize leaves : ℕ) (c : Change) : Type 0 where
  pub reached : leaves ≤ reach blocksize 5
  pub range : (i : ℕ) → c.first ≤ i → i < c.first + c.count → i < leaves
  pub also : (i : ℕ) → is_named c.also i ≡ true → (i < leaves) × ((nat_le c.first i && nat_lt i (c.first + c.count)) ≡ false)
  pub gone : (i : ℕ) → is_named c.gone i ≡ true → is_written c i ≡ false

-- a leaf of the range is written
in_range : (c : Change) (i : ℕ) → c.first ≤ i → i < c.first + c.count → is_written c i ≡ true
in_range c i from to = λ k. (le-leb c.first i from k && lt-ltb i (c.first + c.count) to k) || is_named c.also i

-- so is the other one
other : (c : Change) (i : ℕ) → is_named c.also i ≡ true → is_written c i ≡ true
other c i is = (λ k. (nat_le c.first i && nat_lt i (c.first + c.count)) || is k) ∙ or-true (nat_le c.first i && nat_lt i (c.first + c.count))

-- they hold
pub places : (blocksize : ℕ) (c : Change) → IsBlockSize blocksize → IsChange blocksize c → HasPlaces blocksize (leaves_after blocksize c) c
places blocksize c size change = record {
  reached = leaves-reached blocksize c (size_positive blocksize size) change;
  range = λ i from to. change.below i (in_range c i from to);
  also = λ i is. (change.below i (other c i is), change.apart i is);
  gone = change.stays;
}
