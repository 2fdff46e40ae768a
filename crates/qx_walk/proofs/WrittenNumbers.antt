-- The numbers that this project writes for a superblock.
use Rattle.std.proofs.Common.{◌≡◌, ℕ, ap, sym, ◌∙◌, true}
use Rattle.std.specs.Prelude.{Bool, IsTrue, None, Option, Some, Ok, Err, Result, false, if◌then◌else◌, is_some}
use Rattle.qx_geom.specs.Layout.{geometry_of}
use Rattle.qx_geom.specs.declared.geometry.GeomFault.{GeomFault}
use Rattle.qx_geom.specs.declared.geometry.Geometry.{Geometry}
use Rattle.qx_super.specs.Superblock.{Superblock}
use Rattle.qx_view.proofs.ActiveHalf.{IsGeometryOf, written_is}
use Rattle.qx_view.specs.Sound.{geometry_if, is_written_by, written_geometry}
use Rattle.qx_walk.specs.Layouts.{HasNumbers}

-- numbers that pass the tests are those that are written
pub written_by : (s : Superblock) (len : ℕ) (g : Geometry) → geometry_of len s.blocksize s.num_inodes ≡ Ok g → is_written_by s g ≡ true → written_geometry s len ≡ Some g
written_by s len g ok written =
    (λ i. geometry_if s (ok i)) ∙ (λ i. if written i then Some g else None)

-- a choice that is made is of what was there
chosen : (b : Bool) (h g : Geometry) → (if b then Some h else None) ≡ Some g → h ≡ g
chosen true h g e = cc
chosen false h g e = absurd (cc)

-- numbers that are written are those of a device of this length
written_ok : (s : Superblock) (r : Result Geometry GeomFault) (g : Geometry) → geometry_if s r ≡ Some g → r ≡ Ok g
written_ok s (Ok h) g e = ap (λ (k : Geometry). Ok k) (chosen (is_written_by s h) h g e)
written_ok s (Err fault) g e = absurd (cc)

-- where there are some, the device has a geometry with as many blocks
pub written_numbers : (s : Superblock) (len : ℕ) (o : Option Geometry) → o ≡ written_geometry s len → IsTrue (is_some o)
    → (g : Geometry) × (geometry_of len s.blocksize s.num_inodes ≡ Ok g) × (g.num_blocks ≡ s.num_blocks)
written_numbers s len None e some = absurd (cc)
written_numbers s len (Some g) e some = (g, written_ok s _ g (sym e), sym (written_is s len g (sym e)).count)

-- they are a volume's, and the superblock's
pub numbers_are : (s : Superblock) (len : ℕ) (g : Geometry) → written_geometry s len ≡ Some g → HasNumbers s g
numbers_are s len g e = let of : IsGeometryOf s g = written_is s len g e in record { volume = of.volume; blocksize = sym of.size; count = sym of.count }
