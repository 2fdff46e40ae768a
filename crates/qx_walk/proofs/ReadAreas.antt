-- The superblock that was chosen is valid.
use Rattle.std.proofs.Common.{◌≡◌, ℕ, ◌+◌, ◌≤◌, inl, inr, List, sym, ◌∙◌}
use Rattle.std.specs.Prelude.{Bool, true, false, ◌==◌, if◌then◌else◌, Option, Some, None, Ok, option_and_then}
use Rattle.std.specs.Result.{result_ok}
use Rattle.qx_geom.specs.Layout.{is_block_size}
use Rattle.qx_geom.specs.declared.area.Which.{Which}
use Rattle.qx_super.proofs.ActiveAreas.{chosen_one}
use Rattle.qx_super.proofs.SuperblockTests.{valid-blocksize, valid-room}
use Rattle.qx_super.specs.Active.{IsReadFrom, choice_of, first_read, only_at, searched_place}
use Rattle.qx_super.specs.Superblock.{Superblock, second_place_of, superblock_of}
use Rattle.qx_super.specs.declared.supers.Areas.{Areas}
use Rattle.qx_super.specs.declared.choice.Choice.TheVariants as choices
use Rattle.qx_super.proofs.ValidSuperblocks.{ok_of}

-- a superblock's blocks and the second superblock behind them fit a device of this length
pub record FitsLength (s : Superblock) (len : ℕ) : Type 0 where
  pub sized : is_block_size s.blocksize ≡ true
  pub room : second_place_of s + 512 ≤ len

-- the bytes of an area
fits_read : (bytes : List ℕ) (len : ℕ) (s : Superblock) → result_ok (superblock_of bytes len) ≡ Some s → FitsLength s len
fits_read bytes len s e =
    let valid : superblock_of bytes len ≡ Ok s = ok_of (superblock_of bytes len) s e in
    record { sized = valid-blocksize bytes len s valid; room = valid-room bytes len s valid }

-- a superblock that counts where it says that it stands is one
only_from : (place : ℕ) (o : Option Superblock) (s : Superblock) → only_at place o ≡ Some s → o ≡ Some s
only_from place None s e = e
only_from place (Some x) s e = go (second_place_of x == place) e
  where
    go : (b : Bool) → (if b then Some x else None) ≡ Some s → Some x ≡ Some s
    go true e = e
    go false e = absurd (cc)

-- the bytes of the second area, wherever it was looked for
fits_second : (place : Option ℕ) (bytes : List ℕ) (len : ℕ) (s : Superblock) → option_and_then (λ p. only_at p (result_ok (superblock_of bytes len))) place ≡ Some s → FitsLength s len
fits_second None bytes len s e = absurd (cc)
fits_second (Some p) bytes len s e = fits_read bytes len s (only_from p (result_ok (superblock_of bytes len)) s e)

-- the superblock that was chosen
pub fits_chosen : (areas : Areas) (which : Which) (len : ℕ) (s : Superblock) → IsReadFrom len areas → choice_of areas.first areas.second ≡ choices.Active which s → FitsLength s len
fits_chosen areas which len s read e = elim (chosen_one areas.first areas.second which s e) [
  | inl first ↦ fits_read read.first len s (sym read.first_is ∙ first)
  | inr second ↦ fits_second (searched_place len (first_read read.first len)) read.second len s (sym read.second_is ∙ second)
]
