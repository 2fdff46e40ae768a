-- The maker's way: what it puts between one good sync and the next, and over which bytes.
use Rattle.std.specs.Prelude.{ℕ, ◌≡◌, IsTrue, Bool, Result, OnOk, ◌+◌, ◌-◌, List, [], ◌∷◌, ◌++◌, ◌⊎◌, length, min, replicate, Option, Some, None, Contains}
use Rattle.qx_outside.specs.Calls.{LeavesRest}
use Rattle.qx_outside.specs.Causes.{HasCause}
use Rattle.qx_outside.specs.Moments.{Moves, Reaches}
use Rattle.qx_outside.specs.Puts.{HasPut, IsAtRest, IsPutting, Put, PutsOrRests, with_puts}
use Rattle.qx_outside.specs.Outside.{Outside}
use Rattle.qx_outside.specs.Trail.{History, bytes_of, lengths_asked, others_of, resized, sized}
use Rattle.qx_fields.specs.declared.order.Order.{Order}
use Rattle.qx_geom.specs.declared.area.Which.TheVariants.{First, Second}
use Rattle.qx_geom.specs.declared.geometry.Geometry.{Geometry}
use Rattle.qx_geom.specs.Layout.{area_place, blocks_begin, first_place}
use Rattle.qx_super.specs.declared.choice.Choice.{Choice}
use Rattle.qx_super.specs.declared.choice.Choice.TheVariants as choices
use Rattle.qx_super.specs.Superblock.{second_place_of}
use Rattle.qx_super.specs.Active.{choice_in}
use Rattle.qx_make.specs.Blocks.{blocks_bytes, top_block}
use Rattle.qx_make.specs.Superblocks.{made_super_bytes}

-- what is put between two good syncs, over what the first of them kept
pub record Stage : Type 0 where
  pub kept : List ℕ
  pub puts : List Put

-- the bytes once all is put
abbrev pub after_stage : Stage → List ℕ
after_stage s = with_puts s.kept s.puts

-- it is on its way, or done
abbrev pub Passes : Stage → History → Type 0
Passes s h = PutsOrRests s.kept s.puts (after_stage s) h

-- over a device with the stage's bytes a call that is Ok leaves all put and kept; if it began at rest it passes the stage, whatever it answers; it asks for no length
pub record Performs {T E : Type 0} (stage : Stage) (result : Result T E) (old new : Outside) : Type 0 where
  pub reaches : Reaches (IsAtRest stage.kept) (Passes stage) old new
  pub ok : OnOk result (Moves (IsAtRest stage.kept) (IsAtRest (after_stage stage)) (Passes stage) old new)
  pub kept : OnOk result (IsTrue new.tells → bytes_of old.history ≡ stage.kept → IsAtRest (after_stage stage) new.history)
  pub others : IsTrue new.tells → others_of new.history.deeds ≡ others_of old.history.deeds

-- it writes and syncs alone: it leaves the rest of the outside, and an Err comes only where the count of faults rose
pub record JustWrites {T E : Type 0} (old new : Outside) (result : Result T E) : Type 0 where
  pub rest : LeavesRest old new
  pub cause : HasCause old.dev_faults new.dev_faults result

-- the same as `Performs`, but where it is Ok all is put and not yet kept
pub record PutsAll {T E : Type 0} (stage : Stage) (result : Result T E) (old new : Outside) : Type 0 where
  pub reaches : Reaches (IsAtRest stage.kept) (Passes stage) old new
  pub ok : OnOk result (Moves (IsAtRest stage.kept) (HasPut stage.kept stage.puts (after_stage stage)) (Passes stage) old new)
  pub now : OnOk result (IsTrue new.tells → bytes_of old.history ≡ stage.kept → bytes_of new.history ≡ after_stage stage)
  pub others : IsTrue new.tells → others_of new.history.deeds ≡ others_of old.history.deeds

-- the device is in one of these stages
pub record IsInStage (stages : List Stage) (h : History) : Type 0 where
  pub stage : Stage
  pub among : Contains stages stage
  pub putting : IsPutting stage.kept stage.puts h

-- several stages one after another, from these bytes to those
pub record PerformsAll {T E : Type 0} (kept all : List ℕ) (stages : List Stage) (result : Result T E) (old new : Outside) : Type 0 where
  pub reaches : Reaches (IsAtRest kept) (IsInStage stages) old new
  pub ok : OnOk result (Moves (IsAtRest kept) (IsAtRest all) (IsInStage stages) old new)
  pub kept_ok : OnOk result (IsTrue new.tells → bytes_of old.history ≡ kept → IsAtRest all new.history)
  pub others : IsTrue new.tells → others_of new.history.deeds ≡ others_of old.history.deeds

-- at most one length was asked for, this one
abbrev pub AsksOneLength : ℕ → History → History → Type 0
AsksOneLength size old new = (lengths_asked new.deeds ≡ lengths_asked old.deeds) ⊎ (lengths_asked new.deeds ≡ size ∷ lengths_asked old.deeds)

-- but for writes and syncs nothing was done, or that length was asked for
abbrev pub MayAskOneLength : ℕ → History → History → Type 0
MayAskOneLength size old new = (others_of new.deeds ≡ others_of old.deeds) ⊎ ((ok : Bool) × (others_of new.deeds ≡ sized size ok ∷ others_of old.deeds))

-- the stages of a new volume, which gets this length on the way
pub record MakesAll {T E : Type 0} (size : ℕ) (kept all : List ℕ) (stages : List Stage) (result : Result T E) (old new : Outside) : Type 0 where
  pub reaches : Reaches (IsAtRest kept) (IsInStage stages) old new
  pub ok : OnOk result (Moves (IsAtRest kept) (IsAtRest all) (IsInStage stages) old new)
  pub kept_ok : OnOk result (IsTrue new.tells → bytes_of old.history ≡ kept → IsAtRest all new.history)
  pub others : IsTrue new.tells → MayAskOneLength size old.history new.history

-- ---- the old areas

-- zeros for the area at a place, as far as a device of this length has it
abbrev pub area_zeros : ℕ → ℕ → Put
area_zeros len place = record { at = place; bytes = replicate (min 4096 (len - place)) 0 }

-- an area is zeroed
abbrev pub zero_stage : List ℕ → ℕ → Stage
zero_stage bytes place = record { kept = bytes; puts = area_zeros (length bytes) place ∷ [] }

-- the places that are zeroed one after another: the other area's and then the active one's, or the first area's where none is active
abbrev pub places_by : Choice → List ℕ
places_by (choices.Active First s) = second_place_of s ∷ first_place ∷ []
places_by (choices.Active Second s) = first_place ∷ second_place_of s ∷ []
places_by choices.None = first_place ∷ []
places_by choices.Disagree = first_place ∷ []

-- one place, or two
abbrev pub places_of_two : ℕ → Option ℕ → List ℕ
places_of_two one None = one ∷ []
places_of_two one (Some last) = one ∷ last ∷ []

-- the places of the old areas in that order
abbrev pub old_places : List ℕ → List ℕ
old_places old = places_by (choice_in old)

-- the stages that zero areas one after another
abbrev pub zero_stages : List ℕ → List ℕ → List Stage
zero_stages bytes [] = []
zero_stages bytes (place ∷ places) = zero_stage bytes place ∷ zero_stages (after_stage (zero_stage bytes place)) places

-- and the bytes after them
abbrev pub zeroed : List ℕ → List ℕ → List ℕ
zeroed bytes [] = bytes
zeroed bytes (place ∷ places) = zeroed (after_stage (zero_stage bytes place)) places

-- ---- the new volume

-- all blocks that are written, one after another
unfoldable pub all_block_bytes : Geometry → Order → ℕ → List ℕ
all_block_bytes g order moment = blocks_bytes g order moment 0 (top_block g + 1)

-- these bytes are put into both areas
abbrev pub areas_stage : Geometry → List ℕ → List ℕ → List ℕ → Stage
areas_stage g first second bytes = record { kept = bytes; puts = record { at = area_place g First; bytes = first } ∷ record { at = area_place g Second; bytes = second } ∷ [] }

-- both areas are zeroed
abbrev pub clear_stage : Geometry → List ℕ → Stage
clear_stage g bytes = areas_stage g (replicate 4096 0) (replicate 4096 0) bytes

-- the blocks of both halves and of the root directory are put
abbrev pub blocks_stage : Geometry → Order → ℕ → List ℕ → Stage
blocks_stage g order moment bytes = record { kept = bytes; puts = record { at = blocks_begin; bytes = all_block_bytes g order moment } ∷ [] }

-- both superblocks are put
abbrev pub supers_stage : Geometry → Order → ℕ → List ℕ → Stage
supers_stage g order moment bytes = areas_stage g (made_super_bytes g order moment First) (made_super_bytes g order moment Second) bytes

-- nothing is put
abbrev pub rest_stage : List ℕ → Stage
rest_stage bytes = record { kept = bytes; puts = [] }

-- the bytes once both new areas are zeroed
abbrev pub with_areas : Geometry → List ℕ → List ℕ
with_areas g bytes = after_stage (clear_stage g bytes)

-- once the blocks of both halves and the root directory's are put as well
abbrev pub with_blocks : Geometry → Order → ℕ → List ℕ → List ℕ
with_blocks g order moment bytes = after_stage (blocks_stage g order moment bytes)

-- once both superblocks are
abbrev pub with_supers : Geometry → Order → ℕ → List ℕ → List ℕ
with_supers g order moment bytes = after_stage (supers_stage g order moment bytes)

-- the bytes once the new volume stands
abbrev pub with_volume : Geometry → Order → ℕ → List ℕ → List ℕ
with_volume g order moment bytes = with_supers g order moment (with_blocks g order moment (with_areas g bytes))

-- the stages that write a volume over bytes that have its length
abbrev pub new_stages : Geometry → Order → ℕ → List ℕ → List Stage
new_stages g order moment bytes =
    clear_stage g bytes ∷ blocks_stage g order moment (with_areas g bytes) ∷ supers_stage g order moment (with_blocks g order moment (with_areas g bytes))
    ∷ rest_stage (with_volume g order moment bytes) ∷ []

-- the stages that zero the old areas, and the rest behind them
abbrev pub old_stages : List ℕ → List Stage
old_stages old = zero_stages old (old_places old) ++ rest_stage (zeroed old (old_places old)) ∷ []

-- all stages, over a device with these bytes that gets this length
abbrev pub make_stages : Geometry → Order → ℕ → ℕ → List ℕ → List Stage
make_stages g order moment size old =
    zero_stages old (old_places old) ++ rest_stage (zeroed old (old_places old)) ∷ new_stages g order moment (resized (zeroed old (old_places old)) size)

-- the bytes at the end
abbrev pub made_bytes : Geometry → Order → ℕ → ℕ → List ℕ → List ℕ
made_bytes g order moment size old = with_volume g order moment (resized (zeroed old (old_places old)) size)
