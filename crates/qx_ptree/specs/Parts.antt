-- The part of an altered node that lies below one position.
use Rattle.std.specs.Prelude.{ℕ, zero, suc, ◌+◌, ◌-◌, ◌*◌, ◌==◌, Bool, true, false, not, ◌&&◌, ◌||◌, List, count_by, sum_by, if◌then◌else◌}
use Rattle.std.specs.List.{list_any, range_with_len}
use Rattle.qx_geom.specs.Positions.{index_above}
use Rattle.qx_geom.specs.Touch.{changed_leaves, fresh_at}
use Rattle.qx_ptree.specs.declared.change.Fate.{Fate}
use Rattle.qx_ptree.specs.declared.change.Fate.TheVariants.{Stays, Written, Goes}
use Rattle.qx_ptree.specs.declared.part.Part.{Part}
use Rattle.qx_ptree.specs.Alterations.{Alteration}

-- ---- from above

-- one of these leaves lies below block j of a level
abbrev pub has_below : ℕ → List ℕ → ℕ → ℕ → Bool
has_below blocksize leaves k j = list_any (λ i. index_above blocksize k i == j) leaves

-- the positions that take a fresh block, at a level
abbrev pub fresh_positions : Alteration → ℕ → List ℕ
fresh_positions a i = fresh_at a.blocksize a.old a.new a.written a.private i

-- how many fresh blocks block j of a level and the positions below it take
abbrev pub fresh_below : Alteration → ℕ → ℕ → ℕ
fresh_below a k j = sum_by (λ i. count_by (λ x. index_above a.blocksize (k - i) x == j) (fresh_positions a i)) (range_with_len 0 (k + 1))

-- the fresh blocks from there on, whether a leaf below changed, and whether one is present afterwards
abbrev pub part_of : Alteration → ℕ → ℕ → Part
part_of a k j = record {
  need = fresh_below a k j;
  changed = has_below a.blocksize (changed_leaves a.old a.new a.written) k j;
  present = has_below a.blocksize a.new.present k j;
}

-- ---- from below

-- a block takes a fresh one where something is present below it, and where there was none, or where it changed and other trees hold it
abbrev pub own_need : Bool → Bool → Bool → Bool → ℕ
own_need had private changed present = if present && (not had || (changed && not private)) then 1 else 0

-- what is known of a leaf by its fate
abbrev pub leaf_part : Fate → Bool → Bool → Part
leaf_part Stays had private = record { need = 0; changed = false; present = had }
leaf_part Written had private = record { need = own_need had private true true; changed = true; present = true }
leaf_part Goes had private = record { need = 0; changed = had; present = false }

-- nothing
abbrev pub no_part : Part
no_part = record { need = 0; changed = false; present = false }

-- two parts side by side
abbrev pub beside : Part → Part → Part
beside a b = record { need = a.need + b.need; changed = a.changed || b.changed; present = a.present || b.present }

-- the parts below n, side by side
abbrev pub parts_up_to : ℕ → (ℕ → Part) → Part
parts_up_to zero f = no_part
parts_up_to (suc n) f = beside (parts_up_to n f) (f n)

-- parts with the block above them
abbrev pub with_block : Bool → Bool → Part → Part
with_block had private a = record a { need = a.need + own_need had private a.changed a.present }

-- how many blocks a part has that is all there, its own block among them
abbrev pub full_below : ℕ → ℕ → ℕ
full_below words zero = 1
full_below words (suc l) = words * full_below words l + 1
