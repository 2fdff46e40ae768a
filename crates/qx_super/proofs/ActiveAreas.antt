-- The active area by what was read, and on what it depends.
use Rattle.std.proofs.Common.{◌≡◌, ℕ, Bool, true, false, List, length, replicate, Option, Some, None, Err, IsSome, IfSome, refl, ap, sym, ◌∙◌, if◌then◌else◌, ◌⊎◌, inl, inr}
use Rattle.std.specs.Prelude.{option_and_then, nat_lt, ◌<◌, ◌≤◌}
use Rattle.std.proofs.lemmas.Bool.{lt-ltb, le-ltb}
use Rattle.std.specs.Result.{result_ok}
use Rattle.qx_fields.specs.Number.{field}
use Rattle.qx_geom.specs.declared.area.Which.{Which}
use Rattle.qx_geom.specs.declared.area.Which.TheVariants.{First, Second}
use Rattle.qx_super.specs.declared.active.Later.{Later}
use Rattle.qx_super.specs.declared.active.Later.TheVariants as laters
use Rattle.qx_super.specs.declared.supers.Areas.{Areas}
use Rattle.qx_super.specs.declared.choice.Choice.{Choice}
use Rattle.qx_super.specs.declared.choice.Choice.TheVariants as choices
use Rattle.qx_super.specs.declared.choice.Pick.{Pick}
use Rattle.qx_super.specs.declared.choice.Pick.TheVariants as picks
use Rattle.qx_super.specs.declared.superblock.SuperFault.TheVariants.{Magic}
use Rattle.qx_outside.specs.Causes.{StaysWhereTold}
use Rattle.qx_super.specs.Superblock.{Superblock, order_of, superblock_of}
use Rattle.qx_super.specs.Active.{AreRead, IsOfImage, choice_in, choice_later, choice_of, later_of, pick_in, pick_later, super_in, area_at, valid_area, only_at, searched_place, buffer_of, first_area, second_area, first_super, second_search, second_super, first_read, second_read, is_same_volume, pick_of, super_of_pick, active_area, active_super}

-- bytes 0 have no magic
pub superblock_of-zeros : (len : ℕ) → superblock_of (replicate 512 0) len ≡ Err Magic
unfolding order_of field
superblock_of-zeros len = refl

-- what a buffer gives of an area that is there or not
valid_buffer : (len : ℕ) (area : Option (List ℕ)) → result_ok (superblock_of (buffer_of area) len) ≡ valid_area len area
valid_buffer len None = ap result_ok (superblock_of-zeros len)
valid_buffer len (Some bytes) = refl

-- the first superblock is what was read
pub first_read-is : (img first second : List ℕ) → AreRead img first second → first_read first (length img) ≡ first_super img
first_read-is img first second read =
    ap (λ (bytes : List ℕ). result_ok (superblock_of bytes (length img))) read.first_bytes ∙ valid_buffer (length img) (first_area img)

-- what was read from where the second area is looked for
second_at : (img second : List ℕ) (search : Option ℕ) → second ≡ buffer_of (option_and_then (λ place. area_at img place) search)
    → option_and_then (λ place. only_at place (result_ok (superblock_of second (length img)))) search ≡ option_and_then (λ place. only_at place (valid_area (length img) (area_at img place))) search
second_at img second None e = refl
second_at img second (Some place) e =
    ap (λ (bytes : List ℕ). only_at place (result_ok (superblock_of bytes (length img)))) e
    ∙ ap (λ (s : Option Superblock). only_at place s) (valid_buffer (length img) (area_at img place))

-- the second superblock is what was read
pub second_read-is : (img first second : List ℕ) → AreRead img first second → second_read first second (length img) ≡ second_super img
second_read-is img first second read =
    ap (λ (s : Option Superblock). option_and_then (λ place. only_at place (result_ok (superblock_of second (length img)))) (searched_place (length img) s)) (first_read-is img first second read)
    ∙ second_at img second (second_search img) read.second_bytes

-- the active area is what was read
pub pick_of-read : (img first second : List ℕ) → AreRead img first second → pick_of (first_read first (length img)) (second_read first second (length img)) ≡ active_area img
unfolding active_area
pick_of-read img first second read =
    ap (λ (s : Option Superblock). pick_of s (second_read first second (length img))) (first_read-is img first second read)
    ∙ ap (λ (s : Option Superblock). pick_of (first_super img) s) (second_read-is img first second read)

module _ (img other : List ℕ) (long : length other ≡ length img) (firsts : first_area other ≡ first_area img) (seconds : second_area other ≡ second_area img) where
  -- the same buffers are read from both images
  read_same : AreRead other (buffer_of (first_area img)) (buffer_of (second_area img))
  read_same = record { first_bytes = ap buffer_of (sym firsts); second_bytes = ap buffer_of (sym seconds) }

  -- and they are those of the image itself
  read_own : AreRead img (buffer_of (first_area img)) (buffer_of (second_area img))
  read_own = record { first_bytes = refl; second_bytes = refl }

  -- so both have the same first superblock
  first_super-same : first_super other ≡ first_super img
  first_super-same =
      sym (first_read-is other _ _ read_same) ∙ ap (λ (len : ℕ). first_read (buffer_of (first_area img)) len) long ∙ first_read-is img _ _ read_own

  -- and the same second one
  second_super-same : second_super other ≡ second_super img
  second_super-same =
      sym (second_read-is other _ _ read_same) ∙ ap (λ (len : ℕ). second_read (buffer_of (first_area img)) (buffer_of (second_area img)) len) long ∙ second_read-is img _ _ read_own

  -- the active area depends on the length and the areas
  pub active_area-same : active_area other ≡ active_area img
  unfolding active_area
  active_area-same =
      ap (λ (s : Option Superblock). pick_of s (second_super other)) first_super-same ∙ ap (λ (s : Option Superblock). pick_of (first_super img) s) second_super-same

  -- so does the active superblock
  pub active_super-same : active_super other ≡ active_super img
  unfolding active_super
  active_super-same =
      ap (λ (s : Option Superblock). super_of_pick (pick_of s (second_super other)) s (second_super other)) first_super-same
      ∙ ap (λ (s : Option Superblock). super_of_pick (pick_of (first_super img) s) (first_super img) s) second_super-same

-- the superblock of the first area, where that is active
pub active_super-first : (img : List ℕ) → active_area img ≡ picks.Active First → active_super img ≡ first_super img
unfolding active_area active_super
active_super-first img e = ap (λ p. super_of_pick p (first_super img) (second_super img)) e

-- the superblock of the second area, where that is active
pub active_super-second : (img : List ℕ) → active_area img ≡ picks.Active Second → active_super img ≡ second_super img
unfolding active_area active_super
active_super-second img e = ap (λ p. super_of_pick p (first_super img) (second_super img)) e

-- of two superblocks the one that is picked is there
IsSome-both : (later : Later) (a b : Superblock) (which : Which) → pick_later later ≡ picks.Active which → IsSome (super_of_pick (pick_later later) (Some a) (Some b))
IsSome-both laters.First a b which e = refl
IsSome-both laters.Second a b which e = refl
IsSome-both laters.Neither a b which e = absurd (cc e)

-- of any two the one that is picked is there
IsSome-picked : (a b : Option Superblock) (which : Which) → pick_of a b ≡ picks.Active which → IsSome (super_of_pick (pick_of a b) a b)
IsSome-picked None None which e = absurd (cc e)
IsSome-picked (Some a) None which e = refl
IsSome-picked None (Some b) which e = refl
IsSome-picked (Some a) (Some b) which e = IsSome-both (later_of a b) a b which e

-- where an area is active, its superblock is there
pub IsSome-active_super : (img : List ℕ) (which : Which) → active_area img ≡ picks.Active which → IsSome (active_super img)
unfolding active_area active_super
IsSome-active_super img which e = IsSome-picked (first_super img) (second_super img) which e

-- what is active where the two areas have these superblocks
picked : (img : List ℕ) (a b : Option Superblock) → first_super img ≡ a → second_super img ≡ b → (active_area img ≡ pick_of a b) × (active_super img ≡ super_of_pick (pick_of a b) a b)
unfolding active_area active_super
picked img a b first second = (
  ap (λ (s : Option Superblock). pick_of s (second_super img)) first ∙ ap (λ (s : Option Superblock). pick_of a s) second,
  ap (λ (s : Option Superblock). super_of_pick (pick_of s (second_super img)) s (second_super img)) first
      ∙ ap (λ (s : Option Superblock). super_of_pick (pick_of a s) a s) second,
)

-- with no superblock no area is active
pub active-none : (img : List ℕ) → first_super img ≡ None → second_super img ≡ None → (active_area img ≡ picks.None) × (active_super img ≡ None)
active-none img first second = picked img None None first second

-- with one superblock its area is active
pub active-first_alone : (img : List ℕ) (a : Superblock) → first_super img ≡ Some a → second_super img ≡ None → (active_area img ≡ picks.Active First) × (active_super img ≡ Some a)
active-first_alone img a first second = picked img (Some a) None first second

pub active-second_alone : (img : List ℕ) (b : Superblock) → first_super img ≡ None → second_super img ≡ Some b → (active_area img ≡ picks.Active Second) × (active_super img ≡ Some b)
active-second_alone img b first second = picked img None (Some b) first second

-- the pick of two of one volume
pick_of-one_volume : (a b : Superblock) (later : Bool) → is_same_volume a b ≡ true → nat_lt a.serial b.serial ≡ later → pick_of (Some a) (Some b) ≡ pick_later (if later then laters.Second else laters.First)
pick_of-one_volume a b later same order =
    ap (λ (one : Bool). pick_later (if one then (if nat_lt a.serial b.serial then laters.Second else laters.First) else laters.Neither)) same
    ∙ ap (λ (t : Bool). pick_later (if t then laters.Second else laters.First)) order

-- of two of one volume the one with the greater serial is active
pub active-second_later : (img : List ℕ) (a b : Superblock) → first_super img ≡ Some a → second_super img ≡ Some b → is_same_volume a b ≡ true → a.serial < b.serial → (active_area img ≡ picks.Active Second) × (active_super img ≡ Some b)
active-second_later img a b first second same later =
    let pick : pick_of (Some a) (Some b) ≡ picks.Active Second = pick_of-one_volume a b true same (lt-ltb a.serial b.serial later) in
    let both = picked img (Some a) (Some b) first second in
    (both.0 ∙ pick, both.1 ∙ ap (λ (p : Pick). super_of_pick p (Some a) (Some b)) pick)

-- the first at equal serials
pub active-first_later : (img : List ℕ) (a b : Superblock) → first_super img ≡ Some a → second_super img ≡ Some b → is_same_volume a b ≡ true → b.serial ≤ a.serial → (active_area img ≡ picks.Active First) × (active_super img ≡ Some a)
active-first_later img a b first second same later =
    let pick : pick_of (Some a) (Some b) ≡ picks.Active First = pick_of-one_volume a b false same (le-ltb a.serial b.serial later) in
    let both = picked img (Some a) (Some b) first second in
    (both.0 ∙ pick, both.1 ∙ ap (λ (p : Pick). super_of_pick p (Some a) (Some b)) pick)

-- two buffers are what the image has, where the second was read from the place that the first names
pub are_read : (img first second : List ℕ) (len : ℕ) (place : Option ℕ) → len ≡ length img → first ≡ buffer_of (first_area img) → place ≡ searched_place len (first_read first len) → second ≡ buffer_of (option_and_then (λ at. area_at img at) place) → AreRead img first second
are_read img first second len place long firsts searched seconds =
    let named : first_read first len ≡ first_super img = ap (λ (n : ℕ). first_read first n) long ∙ ap (λ (bytes : List ℕ). first_read bytes (length img)) firsts ∙ valid_buffer (length img) (first_area img) in
    record {
      first_bytes = firsts;
      second_bytes = seconds ∙ ap (λ (p : Option ℕ). buffer_of (option_and_then (λ at. area_at img at) p)) (searched ∙ ap (λ (n : ℕ). searched_place n (first_read first len)) long ∙ ap (λ (s : Option Superblock). searched_place (length img) s) named);
    }

-- a length that is told after two calls was told before them, and is the one that was given
pub len_is : (before mid now : Option ℕ) (n len : ℕ) → StaysWhereTold before mid → StaysWhereTold mid now → now ≡ Some n → IfSome before (λ m. m ≡ len) → len ≡ n
len_is before mid None n len first second told given = absurd (cc told)
len_is before None (Some k) n len first second told given = absurd (cc second.same)
len_is None (Some j) (Some k) n len first second told given = absurd (cc first.same)
len_is (Some m) (Some j) (Some k) n len first second told given = cc (first.same, second.same, told, given)

-- a choice between two that are there is one of them, or they disagree
both_picked : (later : Later) → pick_later later ≡ picks.None → ⊥
both_picked laters.First e = absurd (cc e)
both_picked laters.Second e = absurd (cc e)
both_picked laters.Neither e = absurd (cc e)

-- nothing is picked only where neither is there
pub none_picked : (a b : Option Superblock) → pick_of a b ≡ picks.None → (a ≡ None) × (b ≡ None)
none_picked None None e = (refl, refl)
none_picked (Some a) None e = absurd (cc e)
none_picked None (Some b) e = absurd (cc e)
none_picked (Some a) (Some b) e = absurd (both_picked (later_of a b) e)

-- ---- the choice

-- of two that are there it is the pick, with its superblock
later_chosen : (later : Later) (a b : Superblock) → (pick_later later ≡ pick_in (choice_later later a b)) × (super_of_pick (pick_later later) (Some a) (Some b) ≡ super_in (choice_later later a b))
later_chosen laters.First a b = (refl, refl)
later_chosen laters.Second a b = (refl, refl)
later_chosen laters.Neither a b = (refl, refl)

-- of any two
chosen : (a b : Option Superblock) → (pick_of a b ≡ pick_in (choice_of a b)) × (super_of_pick (pick_of a b) a b ≡ super_in (choice_of a b))
chosen None None = (refl, refl)
chosen (Some a) None = (refl, refl)
chosen None (Some b) = (refl, refl)
chosen (Some a) (Some b) = later_chosen (later_of a b) a b

-- of an image
pub active_area-chosen : (img : List ℕ) → active_area img ≡ pick_in (choice_in img)
unfolding active_area choice_in
active_area-chosen img = (chosen (first_super img) (second_super img)).0

pub active_super-chosen : (img : List ℕ) → active_super img ≡ super_in (choice_in img)
unfolding active_super choice_in
active_super-chosen img = (chosen (first_super img) (second_super img)).1

-- a choice by its area and its superblock
pub chosen_active : (c : Choice) (which : Which) (s : Superblock) → pick_in c ≡ picks.Active which → super_in c ≡ Some s → c ≡ choices.Active which s
chosen_active (choices.Active w t) which s area super = cc (area, super)
chosen_active choices.None which s area super = absurd (cc area)
chosen_active choices.Disagree which s area super = absurd (cc area)

-- where none is active
pub chosen_none : (c : Choice) → pick_in c ≡ picks.None → c ≡ choices.None
chosen_none (choices.Active w t) area = absurd (cc area)
chosen_none choices.None area = refl
chosen_none choices.Disagree area = absurd (cc area)

-- the choice of an image's own superblocks
pub choice_read : (img : List ℕ) (areas : Areas) → IsOfImage img areas → choice_of areas.first areas.second ≡ choice_in img
unfolding choice_in
choice_read img areas is =
    ap (λ (s : Option Superblock). choice_of s areas.second) is.first ∙ ap (λ (s : Option Superblock). choice_of (first_super img) s) is.second

-- the chosen superblock is one of the two
later_one : (later : Later) (a b : Superblock) (which : Which) (s : Superblock) → choice_later later a b ≡ choices.Active which s → (Some a ≡ Some s) ⊎ (Some b ≡ Some s)
later_one laters.First a b which s e = inl (cc e)
later_one laters.Second a b which s e = inr (cc e)
later_one laters.Neither a b which s e = absurd (cc e)

pub chosen_one : (a b : Option Superblock) (which : Which) (s : Superblock) → choice_of a b ≡ choices.Active which s → (a ≡ Some s) ⊎ (b ≡ Some s)
chosen_one None None which s e = absurd (cc e)
chosen_one (Some a) None which s e = inl (cc e)
chosen_one None (Some b) which s e = inr (cc e)
chosen_one (Some a) (Some b) which s e = later_one (later_of a b) a b which s e
