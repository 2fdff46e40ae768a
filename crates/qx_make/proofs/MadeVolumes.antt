-- What the maker's stages leave for its options: at each moment, and at the end.
use Rattle.std.proofs.Common.{◌≡◌, ℕ, ◌<◌, ◌≤◌, ◌^◌, inl, inr, Result, Ok, List, [], ◌∷◌, length, Some, refl, ap, sym, ◌∙◌, subst, arith, append-nil}
use Rattle.qx_geom.specs.declared.area.Which.{Which}
use Rattle.qx_geom.specs.declared.area.Which.TheVariants.{Second}
use Rattle.qx_geom.specs.declared.geometry.Geometry.{Geometry}
use Rattle.qx_geom.specs.Area.{area_number}
use Rattle.qx_geom.specs.Layout.{IsGeometry, geometry_of, whole_length}
use Rattle.qx_geom.proofs.VolumeNumbers.{IsGeometry-of, geometry_of-numbers}
use Rattle.qx_model.specs.EmptyTree.{empty_tree}
use Rattle.qx_model.specs.Tree.{Tree}
use Rattle.qx_outside.specs.Puts.{IsAtRest}
use Rattle.qx_outside.specs.Outside.{Outside}
use Rattle.qx_outside.specs.Trail.{Deed, History, took, gave, wrote, synced, sized, told_moment, bytes_of, events_of, input_of, lengths_asked, others_of, output_of, resized}
use Rattle.qx_outside.proofs.OtherDeeds.{input-others, lengths-others, output-others}
use Rattle.qx_outside.proofs.PuttingMoments.{IsPutting-rest}
use Rattle.qx_outside.proofs.Throughout.{throughout_here, throughout_map}
use Rattle.qx_super.specs.declared.choice.Pick.{Pick}
use Rattle.qx_super.specs.declared.choice.Pick.TheVariants as picks
use Rattle.qx_super.specs.Active.{active_area, active_super}
use Rattle.qx_super.specs.Superblock.{Superblock}
use Rattle.qx_super.specs.Written.{superblock_written}
use Rattle.qx_view.specs.Images.{image_blocks}
use Rattle.qx_view.specs.Reading.{IsTreeOf}
use Rattle.qx_view.specs.Sound.{IsSound}
use Rattle.qx_make.specs.declared.options.MakeOptions.{MakeOptions}
use Rattle.qx_make.specs.Blocks.{AreMade}
use Rattle.qx_make.specs.Cut.{IsLeftByMaker, IsReadyToMake, LeavesByMaker, nothing, old_volume, places_of}
use Rattle.qx_make.specs.Make.{HasMade, KeepsQuiet, MakesAtEachMoment, geometry_for, moments_told, tree_for}
use Rattle.qx_make.specs.NewVolume.{made_superblock, new_roots}
use Rattle.qx_make.specs.Stages.{AsksOneLength, IsInStage, MakesAll, MayAskOneLength, made_bytes, make_stages, old_places, rest_stage, zeroed}
use Rattle.qx_make.specs.Superblocks.{made_super}
use Rattle.qx_make.proofs.BytesAt.{length-resized}
use Rattle.qx_make.proofs.NewBlocks.{new_blocks}
use Rattle.qx_make.proofs.NewSoundness.{new_last, new_reason}
use Rattle.qx_make.proofs.NewTrees.{new_tree_is}
use Rattle.qx_make.proofs.TornAreas.{torn_rest}
use Rattle.qx_make.proofs.TornImages.{IsTorn-image}
use Rattle.qx_make.proofs.TornStages.{leaves_in_stage, made_active}

-- ---- the deeds but for writes and syncs

-- so at most that length was asked for
pub asks_one_length : (size : ℕ) (old new : History) → MayAskOneLength size old new → AsksOneLength size old new
asks_one_length size old new may = elim may [
  | inl same ↦ inl (lengths-others new.deeds ∙ ap lengths_asked same ∙ sym (lengths-others old.deeds))
  | inr one ↦ inr (lengths-others new.deeds ∙ ap lengths_asked one.1 ∙ ap (λ (l : List ℕ). size ∷ l) (sym (lengths-others old.deeds)))
]

-- the moments that were told are among the deeds but for writes and syncs
moments-others : (deeds : List Deed) → moments_told deeds ≡ moments_told (others_of deeds)
moments-others [] = refl
moments-others (took bytes ∷ before) = moments-others before
moments-others (gave bytes ∷ before) = moments-others before
moments-others (wrote at asked left ok ∷ before) = moments-others before
moments-others (synced ok ∷ before) = moments-others before
moments-others (sized len ok ∷ before) = moments-others before
moments-others (told_moment moment ∷ before) = ap (λ (l : List ℕ). moment ∷ l) (moments-others before)

-- and the console and the clock were left alone
pub keeps_quiet : (size : ℕ) (old new : History) → MayAskOneLength size old new → KeepsQuiet old new
keeps_quiet size old new may = elim may [
  | inl same ↦ record {
    taken = input-others new.deeds ∙ ap (λ (d : List Deed). input_of (events_of d)) same ∙ sym (input-others old.deeds);
    given = output-others new.deeds ∙ ap (λ (d : List Deed). output_of (events_of d)) same ∙ sym (output-others old.deeds);
    moments = moments-others new.deeds ∙ ap moments_told same ∙ sym (moments-others old.deeds);
  }
  | inr one ↦ record {
    taken = input-others new.deeds ∙ ap (λ (d : List Deed). input_of (events_of d)) one.1 ∙ append-nil (input_of (events_of (others_of old.deeds))) ∙ sym (input-others old.deeds);
    given = output-others new.deeds ∙ ap (λ (d : List Deed). output_of (events_of d)) one.1 ∙ append-nil (output_of (events_of (others_of old.deeds))) ∙ sym (output-others old.deeds);
    moments = moments-others new.deeds ∙ ap moments_told one.1 ∙ sym (moments-others old.deeds);
  }
]

-- ---- before anything is asked of the device

-- a device that is ready gives its old volume, or none
ready_is_left : (size : ℕ) (t : Tree) (h : History) → IsReadyToMake h → LeavesByMaker (bytes_of h) size t h
ready_is_left size t h ready img is no_chance =
    let old = bytes_of h in
    let torn = IsTorn-image (rest_stage old) (places_of old size) h img (IsPutting-rest old [] h (record { bytes_are = refl; settled = ready.settled })) is no_chance in
    let same : img ≡ old = torn_rest old (places_of old size) img torn in
    subst (λ (x : List ℕ). IsLeftByMaker old t x) (sym same) (by_pick (active_area old) refl)
  where
    by_pick : (p : Pick) → active_area (bytes_of h) ≡ p → IsLeftByMaker (bytes_of h) t (bytes_of h)
    by_pick (picks.Active which) e = old_volume which e e refl (λ u. (λ x. x, λ x. x))
    by_pick picks.None e = nothing e
    by_pick picks.Disagree e = absurd (ready.agree e)

pub moments_idle : (o : MakeOptions) (a : Outside) → MakesAtEachMoment o a a
moments_idle o a = record {
  before = λ told. told;
  step = λ told ready. throughout_here (LeavesByMaker (bytes_of a.history) o.size (tree_for o)) a.history (ready_is_left o.size (tree_for o) a.history ready);
}

-- ---- with the numbers of a volume

module _ (o : MakeOptions) (g : Geometry) (is_geometry : geometry_for o ≡ Ok g) where
  -- they are those of the options
  numbers : (g.blocksize ≡ o.blocksize) × (g.num_inodes ≡ o.inodes)
  numbers = let same = geometry_of-numbers o.size o.blocksize o.inodes g is_geometry in (ap (λ (h : Geometry). h.blocksize) (sym same), ap (λ (h : Geometry). h.num_inodes) (sym same))

  own_numbers : geometry_of o.size g.blocksize g.num_inodes ≡ Ok g
  own_numbers = ap (λ (b : ℕ). geometry_of o.size b g.num_inodes) numbers.0 ∙ ap (λ (n : ℕ). geometry_of o.size o.blocksize n) numbers.1 ∙ is_geometry

  -- and so is the tree
  same_tree : empty_tree g.blocksize g.num_inodes o.moment ≡ tree_for o
  same_tree = ap (λ (b : ℕ). empty_tree b g.num_inodes o.moment) numbers.0 ∙ ap (λ (n : ℕ). empty_tree o.blocksize n o.moment) numbers.1

  -- the device has room for the volume
  pub room : g.len4 ≤ o.size
  room = let same = geometry_of-numbers o.size o.blocksize o.inodes g is_geometry in let long : whole_length o.size ≡ g.len4 = ap (λ (h : Geometry). h.len4) same in omega (arith, long)

  -- beside both halves
  pub some_user : IsGeometry g
  some_user = IsGeometry-of o.size o.blocksize o.inodes g is_geometry

  module _ (in_time : o.moment < 2 ^ 32) where
    -- an image with what the maker writes is sound, with the empty tree
    new_sound : (img : List ℕ) (which : Which) → length img ≡ o.size → active_area img ≡ picks.Active which → active_super img ≡ Some (superblock_written (made_super g o.order o.moment which))
        → AreMade g o.order o.moment (image_blocks img (superblock_written (made_super g o.order o.moment which))) → IsSound img (tree_for o)
    unfolding made_super
    new_sound img which long active superblock made =
        let s : Superblock = superblock_written (made_super g o.order o.moment which) in
        let numbers : geometry_of (length img) g.blocksize g.num_inodes ≡ Ok g = ap (λ (n : ℕ). geometry_of n g.blocksize g.num_inodes) long ∙ own_numbers in
        let b = new_blocks g o.order o.moment (image_blocks img s) some_user in_time made in
        record {
          area = which;
          superblock = s;
          active = active;
          names = superblock;
          tree = subst (λ (t : Tree). IsTreeOf (image_blocks img s) (new_roots g which) t) same_tree (new_tree_is b which);
          no_reason = new_reason b which (area_number which) (length img) numbers;
          no_last = new_last b which (area_number which) (length img) numbers;
        }

    module _ {T E : Type 0} where
      -- at each moment
      pub moments_made : (result : Result T E) (a b : Outside)
          → MakesAll o.size (bytes_of a.history) (made_bytes g o.order o.moment o.size (bytes_of a.history)) (make_stages g o.order o.moment o.size (bytes_of a.history)) result a b → MakesAtEachMoment o a b
      moments_made result a b made = record {
        before = made.reaches.before;
        step = λ told ready.
            let old = bytes_of a.history in
            throughout_map (IsInStage (make_stages g o.order o.moment o.size old)) (LeavesByMaker old o.size (tree_for o))
            (leaves_in_stage old o.size (tree_for o) ready.agree ready.alone g o.order o.moment own_numbers in_time new_sound) a.history b.history
            (made.reaches.step told (record { bytes_are = refl; settled = ready.settled }));
      }

    -- at the end
    pub has_made : (old : List ℕ) (h : History) → IsAtRest (made_bytes g o.order o.moment o.size old) h → HasMade o g old h
    unfolding made_super
    has_made old h rest =
        let whole = resized (zeroed old (old_places old)) o.size in
        let v = made_active g o.order o.moment o.size own_numbers in_time whole (length-resized (zeroed old (old_places old)) o.size) in
        let img = bytes_of h in
        let s : Superblock = made_superblock g o.order o.moment 2 Second in
        let active : active_area img ≡ picks.Active Second = ap active_area rest.bytes_are ∙ v.active in
        let superblock : active_super img ≡ Some s = ap active_super rest.bytes_are ∙ v.superblock in
        let long : length img ≡ o.size = ap length rest.bytes_are ∙ v.size_is in
        let made : AreMade g o.order o.moment (image_blocks img s) = subst (λ (x : List ℕ). AreMade g o.order o.moment (image_blocks x s)) (sym rest.bytes_are) v.blocks in
        record {
          bytes = rest.bytes_are;
          settled = rest.settled;
          active = active;
          superblock = superblock;
          sound = new_sound img Second long active superblock made;
        }
