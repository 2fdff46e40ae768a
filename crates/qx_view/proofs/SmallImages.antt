-- An image whose blocks are the small volume's is sound with the empty tree.
use Rattle.std.proofs.Common.{◌≡◌, ℕ, ◌-◌, ◌*◌, ◌<◌, ◌≤◌, List, [], ◌∷◌, length, refl, ap, sym, ◌∙◌, subst, arith, length-append}
use Rattle.std.specs.Prelude.{Bool, true, false, ◌&&◌, ◌||◌, ◌==◌, if◌then◌else◌, Option, Some, None, nat_le, replicate}
use Rattle.std.proofs.lemmas.List.{length-replicate}
use Rattle.std.specs.List.{list_all}
use Rattle.qx_fields.specs.Number.{field, fields}
use Rattle.qx_geom.specs.Layout.{geometry_of, levels_for, numbers_of, pointer_blocks, system_root_of, tree_blocks}
use Rattle.qx_geom.specs.Lists.{first_below}
use Rattle.qx_geom.specs.declared.area.Which.{Which}
use Rattle.qx_geom.specs.declared.area.Which.TheVariants.{First, Second}
use Rattle.qx_geom.specs.declared.geometry.Geometry.{Geometry}
use Rattle.qx_model.specs.EmptyTree.{empty_tree}
use Rattle.qx_nodes.specs.BlockMap.{BlockMap, with_bytes}
use Rattle.qx_nodes.specs.Content.{HasSize}
use Rattle.qx_nodes.specs.Leaves.{leaves_below}
use Rattle.qx_records.specs.InodeRecord.{inode_in, kind_of}
use Rattle.qx_records.specs.NameRecord.{raw_in}
use Rattle.qx_super.specs.Active.{active_area, active_super, only_at, pick_of, searched_place, super_of_pick, valid_area}
use Rattle.qx_super.specs.Checksum.{checksum_of, divided, shift}
use Rattle.qx_super.specs.RootNode.{root_of}
use Rattle.qx_super.specs.Superblock.{Superblock, order_of}
use Rattle.qx_super.specs.declared.choice.Pick.TheVariants as picks
use Rattle.qx_view.proofs.ApartPositions.{tree_is}
use Rattle.qx_view.proofs.ImageParts.{active_is, block_is, image_long, super_is}
use Rattle.qx_view.proofs.RoomForPointers.{walk_sized}
use Rattle.qx_view.proofs.SoundLocality.{halves_or_bitmap_alike, last_alike, reasons_alike}
use Rattle.qx_view.proofs.Verdicts.{foreign_judged}
use Rattle.qx_view.proofs.TreeFound.{tree_found}
use Rattle.qx_view.proofs.TreeLocality.{tree_local}
use Rattle.qx_view.specs.Examples.{bitmap_bytes, changed_block, directory_bytes, filled, made_block, made_blocks, made_but, made_super, made_tree}
use Rattle.qx_view.specs.Images.{block_bytes, image_blocks, main_roots}
use Rattle.qx_view.specs.Reading.{IsHeld, IsTreeOf}
use Rattle.qx_view.specs.SmallImage.{changed, changed_image, first_bytes, image_with, made_first, second_bytes, small_image}
use Rattle.qx_view.specs.Sound.{Foreign, IsSound, bit_differs, first_some, has_system_trees, is_laid_out, last_finding, last_with, outer_blocks, reason_at, reason_of, reason_with, reasons_in, verdict_of, written_geometry}
use Rattle.qx_view.specs.declared.reasons.Foreign.{Foreign as Why}
use Rattle.qx_view.specs.declared.reasons.Reason.TheVariants as reasons
use Rattle.qx_view.specs.Walk.{finding_of, walked_inodes}

-- blocks have room for pointers
has_size : HasSize made_blocks
has_size = record { size = omega arith; words = omega arith }

-- the volume's numbers
abbrev small : Geometry
small = numbers_of 65536 512 16

-- what is known of the volume by its superblock and its area
record IsSmall (which : Which) (s : Superblock) : Type 0 where
  pub tree : IsTreeOf made_blocks (main_roots s) made_tree
  pub geometry : written_geometry s 65536 ≡ Some small
  pub none : first_some (reasons_in made_blocks s small which (main_roots s) (outer_blocks made_blocks (main_roots s)) (walked_inodes made_blocks (main_roots s))) ≡ None
  pub last : last_with made_blocks s (Some small) ≡ None
  pub leaves : leaves_below made_blocks s.bitmap ≡ 1

-- an image with the volume's blocks, in which this area is active
pub record HasBlocks (img : List ℕ) (which : Which) (s : Superblock) : Type 0 where
  pub long : length img ≡ 65536
  pub active : active_area img ≡ picks.Active which
  pub names : active_super img ≡ Some s
  pub same : (b : ℕ) → b < 96 → block_bytes img 512 b ≡ made_block b

-- such an image is sound
small_sound : (img : List ℕ) (which : Which) (s : Superblock) → image_blocks img s ≡ with_bytes made_blocks (block_bytes img 512) → IsSmall which s → HasBlocks img which s → IsSound img made_tree
unfolding levels_for
small_sound img which s shape is has =
    let bytes : ℕ → List ℕ = block_bytes img 512 in
    let held : (b : ℕ) → IsHeld made_blocks (main_roots s) made_tree b → made_blocks.bytes b ≡ bytes b = λ b h.
    let below : b < 96 = subst (λ z. z < 96) h.3 (is.tree.undamaged h.0 h.1 h.2) in
    sym (has.same b below) in
    let no_reason : reason_with (with_bytes made_blocks bytes) s which (Some small) ≡ None =
    reasons_alike made_blocks bytes s made_tree has_size is.tree held small which (omega arith) (is.leaves ∙ refl) no_pointers is.none in
    let no_last : last_with (with_bytes made_blocks bytes) s (Some small) ≡ None = sym (last_alike made_blocks bytes s made_tree has_size is.tree held (Some small)) ∙ is.last in
    record {
      area = which;
      superblock = s;
      active = has.active;
      names = has.names;
      tree = subst (λ m. IsTreeOf m (main_roots s) made_tree) (sym shape) (tree_local made_blocks bytes (main_roots s) made_tree has_size is.tree held);
      no_reason = (λ i. reason_of (shape i) s which (has.long i)) ∙ ap (reason_with (with_bytes made_blocks bytes) s which) is.geometry ∙ no_reason;
      no_last = (λ i. last_finding (shape i) s (has.long i)) ∙ ap (last_with (with_bytes made_blocks bytes) s) is.geometry ∙ no_last;
    }
  where
    no_pointers : (h : Which) → has_system_trees made_blocks small h ≡ has_system_trees (with_bytes made_blocks (block_bytes img 512)) small h
    no_pointers First = refl
    no_pointers Second = refl

-- ---- by each of its superblocks

-- the volume by the second area's superblock
whole_second : finding_of made_blocks (main_roots made_super) ≡ None
unfolding field fields inode_in kind_of raw_in levels_for tree_blocks pointer_blocks geometry_of system_root_of
whole_second = refl

-- its tree
found_second : tree_found made_blocks (main_roots made_super) ≡ made_tree
unfolding field fields inode_in kind_of raw_in levels_for tree_blocks pointer_blocks geometry_of system_root_of empty_tree
found_second = refl

-- what is known of it
is_second : IsSmall Second made_super
unfolding field fields inode_in kind_of raw_in levels_for tree_blocks pointer_blocks geometry_of system_root_of
is_second = record {
  tree = subst (λ t. IsTreeOf made_blocks (main_roots made_super) t) found_second (tree_is made_blocks (main_roots made_super) has_size whole_second);
  geometry = refl;
  none = refl;
  last = refl;
  leaves = refl;
}

-- the volume by the first area's
whole_first : finding_of made_blocks (main_roots made_first) ≡ None
unfolding field fields inode_in kind_of raw_in levels_for tree_blocks pointer_blocks geometry_of system_root_of
whole_first = refl

-- its tree
found_first : tree_found made_blocks (main_roots made_first) ≡ made_tree
unfolding field fields inode_in kind_of raw_in levels_for tree_blocks pointer_blocks geometry_of system_root_of empty_tree
found_first = refl

-- what is known of it
is_first : IsSmall First made_first
unfolding field fields inode_in kind_of raw_in levels_for tree_blocks pointer_blocks geometry_of system_root_of
is_first = record {
  tree = subst (λ t. IsTreeOf made_blocks (main_roots made_first) t) found_first (tree_is made_blocks (main_roots made_first) has_size whole_first);
  geometry = refl;
  none = refl;
  last = refl;
  leaves = refl;
}

-- ---- the images

-- each block has its length
filled_long : (bytes : List ℕ) → length bytes ≤ 512 → length (filled 512 bytes) ≡ 512
filled_long bytes room = omega (arith, length-append bytes (replicate (512 - length bytes) 0), length-replicate {A = ℕ} (512 - length bytes) 0)

-- one of two of a length has it
either_long : (b : Bool) (xs ys : List ℕ) → length xs ≡ 512 → length ys ≡ 512 → length (if b then xs else ys) ≡ 512
either_long true xs ys x y = x
either_long false xs ys x y = y

made_long : (b : ℕ) → length (made_block b) ≡ 512
made_long b =
    either_long ((b == 0) || (b == 5)) _ _ refl (either_long ((b == 1) || (b == 6)) _ _ refl (either_long (b == 10) _ _ refl refl))

-- the superblocks that count where their bytes stand
first_valid : valid_area 65536 (Some first_bytes) ≡ Some made_first
unfolding first_bytes checksum_of divided shift order_of field fields root_of
first_valid = refl

second_valid : only_at 0xF000 (valid_area 65536 (Some second_bytes)) ≡ Some made_super
unfolding second_bytes checksum_of divided shift order_of field fields root_of
second_valid = refl

first_gone : valid_area 65536 (Some (changed first_bytes)) ≡ None
unfolding first_bytes checksum_of divided shift order_of field fields root_of
first_gone = refl

second_gone : only_at 0xF000 (valid_area 65536 (Some (changed second_bytes))) ≡ None
unfolding second_bytes checksum_of divided shift order_of field fields root_of
second_gone = refl

-- as many bytes as an area's superblock has
first_long : length first_bytes ≡ 512
unfolding first_bytes
first_long = refl

second_long : length second_bytes ≡ 512
unfolding second_bytes
second_long = refl

changed_first_long : length (changed first_bytes) ≡ 512
unfolding first_bytes
changed_first_long = refl

changed_second_long : length (changed second_bytes) ≡ 512
unfolding second_bytes
changed_second_long = refl

-- an image of these blocks and superblocks, by which of them are valid
parts : (first second : List ℕ) (which : Which) (s : Superblock) (a b : Option Superblock) → length first ≡ 512 → length second ≡ 512 → valid_area 65536 (Some first) ≡ a → searched_place 65536 a ≡ Some 0xF000
    → only_at 0xF000 (valid_area 65536 (Some second)) ≡ b → pick_of a b ≡ picks.Active which → super_of_pick (pick_of a b) a b ≡ Some s → HasBlocks (image_with first second) which s
parts first second which s a b one two a_is search b_is picked named = record {
  long = image_long made_block first second lens one two;
  active = active_is made_block first second lens one two a b a_is search b_is ∙ picked;
  names = super_is made_block first second lens one two a b a_is search b_is ∙ named;
  same = block_is made_block first second lens one two;
}
  where
    lens : (k : ℕ) → k < 96 → length (made_block k) ≡ 512
    lens k low = made_long k

-- what the maker leaves
pub whole : HasBlocks small_image Second made_super
whole = parts first_bytes second_bytes Second made_super (Some made_first) (Some made_super) first_long second_long first_valid refl second_valid refl refl

-- so it is sound
pub whole-sound : IsSound small_image made_tree
whole-sound = small_sound small_image Second made_super refl is_second whole

-- so has the image whose first superblock is changed
pub first_changed : HasBlocks (image_with (changed first_bytes) second_bytes) Second made_super
first_changed = parts (changed first_bytes) second_bytes Second made_super None (Some made_super) changed_first_long second_long first_gone refl second_valid refl refl

-- so it is sound
pub first_changed-sound : IsSound (image_with (changed first_bytes) second_bytes) made_tree
first_changed-sound = small_sound (image_with (changed first_bytes) second_bytes) Second made_super refl is_second first_changed

-- and that whose second is
pub second_changed : HasBlocks (image_with first_bytes (changed second_bytes)) First made_first
second_changed = parts first_bytes (changed second_bytes) First made_first (Some made_first) None first_long changed_second_long first_valid refl second_gone refl refl

-- so it is sound
pub second_changed-sound : IsSound (image_with first_bytes (changed second_bytes)) made_tree
second_changed-sound = small_sound (image_with first_bytes (changed second_bytes)) First made_first refl is_first second_changed

-- where both are changed no area is active
pub both_changed : active_area (image_with (changed first_bytes) (changed second_bytes)) ≡ picks.None
both_changed = active_is made_block (changed first_bytes) (changed second_bytes) (λ k low. made_long k) changed_first_long changed_second_long None None first_gone refl second_gone

-- ---- changed blocks

module _ (changes : List (ℕ × List ℕ)) (lens : (b : ℕ) → b < 96 → length (changed_block changes b) ≡ 512) (whole : finding_of (made_but changes) (main_roots made_super) ≡ None) where
  -- an image with these blocks is foreign for the halves or the bitmap, where the blocks are
  pub changed_foreign : (why : Why) → leaves_below (made_but changes) made_super.bitmap ≡ small.bitmap_leaves
      → ((h : Which) → has_system_trees (made_but changes) small h ≡ has_system_trees (with_bytes (made_but changes) (block_bytes (changed_image changes) 512)) small h)
      → first_some (reason_at reasons.Halves (if is_laid_out (made_but changes) made_super small Second && list_all (λ b. nat_le (2 * small.half) b) (outer_blocks (made_but changes) (main_roots made_super)) then None else Some 0)
      ∷ reason_at reasons.Bitmap (first_below (bit_differs (made_but changes) made_super.bitmap small (outer_blocks (made_but changes) (main_roots made_super))) (small.bitmap_leaves * 512 * 8)) ∷ []) ≡ Some why
      → written_geometry made_super 65536 ≡ Some small → verdict_of (changed_image changes) ≡ Foreign why
  changed_foreign why leaves halves two written =
      let img : List ℕ = changed_image changes in
      let m : BlockMap = made_but changes in
      let bytes : ℕ → List ℕ = block_bytes img 512 in
      let size : HasSize m = walk_sized m (main_roots made_super) whole in
      let tree : IsTreeOf m (main_roots made_super) (tree_found m (main_roots made_super)) = tree_is m (main_roots made_super) size whole in
      let held : (b : ℕ) → IsHeld m (main_roots made_super) (tree_found m (main_roots made_super)) b → m.bytes b ≡ bytes b = λ b h.
      let below : b < 96 = subst (λ z. z < 96) h.3 (tree.undamaged h.0 h.1 h.2) in
      sym (block_is (changed_block changes) first_bytes second_bytes lens first_long second_long b below) in
      let long : length img ≡ 65536 = image_long (changed_block changes) first_bytes second_bytes lens first_long second_long in
      foreign_judged img why (record {
        area = Second;
        superblock = made_super;
        active = active_is (changed_block changes) first_bytes second_bytes lens first_long second_long (Some made_first) (Some made_super) first_valid refl second_valid;
        names = super_is (changed_block changes) first_bytes second_bytes lens first_long second_long (Some made_first) (Some made_super) first_valid refl second_valid;
        tree = tree_found m (main_roots made_super);
        has = tree_local m bytes (main_roots made_super) (tree_found m (main_roots made_super)) size tree held;
        reason = ap (reason_of (with_bytes m bytes) made_super Second) long ∙ ap (reason_with (with_bytes m bytes) made_super Second) written
            ∙ halves_or_bitmap_alike m bytes made_super (tree_found m (main_roots made_super)) size tree held small Second why leaves halves two;
      })

-- the top directory's block lies in a half
pub into_a_half : verdict_of (changed_image ((6, directory_bytes 4) ∷ [])) ≡ Foreign (record { reason = reasons.Halves; at = 0 })
unfolding field fields inode_in kind_of raw_in levels_for tree_blocks pointer_blocks geometry_of system_root_of
into_a_half = changed_foreign ((6, directory_bytes 4) ∷ []) (λ b low. either_long (6 == b) _ _ refl (made_long b)) refl (record { reason = reasons.Halves; at = 0 }) refl no_pointers refl refl
  where
    no_pointers : (h : Which) → has_system_trees (made_but ((6, directory_bytes 4) ∷ [])) small h ≡ has_system_trees (with_bytes (made_but ((6, directory_bytes 4) ∷ [])) (block_bytes (changed_image ((6, directory_bytes 4) ∷ [])) 512)) small h
    no_pointers First = refl
    no_pointers Second = refl

-- the bitmap has a bit for a free block
pub bit_too_many : verdict_of (changed_image ((5, bitmap_bytes 15) ∷ [])) ≡ Foreign (record { reason = reasons.Bitmap; at = 11 })
unfolding field fields inode_in kind_of raw_in levels_for tree_blocks pointer_blocks geometry_of system_root_of
bit_too_many = changed_foreign ((5, bitmap_bytes 15) ∷ []) (λ b low. either_long (5 == b) _ _ refl (made_long b)) refl (record { reason = reasons.Bitmap; at = 11 }) refl no_pointers refl refl
  where
    no_pointers : (h : Which) → has_system_trees (made_but ((5, bitmap_bytes 15) ∷ [])) small h ≡ has_system_trees (with_bytes (made_but ((5, bitmap_bytes 15) ∷ [])) (block_bytes (changed_image ((5, bitmap_bytes 15) ∷ [])) 512)) small h
    no_pointers First = refl
    no_pointers Second = refl
