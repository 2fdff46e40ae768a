-- The stages that make a volume: which superblocks an image has meanwhile, and what is active at the end.
use Rattle.std.proofs.Common.{◌≡◌, ℕ, ◌+◌, ◌^◌, ◌≤◌, ◌<◌, inl, inr, List, length, Some, None, Ok, refl, ap, sym, ◌∙◌, subst, arith}
use Rattle.std.specs.Prelude.{Contains, slice_index, slice_range}
use Rattle.std.specs.Result.{result_ok}
use Rattle.qx_bytes.specs.Ranges.{put_at}
use Rattle.qx_bytes.proofs.Puts.{range_put_same}
use Rattle.qx_outside.specs.Puts.{IsApartFrom, IsPartOf, Put}
use Rattle.qx_fields.specs.declared.order.Order.{Order}
use Rattle.qx_geom.specs.declared.area.Which.{Which}
use Rattle.qx_geom.specs.declared.area.Which.TheVariants.{First, Second}
use Rattle.qx_geom.specs.declared.geometry.Geometry.{Geometry}
use Rattle.qx_geom.specs.Layout.{IsGeometry, area_place, geometry_of}
use Rattle.qx_model.specs.Tree.{Tree}
use Rattle.qx_super.specs.declared.choice.Pick.TheVariants as picks
use Rattle.qx_super.specs.Superblock.{Superblock, superblock_of}
use Rattle.qx_super.specs.Written.{superblock_written}
use Rattle.qx_super.specs.Active.{active_area, active_super}
use Rattle.qx_view.specs.Images.{image_blocks}
use Rattle.qx_view.specs.Sound.{IsSound}
use Rattle.qx_make.specs.Blocks.{AreMade}
use Rattle.qx_make.specs.Cut.{IsLeftByMaker, IsTorn, places_of}
use Rattle.qx_make.specs.Stages.{all_block_bytes, blocks_stage, supers_stage, with_blocks, with_supers}
use Rattle.qx_make.specs.Superblocks.{made_super, made_super_bytes}
use Rattle.qx_make.proofs.BytesAt.{HasSame, HasSame-put, HasSame-then, HasZeros, HasZeros-put, HasZeros-same, HasZeros-within, length-put}
use Rattle.qx_make.proofs.MadeBlocks.{HasBlocks, HasBlocks-put, HasBlocks-same, blocks-room}
use Rattle.qx_make.proofs.MadeSuperblocks.{length_made_super, superblock_of-made}
use Rattle.qx_make.proofs.SearchedPlaces.{among_new}
use Rattle.qx_make.proofs.NewSuperblocks.{AreMade-image, both_active, last_place-second, left_new, neither_active, own_geometry, second-behind, second-room}
use Rattle.qx_make.proofs.SuperblocksAt.{second_at-none, super_at, super_at-same, super_at-bytes, super_at-zeros}
use Rattle.qx_make.proofs.TornAreas.{IsApartFrom-one, IsApartFrom-two, one_of_two, torn_apart, torn_put, whole_part}

module _ (g : Geometry) (order : Order) (moment size : ℕ) (is_geometry : geometry_of size g.blocksize g.num_inodes ≡ Ok g) (in_time : moment < 2 ^ 32) where
  -- the device's geometry is a volume's
  abbrev own : IsGeometry g
  own = own_geometry g order moment size is_geometry in_time

  -- the device has the second area
  area-room : area_place g Second + 4096 ≤ size
  area-room = second-room g order moment size is_geometry in_time

  -- behind the first
  area-behind : 0x3000 ≤ area_place g Second
  area-behind = second-behind g order moment size is_geometry in_time

  -- the superblock of an area
  abbrev made : Which → Superblock
  made which = superblock_written (made_super g order moment which)

  -- ---- the bytes after each stage

  module _ (zeros : List ℕ) (wide : length zeros ≡ 4096) (blank : (i : ℕ) → slice_index zeros i ≡ 0) (bytes : List ℕ) (long : length bytes ≡ size) where
    -- with the first area zeroed, and then the second
    abbrev one : List ℕ
    one = put_at bytes 0x2000 zeros

    -- with both zeroed
    abbrev cleared : List ℕ
    cleared = put_at one (area_place g Second) zeros

    -- with the blocks between them
    abbrev filled : List ℕ
    filled = with_blocks g order moment cleared

    -- with both superblocks
    abbrev done : List ℕ
    done = with_supers g order moment filled

    -- the length stays
    length-one : length one ≡ size
    length-one = length-put bytes zeros 0x2000 (omega (arith, area-room, area-behind)) ∙ long

    -- with both as well
    pub length-cleared : length cleared ≡ size
    length-cleared = length-put one zeros (area_place g Second) (omega (arith, area-room, length-one)) ∙ length-one

    -- both areas are 0
    first-zeros : HasZeros cleared 0x2000 0x3000
    first-zeros =
        HasZeros-same cleared one 0x2000 0x3000 (HasSame-put one zeros (area_place g Second) 0x2000 0x3000 (omega (arith, area-room, length-one)) (inl area-behind))
        (HasZeros-within one 0x2000 (0x2000 + length zeros) 0x2000 0x3000 (omega arith) (omega arith) (HasZeros-put bytes zeros 0x2000 (omega (arith, area-room)) blank))

    -- the second area is 0
    second-zeros : HasZeros cleared (area_place g Second) (area_place g Second + 512)
    second-zeros =
        HasZeros-within cleared (area_place g Second) (area_place g Second + length zeros) (area_place g Second) (area_place g Second + 512) (omega arith) (omega arith)
        (HasZeros-put one zeros (area_place g Second) (omega (arith, area-room, length-one)) blank)

    -- images with the same bytes there have no superblock
    first-none : (img : List ℕ) → HasSame img cleared 0x2000 0x3000 → super_at img 0x2000 ≡ None
    first-none img same =
        super_at-zeros img 0x2000 (HasZeros-within img 0x2000 0x3000 0x2000 (0x2000 + 512) (omega arith) (omega arith) (HasZeros-same img cleared 0x2000 0x3000 same first-zeros))

    -- nor one in the second area
    second-none : (img : List ℕ) → HasSame img cleared (area_place g Second) (area_place g Second + 512) → super_at img (area_place g Second) ≡ None
    second-none img same =
        super_at-zeros img (area_place g Second) (HasZeros-same img cleared (area_place g Second) (area_place g Second + 512) same second-zeros)

    -- and with the blocks
    pub length-filled : length filled ≡ size
    length-filled =
        length-put cleared (all_block_bytes g order moment) 0x3000 (omega (arith, area-room, length-cleared, blocks-room g own order moment)) ∙ length-cleared

    -- they lie apart from both areas: the first stays
    first-apart : HasSame filled cleared 0x2000 0x3000
    first-apart =
        HasSame-put cleared (all_block_bytes g order moment) 0x3000 0x2000 0x3000 (omega (arith, area-room, area-behind, length-cleared)) (inl (omega arith))

    -- so does the second
    second-apart : HasSame filled cleared (area_place g Second) (area_place g Second + 512)
    second-apart =
        HasSame-put cleared (all_block_bytes g order moment) 0x3000 (area_place g Second) (area_place g Second + 512) (omega (arith, area-room, area-behind, length-cleared)) (inr (blocks-room g own order moment))

    -- the blocks stand in their places
    filled-blocks : HasBlocks g own order moment filled
    filled-blocks = HasBlocks-put g own order moment cleared (omega (arith, area-room, area-behind, length-cleared))

    -- while the blocks are put no area is active
    pub active_area-blocks : (places img : List ℕ) → IsTorn (blocks_stage g order moment cleared) places img → active_area img ≡ picks.None
    active_area-blocks places img torn =
        let stage = blocks_stage g order moment cleared in
        let blocks : Put = record { at = 0x3000; bytes = all_block_bytes g order moment } in
        let second = area_place g Second in
        neither_active g order moment size is_geometry in_time img (torn.size ∙ length-cleared)
        (first-none img (torn_apart stage places img torn 0x2000 0x3000 (λ k low high. IsApartFrom-one blocks k (inl high))))
        (second_at-none img second (second-none img (torn_apart stage places img torn second (second + 512) (λ k low high. IsApartFrom-one blocks k (inr (omega (arith, blocks-room g own order moment)))))))

    -- ---- the superblocks

    -- the first superblock's bytes
    abbrev first_bytes : List ℕ
    first_bytes = made_super_bytes g order moment First

    -- the second's
    abbrev second_bytes : List ℕ
    second_bytes = made_super_bytes g order moment Second

    -- they are 512
    length-first : length first_bytes ≡ 512
    length-first = length_made_super g own order moment in_time First

    -- so are the second's
    length-second : length second_bytes ≡ 512
    length-second = length_made_super g own order moment in_time Second

    -- they are valid on a device of this length
    first-valid : (len : ℕ) → len ≡ size → superblock_of first_bytes len ≡ Ok (made First)
    first-valid len e = superblock_of-made g own order moment in_time First len (omega (arith, area-room))

    -- so are those of the second
    second-valid : (len : ℕ) → len ≡ size → superblock_of second_bytes len ≡ Ok (made Second)
    second-valid len e = superblock_of-made g own order moment in_time Second len (omega (arith, area-room))

    -- where each is put
    first_put : Put
    first_put = record { at = 0x2000; bytes = first_bytes }

    -- and the other
    second_put : Put
    second_put = record { at = area_place g Second; bytes = second_bytes }

    -- a part that fits the first area's place whole is the first superblock
    first-only : (part : List ℕ) → length part ≡ 512 → IsPartOf (supers_stage g order moment filled).puts 0x2000 part → part ≡ first_bytes
    unfolding first_put second_put
    first-only part full p = elim (one_of_two first_put second_put p.put p.among) [
      | inl is ↦
          let at : p.put.at ≡ 0x2000 = sym (ap (λ (q : Put). q.at) is) in
          let same : p.put.bytes ≡ first_bytes = sym (ap (λ (q : Put). q.bytes) is) in
          whole_part 0x2000 p.put.at part p.put.bytes at full (ap length same ∙ length-first) p.same ∙ same
      | inr is ↦ let at : p.put.at ≡ area_place g Second = sym (ap (λ (q : Put). q.at) is) in let low : p.put.at ≤ 0x2000 = p.from in absurd (omega (arith, area-behind))
    ]

    -- one that fits the second area's place whole is the second
    second-only : (part : List ℕ) → length part ≡ 512 → IsPartOf (supers_stage g order moment filled).puts (area_place g Second) part → part ≡ second_bytes
    unfolding first_put second_put
    second-only part full p = elim (one_of_two first_put second_put p.put p.among) [
      | inl is ↦
          let at : p.put.at ≡ 0x2000 = sym (ap (λ (q : Put). q.at) is) in
          let same : p.put.bytes ≡ first_bytes = sym (ap (λ (q : Put). q.bytes) is) in
          let high : area_place g Second + length part ≤ p.put.at + length p.put.bytes = p.to in
          absurd (omega (arith, area-behind, ap length same, length-first))
      | inr is ↦
          let at : p.put.at ≡ area_place g Second = sym (ap (λ (q : Put). q.at) is) in
          let same : p.put.bytes ≡ second_bytes = sym (ap (λ (q : Put). q.bytes) is) in
          whole_part (area_place g Second) p.put.at part p.put.bytes at full (ap length same ∙ length-second) p.same ∙ same
    ]

    -- bytes between the areas are in the place of neither
    between : (k : ℕ) → 0x3000 ≤ k → k < area_place g Second → IsApartFrom (supers_stage g order moment filled).puts k
    between k low high = IsApartFrom-two (record { at = 0x2000; bytes = first_bytes }) (record { at = area_place g Second; bytes = second_bytes }) k (inr (omega (arith, length-first))) (inl high)

    module _ (old : List ℕ) (t : Tree) (new_sound : (img : List ℕ) (which : Which) → length img ≡ size → active_area img ≡ picks.Active which → active_super img ≡ Some (made which) → AreMade g order moment (image_blocks img (made which)) → IsSound img t) where
      -- while they are put an image gives no volume or the new one
      pub left-supers : (img : List ℕ) → IsTorn (supers_stage g order moment filled) (places_of old size) img → IsLeftByMaker old t img
      left-supers img torn =
          let stage = supers_stage g order moment filled in
          let places = places_of old size in
          let second = area_place g Second in
          let long_img : length img ≡ size = torn.size ∙ length-filled in
          left_new g order moment size is_geometry in_time old t new_sound img long_img
          (HasBlocks-same g own order moment img filled (torn_apart stage places img torn 0x3000 second between) filled-blocks)
          (torn_put stage places img torn 0x2000 first_bytes (made First) (0, omega arith, refl) (omega (arith, area-room, area-behind)) (first-none filled first-apart) first-only (first-valid (length img) long_img))
          (torn_put stage places img torn second second_bytes (made Second) (subst (λ (p : ℕ). Contains places p) (last_place-second g order moment size is_geometry in_time) (among_new old size (omega (arith, area-room)))) (omega (arith, area-room)) (second-none filled second-apart) second-only (second-valid (length img) long_img))

    -- ---- the end

    -- the length stays with the first
    length-with_first : length (put_at filled 0x2000 first_bytes) ≡ size
    length-with_first = length-put filled first_bytes 0x2000 (omega (arith, area-room, area-behind, length-first, length-filled)) ∙ length-filled

    -- and with both
    pub length-done : length done ≡ size
    length-done = length-put (put_at filled 0x2000 first_bytes) second_bytes (area_place g Second) (omega (arith, area-room, length-second, length-with_first)) ∙ length-with_first

    -- the blocks stand
    done-blocks : HasBlocks g own order moment done
    done-blocks =
        let start = put_at filled 0x2000 first_bytes in
        HasBlocks-same g own order moment done filled
        (HasSame-then done start filled 0x3000 (area_place g Second)
        (HasSame-put start second_bytes (area_place g Second) 0x3000 (area_place g Second) (omega (arith, area-room, length-with_first)) (inl (omega arith)))
        (HasSame-put filled first_bytes 0x2000 0x3000 (area_place g Second) (omega (arith, area-room, area-behind, length-filled)) (inr (omega (arith, length-first)))))
        filled-blocks

    -- what was put whole is there
    super_at-put : (xs whole : List ℕ) (at : ℕ) (s : Superblock) → length whole ≡ 512 → at + 512 ≤ length xs → superblock_of whole (length xs) ≡ Ok s → super_at (put_at xs at whole) at ≡ Some s
    super_at-put xs whole at s full room valid =
        let img = put_at xs at whole in
        let same_length : length img ≡ length xs = length-put xs whole at (omega arith) in
        let there : slice_range img at (at + length whole) ≡ whole = range_put_same xs whole at (length whole) refl (omega arith) in
        let bytes : slice_range img at (at + 512) ≡ whole = ap (λ (n : ℕ). slice_range img at (at + n)) (sym full) ∙ there in
        super_at-bytes img at whole (length xs) (omega arith) bytes same_length ∙ ap result_ok valid

    -- the first superblock is there
    done-first : super_at done 0x2000 ≡ Some (made First)
    done-first =
        let start = put_at filled 0x2000 first_bytes in
        super_at-same done start 0x2000 (length-done ∙ sym length-with_first) (HasSame-put start second_bytes (area_place g Second) 0x2000 (0x2000 + 512) (omega (arith, area-room, length-with_first)) (inl (omega (arith, area-behind))))
        ∙ super_at-put filled first_bytes 0x2000 (made First) length-first (omega (arith, area-room, area-behind, length-filled)) (first-valid (length filled) length-filled)

    -- and the second
    done-second : super_at done (area_place g Second) ≡ Some (made Second)
    done-second =
        let start = put_at filled 0x2000 first_bytes in
        super_at-put start second_bytes (area_place g Second) (made Second) length-second (omega (arith, area-room, length-with_first)) (second-valid (length start) length-with_first)

    -- so the second area is active
    pub active-done : (active_area done ≡ picks.Active Second) × (active_super done ≡ Some (made Second))
    active-done = both_active g order moment size is_geometry in_time done done-first done-second

    -- with the new blocks
    pub AreMade-done : AreMade g order moment (image_blocks done (made Second))
    AreMade-done = AreMade-image g order moment size is_geometry in_time done Second length-done done-blocks
