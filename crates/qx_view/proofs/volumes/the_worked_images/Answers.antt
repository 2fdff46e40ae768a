use Rattle.std.proofs.Common.{◌≡◌, ◌^◌, [], ◌∷◌, Some, ap, arith, refl}
use Rattle.std.specs.Prelude.{IsTrue, filter, flat_map, map, not}
use Rattle.qx_fields.specs.Number.{field, fields}
use Rattle.qx_geom.specs.Layout.{levels_for, numbers_of, tree_blocks, pointer_blocks, geometry_of, system_root_of}
use Rattle.qx_geom.specs.declared.area.Which.TheVariants as areas
use Rattle.qx_nodes.specs.BlockMap.{BlockMap}
use Rattle.qx_nodes.specs.Content.{HasSize, levels_fit}
use Rattle.qx_nodes.specs.Visits.{Visit, present_of, visits_of}
use Rattle.qx_records.specs.InodeRecord.{inode_in, kind_of}
use Rattle.qx_records.specs.NameRecord.{raw_in}
use Rattle.qx_records.specs.declared.kind.Kind.TheVariants as kinds
use Rattle.qx_view.proofs.HollowTop.{finding_alone, walked_alone}
use Rattle.qx_view.specs.Examples.{inode_bytes_with, made_super, with_top}
use Rattle.qx_view.specs.Images.{Roots, main_roots}
use Rattle.qx_view.specs.Sound.{first_some, is_special_inode, reasons_in}
use Rattle.qx_view.specs.Walk.{inode_mode, inode_root}
use Rattle.qx_view.proofs.volumes.the_worked_images.Goals as goal

-- the blocks of the volume whose top directory has 2^48 bytes and no block
abbrev hollow : BlockMap
hollow = with_top (inode_bytes_with (2 ^ 48) 0x41ED 5 1 [])

-- its roots
abbrev roots : Roots
roots = main_roots made_super

-- its blocks have room for pointers
has_size : HasSize hollow
has_size = record { size = omega arith; words = omega arith }

-- inode 1 is a directory
is_directory : kind_of (inode_mode hollow roots 1) ≡ Some kinds.Directory
unfolding field fields inode_in kind_of
is_directory = refl

-- it is within the bounds
fits : IsTrue (levels_fit hollow (inode_root hollow roots 1))
unfolding field fields inode_in
fits = refl

-- and has no present leaf
none_present : present_of hollow (inode_root hollow roots 1) ≡ []
unfolding field fields inode_in
none_present = refl

pub returns-clause-pointer_into_a_half : goal.returns-clause-pointer_into_a_half
unfolding field fields inode_in kind_of raw_in levels_for tree_blocks pointer_blocks geometry_of system_root_of
returns-clause-pointer_into_a_half c = refl

pub returns-clause-length_of_28 : goal.returns-clause-length_of_28
unfolding field fields inode_in kind_of raw_in levels_for tree_blocks pointer_blocks geometry_of system_root_of
returns-clause-length_of_28 c = refl

pub returns-clause-six_levels : goal.returns-clause-six_levels
unfolding field fields inode_in kind_of raw_in levels_for tree_blocks pointer_blocks geometry_of system_root_of
returns-clause-six_levels c = refl

pub returns-clause-three_bits_clear : goal.returns-clause-three_bits_clear
unfolding field fields inode_in kind_of raw_in levels_for tree_blocks pointer_blocks geometry_of system_root_of
returns-clause-three_bits_clear c = refl

pub returns-clause-one_block_twice : goal.returns-clause-one_block_twice
unfolding field fields inode_in kind_of raw_in levels_for tree_blocks pointer_blocks geometry_of system_root_of
returns-clause-one_block_twice c = refl

pub returns-clause-records_as_pointers : goal.returns-clause-records_as_pointers
unfolding field fields inode_in kind_of raw_in levels_for tree_blocks pointer_blocks geometry_of system_root_of
returns-clause-records_as_pointers c = refl

pub returns-clause-vast_hole_whole : goal.returns-clause-vast_hole_whole
unfolding field fields inode_in kind_of raw_in levels_for tree_blocks pointer_blocks geometry_of system_root_of
returns-clause-vast_hole_whole c = finding_alone hollow roots has_size refl is_directory fits none_present

pub returns-clause-vast_hole : goal.returns-clause-vast_hole
unfolding field fields inode_in kind_of raw_in levels_for tree_blocks pointer_blocks geometry_of system_root_of
returns-clause-vast_hole c =
    ap (λ reached. first_some (reasons_in hollow made_super (numbers_of 65536 512 16) areas.Second roots (flat_map (λ node. map (λ (v : Visit). v.block) (visits_of hollow node)) (roots.longfile ∷ map (inode_root hollow roots) (filter (λ n. not (is_special_inode hollow roots n)) reached))) reached))
    (walked_alone hollow roots has_size refl is_directory fits none_present)

pub returns-clause-shorter_device : goal.returns-clause-shorter_device
unfolding field fields inode_in kind_of raw_in levels_for tree_blocks pointer_blocks geometry_of system_root_of
returns-clause-shorter_device c = refl
