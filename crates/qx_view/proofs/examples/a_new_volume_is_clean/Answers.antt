use Rattle.std.proofs.Common.{◌≡◌, refl, subst, arith}
use Rattle.qx_fields.specs.Number.{field, fields}
use Rattle.qx_geom.specs.Layout.{levels_for, tree_blocks, pointer_blocks, geometry_of, system_root_of}
use Rattle.qx_records.specs.InodeRecord.{inode_in, kind_of}
use Rattle.qx_records.specs.NameRecord.{raw_in}
use Rattle.qx_model.specs.EmptyTree.{empty_tree}
use Rattle.qx_nodes.specs.Content.{HasSize}
use Rattle.qx_view.proofs.ApartPositions.{tree_is}
use Rattle.qx_view.proofs.TreeFound.{tree_found}
use Rattle.qx_view.specs.Examples.{made_blocks, made_super, made_tree}
use Rattle.qx_view.specs.Images.{main_roots}
use Rattle.qx_view.specs.Reading.{IsTreeOf}
use Rattle.qx_view.proofs.examples.a_new_volume_is_clean.Goals as goal

-- its blocks have room for pointers
has_size : HasSize made_blocks
has_size = record { size = omega arith; words = omega arith }

-- the tree that is read from it
found : tree_found made_blocks (main_roots made_super) ≡ made_tree
unfolding field fields inode_in kind_of raw_in empty_tree
found = refl

pub returns-clause-whole : goal.returns-clause-whole
unfolding field fields inode_in kind_of raw_in levels_for tree_blocks pointer_blocks geometry_of system_root_of
returns-clause-whole c = refl

pub returns-clause-empty : goal.returns-clause-empty
returns-clause-empty c = subst (λ t. IsTreeOf made_blocks (main_roots made_super) t) found (tree_is made_blocks (main_roots made_super) has_size (returns-clause-whole c))

pub returns-clause-ours : goal.returns-clause-ours
unfolding field fields inode_in kind_of raw_in levels_for tree_blocks pointer_blocks geometry_of system_root_of
returns-clause-ours c = refl

pub returns-clause-other_half : goal.returns-clause-other_half
unfolding field fields inode_in kind_of raw_in levels_for tree_blocks pointer_blocks geometry_of system_root_of
returns-clause-other_half c = refl

pub returns-clause-other_length : goal.returns-clause-other_length
unfolding field fields inode_in kind_of raw_in levels_for tree_blocks pointer_blocks geometry_of system_root_of
returns-clause-other_length c = refl

pub returns-clause-counted : goal.returns-clause-counted
unfolding field fields inode_in kind_of raw_in levels_for tree_blocks pointer_blocks geometry_of system_root_of
returns-clause-counted c = refl
