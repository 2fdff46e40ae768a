use Rattle.std.proofs.Common.{◌≡◌, refl, subst}
use Rattle.qx_fields.specs.Number.{field, fields}
use Rattle.qx_records.specs.InodeRecord.{inode_in, kind_of}
use Rattle.qx_records.specs.NameRecord.{long_name_in, raw_in}
use Rattle.qx_records.specs.NameSum.{name_sum_of, name_sum_signed_of}
use Rattle.qx_view.proofs.ApartPositions.{tree_is}
use Rattle.qx_view.proofs.RoomForPointers.{walk_sized}
use Rattle.qx_view.proofs.TreeFound.{tree_found}
use Rattle.qx_view.specs.KindsImage.{kinds_blocks, kinds_roots, kinds_tree}
use Rattle.qx_view.specs.Reading.{IsTreeOf}
use Rattle.qx_view.proofs.kinds.the_tree_of_each_kind.Goals as goal

-- the tree that is read from the blocks
found : tree_found kinds_blocks kinds_roots ≡ kinds_tree
unfolding field fields inode_in kind_of raw_in long_name_in name_sum_of name_sum_signed_of
found = refl

pub returns-clause-whole : goal.returns-clause-whole
unfolding field fields inode_in kind_of raw_in long_name_in name_sum_of name_sum_signed_of
returns-clause-whole c = refl

pub returns-clause-tree : goal.returns-clause-tree
returns-clause-tree c =
    subst (λ t. IsTreeOf kinds_blocks kinds_roots t) found (tree_is kinds_blocks kinds_roots (walk_sized kinds_blocks kinds_roots (returns-clause-whole c)) (returns-clause-whole c))
