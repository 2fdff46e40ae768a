-- The blocks that were made are those of `NewBlocks`.
use Rattle.std.proofs.Common.{◌≡◌, None, length, subst}
use Rattle.qx_geom.proofs.VolumeNumbers.{IsGeometry-of}
use Rattle.qx_nodes.specs.BlockMap.{BlockMap}
use Rattle.qx_view.specs.Images.{image_blocks}
use Rattle.qx_view.specs.Sound.{last_finding, reason_of}
use Rattle.qx_make.specs.NewVolume.{made_superblock}
use Rattle.qx_make.proofs.NewBlocks.{blocks_are, new_blocks}
use Rattle.qx_make.proofs.NewSoundness.{new_last, new_reason}
use Rattle.qx_make.proofs.NewTrees.{new_tree_is}
use Rattle.qx_make.proofs.laws.a_new_volume_is_sound.Goals as goal

pub returns-clause-reason : goal.returns-clause-reason
returns-clause-reason c = λ m g order moment serial len which numbers now made.
    let whole = IsGeometry-of len g.blocksize g.num_inodes g numbers in
    subst (λ (b : BlockMap). reason_of b (made_superblock g order moment serial which) which len ≡ None) (blocks_are g order moment m whole now made) (new_reason (new_blocks g order moment m whole now made) which serial len numbers)

pub returns-clause-last : goal.returns-clause-last
returns-clause-last c = λ m g order moment serial len which numbers now made.
    let whole = IsGeometry-of len g.blocksize g.num_inodes g numbers in
    subst (λ (b : BlockMap). last_finding b (made_superblock g order moment serial which) len ≡ None) (blocks_are g order moment m whole now made) (new_last (new_blocks g order moment m whole now made) which serial len numbers)

pub returns-clause-sound : goal.returns-clause-sound
returns-clause-sound c = λ img g order moment serial which has.
    let whole = IsGeometry-of (length img) g.blocksize g.num_inodes g has.numbers in
    let m : BlockMap = image_blocks img (made_superblock g order moment serial which) in
    let v = new_blocks g order moment m whole has.now has.made in
    record {
      area = which;
      superblock = made_superblock g order moment serial which;
      active = has.active;
      names = has.superblock;
      tree = new_tree_is v which;
      no_reason = new_reason v which serial (length img) has.numbers;
      no_last = new_last v which serial (length img) has.numbers;
    }
