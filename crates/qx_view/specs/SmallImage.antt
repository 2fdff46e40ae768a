-- The small volume byte by byte: what the maker leaves at the moment 1000 on a device of 65536 bytes that are 0.
use Rattle.std.specs.Prelude.{ℕ, List, ◌∷◌, ◌++◌, drop, flat_map, replicate, take}
use Rattle.qx_fields.specs.Number.{digits}
use Rattle.qx_fields.specs.declared.order.Order.TheVariants.{Little}
use Rattle.qx_geom.specs.Lists.{parts_below}
use Rattle.qx_geom.specs.Pointer.{absent}
use Rattle.qx_geom.specs.declared.root.Root.{Root}
use Rattle.qx_super.specs.Superblock.{Superblock}
use Rattle.qx_view.specs.Examples.{changed_block, made_block, made_super, one_pointer}

-- a root node
abbrev pub root_by_hand : Root → List ℕ
root_by_hand node = digits Little 8 node.size ++ flat_map (λ p. digits Little 4 p) node.pointers ++ node.levels ∷ replicate 7 0

-- a superblock with this checksum
abbrev pub super_by_hand : ℕ → Superblock → List ℕ
super_by_hand sum s =
    digits Little 4 0x68191122 ++ digits Little 4 sum ++ digits Little 8 s.serial ++ digits Little 4 s.ctime ++ digits Little 4 s.atime ++ replicate 4 0
    ++ digits Little 2 s.version1 ++ replicate 2 0 ++ s.volume_id ++ digits Little 4 s.blocksize ++ digits Little 4 s.num_inodes ++ digits Little 4 s.free_inodes
    ++ digits Little 4 s.num_blocks ++ digits Little 4 s.free_blocks ++ replicate 4 0 ++ root_by_hand s.inode ++ root_by_hand s.bitmap ++ root_by_hand s.longfile
    ++ root_by_hand s.fourth ++ replicate 120 0

-- the superblock of the first area: an earlier serial, and the trees of the first half
abbrev pub made_first : Superblock
made_first = record made_super {
  serial = 1;
  inode = record { size = 2048; pointers = 1 ∷ 2 ∷ 3 ∷ 4 ∷ replicate 12 absent; levels = 0 };
  bitmap = one_pointer 12 0;
}

-- the first area's superblock, with the checksum that an independent maker wrote
unfoldable pub first_bytes : List ℕ
first_bytes = super_by_hand 0x7442D465 made_first

-- the second area's, with a checksum from a program of a few lines, apart from this one
unfoldable pub second_bytes : List ℕ
second_bytes = super_by_hand 0xDAE951C0 made_super

-- bytes 0
unfoldable pub zeros : ℕ → List ℕ
zeros n = replicate n 0

-- the image of 96 blocks with these superblocks in its areas
unfoldable pub image_of : (ℕ → List ℕ) → List ℕ → List ℕ → List ℕ
image_of block first second = zeros 0x2000 ++ (first ++ (zeros 0xE00 ++ (parts_below 96 block ++ (second ++ zeros 0xE00))))

-- that of the volume's blocks
abbrev pub image_with : List ℕ → List ℕ → List ℕ
image_with first second = image_of made_block first second

-- that of its superblocks, where other blocks have these bytes
abbrev pub changed_image : List (ℕ × List ℕ) → List ℕ
changed_image changes = image_of (changed_block changes) first_bytes second_bytes

-- a superblock whose byte 16 isn't as its checksum says
abbrev pub changed : List ℕ → List ℕ
changed bytes = take 16 bytes ++ 0 ∷ drop 17 bytes

-- what the maker leaves
abbrev pub small_image : List ℕ
small_image = image_with first_bytes second_bytes
