-- Small volumes on which the definitions are computed.
use Rattle.std.specs.Prelude.{ℕ, ◌+◌, ◌-◌, ◌*◌, ◌^◌, List, [], ◌∷◌, ◌++◌, flat_map, length, replicate, ◌==◌, ◌||◌, if◌then◌else◌, Option, Some}
use Rattle.std.specs.List.{range_with_len}
use Rattle.qx_fields.specs.declared.order.Order.{Order}
use Rattle.qx_fields.specs.declared.order.Order.TheVariants.{Little}
use Rattle.qx_fields.specs.Number.{all_digits, digits}
use Rattle.qx_geom.specs.declared.area.Which.TheVariants.{Second}
use Rattle.qx_geom.specs.declared.root.Root.{Root}
use Rattle.qx_geom.specs.Pointer.{absent}
use Rattle.qx_model.specs.EmptyTree.{empty_tree}
use Rattle.qx_model.specs.Tree.{Tree}
use Rattle.qx_nodes.specs.BlockMap.{BlockMap}
use Rattle.qx_super.specs.Superblock.{Superblock}
use Rattle.qx_view.specs.declared.findings.Code.{Code}
use Rattle.qx_view.specs.declared.findings.Finding.{Finding}
use Rattle.qx_view.specs.declared.reasons.Reason.{Reason}
use Rattle.qx_view.specs.declared.reasons.Foreign.{Foreign as Why}
use Rattle.qx_view.specs.Images.{Roots, main_roots}
use Rattle.qx_view.specs.Sound.{last_finding, reason_of}
use Rattle.qx_view.specs.Walk.{finding_of}

-- ---- what is found

-- this test fails at an inode and a block
abbrev pub found : Code → ℕ → ℕ → Option Finding
found code inode block = Some (record { code = code; inode = inode; block = block })

-- an image is foreign for this reason, which applies at some number
abbrev pub foreign_for : Reason → ℕ → Option Why
foreign_for reason at = Some (record { reason = reason; at = at })

-- ---- records

-- bytes with 0 behind them, so many in all
abbrev pub filled : ℕ → List ℕ → List ℕ
filled count bytes = bytes ++ replicate (count - length bytes) 0

-- an inode of this size, mode, levels and status, whose first pointers are these; its owner and group are 0, and its four times 1000
abbrev pub inode_bytes_in : Order → ℕ → ℕ → ℕ → ℕ → List ℕ → List ℕ
inode_bytes_in order size mode levels status pointers =
    filled 128 (digits order 8 size ++ replicate 8 0 ++ all_digits order 4 (replicate 4 1000) ++ digits order 2 mode ++ 0 ∷ 0 ∷ []
    ++ flat_map (λ p. digits order 4 p) pointers ++ replicate (64 - 4 * length pointers) 255 ++ levels ∷ status ∷ [])

-- the same in little order
abbrev pub inode_bytes_with : ℕ → ℕ → ℕ → ℕ → List ℕ → List ℕ
inode_bytes_with = inode_bytes_in Little

-- a directory of one block of 512 bytes
abbrev pub directory_bytes : ℕ → List ℕ
directory_bytes block = inode_bytes_with 512 0x41ED 0 1 (block ∷ [])

-- a short row
abbrev pub row_bytes_in : Order → ℕ → List ℕ → List ℕ
row_bytes_in order n name = filled 32 (digits order 4 n ++ length name ∷ [] ++ name)

-- the same in little order
abbrev pub row_bytes : ℕ → List ℕ → List ℕ
row_bytes = row_bytes_in Little

-- a node without levels that has this pointer alone
abbrev pub one_pointer : ℕ → ℕ → Root
one_pointer size pointer = record { size = size; pointers = pointer ∷ replicate 15 absent; levels = 0 }

-- blocks of 512 bytes in little order
abbrev pub blocks_of : ℕ → (ℕ → List ℕ) → BlockMap
blocks_of count bytes = record { order = Little; size = 512; count = count; bytes = bytes }

-- ---- two directories

-- the rows of a directory and its parent
abbrev pub dots_bytes : ℕ → ℕ → List ℕ
dots_bytes d p = row_bytes d (46 ∷ []) ++ row_bytes p (46 ∷ 46 ∷ [])

-- the inodes in block 2: the top directory in block 3, whose row `d` names inode n, and a directory in this block
abbrev pub two_directories : ℕ → ℕ → BlockMap
two_directories n block = blocks_of 8 (λ b.
    if b == 2 then filled 512 (directory_bytes 3 ++ directory_bytes block)
    else if b == 3 then filled 512 (dots_bytes 1 1 ++ row_bytes n (100 ∷ []))
    else if b == 4 then filled 512 (dots_bytes 2 1)
    else replicate 512 0)

-- a small volume in this order: the inodes in block 2, the top directory in block 3, whose rows `d` and `f` name inode 2, a file of 7 bytes in block 4
abbrev pub one_file : Order → BlockMap
one_file order = record {
  order = order;
  size = 512;
  count = 8;
  bytes = λ b.
      if b == 2 then filled 512 (inode_bytes_in order 512 0x41ED 0 1 (3 ∷ []) ++ inode_bytes_in order 7 0x81A4 0 3 (4 ∷ []))
      else if b == 3 then filled 512 (row_bytes_in order 1 (46 ∷ []) ++ row_bytes_in order 1 (46 ∷ 46 ∷ []) ++ row_bytes_in order 2 (100 ∷ []) ++ row_bytes_in order 2 (102 ∷ []))
      else replicate 512 0;
}

-- where its tree begins
abbrev pub small_roots : Roots
small_roots = record { inodes = one_pointer 512 2; longfile = one_pointer 0 absent; further = one_pointer 1 1 ∷ [] }

-- ---- a directory of 2^48 bytes under 5 levels

-- with this in block 3, its first pointer block
abbrev pub vast_directory : List ℕ → BlockMap
vast_directory first = blocks_of 8 (λ b.
    if b == 2 then filled 512 (inode_bytes_with (2 ^ 48) 0x41ED 5 1 (3 ∷ []))
    else if b == 3 then filled 512 first
    else replicate 512 0)

-- ---- nodes under each number of levels

-- each word of block b leads to block b + 1
abbrev pub chain : BlockMap
chain = blocks_of 8 (λ b. flat_map (λ w. digits Little 4 (b + 1)) (range_with_len 0 128))

-- a node whose first and last pointers lead to block 1
abbrev pub chained : ℕ → Root
chained levels = record { size = 2 ^ 48; pointers = 1 ∷ replicate 14 absent ++ 1 ∷ []; levels = levels }

-- ---- what the maker leaves at the moment 1000 on a device of 65536 bytes that are 0: 96 blocks, halves of 5 blocks, and the top directory in block 10

-- a bitmap with this second byte
abbrev pub bitmap_bytes : ℕ → List ℕ
bitmap_bytes second = 255 ∷ second ∷ [] ++ replicate 10 0 ++ replicate 500 255

-- block b
abbrev pub made_block : ℕ → List ℕ
made_block b =
    if (b == 0) || (b == 5) then bitmap_bytes 7
    else if (b == 1) || (b == 6) then filled 512 (directory_bytes 10)
    else if b == 10 then filled 512 (dots_bytes 1 1)
    else replicate 512 0

-- block b, where others have these bytes
abbrev pub changed_block : List (ℕ × List ℕ) → ℕ → List ℕ
changed_block [] b = made_block b
changed_block (c ∷ cs) b = if c.0 == b then filled 512 c.1 else changed_block cs b

-- all blocks, but for these
abbrev pub made_but : List (ℕ × List ℕ) → BlockMap
made_but changes = blocks_of 96 (changed_block changes)

-- all blocks
abbrev pub made_blocks : BlockMap
made_blocks = made_but []

-- the superblock of the second area
abbrev pub made_super : Superblock
made_super = record {
  order = Little;
  serial = 2;
  ctime = 1000;
  atime = 1000;
  version1 = 1;
  volume_id = replicate 16 0;
  blocksize = 512;
  num_inodes = 16;
  free_inodes = 15;
  num_blocks = 96;
  free_blocks = 85;
  inode = record { size = 2048; pointers = 6 ∷ 7 ∷ 8 ∷ 9 ∷ replicate 12 absent; levels = 0 };
  bitmap = one_pointer 12 5;
  longfile = one_pointer 0 absent;
  fourth = one_pointer 0 absent;
}

-- its tree: the top directory alone, with its two rows
abbrev pub made_tree : Tree
made_tree = empty_tree 512 16 1000

-- the finding of the walk of these blocks, with its superblock
abbrev pub finding_in : BlockMap → Option Finding
finding_in m = finding_of m (main_roots made_super)

-- the reason for which these blocks are foreign with this superblock in the second area
abbrev pub reason_in : BlockMap → Superblock → Option Why
reason_in m s = reason_of m s Second 65536

-- what is found last in them
abbrev pub last_in : BlockMap → Superblock → Option Finding
last_in m s = last_finding m s 65536

-- ---- changes of it

-- the blocks with more rows in the top directory
abbrev pub with_rows : List ℕ → BlockMap
with_rows rows = made_but ((10, dots_bytes 1 1 ++ rows) ∷ [])

-- with another top inode
abbrev pub with_top : List ℕ → BlockMap
with_top inode = made_but ((6, inode) ∷ [])

-- with this as inode 2, a row `f` that names it, and bytes in block 11
abbrev pub with_second : List ℕ → List ℕ → BlockMap
with_second inode bytes =
    made_but ((6, directory_bytes 10 ++ inode) ∷ (10, dots_bytes 1 1 ++ row_bytes 2 (102 ∷ [])) ∷ (11, bytes) ∷ (5, bitmap_bytes 15) ∷ [])

-- a long row of inode 1 with this number and checksum
abbrev pub long_row_bytes : ℕ → ℕ → List ℕ
long_row_bytes number sum = filled 32 (digits Little 4 1 ++ 255 ∷ 0 ∷ 0 ∷ 0 ∷ [] ++ digits Little 4 number ++ digits Little 4 sum)

-- the blocks with such a row, and the long name `abc` in block 20
abbrev pub with_long_row : ℕ → ℕ → BlockMap
with_long_row number sum = made_but ((10, dots_bytes 1 1 ++ long_row_bytes number sum) ∷ (20, 3 ∷ 0 ∷ 97 ∷ 98 ∷ 99 ∷ []) ∷ [])

-- where the tree begins if block 20 is the Longfile's first leaf
abbrev pub long_roots : Roots
long_roots = record { inodes = made_super.inode; longfile = one_pointer 512 20; further = made_super.bitmap ∷ [] }

-- with these rows in the top directory and in two others, which are inodes 2 and 3 in blocks 11 and 12
abbrev pub with_directories : List ℕ → List ℕ → List ℕ → BlockMap
with_directories top second third =
    made_but ((6, directory_bytes 10 ++ directory_bytes 11 ++ directory_bytes 12) ∷ (10, dots_bytes 1 1 ++ top) ∷ (11, dots_bytes 2 1 ++ second) ∷ (12, dots_bytes 3 1 ++ third) ∷ (5, bitmap_bytes 31) ∷ [])

-- with these rows in the top directory and in inode 2, which is a directory in block 11; inode 3 is a file of 6 levels, and inode 4 a link of size 0
abbrev pub with_faulty : List ℕ → List ℕ → BlockMap
with_faulty top second =
    made_but ((6, directory_bytes 10 ++ directory_bytes 11 ++ inode_bytes_with 0 0x81A4 6 3 [] ++ inode_bytes_with 0 0xA1FF 0 3 []) ∷ (10, dots_bytes 1 1 ++ top) ∷ (11, dots_bytes 2 1 ++ second) ∷ [])

-- a long row of inode n
abbrev pub long_row_of : ℕ → ℕ → ℕ → List ℕ
long_row_of n number sum = filled 32 (digits Little 4 n ++ 255 ∷ 0 ∷ 0 ∷ 0 ∷ [] ++ digits Little 4 number ++ digits Little 4 sum)

-- with long name 1, `abc`, in block 12, which a row of inode 3 in the top directory has; and with these rows in inode 2, a directory in block 11
abbrev pub with_long_name : List ℕ → BlockMap
with_long_name second =
    made_but ((6, directory_bytes 10 ++ directory_bytes 11 ++ inode_bytes_with 0 0x81A4 0 3 []) ∷ (10, dots_bytes 1 1 ++ row_bytes 2 (100 ∷ []) ++ long_row_of 3 1 0x400000AC)
    ∷ (11, dots_bytes 2 1 ++ second) ∷ (12, 3 ∷ 0 ∷ 97 ∷ 98 ∷ 99 ∷ []) ∷ (5, bitmap_bytes 31) ∷ [])

-- the superblock of such a volume
abbrev pub long_super : Superblock
long_super = record made_super {
  free_inodes = 13;
  free_blocks = 83;
  longfile = record { size = 1024; pointers = absent ∷ 12 ∷ replicate 14 absent; levels = 0 };
}

-- ---- 18 inodes: their last block has 256 bytes past the Inode tree's size. Halves of 6 blocks, and the top directory in block 12

-- the blocks, with these bytes in the second half's last inode block
abbrev pub eighteen_inodes : List ℕ → BlockMap
eighteen_inodes last = blocks_of 96 (λ b.
    if b == 6 then bitmap_bytes 31
    else if b == 7 then filled 512 (directory_bytes 12)
    else if b == 11 then filled 512 last
    else if b == 12 then filled 512 (dots_bytes 1 1)
    else replicate 512 0)

-- the superblock of the second area
abbrev pub eighteen_super : Superblock
eighteen_super = record made_super {
  num_inodes = 18;
  free_inodes = 17;
  free_blocks = 83;
  inode = record { size = 2304; pointers = 7 ∷ 8 ∷ 9 ∷ 10 ∷ 11 ∷ replicate 11 absent; levels = 0 };
  bitmap = one_pointer 12 6;
}

-- ---- 80 inodes: a pointer block leads to their 20 blocks. Halves of 22 blocks, and the top directory in block 44

-- a block of pointers to so many blocks from one on
abbrev pub pointers_from : ℕ → ℕ → List ℕ
pointers_from first count = flat_map (λ p. digits Little 4 p) (range_with_len first count) ++ replicate (512 - 4 * count) 255

-- the blocks, with these bytes in the first half's pointer block
abbrev pub eighty_inodes : List ℕ → BlockMap
eighty_inodes pointers = blocks_of 96 (λ b.
    if b == 21 then filled 512 pointers
    else if b == 22 then replicate 5 255 ++ 31 ∷ [] ++ replicate 6 0 ++ replicate 500 255
    else if b == 23 then filled 512 (directory_bytes 44)
    else if b == 43 then pointers_from 23 20
    else if b == 44 then filled 512 (dots_bytes 1 1)
    else replicate 512 0)

-- the superblock of the second area
abbrev pub eighty_super : Superblock
eighty_super = record made_super {
  num_inodes = 80;
  free_inodes = 79;
  free_blocks = 51;
  inode = record { size = 10240; pointers = 43 ∷ replicate 15 absent; levels = 1 };
  bitmap = one_pointer 12 22;
}
