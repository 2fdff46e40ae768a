-- A small volume with an entry of each kind, whose attributes all differ, byte by byte as the format's tables have them.
use Rattle.std.specs.Prelude.{ℕ, ◌+◌, List, [], ◌∷◌, ◌++◌, length, replicate, ◌==◌, if◌then◌else◌, None, Some}
use Rattle.qx_geom.specs.Pointer.{absent}
use Rattle.qx_model.specs.Tree.{Directory, Entry, File, Link, Row, Special, Tree, Unused}
use Rattle.qx_model.specs.declared.attr.Attr.{Attr}
use Rattle.qx_nodes.specs.BlockMap.{BlockMap}
use Rattle.qx_view.specs.Examples.{blocks_of, filled, one_pointer}
use Rattle.qx_view.specs.Images.{Roots}

-- ---- the bytes, in little order

-- a number below 256 in four bytes
abbrev pub four : ℕ → List ℕ
four x = x ∷ 0 ∷ 0 ∷ 0 ∷ []

-- an inode: two bytes of its size; owner, group and the four times, which are `first` and the numbers behind it; two bytes of its mode; one pointer; and its status
abbrev pub kind_inode : List ℕ → ℕ → List ℕ → List ℕ → ℕ → List ℕ
kind_inode size first mode pointer status =
    size ++ replicate 6 0
    ++ four first ++ four (first + 1) ++ four (first + 2) ++ four (first + 3) ++ four (first + 4) ++ four (first + 5)
    ++ mode ++ 0 ∷ 0 ∷ [] ++ pointer ++ replicate 60 255 ++ 0 ∷ status ∷ [] ++ replicate 26 0

-- a row: its inode, the length of its name, and the name
abbrev pub kind_row : ℕ → List ℕ → List ℕ
kind_row n name = filled 32 (four n ++ length name ∷ name)

-- block b: inodes 1 to 4 and 5, the top directory, one below it, a file of `abc`, a link to `f`, and long name 0, `abc`
abbrev pub kinds_block : ℕ → List ℕ
kinds_block b =
    if b == 2 then kind_inode (0 ∷ 2 ∷ []) 11 (237 ∷ 65 ∷ []) (four 4) 1 ++ kind_inode (0 ∷ 2 ∷ []) 21 (237 ∷ 65 ∷ []) (four 5) 1
    ++ kind_inode (3 ∷ 0 ∷ []) 31 (164 ∷ 129 ∷ []) (four 6) 3 ++ kind_inode (1 ∷ 0 ∷ []) 41 (255 ∷ 161 ∷ []) (four 7) 3
    else if b == 3 then filled 512 (kind_inode (0 ∷ 0 ∷ []) 51 (182 ∷ 33 ∷ []) (replicate 4 255) 3)
    else if b == 4 then filled 512 (kind_row 1 (46 ∷ []) ++ kind_row 1 (46 ∷ 46 ∷ []) ++ kind_row 2 (100 ∷ []) ++ replicate 32 0 ++ kind_row 3 (102 ∷ []) ++ kind_row 4 (108 ∷ []) ++ kind_row 5 (99 ∷ [])
    ++ filled 32 (four 3 ++ 255 ∷ 0 ∷ 0 ∷ 0 ∷ [] ++ four 0 ++ 0xAC ∷ 0 ∷ 0 ∷ 0x40 ∷ []))
    else if b == 5 then filled 512 (kind_row 2 (46 ∷ []) ++ kind_row 1 (46 ∷ 46 ∷ []) ++ kind_row 3 (103 ∷ []))
    else if b == 6 then filled 512 (97 ∷ 98 ∷ 99 ∷ [])
    else if b == 7 then filled 512 (102 ∷ [])
    else if b == 8 then filled 512 (3 ∷ 0 ∷ 97 ∷ 98 ∷ 99 ∷ [])
    else replicate 512 0

-- all blocks
abbrev pub kinds_blocks : BlockMap
kinds_blocks = blocks_of 16 kinds_block

-- where the tree begins: five inodes in blocks 2 and 3, and the Longfile in block 8
abbrev pub kinds_roots : Roots
kinds_roots = record {
  inodes = record { size = 640; pointers = 2 ∷ 3 ∷ replicate 14 absent; levels = 0 };
  longfile = one_pointer 512 8;
  further = [];
}

-- ---- the tree

-- the attributes of an inode with this mode, whose other numbers begin with `first`
abbrev pub kind_attr : ℕ → ℕ → Attr
kind_attr mode first = record { mode = mode; uid = first; gid = first + 1; ftime = first + 2; mtime = first + 3; atime = first + 4; ctime = first + 5 }

-- the top directory has `.`, `..`, `d`, an unused record, `f`, `l`, `c`, and a long name of inode 3
abbrev pub kinds_top : Entry
kinds_top = record {
  attr = kind_attr 0x41ED 11;
  size = 512;
  present = 0 ∷ [];
  body = Directory (Row 1 (46 ∷ []) None ∷ Row 1 (46 ∷ 46 ∷ []) None ∷ Row 2 (100 ∷ []) None ∷ Unused ∷ Row 3 (102 ∷ []) None ∷ Row 4 (108 ∷ []) None ∷ Row 5 (99 ∷ []) None
      ∷ Row 3 (97 ∷ 98 ∷ 99 ∷ []) (Some 0) ∷ replicate 8 Unused) 1;
}

-- `d` has `.`, `..` and `g`
abbrev pub kinds_below : Entry
kinds_below = record {
  attr = kind_attr 0x41ED 21;
  size = 512;
  present = 0 ∷ [];
  body = Directory (Row 2 (46 ∷ []) None ∷ Row 1 (46 ∷ 46 ∷ []) None ∷ Row 3 (103 ∷ []) None ∷ replicate 13 Unused) 1;
}

-- a directory, one below it, a file with three names, a link and a special
abbrev pub kinds_tree : Tree
kinds_tree = record {
  inodes = Some kinds_top
      ∷ Some kinds_below
      ∷ Some (record { attr = kind_attr 0x81A4 31; size = 3; present = 0 ∷ []; body = File (97 ∷ 98 ∷ 99 ∷ []) })
      ∷ Some (record { attr = kind_attr 0xA1FF 41; size = 1; present = 0 ∷ []; body = Link (102 ∷ []) })
      ∷ Some (record { attr = kind_attr 0x21B6 51; size = 0; present = []; body = Special })
      ∷ [];
  long_size = 512;
  long_names = Some (97 ∷ 98 ∷ 99 ∷ []) ∷ [];
  long_present = 0 ∷ [];
}
