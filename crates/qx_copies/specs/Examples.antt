-- The copy of the small volume on which `qx_view` computes its definitions.
use Rattle.std.specs.Prelude.{List, ◌∷◌, replicate, Option, Some, None}
use Rattle.qx_geom.specs.Pointer.{absent}
use Rattle.qx_records.specs.declared.inode.Inode.{Inode}
use Rattle.qx_view.specs.Examples.{one_pointer}
use Rattle.qx_copies.specs.Copies.{BlockCopy}

-- the top directory, with its rows in block 10
abbrev pub top_inode : Inode
top_inode = record {
  root = one_pointer 512 10;
  uid = 0;
  gid = 0;
  ftime = 1000;
  mtime = 1000;
  atime = 1000;
  ctime = 1000;
  mode = 0x41ED;
  ext_mode = 0;
  status = 1;
}

-- a copy with these inodes and a Longfile of nothing
abbrev pub copy_with : List (Option Inode) → BlockCopy
copy_with inodes = record { inodes = inodes; longfile = one_pointer 0 absent }

-- what the maker leaves: the top directory alone, of 16 inodes
abbrev pub made_copy : BlockCopy
made_copy = copy_with (Some top_inode ∷ replicate 15 None)
