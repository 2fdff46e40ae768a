-- What 128 bytes say as an inode.
use Rattle.std.specs.Prelude.{ℕ, ◌/◌, List, Option, Some, None, ◌==◌, ◌||◌, slice_index, if◌then◌else◌}
use Rattle.qx_fields.specs.declared.order.Order.{Order}
use Rattle.qx_fields.specs.Number.{field, fields}
use Rattle.qx_records.specs.declared.inode.Inode.{Inode}
use Rattle.qx_records.specs.declared.kind.Kind.{Kind}
use Rattle.qx_records.specs.declared.kind.Kind.TheVariants.{Directory, File, Link, Special}

-- the inode that 128 bytes are
unfoldable pub inode_in : Order → List ℕ → Inode
inode_in order bytes = record {
  root = record { size = field order 8 bytes 0; pointers = fields order 4 16 bytes 36; levels = slice_index bytes 100 };
  uid = field order 4 bytes 8;
  gid = field order 4 bytes 12;
  ftime = field order 4 bytes 16;
  mtime = field order 4 bytes 20;
  atime = field order 4 bytes 24;
  ctime = field order 4 bytes 28;
  mode = field order 2 bytes 32;
  ext_mode = field order 2 bytes 34;
  status = slice_index bytes 101;
}

-- the kind that the top four bits of a mode say, if they say one
abbrev pub kind_of_top : ℕ → Option Kind
kind_of_top top =
    if top == 0x4 then Some Directory
    else if top == 0x8 then Some File
    else if top == 0xA then Some Link
    else if (top == 0x1) || ((top == 0x2) || ((top == 0x6) || (top == 0xC))) then Some Special
    else None

-- and a mode
unfoldable pub kind_of : ℕ → Option Kind
kind_of mode = kind_of_top (mode / 4096)
