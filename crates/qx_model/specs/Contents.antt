-- Operations on the bytes of a file and on attributes: Write, Fill, Truncate, Chmod, Chown and Utime, each in the order of its refusals.
use Rattle.std.specs.Prelude.{ℕ, zero, suc, ◌+◌, ◌*◌, ◌-◌, ◌/◌, ◌%◌, max, not, ◌&&◌, List, [], ◌∷◌, length, None, Result, Ok, nat_lt, ◌==◌, if◌then◌else◌}
use Rattle.std.specs.List.{range_with_len}
use Rattle.qx_bytes.specs.Ranges.{put_at}
use Rattle.qx_outside.specs.Trail.{resized}
use Rattle.qx_geom.specs.Lists.{is_in}
use Rattle.qx_geom.specs.Pointer.{ceil_div}
use Rattle.qx_geom.specs.Positions.{present_after}
use Rattle.qx_geom.specs.Room.{greatest_end}
use Rattle.qx_model.specs.declared.attr.Attr.{Attr}
use Rattle.qx_model.specs.declared.refusal.Refusal.{Refusal}
use Rattle.qx_model.specs.declared.refusal.Refusal.TheVariants.{FileTooBig}
use Rattle.qx_model.specs.Outcomes.{◌>>=◌, ◌>>◌, refuse_if}
use Rattle.qx_model.specs.Tree.{Entry, File, Tree}
use Rattle.qx_model.specs.Owners.{OfInode}
use Rattle.qx_model.specs.Paths.{Followed, inode_at}
use Rattle.qx_model.specs.Answering.{FileAt, file_at}
use Rattle.qx_model.specs.Edits.{Edit, Setting, altering, content_changed, kind_unit, unchanged, with_attr, writing}
use Rattle.qx_model.specs.Effects.{Edits, Effect, done}

-- ---- bytes

-- a file with other bytes, some of its leaves written
abbrev pub with_content : ℕ → ℕ → List ℕ → List ℕ → Entry → Entry
with_content blocksize size content leaves e = record e {
  size = size;
  present = present_after e.present (ceil_div size blocksize) leaves None;
  body = File content;
}

-- a file gets other bytes, and its times
abbrev pub rewriting : Setting → Tree → FileAt → ℕ → List ℕ → List ℕ → Edit
rewriting s t f size content leaves =
    with_attr f.inode (content_changed s.moment)
    (writing (OfInode f.inode) leaves (altering f.inode (with_content s.blocksize size content leaves) (unchanged t)))

-- the leaves that have one of `count` bytes from a place on
abbrev pub leaves_of_range : ℕ → ℕ → ℕ → List ℕ
leaves_of_range blocksize at zero = []
leaves_of_range blocksize at (suc last) = let first = at / blocksize in range_with_len first ((at + last) / blocksize + 1 - first)

-- the file with bytes put at a place; with no bytes the times alone are set
abbrev pub written_at : Setting → Tree → FileAt → ℕ → List ℕ → Edit
written_at s t f at [] = with_attr f.inode (content_changed s.moment) (unchanged t)
written_at s t f at (b ∷ bytes) =
    let count = length (b ∷ bytes) in
    let size = max f.entry.size (at + count) in
    rewriting s t f size (put_at (resized f.content size) at (b ∷ bytes)) (leaves_of_range s.blocksize at count)

-- Write; Fill writes one byte again and again
abbrev pub write : Setting → Tree → List ℕ → ℕ → List ℕ → Result Effect Refusal
write s t path at bytes = do
  f ← file_at s t path
  refuse_if (nat_lt greatest_end (at + length bytes)) FileTooBig
  Ok (done (written_at s t f at bytes))

-- ---- sizes

-- the leaf in which a file is cut, where it is present: its bytes past the end become 0
abbrev pub cut_leaves : ℕ → Entry → ℕ → List ℕ
cut_leaves blocksize e size =
    if nat_lt size e.size && (not (size % blocksize == 0) && is_in e.present (size / blocksize)) then size / blocksize ∷ [] else []

-- Truncate: what is cut is freed, what grows is a hole
abbrev pub truncate : Setting → Tree → List ℕ → ℕ → Result Effect Refusal
truncate s t path size = do
  f ← file_at s t path
  refuse_if (nat_lt greatest_end size) FileTooBig
  Ok (Edits (nat_lt size f.entry.size) (rewriting s t f size (resized f.content size) (cut_leaves s.blocksize f.entry size)))

-- ---- attributes

-- other permission bits: the low 12 of the mode
abbrev pub with_mode : ℕ → ℕ → Attr → Attr
with_mode moment mode a = record a { mode = a.mode / kind_unit * kind_unit + mode % kind_unit; ctime = moment }

-- another owner
abbrev pub with_owner : ℕ → ℕ → ℕ → Attr → Attr
with_owner moment uid gid a = record a { uid = uid; gid = gid; ctime = moment }

-- other times
abbrev pub with_times : ℕ → ℕ → ℕ → Attr → Attr
with_times moment atime mtime a = record a { atime = atime; mtime = mtime; ctime = moment }

-- Chmod, Chown, Utime: of the inode to which a path leads; no leaf is written
abbrev pub change_attr : Setting → Tree → List ℕ → (Attr → Attr) → Result Effect Refusal
change_attr s t path change = do
  n ← inode_at t s.base Followed path
  Ok (done (with_attr n change (unchanged t)))
