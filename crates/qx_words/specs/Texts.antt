-- The text of each turn.
use Rattle.std.specs.Prelude.{ℕ, ◌+◌, ◌/◌, ◌%◌, Bool, true, false, not, ◌&&◌, List, [], ◌∷◌, ◌++◌, length, flat_map, nat_lt, nat_le, ◌==◌, if◌then◌else◌, codes, decimal}
use Rattle.qx_model.specs.declared.rows.Row.{Row}
use Rattle.qx_model.specs.declared.attr.Attr.{Attr}
use Rattle.qx_model.specs.declared.reply.StatView.{StatView}
use Rattle.qx_model.specs.declared.reply.SpaceView.{SpaceView}
use Rattle.qx_model.specs.declared.reply.Reply.{Reply}
use Rattle.qx_model.specs.declared.reply.Reply.TheVariants as reply
use Rattle.qx_model.specs.declared.refusal.Refusal.{Refusal}
use Rattle.qx_model.specs.declared.refusal.Refusal.TheVariants as refusal
use Rattle.qx_model.specs.declared.notices.Notice.{Notice}
use Rattle.qx_model.specs.declared.notices.Notice.TheVariants as notice
use Rattle.qx_model.specs.declared.turn.Turn.{Turn}
use Rattle.qx_model.specs.Refusals.{refusal_number}

-- ---- pieces

-- a hexadecimal digit in lower case
abbrev pub hex_text : ℕ → ℕ
hex_text d = if nat_lt d 10 then 48 + d else 87 + d

-- a byte as a byte word has it: 0x21 to 0x7E but `\` as themselves, any other as `\` with two digits
abbrev pub byte_text : ℕ → List ℕ
byte_text b = if nat_le 0x21 b && (nat_le b 0x7E && not (b == 92)) then b ∷ [] else 92 ∷ hex_text (b / 16) ∷ hex_text (b % 16) ∷ []

-- bytes as a byte word
unfoldable pub word_text : List ℕ → List ℕ
word_text bytes = flat_map byte_text bytes

-- the low 12 bits of a mode in four octal digits
unfoldable pub mode_text : ℕ → List ℕ
mode_text m = (48 + m / 512 % 8) ∷ (48 + m / 64 % 8) ∷ (48 + m / 8 % 8) ∷ (48 + m % 8) ∷ []

-- the word for a kind, by its number
abbrev pub kind_text : ℕ → List ℕ
kind_text kind = if kind == 1 then codes "dir" else if kind == 2 then codes "file" else if kind == 3 then codes "link" else codes "special"

-- ---- replies

-- the times of an inode
unfoldable pub times_text : Attr → List ℕ
times_text a = codes " ftime " ++ decimal a.ftime ++ codes " mtime " ++ decimal a.mtime ++ codes " atime " ++ decimal a.atime ++ codes " ctime " ++ decimal a.ctime

-- the line of a Stat
unfoldable pub stat_text : StatView → List ℕ
stat_text v =
    codes "ok " ++ kind_text v.kind ++ codes " inode " ++ decimal v.inode ++ codes " size " ++ decimal v.size ++ codes " mode " ++ mode_text v.attr.mode
    ++ codes " uid " ++ decimal v.attr.uid ++ codes " gid " ++ decimal v.attr.gid ++ codes " links " ++ decimal v.links ++ times_text v.attr ++ codes "\n"

-- the line of a Df
unfoldable pub space_text : SpaceView → List ℕ
space_text v =
    codes "ok blocks " ++ decimal v.blocks ++ codes " user " ++ decimal v.user ++ codes " free " ++ decimal v.free
    ++ codes " inodes " ++ decimal v.inodes ++ codes " free " ++ decimal v.free_inodes ++ codes " serial " ++ decimal v.serial ++ codes "\n"

-- the line of a row
unfoldable pub row_text : Row → List ℕ
row_text row = decimal row.inode ++ codes " " ++ word_text row.name ++ codes "\n"

-- the name of a refusal
abbrev pub refusal_name : Refusal → List ℕ
refusal_name refusal.NoEntry = codes "NoEntry"
refusal_name refusal.NotDir = codes "NotDir"
refusal_name refusal.IsDir = codes "IsDir"
refusal_name refusal.Exists = codes "Exists"
refusal_name refusal.NotEmpty = codes "NotEmpty"
refusal_name refusal.NameTooLong = codes "NameTooLong"
refusal_name refusal.BadPath = codes "BadPath"
refusal_name refusal.LinkLoop = codes "LinkLoop"
refusal_name refusal.WrongKind = codes "WrongKind"
refusal_name refusal.FileTooBig = codes "FileTooBig"
refusal_name (refusal.NoSpace need free) = codes "NoSpace"
refusal_name refusal.NoInodes = codes "NoInodes"
refusal_name refusal.ReadOnly = codes "ReadOnly"
refusal_name refusal.IntoItself = codes "IntoItself"
refusal_name refusal.Reserved = codes "Reserved"
refusal_name refusal.Device = codes "Device"
refusal_name refusal.NoMemory = codes "NoMemory"
refusal_name (refusal.Held count) = codes "Held"
refusal_name refusal.SerialEnd = codes "SerialEnd"
refusal_name refusal.NoSession = codes "NoSession"
refusal_name (refusal.BadLine at) = codes "BadLine"

-- the numbers that a refusal carries
abbrev pub refusal_details : Refusal → List ℕ
refusal_details (refusal.NoSpace need free) = codes " need " ++ decimal need ++ codes " free " ++ decimal free
refusal_details (refusal.Held count) = codes " " ++ decimal count
refusal_details (refusal.BadLine at) = codes " " ++ decimal at
refusal_details _ = []

-- the line of a refusal
unfoldable pub refusal_text : Refusal → List ℕ
refusal_text r = codes "error " ++ decimal (refusal_number r) ++ codes " " ++ refusal_name r ++ refusal_details r ++ codes "\n"

-- the lines of a reply
abbrev pub reply_text : Reply → List ℕ
reply_text reply.Done = codes "ok\n"
reply_text (reply.Rows rows) = codes "ok " ++ decimal (length rows) ++ codes "\n" ++ flat_map row_text rows
reply_text (reply.Stat v) = stat_text v
reply_text (reply.Bytes bytes) = codes "ok " ++ decimal (length bytes) ++ codes "\n" ++ word_text bytes ++ codes "\n"
reply_text (reply.Target target) = codes "ok " ++ word_text target ++ codes "\n"
reply_text (reply.Space v) = space_text v
reply_text (reply.Refused r) = refusal_text r

-- ---- turns

-- the line of a notice
unfoldable pub notice_text : Notice → List ℕ
notice_text (notice.Snapshot serial) = codes "snapshot " ++ decimal serial ++ codes "\n"
notice_text notice.Device = codes "notice device\n"
notice_text notice.Memory = codes "notice memory\n"

-- the text of a turn: its reply, then its notices
unfoldable pub turn_text : Turn → List ℕ
turn_text t = reply_text t.reply ++ flat_map notice_text t.notices

-- at the end of the input a reply is said only where it refuses
abbrev pub last_reply_text : Reply → List ℕ
last_reply_text (reply.Refused r) = refusal_text r
last_reply_text _ = []

-- the text of the turn that is made there
unfoldable pub last_text : Turn → List ℕ
last_text t = last_reply_text t.reply ++ flat_map notice_text t.notices

-- the text of a reply has a bound: it is no list, no bytes and no target
abbrev pub is_short : Reply → Bool
is_short (reply.Rows rows) = false
is_short (reply.Bytes bytes) = false
is_short (reply.Target target) = false
is_short _ = true
