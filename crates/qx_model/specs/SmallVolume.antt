-- A small volume that was just made, and operations on its tree: 96 blocks of 512 bytes, 16 inodes.
use Rattle.std.specs.Prelude.{ℕ, zero, suc, ◌+◌, false, List, [], ◌∷◌, replicate, Some, None, Result, Ok, Err}
use Rattle.qx_model.specs.declared.attr.Attr.{Attr}
use Rattle.qx_model.specs.declared.operation.Op.{Op}
use Rattle.qx_model.specs.declared.operation.Op.TheVariants as op
use Rattle.qx_model.specs.declared.reply.Reply.{Reply}
use Rattle.qx_model.specs.declared.reply.StatView.{StatView}
use Rattle.qx_model.specs.declared.reply.Reply.TheVariants as reply
use Rattle.qx_model.specs.declared.refusal.Refusal.{Refusal}
use Rattle.qx_model.specs.Tree.{Tree}
use Rattle.qx_model.specs.EmptyTree.{empty_tree}
use Rattle.qx_model.specs.Owners.{Owner}
use Rattle.qx_model.specs.Edits.{Edit, Leaf, unchanged}
use Rattle.qx_model.specs.Effects.{Answers, Edits, Effect, effect_reply}
use Rattle.qx_model.specs.Operate.{operate}
use Rattle.qx_model.specs.TreePositions.{Position}
use Rattle.qx_model.specs.Machine.{Machine, Volume, start_of}
use Rattle.qx_model.specs.Space.{with_edit}

-- ---- operations one after another

-- an operation at a moment
pub record OpAt : Type 0 where
  pub moment : ℕ
  pub op : Op

-- what it comes to for a session at the root
abbrev pub result_of : Tree → OpAt → Result Effect Refusal
result_of t o = operate (record { blocksize = 512; base = Some 1; moment = o.moment }) t o.op

-- the reply
abbrev pub reply_of : Result Effect Refusal → Reply
reply_of (Ok effect) = effect_reply effect
reply_of (Err refusal) = reply.Refused refusal

-- its edit, which leaves the tree where it makes none
abbrev pub edit_of : Tree → Result Effect Refusal → Edit
edit_of t (Ok (Answers r)) = unchanged t
edit_of t (Ok (Edits is_removing e)) = e
edit_of t (Err refusal) = unchanged t

-- the edit of an operation
abbrev pub edit_by : Tree → OpAt → Edit
edit_by t o = edit_of t (result_of t o)

-- the replies to operations, each on the tree that the one before it left
abbrev pub replies_of : Tree → List OpAt → List Reply
replies_of t [] = []
replies_of t (o ∷ os) = let result = result_of t o in reply_of result ∷ replies_of (edit_of t result).tree os

-- the tree after operations
abbrev pub tree_after : Tree → List OpAt → Tree
tree_after t [] = t
tree_after t (o ∷ os) = tree_after (edit_by t o).tree os

-- the leaves into which an operation writes, after others
abbrev pub written_after : Tree → List OpAt → OpAt → List Leaf
written_after t os o = (edit_by (tree_after t os) o).written

-- ---- what is asked and answered

-- the tree of such a volume with so many inodes, made at moment 1000
abbrev pub made_with : ℕ → Tree
made_with num_inodes = empty_tree 512 num_inodes 1000

-- that of the small volume
abbrev pub made : Tree
made = made_with 16

-- an operation at moment 1000
abbrev pub at_first : Op → OpAt
at_first o = record { moment = 1000; op = o }

-- an operation at a moment
abbrev pub at_moment : ℕ → Op → OpAt
at_moment moment o = record { moment = moment; op = o }

-- so many links, each to the one before it; the first leads to this letter, and has the next one as its name
abbrev pub links_in_turn : ℕ → ℕ → List OpAt
links_in_turn zero letter = []
links_in_turn (suc more) letter = at_first (op.Symlink (letter ∷ []) ((letter + 1) ∷ [])) ∷ links_in_turn more (letter + 1)

-- leaf `index` of an owner's node
abbrev pub leaf : Owner → ℕ → Leaf
leaf owner index = record { owner = owner; index = index }

-- so many letters `n`
abbrev pub letters : ℕ → List ℕ
letters n = replicate n 110

-- refused
abbrev pub refusing : Refusal → Reply
refusing r = reply.Refused r

-- the attributes of a new file, with these times
abbrev pub file_attr : ℕ → ℕ → ℕ → ℕ → Attr
file_attr ftime mtime atime ctime = record { mode = 0x81A4; uid = 0; gid = 0; ftime = ftime; mtime = mtime; atime = atime; ctime = ctime }

-- what is said of a file that was made at moment 1000: its inode, its size and its links
abbrev pub file_view : ℕ → ℕ → ℕ → StatView
file_view n size links = record { kind = 2; inode = n; size = size; links = links; attr = file_attr 1000 1000 1000 1000 }

-- what is said of a directory with one leaf: its inode and its links; its attributes are these, but for the mode, which is 0755
abbrev pub directory_view : ℕ → ℕ → Attr → StatView
directory_view n links attr = record { kind = 1; inode = n; size = 512; links = links; attr = record attr { mode = 0x41ED } }

-- ---- the volume

-- its numbers
abbrev pub small_volume : Volume
small_volume = record { blocksize = 512; blocks = 96; user = 86; system_leaves = 5; inodes = 16; is_read_only = false; free_without_ids = None }

-- mounted with this serial at a moment
abbrev pub mounted : ℕ → ℕ → Machine
mounted serial moment = start_of small_volume made serial moment

-- the maker's serial is 2
abbrev pub small : ℕ → Machine
small moment = mounted 2 moment

-- after an operation, whatever room there is
abbrev pub edited : Machine → OpAt → Machine
edited s o = with_edit (edit_by s.working.tree o) s

-- a position by owner, level and index
abbrev pub position_at : Owner → ℕ → ℕ → Position
position_at owner level index = record { owner = owner; level = level; index = index }
