-- Changes of a tree, each with the leaves into which it writes.
use Rattle.std.specs.Prelude.{◌≡◌, true, ℕ, ◌+◌, ◌*◌, ◌-◌, ◌/◌, not, ◌&&◌, max, List, [], ◌∷◌, ◌++◌, length, map, replicate, position, option_map, Option, Some, None, ok_or, is_none, unwrap_or, Result, nat_lt, ◌==◌, if◌then◌else◌, slice_set, filter}
use Rattle.std.specs.List.{range_with_len, position_or_len}
use Rattle.qx_geom.specs.Lists.{is_in}
use Rattle.qx_geom.specs.Pointer.{ceil_div}
use Rattle.qx_geom.specs.Positions.{present_after, with_number}
use Rattle.qx_model.specs.declared.attr.Attr.{Attr}
use Rattle.qx_model.specs.declared.refusal.Refusal.{Refusal}
use Rattle.qx_model.specs.declared.refusal.Refusal.TheVariants.{NoInodes}
use Rattle.qx_model.specs.Tree.{Directory, Entry, Link, Row, Slot, Tree, Unused, dots_name, entry_of, links_of, longest_short_name, record_size, slots_of}
use Rattle.qx_model.specs.Directories.{has_name, is_directory, is_live, is_unused, long_of_slot, parent_of, slot_at, with_entry}
use Rattle.qx_model.specs.Owners.{OfInode, OfLongfile, Owner}

-- leaf `index` of an owner's node
pub record Leaf : Type 0 where
  pub owner : Owner
  pub index : ℕ

-- a tree on the way, and the leaves written so far
pub record Edit : Type 0 where
  pub tree : Tree
  pub written : List Leaf

-- what an operation is done under: the block size, the session's directory and the moment
pub record Setting : Type 0 where
  pub blocksize : ℕ
  pub base : Option ℕ
  pub moment : ℕ

-- the session stands in an inode that is live, if anywhere
abbrev pub StandsLive : Setting → Tree → Type 0
StandsLive s t = (d : ℕ) → s.base ≡ Some d → is_live t d ≡ true

-- the tree as it is, with nothing written
abbrev pub unchanged : Tree → Edit
unchanged t = record { tree = t; written = [] }

-- with these leaves of an owner written
abbrev pub writing : Owner → List ℕ → Edit → Edit
writing owner leaves e = record e { written = e.written ++ map (λ i. record { owner = owner; index = i }) leaves }

-- with this at inode n, or nothing
abbrev pub putting : ℕ → Option Entry → Edit → Edit
putting n entry e = record e { tree = with_entry e.tree n entry }

-- with inode n changed, if it is live
abbrev pub altering : ℕ → (Entry → Entry) → Edit → Edit
altering n change e = putting n (option_map change (entry_of e.tree n)) e

-- ---- times

-- ctime at the moment
abbrev pub attr_changed : ℕ → Attr → Attr
attr_changed moment a = record a { ctime = moment }

-- mtime and ctime at the moment
abbrev pub content_changed : ℕ → Attr → Attr
content_changed moment a = record a { mtime = moment; ctime = moment }

-- inode n with other attributes
abbrev pub with_attr : ℕ → (Attr → Attr) → Edit → Edit
with_attr n change e = altering n (λ x. record x { attr = change x.attr }) e

-- ---- new inodes

-- a mode is its kind times this, and its 12 permission bits
abbrev pub kind_unit : ℕ
kind_unit = 4096

-- the mode of a new directory: 0755, with its kind
abbrev pub directory_mode : ℕ
directory_mode = 0x41ED

-- the mode of a new file: 0644, with its kind
abbrev pub file_mode : ℕ
file_mode = 0x81A4

-- the mode of a new link: 0777, with its kind
abbrev pub link_mode : ℕ
link_mode = 0xA1FF

-- the attributes of a new inode: owned by 0, all times at the moment
abbrev pub new_attr : ℕ → ℕ → Attr
new_attr mode moment = record { mode = mode; uid = 0; gid = 0; ftime = moment; mtime = moment; atime = moment; ctime = moment }

-- a new link: each leaf of its target is present
abbrev pub new_link : ℕ → ℕ → List ℕ → Entry
new_link blocksize moment target = record {
  attr = new_attr link_mode moment;
  size = length target;
  present = range_with_len 0 (ceil_div (length target) blocksize);
  body = Link target;
}

-- the least inode number that isn't live, if there is one
abbrev pub new_inode : Tree → Result ℕ Refusal
new_inode t = ok_or (option_map (λ k. k + 1) (position (λ e. is_none e) t.inodes)) NoInodes

-- ---- long names

-- the least number whose leaf is absent
abbrev pub absent_number : Tree → ℕ
absent_number t = let below = range_with_len 0 (length t.long_present) in position_or_len (λ k. not (is_in t.long_present k)) below

-- the number that a name gets, where it is long
abbrev pub number_for : Tree → List ℕ → Option ℕ
number_for t name = if nat_lt longest_short_name (length name) then Some (absent_number t) else None

-- the list with x at place k, or at its end
abbrev pub with_place : {A : Type 0} → List A → ℕ → A → List A
with_place xs k x = if nat_lt k (length xs) then slice_set xs k x else xs ++ x ∷ []

-- with this name at its number, where it has one; the Longfile's size never falls
abbrev pub with_long : ℕ → Option ℕ → List ℕ → Edit → Edit
with_long blocksize None name e = e
with_long blocksize (Some k) name e = writing OfLongfile (k ∷ []) (record e {
  tree = record e.tree {
    long_names = with_place e.tree.long_names k (Some name);
    long_present = with_number e.tree.long_present k;
    long_size = max e.tree.long_size ((k + 1) * blocksize);
  };
})

-- with this number absent
abbrev pub without_long : Option ℕ → Edit → Edit
without_long None e = e
without_long (Some k) e = record e {
  tree = record e.tree {
    long_names = slice_set e.tree.long_names k None;
    long_present = filter (λ j. not (j == k)) e.tree.long_present;
  };
}

-- ---- rows

-- the leaf that holds record k
abbrev pub leaf_of_record : ℕ → ℕ → ℕ
leaf_of_record blocksize k = k * record_size / blocksize

-- a directory with other slots, and with this leaf among the present ones
abbrev pub with_slots : ℕ → List Slot → ℕ → ℕ → Entry → Entry
with_slots blocksize slots parent leaf e = record e {
  size = record_size * length slots;
  present = present_after e.present (ceil_div (record_size * length slots) blocksize) (leaf ∷ []) None;
  body = Directory slots parent;
}

-- directory d with other slots, of which record k is written
abbrev pub writing_record : ℕ → ℕ → ℕ → List Slot → Edit → Edit
writing_record blocksize d k slots e =
    let leaf = leaf_of_record blocksize k in
    writing (OfInode d) (leaf ∷ []) (altering d (with_slots blocksize slots (unwrap_or (parent_of e.tree d) d) leaf) e)

-- the slots with a row in the first unused record, or in a new leaf
abbrev pub slots_with : ℕ → List Slot → Slot → List Slot
slots_with blocksize slots row =
    let k = position_or_len is_unused slots in
    if nat_lt k (length slots) then slice_set slots k row else slots ++ row ∷ replicate (blocksize / record_size - 1) Unused

-- directory d with a new row that names n
abbrev pub add_row : Setting → ℕ → ℕ → List ℕ → Edit → Edit
add_row s d n name e =
    let long = number_for e.tree name in
    let slots = slots_of e.tree d in
    with_attr d (content_changed s.moment)
    (writing_record s.blocksize d (position_or_len is_unused slots) (slots_with s.blocksize slots (Row n name long)) (with_long s.blocksize long name e))

-- directory d with record k unused, and its long name gone
abbrev pub clear_row : Setting → ℕ → ℕ → Edit → Edit
clear_row s d k e =
    with_attr d (content_changed s.moment)
    (writing_record s.blocksize d k (slice_set (slots_of e.tree d) k Unused) (without_long (long_of_slot (slot_at e.tree d k)) e))

-- a row that names n in place of another inode, by the same name
abbrev pub pointed : ℕ → Slot → Slot
pointed n Unused = Unused
pointed n (Row old name long) = Row n name long

-- directory d with record k naming n
abbrev pub point_row : Setting → ℕ → ℕ → ℕ → Edit → Edit
point_row s d k n e =
    with_attr d (content_changed s.moment) (writing_record s.blocksize d k (slice_set (slots_of e.tree d) k (pointed n (slot_at e.tree d k))) e)

-- inode n after one of its rows went: it goes with the last one
abbrev pub lose_row : Setting → ℕ → Edit → Edit
lose_row s n e = if links_of e.tree n == 0 then putting n None e else with_attr n (attr_changed s.moment) e

-- directory n with another parent, which its row `..` names
abbrev pub with_parent : Setting → ℕ → ℕ → Edit → Edit
with_parent s n parent e =
    let slots = slots_of e.tree n in
    let k = position_or_len (has_name dots_name) slots in
    let leaf = leaf_of_record s.blocksize k in
    writing (OfInode n) (leaf ∷ []) (altering n (with_slots s.blocksize (slice_set slots k (pointed parent (slot_at e.tree n k))) parent leaf) e)

-- a directory that goes from one to another gets another parent
abbrev pub move_parent : Setting → ℕ → ℕ → ℕ → Edit → Edit
move_parent s n from to e = if is_directory e.tree n && not (from == to) then with_parent s n to e else e
