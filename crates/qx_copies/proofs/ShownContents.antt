-- Contents that are the same show the same.
use Rattle.std.proofs.Common.{◌≡◌, ℕ, ◌*◌, ◌<◌, List, refl, sym, ◌∙◌, ap, subst}
use Rattle.std.specs.Prelude.{Bool, true, false, nat_lt, Option, Some, None, if◌then◌else◌}
use Rattle.std.proofs.Math.Nat.{mul-div_cancel}
use Rattle.std.proofs.lemmas.Bool.{ltb-true}
use Rattle.qx_fields.specs.declared.order.Order.{Order}
use Rattle.qx_geom.specs.Lists.{each_below, is_in}
use Rattle.qx_geom.specs.Pointer.{ceil_div}
use Rattle.qx_geom.proofs.LevelCounts.{part_below}
use Rattle.qx_nodes.specs.LongNames.{name_in}
use Rattle.qx_nodes.specs.NodeContents.{IsSameContent, NodeContent}
use Rattle.qx_records.specs.declared.inode.Inode.{Inode}
use Rattle.qx_records.specs.NameRecord.{long_name_in}
use Rattle.qx_model.specs.Tree.{Entry, Tree, entry_of}
use Rattle.qx_view.specs.Entries.{Reader}
use Rattle.qx_view.proofs.EntryContents.{entry_alike}
use Rattle.qx_copies.specs.Copies.{Contents, inode_at}
use Rattle.qx_copies.specs.Shown.{IsSameInode, Shows, reader_by}

-- a content is the same as itself
pub same_itself : (blocksize : ℕ) (a : NodeContent) → IsSameContent blocksize a a
same_itself blocksize a = record { size = refl; present = refl; leaves = λ i low. refl }

-- a long name depends on what the Longfile holds
name_alike : (order : Order) (size : ℕ) (a b : NodeContent) (n : ℕ) → 0 < size → IsSameContent size a b → name_in order size b n ≡ name_in order size a n
name_alike order size a b n pos s =
    (λ i. if nat_lt (n * size) (s.size i) then (if is_in (s.present i) n then long_name_in order (b.leaves n) else None) else None)
    ∙ below (nat_lt (n * size) a.size) refl
  where
    leaf_low : nat_lt (n * size) a.size ≡ true → n < ceil_div a.size size
    leaf_low e = subst (λ k. k < ceil_div a.size size) (mul-div_cancel n pos) (part_below (n * size) a.size size pos (ltb-true (n * size) a.size e))

    below : (t : Bool) → nat_lt (n * size) a.size ≡ t → (if t then (if is_in a.present n then long_name_in order (b.leaves n) else None) else None) ≡ (if t then (if is_in a.present n then long_name_in order (a.leaves n) else None) else None)
    below true e = ap (λ (l : List ℕ). if is_in a.present n then long_name_in order l else None) (s.leaves n (leaf_low e))
    below false e = refl

-- so do all, and how nodes are read
pub names_alike : (order : Order) (size : ℕ) (a b : NodeContent) → 0 < size → IsSameContent size a b → name_in order size b ≡ name_in order size a
names_alike order size a b pos s = λ i n. name_alike order size a b n pos s i

pub reader_alike : (order : Order) (size : ℕ) (a b : NodeContent) → 0 < size → IsSameContent size a b → reader_by order size b ≡ reader_by order size a
reader_alike order size a b pos s = λ i. record { order = order; blocksize = size; names = names_alike order size a b pos s i }

-- an inode is the same entry, or none
pub same_alike : (r : Reader) (a b : NodeContent) → 0 < r.blocksize → IsSameContent r.blocksize a b → (x : Option Inode) (y : Option Entry) → IsSameInode r a x y → IsSameInode r b x y
same_alike r a b pos s None None h = h
same_alike r a b pos s (Some x) (Some y) h = entry_alike r x a b y pos (λ own. s) h
same_alike r a b pos s None (Some y) h = absurd h
same_alike r a b pos s (Some x) None h = absurd h

-- so all contents that are the same show the same tree
pub shows_alike : (order : Order) (blocksize : ℕ) (inodes : List (Option Inode)) (old new : Contents) (t : Tree) → 0 < blocksize → ((n : ℕ) → IsSameContent blocksize (old n) (new n))
    → Shows order blocksize inodes old t → Shows order blocksize inodes new t
shows_alike order blocksize inodes old new t pos same shows = record {
  places = shows.places;
  each = λ n some. subst (λ r. IsSameInode r (new n) (inode_at inodes n) (entry_of t n)) (sym (reader_alike order blocksize (old 0) (new 0) pos (same 0)))
      (same_alike (reader_by order blocksize (old 0)) (old n) (new n) pos (same n) (inode_at inodes n) (entry_of t n) (shows.each n some));
  long_size = shows.long_size ∙ sym long_same.size;
  long_present = shows.long_present ∙ sym long_same.present;
  long_names = shows.long_names
      ∙ sym ((λ j. each_below (ceil_div (long_same.size j) blocksize) (name_in order blocksize (new 0))) ∙ ap (each_below (ceil_div (old 0).size blocksize)) (names_alike order blocksize (old 0) (new 0) pos long_same));
}
  where
    long_same : IsSameContent blocksize (old 0) (new 0)
    long_same = same 0
