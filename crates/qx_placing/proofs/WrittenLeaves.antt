-- The leaves that an edit writes, one step more.
use Rattle.std.proofs.Common.{◌≡◌, ℕ, List, [], ◌∷◌, ◌++◌, refl, sym, ◌∙◌, ap}
use Rattle.std.specs.Prelude.{Bool, true, false, ◌==◌, cond, filter, if◌then◌else◌, map, Option, Some, None}
use Rattle.std.specs.List.{position_or_len}
use Rattle.std.specs.Option.{option_to_list}
use Rattle.std.proofs.lemmas.List.{append-nil, map-append}
use Rattle.std.proofs.lemmas.List.Elements.{filter-append}
use Rattle.qx_geom.proofs.Truths.{not_so}
use Rattle.qx_model.specs.Answering.{FileAt}
use Rattle.qx_model.specs.Contents.{rewriting}
use Rattle.qx_model.specs.Directories.{has_name, is_unused, long_of_slot, slot_at}
use Rattle.qx_model.specs.Edits.{Edit, Leaf, Setting, add_row, attr_changed, clear_row, leaf_of_record, lose_row, number_for, point_row, putting, unchanged, with_attr, with_long, with_parent, without_long, writing}
use Rattle.qx_model.specs.Owners.{OfInode, OfLongfile, Owner, is_same_owner}
use Rattle.qx_model.specs.Tree.{Tree, dots_name, links_of, slots_of}
use Rattle.qx_model.specs.TreeTouch.{written_in}
use Rattle.qx_model.proofs.SamePositions.{same_owner-itself, same_owner-true}
use Rattle.qx_placing.specs.WrittenLeaves.{WritesLeaves}

-- leaf j of an owner
abbrev leaf_at : Owner → ℕ → Leaf
leaf_at owner j = record { owner = owner; index = j }

-- those of some leaves of one owner that are another's
of_one : (b : Bool) (o owner : Owner) (ls : List ℕ) → is_same_owner owner o ≡ b → written_in o (map (leaf_at owner) ls) ≡ cond b ls []
of_one true o owner [] is = refl
of_one false o owner [] is = refl
of_one true o owner (x ∷ ls) is = ap (λ b. map (λ (l : Leaf). l.index) (cond b (leaf_at owner x ∷ rest) rest)) is ∙ ap (λ xs. x ∷ xs) (of_one true o owner ls is)
  where
    rest : List Leaf
    rest = filter (λ (l : Leaf). is_same_owner l.owner o) (map (leaf_at owner) ls)
of_one false o owner (x ∷ ls) is = ap (λ b. map (λ (l : Leaf). l.index) (cond b (leaf_at owner x ∷ rest) rest)) is ∙ of_one false o owner ls is
  where
    rest : List Leaf
    rest = filter (λ (l : Leaf). is_same_owner l.owner o) (map (leaf_at owner) ls)

-- those of two lists end to end
written_both : (o : Owner) (xs ys : List Leaf) → written_in o (xs ++ ys) ≡ written_in o xs ++ written_in o ys
written_both o xs ys =
    ap (λ zs. map (λ (l : Leaf). l.index) zs) (filter-append (λ (l : Leaf). is_same_owner l.owner o) xs ys)
    ∙ map-append (λ (l : Leaf). l.index) (filter (λ (l : Leaf). is_same_owner l.owner o) xs) (filter (λ (l : Leaf). is_same_owner l.owner o) ys)

-- one step more
pub step_writes : (o : Owner) (leaves : List ℕ) (e : Edit) → WritesLeaves o leaves e (writing o leaves e)
step_writes o leaves e = record {
  own = written_both o e.written (map (leaf_at o) leaves) ∙ ap (λ xs. written_in o e.written ++ xs) (of_one true o o leaves (same_owner-itself o));
  others = λ q differ.
      written_both q e.written (map (leaf_at o) leaves) ∙ ap (λ xs. written_in q e.written ++ xs) (of_one false q o leaves (not_so (is_same_owner o q) (λ t. differ (sym (same_owner-true o q t)))))
      ∙ append-nil (written_in q e.written);
}

-- a step from an edit that writes the same
step_from : (o : Owner) (leaves : List ℕ) (before e after : Edit) → e.written ≡ before.written → after.written ≡ (writing o leaves e).written → WritesLeaves o leaves before after
step_from o leaves before e after same is =
    let w : WritesLeaves o leaves e (writing o leaves e) = step_writes o leaves e in
    record {
      own = ap (written_in o) is ∙ w.own ∙ ap (λ xs. written_in o xs ++ leaves) same;
      others = λ q differ. ap (written_in q) is ∙ w.others q differ ∙ ap (written_in q) same;
    }

-- a long name
pub name_writes : (blocksize : ℕ) (long : Option ℕ) (name : List ℕ) (e : Edit) → WritesLeaves OfLongfile (option_to_list long) e (with_long blocksize long name e)
name_writes blocksize None name e = record { own = sym (append-nil (written_in OfLongfile e.written)); others = λ q differ. refl }
name_writes blocksize (Some k) name e = step_from OfLongfile (k ∷ []) e (record (with_long blocksize (Some k) name e) { written = e.written }) (with_long blocksize (Some k) name e) refl refl

-- one that goes writes nothing
without_written : (long : Option ℕ) (e : Edit) → (without_long long e).written ≡ e.written
without_written None e = refl
without_written (Some k) e = refl

-- rows
pub added_writes : (s : Setting) (d n : ℕ) (name : List ℕ) (e : Edit)
    → WritesLeaves (OfInode d) (leaf_of_record s.blocksize (position_or_len is_unused (slots_of e.tree d)) ∷ []) (with_long s.blocksize (number_for e.tree name) name e) (add_row s d n name e)
added_writes s d n name e =
    let named : Edit = with_long s.blocksize (number_for e.tree name) name e in
    step_from (OfInode d) (leaf_of_record s.blocksize (position_or_len is_unused (slots_of e.tree d)) ∷ []) named named (add_row s d n name e) refl refl

pub cleared_writes : (s : Setting) (d k : ℕ) (e : Edit) → WritesLeaves (OfInode d) (leaf_of_record s.blocksize k ∷ []) e (clear_row s d k e)
cleared_writes s d k e =
    let unnamed : Edit = without_long (long_of_slot (slot_at e.tree d k)) e in
    step_from (OfInode d) (leaf_of_record s.blocksize k ∷ []) e unnamed (clear_row s d k e) (without_written (long_of_slot (slot_at e.tree d k)) e) refl

pub pointed_writes : (s : Setting) (d k n : ℕ) (e : Edit) → WritesLeaves (OfInode d) (leaf_of_record s.blocksize k ∷ []) e (point_row s d k n e)
pointed_writes s d k n e = step_from (OfInode d) (leaf_of_record s.blocksize k ∷ []) e e (point_row s d k n e) refl refl

pub moved_writes : (s : Setting) (n parent : ℕ) (e : Edit) → WritesLeaves (OfInode n) (leaf_of_record s.blocksize (position_or_len (has_name dots_name) (slots_of e.tree n)) ∷ []) e (with_parent s n parent e)
moved_writes s n parent e = step_from (OfInode n) (leaf_of_record s.blocksize (position_or_len (has_name dots_name) (slots_of e.tree n)) ∷ []) e e (with_parent s n parent e) refl refl

pub lost_writes : (s : Setting) (n : ℕ) (e : Edit) → (lose_row s n e).written ≡ e.written
lost_writes s n e = go (links_of e.tree n == 0)
  where
    go : (b : Bool) → (if b then putting n None e else with_attr n (attr_changed s.moment) e).written ≡ e.written
    go true = refl
    go false = refl

-- a file's bytes
pub bytes_write : (s : Setting) (t : Tree) (f : FileAt) (size : ℕ) (content leaves : List ℕ) → WritesLeaves (OfInode f.inode) leaves (unchanged t) (rewriting s t f size content leaves)
bytes_write s t f size content leaves = step_from (OfInode f.inode) leaves (unchanged t) (unchanged t) (rewriting s t f size content leaves) refl refl
