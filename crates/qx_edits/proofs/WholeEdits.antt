-- A whole tree stays whole edit by edit.
use Rattle.std.proofs.Common.{◌≡◌, ℕ, zero, suc, ◌-◌, ◌/◌, ◌<◌, ◌≤◌, List, [], ◌∷◌, length, refl, sym, ◌∙◌, ap, subst, arith}
use Rattle.std.specs.Prelude.{Bool, true, false, ◌==◌, None, Some, Option, if◌then◌else◌, replicate, slice_get, slice_set, unwrap_or}
use Rattle.std.specs.List.{position_or_len, range_with_len}
use Rattle.qx_geom.specs.Lists.{is_in}
use Rattle.qx_geom.specs.Pointer.{ceil_div}
use Rattle.qx_geom.proofs.ImagesAndFilters.{Contains-in}
use Rattle.qx_model.specs.declared.attr.Attr.{Attr}
use Rattle.qx_model.specs.Directories.{is_unused, long_of_slot, slot_at, with_entry}
use Rattle.qx_model.specs.Edits.{Edit, Setting, add_row, attr_changed, clear_row, lose_row, new_link, number_for, point_row, putting, slots_with, unchanged, with_attr, with_long, with_parent, without_long}
use Rattle.qx_model.specs.EmptyTree.{new_directory}
use Rattle.qx_model.specs.NewNames.{empty_file}
use Rattle.qx_model.specs.Tree.{Body, Directory, Entry, File, Link, Row, Special, Tree, Unused, entry_of, links_of, slots_of_body}
use Rattle.qx_model.specs.Whole.{HoldsRecords, IsWhole, IsWholeEntry}
use Rattle.qx_model.proofs.DoneEdits.{new_dir}
use Rattle.qx_model.proofs.EditOutlines.{IsDirectoryAt}
use Rattle.qx_model.proofs.Outlines.{body_outline, slots_in}
use Rattle.qx_model.proofs.WholeEntries.{IsSteadyEdit, steady_attr, steady_set, steady_start}
use Rattle.qx_model.proofs.WholeNumbers.{HasNames, names_added, names_attr, names_cleared, names_entry, names_parent, names_pointed}
use Rattle.qx_model.proofs.WholeOperations.{new_whole}
use Rattle.qx_model.proofs.WholeRows.{steady_added, steady_cleared, steady_parent, steady_pointed}
use Rattle.qx_view.proofs.AscendingRanges.{in_range, range_ascends}
use Rattle.qx_edits.specs.UnnumberedEntries.{HasNoNumbers}
use Rattle.qx_edits.proofs.RowTrees.{added_is_set, cleared_is_set, rewritten}

nothing_in : (i : ℕ) → is_in [] i ≡ true → ⊥
nothing_in i h = cc

-- its two halves
names_of : (blocksize : ℕ) (t : Tree) → IsWhole blocksize t → HasNames blocksize t
names_of blocksize t whole = record { longs = whole.longs; numbers = whole.numbers }

whole_of : (blocksize : ℕ) (e : Edit) → IsSteadyEdit blocksize e → HasNames blocksize e.tree → IsWhole blocksize e.tree
whole_of blocksize e steady names = record { entries = steady.entries; longs = names.longs; numbers = names.numbers }

-- a long name that comes or goes makes the same tree, whatever was written before
named_tree : (blocksize : ℕ) (long : Option ℕ) (name : List ℕ) (e : Edit) → (with_long blocksize long name (unchanged e.tree)).tree ≡ (with_long blocksize long name e).tree
named_tree blocksize None name e = refl
named_tree blocksize (Some k) name e = refl

unnamed_tree : (long : Option ℕ) (e : Edit) → (without_long long (unchanged e.tree)).tree ≡ (without_long long e).tree
unnamed_tree None e = refl
unnamed_tree (Some k) e = refl

module _ (s : Setting) (e : Edit) (d : ℕ) (holds : HoldsRecords s.blocksize) (whole : IsWhole s.blocksize e.tree) (h : IsDirectoryAt e.tree d) where
  start : IsSteadyEdit s.blocksize (unchanged e.tree)
  start = steady_start s.blocksize e.tree whole.entries

  pub added_whole : (n : ℕ) (name : List ℕ) → IsWhole s.blocksize (add_row s d n name e).tree
  added_whole n name = subst (λ t. IsWhole s.blocksize t) same (whole_of s.blocksize (add_row s d n name (unchanged e.tree)) (steady_added s holds d (unchanged e.tree) h start n name) (names_added s d (unchanged e.tree) h (names_of s.blocksize e.tree whole) n name))
    where
      same : (add_row s d n name (unchanged e.tree)).tree ≡ (add_row s d n name e).tree
      same =
          added_is_set s d (unchanged e.tree) h n name
          ∙ ap (λ t. with_entry t d (Some (rewritten s (position_or_len is_unused h.slots) (slots_with s.blocksize h.slots (Row n name (number_for e.tree name))) h.up h.entry))) (named_tree s.blocksize (number_for e.tree name) name e)
          ∙ sym (added_is_set s d e h n name)

  pub cleared_whole : (k : ℕ) → 2 ≤ k → k < length h.slots → IsWhole s.blocksize (clear_row s d k e).tree
  cleared_whole k from within =
      subst (λ t. IsWhole s.blocksize t) same
      (whole_of s.blocksize (clear_row s d k (unchanged e.tree)) (steady_cleared s holds d (unchanged e.tree) h start k from within (λ i z. nothing_in i z)) (names_cleared s d (unchanged e.tree) h (names_of s.blocksize e.tree whole) k within))
    where
      same : (clear_row s d k (unchanged e.tree)).tree ≡ (clear_row s d k e).tree
      same =
          cleared_is_set s d (unchanged e.tree) h k
          ∙ ap (λ t. with_entry t d (Some (rewritten s k (slice_set h.slots k Unused) h.up h.entry))) (unnamed_tree (long_of_slot (slot_at e.tree d k)) e)
          ∙ sym (cleared_is_set s d e h k)

  pub pointed_whole : (k n : ℕ) → 2 ≤ k → k < length h.slots → IsWhole s.blocksize (point_row s d k n e).tree
  pointed_whole k n from within =
      whole_of s.blocksize (point_row s d k n (unchanged e.tree)) (steady_pointed s holds d (unchanged e.tree) h start k n from within) (names_pointed s d (unchanged e.tree) h (names_of s.blocksize e.tree whole) k n within)

  pub moved_whole : (to : ℕ) → IsWhole s.blocksize (with_parent s d to e).tree
  moved_whole to = whole_of s.blocksize (with_parent s d to (unchanged e.tree)) (steady_parent s holds d (unchanged e.tree) h start to) (names_parent s d (unchanged e.tree) h (names_of s.blocksize e.tree whole) to)

pub lost_whole : (s : Setting) (e : Edit) (n : ℕ) → IsWhole s.blocksize e.tree → IsWhole s.blocksize (lose_row s n e).tree
lost_whole s e n whole = go (links_of e.tree n == 0)
  where
    go : (b : Bool) → IsWhole s.blocksize (if b then putting n None e else with_attr n (attr_changed s.moment) e).tree
    go true =
        whole_of s.blocksize (putting n None (unchanged e.tree))
        (steady_set s.blocksize n None (unchanged e.tree) (steady_start s.blocksize e.tree whole.entries) (λ y z. absurd (cc)) (λ i w h. absurd (nothing_in i w)))
        (names_entry s.blocksize e.tree n None (λ k i number name z. absurd (cc)) (names_of s.blocksize e.tree whole))
    go false =
        whole_of s.blocksize (with_attr n (attr_changed s.moment) (unchanged e.tree)) (steady_attr s.blocksize n (attr_changed s.moment) (unchanged e.tree) (steady_start s.blocksize e.tree whole.entries))
        (names_attr s.blocksize n (attr_changed s.moment) (unchanged e.tree) (names_of s.blocksize e.tree whole))

pub attr_whole_tree : (blocksize : ℕ) (e : Edit) (n : ℕ) (change : Attr → Attr) → IsWhole blocksize e.tree → IsWhole blocksize (with_attr n change e).tree
attr_whole_tree blocksize e n change whole =
    whole_of blocksize (with_attr n change (unchanged e.tree)) (steady_attr blocksize n change (unchanged e.tree) (steady_start blocksize e.tree whole.entries)) (names_attr blocksize n change (unchanged e.tree) (names_of blocksize e.tree whole))

-- an entry without long names has no numbered row in its outline
unnumbered : (b : Body) → ((k : ℕ) → long_of_slot (unwrap_or (slice_get (slots_of_body b) k) Unused) ≡ None) → (k i number : ℕ) (name : List ℕ) → slots_in (body_outline b) k ≡ Row i name (Some number) → ⊥
unnumbered (Directory slots parent) none k i number name is = let clash : None ≡ Some number = sym (none k) ∙ ap long_of_slot is in cc
unnumbered (File content) none k i number name is = cc
unnumbered (Link target) none k i number name is = cc
unnumbered Special none k i number name is = cc

pub come_whole : (blocksize : ℕ) (e : Edit) (n : ℕ) (x : Entry) → IsWhole blocksize e.tree → IsWholeEntry blocksize n x → HasNoNumbers x → IsWhole blocksize (putting n (Some x) e).tree
come_whole blocksize e n x whole own none =
    whole_of blocksize (putting n (Some x) (unchanged e.tree))
    (steady_set blocksize n (Some x) (unchanged e.tree) (steady_start blocksize e.tree whole.entries) (λ y z. (let same : x ≡ y = cc in subst (IsWholeEntry blocksize n) same own)) (λ i w h. absurd (nothing_in i w)))
    (names_entry blocksize e.tree n (Some x) (λ k i number name z. absurd (unnumbered x.body none k i number name z)) (names_of blocksize e.tree whole))

-- ---- new inodes

pub file_whole : (blocksize n moment : ℕ) → IsWholeEntry blocksize n (empty_file moment) × HasNoNumbers (empty_file moment)
file_whole blocksize n moment = (record { size = refl; ascends = tt; below = λ i h. absurd (nothing_in i h); body = tt }, λ k. refl)

pub link_whole : (blocksize n moment : ℕ) (target : List ℕ) → IsWholeEntry blocksize n (new_link blocksize moment target) × HasNoNumbers (new_link blocksize moment target)
link_whole blocksize n moment target = (
  record {
    size = refl;
    ascends = range_ascends 0 (ceil_div (length target) blocksize);
    below = λ i h. (let r = in_range 0 (ceil_div (length target) blocksize) i (Contains-in (range_with_len 0 (ceil_div (length target) blocksize)) i h) in omega (arith, r.1));
    body = tt;
  },
  λ k. refl,
)

pub directory_is_whole : (blocksize n parent moment : ℕ) → HoldsRecords blocksize → IsWholeEntry blocksize n (new_directory blocksize n parent moment) × HasNoNumbers (new_directory blocksize n parent moment)
directory_is_whole blocksize n parent moment holds = (
  (new_whole (record { blocksize = blocksize; base = None; moment = moment }) holds (record { inodes = []; long_size = 0; long_names = []; long_present = [] }) (λ m x live. absurd (empty m x live)) n parent
      (new_directory blocksize n parent moment) (0 ∷ []) new_dir).0,
  λ k. rows (blocksize / 32 - 2) k,
)
  where
    empty : (m : ℕ) (x : Entry) → entry_of (record { inodes = []; long_size = 0; long_names = []; long_present = [] }) m ≡ Some x → ⊥
    empty zero x live = cc
    empty (suc m) x live = cc

    unused : (m k : ℕ) → unwrap_or (slice_get (replicate m Unused) k) Unused ≡ Unused
    unused zero k = refl
    unused (suc m) zero = refl
    unused (suc m) (suc k) = unused m k

    rows : (m k : ℕ) → long_of_slot (unwrap_or (slice_get (Row n (46 ∷ []) None ∷ Row parent (46 ∷ 46 ∷ []) None ∷ replicate m Unused) k) Unused) ≡ None
    rows m zero = refl
    rows m (suc zero) = refl
    rows m (suc (suc k)) = ap long_of_slot (unused m k)
