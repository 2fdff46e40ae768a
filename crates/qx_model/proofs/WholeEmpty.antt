-- The tree of a new volume is whole.
use Rattle.std.proofs.Common.{◌≡◌, ℕ, zero, suc, ◌*◌, ◌-◌, ◌/◌, List, [], ◌∷◌, refl, sym, ap, ◌∙◌, subst, arith}
use Rattle.std.specs.Prelude.{false, Option, Some, None, is_some, replicate, slice_get}
use Rattle.std.specs.Option.{option_flatten}
use Rattle.qx_model.specs.Tree.{Entry, Row, Tree, Unused}
use Rattle.qx_model.specs.Edits.{Setting}
use Rattle.qx_model.specs.EmptyTree.{empty_tree, new_directory}
use Rattle.qx_model.specs.Whole.{AreWhole, HasNumber, HoldsRecords, IsWhole, IsWholeEntry}
use Rattle.qx_model.proofs.DoneEdits.{new_dir}
use Rattle.qx_model.proofs.Outlines.{entry_outline, outline_of, slots_in}
use Rattle.qx_model.proofs.RootedNames.{first_slot}
use Rattle.qx_model.proofs.WholeNumbers.{slot_by_outline}
use Rattle.qx_model.proofs.WholeOperations.{new_whole}

-- nothing stands there
abbrev pub no_inode : Option Entry
no_inode = None

-- nor among places without an inode
pub none_among : (m k : ℕ) → option_flatten (slice_get (replicate m no_inode) k) ≡ None
none_among zero zero = refl
none_among zero (suc k) = refl
none_among (suc m) zero = refl
none_among (suc m) (suc k) = none_among m k

nothing : (n : ℕ) → 0 ≡ 0 * n
nothing n = omega arith

-- no long names
abbrev no_long : List (Option (List ℕ))
no_long = []

-- a tree without an inode
abbrev bare : Tree
bare = record { inodes = []; long_size = 0; long_names = []; long_present = [] }

bare_whole : (blocksize : ℕ) → AreWhole blocksize bare
bare_whole blocksize zero e live = absurd (cc)
bare_whole blocksize (suc zero) e live = absurd (cc)
bare_whole blocksize (suc (suc n)) e live = absurd (cc)

directory_is_whole : (blocksize moment : ℕ) → HoldsRecords blocksize → IsWholeEntry blocksize 1 (new_directory blocksize 1 1 moment)
directory_is_whole blocksize moment holds =
    let s : Setting = record { blocksize = blocksize; base = None; moment = moment } in
    (new_whole s holds bare (bare_whole blocksize) 1 1 (new_directory blocksize 1 1 moment) (0 ∷ []) new_dir).0

-- the tree of a new volume is whole
pub empty_whole : (blocksize num_inodes moment : ℕ) → HoldsRecords blocksize → IsWhole blocksize (empty_tree blocksize num_inodes moment)
unfolding empty_tree
empty_whole blocksize num_inodes moment holds = record {
  entries = entries;
  longs = record { whole = nothing blocksize; ascends = tt; there = λ k. none k };
  numbers = record {
    names = λ d k number name h. absurd (unnumbered d k number name h);
    once = λ d k c j number name other h g. absurd (unnumbered d k number name h);
  };
}
  where
    none : (k : ℕ) → false ≡ is_some (option_flatten (slice_get no_long k))
    none zero = refl
    none (suc k) = refl

    entries : AreWhole blocksize (empty_tree blocksize num_inodes moment)
    entries zero e live = absurd (cc)
    entries (suc zero) e live = let is : new_directory blocksize 1 1 moment ≡ e = cc in subst (IsWholeEntry blocksize 1) is (directory_is_whole blocksize moment holds)
    entries (suc (suc n)) e live = let clash : None ≡ Some e = sym (none_among (num_inodes - 1) n) ∙ live in absurd (cc)

    unnumbered : (d k number : ℕ) (name : List ℕ) → HasNumber (empty_tree blocksize num_inodes moment) d k number name → ⊥
    unnumbered d k number name h = go d (sym (slot_by_outline (empty_tree blocksize num_inodes moment) d k) ∙ h.is)
      where
        clash : Unused ≡ Row h.inode name (Some number) → ⊥
        clash z = cc

        go : (d : ℕ) → slots_in (outline_of (empty_tree blocksize num_inodes moment) d) k ≡ Row h.inode name (Some number) → ⊥
        go zero z = clash z
        go (suc zero) z = first_slot (blocksize / 32 - 2) 1 1 k (λ y. y ≡ Row h.inode name (Some number) → ⊥) (λ y. cc) (λ y. cc) (λ y. cc) z
        go (suc (suc n)) z = clash (ap (λ o. slots_in (entry_outline o) k) (sym (none_among (num_inodes - 1) n)) ∙ z)
