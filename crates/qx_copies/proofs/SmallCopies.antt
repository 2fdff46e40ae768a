-- The copy of a new volume: it stands for the volume's tree, and others don't.
use Rattle.std.proofs.Common.{◌≡◌, ℕ, zero, suc, ◌+◌, ◌<◌, [], ◌∷◌, refl, sym, ◌∙◌, ap, subst, arith}
use Rattle.std.specs.Prelude.{false, ◌||◌, Option, Some, None, replicate, slice_index_or, if◌then◌else◌}
use Rattle.std.proofs.lemmas.Bool.{ne_eqb}
use Rattle.qx_fields.specs.Number.{field, fields}
use Rattle.qx_geom.specs.Layout.{geometry_of, levels_for, pointer_blocks, system_root_of, tree_blocks}
use Rattle.qx_geom.specs.Lists.{is_in}
use Rattle.qx_records.specs.InodeRecord.{inode_in, kind_of}
use Rattle.qx_records.specs.NameRecord.{raw_in}
use Rattle.qx_records.specs.declared.inode.Inode.{Inode}
use Rattle.qx_records.specs.declared.kind.Kind.{Kind}
use Rattle.qx_records.specs.declared.kind.Kind.TheVariants as kinds
use Rattle.qx_model.specs.EmptyTree.{empty_tree}
use Rattle.qx_nodes.specs.Content.{HasSize}
use Rattle.qx_view.proofs.ApartPositions.{tree_is}
use Rattle.qx_view.proofs.ReasonsAlike.{none_below}
use Rattle.qx_view.proofs.TreeFound.{tree_found}
use Rattle.qx_view.specs.Examples.{made_blocks, made_super, made_tree}
use Rattle.qx_view.specs.Images.{Roots, inode_of, inode_places, main_roots}
use Rattle.qx_view.specs.Reading.{IsTreeOf}
use Rattle.qx_view.specs.Sound.{fails_dots, fails_inodes, fails_nodes, fails_tail}
use Rattle.qx_view.specs.Walk.{finding_of, walked_inodes}
use Rattle.qx_copies.specs.Copies.{inode_at}
use Rattle.qx_copies.specs.Examples.{copy_with, made_copy, top_inode}
use Rattle.qx_copies.specs.ImageCopies.{HasReached}
use Rattle.qx_copies.specs.Standing.{IsOwnCopy, IsOwnInode, Represents, written_status}
use Rattle.qx_copies.proofs.OwnImages.{copy_own}
use Rattle.qx_copies.proofs.ReachedInodes.{copy_represents}

-- the volume's roots
abbrev r : Roots
r = main_roots made_super

-- blocks have room for pointers
size : HasSize made_blocks
size = record { size = omega arith; words = omega arith }

-- no test of the walk fails
whole : finding_of made_blocks r ≡ None
unfolding field fields inode_in kind_of raw_in
whole = refl

-- the tree that is read
read : tree_found made_blocks r ≡ made_tree
unfolding field fields inode_in kind_of raw_in empty_tree
read = refl

tree : IsTreeOf made_blocks r made_tree
tree = subst (λ t. IsTreeOf made_blocks r t) read (tree_is made_blocks r size whole)

-- the walk comes to inode 1 alone
walked : walked_inodes made_blocks r ≡ 1 ∷ []
unfolding field fields inode_in kind_of raw_in
walked = refl

-- which is the top directory
top : inode_of made_blocks r.inodes 1 ≡ top_inode
unfolding field fields inode_in
top = refl

-- none of so many nothings is there
nothing : (x : Option Inode) (n k : ℕ) → slice_index_or (replicate n x) k x ≡ x
nothing x zero zero = refl
nothing x zero (suc k) = refl
nothing x (suc n) zero = refl
nothing x (suc n) (suc k) = nothing x n k

-- the copy has the reached inodes
reached : HasReached made_blocks r made_copy
reached = record { longfile = refl; places = refl; each = λ n some low. each n some }
  where
    each : (n : ℕ) → 0 < n → inode_at made_copy.inodes n ≡ (if is_in (walked_inodes made_blocks r) n then Some (inode_of made_blocks r.inodes n) else None)
    each zero some = absurd (omega (arith, some))
    each (suc zero) some = ap (λ i. Some i) (sym top) ∙ sym (ap (λ ns. if is_in ns 1 then Some (inode_of made_blocks r.inodes 1) else None) walked)
    each (suc (suc k)) some =
        nothing None 15 k
        ∙ sym (ap (λ ns. if is_in ns (suc (suc k)) then Some (inode_of made_blocks r.inodes (suc (suc k))) else None) walked
        ∙ ap (λ b. if b then Some (inode_of made_blocks r.inodes (suc (suc k))) else None) (out k))
      where
        out : (k : ℕ) → is_in (1 ∷ []) (suc (suc k)) ≡ false
        out k = ap (λ b. b || false) (ne_eqb 1 (suc (suc k)) (λ e. omega (arith, e)))

-- it stands for the tree
pub represents : Represents made_blocks made_copy made_tree
represents = copy_represents made_blocks r made_copy made_tree tree reached refl

-- laid out as this project does
pub own : IsOwnCopy made_blocks made_copy made_tree
unfolding field fields inode_in kind_of raw_in levels_for tree_blocks pointer_blocks geometry_of system_root_of
own = copy_own made_blocks r made_copy made_tree size tree reached (omega arith) refl
    (λ n low. none_below (fails_nodes made_blocks r (walked_inodes made_blocks r)) (inode_places r + 1) n refl low)
    (λ n low. none_below (fails_dots made_blocks r (walked_inodes made_blocks r)) (inode_places r + 1) n refl low)
    (λ n low. none_below (fails_inodes made_blocks r (walked_inodes made_blocks r)) (inode_places r + 1) n refl low)
    (λ n low. none_below (fails_tail made_blocks r (walked_inodes made_blocks r)) (inode_places r + 1) n refl low)
    refl

-- with an inode of number 2 a copy doesn't
pub no_second : (first : Option Inode) → ¬ (Represents made_blocks (copy_with (first ∷ Some top_inode ∷ replicate 14 None)) made_tree)
unfolding empty_tree
no_second first h = h.shows.each 2 (omega arith)

-- a directory's status is 1
other_status : (k : Kind) → kind_of 0x41ED ≡ Some k → 3 ≡ written_status k → ⊥
unfolding kind_of
other_status kinds.Directory e s = omega (arith, s)
other_status kinds.File e s = cc
other_status kinds.Link e s = cc
other_status kinds.Special e s = cc

pub no_status : ¬ (IsOwnCopy made_blocks (copy_with (Some (record top_inode { status = 3 }) ∷ replicate 15 None)) made_tree)
no_status h =
    let i : IsOwnInode (record top_inode { status = 3 }) = h.inodes 1 (record top_inode { status = 3 }) refl in
    other_status i.kind i.kind_is i.status
