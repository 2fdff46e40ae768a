-- The inode places of a sound image.
use Rattle.std.proofs.Common.{◌≡◌, ℕ, ◌*◌, ◌/◌, ◌^◌, ◌<◌, List, length, refl, ap, sym, ◌∙◌, subst, arith}
use Rattle.std.specs.Prelude.{Bool, true, false, Some, None, Result, Ok, Err, ◌==◌, if◌then◌else◌}
use Rattle.std.proofs.Math.Nat.{mul-div_cancel}
use Rattle.std.proofs.lemmas.Bool.{cond-true, eqb-true, lt-ltb}
use Rattle.std.proofs.lemmas.Option.{same_Some}
use Rattle.qx_geom.specs.declared.system.SystemTree.TheVariants as trees
use Rattle.qx_geom.proofs.Truths.{and_left, and_right}
use Rattle.qx_geom.proofs.VolumeNumbers.{IsGeometry-keeps, geometry_of-numbers}
use Rattle.qx_geom.specs.Layout.{geometry_of, system_root_of}
use Rattle.qx_geom.specs.declared.geometry.GeomFault.{GeomFault}
use Rattle.qx_geom.specs.declared.geometry.Geometry.{Geometry}
use Rattle.qx_geom.specs.declared.root.Root.{Root}
use Rattle.qx_model.specs.Tree.{Tree}
use Rattle.qx_super.specs.Active.{active_super}
use Rattle.qx_super.specs.Superblock.{Superblock}
use Rattle.qx_view.proofs.ActiveHalf.{SoundParts, halves_right, sound_parts}
use Rattle.qx_view.proofs.SoundLocality.{geometry_there}
use Rattle.qx_view.specs.Images.{image_blocks, places_in}
use Rattle.qx_view.specs.Sound.{IsSound, geometry_if, is_laid_out, is_same_root, is_written_by, written_geometry}

-- the geometry of a superblock has its number of inodes
written_inodes : (s : Superblock) (len : ℕ) (g : Geometry) → written_geometry s len ≡ Some g → s.num_inodes ≡ g.num_inodes
written_inodes s len g e = by_result (geometry_of len s.blocksize s.num_inodes) refl e
  where
    by_test : (h : Geometry) (b : Bool) → geometry_of len s.blocksize s.num_inodes ≡ Ok h → (if b then Some h else None) ≡ Some g → s.num_inodes ≡ g.num_inodes
    by_test h true ok e = let same : h ≡ g = cc in ap (λ (x : Geometry). x.num_inodes) (geometry_of-numbers len s.blocksize s.num_inodes h ok ∙ same)
    by_test h false ok e = absurd (cc)

    by_result : (x : Result Geometry GeomFault) → geometry_of len s.blocksize s.num_inodes ≡ x → geometry_if s x ≡ Some g → s.num_inodes ≡ g.num_inodes
    by_result (Err fault) ok e = absurd (cc)
    by_result (Ok h) ok e = by_test h (is_written_by s h) ok e

-- an Inode tree of this size has so many places
places_of_size : (node : Root) (n : ℕ) → node.size ≡ n * 128 → n < 2 ^ 32 → places_in node ≡ n
places_of_size node n size few =
    let count : node.size / 128 ≡ n = ap (λ (x : ℕ). x / 128) size ∙ mul-div_cancel n {n = 128} (omega arith) in
    cond-true _ _ _ (lt-ltb (node.size / 128) (2 ^ 32) (subst (λ (x : ℕ). x < 2 ^ 32) (sym count) few)) ∙ count

-- a sound image's tree has a place for each inode of its superblock
pub sound_places : (img : List ℕ) (t : Tree) (s : Superblock) → IsSound img t → active_super img ≡ Some s → length t.inodes ≡ s.num_inodes
unfolding system_root_of
sound_places img t s sound names =
    let same : sound.superblock ≡ s = same_Some sound.superblock s (sym sound.names ∙ names) in
    let g = geometry_there (image_blocks img sound.superblock) sound.superblock sound.area (written_geometry sound.superblock (length img)) sound.no_reason in
    with_geometry g.0 g.1 ∙ ap (λ (x : Superblock). x.num_inodes) same
  where
    with_geometry : (g : Geometry) → written_geometry sound.superblock (length img) ≡ Some g → length t.inodes ≡ sound.superblock.num_inodes
    with_geometry g written =
        let own = sound.superblock in
        let p : SoundParts img t sound.area own g = sound_parts img t sound.area own g sound sound.active sound.names written in
        let right : is_laid_out (image_blocks img own) own g sound.area ≡ true = (halves_right (image_blocks img own) own g sound.area p.none).0 in
        let root = and_left (is_same_root own.inode (system_root_of g sound.area trees.Inodes)) _ (and_right (is_same_root own.bitmap (system_root_of g sound.area trees.Bitmap)) _ right) in
        let size : own.inode.size ≡ g.num_inodes * 128 = eqb-true own.inode.size (g.num_inodes * 128) (and_left (own.inode.size == g.num_inodes * 128) _ root) in
        p.tree.places ∙ places_of_size own.inode g.num_inodes size (omega (arith, (IsGeometry-keeps g p.geometry.volume).inodes_to)) ∙ sym (written_inodes own (length img) g written)
