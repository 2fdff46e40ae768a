-- What a cut leaves is mounted with an allowed tree, and called clean.
use Rattle.std.proofs.Common.{◌≡◌, ℕ, List, length, refl, sym, ◌∙◌, subst}
use Rattle.std.specs.Prelude.{Option, Some, None, Contains}
use Rattle.std.proofs.lemmas.Option.{same_Some}
use Rattle.qx_geom.specs.declared.area.Which.{Which}
use Rattle.qx_geom.specs.declared.geometry.Geometry.{Geometry}
use Rattle.qx_nodes.specs.BlockMap.{BlockMap}
use Rattle.qx_super.specs.Superblock.{Superblock}
use Rattle.qx_super.specs.Active.{active_super}
use Rattle.qx_model.specs.Tree.{Tree}
use Rattle.qx_model.specs.Machine.{Machine, start_of}
use Rattle.qx_model.specs.Findable.{FoundTree, found_of}
use Rattle.qx_view.specs.Images.{image_blocks, main_roots}
use Rattle.qx_view.specs.Reading.{IsTreeOf}
use Rattle.qx_view.specs.Sound.{Clean, IsSound, reason_with, verdict_of, written_geometry}
use Rattle.qx_view.proofs.OneTree.{tree_unique}
use Rattle.qx_view.proofs.Verdicts.{sound_clean}
use Rattle.qx_shell.specs.Cuts.{FindsOne}
use Rattle.qx_shell.specs.Mounts.{IsStart, Writing, of_sound, volume_of}

-- where no reason applies, the superblock has a geometry of this project
geometry_is : (m : BlockMap) (s : Superblock) (which : Which) (o : Option Geometry) → reason_with m s which o ≡ None → (g : Geometry) × (o ≡ Some g)
geometry_is m s which None h = absurd (cc)
geometry_is m s which (Some g) h = (g, refl)

-- a sound image's superblock has one
pub sound_geometry : (img : List ℕ) (t : Tree) (z : Superblock) → IsSound img t → active_super img ≡ Some z → (g : Geometry) × (written_geometry z (length img) ≡ Some g)
sound_geometry img t z sound active =
    let same : sound.superblock ≡ z = same_Some sound.superblock z (sym sound.names ∙ active) in
    let (g, is) = geometry_is (image_blocks img sound.superblock) sound.superblock sound.area (written_geometry sound.superblock (length img)) sound.no_reason in
    (g, subst (λ x. written_geometry x (length img) ≡ Some g) same is)

-- two trees of a sound image are one
pub sound_once : (img : List ℕ) (t u : Tree) → IsSound img t → IsSound img u → t ≡ u
sound_once img t u a b =
    let same : b.superblock ≡ a.superblock = same_Some b.superblock a.superblock (sym b.names ∙ a.names) in
    let m = image_blocks img a.superblock in
    let r = main_roots a.superblock in
    tree_unique m r t u a.tree (subst (λ x. IsTreeOf (image_blocks img x) (main_roots x) u) same b.tree)

-- a sound image can be mounted
pub sound_mounts : (img : List ℕ) (t : Tree) (z : Superblock) (moment : ℕ) → IsSound img t → active_super img ≡ Some z
    → (g : Geometry) × IsStart img moment (start_of (volume_of Writing g) t z.serial moment) Writing
sound_mounts img t z moment sound active =
    let (g, written) = sound_geometry img t z sound active in
    (g, of_sound Writing (record { tree = t; superblock = z; geometry = g; active = active; written = written; sound = sound; starts = refl }))

-- what is found has a mount, which begins with what is found
pub found_mounts : (found : List FoundTree) (img : List ℕ) (moment : ℕ) → FindsOne found img → (s : Machine) × IsStart img moment s Writing × Contains found (found_of s.durable)
found_mounts found img moment f =
    let (g, starts) = sound_mounts img f.tree f.superblock moment f.sound f.active in
    (start_of (volume_of Writing g) f.tree f.superblock.serial moment, starts, f.is_one)

-- each mount for writing begins so
pub mounts_found : (found : List FoundTree) (img : List ℕ) (moment : ℕ) (s : Machine) → FindsOne found img → IsStart img moment s Writing → Contains found (found_of s.durable)
mounts_found found img moment s f (of_sound how z) =
    let tree : f.tree ≡ z.tree = sound_once img f.tree z.tree f.sound z.sound in
    let same : f.superblock ≡ z.superblock = same_Some f.superblock z.superblock (sym f.active ∙ z.active) in
    subst (λ (x : Machine). Contains found (found_of x.durable)) (sym z.starts)
    (subst (λ (t : Tree). Contains found (record { tree = t; serial = z.superblock.serial })) tree (subst (λ (y : Superblock). Contains found (record { tree = f.tree; serial = y.serial })) same f.is_one))

-- and the checker calls it clean
pub found_clean : (found : List FoundTree) (img : List ℕ) (f : FindsOne found img) → (area : Which) × (verdict_of img ≡ Clean area f.superblock)
found_clean found img f = (f.sound.area, sound_clean img f.tree f.sound.area f.superblock f.sound f.sound.active f.active)
