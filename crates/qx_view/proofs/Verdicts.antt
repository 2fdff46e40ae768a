-- What the checker's verdict says of an image.
use Rattle.std.proofs.Common.{◌≡◌, ℕ, inl, inr, List, length, refl, sym, ◌∙◌, ap}
use Rattle.std.specs.Prelude.{Option, Some, None}
use Rattle.std.proofs.lemmas.Option.{same_Some}
use Rattle.qx_geom.specs.declared.area.Which.{Which}
use Rattle.qx_model.specs.Tree.{Tree}
use Rattle.qx_nodes.specs.BlockMap.{BlockMap}
use Rattle.qx_super.specs.Active.{active_area, active_super}
use Rattle.qx_super.specs.Superblock.{Superblock}
use Rattle.qx_view.specs.declared.reasons.Foreign.{Foreign as Why}
use Rattle.qx_view.specs.declared.findings.Finding.{Finding}
use Rattle.qx_view.proofs.ApartPositions.{tree_is}
use Rattle.qx_view.proofs.RoomForPointers.{tree_sized, walk_sized}
use Rattle.qx_view.proofs.TestsAndTree.{no_test_fails}
use Rattle.qx_view.proofs.TreeFound.{tree_found}
use Rattle.qx_view.specs.Images.{Roots, image_blocks, main_roots}
use Rattle.qx_view.specs.Sound.{Clean, Damaged, Disagree, Foreign, IsDamaged, IsFinding, IsForeign, IsSound, NoVolume, Verdict, last_finding, reason_of, verdict_at, verdict_by, verdict_of, verdict_with}
use Rattle.qx_view.specs.Walk.{finding_of}
use Rattle.qx_super.specs.declared.choice.Pick.{Pick}
use Rattle.qx_super.specs.declared.choice.Pick.TheVariants as picks

-- a clean verdict is with this area and its superblock, and has no finding, no reason and no last finding
clear_of : (which area : Which) (s u : Superblock) (f : Option Finding) (reason : Option Why) (last : Option Finding) → verdict_by which s f reason last ≡ Clean area u
    → (which ≡ area) × (s ≡ u) × (f ≡ None) × (reason ≡ None) × (last ≡ None)
clear_of which area s u (Some f) reason last e = absurd (cc)
clear_of which area s u None (Some reason) last e = absurd (cc)
clear_of which area s u None None (Some f) e = absurd (cc)
clear_of which area s u None None None e = (cc, cc, refl, refl, refl)

-- a foreign one has no finding, and this reason
foreign_of : (which : Which) (s : Superblock) (f : Option Finding) (reason : Option Why) (last : Option Finding) (why : Why) → verdict_by which s f reason last ≡ Foreign why → (f ≡ None) × (reason ≡ Some why)
foreign_of which s (Some f) reason last why e = absurd (cc)
foreign_of which s None (Some reason) last why e = (refl, cc)
foreign_of which s None None (Some f) why e = absurd (cc)
foreign_of which s None None None why e = absurd (cc)

-- what an image with an area's superblock is, by its verdict
pub record IsJudged (img : List ℕ) (v : Verdict) : Type 0 where
  pub area : Which
  pub superblock : Superblock
  pub active : active_area img ≡ picks.Active area
  pub names : active_super img ≡ Some superblock
  pub judged : verdict_with img area (Some superblock) ≡ v

-- a verdict but for the two on areas is that on a superblock
judged_with : (img : List ℕ) (which : Which) (v : Verdict) → active_area img ≡ picks.Active which → (v ≡ NoVolume → ⊥) → (o : Option Superblock) → active_super img ≡ o → verdict_with img which o ≡ v → IsJudged img v
judged_with img which v at some None is e = absurd (some (sym e))
judged_with img which v at some (Some s) is e = record { area = which; superblock = s; active = at; names = is; judged = e }

-- whatever the areas name
judged_at : (img : List ℕ) (v : Verdict) → (v ≡ NoVolume → ⊥) → (v ≡ Disagree → ⊥) → (p : Pick) → active_area img ≡ p → verdict_at img p ≡ v → IsJudged img v
judged_at img v some alike (picks.Active which) at e = judged_with img which v at some (active_super img) refl e
judged_at img v some alike picks.None at e = absurd (some (sym e))
judged_at img v some alike picks.Disagree at e = absurd (alike (sym e))

-- a clean image is sound, with this active area and its superblock
pub clean_sound : (img : List ℕ) (area : Which) (s : Superblock) → verdict_of img ≡ Clean area s → (active_area img ≡ picks.Active area) × (active_super img ≡ Some s) × ((t : Tree) × IsSound img t)
clean_sound img area s e =
    let j : IsJudged img (Clean area s) = judged_at img (Clean area s) (λ q. cc) (λ q. cc) (active_area img) refl e in
    let m : BlockMap = image_blocks img j.superblock in
    let r : Roots = main_roots j.superblock in
    let clear : (j.area ≡ area) × (j.superblock ≡ s) × (finding_of m r ≡ None) × (reason_of m j.superblock j.area (length img) ≡ None) × (last_finding m j.superblock (length img) ≡ None) =
    clear_of j.area area j.superblock s (finding_of m r) (reason_of m j.superblock j.area (length img)) (last_finding m j.superblock (length img)) j.judged in (
      j.active ∙ ap (λ a. picks.Active a) clear.0,
      j.names ∙ ap (λ x. Some x) clear.1,
      (tree_found m r, record { area = j.area; superblock = j.superblock; active = j.active; names = j.names; tree = tree_is m r (walk_sized m r clear.2) clear.2; no_reason = clear.3; no_last = clear.4 }),
    )

-- and a sound image with this active area and superblock is clean with them
pub sound_clean : (img : List ℕ) (t : Tree) (area : Which) (s : Superblock) → IsSound img t → active_area img ≡ picks.Active area → active_super img ≡ Some s → verdict_of img ≡ Clean area s
sound_clean img t area s sound active names =
    let u : Superblock = sound.superblock in
    let m : BlockMap = image_blocks img u in
    let none : finding_of m (main_roots u) ≡ None = no_test_fails m (main_roots u) t (tree_sized m (main_roots u) t sound.tree) sound.tree in
    let same : u ≡ s = same_Some u s (sym sound.names ∙ names) in
    let which : sound.area ≡ area = (let e : picks.Active sound.area ≡ picks.Active area = sym sound.active ∙ active in cc) in
    ap (λ p. verdict_at img p) sound.active ∙ ap (λ o. verdict_with img sound.area o) sound.names
    ∙ (λ i. verdict_by sound.area u (none i) (sound.no_reason i) (sound.no_last i)) ∙ (λ i. Clean (which i) (same i))

-- a foreign image has a tree and this reason
pub judged_foreign : (img : List ℕ) (why : Why) → verdict_of img ≡ Foreign why → IsForeign img why
judged_foreign img why e =
    let j : IsJudged img (Foreign why) = judged_at img (Foreign why) (λ q. cc) (λ q. cc) (active_area img) refl e in
    let m : BlockMap = image_blocks img j.superblock in
    let r : Roots = main_roots j.superblock in
    let clear : (finding_of m r ≡ None) × (reason_of m j.superblock j.area (length img) ≡ Some why) = foreign_of j.area j.superblock (finding_of m r) (reason_of m j.superblock j.area (length img)) (last_finding m j.superblock (length img)) why j.judged in
    record { area = j.area; superblock = j.superblock; active = j.active; names = j.names; tree = tree_found m r; has = tree_is m r (walk_sized m r clear.0) clear.0; reason = clear.1 }

-- and an image with a tree and a reason is foreign
pub foreign_judged : (img : List ℕ) (why : Why) → IsForeign img why → verdict_of img ≡ Foreign why
foreign_judged img why f =
    let m : BlockMap = image_blocks img f.superblock in
    let none : finding_of m (main_roots f.superblock) ≡ None = no_test_fails m (main_roots f.superblock) f.tree (tree_sized m (main_roots f.superblock) f.tree f.has) f.has in
    ap (λ p. verdict_at img p) f.active ∙ ap (λ o. verdict_with img f.area o) f.names
    ∙ (λ i. verdict_by f.area f.superblock (none i) (f.reason i) (last_finding m f.superblock (length img)))

-- the verdict is damaged by what is found, and by nothing else
damaged_of : (which : Which) (s : Superblock) (walk : Option Finding) (reason : Option Why) (last : Option Finding) (f : Finding) → verdict_by which s walk reason last ≡ Damaged f → IsFinding walk reason last f
damaged_of which s (Some g) reason last f e = inl (cc)
damaged_of which s None (Some reason) last f e = absurd (cc)
damaged_of which s None None (Some g) f e = inr (refl, refl, cc)
damaged_of which s None None None f e = absurd (cc)

-- and what is found is the verdict
damaged_by : (which : Which) (s : Superblock) (walk : Option Finding) (reason : Option Why) (last : Option Finding) (f : Finding) → IsFinding walk reason last f → verdict_by which s walk reason last ≡ Damaged f
damaged_by which s walk reason last f (inl e) = ap (λ w. verdict_by which s w reason last) e
damaged_by which s walk reason last f (inr (e, none, l)) = λ i. verdict_by which s (e i) (none i) (l i)

-- an image that is judged damaged has this finding
pub judged_damaged : (img : List ℕ) (f : Finding) → verdict_of img ≡ Damaged f → IsDamaged img f
judged_damaged img f e =
    let j : IsJudged img (Damaged f) = judged_at img (Damaged f) (λ q. cc) (λ q. cc) (active_area img) refl e in
    let m : BlockMap = image_blocks img j.superblock in
    record { area = j.area; superblock = j.superblock; active = j.active; names = j.names; found = damaged_of j.area j.superblock (finding_of m (main_roots j.superblock)) (reason_of m j.superblock j.area (length img)) (last_finding m j.superblock (length img)) f j.judged }

-- and an image that has it is judged so
pub damaged_judged : (img : List ℕ) (f : Finding) → IsDamaged img f → verdict_of img ≡ Damaged f
damaged_judged img f d =
    let m : BlockMap = image_blocks img d.superblock in
    ap (λ p. verdict_at img p) d.active ∙ ap (λ o. verdict_with img d.area o) d.names
    ∙ damaged_by d.area d.superblock (finding_of m (main_roots d.superblock)) (reason_of m d.superblock d.area (length img)) (last_finding m d.superblock (length img)) f d.found
