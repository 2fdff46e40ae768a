-- Images that agree on what the tree holds and on the other half's pointer blocks are sound alike.
use Rattle.std.proofs.Common.{◌≡◌, ◌⊎◌, inl, inr, ℕ, zero, suc, ◌+◌, ◌-◌, ◌*◌, ◌/◌, ◌≤◌, ◌<◌, List, [], ◌∷◌, length, refl, ap, sym, ◌∙◌, subst, arith}
use Rattle.std.specs.Prelude.{◌↔◌, Contains, ◌&&◌, ◌==◌, Option, Some, None, if◌then◌else◌, nat_le, slice_get}
use Rattle.std.specs.List.{list_all}
use Rattle.std.proofs.lemmas.Bool.{cond-true, lt-ltb}
use Rattle.std.proofs.lemmas.Nat.{div_below}
use Rattle.std.proofs.lemmas.Option.{same_Some}
use Rattle.qx_fields.specs.Number.{field}
use Rattle.qx_geom.specs.declared.system.SystemTree.{SystemTree}
use Rattle.qx_geom.specs.declared.system.SystemTree.TheVariants as trees
use Rattle.qx_geom.proofs.BlockSizes.{block_size-bounds}
use Rattle.qx_geom.proofs.SystemBlocks.{IsPointerBlock-above}
use Rattle.qx_geom.proofs.Truths.{and_left}
use Rattle.qx_geom.proofs.VolumeNumbers.{IsGeometry-keeps}
use Rattle.qx_geom.specs.Layout.{IsGeometry, IsPointerBlock, IsTreeBlock, below_level, level_count, levels_for, system_pointer, system_root_of, tree_base, tree_leaves}
use Rattle.qx_geom.specs.Lists.{each_below, first_below}
use Rattle.qx_geom.specs.Pointer.{per_block}
use Rattle.qx_geom.specs.declared.area.Which.TheVariants.{First, Second}
use Rattle.qx_geom.specs.declared.area.Which.{Which}
use Rattle.qx_geom.specs.declared.geometry.Geometry.{Geometry}
use Rattle.qx_geom.specs.declared.root.Root.{Root}
use Rattle.qx_model.specs.Tree.{Tree}
use Rattle.qx_nodes.proofs.ContentLocality.{piece_local, reaches_of}
use Rattle.qx_nodes.proofs.VisitLocality.{visits_local}
use Rattle.qx_nodes.specs.BlockMap.{BlockMap, with_bytes}
use Rattle.qx_nodes.specs.Content.{HasSize, levels_fit}
use Rattle.qx_nodes.specs.Leaves.{leaves_below}
use Rattle.qx_nodes.specs.Visits.{AgreesOn, visits_of}
use Rattle.qx_records.specs.InodeRecord.{inode_in}
use Rattle.qx_super.specs.Active.{active_area, active_super}
use Rattle.qx_super.specs.Superblock.{Superblock}
use Rattle.qx_super.specs.declared.choice.Pick.TheVariants as picks
use Rattle.qx_view.specs.declared.reasons.Foreign.{Foreign as Why}
use Rattle.qx_view.specs.declared.reasons.Reason.TheVariants as reasons
use Rattle.qx_view.proofs.ActiveHalf.{SoundParts, bitmap_leaves_are, halves_right, pointer_held, reason_none, sound_parts}
use Rattle.qx_view.proofs.AlikeLists.{all_alike, below_members, first_alike}
use Rattle.qx_view.proofs.RoomForPointers.{tree_sized}
use Rattle.qx_view.proofs.ReasonsAlike.{bad_long_name_alike, bit_alike, fails_dots_alike, fails_inodes_alike, fails_nodes_alike, fails_tail_alike, none_below}
use Rattle.qx_view.proofs.TreeLocality.{place_within, tree_local}
use Rattle.qx_view.proofs.WalkAlike.{further_agrees, outer_alike, walked_alike}
use Rattle.qx_view.specs.Images.{Roots, block_bytes, image_blocks, inode_of, inode_places, main_roots}
use Rattle.qx_model.specs.Owners.{OfFurther, OfInode, OfInodes, OfLongfile, Owner}
use Rattle.qx_view.specs.Reading.{HasNode, IsEntry, IsHeld, IsTreeOf}
use Rattle.qx_view.specs.Sound.{IsSound, are_counts_right, bad_long_name, bit_differs, fails_dots, fails_inodes, fails_nodes, fails_tail, first_some, has_system_trees, is_laid_out, is_same_root, is_system_tree, last_finding, last_with, outer_blocks, reason_at, reason_of, reason_with, reasons_in, tail_finding, written_geometry}
use Rattle.qx_view.specs.Walk.{walked_inodes}

-- ---- the halves

module _ (m : BlockMap) (bytes : ℕ → List ℕ) (g : Geometry) (volume : IsGeometry g) (each : m.size ≡ g.blocksize) where
  -- a system tree is as it must be, or not, by the bytes of its pointer blocks
  system_tree_alike : (which : Which) (tree : SystemTree) → ((b : ℕ) → IsPointerBlock g which tree b → m.bytes b ≡ bytes b)
      → is_system_tree m (tree_base g which tree) (tree_leaves g tree) ≡ is_system_tree (with_bytes m bytes) (tree_base g which tree) (tree_leaves g tree)
  system_tree_alike which tree same =
      all_alike _ _ (each_below (levels_for m.size (tree_leaves g tree)) (λ k. k)) (λ k c.
      all_alike _ _ (each_below (level_count m.size (tree_leaves g tree) (suc k)) (λ j. j)) (λ j d.
      let low : suc k ≤ levels_for m.size (tree_leaves g tree) = below_members (levels_for m.size (tree_leaves g tree)) k c in
      let there : j < level_count m.size (tree_leaves g tree) (suc k) = below_members (level_count m.size (tree_leaves g tree) (suc k)) j d in
      let pointer : system_pointer m.size (tree_base g which tree) (tree_leaves g tree) (suc k) j ≡ tree_base g which tree + below_level m.size (tree_leaves g tree) (suc k) + j = cond-true _ _ _ (lt-ltb j (level_count m.size (tree_leaves g tree) (suc k)) there) in
      let placed : IsTreeBlock g which tree (suc k) j (tree_base g which tree + below_level m.size (tree_leaves g tree) (suc k) + j) = record {
        level_there = subst (λ z. suc k ≤ levels_for z (tree_leaves g tree)) each low;
        index_there = subst (λ z. j < level_count z (tree_leaves g tree) (suc k)) each there;
        place = ap (λ z. tree_base g which tree + below_level z (tree_leaves g tree) (suc k) + j) each;
      } in
      let alike : m.bytes (system_pointer m.size (tree_base g which tree) (tree_leaves g tree) (suc k) j) ≡ bytes (system_pointer m.size (tree_base g which tree) (tree_leaves g tree) (suc k) j) =
      subst (λ b. m.bytes b ≡ bytes b) (sym pointer) (same (tree_base g which tree + below_level m.size (tree_leaves g tree) (suc k) + j) (IsPointerBlock-above g which tree volume (suc k) j _ (omega arith) placed)) in
      all_alike _ _ (each_below (per_block m.size) (λ w. w)) (λ w e. ap (λ bs. field m.order 4 bs (4 * w) == system_pointer m.size (tree_base g which tree) (tree_leaves g tree) k (j * per_block m.size + w)) alike)))

  -- so is a half
  half_alike : (which : Which) → ((tree : SystemTree) (b : ℕ) → IsPointerBlock g which tree b → m.bytes b ≡ bytes b) → has_system_trees m g which ≡ has_system_trees (with_bytes m bytes) g which
  half_alike which same = λ i. system_tree_alike which trees.Bitmap (same trees.Bitmap) i && system_tree_alike which trees.Inodes (same trees.Inodes) i

-- ---- the reasons

-- where the first of some is nothing, each is
each_none : {A : Type 0} (os : List (Option A)) (k : ℕ) (o : Option A) → first_some os ≡ None → slice_get os k ≡ Some o → o ≡ None
each_none [] k o e at = absurd (cc)
each_none (None ∷ os) zero o e at = cc
each_none (None ∷ os) (suc k) o e at = each_none os k o e at
each_none (Some x ∷ os) k o e at = absurd (cc)

-- the first of two that is there is the first of more
first_of_two : {A : Type 0} (a b : Option A) (os : List (Option A)) (x : A) → first_some (a ∷ b ∷ []) ≡ Some x → first_some (a ∷ b ∷ os) ≡ Some x
first_of_two (Some y) b os x e = e
first_of_two None (Some y) os x e = e
first_of_two None None os x e = absurd (cc)

module _ (m : BlockMap) (bytes : ℕ → List ℕ) (s : Superblock) (t : Tree) (size : HasSize m) (is : IsTreeOf m (main_roots s) t) (held : (b : ℕ) → IsHeld m (main_roots s) t b → m.bytes b ≡ bytes b) where
  -- the halves are laid out alike
  laid_out_alike : (g : Geometry) (which : Which) → ((h : Which) → has_system_trees m g h ≡ has_system_trees (with_bytes m bytes) g h)
      → (is_laid_out m s g which && list_all (λ b. nat_le (2 * g.half) b) (outer_blocks m (main_roots s))) ≡ (is_laid_out (with_bytes m bytes) s g which && list_all (λ b. nat_le (2 * g.half) b) (outer_blocks m (main_roots s)))
  laid_out_alike g which halves = λ i. (is_same_root s.bitmap (system_root_of g which trees.Bitmap) && (is_same_root s.inode (system_root_of g which trees.Inodes) && (halves First i && halves Second i))) && list_all (λ b. nat_le (2 * g.half) b) (outer_blocks m (main_roots s))

  -- and the same bit differs first
  bits_alike : (g : Geometry) → leaves_below m s.bitmap ≡ g.bitmap_leaves
      → first_below (bit_differs m s.bitmap g (outer_blocks m (main_roots s))) (g.bitmap_leaves * m.size * 8) ≡ first_below (bit_differs (with_bytes m bytes) s.bitmap g (outer_blocks m (main_roots s))) (g.bitmap_leaves * m.size * 8)
  bits_alike g leaves =
      let bitmap = further_agrees m bytes (main_roots s) t size is held 0 s.bitmap refl (and_left _ _ (and_left _ _ is.further_fit)) in
      first_alike _ _ (g.bitmap_leaves * m.size * 8) (λ b low. bit_alike m bytes (main_roots s) t size is held s.bitmap g (outer_blocks m (main_roots s)) b bitmap
      (subst (λ n. b / 8 / m.size < n) (sym leaves) (div_below (b / 8) m.size g.bitmap_leaves size.size (div_below b 8 (g.bitmap_leaves * m.size) (omega arith) low))))

  -- the reasons are asked of the same blocks and inodes
  reasons_of_same : (g : Geometry) (which : Which) → first_some (reasons_in (with_bytes m bytes) s g which (main_roots s) (outer_blocks m (main_roots s)) (walked_inodes m (main_roots s)))
      ≡ first_some (reasons_in (with_bytes m bytes) s g which (main_roots s) (outer_blocks (with_bytes m bytes) (main_roots s)) (walked_inodes (with_bytes m bytes) (main_roots s)))
  reasons_of_same g which = λ i. first_some (reasons_in (with_bytes m bytes) s g which (main_roots s) (outer_alike m bytes (main_roots s) t size is held i) (walked_alike m bytes (main_roots s) t size is held i))

  -- where the halves or the bitmap are a reason, they are the same one
  pub halves_or_bitmap_alike : (g : Geometry) (which : Which) (why : Why) → leaves_below m s.bitmap ≡ g.bitmap_leaves → ((h : Which) → has_system_trees m g h ≡ has_system_trees (with_bytes m bytes) g h)
      → first_some (reason_at reasons.Halves (if is_laid_out m s g which && list_all (λ b. nat_le (2 * g.half) b) (outer_blocks m (main_roots s)) then None else Some 0)
      ∷ reason_at reasons.Bitmap (first_below (bit_differs m s.bitmap g (outer_blocks m (main_roots s))) (g.bitmap_leaves * m.size * 8)) ∷ []) ≡ Some why
      → first_some (reasons_in (with_bytes m bytes) s g which (main_roots s) (outer_blocks (with_bytes m bytes) (main_roots s)) (walked_inodes (with_bytes m bytes) (main_roots s))) ≡ Some why
  halves_or_bitmap_alike g which why leaves halves two =
      sym (reasons_of_same g which) ∙ first_of_two _ _ _ why (sym same ∙ two)
    where
      same : first_some (reason_at reasons.Halves (if is_laid_out m s g which && list_all (λ b. nat_le (2 * g.half) b) (outer_blocks m (main_roots s)) then None else Some 0)
          ∷ reason_at reasons.Bitmap (first_below (bit_differs m s.bitmap g (outer_blocks m (main_roots s))) (g.bitmap_leaves * m.size * 8)) ∷ [])
          ≡ first_some (reason_at reasons.Halves (if is_laid_out (with_bytes m bytes) s g which && list_all (λ b. nat_le (2 * g.half) b) (outer_blocks m (main_roots s)) then None else Some 0)
          ∷ reason_at reasons.Bitmap (first_below (bit_differs (with_bytes m bytes) s.bitmap g (outer_blocks m (main_roots s))) (g.bitmap_leaves * m.size * 8)) ∷ [])
      same = λ i. first_some (reason_at reasons.Halves (if laid_out_alike g which halves i then None else Some 0) ∷ reason_at reasons.Bitmap (bits_alike g leaves i) ∷ [])

  -- no reason applies, where none does and the words of both halves are the same
  pub reasons_alike : (g : Geometry) (which : Which) → 64 ≤ m.size → leaves_below m s.bitmap ≡ g.bitmap_leaves → ((h : Which) → has_system_trees m g h ≡ has_system_trees (with_bytes m bytes) g h)
      → first_some (reasons_in m s g which (main_roots s) (outer_blocks m (main_roots s)) (walked_inodes m (main_roots s))) ≡ None → first_some (reasons_in (with_bytes m bytes) s g which (main_roots s) (outer_blocks (with_bytes m bytes) (main_roots s)) (walked_inodes (with_bytes m bytes) (main_roots s))) ≡ None
  reasons_alike g which large leaves halves none =
      let nodes : first_below (fails_nodes m (main_roots s) (walked_inodes m (main_roots s))) (inode_places (main_roots s) + 1) ≡ None = reason_none reasons.Nodes (first_below (fails_nodes m (main_roots s) (walked_inodes m (main_roots s))) (inode_places (main_roots s) + 1)) (each_none (reasons_in m s g which (main_roots s) (outer_blocks m (main_roots s)) (walked_inodes m (main_roots s))) 2 _ none refl) in
      let e2 = laid_out_alike g which halves in
      let e3 = bits_alike g leaves in
      let e4 : first_below (fails_nodes m (main_roots s) (walked_inodes m (main_roots s))) (inode_places (main_roots s) + 1) ≡ first_below (fails_nodes (with_bytes m bytes) (main_roots s) (walked_inodes m (main_roots s))) (inode_places (main_roots s) + 1) = first_alike _ _ (inode_places (main_roots s) + 1) (λ n low. fails_nodes_alike m bytes (main_roots s) t size is held n) in
      let e5 : first_below (fails_dots m (main_roots s) (walked_inodes m (main_roots s))) (inode_places (main_roots s) + 1) ≡ first_below (fails_dots (with_bytes m bytes) (main_roots s) (walked_inodes m (main_roots s))) (inode_places (main_roots s) + 1) =
      first_alike _ _ (inode_places (main_roots s) + 1) (λ n low. fails_dots_alike m bytes (main_roots s) t size is held large n (none_below (fails_nodes m (main_roots s) (walked_inodes m (main_roots s))) (inode_places (main_roots s) + 1) n nodes low)) in
      let e6 : first_below (fails_inodes m (main_roots s) (walked_inodes m (main_roots s))) (inode_places (main_roots s) + 1) ≡ first_below (fails_inodes (with_bytes m bytes) (main_roots s) (walked_inodes m (main_roots s))) (inode_places (main_roots s) + 1) = first_alike _ _ (inode_places (main_roots s) + 1) (λ n low. fails_inodes_alike m bytes (main_roots s) t size is held n low) in
      let e7 : bad_long_name m (main_roots s) (walked_inodes m (main_roots s)) ≡ bad_long_name (with_bytes m bytes) (main_roots s) (walked_inodes m (main_roots s)) = bad_long_name_alike m bytes (main_roots s) t size is held in
      let same : first_some (reasons_in m s g which (main_roots s) (outer_blocks m (main_roots s)) (walked_inodes m (main_roots s))) ≡ first_some (reasons_in (with_bytes m bytes) s g which (main_roots s) (outer_blocks m (main_roots s)) (walked_inodes m (main_roots s))) =
      λ i. first_some (reason_at reasons.Halves (if e2 i then None else Some 0) ∷ reason_at reasons.Bitmap (e3 i) ∷ reason_at reasons.Nodes (e4 i) ∷ reason_at reasons.Dots (e5 i) ∷ reason_at reasons.Inodes (e6 i) ∷ reason_at reasons.LongNames (e7 i) ∷ []) in
      sym (same ∙ reasons_of_same g which) ∙ none

  -- the same is found last
  pub last_alike : (o : Option Geometry) → last_with m s o ≡ last_with (with_bytes m bytes) s o
  last_alike None = refl
  last_alike (Some g) =
      let tails : first_below (fails_tail m (main_roots s) (walked_inodes m (main_roots s))) (inode_places (main_roots s) + 1) ≡ first_below (fails_tail (with_bytes m bytes) (main_roots s) (walked_inodes m (main_roots s))) (inode_places (main_roots s) + 1) =
      first_alike _ _ (inode_places (main_roots s) + 1) (λ n low. fails_tail_alike m bytes (main_roots s) t size is held n) in
      let counts : are_counts_right m s g (main_roots s) (walked_inodes m (main_roots s)) ≡ are_counts_right (with_bytes m bytes) s g (main_roots s) (walked_inodes m (main_roots s)) =
      ap (λ blocks. (s.free_blocks + length blocks == g.num_blocks - 2 * g.half) && (s.free_inodes + length (walked_inodes m (main_roots s)) == s.num_inodes)) (outer_alike m bytes (main_roots s) t size is held) in
      (λ i. tail_finding (tails i) (counts i))
      ∙ ap (λ reached. tail_finding (first_below (fails_tail (with_bytes m bytes) (main_roots s) reached) (inode_places (main_roots s) + 1)) (are_counts_right (with_bytes m bytes) s g (main_roots s) reached)) (walked_alike m bytes (main_roots s) t size is held)

-- ---- images

-- an area is another or not
same_area : (a b : Which) → (a ≡ b) ⊎ (a ≡ b → ⊥)
same_area First First = inl refl
same_area First Second = inr (λ e. cc)
same_area Second First = inr (λ e. cc)
same_area Second Second = inl refl

-- a sound image has a geometry
pub geometry_there : (m : BlockMap) (s : Superblock) (which : Which) (o : Option Geometry) → reason_with m s which o ≡ None → (g : Geometry) × (o ≡ Some g)
geometry_there m s which None e = absurd (cc)
geometry_there m s which (Some g) e = (g, refl)

-- images that agree on what the tree holds and on the other half's pointer blocks are sound alike
sound_local : (img other : List ℕ) (t : Tree) → length other ≡ length img → active_area other ≡ active_area img → active_super other ≡ active_super img
    → ((s : Superblock) → active_super img ≡ Some s → (b : ℕ) → IsHeld (image_blocks img s) (main_roots s) t b → block_bytes img s.blocksize b ≡ block_bytes other s.blocksize b)
    → ((s : Superblock) (g : Geometry) (which : Which) (tree : SystemTree) → active_super img ≡ Some s → written_geometry s (length img) ≡ Some g → (active_area img ≡ picks.Active which → ⊥)
    → (b : ℕ) → IsPointerBlock g which tree b → block_bytes img s.blocksize b ≡ block_bytes other s.blocksize b)
    → IsSound img t → IsSound other t
sound_local img other t len area super held pointers sound =
    let g = geometry_there (image_blocks img sound.superblock) sound.superblock sound.area (written_geometry sound.superblock (length img)) sound.no_reason in
    with_geometry g.0 g.1
  where
    with_geometry : (g : Geometry) → written_geometry sound.superblock (length img) ≡ Some g → IsSound other t
    with_geometry g written =
        let p : SoundParts img t sound.area sound.superblock g = sound_parts img t sound.area sound.superblock g sound sound.active sound.names written in
        let own : (b : ℕ) → IsHeld (image_blocks img sound.superblock) (main_roots sound.superblock) t b → block_bytes img sound.superblock.blocksize b ≡ block_bytes other sound.superblock.blocksize b = held sound.superblock sound.names in
        let right = (halves_right (image_blocks img sound.superblock) sound.superblock g sound.area p.none).0 in
        let words : (h : Which) (tree : SystemTree) (b : ℕ) → IsPointerBlock g h tree b → block_bytes img sound.superblock.blocksize b ≡ block_bytes other sound.superblock.blocksize b = λ h tree b q. elim (same_area sound.area h) [
          | inl here ↦ own b (pointer_held (image_blocks img sound.superblock) sound.superblock g sound.area p.geometry refl refl right t tree b (subst (λ w. IsPointerBlock g w tree b) (sym here) q))
          | inr apart ↦ pointers sound.superblock g h tree sound.names written (λ e. apart (active_one sound.area h (sym sound.active ∙ e))) b q
        ] in
        let halves : (h : Which) → has_system_trees (image_blocks img sound.superblock) g h ≡ has_system_trees (image_blocks other sound.superblock) g h = λ h. half_alike (image_blocks img sound.superblock) (block_bytes other sound.superblock.blocksize) g p.geometry.volume p.geometry.size h (words h) in
        let bounds = block_size-bounds g.blocksize (IsGeometry-keeps g p.geometry.volume).block_size in
        let none : first_some (reasons_in (image_blocks other sound.superblock) sound.superblock g sound.area (main_roots sound.superblock) (outer_blocks (image_blocks other sound.superblock) (main_roots sound.superblock)) (walked_inodes (image_blocks other sound.superblock) (main_roots sound.superblock))) ≡ None =
        reasons_alike (image_blocks img sound.superblock) (block_bytes other sound.superblock.blocksize) sound.superblock t p.size p.tree own g sound.area (omega (arith, bounds.size_from, p.geometry.size))
        (bitmap_leaves_are (image_blocks img sound.superblock) sound.superblock g sound.area p.geometry refl refl right) halves p.none in
        let last : last_with (image_blocks other sound.superblock) sound.superblock (written_geometry sound.superblock (length img)) ≡ None =
        sym (last_alike (image_blocks img sound.superblock) (block_bytes other sound.superblock.blocksize) sound.superblock t p.size p.tree own (written_geometry sound.superblock (length img))) ∙ sound.no_last in
        record {
          area = sound.area;
          superblock = sound.superblock;
          active = area ∙ sound.active;
          names = super ∙ sound.names;
          tree = tree_local (image_blocks img sound.superblock) (block_bytes other sound.superblock.blocksize) (main_roots sound.superblock) t p.size p.tree own;
          no_reason = ap (λ n. reason_of (image_blocks other sound.superblock) sound.superblock sound.area n) len ∙ ap (λ o. reason_with (image_blocks other sound.superblock) sound.superblock sound.area o) written ∙ none;
          no_last = ap (λ n. last_finding (image_blocks other sound.superblock) sound.superblock n) len ∙ last;
        }
      where
        active_one : (a b : Which) → picks.Active a ≡ picks.Active b → a ≡ b
        active_one a b e = cc

-- ---- the other way

module _ (m : BlockMap) (bytes : ℕ → List ℕ) (r : Roots) (t : Tree) (size : HasSize m) (is : IsTreeOf (with_bytes m bytes) r t) (held : (b : ℕ) → IsHeld m r t b → m.bytes b ≡ bytes b) where
  -- what a node meets is the same
  node_same : (o : Owner) (node : Root) → HasNode m r t o node → AgreesOn m bytes (visits_of m node)
  node_same o node h v c = held v.block (o, v, (node, h, c), refl)

  -- so the nodes of the tree are
  owner_back : (o : Owner) (node : Root) → HasNode (with_bytes m bytes) r t o node → HasNode m r t o node
  owner_back OfInodes node h = h
  owner_back OfLongfile node h = h
  owner_back (OfFurther k) node h = h
  owner_back (OfInode n) node (e, at, some, root) =
      let i : IsEntry (with_bytes m bytes) r n e = is.each n e at in
      let same : inode_of m r.inodes n ≡ inode_of (with_bytes m bytes) r.inodes n = ap (λ bs. inode_in m.order bs)
      (piece_local m bytes r.inodes ((n - 1) * 128) 128 (reaches_of m r.inodes size (and_left (levels_fit m r.inodes) _ is.inodes_fit))
      (omega (arith, i.positive, place_within r.inodes n i.there)) (node_same OfInodes r.inodes refl)) in
      (e, at, some, root ∙ sym (ap (λ x. x.root) same))

  -- and what a tree of the other bytes holds is the same
  held_back : (b : ℕ) → IsHeld (with_bytes m bytes) r t b → bytes b ≡ m.bytes b
  held_back b (o, v, (node, h, c), e) =
      let own : HasNode m r t o node = owner_back o node h in
      let met : Contains (visits_of m node) v = subst (λ vs. Contains vs v) (sym (visits_local m bytes node (node_same o node own))) c in
      sym (held b (o, v, (node, own, met), e))

-- where the other image is sound, this one is
sound_back : (img other : List ℕ) (t : Tree) → length other ≡ length img → active_area other ≡ active_area img → active_super other ≡ active_super img
    → ((s : Superblock) → active_super img ≡ Some s → (b : ℕ) → IsHeld (image_blocks img s) (main_roots s) t b → block_bytes img s.blocksize b ≡ block_bytes other s.blocksize b)
    → ((s : Superblock) (g : Geometry) (which : Which) (tree : SystemTree) → active_super img ≡ Some s → written_geometry s (length img) ≡ Some g → (active_area img ≡ picks.Active which → ⊥)
    → (b : ℕ) → IsPointerBlock g which tree b → block_bytes img s.blocksize b ≡ block_bytes other s.blocksize b)
    → IsSound other t → IsSound img t
sound_back img other t len area super held pointers sound = sound_local other img t (sym len) (sym area) (sym super)
    (λ s names b h.
    let tree : IsTreeOf (image_blocks other s) (main_roots s) t = subst (λ x. IsTreeOf (image_blocks other x) (main_roots x) t) (same_Some sound.superblock s (sym sound.names ∙ names)) sound.tree in
    let room : HasSize (image_blocks other s) = tree_sized (image_blocks other s) (main_roots s) t tree in
    held_back (image_blocks img s) (block_bytes other s.blocksize) (main_roots s) t (record { size = room.size; words = room.words }) tree (held s (sym super ∙ names)) b h)
    (λ s g which tree names written apart b p. sym (pointers s g which tree (sym super ∙ names) (ap (λ n. written_geometry s n) (sym len) ∙ written) (λ e. apart (area ∙ e)) b p)) sound

-- so both are sound with one tree, or neither is
pub sound_together : (img other : List ℕ) (t : Tree) → length other ≡ length img → active_area other ≡ active_area img → active_super other ≡ active_super img
    → ((s : Superblock) → active_super img ≡ Some s → (b : ℕ) → IsHeld (image_blocks img s) (main_roots s) t b → block_bytes img s.blocksize b ≡ block_bytes other s.blocksize b)
    → ((s : Superblock) (g : Geometry) (which : Which) (tree : SystemTree) → active_super img ≡ Some s → written_geometry s (length img) ≡ Some g → (active_area img ≡ picks.Active which → ⊥)
    → (b : ℕ) → IsPointerBlock g which tree b → block_bytes img s.blocksize b ≡ block_bytes other s.blocksize b)
    → IsSound img t ↔ IsSound other t
sound_together img other t len area super held pointers = (sound_local img other t len area super held pointers, sound_back img other t len area super held pointers)
