-- The blocks of a new volume, and the bytes of each by its place.
use Rattle.std.proofs.Common.{◌≡◌, ℕ, inl, inr, ◌+◌, ◌-◌, ◌≤◌, ◌<◌, ◌^◌, List, Bool, true, false, Result, Ok, Err, nat_lt, refl, ap, sym, ◌∙◌, subst, arith}
use Rattle.std.specs.Prelude.{if◌then◌else◌, ◌||◌, not}
use Rattle.std.proofs.lemmas.Bool.{cases_lt, cond-true, cond-false, lt-ltb, le-ltb}
use Rattle.qx_fields.specs.declared.order.Order.{Order}
use Rattle.qx_geom.specs.declared.system.SystemTree.{SystemTree}
use Rattle.qx_geom.specs.declared.system.SystemTree.TheVariants as trees
use Rattle.qx_geom.specs.declared.area.Which.{Which}
use Rattle.qx_geom.specs.declared.area.Which.TheVariants.{First, Second}
use Rattle.qx_geom.specs.declared.geometry.Geometry.{Geometry}
use Rattle.qx_geom.specs.declared.geometry.GeomFault.{GeomFault}
use Rattle.qx_geom.specs.declared.geometry.GeomFault.TheVariants.{BlockSize, Inodes}
use Rattle.qx_geom.specs.Layout.{IsGeometry, IsPointerBlock, first_block, geometry_of, is_block_size, tree_base, tree_leaves, tree_size}
use Rattle.qx_geom.specs.Pointer.{ceil_div}
use Rattle.qx_geom.proofs.VolumeNumbers.{IsGeometry-keeps, VolumeNumbers, geometry_of-numbers}
use Rattle.qx_nodes.specs.BlockMap.{BlockMap}
use Rattle.qx_make.specs.Blocks.{AreMade, half_block_bytes, inode_leaf_bytes, is_top, made_block_bytes, top_block, top_directory_bytes}
use Rattle.qx_system.specs.SystemBytes.{bitmap_leaf_bytes, pointer_block_bytes}

-- the blocks of a volume, of which those that the maker writes are as it wrote them at a moment
pub record NewBlocks : Type 0 where
  pub geometry : Geometry
  pub order : Order
  pub moment : ℕ
  pub bytes : ℕ → List ℕ
  pub whole : IsGeometry geometry
  pub now : moment < 2 ^ 32
  pub made : (b : ℕ) → b ≤ top_block geometry → bytes b ≡ made_block_bytes geometry order moment b

-- those blocks
abbrev pub blocks : NewBlocks → BlockMap
blocks v = record { order = v.order; size = v.geometry.blocksize; count = v.geometry.num_blocks; bytes = v.bytes }

-- made blocks are such blocks
abbrev pub new_blocks : (g : Geometry) (order : Order) (moment : ℕ) (m : BlockMap) → IsGeometry g → moment < 2 ^ 32 → AreMade g order moment m → NewBlocks
new_blocks g order moment m whole now made = record { geometry = g; order = order; moment = moment; bytes = m.bytes; whole = whole; now = now; made = made.bytes }

-- and no others
pub blocks_are : (g : Geometry) (order : Order) (moment : ℕ) (m : BlockMap) (whole : IsGeometry g) (now : moment < 2 ^ 32) (made : AreMade g order moment m) → blocks (new_blocks g order moment m whole now made) ≡ m
blocks_are g order moment m whole now made =
    let order_is : order ≡ m.order = sym made.order_is in
    let size : g.blocksize ≡ m.size = sym made.size in
    let count : g.num_blocks ≡ m.count = sym made.count in
    λ i. record { order = order_is i; size = size i; count = count i; bytes = m.bytes }

-- ---- the numbers

-- a volume has 16 inodes at least
pub inodes_from : (g : Geometry) → IsGeometry g → 16 ≤ g.num_inodes
unfolding geometry_of
inodes_from g e = elim (cases_lt g.num_inodes 16) [ inl few ↦ absurd (refused few) | inr enough ↦ enough ]
  where
    -- the test of the inodes comes second
    refusal : (sized : Bool) (few : Bool) (large rest : Bool) (x y : Result Geometry GeomFault) → sized ≡ true → few ≡ true → (if not sized then x else if few || large then Err Inodes else y) ≡ Err Inodes
    refusal true true large rest x y t f = refl
    refusal true false large rest x y t f = absurd (cc)
    refusal false few large rest x y t f = absurd (cc)

    -- so few inodes are refused
    fault : g.num_inodes < 16 → geometry_of g.len4 g.blocksize g.num_inodes ≡ Err Inodes
    fault few = refusal (is_block_size g.blocksize) (nat_lt g.num_inodes 16) (nat_lt 1048576 g.num_inodes) true (Err BlockSize) _ (IsGeometry-keeps g e).block_size (lt-ltb g.num_inodes 16 few)

    -- which a geometry isn't
    refused : g.num_inodes < 16 → ⊥
    refused few = let one : geometry_of g.len4 g.blocksize g.num_inodes ≡ Err Inodes = fault few in let other : geometry_of g.len4 g.blocksize g.num_inodes ≡ Ok g = e in cc

-- a tree has as many leaves as its size fills
pub leaves_filled : (g : Geometry) (tree : SystemTree) → IsGeometry g → ceil_div (tree_size g tree) g.blocksize ≡ tree_leaves g tree
leaves_filled g trees.Bitmap e = subst (λ (h : Geometry). ceil_div (tree_size h trees.Bitmap) h.blocksize ≡ tree_leaves h trees.Bitmap) (geometry_of-numbers g.len4 g.blocksize g.num_inodes g e) refl
leaves_filled g trees.Inodes e = subst (λ (h : Geometry). ceil_div (tree_size h trees.Inodes) h.blocksize ≡ tree_leaves h trees.Inodes) (geometry_of-numbers g.len4 g.blocksize g.num_inodes g e) refl

module _ (v : NewBlocks) where
  -- the volume's numbers
  abbrev g : Geometry
  g = v.geometry

  -- what is known of the numbers
  numbers : VolumeNumbers g
  numbers = IsGeometry-keeps g v.whole

  -- ---- bytes

  -- block r of an area's half
  half_bytes : (which : Which) (r : ℕ) → r < g.half → v.bytes (first_block g which + r) ≡ half_block_bytes g v.order v.moment which r
  unfolding made_block_bytes
  half_bytes First r low =
      let same : 0 + r ≡ r = omega arith in
      v.made (0 + r) (omega arith) ∙ cond-true _ _ _ (lt-ltb (0 + r) g.half (omega arith)) ∙ ap (λ k. half_block_bytes g v.order v.moment First k) same
  half_bytes Second r low =
      let same : g.half + r - g.half ≡ r = omega arith in
      v.made (g.half + r) (omega arith) ∙ cond-false _ _ _ (le-ltb (g.half + r) g.half (omega arith)) ∙ cond-true _ _ _ (lt-ltb (g.half + r) (top_block g) (omega arith)) ∙ ap (λ k. half_block_bytes g v.order v.moment Second k) same

  -- a leaf of the bitmap
  pub bitmap_bytes : (which : Which) (i : ℕ) → i < g.bitmap_leaves → v.bytes (tree_base g which trees.Bitmap + i) ≡ bitmap_leaf_bytes g (is_top g) i
  bitmap_bytes which i low = let n = numbers in half_bytes which i (omega arith) ∙ cond-true _ _ _ (lt-ltb i g.bitmap_leaves low)

  -- a leaf of the Inode tree
  pub inode_leaf : (which : Which) (i : ℕ) → i < g.inode_leaves → v.bytes (tree_base g which trees.Inodes + i) ≡ inode_leaf_bytes g v.order v.moment i
  inode_leaf which i low =
      let n = numbers in
      let r : ℕ = g.bitmap_leaves + g.bitmap_pointers + i in
      let place : tree_base g which trees.Inodes + i ≡ first_block g which + r = omega arith in
      let back : r - (g.bitmap_leaves + g.bitmap_pointers) ≡ i = omega arith in
      ap v.bytes place ∙ half_bytes which r (omega arith)
      ∙ cond-false _ _ _ (le-ltb r g.bitmap_leaves (omega arith))
      ∙ cond-false _ _ _ (le-ltb r (g.bitmap_leaves + g.bitmap_pointers) (omega arith))
      ∙ cond-true _ _ _ (lt-ltb r (g.bitmap_leaves + g.bitmap_pointers + g.inode_leaves) (omega arith))
      ∙ ap (λ k. inode_leaf_bytes g v.order v.moment k) back

  -- a pointer block
  pub pointer_bytes : (which : Which) (tree : SystemTree) (b : ℕ) → IsPointerBlock g which tree b → v.bytes b ≡ pointer_block_bytes g v.order which tree b
  pointer_bytes which trees.Bitmap b p =
      let n = numbers in
      let r : ℕ = b - first_block g which in
      let place : b ≡ first_block g which + r = omega (arith, p.from) in
      ap v.bytes place ∙ half_bytes which r (omega (arith, p.from, p.to))
      ∙ cond-false _ _ _ (le-ltb r g.bitmap_leaves (omega (arith, p.from)))
      ∙ cond-true _ _ _ (lt-ltb r (g.bitmap_leaves + g.bitmap_pointers) (omega (arith, p.to)))
      ∙ ap (λ k. pointer_block_bytes g v.order which trees.Bitmap k) (sym place)
  pointer_bytes which trees.Inodes b p =
      let n = numbers in
      let r : ℕ = b - first_block g which in
      let place : b ≡ first_block g which + r = omega (arith, p.from) in
      ap v.bytes place ∙ half_bytes which r (omega (arith, p.from, p.to))
      ∙ cond-false _ _ _ (le-ltb r g.bitmap_leaves (omega (arith, p.from)))
      ∙ cond-false _ _ _ (le-ltb r (g.bitmap_leaves + g.bitmap_pointers) (omega (arith, p.from)))
      ∙ cond-false _ _ _ (le-ltb r (g.bitmap_leaves + g.bitmap_pointers + g.inode_leaves) (omega (arith, p.from)))
      ∙ ap (λ k. pointer_block_bytes g v.order which trees.Inodes k) (sym place)

  -- the root directory's block
  pub top_bytes : v.bytes (top_block g) ≡ top_directory_bytes v.order g.blocksize
  unfolding made_block_bytes
  top_bytes = v.made (top_block g) (omega arith) ∙ cond-false _ _ _ (le-ltb (top_block g) g.half (omega arith)) ∙ cond-false _ _ _ (le-ltb (top_block g) (top_block g) (omega arith))
