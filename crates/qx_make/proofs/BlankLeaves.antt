-- Leaves of the Inode tree without an inode, which are 0.
use Rattle.std.proofs.Common.{◌≡◌, inl, inr, ℕ, zero, suc, ◌+◌, ◌-◌, ◌*◌, ◌≤◌, ◌<◌, Bool, List, ◌++◌, replicate, ap, ◌∙◌, arith, if◌then◌else◌}
use Rattle.std.specs.Prelude.{nat_lt}
use Rattle.std.specs.List.{flat_map, range_with_len}
use Rattle.std.proofs.lemmas.Bool.{cases_lt, le-ltb, lt-ltb, ne_eqb}
use Rattle.std.proofs.lemmas.List.{replicate-append-replicate}
use Rattle.qx_fields.specs.declared.order.Order.{Order}
use Rattle.qx_geom.specs.declared.system.SystemTree.TheVariants as trees
use Rattle.qx_geom.specs.declared.area.Which.{Which}
use Rattle.qx_geom.specs.declared.area.Which.TheVariants.{First, Second}
use Rattle.qx_geom.specs.declared.geometry.Geometry.{Geometry}
use Rattle.qx_geom.specs.Layout.{IsGeometry, first_block}
use Rattle.qx_geom.proofs.VolumeNumbers.{IsGeometry-keeps}
use Rattle.qx_records.specs.WrittenInode.{inode_bytes}
use Rattle.qx_system.specs.SystemBytes.{bitmap_leaf_bytes, pointer_block_bytes}
use Rattle.qx_make.specs.Blocks.{blocks_bytes, half_block_bytes, inode_leaf_bytes, is_top, made_block_bytes, top_block, top_directory_bytes, top_inode}

-- parts of 0
zero_parts : (f : ℕ → List ℕ) (size n a : ℕ) → ((b : ℕ) → a ≤ b → b < a + n → f b ≡ replicate size 0) → flat_map f (range_with_len a n) ≡ replicate (n * size) 0
zero_parts f size zero a each = ap (λ k. replicate k 0) (let none : 0 ≡ 0 * size = omega arith in none)
zero_parts f size (suc n) a each =
    ap (λ (l : List ℕ). l ++ flat_map f (range_with_len (a + 1) n)) (each a (omega arith) (omega arith))
    ∙ ap (λ (l : List ℕ). replicate size 0 ++ l) (zero_parts f size n (a + 1) (λ b from to. each b (omega (arith, from)) (omega (arith, to))))
    ∙ replicate-append-replicate size (n * size) 0
    ∙ ap (λ k. replicate k 0) (let one : size + n * size ≡ suc n * size = omega arith in one)

module _ (g : Geometry) (e : IsGeometry g) (order : Order) (moment : ℕ) where
  -- the first leaf of the Inode tree in a half
  abbrev leaf : ℕ
  leaf = g.bitmap_leaves + g.bitmap_pointers

  blank_leaf : (i : ℕ) → 0 < i → inode_leaf_bytes g order moment i ≡ replicate g.blocksize 0
  unfolding inode_leaf_bytes
  blank_leaf i later =
      ap (λ (first : Bool). if first then inode_bytes order (top_inode g.blocksize (top_block g) moment) ++ replicate (g.blocksize - 128) 0 else replicate g.blocksize 0)
      (ne_eqb i 0 (λ is. omega (arith, is, later)))

  blank_in_half : (which : Which) (r : ℕ) → leaf < r → r < leaf + g.inode_leaves → half_block_bytes g order moment which r ≡ replicate g.blocksize 0
  blank_in_half which r from to =
      let bitmap = bitmap_leaf_bytes g (is_top g) r in
      let pointers = pointer_block_bytes g order which trees.Bitmap (first_block g which + r) in
      let inodes = inode_leaf_bytes g order moment (r - leaf) in
      let above = pointer_block_bytes g order which trees.Inodes (first_block g which + r) in
      ap (λ (t : Bool). if t then bitmap else if nat_lt r leaf then pointers else if nat_lt r (leaf + g.inode_leaves) then inodes else above) (le-ltb r g.bitmap_leaves (omega (arith, from)))
      ∙ ap (λ (t : Bool). if t then pointers else if nat_lt r (leaf + g.inode_leaves) then inodes else above) (le-ltb r leaf (omega (arith, from)))
      ∙ ap (λ (t : Bool). if t then inodes else above) (lt-ltb r (leaf + g.inode_leaves) to)
      ∙ blank_leaf (r - leaf) (omega (arith, from))

  -- in either half
  blank_in_first : (b : ℕ) → leaf < b → b < leaf + g.inode_leaves → made_block_bytes g order moment b ≡ replicate g.blocksize 0
  unfolding made_block_bytes
  blank_in_first b from to =
      let parts = (IsGeometry-keeps g e).parts in
      ap (λ (t : Bool). if t then half_block_bytes g order moment First b else if nat_lt b (top_block g) then half_block_bytes g order moment Second (b - g.half) else top_directory_bytes order g.blocksize)
      (lt-ltb b g.half (omega (arith, parts, to)))
      ∙ blank_in_half First b from to

  blank_in_second : (b : ℕ) → g.half ≤ b → leaf < b - g.half → b - g.half < leaf + g.inode_leaves → made_block_bytes g order moment b ≡ replicate g.blocksize 0
  unfolding made_block_bytes
  blank_in_second b second from to =
      let parts = (IsGeometry-keeps g e).parts in
      ap (λ (t : Bool). if t then half_block_bytes g order moment First b else if nat_lt b (top_block g) then half_block_bytes g order moment Second (b - g.half) else top_directory_bytes order g.blocksize)
      (le-ltb b g.half second)
      ∙ ap (λ (t : Bool). if t then half_block_bytes g order moment Second (b - g.half) else top_directory_bytes order g.blocksize) (lt-ltb b (top_block g) (omega (arith, parts, to)))
      ∙ blank_in_half Second (b - g.half) from to

  -- so many of them
  pub blank_blocks : (first count index : ℕ) → index ≡ (if nat_lt first g.half then first else first - g.half) → leaf < index → index + count ≤ leaf + g.inode_leaves
      → blocks_bytes g order moment first count ≡ replicate (count * g.blocksize) 0
  blank_blocks first count index is from to = zero_parts (made_block_bytes g order moment) g.blocksize count first (elim (cases_lt first g.half) [
    | inl low ↦
        let own : index ≡ first = is ∙ ap (λ (t : Bool). if t then first else first - g.half) (lt-ltb first g.half low) in
        λ b lower upper. blank_in_first b (omega (arith, from, own, lower)) (omega (arith, to, own, upper))
    | inr high ↦
        let own : index ≡ first - g.half = is ∙ ap (λ (t : Bool). if t then first else first - g.half) (le-ltb first g.half high) in
        λ b lower upper. blank_in_second b (omega (arith, high, lower)) (omega (arith, from, own, lower, high)) (omega (arith, to, own, upper, lower, high))
  ])

-- a block's index in its half is no more than its number
pub index_least : (half block index : ℕ) → index ≡ (if nat_lt block half then block else block - half) → index ≤ block
index_least half block index is = elim (cases_lt block half) [
  | inl low ↦ let own : index ≡ block = is ∙ ap (λ (t : Bool). if t then block else block - half) (lt-ltb block half low) in omega (arith, own)
  | inr high ↦ let own : index ≡ block - half = is ∙ ap (λ (t : Bool). if t then block else block - half) (le-ltb block half high) in omega (arith, own)
]
