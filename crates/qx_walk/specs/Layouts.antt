-- What is said of a volume's layout.
use Rattle.std.specs.Prelude.{◌≡◌, ◌+◌, ◌*◌, ◌==◌, ◌&&◌, not, ℕ, Bool, List, [], ◌∷◌, Option}
use Rattle.std.specs.List.{list_all, list_any, range_with_len}
use Rattle.qx_blockset.specs.Members.{Members, count_of, has, limit_of}
use Rattle.qx_fields.specs.declared.order.Order.{Order}
use Rattle.qx_fields.specs.Number.{field}
use Rattle.qx_geom.specs.declared.system.SystemTree.{SystemTree}
use Rattle.qx_geom.specs.declared.area.Which.{Which}
use Rattle.qx_geom.specs.declared.geometry.Geometry.{Geometry}
use Rattle.qx_geom.specs.Area.{other_area}
use Rattle.qx_geom.specs.Layout.{IsGeometry, first_block, system_word_of, user_blocks}
use Rattle.qx_geom.specs.Lists.{each_below, first_below}
use Rattle.qx_geom.specs.Pointer.{per_block}
use Rattle.qx_nodes.specs.BlockMap.{BlockMap}
use Rattle.qx_outside.specs.Outside.{Outside}
use Rattle.qx_super.specs.Superblock.{Superblock}
use Rattle.qx_view.specs.declared.reasons.Reason.TheVariants as reasons
use Rattle.qx_view.specs.declared.reasons.Foreign.{Foreign as Why}
use Rattle.qx_view.specs.Images.{Roots, inode_places}
use Rattle.qx_view.specs.Sound.{bad_long_name, fails_dots, fails_inodes, fails_nodes, first_some, is_laid_out, reason_at}
use Rattle.qx_pointers.specs.declared.source.Shape.{Shape}
use Rattle.qx_walk.specs.declared.state.Walked.{Walked}
use Rattle.qx_pointers.specs.Shown.{Fits}

-- the shape is that of a superblock's volume
pub record IsShapeOf (s : Superblock) (shape : Shape) : Type 0 where
  pub order : shape.order ≡ s.order
  pub blocksize : shape.blocksize ≡ s.blocksize
  pub count : shape.count ≡ s.num_blocks

-- these are the numbers of a volume, and they are those of the superblock
pub record HasNumbers (s : Superblock) (g : Geometry) : Type 0 where
  pub volume : IsGeometry g
  pub blocksize : g.blocksize ≡ s.blocksize
  pub count : g.num_blocks ≡ s.num_blocks

-- these are the numbers of a volume of this shape
pub record IsVolumeOf (shape : Shape) (g : Geometry) : Type 0 where
  pub volume : IsGeometry g
  pub blocksize : g.blocksize ≡ shape.blocksize
  pub count : g.num_blocks ≡ shape.count

-- and the device has room for its blocks
pub record IsVolumeOn (shape : Shape) (g : Geometry) (host : Outside) : Type 0 where
  pub volume : IsVolumeOf shape g
  pub fits : Fits shape host

-- and these blocks of it were met
pub record IsMetOn (shape : Shape) (g : Geometry) (met : Members) (host : Outside) : Type 0 where
  pub volume : IsVolumeOf shape g
  pub limit : limit_of met ≡ shape.count
  pub fits : Fits shape host

-- ---- the halves

-- the bytes of a pointer block have the words that they must have
abbrev pub are_words_of : Geometry → Which → SystemTree → ℕ → Order → List ℕ → Bool
are_words_of g which tree block order bytes =
    list_all (λ w. field order 4 bytes (4 * w) == system_word_of g which tree block w) (each_below (per_block g.blocksize) (λ w. w))

-- a block of an area's half was met
abbrev pub has_block_of_half : Geometry → Which → Members → Bool
has_block_of_half g which met = list_any (λ b. has met b) (range_with_len (first_block g which) g.half)

-- the halves are as they must be, where these blocks were met
abbrev pub is_laid_out_by : BlockMap → Superblock → Geometry → Which → Members → Bool
is_laid_out_by m s g which met = is_laid_out m s g which && not (has_block_of_half g (other_area which) met)

-- ---- what the walk noted

-- the first of the reasons 4 to 7
abbrev pub later_reason : BlockMap → Roots → List ℕ → Option Why
later_reason m r reached =
    first_some (reason_at reasons.Nodes (first_below (fails_nodes m r reached) (inode_places r + 1))
    ∷ reason_at reasons.Dots (first_below (fails_dots m r reached) (inode_places r + 1))
    ∷ reason_at reasons.Inodes (first_below (fails_inodes m r reached) (inode_places r + 1))
    ∷ reason_at reasons.LongNames (bad_long_name m r reached)
    ∷ [])

-- ---- counts

-- the free blocks and the free inodes are counted right, where the active half's blocks were met as well
abbrev pub has_right_counts : Superblock → Geometry → Walked → Bool
has_right_counts s g w = (s.free_blocks + count_of w.met == user_blocks g + g.half) && (s.free_inodes + w.live == s.num_inodes)
