-- The layout that this project writes: the reasons for which an image is foreign, what must be counted right, and the checker's verdict.
use Rattle.std.specs.Prelude.{◌≡◌, ◌⊎◌, ℕ, zero, suc, ◌+◌, ◌*◌, ◌/◌, ◌%◌, Bool, true, false, not, ◌&&◌, ◌||◌, List, [], ◌∷◌, drop, length, map, flat_map, filter, filter_map, count_by, bytes_eq, Option, Some, None, Result, Ok, Err, nat_le, nat_lt, ◌==◌, if◌then◌else◌, slice_get, slice_index}
use Rattle.std.specs.List.{list_all}
use Rattle.std.specs.Int.{bit_at}
use Rattle.qx_geom.specs.declared.system.SystemTree.TheVariants as trees
use Rattle.qx_geom.specs.declared.area.Which.{Which}
use Rattle.qx_geom.specs.declared.area.Which.TheVariants.{First, Second}
use Rattle.qx_geom.specs.declared.geometry.GeomFault.{GeomFault}
use Rattle.qx_geom.specs.declared.geometry.Geometry.{Geometry}
use Rattle.qx_geom.specs.declared.root.Root.{Root}
use Rattle.qx_geom.specs.Lists.{each_below, is_in, first_below}
use Rattle.qx_geom.specs.Pointer.{absent, per_block}
use Rattle.qx_geom.specs.Layout.{geometry_of, levels_for, level_count, system_pointer, system_root_of, tree_base, tree_leaves, user_blocks}
use Rattle.qx_nodes.specs.BlockMap.{BlockMap, word}
use Rattle.qx_nodes.specs.ForeignNodes.{is_foreign_node}
use Rattle.qx_nodes.specs.Visits.{visits_of, present_of}
use Rattle.qx_nodes.specs.Content.{leaf_bytes}
use Rattle.qx_records.specs.declared.kind.Kind.{Kind}
use Rattle.qx_records.specs.declared.kind.Kind.TheVariants as kinds
use Rattle.qx_records.specs.InodeRecord.{kind_of}
use Rattle.qx_records.specs.NameRecord.{RawRecord, Unused, Short, Long, Bad}
use Rattle.qx_super.specs.declared.choice.Pick.{Pick}
use Rattle.qx_super.specs.declared.choice.Pick.TheVariants as picks
use Rattle.qx_super.specs.Superblock.{Superblock}
use Rattle.qx_super.specs.Active.{active_area, active_super}
use Rattle.qx_model.specs.Tree.{Tree}
use Rattle.qx_view.specs.declared.reasons.Reason.TheVariants as reasons
use Rattle.qx_view.specs.declared.findings.Code.TheVariants as codes
use Rattle.qx_view.specs.declared.reasons.Foreign.{Foreign as Why}
use Rattle.qx_view.specs.declared.reasons.Reason.{Reason}
use Rattle.qx_view.specs.declared.findings.Finding.{Finding}
use Rattle.qx_view.specs.Images.{Roots, all_records, main_roots, image_blocks, inode_places, inode_bytes, inode_of, raw_of}
use Rattle.qx_view.specs.Reading.{IsTreeOf}
use Rattle.qx_view.specs.Walk.{inode_root, inode_mode, is_directory_inode, walked_inodes, finding_of}

-- ---- the nodes in question

-- a special's kind
abbrev pub is_special_kind : Option Kind → Bool
is_special_kind None = false
is_special_kind (Some kinds.Directory) = false
is_special_kind (Some kinds.File) = false
is_special_kind (Some kinds.Link) = false
is_special_kind (Some kinds.Special) = true

-- inode n is a special
abbrev pub is_special_inode : BlockMap → Roots → ℕ → Bool
is_special_inode m r n = is_special_kind (kind_of (inode_mode m r n))

-- the nodes outside the halves: the Longfile's, and those of the reached inodes but for specials
abbrev pub outer_nodes : BlockMap → Roots → List Root
outer_nodes m r = r.longfile ∷ map (inode_root m r) (filter (λ n. not (is_special_inode m r n)) (walked_inodes m r))

-- the blocks that they meet
abbrev pub outer_blocks : BlockMap → Roots → List ℕ
outer_blocks m r = flat_map (λ node. map (λ v. v.block) (visits_of m node)) (outer_nodes m r)

-- ---- reason 1: the numbers

-- a root node of nothing, whatever its levels
abbrev pub is_empty_root : Root → Bool
is_empty_root node = (node.size == 0) && list_all (λ p. p == absent) node.pointers

-- a superblock says what a geometry says, and what this project writes
abbrev pub is_written_by : Superblock → Geometry → Bool
is_written_by s g = (g.num_blocks == s.num_blocks) && ((s.version1 == 1) && is_empty_root s.fourth)

-- that geometry, if there is one
abbrev pub geometry_if : Superblock → Result Geometry GeomFault → Option Geometry
geometry_if s (Err e) = None
geometry_if s (Ok g) = if is_written_by s g then Some g else None

-- the geometry of a superblock that this project writes on a device of this length
abbrev pub written_geometry : Superblock → ℕ → Option Geometry
written_geometry s len = geometry_if s (geometry_of len s.blocksize s.num_inodes)

-- ---- reason 2: the halves

-- two root nodes are the same
abbrev pub is_same_root : Root → Root → Bool
is_same_root a b = (a.size == b.size) && ((a.levels == b.levels) && bytes_eq a.pointers b.pointers)

-- the words of block j of level k + 1 of a system tree of n leaves lead to the blocks of level k
abbrev pub has_system_words : BlockMap → ℕ → ℕ → ℕ → ℕ → Bool
has_system_words m base n k j =
    list_all (λ w. word m (system_pointer m.size base n (suc k) j) w == system_pointer m.size base n k (j * per_block m.size + w))
    (each_below (per_block m.size) (λ w. w))

-- so do those of each pointer block of the tree
abbrev pub is_system_tree : BlockMap → ℕ → ℕ → Bool
is_system_tree m base n =
    list_all (λ k. list_all (λ j. has_system_words m base n k j) (each_below (level_count m.size n (suc k)) (λ j. j)))
    (each_below (levels_for m.size n) (λ k. k))

-- both trees of an area's half are so
abbrev pub has_system_trees : BlockMap → Geometry → Which → Bool
has_system_trees m g which =
    is_system_tree m (tree_base g which trees.Bitmap) (tree_leaves g trees.Bitmap) && is_system_tree m (tree_base g which trees.Inodes) (tree_leaves g trees.Inodes)

-- the two root nodes are those of the active area's half, and the pointer blocks of both halves are as they must be
abbrev pub is_laid_out : BlockMap → Superblock → Geometry → Which → Bool
is_laid_out m s g which =
    is_same_root s.bitmap (system_root_of g which trees.Bitmap) && (is_same_root s.inode (system_root_of g which trees.Inodes) && (has_system_trees m g First && has_system_trees m g Second))

-- ---- reason 3: the bitmap

-- bit b of the bitmap, to the end of its last leaf
abbrev pub bitmap_bit : BlockMap → Root → ℕ → ℕ
bitmap_bit m bitmap b = bit_at (slice_index (leaf_bytes m bitmap (b / 8 / m.size)) (b / 8 % m.size)) (b % 8)

-- it must be 1: for both halves, for blocks that are met outside them, and past the last block
abbrev pub must_be_set : BlockMap → Geometry → List ℕ → ℕ → Bool
must_be_set m g blocks b = nat_lt b (2 * g.half) || (is_in blocks b || nat_le m.count b)

-- it isn't as it must be
abbrev pub bit_differs : BlockMap → Root → Geometry → List ℕ → ℕ → Bool
bit_differs m bitmap g blocks b = not (bitmap_bit m bitmap b == (if must_be_set m g blocks b then 1 else 0))

-- ---- reason 4: nodes

-- a directory isn't as this project writes it: its size is 0 or no multiple of the block size, or it has a hole
abbrev pub is_foreign_directory : BlockMap → Root → Bool
is_foreign_directory m node = (node.size == 0) || (not (node.size % m.size == 0) || not (length (present_of m node) == node.size / m.size))

-- a node of inode n, or of the Longfile for 0, fails by this
abbrev pub fails_nodes : BlockMap → Roots → List ℕ → ℕ → Bool
fails_nodes m r reached zero = is_foreign_node m r.longfile
fails_nodes m r reached (suc k) = let n = suc k in
    is_in reached n && (not (is_special_inode m r n)
    && (is_foreign_node m (inode_root m r n) || (is_directory_inode m r n && is_foreign_directory m (inode_root m r n))))

-- ---- reason 5: the first two records

-- a record is a short one with this name
abbrev pub is_short : RawRecord → List ℕ → Bool
is_short Unused name = false
is_short (Short n other) name = bytes_eq other name
is_short (Long n number sum) name = false
is_short (Bad count) name = false

-- a directory's first two records aren't `.` and `..`
abbrev pub fails_dots : BlockMap → Roots → List ℕ → ℕ → Bool
fails_dots m r reached n =
    is_in reached n && (is_directory_inode m r n
    && not (is_short (raw_of m (inode_root m r n) 0) (46 ∷ []) && is_short (raw_of m (inode_root m r n) 1) (46 ∷ 46 ∷ [])))

-- ---- reason 6: inodes

-- all of the bytes are 0
abbrev pub are_zero : List ℕ → Bool
are_zero bytes = list_all (λ b. b == 0) bytes

-- a reached inode is as this project writes it
abbrev pub is_written_inode : BlockMap → Roots → ℕ → Bool
is_written_inode m r n =
    let i = inode_of m r.inodes n in
    not (is_special_inode m r n)
    && ((i.status == (if is_directory_inode m r n then 1 else 3)) && ((i.ext_mode == 0) && are_zero (drop 102 (inode_bytes m r.inodes n))))

-- a reached inode isn't, or one that isn't reached has a byte that isn't 0
abbrev pub fails_inodes : BlockMap → Roots → List ℕ → ℕ → Bool
fails_inodes m r reached zero = false
fails_inodes m r reached (suc k) = let n = suc k in
    if is_in reached n then not (is_written_inode m r n) else not (are_zero (inode_bytes m r.inodes n))

-- ---- reason 7: long names

-- the long-name number of a record
abbrev pub long_number : RawRecord → Option ℕ
long_number Unused = None
long_number (Short n name) = None
long_number (Long n number sum) = Some number
long_number (Bad count) = None

-- the long-name numbers of these records of a directory
abbrev pub numbers_named_in : BlockMap → Root → List ℕ → List ℕ
numbers_named_in m node ks = filter_map (λ k. long_number (raw_of m node k)) ks

-- the long-name numbers of all records of the reached directories
abbrev pub numbers_named : BlockMap → Roots → List ℕ → List ℕ
numbers_named m r reached = flat_map (λ d. numbers_named_in m (inode_root m r d) (all_records (inode_root m r d))) (filter (is_directory_inode m r) reached)

-- the least present number that isn't named exactly once, or 0 for the size
abbrev pub bad_long_name : BlockMap → Roots → List ℕ → Option ℕ
bad_long_name m r reached =
    if not (r.longfile.size % m.size == 0) then Some 0
    else slice_get (filter (λ n. not (count_by (λ k. k == n) (numbers_named m r reached) == 1)) (present_of m r.longfile)) 0

-- ---- the first reason

-- a reason that applies at some number
abbrev pub reason_at : Reason → Option ℕ → Option Why
reason_at reason None = None
reason_at reason (Some at) = Some (record { reason = reason; at = at })

-- the first of some that is there
abbrev pub first_some : {A : Type 0} → List (Option A) → Option A
first_some [] = None
first_some (None ∷ os) = first_some os
first_some (Some x ∷ os) = Some x

-- each of the reasons from 2 on, if it applies; `blocks` are those outside the halves, `reached` the reached inodes
abbrev pub reasons_in : BlockMap → Superblock → Geometry → Which → Roots → List ℕ → List ℕ → List (Option Why)
reasons_in m s g which r blocks reached =
    reason_at reasons.Halves (if is_laid_out m s g which && list_all (λ b. nat_le (2 * g.half) b) blocks then None else Some 0)
    ∷ reason_at reasons.Bitmap (first_below (bit_differs m s.bitmap g blocks) (g.bitmap_leaves * m.size * 8))
    ∷ reason_at reasons.Nodes (first_below (fails_nodes m r reached) (inode_places r + 1))
    ∷ reason_at reasons.Dots (first_below (fails_dots m r reached) (inode_places r + 1))
    ∷ reason_at reasons.Inodes (first_below (fails_inodes m r reached) (inode_places r + 1))
    ∷ reason_at reasons.LongNames (bad_long_name m r reached)
    ∷ []

-- the first reason, of a superblock with this geometry
abbrev pub reason_with : BlockMap → Superblock → Which → Option Geometry → Option Why
reason_with m s which None = reason_at reasons.Numbers (Some 0)
reason_with m s which (Some g) =
    let r = main_roots s in
    first_some (reasons_in m s g which r (outer_blocks m r) (walked_inodes m r))

-- the first reason for which the image of this area's superblock is foreign, on a device of this length
abbrev pub reason_of : BlockMap → Superblock → Which → ℕ → Option Why
reason_of m s which len = reason_with m s which (written_geometry s len)

-- ---- tails and counts

-- a byte past the size, in the leaf that has the size within it, isn't 0
abbrev pub has_tail : BlockMap → Root → Bool
has_tail m node = not (node.size % m.size == 0) && not (are_zero (drop (node.size % m.size) (leaf_bytes m node (node.size / m.size))))

-- the node of inode n, or of the Inode tree for 0, has one
abbrev pub fails_tail : BlockMap → Roots → List ℕ → ℕ → Bool
fails_tail m r reached zero = has_tail m r.inodes
fails_tail m r reached (suc k) = let n = suc k in is_in reached n && (not (is_special_inode m r n) && has_tail m (inode_root m r n))

-- the free blocks and the free inodes are counted right
abbrev pub are_counts_right : BlockMap → Superblock → Geometry → Roots → List ℕ → Bool
are_counts_right m s g r reached =
    (s.free_blocks + length (outer_blocks m r) == user_blocks g) && (s.free_inodes + length reached == s.num_inodes)

-- a tail, at the least inode that has one, or else counts that are wrong
abbrev pub tail_finding : Option ℕ → Bool → Option Finding
tail_finding (Some n) right = Some (record { code = codes.Tail; inode = n; block = absent })
tail_finding None true = None
tail_finding None false = Some (record { code = codes.Counts; inode = 0; block = absent })

-- the last finding, of a superblock with this geometry
abbrev pub last_with : BlockMap → Superblock → Option Geometry → Option Finding
last_with m s None = None
last_with m s (Some g) =
    let r = main_roots s in
    let reached = walked_inodes m r in
    tail_finding (first_below (fails_tail m r reached) (inode_places r + 1)) (are_counts_right m s g r reached)

-- what is found last, where no reason applies
abbrev pub last_finding : BlockMap → Superblock → ℕ → Option Finding
last_finding m s len = last_with m s (written_geometry s len)

-- ---- the verdict

-- what the checker says of an image
pub data Verdict : Type 0 where
  NoVolume : Verdict
  Disagree : Verdict
  Damaged : Finding → Verdict
  Foreign : Why → Verdict
  Clean : (area : Which) (superblock : Superblock) → Verdict

-- the first of a finding, a reason and a last finding, or else clean with this area and its superblock
abbrev pub verdict_by : Which → Superblock → Option Finding → Option Why → Option Finding → Verdict
verdict_by which s (Some f) reason last = Damaged f
verdict_by which s None (Some reason) last = Foreign reason
verdict_by which s None None (Some f) = Damaged f
verdict_by which s None None None = Clean which s

-- the verdict on an image with this area's superblock
abbrev pub verdict_with : List ℕ → Which → Option Superblock → Verdict
verdict_with img which None = NoVolume
verdict_with img which (Some s) =
    let m = image_blocks img s in
    verdict_by which s (finding_of m (main_roots s)) (reason_of m s which (length img)) (last_finding m s (length img))

-- the verdict on an image with this active area
abbrev pub verdict_at : List ℕ → Pick → Verdict
verdict_at img (picks.Active which) = verdict_with img which (active_super img)
verdict_at img picks.None = NoVolume
verdict_at img picks.Disagree = Disagree

-- the checker's verdict on an image
abbrev pub verdict_of : List ℕ → Verdict
verdict_of img = verdict_at img (active_area img)

-- an image is sound: it has this tree, no reason applies, there is no tail, and the counts are right
pub record IsSound (img : List ℕ) (t : Tree) : Type 0 where
  pub area : Which
  pub superblock : Superblock
  pub active : active_area img ≡ picks.Active area
  pub names : active_super img ≡ Some superblock
  pub tree : IsTreeOf (image_blocks img superblock) (main_roots superblock) t
  pub no_reason : reason_of (image_blocks img superblock) superblock area (length img) ≡ None
  pub no_last : last_finding (image_blocks img superblock) superblock (length img) ≡ None

-- an image is foreign: it has a tree, and this is the first reason that applies
pub record IsForeign (img : List ℕ) (why : Why) : Type 0 where
  pub area : Which
  pub superblock : Superblock
  pub active : active_area img ≡ picks.Active area
  pub names : active_super img ≡ Some superblock
  pub tree : Tree
  pub has : IsTreeOf (image_blocks img superblock) (main_roots superblock) tree
  pub reason : reason_of (image_blocks img superblock) superblock area (length img) ≡ Some why

-- this is the first test of the walk that fails; or none does, no reason applies, and the tail or the counts are wrong by it
abbrev pub IsFinding : Option Finding → Option Why → Option Finding → Finding → Type 0
IsFinding walk reason last f = (walk ≡ Some f) ⊎ ((walk ≡ None) × (reason ≡ None) × (last ≡ Some f))

-- an image is damaged by this finding
pub record IsDamaged (img : List ℕ) (f : Finding) : Type 0 where
  pub area : Which
  pub superblock : Superblock
  pub active : active_area img ≡ picks.Active area
  pub names : active_super img ≡ Some superblock
  pub found : (let m = image_blocks img superblock in
      IsFinding (finding_of m (main_roots superblock)) (reason_of m superblock area (length img)) (last_finding m superblock (length img)) f)
