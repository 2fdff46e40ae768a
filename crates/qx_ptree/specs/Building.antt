-- What was prepared of an altered node below some blocks of one level.
use Rattle.std.specs.Prelude.{◌≡◌, ℕ, zero, suc, ◌+◌, ◌-◌, ◌/◌, ◌%◌, ◌^◌, ◌≤◌, ◌<◌, ◌==◌, Bool, true, false, List, ◌++◌, length, sum_by, IsTrue, Contains, if◌then◌else◌, slice_index, [], ◌∷◌, replicate, Result, OnOk}
use Rattle.std.specs.List.{range_with_len}
use Rattle.qx_fields.specs.declared.order.Order.{Order}
use Rattle.qx_fields.specs.Number.{all_digits}
use Rattle.qx_geom.specs.declared.root.Root.{Root}
use Rattle.qx_geom.specs.Lists.{is_in}
use Rattle.qx_geom.specs.Pointer.{absent, per_block}
use Rattle.qx_geom.specs.Positions.{has_position}
use Rattle.qx_geom.specs.Touch.{is_touched}
use Rattle.qx_nodes.specs.BlockMap.{BlockMap, with_bytes, word}
use Rattle.qx_nodes.specs.Content.{leaf_bytes}
use Rattle.qx_blocks.specs.declared.blocks.Stop.{Stop}
use Rattle.qx_blocks.specs.BlockState.{BlockState}
use Rattle.qx_ptree.specs.declared.plan.Plan.{Plan}
use Rattle.qx_ptree.specs.Altered.{keeps_block, takes_fresh}
use Rattle.qx_ptree.specs.Alterations.{Alteration}
use Rattle.qx_ptree.specs.Parts.{fresh_below}
use Rattle.qx_ptree.specs.Plans.{alteration_in, planned_pointer}
use Rattle.qx_ptree.specs.Trees.{block_map}
use Rattle.qx_ptree.specs.Takings.{Adds}
use Rattle.qx_ptree.specs.WorkState.{EditState, WorkState, and_then, no_work}

-- some blocks of one level: `count` of them from `first` on
pub record Row : Type 0 where
  pub level : ℕ
  pub first : ℕ
  pub count : ℕ

-- one block of a level
abbrev pub one_block : ℕ → ℕ → Row
one_block level index = record { level = level; first = index; count = 1 }

-- block j of level k is one of a row's blocks, or lies below one
pub record LiesUnder (P : ℕ) (row : Row) (k j : ℕ) : Type 0 where
  pub level : k ≤ row.level
  pub from : row.first ≤ j / P ^ (row.level - k)
  pub to : j / P ^ (row.level - k) < row.first + row.count

-- the pointer to block j of a level that stands so many levels below the block to which p leads
abbrev pub pointer_down : BlockMap → ℕ → ℕ → ℕ → ℕ
pointer_down m zero p j = p
pointer_down m (suc d) p j =
    let above = pointer_down m d p (j / per_block m.size) in
    if above == absent then absent else word m above (j % per_block m.size)

-- what is prepared has come about: fresh blocks have the bytes that they have now, edited ones those that they are to get, and pointer blocks of the row that aren't touched the bytes that they had
pub record Shows (m n : BlockState) (plan : Plan) (work : WorkState) (row : Row) (bytes : ℕ → List ℕ) : Type 0 where
  pub fresh : (b : ℕ) → is_in work.fresh b ≡ true → bytes b ≡ n.bytes b
  pub edits : (e : EditState) → Contains work.edits e → bytes e.block ≡ e.bytes
  pub others : (k j : ℕ) → LiesUnder (per_block m.holdings.size) row k j → 0 < k
      → (let a = alteration_in plan m in (has_position a.blocksize a.old k j ≡ true) × (is_touched a.blocksize a.old a.new a.written k j ≡ false))
      → bytes (planned_pointer plan m k j) ≡ m.bytes (planned_pointer plan m k j)

-- p is the new pointer to a position: none, the old one, or one to a fresh block, which as a leaf has the bytes that stood there
pub record IsPlaced (m n : BlockState) (plan : Plan) (work : WorkState) (k j p : ℕ) : Type 0 where
  pub none : has_position m.holdings.size (alteration_in plan m).new k j ≡ false → p ≡ absent
  pub stays : keeps_block (alteration_in plan m) k j ≡ true → p ≡ planned_pointer plan m k j
  pub fresh : has_position m.holdings.size (alteration_in plan m).new k j ≡ true → takes_fresh (alteration_in plan m) k j ≡ true → is_in work.fresh p ≡ true
  pub bytes : k ≡ 0 → has_position m.holdings.size (alteration_in plan m).new k j ≡ true → takes_fresh (alteration_in plan m) k j ≡ true
      → n.bytes p ≡ leaf_bytes (block_map plan.order m) plan.node j

-- a position of the old node, to which p leads, lies below the row
pub record IsOldPosition (m : BlockState) (plan : Plan) (row : Row) (k j p : ℕ) : Type 0 where
  pub under : LiesUnder (per_block m.holdings.size) row k j
  pub pointer : planned_pointer plan m k j ≡ p
  pub present : ¬ (p ≡ absent)

-- some position of the old node below the row whose block is p passes a test
abbrev pub HasOldPosition : BlockState → Plan → Row → (ℕ → ℕ → Bool) → ℕ → Type 0
HasOldPosition m plan row test p = (k : ℕ) × (j : ℕ) × IsOldPosition m plan row k j p × (test k j ≡ true)

-- a position of the old node is not there afterwards with its block
abbrev pub loses_block : Alteration → ℕ → ℕ → Bool
loses_block a k j = if keeps_block a k j then false else true

-- a position is touched, and keeps its block
abbrev pub is_kept : Alteration → ℕ → ℕ → Bool
is_kept a k j = if keeps_block a k j then is_touched a.blocksize a.old a.new a.written k j else false

-- the new pointer to block j of a level below a row whose new pointers are `tops`, where blocks have these bytes
abbrev pub new_pointer : BlockState → Plan → Row → (ℕ → ℕ) → (ℕ → List ℕ) → ℕ → ℕ → ℕ
new_pointer m plan row tops bytes k j = pointer_down (with_bytes (block_map plan.order m) bytes) (row.level - k) (tops (j / per_block m.holdings.size ^ (row.level - k))) j

-- block j of a level below a row takes a fresh block
pub record IsFreshPosition (m : BlockState) (plan : Plan) (row : Row) (k j : ℕ) : Type 0 where
  pub under : LiesUnder (per_block m.holdings.size) row k j
  pub there : has_position m.holdings.size (alteration_in plan m).new k j ≡ true
  pub fresh : takes_fresh (alteration_in plan m) k j ≡ true

-- from the blocks m to the blocks n this work was done below a row, whose new pointers are `tops`; no fresh block stands at two positions, and no block gets bytes twice
pub record Builds (m n : BlockState) (plan : Plan) (work : WorkState) (row : Row) (tops : ℕ → ℕ) : Type 0 where
  pub pointers : (bytes : ℕ → List ℕ) → Shows m n plan work row bytes → (k j : ℕ) → LiesUnder (per_block m.holdings.size) row k j
      → IsPlaced m n plan work k j (new_pointer m plan row tops bytes k j)
  pub apart : (bytes : ℕ → List ℕ) → Shows m n plan work row bytes → (k j h i : ℕ) → IsFreshPosition m plan row k j → IsFreshPosition m plan row h i
      → new_pointer m plan row tops bytes k j ≡ new_pointer m plan row tops bytes h i → (k ≡ h) × (j ≡ i)
  pub count : length work.fresh ≡ sum_by (fresh_below (alteration_in plan m) row.level) (range_with_len row.first row.count)
  pub released : (k j p : ℕ) → IsOldPosition m plan row k j p → loses_block (alteration_in plan m) k j ≡ true → is_in work.released p ≡ true
  pub only_lost : (b : ℕ) → is_in work.released b ≡ true → HasOldPosition m plan row (loses_block (alteration_in plan m)) b
  pub kept : (k j p : ℕ) → IsOldPosition m plan row k j p → is_kept (alteration_in plan m) k j ≡ true → is_in work.kept p ≡ true
  pub only_kept : (b : ℕ) → is_in work.kept b ≡ true → HasOldPosition m plan row (is_kept (alteration_in plan m)) b
  pub edited : (e : EditState) → Contains work.edits e → (k : ℕ) × (j : ℕ) × IsOldPosition m plan row k j e.block × (is_kept (alteration_in plan m) k j ≡ true) × (0 < k)
  pub edit_once : (e f : EditState) → Contains work.edits e → Contains work.edits f → e.block ≡ f.block → e ≡ f

-- what is added to some work was done below a row, if no tree holds a block by the number that leads to none
pub record BuildsOnto (m n : BlockState) (before after : WorkState) (plan : Plan) (row : Row) (tops : ℕ → ℕ) : Type 0 where
  pub adds : Adds m n before after
  pub builds : IsTrue n.tells → n.holdings.held absent ≡ false → Builds m n plan adds.added row tops

-- only blocks to be given up were added
abbrev pub with_released : WorkState → List ℕ → WorkState
with_released work blocks = record work { released = work.released ++ blocks }

-- these are the blocks of the old node's positions that pass a test, and no others
pub record IsBlocksOf (m : BlockState) (plan : Plan) (inside : ℕ → ℕ → Type 0) (blocks : List ℕ) : Type 0 where
  pub all : (k j : ℕ) → inside k j → ¬ (planned_pointer plan m k j ≡ absent) → is_in blocks (planned_pointer plan m k j) ≡ true
  pub only : (b : ℕ) → is_in blocks b ≡ true → (k : ℕ) × (j : ℕ) × inside k j × (planned_pointer plan m k j ≡ b) × ¬ (b ≡ absent)

-- block j of level k isn't among the 16 first blocks of a level, nor below one
pub record LiesOutside (P level k j : ℕ) : Type 0 where
  pub outside : LiesUnder P (record { level = level; first = 0; count = 16 }) k j → ⊥

-- blocks were noted to be given up: where it is Ok, those of the old node's positions that lie inside
pub record GivesUp (m n : BlockState) (before after : WorkState) (plan : Plan) (inside : ℕ → ℕ → Type 0) (result : Result (Unit {0}) Stop) : Type 0 where
  pub blocks : List ℕ
  pub is : after ≡ with_released before blocks
  pub done : OnOk result (IsTrue n.tells → IsBlocksOf m plan inside blocks)

-- a position lies below the first block of a level, and outside the first 16 blocks of a lower one
pub record LiesOnSpine (P level above k j : ℕ) : Type 0 where
  pub under : LiesUnder P (one_block above 0) k j
  pub outside : LiesOutside P level k j

-- ---- the work at one block, by what there was

-- this block was taken, this one stays, this one is to be given up, this one takes that one's place, this pointer block is to get these bytes
abbrev pub work_taken : ℕ → WorkState
work_taken b = record no_work { fresh = b ∷ [] }

abbrev pub work_kept : ℕ → WorkState
work_kept b = record no_work { kept = b ∷ [] }

abbrev pub work_lost : ℕ → WorkState
work_lost b = record no_work { released = b ∷ [] }

abbrev pub work_moved : ℕ → ℕ → WorkState
work_moved to from = record no_work { fresh = to ∷ []; released = from ∷ [] }

abbrev pub work_edited : ℕ → List ℕ → WorkState
work_edited b bytes = record no_work { edits = (record { block = b; bytes = bytes }) ∷ []; kept = b ∷ [] }

-- the work at a leaf that is written, whose pointer was p and is b
pub data LeafWork (m n : BlockState) (p b : ℕ) : WorkState → Type 0 where
  taken : p ≡ absent → n.bytes b ≡ replicate m.holdings.size 0 → LeafWork m n p b (work_taken b)
  stays : ¬ (p ≡ absent) → m.holdings.private p ≡ true → b ≡ p → LeafWork m n p b (work_kept p)
  moved : ¬ (p ≡ absent) → m.holdings.private p ≡ false → (IsTrue n.tells → n.bytes b ≡ m.bytes p) → LeafWork m n p b (work_moved b p)

-- it was added
pub record WritesLeaf (m n : BlockState) (before after : WorkState) (p b : ℕ) : Type 0 where
  pub adds : Adds m n before after
  pub work : LeafWork m n p b adds.added

-- the bytes of a pointer block with these pointers
abbrev pub pointer_bytes : Order → List ℕ → List ℕ
pointer_bytes order pointers = all_digits order 4 pointers

-- the work at a pointer block whose pointer was p and is b, and which is to have these pointers
pub data BlockWork (order : Order) (m n : BlockState) (p : ℕ) (pointers : List ℕ) : (changed present : Bool) (b : ℕ) → WorkState → Type 0 where
  never : {changed : Bool} → p ≡ absent → BlockWork order m n p pointers changed false absent no_work
  lost : {changed : Bool} → ¬ (p ≡ absent) → BlockWork order m n p pointers changed false absent (work_lost p)
  same : ¬ (p ≡ absent) → BlockWork order m n p pointers false true p no_work
  edited : ¬ (p ≡ absent) → m.holdings.private p ≡ true → BlockWork order m n p pointers true true p (work_edited p (pointer_bytes order pointers))
  taken : {changed : Bool} {b : ℕ} → p ≡ absent → n.bytes b ≡ pointer_bytes order pointers → BlockWork order m n p pointers changed true b (work_taken b)
  moved : {b : ℕ} → ¬ (p ≡ absent) → m.holdings.private p ≡ false → n.bytes b ≡ pointer_bytes order pointers → BlockWork order m n p pointers true true b (work_moved b p)

-- it was added
pub record WritesBlock (order : Order) (m n : BlockState) (before after : WorkState) (p : ℕ) (pointers : List ℕ) (changed present : Bool) (b : ℕ) : Type 0 where
  pub adds : Adds m n before after
  pub work : BlockWork order m n p pointers changed present b adds.added

-- ---- a whole node

-- a whole node was prepared: what stands no longer below its pointers is to be given up, and the rest was done below the pointers of the node afterwards
pub record BuildsTree (m n : BlockState) (plan : Plan) (work : WorkState) (root : Root) : Type 0 where
  pub size : root.size ≡ plan.change.size
  pub levels : root.levels ≡ (alteration_in plan m).new.levels
  pub outside : List ℕ
  pub rest : WorkState
  pub is : work ≡ and_then (with_released no_work outside) rest
  pub gone : IsBlocksOf m plan (LiesOutside (per_block m.holdings.size) root.levels) outside
  pub builds : Builds m n plan rest (record { level = root.levels; first = 0; count = 16 }) (slice_index root.pointers)
