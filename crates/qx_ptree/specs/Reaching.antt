-- What was prepared above written leaves below some blocks of one level, whether bytes are told or not.
use Rattle.std.specs.Prelude.{◌≡◌, ℕ, ◌++◌, Bool, List, true, Contains}
use Rattle.qx_geom.specs.Lists.{Distinct, is_in}
use Rattle.qx_geom.specs.Pointer.{per_block}
use Rattle.qx_blocks.specs.BlockState.{BlockState}
use Rattle.qx_ptree.specs.declared.plan.Plan.{Plan}
use Rattle.qx_ptree.specs.Building.{LiesUnder, Row, new_pointer}
use Rattle.qx_ptree.specs.ReadyLeaves.{IsAbove, IsWrittenBy}
use Rattle.qx_ptree.specs.Takings.{Adds}
use Rattle.qx_ptree.specs.WorkState.{EditState, WorkState}

-- what is prepared has come about at the blocks of the work
pub record ShowsOwn (n : BlockState) (work : WorkState) (bytes : ℕ → List ℕ) : Type 0 where
  pub fresh : (b : ℕ) → is_in work.fresh b ≡ true → bytes b ≡ n.bytes b
  pub edits : (e : EditState) → Contains work.edits e → bytes e.block ≡ e.bytes

-- the blocks of the work that stay
abbrev pub own_blocks : WorkState → List ℕ
own_blocks work = work.fresh ++ work.kept

-- blocks that are to get other bytes are kept, and where the work's blocks are distinct none is to get bytes twice
pub record HasEdits (work : WorkState) : Type 0 where
  pub kept : (e : EditState) → Contains work.edits e → is_in work.kept e.block ≡ true
  pub once : Distinct (own_blocks work) → (e f : EditState) → Contains work.edits e → Contains work.edits f → e.block ≡ f.block → e ≡ f

-- the block at each of some positions is the work's own, and where its blocks are distinct none stands at two of them; the pointer to a position depends on the bytes that come about
pub record Owns (n : BlockState) (work : WorkState) (inside : ℕ → ℕ → Type 0) (pointer : (ℕ → List ℕ) → ℕ → ℕ → ℕ) : Type 0 where
  pub own : (bytes : ℕ → List ℕ) → ShowsOwn n work bytes → (k j : ℕ) → inside k j → is_in (own_blocks work) (pointer bytes k j) ≡ true
  pub apart : (bytes : ℕ → List ℕ) → ShowsOwn n work bytes → Distinct (own_blocks work) → (k j h i : ℕ) → inside k j → inside h i
      → pointer bytes k j ≡ pointer bytes h i → (k ≡ h) × (j ≡ i)
  pub edits : HasEdits work

-- block j of a level below a row stands at a written leaf or above one
pub record IsOwnPosition (m : BlockState) (plan : Plan) (row : Row) (k j : ℕ) : Type 0 where
  pub under : LiesUnder (per_block m.holdings.size) row k j
  pub above : IsAbove m.holdings.size (IsWrittenBy plan.change) k j

-- from the blocks m to the blocks n this work was done below a row, whose new pointers are `tops`: the block at a written leaf, and each above one, is the work's own
abbrev pub Reaches : BlockState → BlockState → Plan → WorkState → Row → (ℕ → ℕ) → Type 0
Reaches m n plan work row tops = Owns n work (IsOwnPosition m plan row) (new_pointer m plan row tops)

-- what is added to some work reaches the written leaves below a row
pub record ReachesOnto (m n : BlockState) (before after : WorkState) (plan : Plan) (row : Row) (tops : ℕ → ℕ) : Type 0 where
  pub adds : Adds m n before after
  pub reaches : Reaches m n plan adds.added row tops

-- where a written leaf stands below a row, something changed there, and something is present
pub record IsMarked (m : BlockState) (plan : Plan) (row : Row) (changed present : Bool) : Type 0 where
  pub marked : (k j : ℕ) → IsOwnPosition m plan row k j → (changed ≡ true) × (present ≡ true)
