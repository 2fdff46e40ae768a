-- What the preparation of a whole node answers where the work before it was none.
use Rattle.std.proofs.Common.{◌≡◌, refl, sym, ◌∙◌, ap, subst}
use Rattle.std.specs.Prelude.{slice_index, IsTrue}
use Rattle.qx_geom.specs.declared.root.Root.{Root}
use Rattle.qx_geom.specs.Lists.{Distinct}
use Rattle.qx_blocks.specs.BlockState.{BlockState, IsConsistent}
use Rattle.qx_ptree.specs.declared.plan.Plan.{Plan}
use Rattle.qx_ptree.specs.Altered.{IsPrepared}
use Rattle.qx_ptree.specs.BuiltNode.{BuildsNode}
use Rattle.qx_ptree.specs.Plans.{IsPlan}
use Rattle.qx_ptree.specs.PreparedNode.{Prepares}
use Rattle.qx_ptree.specs.Reaching.{ReachesOnto}
use Rattle.qx_ptree.specs.ReadyLeaves.{IsReadyApart, IsWrittenBy, OwnAsLeft, StandIn}
use Rattle.qx_ptree.specs.Takings.{Takes}
use Rattle.qx_ptree.specs.Trees.{HasLevels}
use Rattle.qx_ptree.specs.WorkState.{CanCommit, CanEdit, Preparation, WorkState, all_blocks, and_then, committed, no_work, blocks_of}
use Rattle.qx_ptree.proofs.PointerCounts.{size_positive, words_positive}
use Rattle.qx_ptree.proofs.PreparedNodes.{added-is-prepared, added-takes}
use Rattle.qx_ptree.proofs.ReachedSteps.{ready_prepared, stand_prepared}
use Rattle.qx_ptree.proofs.WholeNeed.{levels-reach}

-- the preparation of a plan's node
abbrev pub whole_of : Plan → Root → WorkState → Preparation
whole_of plan root work = record { node = plan.node; change = plan.change; root = root; work = work }

module _ (m n : BlockState) (plan : Plan) (before work : WorkState) (root : Root) (none : before ≡ no_work) (s : IsConsistent m) (met : IsPlan m plan) (b : BuildsNode m n before work plan root) where
  -- the work is what was added
  is-added : work ≡ b.reaches.adds.added
  is-added = b.reaches.adds.is ∙ ap (λ w. and_then w b.reaches.adds.added) none

  -- the levels reach the size
  whole-levels : HasLevels m.holdings.size root
  whole-levels = levels-reach m.holdings.size root plan.change s.size met.change b.size b.levels

  -- its fresh blocks were taken
  whole-takes : Takes work.fresh m n
  whole-takes = added-takes m n before work none b.reaches.adds

  -- its edits can be written
  whole-ready : CanCommit n (whole_of plan root work)
  whole-ready = subst (λ w. CanEdit n w) (sym is-added) b.reaches.adds.edits

  -- its written leaves are ready once it is committed
  whole-written : Distinct (all_blocks work) → (now : BlockState) → OwnAsLeft (whole_of plan root work) n now → IsReadyApart plan.order (committed now (whole_of plan root work)) root (IsWrittenBy plan.change)
  whole-written distinct now left =
      ready_prepared m n now plan (whole_of plan root work) (size_positive m.holdings.size s.size) (words_positive m.holdings.size s.size) met.change refl b.long b.levels distinct
      (subst (λ w. ReachesOnto m n w work plan (record { level = root.levels; first = 0; count = 16 }) (slice_index root.pointers)) none b.reaches) left

  -- and their blocks are those of the change
  whole-own : Distinct (all_blocks work) → (now : BlockState) → OwnAsLeft (whole_of plan root work) n now → StandIn plan.order (committed now (whole_of plan root work)) root (IsWrittenBy plan.change) (blocks_of (whole_of plan root work))
  whole-own distinct now left =
      stand_prepared m n now plan (whole_of plan root work) (size_positive m.holdings.size s.size) (words_positive m.holdings.size s.size) met.change refl b.long b.levels distinct
      (subst (λ w. ReachesOnto m n w work plan (record { level = root.levels; first = 0; count = 16 }) (slice_index root.pointers)) none b.reaches) left

  -- and where bytes are told it is prepared
  whole-prepared : IsConsistent n → IsTrue n.tells → IsPrepared plan.order m n (whole_of plan root work)
  whole-prepared after told = added-is-prepared m n plan before work root s after b.long met told none b.reaches.adds (b.tree told)

  -- all that it answers
  pub whole-prepares : Distinct (all_blocks work) → IsConsistent n → Prepares plan.order m n plan.node plan.change (whole_of plan root work)
  whole-prepares distinct after = record {
    node = refl;
    change = refl;
    sixteen = b.long;
    size = b.size;
    levels = whole-levels;
    takes = whole-takes;
    distinct = distinct;
    ready = whole-ready;
    written = whole-written distinct;
    own = whole-own distinct;
    prepared = whole-prepared after;
  }
