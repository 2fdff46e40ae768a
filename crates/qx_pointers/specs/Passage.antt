-- What a passage through pointers does: the tests, what is seen, and the leaves that are kept.
use Rattle.std.specs.Prelude.{◌≡◌, ◌+◌, ℕ, Bool, List, ◌++◌, flat_map, IfOk, OnOk, Result, slice_index_or}
use Rattle.std.specs.List.{list_any}
use Rattle.qx_blockset.specs.Members.{Members}
use Rattle.qx_geom.specs.Lists.{each_below, parts_below}
use Rattle.qx_geom.specs.Pointer.{absent}
use Rattle.qx_nodes.specs.BlockMap.{BlockMap}
use Rattle.qx_nodes.specs.Visits.{Visit, visits_under}
use Rattle.qx_nodes.specs.ForeignNodes.{is_stray_under}
use Rattle.qx_view.specs.Walk.{visit_tests}
use Rattle.qx_pointers.specs.declared.halt.Halt.{Halt}
use Rattle.qx_pointers.specs.declared.node.LeafPlace.{LeafPlace}
use Rattle.qx_pointers.specs.declared.node.Part.{Part}
use Rattle.qx_pointers.specs.declared.node.Visitor.{Visitor}
use Rattle.qx_pointers.specs.Marks.{GoesThrough}
use Rattle.qx_pointers.specs.Parts.{IsSeen, has_bare_under, kept_leaves}

-- these visits were gone through: their tests, what is seen of them, and the leaves that were kept before and after
pub record Sees (m : BlockMap) (visitor : Visitor) (last : ℕ) (visits : List Visit) (stray hollow : Bool) (result : Result Part Halt) (old new : Members) (before after : List LeafPlace) : Type 0 where
  pub tests : GoesThrough (flat_map (λ v. visit_tests m visitor.inode v) visits) result old new
  pub part : IfOk result (IsSeen last visits stray hollow)
  pub leaves : OnOk result (after ≡ before ++ kept_leaves visitor.keeps visits)

-- what is met from the first `count` of these pointers on, which lead to blocks `first` and following of a level
abbrev pub visits_beside : BlockMap → ℕ → ℕ → ℕ → List ℕ → ℕ → List Visit
visits_beside m last level first pointers count = parts_below count (λ w. visits_under m last level (first + w) (slice_index_or pointers w absent))

-- one of them, or one below them, is a stray
abbrev pub strays_beside : BlockMap → ℕ → ℕ → ℕ → List ℕ → ℕ → Bool
strays_beside m last level first pointers count = list_any (λ w. is_stray_under m last level (first + w) (slice_index_or pointers w absent)) (each_below count (λ w. w))

-- a pointer block at one of them or below is bare
abbrev pub bare_beside : BlockMap → ℕ → ℕ → ℕ → List ℕ → ℕ → Bool
bare_beside m last level first pointers count = list_any (λ w. has_bare_under m last level (first + w) (slice_index_or pointers w absent)) (each_below count (λ w. w))
