-- The positions of a node where bytes are told, and what is met at them.
use Rattle.std.proofs.Common.{◌≡◌, ◌≢◌, ℕ, ◌<◌, inl, inr, length, refl, ◌∙◌, ap}
use Rattle.std.specs.Prelude.{false, not, ◌||◌, replicate, IsTrue, Contains}
use Rattle.std.proofs.lemmas.Bool.{cases_eq, cases_lt, eq-eqb, ne_eqb}
use Rattle.std.proofs.lemmas.List.{length-replicate}
use Rattle.qx_fields.specs.declared.order.Order.{Order}
use Rattle.qx_geom.specs.declared.root.Root.{Root}
use Rattle.qx_geom.specs.Lists.{is_in}
use Rattle.qx_geom.specs.Pointer.{absent}
use Rattle.qx_geom.specs.Positions.{HasPosition}
use Rattle.qx_geom.proofs.ImagesAndFilters.{in_Contains}
use Rattle.qx_geom.proofs.Truths.{or_left, or_right, true_or_false}
use Rattle.qx_nodes.specs.BlockMap.{BlockMap}
use Rattle.qx_nodes.specs.Content.{Reaches, leaf_bytes}
use Rattle.qx_nodes.specs.ForeignNodes.{has_bare_block, has_strays}
use Rattle.qx_nodes.specs.Leaves.{leaves_below}
use Rattle.qx_nodes.specs.Visits.{LiesBelow, Visit, present_of, visits_of}
use Rattle.qx_nodes.proofs.MetLeaves.{leaf_member}
use Rattle.qx_blocks.specs.BlockState.{BlockState}
use Rattle.qx_ptree.specs.Alterations.{shape_in}
use Rattle.qx_ptree.specs.Trees.{IsToldNode, block_map, pointer_at}
use Rattle.qx_ptree.proofs.LeavesByPointer.{AllNumbers, bytes_by_pointer, bytes_of_hole}
use Rattle.qx_ptree.proofs.MetPositions.{IsAt, IsMetWhole, pointer_met, visit_at}
use Rattle.qx_ptree.proofs.PointerCounts.{size_positive, words_positive}
use Rattle.qx_ptree.proofs.PointersByPosition.{at_above}
use Rattle.qx_ptree.proofs.PresentPositions.{position_above, position_at}
use Rattle.qx_ptree.proofs.ReadyPaths.{top_below}
use Rattle.qx_ptree.proofs.WorkingPaths.{works_below}

module _ (order : Order) (m : BlockState) (node : Root) (is : IsToldNode order m node) where
  abbrev t : BlockMap
  t = block_map order m

  -- it has no pointer past its size, and no pointer block without a leaf
  no_strays : has_strays t node ≡ false
  no_strays = or_left (has_strays t node) (has_bare_block t node) (or_right _ (has_strays t node || has_bare_block t node) is.regular.plain)

  none_bare : has_bare_block t node ≡ false
  none_bare = or_right (has_strays t node) (has_bare_block t node) (or_right _ (has_strays t node || has_bare_block t node) is.regular.plain)

  -- it is met as a whole
  pub told_whole : IsMetWhole t node
  told_whole = record { words = words_positive m.holdings.size is.consistent.size; long = is.sixteen; plain = no_strays; numbers = λ v c. works_below m v.block is.consistent (is.works v c) }

  -- its levels reach its size
  pub told_reaches : Reaches t node
  told_reaches = record { size = size_positive m.holdings.size is.consistent.size; words = words_positive m.holdings.size is.consistent.size; reached = is.levels.reached }

  -- each leaf below its size lies below one of its pointers
  pub told_lies : (i : ℕ) → i < leaves_below t node → LiesBelow t node i
  told_lies i low = record { positive = words_positive m.holdings.size is.consistent.size; below = low; reached = top_below m node i is.consistent is.levels low }

  -- a pointer that is there is met
  pub there_met : (k j : ℕ) → pointer_at t node k j ≢ absent → Contains (visits_of t node) (record { level = k; index = j; block = pointer_at t node k j })
  there_met k j there = elim (cases_lt node.levels k) [
    | inl above ↦ absurd (there (at_above t node k j above))
    | inr low ↦ pointer_met t node k j told_whole low there
  ]

  -- so is that of each position
  pub position_met : (k j : ℕ) → HasPosition m.holdings.size (shape_in t node) k j → Contains (visits_of t node) (record { level = k; index = j; block = pointer_at t node k j })
  position_met k j has = elim (cases_lt node.levels k) [
    | inl above ↦ absurd (true_or_false _ has (position_above t node k j above))
    | inr low ↦ pointer_met t node k j told_whole low (λ none. true_or_false _ has (position_at t node k j told_whole none_bare low ∙ ap not (eq-eqb (pointer_at t node k j) absent none)))
  ]

  -- and what is met stands at its position
  pub position_of : (v : Visit) → Contains (visits_of t node) v → v.block ≡ pointer_at t node v.level v.index
  position_of v met = (visit_at t node v met).block

  pub position_has : (v : Visit) → Contains (visits_of t node) v → HasPosition m.holdings.size (shape_in t node) v.level v.index
  position_has v met =
      let at : IsAt t node v = visit_at t node v met in
      position_at t node v.level v.index told_whole none_bare at.level ∙ ap not (ne_eqb (pointer_at t node v.level v.index) absent (λ e. at.there (at.block ∙ e)))

  -- each pointer is a block's number
  pub told_numbers : AllNumbers t node
  told_numbers k j low there = is.consistent.numbers (pointer_at t node k j) (is.consistent.works_held (pointer_at t node k j) (is.works _ (there_met k j there)))

  -- a leaf that isn't present is 0, also past the size
  pub told_hole : (i : ℕ) → is_in (present_of t node) i ≡ false → leaf_bytes t node i ≡ replicate m.holdings.size 0
  told_hole i out = bytes_of_hole t node i (words_positive m.holdings.size is.consistent.size) told_numbers (elim (cases_eq (pointer_at t node 0 i) absent) [
    | inl none ↦ none
    | inr there ↦ absurd (true_or_false (is_in (present_of t node) i) (in_Contains (present_of t node) i (leaf_member (visits_of t node) (record { level = 0; index = i; block = pointer_at t node 0 i }) (there_met 0 i there) refl)) out)
  ])

  -- each leaf is as long as a block
  pub told_leaf_long : IsTrue m.tells → (i : ℕ) → length (leaf_bytes t node i) ≡ m.holdings.size
  told_leaf_long tells i = elim (cases_eq (pointer_at t node 0 i) absent) [
    | inl none ↦ ap length (bytes_of_hole t node i (words_positive m.holdings.size is.consistent.size) told_numbers none) ∙ length-replicate m.holdings.size 0
    | inr there ↦ ap length (bytes_by_pointer t node i (words_positive m.holdings.size is.consistent.size) told_numbers there)
        ∙ is.consistent.told_long tells (pointer_at t node 0 i) (is.consistent.works_held (pointer_at t node 0 i) (is.works _ (there_met 0 i there)))
  ]
