-- An edit needs what the planned changes need that make it.
use Rattle.std.proofs.Common.{◌≡◌, ℕ, suc, ◌+◌, inl, inr, List, [], length, refl, sym, ◌∙◌, ap, arith}
use Rattle.std.specs.Prelude.{Bool, true, false, filter, if◌then◌else◌, map, nat_le}
use Rattle.std.specs.List.{range_with_len}
use Rattle.std.proofs.lemmas.Bool.{cases_lt}
use Rattle.qx_fields.specs.declared.order.Order.{Order}
use Rattle.qx_geom.specs.Positions.{Shape, at_level, each_once, index_above}
use Rattle.qx_geom.specs.Touch.{is_fresh}
use Rattle.qx_geom.specs.Touch as node
use Rattle.qx_geom.proofs.ImagesAndFilters.{in_Contains}
use Rattle.qx_blocks.specs.BlockState.{BlockState}
use Rattle.qx_ptree.specs.Alterations.{fresh_count}
use Rattle.qx_batch.specs.declared.planned.Planned.{Planned}
use Rattle.qx_batch.specs.Nodes.{Nodes}
use Rattle.qx_batch.specs.Plans.{need_of_all, plan_alteration}
use Rattle.qx_model.specs.Edits.{Edit}
use Rattle.qx_model.specs.Machine.{Machine}
use Rattle.qx_model.specs.Space.{is_private, need_of}
use Rattle.qx_model.specs.Tree.{Tree}
use Rattle.qx_model.specs.TreePositions.{Position, shape_in}
use Rattle.qx_model.specs.TreeTouch.{fresh_positions, private_in, written_in}
use Rattle.qx_model.proofs.ListMembers.{Contains-range}
use Rattle.qx_model.proofs.TreeNeeds.{need_by_nodes, need_in, needs_nothing}
use Rattle.qx_copies.specs.Copies.{BlockCopy}
use Rattle.qx_placing.specs.PlannedEdits.{ArePrivate, PlansEdit, owner_of_number}
use Rattle.qx_placing.proofs.OwnerSums.{nothing_past, range_once, sum_owners, sum_planned, sum_zero}
use Rattle.qx_placing.proofs.PlannedShapes.{count_same}

-- a node of nothing has no position on any level
pub no_level : (blocksize : ℕ) (s : Shape) (k : ℕ) → s.present ≡ [] → at_level blocksize s k ≡ []
no_level blocksize s k none = ap (λ xs. if nat_le k s.levels then each_once (map (index_above blocksize k) xs) else []) none ∙ go (nat_le k s.levels)
  where
    go : (b : Bool) → (if b then each_once (map (index_above blocksize k) []) else []) ≡ []
    go true = refl
    go false = refl

-- so a node that has nothing afterwards needs nothing
pub no_need_after : (blocksize : ℕ) (old new : Shape) (ws : List ℕ) (p : ℕ → ℕ → Bool) → new.present ≡ [] → node.need_of blocksize old new ws p ≡ 0
unfolding node.need_of
no_need_after blocksize old new ws p none =
    sum_zero (λ k. length (filter (is_fresh blocksize old new ws p k) (at_level blocksize new k))) (range_with_len 0 (new.levels + 1))
    (λ k c. ap (λ xs. length (filter (is_fresh blocksize old new ws p k) xs)) (no_level blocksize new k none))

-- the need of all changes
pub needs_same : (order : Order) (m : BlockState) (c : BlockCopy) (t : Tree) (nodes : Nodes) (ps : List Planned) (e : Edit) (private : Position → Bool) → PlansEdit order m c t nodes ps e → ArePrivate order m c private
    → need_of_all order m ps ≡ length (fresh_positions m.holdings.size t e private)
needs_same order m c t nodes ps e private pl are =
    let size : ℕ = m.holdings.size in
    let numbers : List ℕ = range_with_len 0 (suc (length e.tree.inodes)) in
    let need : ℕ → ℕ = λ n. need_in size t e private (owner_of_number n) in
    sum_planned need (λ (p : Planned). fresh_count (plan_alteration order m p)) numbers ps (range_once 0 (suc (length e.tree.inodes))) pl.planned.owners
    (λ p there. sym (count_same order m c t nodes ps e private pl are p there))
    (λ p there. elim (cases_lt p.owner (suc (length e.tree.inodes))) [
      | inl low ↦ inl (in_Contains numbers p.owner (Contains-range 0 (suc (length e.tree.inodes)) p.owner (omega arith) (omega (arith, low))))
      | inr past ↦ inr (count_same order m c t nodes ps e private pl are p there
          ∙ no_need_after size (shape_in size t (owner_of_number p.owner)) (shape_in size e.tree (owner_of_number p.owner)) (written_in (owner_of_number p.owner) e.written) (private_in private (owner_of_number p.owner))
          (ap (λ (s : Shape). s.present) (nothing_past size e.tree p.owner (omega (arith, past)))))
    ])
    (λ n out. needs_nothing size t e private (owner_of_number n) (pl.made.others n out) (pl.made.unwritten n out))
    ∙ sym (sum_owners (need_in size t e private) e.tree) ∙ sym (need_by_nodes size t e private)

-- and that of the machine
pub machine_needs : (order : Order) (m : BlockState) (c : BlockCopy) (nodes : Nodes) (ps : List Planned) (e : Edit) (s : Machine) → PlansEdit order m c s.working.tree nodes ps e → s.volume.blocksize ≡ m.holdings.size
    → ArePrivate order m c (is_private s) → need_of_all order m ps ≡ need_of s e
machine_needs order m c nodes ps e s pl same are =
    needs_same order m c s.working.tree nodes ps e (is_private s) pl are ∙ ap (λ size. length (fresh_positions size s.working.tree e (is_private s))) (sym same)
