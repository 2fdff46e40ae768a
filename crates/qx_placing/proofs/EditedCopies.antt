-- The copy of an edited tree: each block stands at one position, and the working tree holds these blocks alone.
use Rattle.std.proofs.Common.{◌≡◌, ℕ, ◌↔◌, List, sym, ◌∙◌, ap, subst}
use Rattle.std.specs.Prelude.{IsTrue, Contains}
use Rattle.qx_fields.specs.declared.order.Order.{Order}
use Rattle.qx_nodes.specs.Visits.{Visit, visits_of}
use Rattle.qx_blocks.specs.BlockState.{BlockState}
use Rattle.qx_ptree.specs.Trees.{IsToldNode, block_map}
use Rattle.qx_batch.specs.declared.planned.Planned.{Planned}
use Rattle.qx_batch.specs.Nodes.{AreAllMet, IsMet, Nodes}
use Rattle.qx_model.specs.Edits.{Edit}
use Rattle.qx_model.specs.Tree.{Tree}
use Rattle.qx_model.specs.TreePositions.{HasPosition, Position}
use Rattle.qx_copies.specs.Copies.{BlockCopy, node_in}
use Rattle.qx_copies.specs.Standing.{Represents, StandsAt}
use Rattle.qx_copies.proofs.CopyPositions.{stands_position}
use Rattle.qx_placing.specs.MovedNodes.{IsEdited}
use Rattle.qx_placing.specs.PlannedEdits.{owner_of_number}
use Rattle.qx_placing.proofs.NodeShapes.{meets_there, number_owner}
use Rattle.qx_placing.proofs.StandingBlocks.{HasNumber, number_of}

-- no block stands at two positions
pub stands_once : (order : Order) (m : BlockState) (c : BlockCopy) (t : Tree) → Represents (block_map order m) c t → (p q : Position) (b d : ℕ) → StandsAt (block_map order m) c p b → StandsAt (block_map order m) c q d → b ≡ d → p ≡ q
stands_once order m c t rep p q b d s u same =
    let h : HasNumber c p.owner s.node = number_of c p.owner s.node s.is in
    let k : HasNumber c q.owner u.node = number_of c q.owner u.node u.is in
    let v : Visit = record { level = p.level; index = p.index; block = b } in
    let w : Visit = record { level = q.level; index = q.index; block = d } in
    let one : (h.number ≡ k.number) × (v ≡ w) = rep.undamaged.once h.number k.number s.node u.node v w h.node k.node s.met u.met same in
    let owners : p.owner ≡ q.owner = sym h.owner ∙ ap owner_of_number one.0 ∙ k.owner in
    let levels : p.level ≡ q.level = ap (λ (z : Visit). z.level) one.1 in
    let indices : p.index ≡ q.index = ap (λ (z : Visit). z.index) one.1 in
    λ i. record { owner = owners i; level = levels i; index = indices i }

-- a block that a node of the copy meets stands at a position
pub met_stands : (order : Order) (m : BlockState) (c : BlockCopy) (b : ℕ) (i : IsMet order m (node_in c) b) → StandsAt (block_map order m) c (record { owner = owner_of_number i.number; level = i.visit.level; index = i.visit.index }) b
met_stands order m c b i = record {
  node = i.node;
  is = number_owner c i.number ∙ i.is;
  met = subst (λ x. Contains (visits_of (block_map order m) i.node) (record { level = i.visit.level; index = i.visit.index; block = x })) i.block i.met;
}

-- no block of the working tree's is met by none of a copy's nodes where that holds of nodes beside it
module _ (order : Order) (m n : BlockState) (c d : BlockCopy) (t : Tree) (nodes after : Nodes) (ps : List Planned) (e : Edit) (ed : IsEdited order m n c d t nodes after ps e) where
  -- the node of a position over the new blocks
  pub stands_told : (p : Position) (b : ℕ) (s : StandsAt (block_map order n) d p b) → IsToldNode order n s.node
  stands_told p b s = let h : HasNumber d p.owner s.node = number_of d p.owner s.node s.is in ed.moved.laid.node h.number s.node (ed.has.own h.number s.node h.node)

  -- the working tree holds its block
  pub stands_works : (p : Position) (b : ℕ) → StandsAt (block_map order n) d p b → IsTrue (n.holdings.works b)
  stands_works p b s = (stands_told p b s).works (record { level = p.level; index = p.index; block = b }) s.met

  pub stands_held : (p : Position) (b : ℕ) → StandsAt (block_map order n) d p b → IsTrue (n.holdings.held b)
  stands_held p b s = (stands_told p b s).consistent.works_held b (stands_works p b s)

  -- all blocks are met again
  pub met_again : AreAllMet order m (node_in c) → AreAllMet order n (node_in d)
  met_again all b works =
      let i : IsMet order n after b = ed.moved.all_met (λ q held. let j : IsMet order m (node_in c) q = all q held in record {
        number = j.number;
        node = j.node;
        is = ed.plans.has.own j.number j.node j.is;
        visit = j.visit;
        met = j.met;
        block = j.block;
      }) b works in
      record {
        number = i.number;
        node = i.node;
        is = meets_there order n d e.tree after ed.tree ed.moved.laid ed.has i.number i.node i.visit i.is i.met;
        visit = i.visit;
        met = i.met;
        block = i.block;
      }

  -- so the working tree's are those at the positions
  pub works_at : AreAllMet order m (node_in c) → (b : ℕ) → IsTrue (n.holdings.works b) ↔ ((p : Position) × HasPosition n.holdings.size e.tree p × StandsAt (block_map order n) d p b)
  works_at all b = (
    (λ works.
        let i : IsMet order n (node_in d) b = met_again all b works in
        let p : Position = record { owner = owner_of_number i.number; level = i.visit.level; index = i.visit.index } in
        let s : StandsAt (block_map order n) d p b = met_stands order n d b i in
        (p, stands_position (block_map order n) d e.tree ed.tree ed.own p b s, s)),
    (λ at. stands_works at.0 b at.2),
  )
