-- What stands at the positions of an edited tree, by whether they take a fresh block.
use Rattle.std.proofs.Common.{◌≡◌, ℕ, List, subst}
use Rattle.std.specs.Prelude.{Bool, false, IsTrue, Contains}
use Rattle.qx_fields.specs.declared.order.Order.{Order}
use Rattle.qx_geom.proofs.Truths.{not_so}
use Rattle.qx_blocks.specs.BlockState.{BlockState}
use Rattle.qx_ptree.specs.Trees.{block_map}
use Rattle.qx_batch.specs.declared.planned.Planned.{Planned}
use Rattle.qx_batch.specs.Nodes.{Nodes}
use Rattle.qx_model.specs.Edits.{Edit}
use Rattle.qx_model.specs.Tree.{Tree}
use Rattle.qx_model.specs.TreePositions.{HasPosition, Position}
use Rattle.qx_model.specs.TreeTouch.{fresh_positions}
use Rattle.qx_model.proofs.TreeNodes.{fresh_listed, listed_fresh}
use Rattle.qx_copies.specs.Copies.{BlockCopy}
use Rattle.qx_copies.specs.Standing.{StandsAt}
use Rattle.qx_copies.proofs.CopyPositions.{stands_position}
use Rattle.qx_placing.specs.MovedNodes.{IsEdited}
use Rattle.qx_placing.specs.PlannedEdits.{ArePrivate}
use Rattle.qx_placing.proofs.StandingBlocks.{stands_so, takes}

module _ (order : Order) (m n : BlockState) (c d : BlockCopy) (t : Tree) (nodes after : Nodes) (ps : List Planned) (e : Edit) (private : Position → Bool)
    (ed : IsEdited order m n c d t nodes after ps e) (are : ArePrivate order m c private) where
  -- where a block stands, the edited tree has the position
  pub new_position : (p : Position) (b : ℕ) → StandsAt (block_map order n) d p b → HasPosition m.holdings.size e.tree p
  new_position p b s = subst (λ size. HasPosition size e.tree p) ed.moved.size (stands_position (block_map order n) d e.tree ed.tree ed.own p b s)

  -- a fresh one
  pub stands_fresh : (p : Position) (b : ℕ) → StandsAt (block_map order n) d p b → Contains (fresh_positions m.holdings.size t e private) p → (m.holdings.held b ≡ false) × IsTrue (n.holdings.private b)
  stands_fresh p b s listed = (stands_so order m n c d t nodes after ps e private ed are p b s).fresh (listed_fresh m.holdings.size t e private p listed).1

  -- or the one that stood there
  pub stands_still : (p : Position) (b : ℕ) → StandsAt (block_map order n) d p b → ¬ (Contains (fresh_positions m.holdings.size t e private) p) → StandsAt (block_map order m) c p b × (n.holdings.private b ≡ private p)
  stands_still p b s out =
      (stands_so order m n c d t nodes after ps e private ed are p b s).stays
      (not_so (takes order m n c d t nodes after ps e private ed are p.owner p.level p.index) (λ f. out (fresh_listed m.holdings.size t e private p (new_position p b s) f)))
