-- A state over whose blocks an edit was made stands for the edited tree.
use Rattle.std.proofs.Common.{◌≡◌, ℕ, suc, inl, ◌∙◌, List, refl, subst, sym}
use Rattle.std.specs.Prelude.{false, Some, IsTrue}
use Rattle.qx_geom.specs.declared.root.Root.{Root}
use Rattle.qx_blocks.specs.BlockState.{BlockState, IsConsistent}
use Rattle.qx_ptree.specs.Trees.{block_map}
use Rattle.qx_batch.specs.declared.planned.Planned.{Planned}
use Rattle.qx_batch.specs.Nodes.{AreAllMet, AreLaid, AreNodesOf}
use Rattle.qx_model.specs.Edits.{Edit}
use Rattle.qx_model.specs.Tree.{Tree}
use Rattle.qx_view.specs.Sound.{has_tail}
use Rattle.qx_copies.specs.Copies.{Contents, contents_of, node_in}
use Rattle.qx_copies.specs.Shown.{Shows}
use Rattle.qx_copies.specs.Standing.{AreBounded, IsOwnCopy, Represents}
use Rattle.qx_working.specs.declared.working.Working.{Working}
use Rattle.qx_working.specs.States.{copy_of}
use Rattle.qx_working.proofs.LaidNodes.{nodes_laid}
use Rattle.qx_placing.specs.MovedNodes.{AreMoved, IsEdited}
use Rattle.qx_placing.specs.PlannedEdits.{IsMadeBy}
use Rattle.qx_placing.proofs.EditedCopies.{met_again}
use Rattle.qx_placing.proofs.LaidCopies.{laid_own, laid_stands}
use Rattle.qx_changes.specs.Edited.{BeginsAs, EndsAs, HasEdited, ShowsSound, StandsForOwn}
use Rattle.qx_changes.specs.Made.{AreHeld, AreWritten}
use Rattle.qx_changes.proofs.WrittenNodes.{state_order}

-- the nodes of a state that stands for a tree of ours lie over the blocks
pub begins_itself : (m : BlockState) (w : Working) (t : Tree) → IsConsistent m → IsTrue m.tells → StandsForOwn m w t → BeginsAs m w w
begins_itself m w t consistent told stands = record {
  order = refl;
  laid = nodes_laid m w t consistent told stands.tree (stands.own told);
  has = record { own = λ o node is. is; others = λ o node is. inl is };
}

module _ (m n : BlockState) (w v after x : Working) (t : Tree) (e : Edit) (ps : List Planned) (held : Contents) (told : IsTrue n.tells) (stands : StandsForOwn m w t) (begins : BeginsAs m w v)
    (of : AreNodesOf (node_in (copy_of v)) ps) (written : AreWritten m n v after ps held) (made : IsMadeBy w.order m t e ps) (ends : EndsAs n after x) (shown : ShowsSound n x e.tree) where
  told_before : IsTrue m.tells
  told_before = written.told_before told

  -- the order is the same throughout
  order_is : x.order ≡ w.order
  order_is = ends.order ∙ state_order m n v after ps held of written ∙ begins.order

  hold : AreHeld m n v after ps held
  hold = written.told told (subst (λ o. AreLaid o m (node_in (copy_of v))) (sym begins.order) begins.laid)

  moved : AreMoved w.order (node_in (copy_of v)) (node_in (copy_of after)) m n ps
  moved = subst (λ o. AreMoved o (node_in (copy_of v)) (node_in (copy_of after)) m n ps) begins.order hold.moved

  -- the new copy stands for the edited tree, and is laid out as this project does
  represents : Represents (block_map w.order n) (copy_of x) e.tree
  represents = laid_stands w.order n (copy_of x) (node_in (copy_of after)) moved.laid ends.has e.tree
      (subst (λ o. AreBounded (block_map o n) (node_in (copy_of x))) order_is ends.readable.bounded) ends.longfile shown.rooted
      (subst (λ o. Shows o n.holdings.size x.table.inodes (contents_of (block_map o n) (copy_of x)) e.tree) order_is shown.shows)

  own : IsOwnCopy (block_map w.order n) (copy_of x) e.tree
  own = laid_own w.order n (copy_of x) (node_in (copy_of after)) moved.laid ends.has e.tree shown.whole shown.used ends.inodes
      (subst (λ o. (k : ℕ) (node : Root) → node_in (copy_of x) (suc k) ≡ Some node → has_tail (block_map o n) node ≡ false) order_is ends.tails)

  edited : IsEdited w.order m n (copy_of w) (copy_of x) t (node_in (copy_of v)) (node_in (copy_of after)) ps e
  edited = record {
    plans = record {
      tree = (stands.tree.told told_before).represents;
      own = stands.own told_before;
      laid = begins.laid;
      has = begins.has;
      planned = of;
      made = made;
    };
    moved = moved;
    has = ends.has;
    tree = represents;
    own = own;
  }

  pub edit_stands : HasEdited m n w x t e
  edit_stands = record {
    nodes = node_in (copy_of v);
    after = node_in (copy_of after);
    plans = ps;
    order = order_is;
    edited = edited;
    stands = record {
      tree = record { readable = ends.readable; told = λ _. record { represents = subst (λ o. Represents (block_map o n) (copy_of x) e.tree) (sym order_is) represents; links = shown.links } };
      own = λ _. subst (λ o. IsOwnCopy (block_map o n) (copy_of x) e.tree) (sym order_is) own;
      all_met = λ _. subst (λ o. AreAllMet o n (node_in (copy_of x))) (sym order_is)
          (met_again w.order m n (copy_of w) (copy_of x) t (node_in (copy_of v)) (node_in (copy_of after)) ps e edited (stands.all_met told_before));
    };
    shared = written.shared;
    shared_bytes = hold.shared;
  }
