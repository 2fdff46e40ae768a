-- Nodes that a call leaves which takes no block, and changes that wait while blocks are only read.
use Rattle.std.proofs.Common.{◌≡◌, ℕ, List, [], sym, ◌∙◌, subst}
use Rattle.std.specs.Prelude.{Some, IsTrue, Contains}
use Rattle.std.proofs.Math.Bool.{or-false}
use Rattle.std.proofs.lemmas.List.{append-nil}
use Rattle.qx_fields.specs.declared.order.Order.{Order}
use Rattle.qx_geom.specs.declared.root.Root.{Root}
use Rattle.qx_blocks.specs.BlockState.{BlockState, IsConsistent}
use Rattle.qx_blocks.specs.Calls.{Keeps}
use Rattle.qx_ptree.specs.Altered.{IsPrepared}
use Rattle.qx_ptree.specs.KeptNodes.{KeepsNode}
use Rattle.qx_ptree.specs.ReadyLeaves.{OwnAsLeft}
use Rattle.qx_ptree.specs.Takings.{Takes}
use Rattle.qx_ptree.proofs.ApartNodes.{apart_stays}
use Rattle.qx_ptree.proofs.KeptNodes.{kept_taken, told_kept, visits_kept}
use Rattle.qx_ptree.proofs.TakenBlocks.{Takes-none, Takes-then}
use Rattle.qx_ptree.proofs.WaitingChanges.{can_left, own_taken}
use Rattle.qx_batch.specs.declared.batch.Waiting.{Waiting}
use Rattle.qx_batch.specs.declared.planned.Planned.{Planned}
use Rattle.qx_batch.specs.Batches.{ArePrepared, fresh_of}
use Rattle.qx_batch.specs.Changes.{IsKeptNode}
use Rattle.qx_batch.specs.Nodes.{AreAllMet, AreLaid, IsMet, Nodes}
use Rattle.qx_batch.proofs.NodeContentsAfter.{node_kept}
use Rattle.qx_batch.proofs.PreparedBatches.{ready_later}

module _ (order : Order) (m n : BlockState) (nodes : Nodes) (s : IsConsistent m) (after : IsConsistent n) (told : IsTrue n.tells) (t : Takes [] m n) (l : AreLaid order m nodes) where
  -- each node stays
  stays : (o : ℕ) (a : Root) → nodes o ≡ Some a → KeepsNode order m n a
  stays o a is = kept_taken order [] m n a s (l.node o a is).works told t

  -- so all lie as before
  pub laid_still : AreLaid order n nodes
  laid_still = record {
    node = λ o a is. told_kept order m n a after (stays o a is) (l.node o a is);
    apart = λ o q a b is that differ. apart_stays order m n a b (stays o a is) (stays q b that) (l.apart o q a b is that differ);
  }

  -- each was kept
  pub kept_still : (o : ℕ) (node : Root) → nodes o ≡ Some node → IsKeptNode order m n node (nodes o)
  kept_still o node is = node_kept order m n node (nodes o) (l.node o node is) (stays o node is) is

  -- and the working tree holds no block but those that they meet
  pub met_still : AreAllMet order m nodes → AreAllMet order n nodes
  met_still all b works =
      let i : IsMet order m nodes b = all b (sym (t.works b ∙ or-false (m.holdings.works b)) ∙ works) in
      record {
        number = i.number;
        node = i.node;
        is = i.is;
        visit = i.visit;
        met = subst (λ vs. Contains vs i.visit) (sym (visits_kept order m n i.node (stays i.number i.node i.is))) i.met;
        block = i.block;
      }

module _ (order : Order) (old now after : BlockState) (ps : List Planned) (ws : List Waiting) (k : Keeps now after) (a : ArePrepared order old now ps ws) where
  -- no block is taken
  none : Takes [] now after
  none = Takes-none now after k

  -- the blocks of a change stay
  own : (w : Waiting) → OwnAsLeft w.prep now after
  own w = own_taken [] w.prep now after none

  -- so what is prepared stays so
  pub prepared_still : ArePrepared order old after ps ws
  prepared_still = record {
    plans = a.plans;
    takes = subst (λ fs. Takes fs old after) (append-nil (fresh_of ws)) (Takes-then (fresh_of ws) [] old now after a.takes none);
    can = record { apart = a.can.apart; each = λ w c. can_left w.prep now after (own w) (a.can.each w c) };
    ready = λ w c. ready_later order now after w (own w) (a.ready w c);
    prepared = λ told w c. subst (λ x. IsPrepared order old x w.prep) (sym (k.told told)) (a.prepared (subst (λ (x : BlockState). IsTrue x.tells) (k.told told) told) w c);
  }
