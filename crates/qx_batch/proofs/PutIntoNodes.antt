-- What bytes that are put into one node leave of all others, and of changes that were committed with it.
use Rattle.std.proofs.Common.{◌≡◌, ◌≢◌, ℕ, List, length, inl, inr, refl, sym, ◌∙◌, ap, subst, arith}
use Rattle.std.specs.Prelude.{true, Some, IsTrue, Contains}
use Rattle.std.proofs.lemmas.Bool.{cases_eq}
use Rattle.qx_fields.specs.declared.order.Order.{Order}
use Rattle.qx_geom.specs.declared.root.Root.{Root}
use Rattle.qx_nodes.specs.Visits.{visits_of}
use Rattle.qx_blocks.specs.BlockState.{BlockState, Holdings, IsConsistent}
use Rattle.qx_ptree.specs.Fates.{is_written}
use Rattle.qx_ptree.specs.KeptNodes.{KeepsNode}
use Rattle.qx_ptree.specs.ReadyLeaves.{IsWrittenBy}
use Rattle.qx_ptree.specs.Takings.{LeavesOthers}
use Rattle.qx_ptree.specs.Trees.{HasLevels, IsToldNode, block_map}
use Rattle.qx_ptree.proofs.KeptNodes.{told_kept, visits_kept}
use Rattle.qx_ptree.specs.WorkState.{blocks_of}
use Rattle.qx_file.specs.Puts.{CanPut, HasByte, Puts, leaf_block}
use Rattle.qx_file.proofs.KeptPointers.{above_itself, ready_kept, stand_kept}
use Rattle.qx_file.proofs.PutNodes.{others_put, shared_stays, told_put}
use Rattle.qx_file.proofs.PutContent.{visits_after}
use Rattle.qx_batch.specs.declared.batch.Waiting.{Waiting}
use Rattle.qx_batch.specs.Batches.{AreCommitted, ArePairsApart, IsCommitted}
use Rattle.qx_nodes.specs.NodeContents.{IsSameContent, node_content}
use Rattle.qx_batch.specs.Nodes.{AreLaid, IsMet, Nodes}
use Rattle.qx_batch.specs.PutNodes.{ArePut, put_content}
use Rattle.qx_batch.proofs.CommittedBatches.{pair_apart}
use Rattle.qx_batch.proofs.CommittedStates.{committed_stays}
use Rattle.qx_batch.proofs.NodeContentsAfter.{content_put, node_kept, put_keeps}

module _ (order : Order) (m n : BlockState) (ws : List Waiting) (w : Waiting) (at : ℕ) (bytes : List ℕ) (apart : ArePairsApart ws) (committed : AreCommitted order m ws) (here : Contains ws w)
    (within : (i : ℕ) → HasByte m.holdings.size at (length bytes) i → is_written w.plan.change i ≡ true) (puts : Puts order w.prep.root at bytes m n) where
  -- what is known of the change whose leaves are written
  own : IsCommitted order m w
  own = committed w here

  -- no block but its own gets other bytes
  only : (b : ℕ) → ((i : ℕ) → is_written w.plan.change i ≡ true → leaf_block order m w.prep.root i ≢ b) → n.bytes b ≡ m.bytes b
  only b out = puts.others b (λ i has. out i (within i has))

  -- so those of others stay as they are
  leaves : LeavesOthers (blocks_of w.prep) m n
  leaves = others_put order m n w.prep.root at bytes (blocks_of w.prep) (λ i has. own.own.own 0 i (omega arith) (above_itself m.holdings.size (IsWrittenBy w.plan.change) i (within i has))) puts

  -- its leaves are ready still
  own_still : IsCommitted order n w
  own_still = record {
    sixteen = own.sixteen;
    size = own.size;
    levels = subst (λ (h : Holdings). HasLevels h.size w.prep.root) (sym puts.holdings) own.levels;
    ready = ready_kept order m n w.prep.root (IsWrittenBy w.plan.change) own.ready puts.holdings only;
    own = stand_kept order m n w.prep.root (IsWrittenBy w.plan.change) (blocks_of w.prep) own.ready puts.holdings only own.own;
  }

  -- and so are those of all
  pub committed_still : AreCommitted order n ws
  committed_still v c = elim (pair_apart ws v w apart c here) [
    | inl same ↦ subst (IsCommitted order n) (sym same) own_still
    | inr out ↦ committed_stays order m n (blocks_of w.prep) v leaves out (committed v c)
  ]

-- ---- one node of several

module _ (order : Order) (nodes : Nodes) (m n : BlockState) (owner at : ℕ) (node : Root) (bytes : List ℕ) (s : IsConsistent m) (laid : AreLaid order m nodes) (here : nodes owner ≡ Some node) (can : CanPut order m node at (length bytes)) (puts : Puts order node at bytes m n) where
  -- what is known of it
  told : IsToldNode order m node
  told = laid.node owner node here

  -- the number has no other node
  the_node : (o : ℕ) (a : Root) → o ≡ owner → nodes o ≡ Some a → node ≡ a
  the_node o a is there = let both : Some node ≡ Some a = sym here ∙ ap nodes (sym is) ∙ there in cc

  -- that of another number stays
  others_stay : (o : ℕ) (a : Root) → nodes o ≡ Some a → o ≢ owner → KeepsNode order m n a
  others_stay o a there differ = put_keeps order m n node at bytes told can puts a (laid.apart owner o node a here there (λ e. differ (sym e)))

  -- over these blocks as well it can be asked and changed
  told_still : IsToldNode order n node
  told_still = told_put order m n node at bytes told can puts

  -- each node meets what it met
  visits_same : (o : ℕ) (a : Root) → nodes o ≡ Some a → visits_of (block_map order n) a ≡ visits_of (block_map order m) a
  visits_same o a there = elim (cases_eq o owner) [
    | inl is ↦ subst (λ x. visits_of (block_map order n) x ≡ visits_of (block_map order m) x) (the_node o a is there) (visits_after order m n node at bytes s can told.regular.apart puts)
    | inr differ ↦ visits_kept order m n a (others_stay o a there differ)
  ]

  -- so all lie as before
  laid_after : AreLaid order n nodes
  laid_after = record {
    node = λ o a there. elim (cases_eq o owner) [
      | inl is ↦ subst (IsToldNode order n) (the_node o a is there) told_still
      | inr differ ↦ told_kept order m n a told_still.consistent (others_stay o a there differ) (laid.node o a there)
    ];
    apart = λ o q a b there too differ u v c d. laid.apart o q a b there too differ u v (subst (λ vs. Contains vs u) (visits_same o a there) c) (subst (λ vs. Contains vs v) (visits_same q b too) d);
  }

  -- all of it
  pub are_put : ArePut order nodes m n owner at bytes
  are_put = record {
    holdings = puts.holdings;
    laid = laid_after;
    visits = visits_same;
    put = λ a there. subst (λ x. IsSameContent m.holdings.size (put_content m.holdings.size at bytes (node_content (block_map order m) x)) (node_content (block_map order n) x)) (the_node owner a refl there)
        (content_put order m n node at bytes told can puts);
    kept = λ o a there differ. node_kept order m n a (nodes o) (laid.node o a there) (others_stay o a there differ) there;
    all_met = λ all b works.
        let i : IsMet order m nodes b = all b (subst (λ (h : Holdings). IsTrue (h.works b)) puts.holdings works) in
        record {
          number = i.number;
          node = i.node;
          is = i.is;
          visit = i.visit;
          met = subst (λ vs. Contains vs i.visit) (sym (visits_same i.number i.node i.is)) i.met;
          block = i.block;
        };
    shared = shared_stays order m n node at bytes s can puts;
  }
