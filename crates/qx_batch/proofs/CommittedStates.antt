-- The states of the blocks while a batch is committed.
use Rattle.std.proofs.Common.{◌≡◌, ℕ, List, [], ◌∷◌, ◌++◌, length, inl, inr, refl, sym, ◌∙◌, ap, subst, arith}
use Rattle.std.specs.Prelude.{true, false, not, ◌&&◌}
use Rattle.std.proofs.Math.Bool.{and-true}
use Rattle.std.proofs.lemmas.List.{append-nil, nil_from_length}
use Rattle.qx_fields.specs.declared.order.Order.{Order}
use Rattle.qx_geom.specs.Lists.{is_in}
use Rattle.qx_geom.proofs.Members.{Contains-cases, Contains-cons, Contains-head, in_append_cases, in_left, in_right}
use Rattle.qx_geom.proofs.Truths.{not_so, true_or_false}
use Rattle.qx_blocks.specs.BlockState.{BlockState, IsConsistent}
use Rattle.qx_ptree.specs.ReadyLeaves.{IsWrittenBy, OwnAsLeft}
use Rattle.qx_ptree.specs.Takings.{LeavesOthers}
use Rattle.qx_ptree.specs.Trees.{HasLevels}
use Rattle.qx_ptree.specs.WorkState.{CanCommit, Preparation, blocks_of, committed, with_edits}
use Rattle.qx_ptree.proofs.CommittedHoldings.{holds-held, holds-private, holds-shared}
use Rattle.qx_ptree.proofs.OtherBlocks.{LeavesOthers-same, LeavesOthers-then, LeavesOthers-with_edits, LeavesOthers-within, LeavesOthers-without_all, LeavesOthers-work}
use Rattle.qx_ptree.proofs.StayingLeaves.{ready_stays, stand_stays, stay_others}
use Rattle.qx_ptree.proofs.WaitingChanges.{can_left, own_others}
use Rattle.qx_batch.specs.declared.batch.Waiting.{Waiting}
use Rattle.qx_batch.specs.Batches.{AreCommitted, AreReady, CanCommitAll, IsApartFrom, IsCommitted, IsReady, LeavesShared, all_blocks_of, committed_all}

-- the blocks are consistent before all commits and after each
abbrev pub AllConsistent : BlockState → List Waiting → Type 0
AllConsistent m [] = IsConsistent m
AllConsistent m (w ∷ ws) = IsConsistent (committed_all m (w ∷ ws)) × AllConsistent m ws

-- so they are after all
pub consistent_after : (m : BlockState) (ws : List Waiting) → AllConsistent m ws → IsConsistent (committed_all m ws)
consistent_after m [] s = s
consistent_after m (w ∷ ws) s = s.0

-- a commit changes the blocks of its change alone
pub commit_leaves : (m : BlockState) (p : Preparation) → CanCommit m p → LeavesOthers (blocks_of p) m (committed m p)
commit_leaves m p can = LeavesOthers-work p.work m (with_edits m p.work.edits) (committed m p)
    (LeavesOthers-with_edits p.work.kept m p.work.edits (λ e there. (can e there).2))
    (LeavesOthers-without_all p.work.released (with_edits m p.work.edits) p.work.released (λ b h. h))

-- a change that is apart from some has none of their blocks
pub out_of_all : (ws : List Waiting) (p : Preparation) → IsApartFrom ws p → (b : ℕ) → is_in (blocks_of p) b ≡ true → is_in (all_blocks_of ws) b ≡ false
out_of_all [] p apart b own = refl
out_of_all (w ∷ ws) p apart b own = not_so (is_in (all_blocks_of (w ∷ ws)) b) (λ h. elim (in_append_cases (blocks_of w.prep) (all_blocks_of ws) b h) [
  | inl first ↦ true_or_false (is_in (blocks_of p) b) own (apart w (Contains-head w ws) b first)
  | inr later ↦ true_or_false (is_in (all_blocks_of ws) b) later (out_of_all ws p (λ v c. apart v (Contains-cons w v ws c)) b own)
])

-- those behind the first can be committed
pub can_rest : (m : BlockState) (w : Waiting) (ws : List Waiting) → CanCommitAll m (w ∷ ws) → CanCommitAll m ws
can_rest m w ws can = record { apart = can.apart.1; each = λ v c. can.each v (Contains-cons w v ws c) }

-- so can those behind some
pub can_behind : (m : BlockState) (rest ws : List Waiting) → CanCommitAll m (rest ++ ws) → CanCommitAll m ws
can_behind m [] ws can = can
can_behind m (v ∷ rest) ws can = can_behind m rest ws (can_rest m v (rest ++ ws) can)

-- the commits change the blocks of the changes alone
pub rest_all : (m : BlockState) (ws : List Waiting) → CanCommitAll m ws → LeavesOthers (all_blocks_of ws) m (committed_all m ws)
rest_all m [] can = LeavesOthers-same [] m
rest_all m (w ∷ ws) can =
    let n : BlockState = committed_all m ws in
    let before : LeavesOthers (all_blocks_of ws) m n = rest_all m ws (can_rest m w ws can) in
    let own : OwnAsLeft w.prep m n = own_others (all_blocks_of ws) w.prep m n before (out_of_all ws w.prep can.apart.0) in
    LeavesOthers-then (all_blocks_of (w ∷ ws)) m n (committed n w.prep)
    (LeavesOthers-within (all_blocks_of ws) (all_blocks_of (w ∷ ws)) m n (λ b h. in_right (blocks_of w.prep) (all_blocks_of ws) b h) before)
    (LeavesOthers-within (blocks_of w.prep) (all_blocks_of (w ∷ ws)) n (committed n w.prep) (λ b h. in_left (blocks_of w.prep) (all_blocks_of ws) b h)
    (commit_leaves n w.prep (can_left w.prep m n own (can.each w (Contains-head w ws)))))

-- the first finds its own blocks as they were
pub own_behind : (m : BlockState) (w : Waiting) (ws : List Waiting) → CanCommitAll m (w ∷ ws) → OwnAsLeft w.prep m (committed_all m ws)
own_behind m w ws can = own_others (all_blocks_of ws) w.prep m (committed_all m ws) (rest_all m ws (can_rest m w ws can)) (out_of_all ws w.prep can.apart.0)

-- so it can be committed still
pub can_next : (m : BlockState) (w : Waiting) (ws : List Waiting) → CanCommitAll m (w ∷ ws) → CanCommit (committed_all m ws) w.prep
can_next m w ws can = can_left w.prep m (committed_all m ws) (own_behind m w ws can) (can.each w (Contains-head w ws))

-- no block that another tree holds is written, or given up there
pub shared_all : (m : BlockState) (ws : List Waiting) → AllConsistent m ws → CanCommitAll m ws → LeavesShared m (committed_all m ws)
shared_all m [] s can = record { bytes = λ b h. refl; held = λ b h. refl; private = λ b h. h }
shared_all m (w ∷ ws) s can =
    let n : BlockState = committed_all m ws in
    let sn : IsConsistent n = consistent_after m ws s.1 in
    let before : LeavesShared m n = shared_all m ws s.1 (can_rest m w ws can) in
    record {
      bytes = λ b h. holds-shared n w.prep sn b (can_next m w ws can) (before.private b h) ∙ before.bytes b h;
      held = λ b h. holds-held n w.prep sn b
          ∙ ap (λ t. n.holdings.held b && not (t && is_in w.prep.work.released b)) (before.private b h)
          ∙ and-true (n.holdings.held b) ∙ before.held b h;
      private = λ b h. holds-private n w.prep sn b ∙ ap (λ t. t && not (is_in w.prep.work.released b)) (before.private b h);
    }

-- a change that was committed stays so where other blocks change
pub committed_stays : (order : Order) (m n : BlockState) (changed : List ℕ) (w : Waiting) → LeavesOthers changed m n → ((b : ℕ) → is_in (blocks_of w.prep) b ≡ true → is_in changed b ≡ false) → IsCommitted order m w → IsCommitted order n w
committed_stays order m n changed w leaves out i =
    let stay = stay_others m n changed (blocks_of w.prep) leaves out in
    record {
      sixteen = i.sixteen;
      size = i.size;
      levels = subst (λ s. HasLevels s w.prep.root) (sym leaves.size) i.levels;
      ready = ready_stays order m n w.prep.root (IsWrittenBy w.plan.change) (blocks_of w.prep) i.ready i.own stay;
      own = stand_stays order m n w.prep.root (IsWrittenBy w.plan.change) (blocks_of w.prep) i.ready i.own stay;
    }

-- what the changes write is ready after all commits
pub committed_ready : (order : Order) (m : BlockState) (ws : List Waiting) → CanCommitAll m ws → AreReady order m ws → AreCommitted order (committed_all m ws) ws
committed_ready order m [] can ready v c = absurd (omega (arith, c.1))
committed_ready order m (w ∷ ws) can ready v c =
    let n : BlockState = committed_all m ws in
    let leaves : LeavesOthers (blocks_of w.prep) n (committed n w.prep) = commit_leaves n w.prep (can_next m w ws can) in
    let before : LeavesOthers (all_blocks_of ws) m n = rest_all m ws (can_rest m w ws can) in
    elim (Contains-cases w v ws c) [
      | inl own ↦
          let r : IsReady order m w = ready w (Contains-head w ws) in
          subst (IsCommitted order (committed n w.prep)) own (record {
            sixteen = r.sixteen;
            size = r.size;
            levels = subst (λ s. HasLevels s w.prep.root) (sym (leaves.size ∙ before.size)) r.levels;
            ready = r.written n (own_behind m w ws can);
            own = r.own n (own_behind m w ws can);
          })
      | inr behind ↦ committed_stays order n (committed n w.prep) (blocks_of w.prep) v leaves (can.apart.0 v behind)
          (committed_ready order m ws (can_rest m w ws can) (λ u d. ready u (Contains-cons w u ws d)) v behind)
    ]

-- ---- the loop

-- a list that ends in one, and what follows
last_first : (xs : List Waiting) (w : Waiting) (ys : List Waiting) → (xs ++ w ∷ []) ++ ys ≡ xs ++ w ∷ ys
last_first [] w ys = refl
last_first (x ∷ xs) w ys = ap (λ zs. x ∷ zs) (last_first xs w ys)

-- the changes of `done` are committed, those of `rest` wait still
pub record IsCommitting (first now : BlockState) (ws rest : List Waiting) : Type 0 where
  pub done : List Waiting
  pub split : ws ≡ rest ++ done
  pub is : now ≡ committed_all first done
  pub consistent : AllConsistent first done

-- none is committed yet
pub committing_none : (m : BlockState) (ws : List Waiting) → IsConsistent m → IsCommitting m m ws ws
committing_none m ws s = record { done = []; split = sym (append-nil ws); is = refl; consistent = s }

-- the last of those that wait can be committed
pub can_last : (first now : BlockState) (ws items rest : List Waiting) (w : Waiting) → items ≡ rest ++ w ∷ [] → CanCommitAll first ws → IsCommitting first now ws items → CanCommit now w.prep
can_last first now ws items rest w last can c =
    subst (λ m. CanCommit m w.prep) (sym c.is)
    (can_next first w c.done (can_behind first rest (w ∷ c.done) (subst (CanCommitAll first) (c.split ∙ ap (λ xs. xs ++ c.done) last ∙ last_first rest w c.done) can)))

-- it is committed
pub committing_next : (first now new : BlockState) (ws items rest : List Waiting) (w : Waiting) → items ≡ rest ++ w ∷ [] → new ≡ committed now w.prep → IsConsistent new → IsCommitting first now ws items → IsCommitting first new ws rest
committing_next first now new ws items rest w last is s c =
    let here : new ≡ committed_all first (w ∷ c.done) = is ∙ ap (λ m. committed m w.prep) c.is in
    record {
      done = w ∷ c.done;
      split = c.split ∙ ap (λ xs. xs ++ c.done) last ∙ last_first rest w c.done;
      is = here;
      consistent = (subst IsConsistent here s, c.consistent);
    }

-- all are committed
pub record AreAllCommitted (first now : BlockState) (ws : List Waiting) : Type 0 where
  pub is : now ≡ committed_all first ws
  pub consistent : AllConsistent first ws

-- once none waits
pub committing_ends : (first now : BlockState) (ws all items : List Waiting) → length items ≡ 0 → ws ≡ all → IsCommitting first now ws items → AreAllCommitted first now all
committing_ends first now ws all items none is c =
    let done : c.done ≡ all = sym (c.split ∙ ap (λ xs. xs ++ c.done) (nil_from_length items none)) ∙ is in
    record { is = c.is ∙ ap (committed_all first) done; consistent = subst (AllConsistent first) done c.consistent }
