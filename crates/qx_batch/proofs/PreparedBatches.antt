-- Changes that are prepared one after another, as seen from the blocks before all of them.
use Rattle.std.proofs.Common.{◌≡◌, ℕ, ◌+◌, ◌<◌, List, [], ◌∷◌, ◌++◌, length, take, get_or, inl, inr, refl, sym, ◌∙◌, ap, subst, arith, length-append}
use Rattle.std.specs.Prelude.{true, false, IsTrue, Contains}
use Rattle.std.proofs.lemmas.Grind.{flat_map-append}
use Rattle.std.proofs.lemmas.List.{append-nil, map-append}
use Rattle.std.proofs.lemmas.List.Elements.{Contains-append_cases}
use Rattle.std.proofs.lemmas.List.Sums.{sum_by-cons}
use Rattle.qx_fields.specs.declared.order.Order.{Order}
use Rattle.qx_geom.specs.Lists.{is_in}
use Rattle.qx_geom.proofs.Members.{Contains-cases, Contains-cons, Contains-head}
use Rattle.qx_blocks.specs.BlockState.{BlockState, Holdings, IsConsistent}
use Rattle.qx_blocks.specs.Calls.{Keeps}
use Rattle.qx_ptree.specs.Alterations.{HasRoomFor, alteration_of, fresh_count}
use Rattle.qx_ptree.specs.Altered.{IsPrepared, prepared_alteration}
use Rattle.qx_ptree.specs.Fates.{IsChange}
use Rattle.qx_ptree.specs.KeptNodes.{KeepsNode}
use Rattle.qx_ptree.specs.ReadyLeaves.{OwnAsLeft}
use Rattle.qx_ptree.specs.Takings.{Takes}
use Rattle.qx_ptree.specs.Trees.{HasLevels, IsToldNode}
use Rattle.qx_ptree.specs.WaitingChanges.{IsWaiting}
use Rattle.qx_ptree.specs.WorkState.{CanCommit, Preparation, blocks_of}
use Rattle.qx_ptree.proofs.KeptNodes.{alteration_kept, kept_taken, node_taken, told_kept}
use Rattle.qx_ptree.proofs.KeptPlans.{kept_node}
use Rattle.qx_ptree.proofs.SeveralChanges.{wait_before, wait_begins, wait_taken}
use Rattle.qx_ptree.proofs.TakenBlocks.{Takes-after, Takes-same, Takes-then}
use Rattle.qx_ptree.proofs.WaitingChanges.{apart_back, can_left, own_taken, own_then}
use Rattle.qx_batch.specs.declared.batch.Waiting.{Waiting}
use Rattle.qx_batch.specs.declared.planned.Planned.{Planned}
use Rattle.qx_batch.specs.Batches.{ArePairsApart, ArePrepared, IsAdded, IsApartFrom, IsReady, fresh_of, plans_of}
use Rattle.qx_batch.specs.Plans.{ArePlanned, HasJointRoom, IsPlanned, need_of_all, plan_alteration}
use Rattle.qx_batch.proofs.JointNeeds.{at_place, need_within, one_more}

-- so many changes are prepared, and where bytes are told each waits for its commit, as seen from the blocks before all
pub record AreSoFar (order : Order) (old now : BlockState) (ps : List Planned) (ws : List Waiting) : Type 0 where
  pub prepared : ArePrepared order old now ps ws
  pub waits : IsTrue now.tells → (w : Waiting) → Contains ws w → IsWaiting order old now w.prep

-- none is prepared yet
pub prepared_none : (order : Order) (m : BlockState) (ws : List Waiting) → ws ≡ [] → AreSoFar order m m [] ws
prepared_none order m ws none = subst (AreSoFar order m m []) (sym none) (record {
  prepared = record {
    plans = refl;
    takes = Takes-same m;
    can = record { apart = tt; each = λ w c. absurd (omega (arith, c.1)) };
    ready = λ w c. absurd (omega (arith, c.1));
    prepared = λ told w c. absurd (omega (arith, c.1));
  };
  waits = λ told w c. absurd (omega (arith, c.1));
})

-- ---- one more change

-- a planned node where bytes are told
pub planned_told : (order : Order) (m : BlockState) (p : Planned) → IsConsistent m → IsTrue m.tells → IsPlanned order m p → IsToldNode order m p.node
planned_told order m p s told i = record { consistent = s; sixteen = p.sixteen; levels = i.node.levels; works = i.node.works told; regular = i.node.regular told }

-- changes that are apart, and one more
pairs_more : (ws : List Waiting) (w : Waiting) → ArePairsApart ws → IsApartFrom ws w.prep → ArePairsApart (ws ++ w ∷ [])
pairs_more [] w apart own = (λ v c. absurd (omega (arith, c.1)), tt)
pairs_more (x ∷ xs) w apart own = (
  λ v c. elim (Contains-append_cases xs (w ∷ []) v c) [
    | inl older ↦ apart.0 v older
    | inr last ↦ elim (Contains-cases w v [] last) [
      | inl is ↦ subst (λ (y : Waiting). (b : ℕ) → is_in (blocks_of y.prep) b ≡ true → is_in (blocks_of x.prep) b ≡ false) is
          (apart_back (blocks_of x.prep) (blocks_of w.prep) (own x (Contains-head x xs)))
      | inr none ↦ absurd (omega (arith, none.1))
    ]
  ],
  pairs_more xs w apart.1 (λ v c. own v (Contains-cons x v xs c)),
)

-- the blocks that one more took
pub fresh_more : (ws : List Waiting) (w : Waiting) → fresh_of (ws ++ w ∷ []) ≡ fresh_of ws ++ w.prep.work.fresh
fresh_more ws w = flat_map-append (λ (x : Waiting). x.prep.work.fresh) ws (w ∷ []) ∙ ap (λ fs. fresh_of ws ++ fs) (append-nil w.prep.work.fresh)

-- what is ready after its commit stays so where its own blocks are left
pub ready_later : (order : Order) (m n : BlockState) (w : Waiting) → OwnAsLeft w.prep m n → IsReady order m w → IsReady order n w
ready_later order m n w left i = record {
  node = i.node;
  change = i.change;
  sixteen = i.sixteen;
  size = i.size;
  levels = subst (λ s. HasLevels s w.prep.root) (sym left.size) i.levels;
  distinct = i.distinct;
  written = λ x later. i.written x (own_then w.prep m n x left later);
  own = λ x later. i.own x (own_then w.prep m n x left later);
}

module _ (order : Order) (old mid : BlockState) (so : IsConsistent old) (sm : IsConsistent mid) (ps : List Planned) (ws : List Waiting) (before : AreSoFar order old mid ps ws) (p : Planned) (is : IsPlanned order old p) where
  abbrev taken : Takes (fresh_of ws) old mid
  taken = before.prepared.takes

  -- the next change is planned as it was
  pub planned_still : IsPlanned order mid p
  planned_still = record { node = node_taken order (fresh_of ws) old mid p.node so taken is.node; change = subst (λ s. IsChange s p.change) (sym taken.size) is.change }

  -- its node stayed
  told_old : IsTrue mid.tells → IsToldNode order old p.node
  told_old told = planned_told order old p so (taken.told_before told) is

  kept : IsTrue mid.tells → KeepsNode order old mid p.node
  kept told = kept_taken order (fresh_of ws) old mid p.node so (is.node.works (taken.told_before told)) told taken

  -- so its need is what it was
  pub need_still : IsTrue mid.tells → fresh_count (alteration_of order mid p.node p.change) ≡ fresh_count (plan_alteration order old p)
  need_still told = ap fresh_count (alteration_kept order old mid p.node sm (kept told) (told_old told) p.change)

  -- it waits, as seen from the blocks before all
  waits_before : (new : BlockState) (q : Preparation) → q.node ≡ p.node → Takes q.work.fresh mid new → IsTrue new.tells → IsPrepared order mid new q → IsWaiting order old new q
  waits_before new q same t told i =
      let told_mid : IsTrue mid.tells = t.told_before told in
      let first : IsToldNode order old q.node = subst (IsToldNode order old) (sym same) (told_old told_mid) in
      let here : IsToldNode order mid q.node = subst (IsToldNode order mid) (sym same) (told_kept order old mid p.node sm (kept told_mid) (told_old told_mid)) in
      wait_before order (fresh_of ws) old mid new q first sm told_mid taken (wait_begins order mid new q here told t i)

  -- it is prepared
  pub prepared_more : (new : BlockState) (vs : List Waiting) → IsAdded order mid new p ws vs → AreSoFar order old new (ps ++ p ∷ []) vs
  prepared_more new vs a =
      let w : Waiting = record { plan = p; prep = a.prep } in
      let t : Takes a.prep.work.fresh mid new = a.prepares.takes in
      let waits : IsTrue new.tells → (v : Waiting) → Contains (ws ++ w ∷ []) v → IsWaiting order old new v.prep = λ told v c. elim (Contains-append_cases ws (w ∷ []) v c) [
        | inl older ↦ wait_taken order a.prep.work.fresh old mid new v.prep (before.waits (t.told_before told) v older) sm told t
        | inr last ↦ elim (Contains-cases w v [] last) [
          | inl same ↦ subst (λ (y : Waiting). IsWaiting order old new y.prep) same (waits_before new a.prep a.prepares.node t told (a.prepares.prepared told))
          | inr none ↦ absurd (omega (arith, none.1))
        ]
      ] in
      subst (AreSoFar order old new (ps ++ p ∷ [])) (sym a.is) (record {
        prepared = record {
          plans = map-append (λ (x : Waiting). x.plan) ws (w ∷ []) ∙ ap (λ qs. qs ++ p ∷ []) before.prepared.plans;
          takes = subst (λ fs. Takes fs old new) (sym (fresh_more ws w)) (Takes-then (fresh_of ws) a.prep.work.fresh old mid new taken t);
          can = record {
            apart = pairs_more ws w before.prepared.can.apart a.apart;
            each = λ v c. elim (Contains-append_cases ws (w ∷ []) v c) [
              | inl older ↦ can_left v.prep mid new (own_taken a.prep.work.fresh v.prep mid new t) (before.prepared.can.each v older)
              | inr last ↦ elim (Contains-cases w v [] last) [
                | inl same ↦ subst (λ (y : Waiting). CanCommit new y.prep) same a.prepares.ready
                | inr none ↦ absurd (omega (arith, none.1))
              ]
            ];
          };
          ready = λ v c. elim (Contains-append_cases ws (w ∷ []) v c) [
            | inl older ↦ ready_later order mid new v (own_taken a.prep.work.fresh v.prep mid new t) (before.prepared.ready v older)
            | inr last ↦ elim (Contains-cases w v [] last) [
              | inl same ↦ subst (IsReady order new) same (record {
                node = a.prepares.node;
                change = a.prepares.change;
                sixteen = a.prepares.sixteen;
                size = a.prepares.size;
                levels = subst (λ s. HasLevels s a.prep.root) (sym t.size) a.prepares.levels;
                distinct = a.prepares.distinct;
                written = a.prepares.written;
                own = a.prepares.own;
              })
              | inr none ↦ absurd (omega (arith, none.1))
            ]
          ];
          prepared = λ told v c. (waits told v c).prepared;
        };
        waits = waits;
      })

-- ---- room

-- what a change that waits needed is what it was planned to need
need_is : (order : Order) (old now : BlockState) (w : Waiting) → IsReady order now w → fresh_count (prepared_alteration order old w.prep) ≡ fresh_count (plan_alteration order old w.plan)
need_is order old now w r = λ i. fresh_count (alteration_of order old (r.node i) (r.change i))

-- the blocks that were taken are the need so far
pub need_so_far : (order : Order) (old now : BlockState) (ws : List Waiting) → ((w : Waiting) → Contains ws w → IsReady order now w) → ((w : Waiting) → Contains ws w → IsPrepared order old now w.prep) → length (fresh_of ws) ≡ need_of_all order old (plans_of ws)
need_so_far order old now [] ready each = refl
need_so_far order old now (w ∷ ws) ready each =
    length-append w.prep.work.fresh (fresh_of ws)
    ∙ (λ i. ((each w (Contains-head w ws)).need ∙ need_is order old now w (ready w (Contains-head w ws))) i + need_so_far order old now ws (λ v c. ready v (Contains-cons w v ws c)) (λ v c. each v (Contains-cons w v ws c)) i)
    ∙ sym (sum_by-cons (λ (p : Planned). fresh_count (plan_alteration order old p)) w.plan (plans_of ws))

module _ (order : Order) (old mid : BlockState) (so : IsConsistent old) (sm : IsConsistent mid) (ps : List Planned) (i : ℕ) (p : Planned) (low : i < length ps) (is : p ≡ get_or ps i p) (all : ArePlanned order old ps) (ws : List Waiting) (before : AreSoFar order old mid (take i ps) ws) where
  -- the next one can be prepared
  pub next_planned : IsPlanned order mid p
  next_planned = planned_still order old mid so sm (take i ps) ws before p (all p (at_place ps i p low is))

  -- there is room for it
  pub next_room : HasJointRoom order old ps → HasRoomFor order mid p.node p.change
  next_room room told =
      let taken : length (fresh_of ws) ≡ need_of_all order old (take i ps) = need_so_far order old mid ws before.prepared.ready (before.prepared.prepared told) ∙ ap (need_of_all order old) before.prepared.plans in
      let same : fresh_count (alteration_of order mid p.node p.change) ≡ fresh_count (plan_alteration order old p) = need_still order old mid so sm (take i ps) ws before p (all p (at_place ps i p low is)) told in
      omega (arith, taken, same, need_within order old ps i p low is, room (before.prepared.takes.told_before told), before.prepared.takes.free)

  -- with it there is one more
  pub next_prepared : (new : BlockState) (vs : List Waiting) → IsAdded order mid new p ws vs → AreSoFar order old new (take (i + 1) ps) vs
  next_prepared new vs added = subst (λ qs. AreSoFar order old new qs vs) (sym (one_more ps i p low is)) (prepared_more order old mid so sm (take i ps) ws before p (all p (at_place ps i p low is)) new vs added)

-- ---- a call that only looks comes first

-- what is planned still is
pub planned_kept : (order : Order) (old mid : BlockState) (p : Planned) → Keeps old mid → IsPlanned order old p → IsPlanned order mid p
planned_kept order old mid p k is = record { node = kept_node order old mid p.node k is.node; change = subst (λ (h : Holdings). IsChange h.size p.change) (sym k.holdings) is.change }

-- what is prepared then was, seen from the blocks before it
pub prepared_kept : (order : Order) (old mid now : BlockState) (ps : List Planned) (ws : List Waiting) → Keeps old mid → ArePrepared order mid now ps ws → ArePrepared order old now ps ws
prepared_kept order old mid now ps ws k p = record {
  plans = p.plans;
  takes = Takes-after (fresh_of ws) old mid now k p.takes;
  can = p.can;
  ready = p.ready;
  prepared = λ told w c. subst (λ m. IsPrepared order m now w.prep) (k.told (p.takes.told_before told)) (p.prepared told w c);
}
