-- What leaves a change that waits for its commit as it was.
use Rattle.std.proofs.Common.{◌≡◌, ℕ, List, [], ◌∷◌, inl, inr, refl, sym, ◌∙◌, ap, subst}
use Rattle.std.specs.Prelude.{true, false, not, ◌||◌, Bool, IsTrue, Contains}
use Rattle.std.specs.List.{list_any}
use Rattle.std.proofs.Math.Bool.{or-false}
use Rattle.std.proofs.lemmas.Bool.{or_left as either_left}
use Rattle.qx_fields.specs.declared.order.Order.{Order}
use Rattle.qx_geom.specs.Lists.{is_in}
use Rattle.qx_geom.proofs.Members.{in_cases, in_head, in_tail}
use Rattle.qx_geom.proofs.Truths.{not_so, not_true, or_left, or_right, true_or_false}
use Rattle.qx_nodes.specs.Visits.{Visit, visits_of}
use Rattle.qx_blocks.specs.BlockState.{BlockState, IsConsistent}
use Rattle.qx_ptree.specs.Altered.{AsLeft, IsPrepared, IsSameBlock}
use Rattle.qx_ptree.specs.KeptNodes.{KeepsNode}
use Rattle.qx_ptree.specs.ReadyLeaves.{OwnAsLeft}
use Rattle.qx_ptree.specs.Takings.{LeavesOthers, Takes}
use Rattle.qx_ptree.specs.Trees.{IsWorking, block_map}
use Rattle.qx_ptree.specs.WorkState.{CanCommit, Preparation, blocks_of}
use Rattle.qx_ptree.proofs.CarriedPlans.{fresh_held, held_after, held_old, private_after}
use Rattle.qx_ptree.proofs.KeptNodes.{visits_kept}
use Rattle.qx_ptree.proofs.OtherBlocks.{kept_among}
use Rattle.qx_ptree.proofs.CommitSteps.{same_after}

-- none of some blocks is one of others
abbrev pub IsApart : List ℕ → List ℕ → Type 0
IsApart blocks others = (b : ℕ) → is_in blocks b ≡ true → is_in others b ≡ false

-- a test that fails for all fails for each
none_passes : (f : ℕ → Bool) (xs : List ℕ) → list_any f xs ≡ false → (b : ℕ) → is_in xs b ≡ true → f b ≡ false
none_passes f [] none b h = absurd (cc)
none_passes f (x ∷ xs) none b h = elim (in_cases x b xs h) [
  | inl is ↦ ap f (sym is) ∙ or_left (f x) (list_any f xs) none
  | inr later ↦ none_passes f xs (or_right (f x) (list_any f xs) none) b later
]

-- two changes that are apart have no block in common
pub apart_each : (p q : Preparation) → not (list_any (λ b. is_in (blocks_of q) b) (blocks_of p)) ≡ true → IsApart (blocks_of p) (blocks_of q)
apart_each p q h = none_passes (λ b. is_in (blocks_of q) b) (blocks_of p) (not_true (list_any (λ b. is_in (blocks_of q) b) (blocks_of p)) h)

-- a test that fails for each fails for all
all_fail : (f : ℕ → Bool) (xs : List ℕ) → ((b : ℕ) → is_in xs b ≡ true → f b ≡ false) → list_any f xs ≡ false
all_fail f [] out = refl
all_fail f (x ∷ xs) out = λ i. out x (in_head x xs) i || all_fail f xs (λ b h. out b (in_tail x b xs h)) i

-- so two changes with no block in common pass the test
pub apart_test : (p q : Preparation) → IsApart (blocks_of p) (blocks_of q) → not (list_any (λ b. is_in (blocks_of q) b) (blocks_of p)) ≡ true
apart_test p q h = ap not (all_fail (λ b. is_in (blocks_of q) b) (blocks_of p) h)

-- no block of the second is one of the first
pub apart_back : (blocks others : List ℕ) → IsApart blocks others → IsApart others blocks
apart_back blocks others h b in' = not_so (is_in blocks b) (λ e. true_or_false (is_in others b) in' (h b e))

-- ---- whether bytes are told or not

-- blocks that are taken leave what is ready
pub own_taken : (fresh : List ℕ) (p : Preparation) (m n : BlockState) → Takes fresh m n → OwnAsLeft p m n
own_taken fresh p m n t = record { size = t.size; count = t.count; ready = λ b h was. t.ready b (either_left (m.holdings.ready b) (is_in fresh b) was); bytes = λ b h was. t.ready_bytes b was }

-- and a change of other blocks leaves the change's own
pub own_others : (changed : List ℕ) (p : Preparation) (m n : BlockState) → LeavesOthers changed m n → IsApart (blocks_of p) changed → OwnAsLeft p m n
own_others changed p m n l out = record { size = l.size; count = l.count; ready = λ b h was. l.ready b (out b h) ∙ was; bytes = λ b h was. l.bytes b (out b h) }

-- one call after another
pub own_then : (p : Preparation) (m n o : BlockState) → OwnAsLeft p m n → OwnAsLeft p n o → OwnAsLeft p m o
own_then p m n o f g = record {
  size = g.size ∙ f.size;
  count = g.count ∙ f.count;
  ready = λ b h was. g.ready b h (f.ready b h was);
  bytes = λ b h was. g.bytes b h (f.ready b h was) ∙ f.bytes b h was;
}

-- what is left so can be committed
pub can_left : (p : Preparation) (m n : BlockState) → OwnAsLeft p m n → CanCommit m p → CanCommit n p
can_left p m n left can e c =
    let before : IsTrue (m.holdings.ready e.block) = (can e c).0 in (
      left.ready e.block (kept_among p.work e.block (can e c).2) before,
      (can e c).1 ∙ sym left.size,
      (can e c).2,
    )

-- ---- where bytes are told

-- a block that was held is as it was
same_taken : (fresh : List ℕ) (m n : BlockState) (b : ℕ) → IsTrue n.tells → Takes fresh m n → IsTrue (m.holdings.held b) → IsSameBlock m n b
same_taken fresh m n b told t held =
    let old : is_in fresh b ≡ false = held_old fresh m n b t held in
    record {
      held = held_after fresh m n b t held ∙ sym held;
      works = t.works b ∙ ap (λ x. m.holdings.works b || x) old ∙ or-false (m.holdings.works b);
      private = private_after fresh m n b t held;
      ready = λ was. t.ready b (either_left (m.holdings.ready b) (is_in fresh b) was);
      bytes = t.told_bytes told b held;
    }

-- a block that isn't changed is as it was
same_others : (changed : List ℕ) (m n : BlockState) (b : ℕ) → LeavesOthers changed m n → is_in changed b ≡ false → IsSameBlock m n b
same_others changed m n b l out = record { held = l.held b out; works = l.works b out; private = l.private b out; ready = λ was. l.ready b out ∙ was; bytes = l.bytes b out }

-- the blocks of a prepared change are held
pub own_held : (order : Order) (old now : BlockState) (p : Preparation) → IsConsistent old → IsWorking order old p.node → Takes p.work.fresh old now → IsPrepared order old now p
    → (b : ℕ) → is_in (blocks_of p) b ≡ true → IsTrue (now.holdings.held b)
own_held order old now p s working t prepared b h = elim (prepared.blocks b h) [
  | inl fresh ↦ fresh_held p.work.fresh old now b t fresh
  | inr met ↦ subst (λ q. IsTrue (now.holdings.held q)) met.2 (held_after p.work.fresh old now met.0.block t (s.works_held met.0.block (working met.0 met.1)))
]

-- blocks that are taken leave it as it was
pub left_taken : (order : Order) (fresh : List ℕ) (p : Preparation) (m n : BlockState) → IsConsistent m → IsTrue n.tells → IsWorking order m p.node → ((b : ℕ) → is_in (blocks_of p) b ≡ true → IsTrue (m.holdings.held b)) → Takes fresh m n
    → AsLeft order p m n
left_taken order fresh p m n s told working held t = record {
  size = t.size;
  count = t.count;
  own = λ b h. same_taken fresh m n b told t (held b h);
  others = λ v c. same_taken fresh m n v.block told t (s.works_held v.block (working v c));
}

-- and a change of other blocks does
pub left_others : (order : Order) (changed : List ℕ) (p : Preparation) (m n : BlockState) → LeavesOthers changed m n → IsApart (blocks_of p) changed
    → ((v : Visit) → Contains (visits_of (block_map order m) p.node) v → is_in changed v.block ≡ false) → AsLeft order p m n
left_others order changed p m n l own met = record {
  size = l.size;
  count = l.count;
  own = λ b h. same_others changed m n b l (own b h);
  others = λ v c. same_others changed m n v.block l (met v c);
}

-- what is left as it was has its node
pub left_keeps : (order : Order) (p : Preparation) (m n : BlockState) → AsLeft order p m n → KeepsNode order m n p.node
left_keeps order p m n left = record { size = left.size; count = left.count; works = λ v c was. (left.others v c).works ∙ was; private = λ v c. (left.others v c).private; bytes = λ v c. (left.others v c).bytes }

-- one call after another
pub left_then : (order : Order) (p : Preparation) (m n o : BlockState) → AsLeft order p m n → AsLeft order p n o → AsLeft order p m o
left_then order p m n o f g = record {
  size = g.size ∙ f.size;
  count = g.count ∙ f.count;
  own = λ b h. same_after m n o b (f.own b h) (g.own b h);
  others = λ v c. same_after m n o v.block (f.others v c) (g.others v (subst (λ vs. Contains vs v) (sym (visits_kept order m n p.node (left_keeps order p m n f))) c));
}

-- it is as it was where nothing was done
pub left_same : (order : Order) (p : Preparation) (m : BlockState) → AsLeft order p m m
left_same order p m = record { size = refl; count = refl; own = λ b h. same_block b; others = λ v c. same_block v.block }
  where
    same_block : (b : ℕ) → IsSameBlock m m b
    same_block b = record { held = refl; works = refl; private = refl; ready = λ h. h; bytes = refl }

-- whether bytes are told or not
pub own_same : (p : Preparation) (m : BlockState) → OwnAsLeft p m m
own_same p m = record { size = refl; count = refl; ready = λ b h was. was; bytes = λ b h was. refl }
