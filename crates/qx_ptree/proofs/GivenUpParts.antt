-- The blocks of a part of a node, as they are noted to be given up.
use Rattle.std.proofs.Common.{◌≡◌, ◌≢◌, ℕ, zero, suc, ◌+◌, ◌*◌, ◌-◌, ◌^◌, ◌<◌, ◌≤◌, ◌⊎◌, inl, inr, List, [], ◌∷◌, ◌++◌, append-nil, append_assoc, refl, sym, ◌∙◌, ap, subst, arith}
use Rattle.std.specs.Prelude.{true, false, not, IsTrue, Result, Ok}
use Rattle.std.proofs.Math.Nat.{mul-le-mul_right}
use Rattle.std.proofs.Math.Numerals.{sub-one}
use Rattle.std.proofs.lemmas.Bool.{cases_lt, eq-eqb}
use Rattle.std.proofs.lemmas.Result.{on_ok_weaker}
use Rattle.qx_geom.specs.Lists.{is_in}
use Rattle.qx_geom.specs.Pointer.{absent, per_block}
use Rattle.qx_geom.proofs.Members.{in_append_cases, in_head, in_left, in_right}
use Rattle.qx_blocks.specs.declared.blocks.Stop.{Stop}
use Rattle.qx_blocks.specs.BlockState.{BlockState, IsConsistent}
use Rattle.qx_blocks.specs.Calls.{Keeps}
use Rattle.qx_ptree.specs.declared.plan.Plan.{Plan}
use Rattle.qx_ptree.specs.Building.{GivesUp, IsBlocksOf, LiesUnder, one_block, with_released}
use Rattle.qx_ptree.specs.Parts.{has_below}
use Rattle.qx_ptree.specs.Plans.{InReach, IsPlan, alteration_in, planned_pointer}
use Rattle.qx_ptree.specs.Trees.{Leads, block_map}
use Rattle.qx_ptree.specs.WorkState.{WorkState}
use Rattle.qx_ptree.proofs.OwnWork.{in_one}
use Rattle.qx_ptree.proofs.PlannedPointers.{IsToldPlan, planned_above, planned_below, planned_lead}
use Rattle.qx_ptree.proofs.PointerCounts.{words_positive}
use Rattle.qx_ptree.proofs.PointersByPosition.{at_above}
use Rattle.qx_ptree.proofs.QuietParts.{none_below_block, not_there}
use Rattle.qx_ptree.proofs.UnderRows.{own_under, row_before, row_last, row_more, under_own, under_words, words_under}

-- ---- lists of blocks

-- none
pub blocks_none : (m : BlockState) (plan : Plan) (inside : ℕ → ℕ → Type 0) → ((k j : ℕ) → inside k j → planned_pointer plan m k j ≡ absent) → IsBlocksOf m plan inside []
blocks_none m plan inside none = record { all = λ k j h there. absurd (there (none k j h)); only = λ b s. absurd (cc) }

-- the block of one position
pub blocks_one : (m : BlockState) (plan : Plan) (inside : ℕ → ℕ → Type 0) (k j : ℕ) → inside k j → planned_pointer plan m k j ≢ absent → ((h i : ℕ) → inside h i → (h ≡ k) × (i ≡ j)) → IsBlocksOf m plan inside (planned_pointer plan m k j ∷ [])
blocks_one m plan inside k j here there alone =
    let p : ℕ = planned_pointer plan m k j in
    record {
      all = λ h i s e. let at : (h ≡ k) × (i ≡ j) = alone h i s in subst (λ z. is_in (p ∷ []) z ≡ true) (λ t. planned_pointer plan m (sym at.0 t) (sym at.1 t)) (in_head p []);
      only = λ b s. (k, j, here, in_one p b s, λ e. there (in_one p b s ∙ e));
    }

-- those of two parts
pub blocks_join : (m : BlockState) (plan : Plan) (one other inside : ℕ → ℕ → Type 0) (xs ys : List ℕ) → IsBlocksOf m plan one xs → IsBlocksOf m plan other ys
    → ((k j : ℕ) → inside k j → planned_pointer plan m k j ≢ absent → one k j ⊎ other k j) → ((k j : ℕ) → one k j → inside k j) → ((k j : ℕ) → other k j → inside k j) → IsBlocksOf m plan inside (xs ++ ys)
blocks_join m plan one other inside xs ys a b cases left right = record {
  all = λ k j h there. elim (cases k j h there) [ inl x ↦ in_left xs ys (planned_pointer plan m k j) (a.all k j x there) | inr x ↦ in_right xs ys (planned_pointer plan m k j) (b.all k j x there) ];
  only = λ q s. elim (in_append_cases xs ys q s) [
    | inl x ↦ let r = a.only q x in (r.0, r.1, left r.0 r.1 r.2, r.3, r.4)
    | inr x ↦ let r = b.only q x in (r.0, r.1, right r.0 r.1 r.2, r.3, r.4)
  ];
}

-- ---- parts of a node

-- no pointer stands below an absent one, but for the first block above the node's levels
pub absent_under : (m : BlockState) (plan : Plan) (level index k j : ℕ) → IsToldPlan m plan → (level ≤ plan.node.levels) ⊎ (index ≢ 0) → planned_pointer plan m level index ≡ absent
    → LiesUnder (per_block m.holdings.size) (one_block level index) k j → planned_pointer plan m k j ≡ absent
absent_under m plan level index k j p within none u =
    let size : ℕ = m.holdings.size in
    let leaves : List ℕ = (alteration_in plan m).old.present in
    let above : has_below size leaves level index ≡ false = elim (cases_lt plan.node.levels level) [
      | inl high ↦ elim within [ inl low ↦ absurd (omega arith) | inr other ↦ planned_above m plan level index p high other ]
      | inr low ↦ planned_below m plan level index p low ∙ ap not (eq-eqb (planned_pointer plan m level index) absent none)
    ] in
    elim (cases_lt plan.node.levels k) [
      | inl high ↦ at_above (block_map plan.order m) plan.node k j high
      | inr low ↦ not_there (planned_pointer plan m k j) (sym (planned_below m plan k j p low) ∙ none_below_block size leaves level index k j u above)
    ]

-- the blocks of a row and one more
pub blocks_more : (m : BlockState) (plan : Plan) (P level first count : ℕ) (xs ys : List ℕ) → IsBlocksOf m plan (LiesUnder P (record { level = level; first = first; count = count })) xs → IsBlocksOf m plan (LiesUnder P (one_block level (first + count))) ys
    → IsBlocksOf m plan (LiesUnder P (record { level = level; first = first; count = count + 1 })) (xs ++ ys)
blocks_more m plan P level first count xs ys a b =
    blocks_join m plan (LiesUnder P (record { level = level; first = first; count = count })) (LiesUnder P (one_block level (first + count))) (LiesUnder P (record { level = level; first = first; count = count + 1 })) xs ys a b
    (λ k j u there. row_more P level first count k j u) (row_before P level first count) (row_last P level first count)

-- a block and those below its words
pub blocks_above : (m : BlockState) (plan : Plan) (P l index : ℕ) (xs : List ℕ) → 0 < P → planned_pointer plan m (suc l) index ≢ absent → IsBlocksOf m plan (LiesUnder P (record { level = l; first = index * P; count = P })) xs
    → IsBlocksOf m plan (LiesUnder P (one_block (suc l) index)) (planned_pointer plan m (suc l) index ∷ xs)
blocks_above m plan P l index xs some there b =
    blocks_join m plan (λ h i. (h ≡ suc l) × (i ≡ index)) (LiesUnder P (record { level = l; first = index * P; count = P })) (LiesUnder P (one_block (suc l) index)) (planned_pointer plan m (suc l) index ∷ []) xs
    (blocks_one m plan (λ h i. (h ≡ suc l) × (i ≡ index)) (suc l) index (refl, refl) there (λ h i s. s)) b
    (λ k j u there. elim (cases_lt k (suc l)) [ inl low ↦ inr (under_words P l index k j some (omega arith) u) | inr high ↦ inl (under_own P (suc l) index k j u high) ])
    (λ k j at. subst (λ x. LiesUnder P (one_block (suc l) index) x j) (sym at.0) (subst (λ y. LiesUnder P (one_block (suc l) index) (suc l) y) (sym at.1) (own_under P (suc l) index)))
    (words_under P l index)

-- a leaf
pub blocks_leaf : (m : BlockState) (plan : Plan) (P index : ℕ) → planned_pointer plan m 0 index ≢ absent → IsBlocksOf m plan (LiesUnder P (one_block 0 index)) (planned_pointer plan m 0 index ∷ [])
blocks_leaf m plan P index there = blocks_one m plan (LiesUnder P (one_block 0 index)) 0 index (own_under P 0 index) there (λ h i u. under_own P 0 index h i u (omega arith))

-- ---- noted one after another

-- a position before one in reach is in reach
pub reach_before : (b level i j : ℕ) → i ≤ j → InReach b level j → InReach b level i
reach_before b level i j h r =
    let less : (i + 1) * per_block b ^ level ≤ (j + 1) * per_block b ^ level = mul-le-mul_right (per_block b ^ level) (omega arith) in
    record { most = r.most; leaves = omega (arith, r.leaves) }

-- some work without more
pub released_none : (w : WorkState) → w ≡ with_released w []
released_none w = λ i. record w { released = sym (append-nil w.released) i }

-- and with more than once
pub released_twice : (u v w : WorkState) (xs ys : List ℕ) → v ≡ with_released u xs → w ≡ with_released v ys → w ≡ with_released u (xs ++ ys)
released_twice u v w xs ys a b = b ∙ ap (λ x. with_released x ys) a ∙ (λ i. record u { released = append_assoc u.released xs ys i })

-- over blocks that were kept
blocks_kept : (m n : BlockState) (plan : Plan) (inside : ℕ → ℕ → ℕ → Type 0) (xs : List ℕ) → n ≡ m → IsBlocksOf n plan (inside (per_block n.holdings.size)) xs → IsBlocksOf m plan (inside (per_block m.holdings.size)) xs
blocks_kept m n plan inside xs same b = subst (λ x. IsBlocksOf x plan (inside (per_block x.holdings.size)) xs) same b

-- one part after another
pub gives_then : (m n o : BlockState) (before mid after : WorkState) (plan : Plan) (one other inside : ℕ → ℕ → ℕ → Type 0) (result : Result (Unit {0}) Stop) → Keeps m n → Keeps n o
    → GivesUp m n before mid plan (one (per_block m.holdings.size)) (Ok tt) → GivesUp n o mid after plan (other (per_block n.holdings.size)) result
    → (IsTrue m.tells → (xs ys : List ℕ) → IsBlocksOf m plan (one (per_block m.holdings.size)) xs → IsBlocksOf m plan (other (per_block m.holdings.size)) ys → IsBlocksOf m plan (inside (per_block m.holdings.size)) (xs ++ ys))
    → GivesUp m o before after plan (inside (per_block m.holdings.size)) result
gives_then m n o before mid after plan one other inside result k l a b join = record {
  blocks = a.blocks ++ b.blocks;
  is = released_twice before mid after a.blocks b.blocks a.is b.is;
  done = on_ok_weaker result (λ f told.
      let told_n : IsTrue n.tells = subst (λ x. IsTrue x.tells) (l.told told) told in
      let told_m : IsTrue m.tells = subst (λ x. IsTrue x.tells) (k.told told_n) told_n in
      join told_m a.blocks b.blocks (a.done told_n) (blocks_kept m n plan other b.blocks (k.told told_n) (f told))) b.done;
}

-- ---- as the calls give them up

-- a pointer that leads nowhere has nothing below it
pub gives_none : (m : BlockState) (plan : Plan) (level index p lead : ℕ) (w : WorkState) → IsConsistent m → IsPlan m plan → (level ≤ plan.node.levels) ⊎ (index ≢ 0) → (IsTrue m.tells → p ≡ planned_pointer plan m level index) → (Leads m p → lead ≡ p) → lead ≡ absent
    → GivesUp m m w w plan (LiesUnder (per_block m.holdings.size) (one_block level index)) (Ok tt)
gives_none m plan level index p lead w s met within is same none = record {
  blocks = [];
  is = released_none w;
  done = λ told.
      let p_told : IsToldPlan m plan = record { consistent = s; met = met; told = told } in
      let old : planned_pointer plan m level index ≡ absent = sym (planned_lead m plan level index p lead p_told (is told) same) ∙ none in
      blocks_none m plan (LiesUnder (per_block m.holdings.size) (one_block level index)) (λ k j u. absent_under m plan level index k j p_told within old u);
}

-- a leaf is given up
pub gives_leaf : (m : BlockState) (plan : Plan) (level index p lead : ℕ) (before after : WorkState) → IsConsistent m → IsPlan m plan → (IsTrue m.tells → p ≡ planned_pointer plan m level index) → (Leads m p → lead ≡ p) → lead ≢ absent → level ≡ 0
    → after ≡ record before { released = before.released ++ lead ∷ [] } → GivesUp m m before after plan (LiesUnder (per_block m.holdings.size) (one_block level index)) (Ok tt)
gives_leaf m plan level index p lead before after s met is same there leaf noted = record {
  blocks = lead ∷ [];
  is = noted;
  done = λ told.
      let p_told : IsToldPlan m plan = record { consistent = s; met = met; told = told } in
      let old : lead ≡ planned_pointer plan m 0 index = planned_lead m plan level index p lead p_told (is told) same ∙ ap (λ k. planned_pointer plan m k index) leaf in
      subst (λ q. IsBlocksOf m plan (LiesUnder (per_block m.holdings.size) (one_block level index)) (q ∷ [])) (sym old)
      (subst (λ l. IsBlocksOf m plan (LiesUnder (per_block m.holdings.size) (one_block l index)) (planned_pointer plan m 0 index ∷ [])) (sym leaf)
      (blocks_leaf m plan (per_block m.holdings.size) index (λ e. there (old ∙ e))));
}

-- a block is given up, and what stands below its words
pub gives_block : (m n o : BlockState) (plan : Plan) (level index p lead words : ℕ) (before mid after : WorkState) (result : Result (Unit {0}) Stop) → IsConsistent m → IsPlan m plan → (IsTrue m.tells → p ≡ planned_pointer plan m level index) → (Leads m p → lead ≡ p) → lead ≢ absent
    → level ≢ 0 → words ≡ per_block m.holdings.size → Keeps m n → Keeps n o → mid ≡ record before { released = before.released ++ lead ∷ [] }
    → GivesUp n o mid after plan (LiesUnder (per_block n.holdings.size) (record { level = level - 1; first = index * words; count = words })) result
    → GivesUp m o before after plan (LiesUnder (per_block m.holdings.size) (one_block level index)) result
gives_block m n o plan zero index p lead words before mid after result s met is same there above size k l noted b = absurd (above refl)
gives_block m n o plan (suc level) index p lead words before mid after result s met is same there above size k l noted b = record {
  blocks = lead ∷ b.blocks;
  is = released_twice before mid after (lead ∷ []) b.blocks noted b.is;
  done = on_ok_weaker result (λ f told.
      let told_n : IsTrue n.tells = subst (λ x. IsTrue x.tells) (l.told told) told in
      let same_n : n ≡ m = k.told told_n in
      let told_m : IsTrue m.tells = subst (λ x. IsTrue x.tells) same_n told_n in
      let p_told : IsToldPlan m plan = record { consistent = s; met = met; told = told_m } in
      let P : ℕ = per_block m.holdings.size in
      let old : lead ≡ planned_pointer plan m (suc level) index = planned_lead m plan (suc level) index p lead p_told (is told_m) same in
      let below : IsBlocksOf m plan (LiesUnder P (record { level = level; first = index * P; count = P })) b.blocks =
      subst (λ w. IsBlocksOf m plan (LiesUnder P (record { level = level; first = index * w; count = w })) b.blocks) size
      (subst (λ x. IsBlocksOf x plan (LiesUnder (per_block x.holdings.size) (record { level = level; first = index * words; count = words })) b.blocks) same_n
      (subst (λ y. IsBlocksOf n plan (LiesUnder (per_block n.holdings.size) (record { level = y; first = index * words; count = words })) b.blocks) (sub-one (suc level)) (f told))) in
      subst (λ q. IsBlocksOf m plan (LiesUnder P (one_block (suc level) index)) (q ∷ b.blocks)) (sym old)
      (blocks_above m plan P level index b.blocks (words_positive m.holdings.size s.size) (λ e. there (old ∙ e)) below)) b.done;
}
