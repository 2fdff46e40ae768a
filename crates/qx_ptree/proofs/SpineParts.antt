-- The blocks of a node that don't stand below the first 16 blocks of a level.
use Rattle.std.proofs.Common.{◌≡◌, ◌≢◌, ℕ, zero, suc, ◌+◌, ◌*◌, ◌-◌, ◌^◌, ◌/◌, ◌<◌, ◌≤◌, inl, inr, List, [], ◌∷◌, ◌++◌, refl, sym, ◌∙◌, ap, subst, arith, pow-add}
use Rattle.std.specs.Prelude.{IsTrue, Result, Ok}
use Rattle.std.proofs.Math.Nat.{div-div-eq-div-mul, div-eq_of_lt, div-le_self, one-mul, pow-le-pow_right, pow-suc, pow-zero}
use Rattle.std.proofs.lemmas.Bool.{cases_eq, cases_lt}
use Rattle.qx_geom.specs.Pointer.{absent, per_block}
use Rattle.qx_nodes.specs.BlockMap.{BlockMap}
use Rattle.qx_nodes.proofs.LeafPaths.{by_one}
use Rattle.qx_blocks.specs.BlockState.{BlockState, IsConsistent}
use Rattle.qx_blocks.specs.declared.blocks.Stop.{Stop}
use Rattle.qx_blocks.specs.Calls.{Keeps}
use Rattle.qx_ptree.specs.declared.plan.Plan.{Plan}
use Rattle.qx_ptree.specs.Building.{GivesUp, IsBlocksOf, LiesOnSpine, LiesOutside, LiesUnder}
use Rattle.qx_ptree.specs.Plans.{IsPlan, planned_pointer}
use Rattle.qx_ptree.specs.Trees.{Leads, block_map}
use Rattle.qx_ptree.specs.WorkState.{WorkState}
use Rattle.qx_ptree.proofs.BuiltBlocks.{div_first}
use Rattle.qx_ptree.proofs.GivenUpParts.{absent_under, blocks_join, blocks_none, blocks_one, gives_then, released_none}
use Rattle.qx_ptree.proofs.KeptPlans.{told_before, kept_again}
use Rattle.qx_ptree.proofs.PlannedPointers.{IsToldPlan, planned_lead}
use Rattle.qx_ptree.proofs.PointerCounts.{words_bounds, words_positive}
use Rattle.qx_ptree.proofs.PointersByPosition.{at_above, pointer_past, pointer_up}
use Rattle.qx_ptree.proofs.UnderRows.{own_under, under_own, under_words, words_under}

-- ---- indices

-- the index some levels higher, by way of a level between
index_between : (P k level top j : ℕ) → k ≤ level → level ≤ top → j / P ^ (level - k) / P ^ (top - level) ≡ j / P ^ (top - k)
index_between P k level top j low high =
    div-div-eq-div-mul j (P ^ (level - k)) (P ^ (top - level)) ∙ ap (λ (q : ℕ). j / q) (sym (pow-add P (level - k) (top - level)))
    ∙ ap (λ d. j / P ^ d) (let e : level - k + (top - level) ≡ top - k = omega arith in e)

-- the first 16 blocks of a level stand below the first block of a higher one
first_of_few : (P d x : ℕ) → 16 ≤ P → 0 < d → x < 16 → x / P ^ d ≡ 0
first_of_few P d x words up low =
    let more : P ^ 1 ≤ P ^ d = pow-le-pow_right {n = P} (omega arith) {i = 1} {j = d} up in
    let one : P ^ 1 ≡ P = pow-suc P 0 ∙ ap (λ x. x * P) (pow-zero P) ∙ one-mul P in
    div-eq_of_lt (omega arith)

-- so what stands below another block of the higher level lies outside
pub others_outside : (P level top k j : ℕ) → 16 ≤ P → level < top → 1 ≤ j / P ^ (top - k) → LiesOutside P level k j
others_outside P level top k j words up other = record {
  outside = λ u.
      let x : ℕ = j / P ^ (level - k) in
      let few : x < 16 = omega (arith, u.to) in
      let none : j / P ^ (top - k) ≡ 0 = sym (index_between P k level top j u.level (omega arith)) ∙ first_of_few P (top - level) x words (omega arith) few in
      omega arith;
}

-- and so does what stands above the level
pub above_outside : (P level k j : ℕ) → level < k → LiesOutside P level k j
above_outside P level k j up = record { outside = λ u. omega (arith, u.level) }

-- ---- where a node's pointers stand

-- above a pointer that is there stands one at each of the node's levels
pub above_there : (m : BlockState) (plan : Plan) (d k j : ℕ) → IsToldPlan m plan → k + d ≤ plan.node.levels → planned_pointer plan m k j ≢ absent → planned_pointer plan m (k + d) (j / per_block m.holdings.size ^ d) ≢ absent
above_there m plan zero k j p low there =
    let level : k ≡ k + 0 = omega arith in
    subst (λ x. planned_pointer plan m x (j / per_block m.holdings.size ^ 0) ≢ absent) level (subst (λ x. planned_pointer plan m k x ≢ absent) (sym (by_one j (per_block m.holdings.size))) there)
above_there m plan (suc d) k j p low there =
    let P : ℕ = per_block m.holdings.size in
    let up : planned_pointer plan m (suc k) (j / P) ≢ absent = pointer_up (block_map plan.order m) plan.node k j (words_positive m.holdings.size p.consistent.size) (omega arith) there in
    let level : suc k + d ≡ k + suc d = omega arith in
    let index : j / P / P ^ d ≡ j / P ^ suc d = div_first P d j in
    subst (λ x. planned_pointer plan m x (j / P ^ suc d) ≢ absent) level (subst (λ x. planned_pointer plan m (suc k + d) x ≢ absent) index (above_there m plan d (suc k) (j / P) p (omega arith) up))

-- so each stands below one of the node's own
pub below_own : (m : BlockState) (plan : Plan) (k j : ℕ) → IsToldPlan m plan → planned_pointer plan m k j ≢ absent → (k ≤ plan.node.levels) × (j / per_block m.holdings.size ^ (plan.node.levels - k) < 16)
below_own m plan k j p there =
    let t : BlockMap = block_map plan.order m in
    let P : ℕ = per_block m.holdings.size in
    let top : ℕ = plan.node.levels in
    let low : k ≤ top = elim (cases_lt top k) [ inl above ↦ absurd (there (at_above t plan.node k j above)) | inr h ↦ h ] in
    let x : ℕ = j / P ^ (top - k) in
    let up : planned_pointer plan m (k + (top - k)) x ≢ absent = above_there m plan (top - k) k j p (omega arith) there in
    let level : k + (top - k) ≡ top = omega arith in
    (low, elim (cases_lt x 16) [ inl few ↦ few | inr many ↦ absurd (up (ap (λ l. planned_pointer plan m l x) level ∙ pointer_past t plan.node x plan.sixteen many)) ])

-- no pointer lies outside a level that isn't below the node's
pub none_outside : (m : BlockState) (plan : Plan) (level k j : ℕ) → IsToldPlan m plan → plan.node.levels ≤ level → LiesOutside (per_block m.holdings.size) level k j → planned_pointer plan m k j ≡ absent
none_outside m plan level k j p high out = elim (cases_eq (planned_pointer plan m k j) absent) [
  | inl none ↦ none
  | inr there ↦
      let P : ℕ = per_block m.holdings.size in
      let own : (k ≤ plan.node.levels) × (j / P ^ (plan.node.levels - k) < 16) = below_own m plan k j p there in
      let less : j / P ^ (level - k) ≤ j / P ^ (plan.node.levels - k) = subst (λ x. x ≤ j / P ^ (plan.node.levels - k)) (index_between P k plan.node.levels level j own.0 high) (div-le_self (j / P ^ (plan.node.levels - k)) (P ^ (level - plan.node.levels))) in
      absurd (out.outside (record { level = omega (arith, own.0); from = omega arith; to = omega (arith, own.1) }))
]

-- ---- the spine

-- a block of the spine is one of its first blocks
own_spine : (P level above k j : ℕ) → level < above → (k ≡ above) × (j ≡ 0) → LiesOnSpine P level above k j
own_spine P level above k j up at =
    subst (λ x. LiesOnSpine P level above x j) (sym at.0) (subst (λ y. LiesOnSpine P level above above y) (sym at.1) (record { under = own_under P above 0; outside = above_outside P level above 0 up }))

-- the first block above a level, and what stands below all but its first 16 words
pub spine_last : (m : BlockState) (plan : Plan) (P level : ℕ) (xs ys : List ℕ) → 16 ≤ P → IsBlocksOf m plan (λ k j. (k ≡ suc level) × (j ≡ 0)) xs → IsBlocksOf m plan (LiesUnder P (record { level = level; first = 16; count = P - 16 })) ys
    → IsBlocksOf m plan (LiesOnSpine P level (suc level)) (xs ++ ys)
spine_last m plan P level xs ys words a b =
    blocks_join m plan (λ k j. (k ≡ suc level) × (j ≡ 0)) (LiesUnder P (record { level = level; first = 16; count = P - 16 })) (LiesOnSpine P level (suc level)) xs ys a b
    (λ k j s there. elim (cases_lt k (suc level)) [
      | inl low ↦
          let u : LiesUnder P (record { level = level; first = 0 * P; count = P }) k j = under_words P level 0 k j (omega arith) (omega arith) s.under in
          inr (record {
            level = u.level;
            from = elim (cases_lt (j / P ^ (level - k)) 16) [ inl few ↦ absurd (s.outside.outside (record { level = u.level; from = omega arith; to = omega arith })) | inr many ↦ many ];
            to = omega (arith, u.to);
          })
      | inr high ↦ inl (under_own P (suc level) 0 k j s.under high)
    ])
    (λ k j at. own_spine P level (suc level) k j (omega arith) at)
    (λ k j u. record {
      under = words_under P level 0 k j (record { level = u.level; from = omega (arith, u.from); to = omega (arith, u.to) });
      outside = record { outside = λ v. omega (arith, u.from, v.to) };
    })

-- what stands below the first block of a level, and below none of the first 16 of a lower one
abbrev pub LiesBetween : ℕ → ℕ → ℕ → ℕ → ℕ → Type 0
LiesBetween level top P k j = LiesUnder P (record { level = top; first = 0; count = P }) k j × LiesOutside P level k j

-- below all words of a block but the first, and on the spine below that
pub spine_rest : (m : BlockState) (plan : Plan) (P level top : ℕ) (ys zs : List ℕ) → 16 ≤ P → level < top → IsBlocksOf m plan (LiesUnder P (record { level = top; first = 1; count = P - 1 })) ys → IsBlocksOf m plan (LiesOnSpine P level top) zs
    → IsBlocksOf m plan (LiesBetween level top P) (ys ++ zs)
spine_rest m plan P level top ys zs words up b c =
    blocks_join m plan (LiesUnder P (record { level = top; first = 1; count = P - 1 })) (LiesOnSpine P level top) (LiesBetween level top P) ys zs b c
    (λ k j s there. elim (cases_lt (j / P ^ (top - k)) 1) [
      | inl first ↦ inr (record { under = record { level = s.0.level; from = omega arith; to = omega arith }; outside = s.1 })
      | inr other ↦ inl (record { level = s.0.level; from = other; to = omega (arith, s.0.to) })
    ])
    (λ k j u. (record { level = u.level; from = omega arith; to = omega (arith, u.to) }, others_outside P level top k j words up u.from))
    (λ k j s. (record { level = s.under.level; from = omega arith; to = omega (arith, s.under.to) }, s.outside))

-- the first block of a level, and what stands between
pub spine_more : (m : BlockState) (plan : Plan) (P level top : ℕ) (xs ws : List ℕ) → 16 ≤ P → level < top → IsBlocksOf m plan (λ k j. (k ≡ suc top) × (j ≡ 0)) xs → IsBlocksOf m plan (LiesBetween level top P) ws → IsBlocksOf m plan (LiesOnSpine P level (suc top)) (xs ++ ws)
spine_more m plan P level top xs ws words up a below =
    blocks_join m plan (λ k j. (k ≡ suc top) × (j ≡ 0)) (LiesBetween level top P) (LiesOnSpine P level (suc top)) xs ws a below
    (λ k j s there. elim (cases_lt k (suc top)) [
      | inl low ↦
          let u : LiesUnder P (record { level = top; first = 0 * P; count = P }) k j = under_words P top 0 k j (omega arith) (omega arith) s.under in
          inr (record { level = u.level; from = omega arith; to = omega (arith, u.to) }, s.outside)
      | inr high ↦ inl (under_own P (suc top) 0 k j s.under high)
    ])
    (λ k j at. own_spine P level (suc top) k j (omega arith) at)
    (λ k j s. record { under = words_under P top 0 k j (record { level = s.0.level; from = omega (arith, s.0.from); to = omega (arith, s.0.to) }); outside = s.1 })

-- no block stands on a spine without a first one
pub spine_none : (m : BlockState) (plan : Plan) (level above k j : ℕ) → IsToldPlan m plan → above ≤ plan.node.levels → planned_pointer plan m above 0 ≡ absent → LiesOnSpine (per_block m.holdings.size) level above k j → planned_pointer plan m k j ≡ absent
spine_none m plan level above k j p low none s = absent_under m plan above 0 k j p (inl low) none s.under

-- the own pointers of a node but for the first, and the spine below that
pub outside_all : (m : BlockState) (plan : Plan) (level : ℕ) (xs ys : List ℕ) → IsToldPlan m plan → level < plan.node.levels → IsBlocksOf m plan (LiesUnder (per_block m.holdings.size) (record { level = plan.node.levels; first = 1; count = 15 })) xs
    → IsBlocksOf m plan (LiesOnSpine (per_block m.holdings.size) level plan.node.levels) ys → IsBlocksOf m plan (LiesOutside (per_block m.holdings.size) level) (xs ++ ys)
outside_all m plan level xs ys p up a b =
    let P : ℕ = per_block m.holdings.size in
    let top : ℕ = plan.node.levels in
    let words : 128 ≤ P = (words_bounds m.holdings.size p.consistent.size).0 in
    blocks_join m plan (LiesUnder P (record { level = top; first = 1; count = 15 })) (LiesOnSpine P level top) (LiesOutside P level) xs ys a b
    (λ k j s there.
    let own : (k ≤ top) × (j / P ^ (top - k) < 16) = below_own m plan k j p there in
    elim (cases_lt (j / P ^ (top - k)) 1) [
      | inl first ↦ inr (record { under = record { level = own.0; from = omega arith; to = omega arith }; outside = s })
      | inr other ↦ inl (record { level = own.0; from = other; to = omega (arith, own.1) })
    ])
    (λ k j u. others_outside P level top k j (omega arith) up u.from)
    (λ k j s. s.outside)

-- ---- as the calls give them up

-- the block of a position by itself, over blocks that were kept
pub gives_own : (m n : BlockState) (plan : Plan) (level index p lead : ℕ) (before after : WorkState) → IsConsistent m → IsPlan m plan → (IsTrue m.tells → p ≡ planned_pointer plan m level index) → (Leads m p → lead ≡ p) → lead ≢ absent → Keeps m n
    → after ≡ record before { released = before.released ++ lead ∷ [] } → GivesUp m n before after plan (λ k j. (k ≡ level) × (j ≡ index)) (Ok tt)
gives_own m n plan level index p lead before after s met is same there keeps noted = record {
  blocks = lead ∷ [];
  is = noted;
  done = λ told.
      let told_m : IsTrue m.tells = told_before m n keeps told in
      let old : lead ≡ planned_pointer plan m level index = planned_lead m plan level index p lead (record { consistent = s; met = met; told = told_m }) (is told_m) same in
      subst (λ q. IsBlocksOf m plan (λ k j. (k ≡ level) × (j ≡ index)) (q ∷ [])) (sym old)
      (blocks_one m plan (λ k j. (k ≡ level) × (j ≡ index)) level index (refl, refl) (λ e. there (old ∙ e)) (λ h i at. at));
}

-- a spine without a first block
pub spine_gives_none : (m : BlockState) (plan : Plan) (level above p lead : ℕ) (w : WorkState) → IsConsistent m → IsPlan m plan → above ≤ plan.node.levels → (IsTrue m.tells → p ≡ planned_pointer plan m above 0) → (Leads m p → lead ≡ p) → lead ≡ absent
    → GivesUp m m w w plan (LiesOnSpine (per_block m.holdings.size) level above) (Ok tt)
spine_gives_none m plan level above p lead w s met low is same none = record {
  blocks = [];
  is = released_none w;
  done = λ told.
      let p_told : IsToldPlan m plan = record { consistent = s; met = met; told = told } in
      let old : planned_pointer plan m above 0 ≡ absent = sym (planned_lead m plan above 0 p lead p_told (is told) same) ∙ none in
      blocks_none m plan (LiesOnSpine (per_block m.holdings.size) level above) (λ k j h. spine_none m plan level above k j p_told low old h);
}

-- the last block of a spine
pub spine_gives_last : (m n o : BlockState) (plan : Plan) (level above p lead words : ℕ) (before mid after : WorkState) (result : Result (Unit {0}) Stop) → IsConsistent m → IsPlan m plan → (IsTrue m.tells → p ≡ planned_pointer plan m above 0) → (Leads m p → lead ≡ p)
    → lead ≢ absent → level < above → above - 1 ≡ level → words ≡ per_block m.holdings.size → Keeps m n → Keeps n o → mid ≡ record before { released = before.released ++ lead ∷ [] }
    → GivesUp n o mid after plan (LiesUnder (per_block n.holdings.size) (record { level = level; first = 16; count = words - 16 })) result
    → GivesUp m o before after plan (LiesOnSpine (per_block m.holdings.size) level above) result
spine_gives_last m n o plan level above p lead words before mid after result s met is same there up next size k l noted b =
    let P : ℕ = per_block m.holdings.size in
    let bounds : 128 ≤ P = (words_bounds m.holdings.size s.size).0 in
    let above_is : suc level ≡ above = omega arith in
    gives_then m n o before mid after plan (λ P k j. (k ≡ above) × (j ≡ 0)) (λ P. LiesUnder P (record { level = level; first = 16; count = words - 16 })) (λ P. LiesOnSpine P level above) result k l
    (gives_own m n plan above 0 p lead before mid s met is same there k noted) b
    (λ told xs ys a c.
    subst (λ x. IsBlocksOf m plan (LiesOnSpine P level x) (xs ++ ys)) above_is
    (spine_last m plan P level xs ys (omega arith) (subst (λ x. IsBlocksOf m plan (λ k j. (k ≡ x) × (j ≡ 0)) xs) (sym above_is) a)
    (subst (λ x. IsBlocksOf m plan (LiesUnder P (record { level = level; first = 16; count = x - 16 })) ys) size c)))

-- one that isn't the last
pub spine_gives_more : (m n o q : BlockState) (plan : Plan) (level above p lead words : ℕ) (before mid next after : WorkState) (result : Result (Unit {0}) Stop) → IsConsistent m → IsPlan m plan → (IsTrue m.tells → p ≡ planned_pointer plan m above 0) → (Leads m p → lead ≡ p)
    → lead ≢ absent → level < above → above - 1 ≢ level → words ≡ per_block m.holdings.size → Keeps m n → Keeps n o → Keeps o q → mid ≡ record before { released = before.released ++ lead ∷ [] }
    → GivesUp n o mid next plan (LiesUnder (per_block n.holdings.size) (record { level = above - 1; first = 1; count = words - 1 })) (Ok tt)
    → GivesUp o q next after plan (LiesOnSpine (per_block o.holdings.size) level (above - 1)) result
    → GivesUp m q before after plan (LiesOnSpine (per_block m.holdings.size) level above) result
spine_gives_more m n o q plan level above p lead words before mid next after result s met is same there up other size k l r noted b c =
    let P : ℕ = per_block m.holdings.size in
    let bounds : 128 ≤ P = (words_bounds m.holdings.size s.size).0 in
    let above_is : suc (above - 1) ≡ above = omega arith in
    let size_n : words ≡ per_block n.holdings.size = size ∙ ap (λ h. per_block h.size) (sym k.holdings) in
    gives_then m n q before mid after plan (λ P k j. (k ≡ above) × (j ≡ 0)) (LiesBetween level (above - 1)) (λ P. LiesOnSpine P level above) result k (kept_again n o q l r)
    (gives_own m n plan above 0 p lead before mid s met is same there k noted)
    (gives_then n o q mid next after plan (λ P. LiesUnder P (record { level = above - 1; first = 1; count = words - 1 })) (λ P. LiesOnSpine P level (above - 1)) (LiesBetween level (above - 1)) result l r b c
    (λ told ys zs x y.
    spine_rest n plan (per_block n.holdings.size) level (above - 1) ys zs (omega (arith, bounds, size, size_n)) (omega arith)
    (subst (λ w. IsBlocksOf n plan (LiesUnder (per_block n.holdings.size) (record { level = above - 1; first = 1; count = w - 1 })) ys) size_n x) y))
    (λ told xs ws x y.
    subst (λ z. IsBlocksOf m plan (LiesOnSpine P level z) (xs ++ ws)) above_is
    (spine_more m plan P level (above - 1) xs ws (omega arith) (omega arith) (subst (λ z. IsBlocksOf m plan (λ k j. (k ≡ z) × (j ≡ 0)) xs) (sym above_is) x) y))

-- nothing lies outside a level that isn't below the node's
pub outside_gives_none : (m : BlockState) (plan : Plan) (level : ℕ) (w : WorkState) → IsConsistent m → IsPlan m plan → plan.node.levels ≤ level → GivesUp m m w w plan (LiesOutside (per_block m.holdings.size) level) (Ok tt)
outside_gives_none m plan level w s met high = record {
  blocks = [];
  is = released_none w;
  done = λ told. blocks_none m plan (LiesOutside (per_block m.holdings.size) level) (λ k j out. none_outside m plan level k j (record { consistent = s; met = met; told = told }) high out);
}

-- and what lies outside a lower one
pub outside_gives : (m n o : BlockState) (plan : Plan) (level : ℕ) (before mid after : WorkState) (result : Result (Unit {0}) Stop) → IsConsistent m → IsPlan m plan → level < plan.node.levels → Keeps m n → Keeps n o
    → GivesUp m n before mid plan (LiesUnder (per_block m.holdings.size) (record { level = plan.node.levels; first = 1; count = 15 })) (Ok tt) → GivesUp n o mid after plan (LiesOnSpine (per_block n.holdings.size) level plan.node.levels) result
    → GivesUp m o before after plan (LiesOutside (per_block m.holdings.size) level) result
outside_gives m n o plan level before mid after result s met up k l a b =
    gives_then m n o before mid after plan (λ P. LiesUnder P (record { level = plan.node.levels; first = 1; count = 15 })) (λ P. LiesOnSpine P level plan.node.levels) (λ P. LiesOutside P level) result k l a b
    (λ told xs ys x y. outside_all m plan level xs ys (record { consistent = s; met = met; told = told }) up x y)
