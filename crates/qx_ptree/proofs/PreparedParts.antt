-- What the calls of a preparation add to the work, part by part.
use Rattle.std.proofs.Common.{◌≡◌, ◌≢◌, ℕ, zero, suc, ◌+◌, ◌*◌, ◌-◌, ◌^◌, ◌<◌, ◌≤◌, ◌⊎◌, inl, inr, List, ◌++◌, append-nil, length, set, take, refl, sym, ◌∙◌, ap, subst, arith}
use Rattle.std.specs.Prelude.{Bool, true, false, not, ◌||◌, ◌==◌, IsTrue, Ok, slice_index}
use Rattle.std.specs.Int.{div_ceil}
use Rattle.std.proofs.Math.Nat.{pow-zero}
use Rattle.std.proofs.Math.Numerals.{sub-one}
use Rattle.std.proofs.lemmas.Bool.{cases_lt, eq-eqb}
use Rattle.std.proofs.lemmas.List.{get_or-set_other, get_or-set_same, get_or-take, length-take-le}
use Rattle.qx_geom.specs.Lists.{is_in}
use Rattle.qx_geom.specs.Pointer.{absent, per_block}
use Rattle.qx_geom.specs.Touch.{changed_leaves}
use Rattle.qx_geom.proofs.Truths.{not_so, true_or_false}
use Rattle.qx_nodes.proofs.MetLeaves.{present_ascends}
use Rattle.qx_blocks.specs.BlockState.{BlockState, IsConsistent}
use Rattle.qx_blocks.specs.Calls.{Keeps}
use Rattle.qx_ptree.specs.declared.change.Fate.{Fate}
use Rattle.qx_ptree.specs.declared.change.Fate.TheVariants.{Stays, Written, Goes}
use Rattle.qx_ptree.specs.declared.plan.Plan.{Plan}
use Rattle.qx_ptree.specs.declared.part.Part.{Part}
use Rattle.qx_ptree.specs.Alterations.{Alteration, shape_in}
use Rattle.qx_ptree.specs.Building.{BlockWork, Builds, BuildsOnto, GivesUp, LeafWork, LiesUnder, Row, WritesBlock, WritesLeaf, one_block, with_released}
use Rattle.qx_ptree.specs.Fates.{fate_of, leaves_after}
use Rattle.qx_ptree.specs.Parts.{has_below, leaf_part, part_of}
use Rattle.qx_ptree.specs.Plans.{IsPlan, alteration_in, planned_pointer}
use Rattle.qx_ptree.specs.Takings.{Adds, Takes}
use Rattle.qx_ptree.specs.Trees.{block_map}
use Rattle.qx_ptree.specs.WorkState.{WorkState, no_work}
use Rattle.qx_ptree.proofs.AddedWork.{CanEdit-none, adds_none, adds_then, nothing_in}
use Rattle.qx_ptree.proofs.AlikeParts.{AllFare, part-unwritten}
use Rattle.qx_ptree.proofs.BuiltBlocks.{builds_leaf}
use Rattle.qx_ptree.proofs.BuiltRows.{builds_none}
use Rattle.qx_ptree.proofs.BuiltSteps.{block_step, leaf_own, row_step}
use Rattle.qx_ptree.proofs.CarriedPlans.{carried, held_after}
use Rattle.qx_ptree.proofs.KeptPlans.{told_before}
use Rattle.qx_ptree.proofs.LeafParts.{part-leaf}
use Rattle.qx_ptree.proofs.OwnPositions.{below-up}
use Rattle.qx_ptree.proofs.PlannedPointers.{IsToldPlan, planned_above, planned_below}
use Rattle.qx_ptree.proofs.PointerCounts.{size_positive, words_positive}
use Rattle.qx_ptree.proofs.PointersByPosition.{at_above}
use Rattle.qx_ptree.proofs.QuietParts.{builds_gone, builds_quiet}
use Rattle.qx_ptree.proofs.SumsBelow.{any_up_to, any_up_to-more}
use Rattle.qx_ptree.proofs.WholeNeed.{leaves-are}
use Rattle.qx_ptree.proofs.TakenBlocks.{Takes-none, Takes-same}

-- ---- the part below a block, by its pointer and its leaves' fate

-- whether leaves were present below a block, by its pointer
pub planned_had : (m : BlockState) (plan : Plan) (level index : ℕ) → IsToldPlan m plan → (level ≤ plan.node.levels) ⊎ (index ≢ 0)
    → (not (planned_pointer plan m level index == absent) ≡ has_below m.holdings.size (alteration_in plan m).old.present level index) × ((level ≤ plan.node.levels) ⊎ (not (planned_pointer plan m level index == absent) ≡ false))
planned_had m plan level index p within = elim (cases_lt plan.node.levels level) [
  | inl above ↦
      let other : index ≢ 0 = elim within [ inl low ↦ absurd (omega arith) | inr other ↦ other ] in
      let none : not (planned_pointer plan m level index == absent) ≡ false = ap not (eq-eqb (planned_pointer plan m level index) absent (at_above (block_map plan.order m) plan.node level index above)) in
      (none ∙ sym (planned_above m plan level index p above other), inr none)
  | inr low ↦ (sym (planned_below m plan level index p low), inl low)
]

-- the part below a block where no leaf is written
pub planned_fare : (m : BlockState) (plan : Plan) (f : Fate) (level index : ℕ) → IsToldPlan m plan → (f ≡ Written → ⊥) → level ≤ (alteration_in plan m).new.levels → (level ≤ plan.node.levels) ⊎ (index ≢ 0) → AllFare m.holdings.size plan.change f level index
    → part_of (alteration_in plan m) level index ≡ leaf_part f (not (planned_pointer plan m level index == absent)) true
planned_fare m plan f level index p un low within all =
    let had = planned_had m plan level index p within in
    part-unwritten m.holdings.size (shape_in (block_map plan.order m) plan.node) plan.change (alteration_in plan m).private (present_ascends (block_map plan.order m) plan.node (words_positive m.holdings.size p.consistent.size)) (words_positive m.holdings.size p.consistent.size)
    f level index (not (planned_pointer plan m level index == absent)) true un low had.1 had.0 all

-- a leaf by itself has its fate
pub fare_one : (blocksize : ℕ) (plan : Plan) (f : Fate) (index : ℕ) → fate_of (leaves_after blocksize plan.change) plan.change index ≡ f → AllFare blocksize plan.change f 0 index
fare_one blocksize plan f index is = λ i from to.
    let one : per_block blocksize ^ 0 ≡ 1 = pow-zero (per_block blocksize) in
    let low : index * 1 ≤ i = subst (λ x. index * x ≤ i) one from in
    let high : i < (index + 1) * 1 = subst (λ x. i < (index + 1) * x) one to in
    let same : i ≡ index = omega arith in
    ap (fate_of (leaves_after blocksize plan.change) plan.change) same ∙ is

-- the part of a leaf that is written
pub written_part : (m : BlockState) (plan : Plan) (index : ℕ) → IsToldPlan m plan → fate_of (leaves_after m.holdings.size plan.change) plan.change index ≡ Written
    → part_of (alteration_in plan m) 0 index ≡ leaf_part Written (is_in (alteration_in plan m).old.present index) ((alteration_in plan m).private 0 index)
written_part m plan index p fate =
    part-leaf m.holdings.size (shape_in (block_map plan.order m) plan.node) plan.change (alteration_in plan m).private index (present_ascends (block_map plan.order m) plan.node (words_positive m.holdings.size p.consistent.size))
    ∙ ap (λ f. leaf_part f (is_in (alteration_in plan m).old.present index) ((alteration_in plan m).private 0 index)) fate

-- the fate of a leaf, as it is looked up
pub fate_here : (m : BlockState) (plan : Plan) (index leaves size : ℕ) (f g : Fate) → IsConsistent m → g ≡ fate_of leaves plan.change index → g ≡ f → leaves ≡ div_ceil plan.change.size size → size ≡ m.holdings.size → fate_of (leaves_after m.holdings.size plan.change) plan.change index ≡ f
fate_here m plan index leaves size f g s g_is f_is leaves_is size_is =
    sym (ap (λ n. fate_of n plan.change index) (leaves_is ∙ leaves-are plan.change m.holdings.size size (size_positive m.holdings.size s.size) size_is)) ∙ sym g_is ∙ f_is

-- the part below a block where no leaf is written, by the pointer that is known
pub fare_part : (m : BlockState) (plan : Plan) (f : Fate) (level index p : ℕ) → IsConsistent m → IsPlan m plan → (f ≡ Written → ⊥) → level ≤ (alteration_in plan m).new.levels → (level ≤ plan.node.levels) ⊎ (index ≢ 0)
    → (IsTrue m.tells → p ≡ planned_pointer plan m level index) → AllFare m.holdings.size plan.change f level index → IsTrue m.tells → part_of (alteration_in plan m) level index ≡ leaf_part f (not (p == absent)) true
fare_part m plan f level index p s met un low within is all told =
    planned_fare m plan f level index (record { consistent = s; met = met; told = told }) un low within all ∙ ap (λ q. leaf_part f (not (q == absent)) true) (sym (is told))

-- ---- parts that are not gone through

-- the work of blocks that were given up
abbrev pub adds_given : (m n : BlockState) (before after : WorkState) (blocks : List ℕ) → Keeps m n → after ≡ with_released before blocks → Adds m n before after
adds_given m n before after blocks k is = record {
  added = with_released no_work blocks;
  is = is ∙ (λ i. record { fresh = sym (append-nil before.fresh) i; edits = sym (append-nil before.edits) i; kept = sym (append-nil before.kept) i; released = before.released ++ blocks });
  takes = Takes-none m n k;
  kept = λ q t. absurd (nothing_in q t);
  edits = CanEdit-none n (with_released no_work blocks) refl;
}

-- a part that stays
pub quiet_onto : (m : BlockState) (plan : Plan) (level index p : ℕ) (w : WorkState) → IsConsistent m → IsPlan m plan → level ≤ (alteration_in plan m).new.levels → (level ≤ plan.node.levels) ⊎ (index ≢ 0)
    → (IsTrue m.tells → p ≡ planned_pointer plan m level index) → AllFare m.holdings.size plan.change Stays level index → BuildsOnto m m w w plan (one_block level index) (λ _. p)
quiet_onto m plan level index p w s met low within is all = record {
  adds = adds_none m m w w (Takes-same m) refl;
  builds = λ told free.
      let p_told : IsToldPlan m plan = record { consistent = s; met = met; told = told } in
      let part : part_of (alteration_in plan m) level index ≡ leaf_part Stays (not (planned_pointer plan m level index == absent)) true = planned_fare m plan Stays level index p_told (λ e. absurd (cc)) low within all in
      subst (λ q. Builds m m plan no_work (one_block level index) (λ _. q)) (sym (is told))
      (builds_quiet m m plan p_told level index low within (ap (λ (x : Part). x.changed) part) (ap (λ (x : Part). x.need) part));
}

-- a part that goes
pub gone_onto : (m n : BlockState) (plan : Plan) (level index : ℕ) (before after : WorkState) → IsConsistent m → IsPlan m plan → level ≤ (alteration_in plan m).new.levels → (level ≤ plan.node.levels) ⊎ (index ≢ 0)
    → AllFare m.holdings.size plan.change Goes level index → Keeps m n → GivesUp m n before after plan (LiesUnder (per_block m.holdings.size) (one_block level index)) (Ok tt) → BuildsOnto m n before after plan (one_block level index) (λ _. absent)
gone_onto m n plan level index before after s met low within all k g = record {
  adds = adds_given m n before after g.blocks k g.is;
  builds = λ told free.
      let p_told : IsToldPlan m plan = record { consistent = s; met = met; told = told_before m n k told } in
      let part : part_of (alteration_in plan m) level index ≡ leaf_part Goes (not (planned_pointer plan m level index == absent)) true = planned_fare m plan Goes level index p_told (λ e. absurd (cc)) low within all in
      builds_gone m n plan p_told level index low (ap (λ (x : Part). x.present) part) g.blocks (ap (λ (x : Part). x.need) part) (g.done told);
}

-- a leaf that is written
pub leaf_onto : (m n : BlockState) (plan : Plan) (index p q : ℕ) (before after : WorkState) → IsConsistent m → IsPlan m plan → (IsTrue m.tells → p ≡ planned_pointer plan m 0 index)
    → fate_of (leaves_after m.holdings.size plan.change) plan.change index ≡ Written → WritesLeaf m n before after p q → BuildsOnto m n before after plan (one_block 0 index) (λ _. q)
leaf_onto m n plan index p q before after s met is fate w = record {
  adds = w.adds;
  builds = λ told free.
      let told_m : IsTrue m.tells = w.adds.takes.told_before told in
      let p_told : IsToldPlan m plan = record { consistent = s; met = met; told = told_m } in
      let part = written_part m plan index p_told fate in
      builds_leaf m n plan p_told w.adds.added index q
      (leaf_own m n plan index q w.adds.added p_told told (ap (λ (x : Part). x.changed) part) (ap (λ (x : Part). x.present) part) (subst (λ x. LeafWork m n x q w.adds.added) (is told_m) w.work));
}

-- ---- whether something changed, or is present, below the words so far

-- no word yet
pub any_none : (test : ℕ → Bool) → false ≡ any_up_to 0 test
unfolding any_up_to
any_none test = refl

-- one of two truths, as it is tested
pub or_then : (a x r : Bool) → a ≡ true → r ≡ a → r ≡ (a || x)
or_then a x r first is = is ∙ first ∙ sym (ap (λ b. b || x) first)

pub or_else : (a x r : Bool) → a ≡ false → r ≡ x → r ≡ (a || x)
or_else a x r first is = is ∙ sym (ap (λ b. b || x) first)

-- one word more
pub any_more : (test : ℕ → Bool) (w : ℕ) (so_far child both : Bool) → so_far ≡ any_up_to w test → child ≡ test w → both ≡ (so_far || child) → both ≡ any_up_to (w + 1) test
any_more test w so_far child both is child_is both_is = both_is ∙ (λ i. is i || child_is i) ∙ sym (any_up_to-more w test)

-- a leaf changed below a block, where one did below one of its words
pub changed_all : (m : BlockState) (plan : Plan) (level index : ℕ) → IsConsistent m → level ≢ 0 → any_up_to (per_block m.holdings.size) (λ v. (part_of (alteration_in plan m) (level - 1) (index * per_block m.holdings.size + v)).changed) ≡ (part_of (alteration_in plan m) level index).changed
changed_all m plan zero index s above = absurd (above refl)
changed_all m plan (suc l) index s above =
    let a : Alteration = alteration_in plan m in
    ap (λ k. any_up_to (per_block m.holdings.size) (λ v. (part_of a k (index * per_block m.holdings.size + v)).changed)) (sub-one (suc l))
    ∙ sym (below-up m.holdings.size (changed_leaves a.old a.new a.written) l index (words_positive m.holdings.size s.size))

-- and one is present
pub present_all : (m : BlockState) (plan : Plan) (level index : ℕ) → IsConsistent m → level ≢ 0 → any_up_to (per_block m.holdings.size) (λ v. (part_of (alteration_in plan m) (level - 1) (index * per_block m.holdings.size + v)).present) ≡ (part_of (alteration_in plan m) level index).present
present_all m plan zero index s above = absurd (above refl)
present_all m plan (suc l) index s above =
    let a : Alteration = alteration_in plan m in
    ap (λ k. any_up_to (per_block m.holdings.size) (λ v. (part_of a k (index * per_block m.holdings.size + v)).present)) (sub-one (suc l))
    ∙ sym (below-up m.holdings.size a.new.present l index (words_positive m.holdings.size s.size))

-- a part is the same over blocks that were taken since
pub part_later : (f : List ℕ) (m n : BlockState) (plan : Plan) (level index : ℕ) → IsConsistent m → IsConsistent n → IsPlan m plan → Takes f m n → IsTrue n.tells → part_of (alteration_in plan n) level index ≡ part_of (alteration_in plan m) level index
part_later f m n plan level index s s_n met t told =
    ap (λ a. part_of a level index) (carried f m n plan (record { consistent = s; met = met; told = t.told_before told }) t told s_n).alteration

-- ---- rows

-- no word yet
pub row_onto_none : (m n : BlockState) (plan : Plan) (row : Row) (tops : ℕ → ℕ) (w : WorkState) → row.count ≡ 0 → Keeps m n → BuildsOnto m n w w plan row tops
row_onto_none m n plan row tops w none k = record { adds = adds_none m n w w (Takes-none m n k) refl; builds = λ told free. builds_none m n plan row tops none }

-- the number that leads to none was held by no tree before, if it is by none afterwards
pub free_before : (f : List ℕ) (m n : BlockState) → Takes f m n → n.holdings.held absent ≡ false → m.holdings.held absent ≡ false
free_before f m n t free = not_so (m.holdings.held absent) (λ h. true_or_false (n.holdings.held absent) (held_after f m n absent t h) free)

-- one word more
pub row_onto_more : (m n o : BlockState) (before mid after : WorkState) (plan : Plan) (level first count q : ℕ) (tops more : ℕ → ℕ) → IsConsistent m → IsConsistent n → IsPlan m plan
    → ((j : ℕ) → first ≤ j → j < first + count → more j ≡ tops j) → more (first + count) ≡ q
    → BuildsOnto m n before mid plan (record { level = level; first = first; count = count }) tops → BuildsOnto n o mid after plan (one_block level (first + count)) (λ _. q)
    → BuildsOnto m o before after plan (record { level = level; first = first; count = count + 1 }) more
row_onto_more m n o before mid after plan level first count q tops more s s_n met alike last a b = record {
  adds = adds_then m n o before mid after a.adds b.adds;
  builds = λ told free.
      let told_n : IsTrue n.tells = b.adds.takes.told_before told in
      row_step m n o plan a.adds.added b.adds.added level first count q tops more (record { consistent = s; met = met; told = a.adds.takes.told_before told_n }) s_n told alike last a.adds.takes b.adds.takes
      (a.builds told_n (free_before b.adds.added.fresh n o b.adds.takes free)) (b.builds told free);
}

-- the block above a row
pub block_onto : (m n o : BlockState) (before mid after : WorkState) (plan : Plan) (level index p q : ℕ) (tops : ℕ → ℕ) (pointers : List ℕ) (changed present : Bool) → IsConsistent m → IsPlan m plan → level ≢ 0 → level ≤ (alteration_in plan m).new.levels
    → (IsTrue m.tells → p ≡ planned_pointer plan m level index)
    → length pointers ≡ per_block m.holdings.size → ((v : ℕ) → v < length pointers → slice_index pointers v < 2 ^ 32) → ((v : ℕ) → v < per_block m.holdings.size → slice_index pointers v ≡ tops (index * per_block m.holdings.size + v))
    → (IsTrue n.tells → (part_of (alteration_in plan m) level index).changed ≡ changed) → (IsTrue n.tells → (part_of (alteration_in plan m) level index).present ≡ present)
    → BuildsOnto m n before mid plan (record { level = level - 1; first = index * per_block m.holdings.size; count = per_block m.holdings.size }) tops → WritesBlock plan.order n o mid after p pointers changed present q
    → BuildsOnto m o before after plan (one_block level index) (λ _. q)
block_onto m n o before mid after plan zero index p q tops pointers changed present s met above within is long_p fits tops_are changed_is present_is a b = absurd (above refl)
block_onto m n o before mid after plan (suc l) index p q tops pointers changed present s met above within is long_p fits tops_are changed_is present_is a b = record {
  adds = adds_then m n o before mid after a.adds b.adds;
  builds = λ told free.
      let told_n : IsTrue n.tells = b.adds.takes.told_before told in
      let told_m : IsTrue m.tells = a.adds.takes.told_before told_n in
      let P : ℕ = per_block m.holdings.size in
      block_step m n o plan a.adds.added b.adds.added l index q tops pointers changed present (record { consistent = s; met = met; told = told_m }) free told within long_p fits tops_are
      (changed_is told_n) (present_is told_n) a.adds.takes b.adds.takes
      (subst (λ k. Builds m n plan a.adds.added (record { level = k; first = index * P; count = P }) tops) (sub-one (suc l)) (a.builds told_n (free_before b.adds.added.fresh n o b.adds.takes free)))
      (subst (λ x. BlockWork plan.order n o x pointers changed present q b.adds.added) (is told_m) b.work);
}

-- ---- as the loop goes over the words

-- the new pointers so far, with one more
pub tops_before : (new : List ℕ) (w q first j : ℕ) → first ≤ j → j < first + w → slice_index (set new w q) (j - first) ≡ slice_index new (j - first)
tops_before new w q first j from to = get_or-set_other new w (j - first) q 0 (λ e. omega arith)

-- and that one
pub tops_last : (new : List ℕ) (w q first : ℕ) → w < length new → slice_index (set new w q) (first + w - first) ≡ q
tops_last new w q first low =
    let at : first + w - first ≡ w = omega arith in
    ap (slice_index (set new w q)) at ∙ get_or-set_same new w q 0 low

-- the first of them, as they are lent
pub tops_lent : (new : List ℕ) (words first v : ℕ) → v < words → slice_index (take (words - 0) new) v ≡ slice_index new (first + v - first)
tops_lent new words first v low =
    let at : v ≡ first + v - first = omega arith in
    get_or-take (words - 0) new v 0 (omega arith) ∙ ap (slice_index new) at

-- which are so many
pub lent_length : (new : List ℕ) (words : ℕ) → words ≤ length new → length (take (words - 0) new) ≡ words
lent_length new words low = let same : words - 0 ≡ words = omega arith in ap (λ n. length (take n new)) same ∙ length-take-le words new low
