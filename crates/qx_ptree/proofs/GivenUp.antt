-- Blocks that were taken and are given back.
use Rattle.std.proofs.Common.{◌≡◌, ℕ, inl, inr, [], ◌∷◌, ◌++◌, List, length-append, sym, ◌∙◌, ap, subst, arith}
use Rattle.std.specs.Prelude.{true, false, ◌||◌, if◌then◌else◌}
use Rattle.std.proofs.Math.Bool.{or_comm}
use Rattle.std.proofs.lemmas.Bool.{or_cases, or_right, or_left}
use Rattle.std.proofs.lemmas.List.Sorted.{IsPermutation-append_comm}
use Rattle.qx_geom.specs.Lists.{is_in}
use Rattle.qx_geom.proofs.Truths.{true_or_false}
use Rattle.qx_geom.proofs.Members.{in_head, in_tail, is_in-append}
use Rattle.qx_blocks.specs.BlockState.{BlockState, with_free, with_shared, without}
use Rattle.qx_ptree.specs.Takings.{Takes}
use Rattle.qx_ptree.specs.WorkState.{given_up, without_all}
use Rattle.qx_ptree.proofs.DistinctBlocks.{distinct_permuted}
use Rattle.qx_ptree.proofs.ListedBlocks.{first_once, one_less, put-other}

-- a block that the working tree alone holds gets free
pub given_up-private : (m : BlockState) (b : ℕ) → m.holdings.works b ≡ true → m.holdings.private b ≡ true → given_up m b ≡ with_free m b
given_up-private m b works private = ap (λ t. if t then without m b else m) works ∙ ap (λ t. if t then with_free m b else with_shared m b) private

-- the first of the blocks that were taken is given back
Takes-freed : (b : ℕ) (fresh : List ℕ) (m n : BlockState) → Takes (b ∷ fresh) m n → Takes fresh m (with_free n b)
Takes-freed b fresh m n f = record {
  size = f.size;
  count = f.count;
  held = λ q. one_less m.holdings.held n.holdings.held b fresh q (f.unheld b (in_head b fresh)) once (f.held q);
  works = λ q. one_less m.holdings.works n.holdings.works b fresh q unused.0 once (f.works q);
  private = λ q. one_less m.holdings.private n.holdings.private b fresh q unused.1 once (f.private q);
  ready = λ q t. put-other n.holdings.ready b q false (λ e. differ q e t) ∙ f.ready q (grown q t);
  unheld = λ q t. f.unheld q (in_tail b q fresh t);
  unused = λ q t. f.unused q (in_tail b q fresh t);
  distinct = f.distinct.1;
  free = omega (arith, f.free);
  ready_bytes = λ q r. put-other n.bytes b q [] (λ e. true_or_false (m.holdings.ready b) (ap m.holdings.ready (sym e) ∙ r) unused.2) ∙ f.ready_bytes q r;
  told_before = f.told_before;
  told_bytes = λ t q held. put-other n.bytes b q [] (λ e. true_or_false (m.holdings.held b) (ap m.holdings.held (sym e) ∙ held) (f.unheld b (in_head b fresh))) ∙ f.told_bytes t q held;
  told_history = f.told_history;
} where
  once : is_in fresh b ≡ false
  once = first_once b fresh f.distinct

  unused : (m.holdings.works b ≡ false) × (m.holdings.private b ≡ false) × (m.holdings.ready b ≡ false)
  unused = f.unused b (in_head b fresh)

  differ : (q : ℕ) → q ≡ b → (m.holdings.ready q || is_in fresh q) ≡ true → ⊥
  differ q e t = elim (or_cases (m.holdings.ready q) (is_in fresh q) t) [
    | inl r ↦ true_or_false (m.holdings.ready b) (ap m.holdings.ready (sym e) ∙ r) unused.2
    | inr in' ↦ true_or_false (is_in fresh b) (ap (is_in fresh) (sym e) ∙ in') once
  ]

  grown : (q : ℕ) → (m.holdings.ready q || is_in fresh q) ≡ true → (m.holdings.ready q || is_in (b ∷ fresh) q) ≡ true
  grown q t = elim (or_cases (m.holdings.ready q) (is_in fresh q) t) [
    | inl r ↦ or_left (m.holdings.ready q) (is_in (b ∷ fresh) q) r
    | inr in' ↦ or_right (m.holdings.ready q) (is_in (b ∷ fresh) q) (in_tail b q fresh in')
  ]

-- those in front are given back
front_back : (fs gs : List ℕ) (m n : BlockState) → Takes (fs ++ gs) m n → Takes gs m (without_all n fs)
front_back [] gs m n f = f
front_back (b ∷ fs) gs m n f =
    let works : n.holdings.works b ≡ true = f.works b ∙ or_right (m.holdings.works b) (is_in (b ∷ (fs ++ gs)) b) (in_head b (fs ++ gs)) in
    let private : n.holdings.private b ≡ true = f.private b ∙ or_right (m.holdings.private b) (is_in (b ∷ (fs ++ gs)) b) (in_head b (fs ++ gs)) in
    front_back fs gs m (given_up n b) (subst (Takes (fs ++ gs) m) (sym (given_up-private n b works private)) (Takes-freed b (fs ++ gs) m n f))

-- the order of what was taken doesn't matter
takes_swap : (fs gs : List ℕ) (m n : BlockState) → Takes (fs ++ gs) m n → Takes (gs ++ fs) m n
takes_swap fs gs m n t =
    let same : (b : ℕ) → is_in (fs ++ gs) b ≡ is_in (gs ++ fs) b = λ b. is_in-append fs gs b ∙ or_comm (is_in fs b) (is_in gs b) ∙ sym (is_in-append gs fs b) in
    record {
      size = t.size;
      count = t.count;
      held = λ b. t.held b ∙ ap (λ x. m.holdings.held b || x) (same b);
      works = λ b. t.works b ∙ ap (λ x. m.holdings.works b || x) (same b);
      private = λ b. t.private b ∙ ap (λ x. m.holdings.private b || x) (same b);
      ready = λ b h. t.ready b (ap (λ x. m.holdings.ready b || x) (same b) ∙ h);
      unheld = λ b h. t.unheld b (same b ∙ h);
      unused = λ b h. t.unused b (same b ∙ h);
      distinct = distinct_permuted (fs ++ gs) (gs ++ fs) (IsPermutation-append_comm fs gs) t.distinct;
      free = omega (arith, t.free, length-append fs gs, length-append gs fs);
      ready_bytes = t.ready_bytes;
      told_before = t.told_before;
      told_bytes = t.told_bytes;
      told_history = t.told_history;
    }

-- those that were taken last are given back
pub last_back : (gs fs : List ℕ) (m n : BlockState) → Takes (gs ++ fs) m n → Takes gs m (without_all n fs)
last_back gs fs m n t = front_back fs gs m n (takes_swap gs fs m n t)
