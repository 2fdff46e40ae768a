-- Who holds each block once a change is committed.
use Rattle.std.proofs.Common.{◌≡◌, ℕ, ◌+◌, List, [], ◌∷◌, inl, inr, refl, sym, ◌∙◌, ap, subst, arith}
use Rattle.std.specs.Prelude.{Bool, true, false, not, ◌&&◌, ◌||◌, nat_eq, count_by, Contains, if◌then◌else◌}
use Rattle.std.proofs.lemmas.Bool.{cases_eq, eq-eqb, ne_eqb}
use Rattle.std.specs.List.{sum_by}
use Rattle.std.proofs.lemmas.List.Sums.{sum_by-cons}
use Rattle.qx_geom.specs.Lists.{Distinct, is_in}
use Rattle.qx_geom.proofs.Members.{Contains-cons, Contains-head}
use Rattle.qx_geom.proofs.Truths.{and_left, and_right, not_so, not_true, true_or_false}
use Rattle.qx_blocks.specs.BlockState.{BlockState, IsConsistent, with_free, with_shared}
use Rattle.qx_ptree.specs.WorkState.{CanCommit, Preparation, committed, given_up, with_edits, without_all}
use Rattle.qx_ptree.proofs.CommitSteps.{committed-gone, committed-works, edits-others}
use Rattle.qx_ptree.proofs.EditedBlocks.{edits_holdings}
use Rattle.qx_ptree.proofs.ListedBlocks.{put-at, put-other}

-- ---- truths

-- what holds and isn't given up
kept-all : (b : Bool) → b ≡ (b && true)
kept-all true = refl
kept-all false = refl

kept-none : (b : Bool) → false ≡ (b && false)
kept-none true = refl
kept-none false = refl

-- one that is given up, and then more
none-more : (p one more : Bool) → ((p && not one) && not more) ≡ (p && not (one || more))
none-more true true more = refl
none-more true false more = refl
none-more false one more = refl

held-more : (h p one more : Bool) → ((h && not (p && one)) && not ((p && not one) && more)) ≡ (h && not (p && (one || more)))
held-more true true true more = refl
held-more true true false more = refl
held-more true false one more = refl
held-more false p one more = refl

-- ---- one block

-- a private block is the working tree's
abbrev WorksAlone : BlockState → Type 0
WorksAlone m = (q : ℕ) → m.holdings.private q ≡ true → m.holdings.works q ≡ true

-- what becomes of a block where one is given up
record GivesUpOne (m n : BlockState) (b q : ℕ) : Type 0 where
  pub private : n.holdings.private q ≡ (m.holdings.private q && not (nat_eq b q))
  pub held : n.holdings.held q ≡ (m.holdings.held q && not (m.holdings.private q && nat_eq b q))
  pub bytes : m.holdings.private q ≡ false → n.bytes q ≡ m.bytes q

-- another block
one_other : (m : BlockState) (b q : ℕ) → (q ≡ b → ⊥) → GivesUpOne m (given_up m b) b q
one_other m b q apart = go (m.holdings.works b) (m.holdings.private b)
  where
    out : nat_eq b q ≡ false
    out = ne_eqb b q (λ e. apart (sym e))

    stays : (x p : Bool) → x ≡ (x && not (p && nat_eq b q))
    stays x true = kept-all x ∙ ap (λ t. x && not t) (sym out)
    stays x false = kept-all x

    go : (w p : Bool) → GivesUpOne m (if w then (if p then with_free m b else with_shared m b) else m) b q
    go true true = record {
      private = put-other m.holdings.private b q false apart ∙ stays (m.holdings.private q) true;
      held = put-other m.holdings.held b q false apart ∙ stays (m.holdings.held q) (m.holdings.private q);
      bytes = λ _. put-other m.bytes b q [] apart;
    }
    go true false = record { private = stays (m.holdings.private q) true; held = stays (m.holdings.held q) (m.holdings.private q); bytes = λ _. refl }
    go false p = record { private = stays (m.holdings.private q) true; held = stays (m.holdings.held q) (m.holdings.private q); bytes = λ _. refl }

-- the block itself
one_here : (m : BlockState) (b : ℕ) → WorksAlone m → GivesUpOne m (given_up m b) b b
one_here m b works = go (m.holdings.works b) (m.holdings.private b) refl refl
  where
    in' : nat_eq b b ≡ true
    in' = eq-eqb b b refl

    goes : (x : Bool) → false ≡ (x && not (nat_eq b b))
    goes x = kept-none x ∙ ap (λ t. x && not t) (sym in')

    alone : m.holdings.private b ≡ true → false ≡ (m.holdings.held b && not (m.holdings.private b && nat_eq b b))
    alone f = kept-none (m.holdings.held b) ∙ (λ i. m.holdings.held b && not (sym f i && sym in' i))

    shared : m.holdings.private b ≡ false → m.holdings.held b ≡ (m.holdings.held b && not (m.holdings.private b && nat_eq b b))
    shared f = kept-all (m.holdings.held b) ∙ (λ i. m.holdings.held b && not (sym f i && nat_eq b b))

    go : (w p : Bool) → m.holdings.works b ≡ w → m.holdings.private b ≡ p → GivesUpOne m (if w then (if p then with_free m b else with_shared m b) else m) b b
    go true true e f = record {
      private = put-at m.holdings.private b b false refl ∙ goes (m.holdings.private b);
      held = put-at m.holdings.held b b false refl ∙ alone f;
      bytes = λ none. absurd (true_or_false (m.holdings.private b) f none);
    }
    go true false e f = record { private = f ∙ goes (m.holdings.private b); held = shared f; bytes = λ _. refl }
    go false p e f =
        let none : m.holdings.private b ≡ false = not_so (m.holdings.private b) (λ is. true_or_false (m.holdings.works b) (works b is) e) in
        record { private = none ∙ goes (m.holdings.private b); held = shared none; bytes = λ _. refl }

-- any block
gives_one : (m : BlockState) (b q : ℕ) → WorksAlone m → GivesUpOne m (given_up m b) b q
gives_one m b q works = elim (cases_eq q b) [ inl here ↦ subst (λ x. GivesUpOne m (given_up m b) b x) (sym here) (one_here m b works) | inr apart ↦ one_other m b q apart ]

-- a private one is still the working tree's
still_works : (m : BlockState) (b : ℕ) → WorksAlone m → WorksAlone (given_up m b)
still_works m b works q is = go (m.holdings.works b) (m.holdings.private b) refl
  where
    was : (m.holdings.private q && not (nat_eq b q)) ≡ true
    was = sym (gives_one m b q works).private ∙ is

    other : q ≡ b → ⊥
    other e = true_or_false (nat_eq b q) (eq-eqb b q (sym e)) (not_true (nat_eq b q) (and_right (m.holdings.private q) (not (nat_eq b q)) was))

    works_q : m.holdings.works q ≡ true
    works_q = works q (and_left (m.holdings.private q) (not (nat_eq b q)) was)

    go : (w p : Bool) → m.holdings.works b ≡ w → (if w then (if p then with_free m b else with_shared m b) else m).holdings.works q ≡ true
    go true true e = put-other m.holdings.works b q false other ∙ works_q
    go true false e = put-other m.holdings.works b q false other ∙ works_q
    go false p e = works_q

-- ---- all of them

-- what becomes of a block where some are given up
record GivesUpAll (m n : BlockState) (bs : List ℕ) (q : ℕ) : Type 0 where
  pub private : n.holdings.private q ≡ (m.holdings.private q && not (is_in bs q))
  pub held : n.holdings.held q ≡ (m.holdings.held q && not (m.holdings.private q && is_in bs q))
  pub bytes : m.holdings.private q ≡ false → n.bytes q ≡ m.bytes q

gives_all : (m : BlockState) (bs : List ℕ) (q : ℕ) → WorksAlone m → GivesUpAll m (without_all m bs) bs q
gives_all m [] q works = record { private = kept-all (m.holdings.private q); held = kept-all (m.holdings.held q) ∙ none (m.holdings.private q); bytes = λ _. refl }
  where
    none : (p : Bool) → (m.holdings.held q && true) ≡ (m.holdings.held q && not (p && false))
    none true = refl
    none false = refl
gives_all m (b ∷ bs) q works =
    let one : GivesUpOne m (given_up m b) b q = gives_one m b q works in
    let rest : GivesUpAll (given_up m b) (without_all (given_up m b) bs) bs q = gives_all (given_up m b) bs q (still_works m b works) in
    record {
      private = rest.private ∙ ap (λ t. t && not (is_in bs q)) one.private ∙ none-more (m.holdings.private q) (nat_eq b q) (is_in bs q);
      held = rest.held ∙ (λ i. one.held i && not (one.private i && is_in bs q)) ∙ held-more (m.holdings.held q) (m.holdings.private q) (nat_eq b q) (is_in bs q);
      bytes = λ shared. rest.bytes (one.private ∙ ap (λ t. t && not (nat_eq b q)) shared) ∙ one.bytes shared;
    }

-- ---- how many are free

-- 1 for a block that is private
abbrev one : BlockState → ℕ → ℕ
one m b = if m.holdings.private b then 1 else 0

-- those of a list that a block isn't in count as before
count_same : (m : BlockState) (b : ℕ) (bs : List ℕ) → (Contains bs b → ⊥) → sum_by (one (given_up m b)) bs ≡ sum_by (one m) bs
count_same m b [] out = refl
count_same m b (x ∷ xs) out =
    let apart : x ≡ b → ⊥ = λ is. out (subst (λ y. Contains (x ∷ xs) y) is (Contains-head x xs)) in
    let first : one (given_up m b) x ≡ one m x = ap (λ t. if t then 1 else 0) ((one_other m b x apart).private ∙ ap (λ t. m.holdings.private x && not t) (ne_eqb b x (λ e. apart (sym e))) ∙ sym (kept-all (m.holdings.private x))) in
    let rest : sum_by (one (given_up m b)) xs ≡ sum_by (one m) xs = count_same m b xs (λ c. out (Contains-cons x b xs c)) in
    omega (arith, sum_by-cons (one (given_up m b)) x xs, sum_by-cons (one m) x xs, first, rest)

-- one that is given up is free where it was private
free_one : (m : BlockState) (b : ℕ) → WorksAlone m → (given_up m b).holdings.free ≡ m.holdings.free + one m b
free_one m b works = go (m.holdings.works b) (m.holdings.private b) refl refl
  where
    go : (w p : Bool) → m.holdings.works b ≡ w → m.holdings.private b ≡ p → (if w then (if p then with_free m b else with_shared m b) else m).holdings.free ≡ m.holdings.free + (if p then 1 else 0)
    go true true e f = refl
    go true false e f = omega arith
    go false true e f = absurd (true_or_false (m.holdings.works b) (works b f) e)
    go false false e f = omega arith

free_all : (m : BlockState) (bs : List ℕ) → WorksAlone m → Distinct bs → (without_all m bs).holdings.free ≡ m.holdings.free + sum_by (one m) bs
free_all m [] works d = omega arith
free_all m (b ∷ bs) works d =
    let rest : (without_all (given_up m b) bs).holdings.free ≡ (given_up m b).holdings.free + sum_by (one (given_up m b)) bs = free_all (given_up m b) bs (still_works m b works) d.1 in
    omega (arith, rest, free_one m b works, count_same m b bs d.0, sum_by-cons (one m) b bs)

-- ---- the commit

module _ (m : BlockState) (p : Preparation) where
  -- the blocks with the edits alone
  abbrev edited : BlockState
  edited = with_edits m p.work.edits

  -- the working tree holds those that aren't given up
  pub holds-works : (b : ℕ) → (committed m p).holdings.works b ≡ (m.holdings.works b && not (is_in p.work.released b))
  holds-works b =
      elim (is_in p.work.released b) as (λ t. is_in p.work.released b ≡ t → (committed m p).holdings.works b ≡ (m.holdings.works b && not t)) [
        | true ↦ λ e. committed-gone m p b e ∙ kept-none (m.holdings.works b)
        | false ↦ λ e. committed-works m p b e ∙ kept-all (m.holdings.works b)
      ] refl

  module _ (s : IsConsistent m) where
    alone : WorksAlone edited
    alone q is = ap (λ h. h.works q) (edits_holdings m p.work.edits) ∙ s.private_works q (sym (ap (λ h. h.private q) (edits_holdings m p.work.edits)) ∙ is)

    -- alone where it did
    pub holds-private : (b : ℕ) → (committed m p).holdings.private b ≡ (m.holdings.private b && not (is_in p.work.released b))
    holds-private b = (gives_all edited p.work.released b alone).private ∙ (λ i. (edits_holdings m p.work.edits i).private b && not (is_in p.work.released b))

    -- some tree holds the others, and those that were shared
    pub holds-held : (b : ℕ) → (committed m p).holdings.held b ≡ (m.holdings.held b && not (m.holdings.private b && is_in p.work.released b))
    holds-held b = (gives_all edited p.work.released b alone).held ∙ (λ i. (edits_holdings m p.work.edits i).held b && not ((edits_holdings m p.work.edits i).private b && is_in p.work.released b))

    -- none holds one that is given up and was private
    pub holds-frees : (b : ℕ) → is_in p.work.released b ≡ true → m.holdings.private b ≡ true → (committed m p).holdings.held b ≡ false
    holds-frees b gone alone = holds-held b ∙ (λ i. m.holdings.held b && not (alone i && gone i)) ∙ sym (kept-none (m.holdings.held b))

    -- the shared ones keep their bytes
    pub holds-shared : (b : ℕ) → CanCommit m p → m.holdings.private b ≡ false → (committed m p).bytes b ≡ m.bytes b
    holds-shared b can shared =
        (gives_all edited p.work.released b alone).bytes (ap (λ h. h.private b) (edits_holdings m p.work.edits) ∙ shared)
        ∙ edits-others m p.work.edits b (λ e there is. true_or_false (m.holdings.private b) (ap m.holdings.private (sym is) ∙ s.ready_private e.block (can e there).0) shared)

    -- the private ones of those that are given up are free
    pub holds-free : Distinct p.work.released → (committed m p).holdings.free ≡ m.holdings.free + count_by (λ b. m.holdings.private b) p.work.released
    holds-free distinct =
        free_all edited p.work.released alone distinct ∙ (λ i. (edits_holdings m p.work.edits i).free + sum_by (λ b. if (edits_holdings m p.work.edits i).private b then 1 else 0) p.work.released)
