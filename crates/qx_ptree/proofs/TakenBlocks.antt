-- Calls that take blocks and change no others, one after another.
use Rattle.std.proofs.Common.{◌≡◌, ℕ, ◌<◌, inl, inr, [], ◌∷◌, ◌++◌, List, refl, sym, ◌∙◌, ap, arith}
use Rattle.std.specs.Prelude.{true, false, IsTrue, replicate}
use Rattle.std.proofs.Math.Bool.{or-false}
use Rattle.std.proofs.lemmas.Bool.{or_cases, or_right, or_left as either_left}
use Rattle.std.proofs.lemmas.List.{length-append}
use Rattle.qx_geom.specs.Lists.{is_in}
use Rattle.qx_geom.proofs.Truths.{not_so, or_left, true_or_false}
use Rattle.qx_geom.proofs.Members.{in_append_cases, in_cases}
use Rattle.qx_geom.proofs.DistinctElements.{Distinct-append}
use Rattle.qx_geom.proofs.ImagesAndFilters.{in_Contains}
use Rattle.qx_blocks.specs.BlockState.{BlockState, IsConsistent, put, with_bytes, with_fresh}
use Rattle.qx_blocks.specs.Calls.{Keeps, MakesReady}
use Rattle.qx_ptree.specs.Takings.{Takes}
use Rattle.qx_ptree.proofs.ListedBlocks.{more_pass, put-or, put-other}

-- a block that can be written at once is held
pub ready_held : (m : BlockState) (b : ℕ) → IsConsistent m → IsTrue (m.holdings.ready b) → IsTrue (m.holdings.held b)
ready_held m b k ready = k.works_held b (k.private_works b (k.ready_private b ready))

-- nothing is taken
pub Takes-none : (m n : BlockState) → Keeps m n → Takes [] m n
Takes-none m n k = record {
  size = ap (λ h. h.size) k.holdings;
  count = ap (λ h. h.count) k.holdings;
  held = λ q. ap (λ h. h.held q) k.holdings ∙ sym (or-false (m.holdings.held q));
  works = λ q. ap (λ h. h.works q) k.holdings ∙ sym (or-false (m.holdings.works q));
  private = λ q. ap (λ h. h.private q) k.holdings ∙ sym (or-false (m.holdings.private q));
  ready = λ q t. ap (λ h. h.ready q) k.holdings ∙ sym (or-false (m.holdings.ready q)) ∙ t;
  unheld = λ q t. absurd (cc);
  unused = λ q t. absurd (cc);
  distinct = tt;
  free = omega (arith, ap (λ h. h.free) k.holdings);
  ready_bytes = k.ready;
  told_before = λ t. sym (ap (λ s. s.tells) (k.told t)) ∙ t;
  told_bytes = λ t q held. ap (λ s. s.bytes q) (k.told t);
  told_history = λ t. ap (λ s. s.history) (k.told t);
}

-- all is as it was
pub Takes-same : (m : BlockState) → Takes [] m m
Takes-same m = Takes-none m m (record { told = λ t. refl; holdings = refl; ready = λ q t. refl })

-- a block is made ready
pub Takes-ready : (m n : BlockState) (b : ℕ) → MakesReady b m n → Takes [] m n
Takes-ready m n b r = record {
  size = ap (λ h. h.size) r.holdings;
  count = ap (λ h. h.count) r.holdings;
  held = λ q. ap (λ h. h.held q) r.holdings ∙ sym (or-false (m.holdings.held q));
  works = λ q. ap (λ h. h.works q) r.holdings ∙ sym (or-false (m.holdings.works q));
  private = λ q. ap (λ h. h.private q) r.holdings ∙ sym (or-false (m.holdings.private q));
  ready = λ q t. ap (λ h. h.ready q) r.holdings ∙ put-or m.holdings.ready b q ∙ either_left (m.holdings.ready q) (is_in (b ∷ []) q) (sym (or-false (m.holdings.ready q)) ∙ t);
  unheld = λ q t. absurd (cc);
  unused = λ q t. absurd (cc);
  distinct = tt;
  free = omega (arith, ap (λ h. h.free) r.holdings);
  ready_bytes = r.ready;
  told_before = λ t. sym (ap (λ s. s.tells) (r.told t)) ∙ t;
  told_bytes = λ t q held. ap (λ s. s.bytes q) (r.told t);
  told_history = λ t. ap (λ s. s.history) (r.told t);
}

-- it is then ready
pub ready-made : (m n : BlockState) (b : ℕ) → MakesReady b m n → IsTrue (n.holdings.ready b)
ready-made m n b r = ap (λ h. h.ready b) r.holdings ∙ put-or m.holdings.ready b b ∙ or_right (m.holdings.ready b) (is_in (b ∷ []) b) (in_one b)
  where
    in_one : (b : ℕ) → is_in (b ∷ []) b ≡ true
    in_one b = in_Contains (b ∷ []) b (0, omega arith, refl)

-- the one block that nobody held isn't used at all
fresh_unused : (m : BlockState) (b q : ℕ) → IsConsistent m → m.holdings.held b ≡ false → is_in (b ∷ []) q ≡ true
    → (m.holdings.held q ≡ false) × ((m.holdings.works q ≡ false) × (m.holdings.private q ≡ false) × (m.holdings.ready q ≡ false))
fresh_unused m b q k unheld t =
    let none : m.holdings.held q ≡ false = elim (in_cases b q [] t) [ inl is ↦ ap m.holdings.held (sym is) ∙ unheld | inr rest ↦ absurd (cc rest) ] in (
      none,
      (
        not_so (m.holdings.works q) (λ w. true_or_false (m.holdings.held q) (k.works_held q w) none),
        not_so (m.holdings.private q) (λ w. true_or_false (m.holdings.held q) (k.works_held q (k.private_works q w)) none),
        not_so (m.holdings.ready q) (λ r. true_or_false (m.holdings.held q) (ready_held m q k r) none),
      ),
    )

-- a block is taken, which is then written, maybe
pub Takes-one : (m n : BlockState) (b : ℕ) (bytes : List ℕ) → IsConsistent m → m.holdings.held b ≡ false → 0 < m.holdings.free
    → n.holdings ≡ (with_fresh m b).holdings → (IsTrue n.tells → n ≡ with_bytes (with_fresh m b) b bytes)
    → ((q : ℕ) → IsTrue (m.holdings.ready q) → n.bytes q ≡ m.bytes q) → Takes (b ∷ []) m n
Takes-one m n b bytes k unheld some holdings told ready = record {
  size = ap (λ h. h.size) holdings;
  count = ap (λ h. h.count) holdings;
  held = λ q. ap (λ h. h.held q) holdings ∙ put-or m.holdings.held b q;
  works = λ q. ap (λ h. h.works q) holdings ∙ put-or m.holdings.works b q;
  private = λ q. ap (λ h. h.private q) holdings ∙ put-or m.holdings.private b q;
  ready = λ q t. ap (λ h. h.ready q) holdings ∙ put-or m.holdings.ready b q ∙ t;
  unheld = λ q t. (fresh_unused m b q k unheld t).0;
  unused = λ q t. (fresh_unused m b q k unheld t).1;
  distinct = (λ c. absurd (omega (arith, c.1)), tt);
  free = omega (arith, ap (λ h. h.free) holdings);
  ready_bytes = ready;
  told_before = λ t. sym (ap (λ s. s.tells) (told t)) ∙ t;
  told_bytes = λ t q held. ap (λ s. s.bytes q) (told t) ∙ apart_twice q (λ e. true_or_false (m.holdings.held b) (ap m.holdings.held (sym e) ∙ held) unheld);
  told_history = λ t. ap (λ s. s.history) (told t);
} where
  apart_twice : (q : ℕ) → (q ≡ b → ⊥) → put (put m.bytes b (replicate m.holdings.size 0)) b bytes q ≡ m.bytes q
  apart_twice q ne = put-other (put m.bytes b (replicate m.holdings.size 0)) b q bytes ne ∙ put-other m.bytes b q (replicate m.holdings.size 0) ne

-- a fresh block, with the bytes 0
pub Takes-fresh : (m : BlockState) (b : ℕ) → IsConsistent m → m.holdings.held b ≡ false → 0 < m.holdings.free → Takes (b ∷ []) m (with_fresh m b)
Takes-fresh m b k unheld some = record {
  size = refl;
  count = refl;
  held = put-or m.holdings.held b;
  works = put-or m.holdings.works b;
  private = put-or m.holdings.private b;
  ready = λ q t. put-or m.holdings.ready b q ∙ t;
  unheld = λ q t. (fresh_unused m b q k unheld t).0;
  unused = λ q t. (fresh_unused m b q k unheld t).1;
  distinct = (λ c. absurd (omega (arith, c.1)), tt);
  free = omega arith;
  ready_bytes = λ q r. other q (ready_held m q k r);
  told_before = λ t. t;
  told_bytes = λ t q held. other q held;
  told_history = λ t. refl;
} where
  other : (q : ℕ) → IsTrue (m.holdings.held q) → put m.bytes b (replicate m.holdings.size 0) q ≡ m.bytes q
  other q held = put-other m.bytes b q (replicate m.holdings.size 0) (λ e. true_or_false (m.holdings.held b) (ap m.holdings.held (sym e) ∙ held) unheld)

-- a call after another
pub Takes-then : (fs gs : List ℕ) (m n o : BlockState) → Takes fs m n → Takes gs n o → Takes (fs ++ gs) m o
Takes-then fs gs m n o f g = record {
  size = g.size ∙ f.size;
  count = g.count ∙ f.count;
  held = λ q. more_pass (m.holdings.held q) (n.holdings.held q) (o.holdings.held q) fs gs q (f.held q) (g.held q);
  works = λ q. more_pass (m.holdings.works q) (n.holdings.works q) (o.holdings.works q) fs gs q (f.works q) (g.works q);
  private = λ q. more_pass (m.holdings.private q) (n.holdings.private q) (o.holdings.private q) fs gs q (f.private q) (g.private q);
  ready = λ q t. elim (or_cases (m.holdings.ready q) (is_in (fs ++ gs) q) t) [
    | inl before ↦ later q (f.ready q (either_left (m.holdings.ready q) (is_in fs q) before))
    | inr added ↦ elim (in_append_cases fs gs q added) [
      | inl first ↦ later q (f.ready q (or_right (m.holdings.ready q) (is_in fs q) first))
      | inr second ↦ g.ready q (or_right (n.holdings.ready q) (is_in gs q) second)
    ]
  ];
  unheld = λ q t. elim (in_append_cases fs gs q t) [
    | inl first ↦ f.unheld q first
    | inr second ↦ or_left (m.holdings.held q) (is_in fs q) (sym (f.held q) ∙ g.unheld q second)
  ];
  unused = λ q t. elim (in_append_cases fs gs q t) [
    | inl first ↦ f.unused q first
    | inr second ↦ (
      or_left (m.holdings.works q) (is_in fs q) (sym (f.works q) ∙ (g.unused q second).0),
      or_left (m.holdings.private q) (is_in fs q) (sym (f.private q) ∙ (g.unused q second).1),
      not_so (m.holdings.ready q) (λ r. true_or_false (n.holdings.ready q) (f.ready q (either_left (m.holdings.ready q) (is_in fs q) r)) (g.unused q second).2),
    )
  ];
  distinct = Distinct-append fs gs f.distinct g.distinct (λ x a b. true_or_false (n.holdings.held x)
      (f.held x ∙ or_right (m.holdings.held x) (is_in fs x) (in_Contains fs x a))
      (g.unheld x (in_Contains gs x b)));
  free = omega (arith, f.free, g.free, length-append fs gs);
  ready_bytes = λ q r. g.ready_bytes q (f.ready q (either_left (m.holdings.ready q) (is_in fs q) r)) ∙ f.ready_bytes q r;
  told_before = λ t. f.told_before (g.told_before t);
  told_bytes = λ t q held. g.told_bytes t q (f.held q ∙ either_left (m.holdings.held q) (is_in fs q) held) ∙ f.told_bytes (g.told_before t) q held;
  told_history = λ t. g.told_history t ∙ f.told_history (g.told_before t);
} where
  later : (q : ℕ) → IsTrue (n.holdings.ready q) → IsTrue (o.holdings.ready q)
  later q r = g.ready q (either_left (n.holdings.ready q) (is_in gs q) r)

-- a call that takes nothing, and one that takes blocks
pub Takes-after : (fresh : List ℕ) (m n o : BlockState) → Keeps m n → Takes fresh n o → Takes fresh m o
Takes-after fresh m n o k g = Takes-then [] fresh m n o (Takes-none m n k) g
