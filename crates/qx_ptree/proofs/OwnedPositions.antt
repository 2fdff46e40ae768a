-- Positions whose blocks are some work's own: none, more work, later states.
use Rattle.std.proofs.Common.{◌≡◌, ℕ, ◌⊎◌, inl, inr, List, [], ◌++◌, sym, ◌∙◌, subst, arith}
use Rattle.std.specs.Prelude.{true, Contains}
use Rattle.std.proofs.lemmas.List.Elements.{Contains-append_cases, Contains-append_left, Contains-append_right}
use Rattle.qx_geom.proofs.Members.{in_append_cases, in_left, in_right}
use Rattle.qx_geom.specs.Lists.{Distinct, is_in}
use Rattle.qx_blocks.specs.BlockState.{BlockState}
use Rattle.qx_ptree.specs.Reaching.{HasEdits, Owns, ShowsOwn, own_blocks}
use Rattle.qx_ptree.specs.WorkState.{EditState, WorkState, and_then}
use Rattle.qx_ptree.proofs.DistinctBlocks.{distinct_between, distinct_first, distinct_second}

-- ---- no positions

-- no bytes are to come
pub no_edits : (work : WorkState) → work.edits ≡ [] → HasEdits work
no_edits work none = record {
  kept = λ e c. absurd (out e c);
  once = λ d e f c h same. absurd (out e c);
}
  where
    out : (e : EditState) → Contains work.edits e → ⊥
    out e c = let here : Contains [] e = subst (λ (es : List EditState). Contains es e) none c in omega (arith, here.1)

-- at no position there is nothing to own
pub owns_none : (n : BlockState) (work : WorkState) (inside : ℕ → ℕ → Type 0) (pointer : (ℕ → List ℕ) → ℕ → ℕ → ℕ) → HasEdits work → ((k j : ℕ) → inside k j → ⊥) → Owns n work inside pointer
owns_none n work inside pointer edits out = record {
  own = λ bytes s k j u. absurd (out k j u);
  apart = λ bytes s d k j h i u v same. absurd (out k j u);
  edits = edits;
}

-- ---- later states

-- where fresh blocks keep their bytes
pub owns_later : (n o : BlockState) (work : WorkState) (inside : ℕ → ℕ → Type 0) (pointer : (ℕ → List ℕ) → ℕ → ℕ → ℕ) → ((b : ℕ) → is_in work.fresh b ≡ true → o.bytes b ≡ n.bytes b)
    → Owns n work inside pointer → Owns o work inside pointer
owns_later n o work inside pointer stay owns = record {
  own = λ bytes s. owns.own bytes (back bytes s);
  apart = λ bytes s. owns.apart bytes (back bytes s);
  edits = owns.edits;
}
  where
    back : (bytes : ℕ → List ℕ) → ShowsOwn o work bytes → ShowsOwn n work bytes
    back bytes s = record { fresh = λ b h. s.fresh b h ∙ stay b h; edits = s.edits }

-- with the same pointers at the same positions, or at fewer
pub owns_fewer : (n : BlockState) (work : WorkState) (inside some : ℕ → ℕ → Type 0) (pointer led : (ℕ → List ℕ) → ℕ → ℕ → ℕ) → ((k j : ℕ) → some k j → inside k j)
    → ((bytes : ℕ → List ℕ) (k j : ℕ) → some k j → led bytes k j ≡ pointer bytes k j) → Owns n work inside pointer → Owns n work some led
owns_fewer n work inside some pointer led within same owns = record {
  own = λ bytes s k j u. subst (λ x. is_in (own_blocks work) x ≡ true) (sym (same bytes k j u)) (owns.own bytes s k j (within k j u));
  apart = λ bytes s d k j h i u v e. owns.apart bytes s d k j h i (within k j u) (within h i v) (sym (same bytes k j u) ∙ e ∙ same bytes h i v);
  edits = owns.edits;
}

-- ---- more work

module _ (a b : WorkState) where
  -- the blocks of the first work
  own_first : (x : ℕ) → is_in (own_blocks a) x ≡ true → is_in (own_blocks (and_then a b)) x ≡ true
  own_first x h = elim (in_append_cases a.fresh a.kept x h) [
    | inl fresh ↦ in_left (a.fresh ++ b.fresh) (a.kept ++ b.kept) x (in_left a.fresh b.fresh x fresh)
    | inr kept ↦ in_right (a.fresh ++ b.fresh) (a.kept ++ b.kept) x (in_left a.kept b.kept x kept)
  ]

  -- and those of the second
  own_second : (x : ℕ) → is_in (own_blocks b) x ≡ true → is_in (own_blocks (and_then a b)) x ≡ true
  own_second x h = elim (in_append_cases b.fresh b.kept x h) [
    | inl fresh ↦ in_left (a.fresh ++ b.fresh) (a.kept ++ b.kept) x (in_right a.fresh b.fresh x fresh)
    | inr kept ↦ in_right (a.fresh ++ b.fresh) (a.kept ++ b.kept) x (in_right a.kept b.kept x kept)
  ]

  -- what all work shows, the first shows
  pub shows_first : (n : BlockState) (bytes : ℕ → List ℕ) → ShowsOwn n (and_then a b) bytes → ShowsOwn n a bytes
  shows_first n bytes s = record { fresh = λ x h. s.fresh x (in_left a.fresh b.fresh x h); edits = λ e c. s.edits e (Contains-append_left a.edits b.edits e c) }

  -- and the second
  pub shows_second : (n : BlockState) (bytes : ℕ → List ℕ) → ShowsOwn n (and_then a b) bytes → ShowsOwn n b bytes
  shows_second n bytes s = record { fresh = λ x h. s.fresh x (in_right a.fresh b.fresh x h); edits = λ e c. s.edits e (Contains-append_right a.edits b.edits e c) }

  -- no block is in both where they are distinct
  own_apart : (x : ℕ) → Distinct (own_blocks (and_then a b)) → is_in (own_blocks a) x ≡ true → is_in (own_blocks b) x ≡ true → ⊥
  own_apart x d first second = distinct_between a.fresh b.fresh a.kept b.kept x d first second

  -- the edits of both
  edits_both : HasEdits a → HasEdits b → HasEdits (and_then a b)
  edits_both p q = record {
    kept = λ e c. elim (Contains-append_cases a.edits b.edits e c) [
      | inl first ↦ in_left a.kept b.kept e.block (p.kept e first)
      | inr second ↦ in_right a.kept b.kept e.block (q.kept e second)
    ];
    once = λ d e f c h same. elim (Contains-append_cases a.edits b.edits e c) [
      | inl first ↦ elim (Contains-append_cases a.edits b.edits f h) [
        | inl one ↦ p.once (distinct_first a.fresh b.fresh a.kept b.kept d) e f first one same
        | inr two ↦ absurd (crossed d e f first two same)
      ]
      | inr second ↦ elim (Contains-append_cases a.edits b.edits f h) [
        | inl one ↦ absurd (crossed d f e one second (sym same))
        | inr two ↦ q.once (distinct_second a.fresh b.fresh a.kept b.kept d) e f second two same
      ]
    ];
  }
    where
      crossed : Distinct (own_blocks (and_then a b)) → (e f : EditState) → Contains a.edits e → Contains b.edits f → e.block ≡ f.block → ⊥
      crossed d e f c h same = own_apart e.block d (in_right a.fresh a.kept e.block (p.kept e c)) (subst (λ x. is_in (own_blocks b) x ≡ true) (sym same) (in_right b.fresh b.kept f.block (q.kept f h)))

  -- each position is one of the first work or of the second
  pub owns_both : (n : BlockState) (inside one two : ℕ → ℕ → Type 0) (pointer first second : (ℕ → List ℕ) → ℕ → ℕ → ℕ) → ((k j : ℕ) → inside k j → one k j ⊎ two k j)
      → ((bytes : ℕ → List ℕ) → ShowsOwn n (and_then a b) bytes → (k j : ℕ) → inside k j → one k j → pointer bytes k j ≡ first bytes k j)
      → ((bytes : ℕ → List ℕ) → ShowsOwn n (and_then a b) bytes → (k j : ℕ) → inside k j → two k j → pointer bytes k j ≡ second bytes k j)
      → Owns n a one first → Owns n b two second → Owns n (and_then a b) inside pointer
  owns_both n inside one two pointer first second split at_first at_second p q = record {
    own = λ bytes s k j u. elim (split k j u) [
      | inl x ↦ subst (λ y. is_in (own_blocks (and_then a b)) y ≡ true) (sym (at_first bytes s k j u x)) (own_first (first bytes k j) (p.own bytes (shows_first n bytes s) k j x))
      | inr x ↦ subst (λ y. is_in (own_blocks (and_then a b)) y ≡ true) (sym (at_second bytes s k j u x)) (own_second (second bytes k j) (q.own bytes (shows_second n bytes s) k j x))
    ];
    apart = λ bytes s d k j h i u v same. elim (split k j u) [
      | inl x ↦ elim (split h i v) [
        | inl y ↦ p.apart bytes (shows_first n bytes s) (distinct_first a.fresh b.fresh a.kept b.kept d) k j h i x y (sym (at_first bytes s k j u x) ∙ same ∙ at_first bytes s h i v y)
        | inr y ↦ absurd (own_apart (first bytes k j) d (p.own bytes (shows_first n bytes s) k j x)
            (subst (λ z. is_in (own_blocks b) z ≡ true) (sym (at_second bytes s h i v y) ∙ sym same ∙ at_first bytes s k j u x) (q.own bytes (shows_second n bytes s) h i y)))
      ]
      | inr x ↦ elim (split h i v) [
        | inl y ↦ absurd (own_apart (first bytes h i) d (p.own bytes (shows_first n bytes s) h i y)
            (subst (λ z. is_in (own_blocks b) z ≡ true) (sym (at_second bytes s k j u x) ∙ same ∙ at_first bytes s h i v y) (q.own bytes (shows_second n bytes s) k j x)))
        | inr y ↦ q.apart bytes (shows_second n bytes s) (distinct_second a.fresh b.fresh a.kept b.kept d) k j h i x y (sym (at_second bytes s k j u x) ∙ same ∙ at_second bytes s h i v y)
      ]
    ];
    edits = edits_both p.edits q.edits;
  }
