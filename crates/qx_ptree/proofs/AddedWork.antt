-- Work that is added, step by step.
use Rattle.std.proofs.Common.{◌≡◌, ℕ, inl, inr, [], ◌∷◌, ◌++◌, List, length, refl, sym, ◌∙◌, ap, subst, arith}
use Rattle.std.specs.Prelude.{true, IsTrue}
use Rattle.std.proofs.lemmas.List.{append-nil, append_assoc}
use Rattle.std.proofs.lemmas.List.Elements.{Contains-append_cases}
use Rattle.std.proofs.lemmas.Bool.{or_left}
use Rattle.qx_geom.specs.Lists.{is_in}
use Rattle.qx_geom.proofs.Members.{Contains-cases, in_append_cases, in_cases, in_head, in_left, in_right}
use Rattle.qx_blocks.specs.BlockState.{BlockState}
use Rattle.qx_blocks.specs.Calls.{MakesReady}
use Rattle.qx_ptree.specs.Building.{with_released, work_edited, work_kept, work_lost, work_moved, work_taken}
use Rattle.qx_ptree.specs.Takings.{Adds, Takes}
use Rattle.qx_ptree.specs.WorkState.{CanEdit, EditState, WorkState, and_then, no_work}
use Rattle.qx_ptree.proofs.TakenBlocks.{Takes-ready, Takes-then, ready-made}

-- ---- the work itself

-- nothing after some work
pub and_then-no_work : (a : WorkState) → and_then a no_work ≡ a
and_then-no_work a = λ i. record { fresh = append-nil a.fresh i; edits = append-nil a.edits i; kept = append-nil a.kept i; released = append-nil a.released i }

-- some work after two works
pub and_then-assoc : (a b c : WorkState) → and_then (and_then a b) c ≡ and_then a (and_then b c)
and_then-assoc a b c = λ i. record {
  fresh = append_assoc a.fresh b.fresh c.fresh i;
  edits = append_assoc a.edits b.edits c.edits i;
  kept = append_assoc a.kept b.kept c.kept i;
  released = append_assoc a.released b.released c.released i;
}

-- a block was taken
pub and_then-taken : (a : WorkState) (b : ℕ) → and_then a (work_taken b) ≡ record a { fresh = a.fresh ++ b ∷ [] }
and_then-taken a b = λ i. record { fresh = a.fresh ++ b ∷ []; edits = append-nil a.edits i; kept = append-nil a.kept i; released = append-nil a.released i }

-- a block stays
pub and_then-kept : (a : WorkState) (b : ℕ) → and_then a (work_kept b) ≡ record a { kept = a.kept ++ b ∷ [] }
and_then-kept a b = λ i. record { fresh = append-nil a.fresh i; edits = append-nil a.edits i; kept = a.kept ++ b ∷ []; released = append-nil a.released i }

-- a block is to be given up
pub and_then-lost : (a : WorkState) (b : ℕ) → and_then a (work_lost b) ≡ record a { released = a.released ++ b ∷ [] }
and_then-lost a b = λ i. record { fresh = append-nil a.fresh i; edits = append-nil a.edits i; kept = append-nil a.kept i; released = a.released ++ b ∷ [] }

-- a block takes another's place
pub and_then-moved : (a : WorkState) (to from : ℕ) → and_then a (work_moved to from) ≡ record a { fresh = a.fresh ++ to ∷ []; released = a.released ++ from ∷ [] }
and_then-moved a to from = λ i. record { fresh = a.fresh ++ to ∷ []; edits = append-nil a.edits i; kept = append-nil a.kept i; released = a.released ++ from ∷ [] }

-- a block stays that is to get other bytes
pub and_then-edited : (a : WorkState) (b : ℕ) (bytes : List ℕ) → and_then a (work_edited b bytes) ≡ record a { edits = a.edits ++ (record { block = b; bytes = bytes }) ∷ []; kept = a.kept ++ b ∷ [] }
and_then-edited a b bytes = λ i. record { fresh = append-nil a.fresh i; edits = a.edits ++ (record { block = b; bytes = bytes }) ∷ []; kept = a.kept ++ b ∷ []; released = append-nil a.released i }

-- some blocks are to be given up
pub and_then-released : (a : WorkState) (blocks : List ℕ) → and_then a (with_released no_work blocks) ≡ with_released a blocks
and_then-released a blocks = λ i. record { fresh = append-nil a.fresh i; edits = append-nil a.edits i; kept = append-nil a.kept i; released = a.released ++ blocks }

-- ---- what can be edited

-- no edit is in the way
pub CanEdit-none : (m : BlockState) (work : WorkState) → work.edits ≡ [] → CanEdit m work
CanEdit-none m work none e c = absurd (omega (arith, c.1, ap length none))

-- a ready block can get as many bytes
pub CanEdit-one : (m : BlockState) (b : ℕ) (bytes : List ℕ) → IsTrue (m.holdings.ready b) → length bytes ≡ m.holdings.size → CanEdit m (work_edited b bytes)
CanEdit-one m b bytes ready long e c = elim (Contains-cases (record { block = b; bytes = bytes }) e [] c) [
  | inl is ↦ subst (λ (x : EditState). IsTrue (m.holdings.ready x.block) × (length x.bytes ≡ m.holdings.size) × (is_in (b ∷ []) x.block ≡ true)) is (ready, long, in_head b [])
  | inr more ↦ absurd (omega (arith, more.1))
]

-- what could be edited still can
pub CanEdit-later : (fresh : List ℕ) (m n : BlockState) (work : WorkState) → Takes fresh m n → CanEdit m work → CanEdit n work
CanEdit-later fresh m n work f can e c =
    let was = can e c in
    (f.ready e.block (or_left (m.holdings.ready e.block) (is_in fresh e.block) was.0), was.1 ∙ sym f.size, was.2)

-- what each of two works can edit
pub CanEdit-then : (m : BlockState) (a b : WorkState) → CanEdit m a → CanEdit m b → CanEdit m (and_then a b)
CanEdit-then m a b first second e c = elim (Contains-append_cases a.edits b.edits e c) [
  | inl l ↦ let was = first e l in (was.0, was.1, in_left a.kept b.kept e.block was.2)
  | inr r ↦ let was = second e r in (was.0, was.1, in_right a.kept b.kept e.block was.2)
]

-- ---- steps

-- no number is in an empty list
pub nothing_in : (q : ℕ) → is_in [] q ≡ true → ⊥
nothing_in q t = cc

-- nothing was added
abbrev pub adds_none : (m n : BlockState) (before after : WorkState) → Takes [] m n → after ≡ before → Adds m n before after
adds_none m n before after f same = record {
  added = no_work;
  is = same ∙ sym (and_then-no_work before);
  takes = f;
  kept = λ q t. absurd (nothing_in q t);
  edits = CanEdit-none n no_work refl;
}

-- a block was taken
abbrev pub adds_taken : (m n : BlockState) (before after : WorkState) (b : ℕ) → Takes (b ∷ []) m n → after ≡ record before { fresh = before.fresh ++ b ∷ [] } → Adds m n before after
adds_taken m n before after b f noted = record {
  added = work_taken b;
  is = noted ∙ sym (and_then-taken before b);
  takes = f;
  kept = λ q t. absurd (nothing_in q t);
  edits = CanEdit-none n (work_taken b) refl;
}

-- the one block that stays is ready
pub one_ready : (m n : BlockState) (b q : ℕ) → MakesReady b m n → is_in (b ∷ []) q ≡ true → IsTrue (n.holdings.ready q)
one_ready m n b q r t = elim (in_cases b q [] t) [ inl is ↦ subst (λ x. IsTrue (n.holdings.ready x)) is (ready-made m n b r) | inr rest ↦ absurd (cc rest) ]

-- a block was made ready
abbrev pub adds_kept : (m n : BlockState) (before after : WorkState) (b : ℕ) → MakesReady b m n → after ≡ record before { kept = before.kept ++ b ∷ [] } → Adds m n before after
adds_kept m n before after b r noted = record {
  added = work_kept b;
  is = noted ∙ sym (and_then-kept before b);
  takes = Takes-ready m n b r;
  kept = λ q t. one_ready m n b q r t;
  edits = CanEdit-none n (work_kept b) refl;
}

-- a block was noted to be given up
abbrev pub adds_lost : (m n : BlockState) (before after : WorkState) (b : ℕ) → Takes [] m n → after ≡ record before { released = before.released ++ b ∷ [] } → Adds m n before after
adds_lost m n before after b f noted = record {
  added = work_lost b;
  is = noted ∙ sym (and_then-lost before b);
  takes = f;
  kept = λ q t. absurd (nothing_in q t);
  edits = CanEdit-none n (work_lost b) refl;
}

-- a block was taken in the place of one that is to be given up
abbrev pub adds_moved : (m n : BlockState) (before after : WorkState) (to from : ℕ) → Takes (to ∷ []) m n → after ≡ record before { fresh = before.fresh ++ to ∷ []; released = before.released ++ from ∷ [] } → Adds m n before after
adds_moved m n before after to from f noted = record {
  added = work_moved to from;
  is = noted ∙ sym (and_then-moved before to from);
  takes = f;
  kept = λ q t. absurd (nothing_in q t);
  edits = CanEdit-none n (work_moved to from) refl;
}

-- a block was made ready that is to get other bytes
abbrev pub adds_edited : (m n : BlockState) (before after : WorkState) (b : ℕ) (bytes : List ℕ) → MakesReady b m n → length bytes ≡ n.holdings.size
    → after ≡ record before { edits = before.edits ++ (record { block = b; bytes = bytes }) ∷ []; kept = before.kept ++ b ∷ [] } → Adds m n before after
adds_edited m n before after b bytes r long noted = record {
  added = work_edited b bytes;
  is = noted ∙ sym (and_then-edited before b bytes);
  takes = Takes-ready m n b r;
  kept = λ q t. one_ready m n b q r t;
  edits = CanEdit-one n b bytes (ready-made m n b r) long;
}

-- blocks that stay are ready after more work
pub kept-then : (m n o : BlockState) (a b c : WorkState) (f : Adds m n a b) (g : Adds n o b c) (q : ℕ) → is_in (f.added.kept ++ g.added.kept) q ≡ true → IsTrue (o.holdings.ready q)
kept-then m n o a b c f g q t = elim (in_append_cases f.added.kept g.added.kept q t) [
  | inl first ↦ g.takes.ready q (or_left (n.holdings.ready q) (is_in g.added.fresh q) (f.kept q first))
  | inr second ↦ g.kept q second
]

-- some work was added, and then more
abbrev pub adds_then : (m n o : BlockState) (a b c : WorkState) → Adds m n a b → Adds n o b c → Adds m o a c
adds_then m n o a b c f g = record {
  added = and_then f.added g.added;
  is = g.is ∙ ap (λ w. and_then w g.added) f.is ∙ and_then-assoc a f.added g.added;
  takes = Takes-then f.added.fresh g.added.fresh m n o f.takes g.takes;
  kept = λ q t. kept-then m n o a b c f g q t;
  edits = CanEdit-then o f.added g.added (CanEdit-later g.added.fresh n o f.added g.takes f.edits) g.edits;
}

-- only blocks to be given up were noted
abbrev pub adds_released : (m n : BlockState) (before after : WorkState) (blocks : List ℕ) → Takes [] m n → after ≡ with_released before blocks → Adds m n before after
adds_released m n before after blocks f noted = record {
  added = with_released no_work blocks;
  is = noted ∙ sym (and_then-released before blocks);
  takes = f;
  kept = λ q t. absurd (nothing_in q t);
  edits = CanEdit-none n (with_released no_work blocks) refl;
}
