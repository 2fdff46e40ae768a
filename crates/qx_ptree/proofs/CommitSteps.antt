-- What a commit leaves of each block: an edit changes the bytes of its block alone, and a block that isn't given up stays held as it was.
use Rattle.std.proofs.Common.{◌≡◌, ℕ, arith, inl, inr, List, [], ◌∷◌, refl, sym, ◌∙◌, ap, subst}
use Rattle.std.specs.Prelude.{Bool, true, false, nat_eq, if◌then◌else◌, IsTrue, Contains}
use Rattle.std.proofs.lemmas.Bool.{cases_eq, eq-eqb}
use Rattle.qx_geom.proofs.Members.{Contains-cases, Contains-cons, Contains-head, in_cases}
use Rattle.qx_geom.proofs.Truths.{or_left, or_right, true_or_false}
use Rattle.qx_geom.specs.Lists.{is_in}
use Rattle.qx_blocks.specs.BlockState.{BlockState, put, with_bytes, with_free, with_shared}
use Rattle.qx_ptree.specs.Altered.{IsSameBlock}
use Rattle.qx_ptree.specs.WorkState.{EditState, Preparation, committed, given_up, with_edits, without_all}
use Rattle.qx_ptree.proofs.ListedBlocks.{put-other, put-at}
use Rattle.qx_ptree.proofs.EditedBlocks.{edits_holdings}

-- ---- edits

-- a block that no edit is of keeps its bytes
pub edits-others : (m : BlockState) (es : List EditState) (q : ℕ) → ((e : EditState) → Contains es e → e.block ≡ q → ⊥) → (with_edits m es).bytes q ≡ m.bytes q
edits-others m [] q none = refl
edits-others m (e ∷ es) q none =
    edits-others (with_bytes m e.block e.bytes) es q (λ f c. none f (Contains-cons e f es c)) ∙ put-other m.bytes e.block q e.bytes (λ is. none e (Contains-head e es) (sym is))

-- bytes that all edits of a block give it stay
edits-stay : (m : BlockState) (es : List EditState) (q : ℕ) (bytes : List ℕ) → ((e : EditState) → Contains es e → e.block ≡ q → e.bytes ≡ bytes) → m.bytes q ≡ bytes → (with_edits m es).bytes q ≡ bytes
edits-stay m [] q bytes same is = is
edits-stay m (e ∷ es) q bytes same is =
    edits-stay (with_bytes m e.block e.bytes) es q bytes (λ f c. same f (Contains-cons e f es c))
    (elim (cases_eq e.block q) [ inl here ↦ put-at m.bytes e.block q e.bytes (sym here) ∙ same e (Contains-head e es) here | inr apart ↦ put-other m.bytes e.block q e.bytes (λ here. apart (sym here)) ∙ is ])

-- and a block that an edit is of has them
pub edits-bytes : (m : BlockState) (es : List EditState) (q : ℕ) (bytes : List ℕ) (f : EditState) → ((e : EditState) → Contains es e → e.block ≡ q → e.bytes ≡ bytes) → Contains es f → f.block ≡ q → (with_edits m es).bytes q ≡ bytes
edits-bytes m [] q bytes f same c is = absurd (omega (arith, c.1))
edits-bytes m (e ∷ es) q bytes f same c is = elim (Contains-cases e f es c) [
  | inl first ↦
      let here : q ≡ e.block = sym is ∙ ap (λ (x : EditState). x.block) (sym first) in
      edits-stay (with_bytes m e.block e.bytes) es q bytes (λ g d. same g (Contains-cons e g es d)) (put-at m.bytes e.block q e.bytes here ∙ same e (Contains-head e es) (sym here))
  | inr later ↦ edits-bytes (with_bytes m e.block e.bytes) es q bytes f (λ g d. same g (Contains-cons e g es d)) later is
]

-- ---- blocks that are given up

-- a block that is as it was, and was so before
pub same_after : (k m n : BlockState) (q : ℕ) → IsSameBlock k m q → IsSameBlock m n q → IsSameBlock k n q
same_after k m n q a b = record { held = b.held ∙ a.held; works = b.works ∙ a.works; private = b.private ∙ a.private; ready = λ t. b.ready (a.ready t); bytes = b.bytes ∙ a.bytes }

-- the others are as they were
given_up-others : (m : BlockState) (b q : ℕ) → (q ≡ b → ⊥) → IsSameBlock m (given_up m b) q
given_up-others m b q apart = go (m.holdings.works b) (m.holdings.private b)
  where
    go : (w p : Bool) → IsSameBlock m (if w then (if p then with_free m b else with_shared m b) else m) q
    go true true = record {
      held = put-other m.holdings.held b q false apart;
      works = put-other m.holdings.works b q false apart;
      private = put-other m.holdings.private b q false apart;
      ready = λ t. subst IsTrue (sym (put-other m.holdings.ready b q false apart)) t;
      bytes = put-other m.bytes b q [] apart;
    }
    go true false = record { held = refl; works = put-other m.holdings.works b q false apart; private = refl; ready = λ t. t; bytes = refl }
    go false p = record { held = refl; works = refl; private = refl; ready = λ t. t; bytes = refl }

-- so are those that none of these is
pub without-others : (m : BlockState) (bs : List ℕ) (q : ℕ) → is_in bs q ≡ false → IsSameBlock m (without_all m bs) q
without-others m [] q none = record { held = refl; works = refl; private = refl; ready = λ t. t; bytes = refl }
without-others m (b ∷ bs) q none =
    same_after m (given_up m b) (without_all (given_up m b) bs) q
    (given_up-others m b q (λ is. true_or_false (nat_eq b q) (eq-eqb b q (sym is)) (or_left (nat_eq b q) (is_in bs q) none)))
    (without-others (given_up m b) bs q (or_right (nat_eq b q) (is_in bs q) none))

-- what doesn't work doesn't work after more is given up
given_up-idle : (m : BlockState) (b q : ℕ) → m.holdings.works q ≡ false → (given_up m b).holdings.works q ≡ false
given_up-idle m b q idle = go (m.holdings.works b) (m.holdings.private b)
  where
    none : put m.holdings.works b false q ≡ false
    none = elim (cases_eq q b) [ inl is ↦ put-at m.holdings.works b q false is | inr apart ↦ put-other m.holdings.works b q false apart ∙ idle ]

    go : (w p : Bool) → (if w then (if p then with_free m b else with_shared m b) else m).holdings.works q ≡ false
    go true true = none
    go true false = none
    go false p = idle

-- a block that was given up doesn't work
given_up-here : (m : BlockState) (b : ℕ) → (given_up m b).holdings.works b ≡ false
given_up-here m b = go (m.holdings.works b) (m.holdings.private b) refl
  where
    none : put m.holdings.works b false b ≡ false
    none = put-at m.holdings.works b b false refl

    go : (w p : Bool) → m.holdings.works b ≡ w → (if w then (if p then with_free m b else with_shared m b) else m).holdings.works b ≡ false
    go true true e = none
    go true false e = none
    go false p e = e

-- nor does it later
without-idle : (m : BlockState) (bs : List ℕ) (q : ℕ) → m.holdings.works q ≡ false → (without_all m bs).holdings.works q ≡ false
without-idle m [] q idle = idle
without-idle m (b ∷ bs) q idle = without-idle (given_up m b) bs q (given_up-idle m b q idle)

-- none of these blocks works
pub without-gone : (m : BlockState) (bs : List ℕ) (q : ℕ) → is_in bs q ≡ true → (without_all m bs).holdings.works q ≡ false
without-gone m [] q h = absurd (cc)
without-gone m (b ∷ bs) q h = elim (in_cases b q bs h) [
  | inl is ↦ without-idle (given_up m b) bs q (subst (λ x. (given_up m b).holdings.works x ≡ false) is (given_up-here m b))
  | inr later ↦ without-gone (given_up m b) bs q later
]

-- the blocks stay as long and as many
without-sizes : (m : BlockState) (bs : List ℕ) → ((without_all m bs).holdings.size ≡ m.holdings.size) × ((without_all m bs).holdings.count ≡ m.holdings.count)
without-sizes m [] = (refl, refl)
without-sizes m (b ∷ bs) =
    let rest : ((without_all (given_up m b) bs).holdings.size ≡ (given_up m b).holdings.size) × ((without_all (given_up m b) bs).holdings.count ≡ (given_up m b).holdings.count) = without-sizes (given_up m b) bs in
    let one : ((given_up m b).holdings.size ≡ m.holdings.size) × ((given_up m b).holdings.count ≡ m.holdings.count) = go (m.holdings.works b) (m.holdings.private b) in
    (rest.0 ∙ one.0, rest.1 ∙ one.1)
  where
    go : (w p : Bool) → ((if w then (if p then with_free m b else with_shared m b) else m).holdings.size ≡ m.holdings.size) × ((if w then (if p then with_free m b else with_shared m b) else m).holdings.count ≡ m.holdings.count)
    go true true = (refl, refl)
    go true false = (refl, refl)
    go false p = (refl, refl)

-- ---- the commit

module _ (m : BlockState) (p : Preparation) where
  -- the blocks stay as long
  pub committed-size : (committed m p).holdings.size ≡ m.holdings.size
  committed-size = (without-sizes (with_edits m p.work.edits) p.work.released).0 ∙ ap (λ h. h.size) (edits_holdings m p.work.edits)

  -- and as many
  pub committed-count : (committed m p).holdings.count ≡ m.holdings.count
  committed-count = (without-sizes (with_edits m p.work.edits) p.work.released).1 ∙ ap (λ h. h.count) (edits_holdings m p.work.edits)

  -- the working tree holds none of the blocks that are given up
  pub committed-gone : (q : ℕ) → is_in p.work.released q ≡ true → (committed m p).holdings.works q ≡ false
  committed-gone q gone = without-gone (with_edits m p.work.edits) p.work.released q gone

  module _ (q : ℕ) (stays : is_in p.work.released q ≡ false) where
    -- it holds the others as before
    pub committed-works : (committed m p).holdings.works q ≡ m.holdings.works q
    committed-works = (without-others (with_edits m p.work.edits) p.work.released q stays).works ∙ ap (λ h. h.works q) (edits_holdings m p.work.edits)

    -- and alone where it did
    pub committed-private : (committed m p).holdings.private q ≡ m.holdings.private q
    committed-private = (without-others (with_edits m p.work.edits) p.work.released q stays).private ∙ ap (λ h. h.private q) (edits_holdings m p.work.edits)

    -- which stay ready
    pub committed-ready : IsTrue (m.holdings.ready q) → IsTrue ((committed m p).holdings.ready q)
    committed-ready t = (without-others (with_edits m p.work.edits) p.work.released q stays).ready (subst (λ h. IsTrue (h.ready q)) (sym (edits_holdings m p.work.edits)) t)

    -- and keep their bytes, unless an edit is of them
    pub committed-bytes : ((e : EditState) → Contains p.work.edits e → e.block ≡ q → ⊥) → (committed m p).bytes q ≡ m.bytes q
    committed-bytes none = (without-others (with_edits m p.work.edits) p.work.released q stays).bytes ∙ edits-others m p.work.edits q none

    -- as it is of those that get other bytes
    pub committed-edit : (bytes : List ℕ) (f : EditState) → ((e : EditState) → Contains p.work.edits e → e.block ≡ q → e.bytes ≡ bytes) → Contains p.work.edits f → f.block ≡ q → (committed m p).bytes q ≡ bytes
    committed-edit bytes f same c is = (without-others (with_edits m p.work.edits) p.work.released q stays).bytes ∙ edits-bytes m p.work.edits q bytes f same c is
