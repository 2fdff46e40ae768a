-- Blocks that are to get other bytes, once they have got them.
use Rattle.std.proofs.Common.{◌≡◌, ℕ, inl, inr, List, [], ◌∷◌, refl, sym, ◌∙◌, ap, arith}
use Rattle.std.specs.Prelude.{Bool, true, false, ◌==◌, if◌then◌else◌, Contains}
use Rattle.std.proofs.lemmas.Bool.{eq-eqb, eqb-true}
use Rattle.qx_geom.proofs.Members.{Contains-cases, Contains-cons, Contains-head}
use Rattle.qx_blocks.specs.BlockState.{BlockState, put, with_bytes}
use Rattle.qx_ptree.specs.WorkState.{EditState, with_edits}

-- who holds the blocks stays
pub edits_holdings : (m : BlockState) (es : List EditState) → (with_edits m es).holdings ≡ m.holdings
edits_holdings m [] = refl
edits_holdings m (e ∷ es) = edits_holdings (with_bytes m e.block e.bytes) es

-- a block that has certain bytes, or gets them, has them afterwards
put_keeps : (f : ℕ → List ℕ) (b q : ℕ) (x y : List ℕ) → f q ≡ x → (b ≡ q → y ≡ x) → put f b y q ≡ x
put_keeps f b q x y was comes = go (q == b) refl
  where
    go : (t : Bool) → (q == b) ≡ t → (if t then y else f q) ≡ x
    go true e = comes (sym (eqb-true q b e))
    go false e = was

-- so after all edits
edits_keep : (m : BlockState) (es : List EditState) (q : ℕ) (x : List ℕ) → m.bytes q ≡ x → ((e : EditState) → Contains es e → e.block ≡ q → e.bytes ≡ x) → (with_edits m es).bytes q ≡ x
edits_keep m [] q x was all = was
edits_keep m (e ∷ es) q x was all =
    edits_keep (with_bytes m e.block e.bytes) es q x (put_keeps m.bytes e.block q x e.bytes was (all e (Contains-head e es))) (λ f c. all f (Contains-cons e f es c))

-- an edited block has its bytes
pub edits_give : (m : BlockState) (es : List EditState) (e : EditState) → Contains es e → ((f : EditState) → Contains es f → f.block ≡ e.block → f.bytes ≡ e.bytes) → (with_edits m es).bytes e.block ≡ e.bytes
edits_give m [] e c all = absurd (omega (arith, c.1))
edits_give m (f ∷ es) e c all = elim (Contains-cases f e es c) [
  | inl is ↦ edits_keep (with_bytes m f.block f.bytes) es e.block e.bytes
      (let same : e.block ≡ f.block = ap (λ (g : EditState). g.block) (sym is) in
      ap (λ t. if t then f.bytes else m.bytes e.block) (eq-eqb e.block f.block same) ∙ ap (λ (g : EditState). g.bytes) is)
      (λ g h. all g (Contains-cons f g es h))
  | inr rest ↦ edits_give (with_bytes m f.block f.bytes) es e rest (λ g h. all g (Contains-cons f g es h))
]
