-- Of the blocks that several changes took, those of the last one are given back.
use Rattle.std.proofs.Common.{◌≡◌, ℕ, List, [], ◌∷◌, ◌++◌, sym, ◌∙◌, ap, subst}
use Rattle.std.specs.Prelude.{true}
use Rattle.qx_geom.specs.Lists.{is_in}
use Rattle.qx_geom.proofs.Members.{in_left, in_right}
use Rattle.qx_blocks.specs.BlockState.{BlockState}
use Rattle.qx_ptree.specs.Takings.{LeavesOthers, Takes}
use Rattle.qx_ptree.proofs.OtherBlocks.{LeavesOthers-then, LeavesOthers-within}
use Rattle.qx_batch.specs.declared.batch.Waiting.{Waiting}
use Rattle.qx_batch.specs.Batches.{fresh_of}
use Rattle.qx_batch.proofs.PreparedBatches.{fresh_more}

-- the changes of `rest` wait still, and the blocks of all others were given back
pub record IsAbandoning (first now : BlockState) (ws rest : List Waiting) : Type 0 where
  pub back : (m : BlockState) → Takes (fresh_of ws) m first → Takes (fresh_of rest) m now
  pub among : (b : ℕ) → is_in (fresh_of rest) b ≡ true → is_in (fresh_of ws) b ≡ true
  pub leaves : LeavesOthers (fresh_of ws) first now

-- those of the last that waits are given back
pub abandoning_next : (first now new : BlockState) (ws items rest : List Waiting) (w : Waiting) → items ≡ rest ++ w ∷ []
    → ((m : BlockState) (others : List ℕ) → Takes (others ++ w.prep.work.fresh) m now → Takes others m new) → LeavesOthers w.prep.work.fresh now new
    → IsAbandoning first now ws items → IsAbandoning first new ws rest
abandoning_next first now new ws items rest w last back leaves a =
    let split : fresh_of items ≡ fresh_of rest ++ w.prep.work.fresh = ap fresh_of last ∙ fresh_more rest w in
    let among : (b : ℕ) → is_in (fresh_of rest ++ w.prep.work.fresh) b ≡ true → is_in (fresh_of ws) b ≡ true = λ b h. a.among b (subst (λ fs. is_in fs b ≡ true) (sym split) h) in
    record {
      back = λ m t. back m (fresh_of rest) (subst (λ fs. Takes fs m now) split (a.back m t));
      among = λ b h. among b (in_left (fresh_of rest) w.prep.work.fresh b h);
      leaves = LeavesOthers-then (fresh_of ws) first now new a.leaves
          (LeavesOthers-within w.prep.work.fresh (fresh_of ws) now new (λ b h. among b (in_right (fresh_of rest) w.prep.work.fresh b h)) leaves);
    }
