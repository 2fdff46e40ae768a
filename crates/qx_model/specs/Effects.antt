-- What an operation comes to that isn't refused.
use Rattle.std.specs.Prelude.{Bool, true, false}
use Rattle.qx_model.specs.declared.reply.Reply.{Reply}
use Rattle.qx_model.specs.declared.reply.Reply.TheVariants as reply
use Rattle.qx_model.specs.Edits.{Edit}

-- an answer that changes nothing; or the tree is edited, and the answer is done
pub data Effect : Type 0 where
  Answers : Reply → Effect
  -- a removing one may take the blocks of the reserve
  Edits : (is_removing : Bool) → Edit → Effect

-- done, with an edit that leaves the reserve free
abbrev pub done : Edit → Effect
done e = Edits false e

-- done, with an edit that removes, and so may take from it
abbrev pub removed : Edit → Effect
removed e = Edits true e

-- what is answered
abbrev pub effect_reply : Effect → Reply
effect_reply (Answers r) = r
effect_reply (Edits is_removing e) = reply.Done
