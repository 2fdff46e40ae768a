-- The text of a last turn, by its status.
use Rattle.std.proofs.Common.{◌≡◌, ◌++◌, refl, ap, ◌∙◌, arith}
use Rattle.std.specs.Prelude.{codes, flat_map}
use Rattle.std.specs.Fmt.{digits}
use Rattle.qx_model.specs.declared.refusal.Refusal.{Refusal}
use Rattle.qx_model.specs.declared.refusal.Refusal.TheVariants as refusal
use Rattle.qx_model.specs.declared.reply.Reply.{Reply}
use Rattle.qx_model.specs.declared.reply.Reply.TheVariants as reply
use Rattle.qx_model.specs.declared.turn.Turn.{Turn}
use Rattle.qx_words.specs.Texts.{last_reply_text, last_text, notice_text, refusal_text}
use Rattle.qx_shell.specs.Ends.{IsRefusedStatus, IsStatusOf}
use Rattle.qx_shell.proofs.RunEnds.{done_by_status}

-- a refusal that gives status 3 is that of the device
device_refusal : (r : Refusal) → IsRefusedStatus r 3 → r ≡ refusal.Device
device_refusal refusal.Device h = refl
device_refusal refusal.NoMemory h = absurd (omega (arith, h))
device_refusal r h = absurd h

-- and one that gives 5 is that for want of memory
memory_refusal : (r : Refusal) → IsRefusedStatus r 5 → r ≡ refusal.NoMemory
memory_refusal refusal.NoMemory h = refl
memory_refusal refusal.Device h = absurd (omega (arith, h))
memory_refusal r h = absurd h

device_reply : (r : Reply) → IsStatusOf r 3 → r ≡ reply.Refused refusal.Device
device_reply reply.Done h = absurd (omega (arith, h))
device_reply (reply.Refused r) h = ap (λ x. reply.Refused x) (device_refusal r h)
device_reply r h = absurd h

memory_reply : (r : Reply) → IsStatusOf r 5 → r ≡ reply.Refused refusal.NoMemory
memory_reply reply.Done h = absurd (omega (arith, h))
memory_reply (reply.Refused r) h = ap (λ x. reply.Refused x) (memory_refusal r h)
memory_reply r h = absurd h

-- done: the notices alone
pub done_text : (turn : Turn) → IsStatusOf turn.reply 0 → last_text turn ≡ flat_map notice_text turn.notices
unfolding last_text
done_text turn h = ap (λ r. last_reply_text r ++ flat_map notice_text turn.notices) (done_by_status turn.reply h)

device_line : refusal_text refusal.Device ≡ codes "error 16 Device\n"
unfolding refusal_text digits
device_line = refl

memory_line : refusal_text refusal.NoMemory ≡ codes "error 17 NoMemory\n"
unfolding refusal_text digits
memory_line = refl

-- stopped by the device, or for want of memory: a line says so first
pub device_text : (turn : Turn) → IsStatusOf turn.reply 3 → last_text turn ≡ codes "error 16 Device\n" ++ flat_map notice_text turn.notices
unfolding last_text
device_text turn h = ap (λ r. last_reply_text r ++ flat_map notice_text turn.notices) (device_reply turn.reply h) ∙ ap (λ x. x ++ flat_map notice_text turn.notices) device_line

pub memory_text : (turn : Turn) → IsStatusOf turn.reply 5 → last_text turn ≡ codes "error 17 NoMemory\n" ++ flat_map notice_text turn.notices
unfolding last_text
memory_text turn h = ap (λ r. last_reply_text r ++ flat_map notice_text turn.notices) (memory_reply turn.reply h) ∙ ap (λ x. x ++ flat_map notice_text turn.notices) memory_line
