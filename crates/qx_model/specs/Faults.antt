-- Turns that tell of a fault, and those that refuse.
use Rattle.std.specs.Prelude.{Bool, true, false, ◌||◌}
use Rattle.std.specs.List.{list_any}
use Rattle.qx_model.specs.declared.reply.Reply.{Reply}
use Rattle.qx_model.specs.declared.reply.Reply.TheVariants as reply
use Rattle.qx_model.specs.declared.refusal.Refusal.{Refusal}
use Rattle.qx_model.specs.declared.refusal.Refusal.TheVariants as refusal
use Rattle.qx_model.specs.declared.notices.Notice.{Notice}
use Rattle.qx_model.specs.declared.notices.Notice.TheVariants as notice
use Rattle.qx_model.specs.declared.turn.Turn.{Turn}

-- a notice of a fault
abbrev pub is_fault_notice : Notice → Bool
is_fault_notice (notice.Snapshot serial) = false
is_fault_notice notice.Device = true
is_fault_notice notice.Memory = true

-- a refusal for a fault
abbrev pub is_fault_refusal : Refusal → Bool
is_fault_refusal refusal.Device = true
is_fault_refusal refusal.NoMemory = true
is_fault_refusal _ = false

-- a reply that tells of a fault
abbrev pub is_fault_reply : Reply → Bool
is_fault_reply (reply.Refused r) = is_fault_refusal r
is_fault_reply _ = false

-- a turn tells that something failed outside
abbrev pub tells_of_fault : Turn → Bool
tells_of_fault t = is_fault_reply t.reply || list_any is_fault_notice t.notices

-- a reply that refuses
abbrev pub is_refused : Reply → Bool
is_refused (reply.Refused r) = true
is_refused _ = false
