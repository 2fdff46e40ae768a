-- What a host tells of the outside, and what it counts.
use Rattle.std.specs.Prelude.{ℕ, Bool, List, Option}
use Rattle.qx_outside.specs.declared.event.Attachment.{Attachment}
use Rattle.qx_outside.specs.Trail.{History}

pub record Outside : Type 0 where
  -- whether it tells its history: a real file does not
  pub tells : Bool
  -- the bytes at the start and what was done since, where it tells
  pub history : History
  -- the device's length in bytes, where told
  pub extent : Option ℕ
  -- what was asked to be attached, the newest first, where told
  pub attached : Option (List Attachment)
  -- how many device reads were Ok, where told
  pub dev_reads : Option ℕ
  -- how often a call of the device failed, and one of the console or the clock: neither falls
  pub dev_faults : ℕ
  pub con_faults : ℕ
