-- What a turn does to the ids of the working copy.
use Rattle.std.specs.Prelude.{◌≡◌, ◌≤◌, Bool, Ok}
use Rattle.qx_model.specs.declared.operation.Op.{Op}
use Rattle.qx_model.specs.declared.turn.Act.TheVariants as act
use Rattle.qx_model.specs.declared.turn.VolEvent.{VolEvent}
use Rattle.qx_model.specs.Edits.{Edit}
use Rattle.qx_model.specs.Effects.{Edits}
use Rattle.qx_model.specs.Operate.{operate}
use Rattle.qx_model.specs.TreePositions.{HasPosition, Position}
use Rattle.qx_model.specs.TreeTouch.{TakesFresh}
use Rattle.qx_model.specs.Machine.{Copy, Machine, setting_of}
use Rattle.qx_model.specs.Space.{is_private}
use Rattle.qx_model.specs.Snapshots.{after_moves}
use Rattle.qx_model.specs.Next.{Faults, plan_under}

-- a copy has new ids exactly where an edit of the machine's working tree takes fresh blocks, and the working ids elsewhere
pub record HasRenewedIds (s : Machine) (e : Edit) (private : Position → Bool) (c : Copy) : Type 0 where
  pub tree : c.tree ≡ e.tree
  pub fresh : (p : Position) → TakesFresh s.volume.blocksize s.working.tree e private p → s.next_id ≤ c.ids p
  pub kept : (p : Position) → HasPosition s.volume.blocksize e.tree p → ¬ (TakesFresh s.volume.blocksize s.working.tree e private p)
      → HasPosition s.volume.blocksize s.working.tree p × (c.ids p ≡ s.working.ids p)

-- the machine at which the act of a turn ends: after all moves of its plan
abbrev pub act_end : Faults → Machine → VolEvent → Machine
act_end f s e = let p = plan_under f s e in after_moves e.moment p.from p.moves

-- the working copy after a turn: as it was; or with the ids of an operation's edit, blocks being private as they are where the act ends
pub data IsWorkingAfter (f : Faults) (s : Machine) (e : VolEvent) (c : Copy) : Type 0 where
  as_before : c ≡ s.working → IsWorkingAfter f s e c
  edited : (o : Op) (is_removing : Bool) (x : Edit) → e.act ≡ act.Op o → operate (setting_of s e.session e.moment) s.working.tree o ≡ Ok (Edits is_removing x)
      → HasRenewedIds s x (is_private (act_end f s e)) c → IsWorkingAfter f s e c
