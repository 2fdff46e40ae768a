use Rattle.std.proofs.Common.{refl}
use Rattle.qx_patch.specs.declared.patch.Patch.TheInside.{Inside}
use Rattle.qx_patch.proofs.BlocksComeAndGo.{ordered-removed, view-removed, without-absent}
use Rattle.qx_patch.proofs.OrderedEntries.{StandsAt, absent-from, stands-from}
use Rattle.qx_patch.proofs.patch.Patch.take_out.Goals as goal

pub invariant_of-self : goal.invariant_of-self
invariant_of-self c =
    let s : StandsAt c.self.inside c.args.self.now c.args.b c.in-Some.at
    = stands-from c.self.inside c.args.self.now c.args.b c.in-Some.at c.self.inside.entries.items c.self.invariant c.self.view_is refl c.in-Some.ensures.there in
    let new : Inside = record { alloc = c.self.inside.alloc; size = c.self.inside.size; entries = c.remove_entry.new.entries; spares = c.remove_entry.new.spares } in
    ordered-removed c.self.inside new c.args.self.now c.args.b c.in-Some.at s
    (record { size = refl; pairs = c.remove_entry.ensures.pairs; kept = c.remove_entry.ensures.kept; entries_room = c.remove_entry.ensures.capacity.0; spares_room = c.remove_entry.ensures.capacity.1 })

pub returns-in-Some : goal.returns-in-Some
returns-in-Some c =
    let s : StandsAt c.self.inside c.args.self.now c.args.b c.in-Some.at
    = stands-from c.self.inside c.args.self.now c.args.b c.in-Some.at c.self.inside.entries.items c.self.invariant c.self.view_is refl c.in-Some.ensures.there in
    let new : Inside = record { alloc = c.self.inside.alloc; size = c.self.inside.size; entries = c.remove_entry.new.entries; spares = c.remove_entry.new.spares } in
    view-removed c.self.inside new c.args.self.now c.args.b c.in-Some.at s
    (record { size = refl; pairs = c.remove_entry.ensures.pairs; kept = c.remove_entry.ensures.kept; entries_room = c.remove_entry.ensures.capacity.0; spares_room = c.remove_entry.ensures.capacity.1 })

pub returns-in_default : goal.returns-in_default
returns-in_default c =
    without-absent c.args.self.now c.args.b
    (absent-from c.self.inside c.args.self.now c.args.b c.self.inside.entries.items c.self.view_is refl c.in_default.ensures.absent)
