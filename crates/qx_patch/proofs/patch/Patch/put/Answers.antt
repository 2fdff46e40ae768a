use Rattle.std.proofs.Common.{◌≡◌, length, refl, sym, ap, ◌∙◌, arith}
use Rattle.qx_patch.specs.declared.patch.Entry.{Entry}
use Rattle.qx_patch.specs.declared.patch.Patch.TheInside.{Inside}
use Rattle.qx_patch.proofs.BlocksComeAndGo.{ComesAt, Inserted, comes-from, has-room, ordered-inserted, view-changed, view-inserted}
use Rattle.qx_patch.proofs.OrderedEntries.{StandsAt, long-there, number-there, ordered-written, stands-from}
use Rattle.qx_patch.proofs.patch.Patch.put.Goals as goal

pub copy_from_slice-requires : goal.copy_from_slice-requires
copy_from_slice-requires c =
    let s : StandsAt c.self.inside c.args.self.now c.args.b c.in-Some.at
    = stands-from c.self.inside c.args.self.now c.args.b c.in-Some.at c.self.inside.entries.items c.self.invariant c.self.view_is refl c.in-Some.ensures.there in
    c.index_mut-entry.result.now.bytes.ok.0
    ∙ long-there c.self.inside c.args.self.now c.args.b c.in-Some.at c.index_mut-entry.result.now s c.index_mut-entry.ensures.value
    ∙ ap (λ p. p.size) c.self.view_is ∙ sym c.requires.long

pub invariant_of-self : goal.invariant_of-self
invariant_of-self c =
    let s : StandsAt c.self.inside c.args.self.now c.args.b c.in-Some.at
    = stands-from c.self.inside c.args.self.now c.args.b c.in-Some.at c.self.inside.entries.items c.self.invariant c.self.view_is refl c.in-Some.ensures.there in
    let entry : Entry = record { block = c.index_mut-entry.result.now.block; bytes = c.copy_from_slice.new.self } in
    ordered-written c.self.inside c.args.self.now c.args.b c.in-Some.at entry s
    (number-there c.self.inside c.args.self.now c.args.b c.in-Some.at c.index_mut-entry.result.now s c.index_mut-entry.ensures.value)
    (ap length c.copy_from_slice.ensures.items ∙ c.requires.long ∙ sym (ap (λ p. p.size) c.self.view_is))

pub returns-in-Some : goal.returns-in-Some
returns-in-Some c =
    let s : StandsAt c.self.inside c.args.self.now c.args.b c.in-Some.at
    = stands-from c.self.inside c.args.self.now c.args.b c.in-Some.at c.self.inside.entries.items c.self.invariant c.self.view_is refl c.in-Some.ensures.there in
    let entry : Entry = record { block = c.index_mut-entry.result.now.block; bytes = c.copy_from_slice.new.self } in
    view-changed c.self.inside c.args.self.now c.args.b c.in-Some.at entry c.args.bytes.now s
    (number-there c.self.inside c.args.self.now c.args.b c.in-Some.at c.index_mut-entry.result.now s c.index_mut-entry.ensures.value)
    c.copy_from_slice.ensures.items

pub insert_entry-requires-clause-buffer : goal.insert_entry-requires-clause-buffer
insert_entry-requires-clause-buffer c =
    let s : ComesAt c.self.inside c.args.self.now c.args.b c.first_from-at.result
    = comes-from c.self.inside c.args.self.now c.args.b c.first_from-at.result c.self.inside.entries.items c.self.inside.entries.items c.self.invariant c.self.view_is
    refl refl c.in-None.ensures.absent c.first_from-at.ensures.within c.first_from-at.ensures.below c.first_from-at.ensures.above in
    has-room c.self.inside c.args.self.now c.args.b c.first_from-at.result s c.requires.room

pub insert_entry-requires-clause-room : goal.insert_entry-requires-clause-room
insert_entry-requires-clause-room c =
    let s : ComesAt c.self.inside c.args.self.now c.args.b c.first_from-at.result
    = comes-from c.self.inside c.args.self.now c.args.b c.first_from-at.result c.self.inside.entries.items c.self.inside.entries.items c.self.invariant c.self.view_is
    refl refl c.in-None.ensures.absent c.first_from-at.ensures.within c.first_from-at.ensures.below c.first_from-at.ensures.above in
    omega (arith, has-room c.self.inside c.args.self.now c.args.b c.first_from-at.result s c.requires.room, c.self.invariant.entries_room)

pub invariant_of-self-in-None : goal.invariant_of-self-in-None
invariant_of-self-in-None c =
    let s : ComesAt c.self.inside c.args.self.now c.args.b c.first_from-at.result
    = comes-from c.self.inside c.args.self.now c.args.b c.first_from-at.result c.self.inside.entries.items c.self.inside.entries.items c.self.invariant c.self.view_is
    refl refl c.in-None.ensures.absent c.first_from-at.ensures.within c.first_from-at.ensures.below c.first_from-at.ensures.above in
    let new : Inside = record { alloc = c.self.inside.alloc; size = c.self.inside.size; entries = c.insert_entry.new.entries; spares = c.insert_entry.new.spares } in
    let long : length c.args.bytes.now ≡ c.self.inside.size = c.requires.long ∙ sym (ap (λ p. p.size) c.self.view_is) in
    let n : Inserted c.self.inside c.first_from-at.result c.args.b c.args.bytes.now new
    = record { size = refl; long = long; pairs = c.insert_entry.ensures.pairs; count = c.insert_entry.ensures.count; others = c.insert_entry.ensures.others; entries_room = c.insert_entry.ensures.capacity.0; spares_room = c.insert_entry.ensures.capacity.1 } in
    ordered-inserted c.self.inside new c.args.self.now c.args.b c.first_from-at.result c.args.bytes.now s n

pub returns-in-None : goal.returns-in-None
returns-in-None c =
    let s : ComesAt c.self.inside c.args.self.now c.args.b c.first_from-at.result
    = comes-from c.self.inside c.args.self.now c.args.b c.first_from-at.result c.self.inside.entries.items c.self.inside.entries.items c.self.invariant c.self.view_is
    refl refl c.in-None.ensures.absent c.first_from-at.ensures.within c.first_from-at.ensures.below c.first_from-at.ensures.above in
    let new : Inside = record { alloc = c.self.inside.alloc; size = c.self.inside.size; entries = c.insert_entry.new.entries; spares = c.insert_entry.new.spares } in
    let long : length c.args.bytes.now ≡ c.self.inside.size = c.requires.long ∙ sym (ap (λ p. p.size) c.self.view_is) in
    let n : Inserted c.self.inside c.first_from-at.result c.args.b c.args.bytes.now new
    = record { size = refl; long = long; pairs = c.insert_entry.ensures.pairs; count = c.insert_entry.ensures.count; others = c.insert_entry.ensures.others; entries_room = c.insert_entry.ensures.capacity.0; spares_room = c.insert_entry.ensures.capacity.1 } in
    view-inserted c.self.inside new c.args.self.now c.args.b c.first_from-at.result c.args.bytes.now s n
