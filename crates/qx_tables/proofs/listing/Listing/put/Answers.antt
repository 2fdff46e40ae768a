use Rattle.std.proofs.Common.{◌≡◌, refl, sym, ◌∙◌}
use Rattle.std.specs.Prelude.{false}
use Rattle.qx_geom.specs.Lists.{is_in}
use Rattle.qx_tables.proofs.ListedInodes.{one_listed}
use Rattle.qx_tables.proofs.listing.Listing.put.Goals as goal

pub returns-clause-listed : goal.returns-clause-listed
returns-clause-listed c = λ left listed h.
    let absent : is_in listed c.args.n ≡ false = sym (h.each c.args.n c.requires.positive c.requires.there) ∙ sym c.has.ensures ∙ c.if-has.false in
    one_listed c.args.self.now _ (record { inode = c.args.n; parent = c.args.parent }) left listed h c.requires.positive c.requires.there absent refl c.in-Ok.ensures.items c.insert.ensures
