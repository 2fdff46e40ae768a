use Rattle.std.proofs.Common.{[], refl}
use Rattle.qx_tables.proofs.ListedInodes.{none_listed, none_listing}
use Rattle.qx_tables.proofs.listing.Listing.new.Goals as goal

pub returns-clause-listed : goal.returns-clause-listed
returns-clause-listed c = c.in_ok-put.ensures.listed [] [] (none_listed _ c.args.places c.new-2.ensures.items refl c.in_ok-new.ensures)

pub returns-clause-listing : goal.returns-clause-listing
returns-clause-listing c = c.in_ok-put.ensures.listing c.args.places (none_listing _ c.args.places c.new-2.ensures.items refl c.in_ok-new.ensures)
