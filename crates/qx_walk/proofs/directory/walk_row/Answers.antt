use Rattle.std.proofs.Common.{◌≡◌, ℕ, sym, ◌∙◌, ap, subst}
use Rattle.std.specs.Prelude.{Some, true, not, is_some, ◌&&◌, nat_lt, ◌/◌, ◌^◌, ◌-◌, ◌≤◌, if◌then◌else◌}
use Rattle.std.proofs.lemmas.Bool.{eq-eqb, le-leb}
use Rattle.qx_geom.specs.Lists.{is_in}
use Rattle.qx_records.specs.InodeRecord.{kind_of}
use Rattle.qx_records.specs.declared.inode.Inode.{Inode}
use Rattle.qx_view.specs.Walk.{inode_mode, is_directory_kind}
use Rattle.qx_tables.specs.Tables.{inode_at}
use Rattle.qx_walk.proofs.ListedInodes.{lists_more}
use Rattle.qx_walk.proofs.RowTests.{walks_again, walks_dots, walks_row}
use Rattle.qx_walk.specs.Rows.{record_place}
use Rattle.qx_walk.proofs.directory.walk_row.Goals as goal

-- how many places there are, by the size of the Inode tree
abbrev places_at : ℕ → ℕ
places_at size = if nat_lt (size / 128) (2 ^ 32) then size / 128 else 2 ^ 32 - 1

pub returns-then-is_again-clause-walked : goal.returns-then-is_again-clause-walked
returns-then-is_again-clause-walked c = λ m r kept i h.
    let n : ℕ = c.args.inode in
    let same : places_at c.args.ground.now.table.size ≡ places_at r.inodes.size = ap places_at i.size in
    let kind : kind_of (inode_mode m r n) ≡ Some c.in-Some.kind = ap (λ (x : Inode). kind_of x.mode) (sym (c.inode.ensures.shown m r.inodes i)) ∙ sym c.of.ensures ∙ c.in-Some.is in
    walks_again m r (record_place c.args.at) n c.args.name.now kept _ c.found-then-is_again.result c.found-then-is_again.ensures
    (sym c.is_plain.ensures ∙ c.if-not-is_plain.false) (sym (c.in_ok-add.ensures.new kept.names h.names) ∙ c.if-not-branch.false) (sym c.is_dots.ensures ∙ c.if-is_dots.false)
    (le-leb _ _ (subst (λ z. n ≤ z) (c.places.ensures ∙ same) c.if-inode-places.false))
    (ap is_some kind)
    (ap (λ k. not (is_directory_kind k && is_in kept.listed n)) kind ∙ ap not (sym (c.is_again.ensures kept.queue kept.listed h.listing) ∙ c.if-is_again.true))

pub returns-clause-listing : goal.returns-clause-listing
returns-clause-listing c = c.put.ensures.listing _ c.requires.listing

pub returns-clause-listed : goal.returns-clause-listed
returns-clause-listed c =
    let kind : is_some (kind_of (inode_at c.args.ground.now.table c.args.inode).mode) ≡ true = ap (λ (x : Inode). is_some (kind_of x.mode)) (sym c.inode.ensures.own) ∙ ap is_some (sym c.of.ensures ∙ c.in-Some.is) in
    lists_more c.args.ground.now _ _ (record { inode = c.args.inode; parent = c.args.at.inode }) c.put.ensures.queue kind c.requires.there c.requires.listed

pub returns-then-is_dots-clause-walked : goal.returns-then-is_dots-clause-walked
returns-then-is_dots-clause-walked c = λ m r kept i h.
    walks_dots m r (record_place c.args.at) c.args.inode c.args.name.now kept _ tt (sym c.is_plain.ensures ∙ c.if-not-is_plain.false) (sym (c.in_ok-add.ensures.new kept.names h.names) ∙ c.if-not-branch.false)
    (sym c.is_dots.ensures ∙ c.if-is_dots.true) (eq-eqb _ _ (c.if-inode-wanted.false ∙ c.wanted.ensures)) (c.in_ok-add.ensures.names kept.names h.names) h.listing h.longs

pub returns-clause-walked : goal.returns-clause-walked
returns-clause-walked c = λ m r kept i h.
    let n : ℕ = c.args.inode in
    let same : places_at c.args.ground.now.table.size ≡ places_at r.inodes.size = ap places_at i.size in
    let kind : kind_of (inode_mode m r n) ≡ Some c.in-Some.kind = ap (λ (x : Inode). kind_of x.mode) (sym (c.inode.ensures.shown m r.inodes i)) ∙ sym c.of.ensures ∙ c.in-Some.is in
    walks_row m r (record_place c.args.at) n c.args.name.now kept _ c.put.result (sym c.is_plain.ensures ∙ c.if-not-is_plain.false) (sym (c.in_ok-add.ensures.new kept.names h.names) ∙ c.if-not-branch.false)
    (sym c.is_dots.ensures ∙ c.if-is_dots.false)
    (le-leb _ _ (subst (λ z. n ≤ z) (c.places.ensures ∙ same) c.if-inode-places.false))
    (ap is_some kind)
    (ap (λ k. not (is_directory_kind k && is_in kept.listed n)) kind ∙ ap not (sym (c.is_again.ensures kept.queue kept.listed h.listing) ∙ c.if-is_again.false))
    c.put.ensures.no_fault (c.in_ok-add.ensures.names kept.names h.names) (c.put.ensures.listed kept.queue kept.listed h.listing) h.longs
