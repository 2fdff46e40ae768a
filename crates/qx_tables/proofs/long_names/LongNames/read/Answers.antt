use Rattle.std.proofs.Common.{◌≡◌, sym, ◌∙◌, ap, get_or}
use Rattle.std.specs.Prelude.{Contains, true}
use Rattle.qx_geom.specs.Layout.{is_block_size}
use Rattle.qx_nodes.specs.BlockMap.{BlockMap}
use Rattle.qx_records.specs.NameRecord.{long_name_in}
use Rattle.qx_tables.specs.declared.long_names.LongLeaf.{LongLeaf}
use Rattle.qx_tables.proofs.LongLeaves.{held_ascend, name_held, no_name_held}
use Rattle.qx_tables.proofs.long_names.LongNames.read.Goals as goal

pub returns-in_default-clause-name : goal.returns-in_default-clause-name
returns-in_default-clause-name g c = λ m longfile numbers s h.
    let sized : is_block_size m.size ≡ true = ap (λ (b : BlockMap). is_block_size b.size) s.is ∙ c.args.shape.sized in
    sym (no_name_held m longfile numbers c.args.self.now c.args.number sized h (c.in_default.ensures.none (held_ascend m longfile numbers c.args.self.now h)))

pub returns-clause-name : goal.returns-clause-name
returns-clause-name g c = λ m longfile numbers s h.
    let sized : is_block_size m.size ≡ true = ap (λ (b : BlockMap). is_block_size b.size) s.is ∙ c.args.shape.sized in
    let leaf = c.index.result.now in
    let stood : get_or c.args.self.now.leaves.items c.in-Some.place leaf ≡ leaf = sym c.index.ensures in
    let there : Contains c.args.self.now.leaves.items leaf = (c.in-Some.place, c.in-Some.ensures.inside, stood) in
    c.read.ensures.name
    ∙ ap (long_name_in c.args.shape.order) (c.in_ok-read_block.ensures.bytes m s)
    ∙ ap (λ order. long_name_in order (m.bytes leaf.place.block)) (sym (ap (λ (b : BlockMap). b.order) s.is))
    ∙ sym (name_held m longfile numbers c.args.self.now c.args.number leaf sized h there (ap (λ (l : LongLeaf). l.place.index) (sym stood) ∙ c.in-Some.ensures.found leaf))
