-- A planned change takes fresh blocks where the edit does.
use Rattle.std.proofs.Common.{◌≡◌, ℕ, sym, ◌∙◌}
use Rattle.std.specs.Prelude.{Bool, List, Contains}
use Rattle.qx_fields.specs.declared.order.Order.{Order}
use Rattle.qx_geom.specs.Lists.{is_in}
use Rattle.qx_geom.specs.Positions.{HasPosition}
use Rattle.qx_geom.specs.Touch.{is_fresh, need_of}
use Rattle.qx_nodes.specs.Visits.{Visit, visits_of}
use Rattle.qx_blocks.specs.BlockState.{BlockState}
use Rattle.qx_ptree.specs.Alterations.{Alteration, fresh_count}
use Rattle.qx_ptree.specs.Altered.{takes_fresh}
use Rattle.qx_ptree.specs.Fates.{written_by}
use Rattle.qx_ptree.specs.Trees.{IsToldNode, block_map, pointer_at}
use Rattle.qx_ptree.proofs.NodePositions.{position_met}
use Rattle.qx_batch.specs.declared.planned.Planned.{Planned}
use Rattle.qx_batch.specs.Nodes.{Nodes}
use Rattle.qx_batch.specs.Plans.{plan_alteration}
use Rattle.qx_model.specs.Edits.{Edit}
use Rattle.qx_model.specs.Owners.{Owner}
use Rattle.qx_model.specs.Tree.{Tree}
use Rattle.qx_model.specs.TreePositions.{Position, shape_in}
use Rattle.qx_model.specs.TreeTouch.{private_in, written_in}
use Rattle.qx_copies.specs.Copies.{BlockCopy}
use Rattle.qx_placing.specs.PlannedEdits.{ArePrivate, PlansEdit, owner_of_number}
use Rattle.qx_placing.proofs.AlikeTouch.{fresh_alike, need_alike}
use Rattle.qx_placing.proofs.NodeShapes.{meets_there, number_owner, shape_before}

module _ (order : Order) (m : BlockState) (c : BlockCopy) (t : Tree) (nodes : Nodes) (ps : List Planned) (e : Edit) (private : Position → Bool) (pl : PlansEdit order m c t nodes ps e) (are : ArePrivate order m c private) where
  module _ (p : Planned) (there : Contains ps p) where
    abbrev o : Owner
    o = owner_of_number p.owner

    abbrev a : Alteration
    a = plan_alteration order m p

    told : IsToldNode order m p.node
    told = pl.laid.node p.owner p.node (pl.planned.is p there)

    old_same : a.old ≡ shape_in m.holdings.size t o
    old_same = sym (shape_before order m c t nodes pl.tree pl.laid pl.has p.owner p.node (pl.planned.is p there))

    new_same : a.new ≡ shape_in m.holdings.size e.tree o
    new_same = sym (pl.made.shapes p there)

    written_same : (i : ℕ) → is_in (written_by p.change) i ≡ is_in (written_in o e.written) i
    written_same i = sym (pl.made.written p there i)

    -- the blocks at its positions are private where the tree's are
    private_same : (k j : ℕ) → HasPosition m.holdings.size a.old k j → a.private k j ≡ private_in private o k j
    private_same k j has =
        let v : Visit = record { level = k; index = j; block = pointer_at (block_map order m) p.node k j } in
        let met : Contains (visits_of (block_map order m) p.node) v = position_met order m p.node told k j has in
        are (record { owner = o; level = k; index = j }) v.block
        (record { node = p.node; is = number_owner c p.owner ∙ meets_there order m c t nodes pl.tree pl.laid pl.has p.owner p.node v (pl.planned.is p there) met; met = met })

    -- a position takes a fresh block in the change where it does in the edit
    pub fresh_same : (k j : ℕ) → takes_fresh a k j ≡ is_fresh m.holdings.size (shape_in m.holdings.size t o) (shape_in m.holdings.size e.tree o) (written_in o e.written) (private_in private o) k j
    fresh_same k j =
        fresh_alike m.holdings.size a.old a.new (shape_in m.holdings.size t o) (shape_in m.holdings.size e.tree o) a.written (written_in o e.written) a.private (private_in private o) k j old_same new_same written_same (private_same k j)

    -- so it needs as many
    pub count_same : fresh_count a ≡ need_of m.holdings.size (shape_in m.holdings.size t o) (shape_in m.holdings.size e.tree o) (written_in o e.written) (private_in private o)
    count_same = need_alike m.holdings.size a.old a.new (shape_in m.holdings.size t o) (shape_in m.holdings.size e.tree o) a.written (written_in o e.written) a.private (private_in private o) old_same new_same written_same private_same
