use Rattle.std.proofs.Common.{ℕ, ◌≤◌, List, length, replicate, arith}
use Rattle.std.proofs.lemmas.List.{length-replicate}
use Rattle.qx_geom.specs.declared.geometry.Geometry.{Geometry}
use Rattle.qx_geom.specs.Layout.{IsGeometry}
use Rattle.qx_fields.specs.declared.order.Order.{Order}
use Rattle.qx_make.specs.Stages.{with_areas, with_blocks}
use Rattle.qx_make.proofs.AreaPuts.{length-areas}
use Rattle.qx_make.proofs.BlockPuts.{length-blocks}
use Rattle.qx_make.proofs.VolumeStages.{clearing_fails, filling_fails, supers_end}
use Rattle.qx_make.proofs.making.write_volume.Goals as goal

-- an area of zeros is no longer than its area
area_zeros_short : length {A = ℕ} (replicate 4096 0) ≤ 4096
area_zeros_short = omega (arith, length-replicate {A = ℕ} 4096 0)

-- the lengths on the way
areas_long : (g : Geometry) → IsGeometry g → (bytes : List ℕ) → g.len4 ≤ length bytes → g.len4 ≤ length (with_areas g bytes)
areas_long g e bytes long = omega (arith, length-areas g e (replicate 4096 0) (replicate 4096 0) area_zeros_short area_zeros_short bytes long)

blocks_long : (g : Geometry) → IsGeometry g → (order : Order) (moment : ℕ) (bytes : List ℕ) → g.len4 ≤ length bytes → g.len4 ≤ length (with_blocks g order moment bytes)
blocks_long g e order moment bytes long = omega (arith, length-blocks g e order moment bytes long)

pub returns-in_err-put_into_areas-clause-stages : goal.returns-in_err-put_into_areas-clause-stages
returns-in_err-put_into_areas-clause-stages g c = λ bytes long.
    clearing_fails c.args.volume.now.geometry c.args.volume.now.order c.args.volume.now.moment bytes c.put_into_areas.result c.from_residual.result (g.D.Dev.outside c.args.host.now) (g.D.Dev.outside c.put_into_areas.new.host) c.from_residual.ensures.0 (c.put_into_areas.ensures.stage bytes long)

pub returns-in_err-write_blocks-clause-stages : goal.returns-in_err-write_blocks-clause-stages
returns-in_err-write_blocks-clause-stages g c = λ bytes long.
    let v = c.args.volume.now in
    filling_fails v.geometry v.order v.moment bytes tt c.write_blocks.result c.from_residual-in_err-write_blocks.result (g.D.Dev.outside c.args.host.now) (g.D.Dev.outside c.put_into_areas.new.host) (g.D.Dev.outside c.write_blocks.new.host) c.from_residual-in_err-write_blocks.ensures.0
    (c.in_ok-put_into_areas.ensures.stage bytes long)
    (c.write_blocks.ensures.stage (with_areas v.geometry bytes) (areas_long v.geometry c.requires.geometry bytes long))

pub returns-clause-stages : goal.returns-clause-stages
returns-clause-stages g c = λ bytes long.
    let v = c.args.volume.now in
    let cleared = areas_long v.geometry c.requires.geometry bytes long in
    let filled = blocks_long v.geometry c.requires.geometry v.order v.moment (with_areas v.geometry bytes) cleared in
    supers_end v.geometry v.order v.moment bytes tt tt c.write_supers.result (g.D.Dev.outside c.args.host.now) (g.D.Dev.outside c.put_into_areas.new.host) (g.D.Dev.outside c.write_blocks.new.host) (g.D.Dev.outside c.write_supers.new.host)
    (c.in_ok-put_into_areas.ensures.stage bytes long)
    (c.in_ok-write_blocks.ensures.stage (with_areas v.geometry bytes) cleared)
    (c.write_supers.ensures.stage (with_blocks v.geometry v.order v.moment (with_areas v.geometry bytes)) filled)
