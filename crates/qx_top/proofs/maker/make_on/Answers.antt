use Rattle.std.proofs.Common.{◌≡◌, ℕ, ap, ◌∙◌, subst, rules, Ok}
use Rattle.qx_outside.specs.Causes.{Rose}
use Rattle.qx_geom.specs.declared.geometry.Geometry.{Geometry}
use Rattle.qx_make.specs.declared.options.Made.{Made as Numbers}
use Rattle.qx_make.specs.declared.options.MakeOptions.{MakeOptions}
use Rattle.qx_make.specs.Make.{geometry_for}
use Rattle.qx_top.specs.declared.lines.Line.TheVariants.{DeviceFault, Made}
use Rattle.qx_top.specs.declared.sizes.VolumeOptions.{VolumeOptions}
use Rattle.qx_top.specs.Says.{Says, code_of}
use Rattle.qx_top.specs.Sizes.{options_of, volume_of}
use Rattle.qx_top.specs.Volumes.{with_moment}
use Rattle.qx_top.proofs.MakerRuns.{IsUnderway, attached_first, fails_by_device, made_next, made_of_start, safe_at_the_end, safe_without_moment, says_fault, says_made}
use Rattle.qx_top.proofs.maker.make_on.Given.{Over}
use Rattle.qx_top.proofs.maker.make_on.Goals as goal

pub returns-in_default-clause-any_moment : goal.returns-in_default-clause-any_moment
returns-in_default-clause-any_moment g c = λ vol is. safe_without_moment c.args.options.now (g.H.Dev.outside c.args.host.now) (g.H.Dev.outside c.now.new.self) (search rules)

-- ---- where the attach failed

-- a device call of the attach failed
attach_failed : (g : Over) (c : goal.After-say g) → Rose (g.H.Dev.outside c.args.host.now).dev_faults (g.H.Dev.outside c.say.new.host).dev_faults
attach_failed g c = search rules

first : (g : Over) (c : goal.After-say g) → IsUnderway c.args.image.now c.args.options.now c.in-Ok.moment (g.H.Dev.outside c.args.host.now) (g.H.Dev.outside c.attach.new.self)
first g c = attached_first c.args.image.now c.args.options.now c.in-Ok.moment (g.H.Dev.outside c.args.host.now) (g.H.Dev.outside c.now.new.self) (g.H.Dev.outside c.attach.new.self) c.in-Ok.ensures.ok c.now.ensures.others.paths c.attach.ensures.step c.attach.ensures.attached

pub returns-then-is_err-clause-does : goal.returns-then-is_err-clause-does
returns-then-is_err-clause-does g c = λ vol is.
    with_moment c.in-Ok.moment (says_fault c.args.image.now c.args.options.now c.in-Ok.moment vol (code_of c.say.result) (g.H.Dev.outside c.args.host.now) (g.H.Dev.outside c.attach.new.self) (g.H.Dev.outside c.say.new.host) (first g c) c.say.ensures.others.paths c.say.ensures.says (attach_failed g c))

pub returns-then-is_err-clause-any_moment : goal.returns-then-is_err-clause-any_moment
returns-then-is_err-clause-any_moment g c = λ vol is.
    safe_at_the_end c.args.image.now c.args.options.now c.in-Ok.moment vol (code_of c.say.result) (g.H.Dev.outside c.args.host.now) (g.H.Dev.outside c.attach.new.self) (g.H.Dev.outside c.say.new.host) (first g c) c.say.ensures.others.paths DeviceFault 3 c.say.ensures.says

-- ---- where the maker was called

-- the numbers of the options
numbers : (v : VolumeOptions) (moment : ℕ) (o : MakeOptions) (g : Geometry) → o ≡ options_of v moment → volume_of v ≡ Ok g → geometry_for o ≡ Ok g
numbers v moment o g is volume = ap geometry_for is ∙ volume

made : (g : Over) (c : goal.After-say-in-Ok-make g) → IsUnderway c.args.image.now c.args.options.now c.in-Ok.moment (g.H.Dev.outside c.args.host.now) (g.H.Dev.outside c.make.new.host)
made g c = made_next c.args.image.now c.args.options.now c.in-Ok.moment (g.H.Dev.outside c.args.host.now) (g.H.Dev.outside c.now.new.self) (g.H.Dev.outside c.attach.new.self) c.in-Ok.ensures.ok c.now.ensures.others.paths c.attach.ensures.step c.attach.ensures.attached
    c.at.result (g.H.Dev.outside c.make.new.host) c.at.ensures c.make.ensures.others.paths c.make.ensures.any_moment c.make.ensures.lengths c.make.ensures.console

pub returns-in-Ok-make-clause-does : goal.returns-in-Ok-make-clause-does
returns-in-Ok-make-clause-does g c = λ vol is.
    let there = numbers c.args.options.now c.in-Ok.moment c.at.result vol c.at.ensures is in
    let says = subst (λ (n : Numbers). Says (Made n) 0 (code_of c.say-in-Ok-make.result) (g.H.Dev.outside c.make.new.host) (g.H.Dev.outside c.say-in-Ok-make.new.host)) (c.in-Ok-make.ensures.made vol there) c.say-in-Ok-make.ensures.says in
    with_moment c.in-Ok.moment (says_made c.args.image.now c.args.options.now c.in-Ok.moment vol (code_of c.say-in-Ok-make.result) (g.H.Dev.outside c.args.host.now) (g.H.Dev.outside c.make.new.host) (g.H.Dev.outside c.say-in-Ok-make.new.host) (made g c) c.say-in-Ok-make.ensures.others.paths says
    (made_of_start c.args.image.now c.args.options.now c.in-Ok.moment (g.H.Dev.outside c.args.host.now) (g.H.Dev.outside c.now.new.self) (g.H.Dev.outside c.attach.new.self) c.in-Ok.ensures.ok c.now.ensures.others.paths c.attach.ensures.step c.attach.ensures.attached
    c.at.result vol (g.H.Dev.outside c.make.new.host) c.at.ensures c.make.ensures.any_moment.before (c.in-Ok-make.ensures.volume vol there)))

pub returns-in-Ok-make-clause-any_moment : goal.returns-in-Ok-make-clause-any_moment
returns-in-Ok-make-clause-any_moment g c = λ vol is.
    safe_at_the_end c.args.image.now c.args.options.now c.in-Ok.moment vol (code_of c.say-in-Ok-make.result) (g.H.Dev.outside c.args.host.now) (g.H.Dev.outside c.make.new.host) (g.H.Dev.outside c.say-in-Ok-make.new.host) (made g c) c.say-in-Ok-make.ensures.others.paths _ _ c.say-in-Ok-make.ensures.says

unmade : (g : Over) (c : goal.After-say-in-Err g) → IsUnderway c.args.image.now c.args.options.now c.in-Ok.moment (g.H.Dev.outside c.args.host.now) (g.H.Dev.outside c.make.new.host)
unmade g c = made_next c.args.image.now c.args.options.now c.in-Ok.moment (g.H.Dev.outside c.args.host.now) (g.H.Dev.outside c.now.new.self) (g.H.Dev.outside c.attach.new.self) c.in-Ok.ensures.ok c.now.ensures.others.paths c.attach.ensures.step c.attach.ensures.attached
    c.at.result (g.H.Dev.outside c.make.new.host) c.at.ensures c.make.ensures.others.paths c.make.ensures.any_moment c.make.ensures.lengths c.make.ensures.console

-- a device call of the maker failed
make_failed : (g : Over) (c : goal.After-say-in-Err g) (vol : Geometry) → volume_of c.args.options.now ≡ Ok vol → Rose (g.H.Dev.outside c.args.host.now).dev_faults (g.H.Dev.outside c.say-in-Err.new.host).dev_faults
make_failed g c vol is =
    fails_by_device c.at.result vol c.make.result c.in-Err.field-0 c.in-Err.is (numbers c.args.options.now c.in-Ok.moment c.at.result vol c.at.ensures is) c.make.ensures.geom (λ failed. let rose = c.make.ensures.device failed in search rules)

pub returns-in-Err-clause-does : goal.returns-in-Err-clause-does
returns-in-Err-clause-does g c = λ vol is.
    with_moment c.in-Ok.moment (says_fault c.args.image.now c.args.options.now c.in-Ok.moment vol (code_of c.say-in-Err.result) (g.H.Dev.outside c.args.host.now) (g.H.Dev.outside c.make.new.host) (g.H.Dev.outside c.say-in-Err.new.host) (unmade g c) c.say-in-Err.ensures.others.paths c.say-in-Err.ensures.says (make_failed g c vol is))

pub returns-in-Err-clause-any_moment : goal.returns-in-Err-clause-any_moment
returns-in-Err-clause-any_moment g c = λ vol is.
    safe_at_the_end c.args.image.now c.args.options.now c.in-Ok.moment vol (code_of c.say-in-Err.result) (g.H.Dev.outside c.args.host.now) (g.H.Dev.outside c.make.new.host) (g.H.Dev.outside c.say-in-Err.new.host) (unmade g c) c.say-in-Err.ensures.others.paths DeviceFault 3 c.say-in-Err.ensures.says
