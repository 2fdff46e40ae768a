use Rattle.std.proofs.Common.{◌≡◌, true, None, IfSome, subst, ap, sym, ◌∙◌}
use Rattle.std.specs.List.{last_or}
use Rattle.std.specs.Option.{option_copied}
use Rattle.qx_path.specs.PathParts.{is_name}
use Rattle.qx_path.proofs.NamesOfPaths.{name-copied, name-last_or}
use Rattle.qx_path.proofs.path.Path.last.Goals as goal

pub returns-clause-name : goal.returns-clause-name
returns-clause-name c =
    name-copied c.loop-name.last
    (subst (λ o. IfSome o (λ name. is_name name ≡ true))
    (sym c.loop-name.invariant ∙ ap (last_or (option_copied c.loop-name.last)) c.in-None.ensures.steps.0)
    (name-last_or None c.args.self.now.names tt c.components-name-items.ensures.each))
