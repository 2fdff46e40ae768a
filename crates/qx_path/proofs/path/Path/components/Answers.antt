use Rattle.std.proofs.Common.{sym, ap, ◌∙◌}
use Rattle.std.specs.List.{list_all}
use Rattle.qx_path.specs.PathParts.{is_name}
use Rattle.qx_path.proofs.NamesOfPaths.{names-of_path}
use Rattle.qx_path.proofs.path.Path.components.Goals as goal

pub returns-clause-each : goal.returns-clause-each
returns-clause-each c = sym (ap (λ path. list_all is_name path.names) c.self.view_is) ∙ names-of_path c.self.inside.bytes.now c.self.invariant
