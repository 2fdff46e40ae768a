use Rattle.std.proofs.Common.{◌≡◌, ◌∙◌, ap, drop, rules, tests}
use Rattle.std.specs.Prelude.{◌==◌, not}
use Rattle.std.specs.List.{list_any}
use Rattle.std.proofs.lemmas.List.{take_rest}
use Rattle.std.proofs.lemmas.Iterator.{YieldsList-from_slice}
use Rattle.std.proofs.lemmas.Iterator.Search.{any_from_yields_List}
use Rattle.qx_tables.proofs.TableBytes.{tail_is}
use Rattle.qx_tables.proofs.table.InodeTable.has_tail.Goals as goal

pub returns : goal.returns
returns c = λ m inodes h.
    let any : c.any.result ≡ list_any (λ b. not (b == 0)) (drop c.args.self.now.size c.args.self.now.bytes.items)
    = any_from_yields_List (λ b. not (b == 0)) _ _ _ c.any.ensures.ran (YieldsList-from_slice (drop c.args.self.now.size c.args.self.now.bytes.items) (c.iter.ensures.rest ∙ take_rest c.deref.result.now c.args.self.now.size ∙ ap (drop c.args.self.now.size) c.deref.ensures.value)) (λ x b q k. search (rules, tests)) in
    any ∙ tail_is m inodes c.args.self.now h
