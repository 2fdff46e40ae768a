use Rattle.std.proofs.Common.{◌≡◌}
use Rattle.std.specs.List.{AllWithin}
use Rattle.qx_tables.specs.declared.long_names.LongLeaf.{LongLeaf}
use Rattle.qx_tables.proofs.long_names.LongNames.bad.Given as goal

-- the leaves so far were each named once
abbrev pub invariant-loop-leaf : goal.invariant-loop-leaf
invariant-loop-leaf l = AllWithin (λ (x : LongLeaf). x.named ≡ 1) l.leaf-items 0 l.leaf-index
