-- Nodes that are apart.
use Rattle.std.proofs.Common.{sym, subst}
use Rattle.std.specs.Prelude.{Contains}
use Rattle.qx_fields.specs.declared.order.Order.{Order}
use Rattle.qx_geom.specs.declared.root.Root.{Root}
use Rattle.qx_blocks.specs.BlockState.{BlockState}
use Rattle.qx_ptree.specs.KeptNodes.{KeepsNode}
use Rattle.qx_ptree.specs.Trees.{AreApart}
use Rattle.qx_ptree.proofs.KeptNodes.{visits_kept}

-- they are while the blocks of both stay
pub apart_stays : (order : Order) (m n : BlockState) (a b : Root) → KeepsNode order m n a → KeepsNode order m n b → AreApart order m a b → AreApart order n a b
apart_stays order m n a b k l apart u v c d = apart u v (subst (λ vs. Contains vs u) (visits_kept order m n a k) c) (subst (λ vs. Contains vs v) (visits_kept order m n b l) d)

-- either way round
pub apart_turned : (order : Order) (m : BlockState) (a b : Root) → AreApart order m a b → AreApart order m b a
apart_turned order m a b apart u v c d same = apart v u d c (sym same)
