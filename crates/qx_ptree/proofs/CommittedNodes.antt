-- A node whose change was committed, where nothing was done since it was prepared.
use Rattle.std.proofs.Common.{◌≡◌, ◌∙◌, ℕ, refl, sym, subst}
use Rattle.std.specs.Prelude.{IsTrue}
use Rattle.qx_fields.specs.declared.order.Order.{Order}
use Rattle.qx_geom.specs.declared.root.Root.{Root}
use Rattle.qx_blocks.specs.BlockState.{BlockState}
use Rattle.qx_ptree.specs.declared.change.Change.{Change}
use Rattle.qx_ptree.specs.Altered.{Alters, AsLeft, IsSameBlock}
use Rattle.qx_ptree.specs.PreparedNode.{Prepares}
use Rattle.qx_ptree.specs.ReadyLeaves.{IsReadyApart, IsWrittenBy, OwnAsLeft}
use Rattle.qx_ptree.specs.Takings.{LeavesOthers}
use Rattle.qx_ptree.specs.Trees.{HasLevels, IsNode, IsRegular, IsWorking}
use Rattle.qx_ptree.specs.WorkState.{Preparation, blocks_of, committed}

-- a block is as it was
same_block : (m : BlockState) (b : ℕ) → IsSameBlock m m b
same_block m b = record { held = refl; works = refl; private = refl; ready = λ h. h; bytes = refl }

-- so are those of a change, and of its node
pub as_left : (order : Order) (p : Preparation) (m : BlockState) → AsLeft order p m m
as_left order p m = record { size = refl; count = refl; own = λ b h. same_block m b; others = λ v c. same_block m v.block }

-- and those of a change alone
pub own_as_left : (p : Preparation) (m : BlockState) → OwnAsLeft p m m
own_as_left p m = record { size = refl; count = refl; ready = λ b h was. was; bytes = λ b h was. refl }

-- it can be changed again
pub node_committed : (order : Order) (old now new : BlockState) (node root : Root) (c : Change) (p : Preparation) → Prepares order old now node c p → root ≡ p.root → new ≡ committed now p → LeavesOthers (blocks_of p) now new
    → IsNode order new root
node_committed order old now new node root c p prepares root_is is others =
    let alters : IsTrue new.tells → Alters order old p (committed now p) = λ told. (prepares.prepared (sym others.tells ∙ told)).commits now (as_left order p now) in
    subst (IsNode order new) (sym root_is) (record {
      levels = subst (λ s. HasLevels s p.root) (sym (others.size ∙ prepares.takes.size)) prepares.levels;
      works = λ told. subst (λ x. IsWorking order x p.root) (sym is) (alters told).works;
      regular = λ told. subst (λ x. IsRegular order x p.root) (sym is) (alters told).regular;
    })

-- and the leaves that the change writes are ready
pub leaves_committed : (order : Order) (old now new : BlockState) (node root : Root) (c : Change) (p : Preparation) → Prepares order old now node c p → root ≡ p.root → new ≡ committed now p
    → IsReadyApart order new root (IsWrittenBy c)
leaves_committed order old now new node root c p prepares root_is is = rw (root_is, is) (prepares.written now (own_as_left p now))
