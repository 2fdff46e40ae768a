-- Files whose change is committed, as the tests make them.
use Rattle.std.proofs.Common.{◌≡◌, ℕ, ◌+◌, ◌-◌, ◌*◌, ◌%◌, ◌^◌, ◌<◌, ◌≤◌, Bool, true, false, List, length, replicate, refl, sym, ◌∙◌, ap, subst, arith}
use Rattle.std.specs.Prelude.{IsTrue, if◌then◌else◌}
use Rattle.std.proofs.Math.Nat.{pow-le-pow_right}
use Rattle.std.proofs.lemmas.List.{length-replicate}
use Rattle.qx_fields.specs.declared.order.Order.{Order}
use Rattle.qx_geom.specs.declared.root.Root.{Root}
use Rattle.qx_geom.specs.Pointer.{per_block, reach}
use Rattle.qx_geom.proofs.BlockSizes.{block_size-bounds}
use Rattle.qx_geom.specs.Room.{greatest_end}
use Rattle.qx_blocks.specs.BlockState.{BlockState, IsBlockSize, IsConsistent}
use Rattle.qx_ptree.specs.declared.change.Change.{Change}
use Rattle.qx_ptree.specs.Fates.{IsChange}
use Rattle.qx_ptree.specs.ReadyLeaves.{IsReadyApart, IsWrittenBy}
use Rattle.qx_ptree.specs.Trees.{HasLevels, IsNode}
use Rattle.qx_file.specs.FilePlans.{cuts_leaf, size_change, write_change}
use Rattle.qx_file.specs.Puts.{CanPut, Puts}
use Rattle.qx_file.proofs.PlannedChanges.{cut_can, is_size, write_can, write_is_change}
use Rattle.qx_file.proofs.PutContent.{regular_after, works_after}

-- 5 levels reach what fewer do
reach_five : (b : ℕ) (node : Root) → IsBlockSize b → HasLevels b node → node.size ≤ reach b 5 * b
reach_five b node k levels =
    let bounds = block_size-bounds b (is_size b k) in
    let power : per_block b ^ node.levels ≤ per_block b ^ 5 = pow-le-pow_right (omega (arith, bounds.pointers_from)) levels.most in
    omega (arith, levels.reached, more (per_block b ^ node.levels) (per_block b ^ 5) power)
  where
    more : (x y : ℕ) → x ≤ y → 16 * x * b ≤ 16 * y * b
    more x y h = grind arith

-- a planned write can be prepared
pub plan_is_change : (node : Root) (at count block b : ℕ) (c : Change) → block ≡ b → IsBlockSize b → HasLevels b node → 0 < count → at + count ≤ greatest_end → c ≡ write_change node at count block → IsChange b c
plan_is_change node at count block b c same k levels some ends is =
    subst (IsChange b) (sym (is ∙ ap (write_change node at count) same)) (write_is_change node at count b (is_size b k) some (reach_five b node k levels) ends)

-- and then its bytes can be put
pub plan_can : (order : Order) (m : BlockState) (node root : Root) (at count block : ℕ) (c : Change) → block ≡ m.holdings.size → IsConsistent m → 0 < count → c ≡ write_change node at count block → HasLevels m.holdings.size root → root.size ≡ c.size
    → IsReadyApart order m root (IsWrittenBy c) → CanPut order m root at count
plan_can order m node root at count block c same k some is levels size ready =
    let e : c ≡ write_change node at count m.holdings.size = is ∙ ap (write_change node at count) same in
    write_can order m node root at count k.size some levels (size ∙ ap (λ (x : Change). x.size) e) (subst (λ (x : Change). IsReadyApart order m root (IsWrittenBy x)) e ready)

-- a count that isn't 0 says that the file is cut within a leaf
count_cuts : (t : Bool) → 0 < (if t then 1 else 0) → t ≡ true
count_cuts true h = refl
count_cuts false h = absurd (omega arith)

-- so the bytes past the end can be put
pub size_can : (order : Order) (m : BlockState) (node root : Root) (size block : ℕ) (last : Bool) (c : Change) → block ≡ m.holdings.size → IsConsistent m → c ≡ size_change node size last block → 0 < c.count → HasLevels m.holdings.size root → root.size ≡ c.size
    → IsReadyApart order m root (IsWrittenBy c) → CanPut order m root size (block - size % block)
size_can order m node root size block last c same k is some levels root_size ready =
    let e : c ≡ size_change node size last m.holdings.size = is ∙ ap (size_change node size last) same in
    let cuts : cuts_leaf node size last m.holdings.size ≡ true = count_cuts (cuts_leaf node size last m.holdings.size) (subst (λ (x : Change). 0 < x.count) e some) in
    subst (λ b. CanPut order m root size (b - size % b)) (sym same)
    (cut_can order m node root size last k.size cuts levels (root_size ∙ ap (λ (x : Change). x.size) e) (subst (λ (x : Change). IsReadyApart order m root (IsWrittenBy x)) e ready))

-- after bytes were put, the node can be changed
pub put_node : (order : Order) (m n : BlockState) (root : Root) (at : ℕ) (bytes : List ℕ) → IsConsistent m → CanPut order m root at (length bytes) → Puts order root at bytes m n → IsNode order m root → IsNode order n root
put_node order m n root at bytes k can puts is =
    let before : IsTrue n.tells → IsTrue m.tells = λ told. sym puts.tells ∙ told in
    record {
      levels = subst (λ h. HasLevels h.size root) (sym puts.holdings) is.levels;
      works = λ told. works_after order m n root at bytes k can (is.regular (before told)).apart puts (is.works (before told));
      regular = λ told. regular_after order m n root at bytes k can (is.regular (before told)).apart puts (is.works (before told)) (is.regular (before told));
    }

-- what can be filled can be put
pub fill_can : (order : Order) (m : BlockState) (root : Root) (at count byte : ℕ) → CanPut order m root at count → CanPut order m root at (length (replicate count byte))
fill_can order m root at count byte can = rw length-replicate can
