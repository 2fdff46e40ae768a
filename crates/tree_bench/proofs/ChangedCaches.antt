-- A node over a cache stays one where its blocks are frozen or written.
use Rattle.std.proofs.Common.{◌≡◌, ◌∙◌, ℕ, List, ap, sym, subst}
use Rattle.std.specs.Prelude.{IsTrue}
use Rattle.qx_fields.specs.declared.order.Order.{Order}
use Rattle.qx_geom.specs.declared.root.Root.{Root}
use Rattle.qx_outside.specs.Outside.{Outside}
use Rattle.qx_outside.specs.Trail.{bytes_of}
use Rattle.qx_alloc.specs.SpaceState.{limit_in}
use Rattle.qx_blockset.specs.Members.{has}
use Rattle.qx_blocks.specs.BlockState.{BlockState, Holdings}
use Rattle.qx_cache.specs.CacheState.{CacheState, bytes_over, state_of, with_frozen}
use Rattle.qx_cache.specs.Calls.{HasSameBlocks}
use Rattle.qx_ptree.specs.Trees.{HasLevels, IsRegular, IsWorking}
use Rattle.qx_ptree.specs.Trees.{IsNode}

-- what a node depends on of the blocks
record IsAlike (m n : BlockState) : Type 0 where
  size : n.holdings.size ≡ m.holdings.size
  count : n.holdings.count ≡ m.holdings.count
  works : n.holdings.works ≡ m.holdings.works
  before : IsTrue n.tells → IsTrue m.tells
  bytes : IsTrue n.tells → (b : ℕ) → n.bytes b ≡ m.bytes b

-- the same blocks, as far as a node depends on them
joined : (m n : BlockState) → IsAlike m n → IsTrue n.tells → record n { holdings = record n.holdings { size = m.holdings.size; count = m.holdings.count; works = m.holdings.works }; bytes = m.bytes } ≡ n
joined m n a told = λ i. record n {
  holdings = record n.holdings { size = sym a.size i; count = sym a.count i; works = sym a.works i };
  bytes = λ b. sym (a.bytes told b) i;
}

-- a node over alike blocks
node-alike : (order : Order) (m n : BlockState) (node : Root) → IsAlike m n → IsNode order m node → IsNode order n node
node-alike order m n node a is = record {
  levels = subst (λ s. HasLevels s node) (sym a.size) is.levels;
  works = λ told. subst (λ x. IsWorking order x node) (joined m n a told) (is.works (a.before told));
  regular = λ told.
      let regular = is.regular (a.before told) in
      subst (λ x. IsRegular order x node) (joined m n a told) (record { plain = regular.plain; apart = regular.apart });
}

module _ {H : Type 0} (outside : H → Outside) where
  -- its blocks are the frozen tree's as well
  pub node-frozen : (order : Order) (c new : CacheState H) (node : Root) → new ≡ with_frozen c → ((device : List ℕ) (b : ℕ) → bytes_over device new b ≡ bytes_over device c b)
      → IsNode order (state_of outside c) node → IsNode order (state_of outside new) node
  node-frozen order c new node is bytes node_is =
      node-alike order (state_of outside c) (state_of outside new) node
      (record {
        size = ap (λ (x : CacheState H). x.size) is;
        count = ap (λ (x : CacheState H). limit_in x.space) is;
        works = ap (λ (x : CacheState H). has x.space.working) is;
        before = λ told. subst (λ (x : CacheState H). IsTrue (outside x.host).tells) is told;
        bytes = λ told b. bytes (bytes_of (outside new.host).history) b ∙ ap (λ (x : CacheState H). bytes_over (bytes_of (outside x.host).history) c b) is;
      })
      node_is

  -- a block was written, or not, or another was
  pub node-written : (order : Order) (c new : CacheState H) (node : Root) → (IsTrue (outside new.host).tells → IsTrue (outside c.host).tells) → HasSameBlocks outside c new
      → IsNode order (state_of outside c) node → IsNode order (state_of outside new) node
  node-written order c new node before same is =
      node-alike order (state_of outside c) (state_of outside new) node
      (record {
        size = ap (λ (h : Holdings). h.size) same.holdings;
        count = ap (λ (h : Holdings). h.count) same.holdings;
        works = ap (λ (h : Holdings). h.works) same.holdings;
        before = before;
        bytes = same.bytes;
      })
      is
