-- What a node holds after a call that left it, after a change of it, and after bytes were put into it.
use Rattle.std.proofs.Common.{◌≡◌, ℕ, ◌+◌, ◌*◌, ◌/◌, ◌<◌, List, length, refl, sym, ◌∙◌, ap, subst, arith}
use Rattle.std.specs.Prelude.{Bool, true, false, ◌&&◌, Some, Option, map, filter, replicate, nat_le, nat_lt, if◌then◌else◌, IsTrue}
use Rattle.std.proofs.lemmas.Bool.{le-leb, leb-true, lt-ltb, ltb-true}
use Rattle.qx_fields.specs.declared.order.Order.{Order}
use Rattle.qx_geom.specs.declared.root.Root.{Root}
use Rattle.qx_geom.specs.Lists.{is_in}
use Rattle.qx_geom.specs.Pointer.{ceil_div}
use Rattle.qx_geom.specs.Positions.{HasPosition}
use Rattle.qx_geom.proofs.LeastTouch.{above_leaf, has_above}
use Rattle.qx_geom.proofs.Truths.{and_left, and_right, true_or_false}
use Rattle.qx_nodes.specs.Content.{leaf_bytes}
use Rattle.qx_nodes.specs.Visits.{Visit, is_leaf}
use Rattle.qx_blocks.specs.BlockState.{BlockState, Holdings, IsConsistent}
use Rattle.qx_ptree.specs.Altered.{Alters, prepared_alteration}
use Rattle.qx_ptree.specs.KeptNodes.{KeepsNode}
use Rattle.qx_ptree.specs.Trees.{AreApart, IsToldNode, block_map}
use Rattle.qx_ptree.specs.WaitingChanges.{IsWaiting}
use Rattle.qx_ptree.specs.WorkState.{Preparation}
use Rattle.qx_ptree.proofs.KeptNodes.{leaf_kept, visits_kept}
use Rattle.qx_ptree.proofs.NodePositions.{told_hole, told_lies}
use Rattle.qx_ptree.proofs.SeveralChanges.{altered_told}
use Rattle.qx_file.specs.Puts.{CanPut, HasByte, Puts, leaf_block, with_part}
use Rattle.qx_file.proofs.PutContent.{leaf_met, leaf_put_after, leaf_stays_after, visits_after}
use Rattle.qx_batch.specs.Changes.{IsKeptNode, changed_content}
use Rattle.qx_nodes.specs.NodeContents.{IsSameContent, node_content}
use Rattle.qx_batch.specs.PutNodes.{has_byte, put_content}

-- a node whose blocks stay holds what it held
pub content_kept : (order : Order) (m n : BlockState) (node : Root) → IsToldNode order m node → KeepsNode order m n node → IsSameContent m.holdings.size (node_content (block_map order m) node) (node_content (block_map order n) node)
content_kept order m n node is k = record {
  size = refl;
  present = ap (λ (vs : List Visit). map (λ (v : Visit). v.index) (filter is_leaf vs)) (visits_kept order m n node k);
  leaves = λ i low. leaf_kept order m n node k i (told_lies order m node is i low);
}

-- so it is a node that was kept
pub node_kept : (order : Order) (m n : BlockState) (node : Root) (after : Option Root) → IsToldNode order m node → KeepsNode order m n node → after ≡ Some node → IsKeptNode order m n node after
node_kept order m n node after is k there = record { is = there; keeps = k; visits = visits_kept order m n node k; holds = content_kept order m n node is k }

-- a node that was changed holds what the change leaves of its leaves
pub content_changed : (order : Order) (old now m : BlockState) (p : Preparation) → IsWaiting order old now p → IsConsistent m → Alters order old p m
    → IsSameContent old.holdings.size (changed_content old.holdings.size p.change (node_content (block_map order old) p.node)) (node_content (block_map order m) p.root)
content_changed order old now m p w s a = record {
  size = a.size;
  present = a.present;
  leaves = λ i low. leaf i (is_in (prepared_alteration order old p).new.present i) refl;
}
  where
    leaf : (i : ℕ) (t : Bool) → is_in (prepared_alteration order old p).new.present i ≡ t → leaf_bytes (block_map order m) p.root i ≡ (if t then leaf_bytes (block_map order old) p.node i else replicate old.holdings.size 0)
    leaf i true there = a.bytes i (subst (λ x. HasPosition old.holdings.size (prepared_alteration order old p).new 0 x) (above_leaf old.holdings.size i) (has_above old.holdings.size (prepared_alteration order old p).new 0 i (omega arith) there))
    leaf i false none = told_hole order m p.root (altered_told order old now m p w s a) i (ap (λ xs. is_in xs i) a.present ∙ none) ∙ ap (λ z. replicate z 0) a.blocksize

-- a leaf that has one of the bytes passes the test
pub has_passes : (size at count i : ℕ) → HasByte size at count i → has_byte size at count i ≡ true
has_passes size at count i h = λ j. le-leb (at / size) i h.first j && (lt-ltb (i * size) (at + count) h.last j && lt-ltb 0 count h.some j)

-- and one that passes it has
pub passes_has : (size at count i : ℕ) → has_byte size at count i ≡ true → HasByte size at count i
passes_has size at count i t =
    let rest : (nat_lt (i * size) (at + count) && nat_lt 0 count) ≡ true = and_right (nat_le (at / size) i) _ t in
    record {
      first = leb-true (at / size) i (and_left (nat_le (at / size) i) _ t);
      last = ltb-true (i * size) (at + count) (and_left (nat_lt (i * size) (at + count)) _ rest);
      some = ltb-true 0 count (and_right (nat_lt (i * size) (at + count)) _ rest);
    }

module _ (order : Order) (m n : BlockState) (node : Root) (at : ℕ) (bytes : List ℕ) (is : IsToldNode order m node) (can : CanPut order m node at (length bytes)) (puts : Puts order node at bytes m n) where
  -- a node into which bytes were put has them
  pub content_put : IsSameContent m.holdings.size (put_content m.holdings.size at bytes (node_content (block_map order m) node)) (node_content (block_map order n) node)
  content_put = record {
    size = refl;
    present = ap (λ (vs : List Visit). map (λ (v : Visit). v.index) (filter is_leaf vs)) (visits_after order m n node at bytes is.consistent can is.regular.apart puts);
    leaves = λ i low. leaf i low (has_byte m.holdings.size at (length bytes) i) refl;
  }
    where
      leaf : (i : ℕ) → i < ceil_div node.size m.holdings.size → (t : Bool) → has_byte m.holdings.size at (length bytes) i ≡ t
          → leaf_bytes (block_map order n) node i ≡ (if t then with_part m.holdings.size i at bytes (leaf_bytes (block_map order m) node i) else leaf_bytes (block_map order m) node i)
      leaf i low true there = leaf_put_after order m n node at bytes is.consistent can is.regular.apart puts i (passes_has m.holdings.size at (length bytes) i there)
      leaf i low false none = leaf_stays_after order m n node at bytes is.consistent can is.regular.apart puts i low (λ has. true_or_false (has_byte m.holdings.size at (length bytes) i) (has_passes m.holdings.size at (length bytes) i has) none)

  -- another node, which is apart, stays
  pub put_keeps : (other : Root) → AreApart order m node other → KeepsNode order m n other
  put_keeps other apart = record {
    size = ap (λ (h : Holdings). h.size) puts.holdings;
    count = ap (λ (h : Holdings). h.count) puts.holdings;
    works = λ v c was. subst (λ (h : Holdings). IsTrue (h.works v.block)) (sym puts.holdings) was;
    private = λ v c. ap (λ (h : Holdings). h.private v.block) puts.holdings;
    bytes = λ v c. puts.others v.block (λ i has e. apart (record { level = 0; index = i; block = leaf_block order m node i }) v (leaf_met order m n node at bytes is.consistent can is.regular.apart puts i has) c e);
  }
