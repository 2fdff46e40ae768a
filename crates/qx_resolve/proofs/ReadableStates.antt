-- States with small nodes, over blocks of 512 bytes of which nothing is told.
use Rattle.std.proofs.Common.{◌≡◌, ℕ, zero, suc, ◌*◌, ◌^◌, ◌≤◌, List, length, sym, ap, subst, ◌∙◌, refl, arith}
use Rattle.std.specs.Prelude.{Bool, true, ◌&&◌, Option, Some, None, IfSome, IsTrue, nat_le, option_and_then}
use Rattle.std.proofs.lemmas.Bool.{le-leb}
use Rattle.qx_geom.specs.declared.root.Root.{Root}
use Rattle.qx_geom.specs.Pointer.{reach}
use Rattle.qx_records.specs.declared.inode.Inode.{Inode}
use Rattle.qx_blocks.specs.BlockState.{BlockState}
use Rattle.qx_copies.specs.Copies.{inode_at, node_in, node_of_inode}
use Rattle.qx_working.specs.declared.working.Working.{Working}
use Rattle.qx_working.specs.Standing.{IsReadable}
use Rattle.qx_working.specs.States.{copy_of}
use Rattle.qx_resolve.proofs.MeantEntries.{inode_within}

-- a node of one level
pub record IsSmall (node : Root) : Type 0 where
  pub levels : node.levels ≡ 0
  pub size : node.size ≤ 8192
  pub sixteen : length node.pointers ≡ 16

-- its levels fit
small_fits : (levels size : ℕ) → levels ≡ 0 → size ≤ 8192 → IsTrue (nat_le levels 5 && (nat_le size (reach 512 levels * 512) && nat_le size (2 ^ 48)))
small_fits levels size none few =
    let second : nat_le size (16 * 512) ≡ true = le-leb size (16 * 512) (omega (arith, few)) in
    let third : nat_le size (2 ^ 48) ≡ true = le-leb size (2 ^ 48) (omega (arith, few)) in
    subst (λ n. IsTrue (nat_le n 5 && (nat_le size (reach 512 n * 512) && nat_le size (2 ^ 48)))) (sym none) (both (nat_le size (16 * 512)) (nat_le size (2 ^ 48)) second third)
  where
    both : (a b : Bool) → a ≡ true → b ≡ true → IsTrue (a && b)
    both a b x y = rw (x, y) refl

-- a number with a node has an inode
node_within : (inodes : List (Option Inode)) (n : ℕ) (node : Root) → option_and_then node_of_inode (inode_at inodes n) ≡ Some node → n ≤ length inodes
node_within inodes n node is = go (inode_at inodes n) refl
  where
    go : (o : Option Inode) → inode_at inodes n ≡ o → n ≤ length inodes
    go None none = absurd (let both : None ≡ Some node = sym (ap (λ (x : Option Inode). option_and_then node_of_inode x) none) ∙ is in cc)
    go (Some i) some = (inode_within inodes n i some).1

module _ (m : BlockState) (w : Working) (size : m.holdings.size ≡ 512) (quiet : IsTrue m.tells → ⊥) (long : IsSmall w.long)
    (each : (o : ℕ) (node : Root) → node_in (copy_of w) o ≡ Some node → 1 ≤ o → o ≤ length w.table.inodes → IsSmall node) where
  all_small : (o : ℕ) (node : Root) → node_in (copy_of w) o ≡ Some node → IsSmall node
  all_small zero node is = subst IsSmall (let both : Some w.long ≡ Some node = is in cc) long
  all_small (suc k) node is = each (suc k) node is (omega arith) (node_within w.table.inodes (suc k) node is)

  -- so the state can be read
  pub small_readable : length w.links ≡ length w.table.inodes → w.table.order ≡ w.order → IsReadable m w
  small_readable places order = record {
    bounded = record {
      sixteen = λ o node is. (all_small o node is).sixteen;
      levels = λ o node is. let s = all_small o node is in
          subst (λ n. IsTrue (nat_le node.levels 5 && (nat_le node.size (reach n node.levels * n) && nat_le node.size (2 ^ 48)))) (sym size) (small_fits node.levels node.size s.levels s.size);
    };
    order = order;
    places = places;
    works = λ told. absurd (quiet told);
  }

-- a node that is there is small
pub small_some : (o : Option Root) → IfSome o (λ n. (n.levels ≡ 0) × (n.size ≤ 8192) × (length n.pointers ≡ 16)) → (node : Root) → o ≡ Some node → IsSmall node
small_some None h node is = absurd (cc)
small_some (Some n) h node is = subst IsSmall (let both : Some n ≡ Some node = is in cc) (record { levels = h.0; size = h.1; sixteen = h.2 })
