-- The nodes of a state that is laid out as this project does lie over its blocks, and a node that is put is the number's.
use Rattle.std.proofs.Common.{◌≡◌, ◌≢◌, ℕ, zero, suc, ◌*◌, ◌^◌, ◌<◌, ◌≤◌, inl, inr, List, [], ◌∷◌, length, refl, sym, ◌∙◌, ap, subst, arith}
use Rattle.std.specs.Prelude.{Bool, true, false, ◌&&◌, ◌==◌, nat_le, Option, Some, None, is_some, option_and_then, IsTrue, Contains, if◌then◌else◌, slice_index_or, slice_set}
use Rattle.std.proofs.lemmas.Bool.{cases_eq, eq-eqb, leb-true, ne_eqb}
use Rattle.qx_geom.specs.declared.root.Root.{Root}
use Rattle.qx_geom.specs.Pointer.{reach}
use Rattle.qx_geom.proofs.Truths.{and_left, and_right}
use Rattle.qx_nodes.specs.Content.{levels_fit}
use Rattle.qx_nodes.specs.Visits.{Visit, visits_of}
use Rattle.qx_records.specs.declared.inode.Inode.{Inode}
use Rattle.qx_records.specs.InodeRecord.{kind_of}
use Rattle.qx_records.specs.declared.kind.Kind.{Kind}
use Rattle.qx_records.specs.declared.kind.Kind.TheVariants as kinds
use Rattle.qx_blocks.specs.BlockState.{BlockState, IsConsistent}
use Rattle.qx_ptree.specs.Trees.{HasLevels, IsToldNode, block_map}
use Rattle.qx_batch.specs.Nodes.{AreLaid, Nodes, with_node}
use Rattle.qx_model.specs.Tree.{Tree}
use Rattle.qx_copies.specs.Copies.{inode_at, node_in, node_of_inode, node_of_kind}
use Rattle.qx_copies.specs.Standing.{IsOwnCopy}
use Rattle.qx_working.specs.declared.working.Working.{Working}
use Rattle.qx_working.specs.Standing.{StandsForTree}
use Rattle.qx_working.specs.States.{copy_of, with_node_at, with_root}

-- ---- laid nodes

-- levels that fit are within bounds and reach the size
pub levels_in : (size levels blocksize : ℕ) → IsTrue (nat_le levels 5 && (nat_le size (reach blocksize levels * blocksize) && nat_le size (2 ^ 48))) → (levels ≤ 5) × (size ≤ reach blocksize levels * blocksize)
levels_in size levels blocksize fit =
    let rest = and_right (nat_le levels 5) _ fit in
    (leb-true levels 5 (and_left (nat_le levels 5) _ fit), leb-true size (reach blocksize levels * blocksize) (and_left (nat_le size (reach blocksize levels * blocksize)) _ rest))

module _ (m : BlockState) (w : Working) (t : Tree) (consistent : IsConsistent m) (tells : IsTrue m.tells) (stands : StandsForTree m w t) (own : IsOwnCopy (block_map w.order m) (copy_of w) t) where
  pub nodes_laid : AreLaid w.order m (node_in (copy_of w))
  nodes_laid =
      let told = stands.told tells in
      let once = told.represents.undamaged.once in
      record {
        node = λ o node there.
            let fit = levels_in node.size node.levels m.holdings.size (stands.readable.bounded.levels o node there) in
            record {
              consistent = consistent;
              sixteen = stands.readable.bounded.sixteen o node there;
              levels = record { most = fit.0; reached = fit.1 };
              works = stands.readable.works tells o node there;
              regular = record { plain = own.nodes o node there; apart = λ u v among bmong same. (once o o node node u v there there among bmong same).1 };
            };
        apart = λ o q a b at bt differ u v among bmong same. differ (once o q a b u v at bt among bmong same).0;
      }

-- ---- a node that is put

-- what stands at a place that is set, and beside it
set_here : {A : Type 0} (xs : List (Option A)) (k : ℕ) (x y : Option A) (z : A) → slice_index_or xs k None ≡ Some z → slice_index_or (slice_set xs k y) k None ≡ y
set_here [] zero x y z e = absurd (cc)
set_here [] (suc k) x y z e = absurd (cc)
set_here (a ∷ xs) zero x y z e = refl
set_here (a ∷ xs) (suc k) x y z e = set_here xs k x y z e

set_beside : {A : Type 0} (xs : List (Option A)) (k j : ℕ) (y : Option A) → j ≢ k → slice_index_or (slice_set xs k y) j None ≡ slice_index_or xs j None
set_beside [] zero j y e = refl
set_beside [] (suc k) j y e = refl
set_beside (a ∷ xs) zero zero y e = absurd (e refl)
set_beside (a ∷ xs) zero (suc j) y e = refl
set_beside (a ∷ xs) (suc k) zero y e = refl
set_beside (a ∷ xs) (suc k) (suc j) y e = set_beside xs k j y (λ z. e (ap suc z))

-- nothing changes where what stands there is set
pub set_itself : {A : Type 0} (xs : List (Option A)) (k : ℕ) → slice_set xs k (slice_index_or xs k None) ≡ xs
set_itself [] zero = refl
set_itself [] (suc k) = refl
set_itself (a ∷ xs) zero = refl
set_itself (a ∷ xs) (suc k) = ap (λ ys. a ∷ ys) (set_itself xs k)

-- an inode that has a node has the new one
new_root : (node old : Root) (o : Option Inode) → option_and_then node_of_inode o ≡ Some old → (i : Inode) × (o ≡ Some i) × (option_and_then node_of_inode (with_root node o) ≡ Some node)
new_root node old None e = absurd (cc)
new_root node old (Some i) e =
    let has : is_some (node_of_inode i) ≡ true = ap (λ o. is_some o) e in
    (i, refl, ap (λ b. option_and_then node_of_inode (if b then Some (record i { root = node }) else Some i)) has ∙ by_kind (kind_of i.mode) has)
  where
    by_kind : (k : Option Kind) → is_some (node_of_kind i.root k) ≡ true → node_of_kind node k ≡ Some node
    by_kind None e = absurd (cc)
    by_kind (Some kinds.Special) e = absurd (cc)
    by_kind (Some kinds.Directory) e = refl
    by_kind (Some kinds.File) e = refl
    by_kind (Some kinds.Link) e = refl

-- other numbers have their own nodes
beside : (nodes : Nodes) (o q : ℕ) (x : Option Root) → q ≢ o → with_node nodes o x q ≡ nodes q
beside nodes o q x apart = ap (λ b. if b then x else nodes q) (ne_eqb q o apart)

-- a node that is put is the number's, and every other number has its own
pub node_put : (w : Working) (o q : ℕ) (node old : Root) → node_in (copy_of w) o ≡ Some old → node_in (copy_of (with_node_at w o node)) q ≡ with_node (node_in (copy_of w)) o (Some node) q
node_put w zero zero node old there = refl
node_put w zero (suc j) node old there = sym (beside (node_in (copy_of w)) 0 (suc j) (Some node) (λ e. omega (arith, e)))
node_put w (suc k) zero node old there = sym (beside (node_in (copy_of w)) (suc k) 0 (Some node) (λ e. omega (arith, e)))
node_put w (suc k) (suc j) node old there = elim (cases_eq j k) [
  | inl same ↦
      let new = new_root node old (inode_at w.table.inodes (suc k)) there in
      ap (λ x. option_and_then node_of_inode (slice_index_or (slice_set w.table.inodes k (with_root node (inode_at w.table.inodes (suc k)))) x None)) same
      ∙ ap (λ x. option_and_then node_of_inode x) (set_here w.table.inodes k None (with_root node (inode_at w.table.inodes (suc k))) new.0 new.1)
      ∙ new.2
      ∙ sym (ap (λ b. if b then Some node else node_in (copy_of w) (suc j)) (eq-eqb (suc j) (suc k) (ap suc same)))
  | inr apart ↦
      ap (λ x. option_and_then node_of_inode x) (set_beside w.table.inodes k j (with_root node (inode_at w.table.inodes (suc k))) apart)
      ∙ sym (beside (node_in (copy_of w)) (suc k) (suc j) (Some node) (λ e. apart (pred_same j k e)))
]
  where
    pred_same : (a b : ℕ) → suc a ≡ suc b → a ≡ b
    pred_same a b e = omega (arith, e)
