-- The shape of a node is that of its owner in the tree.
use Rattle.std.proofs.Common.{◌≡◌, ℕ, zero, suc, ◌<◌, inl, inr, List, [], ◌∷◌, refl, sym, ◌∙◌, ap, arith}
use Rattle.std.specs.Prelude.{Bool, not, ◌||◌, ◌==◌, Option, Some, None, Contains, slice_index_or}
use Rattle.std.proofs.Math.Nat.{div-eq_of_lt}
use Rattle.std.proofs.lemmas.Bool.{eqb-true, not-false}
use Rattle.qx_fields.specs.declared.order.Order.{Order}
use Rattle.qx_geom.specs.declared.root.Root.{Root}
use Rattle.qx_geom.specs.Layout.{levels_for}
use Rattle.qx_geom.specs.Pointer.{absent, ceil_div}
use Rattle.qx_geom.specs.Positions.{Shape, shape_of}
use Rattle.qx_geom.proofs.Members.{Contains-head, parts-Contains}
use Rattle.qx_geom.proofs.Truths.{or_left}
use Rattle.qx_nodes.specs.BlockMap.{BlockMap}
use Rattle.qx_nodes.specs.ForeignNodes.{has_bare_block, has_strays}
use Rattle.qx_nodes.specs.Leaves.{leaves_below}
use Rattle.qx_nodes.specs.Visits.{Visit, present_of, visits_of, visits_under}
use Rattle.qx_nodes.proofs.MetLeaves.{leaf_visit, under_low}
use Rattle.qx_blocks.specs.BlockState.{BlockState}
use Rattle.qx_ptree.specs.Alterations.{shape_in as node_shape}
use Rattle.qx_ptree.specs.Trees.{IsToldNode, block_map}
use Rattle.qx_ptree.proofs.NodePositions.{position_has}
use Rattle.qx_ptree.proofs.PointerCounts.{size_positive}
use Rattle.qx_batch.specs.Nodes.{AreLaid, Nodes}
use Rattle.qx_model.specs.Owners.{OfInode, OfLongfile}
use Rattle.qx_model.specs.Tree.{Tree}
use Rattle.qx_model.specs.TreePositions.{shape_in}
use Rattle.qx_copies.specs.Copies.{BlockCopy, node_in}
use Rattle.qx_copies.specs.Standing.{Represents, node_of_owner}
use Rattle.qx_copies.proofs.CopyPositions.{HasShape, Nothing, OfNode, owner_shape}
use Rattle.qx_placing.specs.PlannedEdits.{HasNodesOf, owner_of_number}
use Rattle.qx_placing.proofs.AlikeTouch.{no_position}

-- the node of an owner, by number
pub number_owner : (c : BlockCopy) (n : ℕ) → node_of_owner c (owner_of_number n) ≡ node_in c n
number_owner c zero = refl
number_owner c (suc k) = refl

-- a list without a member is empty
none_listed : (xs : List ℕ) → ((x : ℕ) → Contains xs x → ⊥) → xs ≡ []
none_listed [] out = refl
none_listed (x ∷ xs) out = absurd (out x (Contains-head x xs))

-- ---- nodes

module _ (order : Order) (m : BlockState) (x : Root) (is : IsToldNode order m x) where
  abbrev t : BlockMap
  t = block_map order m

  -- its levels are the least for its size
  told_shape : shape_of m.holdings.size x.size (present_of t x) ≡ node_shape t x
  told_shape =
      let least : Bool = x.levels == levels_for m.holdings.size (leaves_below t x) in
      let levels : x.levels ≡ levels_for m.holdings.size (leaves_below t x)
      = eqb-true x.levels (levels_for m.holdings.size (leaves_below t x)) (not-false least (or_left (not least) (has_strays t x || has_bare_block t x) is.regular.plain)) in
      λ i. record { levels = sym levels i; present = present_of t x }

  module _ (empty : x.size ≡ 0) where
    -- no leaf lies below no bytes
    no_leaves : leaves_below t x ≡ 0
    no_leaves = ap (λ n. ceil_div n m.holdings.size) empty ∙ div-eq_of_lt (omega (arith, size_positive m.holdings.size is.consistent.size))

    -- so none is present
    pub none_present : present_of t x ≡ []
    none_present = none_listed (present_of t x) (λ k c.
        let v : (v : Visit) × Contains (visits_of t x) v × (v.level ≡ 0) × (v.index ≡ k) = leaf_visit (visits_of t x) k c in
        let part : ℕ → List Visit = λ j. visits_under t (leaves_below t x) x.levels j (slice_index_or x.pointers j absent) in
        let from : (j : ℕ) × (j < 16) × Contains (part j) v.0 = parts-Contains 16 part v.0 v.1 in
        let low : v.0.index < leaves_below t x = under_low t (leaves_below t x) x.levels from.0 (slice_index_or x.pointers from.0 absent) v.0 from.2 v.2 in
        omega (arith, low, no_leaves))

    -- and nothing is met
    pub nothing_met : (v : Visit) → Contains (visits_of t x) v → ⊥
    nothing_met v met = no_position m.holdings.size (node_shape t x) v.level v.index none_present (position_has order m x is v met)

-- ---- a copy and nodes beside it

module _ (order : Order) (m : BlockState) (c : BlockCopy) (t : Tree) (nodes : Nodes) (tree : Represents (block_map order m) c t) (laid : AreLaid order m nodes) (has : HasNodesOf c nodes) where
  -- the owner of a number, and its node
  number_shape : (n : ℕ) → HasShape (block_map order m) (shape_in m.holdings.size t (owner_of_number n)) (node_in c n)
  number_shape zero = owner_shape (block_map order m) c t tree OfLongfile
  number_shape (suc k) = owner_shape (block_map order m) c t tree (OfInode (suc k))

  -- what a node's shape says
  with_node : (s : Shape) (o : Option Root) (x : Root) → HasShape (block_map order m) s o → o ≡ Some x → s ≡ shape_of m.holdings.size x.size (present_of (block_map order m) x)
  with_node s o x (Nothing none) is = absurd (cc)
  with_node s o x (OfNode y same) is = let one : y ≡ x = cc in same ∙ ap (λ z. shape_of m.holdings.size z.size (present_of (block_map order m) z)) one

  without_node : (s : Shape) (o : Option Root) → HasShape (block_map order m) s o → o ≡ None → s ≡ shape_of m.holdings.size 0 []
  without_node s o (Nothing none) is = none
  without_node s o (OfNode y same) is = absurd (cc)

  -- the shape of a node is the tree's
  pub shape_before : (n : ℕ) (x : Root) → nodes n ≡ Some x → shape_in m.holdings.size t (owner_of_number n) ≡ node_shape (block_map order m) x
  shape_before n x at = by_copy (node_in c n) refl
    where
      told : IsToldNode order m x
      told = laid.node n x at

      none_there : node_in c n ≡ None → x.size ≡ 0
      none_there none = elim (has.others n x at) [ inl there ↦ absurd (cc) | inr empty ↦ empty ]

      by_copy : (o : Option Root) → node_in c n ≡ o → shape_in m.holdings.size t (owner_of_number n) ≡ node_shape (block_map order m) x
      by_copy None is =
          without_node (shape_in m.holdings.size t (owner_of_number n)) (node_in c n) (number_shape n) is
          ∙ (λ i. shape_of m.holdings.size (sym (none_there is) i) (sym (none_present order m x told (none_there is)) i)) ∙ told_shape order m x told
      by_copy (Some y) is =
          let both : Some y ≡ Some x = sym (has.own n y is) ∙ at in
          let one : y ≡ x = cc in
          with_node (shape_in m.holdings.size t (owner_of_number n)) (node_in c n) x (number_shape n) (is ∙ ap Some one) ∙ told_shape order m x told

  -- and where there is none, that of nothing
  pub nothing_before : (n : ℕ) → nodes n ≡ None → shape_in m.holdings.size t (owner_of_number n) ≡ shape_of m.holdings.size 0 []
  nothing_before n out = by_copy (node_in c n) refl
    where
      by_copy : (o : Option Root) → node_in c n ≡ o → shape_in m.holdings.size t (owner_of_number n) ≡ shape_of m.holdings.size 0 []
      by_copy None is = without_node (shape_in m.holdings.size t (owner_of_number n)) (node_in c n) (number_shape n) is
      by_copy (Some y) is = let both : Some y ≡ None = sym (has.own n y is) ∙ out in absurd (cc)

  -- a node that meets a block is the copy's
  pub meets_there : (n : ℕ) (x : Root) (v : Visit) → nodes n ≡ Some x → Contains (visits_of (block_map order m) x) v → node_in c n ≡ Some x
  meets_there n x v at met = elim (has.others n x at) [ inl there ↦ there | inr empty ↦ absurd (nothing_met order m x (laid.node n x at) empty v met) ]
