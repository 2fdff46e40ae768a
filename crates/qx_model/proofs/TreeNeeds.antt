-- What an edit needs is what its nodes need; a node that is left alone needs nothing.
use Rattle.std.proofs.Common.{◌≡◌, ℕ, ◌+◌, ◌≤◌, List, [], length, ◌∙◌, arith}
use Rattle.std.specs.Prelude.{Bool, filter, map, sum_by}
use Rattle.std.specs.List.{range_with_len}
use Rattle.std.proofs.lemmas.List.{length-map}
use Rattle.std.proofs.lemmas.List.Concat.{length-flat_map}
use Rattle.std.proofs.lemmas.List.Sums.{count_by-le-length, length-filter, sum_by-le-sum_by}
use Rattle.qx_geom.proofs.UnchangedNode.{no_need}
use Rattle.qx_geom.specs.Positions.{Shape, at_level}
use Rattle.qx_geom.specs.Touch as node
use Rattle.qx_geom.specs.Touch.{fresh_at}
use Rattle.qx_model.specs.Tree.{Tree}
use Rattle.qx_model.specs.Owners.{Owner}
use Rattle.qx_model.specs.Edits.{Edit}
use Rattle.qx_model.specs.TreePositions.{Position, owners_of, positions_by, positions_in_node, positions_of, shape_in}
use Rattle.qx_model.specs.TreeTouch.{fresh_in_node, fresh_positions, private_in, written_in}

-- a filter leaves no more
filtered : {A : Type 0} (test : A → Bool) (xs : List A) → length (filter test xs) ≤ length xs
filtered test xs = omega (arith, length-filter test xs, count_by-le-length test xs)

-- how many positions are listed of a node
length-positions_by : (f : ℕ → List ℕ) (o : Owner) (s : Shape) → length (positions_by f o s) ≡ sum_by (λ k. length (f k)) (range_with_len 0 (s.levels + 1))
length-positions_by f o s =
    length-flat_map (λ k. map (λ j. let p : Position = record { owner = o; level = k; index = j } in p) (f k)) (range_with_len 0 (s.levels + 1))
    ∙ (λ i. sum_by (λ k. length-map (f k) (λ j. let p : Position = record { owner = o; level = k; index = j } in p) i) (range_with_len 0 (s.levels + 1)))

module _ (blocksize : ℕ) (old : Tree) (e : Edit) (private : Position → Bool) where
  -- what an edit needs in the node of an owner
  abbrev pub need_in : Owner → ℕ
  need_in o = node.need_of blocksize (shape_in blocksize old o) (shape_in blocksize e.tree o) (written_in o e.written) (private_in private o)

  length-fresh_in_node : (o : Owner) → length (fresh_in_node blocksize old e private o) ≡ need_in o
  unfolding node.need_of
  length-fresh_in_node o =
      length-positions_by (fresh_at blocksize (shape_in blocksize old o) (shape_in blocksize e.tree o) (written_in o e.written) (private_in private o)) o (shape_in blocksize e.tree o)

  -- all that it needs
  pub need_by_nodes : length (fresh_positions blocksize old e private) ≡ sum_by need_in (owners_of e.tree)
  unfolding fresh_positions
  need_by_nodes = length-flat_map (fresh_in_node blocksize old e private) (owners_of e.tree) ∙ (λ i. sum_by (λ o. length-fresh_in_node o i) (owners_of e.tree))

  -- a node whose shape stays, and into which nothing is written, needs nothing
  pub needs_nothing : (o : Owner) → shape_in blocksize e.tree o ≡ shape_in blocksize old o → written_in o e.written ≡ [] → need_in o ≡ 0
  needs_nothing o same none =
      (λ i. node.need_of blocksize (shape_in blocksize old o) (same i) (none i) (private_in private o)) ∙ no_need blocksize (shape_in blocksize old o) (private_in private o)

  -- how many positions the new tree has in the node of an owner
  abbrev count_in : Owner → ℕ
  count_in o = sum_by (λ k. length (at_level blocksize (shape_in blocksize e.tree o) k)) (range_with_len 0 ((shape_in blocksize e.tree o).levels + 1))

  count_by_nodes : length (positions_of blocksize e.tree) ≡ sum_by count_in (owners_of e.tree)
  count_by_nodes =
      length-flat_map (λ o. positions_in_node blocksize o (shape_in blocksize e.tree o)) (owners_of e.tree)
      ∙ (λ i. sum_by (λ o. length-positions_by (at_level blocksize (shape_in blocksize e.tree o)) o (shape_in blocksize e.tree o) i) (owners_of e.tree))

  need_in_bounded : (o : Owner) → need_in o ≤ count_in o
  unfolding node.need_of
  need_in_bounded o =
      sum_by-le-sum_by (λ k. length (fresh_at blocksize (shape_in blocksize old o) (shape_in blocksize e.tree o) (written_in o e.written) (private_in private o) k))
      (λ k. length (at_level blocksize (shape_in blocksize e.tree o) k)) (range_with_len 0 ((shape_in blocksize e.tree o).levels + 1))
      (λ k. filtered (node.is_fresh blocksize (shape_in blocksize old o) (shape_in blocksize e.tree o) (written_in o e.written) (private_in private o) k)
      (at_level blocksize (shape_in blocksize e.tree o) k))

  -- no more is needed than there are positions
  pub need_bounded : length (fresh_positions blocksize old e private) ≤ length (positions_of blocksize e.tree)
  need_bounded = omega (arith, need_by_nodes, count_by_nodes, sum_by-le-sum_by need_in count_in (owners_of e.tree) need_in_bounded)
