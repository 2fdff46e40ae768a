-- What a new volume's system root nodes meet: each block of a tree, at its level and index.
use Rattle.std.proofs.Common.{◌≡◌, ℕ, inl, inr, zero, suc, ◌+◌, ◌-◌, ◌*◌, ◌≤◌, ◌<◌, ◌^◌, List, [], ◌∷◌, Bool, true, false, refl, ap, ◌∙◌, subst, arith}
use Rattle.std.specs.Prelude.{if◌then◌else◌, ◌||◌, ◌==◌, nat_le, nat_lt, Contains, slice_index_or}
use Rattle.std.proofs.lemmas.Bool.{cases_order, eq-eqb, ltb-true}
use Rattle.std.proofs.lemmas.List.FromFn.{get_or-map-range_with_len}
use Rattle.qx_geom.specs.declared.system.SystemTree.{SystemTree}
use Rattle.qx_geom.specs.declared.area.Which.{Which}
use Rattle.qx_geom.specs.declared.geometry.Geometry.{Geometry}
use Rattle.qx_geom.specs.declared.root.Root.{Root}
use Rattle.qx_geom.specs.Layout.{IsTreeBlock, below_level, is_block_size, level_count, levels_for, system_pointer, system_root_of, tree_base, tree_leaves}
use Rattle.qx_geom.specs.Lists.{parts_below}
use Rattle.qx_geom.specs.Pointer.{absent, per_block}
use Rattle.qx_geom.proofs.LevelCounts.{below_level-more}
use Rattle.qx_geom.proofs.Members.{Contains-cases, parts-Contains}
use Rattle.qx_geom.proofs.VolumeNumbers.{IsGeometry-keeps}
use Rattle.qx_nodes.specs.BlockMap.{BlockMap, word}
use Rattle.qx_nodes.specs.Leaves.{leaves_below}
use Rattle.qx_nodes.specs.Visits.{Visit, visits_of, visits_under}
use Rattle.qx_nodes.proofs.DistinctPositions.{if_filled}
use Rattle.qx_make.proofs.NewBlocks.{NewBlocks, blocks}
use Rattle.qx_make.proofs.NewWords.{word_is}

-- the block of a visit is that of the visit's level and index
abbrev pub StandsInTree : NewBlocks → Which → SystemTree → Visit → Type 0
StandsInTree n which tree v = IsTreeBlock n.geometry which tree v.level v.index v.block

-- one block stands at one level and index
pub one_place : (n : NewBlocks) (which : Which) (tree : SystemTree) (l k i j b : ℕ) → IsTreeBlock n.geometry which tree l i b → IsTreeBlock n.geometry which tree k j b → (l ≡ k) × (i ≡ j)
one_place n which tree l k i j b s t = elim (cases_order l k) [
  | inl same ↦ (same, let below : below_level size leaves l ≡ below_level size leaves k = ap (λ z. below_level size leaves z) same in omega (arith, s.place, t.place))
  | inr apart ↦ elim apart [
    | inl less ↦ absurd (omega (arith, s.place, t.place, s.index_there, below_level-more size leaves sized (suc l) k (omega arith)))
    | inr more ↦ absurd (omega (arith, s.place, t.place, t.index_there, below_level-more size leaves sized (suc k) l (omega arith)))
  ]
]
  where
    -- the block size
    size : ℕ
    size = n.geometry.blocksize

    -- the tree's leaves
    leaves : ℕ
    leaves = tree_leaves n.geometry tree

    -- which is one of the four
    sized : is_block_size size ≡ true
    sized = (IsGeometry-keeps n.geometry n.whole).block_size

-- a member of what is there unless one of two tests holds
unless_either : {A : Type 0} (a b : Bool) (x : A) (xs : List A) → Contains (if a || b then [] else xs) x → (a ≡ false) × Contains xs x
unless_either true b x xs c = absurd (omega (arith, c.1))
unless_either false true x xs c = absurd (omega (arith, c.1))
unless_either false false x xs c = (refl, c)

module _ (n : NewBlocks) (which : Which) (tree : SystemTree) where
  -- the volume's numbers
  abbrev g : Geometry
  g = n.geometry

  -- its blocks
  abbrev m : BlockMap
  m = blocks n

  -- where the tree begins
  abbrev base : ℕ
  base = tree_base g which tree

  -- how many leaves it has
  abbrev leaves : ℕ
  leaves = tree_leaves g tree

  -- a pointer of the tree that is there leads to the block of its level and index
  pointed : (level index p : ℕ) → level ≤ levels_for g.blocksize leaves → p ≡ system_pointer g.blocksize base leaves level index → (p == absent) ≡ false → IsTreeBlock g which tree level index p
  pointed level index p up is there = go (nat_lt index (level_count g.blocksize leaves level)) refl is
    where
      -- whether it is there or not
      go : (b : Bool) → nat_lt index (level_count g.blocksize leaves level) ≡ b → p ≡ (if b then base + below_level g.blocksize leaves level + index else absent) → IsTreeBlock g which tree level index p
      go true e is = record { level_there = up; index_there = ltb-true index (level_count g.blocksize leaves level) e; place = is }
      go false e is = let gone : (p == absent) ≡ true = eq-eqb p absent is in absurd (cc)

  -- what is met below such a pointer stands in the tree
  met_under : (last l index p : ℕ) → l ≤ levels_for g.blocksize leaves → p ≡ system_pointer g.blocksize base leaves l index → (u : Visit) → Contains (visits_under m last l index p) u → StandsInTree n which tree u
  met_under last zero index p up is u c =
      let top : Visit = record { level = 0; index = index; block = p } in
      let there : ((p == absent) ≡ false) × Contains (top ∷ []) u = unless_either (p == absent) (nat_le last index) u (top ∷ []) c in
      elim (Contains-cases top u [] there.1) [
        | inl here ↦ subst (λ x. StandsInTree n which tree x) here (pointed 0 index p up is there.0)
        | inr none ↦ absurd (omega (arith, none.1))
      ]
  met_under last (suc l) index p up is u c =
      let top : Visit = record { level = suc l; index = index; block = p } in
      let part : ℕ → List Visit = λ w. visits_under m last l (index * per_block m.size + w) (word m p w) in
      let rest : List Visit = if nat_lt p m.count then parts_below (per_block m.size) part else [] in
      let there : ((p == absent) ≡ false) × Contains (top ∷ rest) u = unless_either (p == absent) (nat_le last (index * per_block m.size ^ suc l)) u (top ∷ rest) c in
      let at : IsTreeBlock g which tree (suc l) index p = pointed (suc l) index p up is there.0 in
      elim (Contains-cases top u rest there.1) [
        | inl here ↦ subst (λ x. StandsInTree n which tree x) here at
        | inr below ↦
            let from : (w : ℕ) × (w < per_block m.size) × Contains (part w) u = parts-Contains (per_block m.size) part u (if_filled (nat_lt p m.count) u (parts_below (per_block m.size) part) below) in
            let back : suc l - 1 ≡ l = omega arith in
            let leads : word m p from.0 ≡ system_pointer g.blocksize base leaves l (index * per_block m.size + from.0) = word_is n which tree (suc l) index p from.0 (omega arith) at from.1 ∙ ap (λ k. system_pointer g.blocksize base leaves k (index * per_block m.size + from.0)) back in
            met_under last l (index * per_block m.size + from.0) (word m p from.0) (omega arith) leads u from.2
      ]

  -- so what the root node meets stands in the tree
  pub system_met : (u : Visit) → Contains (visits_of m (system_root_of g which tree)) u → StandsInTree n which tree u
  unfolding system_root_of
  system_met u c =
      let node : Root = system_root_of g which tree in
      let part : ℕ → List Visit = λ j. visits_under m (leaves_below m node) node.levels j (slice_index_or node.pointers j absent) in
      let from : (j : ℕ) × (j < 16) × Contains (part j) u = parts-Contains 16 part u c in
      met_under (leaves_below m node) (levels_for g.blocksize leaves) from.0 (slice_index_or node.pointers from.0 absent) (omega arith)
      (get_or-map-range_with_len (λ j. system_pointer g.blocksize base leaves (levels_for g.blocksize leaves) j) 0 16 from.0 from.0 absent from.1 (omega arith)) u from.2
