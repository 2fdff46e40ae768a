-- A system tree: its root node meets its own blocks, and all of them.
use Rattle.std.proofs.Common.{◌≡◌, inl, inr, ℕ, zero, suc, ◌+◌, ◌-◌, ◌*◌, ◌^◌, ◌/◌, ◌%◌, ◌≤◌, ◌<◌, List, [], ◌∷◌, refl, ap, sym, ◌∙◌, subst, arith}
use Rattle.std.specs.Prelude.{Bool, true, false, Contains, nat_le, nat_lt, ◌||◌, ◌==◌, if◌then◌else◌, slice_index_or}
use Rattle.std.specs.List.{list_all}
use Rattle.std.proofs.Math.Nat.{le-div_iff_mul-le, mul-le-mul_right, mod-lt, div-mul-le_self, pow-succ', pow-zero, mul_assoc}
use Rattle.std.proofs.lemmas.Bool.{eqb-true, ltb-true, ltb-false, lt-ltb, lt-leb, ne_eqb, cond-true}
use Rattle.std.proofs.lemmas.List.FromFn.{get_or-map-range_with_len}
use Rattle.std.proofs.lemmas.Nat.{div-add-mod'}
use Rattle.qx_geom.proofs.BlockSizes.{block_size-bounds, power_pos, reach-two}
use Rattle.qx_geom.proofs.LeastLevels.{levels_for-reach}
use Rattle.qx_geom.proofs.LevelCounts.{ceil_div-below, ceil_div-le, level-within}
use Rattle.qx_geom.proofs.Members.{Contains-cases, Contains-cons, Contains-head, Contains-parts, parts-Contains}
use Rattle.qx_geom.proofs.SystemBlocks.{level_of}
use Rattle.qx_geom.specs.Layout.{below_level, is_block_size, level_count, levels_for, system_pointer, system_tree, tree_blocks}
use Rattle.qx_geom.specs.Lists.{each_below, parts_below}
use Rattle.qx_geom.specs.Pointer.{absent, ceil_div, per_block}
use Rattle.qx_geom.specs.declared.root.Root.{Root}
use Rattle.qx_nodes.specs.BlockMap.{BlockMap, word}
use Rattle.qx_nodes.specs.Leaves.{leaves_below}
use Rattle.qx_nodes.specs.Visits.{Visit, visits_of, visits_under}
use Rattle.qx_view.proofs.AlikeLists.{below_all}
use Rattle.qx_view.specs.Sound.{has_system_words, is_system_tree}

-- the block is one of the tree that begins at `base`
pub record IsInTree (size base n block : ℕ) : Type 0 where
  pub from : base ≤ block
  pub to : block < base + tree_blocks size n

-- ---- what is met lies in the tree

module _ (m : BlockMap) (base n : ℕ) (sized : is_block_size m.size ≡ true) (words : is_system_tree m base n ≡ true) where
  -- a pointer of the tree that is there leads into it
  pointer_in : (k j : ℕ) → k ≤ levels_for m.size n → (system_pointer m.size base n k j == absent) ≡ false → (j < level_count m.size n k) × IsInTree m.size base n (system_pointer m.size base n k j)
  pointer_in k j low there = go (nat_lt j (level_count m.size n k)) refl there
    where
      go : (b : Bool) → nat_lt j (level_count m.size n k) ≡ b → ((if b then base + below_level m.size n k + j else absent) == absent) ≡ false → (j < level_count m.size n k) × IsInTree m.size base n (if b then base + below_level m.size n k + j else absent)
      go true e there = let within : j < level_count m.size n k = ltb-true j (level_count m.size n k) e in (within, record { from = omega arith; to = omega (arith, level-within m.size n sized k low) })
      go false e there = absurd (cc)

  -- a word of a pointer block leads on in the tree
  word_leads : (l index w : ℕ) → suc l ≤ levels_for m.size n → index < level_count m.size n (suc l) → w < per_block m.size → word m (system_pointer m.size base n (suc l) index) w ≡ system_pointer m.size base n l (index * per_block m.size + w)
  word_leads l index w low within small =
      let level : list_all (λ j. has_system_words m base n l j) (each_below (level_count m.size n (suc l)) (λ j. j)) ≡ true = below_all (λ k. list_all (λ j. has_system_words m base n k j) (each_below (level_count m.size n (suc k)) (λ j. j))) (levels_for m.size n) l words (omega arith) in
      let block : has_system_words m base n l index ≡ true = below_all (λ j. has_system_words m base n l j) (level_count m.size n (suc l)) index level within in
      eqb-true _ _ (below_all (λ w. word m (system_pointer m.size base n (suc l) index) w == system_pointer m.size base n l (index * per_block m.size + w)) (per_block m.size) w block small)

  -- what is met below such a pointer lies in the tree
  visits_in : (last l index p : ℕ) → l ≤ levels_for m.size n → p ≡ system_pointer m.size base n l index → (v : Visit) → Contains (visits_under m last l index p) v → IsInTree m.size base n v.block
  visits_in last zero index p low is v c = go (p == absent) (nat_le last index) refl c
    where
      go : (a b : Bool) → (p == absent) ≡ a → Contains (if a || b then [] else record { level = 0; index = index; block = p } ∷ []) v → IsInTree m.size base n v.block
      go true b e c = absurd (omega (arith, c.1))
      go false true e c = absurd (omega (arith, c.1))
      go false false e c = elim (Contains-cases (record { level = 0; index = index; block = p }) v [] c) [
        | inl here ↦ subst (λ x. IsInTree m.size base n x.block) here (subst (λ q. IsInTree m.size base n q) (sym is) (pointer_in 0 index low (subst (λ q. (q == absent) ≡ false) is e)).1)
        | inr none ↦ absurd (omega (arith, none.1))
      ]
  visits_in last (suc l) index p low is v c =
      go (p == absent) (nat_le last (index * per_block m.size ^ suc l)) (nat_lt p m.count) refl c
      (λ w at e. visits_in last l (index * per_block m.size + w) (word m p w) (omega arith) e v at)
    where
      go : (a b d : Bool) → (p == absent) ≡ a
          → Contains (if a || b then [] else record { level = suc l; index = index; block = p } ∷ (if d then parts_below (per_block m.size) (λ w. visits_under m last l (index * per_block m.size + w) (word m p w)) else [])) v
          → ((w : ℕ) → Contains (visits_under m last l (index * per_block m.size + w) (word m p w)) v → word m p w ≡ system_pointer m.size base n l (index * per_block m.size + w) → IsInTree m.size base n v.block)
          → IsInTree m.size base n v.block
      go true b d e c more = absurd (omega (arith, c.1))
      go false true d e c more = absurd (omega (arith, c.1))
      go false false d e c more = elim (Contains-cases (record { level = suc l; index = index; block = p }) v (if d then parts_below (per_block m.size) (λ w. visits_under m last l (index * per_block m.size + w) (word m p w)) else []) c) [
        | inl here ↦ subst (λ x. IsInTree m.size base n x.block) here (subst (λ q. IsInTree m.size base n q) (sym is) at.1)
        | inr below ↦ under d below
      ]
        where
          at : (index < level_count m.size n (suc l)) × IsInTree m.size base n (system_pointer m.size base n (suc l) index)
          at = pointer_in (suc l) index low (subst (λ q. (q == absent) ≡ false) is e)

          under : (d : Bool) → Contains (if d then parts_below (per_block m.size) (λ w. visits_under m last l (index * per_block m.size + w) (word m p w)) else []) v → IsInTree m.size base n v.block
          under false c = absurd (omega (arith, c.1))
          under true c =
              let part : (w : ℕ) × (w < per_block m.size) × Contains (visits_under m last l (index * per_block m.size + w) (word m p w)) v = parts-Contains (per_block m.size) (λ w. visits_under m last l (index * per_block m.size + w) (word m p w)) v c in
              more part.0 part.2 (ap (λ q. word m q part.0) is ∙ word_leads l index part.0 low at.0 part.1)

  -- pointer j of the root node
  root_pointer : (size j : ℕ) → j < 16 → slice_index_or (system_tree m.size base n size).pointers j absent ≡ system_pointer m.size base n (levels_for m.size n) j
  root_pointer size j low = get_or-map-range_with_len (λ j. system_pointer m.size base n (levels_for m.size n) j) 0 16 j j absent low (omega arith)

  -- so the root node meets blocks of the tree alone
  pub met_in_tree : (size : ℕ) (v : Visit) → Contains (visits_of m (system_tree m.size base n size)) v → IsInTree m.size base n v.block
  met_in_tree size v c =
      let node : Root = system_tree m.size base n size in
      let at : (j : ℕ) × (j < 16) × Contains (visits_under m (leaves_below m node) node.levels j (slice_index_or node.pointers j absent)) v = parts-Contains 16 (λ j. visits_under m (leaves_below m node) node.levels j (slice_index_or node.pointers j absent)) v c in
      visits_in (leaves_below m node) (levels_for m.size n) at.0 (slice_index_or node.pointers at.0 absent) (omega arith) (root_pointer size at.0 at.1) v at.2

-- ---- all of the tree is met

-- what a block's words lead to is met where the block is
pub met_below : (m : BlockMap) (last l index p k w : ℕ) (v u : Visit) → v.level ≡ suc k → v.block < m.count → w < per_block m.size → Contains (visits_under m last l index p) v
    → Contains (visits_under m last k (v.index * per_block m.size + w) (word m v.block w)) u → Contains (visits_under m last l index p) u
met_below m last zero index p k w v u level low small c d = go (p == absent || nat_le last index) c
  where
    go : (a : Bool) → Contains (if a then [] else record { level = 0; index = index; block = p } ∷ []) v → Contains (if a then [] else record { level = 0; index = index; block = p } ∷ []) u
    go true c = absurd (omega (arith, c.1))
    go false c = elim (Contains-cases (record { level = 0; index = index; block = p }) v [] c) [
      | inl here ↦ let leaf : 0 ≡ v.level = ap (λ (x : Visit). x.level) here in absurd (omega (arith, level))
      | inr none ↦ absurd (omega (arith, none.1))
    ]
met_below m last (suc l) index p k w v u level low small c d =
    go (p == absent || nat_le last (index * per_block m.size ^ suc l)) (nat_lt p m.count) refl c (λ i c. met_below m last l (index * per_block m.size + i) (word m p i) k w v u level low small c d)
  where
    part : ℕ → List Visit
    part i = visits_under m last l (index * per_block m.size + i) (word m p i)

    top : Visit
    top = record { level = suc l; index = index; block = p }

    at_top : (b : Bool) → nat_lt p m.count ≡ b → top ≡ v → Contains (if b then parts_below (per_block m.size) part else []) u
    at_top true e here =
        let one : l ≡ k = (let up : suc l ≡ v.level = ap (λ (x : Visit). x.level) here in omega (arith, level)) in
        let moved : Contains (visits_under m last k (index * per_block m.size + w) (word m p w)) u = subst (λ (x : Visit). Contains (visits_under m last k (x.index * per_block m.size + w) (word m x.block w)) u) (sym here) d in
        Contains-parts (per_block m.size) part w u small (subst (λ z. Contains (visits_under m last z (index * per_block m.size + w) (word m p w)) u) (sym one) moved)
    at_top false e here = let same : p ≡ v.block = ap (λ (x : Visit). x.block) here in absurd (omega (arith, ltb-false p m.count e))

    go : (a b : Bool) → nat_lt p m.count ≡ b → Contains (if a then [] else top ∷ (if b then parts_below (per_block m.size) part else [])) v
        → ((i : ℕ) → Contains (part i) v → Contains (part i) u) → Contains (if a then [] else top ∷ (if b then parts_below (per_block m.size) part else [])) u
    go true b e c more = absurd (omega (arith, c.1))
    go false b e c more = Contains-cons top u (if b then parts_below (per_block m.size) part else []) (elim (Contains-cases top v (if b then parts_below (per_block m.size) part else []) c) [
      | inl here ↦ at_top b e here
      | inr there ↦ further b there
    ])
      where
        further : (b : Bool) → Contains (if b then parts_below (per_block m.size) part else []) v → Contains (if b then parts_below (per_block m.size) part else []) u
        further true c = let at : (i : ℕ) × (i < per_block m.size) × Contains (part i) v = parts-Contains (per_block m.size) part v c in Contains-parts (per_block m.size) part at.0 u at.1 (more at.0 at.2)
        further false c = absurd (omega (arith, c.1))

-- a pointer that is there and leads below the size is met
pub met_there : (m : BlockMap) (last l index p : ℕ) → (p == absent) ≡ false → index * per_block m.size ^ l < last → Contains (visits_under m last l index p) (record { level = l; index = index; block = p })
met_there m last l index p there low = by_level l low
  where
    top : (a b : Bool) (v : Visit) (rest : List Visit) → a ≡ false → b ≡ false → Contains (if a || b then [] else v ∷ rest) v
    top true b v rest e f = absurd (cc)
    top false true v rest e f = absurd (cc)
    top false false v rest e f = Contains-head v rest

    by_level : (l : ℕ) → index * per_block m.size ^ l < last → Contains (visits_under m last l index p) (record { level = l; index = index; block = p })
    by_level zero low =
        let first : index * per_block m.size ^ zero ≡ index * 1 = ap (λ z. index * z) (pow-zero (per_block m.size)) in
        top (p == absent) (nat_le last index) (record { level = 0; index = index; block = p }) [] there (lt-leb last index (omega (arith, low, first)))
    by_level (suc l) low = top (p == absent) (nat_le last (index * per_block m.size ^ suc l)) (record { level = suc l; index = index; block = p }) _ there (lt-leb last (index * per_block m.size ^ suc l) low)

-- a part that begins below the number is one of the rounded quotient
below-ceil_div : (n p j : ℕ) → 0 < p → j * p < n → j < ceil_div n p
below-ceil_div n p j some less = let whole : (j + 1) * p ≤ n + p - 1 = omega arith in let most : j + 1 ≤ (n + p - 1) / p = (le-div_iff_mul-le some).1 whole in omega arith

module _ (m : BlockMap) (base n size : ℕ) (sized : is_block_size m.size ≡ true) (words : is_system_tree m base n ≡ true)
    (few : n ≤ 2 ^ 18) (low : base + tree_blocks m.size n ≤ 2 ^ 28) (count : base + tree_blocks m.size n ≤ m.count) (leaves : ceil_div size m.size ≡ n) where
  -- the root node
  abbrev root : Root
  root = system_tree m.size base n size

  -- block `index` of a level
  abbrev tree_visit : ℕ → ℕ → Visit
  tree_visit level index = record { level = level; index = index; block = base + below_level m.size n level + index }

  -- it is the one to which its pointer leads
  pointer_is : (level index : ℕ) → index < level_count m.size n level → system_pointer m.size base n level index ≡ base + below_level m.size n level + index
  pointer_is level index within = cond-true _ _ _ (lt-ltb index (level_count m.size n level) within)

  -- and a block
  tree_visit-low : (level index : ℕ) → level ≤ levels_for m.size n → index < level_count m.size n level → base + below_level m.size n level + index < base + tree_blocks m.size n
  tree_visit-low level index up within = omega (arith, level-within m.size n sized level up)

  -- where it begins below the size
  tree_visit-met : (level index : ℕ) → level ≤ levels_for m.size n → index < level_count m.size n level → (last : ℕ) → last ≡ n → Contains (visits_under m last level index (system_pointer m.size base n level index)) (tree_visit level index)
  tree_visit-met level index up within last same =
      let is : system_pointer m.size base n level index ≡ base + below_level m.size n level + index = pointer_is level index within in
      let there : (base + below_level m.size n level + index == absent) ≡ false = ne_eqb _ _ (λ e. omega (arith, e, low, tree_visit-low level index up within)) in
      subst (λ p. Contains (visits_under m last level index p) (tree_visit level index)) (sym is)
      (met_there m last level index (base + below_level m.size n level + index) there (omega (arith, same, ceil_div-below n (per_block m.size ^ level) index (power_pos m.size level sized) within)))

  -- a block of the top level is met from the root node
  met_from_root : (index : ℕ) → index < level_count m.size n (levels_for m.size n) → Contains (visits_of m root) (tree_visit (levels_for m.size n) index)
  met_from_root index within =
      let reached : n ≤ 16 * per_block m.size ^ levels_for m.size n = levels_for-reach m.size n 2 (omega arith) (reach-two m.size n sized few) in
      let first : index < 16 = omega (arith, ceil_div-le n (per_block m.size ^ levels_for m.size n) 16 (power_pos m.size (levels_for m.size n) sized) reached) in
      Contains-parts 16 (λ j. visits_under m (leaves_below m root) (levels_for m.size n) j (slice_index_or root.pointers j absent)) index (tree_visit (levels_for m.size n) index) first
      (subst (λ p. Contains (visits_under m (leaves_below m root) (levels_for m.size n) index p) (tree_visit (levels_for m.size n) index)) (sym (root_pointer m base n sized words size index first))
      (tree_visit-met (levels_for m.size n) index (omega arith) within (leaves_below m root) leaves))

  -- a block below has its pointer in a block above
  above-within : (level index : ℕ) → index < level_count m.size n level → index / per_block m.size < level_count m.size n (suc level)
  above-within level index within =
      let power : ℕ = per_block m.size ^ level in
      let begins : index * power < n = ceil_div-below n power index (power_pos m.size level sized) within in
      let less : index / per_block m.size * per_block m.size * power ≤ index * power = mul-le-mul_right power (div-mul-le_self index (per_block m.size)) in
      let up : per_block m.size ^ suc level ≡ per_block m.size * power = pow-succ' (per_block m.size) level in
      let same : index / per_block m.size * (per_block m.size * power) ≡ index / per_block m.size * per_block m.size * power = sym (mul_assoc (index / per_block m.size) (per_block m.size) power) in
      below-ceil_div n (per_block m.size ^ suc level) (index / per_block m.size) (power_pos m.size (suc level) sized) (omega (arith, ap (λ z. index / per_block m.size * z) up, same, less, begins))

  -- each block of a level so many below the top is met
  pub met_of_level : (down level index : ℕ) → level + down ≡ levels_for m.size n → index < level_count m.size n level → Contains (visits_of m root) (tree_visit level index)
  met_of_level zero level index at within = let top : levels_for m.size n ≡ level = omega arith in subst (λ k. Contains (visits_of m root) (tree_visit k index)) top (met_from_root index (subst (λ k. index < level_count m.size n k) (sym top) within))
  met_of_level (suc down) level index at within =
      let bounds = block_size-bounds m.size sized in
      let small : index % per_block m.size < per_block m.size = mod-lt index (omega (arith, bounds.pointers_from)) in
      let up : index / per_block m.size < level_count m.size n (suc level) = above-within level index within in
      let parent : Contains (visits_of m root) (tree_visit (suc level) (index / per_block m.size)) = met_of_level down (suc level) (index / per_block m.size) (omega arith) up in
      let whole : index / per_block m.size * per_block m.size + index % per_block m.size ≡ index = div-add-mod' index (per_block m.size) in
      let leads : word m (base + below_level m.size n (suc level) + index / per_block m.size) (index % per_block m.size) ≡ system_pointer m.size base n level index =
      ap (λ q. word m q (index % per_block m.size)) (sym (pointer_is (suc level) (index / per_block m.size) up))
      ∙ word_leads m base n sized words level (index / per_block m.size) (index % per_block m.size) (omega arith) up small
      ∙ ap (λ j. system_pointer m.size base n level j) whole in
      let under : Contains (visits_under m (leaves_below m root) level (index / per_block m.size * per_block m.size + index % per_block m.size) (word m (base + below_level m.size n (suc level) + index / per_block m.size) (index % per_block m.size))) (tree_visit level index) =
      subst (λ j. Contains (visits_under m (leaves_below m root) level j (word m (base + below_level m.size n (suc level) + index / per_block m.size) (index % per_block m.size))) (tree_visit level index)) (sym whole)
      (subst (λ p. Contains (visits_under m (leaves_below m root) level index p) (tree_visit level index)) (sym leads) (tree_visit-met level index (omega arith) within (leaves_below m root) leaves)) in
      let part : ℕ → List Visit = λ j. visits_under m (leaves_below m root) root.levels j (slice_index_or root.pointers j absent) in
      let from : (j : ℕ) × (j < 16) × Contains (part j) (tree_visit (suc level) (index / per_block m.size)) = parts-Contains 16 part (tree_visit (suc level) (index / per_block m.size)) parent in
      Contains-parts 16 part from.0 (tree_visit level index) from.1
      (met_below m (leaves_below m root) root.levels from.0 (slice_index_or root.pointers from.0 absent) level (index % per_block m.size) (tree_visit (suc level) (index / per_block m.size)) (tree_visit level index) refl
      (omega (arith, count, tree_visit-low (suc level) (index / per_block m.size) (omega arith) up)) small from.2 under)

  -- so each block of the tree is
  pub tree_met : (block : ℕ) → IsInTree m.size base n block → (v : Visit) × Contains (visits_of m root) v × (v.block ≡ block)
  unfolding tree_blocks
  tree_met block inside =
      let at = level_of m.size n (suc (levels_for m.size n)) (block - base) (omega (arith, inside.from, inside.to)) in
      (tree_visit at.0 (block - base - below_level m.size n at.0), met_of_level (levels_for m.size n - at.0) at.0 (block - base - below_level m.size n at.0) (omega (arith, at.1)) (omega (arith, at.2, at.3)), omega (arith, at.2, inside.from))
