-- What was prepared above written leaves, row by row: of none, of a leaf, of one block more, over later states.
use Rattle.std.proofs.Common.{◌≡◌, ◌≢◌, ℕ, ◌+◌, ◌-◌, ◌^◌, ◌/◌, ◌<◌, ◌≤◌, inl, inr, List, [], ◌∷◌, length, set, refl, sym, ◌∙◌, ap, subst, arith, get_or-set_other, get_or-set_same}
use Rattle.std.specs.Prelude.{true, slice_index}
use Rattle.std.proofs.Math.Nat.{div-div-eq-div-mul}
use Rattle.std.proofs.lemmas.Nat.{pow-add}
use Rattle.std.proofs.lemmas.Bool.{or_right}
use Rattle.qx_geom.proofs.Members.{in_head}
use Rattle.qx_geom.specs.Lists.{is_in}
use Rattle.qx_geom.specs.Pointer.{per_block}
use Rattle.qx_geom.specs.Positions.{index_above}
use Rattle.qx_nodes.specs.BlockMap.{with_bytes}
use Rattle.qx_blocks.specs.BlockState.{BlockState}
use Rattle.qx_ptree.specs.declared.plan.Plan.{Plan}
use Rattle.qx_ptree.specs.Building.{LeafWork, taken, stays, moved, LiesUnder, Row, new_pointer, one_block, pointer_down, with_released}
use Rattle.qx_ptree.specs.Fates.{is_written}
use Rattle.qx_ptree.specs.Reaching.{IsOwnPosition, Reaches, own_blocks}
use Rattle.qx_ptree.specs.ReadyLeaves.{IsAbove, IsWrittenBy}
use Rattle.qx_ptree.specs.Takings.{Takes}
use Rattle.qx_ptree.specs.Trees.{block_map}
use Rattle.qx_ptree.specs.WorkState.{WorkState, and_then, no_work}
use Rattle.qx_ptree.proofs.OwnedPositions.{no_edits, owns_both, owns_fewer, owns_later, owns_none}
use Rattle.qx_ptree.proofs.UnderRows.{none_under, row_more, under_index, under_own}

-- ---- nothing written

-- where no written leaf lies below a row, nothing need be the work's own
pub reaches_nothing : (m n : BlockState) (plan : Plan) (work : WorkState) (row : Row) (tops : ℕ → ℕ) → work.edits ≡ [] → ((k j : ℕ) → IsOwnPosition m plan row k j → ⊥) → Reaches m n plan work row tops
reaches_nothing m n plan work row tops none out = owns_none n work (IsOwnPosition m plan row) (new_pointer m plan row tops) (no_edits work none) out

-- without work
pub reaches_no_work : (m n : BlockState) (plan : Plan) (row : Row) (tops : ℕ → ℕ) → ((k j : ℕ) → IsOwnPosition m plan row k j → ⊥) → Reaches m n plan no_work row tops
reaches_no_work m n plan row tops out = reaches_nothing m n plan no_work row tops refl out

-- of no blocks
pub reaches_empty : (m n : BlockState) (plan : Plan) (level first : ℕ) (tops : ℕ → ℕ) → Reaches m n plan no_work (record { level = level; first = first; count = 0 }) tops
reaches_empty m n plan level first tops =
    reaches_no_work m n plan (record { level = level; first = first; count = 0 }) tops (λ k j u. none_under (per_block m.holdings.size) (record { level = level; first = first; count = 0 }) k j refl u.under)

-- a written leaf stands below the block of a position that is its own
pub own_leaf : (m : BlockState) (plan : Plan) (level index k j : ℕ) → IsOwnPosition m plan (one_block level index) k j → (i : ℕ) × (is_written plan.change i ≡ true) × (index_above m.holdings.size level i ≡ index)
own_leaf m plan level index k j u =
    let P : ℕ = per_block m.holdings.size in
    let i : ℕ = u.above.leaf in
    let levels : k + (level - k) ≡ level = omega (arith, u.under.level) in
    let up : i / P ^ k / P ^ (level - k) ≡ i / P ^ level = div-div-eq-div-mul i (P ^ k) (P ^ (level - k)) ∙ ap (λ q. i / q) (sym (pow-add P k (level - k)) ∙ ap (λ e. P ^ e) levels) in
    (i, u.above.one, sym up ∙ ap (λ x. x / P ^ (level - k)) u.above.above ∙ under_index P level index k j u.under)

-- ---- later states

-- fresh blocks keep their bytes
pub reaches_later : (m n o : BlockState) (plan : Plan) (work : WorkState) (row : Row) (tops : ℕ → ℕ) → ((b : ℕ) → is_in work.fresh b ≡ true → o.bytes b ≡ n.bytes b) → Reaches m n plan work row tops → Reaches m o plan work row tops
reaches_later m n o plan work row tops stay r = owns_later n o work (IsOwnPosition m plan row) (new_pointer m plan row tops) stay r

-- so they do where more blocks are taken
pub fresh_stay : (f g : List ℕ) (m n o : BlockState) → Takes f m n → Takes g n o → (b : ℕ) → is_in f b ≡ true → o.bytes b ≡ n.bytes b
fresh_stay f g m n o t u b h = u.ready_bytes b (t.ready b (or_right (m.holdings.ready b) (is_in f b) h))

-- the size and the count of the blocks before are all that counts of them
pub reaches_sized : (m o n : BlockState) (plan : Plan) (work : WorkState) (row : Row) (tops : ℕ → ℕ) → o.holdings.size ≡ m.holdings.size → o.holdings.count ≡ m.holdings.count → Reaches o n plan work row tops → Reaches m n plan work row tops
reaches_sized m o n plan work row tops size count r =
    owns_fewer n work (IsOwnPosition o plan row) (IsOwnPosition m plan row) (new_pointer o plan row tops) (new_pointer m plan row tops)
    (λ k j u. record { under = subst (λ s. LiesUnder (per_block s) row k j) (sym size) u.under; above = subst (λ s. IsAbove s (IsWrittenBy plan.change) k j) (sym size) u.above })
    (λ bytes k j u i. pointer_down (record { order = plan.order; size = sym size i; count = sym count i; bytes = bytes }) (row.level - k) (tops (j / per_block (sym size i) ^ (row.level - k))) j)
    r

-- ---- work before

-- blocks that are to be given up as well
pub reaches_behind : (m n : BlockState) (plan : Plan) (work : WorkState) (blocks : List ℕ) (row : Row) (tops : ℕ → ℕ) → Reaches m n plan work row tops → Reaches m n plan (and_then (with_released no_work blocks) work) row tops
reaches_behind m n plan work blocks row tops r =
    owns_both (with_released no_work blocks) work n (IsOwnPosition m plan row) (λ k j. ⊥) (IsOwnPosition m plan row) (new_pointer m plan row tops) (new_pointer m plan row tops) (new_pointer m plan row tops)
    (λ k j u. inr u) (λ bytes s k j u x. refl) (λ bytes s k j u x. refl)
    (owns_none n (with_released no_work blocks) (λ k j. ⊥) (new_pointer m plan row tops) (no_edits (with_released no_work blocks) refl) (λ k j x. x)) r

-- ---- one block more

pub reaches_more : (m n : BlockState) (plan : Plan) (a b : WorkState) (level first count : ℕ) (before last tops : ℕ → ℕ) → ((x : ℕ) → first ≤ x → x < first + count → tops x ≡ before x) → tops (first + count) ≡ last (first + count)
    → Reaches m n plan a (record { level = level; first = first; count = count }) before → Reaches m n plan b (one_block level (first + count)) last
    → Reaches m n plan (and_then a b) (record { level = level; first = first; count = count + 1 }) tops
reaches_more m n plan a b level first count before last tops same end p q =
    let P : ℕ = per_block m.holdings.size in
    let row : Row = record { level = level; first = first; count = count } in
    let more : Row = record { level = level; first = first; count = count + 1 } in
    let one : Row = one_block level (first + count) in
    owns_both a b n (IsOwnPosition m plan more) (IsOwnPosition m plan row) (IsOwnPosition m plan one) (new_pointer m plan more tops) (new_pointer m plan row before) (new_pointer m plan one last)
    (λ k j u. elim (row_more P level first count k j u.under) [ inl x ↦ inl (record { under = x; above = u.above }) | inr y ↦ inr (record { under = y; above = u.above }) ])
    (λ bytes s k j u x. ap (λ t. pointer_down (with_bytes (block_map plan.order m) bytes) (level - k) t j) (same (j / P ^ (level - k)) x.under.from x.under.to))
    (λ bytes s k j u x. let is : j / P ^ (level - k) ≡ first + count = under_index P level (first + count) k j x.under in
    ap (λ t. pointer_down (with_bytes (block_map plan.order m) bytes) (level - k) t j) (ap tops is ∙ end ∙ sym (ap last is)))
    p q

-- whose pointer is put behind those before
pub reaches_next : (m n : BlockState) (plan : Plan) (a b : WorkState) (level first w p : ℕ) (pointers : List ℕ) → w < length pointers
    → Reaches m n plan a (record { level = level; first = first; count = w }) (λ x. slice_index pointers (x - first)) → Reaches m n plan b (one_block level (first + w)) (λ x. p)
    → Reaches m n plan (and_then a b) (record { level = level; first = first; count = w + 1 }) (λ x. slice_index (set pointers w p) (x - first))
reaches_next m n plan a b level first w p pointers low before last =
    reaches_more m n plan a b level first w (λ x. slice_index pointers (x - first)) (λ x. p) (λ x. slice_index (set pointers w p) (x - first))
    (λ x from to. let other : x - first ≢ w = omega arith in get_or-set_other pointers w (x - first) p 0 other)
    (let at : first + w - first ≡ w = omega arith in ap (λ x. slice_index (set pointers w p) x) at ∙ get_or-set_same pointers w p 0 low)
    before last

-- of the node's own pointers
pub reaches_next_top : (m n : BlockState) (plan : Plan) (a b : WorkState) (level w p : ℕ) (pointers : List ℕ) → w < length pointers
    → Reaches m n plan a (record { level = level; first = 0; count = w }) (slice_index pointers) → Reaches m n plan b (one_block level w) (λ x. p)
    → Reaches m n plan (and_then a b) (record { level = level; first = 0; count = w + 1 }) (slice_index (set pointers w p))
reaches_next_top m n plan a b level w p pointers low before last =
    reaches_more m n plan a b level 0 w (slice_index pointers) (λ x. p) (slice_index (set pointers w p))
    (λ x from to. let other : x ≢ w = omega arith in get_or-set_other pointers w x p 0 other)
    (let at : 0 + w ≡ w = omega arith in ap (λ x. slice_index (set pointers w p) x) at ∙ get_or-set_same pointers w p 0 low)
    before (let at : w ≡ 0 + w = omega arith in subst (λ x. Reaches m n plan b (one_block level x) (λ y. p)) at last)

-- ---- a leaf

-- the block of a written leaf is the work's own
leaf_own : (n o : BlockState) (p b : ℕ) (work : WorkState) → LeafWork n o p b work → (is_in (own_blocks work) b ≡ true) × (work.edits ≡ [])
leaf_own n o p b _ (taken none bytes) = (in_head b [], refl)
leaf_own n o p b _ (stays there private is) = (subst (λ x. is_in (p ∷ []) x ≡ true) (sym is) (in_head p []), refl)
leaf_own n o p b _ (moved there shared bytes) = (in_head b [], refl)

-- a written leaf
pub reaches_leaf : (m n o : BlockState) (plan : Plan) (index p b : ℕ) (work : WorkState) → LeafWork n o p b work → Reaches m o plan work (one_block 0 index) (λ x. b)
reaches_leaf m n o plan index p b work w =
    let P : ℕ = per_block m.holdings.size in
    let own : (is_in (own_blocks work) b ≡ true) × (work.edits ≡ []) = leaf_own n o p b work w in
    record {
      own = λ bytes s k j u. let level : 0 - k ≡ 0 = omega arith in subst (λ x. is_in (own_blocks work) x ≡ true) (sym (ap (λ d. pointer_down (with_bytes (block_map plan.order m) bytes) d b j) level)) own.0;
      apart = λ bytes s d k j h i u v same.
          let x : (k ≡ 0) × (j ≡ index) = under_own P 0 index k j u.under (omega arith) in
          let y : (h ≡ 0) × (i ≡ index) = under_own P 0 index h i v.under (omega arith) in
          (x.0 ∙ sym y.0, x.1 ∙ sym y.1);
      edits = no_edits work own.1;
    }
