-- The part of an altered node below a block is made of those below the blocks that it points to.
use Rattle.std.proofs.Common.{◌≡◌, ℕ, zero, suc, ◌+◌, ◌-◌, ◌*◌, ◌<◌, ◌≤◌, refl, sym, ◌∙◌, ap, add-one, arith}
use Rattle.std.specs.Prelude.{Bool, ◌==◌, count_by}
use Rattle.qx_geom.specs.Lists.{IsAscending}
use Rattle.qx_geom.specs.Pointer.{per_block}
use Rattle.qx_geom.specs.Positions.{has_position, index_above}
use Rattle.qx_geom.specs.Touch.{changed_leaves}
use Rattle.qx_geom.proofs.LeastTouch.{above_next, above_leaf}
use Rattle.qx_ptree.specs.declared.part.Part.{Part}
use Rattle.qx_ptree.specs.Alterations.{Alteration}
use Rattle.qx_ptree.specs.Parts.{beside, fresh_below, fresh_positions, has_below, own_need, part_of, parts_up_to, with_block}
use Rattle.qx_ptree.proofs.OwnPositions.{below-up, own-fresh}
use Rattle.qx_ptree.proofs.SumsBelow.{any_up_to, count_parts, sum_by-below, sum_up_to, sum_up_to-alike, sum_up_to-more, sum_up_to-turned}

-- ---- parts side by side

-- one part more
pub parts-more : (n : ℕ) (f : ℕ → Part) → parts_up_to (n + 1) f ≡ beside (parts_up_to n f) (f n)
parts-more n f = ap (λ k. parts_up_to k f) (add-one n)

-- parts that are alike
pub parts-alike : (n : ℕ) (f g : ℕ → Part) → ((w : ℕ) → w < n → f w ≡ g w) → parts_up_to n f ≡ parts_up_to n g
parts-alike zero f g same = refl
parts-alike (suc n) f g same = λ i. beside (parts-alike n f g (λ w h. same w (omega arith)) i) (same n (omega arith) i)

-- what the parts have together
pub parts-are : (n : ℕ) (f : ℕ → Part) → parts_up_to n f ≡ record { need = sum_up_to n (λ w. (f w).need); changed = any_up_to n (λ w. (f w).changed); present = any_up_to n (λ w. (f w).present) }
unfolding sum_up_to any_up_to
parts-are zero f = refl
parts-are (suc n) f = ap (λ p. beside p (f n)) (parts-are n f)

-- ---- a level more

-- the fresh blocks from a block on, level by level
pub fresh-levels : (a : Alteration) (k j : ℕ) → fresh_below a k j ≡ sum_up_to (k + 1) (λ i. count_by (λ x. index_above a.blocksize (k - i) x == j) (fresh_positions a i))
fresh-levels a k j = sum_by-below (λ i. count_by (λ x. index_above a.blocksize (k - i) x == j) (fresh_positions a i)) (k + 1)

-- at a lower level, they are parted by the blocks that the block points to
fresh-parted : (a : Alteration) (k j i : ℕ) → 0 < per_block a.blocksize → i < k + 1
    → count_by (λ x. index_above a.blocksize (suc k - i) x == j) (fresh_positions a i) ≡ sum_up_to (per_block a.blocksize) (λ w. count_by (λ x. index_above a.blocksize (k - i) x == j * per_block a.blocksize + w) (fresh_positions a i))
fresh-parted a k j i some low =
    ap (λ m. count_by (λ x. index_above a.blocksize m x == j) (fresh_positions a i)) (let e : suc k - i ≡ suc (k - i) = omega arith in e)
    ∙ sym (count_parts (index_above a.blocksize (k - i)) (index_above a.blocksize (suc (k - i))) (per_block a.blocksize) j (fresh_positions a i) some (above_next a.blocksize (k - i)))

-- at its own level stands the block alone
fresh-own : (a : Alteration) (k j : ℕ) → count_by (λ x. index_above a.blocksize (k - k) x == j) (fresh_positions a k) ≡ count_by (λ x. x == j) (fresh_positions a k)
fresh-own a k j =
    ap (λ m. count_by (λ x. index_above a.blocksize m x == j) (fresh_positions a k)) (let e : k - k ≡ 0 = omega arith in e)
    ∙ (λ i. count_by (λ x. above_leaf a.blocksize x i == j) (fresh_positions a k))

-- the fresh blocks from a leaf on
pub fresh-leaf : (a : Alteration) (i : ℕ) → IsAscending a.new.present
    → fresh_below a 0 i ≡ own_need (has_position a.blocksize a.old 0 i) (a.private 0 i) (has_below a.blocksize (changed_leaves a.old a.new a.written) 0 i) (has_below a.blocksize a.new.present 0 i)
fresh-leaf a i up =
    (let e : fresh_below a 0 i ≡ count_by (λ x. index_above a.blocksize (0 - 0) x == i) (fresh_positions a 0) = omega arith in e)
    ∙ fresh-own a 0 i ∙ own-fresh a 0 i up (omega arith)

-- those from a block on are those from the blocks that it points to, and its own
pub fresh-up : (a : Alteration) (k j : ℕ) → IsAscending a.new.present → 0 < per_block a.blocksize → suc k ≤ a.new.levels
    → fresh_below a (suc k) j ≡ sum_up_to (per_block a.blocksize) (λ w. fresh_below a k (j * per_block a.blocksize + w))
    + own_need (has_position a.blocksize a.old (suc k) j) (a.private (suc k) j) (has_below a.blocksize (changed_leaves a.old a.new a.written) (suc k) j) (has_below a.blocksize a.new.present (suc k) j)
fresh-up a k j up some le =
    fresh-levels a (suc k) j
    ∙ sum_up_to-more (suc k) (λ i. count_by (λ x. index_above a.blocksize (suc k - i) x == j) (fresh_positions a i))
    ∙ (λ i. below i + (fresh-own a (suc k) j ∙ own-fresh a (suc k) j up le) i)
  where
    below : sum_up_to (suc k) (λ i. count_by (λ x. index_above a.blocksize (suc k - i) x == j) (fresh_positions a i)) ≡ sum_up_to (per_block a.blocksize) (λ w. fresh_below a k (j * per_block a.blocksize + w))
    below =
        ap (λ n. sum_up_to n (λ i. count_by (λ x. index_above a.blocksize (suc k - i) x == j) (fresh_positions a i))) (sym (add-one k))
        ∙ sum_up_to-alike (k + 1) (λ i. count_by (λ x. index_above a.blocksize (suc k - i) x == j) (fresh_positions a i))
        (λ i. sum_up_to (per_block a.blocksize) (λ w. count_by (λ x. index_above a.blocksize (k - i) x == j * per_block a.blocksize + w) (fresh_positions a i))) (λ i low. fresh-parted a k j i some low)
        ∙ sum_up_to-turned (k + 1) (per_block a.blocksize) (λ i w. count_by (λ x. index_above a.blocksize (k - i) x == j * per_block a.blocksize + w) (fresh_positions a i))
        ∙ sum_up_to-alike (per_block a.blocksize) (λ w. sum_up_to (k + 1) (λ i. count_by (λ x. index_above a.blocksize (k - i) x == j * per_block a.blocksize + w) (fresh_positions a i)))
        (λ w. fresh_below a k (j * per_block a.blocksize + w)) (λ w low. sym (fresh-levels a k (j * per_block a.blocksize + w)))

-- the part below a block, from those below the blocks that it points to
pub part-up : (a : Alteration) (k j : ℕ) → IsAscending a.new.present → 0 < per_block a.blocksize → suc k ≤ a.new.levels
    → part_of a (suc k) j ≡ with_block (has_position a.blocksize a.old (suc k) j) (a.private (suc k) j) (parts_up_to (per_block a.blocksize) (λ w. part_of a k (j * per_block a.blocksize + w)))
part-up a k j up some le =
    let changed = below-up a.blocksize (changed_leaves a.old a.new a.written) k j some in
    let present = below-up a.blocksize a.new.present k j some in
    (λ i. record { need = fresh-up a k j up some le i; changed = has_below a.blocksize (changed_leaves a.old a.new a.written) (suc k) j; present = has_below a.blocksize a.new.present (suc k) j })
    ∙ (λ i. record {
      need = sum_up_to (per_block a.blocksize) (λ w. fresh_below a k (j * per_block a.blocksize + w)) + own_need (has_position a.blocksize a.old (suc k) j) (a.private (suc k) j) (changed i) (present i);
      changed = changed i;
      present = present i;
    })
    ∙ ap (with_block (has_position a.blocksize a.old (suc k) j) (a.private (suc k) j)) (sym (parts-are (per_block a.blocksize) (λ w. part_of a k (j * per_block a.blocksize + w))))

-- ---- as a loop over the words of a block adds them up

-- one word more
pub part-more : (a : Alteration) (k index words w : ℕ) (so_far child both : Part) → words ≡ per_block a.blocksize → so_far ≡ parts_up_to w (λ v. part_of a k (index * per_block a.blocksize + v))
    → child ≡ part_of a k (index * words + w) → both ≡ beside so_far child → both ≡ parts_up_to (w + 1) (λ v. part_of a k (index * per_block a.blocksize + v))
part-more a k index words w so_far child both words_are is child_is both_is =
    both_is
    ∙ (λ i. beside (is i) ((child_is ∙ ap (λ n. part_of a k (index * n + w)) words_are) i))
    ∙ sym (parts-more w (λ v. part_of a k (index * per_block a.blocksize + v)))

-- all words, and the block itself
pub part-done : (a : Alteration) (level index w own : ℕ) (had private : Bool) (so_far : Part) → IsAscending a.new.present → 0 < per_block a.blocksize → 0 < level → level ≤ a.new.levels
    → w ≡ per_block a.blocksize → so_far ≡ parts_up_to w (λ v. part_of a (level - 1) (index * per_block a.blocksize + v))
    → had ≡ has_position a.blocksize a.old level index → private ≡ a.private level index → own ≡ own_need had private so_far.changed so_far.present
    → record so_far { need = so_far.need + own } ≡ part_of a level index
part-done a zero index w own had private so_far up some above le all is had_is private_is own_is = absurd (omega arith)
part-done a (suc k) index w own had private so_far up some above le all is had_is private_is own_is =
    let down : suc k - 1 ≡ k = omega arith in
    let parts : so_far ≡ parts_up_to (per_block a.blocksize) (λ v. part_of a k (index * per_block a.blocksize + v)) = is ∙ (λ i. parts_up_to (all i) (λ v. part_of a (down i) (index * per_block a.blocksize + v))) in
    (λ i. record so_far { need = so_far.need + own_is i })
    ∙ (λ i. with_block (had_is i) (private_is i) (parts i))
    ∙ sym (part-up a k index up some le)
