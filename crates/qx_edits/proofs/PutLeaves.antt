-- The leaves of a content that was changed, and of one into which bytes were put that lie in one leaf.
use Rattle.std.proofs.Common.{◌≡◌, ◌≢◌, ℕ, ◌+◌, ◌*◌, ◌-◌, ◌/◌, ◌%◌, ◌<◌, ◌≤◌, List, [], length, inl, inr, refl, sym, ◌∙◌, ap, subst, arith}
use Rattle.std.specs.Prelude.{Bool, true, false, IsTrue, None, Some, replicate, slice_range, if◌then◌else◌}
use Rattle.std.proofs.lemmas.List.{length-replicate, take_all}
use Rattle.std.proofs.lemmas.Nat.{div-add-mod'}
use Rattle.qx_blocks.specs.BlockState.{BlockState}
use Rattle.qx_bytes.specs.Ranges.{put_at}
use Rattle.qx_bytes.proofs.Puts.{length_put}
use Rattle.qx_fields.specs.declared.order.Order.{Order}
use Rattle.qx_file.specs.Puts.{with_part}
use Rattle.qx_file.proofs.PartBytes.{ends_past}
use Rattle.qx_file.proofs.PutContent.{leaf_end, part_long}
use Rattle.qx_geom.specs.declared.root.Root.{Root}
use Rattle.qx_geom.specs.Lists.{is_in}
use Rattle.qx_geom.specs.Pointer.{ceil_div}
use Rattle.qx_geom.proofs.PresentLeaves.{present_after_ascends, present_after_members}
use Rattle.qx_geom.proofs.Truths.{not_so, true_or_false}
use Rattle.qx_nodes.specs.NodeContents.{IsSameContent, NodeContent, node_content}
use Rattle.qx_nodes.proofs.MetLeaves.{present_ascends}
use Rattle.qx_ptree.specs.declared.change.Change.{Change}
use Rattle.qx_ptree.specs.Fates.{leaves_after, written_by}
use Rattle.qx_ptree.specs.Trees.{IsToldNode, block_map}
use Rattle.qx_ptree.proofs.FirstHoles.{past_lacks}
use Rattle.qx_ptree.proofs.NodePositions.{told_hole, told_leaf_long}
use Rattle.qx_ptree.proofs.PointerCounts.{words_positive}
use Rattle.qx_batch.specs.Changes.{changed_content}
use Rattle.qx_batch.specs.PutNodes.{has_byte, put_content}
use Rattle.qx_batch.proofs.NodeContentsAfter.{has_passes, passes_has}
use Rattle.std.proofs.lemmas.Bool.{cases_lt}
use Rattle.qx_edits.specs.PutContents.{IsOverBlocks, IsPutInto}

-- ---- over blocks

-- a node's content where bytes are told
pub told_over : (order : Order) (m : BlockState) (node : Root) → IsToldNode order m node → IsTrue m.tells → IsOverBlocks m.holdings.size (node_content (block_map order m) node)
told_over order m node is tells = record {
  long = λ i. told_leaf_long order m node is tells i;
  holes = λ i out. told_hole order m node is i out;
  below = λ i there. elim (cases_lt i (ceil_div node.size m.holdings.size)) [
    | inl low ↦ low
    | inr past ↦ absurd (true_or_false _ there (past_lacks (block_map order m) node i past))
  ];
  ascends = present_ascends (block_map order m) node (words_positive m.holdings.size is.consistent.size);
}

module _ (blocksize : ℕ) (c : Change) (a : NodeContent) (over : IsOverBlocks blocksize a) where
  -- the content once the change is made
  abbrev changed : NodeContent
  changed = changed_content blocksize c a

  pub changed_long : (i : ℕ) → length (changed.leaves i) ≡ blocksize
  changed_long i = go (is_in changed.present i)
    where
      go : (t : Bool) → length (if t then a.leaves i else replicate blocksize 0) ≡ blocksize
      go true = over.long i
      go false = length-replicate blocksize 0

  pub changed_over : ((i : ℕ) → is_in (written_by c) i ≡ true → i < leaves_after blocksize c) → IsOverBlocks blocksize changed
  changed_over low = record {
    long = changed_long;
    holes = λ i out. ap (λ (t : Bool). if t then a.leaves i else replicate blocksize 0) out;
    below = λ i there. elim ((present_after_members a.present (leaves_after blocksize c) (written_by c) c.gone i).0 there) [ inl written ↦ low i written | inr kept ↦ kept.1 ];
    ascends = present_after_ascends a.present (leaves_after blocksize c) (written_by c) c.gone over.ascends;
  }

  -- where no leaf is taken out, each leaf below the new size has what it had
  pub kept_leaf : c.gone ≡ None → (i : ℕ) → i < leaves_after blocksize c → changed.leaves i ≡ a.leaves i
  kept_leaf none i low = go (is_in changed.present i) refl
    where
      go : (t : Bool) → is_in changed.present i ≡ t → (if t then a.leaves i else replicate blocksize 0) ≡ a.leaves i
      go true e = refl
      go false e = sym (over.holes i (not_so (is_in a.present i) (λ there. true_or_false (is_in changed.present i)
          ((present_after_members a.present (leaves_after blocksize c) (written_by c) c.gone i).1 (inr (there, low, λ z. (let clash : None ≡ Some i = sym none ∙ z in cc)))) e)))

-- a leaf keeps its length
part_keeps : (size at i : ℕ) (bytes old : List ℕ) → length old ≡ size → at < (i + 1) * size → length (with_part size i at bytes old) ≡ size
part_keeps size at i bytes old long ends =
    length_put old (slice_range bytes (i * size - at) ((i + 1) * size - at)) (at - i * size) (length (slice_range bytes (i * size - at) ((i + 1) * size - at))) refl
    (omega (arith, long, leaf_end i size, part_long bytes (i * size - at) ((i + 1) * size - at), ends)) ∙ long

pub put_long : (blocksize at : ℕ) (bytes : List ℕ) (a : NodeContent) → 0 < blocksize → ((i : ℕ) → length (a.leaves i) ≡ blocksize) → (i : ℕ) → length ((put_content blocksize at bytes a).leaves i) ≡ blocksize
put_long blocksize at bytes a pos long i = go (has_byte blocksize at (length bytes) i) refl
  where
    go : (t : Bool) → has_byte blocksize at (length bytes) i ≡ t → length (if t then with_part blocksize i at bytes (a.leaves i) else a.leaves i) ≡ blocksize
    go true e = part_keeps blocksize at i bytes (a.leaves i) (long i) (ends_past blocksize at (length bytes) i pos (passes_has blocksize at (length bytes) i e))
    go false e = long i

pub put_over : (blocksize at : ℕ) (bytes : List ℕ) (a : NodeContent) → 0 < blocksize → IsOverBlocks blocksize a → ((i : ℕ) → has_byte blocksize at (length bytes) i ≡ true → is_in a.present i ≡ true)
    → IsOverBlocks blocksize (put_content blocksize at bytes a)
put_over blocksize at bytes a pos over there = record {
  long = put_long blocksize at bytes a pos over.long;
  holes = λ i out. go i (has_byte blocksize at (length bytes) i) refl out;
  below = over.below;
  ascends = over.ascends;
}
  where
    go : (i : ℕ) (t : Bool) → has_byte blocksize at (length bytes) i ≡ t → is_in a.present i ≡ false → (if t then with_part blocksize i at bytes (a.leaves i) else a.leaves i) ≡ replicate blocksize 0
    go i true e out = absurd (true_or_false (is_in a.present i) (there i e) out)
    go i false e out = over.holes i out

-- ---- one step

pub both_are_one : (blocksize : ℕ) (c : Change) (at : ℕ) (bytes : List ℕ) (a b d : NodeContent) → IsSameContent blocksize (changed_content blocksize c a) b → IsSameContent blocksize (put_content blocksize at bytes b) d
    → IsPutInto blocksize c at bytes a d
both_are_one blocksize c at bytes a b d f g = record {
  size = g.size ∙ f.size;
  present = g.present ∙ f.present;
  leaves = λ i low. g.leaves i (subst (λ n. i < ceil_div n blocksize) (sym f.size) low) ∙ ap (λ (l : List ℕ). if has_byte blocksize at (length bytes) i then with_part blocksize i at bytes l else l) (f.leaves i low);
}

pub change_alone : (blocksize : ℕ) (c : Change) (at : ℕ) (a b : NodeContent) → IsSameContent blocksize (changed_content blocksize c a) b → IsPutInto blocksize c at [] a b
change_alone blocksize c at a b f = record {
  size = f.size;
  present = f.present;
  leaves = λ i low. f.leaves i low ∙ go i (has_byte blocksize at 0 i) refl;
}
  where
    go : (i : ℕ) (t : Bool) → has_byte blocksize at 0 i ≡ t → (changed_content blocksize c a).leaves i ≡ (if t then with_part blocksize i at [] ((changed_content blocksize c a).leaves i) else (changed_content blocksize c a).leaves i)
    go i true e = let has = passes_has blocksize at 0 i e in let some = has.some in absurd (omega (arith, some))
    go i false e = refl

-- ---- bytes that lie in one leaf

-- a leaf that begins before the leaves' end lies below it
below_end : (i j size : ℕ) → i * size < j * size → i < j
below_end i j size h = grind arith

module _ (blocksize at : ℕ) (bytes : List ℕ) (pos : 0 < blocksize) (some : 0 < length bytes) (fits : at % blocksize + length bytes ≤ blocksize) where
  -- where they lie
  split : at / blocksize * blocksize + at % blocksize ≡ at
  split = div-add-mod' at blocksize

  has_here : has_byte blocksize at (length bytes) (at / blocksize) ≡ true
  has_here = has_passes blocksize at (length bytes) (at / blocksize) (record { first = omega arith; last = omega (arith, split, some); some = some })

  pub has_not : (i : ℕ) → i ≢ at / blocksize → has_byte blocksize at (length bytes) i ≡ false
  has_not i ne = not_so _ (λ e.
      let has = passes_has blocksize at (length bytes) i e in
      let first = has.first in
      let last = has.last in
      let low : i < at / blocksize + 1 = below_end i (at / blocksize + 1) blocksize (omega (arith, last, split, fits, leaf_end (at / blocksize) blocksize)) in
      ne (omega (arith, first, low)))

  -- the leaf has them
  pub put_here : (a : NodeContent) → (put_content blocksize at bytes a).leaves (at / blocksize) ≡ put_at (a.leaves (at / blocksize)) (at % blocksize) bytes
  put_here a =
      ap (λ (t : Bool). if t then with_part blocksize (at / blocksize) at bytes (a.leaves (at / blocksize)) else a.leaves (at / blocksize)) has_here
      ∙ (λ i. put_at (a.leaves (at / blocksize)) (place i) (all i))
    where
      place : at - at / blocksize * blocksize ≡ at % blocksize
      place = omega (arith, split)

      none : at / blocksize * blocksize - at ≡ 0
      none = omega (arith, split)

      all : slice_range bytes (at / blocksize * blocksize - at) ((at / blocksize + 1) * blocksize - at) ≡ bytes
      all = ap (λ from. slice_range bytes from ((at / blocksize + 1) * blocksize - at)) none ∙ take_all ((at / blocksize + 1) * blocksize - at - 0) bytes (omega (arith, split, fits, leaf_end (at / blocksize) blocksize))

  -- and each other one is as it was
  pub put_beside : (a : NodeContent) (i : ℕ) → i ≢ at / blocksize → (put_content blocksize at bytes a).leaves i ≡ a.leaves i
  put_beside a i ne = ap (λ (t : Bool). if t then with_part blocksize i at bytes (a.leaves i) else a.leaves i) (has_not i ne)
