-- What a planned write or size writes.
use Rattle.std.proofs.Common.{◌≡◌, ℕ, ◌+◌, ◌-◌, ◌*◌, ◌/◌, ◌%◌, ◌^◌, ◌<◌, ◌≤◌, ◌≢◌, min, inl, inr, Bool, true, false, max, refl, sym, ◌∙◌, ap, subst, arith}
use Rattle.std.specs.Prelude.{not, ◌⊎◌, ◌&&◌, ◌||◌, ◌==◌, nat_le, nat_lt, if◌then◌else◌}
use Rattle.std.proofs.Math.Nat.{le-div_iff_mul-le, mod-lt, pow-le-pow_left}
use Rattle.std.proofs.lemmas.Nat.{div-add-mod'}
use Rattle.std.proofs.lemmas.Bool.{cases_lt, leb-true, ltb-true, lt-ltb, le-leb, lt-leb, le-ltb}
use Rattle.qx_geom.specs.declared.root.Root.{Root}
use Rattle.qx_geom.specs.Layout.{is_block_size}
use Rattle.qx_geom.specs.Pointer.{ceil_div, per_block, reach}
use Rattle.qx_geom.proofs.LevelCounts.{ceil_div-is}
use Rattle.qx_geom.proofs.BlockSizes.{block_size-bounds}
use Rattle.qx_geom.specs.Room.{greatest_end}
use Rattle.qx_fields.specs.declared.order.Order.{Order}
use Rattle.qx_blocks.specs.BlockState.{BlockState, IsBlockSize}
use Rattle.qx_ptree.specs.ReadyLeaves.{IsReadyApart, IsWrittenBy}
use Rattle.qx_ptree.specs.Trees.{HasLevels}
use Rattle.qx_ptree.specs.declared.change.Change.{Change}
use Rattle.qx_ptree.specs.Fates.{IsChange, is_written}
use Rattle.qx_file.specs.FilePlans.{cuts_leaf, past_end, size_change, write_change, writes_range}
use Rattle.qx_file.specs.Puts.{CanPut, HasByte, leaves_end}
use Rattle.qx_file.proofs.KeptPointers.{ready_fewer}

-- 5 levels reach the greatest end
reaches_end : (blocksize : ℕ) → is_block_size blocksize ≡ true → greatest_end ≤ reach blocksize 5 * blocksize
reaches_end blocksize is =
    let bounds = block_size-bounds blocksize is in
    let power : 128 ^ 5 ≤ per_block blocksize ^ 5 = pow-le-pow_left bounds.pointers_from 5 in
    large (per_block blocksize ^ 5) blocksize power bounds.size_from
  where
    large : (p b : ℕ) → 128 ^ 5 ≤ p → 512 ≤ b → 2 ^ 48 ≤ 16 * p * b
    large p b low least = grind arith

-- a number lies below the leaves that a size has where it is at most their end
leaf_below : (blocksize size i : ℕ) → 0 < blocksize → i * blocksize < size → i < ceil_div size blocksize
leaf_below blocksize size i some low = let e : i + 1 ≤ (size + blocksize - 1) / blocksize = (le-div_iff_mul-le some).1 (omega arith) in omega arith

-- a size is at most the end of its last leaf
pub size_below : (blocksize size : ℕ) → 0 < blocksize → size ≤ leaves_end blocksize size
size_below blocksize size some = grind arith

-- both parts of a test
both : (a b : Bool) → ((a && b) || false) ≡ true → (a ≡ true) × (b ≡ true)
both true true h = (refl, refl)
both true false h = absurd (cc)
both false b h = absurd (cc)

-- a leaf of a range is written, and no other
range_to : (size first count i : ℕ) → is_written (writes_range size first count) i ≡ true → (first ≤ i) × (i < first + count)
range_to size first count i h =
    let parts = both (nat_le first i) (nat_lt i (first + count)) h in
    (leb-true first i parts.0, ltb-true i (first + count) parts.1)

range_from : (size first count i : ℕ) → first ≤ i → i < first + count → is_written (writes_range size first count) i ≡ true
range_from size first count i from to = (λ k. (le-leb first i from k && lt-ltb i (first + count) to k) || false)

-- where a range begins and ends, by its leaves
begins : (b at : ℕ) → 0 < b → at / b * b ≤ at
begins b at some = (le-div_iff_mul-le some).0 (omega arith)

-- the leaf with the last byte isn't before that with the first
last_from : (b at count : ℕ) → 0 < b → 0 < count → at / b ≤ (at + count - 1) / b
last_from b at count some more = (le-div_iff_mul-le some).1 (omega (arith, begins b at some))

-- a planned write writes the leaves that have one of the bytes
pub write_to : (node : Root) (at count b i : ℕ) → 0 < b → 0 < count → is_written (write_change node at count b) i ≡ true → HasByte b at count i
write_to node at count b i some more h =
    let is = range_to (max node.size (at + count)) (at / b) ((at + count - 1) / b + 1 - at / b) i h in
    let last : i ≤ (at + count - 1) / b = omega (arith, is.1, last_from b at count some more) in
    let ends : i * b ≤ at + count - 1 = (le-div_iff_mul-le some).0 last in
    record { first = is.0; last = omega arith; some = more }

pub write_from : (node : Root) (at count b i : ℕ) → 0 < b → 0 < count → HasByte b at count i → is_written (write_change node at count b) i ≡ true
write_from node at count b i some more has =
    let last : i ≤ (at + count - 1) / b = (le-div_iff_mul-le some).1 (omega (arith, has.last)) in
    range_from (max node.size (at + count)) (at / b) ((at + count - 1) / b + 1 - at / b) i has.first (omega (arith, last_from b at count some more))

-- and is a change that can be prepared
pub write_is_change : (node : Root) (at count b : ℕ) → is_block_size b ≡ true → 0 < count → node.size ≤ reach b 5 * b → at + count ≤ greatest_end → IsChange b (write_change node at count b)
write_is_change node at count b is more fits ends =
    let bounds = block_size-bounds b is in
    record {
      reached = omega (arith, fits, ends, reaches_end b is);
      below = λ i h. leaf_below b (max node.size (at + count)) i (omega (arith, bounds.size_from)) (omega (arith, (write_to node at count b i (omega (arith, bounds.size_from)) more h).last));
      apart = λ i h. absurd (cc h);
      stays = λ i h. absurd (cc h);
    }

pub write_below : (node : Root) (at count b : ℕ) → is_block_size b ≡ true → at + count ≤ leaves_end b (write_change node at count b).size
write_below node at count b is = omega (arith, size_below b (max node.size (at + count)) (omega (arith, (block_size-bounds b is).size_from)))

-- what a file that is cut within a leaf ends with
cut_rest : (x y : Bool) (a b : ℕ) → (x && (y && not (a % b == 0))) ≡ true → a % b ≢ 0
cut_rest true true a b h e = absurd (cc (h, ap (λ n. n == 0) e))
cut_rest true false a b h e = absurd (cc)
cut_rest false y a b h e = absurd (cc)

-- the bytes past the end reach to the end of the leaf
past_is : (b size : ℕ) → 0 < b → size + past_end b size ≡ (size / b + 1) * b
past_is b size some = grind (arith, mod-lt size some, div-add-mod' size b)

-- a planned size writes the leaf in which the file is cut
pub cut_to : (node : Root) (size b i : ℕ) (last : Bool) → 0 < b → cuts_leaf node size last b ≡ true → is_written (size_change node size last b) i ≡ true → HasByte b size (past_end b size) i
cut_to node size b i last some cuts h =
    let is = range_to size (size / b) 1 i (subst (λ t. is_written (writes_range size (size / b) (if t then 1 else 0)) i ≡ true) cuts h) in
    let here : i ≡ size / b = omega (arith, is.0, is.1) in
    let ends : i * b < (size / b + 1) * b = subst (λ n. n * b < (size / b + 1) * b) (sym here) (grind arith) in
    record { first = is.0; last = omega (arith, ends, past_is b size some); some = omega (arith, mod-lt size some) }

pub cut_from : (node : Root) (size b i : ℕ) (last : Bool) → 0 < b → cuts_leaf node size last b ≡ true → HasByte b size (past_end b size) i → is_written (size_change node size last b) i ≡ true
cut_from node size b i last some cuts has =
    let low : i < size / b + 1 = before i (size / b + 1) (omega (arith, has.last, past_is b size some)) in
    subst (λ t. is_written (writes_range size (size / b) (if t then 1 else 0)) i ≡ true) (sym cuts) (range_from size (size / b) 1 i has.first low)
  where
    before : (i j : ℕ) → i * b < j * b → i < j
    before i j h = grind arith

-- and none where it isn't cut
pub cut_none : (node : Root) (size b i : ℕ) (last : Bool) → cuts_leaf node size last b ≡ false → is_written (size_change node size last b) i ≡ false
cut_none node size b i last cuts =
    subst (λ t. is_written (writes_range size (size / b) (if t then 1 else 0)) i ≡ false) (sym cuts) (none (nat_le (size / b) i) (cases_lt i (size / b)))
  where
    off : (a : Bool) → ((a && false) || false) ≡ false
    off true = refl
    off false = refl

    none : (a : Bool) → (i < size / b) ⊎ (size / b ≤ i) → is_written (writes_range size (size / b) 0) i ≡ false
    none a h = elim h [
      | inl low ↦ (λ k. (lt-leb _ _ low k && nat_lt i (size / b + 0)) || false)
      | inr high ↦ (λ k. (nat_le (size / b) i && le-ltb i (size / b + 0) (omega arith) k) || false) ∙ off (nat_le (size / b) i)
    ]

-- the cut leaf lies below the size
pub cut_below : (node : Root) (size b : ℕ) (last : Bool) → 0 < b → cuts_leaf node size last b ≡ true → size + past_end b size ≤ leaves_end b size
cut_below node size b last some cuts =
    let rest : size % b ≢ 0 = cut_rest last (nat_lt size node.size) size b cuts in
    let leaves : size / b + 1 ≡ ceil_div size b = (let e : 1 ≡ min 1 (size % b) = omega (arith, rest) in ap (λ n. size / b + n) e) ∙ ceil_div-is size b some in
    subst (λ n. size + past_end b size ≤ n * b) leaves (omega (arith, past_is b size some))

-- it is a change that can be prepared
pub size_is_change : (node : Root) (size b : ℕ) (last : Bool) → is_block_size b ≡ true → size ≤ greatest_end → IsChange b (size_change node size last b)
size_is_change node size b last is ends =
    let bounds = block_size-bounds b is in
    let some : 0 < b = omega (arith, bounds.size_from) in
    record {
      reached = omega (arith, ends, reaches_end b is);
      below = λ i h. elim (cuts_leaf node size last b) as (λ t. cuts_leaf node size last b ≡ t → i < ceil_div size b) [
        | true ↦ λ cuts. lower i (cut_to node size b i last some cuts h) (cut_below node size b last some cuts)
        | false ↦ λ cuts. absurd (cc (h, cut_none node size b i last cuts))
      ] refl;
      apart = λ i h. absurd (cc h);
      stays = λ i h. absurd (cc h);
    }
  where
    lower : (i : ℕ) → HasByte b size (past_end b size) i → size + past_end b size ≤ leaves_end b size → i < ceil_div size b
    lower i has low = before (ceil_div size b) i (omega (arith, has.last, low))
      where
        before : (j i : ℕ) → i * b < j * b → i < j
        before j i h = grind arith

-- ---- what is ready once such a change is committed

-- the block sizes, as a test
pub is_size : (size : ℕ) → IsBlockSize size → is_block_size size ≡ true
is_size size k = elim k [
  | inl is ↦ rw is refl
  | inr more ↦ elim more [
    | inl is ↦ rw is refl
    | inr more ↦ elim more [ inl is ↦ rw is refl | inr is ↦ rw is refl ]
  ]
]

-- the bytes of a planned write can be put
pub write_can : (order : Order) (m : BlockState) (node root : Root) (at count : ℕ) → IsBlockSize m.holdings.size → 0 < count → HasLevels m.holdings.size root → root.size ≡ (write_change node at count m.holdings.size).size
    → IsReadyApart order m root (IsWrittenBy (write_change node at count m.holdings.size)) → CanPut order m root at count
write_can order m node root at count c more levels size ready =
    let b : ℕ = m.holdings.size in
    let is : is_block_size b ≡ true = is_size b c in
    record {
      levels = levels;
      below = subst (λ n. at + count ≤ leaves_end b n) (sym size) (write_below node at count b is);
      ready = ready_fewer order m root (IsWrittenBy (write_change node at count b)) (HasByte b at count) (λ i has. write_from node at count b i (omega (arith, (block_size-bounds b is).size_from)) more has) ready;
    }

-- and those past the end of a file that was cut within a leaf
pub cut_can : (order : Order) (m : BlockState) (node root : Root) (size : ℕ) (last : Bool) → IsBlockSize m.holdings.size → cuts_leaf node size last m.holdings.size ≡ true → HasLevels m.holdings.size root → root.size ≡ size
    → IsReadyApart order m root (IsWrittenBy (size_change node size last m.holdings.size)) → CanPut order m root size (past_end m.holdings.size size)
cut_can order m node root size last c cuts levels is_root ready =
    let b : ℕ = m.holdings.size in
    let some : 0 < b = omega (arith, (block_size-bounds b (is_size b c)).size_from) in
    record {
      levels = levels;
      below = subst (λ n. size + past_end b size ≤ leaves_end b n) (sym is_root) (cut_below node size b last some cuts);
      ready = ready_fewer order m root (IsWrittenBy (size_change node size last b)) (HasByte b size (past_end b size)) (λ i has. cut_from node size b i last some cuts has) ready;
    }

-- bytes that lie in leaves that a change writes can be put
pub written_can : (order : Order) (m : BlockState) (node : Root) (c : Change) (at count : ℕ) → HasLevels m.holdings.size node → at + count ≤ leaves_end m.holdings.size node.size
    → ((i : ℕ) → HasByte m.holdings.size at count i → is_written c i ≡ true) → IsReadyApart order m node (IsWrittenBy c) → CanPut order m node at count
written_can order m node c at count levels below within ready = record {
  levels = levels;
  below = below;
  ready = ready_fewer order m node (IsWrittenBy c) (HasByte m.holdings.size at count) within ready;
}
