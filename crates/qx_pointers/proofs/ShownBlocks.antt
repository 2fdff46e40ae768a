-- A device that is only read shows the same blocks before as after.
use Rattle.std.proofs.Common.{◌≡◌, ℕ, ◌+◌, ◌*◌, ◌≤◌, List, [], ◌∷◌, refl, sym, ◌∙◌, ap, subst, arith}
use Rattle.qx_outside.specs.Calls.{Idles, LeavesConsole}
use Rattle.qx_outside.specs.Causes.{StaysWhereTold}
use Rattle.qx_outside.specs.Outside.{Outside}
use Rattle.qx_outside.specs.Trail.{bytes_of}
use Rattle.std.specs.Prelude.{map, IfSome, Option, Some, None, OnErr, OnOk, Result, Ok, Err, is_some, unwrap_or}
use Rattle.std.specs.List.{range_with_len}
use Rattle.std.specs.Option.{option_map}
use Rattle.qx_fields.specs.declared.order.Order.{Order}
use Rattle.qx_fields.specs.Number.{field, fields}
use Rattle.qx_geom.specs.Lists.{each_below}
use Rattle.qx_geom.specs.Pointer.{per_block}
use Rattle.qx_nodes.specs.BlockMap.{BlockMap, word}
use Rattle.qx_pointers.specs.declared.source.Shape.{Shape}
use Rattle.qx_pointers.specs.Shown.{Fits, JustReads, Shows, shape_blocks}

-- what is shown after was shown before
pub shows_before : {from to : ℕ} (shape : Shape) (old new : Outside) (m : BlockMap) → JustReads from to old new → Shows shape new m → Shows shape old m
shows_before shape old new m r s = record { told = r.before s.told; is = s.is ∙ ap (λ h. shape_blocks shape (bytes_of h)) (r.same s.told) }

-- and there is room for the same blocks after as before
pub fits_still : {from to : ℕ} (shape : Shape) (old new : Outside) → JustReads from to old new → Fits shape old → Fits shape new
fits_still shape old new r room = λ len told. room len (r.extent len told)

-- one reading after another
pub reads_then : (j k l n from to : ℕ) (a b c : Outside) → from + k + n ≤ j + l + to → JustReads j k a b → JustReads l n b c → JustReads from to a c
reads_then j k l n from to a b c few p q = record {
  before = λ t. p.before (q.before t);
  same = λ t. q.same t ∙ p.same (q.before t);
  extent = λ len e. p.extent len (q.extent len e);
  counted = q.counted ∙ p.counted;
  reads = omega (arith, few, p.reads, q.reads);
  paths = q.paths ∙ p.paths;
  console = q.console ∙ p.console;
}

-- the same with room for more
pub reads_more : (j k from to : ℕ) (a b : Outside) → from + k ≤ j + to → JustReads j k a b → JustReads from to a b
reads_more j k from to a b few p = record {
  before = p.before;
  same = p.same;
  extent = p.extent;
  counted = p.counted;
  reads = omega (arith, few, p.reads);
  paths = p.paths;
  console = p.console;
}

-- a device call that reads, where its count of reads is this one
reads_by : (old new : Outside) (o : Option ℕ) → Idles old new → StaysWhereTold old.extent new.extent → LeavesConsole old new → new.dev_reads ≡ o
    → is_some o ≡ is_some old.dev_reads → unwrap_or o 0 ≤ unwrap_or old.dev_reads 0 + 1 → JustReads 0 1 old new
reads_by old new o idle stays rest e told few = record {
  before = idle.before;
  same = idle.step;
  extent = λ len is. subst (λ x. IfSome x (λ a. old.extent ≡ Some a)) is stays.same;
  counted = ap is_some e ∙ told;
  reads = omega (arith, few, ap (λ x. unwrap_or x 0) e);
  paths = rest.paths;
  console = rest.console;
}

-- one read more, where reads are counted
counted_more : (o : Option ℕ) → (is_some (option_map (λ n. n + 1) o) ≡ is_some o) × (unwrap_or (option_map (λ n. n + 1) o) 0 ≤ unwrap_or o 0 + 1)
counted_more None = (refl, omega arith)
counted_more (Some n) = (refl, omega arith)

-- a device call that reads is one read, or where it fails none
pub read_once : {T E : Type 0} (old new : Outside) (result : Result T E) → Idles old new → StaysWhereTold old.extent new.extent → LeavesConsole old new
    → OnOk result (new.dev_reads ≡ option_map (λ n. n + 1) old.dev_reads) → OnErr result (new.dev_reads ≡ old.dev_reads) → JustReads 0 1 old new
read_once old new (Ok x) idle stays rest ok err = reads_by old new _ idle stays rest ok (counted_more old.dev_reads).0 (counted_more old.dev_reads).1
read_once old new (Err e) idle stays rest ok err = reads_by old new _ idle stays rest err refl (omega arith)

-- what holds of each length that may be told holds of the one that is
pub if_told : (o : Option ℕ) (P : ℕ → Type 0) → ((n : ℕ) → o ≡ Some n → P n) → IfSome o P
if_told None P f = tt
if_told (Some n) P f = f n refl

-- one function of places that are the same
map_alike : (f g : ℕ → ℕ) (h : ℕ → ℕ) → ((w : ℕ) → f w ≡ g w) → (xs : List ℕ) → map (λ w. h (f w)) xs ≡ map (λ w. h (g w)) xs
map_alike f g h same [] = refl
map_alike f g h same (x ∷ xs) = λ i. h (same x i) ∷ map_alike f g h same xs i

-- the numbers in a block's bytes are its pointers
pub pointers_read : (shape : Shape) (host : Outside) (m : BlockMap) (block n : ℕ) (bytes words : List ℕ) → Shows shape host m → bytes ≡ m.bytes block → n ≡ per_block shape.blocksize
    → words ≡ fields shape.order 4 n bytes 0 → words ≡ each_below (per_block shape.blocksize) (λ w. word m block w)
unfolding fields
pointers_read shape host m block n bytes words s e f g =
    let order : m.order ≡ shape.order = ap (λ (b : BlockMap). b.order) s.is in
    let all : (k : ℕ) (b : List ℕ) (o : Order) → List ℕ = λ k b o. map (λ w. field o 4 b (0 + 4 * w)) (range_with_len 0 k) in
    let read : words ≡ all n bytes shape.order = g in
    let shown : all (per_block shape.blocksize) (m.bytes block) m.order ≡ each_below (per_block shape.blocksize) (λ w. word m block w) = map_alike (λ w. 0 + 4 * w) (λ w. 4 * w) (field m.order 4 (m.bytes block)) (λ w. omega arith) (range_with_len 0 (per_block shape.blocksize)) in
    read ∙ ap (λ k. all k bytes shape.order) f ∙ ap (λ b. all (per_block shape.blocksize) b shape.order) e ∙ ap (λ o. all (per_block shape.blocksize) (m.bytes block) o) (sym order) ∙ shown

-- the blocks that are shown have the size of the shape
pub shown_size : (shape : Shape) (host : Outside) (m : BlockMap) → Shows shape host m → m.size ≡ shape.blocksize
shown_size shape host m s = ap (λ (b : BlockMap). b.size) s.is

-- and are as many
pub shown_count : (shape : Shape) (host : Outside) (m : BlockMap) → Shows shape host m → m.count ≡ shape.count
shown_count shape host m s = ap (λ (b : BlockMap). b.count) s.is
