-- A record that is put into a directory's content.
use Rattle.std.proofs.Common.{◌≡◌, ◌≢◌, ℕ, ◌+◌, ◌*◌, ◌/◌, ◌%◌, ◌<◌, ◌≤◌, ◌⊎◌, List, [], ◌∷◌, length, inl, inr, refl, sym, ◌∙◌, ap, subst, arith}
use Rattle.std.specs.Prelude.{Bool, true, false, ◌||◌, None, nat_lt, replicate, slice_range, if◌then◌else◌}
use Rattle.std.proofs.Math.Nat.{mod-lt}
use Rattle.std.proofs.lemmas.Bool.{cases_eq, cases_lt, eq-eqb, ltb-true}
use Rattle.std.proofs.lemmas.Nat.{div-add-mod', le-div}
use Rattle.qx_bytes.specs.Ranges.{put_at}
use Rattle.qx_bytes.proofs.Puts.{range_put_apart, range_put_same}
use Rattle.qx_fields.specs.Number.{field}
use Rattle.qx_fields.specs.declared.order.Order.{Order}
use Rattle.qx_geom.specs.Lists.{is_in}
use Rattle.qx_geom.specs.Pointer.{ceil_div}
use Rattle.qx_geom.specs.Positions.{present_after}
use Rattle.qx_geom.proofs.LevelCounts.{part_below}
use Rattle.qx_geom.proofs.Truths.{not_so}
use Rattle.qx_nodes.specs.NodeContents.{NodeContent}
use Rattle.qx_nodes.proofs.ZeroBytes.{field_zeros, slice_zeros}
use Rattle.qx_records.specs.NameRecord.{RawRecord, raw_in}
use Rattle.qx_records.specs.NameRecord as raws
use Rattle.qx_ptree.specs.declared.change.Change.{Change}
use Rattle.qx_ptree.specs.Fates.{written_by}
use Rattle.qx_batch.specs.Changes.{changed_content}
use Rattle.qx_batch.specs.PutNodes.{put_content}
use Rattle.qx_model.specs.Edits.{leaf_of_record}
use Rattle.qx_model.specs.Whole.{HoldsRecords}
use Rattle.qx_model.proofs.WholeRows.{ceil_multiple, multiple}
use Rattle.qx_edits.specs.PutContents.{IsOverBlocks, IsPutInto}
use Rattle.qx_edits.specs.RecordEdits.{SetsRecord, record_of, size_with_record}
use Rattle.qx_edits.proofs.PutLeaves.{changed_long, kept_leaf, put_beside, put_here}

-- a record of zeros is unused
pub raw_zeros : (order : Order) (c : ℕ) → raw_in order (replicate c 0) ≡ raws.Unused
unfolding raw_in
raw_zeros order c = either _ _ _ (eq-eqb (field order 4 (replicate c 0) 0) 0 (field_zeros order c 0))
  where
    either : (a b : Bool) (x : RawRecord) → a ≡ true → (if a || b then raws.Unused else x) ≡ raws.Unused
    either true b x e = refl
    either false b x e = absurd (cc)

-- a record ends in the leaf in which it begins
pub record_low : (size k : ℕ) → 0 < size → size % 32 ≡ 0 → k * 32 % size + 32 ≤ size
record_low size k pos whole =
    let is : size ≡ size / 32 * 32 = multiple size 32 whole in
    let product : k * 32 / size * size ≡ k * 32 / size * (size / 32) * 32 = regroup (k * 32 / size) (size / 32) size is in
    omega (arith, is, product, div-add-mod' (k * 32) size, mod-lt (k * 32) pos)
  where
    regroup : (q p z : ℕ) → z ≡ p * 32 → q * z ≡ q * p * 32
    regroup q p z is = subst (λ x. q * x ≡ q * p * 32) (sym is) (grind arith)

-- the size with the record
pub size_more : (blocksize k size : ℕ) → size ≤ size_with_record blocksize k size
size_more blocksize k size = go (nat_lt (k * 32) size)
  where
    go : (b : Bool) → size ≤ (if b then size else size + blocksize)
    go true = omega arith
    go false = omega arith

size_has : (blocksize k size : ℕ) → 0 < blocksize → k * 32 ≤ size → k * 32 < size_with_record blocksize k size
size_has blocksize k size pos low = go (nat_lt (k * 32) size) refl
  where
    go : (b : Bool) → nat_lt (k * 32) size ≡ b → k * 32 < (if b then size else size + blocksize)
    go true e = ltb-true (k * 32) size e
    go false e = omega (arith, low, pos)

module _ (order : Order) (blocksize k : ℕ) (raw : RawRecord) (bytes : List ℕ) (c : Change) (a b : NodeContent) (holds : HoldsRecords blocksize) (over : IsOverBlocks blocksize a) (whole : a.size % blocksize ≡ 0) (low : k * 32 ≤ a.size)
    (size : c.size ≡ size_with_record blocksize k a.size) (written : written_by c ≡ leaf_of_record blocksize k ∷ []) (none : c.gone ≡ None) (wide : length bytes ≡ 32) (says : raw_in order bytes ≡ raw) (is : IsPutInto blocksize c (k * 32) bytes a b) where
  pos : 0 < blocksize
  pos = let two = holds.two in omega (arith, two)

  -- the content before the put, and after it
  abbrev m : NodeContent
  m = changed_content blocksize c a

  abbrev p : NodeContent
  p = put_content blocksize (k * 32) bytes m

  -- where record j lies
  leaf : ℕ → ℕ
  leaf j = j * 32 / blocksize

  lies : (j : ℕ) → j * 32 / blocksize * blocksize + j * 32 % blocksize ≡ j * 32
  lies j = div-add-mod' (j * 32) blocksize

  fits : (j : ℕ) → j * 32 % blocksize + 32 ≤ blocksize
  fits j = record_low blocksize j pos holds.whole

  room : k * 32 % blocksize + length bytes ≤ blocksize
  room = omega (arith, wide, fits k)

  some : 0 < length bytes
  some = omega (arith, wide)

  -- a leaf below the size is that of the put content
  leaf_same : (j : ℕ) → j * 32 < c.size → b.leaves (j * 32 / blocksize) ≡ p.leaves (j * 32 / blocksize)
  leaf_same j below = is.leaves (j * 32 / blocksize) (part_below (j * 32) c.size blocksize pos below)

  -- and before the put it has what it had
  leaf_kept : (j : ℕ) → j * 32 < c.size → m.leaves (j * 32 / blocksize) ≡ a.leaves (j * 32 / blocksize)
  leaf_kept j below = kept_leaf blocksize c a over none (j * 32 / blocksize) (part_below (j * 32) c.size blocksize pos below)

  put_low : k * 32 < c.size
  put_low = subst (λ n. k * 32 < n) (sym size) (size_has blocksize k a.size pos low)

  -- the record
  record_here : record_of order blocksize b k ≡ raw
  record_here =
      ap (λ (l : List ℕ). raw_in order (slice_range l (k * 32 % blocksize) (k * 32 % blocksize + 32))) (leaf_same k put_low ∙ put_here blocksize (k * 32) bytes pos some room m)
      ∙ ap (λ n. raw_in order (slice_range (put_at (m.leaves (k * 32 / blocksize)) (k * 32 % blocksize) bytes) (k * 32 % blocksize) (k * 32 % blocksize + n))) (sym wide)
      ∙ ap (raw_in order) (range_put_same (m.leaves (k * 32 / blocksize)) bytes (k * 32 % blocksize) (length bytes) refl (omega (arith, fits k, changed_long blocksize c a over (k * 32 / blocksize)))) ∙ says

  -- another one
  record_beside : (j : ℕ) → j ≢ k → j * 32 < c.size → record_of order blocksize b j ≡ record_of order blocksize a j
  record_beside j ne below =
      ap (λ (l : List ℕ). raw_in order (slice_range l (j * 32 % blocksize) (j * 32 % blocksize + 32))) (leaf_same j below)
      ∙ ap (raw_in order) (elim (cases_eq (j * 32 / blocksize) (k * 32 / blocksize)) [
        | inr other ↦ ap (λ (l : List ℕ). slice_range l (j * 32 % blocksize) (j * 32 % blocksize + 32)) (put_beside blocksize (k * 32) bytes pos some room m (j * 32 / blocksize) other)
        | inl same ↦
            ap (λ q. slice_range (p.leaves q) (j * 32 % blocksize) (j * 32 % blocksize + 32)) same
            ∙ ap (λ (l : List ℕ). slice_range l (j * 32 % blocksize) (j * 32 % blocksize + 32)) (put_here blocksize (k * 32) bytes pos some room m)
            ∙ range_put_apart (m.leaves (k * 32 / blocksize)) bytes (k * 32 % blocksize) (length bytes) (j * 32 % blocksize) 32 refl (apart same) (omega (arith, fits k, changed_long blocksize c a over (k * 32 / blocksize)))
            ∙ ap (λ q. slice_range (m.leaves q) (j * 32 % blocksize) (j * 32 % blocksize + 32)) (sym same)
      ])
      ∙ ap (λ (l : List ℕ). raw_in order (slice_range l (j * 32 % blocksize) (j * 32 % blocksize + 32))) (leaf_kept j below)
    where
      apart : j * 32 / blocksize ≡ k * 32 / blocksize → (j * 32 % blocksize + 32 ≤ k * 32 % blocksize) ⊎ (k * 32 % blocksize + length bytes ≤ j * 32 % blocksize)
      apart same =
          let product : j * 32 / blocksize * blocksize ≡ k * 32 / blocksize * blocksize = ap (λ q. q * blocksize) same in
          elim (cases_lt j k) [
            | inl before ↦ inl (omega (arith, before, product, lies j, lies k))
            | inr behind ↦ inr (let more : k < j = omega (arith, behind, ne) in omega (arith, more, product, lies j, lies k, wide))
          ]

  -- one behind the old end
  record_behind : (j : ℕ) → a.size ≤ j * 32 → record_of order blocksize a j ≡ raws.Unused
  record_behind j past =
      let z = slice_zeros blocksize (j * 32 % blocksize) (j * 32 % blocksize + 32) in
      ap (λ (l : List ℕ). raw_in order (slice_range l (j * 32 % blocksize) (j * 32 % blocksize + 32))) (over.holes (j * 32 / blocksize) (not_so (is_in a.present (j * 32 / blocksize)) high))
      ∙ ap (raw_in order) z.1 ∙ raw_zeros order z.0
    where
      high : is_in a.present (j * 32 / blocksize) ≡ true → ⊥
      high there =
          let lower = over.below (j * 32 / blocksize) there in
          let product = multiple a.size blocksize whole in
          let count : ceil_div a.size blocksize ≡ a.size / blocksize = ap (λ n. ceil_div n blocksize) product ∙ ceil_multiple (a.size / blocksize) blocksize pos in
          let least = le-div (a.size / blocksize) (j * 32) blocksize pos (omega (arith, product, past)) in
          omega (arith, lower, count, least)

  pub record_put : SetsRecord order blocksize k raw a b
  record_put = record {
    size = is.size ∙ size;
    present = is.present ∙ (λ i. present_after a.present (ceil_div (size i) blocksize) (written i) (none i));
    here = record_here;
    others = λ j ne below. record_beside j ne (subst (λ n. j * 32 < n) (sym size) (omega (arith, below, size_more blocksize k a.size)));
    behind = λ j ne past below. record_beside j ne (subst (λ n. j * 32 < n) (sym size) below) ∙ record_behind j past;
  }
