-- The bytes of all leaves while they are read: those that were read stand in their places, and the others are 0.
use Rattle.std.proofs.Common.{◌≡◌, ℕ, ◌+◌, ◌-◌, ◌*◌, ◌<◌, ◌≤◌, inl, inr, List, length, take, drop, replicate, refl, sym, ◌∙◌, ap, subst, arith}
use Rattle.std.specs.Prelude.{true, Contains, slice_range}
use Rattle.std.proofs.Math.Nat.{add-mul, mul-le-mul_right, one-mul}
use Rattle.std.proofs.lemmas.Bool.{cases_Bool, cases_lt}
use Rattle.std.proofs.lemmas.Slice.{between-put_mid, between_is, drop-put_mid, take-put_mid_below}
use borrow.Rule.Slice.PartMut.{put_mid}
use Rattle.std.proofs.lemmas.List.{drop-replicate, get_or_default, take-replicate}
use Rattle.std.proofs.lemmas.List.Elements.{Contains-get_or}
use Rattle.qx_geom.proofs.ImagesAndFilters.{Contains-in, in_Contains}
use Rattle.qx_geom.specs.declared.root.Root.{Root}
use Rattle.qx_geom.specs.Lists.{IsAscending, is_in}
use Rattle.qx_nodes.proofs.ContentLocality.{leaf_lies, reaches_of}
use Rattle.qx_nodes.specs.BlockMap.{BlockMap}
use Rattle.qx_nodes.specs.Content.{HasSize, bytes_at_leaf, leaf_bytes}
use Rattle.qx_nodes.specs.Leaves.{leaves_below}
use Rattle.qx_tables.proofs.LeafLists.{leaf_listed, leaf_unlisted, listed_number, number_listed, numbers_of}
use Rattle.qx_tables.proofs.LeafRuns.{ascends, run_at}
use Rattle.qx_pointers.proofs.BlockRanges.{range_within}
use Rattle.qx_pointers.specs.declared.node.LeafPlace.{LeafPlace}
use Rattle.qx_tables.specs.Tables.{AreLeaves, IsApart, IsRun, leaf_in, leaf_range}

-- the leaves of a list before a place in it stand in their places, and the bytes of the others below `count` are 0
pub record IsFilled (m : BlockMap) (count : ℕ) (leaves : List LeafPlace) (upto : ℕ) (bytes : List ℕ) : Type 0 where
  pub present : (k : ℕ) → k < upto → leaf_range m.size bytes (leaf_in leaves k).index ≡ m.bytes (leaf_in leaves k).block
  pub others : (i : ℕ) → i < count → ((k : ℕ) → k < upto → (leaf_in leaves k).index ≡ i → ⊥) → leaf_range m.size bytes i ≡ replicate m.size 0

-- a leaf has room among the bytes
pub room_of : (i count size : ℕ) → i < count → i * size + size ≤ count * size
room_of i count size low =
    let next : (i + 1) * size ≤ count * size = mul-le-mul_right size (let h : i + 1 ≤ count = omega (arith, low) in h) in
    let same : (i + 1) * size ≡ i * size + size = rw (add-mul i 1 size, one-mul size) refl in
    omega (arith, next, same)

-- no leaf was read yet
pub fill_none : (m : BlockMap) (count : ℕ) (leaves : List LeafPlace) (bytes : List ℕ) → bytes ≡ replicate (count * m.size) 0 → IsFilled m count leaves 0 bytes
fill_none m count leaves bytes e = record {
  present = λ k low. absurd (omega (arith, low));
  others = λ i low none. ap (λ (l : List ℕ). leaf_range m.size l i) e ∙ zeros i low;
}
  where
    zeros : (i : ℕ) → i < count → leaf_range m.size (replicate (count * m.size) 0) i ≡ replicate m.size 0
    zeros i low =
        let s : ℕ = m.size in
        let room : i * s + s ≤ count * s = room_of i count s low in
        let wide : i * s + s - i * s ≡ s = omega arith in
        ap (λ (l : List ℕ). take (i * s + s - i * s) l) (drop-replicate (i * s) (count * s) 0)
        ∙ ap (λ k. take k (replicate (count * s - i * s) 0)) wide
        ∙ take-replicate s (count * s - i * s) 0 (omega (arith, room))

-- the leaves of a run more
pub fill_run : (m : BlockMap) (count : ℕ) (leaves : List LeafPlace) (from n : ℕ) (old new : List ℕ) → IsAscending (numbers_of leaves) → IsRun leaves from n → IsFilled m count leaves from old
    → ((k : ℕ) → k < n → leaf_range m.size new ((leaf_in leaves from).index + k) ≡ m.bytes ((leaf_in leaves from).block + k))
    → ((i : ℕ) → IsApart (leaf_in leaves from).index n i → leaf_range m.size new i ≡ leaf_range m.size old i) → IsFilled m count leaves (from + n) new
fill_run m count leaves from n old new up run h here others = record {
  present = λ k low. elim (cases_lt k from) [
    | inl before ↦ others (leaf_in leaves k).index (inl (ascends leaves k from up before (omega (arith, run.some, run.inside)))) ∙ h.present k before
    | inr behind ↦
        let at : from + (k - from) ≡ k = omega (arith, behind) in
        let few : k - from < n = omega (arith, low, behind, run.some) in
        let stands = run_at leaves from n (k - from) run few in
        subst (λ j. leaf_range m.size new (leaf_in leaves j).index ≡ m.bytes (leaf_in leaves j).block) at (ap (leaf_range m.size new) stands.0 ∙ here (k - from) few ∙ sym (ap m.bytes stands.1))
  ];
  others = λ i low none.
      others i (apart i none) ∙ h.others i low (λ k before. none k (omega (arith, before)));
}
  where
    apart : (i : ℕ) → ((k : ℕ) → k < from + n → (leaf_in leaves k).index ≡ i → ⊥) → IsApart (leaf_in leaves from).index n i
    apart i none = elim (cases_lt i (leaf_in leaves from).index) [
      | inl below ↦ inl below
      | inr from_on ↦ elim (cases_lt i ((leaf_in leaves from).index + n)) [
        | inl within ↦
            let j : ℕ = i - (leaf_in leaves from).index in
            let few : j < n = omega (arith, within, from_on, run.some) in
            let same : (leaf_in leaves from).index + j ≡ i = omega (arith, from_on) in
            absurd (none (from + j) (omega (arith, few)) ((run_at leaves from n j run few).0 ∙ same))
        | inr above ↦ inr above
      ]
    ]

-- once all present leaves stand in their places, all bytes are those of the node
pub filled_all : (m : BlockMap) (node : Root) (leaves : List LeafPlace) (bytes : List ℕ) → HasSize m → AreLeaves m node leaves → IsFilled m (leaves_below m node) leaves (length leaves) bytes
    → (i : ℕ) → i < leaves_below m node → leaf_range m.size bytes i ≡ leaf_bytes m node i
filled_all m node leaves bytes size a h i low = elim (cases_Bool (is_in (numbers_of leaves) i)) [
  | inl t ↦
      let r : (p : LeafPlace) × Contains leaves p × (p.index ≡ i) = listed_number leaves i (Contains-in (numbers_of leaves) i t) in
      let place : leaf_in leaves r.1.0 ≡ r.0 = get_or_default leaves r.1.0 _ r.0 r.1.1 ∙ r.1.2 in
      let there : leaf_range m.size bytes r.0.index ≡ m.bytes r.0.block = subst (λ (p : LeafPlace). leaf_range m.size bytes p.index ≡ m.bytes p.block) place (h.present r.1.0 r.1.1) in
      subst (λ k. leaf_range m.size bytes k ≡ leaf_bytes m node k) r.2 (there ∙ sym (ap (bytes_at_leaf m) (leaf_listed m node leaves r.0 size.words a r.1)))
  | inr f ↦
      let none : Contains (numbers_of leaves) i → ⊥ = λ c. absurd (let t : is_in (numbers_of leaves) i ≡ true = in_Contains (numbers_of leaves) i c in cc) in
      h.others i low (λ k before is. none (subst (Contains (numbers_of leaves)) is (number_listed leaves (leaf_in leaves k) (Contains-get_or leaves k _ before))))
      ∙ sym (ap (bytes_at_leaf m) (leaf_unlisted m node leaves i a (leaf_lies m node i (reaches_of m node size a.fits) low) none))
]

-- leaves that are put in their places leave the others
pub range_apart : (xs ys : List ℕ) (k n i s : ℕ) → IsApart k n i → k * s + n * s ≤ length xs → length ys ≡ n * s → leaf_range s (put_mid (k * s) (k * s + n * s - k * s) xs ys) i ≡ leaf_range s xs i
range_apart xs ys k n i s apart room long = elim apart [
  | inl below ↦
      let before : i * s + s ≤ k * s = room_of i k s below in
      between_is (put_mid (k * s) (k * s + n * s - k * s) xs ys) (i * s) (i * s + s)
      ∙ ap (λ (l : List ℕ). drop (i * s) l) (take-put_mid_below (k * s) (k * s + n * s - k * s) xs ys (i * s + s) before (omega (arith, room)))
      ∙ sym (between_is xs (i * s) (i * s + s))
  | inr above ↦
      let most : (k + n) * s ≤ i * s = mul-le-mul_right s above in
      let behind : k * s + n * s ≤ i * s = omega (arith, most, add-mul k n s) in
      ap (λ (l : List ℕ). take (i * s + s - i * s) l) (drop-put_mid (k * s) (k * s + n * s - k * s) xs ys (i * s) (omega (arith, behind)) (omega (arith, room)) (omega (arith, long)))
]

-- and are the pieces of what was put
pub range_put : (xs ys : List ℕ) (k n j s : ℕ) → j < n → k * s + n * s ≤ length xs → length ys ≡ n * s → leaf_range s (put_mid (k * s) (k * s + n * s - k * s) xs ys) (k + j) ≡ slice_range ys (j * s) (j * s + s)
range_put xs ys k n j s low room long =
    let new : List ℕ = put_mid (k * s) (k * s + n * s - k * s) xs ys in
    let at : (k + j) * s ≡ k * s + j * s = add-mul k j s in
    let put : slice_range new (k * s) (k * s + n * s) ≡ ys = between-put_mid (k * s) (k * s + n * s - k * s) xs ys (k * s + n * s) (omega (arith, room)) (omega (arith, long)) in
    ap (λ z. slice_range new z (z + s)) at ∙ sym (range_within new (k * s) (n * s) (j * s) s (room_of j n s low)) ∙ ap (λ (l : List ℕ). slice_range l (j * s) (j * s + s)) put
