-- The records of a present leaf of a directory, by the bytes of its block.
use Rattle.std.proofs.Common.{◌≡◌, ℕ, ◌+◌, ◌*◌, ◌/◌, ◌%◌, ◌<◌, ◌≤◌, inl, inr, List, refl, ap, sym, ◌∙◌, subst, arith}
use Rattle.std.specs.Prelude.{Bool, true, false, ◌||◌, ◌==◌, if◌then◌else◌, IsTrue, nat_le, slice_index, slice_range}
use Rattle.std.proofs.lemmas.Bool.{cases_eq, eqb-false, ne_eqb}
use Rattle.qx_fields.specs.Number.{field}
use Rattle.qx_fields.specs.declared.order.Order.{Order}
use Rattle.qx_geom.specs.Layout.{is_block_size}
use Rattle.qx_geom.specs.declared.root.Root.{Root}
use Rattle.qx_nodes.specs.BlockMap.{BlockMap}
use Rattle.qx_nodes.specs.Content.{bytes_at_leaf}
use Rattle.qx_nodes.specs.Leaves.{Block, leaf_of}
use Rattle.qx_records.specs.NameRecord.{Bad, Long, RawRecord, Short, Unused, raw_in}
use Rattle.qx_view.specs.Images.{block_at_leaf, raw_of, record_block}
use Rattle.qx_view.proofs.RecordPlaces.{leaf_is, placed_record}
use Rattle.qx_walk.specs.Rows.{NamesSome}

module _ (m : BlockMap) (node : Root) (i b j : ℕ) (whole : m.size % 32 ≡ 0) (low : j < m.size / 32) (at : leaf_of m node i ≡ Block b) where
  -- what it says
  pub leaf_record : raw_of m node (i * (m.size / 32) + j) ≡ raw_in m.order (slice_range (m.bytes b) (j * 32) (j * 32 + 32))
  leaf_record = placed_record m node i j whole low ∙ ap (λ z. raw_in m.order (slice_range (bytes_at_leaf m z) (j * 32) (j * 32 + 32))) at

  -- the block that holds it
  pub leaf_block : record_block m node (i * (m.size / 32) + j) ≡ b
  leaf_block = ap (λ z. block_at_leaf (leaf_of m node z)) (leaf_is m.size i j whole low) ∙ ap block_at_leaf at

-- ---- bytes of a block

-- what the block sizes are
pub block_sizes : (n : ℕ) → IsTrue (is_block_size n) → (n % 32 ≡ 0) × (512 ≤ n) × (n ≤ 4096)
block_sizes n sized = elim (cases_eq n 512) [
  | inl a ↦ subst (λ z. (z % 32 ≡ 0) × (512 ≤ z) × (z ≤ 4096)) (sym a) (refl, omega arith, omega arith)
  | inr a ↦ elim (cases_eq n 1024) [
    | inl b ↦ subst (λ z. (z % 32 ≡ 0) × (512 ≤ z) × (z ≤ 4096)) (sym b) (refl, omega arith, omega arith)
    | inr b ↦ elim (cases_eq n 2048) [
      | inl c ↦ subst (λ z. (z % 32 ≡ 0) × (512 ≤ z) × (z ≤ 4096)) (sym c) (refl, omega arith, omega arith)
      | inr c ↦ elim (cases_eq n 4096) [
        | inl d ↦ subst (λ z. (z % 32 ≡ 0) × (512 ≤ z) × (z ≤ 4096)) (sym d) (refl, omega arith, omega arith)
        | inr d ↦ absurd (none _ _ _ _ (ne_eqb n 512 a) (ne_eqb n 1024 b) (ne_eqb n 2048 c) (ne_eqb n 4096 d) sized)
      ]
    ]
  ]
]
  where
    none : (a b c d : Bool) → a ≡ false → b ≡ false → c ≡ false → d ≡ false → IsTrue (a || b || c || d) → ⊥
    none false false false false e f g h t = absurd (cc)
    none true b c d e f g h t = absurd (cc)
    none false true c d e f g h t = absurd (cc)
    none false false true d e f g h t = absurd (cc)
    none false false false true e f g h t = absurd (cc)

-- a row of a record names an inode that isn't 0
pub names_some : (order : Order) (bytes : List ℕ) (raw : RawRecord) → raw ≡ raw_in order bytes → NamesSome raw
unfolding raw_in
names_some order bytes raw e =
    let count : ℕ = slice_index bytes 4 in
    subst NamesSome (sym e) (go (field order 4 bytes 0 == 0) (count == 0) (nat_le count 27) (count == 255) (field order 4 bytes 0) refl)
  where
    go : (a b c d : Bool) (n : ℕ) → (n == 0) ≡ a → NamesSome (if a || b then Unused else if c then Short n (slice_range bytes 5 (5 + slice_index bytes 4)) else if d then Long n (field order 4 bytes 8) (field order 4 bytes 12) else Bad (slice_index bytes 4))
    go true b c d n z = tt
    go false true c d n z = tt
    go false false true d n z = let some : n ≡ 0 → ⊥ = eqb-false n 0 z in omega (arith, some)
    go false false false true n z = let some : n ≡ 0 → ⊥ = eqb-false n 0 z in omega (arith, some)
    go false false false false n z = tt
