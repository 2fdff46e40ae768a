-- The bytes of all leaves, one after another: pieces that lie within a leaf, and what lies past the size.
use Rattle.std.proofs.Common.{◌≡◌, ℕ, ◌+◌, ◌-◌, ◌*◌, ◌/◌, ◌%◌, ◌^◌, ◌<◌, ◌≤◌, ⊎_elim, inl, inr, List, [], ◌∷◌, length, drop, refl, sym, ◌∙◌, ap, subst, min, arith, length-drop}
use Rattle.std.specs.Prelude.{Bool, true, false, not, ◌&&◌, ◌||◌, ◌==◌, nat_lt, if◌then◌else◌, slice_range}
use Rattle.std.specs.List.{list_any}
use Rattle.std.proofs.lemmas.Bool.{cases_eq, eq-eqb, eqb-true, cases_lt, ltb-false, ne_eqb, or_cases}
use Rattle.std.proofs.lemmas.List.{drop-drop, drop_all, take_all}
use Rattle.std.proofs.lemmas.Nat.{div-add-mod'}
use Rattle.std.proofs.Math.Nat.{add-mul, one-mul}
use Rattle.qx_geom.proofs.BlockSizes.{BlockSizeBounds, block_size-bounds}
use Rattle.qx_geom.proofs.LevelCounts.{ceil_div-is, part_below}
use Rattle.qx_geom.specs.declared.root.Root.{Root}
use Rattle.qx_geom.specs.Layout.{is_block_size}
use Rattle.qx_nodes.specs.BlockMap.{BlockMap}
use Rattle.qx_nodes.specs.Content.{leaf_bytes}
use Rattle.qx_nodes.specs.Leaves.{leaves_below}
use Rattle.qx_view.specs.Images.{inode_bytes}
use Rattle.qx_view.specs.Sound.{are_zero, has_tail}
use Rattle.qx_pointers.proofs.BlockRanges.{range_within}
use Rattle.qx_tables.specs.declared.table.InodeTable.{InodeTable}
use Rattle.qx_tables.specs.Tables.{HoldsInodes, places_of}

-- ---- the pieces of inodes

-- where an inode begins in a leaf there is room for it
abbrev HasRoom : ℕ → ℕ → Type 0
HasRoom k s = k * 128 % s + 128 ≤ s

-- it has it at the four block sizes
room_within : (s k : ℕ) → is_block_size s ≡ true → HasRoom k s
room_within s k t =
    ⊎_elim (λ t'. ⊎_elim (λ t''. ⊎_elim (λ e. subst (HasRoom k) (sym (eqb-true s 512 e)) (omega arith)) (λ e. subst (HasRoom k) (sym (eqb-true s 1024 e)) (omega arith)) (or_cases _ _ t''))
    (λ e. subst (HasRoom k) (sym (eqb-true s 2048 e)) (omega arith)) (or_cases _ _ t')) (λ e. subst (HasRoom k) (sym (eqb-true s 4096 e)) (omega arith)) (or_cases _ _ t)

-- the places of a table lie below its size
pub places_below : (size n : ℕ) → n ≤ (if nat_lt (size / 128) (2 ^ 32) then size / 128 else 2 ^ 32 - 1) → n * 128 ≤ size
places_below size n h = go (nat_lt (size / 128) (2 ^ 32)) refl h
  where
    go : (b : Bool) → nat_lt (size / 128) (2 ^ 32) ≡ b → n ≤ (if b then size / 128 else 2 ^ 32 - 1) → n * 128 ≤ size
    go true e low = omega (arith, low)
    go false e low = omega (arith, low, ltb-false (size / 128) (2 ^ 32) e)

-- the bytes of an inode are those of its place in the table
pub inode_piece : (m : BlockMap) (inodes : Root) (table : InodeTable) (n : ℕ) → HoldsInodes m inodes table → 0 < n → n ≤ places_of table
    → slice_range table.bytes.items ((n - 1) * 128) ((n - 1) * 128 + 128) ≡ inode_bytes m inodes n
inode_piece m inodes table n h from to =
    let bytes : List ℕ = table.bytes.items in
    let at : ℕ = (n - 1) * 128 in
    let s : ℕ = m.size in
    let bounds : BlockSizeBounds s = block_size-bounds s h.sized in
    let low : n * 128 ≤ table.size = places_below table.size n to in
    let begins : at < inodes.size = omega (arith, from, low, h.size) in
    let there : at / s < leaves_below m inodes = part_below at inodes.size s (omega (arith, bounds.size_from)) begins in
    let is : at / s * s + at % s ≡ at = div-add-mod' at s in
    ap (λ k. slice_range bytes k (k + 128)) (sym is)
    ∙ sym (range_within bytes (at / s * s) s (at % s) 128 (room_within s (n - 1) h.sized))
    ∙ ap (λ l. slice_range l (at % s) (at % s + 128)) (h.leaves (at / s) there)

-- ---- what lies past the size

-- some byte isn't 0 where not all are
any-not_all : (bytes : List ℕ) → list_any (λ b. not (b == 0)) bytes ≡ not (are_zero bytes)
any-not_all [] = refl
any-not_all (b ∷ bytes) = ap (λ t. not (b == 0) || t) (any-not_all bytes) ∙ or-not (b == 0) (are_zero bytes)
  where
    or-not : (x y : Bool) → (not x || not y) ≡ not (x && y)
    or-not true y = refl
    or-not false y = refl

-- past the size nothing is left where it is a whole number of leaves, and else the end of the last leaf
pub tail_is : (m : BlockMap) (inodes : Root) (table : InodeTable) → HoldsInodes m inodes table → list_any (λ b. not (b == 0)) (drop table.size table.bytes.items) ≡ has_tail m inodes
tail_is m inodes table h =
    let bytes : List ℕ = table.bytes.items in
    let s : ℕ = m.size in
    let q : ℕ = inodes.size / m.size in
    let r : ℕ = inodes.size % m.size in
    let is : q * s + r ≡ inodes.size = div-add-mod' inodes.size s in
    let bounds : BlockSizeBounds s = block_size-bounds s h.sized in
    let count : q + min 1 r ≡ leaves_below m inodes = ceil_div-is inodes.size s (omega (arith, bounds.size_from)) in
    elim (cases_eq r 0) [
      | inl none ↦
          let few : leaves_below m inodes ≡ q = omega (arith, count, none) in
          let whole : length bytes ≡ q * s = h.long ∙ ap (λ k. k * s) few in
          ap (λ (l : List ℕ). list_any (λ b. not (b == 0)) l) (drop_all table.size bytes (omega (arith, whole, is, none, h.size)))
          ∙ sym (ap (λ t. not t && not (are_zero (drop r (leaf_bytes m inodes q)))) (eq-eqb r 0 none))
      | inr some ↦
          let above : 0 < r = elim (cases_lt 0 r) [ inl up ↦ up | inr low ↦ absurd (some (omega (arith, low))) ] in
          let more : leaves_below m inodes ≡ q + 1 = omega (arith, count, above) in
          let wide : (q + 1) * s ≡ q * s + s = rw (add-mul q 1 s, one-mul s) refl in
          let long : length bytes ≡ q * s + s = h.long ∙ ap (λ k. k * s) more ∙ wide in
          let last : drop (q * s) bytes ≡ leaf_bytes m inodes q
          = sym (take_all (q * s + s - q * s) (drop (q * s) bytes) (omega (arith, length-drop (q * s) bytes, long))) ∙ h.leaves q (omega (arith, more)) in
          let rest : drop table.size bytes ≡ drop r (leaf_bytes m inodes q)
          = ap (λ k. drop k bytes) (h.size ∙ sym is) ∙ sym (drop-drop r (q * s) bytes) ∙ ap (λ (l : List ℕ). drop r l) last in
          ap (λ (l : List ℕ). list_any (λ b. not (b == 0)) l) rest ∙ any-not_all (drop r (leaf_bytes m inodes q))
          ∙ sym (ap (λ t. not t && not (are_zero (drop r (leaf_bytes m inodes q)))) (ne_eqb r 0 some))
    ]
