-- The blocks of the other half, and the bits of the bitmap, by the blocks that were met.
use Rattle.std.proofs.Common.{◌≡◌, ◌⊎◌, inl, inr, ℕ, zero, suc, ◌+◌, ◌*◌, ◌/◌, ◌%◌, ◌≤◌, ◌<◌, List, [], ◌∷◌, length, refl, ap, sym, ◌∙◌, arith}
use Rattle.std.specs.Prelude.{Bool, true, false, ◌&&◌, ◌||◌, ◌==◌, not, if◌then◌else◌, None, Contains, nat_le, nat_lt, slice_index}
use Rattle.std.specs.List.{list_all, list_any, range_with_len}
use Rattle.std.specs.Int.{bit_at}
use Rattle.std.proofs.lemmas.Bool.{cases_lt, le-leb, leb-true, ltb-false}
use Rattle.std.proofs.lemmas.Nat.{div_below}
use Rattle.std.proofs.Math.Bool.{or-true}
use Rattle.qx_blockset.specs.Members.{Members, count_of, has, limit_of}
use Rattle.qx_geom.proofs.ImagesAndFilters.{Contains-in, in_Contains}
use Rattle.qx_geom.proofs.Members.{Contains-cons, Contains-head}
use Rattle.qx_geom.proofs.Truths.{not_so, true_or_false}
use Rattle.qx_geom.proofs.VolumeNumbers.{IsGeometry-keeps, VolumeNumbers}
use Rattle.qx_geom.specs.Area.{other_area}
use Rattle.qx_geom.specs.Layout.{first_block}
use Rattle.qx_geom.specs.Lists.{first_below, is_in}
use Rattle.qx_geom.specs.declared.area.Which.TheVariants.{First, Second}
use Rattle.qx_geom.specs.declared.area.Which.{Which}
use Rattle.qx_geom.specs.declared.geometry.Geometry.{Geometry}
use Rattle.qx_nodes.specs.BlockMap.{BlockMap}
use Rattle.qx_nodes.specs.Content.{HasSize, bytes_at_leaf}
use Rattle.qx_super.specs.Superblock.{Superblock}
use Rattle.qx_view.proofs.ActiveHalf.{IsGeometryOf, bitmap_leaf}
use Rattle.qx_view.proofs.AlikeLists.{first_alike, member_passes}
use Rattle.qx_view.specs.Images.{main_roots}
use Rattle.qx_view.specs.Sound.{bit_differs, is_laid_out, must_be_set, outer_blocks}
use Rattle.qx_view.specs.Usage.{met_blocks}
use Rattle.qx_view.specs.Walk.{finding_of}
use Rattle.qx_walk.proofs.OuterBlocks.{count_marked, met_counted, met_differ, outer_inside, outer_length, outer_outside}
use Rattle.qx_system.specs.SystemBytes.{is_taken}
use Rattle.qx_walk.specs.Bitmaps.{is_wrong_bit}
use Rattle.qx_walk.specs.Layouts.{has_block_of_half}
use Rattle.qx_pointers.specs.Marks.{Marks}

-- ---- some and all of a list

-- a number of a range that passes
record PassesIn (p : ℕ → Bool) (from to : ℕ) : Type 0 where
  number : ℕ
  low : from ≤ number
  high : number < to
  passes : p number ≡ true

-- where some number of a range passes
any_range : (p : ℕ → Bool) (a n : ℕ) → list_any p (range_with_len a n) ≡ true → PassesIn p a (a + n)
any_range p a zero e = absurd (cc)
any_range p a (suc n) e = go (p a) refl e (any_range p (a + 1) n)
  where
    go : (t : Bool) → p a ≡ t → (t || list_any p (range_with_len (a + 1) n)) ≡ true → (list_any p (range_with_len (a + 1) n) ≡ true → PassesIn p (a + 1) (a + 1 + n)) → PassesIn p a (a + suc n)
    go true here e more = record { number = a; low = omega arith; high = omega arith; passes = here }
    go false here e more = let r : PassesIn p (a + 1) (a + 1 + n) = more e in record { number = r.number; low = omega (arith, r.low); high = omega (arith, r.high); passes = r.passes }

-- a number of a range that passes is some
pub range_any : (p : ℕ → Bool) (a n b : ℕ) → a ≤ b → b < a + n → p b ≡ true → list_any p (range_with_len a n) ≡ true
range_any p a zero b low high t = absurd (omega arith)
range_any p a (suc n) b low high t = elim (cases_lt a b) [
  | inl above ↦ or_later (p a) (range_any p (a + 1) n b (omega arith) (omega arith) t)
  | inr same ↦ let is : b ≡ a = omega arith in ap (λ x. x || list_any p (range_with_len (a + 1) n)) (ap p (sym is) ∙ t)
]
  where
    or_later : (x : Bool) → list_any p (range_with_len (a + 1) n) ≡ true → (x || list_any p (range_with_len (a + 1) n)) ≡ true
    or_later true h = refl
    or_later false h = h

-- where none of a range passes, not some does
pub range_none : (p : ℕ → Bool) (a n : ℕ) → ((b : ℕ) → a ≤ b → b < a + n → p b ≡ false) → list_any p (range_with_len a n) ≡ false
range_none p a n none = not_so (list_any p (range_with_len a n)) (λ t. let some : PassesIn p a (a + n) = any_range p a n t in true_or_false (p some.number) some.passes (none some.number some.low some.high))

-- where not all members pass, one doesn't
not_all : (p : ℕ → Bool) (xs : List ℕ) → list_all p xs ≡ false → (x : ℕ) × Contains xs x × (p x ≡ false)
not_all p [] e = absurd (cc)
not_all p (x ∷ xs) e = go (p x) refl e (not_all p xs)
  where
    go : (t : Bool) → p x ≡ t → (t && list_all p xs) ≡ false → (list_all p xs ≡ false → (y : ℕ) × Contains xs y × (p y ≡ false)) → (y : ℕ) × Contains (x ∷ xs) y × (p y ≡ false)
    go true here e more = let r : (y : ℕ) × Contains xs y × (p y ≡ false) = more e in (r.0, Contains-cons x r.0 xs r.1, r.2)
    go false here e more = (x, Contains-head x xs, here)

-- ---- the two halves

-- a block of both halves is one of the active half's or of the other's
of_halves : (g : Geometry) (which : Which) (b : ℕ) → b < 2 * g.half
    → ((first_block g which ≤ b) × (b < first_block g which + g.half)) ⊎ ((first_block g (other_area which) ≤ b) × (b < first_block g (other_area which) + g.half))
of_halves g First b low = elim (cases_lt b g.half) [ inl here ↦ inl (omega arith, omega arith) | inr there ↦ inr (omega arith, omega arith) ]
of_halves g Second b low = elim (cases_lt b g.half) [ inl there ↦ inr (omega arith, omega arith) | inr here ↦ inl (omega arith, omega arith) ]

-- a block of the other half lies outside the active one
other_outside : (g : Geometry) (which : Which) (b : ℕ) → first_block g (other_area which) ≤ b → b < first_block g (other_area which) + g.half → (b < first_block g which) ⊎ (first_block g which + g.half ≤ b)
other_outside g First b low high = inr (omega arith)
other_outside g Second b low high = inl (omega arith)

-- and within both
other_within : (g : Geometry) (which : Which) (b : ℕ) → b < first_block g (other_area which) + g.half → b < 2 * g.half
other_within g First b high = omega arith
other_within g Second b high = omega arith

-- what lies behind both lies outside the active one
behind_outside : (g : Geometry) (which : Which) (b : ℕ) → 2 * g.half ≤ b → first_block g which + g.half ≤ b
behind_outside g First b high = omega arith
behind_outside g Second b high = omega arith

module _ (m : BlockMap) (s : Superblock) (room : HasSize m) (none : finding_of m (main_roots s) ≡ None) (g : Geometry) (which : Which) (of : IsGeometryOf s g)
    (size : m.size ≡ s.blocksize) (count : m.count ≡ s.num_blocks) (right : is_laid_out m s g which ≡ true) (set : Members) (marks : Marks set (met_blocks m (main_roots s))) (limit : limit_of set ≡ m.count) where
  numbers : VolumeNumbers g
  numbers = IsGeometry-keeps g of.volume

  -- the outer blocks lie behind both halves exactly where no block of the other half was met
  pub other_half : not (has_block_of_half g (other_area which) set) ≡ list_all (λ b. nat_le (2 * g.half) b) (outer_blocks m (main_roots s))
  other_half = go (list_all (λ b. nat_le (2 * g.half) b) (outer_blocks m (main_roots s))) refl
    where
      first : ℕ
      first = first_block g (other_area which)

      apart : (b : ℕ) → b < 2 * g.half → b < limit_of set
      apart b low = omega (arith, limit, count, of.count, numbers.room)

      go : (t : Bool) → list_all (λ b. nat_le (2 * g.half) b) (outer_blocks m (main_roots s)) ≡ t → not (has_block_of_half g (other_area which) set) ≡ t
      go true all = ap (λ x. not x) (not_so (has_block_of_half g (other_area which) set) (λ h.
          let some : PassesIn (λ b. has set b) first (first + g.half) = any_range (λ b. has set b) first g.half h in
          let within : some.number < 2 * g.half = other_within g which some.number some.high in
          let met : is_in (met_blocks m (main_roots s)) some.number ≡ true = sym (marks.each some.number (apart some.number within)) ∙ some.passes in
          let outer : is_in (outer_blocks m (main_roots s)) some.number ≡ true = outer_outside m s room none g which of size count right some.number (other_outside g which some.number some.low some.high) ∙ met in
          let behind : 2 * g.half ≤ some.number = leb-true (2 * g.half) some.number (member_passes (λ b. nat_le (2 * g.half) b) (outer_blocks m (main_roots s)) some.number all (Contains-in (outer_blocks m (main_roots s)) some.number outer)) in
          omega (arith, behind, within)))
      go false some =
          let one : (b : ℕ) × Contains (outer_blocks m (main_roots s)) b × (nat_le (2 * g.half) b ≡ false) = not_all (λ b. nat_le (2 * g.half) b) (outer_blocks m (main_roots s)) some in
          let outer : is_in (outer_blocks m (main_roots s)) one.0 ≡ true = in_Contains (outer_blocks m (main_roots s)) one.0 one.1 in
          let low : one.0 < 2 * g.half = elim (cases_lt one.0 (2 * g.half)) [ inl less ↦ less | inr more ↦ absurd (true_or_false (nat_le (2 * g.half) one.0) (le-leb (2 * g.half) one.0 more) one.2) ] in
          let there : has_block_of_half g (other_area which) set ≡ true = elim (of_halves g which one.0 low) [
            | inl active ↦ absurd (true_or_false (is_in (outer_blocks m (main_roots s)) one.0) outer (outer_inside m s room none g which of size count right one.0 active.0 active.1))
            | inr other ↦ range_any (λ b. has set b) first g.half one.0 other.0 other.1
                (marks.each one.0 (apart one.0 low) ∙ sym (outer_outside m s room none g which of size count right one.0 (other_outside g which one.0 other.0 other.1)) ∙ outer)
          ] in
          ap (λ x. not x) there

  -- a bit must be set by the outer blocks exactly where it must be by those that were met
  wanted_same : (b : ℕ) → must_be_set m g (outer_blocks m (main_roots s)) b ≡ is_taken g (has set) b
  wanted_same b = go (nat_lt b (2 * g.half)) refl
    where
      counted : nat_le m.count b ≡ nat_le g.num_blocks b
      counted = ap (λ n. nat_le n b) (count ∙ of.count)

      rest : 2 * g.half ≤ b → (is_in (outer_blocks m (main_roots s)) b || nat_le m.count b) ≡ (has set b || nat_le g.num_blocks b)
      rest high = elim (cases_lt b (limit_of set)) [
        | inl low ↦ λ i. (outer_outside m s room none g which of size count right b (inr (behind_outside g which b high)) ∙ sym (marks.each b low)) i || counted i
        | inr past ↦ let end : nat_le m.count b ≡ true = le-leb m.count b (omega (arith, limit, past)) in
            ap (λ x. is_in (outer_blocks m (main_roots s)) b || x) end ∙ or-true (is_in (outer_blocks m (main_roots s)) b)
            ∙ sym (ap (λ x. has set b || x) (sym counted ∙ end) ∙ or-true (has set b))
      ]

      go : (t : Bool) → nat_lt b (2 * g.half) ≡ t → (t || (is_in (outer_blocks m (main_roots s)) b || nat_le m.count b)) ≡ (t || (has set b || nat_le g.num_blocks b))
      go true e = refl
      go false e = rest (ltb-false b (2 * g.half) e)

  -- so the first bit that differs is the first wrong one
  pub first_wrong : first_below (bit_differs m s.bitmap g (outer_blocks m (main_roots s))) (g.bitmap_leaves * m.size * 8) ≡ first_below (is_wrong_bit m g which set) (g.bitmap_leaves * m.size * 8)
  first_wrong = first_alike (bit_differs m s.bitmap g (outer_blocks m (main_roots s))) (is_wrong_bit m g which set) (g.bitmap_leaves * m.size * 8) (λ b low.
      let leaf : b / 8 / m.size < g.bitmap_leaves = div_below (b / 8) m.size g.bitmap_leaves room.size (div_below b 8 (g.bitmap_leaves * m.size) (omega arith) low) in
      λ i. not (bit_at (slice_index (bytes_at_leaf m (bitmap_leaf m s g which of size count right (b / 8 / m.size) leaf i)) (b / 8 % m.size)) (b % 8) == (if wanted_same b i then 1 else 0)))

  -- the set has the outer blocks, and the active half's
  pub met_count : count_of set ≡ length (outer_blocks m (main_roots s)) + g.half
  met_count = count_marked set (met_blocks m (main_roots s)) marks (met_differ m s room none) (λ b h. omega (arith, limit, met_counted m s room none b h)) ∙ outer_length m s room none g which of size count right
