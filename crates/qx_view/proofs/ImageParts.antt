-- What stands where in an image of 96 blocks: its superblocks, and each block.
use Rattle.std.proofs.Common.{◌≡◌, ℕ, zero, suc, ◌+◌, ◌-◌, ◌*◌, ◌<◌, ◌≤◌, inl, inr, List, ◌++◌, length, drop, take, ap, sym, ◌∙◌, arith, length-append, length-drop}
use Rattle.std.specs.Prelude.{Option, None, Some, Bool, true, false, if◌then◌else◌, nat_le, option_and_then, slice_range}
use Rattle.std.proofs.Math.Seq.{drop-append-add}
use Rattle.std.proofs.lemmas.Bool.{cases_lt, le-leb}
use Rattle.std.proofs.lemmas.List.{drop-append-le, length-replicate, take-append-le, take_all}
use Rattle.std.proofs.lemmas.Nat.{mul-le}
use Rattle.qx_geom.specs.Lists.{parts_below}
use Rattle.qx_super.specs.Active.{active_area, active_super, area_at, only_at, pick_of, searched_place, second_super, first_super, super_of_pick, valid_area}
use Rattle.qx_super.specs.Superblock.{Superblock}
use Rattle.qx_view.specs.Images.{block_bytes}
use Rattle.qx_view.specs.SmallImage.{image_of, zeros}

-- a range behind a part
past : (xs ys : List ℕ) (i j : ℕ) → slice_range (xs ++ ys) (length xs + i) (length xs + j) ≡ slice_range ys i j
past xs ys i j =
    ap (λ (l : List ℕ). take (length xs + j - (length xs + i)) l) (drop-append-add xs ys i)
    ∙ ap (λ n. take n (drop i ys)) (let e : length xs + j - (length xs + i) ≡ j - i = omega arith in e)

-- a range within a part
within : (xs ys : List ℕ) (i j : ℕ) → i ≤ j → j ≤ length xs → slice_range (xs ++ ys) i j ≡ slice_range xs i j
within xs ys i j from to =
    ap (λ (l : List ℕ). take (j - i) l) (drop-append-le i xs ys (omega arith)) ∙ take-append-le (j - i) (drop i xs) ys (omega (arith, length-drop i xs))

-- the whole of some
all_of : (n : ℕ) (xs : List ℕ) → length xs ≡ n → slice_range xs 0 n ≡ xs
all_of n xs long = ap (λ k. take k xs) (let e : n - 0 ≡ n = omega arith in e) ∙ take_all n xs (omega (arith, long))

-- a whole part
whole_part : (xs ys : List ℕ) (n : ℕ) → length xs ≡ n → slice_range (xs ++ ys) 0 n ≡ xs
whole_part xs ys n long = within xs ys 0 n (omega arith) (omega (arith, long)) ∙ all_of n xs long

-- parts of one length
parts_length : (n w : ℕ) (f : ℕ → List ℕ) → ((k : ℕ) → k < n → length (f k) ≡ w) → length (parts_below n f) ≡ n * w
parts_length zero w f lens = omega arith
parts_length (suc n) w f lens =
    let before : length (parts_below n f) ≡ n * w = parts_length n w f (λ k low. lens k (omega arith)) in
    let more : (n + 1) * w ≡ n * w + w = grind arith in
    omega (arith, length-append (parts_below n f) (f n), before, lens n (omega arith), more)

-- and where each stands
part_at : (n w b : ℕ) (f : ℕ → List ℕ) → ((k : ℕ) → k < n → length (f k) ≡ w) → b < n → slice_range (parts_below n f) (b * w) (b * w + w) ≡ f b
part_at zero w b f lens low = absurd (omega arith)
part_at (suc n) w b f lens low =
    let before : length (parts_below n f) ≡ n * w = parts_length n w f (λ k l. lens k (omega arith)) in
    elim (cases_lt b n) [
      | inl less ↦
          let up : (b + 1) * w ≤ n * w = mul-le (b + 1) w n w (omega arith) (omega arith) in
          let more : (b + 1) * w ≡ b * w + w = grind arith in
          within (parts_below n f) (f n) (b * w) (b * w + w) (omega arith) (omega (arith, before, up, more)) ∙ part_at n w b f (λ k l. lens k (omega arith)) less
      | inr least ↦
          let same : b ≡ n = omega arith in
          let from : b * w ≡ length (parts_below n f) + 0 = ap (λ k. k * w) same ∙ omega (arith, before) in
          let to : b * w + w ≡ length (parts_below n f) + w = omega (arith, from) in
          (λ i. slice_range (parts_below n f ++ f n) (from i) (to i)) ∙ past (parts_below n f) (f n) 0 w ∙ all_of w (f n) (lens n (omega arith)) ∙ ap f (sym same)
    ]

module _ (block : ℕ → List ℕ) (first second : List ℕ) (lens : (b : ℕ) → b < 96 → length (block b) ≡ 512) (one : length first ≡ 512) (two : length second ≡ 512) where
  -- the image
  abbrev img : List ℕ
  img = image_of block first second

  -- what stands behind each part
  abbrev behind_blocks : List ℕ
  behind_blocks = second ++ zeros 0xE00

  abbrev behind_first : List ℕ
  behind_first = zeros 0xE00 ++ (parts_below 96 block ++ behind_blocks)

  blocks_long : length (parts_below 96 block) ≡ 49152
  blocks_long = parts_length 96 512 block lens

  zeros_long : (n : ℕ) → length (zeros n) ≡ n
  unfolding zeros
  zeros_long n = length-replicate {A = ℕ} n 0

  -- its length
  pub image_long : length img ≡ 65536
  unfolding image_of
  image_long = omega (
    arith,
    length-append (zeros 0x2000) (first ++ behind_first),
    length-append first behind_first,
    length-append (zeros 0xE00) (parts_below 96 block ++ behind_blocks),
    length-append (parts_below 96 block) behind_blocks,
    length-append second (zeros 0xE00),
    zeros_long 0x2000,
    zeros_long 0xE00,
    blocks_long,
    one,
    two,
  )

  -- a range behind the first area
  behind_area : (i j : ℕ) → slice_range img (0x3000 + i) (0x3000 + j) ≡ slice_range (parts_below 96 block ++ behind_blocks) i j
  unfolding image_of
  behind_area i j =
      let step : (k : ℕ) → 0x3000 + k ≡ length (zeros 0x2000) + (length first + (length (zeros 0xE00) + k)) = λ k. omega (arith, zeros_long 0x2000, zeros_long 0xE00, one) in
      (λ h. slice_range img (step i h) (step j h))
      ∙ past (zeros 0x2000) (first ++ behind_first) (length first + (length (zeros 0xE00) + i)) (length first + (length (zeros 0xE00) + j))
      ∙ past first behind_first (length (zeros 0xE00) + i) (length (zeros 0xE00) + j)
      ∙ past (zeros 0xE00) (parts_below 96 block ++ behind_blocks) i j

  -- each block
  pub block_is : (b : ℕ) → b < 96 → block_bytes img 512 b ≡ block b
  block_is b low =
      let to : 0x3000 + b * 512 + 512 ≡ 0x3000 + (b * 512 + 512) = omega arith in
      ap (λ n. slice_range img (0x3000 + b * 512) n) to ∙ behind_area (b * 512) (b * 512 + 512)
      ∙ within (parts_below 96 block) behind_blocks (b * 512) (b * 512 + 512) (omega arith) (omega (arith, blocks_long, low)) ∙ part_at 96 512 b block lens low

  -- the first area
  first_here : slice_range img 0x2000 (0x2000 + 512) ≡ first
  unfolding image_of
  first_here =
      let from : 0x2000 ≡ length (zeros 0x2000) + 0 = omega (arith, zeros_long 0x2000) in
      let to : 0x2000 + 512 ≡ length (zeros 0x2000) + 512 = omega (arith, zeros_long 0x2000) in
      (λ i. slice_range img (from i) (to i)) ∙ past (zeros 0x2000) (first ++ behind_first) 0 512 ∙ whole_part first behind_first 512 one

  -- the second
  second_here : slice_range img 0xF000 (0xF000 + 512) ≡ second
  second_here =
      let from : 0xC000 ≡ length (parts_below 96 block) + 0 = omega (arith, blocks_long) in
      let to : 0xC000 + 512 ≡ length (parts_below 96 block) + 512 = omega (arith, blocks_long) in
      behind_area 0xC000 (0xC000 + 512)
      ∙ (λ i. slice_range (parts_below 96 block ++ behind_blocks) (from i) (to i)) ∙ past (parts_below 96 block) behind_blocks 0 512 ∙ whole_part second (zeros 0xE00) 512 two

  -- a superblock at a place
  area_is : (place : ℕ) (bytes : List ℕ) → place + 512 ≤ 65536 → slice_range img place (place + 512) ≡ bytes → area_at img place ≡ Some bytes
  area_is place bytes room here = area_there (nat_le (place + 512) (length img)) (ap (nat_le (place + 512)) image_long ∙ le-leb (place + 512) 65536 room)
    where
      area_there : (b : Bool) → b ≡ true → (if b then Some (slice_range img place (place + 512)) else None) ≡ Some bytes
      area_there true e = ap (λ (x : List ℕ). Some x) here
      area_there false e = absurd (cc)

  -- that of the first area, and of the second where the first says that it stands there
  module _ (a b : Option Superblock) (a_is : valid_area 65536 (Some first) ≡ a) (search : searched_place 65536 a ≡ Some 0xF000) (b_is : only_at 0xF000 (valid_area 65536 (Some second)) ≡ b) where
    firsts : first_super img ≡ a
    firsts = (λ i. valid_area (image_long i) (area_is 0x2000 first (omega arith) first_here i)) ∙ a_is

    seconds : second_super img ≡ b
    seconds =
        (λ i. option_and_then (λ place. only_at place (valid_area (image_long i) (area_at img place))) (searched_place (image_long i) (firsts i)))
        ∙ ap (λ (o : Option ℕ). option_and_then (λ place. only_at place (valid_area 65536 (area_at img place))) o) search
        ∙ ap (λ o. only_at 0xF000 (valid_area 65536 o)) (area_is 0xF000 second (omega arith) second_here) ∙ b_is

    -- so the active area is that of these two
    pub active_is : active_area img ≡ pick_of a b
    unfolding active_area
    active_is = λ i. pick_of (firsts i) (seconds i)

    pub super_is : active_super img ≡ super_of_pick (pick_of a b) a b
    unfolding active_super
    super_is = λ i. super_of_pick (pick_of (firsts i) (seconds i)) (firsts i) (seconds i)
