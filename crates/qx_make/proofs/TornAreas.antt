-- What an image has after a cut during a stage: where a stage puts bytes 0 and where it puts nothing.
use Rattle.std.proofs.Common.{◌≡◌, ℕ, zero, suc, Ok, Some, ◌+◌, ◌-◌, ◌≤◌, ◌<◌, ◌⊎◌, inl, inr, List, [], ◌∷◌, length, min, replicate, None, refl, ap, sym, ◌∙◌, subst, arith}
use Rattle.std.specs.Prelude.{slice_index, slice_range, Contains}
use Rattle.std.specs.Result.{result_ok}
use Rattle.std.proofs.lemmas.Bool.{cases_lt}
use Rattle.std.proofs.lemmas.List.{ext_get_or, get_or_past, length-replicate}
use Rattle.qx_bytes.specs.Ranges.{put_at}
use Rattle.qx_bytes.proofs.Puts.{byte_put_apart, byte_put_within, length_put}
use Rattle.qx_outside.specs.Puts.{IsApartFrom, IsPartOf, Put}
use Rattle.qx_outside.proofs.PuttingMoments.{put_none}
use Rattle.qx_super.specs.Superblock.{Superblock, superblock_of}
use Rattle.qx_super.proofs.ActiveAreas.{superblock_of-zeros}
use Rattle.qx_make.specs.Cut.{IsTorn, MayBeLeft, kept, put, invalid}
use Rattle.qx_make.specs.Stages.{Stage, after_stage, area_zeros, zero_stage}
use Rattle.qx_make.proofs.BytesAt.{HasSame, HasZeros, byte_of_range, byte_of_zeros, length-range}
use Rattle.qx_make.proofs.SuperblocksAt.{super_at, super_at-bytes, super_at-invalid, super_at-past, super_at-same, super_at-there}

-- ---- puts

-- a list of one has no other, and a list of two no third
pub only_one : {A : Type 0} (a x : A) → Contains (a ∷ []) x → a ≡ x
only_one a x (zero, within, is) = is
only_one a x (suc k, within, is) = absurd (omega arith)

-- each of two is one of them
pub one_of_two : {A : Type 0} (a b x : A) → Contains (a ∷ b ∷ []) x → (a ≡ x) ⊎ (b ≡ x)
one_of_two a b x (zero, within, is) = inl is
one_of_two a b x (suc zero, within, is) = inr is
one_of_two a b x (suc (suc k), within, is) = absurd (omega arith)

-- with no puts each byte is apart
pub IsApartFrom-none : (k : ℕ) → IsApartFrom [] k
IsApartFrom-none k p (i, within, is) from to = absurd (omega arith)

-- a byte that lies before a put or behind it
pub IsApartFrom-one : (a : Put) (k : ℕ) → (k < a.at) ⊎ (a.at + length a.bytes ≤ k) → IsApartFrom (a ∷ []) k
IsApartFrom-one a k beside p among from to = subst (λ (q : Put). q.at ≤ k → k < q.at + length q.bytes → ⊥) (only_one a p among) (outside beside) from to
  where
    outside : (k < a.at) ⊎ (a.at + length a.bytes ≤ k) → a.at ≤ k → k < a.at + length a.bytes → ⊥
    outside (inl before) low high = omega arith
    outside (inr behind) low high = omega arith

-- a byte that is beside both of two puts
pub IsApartFrom-two : (a b : Put) (k : ℕ) → (k < a.at) ⊎ (a.at + length a.bytes ≤ k) → (k < b.at) ⊎ (b.at + length b.bytes ≤ k) → IsApartFrom (a ∷ b ∷ []) k
IsApartFrom-two a b k beside_a beside_b p among from to = elim (one_of_two a b p among) [
  | inl is ↦ IsApartFrom-one a k beside_a p (0, omega arith, is) from to
  | inr is ↦ IsApartFrom-one b k beside_b p (0, omega arith, is) from to
]

-- a part of a put as long as the whole is the whole
pub whole_part : (at from : ℕ) (bytes whole : List ℕ) → from ≡ at → length bytes ≡ 512 → length whole ≡ 512 → bytes ≡ slice_range whole (at - from) (at - from + length bytes) → bytes ≡ whole
whole_part at from bytes whole here long as_long same =
    ext_get_or 0 bytes whole (omega arith) (λ i within.
    let part : slice_index bytes i ≡ slice_index (slice_range whole (at - from) (at - from + length bytes)) i = ap (λ (xs : List ℕ). slice_index xs i) same in
    let place : at - from + i ≡ i = omega arith in
    part ∙ byte_of_range whole (at - from) (at - from + length bytes) i (omega arith) ∙ ap (λ (k : ℕ). slice_index whole k) place)

-- each of the puts is bytes 0
pub record AreZeros (puts : List Put) : Type 0 where
  pub each : (p : Put) → Contains puts p → (n : ℕ) × (p.bytes ≡ replicate n 0)

-- bytes 0 at one place
pub AreZeros-one : (at n : ℕ) → AreZeros (record { at = at; bytes = replicate n 0 } ∷ [])
AreZeros-one at n = record { each = λ p among. (n, sym (ap (λ (q : Put). q.bytes) (only_one (record { at = at; bytes = replicate n 0 }) p among))) }

-- the same bytes 0 at two places
pub AreZeros-both : (at other n : ℕ) (zeros : List ℕ) → zeros ≡ replicate n 0 → AreZeros (record { at = at; bytes = zeros } ∷ record { at = other; bytes = zeros } ∷ [])
AreZeros-both at other n zeros are = record {
  each = λ p among. elim (one_of_two (record { at = at; bytes = zeros }) (record { at = other; bytes = zeros }) p among) [
    | inl is ↦ (n, sym (ap (λ (q : Put). q.bytes) is) ∙ are)
    | inr is ↦ (n, sym (ap (λ (q : Put). q.bytes) is) ∙ are)
  ];
}

-- a part of bytes 0 is bytes 0
part_of_zeros : (puts : List Put) (at : ℕ) (bytes : List ℕ) → AreZeros puts → IsPartOf puts at bytes → bytes ≡ replicate (length bytes) 0
part_of_zeros puts at bytes zeros part =
    let (n, all) = zeros.each part.put part.among in
    let from = at - part.put.at in
    let same : bytes ≡ slice_range (replicate n 0) from (from + length bytes) = part.same ∙ ap (λ (xs : List ℕ). slice_range xs from (from + length bytes)) all in
    ext_get_or 0 bytes (replicate (length bytes) 0) (sym (length-replicate (length bytes) 0)) (λ i within.
    ap (λ (xs : List ℕ). slice_index xs i) same ∙ byte_of_range (replicate n 0) from (from + length bytes) i (omega arith) ∙ byte_of_zeros n (from + i) ∙ sym (byte_of_zeros (length bytes) i))

-- ---- torn images

module _ (stage : Stage) (places : List ℕ) (img : List ℕ) (torn : IsTorn stage places img) where
  -- what no put touches is as it was kept
  pub torn_apart : (from to : ℕ) → ((k : ℕ) → from ≤ k → k < to → IsApartFrom stage.puts k) → HasSame img stage.kept from to
  torn_apart from to apart = record { each = λ k low high. torn.apart k (apart k low high) }

  -- so is a superblock that lies there
  pub torn_apart-super : (place : ℕ) → ((k : ℕ) → place ≤ k → k < place + 512 → IsApartFrom stage.puts k) → super_at img place ≡ super_at stage.kept place
  torn_apart-super place apart = super_at-same img stage.kept place torn.size (torn_apart place (place + 512) apart)

  -- so is one of which the bytes are as they were kept
  kept_super : (place : ℕ) → place + 512 ≤ length img → slice_range img place (place + 512) ≡ slice_range stage.kept place (place + 512) → super_at img place ≡ super_at stage.kept place
  kept_super place room is = super_at-bytes img place (slice_range stage.kept place (place + 512)) (length stage.kept) room is torn.size ∙ sym (super_at-there stage.kept place (omega (arith, torn.size)))

  -- a superblock's bytes are 512
  length-super : (place : ℕ) → place + 512 ≤ length img → length (slice_range img place (place + 512)) ≡ 512
  length-super place room = omega (arith, length-range img place (place + 512) room)

  -- where bytes 0 are put, a place has the superblock that was kept, or none
  pub torn_zeros : (place : ℕ) → AreZeros stage.puts → Contains places place → (super_at img place ≡ super_at stage.kept place) ⊎ (super_at img place ≡ None)
  torn_zeros place zeros among = elim (cases_lt (length img) (place + 512)) [
    | inl past ↦ inr (super_at-past img place past)
    | inr room ↦ by_bytes room (torn.stands place among room)
  ]
    where
      by_bytes : place + 512 ≤ length img → MayBeLeft stage (length img) place (slice_range img place (place + 512)) → (super_at img place ≡ super_at stage.kept place) ⊎ (super_at img place ≡ None)
      by_bytes room (kept is) = inl (kept_super place room is)
      by_bytes room (put part) =
          let all : slice_range img place (place + 512) ≡ replicate 512 0 = part_of_zeros stage.puts place (slice_range img place (place + 512)) zeros part ∙ ap (λ (n : ℕ). replicate n 0) (length-super place room) in
          inr (super_at-bytes img place (replicate 512 0) (length img) room all refl ∙ ap result_ok (superblock_of-zeros (length img)))
      by_bytes room (invalid none) = inr (super_at-invalid img place room none)

  -- where one part of a put fits a place whole, it has the superblock of that part, or none, if none was kept
  pub torn_put : (place : ℕ) (whole : List ℕ) (s : Superblock) → Contains places place → place + 512 ≤ length img → super_at stage.kept place ≡ None
      → ((bytes : List ℕ) → length bytes ≡ 512 → IsPartOf stage.puts place bytes → bytes ≡ whole) → superblock_of whole (length img) ≡ Ok s
      → (super_at img place ≡ None) ⊎ (super_at img place ≡ Some s)
  torn_put place whole s among room none only valid = by_bytes (torn.stands place among room)
    where
      by_bytes : MayBeLeft stage (length img) place (slice_range img place (place + 512)) → (super_at img place ≡ None) ⊎ (super_at img place ≡ Some s)
      by_bytes (kept is) = inl (kept_super place room is ∙ none)
      by_bytes (put part) = inr (super_at-bytes img place whole (length img) room (only (slice_range img place (place + 512)) (length-super place room) part) refl ∙ ap result_ok valid)
      by_bytes (invalid refused) = inl (super_at-invalid img place room refused)

-- where nothing is put all is as it was kept
pub torn_rest : (bytes : List ℕ) (places img : List ℕ) → IsTorn (record { kept = bytes; puts = [] }) places img → img ≡ bytes
torn_rest bytes places img torn = ext_get_or 0 img bytes torn.size (λ k within. torn.apart k (IsApartFrom-none k))

-- ---- an area that was zeroed

module _ (bytes : List ℕ) (place : ℕ) where
  -- the zeros that are put
  abbrev zeros : List ℕ
  zeros = replicate (min 4096 (length bytes - place)) 0

  -- how many they are
  count : length zeros ≡ min 4096 (length bytes - place)
  count = length-replicate (min 4096 (length bytes - place)) 0

  -- where the device ends before the area, nothing changes
  nothing : length bytes ≤ place → after_stage (zero_stage bytes place) ≡ bytes
  nothing short =
      let none : min 4096 (length bytes - place) ≡ 0 = omega arith in
      ap (λ (n : ℕ). put_at bytes place (replicate n 0)) none ∙ put_none bytes place

  -- the length stays
  pub length-zeroed : length (after_stage (zero_stage bytes place)) ≡ length bytes
  length-zeroed = elim (cases_lt place (length bytes)) [
    | inl there ↦ length_put bytes zeros place (length zeros) refl (omega (arith, count))
    | inr short ↦ ap length (nothing short)
  ]

  -- the area is 0, as far as the device goes and past its end
  pub zeroed-within : HasZeros (after_stage (zero_stage bytes place)) place (place + 4096)
  zeroed-within = record {
    each = λ k low high. elim (cases_lt k (length bytes)) [
      | inl there ↦ byte_put_within bytes zeros place (length zeros) k refl low (omega (arith, count)) (omega arith) ∙ byte_of_zeros (min 4096 (length bytes - place)) (k - place)
      | inr past ↦ get_or_past (after_stage (zero_stage bytes place)) k 0 (omega (arith, length-zeroed))
    ];
  }

  -- all else stays
  pub zeroed-apart : (from to : ℕ) → (to ≤ place) ⊎ (place + 4096 ≤ from) → HasSame (after_stage (zero_stage bytes place)) bytes from to
  zeroed-apart from to beside = record {
    each = λ k low high. elim (cases_lt place (length bytes)) [
      | inl there ↦ byte_put_apart bytes zeros place (length zeros) k refl (outside k low high beside) (omega arith)
      | inr short ↦ ap (λ (xs : List ℕ). slice_index xs k) (nothing short)
    ];
  }
    where
      outside : (k : ℕ) → from ≤ k → k < to → (to ≤ place) ⊎ (place + 4096 ≤ from) → (k < place) ⊎ (place + length zeros ≤ k)
      outside k low high (inl before) = inl (omega arith)
      outside k low high (inr behind) = inr (omega (arith, count))

  -- so an image that lacks some of it has all else
  pub torn_zeroed-apart : (from to : ℕ) → (to ≤ place) ⊎ (place + 4096 ≤ from) → (k : ℕ) → from ≤ k → k < to → IsApartFrom (zero_stage bytes place).puts k
  torn_zeroed-apart from to beside k low high = IsApartFrom-one (area_zeros (length bytes) place) k (outside beside)
    where
      outside : (to ≤ place) ⊎ (place + 4096 ≤ from) → (k < place) ⊎ (place + length zeros ≤ k)
      outside (inl before) = inl (omega arith)
      outside (inr behind) = inr (omega (arith, count))
