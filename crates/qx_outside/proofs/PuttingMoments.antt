-- Puts between two good syncs: what an image has meanwhile, and how calls carry them on.
use Rattle.std.proofs.Common.{◌≡◌, ◌≤◌, ◌<◌, ◌+◌, ◌-◌, ◌⊎◌, inl, inr, Bool, true, false, length, take, drop, append-nil, arith, ℕ, List, [], ◌∷◌, ◌++◌, refl, ap, sym, ◌∙◌, subst}
use Rattle.std.specs.Prelude.{slice_range, slice_index}
use Rattle.std.specs.Prelude.{Contains}
use Rattle.std.proofs.Math.Seq.{take-length}
use Rattle.std.proofs.lemmas.Bool.{cases_lt}
use Rattle.std.proofs.lemmas.List.{take-append-drop}
use Rattle.qx_bytes.specs.Ranges.{put_at}
use Rattle.qx_bytes.proofs.Puts.{byte_put_apart, length_put, range_range}
use Rattle.qx_outside.specs.Outside.{Outside}
use Rattle.qx_outside.specs.Trail.{History, Deed, took, gave, wrote, synced, sized, told_moment, after, resized, device_bytes, bytes_of}
use Rattle.qx_outside.specs.Images.{IsPending, IsImage, IsAsked, kept_after}
use Rattle.qx_outside.specs.Calls.{Did, Writes, Syncs}
use Rattle.qx_outside.specs.Moments.{HasOthers, Keeps, Moves, Reaches}
use Rattle.qx_outside.specs.Puts.{Put, IsApartFrom, IsPartOf, ArePartsOf, IsPutting, HasPut, IsAtRest, PutsOrRests}
use Rattle.qx_outside.proofs.Throughout.{moves_did, reaches_does, IsWrite, IsSync, does_writes, does_syncs, keeps_does}

-- ---- at rest

-- a write that leaves nothing changes nothing
pub put_none : (bytes : List ℕ) (at : ℕ) → put_at bytes at [] ≡ bytes
put_none bytes at =
    let tail : drop (at + 0) bytes ≡ drop at bytes = ap (λ (n : ℕ). drop n bytes) (let e : at + 0 ≡ at = omega arith in e) in
    ap (λ (xs : List ℕ). xs ++ drop (at + 0) bytes) (append-nil (take at bytes)) ∙ ap (λ (xs : List ℕ). take at bytes ++ xs) tail ∙ take-append-drop at bytes

-- where nothing is pending, what was kept is what the device has
kept_after-settled : (starting : List ℕ) (deeds : List Deed) → ((k : ℕ) → IsPending deeds k → ⊥) → kept_after starting deeds ≡ device_bytes starting deeds
kept_after-settled starting [] quiet = refl
kept_after-settled starting (wrote at asked [] ok ∷ before) quiet = kept_after-settled starting before (λ k p. quiet k (inr p)) ∙ sym (put_none (device_bytes starting before) at)
kept_after-settled starting (wrote at asked (x ∷ left) ok ∷ before) quiet = absurd (quiet at (inl (omega arith, omega arith)))
kept_after-settled starting (synced true ∷ before) quiet = refl
kept_after-settled starting (synced false ∷ before) quiet = kept_after-settled starting before quiet
kept_after-settled starting (sized len true ∷ before) quiet = ap (λ (bytes : List ℕ). resized bytes len) (kept_after-settled starting before quiet)
kept_after-settled starting (sized len false ∷ before) quiet = kept_after-settled starting before quiet
kept_after-settled starting (took bytes ∷ before) quiet = kept_after-settled starting before quiet
kept_after-settled starting (gave bytes ∷ before) quiet = kept_after-settled starting before quiet
kept_after-settled starting (told_moment moment ∷ before) quiet = kept_after-settled starting before quiet

-- and each write since is a part of any puts, as it reached nothing
parts-settled : (puts : List Put) (deeds : List Deed) → ((k : ℕ) → IsPending deeds k → ⊥) → ArePartsOf puts deeds
parts-settled puts [] quiet = tt
parts-settled puts (wrote at asked [] ok ∷ before) quiet = (inl refl, parts-settled puts before (λ k p. quiet k (inr p)))
parts-settled puts (wrote at asked (x ∷ left) ok ∷ before) quiet = absurd (quiet at (inl (omega arith, omega arith)))
parts-settled puts (synced true ∷ before) quiet = tt
parts-settled puts (synced false ∷ before) quiet = parts-settled puts before quiet
parts-settled puts (sized len ok ∷ before) quiet = parts-settled puts before quiet
parts-settled puts (took bytes ∷ before) quiet = parts-settled puts before quiet
parts-settled puts (gave bytes ∷ before) quiet = parts-settled puts before quiet
parts-settled puts (told_moment moment ∷ before) quiet = parts-settled puts before quiet

-- a device at rest has put none of them yet
pub IsPutting-rest : (X : List ℕ) (puts : List Put) (h : History) → IsAtRest X h → IsPutting X puts h
IsPutting-rest X puts h rest = record {
  kept_is = kept_after-settled h.starting h.deeds rest.settled.quiet ∙ rest.bytes_are;
  size = ap length rest.bytes_are;
  parts = parts-settled puts h.deeds rest.settled.quiet;
  outside = λ k apart. ap (λ (bytes : List ℕ). slice_index bytes k) rest.bytes_are;
}

-- ---- images

-- a pending byte lies in the place of a put
pending_place : (puts : List Put) (deeds : List Deed) (k : ℕ) → ArePartsOf puts deeds → IsPending deeds k → IsApartFrom puts k → ⊥
pending_place puts [] k parts pending apart = pending
pending_place puts (wrote at asked left ok ∷ before) k parts pending apart = elim pending [
  | inr earlier ↦ pending_place puts before k parts.1 earlier apart
  | inl here ↦ elim parts.0 [
    | inl none ↦ omega (arith, here.0, here.1, ap length none)
    | inr part ↦ apart part.1.put part.1.among (omega (arith, here.0, part.1.from)) (omega (arith, here.1, part.0, part.1.to))
  ]
]
pending_place puts (synced true ∷ before) k parts pending apart = pending
pending_place puts (synced false ∷ before) k parts pending apart = pending_place puts before k parts pending apart
pending_place puts (sized len ok ∷ before) k parts pending apart = pending_place puts before k parts pending apart
pending_place puts (took bytes ∷ before) k parts pending apart = pending_place puts before k parts pending apart
pending_place puts (gave bytes ∷ before) k parts pending apart = pending_place puts before k parts pending apart
pending_place puts (told_moment moment ∷ before) k parts pending apart = pending_place puts before k parts pending apart

-- an image has as many bytes as were kept
pub image_putting-size : (X : List ℕ) (puts : List Put) (h : History) (image : List ℕ) → IsPutting X puts h → IsImage h image → length image ≡ length X
image_putting-size X puts h image p is = is.size ∙ p.size

-- and what was kept apart from the puts
pub image_putting-apart : (X : List ℕ) (puts : List Put) (h : History) (image : List ℕ) (k : ℕ) → IsPutting X puts h → IsImage h image → IsApartFrom puts k → slice_index image k ≡ slice_index X k
image_putting-apart X puts h image k p is apart = is.same k (λ pending. pending_place puts h.deeds k p.parts pending apart) ∙ p.outside k apart

-- a part of a part is a part
IsPartOf-part : (puts : List Put) (from at : ℕ) (asked bytes : List ℕ) → IsPartOf puts from asked → from ≤ at → at + length bytes ≤ from + length asked → bytes ≡ slice_range asked (at - from) (at - from + length bytes) → IsPartOf puts at bytes
IsPartOf-part puts from at asked bytes part low high same = record {
  put = part.put;
  among = part.among;
  from = omega (arith, part.from);
  to = omega (arith, part.to);
  same =
      let n : ℕ = length asked in
      let whole : slice_range asked (at - from) (at - from + length bytes) ≡ slice_range (slice_range part.put.bytes (from - part.put.at) (from - part.put.at + n)) (at - from) (at - from + length bytes) =
      ap (λ (xs : List ℕ). slice_range xs (at - from) (at - from + length bytes)) part.same in
      let inner = range_range part.put.bytes (from - part.put.at) (from - part.put.at + n) (at - from) (at - from + length bytes) (omega arith) in
      let first : from - part.put.at + (at - from) ≡ at - part.put.at = omega (arith, part.from) in
      let last : from - part.put.at + (at - from + length bytes) ≡ at - part.put.at + length bytes = omega (arith, part.from) in
      same ∙ whole ∙ inner ∙ ap (λ (i : ℕ). slice_range part.put.bytes i (from - part.put.at + (at - from + length bytes))) first ∙ ap (λ (j : ℕ). slice_range part.put.bytes (at - part.put.at) j) last;
}

-- what was asked for is a part of the puts
asked_part : (puts : List Put) (deeds : List Deed) (at : ℕ) (bytes : List ℕ) → 0 < length bytes → ArePartsOf puts deeds → IsAsked deeds at bytes → IsPartOf puts at bytes
asked_part puts [] at bytes some parts asked = absurd asked
asked_part puts (wrote from wanted left ok ∷ before) at bytes some parts asked = elim asked [
  | inr earlier ↦ asked_part puts before at bytes some parts.1 earlier
  | inl here ↦ elim parts.0 [
    | inl none ↦ absurd (omega (arith, here.0, here.1, ap length none))
    | inr part ↦ IsPartOf-part puts from at wanted bytes part.1 here.0 (omega (arith, here.1, part.0)) here.2
  ]
]
asked_part puts (synced true ∷ before) at bytes some parts asked = absurd asked
asked_part puts (synced false ∷ before) at bytes some parts asked = asked_part puts before at bytes some parts asked
asked_part puts (sized len ok ∷ before) at bytes some parts asked = asked_part puts before at bytes some parts asked
asked_part puts (took taken ∷ before) at bytes some parts asked = asked_part puts before at bytes some parts asked
asked_part puts (gave given ∷ before) at bytes some parts asked = asked_part puts before at bytes some parts asked
asked_part puts (told_moment moment ∷ before) at bytes some parts asked = asked_part puts before at bytes some parts asked

-- so is what is asked for while they are put
pub IsPartOf-asked : (X : List ℕ) (puts : List Put) (h : History) (at : ℕ) (bytes : List ℕ) → 0 < length bytes → IsPutting X puts h → IsAsked h.deeds at bytes → IsPartOf puts at bytes
IsPartOf-asked X puts h at bytes some p asked = asked_part puts h.deeds at bytes some p.parts asked

-- bytes that are taken of a put are a part of it
pub IsPartOf-taken : (puts : List Put) (put : Put) (from : ℕ) (bytes : List ℕ) → Contains puts put → from + length bytes ≤ length put.bytes → bytes ≡ slice_range put.bytes from (from + length bytes) → IsPartOf puts (put.at + from) bytes
IsPartOf-taken puts put from bytes among room same = record {
  put = put;
  among = among;
  from = omega arith;
  to = omega arith;
  same = same ∙ (let e : from ≡ put.at + from - put.at = omega arith in ap (λ (i : ℕ). slice_range put.bytes i (i + length bytes)) e);
}

-- so is the whole of it
pub IsPartOf-whole : (puts : List Put) (put : Put) → Contains puts put → IsPartOf puts put.at put.bytes
IsPartOf-whole puts put among = record {
  put = put;
  among = among;
  from = omega arith;
  to = omega arith;
  same =
      let none : put.at - put.at ≡ 0 = omega arith in
      sym (ap (λ (i : ℕ). slice_range put.bytes i (i + length put.bytes)) none ∙ ap (λ (n : ℕ). take n put.bytes) (let e : 0 + length put.bytes - 0 ≡ length put.bytes = omega arith in e) ∙ take-length put.bytes);
}

-- ---- one more deed

module _ (X : List ℕ) (puts : List Put) where
  -- a part of them, written well or not
  pub IsPutting-write : (h : History) (at : ℕ) (asked left : List ℕ) (ok : Bool) → IsPartOf puts at asked → at + length asked ≤ length X → length left ≡ length asked → IsPutting X puts h → IsPutting X puts (after (wrote at asked left ok) h)
  IsPutting-write h at asked left ok part room long p = record {
    kept_is = p.kept_is;
    size = length_put (bytes_of h) left at (length left) refl (omega (arith, p.size)) ∙ p.size;
    parts = (inr (long, part), p.parts);
    outside = λ k apart.
        let beside : (k < at) ⊎ (at + length left ≤ k) = elim (cases_lt k at) [
          | inl before ↦ inl before
          | inr behind ↦ elim (cases_lt k (at + length left)) [
            | inl within ↦ absurd (apart part.put part.among (omega (arith, part.from)) (omega (arith, part.to)))
            | inr past ↦ inr past
          ]
        ] in
        byte_put_apart (bytes_of h) left at (length left) k refl beside (omega (arith, p.size)) ∙ p.outside k apart;
  }

  -- a sync that failed
  pub IsPutting-failed : (h : History) → IsPutting X puts h → IsPutting X puts (after (synced false) h)
  IsPutting-failed h p = record { kept_is = p.kept_is; size = p.size; parts = p.parts; outside = p.outside }

  -- a good sync
  pub IsAtRest-synced : (h : History) (Y : List ℕ) → bytes_of h ≡ Y → IsAtRest Y (after (synced true) h)
  IsAtRest-synced h Y now = record { bytes_are = now; settled = record { quiet = λ k p. p } }

-- ---- calls

module _ (X : List ℕ) (puts : List Put) (all : List ℕ) where
  -- before the first
  pub moves_rest : (a : Outside) → Moves (IsAtRest X) (HasPut X puts X) (PutsOrRests X puts all) a a
  moves_rest a = record { before = λ t. t; step = λ t rest. let p = IsPutting-rest X puts a.history rest in (record { since = []; grew = refl; along = inl p }, record { putting = p; now_is = rest.bytes_are }) }

  -- a part of them was put
  pub moves_put : (at : ℕ) (asked Y : List ℕ) (a b c : Outside) → IsPartOf puts at asked → at + length asked ≤ length X → Did (wrote at asked asked true) b c
      → Moves (IsAtRest X) (HasPut X puts Y) (PutsOrRests X puts all) a b → Moves (IsAtRest X) (HasPut X puts (put_at Y at asked)) (PutsOrRests X puts all) a c
  moves_put at asked Y a b c part room did m =
      moves_did (IsAtRest X) (HasPut X puts Y) (HasPut X puts (put_at Y at asked)) (PutsOrRests X puts all) (wrote at asked asked true)
      (λ h p. record { putting = IsPutting-write X puts h at asked asked true part room refl p.putting; now_is = ap (λ (bytes : List ℕ). put_at bytes at asked) p.now_is })
      (λ h p. inl p.putting) a b c did m

  -- a part of them may have been put
  pub reaches_put : (at : ℕ) (asked Y : List ℕ) (a b c : Outside) → IsPartOf puts at asked → at + length asked ≤ length X → Writes at asked b c
      → Moves (IsAtRest X) (HasPut X puts Y) (PutsOrRests X puts all) a b → Reaches (IsAtRest X) (PutsOrRests X puts all) a c
  reaches_put at asked Y a b c part room writes m =
      reaches_does (IsAtRest X) (HasPut X puts Y) (HasPut X puts Y) (PutsOrRests X puts all) (IsWrite at asked)
      (λ h deed is p. inl (subst (λ (d : Deed). IsPutting X puts (after d h)) (sym is.1.2) (IsPutting-write X puts h at asked is.0 is.1.0 part room is.1.1 p.putting)))
      a b c (does_writes at asked b c writes) m

  -- all of them were put and are kept
  pub moves_sync : (a b c : Outside) → Did (synced true) b c
      → Moves (IsAtRest X) (HasPut X puts all) (PutsOrRests X puts all) a b → Moves (IsAtRest X) (IsAtRest all) (PutsOrRests X puts all) a c
  moves_sync a b c did m =
      moves_did (IsAtRest X) (HasPut X puts all) (IsAtRest all) (PutsOrRests X puts all) (synced true)
      (λ h p. IsAtRest-synced X puts h all p.now_is) (λ h p. inr p) a b c did m

  -- they may be kept
  pub reaches_sync : (a b c : Outside) → Syncs b c
      → Moves (IsAtRest X) (HasPut X puts all) (PutsOrRests X puts all) a b → Reaches (IsAtRest X) (PutsOrRests X puts all) a c
  reaches_sync a b c syncs m =
      reaches_does (IsAtRest X) (HasPut X puts all) (HasPut X puts all) (PutsOrRests X puts all) (IsSync)
      (λ h deed is p. subst (λ (d : Deed). PutsOrRests X puts all (after d h)) (sym is.1) (by_answer h is.0 p)) a b c (does_syncs b c syncs) m
    where
      by_answer : (h : History) (ok : Bool) → HasPut X puts all h → PutsOrRests X puts all (after (synced ok) h)
      by_answer h true p = inr (IsAtRest-synced X puts h all p.now_is)
      by_answer h false p = inl (IsPutting-failed X puts h p.putting)

-- ---- the other deeds

module _ (others : List Deed) where
  -- a write adds none
  pub others_write : (at : ℕ) (asked : List ℕ) (a b : Outside) → Writes at asked a b → Keeps (HasOthers others) a b
  others_write at asked a b writes =
      keeps_does (HasOthers others) (IsWrite at asked)
      (λ h deed is has. subst (λ (d : Deed). HasOthers others (after d h)) (sym is.1.2) has) a b (does_writes at asked a b writes)

  -- nor does a sync
  pub others_sync : (a b : Outside) → Syncs a b → Keeps (HasOthers others) a b
  others_sync a b syncs =
      keeps_does (HasOthers others) (IsSync)
      (λ h deed is has. subst (λ (d : Deed). HasOthers others (after d h)) (sym is.1) has) a b (does_syncs a b syncs)
