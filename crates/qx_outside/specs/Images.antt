-- What a power cut may leave of a device.
use Rattle.std.specs.Prelude.{ℕ, ◌≡◌, ◌+◌, ◌-◌, ◌≤◌, ◌<◌, true, false, List, [], ◌∷◌, ◌⊎◌, length, slice_index, slice_range}
use Rattle.qx_outside.specs.Trail.{History, Deed, took, gave, wrote, synced, sized, told_moment, resized, device_bytes, bytes_of}

-- byte k lies in a write since the last good sync, or since the start
abbrev pub IsPending : List Deed → ℕ → Type 0
IsPending [] k = ⊥
IsPending (wrote at asked left ok ∷ before) k = ((at ≤ k) × (k < at + length left)) ⊎ IsPending before k
IsPending (synced true ∷ before) k = ⊥
IsPending (synced false ∷ before) k = IsPending before k
IsPending (sized len ok ∷ before) k = IsPending before k
IsPending (took bytes ∷ before) k = IsPending before k
IsPending (gave bytes ∷ before) k = IsPending before k
IsPending (told_moment moment ∷ before) k = IsPending before k

-- a power cut may leave these bytes: those of the device, but for pending ones, which may be anything
pub record IsImage (h : History) (image : List ℕ) : Type 0 where
  pub size : length image ≡ length (bytes_of h)
  pub same : (k : ℕ) → (IsPending h.deeds k → ⊥) → slice_index image k ≡ slice_index (bytes_of h) k

-- nothing is pending
pub record IsSettled (h : History) : Type 0 where
  pub quiet : (k : ℕ) → IsPending h.deeds k → ⊥

-- ---- what was kept, and what was asked for since

-- the bytes that the last good sync kept of those at the start, with the lengths that were set since
abbrev pub kept_after : List ℕ → List Deed → List ℕ
kept_after starting [] = starting
kept_after starting (synced true ∷ before) = device_bytes starting before
kept_after starting (synced false ∷ before) = kept_after starting before
kept_after starting (sized len true ∷ before) = resized (kept_after starting before) len
kept_after starting (sized len false ∷ before) = kept_after starting before
kept_after starting (wrote at asked left ok ∷ before) = kept_after starting before
kept_after starting (took bytes ∷ before) = kept_after starting before
kept_after starting (gave bytes ∷ before) = kept_after starting before
kept_after starting (told_moment moment ∷ before) = kept_after starting before

-- the bytes that a device has where no write since the last good sync reached it
abbrev pub kept_bytes : History → List ℕ
kept_bytes h = kept_after h.starting h.deeds

-- a write since the last good sync that reached all of these bytes' place was asked to put them there
abbrev pub IsAsked : List Deed → ℕ → List ℕ → Type 0
IsAsked [] at bytes = ⊥
IsAsked (wrote from asked left ok ∷ before) at bytes =
    ((from ≤ at) × (at + length bytes ≤ from + length left) × (bytes ≡ slice_range asked (at - from) (at - from + length bytes))) ⊎ IsAsked before at bytes
IsAsked (synced true ∷ before) at bytes = ⊥
IsAsked (synced false ∷ before) at bytes = IsAsked before at bytes
IsAsked (sized len ok ∷ before) at bytes = IsAsked before at bytes
IsAsked (took taken ∷ before) at bytes = IsAsked before at bytes
IsAsked (gave given ∷ before) at bytes = IsAsked before at bytes
IsAsked (told_moment moment ∷ before) at bytes = IsAsked before at bytes
