-- What writing a block of the frozen tree leaves.
use Rattle.std.proofs.Common.{◌≡◌, ◌≢◌, ℕ, ◌+◌, ◌≤◌, ◌⊎◌, Bool, true, false, ◌&&◌, ◌||◌, not, List, length, Option, None, Some, refl, sym, ◌∙◌, ap, subst, arith}
use Rattle.std.specs.Prelude.{IsTrue, IfSome, slice_range}
use Rattle.std.specs.Option.{option_or}
use Rattle.std.specs.FinMap.{get}
use Rattle.qx_bytes.specs.Ranges.{put_at}
use Rattle.qx_bytes.proofs.Puts.{range_put_same}
use Rattle.qx_outside.specs.Outside.{Outside}
use Rattle.qx_outside.specs.Trail.{wrote, bytes_of}
use Rattle.qx_outside.specs.Calls.{Did, Writes}
use Rattle.qx_outside.proofs.ToldLengths.{told_weaker}
use Rattle.qx_patch.specs.PatchState.{IsLeast}
use Rattle.qx_blockset.specs.Members.{has}
use Rattle.qx_alloc.specs.SpaceState.{is_held, limit_in}
use Rattle.qx_cache.specs.CacheState.{CacheState, block_place, change_of, device_block, is_kept}
use Rattle.qx_cache.specs.Calls.{IsNext}
use Rattle.qx_cache.specs.Coherence.{IsCoherent}
use Rattle.qx_cache.proofs.BlockPlaces.{block-apart, place-next, places-apart}
use Rattle.qx_cache.proofs.Spaces.{held-user}
use Rattle.qx_cache.proofs.BlockMeanings.{none_there}

-- what the frozen tree holds is held, and the working tree doesn't hold it alone
frozen-held : (w f d : Bool) → f ≡ true → ((w || f || d) ≡ true) × ((w && not (f || d)) ≡ false)
frozen-held true true d is = (refl, refl)
frozen-held false true d is = (refl, refl)
frozen-held w false d is = absurd (cc is)

-- a block that isn't changed is none of either map
clean-parts : (change frozen : Option (List ℕ)) → option_or change frozen ≡ None → frozen ≡ None
clean-parts None frozen is = is
clean-parts (Some x) frozen is = absurd (cc is)

module _ {H : Type 0} {outside : H → Outside} (c : CacheState H) (b : ℕ) (bytes : List ℕ) (k : IsCoherent outside c) (least : IsLeast c.frozen_changes b) (there : get c.frozen_changes b ≡ Some bytes) where
  -- some tree holds it
  pub next-held : is_held c.space b ≡ true
  next-held = (frozen-held (has c.space.working b) (has c.space.frozen b) (has c.space.durable b) (k.frozen_changed b least.there).0).0

  -- it is no change of the working tree
  pub next-absent : get c.changes b ≡ None
  next-absent = none_there (get c.changes b) (k.private_changed b ∙ (frozen-held (has c.space.working b) (has c.space.frozen b) (has c.space.durable b) (k.frozen_changed b least.there).0).1)

  -- the least changed block of the frozen tree is the next
  pub is-next : IsNext c b bytes
  is-next = record {
    least = least;
    has_bytes = there;
    alone = next-absent;
    long = k.frozen_long b bytes there;
    user = (held-user c.space b k.space next-held).0;
    below = (held-user c.space b k.space next-held).1;
    frozen = (k.frozen_changed b least.there).0;
    undurable = (k.frozen_changed b least.there).1;
  }

  -- a kept block is another one
  pub kept-apart : (q : ℕ) → IsTrue (is_kept c.kept q) → q ≢ b
  kept-apart q kept same = absurd (cc (ap (get c.frozen_changes) (sym same) ∙ (k.kept_clean q kept).1, there))

  -- so is one that isn't changed
  pub clean-apart : (q : ℕ) → change_of c q ≡ None → q ≢ b
  clean-apart q clean same = absurd (cc (ap (get c.frozen_changes) (sym same) ∙ clean-parts (get c.changes q) (get c.frozen_changes q) clean, there))

  -- its place lies within the device
  pub next-within : IfSome (outside c.host).extent (λ len. block_place c.size b + length bytes ≤ len)
  next-within =
      told_weaker (outside c.host).extent (λ len. block_place c.size (limit_in c.space) + 0x200 ≤ len) (λ len. block_place c.size b + length bytes ≤ len)
      (λ len room. let next = place-next c.size b (limit_in c.space) (held-user c.space b k.space next-held).1 in let long = is-next.long in omega arith) k.room

  module _ (law : (s : H) → IsTrue (outside s).tells → (outside s).extent ≡ Some (length (bytes_of (outside s).history))) (host : H) where
    -- a write to its place leaves the other blocks
    pub others-stay : Writes (block_place c.size b) bytes (outside c.host) (outside host) → IsTrue (outside host).tells → (q : ℕ) → q ≢ b → device_block (bytes_of (outside host).history) c.size q ≡ device_block (bytes_of (outside c.host).history) c.size q
    others-stay w told q differ =
        block-apart (block_place c.size b) bytes (outside c.host) (outside host) (law c.host) w next-within told c.size q
        (subst (λ n. (block_place c.size q + c.size ≤ block_place c.size b) ⊎ (block_place c.size b + n ≤ block_place c.size q)) (sym is-next.long) (places-apart c.size q b differ))

    -- and one that was done puts its bytes there
    pub next-stands : Did (wrote (block_place c.size b) bytes bytes true) (outside c.host) (outside host) → IsTrue (outside host).tells → device_block (bytes_of (outside host).history) c.size b ≡ bytes
    next-stands d told =
        let room : block_place c.size b + length bytes ≤ length (bytes_of (outside c.host).history) = subst (λ o. IfSome o (λ len. block_place c.size b + length bytes ≤ len)) (law c.host (d.before told)) next-within in
        ap (λ h. device_block (bytes_of h) c.size b) (d.step told)
        ∙ subst (λ n. slice_range (put_at (bytes_of (outside c.host).history) (block_place c.size b) bytes) (block_place c.size b) (block_place c.size b + n) ≡ bytes) is-next.long
        (range_put_same (bytes_of (outside c.host).history) bytes (block_place c.size b) (length bytes) refl (omega arith))
