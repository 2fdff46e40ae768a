-- What each step leaves of the order of a cache's fields.
use Rattle.std.proofs.Common.{◌≡◌, ℕ, true, false, List, [], ◌∷◌, length, Option, None, Some, refl, sym, ◌∙◌, ap, subst}
use Rattle.std.specs.Prelude.{IsTrue, is_some, unwrap_or}
use Rattle.std.specs.FinMap.{contains_key, empty, get}
use Rattle.qx_outside.specs.Outside.{Outside}
use Rattle.qx_outside.specs.Causes.{StaysWhereTold}
use Rattle.qx_outside.specs.Trail.{bytes_of}
use Rattle.qx_outside.specs.Calls.{Idles}
use Rattle.qx_patch.specs.PatchState.{PatchState}
use Rattle.qx_patch.specs.PatchState as patch
use Rattle.qx_blockset.specs.Members.{has}
use Rattle.qx_alloc.specs.SpaceState.{SpaceState, IsConsistent, IsFree, is_held, is_private_in, limit_in}
use Rattle.qx_alloc.specs.SpaceState as space
use Rattle.qx_patch.proofs.OrderedEntries.{length-refit}
use Rattle.qx_bytes.specs.SameLengths.{refit}
use Rattle.qx_cache.specs.CacheState.{CacheState, device_block, edited_in, is_kept, with_host, with_released, with_taken, with_thawed, with_written}
use Rattle.qx_blocks.specs.BlockState.{IsBlockSize}
use Rattle.qx_cache.specs.CacheView.{cache_in, IsInOrder}
use Rattle.qx_cache.specs.Coherence.{HasRoom}
use Rattle.qx_cache.proofs.CoherentSteps.{coherent-edited, coherent-host, coherent-kept, coherent-new, coherent-released, coherent-taken, coherent-thawed, coherent-written, kept-one, kept-others}

-- so it leaves the size of a block that is there
refit-long : (o : Option (List ℕ)) (new : List ℕ) (size : ℕ) → is_some o ≡ true → ((old : List ℕ) → o ≡ Some old → length old ≡ size) → length (refit (unwrap_or o []) new) ≡ size
refit-long None new size there long = absurd (cc there)
refit-long (Some old) new size there long = length-refit old new ∙ long old refl

-- a map with no block
abbrev pub no_changes : ℕ → PatchState
no_changes size = record { size = size; spare = 0; blocks = empty }

module _ {H : Type 0} {outside : H → Outside} where
  -- a new cache, whose maps have no block
  pub order-new : (host : H) (size : ℕ) (s : SpaceState) (ch fz : PatchState) (buffer spare : List ℕ) → IsBlockSize size → IsConsistent s → ((b : ℕ) → is_private_in s b ≡ false) → s.is_frozen ≡ false → HasRoom (outside host).extent size (limit_in s)
      → ch ≡ no_changes size → fz ≡ no_changes size → length buffer ≡ size → length spare ≡ size → IsInOrder outside (cache_in host size s ch fz None) ch fz buffer spare
  order-new host size s ch fz buffer spare sized consistent clean unfrozen room e f long also =
      subst (λ p. IsInOrder outside (cache_in host size s p fz None) p fz buffer spare) (sym e)
      (subst (λ p. IsInOrder outside (cache_in host size s (no_changes size) p None) (no_changes size) p buffer spare) (sym f) (record {
        coherent = coherent-new host size s sized consistent clean unfrozen room;
        changes_size = refl;
        frozen_size = refl;
        buffer_long = long;
        spare_long = also;
        kept_bytes = λ b kept. absurd (cc kept);
      }))

  -- another device, on which the kept block is the same
  pub order-host : (c : CacheState H) (ch fz : PatchState) (buffer spare : List ℕ) (host : H) → IsInOrder outside c ch fz buffer spare → StaysWhereTold (outside c.host).extent (outside host).extent → (IsTrue (outside host).tells → IsTrue (outside c.host).tells)
      → ((b : ℕ) → IsTrue (is_kept c.kept b) → IsTrue (outside host).tells → device_block (bytes_of (outside host).history) c.size b ≡ device_block (bytes_of (outside c.host).history) c.size b)
      → IsInOrder outside (with_host c host) ch fz buffer spare
  order-host c ch fz buffer spare host o stays before same = record {
    coherent = coherent-host c host o.coherent stays;
    changes_size = o.changes_size;
    frozen_size = o.frozen_size;
    buffer_long = o.buffer_long;
    spare_long = o.spare_long;
    kept_bytes = λ b kept told. o.kept_bytes b kept (before told) ∙ sym (same b kept told);
  }

  -- a read that failed filled the other buffer
  pub order-unread : (c : CacheState H) (ch fz : PatchState) (buffer spare into : List ℕ) (host : H) → IsInOrder outside c ch fz buffer spare → StaysWhereTold (outside c.host).extent (outside host).extent → Idles (outside c.host) (outside host) → length into ≡ length spare
      → IsInOrder outside (with_host c host) ch fz buffer into
  order-unread c ch fz buffer spare into host o stays idles long =
      let before = order-host c ch fz buffer spare host o stays idles.before (λ b kept told. ap (λ h. device_block (bytes_of h) c.size b) (idles.step told)) in record {
        coherent = before.coherent;
        changes_size = before.changes_size;
        frozen_size = before.frozen_size;
        buffer_long = before.buffer_long;
        spare_long = long ∙ before.spare_long;
        kept_bytes = before.kept_bytes;
      }

  -- a clean block was read into the other buffer, and the buffers changed places
  pub order-read : (c : CacheState H) (ch fz : PatchState) (buffer spare into : List ℕ) (host : H) (b : ℕ) → IsInOrder outside c ch fz buffer spare → StaysWhereTold (outside c.host).extent (outside host).extent → Idles (outside c.host) (outside host)
      → is_held c.space b ≡ true → get c.changes b ≡ None → get c.frozen_changes b ≡ None → length into ≡ length spare
      → (IsTrue (outside host).tells → into ≡ device_block (bytes_of (outside c.host).history) c.size b) → IsInOrder outside (record c { host = host; kept = b ∷ [] }) ch fz into buffer
  order-read c ch fz buffer spare into host b o stays idles held clean frozen_clean long bytes = record {
    coherent = coherent-host (record c { kept = b ∷ [] }) host (coherent-kept c b o.coherent held clean frozen_clean) stays;
    changes_size = o.changes_size;
    frozen_size = o.frozen_size;
    buffer_long = long ∙ o.spare_long;
    spare_long = o.buffer_long;
    kept_bytes = λ q kept told. bytes told ∙ sym (λ i. device_block (bytes_of (idles.step told i)) c.size (kept-one b q kept i));
  }

  -- a free block was taken
  pub order-taken : (c : CacheState H) (ch fz : PatchState) (buffer spare : List ℕ) (b : ℕ) → IsInOrder outside c ch fz buffer spare → IsFree c.space b → IsConsistent (space.with_taken c.space b)
      → (taken : PatchState) → taken.size ≡ ch.size → IsInOrder outside (with_taken c b) taken fz buffer spare
  order-taken c ch fz buffer spare b o free consistent taken size = record {
    coherent = coherent-taken c b o.coherent free consistent;
    changes_size = size ∙ o.changes_size;
    frozen_size = o.frozen_size;
    buffer_long = o.buffer_long;
    spare_long = o.spare_long;
    kept_bytes = λ q kept told. o.kept_bytes q (kept-others c.kept b q kept).0 told;
  }

  -- a block was given up
  pub order-released : (c : CacheState H) (ch fz : PatchState) (buffer spare : List ℕ) (b : ℕ) → IsInOrder outside c ch fz buffer spare → has c.space.working b ≡ true → IsConsistent (space.without c.space b)
      → IsInOrder outside (with_released c b) (patch.without_block ch b) fz buffer spare
  order-released c ch fz buffer spare b o works consistent = record {
    coherent = coherent-released c b o.coherent works consistent;
    changes_size = o.changes_size;
    frozen_size = o.frozen_size;
    buffer_long = o.buffer_long;
    spare_long = o.spare_long;
    kept_bytes = o.kept_bytes;
  }

  -- a block was lent, and anything was written over it
  pub order-edited : (c : CacheState H) (ch fz : PatchState) (buffer spare : List ℕ) (b : ℕ) (w : List ℕ) → IsInOrder outside c ch fz buffer spare → contains_key c.changes b ≡ true
      → IsInOrder outside (edited_in c b w) (patch.edited_in ch b w) fz buffer spare
  order-edited c ch fz buffer spare b w o there = record {
    coherent = coherent-edited c b (refit (unwrap_or (get c.changes b) []) w) o.coherent there (refit-long (get c.changes b) w c.size there (o.coherent.long b));
    changes_size = o.changes_size;
    frozen_size = o.frozen_size;
    buffer_long = o.buffer_long;
    spare_long = o.spare_long;
    kept_bytes = o.kept_bytes;
  }

  -- a block of the frozen tree was written
  pub order-written : (c : CacheState H) (ch fz : PatchState) (buffer spare : List ℕ) (host : H) (b : ℕ) → IsInOrder outside c ch fz buffer spare → IsTrue (contains_key c.frozen_changes b) → StaysWhereTold (outside c.host).extent (outside host).extent → (IsTrue (outside host).tells → IsTrue (outside c.host).tells)
      → ((q : ℕ) → IsTrue (is_kept c.kept q) → IsTrue (outside host).tells → device_block (bytes_of (outside host).history) c.size q ≡ device_block (bytes_of (outside c.host).history) c.size q)
      → IsInOrder outside (with_written c host b) ch (patch.without_block fz b) buffer spare
  order-written c ch fz buffer spare host b o there stays before same = record {
    coherent = coherent-written c host b o.coherent there stays;
    changes_size = o.changes_size;
    frozen_size = o.frozen_size;
    buffer_long = o.buffer_long;
    spare_long = o.spare_long;
    kept_bytes = λ q kept told. o.kept_bytes q kept (before told) ∙ sym (same q kept told);
  }

  -- the frozen tree became the durable one
  pub order-thawed : (c : CacheState H) (ch fz : PatchState) (buffer spare : List ℕ) → IsInOrder outside c ch fz buffer spare → c.space.is_frozen ≡ true → c.frozen_changes ≡ empty → IsConsistent (space.with_thawed c.space)
      → IsInOrder outside (with_thawed c) ch fz buffer spare
  order-thawed c ch fz buffer spare o frozen written consistent = record {
    coherent = coherent-thawed c o.coherent frozen written consistent;
    changes_size = o.changes_size;
    frozen_size = o.frozen_size;
    buffer_long = o.buffer_long;
    spare_long = o.spare_long;
    kept_bytes = o.kept_bytes;
  }
