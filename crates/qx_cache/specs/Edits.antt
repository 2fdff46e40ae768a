-- What the blocks of a cache mean once one of them was lent for writing.
use Rattle.std.proofs.Common.{◌≡◌, ℕ, true, List, [], length, refl, ◌∙◌, ap, Option, None, Some}
use Rattle.std.specs.Prelude.{IsTrue, is_some, unwrap_or, if◌then◌else◌}
use Rattle.std.specs.Option.{option_or}
use Rattle.std.specs.FinMap.{get, contains_key, insert}
use Rattle.qx_outside.specs.Outside.{Outside}
use Rattle.qx_outside.specs.Trail.{bytes_of}
use Rattle.qx_alloc.specs.SpaceState.{is_held}
use Rattle.qx_blocks.specs.BlockState.{BlockState, Holdings, with_bytes}
use Rattle.qx_blocks.specs.SlotWrites.{put-same, refit-same, through-put}
use Rattle.qx_bytes.specs.SameLengths.{refit}
use Rattle.qx_cache.specs.CacheState.{CacheState, device_block, edited_in, state_of}
use Rattle.qx_cache.specs.ChangedKeys.{get-put, there-put}

-- states with equal parts are equal
pub same_state : (m n : BlockState) → m.holdings ≡ n.holdings → m.tells ≡ n.tells → ((q : ℕ) → m.bytes q ≡ n.bytes q) → m.history ≡ n.history → m ≡ n
same_state m n holdings tells bytes history = λ i. record { holdings = holdings i; tells = tells i; bytes = λ q. bytes q i; history = history i }

-- holdings with equal parts are equal
pub same_holdings : (m n : Holdings) → m.size ≡ n.size → m.count ≡ n.count → ((q : ℕ) → m.held q ≡ n.held q) → ((q : ℕ) → m.works q ≡ n.works q)
    → ((q : ℕ) → m.private q ≡ n.private q) → ((q : ℕ) → m.ready q ≡ n.ready q) → m.free ≡ n.free → m ≡ n
same_holdings m n size count held works private ready free = λ i. record {
  size = size i;
  count = count i;
  held = λ q. held q i;
  works = λ q. works q i;
  private = λ q. private q i;
  ready = λ q. ready q i;
  free = free i;
}

-- so are those of a block that is changed
refit-changed : (change other : Option (List ℕ)) (device new : List ℕ) → is_some change ≡ true → length new ≡ length (unwrap_or (option_or change other) device) → refit (unwrap_or change []) new ≡ new
refit-changed None other device new there same = absurd (cc there)
refit-changed (Some old) other device new there same = refit-same old new same

-- as many bytes as before change that block's bytes alone
pub state-edited : {H : Type 0} (outside : H → Outside) (c : CacheState H) (b : ℕ) (new : List ℕ) → IsTrue ((state_of outside c).holdings.ready b)
    → length new ≡ length ((state_of outside c).bytes b) → state_of outside (edited_in c b new) ≡ with_bytes (state_of outside c) b new
state-edited outside c b new ready same =
    let device : ℕ → List ℕ = λ q. if is_held c.space q then device_block (bytes_of (outside c.host).history) c.size q else [] in
    let fits : refit (unwrap_or (get c.changes b) []) new ≡ new = refit-changed (get c.changes b) (get c.frozen_changes b) (device b) new ready same in
    ap (λ bytes. state_of outside (record c { changes = insert c.changes b bytes })) fits
    ∙ same_state (state_of outside (record c { changes = insert c.changes b new })) (with_bytes (state_of outside c) b new)
    (same_holdings (state_of outside (record c { changes = insert c.changes b new })).holdings (state_of outside c).holdings refl refl (λ q. refl) (λ q. refl) (λ q. refl)
    (λ q. there-put c.changes b q new ∙ put-same (contains_key c.changes) b q true ready) refl)
    refl
    (λ q. ap (λ o. unwrap_or (option_or o (get c.frozen_changes q)) (device q)) (get-put c.changes b q new)
    ∙ through-put (λ o. unwrap_or (option_or o (get c.frozen_changes q)) (device q)) (get c.changes) b q (Some new))
    refl
