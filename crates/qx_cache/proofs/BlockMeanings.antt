-- What a cache means as blocks after each step.
use Rattle.std.proofs.Common.{◌≡◌, ◌≢◌, ℕ, ◌+◌, ◌-◌, ◌<◌, ◌≤◌, ◌⊎◌, inl, inr, Bool, true, false, not, ◌||◌, List, [], ◌∷◌, length, Option, None, Some, refl, sym, ◌∙◌, ap, subst, arith}
use Rattle.std.specs.Prelude.{◌==◌, if◌then◌else◌, IsTrue, IfSome, is_some, unwrap_or, replicate}
use Rattle.std.specs.Option.{option_or}
use Rattle.std.proofs.lemmas.Bool.{cases_eq, eqb-true, eq-eqb, or_right}
use Rattle.std.proofs.lemmas.List.{length-set}
use Rattle.std.proofs.lemmas.List.Sums.{count_by-le-length}
use Rattle.std.proofs.lemmas.List.FromFn.{length-range_with_len}
use Rattle.std.specs.Ordering.{nat_cmp}
use Rattle.std.specs.FinMap.{contains_key, get, get-empty}
use Rattle.qx_outside.specs.Outside.{Outside}
use Rattle.qx_outside.specs.Trail.{History, bytes_of}
use Rattle.qx_outside.specs.Calls.{Idles}
use Rattle.qx_blockset.specs.Members.{has}
use Rattle.qx_alloc.specs.SpaceState.{IsFree, free_in, is_held, is_private_in, limit_in}
use Rattle.qx_alloc.specs.SpaceState as space
use Rattle.qx_alloc.proofs.SpaceSteps.{has-below, has-none}
use Rattle.qx_blocks.specs.BlockState.{BlockState, IsConsistent, put, with_free, with_fresh, with_ready, with_shared, without}
use Rattle.qx_blocks.specs.Calls.{Keeps, MakesReady}
use Rattle.qx_blocks.specs.SlotWrites.{put-same}
use Rattle.qx_cache.specs.CacheState.{CacheState, block_place, bytes_over, change_of, device_block, is_kept, kept_but, state_of, with_frozen, with_host, with_released, with_taken, with_written}
use Rattle.qx_cache.specs.Calls.{HasSameBlocks, IsOutsideUsers}
use Rattle.qx_cache.specs.Coherence.{IsCoherent}
use Rattle.qx_cache.specs.ChangedKeys.{get-gone, get-put, there-gone, there-put}
use Rattle.qx_cache.specs.Edits.{same_holdings, same_state}
use Rattle.qx_cache.proofs.BlockPlaces.{length-device_block, place-ascends, place-next}
use Rattle.qx_cache.proofs.Spaces.{held-set, held-shared, held-user, private-alone, private-set, private-shared, private-works, unheld-parts, works-held, works-set}

-- the bytes that a block has, where it may be changed, or held
abbrev pub chosen : Option (List ℕ) → Option (List ℕ) → Bool → List ℕ → List ℕ
chosen change frozen held device = unwrap_or (option_or change frozen) (if held then device else [])

-- what has the size of a block, whichever it is
chosen-long : (change frozen : Option (List ℕ)) (held : Bool) (device : List ℕ) (size : ℕ) → ((bytes : List ℕ) → change ≡ Some bytes → length bytes ≡ size) → ((bytes : List ℕ) → frozen ≡ Some bytes → length bytes ≡ size)
    → held ≡ true → length device ≡ size → length (chosen change frozen held device) ≡ size
chosen-long (Some bytes) frozen held device size f g is long = f bytes refl
chosen-long None (Some bytes) held device size f g is long = g bytes refl
chosen-long None None true device size f g is long = long
chosen-long None None false device size f g is long = absurd (cc is)

-- so has a changed one, whatever the device says
changed-long : (change frozen : Option (List ℕ)) (held : Bool) (device : List ℕ) (size : ℕ) → ((bytes : List ℕ) → change ≡ Some bytes → length bytes ≡ size) → is_some change ≡ true → length (chosen change frozen held device) ≡ size
changed-long (Some bytes) frozen held device size f is = f bytes refl
changed-long None frozen held device size f is = absurd (cc is)

-- a block that isn't changed, or lies alike on two devices, has the same bytes
chosen-alike : (change frozen : Option (List ℕ)) (held : Bool) (one two : List ℕ) → (option_or change frozen ≡ None → held ≡ true → one ≡ two) → chosen change frozen held one ≡ chosen change frozen held two
chosen-alike (Some bytes) frozen held one two same = refl
chosen-alike None (Some bytes) held one two same = refl
chosen-alike None None true one two same = same refl refl
chosen-alike None None false one two same = refl

-- a changed one has the same bytes over any device
changed-alike : (change frozen : Option (List ℕ)) (held : Bool) (one two : List ℕ) → is_some change ≡ true → chosen change frozen held one ≡ chosen change frozen held two
changed-alike (Some bytes) frozen held one two is = refl
changed-alike None frozen held one two is = absurd (cc is)

-- without b nothing is taken out
none_kept : (b : ℕ) (kept : List ℕ) → (is_kept kept b ≡ true → ⊥) → kept ≡ kept_but kept b
none_kept b [] out = refl
none_kept b (x ∷ kept) out =
    elim (x == b) as (λ t. (x == b) ≡ t → x ∷ kept ≡ (if not t then x ∷ kept_but kept b else kept_but kept b)) [
      | true ↦ λ e. absurd (out (ap (λ t. t || is_kept kept b) (eq-eqb b x (sym (eqb-true x b e)))))
      | false ↦ λ _. ap (λ xs. x ∷ xs) (none_kept b kept (λ is. out (or_right (b == x) (is_kept kept b) is)))
    ] refl

-- a frozen tree that is the working one, where there was none, holds nothing more
held_twice : (w f d : Bool) → f ≡ false → (w || w || d) ≡ (w || f || d)
held_twice true false d is = refl
held_twice false false d is = refl
held_twice w true d is = absurd (cc is)

-- no change is there
pub none_there : (o : Option (List ℕ)) → is_some o ≡ false → o ≡ None
none_there None is = refl
none_there (Some x) is = absurd (cc is)

-- nothing behind a change
or_none : (o other : Option (List ℕ)) → other ≡ None → o ≡ option_or o other
or_none None other is = sym is
or_none (Some x) other is = refl

module _ {H : Type 0} where
  -- freezing the working tree leaves each block's bytes
  pub bytes-frozen : {outside : H → Outside} → (c : CacheState H) → IsCoherent outside c → c.space.is_frozen ≡ false → (device : List ℕ) (b : ℕ) → bytes_over device (with_frozen c) b ≡ bytes_over device c b
  bytes-frozen c k unfrozen device b =
      let out : has c.space.frozen b ≡ false = ap (λ s. has s b) (k.space.unfrozen unfrozen) ∙ has-none c.space.working b in
      let none : get c.frozen_changes b ≡ None = ap (λ m. get m b) (k.unfrozen unfrozen) ∙ get-empty nat_cmp b in
      (λ i. unwrap_or ((ap (λ o. option_or o (get c.changes b)) (get-empty nat_cmp b) ∙ or_none (get c.changes b) (get c.frozen_changes b) none) i)
      (if held_twice (has c.space.working b) (has c.space.frozen b) (has c.space.durable b) out i then device_block device c.size b else []))

  -- a user block lies apart from what is outside the user blocks
  pub user-apart : (c : CacheState H) (at n b : ℕ) → IsOutsideUsers c at n → c.space.first_user ≤ b → b < limit_in c.space → (block_place c.size b + c.size ≤ at) ⊎ (at + n ≤ block_place c.size b)
  user-apart c at n b outside user below = elim outside [
    | inl before ↦ inr (omega (arith, before, place-ascends c.size c.space.first_user b user))
    | inr behind ↦ inl (omega (arith, behind, place-next c.size b (limit_in c.space) below))
  ]

  -- a changed block of the working tree isn't kept
  pub unkept : {outside : H → Outside} → (c : CacheState H) (b : ℕ) → IsCoherent outside c → contains_key c.changes b ≡ true → c.kept ≡ kept_but c.kept b
  unkept c b k there = none_kept b c.kept (λ is. absurd (cc (there, ap is_some (k.kept_clean b is).0)))

module _ {H : Type 0} (outside : H → Outside) where
  -- what a coherent cache means is consistent
  pub consistent-state : ((s : H) → IsTrue (outside s).tells → (outside s).extent ≡ Some (length (bytes_of (outside s).history))) → (c : CacheState H) → IsCoherent outside c → IsConsistent (state_of outside c)
  consistent-state is c k = record {
    size = k.size;
    count = k.space.few;
    free = omega (arith, count_by-le-length (λ b. not (is_held c.space b)) (space.user_blocks c.space), length-range_with_len c.space.first_user (limit_in c.space - c.space.first_user));
    numbers = λ b held. (held-user c.space b k.space held).1;
    works_held = λ b works. works-held (has c.space.working b) (has c.space.frozen b) (has c.space.durable b) works;
    private_works = λ b private. private-works (has c.space.working b) (has c.space.frozen b) (has c.space.durable b) private;
    ready_private = λ b ready. sym (k.private_changed b) ∙ ready;
    told_long = λ told b held.
        let room : block_place c.size (limit_in c.space) + 0x200 ≤ length (bytes_of (outside c.host).history) = subst (λ o. IfSome o (λ len. block_place c.size (limit_in c.space) + 0x200 ≤ len)) (is c.host told) k.room in
        let next = place-next c.size b (limit_in c.space) (held-user c.space b k.space held).1 in
        chosen-long (get c.changes b) (get c.frozen_changes b) (is_held c.space b) (device_block (bytes_of (outside c.host).history) c.size b) c.size (k.long b) (k.frozen_long b) held
        (length-device_block (bytes_of (outside c.host).history) c.size b (omega arith));
    ready_long = λ b ready. changed-long (get c.changes b) (get c.frozen_changes b) (is_held c.space b) (device_block (bytes_of (outside c.host).history) c.size b) c.size (k.long b) ready;
  }

  -- once a free block is taken
  pub state-taken : (c : CacheState H) (b : ℕ) → IsFree c.space b → free_in (space.with_taken c.space b) + 1 ≡ free_in c.space → state_of outside (with_taken c b) ≡ with_fresh (state_of outside c) b
  state-taken c b free less =
      let none = unheld-parts (has c.space.working b) (has c.space.frozen b) (has c.space.durable b) free.unheld in
      let device : ℕ → List ℕ = λ q. device_block (bytes_of (outside c.host).history) c.size q in
      same_state (state_of outside (with_taken c b)) (with_fresh (state_of outside c) b)
      (same_holdings (state_of outside (with_taken c b)).holdings (with_fresh (state_of outside c) b).holdings refl (length-set c.space.working b true)
      (λ q. held-set c.space b q true free.below none.1.0 none.1.1) (λ q. works-set c.space b q true free.below) (λ q. private-set c.space b q true free.below none.1.0 none.1.1)
      (λ q. there-put c.changes b q (replicate c.size 0)) (omega arith))
      refl
      (λ q. (λ i. chosen (get-put c.changes b q (replicate c.size 0) i) (get c.frozen_changes q) (held-set c.space b q true free.below none.1.0 none.1.1 i) (device q))
      ∙ elim (q == b) as (λ t. chosen (if t then Some (replicate c.size 0) else get c.changes q) (get c.frozen_changes q) (if t then true else is_held c.space q) (device q)
      ≡ (if t then replicate c.size 0 else chosen (get c.changes q) (get c.frozen_changes q) (is_held c.space q) (device q))) [ true ↦ refl | false ↦ refl ])
      refl

  -- once the working tree gives a block up
  pub state-released : (c : CacheState H) (b : ℕ) → IsCoherent outside c → has c.space.working b ≡ true → free_in (space.without c.space b) ≡ (if is_private_in c.space b then free_in c.space + 1 else free_in c.space)
      → state_of outside (with_released c b) ≡ without (state_of outside c) b
  state-released c b k works more =
      elim (is_private_in c.space b) as (λ t. is_private_in c.space b ≡ t → free_in (space.without c.space b) ≡ (if t then free_in c.space + 1 else free_in c.space)
      → state_of outside (with_released c b) ≡ (if t then with_free (state_of outside c) b else with_shared (state_of outside c) b)) [
        | true ↦ λ is left.
            let others = private-alone (has c.space.working b) (has c.space.frozen b) (has c.space.durable b) is in
            same_state (state_of outside (with_released c b)) (with_free (state_of outside c) b)
            (same_holdings (state_of outside (with_released c b)).holdings (with_free (state_of outside c) b).holdings refl (length-set c.space.working b false)
            (λ q. held-set c.space b q false low others.0 others.1) (λ q. works-set c.space b q false low) (λ q. private-set c.space b q false low others.0 others.1)
            (λ q. there-gone c.changes b q) left)
            refl
            (λ q. (λ i. chosen (get-gone c.changes b q i) (get c.frozen_changes q) (held-set c.space b q false low others.0 others.1 i) (device q))
            ∙ elim (q == b) as (λ u. (q == b) ≡ u → chosen (if u then None else get c.changes q) (get c.frozen_changes q) (if u then false else is_held c.space q) (device q)
            ≡ (if u then [] else chosen (get c.changes q) (get c.frozen_changes q) (is_held c.space q) (device q))) [
              | true ↦ λ e. ap (λ o. chosen None o false (device q)) (ap (get c.frozen_changes) (eqb-true q b e) ∙ unfrozen others.0)
              | false ↦ λ _. refl
            ] refl)
            refl
        | false ↦ λ is left.
            let absent : get c.changes b ≡ None = none_there (get c.changes b) (k.private_changed b ∙ is) in
            same_state (state_of outside (with_released c b)) (with_shared (state_of outside c) b)
            (same_holdings (state_of outside (with_released c b)).holdings (with_shared (state_of outside c) b).holdings refl (length-set c.space.working b false)
            (λ q. held-shared c.space b q low is works) (λ q. works-set c.space b q false low) (λ q. private-shared c.space b q low is)
            (λ q. there-gone c.changes b q ∙ put-same (contains_key c.changes) b q false (k.private_changed b ∙ is)) left)
            refl
            (λ q i. chosen ((get-gone c.changes b q ∙ put-same (get c.changes) b q None absent) i) (get c.frozen_changes q) (held-shared c.space b q low is works i) (device q))
            refl
      ] refl more where
        low : b < limit_in c.space
        low = has-below c.space.working b works

        device : ℕ → List ℕ
        device q = device_block (bytes_of (outside c.host).history) c.size q

        unfrozen : has c.space.frozen b ≡ false → get c.frozen_changes b ≡ None
        unfrozen out =
            elim (get c.frozen_changes b) as (λ o. get c.frozen_changes b ≡ o → o ≡ None) [
              | None ↦ λ _. refl
              | Some x ↦ λ e. absurd (cc (out, (k.frozen_changed b (ap is_some e)).0))
            ] refl

  -- once a block was read, or not
  pub keeps-read : (c : CacheState H) (host : H) (kept : List ℕ) → Idles (outside c.host) (outside host) → Keeps (state_of outside c) (state_of outside (record c { host = host; kept = kept }))
  keeps-read c host kept idles = record {
    told = λ told. λ i. state_in (both (outside host).tells (outside c.host).tells told (idles.before told) i) (idles.step told i);
    holdings = refl;
    ready = λ b ready. changed-alike (get c.changes b) (get c.frozen_changes b) (is_held c.space b) (device_block (bytes_of (outside host).history) c.size b) (device_block (bytes_of (outside c.host).history) c.size b) ready;
  } where
    state_in : Bool → History → BlockState
    state_in t h = record (state_of outside c) { tells = t; bytes = bytes_over (bytes_of h) c; history = h }

    both : (s t : Bool) → s ≡ true → t ≡ true → s ≡ t
    both s t f g = f ∙ sym g

  -- another device on which the held blocks that aren't changed are the same
  pub same-blocks : (c : CacheState H) (host : H) → (IsTrue (outside host).tells → (b : ℕ) → change_of c b ≡ None → is_held c.space b ≡ true → device_block (bytes_of (outside host).history) c.size b ≡ device_block (bytes_of (outside c.host).history) c.size b)
      → HasSameBlocks outside c (with_host c host)
  same-blocks c host same = record {
    holdings = refl;
    bytes = λ told b. chosen-alike (get c.changes b) (get c.frozen_changes b) (is_held c.space b) (device_block (bytes_of (outside host).history) c.size b) (device_block (bytes_of (outside c.host).history) c.size b) (same told b);
  }

  -- a changed block of the frozen tree has its bytes on the device then
  pub same-written : (c : CacheState H) (host : H) (b : ℕ) (bytes : List ℕ) → get c.changes b ≡ None → get c.frozen_changes b ≡ Some bytes → is_held c.space b ≡ true
      → (IsTrue (outside host).tells → device_block (bytes_of (outside host).history) c.size b ≡ bytes)
      → (IsTrue (outside host).tells → (q : ℕ) → q ≢ b → device_block (bytes_of (outside host).history) c.size q ≡ device_block (bytes_of (outside c.host).history) c.size q)
      → HasSameBlocks outside c (with_written c host b)
  same-written c host b bytes absent there held stands others = record {
    holdings = refl;
    bytes = λ told q. elim (cases_eq q b) [
      | inl e ↦
          (λ i. bytes_over (bytes_of (outside host).history) (with_written c host b) (e i))
          ∙ (λ i. chosen (absent i) ((get-gone c.frozen_changes b b ∙ ap (λ t. if t then None else get c.frozen_changes b) (eq-eqb b b refl)) i) (held i) (stands told i))
          ∙ sym (λ i. chosen (absent i) (there i) (is_held c.space b) (device_block (bytes_of (outside c.host).history) c.size b))
          ∙ ap (bytes_over (bytes_of (outside c.host).history) c) (sym e)
      | inr differ ↦
          (λ i. chosen (get c.changes q) ((get-gone c.frozen_changes b q ∙ apart q differ) i) (is_held c.space q) (others told q differ i))
    ];
  } where
    apart : (q : ℕ) → q ≢ b → put (get c.frozen_changes) b None q ≡ get c.frozen_changes q
    apart q differ = elim (q == b) as (λ t. (q == b) ≡ t → (if t then None else get c.frozen_changes q) ≡ get c.frozen_changes q) [ true ↦ λ e. absurd (differ (eqb-true q b e)) | false ↦ λ _. refl ] refl

  -- a changed block of the working tree is ready
  pub made-ready : (c : CacheState H) (b : ℕ) → contains_key c.changes b ≡ true → MakesReady b (state_of outside c) (state_of outside c)
  made-ready c b there =
      let ready : (q : ℕ) → contains_key c.changes q ≡ put (contains_key c.changes) b true q = λ q. sym (put-same (contains_key c.changes) b q true there) in
      let holdings : (state_of outside c).holdings ≡ (with_ready (state_of outside c) b).holdings =
      same_holdings (state_of outside c).holdings (with_ready (state_of outside c) b).holdings refl refl (λ q. refl) (λ q. refl) (λ q. refl) ready refl in
      record {
        told = λ _. same_state (state_of outside c) (with_ready (state_of outside c) b) holdings refl (λ q. refl) refl;
        holdings = holdings;
        ready = λ q _. refl;
      }
