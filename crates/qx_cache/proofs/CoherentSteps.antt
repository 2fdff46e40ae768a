-- What each step leaves of a cache's coherence.
use Rattle.std.proofs.Common.{◌≡◌, ◌≢◌, ℕ, ◌<◌, ◌≤◌, Bool, true, false, not, ◌&&◌, ◌||◌, List, [], ◌∷◌, length, None, Some, refl, sym, ◌∙◌, ap, subst, arith}
use Rattle.std.specs.Prelude.{◌==◌, if◌then◌else◌, IsTrue, is_some, replicate, slice_set}
use Rattle.std.proofs.lemmas.Bool.{eqb-true, eq-eqb, or_right}
use Rattle.std.proofs.lemmas.List.{length-set, length-replicate}
use Rattle.std.proofs.lemmas.List.Sums.{length-filter, count_by-le-length}
use Rattle.std.specs.Ordering.{nat_cmp}
use Rattle.std.specs.FinMap.{FinMap, contains_key, empty, get, get-empty, insert, remove}
use Rattle.qx_outside.specs.Outside.{Outside}
use Rattle.qx_outside.specs.Causes.{StaysWhereTold}
use Rattle.qx_outside.proofs.ToldLengths.{told_after}
use Rattle.qx_blockset.specs.Members.{has}
use Rattle.qx_alloc.specs.SpaceState.{SpaceState, IsConsistent, IsFree, is_held, is_private_in, limit_in, none_of}
use Rattle.qx_alloc.specs.SpaceState as space
use Rattle.qx_alloc.proofs.SpaceSteps.{has-none, has-below}
use Rattle.qx_blocks.specs.BlockState.{IsBlockSize, put}
use Rattle.qx_blocks.specs.SlotWrites.{put-same}
use Rattle.qx_cache.specs.CacheState.{CacheState, is_kept, kept_but, with_host, with_released, with_taken, with_thawed, with_written}
use Rattle.qx_cache.specs.Coherence.{HasRoom, IsCoherent}
use Rattle.qx_cache.specs.ChangedKeys.{get-gone, get-put, there-gone, there-put}
use Rattle.qx_cache.proofs.Spaces.{held-user, private-alone, private-set, private-shared, unheld-parts, works-set}

-- ---- maps of changes

-- what is there after a block went was there before
pub gone-some : (m : FinMap nat_cmp (List ℕ)) (b q : ℕ) (bytes : List ℕ) → get (remove m b) q ≡ Some bytes → get m q ≡ Some bytes
gone-some m b q bytes is =
    elim (q == b) as (λ t. (if t then None else get m q) ≡ Some bytes → get m q ≡ Some bytes) [ true ↦ λ e. absurd (cc e) | false ↦ λ e. e ] (sym (get-gone m b q) ∙ is)

-- what wasn't there isn't there after either
pub gone-none : (m : FinMap nat_cmp (List ℕ)) (b q : ℕ) → get m q ≡ None → get (remove m b) q ≡ None
gone-none m b q is = get-gone m b q ∙ elim (q == b) as (λ t. (if t then None else get m q) ≡ None) [ true ↦ refl | false ↦ is ]

-- the bytes of a block that is there
pub put-some : (m : FinMap nat_cmp (List ℕ)) (b q : ℕ) (new bytes : List ℕ) (size : ℕ) → length new ≡ size → ((k : ℕ) (old : List ℕ) → get m k ≡ Some old → length old ≡ size)
    → get (insert m b new) q ≡ Some bytes → length bytes ≡ size
put-some m b q new bytes size long before is =
    elim (q == b) as (λ t. (if t then Some new else get m q) ≡ Some bytes → length bytes ≡ size) [
      | true ↦ λ e. let same : new ≡ bytes = cc e in subst (λ (xs : List ℕ). length xs ≡ size) same long
      | false ↦ λ e. before q bytes e
    ] (sym (get-put m b q new) ∙ is)

-- a block other than the one that came
pub put-none : (m : FinMap nat_cmp (List ℕ)) (b q : ℕ) (new : List ℕ) → q ≢ b → get m q ≡ None → get (insert m b new) q ≡ None
put-none m b q new differ is =
    get-put m b q new ∙ elim (q == b) as (λ t. (q == b) ≡ t → (if t then Some new else get m q) ≡ None) [ true ↦ λ e. absurd (differ (eqb-true q b e)) | false ↦ λ _. is ] refl

-- ---- kept blocks

-- what is kept but for b was kept, and isn't b
pub kept-others : (kept : List ℕ) (b q : ℕ) → is_kept (kept_but kept b) q ≡ true → (is_kept kept q ≡ true) × (q ≢ b)
kept-others [] b q is = absurd (cc is)
kept-others (k ∷ kept) b q is =
    elim (k == b) as (λ t. (k == b) ≡ t → is_kept (if not t then k ∷ kept_but kept b else kept_but kept b) q ≡ true → (((q == k) || is_kept kept q) ≡ true) × (q ≢ b)) [
      | true ↦ λ e h. let rest = kept-others kept b q h in (or_right (q == k) (is_kept kept q) rest.0, rest.1)
      | false ↦ λ e h.
          elim (q == k) as (λ u. (q == k) ≡ u → (u || is_kept (kept_but kept b) q) ≡ true → ((u || is_kept kept q) ≡ true) × (q ≢ b)) [
            | true ↦ λ same _. (refl, λ is_b. absurd (cc (e, eq-eqb k b (sym (eqb-true q k same) ∙ is_b))))
            | false ↦ λ _ later. kept-others kept b q later
          ] refl h
    ] refl is

-- and they are no more than before
pub kept-fewer : (kept : List ℕ) (b : ℕ) → length (kept_but kept b) ≤ length kept
kept-fewer kept b = omega (arith, length-filter (λ k. not (k == b)) kept, count_by-le-length (λ k. not (k == b)) kept)

-- of one kept block, that is it
pub kept-one : (b q : ℕ) → is_kept (b ∷ []) q ≡ true → q ≡ b
kept-one b q is = elim (q == b) as (λ t. (q == b) ≡ t → (t || false) ≡ true → q ≡ b) [ true ↦ λ e _. eqb-true q b e | false ↦ λ e h. absurd (cc h) ] refl is

module _ {H : Type 0} {outside : H → Outside} where
  -- a new cache
  pub coherent-new : (host : H) (size : ℕ) (s : SpaceState) → IsBlockSize size → IsConsistent s → ((b : ℕ) → is_private_in s b ≡ false) → s.is_frozen ≡ false → HasRoom (outside host).extent size (limit_in s)
      → IsCoherent outside (record { host = host; size = size; space = s; changes = empty; frozen_changes = empty; kept = [] })
  coherent-new host size s sized consistent clean unfrozen room = record {
    size = sized;
    space = consistent;
    private_changed = λ b. ap is_some (get-empty nat_cmp b) ∙ sym (clean b);
    frozen_changed = λ b there. absurd (cc (there, ap is_some (get-empty {X = List ℕ} nat_cmp b)));
    unfrozen = λ _. refl;
    shared = λ is. absurd (cc (is, unfrozen));
    long = λ b bytes is. absurd (cc (is, get-empty {X = List ℕ} nat_cmp b));
    frozen_long = λ b bytes is. absurd (cc (is, get-empty {X = List ℕ} nat_cmp b));
    kept_few = omega arith;
    kept_clean = λ b is. absurd (cc is);
    kept_user = λ b is. absurd (cc is);
    room = room;
  }

  -- another device of the same length
  pub coherent-host : (c : CacheState H) (host : H) → IsCoherent outside c → StaysWhereTold (outside c.host).extent (outside host).extent → IsCoherent outside (with_host c host)
  coherent-host c host k stays = record {
    size = k.size;
    space = k.space;
    private_changed = k.private_changed;
    frozen_changed = k.frozen_changed;
    unfrozen = k.unfrozen;
    shared = k.shared;
    long = k.long;
    frozen_long = k.frozen_long;
    kept_few = k.kept_few;
    kept_clean = k.kept_clean;
    kept_user = k.kept_user;
    room = told_after (outside c.host).extent (outside host).extent _ stays k.room;
  }

  -- a held block that isn't changed is kept alone
  pub coherent-kept : (c : CacheState H) (b : ℕ) → IsCoherent outside c → is_held c.space b ≡ true → get c.changes b ≡ None → get c.frozen_changes b ≡ None → IsCoherent outside (record c { kept = b ∷ [] })
  coherent-kept c b k held clean frozen_clean = record {
    size = k.size;
    space = k.space;
    private_changed = k.private_changed;
    frozen_changed = k.frozen_changed;
    unfrozen = k.unfrozen;
    shared = k.shared;
    long = k.long;
    frozen_long = k.frozen_long;
    kept_few = omega arith;
    kept_clean = λ q is. let same : q ≡ b = kept-one b q is in (ap (get c.changes) same ∙ clean, ap (get c.frozen_changes) same ∙ frozen_clean);
    kept_user = λ q is. let same : b ≡ q = sym (kept-one b q is) in subst (λ x. (c.space.first_user ≤ x) × (x < limit_in c.space)) same (held-user c.space b k.space held);
    room = k.room;
  }

  -- a free block is taken
  pub coherent-taken : (c : CacheState H) (b : ℕ) → IsCoherent outside c → IsFree c.space b → IsConsistent (space.with_taken c.space b) → IsCoherent outside (with_taken c b)
  coherent-taken c b k free consistent =
      let none = unheld-parts (has c.space.working b) (has c.space.frozen b) (has c.space.durable b) free.unheld in
      let same_limit : length (slice_set c.space.working b true) ≡ length c.space.working = length-set c.space.working b true in
      record {
        size = k.size;
        space = consistent;
        private_changed = λ q.
            there-put c.changes b q (replicate c.size 0) ∙ (λ i. if q == b then true else k.private_changed q i)
            ∙ sym (private-set c.space b q true free.below none.1.0 none.1.1);
        frozen_changed = k.frozen_changed;
        unfrozen = k.unfrozen;
        shared = λ is q works durable.
            elim (q == b) as (λ t. (q == b) ≡ t → has c.space.frozen q ≡ true) [
              | true ↦ λ e. absurd (cc (durable, ap (has c.space.durable) (eqb-true q b e) ∙ none.1.1))
              | false ↦ λ e. k.shared is q (kept_works q e works) durable
            ] refl;
        long = λ q bytes is. put-some c.changes b q (replicate c.size 0) bytes c.size (length-replicate c.size 0) k.long is;
        frozen_long = k.frozen_long;
        kept_few = omega (arith, kept-fewer c.kept b, k.kept_few);
        kept_clean = λ q is.
            let others = kept-others c.kept b q is in
            (put-none c.changes b q (replicate c.size 0) others.1 (k.kept_clean q others.0).0, (k.kept_clean q others.0).1);
        kept_user = λ q is. let user = k.kept_user q (kept-others c.kept b q is).0 in (user.0, rw same_limit user.1);
        room = subst (λ n. HasRoom (outside c.host).extent c.size n) (sym same_limit) k.room;
      } where
        kept_works : (q : ℕ) → (q == b) ≡ false → has (slice_set c.space.working b true) q ≡ true → has c.space.working q ≡ true
        kept_works q e is = sym (works-set c.space b q true free.below ∙ ap (λ t. if t then true else has c.space.working q) e) ∙ is

  -- the working tree gives a block up
  pub coherent-released : (c : CacheState H) (b : ℕ) → IsCoherent outside c → has c.space.working b ≡ true → IsConsistent (space.without c.space b) → IsCoherent outside (with_released c b)
  coherent-released c b k works consistent =
      let low : b < limit_in c.space = has-below c.space.working b works in
      let same_limit : length (slice_set c.space.working b false) ≡ length c.space.working = length-set c.space.working b false in
      record {
        size = k.size;
        space = consistent;
        private_changed = λ q. there-gone c.changes b q ∙ (λ i. if q == b then false else k.private_changed q i) ∙ sym (gone q low);
        frozen_changed = k.frozen_changed;
        unfrozen = k.unfrozen;
        shared = λ is q still durable. k.shared is q (before q low still) durable;
        long = λ q bytes is. k.long q bytes (gone-some c.changes b q bytes is);
        frozen_long = k.frozen_long;
        kept_few = k.kept_few;
        kept_clean = λ q is. (gone-none c.changes b q (k.kept_clean q is).0, (k.kept_clean q is).1);
        kept_user = λ q is. let user = k.kept_user q is in (user.0, rw same_limit user.1);
        room = subst (λ n. HasRoom (outside c.host).extent c.size n) (sym same_limit) k.room;
      } where
        before : (q : ℕ) → b < limit_in c.space → has (slice_set c.space.working b false) q ≡ true → has c.space.working q ≡ true
        before q low is =
            elim (q == b) as (λ t. (if t then false else has c.space.working q) ≡ true → has c.space.working q ≡ true) [ true ↦ λ e. absurd (cc e) | false ↦ λ e. e ] (sym (works-set c.space b q false low) ∙ is)

        gone : (q : ℕ) → b < limit_in c.space → is_private_in (space.without c.space b) q ≡ put (is_private_in c.space) b false q
        gone q low =
            elim (is_private_in c.space b) as (λ t. is_private_in c.space b ≡ t → is_private_in (space.without c.space b) q ≡ put (is_private_in c.space) b false q) [
              | true ↦ λ e. let others = private-alone (has c.space.working b) (has c.space.frozen b) (has c.space.durable b) e in private-set c.space b q false low others.0 others.1
              | false ↦ λ e. private-shared c.space b q low e ∙ sym (put-same (is_private_in c.space) b q false e)
            ] refl

  -- a changed block of the working tree gets other bytes of as many
  pub coherent-edited : (c : CacheState H) (b : ℕ) (bytes : List ℕ) → IsCoherent outside c → contains_key c.changes b ≡ true → length bytes ≡ c.size → IsCoherent outside (record c { changes = insert c.changes b bytes })
  coherent-edited c b bytes k there long = record {
    size = k.size;
    space = k.space;
    private_changed = λ q. there-put c.changes b q bytes ∙ put-same (contains_key c.changes) b q true there ∙ k.private_changed q;
    frozen_changed = k.frozen_changed;
    unfrozen = k.unfrozen;
    shared = k.shared;
    long = λ q other is. put-some c.changes b q bytes other c.size long k.long is;
    frozen_long = k.frozen_long;
    kept_few = k.kept_few;
    kept_clean = λ q is.
        let clean = k.kept_clean q is in
        (put-none c.changes b q bytes (λ same. absurd (cc (there, ap is_some (ap (get c.changes) (sym same) ∙ clean.0)))) clean.0, clean.1);
    kept_user = k.kept_user;
    room = k.room;
  }

  -- a block of the frozen tree was written
  pub coherent-written : (c : CacheState H) (host : H) (b : ℕ) → IsCoherent outside c → IsTrue (contains_key c.frozen_changes b) → StaysWhereTold (outside c.host).extent (outside host).extent → IsCoherent outside (with_written c host b)
  coherent-written c host b k there stays = record {
    size = k.size;
    space = k.space;
    private_changed = k.private_changed;
    frozen_changed = λ q is. k.frozen_changed q (still q is);
    unfrozen = λ is. absurd (cc (there, ap (λ m. contains_key m b) (k.unfrozen is), ap is_some (get-empty {X = List ℕ} nat_cmp b)));
    shared = k.shared;
    long = k.long;
    frozen_long = λ q bytes is. k.frozen_long q bytes (gone-some c.frozen_changes b q bytes is);
    kept_few = k.kept_few;
    kept_clean = λ q is. ((k.kept_clean q is).0, gone-none c.frozen_changes b q (k.kept_clean q is).1);
    kept_user = k.kept_user;
    room = told_after (outside c.host).extent (outside host).extent _ stays k.room;
  } where
    still : (q : ℕ) → contains_key (remove c.frozen_changes b) q ≡ true → contains_key c.frozen_changes q ≡ true
    still q is =
        elim (q == b) as (λ t. (if t then false else contains_key c.frozen_changes q) ≡ true → contains_key c.frozen_changes q ≡ true) [ true ↦ λ e. absurd (cc e) | false ↦ λ e. e ] (sym (there-gone c.frozen_changes b q) ∙ is)

  -- the frozen tree is the durable one
  pub coherent-thawed : (c : CacheState H) → IsCoherent outside c → c.space.is_frozen ≡ true → c.frozen_changes ≡ empty → IsConsistent (space.with_thawed c.space) → IsCoherent outside (with_thawed c)
  coherent-thawed c k frozen written consistent = record {
    size = k.size;
    space = consistent;
    private_changed = λ q. k.private_changed q
        ∙ alike (has c.space.working q) (has c.space.frozen q) (has c.space.durable q) (has (none_of c.space.frozen) q) (has-none c.space.frozen q) (k.shared frozen q);
    frozen_changed = λ q there. absurd (cc (there, written, ap is_some (get-empty {X = List ℕ} nat_cmp q)));
    unfrozen = λ _. written;
    shared = λ is. absurd (cc is);
    long = k.long;
    frozen_long = k.frozen_long;
    kept_few = k.kept_few;
    kept_clean = k.kept_clean;
    kept_user = k.kept_user;
    room = k.room;
  } where
    alike : (w f d n : Bool) → n ≡ false → (w ≡ true → d ≡ true → f ≡ true) → (w && not (f || d)) ≡ (w && not (n || f))
    alike false f d n is h = refl
    alike true true d false is h = refl
    alike true false false false is h = refl
    alike true false true false is h = absurd (cc (h refl refl))
    alike w f d true is h = absurd (cc is)
