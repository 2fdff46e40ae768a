-- A map of changed blocks, as a function of the block, once one comes or goes.
use Rattle.std.proofs.Common.{◌≡◌, ℕ, true, false, List, refl, ◌∙◌, ap, None, Some}
use Rattle.std.specs.Prelude.{is_some, ◌==◌, if◌then◌else◌}
use Rattle.std.proofs.lemmas.Bool.{eqb-true, eq-eqb}
use Rattle.std.proofs.lemmas.Cmp.{nat_cmp_total}
use Rattle.std.specs.Ordering.{nat_cmp, eq_by_cmp}
use Rattle.std.specs.FinMap.{FinMap, get, contains_key, insert, remove, get-insert, get-remove}
use Rattle.qx_patch.proofs.EntryMaps.{apart, tied}
use Rattle.qx_blocks.specs.BlockState.{put}
use Rattle.qx_blocks.specs.SlotWrites.{through-put}

-- two numbers are one key exactly where they are equal
key_test : (q b : ℕ) → eq_by_cmp nat_cmp q b ≡ (q == b)
key_test q b =
    elim (q == b) as (λ t. q == b ≡ t → eq_by_cmp nat_cmp q b ≡ t) [
      | true ↦ λ is. tied q b (eqb-true q b is)
      | false ↦ λ is. apart q b (λ e. absurd (cc (eq-eqb q b e)))
    ] refl

-- a block comes, or gets other bytes
pub get-put : (m : FinMap nat_cmp (List ℕ)) (b q : ℕ) (bytes : List ℕ) → get (insert m b bytes) q ≡ put (get m) b (Some bytes) q
get-put m b q bytes = get-insert nat_cmp_total m b bytes q ∙ ap (λ t. if t then Some bytes else get m q) (key_test q b)

-- a block goes
pub get-gone : (m : FinMap nat_cmp (List ℕ)) (b q : ℕ) → get (remove m b) q ≡ put (get m) b None q
get-gone m b q = get-remove nat_cmp_total m b q ∙ ap (λ t. if t then None else get m q) (key_test q b)

-- it is there then
pub there-put : (m : FinMap nat_cmp (List ℕ)) (b q : ℕ) (bytes : List ℕ) → contains_key (insert m b bytes) q ≡ put (contains_key m) b true q
there-put m b q bytes = ap is_some (get-put m b q bytes) ∙ through-put is_some (get m) b q (Some bytes)

-- it isn't there then
pub there-gone : (m : FinMap nat_cmp (List ℕ)) (b q : ℕ) → contains_key (remove m b) q ≡ put (contains_key m) b false q
there-gone m b q = ap is_some (get-gone m b q) ∙ through-put is_some (get m) b q None
