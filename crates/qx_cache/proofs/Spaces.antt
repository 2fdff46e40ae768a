-- What the sets of three trees say of one block.
use Rattle.std.proofs.Common.{◌≡◌, ℕ, ◌<◌, ◌≤◌, inl, inr, Bool, true, false, not, ◌&&◌, ◌||◌, refl, sym, ◌∙◌, ap, arith}
use Rattle.std.specs.Prelude.{◌==◌, if◌then◌else◌, slice_set}
use Rattle.std.proofs.lemmas.Bool.{cases_lt, eqb-true}
use Rattle.qx_blockset.specs.Members.{Has, Members, has}
use Rattle.qx_alloc.specs.SpaceState.{IsConsistent, SpaceState, is_held, is_private_in, limit_in, none_of, space_with, users_in}
use Rattle.qx_alloc.proofs.SpaceSteps.{has-below}
use Rattle.qx_blocks.specs.BlockState.{put}
use Rattle.qx_blocks.specs.SlotWrites.{place-set}

-- a truth that holds of one block, in the parts of an or
one_of_three : (a b c : Bool) (P : Type 0) → (a ≡ true → P) → (b ≡ true → P) → (c ≡ true → P) → (a || b || c) ≡ true → P
one_of_three true b c P f g h is = f refl
one_of_three false true c P f g h is = g refl
one_of_three false false true P f g h is = h refl
one_of_three false false false P f g h is = absurd (cc is)

-- a held block is a user block
pub held-user : (s : SpaceState) (b : ℕ) → IsConsistent s → is_held s b ≡ true → (s.first_user ≤ b) × (b < limit_in s)
held-user s b k held = (user, below) where
  user : s.first_user ≤ b
  user = elim (cases_lt b s.first_user) [ inl low ↦ (let none : is_held s b ≡ false = k.users b low in absurd (cc (held, none))) | inr high ↦ high ]

  below : b < limit_in s
  below = one_of_three (has s.working b) (has s.frozen b) (has s.durable b) (b < limit_in s) (λ w. has-below s.working b w)
      (λ f. let low = has-below s.frozen b f in let long = k.frozen_long in omega arith) (λ d. let low = has-below s.durable b d in let long = k.durable_long in omega arith) held

-- what the working tree holds is held
pub works-held : (w f d : Bool) → w ≡ true → (w || f || d) ≡ true
works-held true f d is = refl
works-held false f d is = absurd (cc is)

-- what it alone holds, it holds
pub private-works : (w f d : Bool) → (w && not (f || d)) ≡ true → w ≡ true
private-works true f d is = refl
private-works false f d is = absurd (cc is)

-- and the others don't
pub private-alone : (w f d : Bool) → (w && not (f || d)) ≡ true → (f ≡ false) × (d ≡ false)
private-alone true false false is = (refl, refl)
private-alone true true d is = absurd (cc is)
private-alone true false true is = absurd (cc is)
private-alone false f d is = absurd (cc is)

-- a block that no tree holds is held by none of them
pub unheld-parts : (w f d : Bool) → (w || f || d) ≡ false → (w ≡ false) × ((f ≡ false) × (d ≡ false))
unheld-parts false false false is = (refl, (refl, refl))
unheld-parts true f d is = absurd (cc is)
unheld-parts false true d is = absurd (cc is)
unheld-parts false false true is = absurd (cc is)

-- what a tree of which others hold nothing is given, it alone holds
alone : (f d t : Bool) → f ≡ false → d ≡ false → (t && not (f || d)) ≡ t
alone false false true g h = refl
alone false false false g h = refl
alone true d t g h = absurd (cc g)
alone false true t g h = absurd (cc h)

-- the working tree's blocks, once one is taken or given up
pub works-set : (s : SpaceState) (b q : ℕ) (t : Bool) → b < limit_in s → has (slice_set s.working b t) q ≡ put (has s.working) b t q
works-set s b q t low = place-set s.working b q t false low

-- the blocks that it alone holds, once one of them changes that no other holds
pub private-set : (s : SpaceState) (b q : ℕ) (t : Bool) → b < limit_in s → has s.frozen b ≡ false → has s.durable b ≡ false
    → is_private_in (record s { working = slice_set s.working b t }) q ≡ put (is_private_in s) b t q
private-set s b q t low frozen durable =
    ap (λ w. w && not (has s.frozen q || has s.durable q)) (works-set s b q t low)
    ∙ elim (q == b) as (λ e. (q == b) ≡ e → ((if e then t else has s.working q) && not (has s.frozen q || has s.durable q)) ≡ (if e then t else is_private_in s q)) [
      | true ↦ λ is. let same : q ≡ b = eqb-true q b is in alone (has s.frozen q) (has s.durable q) t (ap (has s.frozen) same ∙ frozen) (ap (has s.durable) same ∙ durable)
      | false ↦ λ is. refl
    ] refl

-- the held blocks, once one is taken or given up that no other tree holds
pub held-set : (s : SpaceState) (b q : ℕ) (t : Bool) → b < limit_in s → has s.frozen b ≡ false → has s.durable b ≡ false
    → is_held (record s { working = slice_set s.working b t }) q ≡ put (is_held s) b t q
held-set s b q t low frozen durable =
    ap (λ w. w || has s.frozen q || has s.durable q) (works-set s b q t low)
    ∙ elim (q == b) as (λ e. (q == b) ≡ e → ((if e then t else has s.working q) || has s.frozen q || has s.durable q) ≡ (if e then t else is_held s q)) [
      | true ↦ λ is. let same : q ≡ b = eqb-true q b is in bare t (has s.frozen q) (has s.durable q) (ap (has s.frozen) same ∙ frozen) (ap (has s.durable) same ∙ durable)
      | false ↦ λ is. refl
    ] refl where
      bare : (t f d : Bool) → f ≡ false → d ≡ false → (t || f || d) ≡ t
      bare true f d g h = refl
      bare false false false g h = refl
      bare false true d g h = absurd (cc g)
      bare false false true g h = absurd (cc h)

-- a block that others hold too stays held
pub held-shared : (s : SpaceState) (b q : ℕ) → b < limit_in s → is_private_in s b ≡ false → Has s.working b
    → is_held (record s { working = slice_set s.working b false }) q ≡ is_held s q
held-shared s b q low shared works =
    ap (λ w. w || has s.frozen q || has s.durable q) (works-set s b q false low)
    ∙ elim (q == b) as (λ e. (q == b) ≡ e → ((if e then false else has s.working q) || has s.frozen q || has s.durable q) ≡ is_held s q) [
      | true ↦ λ is. let same : q ≡ b = eqb-true q b is in still (has s.working q) (has s.frozen q) (has s.durable q) (ap (is_private_in s) same ∙ shared) (ap (has s.working) same ∙ works)
      | false ↦ λ is. refl
    ] refl where
      still : (w f d : Bool) → (w && not (f || d)) ≡ false → w ≡ true → (false || f || d) ≡ (w || f || d)
      still true true d g h = refl
      still true false true g h = refl
      still true false false g h = absurd (cc g)
      still false f d g h = absurd (cc h)

-- nor does the working tree hold it alone then
pub private-shared : (s : SpaceState) (b q : ℕ) → b < limit_in s → is_private_in s b ≡ false
    → is_private_in (record s { working = slice_set s.working b false }) q ≡ is_private_in s q
private-shared s b q low shared =
    ap (λ w. w && not (has s.frozen q || has s.durable q)) (works-set s b q false low)
    ∙ elim (q == b) as (λ e. (q == b) ≡ e → ((if e then false else has s.working q) && not (has s.frozen q || has s.durable q)) ≡ is_private_in s q) [
      | true ↦ λ is. let same : q ≡ b = eqb-true q b is in sym (ap (is_private_in s) same ∙ shared)
      | false ↦ λ is. refl
    ] refl

-- at first the working tree holds nothing alone
pub space-clean : (first : ℕ) (held : Members) (b : ℕ) → is_private_in (space_with first held) b ≡ false
space-clean first held b = shared (has (users_in first held) b) (has (none_of held) b) where
  shared : (w n : Bool) → (w && not (n || w)) ≡ false
  shared true true = refl
  shared true false = refl
  shared false n = refl
