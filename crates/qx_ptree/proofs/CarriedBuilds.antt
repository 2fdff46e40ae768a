-- What was built below a row stays built where other blocks were taken before it or after it.
use Rattle.std.proofs.Common.{◌≡◌, ◌≢◌, ℕ, ◌-◌, ◌^◌, ◌/◌, List, sym, ◌∙◌, ap, subst}
use Rattle.std.specs.Prelude.{Bool, true, false, not, IsTrue}
use Rattle.std.specs.Prelude.{sum_by}
use Rattle.std.specs.List.{range_with_len}
use Rattle.std.proofs.lemmas.Bool.{eq-eqb}
use Rattle.qx_geom.specs.Lists.{is_in}
use Rattle.qx_geom.specs.Pointer.{absent, per_block}
use Rattle.qx_geom.specs.Positions.{has_position}
use Rattle.qx_geom.specs.Touch.{is_touched}
use Rattle.qx_blocks.specs.BlockState.{BlockState}
use Rattle.qx_ptree.specs.declared.plan.Plan.{Plan}
use Rattle.qx_ptree.specs.Altered.{keeps_block, takes_fresh}
use Rattle.qx_ptree.specs.Alterations.{Alteration}
use Rattle.qx_ptree.specs.Building.{Builds, HasOldPosition, IsFreshPosition, IsOldPosition, IsPlaced, LiesUnder, Row, Shows, is_kept, loses_block, new_pointer, pointer_down}
use Rattle.qx_ptree.specs.Parts.{fresh_below}
use Rattle.qx_ptree.specs.Plans.{alteration_in, planned_pointer}
use Rattle.qx_ptree.specs.Takings.{Takes}
use Rattle.qx_ptree.specs.WorkState.{WorkState}
use Rattle.qx_ptree.proofs.CarriedPlans.{IsCarried, fresh_held}
use Rattle.qx_ptree.proofs.PlannedPointers.{IsToldPlan, planned_position}

-- where the node has a position, a pointer is there
pub position_there : (m : BlockState) (plan : Plan) (k j : ℕ) → IsToldPlan m plan → has_position m.holdings.size (alteration_in plan m).old k j ≡ true → planned_pointer plan m k j ≢ absent
position_there m plan k j p has none =
    let e : has_position m.holdings.size (alteration_in plan m).old k j ≡ false = planned_position m plan k j p ∙ ap not (eq-eqb (planned_pointer plan m k j) absent none) in
    absurd (cc)

-- ---- blocks that were taken before

module _ (m n o : BlockState) (plan : Plan) (p : IsToldPlan m plan) (c : IsCarried m n plan) where
  -- what lies under a row
  under_later : (row : Row) (k j : ℕ) → LiesUnder (per_block m.holdings.size) row k j → LiesUnder (per_block n.holdings.size) row k j
  under_later row k j u = subst (λ s. LiesUnder (per_block s) row k j) (sym c.size) u

  -- what is shown
  shows_later : (w : WorkState) (row : Row) (bytes : ℕ → List ℕ) → Shows m o plan w row bytes → Shows n o plan w row bytes
  shows_later w row bytes s = record {
    fresh = s.fresh;
    edits = s.edits;
    others = λ k j u up old.
        let under : LiesUnder (per_block m.holdings.size) row k j = subst (λ s. LiesUnder (per_block s) row k j) c.size u in
        let had : has_position m.holdings.size (alteration_in plan m).old k j ≡ true = (λ i. has_position (sym c.size i) (sym c.alteration i).old k j) ∙ old.0 in
        let plain : is_touched m.holdings.size (alteration_in plan m).old (alteration_in plan m).new (alteration_in plan m).written k j ≡ false =
        (λ i. is_touched (sym c.size i) (sym c.alteration i).old (sym c.alteration i).new (sym c.alteration i).written k j) ∙ old.1 in
        ap bytes (c.pointers k j) ∙ s.others k j under up (had, plain) ∙ sym (c.bytes k j (position_there m plan k j p had)) ∙ ap n.bytes (sym (c.pointers k j));
  }

  -- where a pointer leads
  placed_earlier : (w : WorkState) (k j q : ℕ) → IsPlaced n o plan w k j q → IsPlaced m o plan w k j q
  placed_earlier w k j q s = record {
    none = λ e. s.none ((λ i. has_position (c.size i) (c.alteration i).new k j) ∙ e);
    stays = λ e. s.stays ((λ i. keeps_block (c.alteration i) k j) ∙ e) ∙ c.pointers k j;
    fresh = λ e f. s.fresh ((λ i. has_position (c.size i) (c.alteration i).new k j) ∙ e) ((λ i. takes_fresh (c.alteration i) k j) ∙ f);
    bytes = λ l e f. s.bytes l ((λ i. has_position (c.size i) (c.alteration i).new k j) ∙ e) ((λ i. takes_fresh (c.alteration i) k j) ∙ f) ∙ c.leaves j;
  }

  -- the old positions
  old_later : (row : Row) (k j q : ℕ) → IsOldPosition m plan row k j q → IsOldPosition n plan row k j q
  old_later row k j q s = record { under = under_later row k j s.under; pointer = c.pointers k j ∙ s.pointer; present = s.present }

  old_earlier : (row : Row) (k j q : ℕ) → IsOldPosition n plan row k j q → IsOldPosition m plan row k j q
  old_earlier row k j q s = record { under = subst (λ s. LiesUnder (per_block s) row k j) c.size s.under; pointer = sym (c.pointers k j) ∙ s.pointer; present = s.present }

  -- those that pass a test
  has_earlier : (row : Row) (test : Alteration → ℕ → ℕ → Bool) (q : ℕ) → HasOldPosition n plan row (test (alteration_in plan n)) q → HasOldPosition m plan row (test (alteration_in plan m)) q
  has_earlier row test q (k, j, old, passes) = (k, j, old_earlier row k j q old, (λ i. test (sym c.alteration i) k j) ∙ passes)

  -- the positions that take a fresh block
  fresh_later : (row : Row) (k j : ℕ) → IsFreshPosition m plan row k j → IsFreshPosition n plan row k j
  fresh_later row k j s = record { under = under_later row k j s.under; there = (λ i. has_position (c.size i) (c.alteration i).new k j) ∙ s.there; fresh = (λ i. takes_fresh (c.alteration i) k j) ∙ s.fresh }

  -- the new pointers
  new_later : (row : Row) (tops : ℕ → ℕ) (bytes : ℕ → List ℕ) (k j : ℕ) → new_pointer n plan row tops bytes k j ≡ new_pointer m plan row tops bytes k j
  new_later row tops bytes k j = λ i. pointer_down (record { order = plan.order; size = c.size i; count = c.count i; bytes = bytes }) (row.level - k) (tops (j / per_block (c.size i) ^ (row.level - k))) j

  -- what was built from later blocks was built from the earlier ones
  pub builds_earlier : (w : WorkState) (row : Row) (tops : ℕ → ℕ) → Builds n o plan w row tops → Builds m o plan w row tops
  builds_earlier w row tops b = record {
    pointers = λ bytes shows k j u.
        placed_earlier w k j _ (subst (λ x. IsPlaced n o plan w k j x) (new_later row tops bytes k j) (b.pointers bytes (shows_later w row bytes shows) k j (under_later row k j u)));
    apart = λ bytes shows k j h i a d same.
        b.apart bytes (shows_later w row bytes shows) k j h i (fresh_later row k j a) (fresh_later row h i d) (new_later row tops bytes k j ∙ same ∙ sym (new_later row tops bytes h i));
    count = b.count ∙ (λ i. sum_by (fresh_below (c.alteration i) row.level) (range_with_len row.first row.count));
    released = λ k j q old lost. b.released k j q (old_later row k j q old) ((λ i. loses_block (c.alteration i) k j) ∙ lost);
    only_lost = λ q s. has_earlier row loses_block q (b.only_lost q s);
    kept = λ k j q old keeps. b.kept k j q (old_later row k j q old) ((λ i. is_kept (c.alteration i) k j) ∙ keeps);
    only_kept = λ q s. has_earlier row is_kept q (b.only_kept q s);
    edited = λ e s. let r = b.edited e s in (r.0, r.1, old_earlier row r.0 r.1 e.block r.2, (λ i. is_kept (sym c.alteration i) r.0 r.1) ∙ r.3, r.4);
    edit_once = b.edit_once;
  }

-- ---- blocks that are taken afterwards

-- what was built stays built while other blocks are taken
pub builds_later : (f : List ℕ) (l m n o : BlockState) (plan : Plan) (w : WorkState) (row : Row) (tops : ℕ → ℕ) → Takes w.fresh l n → Takes f n o → IsTrue o.tells → Builds m n plan w row tops → Builds m o plan w row tops
builds_later f l m n o plan w row tops taken t told b =
    let same : (q : ℕ) → is_in w.fresh q ≡ true → o.bytes q ≡ n.bytes q = λ q s. t.told_bytes told q (fresh_held w.fresh l n q taken s) in
    record {
      pointers = λ bytes shows k j u.
          let s = b.pointers bytes (record { fresh = λ q e. shows.fresh q e ∙ same q e; edits = shows.edits; others = shows.others }) k j u in
          record { none = s.none; stays = s.stays; fresh = s.fresh; bytes = λ z e f. same _ (s.fresh e f) ∙ s.bytes z e f };
      apart = λ bytes shows k j h i a d is. b.apart bytes (record { fresh = λ q e. shows.fresh q e ∙ same q e; edits = shows.edits; others = shows.others }) k j h i a d is;
      count = b.count;
      released = b.released;
      only_lost = b.only_lost;
      kept = b.kept;
      only_kept = b.only_kept;
      edited = b.edited;
      edit_once = b.edit_once;
    }
