-- The work at one position of a node.
use Rattle.std.proofs.Common.{◌≡◌, ◌≢◌, ℕ, ◌<◌, ◌≤◌, inl, inr, List, [], ◌∷◌, length, refl, sym, ◌∙◌, ap, arith}
use Rattle.std.specs.Prelude.{Bool, true, false, not, ◌&&◌, ◌||◌, if◌then◌else◌, Contains}
use Rattle.std.proofs.lemmas.Bool.{cases_lt, eq-eqb, le-ltb}
use Rattle.std.proofs.Math.Bool.{and-false}
use Rattle.qx_geom.specs.Lists.{is_in}
use Rattle.qx_geom.specs.Pointer.{absent}
use Rattle.qx_geom.specs.Positions.{has_position}
use Rattle.qx_geom.specs.Touch.{changed_leaves, is_touched}
use Rattle.qx_geom.proofs.Members.{Contains-cases, in_cases, in_head}
use Rattle.qx_geom.proofs.Truths.{true_or_false}
use Rattle.qx_nodes.specs.Content.{leaf_bytes}
use Rattle.qx_blocks.specs.BlockState.{BlockState}
use Rattle.qx_ptree.specs.declared.plan.Plan.{Plan}
use Rattle.qx_ptree.specs.Altered.{keeps_block, takes_fresh}
use Rattle.qx_ptree.specs.Alterations.{Alteration}
use Rattle.qx_ptree.specs.Building.{IsPlaced, is_kept, loses_block, work_edited, work_kept, work_lost, work_moved, work_taken}
use Rattle.qx_ptree.specs.Parts.{has_below, own_need}
use Rattle.qx_ptree.specs.Plans.{alteration_in, planned_pointer}
use Rattle.qx_ptree.specs.Trees.{block_map}
use Rattle.qx_ptree.specs.WorkState.{EditState, WorkState, no_work}
use Rattle.qx_ptree.proofs.OwnPositions.{had-below}
use Rattle.qx_ptree.proofs.PlannedPointers.{IsToldPlan, planned_position}
use Rattle.qx_ptree.proofs.PointersByPosition.{at_above}
use Rattle.qx_ptree.proofs.QuietParts.{is_there}

-- b is the block of a position, which has one
pub record IsOwn (m : BlockState) (plan : Plan) (k j b : ℕ) : Type 0 where
  pub is : planned_pointer plan m k j ≡ b
  pub there : b ≢ absent

-- the work at one position, whose new pointer is q
pub record IsOwnWork (m n : BlockState) (plan : Plan) (work : WorkState) (k j q : ℕ) : Type 0 where
  pub placed : IsPlaced m n plan work k j q
  pub count : let a : Alteration = alteration_in plan m in
      length work.fresh ≡ own_need (has_position a.blocksize a.old k j) (a.private k j) (has_below a.blocksize (changed_leaves a.old a.new a.written) k j) (has_below a.blocksize a.new.present k j)
  pub released : planned_pointer plan m k j ≢ absent → loses_block (alteration_in plan m) k j ≡ true → is_in work.released (planned_pointer plan m k j) ≡ true
  pub only_lost : (b : ℕ) → is_in work.released b ≡ true → IsOwn m plan k j b × (loses_block (alteration_in plan m) k j ≡ true)
  pub kept : planned_pointer plan m k j ≢ absent → is_kept (alteration_in plan m) k j ≡ true → is_in work.kept (planned_pointer plan m k j) ≡ true
  pub only_kept : (b : ℕ) → is_in work.kept b ≡ true → IsOwn m plan k j b × (is_kept (alteration_in plan m) k j ≡ true)
  pub edited : (e : EditState) → Contains work.edits e → IsOwn m plan k j e.block × (is_kept (alteration_in plan m) k j ≡ true) × (0 < k)
  pub edit_once : (e f : EditState) → Contains work.edits e → Contains work.edits f → e ≡ f

-- ---- lists of one

-- what is in a list of one
pub in_one : (x b : ℕ) → is_in (x ∷ []) b ≡ true → x ≡ b
in_one x b h = elim (in_cases x b [] h) [ inl is ↦ is | inr none ↦ absurd (cc) ]

-- so with edits
edit_one : (x e : EditState) → Contains (x ∷ []) e → x ≡ e
edit_one x e c = elim (Contains-cases x e [] c) [ inl is ↦ is | inr none ↦ absurd (omega (arith, none.1)) ]

-- ---- by what there was, and what there is afterwards

module _ (m n : BlockState) (plan : Plan) (p : IsToldPlan m plan) (k j : ℕ) (within : k ≤ (alteration_in plan m).new.levels) where
  abbrev a : Alteration
  a = alteration_in plan m

  abbrev size : ℕ
  size = m.holdings.size

  abbrev old : ℕ
  old = planned_pointer plan m k j

  -- a leaf below it changed
  abbrev changed : Bool
  changed = has_below size (changed_leaves a.old a.new a.written) k j

  -- one is present below it afterwards
  abbrev present : Bool
  present = has_below size a.new.present k j

  -- the position was there
  had : old ≢ absent → has_position size a.old k j ≡ true
  had there = planned_position m plan k j p ∙ is_there old there

  -- or not
  hadnt : old ≡ absent → has_position size a.old k j ≡ false
  hadnt none = planned_position m plan k j p ∙ ap not (eq-eqb old absent none)

  -- it is there afterwards
  has : (b : Bool) → present ≡ b → has_position size a.new k j ≡ b
  has b is = had-below size a.new k j within ∙ is

  -- it is touched
  touched : (b : Bool) → old ≢ absent → changed ≡ b → is_touched size a.old a.new a.written k j ≡ b
  touched b there is =
      let low : k ≤ plan.node.levels = elim (cases_lt plan.node.levels k) [ inl above ↦ absurd (there (at_above (block_map plan.order m) plan.node k j above)) | inr h ↦ h ] in
      λ i. le-ltb plan.node.levels k low i || is i

  -- what isn't there keeps no block
  keeps_none : present ≡ false → keeps_block a k j ≡ false
  keeps_none is = λ i. has false is i && not (takes_fresh a k j)

  -- nor what wasn't there
  keeps_new : old ≡ absent → keeps_block a k j ≡ false
  keeps_new none = (λ i. has_position size a.new k j && not (not (hadnt none i) || (is_touched size a.old a.new a.written k j && not (a.private k j)))) ∙ and-false (has_position size a.new k j)

  -- what isn't touched takes no fresh block
  plain_stays : old ≢ absent → changed ≡ false → takes_fresh a k j ≡ false
  plain_stays there is = λ i. not (had there i) || (touched false there is i && not (a.private k j))

  -- nor what is private
  private_stays : old ≢ absent → m.holdings.private old ≡ true → takes_fresh a k j ≡ false
  private_stays there own = (λ i. not (had there i) || (is_touched size a.old a.new a.written k j && not (own i))) ∙ and-false (is_touched size a.old a.new a.written k j)

  -- what is shared and touched does
  shared_moves : old ≢ absent → changed ≡ true → m.holdings.private old ≡ false → takes_fresh a k j ≡ true
  shared_moves there is shared = λ i. not (had there i) || (touched true there is i && not (shared i))

  -- the block is kept where none is taken
  keeps_it : present ≡ true → takes_fresh a k j ≡ false → keeps_block a k j ≡ true
  keeps_it is plain = λ i. has true is i && not (plain i)

  -- and not where one is
  keeps_not : takes_fresh a k j ≡ true → keeps_block a k j ≡ false
  keeps_not fresh = (λ i. has_position size a.new k j && not (fresh i)) ∙ and-false (has_position size a.new k j)

  -- so it is lost
  loses_it : keeps_block a k j ≡ false → loses_block a k j ≡ true
  loses_it e = ap (λ b. if b then false else true) e

  loses_not : keeps_block a k j ≡ true → loses_block a k j ≡ false
  loses_not e = ap (λ b. if b then false else true) e

  -- and kept
  kept_not : keeps_block a k j ≡ false → is_kept a k j ≡ false
  kept_not e = ap (λ b. if b then is_touched size a.old a.new a.written k j else false) e

  kept_as : (b : Bool) → keeps_block a k j ≡ true → old ≢ absent → changed ≡ b → is_kept a k j ≡ b
  kept_as b e there is = ap (λ b. if b then is_touched size a.old a.new a.written k j else false) e ∙ touched b there is

  -- nothing is done where there was no block and is none
  pub own_none : present ≡ false → old ≡ absent → IsOwnWork m n plan no_work k j absent
  own_none is none = record {
    placed = record {
      none = λ e. refl;
      stays = λ e. absurd (true_or_false (keeps_block a k j) e (keeps_none is));
      fresh = λ e f. absurd (true_or_false (has_position size a.new k j) e (has false is));
      bytes = λ z e f. absurd (true_or_false (has_position size a.new k j) e (has false is));
    };
    count = λ i. own_need (has_position size a.old k j) (a.private k j) changed (sym is i);
    released = λ there lost. absurd (there none);
    only_lost = λ b s. absurd (cc);
    kept = λ there keeps. absurd (there none);
    only_kept = λ b s. absurd (cc);
    edited = λ e s. absurd (omega (arith, s.1));
    edit_once = λ e f s t. absurd (omega (arith, s.1));
  }

  -- a block is given up where none is left
  pub own_lost : present ≡ false → old ≢ absent → IsOwnWork m n plan (work_lost old) k j absent
  own_lost is there = record {
    placed = record {
      none = λ e. refl;
      stays = λ e. absurd (true_or_false (keeps_block a k j) e (keeps_none is));
      fresh = λ e f. absurd (true_or_false (has_position size a.new k j) e (has false is));
      bytes = λ z e f. absurd (true_or_false (has_position size a.new k j) e (has false is));
    };
    count = λ i. own_need (has_position size a.old k j) (a.private k j) changed (sym is i);
    released = λ there lost. in_head old [];
    only_lost = λ b s. (record { is = in_one old b s; there = λ e. there (in_one old b s ∙ e) }, loses_it (keeps_none is));
    kept = λ there keeps. absurd (true_or_false (is_kept a k j) keeps (kept_not (keeps_none is)));
    only_kept = λ b s. absurd (cc);
    edited = λ e s. absurd (omega (arith, s.1));
    edit_once = λ e f s t. absurd (omega (arith, s.1));
  }

  -- where a position keeps its block
  placed_as : (work : WorkState) → present ≡ true → takes_fresh a k j ≡ false → IsPlaced m n plan work k j old
  placed_as work is plain = record {
    none = λ e. absurd (true_or_false (has_position size a.new k j) (has true is) e);
    stays = λ e. refl;
    fresh = λ e f. absurd (true_or_false (takes_fresh a k j) f plain);
    bytes = λ z e f. absurd (true_or_false (takes_fresh a k j) f plain);
  }

  -- and where it takes a fresh one
  placed_fresh : (work : WorkState) (q : ℕ) → present ≡ true → is_in work.fresh q ≡ true → keeps_block a k j ≡ false → (k ≡ 0 → n.bytes q ≡ leaf_bytes (block_map plan.order m) plan.node j) → IsPlaced m n plan work k j q
  placed_fresh work q is fresh lost bytes = record {
    none = λ e. absurd (true_or_false (has_position size a.new k j) (has true is) e);
    stays = λ e. absurd (true_or_false (keeps_block a k j) e lost);
    fresh = λ e f. fresh;
    bytes = λ z e f. bytes z;
  }

  -- nothing is done where nothing changed
  pub own_same : present ≡ true → changed ≡ false → old ≢ absent → IsOwnWork m n plan no_work k j old
  own_same is quiet there =
      let plain : takes_fresh a k j ≡ false = plain_stays there quiet in
      record {
        placed = placed_as no_work is plain;
        count = λ i. own_need (sym (had there) i) (a.private k j) (sym quiet i) (sym is i);
        released = λ e lost. absurd (true_or_false (loses_block a k j) lost (loses_not (keeps_it is plain)));
        only_lost = λ b s. absurd (cc);
        kept = λ e keeps. absurd (true_or_false (is_kept a k j) keeps (kept_as false (keeps_it is plain) there quiet));
        only_kept = λ b s. absurd (cc);
        edited = λ e s. absurd (omega (arith, s.1));
        edit_once = λ e f s t. absurd (omega (arith, s.1));
      }

  -- a private block stays: a leaf
  pub own_kept : present ≡ true → changed ≡ true → old ≢ absent → m.holdings.private old ≡ true → IsOwnWork m n plan (work_kept old) k j old
  own_kept is quiet there own =
      let plain : takes_fresh a k j ≡ false = private_stays there own in
      record {
        placed = placed_as (work_kept old) is plain;
        count = λ i. own_need (sym (had there) i) (sym own i) (sym quiet i) (sym is i);
        released = λ e lost. absurd (true_or_false (loses_block a k j) lost (loses_not (keeps_it is plain)));
        only_lost = λ b s. absurd (cc);
        kept = λ e keeps. in_head old [];
        only_kept = λ b s. (record { is = in_one old b s; there = λ e. there (in_one old b s ∙ e) }, kept_as true (keeps_it is plain) there quiet);
        edited = λ e s. absurd (omega (arith, s.1));
        edit_once = λ e f s t. absurd (omega (arith, s.1));
      }

  -- or a pointer block, which gets other bytes
  pub own_edited : (bytes : List ℕ) → 0 < k → present ≡ true → changed ≡ true → old ≢ absent → m.holdings.private old ≡ true → IsOwnWork m n plan (work_edited old bytes) k j old
  own_edited bytes up is quiet there own =
      let plain : takes_fresh a k j ≡ false = private_stays there own in
      let edit : EditState = record { block = old; bytes = bytes } in
      record {
        placed = placed_as (work_edited old bytes) is plain;
        count = λ i. own_need (sym (had there) i) (sym own i) (sym quiet i) (sym is i);
        released = λ e lost. absurd (true_or_false (loses_block a k j) lost (loses_not (keeps_it is plain)));
        only_lost = λ b s. absurd (cc);
        kept = λ e keeps. in_head old [];
        only_kept = λ b s. (record { is = in_one old b s; there = λ e. there (in_one old b s ∙ e) }, kept_as true (keeps_it is plain) there quiet);
        edited = λ e s.
            let same : edit ≡ e = edit_one edit e s in
            let block : old ≡ e.block = ap (λ (x : EditState). x.block) same in
            (record { is = block; there = λ z. there (block ∙ z) }, kept_as true (keeps_it is plain) there quiet, up);
        edit_once = λ e f s t. sym (edit_one edit e s) ∙ edit_one edit f t;
      }

  -- a fresh block where there was none
  pub own_taken : (q : ℕ) → present ≡ true → old ≡ absent → (k ≡ 0 → n.bytes q ≡ leaf_bytes (block_map plan.order m) plan.node j) → IsOwnWork m n plan (work_taken q) k j q
  own_taken q is none bytes = record {
    placed = placed_fresh (work_taken q) q is (in_head q []) (keeps_new none) bytes;
    count = λ i. own_need (sym (hadnt none) i) (a.private k j) changed (sym is i);
    released = λ there lost. absurd (there none);
    only_lost = λ b s. absurd (cc);
    kept = λ there keeps. absurd (there none);
    only_kept = λ b s. absurd (cc);
    edited = λ e s. absurd (omega (arith, s.1));
    edit_once = λ e f s t. absurd (omega (arith, s.1));
  }

  -- or one in the place of another
  pub own_moved : (q : ℕ) → present ≡ true → changed ≡ true → old ≢ absent → m.holdings.private old ≡ false → (k ≡ 0 → n.bytes q ≡ leaf_bytes (block_map plan.order m) plan.node j) → IsOwnWork m n plan (work_moved q old) k j q
  own_moved q is quiet there shared bytes =
      let lost : keeps_block a k j ≡ false = keeps_not (shared_moves there quiet shared) in
      record {
        placed = placed_fresh (work_moved q old) q is (in_head q []) lost bytes;
        count = λ i. own_need (sym (had there) i) (sym shared i) (sym quiet i) (sym is i);
        released = λ there e. in_head old [];
        only_lost = λ b s. (record { is = in_one old b s; there = λ e. there (in_one old b s ∙ e) }, loses_it lost);
        kept = λ e keeps. absurd (true_or_false (is_kept a k j) keeps (kept_not lost));
        only_kept = λ b s. absurd (cc);
        edited = λ e s. absurd (omega (arith, s.1));
        edit_once = λ e f s t. absurd (omega (arith, s.1));
      }
