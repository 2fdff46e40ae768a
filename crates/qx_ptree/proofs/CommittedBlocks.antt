-- What a commit leaves of the blocks of a node for which a change was prepared.
use Rattle.std.proofs.Common.{◌≡◌, ◌≢◌, ℕ, ◌<◌, ◌≤◌, List, ◌++◌, refl, sym, ◌∙◌, ap, subst, arith}
use Rattle.std.specs.Prelude.{true, false, not, ◌&&◌, ◌||◌, ◌==◌, nat_lt, IsTrue, Contains}
use Rattle.std.specs.List.{list_any}
use Rattle.std.proofs.lemmas.Bool.{or_right as or_second}
use Rattle.qx_geom.specs.Lists.{is_in}
use Rattle.qx_geom.specs.declared.root.Root.{Root}
use Rattle.qx_geom.specs.Pointer.{absent}
use Rattle.qx_geom.specs.Positions.{HasPosition, has_position, index_above}
use Rattle.qx_geom.specs.Touch.{changed_leaves, is_touched, leaves_without}
use Rattle.qx_geom.proofs.ImagesAndFilters.{any_image, in_filter}
use Rattle.qx_geom.proofs.LeastTouch.{has_above, leaf_below}
use Rattle.qx_geom.proofs.Members.{in_right}
use Rattle.qx_geom.proofs.Truths.{or_right, true_or_false}
use Rattle.qx_nodes.specs.Visits.{Visit}
use Rattle.qx_blocks.specs.BlockState.{BlockState}
use Rattle.qx_ptree.specs.declared.plan.Plan.{Plan}
use Rattle.qx_ptree.specs.Alterations.{Alteration}
use Rattle.qx_ptree.specs.Altered.{AsLeft, IsSameBlock, keeps_block}
use Rattle.qx_ptree.specs.Building.{Shows, is_kept}
use Rattle.qx_ptree.specs.Plans.{alteration_in, planned_pointer}
use Rattle.qx_ptree.specs.WorkState.{EditState, WorkState}
use Rattle.qx_ptree.proofs.BuiltNodes.{IsBuilt, blocks_after, built, edit-at, edit-fresh, edit-stays, fresh-stays, kept-old, kept-stays, kept-there, lost-released, new-under, old-bytes, old-held, old-visit, old-visits, old-works, own-fresh-block, own-kept-block, own_row, passes_first, passes_second}
use Rattle.qx_ptree.proofs.CarriedPlans.{private_after}
use Rattle.qx_ptree.proofs.CommitSteps.{committed-bytes, committed-edit, committed-gone, committed-private, committed-ready, committed-works}

-- ---- untouched positions

-- where nothing below a position changed, a present leaf below it stays
untouched_leaf : (a : Alteration) (k j i : ℕ) → is_touched a.blocksize a.old a.new a.written k j ≡ false → is_in a.old.present i ≡ true → index_above a.blocksize k i ≡ j → is_in a.new.present i ≡ true
untouched_leaf a k j i still had at =
    elim (is_in a.new.present i) as (λ t. is_in a.new.present i ≡ t → t ≡ true) [
      | true ↦ λ e. refl
      | false ↦ λ e.
          let went : is_in (leaves_without a.old a.new) i ≡ true = in_filter (λ x. not (is_in a.new.present x)) a.old.present i had (ap not e) in
          let changed : is_in (changed_leaves a.old a.new a.written) i ≡ true = in_right a.written (leaves_without a.new a.old ++ leaves_without a.old a.new) i (in_right (leaves_without a.new a.old) (leaves_without a.old a.new) i went) in
          let any : list_any (λ x. index_above a.blocksize k x == j) (changed_leaves a.old a.new a.written) ≡ true = any_image (index_above a.blocksize k) j (changed_leaves a.old a.new a.written) i changed at in
          absurd (true_or_false _ any (or_right (nat_lt a.old.levels k) (list_any (λ x. index_above a.blocksize k x == j) (changed_leaves a.old a.new a.written)) still))
    ] refl

-- so an old position stays
untouched_stays : (a : Alteration) (k j : ℕ) → k ≤ a.new.levels → has_position a.blocksize a.old k j ≡ true → is_touched a.blocksize a.old a.new a.written k j ≡ false → has_position a.blocksize a.new k j ≡ true
untouched_stays a k j level had still =
    let l : (k ≤ a.old.levels) × ((i : ℕ) × (is_in a.old.present i ≡ true) × (index_above a.blocksize k i ≡ j)) = leaf_below a.blocksize a.old k j had in
    subst (λ x. HasPosition a.blocksize a.new k x) l.1.2 (has_above a.blocksize a.new k l.1.0 level (untouched_leaf a k j l.1.0 still l.1.1 l.1.2))

-- with its block
untouched_keeps : (a : Alteration) (k j : ℕ) → k ≤ a.new.levels → has_position a.blocksize a.old k j ≡ true → is_touched a.blocksize a.old a.new a.written k j ≡ false → keeps_block a k j ≡ true
untouched_keeps a k j level had still = λ t. untouched_stays a k j level had still t && not (not (had t) || (still t && not (a.private k j)))

-- ---- the commit

module _ (m n : BlockState) (plan : Plan) (root : Root) (outside : List ℕ) (rest : WorkState) (b : IsBuilt m n plan root outside rest)
    (mid : BlockState) (left : AsLeft plan.order (built plan root outside rest) n mid) where
  -- an old block is as the change left it
  old-same : (k j : ℕ) → planned_pointer plan m k j ≢ absent → IsSameBlock n mid (planned_pointer plan m k j)
  old-same k j there =
      let v : Visit = record { level = k; index = j; block = planned_pointer plan m k j } in
      left.others v (subst (λ vs. Contains vs v) (old-visits m n plan root outside rest b) (old-visit m n plan root outside rest b k j there))

  -- one that stays has its bytes, unless it stands above the leaves and is touched
  pub committed-old : (k j : ℕ) → keeps_block (alteration_in plan m) k j ≡ true → (is_kept (alteration_in plan m) k j ≡ true → 0 < k → ⊥)
      → (blocks_after plan root outside rest mid).bytes (planned_pointer plan m k j) ≡ m.bytes (planned_pointer plan m k j)
  committed-old k j keeps apart =
      let there : planned_pointer plan m k j ≢ absent = kept-old m n plan root outside rest b k j keeps in
      committed-bytes mid (built plan root outside rest) (planned_pointer plan m k j) (kept-stays m n plan root outside rest b k j keeps)
      (λ e c is. let at : (is_kept (alteration_in plan m) k j ≡ true) × (0 < k) = edit-at m n plan root outside rest b e c k j there is in apart at.0 at.1)
      ∙ (old-same k j there).bytes ∙ old-bytes m n plan root outside rest b k j there

  -- the working tree holds it
  pub committed-old-works : (k j : ℕ) → keeps_block (alteration_in plan m) k j ≡ true → IsTrue ((blocks_after plan root outside rest mid).holdings.works (planned_pointer plan m k j))
  committed-old-works k j keeps =
      let q : ℕ = planned_pointer plan m k j in
      let there : q ≢ absent = kept-old m n plan root outside rest b k j keeps in
      let before : n.holdings.works q ≡ true = b.takes.works q ∙ ap (λ t. t || is_in rest.fresh q) (old-works m n plan root outside rest b k j there) in
      committed-works mid (built plan root outside rest) q (kept-stays m n plan root outside rest b k j keeps) ∙ (old-same k j there).works ∙ before

  -- which holds it alone where it did
  pub committed-old-private : (k j : ℕ) → keeps_block (alteration_in plan m) k j ≡ true → (blocks_after plan root outside rest mid).holdings.private (planned_pointer plan m k j) ≡ m.holdings.private (planned_pointer plan m k j)
  committed-old-private k j keeps =
      let q : ℕ = planned_pointer plan m k j in
      let there : q ≢ absent = kept-old m n plan root outside rest b k j keeps in
      committed-private mid (built plan root outside rest) q (kept-stays m n plan root outside rest b k j keeps)
      ∙ (old-same k j there).private ∙ private_after rest.fresh m n q b.takes (old-held m n plan root outside rest b k j there)

  -- where it is touched it was made ready
  pub kept-own : (k j : ℕ) → is_kept (alteration_in plan m) k j ≡ true → is_in rest.kept (planned_pointer plan m k j) ≡ true
  kept-own k j kept =
      let a : Alteration = alteration_in plan m in
      let keeps : keeps_block a k j ≡ true = passes_first (keeps_block a k j) (is_touched a.blocksize a.old a.new a.written k j) kept in
      b.builds.kept k j (planned_pointer plan m k j) (record { under = new-under m n plan root outside rest b k j (kept-there m n plan root outside rest b k j keeps); pointer = refl; present = kept-old m n plan root outside rest b k j keeps }) kept

  -- and stays ready
  pub committed-kept-ready : (k j : ℕ) → is_kept (alteration_in plan m) k j ≡ true → IsTrue ((blocks_after plan root outside rest mid).holdings.ready (planned_pointer plan m k j))
  committed-kept-ready k j kept =
      let a : Alteration = alteration_in plan m in
      let q : ℕ = planned_pointer plan m k j in
      let keeps : keeps_block a k j ≡ true = passes_first (keeps_block a k j) (is_touched a.blocksize a.old a.new a.written k j) kept in
      committed-ready mid (built plan root outside rest) q (kept-stays m n plan root outside rest b k j keeps) ((left.own q (own-kept-block outside rest q (kept-own k j kept))).ready (b.ready q (kept-own k j kept)))

  -- a fresh block has the bytes that it was given
  pub committed-fresh : (q : ℕ) → is_in rest.fresh q ≡ true → (blocks_after plan root outside rest mid).bytes q ≡ n.bytes q
  committed-fresh q f =
      committed-bytes mid (built plan root outside rest) q (fresh-stays m n plan root outside rest b q f)
      (λ e c is. edit-fresh m n plan root outside rest b e c (subst (λ x. is_in rest.fresh x ≡ true) (sym is) f)) ∙ (left.own q (own-fresh-block outside rest q f)).bytes

  -- the working tree holds it
  pub committed-fresh-works : (q : ℕ) → is_in rest.fresh q ≡ true → IsTrue ((blocks_after plan root outside rest mid).holdings.works q)
  committed-fresh-works q f =
      committed-works mid (built plan root outside rest) q (fresh-stays m n plan root outside rest b q f) ∙ (left.own q (own-fresh-block outside rest q f)).works ∙ b.takes.works q ∙ or_second (m.holdings.works q) (is_in rest.fresh q) f

  -- and it is ready
  pub committed-fresh-ready : (q : ℕ) → is_in rest.fresh q ≡ true → IsTrue ((blocks_after plan root outside rest mid).holdings.ready q)
  committed-fresh-ready q f =
      committed-ready mid (built plan root outside rest) q (fresh-stays m n plan root outside rest b q f) ((left.own q (own-fresh-block outside rest q f)).ready (b.takes.ready q (or_second (m.holdings.ready q) (is_in rest.fresh q) f)))

  -- what was prepared has come about
  pub committed-shows : Shows m n plan rest (own_row root) (blocks_after plan root outside rest mid).bytes
  committed-shows = record {
    fresh = committed-fresh;
    edits = λ e c. committed-edit mid (built plan root outside rest) e.block (edit-stays m n plan root outside rest b e c) e.bytes e (λ f d is. ap (λ (x : EditState). x.bytes) (b.builds.edit_once f e d c is)) c refl;
    others = λ k j under high is.
        let a : Alteration = alteration_in plan m in
        let level : k ≤ root.levels = under.level in
        committed-old k j (untouched_keeps a k j (omega (arith, b.levels)) is.0 is.1) (λ kept above. true_or_false (is_touched a.blocksize a.old a.new a.written k j) (passes_second (keeps_block a k j) (is_touched a.blocksize a.old a.new a.written k j) kept) is.1);
  }

  -- a block that loses its position is the working tree's no more
  pub committed-lost : (k j : ℕ) → planned_pointer plan m k j ≢ absent → keeps_block (alteration_in plan m) k j ≡ false → (blocks_after plan root outside rest mid).holdings.works (planned_pointer plan m k j) ≡ false
  committed-lost k j there lost = committed-gone mid (built plan root outside rest) (planned_pointer plan m k j) (lost-released m n plan root outside rest b k j there lost)
