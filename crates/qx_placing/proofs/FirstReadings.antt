-- The first ids of a tree that is mounted, read as the blocks at its positions.
use Rattle.std.proofs.Common.{◌≡◌, ℕ, inl, inr, refl, sym, ◌∙◌, ap, subst}
use Rattle.std.specs.Prelude.{false, not, Option, Some, None, IsTrue, unwrap_or}
use Rattle.qx_fields.specs.declared.order.Order.{Order}
use Rattle.qx_blocks.specs.BlockState.{BlockState}
use Rattle.qx_ptree.specs.Trees.{block_map}
use Rattle.qx_model.specs.IdReadings.{HasId, IsReading, IsUsed}
use Rattle.qx_model.specs.Machine.{Machine, Volume, first_copy, first_ids, start_of}
use Rattle.qx_model.specs.Tree.{Tree}
use Rattle.qx_model.specs.TreePositions.{HasPosition, Position, positions_of}
use Rattle.qx_model.specs.TreeTouch.{rank_in}
use Rattle.qx_model.proofs.SamePositions.{rank_in-get, rank_in-member}
use Rattle.qx_model.proofs.TreeNodes.{position_listed}
use Rattle.qx_copies.specs.Copies.{BlockCopy}
use Rattle.qx_copies.specs.Standing.{IsOwnCopy, Represents, StandsAt}
use Rattle.qx_copies.proofs.CopyPositions.{ids_placed, position_stands, stands_position}
use Rattle.qx_placing.specs.Placed.{IsReadAs, block_at, block_where, first_block}
use Rattle.qx_placing.proofs.EditedCopies.{stands_once}
use Rattle.qx_placing.proofs.ReadAgain.{snapshot_listed}
use Rattle.qx_placing.proofs.StandingBlocks.{at_position}

module _ (order : Order) (m : BlockState) (c : BlockCopy) (t : Tree) (v : Volume) (serial moment : ℕ) (rep : Represents (block_map order m) c t) (own : IsOwnCopy (block_map order m) c t) (same : v.blocksize ≡ m.holdings.size) where
  abbrev s : Machine
  s = start_of v t serial moment

  abbrev block : ℕ → ℕ
  block = first_block (block_map order m) c v.blocksize t

  -- the first id of a position is read as its block
  reads_first : (p : Position) → HasPosition v.blocksize t p → block (first_ids v.blocksize t p) ≡ block_at (block_map order m) c p
  reads_first p has = by_rank (rank_in (positions_of v.blocksize t) p) refl
    where
      by_rank : (o : Option ℕ) → rank_in (positions_of v.blocksize t) p ≡ o → block (first_ids v.blocksize t p) ≡ block_at (block_map order m) c p
      by_rank None is = absurd (rank_in-member (positions_of v.blocksize t) p (position_listed v.blocksize t p has) is)
      by_rank (Some k) is =
          ap (λ o. block (unwrap_or o 0)) is ∙ ap (λ o. block_where (block_map order m) c o) (rank_in-get (positions_of v.blocksize t) p k is)

  stands_first : (p : Position) → HasPosition v.blocksize t p → StandsAt (block_map order m) c p (block_at (block_map order m) c p)
  stands_first p has =
      let at : (b : ℕ) × StandsAt (block_map order m) c p b = position_stands (block_map order m) c t rep own p (subst (λ size. HasPosition size t p) same has) in
      subst (λ b. StandsAt (block_map order m) c p b) (sym (at_position order m c p at.0 at.1)) at.1

  -- an id in use is that of a position
  used_first : (i : ℕ) → IsUsed s i → HasId v.blocksize (first_copy v.blocksize t) i
  used_first i (inl u) = u
  used_first i (inr (inl u)) = u
  used_first i (inr (inr u)) = absurd u

  pub first_apart : IsReading s block
  first_apart i j u w is =
      let a : HasId v.blocksize (first_copy v.blocksize t) i = used_first i u in
      let b : HasId v.blocksize (first_copy v.blocksize t) j = used_first j w in
      let blocks : block_at (block_map order m) c a.0 ≡ block_at (block_map order m) c b.0 = sym (reads_first a.0 a.1) ∙ ap block a.2 ∙ is ∙ ap block (sym b.2) ∙ reads_first b.0 b.1 in
      let one : a.0 ≡ b.0 = stands_once order m c t rep a.0 b.0 (block_at (block_map order m) c a.0) (block_at (block_map order m) c b.0) (stands_first a.0 a.1) (stands_first b.0 b.1) blocks in
      sym a.2 ∙ ap (first_ids v.blocksize t) one ∙ b.2

  module _ (held : (p : Position) (b : ℕ) → StandsAt (block_map order m) c p b → IsTrue (m.holdings.held b)) (shared : (b : ℕ) → m.holdings.private b ≡ false) where
    pub read_first : IsReadAs order m c s block
    read_first = record {
      size = same;
      ids = ids_placed (block_map order m) c (first_copy v.blocksize t) block rep own (λ p has.
          let h : HasPosition v.blocksize t p = subst (λ size. HasPosition size t p) (sym same) has in
          subst (λ b. StandsAt (block_map order m) c p b) (sym (reads_first p h)) (stands_first p h));
      held = λ i u.
          let a : HasId v.blocksize (first_copy v.blocksize t) i = used_first i u in
          subst (λ x. IsTrue (m.holdings.held (block x))) a.2 (subst (λ b. IsTrue (m.holdings.held b)) (sym (reads_first a.0 a.1)) (held a.0 (block_at (block_map order m) c a.0) (stands_first a.0 a.1)));
      private = λ p b st.
          let h : HasPosition v.blocksize t p = subst (λ size. HasPosition size t p) (sym same) (stands_position (block_map order m) c t rep own p b st) in
          shared b ∙ sym (ap not (snapshot_listed s (first_ids v.blocksize t p) (inl (p, h, refl))));
    }
