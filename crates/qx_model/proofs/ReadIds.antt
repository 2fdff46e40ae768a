-- After an edit the ids read the placed blocks.
use Rattle.std.proofs.Common.{◌≡◌, ℕ, ◌+◌, ◌-◌, ◌<◌, ◌⊎◌, inl, inr, refl, sym, ap, ◌∙◌, subst, arith}
use Rattle.std.specs.Prelude.{Bool, Option, Some, None, nat_lt, slice_get, if◌then◌else◌}
use Rattle.std.proofs.lemmas.Bool.{le-ltb, lt-ltb}
use Rattle.qx_model.specs.Edits.{Edit}
use Rattle.qx_model.specs.TreePositions.{HasPosition, Position}
use Rattle.qx_model.specs.TreeTouch.{rank_in}
use Rattle.qx_model.specs.Machine.{Frozen, Machine}
use Rattle.qx_model.specs.Space.{fresh_in, id_by, is_private, with_edit}
use Rattle.qx_model.specs.Ids.{HasFrozenIdsBelow, HasIds}
use Rattle.qx_model.specs.IdReadings.{HasFrozenId, IsPlaced, IsReading, IsUsed, ReadsPlaced}
use Rattle.qx_model.proofs.SamePositions.{rank_in-get}
use Rattle.qx_model.proofs.TreeNodes.{was_there}

module _ (s : Machine) (e : Edit) (block : ℕ → ℕ) (block_at : Position → ℕ) where
  block_of : Option Position → ℕ
  block_of None = 0
  block_of (Some p) = block_at p

  -- ids that there were stand for what they stood for, and each further one for the block of its fresh position
  reread : ℕ → ℕ
  reread i = if nat_lt i s.next_id then block i else block_of (slice_get (fresh_in s e) (i - s.next_id))

  reread-old : (i : ℕ) → i < s.next_id → reread i ≡ block i
  unfolding reread
  reread-old i h = ap (λ (b : Bool). if b then block i else block_of (slice_get (fresh_in s e) (i - s.next_id))) (lt-ltb i s.next_id h)

  reread-fresh : (p : Position) (k : ℕ) → rank_in (fresh_in s e) p ≡ Some k → reread (s.next_id + k) ≡ block_at p
  unfolding reread block_of
  reread-fresh p k is =
      let i = s.next_id + k in
      let back : i - s.next_id ≡ k = omega arith in
      ap (λ (b : Bool). if b then block i else block_of (slice_get (fresh_in s e) (i - s.next_id))) (le-ltb i s.next_id (omega arith))
      ∙ ap (λ (m : ℕ). block_of (slice_get (fresh_in s e) m)) back ∙ ap block_of (rank_in-get (fresh_in s e) p k is)

  module _ (ids : HasIds s) (apart : IsReading s block) (placed : IsPlaced s e block block_at) where
    stood : (p : Position) → HasPosition s.volume.blocksize e.tree p → rank_in (fresh_in s e) p ≡ None → HasPosition s.volume.blocksize s.working.tree p
    stood p h is = was_there s.volume.blocksize s.working.tree e (is_private s) p h is

    reads_it : (p : Position) (o : Option ℕ) → HasPosition s.volume.blocksize e.tree p → rank_in (fresh_in s e) p ≡ o → block_at p ≡ reread (id_by s.next_id o (s.working.ids p))
    reads_it p None h is = placed.others_stay p h is ∙ sym (reread-old (s.working.ids p) (ids.working.below p (stood p h is)))
    reads_it p (Some k) h is = sym (reread-fresh p k is)

    -- an id in use afterwards was in use, or is that of a fresh position
    abbrev IsOneOf : ℕ → Type 0
    IsOneOf i = (IsUsed s i × (i < s.next_id)) ⊎ ((p : Position) × (k : ℕ) × (rank_in (fresh_in s e) p ≡ Some k) × (i ≡ s.next_id + k))

    of_working : (p : Position) (o : Option ℕ) (i : ℕ) → HasPosition s.volume.blocksize e.tree p → rank_in (fresh_in s e) p ≡ o → id_by s.next_id o (s.working.ids p) ≡ i → IsOneOf i
    of_working p None i h is same = let there_is = stood p h is in inl (inl (p, there_is, same), subst (λ m. m < s.next_id) same (ids.working.below p there_is))
    of_working p (Some k) i h is same = inr (p, k, is, sym same)

    of_frozen : (o : Option Frozen) (i : ℕ) → HasFrozenIdsBelow s.volume.blocksize o s.next_id → HasFrozenId s.volume.blocksize o i → i < s.next_id
    of_frozen None i f u = absurd u
    of_frozen (Some p) i f u = subst (λ m. m < s.next_id) u.2 (f.below u.0 u.1)

    one_of : (i : ℕ) → IsUsed (with_edit e s) i → IsOneOf i
    one_of i (inl u) = of_working u.0 (rank_in (fresh_in s e) u.0) i u.1 refl u.2
    one_of i (inr (inl u)) = inl (inr (inl u), subst (λ m. m < s.next_id) u.2 (ids.durable.below u.0 u.1))
    one_of i (inr (inr u)) = inl (inr (inr u), of_frozen s.frozen i ids.frozen u)

    one_id : (i j : ℕ) → IsOneOf i → IsOneOf j → reread i ≡ reread j → i ≡ j
    one_id i j (inl a) (inl b) same = apart i j a.0 b.0 (sym (reread-old i a.1) ∙ same ∙ reread-old j b.1)
    one_id i j (inl a) (inr (q, m, is, at)) same =
        absurd (placed.fresh_unheld q i (m, is) a.0 (sym (reread-fresh q m is) ∙ ap reread (sym at) ∙ sym same ∙ reread-old i a.1))
    one_id i j (inr (p, k, is, at)) (inl b) same =
        absurd (placed.fresh_unheld p j (k, is) b.0 (sym (reread-fresh p k is) ∙ ap reread (sym at) ∙ same ∙ reread-old j b.1))
    one_id i j (inr (p, k, is, at)) (inr (q, m, js, bt)) same =
        let blocks : block_at p ≡ block_at q = sym (reread-fresh p k is) ∙ ap reread (sym at) ∙ same ∙ ap reread bt ∙ reread-fresh q m js in
        let one : p ≡ q = placed.fresh_apart p q (k, is) (m, js) blocks in
        let ranks : Some k ≡ Some m = sym is ∙ ap (rank_in (fresh_in s e)) one ∙ js in
        let rank : k ≡ m = cc in
        omega arith

    rereads : ReadsPlaced s e block block_at
    rereads = record {
      later = reread;
      agrees = reread-old;
      read = λ p h. reads_it p (rank_in (fresh_in s e) p) h refl;
      reading = λ i j u v same. one_id i j (one_of i u) (one_of j v) same;
    }

-- placed blocks are read by the ids
pub placed_is_read : (s : Machine) (e : Edit) (block : ℕ → ℕ) (block_at : Position → ℕ) → HasIds s → IsReading s block → IsPlaced s e block block_at → ReadsPlaced s e block block_at
placed_is_read s e block block_at ids apart placed = rereads s e block block_at ids apart placed
