-- Each block of each copy has an id of its own, below the next one: from a mount on, and through every turn.
use Rattle.std.proofs.Common.{◌≡◌, ℕ, ◌+◌, ◌<◌, ◌≤◌, List, [], ◌∷◌, length, refl, sym, ap, ◌∙◌, subst, arith}
use Rattle.std.specs.Prelude.{Option, Some, None, unwrap_or, Bool, true, false}
use Rattle.qx_model.specs.declared.turn.VolEvent.{VolEvent}
use Rattle.qx_model.specs.declared.turn.Turn.{Turn}
use Rattle.qx_model.specs.Tree.{Tree}
use Rattle.qx_model.specs.Edits.{Edit}
use Rattle.qx_model.specs.TreePositions.{HasPosition, Position, positions_of}
use Rattle.qx_model.specs.TreeTouch.{rank_in}
use Rattle.qx_model.specs.Machine.{Copy, Frozen, Machine, Volume, first_copy, start_of}
use Rattle.qx_model.specs.Space.{fresh_in, id_by, is_private, with_edit}
use Rattle.qx_model.specs.Snapshots.{Begin, Move, Step, after_move, after_moves, begun, is_last_step, is_time_to_begin, step_to, stepped}
use Rattle.qx_model.specs.Plans.{Becomes, Ending, GoesTo, Holds, Plan, Stays, after_edit, after_ending, plan}
use Rattle.qx_model.specs.Next.{ActFault, Faults, Next, Transition, act_result, after_act, background_moves, begun_if, moves_made, next_under, timed_begin}
use Rattle.qx_model.specs.Ids.{HasFrozenIdsBelow, HasIds, HasIdsBelow}
use Rattle.qx_model.proofs.SamePositions.{rank_in-injective, rank_in-lt, rank_in-member}
use Rattle.qx_model.proofs.TreeNodes.{position_listed, was_there}
use Rattle.qx_model.proofs.PlanStarts.{plan_from}

-- ---- a mount

module _ (blocksize : ℕ) (t : Tree) where
  rank_below : (p : Position) (o : Option ℕ) → HasPosition blocksize t p → rank_in (positions_of blocksize t) p ≡ o → unwrap_or o 0 < length (positions_of blocksize t)
  rank_below p None h is = absurd (rank_in-member (positions_of blocksize t) p (position_listed blocksize t p h) is)
  rank_below p (Some k) h is = rank_in-lt (positions_of blocksize t) p k is

  ranks_differ : (p q : Position) (a b : Option ℕ) → HasPosition blocksize t p → HasPosition blocksize t q
      → rank_in (positions_of blocksize t) p ≡ a → rank_in (positions_of blocksize t) q ≡ b → unwrap_or a 0 ≡ unwrap_or b 0 → p ≡ q
  ranks_differ p q None b hp hq ip iq same = absurd (rank_in-member (positions_of blocksize t) p (position_listed blocksize t p hp) ip)
  ranks_differ p q (Some k) None hp hq ip iq same = absurd (rank_in-member (positions_of blocksize t) q (position_listed blocksize t q hq) iq)
  ranks_differ p q (Some k) (Some j) hp hq ip iq same = rank_in-injective (positions_of blocksize t) p q k ip (iq ∙ ap (λ n. Some n) (sym same))

  -- the copy that is found on a disk has ids of its own
  first_ids_differ : HasIdsBelow blocksize (first_copy blocksize t) (length (positions_of blocksize t))
  first_ids_differ = record {
    below = λ p h. rank_below p (rank_in (positions_of blocksize t) p) h refl;
    differ = λ p q hp hq same. ranks_differ p q (rank_in (positions_of blocksize t) p) (rank_in (positions_of blocksize t) q) hp hq refl refl same;
  }

-- a mount gives each block an id of its own
pub start_has_ids : (v : Volume) (t : Tree) (serial moment : ℕ) → HasIds (start_of v t serial moment)
start_has_ids v t serial moment = record { working = first_ids_differ v.blocksize t; durable = first_ids_differ v.blocksize t; frozen = tt }

-- ---- an edit

module _ (s : Machine) (e : Edit) (ids : HasIdsBelow s.volume.blocksize s.working s.next_id) where
  stood : (p : Position) → HasPosition s.volume.blocksize e.tree p → rank_in (fresh_in s e) p ≡ None → HasPosition s.volume.blocksize s.working.tree p
  stood p h is = was_there s.volume.blocksize s.working.tree e (is_private s) p h is

  renewed_below : (p : Position) (o : Option ℕ) → HasPosition s.volume.blocksize e.tree p → rank_in (fresh_in s e) p ≡ o
      → id_by s.next_id o (s.working.ids p) < s.next_id + length (fresh_in s e)
  renewed_below p None h is = let below = ids.below p (stood p h is) in omega arith
  renewed_below p (Some k) h is = let below = rank_in-lt (fresh_in s e) p k is in omega arith

  renewed_differ : (p q : Position) (a b : Option ℕ) → HasPosition s.volume.blocksize e.tree p → HasPosition s.volume.blocksize e.tree q
      → rank_in (fresh_in s e) p ≡ a → rank_in (fresh_in s e) q ≡ b → id_by s.next_id a (s.working.ids p) ≡ id_by s.next_id b (s.working.ids q) → p ≡ q
  renewed_differ p q None None hp hq ip iq same = ids.differ p q (stood p hp ip) (stood q hq iq) same
  renewed_differ p q None (Some j) hp hq ip iq same = let below = ids.below p (stood p hp ip) in absurd (omega arith)
  renewed_differ p q (Some k) None hp hq ip iq same = let below = ids.below q (stood q hq iq) in absurd (omega arith)
  renewed_differ p q (Some k) (Some j) hp hq ip iq same = let one : j ≡ k = omega arith in rank_in-injective (fresh_in s e) p q k ip (iq ∙ ap (λ n. Some n) one)

  -- an edit gives the copy ids of its own
  pub edit_has_ids : HasIdsBelow s.volume.blocksize (with_edit e s).working (with_edit e s).next_id
  edit_has_ids = record {
    below = λ p h. renewed_below p (rank_in (fresh_in s e) p) h refl;
    differ = λ p q hp hq same. renewed_differ p q (rank_in (fresh_in s e) p) (rank_in (fresh_in s e) q) hp hq refl refl same;
  }

-- a greater next id does as well
more_ids : (blocksize : ℕ) (c : Copy) (n m : ℕ) → n ≤ m → HasIdsBelow blocksize c n → HasIdsBelow blocksize c m
more_ids blocksize c n m le ids = record { below = λ p h. let below = ids.below p h in omega arith; differ = ids.differ }

more_in_progress : (blocksize : ℕ) (o : Option Frozen) (n m : ℕ) → n ≤ m → HasFrozenIdsBelow blocksize o n → HasFrozenIdsBelow blocksize o m
more_in_progress blocksize None n m le ids = tt
more_in_progress blocksize (Some p) n m le ids = more_ids blocksize p.snapshot.copy n m le ids

after_edit_has_ids : (e : Edit) (s : Machine) → HasIds s → HasIds (after_edit e s)
after_edit_has_ids e s h =
    let more : s.next_id ≤ s.next_id + length (fresh_in s e) = omega arith in
    record {
      working = edit_has_ids s e h.working;
      durable = more_ids s.volume.blocksize s.durable.copy s.next_id (s.next_id + length (fresh_in s e)) more h.durable;
      frozen = more_in_progress s.volume.blocksize s.frozen s.next_id (s.next_id + length (fresh_in s e)) more h.frozen;
    }

-- an ending leaves them so
pub ending_has_ids : (e : Ending) (s : Machine) → HasIds s → HasIds (after_ending e s)
ending_has_ids Stays s h = h
ending_has_ids (Becomes e) s h = after_edit_has_ids e s h
ending_has_ids (GoesTo k d) s h = record { working = h.working; durable = h.durable; frozen = h.frozen }
ending_has_ids (Holds k b) s h = record { working = h.working; durable = h.durable; frozen = h.frozen }

-- ---- moves

last_step_has_ids : (last : Bool) (s : Machine) (p : Frozen) → HasIdsBelow s.volume.blocksize p.snapshot.copy s.next_id → HasIds s → HasIds (step_to last s p)
last_step_has_ids true s p f h = record { working = h.working; durable = f; frozen = tt }
last_step_has_ids false s p f h = record { working = h.working; durable = h.durable; frozen = f }

step_has_ids : (s : Machine) (o : Option Frozen) → HasFrozenIdsBelow s.volume.blocksize o s.next_id → HasIds s → HasIds (stepped s o)
step_has_ids s None f h = h
step_has_ids s (Some p) f h = last_step_has_ids (is_last_step p) s p f h

begun_has_ids : (moment : ℕ) (s : Machine) → HasIds s → HasIds (begun moment s)
begun_has_ids moment s h = record { working = h.working; durable = h.durable; frozen = h.working }

move_has_ids : (moment : ℕ) (s : Machine) (m : Move) → HasIds s → HasIds (after_move moment s m)
move_has_ids moment s Begin h = begun_has_ids moment s h
move_has_ids moment s Step h = step_has_ids s s.frozen h.frozen h

-- so do moves of snapshots
pub moves_have_ids : (moment : ℕ) (ms : List Move) (s : Machine) → HasIds s → HasIds (after_moves moment s ms)
moves_have_ids moment [] s h = h
moves_have_ids moment (m ∷ ms) s h = moves_have_ids moment ms (after_move moment s m) (move_has_ids moment s m h)

-- ---- turns

pub begin_has_ids : (time fails : Bool) (moment : ℕ) (s : Machine) → HasIds s → HasIds (begun_if time fails moment s)
begin_has_ids false fails moment s h = h
begin_has_ids true false moment s h = begun_has_ids moment s h
begin_has_ids true true moment s h = h

act_has_ids : (stop : Option ActFault) (moment : ℕ) (p : Plan) → HasIds p.from → HasIds (after_act stop moment p).machine
act_has_ids None moment p h = ending_has_ids p.ending (after_moves moment p.from p.moves) (moves_have_ids moment p.moves p.from h)
act_has_ids (Some stop) moment p h = moves_have_ids moment (moves_made (Some stop) p) p.from h

next_has_ids : (f : Faults) (s : Machine) (e : VolEvent) → HasIds s → HasIds (next_under f s e).machine
unfolding next_under
next_has_ids f s e h =
    let begun = timed_begin f.begin e.moment s in
    let a = act_result f s e in
    let started = begin_has_ids (is_time_to_begin s e.moment) f.begin e.moment s h in
    let from = plan_from HasIds begun e (λ m. record { working = m.working; durable = m.durable; frozen = m.frozen }) started in
    moves_have_ids e.moment (background_moves f.background a) a.machine (act_has_ids f.act e.moment (plan begun e) from)

-- and so does a turn
pub turn_has_ids : (s t : Machine) (e : VolEvent) (turn : Turn) → HasIds s → Next s e turn t → HasIds t
turn_has_ids s t e turn h n = subst (λ (r : Transition). HasIds r.machine) n.ends (next_has_ids n.faults s e h)
