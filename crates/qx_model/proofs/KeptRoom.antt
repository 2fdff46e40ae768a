-- No more blocks are held than there are: from a mount on, and through every turn.
use Rattle.std.proofs.Common.{◌≡◌, ℕ, ◌+◌, ◌-◌, ◌≤◌, inl, inr, List, [], ◌∷◌, ◌++◌, length, refl, sym, ap, ◌∙◌, subst, arith}
use Rattle.std.specs.Prelude.{Bool, true, false, ◌&&◌, ◌||◌, Option, Some, None, Result, Ok, Err, nat_le, unwrap_or, ◌==◌, if◌then◌else◌}
use Rattle.std.specs.List.{range_with_len}
use Rattle.std.proofs.lemmas.Bool.{eqb-true, leb-true}
use Rattle.std.proofs.lemmas.List.{length-map}
use Rattle.std.proofs.lemmas.List.FromFn.{length-range_with_len}
use Rattle.qx_geom.proofs.ImagesAndFilters.{Contains-in, in_Contains}
use Rattle.qx_geom.proofs.Members.{in_append_cases, in_left, in_right}
use Rattle.qx_geom.specs.Lists.{is_in}
use Rattle.qx_geom.specs.Room.{fits}
use Rattle.qx_model.specs.declared.operation.Op.{Op}
use Rattle.qx_model.specs.declared.refusal.Refusal.{Refusal}
use Rattle.qx_model.specs.declared.refusal.Refusal.TheVariants as refusal
use Rattle.qx_model.specs.declared.turn.VolEvent.{VolEvent}
use Rattle.qx_model.specs.declared.turn.Turn.{Turn}
use Rattle.qx_model.specs.Requests.{changes}
use Rattle.qx_model.specs.Tree.{Tree}
use Rattle.qx_model.specs.Edits.{Edit}
use Rattle.qx_model.specs.Effects.{Answers, Edits, Effect}
use Rattle.qx_model.specs.Operate.{operate}
use Rattle.qx_model.specs.TreePositions.{HasPosition, Position, positions_of}
use Rattle.qx_model.specs.TreeTouch.{rank_in}
use Rattle.qx_model.specs.Machine.{Frozen, Machine, Volume, first_copy, setting_of, start_of}
use Rattle.qx_model.specs.Space.{different_count, free_count, fresh_in, held_count, id_by, ids_of, ids_of_frozen, is_private, need_of, snapshot_ids, working_ids}
use Rattle.qx_model.specs.Snapshots.{Begin, Move, Step, after_move, after_moves, begun, is_last_step, is_time_to_begin, step_to, stepped}
use Rattle.qx_model.specs.Decisions.{Fits, Lacks, Refuses, decided, decision, is_serial_end}
use Rattle.qx_model.specs.Plans.{Becomes, Ending, GoesTo, Holds, Stays, after_edit, after_ending, plan}
use Rattle.qx_model.specs.Next.{ActFault, Faults, Next, Transition, act_result, after_act, background_moves, begun_if, moves_made, next_under, timed_begin}
use Rattle.qx_model.specs.Ids.{HasRoom}
use Rattle.qx_model.proofs.DifferentNumbers.{different_append, different_bounded, fewer_different}
use Rattle.qx_model.proofs.ListMembers.{Contains-map, Contains-range, map-Contains}
use Rattle.qx_model.proofs.SamePositions.{rank_in-lt}
use Rattle.qx_model.proofs.TreeNodes.{listed_position, position_listed, was_there}
use Rattle.qx_model.proofs.PlanStarts.{plan_from}
use Rattle.qx_model.proofs.PlannedEdits.{plan_edits}

-- ---- what is free

-- what is free and what is held are all
pub free_and_held : (s : Machine) → HasRoom s → free_count s + held_count s ≡ s.volume.user
unfolding free_count
free_and_held s h =
    let free : unwrap_or s.volume.free_without_ids (s.volume.user - held_count s) ≡ s.volume.user - held_count s = ap (λ o. unwrap_or o (s.volume.user - held_count s)) h.with_ids in
    omega (arith, free, h.room)

-- a machine that holds no other blocks, of the same volume
fewer_held : (s t : Machine) → t.volume ≡ s.volume → ((i : ℕ) → is_in (working_ids t ++ snapshot_ids t) i ≡ true → is_in (working_ids s ++ snapshot_ids s) i ≡ true) → HasRoom s → HasRoom t
fewer_held s t same all h = record {
  with_ids = ap (λ (v : Volume). v.free_without_ids) same ∙ h.with_ids;
  room =
      let users : t.volume.user ≡ s.volume.user = ap (λ (v : Volume). v.user) same in
      omega (arith, fewer_different (working_ids t ++ snapshot_ids t) (working_ids s ++ snapshot_ids s) all, h.room, users);
}

-- ---- a mount

-- there is room where a tree is mounted that has room
pub start_has_room : (v : Volume) (t : Tree) (serial moment : ℕ) → v.free_without_ids ≡ None → length (positions_of v.blocksize t) ≤ v.user → HasRoom (start_of v t serial moment)
start_has_room v t serial moment none le = record {
  with_ids = none;
  room =
      let ids = ids_of v.blocksize (first_copy v.blocksize t) in
      let twice : different_count (ids ++ ids) ≤ different_count ids = fewer_different (ids ++ ids) ids (λ x m. elim (in_append_cases ids ids x m) [ inl a ↦ a | inr b ↦ b ]) in
      let many : length ids ≡ length (positions_of v.blocksize t) = length-map (positions_of v.blocksize t) (first_copy v.blocksize t).ids in
      omega (arith, twice, different_bounded ids, many, le);
}

-- ---- an edit

module _ (s : Machine) (e : Edit) where
  old_ids : List ℕ
  old_ids = working_ids s ++ snapshot_ids s

  new_ids : List ℕ
  new_ids = range_with_len s.next_id (need_of s e)

  -- the id of a position is an old one, or new
  id_there : (p : Position) (o : Option ℕ) → HasPosition s.volume.blocksize e.tree p → rank_in (fresh_in s e) p ≡ o → is_in (old_ids ++ new_ids) (id_by s.next_id o (s.working.ids p)) ≡ true
  unfolding old_ids new_ids
  id_there p None h is =
      let old = was_there s.volume.blocksize s.working.tree e (is_private s) p h is in
      let used = in_Contains (working_ids s) (s.working.ids p) (Contains-map s.working.ids (positions_of s.volume.blocksize s.working.tree) p (position_listed s.volume.blocksize s.working.tree p old)) in
      in_left (working_ids s ++ snapshot_ids s) (range_with_len s.next_id (need_of s e)) (s.working.ids p) (in_left (working_ids s) (snapshot_ids s) (s.working.ids p) used)
  id_there p (Some k) h is =
      let below = rank_in-lt (fresh_in s e) p k is in
      in_right (working_ids s ++ snapshot_ids s) (range_with_len s.next_id (need_of s e)) (s.next_id + k)
      (in_Contains (range_with_len s.next_id (need_of s e)) (s.next_id + k) (Contains-range s.next_id (need_of s e) (s.next_id + k) (omega arith) (omega arith)))

  ids_there : (i : ℕ) → is_in (working_ids (after_edit e s) ++ snapshot_ids (after_edit e s)) i ≡ true → is_in (old_ids ++ new_ids) i ≡ true
  unfolding old_ids new_ids
  ids_there i m = elim (in_append_cases (working_ids (after_edit e s)) (snapshot_ids s) i m) [
    | inl a ↦
        let c = map-Contains (after_edit e s).working.ids (positions_of s.volume.blocksize e.tree) i (Contains-in (working_ids (after_edit e s)) i a) in
        subst (λ n. is_in ((working_ids s ++ snapshot_ids s) ++ range_with_len s.next_id (need_of s e)) n ≡ true) c.2
        (id_there c.0 (rank_in (fresh_in s e) c.0) (listed_position s.volume.blocksize e.tree c.0 c.1) refl)
    | inr b ↦ in_left (working_ids s ++ snapshot_ids s) (range_with_len s.next_id (need_of s e)) i (in_right (working_ids s) (snapshot_ids s) i b)
  ]

  -- an edit that fits leaves room
  edit_has_room : need_of s e ≤ free_count s → HasRoom s → HasRoom (after_edit e s)
  unfolding old_ids new_ids
  edit_has_room le h = record {
    with_ids = h.with_ids;
    room = omega (
      arith,
      fewer_different (working_ids (after_edit e s) ++ snapshot_ids (after_edit e s)) ((working_ids s ++ snapshot_ids s) ++ range_with_len s.next_id (need_of s e)) ids_there,
      different_append (working_ids s ++ snapshot_ids s) (range_with_len s.next_id (need_of s e)),
      length-range_with_len s.next_id (need_of s e),
      free_and_held s h,
      h.room,
      le,
    );
  }

-- what fits is free
fits_free : (is_removing : Bool) (need free : ℕ) → fits is_removing need free ≡ true → need ≤ free
fits_free is_removing need free h = go (need == 0) refl is_removing h
  where
    go : (b : Bool) → (need == 0) ≡ b → (r : Bool) → (b || (if r then nat_le need free else nat_le (need + 16) free)) ≡ true → need ≤ free
    go true e r h = let zero : need ≡ 0 = eqb-true need 0 e in omega arith
    go false e true h = leb-true need free h
    go false e false h = let le = leb-true (need + 16) free h in omega arith

-- ---- moves

begun_has_room : (moment : ℕ) (s : Machine) → HasRoom s → HasRoom (begun moment s)
begun_has_room moment s h = fewer_held s (begun moment s) refl all h
  where
    durable : (i : ℕ) → is_in (ids_of s.volume.blocksize s.durable.copy) i ≡ true → is_in (working_ids s ++ snapshot_ids s) i ≡ true
    durable i d = in_right (working_ids s) (snapshot_ids s) i (in_right (ids_of_frozen s.volume.blocksize s.frozen) (ids_of s.volume.blocksize s.durable.copy) i d)

    all : (i : ℕ) → is_in (working_ids s ++ (working_ids s ++ ids_of s.volume.blocksize s.durable.copy)) i ≡ true → is_in (working_ids s ++ snapshot_ids s) i ≡ true
    all i m = elim (in_append_cases (working_ids s) (working_ids s ++ ids_of s.volume.blocksize s.durable.copy) i m) [
      | inl a ↦ in_left (working_ids s) (snapshot_ids s) i a
      | inr b ↦ elim (in_append_cases (working_ids s) (ids_of s.volume.blocksize s.durable.copy) i b) [ inl a ↦ in_left (working_ids s) (snapshot_ids s) i a | inr d ↦ durable i d ]
    ]

step_has_room : (s : Machine) (o : Option Frozen) → s.frozen ≡ o → HasRoom s → HasRoom (stepped s o)
step_has_room s None is h = h
step_has_room s (Some p) is h = go (is_last_step p)
  where
    frozen : (i : ℕ) → is_in (ids_of s.volume.blocksize p.snapshot.copy) i ≡ true → is_in (working_ids s ++ snapshot_ids s) i ≡ true
    frozen i m =
        in_right (working_ids s) (snapshot_ids s) i (in_left (ids_of_frozen s.volume.blocksize s.frozen) (ids_of s.volume.blocksize s.durable.copy) i
        (subst (λ o. is_in (ids_of_frozen s.volume.blocksize o) i ≡ true) (sym is) m))

    durable : (i : ℕ) → is_in (ids_of s.volume.blocksize s.durable.copy) i ≡ true → is_in (working_ids s ++ snapshot_ids s) i ≡ true
    durable i d = in_right (working_ids s) (snapshot_ids s) i (in_right (ids_of_frozen s.volume.blocksize s.frozen) (ids_of s.volume.blocksize s.durable.copy) i d)

    go : (last : Bool) → HasRoom (step_to last s p)
    go true = fewer_held s (step_to true s p) refl
        (λ i m. elim (in_append_cases (working_ids s) (ids_of s.volume.blocksize p.snapshot.copy) i m) [ inl a ↦ in_left (working_ids s) (snapshot_ids s) i a | inr b ↦ frozen i b ]) h
    go false = fewer_held s (step_to false s p) refl
        (λ i m. elim (in_append_cases (working_ids s) (ids_of s.volume.blocksize p.snapshot.copy ++ ids_of s.volume.blocksize s.durable.copy) i m) [
          | inl a ↦ in_left (working_ids s) (snapshot_ids s) i a
          | inr b ↦ elim (in_append_cases (ids_of s.volume.blocksize p.snapshot.copy) (ids_of s.volume.blocksize s.durable.copy) i b) [ inl c ↦ frozen i c | inr d ↦ durable i d ]
        ]) h

move_has_room : (moment : ℕ) (s : Machine) (m : Move) → HasRoom s → HasRoom (after_move moment s m)
move_has_room moment s Begin h = begun_has_room moment s h
move_has_room moment s Step h = step_has_room s s.frozen refl h

moves_have_room : (moment : ℕ) (ms : List Move) (s : Machine) → HasRoom s → HasRoom (after_moves moment s ms)
moves_have_room moment [] s h = h
moves_have_room moment (m ∷ ms) s h = moves_have_room moment ms (after_move moment s m) (move_has_room moment s m h)

-- ---- decisions

decided_fair : (s : Machine) (r : Result Effect Refusal) (is_removing : Bool) (e : Edit) → decided s r ≡ Fits (Edits is_removing e) → need_of s e ≤ free_count s
decided_fair s (Err x) is_removing e h = absurd (cc)
decided_fair s (Ok (Answers x)) is_removing e h = let same : Answers x ≡ Edits is_removing e = cc in absurd (cc)
decided_fair s (Ok (Edits b f)) is_removing e h = go (fits b (need_of s f) (free_count s)) refl h
  where
    go : (c : Bool) → fits b (need_of s f) (free_count s) ≡ c → (if c then Fits (Edits b f) else Lacks (need_of s f) (free_count s)) ≡ Fits (Edits is_removing e) → need_of s e ≤ free_count s
    go true is h = let same : Edits b f ≡ Edits is_removing e = cc in let one : f ≡ e = cc in subst (λ x. need_of s x ≤ free_count s) one (fits_free b (need_of s f) (free_count s) is)
    go false is h = absurd (cc)

decision_fair : (s : Machine) (k moment : ℕ) (o : Op) (is_removing : Bool) (e : Edit) → decision s k moment o ≡ Fits (Edits is_removing e) → need_of s e ≤ free_count s
unfolding decision
decision_fair s k moment o is_removing e h = go (changes o && is_serial_end s) h
  where
    go : (b : Bool) → (if b then Refuses refusal.SerialEnd else decided s (operate (setting_of s k moment) s.working.tree o)) ≡ Fits (Edits is_removing e) → need_of s e ≤ free_count s
    go true h = absurd (cc)
    go false h = decided_fair s (operate (setting_of s k moment) s.working.tree o) is_removing e h

-- ---- turns

begin_has_room : (time fails : Bool) (moment : ℕ) (s : Machine) → HasRoom s → HasRoom (begun_if time fails moment s)
begin_has_room false fails moment s h = h
begin_has_room true false moment s h = begun_has_room moment s h
begin_has_room true true moment s h = h

-- an edit that ends an act was decided on where there is room for it
ends_with_room : (s : Machine) (e : VolEvent) (en : Ending) → (plan s e).ending ≡ en → HasRoom (after_moves e.moment (plan s e).from (plan s e).moves)
    → HasRoom (after_ending en (after_moves e.moment (plan s e).from (plan s e).moves))
ends_with_room s e Stays is h = h
ends_with_room s e (GoesTo k d) is h = record { with_ids = h.with_ids; room = h.room }
ends_with_room s e (Holds k b) is h = record { with_ids = h.with_ids; room = h.room }
ends_with_room s e (Becomes x) is h =
    let m = after_moves e.moment (plan s e).from (plan s e).moves in
    let by = plan_edits s e x is in
    edit_has_room m x (decision_fair m e.session e.moment by.operation by.is_removing x by.decided) h

act_has_room : (stop : Option ActFault) (s : Machine) (e : VolEvent) → HasRoom (plan s e).from → HasRoom (after_act stop e.moment (plan s e)).machine
act_has_room None s e h = ends_with_room s e (plan s e).ending refl (moves_have_room e.moment (plan s e).moves (plan s e).from h)
act_has_room (Some stop) s e h = moves_have_room e.moment (moves_made (Some stop) (plan s e)) (plan s e).from h

next_has_room : (f : Faults) (s : Machine) (e : VolEvent) → HasRoom s → HasRoom (next_under f s e).machine
unfolding next_under
next_has_room f s e h =
    let begun = timed_begin f.begin e.moment s in
    let a = act_result f s e in
    let started = begin_has_room (is_time_to_begin s e.moment) f.begin e.moment s h in
    moves_have_room e.moment (background_moves f.background a) a.machine
    (act_has_room f.act begun e (plan_from HasRoom begun e (λ m. record { with_ids = m.with_ids; room = m.room }) started))

-- and after a turn where there was before
pub turn_has_room : (s t : Machine) (e : VolEvent) (turn : Turn) → HasRoom s → Next s e turn t → HasRoom t
turn_has_room s t e turn h n = subst (λ (r : Transition). HasRoom r.machine) n.ends (next_has_room n.faults s e h)
