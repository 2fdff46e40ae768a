-- Machines that differ in the names of ids alone count alike, take fresh blocks alike, and stay so through moves, edits and what else ends an act.
use Rattle.std.proofs.Common.{◌≡◌, ℕ, ◌+◌, ◌-◌, ◌<◌, ◌⊎◌, inl, inr, List, [], ◌∷◌, ◌++◌, length, refl, sym, ap, ◌∙◌, subst, arith}
use Rattle.std.specs.Prelude.{◌↔◌, Bool, true, false, not, ◌&&◌, ◌||◌, Option, Some, None, filter, flat_map, map, nat_le, unwrap_or}
use Rattle.qx_geom.specs.Lists.{is_in}
use Rattle.qx_geom.specs.Positions.{at_level}
use Rattle.qx_geom.specs.Touch.{is_fresh}
use Rattle.qx_geom.specs.Touch as node
use Rattle.qx_model.specs.declared.notices.Notice.TheVariants as notice
use Rattle.qx_model.specs.Tree.{Tree}
use Rattle.qx_model.specs.Owners.{Owner}
use Rattle.qx_model.specs.Edits.{Edit}
use Rattle.qx_model.specs.TreePositions.{HasPosition, Position, has_position, owners_of, positions_by, positions_of, shape_in}
use Rattle.qx_model.specs.TreeTouch.{fresh_positions, private_in, rank_in, written_in}
use Rattle.qx_model.specs.Machine.{Copy, Frozen, Machine, Session, Volume, changed_at, gone_to, holding, left_in, without_holds}
use Rattle.qx_model.specs.Space.{durable_ids, free_count, fresh_in, held_count, id_by, ids_of, ids_of_frozen, is_private, need_of, snapshot_ids, working_ids}
use Rattle.qx_model.specs.Snapshots.{Begin, Move, Step, after_move, after_moves, begun, is_last_step, step_to, stepped, steps_wanted, told_along, told_by_step, told_if, unsaved_count}
use Rattle.qx_model.specs.Plans.{Becomes, Ending, GoesTo, Holds, Stays, after_edit, after_ending}
use Rattle.qx_model.specs.Ids.{HasFrozenIdsBelow, HasIds, HasIdsBelow}
use Rattle.qx_model.specs.IdReadings.{HasFrozenId, IsReading, IsUsed}
use Rattle.qx_model.specs.NamedIds.{AreFrozenAlike, AreIdsOfOne, AreSameButIds, DifferInIds, HaveFrozenIds, HaveIds, AreBothAlike, ReadAlike}
use Rattle.qx_model.proofs.TreeNodes.{listed_position, was_there}
use Rattle.qx_model.proofs.MatchedIds.{Matched, matched_append, matched_count, matched_different, matched_in, matched_map, none}

-- ---- fresh positions

-- where two tests of privacy agree on the old positions, the same positions are fresh
fresh_alike : (blocksize : ℕ) (old : Tree) (e : Edit) (p q : Position → Bool) → ((x : Position) → HasPosition blocksize old x → p x ≡ q x) → fresh_positions blocksize old e p ≡ fresh_positions blocksize old e q
unfolding fresh_positions
fresh_alike blocksize old e p q same = λ i. flat_map (λ o. positions_by (λ k. filter (λ j. at o k j i) (at_level blocksize (shape_in blocksize e.tree o) k)) o (shape_in blocksize e.tree o)) (owners_of e.tree)
  where
    at : (o : Owner) (k j : ℕ)
        → is_fresh blocksize (shape_in blocksize old o) (shape_in blocksize e.tree o) (written_in o e.written) (private_in p o) k j
        ≡ is_fresh blocksize (shape_in blocksize old o) (shape_in blocksize e.tree o) (written_in o e.written) (private_in q o) k j
    at o k j = go (has_position blocksize old (record { owner = o; level = k; index = j })) refl
      where
        go : (h : Bool) → has_position blocksize old (record { owner = o; level = k; index = j }) ≡ h
            → (not h || (node.is_touched blocksize (shape_in blocksize old o) (shape_in blocksize e.tree o) (written_in o e.written) k j && not (private_in p o k j)))
            ≡ (not h || (node.is_touched blocksize (shape_in blocksize old o) (shape_in blocksize e.tree o) (written_in o e.written) k j && not (private_in q o k j)))
        go true is = λ i. node.is_touched blocksize (shape_in blocksize old o) (shape_in blocksize e.tree o) (written_in o e.written) k j && not (same (record { owner = o; level = k; index = j }) is i)
        go false is = refl

-- ---- counts

module _ (s t : Machine) (d : DifferInIds s t) where
  abbrev b : ℕ
  b = s.volume.blocksize

  -- the ids of two copies with one tree
  copy_matched : (first second : Copy) → second.tree ≡ first.tree → ((i j : ℕ) → HaveIds b first second i j → AreIdsOfOne s t i j) → Matched (AreIdsOfOne s t) (ids_of b first) (ids_of t.volume.blocksize second)
  copy_matched first second same sub =
      let all : positions_of t.volume.blocksize second.tree ≡ positions_of b first.tree = λ i. positions_of (d.same.volume i).blocksize (same i) in
      subst (λ ps. Matched (AreIdsOfOne s t) (ids_of b first) (map second.ids ps)) (sym all)
      (matched_map (AreIdsOfOne s t) first.ids second.ids (positions_of b first.tree) (λ p c. sub (first.ids p) (second.ids p) (p, listed_position b first.tree p c, refl, refl)))

  working_matched : Matched (AreIdsOfOne s t) (working_ids s) (working_ids t)
  working_matched = copy_matched s.working t.working d.same.working (λ i j h. inl h)

  durable_matched : Matched (AreIdsOfOne s t) (durable_ids s) (durable_ids t)
  durable_matched = let durable = d.same.durable in copy_matched s.durable.copy t.durable.copy durable.tree (λ i j h. inr (inl h))

  frozen_matched : (o q : Option Frozen) → AreBothAlike o q → ((i j : ℕ) → HaveFrozenIds b o q i j → AreIdsOfOne s t i j) → Matched (AreIdsOfOne s t) (ids_of_frozen b o) (ids_of_frozen t.volume.blocksize q)
  frozen_matched None None a sub = none
  frozen_matched None (Some q) a sub = absurd a
  frozen_matched (Some p) None a sub = absurd a
  frozen_matched (Some p) (Some q) a sub = let same = a.snapshot in copy_matched p.snapshot.copy q.snapshot.copy same.tree sub

  snapshots_matched : Matched (AreIdsOfOne s t) (snapshot_ids s) (snapshot_ids t)
  snapshots_matched = matched_append (AreIdsOfOne s t) (frozen_matched s.frozen t.frozen d.same.frozen (λ i j h. inr (inr h))) durable_matched

  private_same : (p : Position) → HasPosition b s.working.tree p → is_private t p ≡ is_private s p
  private_same p h = ap not (sym (matched_in (AreIdsOfOne s t) d.ids (s.working.ids p) (t.working.ids p) snapshots_matched (inl (p, h, refl, refl))))

  -- the same positions take fresh blocks
  pub fresh_same : (e : Edit) → fresh_in t e ≡ fresh_in s e
  fresh_same e = (λ i. fresh_positions (d.same.volume i).blocksize (d.same.working i) e (is_private t)) ∙ fresh_alike b s.working.tree e (is_private t) (is_private s) private_same

  pub need_same : (e : Edit) → need_of t e ≡ need_of s e
  need_same e = ap length (fresh_same e)

  held_same : held_count t ≡ held_count s
  held_same = sym (matched_different (AreIdsOfOne s t) d.ids (matched_append (AreIdsOfOne s t) working_matched snapshots_matched))

  -- as many blocks are free
  pub free_same : free_count t ≡ free_count s
  unfolding free_count
  free_same = λ i. unwrap_or (d.same.volume i).free_without_ids ((d.same.volume i).user - held_same i)

  unsaved_same : unsaved_count t ≡ unsaved_count s
  unsaved_same =
      sym
      (matched_count (AreIdsOfOne s t) (λ i. not (is_in (durable_ids s) i)) (λ i. not (is_in (durable_ids t) i))
      (λ i j r. ap not (matched_in (AreIdsOfOne s t) d.ids i j durable_matched r)) working_matched)

  -- and a snapshot takes as many steps
  pub wanted_same : steps_wanted t ≡ steps_wanted s
  unfolding steps_wanted
  wanted_same = λ i. unsaved_same i + (d.same.volume i).system_leaves + 3

-- ---- moves

begun_alike : (moment : ℕ) (s t : Machine) → DifferInIds s t → DifferInIds (begun moment s) (begun moment t)
begun_alike moment s t d =
    let durable = d.same.durable in
    record {
      same = record {
        volume = d.same.volume;
        working = d.same.working;
        durable = d.same.durable;
        frozen = record { snapshot = record { tree = d.same.working; serial = ap (λ n. n + 1) durable.serial }; due = wanted_same s t d };
        last_begin = refl;
        changed = refl;
        sessions = d.same.sessions;
      };
      ids = λ i j k l a c. d.ids i j k l (sub i j a) (sub k l c);
    }
  where
    sub : (i j : ℕ) → AreIdsOfOne (begun moment s) (begun moment t) i j → AreIdsOfOne s t i j
    sub i j (inl h) = inl h
    sub i j (inr (inl h)) = inr (inl h)
    sub i j (inr (inr h)) = inl h

last_alike : (p q : Frozen) → AreFrozenAlike p q → is_last_step q ≡ is_last_step p
last_alike p q a = ap (λ n. nat_le n 1) a.due

step_alike : (s t : Machine) (o u : Option Frozen) → s.frozen ≡ o → t.frozen ≡ u → AreBothAlike o u → DifferInIds s t → DifferInIds (stepped s o) (stepped t u)
step_alike s t None None so tu a d = d
step_alike s t None (Some q) so tu a d = absurd a
step_alike s t (Some p) None so tu a d = absurd a
step_alike s t (Some p) (Some q) so tu a d = subst (λ b. DifferInIds (step_to (is_last_step p) s p) (step_to b t q)) (sym (last_alike p q a)) (go (is_last_step p))
  where
    frozen : (i j : ℕ) → HaveIds s.volume.blocksize p.snapshot.copy q.snapshot.copy i j → AreIdsOfOne s t i j
    frozen i j h = inr (inr (subst (λ o. HaveFrozenIds s.volume.blocksize o t.frozen i j) (sym so) (subst (λ u. HaveFrozenIds s.volume.blocksize (Some p) u i j) (sym tu) h)))

    done : (i j : ℕ) → AreIdsOfOne (step_to true s p) (step_to true t q) i j → AreIdsOfOne s t i j
    done i j (inl h) = inl h
    done i j (inr (inl h)) = frozen i j h
    done i j (inr (inr h)) = absurd h

    working : (i j : ℕ) → AreIdsOfOne (step_to false s p) (step_to false t q) i j → AreIdsOfOne s t i j
    working i j (inl h) = inl h
    working i j (inr (inl h)) = inr (inl h)
    working i j (inr (inr h)) = frozen i j h

    go : (last : Bool) → DifferInIds (step_to last s p) (step_to last t q)
    go true = record {
      same = record {
        volume = d.same.volume;
        working = d.same.working;
        durable = a.snapshot;
        frozen = tt;
        last_begin = d.same.last_begin;
        changed = d.same.changed;
        sessions = d.same.sessions;
      };
      ids = λ i j k l x y. d.ids i j k l (done i j x) (done k l y);
    }
    go false = record {
      same = record {
        volume = d.same.volume;
        working = d.same.working;
        durable = d.same.durable;
        frozen = record { snapshot = a.snapshot; due = ap (λ n. n - 1) a.due };
        last_begin = d.same.last_begin;
        changed = d.same.changed;
        sessions = d.same.sessions;
      };
      ids = λ i j k l x y. d.ids i j k l (working i j x) (working k l y);
    }

move_alike : (moment : ℕ) (m : Move) (s t : Machine) → DifferInIds s t → DifferInIds (after_move moment s m) (after_move moment t m)
move_alike moment Begin s t d = begun_alike moment s t d
move_alike moment Step s t d = step_alike s t s.frozen t.frozen refl refl d.same.frozen d

-- the same moves leave them alike
pub moves_alike : (moment : ℕ) (ms : List Move) (s t : Machine) → DifferInIds s t → DifferInIds (after_moves moment s ms) (after_moves moment t ms)
moves_alike moment [] s t d = d
moves_alike moment (m ∷ ms) s t d = moves_alike moment ms (after_move moment s m) (after_move moment t m) (move_alike moment m s t d)

-- and tell the same
step_tells : (o u : Option Frozen) → AreBothAlike o u → told_by_step u ≡ told_by_step o
step_tells None None a = refl
step_tells None (Some q) a = absurd a
step_tells (Some p) None a = absurd a
step_tells (Some p) (Some q) a = go (is_last_step p) (is_last_step q) (last_alike p q a)
  where
    serial : q.snapshot.serial ≡ p.snapshot.serial
    serial = let same = a.snapshot in same.serial

    go : (x y : Bool) → y ≡ x → told_if y q ≡ told_if x p
    go true true e = λ i. notice.Snapshot (serial i) ∷ []
    go false false e = refl
    go true false e = absurd (cc)
    go false true e = absurd (cc)

pub told_alike : (moment : ℕ) (ms : List Move) (s t : Machine) → DifferInIds s t → told_along moment t ms ≡ told_along moment s ms
told_alike moment [] s t d = refl
told_alike moment (Begin ∷ ms) s t d = told_alike moment ms (begun moment s) (begun moment t) (begun_alike moment s t d)
told_alike moment (Step ∷ ms) s t d =
    λ i. step_tells s.frozen t.frozen d.same.frozen i ++ told_alike moment ms (stepped s s.frozen) (stepped t t.frozen) (step_alike s t s.frozen t.frozen refl refl d.same.frozen d) i

-- ---- endings

module _ (e : Edit) (s t : Machine) (d : DifferInIds s t) (first : HasIds s) (second : HasIds t) where
  -- the ids of one block after an edit: those before it, or new ones of one rank
  abbrev IsOneOf : ℕ → ℕ → Type 0
  IsOneOf i j = (AreIdsOfOne s t i j × (i < s.next_id) × (j < t.next_id)) ⊎ ((k : ℕ) × (i ≡ s.next_id + k) × (j ≡ t.next_id + k))

  copy_below : (c u : Copy) → u.tree ≡ c.tree → HasIdsBelow s.volume.blocksize c s.next_id → HasIdsBelow t.volume.blocksize u t.next_id → (i j : ℕ) → HaveIds s.volume.blocksize c u i j → (i < s.next_id) × (j < t.next_id)
  copy_below c u same below under i j (p, h, is, js) =
      let there : HasPosition t.volume.blocksize u.tree p = subst (λ (v : Volume). HasPosition v.blocksize u.tree p) (sym d.same.volume) (subst (λ x. HasPosition s.volume.blocksize x p) (sym same) h) in
      (subst (λ n. n < s.next_id) is (below.below p h), subst (λ n. n < t.next_id) js (under.below p there))

  frozen_below : (o u : Option Frozen) → AreBothAlike o u → HasFrozenIdsBelow s.volume.blocksize o s.next_id → HasFrozenIdsBelow t.volume.blocksize u t.next_id
      → (i j : ℕ) → HaveFrozenIds s.volume.blocksize o u i j → (i < s.next_id) × (j < t.next_id)
  frozen_below None u a below under i j h = absurd h
  frozen_below (Some p) None a below under i j h = absurd h
  frozen_below (Some p) (Some q) a below under i j h = let same = a.snapshot in copy_below p.snapshot.copy q.snapshot.copy same.tree below under i j h

  -- ids that there are lie below the next ones
  copies_below : (i j : ℕ) → AreIdsOfOne s t i j → (i < s.next_id) × (j < t.next_id)
  copies_below i j (inl h) = copy_below s.working t.working d.same.working first.working second.working i j h
  copies_below i j (inr (inl h)) = let durable = d.same.durable in copy_below s.durable.copy t.durable.copy durable.tree first.durable second.durable i j h
  copies_below i j (inr (inr h)) = frozen_below s.frozen t.frozen d.same.frozen first.frozen second.frozen i j h

  one_of : (i j : ℕ) → AreIdsOfOne (after_edit e s) (after_edit e t) i j → IsOneOf i j
  one_of i j (inr u) = let below = copies_below i j (inr u) in inl (inr u, below.0, below.1)
  one_of i j (inl (p, h, is, js)) = go (rank_in (fresh_in s e) p) refl is (ap (λ f. id_by t.next_id (rank_in f p) (t.working.ids p)) (sym (fresh_same s t d e)) ∙ js)
    where
      go : (o : Option ℕ) → rank_in (fresh_in s e) p ≡ o → id_by s.next_id o (s.working.ids p) ≡ i → id_by t.next_id o (t.working.ids p) ≡ j → IsOneOf i j
      go None unranked is js =
          let old : AreIdsOfOne s t i j = inl (p, was_there s.volume.blocksize s.working.tree e (is_private s) p h unranked, is, js) in
          let below = copies_below i j old in
          inl (old, below.0, below.1)
      go (Some k) rank is js = inr (k, sym is, sym js)

  one_to_one : (i j k l : ℕ) → IsOneOf i j → IsOneOf k l → (i ≡ k) ↔ (j ≡ l)
  one_to_one i j k l (inl (a, i_low, j_low)) (inl (c, k_low, l_low)) = d.ids i j k l a c
  one_to_one i j k l (inl (a, i_low, j_low)) (inr (n, k_is, l_is)) = ((λ same. absurd (omega arith)), (λ same. absurd (omega arith)))
  one_to_one i j k l (inr (m, i_is, j_is)) (inl (c, k_low, l_low)) = ((λ same. absurd (omega arith)), (λ same. absurd (omega arith)))
  one_to_one i j k l (inr (m, i_is, j_is)) (inr (n, k_is, l_is)) = ((λ same. omega arith), (λ same. omega arith))

  edit_alike : DifferInIds (after_edit e s) (after_edit e t)
  edit_alike = record {
    same = record {
      volume = d.same.volume;
      working = refl;
      durable = d.same.durable;
      frozen = d.same.frozen;
      last_begin = d.same.last_begin;
      changed = refl;
      sessions = ap (map (left_in e.tree)) d.same.sessions;
    };
    ids = λ i j k l a c. one_to_one i j k l (one_of i j a) (one_of k l c);
  }

-- with other sessions, the same in both
sessions_alike : (change : List Session → List Session) (s t : Machine) → DifferInIds s t → DifferInIds (record s { sessions = change s.sessions }) (record t { sessions = change t.sessions })
sessions_alike change s t d = record {
  same = record {
    volume = d.same.volume;
    working = d.same.working;
    durable = d.same.durable;
    frozen = d.same.frozen;
    last_begin = d.same.last_begin;
    changed = d.same.changed;
    sessions = ap change d.same.sessions;
  };
  ids = d.ids;
}

pub dropped_alike : (s t : Machine) → DifferInIds s t → DifferInIds (without_holds s) (without_holds t)
dropped_alike s t d = sessions_alike (map (holding false)) s t d

-- the same ending leaves them alike
pub ending_alike : (en : Ending) (s t : Machine) → DifferInIds s t → HasIds s → HasIds t → DifferInIds (after_ending en s) (after_ending en t)
ending_alike Stays s t d first second = d
ending_alike (Becomes e) s t d first second = edit_alike e s t d first second
ending_alike (GoesTo k n) s t d first second = sessions_alike (changed_at k (gone_to n)) s t d
ending_alike (Holds k b) s t d first second = sessions_alike (changed_at k (holding b)) s t d

-- ---- the other way round, and read as blocks

module _ (s t : Machine) (same : AreSameButIds s t) where
  copy_there : (c u : Copy) → u.tree ≡ c.tree → (p : Position) → HasPosition s.volume.blocksize c.tree p → HasPosition t.volume.blocksize u.tree p
  copy_there c u tree p h = subst (λ (v : Volume). HasPosition v.blocksize u.tree p) (sym same.volume) (subst (λ x. HasPosition s.volume.blocksize x p) (sym tree) h)

  copy_back : (c u : Copy) → u.tree ≡ c.tree → (p : Position) → HasPosition t.volume.blocksize u.tree p → HasPosition s.volume.blocksize c.tree p
  copy_back c u tree p h = subst (λ x. HasPosition s.volume.blocksize x p) tree (subst (λ (v : Volume). HasPosition v.blocksize u.tree p) same.volume h)

  have_back : (c u : Copy) → u.tree ≡ c.tree → (i j : ℕ) → HaveIds t.volume.blocksize u c j i → HaveIds s.volume.blocksize c u i j
  have_back c u tree i j (p, h, js, is) = (p, copy_back c u tree p h, is, js)

  in_progress_back : (o q : Option Frozen) → AreBothAlike o q → (i j : ℕ) → HaveFrozenIds t.volume.blocksize q o j i → HaveFrozenIds s.volume.blocksize o q i j
  in_progress_back None None a i j h = absurd h
  in_progress_back None (Some q) a i j h = absurd h
  in_progress_back (Some p) None a i j h = absurd h
  in_progress_back (Some p) (Some q) a i j h = have_back p.snapshot.copy q.snapshot.copy a.snapshot.tree i j h

  one_back : (i j : ℕ) → AreIdsOfOne t s j i → AreIdsOfOne s t i j
  one_back i j (inl h) = inl (have_back s.working t.working same.working i j h)
  one_back i j (inr (inl h)) = inr (inl (have_back s.durable.copy t.durable.copy same.durable.tree i j h))
  one_back i j (inr (inr h)) = inr (inr (in_progress_back s.frozen t.frozen same.frozen i j h))

  -- the ids of one block are in use
  used_here : (i j : ℕ) → AreIdsOfOne s t i j → IsUsed s i
  used_here i j (inl (p, h, is, js)) = inl (p, h, is)
  used_here i j (inr (inl (p, h, is, js))) = inr (inl (p, h, is))
  used_here i j (inr (inr h)) = inr (inr (go s.frozen t.frozen h))
    where
      go : (o q : Option Frozen) → HaveFrozenIds s.volume.blocksize o q i j → HasFrozenId s.volume.blocksize o i
      go None q h = absurd h
      go (Some p) None h = absurd h
      go (Some p) (Some q) (x, h, is, js) = (x, h, is)

alike_back : (o q : Option Frozen) → AreBothAlike o q → AreBothAlike q o
alike_back None None a = tt
alike_back None (Some q) a = absurd a
alike_back (Some p) None a = absurd a
alike_back (Some p) (Some q) a = record { snapshot = record { tree = sym a.snapshot.tree; serial = sym a.snapshot.serial }; due = sym a.due }

same_back : (s t : Machine) → AreSameButIds s t → AreSameButIds t s
same_back s t same = record {
  volume = sym same.volume;
  working = sym same.working;
  durable = record { tree = sym same.durable.tree; serial = sym same.durable.serial };
  frozen = alike_back s.frozen t.frozen same.frozen;
  last_begin = sym same.last_begin;
  changed = sym same.changed;
  sessions = sym same.sessions;
}

-- the second differs from the first as well
pub differ_back : (s t : Machine) → DifferInIds s t → DifferInIds t s
differ_back s t d = record {
  same = same_back s t d.same;
  ids = λ j i l k a c. let both = d.ids i j k l (one_back s t d.same i j a) (one_back s t d.same k l c) in (both.1, both.0);
}

-- machines that are read as the same blocks differ in the names of ids alone
pub read_differ : (s t : Machine) (first second : ℕ → ℕ) → AreSameButIds s t → IsReading s first → IsReading t second → ReadAlike s t first second → DifferInIds s t
read_differ s t first second same one other alike = record {
  same = same;
  ids = λ i j k l a c. (
    (λ e. other j l (used_there i j a) (used_there k l c) (sym (alike i j a) ∙ ap first e ∙ alike k l c)),
    (λ e. one i k (used_here s t same i j a) (used_here s t same k l c) (alike i j a ∙ ap second e ∙ sym (alike k l c))),
  );
}
  where
    used_there : (i j : ℕ) → AreIdsOfOne s t i j → IsUsed t j
    used_there i j a = used_here t s (same_back s t same) j i (one_back t s (same_back s t same) j i a)
