-- From turn to turn a run stays safe: at each moment a cut finds what is allowed.
use Rattle.std.proofs.Common.{◌≡◌, inl, inr, ℕ, suc, ◌<◌, ◌≤◌, List, [], ◌∷◌, ◌++◌, length, take, drop, refl, sym, ap, ◌∙◌, subst, arith, append_assoc, append-nil, length-append}
use Rattle.std.specs.Prelude.{Contains, flat_map}
use Rattle.std.specs.List.{concat}
use Rattle.std.proofs.lemmas.List.Elements.{Contains-append_cases, Contains-append_left, Contains-append_right}
use Rattle.qx_outside.specs.Moments.{HasOthers, HoldsAlong, HoldsThroughout, grown}
use Rattle.qx_outside.specs.Trail.{Deed, History, after, gave, others_of, output, told_moment, took}
use Rattle.qx_outside.proofs.Throughout.{throughout_last, throughout_map, throughout_more, throughout_then}
use Rattle.qx_model.specs.declared.turn.Turn.{Turn}
use Rattle.qx_model.specs.declared.turn.VolEvent.{VolEvent}
use Rattle.qx_model.specs.Machine.{Machine}
use Rattle.qx_model.specs.Findable.{FoundTree, found_in}
use Rattle.qx_shell.specs.MadeTurns.{MadeTurn, last_machine, machines_of, texts_of}
use Rattle.qx_shell.specs.Allowed.{allowed_trees, neighbour_trees, begun_count, moments_of, replied_count}
use Rattle.qx_shell.specs.Cuts.{CutsFind, CutsFindAllowed}
use Rattle.qx_shell.specs.Served.{IsMounting, IsSafeYet, IsServed, IsUnsaid}
use Rattle.qx_shell.specs.Turns.{IsTurnOf}
use Rattle.qx_shell.specs.Unmounted.{first_history}
use Rattle.qx_shell.proofs.AllowedTrees.{length-made, taken_to}
use Rattle.qx_shell.proofs.OtherMoments.{no_others, none_before, same_moments, same_output, with_none}
use Rattle.qx_shell.proofs.QuietConsole.{finds_after}
use Rattle.qx_shell.proofs.Replied.{texts_and_more, whole_texts}

-- ---- what is allowed on the way

-- the texts of so many turns
texts_at : (made later : List MadeTurn) → take (length made) (texts_of (made ++ later)) ≡ texts_of made
texts_at [] later = refl
texts_at (m ∷ made) later = ap (λ xs. m.text ∷ xs) (texts_at made later)

-- the machine after them
machine_at : (s : Machine) (made later : List MadeTurn) → drop (length made) (take (suc (length made)) (machines_of s (made ++ later))) ≡ last_machine s made ∷ []
machine_at s [] later = refl
machine_at s (m ∷ made) later = machine_at m.machine made later

-- and with the next
machines_at : (s : Machine) (made : List MadeTurn) (m : MadeTurn) (later : List MadeTurn) → drop (length made) (take (suc (suc (length made))) (machines_of s (made ++ m ∷ later))) ≡ last_machine s made ∷ m.machine ∷ []
machines_at s [] m later = refl
machines_at s (n ∷ made) m later = machines_at n.machine made m later

begun_by : (h : History) (n : ℕ) → length (moments_of h) ≡ suc n → begun_count h ≡ n
begun_by h n clock = omega (arith, clock)

-- where each begun turn is acknowledged, the trees of the last machine
allowed_here : (start : Machine) (made later : List MadeTurn) (more : List ℕ) (h : History) → length (moments_of h) ≡ suc (length made) → output h ≡ concat (texts_of made) ++ more
    → allowed_trees (texts_of (made ++ later)) (machines_of start (made ++ later)) h ≡ found_in (last_machine start made)
allowed_here start made later more h clock put =
    let all = made ++ later in
    let n = length made in
    ap (λ k. neighbour_trees (replied_count (take k (texts_of all)) (output h)) k (machines_of start all)) (begun_by h n clock)
    ∙ ap (λ xs. neighbour_trees (replied_count xs (output h)) n (machines_of start all)) (texts_at made later)
    ∙ ap (λ out. neighbour_trees (replied_count (texts_of made) out) n (machines_of start all)) put
    ∙ ap (λ k. neighbour_trees k n (machines_of start all)) (texts_and_more (texts_of made) more ∙ length-made (λ (m : MadeTurn). m.text) made)
    ∙ ap (λ ms. flat_map found_in (take 2 ms)) (machine_at start made later)
    ∙ append-nil (found_in (last_machine start made))

-- where the last one's text isn't whole, those of the next machine as well
allowed_next : (start : Machine) (made : List MadeTurn) (m : MadeTurn) (later : List MadeTurn) (part : List ℕ) (h : History) → length (moments_of h) ≡ suc (suc (length made)) → output h ≡ concat (texts_of made) ++ part → length part < length m.text
    → allowed_trees (texts_of (made ++ m ∷ later)) (machines_of start (made ++ m ∷ later)) h ≡ found_in (last_machine start made) ++ found_in m.machine
allowed_next start made m later part h clock put short =
    let all = made ++ m ∷ later in
    let n = length made in
    ap (λ k. neighbour_trees (replied_count (take k (texts_of all)) (output h)) k (machines_of start all)) (begun_by h (suc n) clock)
    ∙ ap (λ xs. neighbour_trees (replied_count xs (output h)) (suc n) (machines_of start all)) (taken_to (λ (x : MadeTurn). x.text) made m later)
    ∙ ap (λ out. neighbour_trees (replied_count (texts_of made ++ m.text ∷ []) out) (suc n) (machines_of start all)) put
    ∙ ap (λ k. neighbour_trees k (suc n) (machines_of start all)) (whole_texts (texts_of made) m.text part [] short ∙ length-made (λ (x : MadeTurn). x.text) made)
    ∙ ap (λ ms. flat_map found_in (take 2 ms)) (machines_at start made m later)
    ∙ ap (λ xs. found_in (last_machine start made) ++ xs) (append-nil (found_in m.machine))

-- before the first turn, those of the mount
allowed_first : (start : Machine) (later : List MadeTurn) (h : History) → length (moments_of h) ≤ 1 → allowed_trees (texts_of later) (machines_of start later) h ≡ found_in start
allowed_first start later h clock =
    let none : begun_count h ≡ 0 = omega (arith, clock) in
    ap (λ k. neighbour_trees (replied_count (take k (texts_of later)) (output h)) k (machines_of start later)) none ∙ append-nil (found_in start)

-- ---- more trees may be found

wider : (places : List ℕ) (some all : List FoundTree) (h : History) → ((f : FoundTree) → Contains some f → Contains all f) → CutsFind places some h → CutsFind places all h
wider places some all h among f = record {
  finds = λ img image chance. (let x = f.finds img image chance in record {
    tree = x.tree;
    superblock = x.superblock;
    active = x.active;
    sound = x.sound;
    is_one = among (record { tree = x.tree; serial = x.superblock.serial }) x.is_one;
  });
}

-- ---- one step

-- the same turns, seen with one more
split_one : (made : List MadeTurn) (m : MadeTurn) (later : List MadeTurn) → (made ++ m ∷ []) ++ later ≡ made ++ m ∷ later
split_one made m later = append_assoc made (m ∷ []) later

-- a deed after which what is allowed is found
safe_more : (places : List ℕ) (start : Machine) (made : List MadeTurn) (h : History) (deed : Deed) → IsSafeYet places start made h
    → ((later : List MadeTurn) → CutsFindAllowed places (texts_of (made ++ later)) (machines_of start (made ++ later)) (after deed h)) → IsSafeYet places start made (after deed h)
safe_more places start made h deed safe finds later =
    throughout_more (CutsFindAllowed places (texts_of (made ++ later)) (machines_of start (made ++ later))) (first_history h) h deed (safe later) (finds later)

-- ---- mount and input

pub mount_served : (places : List ℕ) (start : Machine) (h : History) → HoldsThroughout (IsMounting places start) (first_history h) h → length (moments_of h) ≡ 1 → IsServed places start [] h
mount_served places start h mounting clock =
    let last = throughout_last (IsMounting places start) (first_history h) h mounting in
    record {
      clock = clock;
      put = last.unput;
      rests = last.rests;
      safe = λ later. throughout_map (IsMounting places start) (CutsFindAllowed places (texts_of later) (machines_of start later))
          (λ x m. subst (λ found. CutsFind places found x) (sym (allowed_first start later x m.clock)) m.rests) (first_history h) h mounting;
    }

-- between turns input may be taken
pub take_served : (places : List ℕ) (start : Machine) (made : List MadeTurn) (h : History) (bytes : List ℕ) → IsServed places start made h → IsServed places start made (after (took bytes) h)
take_served places start made h bytes s =
    let clock : length (moments_of h ++ []) ≡ suc (length made) = ap length (append-nil (moments_of h)) ∙ s.clock in
    let put : output h ++ [] ≡ concat (texts_of made) = append-nil (output h) ∙ s.put in
    let rests = finds_after places (found_in (last_machine start made)) h (took bytes) tt s.rests in
    record {
      clock = clock;
      put = put;
      rests = rests;
      safe = safe_more places start made h (took bytes) s.safe (λ later. subst (λ found. CutsFind places found (after (took bytes) h))
          (sym (allowed_here start made later [] (after (took bytes) h) clock (put ∙ sym (append-nil (concat (texts_of made)))))) rests);
    }

-- ---- a turn

-- the machine after one more turn
last_is : (s : Machine) (made : List MadeTurn) (m : MadeTurn) → last_machine s (made ++ m ∷ []) ≡ m.machine
last_is s [] m = refl
last_is s (n ∷ made) m = last_is n.machine made m

-- and the texts
texts_with : (made : List MadeTurn) (m : MadeTurn) → concat (texts_of (made ++ m ∷ [])) ≡ concat (texts_of made) ++ m.text
texts_with [] m = append-nil m.text
texts_with (n ∷ made) m = ap (λ x. n.text ++ x) (texts_with made m) ∙ sym (append_assoc n.text (concat (texts_of made)) m.text)

silent_texts : (made : List MadeTurn) (m : MadeTurn) → m.text ≡ [] → concat (texts_of (made ++ m ∷ [])) ≡ concat (texts_of made)
silent_texts made m none = texts_with made m ∙ ap (λ x. concat (texts_of made) ++ x) none ∙ append-nil (concat (texts_of made))

-- what is found of two machines is allowed while the turn from one to the other is under way
both_allowed : (start : Machine) (made : List MadeTurn) (m : MadeTurn) (later : List MadeTurn) (h : History) → length (moments_of h) ≡ suc (suc (length made)) → output h ≡ concat (texts_of made)
    → (m.text ≡ [] → found_in m.machine ≡ found_in (last_machine start made)) → (f : FoundTree) → Contains (found_in (last_machine start made) ++ found_in m.machine) f
    → Contains (allowed_trees (texts_of (made ++ m ∷ later)) (machines_of start (made ++ m ∷ later)) h) f
both_allowed start made m later h clock put silent f c = go m.text refl
  where
    s : Machine
    s = last_machine start made

    put_none : output h ≡ concat (texts_of made) ++ []
    put_none = put ∙ sym (append-nil (concat (texts_of made)))

    go : (text : List ℕ) → m.text ≡ text → Contains (allowed_trees (texts_of (made ++ m ∷ later)) (machines_of start (made ++ m ∷ later)) h) f
    go [] is =
        let same : found_in m.machine ≡ found_in s = silent is in
        let more : output h ≡ concat (texts_of (made ++ m ∷ [])) ++ [] = put_none ∙ ap (λ x. x ++ []) (sym (silent_texts made m is)) in
        let clock' : length (moments_of h) ≡ suc (length (made ++ m ∷ [])) = (let long = length-append made (m ∷ []) in omega (arith, clock)) in
        let here : allowed_trees (texts_of ((made ++ m ∷ []) ++ later)) (machines_of start ((made ++ m ∷ []) ++ later)) h ≡ found_in (last_machine start (made ++ m ∷ [])) = allowed_here start (made ++ m ∷ []) later [] h clock' more in
        let there : allowed_trees (texts_of (made ++ m ∷ later)) (machines_of start (made ++ m ∷ later)) h ≡ found_in m.machine =
        ap (λ (all : List MadeTurn). allowed_trees (texts_of all) (machines_of start all) h) (sym (split_one made m later)) ∙ here ∙ ap found_in (last_is start made m) in
        subst (λ found. Contains found f) (sym there) (elim (Contains-append_cases (found_in s) (found_in m.machine) f c) [ inl old ↦ subst (λ found. Contains found f) (sym same) old | inr new ↦ new ])
    go (x ∷ xs) is =
        let short : 0 < length m.text = subst (λ t. 0 < length t) (sym is) (omega arith) in
        subst (λ found. Contains found f) (sym (allowed_next start made m later [] h clock put_none short)) c

-- what is found throughout deeds that are neither of the console nor of the clock, as another fact that depends on these alone
module _ (P Q : History → Type 0) (old : History) (f : (x : History) → moments_of x ≡ moments_of old → output x ≡ output old → P x → Q x) where
  along_device : (since : List Deed) → others_of since ≡ [] → HoldsAlong P old since → HoldsAlong Q old since
  along_device [] none along = f old refl refl along
  along_device (deed ∷ since) none along =
      let same = with_none (deed ∷ since) old.deeds none in
      (f (grown old (deed ∷ since)) (same_moments old (grown old (deed ∷ since)) same) (same_output old (grown old (deed ∷ since)) same) along.0, along_device since (none_before deed since none) along.1)

-- a turn: its moment is told, and the device is left with the trees of the next machine
pub turn_unput : (places : List ℕ) (start : Machine) (made : List MadeTurn) (m : MadeTurn) (moment : ℕ) (h new : History) (e : VolEvent) (told : Turn) → IsServed places start made h
    → IsTurnOf places (after (told_moment moment) h) new (last_machine start made) e told m.machine → HasOthers (others_of (after (told_moment moment) h).deeds) new
    → (m.text ≡ [] → found_in m.machine ≡ found_in (last_machine start made)) → IsUnsaid places start made m new
turn_unput places start made m moment h new e told s is others silent =
    subst (IsUnsaid places start made m) (sym grew) (record { clock = clock_then; put = put_then; rests = subst (CutsFind places (found_in m.machine)) grew is.rests; safe = safe })
  where
    first : History
    first = after (told_moment moment) h

    since : List Deed
    since = is.moments.since

    then : History
    then = grown first since

    grew : new ≡ grown first since
    grew = is.moments.grew

    none : others_of since ≡ []
    none = no_others since first.deeds (sym (ap (λ (x : History). others_of x.deeds) grew) ∙ others)

    same : others_of then.deeds ≡ others_of first.deeds
    same = with_none since first.deeds none

    clock : length (moments_of first) ≡ suc (suc (length made))
    clock = let long = length-append (moments_of h) (moment ∷ []) in omega (arith, s.clock)

    put : output first ≡ concat (texts_of made)
    put = append-nil (output h) ∙ s.put

    clock_then : length (moments_of then) ≡ suc (suc (length made))
    clock_then = ap length (same_moments first then same) ∙ clock

    put_then : output then ≡ concat (texts_of made)
    put_then = same_output first then same ∙ put

    two : List FoundTree
    two = found_in (last_machine start made) ++ found_in m.machine

    -- the trees of both machines are allowed
    allows : (later : List MadeTurn) (x : History) → moments_of x ≡ moments_of first → output x ≡ output first → CutsFind places two x → CutsFindAllowed places (texts_of (made ++ m ∷ later)) (machines_of start (made ++ m ∷ later)) x
    allows later x told_same put_same finds =
        wider places two (allowed_trees (texts_of (made ++ m ∷ later)) (machines_of start (made ++ m ∷ later)) x) x (both_allowed start made m later x (ap length told_same ∙ clock) (put_same ∙ put) silent) finds

    at_first : CutsFind places two first
    at_first = wider places (found_in (last_machine start made)) two first (λ f c. Contains-append_left (found_in (last_machine start made)) (found_in m.machine) f c) (finds_after places (found_in (last_machine start made)) h (told_moment moment) tt s.rests)

    throughout : (later : List MadeTurn) → HoldsThroughout (CutsFindAllowed places (texts_of (made ++ m ∷ later)) (machines_of start (made ++ m ∷ later))) (first_history h) then
    throughout later =
        let P = CutsFindAllowed places (texts_of (made ++ m ∷ later)) (machines_of start (made ++ m ∷ later)) in
        throughout_then P (first_history h) first then
        (throughout_more P (first_history h) h (told_moment moment) (s.safe (m ∷ later)) (allows later first refl refl at_first))
        (record { since = since; grew = refl; along = along_device (CutsFind places two) P first (λ x told_same put_same finds. allows later x told_same put_same finds) since none is.moments.along })

    safe : IsSafeYet places start (made ++ m ∷ []) then
    safe later = subst (λ (all : List MadeTurn). HoldsThroughout (CutsFindAllowed places (texts_of all) (machines_of start all)) (first_history h) then) (sym (split_one made m later)) (throughout later)

-- ---- its text

served_with : (places : List ℕ) (start : Machine) (made : List MadeTurn) (m : MadeTurn) (h : History) → length (moments_of h) ≡ suc (suc (length made)) → output h ≡ concat (texts_of made) ++ m.text → CutsFind places (found_in m.machine) h
    → IsSafeYet places start (made ++ m ∷ []) h → IsServed places start (made ++ m ∷ []) h
served_with places start made m h clock put rests safe = record {
  clock = clock ∙ (let long = length-append made (m ∷ []) in omega arith);
  put = put ∙ sym (texts_with made m);
  rests = subst (λ (x : Machine). CutsFind places (found_in x) h) (sym (last_is start made m)) rests;
  safe = safe;
}

-- it is put whole
pub put_served : (places : List ℕ) (start : Machine) (made : List MadeTurn) (m : MadeTurn) (h : History) → IsUnsaid places start made m h → IsServed places start (made ++ m ∷ []) (after (gave m.text) h)
put_served places start made m h u =
    let new = after (gave m.text) h in
    let clock : length (moments_of new) ≡ suc (suc (length made)) = ap length (append-nil (moments_of h)) ∙ u.clock in
    let put : output new ≡ concat (texts_of made) ++ m.text = ap (λ x. x ++ m.text) u.put in
    let rests = finds_after places (found_in m.machine) h (gave m.text) tt u.rests in
    let clock' : length (moments_of new) ≡ suc (length (made ++ m ∷ [])) = (let long = length-append made (m ∷ []) in omega (arith, clock)) in
    let put' : output new ≡ concat (texts_of (made ++ m ∷ [])) ++ [] = put ∙ sym (texts_with made m) ∙ sym (append-nil (concat (texts_of (made ++ m ∷ [])))) in
    served_with places start made m new clock put rests (safe_more places start (made ++ m ∷ []) h (gave m.text) u.safe (λ later.
    subst (λ found. CutsFind places found new) (sym (allowed_here start (made ++ m ∷ []) later [] new clock' put' ∙ ap found_in (last_is start made m))) rests))

-- or it is empty, and nothing is put
pub silent_served : (places : List ℕ) (start : Machine) (made : List MadeTurn) (m : MadeTurn) (h : History) → IsUnsaid places start made m h → m.text ≡ [] → IsServed places start (made ++ m ∷ []) h
silent_served places start made m h u none = served_with places start made m h u.clock (u.put ∙ sym (append-nil (concat (texts_of made))) ∙ ap (λ x. concat (texts_of made) ++ x) (sym none)) u.rests u.safe

-- or some of it is put, where the console fails
pub part_safe : (places : List ℕ) (start : Machine) (made : List MadeTurn) (m : MadeTurn) (h : History) (part : List ℕ) → IsUnsaid places start made m h → length part < length m.text → IsSafeYet places start (made ++ m ∷ []) (after (gave part) h)
part_safe places start made m h part u short = safe_more places start (made ++ m ∷ []) h (gave part) u.safe finds
  where
    new : History
    new = after (gave part) h

    clock : length (moments_of new) ≡ suc (suc (length made))
    clock = ap length (append-nil (moments_of h)) ∙ u.clock

    put : output new ≡ concat (texts_of made) ++ part
    put = ap (λ x. x ++ part) u.put

    rests : CutsFind places (found_in (last_machine start made) ++ found_in m.machine) new
    rests = wider places (found_in m.machine) (found_in (last_machine start made) ++ found_in m.machine) new (λ f c. Contains-append_right (found_in (last_machine start made)) (found_in m.machine) f c) (finds_after places (found_in m.machine) h (gave part) tt u.rests)

    finds : (later : List MadeTurn) → CutsFindAllowed places (texts_of ((made ++ m ∷ []) ++ later)) (machines_of start ((made ++ m ∷ []) ++ later)) new
    finds later =
        subst (λ (all : List MadeTurn). CutsFindAllowed places (texts_of all) (machines_of start all) new) (sym (split_one made m later))
        (subst (λ found. CutsFind places found new) (sym (allowed_next start made m later part new clock put short)) rests)

-- ---- behind the texts

-- whatever else is put then
pub more_safe : (places : List ℕ) (start : Machine) (made : List MadeTurn) (h : History) (bytes : List ℕ) → IsServed places start made h → IsSafeYet places start made (after (gave bytes) h)
more_safe places start made h bytes s =
    let new = after (gave bytes) h in
    let clock : length (moments_of new) ≡ suc (length made) = ap length (append-nil (moments_of h)) ∙ s.clock in
    let put : output new ≡ concat (texts_of made) ++ bytes = ap (λ x. x ++ bytes) s.put in
    safe_more places start made h (gave bytes) s.safe (λ later. subst (λ found. CutsFind places found new) (sym (allowed_here start made later bytes new clock put)) (finds_after places (found_in (last_machine start made)) h (gave bytes) tt s.rests))

-- with no later turns a run that is safe yet is safe
pub safe_whole : (places : List ℕ) (start : Machine) (made : List MadeTurn) (h : History) → IsSafeYet places start made h → HoldsThroughout (CutsFindAllowed places (texts_of made) (machines_of start made)) (first_history h) h
safe_whole places start made h safe = subst (λ (all : List MadeTurn). HoldsThroughout (CutsFindAllowed places (texts_of all) (machines_of start all)) (first_history h) h) (append-nil made) (safe [])
