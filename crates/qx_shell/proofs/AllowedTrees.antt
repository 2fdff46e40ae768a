-- Which trees are allowed: those of one machine or of two neighbours, and of an acknowledged turn with nothing in progress one tree alone.
use Rattle.std.proofs.Common.{◌≡◌, inl, inr, ℕ, zero, suc, ◌≤◌, List, [], ◌∷◌, ◌++◌, length, map, take, drop, refl, sym, ap, ◌∙◌, arith, append-nil, append_assoc, length-take, length-append}
use Rattle.std.specs.Prelude.{None, flat_map}
use Rattle.std.specs.List.{concat}
use Rattle.qx_outside.specs.Trail.{History, output}
use Rattle.qx_model.specs.Machine.{Machine}
use Rattle.qx_model.specs.Findable.{FoundTree, found_in, found_frozen, found_of}
use Rattle.qx_shell.specs.MadeTurns.{MadeTurn, machines_of, texts_of}
use Rattle.qx_shell.specs.Allowed.{AreOfNeighbours, allowed_trees, neighbour_trees, begun_count, replied_count}
use Rattle.qx_shell.proofs.Replied.{all_texts, replied_within}

-- ---- one machine or two neighbours

one_allows : (s : Machine) (later : List Machine) → AreOfNeighbours (s ∷ later) (found_in s ++ [])
one_allows s later = record { place = 0; machine = s; stands = refl; trees = inl (append-nil (found_in s)) }

two_allow : (s t : Machine) (later : List Machine) → AreOfNeighbours (s ∷ t ∷ later) (found_in s ++ (found_in t ++ []))
two_allow s t later = record { place = 0; machine = s; stands = refl; trees = inr (t, refl, ap (λ x. found_in s ++ x) (append-nil (found_in t))) }

further : (s : Machine) (later : List Machine) (found : List FoundTree) → AreOfNeighbours later found → AreOfNeighbours (s ∷ later) found
further s later found a = record { place = suc a.place; machine = a.machine; stands = a.stands; trees = a.trees }

-- where no more turns are acknowledged than were begun
pub neighbours_of : (replied begun : ℕ) (s : Machine) (later : List Machine) → replied ≤ begun → replied ≤ length later → AreOfNeighbours (s ∷ later) (neighbour_trees replied begun (s ∷ later))
neighbours_of zero zero s later h g = one_allows s later
neighbours_of zero (suc begun) s [] h g = one_allows s []
neighbours_of zero (suc begun) s (t ∷ later) h g = two_allow s t later
neighbours_of (suc replied) zero s later h g = absurd (omega arith)
neighbours_of (suc replied) (suc begun) s [] h g = absurd (omega arith)
neighbours_of (suc replied) (suc begun) s (t ∷ later) h g = further s (t ∷ later) (neighbour_trees replied begun (t ∷ later)) (neighbours_of replied begun t later (omega arith) (omega arith))

pub length-made : {A : Type 0} (f : MadeTurn → A) (made : List MadeTurn) → length (map f made) ≡ length made
length-made f [] = refl
length-made f (m ∷ made) = ap suc (length-made f made)

-- what is allowed at a moment of a run
pub allowed_neighbours : (h : History) (start : Machine) (made : List MadeTurn) → AreOfNeighbours (machines_of start made) (allowed_trees (texts_of made) (machines_of start made) h)
allowed_neighbours h start made =
    let begun = begun_count h in
    let texts = take begun (texts_of made) in
    let within = replied_within texts (output h) in
    let least = length-take begun (texts_of made) in
    let many = length-made (λ (m : MadeTurn). m.text) made in
    let machines = length-made (λ (m : MadeTurn). m.machine) made in
    neighbours_of (replied_count texts (output h)) begun start (map (λ (m : MadeTurn). m.machine) made) (omega arith) (omega arith)

-- ---- one tree alone

-- of those up to one and it, so many are taken
pub taken_to : {A : Type 0} (f : MadeTurn → A) (before : List MadeTurn) (m : MadeTurn) (later : List MadeTurn) → take (suc (length before)) (map f (before ++ m ∷ later)) ≡ map f before ++ f m ∷ []
taken_to f [] m later = refl
taken_to f (b ∷ before) m later = ap (λ xs. f b ∷ xs) (taken_to f before m later)

-- and of the machines those from it on
dropped_to : (s : Machine) (before : List MadeTurn) (m : MadeTurn) (later : List MadeTurn)
    → take 2 (drop (suc (length before)) (take (suc (suc (length before))) (s ∷ map (λ (x : MadeTurn). x.machine) (before ++ m ∷ later)))) ≡ m.machine ∷ []
dropped_to s [] m later = refl
dropped_to s (b ∷ before) m later = dropped_to b.machine before m later

pub joined_texts : (before : List MadeTurn) (m : MadeTurn) → concat (map (λ (x : MadeTurn). x.text) before ++ m.text ∷ []) ≡ concat (map (λ (x : MadeTurn). x.text) before) ++ m.text
joined_texts [] m = append-nil m.text
joined_texts (b ∷ before) m = ap (λ x. b.text ++ x) (joined_texts before m) ∙ sym (append_assoc b.text (concat (map (λ (x : MadeTurn). x.text) before)) m.text)

-- the last begun turn is acknowledged, and nothing is in progress after it
pub one_tree : (h : History) (start : Machine) (before : List MadeTurn) (m : MadeTurn) (later : List MadeTurn) → begun_count h ≡ suc (length before) → output h ≡ concat (texts_of before) ++ m.text → m.machine.frozen ≡ None
    → allowed_trees (texts_of (before ++ m ∷ later)) (machines_of start (before ++ m ∷ later)) h ≡ found_of m.machine.durable ∷ []
one_tree h start before m later begun put none =
    let all = before ++ m ∷ later in
    let texts = texts_of before ++ m.text ∷ [] in
    let many : replied_count texts (output h) ≡ suc (length before) =
    ap (replied_count texts) (put ∙ sym (joined_texts before m)) ∙ all_texts texts ∙ (let both = length-append (texts_of before) (m.text ∷ []) in let same = length-made (λ (x : MadeTurn). x.text) before in omega arith) in
    ap (λ n. neighbour_trees (replied_count (take n (texts_of all)) (output h)) n (machines_of start all)) begun
    ∙ ap (λ xs. neighbour_trees (replied_count xs (output h)) (suc (length before)) (machines_of start all)) (taken_to (λ (x : MadeTurn). x.text) before m later)
    ∙ ap (λ n. neighbour_trees n (suc (length before)) (machines_of start all)) many
    ∙ ap (flat_map found_in) (dropped_to start before m later)
    ∙ ap (λ o. (found_of m.machine.durable ∷ found_frozen o) ++ []) none
