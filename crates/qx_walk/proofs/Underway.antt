-- The walk on its way through the list of inodes: what was taken, what is still to be taken, and that all that is left gives what is left of the tests.
use Rattle.std.proofs.Common.{◌≡◌, ℕ, zero, suc, ◌+◌, ◌<◌, ◌≤◌, ◌⊎◌, inl, inr, List, [], ◌∷◌, ◌++◌, length, refl, sym, ◌∙◌, ap, subst, arith, append_assoc, append-nil}
use Rattle.std.specs.Prelude.{true, ◌||◌, Some, None, is_some, map, flat_map}
use Rattle.std.proofs.lemmas.Bool.{leb-true, or_cases, or_left, or_right}
use Rattle.std.proofs.lemmas.Grind.{flat_map-append}
use Rattle.std.proofs.Math.Bool.{or-false}
use Rattle.qx_geom.proofs.Members.{in_append_cases, in_cases, in_head, in_left, in_right, in_tail}
use Rattle.qx_geom.specs.Lists.{is_in}
use Rattle.qx_geom.proofs.Truths.{same_truth}
use Rattle.qx_nodes.specs.BlockMap.{BlockMap}
use Rattle.qx_records.specs.InodeRecord.{kind_of}
use Rattle.qx_view.specs.declared.findings.Finding.{Finding}
use Rattle.qx_view.proofs.DirectoryTests.{IsThere, directory_kind, named_passes}
use Rattle.qx_view.proofs.TestOrder.{first_failing-append, or_else}
use Rattle.qx_view.proofs.WalkEnds.{AllInRange, after_cases, firsts, firsts-append, inodes, named_listed, new_among, new_counted, unlisted, unlisted_start}
use Rattle.qx_view.specs.Images.{Roots, inode_places}
use Rattle.qx_view.specs.Usage.{met_blocks}
use Rattle.qx_pointers.proofs.PassedTests.{gone-append}
use Rattle.qx_walk.specs.Inodes.{tests_above}
use Rattle.qx_view.specs.Walk.{Met, Taken, Test, Tested, finding_of, first_failing, gone_through, inode_mode, inode_tests, is_directory_inode, listed_after, met_of, named_inodes, new_ones, taken_from, taken_of, tests_of, walked_inodes}

-- the tests that come before the inodes, and those of the inodes that were taken so far
abbrev pub tests_so_far : BlockMap → Roots → List Taken → List Test
tests_so_far m r before = tests_above m r ++ flat_map (inode_tests m r) before

-- ---- lists

-- the inodes of lists end to end
pub inodes_append : (ts us : List Taken) → inodes (ts ++ us) ≡ inodes ts ++ inodes us
inodes_append [] us = refl
inodes_append (t ∷ ts) us = ap (λ l. t.inode ∷ l) (inodes_append ts us)

-- the inodes that were taken are those of the walk
pub inodes_walked : (ts : List Taken) → inodes ts ≡ map (λ (t : Taken). t.inode) ts
inodes_walked [] = refl
inodes_walked (t ∷ ts) = ap (λ l. t.inode ∷ l) (inodes_walked ts)

-- ---- what was met

-- what was met after some tests was met in them or before
pub gone_members : (met : List ℕ) (es : List Test) (b : ℕ) → is_in (gone_through met es) b ≡ true → (is_in (met_of es) b ≡ true) ⊎ (is_in met b ≡ true)
gone_members met [] b h = inr h
gone_members met (Tested code inode block p ∷ es) b h = gone_members met es b h
gone_members met (Met inode block ∷ es) b h =
    elim (gone_members (block ∷ met) es b h) [
      | inl here ↦ inl (in_tail block b (met_of es) here)
      | inr before ↦ elim (in_cases block b met before) [ inl is ↦ inl (subst (λ z. is_in (block ∷ met_of es) z ≡ true) is (in_head block (met_of es))) | inr old ↦ inr old ]
    ]

-- and so it stays
pub members_gone : (met : List ℕ) (es : List Test) (b : ℕ) → (is_in (met_of es) b ≡ true) ⊎ (is_in met b ≡ true) → is_in (gone_through met es) b ≡ true
members_gone met [] b (inl h) = absurd (cc)
members_gone met [] b (inr h) = h
members_gone met (Tested code inode block p ∷ es) b h = members_gone met es b h
members_gone met (Met inode block ∷ es) b (inl h) =
    elim (in_cases block b (met_of es) h) [
      | inl is ↦ members_gone (block ∷ met) es b (inr (subst (λ z. is_in (block ∷ met) z ≡ true) is (in_head block met)))
      | inr there ↦ members_gone (block ∷ met) es b (inl there)
    ]
members_gone met (Met inode block ∷ es) b (inr h) = members_gone (block ∷ met) es b (inr (in_tail block b met h))

-- what was met in the end is what the tests meet
pub met_in_all : (es : List Test) (b : ℕ) → is_in (gone_through [] es) b ≡ is_in (met_of es) b
met_in_all es b = same_truth _ _
    (λ h. elim (gone_members [] es b h) [ inl here ↦ here | inr none ↦ absurd (cc) ])
    (λ h. members_gone [] es b (inl h))

-- ---- on the way

-- these were taken, this is the list of what is to be taken, and this was met so far; no test failed
pub record IsUnderway (m : BlockMap) (r : Roots) (before : List Taken) (queue : List (ℕ × ℕ)) (listed met : List ℕ) : Type 0 where
  pub fuel : ℕ
  pub taken : taken_of m r ≡ before ++ taken_from m r fuel queue listed
  pub room : length queue + unlisted (inode_places r) listed ≤ fuel
  pub none : first_failing [] (tests_so_far m r before) ≡ None
  pub met_is : met ≡ gone_through [] (tests_so_far m r before)
  pub members : (n : ℕ) → is_in listed n ≡ (is_in (inodes before) n || is_in (firsts queue) n)
  pub kinds : (n : ℕ) → is_in (firsts queue) n ≡ true → is_some (kind_of (inode_mode m r n)) ≡ true

-- all tests, in two parts
tests_in_parts : (m : BlockMap) (r : Roots) (before rest : List Taken) → taken_of m r ≡ before ++ rest → tests_of m r ≡ tests_so_far m r before ++ flat_map (inode_tests m r) rest
tests_in_parts m r before rest is =
    ap (λ ts. tests_above m r ++ flat_map (inode_tests m r) ts) is
    ∙ ap (λ l. tests_above m r ++ l) (flat_map-append (inode_tests m r) before rest)
    ∙ sym (append_assoc (tests_above m r) (flat_map (inode_tests m r) before) (flat_map (inode_tests m r) rest))

-- a directory has a kind
kind_there : (m : BlockMap) (r : Roots) (n : ℕ) → is_directory_inode m r n ≡ true → is_some (kind_of (inode_mode m r n)) ≡ true
kind_there m r n d = ap (λ o. is_some o) (directory_kind (kind_of (inode_mode m r n)) d)

-- it begins with inode 1, once the tests above have passed
pub starts : (m : BlockMap) (r : Roots) → first_failing [] (tests_above m r) ≡ None → is_directory_inode m r 1 ≡ true → IsUnderway m r [] ((1, 1) ∷ []) (1 ∷ []) (gone_through [] (tests_above m r))
starts m r none top = record {
  fuel = inode_places r + 1;
  taken = refl;
  room = omega (arith, unlisted_start (inode_places r) (1 ∷ []));
  none = subst (λ l. first_failing [] l ≡ None) (sym (append-nil (tests_above m r))) none;
  met_is = ap (gone_through []) (sym (append-nil (tests_above m r)));
  members = λ n. refl;
  kinds = λ n h. elim (in_cases 1 n [] h) [ inl is ↦ subst (λ z. is_some (kind_of (inode_mode m r z)) ≡ true) is (kind_there m r 1 top) | inr there ↦ absurd (cc) ];
}

-- ---- one more

module _ (m : BlockMap) (r : Roots) (before : List Taken) (e : ℕ × ℕ) (rest : List (ℕ × ℕ)) (listed met : List ℕ) (w : IsUnderway m r before (e ∷ rest) listed met) where
  -- what is taken next
  abbrev pub next_taken : Taken
  next_taken = record { inode = e.0; parent = e.1; listed = listed }

  -- there is fuel for it
  some_fuel : (k : ℕ) × (w.fuel ≡ suc k)
  some_fuel = go w.fuel refl (omega (arith, w.room))
    where
      go : (f : ℕ) → w.fuel ≡ f → 0 < f → (k : ℕ) × (w.fuel ≡ suc k)
      go zero is pos = absurd (omega arith)
      go (suc k) is pos = (k, is)

  -- what is listed then, and what is to be taken
  abbrev queue_then : List (ℕ × ℕ)
  queue_then = rest ++ map (λ n. (n, e.0)) (new_ones (named_inodes m r e.0) listed)

  abbrev listed_then : List ℕ
  listed_then = listed_after (named_inodes m r e.0) listed

  taken_then : taken_of m r ≡ before ++ (next_taken ∷ taken_from m r some_fuel.0 queue_then listed_then)
  taken_then = subst (λ f. taken_of m r ≡ before ++ taken_from m r f (e ∷ rest) listed) some_fuel.1 w.taken

  -- the tests of what is taken next decide
  tests_then : tests_of m r ≡ tests_so_far m r before ++ (inode_tests m r next_taken ++ flat_map (inode_tests m r) (taken_from m r some_fuel.0 queue_then listed_then))
  tests_then = tests_in_parts m r before (next_taken ∷ taken_from m r some_fuel.0 queue_then listed_then) taken_then

  finding_then : finding_of m r ≡ or_else (first_failing met (inode_tests m r next_taken)) (first_failing (gone_through met (inode_tests m r next_taken)) (flat_map (inode_tests m r) (taken_from m r some_fuel.0 queue_then listed_then)))
  finding_then =
      let later : List Test = flat_map (inode_tests m r) (taken_from m r some_fuel.0 queue_then listed_then) in
      ap (first_failing []) tests_then
      ∙ first_failing-append [] (tests_so_far m r before) (inode_tests m r next_taken ++ later)
      ∙ ap (λ o. or_else o (first_failing (gone_through [] (tests_so_far m r before)) (inode_tests m r next_taken ++ later))) w.none
      ∙ ap (λ l. first_failing l (inode_tests m r next_taken ++ later)) (sym w.met_is)
      ∙ first_failing-append met (inode_tests m r next_taken) later

  -- where they fail, that is the finding
  pub fails_there : (f : Finding) → first_failing met (inode_tests m r next_taken) ≡ Some f → finding_of m r ≡ Some f
  fails_there f is = finding_then ∙ ap (λ o. or_else o (first_failing (gone_through met (inode_tests m r next_taken)) (flat_map (inode_tests m r) (taken_from m r some_fuel.0 queue_then listed_then)))) is

  module _ (passed : first_failing met (inode_tests m r next_taken) ≡ None) where
    -- what it names is there
    named_there : (n : ℕ) → is_in (named_inodes m r e.0) n ≡ true → IsThere m r n
    named_there n h = named_passes m r e.0 next_taken n (record { met = met; none = passed }) h

    in_range : AllInRange (inode_places r) (named_inodes m r e.0)
    in_range n h = let is : IsThere m r n = named_there n h in (is.positive, leb-true n (inode_places r) is.there)

    -- the number of pairs
    pairs_counted : (q : List (ℕ × ℕ)) (ns : List ℕ) → length (q ++ map (λ n. (n, e.0)) ns) ≡ length q + length ns
    pairs_counted [] [] = refl
    pairs_counted [] (n ∷ ns) = omega (arith, pairs_counted [] ns)
    pairs_counted (x ∷ q) ns = omega (arith, pairs_counted q ns)

    so_far_then : tests_so_far m r (before ++ next_taken ∷ []) ≡ tests_so_far m r before ++ inode_tests m r next_taken
    so_far_then =
        ap (λ l. tests_above m r ++ l) (flat_map-append (inode_tests m r) before (next_taken ∷ []) ∙ ap (λ l. flat_map (inode_tests m r) before ++ l) (append-nil (inode_tests m r next_taken)))
        ∙ sym (append_assoc (tests_above m r) (flat_map (inode_tests m r) before) (inode_tests m r next_taken))

    none_then : first_failing [] (tests_so_far m r (before ++ next_taken ∷ [])) ≡ None
    none_then =
        ap (first_failing []) so_far_then
        ∙ first_failing-append [] (tests_so_far m r before) (inode_tests m r next_taken)
        ∙ ap (λ o. or_else o (first_failing (gone_through [] (tests_so_far m r before)) (inode_tests m r next_taken))) w.none
        ∙ ap (λ l. first_failing l (inode_tests m r next_taken)) (sym w.met_is)
        ∙ passed

    met_then : gone_through met (inode_tests m r next_taken) ≡ gone_through [] (tests_so_far m r (before ++ next_taken ∷ []))
    met_then =
        ap (λ l. gone_through l (inode_tests m r next_taken)) w.met_is
        ∙ sym (gone-append [] (tests_so_far m r before) (inode_tests m r next_taken))
        ∙ ap (gone_through []) (sym so_far_then)

    -- a number that is listed then was listed, or is named
    members_from : (n : ℕ) → is_in listed_then n ≡ true → (is_in (inodes (before ++ next_taken ∷ [])) n || is_in (firsts queue_then) n) ≡ true
    members_from n h = elim (after_cases (named_inodes m r e.0) listed n h) [
      | inl old ↦ elim (or_cases (is_in (inodes before) n) (is_in (firsts (e ∷ rest)) n) (sym (w.members n) ∙ old)) [
        | inl b ↦ or_left _ _ (subst (λ l. is_in l n ≡ true) (sym (inodes_append before (next_taken ∷ []))) (in_left (inodes before) (e.0 ∷ []) n b))
        | inr q ↦ elim (in_cases e.0 n (firsts rest) q) [
          | inl is ↦ or_left _ _ (subst (λ l. is_in l n ≡ true) (sym (inodes_append before (next_taken ∷ []))) (in_right (inodes before) (e.0 ∷ []) n (subst (λ z. is_in (e.0 ∷ []) z ≡ true) is (in_head e.0 []))))
          | inr later ↦ or_right _ _ (subst (λ l. is_in l n ≡ true) (sym (firsts-append rest e.0 (new_ones (named_inodes m r e.0) listed))) (in_left (firsts rest) _ n later))
        ]
      ]
      | inr new ↦ or_right _ _ (subst (λ l. is_in l n ≡ true) (sym (firsts-append rest e.0 (new_ones (named_inodes m r e.0) listed))) (in_right (firsts rest) _ n new))
    ]

    was_listed : (n : ℕ) → (is_in (inodes before) n ≡ true) ⊎ (is_in (firsts (e ∷ rest)) n ≡ true) → is_in listed n ≡ true
    was_listed n (inl b) = w.members n ∙ or_left _ _ b
    was_listed n (inr q) = w.members n ∙ or_right (is_in (inodes before) n) _ q

    members_to : (n : ℕ) → (is_in (inodes (before ++ next_taken ∷ [])) n || is_in (firsts queue_then) n) ≡ true → is_in listed_then n ≡ true
    members_to n h = elim (or_cases _ _ h) [
      | inl b ↦ elim (in_append_cases (inodes before) (e.0 ∷ []) n (subst (λ l. is_in l n ≡ true) (inodes_append before (next_taken ∷ [])) b)) [
        | inl old ↦ named_listed (named_inodes m r e.0) listed n (inr (was_listed n (inl old)))
        | inr here ↦ named_listed (named_inodes m r e.0) listed n (inr (was_listed n (inr (in_left (e.0 ∷ []) (firsts rest) n here))))
      ]
      | inr q ↦ elim (in_append_cases (firsts rest) (new_ones (named_inodes m r e.0) listed) n (subst (λ l. is_in l n ≡ true) (firsts-append rest e.0 (new_ones (named_inodes m r e.0) listed)) q)) [
        | inl later ↦ named_listed (named_inodes m r e.0) listed n (inr (was_listed n (inr (in_tail e.0 n (firsts rest) later))))
        | inr new ↦ named_listed (named_inodes m r e.0) listed n (inl (new_among (named_inodes m r e.0) listed n new))
      ]
    ]

    -- where they pass, the walk goes on
    pub goes_on : IsUnderway m r (before ++ next_taken ∷ []) queue_then listed_then (gone_through met (inode_tests m r next_taken))
    goes_on = record {
      fuel = some_fuel.0;
      taken = taken_then ∙ sym (append_assoc before (next_taken ∷ []) (taken_from m r some_fuel.0 queue_then listed_then));
      room = omega (arith, w.room, some_fuel.1, pairs_counted rest (new_ones (named_inodes m r e.0) listed), new_counted (inode_places r) (named_inodes m r e.0) listed in_range);
      none = none_then;
      met_is = met_then;
      members = λ n. same_truth _ _ (members_from n) (members_to n);
      kinds = λ n h. elim (in_append_cases (firsts rest) (new_ones (named_inodes m r e.0) listed) n (subst (λ l. is_in l n ≡ true) (firsts-append rest e.0 (new_ones (named_inodes m r e.0) listed)) h)) [
        | inl later ↦ w.kinds n (in_tail e.0 n (firsts rest) later)
        | inr new ↦ (named_there n (new_among (named_inodes m r e.0) listed n new)).kind
      ];
    }

-- ---- the end

module _ (m : BlockMap) (r : Roots) (before : List Taken) (listed met : List ℕ) (w : IsUnderway m r before [] listed met) where
  nothing_left : (f : ℕ) → taken_from m r f [] listed ≡ []
  nothing_left zero = refl
  nothing_left (suc f) = refl

  -- all was taken
  pub all_taken : taken_of m r ≡ before
  all_taken = w.taken ∙ ap (λ l. before ++ l) (nothing_left w.fuel) ∙ append-nil before

  pub none_failed : finding_of m r ≡ None
  none_failed = ap (λ l. first_failing [] (tests_so_far m r l)) all_taken ∙ w.none

  pub met_all : (b : ℕ) → is_in met b ≡ is_in (met_blocks m r) b
  met_all b =
      ap (λ l. is_in l b) w.met_is
      ∙ met_in_all (tests_so_far m r before) b
      ∙ ap (λ l. is_in (met_of (tests_so_far m r l)) b) (sym all_taken)

  pub walked_are : walked_inodes m r ≡ inodes before
  walked_are = sym (ap (λ l. inodes l) (sym all_taken) ∙ inodes_walked (taken_of m r))

  pub listed_are : (n : ℕ) → is_in listed n ≡ is_in (walked_inodes m r) n
  listed_are n = w.members n ∙ or-false (is_in (inodes before) n) ∙ ap (λ l. is_in l n) (sym walked_are)
