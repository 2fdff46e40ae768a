-- The walk through the list of inodes, from the first one to the end of the list.
use Rattle.std.proofs.Common.{◌≡◌, ℕ, zero, suc, ◌+◌, ◌-◌, ◌%◌, ◌≤◌, List, [], ◌∷◌, ◌++◌, length, refl, sym, ◌∙◌, ap, subst, arith, append-nil}
use Rattle.std.specs.Prelude.{Bool, true, false, not, ◌&&◌, ◌||◌, ◌==◌, Some, Ok, Err, cond, count_by, drop, filter, flat_map, is_some, map, nat_eq, slice_get, if◌then◌else◌}
use Rattle.std.proofs.lemmas.Bool.{eq-eqb}
use Rattle.std.proofs.lemmas.List.Elements.{filter-append}
use Rattle.std.proofs.lemmas.List.Sums.{sum_by-append}
use Rattle.std.proofs.lemmas.Grind.{flat_map-append}
use Rattle.qx_blockset.specs.Members.{Members, has, limit_of}
use Rattle.qx_geom.specs.Lists.{is_in}
use Rattle.qx_nodes.specs.BlockMap.{BlockMap}
use Rattle.qx_nodes.specs.Visits.{present_of}
use Rattle.qx_records.specs.InodeRecord.{kind_of}
use Rattle.qx_view.proofs.AlikeLists.{first_alike}
use Rattle.qx_view.proofs.WalkEnds.{firsts, inodes}
use Rattle.qx_view.specs.Images.{Roots, all_records, inode_places}
use Rattle.qx_nodes.specs.ForeignNodes.{is_foreign_node}
use Rattle.qx_view.specs.Sound.{fails_dots, fails_nodes, fails_tail, has_tail, is_foreign_directory, is_special_inode, numbers_named, numbers_named_in}
use Rattle.qx_view.specs.Walk.{Taken, finding_of, first_failing, inode_mode, inode_root, inode_tests, is_directory_inode, walked_inodes}
use Rattle.qx_walk.proofs.Underway.{IsUnderway, fails_there, goes_on, inodes_append, listed_are, met_all, none_failed, starts, walked_are}
use Rattle.qx_pointers.specs.declared.halt.Halt.{Halt}
use Rattle.qx_pointers.specs.declared.halt.Halt.TheVariants as halts
use Rattle.qx_tables.specs.declared.listing.Queued.{Queued}
use Rattle.qx_walk.specs.declared.state.Notes.{Notes}
use Rattle.qx_walk.specs.declared.state.Seen.{Seen}
use Rattle.qx_walk.specs.declared.state.Way.{Way}
use Rattle.qx_pointers.specs.Halts.{HaltsAt}
use Rattle.qx_walk.specs.Inodes.{Begins, Done, Ends, Remembers, WalksInode, done_above, numbers_of, taken_with, with_inode}
use Rattle.qx_walk.specs.Rows.{begins_with_dots}
use Rattle.qx_tables.specs.Tables.{HasListed, HoldsNames, pair_of}
use Rattle.qx_walk.specs.Trees.{IsNoted}
use Rattle.qx_tables.proofs.KeptNames.{or_swap}

-- ---- counts of long-name numbers

-- how often a number stands in lists end to end
count_append : (p : ℕ → Bool) (xs ys : List ℕ) → count_by p (xs ++ ys) ≡ count_by p xs + count_by p ys
count_append p xs ys = sum_by-append (λ x. cond (p x) 1 0) xs ys

-- the numbers that one more inode names come last
named_more : (m : BlockMap) (r : Roots) (ns : List ℕ) (n : ℕ) → numbers_named m r (ns ++ n ∷ []) ≡ numbers_named m r ns ++ numbers_of m r n
named_more m r ns n =
    let part : ℕ → List ℕ = λ d. numbers_named_in m (inode_root m r d) (all_records (inode_root m r d)) in
    ap (flat_map part) (filter-append (is_directory_inode m r) ns (n ∷ []))
    ∙ flat_map-append part (filter (is_directory_inode m r) ns) (filter (is_directory_inode m r) (n ∷ []))
    ∙ ap (λ (l : List ℕ). numbers_named m r ns ++ l) (last (is_directory_inode m r n))
  where
    last : (b : Bool) → flat_map (λ d. numbers_named_in m (inode_root m r d) (all_records (inode_root m r d))) (if b then n ∷ [] else []) ≡ (if b then numbers_named_in m (inode_root m r n) (all_records (inode_root m r n)) else [])
    last true = append-nil _
    last false = refl

-- ---- on the way

-- these inodes were taken, and what was done is in memory
pub record IsOnWay (m : BlockMap) (r : Roots) (way : Way) (seen : Seen) : Type 0 where
  pub before : List Taken
  pub done : Done
  pub underway : IsUnderway m r before done.queue done.listed done.met
  pub remembers : Remembers m r done way seen
  pub same : (n : ℕ) → is_in done.taken n ≡ is_in (inodes before) n
  pub numbers : (k : ℕ) → count_by (λ j. j == k) done.numbers ≡ count_by (λ j. j == k) (numbers_named m r (inodes before))
  pub next : seen.listing.next ≡ length before

-- so it begins
pub begins : (m : BlockMap) (r : Roots) (way : Way) (seen : Seen) → Begins m r way seen → IsOnWay m r way seen
begins m r way seen b = record {
  before = [];
  done = done_above m r;
  underway = starts m r b.passed b.top;
  remembers = b.remembers;
  same = λ n. refl;
  numbers = λ k. refl;
  next = b.next;
}

-- what is to be taken without the first of it
abbrev pub without_first : Done → List (ℕ × ℕ) → Done
without_first done rest = record done { queue = rest }

-- ---- one inode is taken

-- one more was taken
length_more : (ts : List Taken) (t : Taken) → length (ts ++ t ∷ []) ≡ length ts + 1
length_more [] t = refl
length_more (u ∷ ts) t = omega (arith, length_more ts t)

-- a list and one more
in_last : (xs : List ℕ) (x n : ℕ) → is_in (xs ++ x ∷ []) n ≡ (nat_eq x n || is_in xs n)
in_last [] x n = refl
in_last (y ∷ xs) x n = ap (λ b. nat_eq y n || b) (in_last xs x n) ∙ or_swap (nat_eq y n) (nat_eq x n) (is_in xs n)

module _ (m : BlockMap) (r : Roots) (way : Way) (seen mid : Seen) (q : Queued) (rest : List (ℕ × ℕ)) (w : IsOnWay m r way seen) (first : w.done.queue ≡ pair_of q ∷ rest) where
  -- the walk with what is taken now
  here : IsUnderway m r w.before (pair_of q ∷ rest) w.done.listed w.done.met
  here = subst (λ (l : List (ℕ × ℕ)). IsUnderway m r w.before l w.done.listed w.done.met) first w.underway

  -- its kind is known
  pub kind_known : is_some (kind_of (inode_mode m r q.inode)) ≡ true
  kind_known = here.kinds q.inode (ap (λ b. b || is_in (firsts rest) q.inode) (eq-eqb q.inode q.inode refl))

  -- what is remembered once it is taken
  pub remembers_rest : HasListed rest w.done.listed mid.listing → mid.longs ≡ seen.longs → Remembers m r (without_first w.done rest) way mid
  remembers_rest listed longs = record {
    met = w.remembers.met;
    listing = listed;
    longs = subst (λ l. HoldsNames m r.longfile w.done.numbers l) (sym longs) w.remembers.longs;
    notes = w.remembers.notes;
  }

  -- where it fails, the walk halts at that finding
  pub halts_there : {T : Type 0} (halt : Halt) (new : Way) (after : Seen) → WalksInode {T = T} m r q.inode q.parent (without_first w.done rest) (Err halt) new after → HaltsAt (finding_of m r) halt
  halts_there halt new after walked = go halt walked.answer
    where
      go : (halt : Halt) → HaltsAt (first_failing w.done.met (inode_tests m r (taken_with q.inode q.parent w.done))) halt → HaltsAt (finding_of m r) halt
      go (halts.Finding found) h = fails_there m r w.before (pair_of q) rest w.done.listed w.done.met here found h
      go halts.Device h = tt
      go halts.NoMemory h = tt

  -- where it passes, the walk goes on
  pub way_goes_on : {T : Type 0} (x : T) (new : Way) (after : Seen) → WalksInode {T = T} m r q.inode q.parent (without_first w.done rest) (Ok x) new after → after.listing.next ≡ seen.listing.next + 1 → IsOnWay m r new after
  way_goes_on x new after walked next =
      let t : Taken = taken_with q.inode q.parent w.done in
      record {
        before = w.before ++ t ∷ [];
        done = with_inode m r q.inode q.parent (without_first w.done rest);
        underway = goes_on m r w.before (pair_of q) rest w.done.listed w.done.met here walked.answer;
        remembers = walked.remembers;
        same = λ n. ap (λ b. nat_eq q.inode n || b) (w.same n) ∙ sym (in_last (inodes w.before) q.inode n) ∙ ap (λ (l : List ℕ). is_in l n) (sym (inodes_append w.before (t ∷ [])));
        numbers = λ k. count_append (λ j. j == k) (numbers_of m r q.inode) w.done.numbers
            ∙ (let old : count_by (λ j. j == k) w.done.numbers ≡ count_by (λ j. j == k) (numbers_named m r (inodes w.before)) = w.numbers k in
            let split : count_by (λ j. j == k) (numbers_named m r (inodes w.before) ++ numbers_of m r q.inode) ≡ count_by (λ j. j == k) (numbers_named m r (inodes w.before)) + count_by (λ j. j == k) (numbers_of m r q.inode) = count_append (λ j. j == k) (numbers_named m r (inodes w.before)) (numbers_of m r q.inode) in
            let swap : count_by (λ j. j == k) (numbers_of m r q.inode) + count_by (λ j. j == k) w.done.numbers ≡ count_by (λ j. j == k) (numbers_named m r (inodes w.before) ++ numbers_of m r q.inode) = omega (arith, old, split) in
            swap)
            ∙ ap (count_by (λ j. j == k)) (sym (named_more m r (inodes w.before) q.inode))
            ∙ ap (λ (l : List ℕ). count_by (λ j. j == k) (numbers_named m r l)) (sym (inodes_append w.before (t ∷ [])));
        next = next ∙ ap (λ k. k + 1) w.next ∙ sym (length_more w.before t);
      }

-- ---- the end

-- nothing is left of a list that was taken to its end
all_of : {A B : Type 0} (f : A → B) (k : ℕ) (xs : List A) → map f (drop k xs) ≡ [] → k ≤ length xs → k ≡ length xs
all_of f zero [] e h = refl
all_of f zero (x ∷ xs) e h = absurd (cc)
all_of f (suc k) [] e h = absurd (omega (arith, h))
all_of f (suc k) (x ∷ xs) e h = ap suc (all_of f k xs e (omega (arith, h)))

-- as many inodes as were taken
length_inodes : (ts : List Taken) → length (inodes ts) ≡ length ts
length_inodes [] = refl
length_inodes (t ∷ ts) = ap suc (length_inodes ts)

-- notes on a list are those on another with the same members
noted_alike : (m : BlockMap) (r : Roots) (xs ys : List ℕ) (notes : Notes) → ((n : ℕ) → is_in xs n ≡ is_in ys n) → IsNoted m r xs notes → IsNoted m r ys notes
noted_alike m r xs ys notes same w = record {
  nodes = w.nodes ∙ first_alike (fails_nodes m r xs) (fails_nodes m r ys) (inode_places r + 1) (λ k h. at_nodes k);
  dots = λ none. w.dots none ∙ first_alike (fails_dots m r xs) (fails_dots m r ys) (inode_places r + 1) (λ k h. ap (λ b. b && (is_directory_inode m r k && not (begins_with_dots m (inode_root m r k)))) (same k));
  tails = w.tails ∙ first_alike (fails_tail m r xs) (fails_tail m r ys) (inode_places r + 1) (λ k h. at_tails k);
}
  where
    at_nodes : (k : ℕ) → fails_nodes m r xs k ≡ fails_nodes m r ys k
    at_nodes zero = refl
    at_nodes (suc k) = ap (λ b. b && (not (is_special_inode m r (suc k)) && (is_foreign_node m (inode_root m r (suc k)) || (is_directory_inode m r (suc k) && is_foreign_directory m (inode_root m r (suc k)))))) (same (suc k))

    at_tails : (k : ℕ) → fails_tail m r xs k ≡ fails_tail m r ys k
    at_tails zero = refl
    at_tails (suc k) = ap (λ b. b && (not (is_special_inode m r (suc k)) && has_tail m (inode_root m r (suc k)))) (same (suc k))

-- the end of the list is the end of the walk
pub way_ends : (m : BlockMap) (r : Roots) (way : Way) (seen after : Seen) (w : IsOnWay m r way seen) → w.done.queue ≡ [] → after.listing.queue.items ≡ seen.listing.queue.items → after.listing.listed ≡ seen.listing.listed → after.longs ≡ seen.longs → Ends m r way after
way_ends m r way seen after w none items listed longs =
    let here : IsUnderway m r w.before [] w.done.listed w.done.met = subst (λ (l : List (ℕ × ℕ)). IsUnderway m r w.before l w.done.listed w.done.met) none w.underway in
    let walked : walked_inodes m r ≡ inodes w.before = walked_are m r w.before w.done.listed w.done.met here in
    let numbers : (k : ℕ) → count_by (λ j. j == k) w.done.numbers ≡ count_by (λ j. j == k) (numbers_named m r (walked_inodes m r)) = λ k. w.numbers k ∙ ap (λ (l : List ℕ). count_by (λ j. j == k) (numbers_named m r l)) (sym walked) in
    record {
      none = none_failed m r w.before w.done.listed w.done.met here;
      met = record { each = λ b h. w.remembers.met.each b h ∙ met_all m r w.before w.done.listed w.done.met here b };
      reached = λ n some there. ap (λ (s : Members). has s (n - 1)) listed ∙ w.remembers.listing.each n some (subst (λ (s : Members). n ≤ limit_of s) listed there) ∙ listed_are m r w.before w.done.listed w.done.met here n;
      live = ap length items
          ∙ sym (all_of pair_of seen.listing.next seen.listing.queue.items (w.remembers.listing.queue ∙ none) w.remembers.listing.taken)
          ∙ w.next ∙ sym (length_inodes w.before) ∙ ap length (sym walked);
      notes = noted_alike m r w.done.taken (walked_inodes m r) way.notes (λ n. w.same n ∙ ap (λ (l : List ℕ). is_in l n) (sym walked)) w.remembers.notes;
      numbers = w.done.numbers;
      longs = subst (λ l. HoldsNames m r.longfile w.done.numbers l) (sym longs) w.remembers.longs;
      named = λ i. if not (r.longfile.size % m.size == 0) then Some 0 else slice_get (filter (λ n. not (numbers n i == 1)) (present_of m r.longfile)) 0;
    }
