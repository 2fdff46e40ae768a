-- The tests above the inodes: the root nodes' in their order, and those of inode 1.
use Rattle.std.proofs.Common.{◌≡◌, ℕ, zero, suc, ◌+◌, ◌≤◌, List, [], ◌∷◌, ◌++◌, refl, sym, ◌∙◌, ap, subst, arith, add-one}
use Rattle.std.specs.Prelude.{Bool, true, false, Some, None, Option, Result, Ok, Err, flat_map, replicate, if◌then◌else◌}
use Rattle.std.specs.List.{find, range_with_len}
use Rattle.std.proofs.lemmas.List.{append-nil}
use Rattle.qx_blockset.specs.Members.{Members, has}
use Rattle.qx_geom.specs.declared.root.Root.{Root}
use Rattle.qx_geom.specs.Lists.{first_below}
use Rattle.qx_geom.specs.Pointer.{absent}
use Rattle.qx_nodes.specs.BlockMap.{BlockMap}
use Rattle.qx_nodes.specs.Content.{levels_fit, root_fits}
use Rattle.qx_nodes.specs.Visits.{visits_of}
use Rattle.qx_geom.proofs.Truths.{and_left}
use Rattle.qx_view.specs.declared.findings.Code.TheVariants as codes
use Rattle.qx_view.specs.declared.findings.Finding.{Finding}
use Rattle.qx_view.proofs.PassingTests.{NodePasses, Passing, node_passes, passing_parts, passing_tested}
use Rattle.qx_view.specs.Images.{Roots, has_inode, inode_places}
use Rattle.qx_nodes.specs.ForeignNodes.{is_foreign_node}
use Rattle.qx_view.specs.Sound.{fails_dots, fails_nodes, fails_tail, has_tail}
use Rattle.qx_view.specs.Walk.{Test, Tested, finding_of, first_failing, inode_tests, is_directory_inode, root_tests, taken_of, top_tests}
use Rattle.qx_pointers.proofs.PassedTests.{goes_fails, goes_then}
use Rattle.qx_pointers.specs.declared.halt.Halt.{Halt}
use Rattle.qx_walk.specs.declared.state.Notes.{Notes}
use Rattle.qx_pointers.specs.declared.node.LeafPlace.{LeafPlace}
use Rattle.qx_walk.specs.declared.state.Seen.{Seen}
use Rattle.qx_walk.specs.declared.state.Way.{Way}
use Rattle.qx_pointers.specs.Halts.{HaltsAt}
use Rattle.qx_walk.specs.Inodes.{Begins, tests_above}
use Rattle.qx_pointers.specs.Marks.{GoesThrough, Marks}
use Rattle.qx_pointers.specs.Parts.{kept_leaves}
use Rattle.qx_tables.specs.Tables.{AreLeaves, HasListed, HoldsNames}
use Rattle.qx_walk.specs.Trees.{IsNoted}

-- a place of a list of one value has it, and so has a place past its end
same_at : (n b : ℕ) → has (replicate n false) b ≡ false
same_at zero b = refl
same_at (suc n) zero = refl
same_at (suc n) (suc b) = same_at n b

-- nothing was met yet
pub none_met : (n : ℕ) (s : Members) → s ≡ replicate n false → Marks s []
none_met n s is = record { each = λ b h. ap (λ (z : Members). has z b) is ∙ same_at n b }

-- the leaves of a root node whose tests have passed
pub root_leaves : {T : Type 0} (m : BlockMap) (node : Root) (x : T) (a b : Members) (met : List ℕ) (leaves : List LeafPlace) → Marks a met → GoesThrough (root_tests m node) (Ok x) a b → leaves ≡ kept_leaves true (visits_of m node) → AreLeaves m node leaves
root_leaves m node x a b met leaves marks tests is =
    let passes : NodePasses m node (root_fits m node) = node_passes m 0 node (root_fits m node) (record { met = met; none = tests.answer met marks }) in
    record { are = is; fits = and_left (levels_fit m node) _ passes.fit; undamaged = passes.undamaged }

-- a halt that is at no finding goes with any tests
pub goes_lacks : {U : Type 0} (tests : List Test) (halt : Halt) (a b : Members) → ((f : Option Finding) → HaltsAt f halt) → GoesThrough {T = U} tests (Err halt) a b
goes_lacks tests halt a b any = record { answer = λ met marks. any (first_failing met tests); marks = λ met marks. tt }

module _ (m : BlockMap) (r : Roots) where
  -- the tests of the Inode tree, of the Longfile, of further root nodes, and of all inodes
  abbrev inodes_first : List Test
  inodes_first = root_tests m r.inodes

  abbrev longfile_next : List Test
  longfile_next = root_tests m r.longfile

  abbrev further_next : List Test
  further_next = flat_map (root_tests m) r.further

  abbrev inodes_last : List Test
  inodes_last = flat_map (inode_tests m r) (taken_of m r)

  -- the tests of the Inode tree and of the Longfile
  pub two_roots : {T U : Type 0} (x : T) (y : Result U Halt) (a b c : Members) → GoesThrough (root_tests m r.inodes) (Ok x) a b → GoesThrough (root_tests m r.longfile) y b c → GoesThrough (root_tests m r.inodes ++ root_tests m r.longfile) y a c
  two_roots x y a b c p q = goes_then inodes_first longfile_next x y a b c p q

  -- and of the further root nodes
  pub all_roots : {T U : Type 0} (bitmap : Root) (x : T) (y : Result U Halt) (a b c : Members) → r.further ≡ bitmap ∷ [] → GoesThrough (root_tests m r.inodes ++ root_tests m r.longfile) (Ok x) a b → GoesThrough (root_tests m bitmap) y b c
      → GoesThrough (root_tests m r.inodes ++ root_tests m r.longfile ++ flat_map (root_tests m) r.further) y a c
  all_roots bitmap x y a b c one p q = goes_then (inodes_first ++ longfile_next) further_next x y a b c p
      (subst (λ (l : List Test). GoesThrough l y b c) (sym (ap (flat_map (root_tests m)) one ∙ append-nil (root_tests m bitmap))) q)

  -- and of inode 1
  pub all_above : {T U : Type 0} (x : T) (y : Result U Halt) (a b c : Members) → GoesThrough (root_tests m r.inodes ++ root_tests m r.longfile ++ flat_map (root_tests m) r.further) (Ok x) a b → GoesThrough (top_tests m r) y b c → GoesThrough (tests_above m r) y a c
  all_above x y a b c p q = goes_then (inodes_first ++ longfile_next ++ further_next) (top_tests m r) x y a b c p q

  -- the walk halts at a test above the inodes
  pub halts_above : {T : Type 0} (halt : Halt) (a b : Members) → Marks a [] → GoesThrough {T = T} (tests_above m r) (Err halt) a b → HaltsAt (finding_of m r) halt
  halts_above halt a b marks p = (goes_fails {U = Unit {0}} (tests_above m r) inodes_last halt a b b p).answer [] marks

  -- in the further root nodes
  pub halts_in_further : {T : Type 0} (halt : Halt) (a b : Members) → Marks a [] → GoesThrough {T = T} (root_tests m r.inodes ++ root_tests m r.longfile ++ flat_map (root_tests m) r.further) (Err halt) a b → HaltsAt (finding_of m r) halt
  halts_in_further halt a b marks p = halts_above {T = Unit {0}} halt a b marks (goes_fails (inodes_first ++ longfile_next ++ further_next) (top_tests m r) halt a b b p)

  -- in the Longfile
  pub halts_in_longfile : {T : Type 0} (halt : Halt) (a b : Members) → Marks a [] → GoesThrough {T = T} (root_tests m r.inodes ++ root_tests m r.longfile) (Err halt) a b → HaltsAt (finding_of m r) halt
  halts_in_longfile halt a b marks p = halts_in_further {T = Unit {0}} halt a b marks (goes_fails (inodes_first ++ longfile_next) further_next halt a b b p)

  -- in the Inode tree
  pub halts_in_inodes : {T : Type 0} (halt : Halt) (a b : Members) → Marks a [] → GoesThrough {T = T} (root_tests m r.inodes) (Err halt) a b → HaltsAt (finding_of m r) halt
  halts_in_inodes halt a b marks p = halts_in_longfile {T = Unit {0}} halt a b marks (goes_fails inodes_first longfile_next halt a b b p)

  -- where all of them pass, inode 1 is a directory
  pub top_there : first_failing [] (tests_above m r) ≡ None → is_directory_inode m r 1 ≡ true
  top_there none =
      let top : Passing (top_tests m r) = (passing_parts (inodes_first ++ longfile_next ++ further_next) (top_tests m r) (record { met = []; none = none })).1 in
      (passing_tested codes.Kind 1 absent (is_directory_inode m r 1) [] (passing_tested codes.NoInode 1 absent (has_inode r.inodes 1) (Tested codes.Kind 1 absent (is_directory_inode m r 1) ∷ []) top).1).0

  -- ---- what is noted before the inodes

  -- nothing passes from a place on
  none_from : (test : ℕ → Bool) (a len : ℕ) → ((k : ℕ) → a ≤ k → test k ≡ false) → find test (range_with_len a len) ≡ None
  none_from test a zero fails = refl
  none_from test a (suc len) fails = ap (λ b. if b then Some a else find test (range_with_len (a + 1) len)) (fails a (omega arith)) ∙ none_from test (a + 1) len (λ k h. fails k (omega (arith, h)))

  -- 0 alone may pass
  first_alone : (test : ℕ → Bool) (n : ℕ) → ((k : ℕ) → 1 ≤ k → test k ≡ false) → first_below test (n + 1) ≡ (if test 0 then Some 0 else None)
  first_alone test n fails = ap (first_below test) (add-one n) ∙ ap (λ o. if test 0 then Some 0 else o) (none_from test 1 n fails)

  no_nodes : (k : ℕ) → 1 ≤ k → fails_nodes m r [] k ≡ false
  no_nodes zero some = absurd (omega (arith, some))
  no_nodes (suc k) some = refl

  no_tails : (k : ℕ) → 1 ≤ k → fails_tail m r [] k ≡ false
  no_tails zero some = absurd (omega (arith, some))
  no_tails (suc k) some = refl

  -- the Longfile and the Inode tree stand for 0
  pub noted_above : (notes : Notes) (foreign tail : Bool) → foreign ≡ is_foreign_node m r.longfile → tail ≡ has_tail m r.inodes → notes.nodes ≡ (if foreign then Some 0 else None) → notes.dots ≡ None → notes.tails ≡ (if tail then Some 0 else None) → IsNoted m r [] notes
  noted_above notes foreign tail foreign_is tail_is nodes dots tails = record {
    nodes = nodes ∙ ap (λ (b : Bool). if b then Some 0 else None) foreign_is ∙ sym (first_alone (fails_nodes m r []) (inode_places r) no_nodes);
    dots = λ none. dots ∙ sym (none_from (fails_dots m r []) 0 (inode_places r + 1) (λ k h. refl));
    tails = tails ∙ ap (λ (b : Bool). if b then Some 0 else None) tail_is ∙ sym (first_alone (fails_tail m r []) (inode_places r) no_tails);
  }

  -- so the walk comes to the inodes
  pub begins_at : (way : Way) (seen : Seen) (a : Members) → Marks a [] → GoesThrough {T = Unit {0}} (tests_above m r) (Ok tt) a way.met → HasListed ((1, 1) ∷ []) (1 ∷ []) seen.listing → HoldsNames m r.longfile [] seen.longs → IsNoted m r [] way.notes → seen.listing.next ≡ 0 → Begins m r way seen
  begins_at way seen a marks above listed named notes next = record {
    passed = above.answer [] marks;
    top = top_there (above.answer [] marks);
    remembers = record { met = above.marks [] marks; listing = listed; longs = named; notes = notes };
    next = next;
  }
