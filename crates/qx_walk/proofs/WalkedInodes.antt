-- One more inode of the walk: what its kind makes of it.
use Rattle.std.proofs.Common.{◌≡◌, ◌≢◌, ℕ, zero, suc, ◌+◌, ◌-◌, ◌/◌, ◌^◌, ◌<◌, ◌≤◌, List, [], ◌∷◌, ◌++◌, refl, sym, ◌∙◌, ap, subst, arith}
use Rattle.std.specs.Prelude.{Bool, true, false, not, ◌&&◌, ◌||◌, ◌==◌, Option, Some, None, Ok, Err, is_some, length, map, nat_eq, nat_lt, option_to_list, unwrap_or, if◌then◌else◌}
use Rattle.std.proofs.lemmas.Bool.{eqb-true}
use Rattle.std.proofs.lemmas.List.{append-nil}
use Rattle.std.proofs.Math.Bool.{or-false}
use Rattle.qx_geom.proofs.Members.{in_head}
use Rattle.qx_blockset.specs.Members.{Members}
use Rattle.qx_geom.proofs.Truths.{not_so, true_or_false}
use Rattle.qx_geom.specs.declared.root.Root.{Root}
use Rattle.qx_geom.specs.Lists.{first_below, is_in}
use Rattle.qx_geom.specs.Pointer.{absent}
use Rattle.qx_nodes.specs.BlockMap.{BlockMap}
use Rattle.qx_records.specs.declared.inode.Inode.{Inode}
use Rattle.qx_records.specs.declared.kind.Kind.{Kind}
use Rattle.qx_records.specs.declared.kind.Kind.TheVariants as kinds
use Rattle.qx_records.specs.InodeRecord.{kind_of}
use Rattle.qx_view.specs.declared.findings.Code.TheVariants as codes
use Rattle.qx_view.proofs.TestOrder.{first_failing-append, or_else}
use Rattle.qx_records.specs.NameRecord.{RawRecord, Unused, Short, Long, Bad}
use Rattle.qx_model.specs.Tree.{is_dots}
use Rattle.qx_view.specs.Reading.{slot_of}
use Rattle.qx_nodes.specs.LongNames.{long_name}
use Rattle.qx_view.specs.Images.{Roots, all_records, has_inode, inode_of, inode_places, raw_of, record_block}
use Rattle.qx_nodes.specs.ForeignNodes.{is_foreign_node}
use Rattle.qx_view.specs.Sound.{fails_dots, fails_nodes, fails_tail, has_tail, is_foreign_directory, is_special_kind, numbers_named_in}
use Rattle.qx_view.specs.Walk.{Test, Tested, first_failing, gone_through, inode_mode, inode_root, inode_tests, inodes_named_in, is_directory_inode, is_directory_kind, named_inode, Place, record_tests, row_tests, slot_name, kind_tests, listed_after, new_ones, records_tests}
use Rattle.qx_walk.proofs.LeastNotes.{first_more}
use Rattle.qx_pointers.proofs.PassedTests.{gone-append, halts_more}
use Rattle.qx_pointers.specs.declared.halt.Halt.{Halt}
use Rattle.qx_pointers.specs.declared.halt.Halt.TheVariants as halts
use Rattle.qx_walk.specs.declared.state.Notes.{Notes}
use Rattle.qx_pointers.specs.declared.node.Part.{Part}
use Rattle.qx_walk.specs.declared.state.Directory.{Directory}
use Rattle.qx_walk.specs.declared.state.Seen.{Seen}
use Rattle.qx_tables.specs.declared.table.InodeTable.{InodeTable}
use Rattle.qx_walk.specs.declared.state.Way.{Way}
use Rattle.qx_pointers.specs.Halts.{HaltsAt}
use Rattle.qx_walk.specs.Inodes.{Done, Remembers, WalksInode, WalksNode, own_tests, taken_with, with_inode}
use Rattle.qx_pointers.specs.Marks.{Marks}
use Rattle.qx_walk.specs.Rows.{WalksRecords, begins_with_dots}
use Rattle.qx_tables.specs.Tables.{HasListed, HoldsInodes, HoldsNames, places_of}
use Rattle.qx_walk.specs.Trees.{IsNoted, note_if}

-- ---- records

-- a row meets nothing
row_meets : (m : BlockMap) (r : Roots) (at : Place) (names : List (List ℕ)) (listed : List ℕ) (n : ℕ) (name : List ℕ) (met : List ℕ) → gone_through met (row_tests m r at names listed n name) ≡ met
row_meets m r at names listed n name met = go (is_dots name)
  where
    go : (b : Bool) → gone_through met (if b then Tested codes.Dots at.inode at.block (n == (if length name == 1 then at.inode else at.parent)) ∷ [] else Tested codes.NoInode at.inode at.block (has_inode r.inodes n) ∷ Tested codes.Kind at.inode at.block (is_some (kind_of (inode_mode m r n))) ∷ Tested codes.DirTwice at.inode at.block (not (is_directory_inode m r n && is_in listed n)) ∷ []) ≡ met
    go true = refl
    go false = refl

-- nor does a record
record_meets : (m : BlockMap) (r : Roots) (at : Place) (names : List (List ℕ)) (listed : List ℕ) (raw : RawRecord) (met : List ℕ) → gone_through met (record_tests m r at names listed raw) ≡ met
record_meets m r at names listed Unused met = refl
record_meets m r at names listed (Bad c) met = refl
record_meets m r at names listed (Short n name) met = row_meets m r at names listed n name met
record_meets m r at names listed (Long n number sum) met = row_meets m r at names listed n (unwrap_or (long_name m r.longfile number) []) met

-- nor do all records of a directory
records_meet : (m : BlockMap) (r : Roots) (d p : ℕ) (node : Root) (names : List (List ℕ)) (listed ks met : List ℕ) → gone_through met (records_tests m r d p node names listed ks) ≡ met
records_meet m r d p node names listed [] met = refl
records_meet m r d p node names listed (k ∷ ks) met =
    let rest : List Test = records_tests m r d p node (slot_name (slot_of m r.longfile (raw_of m node k)) ++ names) (option_to_list (named_inode m r.longfile (raw_of m node k)) ++ listed) ks in
    let at : Place = record { inode = d; parent = p; block = record_block m node k } in
    gone-append met (record_tests m r at names listed (raw_of m node k)) rest
    ∙ ap (λ (l : List ℕ). gone_through l rest) (record_meets m r at names listed (raw_of m node k) met)
    ∙ records_meet m r d p node (slot_name (slot_of m r.longfile (raw_of m node k)) ++ names) (option_to_list (named_inode m r.longfile (raw_of m node k)) ++ listed) ks met

-- ---- what is noted

-- a number that fails twice over is noted once
pub note_twice : (p q : Bool) (n : ℕ) (o : Option ℕ) → note_if q n (note_if p n o) ≡ note_if (p || q) n o
note_twice true true n None = ap (λ z. Some z) (omega arith)
note_twice true true n (Some k) = ap (λ z. Some z) (omega arith)
note_twice true false n o = refl
note_twice false q n o = refl

-- nothing is noted yet where nothing is noted later
pub note_none : (p : Bool) (n : ℕ) (o : Option ℕ) → note_if p n o ≡ None → o ≡ None
note_none true n None e = refl
note_none true n (Some k) e = absurd (cc)
note_none false n o e = e

-- a number that isn't the head is in the list where it is in the rest
in_rest : (n k : ℕ) (l : List ℕ) → k ≢ n → is_in (n ∷ l) k ≡ is_in l k
in_rest n k l isnt = ap (λ b. b || is_in l k) (not_so (nat_eq n k) (λ t. isnt (sym (eqb-true n k t))))

-- a test of the numbers of a list, with one more
listed_or : (a b p : Bool) → a ≡ true → (a && p) ≡ ((b && p) || p)
listed_or true true true e = refl
listed_or true true false e = refl
listed_or true false p e = refl
listed_or false b p e = absurd (cc)

module _ (m : BlockMap) (r : Roots) (n : ℕ) (taken : List ℕ) (positive : 0 < n) (there : n ≤ inode_places r) where
  -- with one more inode the least that fails by its own test is noted
  more_noted : (fails : List ℕ → ℕ → Bool) (own : ℕ → Bool) → ((l : List ℕ) → fails l n ≡ (is_in l n && own n)) → ((k : ℕ) → k ≢ n → fails (n ∷ taken) k ≡ fails taken k)
      → first_below (fails (n ∷ taken)) (inode_places r + 1) ≡ note_if (own n) n (first_below (fails taken) (inode_places r + 1))
  more_noted fails own at others = first_more (fails taken) (fails (n ∷ taken)) (own n) n (inode_places r + 1) (omega (arith, there)) others
      (at (n ∷ taken) ∙ listed_or (is_in (n ∷ taken) n) (is_in taken n) (own n) (in_head n taken) ∙ ap (λ b. b || own n) (sym (at taken)))

  -- whether its node fails, its first records, and its tail
  abbrev node_fails : ℕ → Bool
  node_fails k = not (is_special_kind (kind_of (inode_mode m r k))) && (is_foreign_node m (inode_root m r k) || (is_directory_kind (kind_of (inode_mode m r k)) && is_foreign_directory m (inode_root m r k)))

  abbrev dots_fail : ℕ → Bool
  dots_fail k = is_directory_kind (kind_of (inode_mode m r k)) && not (begins_with_dots m (inode_root m r k))

  abbrev tail_fails : ℕ → Bool
  tail_fails k = not (is_special_kind (kind_of (inode_mode m r k))) && has_tail m (inode_root m r k)

  at_nodes : (k : ℕ) → 0 < k → (l : List ℕ) → fails_nodes m r l k ≡ (is_in l k && node_fails k)
  at_nodes zero some l = absurd (omega (arith, some))
  at_nodes (suc k) some l = refl

  at_tails : (k : ℕ) → 0 < k → (l : List ℕ) → fails_tail m r l k ≡ (is_in l k && tail_fails k)
  at_tails zero some l = absurd (omega (arith, some))
  at_tails (suc k) some l = refl

  other_nodes : (k : ℕ) → k ≢ n → fails_nodes m r (n ∷ taken) k ≡ fails_nodes m r taken k
  other_nodes zero isnt = refl
  other_nodes (suc k) isnt = ap (λ b. b && node_fails (suc k)) (in_rest n (suc k) taken isnt)

  other_tails : (k : ℕ) → k ≢ n → fails_tail m r (n ∷ taken) k ≡ fails_tail m r taken k
  other_tails zero isnt = refl
  other_tails (suc k) isnt = ap (λ b. b && tail_fails (suc k)) (in_rest n (suc k) taken isnt)

  -- what is noted with one more inode
  noted_more : (old new : Notes) → IsNoted m r taken old → new.nodes ≡ note_if (node_fails n) n old.nodes → (new.nodes ≡ None → new.dots ≡ note_if (dots_fail n) n old.dots) → new.tails ≡ note_if (tail_fails n) n old.tails → IsNoted m r (n ∷ taken) new
  noted_more old new w nodes dots tails = record {
    nodes = nodes ∙ ap (note_if (node_fails n) n) w.nodes ∙ sym (more_noted (fails_nodes m r) node_fails (at_nodes n positive) other_nodes);
    dots = λ none. dots none ∙ ap (note_if (dots_fail n) n) (w.dots (note_none (node_fails n) n old.nodes (sym nodes ∙ none)))
        ∙ sym (more_noted (fails_dots m r) dots_fail (λ l. refl) (λ k isnt. ap (λ b. b && dots_fail k) (in_rest n k taken isnt)));
    tails = tails ∙ ap (note_if (tail_fails n) n) w.tails ∙ sym (more_noted (fails_tail m r) tail_fails (at_tails n positive) other_tails);
  }

-- ---- what is remembered

-- the kind of an inode as it was read
pub kind_read : (m : BlockMap) (r : Roots) (n : ℕ) (i : Inode) (o : Option Kind) (k : Kind) → i ≡ inode_of m r.inodes n → o ≡ kind_of i.mode → o ≡ Some k → kind_of (inode_mode m r n) ≡ Some k
kind_read m r n i o k is of_mode some = ap (λ (j : Inode). kind_of j.mode) (sym is) ∙ sym of_mode ∙ some

-- the test of its size as a link
pub link_size_read : (m : BlockMap) (r : Roots) (n : ℕ) (i : Inode) → i ≡ inode_of m r.inodes n → (not ((inode_root m r n).size == 0) && nat_lt (inode_root m r n).size 1024) ≡ (not (i.root.size == 0) && nat_lt i.root.size 1024)
link_size_read m r n i is = ap (λ (j : Inode). not (j.root.size == 0) && nat_lt j.root.size 1024) (sym is)

-- an inode whose kind is known has one
pub kind_missing : (m : BlockMap) (r : Roots) (n : ℕ) (i : Inode) (o : Option Kind) → i ≡ inode_of m r.inodes n → o ≡ kind_of i.mode → o ≡ None → is_some (kind_of (inode_mode m r n)) ≡ true → ⊥
kind_missing m r n i o is of_mode none known =
    let missing : kind_of (inode_mode m r n) ≡ None = ap (λ (j : Inode). kind_of j.mode) (sym is) ∙ sym of_mode ∙ none in
    true_or_false _ known (ap (λ k. is_some k) missing)

-- an inode of the table has a place
pub there_in : (m : BlockMap) (r : Roots) (table : InodeTable) (n : ℕ) → HoldsInodes m r.inodes table → n ≤ places_of table → n ≤ inode_places r
there_in m r table n h there = subst (λ (s : ℕ). n ≤ (if nat_lt (s / 128) (2 ^ 32) then s / 128 else 2 ^ 32 - 1)) h.size there

module _ (m : BlockMap) (r : Roots) (n parent : ℕ) (done : Done) (positive : 0 < n) (there : n ≤ inode_places r) where
  -- its node
  abbrev node : Root
  node = inode_root m r n

  -- the tests where the kind is known
  tests_by : (k : Option Kind) → kind_of (inode_mode m r n) ≡ k → inode_tests m r (taken_with n parent done) ≡ kind_tests m r (taken_with n parent done) node k
  tests_by k is = ap (kind_tests m r (taken_with n parent done) node) is

  -- an inode that is no directory adds what was met and what is noted
  remembers_plain : (k : Option Kind) (way new : Way) (seen : Seen) → kind_of (inode_mode m r n) ≡ k → is_directory_kind k ≡ false → Remembers m r done way seen
      → Marks new.met (gone_through done.met (kind_tests m r (taken_with n parent done) node k)) → IsNoted m r (n ∷ done.taken) new.notes → Remembers m r (with_inode m r n parent done) new seen
  remembers_plain k way new seen is plain w marks notes =
      let none : is_directory_kind (kind_of (inode_mode m r n)) ≡ false = ap is_directory_kind is ∙ plain in
      record {
        met = subst (λ (ts : List Test). Marks new.met (gone_through done.met ts)) (sym (tests_by k is)) marks;
        listing = subst (λ (b : Bool). (let ns = (if b then inodes_named_in m r.longfile node (all_records node) else []) in HasListed (done.queue ++ map (λ j. (j, n)) (new_ones ns done.listed)) (listed_after ns done.listed) seen.listing)) (sym none)
            (subst (λ (q : List (ℕ × ℕ)). HasListed q done.listed seen.listing) (sym (append-nil done.queue)) w.listing);
        longs = subst (λ (b : Bool). HoldsNames m r.longfile ((if b then numbers_named_in m node (all_records node) else []) ++ done.numbers) seen.longs) (sym none) w.longs;
        notes = notes;
      }

  -- a special: nothing is done
  pub special_walked : (way : Way) (seen : Seen) → kind_of (inode_mode m r n) ≡ Some kinds.Special → Remembers m r done way seen → WalksInode {T = Unit {0}} m r n parent done (Ok tt) way seen
  special_walked way seen is w = record {
    answer = ap (first_failing done.met) (tests_by (Some kinds.Special) is);
    remembers = remembers_plain (Some kinds.Special) way way seen is refl w w.met
        (noted_more m r n done.taken positive there way.notes way.notes w.notes
        (sym (ap (λ k. note_if (not (is_special_kind k) && (is_foreign_node m node || (is_directory_kind k && is_foreign_directory m node))) n way.notes.nodes) is))
        (λ none. sym (ap (λ k. note_if (is_directory_kind k && not (begins_with_dots m node)) n way.notes.dots) is))
        (sym (ap (λ k. note_if (not (is_special_kind k) && has_tail m node) n way.notes.tails) is)));
  }

  -- what is noted of a node that is no directory's
  notes_plain : (k : Option Kind) (keeps : Bool) (part : Part) (way new : Way) → kind_of (inode_mode m r n) ≡ k → is_directory_kind k ≡ false → is_special_kind k ≡ false → IsNoted m r done.taken way.notes
      → WalksNode m n node keeps done.met (Ok part) way new → new.notes.dots ≡ way.notes.dots → IsNoted m r (n ∷ done.taken) new.notes
  notes_plain k keeps part way new is plain some w walked dots = noted_more m r n done.taken positive there way.notes new.notes w
      (walked.nodes ∙ sym (nodes_by (kind_of (inode_mode m r n)) (ap is_directory_kind is ∙ plain) (ap is_special_kind is ∙ some)))
      (λ none. dots ∙ sym (ap (λ b. note_if (b && not (begins_with_dots m node)) n way.notes.dots) (ap is_directory_kind is ∙ plain)))
      (walked.tails ∙ sym (ap (λ b. note_if (not b && has_tail m node) n way.notes.tails) (ap is_special_kind is ∙ some)))
    where
      nodes_by : (k : Option Kind) → is_directory_kind k ≡ false → is_special_kind k ≡ false → note_if (not (is_special_kind k) && (is_foreign_node m node || (is_directory_kind k && is_foreign_directory m node))) n way.notes.nodes ≡ note_if (is_foreign_node m node) n way.notes.nodes
      nodes_by k d s = ap (λ b. note_if (not b && (is_foreign_node m node || (is_directory_kind k && is_foreign_directory m node))) n way.notes.nodes) s
          ∙ ap (λ b. note_if (is_foreign_node m node || (b && is_foreign_directory m node)) n way.notes.nodes) d
          ∙ ap (λ b. note_if b n way.notes.nodes) (or-false (is_foreign_node m node))

  -- a file
  pub file_walked : (keeps : Bool) (part : Part) (way new : Way) (seen : Seen) → kind_of (inode_mode m r n) ≡ Some kinds.File → Remembers m r done way seen → WalksNode m n node keeps done.met (Ok part) way new → new.notes.dots ≡ way.notes.dots
      → WalksInode {T = Unit {0}} m r n parent done (Ok tt) new seen
  file_walked keeps part way new seen is w walked dots = record {
    answer = ap (first_failing done.met) (tests_by (Some kinds.File) is) ∙ walked.answer;
    remembers = remembers_plain (Some kinds.File) way new seen is refl w walked.marks (notes_plain (Some kinds.File) keeps part way new is refl refl w.notes walked dots);
  }

  -- the tests of the node come first
  node_first : (k : Option Kind) → is_special_kind k ≡ false → k ≢ None → (rest : List Test) × (kind_tests m r (taken_with n parent done) node k ≡ own_tests m n node ++ rest)
  node_first None some known = absurd (known refl)
  node_first (Some kinds.Special) some known = absurd (cc)
  node_first (Some kinds.File) some known = ([], sym (append-nil (own_tests m n node)))
  node_first (Some kinds.Link) some known = (_, refl)
  node_first (Some kinds.Directory) some known = (_, refl)

  -- the walk halts in the node
  pub node_halts : (k : Kind) (keeps : Bool) (halt : Halt) (old new way : Way) (seen : Seen) → kind_of (inode_mode m r n) ≡ Some k → is_special_kind (Some k) ≡ false → WalksNode m n node keeps done.met (Err halt) old new → WalksInode {T = Unit {0}} m r n parent done (Err halt) way seen
  node_halts k keeps halt old new way seen is some walked =
      let first = node_first (Some k) some (λ e. absurd (cc e)) in
      record {
        answer = subst (λ f. HaltsAt f halt) (sym (ap (first_failing done.met) (tests_by (Some k) is ∙ first.1) ∙ first_failing-append done.met (own_tests m n node) first.0)) (halts_more halt (first_failing done.met (own_tests m n node)) (first_failing (gone_through done.met (own_tests m n node)) first.0) walked.answer);
        remembers = tt;
      }

  -- the size of a link
  abbrev size_test : List Test
  size_test = Tested codes.LinkSize n absent (not (node.size == 0) && nat_lt node.size 1024) ∷ []

  link_finding : (part : Part) (keeps : Bool) (way new : Way) → kind_of (inode_mode m r n) ≡ Some kinds.Link → WalksNode m n node keeps done.met (Ok part) way new → first_failing done.met (inode_tests m r (taken_with n parent done)) ≡ first_failing (gone_through done.met (own_tests m n node)) size_test
  link_finding part keeps way new is walked = ap (first_failing done.met) (tests_by (Some kinds.Link) is) ∙ first_failing-append done.met (own_tests m n node) size_test
      ∙ ap (λ f. or_else f (first_failing (gone_through done.met (own_tests m n node)) size_test)) walked.answer

  -- a link
  pub link_walked : (keeps : Bool) (part : Part) (way new : Way) (seen : Seen) → kind_of (inode_mode m r n) ≡ Some kinds.Link → Remembers m r done way seen → WalksNode m n node keeps done.met (Ok part) way new → new.notes.dots ≡ way.notes.dots
      → (not (node.size == 0) && nat_lt node.size 1024) ≡ true → WalksInode {T = Unit {0}} m r n parent done (Ok tt) new seen
  link_walked keeps part way new seen is w walked dots fits = record {
    answer = link_finding part keeps way new is walked ∙ ap (λ b. first_failing (gone_through done.met (own_tests m n node)) (Tested codes.LinkSize n absent b ∷ [])) fits;
    remembers = remembers_plain (Some kinds.Link) way new seen is refl w
        (subst (λ (l : List ℕ). Marks new.met l) (sym (gone-append done.met (own_tests m n node) size_test)) walked.marks)
        (notes_plain (Some kinds.Link) keeps part way new is refl refl w.notes walked dots);
  }

  -- a link of a wrong size
  pub link_halts : (keeps : Bool) (part : Part) (old new way : Way) (seen : Seen) → kind_of (inode_mode m r n) ≡ Some kinds.Link → WalksNode m n node keeps done.met (Ok part) old new
      → (not (node.size == 0) && nat_lt node.size 1024) ≡ false → WalksInode {T = Unit {0}} m r n parent done (Err (halts.Finding (record { code = codes.LinkSize; inode = n; block = absent }))) way seen
  link_halts keeps part old new way seen is walked wrong = record {
    answer = link_finding part keeps old new is walked ∙ ap (λ b. first_failing (gone_through done.met (own_tests m n node)) (Tested codes.LinkSize n absent b ∷ [])) wrong;
    remembers = tt;
  }

  -- ---- a directory

  abbrev record_list : List Test
  record_list = records_tests m r n parent node [] done.listed (all_records node)

  directory_finding : (part : Part) (keeps : Bool) (old new : Way) → kind_of (inode_mode m r n) ≡ Some kinds.Directory → WalksNode m n node keeps done.met (Ok part) old new → first_failing done.met (inode_tests m r (taken_with n parent done)) ≡ first_failing (gone_through done.met (own_tests m n node)) record_list
  directory_finding part keeps old new is walked = ap (first_failing done.met) (tests_by (Some kinds.Directory) is) ∙ first_failing-append done.met (own_tests m n node) record_list
      ∙ ap (λ f. or_else f (first_failing (gone_through done.met (own_tests m n node)) record_list)) walked.answer

  -- the walk halts in its records
  pub records_halt : (d : Directory) (part : Part) (keeps : Bool) (halt : Halt) (old new way : Way) (after seen : Seen) → d.inode ≡ n → d.parent ≡ parent → d.node ≡ node → kind_of (inode_mode m r n) ≡ Some kinds.Directory → WalksNode m n node keeps done.met (Ok part) old new
      → WalksRecords m r d done.queue done.listed done.numbers (Err halt) after → WalksInode {T = Unit {0}} m r n parent done (Err halt) way seen
  records_halt d part keeps halt old new way after seen at from is_node is walked rows = record {
    answer = subst (λ f. HaltsAt f halt) (sym (directory_finding part keeps old new is walked))
        (subst (λ z. z) (λ i. HaltsAt (first_failing (gone_through done.met (own_tests m n node)) (records_tests m r (at i) (from i) (is_node i) [] done.listed (all_records (is_node i)))) halt) (rows.answer (gone_through done.met (own_tests m n node))));
    remembers = tt;
  }

  -- a directory
  pub directory_walked : (d : Directory) (part : Part) (keeps dots foreign : Bool) (way mid new : Way) (after seen : Seen) → d.inode ≡ n → d.parent ≡ parent → d.node ≡ node → kind_of (inode_mode m r n) ≡ Some kinds.Directory
      → Remembers m r done way after → WalksNode m n node keeps done.met (Ok part) way mid → mid.notes.dots ≡ way.notes.dots → WalksRecords m r d done.queue done.listed done.numbers (Ok dots) seen
      → new.met ≡ mid.met → foreign ≡ is_foreign_directory m node → new.notes.nodes ≡ note_if foreign n mid.notes.nodes → new.notes.dots ≡ note_if (not dots) n mid.notes.dots → new.notes.tails ≡ mid.notes.tails
      → WalksInode {T = Unit {0}} m r n parent done (Ok tt) new seen
  directory_walked d part keeps dots foreign way mid new after seen at from is_node is w walked same rows met_is foreign_is nodes dots_is tails =
      let directory : is_directory_kind (kind_of (inode_mode m r n)) ≡ true = ap is_directory_kind is in
      let special : is_special_kind (kind_of (inode_mode m r n)) ≡ false = ap is_special_kind is in
      let as_one : new.notes.nodes ≡ note_if (is_foreign_node m node || is_foreign_directory m node) n way.notes.nodes =
      nodes ∙ ap (note_if foreign n) walked.nodes ∙ note_twice (is_foreign_node m node) foreign n way.notes.nodes ∙ ap (λ b. note_if (is_foreign_node m node || b) n way.notes.nodes) foreign_is in
      record {
        answer = directory_finding part keeps way mid is walked
            ∙ subst (λ z. z) (λ i. first_failing (gone_through done.met (own_tests m n node)) (records_tests m r (at i) (from i) (is_node i) [] done.listed (all_records (is_node i))) ≡ None) (rows.answer (gone_through done.met (own_tests m n node)));
        remembers = record {
          met = subst (λ (ts : List Test). Marks new.met (gone_through done.met ts)) (sym (tests_by (Some kinds.Directory) is))
              (subst (λ (l : List ℕ). Marks new.met l) (sym (gone-append done.met (own_tests m n node) record_list ∙ records_meet m r n parent node [] done.listed (all_records node) (gone_through done.met (own_tests m n node))))
              (subst (λ (s : Members). Marks s (gone_through done.met (own_tests m n node))) (sym met_is) walked.marks));
          listing = subst (λ (b : Bool). (let ns = (if b then inodes_named_in m r.longfile node (all_records node) else []) in HasListed (done.queue ++ map (λ j. (j, n)) (new_ones ns done.listed)) (listed_after ns done.listed) seen.listing)) (sym directory)
              (subst (λ z. z) (λ i. (let ns = inodes_named_in m r.longfile (is_node i) (all_records (is_node i)) in HasListed (done.queue ++ map (λ j. (j, at i)) (new_ones ns done.listed)) (listed_after ns done.listed) seen.listing)) rows.listing);
          longs = subst (λ (b : Bool). HoldsNames m r.longfile ((if b then numbers_named_in m node (all_records node) else []) ++ done.numbers) seen.longs) (sym directory)
              (subst (λ (d' : Root). HoldsNames m r.longfile (numbers_named_in m d' (all_records d') ++ done.numbers) seen.longs) is_node rows.longs);
          notes = noted_more m r n done.taken positive there way.notes new.notes w.notes
              (as_one ∙ sym (ap (λ k. note_if (not (is_special_kind k) && (is_foreign_node m node || (is_directory_kind k && is_foreign_directory m node))) n way.notes.nodes) is))
              (λ none. dots_is ∙ ap (note_if (not dots) n) same
              ∙ ap (λ b. note_if (not b) n way.notes.dots) (subst (λ (d' : Root). is_foreign_directory m d' ≡ false → dots ≡ begins_with_dots m d') is_node rows.dots (not_noted foreign n mid.notes.nodes (sym nodes ∙ none) foreign_is))
              ∙ sym (ap (λ b. note_if (b && not (begins_with_dots m node)) n way.notes.dots) directory))
              (tails ∙ walked.tails ∙ sym (ap (λ b. note_if (not b && has_tail m node) n way.notes.tails) special));
        };
      }
    where
      -- a directory that isn't noted isn't foreign
      not_noted : (p : Bool) (n : ℕ) (o : Option ℕ) → note_if p n o ≡ None → p ≡ is_foreign_directory m node → is_foreign_directory m node ≡ false
      not_noted true n None e is = absurd (cc)
      not_noted true n (Some k) e is = absurd (cc)
      not_noted false n o e is = sym is
