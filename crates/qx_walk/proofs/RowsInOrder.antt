-- A directory's records, gone through one after another.
use Rattle.std.proofs.Common.{◌≡◌, ℕ, List, [], ◌∷◌, ◌++◌, refl, ap, sym, ◌∙◌, subst}
use Rattle.std.specs.Prelude.{Bool, false, IsTrue, Option, None, Result, Ok, Err, OnOk, IfOk, count_by, ◌==◌, ◌%◌, map, min}
use Rattle.std.proofs.lemmas.List.{append-nil}
use Rattle.std.proofs.lemmas.Result.{on_ok_weaker}
use Rattle.qx_geom.specs.declared.root.Root.{Root}
use Rattle.qx_nodes.specs.BlockMap.{BlockMap}
use Rattle.qx_nodes.specs.Content.{HasSize, levels_fit}
use Rattle.qx_view.specs.declared.findings.Finding.{Finding}
use Rattle.qx_view.proofs.HoleRecords.{given_by_present, tests_by_present}
use Rattle.qx_view.proofs.TestOrder.{first_failing-append, or_else}
use Rattle.qx_view.specs.Images.{Roots, all_records, present_records, raw_of, record_block}
use Rattle.qx_view.specs.Sound.{is_foreign_directory, long_number, numbers_named_in}
use Rattle.qx_view.specs.Walk.{first_failing, gone_through, inodes_named_in, listed_after, named_inode, new_ones, record_tests, records_tests}
use Rattle.qx_pointers.proofs.PassedTests.{halts_more}
use Rattle.qx_walk.proofs.KeptLists.{HaveSame, all_counted, all_listed, all_queued, tests_append, with_append}
use Rattle.qx_pointers.specs.declared.halt.Halt.{Halt}
use Rattle.qx_tables.specs.declared.listing.Listing.{Listing}
use Rattle.qx_tables.specs.declared.long_names.LongNames.{LongNames}
use Rattle.qx_walk.specs.declared.state.Directory.{Directory}
use Rattle.qx_walk.specs.declared.state.Seen.{Seen}
use Rattle.qx_pointers.specs.Halts.{Answers, HaltsAt}
use Rattle.qx_walk.specs.Kept.{Kept, with_records}
use Rattle.qx_walk.specs.Rows.{Holds, WalksRecord, WalksRecords, WalksThrough, begins_with_dots}
use Rattle.qx_tables.specs.Tables.{HasListed, HoldsNames}

-- ---- the first finding of two

-- where the first part has none, it is the second part's
answers_later : {T : Type 0} (f g : Option Finding) (result : Result T Halt) → f ≡ None → Answers g result → Answers (or_else f g) result
answers_later {T = T} f g result e a = subst (λ z. Answers {T = T} (or_else z g) result) (sym e) a

-- ---- records end to end

-- none were gone through yet
pub walks_none : {T : Type 0} (m : BlockMap) (r : Roots) (d : Directory) (kept : Kept) (x : T) (seen : Seen) → Holds m r.longfile kept seen → WalksThrough m r d [] kept (Ok x) seen
walks_none m r d kept x seen h = record { answer = λ met. refl; holds = h }

-- what an Ok holds isn't looked at
pub walks_as : {T U : Type 0} (m : BlockMap) (r : Roots) (d : Directory) (ks : List ℕ) (kept : Kept) (x : T) (y : U) (seen : Seen) → WalksThrough {T = T} m r d ks kept (Ok x) seen → WalksThrough {T = U} m r d ks kept (Ok y) seen
walks_as m r d ks kept x y seen w = record { answer = w.answer; holds = w.holds }

-- one record
pub walks_one : {T : Type 0} (m : BlockMap) (r : Roots) (d : Directory) (k : ℕ) (kept : Kept) (result : Result T Halt) (seen : Seen)
    → WalksRecord m r (record { inode = d.inode; parent = d.parent; block = record_block m d.node k }) (raw_of m d.node k) kept result seen
    → WalksThrough m r d (k ∷ []) kept result seen
walks_one {T = T} m r d k kept result seen w = record {
  answer = λ met. subst (λ z. Answers {T = T} (first_failing met z) result)
      (sym (append-nil (record_tests m r (record { inode = d.inode; parent = d.parent; block = record_block m d.node k }) kept.names kept.listed (raw_of m d.node k)))) (w.answer met);
  holds = w.holds;
}

-- more of them
pub walks_more : {T U : Type 0} (m : BlockMap) (r : Roots) (d : Directory) (ks js : List ℕ) (kept : Kept) (x : U) (result : Result T Halt) (mid seen : Seen)
    → WalksThrough {T = U} m r d ks kept (Ok x) mid → WalksThrough m r d js (with_records m r.longfile d.inode d.node ks kept) result seen
    → WalksThrough m r d (ks ++ js) kept result seen
walks_more {T = T} m r d ks js kept x result mid seen a b =
    let after : Kept = with_records m r.longfile d.inode d.node ks kept in
    record {
      answer = λ met. subst (λ z. Answers {T = T} z result)
          (sym (ap (first_failing met) (tests_append m r d.inode d.parent d.node ks js kept)
          ∙ first_failing-append met (records_tests m r d.inode d.parent d.node kept.names kept.listed ks) (records_tests m r d.inode d.parent d.node after.names after.listed js)))
          (answers_later (first_failing met (records_tests m r d.inode d.parent d.node kept.names kept.listed ks)) _ result (a.answer met)
          (b.answer (gone_through met (records_tests m r d.inode d.parent d.node kept.names kept.listed ks))));
      holds = subst (λ z. OnOk result (Holds m r.longfile z seen)) (sym (with_append m r.longfile d.inode d.node ks js kept)) b.holds;
    }

-- a halt is one of all records as well
pub walks_halts : {T U : Type 0} (m : BlockMap) (r : Roots) (d : Directory) (ks js : List ℕ) (kept : Kept) (halt : Halt) (mid seen : Seen)
    → WalksThrough {T = U} m r d ks kept (Err halt) mid → WalksThrough {T = T} m r d (ks ++ js) kept (Err halt) seen
walks_halts m r d ks js kept halt mid seen a =
    let after : Kept = with_records m r.longfile d.inode d.node ks kept in
    record {
      answer = λ met. subst (λ z. HaltsAt z halt)
          (sym (ap (first_failing met) (tests_append m r d.inode d.parent d.node ks js kept)
          ∙ first_failing-append met (records_tests m r d.inode d.parent d.node kept.names kept.listed ks) (records_tests m r d.inode d.parent d.node after.names after.listed js)))
          (halts_more halt (first_failing met (records_tests m r d.inode d.parent d.node kept.names kept.listed ks)) _ (a.answer met));
      holds = tt;
    }

-- ---- all records

-- what is listed is known by its members
pub listed_same : (left more : List (ℕ × ℕ)) (a b : List ℕ) (l : Listing) → left ≡ more → HaveSame a b → HasListed left a l → HasListed more b l
listed_same left more a b l e same h = record { taken = h.taken; queue = h.queue ∙ e; each = λ n low high. h.each n low high ∙ same.each n }

-- how often leaves were named is known by the count of each number
pub names_same : (m : BlockMap) (longfile : Root) (a b : List ℕ) (longs : LongNames) → ((n : ℕ) → count_by (λ k. k == n) a ≡ count_by (λ k. k == n) b) → HoldsNames m longfile a longs → HoldsNames m longfile b longs
names_same m longfile a b longs same h = record {
  size = h.size;
  leaves = h.leaves;
  named = λ k l e. h.named k l e ∙ ap (min 2) (same l.place.index);
}

-- what is kept before the first record
abbrev pub kept_before : List (ℕ × ℕ) → List ℕ → List ℕ → Kept
kept_before queue listed numbers = record { names = []; queue = queue; listed = listed; numbers = numbers }

-- the records of present leaves are all that count
pub walks_all : (m : BlockMap) (r : Roots) (d : Directory) (queue : List (ℕ × ℕ)) (listed numbers : List ℕ) (result : Result Bool Halt) (seen : Seen)
    → HasSize m → m.size % 32 ≡ 0 → IsTrue (levels_fit m d.node)
    → WalksThrough m r d (present_records m d.node) (kept_before queue listed numbers) result seen
    → IfOk result (λ dots. is_foreign_directory m d.node ≡ false → dots ≡ begins_with_dots m d.node)
    → WalksRecords m r d queue listed numbers result seen
walks_all m r d queue listed numbers result seen size whole fit w dots =
    let start : Kept = kept_before queue listed numbers in
    let after : Kept = with_records m r.longfile d.inode d.node (present_records m d.node) start in
    let inodes : inodes_named_in m r.longfile d.node (all_records d.node) ≡ inodes_named_in m r.longfile d.node (present_records m d.node) = given_by_present m d.node size whole fit (named_inode m r.longfile) refl in
    let named : numbers_named_in m d.node (all_records d.node) ≡ numbers_named_in m d.node (present_records m d.node) = given_by_present m d.node size whole fit long_number refl in
    record {
      answer = λ met. subst (λ z. Answers {T = Bool} (first_failing met z) result) (sym (tests_by_present m d.node size whole fit r d.inode d.parent [] listed)) (w.answer met);
      listing = subst (λ ns. OnOk result (HasListed (queue ++ map (λ n. (n, d.inode)) (new_ones ns listed)) (listed_after ns listed) seen.listing)) (sym inodes)
          (on_ok_weaker result (λ (h : Holds m r.longfile after seen). listed_same after.queue _ after.listed _ seen.listing (all_queued m r.longfile d.inode d.node (present_records m d.node) start) (all_listed m r.longfile d.inode d.node (present_records m d.node) start) h.listing) w.holds);
      longs = subst (λ ns. OnOk result (HoldsNames m r.longfile (ns ++ numbers) seen.longs)) (sym named)
          (on_ok_weaker result (λ (h : Holds m r.longfile after seen). names_same m r.longfile after.numbers _ seen.longs (λ n. all_counted m r.longfile d.inode d.node (λ k. k == n) (present_records m d.node) start) h.longs) w.holds);
      dots = dots;
    }
