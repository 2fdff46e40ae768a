-- Where the blocks have a tree, each test of the walk passes, but those of blocks that were met before.
use Rattle.std.proofs.Common.{◌≡◌, ◌≢◌, ℕ, zero, suc, ◌+◌, ◌/◌, ◌<◌, ◌⊎◌, inl, inr, List, [], ◌∷◌, ◌++◌, length, refl, sym, ◌∙◌, ap, subst, arith}
use Rattle.std.specs.Prelude.{Bool, true, false, ◌&&◌, not, nat_eq, nat_lt, ◌==◌, if◌then◌else◌, Option, Some, None, is_some, option_and_then, unwrap_or, option_to_list, Contains, map, flat_map, filter_map, bytes_eq, slice_get}
use Rattle.std.specs.List.{list_any}
use Rattle.std.proofs.lemmas.Bool.{eqb-true, eq-eqb, lt-ltb, or_from}
use Rattle.qx_geom.specs.declared.root.Root.{Root}
use Rattle.qx_fields.specs.Number.{number}
use Rattle.qx_geom.proofs.Members.{Contains-cases, Contains-cons, Contains-head, in_append_cases, in_cases, in_head, in_tail}
use Rattle.qx_geom.proofs.Truths.{and_left, and_right, not_so, not_true, or_right, true_or_false}
use Rattle.qx_geom.specs.Lists.{all_differ, each_below, is_in}
use Rattle.qx_model.specs.Tree.{Body, Directory, Entry, File, IsDirectory, Link, Names, NamesAt, Reached, Row, Slot, Special, Tree, Unused, down, entry_of, is_dots, is_special_body, named_by, slots_of, slots_of_body, slots_of_entry, top}
use Rattle.qx_nodes.specs.BlockMap.{BlockMap}
use Rattle.qx_nodes.specs.Content.{levels_fit}
use Rattle.qx_nodes.specs.NodeContents.{node_content}
use Rattle.qx_nodes.specs.Visits.{visits_of}
use Rattle.qx_records.specs.InodeRecord.{kind_of}
use Rattle.qx_records.specs.NameRecord.{Bad, Long, RawRecord, Short}
use Rattle.qx_records.specs.NameRecord as records
use Rattle.qx_records.specs.NameSum.{sum_fits}
use Rattle.qx_view.specs.declared.findings.Code.TheVariants as codes
use Rattle.qx_view.proofs.EntryContents.{body_special, holds_body, holds_kind, kind_in}
use Rattle.qx_view.proofs.OneTree.{parent_same}
use Rattle.qx_view.proofs.TakenInodes.{HasParent, taken_parent}
use Rattle.qx_view.proofs.TreeFound.{NamedAt, each_self, names_to_slots, slots_to_names}
use Rattle.qx_view.proofs.TreeFromTests.{each}
use Rattle.qx_view.proofs.WalkEnds.{Named, after_cases, first, firsts, firsts-append, inodes, named_listed, new_among, next}
use Rattle.qx_nodes.specs.LongNames.{long_name}
use Rattle.qx_view.specs.Images.{Roots, has_inode, inode_places, raw_of, record_block}
use Rattle.qx_model.specs.Owners.{OfInode, Owner}
use Rattle.qx_model.specs.Rooted.{AreRows, is_plain}
use Rattle.qx_view.specs.Entries.{IsBody, long_slot}
use Rattle.qx_view.specs.Reading.{HasNode, IsTreeOf, reader_of, slot_of, slots_read}
use Rattle.qx_view.specs.Sound.{is_special_inode, is_special_kind}
use Rattle.qx_view.specs.Walk.{Met, Place, Taken, Test, Tested, first_failing, inode_mode, inode_root, inode_tests, is_directory_inode, is_directory_kind, kind_tests, listed_after, met_of, named_inode, named_inodes, new_ones, node_tests, record_tests, records_tests, row_tests, slot_name, taken_from, taken_of, visit_tests}

-- each test of its own passes
abbrev pub AllTested : List Test → Type 0
AllTested [] = Unit {0}
AllTested (Tested code inode block b ∷ es) = (b ≡ true) × AllTested es
AllTested (Met inode block ∷ es) = AllTested es

-- so do those of lists end to end
pub AllTested-append : (as' bs : List Test) → AllTested as' → AllTested bs → AllTested (as' ++ bs)
AllTested-append [] bs a b = b
AllTested-append (Tested code inode block x ∷ as') bs a b = (a.0, AllTested-append as' bs a.1 b)
AllTested-append (Met inode block ∷ as') bs a b = AllTested-append as' bs a b

-- and of the parts of a list's elements
pub AllTested-flat : {A : Type 0} (f : A → List Test) (xs : List A) → ((x : A) → Contains xs x → AllTested (f x)) → AllTested (flat_map f xs)
AllTested-flat f [] each = tt
AllTested-flat f (x ∷ xs) each = AllTested-append (f x) (flat_map f xs) (each x (Contains-head x xs)) (AllTested-flat f xs (λ y c. each y (Contains-cons x y xs c)))

-- where they do, and no block is met twice, no test fails
pub none_from : (met : List ℕ) (es : List Test) → AllTested es → all_differ (met_of es) ≡ true → ((b : ℕ) → is_in (met_of es) b ≡ true → is_in met b ≡ false) → first_failing met es ≡ None
none_from met [] all once new = refl
none_from met (Tested code inode block x ∷ es) all once new =
    ap (λ b. if b then first_failing met es else Some (record { code = code; inode = inode; block = block })) all.0 ∙ none_from met es all.1 once new
none_from met (Met inode block ∷ es) all once new =
    ap (λ b. if not b then first_failing (block ∷ met) es else Some (record { code = codes.Twice; inode = inode; block = block })) (new block (in_head block (met_of es)))
    ∙ none_from (block ∷ met) es all (and_right (not (is_in (met_of es) block)) (all_differ (met_of es)) once)
    (λ b h. not_so (is_in (block ∷ met) b) (λ t. elim (in_cases block b met t) [
      | inl is ↦ true_or_false (is_in (met_of es) block) (subst (λ z. is_in (met_of es) z ≡ true) (sym is) h) (not_true _ (and_left (not (is_in (met_of es) block)) (all_differ (met_of es)) once))
      | inr old ↦ true_or_false (is_in met b) old (new b (in_tail block b (met_of es) h))
    ]))

-- what is new wasn't listed
new_out : (ns listed : List ℕ) (k : ℕ) → is_in (new_ones ns listed) k ≡ true → is_in listed k ≡ false
new_out [] listed k h = absurd (cc)
new_out (n ∷ ns) listed k h = go (is_in listed n) refl h (new_out ns listed k) (new_out ns (n ∷ listed) k)
  where
    go : (b : Bool) → is_in listed n ≡ b → is_in (if b then new_ones ns listed else n ∷ new_ones ns (n ∷ listed)) k ≡ true
        → (is_in (new_ones ns listed) k ≡ true → is_in listed k ≡ false) → (is_in (new_ones ns (n ∷ listed)) k ≡ true → is_in (n ∷ listed) k ≡ false) → is_in listed k ≡ false
    go true e h old new = old h
    go false e h old new = elim (in_cases n k (new_ones ns (n ∷ listed)) h) [ inl is ↦ subst (λ z. is_in listed z ≡ false) is e | inr r ↦ or_right (nat_eq n k) (is_in listed k) (new r) ]

-- and is new once
new_differ : (ns listed : List ℕ) → all_differ (new_ones ns listed) ≡ true
new_differ [] listed = refl
new_differ (n ∷ ns) listed = go (is_in listed n) (new_differ ns listed) (new_differ ns (n ∷ listed))
  where
    go : (b : Bool) → all_differ (new_ones ns listed) ≡ true → all_differ (new_ones ns (n ∷ listed)) ≡ true → all_differ (if b then new_ones ns listed else n ∷ new_ones ns (n ∷ listed)) ≡ true
    go true old new = old
    go false old new = λ i. not (not_so (is_in (new_ones ns (n ∷ listed)) n) (λ t. true_or_false (is_in (n ∷ listed) n) (in_head n listed) (new_out ns (n ∷ listed) n t)) i) && new i

-- numbers that differ, with others that do
pub differ-append : (xs ys : List ℕ) → all_differ xs ≡ true → all_differ ys ≡ true → ((k : ℕ) → is_in xs k ≡ true → is_in ys k ≡ false) → all_differ (xs ++ ys) ≡ true
differ-append [] ys a b apart = b
differ-append (x ∷ xs) ys a b apart =
    λ i. not (not_so (is_in (xs ++ ys) x) (λ t. elim (in_append_cases xs ys x t) [
      | inl l ↦ true_or_false (is_in xs x) l (not_true _ (and_left (not (is_in xs x)) (all_differ xs) a))
      | inr r ↦ true_or_false (is_in ys x) r (apart x (in_head x xs))
    ]) i) && differ-append xs ys (and_right (not (is_in xs x)) (all_differ xs) a) b (λ k h. apart k (in_tail x k xs h)) i

-- what is to be taken differs, and is listed
pub record IsQueue (queue : List (ℕ × ℕ)) (listed : List ℕ) : Type 0 where
  pub differ : all_differ (firsts queue) ≡ true
  pub listed_all : (n : ℕ) → is_in (firsts queue) n ≡ true → is_in listed n ≡ true

-- so it is after one was taken
queue_next : (e : ℕ × ℕ) (queue : List (ℕ × ℕ)) (ns listed : List ℕ) → IsQueue (e ∷ queue) listed → IsQueue (queue ++ map (λ n. (n, e.0)) (new_ones ns listed)) (listed_after ns listed)
queue_next e queue ns listed q = record {
  differ = subst (λ z. all_differ z ≡ true) (sym (firsts-append queue e.0 (new_ones ns listed)))
      (differ-append (firsts queue) (new_ones ns listed) (and_right (not (is_in (firsts queue) e.0)) (all_differ (firsts queue)) q.differ) (new_differ ns listed)
      (λ k h. not_so (is_in (new_ones ns listed) k) (λ t. true_or_false (is_in listed k) (q.listed_all k (in_tail e.0 k (firsts queue) h)) (new_out ns listed k t))));
  listed_all = λ n h. elim (in_append_cases (firsts queue) (new_ones ns listed) n (subst (λ z. is_in z n ≡ true) (firsts-append queue e.0 (new_ones ns listed)) h)) [
    | inl a ↦ named_listed ns listed n (inr (q.listed_all n (in_tail e.0 n (firsts queue) a)))
    | inr b ↦ named_listed ns listed n (inl (new_among ns listed n b))
  ];
}

-- what is taken later was to be taken or wasn't listed
taken_new : (m : BlockMap) (r : Roots) (fuel : ℕ) (queue : List (ℕ × ℕ)) (listed : List ℕ) (n : ℕ) → is_in (inodes (taken_from m r fuel queue listed)) n ≡ true → (is_in (firsts queue) n ≡ true) ⊎ (is_in listed n ≡ false)
taken_new m r zero queue listed n h = absurd (cc)
taken_new m r (suc fuel) [] listed n h = absurd (cc)
taken_new m r (suc fuel) (e ∷ queue) listed n h =
    let ns : List ℕ = named_inodes m r e.0 in
    elim (in_cases e.0 n (inodes (taken_from m r fuel (queue ++ map (λ n. (n, e.0)) (new_ones ns listed)) (listed_after ns listed))) h) [
      | inl is ↦ inl (subst (λ z. is_in (e.0 ∷ firsts queue) z ≡ true) is (in_head e.0 (firsts queue)))
      | inr there ↦ elim (taken_new m r fuel (queue ++ map (λ n. (n, e.0)) (new_ones ns listed)) (listed_after ns listed) n there) [
        | inl q ↦ elim (in_append_cases (firsts queue) (new_ones ns listed) n (subst (λ z. is_in z n ≡ true) (firsts-append queue e.0 (new_ones ns listed)) q)) [
          | inl a ↦ inl (in_tail e.0 n (firsts queue) a)
          | inr b ↦ inr (new_out ns listed n b)
        ]
        | inr out ↦ inr (not_so (is_in listed n) (λ t. true_or_false (is_in (listed_after ns listed) n) (named_listed ns listed n (inr t)) out))
      ]
    ]

-- no inode is taken twice
pub taken_differ : (m : BlockMap) (r : Roots) (fuel : ℕ) (queue : List (ℕ × ℕ)) (listed : List ℕ) → IsQueue queue listed → all_differ (inodes (taken_from m r fuel queue listed)) ≡ true
taken_differ m r zero queue listed q = refl
taken_differ m r (suc fuel) [] listed q = refl
taken_differ m r (suc fuel) (e ∷ queue) listed q =
    let ns : List ℕ = named_inodes m r e.0 in
    let more : List (ℕ × ℕ) = queue ++ map (λ n. (n, e.0)) (new_ones ns listed) in
    let here : is_in listed e.0 ≡ true = q.listed_all e.0 (in_head e.0 (firsts queue)) in
    let out : is_in (inodes (taken_from m r fuel more (listed_after ns listed))) e.0 ≡ false = not_so (is_in (inodes (taken_from m r fuel more (listed_after ns listed))) e.0) (λ t. elim (taken_new m r fuel more (listed_after ns listed) e.0 t) [
      | inl a ↦ elim (in_append_cases (firsts queue) (new_ones ns listed) e.0 (subst (λ z. is_in z e.0 ≡ true) (firsts-append queue e.0 (new_ones ns listed)) a)) [
        | inl b ↦ true_or_false (is_in (firsts queue) e.0) b (not_true _ (and_left (not (is_in (firsts queue) e.0)) (all_differ (firsts queue)) q.differ))
        | inr b ↦ true_or_false (is_in listed e.0) here (new_out ns listed e.0 b)
      ]
      | inr b ↦ true_or_false (is_in (listed_after ns listed) e.0) (named_listed ns listed e.0 (inr here)) b
    ]) in
    λ i. not (out i) && taken_differ m r fuel more (listed_after ns listed) (queue_next e queue ns listed q) i

-- inode 1, or an inode that one of these names
abbrev pub Origin : BlockMap → Roots → (ℕ → Type 0) → ℕ → Type 0
Origin m r from n = (n ≡ 1) ⊎ ((d : ℕ) × from d × (is_in (named_inodes m r d) n ≡ true))

-- what was listed was named by a directory that was taken before
pub taken_origin : (m : BlockMap) (r : Roots) (fuel : ℕ) (queue : List (ℕ × ℕ)) (listed gone : List ℕ) → ((n : ℕ) → is_in (firsts queue) n ≡ true → Named m r n)
    → ((n : ℕ) → is_in listed n ≡ true → Origin m r (λ d. (is_in gone d ≡ true) × Named m r d) n)
    → ((n : ℕ) → is_in (inodes (taken_from m r fuel queue listed)) n ≡ true → is_in gone n ≡ false) → all_differ (inodes (taken_from m r fuel queue listed)) ≡ true
    → (t : Taken) → Contains (taken_from m r fuel queue listed) t → (n : ℕ) → is_in t.listed n ≡ true → Origin m r (λ d. (d ≢ t.inode) × Named m r d) n
taken_origin m r zero queue listed gone known from out once t c n h = absurd (omega (arith, c.1))
taken_origin m r (suc fuel) [] listed gone known from out once t c n h = absurd (omega (arith, c.1))
taken_origin m r (suc fuel) (e ∷ queue) listed gone known from out once t c n h =
    let ns : List ℕ = named_inodes m r e.0 in
    let more : List (ℕ × ℕ) = queue ++ map (λ n. (n, e.0)) (new_ones ns listed) in
    let rest : List Taken = taken_from m r fuel more (listed_after ns listed) in
    let here : Taken = record { inode = e.0; parent = e.1; listed = listed } in
    let named : Named m r e.0 = known e.0 (in_head e.0 (firsts queue)) in
    elim (Contains-cases here t rest c) [
      | inl is ↦
          let back : is_in listed n ≡ true = subst (λ z. is_in z.listed n ≡ true) (sym is) h in
          elim (from n back) [
            | inl one ↦ inl one
            | inr d ↦ inr (d.0, ((λ same. true_or_false (is_in gone d.0) d.1.0 (subst (λ z. is_in gone z ≡ false) (sym (same ∙ ap (λ z. z.inode) (sym is))) (out e.0 (in_head e.0 (inodes rest))))), d.1.1), d.2)
          ]
      | inr there ↦ taken_origin m r fuel more (listed_after ns listed) (e.0 ∷ gone)
          (λ k q. elim (in_append_cases (firsts queue) (new_ones ns listed) k (subst (λ z. is_in z k ≡ true) (firsts-append queue e.0 (new_ones ns listed)) q)) [
            | inl a ↦ known k (in_tail e.0 k (firsts queue) a)
            | inr b ↦ next named (new_among ns listed k b)
          ])
          (λ k q. elim (after_cases ns listed k q) [
            | inl old ↦ elim (from k old) [ inl one ↦ inl one | inr d ↦ inr (d.0, (in_tail e.0 d.0 gone d.1.0, d.1.1), d.2) ]
            | inr new ↦ inr (e.0, (in_head e.0 gone, named), new_among ns listed k new)
          ])
          (λ k q. not_so (is_in (e.0 ∷ gone) k) (λ z. elim (in_cases e.0 k gone z) [
            | inl is ↦ true_or_false (is_in (inodes rest) e.0) (subst (λ w. is_in (inodes rest) w ≡ true) (sym is) q) (not_true _ (and_left (not (is_in (inodes rest) e.0)) (all_differ (inodes rest)) once))
            | inr old ↦ true_or_false (is_in gone k) old (out k (in_tail e.0 k (inodes rest) q))
          ]))
          (and_right (not (is_in (inodes rest) e.0)) (all_differ (inodes rest)) once) t there n h
    ]

-- what a down is beside what came before it
pub record RowFact (m : BlockMap) (r : Roots) (d p n : ℕ) (name : List ℕ) : Type 0 where
  pub plain : is_plain name ≡ true
  pub dots : is_dots name ≡ true → n ≡ (if length name == 1 then d else p)
  pub there : is_dots name ≡ false → has_inode r.inodes n ≡ true
  pub kind : is_dots name ≡ false → is_some (kind_of (inode_mode m r n)) ≡ true

-- what the rows of a directory are beside each other and what came before
pub record DirectoryFacts (m : BlockMap) (r : Roots) (d p : ℕ) (names : List (List ℕ)) (listed : List ℕ) (slots : List Slot) : Type 0 where
  pub fact : (k n : ℕ) (name : List ℕ) (long : Option ℕ) → slice_get slots k ≡ Some (Row n name long) → RowFact m r d p n name
  pub differ : (k j n i : ℕ) (name : List ℕ) (a b : Option ℕ) → slice_get slots k ≡ Some (Row n name a) → slice_get slots j ≡ Some (Row i name b) → k ≡ j
  pub once : (k j n : ℕ) (s u : Slot) → slice_get slots k ≡ Some s → slice_get slots j ≡ Some u → named_by s ≡ Some n → named_by u ≡ Some n → is_directory_inode m r n ≡ true → k ≡ j
  pub fresh : (k n : ℕ) (name : List ℕ) (long : Option ℕ) → slice_get slots k ≡ Some (Row n name long) → list_any (λ other. bytes_eq other name) names ≡ false
  pub new : (k n : ℕ) (s : Slot) → slice_get slots k ≡ Some s → named_by s ≡ Some n → is_directory_inode m r n ≡ true → is_in listed n ≡ false

-- names that are alike are the same
same_bytes : (xs ys : List ℕ) → bytes_eq xs ys ≡ true → xs ≡ ys
same_bytes [] [] e = refl
same_bytes [] (y ∷ ys) e = absurd (cc)
same_bytes (x ∷ xs) [] e = absurd (cc)
same_bytes (x ∷ xs) (y ∷ ys) e = λ i. eqb-true x y (and_left (nat_eq x y) (bytes_eq xs ys) e) i ∷ same_bytes xs ys (and_right (nat_eq x y) (bytes_eq xs ys) e) i

-- 0 is no successor
zero_suc : (k : ℕ) → 0 ≡ suc k → ⊥
zero_suc k e = omega arith

-- the rows behind the first
facts_tail : (m : BlockMap) (r : Roots) (d p : ℕ) (names : List (List ℕ)) (listed : List ℕ) (x : Slot) (slots : List Slot) → DirectoryFacts m r d p names listed (x ∷ slots) → DirectoryFacts m r d p (slot_name (Some x) ++ names) (option_to_list (named_by x) ++ listed) slots
facts_tail m r d p names listed x slots f = record {
  fact = λ k n name long at. f.fact (suc k) n name long at;
  differ = λ k j n i name a b at bt. omega (arith, f.differ (suc k) (suc j) n i name a b at bt);
  once = λ k j n s u at bt g h is. omega (arith, f.once (suc k) (suc j) n s u at bt g h is);
  fresh = λ k n name long at. by_name x refl k n name long at;
  new = λ k n s at g is. by_named (named_by x) refl k n s at g is;
}
  where
    by_name : (y : Slot) → x ≡ y → (k n : ℕ) (name : List ℕ) (long : Option ℕ) → slice_get slots k ≡ Some (Row n name long) → list_any (λ other. bytes_eq other name) (slot_name (Some y) ++ names) ≡ false
    by_name Unused is k n name long at = f.fresh (suc k) n name long at
    by_name (Row i other l) is k n name long at =
        or_from (bytes_eq other name) (list_any (λ z. bytes_eq z name) names)
        (not_so (bytes_eq other name) (λ t. zero_suc k (f.differ 0 (suc k) i n name l long (ap (λ z. Some z) (is ∙ ap (λ z. Row i z l) (same_bytes other name t))) at)))
        (f.fresh (suc k) n name long at)

    by_named : (o : Option ℕ) → named_by x ≡ o → (k n : ℕ) (s : Slot) → slice_get slots k ≡ Some s → named_by s ≡ Some n → is_directory_inode m r n ≡ true → is_in (option_to_list o ++ listed) n ≡ false
    by_named None is k n s at g dir = f.new (suc k) n s at g dir
    by_named (Some i) is k n s at g dir =
        or_from (nat_eq i n) (is_in listed n)
        (not_so (nat_eq i n) (λ t. zero_suc k (f.once 0 (suc k) n x s refl at (is ∙ ap (λ z. Some z) (eqb-true i n t)) g dir)))
        (f.new (suc k) n s at g dir)

-- the tests of a row pass
row_tested : (m : BlockMap) (r : Roots) (at : Place) (names : List (List ℕ)) (listed : List ℕ) (n : ℕ) (name : List ℕ) → RowFact m r at.inode at.parent n name → list_any (λ other. bytes_eq other name) names ≡ false → (is_dots name ≡ false → (is_directory_inode m r n && is_in listed n) ≡ false) → AllTested (row_tests m r at names listed n name)
row_tested m r at names listed n name f fresh new = (f.plain, (ap (λ b. not b) fresh, go (is_dots name) refl))
  where
    go : (b : Bool) → is_dots name ≡ b → AllTested (if b then Tested codes.Dots at.inode at.block (n == (if length name == 1 then at.inode else at.parent)) ∷ []
        else Tested codes.NoInode at.inode at.block (has_inode r.inodes n) ∷ Tested codes.Kind at.inode at.block (is_some (kind_of (inode_mode m r n))) ∷ Tested codes.DirTwice at.inode at.block (not (is_directory_inode m r n && is_in listed n)) ∷ [])
    go true e = (eq-eqb n _ (f.dots e), tt)
    go false e = (f.there e, (f.kind e, (ap (λ b. not b) (new e), tt)))

-- not both hold
and_false : (a b : Bool) → (a ≡ true → b ≡ false) → (a && b) ≡ false
and_false true b h = h refl
and_false false b h = refl

-- a row that is neither `.` nor `..` names its inode
not_dots : (n : ℕ) (name : List ℕ) (long : Option ℕ) → is_dots name ≡ false → named_by (Row n name long) ≡ Some n
not_dots n name long e = ap (λ b. if b then None else Some n) e

-- the tests of a record pass
record_tested : (m : BlockMap) (r : Roots) (at : Place) (names : List (List ℕ)) (listed : List ℕ) (raw : RawRecord) (x : Slot) (slots : List Slot) → slot_of m r.longfile raw ≡ Some x → DirectoryFacts m r at.inode at.parent names listed (x ∷ slots) → AllTested (record_tests m r at names listed raw)
record_tested m r at names listed records.Unused x slots is f = tt
record_tested m r at names listed (Bad c) x slots is f = absurd (cc)
record_tested m r at names listed (Short n name) x slots is f =
    let same : Row n name None ≡ x = cc in
    let here : slice_get (x ∷ slots) 0 ≡ Some (Row n name None) = ap (λ z. Some z) (sym same) in
    (refl, row_tested m r at names listed n name (f.fact 0 n name None here) (f.fresh 0 n name None here) (λ e. and_false (is_directory_inode m r n) (is_in listed n) (λ dir. f.new 0 n (Row n name None) here (not_dots n name None e) dir)))
record_tested m r at names listed (Long n number sum) x slots is f = (refl, go (long_name m r.longfile number) is)
  where
    go : (o : Option (List ℕ)) → long_slot n number sum o ≡ Some x → AllTested (Tested codes.LongName at.inode at.block (is_some o) ∷ Tested codes.LongSum at.inode at.block (sum_fits sum (unwrap_or o [])) ∷ row_tests m r at names listed n (unwrap_or o []))
    go None e = absurd (cc)
    go (Some name) e = by_sum (sum_fits sum name) refl e
      where
        by_sum : (b : Bool) → sum_fits sum name ≡ b → (if b then Some (Row n name (Some number)) else None) ≡ Some x → AllTested (Tested codes.LongName at.inode at.block true ∷ Tested codes.LongSum at.inode at.block (sum_fits sum name) ∷ row_tests m r at names listed n name)
        by_sum false h e = absurd (cc)
        by_sum true h e =
            let same : Row n name (Some number) ≡ x = cc in
            let here : slice_get (x ∷ slots) 0 ≡ Some (Row n name (Some number)) = ap (λ z. Some z) (sym same) in
            (refl, (h, row_tested m r at names listed n name (f.fact 0 n name (Some number) here) (f.fresh 0 n name (Some number) here) (λ e. and_false (is_directory_inode m r n) (is_in listed n) (λ dir. f.new 0 n (Row n name (Some number)) here (not_dots n name (Some number) e) dir))))

-- and those of a directory's records
pub records_tested : (m : BlockMap) (r : Roots) (d p : ℕ) (node : Root) (names : List (List ℕ)) (listed ks : List ℕ) (slots : List Slot) → map (λ k. slot_of m r.longfile (raw_of m node k)) ks ≡ map (λ s. Some s) slots → DirectoryFacts m r d p names listed slots → AllTested (records_tests m r d p node names listed ks)
records_tested m r d p node names listed [] slots e f = tt
records_tested m r d p node names listed (k ∷ ks) [] e f = absurd (cc)
records_tested m r d p node names listed (k ∷ ks) (x ∷ slots) e f =
    let head : slot_of m r.longfile (raw_of m node k) ≡ Some x = cc in
    let rest : map (λ k. slot_of m r.longfile (raw_of m node k)) ks ≡ map (λ s. Some s) slots = cc in
    AllTested-append (record_tests m r (record { inode = d; parent = p; block = record_block m node k }) names listed (raw_of m node k)) _
    (record_tested m r (record { inode = d; parent = p; block = record_block m node k }) names listed (raw_of m node k) x slots head f)
    (subst (λ o. AllTested (records_tests m r d p node (slot_name o ++ names) (option_to_list (option_and_then named_by o) ++ listed) ks)) (sym head)
    (records_tested m r d p node (slot_name (Some x) ++ names) (option_to_list (named_by x) ++ listed) ks slots rest (facts_tail m r d p names listed x slots f)))

-- what is taken is one of the inodes that are
pub in_inodes : (ts : List Taken) (t : Taken) → Contains ts t → is_in (inodes ts) t.inode ≡ true
in_inodes [] t c = absurd (omega (arith, c.1))
in_inodes (x ∷ ts) t c = elim (Contains-cases x t ts c) [ inl is ↦ subst (λ z. is_in (inodes (x ∷ ts)) z.inode ≡ true) is (in_head x.inode (inodes ts)) | inr there ↦ in_tail x.inode t.inode (inodes ts) (in_inodes ts t there) ]

-- a directory of the tree, as its blocks have it
pub record DirectoryRead (m : BlockMap) (r : Roots) (t : Tree) (n : ℕ) : Type 0 where
  pub slots : List Slot
  pub parent : ℕ
  pub slots_are : slots_of t n ≡ slots
  pub read : slots_read m r.longfile (inode_root m r n) ≡ map (λ s. Some s) slots
  pub is : IsDirectory t n parent

module _ (m : BlockMap) (r : Roots) (t : Tree) (is : IsTreeOf m r t) where
  -- an inode has the kind of its entry
  pub kind_here : (n : ℕ) (e : Entry) (at : entry_of t n ≡ Some e) → kind_of (inode_mode m r n) ≡ Some (kind_in e.body)
  kind_here n e at =
      let i = (is.each n e at).is in
      sym (ap (λ a. kind_of a.mode) i.attr) ∙ i.kind_is ∙ ap (λ k. Some k) (holds_kind (reader_of m r.longfile) (node_content m (inode_root m r n)) i.kind e i.holds)

  -- so it is a special exactly where its entry is one
  pub special_here : (n : ℕ) (e : Entry) → entry_of t n ≡ Some e → is_special_inode m r n ≡ is_special_body e.body
  special_here n e at = ap (λ o. is_special_kind o) (kind_here n e at) ∙ sym (body_special e.body)

  -- and unless it is one, its node holds the entry's body
  body_here : (n : ℕ) (e : Entry) → entry_of t n ≡ Some e → is_special_body e.body ≡ false → IsBody (reader_of m r.longfile) (node_content m (inode_root m r n)) (kind_in e.body) e.body
  body_here n e at own = let i = (is.each n e at).is in holds_body (reader_of m r.longfile) (node_content m (inode_root m r n)) i.kind e i.holds own

  -- a directory of the tree is read from its records
  pub directory_read : (n : ℕ) (e : Entry) → entry_of t n ≡ Some e → is_directory_inode m r n ≡ true → DirectoryRead m r t n
  directory_read n e at dir = by_body e.body refl (sym (ap (λ o. is_directory_kind o) (kind_here n e at)) ∙ dir) (body_here n e at)
    where
      by_body : (b : Body) → e.body ≡ b → is_directory_kind (Some (kind_in b)) ≡ true → (is_special_body b ≡ false → IsBody (reader_of m r.longfile) (node_content m (inode_root m r n)) (kind_in b) b) → DirectoryRead m r t n
      by_body (Directory slots p) body d q = record { slots = slots; parent = p; slots_are = ap (λ o. slots_of_entry o) at ∙ ap (λ b. slots_of_body b) body; read = q refl; is = (e, slots, at, body) }
      by_body (File c) body d q = absurd (cc)
      by_body (Link c) body d q = absurd (cc)
      by_body Special body d q = absurd (cc)

  -- what a place in the tree's slots says of its directory
  pub has_slots : (d k : ℕ) (x : Slot) → slice_get (slots_of t d) k ≡ Some x → (e : Entry) × (entry_of t d ≡ Some e) × (is_directory_inode m r d ≡ true)
  has_slots d k x at = go (entry_of t d) refl at
    where
      by_body : (b : Body) → slice_get (slots_of_body b) k ≡ Some x → is_directory_kind (Some (kind_in b)) ≡ true
      by_body (Directory slots p) at = refl
      by_body (File c) at = absurd (cc)
      by_body (Link c) at = absurd (cc)
      by_body Special at = absurd (cc)

      go : (o : Option Entry) → entry_of t d ≡ o → slice_get (slots_of_entry o) k ≡ Some x → (e : Entry) × (entry_of t d ≡ Some e) × (is_directory_inode m r d ≡ true)
      go None here at = absurd (cc)
      go (Some e) here at = (e, here, ap (λ o. is_directory_kind o) (kind_here d e here) ∙ by_body e.body at)

  -- the inodes that a directory's records name
  named_are : (d n : ℕ) → is_directory_inode m r d ≡ true → named_inodes m r d ≡ filter_map (λ k. named_inode m r.longfile (raw_of m (inode_root m r d) k)) (each_below ((inode_root m r d).size / 32) (λ k. k))
  named_are d n dir = ap (λ b. if b then filter_map (λ k. named_inode m r.longfile (raw_of m (inode_root m r d) k)) (each_below ((inode_root m r d).size / 32) (λ k. k)) else []) dir

  -- only a directory names inodes
  names_in_directory : (d n : ℕ) → is_in (named_inodes m r d) n ≡ true → is_directory_inode m r d ≡ true
  names_in_directory d n h = go (is_directory_inode m r d) h
    where
      go : (b : Bool) → is_in (if b then filter_map (λ k. named_inode m r.longfile (raw_of m (inode_root m r d) k)) (each_below ((inode_root m r d).size / 32) (λ k. k)) else []) n ≡ true → b ≡ true
      go true h = refl
      go false h = absurd (cc)

  -- its records are its slots
  read_self : (d : ℕ) (f : DirectoryRead m r t d) → map (λ k. slot_of m r.longfile (raw_of m (inode_root m r d) k)) (each_below ((inode_root m r d).size / 32) (λ k. k)) ≡ map (λ s. Some s) f.slots
  read_self d f = ap (λ ks. map (λ k. slot_of m r.longfile (raw_of m (inode_root m r d) k)) ks) (each_self ((inode_root m r d).size / 32)) ∙ f.read

  -- what its records name, its slots name
  pub names_from : (d n : ℕ) (e : Entry) → entry_of t d ≡ Some e → is_in (named_inodes m r d) n ≡ true → Names t d n
  names_from d n e at h =
      let f : DirectoryRead m r t d = directory_read d e at (names_in_directory d n h) in
      let w : NamedAt f.slots n = names_to_slots (λ k. slot_of m r.longfile (raw_of m (inode_root m r d) k)) (each_below ((inode_root m r d).size / 32) (λ k. k)) f.slots n (read_self d f) (subst (λ z. is_in z n ≡ true) (named_are d n (names_in_directory d n h)) h) in
      (w.place, (w.slot, subst (λ z. slice_get z w.place ≡ Some w.slot) (sym f.slots_are) w.at, w.names))

  -- and back
  pub to_named : (d k n : ℕ) → NamesAt t d k n → is_in (named_inodes m r d) n ≡ true
  to_named d k n (x, at, names) =
      let w : (e : Entry) × (entry_of t d ≡ Some e) × (is_directory_inode m r d ≡ true) = has_slots d k x at in
      let f : DirectoryRead m r t d = directory_read d w.0 w.1 w.2 in
      subst (λ z. is_in z n ≡ true) (sym (named_are d n w.2)) (slots_to_names (λ k. slot_of m r.longfile (raw_of m (inode_root m r d) k)) (each_below ((inode_root m r d).size / 32) (λ k. k)) f.slots n k x (read_self d f) (subst (λ z. slice_get z k ≡ Some x) f.slots_are at) names)

  -- what the walk names is reached
  pub named_reached : (n : ℕ) → Named m r n → Reached t n
  named_reached n first = top
  named_reached n (next {d} h k) =
      let up : Reached t d = named_reached d h in
      let e : (e : Entry) × (entry_of t d ≡ Some e) = is.rooted.closed d up in down up (names_from d n e.0 e.1 k)

  -- the list begins with inode 1
  start : (k : ℕ) → is_in (firsts ((1, 1) ∷ [])) k ≡ true → Named m r k
  start k h = elim (in_cases 1 k [] h) [ inl same ↦ subst (Named m r) same first | inr none ↦ absurd (true_or_false false none refl) ]

  -- which is its own parent
  start_queue : (e : ℕ × ℕ) → Contains ((1, 1) ∷ []) e → HasParent m r e.0 e.1 × Named m r e.0
  start_queue e (zero, below, same) = subst (λ z. HasParent m r z.0 z.1 × Named m r z.0) same (inl (refl, refl), first)
  start_queue e (suc k, below, same) = absurd (omega arith)

  -- the list's begin differs and is listed
  pub queue_is : IsQueue ((1, 1) ∷ []) (1 ∷ [])
  queue_is = record { differ = refl; listed_all = λ n h. h }

  -- an inode that the walk takes is the tree's
  pub record TakenIn (u : Taken) : Type 0 where
    pub named : Named m r u.inode
    pub parent : HasParent m r u.inode u.parent
    pub entry : Entry
    pub at : entry_of t u.inode ≡ Some entry

  -- each inode that is taken is the tree's
  pub taken_in : (u : Taken) → Contains (taken_of m r) u → TakenIn u
  taken_in u c =
      let both : HasParent m r u.inode u.parent × Named m r u.inode = taken_parent m r (inode_places r + 1) ((1, 1) ∷ []) (1 ∷ []) start_queue u c in
      let e : (e : Entry) × (entry_of t u.inode ≡ Some e) = is.rooted.closed u.inode (named_reached u.inode both.1) in
      record { named = both.1; parent = both.0; entry = e.0; at = e.1 }

  -- what is named has an entry
  entry_named : (n : ℕ) → Named m r n → (e : Entry) × (entry_of t n ≡ Some e)
  entry_named n h = is.rooted.closed n (named_reached n h)

  -- two rows that name one directory are one
  one_row : (d k c j n : ℕ) → NamesAt t d k n → NamesAt t c j n → is_directory_inode m r n ≡ true → Named m r n → (d ≡ c) × (k ≡ j)
  one_row d k c j n a b dir named =
      let e : (e : Entry) × (entry_of t n ≡ Some e) = entry_named n named in
      is.rooted.once d k c j n (directory_read n e.0 e.1 dir).parent a b (directory_read n e.0 e.1 dir).is

  -- the parent with which a directory is taken is the tree's
  taken_parent_is : (u : Taken) (c : Contains (taken_of m r) u) (dir : is_directory_inode m r u.inode ≡ true) → (directory_read u.inode (taken_in u c).entry (taken_in u c).at dir).parent ≡ u.parent
  taken_parent_is u c dir =
      let f : DirectoryRead m r t u.inode = directory_read u.inode (taken_in u c).entry (taken_in u c).at dir in
      elim (taken_in u c).parent [
        | inl one ↦ parent_same t 1 f.parent 1 (subst (λ z. IsDirectory t z f.parent) one.0 f.is) is.rooted.top ∙ sym one.1
        | inr up ↦
            let e : (e : Entry) × (entry_of t u.parent ≡ Some e) = entry_named u.parent up.0 in
            let names : Names t u.parent u.inode = names_from u.parent u.inode e.0 e.1 up.1 in
            let above : Names t f.parent u.inode = is.rooted.parent u.inode f.parent f.is (λ same. is.rooted.no_top u.parent (subst (λ z. Names t u.parent z) same names)) in
            (one_row f.parent above.0 u.parent names.0 u.inode above.1 names.1 dir (taken_in u c).named).0
      ]

  -- the down `.` or `..`
  dots_are : (d p n : ℕ) (name : List ℕ) (k : ℕ) (long : Option ℕ) (slots : List Slot) → AreRows d p slots → slice_get slots k ≡ Some (Row n name long) → is_dots name ≡ true → n ≡ (if length name == 1 then d else p)
  dots_are d p n [] k long slots rows at e = absurd (cc)
  dots_are d p n (a ∷ []) k long slots rows at e = rows.dot k n long (at ∙ ap (λ z. Some (Row n (z ∷ []) long)) (eqb-true a 46 e))
  dots_are d p n (a ∷ b ∷ []) k long slots rows at e =
      rows.dots k n long (at ∙ (λ i. Some (Row n (eqb-true a 46 (and_left (a == 46) (b == 46) e) i ∷ eqb-true b 46 (and_right (a == 46) (b == 46) e) i ∷ []) long)))
  dots_are d p n (a ∷ b ∷ c ∷ rest) k long slots rows at e = absurd (cc)

  -- the rows of a directory that is taken
  directory_facts : (u : Taken) (c : Contains (taken_of m r) u) (dir : is_directory_inode m r u.inode ≡ true) → DirectoryFacts m r u.inode u.parent [] u.listed (directory_read u.inode (taken_in u c).entry (taken_in u c).at dir).slots
  directory_facts u c dir =
      let f : DirectoryRead m r t u.inode = directory_read u.inode (taken_in u c).entry (taken_in u c).at dir in
      let rows : AreRows u.inode u.parent f.slots = subst (λ z. AreRows u.inode u.parent z) f.slots_are (is.rooted.rows u.inode u.parent (subst (λ p. IsDirectory t u.inode p) (taken_parent_is u c dir) f.is)) in
      let names_at : (k n : ℕ) (x : Slot) → slice_get f.slots k ≡ Some x → named_by x ≡ Some n → NamesAt t u.inode k n = λ k n x at names. (x, subst (λ z. slice_get z k ≡ Some x) (sym f.slots_are) at, names) in
      let named_of : (k n : ℕ) → NamesAt t u.inode k n → Named m r n = λ k n a. next (taken_in u c).named (to_named u.inode k n a) in
      record {
        fact = λ k n name long at. record {
          plain = rows.plain k n name long at;
          dots = λ e. dots_are u.inode u.parent n name k long f.slots rows at e;
          there = λ e. let x : (e : Entry) × (entry_of t n ≡ Some e) = entry_named n (named_of k n (names_at k n (Row n name long) at (not_dots n name long e))) in (is.each n x.0 x.1).there;
          kind = λ e. let x : (e : Entry) × (entry_of t n ≡ Some e) = entry_named n (named_of k n (names_at k n (Row n name long) at (not_dots n name long e))) in ap (λ o. is_some o) (kind_here n x.0 x.1);
        };
        differ = rows.differ;
        once = λ k j n s w at bt g h d. (one_row u.inode k u.inode j n (names_at k n s at g) (names_at j n w bt h) d (named_of k n (names_at k n s at g))).1;
        fresh = λ k n name long at. refl;
        new = λ k n s at g d. not_so (is_in u.listed n) (λ listed.
            let mine : NamesAt t u.inode k n = names_at k n s at g in
            elim (taken_origin m r (inode_places r + 1) ((1, 1) ∷ []) (1 ∷ []) [] start
            (λ z h. elim (in_cases 1 z [] h) [ inl same ↦ inl (sym same) | inr none ↦ absurd (true_or_false false none refl) ]) (λ z h. refl)
            (taken_differ m r (inode_places r + 1) ((1, 1) ∷ []) (1 ∷ []) queue_is) u c n listed) [
              | inl one ↦ is.rooted.no_top u.inode (k, subst (λ z. NamesAt t u.inode k z) one mine)
              | inr other ↦
                  let e : (e : Entry) × (entry_of t other.0 ≡ Some e) = entry_named other.0 other.1.1 in
                  let theirs : Names t other.0 n = names_from other.0 n e.0 e.1 other.2 in
                  other.1.0 (one_row other.0 theirs.0 u.inode k n theirs.1 mine d (named_of k n mine)).0
            ]);
      }

  -- ---- all tests pass

  -- the tests of what a node of the tree meets pass
  visit_tested : (i : ℕ) (o : Owner) (node : Root) → HasNode m r t o node → AllTested (flat_map (λ v. visit_tests m i v) (visits_of m node))
  visit_tested i o node h = AllTested-flat (λ v. visit_tests m i v) (visits_of m node) (λ v c. (lt-ltb v.block m.count (is.undamaged o v (node, h, c)), tt))

  -- and those of the node
  pub node_tested : (i : ℕ) (o : Owner) (node : Root) (fits : Bool) → HasNode m r t o node → fits ≡ true → AllTested (node_tests m i node fits)
  node_tested i o node fits h e = (e, visit_tested i o node h)

  -- a link's size is within the bounds
  size_test : (size : ℕ) → 0 < size → size < 1024 → (not (size == 0) && nat_lt size 1024) ≡ true
  size_test size pos below = λ i. not (not_so (size == 0) (λ e. let z : size ≡ 0 = eqb-true size 0 e in zero_suc 0 (absurd (omega (arith, pos, z)))) i) && lt-ltb size 1024 below i

  -- the tests of an inode that is taken pass
  pub inode_tested : (u : Taken) → Contains (taken_of m r) u → AllTested (inode_tests m r u)
  inode_tested u c =
      let i : TakenIn u = taken_in u c in
      subst (λ o. AllTested (kind_tests m r u (inode_root m r u.inode) o)) (sym (kind_here u.inode i.entry i.at)) (go i.entry.body (body_here u.inode i.entry i.at) own_tested (kind_here u.inode i.entry i.at))
    where
      own_tested : is_special_body (taken_in u c).entry.body ≡ false → AllTested (node_tests m u.inode (inode_root m r u.inode) (levels_fit m (inode_root m r u.inode)))
      own_tested own =
          let i : TakenIn u = taken_in u c in
          node_tested u.inode (OfInode u.inode) (inode_root m r u.inode) (levels_fit m (inode_root m r u.inode)) (i.entry, i.at, own, refl) ((is.each u.inode i.entry i.at).levels own)

      go : (b : Body) → (is_special_body b ≡ false → IsBody (reader_of m r.longfile) (node_content m (inode_root m r u.inode)) (kind_in b) b)
          → (is_special_body b ≡ false → AllTested (node_tests m u.inode (inode_root m r u.inode) (levels_fit m (inode_root m r u.inode))))
          → kind_of (inode_mode m r u.inode) ≡ Some (kind_in b) → AllTested (kind_tests m r u (inode_root m r u.inode) (Some (kind_in b)))
      go Special q own kind = tt
      go (File content) q own kind = own refl
      go (Link target) q own kind = AllTested-append (node_tests m u.inode (inode_root m r u.inode) (levels_fit m (inode_root m r u.inode))) _
          (own refl) (size_test (inode_root m r u.inode).size (q refl).1 (q refl).2, tt)
      go (Directory slots p) q own kind =
          let dir : is_directory_inode m r u.inode ≡ true = ap (λ o. is_directory_kind o) kind in
          let f : DirectoryRead m r t u.inode = directory_read u.inode (taken_in u c).entry (taken_in u c).at dir in
          AllTested-append (node_tests m u.inode (inode_root m r u.inode) (levels_fit m (inode_root m r u.inode))) _ (own refl)
          (records_tested m r u.inode u.parent (inode_root m r u.inode) [] u.listed (each_below ((inode_root m r u.inode).size / 32) (λ k. k)) f.slots (read_self u.inode f) (directory_facts u c dir))
