-- What it says of blocks that no test of the walk fails.
use Rattle.std.proofs.Common.{◌≡◌, ℕ, zero, suc, ◌<◌, inl, inr, List, [], ◌∷◌, ◌++◌, length, refl, sym, ◌∙◌, ap, subst, arith}
use Rattle.std.specs.Prelude.{Bool, true, false, ◌&&◌, not, nat_eq, nat_lt, ◌==◌, if◌then◌else◌, Option, Some, None, is_some, option_and_then, unwrap_or, option_to_list, Contains, map, flat_map, bytes_eq, slice_get}
use Rattle.std.specs.List.{list_any}
use Rattle.std.proofs.lemmas.Bool.{eqb-true, eq-eqb, leb-true}
use Rattle.qx_geom.specs.declared.root.Root.{Root}
use Rattle.qx_fields.specs.Number.{number}
use Rattle.qx_geom.proofs.Members.{Contains-cases}
use Rattle.qx_geom.proofs.Truths.{not_true, or_left, or_right}
use Rattle.qx_geom.specs.Lists.{is_in}
use Rattle.qx_geom.specs.Pointer.{absent}
use Rattle.qx_model.specs.Tree.{Row, Slot, Unused, is_dots, named_by}
use Rattle.qx_nodes.specs.BlockMap.{BlockMap}
use Rattle.qx_nodes.specs.Visits.{Visit, visits_of}
use Rattle.qx_records.specs.InodeRecord.{kind_of}
use Rattle.qx_records.specs.NameRecord.{Bad, Long, RawRecord, Short}
use Rattle.qx_records.specs.NameRecord as records
use Rattle.qx_records.specs.NameSum.{sum_fits}
use Rattle.qx_view.specs.declared.findings.Code.TheVariants as codes
use Rattle.qx_view.specs.declared.findings.Code.{Code}
use Rattle.qx_view.specs.declared.findings.Finding.{Finding}
use Rattle.qx_view.proofs.TestOrder.{first_failing-append, if_none, or_else}
use Rattle.qx_view.specs.Walk.{gone_through}
use Rattle.qx_nodes.specs.LongNames.{long_name}
use Rattle.qx_view.specs.Images.{Roots, has_inode, raw_of, record_block}
use Rattle.qx_model.specs.Rooted.{is_plain}
use Rattle.qx_view.specs.Entries.{long_slot}
use Rattle.qx_view.specs.Reading.{slot_of}
use Rattle.qx_view.specs.Walk.{Met, Place, Test, Tested, first_failing, inode_mode, is_directory_inode, named_inode, node_tests, record_tests, records_tests, row_tests, slot_name, visit_tests}

-- no member of the list fails, whatever was met before
pub record Passing (es : List Test) : Type 0 where
  pub met : List ℕ
  pub none : first_failing met es ≡ None

-- where neither fails
both_none : (a b : Option Finding) → or_else a b ≡ None → (a ≡ None) × (b ≡ None)
both_none None b e = (refl, e)
both_none (Some f) b e = absurd (cc)

-- lists end to end
pub passing_parts : (as' bs : List Test) → Passing (as' ++ bs) → Passing as' × Passing bs
passing_parts as' bs p =
    let both : (first_failing p.met as' ≡ None) × (first_failing (gone_through p.met as') bs ≡ None) = both_none _ _ (sym (first_failing-append p.met as' bs) ∙ p.none) in
    (record { met = p.met; none = both.0 }, record { met = gone_through p.met as'; none = both.1 })

-- a test and the rest
pub passing_tested : (code : Code) (inode block : ℕ) (b : Bool) (es : List Test) → Passing (Tested code inode block b ∷ es) → (b ≡ true) × Passing es
passing_tested code inode block b es p =
    let both : (b ≡ true) × (first_failing p.met es ≡ None) = if_none b (first_failing p.met es) (record { code = code; inode = inode; block = block }) p.none in
    (both.0, record { met = p.met; none = both.1 })

-- the part of one element
pub passing_each : {A : Type 0} (f : A → List Test) (xs : List A) (x : A) → Passing (flat_map f xs) → Contains xs x → Passing (f x)
passing_each f [] x p (k, below, is) = absurd (omega arith)
passing_each f (y ∷ ys) x p c =
    let parts : Passing (f y) × Passing (flat_map f ys) = passing_parts (f y) (flat_map f ys) p in
    elim (Contains-cases y x ys c) [ inl is ↦ subst (λ z. Passing (f z)) is parts.0 | inr there ↦ passing_each f ys x parts.1 there ]

-- a node whose tests pass
pub record NodePasses (m : BlockMap) (node : Root) (fits : Bool) : Type 0 where
  pub fit : fits ≡ true
  pub undamaged : (v : Visit) → Contains (visits_of m node) v → v.block < m.count

-- a node's tests
pub node_passes : (m : BlockMap) (inode : ℕ) (node : Root) (fits : Bool) → Passing (node_tests m inode node fits) → NodePasses m node fits
node_passes m inode node fits p =
    let parts : (fits ≡ true) × Passing (flat_map (λ v. visit_tests m inode v) (visits_of m node)) = passing_tested codes.Levels inode absent fits _ p in
    record {
      fit = parts.0;
      undamaged = λ v c. omega (arith, leb-true (suc v.block) m.count (passing_tested codes.Pointer inode v.block (nat_lt v.block m.count) (Met inode v.block ∷ []) (passing_each (λ v. visit_tests m inode v) (visits_of m node) v parts.1 c)).0);
    }

-- a record whose tests pass, where these names and inodes came before
pub record RowPasses (m : BlockMap) (r : Roots) (d p : ℕ) (names : List (List ℕ)) (listed : List ℕ) (n : ℕ) (name : List ℕ) : Type 0 where
  pub plain : is_plain name ≡ true
  pub new : list_any (λ other. bytes_eq other name) names ≡ false
  pub dots : is_dots name ≡ true → n ≡ (if length name == 1 then d else p)
  pub there : is_dots name ≡ false → has_inode r.inodes n ≡ true
  pub kind : is_dots name ≡ false → is_some (kind_of (inode_mode m r n)) ≡ true
  pub once : is_dots name ≡ false → (is_directory_inode m r n && is_in listed n) ≡ false

-- a row's tests
pub row_passes : (m : BlockMap) (r : Roots) (at : Place) (names : List (List ℕ)) (listed : List ℕ) (n : ℕ) (name : List ℕ) → Passing (row_tests m r at names listed n name) → RowPasses m r at.inode at.parent names listed n name
row_passes m r at names listed n name p =
    let a : (is_plain name ≡ true) × Passing _ = passing_tested codes.NameByte at.inode at.block (is_plain name) _ p in
    let b : (not (list_any (λ other. bytes_eq other name) names) ≡ true) × Passing _ = passing_tested codes.SameName at.inode at.block (not (list_any (λ other. bytes_eq other name) names)) _ a.1 in
    go (is_dots name) refl a.0 (not_true _ b.0) b.1
  where
    go : (d : Bool) → is_dots name ≡ d → is_plain name ≡ true → list_any (λ other. bytes_eq other name) names ≡ false
        → Passing (if d then Tested codes.Dots at.inode at.block (n == (if length name == 1 then at.inode else at.parent)) ∷ []
        else Tested codes.NoInode at.inode at.block (has_inode r.inodes n) ∷ Tested codes.Kind at.inode at.block (is_some (kind_of (inode_mode m r n))) ∷ Tested codes.DirTwice at.inode at.block (not (is_directory_inode m r n && is_in listed n)) ∷ [])
        → RowPasses m r at.inode at.parent names listed n name
    go true e plain new q = record {
      plain = plain;
      new = new;
      dots = λ _. eqb-true _ _ (passing_tested codes.Dots at.inode at.block (n == (if length name == 1 then at.inode else at.parent)) [] q).0;
      there = λ f. absurd (cc);
      kind = λ f. absurd (cc);
      once = λ f. absurd (cc);
    }
    go false e plain new q =
        let x : (has_inode r.inodes n ≡ true) × Passing (Tested codes.Kind at.inode at.block (is_some (kind_of (inode_mode m r n))) ∷ Tested codes.DirTwice at.inode at.block (not (is_directory_inode m r n && is_in listed n)) ∷ []) = passing_tested codes.NoInode at.inode at.block (has_inode r.inodes n) _ q in
        let y : (is_some (kind_of (inode_mode m r n)) ≡ true) × Passing (Tested codes.DirTwice at.inode at.block (not (is_directory_inode m r n && is_in listed n)) ∷ []) = passing_tested codes.Kind at.inode at.block (is_some (kind_of (inode_mode m r n))) _ x.1 in
        let z : (not (is_directory_inode m r n && is_in listed n) ≡ true) × Passing [] = passing_tested codes.DirTwice at.inode at.block (not (is_directory_inode m r n && is_in listed n)) [] y.1 in
        record { plain = plain; new = new; dots = λ t. absurd (cc); there = λ _. x.0; kind = λ _. y.0; once = λ _. not_true (is_directory_inode m r n && is_in listed n) z.0 }

-- what a record that passes says
abbrev pub SlotPasses : BlockMap → Roots → Place → List (List ℕ) → List ℕ → Slot → Type 0
SlotPasses m r at names listed Unused = Unit {0}
SlotPasses m r at names listed (Row n name long) = RowPasses m r at.inode at.parent names listed n name

-- a record's tests
pub record_passes : (m : BlockMap) (r : Roots) (at : Place) (names : List (List ℕ)) (listed : List ℕ) (raw : RawRecord) → Passing (record_tests m r at names listed raw) → (s : Slot) × (slot_of m r.longfile raw ≡ Some s) × SlotPasses m r at names listed s
record_passes m r at names listed records.Unused p = (Unused, refl, tt)
record_passes m r at names listed (Bad count) p = absurd (let h : (false ≡ true) × Passing [] = passing_tested codes.Record at.inode at.block false [] p in let e : false ≡ true = h.0 in cc)
record_passes m r at names listed (Short n name) p = (Row n name None, refl, row_passes m r at names listed n name (passing_tested codes.Record at.inode at.block true _ p).1)
record_passes m r at names listed (Long n number sum) p = go (long_name m r.longfile number) (passing_tested codes.Record at.inode at.block true _ p).1
  where
    go : (o : Option (List ℕ)) → Passing (Tested codes.LongName at.inode at.block (is_some o) ∷ Tested codes.LongSum at.inode at.block (sum_fits sum (unwrap_or o [])) ∷ row_tests m r at names listed n (unwrap_or o []))
        → (s : Slot) × (long_slot n number sum o ≡ Some s) × SlotPasses m r at names listed s
    go None q = absurd (let h : (false ≡ true) × Passing _ = passing_tested codes.LongName at.inode at.block false _ q in let e : false ≡ true = h.0 in cc)
    go (Some name) q =
        let a : (true ≡ true) × Passing (Tested codes.LongSum at.inode at.block (sum_fits sum name) ∷ row_tests m r at names listed n name) = passing_tested codes.LongName at.inode at.block true _ q in
        let b : (sum_fits sum name ≡ true) × Passing (row_tests m r at names listed n name) = passing_tested codes.LongSum at.inode at.block (sum_fits sum name) _ a.1 in
        (Row n name (Some number), ap (λ c. if c then Some (Row n name (Some number)) else None) b.0, row_passes m r at names listed n name b.1)

-- each down passes, where these names and inodes came before the earlier
abbrev pub SlotsPass : BlockMap → Roots → ℕ → ℕ → List (List ℕ) → List ℕ → List Slot → Type 0
SlotsPass m r d p names listed [] = Unit {0}
SlotsPass m r d p names listed (Unused ∷ slots) = SlotsPass m r d p names listed slots
SlotsPass m r d p names listed (Row n name long ∷ slots) = RowPasses m r d p names listed n name × SlotsPass m r d p (name ∷ names) (option_to_list (named_by (Row n name long)) ++ listed) slots

-- the tests of a directory's records
pub records_pass : (m : BlockMap) (r : Roots) (d p : ℕ) (node : Root) (names : List (List ℕ)) (listed ks : List ℕ) → Passing (records_tests m r d p node names listed ks)
    → (slots : List Slot) × (map (λ k. slot_of m r.longfile (raw_of m node k)) ks ≡ map (λ s. Some s) slots) × SlotsPass m r d p names listed slots
records_pass m r d p node names listed [] q = ([], refl, tt)
records_pass m r d p node names listed (k ∷ ks) q =
    let at : Place = record { inode = d; parent = p; block = record_block m node k } in
    let raw : RawRecord = raw_of m node k in
    let parts : Passing (record_tests m r at names listed raw) × Passing (records_tests m r d p node (slot_name (slot_of m r.longfile raw) ++ names) (option_to_list (named_inode m r.longfile raw) ++ listed) ks)
    = passing_parts (record_tests m r at names listed raw) _ q in
    let one : (s : Slot) × (slot_of m r.longfile raw ≡ Some s) × SlotPasses m r at names listed s = record_passes m r at names listed raw parts.0 in
    go one.0 one.1 one.2 (slot_of m r.longfile raw) refl
    (λ o is. records_pass m r d p node (slot_name o ++ names) (option_to_list (option_and_then named_by o) ++ listed) ks
    (subst (λ z. Passing (records_tests m r d p node (slot_name z ++ names) (option_to_list (option_and_then named_by z) ++ listed) ks)) is parts.1))
  where
    go : (s : Slot) → slot_of m r.longfile (raw_of m node k) ≡ Some s → SlotPasses m r (record { inode = d; parent = p; block = record_block m node k }) names listed s
        → (o : Option Slot) → slot_of m r.longfile (raw_of m node k) ≡ o
        → ((z : Option Slot) → slot_of m r.longfile (raw_of m node k) ≡ z → (slots : List Slot) × (map (λ k. slot_of m r.longfile (raw_of m node k)) ks ≡ map (λ s. Some s) slots) × SlotsPass m r d p (slot_name z ++ names) (option_to_list (option_and_then named_by z) ++ listed) slots)
        → (slots : List Slot) × (slot_of m r.longfile (raw_of m node k) ∷ map (λ k. slot_of m r.longfile (raw_of m node k)) ks ≡ map (λ s. Some s) slots) × SlotsPass m r d p names listed slots
    go Unused is pass o _ more = let rest : (slots : List Slot) × (map (λ k. slot_of m r.longfile (raw_of m node k)) ks ≡ map (λ s. Some s) slots) × SlotsPass m r d p names listed slots = more (Some Unused) is in
        (Unused ∷ rest.0, (λ i. is i ∷ rest.1 i), rest.2)
    go (Row n name long) is pass o _ more = let rest : (slots : List Slot) × (map (λ k. slot_of m r.longfile (raw_of m node k)) ks ≡ map (λ s. Some s) slots) × SlotsPass m r d p (name ∷ names) (option_to_list (named_by (Row n name long)) ++ listed) slots = more (Some (Row n name long)) is in
        (Row n name long ∷ rest.0, (λ i. is i ∷ rest.1 i), (pass, rest.2))

-- what each down is
pub row_at : (m : BlockMap) (r : Roots) (d p : ℕ) (names : List (List ℕ)) (listed : List ℕ) (slots : List Slot) → SlotsPass m r d p names listed slots
    → (k n : ℕ) (name : List ℕ) (long : Option ℕ) → slice_get slots k ≡ Some (Row n name long) → (before : List (List ℕ)) × (after : List ℕ) × RowPasses m r d p before after n name
row_at m r d p names listed [] q k n name long e = absurd (cc)
row_at m r d p names listed (Unused ∷ slots) q zero n name long e = absurd (cc)
row_at m r d p names listed (Unused ∷ slots) q (suc k) n name long e = row_at m r d p names listed slots q k n name long e
row_at m r d p names listed (Row i other l ∷ slots) q zero n name long e =
    let a : i ≡ n = cc in let b : other ≡ name = cc in (names, listed, subst (λ z. RowPasses m r d p names listed z name) a (subst (λ z. RowPasses m r d p names listed i z) b q.0))
row_at m r d p names listed (Row i other l ∷ slots) q (suc k) n name long e = row_at m r d p (other ∷ names) (option_to_list (named_by (Row i other l)) ++ listed) slots q.1 k n name long e

-- a name is equal to itself
same_name : (xs : List ℕ) → bytes_eq xs xs ≡ true
same_name [] = refl
same_name (x ∷ xs) = ap (λ b. b && bytes_eq xs xs) (eq-eqb x x refl) ∙ same_name xs

-- no down has a name that came before
fresh_name : (m : BlockMap) (r : Roots) (d p : ℕ) (names : List (List ℕ)) (listed : List ℕ) (slots : List Slot) → SlotsPass m r d p names listed slots
    → (k n : ℕ) (name : List ℕ) (long : Option ℕ) → slice_get slots k ≡ Some (Row n name long) → list_any (λ other. bytes_eq other name) names ≡ false
fresh_name m r d p names listed [] q k n name long e = absurd (cc)
fresh_name m r d p names listed (Unused ∷ slots) q zero n name long e = absurd (cc)
fresh_name m r d p names listed (Unused ∷ slots) q (suc k) n name long e = fresh_name m r d p names listed slots q k n name long e
fresh_name m r d p names listed (Row i other l ∷ slots) q zero n name long e =
    let b : other ≡ name = cc in subst (λ z. list_any (λ x. bytes_eq x z) names ≡ false) b q.0.new
fresh_name m r d p names listed (Row i other l ∷ slots) q (suc k) n name long e =
    or_right (bytes_eq other name) (list_any (λ x. bytes_eq x name) names) (fresh_name m r d p (other ∷ names) (option_to_list (named_by (Row i other l)) ++ listed) slots q.1 k n name long e)

-- a row with the name of an earlier one
clash : (m : BlockMap) (r : Roots) (d p : ℕ) (names : List (List ℕ)) (listed : List ℕ) (slots : List Slot) (earlier name : List ℕ) → SlotsPass m r d p (earlier ∷ names) listed slots
    → (k n : ℕ) (long : Option ℕ) → slice_get slots k ≡ Some (Row n name long) → earlier ≡ name → ⊥
clash m r d p names listed slots earlier name q k n long e is =
    let differs : bytes_eq earlier name ≡ false = or_left (bytes_eq earlier name) _ (fresh_name m r d p (earlier ∷ names) listed slots q k n name long e) in
    let alike : bytes_eq earlier name ≡ true = subst (λ z. bytes_eq earlier z ≡ true) is (same_name earlier) in
    cc

-- names differ
pub names_differ : (m : BlockMap) (r : Roots) (d p : ℕ) (names : List (List ℕ)) (listed : List ℕ) (slots : List Slot) → SlotsPass m r d p names listed slots
    → (k j n i : ℕ) (name : List ℕ) (a b : Option ℕ) → slice_get slots k ≡ Some (Row n name a) → slice_get slots j ≡ Some (Row i name b) → k ≡ j
names_differ m r d p names listed [] q k j n i name a b e f = absurd (cc)
names_differ m r d p names listed (Unused ∷ slots) q zero j n i name a b e f = absurd (cc)
names_differ m r d p names listed (Unused ∷ slots) q (suc k) zero n i name a b e f = absurd (cc)
names_differ m r d p names listed (Unused ∷ slots) q (suc k) (suc j) n i name a b e f = ap (λ z. suc z) (names_differ m r d p names listed slots q k j n i name a b e f)
names_differ m r d p names listed (Row x other l ∷ slots) q zero zero n i name a b e f = refl
names_differ m r d p names listed (Row x other l ∷ slots) q zero (suc j) n i name a b e f =
    let is : other ≡ name = cc in absurd (clash m r d p names (option_to_list (named_by (Row x other l)) ++ listed) slots other name q.1 j i b f is)
names_differ m r d p names listed (Row x other l ∷ slots) q (suc k) zero n i name a b e f =
    let is : other ≡ name = cc in absurd (clash m r d p names (option_to_list (named_by (Row x other l)) ++ listed) slots other name q.1 k n a e is)
names_differ m r d p names listed (Row x other l ∷ slots) q (suc k) (suc j) n i name a b e f =
    ap (λ z. suc z) (names_differ m r d p (other ∷ names) (option_to_list (named_by (Row x other l)) ++ listed) slots q.1 k j n i name a b e f)

-- no down names a directory that was listed before
pub fresh_directory : (m : BlockMap) (r : Roots) (d p : ℕ) (names : List (List ℕ)) (listed : List ℕ) (slots : List Slot) → SlotsPass m r d p names listed slots
    → (k n : ℕ) (s : Slot) → slice_get slots k ≡ Some s → named_by s ≡ Some n → is_directory_inode m r n ≡ true → is_in listed n ≡ false
fresh_directory m r d p names listed [] q k n s e f g = absurd (cc)
fresh_directory m r d p names listed (Unused ∷ slots) q zero n s e f g =
    let is : Unused ≡ s = cc in let h : None ≡ Some n = subst (λ z. named_by z ≡ Some n) (sym is) f in absurd (cc)
fresh_directory m r d p names listed (Unused ∷ slots) q (suc k) n s e f g = fresh_directory m r d p names listed slots q k n s e f g
fresh_directory m r d p names listed (Row i other l ∷ slots) q zero n s e f g =
    let is : Row i other l ≡ s = cc in
    go (is_dots other) refl (subst (λ z. named_by z ≡ Some n) (sym is) f)
  where
    go : (b : Bool) → is_dots other ≡ b → (if b then None else Some i) ≡ Some n → is_in listed n ≡ false
    go true h f = absurd (cc)
    go false h f = let same : i ≡ n = cc in
        let both : (is_directory_inode m r n && is_in listed n) ≡ false = subst (λ z. (is_directory_inode m r z && is_in listed z) ≡ false) same (q.0.once h) in
        sym (ap (λ b. b && is_in listed n) g) ∙ both
fresh_directory m r d p names listed (Row i other l ∷ slots) q (suc k) n s e f g =
    out (option_to_list (named_by (Row i other l))) (fresh_directory m r d p (other ∷ names) (option_to_list (named_by (Row i other l)) ++ listed) slots q.1 k n s e f g)
  where
    out : (xs : List ℕ) → is_in (xs ++ listed) n ≡ false → is_in listed n ≡ false
    out [] h = h
    out (x ∷ xs) h = out xs (or_right (nat_eq x n) (is_in (xs ++ listed) n) h)
