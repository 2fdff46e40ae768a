-- What a directory's tests say that pass: its slots, and that what it names is there.
use Rattle.std.proofs.Common.{◌≡◌, ℕ, zero, suc, ◌+◌, ◌*◌, ◌/◌, ◌<◌, List, [], ◌∷◌, refl, sym, ◌∙◌, ap, subst, arith}
use Rattle.std.specs.Prelude.{Bool, true, false, ◌||◌, nat_le, ◌==◌, if◌then◌else◌, Option, Some, None, is_some, map, filter_map, slice_get, slice_index, slice_range}
use Rattle.std.proofs.lemmas.Bool.{eq-eqb}
use Rattle.qx_geom.specs.declared.root.Root.{Root}
use Rattle.qx_fields.specs.declared.order.Order.{Order}
use Rattle.qx_records.specs.declared.kind.Kind.{Kind}
use Rattle.qx_records.specs.declared.kind.Kind.TheVariants as kinds
use Rattle.qx_fields.specs.Number.{field, number}
use Rattle.qx_geom.proofs.Truths.{true_or_false}
use Rattle.qx_geom.specs.Lists.{each_below, is_in}
use Rattle.qx_model.specs.Tree.{Row, Slot, Unused, is_dots, named_by}
use Rattle.qx_nodes.specs.BlockMap.{BlockMap}
use Rattle.qx_nodes.specs.Content.{levels_fit, piece_of}
use Rattle.qx_records.specs.InodeRecord.{kind_of}
use Rattle.qx_records.specs.NameRecord.{Bad, Long, Short, raw_in}
use Rattle.qx_records.specs.NameRecord as records
use Rattle.qx_records.specs.NameSum.{sum_fits}
use Rattle.qx_view.proofs.PassingTests.{NodePasses, Passing, RowPasses, SlotsPass, node_passes, passing_parts, records_pass, row_at}
use Rattle.qx_view.proofs.TreeFound.{NamedAt, each_self, names_to_slots}
use Rattle.qx_nodes.specs.LongNames.{long_name}
use Rattle.qx_view.specs.Images.{Roots, has_inode, raw_of}
use Rattle.qx_view.specs.Entries.{long_slot}
use Rattle.qx_view.specs.Reading.{slot_of, slots_read}
use Rattle.qx_view.specs.Walk.{Taken, inode_mode, inode_root, is_directory_inode, is_directory_kind, kind_tests, named_inode, named_inodes, node_tests, records_tests}

-- a directory's kind is one
pub directory_kind : (k : Option Kind) → is_directory_kind k ≡ true → k ≡ Some kinds.Directory
directory_kind None e = absurd (cc)
directory_kind (Some kinds.Directory) e = refl
directory_kind (Some kinds.File) e = absurd (cc)
directory_kind (Some kinds.Link) e = absurd (cc)
directory_kind (Some kinds.Special) e = absurd (cc)

-- a down that names an inode
pub record IsRow (s : Slot) (n : ℕ) : Type 0 where
  pub name : List ℕ
  pub long : Option ℕ
  pub is : s ≡ Row n name long
  pub plain : is_dots name ≡ false

-- a slot that names an inode is a row
pub named_row : (s : Slot) (n : ℕ) → named_by s ≡ Some n → IsRow s n
named_row Unused n e = absurd (cc)
named_row (Row i name long) n e = go (is_dots name) refl e
  where
    go : (b : Bool) → is_dots name ≡ b → (if b then None else Some i) ≡ Some n → IsRow (Row i name long) n
    go true d f = absurd (cc)
    go false d f = let same : i ≡ n = cc in record { name = name; long = long; is = ap (λ z. Row z name long) same; plain = d }

-- a slot comes from a record
pub slot_from : (g : ℕ → Option Slot) (ks : List ℕ) (slots : List Slot) (k : ℕ) (s : Slot) → map g ks ≡ map (λ s. Some s) slots → slice_get slots k ≡ Some s → (i : ℕ) × (g i ≡ Some s)
slot_from g ks [] k s e at = absurd (cc)
slot_from g [] (x ∷ slots) k s e at = absurd (cc)
slot_from g (i ∷ ks) (x ∷ slots) zero s e at = let head : g i ≡ Some x = cc in let is : x ≡ s = cc in (i, head ∙ ap (λ z. Some z) is)
slot_from g (i ∷ ks) (x ∷ slots) (suc k) s e at = let rest : map g ks ≡ map (λ s. Some s) slots = cc in slot_from g ks slots k s rest at

-- no down names inode 0
pub row_positive : (m : BlockMap) (longfile : Root) (o : Order) (bytes : List ℕ) (n : ℕ) (name : List ℕ) (long : Option ℕ) → slot_of m longfile (raw_in o bytes) ≡ Some (Row n name long) → 0 < n
unfolding raw_in
row_positive m longfile o bytes n name long e = go (field o 4 bytes 0) (slice_index bytes 4) (field o 4 bytes 0 == 0) (slice_index bytes 4 == 0) (nat_le (slice_index bytes 4) 27) (slice_index bytes 4 == 255) (field o 4 bytes 8) (field o 4 bytes 12) refl e
  where
    long_case : (i number sum : ℕ) (x : Option (List ℕ)) → long_slot i number sum x ≡ Some (Row n name long) → i ≡ n
    long_case i number sum None f = absurd (cc)
    long_case i number sum (Some y) f = by_sum (sum_fits sum y) f
      where
        by_sum : (b : Bool) → (if b then Some (Row i y (Some number)) else None) ≡ Some (Row n name long) → i ≡ n
        by_sum true f = cc
        by_sum false f = absurd (cc)

    go : (i c : ℕ) (a b d f : Bool) (number sum : ℕ) → (i == 0) ≡ a → slot_of m longfile (if a || b then records.Unused else if d then Short i (slice_range bytes 5 (5 + c)) else if f then Long i number sum else Bad c) ≡ Some (Row n name long) → 0 < n
    go i c true b d f number sum z e = absurd (cc)
    go i c false true d f number sum z e = absurd (cc)
    go i c false false true f number sum z e = let same : i ≡ n = cc in positive i n same z
      where
        positive : (i n : ℕ) → i ≡ n → (i == 0) ≡ false → 0 < n
        positive i zero is z = absurd (true_or_false (i == 0) (eq-eqb i 0 is) z)
        positive i (suc n) is z = omega arith
    go i c false false false true number sum z e = positive i n (long_case i number sum (long_name m longfile number) e) z
      where
        positive : (i n : ℕ) → i ≡ n → (i == 0) ≡ false → 0 < n
        positive i zero is z = absurd (true_or_false (i == 0) (eq-eqb i 0 is) z)
        positive i (suc n) is z = omega arith
    go i c false false false false number sum z e = absurd (cc)

module _ (m : BlockMap) (r : Roots) (n : ℕ) (t : Taken) where
  -- a directory whose tests pass: its node and its slots
  pub record DirectoryFound : Type 0 where
    pub node : NodePasses m (inode_root m r n) (levels_fit m (inode_root m r n))
    pub slots : List Slot
    pub read : slots_read m r.longfile (inode_root m r n) ≡ map (λ s. Some s) slots
    pub pass : SlotsPass m r t.inode t.parent [] t.listed slots

  -- a directory whose tests pass has a node and slots
  pub directory_passes : Passing (kind_tests m r t (inode_root m r n) (kind_of (inode_mode m r n))) → is_directory_inode m r n ≡ true → DirectoryFound
  directory_passes passing d =
      let node : Root = inode_root m r n in
      let p : Passing (kind_tests m r t node (Some kinds.Directory)) = subst (λ k. Passing (kind_tests m r t node k)) (directory_kind (kind_of (inode_mode m r n)) d) passing in
      let parts : Passing (node_tests m t.inode node (levels_fit m node)) × Passing (records_tests m r t.inode t.parent node [] t.listed (each_below (node.size / 32) (λ k. k)))
      = passing_parts (node_tests m t.inode node (levels_fit m node)) (records_tests m r t.inode t.parent node [] t.listed (each_below (node.size / 32) (λ k. k))) p in
      let found : (slots : List Slot) × (map (λ k. slot_of m r.longfile (raw_of m node k)) (each_below (node.size / 32) (λ k. k)) ≡ map (λ s. Some s) slots) × SlotsPass m r t.inode t.parent [] t.listed slots
      = records_pass m r t.inode t.parent node [] t.listed (each_below (node.size / 32) (λ k. k)) parts.1 in
      record {
        node = node_passes m t.inode node (levels_fit m node) parts.0;
        slots = found.0;
        read = ap (λ ks. map (λ k. slot_of m r.longfile (raw_of m node k)) ks) (sym (each_self (node.size / 32))) ∙ found.1;
        pass = found.2;
      }

-- only a directory names inodes
pub names_in_directory : (m : BlockMap) (r : Roots) (d n : ℕ) → is_in (named_inodes m r d) n ≡ true → (is_directory_inode m r d ≡ true) × (is_in (filter_map (λ k. named_inode m r.longfile (raw_of m (inode_root m r d) k)) (each_below ((inode_root m r d).size / 32) (λ k. k))) n ≡ true)
names_in_directory m r d n h = go (is_directory_inode m r d) h
  where
    go : (b : Bool) → is_in (if b then filter_map (λ k. named_inode m r.longfile (raw_of m (inode_root m r d) k)) (each_below ((inode_root m r d).size / 32) (λ k. k)) else []) n ≡ true
        → (b ≡ true) × (is_in (filter_map (λ k. named_inode m r.longfile (raw_of m (inode_root m r d) k)) (each_below ((inode_root m r d).size / 32) (λ k. k))) n ≡ true)
    go true h = (refl, h)
    go false h = absurd (cc)

-- its records are its slots
pub read_self : (m : BlockMap) (r : Roots) (d : ℕ) (slots : List Slot) → slots_read m r.longfile (inode_root m r d) ≡ map (λ s. Some s) slots → map (λ k. slot_of m r.longfile (raw_of m (inode_root m r d) k)) (each_below ((inode_root m r d).size / 32) (λ k. k)) ≡ map (λ s. Some s) slots
read_self m r d slots read = ap (λ ks. map (λ k. slot_of m r.longfile (raw_of m (inode_root m r d) k)) ks) (each_self ((inode_root m r d).size / 32)) ∙ read

-- an inode that a directory names is there, has a kind and is not 0
pub record IsThere (m : BlockMap) (r : Roots) (n : ℕ) : Type 0 where
  pub there : has_inode r.inodes n ≡ true
  pub kind : is_some (kind_of (inode_mode m r n)) ≡ true
  pub positive : 0 < n

-- what a directory names whose tests pass is there
pub named_passes : (m : BlockMap) (r : Roots) (d : ℕ) (t : Taken) (n : ℕ) → Passing (kind_tests m r t (inode_root m r d) (kind_of (inode_mode m r d))) → is_in (named_inodes m r d) n ≡ true → IsThere m r n
named_passes m r d t n passing k =
    let dir : (is_directory_inode m r d ≡ true) × (is_in (filter_map (λ k. named_inode m r.longfile (raw_of m (inode_root m r d) k)) (each_below ((inode_root m r d).size / 32) (λ k. k))) n ≡ true) = names_in_directory m r d n k in
    let f : DirectoryFound m r d t = directory_passes m r d t passing dir.0 in
    let at : NamedAt f.slots n = names_to_slots (λ k. slot_of m r.longfile (raw_of m (inode_root m r d) k)) (each_below ((inode_root m r d).size / 32) (λ k. k)) f.slots n (read_self m r d f.slots f.read) dir.1 in
    let w : IsRow at.slot n = named_row at.slot n at.names in
    let here : slice_get f.slots at.place ≡ Some (Row n w.name w.long) = at.at ∙ ap (λ z. Some z) w.is in
    let pass : (before : List (List ℕ)) × (after : List ℕ) × RowPasses m r t.inode t.parent before after n w.name = row_at m r t.inode t.parent [] t.listed f.slots f.pass at.place n w.name w.long here in
    let from : (i : ℕ) × (slot_of m r.longfile (raw_of m (inode_root m r d) i) ≡ Some (Row n w.name w.long)) = slot_from (λ k. slot_of m r.longfile (raw_of m (inode_root m r d) k)) (each_below ((inode_root m r d).size / 32) (λ k. k)) f.slots at.place (Row n w.name w.long) (read_self m r d f.slots f.read) here in
    record { there = pass.2.there w.plain; kind = pass.2.kind w.plain; positive = row_positive m r.longfile m.order (piece_of m (inode_root m r d) (from.0 * 32) 32) n w.name w.long from.1 }
