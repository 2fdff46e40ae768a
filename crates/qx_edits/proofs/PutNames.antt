-- A long name that is put into a Longfile's content, and one whose leaf is taken out.
use Rattle.std.proofs.Common.{◌≡◌, ◌≢◌, ℕ, ◌+◌, ◌*◌, ◌/◌, ◌%◌, ◌<◌, ◌≤◌, List, [], ◌∷◌, ◌++◌, length, drop, take, replicate, inl, inr, refl, sym, ◌∙◌, ap, subst, arith, lit<}
use Rattle.std.specs.Prelude.{Bool, true, false, ◌&&◌, not, filter, max, nat_lt, ◌==◌, cond, None, Some, slice_range, if◌then◌else◌}
use Rattle.std.proofs.Math.Nat.{mul-div_cancel, mul-mod_left}
use Rattle.std.proofs.lemmas.Bool.{lt-ltb, ne_eqb}
use Rattle.std.proofs.lemmas.List.{append_assoc, length-append}
use Rattle.qx_bytes.specs.Ranges.{put_at}
use Rattle.qx_bytes.proofs.Pieces.{Piece, joined, range_of_piece}
use Rattle.qx_fields.specs.Number.{digits}
use Rattle.qx_fields.specs.declared.order.Order.{Order}
use Rattle.qx_fields.proofs.Fields.{field_spelled, length_digits}
use Rattle.qx_geom.specs.Lists.{is_in}
use Rattle.qx_geom.specs.Pointer.{ceil_div}
use Rattle.qx_geom.specs.Positions.{present_after, with_number}
use Rattle.qx_geom.proofs.LevelCounts.{ceil_div-below, part_below}
use Rattle.qx_geom.proofs.ImagesAndFilters.{filter_in, in_filter}
use Rattle.qx_geom.proofs.Members.{in_head, in_tail}
use Rattle.qx_geom.proofs.PresentLeaves.{number_in, others_in, present_after_members, with_number_from}
use Rattle.qx_geom.proofs.Truths.{not_so, true_or_false}
use Rattle.qx_nodes.specs.LongNames.{name_in}
use Rattle.qx_nodes.specs.NodeContents.{IsSameContent, NodeContent}
use Rattle.qx_records.specs.NameRecord.{long_name_in}
use Rattle.qx_records.proofs.WrittenRecords.{long_name_read, plain, spelled}
use Rattle.qx_ptree.specs.declared.change.Change.{Change}
use Rattle.qx_ptree.specs.Fates.{leaves_after, written_by}
use Rattle.qx_batch.specs.Changes.{changed_content}
use Rattle.qx_batch.specs.PutNodes.{put_content}
use Rattle.qx_edits.specs.NameEdits.{AddsName, DropsName}
use Rattle.qx_edits.specs.PutContents.{IsOverBlocks, IsPutInto}
use Rattle.qx_edits.proofs.NamedContents.{name_absent}
use Rattle.qx_edits.proofs.PutLeaves.{kept_leaf, put_beside, put_here}

-- ---- lists of leaves

-- all that pass a test stay
all_pass : (test : ℕ → Bool) (xs : List ℕ) → ((i : ℕ) → is_in xs i ≡ true → test i ≡ true) → filter test xs ≡ xs
all_pass test [] h = refl
all_pass test (x ∷ xs) h =
    ap (λ (b : Bool). cond b (x ∷ filter test xs) (filter test xs)) (h x (in_head x xs))
    ∙ ap (λ ys. x ∷ ys) (all_pass test xs (λ i there. h i (in_tail x i xs there)))

-- ---- a leaf with a name

module _ (order : Order) (name : List ℕ) (named : 0 < length name) (short : length name ≤ 510) where
  abbrev pieces : List Piece
  pieces = spelled order 2 (length name) ∷ plain name ∷ []

  -- what a leaf says that begins with the length and the name
  pub name_put : (old : List ℕ) → long_name_in order (put_at old 0 (digits order 2 (length name) ++ name)) ≡ Some name
  name_put old =
      ap (λ (front : List ℕ). long_name_in order ((front ++ (digits order 2 (length name) ++ name)) ++ rest)) (nothing old)
      ∙ ap (long_name_in order) (append_assoc (digits order 2 (length name)) name rest)
      ∙ long_name_read order (joined pieces rest) (length name) name
      (field_spelled order 2 (length name) (joined pieces rest) 0 (omega (arith, short)) (range_of_piece 0 pieces rest (lit< tt)))
      (ap (λ (to : ℕ). slice_range (joined pieces rest) 2 to) (let e : 2 + length name ≡ 2 + (length name + 0) = omega arith in e) ∙ range_of_piece 1 pieces rest (lit< tt))
      named short
    where
      rest : List ℕ
      rest = drop (0 + length (digits order 2 (length name) ++ name)) old

      nothing : (xs : List ℕ) → take 0 xs ≡ []
      nothing [] = refl
      nothing (x ∷ xs) = refl

module _ (order : Order) (blocksize : ℕ) (a b : NodeContent) (pos : 0 < blocksize) (over : IsOverBlocks blocksize a) (whole_size : a.size ≤ b.size) where
  -- a number that is present as before, and has the leaf that it had
  pub name_beside : (j : ℕ) → is_in b.present j ≡ is_in a.present j → (is_in a.present j ≡ true → b.leaves j ≡ a.leaves j) → name_in order blocksize b j ≡ name_in order blocksize a j
  name_beside j same leaf = go (is_in a.present j) refl
    where
      go : (t : Bool) → is_in a.present j ≡ t → name_in order blocksize b j ≡ name_in order blocksize a j
      go false out = name_absent order blocksize b j (same ∙ out) ∙ sym (name_absent order blocksize a j out)
      go true there =
          let low : j * blocksize < a.size = ceil_div-below a.size blocksize j pos (over.below j there) in
          (λ i. if lt-ltb (j * blocksize) b.size (omega (arith, low, whole_size)) i then (if (same ∙ there) i then long_name_in order (leaf there i) else None) else None)
          ∙ sym (λ i. if lt-ltb (j * blocksize) a.size low i then (if there i then long_name_in order (a.leaves j) else None) else None)

-- a list with one more number has each other one as before
pub number_beside : (xs : List ℕ) (k j : ℕ) → j ≢ k → is_in (with_number xs k) j ≡ is_in xs j
number_beside xs k j ne = go (is_in xs j) refl
  where
    go : (t : Bool) → is_in xs j ≡ t → is_in (with_number xs k) j ≡ t
    go true e = others_in xs k j e
    go false e = not_so _ (λ m. elim (with_number_from xs k j m) [ inl is ↦ ne (sym is) | inr old ↦ true_or_false (is_in xs j) old e ])

module _ (order : Order) (blocksize k : ℕ) (name : List ℕ) (c : Change) (a b : NodeContent) (pos : 0 < blocksize) (over : IsOverBlocks blocksize a) (named : 0 < length name) (short : length name ≤ 510) (room : 2 + length name ≤ blocksize)
    (size : c.size ≡ max a.size ((k + 1) * blocksize)) (written : written_by c ≡ k ∷ []) (none : c.gone ≡ None) (is : IsPutInto blocksize c (k * blocksize) (digits order 2 (length name) ++ name) a b) where
  abbrev m : NodeContent
  m = changed_content blocksize c a

  abbrev bytes : List ℕ
  bytes = digits order 2 (length name) ++ name

  abbrev p : NodeContent
  p = put_content blocksize (k * blocksize) bytes m

  long : length bytes ≡ 2 + length name
  long = omega (arith, length-append (digits order 2 (length name)) name, length_digits order 2 (length name))

  some : 0 < length bytes
  some = omega (arith, long)

  first : k * blocksize % blocksize ≡ 0
  first = mul-mod_left k blocksize

  at : k * blocksize / blocksize ≡ k
  at = mul-div_cancel k pos

  fits : k * blocksize % blocksize + length bytes ≤ blocksize
  fits = omega (arith, first, long, room)

  next : (i : ℕ) → (i + 1) * blocksize ≡ i * blocksize + blocksize
  next i = grind arith

  -- leaves below the new size are as many as before at least, and one for the number
  low_of : (j : ℕ) → j * blocksize < c.size → j < ceil_div c.size blocksize
  low_of j below = subst (λ q. q < ceil_div c.size blocksize) (mul-div_cancel j pos) (part_below (j * blocksize) c.size blocksize pos below)

  all_low : (i : ℕ) → is_in a.present i ≡ true → i < ceil_div c.size blocksize
  all_low i there = low_of i (let low = ceil_div-below a.size blocksize i pos (over.below i there) in omega (arith, low, size))

  present_is : b.present ≡ with_number a.present k
  unfolding present_after
  present_is = is.present ∙ (λ i. present_after a.present (ceil_div c.size blocksize) (written i) (none i))
      ∙ ap (λ xs. with_number xs k) (all_pass (λ i. nat_lt i (ceil_div c.size blocksize) && true) a.present (λ i there. ap (λ t. t && true) (lt-ltb i (ceil_div c.size blocksize) (all_low i there))))

  -- the number's leaf
  own_low : k * blocksize < c.size
  own_low = omega (arith, size, next k, pos)

  leaf_here : b.leaves k ≡ put_at (m.leaves k) 0 bytes
  leaf_here =
      is.leaves k (low_of k own_low)
      ∙ subst (λ q. p.leaves q ≡ put_at (m.leaves q) (k * blocksize % blocksize) bytes) at (put_here blocksize (k * blocksize) bytes pos some fits m)
      ∙ ap (λ r. put_at (m.leaves k) r bytes) first

  name_here : name_in order blocksize b k ≡ Some name
  name_here =
      (λ i. if lt-ltb (k * blocksize) b.size (omega (arith, is.size, own_low)) i then (if (ap (λ ps. is_in ps k) present_is ∙ number_in a.present k) i then long_name_in order (leaf_here i) else None) else None)
      ∙ name_put order name named short (m.leaves k)

  pub name_added : AddsName order blocksize k name a b
  name_added = record {
    size = is.size ∙ size;
    present = present_is;
    here = name_here;
    others = λ j ne. name_beside order blocksize a b pos over (omega (arith, is.size, size)) j (ap (λ ps. is_in ps j) present_is ∙ number_beside a.present k j ne)
        (λ there. is.leaves j (all_low j there) ∙ put_beside blocksize (k * blocksize) bytes pos some fits m j (λ z. ne (z ∙ at)) ∙ kept_leaf blocksize c a over none j (all_low j there));
  }

-- ---- a name that goes

-- a list without a number has each other one as before
pub filter_beside : (xs : List ℕ) (k j : ℕ) → j ≢ k → is_in (filter (λ i. not (i == k)) xs) j ≡ is_in xs j
filter_beside xs k j ne = go (is_in xs j) refl
  where
    go : (t : Bool) → is_in xs j ≡ t → is_in (filter (λ i. not (i == k)) xs) j ≡ t
    go true e = in_filter (λ i. not (i == k)) xs j e (ap not (ne_eqb j k ne))
    go false e = not_so _ (λ m. (let r = filter_in (λ i. not (i == k)) xs j m in true_or_false (is_in xs j) r.0 e))

module _ (order : Order) (blocksize k : ℕ) (c : Change) (a b : NodeContent) (pos : 0 < blocksize) (over : IsOverBlocks blocksize a) (size : c.size ≡ a.size) (written : written_by c ≡ []) (gone : c.gone ≡ Some k)
    (is : IsSameContent blocksize (changed_content blocksize c a) b) where
  rest_is : b.present ≡ filter (λ j. not (j == k)) a.present
  unfolding present_after
  rest_is = is.present ∙ (λ i. present_after a.present (ceil_div (size i) blocksize) (written i) (gone i)) ∙ same_tests a.present (λ i there. over.below i there)
    where
      same_tests : (xs : List ℕ) → ((i : ℕ) → is_in xs i ≡ true → i < ceil_div a.size blocksize) → filter (λ i. nat_lt i (ceil_div a.size blocksize) && not (i == k)) xs ≡ filter (λ j. not (j == k)) xs
      same_tests [] low = refl
      same_tests (x ∷ xs) low =
          let rest = same_tests xs (λ i there. low i (in_tail x i xs there)) in
          (λ i. cond (lt-ltb x (ceil_div a.size blocksize) (low x (in_head x xs)) i && not (x == k)) (x ∷ rest i) (rest i))

  pub name_dropped : DropsName order blocksize k a b
  name_dropped = record {
    size = is.size ∙ size;
    present = rest_is;
    others = λ j ne. name_beside order blocksize a b pos over (omega (arith, is.size, size)) j (ap (λ ps. is_in ps j) rest_is ∙ filter_beside a.present k j ne) (λ there. leaf j ne there);
  }
    where
      leaf : (j : ℕ) → j ≢ k → is_in a.present j ≡ true → b.leaves j ≡ a.leaves j
      leaf j ne there =
          let low : j < leaves_after blocksize c = subst (λ n. j < ceil_div n blocksize) (sym size) (over.below j there) in
          let kept : is_in (changed_content blocksize c a).present j ≡ true =
          (present_after_members a.present (leaves_after blocksize c) (written_by c) c.gone j).1 (inr (there, low, λ z. (let same : Some k ≡ Some j = sym gone ∙ z in let one : k ≡ j = cc in ne (sym one)))) in
          is.leaves j low ∙ ap (λ (t : Bool). if t then a.leaves j else replicate blocksize 0) kept
