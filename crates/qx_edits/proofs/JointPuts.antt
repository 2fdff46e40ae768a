-- One change of a node that does what two edits ask.
use Rattle.std.proofs.Common.{◌≡◌, ℕ, ◌+◌, ◌*◌, ◌-◌, ◌/◌, ◌%◌, ◌<◌, ◌≤◌, ◌⊎◌, ◌↔◌, List, [], ◌∷◌, length, inl, inr, refl, sym, ◌∙◌, ap, subst, arith}
use Rattle.std.specs.Prelude.{Bool, true, false, None, Some, replicate, if◌then◌else◌}
use Rattle.std.proofs.Math.Nat.{div-mul-le_self}
use Rattle.std.proofs.lemmas.Bool.{cases_eq, lt-ltb}
use Rattle.std.proofs.lemmas.Nat.{le-div}
use Rattle.qx_fields.specs.declared.order.Order.{Order}
use Rattle.qx_file.specs.Puts.{with_part}
use Rattle.qx_geom.specs.Lists.{IsAscending, is_in}
use Rattle.qx_geom.specs.Pointer.{ceil_div}
use Rattle.qx_geom.specs.Positions.{present_after}
use Rattle.qx_geom.proofs.AscendingLists.{ascending_same}
use Rattle.qx_geom.proofs.ImagesAndFilters.{Contains-in, in_Contains, in_head_as}
use Rattle.qx_geom.proofs.LevelCounts.{part_below}
use Rattle.qx_geom.proofs.Members.{in_cases}
use Rattle.qx_geom.proofs.PresentLeaves.{present_after_ascends, present_after_members}
use Rattle.qx_geom.proofs.Truths.{not_so, true_or_false}
use Rattle.qx_nodes.specs.NodeContents.{IsSameContent, NodeContent}
use Rattle.qx_ptree.specs.declared.change.Change.{Change}
use Rattle.qx_ptree.specs.Fates.{leaves_after, written_by}
use Rattle.qx_records.specs.NameRecord.{RawRecord, raw_in}
use Rattle.qx_batch.specs.Changes.{changed_content}
use Rattle.qx_batch.specs.PutNodes.{has_byte, put_content}
use Rattle.qx_copies.proofs.ShownContents.{same_itself}
use Rattle.qx_model.specs.Edits.{leaf_of_record}
use Rattle.qx_model.specs.Whole.{HoldsRecords}
use Rattle.qx_edits.specs.PutContents.{IsOverBlocks, IsPutInto}
use Rattle.qx_edits.specs.RecordEdits.{SetsRecord, size_with_record}
use Rattle.qx_edits.proofs.PutLeaves.{changed_over, has_not, put_over}
use Rattle.qx_edits.proofs.PutRecords.{record_low, record_put, size_more}

-- lists of leaves that ascend and have the same members are the same
pub same_leaves : (xs ys : List ℕ) → IsAscending xs → IsAscending ys → ((i : ℕ) → is_in xs i ≡ true → is_in ys i ≡ true) → ((i : ℕ) → is_in ys i ≡ true → is_in xs i ≡ true) → xs ≡ ys
same_leaves xs ys up over there back =
    ascending_same xs ys up over (λ x c. Contains-in ys x (there x (in_Contains xs x c))) (λ x c. Contains-in xs x (back x (in_Contains ys x c)))

-- where nothing is taken out and the size doesn't fall, each leaf has what it had
module _ (blocksize : ℕ) (c : Change) (a : NodeContent) (over : IsOverBlocks blocksize a) (grows : ceil_div a.size blocksize ≤ leaves_after blocksize c) (none : c.gone ≡ None) where
  stays_present : (i : ℕ) → is_in a.present i ≡ true → is_in (present_after a.present (leaves_after blocksize c) (written_by c) c.gone) i ≡ true
  stays_present i there =
      (present_after_members a.present (leaves_after blocksize c) (written_by c) c.gone i).1
      (inr (there, (let low = over.below i there in omega (arith, low, grows)), λ z. (let clash : None ≡ Some i = sym none ∙ z in cc)))

  pub kept_all : (i : ℕ) → (changed_content blocksize c a).leaves i ≡ a.leaves i
  kept_all i = go (is_in (changed_content blocksize c a).present i) refl
    where
      go : (t : Bool) → is_in (changed_content blocksize c a).present i ≡ t → (if t then a.leaves i else replicate blocksize 0) ≡ a.leaves i
      go true e = refl
      go false e = sym (over.holes i (not_so (is_in a.present i) (λ there. true_or_false _ (stays_present i there) e)))

-- the one number of a list of one
pub only : (x i : ℕ) → is_in (x ∷ []) i ≡ true → x ≡ i
only x i there = elim (in_cases x i [] there) [ inl at ↦ at | inr out ↦ absurd (nothing i out) ]
  where
    nothing : (i : ℕ) → is_in [] i ≡ true → ⊥
    nothing i h = cc

-- a change that writes one leaf
abbrev one_leaf : ℕ → ℕ → Change
one_leaf size leaf = record { size = size; first = leaf; count = 1; also = None; gone = None }

module _ (order : Order) (blocksize k j : ℕ) (first second : RawRecord) (bytes others : List ℕ) (c : Change) (a b : NodeContent) (holds : HoldsRecords blocksize) (over : IsOverBlocks blocksize a) (whole : a.size % blocksize ≡ 0) (low : k * 32 < a.size) (most : j * 32 ≤ a.size)
    (size : c.size ≡ size_with_record blocksize j a.size) (written : (i : ℕ) → (is_in (written_by c) i ≡ true) ↔ ((i ≡ leaf_of_record blocksize k) ⊎ (i ≡ leaf_of_record blocksize j))) (none : c.gone ≡ None)
    (wide : length bytes ≡ 32) (says : raw_in order bytes ≡ first) (wide_others : length others ≡ 32) (says_others : raw_in order others ≡ second)
    (is : IsSameContent blocksize (put_content blocksize (j * 32) others (put_content blocksize (k * 32) bytes (changed_content blocksize c a))) b) where
  pos : 0 < blocksize
  pos = let two = holds.two in omega (arith, two)

  abbrev c0 : Change
  c0 = one_leaf a.size (leaf_of_record blocksize k)

  abbrev c1 : Change
  c1 = one_leaf c.size (leaf_of_record blocksize j)

  -- the content between
  abbrev w : NodeContent
  w = put_content blocksize (k * 32) bytes (changed_content blocksize c0 a)

  -- the leaf of the first record lies below the old size
  leaf_low : leaf_of_record blocksize k < ceil_div a.size blocksize
  leaf_low = part_below (k * 32) a.size blocksize pos low

  more : ceil_div a.size blocksize ≤ leaves_after blocksize c
  more = ceil_more a.size c.size (subst (λ n. a.size ≤ n) (sym size) (size_more blocksize j a.size))
    where
      ceil_more : (x y : ℕ) → x ≤ y → ceil_div x blocksize ≤ ceil_div y blocksize
      ceil_more x y h = le-div ((x + blocksize - 1) / blocksize) (y + blocksize - 1) blocksize pos (let most_x = div-mul-le_self (x + blocksize - 1) blocksize in omega (arith, most_x, h))

  w_over : IsOverBlocks blocksize w
  w_over =
      put_over blocksize (k * 32) bytes (changed_content blocksize c0 a) pos (changed_over blocksize c0 a over (λ i there. subst (λ x. x < ceil_div a.size blocksize) (only (leaf_of_record blocksize k) i there) leaf_low))
      (λ i has. elim (cases_eq i (k * 32 / blocksize)) [
        | inl at ↦ (present_after_members a.present (leaves_after blocksize c0) (written_by c0) None i).1 (inl (in_head_as (leaf_of_record blocksize k) i [] (sym at)))
        | inr other ↦ absurd (true_or_false _ has (has_not blocksize (k * 32) bytes pos (omega (arith, wide)) (let fits = record_low blocksize k pos holds.whole in omega (arith, wide, fits)) i other))
      ])

  one : SetsRecord order blocksize k first a w
  one = record_put order blocksize k first bytes c0 a w holds over whole (omega (arith, low)) (ap (λ (t : Bool). if t then a.size else a.size + blocksize) (sym (lt-ltb (k * 32) a.size low))) refl refl wide says (same_itself blocksize w)

  -- both contents are one
  same : IsPutInto blocksize c1 (j * 32) others w b
  same = record {
    size = is.size;
    present = is.present ∙ same_leaves _ _ (present_after_ascends a.present (leaves_after blocksize c) (written_by c) c.gone over.ascends) (present_after_ascends w.present (leaves_after blocksize c1) (written_by c1) None w_over.ascends) there back;
    leaves = λ i below. is.leaves i below ∙ ap (λ (l : List ℕ). if has_byte blocksize (j * 32) (length others) i then with_part blocksize i (j * 32) others l else l) (leaf i);
  }
    where
      leaf : (i : ℕ) → (put_content blocksize (k * 32) bytes (changed_content blocksize c a)).leaves i ≡ (changed_content blocksize c1 w).leaves i
      leaf i =
          ap (λ (l : List ℕ). if has_byte blocksize (k * 32) (length bytes) i then with_part blocksize i (k * 32) bytes l else l) (kept_all blocksize c a over more none i ∙ sym (kept_all blocksize c0 a over (omega arith) refl i))
          ∙ sym (kept_all blocksize c1 w w_over more refl i)

      there : (i : ℕ) → is_in (changed_content blocksize c a).present i ≡ true → is_in (changed_content blocksize c1 w).present i ≡ true
      there i h = elim ((present_after_members a.present (leaves_after blocksize c) (written_by c) c.gone i).0 h) [
        | inl put ↦ elim ((written i).0 put) [
          | inl at ↦ stays_present blocksize c1 w w_over more refl i ((present_after_members a.present (leaves_after blocksize c0) (written_by c0) None i).1 (inl (in_head_as (leaf_of_record blocksize k) i [] (sym at))))
          | inr at ↦ (present_after_members w.present (leaves_after blocksize c1) (written_by c1) None i).1 (inl (in_head_as (leaf_of_record blocksize j) i [] (sym at)))
        ]
        | inr old ↦ stays_present blocksize c1 w w_over more refl i (stays_present blocksize c0 a over (omega arith) refl i old.0)
      ]

      back : (i : ℕ) → is_in (changed_content blocksize c1 w).present i ≡ true → is_in (changed_content blocksize c a).present i ≡ true
      back i h = elim ((present_after_members w.present (leaves_after blocksize c1) (written_by c1) None i).0 h) [
        | inl put ↦ (present_after_members a.present (leaves_after blocksize c) (written_by c) c.gone i).1 (inl ((written i).1 (inr (sym (only (leaf_of_record blocksize j) i put)))))
        | inr old ↦ elim ((present_after_members a.present (leaves_after blocksize c0) (written_by c0) None i).0 old.0) [
          | inl put ↦ (present_after_members a.present (leaves_after blocksize c) (written_by c) c.gone i).1 (inl ((written i).1 (inl (sym (only (leaf_of_record blocksize k) i put)))))
          | inr was ↦ stays_present blocksize c a over more none i was.0
        ]
      ]

  pub two_put : (w : NodeContent) × SetsRecord order blocksize k first a w × SetsRecord order blocksize j second w b
  two_put = (w, one, record_put order blocksize j second others c1 w b holds w_over whole most size refl refl wide_others says_others same)
