-- A long name goes and another comes by one change of the Longfile.
use Rattle.std.proofs.Common.{◌≡◌, ◌≢◌, ℕ, ◌+◌, ◌*◌, ◌/◌, ◌%◌, ◌<◌, ◌≤◌, ◌⊎◌, List, [], ◌∷◌, ◌++◌, length, inl, inr, refl, sym, ◌∙◌, ap, subst, arith}
use Rattle.std.specs.Prelude.{Bool, true, false, not, max, ◌==◌, None, Some, replicate, if◌then◌else◌}
use Rattle.std.proofs.Math.Nat.{mul-div_cancel, mul-mod_left}
use Rattle.std.proofs.lemmas.Bool.{cases_eq, eq-eqb, lt-ltb, ne_eqb}
use Rattle.std.proofs.lemmas.List.{length-append}
use Rattle.qx_bytes.specs.Ranges.{put_at}
use Rattle.qx_fields.specs.Number.{digits}
use Rattle.qx_fields.specs.declared.order.Order.{Order}
use Rattle.qx_fields.proofs.Fields.{length_digits}
use Rattle.qx_geom.specs.Lists.{is_in}
use Rattle.qx_geom.specs.Pointer.{ceil_div}
use Rattle.qx_geom.specs.Positions.{with_number}
use Rattle.qx_geom.proofs.ImagesAndFilters.{filter_in, in_filter, in_head_as}
use Rattle.qx_geom.proofs.LevelCounts.{ceil_div-below, part_below}
use Rattle.qx_geom.proofs.PresentLeaves.{number_ascends, number_in, others_in, present_after_ascends, present_after_members, with_number_from}
use Rattle.qx_geom.proofs.Truths.{not_true, true_or_false}
use Rattle.qx_long.specs.NamePlans.{unless}
use Rattle.qx_nodes.specs.LongNames.{name_in}
use Rattle.qx_nodes.specs.NodeContents.{NodeContent}
use Rattle.qx_records.specs.NameRecord.{long_name_in}
use Rattle.qx_ptree.specs.declared.change.Change.{Change}
use Rattle.qx_ptree.specs.Fates.{leaves_after, written_by}
use Rattle.qx_batch.specs.Changes.{changed_content}
use Rattle.qx_batch.specs.PutNodes.{put_content}
use Rattle.qx_copies.proofs.ShownContents.{same_itself}
use Rattle.qx_edits.specs.NameEdits.{AddsName, DropsName}
use Rattle.qx_edits.specs.PutContents.{IsOverBlocks, IsPutInto}
use Rattle.qx_edits.proofs.JointPuts.{only, same_leaves}
use Rattle.qx_edits.proofs.PutLeaves.{changed_over, put_beside, put_here}
use Rattle.qx_edits.proofs.PutNames.{name_beside, name_dropped, name_put, number_beside}

-- the change that takes one leaf out
abbrev out_of : ℕ → ℕ → Change
out_of size q = record { size = size; first = 0; count = 0; also = None; gone = Some q }

module _ (order : Order) (blocksize k q : ℕ) (name : List ℕ) (c : Change) (a b : NodeContent) (pos : 0 < blocksize) (over : IsOverBlocks blocksize a) (named : 0 < length name) (short : length name ≤ 510) (room : 2 + length name ≤ blocksize)
    (size : c.size ≡ max a.size ((k + 1) * blocksize)) (written : written_by c ≡ k ∷ []) (gone : c.gone ≡ unless k (Some q)) (is : IsPutInto blocksize c (k * blocksize) (digits order 2 (length name) ++ name) a b) where
  -- the content without the name that goes
  abbrev w : NodeContent
  w = changed_content blocksize (out_of a.size q) a

  dropped : DropsName order blocksize q a w
  dropped = name_dropped order blocksize q (out_of a.size q) a w pos over refl refl refl (same_itself blocksize w)

  w_over : IsOverBlocks blocksize w
  w_over = changed_over blocksize (out_of a.size q) a over (λ i h. absurd (nothing i h))
    where
      nothing : (i : ℕ) → is_in [] i ≡ true → ⊥
      nothing i h = cc

  abbrev m : NodeContent
  m = changed_content blocksize c a

  abbrev bytes : List ℕ
  bytes = digits order 2 (length name) ++ name

  long : length bytes ≡ 2 + length name
  long = omega (arith, length-append (digits order 2 (length name)) name, length_digits order 2 (length name))

  some : 0 < length bytes
  some = omega (arith, long)

  first : k * blocksize % blocksize ≡ 0
  first = mul-mod_left k blocksize

  at : k * blocksize / blocksize ≡ k
  at = mul-div_cancel k pos

  fits : k * blocksize % blocksize + length bytes ≤ blocksize
  fits = omega (arith, first, long, room)

  next : (i : ℕ) → (i + 1) * blocksize ≡ i * blocksize + blocksize
  next i = grind arith

  low_of : (j : ℕ) → j * blocksize < c.size → j < ceil_div c.size blocksize
  low_of j below = subst (λ x. x < ceil_div c.size blocksize) (mul-div_cancel j pos) (part_below (j * blocksize) c.size blocksize pos below)

  all_low : (i : ℕ) → is_in a.present i ≡ true → i < ceil_div c.size blocksize
  all_low i there = low_of i (let low = ceil_div-below a.size blocksize i pos (over.below i there) in omega (arith, low, size))

  own_low : k * blocksize < c.size
  own_low = omega (arith, size, next k, pos)

  -- which leaf goes
  unless_is : (i : ℕ) → unless k (Some q) ≡ Some i → (q ≢ k) × (q ≡ i)
  unless_is i h = go (q == k) refl h
    where
      go : (t : Bool) → (q == k) ≡ t → (if t then None else Some q) ≡ Some i → (q ≢ k) × (q ≡ i)
      go true e h = absurd (cc)
      go false e h = (λ z. true_or_false (q == k) (eq-eqb q k z) e, cc)

  unless_other : q ≢ k → unless k (Some q) ≡ Some q
  unless_other ne = ap (λ (t : Bool). if t then None else Some q) (ne_eqb q k ne)

  -- which leaves are present in the end
  in_end : (i : ℕ) → is_in m.present i ≡ true → (i ≡ k) ⊎ ((is_in a.present i ≡ true) × (i ≢ q))
  in_end i h = elim ((present_after_members a.present (leaves_after blocksize c) (written_by c) c.gone i).0 h) [
    | inl put ↦ inl (sym (only k i (ap (λ ws. is_in ws i) (sym written) ∙ put)))
    | inr old ↦ elim (cases_eq i k) [
      | inl is_k ↦ inl is_k
      | inr other ↦ inr (old.0, λ z. old.2 (gone ∙ unless_other (λ e. other (z ∙ e)) ∙ ap (λ y. Some y) (sym z)))
    ]
  ]

  end_own : is_in m.present k ≡ true
  end_own = (present_after_members a.present (leaves_after blocksize c) (written_by c) c.gone k).1 (inl (ap (λ ws. is_in ws k) written ∙ in_head_as k k [] refl))

  end_old : (i : ℕ) → is_in a.present i ≡ true → i ≢ q → is_in m.present i ≡ true
  end_old i there ne = (present_after_members a.present (leaves_after blocksize c) (written_by c) c.gone i).1 (inr (there, all_low i there, λ z. ne (sym (let u = unless_is i (sym gone ∙ z) in u.1))))

  without : (i : ℕ) → is_in w.present i ≡ true → (is_in a.present i ≡ true) × (i ≢ q)
  without i h =
      let r = filter_in (λ x. not (x == q)) a.present i (ap (λ ps. is_in ps i) (sym dropped.present) ∙ h) in
      (r.0, λ z. true_or_false (i == q) (eq-eqb i q z) (not_true (i == q) r.1))

  within : (i : ℕ) → is_in a.present i ≡ true → i ≢ q → is_in w.present i ≡ true
  within i there ne = ap (λ ps. is_in ps i) dropped.present ∙ in_filter (λ x. not (x == q)) a.present i there (ap not (ne_eqb i q ne))

  present_is : b.present ≡ with_number w.present k
  present_is = is.present ∙ same_leaves m.present (with_number w.present k) (present_after_ascends a.present (leaves_after blocksize c) (written_by c) c.gone over.ascends) (number_ascends w.present k w_over.ascends)
      (λ i h. elim (in_end i h) [
        | inl own ↦ subst (λ x. is_in (with_number w.present k) x ≡ true) (sym own) (number_in w.present k)
        | inr old ↦ others_in w.present k i (within i old.0 old.1)
      ])
      (λ i h. elim (with_number_from w.present k i h) [
        | inl own ↦ subst (λ x. is_in m.present x ≡ true) own end_own
        | inr old ↦ (let r = without i old in end_old i r.0 r.1)
      ])

  leaf_here : b.leaves k ≡ put_at (m.leaves k) 0 bytes
  leaf_here =
      is.leaves k (low_of k own_low)
      ∙ subst (λ x. (put_content blocksize (k * blocksize) bytes m).leaves x ≡ put_at (m.leaves x) (k * blocksize % blocksize) bytes) at (put_here blocksize (k * blocksize) bytes pos some fits m)
      ∙ ap (λ r. put_at (m.leaves k) r bytes) first

  name_here : name_in order blocksize b k ≡ Some name
  name_here =
      (λ i. if lt-ltb (k * blocksize) b.size (omega (arith, is.size, own_low)) i then (if (ap (λ ps. is_in ps k) is.present ∙ end_own) i then long_name_in order (leaf_here i) else None) else None)
      ∙ name_put order name named short (m.leaves k)

  leaf_beside : (j : ℕ) → j ≢ k → is_in w.present j ≡ true → b.leaves j ≡ w.leaves j
  leaf_beside j ne h =
      let r = without j h in
      is.leaves j (all_low j r.0) ∙ put_beside blocksize (k * blocksize) bytes pos some fits m j (λ z. ne (z ∙ at))
      ∙ ap (λ (t : Bool). if t then a.leaves j else replicate blocksize 0) (end_old j r.0 r.1) ∙ sym (ap (λ (t : Bool). if t then a.leaves j else replicate blocksize 0) h)

  pub name_exchanged : (w : NodeContent) × DropsName order blocksize q a w × AddsName order blocksize k name w b
  name_exchanged = (
    w,
    dropped,
    record {
      size = is.size ∙ size;
      present = present_is;
      here = name_here;
      others = λ j ne. name_beside order blocksize w b pos w_over (omega (arith, is.size, size)) j (ap (λ ps. is_in ps j) present_is ∙ number_beside w.present k j ne) (λ there. leaf_beside j ne there);
    },
  )
