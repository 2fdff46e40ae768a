-- What is built by the steps of a preparation: a leaf that is written, a block more of a row, and the pointer block above a row.
use Rattle.std.proofs.Common.{◌≡◌, ◌≢◌, ℕ, suc, ◌+◌, ◌*◌, ◌-◌, ◌^◌, ◌/◌, ◌<◌, ◌≤◌, inl, inr, List, [], ◌∷◌, length, take, refl, sym, ◌∙◌, ap, subst, arith}
use Rattle.std.specs.Prelude.{Bool, true, false, not, ◌==◌, if◌then◌else◌, IsTrue, slice_index, slice_range}
use Rattle.std.proofs.Math.Seq.{take-length}
use Rattle.std.proofs.lemmas.Bool.{cases_eq, cases_lt, eq-eqb, ne_eqb}
use Rattle.std.proofs.lemmas.List.Elements.{All-from_get_or, Contains-append_left, Contains-append_right}
use Rattle.std.proofs.lemmas.List.FromFn.{get_or-map-range_with_len}
use Rattle.qx_fields.specs.declared.order.Order.{Order}
use Rattle.qx_fields.specs.Number.{field, fields}
use Rattle.qx_fields.proofs.Fields.{fields_spelled, length_all_digits}
use Rattle.qx_geom.specs.Lists.{is_in}
use Rattle.qx_geom.specs.Pointer.{absent, per_block}
use Rattle.qx_geom.specs.Touch.{changed_leaves}
use Rattle.qx_geom.proofs.Members.{Contains-head, in_head, in_left, in_right}
use Rattle.qx_geom.proofs.Truths.{true_or_false}
use Rattle.qx_nodes.specs.BlockMap.{BlockMap, with_bytes, word}
use Rattle.qx_nodes.proofs.LeafPaths.{by_one}
use Rattle.qx_blocks.specs.BlockState.{BlockState, IsConsistent}
use Rattle.qx_ptree.specs.declared.plan.Plan.{Plan}
use Rattle.qx_ptree.specs.Alterations.{Alteration}
use Rattle.qx_ptree.specs.Building.{BlockWork, Builds, IsPlaced, LeafWork, LiesUnder, Row, Shows, new_pointer, one_block, pointer_bytes, pointer_down, work_kept, work_lost, never, lost, same, edited, taken, moved, stays}
use Rattle.qx_ptree.specs.Parts.{has_below, part_of}
use Rattle.qx_ptree.specs.Plans.{alteration_in, planned_pointer}
use Rattle.qx_ptree.specs.Takings.{Takes}
use Rattle.qx_ptree.specs.Trees.{block_map}
use Rattle.qx_ptree.specs.WorkState.{EditState, WorkState, and_then, no_work}
use Rattle.qx_ptree.proofs.BuiltBlocks.{builds_block}
use Rattle.qx_ptree.proofs.BuiltRows.{builds_more, shows_part}
use Rattle.qx_ptree.proofs.CarriedBuilds.{builds_earlier, builds_later}
use Rattle.qx_ptree.proofs.CarriedPlans.{carried, fresh_held, pointer_held, planned_numbers, private_after}
use Rattle.qx_ptree.proofs.LeavesByPointer.{bytes_by_pointer, bytes_of_hole}
use Rattle.qx_ptree.proofs.OwnPositions.{had-below}
use Rattle.qx_ptree.proofs.OwnWork.{IsOwnWork, own_edited, own_kept, own_lost, own_moved, own_none, own_same, own_taken}
use Rattle.qx_ptree.proofs.PlannedPointers.{IsToldPlan, planned_position}
use Rattle.qx_ptree.proofs.PointerCounts.{words_positive}
use Rattle.qx_ptree.proofs.PointersByPosition.{at_above, pointer_step}
use Rattle.qx_ptree.proofs.QuietParts.{is_there, keeps_under, none_below_block, plain_under, same_under}
use Rattle.qx_ptree.proofs.UnderRows.{own_under, row_own, words_under}

-- ---- the work at one position

-- the work at a leaf that is written
pub leaf_own : (m n : BlockState) (plan : Plan) (j q : ℕ) (w : WorkState) (p : IsToldPlan m plan) → IsTrue n.tells
    → (part_of (alteration_in plan m) 0 j).changed ≡ true → (part_of (alteration_in plan m) 0 j).present ≡ true → LeafWork m n (planned_pointer plan m 0 j) q w → IsOwnWork m n plan w 0 j q
leaf_own m n plan j q _ p told changed present (taken none zeros) =
    own_taken m n plan p 0 j (omega arith) q present none
    (λ e. zeros ∙ sym (bytes_of_hole (block_map plan.order m) plan.node j (words_positive m.holdings.size p.consistent.size) (planned_numbers m plan p) none))
leaf_own m n plan j q _ p told changed present (stays there own is) =
    subst (λ x. IsOwnWork m n plan (work_kept (planned_pointer plan m 0 j)) 0 j x) (sym is) (own_kept m n plan p 0 j (omega arith) present changed there own)
leaf_own m n plan j q _ p told changed present (moved there shared bytes) =
    own_moved m n plan p 0 j (omega arith) q present changed there shared
    (λ e. bytes told ∙ sym (bytes_by_pointer (block_map plan.order m) plan.node j (words_positive m.holdings.size p.consistent.size) (planned_numbers m plan p) there))

-- the work at a pointer block
pub block_own : (m n : BlockState) (plan : Plan) (k j : ℕ) (pointers : List ℕ) (changed present : Bool) (q : ℕ) (w : WorkState) (p : IsToldPlan m plan) → 0 < k → k ≤ (alteration_in plan m).new.levels
    → (part_of (alteration_in plan m) k j).changed ≡ changed → (part_of (alteration_in plan m) k j).present ≡ present → BlockWork plan.order m n (planned_pointer plan m k j) pointers changed present q w → IsOwnWork m n plan w k j q
block_own m n plan k j pointers _ _ _ _ p up within changed_is present_is (never none) = own_none m n plan p k j within present_is none
block_own m n plan k j pointers _ _ _ _ p up within changed_is present_is (lost there) = own_lost m n plan p k j within present_is there
block_own m n plan k j pointers _ _ _ _ p up within changed_is present_is (same there) = own_same m n plan p k j within present_is changed_is there
block_own m n plan k j pointers _ _ _ _ p up within changed_is present_is (edited there own) =
    own_edited m n plan p k j within (pointer_bytes plan.order pointers) up present_is changed_is there own
block_own m n plan k j pointers _ _ q _ p up within changed_is present_is (taken none bytes) =
    own_taken m n plan p k j within q present_is none (λ e. absurd (omega arith))
block_own m n plan k j pointers _ _ q _ p up within changed_is present_is (moved there shared bytes) =
    own_moved m n plan p k j within q present_is changed_is there shared (λ e. absurd (omega arith))

-- ---- the words of a pointer block

-- the words of the bytes of pointers are these pointers
pub word_of_pointers : (order : Order) (pointers : List ℕ) (x : ℕ) → ((v : ℕ) → v < length pointers → slice_index pointers v < 2 ^ 32) → x < length pointers → field order 4 (pointer_bytes order pointers) (4 * x) ≡ slice_index pointers x
unfolding fields
word_of_pointers order pointers x fits low =
    let bytes : List ℕ = pointer_bytes order pointers in
    let long : length bytes ≡ 4 * length pointers = length_all_digits order 4 pointers in
    let all : slice_range bytes 0 (0 + 4 * length pointers) ≡ bytes = ap (λ n. take n bytes) (let e : 0 + 4 * length pointers - 0 ≡ length bytes = omega (arith, long) in e) ∙ take-length bytes in
    let read : fields order 4 (length pointers) bytes 0 ≡ pointers =
    fields_spelled order 4 (length pointers) pointers bytes 0 refl (All-from_get_or (λ v. v < 256 ^ 4) pointers 0 (λ i h. fits i h)) (omega (arith, long)) all in
    let at : 4 * x ≡ 0 + 4 * x = omega arith in
    ap (field order 4 bytes) at ∙ sym (get_or-map-range_with_len (λ k. field order 4 bytes (0 + 4 * k)) 0 (length pointers) x x 0 low (omega arith)) ∙ ap (λ xs. slice_index xs x) read

-- a row's own new pointers are its tops
new_top : (m : BlockState) (plan : Plan) (row : Row) (tops : ℕ → ℕ) (bytes : ℕ → List ℕ) (j : ℕ) → new_pointer m plan row tops bytes row.level j ≡ tops j
new_top m plan row tops bytes j =
    let none : row.level - row.level ≡ 0 = omega arith in
    ap (λ d. pointer_down (with_bytes (block_map plan.order m) bytes) d (tops (j / per_block m.holdings.size ^ d)) j) none ∙ ap tops (by_one j (per_block m.holdings.size))

module _ (m n : BlockState) (plan : Plan) (p : IsToldPlan m plan) (l index : ℕ) (within : suc l ≤ (alteration_in plan m).new.levels) (tops : ℕ → ℕ) (pointers : List ℕ)
    (long : length pointers ≡ per_block m.holdings.size) (fits : (v : ℕ) → v < length pointers → slice_index pointers v < 2 ^ 32)
    (tops_are : (v : ℕ) → v < per_block m.holdings.size → slice_index pointers v ≡ tops (index * per_block m.holdings.size + v)) where
  abbrev P : ℕ
  P = per_block m.holdings.size

  abbrev a : Alteration
  a = alteration_in plan m

  abbrev row : Row
  row = record { level = l; first = index * P; count = P }

  abbrev top : Row
  top = one_block (suc l) index

  -- the words lead below it
  word_under : (x : ℕ) → x < P → LiesUnder P top l (index * P + x)
  word_under x low = words_under P l index l (index * P + x) (row_own P row (index * P + x) (omega arith) (omega arith))

  -- the pointer that is placed there
  placed_word : (w v : WorkState) (bytes : ℕ → List ℕ) (x : ℕ) → x < P → Builds m n plan w row tops → Shows m n plan (and_then w v) top bytes → IsPlaced m n plan w l (index * P + x) (tops (index * P + x))
  placed_word w v bytes x low b s =
      subst (λ z. IsPlaced m n plan w l (index * P + x) z) (new_top m plan row tops bytes (index * P + x))
      (b.pointers bytes (shows_part m n plan w (and_then w v) row top bytes (λ q e. in_left w.fresh v.fresh q e) (λ e c. Contains-append_left w.edits v.edits e c) (λ k j u. words_under P l index k j u) s)
      l (index * P + x) (row_own P row (index * P + x) (omega arith) (omega arith)))

  -- where bytes are those of pointers
  words_put : (bytes : ℕ → List ℕ) (q x : ℕ) → x < P → q ≢ absent → bytes q ≡ pointer_bytes plan.order pointers → (if q == absent then absent else word (with_bytes (block_map plan.order m) bytes) q x) ≡ tops (index * P + x)
  words_put bytes q x low there is =
      ap (λ b. if b then absent else word (with_bytes (block_map plan.order m) bytes) q x) (ne_eqb q absent there)
      ∙ ap (λ (bs : List ℕ). field plan.order 4 bs (4 * x)) is ∙ word_of_pointers plan.order pointers x fits (omega (arith, long)) ∙ tops_are x low

  -- where nothing is left
  words_none : (w v : WorkState) (bytes : ℕ → List ℕ) (x : ℕ) → x < P → has_below m.holdings.size a.new.present (suc l) index ≡ false → Builds m n plan w row tops → Shows m n plan (and_then w v) top bytes → absent ≡ tops (index * P + x)
  words_none w v bytes x low empty b s =
      sym ((placed_word w v bytes x low b s).none (had-below m.holdings.size a.new l (index * P + x) (omega arith) ∙ none_below_block m.holdings.size a.new.present (suc l) index l (index * P + x) (word_under x low) empty))

  -- where nothing changed
  words_same : (w v : WorkState) (bytes : ℕ → List ℕ) (x : ℕ) → x < P → has_below m.holdings.size (changed_leaves a.old a.new a.written) (suc l) index ≡ false → planned_pointer plan m (suc l) index ≢ absent
      → Builds m n plan w row tops → Shows m n plan (and_then w v) top bytes
      → (if planned_pointer plan m (suc l) index == absent then absent else word (with_bytes (block_map plan.order m) bytes) (planned_pointer plan m (suc l) index) x) ≡ tops (index * P + x)
  words_same w v bytes x low quiet there b s =
      let t : BlockMap = block_map plan.order m in
      let q : ℕ = planned_pointer plan m (suc l) index in
      let c : ℕ = planned_pointer plan m l (index * P + x) in
      let levels : suc l ≤ plan.node.levels = elim (cases_lt plan.node.levels (suc l)) [ inl above ↦ absurd (there (at_above t plan.node (suc l) index above)) | inr h ↦ h ] in
      let under : LiesUnder P top (suc l) index = own_under P (suc l) index in
      let kept : bytes q ≡ m.bytes q = s.others (suc l) index under (omega arith) (planned_position m plan (suc l) index p ∙ is_there q there, plain_under m n plan p (suc l) index within (inl levels) quiet (suc l) index under there) in
      let step : c ≡ (if q == absent then absent else word t q x) = pointer_step t plan.node l index x levels low in
      let placed : IsPlaced m n plan w l (index * P + x) (tops (index * P + x)) = placed_word w v bytes x low b s in
      ap (λ (bs : List ℕ). if q == absent then absent else field plan.order 4 bs (4 * x)) kept ∙ sym step
      ∙ elim (cases_eq c absent) [
        | inl none ↦ none ∙ sym (placed.none (same_under m n plan p (suc l) index within (inl levels) quiet l (index * P + x) (word_under x low) ∙ planned_position m plan l (index * P + x) p ∙ ap not (eq-eqb c absent none)))
        | inr lead ↦ sym (placed.stays (keeps_under m n plan p (suc l) index within (inl levels) quiet l (index * P + x) (word_under x low) (planned_position m plan l (index * P + x) p ∙ is_there c lead)))
      ]

  -- whatever was done there
  pub words_lead : (w v : WorkState) (changed present : Bool) (q : ℕ) → BlockWork plan.order m n (planned_pointer plan m (suc l) index) pointers changed present q v → ((b : ℕ) → is_in v.fresh b ≡ true → b ≢ absent)
      → (part_of a (suc l) index).changed ≡ changed → (part_of a (suc l) index).present ≡ present → Builds m n plan w row tops
      → (bytes : ℕ → List ℕ) → Shows m n plan (and_then w v) top bytes → (x : ℕ) → x < P → (if q == absent then absent else word (with_bytes (block_map plan.order m) bytes) q x) ≡ tops (index * P + x)
  words_lead w v changed present q (never none) numbers changed_is present_is b bytes s x low = words_none w no_work bytes x low present_is b s
  words_lead w v changed present q (lost there) numbers changed_is present_is b bytes s x low = words_none w (work_lost (planned_pointer plan m (suc l) index)) bytes x low present_is b s
  words_lead w v changed present q (same there) numbers changed_is present_is b bytes s x low = words_same w no_work bytes x low changed_is there b s
  words_lead w v changed present q (edited there own) numbers changed_is present_is b bytes s x low =
      let edit : EditState = record { block = planned_pointer plan m (suc l) index; bytes = pointer_bytes plan.order pointers } in
      words_put bytes (planned_pointer plan m (suc l) index) x low there (s.edits edit (Contains-append_right w.edits (edit ∷ []) edit (Contains-head edit [])))
  words_lead w v changed present q (taken none is) numbers changed_is present_is b bytes s x low =
      words_put bytes q x low (numbers q (in_head q [])) (s.fresh q (in_right w.fresh (q ∷ []) q (in_head q [])) ∙ is)
  words_lead w v changed present q (moved there shared is) numbers changed_is present_is b bytes s x low =
      words_put bytes q x low (numbers q (in_head q [])) (s.fresh q (in_right w.fresh (q ∷ []) q (in_head q [])) ∙ is)

-- ---- steps one after another

-- the work at a pointer block, from the blocks before what was done below it
pub block_earlier : (f : List ℕ) (m n o : BlockState) (order : Order) (q : ℕ) (pointers : List ℕ) (changed present : Bool) (b : ℕ) (v : WorkState) → Takes f m n → (q ≢ absent → IsTrue (m.holdings.held q))
    → BlockWork order n o q pointers changed present b v → BlockWork order m o q pointers changed present b v
block_earlier f m n o order q pointers _ _ _ _ t held (never none) = never none
block_earlier f m n o order q pointers _ _ _ _ t held (lost there) = lost there
block_earlier f m n o order q pointers _ _ _ _ t held (same there) = same there
block_earlier f m n o order q pointers _ _ _ _ t held (edited there own) = edited there (sym (private_after f m n q t (held there)) ∙ own)
block_earlier f m n o order q pointers _ _ _ _ t held (taken none bytes) = taken none bytes
block_earlier f m n o order q pointers _ _ _ _ t held (moved there shared bytes) = moved there (sym (private_after f m n q t (held there)) ∙ shared) bytes

-- blocks that were taken by one step aren't taken by the next
pub taken_apart : (f g : List ℕ) (m n o : BlockState) (b : ℕ) → Takes f m n → Takes g n o → is_in f b ≡ true → is_in g b ≡ true → ⊥
taken_apart f g m n o b t u x y = true_or_false (n.holdings.held b) (fresh_held f m n b t x) (u.unheld b y)

-- a row and one block more
pub row_step : (m n o : BlockState) (plan : Plan) (w v : WorkState) (level first count q : ℕ) (tops more : ℕ → ℕ) → IsToldPlan m plan → IsConsistent n → IsTrue o.tells
    → ((j : ℕ) → first ≤ j → j < first + count → more j ≡ tops j) → more (first + count) ≡ q → Takes w.fresh m n → Takes v.fresh n o
    → Builds m n plan w (record { level = level; first = first; count = count }) tops → Builds n o plan v (one_block level (first + count)) (λ _. q)
    → Builds m o plan (and_then w v) (record { level = level; first = first; count = count + 1 }) more
row_step m n o plan w v level first count q tops more p s told alike last t u b c =
    let told_n : IsTrue n.tells = u.told_before told in
    builds_more m o plan p w v level first count tops more q alike last (λ x. taken_apart w.fresh v.fresh m n o x t u)
    (builds_later v.fresh m m n o plan w (record { level = level; first = first; count = count }) tops t u told b)
    (builds_earlier m n o plan p (carried w.fresh m n plan p t told_n s) v (one_block level (first + count)) (λ _. q) c)

-- a pointer block above a row
pub block_step : (m n o : BlockState) (plan : Plan) (w v : WorkState) (l index q : ℕ) (tops : ℕ → ℕ) (pointers : List ℕ) (changed present : Bool) → IsToldPlan m plan → o.holdings.held absent ≡ false → IsTrue o.tells → suc l ≤ (alteration_in plan m).new.levels
    → length pointers ≡ per_block m.holdings.size → ((v : ℕ) → v < length pointers → slice_index pointers v < 2 ^ 32) → ((v : ℕ) → v < per_block m.holdings.size → slice_index pointers v ≡ tops (index * per_block m.holdings.size + v))
    → (part_of (alteration_in plan m) (suc l) index).changed ≡ changed → (part_of (alteration_in plan m) (suc l) index).present ≡ present → Takes w.fresh m n → Takes v.fresh n o
    → Builds m n plan w (record { level = l; first = index * per_block m.holdings.size; count = per_block m.holdings.size }) tops
    → BlockWork plan.order n o (planned_pointer plan m (suc l) index) pointers changed present q v
    → Builds m o plan (and_then w v) (one_block (suc l) index) (λ _. q)
block_step m n o plan w v l index q tops pointers changed present p s told within long fits tops_are changed_is present_is t u b c =
    let row : Row = record { level = l; first = index * per_block m.holdings.size; count = per_block m.holdings.size } in
    let below : Builds m o plan w row tops = builds_later v.fresh m m n o plan w row tops t u told b in
    let work : BlockWork plan.order m o (planned_pointer plan m (suc l) index) pointers changed present q v = block_earlier w.fresh m n o plan.order (planned_pointer plan m (suc l) index) pointers changed present q v t (λ there. pointer_held m plan (suc l) index p there) c in
    let numbers : (x : ℕ) → is_in v.fresh x ≡ true → x ≢ absent = λ x e is. true_or_false (o.holdings.held absent) (subst (λ b. IsTrue (o.holdings.held b)) is (fresh_held v.fresh n o x u e)) s in
    builds_block m o plan p l index q within w v tops below (block_own m o plan (suc l) index pointers changed present q v p (omega arith) within changed_is present_is work)
    (λ x. taken_apart w.fresh v.fresh m n o x t u) (words_lead m o plan p l index within tops pointers long fits tops_are w v changed present q work numbers changed_is present_is below)
