-- What was prepared above written leaves: a pointer block above those that its words lead to.
use Rattle.std.proofs.Common.{◌≡◌, ◌≢◌, ℕ, zero, suc, ◌+◌, ◌*◌, ◌-◌, ◌^◌, ◌/◌, ◌%◌, ◌<◌, ◌≤◌, inl, inr, List, [], ◌∷◌, length, refl, sym, ◌∙◌, ap, subst, arith}
use Rattle.std.specs.Prelude.{Bool, true, ◌==◌, if◌then◌else◌, slice_index, slice_range, IsTrue, Contains}
use Rattle.std.proofs.Math.Nat.{div-div-eq-div-mul, mul_comm, pow-suc}
use Rattle.std.proofs.lemmas.Bool.{cases_lt, ne_eqb, or_right}
use Rattle.std.proofs.lemmas.List.{take_all}
use Rattle.std.proofs.lemmas.List.Elements.{All-from_get_or}
use Rattle.std.proofs.lemmas.List.FromFn.{get_or-map-range_with_len}
use Rattle.std.proofs.lemmas.Nat.{mod-mul-add}
use Rattle.qx_fields.proofs.Fields.{fields_spelled, length_all_digits}
use Rattle.qx_fields.specs.declared.order.Order.{Order}
use Rattle.qx_fields.specs.Number.{all_digits, field, fields}
use Rattle.qx_geom.proofs.Members.{Contains-cases, in_head}
use Rattle.qx_geom.specs.Lists.{is_in}
use Rattle.qx_geom.specs.Pointer.{absent, per_block}
use Rattle.qx_nodes.proofs.LeafPaths.{by_one}
use Rattle.qx_nodes.specs.BlockMap.{BlockMap, with_bytes, word}
use Rattle.qx_blocks.specs.BlockState.{BlockState, IsConsistent}
use Rattle.qx_ptree.specs.declared.plan.Plan.{Plan}
use Rattle.qx_ptree.specs.Building.{BlockWork, never, lost, same, edited, taken, moved, Row, new_pointer, one_block, pointer_bytes, pointer_down}
use Rattle.qx_ptree.specs.Reaching.{HasEdits, IsOwnPosition, Owns, Reaches, ShowsOwn, own_blocks}
use Rattle.qx_ptree.specs.Takings.{Takes}
use Rattle.qx_ptree.specs.Trees.{block_map}
use Rattle.qx_ptree.specs.WorkState.{EditState, WorkState, and_then, no_work}
use Rattle.qx_ptree.proofs.OwnedPositions.{no_edits, owns_both, owns_later, shows_second}
use Rattle.qx_ptree.proofs.UnderRows.{far_up, under_own, under_words}

-- ---- pointers one level down

-- what a block's word for block x of the level below says
abbrev word_below : BlockMap → ℕ → ℕ → ℕ
word_below t q x = if q == absent then absent else word t q (x % per_block t.size)

-- the pointers below a block are those below its words
down_word : (t : BlockMap) (d q j : ℕ) → pointer_down t (suc d) q j ≡ pointer_down t d (word_below t q (j / per_block t.size ^ d)) j
down_word t zero q j = ap (word_below t q) (sym (by_one j (per_block t.size)))
down_word t (suc d) q j =
    let P : ℕ = per_block t.size in
    let up : j / P / P ^ d ≡ j / P ^ suc d = div-div-eq-div-mul j P (P ^ d) ∙ ap (λ n. j / n) (mul_comm P (P ^ d) ∙ sym (pow-suc P d)) in
    ap (λ above. if above == absent then absent else word t above (j % P)) (down_word t d q (j / P) ∙ ap (λ x. pointer_down t d (word_below t q x) (j / P)) up)

-- pointers that are written are read back
spelled_word : (order : Order) (pointers bytes : List ℕ) (v : ℕ) → bytes ≡ pointer_bytes order pointers → ((k : ℕ) → k < length pointers → slice_index pointers k < 2 ^ 32) → v < length pointers → field order 4 bytes (4 * v) ≡ slice_index pointers v
unfolding fields
spelled_word order pointers bytes v is small low =
    let n : ℕ = length pointers in
    let long : length bytes ≡ 4 * n = ap length is ∙ length_all_digits order 4 pointers in
    let at : 4 * v ≡ 0 + 4 * v = omega arith in
    let whole : slice_range bytes 0 (0 + 4 * n) ≡ all_digits order 4 pointers = take_all (0 + 4 * n - 0) bytes (omega (arith, long)) ∙ is in
    let read : fields order 4 n bytes 0 ≡ pointers = fields_spelled order 4 n pointers bytes 0 refl (All-from_get_or (λ x. x < 256 ^ 4) pointers 0 small) (omega (arith, long)) whole in
    ap (field order 4 bytes) at ∙ sym (get_or-map-range_with_len (λ k. field order 4 bytes (0 + 4 * k)) 0 n v v 0 low (omega arith)) ∙ ap (λ xs. slice_index xs v) read

-- ---- the block

-- a pointer block is the work's own, and its bytes to come are its pointers
record IsShownBlock (order : Order) (work : WorkState) (pointers : List ℕ) (q : ℕ) (bytes : ℕ → List ℕ) : Type 0 where
  own : is_in (own_blocks work) q ≡ true
  there : q ≢ absent
  spelled : bytes q ≡ pointer_bytes order pointers

-- so is one that changed, and is present
shown_block : (order : Order) (n o : BlockState) (p q : ℕ) (pointers : List ℕ) (changed present : Bool) (work : WorkState) (bytes : ℕ → List ℕ)
    → BlockWork order n o p pointers changed present q work → (present ≡ true → q ≢ absent) → changed ≡ true → present ≡ true → ShowsOwn o work bytes → IsShownBlock order work pointers q bytes
shown_block order n o p q pointers changed present _ bytes (never none) leads c h s = absurd (cc)
shown_block order n o p q pointers changed present _ bytes (lost there) leads c h s = absurd (cc)
shown_block order n o p q pointers changed present _ bytes (same there) leads c h s = absurd (cc)
shown_block order n o p q pointers changed present _ bytes (edited there private) leads c h s = record {
  own = in_head p [];
  there = there;
  spelled = s.edits (record { block = p; bytes = pointer_bytes order pointers }) (0, omega arith, refl);
}
shown_block order n o p q pointers changed present _ bytes (taken none is) leads c h s = record {
  own = in_head q [];
  there = leads h;
  spelled = s.fresh q (in_head q []) ∙ is;
}
shown_block order n o p q pointers changed present _ bytes (moved there shared is) leads c h s = record {
  own = in_head q [];
  there = leads h;
  spelled = s.fresh q (in_head q []) ∙ is;
}

-- its pointer leads to a block where what was taken is there
pub block_there : (order : Order) (n o : BlockState) (p q : ℕ) (pointers : List ℕ) (changed present : Bool) (work : WorkState)
    → BlockWork order n o p pointers changed present q work → ((b : ℕ) → is_in work.fresh b ≡ true → b ≢ absent) → present ≡ true → q ≢ absent
block_there order n o p q pointers changed present _ (never none) blocks h = absurd (cc)
block_there order n o p q pointers changed present _ (lost there) blocks h = absurd (cc)
block_there order n o p q pointers changed present _ (same there) blocks h = there
block_there order n o p q pointers changed present _ (edited there private) blocks h = there
block_there order n o p q pointers changed present _ (taken none is) blocks h = blocks q (in_head q [])
block_there order n o p q pointers changed present _ (moved there shared is) blocks h = blocks q (in_head q [])

-- it gets bytes once at most
block_edits : (order : Order) (n o : BlockState) (p q : ℕ) (pointers : List ℕ) (changed present : Bool) (work : WorkState) → BlockWork order n o p pointers changed present q work → HasEdits work
block_edits order n o p q pointers changed present _ (never none) = no_edits no_work refl
block_edits order n o p q pointers changed present _ (lost there) = no_edits _ refl
block_edits order n o p q pointers changed present _ (same there) = no_edits no_work refl
block_edits order n o p q pointers changed present _ (edited there private) = record {
  kept = λ e c. ap (λ x. is_in (p ∷ []) x) (sym (ap (λ (f : EditState). f.block) (only e c))) ∙ in_head p [];
  once = λ d e f c h is. sym (only e c) ∙ only f h;
}
  where
    only : (e : EditState) → Contains ((record { block = p; bytes = pointer_bytes order pointers }) ∷ []) e → record { block = p; bytes = pointer_bytes order pointers } ≡ e
    only e c = elim (Contains-cases (record { block = p; bytes = pointer_bytes order pointers }) e [] c) [ inl is ↦ is | inr none ↦ absurd (omega (arith, none.1)) ]
block_edits order n o p q pointers changed present _ (taken none is) = no_edits _ refl
block_edits order n o p q pointers changed present _ (moved there shared is) = no_edits _ refl

-- ---- the block above a row

module _ (m n o : BlockState) (plan : Plan) (l index p q : ℕ) (pointers : List ℕ) (changed present : Bool) (tops : ℕ → ℕ) (w v : WorkState) where
  -- the block, and the row of those to which its words lead
  abbrev one : Row
  one = one_block (suc l) index

  abbrev row : Row
  row = record { level = l; first = index * per_block m.holdings.size; count = per_block m.holdings.size }

  -- a position is the block's own
  record IsBlockItself (k j : ℕ) : Type 0 where
    at : IsOwnPosition m plan one k j
    level : k ≡ suc l

  -- the block alone
  owns_block : BlockWork plan.order n o p pointers changed present q v → (present ≡ true → q ≢ absent) → ((k j : ℕ) → IsOwnPosition m plan one k j → (changed ≡ true) × (present ≡ true))
      → Owns o v IsBlockItself (λ bytes k j. q)
  owns_block work there met = record {
    own = λ bytes s k j u. let b : (changed ≡ true) × (present ≡ true) = met k j u.at in (shown_block plan.order n o p q pointers changed present v bytes work there b.0 b.1 s).own;
    apart = λ bytes s d k j h i x y e.
        let a : (k ≡ suc l) × (j ≡ index) = under_own (per_block m.holdings.size) (suc l) index k j x.at.under (omega (arith, x.level)) in
        let b : (h ≡ suc l) × (i ≡ index) = under_own (per_block m.holdings.size) (suc l) index h i y.at.under (omega (arith, y.level)) in
        (a.0 ∙ sym b.0, a.1 ∙ sym b.1);
    edits = block_edits plan.order n o p q pointers changed present v work;
  }

  -- what its word says of a block below it is that block's pointer
  word_leads : (bytes : ℕ → List ℕ) → IsShownBlock plan.order v pointers q bytes → length pointers ≡ per_block m.holdings.size → ((x : ℕ) → x < length pointers → slice_index pointers x < 2 ^ 32)
      → ((x : ℕ) → x < per_block m.holdings.size → slice_index pointers x ≡ tops (index * per_block m.holdings.size + x)) → (x : ℕ) → index * per_block m.holdings.size ≤ x → x < index * per_block m.holdings.size + per_block m.holdings.size
      → word_below (with_bytes (block_map plan.order m) bytes) q x ≡ tops x
  word_leads bytes shown long small leads x from to =
      let P : ℕ = per_block m.holdings.size in
      let t : BlockMap = with_bytes (block_map plan.order m) bytes in
      let y : ℕ = x - index * P in
      let whole : index * P + y ≡ x = omega (arith, from) in
      let low : y < P = omega (arith, from, to) in
      let short : y < length pointers = omega (arith, low, long) in
      let at : x % P ≡ y = ap (λ z. z % P) (sym whole) ∙ mod-mul-add index P y low in
      ap (λ b. if b then absent else word t q (x % P)) (ne_eqb q absent shown.there) ∙ ap (word t q) at ∙ spelled_word plan.order pointers (bytes q) y shown.spelled small short ∙ leads y low ∙ ap tops whole

  -- the block and what stands below it
  pub reaches_block : 0 < per_block m.holdings.size → BlockWork plan.order n o p pointers changed present q v → (present ≡ true → q ≢ absent)
      → ((k j : ℕ) → IsOwnPosition m plan one k j → (changed ≡ true) × (present ≡ true)) → length pointers ≡ per_block m.holdings.size → ((x : ℕ) → x < length pointers → slice_index pointers x < 2 ^ 32)
      → ((x : ℕ) → x < per_block m.holdings.size → slice_index pointers x ≡ tops (index * per_block m.holdings.size + x)) → ((b : ℕ) → is_in w.fresh b ≡ true → o.bytes b ≡ n.bytes b)
      → Reaches m n plan w row tops → Reaches m o plan (and_then w v) one (λ x. q)
  reaches_block pos work there met long small leads stay below =
      let P : ℕ = per_block m.holdings.size in
      owns_both w v o (IsOwnPosition m plan one) (IsOwnPosition m plan row) IsBlockItself (new_pointer m plan one (λ x. q)) (new_pointer m plan row tops) (λ bytes k j. q)
      (λ k j u. elim (cases_lt k (suc l)) [
        | inl lower ↦ inl (record { under = under_words P l index k j pos (omega arith) u.under; above = u.above })
        | inr top ↦ inr (record { at = u; level = omega (arith, top, u.under.level) })
      ])
      (λ bytes s k j u x.
      let t : BlockMap = with_bytes (block_map plan.order m) bytes in
      let b : (changed ≡ true) × (present ≡ true) = met k j u in
      let shown : IsShownBlock plan.order v pointers q bytes = shown_block plan.order n o p q pointers changed present v bytes work there b.0 b.1 (shows_second w v o bytes s) in
      ap (λ d. pointer_down t d q j) (far_up l k x.under.level) ∙ down_word t (l - k) q j
      ∙ ap (λ y. pointer_down t (l - k) y j) (word_leads bytes shown long small leads (j / P ^ (l - k)) x.under.from x.under.to))
      (λ bytes s k j u x. let none : suc l - k ≡ 0 = omega (arith, x.level) in ap (λ d. pointer_down (with_bytes (block_map plan.order m) bytes) d q j) none)
      (owns_later n o w (IsOwnPosition m plan row) (new_pointer m plan row tops) stay below) (owns_block work there met)

-- so for a level above 0
pub reaches_block_at : (m n o : BlockState) (plan : Plan) (level index p q : ℕ) (pointers : List ℕ) (changed present : Bool) (tops : ℕ → ℕ) (w v : WorkState) → 0 < level → 0 < per_block m.holdings.size
    → BlockWork plan.order n o p pointers changed present q v → (present ≡ true → q ≢ absent)
    → ((k j : ℕ) → IsOwnPosition m plan (one_block level index) k j → (changed ≡ true) × (present ≡ true)) → length pointers ≡ per_block m.holdings.size
    → ((x : ℕ) → x < length pointers → slice_index pointers x < 2 ^ 32) → ((x : ℕ) → x < per_block m.holdings.size → slice_index pointers x ≡ tops (index * per_block m.holdings.size + x))
    → ((b : ℕ) → is_in w.fresh b ≡ true → o.bytes b ≡ n.bytes b)
    → Reaches m n plan w (record { level = level - 1; first = index * per_block m.holdings.size; count = per_block m.holdings.size }) tops → Reaches m o plan (and_then w v) (one_block level index) (λ x. q)
reaches_block_at m n o plan level index p q pointers changed present tops w v above pos work there met long small leads stay below =
    let is : suc (level - 1) ≡ level = omega (arith, above) in
    subst (λ x. Reaches m o plan (and_then w v) (one_block x index) (λ y. q)) is
    (reaches_block m n o plan (level - 1) index p q pointers changed present tops w v pos work there (subst (λ x. (k j : ℕ) → IsOwnPosition m plan (one_block x index) k j → (changed ≡ true) × (present ≡ true)) (sym is) met) long small leads stay below)

-- a block that was taken is there
pub taken_there : (f : List ℕ) (m n : BlockState) → IsConsistent n → Takes f m n → (b : ℕ) → is_in f b ≡ true → b ≢ absent
taken_there f m n s t b h is =
    let ready : IsTrue (n.holdings.ready b) = t.ready b (or_right (m.holdings.ready b) (is_in f b) h) in
    let low : b < n.holdings.count = s.numbers b (s.works_held b (s.private_works b (s.ready_private b ready))) in
    omega (arith, low, s.count)
