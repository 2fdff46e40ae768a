-- What the blocks in memory mean once one slot is written.
use Rattle.std.proofs.Common.{◌≡◌, ℕ, ◌+◌, ◌-◌, ◌<◌, inl, inr, Bool, true, false, not, List, [], drop, length, refl, sym, ◌∙◌, ap, subst, arith, Option, None, Some, get_or, set}
use Rattle.std.specs.Prelude.{is_some, unwrap_or, count_by, option_map, replicate, IsTrue, ◌==◌, if◌then◌else◌}
use Rattle.std.proofs.lemmas.List.{get_or-set_same, get_or-set_other, get_or_past, length-set, set_past}
use Rattle.std.proofs.lemmas.List.Sums.{sum_by-set}
use Rattle.std.proofs.lemmas.Bool.{cases_eq, cases_lt, eq-eqb, eqb-true}
use Rattle.std.proofs.Math.Seq.{take-append_seam}
use Rattle.qx_blocks.specs.BlockState.{BlockState, put, with_bytes, with_fresh, without}
use Rattle.qx_bytes.specs.SameLengths.{refit}
use Rattle.qx_blocks.specs.MemState.{MemState, slot_at, holds, free_in, no_history, state_of, edited_in, with_slot, IsKept}

-- a list with a new element, as a function of the place
pub place-set : {A : Type 0} (xs : List A) (b q : ℕ) (x d : A) → b < length xs → get_or (set xs b x) q d ≡ put (λ k. get_or xs k d) b x q
place-set xs b q x d within =
    elim (q == b) as (λ t. q == b ≡ t → get_or (set xs b x) q d ≡ (if t then x else get_or xs q d)) [
      | true ↦ λ is. let e : q ≡ b = eqb-true q b is in subst (λ k. get_or (set xs b x) k d ≡ x) (sym e) (get_or-set_same xs b x d within)
      | false ↦ λ is. get_or-set_other xs b q x d (λ e. absurd (cc (eq-eqb q b e)))
    ] refl

-- what a function gives at the values of another, one of which has changed
pub through-put : {A B : Type 0} (h : A → B) (f : ℕ → A) (b q : ℕ) (x : A) → h (put f b x q) ≡ put (λ k. h (f k)) b (h x) q
through-put h f b q x = elim (q == b) as (λ t. h (if t then x else f q) ≡ (if t then h x else h (f q))) [ true ↦ refl | false ↦ refl ]

-- a function that has the value already
pub put-same : {A : Type 0} (f : ℕ → A) (b q : ℕ) (x : A) → f b ≡ x → put f b x q ≡ f q
put-same f b q x is =
    elim (q == b) as (λ t. q == b ≡ t → (if t then x else f q) ≡ f q) [
      | true ↦ λ e. sym is ∙ ap f (sym (eqb-true q b e))
      | false ↦ λ _. refl
    ] refl

-- the elements that pass, once one has changed
pub count-set : {A : Type 0} (p : A → Bool) (xs : List A) (b : ℕ) (x d : A) → b < length xs → count_by p (set xs b x) + (if p (get_or xs b d) then 1 else 0) ≡ count_by p xs + (if p x then 1 else 0)
count-set p xs b x d within = sum_by-set (λ y. if p y then 1 else 0) xs b x d within

-- a place with something in it lies within the list
pub place-within : {A : Type 0} (xs : List (Option A)) (b : ℕ) (x : A) → get_or xs b None ≡ Some x → b < length xs
place-within xs b x h = elim (cases_lt b (length xs)) [ inl low ↦ low | inr high ↦ absurd (cc (get_or_past xs b None high)) ]

-- a held block has a slot
pub within-held : {A : Type 0} (xs : List (Option A)) (b : ℕ) → is_some (get_or xs b None) ≡ true → b < length xs
within-held xs b h = elim (cases_lt b (length xs)) [ inl low ↦ low | inr high ↦ absurd (cc (get_or_past xs b None high)) ]

-- as many new bytes as old ones are taken as they are
pub refit-same : (old new : List ℕ) → length new ≡ length old → refit old new ≡ new
refit-same old new same = rw (← same) (take-append_seam new (drop (length new) old))

-- the state with slot b changed, where `left` blocks are free then
abbrev pub changed : BlockState → ℕ → Option (List ℕ) → ℕ → BlockState
changed m b slot left = record m {
  holdings = record m.holdings {
    held = put m.holdings.held b (is_some slot);
    works = put m.holdings.works b (is_some slot);
    private = put m.holdings.private b (is_some slot);
    ready = put m.holdings.ready b (is_some slot);
    free = left;
  };
  bytes = put m.bytes b (unwrap_or slot []);
}

-- how many blocks are free once a slot is written
pub free-with_slot : (v : MemState) (b left : ℕ) (slot : Option (List ℕ)) → b < length v.blocks
    → left + (if not (holds v b) then 1 else 0) ≡ free_in v + (if not (is_some slot) then 1 else 0)
    → free_in (with_slot v b slot) ≡ left
free-with_slot v b left slot place counts = omega (arith, count-set (λ y. not (is_some y)) v.blocks b slot None place)

-- what the blocks mean once a slot is written
pub state-with_slot : (v : MemState) (b left : ℕ) (slot : Option (List ℕ)) → b < length v.blocks
    → left + (if not (holds v b) then 1 else 0) ≡ free_in v + (if not (is_some slot) then 1 else 0)
    → state_of (with_slot v b slot) ≡ changed (state_of v) b slot left
state-with_slot v b left slot place counts =
    let slots : (q : ℕ) → slot_at (with_slot v b slot) q ≡ put (slot_at v) b slot q = λ q. place-set v.blocks b q slot None place in
    let bytes : (q : ℕ) → unwrap_or (slot_at (with_slot v b slot) q) [] ≡ put (state_of v).bytes b (unwrap_or slot []) q
    = λ q. ap (λ o. unwrap_or o []) (slots q) ∙ through-put (λ o. unwrap_or o []) (slot_at v) b q slot in
    let held : (q : ℕ) → holds (with_slot v b slot) q ≡ put (holds v) b (is_some slot) q = λ q. ap is_some (slots q) ∙ through-put is_some (slot_at v) b q slot in
    let free : free_in (with_slot v b slot) ≡ left = free-with_slot v b left slot place counts in
    λ i. record {
      holdings = record {
        size = v.size;
        count = length-set v.blocks b slot i;
        held = λ q. held q i;
        works = λ q. held q i;
        private = λ q. held q i;
        ready = λ q. held q i;
        free = free i;
      };
      tells = true;
      bytes = λ q. bytes q i;
      history = no_history;
    }

-- as many bytes as a held block has, written over it, change its bytes alone
state-edited_at : (v : MemState) (b : ℕ) (old new : List ℕ) → slot_at v b ≡ Some old → length new ≡ length old → state_of (edited_in v b new) ≡ with_bytes (state_of v) b new
state-edited_at v b old new there same =
    let slot : option_map (λ o. refit o new) (slot_at v b) ≡ Some new = rw there (ap (λ xs. Some xs) (refit-same old new same)) in
    let place : b < length v.blocks = place-within v.blocks b old there in
    let held : (q : ℕ) → put (holds v) b true q ≡ holds v q = λ q. put-same (holds v) b q true (ap is_some there) in
    ap (λ x. state_of (with_slot v b x)) slot
    ∙ state-with_slot v b (free_in v) (Some new) place (rw there refl)
    ∙ (λ i. record (with_bytes (state_of v) b new) { holdings = record (state_of v).holdings { held = λ q. held q i; works = λ q. held q i; private = λ q. held q i; ready = λ q. held q i } })

-- what is there is what stands in its place
some-unwrap_or : (o : Option (List ℕ)) → is_some o ≡ true → o ≡ Some (unwrap_or o [])
some-unwrap_or None h = absurd (cc)
some-unwrap_or (Some bytes) h = refl

-- as many bytes as a ready block has, written over it, change its bytes alone
pub state-edited : (v : MemState) (b : ℕ) (new : List ℕ) → IsTrue ((state_of v).holdings.ready b) → length new ≡ length ((state_of v).bytes b) → state_of (edited_in v b new) ≡ with_bytes (state_of v) b new
state-edited v b new ready same = state-edited_at v b ((state_of v).bytes b) new (some-unwrap_or (slot_at v b) ready) same

-- a block that was not held is taken
pub state-taken : (v : MemState) (b : ℕ) → holds v b ≡ false → b < length v.blocks → 0 < free_in v → state_of (with_slot v b (Some (replicate v.size 0))) ≡ with_fresh (state_of v) b
state-taken v b unheld place some = state-with_slot v b (free_in v - 1) (Some (replicate v.size 0)) place (rw unheld (omega arith))

-- a held block is given up
pub state-released : (v : MemState) (b : ℕ) → IsTrue (holds v b) → state_of (with_slot v b None) ≡ without (state_of v) b
state-released v b held = rw held (state-with_slot v b (free_in v + 1) None (within-held v.blocks b held) (rw held (omega arith)))

-- a slot that gets as many bytes as a block, or none, leaves the blocks in order
pub IsKept-with_slot : (v : MemState) (b : ℕ) (x : Option (List ℕ)) → IsKept v → ((xs : List ℕ) → x ≡ Some xs → length xs ≡ v.size) → IsKept (with_slot v b x)
IsKept-with_slot v b x k fits = record {
  size = k.size;
  few = rw length-set k.few;
  lengths = λ q xs h. elim (cases_lt b (length v.blocks)) [
    | inl low ↦ elim (cases_eq q b) [
      | inl e ↦ fits xs (sym (subst (λ j. get_or (set v.blocks b x) j None ≡ x) (sym e) (get_or-set_same v.blocks b x None low)) ∙ h)
      | inr ne ↦ k.lengths q xs (sym (get_or-set_other v.blocks b q x None ne) ∙ h)
    ]
    | inr high ↦ k.lengths q xs (ap (λ ys. get_or ys q None) (sym (set_past v.blocks b x high)) ∙ h)
  ];
}
