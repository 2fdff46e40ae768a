-- What each step leaves of the order of the sets.
use Rattle.std.proofs.Common.{◌≡◌, ◌≢◌, ℕ, ◌+◌, ◌^◌, ◌<◌, ◌≤◌, inl, inr, Bool, true, false, not, ◌&&◌, ◌||◌, length, get_or, set, replicate, refl, sym, ◌∙◌, ap, arith, if◌then◌else◌}
use Rattle.std.proofs.lemmas.Bool.{cases_eq, cases_lt}
use Rattle.std.proofs.lemmas.List.{get_or-set_same, get_or-set_other, length-set, get_or-replicate, get_or_past, length-replicate}
use Rattle.std.proofs.lemmas.List.FromFn.{length-map-range_with_len, get_or-map-range_with_len}
use Rattle.qx_blockset.specs.Members.{Members, has, limit_of, union_of}
use Rattle.qx_blockset.proofs.MembersInWords.{count-insert, count-remove}
use Rattle.qx_alloc.specs.declared.space.Space.TheInside.{Inside}
use Rattle.qx_alloc.specs.SpaceState.{IsConsistent, free_in, is_private_in, none_of, users_in}
use Rattle.qx_alloc.specs.SpaceView.{space_in, IsInOrder}
use Rattle.qx_alloc.proofs.FreeBlocks.{count-free}
use Rattle.qx_alloc.proofs.UserBlocks.{length-users, users-below}

-- a set of none has no block
pub has-none : (s : Members) (b : ℕ) → has (none_of s) b ≡ false
has-none s b = elim (cases_lt b (length s)) [
  | inl low ↦ get_or-replicate (length s) b false false low
  | inr past ↦ get_or_past (none_of s) b false (rw length-replicate past)
]

-- sets of none of as many blocks
none-long : (s t : Members) → length s ≡ length t → none_of s ≡ none_of t
none-long s t long = ap (λ n. replicate n false) long

-- a set that has the block has it below its limit
pub has-below : (s : Members) (b : ℕ) → has s b ≡ true → b < length s
has-below s b there = elim (cases_lt b (length s)) [ inl low ↦ low | inr past ↦ absurd (cc (get_or_past s b false past)) ]

-- what is seen of the fields holds at any moment
pub consistent-in : (a : Inside) → IsInOrder a → IsConsistent (space_in a)
consistent-in a order = record {
  few = order.few;
  frozen_long = long a.is_frozen ∙ order.frozen_long;
  durable_long = order.durable_long;
  users = λ b low. sym (order.taken_held b) ∙ order.users b low;
  unfrozen = λ is. ap (λ t. if t then a.frozen else none_of a.frozen) is ∙ none-long a.frozen a.working order.frozen_long;
} where
  long : (t : Bool) → length (if t then a.frozen else none_of a.frozen) ≡ length a.frozen
  long true = refl
  long false = length-replicate (length a.frozen) false

-- the fields once a block was taken
abbrev taken_at : Inside → ℕ → Inside
taken_at a b = record a { working = set a.working b true; taken = set a.taken b true; hint = b + 1 }

-- a free block is taken
pub in_order-taken : (a : Inside) (b : ℕ) → IsInOrder a → a.first_user ≤ b → b < limit_of a.taken → IsInOrder (taken_at a b)
in_order-taken a b order user below = record {
  few = rw length-set order.few;
  frozen_long = order.frozen_long ∙ sym (length-set a.working b true);
  durable_long = order.durable_long ∙ sym (length-set a.working b true);
  taken_long = length-set a.taken b true ∙ order.taken_long ∙ sym (length-set a.working b true);
  taken_held = λ q. elim (cases_eq q b) [
    | inl e ↦ ap (λ k. get_or (set a.taken b true) k false) e ∙ get_or-set_same a.taken b true false below
        ∙ sym (ap (λ t. t || has (space_in a).frozen q || has a.durable q) (ap (λ k. get_or (set a.working b true) k false) e ∙ get_or-set_same a.working b true false (omega (arith, order.taken_long))))
    | inr apart ↦ get_or-set_other a.taken b q true false apart ∙ order.taken_held q
        ∙ sym (ap (λ t. t || has (space_in a).frozen q || has a.durable q) (get_or-set_other a.working b q true false apart))
  ];
  users = λ q low. let apart : q ≢ b = omega arith in get_or-set_other a.taken b q true false apart ∙ order.users q low;
  begins = omega arith;
}

-- and there is one free block less
pub free-taken : (a : Inside) (b : ℕ) → IsInOrder a → a.first_user ≤ b → b < limit_of a.taken → has a.taken b ≡ false → free_in (space_in (taken_at a b)) + 1 ≡ free_in (space_in a)
free-taken a b order user below out =
    omega (arith, count-free a order, count-free (taken_at a b) (in_order-taken a b order user below), count-insert a.taken b below out, length-set a.working b true)

-- whether a tree but the working one holds the block
abbrev is_shared : Inside → ℕ → Bool
is_shared a b = has (space_in a).frozen b || has a.durable b

-- the fields once the working tree alone gave a block up
abbrev freed_at : Inside → ℕ → Inside
freed_at a b = record a { working = set a.working b false; taken = set a.taken b false }

-- a block that the working tree alone holds is given up
pub in_order-freed : (a : Inside) (b : ℕ) → IsInOrder a → is_private_in (space_in a) b ≡ true → IsInOrder (freed_at a b)
in_order-freed a b order private = record {
  few = rw length-set order.few;
  frozen_long = order.frozen_long ∙ sym (length-set a.working b false);
  durable_long = order.durable_long ∙ sym (length-set a.working b false);
  taken_long = length-set a.taken b false ∙ order.taken_long ∙ sym (length-set a.working b false);
  taken_held = λ q. elim (cases_eq q b) [
    | inl e ↦ ap (λ k. get_or (set a.taken b false) k false) e ∙ get_or-set_same a.taken b false false (omega (arith, below, order.taken_long))
        ∙ sym (ap (λ t. t || has (space_in a).frozen q || has a.durable q) (ap (λ k. get_or (set a.working b false) k false) e ∙ get_or-set_same a.working b false false below)
        ∙ ap (is_shared a) e ∙ alone (has a.working b) (is_shared a b) private)
    | inr apart ↦ get_or-set_other a.taken b q false false apart ∙ order.taken_held q
        ∙ sym (ap (λ t. t || has (space_in a).frozen q || has a.durable q) (get_or-set_other a.working b q false false apart))
  ];
  users = λ q low. elim (cases_eq q b) [
    | inl e ↦ ap (λ k. get_or (set a.taken b false) k false) e ∙ get_or-set_same a.taken b false false (omega (arith, below, order.taken_long))
    | inr apart ↦ get_or-set_other a.taken b q false false apart ∙ order.users q low
  ];
  begins = order.begins;
} where
  alone : (w t : Bool) → (w && not t) ≡ true → t ≡ false
  alone true true h = cc
  alone true false h = refl
  alone false t h = cc

  holds : (w t : Bool) → (w && not t) ≡ true → w ≡ true
  holds true t h = refl
  holds false t h = cc

  below : b < length a.working
  below = has-below a.working b (holds (has a.working b) (is_shared a b) private)

-- it is free then
pub free-freed : (a : Inside) (b : ℕ) → IsInOrder a → has a.taken b ≡ true → is_private_in (space_in a) b ≡ true → free_in (space_in (freed_at a b)) ≡ free_in (space_in a) + 1
free-freed a b order there private =
    omega (arith, count-free a order, count-free (freed_at a b) (in_order-freed a b order private), count-remove a.taken b (has-below a.taken b there) there, length-set a.working b false)

-- the fields once the working tree was frozen
abbrev frozen_from : Inside → Inside
frozen_from a = record a { is_frozen = true; frozen = a.working }

-- nothing was frozen, and the working tree is
pub in_order-frozen : (a : Inside) → IsInOrder a → a.is_frozen ≡ false → IsInOrder (frozen_from a)
in_order-frozen a order is = record {
  few = order.few;
  frozen_long = refl;
  durable_long = order.durable_long;
  taken_long = order.taken_long;
  taken_held = λ b. order.taken_held b ∙ ap (λ t. has a.working b || t || has a.durable b) (ap (λ t. has (if t then a.frozen else none_of a.frozen) b) is ∙ has-none a.frozen b) ∙ twice (has a.working b) (has a.durable b);
  users = order.users;
  begins = order.begins;
} where
  twice : (w d : Bool) → (w || false || d) ≡ (w || w || d)
  twice true d = refl
  twice false d = refl

-- as many blocks are free as before
pub free-frozen : (a : Inside) → IsInOrder a → a.is_frozen ≡ false → free_in (space_in (frozen_from a)) ≡ free_in (space_in a)
free-frozen a order is = omega (arith, count-free a order, count-free (frozen_from a) (in_order-frozen a order is))

-- the fields once the frozen tree became the durable one
abbrev thawed_from : Inside → Inside
thawed_from a = record a { is_frozen = false; durable = a.frozen; taken = union_of a.frozen a.working }

-- a block of two sets with one limit
pub has-union : (s t : Members) (b : ℕ) → length t ≡ length s → has (union_of s t) b ≡ (has s b || has t b)
has-union s t b long = elim (cases_lt b (length s)) [
  | inl low ↦ get_or-map-range_with_len (λ b. has s b || has t b) 0 (length s) b b false low (omega arith)
  | inr past ↦ get_or_past (union_of s t) b false (rw (length-map-range_with_len (λ b. has s b || has t b) 0 (length s)) past)
      ∙ sym (λ i. get_or_past s b false past i || get_or_past t b false (rw long past) i)
]

-- the frozen tree becomes the durable one
pub in_order-thawed : (a : Inside) → IsInOrder a → a.is_frozen ≡ true → IsInOrder (thawed_from a)
in_order-thawed a order is = record {
  few = order.few;
  frozen_long = order.frozen_long;
  durable_long = order.frozen_long;
  taken_long = length-map-range_with_len (λ b. has a.frozen b || has a.working b) 0 (length a.frozen) ∙ order.frozen_long;
  taken_held = λ b. has-union a.frozen a.working b (sym order.frozen_long)
      ∙ turned (has a.frozen b) (has a.working b) ∙ sym (ap (λ t. has a.working b || t || has a.frozen b) (has-none a.frozen b));
  users = λ b low. has-union a.frozen a.working b (sym order.frozen_long)
      ∙ neither (has a.frozen b) (has a.working b) (has a.durable b)
      (ap (λ t. has a.working b || has (if t then a.frozen else none_of a.frozen) b || has a.durable b) (sym is) ∙ sym (order.taken_held b) ∙ order.users b low);
  begins = order.begins;
} where
  turned : (f w : Bool) → (f || w) ≡ (w || false || f)
  turned true true = refl
  turned true false = refl
  turned false true = refl
  turned false false = refl

  neither : (f w d : Bool) → (w || f || d) ≡ false → (f || w) ≡ false
  neither true true d h = cc
  neither true false d h = cc
  neither false true d h = cc
  neither false false d h = refl

-- the sets begin with the user blocks that are held
pub in_order-new : (a : Inside) (held : Members) → length held < 2 ^ 32 → a.working ≡ users_in a.first_user held → a.durable ≡ a.working → a.taken ≡ a.working
    → a.frozen ≡ none_of held → a.is_frozen ≡ false → a.hint ≡ a.first_user → IsInOrder a
in_order-new a held few working durable taken frozen is hint =
    let long : length a.working ≡ length held = ap (λ s. length s) working ∙ length-users a.first_user held in
    record {
      few = rw long few;
      frozen_long = ap (λ s. length s) frozen ∙ length-replicate (length held) false ∙ sym long;
      durable_long = ap (λ s. length s) durable;
      taken_long = ap (λ s. length s) taken;
      taken_held = λ b. ap (λ s. has s b) taken ∙ one (has a.working b)
          ∙ sym (λ i. has a.working b || (ap (λ t. has (if t then a.frozen else none_of a.frozen) b) is ∙ has-none a.frozen b) i || has (durable i) b);
      users = λ b low. ap (λ s. has s b) (taken ∙ working) ∙ users-below a.first_user held b low;
      begins = omega arith;
    } where
      one : (w : Bool) → w ≡ (w || false || w)
      one true = refl
      one false = refl
