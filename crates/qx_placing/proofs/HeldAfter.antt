-- How many blocks a machine holds after an edit: those that it held and the fresh ones, without the private ones at positions that don't keep theirs.
use Rattle.std.proofs.Common.{◌≡◌, ℕ, ◌+◌, List, [], ◌∷◌, ◌++◌, length, refl, sym, ◌∙◌, ap, subst, arith}
use Rattle.std.specs.Prelude.{Bool, true, false, not, ◌&&◌, ◌||◌, Option, Some, None, Contains, cond, count_by, filter, flat_map, if◌then◌else◌, map}
use Rattle.std.specs.List.{range_with_len}
use Rattle.std.proofs.lemmas.List.Sums.{length-filter, sum_by-cons}
use Rattle.qx_geom.specs.Lists.{Distinct, is_in}
use Rattle.qx_geom.specs.Positions.{at_level}
use Rattle.qx_geom.proofs.ImagesAndFilters.{Contains-in}
use Rattle.qx_geom.proofs.Members.{Contains-cons, Contains-head, is_in-append}
use Rattle.qx_geom.proofs.Truths.{and_left, and_right, not_so, not_true}
use Rattle.qx_batch.proofs.DistinctLists.{Contains-filter, Distinct-filter, filter-Contains}
use Rattle.qx_model.specs.Edits.{Edit}
use Rattle.qx_model.specs.Ids.{HasIds}
use Rattle.qx_model.specs.Machine.{Machine}
use Rattle.qx_model.specs.Owners.{Owner}
use Rattle.qx_model.specs.Space.{different_count, fresh_in, held_count, id_by, is_private, need_of, snapshot_ids, with_edit}
use Rattle.qx_model.specs.Tree.{Tree}
use Rattle.qx_model.specs.TreePositions.{HasPosition, Position, has_position, owners_of, positions_in_node, positions_of, shape_in}
use Rattle.qx_model.specs.TreeTouch.{fresh_in_node, fresh_positions, is_touched, rank_in}
use Rattle.qx_model.proofs.ListMembers.{map-Contains}
use Rattle.qx_model.proofs.OwnIds.{edit_has_ids}
use Rattle.qx_model.proofs.SamePositions.{rank_in-member}
use Rattle.qx_model.proofs.TreeNodes.{fresh_listed, listed_fresh, listed_position, position_listed, takes_fresh}
use Rattle.qx_placing.specs.Placed.{keeps_block, lost_positions}
use Rattle.qx_placing.proofs.ReadAgain.{new_apart, ranked}
use Rattle.qx_placing.proofs.SameMembers.{filter_image, filter_parts, length_alike}

-- ---- counts

-- elements whose numbers differ count where these are none of some others
counted_before : {A : Type 0} (f : A → ℕ) (xs : List A) (others : List ℕ) → Distinct xs → ((x y : A) → Contains xs x → Contains xs y → f x ≡ f y → x ≡ y)
    → different_count (map f xs ++ others) ≡ count_by (λ x. not (is_in others (f x))) xs + different_count others
counted_before f [] others d differ = omega arith
counted_before f (x ∷ xs) others d differ =
    let out : is_in (map f xs) (f x) ≡ false = not_so (is_in (map f xs) (f x)) (λ t.
    let a = map-Contains f xs (f x) (Contains-in (map f xs) (f x) t) in
    d.0 (subst (λ z. Contains xs z) (differ a.0 x (Contains-cons x a.0 xs a.1) (Contains-head x xs) a.2) a.1)) in
    let here : is_in (map f xs ++ others) (f x) ≡ is_in others (f x) = is_in-append (map f xs) others (f x) ∙ ap (λ b. b || is_in others (f x)) out in
    let one : ◌≡◌ {A = ℕ} (if is_in (map f xs ++ others) (f x) then 0 else 1) (if not (is_in others (f x)) then 1 else 0) = ap (λ (b : Bool). cond {A = ℕ} b 0 1) here ∙ turned (is_in others (f x)) in
    let rest : different_count (map f xs ++ others) ≡ count_by (λ x. not (is_in others (f x))) xs + different_count others
    = counted_before f xs others d.1 (λ y z a b same. differ y z (Contains-cons x y xs a) (Contains-cons x z xs b) same) in
    omega (arith, one, rest, sum_by-cons (λ y. if not (is_in others (f y)) then 1 else 0) x xs)
  where
    turned : (b : Bool) → ◌≡◌ {A = ℕ} (if b then 0 else 1) (if not b then 1 else 0)
    turned true = refl
    turned false = refl

-- those that pass the one test or the other
count_either : {A : Type 0} (r p q : A → Bool) (xs : List A) → ((x : A) → Contains xs x → r x ≡ (q x || p x)) → count_by r xs ≡ count_by q xs + count_by (λ x. p x && not (q x)) xs
count_either r p q [] same = refl
count_either r p q (x ∷ xs) same =
    let here : ◌≡◌ {A = ℕ} (if r x then 1 else 0) ((if q x then 1 else 0) + (if p x && not (q x) then 1 else 0)) = ap (λ (b : Bool). cond {A = ℕ} b 1 0) (same x (Contains-head x xs)) ∙ one (q x) (p x) in
    omega (
      arith,
      here,
      count_either r p q xs (λ y c. same y (Contains-cons x y xs c)),
      sum_by-cons (λ y. if r y then 1 else 0) x xs,
      sum_by-cons (λ y. if q y then 1 else 0) x xs,
      sum_by-cons (λ y. if p y && not (q y) then 1 else 0) x xs,
    )
  where
    one : (a b : Bool) → ◌≡◌ {A = ℕ} (if a || b then 1 else 0) ((if a then 1 else 0) + (if b && not a then 1 else 0))
    one true true = refl
    one true false = refl
    one false true = refl
    one false false = refl

-- those that pass one, by another
count_split : {A : Type 0} (p q : A → Bool) (xs : List A) → count_by p xs ≡ count_by (λ x. p x && q x) xs + count_by (λ x. p x && not (q x)) xs
count_split p q [] = refl
count_split p q (x ∷ xs) =
    omega (
      arith,
      one (p x) (q x),
      count_split p q xs,
      sum_by-cons (λ y. if p y then 1 else 0) x xs,
      sum_by-cons (λ y. if p y && q y then 1 else 0) x xs,
      sum_by-cons (λ y. if p y && not (q y) then 1 else 0) x xs,
    )
  where
    one : (a b : Bool) → ◌≡◌ {A = ℕ} (if a then 1 else 0) ((if a && b then 1 else 0) + (if a && not b then 1 else 0))
    one true true = refl
    one true false = refl
    one false true = refl
    one false false = refl

-- ---- fresh positions

module _ (blocksize : ℕ) (old : Tree) (e : Edit) (private : Position → Bool) where
  abbrev takes : Position → Bool
  takes = takes_fresh blocksize old e private

  -- a position of an owner's node
  abbrev at : Owner → ℕ → ℕ → Position
  at o k j = record { owner = o; level = k; index = j }

  -- the fresh ones of a node are those of its positions that take a fresh block
  fresh_in_one : (o : Owner) → filter takes (positions_in_node blocksize o (shape_in blocksize e.tree o)) ≡ fresh_in_node blocksize old e private o
  fresh_in_one o =
      let levels : List ℕ = range_with_len 0 ((shape_in blocksize e.tree o).levels + 1) in
      filter_parts takes (λ k. map (at o k) (at_level blocksize (shape_in blocksize e.tree o) k)) levels
      ∙ (λ i. flat_map (λ k. filter_image takes (at o k) (at_level blocksize (shape_in blocksize e.tree o) k) i) levels)

  -- and so it is with all
  fresh_filtered : fresh_positions blocksize old e private ≡ filter takes (positions_of blocksize e.tree)
  unfolding fresh_positions
  fresh_filtered = sym (filter_parts takes (λ o. positions_in_node blocksize o (shape_in blocksize e.tree o)) (owners_of e.tree) ∙ (λ i. flat_map (λ o. fresh_in_one o i) (owners_of e.tree)))

  fresh_counted : length (fresh_positions blocksize old e private) ≡ count_by takes (positions_of blocksize e.tree)
  fresh_counted = ap length fresh_filtered ∙ length-filter takes (positions_of blocksize e.tree)

  -- what takes none was there
  stood : (p : Position) → takes p ≡ false → HasPosition blocksize old p
  stood p quiet = go (has_position blocksize old p) refl quiet
    where
      go : (b : Bool) → has_position blocksize old p ≡ b → (not b || (is_touched blocksize old e p && not (private p))) ≡ false → has_position blocksize old p ≡ true
      go true is h = is
      go false is h = absurd (cc)

  -- private positions that are kept, in the one tree and in the other
  kept_alike : Distinct (positions_of blocksize old) → Distinct (positions_of blocksize e.tree)
      → count_by (λ p. private p && not (takes p)) (positions_of blocksize e.tree) ≡ count_by (λ p. private p && keeps_block blocksize old e private p) (positions_of blocksize old)
  kept_alike first second =
      let after : Position → Bool = λ p. private p && not (takes p) in
      let before : Position → Bool = λ p. private p && keeps_block blocksize old e private p in
      sym (length-filter after (positions_of blocksize e.tree))
      ∙ length_alike (filter after (positions_of blocksize e.tree)) (filter before (positions_of blocksize old)) (Distinct-filter after (positions_of blocksize e.tree) second) (Distinct-filter before (positions_of blocksize old) first)
      (λ p c.
      let f = Contains-filter after (positions_of blocksize e.tree) p c in
      let quiet : takes p ≡ false = not_true (takes p) (and_right (private p) (not (takes p)) f.1) in
      let there : has_position blocksize e.tree p ≡ true = listed_position blocksize e.tree p f.0 in
      filter-Contains before (positions_of blocksize old) p (position_listed blocksize old p (stood p quiet)) (λ i. and_left (private p) (not (takes p)) f.1 i && (there i && not (quiet i))))
      (λ p c.
      let f = Contains-filter before (positions_of blocksize old) p c in
      let keeps : keeps_block blocksize old e private p ≡ true = and_right (private p) (keeps_block blocksize old e private p) f.1 in
      filter-Contains after (positions_of blocksize e.tree) p (position_listed blocksize e.tree p (and_left (has_position blocksize e.tree p) (not (takes p)) keeps))
      (λ i. and_left (private p) (keeps_block blocksize old e private p) f.1 i && and_right (has_position blocksize e.tree p) (not (takes p)) keeps i))
      ∙ length-filter before (positions_of blocksize old)

-- ---- the machine

module _ (s : Machine) (e : Edit) (ids : HasIds s) (first : Distinct (positions_of s.volume.blocksize s.working.tree)) (second : Distinct (positions_of s.volume.blocksize e.tree)) where
  abbrev size : ℕ
  size = s.volume.blocksize

  abbrev takes_here : Position → Bool
  takes_here = takes_fresh size s.working.tree e (is_private s)

  -- before and after
  held_before : held_count s ≡ count_by (is_private s) (positions_of size s.working.tree) + different_count (snapshot_ids s)
  held_before =
      counted_before s.working.ids (positions_of size s.working.tree) (snapshot_ids s) first
      (λ p q a b same. ids.working.differ p q (listed_position size s.working.tree p a) (listed_position size s.working.tree q b) same)

  held_behind : held_count (with_edit e s) ≡ count_by (is_private (with_edit e s)) (positions_of size e.tree) + different_count (snapshot_ids s)
  held_behind =
      counted_before (with_edit e s).working.ids (positions_of size e.tree) (snapshot_ids s) second
      (λ p q a b same. (edit_has_ids s e ids.working).differ p q (listed_position size e.tree p a) (listed_position size e.tree q b) same)

  -- a block is the working copy's alone where it is fresh, and where it was and stays
  private_by : (p : Position) (o : Option ℕ) → HasPosition size e.tree p → rank_in (fresh_in s e) p ≡ o → not (is_in (snapshot_ids s) (id_by s.next_id o (s.working.ids p))) ≡ (takes_here p || is_private s p)
  private_by p None has unranked =
      let quiet : takes_here p ≡ false = not_so (takes_here p) (λ t. rank_in-member (fresh_in s e) p (fresh_listed size s.working.tree e (is_private s) p has t) unranked) in
      sym (ap (λ b. b || is_private s p) quiet)
  private_by p (Some k) has is =
      let fresh : takes_here p ≡ true = (listed_fresh size s.working.tree e (is_private s) p (ranked (fresh_in s e) p k is)).1 in
      ap not (new_apart s k ids) ∙ sym (ap (λ b. b || is_private s p) fresh)

  pub held_after : held_count (with_edit e s) + length (lost_positions size s.working.tree e (is_private s)) ≡ held_count s + need_of s e
  held_after =
      let keeps : Position → Bool = keeps_block size s.working.tree e (is_private s) in
      let behind = count_either (is_private (with_edit e s)) (is_private s) takes_here (positions_of size e.tree) (λ p c. private_by p (rank_in (fresh_in s e) p) (listed_position size e.tree p c) refl) in
      let before = count_split (is_private s) keeps (positions_of size s.working.tree) in
      let lost = length-filter (λ p. is_private s p && not (keeps p)) (positions_of size s.working.tree) in
      omega (
        arith,
        held_before,
        held_behind,
        behind,
        before,
        lost,
        kept_alike size s.working.tree e (is_private s) first second,
        fresh_counted size s.working.tree e (is_private s),
      )
