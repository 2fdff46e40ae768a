-- The positions of a tree are those of its nodes, and so are the fresh ones.
use Rattle.std.proofs.Common.{◌≡◌, ℕ, zero, suc, ◌+◌, ◌<◌, ◌≤◌, List, [], length, refl, sym, subst, arith}
use Rattle.std.specs.Prelude.{Bool, true, false, not, ◌&&◌, ◌||◌, Option, Some, None, Contains, map, slice_get}
use Rattle.std.specs.List.{range_with_len}
use Rattle.std.specs.Option.{option_flatten}
use Rattle.std.proofs.lemmas.Option.{slice_get_within}
use Rattle.qx_geom.proofs.ImagesAndFilters.{Contains-in, in_Contains, in_filter, filter_in}
use Rattle.qx_geom.proofs.LeastTouch.{leaf_below}
use Rattle.qx_geom.proofs.Members.{Contains-head, Contains-cons}
use Rattle.qx_geom.specs.Lists.{is_in}
use Rattle.qx_geom.specs.Positions.{Shape, at_level, shape_of}
use Rattle.qx_geom.specs.Positions as node
use Rattle.qx_geom.specs.Touch.{fresh_at, is_fresh}
use Rattle.qx_model.specs.Tree.{Entry, Tree, entry_of}
use Rattle.qx_model.specs.Owners.{OfFurther, OfInode, OfInodes, OfLongfile, Owner}
use Rattle.qx_model.specs.Edits.{Edit}
use Rattle.qx_model.specs.TreePositions.{HasPosition, Position, entry_shape, has_position, owners_of, positions_by, positions_in_node, positions_of, shape_in}
use Rattle.qx_model.specs.TreeTouch.{fresh_in_node, fresh_positions, is_touched, private_in, rank_in, written_in}
use Rattle.qx_model.proofs.ListMembers.{Contains-flat_map, Contains-map, Contains-range, flat_map-Contains, map-Contains, range-Contains}
use Rattle.qx_model.proofs.SamePositions.{rank_in-member}

-- ---- what is listed of a node

-- an index that a level gives is listed
listed : (f : ℕ → List ℕ) (o : Owner) (s : Shape) (k j : ℕ) → k < s.levels + 1 → is_in (f k) j ≡ true → Contains (positions_by f o s) (record { owner = o; level = k; index = j })
listed f o s k j below h =
    Contains-flat_map (λ k. map (λ j. record { owner = o; level = k; index = j }) (f k)) (range_with_len 0 (s.levels + 1)) k (record { owner = o; level = k; index = j })
    (Contains-range 0 (s.levels + 1) k (omega arith) (omega arith))
    (Contains-map (λ j. record { owner = o; level = k; index = j }) (f k) j (Contains-in (f k) j h))

-- what a listed position is
pub record IsListed (f : ℕ → List ℕ) (o : Owner) (s : Shape) (p : Position) : Type 0 where
  pub owner : p.owner ≡ o
  pub level : p.level < s.levels + 1
  pub index : is_in (f p.level) p.index ≡ true

-- and no other is
pub from_listed : (f : ℕ → List ℕ) (o : Owner) (s : Shape) (p : Position) → Contains (positions_by f o s) p → IsListed f o s p
from_listed f o s p c =
    let a = flat_map-Contains (λ k. map (λ j. record { owner = o; level = k; index = j }) (f k)) (range_with_len 0 (s.levels + 1)) p c in
    let b = map-Contains (λ (j : ℕ). let q : Position = record { owner = o; level = a.0; index = j } in q) (f a.0) p a.2 in
    let r = range-Contains 0 (s.levels + 1) a.0 a.1 in
    subst (λ (q : Position). IsListed f o s q) b.2 (record { owner = refl; level = omega (arith, r.1); index = in_Contains (f a.0) b.0 b.1 })

-- ---- owners

-- a live inode is an owner
live_owner : (t : Tree) (n : ℕ) (e : Entry) → entry_of t n ≡ Some e → Contains (owners_of t) (OfInode n)
live_owner t zero e h = absurd (cc)
live_owner t (suc n) e h = go (slice_get t.inodes n) refl h
  where
    go : (o : Option (Option Entry)) → slice_get t.inodes n ≡ o → option_flatten o ≡ Some e → Contains (owners_of t) (OfInode (suc n))
    go None is h = absurd (cc)
    go (Some x) is h =
        let below = slice_get_within t.inodes n x is in
        Contains-cons OfLongfile (OfInode (suc n)) (map (λ m. OfInode m) (range_with_len 1 (length t.inodes)))
        (Contains-map (λ m. OfInode m) (range_with_len 1 (length t.inodes)) (suc n) (Contains-range 1 (length t.inodes) (suc n) (omega arith) (omega arith)))

-- an empty node has no position
pub nothing_there : (blocksize k j : ℕ) → node.has_position blocksize (shape_of blocksize 0 []) k j ≡ true → ⊥
nothing_there blocksize k j h = let l = leaf_below blocksize (shape_of blocksize 0 []) k j h in cc_of l.1.1
  where
    cc_of : false ≡ true → ⊥
    cc_of h = cc

-- the owner of a position is one of the tree's
owner_there : (blocksize : ℕ) (t : Tree) (p : Position) → HasPosition blocksize t p → Contains (owners_of t) p.owner
owner_there blocksize t p h = owned p.owner h
  where
    live : (n : ℕ) (o : Option Entry) → entry_of t n ≡ o → node.has_position blocksize (entry_shape blocksize o) p.level p.index ≡ true → Contains (owners_of t) (OfInode n)
    live n None is h = absurd (nothing_there blocksize p.level p.index h)
    live n (Some e) is h = live_owner t n e is

    owned : (o : Owner) → node.has_position blocksize (shape_in blocksize t o) p.level p.index ≡ true → Contains (owners_of t) o
    owned OfLongfile h = Contains-head OfLongfile (map (λ n. OfInode n) (range_with_len 1 (length t.inodes)))
    owned (OfInode n) h = live n (entry_of t n) refl h
    owned OfInodes h = absurd (nothing_there blocksize p.level p.index h)
    owned (OfFurther k) h = absurd (nothing_there blocksize p.level p.index h)

-- ---- positions

-- the level of a position is one of its node's
level_there : (blocksize : ℕ) (s : Shape) (k j : ℕ) → node.has_position blocksize s k j ≡ true → k < s.levels + 1
level_there blocksize s k j h = let le : k ≤ s.levels = (leaf_below blocksize s k j h).0 in omega arith

-- each position is listed
pub position_listed : (blocksize : ℕ) (t : Tree) (p : Position) → HasPosition blocksize t p → Contains (positions_of blocksize t) p
position_listed blocksize t p h =
    let s = shape_in blocksize t p.owner in
    Contains-flat_map (λ o. positions_in_node blocksize o (shape_in blocksize t o)) (owners_of t) p.owner p (owner_there blocksize t p h)
    (listed (at_level blocksize s) p.owner s p.level p.index (level_there blocksize s p.level p.index h) h)

-- and nothing else is
pub listed_position : (blocksize : ℕ) (t : Tree) (p : Position) → Contains (positions_of blocksize t) p → HasPosition blocksize t p
listed_position blocksize t p c =
    let a = flat_map-Contains (λ o. positions_in_node blocksize o (shape_in blocksize t o)) (owners_of t) p c in
    let l = from_listed (at_level blocksize (shape_in blocksize t a.0)) a.0 (shape_in blocksize t a.0) p a.2 in
    subst (λ o. node.has_position blocksize (shape_in blocksize t o) p.level p.index ≡ true) (sym l.owner) l.index

-- ---- fresh positions

module _ (blocksize : ℕ) (old : Tree) (e : Edit) (private : Position → Bool) where
  -- whether a position of the new tree takes a fresh block, by its node
  abbrev pub takes_fresh : Position → Bool
  takes_fresh p = is_fresh blocksize (shape_in blocksize old p.owner) (shape_in blocksize e.tree p.owner) (written_in p.owner e.written) (private_in private p.owner) p.level p.index

  -- the fresh indices of a level
  abbrev fresh_level : Owner → ℕ → List ℕ
  fresh_level o k = fresh_at blocksize (shape_in blocksize old o) (shape_in blocksize e.tree o) (written_in o e.written) (private_in private o) k

  -- each position that takes a fresh block is listed
  pub fresh_listed : (p : Position) → HasPosition blocksize e.tree p → takes_fresh p ≡ true → Contains (fresh_positions blocksize old e private) p
  unfolding fresh_positions
  fresh_listed p h f =
      let s = shape_in blocksize e.tree p.owner in
      Contains-flat_map (fresh_in_node blocksize old e private) (owners_of e.tree) p.owner p (owner_there blocksize e.tree p h)
      (listed (fresh_level p.owner) p.owner s p.level p.index (level_there blocksize s p.level p.index h)
      (in_filter (is_fresh blocksize (shape_in blocksize old p.owner) s (written_in p.owner e.written) (private_in private p.owner) p.level) (at_level blocksize s p.level) p.index h f))

  -- and nothing else is
  pub listed_fresh : (p : Position) → Contains (fresh_positions blocksize old e private) p → HasPosition blocksize e.tree p × (takes_fresh p ≡ true)
  unfolding fresh_positions
  listed_fresh p c =
      let a = flat_map-Contains (fresh_in_node blocksize old e private) (owners_of e.tree) p c in
      let l = from_listed (fresh_level a.0) a.0 (shape_in blocksize e.tree a.0) p a.2 in
      let at = subst (λ o. is_in (fresh_level o p.level) p.index ≡ true) (sym l.owner) l.index in
      let s = shape_in blocksize e.tree p.owner in
      filter_in (is_fresh blocksize (shape_in blocksize old p.owner) s (written_in p.owner e.written) (private_in private p.owner) p.level) (at_level blocksize s p.level) p.index at

  -- what takes no fresh block was there before
  pub was_there : (p : Position) → HasPosition blocksize e.tree p → rank_in (fresh_positions blocksize old e private) p ≡ None → HasPosition blocksize old p
  was_there p h unranked = go (has_position blocksize old p) refl
    where
      go : (b : Bool) → has_position blocksize old p ≡ b → has_position blocksize old p ≡ true
      go true is = is
      go false is =
          let fresh : takes_fresh p ≡ true = λ i. not (is i) || (is_touched blocksize old e p && not (private p)) in
          absurd (rank_in-member (fresh_positions blocksize old e private) p (fresh_listed p h fresh) unranked)
