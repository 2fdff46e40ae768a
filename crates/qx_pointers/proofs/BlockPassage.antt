-- What a passage through one pointer does.
use Rattle.std.proofs.Common.{◌≡◌, ◌≢◌, ℕ, zero, suc, ◌+◌, ◌-◌, ◌*◌, ◌^◌, ◌<◌, ◌≤◌, List, [], ◌∷◌, ◌++◌, length, refl, sym, ◌∙◌, ap, subst, arith}
use Rattle.std.specs.Prelude.{Bool, true, false, not, ◌||◌, ◌&&◌, ◌==◌, nat_eq, nat_lt, if◌then◌else◌, Some, Result, Ok, Err, map, filter}
use Rattle.std.specs.List.{find, list_any}
use Rattle.std.specs.Option.{option_map}
use Rattle.std.proofs.lemmas.Bool.{eqb-true}
use Rattle.qx_blockset.specs.Members.{Members}
use Rattle.qx_geom.proofs.Truths.{not_so}
use Rattle.qx_geom.specs.Lists.{each_below}
use Rattle.qx_geom.specs.Pointer.{absent, per_block}
use Rattle.qx_nodes.specs.BlockMap.{BlockMap, word}
use Rattle.qx_nodes.specs.Visits.{Visit, is_leaf, visits_under}
use Rattle.qx_nodes.specs.ForeignNodes.{is_stray_under}
use Rattle.qx_view.specs.declared.findings.Code.TheVariants as codes
use Rattle.qx_view.specs.Walk.{Met, Test, Tested, visit_tests}
use Rattle.qx_pointers.proofs.PassedTests.{goes_as, goes_fails, goes_then}
use Rattle.qx_pointers.proofs.PointerVisits.{AreOf, Begins, Meets, are_of, begins, block_at, meets_absent, meets_block, meets_stray, parts_of}
use Rattle.qx_pointers.proofs.SeenParts.{sees_nothing, tests_at}
use Rattle.qx_pointers.specs.declared.halt.Halt.{Halt}
use Rattle.qx_pointers.specs.declared.node.LeafPlace.{LeafPlace}
use Rattle.qx_pointers.specs.declared.node.Part.{Part}
use Rattle.qx_pointers.specs.declared.node.Visitor.{Visitor}
use Rattle.qx_pointers.specs.Marks.{GoesThrough}
use Rattle.qx_pointers.specs.Parts.{IsSeen, has_bare_under, is_end, kept_leaves, nothing, place_of}
use Rattle.qx_pointers.specs.Passage.{Sees, bare_beside, strays_beside, visits_beside}

-- the tests of a pointer
abbrev pub pointer_tests : ℕ → ℕ → ℕ → List Test
pointer_tests inode count p = Tested codes.Pointer inode p (nat_lt p count) ∷ Met inode p ∷ []

-- no leaf among these visits
no_leaf : (visits : List Visit) → nat_eq (length (filter is_leaf visits)) 0 ≡ not (list_any is_leaf visits)
no_leaf [] = refl
no_leaf (v ∷ visits) = go (is_leaf v) (no_leaf visits)
  where
    go : (b : Bool) → nat_eq (length (filter is_leaf visits)) 0 ≡ not (list_any is_leaf visits) → nat_eq (length (if b then v ∷ filter is_leaf visits else filter is_leaf visits)) 0 ≡ not (b || list_any is_leaf visits)
    go true e = not_so _ (λ t. let z : suc (length (filter is_leaf visits)) ≡ 0 = eqb-true _ 0 t in omega (arith, z))
    go false e = e

module _ (m : BlockMap) (visitor : Visitor) (last : ℕ) where
  -- a passage through one pointer
  abbrev pub SeesUnder : ℕ → ℕ → ℕ → Result Part Halt → Members → Members → List LeafPlace → List LeafPlace → Type 0
  SeesUnder level index p = Sees m visitor last (visits_under m last level index p) (is_stray_under m last level index p) (has_bare_under m last level index p)

  -- by what is met from it on
  sees_as : (level index p : ℕ) (visits : List Visit) (s x : Bool) (r : Result Part Halt) (a b : Members) (xs ys : List LeafPlace) → Meets m last level index p visits s x → Sees m visitor last visits s x r a b xs ys → SeesUnder level index p r a b xs ys
  sees_as level index p visits s x r a b xs ys e u =
      subst (λ z. Sees m visitor last z (is_stray_under m last level index p) (has_bare_under m last level index p) r a b xs ys) (sym e.visits)
      (subst (λ z. Sees m visitor last visits z (has_bare_under m last level index p) r a b xs ys) (sym e.strays)
      (subst (λ z. Sees m visitor last visits s z r a b xs ys) (sym e.bare) u))

  -- it is absent
  pub sees_absent : (level index p : ℕ) (part : Part) (a : Members) (xs : List LeafPlace) → p ≡ absent → part ≡ nothing → SeesUnder level index p (Ok part) a a xs xs
  sees_absent level index p part a xs e is = subst (λ z. SeesUnder level index p (Ok z) a a xs xs) (sym is) (sees_as level index p [] false false (Ok nothing) a a xs xs (meets_absent m last level index p e) (sees_nothing m visitor last a xs))

  -- it leads past the size
  pub sees_stray : (level index p : ℕ) (part : Part) (a : Members) (xs : List LeafPlace) → p ≢ absent → last ≤ index * per_block m.size ^ level → part ≡ nothing → SeesUnder level index p (Ok (record part { strays = true })) a a xs xs
  sees_stray level index p part a xs there past is =
      let none : Sees m visitor last [] false false (Ok nothing) a a xs xs = sees_nothing m visitor last a xs in
      subst (λ z. SeesUnder level index p (Ok (record z { strays = true })) a a xs xs) (sym is)
      (sees_as level index p [] true false (Ok (record nothing { strays = true })) a a xs xs (meets_stray m last level index p there past)
      (record { tests = goes_as [] nothing (record nothing { strays = true }) a a none.tests; part = record { leaves = refl; strays = refl; bare = refl; end = refl }; leaves = none.leaves }))

  -- its own tests fail
  pub sees_unmarked : (level index p : ℕ) (halt : Halt) (a b : Members) (xs : List LeafPlace) → p ≢ absent → index * per_block m.size ^ level < last → GoesThrough {T = Unit {0}} (pointer_tests visitor.inode m.count p) (Err halt) a b → SeesUnder level index p (Err halt) a b xs xs
  sees_unmarked level index p halt a b xs there below fails =
      let start : Begins m last p (visits_under m last level index p) = begins m last level index p there below in
      record {
        tests = subst (λ z. GoesThrough {T = Part} (tests_at m visitor.inode z) (Err halt) a b) (sym start.is)
            (goes_fails (visit_tests m visitor.inode start.first) (tests_at m visitor.inode start.rest) halt a b b (subst (λ z. GoesThrough {T = Unit {0}} (pointer_tests visitor.inode m.count z) (Err halt) a b) (sym start.block) fails));
        part = tt;
        leaves = tt;
      }

  -- a block isn't a leaf
  above : (l index p : ℕ) → is_leaf (block_at (suc l) index p) ≡ false
  above l index p = not_so (suc l == 0) (λ t. let e : suc l ≡ 0 = eqb-true (suc l) 0 t in omega (arith, e))

  -- what is seen of a block and the visits below it
  block_seen : (l index p : ℕ) (visits : List Visit) (s x hollow : Bool) (below : Part) → IsSeen last visits s x below → hollow ≡ (nat_eq below.leaves 0 || below.bare) → IsSeen last (block_at (suc l) index p ∷ visits) s (not (list_any is_leaf (block_at (suc l) index p ∷ visits)) || x) (record below { bare = hollow })
  block_seen l index p visits s x hollow below u is =
      let top : Visit = block_at (suc l) index p in
      record {
        leaves = u.leaves ∙ sym (ap (λ b. length (if b then top ∷ filter is_leaf visits else filter is_leaf visits)) (above l index p));
        strays = u.strays;
        bare = is ∙ (λ i. nat_eq (u.leaves i) 0 || u.bare i) ∙ ap (λ b. b || x) (no_leaf visits) ∙ sym (ap (λ b. not (b || list_any is_leaf visits) || x) (above l index p));
        end = u.end ∙ sym (ap (λ b. option_map (λ (v : Visit). v.block) (if b && (index + 1 == last) then Some top else find (is_end last) visits)) (above l index p));
      }

  -- what is kept below a block
  block_kept : (keeps : Bool) (l index p : ℕ) (visits : List Visit) → kept_leaves keeps (block_at (suc l) index p ∷ visits) ≡ kept_leaves keeps visits
  block_kept true l index p visits = ap (λ b. map place_of (if b then block_at (suc l) index p ∷ filter is_leaf visits else filter is_leaf visits)) (above l index p)
  block_kept false l index p visits = refl

  -- a passage through its pointers, which are side by side
  abbrev pub SeesBeside : ℕ → ℕ → List ℕ → Result Part Halt → Members → Members → List LeafPlace → List LeafPlace → Type 0
  SeesBeside level first pointers = Sees m visitor last (visits_beside m last level first pointers (length pointers)) (strays_beside m last level first pointers (length pointers)) (bare_beside m last level first pointers (length pointers))

  -- in the words of the definitions
  beside_as : (l index p first : ℕ) (pointers : List ℕ) (r : Result Part Halt) (a b : Members) (xs ys : List LeafPlace) → AreOf m last l index p first pointers → SeesBeside l first pointers r a b xs ys
      → Sees m visitor last (parts_of m last l index p)
      (list_any (λ w. is_stray_under m last l (index * per_block m.size + w) (word m p w)) (each_below (per_block m.size) (λ w. w)))
      (list_any (λ w. has_bare_under m last l (index * per_block m.size + w) (word m p w)) (each_below (per_block m.size) (λ w. w))) r a b xs ys
  beside_as l index p first pointers r a b xs ys of u = subst (λ z. z) (λ i. Sees m visitor last (of.visits i) (of.strays i) (of.bare i) r a b xs ys) u

  -- it leads to a block, and the walk halts below it
  pub sees_block_halts : (level lower index p first : ℕ) (pointers : List ℕ) (halt : Halt) (a b c : Members) (xs ys : List LeafPlace) → level ≢ 0 → lower ≡ level - 1 → p ≢ absent → index * per_block m.size ^ level < last → p < m.count
      → first ≡ index * per_block m.size → pointers ≡ each_below (per_block m.size) (λ w. word m p w)
      → GoesThrough {T = Unit {0}} (pointer_tests visitor.inode m.count p) (Ok tt) a b → SeesBeside lower first pointers (Err halt) b c xs ys → SeesUnder level index p (Err halt) a c xs ys
  sees_block_halts zero lower index p first pointers halt a b c xs ys some down there below block at is passed u = absurd (some refl)
  sees_block_halts (suc l) lower index p first pointers halt a b c xs ys some down there below block at is passed u =
      let low : lower ≡ l = omega (arith, down) in
      let rest = beside_as l index p first pointers (Err halt) b c xs ys (are_of m last l index p first pointers at is) (subst (λ z. SeesBeside z first pointers (Err halt) b c xs ys) low u) in
      sees_as (suc l) index p _ _ _ (Err halt) a c xs ys (meets_block m last l index p there below block)
      (record { tests = goes_then (pointer_tests visitor.inode m.count p) (tests_at m visitor.inode (parts_of m last l index p)) tt (Err halt) a b c passed rest.tests; part = tt; leaves = tt })

  -- it leads to a block
  pub sees_block : (level lower index p first : ℕ) (pointers : List ℕ) (part : Part) (hollow : Bool) (a b c : Members) (xs ys : List LeafPlace) → level ≢ 0 → lower ≡ level - 1 → p ≢ absent → index * per_block m.size ^ level < last → p < m.count
      → first ≡ index * per_block m.size → pointers ≡ each_below (per_block m.size) (λ w. word m p w)
      → GoesThrough {T = Unit {0}} (pointer_tests visitor.inode m.count p) (Ok tt) a b → SeesBeside lower first pointers (Ok part) b c xs ys → hollow ≡ (nat_eq part.leaves 0 || part.bare)
      → SeesUnder level index p (Ok (record part { bare = hollow })) a c xs ys
  sees_block zero lower index p first pointers part hollow a b c xs ys some down there below block at is passed u e = absurd (some refl)
  sees_block (suc l) lower index p first pointers part hollow a b c xs ys some down there below block at is passed u e =
      let low : lower ≡ l = omega (arith, down) in
      let rest = beside_as l index p first pointers (Ok part) b c xs ys (are_of m last l index p first pointers at is) (subst (λ z. SeesBeside z first pointers (Ok part) b c xs ys) low u) in
      sees_as (suc l) index p _ _ _ (Ok (record part { bare = hollow })) a c xs ys (meets_block m last l index p there below block)
      (record {
        tests = goes_then (pointer_tests visitor.inode m.count p) (tests_at m visitor.inode (parts_of m last l index p)) tt (Ok (record part { bare = hollow })) a b c passed (goes_as (tests_at m visitor.inode (parts_of m last l index p)) part (record part { bare = hollow }) b c rest.tests);
        part = block_seen l index p (parts_of m last l index p) _ _ hollow part rest.part e;
        leaves = rest.leaves ∙ ap (λ z. xs ++ z) (sym (block_kept visitor.keeps l index p (parts_of m last l index p)));
      })
