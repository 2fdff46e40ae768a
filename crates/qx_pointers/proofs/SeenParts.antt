-- What is seen of visits end to end, side by side, and below a block.
use Rattle.std.proofs.Common.{◌≡◌, ℕ, zero, suc, ◌+◌, ◌*◌, ◌<◌, ◌≤◌, inl, inr, List, [], ◌∷◌, ◌++◌, length, refl, sym, ◌∙◌, ap, subst, add-one, arith}
use Rattle.std.specs.Prelude.{Bool, true, false, ◌||◌, Option, Some, None, Ok, Err, IfSome, map, filter, flat_map, slice_index_or}
use Rattle.std.specs.List.{find, list_any}
use Rattle.std.specs.Option.{option_map, option_or}
use Rattle.std.proofs.lemmas.Bool.{cases_lt}
use Rattle.std.proofs.lemmas.Grind.{flat_map-append}
use Rattle.std.proofs.lemmas.List.{append-nil, append_assoc, length-append, map-append}
use Rattle.std.proofs.lemmas.List.Elements.{filter-append}
use Rattle.std.proofs.lemmas.List.Folds.{find-append, list_any-append}
use Rattle.std.proofs.lemmas.List.FromFn.{map-range_with_len_more}
use Rattle.std.proofs.Math.Bool.{or-false}
use Rattle.qx_blockset.specs.Members.{Members}
use Rattle.qx_geom.specs.Lists.{each_below}
use Rattle.qx_geom.specs.Pointer.{absent}
use Rattle.qx_nodes.specs.BlockMap.{BlockMap}
use Rattle.qx_nodes.specs.Visits.{Visit, is_leaf, visits_under}
use Rattle.qx_nodes.specs.ForeignNodes.{is_stray_under}
use Rattle.qx_view.specs.Walk.{Test, visit_tests}
use Rattle.qx_pointers.proofs.PassedTests.{goes_as, goes_fails, goes_nowhere, goes_then}
use Rattle.qx_pointers.specs.declared.halt.Halt.{Halt}
use Rattle.qx_pointers.specs.declared.node.LeafPlace.{LeafPlace}
use Rattle.qx_pointers.specs.declared.node.Part.{Part}
use Rattle.qx_pointers.specs.declared.node.Visitor.{Visitor}
use Rattle.qx_pointers.specs.Marks.{GoesThrough}
use Rattle.qx_pointers.specs.Parts.{IsSeen, end_of, has_bare_under, is_end, joined, kept_leaves, nothing, place_of}
use Rattle.qx_pointers.specs.Passage.{Sees, bare_beside, strays_beside, visits_beside}

-- the tests of visits
abbrev pub tests_at : BlockMap → ℕ → List Visit → List Test
tests_at m inode visits = flat_map (λ v. visit_tests m inode v) visits

-- ---- end to end

-- the leaves that are kept of two lists
pub kept-append : (keeps : Bool) (as' bs : List Visit) → kept_leaves keeps (as' ++ bs) ≡ kept_leaves keeps as' ++ kept_leaves keeps bs
kept-append true as' bs = ap (map place_of) (filter-append is_leaf as' bs) ∙ map-append place_of (filter is_leaf as') (filter is_leaf bs)
kept-append false as' bs = refl

-- a block of the first or else of the second
or_map : (a b : Option Visit) → option_map (λ (v : Visit). v.block) (option_or a b) ≡ option_or (option_map (λ (v : Visit). v.block) a) (option_map (λ (v : Visit). v.block) b)
or_map None b = refl
or_map (Some v) b = refl

-- the last leaf's block in two lists
end-append : (last : ℕ) (as' bs : List Visit) → end_of last (as' ++ bs) ≡ option_or (end_of last as') (end_of last bs)
end-append last as' bs = ap (option_map (λ (v : Visit). v.block)) (find-append (is_end last) as' bs) ∙ or_map (find (is_end last) as') (find (is_end last) bs)

-- what is seen of two lists
seen_then : (last : ℕ) (as' bs : List Visit) (s t x y : Bool) (p q : Part) → IsSeen last as' s x p → IsSeen last bs t y q → IsSeen last (as' ++ bs) (s || t) (x || y) (joined p q)
seen_then last as' bs s t x y p q a b = record {
  leaves = (λ i. a.leaves i + b.leaves i) ∙ sym (ap length (filter-append is_leaf as' bs) ∙ length-append (filter is_leaf as') (filter is_leaf bs));
  strays = λ i. a.strays i || b.strays i;
  bare = λ i. a.bare i || b.bare i;
  end = (λ i. option_or (a.end i) (b.end i)) ∙ sym (end-append last as' bs);
}

module _ (m : BlockMap) (visitor : Visitor) (last : ℕ) where
  -- nothing is met
  pub sees_nothing : (a : Members) (xs : List LeafPlace) → Sees m visitor last [] false false (Ok nothing) a a xs xs
  sees_nothing a xs = record {
    tests = goes_nowhere nothing a;
    part = record { leaves = refl; strays = refl; bare = refl; end = refl };
    leaves = none visitor.keeps;
  }
    where
      none : (keeps : Bool) → xs ≡ xs ++ kept_leaves keeps []
      none true = sym (append-nil xs)
      none false = sym (append-nil xs)

  -- visits, and then others
  pub sees_then : (as' bs : List Visit) (s t x y : Bool) (p q : Part) (a b c : Members) (xs ys zs : List LeafPlace)
      → Sees m visitor last as' s x (Ok p) a b xs ys → Sees m visitor last bs t y (Ok q) b c ys zs → Sees m visitor last (as' ++ bs) (s || t) (x || y) (Ok (joined p q)) a c xs zs
  sees_then as' bs s t x y p q a b c xs ys zs u v = record {
    tests = subst (λ z. GoesThrough z (Ok (joined p q)) a c) (sym (flat_map-append (λ v. visit_tests m visitor.inode v) as' bs))
        (goes_then (tests_at m visitor.inode as') (tests_at m visitor.inode bs) p (Ok (joined p q)) a b c u.tests (goes_as (tests_at m visitor.inode bs) q (joined p q) b c v.tests));
    part = seen_then last as' bs s t x y p q u.part v.part;
    leaves = v.leaves ∙ ap (λ z. z ++ kept_leaves visitor.keeps bs) u.leaves ∙ append_assoc xs (kept_leaves visitor.keeps as') (kept_leaves visitor.keeps bs) ∙ ap (λ z. xs ++ z) (sym (kept-append visitor.keeps as' bs));
  }

  -- visits, and then others at which the walk halts
  pub sees_then_halts : (as' bs : List Visit) (s t x y f g : Bool) (p : Part) (halt : Halt) (a b c : Members) (ws xs ys zs : List LeafPlace)
      → Sees m visitor last as' s x (Ok p) a b ws xs → Sees m visitor last bs t y (Err halt) b c ys zs → Sees m visitor last (as' ++ bs) f g (Err halt) a c ws zs
  sees_then_halts as' bs s t x y f g p halt a b c ws xs ys zs u v = record {
    tests = subst (λ z. GoesThrough {T = Part} z (Err halt) a c) (sym (flat_map-append (λ v. visit_tests m visitor.inode v) as' bs))
        (goes_then (tests_at m visitor.inode as') (tests_at m visitor.inode bs) p (Err halt) a b c u.tests v.tests);
    part = tt;
    leaves = tt;
  }

  -- the walk halts at visits, whatever others follow
  pub sees_halts : (as' bs : List Visit) (s x f g : Bool) (halt : Halt) (a b : Members) (xs ys : List LeafPlace)
      → Sees m visitor last as' s x (Err halt) a b xs ys → Sees m visitor last (as' ++ bs) f g (Err halt) a b xs ys
  sees_halts as' bs s x f g halt a b xs ys u = record {
    tests = subst (λ z. GoesThrough {T = Part} z (Err halt) a b) (sym (flat_map-append (λ v. visit_tests m visitor.inode v) as' bs))
        (goes_fails (tests_at m visitor.inode as') (tests_at m visitor.inode bs) halt a b b u.tests);
    part = tt;
    leaves = tt;
  }

-- ---- side by side

-- some number below one more
pub any_more : (n : ℕ) (f : ℕ → Bool) → list_any f (each_below (suc n) (λ w. w)) ≡ (list_any f (each_below n (λ w. w)) || f n)
any_more n f = ap (λ k. list_any f (each_below k (λ w. w))) (sym (add-one n)) ∙ (ap (list_any f) (map-range_with_len_more (λ w. w) 0 n n (omega arith)) ∙ list_any-append f (each_below n (λ w. w)) (n ∷ []) ∙ ap (λ b. list_any f (each_below n (λ w. w)) || b) (or-false (f n)))

module _ (m : BlockMap) (visitor : Visitor) (last level first : ℕ) (pointers : List ℕ) where
  -- one more pointer
  pub sees_next : (n block : ℕ) (p q : Part) (a b c : Members) (xs ys zs : List LeafPlace) → block ≡ slice_index_or pointers n absent
      → Sees m visitor last (visits_beside m last level first pointers n) (strays_beside m last level first pointers n) (bare_beside m last level first pointers n) (Ok p) a b xs ys
      → Sees m visitor last (visits_under m last level (first + n) block) (is_stray_under m last level (first + n) block) (has_bare_under m last level (first + n) block) (Ok q) b c ys zs
      → Sees m visitor last (visits_beside m last level first pointers (suc n)) (strays_beside m last level first pointers (suc n)) (bare_beside m last level first pointers (suc n)) (Ok (joined p q)) a c xs zs
  sees_next n block p q a b c xs ys zs is u v =
      subst (λ s. Sees m visitor last (visits_beside m last level first pointers (suc n)) s (bare_beside m last level first pointers (suc n)) (Ok (joined p q)) a c xs zs) (sym (any_more n (λ w. is_stray_under m last level (first + w) (slice_index_or pointers w absent))))
      (subst (λ x. Sees m visitor last (visits_beside m last level first pointers (suc n)) (strays_beside m last level first pointers n || is_stray_under m last level (first + n) (slice_index_or pointers n absent)) x (Ok (joined p q)) a c xs zs) (sym (any_more n (λ w. has_bare_under m last level (first + w) (slice_index_or pointers w absent))))
      (sees_then m visitor last _ _ _ _ _ _ p q a b c xs ys zs u (subst (λ z. Sees m visitor last (visits_under m last level (first + n) z) (is_stray_under m last level (first + n) z) (has_bare_under m last level (first + n) z) (Ok q) b c ys zs) is v)))

  -- the walk halted before further pointers
  halted_before : (n k : ℕ) (s x f g : Bool) (halt : Halt) (a b : Members) (xs ys : List LeafPlace) → n ≤ k
      → Sees m visitor last (visits_beside m last level first pointers n) s x (Err halt) a b xs ys → Sees m visitor last (visits_beside m last level first pointers k) f g (Err halt) a b xs ys
  halted_before n zero s x f g halt a b xs ys h u = let is : n ≡ 0 = omega (arith, h) in record { tests = subst (λ z. GoesThrough {T = Part} (tests_at m visitor.inode (visits_beside m last level first pointers z)) (Err halt) a b) is u.tests; part = tt; leaves = tt }
  halted_before n (suc k) s x f g halt a b xs ys h u = elim (cases_lt n (suc k)) [
    | inl less ↦ sees_halts m visitor last (visits_beside m last level first pointers k) _ s x f g halt a b xs ys (halted_before n k s x s x halt a b xs ys (omega (arith, less)) u)
    | inr not_less ↦ let is : n ≡ suc k = omega (arith, h, not_less) in record { tests = subst (λ z. GoesThrough {T = Part} (tests_at m visitor.inode (visits_beside m last level first pointers z)) (Err halt) a b) is u.tests; part = tt; leaves = tt }
  ]

  -- the walk halts at one more pointer, of so many in all
  pub sees_next_halts : (n k block : ℕ) (s x f g : Bool) (p : Part) (halt : Halt) (a b c : Members) (ws xs zs : List LeafPlace) → n < k → block ≡ slice_index_or pointers n absent
      → Sees m visitor last (visits_beside m last level first pointers n) (strays_beside m last level first pointers n) (bare_beside m last level first pointers n) (Ok p) a b ws xs
      → Sees m visitor last (visits_under m last level (first + n) block) s x (Err halt) b c xs zs
      → Sees m visitor last (visits_beside m last level first pointers k) f g (Err halt) a c ws zs
  sees_next_halts n k block s x f g p halt a b c ws xs zs h is u v =
      halted_before (suc n) k s x f g halt a c ws zs (omega (arith, h))
      (sees_then_halts m visitor last _ _ _ s _ x s x p halt a b c ws xs xs zs u (subst (λ z. Sees m visitor last (visits_under m last level (first + n) z) s x (Err halt) b c xs zs) is v))

-- ---- facts whether the device tells or not

-- a block that is named by the first or else by the second
pub or_some : (a b : Option ℕ) (P : ℕ → Type 0) → IfSome a P → IfSome b P → IfSome (option_or a b) P
or_some None b P f g = g
or_some (Some x) b P f g = f

-- as many leaves as one more pointer reaches
pub few_more : (n span a b r : ℕ) → a ≤ n * span → b ≤ span → r ≡ a + b → r ≤ (n + 1) * span
few_more n span a b r f g e = omega (arith, f, g, e)
