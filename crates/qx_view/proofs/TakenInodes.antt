-- The inodes that the walk takes: their parents, and what was listed before.
use Rattle.std.proofs.Common.{◌≡◌, ℕ, zero, suc, ◌⊎◌, inl, inr, List, [], ◌∷◌, ◌++◌, refl, sym, ◌∙◌, ap, subst, arith}
use Rattle.std.specs.Prelude.{true, false, Some, None, option_to_list, Contains, map, slice_get}
use Rattle.qx_geom.proofs.Members.{Contains-cases, Contains-cons, Contains-head, in_head, in_tail}
use Rattle.qx_geom.proofs.Truths.{true_or_false}
use Rattle.qx_geom.specs.Lists.{is_in}
use Rattle.qx_model.specs.Tree.{Row, Slot, Unused, named_by}
use Rattle.qx_nodes.specs.BlockMap.{BlockMap}
use Rattle.qx_view.proofs.PassingTests.{SlotsPass, fresh_directory}
use Rattle.qx_view.proofs.WalkEnds.{Named, named_listed, new_among, next}
use Rattle.qx_view.specs.Images.{Roots}
use Rattle.qx_view.specs.Walk.{Taken, is_directory_inode, listed_after, named_inodes, new_ones, taken_from}

-- 1 is its own parent, and every other was named by its parent
abbrev pub HasParent : BlockMap → Roots → ℕ → ℕ → Type 0
HasParent m r n p = ((n ≡ 1) × (p ≡ 1)) ⊎ (Named m r p × (is_in (named_inodes m r p) n ≡ true))

-- each of a list has its parent
abbrev AllQueued : BlockMap → Roots → List (ℕ × ℕ) → Type 0
AllQueued m r q = (e : ℕ × ℕ) → Contains q e → HasParent m r e.0 e.1 × Named m r e.0

-- so has each of a longer list
queue_more : (m : BlockMap) (r : Roots) (d : ℕ) (q : List (ℕ × ℕ)) (ns : List ℕ) → Named m r d → ((n : ℕ) → is_in ns n ≡ true → is_in (named_inodes m r d) n ≡ true) → AllQueued m r q → AllQueued m r (q ++ map (λ n. (n, d)) ns)
queue_more m r d [] [] here all old e c = old e c
queue_more m r d [] (n ∷ ns) here all old e c =
    elim (Contains-cases (n, d) e (map (λ k. (k, d)) ns) c) [
      | inl is ↦ subst (λ z. HasParent m r z.0 z.1 × Named m r z.0) is (inr (here, all n (in_head n ns)), next here (all n (in_head n ns)))
      | inr there ↦ queue_more m r d [] ns here (λ k h. all k (in_tail n k ns h)) old e there
    ]
queue_more m r d (x ∷ q) ns here all old e c =
    elim (Contains-cases x e (q ++ map (λ k. (k, d)) ns) c) [
      | inl is ↦ old e (subst (λ z. Contains (x ∷ q) z) is (Contains-head x q))
      | inr there ↦ queue_more m r d q ns here all (λ z k. old z (Contains-cons x z q k)) e there
    ]

-- the empty list has no member
no_member : {A : Type 0} {P : Type 0} (x : A) → Contains [] x → P
no_member x c = absurd (omega (arith, c.1))

-- each that is taken has its parent
pub taken_parent : (m : BlockMap) (r : Roots) (fuel : ℕ) (q : List (ℕ × ℕ)) (listed : List ℕ) → AllQueued m r q → (t : Taken) → Contains (taken_from m r fuel q listed) t → HasParent m r t.inode t.parent × Named m r t.inode
taken_parent m r zero q listed all t c = no_member t c
taken_parent m r (suc fuel) [] listed all t c = no_member t c
taken_parent m r (suc fuel) (e ∷ q) listed all t c =
    elim (Contains-cases _ t (taken_from m r fuel (q ++ map (λ n. (n, e.0)) (new_ones (named_inodes m r e.0) listed)) (listed_after (named_inodes m r e.0) listed)) c) [
      | inl is ↦ subst (λ z. HasParent m r z.inode z.parent × Named m r z.inode) is (all e (Contains-head e q))
      | inr there ↦ taken_parent m r fuel (q ++ map (λ n. (n, e.0)) (new_ones (named_inodes m r e.0) listed)) (listed_after (named_inodes m r e.0) listed)
          (queue_more m r e.0 q (new_ones (named_inodes m r e.0) listed) (all e (Contains-head e q)).1 (λ n h. new_among (named_inodes m r e.0) listed n h) (λ z k. all z (Contains-cons e z q k))) t there
    ]

-- what was listed stays listed
pub taken_listed : (m : BlockMap) (r : Roots) (fuel : ℕ) (q : List (ℕ × ℕ)) (listed : List ℕ) (n : ℕ) → is_in listed n ≡ true → (t : Taken) → Contains (taken_from m r fuel q listed) t → is_in t.listed n ≡ true
taken_listed m r zero q listed n h t c = no_member t c
taken_listed m r (suc fuel) [] listed n h t c = no_member t c
taken_listed m r (suc fuel) (e ∷ q) listed n h t c =
    elim (Contains-cases _ t (taken_from m r fuel (q ++ map (λ n. (n, e.0)) (new_ones (named_inodes m r e.0) listed)) (listed_after (named_inodes m r e.0) listed)) c) [
      | inl is ↦ subst (λ z. is_in z.listed n ≡ true) is h
      | inr there ↦ taken_listed m r fuel (q ++ map (λ n. (n, e.0)) (new_ones (named_inodes m r e.0) listed)) (listed_after (named_inodes m r e.0) listed) n (named_listed (named_inodes m r e.0) listed n (inr h)) t there
    ]

-- of two that are taken_of with different numbers one lists what the other names
abbrev pub Listed : BlockMap → Roots → Taken → Taken → Type 0
Listed m r t u = (n : ℕ) → is_in (named_inodes m r t.inode) n ≡ true → is_in u.listed n ≡ true

-- of two that are taken one is later
pub taken_order : (m : BlockMap) (r : Roots) (fuel : ℕ) (q : List (ℕ × ℕ)) (listed : List ℕ) (t u : Taken) → Contains (taken_from m r fuel q listed) t → Contains (taken_from m r fuel q listed) u → (t.inode ≡ u.inode) ⊎ (Listed m r t u ⊎ Listed m r u t)
taken_order m r zero q listed t u c d = no_member t c
taken_order m r (suc fuel) [] listed t u c d = no_member t c
taken_order m r (suc fuel) (e ∷ q) listed t u c d =
    let rest : List Taken = taken_from m r fuel (q ++ map (λ n. (n, e.0)) (new_ones (named_inodes m r e.0) listed)) (listed_after (named_inodes m r e.0) listed) in
    let later : (w : Taken) → Contains rest w → (n : ℕ) → is_in (named_inodes m r e.0) n ≡ true → is_in w.listed n ≡ true =
    λ w k n h. taken_listed m r fuel (q ++ map (λ n. (n, e.0)) (new_ones (named_inodes m r e.0) listed)) (listed_after (named_inodes m r e.0) listed) n (named_listed (named_inodes m r e.0) listed n (inl h)) w k in
    let here : Taken = record { inode = e.0; parent = e.1; listed = listed } in
    elim (Contains-cases here t rest c) [
      | inl a ↦ elim (Contains-cases here u rest d) [
        | inl b ↦ inl (ap (λ z. z.inode) (sym a ∙ b))
        | inr b ↦ inr (inl (λ n h. later u b n (subst (λ z. is_in (named_inodes m r z.inode) n ≡ true) (sym a) h)))
      ]
      | inr a ↦ elim (Contains-cases here u rest d) [
        | inl b ↦ inr (inr (λ n h. later t a n (subst (λ z. is_in (named_inodes m r z.inode) n ≡ true) (sym b) h)))
        | inr b ↦ taken_order m r fuel (q ++ map (λ n. (n, e.0)) (new_ones (named_inodes m r e.0) listed)) (listed_after (named_inodes m r e.0) listed) t u a b
      ]
    ]

-- within one directory no two rows name one directory
pub once_within : (m : BlockMap) (r : Roots) (d p : ℕ) (names : List (List ℕ)) (listed : List ℕ) (slots : List Slot) → SlotsPass m r d p names listed slots
    → (k j n : ℕ) (s u : Slot) → slice_get slots k ≡ Some s → slice_get slots j ≡ Some u → named_by s ≡ Some n → named_by u ≡ Some n → is_directory_inode m r n ≡ true → k ≡ j
once_within m r d p names listed [] q k j n s u e f g h i = absurd (cc)
once_within m r d p names listed (Unused ∷ slots) q zero j n s u e f g h i =
    let is : Unused ≡ s = cc in let z : None ≡ Some n = subst (λ z. named_by z ≡ Some n) (sym is) g in absurd (cc)
once_within m r d p names listed (Unused ∷ slots) q (suc k) zero n s u e f g h i =
    let is : Unused ≡ u = cc in let z : None ≡ Some n = subst (λ z. named_by z ≡ Some n) (sym is) h in absurd (cc)
once_within m r d p names listed (Unused ∷ slots) q (suc k) (suc j) n s u e f g h i = ap (λ z. suc z) (once_within m r d p names listed slots q k j n s u e f g h i)
once_within m r d p names listed (Row x other l ∷ slots) q zero zero n s u e f g h i = refl
once_within m r d p names listed (Row x other l ∷ slots) q zero (suc j) n s u e f g h i =
    let is : Row x other l ≡ s = cc in
    let out : is_in (option_to_list (named_by (Row x other l)) ++ listed) n ≡ false = fresh_directory m r d p (other ∷ names) (option_to_list (named_by (Row x other l)) ++ listed) slots q.1 j n u f h i in
    absurd (true_or_false _ (subst (λ o. is_in (option_to_list o ++ listed) n ≡ true) (sym g ∙ ap named_by (sym is)) (in_head n listed)) out)
once_within m r d p names listed (Row x other l ∷ slots) q (suc k) zero n s u e f g h i =
    let is : Row x other l ≡ u = cc in
    let out : is_in (option_to_list (named_by (Row x other l)) ++ listed) n ≡ false = fresh_directory m r d p (other ∷ names) (option_to_list (named_by (Row x other l)) ++ listed) slots q.1 k n s e g i in
    absurd (true_or_false _ (subst (λ o. is_in (option_to_list o ++ listed) n ≡ true) (sym h ∙ ap named_by (sym is)) (in_head n listed)) out)
once_within m r d p names listed (Row x other l ∷ slots) q (suc k) (suc j) n s u e f g h i =
    ap (λ z. suc z) (once_within m r d p (other ∷ names) (option_to_list (named_by (Row x other l)) ++ listed) slots q.1 k j n s u e f g h i)
