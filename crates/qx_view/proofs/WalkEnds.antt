-- The walk comes to each inode that its rows name, to no other, and ends.
use Rattle.std.proofs.Common.{◌≡◌, ℕ, zero, suc, ◌+◌, ◌<◌, ◌≤◌, ◌⊎◌, inl, inr, List, [], ◌∷◌, ◌++◌, length, refl, sym, ap, subst, arith}
use Rattle.std.specs.Prelude.{Bool, true, false, ◌||◌, nat_eq, if◌then◌else◌, map}
use Rattle.std.proofs.lemmas.Bool.{cases_eq}
use Rattle.qx_geom.proofs.Members.{in_append_cases, in_cases, in_head, in_left, in_right, in_tail}
use Rattle.qx_geom.specs.Lists.{is_in}
use Rattle.qx_nodes.specs.BlockMap.{BlockMap}
use Rattle.qx_view.specs.Images.{Roots, inode_places}
use Rattle.qx_view.specs.Walk.{Taken, listed_after, named_inodes, new_ones, taken_from, taken_of}

-- the numbers from 1 to p that are not listed
abbrev pub unlisted : ℕ → List ℕ → ℕ
unlisted zero listed = 0
unlisted (suc p) listed = unlisted p listed + (if is_in listed (suc p) then 0 else 1)

-- what is listed in two ways counts no more
or_one : (a b : Bool) → (if a || b then 0 else 1) ≤ (if b then 0 else 1)
or_one true true = omega arith
or_one true false = omega arith
or_one false true = omega arith
or_one false false = omega arith

-- with one more listed no more are unlisted
unlisted-more : (p x : ℕ) (listed : List ℕ) → unlisted p (x ∷ listed) ≤ unlisted p listed
unlisted-more zero x listed = omega arith
unlisted-more (suc p) x listed = omega (arith, unlisted-more p x listed, or_one (nat_eq x (suc p)) (is_in listed (suc p)))

-- what is listed counts 0
abbrev one_less : Bool → ℕ
one_less b = if b then 0 else 1

-- a number that is newly listed counts no more
unlisted_new : (p x : ℕ) (listed : List ℕ) → 0 < x → x ≤ p → is_in listed x ≡ false → unlisted p (x ∷ listed) + 1 ≤ unlisted p listed
unlisted_new zero x listed pos below out = absurd (omega arith)
unlisted_new (suc p) x listed pos below out =
    elim (cases_eq x (suc p)) [
      | inl is ↦
          let a : ◌≡◌ {A = ℕ} (if is_in (x ∷ listed) (suc p) then 0 else 1) 0 = ap (λ b. one_less b) (subst (λ z. is_in (x ∷ listed) z ≡ true) is (in_head x listed)) in
          let b : ◌≡◌ {A = ℕ} (if is_in listed (suc p) then 0 else 1) 1 = ap (λ b. one_less b) (subst (λ z. is_in listed z ≡ false) is out) in
          omega (arith, unlisted-more p x listed)
      | inr isnt ↦ omega (arith, unlisted_new p x listed pos (omega arith) out, or_one (nat_eq x (suc p)) (is_in listed (suc p)))
    ]

-- each number of the list is from 1 to p
abbrev pub AllInRange : ℕ → List ℕ → Type 0
AllInRange p ns = (n : ℕ) → is_in ns n ≡ true → (0 < n) × (n ≤ p)

-- what is put into the list is taken_of from what is unlisted
pub new_counted : (p : ℕ) (ns listed : List ℕ) → AllInRange p ns → length (new_ones ns listed) + unlisted p (listed_after ns listed) ≤ unlisted p listed
new_counted p [] listed all = omega arith
new_counted p (n ∷ ns) listed all = go (is_in listed n) refl
    (new_counted p ns listed (λ k h. all k (in_tail n k ns h))) (new_counted p ns (n ∷ listed) (λ k h. all k (in_tail n k ns h)))
  where
    go : (b : Bool) → is_in listed n ≡ b → length (new_ones ns listed) + unlisted p (listed_after ns listed) ≤ unlisted p listed
        → length (new_ones ns (n ∷ listed)) + unlisted p (listed_after ns (n ∷ listed)) ≤ unlisted p (n ∷ listed)
        → length (if b then new_ones ns listed else n ∷ new_ones ns (n ∷ listed)) + unlisted p (if b then listed_after ns listed else listed_after ns (n ∷ listed)) ≤ unlisted p listed
    go true e old new = old
    go false e old new = omega (arith, unlisted_new p n listed (all n (in_head n ns)).0 (all n (in_head n ns)).1 e)

-- what is listed afterwards was listed before or is new
pub after_cases : (ns listed : List ℕ) (k : ℕ) → is_in (listed_after ns listed) k ≡ true → (is_in listed k ≡ true) ⊎ (is_in (new_ones ns listed) k ≡ true)
after_cases [] listed k h = inl h
after_cases (n ∷ ns) listed k h = go (is_in listed n) h (after_cases ns listed k) (after_cases ns (n ∷ listed) k)
  where
    go : (b : Bool) → is_in (if b then listed_after ns listed else listed_after ns (n ∷ listed)) k ≡ true
        → (is_in (listed_after ns listed) k ≡ true → (is_in listed k ≡ true) ⊎ (is_in (new_ones ns listed) k ≡ true))
        → (is_in (listed_after ns (n ∷ listed)) k ≡ true → (is_in (n ∷ listed) k ≡ true) ⊎ (is_in (new_ones ns (n ∷ listed)) k ≡ true))
        → (is_in listed k ≡ true) ⊎ (is_in (if b then new_ones ns listed else n ∷ new_ones ns (n ∷ listed)) k ≡ true)
    go true h old new = old h
    go false h old new =
        elim (new h) [
          | inl l ↦ elim (in_cases n k listed l) [ inl is ↦ inr (subst (λ z. is_in (n ∷ new_ones ns (n ∷ listed)) z ≡ true) is (in_head n (new_ones ns (n ∷ listed)))) | inr before ↦ inl before ]
          | inr r ↦ inr (in_tail n k (new_ones ns (n ∷ listed)) r)
        ]

-- and what the list names is listed afterwards
pub named_listed : (ns listed : List ℕ) (k : ℕ) → (is_in ns k ≡ true) ⊎ (is_in listed k ≡ true) → is_in (listed_after ns listed) k ≡ true
named_listed [] listed k (inl h) = absurd (cc)
named_listed [] listed k (inr h) = h
named_listed (n ∷ ns) listed k h = go (is_in listed n) refl (named_listed ns listed k) (named_listed ns (n ∷ listed) k)
  where
    split : (is_in (n ∷ ns) k ≡ true) ⊎ (is_in listed k ≡ true) → (n ≡ k) ⊎ ((is_in ns k ≡ true) ⊎ (is_in listed k ≡ true))
    split (inl a) = elim (in_cases n k ns a) [ inl is ↦ inl is | inr r ↦ inr (inl r) ]
    split (inr b) = inr (inr b)

    go : (b : Bool) → is_in listed n ≡ b
        → ((is_in ns k ≡ true) ⊎ (is_in listed k ≡ true) → is_in (listed_after ns listed) k ≡ true)
        → ((is_in ns k ≡ true) ⊎ (is_in (n ∷ listed) k ≡ true) → is_in (listed_after ns (n ∷ listed)) k ≡ true)
        → is_in (if b then listed_after ns listed else listed_after ns (n ∷ listed)) k ≡ true
    go true e old new = old (elim (split h) [ inl is ↦ inr (subst (λ z. is_in listed z ≡ true) is e) | inr r ↦ r ])
    go false e old new = new (elim (split h) [
      | inl is ↦ inr (subst (λ z. is_in (n ∷ listed) z ≡ true) is (in_head n listed))
      | inr r ↦ elim r [ inl a ↦ inl a | inr b ↦ inr (in_tail n k listed b) ]
    ])

-- the inodes of a list of inodes and parents
abbrev pub firsts : List (ℕ × ℕ) → List ℕ
firsts [] = []
firsts (e ∷ es) = e.0 ∷ firsts es

-- the inodes that were taken
abbrev pub inodes : List Taken → List ℕ
inodes [] = []
inodes (t ∷ ts) = t.inode ∷ inodes ts

-- those that one directory puts there
firsts-new : (d : ℕ) (ns : List ℕ) → firsts (map (λ n. (n, d)) ns) ≡ ns
firsts-new d [] = refl
firsts-new d (n ∷ ns) = ap (λ z. n ∷ z) (firsts-new d ns)

-- at the end of others
pub firsts-append : (q : List (ℕ × ℕ)) (d : ℕ) (ns : List ℕ) → firsts (q ++ map (λ n. (n, d)) ns) ≡ firsts q ++ ns
firsts-append [] d ns = firsts-new d ns
firsts-append (e ∷ q) d ns = ap (λ z. e.0 ∷ z) (firsts-append q d ns)

-- and their number
length-queue : (q : List (ℕ × ℕ)) (d : ℕ) (ns : List ℕ) → length (q ++ map (λ n. (n, d)) ns) ≡ length q + length ns
length-queue [] d ns = rows ns
  where
    rows : (ns : List ℕ) → length {A = ℕ × ℕ} (map (λ n. (n, d)) ns) ≡ 0 + length ns
    rows [] = omega arith
    rows (n ∷ ns) = omega (arith, rows ns)
length-queue (e ∷ q) d ns = omega (arith, length-queue q d ns)

-- the inodes that these name are in range
abbrev pub RowsInRange : BlockMap → Roots → ℕ → List Taken → Type 0
RowsInRange m r p ts = (d n : ℕ) → is_in (inodes ts) d ≡ true → is_in (named_inodes m r d) n ≡ true → (0 < n) × (n ≤ p)

-- what is listed or named is taken, unless it was listed before
pub record IsClosedRun (m : BlockMap) (r : Roots) (queue : List (ℕ × ℕ)) (listed : List ℕ) (ts : List Taken) : Type 0 where
  pub queued : (n : ℕ) → is_in (firsts queue) n ≡ true → is_in (inodes ts) n ≡ true
  pub named : (d n : ℕ) → is_in (inodes ts) d ≡ true → is_in (named_inodes m r d) n ≡ true → (is_in listed n ≡ true) ⊎ (is_in (inodes ts) n ≡ true)

-- with enough fuel all is taken
pub taken_closed : (m : BlockMap) (r : Roots) (p fuel : ℕ) (queue : List (ℕ × ℕ)) (listed : List ℕ) → length queue + unlisted p listed ≤ fuel → RowsInRange m r p (taken_from m r fuel queue listed) → IsClosedRun m r queue listed (taken_from m r fuel queue listed)
taken_closed m r p zero [] listed room all = record { queued = λ n h. absurd (cc); named = λ d n h k. absurd (cc) }
taken_closed m r p zero (e ∷ queue) listed room all = absurd (omega arith)
taken_closed m r p (suc fuel) [] listed room all = record { queued = λ n h. absurd (cc); named = λ d n h k. absurd (cc) }
taken_closed m r p (suc fuel) (e ∷ queue) listed room all =
    let ns : List ℕ = named_inodes m r e.0 in
    let new : List ℕ = new_ones ns listed in
    let after : List ℕ = listed_after ns listed in
    let more : List (ℕ × ℕ) = queue ++ map (λ n. (n, e.0)) new in
    let rest : List Taken = taken_from m r fuel more after in
    let counted : length new + unlisted p after ≤ unlisted p listed = new_counted p ns listed (λ n h. all e.0 n (in_head e.0 (inodes rest)) h) in
    let ih : IsClosedRun m r more after rest = taken_closed m r p fuel more after (omega (arith, length-queue queue e.0 new)) (λ d n h k. all d n (in_tail e.0 d (inodes rest) h) k) in
    let new_taken : (n : ℕ) → is_in new n ≡ true → is_in (inodes rest) n ≡ true = λ n h. ih.queued n (subst (λ z. is_in z n ≡ true) (sym (firsts-append queue e.0 new)) (in_right (firsts queue) new n h)) in
    let either : (n : ℕ) → is_in after n ≡ true → (is_in listed n ≡ true) ⊎ (is_in (e.0 ∷ inodes rest) n ≡ true) = λ n h. elim (after_cases ns listed n h) [ inl l ↦ inl l | inr w ↦ inr (in_tail e.0 n (inodes rest) (new_taken n w)) ] in
    record {
      queued = λ n h. elim (in_cases e.0 n (firsts queue) h) [
        | inl is ↦ subst (λ z. is_in (e.0 ∷ inodes rest) z ≡ true) is (in_head e.0 (inodes rest))
        | inr there ↦ in_tail e.0 n (inodes rest) (ih.queued n (subst (λ z. is_in z n ≡ true) (sym (firsts-append queue e.0 new)) (in_left (firsts queue) new n there)))
      ];
      named = λ d n h k. elim (in_cases e.0 d (inodes rest) h) [
        | inl is ↦ either n (named_listed ns listed n (inl (subst (λ z. is_in (named_inodes m r z) n ≡ true) (sym is) k)))
        | inr there ↦ elim (ih.named d n there k) [ inl l ↦ either n l | inr w ↦ inr (in_tail e.0 n (inodes rest) w) ]
      ];
    }

-- no more are unlisted than there are
pub unlisted_start : (p : ℕ) (listed : List ℕ) → unlisted p listed ≤ p
unlisted_start zero listed = omega arith
unlisted_start (suc p) listed = omega (arith, unlisted_start p listed, at_most (is_in listed (suc p)))
  where
    at_most : (b : Bool) → (if b then 0 else 1) ≤ 1
    at_most true = omega arith
    at_most false = omega arith

-- inode 1 is walked, and what a walked directory names
pub walk_closed : (m : BlockMap) (r : Roots) → RowsInRange m r (inode_places r) (taken_of m r) → (is_in (inodes (taken_of m r)) 1 ≡ true) × ((d n : ℕ) → is_in (inodes (taken_of m r)) d ≡ true → is_in (named_inodes m r d) n ≡ true → is_in (inodes (taken_of m r)) n ≡ true)
walk_closed m r all =
    let p : ℕ = inode_places r in
    let run : IsClosedRun m r ((1, 1) ∷ []) (1 ∷ []) (taken_of m r) = taken_closed m r p (p + 1) ((1, 1) ∷ []) (1 ∷ []) (omega (arith, unlisted_start p (1 ∷ []))) all in
    let one : is_in (inodes (taken_of m r)) 1 ≡ true = run.queued 1 refl in
    (one, λ d n h k. elim (run.named d n h k) [ inl l ↦ elim (in_cases 1 n [] l) [ inl is ↦ subst (λ z. is_in (inodes (taken_of m r)) z ≡ true) is one | inr none ↦ absurd (cc) ] | inr w ↦ w ])

-- the least set that has 1 and what a record of one of its directories names
pub data Named (m : BlockMap) (r : Roots) : ℕ → Type 0 where
  first : Named m r 1
  next : {d n : ℕ} → Named m r d → is_in (named_inodes m r d) n ≡ true → Named m r n

-- what is new was named
pub new_among : (ns listed : List ℕ) (k : ℕ) → is_in (new_ones ns listed) k ≡ true → is_in ns k ≡ true
new_among [] listed k h = h
new_among (n ∷ ns) listed k h = go (is_in listed n) h (new_among ns listed k) (new_among ns (n ∷ listed) k)
  where
    go : (b : Bool) → is_in (if b then new_ones ns listed else n ∷ new_ones ns (n ∷ listed)) k ≡ true
        → (is_in (new_ones ns listed) k ≡ true → is_in ns k ≡ true) → (is_in (new_ones ns (n ∷ listed)) k ≡ true → is_in ns k ≡ true) → is_in (n ∷ ns) k ≡ true
    go true h old new = in_tail n k ns (old h)
    go false h old new = elim (in_cases n k (new_ones ns (n ∷ listed)) h) [
      | inl is ↦ subst (λ z. is_in (n ∷ ns) z ≡ true) is (in_head n ns)
      | inr r ↦ in_tail n k ns (new r)
    ]

-- only what is named is taken
pub taken_named : (m : BlockMap) (r : Roots) (fuel : ℕ) (queue : List (ℕ × ℕ)) (listed : List ℕ) → ((n : ℕ) → is_in (firsts queue) n ≡ true → Named m r n) → (n : ℕ) → is_in (inodes (taken_from m r fuel queue listed)) n ≡ true → Named m r n
taken_named m r zero queue listed all n h = absurd (cc)
taken_named m r (suc fuel) [] listed all n h = absurd (cc)
taken_named m r (suc fuel) (e ∷ queue) listed all n h =
    let ns : List ℕ = named_inodes m r e.0 in
    let more : List (ℕ × ℕ) = queue ++ map (λ k. (k, e.0)) (new_ones ns listed) in
    let here : Named m r e.0 = all e.0 (in_head e.0 (firsts queue)) in
    elim (in_cases e.0 n (inodes (taken_from m r fuel more (listed_after ns listed))) h) [
      | inl is ↦ subst (Named m r) is here
      | inr there ↦ taken_named m r fuel more (listed_after ns listed)
          (λ k q. elim (in_append_cases (firsts queue) (new_ones ns listed) k (subst (λ z. is_in z k ≡ true) (firsts-append queue e.0 (new_ones ns listed)) q)) [
            | inl a ↦ all k (in_tail e.0 k (firsts queue) a)
            | inr b ↦ next here (new_among ns listed k b)
          ]) n there
    ]

-- the walk's inodes are the least set
pub walk_is_least : (m : BlockMap) (r : Roots) → RowsInRange m r (inode_places r) (taken_of m r) → (n : ℕ) → (is_in (inodes (taken_of m r)) n ≡ true → Named m r n) × (Named m r n → is_in (inodes (taken_of m r)) n ≡ true)
walk_is_least m r all n =
    (taken_named m r (inode_places r + 1) ((1, 1) ∷ []) (1 ∷ []) start n, back n)
  where
    none : (k : ℕ) → is_in [] k ≡ true → Named m r k
    none k h = absurd (cc)

    start : (k : ℕ) → is_in (1 ∷ []) k ≡ true → Named m r k
    start k h = elim (in_cases 1 k [] h) [ inl is ↦ subst (Named m r) is first | inr not_there ↦ none k not_there ]

    back : (n : ℕ) → Named m r n → is_in (inodes (taken_of m r)) n ≡ true
    back n first = (walk_closed m r all).0
    back n (next {d} h k) = (walk_closed m r all).1 d n (back d h) k
