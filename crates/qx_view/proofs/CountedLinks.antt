-- The links of an inode of the tree are as many as the records of the walk's directories that name it.
use Rattle.std.proofs.Common.{◌≡◌, ℕ, zero, suc, ◌+◌, ◌/◌, ◌≤◌, ◌<◌, inl, inr, List, [], ◌∷◌, refl, ap, sym, ◌∙◌, arith}
use Rattle.std.specs.Prelude.{Bool, true, false, ◌==◌, ◌||◌, not, cond, if◌then◌else◌, Option, None, Some, option_and_then, unwrap_or, Contains, count_by, filter_map, flat_map, map, nat_eq, sum_by}
use Rattle.std.specs.Option.{option_map_or}
use Rattle.std.specs.List.{cons_option, range_with_len}
use Rattle.std.proofs.lemmas.Bool.{cases_lt, eq-eqb, eqb-true, leb-true}
use Rattle.std.proofs.lemmas.List.{map-id}
use Rattle.std.proofs.lemmas.List.Sums.{sum_by-append, sum_by-cons}
use Rattle.qx_geom.proofs.Members.{Contains-cons, Contains-head}
use Rattle.qx_geom.proofs.Truths.{and_left, and_right, not_so, not_true, true_or_false}
use Rattle.qx_geom.specs.Lists.{all_differ, is_in}
use Rattle.qx_geom.specs.declared.root.Root.{Root}
use Rattle.qx_geom.proofs.ImagesAndFilters.{Contains-image}
use Rattle.qx_model.specs.Tree.{Slot, Tree, Unused, is_link, links_of, named_by, slots_of_body, slots_of_entry}
use Rattle.qx_nodes.specs.BlockMap.{BlockMap}
use Rattle.qx_nodes.specs.Content.{HasSize}
use Rattle.qx_records.specs.InodeRecord.{kind_of}
use Rattle.qx_records.specs.declared.kind.Kind.TheVariants as kinds
use Rattle.qx_records.specs.declared.kind.Kind.{Kind}
use Rattle.qx_view.proofs.ApartPositions.{tree_is}
use Rattle.qx_view.proofs.OneTree.{tree_unique}
use Rattle.qx_view.proofs.TestsAndTree.{no_test_fails}
use Rattle.qx_view.proofs.TestsFromTree.{TakenIn, queue_is, taken_differ, taken_in}
use Rattle.qx_view.proofs.TreeFound.{body_found, entry_found, parent_in, place_found, tree_found}
use Rattle.qx_view.specs.Images.{Roots, all_records, inode_places, raw_of}
use Rattle.qx_view.specs.Reading.{IsTreeOf, slot_of}
use Rattle.qx_view.specs.Walk.{Taken, inode_mode, inode_root, inodes_named_in, is_directory_kind, named_inodes, taken_of, walked_inodes}

-- ---- counts and sums

-- one more counts where it passes
count_cons : {A : Type 0} (p : A → Bool) (x : A) (xs : List A) → count_by p (x ∷ xs) ≡ cond (p x) 1 0 + count_by p xs
count_cons p x xs = sum_by-cons (λ x. cond (p x) 1 0) x xs

-- the count over parts end to end
count_flat : (p : ℕ → Bool) (f : ℕ → List ℕ) (xs : List ℕ) → count_by p (flat_map f xs) ≡ sum_by (λ x. count_by p (f x)) xs
count_flat p f [] = refl
count_flat p f (x ∷ xs) =
    sum_by-append (λ y. cond (p y) 1 0) (f x) (flat_map f xs)
    ∙ ap (λ z. count_by p (f x) + z) (count_flat p f xs)
    ∙ sym (sum_by-cons (λ x. count_by p (f x)) x xs)

-- a sum over an image
pub sum_map : {A : Type 0} (f : A → ℕ) (h : ℕ → A) (xs : List ℕ) → sum_by f (map h xs) ≡ sum_by (λ k. f (h k)) xs
sum_map f h [] = refl
sum_map f h (x ∷ xs) = sum_by-cons f (h x) (map h xs) ∙ ap (λ z. f (h x) + z) (sum_map f h xs) ∙ sym (sum_by-cons (λ k. f (h k)) x xs)

-- sums of what is alike
pub sum_alike : (f g : ℕ → ℕ) (xs : List ℕ) → ((x : ℕ) → f x ≡ g x) → sum_by f xs ≡ sum_by g xs
sum_alike f g [] same = refl
sum_alike f g (x ∷ xs) same = sum_by-cons f x xs ∙ (λ i. same x i + sum_alike f g xs same i) ∙ sym (sum_by-cons g x xs)

-- a sum of sums
pub sum_plus : (f g : ℕ → ℕ) (xs : List ℕ) → sum_by (λ x. f x + g x) xs ≡ sum_by f xs + sum_by g xs
sum_plus f g [] = refl
sum_plus f g (x ∷ xs) = omega (arith, sum_by-cons (λ x. f x + g x) x xs, sum_by-cons f x xs, sum_by-cons g x xs, sum_plus f g xs)

-- a sum of nothing
sum_zero : (xs : List ℕ) → sum_by (λ x. 0) xs ≡ 0
sum_zero [] = refl
sum_zero (x ∷ xs) = omega (arith, sum_by-cons (λ x. 0) x xs, sum_zero xs)

-- the sum over the numbers after those of a range
sum_next : (f : ℕ → ℕ) (a n : ℕ) → sum_by (λ k. f (suc k)) (range_with_len a n) ≡ sum_by f (range_with_len (a + 1) n)
sum_next f a zero = refl
sum_next f a (suc n) =
    sum_by-cons (λ k. f (suc k)) a (range_with_len (a + 1) n)
    ∙ (λ i. f ((let e : suc a ≡ a + 1 = omega arith in e) i) + sum_next f (a + 1) n i)
    ∙ sym (sum_by-cons f (a + 1) (range_with_len (a + 1 + 1) n))

-- what a function is at one number, and 0 elsewhere
abbrev only : ℕ → (ℕ → ℕ) → ℕ → ℕ
only w g k = if nat_eq w k then g k else 0

-- its sum over numbers above that one
sum_past : (w : ℕ) (g : ℕ → ℕ) (a n : ℕ) → w < a → sum_by (only w g) (range_with_len a n) ≡ 0
sum_past w g a zero h = refl
sum_past w g a (suc n) h =
    let apart : nat_eq w a ≡ false = not_so (nat_eq w a) (λ t. let e : w ≡ a = eqb-true w a t in omega arith) in
    let here : only w g a ≡ 0 = ap (λ b. if b then g a else 0) apart in
    omega (arith, sum_by-cons (only w g) a (range_with_len (a + 1) n), here, sum_past w g (a + 1) n (omega arith))

-- and over a range with it
sum_only : (w : ℕ) (g : ℕ → ℕ) (a n : ℕ) → a ≤ w → w < a + n → sum_by (only w g) (range_with_len a n) ≡ g w
sum_only w g a zero low high = absurd (omega arith)
sum_only w g a (suc n) low high = go (nat_eq w a) refl (λ above. sum_only w g (a + 1) n above (omega arith))
  where
    go : (b : Bool) → nat_eq w a ≡ b → (a + 1 ≤ w → sum_by (only w g) (range_with_len (a + 1) n) ≡ g w) → sum_by (only w g) (range_with_len a (suc n)) ≡ g w
    go true e more =
        let same : w ≡ a = eqb-true w a e in
        let here : only w g a ≡ g a = ap (λ b. if b then g a else 0) e in
        omega (arith, sum_by-cons (only w g) a (range_with_len (a + 1) n), here, ap g same, sum_past w g (a + 1) n (omega arith))
    go false e more =
        let here : only w g a ≡ 0 = ap (λ b. if b then g a else 0) e in
        let above : a + 1 ≤ w = elim (cases_lt a w) [ inl lt ↦ omega arith | inr not_above ↦ let same : w ≡ a = omega arith in absurd (true_or_false (nat_eq w a) (eq-eqb w a same) e) ] in
        omega (arith, sum_by-cons (only w g) a (range_with_len (a + 1) n), here, more above)

-- a sum over a range of what a function is on a list's numbers is its sum over the list
pub sum_members : (g : ℕ → ℕ) (ws : List ℕ) (a n : ℕ) → all_differ ws ≡ true → ((w : ℕ) → Contains ws w → (a ≤ w) × (w < a + n)) → sum_by (λ k. if is_in ws k then g k else 0) (range_with_len a n) ≡ sum_by g ws
sum_members g [] a n d within = sum_zero (range_with_len a n)
sum_members g (w ∷ ws) a n d within =
    let out : is_in ws w ≡ false = not_true (is_in ws w) (and_left (not (is_in ws w)) (all_differ ws) d) in
    let at : (a ≤ w) × (w < a + n) = within w (Contains-head w ws) in
    sum_alike (λ k. if nat_eq w k || is_in ws k then g k else 0) (λ k. only w g k + (if is_in ws k then g k else 0)) (range_with_len a n) (λ k. split k (nat_eq w k) (is_in ws k) refl refl out)
    ∙ sum_plus (only w g) (λ k. if is_in ws k then g k else 0) (range_with_len a n)
    ∙ (λ i. sum_only w g a n at.0 at.1 i + sum_members g ws a n (and_right (not (is_in ws w)) (all_differ ws) d) (λ x c. within x (Contains-cons w x ws c)) i)
    ∙ sym (sum_by-cons g w ws)
  where
    split : (k : ℕ) (b c : Bool) → nat_eq w k ≡ b → is_in ws k ≡ c → is_in ws w ≡ false → (if b || c then g k else 0) ≡ (if b then g k else 0) + (if c then g k else 0)
    split k true true e f out = let same : w ≡ k = eqb-true w k e in let t : true ≡ false = sym f ∙ ap (is_in ws) (sym same) ∙ out in absurd (cc)
    split k true false e f out = omega arith
    split k false true e f out = omega arith
    split k false false e f out = omega arith

-- ---- one directory

-- what is no slot names nothing
slots_count : (n : ℕ) (read : ℕ → Option Slot) (ks : List ℕ) → count_by (is_link n) (map (λ o. unwrap_or o Unused) (map read ks)) ≡ count_by (λ i. i == n) (filter_map (λ k. option_and_then named_by (read k)) ks)
slots_count n read [] = refl
slots_count n read (k ∷ ks) = go (read k) (slots_count n read ks)
  where
    by_name : (o : Option ℕ) → count_by (is_link n) (map (λ o. unwrap_or o Unused) (map read ks)) ≡ count_by (λ i. i == n) (filter_map (λ k. option_and_then named_by (read k)) ks)
        → cond (option_map_or (λ i. i == n) o false) 1 0 + count_by (is_link n) (map (λ o. unwrap_or o Unused) (map read ks)) ≡ count_by (λ i. i == n) (cons_option o (filter_map (λ k. option_and_then named_by (read k)) ks))
    by_name None more = omega (arith, more)
    by_name (Some i) more = ap (λ z. cond (i == n) 1 0 + z) more ∙ sym (count_cons (λ i. i == n) i (filter_map (λ k. option_and_then named_by (read k)) ks))

    go : (o : Option Slot) → count_by (is_link n) (map (λ o. unwrap_or o Unused) (map read ks)) ≡ count_by (λ i. i == n) (filter_map (λ k. option_and_then named_by (read k)) ks)
        → count_by (is_link n) (unwrap_or o Unused ∷ map (λ o. unwrap_or o Unused) (map read ks)) ≡ count_by (λ i. i == n) (cons_option (option_and_then named_by o) (filter_map (λ k. option_and_then named_by (read k)) ks))
    go None more = count_cons (is_link n) Unused (map (λ o. unwrap_or o Unused) (map read ks)) ∙ by_name None more
    go (Some s) more = count_cons (is_link n) s (map (λ o. unwrap_or o Unused) (map read ks)) ∙ by_name (named_by s) more

-- the rows of an inode that name another
body_count : (m : BlockMap) (longfile node : Root) (parent n : ℕ) (kind : Option Kind) → count_by (is_link n) (slots_of_body (body_found m longfile node parent kind)) ≡ count_by (λ i. i == n) (if is_directory_kind kind then inodes_named_in m longfile node (all_records node) else [])
body_count m longfile node parent n None = refl
body_count m longfile node parent n (Some kinds.Special) = refl
body_count m longfile node parent n (Some kinds.File) = refl
body_count m longfile node parent n (Some kinds.Link) = refl
body_count m longfile node parent n (Some kinds.Directory) =
    slots_count n (λ k. slot_of m longfile (raw_of m node k)) (range_with_len 0 (node.size / 32))
    ∙ ap (λ ks. count_by (λ i. i == n) (inodes_named_in m longfile node ks)) (sym (map-id (range_with_len 0 (node.size / 32))))

-- those of what stands at a place of the tree
place_count : (m : BlockMap) (r : Roots) (n k : ℕ) → count_by (is_link n) (slots_of_entry (place_found m r k)) ≡ (if is_in (walked_inodes m r) k then count_by (λ i. i == n) (named_inodes m r k) else 0)
place_count m r n k = go (is_in (walked_inodes m r) k)
  where
    go : (b : Bool) → count_by (is_link n) (slots_of_entry (if b then Some (entry_found m r (parent_in (taken_of m r) k) k) else None)) ≡ (if b then count_by (λ i. i == n) (named_inodes m r k) else 0)
    go true = body_count m r.longfile (inode_root m r k) (parent_in (taken_of m r) k) n (kind_of (inode_mode m r k))
    go false = refl

-- ---- the tree

module _ (m : BlockMap) (r : Roots) (t : Tree) (size : HasSize m) (is : IsTreeOf m r t) where
  -- each inode that the walk comes to has a place
  walked_within : (w : ℕ) → Contains (walked_inodes m r) w → (1 ≤ w) × (w < 1 + inode_places r)
  walked_within w c =
      let u : (u : Taken) × Contains (taken_of m r) u × (u.inode ≡ w) = Contains-image (λ (x : Taken). x.inode) (taken_of m r) w c in
      let x : TakenIn m r t is u.0 = taken_in m r t is u.0 u.1 in
      let e = is.each u.0.inode x.entry x.at in
      let low : u.0.inode ≤ inode_places r = leb-true u.0.inode (inode_places r) e.there in
      let some : 0 < u.0.inode = e.positive in
      (omega (arith, u.2), omega (arith, u.2))

  -- the links of the tree are the names of the walk
  pub links_counted : (n : ℕ) → links_of t n ≡ count_by (λ i. i == n) (flat_map (named_inodes m r) (walked_inodes m r))
  links_counted n =
      let same : t ≡ tree_found m r = tree_unique m r t (tree_found m r) is (tree_is m r size (no_test_fails m r t size is)) in
      let links : ℕ → ℕ = λ k. count_by (λ i. i == n) (named_inodes m r k) in
      ap (λ x. links_of x n) same
      ∙ sum_map (λ o. count_by (is_link n) (slots_of_entry o)) (λ k. place_found m r (suc k)) (range_with_len 0 (inode_places r))
      ∙ sum_alike (λ k. count_by (is_link n) (slots_of_entry (place_found m r (suc k)))) (λ k. if is_in (walked_inodes m r) (suc k) then links (suc k) else 0) (range_with_len 0 (inode_places r)) (λ k. place_count m r n (suc k))
      ∙ sum_next (λ k. if is_in (walked_inodes m r) k then links k else 0) 0 (inode_places r)
      ∙ sum_members links (walked_inodes m r) 1 (inode_places r) (taken_differ m r (inode_places r + 1) ((1, 1) ∷ []) (1 ∷ []) (queue_is m r t is)) walked_within
      ∙ sym (count_flat (λ i. i == n) (named_inodes m r) (walked_inodes m r))
