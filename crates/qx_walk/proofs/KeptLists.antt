-- What a directory's records leave behind, taken one after another and all at once.
use Rattle.std.proofs.Common.{◌≡◌, ℕ, List, [], ◌∷◌, ◌++◌, refl, ap, sym, ◌∙◌, subst, arith, append_assoc}
use Rattle.std.specs.Prelude.{Bool, true, false, cond, ◌||◌, if◌then◌else◌, nat_eq, Option, Some, None, option_to_list, map}
use Rattle.std.specs.List.{cons_option, count_by}
use Rattle.std.proofs.lemmas.List.{append-nil}
use Rattle.std.proofs.lemmas.Bool.{eqb-true}
use Rattle.std.proofs.lemmas.List.Sums.{sum_by-append}
use Rattle.qx_geom.specs.Lists.{is_in}
use Rattle.qx_geom.specs.declared.root.Root.{Root}
use Rattle.qx_nodes.specs.BlockMap.{BlockMap}
use Rattle.qx_view.specs.Images.{Roots, raw_of, record_block}
use Rattle.qx_view.specs.Sound.{long_number, numbers_named_in}
use Rattle.qx_view.specs.Walk.{inodes_named_in, listed_after, named_inode, new_ones, record_tests, records_tests, Test}
use Rattle.qx_walk.specs.Kept.{Kept, with_record, with_records}

-- ---- lists with the same members

-- two lists have the same members
pub record HaveSame (a b : List ℕ) : Type 0 where
  pub each : (k : ℕ) → is_in a k ≡ is_in b k

-- so they have with one more in front
same_more : (n : ℕ) (a b : List ℕ) → HaveSame a b → HaveSame (n ∷ a) (n ∷ b)
same_more n a b same = record { each = λ k. ap (λ x. nat_eq n k || x) (same.each k) }

-- a number that is among them already adds nothing
pub member_again : (n : ℕ) (a : List ℕ) → is_in a n ≡ true → HaveSame (n ∷ a) a
member_again n a e = record { each = λ k. go k (nat_eq n k) refl }
  where
    go : (k : ℕ) (b : Bool) → nat_eq n k ≡ b → (b || is_in a k) ≡ is_in a k
    go k true same = sym (subst (λ z. is_in a z ≡ true) (eqb-true n k same) e)
    go k false other = refl

-- what is new beside either of them
new_same : (ns a b : List ℕ) → HaveSame a b → new_ones ns a ≡ new_ones ns b
new_same [] a b same = refl
new_same (n ∷ ns) a b same = go (is_in a n) (is_in b n) (same.each n) (new_same ns a b same) (new_same ns (n ∷ a) (n ∷ b) (same_more n a b same))
  where
    go : (x y : Bool) → x ≡ y → new_ones ns a ≡ new_ones ns b → new_ones ns (n ∷ a) ≡ new_ones ns (n ∷ b)
        → (if x then new_ones ns a else n ∷ new_ones ns (n ∷ a)) ≡ (if y then new_ones ns b else n ∷ new_ones ns (n ∷ b))
    go true true e old new = old
    go false false e old new = ap (λ z. n ∷ z) new
    go true false e old new = absurd (cc)
    go false true e old new = absurd (cc)

-- what is listed after either of them
after_same : (ns a b : List ℕ) → HaveSame a b → HaveSame (listed_after ns a) (listed_after ns b)
after_same [] a b same = same
after_same (n ∷ ns) a b same = go (is_in a n) (is_in b n) (same.each n) (after_same ns a b same) (after_same ns (n ∷ a) (n ∷ b) (same_more n a b same))
  where
    go : (x y : Bool) → x ≡ y → HaveSame (listed_after ns a) (listed_after ns b) → HaveSame (listed_after ns (n ∷ a)) (listed_after ns (n ∷ b))
        → HaveSame (if x then listed_after ns a else listed_after ns (n ∷ a)) (if y then listed_after ns b else listed_after ns (n ∷ b))
    go true true e old new = old
    go false false e old new = new
    go true false e old new = absurd (cc)
    go false true e old new = absurd (cc)

-- one number that is listed, whether it was before or not
pub one_listed : (n : ℕ) (a : List ℕ) → HaveSame (listed_after (n ∷ []) a) (n ∷ a)
one_listed n a = go (is_in a n) refl
  where
    go : (b : Bool) → is_in a n ≡ b → HaveSame (if b then a else n ∷ a) (n ∷ a)
    go true e = let again : HaveSame (n ∷ a) a = member_again n a e in record { each = λ k. sym (again.each k) }
    go false e = record { each = λ k. refl }

-- ---- one record after another

module _ (m : BlockMap) (longfile : Root) (d : ℕ) (node : Root) where
  -- records end to end
  pub with_append : (ks js : List ℕ) (kept : Kept) → with_records m longfile d node (ks ++ js) kept ≡ with_records m longfile d node js (with_records m longfile d node ks kept)
  with_append [] js kept = refl
  with_append (k ∷ ks) js kept = with_append ks js (with_record m longfile d (raw_of m node k) kept)

  -- what is to be taken once an inode was named, and others after it
  queue_step : (o : Option ℕ) (ns : List ℕ) (queue : List (ℕ × ℕ)) (listed : List ℕ) →
      (queue ++ map (λ n. (n, d)) (new_ones (option_to_list o) listed)) ++ map (λ n. (n, d)) (new_ones ns (option_to_list o ++ listed))
      ≡ queue ++ map (λ n. (n, d)) (new_ones (cons_option o ns) listed)
  queue_step None ns queue listed = ap (λ z. z ++ map (λ n. (n, d)) (new_ones ns listed)) (append-nil queue)
  queue_step (Some n) ns queue listed = go (is_in listed n) refl
    where
      go : (b : Bool) → is_in listed n ≡ b →
          (queue ++ map (λ n. (n, d)) (if b then [] else n ∷ [])) ++ map (λ n. (n, d)) (new_ones ns (n ∷ listed))
          ≡ queue ++ map (λ n. (n, d)) (if b then new_ones ns listed else n ∷ new_ones ns (n ∷ listed))
      go true e = ap (λ z. z ++ map (λ n. (n, d)) (new_ones ns (n ∷ listed))) (append-nil queue) ∙ ap (λ z. queue ++ map (λ n. (n, d)) z) (new_same ns (n ∷ listed) listed (member_again n listed e))
      go false e = append_assoc queue ((n, d) ∷ []) (map (λ n. (n, d)) (new_ones ns (n ∷ listed)))

  -- so is what all of them name
  pub all_queued : (ks : List ℕ) (kept : Kept) → (with_records m longfile d node ks kept).queue ≡ kept.queue ++ map (λ n. (n, d)) (new_ones (inodes_named_in m longfile node ks) kept.listed)
  all_queued [] kept = sym (append-nil kept.queue)
  all_queued (k ∷ ks) kept =
      all_queued ks (with_record m longfile d (raw_of m node k) kept)
      ∙ queue_step (named_inode m longfile (raw_of m node k)) (inodes_named_in m longfile node ks) kept.queue kept.listed

  -- what is listed once an inode was named, and others after it
  listed_step : (o : Option ℕ) (ns listed : List ℕ) → HaveSame (listed_after ns (option_to_list o ++ listed)) (listed_after (cons_option o ns) listed)
  listed_step None ns listed = record { each = λ k. refl }
  listed_step (Some n) ns listed = go (is_in listed n) refl
    where
      go : (b : Bool) → is_in listed n ≡ b → HaveSame (listed_after ns (n ∷ listed)) (if b then listed_after ns listed else listed_after ns (n ∷ listed))
      go true e = after_same ns (n ∷ listed) listed (member_again n listed e)
      go false e = record { each = λ k. refl }

  -- so is what all of them name
  pub all_listed : (ks : List ℕ) (kept : Kept) → HaveSame (with_records m longfile d node ks kept).listed (listed_after (inodes_named_in m longfile node ks) kept.listed)
  all_listed [] kept = record { each = λ k. refl }
  all_listed (k ∷ ks) kept = record {
    each = λ j.
        (all_listed ks (with_record m longfile d (raw_of m node k) kept)).each j
        ∙ (listed_step (named_inode m longfile (raw_of m node k)) (inodes_named_in m longfile node ks) kept.listed).each j;
  }

  -- how often a number was named, once a record named one, and others after it
  count_step : (p : ℕ → Bool) (o : Option ℕ) (ns numbers : List ℕ) → count_by p (ns ++ (option_to_list o ++ numbers)) ≡ count_by p (cons_option o ns ++ numbers)
  count_step p None ns numbers = refl
  count_step p (Some n) ns numbers =
      let one : ℕ → ℕ = λ x. cond (p x) 1 0 in
      omega (arith, sum_by-append one ns (n ∷ numbers), sum_by-append one (n ∷ []) numbers, sum_by-append one (n ∷ []) (ns ++ numbers), sum_by-append one ns numbers)

  -- so it is by all of them
  pub all_counted : (p : ℕ → Bool) (ks : List ℕ) (kept : Kept) → count_by p (with_records m longfile d node ks kept).numbers ≡ count_by p (numbers_named_in m node ks ++ kept.numbers)
  all_counted p [] kept = refl
  all_counted p (k ∷ ks) kept =
      all_counted p ks (with_record m longfile d (raw_of m node k) kept)
      ∙ count_step p (long_number (raw_of m node k)) (numbers_named_in m node ks) kept.numbers

-- the tests of records end to end
pub tests_append : (m : BlockMap) (r : Roots) (d p : ℕ) (node : Root) (ks js : List ℕ) (kept : Kept) →
    records_tests m r d p node kept.names kept.listed (ks ++ js)
    ≡ records_tests m r d p node kept.names kept.listed ks
    ++ records_tests m r d p node (with_records m r.longfile d node ks kept).names (with_records m r.longfile d node ks kept).listed js
tests_append m r d p node [] js kept = refl
tests_append m r d p node (k ∷ ks) js kept =
    let next : Kept = with_record m r.longfile d (raw_of m node k) kept in
    let after : Kept = with_records m r.longfile d node ks next in
    let tests : List Test = record_tests m r (record { inode = d; parent = p; block = record_block m node k }) kept.names kept.listed (raw_of m node k) in
    ap (λ z. tests ++ z) (tests_append m r d p node ks js next)
    ∙ sym (append_assoc tests (records_tests m r d p node next.names next.listed ks) (records_tests m r d p node after.names after.listed js))
