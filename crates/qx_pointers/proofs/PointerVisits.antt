-- What is met from one pointer on.
use Rattle.std.proofs.Common.{◌≡◌, ◌≢◌, ℕ, zero, suc, ◌+◌, ◌*◌, ◌^◌, ◌<◌, ◌≤◌, List, [], ◌∷◌, length, refl, sym, ◌∙◌, ap, arith}
use Rattle.std.specs.Prelude.{Bool, true, false, not, ◌||◌, ◌&&◌, ◌==◌, nat_le, nat_lt, if◌then◌else◌, slice_index_or}
use Rattle.std.specs.List.{list_any}
use Rattle.std.proofs.Math.Nat.{pow-zero}
use Rattle.std.proofs.lemmas.Bool.{eq-eqb, eqb-true, le-leb, lt-ltb, lt-leb}
use Rattle.std.proofs.lemmas.List.FromFn.{get_or-map-range_with_len, length-map-range_with_len}
use Rattle.qx_geom.proofs.Members.{parts_alike}
use Rattle.qx_geom.proofs.Truths.{not_so}
use Rattle.qx_geom.specs.Lists.{each_below, parts_below}
use Rattle.qx_geom.specs.Pointer.{absent, per_block}
use Rattle.qx_nodes.specs.BlockMap.{BlockMap, word}
use Rattle.qx_nodes.specs.Visits.{Visit, is_leaf, visits_under}
use Rattle.qx_nodes.specs.ForeignNodes.{is_stray_under}
use Rattle.qx_pointers.proofs.SeenParts.{any_more}
use Rattle.qx_pointers.specs.Parts.{has_bare_under, leaf_at}
use Rattle.qx_pointers.specs.Passage.{bare_beside, strays_beside, visits_beside}

-- the visit to a block
abbrev pub block_at : ℕ → ℕ → ℕ → Visit
block_at level index p = record { level = level; index = index; block = p }

-- what is met, whether there is a stray, and whether a block is bare
pub record Meets (m : BlockMap) (last level index p : ℕ) (met : List Visit) (stray hollow : Bool) : Type 0 where
  pub visits : visits_under m last level index p ≡ met
  pub strays : is_stray_under m last level index p ≡ stray
  pub bare : has_bare_under m last level index p ≡ hollow

-- two numbers that differ aren't equal by the test
differs : (a b : ℕ) → a ≢ b → (a == b) ≡ false
differs a b apart = not_so (a == b) (λ t. apart (eqb-true a b t))

module _ (m : BlockMap) (last : ℕ) where
  -- an absent pointer
  pub meets_absent : (level index p : ℕ) → p ≡ absent → Meets m last level index p [] false false
  meets_absent zero index p e = record {
    visits = ap (λ b. if b || nat_le last index then [] else leaf_at index p ∷ []) (eq-eqb p absent e);
    strays = ap (λ b. not b && nat_le last index) (eq-eqb p absent e);
    bare = refl;
  }
  meets_absent (suc l) index p e = record {
    visits = ap (λ b. if b || nat_le last (index * per_block m.size ^ suc l) then [] else block_at (suc l) index p ∷ (if nat_lt p m.count then parts_below (per_block m.size) (λ w. visits_under m last l (index * per_block m.size + w) (word m p w)) else [])) (eq-eqb p absent e);
    strays = ap (λ b. not b && (nat_le last (index * per_block m.size ^ suc l) || list_any (λ w. is_stray_under m last l (index * per_block m.size + w) (word m p w)) (each_below (per_block m.size) (λ w. w)))) (eq-eqb p absent e);
    bare = ap (λ b. if b || nat_le last (index * per_block m.size ^ suc l) then false else not (list_any is_leaf (visits_under m last (suc l) index p)) || list_any (λ w. has_bare_under m last l (index * per_block m.size + w) (word m p w)) (each_below (per_block m.size) (λ w. w))) (eq-eqb p absent e);
  }

  -- a pointer past the size
  pub meets_stray : (level index p : ℕ) → p ≢ absent → last ≤ index * per_block m.size ^ level → Meets m last level index p [] true false
  meets_stray zero index p there past =
      let le : nat_le last index ≡ true = le-leb last index (omega (arith, past, pow-zero (per_block m.size), ap (λ k. index * k) (pow-zero (per_block m.size)))) in
      record {
        visits = (λ i. if differs p absent there i || le i then [] else leaf_at index p ∷ []);
        strays = (λ i. not (differs p absent there i) && le i);
        bare = refl;
      }
  meets_stray (suc l) index p there past =
      let le : nat_le last (index * per_block m.size ^ suc l) ≡ true = le-leb last (index * per_block m.size ^ suc l) past in
      record {
        visits = (λ i. if differs p absent there i || le i then [] else block_at (suc l) index p ∷ (if nat_lt p m.count then parts_below (per_block m.size) (λ w. visits_under m last l (index * per_block m.size + w) (word m p w)) else []));
        strays = (λ i. not (differs p absent there i) && (le i || list_any (λ w. is_stray_under m last l (index * per_block m.size + w) (word m p w)) (each_below (per_block m.size) (λ w. w))));
        bare = (λ i. if differs p absent there i || le i then false else not (list_any is_leaf (visits_under m last (suc l) index p)) || list_any (λ w. has_bare_under m last l (index * per_block m.size + w) (word m p w)) (each_below (per_block m.size) (λ w. w)));
      }

  -- a leaf below the size
  pub meets_leaf : (index p : ℕ) → p ≢ absent → index * per_block m.size ^ 0 < last → Meets m last 0 index p (leaf_at index p ∷ []) false false
  meets_leaf index p there below =
      let over : nat_le last index ≡ false = lt-leb last index (omega (arith, below, ap (λ k. index * k) (pow-zero (per_block m.size)))) in
      record {
        visits = (λ i. if differs p absent there i || over i then [] else leaf_at index p ∷ []);
        strays = (λ i. not (differs p absent there i) && over i);
        bare = refl;
      }

  -- what is met below a block: the parts by its pointers
  abbrev pub parts_of : ℕ → ℕ → ℕ → List Visit
  parts_of l index p = parts_below (per_block m.size) (λ w. visits_under m last l (index * per_block m.size + w) (word m p w))

  -- a block below the size that is one
  pub meets_block : (l index p : ℕ) → p ≢ absent → index * per_block m.size ^ suc l < last → p < m.count
      → Meets m last (suc l) index p (block_at (suc l) index p ∷ parts_of l index p)
      (list_any (λ w. is_stray_under m last l (index * per_block m.size + w) (word m p w)) (each_below (per_block m.size) (λ w. w)))
      (not (list_any is_leaf (block_at (suc l) index p ∷ parts_of l index p)) || list_any (λ w. has_bare_under m last l (index * per_block m.size + w) (word m p w)) (each_below (per_block m.size) (λ w. w)))
  meets_block l index p there below block =
      let over : nat_le last (index * per_block m.size ^ suc l) ≡ false = lt-leb last (index * per_block m.size ^ suc l) below in
      let visits : visits_under m last (suc l) index p ≡ block_at (suc l) index p ∷ parts_of l index p = (λ i. if differs p absent there i || over i then [] else block_at (suc l) index p ∷ (if lt-ltb p m.count block i then parts_of l index p else [])) in
      record {
        visits = visits;
        strays = (λ i. not (differs p absent there i) && (over i || list_any (λ w. is_stray_under m last l (index * per_block m.size + w) (word m p w)) (each_below (per_block m.size) (λ w. w))));
        bare = (λ i. if differs p absent there i || over i then false else not (list_any is_leaf (visits i)) || list_any (λ w. has_bare_under m last l (index * per_block m.size + w) (word m p w)) (each_below (per_block m.size) (λ w. w)));
      }

  -- what begins with a visit to this block
  pub record Begins (p : ℕ) (visits : List Visit) : Type 0 where
    pub first : Visit
    pub rest : List Visit
    pub is : visits ≡ first ∷ rest
    pub block : first.block ≡ p

  -- a pointer below the size is the first that is met from it on
  pub begins : (level index p : ℕ) → p ≢ absent → index * per_block m.size ^ level < last → Begins p (visits_under m last level index p)
  begins zero index p there below = record { first = leaf_at index p; rest = []; is = (meets_leaf index p there below).visits; block = refl }
  begins (suc l) index p there below =
      let over : nat_le last (index * per_block m.size ^ suc l) ≡ false = lt-leb last (index * per_block m.size ^ suc l) below in
      record {
        first = block_at (suc l) index p;
        rest = if nat_lt p m.count then parts_of l index p else [];
        is = (λ i. if differs p absent there i || over i then [] else block_at (suc l) index p ∷ (if nat_lt p m.count then parts_of l index p else []));
        block = refl;
      }

-- functions that are alike below a bound have some there alike
pub any_alike : (n : ℕ) (f g : ℕ → Bool) → ((k : ℕ) → k < n → f k ≡ g k) → list_any f (each_below n (λ w. w)) ≡ list_any g (each_below n (λ w. w))
any_alike zero f g same = refl
any_alike (suc n) f g same = any_more n f ∙ (λ i. any_alike n f g (λ k h. same k (omega (arith, h))) i || same n (omega arith) i) ∙ sym (any_more n g)

-- the pointers of a block, side by side, are those that the definitions speak of
pub record AreOf (m : BlockMap) (last l index p : ℕ) (first : ℕ) (pointers : List ℕ) : Type 0 where
  pub visits : visits_beside m last l first pointers (length pointers) ≡ parts_below (per_block m.size) (λ w. visits_under m last l (index * per_block m.size + w) (word m p w))
  pub strays : strays_beside m last l first pointers (length pointers) ≡ list_any (λ w. is_stray_under m last l (index * per_block m.size + w) (word m p w)) (each_below (per_block m.size) (λ w. w))
  pub bare : bare_beside m last l first pointers (length pointers) ≡ list_any (λ w. has_bare_under m last l (index * per_block m.size + w) (word m p w)) (each_below (per_block m.size) (λ w. w))

pub are_of : (m : BlockMap) (last l index p first : ℕ) (pointers : List ℕ) → first ≡ index * per_block m.size → pointers ≡ each_below (per_block m.size) (λ w. word m p w) → AreOf m last l index p first pointers
are_of m last l index p first pointers at is =
    let P : ℕ = per_block m.size in
    let long : length pointers ≡ P = ap length is ∙ length-map-range_with_len (λ w. word m p w) 0 P in
    let one : (w : ℕ) → w < P → slice_index_or pointers w absent ≡ word m p w = λ w h. ap (λ ps. slice_index_or ps w absent) is ∙ get_or-map-range_with_len (λ w. word m p w) 0 P w w absent h (omega arith) in
    record {
      visits = ap (λ n. visits_beside m last l first pointers n) long ∙ parts_alike P (λ w. visits_under m last l (first + w) (slice_index_or pointers w absent)) (λ w. visits_under m last l (index * P + w) (word m p w)) (λ w h i. visits_under m last l (at i + w) (one w h i));
      strays = ap (λ n. strays_beside m last l first pointers n) long ∙ any_alike P (λ w. is_stray_under m last l (first + w) (slice_index_or pointers w absent)) (λ w. is_stray_under m last l (index * P + w) (word m p w)) (λ w h i. is_stray_under m last l (at i + w) (one w h i));
      bare = ap (λ n. bare_beside m last l first pointers n) long ∙ any_alike P (λ w. has_bare_under m last l (first + w) (slice_index_or pointers w absent)) (λ w. has_bare_under m last l (index * P + w) (word m p w)) (λ w h i. has_bare_under m last l (at i + w) (one w h i));
    }
