-- What reading a block leaves.
use Rattle.std.proofs.Common.{◌≡◌, ℕ, ◌+◌, ◌≤◌, Bool, true, false, List, [], ◌∷◌, length, Option, None, Some, refl, sym, ap, arith}
use Rattle.std.specs.Prelude.{if◌then◌else◌, is_err, is_some, IfSome, OnErr, OnOk, Result, Ok, Err}
use Rattle.std.specs.Option.{option_map, option_or}
use Rattle.std.specs.FinMap.{get}
use Rattle.qx_outside.specs.Outside.{Outside}
use Rattle.qx_outside.specs.Causes.{StaysWhereTold}
use Rattle.qx_cache.specs.CacheState.{CacheState, change_of, is_kept, kept_with}
use Rattle.qx_cache.specs.Calls.{Reads}
use Rattle.qx_cache.proofs.BlockMeanings.{chosen}
use Rattle.qx_cache.proofs.CoherentSteps.{kept-one}

-- what holds of an Ok holds where the answer is no Err
pub ok_holds : {A E : Type 0} (r : Result A E) (P : Type 0) → is_err r ≡ false → OnOk r P → P
ok_holds (Ok x) P is p = p
ok_holds (Err e) P is p = absurd (cc is)

-- what holds anyway holds of an Err
pub err_holds : {A E : Type 0} (r : Result A E) (P : Type 0) → P → OnErr r P
err_holds (Ok x) P p = tt
err_holds (Err e) P p = p

-- what is told is the same as it is
pub told_same : {A : Type 0} (x : Option A) → StaysWhereTold x x
told_same None = record { same = tt }
told_same (Some a) = record { same = refl }

-- a block that is kept alone stays so
kept-again : (kept : List ℕ) (b : ℕ) → length kept ≤ 1 → is_kept kept b ≡ true → kept ≡ kept_with kept b
kept-again [] b few is = absurd (cc is)
kept-again (k ∷ []) b few is = ap (λ x. x ∷ []) (sym (kept-one k b is))
kept-again (k ∷ q ∷ kept) b few is = absurd (omega arith)

-- a changed block's bytes are those of the change
pub changed-bytes : (change frozen : Option (List ℕ)) (held : Bool) (device bytes : List ℕ) → is_some change ≡ true → IfSome (option_or change frozen) (λ now. bytes ≡ now) → bytes ≡ chosen change frozen held device
changed-bytes (Some now) frozen held device bytes is same = same
changed-bytes None frozen held device bytes is same = absurd (cc is)

module _ {H : Type 0} (outside : H → Outside) where
  -- a changed block is there
  pub reads-changed : (c : CacheState H) (b : ℕ) → is_some (change_of c b) ≡ true → Reads outside c b true c
  reads-changed c b is = record {
    ok = λ _ i. record c { kept = back i };
    err = λ e. absurd (cc e);
    reads = λ _. read (is_some (change_of c b)) is;
    reads_err = λ _. refl;
    extent_same = told_same (outside c.host).extent;
    idles = record { before = λ told. told; step = λ _. refl };
  } where
    back : c.kept ≡ (if is_some (change_of c b) then c.kept else kept_with c.kept b)
    back = sym (ap (λ t. if t then c.kept else kept_with c.kept b) is)

    read : (t : Bool) → t ≡ true → (outside c.host).dev_reads ≡ (if t then (outside c.host).dev_reads else if is_kept c.kept b then (outside c.host).dev_reads else option_map (λ n. n + 1) (outside c.host).dev_reads)
    read true is = refl
    read false is = absurd (cc is)

  -- so is the kept one
  pub reads-kept : (c : CacheState H) (b : ℕ) → length c.kept ≤ 1 → is_kept c.kept b ≡ true → Reads outside c b true c
  reads-kept c b few is = record {
    ok = λ _ i. record c { kept = back (is_some (change_of c b)) i };
    err = λ e. absurd (cc e);
    reads = λ _. read (is_some (change_of c b)) (is_kept c.kept b) is;
    reads_err = λ _. refl;
    extent_same = told_same (outside c.host).extent;
    idles = record { before = λ told. told; step = λ _. refl };
  } where
    back : (t : Bool) → c.kept ≡ (if t then c.kept else kept_with c.kept b)
    back true = refl
    back false = kept-again c.kept b few is

    read : (t u : Bool) → u ≡ true → (outside c.host).dev_reads ≡ (if t then (outside c.host).dev_reads else if u then (outside c.host).dev_reads else option_map (λ n. n + 1) (outside c.host).dev_reads)
    read true u is = refl
    read false true is = refl
    read false false is = absurd (cc is)

-- a block that isn't changed is in neither map
pub unchanged : {H : Type 0} (c : CacheState H) (b : ℕ) → is_some (change_of c b) ≡ false → (get c.changes b ≡ None) × (get c.frozen_changes b ≡ None)
unchanged c b is = parts (get c.changes b) (get c.frozen_changes b) is where
  parts : (change frozen : Option (List ℕ)) → is_some (option_or change frozen) ≡ false → (change ≡ None) × (frozen ≡ None)
  parts None None is = (refl, refl)
  parts None (Some x) is = absurd (cc is)
  parts (Some x) frozen is = absurd (cc is)
