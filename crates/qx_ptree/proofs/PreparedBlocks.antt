-- What is prepared at one block.
use Rattle.std.proofs.Common.{◌≡◌, ℕ, ◌+◌, ◌*◌, ◌<◌, inl, inr, [], ◌∷◌, ◌++◌, List, length, refl, sym, ◌∙◌, ap, subst, arith, Ok, Err}
use Rattle.std.specs.Prelude.{Bool, true, false, IsTrue, IfOk, OnErr, OnOk, Result, replicate, take}
use Rattle.std.proofs.Math.Seq.{take-append_seam}
use Rattle.std.proofs.lemmas.List.{append-nil, drop_all}
use Rattle.qx_fields.specs.declared.order.Order.{Order}
use Rattle.qx_fields.specs.Number.{put_fields}
use Rattle.qx_fields.proofs.Fields.{length_all_digits}
use Rattle.qx_geom.specs.Pointer.{absent, per_block}
use Rattle.qx_blocks.specs.declared.blocks.Stop.{Stop}
use Rattle.qx_blocks.specs.BlockState.{BlockState, IsConsistent, put, with_bytes, with_fresh}
use Rattle.qx_blocks.specs.Calls.{Keeps, MakesReady}
use Rattle.qx_ptree.specs.Building.{BlockWork, LeafWork, WritesBlock, WritesLeaf, pointer_bytes}
use Rattle.qx_ptree.specs.Takings.{Adds, Takes}
use Rattle.qx_ptree.specs.WorkState.{WorkState}
use Rattle.qx_ptree.proofs.ListedBlocks.{put-at}
use Rattle.qx_ptree.proofs.TakenBlocks.{Takes-fresh, Takes-none, Takes-same}
use Rattle.qx_ptree.proofs.AddedWork.{adds_edited, adds_kept, adds_lost, adds_moved, adds_none, adds_taken}

-- ---- any result

-- what holds whatever comes out holds at an error
pub at_err : {T E P : Type 0} (r : Result T E) → P → OnErr r P
at_err (Ok x) p = tt
at_err (Err e) p = p

-- an error that left all as it was
pub err_same : {T E : Type 0} (m n : BlockState) (before after : WorkState) (r : Result T E) → OnErr r (n ≡ m) → OnErr r (after ≡ before) → OnErr r (Adds m n before after)
err_same m n before after (Ok x) kept same = tt
err_same m n before after (Err e) kept same = adds_none m n before after (subst (Takes [] m) (sym kept) (Takes-same m)) same

-- an error that left no more than bytes untold
pub err_keeps : {T E : Type 0} (m n : BlockState) (before after : WorkState) (r : Result T E) → OnErr r (Keeps m n) → OnErr r (after ≡ before) → OnErr r (Adds m n before after)
err_keeps m n before after (Ok x) kept same = tt
err_keeps m n before after (Err e) kept same = adds_none m n before after (Takes-none m n kept) same

-- ---- a leaf

-- a leaf that is new has a fresh block
pub leaf_taken : (m n : BlockState) (before after : WorkState) (p : ℕ) (r : Result ℕ Stop) → IsConsistent m → p ≡ absent
    → IfOk r (λ b. n ≡ with_fresh m b) → IfOk r (λ b. m.holdings.held b ≡ false) → IfOk r (λ b. 0 < m.holdings.free) → IfOk r (λ b. after ≡ record before { fresh = before.fresh ++ b ∷ [] })
    → IfOk r (λ b. WritesLeaf m n before after p b)
leaf_taken m n before after p (Err e) k none taken unheld room noted = tt
leaf_taken m n before after p (Ok b) k none taken unheld room noted = record {
  adds = adds_taken m n before after b (subst (Takes (b ∷ []) m) (sym taken) (Takes-fresh m b k unheld room)) noted;
  work = LeafWork.taken none (ap (λ (s : BlockState). s.bytes b) taken ∙ put-at m.bytes b b (replicate m.holdings.size 0) refl);
}

-- one that the working tree alone holds stays
pub leaf_stays : (m n : BlockState) (before after : WorkState) (p : ℕ) → (p ≡ absent → ⊥) → m.holdings.private p ≡ true → MakesReady p m n → after ≡ record before { kept = before.kept ++ p ∷ [] } → WritesLeaf m n before after p p
leaf_stays m n before after p some private ready noted = record {
  adds = adds_kept m n before after p ready noted;
  work = LeafWork.stays some private refl;
}

-- one that other trees hold moves to a fresh block
pub leaf_moved : (m n : BlockState) (before mid after : WorkState) (p b : ℕ) → (p ≡ absent → ⊥) → m.holdings.private p ≡ false → Takes (b ∷ []) m n
    → (IsTrue n.tells → n ≡ with_bytes (with_fresh m b) b (m.bytes p)) → mid ≡ record before { fresh = before.fresh ++ b ∷ [] } → after ≡ record mid { released = mid.released ++ p ∷ [] } → WritesLeaf m n before after p b
leaf_moved m n before mid after p b some shared takes told taken lost = record {
  adds = adds_moved m n before after b p takes (lost ∙ ap (λ (w : WorkState). record w { released = w.released ++ p ∷ [] }) taken);
  work = LeafWork.moved some shared (λ t. ap (λ (s : BlockState). s.bytes b) (told t) ∙ put-at (with_fresh m b).bytes b b (m.bytes p) refl);
}

-- ---- a pointer block

-- a whole block's bytes are those of its pointers
pub whole_bytes : (order : Order) (into pointers : List ℕ) → length into ≡ 4 * length pointers → put_fields order 4 into 0 pointers ≡ pointer_bytes order pointers
unfolding put_fields
whole_bytes order into pointers long =
    ap (λ rest. pointer_bytes order pointers ++ rest) (drop_all (0 + 4 * length pointers) into (omega arith)) ∙ append-nil (pointer_bytes order pointers)

-- so many pointers fill a block
pub block_filled : (m : BlockState) (pointers : List ℕ) → IsConsistent m → length pointers ≡ per_block m.holdings.size → 4 * length pointers ≡ m.holdings.size
block_filled m pointers k long = elim k.size [
  | inl is ↦ omega (arith, is)
  | inr more ↦ elim more [
    | inl is ↦ omega (arith, is)
    | inr more ↦ elim more [ inl is ↦ omega (arith, is) | inr is ↦ omega (arith, is) ]
  ]
]

-- and their bytes are as many as it has
pub pointer_bytes-length : (order : Order) (m : BlockState) (pointers : List ℕ) → IsConsistent m → length pointers ≡ per_block m.holdings.size → length (pointer_bytes order pointers) ≡ m.holdings.size
pointer_bytes-length order m pointers k long = length_all_digits order 4 pointers ∙ block_filled m pointers k long

-- pointers that were put into a whole block are its bytes, as many as it has
pub whole_put : (order : Order) (m : BlockState) (into new pointers : List ℕ) → IsConsistent m → length pointers ≡ per_block m.holdings.size → length into ≡ m.holdings.size → new ≡ put_fields order 4 into 0 pointers
    → (new ≡ pointer_bytes order pointers) × (length new ≡ m.holdings.size)
whole_put order m into new pointers k long room put =
    let is : new ≡ pointer_bytes order pointers = put ∙ whole_bytes order into pointers (room ∙ sym (block_filled m pointers k long)) in
    (is, ap length is ∙ pointer_bytes-length order m pointers k long)

-- as many bytes written over a Vec's are what it has
pub written_over : (n : ℕ) (new rest : List ℕ) → n ≡ length new → take n (new ++ rest) ≡ new
written_over n new rest long = ap (λ k. take k (new ++ rest)) long ∙ take-append_seam new rest

-- a block stays, and is then noted to get these bytes
pub edit_noted : {T E : Type 0} (r : Result T E) (before mid after : WorkState) (p : ℕ) (written bytes : List ℕ) → mid ≡ record before { kept = before.kept ++ p ∷ [] } → written ≡ bytes
    → OnOk r (after ≡ record mid { edits = mid.edits ++ (record { block = p; bytes = written }) ∷ [] })
    → OnOk r (after ≡ record before { edits = before.edits ++ (record { block = p; bytes = bytes }) ∷ []; kept = before.kept ++ p ∷ [] })
edit_noted (Err e) before mid after p written bytes kept same noted = tt
edit_noted (Ok x) before mid after p written bytes kept same noted =
    noted ∙ (λ i. record (kept i) { edits = (kept i).edits ++ (record { block = p; bytes = same i }) ∷ [] })

-- where nothing is present, and nothing was, there is no block
pub block_never : (order : Order) (m : BlockState) (work : WorkState) (p : ℕ) (pointers : List ℕ) (changed present : Bool) → p ≡ absent → present ≡ false → WritesBlock order m m work work p pointers changed present absent
block_never order m work p pointers changed present none gone = subst (λ t. WritesBlock order m m work work p pointers changed t absent) (sym gone) (record {
  adds = adds_none m m work work (Takes-same m) refl;
  work = BlockWork.never none;
})

-- where something was, its block is given up
pub block_lost : (order : Order) (m : BlockState) (before after : WorkState) (p : ℕ) (pointers : List ℕ) (changed present : Bool) → (p ≡ absent → ⊥) → present ≡ false
    → after ≡ record before { released = before.released ++ p ∷ [] } → WritesBlock order m m before after p pointers changed present absent
block_lost order m before after p pointers changed present some gone noted = subst (λ t. WritesBlock order m m before after p pointers changed t absent) (sym gone) (record {
  adds = adds_lost m m before after p (Takes-same m) noted;
  work = BlockWork.lost some;
})

-- a block that didn't change stays
pub block_same : (order : Order) (m : BlockState) (work : WorkState) (p : ℕ) (pointers : List ℕ) (changed present : Bool) → (p ≡ absent → ⊥) → changed ≡ false → present ≡ true → WritesBlock order m m work work p pointers changed present p
block_same order m work p pointers changed present some same here =
    subst (λ t. WritesBlock order m m work work p pointers t present p) (sym same) (subst (λ t. WritesBlock order m m work work p pointers false t p) (sym here) (record {
      adds = adds_none m m work work (Takes-same m) refl;
      work = BlockWork.same some;
    }))

-- one that the working tree alone holds is edited
pub block_edited : (order : Order) (m n : BlockState) (before after : WorkState) (p : ℕ) (pointers : List ℕ) (changed present : Bool) → (p ≡ absent → ⊥) → changed ≡ true → present ≡ true
    → m.holdings.private p ≡ true → MakesReady p m n → length (pointer_bytes order pointers) ≡ n.holdings.size
    → after ≡ record before { edits = before.edits ++ (record { block = p; bytes = pointer_bytes order pointers }) ∷ []; kept = before.kept ++ p ∷ [] }
    → WritesBlock order m n before after p pointers changed present p
block_edited order m n before after p pointers changed present some new here private ready long noted =
    subst (λ t. WritesBlock order m n before after p pointers t present p) (sym new) (subst (λ t. WritesBlock order m n before after p pointers true t p) (sym here) (record {
      adds = adds_edited m n before after p (pointer_bytes order pointers) ready long noted;
      work = BlockWork.edited some private;
    }))

-- where there was none, a block is taken
pub block_taken : (order : Order) (m n : BlockState) (before after : WorkState) (p : ℕ) (pointers : List ℕ) (changed present : Bool) (r : Result ℕ Stop) → p ≡ absent → present ≡ true
    → IfOk r (λ b. Takes (b ∷ []) m n) → IfOk r (λ b. n.bytes b ≡ pointer_bytes order pointers) → IfOk r (λ b. after ≡ record before { fresh = before.fresh ++ b ∷ [] })
    → IfOk r (λ b. WritesBlock order m n before after p pointers changed present b)
block_taken order m n before after p pointers changed present (Err e) none here takes bytes noted = tt
block_taken order m n before after p pointers changed present (Ok b) none here takes bytes noted = subst (λ t. WritesBlock order m n before after p pointers changed t b) (sym here) (record {
  adds = adds_taken m n before after b takes noted;
  work = BlockWork.taken none bytes;
})

-- one that other trees hold moves to a fresh block
pub block_moved : (order : Order) (m n : BlockState) (before mid after : WorkState) (p : ℕ) (pointers : List ℕ) (changed present : Bool) (b : ℕ) → (p ≡ absent → ⊥) → changed ≡ true → present ≡ true
    → m.holdings.private p ≡ false → Takes (b ∷ []) m n → n.bytes b ≡ pointer_bytes order pointers
    → mid ≡ record before { fresh = before.fresh ++ b ∷ [] } → after ≡ record mid { released = mid.released ++ p ∷ [] }
    → WritesBlock order m n before after p pointers changed present b
block_moved order m n before mid after p pointers changed present b some new here shared takes bytes taken lost =
    subst (λ t. WritesBlock order m n before after p pointers t present b) (sym new) (subst (λ t. WritesBlock order m n before after p pointers true t b) (sym here) (record {
      adds = adds_moved m n before after b p takes (lost ∙ ap (λ (w : WorkState). record w { released = w.released ++ p ∷ [] }) taken);
      work = BlockWork.moved some shared bytes;
    }))
