-- The leaf of a node at a number is what its pointer there leads to.
use Rattle.std.proofs.Common.{◌≡◌, ◌≢◌, ℕ, zero, suc, ◌+◌, ◌^◌, ◌/◌, ◌%◌, ◌<◌, ◌≤◌, inl, inr, sym, ◌∙◌, ap, subst, arith}
use Rattle.std.specs.Prelude.{◌==◌, if◌then◌else◌, nat_lt, replicate}
use Rattle.std.proofs.lemmas.Bool.{cases_eq, eq-eqb, lt-ltb, ne_eqb}
use Rattle.std.proofs.Math.Nat.{div-div-eq-div-mul, pow-suc}
use Rattle.qx_geom.specs.declared.root.Root.{Root}
use Rattle.qx_geom.specs.Pointer.{absent, per_block}
use Rattle.qx_nodes.specs.BlockMap.{BlockMap, word}
use Rattle.qx_nodes.specs.Content.{bytes_at_leaf, leaf_bytes}
use Rattle.qx_nodes.specs.Leaves.{Block, Damage, Hole, Leaf, leaf_of, leaf_under}
use Rattle.qx_nodes.proofs.LeafPaths.{by_one}
use Rattle.qx_ptree.specs.Trees.{pointer_at, pointer_from}
use Rattle.qx_ptree.proofs.PointersByPosition.{at_from, leaf_up}

-- what a pointer to a leaf leads to
abbrev pub leaf_here : ℕ → Leaf
leaf_here q = if q == absent then Hole else Block q

-- each pointer that is there is a block's number
abbrev pub AllNumbers : BlockMap → Root → Type 0
AllNumbers m node = (k j : ℕ) → k ≤ node.levels → pointer_at m node k j ≢ absent → pointer_at m node k j < m.count

-- a pointer to a leaf, where it is a block's number
here_leaf : (p n : ℕ) → (p ≢ absent → p < n) → (if p == absent then Hole else if nat_lt p n then Block p else Damage) ≡ leaf_here p
here_leaf p n low = elim (cases_eq p absent) [
  | inl none ↦ ap (λ b. if b then Hole else if nat_lt p n then Block p else Damage) (eq-eqb p absent none) ∙ sym (ap (λ b. if b then Hole else Block p) (eq-eqb p absent none))
  | inr there ↦ ap (λ b. if p == absent then Hole else if b then Block p else Damage) (lt-ltb p n (low there))
]

-- a pointer to a block, where it is a block's number, or none and nothing below it
here_below : (p n : ℕ) (x y : Leaf) → (p ≢ absent → (p < n) × (x ≡ y)) → (p ≡ absent → y ≡ Hole) → (if p == absent then Hole else if nat_lt p n then x else Damage) ≡ y
here_below p n x y there none = elim (cases_eq p absent) [
  | inl e ↦ ap (λ b. if b then Hole else if nat_lt p n then x else Damage) (eq-eqb p absent e) ∙ sym (none e)
  | inr ne ↦ ap (λ b. if b then Hole else if nat_lt p n then x else Damage) (ne_eqb p absent ne) ∙ ap (λ b. if b then x else Damage) (lt-ltb p n (there ne).0) ∙ (there ne).1
]

-- the leaf below a pointer
under_pointer : (m : BlockMap) (node : Root) (l d i : ℕ) → 0 < per_block m.size → AllNumbers m node → l + d ≡ node.levels → leaf_under m l (pointer_from m node d (i / per_block m.size ^ l)) i ≡ leaf_here (pointer_at m node 0 i)
under_pointer m node zero d i pos low at =
    let is : pointer_from m node d (i / per_block m.size ^ zero) ≡ pointer_at m node 0 i = ap (pointer_from m node d) (by_one i (per_block m.size)) ∙ sym (at_from m node 0 i d (omega arith) (omega arith)) in
    ap (λ p. if p == absent then Hole else if nat_lt p m.count then Block p else Damage) is ∙ here_leaf (pointer_at m node 0 i) m.count (low 0 i (omega arith))
under_pointer m node (suc l) d i pos low at =
    let P : ℕ = per_block m.size in
    let p : ℕ = pointer_from m node d (i / P ^ suc l) in
    let is : pointer_at m node (suc l) (i / P ^ suc l) ≡ p = at_from m node (suc l) (i / P ^ suc l) d (omega arith) (omega arith) in
    let up : i / P ^ l / P ≡ i / P ^ suc l = div-div-eq-div-mul i (P ^ l) P ∙ ap (λ q. i / q) (sym (pow-suc P l)) in
    here_below p m.count (leaf_under m l (word m p (i / P ^ l % P)) i) (leaf_here (pointer_at m node 0 i))
    (λ there. (
      subst (λ q. q < m.count) is (low (suc l) (i / P ^ suc l) (omega arith) (λ e. there (sym is ∙ e))),
      ap (λ q. leaf_under m l q i)
          (sym (ap (λ q. if q == absent then absent else word m q (i / P ^ l % P)) (ap (pointer_from m node d) up) ∙ ap (λ b. if b then absent else word m p (i / P ^ l % P)) (ne_eqb p absent there)))
          ∙ under_pointer m node l (suc d) i pos low (omega arith),
    ))
    (λ none. elim (cases_eq (pointer_at m node 0 i) absent) [
      | inl e ↦ ap (λ b. if b then Hole else Block (pointer_at m node 0 i)) (eq-eqb (pointer_at m node 0 i) absent e)
      | inr ne ↦ absurd (leaf_up m node (suc l) i pos (omega arith) ne (is ∙ none))
    ])

-- the leaf of a node
pub leaf_by_pointer : (m : BlockMap) (node : Root) (i : ℕ) → 0 < per_block m.size → AllNumbers m node → leaf_of m node i ≡ leaf_here (pointer_at m node 0 i)
leaf_by_pointer m node i pos low = under_pointer m node node.levels 0 i pos low (omega arith)

-- its bytes, where there is a block
pub bytes_by_pointer : (m : BlockMap) (node : Root) (i : ℕ) → 0 < per_block m.size → AllNumbers m node → pointer_at m node 0 i ≢ absent → leaf_bytes m node i ≡ m.bytes (pointer_at m node 0 i)
bytes_by_pointer m node i pos low there =
    ap (bytes_at_leaf m) (leaf_by_pointer m node i pos low) ∙ ap (λ b. bytes_at_leaf m (if b then Hole else Block (pointer_at m node 0 i))) (ne_eqb (pointer_at m node 0 i) absent there)

-- and where there is none
pub bytes_of_hole : (m : BlockMap) (node : Root) (i : ℕ) → 0 < per_block m.size → AllNumbers m node → pointer_at m node 0 i ≡ absent → leaf_bytes m node i ≡ replicate m.size 0
bytes_of_hole m node i pos low none =
    ap (bytes_at_leaf m) (leaf_by_pointer m node i pos low) ∙ ap (λ b. bytes_at_leaf m (if b then Hole else Block (pointer_at m node 0 i))) (eq-eqb (pointer_at m node 0 i) absent none)
