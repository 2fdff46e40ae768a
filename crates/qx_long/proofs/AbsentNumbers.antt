-- Numbers of long names that have no leaf.
use Rattle.std.proofs.Common.{◌≡◌, ℕ, ◌*◌, Option, None, refl, sym, ◌∙◌, ap, subst, arith}
use Rattle.std.specs.Prelude.{◌↔◌, Bool, true, false, List, nat_lt, if◌then◌else◌, Contains}
use Rattle.qx_geom.specs.declared.root.Root.{Root}
use Rattle.qx_geom.specs.Lists.{is_in}
use Rattle.qx_geom.proofs.ImagesAndFilters.{Contains-in, in_Contains}
use Rattle.qx_geom.proofs.Truths.{not_so, true_or_false}
use Rattle.qx_nodes.specs.BlockMap.{BlockMap}
use Rattle.qx_nodes.specs.Leaves.{Block, Damage, Hole, Leaf, leaf_of}
use Rattle.qx_nodes.specs.Visits.{IsMet, LiesBelow, Visit, present_of, visits_of}
use Rattle.qx_nodes.proofs.LeafPaths.{node_leaf_met}
use Rattle.qx_nodes.proofs.MetLeaves.{leaf_member, leaf_visit, node_leaf_found}
use Rattle.qx_nodes.specs.LongNames.{long_name, name_at_leaf}
use Rattle.qx_long.specs.AbsentNumbers.{HasLeaves, IsAbsent}

-- a number whose leaf is a block's isn't absent
present_block : (m : BlockMap) (long : Root) (n b : ℕ) → LiesBelow m long n → leaf_of m long n ≡ Block b → is_in (present_of m long) n ≡ true
present_block m long n b below is =
    in_Contains (present_of m long) n (leaf_member (visits_of m long) (record { level = 0; index = n; block = b }) (subst (λ x. IsMet n m.count x (visits_of m long)) is (node_leaf_met m long n below)) refl)

-- below the size, a number is absent exactly where its leaf is a hole
pub absent_hole : (m : BlockMap) (long : Root) (n : ℕ) → HasLeaves m long → LiesBelow m long n → IsAbsent m long n ↔ (leaf_of m long n ≡ Hole)
absent_hole m long n blocks below = (λ absent. hole (leaf_of m long n) refl absent (node_leaf_met m long n below), λ is. not_so (is_in (present_of m long) n) (λ t. found is t))
  where
    hole : (x : Leaf) → leaf_of m long n ≡ x → is_in (present_of m long) n ≡ false → IsMet n m.count x (visits_of m long) → x ≡ Hole
    hole (Block b) is absent met = absurd (true_or_false (is_in (present_of m long) n) (present_block m long n b below is) absent)
    hole Hole is absent met = refl
    hole Damage is absent met = absurd (omega (arith, blocks met.0 met.1, met.2))

    found : leaf_of m long n ≡ Hole → is_in (present_of m long) n ≡ true → ⊥
    found is t =
        let v : (v : Visit) × Contains (visits_of m long) v × (v.level ≡ 0) × (v.index ≡ n) = leaf_visit (visits_of m long) n (Contains-in (present_of m long) n t) in
        let there : leaf_of m long v.0.index ≡ Block v.0.block = node_leaf_found m long v.0 below.positive v.1 v.2 (blocks v.0 v.1) in
        let same : Block v.0.block ≡ Hole = sym there ∙ ap (leaf_of m long) v.3 ∙ is in
        absurd (cc)

-- an absent number has no name
pub absent_none : (m : BlockMap) (long : Root) (n : ℕ) → HasLeaves m long → LiesBelow m long n → IsAbsent m long n → long_name m long n ≡ None
absent_none m long n blocks below absent = none (nat_lt (n * m.size) long.size) (name_at_leaf m (leaf_of m long n)) (ap (name_at_leaf m) ((absent_hole m long n blocks below).0 absent))
  where
    none : (b : Bool) (name : Option (List ℕ)) → name ≡ None → (if b then name else None) ≡ None
    none true name is = is
    none false name is = refl
