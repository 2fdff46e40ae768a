-- Where the roots have a tree, or no test of the walk fails, blocks have room for a pointer: else inode 1 has no place.
use Rattle.std.proofs.Common.{◌≡◌, ℕ, zero, suc, ◌*◌, ◌/◌, ◌^◌, ◌≤◌, inl, inr, List, [], ◌++◌, ap, ◌∙◌, arith}
use Rattle.std.specs.Prelude.{true, ◌&&◌, nat_le, flat_map, None}
use Rattle.std.proofs.Math.Nat.{pow-suc, pow-zero}
use Rattle.std.proofs.lemmas.Bool.{cases_lt, leb-true}
use Rattle.qx_geom.proofs.Truths.{and_left, and_right}
use Rattle.qx_geom.specs.Pointer.{absent, per_block, reach}
use Rattle.qx_geom.specs.declared.root.Root.{Root}
use Rattle.qx_model.specs.Tree.{Tree}
use Rattle.qx_nodes.specs.BlockMap.{BlockMap}
use Rattle.qx_nodes.specs.Content.{HasSize, levels_fit, root_fits}
use Rattle.qx_view.proofs.PassingTests.{Passing, node_passes, passing_parts, passing_tested}
use Rattle.qx_view.proofs.TreeLocality.{place_within}
use Rattle.qx_view.specs.Images.{Roots, has_inode}
use Rattle.qx_view.specs.Reading.{IsTreeOf}
use Rattle.qx_view.specs.Walk.{finding_of, inode_tests, root_tests, taken_of, tests_of, top_tests}
use Rattle.qx_view.specs.declared.findings.Code.TheVariants as codes

-- without a pointer in a block, no level reaches 128 bytes
no_words : (size s l : ℕ) → 128 ≤ size → s / 4 ≡ 0 → size ≤ 16 * (s / 4) ^ l * s → ⊥
no_words size s zero big none fits = omega (arith, big, none, fits, ap (λ p. 16 * p * s) (pow-zero (s / 4)))
no_words size s (suc l) big none fits =
    let nothing : (s / 4) ^ suc l ≡ 0 = pow-suc (s / 4) l ∙ ap (λ p. (s / 4) ^ l * p) none ∙ omega arith in
    let reached : 16 * (s / 4) ^ suc l * s ≡ 0 = ap (λ p. 16 * p * s) nothing ∙ omega arith in
    omega (arith, big, fits, reached)

-- an Inode tree that has a place for inode 1 within the bounds
sized : (m : BlockMap) (inodes : Root) → root_fits m inodes ≡ true → has_inode inodes 1 ≡ true → HasSize m
sized m inodes fit there =
    let big : 1 * 128 ≤ inodes.size = place_within inodes 1 there in
    let reached : inodes.size ≤ reach m.size inodes.levels * m.size = leb-true _ _ (and_left (nat_le inodes.size (reach m.size inodes.levels * m.size)) (nat_le inodes.size (2 ^ 48))
    (and_right (nat_le inodes.levels 5) (nat_le inodes.size (reach m.size inodes.levels * m.size) && nat_le inodes.size (2 ^ 48)) (and_left (levels_fit m inodes) (nat_le inodes.size (m.count * m.size)) fit))) in
    elim (cases_lt 0 (per_block m.size)) [
      | inl words ↦ record { size = omega (arith, words); words = words }
      | inr none ↦ absurd (no_words inodes.size m.size inodes.levels (omega (arith, big)) (omega (arith, none)) reached)
    ]

-- the blocks of a tree have room
pub tree_sized : (m : BlockMap) (r : Roots) (t : Tree) → IsTreeOf m r t → HasSize m
tree_sized m r t is =
    let top = is.rooted.top in
    sized m r.inodes is.inodes_fit (is.each 1 top.0 top.2).there

-- so have those of which no test of the walk fails
pub walk_sized : (m : BlockMap) (r : Roots) → finding_of m r ≡ None → HasSize m
walk_sized m r none =
    let roots : List _ = root_tests m r.inodes ++ root_tests m r.longfile ++ flat_map (root_tests m) r.further in
    let all : Passing (tests_of m r) = record { met = []; none = none } in
    let before = passing_parts (roots ++ top_tests m r) (flat_map (inode_tests m r) (taken_of m r)) all in
    let top = passing_parts roots (top_tests m r) before.0 in
    let further = passing_parts (root_tests m r.inodes ++ root_tests m r.longfile) (flat_map (root_tests m) r.further) top.0 in
    let both = passing_parts (root_tests m r.inodes) (root_tests m r.longfile) further.0 in
    sized m r.inodes (node_passes m 0 r.inodes (root_fits m r.inodes) both.0).fit (passing_tested codes.NoInode 1 absent (has_inode r.inodes 1) _ top.1).0
