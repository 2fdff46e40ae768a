-- What is found last, by what the walk knows.
use Rattle.std.proofs.Common.{◌≡◌, ℕ, ◌+◌, length, refl, ap, sym, ◌∙◌, arith}
use Rattle.std.specs.Prelude.{Bool, true, false, ◌&&◌, ◌==◌, None, Some}
use Rattle.std.proofs.lemmas.Bool.{eq-eqb, eqb-true}
use Rattle.qx_blockset.specs.Members.{count_of, limit_of}
use Rattle.qx_geom.proofs.BlockSizes.{block_size-bounds}
use Rattle.qx_geom.proofs.Truths.{not_so}
use Rattle.qx_geom.proofs.VolumeNumbers.{IsGeometry-keeps}
use Rattle.qx_geom.specs.Layout.{user_blocks}
use Rattle.qx_geom.specs.declared.area.Which.{Which}
use Rattle.qx_geom.specs.declared.geometry.Geometry.{Geometry}
use Rattle.qx_nodes.specs.BlockMap.{BlockMap}
use Rattle.qx_nodes.specs.Content.{HasSize}
use Rattle.qx_super.specs.Superblock.{Superblock}
use Rattle.qx_view.proofs.ActiveHalf.{IsGeometryOf, halves_right, written_is}
use Rattle.qx_view.specs.Images.{main_roots}
use Rattle.qx_view.specs.Sound.{are_counts_right, last_with, outer_blocks, reason_with, tail_finding, written_geometry}
use Rattle.qx_view.specs.Walk.{walked_inodes}
use Rattle.qx_walk.specs.declared.state.Walked.{Walked}
use Rattle.qx_walk.specs.Layouts.{has_right_counts}
use Rattle.qx_walk.specs.Trees.{IsWalked}
use Rattle.qx_walk.proofs.OtherHalf.{met_count}

-- blocks of a volume have room for a pointer
pub has_size : (m : BlockMap) (s : Superblock) (g : Geometry) → IsGeometryOf s g → m.size ≡ g.blocksize → HasSize m
has_size m s g of size =
    let bounds = block_size-bounds g.blocksize (IsGeometry-keeps g of.volume).block_size in
    record { size = omega (arith, size, bounds.size_from); words = omega (arith, size, bounds.size_from) }

-- where none was noted the counts decide
pub no_tail : (m : BlockMap) (s : Superblock) (g : Geometry) (w : Walked) → IsWalked m (main_roots s) w → w.notes.tails ≡ None
    → last_with m s (Some g) ≡ tail_finding None (are_counts_right m s g (main_roots s) (walked_inodes m (main_roots s)))
no_tail m s g w is e = ap (λ o. tail_finding o (are_counts_right m s g (main_roots s) (walked_inodes m (main_roots s)))) (sym is.notes.tails ∙ e)

-- the counts are right exactly where those of what was met are
pub counts_are : (m : BlockMap) (s : Superblock) (len : ℕ) (g : Geometry) (which : Which) (w : Walked) → m.size ≡ g.blocksize → m.count ≡ g.num_blocks → limit_of w.met ≡ m.count
    → written_geometry s len ≡ Some g → IsWalked m (main_roots s) w → reason_with m s which (Some g) ≡ None
    → are_counts_right m s g (main_roots s) (walked_inodes m (main_roots s)) ≡ has_right_counts s g w
counts_are m s len g which w size count limit written is none =
    let of : IsGeometryOf s g = written_is s len g written in
    let room : HasSize m = has_size m s g of size in
    let met : count_of w.met ≡ length (outer_blocks m (main_roots s)) + g.half =
    met_count m s room is.none g which of (size ∙ sym of.size) (count ∙ sym of.count) (halves_right m s g which none).0 w.met is.met limit in
    λ i. blocks (length (outer_blocks m (main_roots s))) (count_of w.met) met i && (s.free_inodes + sym is.live i == s.num_inodes)
  where
    blocks : (outer all : ℕ) → all ≡ outer + g.half → (s.free_blocks + outer == user_blocks g) ≡ (s.free_blocks + all == user_blocks g + g.half)
    blocks outer all e = go (s.free_blocks + outer == user_blocks g) refl
      where
        go : (b : Bool) → (s.free_blocks + outer == user_blocks g) ≡ b → b ≡ (s.free_blocks + all == user_blocks g + g.half)
        go true h = sym (eq-eqb (s.free_blocks + all) (user_blocks g + g.half) (let same : s.free_blocks + outer ≡ user_blocks g = eqb-true (s.free_blocks + outer) (user_blocks g) h in omega (arith, same, e)))
        go false h = sym (not_so (s.free_blocks + all == user_blocks g + g.half) (λ t.
            let same : s.free_blocks + all ≡ user_blocks g + g.half = eqb-true (s.free_blocks + all) (user_blocks g + g.half) t in
            let yes : (s.free_blocks + outer == user_blocks g) ≡ true = eq-eqb (s.free_blocks + outer) (user_blocks g) (omega (arith, same, e)) in
            cc))

-- so a tail or counts that are wrong are found, and nothing else is
pub last_is : (m : BlockMap) (s : Superblock) (len : ℕ) (g : Geometry) (which : Which) (w : Walked) (right : Bool) → m.size ≡ g.blocksize → m.count ≡ g.num_blocks → limit_of w.met ≡ g.num_blocks
    → written_geometry s len ≡ Some g → IsWalked m (main_roots s) w → reason_with m s which (Some g) ≡ None → w.notes.tails ≡ None → has_right_counts s g w ≡ right
    → last_with m s (Some g) ≡ tail_finding None right
last_is m s len g which w right size count limit written is none tails e =
    no_tail m s g w is tails ∙ ap (λ b. tail_finding None b) (counts_are m s len g which w size count (limit ∙ sym count) written is none ∙ e)
