-- The least inode that isn't as this project writes it, by what the walk knows.
use Rattle.std.proofs.Common.{◌≡◌, ℕ, zero, suc, ◌+◌, ◌-◌, ◌/◌, ◌^◌, ◌≤◌, ◌<◌, Bool, List, true, false, refl, ap, sym, ◌∙◌, subst, arith}
use Rattle.std.specs.Prelude.{not, None, Some, if◌then◌else◌, nat_lt}
use Rattle.qx_blockset.specs.Members.{has}
use Rattle.qx_geom.specs.Lists.{first_below, is_in}
use Rattle.qx_nodes.specs.BlockMap.{BlockMap}
use Rattle.qx_view.specs.Images.{Roots, inode_bytes, inode_places}
use Rattle.qx_view.specs.Sound.{are_zero, fails_inodes, is_written_inode}
use Rattle.qx_view.specs.Walk.{walked_inodes}
use Rattle.qx_walk.specs.declared.state.Walked.{Walked}
use Rattle.qx_tables.specs.Tables.{places_of}
use Rattle.qx_walk.specs.Trees.{IsWalked}
use Rattle.qx_walk.proofs.FirstNumbers.{first_is}

-- the table has the Inode tree's places
places_same : (m : BlockMap) (r : Roots) (w : Walked) → IsWalked m r w → places_of w.table ≡ inode_places r
places_same m r w is = ap (λ size. if nat_lt (size / 128) (2 ^ 32) then size / 128 else 2 ^ 32 - 1) is.inodes.size

-- what an inode must be
fails_at : (m : BlockMap) (r : Roots) (reached : List ℕ) (n : ℕ) → 0 < n
    → fails_inodes m r reached n ≡ (if is_in reached n then not (is_written_inode m r n) else not (are_zero (inode_bytes m r.inodes n)))
fails_at m r reached zero some = absurd (omega (arith, some))
fails_at m r reached (suc k) some = refl

module _ (m : BlockMap) (r : Roots) (w : Walked) (is : IsWalked m r w) where
  -- an inode that was reached
  pub reached_right : (n : ℕ) (right : Bool) → (0 < n) × (n ≤ places_of w.table) → has w.reached (n - 1) ≡ true → right ≡ is_written_inode m r n → fails_inodes m r (walked_inodes m r) n ≡ not right
  reached_right n right there has_it e =
      let in_list : is_in (walked_inodes m r) n ≡ true = sym (is.reached n there.0 (subst (λ k. n ≤ k) (places_same m r w is) there.1)) ∙ has_it in
      fails_at m r (walked_inodes m r) n there.0 ∙ ap (λ b. if b then not (is_written_inode m r n) else not (are_zero (inode_bytes m r.inodes n))) in_list ∙ ap (λ b. not b) (sym e)

  -- one that wasn't
  pub other_right : (n : ℕ) (right : Bool) → (0 < n) × (n ≤ places_of w.table) → has w.reached (n - 1) ≡ false → right ≡ are_zero (inode_bytes m r.inodes n) → fails_inodes m r (walked_inodes m r) n ≡ not right
  other_right n right there missing e =
      let out : is_in (walked_inodes m r) n ≡ false = sym (is.reached n there.0 (subst (λ k. n ≤ k) (places_same m r w is) there.1)) ∙ missing in
      fails_at m r (walked_inodes m r) n there.0 ∙ ap (λ b. if b then not (is_written_inode m r n) else not (are_zero (inode_bytes m r.inodes n))) out ∙ ap (λ b. not b) (sym e)

  -- the first that isn't right
  pub foreign_at : (place : ℕ) → place < places_of w.table → ((k : ℕ) → k ≤ place → fails_inodes m r (walked_inodes m r) k ≡ false) → fails_inodes m r (walked_inodes m r) (place + 1) ≡ true
      → Some (place + 1) ≡ first_below (fails_inodes m r (walked_inodes m r)) (inode_places r + 1)
  foreign_at place low so_far here =
      first_is (fails_inodes m r (walked_inodes m r)) (inode_places r + 1) (Some (place + 1))
      (omega arith, omega (arith, low, places_same m r w is), here, λ b from to. so_far b (omega (arith, to)))

  -- none
  pub foreign_none : (place : ℕ) → places_of w.table ≤ place → ((k : ℕ) → k ≤ place → fails_inodes m r (walked_inodes m r) k ≡ false)
      → None ≡ first_below (fails_inodes m r (walked_inodes m r)) (inode_places r + 1)
  foreign_none place all so_far = first_is (fails_inodes m r (walked_inodes m r)) (inode_places r + 1) None (λ b from to. so_far b (omega (arith, to, all, places_same m r w is)))
