use Rattle.std.proofs.Common.{◌≡◌, ℕ, ◌+◌, List, length, refl, ap}
use Rattle.std.specs.Prelude.{Bool, true, false, not, ◌&&◌, ◌||◌, filter, sum_by}
use Rattle.std.specs.List.{range_with_len}
use Rattle.qx_geom.specs.Positions.{HasPosition, Shape, at_level, has_position}
use Rattle.qx_geom.specs.Touch.{is_touched, need_of}
use Rattle.qx_geom.proofs.laws.the_need_depends_on_old_positions.Goals as goal

-- where a position is old, its block's privacy counts, and else it doesn't
same_fresh : (h t a b : Bool) → (h ≡ true → a ≡ b) → (not h || (t && not a)) ≡ (not h || (t && not b))
same_fresh true t a b same = ap (λ x. t && not x) (same refl)
same_fresh false t a b same = refl

same_need : (blocksize : ℕ) (old new : Shape) (written : List ℕ) (p q : ℕ → ℕ → Bool) → ((k j : ℕ) → HasPosition blocksize old k j → p k j ≡ q k j)
    → need_of blocksize old new written p ≡ need_of blocksize old new written q
unfolding need_of
same_need blocksize old new written p q same = λ i.
    sum_by (λ k. length (filter (λ j. same_fresh (has_position blocksize old k j) (is_touched blocksize old new written k j) (p k j) (q k j) (same k j) i) (at_level blocksize new k))) (range_with_len 0 (new.levels + 1))

pub returns : goal.returns
returns c = λ blocksize old new written p q same. same_need blocksize old new written p q same
