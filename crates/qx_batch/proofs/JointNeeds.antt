-- How many blocks several planned changes take, one after another.
use Rattle.std.proofs.Common.{◌≡◌, ℕ, ◌+◌, ◌<◌, ◌≤◌, List, [], ◌∷◌, ◌++◌, length, take, drop, get_or, sym, ◌∙◌, ap, subst, arith, zero-add}
use Rattle.std.specs.Prelude.{Contains}
use Rattle.std.proofs.lemmas.List.{take-append-drop, take_more}
use Rattle.std.proofs.lemmas.List.Elements.{Contains-append_left, Contains-append_right}
use Rattle.std.proofs.lemmas.List.Sums.{sum_by-append}
use Rattle.qx_fields.specs.declared.order.Order.{Order}
use Rattle.qx_geom.proofs.Members.{Contains-head}
use Rattle.qx_blocks.specs.BlockState.{BlockState}
use Rattle.qx_ptree.specs.Alterations.{fresh_count}
use Rattle.qx_batch.specs.declared.planned.Planned.{Planned}
use Rattle.qx_batch.specs.Plans.{need_of_all, plan_alteration}

-- the first ones and the next
pub one_more : (ps : List Planned) (i : ℕ) (p : Planned) → i < length ps → p ≡ get_or ps i p → take (i + 1) ps ≡ take i ps ++ p ∷ []
one_more ps i p low is = take_more ps i p low ∙ ap (λ x. take i ps ++ x ∷ []) (sym is)

-- the next is among all
pub at_place : (ps : List Planned) (i : ℕ) (p : Planned) → i < length ps → p ≡ get_or ps i p → Contains ps p
at_place ps i p low is = subst (λ xs. Contains xs p) (take-append-drop (i + 1) ps)
    (Contains-append_left (take (i + 1) ps) (drop (i + 1) ps) p
    (subst (λ xs. Contains xs p) (sym (one_more ps i p low is)) (Contains-append_right (take i ps) (p ∷ []) p (Contains-head p []))))

-- the need of one more
pub need_next : (order : Order) (m : BlockState) (ps : List Planned) (i : ℕ) (p : Planned) → i < length ps → p ≡ get_or ps i p
    → need_of_all order m (take (i + 1) ps) ≡ need_of_all order m (take i ps) + fresh_count (plan_alteration order m p)
need_next order m ps i p low is =
    let f : Planned → ℕ = λ p. fresh_count (plan_alteration order m p) in
    ap (need_of_all order m) (one_more ps i p low is) ∙ sum_by-append f (take i ps) (p ∷ []) ∙ ap (λ n. need_of_all order m (take i ps) + n) (zero-add (f p))

-- the first ones and the next need no more than all
pub need_within : (order : Order) (m : BlockState) (ps : List Planned) (i : ℕ) (p : Planned) → i < length ps → p ≡ get_or ps i p
    → need_of_all order m (take i ps) + fresh_count (plan_alteration order m p) ≤ need_of_all order m ps
need_within order m ps i p low is =
    let f : Planned → ℕ = λ p. fresh_count (plan_alteration order m p) in
    let whole : need_of_all order m ps ≡ need_of_all order m (take (i + 1) ps) + need_of_all order m (drop (i + 1) ps) = ap (need_of_all order m) (sym (take-append-drop (i + 1) ps)) ∙ sum_by-append f (take (i + 1) ps) (drop (i + 1) ps) in
    omega (arith, whole, need_next order m ps i p low is)
