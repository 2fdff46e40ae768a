-- Edits that are written one after another.
use Rattle.std.proofs.Common.{◌≡◌, ℕ, suc, ◌+◌, ◌<◌, ◌≤◌, List, length, get_or, drop, drop-cons, map, sym, ◌∙◌, ap, subst, add-one}
use Rattle.std.specs.Prelude.{true, Contains, IsTrue}
use Rattle.std.proofs.lemmas.List.{drop_all, get_or-map, length-map}
use Rattle.qx_geom.specs.Lists.{is_in}
use Rattle.qx_blocks.specs.BlockState.{BlockState, with_bytes}
use Rattle.qx_ptree.specs.declared.work.Edit.{Edit}
use Rattle.qx_ptree.specs.declared.work.Work.TheInside.{Inside}
use Rattle.qx_ptree.specs.Takings.{LeavesOthers}
use Rattle.qx_ptree.specs.WorkState.{CanEdit, EditState, WorkState, with_edits}
use Rattle.qx_ptree.specs.WorkView.{edit_in, work_in}
use Rattle.qx_ptree.proofs.OtherBlocks.{LeavesOthers-with_edits}

-- the edits in memory are those of the work
pub edits_in : (work : WorkState) (a : Inside) (xs : List Edit) → work_in a ≡ work → xs ≡ a.edits.items → map edit_in xs ≡ work.edits
edits_in work a xs view is = ap (map edit_in) is ∙ ap (λ (w : WorkState). w.edits) view

-- each of them can be written
pub edit_can : (m : BlockState) (work : WorkState) (a : Inside) (xs : List Edit) (i : ℕ) (x : Edit) → work_in a ≡ work → xs ≡ a.edits.items → CanEdit m work → i < length xs → x ≡ get_or xs i x
    → IsTrue (m.holdings.ready x.block) × (length x.bytes.items ≡ m.holdings.size) × (is_in work.kept x.block ≡ true)
edit_can m work a xs i x view is can within at =
    can (edit_in x) (subst (λ (l : List EditState). Contains l (edit_in x)) (edits_in work a xs view is) (i, rw length-map within, get_or-map edit_in xs i x (edit_in x) within ∙ ap edit_in (sym at)))

-- the first of the edits that are left is written
pub with_edits-drop : (m : BlockState) (xs : List Edit) (i : ℕ) (x : Edit) → i < length xs → x ≡ get_or xs i x
    → with_edits m (map edit_in (drop i xs)) ≡ with_edits (with_bytes m x.block x.bytes.items) (map edit_in (drop (i + 1) xs))
with_edits-drop m xs i x within is =
    rw (add-one, drop-cons xs i x within)
    (ap (λ (y : Edit). with_edits (with_bytes m y.block y.bytes.items) (map edit_in (drop (suc i) xs))) (sym is))

-- once none is left, all blocks are as they were but those that stay
pub LeavesOthers-edits : (m n : BlockState) (work : WorkState) (a : Inside) (xs : List Edit) (i : ℕ) → work_in a ≡ work → xs ≡ a.edits.items → CanEdit m work → length xs ≤ i
    → with_edits n (map edit_in (drop i xs)) ≡ with_edits m (map edit_in xs) → LeavesOthers work.kept m n
LeavesOthers-edits m n work a xs i view is can past rest =
    let none : with_edits n (map edit_in (drop i xs)) ≡ n = ap (λ (l : List Edit). with_edits n (map edit_in l)) (drop_all i xs past) in
    subst (LeavesOthers work.kept m) (ap (with_edits m) (sym (edits_in work a xs view is)) ∙ sym rest ∙ none) (LeavesOthers-with_edits work.kept m work.edits (λ e h. (can e h).2))
