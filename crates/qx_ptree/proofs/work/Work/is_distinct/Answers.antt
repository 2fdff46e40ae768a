-- The blocks are joined, put in order, and looked at side by side.
use Rattle.std.proofs.Common.{◌≡◌, ℕ, List, [], ◌++◌, ◌∙◌, ap, append_assoc}
use Rattle.qx_ptree.specs.WorkState.{all_blocks}
use Rattle.qx_ptree.proofs.DistinctBlocks.{twins_tell}
use Rattle.qx_ptree.proofs.work.Work.is_distinct.Goals as goal

-- three lists are joined one after another
joined : (a b c none x y z : List ℕ) → none ≡ [] → x ≡ none ++ a → y ≡ x ++ b → z ≡ y ++ c → z ≡ a ++ (b ++ c)
joined a b c none x y z is first second third = third ∙ ap (λ l. l ++ c) (second ∙ ap (λ l. l ++ b) (first ∙ ap (λ l. l ++ a) is)) ∙ append_assoc a b c

pub returns-clause-distinct : goal.returns-clause-distinct
returns-clause-distinct c =
    let whole : c.extend_from_slice-3.new.self.items ≡ c.self.inside.fresh.items ++ (c.self.inside.kept.items ++ c.self.inside.released.items) =
    joined c.self.inside.fresh.items c.self.inside.kept.items c.self.inside.released.items c.new-blocks.result.items c.extend_from_slice.new.self.items c.extend_from_slice-2.new.self.items c.extend_from_slice-3.new.self.items
    c.new-blocks.ensures.items
    (c.in_ok-extend_from_slice.ensures.items ∙ ap (λ (l : List ℕ). c.new-blocks.result.items ++ l) c.deref.ensures.value)
    (c.in_ok-extend_from_slice-2.ensures.items ∙ ap (λ (l : List ℕ). c.extend_from_slice.new.self.items ++ l) c.deref-2.ensures.value)
    (c.in_ok-extend_from_slice-3.ensures.items ∙ ap (λ (l : List ℕ). c.extend_from_slice-2.new.self.items ++ l) c.deref-3.ensures.value) in
    twins_tell (all_blocks c.args.self.now) c.extend_from_slice-3.new.self.items c.sort_unstable.new.self.items c.have_no_twins.result (whole ∙ ap all_blocks c.self.view_is)
    c.sort_unstable.ensures.permutation c.sort_unstable.ensures.sorted (rw c.deref-4.ensures.value at c.have_no_twins.ensures)
