use Rattle.std.proofs.Common.{List, rules, subst}
use Rattle.std.specs.List.Sorted.{IsBinarySearchResult}
use Rattle.std.specs.Ordering.{nat_cmp}
use Rattle.std.proofs.lemmas.List.Sorted.{answers_always}
use Rattle.qx_tables.specs.declared.long_names.LongLeaf.{LongLeaf}
use Rattle.qx_tables.proofs.LongLeaves.{search_found, search_none}
use Rattle.qx_tables.proofs.long_names.LongNames.place.Goals as goal

pub returns-clause-found : goal.returns-clause-found
returns-clause-found c =
    let at : IsBinarySearchResult (λ (l : LongLeaf). nat_cmp l.place.index c.args.number) c.args.self.now.leaves.items c.binary_search_by_key.result
    = subst (λ n. IsBinarySearchResult (λ (l : LongLeaf). nat_cmp l.place.index n) c.args.self.now.leaves.items c.binary_search_by_key.result) c.from.ensures
    (subst (λ (ls : List LongLeaf). IsBinarySearchResult (λ (l : LongLeaf). nat_cmp l.place.index c.from.result) ls c.binary_search_by_key.result) c.deref.ensures.value
    (c.binary_search_by_key.ensures.position (λ (l : LongLeaf). l.place.index) (answers_always _ _ _ (λ f a r f' k. search rules)))) in
    rw c.ok.ensures.value (search_found c.args.self.now.leaves.items c.args.number c.binary_search_by_key.result at)

pub returns-clause-none : goal.returns-clause-none
returns-clause-none c = λ up.
    let at : IsBinarySearchResult (λ (l : LongLeaf). nat_cmp l.place.index c.args.number) c.args.self.now.leaves.items c.binary_search_by_key.result
    = subst (λ n. IsBinarySearchResult (λ (l : LongLeaf). nat_cmp l.place.index n) c.args.self.now.leaves.items c.binary_search_by_key.result) c.from.ensures
    (subst (λ (ls : List LongLeaf). IsBinarySearchResult (λ (l : LongLeaf). nat_cmp l.place.index c.from.result) ls c.binary_search_by_key.result) c.deref.ensures.value
    (c.binary_search_by_key.ensures.position (λ (l : LongLeaf). l.place.index) (answers_always _ _ _ (λ f a r f' k. search rules)))) in
    rw c.ok.ensures.value (search_none c.args.self.now.leaves.items c.args.number c.binary_search_by_key.result at up)
