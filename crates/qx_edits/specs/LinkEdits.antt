-- Links of which one changes.
use Rattle.std.specs.Prelude.{◌≡◌, ℕ, ◌+◌, ◌-◌, true, List, is_none}
use Rattle.std.specs.List.{list_all}
use Rattle.qx_model.specs.Tree.{Entry, named_by, slots_of_body}
use Rattle.qx_working.specs.declared.links.Link.{Link}
use Rattle.qx_working.specs.Links.{link_of, with_link}

-- one more row names inode n
abbrev pub one_more : List Link → ℕ → List Link
one_more links n = let own = link_of links n in with_link links n (record own { rows = own.rows + 1 })

-- one row less names it
abbrev pub one_less : List Link → ℕ → List Link
one_less links n = let own = link_of links n in with_link links n (record own { rows = own.rows - 1 })

-- directory n is in another one
abbrev pub into_parent : List Link → ℕ → ℕ → List Link
into_parent links n parent = let own = link_of links n in with_link links n (record own { parent = parent })

-- an entry's rows are `.` and `..` at most
abbrev pub NamesNone : Entry → Type 0
NamesNone x = list_all (λ slot. is_none (named_by slot)) (slots_of_body x.body) ≡ true
