-- Links of which one is set: they are those of a tree whose other inodes are named as before.
use Rattle.std.proofs.Common.{◌≡◌, ◌≢◌, ℕ, zero, suc, ◌<◌, ◌≤◌, List, length, inl, inr, refl, sym, ◌∙◌, ap, subst, arith}
use Rattle.std.specs.Prelude.{Some}
use Rattle.std.proofs.lemmas.Bool.{cases_eq}
use Rattle.std.proofs.lemmas.List.{get_or-set_other, get_or-set_same, length-set}
use Rattle.qx_model.specs.Tree.{Entry, IsDirectory, Tree, entry_of, links_of}
use Rattle.qx_working.specs.declared.links.Link.{Link}
use Rattle.qx_working.specs.Links.{HasLinks, NamesAlike, link_of, no_link, with_link}

-- a link that is set is the number's
pub link_here : (links : List Link) (n : ℕ) (link : Link) → 1 ≤ n → n ≤ length links → link_of (with_link links n link) n ≡ link
link_here links zero link from within = absurd (omega (arith, from))
link_here links (suc k) link from within = get_or-set_same links k link no_link (omega (arith, within))

-- every other number has its own
pub link_beside : (links : List Link) (n m : ℕ) (link : Link) → m ≢ n → link_of (with_link links n link) m ≡ link_of links m
link_beside links zero m link differ = refl
link_beside links (suc k) zero link differ = refl
link_beside links (suc k) (suc j) link differ = get_or-set_other links k j link no_link (λ e. differ (ap suc e))

-- and there are as many
links_long : (links : List Link) (n : ℕ) (link : Link) → length (with_link links n link) ≡ length links
links_long links zero link = refl
links_long links (suc k) link = length-set links k link

-- so they are the tree's
pub links_set : (links : List Link) (t u : Tree) (n : ℕ) (link : Link) → 1 ≤ n → n ≤ length links → HasLinks links t → length u.inodes ≡ length t.inodes → NamesAlike t u n
    → ((e : Entry) → entry_of u n ≡ Some e → link.rows ≡ links_of u n) → ((p : ℕ) → IsDirectory u n p → link.parent ≡ p) → HasLinks (with_link links n link) u
links_set links t u n link from within has places alike rows parent = record {
  places = links_long links n link ∙ has.places ∙ sym places;
  rows = λ m e live. row m e live;
  parents = λ d p dir. up d p dir;
}
  where
    here : link_of (with_link links n link) n ≡ link
    here = link_here links n link from within

    row : (m : ℕ) (e : Entry) → entry_of u m ≡ Some e → (let l = link_of (with_link links n link) m in l.rows) ≡ links_of u m
    row m e live = elim (cases_eq m n) [
      | inl is ↦ ap (λ k. let l = link_of (with_link links n link) k in l.rows) is ∙ ap (λ (l : Link). l.rows) here ∙ rows e (ap (entry_of u) (sym is) ∙ live) ∙ ap (links_of u) (sym is)
      | inr ne ↦ (let old = alike.live m e ne live in ap (λ (l : Link). l.rows) (link_beside links n m link ne) ∙ has.rows m old.0 old.1 ∙ sym (alike.links m ne))
    ]

    up : (d p : ℕ) → IsDirectory u d p → (let l = link_of (with_link links n link) d in l.parent) ≡ p
    up d p dir = elim (cases_eq d n) [
      | inl is ↦ ap (λ k. let l = link_of (with_link links n link) k in l.parent) is ∙ ap (λ (l : Link). l.parent) here ∙ parent p (subst (λ k. IsDirectory u k p) is dir)
      | inr ne ↦ ap (λ (l : Link). l.parent) (link_beside links n d link ne) ∙ has.parents d p (alike.directories d p ne dir)
    ]
