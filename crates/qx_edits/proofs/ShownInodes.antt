-- What is shown once an inode comes, goes or gets other attributes, and once a file gets other bytes.
use Rattle.std.proofs.Common.{◌≡◌, ◌≢◌, ℕ, zero, suc, ◌/◌, ◌<◌, ◌≤◌, ◌⊎◌, List, [], length, inl, inr, refl, sym, ◌∙◌, ap, subst, arith}
use Rattle.std.specs.Prelude.{Bool, true, false, ◌==◌, Option, Some, None, count_by, option_map, if◌then◌else◌}
use Rattle.std.proofs.lemmas.Bool.{cases_lt, eq-eqb, ne_eqb}
use Rattle.qx_fields.specs.declared.order.Order.{Order}
use Rattle.qx_geom.specs.Pointer.{ceil_div}
use Rattle.qx_geom.specs.Positions.{present_after}
use Rattle.qx_nodes.specs.NodeContents.{IsSameContent, NodeContent, bytes_in}
use Rattle.qx_records.specs.declared.inode.Inode.{Inode}
use Rattle.qx_records.specs.declared.kind.Kind.{Kind}
use Rattle.qx_records.specs.declared.kind.Kind.TheVariants as kinds
use Rattle.qx_model.specs.declared.attr.Attr.{Attr}
use Rattle.qx_model.specs.Answering.{FileAt}
use Rattle.qx_model.specs.Contents.{rewriting, with_content}
use Rattle.qx_model.specs.Directories.{is_bare, is_live, parent_of_body, with_entry}
use Rattle.qx_model.specs.Edits.{Edit, Setting, altering, attr_changed, content_changed, lose_row, putting, unchanged, with_attr}
use Rattle.qx_model.specs.Tree.{Entry, File, Tree, entry_of, is_link, links_of, slots_of, slots_of_body, slots_of_entry}
use Rattle.qx_model.proofs.EditOutlines.{HasPlace, live_place}
use Rattle.qx_model.proofs.Outlines.{set_past}
use Rattle.qx_model.proofs.WholeRows.{entry_altered}
use Rattle.qx_view.specs.Entries.{HasContent, Holds, IsEntryOf, Reader}
use Rattle.qx_view.proofs.EntryContents.{entry_alike, holds_kind, kind_in}
use Rattle.qx_copies.specs.Copies.{Contents, inode_at}
use Rattle.qx_copies.specs.Shown.{IsSameInode, SetsInode, Shows, reader_by}
use Rattle.qx_copies.proofs.ShownEntries.{shows_set}
use Rattle.qx_working.specs.declared.links.Link.{Link}
use Rattle.qx_working.specs.Links.{HasLinks}
use Rattle.qx_edits.specs.SetInodes.{SetsAttr}
use Rattle.qx_edits.proofs.DirectoryEntries.{kind_by_top}
use Rattle.qx_edits.proofs.LinkedRows.{live_entry}
use Rattle.qx_edits.proofs.NamedLinks.{count_none, links_keep}
use Rattle.qx_edits.proofs.RowTrees.{entry_twice}

-- ---- the inode of a number

-- an inode that is there is an entry's
pub record HasEntry (r : Reader) (i : Inode) (c : NodeContent) (t : Tree) (n : ℕ) : Type 0 where
  pub entry : Entry
  pub live : entry_of t n ≡ Some entry
  pub is : IsEntryOf r i c entry

pub has_entry : (order : Order) (blocksize : ℕ) (inodes : List (Option Inode)) (contents : Contents) (t : Tree) (n : ℕ) (i : Inode) → Shows order blocksize inodes contents t → inode_at inodes n ≡ Some i
    → HasEntry (reader_by order blocksize (contents 0)) i (contents n) t n
has_entry order blocksize inodes contents t zero i shows there = absurd (cc)
has_entry order blocksize inodes contents t (suc k) i shows there = go (entry_of t (suc k)) refl (subst (λ x. IsSameInode (reader_by order blocksize (contents 0)) (contents (suc k)) x (entry_of t (suc k))) there (shows.each (suc k) (omega arith)))
  where
    go : (o : Option Entry) → entry_of t (suc k) ≡ o → IsSameInode (reader_by order blocksize (contents 0)) (contents (suc k)) (Some i) o → HasEntry (reader_by order blocksize (contents 0)) i (contents (suc k)) t (suc k)
    go None is h = absurd h
    go (Some x) is h = record { entry = x; live = is; is = h }

-- a live number has a place among the inodes
module _ (t : Tree) (n : ℕ) (x : Entry) (live : entry_of t n ≡ Some x) where
  pub live_from : 1 ≤ n
  live_from = let p = live_place t n x live in let is = p.is in omega (arith, is)

  pub live_within : (count : ℕ) → length t.inodes ≡ count → n ≤ count
  live_within count places = let p = live_place t n x live in let is = p.is in let low = p.within in omega (arith, is, low, places)

-- ---- other attributes

holds_attr : (r : Reader) (c : NodeContent) (kind : Kind) (x : Entry) (a : Attr) → Holds r c kind x → Holds r c kind (record x { attr = a })
holds_attr r c kinds.Directory x a h = record { size = h.size; present = h.present; body = h.body }
holds_attr r c kinds.File x a h = record { size = h.size; present = h.present; body = h.body }
holds_attr r c kinds.Link x a h = record { size = h.size; present = h.present; body = h.body }
holds_attr r c kinds.Special x a h = record { size = h.size; present = h.present; body = h.body }

pub attr_shown : (order : Order) (blocksize : ℕ) (before after : List (Option Inode)) (old new : Contents) (e : Edit) (n : ℕ) (change : Attr → Attr)
    → 0 < blocksize → Shows order blocksize before old e.tree → ((a : Attr) → (change a).mode / 4096 ≡ a.mode / 4096)
    → SetsAttr before after n change → ((o : ℕ) → IsSameContent blocksize (old o) (new o)) → Shows order blocksize after new (with_attr n change e).tree
attr_shown order blocksize before after old new e n change pos shows keeps sets same =
    let has = has_entry order blocksize before old e.tree n sets.old shows sets.was in
    let x : Entry = has.entry in
    let r = reader_by order blocksize (old 0) in
    let was = entry_alike r sets.old (old n) (new n) x pos (λ own. same n) has.is in
    let now : IsEntryOf r sets.new (new n) (record x { attr = change x.attr }) =
    record { attr = ap change was.attr ∙ sym sets.attr; kind = was.kind; kind_is = kind_by_top (change x.attr).mode x.attr.mode (keeps x.attr) ∙ was.kind_is; holds = holds_attr r (new n) was.kind x (change x.attr) was.holds } in
    subst (λ o. Shows order blocksize after new (with_entry e.tree n (option_map (λ (z : Entry). record z { attr = change z.attr }) o))) (sym has.live)
    (shows_set order blocksize before after old new e.tree n (Some sets.new) (Some (record x { attr = change x.attr })) pos (live_from e.tree n x has.live) (live_within e.tree n x has.live (length before) shows.places) shows sets.sets
    (λ o ne. same o) now)

-- a number has a place, or nothing that is set there changes the tree
place_or : (t : Tree) (n : ℕ) → HasPlace t n ⊎ ((y : Option Entry) → with_entry t n y ≡ t)
place_or t zero = inr (λ y. refl)
place_or t (suc k) = elim (cases_lt k (length t.inodes)) [
  | inl low ↦ inl (record { index = k; is = refl; within = low })
  | inr past ↦ inr (λ y. ap (λ xs. let u : Tree = record t { inodes = xs } in u) (set_past t.inodes k y past))
]

pub attr_links : (links : List Link) (e : Edit) (n : ℕ) (change : Attr → Attr) → HasLinks links e.tree → HasLinks links (with_attr n change e).tree
attr_links links e n change has = elim (place_or e.tree n) [
  | inr same ↦ subst (λ t. HasLinks links t) (sym (same (option_map (λ (z : Entry). record z { attr = change z.attr }) (entry_of e.tree n)))) has
  | inl place ↦ go (entry_of e.tree n) refl place
]
  where
    go : (o : Option Entry) → entry_of e.tree n ≡ o → HasPlace e.tree n → HasLinks links (with_entry e.tree n (option_map (λ (z : Entry). record z { attr = change z.attr }) o))
    go None is place = links_keep links e.tree n has None (λ m. ap (λ o. count_by (is_link m) (slots_of_entry o)) (sym is)) (λ z h. absurd (cc)) place
    go (Some x) is place =
        links_keep links e.tree n has (Some (record x { attr = change x.attr })) (λ m. ap (λ o. count_by (is_link m) (slots_of_entry o)) (sym is))
        (λ z h. (let same : record x { attr = change x.attr } ≡ z = cc in (x, is, ap (λ (w : Entry). parent_of_body w.body) (sym same)))) place

-- ---- an inode that lost a row

module _ (s : Setting) (e : Edit) (n : ℕ) where
  -- what becomes of it, by the test
  lost_by : Bool → Tree
  lost_by b = (if b then putting n None e else with_attr n (attr_changed s.moment) e).tree

  pub gone_shown : (order : Order) (before after : List (Option Inode)) (old new : Contents) → 0 < s.blocksize → Shows order s.blocksize before old e.tree
      → is_live e.tree n ≡ true → links_of e.tree n ≡ 0 → SetsInode before after n None → ((o : ℕ) → o ≢ n → IsSameContent s.blocksize (old o) (new o))
      → Shows order s.blocksize after new (lose_row s n e).tree
  unfolding lost_by
  gone_shown order before after old new pos shows live none sets others =
      let x = live_entry e.tree n live in
      subst (λ b. Shows order s.blocksize after new (lost_by b)) (sym (eq-eqb (links_of e.tree n) 0 none))
      (shows_set order s.blocksize before after old new e.tree n None None pos (live_from e.tree n x.0 x.1) (live_within e.tree n x.0 x.1 (length before) shows.places) shows sets others tt)

  pub stays_shown : (order : Order) (before after : List (Option Inode)) (old new : Contents) → 0 < s.blocksize → Shows order s.blocksize before old e.tree
      → 0 < links_of e.tree n → SetsAttr before after n (attr_changed s.moment) → ((o : ℕ) → IsSameContent s.blocksize (old o) (new o))
      → Shows order s.blocksize after new (lose_row s n e).tree
  unfolding lost_by
  stays_shown order before after old new pos shows some sets same =
      subst (λ b. Shows order s.blocksize after new (lost_by b)) (sym (ne_eqb (links_of e.tree n) 0 (λ z. omega (arith, z, some))))
      (attr_shown order s.blocksize before after old new e n (attr_changed s.moment) pos shows (λ a. refl) sets same)

  pub lost_links : (links : List Link) → is_live e.tree n ≡ true → is_bare e.tree n ≡ true → HasLinks links e.tree → HasLinks links (lose_row s n e).tree
  unfolding lost_by
  lost_links links live bare has = go (links_of e.tree n == 0)
    where
      go : (b : Bool) → HasLinks links ((if b then putting n None e else with_attr n (attr_changed s.moment) e).tree)
      go false = attr_links links e n (attr_changed s.moment) has
      go true = let x = live_entry e.tree n live in links_keep links e.tree n has None (λ m. sym (count_none m (slots_of e.tree n) bare)) (λ z h. absurd (cc)) (live_place e.tree n x.0 x.1)

-- ---- a file with other bytes

module _ (s : Setting) (t : Tree) (f : FileAt) (size : ℕ) (content leaves : List ℕ) (live : entry_of t f.inode ≡ Some f.entry) (body : f.entry.body ≡ File f.content) where
  -- its entry
  abbrev pub rewritten_entry : Entry
  rewritten_entry = record (with_content s.blocksize size content leaves f.entry) { attr = content_changed s.moment (let x = f.entry in x.attr) }

  rewriting_is_set : (rewriting s t f size content leaves).tree ≡ with_entry t f.inode (Some rewritten_entry)
  rewriting_is_set =
      ap (λ o. with_entry (altering f.inode (with_content s.blocksize size content leaves) (unchanged t)).tree f.inode (option_map (λ (x : Entry). record x { attr = content_changed s.moment x.attr }) o))
      (entry_altered f.inode (with_content s.blocksize size content leaves) (unchanged t) f.entry live)
      ∙ entry_twice t f.inode (option_map (with_content s.blocksize size content leaves) (entry_of t f.inode)) (Some rewritten_entry)

  pub rewritten_shown : (order : Order) (before after : List (Option Inode)) (old new : Contents) → 0 < s.blocksize → Shows order s.blocksize before old t
      → SetsAttr before after f.inode (content_changed s.moment) → ((o : ℕ) → o ≢ f.inode → IsSameContent s.blocksize (old o) (new o))
      → (new f.inode).size ≡ size → (new f.inode).present ≡ present_after (old f.inode).present (ceil_div size s.blocksize) leaves None → bytes_in s.blocksize (new f.inode) ≡ content
      → Shows order s.blocksize after new (rewriting s t f size content leaves).tree
  rewritten_shown order before after old new pos shows sets others long present bytes =
      subst (λ u. Shows order s.blocksize after new u) (sym rewriting_is_set)
      (shows_set order s.blocksize before after old new t f.inode (Some sets.new) (Some rewritten_entry) pos (live_from t f.inode f.entry live) (live_within t f.inode f.entry live (length before) shows.places) shows sets.sets others now)
    where
      r : Reader
      r = reader_by order s.blocksize (old 0)

      was : IsEntryOf (reader_by order s.blocksize (old 0)) sets.old (old f.inode) f.entry
      was = let has = has_entry order s.blocksize before old t f.inode sets.old shows sets.was in
          let both : Some has.entry ≡ Some f.entry = sym has.live ∙ live in
          let same : has.entry ≡ f.entry = cc in
          subst (λ x. IsEntryOf (reader_by order s.blocksize (old 0)) sets.old (old f.inode) x) same has.is

      kind : was.kind ≡ kinds.File
      kind = holds_kind (reader_by order s.blocksize (old 0)) (old f.inode) was.kind f.entry was.holds ∙ ap (λ b. kind_in b) body

      had : HasContent (reader_by order s.blocksize (old 0)) (old f.inode) kinds.File f.entry
      had = subst (λ k. Holds (reader_by order s.blocksize (old 0)) (old f.inode) k f.entry) kind was.holds

      now : IsEntryOf (reader_by order s.blocksize (old 0)) sets.new (new f.inode) rewritten_entry
      now = record {
        attr = ap (content_changed s.moment) was.attr ∙ sym sets.attr;
        kind = kinds.File;
        kind_is = was.kind_is ∙ ap (λ k. Some k) kind;
        holds = record { size = sym long; present = ap (λ ps. present_after ps (ceil_div size s.blocksize) leaves None) had.present ∙ sym present; body = sym bytes };
      }

  pub rewritten_links : (links : List Link) → HasLinks links t → HasLinks links (rewriting s t f size content leaves).tree
  rewritten_links links has =
      subst (λ u. HasLinks links u) (sym rewriting_is_set)
      (links_keep links t f.inode has (Some rewritten_entry) (λ m. ap (count_by (is_link m)) (sym slots))
      (λ z h. (let same : rewritten_entry ≡ z = cc in (f.entry, live, ap (λ (w : Entry). parent_of_body w.body) (sym same) ∙ sym (ap parent_of_body body)))) (live_place t f.inode f.entry live))
    where
      slots : slots_of t f.inode ≡ []
      slots = ap slots_of_entry live ∙ ap slots_of_body body
