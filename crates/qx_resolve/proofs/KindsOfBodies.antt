-- What an inode's kind says of its entry in the tree, and where a name leads.
use Rattle.std.proofs.Common.{◌≢◌, ◌≡◌, ℕ, ◌<◌, List, refl, sym, ◌∙◌, ap, subst}
use Rattle.std.specs.Prelude.{Bool, true, false, Option, Some, Ok, Err, ok_or, bytes_eq, if◌then◌else◌, is_some}
use Rattle.qx_records.specs.declared.inode.Inode.{Inode}
use Rattle.qx_records.specs.declared.kind.Kind.{Kind}
use Rattle.qx_records.specs.declared.kind.Kind.TheVariants as kinds
use Rattle.qx_records.specs.InodeRecord.{kind_of}
use Rattle.qx_model.specs.declared.refusal.Refusal.TheVariants as refusals
use Rattle.qx_model.specs.Tree.{Body, Directory, dot_name, dots_name, Entry, File, Link, Slot, Special, Tree, entry_of}
use Rattle.qx_model.specs.declared.attr.Attr.{Attr}
use Rattle.qx_model.specs.Directories.{inode_named, parent_of_body}
use Rattle.qx_model.specs.Outcomes.{◌>>=◌}
use Rattle.qx_model.specs.Paths as paths
use Rattle.qx_view.specs.Entries.{HasContent, Holds, IsBody, IsEntryOf, Reader}
use Rattle.qx_nodes.specs.NodeContents.{NodeContent, bytes_in}

-- a body of a kind
abbrev pub IsOf : Kind → Body → Type 0
IsOf kinds.Directory (Directory slots parent) = Unit {0}
IsOf kinds.File (File content) = Unit {0}
IsOf kinds.Link (Link target) = Unit {0}
IsOf kinds.Special Special = Unit {0}
IsOf kind body = ⊥

-- bytes that are a body are one of the kind
of_kind : (r : Reader) (c : NodeContent) (k : Kind) (b : Body) → k ≢ kinds.Special → IsBody r c k b → IsOf k b
of_kind r c kinds.Directory (Directory slots parent) some h = tt
of_kind r c kinds.Directory (File content) some h = absurd h
of_kind r c kinds.Directory (Link target) some h = absurd h
of_kind r c kinds.Directory Special some h = absurd h
of_kind r c kinds.File (File content) some h = tt
of_kind r c kinds.File (Directory slots parent) some h = absurd h
of_kind r c kinds.File (Link target) some h = absurd h
of_kind r c kinds.File Special some h = absurd h
of_kind r c kinds.Link (Link target) some h = tt
of_kind r c kinds.Link (Directory slots parent) some h = absurd h
of_kind r c kinds.Link (File content) some h = absurd h
of_kind r c kinds.Link Special some h = absurd h
of_kind r c kinds.Special b some h = absurd (some refl)

-- so is what an inode holds
pub body_of_kind : (r : Reader) (i : Inode) (c : NodeContent) (e : Entry) (k : Kind) → kind_of i.mode ≡ Some k → IsEntryOf r i c e → IsOf k e.body
body_of_kind r i c e k is means = held k (subst (λ x. Holds r c x e) same means.holds)
  where
    same : means.kind ≡ k
    same = (let both : Some means.kind ≡ Some k = sym means.kind_is ∙ ap (λ (a : Attr). kind_of a.mode) means.attr ∙ is in cc)

    held : (k : Kind) → Holds r c k e → IsOf k e.body
    held kinds.Directory h = of_kind r c kinds.Directory e.body (λ x. absurd (cc)) h.body
    held kinds.File h = of_kind r c kinds.File e.body (λ x. absurd (cc)) h.body
    held kinds.Link h = of_kind r c kinds.Link e.body (λ x. absurd (cc)) h.body
    held kinds.Special h = subst (IsOf kinds.Special) (sym h.body) tt

-- an inode that is no link, or a link that isn't followed, is led to
pub leads_to : (t : Tree) (follow : Bool) (n : ℕ) (e : Entry) → entry_of t n ≡ Some e → (follow ≡ true → IsOf kinds.Link e.body → ⊥) → paths.lead_to t follow n ≡ Ok (paths.To n)
leads_to t follow n e is other = ap (λ o. ok_or o refusals.NoEntry >>= λ (x : Entry). Ok (paths.lead_by follow n x.body)) is ∙ ap (λ l. Ok l) (by follow e.body other)
  where
    by : (follow : Bool) (b : Body) → (follow ≡ true → IsOf kinds.Link b → ⊥) → paths.lead_by follow n b ≡ paths.To n
    by true (Link target) other = absurd (other refl tt)
    by false (Link target) other = refl
    by true (Directory slots parent) other = refl
    by false (Directory slots parent) other = refl
    by true (File content) other = refl
    by false (File content) other = refl
    by true Special other = refl
    by false Special other = refl

-- a followed link is led through
pub leads_through : (t : Tree) (n : ℕ) (e : Entry) → entry_of t n ≡ Some e → IsOf kinds.Link e.body → (target : List ℕ) × (e.body ≡ Link target) × (paths.lead_to t true n ≡ Ok (paths.Through target))
leads_through t n e is link = by e.body refl link
  where
    by : (b : Body) → e.body ≡ b → IsOf kinds.Link b → (target : List ℕ) × (e.body ≡ Link target) × (paths.lead_to t true n ≡ Ok (paths.Through target))
    by (Link target) b h = (target, b, ap (λ o. ok_or o refusals.NoEntry >>= λ (x : Entry). Ok (paths.lead_by true n x.body)) is ∙ ap (λ x. Ok (paths.lead_by true n x)) b)
    by (Directory slots parent) b h = absurd h
    by (File content) b h = absurd h
    by Special b h = absurd h

-- from what is no directory no name leads on
pub leads_nowhere : (t : Tree) (follow : Bool) (at : ℕ) (name : List ℕ) (e : Entry) → entry_of t at ≡ Some e → (IsOf kinds.Directory e.body → ⊥) → paths.lead t follow at name ≡ Err refusals.NotDir
leads_nowhere t follow at name e is other = ap (λ o. ok_or o refusals.NoEntry >>= λ (x : Entry). paths.lead_from t follow at name x.body) is ∙ by e.body other
  where
    by : (b : Body) → (IsOf kinds.Directory b → ⊥) → paths.lead_from t follow at name b ≡ Err refusals.NotDir
    by (Directory slots parent) other = absurd (other tt)
    by (File content) other = refl
    by (Link target) other = refl
    by Special other = refl

-- from a directory a name leads on
pub leads_in : (t : Tree) (follow : Bool) (at : ℕ) (name : List ℕ) (e : Entry) → entry_of t at ≡ Some e → IsOf kinds.Directory e.body → (slots : List Slot) × (parent : ℕ) × (e.body ≡ Directory slots parent) × (paths.lead t follow at name ≡ paths.lead_in t follow at parent name)
leads_in t follow at name e is dir = by e.body refl dir
  where
    by : (b : Body) → e.body ≡ b → IsOf kinds.Directory b → (slots : List Slot) × (parent : ℕ) × (e.body ≡ Directory slots parent) × (paths.lead t follow at name ≡ paths.lead_in t follow at parent name)
    by (Directory slots parent) b h = (slots, parent, b, ap (λ o. ok_or o refusals.NoEntry >>= λ (x : Entry). paths.lead_from t follow at name x.body) is ∙ ap (λ x. paths.lead_from t follow at name x) b)
    by (File content) b h = absurd h
    by (Link target) b h = absurd h
    by Special b h = absurd h

-- the bytes of a link's content are its target
pub target_of_link : (r : Reader) (i : Inode) (c : NodeContent) (e : Entry) (target : List ℕ) → kind_of i.mode ≡ Some kinds.Link → IsEntryOf r i c e → e.body ≡ Link target → (target ≡ bytes_in r.blocksize c) × (0 < c.size) × (c.size < 1024)
target_of_link r i c e target is means body = held (subst (λ x. Holds r c x e) same means.holds)
  where
    same : means.kind ≡ kinds.Link
    same = (let both : Some means.kind ≡ Some kinds.Link = sym means.kind_is ∙ ap (λ (a : Attr). kind_of a.mode) means.attr ∙ is in cc)

    held : HasContent r c kinds.Link e → (target ≡ bytes_in r.blocksize c) × (0 < c.size) × (c.size < 1024)
    held h = subst (IsBody r c kinds.Link) body h.body

-- a body of a kind is that of an inode of this kind
pub kind_of_body : (r : Reader) (i : Inode) (c : NodeContent) (e : Entry) → IsEntryOf r i c e → IsOf kinds.Link e.body → kind_of i.mode ≡ Some kinds.Link
kind_of_body r i c e means link = ap (λ (a : Attr). kind_of a.mode) (sym means.attr) ∙ means.kind_is ∙ ap (λ (k : Kind). Some k) (by means.kind e.body refl link means.holds)
  where
    by : (k : Kind) (b : Body) → e.body ≡ b → IsOf kinds.Link b → Holds r c k e → k ≡ kinds.Link
    by kinds.Link b is l h = refl
    by k (Directory slots parent) is l h = absurd l
    by k (File content) is l h = absurd l
    by k Special is l h = absurd l
    by kinds.Directory (Link target) is l h = absurd (subst (IsBody r c kinds.Directory) is h.body)
    by kinds.File (Link target) is l h = absurd (subst (IsBody r c kinds.File) is h.body)
    by kinds.Special (Link target) is l h = absurd (subst (IsOf kinds.Special) (sym h.body ∙ is) tt)

pub kind_of_directory : (r : Reader) (i : Inode) (c : NodeContent) (e : Entry) → IsEntryOf r i c e → IsOf kinds.Directory e.body → kind_of i.mode ≡ Some kinds.Directory
kind_of_directory r i c e means dir = ap (λ (a : Attr). kind_of a.mode) (sym means.attr) ∙ means.kind_is ∙ ap (λ (k : Kind). Some k) (by means.kind e.body refl dir means.holds)
  where
    by : (k : Kind) (b : Body) → e.body ≡ b → IsOf kinds.Directory b → Holds r c k e → k ≡ kinds.Directory
    by kinds.Directory b is l h = refl
    by k (Link target) is l h = absurd l
    by k (File content) is l h = absurd l
    by k Special is l h = absurd l
    by kinds.Link (Directory slots parent) is l h = absurd (subst (IsBody r c kinds.Link) is h.body)
    by kinds.File (Directory slots parent) is l h = absurd (subst (IsBody r c kinds.File) is h.body)
    by kinds.Special (Directory slots parent) is l h = absurd (subst (IsOf kinds.Special) (sym h.body ∙ is) tt)

-- ---- names in a directory

-- `..` leads to the parent
pub dots_lead : (t : Tree) (follow : Bool) (d p : ℕ) (name : List ℕ) → bytes_eq name dot_name ≡ false → bytes_eq name dots_name ≡ true → paths.lead_in t follow d p name ≡ Ok (paths.To p)
dots_lead t follow d p name other is =
    ap (λ b. if b then Ok (paths.To d) else if bytes_eq name dots_name then Ok (paths.To p) else (ok_or (inode_named t d name) refusals.NoEntry >>= paths.lead_to t follow)) other
    ∙ ap (λ b. if b then Ok (paths.To p) else (ok_or (inode_named t d name) refusals.NoEntry >>= paths.lead_to t follow)) is

-- any other name leads to the inode that has it
pub name_leads_by : (t : Tree) (follow : Bool) (d p : ℕ) (name : List ℕ) → bytes_eq name dot_name ≡ false → bytes_eq name dots_name ≡ false → (o : Option ℕ) → o ≡ inode_named t d name
    → paths.lead_in t follow d p name ≡ (ok_or o refusals.NoEntry >>= paths.lead_to t follow)
name_leads_by t follow d p name other others o is =
    ap (λ b. if b then Ok (paths.To d) else if bytes_eq name dots_name then Ok (paths.To p) else (ok_or (inode_named t d name) refusals.NoEntry >>= paths.lead_to t follow)) other
    ∙ ap (λ b. if b then Ok (paths.To p) else (ok_or (inode_named t d name) refusals.NoEntry >>= paths.lead_to t follow)) others
    ∙ ap (λ x. ok_or x refusals.NoEntry >>= paths.lead_to t follow) (sym is)

-- ---- parents

-- a directory alone has a parent
pub has_parent : (b : Body) → IsOf kinds.Directory b → is_some (parent_of_body b) ≡ true
has_parent (Directory slots parent) d = refl
has_parent (File content) d = absurd d
has_parent (Link target) d = absurd d
has_parent Special d = absurd d

pub has_no_parent : (b : Body) → (IsOf kinds.Directory b → ⊥) → is_some (parent_of_body b) ≡ false
has_no_parent (Directory slots parent) other = absurd (other tt)
has_no_parent (File content) other = refl
has_no_parent (Link target) other = refl
has_no_parent Special other = refl
