-- What an entry depends on: its node's content, as far as the leaves go that lie below the size, and long names by their numbers. Its kind is that of what it holds.
use Rattle.std.proofs.Common.{◌≡◌, ℕ, ◌+◌, ◌*◌, ◌/◌, ◌%◌, ◌<◌, List, refl, sym, ◌∙◌, ap, subst, arith}
use Rattle.std.specs.Prelude.{false, Option, Some, slice_index, slice_range}
use Rattle.qx_geom.proofs.LevelCounts.{part_below}
use Rattle.qx_geom.proofs.Members.{each_alike}
use Rattle.qx_geom.proofs.Truths.{true_or_false}
use Rattle.qx_nodes.specs.NodeContents.{IsSameContent, NodeContent, bytes_in}
use Rattle.qx_records.specs.declared.inode.Inode.{Inode}
use Rattle.qx_records.specs.declared.kind.Kind.{Kind}
use Rattle.qx_records.specs.declared.kind.Kind.TheVariants as kinds
use Rattle.qx_records.specs.NameRecord.{raw_in}
use Rattle.qx_model.specs.Tree.{Body, Directory, Entry, File, Link, Special, is_special_body}
use Rattle.qx_view.specs.Entries.{HasContent, Holds, IsBody, IsEntryOf, Reader, slot_by, slots_in}
use Rattle.qx_view.specs.Sound.{is_special_kind}

-- ---- kinds

-- the kind of what an inode holds
abbrev pub kind_in : Body → Kind
kind_in (Directory slots parent) = kinds.Directory
kind_in (File content) = kinds.File
kind_in (Link target) = kinds.Link
kind_in Special = kinds.Special

-- what a content of a kind is has that kind
body_kind : (r : Reader) (c : NodeContent) (kind : Kind) (body : Body) → IsBody r c kind body → kind ≡ kind_in body
body_kind r c kinds.Directory (Directory slots parent) b = refl
body_kind r c kinds.Directory (File content) b = absurd b
body_kind r c kinds.Directory (Link target) b = absurd b
body_kind r c kinds.Directory Special b = absurd b
body_kind r c kinds.File (Directory slots parent) b = absurd b
body_kind r c kinds.File (File content) b = refl
body_kind r c kinds.File (Link target) b = absurd b
body_kind r c kinds.File Special b = absurd b
body_kind r c kinds.Link (Directory slots parent) b = absurd b
body_kind r c kinds.Link (File content) b = absurd b
body_kind r c kinds.Link (Link target) b = refl
body_kind r c kinds.Link Special b = absurd b
body_kind r c kinds.Special (Directory slots parent) b = absurd b
body_kind r c kinds.Special (File content) b = absurd b
body_kind r c kinds.Special (Link target) b = absurd b
body_kind r c kinds.Special Special b = absurd b

-- so has an entry
pub holds_kind : (r : Reader) (c : NodeContent) (kind : Kind) (e : Entry) → Holds r c kind e → kind ≡ kind_in e.body
holds_kind r c kinds.Directory e h = body_kind r c kinds.Directory e.body h.body
holds_kind r c kinds.File e h = body_kind r c kinds.File e.body h.body
holds_kind r c kinds.Link e h = body_kind r c kinds.Link e.body h.body
holds_kind r c kinds.Special e h = sym (ap (λ b. kind_in b) h.body)

-- a special's body is one of a special's kind
pub body_special : (body : Body) → is_special_body body ≡ is_special_kind (Some (kind_in body))
body_special (Directory slots parent) = refl
body_special (File content) = refl
body_special (Link target) = refl
body_special Special = refl

-- so its kind says whether an entry is a special
holds_special : (r : Reader) (c : NodeContent) (kind : Kind) (e : Entry) → Holds r c kind e → is_special_body e.body ≡ is_special_kind (Some kind)
holds_special r c kind e h = body_special e.body ∙ ap (λ k. is_special_kind (Some k)) (sym (holds_kind r c kind e h))

-- what an entry holds that is no special
pub holds_body : (r : Reader) (c : NodeContent) (kind : Kind) (e : Entry) → Holds r c kind e → is_special_body e.body ≡ false → IsBody r c (kind_in e.body) e.body
holds_body r c kinds.Directory e h own = subst (λ k. IsBody r c k e.body) (body_kind r c kinds.Directory e.body h.body) h.body
holds_body r c kinds.File e h own = subst (λ k. IsBody r c k e.body) (body_kind r c kinds.File e.body h.body) h.body
holds_body r c kinds.Link e h own = subst (λ k. IsBody r c k e.body) (body_kind r c kinds.Link e.body h.body) h.body
holds_body r c kinds.Special e h own = absurd (true_or_false (is_special_body e.body) (ap (λ b. is_special_body b) h.body) own)

-- ---- contents that are the same

-- have the same bytes
bytes_alike : (size : ℕ) (a b : NodeContent) → 0 < size → IsSameContent size a b → bytes_in size b ≡ bytes_in size a
bytes_alike size a b pos s =
    ap (λ n. bytes_in size (record b { size = n })) s.size
    ∙ each_alike a.size _ _ (λ k low. ap (λ (l : List ℕ). slice_index l (k % size)) (s.leaves (k / size) (part_below k a.size size pos low)))

-- and the same records
slots_alike : (r : Reader) (a b : NodeContent) → 0 < r.blocksize → IsSameContent r.blocksize a b → slots_in r b ≡ slots_in r a
slots_alike r a b pos s =
    ap (λ n. slots_in r (record b { size = n })) s.size
    ∙ each_alike (a.size / 32) _ _ (λ k low.
    let below : k * 32 < a.size = omega arith in
    ap (λ (l : List ℕ). slot_by r.names (raw_in r.order (slice_range l (k * 32 % r.blocksize) (k * 32 % r.blocksize + 32)))) (s.leaves (k * 32 / r.blocksize) (part_below (k * 32) a.size r.blocksize pos below)))

-- so they are the same, of each kind
body_alike : (r : Reader) (a b : NodeContent) (kind : Kind) (body : Body) → 0 < r.blocksize → IsSameContent r.blocksize a b → IsBody r a kind body → IsBody r b kind body
body_alike r a b kind body pos s h =
    let is : kind ≡ kind_in body = body_kind r a kind body h in
    subst (λ k. IsBody r b k body) (sym is) (by_body body (subst (λ k. IsBody r a k body) is h))
  where
    by_body : (body : Body) → IsBody r a (kind_in body) body → IsBody r b (kind_in body) body
    by_body (Directory slots parent) h = slots_alike r a b pos s ∙ h
    by_body (File content) h = h ∙ sym (bytes_alike r.blocksize a b pos s)
    by_body (Link target) h = (h.0 ∙ sym (bytes_alike r.blocksize a b pos s), subst (λ n. 0 < n) (sym s.size) h.1, subst (λ n. n < 1024) (sym s.size) h.2)
    by_body Special h = absurd h

-- and an entry has both
content_alike : (r : Reader) (a b : NodeContent) (kind : Kind) (e : Entry) → 0 < r.blocksize → IsSameContent r.blocksize a b → HasContent r a kind e → HasContent r b kind e
content_alike r a b kind e pos s h = record { size = h.size ∙ sym s.size; present = h.present ∙ sym s.present; body = body_alike r a b kind e.body pos s h.body }

-- which matters only where it is no special
holds_alike : (r : Reader) (a b : NodeContent) (kind : Kind) (e : Entry) → 0 < r.blocksize → (is_special_body e.body ≡ false → IsSameContent r.blocksize a b) → Holds r a kind e → Holds r b kind e
holds_alike r a b kinds.Directory e pos s h = content_alike r a b kinds.Directory e pos (s (holds_special r a kinds.Directory e h)) h
holds_alike r a b kinds.File e pos s h = content_alike r a b kinds.File e pos (s (holds_special r a kinds.File e h)) h
holds_alike r a b kinds.Link e pos s h = content_alike r a b kinds.Link e pos (s (holds_special r a kinds.Link e h)) h
holds_alike r a b kinds.Special e pos s h = h

-- so the inode is the same entry with either content
pub entry_alike : (r : Reader) (i : Inode) (a b : NodeContent) (e : Entry) → 0 < r.blocksize → (is_special_body e.body ≡ false → IsSameContent r.blocksize a b) → IsEntryOf r i a e → IsEntryOf r i b e
entry_alike r i a b e pos s h = record { attr = h.attr; kind = h.kind; kind_is = h.kind_is; holds = holds_alike r a b h.kind e pos s h.holds }

-- ---- long names

-- with the same long names it is the same entry
pub names_alike : (r : Reader) (names : ℕ → Option (List ℕ)) (i : Inode) (c : NodeContent) (e : Entry) → ((n : ℕ) → names n ≡ r.names n) → IsEntryOf r i c e → IsEntryOf (record r { names = names }) i c e
names_alike r names i c e same h = subst (λ f. IsEntryOf (record r { names = f }) i c e) (λ j n. sym (same n) j) h
