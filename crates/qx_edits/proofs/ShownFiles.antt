-- What is shown once bytes were put into a file, or it has another size.
use Rattle.std.proofs.Common.{◌≡◌, ◌≢◌, ℕ, ◌+◌, ◌<◌, ◌≤◌, List, [], ◌∷◌, length, sym, ◌∙◌, ap, subst, arith}
use Rattle.std.specs.Prelude.{None, Option, Some, max}
use Rattle.qx_bytes.specs.Ranges.{put_at}
use Rattle.qx_outside.specs.Trail.{resized}
use Rattle.qx_fields.specs.declared.order.Order.{Order}
use Rattle.qx_geom.specs.Pointer.{ceil_div}
use Rattle.qx_geom.specs.Positions.{present_after}
use Rattle.qx_nodes.specs.NodeContents.{IsSameContent, bytes_in}
use Rattle.qx_ptree.specs.declared.change.Change.{Change}
use Rattle.qx_ptree.specs.Fates.{written_by}
use Rattle.qx_records.specs.declared.inode.Inode.{Inode}
use Rattle.qx_records.specs.declared.kind.Kind.TheVariants as kinds
use Rattle.qx_model.specs.Answering.{FileAt}
use Rattle.qx_model.specs.Contents.{cut_leaves, leaves_of_range, rewriting, written_at}
use Rattle.qx_model.specs.Edits.{Setting, content_changed, unchanged}
use Rattle.qx_model.specs.Tree.{File, Tree, entry_of}
use Rattle.qx_view.specs.Entries.{HasContent, Holds, IsBody, IsEntryOf}
use Rattle.qx_view.proofs.EntryContents.{holds_kind, kind_in}
use Rattle.qx_copies.specs.Copies.{Contents}
use Rattle.qx_copies.specs.Shown.{Shows, reader_by}
use Rattle.qx_working.specs.declared.links.Link.{Link}
use Rattle.qx_working.specs.Links.{HasLinks}
use Rattle.qx_edits.specs.PutContents.{HasZerosBehind, IsOverBlocks, IsPutInto}
use Rattle.qx_edits.specs.SetInodes.{SetsAttr}
use Rattle.qx_edits.proofs.PutFiles.{file_sized, file_written}
use Rattle.qx_edits.proofs.ShownInodes.{attr_links, has_entry, rewritten_links, rewritten_shown}

module _ (order : Order) (s : Setting) (before after : List (Option Inode)) (old new : Contents) (t : Tree) (f : FileAt) (pos : 0 < s.blocksize) (shows : Shows order s.blocksize before old t)
    (live : entry_of t f.inode ≡ Some f.entry) (body : f.entry.body ≡ File f.content) (sets : SetsAttr before after f.inode (content_changed s.moment)) (others : (o : ℕ) → o ≢ f.inode → IsSameContent s.blocksize (old o) (new o))
    (over : IsOverBlocks s.blocksize (old f.inode)) (past : HasZerosBehind s.blocksize (old f.inode)) where
  -- the file as its node has it
  had : HasContent (reader_by order s.blocksize (old 0)) (old f.inode) kinds.File f.entry
  had =
      let has = has_entry order s.blocksize before old t f.inode sets.old shows sets.was in
      let both : Some has.entry ≡ Some f.entry = sym has.live ∙ live in
      let same : has.entry ≡ f.entry = cc in
      let was : IsEntryOf (reader_by order s.blocksize (old 0)) sets.old (old f.inode) f.entry = subst (λ x. IsEntryOf (reader_by order s.blocksize (old 0)) sets.old (old f.inode) x) same has.is in
      let kind : was.kind ≡ kinds.File = holds_kind (reader_by order s.blocksize (old 0)) (old f.inode) was.kind f.entry was.holds ∙ ap (λ b. kind_in b) body in
      subst (λ k. Holds (reader_by order s.blocksize (old 0)) (old f.inode) k f.entry) kind was.holds

  content_was : f.content ≡ bytes_in s.blocksize (old f.inode)
  content_was = let h = had in subst (λ b. IsBody (reader_by order s.blocksize (old 0)) (old f.inode) kinds.File b) body h.body

  size_was : f.entry.size ≡ (old f.inode).size
  size_was = let h = had in h.size

  pub written_shown : (at b : ℕ) (bytes : List ℕ) (c : Change) → c.size ≡ max (old f.inode).size (at + length (b ∷ bytes)) → written_by c ≡ leaves_of_range s.blocksize at (length (b ∷ bytes)) → c.gone ≡ None
      → IsPutInto s.blocksize c at (b ∷ bytes) (old f.inode) (new f.inode) → Shows order s.blocksize after new (written_at s t f at (b ∷ bytes)).tree
  written_shown at b bytes c size written none is =
      let all : List ℕ = b ∷ bytes in
      let long : c.size ≡ max f.entry.size (at + length all) = size ∙ ap (λ n. max n (at + length all)) (sym size_was) in
      rewritten_shown s t f (max f.entry.size (at + length all)) (put_at (resized f.content (max f.entry.size (at + length all))) at all) (leaves_of_range s.blocksize at (length all)) live body order before after old new pos shows sets others
      (is.size ∙ long) (is.present ∙ (λ i. present_after (old f.inode).present (ceil_div (long i) s.blocksize) (written i) (none i)))
      (file_written s.blocksize at all c (old f.inode) (new f.inode) pos over past none is (omega (arith, size)) ∙ (λ i. put_at (resized (sym content_was i) (long i)) at all))

  pub sized_shown : (size at : ℕ) (bytes : List ℕ) (c : Change) → c.size ≡ size → written_by c ≡ cut_leaves s.blocksize f.entry size → c.gone ≡ None → size ≤ at
      → IsPutInto s.blocksize c at bytes (old f.inode) (new f.inode) → Shows order s.blocksize after new (rewriting s t f size (resized f.content size) (cut_leaves s.blocksize f.entry size)).tree
  sized_shown size at bytes c is_size written none behind is =
      rewritten_shown s t f size (resized f.content size) (cut_leaves s.blocksize f.entry size) live body order before after old new pos shows sets others
      (is.size ∙ is_size) (is.present ∙ (λ i. present_after (old f.inode).present (ceil_div (is_size i) s.blocksize) (written i) (none i)))
      (file_sized s.blocksize at bytes c (old f.inode) (new f.inode) pos over past none is (omega (arith, is_size, behind)) ∙ (λ i. resized (sym content_was i) (is_size i)))

pub written_links : (s : Setting) (links : List Link) (t : Tree) (f : FileAt) (at : ℕ) (bytes : List ℕ) → entry_of t f.inode ≡ Some f.entry → f.entry.body ≡ File f.content → HasLinks links t → HasLinks links (written_at s t f at bytes).tree
written_links s links t f at [] live body has = attr_links links (unchanged t) f.inode (content_changed s.moment) has
written_links s links t f at (b ∷ bytes) live body has =
    let all : List ℕ = b ∷ bytes in
    let size : ℕ = max f.entry.size (at + length all) in
    rewritten_links s t f size (put_at (resized f.content size) at all) (leaves_of_range s.blocksize at (length all)) live body links has
