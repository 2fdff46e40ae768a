-- Operations that only read, and those on contents and attributes, leave a tree rooted.
use Rattle.std.proofs.Common.{◌≡◌, ℕ, ◌+◌, List, [], ◌∷◌, length, refl, sym, ap, ◌∙◌, subst}
use Rattle.std.specs.Prelude.{Bool, true, false, Option, Some, None, Result, Ok, Err, ok_or, nat_lt}
use Rattle.qx_geom.specs.Room.{greatest_end}
use Rattle.qx_model.specs.declared.attr.Attr.{Attr}
use Rattle.qx_model.specs.declared.refusal.Refusal.{Refusal}
use Rattle.qx_model.specs.declared.refusal.Refusal.TheVariants as refusal
use Rattle.qx_outside.specs.Trail.{resized}
use Rattle.qx_model.specs.Outcomes.{◌>>=◌, ◌>>◌, refuse_if}
use Rattle.qx_model.specs.Tree.{Body, Directory, Entry, File, Link, Special, Tree, entry_of}
use Rattle.qx_model.specs.Rooted.{IsRooted}
use Rattle.qx_model.specs.Paths.{Followed, inode_at}
use Rattle.qx_model.specs.Edits.{Edit, Setting, altering, content_changed, unchanged, with_attr}
use Rattle.qx_model.specs.Effects.{Answers, Edits, Effect}
use Rattle.qx_model.specs.Answering.{FileAt, content_of_body, file_at, file_in}
use Rattle.qx_model.specs.Contents.{change_attr, cut_leaves, rewriting, truncate, with_content, write, written_at}
use Rattle.qx_model.proofs.Outlines.{alike_rooted, altered_outlines, body_outline, outline_of}

-- what is done leaves a tree rooted
pub record KeepsRooted (t : Tree) (r : Result Effect Refusal) : Type 0 where
  pub keeps : (is_removing : Bool) (e : Edit) → r ≡ Ok (Edits is_removing e) → IsRooted t → IsRooted e.tree

-- a refusal leaves it rooted
pub refused_keeps : (t : Tree) (x : Refusal) → KeepsRooted t (Err x)
refused_keeps t x = record { keeps = λ b e h r. absurd (cc) }

-- so does an answer
pub answers_keeps : (t : Tree) (x : _) → KeepsRooted t (Ok (Answers x))
answers_keeps t x = record { keeps = λ b e h r. let same : Answers x ≡ Edits b e = cc in absurd (cc) }

-- and an edit whose tree is rooted
pub edit_keeps : (t : Tree) (b : Bool) (e : Edit) → (IsRooted t → IsRooted e.tree) → KeepsRooted t (Ok (Edits b e))
edit_keeps t b e k = record { keeps = λ c f h r. let same : Edits b e ≡ Edits c f = cc in let one : e ≡ f = cc in subst (λ (x : Edit). IsRooted x.tree) one (k r) }

-- the rest of a definition by `do`
pub rest_keeps : {A : Type 0} (t : Tree) (x : Result A Refusal) (rest : A → Result Effect Refusal) → ((a : A) → x ≡ Ok a → KeepsRooted t (rest a)) → KeepsRooted t (x >>= rest)
rest_keeps t (Ok a) rest k = k a refl
rest_keeps t (Err e) rest k = refused_keeps t e

-- a test that refuses, and the rest where it does not
pub refuse_keeps : (t : Tree) (b : Bool) (x : Refusal) (rest : Result Effect Refusal) → (b ≡ false → KeepsRooted t rest) → KeepsRooted t (refuse_if b x >> rest)
refuse_keeps t true x rest k = refused_keeps t x
refuse_keeps t false x rest k = k refl

-- ---- attributes

-- other attributes leave the outlines
pub attr_outlines : (n : ℕ) (change : Attr → Attr) (e : Edit) (m : ℕ) → outline_of (with_attr n change e).tree m ≡ outline_of e.tree m
attr_outlines n change e m = altered_outlines e.tree n (λ x. record x { attr = change x.attr }) (λ x live. refl) m

-- so the tree stays rooted
pub attr_rooted : (n : ℕ) (change : Attr → Attr) (e : Edit) → IsRooted e.tree → IsRooted (with_attr n change e).tree
attr_rooted n change e r = alike_rooted e.tree (with_attr n change e).tree (attr_outlines n change e) r

-- Chmod, Chown and Utime
pub change_attr_keeps : (s : Setting) (t : Tree) (path : List ℕ) (change : Attr → Attr) → KeepsRooted t (change_attr s t path change)
change_attr_keeps s t path change = rest_keeps t (inode_at t s.base Followed path) _ (λ n is. edit_keeps t false (with_attr n change (unchanged t)) (attr_rooted n change (unchanged t)))

-- ---- contents

-- a file is one
record IsFile (t : Tree) (f : FileAt) : Type 0 where
  live : entry_of t f.inode ≡ Some f.entry
  plain : body_outline f.entry.body ≡ body_outline (File [])

file_in_file : (t : Tree) (n : ℕ) (f : FileAt) → file_in t n ≡ Ok f → IsFile t f
file_in_file t n f h = of_entry (entry_of t n) refl h
  where
    of_body : (e : Entry) → entry_of t n ≡ Some e → (b : Body) → e.body ≡ b → (content_of_body b >>= λ content. Ok (record { inode = n; entry = e; content = content })) ≡ Ok f → IsFile t f
    of_body e live (File content) body h =
        let g : FileAt = record { inode = n; entry = e; content = content } in
        let same : g ≡ f = cc in
        let it : IsFile t g = record { live = live; plain = ap body_outline body } in
        subst (IsFile t) same it
    of_body e live (Directory slots parent) body h = absurd (cc)
    of_body e live (Link target) body h = absurd (cc)
    of_body e live Special body h = absurd (cc)

    of_entry : (o : Option Entry) → entry_of t n ≡ o → (ok_or o refusal.NoEntry >>= λ e. (content_of_body e.body >>= λ content. Ok (record { inode = n; entry = e; content = content }))) ≡ Ok f → IsFile t f
    of_entry None live h = absurd (cc)
    of_entry (Some e) live h = of_body e live e.body refl h

file_at_file : (s : Setting) (t : Tree) (path : List ℕ) (f : FileAt) → file_at s t path ≡ Ok f → IsFile t f
file_at_file s t path f h = go (inode_at t s.base Followed path) h
  where
    go : (x : Result ℕ Refusal) → (x >>= file_in t) ≡ Ok f → IsFile t f
    go (Ok n) h = file_in_file t n f h
    go (Err e) h = absurd (cc)

rewriting_rooted : (s : Setting) (t : Tree) (f : FileAt) (size : ℕ) (content leaves : List ℕ) → IsFile t f → IsRooted t → IsRooted (rewriting s t f size content leaves).tree
rewriting_rooted s t f size content leaves file r =
    attr_rooted f.inode (content_changed s.moment) (altering f.inode (with_content s.blocksize size content leaves) (unchanged t))
    (alike_rooted t (altering f.inode (with_content s.blocksize size content leaves) (unchanged t)).tree
    (altered_outlines t f.inode (with_content s.blocksize size content leaves) (λ e live. sym file.plain ∙ ap (λ (x : Entry). body_outline x.body) (one_entry e live))) r)
  where
    one_entry : (e : Entry) → entry_of t f.inode ≡ Some e → f.entry ≡ e
    one_entry e live = let same : Some f.entry ≡ Some e = sym file.live ∙ live in cc

written_rooted : (s : Setting) (t : Tree) (f : FileAt) (at : ℕ) (bytes : List ℕ) → IsFile t f → IsRooted t → IsRooted (written_at s t f at bytes).tree
written_rooted s t f at [] file r = attr_rooted f.inode (content_changed s.moment) (unchanged t) r
written_rooted s t f at (b ∷ bytes) file r = rewriting_rooted s t f _ _ _ file r

-- Write and Fill
pub write_keeps : (s : Setting) (t : Tree) (path : List ℕ) (at : ℕ) (bytes : List ℕ) → KeepsRooted t (write s t path at bytes)
write_keeps s t path at bytes =
    rest_keeps t (file_at s t path) (λ f. refuse_if (nat_lt greatest_end (at + length bytes)) refusal.FileTooBig >> Ok (Edits false (written_at s t f at bytes)))
    (λ f is. refuse_keeps t (nat_lt greatest_end (at + length bytes)) refusal.FileTooBig (Ok (Edits false (written_at s t f at bytes)))
    (λ fits. edit_keeps t false (written_at s t f at bytes) (written_rooted s t f at bytes (file_at_file s t path f is))))

-- a file of another size
abbrev sized : Setting → Tree → FileAt → ℕ → Edit
sized s t f size = rewriting s t f size (resized f.content size) (cut_leaves s.blocksize f.entry size)

-- Truncate
pub truncate_keeps : (s : Setting) (t : Tree) (path : List ℕ) (size : ℕ) → KeepsRooted t (truncate s t path size)
truncate_keeps s t path size =
    rest_keeps t (file_at s t path) (λ f. refuse_if (nat_lt greatest_end size) refusal.FileTooBig >> Ok (Edits (nat_lt size f.entry.size) (sized s t f size)))
    (λ f is. refuse_keeps t (nat_lt greatest_end size) refusal.FileTooBig (Ok (Edits (nat_lt size f.entry.size) (sized s t f size)))
    (λ fits. edit_keeps t (nat_lt size f.entry.size) (sized s t f size)
    (rewriting_rooted s t f size (resized f.content size) (cut_leaves s.blocksize f.entry size) (file_at_file s t path f is))))
