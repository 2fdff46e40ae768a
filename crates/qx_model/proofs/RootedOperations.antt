-- Each operation leaves a rooted tree rooted.
use Rattle.std.proofs.Common.{◌≡◌, ℕ, List, refl}
use Rattle.std.specs.Prelude.{Bool, true, Option, Some, None, Ok, is_some, ok_or, filter_map, replicate, slice_range, not, ◌+◌}
use Rattle.qx_model.specs.declared.operation.Op.{Op}
use Rattle.qx_model.specs.declared.operation.Op.TheVariants as op
use Rattle.qx_model.specs.declared.reply.Reply.TheVariants as reply
use Rattle.qx_model.specs.declared.refusal.Refusal.TheVariants as refusal
use Rattle.qx_model.specs.Outcomes.{◌>>=◌, ◌>>◌, refuse_if}
use Rattle.qx_model.specs.Tree.{Entry, Tree, entry_of, slots_of}
use Rattle.qx_model.specs.Rooted.{IsRooted}
use Rattle.qx_model.specs.Directories.{is_directory}
use Rattle.qx_model.specs.Paths.{Followed, Itself, inode_at}
use Rattle.qx_model.specs.Edits.{Edit, Setting, StandsLive}
use Rattle.qx_model.specs.Effects.{Answers, Edits}
use Rattle.qx_model.specs.Answering.{file_at, list, read, read_link, row_view, stat, stat_view, target_of_body}
use Rattle.qx_model.specs.Contents.{with_mode, with_owner, with_times}
use Rattle.qx_model.specs.Operate.{operate}
use Rattle.qx_model.proofs.RootedContents.{KeepsRooted, answers_keeps, change_attr_keeps, refuse_keeps, rest_keeps, truncate_keeps, write_keeps}
use Rattle.qx_model.proofs.RootedNames.{IsLive, create_keeps, link_keeps, mkdir_keeps, some_live, symlink_keeps}
use Rattle.qx_model.proofs.RootedRemovals.{remove_dir_keeps, remove_keeps}
use Rattle.qx_model.proofs.RootedRenames.{rename_keeps}

list_keeps : (s : Setting) (t : Tree) (path : List ℕ) → KeepsRooted t (list s t path)
list_keeps s t path =
    rest_keeps t (inode_at t s.base Followed path) (λ n. refuse_if (not (is_directory t n)) refusal.NotDir >> Ok (Answers (reply.Rows (filter_map row_view (slots_of t n)))))
    (λ n at. refuse_keeps t (not (is_directory t n)) refusal.NotDir (Ok (Answers (reply.Rows (filter_map row_view (slots_of t n))))) (λ dir. answers_keeps t (reply.Rows (filter_map row_view (slots_of t n)))))

stat_keeps : (s : Setting) (t : Tree) (path : List ℕ) → KeepsRooted t (stat s t path)
stat_keeps s t path =
    rest_keeps t (inode_at t s.base Itself path) (λ n. ok_or (entry_of t n) refusal.NoEntry >>= λ e. Ok (Answers (reply.Stat (stat_view t n e))))
    (λ n at. rest_keeps t (ok_or (entry_of t n) refusal.NoEntry) (λ e. Ok (Answers (reply.Stat (stat_view t n e)))) (λ e is. answers_keeps t (reply.Stat (stat_view t n e))))

read_keeps : (s : Setting) (t : Tree) (path : List ℕ) (at count : ℕ) → KeepsRooted t (read s t path at count)
read_keeps s t path at count =
    rest_keeps t (file_at s t path) (λ f. Ok (Answers (reply.Bytes (slice_range f.content at (at + count))))) (λ f is. answers_keeps t (reply.Bytes (slice_range f.content at (at + count))))

read_link_keeps : (s : Setting) (t : Tree) (path : List ℕ) → KeepsRooted t (read_link s t path)
read_link_keeps s t path =
    rest_keeps t (inode_at t s.base Itself path) (λ n. ok_or (entry_of t n) refusal.NoEntry >>= λ e. (target_of_body e.body >>= λ target. Ok (Answers (reply.Target target))))
    (λ n at. rest_keeps t (ok_or (entry_of t n) refusal.NoEntry) (λ e. target_of_body e.body >>= λ target. Ok (Answers (reply.Target target)))
    (λ e is. rest_keeps t (target_of_body e.body) (λ target. Ok (Answers (reply.Target target))) (λ target is. answers_keeps t (reply.Target target))))

-- a session's directory is live by its outline
pub stands : (s : Setting) (t : Tree) → StandsLive s t → (d : ℕ) → s.base ≡ Some d → IsLive t d
stands s t live d is = go (entry_of t d) refl (live d is)
  where
    go : (o : Option Entry) → entry_of t d ≡ o → is_some o ≡ true → IsLive t d
    go None at h = absurd (cc)
    go (Some e) at h = some_live t d e at

keeps : (s : Setting) (t : Tree) (o : Op) → StandsLive s t → KeepsRooted t (operate s t o)
keeps s t (op.List path) live = list_keeps s t path
keeps s t (op.Stat path) live = stat_keeps s t path
keeps s t (op.Read path at count) live = read_keeps s t path at count
keeps s t (op.Create path) live = create_keeps s t path
keeps s t (op.Mkdir path) live = mkdir_keeps s t path
keeps s t (op.Write path at bytes) live = write_keeps s t path at bytes
keeps s t (op.Fill path at count byte) live = write_keeps s t path at (replicate count byte)
keeps s t (op.Truncate path size) live = truncate_keeps s t path size
keeps s t (op.Remove path) live = remove_keeps s t path
keeps s t (op.RemoveDir path) live = remove_dir_keeps s t path
keeps s t (op.Rename from to) live = rename_keeps s t from to
keeps s t (op.Link old new) live = link_keeps s t old new (stands s t live)
keeps s t (op.Symlink target new) live = symlink_keeps s t target new
keeps s t (op.ReadLink path) live = read_link_keeps s t path
keeps s t (op.Chmod path mode) live = change_attr_keeps s t path (with_mode s.moment mode)
keeps s t (op.Chown path uid gid) live = change_attr_keeps s t path (with_owner s.moment uid gid)
keeps s t (op.Utime path atime mtime) live = change_attr_keeps s t path (with_times s.moment atime mtime)

-- each operation keeps the tree rooted
pub operation_keeps_rooted : (s : Setting) (t : Tree) (o : Op) (is_removing : Bool) (e : Edit) → IsRooted t → StandsLive s t → operate s t o ≡ Ok (Edits is_removing e) → IsRooted e.tree
operation_keeps_rooted s t o is_removing e r live is = (keeps s t o live).keeps is_removing e is r
