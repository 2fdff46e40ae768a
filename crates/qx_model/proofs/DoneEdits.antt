-- The edit of an operation is one of eight, each with what the operation has found before it.
use Rattle.std.proofs.Common.{◌≡◌, ℕ, ◌+◌, ◌*◌, ◌/◌, ◌%◌, List, [], ◌∷◌, length, refl, subst, arith}
use Rattle.std.specs.Prelude.{◌≢◌, Bool, true, false, not, ◌&&◌, Option, Some, None, Result, Ok, Err, filter_map, is_some, ok_or, nat_lt, ◌==◌, if◌then◌else◌, replicate, slice_range}
use Rattle.std.specs.List.{range_with_len}
use Rattle.std.proofs.lemmas.Bool.{eq-eqb}
use Rattle.qx_geom.specs.Pointer.{ceil_div}
use Rattle.qx_geom.proofs.Truths.{true_or_false}
use Rattle.qx_outside.specs.Trail.{resized}
use Rattle.qx_path.specs.PathParts.{PathParts}
use Rattle.qx_geom.specs.Room.{greatest_end}
use Rattle.qx_model.specs.declared.attr.Attr.{Attr}
use Rattle.qx_model.specs.declared.operation.Op.{Op}
use Rattle.qx_model.specs.declared.operation.Op.TheVariants as op
use Rattle.qx_model.specs.declared.reply.Reply.TheVariants as reply
use Rattle.qx_model.specs.declared.refusal.Refusal.{Refusal}
use Rattle.qx_model.specs.declared.refusal.Refusal.TheVariants as refusal
use Rattle.qx_model.specs.Outcomes.{◌>>=◌, ◌>>◌, refuse_if}
use Rattle.qx_model.specs.Tree.{Body, Directory, Entry, File, Link, Special, Tree, entry_of, slots_of}
use Rattle.qx_model.specs.Rooted.{IsRooted}
use Rattle.qx_model.specs.EmptyTree.{new_directory}
use Rattle.qx_model.specs.Directories.{inode_named, is_bare, is_directory, is_special, is_within}
use Rattle.qx_model.specs.Paths.{Followed, Itself, Named, Place, inode_at, named, parent_at, parsed, place_at}
use Rattle.qx_model.specs.Edits.{Edit, Setting, StandsLive, add_row, attr_changed, new_inode, new_link, unchanged, with_attr}
use Rattle.qx_model.specs.Effects.{Answers, Edits, Effect}
use Rattle.qx_model.specs.Answering.{FileAt, content_of_body, file_at, file_in, list, read, read_link, row_view, stat, stat_view, target_of_body}
use Rattle.qx_model.specs.Contents.{change_attr, cut_leaves, rewriting, truncate, with_mode, with_owner, with_times, write, written_at}
use Rattle.qx_model.specs.NewNames.{create, empty_file, link, made_at, mkdir, new_place, symlink}
use Rattle.qx_model.specs.LostNames.{RowAt, moved_onto, moved_to, refuse_onto, remove, remove_dir, rename, rename_to, replace, row_at, without_row}
use Rattle.qx_model.specs.Operate.{operate}
use Rattle.qx_model.proofs.Places.{IsPlace, not_false, ok_some, place_facts, place_of}
use Rattle.qx_model.proofs.RootedNames.{IsLive, IsNewPlace, new_place_is, path_live}
use Rattle.qx_model.proofs.RootedRemovals.{IsRow, row_is}
use Rattle.qx_model.proofs.RootedRenames.{bare_of, no_row}
use Rattle.qx_model.proofs.RootedOperations.{stands}

-- a file that was found
pub record IsFileAt (t : Tree) (f : FileAt) : Type 0 where
  pub live : entry_of t f.inode ≡ Some f.entry
  pub body : f.entry.body ≡ File f.content

-- attributes change, and the kind in the mode stays
abbrev pub KeepsKind : (Attr → Attr) → Type 0
KeepsKind change = (a : Attr) → (change a).mode / 4096 ≡ a.mode / 4096

-- what a new inode n in directory d is, with the leaves of it that are written
pub data IsNewEntry (s : Setting) (n d : ℕ) : Entry → List ℕ → Type 0 where
  new_file : IsNewEntry s n d (empty_file s.moment) []
  new_dir : IsNewEntry s n d (new_directory s.blocksize n d s.moment) (0 ∷ [])
  new_target : (target : List ℕ) (q : PathParts) → parsed target ≡ Ok q → IsNewEntry s n d (new_link s.blocksize s.moment target) (range_with_len 0 (ceil_div (length target) s.blocksize))

-- an inode whose last row may go: a directory has no row but `.` and `..`
abbrev pub MayGo : Tree → ℕ → Type 0
MayGo t n = is_directory t n ≡ true → is_bare t n ≡ true

-- a file of another size
abbrev pub sized : Setting → Tree → FileAt → ℕ → Edit
sized s t f size = rewriting s t f size (resized f.content size) (cut_leaves s.blocksize f.entry size)

-- an edit that an operation comes to
pub data IsDone (s : Setting) (t : Tree) : Edit → Type 0 where
  attributes : (n : ℕ) (change : Attr → Attr) → KeepsKind change → IsDone s t (with_attr n change (unchanged t))
  bytes_written : (f : FileAt) (at : ℕ) (bytes : List ℕ) → IsFileAt t f → nat_lt greatest_end (at + length bytes) ≡ false → IsDone s t (written_at s t f at bytes)
  size_set : (f : FileAt) (size : ℕ) → IsFileAt t f → nat_lt greatest_end size ≡ false → IsDone s t (sized s t f size)
  made : (p : Place) (n : ℕ) (x : Entry) (leaves : List ℕ) → IsNewPlace t p → new_inode t ≡ Ok n → IsNewEntry s n p.directory x leaves → IsDone s t (made_at s t p n x leaves)
  linked : (p : Place) (n : ℕ) → IsNewPlace t p → IsLive t n → is_directory t n ≡ false → is_special t n ≡ false → IsDone s t (with_attr n (attr_changed s.moment) (add_row s p.directory n p.name (unchanged t)))
  lost : (row : RowAt) → IsRow t row → MayGo t row.inode → IsDone s t (without_row s t row)
  row_moved : (row : RowAt) (p : Place) → IsRow t row → IsPlace t p → is_some (inode_named t p.directory p.name) ≡ false → (is_directory t row.inode && is_within t row.inode p.directory) ≡ false → IsDone s t (moved_to s t row p)
  row_moved_onto : (row old : RowAt) → IsRow t row → IsRow t old → old.inode ≢ row.inode → (is_directory t row.inode && is_within t row.inode old.directory) ≡ false → MayGo t old.inode → IsDone s t (moved_onto s t row old)

-- ---- an effect's edit

-- where it comes to an edit, that is so
pub record ComesTo (P : Edit → Type 0) (r : Result Effect Refusal) : Type 0 where
  pub comes : (is_removing : Bool) (e : Edit) → r ≡ Ok (Edits is_removing e) → P e

module _ (P : Edit → Type 0) where
  refused : (x : Refusal) → ComesTo P (Err x)
  refused x = record { comes = λ b e h. absurd (cc) }

  answers : (x : _) → ComesTo P (Ok (Answers x))
  answers x = record { comes = λ b e h. (let same : Answers x ≡ Edits b e = cc in absurd (cc)) }

  edits : (b : Bool) (e : Edit) → P e → ComesTo P (Ok (Edits b e))
  edits b e p = record { comes = λ c f h. (let same : Edits b e ≡ Edits c f = cc in let one : e ≡ f = cc in subst P one p) }

  rest : {A : Type 0} (x : Result A Refusal) (rest : A → Result Effect Refusal) → ((a : A) → x ≡ Ok a → ComesTo P (rest a)) → ComesTo P (x >>= rest)
  rest (Ok a) r k = k a refl
  rest (Err e) r k = refused e

  refuse : (b : Bool) (x : Refusal) (r : Result Effect Refusal) → (b ≡ false → ComesTo P r) → ComesTo P (refuse_if b x >> r)
  refuse true x r k = refused x
  refuse false x r k = k refl

  tests : (x : Result (Unit {0}) Refusal) (r : Result Effect Refusal) → (x ≡ Ok tt → ComesTo P r) → ComesTo P (x >> r)
  tests (Ok u) r k = k refl
  tests (Err e) r k = refused e

-- ---- files and attributes

found_file : (t : Tree) (n : ℕ) (f : FileAt) → file_in t n ≡ Ok f → IsFileAt t f
found_file t n f h = of_entry (entry_of t n) refl h
  where
    of_body : (e : Entry) → entry_of t n ≡ Some e → (b : Body) → e.body ≡ b → (content_of_body b >>= λ content. Ok (record { inode = n; entry = e; content = content })) ≡ Ok f → IsFileAt t f
    of_body e live (File content) body h =
        let g : FileAt = record { inode = n; entry = e; content = content } in
        let same : g ≡ f = cc in
        let it : IsFileAt t g = record { live = live; body = body } in
        subst (IsFileAt t) same it
    of_body e live (Directory slots parent) body h = absurd (cc)
    of_body e live (Link target) body h = absurd (cc)
    of_body e live Special body h = absurd (cc)

    of_entry : (o : Option Entry) → entry_of t n ≡ o → (ok_or o refusal.NoEntry >>= λ e. (content_of_body e.body >>= λ content. Ok (record { inode = n; entry = e; content = content }))) ≡ Ok f → IsFileAt t f
    of_entry None live h = absurd (cc)
    of_entry (Some e) live h = of_body e live e.body refl h

file_is : (s : Setting) (t : Tree) (path : List ℕ) (f : FileAt) → file_at s t path ≡ Ok f → IsFileAt t f
file_is s t path f h = go (inode_at t s.base Followed path) h
  where
    go : (x : Result ℕ Refusal) → (x >>= file_in t) ≡ Ok f → IsFileAt t f
    go (Ok n) h = found_file t n f h
    go (Err e) h = absurd (cc)

-- the low 12 bits of a mode are no part of its kind
mode_kind : (a b : ℕ) → (a * 4096 + b % 4096) / 4096 ≡ a
mode_kind a b = omega arith

module _ (s : Setting) (t : Tree) where
  attr_done : (path : List ℕ) (change : Attr → Attr) → KeepsKind change → ComesTo (IsDone s t) (change_attr s t path change)
  attr_done path change kept = rest (IsDone s t) (inode_at t s.base Followed path) _ (λ n is. edits (IsDone s t) false (with_attr n change (unchanged t)) (attributes n change kept))

  write_done : (path : List ℕ) (at : ℕ) (bytes : List ℕ) → ComesTo (IsDone s t) (write s t path at bytes)
  write_done path at bytes =
      rest (IsDone s t) (file_at s t path) (λ f. refuse_if (nat_lt greatest_end (at + length bytes)) refusal.FileTooBig >> Ok (Edits false (written_at s t f at bytes)))
      (λ f is. refuse (IsDone s t) (nat_lt greatest_end (at + length bytes)) refusal.FileTooBig (Ok (Edits false (written_at s t f at bytes)))
      (λ fits. edits (IsDone s t) false (written_at s t f at bytes) (bytes_written f at bytes (file_is s t path f is) fits)))

  truncate_done : (path : List ℕ) (size : ℕ) → ComesTo (IsDone s t) (truncate s t path size)
  truncate_done path size =
      rest (IsDone s t) (file_at s t path) (λ f. refuse_if (nat_lt greatest_end size) refusal.FileTooBig >> Ok (Edits (nat_lt size f.entry.size) (sized s t f size)))
      (λ f is. refuse (IsDone s t) (nat_lt greatest_end size) refusal.FileTooBig (Ok (Edits (nat_lt size f.entry.size) (sized s t f size)))
      (λ fits. edits (IsDone s t) (nat_lt size f.entry.size) (sized s t f size) (size_set f size (file_is s t path f is) fits)))

  -- ---- names that are made

  made_done : (p : Place) (n : ℕ) (x : Entry) (leaves : List ℕ) → IsNewPlace t p → new_inode t ≡ Ok n → IsNewEntry s n p.directory x leaves → ComesTo (IsDone s t) (Ok (Edits false (made_at s t p n x leaves)))
  made_done p n x leaves new is f = edits (IsDone s t) false (made_at s t p n x leaves) (made p n x leaves new is f)

  create_done : (path : List ℕ) → ComesTo (IsDone s t) (create s t path)
  create_done path =
      rest (IsDone s t) (new_place s t path) (λ p. new_inode t >>= λ n. Ok (Edits false (made_at s t p n (empty_file s.moment) [])))
      (λ p is. rest (IsDone s t) (new_inode t) (λ n. Ok (Edits false (made_at s t p n (empty_file s.moment) [])))
      (λ n new. made_done p n (empty_file s.moment) [] (new_place_is s t path p is) new new_file))

  mkdir_done : (path : List ℕ) → ComesTo (IsDone s t) (mkdir s t path)
  mkdir_done path =
      rest (IsDone s t) (new_place s t path) (λ p. new_inode t >>= λ n. Ok (Edits false (made_at s t p n (new_directory s.blocksize n p.directory s.moment) (0 ∷ []))))
      (λ p is. rest (IsDone s t) (new_inode t) (λ n. Ok (Edits false (made_at s t p n (new_directory s.blocksize n p.directory s.moment) (0 ∷ []))))
      (λ n new. made_done p n (new_directory s.blocksize n p.directory s.moment) (0 ∷ []) (new_place_is s t path p is) new new_dir))

  abbrev target_leaves : List ℕ → List ℕ
  target_leaves target = range_with_len 0 (ceil_div (length target) s.blocksize)

  symlink_done : (target path : List ℕ) → ComesTo (IsDone s t) (symlink s t target path)
  symlink_done target path =
      rest (IsDone s t) (parsed target) (λ q. new_place s t path >>= λ p. new_inode t >>= λ n. Ok (Edits false (made_at s t p n (new_link s.blocksize s.moment target) (target_leaves target))))
      (λ q read. rest (IsDone s t) (new_place s t path) (λ p. new_inode t >>= λ n. Ok (Edits false (made_at s t p n (new_link s.blocksize s.moment target) (target_leaves target))))
      (λ p is. rest (IsDone s t) (new_inode t) (λ n. Ok (Edits false (made_at s t p n (new_link s.blocksize s.moment target) (target_leaves target))))
      (λ n new. made_done p n (new_link s.blocksize s.moment target) (target_leaves target) (new_place_is s t path p is) new (new_target target q read))))

  abbrev with_link : Place → ℕ → Edit
  with_link p n = with_attr n (attr_changed s.moment) (add_row s p.directory n p.name (unchanged t))

  link_done : (old new : List ℕ) → IsRooted t → StandsLive s t → ComesTo (IsDone s t) (link s t old new)
  link_done old new r live =
      rest (IsDone s t) (inode_at t s.base Itself old) (λ n. refuse_if (is_directory t n) refusal.IsDir >> (refuse_if (is_special t n) refusal.WrongKind >> (new_place s t new >>= λ p. Ok (Edits false (with_link p n)))))
      (λ n at. refuse (IsDone s t) (is_directory t n) refusal.IsDir (refuse_if (is_special t n) refusal.WrongKind >> (new_place s t new >>= λ p. Ok (Edits false (with_link p n))))
      (λ no_dir. refuse (IsDone s t) (is_special t n) refusal.WrongKind (new_place s t new >>= λ p. Ok (Edits false (with_link p n)))
      (λ no_special. rest (IsDone s t) (new_place s t new) (λ p. Ok (Edits false (with_link p n)))
      (λ p is. edits (IsDone s t) false (with_link p n) (linked p n (new_place_is s t new p is) (path_live t r s.base (stands s t live) Itself old n at) no_dir no_special)))))

  -- ---- names that go

  no_directory : (n : ℕ) → is_directory t n ≡ false → MayGo t n
  no_directory n plain dir = absurd (true_or_false (is_directory t n) dir plain)

  remove_done : (path : List ℕ) → ComesTo (IsDone s t) (remove s t path)
  remove_done path =
      rest (IsDone s t) (place_at t s.base path) (λ p. ok_or (row_at t p) refusal.NoEntry >>= λ row. (refuse_if (is_directory t row.inode) refusal.IsDir >> Ok (Edits true (without_row s t row))))
      (λ p at. rest (IsDone s t) (ok_or (row_at t p) refusal.NoEntry) (λ row. refuse_if (is_directory t row.inode) refusal.IsDir >> Ok (Edits true (without_row s t row)))
      (λ row there. refuse (IsDone s t) (is_directory t row.inode) refusal.IsDir (Ok (Edits true (without_row s t row)))
      (λ no_dir. edits (IsDone s t) true (without_row s t row) (lost row (row_is t p row (place_facts t s.base path p at) (ok_some (row_at t p) refusal.NoEntry row there)) (no_directory row.inode no_dir)))))

  remove_dir_done : (path : List ℕ) → ComesTo (IsDone s t) (remove_dir s t path)
  remove_dir_done path =
      rest (IsDone s t) (place_at t s.base path)
      (λ p. ok_or (row_at t p) refusal.NoEntry >>= λ row. (refuse_if (not (is_directory t row.inode)) refusal.NotDir >> (refuse_if (not (is_bare t row.inode)) refusal.NotEmpty >> Ok (Edits true (without_row s t row)))))
      (λ p at. rest (IsDone s t) (ok_or (row_at t p) refusal.NoEntry)
      (λ row. refuse_if (not (is_directory t row.inode)) refusal.NotDir >> (refuse_if (not (is_bare t row.inode)) refusal.NotEmpty >> Ok (Edits true (without_row s t row))))
      (λ row there. refuse (IsDone s t) (not (is_directory t row.inode)) refusal.NotDir (refuse_if (not (is_bare t row.inode)) refusal.NotEmpty >> Ok (Edits true (without_row s t row)))
      (λ dir. refuse (IsDone s t) (not (is_bare t row.inode)) refusal.NotEmpty (Ok (Edits true (without_row s t row)))
      (λ bare. edits (IsDone s t) true (without_row s t row)
      (lost row (row_is t p row (place_facts t s.base path p at) (ok_some (row_at t p) refusal.NoEntry row there)) (λ is. not_false (is_bare t row.inode) bare))))))

  -- ---- names that move

  module _ (row : RowAt) (is : IsRow t row) (place : Place) (at : IsPlace t place) where
    to_free : (none : row_at t place ≡ None) → ComesTo (IsDone s t) (rename_to s t row place None)
    to_free none =
        refuse (IsDone s t) (is_directory t row.inode && is_within t row.inode place.directory) refusal.IntoItself (Ok (Edits false (moved_to s t row place)))
        (λ apart. edits (IsDone s t) false (moved_to s t row place) (row_moved row place is at (no_row t place none) apart))

    replace_done : (old : RowAt) → IsRow t old → old.inode ≢ row.inode → ComesTo (IsDone s t) (replace s t row old)
    replace_done old is_old differ =
        refuse (IsDone s t) (is_directory t row.inode && is_within t row.inode old.directory) refusal.IntoItself (refuse_onto t row.inode old.inode >> Ok (Edits false (moved_onto s t row old)))
        (λ apart. tests (IsDone s t) (refuse_onto t row.inode old.inode) (Ok (Edits false (moved_onto s t row old)))
        (λ free. edits (IsDone s t) false (moved_onto s t row old) (row_moved_onto row old is is_old differ apart (bare_of t row.inode old.inode free))))

    rename_to_done : (old : Option RowAt) → row_at t place ≡ old → ComesTo (IsDone s t) (rename_to s t row place old)
    rename_to_done None none = to_free none
    rename_to_done (Some old) there = go (old.inode == row.inode) refl
      where
        go : (b : Bool) → (old.inode == row.inode) ≡ b → ComesTo (IsDone s t) (if b then Ok (Answers reply.Done) else replace s t row old)
        go true same = answers (IsDone s t) reply.Done
        go false differ = replace_done old (row_is t place old at there) (λ e. true_or_false (old.inode == row.inode) (eq-eqb old.inode row.inode e) differ)

  -- what follows once both paths are read
  abbrev after_names : Named → Named → Result Effect Refusal
  after_names old new =
      parent_at t s.base old >>= λ d. (ok_or (row_at t (record { directory = d; name = old.name })) refusal.NoEntry >>= λ row. (parent_at t s.base new >>= λ c.
      rename_to s t row (record { directory = c; name = new.name }) (row_at t (record { directory = c; name = new.name }))))

  rename_done : (from to : List ℕ) → ComesTo (IsDone s t) (rename s t from to)
  rename_done from to =
      rest (IsDone s t) (parsed from) (λ p. parsed to >>= λ q. (named p >>= λ old. (named q >>= λ new. after_names old new)))
      (λ p read_p. rest (IsDone s t) (parsed to) (λ q. named p >>= λ old. (named q >>= λ new. after_names old new))
      (λ q read_q. rest (IsDone s t) (named p) (λ old. named q >>= λ new. after_names old new)
      (λ old is_old. rest (IsDone s t) (named q) (λ new. after_names old new)
      (λ new is_new. rest (IsDone s t) (parent_at t s.base old) (λ d. ok_or (row_at t (record { directory = d; name = old.name })) refusal.NoEntry >>= λ row. (parent_at t s.base new >>= λ c.
      rename_to s t row (record { directory = c; name = new.name }) (row_at t (record { directory = c; name = new.name }))))
      (λ d at_d. rest (IsDone s t) (ok_or (row_at t (record { directory = d; name = old.name })) refusal.NoEntry) (λ row. parent_at t s.base new >>= λ c.
      rename_to s t row (record { directory = c; name = new.name }) (row_at t (record { directory = c; name = new.name })))
      (λ row there. rest (IsDone s t) (parent_at t s.base new) (λ c. rename_to s t row (record { directory = c; name = new.name }) (row_at t (record { directory = c; name = new.name })))
      (λ c at_c. (let first : Place = record { directory = d; name = old.name } in
      let place : Place = record { directory = c; name = new.name } in
      rename_to_done row (row_is t first row (place_of t s.base from p old d read_p is_old at_d) (ok_some (row_at t first) refusal.NoEntry row there)) place (place_of t s.base to q new c read_q is_new at_c)
      (row_at t place) refl))))))))

  -- ---- operations that only read

  list_done : (path : List ℕ) → ComesTo (IsDone s t) (list s t path)
  list_done path =
      rest (IsDone s t) (inode_at t s.base Followed path) (λ n. refuse_if (not (is_directory t n)) refusal.NotDir >> Ok (Answers (reply.Rows (filter_map row_view (slots_of t n)))))
      (λ n at. refuse (IsDone s t) (not (is_directory t n)) refusal.NotDir (Ok (Answers (reply.Rows (filter_map row_view (slots_of t n))))) (λ dir. answers (IsDone s t) (reply.Rows (filter_map row_view (slots_of t n)))))

  stat_done : (path : List ℕ) → ComesTo (IsDone s t) (stat s t path)
  stat_done path =
      rest (IsDone s t) (inode_at t s.base Itself path) (λ n. ok_or (entry_of t n) refusal.NoEntry >>= λ e. Ok (Answers (reply.Stat (stat_view t n e))))
      (λ n at. rest (IsDone s t) (ok_or (entry_of t n) refusal.NoEntry) (λ e. Ok (Answers (reply.Stat (stat_view t n e)))) (λ e is. answers (IsDone s t) (reply.Stat (stat_view t n e))))

  read_done : (path : List ℕ) (at count : ℕ) → ComesTo (IsDone s t) (read s t path at count)
  read_done path at count =
      rest (IsDone s t) (file_at s t path) (λ f. Ok (Answers (reply.Bytes (slice_range f.content at (at + count))))) (λ f is. answers (IsDone s t) (reply.Bytes (slice_range f.content at (at + count))))

  read_link_done : (path : List ℕ) → ComesTo (IsDone s t) (read_link s t path)
  read_link_done path =
      rest (IsDone s t) (inode_at t s.base Itself path) (λ n. ok_or (entry_of t n) refusal.NoEntry >>= λ e. (target_of_body e.body >>= λ target. Ok (Answers (reply.Target target))))
      (λ n at. rest (IsDone s t) (ok_or (entry_of t n) refusal.NoEntry) (λ e. target_of_body e.body >>= λ target. Ok (Answers (reply.Target target)))
      (λ e is. rest (IsDone s t) (target_of_body e.body) (λ target. Ok (Answers (reply.Target target))) (λ target is. answers (IsDone s t) (reply.Target target))))

  -- ---- all

  operation_done : (o : Op) → IsRooted t → StandsLive s t → ComesTo (IsDone s t) (operate s t o)
  operation_done (op.List path) r live = list_done path
  operation_done (op.Stat path) r live = stat_done path
  operation_done (op.Read path at count) r live = read_done path at count
  operation_done (op.Create path) r live = create_done path
  operation_done (op.Mkdir path) r live = mkdir_done path
  operation_done (op.Write path at bytes) r live = write_done path at bytes
  operation_done (op.Fill path at count byte) r live = write_done path at (replicate count byte)
  operation_done (op.Truncate path size) r live = truncate_done path size
  operation_done (op.Remove path) r live = remove_done path
  operation_done (op.RemoveDir path) r live = remove_dir_done path
  operation_done (op.Rename from to) r live = rename_done from to
  operation_done (op.Link old new) r live = link_done old new r live
  operation_done (op.Symlink target new) r live = symlink_done target new
  operation_done (op.ReadLink path) r live = read_link_done path
  operation_done (op.Chmod path mode) r live = attr_done path (with_mode s.moment mode) (λ a. mode_kind (a.mode / 4096) mode)
  operation_done (op.Chown path uid gid) r live = attr_done path (with_owner s.moment uid gid) (λ a. refl)
  operation_done (op.Utime path atime mtime) r live = attr_done path (with_times s.moment atime mtime) (λ a. refl)

-- the edit of an operation is one of the eight
pub edit_done : (s : Setting) (t : Tree) (o : Op) (is_removing : Bool) (e : Edit) → IsRooted t → StandsLive s t → operate s t o ≡ Ok (Edits is_removing e) → IsDone s t e
edit_done s t o is_removing e r live is = (operation_done s t o r live).comes is_removing e is
