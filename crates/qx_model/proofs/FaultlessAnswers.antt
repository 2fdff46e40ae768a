-- What the machine answers by itself tells of no fault: no refusal of an operation is one for a fault.
use Rattle.std.proofs.Common.{◌≡◌, ℕ, zero, suc, ◌+◌, List, [], ◌∷◌, ◌++◌, length, refl}
use Rattle.std.specs.Prelude.{Bool, true, false, not, ◌&&◌, Option, Some, None, Result, Ok, Err, bytes_eq, filter_map, is_none, is_some, nat_lt, ok_or, option_map, position, replicate, slice_range, ◌==◌, if◌then◌else◌}
use Rattle.std.specs.List.{range_with_len}
use Rattle.qx_path.specs.declared.fault.PathFault.{PathFault}
use Rattle.qx_path.specs.declared.fault.PathFault.TheVariants as faults
use Rattle.qx_path.specs.PathParts.{PathParts, last_name, path_of}
use Rattle.qx_geom.specs.Pointer.{ceil_div}
use Rattle.qx_outside.specs.Trail.{resized}
use Rattle.qx_geom.specs.Room.{greatest_end}
use Rattle.qx_model.specs.declared.attr.Attr.{Attr}
use Rattle.qx_model.specs.declared.operation.Op.{Op}
use Rattle.qx_model.specs.declared.operation.Op.TheVariants as op
use Rattle.qx_model.specs.declared.refusal.Refusal.{Refusal}
use Rattle.qx_model.specs.declared.refusal.Refusal.TheVariants as refusal
use Rattle.qx_model.specs.declared.reply.Reply.TheVariants as reply
use Rattle.qx_model.specs.Outcomes.{◌>>=◌, ◌>>◌, refuse_if}
use Rattle.qx_model.specs.Tree.{Body, Directory, File, Link, Special, Tree, entry_of, is_dots, slots_of}
use Rattle.qx_model.specs.Directories.{inode_named, is_bare, is_directory, is_special, is_within}
use Rattle.qx_model.specs.Paths.{Followed, Itself, LastLink, Lead, Named, Place, Through, To, inode_at, is_followed, lead, lead_by, lead_from, lead_in, lead_to, links_allowed, named, parent_at, parents_of, parsed, path_or, place_at, start_in, start_of_walk, walk, walk_by}
use Rattle.qx_model.specs.EmptyTree.{new_directory}
use Rattle.qx_model.specs.Edits.{Edit, Setting, add_row, attr_changed, new_inode, new_link, unchanged, with_attr}
use Rattle.qx_model.specs.Effects.{Answers, Edits, Effect, done, effect_reply, removed}
use Rattle.qx_model.specs.Answering.{FileAt, content_of_body, file_at, file_in, list, read, read_link, row_view, stat, stat_view, target_of_body}
use Rattle.qx_model.specs.NewNames.{create, empty_file, link, made_at, mkdir, new_place, symlink}
use Rattle.qx_model.specs.LostNames.{RowAt, moved_onto, moved_to, refuse_into, refuse_onto, remove, remove_dir, rename, rename_to, replace, row_at, without_row}
use Rattle.qx_model.specs.Contents.{change_attr, cut_leaves, rewriting, truncate, with_mode, with_owner, with_times, write, written_at}
use Rattle.qx_model.specs.Operate.{operate}
use Rattle.qx_model.specs.Faults.{is_fault_refusal, is_fault_reply}

-- ---- parts of a definition by `do`

-- a refusal, if it is one, is for no fault
unfoldable pub Faultless : {A : Type 0} → Result A Refusal → Type 0
Faultless (Ok a) = Unit {0}
Faultless (Err r) = is_fault_refusal r ≡ false

-- the same of an operation, whose answer tells of none
unfoldable pub Answered : Result Effect Refusal → Type 0
Answered (Ok e) = is_fault_reply (effect_reply e) ≡ false
Answered (Err r) = is_fault_refusal r ≡ false

pub rest_faultless : {A B : Type 0} (x : Result A Refusal) (rest : A → Result B Refusal) → Faultless x → ((a : A) → Faultless (rest a)) → Faultless (x >>= rest)
unfolding Faultless
rest_faultless (Ok a) rest f g = g a
rest_faultless (Err r) rest f g = f

pub test_faultless : {A : Type 0} (b : Bool) (r : Refusal) (rest : Result A Refusal) → is_fault_refusal r ≡ false → Faultless rest → Faultless (refuse_if b r >> rest)
unfolding Faultless
test_faultless true r rest f g = f
test_faultless false r rest f g = g

value_faultless : {A : Type 0} (o : Option A) (r : Refusal) → is_fault_refusal r ≡ false → Faultless (ok_or o r)
unfolding Faultless
value_faultless (Some a) r f = tt
value_faultless None r f = f

pub ok_faultless : {A : Type 0} (a : A) → (let x : Result A Refusal = Ok a in Faultless x)
unfolding Faultless
ok_faultless a = tt

rest_answered : {A : Type 0} (x : Result A Refusal) (rest : A → Result Effect Refusal) → Faultless x → ((a : A) → Answered (rest a)) → Answered (x >>= rest)
unfolding Faultless Answered
rest_answered (Ok a) rest f g = g a
rest_answered (Err r) rest f g = f

then_answered : {A : Type 0} (x : Result A Refusal) (rest : Result Effect Refusal) → Faultless x → Answered rest → Answered (x >> rest)
unfolding Faultless Answered
then_answered (Ok a) rest f g = g
then_answered (Err r) rest f g = f

test_answered : (b : Bool) (r : Refusal) (rest : Result Effect Refusal) → is_fault_refusal r ≡ false → Answered rest → Answered (refuse_if b r >> rest)
unfolding Answered
test_answered true r rest f g = f
test_answered false r rest f g = g

-- ---- paths

parsed_faultless : (bytes : List ℕ) → Faultless (parsed bytes)
unfolding Faultless
parsed_faultless bytes = go (path_of bytes)
  where
    go : (x : Result PathParts PathFault) → Faultless (path_or x)
    go (Ok p) = tt
    go (Err faults.Empty) = refl
    go (Err faults.TooLong) = refl
    go (Err faults.ZeroByte) = refl
    go (Err faults.NameTooLong) = refl

start_faultless : (p : PathParts) (base : Option ℕ) → Faultless (start_of_walk p base)
unfolding Faultless
start_faultless p (Some base) = tt
start_faultless p None = go p.absolute
  where
    go : (b : Bool) → Faultless {A = ℕ} (if b then Ok 1 else Err refusal.NoEntry)
    go true = tt
    go false = refl

lead_to_faultless : (t : Tree) (follow : Bool) (n : ℕ) → Faultless (lead_to t follow n)
lead_to_faultless t follow n =
    rest_faultless (ok_or (entry_of t n) refusal.NoEntry) (λ e. Ok (lead_by follow n e.body)) (value_faultless (entry_of t n) refusal.NoEntry refl) (λ e. ok_faultless (lead_by follow n e.body))

lead_in_faultless : (t : Tree) (follow : Bool) (d parent : ℕ) (name : List ℕ) → Faultless (lead_in t follow d parent name)
unfolding Faultless
lead_in_faultless t follow d parent name = go (bytes_eq name (46 ∷ [])) (bytes_eq name (46 ∷ 46 ∷ []))
  where
    go : (dot dots : Bool) → Faultless {A = Lead} (if dot then Ok (To d) else if dots then Ok (To parent) else (ok_or (inode_named t d name) refusal.NoEntry >>= lead_to t follow))
    go true dots = tt
    go false true = tt
    go false false = rest_faultless (ok_or (inode_named t d name) refusal.NoEntry) (lead_to t follow) (value_faultless (inode_named t d name) refusal.NoEntry refl) (lead_to_faultless t follow)

lead_from_faultless : (t : Tree) (follow : Bool) (at : ℕ) (name : List ℕ) (b : Body) → Faultless (lead_from t follow at name b)
unfolding Faultless
lead_from_faultless t follow at name (Directory slots parent) = lead_in_faultless t follow at parent name
lead_from_faultless t follow at name (File content) = refl
lead_from_faultless t follow at name (Link target) = refl
lead_from_faultless t follow at name Special = refl

lead_faultless : (t : Tree) (follow : Bool) (at : ℕ) (name : List ℕ) → Faultless (lead t follow at name)
lead_faultless t follow at name =
    rest_faultless (ok_or (entry_of t at) refusal.NoEntry) (λ e. lead_from t follow at name e.body) (value_faultless (entry_of t at) refusal.NoEntry refl) (λ e. lead_from_faultless t follow at name e.body)

walk_by_faultless : (t : Tree) (last : LastLink) (jump : ℕ → List ℕ → List (List ℕ) → Result ℕ Refusal) → ((at : ℕ) (target : List ℕ) (rest : List (List ℕ)) → Faultless (jump at target rest))
    → (at : ℕ) (names : List (List ℕ)) → Faultless (walk_by t last jump at names)
unfolding Faultless
walk_by_faultless t last jump f at [] = tt
walk_by_faultless t last jump f at (name ∷ rest) =
    rest_faultless (lead t (is_followed last rest) at name) (λ l. elim l [ To n ↦ walk_by t last jump n rest | Through target ↦ jump at target rest ])
    (lead_faultless t (is_followed last rest) at name) (λ l. on (λ n. walk_by_faultless t last jump f n rest) l)
  where
    on : ((n : ℕ) → Faultless (walk_by t last jump n rest)) → (l : Lead) → Faultless (elim l [ To n ↦ walk_by t last jump n rest | Through target ↦ jump at target rest ])
    on g (To n) = g n
    on g (Through target) = f at target rest

walk_faultless : (links : ℕ) (t : Tree) (last : LastLink) (at : ℕ) (names : List (List ℕ)) → Faultless (walk links t last at names)
unfolding Faultless
walk_faultless zero t last at names = walk_by_faultless t last (λ at target rest. Err refusal.LinkLoop) (λ at target rest. refl) at names
walk_faultless (suc links) t last at names =
    walk_by_faultless t last (λ at target rest. parsed target >>= λ p. walk links t last (start_in p at) (p.names ++ rest))
    (λ at target rest. rest_faultless (parsed target) (λ p. walk links t last (start_in p at) (p.names ++ rest)) (parsed_faultless target) (λ p. walk_faultless links t last (start_in p at) (p.names ++ rest)))
    at names

pub inode_faultless : (t : Tree) (base : Option ℕ) (last : LastLink) (bytes : List ℕ) → Faultless (inode_at t base last bytes)
inode_faultless t base last bytes =
    rest_faultless (parsed bytes) (λ p. start_of_walk p base >>= λ from. walk links_allowed t last from p.names) (parsed_faultless bytes)
    (λ p. rest_faultless (start_of_walk p base) (λ from. walk links_allowed t last from p.names) (start_faultless p base) (λ from. walk_faultless links_allowed t last from p.names))

named_faultless : (p : PathParts) → Faultless (named p)
named_faultless p =
    rest_faultless (ok_or (last_name p) refusal.Reserved) (λ name. refuse_if (is_dots name) refusal.Reserved >> Ok (let n : Named = record { parents = parents_of p; name = name } in n))
    (value_faultless (last_name p) refusal.Reserved refl)
    (λ name. test_faultless (is_dots name) refusal.Reserved (Ok (let n : Named = record { parents = parents_of p; name = name } in n)) refl (ok_faultless (let n : Named = record { parents = parents_of p; name = name } in n)))

parent_faultless : (t : Tree) (base : Option ℕ) (n : Named) → Faultless (parent_at t base n)
parent_faultless t base n =
    rest_faultless (start_of_walk n.parents base) (λ from. walk links_allowed t Followed from n.parents.names >>= λ d. refuse_if (not (is_directory t d)) refusal.NotDir >> Ok d) (start_faultless n.parents base)
    (λ from. rest_faultless (walk links_allowed t Followed from n.parents.names) (λ d. refuse_if (not (is_directory t d)) refusal.NotDir >> Ok d) (walk_faultless links_allowed t Followed from n.parents.names)
    (λ d. test_faultless (not (is_directory t d)) refusal.NotDir (Ok d) refl (ok_faultless d)))

place_faultless : (t : Tree) (base : Option ℕ) (bytes : List ℕ) → Faultless (place_at t base bytes)
place_faultless t base bytes =
    rest_faultless (parsed bytes) (λ p. named p >>= λ n. (parent_at t base n >>= λ d. Ok (let q : Place = record { directory = d; name = n.name } in q))) (parsed_faultless bytes)
    (λ p. rest_faultless (named p) (λ n. parent_at t base n >>= λ d. Ok (let q : Place = record { directory = d; name = n.name } in q)) (named_faultless p)
    (λ n. rest_faultless (parent_at t base n) (λ d. Ok (let q : Place = record { directory = d; name = n.name } in q)) (parent_faultless t base n) (λ d. ok_faultless (let q : Place = record { directory = d; name = n.name } in q))))

-- ---- operations that only read

list_answered : (s : Setting) (t : Tree) (path : List ℕ) → Answered (list s t path)
unfolding Answered
list_answered s t path =
    rest_answered (inode_at t s.base Followed path) (λ n. refuse_if (not (is_directory t n)) refusal.NotDir >> Ok (Answers (reply.Rows (filter_map row_view (slots_of t n))))) (inode_faultless t s.base Followed path)
    (λ n. test_answered (not (is_directory t n)) refusal.NotDir (Ok (Answers (reply.Rows (filter_map row_view (slots_of t n))))) refl refl)

stat_answered : (s : Setting) (t : Tree) (path : List ℕ) → Answered (stat s t path)
unfolding Answered
stat_answered s t path =
    rest_answered (inode_at t s.base Itself path) (λ n. ok_or (entry_of t n) refusal.NoEntry >>= λ e. Ok (Answers (reply.Stat (stat_view t n e)))) (inode_faultless t s.base Itself path)
    (λ n. rest_answered (ok_or (entry_of t n) refusal.NoEntry) (λ e. Ok (Answers (reply.Stat (stat_view t n e)))) (value_faultless (entry_of t n) refusal.NoEntry refl) (λ e. refl))

content_faultless : (b : Body) → Faultless (content_of_body b)
unfolding Faultless
content_faultless (Directory slots parent) = refl
content_faultless (File content) = tt
content_faultless (Link target) = refl
content_faultless Special = refl

file_in_faultless : (t : Tree) (n : ℕ) → Faultless (file_in t n)
file_in_faultless t n =
    rest_faultless (ok_or (entry_of t n) refusal.NoEntry) (λ e. content_of_body e.body >>= λ content. Ok (let f : FileAt = record { inode = n; entry = e; content = content } in f)) (value_faultless (entry_of t n) refusal.NoEntry refl)
    (λ e. rest_faultless (content_of_body e.body) (λ content. Ok (let f : FileAt = record { inode = n; entry = e; content = content } in f)) (content_faultless e.body)
    (λ content. ok_faultless (let f : FileAt = record { inode = n; entry = e; content = content } in f)))

file_faultless : (s : Setting) (t : Tree) (path : List ℕ) → Faultless (file_at s t path)
file_faultless s t path = rest_faultless (inode_at t s.base Followed path) (file_in t) (inode_faultless t s.base Followed path) (file_in_faultless t)

read_answered : (s : Setting) (t : Tree) (path : List ℕ) (at count : ℕ) → Answered (read s t path at count)
unfolding Answered
read_answered s t path at count = rest_answered (file_at s t path) (λ f. Ok (Answers (reply.Bytes (slice_range f.content at (at + count))))) (file_faultless s t path) (λ f. refl)

target_faultless : (b : Body) → Faultless (target_of_body b)
unfolding Faultless
target_faultless (Directory slots parent) = refl
target_faultless (File content) = refl
target_faultless (Link target) = tt
target_faultless Special = refl

read_link_answered : (s : Setting) (t : Tree) (path : List ℕ) → Answered (read_link s t path)
unfolding Answered
read_link_answered s t path =
    rest_answered (inode_at t s.base Itself path) (λ n. ok_or (entry_of t n) refusal.NoEntry >>= λ e. (target_of_body e.body >>= λ target. Ok (Answers (reply.Target target)))) (inode_faultless t s.base Itself path)
    (λ n. rest_answered (ok_or (entry_of t n) refusal.NoEntry) (λ e. target_of_body e.body >>= λ target. Ok (Answers (reply.Target target))) (value_faultless (entry_of t n) refusal.NoEntry refl)
    (λ e. rest_answered (target_of_body e.body) (λ target. Ok (Answers (reply.Target target))) (target_faultless e.body) (λ target. refl)))

-- ---- operations that make a name

new_place_faultless : (s : Setting) (t : Tree) (path : List ℕ) → Faultless (new_place s t path)
new_place_faultless s t path =
    rest_faultless (place_at t s.base path) (λ p. refuse_if (is_some (inode_named t p.directory p.name)) refusal.Exists >> Ok p) (place_faultless t s.base path)
    (λ p. test_faultless (is_some (inode_named t p.directory p.name)) refusal.Exists (Ok p) refl (ok_faultless p))

new_inode_faultless : (t : Tree) → Faultless (new_inode t)
new_inode_faultless t = value_faultless (option_map (λ k. k + 1) (position (λ e. is_none e) t.inodes)) refusal.NoInodes refl

-- a new inode at a new place
made_answered : (s : Setting) (t : Tree) (path : List ℕ) (made : Place → ℕ → Edit) → Answered (new_place s t path >>= λ p. (new_inode t >>= λ n. Ok (done (made p n))))
unfolding Answered
made_answered s t path made =
    rest_answered (new_place s t path) (λ p. new_inode t >>= λ n. Ok (done (made p n))) (new_place_faultless s t path)
    (λ p. rest_answered (new_inode t) (λ n. Ok (done (made p n))) (new_inode_faultless t) (λ n. refl))

create_answered : (s : Setting) (t : Tree) (path : List ℕ) → Answered (create s t path)
create_answered s t path = made_answered s t path (λ p n. made_at s t p n (empty_file s.moment) [])

mkdir_answered : (s : Setting) (t : Tree) (path : List ℕ) → Answered (mkdir s t path)
mkdir_answered s t path = made_answered s t path (λ p n. made_at s t p n (new_directory s.blocksize n p.directory s.moment) (0 ∷ []))

symlink_answered : (s : Setting) (t : Tree) (target path : List ℕ) → Answered (symlink s t target path)
symlink_answered s t target path =
    rest_answered (parsed target)
    (λ _. new_place s t path >>= λ p. (new_inode t >>= λ n. Ok (done (made_at s t p n (new_link s.blocksize s.moment target) (range_with_len 0 (ceil_div (length target) s.blocksize))))))
    (parsed_faultless target) (λ _. made_answered s t path (λ p n. made_at s t p n (new_link s.blocksize s.moment target) (range_with_len 0 (ceil_div (length target) s.blocksize))))

-- one more row for an inode
abbrev linked : Setting → Tree → ℕ → Place → Edit
linked s t n p = with_attr n (attr_changed s.moment) (add_row s p.directory n p.name (unchanged t))

link_answered : (s : Setting) (t : Tree) (old new : List ℕ) → Answered (link s t old new)
unfolding Answered
link_answered s t old new =
    rest_answered (inode_at t s.base Itself old)
    (λ n. refuse_if (is_directory t n) refusal.IsDir >> (refuse_if (is_special t n) refusal.WrongKind >> (new_place s t new >>= λ p. Ok (done (linked s t n p)))))
    (inode_faultless t s.base Itself old)
    (λ n. test_answered (is_directory t n) refusal.IsDir (refuse_if (is_special t n) refusal.WrongKind >> (new_place s t new >>= λ p. Ok (done (linked s t n p)))) refl
    (test_answered (is_special t n) refusal.WrongKind (new_place s t new >>= λ p. Ok (done (linked s t n p))) refl
    (rest_answered (new_place s t new) (λ p. Ok (done (linked s t n p))) (new_place_faultless s t new) (λ p. refl))))

-- ---- operations that take a name away or move it

remove_answered : (s : Setting) (t : Tree) (path : List ℕ) → Answered (remove s t path)
unfolding Answered
remove_answered s t path =
    rest_answered (place_at t s.base path) (λ p. ok_or (row_at t p) refusal.NoEntry >>= λ row. (refuse_if (is_directory t row.inode) refusal.IsDir >> Ok (removed (without_row s t row)))) (place_faultless t s.base path)
    (λ p. rest_answered (ok_or (row_at t p) refusal.NoEntry) (λ row. refuse_if (is_directory t row.inode) refusal.IsDir >> Ok (removed (without_row s t row))) (value_faultless (row_at t p) refusal.NoEntry refl)
    (λ row. test_answered (is_directory t row.inode) refusal.IsDir (Ok (removed (without_row s t row))) refl refl))

remove_dir_answered : (s : Setting) (t : Tree) (path : List ℕ) → Answered (remove_dir s t path)
unfolding Answered
remove_dir_answered s t path =
    rest_answered (place_at t s.base path)
    (λ p. ok_or (row_at t p) refusal.NoEntry >>= λ row. (refuse_if (not (is_directory t row.inode)) refusal.NotDir >> (refuse_if (not (is_bare t row.inode)) refusal.NotEmpty >> Ok (removed (without_row s t row)))))
    (place_faultless t s.base path)
    (λ p. rest_answered (ok_or (row_at t p) refusal.NoEntry)
    (λ row. refuse_if (not (is_directory t row.inode)) refusal.NotDir >> (refuse_if (not (is_bare t row.inode)) refusal.NotEmpty >> Ok (removed (without_row s t row))))
    (value_faultless (row_at t p) refusal.NoEntry refl)
    (λ row. test_answered (not (is_directory t row.inode)) refusal.NotDir (refuse_if (not (is_bare t row.inode)) refusal.NotEmpty >> Ok (removed (without_row s t row))) refl
    (test_answered (not (is_bare t row.inode)) refusal.NotEmpty (Ok (removed (without_row s t row))) refl refl)))

refuse_faultless : (b : Bool) (r : Refusal) → is_fault_refusal r ≡ false → Faultless (refuse_if b r)
unfolding Faultless
refuse_faultless true r f = f
refuse_faultless false r f = tt

onto_faultless : (t : Tree) (m n : ℕ) → Faultless (refuse_onto t m n)
onto_faultless t m n =
    test_faultless (is_directory t n && not (is_directory t m)) refusal.IsDir
    (refuse_if (is_directory t m && not (is_directory t n)) refusal.NotDir >> refuse_if (is_directory t n && not (is_bare t n)) refusal.NotEmpty) refl
    (test_faultless (is_directory t m && not (is_directory t n)) refusal.NotDir (refuse_if (is_directory t n && not (is_bare t n)) refusal.NotEmpty) refl
    (refuse_faultless (is_directory t n && not (is_bare t n)) refusal.NotEmpty refl))

replace_answered : (s : Setting) (t : Tree) (from old : RowAt) → Answered (replace s t from old)
unfolding Answered
replace_answered s t from old =
    then_answered (refuse_into t from old.directory) (refuse_onto t from.inode old.inode >> Ok (done (moved_onto s t from old)))
    (refuse_faultless (is_directory t from.inode && is_within t from.inode old.directory) refusal.IntoItself refl)
    (then_answered (refuse_onto t from.inode old.inode) (Ok (done (moved_onto s t from old))) (onto_faultless t from.inode old.inode) refl)

rename_to_answered : (s : Setting) (t : Tree) (from : RowAt) (to : Place) (o : Option RowAt) → Answered (rename_to s t from to o)
unfolding Answered
rename_to_answered s t from to None =
    then_answered (refuse_into t from to.directory) (Ok (done (moved_to s t from to))) (refuse_faultless (is_directory t from.inode && is_within t from.inode to.directory) refusal.IntoItself refl) refl
rename_to_answered s t from to (Some old) = go (old.inode == from.inode)
  where
    go : (b : Bool) → Answered (if b then Ok (Answers reply.Done) else replace s t from old)
    go true = refl
    go false = replace_answered s t from old

module _ (s : Setting) (t : Tree) where
  abbrev place_in : ℕ → Named → Place
  place_in d n = record { directory = d; name = n.name }

  -- a move, once both names are known
  abbrev moving : Named → Named → Result Effect Refusal
  moving old new =
      parent_at t s.base old
      >>= λ d. (ok_or (row_at t (place_in d old)) refusal.NoEntry >>= λ row. (parent_at t s.base new >>= λ c. rename_to s t row (place_in c new) (row_at t (place_in c new))))

  moving_answered : (old new : Named) → Answered (moving old new)
  moving_answered old new =
      rest_answered (parent_at t s.base old)
      (λ d. ok_or (row_at t (place_in d old)) refusal.NoEntry >>= λ row. (parent_at t s.base new >>= λ c. rename_to s t row (place_in c new) (row_at t (place_in c new)))) (parent_faultless t s.base old)
      (λ d. rest_answered (ok_or (row_at t (place_in d old)) refusal.NoEntry) (λ row. parent_at t s.base new >>= λ c. rename_to s t row (place_in c new) (row_at t (place_in c new)))
      (value_faultless (row_at t (place_in d old)) refusal.NoEntry refl)
      (λ row. rest_answered (parent_at t s.base new) (λ c. rename_to s t row (place_in c new) (row_at t (place_in c new))) (parent_faultless t s.base new)
      (λ c. rename_to_answered s t row (place_in c new) (row_at t (place_in c new)))))

  rename_answered : (from to : List ℕ) → Answered (rename s t from to)
  rename_answered from to =
      rest_answered (parsed from) (λ p. parsed to >>= λ q. (named p >>= λ old. (named q >>= λ new. moving old new))) (parsed_faultless from)
      (λ p. rest_answered (parsed to) (λ q. named p >>= λ old. (named q >>= λ new. moving old new)) (parsed_faultless to)
      (λ q. rest_answered (named p) (λ old. named q >>= λ new. moving old new) (named_faultless p)
      (λ old. rest_answered (named q) (λ new. moving old new) (named_faultless q) (λ new. moving_answered old new))))

-- ---- operations on bytes and attributes

write_answered : (s : Setting) (t : Tree) (path : List ℕ) (at : ℕ) (bytes : List ℕ) → Answered (write s t path at bytes)
unfolding Answered
write_answered s t path at bytes =
    rest_answered (file_at s t path) (λ f. refuse_if (nat_lt greatest_end (at + length bytes)) refusal.FileTooBig >> Ok (done (written_at s t f at bytes))) (file_faultless s t path)
    (λ f. test_answered (nat_lt greatest_end (at + length bytes)) refusal.FileTooBig (Ok (done (written_at s t f at bytes))) refl refl)

truncate_answered : (s : Setting) (t : Tree) (path : List ℕ) (size : ℕ) → Answered (truncate s t path size)
unfolding Answered
truncate_answered s t path size =
    rest_answered (file_at s t path)
    (λ f. refuse_if (nat_lt greatest_end size) refusal.FileTooBig >> Ok (Edits (nat_lt size f.entry.size) (rewriting s t f size (resized f.content size) (cut_leaves s.blocksize f.entry size)))) (file_faultless s t path)
    (λ f. test_answered (nat_lt greatest_end size) refusal.FileTooBig (Ok (Edits (nat_lt size f.entry.size) (rewriting s t f size (resized f.content size) (cut_leaves s.blocksize f.entry size)))) refl refl)

attr_answered : (s : Setting) (t : Tree) (path : List ℕ) (change : Attr → Attr) → Answered (change_attr s t path change)
unfolding Answered
attr_answered s t path change = rest_answered (inode_at t s.base Followed path) (λ n. Ok (done (with_attr n change (unchanged t)))) (inode_faultless t s.base Followed path) (λ n. refl)

-- ---- all operations

-- what an operation comes to tells of no fault
pub operation_answered : (s : Setting) (t : Tree) (o : Op) → Answered (operate s t o)
operation_answered s t (op.List path) = list_answered s t path
operation_answered s t (op.Stat path) = stat_answered s t path
operation_answered s t (op.Read path at count) = read_answered s t path at count
operation_answered s t (op.Create path) = create_answered s t path
operation_answered s t (op.Mkdir path) = mkdir_answered s t path
operation_answered s t (op.Write path at bytes) = write_answered s t path at bytes
operation_answered s t (op.Fill path at count byte) = write_answered s t path at (replicate count byte)
operation_answered s t (op.Truncate path size) = truncate_answered s t path size
operation_answered s t (op.Remove path) = remove_answered s t path
operation_answered s t (op.RemoveDir path) = remove_dir_answered s t path
operation_answered s t (op.Rename from to) = rename_answered s t from to
operation_answered s t (op.Link old new) = link_answered s t old new
operation_answered s t (op.Symlink target new) = symlink_answered s t target new
operation_answered s t (op.ReadLink path) = read_link_answered s t path
operation_answered s t (op.Chmod path mode) = attr_answered s t path (with_mode s.moment mode)
operation_answered s t (op.Chown path uid gid) = attr_answered s t path (with_owner s.moment uid gid)
operation_answered s t (op.Utime path atime mtime) = attr_answered s t path (with_times s.moment atime mtime)
