-- What paths are refused for before the tree is read they are refused for over every tree.
use Rattle.std.proofs.Common.{◌≡◌, ℕ, List, length, ap}
use Rattle.std.specs.Prelude.{not, Option, Result, Ok, Err, ok_or}
use Rattle.std.specs.List.{range_with_len}
use Rattle.qx_geom.specs.Pointer.{ceil_div}
use Rattle.qx_model.specs.declared.operation.Op.{Op}
use Rattle.qx_model.specs.declared.operation.Op.TheVariants as op
use Rattle.qx_model.specs.declared.refusal.Refusal.{Refusal}
use Rattle.qx_model.specs.declared.refusal.Refusal.TheVariants as refusal
use Rattle.qx_model.specs.Outcomes.{◌>>=◌, ◌>>◌, refuse_if}
use Rattle.qx_model.specs.Tree.{Tree}
use Rattle.qx_model.specs.Directories.{is_directory}
use Rattle.qx_model.specs.Paths.{Followed, Itself, LastLink, Named, inode_at, links_allowed, named, parent_at, parsed, place_at, start_of_walk, walk}
use Rattle.qx_model.specs.Edits.{Setting, new_inode, new_link}
use Rattle.qx_model.specs.Effects.{Effect, done}
use Rattle.qx_model.specs.NewNames.{made_at, new_place, symlink}
use Rattle.qx_model.specs.LostNames.{rename, rename_to, row_at}
use Rattle.qx_model.specs.Operate.{operate}
use Rattle.qx_model.specs.TreeReads.{name_start, names_start, operation_start, walk_start}

-- ---- parts of a definition by `do`

-- a refusal ends all that follows
refused_here : {A B : Type 0} (x : Result A Refusal) (rest : A → Result B Refusal) (r : Refusal) → x ≡ Err r → (x >>= rest) ≡ Err r
refused_here x rest r h = ap (λ y. y >>= rest) h

-- where the refusal comes from one of two parts, and what follows each refuses as the other does
refused_alike : {A B C : Type 0} (x : Result A Refusal) (first : A → Result B Refusal) (second : A → Result C Refusal) (r : Refusal) → (x >>= first) ≡ Err r → ((a : A) → first a ≡ Err r → second a ≡ Err r) → (x >>= second) ≡ Err r
refused_alike (Ok a) first second r h alike = alike a h
refused_alike (Err e) first second r h alike = let same : e ≡ r = cc in ap (λ z. Err z) same

-- the same where the first part says nothing
refused_then : {A B C : Type 0} (x : Result A Refusal) (first : Result B Refusal) (second : A → Result C Refusal) (r : Refusal) → (x >> first) ≡ Err r → ((a : A) → first ≡ Err r → second a ≡ Err r) → (x >>= second) ≡ Err r
refused_then (Ok a) first second r h alike = alike a h
refused_then (Err e) first second r h alike = let same : e ≡ r = cc in ap (λ z. Err z) same

-- ---- walks

-- the walk of a path
pub walk_refused : (t : Tree) (base : Option ℕ) (last : LastLink) (path : List ℕ) (r : Refusal) → walk_start base path ≡ Err r → inode_at t base last path ≡ Err r
walk_refused t base last path r h =
    refused_alike (parsed path) (λ p. start_of_walk p base) (λ p. start_of_walk p base >>= λ from. walk links_allowed t last from p.names) r h
    (λ p. refused_here (start_of_walk p base) (λ from. walk links_allowed t last from p.names) r)

parent_refused : (t : Tree) (base : Option ℕ) (n : Named) (r : Refusal) → start_of_walk n.parents base ≡ Err r → parent_at t base n ≡ Err r
parent_refused t base n r h =
    refused_here (start_of_walk n.parents base) (λ from. walk links_allowed t Followed from n.parents.names >>= λ d. (refuse_if (not (is_directory t d)) refusal.NotDir >> Ok d)) r h

place_refused : (t : Tree) (base : Option ℕ) (path : List ℕ) (r : Refusal) → name_start base path ≡ Err r → place_at t base path ≡ Err r
place_refused t base path r h =
    refused_alike (parsed path) (λ p. named p >>= λ n. start_of_walk n.parents base) (λ p. named p >>= λ n. (parent_at t base n >>= λ d. Ok (record { directory = d; name = n.name }))) r h
    (λ p g. refused_alike (named p) (λ n. start_of_walk n.parents base) (λ n. parent_at t base n >>= λ d. Ok (record { directory = d; name = n.name })) r g
    (λ n f. refused_here (parent_at t base n) (λ d. Ok (record { directory = d; name = n.name })) r (parent_refused t base n r f)))

-- ---- operations

module _ (s : Setting) (t : Tree) where
  -- a move, once both names are known
  abbrev moving : Named → Named → Result Effect Refusal
  moving old new =
      parent_at t s.base old
      >>= λ d. (ok_or (row_at t (record { directory = d; name = old.name })) refusal.NoEntry
      >>= λ row. (parent_at t s.base new >>= λ c. rename_to s t row (record { directory = c; name = new.name }) (row_at t (record { directory = c; name = new.name }))))

  rename_refused : (from to : List ℕ) (r : Refusal) → names_start s.base from to ≡ Err r → rename s t from to ≡ Err r
  rename_refused from to r h =
      refused_alike (parsed from) (λ p. parsed to >>= λ q. (named p >>= λ old. (named q >>= λ _. start_of_walk old.parents s.base)))
      (λ p. parsed to >>= λ q. (named p >>= λ old. (named q >>= λ new. moving old new))) r h
      (λ p g. refused_alike (parsed to) (λ q. named p >>= λ old. (named q >>= λ _. start_of_walk old.parents s.base)) (λ q. named p >>= λ old. (named q >>= λ new. moving old new)) r g
      (λ q f. refused_alike (named p) (λ old. named q >>= λ _. start_of_walk old.parents s.base) (λ old. named q >>= λ new. moving old new) r f
      (λ old e. refused_alike (named q) (λ _. start_of_walk old.parents s.base) (λ new. moving old new) r e (λ new d. rw (parent_refused t s.base old r d)))))

  symlink_refused : (target new : List ℕ) (r : Refusal) → (parsed target >> name_start s.base new) ≡ Err r → symlink s t target new ≡ Err r
  symlink_refused target new r h =
      refused_then (parsed target) (name_start s.base new)
      (λ _. new_place s t new >>= λ p. (new_inode t >>= λ n. Ok (done (made_at s t p n (new_link s.blocksize s.moment target) (range_with_len 0 (ceil_div (length target) s.blocksize)))))) r h
      (λ _ g. rw (place_refused t s.base new r g))

-- an operation
pub operation_refused : (s : Setting) (t : Tree) (o : Op) (r : Refusal) → operation_start s.base o ≡ Err r → operate s t o ≡ Err r
operation_refused s t (op.List path) r h = rw (walk_refused t s.base Followed path r h)
operation_refused s t (op.Stat path) r h = rw (walk_refused t s.base Itself path r h)
operation_refused s t (op.Read path at count) r h = rw (walk_refused t s.base Followed path r h)
operation_refused s t (op.Create path) r h = rw (place_refused t s.base path r h)
operation_refused s t (op.Mkdir path) r h = rw (place_refused t s.base path r h)
operation_refused s t (op.Write path at bytes) r h = rw (walk_refused t s.base Followed path r h)
operation_refused s t (op.Fill path at count byte) r h = rw (walk_refused t s.base Followed path r h)
operation_refused s t (op.Truncate path size) r h = rw (walk_refused t s.base Followed path r h)
operation_refused s t (op.Remove path) r h = rw (place_refused t s.base path r h)
operation_refused s t (op.RemoveDir path) r h = rw (place_refused t s.base path r h)
operation_refused s t (op.Rename from to) r h = rename_refused s t from to r h
operation_refused s t (op.Link old new) r h = rw (walk_refused t s.base Itself old r h)
operation_refused s t (op.Symlink target new) r h = symlink_refused s t target new r h
operation_refused s t (op.ReadLink path) r h = rw (walk_refused t s.base Itself path r h)
operation_refused s t (op.Chmod path mode) r h = rw (walk_refused t s.base Followed path r h)
operation_refused s t (op.Chown path uid gid) r h = rw (walk_refused t s.base Followed path r h)
operation_refused s t (op.Utime path atime mtime) r h = rw (walk_refused t s.base Followed path r h)
