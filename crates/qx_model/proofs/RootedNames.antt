-- Operations that make a name leave a tree rooted.
use Rattle.std.proofs.Common.{◌≡◌, ℕ, zero, suc, ◌-◌, ◌/◌, ◌⊎◌, inl, inr, List, [], ◌∷◌, ◌++◌, length, refl, sym, ap, ◌∙◌, subst}
use Rattle.std.specs.Prelude.{◌≢◌, IsTrue, Bool, true, false, Option, Some, None, Result, Ok, Err, ok_or, bytes_eq, is_some, replicate, option_and_then, if◌then◌else◌}
use Rattle.std.specs.List.{position_or_len, range_with_len}
use Rattle.std.proofs.lemmas.Bool.{cases_eq}
use Rattle.qx_path.specs.PathParts.{PathParts}
use Rattle.qx_geom.specs.Pointer.{ceil_div}
use Rattle.qx_model.specs.declared.refusal.Refusal.{Refusal}
use Rattle.qx_model.specs.declared.refusal.Refusal.TheVariants as refusal
use Rattle.qx_model.specs.Outcomes.{◌>>=◌, ◌>>◌, refuse_if}
use Rattle.qx_model.specs.Tree.{Body, Directory, Entry, File, Link, Row, Slot, Special, Tree, Unused, dot_name, dots_name, entry_of, named_by}
use Rattle.qx_model.specs.Rooted.{IsRooted, is_plain}
use Rattle.qx_model.specs.EmptyTree.{new_directory}
use Rattle.qx_model.specs.Directories.{inode_named, is_directory, is_special, is_unused, parent_of_body}
use Rattle.qx_model.specs.Paths.{Itself, LastLink, Lead, Place, Through, To, inode_at, is_followed, lead, lead_by, lead_from, lead_to, links_allowed, parsed, place_at, start_in, start_of_walk, walk, walk_by}
use Rattle.qx_model.specs.Edits.{Edit, Setting, add_row, attr_changed, new_inode, new_link, number_for, putting, unchanged, with_attr}
use Rattle.qx_model.specs.Effects.{Edits}
use Rattle.qx_model.specs.NewNames.{create, empty_file, link, made_at, mkdir, new_place, symlink}
use Rattle.qx_model.proofs.Outlines.{Absent, AreRowsIn, Dir, IsRootedIn, Outline, Plain, body_outline, entry_outline, entry-other, from_rooted, outline_of, slot_in, slots_in, to_rooted}
use Rattle.qx_model.proofs.AddedRows.{AddsRow, added_rooted, dir_live, dir_parent, naming_live, set_at, set_at-other, set_at-same}
use Rattle.qx_model.proofs.EditOutlines.{IsDirectoryAt, added_outlines, directory_at, directory_outline, directory_slots, new_place_facts, outline-with, unused_place}
use Rattle.qx_model.proofs.Places.{IsPlace, not_taken, ok_some, ok_test, ok_value, place_facts}
use Rattle.qx_model.proofs.RootedContents.{KeepsRooted, attr_rooted, edit_keeps, refuse_keeps, rest_keeps}

-- ---- a new place

-- a place whose name isn't taken
pub record IsNewPlace (t : Tree) (p : Place) : Type 0 where
  pub place : IsPlace t p
  pub free : is_some (inode_named t p.directory p.name) ≡ false

-- the place of a new name is one
pub new_place_is : (s : Setting) (t : Tree) (path : List ℕ) (p : Place) → new_place s t path ≡ Ok p → IsNewPlace t p
new_place_is s t path p h =
    let a = ok_value (place_at t s.base path) _ p h in
    let b = ok_test (is_some (inode_named t a.0.directory a.0.name)) refusal.Exists (Ok a.0) p a.2 in
    let same : a.0 ≡ p = cc in
    subst (IsNewPlace t) same (record { place = place_facts t s.base path a.0 a.1; free = b.0 })

-- ---- a row for an inode that names nothing

-- what the outline of an inode that gets its first row is
record IsFirstOutline (n d : ℕ) (x : Outline) : Type 0 where
  live : x ≢ Absent
  silent : (k m : ℕ) → named_by (slots_in x k) ≡ Some m → ⊥
  made : (f : ℕ → Slot) (q : ℕ) → x ≡ Dir f q → (q ≡ d) × AreRowsIn n q (slots_in x)

plain_first : (n d : ℕ) → IsFirstOutline n d Plain
plain_first n d = record { live = λ h. cc; silent = λ k m h. cc; made = λ f q h. absurd (cc) }

not_dir : (f : ℕ → Slot) (p : ℕ) → Dir f p ≡ Absent → ⊥
not_dir f p h = cc

made_rooted : (s : Setting) (t : Tree) (p : Place) (n : ℕ) (x : Entry) (leaves : List ℕ) → IsNewPlace t p → new_inode t ≡ Ok n → IsFirstOutline n p.directory (body_outline x.body)
    → IsRooted t → IsRooted (made_at s t p n x leaves).tree
made_rooted s t p n x leaves new is f r =
    let d = p.directory in
    let place = new_place_facts t n is in
    let dir = directory_at t d new.place.directory in
    let apart : d ≢ n = λ e. not_dir (slot_in dir.slots) dir.up (sym (directory_outline t d dir) ∙ ap (outline_of t) e ∙ place.1) in
    let e0 : Edit = putting n (Some x) (unchanged t) in
    let there : IsDirectoryAt e0.tree d = record { entry = dir.entry; slots = dir.slots; up = dir.up; live = entry-other t n d (Some x) (λ e. apart (sym e)) ∙ dir.live; body = dir.body } in
    let row = Row n p.name (number_for e0.tree p.name) in
    let j = position_or_len is_unused dir.slots in
    let new_outline : ℕ → Outline = outline_of (add_row s d n p.name e0).tree in
    let at_d : new_outline d ≡ Dir (set_at j row (slot_in dir.slots)) dir.up =
    added_outlines s d n p.name e0 there d ∙ set_at-same d (Dir (set_at j row (slot_in dir.slots)) dir.up) (outline_of e0.tree) in
    let elsewhere : (m : ℕ) → m ≢ d → new_outline m ≡ set_at n (body_outline x.body) (outline_of t) m =
    λ m ne. added_outlines s d n p.name e0 there m ∙ set_at-other d (Dir (set_at j row (slot_in dir.slots)) dir.up) (outline_of e0.tree) m ne ∙ outline-with t n (Some x) place.0 m in
    let at_n : new_outline n ≡ body_outline x.body = elsewhere n (λ e. apart (sym e)) ∙ set_at-same n (body_outline x.body) (outline_of t) in
    let adds : AddsRow (outline_of t) new_outline d j n p.name (number_for e0.tree p.name) = record {
      slots = slot_in dir.slots;
      up = dir.up;
      was = directory_outline t d dir;
      free = unused_place dir.slots;
      now = at_d;
      apart = apart;
      others = λ m nd ne. elsewhere m nd ∙ set_at-other n (body_outline x.body) (outline_of t) m ne;
      live = λ gone. f.live (sym at_n ∙ gone);
      silent = λ k m names. naming_live (outline_of t) n k m names place.1;
      still_silent = λ k m names. f.silent k m (subst (λ z. named_by (slots_in z k) ≡ Some m) at_n names);
      not_top = λ e. (let top = (to_rooted t r).top in not_dir top.slots 1 (sym top.is ∙ ap (outline_of t) (sym e) ∙ place.1));
      made = λ q h. (let w = f.made h.slots q (sym at_n ∙ h.is) in (place.1, w.0, subst (λ z. AreRowsIn n q (slots_in z)) (sym at_n) w.1));
      plain = new.place.plain;
      not_dots = new.place.not_dots;
      unnamed = λ k i other h. not_taken t d p.name new.free k i other (subst (λ xs. slot_in xs k ≡ Row i p.name other) (sym (directory_slots t d dir)) h);
    } in
    from_rooted (made_at s t p n x leaves).tree (added_rooted (outline_of t) new_outline d j n p.name (number_for e0.tree p.name) (to_rooted t r) adds)

-- Create
pub create_keeps : (s : Setting) (t : Tree) (path : List ℕ) → KeepsRooted t (create s t path)
create_keeps s t path =
    rest_keeps t (new_place s t path) (λ p. new_inode t >>= λ n. Ok (Edits false (made_at s t p n (empty_file s.moment) [])))
    (λ p is. rest_keeps t (new_inode t) (λ n. Ok (Edits false (made_at s t p n (empty_file s.moment) [])))
    (λ n new. edit_keeps t false (made_at s t p n (empty_file s.moment) []) (made_rooted s t p n (empty_file s.moment) [] (new_place_is s t path p is) new (plain_first n p.directory))))

-- the leaves of a target
abbrev target_leaves : Setting → List ℕ → List ℕ
target_leaves s target = range_with_len 0 (ceil_div (length target) s.blocksize)

-- Symlink
pub symlink_keeps : (s : Setting) (t : Tree) (target path : List ℕ) → KeepsRooted t (symlink s t target path)
symlink_keeps s t target path =
    rest_keeps t (parsed target) (λ q. new_place s t path >>= λ p. new_inode t >>= λ n. Ok (Edits false (made_at s t p n (new_link s.blocksize s.moment target) (target_leaves s target))))
    (λ q read. rest_keeps t (new_place s t path) (λ p. new_inode t >>= λ n. Ok (Edits false (made_at s t p n (new_link s.blocksize s.moment target) (target_leaves s target))))
    (λ p is. rest_keeps t (new_inode t) (λ n. Ok (Edits false (made_at s t p n (new_link s.blocksize s.moment target) (target_leaves s target))))
    (λ n new. edit_keeps t false (made_at s t p n (new_link s.blocksize s.moment target) (target_leaves s target))
    (made_rooted s t p n (new_link s.blocksize s.moment target) (target_leaves s target) (new_place_is s t path p is) new (plain_first n p.directory)))))

-- ---- a new directory

-- its slots
abbrev first_slots : ℕ → ℕ → ℕ → List Slot
first_slots blocksize n d = Row n (46 ∷ []) None ∷ Row d (46 ∷ 46 ∷ []) None ∷ replicate (blocksize / 32 - 2) Unused

-- each is `.`, `..` or unused
pub first_slot : (m n d k : ℕ) (P : Slot → Type 0) → P (Row n (46 ∷ []) None) → P (Row d (46 ∷ 46 ∷ []) None) → P Unused → P (slot_in (Row n (46 ∷ []) None ∷ Row d (46 ∷ 46 ∷ []) None ∷ replicate m Unused) k)
first_slot m n d zero P a b c = a
first_slot m n d (suc zero) P a b c = b
first_slot m n d (suc (suc k)) P a b c = past m k
  where
    past : (m k : ℕ) → P (slot_in (replicate m Unused) k)
    past zero k = c
    past (suc m) zero = c
    past (suc m) (suc k) = past m k

-- which of the two a row is
first_row : (m n d k i : ℕ) (name : List ℕ) (long : Option ℕ) → slot_in (Row n (46 ∷ []) None ∷ Row d (46 ∷ 46 ∷ []) None ∷ replicate m Unused) k ≡ Row i name long
    → ((k ≡ 0) × (i ≡ n) × (name ≡ 46 ∷ [])) ⊎ ((k ≡ 1) × (i ≡ d) × (name ≡ 46 ∷ 46 ∷ []))
first_row m n d zero i name long h = let a : n ≡ i = cc in let b : 46 ∷ [] ≡ name = cc in inl (refl, sym a, sym b)
first_row m n d (suc zero) i name long h = let a : d ≡ i = cc in let b : 46 ∷ 46 ∷ [] ≡ name = cc in inr (refl, sym a, sym b)
first_row m n d (suc (suc k)) i name long h = absurd (past m k h)
  where
    past : (m k : ℕ) → slot_in (replicate m Unused) k ≡ Row i name long → ⊥
    past zero k h = cc
    past (suc m) zero h = cc
    past (suc m) (suc k) h = past m k h

first_rows : (m n d : ℕ) → AreRowsIn n d (slot_in (Row n (46 ∷ []) None ∷ Row d (46 ∷ 46 ∷ []) None ∷ replicate m Unused))
first_rows m n d = record {
  plain = λ k i name long h. plain_of name (first_row m n d k i name long h);
  differ = λ k j i l name a b h g. differ_of name (first_row m n d k i name a h) (first_row m n d j l name b g);
  dot = λ k i long h. dot_of (first_row m n d k i (46 ∷ []) long h);
  dots = λ k i long h. dots_of (first_row m n d k i (46 ∷ 46 ∷ []) long h);
}
  where
    plain_of : {k i : ℕ} (name : List ℕ) → ((k ≡ 0) × (i ≡ n) × (name ≡ 46 ∷ [])) ⊎ ((k ≡ 1) × (i ≡ d) × (name ≡ 46 ∷ 46 ∷ [])) → IsTrue (is_plain name)
    plain_of name (inl w) = subst (λ z. IsTrue (is_plain z)) (sym w.2) refl
    plain_of name (inr w) = subst (λ z. IsTrue (is_plain z)) (sym w.2) refl

    clash : dot_name ≡ dots_name → ⊥
    clash h = cc

    differ_of : {k j i l : ℕ} (name : List ℕ) → ((k ≡ 0) × (i ≡ n) × (name ≡ dot_name)) ⊎ ((k ≡ 1) × (i ≡ d) × (name ≡ dots_name))
        → ((j ≡ 0) × (l ≡ n) × (name ≡ dot_name)) ⊎ ((j ≡ 1) × (l ≡ d) × (name ≡ dots_name)) → k ≡ j
    differ_of name (inl v) (inl w) = v.0 ∙ sym w.0
    differ_of name (inr v) (inr w) = v.0 ∙ sym w.0
    differ_of name (inl v) (inr w) = absurd (clash (sym v.2 ∙ w.2))
    differ_of name (inr v) (inl w) = absurd (clash (sym w.2 ∙ v.2))

    dot_of : {k i : ℕ} → ((k ≡ 0) × (i ≡ n) × (dot_name ≡ dot_name)) ⊎ ((k ≡ 1) × (i ≡ d) × (dot_name ≡ dots_name)) → i ≡ n
    dot_of (inl w) = w.1
    dot_of (inr w) = absurd (clash w.2)

    dots_of : {k i : ℕ} → ((k ≡ 0) × (i ≡ n) × (dots_name ≡ dot_name)) ⊎ ((k ≡ 1) × (i ≡ d) × (dots_name ≡ dots_name)) → i ≡ d
    dots_of (inl w) = absurd (clash (sym w.2))
    dots_of (inr w) = w.1

directory_first : (blocksize n d moment : ℕ) → IsFirstOutline n d (body_outline (new_directory blocksize n d moment).body)
directory_first blocksize n d moment = record {
  live = λ h. cc;
  silent = λ k m. first_slot (blocksize / 32 - 2) n d k (λ s. named_by s ≡ Some m → ⊥) (λ h. cc) (λ h. cc) (λ h. cc);
  made = λ f q h. (let up : d ≡ q = cc in (sym up, subst (λ z. AreRowsIn n z (slot_in (first_slots blocksize n d))) up (first_rows (blocksize / 32 - 2) n d)));
}

-- Mkdir
pub mkdir_keeps : (s : Setting) (t : Tree) (path : List ℕ) → KeepsRooted t (mkdir s t path)
mkdir_keeps s t path =
    rest_keeps t (new_place s t path) (λ p. new_inode t >>= λ n. Ok (Edits false (made_at s t p n (new_directory s.blocksize n p.directory s.moment) (0 ∷ []))))
    (λ p is. rest_keeps t (new_inode t) (λ n. Ok (Edits false (made_at s t p n (new_directory s.blocksize n p.directory s.moment) (0 ∷ []))))
    (λ n new. edit_keeps t false (made_at s t p n (new_directory s.blocksize n p.directory s.moment) (0 ∷ []))
    (made_rooted s t p n (new_directory s.blocksize n p.directory s.moment) (0 ∷ []) (new_place_is s t path p is) new (directory_first s.blocksize n p.directory s.moment))))

-- ---- where a walk ends

-- an inode of a tree is live
abbrev pub IsLive : Tree → ℕ → Type 0
IsLive t n = outline_of t n ≢ Absent

-- an inode that there is passes the test
pub some_live : (t : Tree) (n : ℕ) (e : Entry) → entry_of t n ≡ Some e → IsLive t n
some_live t n e live gone = of_body e.body (sym (ap entry_outline live) ∙ gone)
  where
    of_body : (b : Body) → body_outline b ≡ Absent → ⊥
    of_body (Directory slots parent) h = cc
    of_body (File content) h = cc
    of_body (Link target) h = cc
    of_body Special h = cc

-- the parent of a directory is live
parent_live : (t : Tree) → IsRooted t → (d p : ℕ) (f : ℕ → Slot) → outline_of t d ≡ Dir f p → IsLive t p
parent_live t r d p f is = go (cases_eq d 1)
  where
    rooted : IsRootedIn (outline_of t)
    rooted = to_rooted t r

    go : (d ≡ 1) ⊎ (d ≢ 1) → IsLive t p
    go (inl one) =
        let up : p ≡ 1 = dir_parent f rooted.top.slots p 1 (sym is ∙ ap (outline_of t) one ∙ rooted.top.is) in
        subst (IsLive t) (sym up) (dir_live (outline_of t 1) rooted.top.slots 1 rooted.top.is)
    go (inr ne) = let w = rooted.parent d p (record { slots = f; is = is }) ne in naming_live (outline_of t) p w.0 d w.1

-- a name leads to a live inode
lead_to_live : (t : Tree) (follow : Bool) (m n : ℕ) → lead_to t follow m ≡ Ok (To n) → IsLive t n
lead_to_live t follow m n h =
    let a = ok_value (ok_or (entry_of t m) refusal.NoEntry) _ (To n) h in
    let leads : lead_by follow m a.0.body ≡ To n = cc in
    subst (IsLive t) (same follow a.0.body leads) (some_live t m a.0 (ok_some (entry_of t m) refusal.NoEntry a.0 a.1))
  where
    same : (follow : Bool) (b : Body) → lead_by follow m b ≡ To n → m ≡ n
    same true (Link target) h = absurd (cc)
    same false (Link target) h = cc
    same true (Directory slots parent) h = cc
    same false (Directory slots parent) h = cc
    same true (File content) h = cc
    same false (File content) h = cc
    same true Special h = cc
    same false Special h = cc

lead_live : (t : Tree) → IsRooted t → (follow : Bool) (at : ℕ) (name : List ℕ) (n : ℕ) → lead t follow at name ≡ Ok (To n) → IsLive t n
lead_live t r follow at name n h =
    let a = ok_value (ok_or (entry_of t at) refusal.NoEntry) _ (To n) h in
    let live = ok_some (entry_of t at) refusal.NoEntry a.0 a.1 in
    of_body a.0.body (ap entry_outline live) a.2
  where
    by_name : (b c : Bool) (parent : ℕ) → IsLive t at → IsLive t parent → (if b then Ok (To at) else if c then Ok (To parent) else (ok_or (inode_named t at name) refusal.NoEntry >>= lead_to t follow)) ≡ Ok (To n) → IsLive t n
    by_name true c parent here up h = let same : at ≡ n = cc in subst (IsLive t) same here
    by_name false true parent here up h = let same : parent ≡ n = cc in subst (IsLive t) same up
    by_name false false parent here up h = let a = ok_value (ok_or (inode_named t at name) refusal.NoEntry) (lead_to t follow) (To n) h in lead_to_live t follow a.0 n a.2

    of_body : (b : Body) → outline_of t at ≡ body_outline b → lead_from t follow at name b ≡ Ok (To n) → IsLive t n
    of_body (Directory slots parent) is h =
        by_name (bytes_eq name (46 ∷ [])) (bytes_eq name (46 ∷ 46 ∷ [])) parent (dir_live (outline_of t at) (slot_in slots) parent is) (parent_live t r at parent (slot_in slots) is) h
    of_body (File content) is h = absurd (cc)
    of_body (Link target) is h = absurd (cc)
    of_body Special is h = absurd (cc)

-- a name that leads anywhere begins at a live inode
lead_from_live : (t : Tree) (follow : Bool) (at : ℕ) (name : List ℕ) (l : Lead) → lead t follow at name ≡ Ok l → IsLive t at
lead_from_live t follow at name l h = let a = ok_value (ok_or (entry_of t at) refusal.NoEntry) _ l h in some_live t at a.0 (ok_some (entry_of t at) refusal.NoEntry a.0 a.1)

-- names lead from a live inode to a live one, where the jump does
module _ (t : Tree) (r : IsRooted t) (last : LastLink) (jump : ℕ → List ℕ → List (List ℕ) → Result ℕ Refusal)
    (jumps : (at : ℕ) (target : List ℕ) (rest : List (List ℕ)) (n : ℕ) → IsLive t at → jump at target rest ≡ Ok n → IsLive t n) where
  walk_by_live : (names : List (List ℕ)) (at n : ℕ) → IsLive t at → walk_by t last jump at names ≡ Ok n → IsLive t n
  walk_by_live [] at n live h = let same : at ≡ n = cc in subst (IsLive t) same live
  walk_by_live (name ∷ rest) at n live h =
      let a = ok_value (lead t (is_followed last rest) at name) _ n h in
      go a.0 a.1 a.2 (walk_by_live rest)
    where
      go : (l : Lead) → lead t (is_followed last rest) at name ≡ Ok l
          → elim l as (λ _. Result ℕ Refusal) [ To m ↦ walk_by t last jump m rest | Through target ↦ jump at target rest ] ≡ Ok n
          → ((m n : ℕ) → IsLive t m → walk_by t last jump m rest ≡ Ok n → IsLive t n) → IsLive t n
      go (To m) is h more = more m n (lead_live t r (is_followed last rest) at name m is) h
      go (Through target) is h more = jumps at target rest n live h

walk_live : (t : Tree) → IsRooted t → (last : LastLink) (links : ℕ) (names : List (List ℕ)) (at n : ℕ) → IsLive t at → walk links t last at names ≡ Ok n → IsLive t n
walk_live t r last zero names at n live h = walk_by_live t r last (λ at target rest. Err refusal.LinkLoop) (λ at target rest n live h. absurd (cc)) names at n live h
walk_live t r last (suc links) names at n live h =
    walk_by_live t r last (λ at target rest. parsed target >>= λ p. walk links t last (start_in p at) (p.names ++ rest))
    (λ at target rest n live h. jump_live at target rest n live h (walk_live t r last links)) names at n live h
  where
    jump_live : (at : ℕ) (target : List ℕ) (rest : List (List ℕ)) (n : ℕ) → IsLive t at → (parsed target >>= λ p. walk links t last (start_in p at) (p.names ++ rest)) ≡ Ok n
        → ((names : List (List ℕ)) (at n : ℕ) → IsLive t at → walk links t last at names ≡ Ok n → IsLive t n) → IsLive t n
    jump_live at target rest n live h more =
        let a = ok_value (parsed target) _ n h in
        more (a.0.names ++ rest) (start_in a.0 at) n (started a.0.absolute) a.2
      where
        started : (b : Bool) → IsLive t (if b then 1 else at)
        started true = let top = (to_rooted t r).top in dir_live (outline_of t 1) top.slots 1 top.is
        started false = live

-- a path leads to a live inode, where the session stands in one
pub path_live : (t : Tree) → IsRooted t → (base : Option ℕ) → ((d : ℕ) → base ≡ Some d → IsLive t d) → (last : LastLink) (bytes : List ℕ) (n : ℕ) → inode_at t base last bytes ≡ Ok n → IsLive t n
path_live t r base stands last bytes n h =
    let a = ok_value (parsed bytes) _ n h in
    let b = ok_value (start_of_walk a.0 base) _ n a.2 in
    walk_live t r last links_allowed a.0.names b.0 n (begins a.0 base stands b.0 b.1) b.2
  where
    at_top : IsLive t 1
    at_top = let top = (to_rooted t r).top in dir_live (outline_of t 1) top.slots 1 top.is

    one : (b : Bool) (m : ℕ) → (if b then Ok 1 else Err refusal.NoEntry) ≡ Ok m → IsLive t m
    one true m h = let same : 1 ≡ m = cc in subst (IsLive t) same at_top
    one false m h = absurd (cc)

    either : (b : Bool) (d m : ℕ) → IsLive t d → (if b then 1 else d) ≡ m → IsLive t m
    either true d m live h = subst (IsLive t) h at_top
    either false d m live h = subst (IsLive t) h live

    begins : (p : PathParts) (base : Option ℕ) → ((d : ℕ) → base ≡ Some d → IsLive t d) → (m : ℕ) → start_of_walk p base ≡ Ok m → IsLive t m
    begins p None stands m h = one p.absolute m h
    begins p (Some d) stands m h = let same : start_in p d ≡ m = cc in either p.absolute d m (stands d refl) same

-- ---- one more row for an inode

-- a live inode that is no directory
pub plain_outline : (t : Tree) (n : ℕ) → IsLive t n → is_directory t n ≡ false → outline_of t n ≡ Plain
plain_outline t n live h = of_entry (entry_of t n) refl live h
  where
    of_body : (b : Body) → is_some (parent_of_body b) ≡ false → body_outline b ≡ Plain
    of_body (Directory slots parent) h = absurd (cc)
    of_body (File content) h = refl
    of_body (Link target) h = refl
    of_body Special h = refl

    of_entry : (o : Option Entry) → entry_of t n ≡ o → entry_outline o ≢ Absent → is_some (option_and_then (λ (e : Entry). parent_of_body e.body) o) ≡ false → entry_outline o ≡ Plain
    of_entry None is live h = absurd (live refl)
    of_entry (Some e) is live h = of_body e.body h

linked_rooted : (s : Setting) (t : Tree) (p : Place) (n : ℕ) → IsNewPlace t p → outline_of t n ≡ Plain → IsRooted t → IsRooted (add_row s p.directory n p.name (unchanged t)).tree
linked_rooted s t p n new is r =
    let d = p.directory in
    let dir = directory_at t d new.place.directory in
    let not_plain : Dir (slot_in dir.slots) dir.up ≡ Plain → ⊥ = λ h. cc in
    let apart : d ≢ n = λ e. not_plain (sym (directory_outline t d dir) ∙ ap (outline_of t) e ∙ is) in
    let row = Row n p.name (number_for t p.name) in
    let j = position_or_len is_unused dir.slots in
    let new_outline : ℕ → Outline = outline_of (add_row s d n p.name (unchanged t)).tree in
    let at_d : new_outline d ≡ Dir (set_at j row (slot_in dir.slots)) dir.up =
    added_outlines s d n p.name (unchanged t) dir d ∙ set_at-same d (Dir (set_at j row (slot_in dir.slots)) dir.up) (outline_of t) in
    let elsewhere : (m : ℕ) → m ≢ d → new_outline m ≡ outline_of t m =
    λ m ne. added_outlines s d n p.name (unchanged t) dir m ∙ set_at-other d (Dir (set_at j row (slot_in dir.slots)) dir.up) (outline_of t) m ne in
    let at_n : new_outline n ≡ Plain = elsewhere n (λ e. apart (sym e)) ∙ is in
    let first = plain_first n d in
    let adds : AddsRow (outline_of t) new_outline d j n p.name (number_for t p.name) = record {
      slots = slot_in dir.slots;
      up = dir.up;
      was = directory_outline t d dir;
      free = unused_place dir.slots;
      now = at_d;
      apart = apart;
      others = λ m nd ne. elsewhere m nd;
      live = λ gone. first.live (sym at_n ∙ gone);
      silent = λ k m names. first.silent k m (subst (λ z. named_by (slots_in z k) ≡ Some m) is names);
      still_silent = λ k m names. first.silent k m (subst (λ z. named_by (slots_in z k) ≡ Some m) at_n names);
      not_top = λ e. (let top = (to_rooted t r).top in no_dir top.slots 1 (sym top.is ∙ ap (outline_of t) (sym e) ∙ is));
      made = λ q h. absurd (no_dir h.slots q (sym h.is ∙ at_n));
      plain = new.place.plain;
      not_dots = new.place.not_dots;
      unnamed = λ k i other h. not_taken t d p.name new.free k i other (subst (λ xs. slot_in xs k ≡ Row i p.name other) (sym (directory_slots t d dir)) h);
    } in
    from_rooted (add_row s d n p.name (unchanged t)).tree (added_rooted (outline_of t) new_outline d j n p.name (number_for t p.name) (to_rooted t r) adds)
  where
    no_dir : (f : ℕ → Slot) (q : ℕ) → Dir f q ≡ Plain → ⊥
    no_dir f q h = cc

-- the edit of Link
abbrev linked : Setting → Tree → Place → ℕ → Edit
linked s t p n = with_attr n (attr_changed s.moment) (add_row s p.directory n p.name (unchanged t))

-- Link
pub link_keeps : (s : Setting) (t : Tree) (old new : List ℕ) → ((d : ℕ) → s.base ≡ Some d → IsLive t d) → KeepsRooted t (link s t old new)
link_keeps s t old new stands =
    rest_keeps t (inode_at t s.base Itself old) (λ n. refuse_if (is_directory t n) refusal.IsDir >> (refuse_if (is_special t n) refusal.WrongKind >> (new_place s t new >>= λ p. Ok (Edits false (linked s t p n)))))
    (λ n at. refuse_keeps t (is_directory t n) refusal.IsDir (refuse_if (is_special t n) refusal.WrongKind >> (new_place s t new >>= λ p. Ok (Edits false (linked s t p n))))
    (λ no_dir. refuse_keeps t (is_special t n) refusal.WrongKind (new_place s t new >>= λ p. Ok (Edits false (linked s t p n)))
    (λ no_special. rest_keeps t (new_place s t new) (λ p. Ok (Edits false (linked s t p n)))
    (λ p is. edit_keeps t false (linked s t p n)
    (λ r. attr_rooted n (attr_changed s.moment) (add_row s p.directory n p.name (unchanged t))
    (linked_rooted s t p n (new_place_is s t new p is) (plain_outline t n (path_live t r s.base stands Itself old n at) no_dir) r))))))
