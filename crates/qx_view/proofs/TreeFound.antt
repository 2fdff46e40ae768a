-- The tree that is read from blocks, and what it has.
use Rattle.std.proofs.Common.{◌≡◌, ℕ, zero, suc, ◌+◌, ◌<◌, ◌≤◌, ◌⊎◌, inl, inr, List, [], ◌∷◌, length, refl, sym, ◌∙◌, ap, subst, arith}
use Rattle.std.specs.Prelude.{Bool, true, false, ◌||◌, nat_eq, if◌then◌else◌, Option, Some, None, option_and_then, unwrap_or, Contains, map, filter_map, slice_get}
use Rattle.std.specs.List.{range_with_len, cons_option}
use Rattle.std.proofs.lemmas.Bool.{eqb-true, cases_lt}
use Rattle.std.proofs.lemmas.List.FromFn.{length-map-range_with_len}
use Rattle.std.specs.Option.{option_flatten}
use Rattle.qx_geom.specs.declared.root.Root.{Root}
use Rattle.qx_records.specs.declared.kind.Kind.{Kind}
use Rattle.qx_model.specs.declared.attr.Attr.{Attr}
use Rattle.qx_records.specs.declared.kind.Kind.TheVariants as kinds
use Rattle.qx_geom.proofs.Members.{Contains-cons, Contains-head, in_cases, in_head, in_tail}
use Rattle.qx_geom.specs.Lists.{each_below, is_in}
use Rattle.qx_model.specs.Tree.{Body, Directory, Entry, File, Link, Slot, Special, Tree, Unused, entry_of, named_by}
use Rattle.qx_nodes.specs.BlockMap.{BlockMap}
use Rattle.qx_nodes.specs.Content.{content_of}
use Rattle.qx_nodes.specs.Leaves.{leaves_below}
use Rattle.qx_nodes.specs.Visits.{present_of}
use Rattle.qx_records.specs.InodeRecord.{kind_of}
use Rattle.qx_view.proofs.WalkEnds.{inodes}
use Rattle.qx_nodes.specs.LongNames.{long_name}
use Rattle.qx_view.specs.Images.{Roots, inode_of, inode_places}
use Rattle.qx_view.specs.Entries.{attr_of}
use Rattle.qx_view.specs.Reading.{slots_read}
use Rattle.qx_view.specs.Walk.{Taken, inode_mode, inode_root, taken_of}

-- a list of what a function gives, at a place
range_at : {A : Type 0} (f : ℕ → A) (a n k : ℕ) → k < n → slice_get (map f (range_with_len a n)) k ≡ Some (f (a + k))
range_at f a zero k h = absurd (omega arith)
range_at f a (suc n) zero h = ap (λ z. Some (f z)) (let e : a ≡ a + 0 = omega arith in e)
range_at f a (suc n) (suc k) h = range_at f (a + 1) n k (omega arith) ∙ ap (λ z. Some (f z)) (let e : a + 1 + k ≡ a + suc k = omega arith in e)

-- and past its end
range_past : {A : Type 0} (f : ℕ → A) (a n k : ℕ) → n ≤ k → slice_get (map f (range_with_len a n)) k ≡ None
range_past f a zero k h = refl
range_past f a (suc n) zero h = absurd (omega arith)
range_past f a (suc n) (suc k) h = range_past f (a + 1) n k (omega arith)

-- the parent of the first that was taken with this number
abbrev pub parent_in : List Taken → ℕ → ℕ
parent_in [] n = 0
parent_in (t ∷ ts) n = if nat_eq t.inode n then t.parent else parent_in ts n

-- the slots that the records of a directory are
abbrev pub slots_found : BlockMap → Root → Root → List Slot
slots_found m longfile node = map (λ o. unwrap_or o Unused) (slots_read m longfile node)

-- the size of a node that isn't a special's
abbrev pub size_found : Root → Option Kind → ℕ
size_found node None = 0
size_found node (Some kinds.Special) = 0
size_found node (Some kinds.Directory) = node.size
size_found node (Some kinds.File) = node.size
size_found node (Some kinds.Link) = node.size

-- and its present leaves
abbrev pub present_found : BlockMap → Root → Option Kind → List ℕ
present_found m node None = []
present_found m node (Some kinds.Special) = []
present_found m node (Some kinds.Directory) = present_of m node
present_found m node (Some kinds.File) = present_of m node
present_found m node (Some kinds.Link) = present_of m node

-- and what it holds
abbrev pub body_found : BlockMap → Root → Root → ℕ → Option Kind → Body
body_found m longfile node parent None = Special
body_found m longfile node parent (Some kinds.Special) = Special
body_found m longfile node parent (Some kinds.Directory) = Directory (slots_found m longfile node) parent
body_found m longfile node parent (Some kinds.File) = File (content_of m node)
body_found m longfile node parent (Some kinds.Link) = Link (content_of m node)

-- an entry of a kind
abbrev pub entry_as : Attr → BlockMap → Root → Root → ℕ → Option Kind → Entry
entry_as attr m longfile node parent kind = record { attr = attr; size = size_found node kind; present = present_found m node kind; body = body_found m longfile node parent kind }

-- the entry of inode n
abbrev pub entry_found : BlockMap → Roots → ℕ → ℕ → Entry
entry_found m r parent n = entry_as (attr_of (inode_of m r.inodes n)) m r.longfile (inode_root m r n) parent (kind_of (inode_mode m r n))

-- where the walk takes it
abbrev pub place_found : BlockMap → Roots → ℕ → Option Entry
place_found m r n = if is_in (inodes (taken_of m r)) n then Some (entry_found m r (parent_in (taken_of m r) n) n) else None

-- the tree that is read from blocks
abbrev pub tree_found : BlockMap → Roots → Tree
tree_found m r = record {
  inodes = each_below (inode_places r) (λ k. place_found m r (suc k));
  long_size = r.longfile.size;
  long_names = each_below (leaves_below m r.longfile) (λ n. long_name m r.longfile n);
  long_present = present_of m r.longfile;
}

-- it has as many places as the Inode tree
pub tree_places : (m : BlockMap) (r : Roots) → length (tree_found m r).inodes ≡ inode_places r
tree_places m r = length-map-range_with_len (λ k. place_found m r (suc k)) 0 (inode_places r)

-- what stands at a place
place_at : (m : BlockMap) (r : Roots) (k : ℕ) → k < inode_places r → entry_of (tree_found m r) (suc k) ≡ place_found m r (suc k)
place_at m r k h = ap option_flatten (range_at (λ k. place_found m r (suc k)) 0 (inode_places r) k h) ∙ ap (λ z. place_found m r (suc z)) (let e : 0 + k ≡ k = omega arith in e)

-- an inode that is taken has its entry
pub entry_in : (m : BlockMap) (r : Roots) (n : ℕ) → is_in (inodes (taken_of m r)) n ≡ true → 0 < n → n ≤ inode_places r → entry_of (tree_found m r) n ≡ Some (entry_found m r (parent_in (taken_of m r) n) n)
entry_in m r zero h pos below = absurd (omega arith)
entry_in m r (suc k) h pos below = place_at m r k (omega arith) ∙ ap (λ b. if b then Some (entry_found m r (parent_in (taken_of m r) (suc k)) (suc k)) else None) h

-- and an entry is that of an inode that is taken
pub in_entry : (m : BlockMap) (r : Roots) (n : ℕ) (e : Entry) → entry_of (tree_found m r) n ≡ Some e → (is_in (inodes (taken_of m r)) n ≡ true) × (e ≡ entry_found m r (parent_in (taken_of m r) n) n)
in_entry m r zero e h = absurd (cc)
in_entry m r (suc k) e h =
    elim (cases_lt k (inode_places r)) [
      | inl below ↦ go (is_in (inodes (taken_of m r)) (suc k)) (sym (place_at m r k below) ∙ h)
      | inr past ↦ absurd (none_some (sym (ap flatten_of (range_past (λ k. place_found m r (suc k)) 0 (inode_places r) k (omega arith))) ∙ h))
    ]
  where
    flatten_of : Option (Option Entry) → Option Entry
    flatten_of o = option_flatten o

    none_some : None ≡ Some e → ⊥
    none_some q = cc

    go : (b : Bool) → (if b then Some (entry_found m r (parent_in (taken_of m r) (suc k)) (suc k)) else None) ≡ Some e → (b ≡ true) × (e ≡ entry_found m r (parent_in (taken_of m r) (suc k)) (suc k))
    go true q = (refl, cc)
    go false q = absurd (cc)

-- one that was taken_of with this number and its parent
pub record TakenWith (ts : List Taken) (n p : ℕ) : Type 0 where
  pub it : Taken
  pub among : Contains ts it
  pub inode : it.inode ≡ n
  pub parent : it.parent ≡ p

-- each that was taken is one of these
pub taken_with : (ts : List Taken) (n : ℕ) → is_in (inodes ts) n ≡ true → TakenWith ts n (parent_in ts n)
taken_with [] n h = absurd (cc)
taken_with (t ∷ ts) n h = go (nat_eq t.inode n) refl h (λ k. taken_with ts n k)
  where
    go : (b : Bool) → nat_eq t.inode n ≡ b → (b || is_in (inodes ts) n) ≡ true → (is_in (inodes ts) n ≡ true → TakenWith ts n (parent_in ts n)) → TakenWith (t ∷ ts) n (if b then t.parent else parent_in ts n)
    go true e h more = record { it = t; among = Contains-head t ts; inode = eqb-true t.inode n e; parent = refl }
    go false e h more = let u : TakenWith ts n (parent_in ts n) = more h in record { it = u.it; among = Contains-cons t u.it ts u.among; inode = u.inode; parent = u.parent }

-- a list of itself
map_self : (ns : List ℕ) → map (λ k. k) ns ≡ ns
map_self [] = refl
map_self (n ∷ ns) = ap (λ z. n ∷ z) (map_self ns)

-- the numbers below a bound, as a list
pub each_self : (n : ℕ) → each_below n (λ k. k) ≡ range_with_len 0 n
each_self n = map_self (range_with_len 0 n)

-- a slot that names n
pub record NamedAt (slots : List Slot) (n : ℕ) : Type 0 where
  pub place : ℕ
  pub slot : Slot
  pub at : slice_get slots place ≡ Some slot
  pub names : named_by slot ≡ Some n

-- what is in a list with one more, if there is one
cons_in : (o : Option ℕ) (xs : List ℕ) (n : ℕ) → is_in (cons_option o xs) n ≡ true → (o ≡ Some n) ⊎ (is_in xs n ≡ true)
cons_in None xs n h = inr h
cons_in (Some x) xs n h = elim (in_cases x n xs h) [ inl is ↦ inl (ap (λ z. Some z) is) | inr r ↦ inr r ]

-- and back
in_cons : (o : Option ℕ) (xs : List ℕ) (n : ℕ) → (o ≡ Some n) ⊎ (is_in xs n ≡ true) → is_in (cons_option o xs) n ≡ true
in_cons None xs n (inl e) = absurd (cc)
in_cons None xs n (inr h) = h
in_cons (Some x) xs n (inl e) = let is : x ≡ n = cc in subst (λ z. is_in (x ∷ xs) z ≡ true) is (in_head x xs)
in_cons (Some x) xs n (inr h) = in_tail x n xs h

-- from a record that names n to a slot that does
pub names_to_slots : (g : ℕ → Option Slot) (ks : List ℕ) (slots : List Slot) (n : ℕ) → map g ks ≡ map (λ s. Some s) slots → is_in (filter_map (λ k. option_and_then named_by (g k)) ks) n ≡ true → NamedAt slots n
names_to_slots g [] slots n e h = absurd (cc)
names_to_slots g (k ∷ ks) [] n e h = absurd (cc)
names_to_slots g (k ∷ ks) (s ∷ slots) n e h =
    let head : g k ≡ Some s = cc in
    let rest : map g ks ≡ map (λ s. Some s) slots = cc in
    elim (cons_in (option_and_then named_by (g k)) (filter_map (λ k. option_and_then named_by (g k)) ks) n h) [
      | inl is ↦ record { place = 0; slot = s; at = refl; names = sym (ap (λ o. option_and_then named_by o) head) ∙ is }
      | inr there ↦ let u : NamedAt slots n = names_to_slots g ks slots n rest there in record { place = suc u.place; slot = u.slot; at = u.at; names = u.names }
    ]

-- and back
pub slots_to_names : (g : ℕ → Option Slot) (ks : List ℕ) (slots : List Slot) (n k : ℕ) (s : Slot) → map g ks ≡ map (λ s. Some s) slots → slice_get slots k ≡ Some s → named_by s ≡ Some n → is_in (filter_map (λ k. option_and_then named_by (g k)) ks) n ≡ true
slots_to_names g ks [] n k s e at names = absurd (cc)
slots_to_names g [] (x ∷ slots) n k s e at names = absurd (cc)
slots_to_names g (i ∷ ks) (x ∷ slots) n zero s e at names =
    let head : g i ≡ Some x = cc in
    let is : x ≡ s = cc in
    in_cons (option_and_then named_by (g i)) _ n (inl (ap (λ o. option_and_then named_by o) head ∙ ap named_by is ∙ names))
slots_to_names g (i ∷ ks) (x ∷ slots) n (suc k) s e at names =
    let rest : map g ks ≡ map (λ s. Some s) slots = cc in
    in_cons (option_and_then named_by (g i)) _ n (inr (slots_to_names g ks slots n k s rest at names))

-- the slots that are found are those that the records say
pub found_slots : (os : List (Option Slot)) (slots : List Slot) → os ≡ map (λ s. Some s) slots → map (λ o. unwrap_or o Unused) os ≡ slots
found_slots os slots e = ap (λ z. map (λ o. unwrap_or o Unused) z) e ∙ back slots
  where
    back : (slots : List Slot) → map (λ o. unwrap_or o Unused) (map (λ s. Some s) slots) ≡ slots
    back [] = refl
    back (s ∷ slots) = ap (λ z. s ∷ z) (back slots)
