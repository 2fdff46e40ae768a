-- The roots determine the tree.
use Rattle.std.proofs.Common.{◌≡◌, ℕ, suc, List, [], ◌∷◌, length, refl, sym, ◌∙◌, ap, subst, arith}
use Rattle.std.specs.Prelude.{Option, Some, None, map, slice_get}
use Rattle.std.specs.Option.{option_flatten}
use Rattle.qx_records.specs.declared.inode.Inode.{Inode}
use Rattle.qx_records.specs.declared.kind.Kind.{Kind}
use Rattle.qx_records.specs.declared.kind.Kind.TheVariants as kinds
use Rattle.qx_model.specs.Tree.{Body, Directory, Entry, File, IsDirectory, Link, Names, Reached, Slot, Special, Tree, down, entry_of, slots_of_entry, top}
use Rattle.qx_nodes.specs.BlockMap.{BlockMap}
use Rattle.qx_nodes.specs.NodeContents.{NodeContent, node_content}
use Rattle.qx_records.specs.InodeRecord.{kind_of}
use Rattle.qx_view.specs.Images.{Roots, inode_of}
use Rattle.qx_view.specs.Entries.{HasContent, Holds, IsBody, IsEntryOf, Reader}
use Rattle.qx_view.specs.Reading.{IsTreeOf, reader_of}

-- lists whose present elements are alike
somes_same : {A : Type 0} (xs ys : List A) → map (λ x. Some x) xs ≡ map (λ x. Some x) ys → xs ≡ ys
somes_same [] [] e = refl
somes_same [] (y ∷ ys) e = absurd (cc)
somes_same (x ∷ xs) [] e = absurd (cc)
somes_same (x ∷ xs) (y ∷ ys) e =
    let head : x ≡ y = cc in
    let rest : map (λ x. Some x) xs ≡ map (λ x. Some x) ys = cc in
    λ i. head i ∷ somes_same xs ys rest i

-- the parents of two bodies, where both are directories
abbrev SameParent : Body → Body → Type 0
SameParent a b = (s u : List Slot) (p q : ℕ) → a ≡ Directory s p → b ≡ Directory u q → p ≡ q

-- a content and a parent determine what an inode holds
body_same : (r : Reader) (c : NodeContent) (kind : Kind) (a b : Body) → SameParent a b → IsBody r c kind a → IsBody r c kind b → a ≡ b
body_same r c kinds.Directory (Directory s p) (Directory u q) same h k =
    let slots : s ≡ u = somes_same s u (sym h ∙ k) in
    λ i. Directory (slots i) (same s u p q refl refl i)
body_same r c kinds.Directory (Directory s p) (File x) same h k = absurd k
body_same r c kinds.Directory (Directory s p) (Link x) same h k = absurd k
body_same r c kinds.Directory (Directory s p) Special same h k = absurd k
body_same r c kinds.Directory (File x) b same h k = absurd h
body_same r c kinds.Directory (Link x) b same h k = absurd h
body_same r c kinds.Directory Special b same h k = absurd h
body_same r c kinds.File (File x) (File y) same h k = ap (λ z. File z) (h ∙ sym k)
body_same r c kinds.File (File x) (Directory u q) same h k = absurd k
body_same r c kinds.File (File x) (Link y) same h k = absurd k
body_same r c kinds.File (File x) Special same h k = absurd k
body_same r c kinds.File (Directory s p) b same h k = absurd h
body_same r c kinds.File (Link x) b same h k = absurd h
body_same r c kinds.File Special b same h k = absurd h
body_same r c kinds.Link (Link x) (Link y) same h k = ap (λ z. Link z) (h.0 ∙ sym k.0)
body_same r c kinds.Link (Link x) (Directory u q) same h k = absurd k
body_same r c kinds.Link (Link x) (File y) same h k = absurd k
body_same r c kinds.Link (Link x) Special same h k = absurd k
body_same r c kinds.Link (Directory s p) b same h k = absurd h
body_same r c kinds.Link (File x) b same h k = absurd h
body_same r c kinds.Link Special b same h k = absurd h
body_same r c kinds.Special (Directory s p) b same h k = absurd h
body_same r c kinds.Special (File x) b same h k = absurd h
body_same r c kinds.Special (Link x) b same h k = absurd h
body_same r c kinds.Special Special b same h k = absurd h

-- and the entry, beside its attributes
content_same : (r : Reader) (c : NodeContent) (kind : Kind) (a b : Entry) → a.attr ≡ b.attr → SameParent a.body b.body → HasContent r c kind a → HasContent r c kind b → a ≡ b
content_same r c kind a b attr same h k =
    let size : a.size ≡ b.size = h.size ∙ sym k.size in
    let present : a.present ≡ b.present = h.present ∙ sym k.present in
    let body : a.body ≡ b.body = body_same r c kind a.body b.body same h.body k.body in
    λ i. record { attr = attr i; size = size i; present = present i; body = body i }

-- of any kind
kind_same : (r : Reader) (c : NodeContent) (kind : Kind) (a b : Entry) → a.attr ≡ b.attr → SameParent a.body b.body → Holds r c kind a → Holds r c kind b → a ≡ b
kind_same r c kinds.Special a b attr same h k =
    let size : a.size ≡ b.size = h.size ∙ sym k.size in
    let present : a.present ≡ b.present = h.present ∙ sym k.present in
    let body : a.body ≡ b.body = h.body ∙ sym k.body in
    λ i. record { attr = attr i; size = size i; present = present i; body = body i }
kind_same r c kinds.Directory a b attr same h k = content_same r c kinds.Directory a b attr same h k
kind_same r c kinds.File a b attr same h k = content_same r c kinds.File a b attr same h k
kind_same r c kinds.Link a b attr same h k = content_same r c kinds.Link a b attr same h k

-- an inode, its node's content and a parent determine the entry
entry_same : (r : Reader) (i : Inode) (c : NodeContent) (a b : Entry) → SameParent a.body b.body → IsEntryOf r i c a → IsEntryOf r i c b → a ≡ b
entry_same r i c a b same x y =
    let attr : a.attr ≡ b.attr = x.attr ∙ sym y.attr in
    let both : Some x.kind ≡ Some y.kind = sym x.kind_is ∙ ap (λ z. kind_of z.mode) attr ∙ y.kind_is in
    let kind : x.kind ≡ y.kind = cc in
    kind_same r c y.kind a b attr same (subst (λ k. Holds r c k a) kind x.holds) y.holds

-- a directory has one parent
pub parent_same : (t : Tree) (d p q : ℕ) → IsDirectory t d p → IsDirectory t d q → p ≡ q
parent_same t d p q (e, slots, at, body) (e', slots', at', body') = cc

-- what an inode that both trees reach is in both
record SameAt (t u : Tree) (n : ℕ) : Type 0 where
  pub entry : Entry
  pub left : entry_of t n ≡ Some entry
  pub right : entry_of u n ≡ Some entry
  pub reached : Reached u n

-- rows of one entry name the same in both trees
names_over : (t u : Tree) (d n : ℕ) → entry_of t d ≡ entry_of u d → Names t d n → Names u d n
names_over t u d n same (k, (s, at, named)) = (k, (s, subst (λ o. slice_get (slots_of_entry o) k ≡ Some s) same at, named))

module _ (m : BlockMap) (r : Roots) (t u : Tree) (is : IsTreeOf m r t) (also : IsTreeOf m r u) where
  -- the parent of what d names is d, in a tree
  parent_is : (x : Tree) → IsTreeOf m r x → (d n p : ℕ) → Names x d n → IsDirectory x n p → p ≡ d
  parent_is x y d n p (k, at) dir =
      let up : Names x p n = y.rooted.parent n p dir (λ e. y.rooted.no_top d (subst (λ z. Names x d z) e (k, at))) in
      (y.rooted.once p up.0 d k n p up.1 at dir).0

  -- an inode that the first tree reaches is the same in the second
  same_at : (n : ℕ) → Reached t n → SameAt t u n
  same_at n top =
      let a : (e : Entry) × (entry_of t 1 ≡ Some e) = is.rooted.closed 1 top in
      let b : (e : Entry) × (entry_of u 1 ≡ Some e) = also.rooted.closed 1 top in
      let same : a.0 ≡ b.0 = entry_same (reader_of m r.longfile) (inode_of m r.inodes 1) (node_content m (inode_of m r.inodes 1).root) a.0 b.0
      (λ s v p q xs ys. parent_same t 1 p 1 (a.0, s, a.1, xs) is.rooted.top ∙ sym (parent_same u 1 q 1 (b.0, v, b.1, ys) also.rooted.top))
      (is.each 1 a.0 a.1).is (also.each 1 b.0 b.1).is in
      record { entry = a.0; left = a.1; right = b.1 ∙ ap (λ e. Some e) (sym same); reached = top }
  same_at n (down {d} rd names) =
      let above : SameAt t u d = same_at d rd in
      let names' : Names u d n = names_over t u d n (above.left ∙ sym above.right) names in
      let there : Reached u n = down above.reached names' in
      let a : (e : Entry) × (entry_of t n ≡ Some e) = is.rooted.closed n (down rd names) in
      let b : (e : Entry) × (entry_of u n ≡ Some e) = also.rooted.closed n there in
      let same : a.0 ≡ b.0 = entry_same (reader_of m r.longfile) (inode_of m r.inodes n) (node_content m (inode_of m r.inodes n).root) a.0 b.0
      (λ s v p q xs ys. parent_is t is d n p names (a.0, s, a.1, xs) ∙ sym (parent_is u also d n q names' (b.0, v, b.1, ys)))
      (is.each n a.0 a.1).is (also.each n b.0 b.1).is in
      record { entry = a.0; left = a.1; right = b.1 ∙ ap (λ e. Some e) (sym same); reached = there }

-- an option, by whether it is there
option_cases : {A : Type 0} (P : Option A → Type 0) (o : Option A) → (o ≡ None → P None) → ((x : A) → o ≡ Some x → P (Some x)) → P o
option_cases P None none some = none refl
option_cases P (Some x) none some = some x refl

-- places with the same entries are one list
places_same : (xs ys : List (Option Entry)) → length xs ≡ length ys → ((n : ℕ) → option_flatten (slice_get xs n) ≡ option_flatten (slice_get ys n)) → xs ≡ ys
places_same [] [] e same = refl
places_same [] (y ∷ ys) e same = absurd (omega (arith, e))
places_same (x ∷ xs) [] e same = absurd (omega (arith, e))
places_same (x ∷ xs) (y ∷ ys) e same = λ i. same 0 i ∷ places_same xs ys (omega (arith, e)) (λ n. same (suc n)) i

module _ (m : BlockMap) (r : Roots) (t u : Tree) (is : IsTreeOf m r t) (also : IsTreeOf m r u) where
  -- both trees have the same entry at each number
  entries_same : (n : ℕ) → entry_of t n ≡ entry_of u n
  entries_same n =
      option_cases (λ o. entry_of t n ≡ o → o ≡ entry_of u n) (entry_of t n)
      (λ none e. option_cases (λ o. entry_of u n ≡ o → None ≡ o) (entry_of u n) (λ _ _. refl)
      (λ x here _. let back : SameAt u t n = same_at m r u t also is n (also.rooted.reached n x here) in
      absurd (none_some (sym none ∙ back.right))) refl)
      (λ x here e. let both : SameAt t u n = same_at m r t u is also n (is.rooted.reached n x here) in sym here ∙ both.left ∙ sym both.right)
      refl
    where
      none_some : {A : Type 0} {x : A} → None ≡ Some x → ⊥
      none_some e = cc

  -- two trees at the same roots are one
  pub tree_unique : t ≡ u
  tree_unique =
      let inodes : t.inodes ≡ u.inodes = places_same t.inodes u.inodes (is.places ∙ sym also.places) (λ n. entries_same (suc n)) in
      let long_size : t.long_size ≡ u.long_size = is.long_size ∙ sym also.long_size in
      let long_names : t.long_names ≡ u.long_names = is.long_names ∙ sym also.long_names in
      let long_present : t.long_present ≡ u.long_present = is.long_present ∙ sym also.long_present in
      λ i. record { inodes = inodes i; long_size = long_size i; long_names = long_names i; long_present = long_present i }
