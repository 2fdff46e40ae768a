-- The links of a tree in which one inode is set.
use Rattle.std.proofs.Common.{◌≡◌, ◌≢◌, ℕ, zero, suc, ◌+◌, ◌-◌, ◌/◌, ◌<◌, ◌≤◌, List, [], ◌∷◌, ◌++◌, length, inl, inr, refl, sym, ◌∙◌, ap, subst, arith, get_or}
use Rattle.std.specs.Prelude.{Bool, true, false, ◌==◌, Option, Some, None, count_by, is_none, nat_lt, replicate, slice_get, slice_set, sum_by, if◌then◌else◌}
use Rattle.std.specs.List.{list_all, position_or_len}
use Rattle.std.specs.Option.{option_flatten, option_map_or}
use Rattle.std.proofs.lemmas.Bool.{cases_eq, eq-eqb, ltb-true, ne_eqb}
use Rattle.std.proofs.lemmas.List.{length-set}
use Rattle.std.proofs.lemmas.List.Sums.{sum_by-cons, sum_by-set}
use Rattle.std.proofs.lemmas.Option.{slice_get-get_or, unwrap_or-slice_get}
use Rattle.qx_geom.proofs.Truths.{and_left, and_right}
use Rattle.qx_model.specs.Directories.{is_unused, parent_of_body, with_entry}
use Rattle.qx_model.specs.Edits.{pointed, slots_with}
use Rattle.qx_model.specs.Tree.{Body, Directory, Entry, File, IsDirectory, Row, Slot, Special, Tree, Unused, entry_of, is_dots, is_link, links_of, named_by, slots_of, slots_of_body, slots_of_entry}
use Rattle.qx_model.specs.Tree as trees
use Rattle.qx_model.proofs.EditOutlines.{HasPlace, IsDirectoryAt, directory_slots, live_place, unused_place}
use Rattle.qx_model.proofs.Outlines.{entry-other, slot_in}
use Rattle.qx_model.proofs.WholeRows.{entry_set}
use Rattle.qx_working.specs.declared.links.Link.{Link}
use Rattle.qx_working.specs.Links.{HasLinks, link_of, with_link}
use Rattle.qx_working.proofs.SetLinks.{links_set}
use Rattle.qx_edits.specs.LinkEdits.{into_parent, one_less, one_more}

-- ---- one slot

-- 1 where a slot is a row that names inode m, `.` and `..` not counted
abbrev pub one_link : ℕ → Slot → ℕ
one_link m s = if is_link m s then 1 else 0

-- a slot that names an inode is a link of this one alone
pub one_own : (n : ℕ) (s : Slot) → named_by s ≡ Some n → one_link n s ≡ 1
one_own n s is = ap (λ o. if option_map_or (λ i. i == n) o false then 1 else 0) is ∙ ap (λ (b : Bool). if b then 1 else 0) (eq-eqb n n refl)

one_other : (n m : ℕ) (s : Slot) → named_by s ≡ Some n → m ≢ n → one_link m s ≡ 0
one_other n m s is ne = ap (λ o. if option_map_or (λ i. i == m) o false then 1 else 0) is ∙ ap (λ (b : Bool). if b then 1 else 0) (ne_eqb n m (λ e. ne (sym e)))

one_none : (m : ℕ) (s : Slot) → named_by s ≡ None → one_link m s ≡ 0
one_none m s is = ap (λ o. if option_map_or (λ i. i == m) o false then 1 else 0) is

-- a row with a name that isn't `.` or `..` names its inode
pub plain_names : (n : ℕ) (name : List ℕ) (long : Option ℕ) → is_dots name ≡ false → named_by (Row n name long) ≡ Some n
plain_names n name long plain = ap (λ (b : Bool). if b then None else Some n) plain

-- one that is pointed elsewhere names the other inode
pub pointed_names : (m n : ℕ) (s : Slot) → named_by s ≡ Some m → named_by (pointed n s) ≡ Some n
pointed_names m n Unused h = absurd (cc)
pointed_names m n (Row old name long) h = go (is_dots name) h
  where
    go : (b : Bool) → (if b then None else Some old) ≡ Some m → (if b then None else Some n) ≡ Some n
    go true h = absurd (cc)
    go false h = refl

-- ---- slots

-- one slot is set
pub count_set : (m k : ℕ) (xs : List Slot) (row : Slot) → k < length xs → count_by (is_link m) (slice_set xs k row) + one_link m (slot_in xs k) ≡ count_by (is_link m) xs + one_link m row
count_set m k xs row within = ap (λ x. count_by (is_link m) (slice_set xs k row) + one_link m x) (unwrap_or-slice_get xs k Unused) ∙ sum_by-set (one_link m) xs k row Unused within

-- a list with a row behind it
count_behind : (m j : ℕ) (xs : List Slot) (row : Slot) → count_by (is_link m) (xs ++ row ∷ replicate j Unused) ≡ count_by (is_link m) xs + one_link m row
count_behind m j [] row = sum_by-cons (one_link m) row (replicate j Unused) ∙ ap (λ n. one_link m row + n) (none j) ∙ (let z = one_link m row in omega arith)
  where
    none : (j : ℕ) → count_by (is_link m) (replicate j Unused) ≡ 0
    none zero = refl
    none (suc j) = sum_by-cons (one_link m) Unused (replicate j Unused) ∙ ap (λ n. one_link m Unused + n) (none j)
count_behind m j (x ∷ xs) row =
    sum_by-cons (one_link m) x (xs ++ row ∷ replicate j Unused) ∙ ap (λ n. one_link m x + n) (count_behind m j xs row)
    ∙ (let a = one_link m x in omega (arith, sum_by-cons (one_link m) x xs))

-- a row in the first unused record, or behind
pub count_added : (blocksize m : ℕ) (xs : List Slot) (row : Slot) → count_by (is_link m) (slots_with blocksize xs row) ≡ count_by (is_link m) xs + one_link m row
count_added blocksize m xs row = go (nat_lt (position_or_len is_unused xs) (length xs)) refl
  where
    go : (b : Bool) → nat_lt (position_or_len is_unused xs) (length xs) ≡ b
        → count_by (is_link m) (if b then slice_set xs (position_or_len is_unused xs) row else xs ++ row ∷ replicate (blocksize / 32 - 1) Unused) ≡ count_by (is_link m) xs + one_link m row
    go true is =
        let before = count_set m (position_or_len is_unused xs) xs row (ltb-true (position_or_len is_unused xs) (length xs) is) in
        let nothing : one_link m (slot_in xs (position_or_len is_unused xs)) ≡ 0 = ap (one_link m) (unused_place xs) in
        omega (arith, before, nothing)
    go false is = count_behind m (blocksize / 32 - 1) xs row

-- slots that name nothing are no links
pub count_none : (m : ℕ) (xs : List Slot) → list_all (λ slot. is_none (named_by slot)) xs ≡ true → count_by (is_link m) xs ≡ 0
count_none m [] h = refl
count_none m (x ∷ xs) h =
    let first : named_by x ≡ None = unnamed (named_by x) (and_left (is_none (named_by x)) (list_all (λ slot. is_none (named_by slot)) xs) h) in
    let rest = count_none m xs (and_right (is_none (named_by x)) (list_all (λ slot. is_none (named_by slot)) xs) h) in
    let zero_link = one_none m x first in
    omega (arith, sum_by-cons (one_link m) x xs, zero_link, rest)
  where
    unnamed : (o : Option ℕ) → is_none o ≡ true → o ≡ None
    unnamed None e = refl
    unnamed (Some n) e = absurd (cc)

-- ---- one inode

-- what its slots gave goes, and what the new ones give comes
pub links_with : (t : Tree) (n m : ℕ) (y : Option Entry) → HasPlace t n → links_of (with_entry t n y) m + count_by (is_link m) (slots_of t n) ≡ links_of t m + count_by (is_link m) (slots_of_entry y)
links_with t n m y place =
    subst (λ k. links_of (with_entry t k y) m + count_by (is_link m) (slots_of t k) ≡ links_of t m + count_by (is_link m) (slots_of_entry y)) (sym place.is)
    (subst (λ o. links_of (with_entry t (suc place.index) y) m + count_by (is_link m) (slots_of_entry o) ≡ links_of t m + count_by (is_link m) (slots_of_entry y)) (sym here)
    (sum_by-set (λ o. count_by (is_link m) (slots_of_entry o)) t.inodes place.index y None place.within))
  where
    here : entry_of t (suc place.index) ≡ get_or t.inodes place.index None
    here = ap option_flatten (slice_get-get_or t.inodes place.index None place.within)

-- the table keeps its places
pub places_with : (t : Tree) (n : ℕ) (y : Option Entry) → length (with_entry t n y).inodes ≡ length t.inodes
places_with t zero y = refl
places_with t (suc n) y = length-set t.inodes n y

-- an inode that is live there is live before, if what stood at the number was
live_before : (t : Tree) (n : ℕ) (x : Entry) (y : Option Entry) (m : ℕ) (e : Entry) → entry_of t n ≡ Some x → entry_of (with_entry t n y) m ≡ Some e → (f : Entry) × (entry_of t m ≡ Some f)
live_before t n x y m e live h = elim (cases_eq m n) [
  | inl is ↦ (x, ap (entry_of t) is ∙ live)
  | inr ne ↦ (e, sym (entry-other t n m y (λ z. ne (sym z))) ∙ h)
]

other_directory : (t : Tree) (n : ℕ) (y : Option Entry) (d p : ℕ) → d ≢ n → IsDirectory (with_entry t n y) d p → IsDirectory t d p
other_directory t n y d p ne (e, slots, live, body) = (e, slots, sym (entry-other t n d y (λ z. ne (sym z))) ∙ live, body)

-- a parent by the body
parent_by : (b : Body) (slots : List Slot) (p : ℕ) → b ≡ Directory slots p → parent_of_body b ≡ Some p
parent_by b slots p is = ap parent_of_body is

directory_by : (b : Body) (p : ℕ) → parent_of_body b ≡ Some p → (slots : List Slot) × (b ≡ Directory slots p)
directory_by (Directory slots up) p h = let is : up ≡ p = cc in (slots, ap (Directory slots) is)
directory_by (File content) p h = absurd (cc)
directory_by (trees.Link target) p h = absurd (cc)
directory_by Special p h = absurd (cc)

-- ---- links of trees with the same inodes

pub links_by_inodes : (links : List Link) (t u : Tree) → u.inodes ≡ t.inodes → HasLinks links t → HasLinks links u
links_by_inodes links t u same has = record {
  places = has.places ∙ ap length (sym same);
  rows = λ n e live. has.rows n e (sym (entries n) ∙ live) ∙ sym (ap (λ xs. sum_by (λ o. count_by (is_link n) (slots_of_entry o)) xs) same);
  parents = λ d p (e, slots, live, body). has.parents d p (e, slots, sym (entries d) ∙ live, body);
}
  where
    entries : (n : ℕ) → entry_of u n ≡ entry_of t n
    entries zero = refl
    entries (suc k) = ap (λ xs. option_flatten (slice_get xs k)) same

-- ---- a directory with other slots

module _ (links : List Link) (t : Tree) (has : HasLinks links t) where
  -- a live inode's number
  number_low : (n : ℕ) (x : Entry) → entry_of t n ≡ Some x → 1 ≤ n
  number_low n x live = let p = live_place t n x live in let is = p.is in omega (arith, is)

  number_high : (n : ℕ) (x : Entry) → entry_of t n ≡ Some x → n ≤ length links
  number_high n x live = let p = live_place t n x live in let is = p.is in let low = p.within in let same = has.places in omega (arith, is, low, same)

  module _ (d : ℕ) (h : IsDirectoryAt t d) (y : Entry) (ys : List Slot) where
    -- links by the slots
    links_now : (m : ℕ) → slots_of_body y.body ≡ ys → links_of (with_entry t d (Some y)) m + count_by (is_link m) h.slots ≡ links_of t m + count_by (is_link m) ys
    links_now m body =
        ap (λ xs. links_of (with_entry t d (Some y)) m + count_by (is_link m) xs) (sym (directory_slots t d h))
        ∙ links_with t d m (Some y) (live_place t d h.entry h.live) ∙ ap (λ xs. links_of t m + count_by (is_link m) xs) body

    here_now : entry_of (with_entry t d (Some y)) d ≡ Some y
    here_now = entry_set t d (Some y) (live_place t d h.entry h.live)

    -- a directory keeps its parent
    parent_kept : y.body ≡ Directory ys h.up → (m p : ℕ) → IsDirectory (with_entry t d (Some y)) m p → IsDirectory t m p
    parent_kept body m p (e, slots, live, is) = elim (cases_eq m d) [
      | inl at ↦
          let both : Some y ≡ Some e = sym here_now ∙ ap (entry_of (with_entry t d (Some y))) (sym at) ∙ live in
          let same : y ≡ e = cc in
          let bodies : Directory ys h.up ≡ Directory slots p = sym body ∙ ap (λ (x : Entry). x.body) same ∙ is in
          let up : h.up ≡ p = cc in
          (h.entry, h.slots, ap (entry_of t) at ∙ h.live, h.body ∙ ap (Directory h.slots) up)
      | inr ne ↦ other_directory t d (Some y) m p ne (e, slots, live, is)
    ]

    -- one row names n more, or one less
    pub slots_link : (n : ℕ) (x : Entry) (link : Link) → entry_of t n ≡ Some x → y.body ≡ Directory ys h.up → link.rows + count_by (is_link n) h.slots ≡ links_of t n + count_by (is_link n) ys
        → link.parent ≡ (let own = link_of links n in own.parent) → ((m : ℕ) → m ≢ n → count_by (is_link m) ys ≡ count_by (is_link m) h.slots)
        → HasLinks (with_link links n link) (with_entry t d (Some y))
    slots_link n x link live body rows parent others =
        links_set links t (with_entry t d (Some y)) n link (number_low n x live) (number_high n x live) has (places_with t d (Some y))
        (record {
          live = λ m e ne is. live_before t d h.entry (Some y) m e h.live is;
          links = λ m ne. (let now = links_now m (ap slots_of_body body) in let same = others m ne in omega (arith, now, same));
          directories = λ m p ne dir. parent_kept body m p dir;
        })
        (λ e is. (let now = links_now n (ap slots_of_body body) in omega (arith, now, rows)))
        (λ p dir. parent ∙ has.parents n p (parent_kept body n p dir))

    -- the directory has another parent
    pub parent_link : (to : ℕ) → y.body ≡ Directory ys to → ((m : ℕ) → count_by (is_link m) ys ≡ count_by (is_link m) h.slots) → HasLinks (into_parent links d to) (with_entry t d (Some y))
    parent_link to body same =
        links_set links t (with_entry t d (Some y)) d (let own = link_of links d in record own { parent = to }) (number_low d h.entry h.live) (number_high d h.entry h.live) has (places_with t d (Some y))
        (record {
          live = λ m e ne is. live_before t d h.entry (Some y) m e h.live is;
          links = λ m ne. (let now = links_now m (ap slots_of_body body) in let one = same m in omega (arith, now, one));
          directories = λ m p ne dir. other_directory t d (Some y) m p ne dir;
        })
        (λ e is. has.rows d h.entry h.live ∙ (let now = links_now d (ap slots_of_body body) in let one = same d in omega (arith, now, one)))
        (λ p (e, slots, live, is). (let both : Some y ≡ Some e = sym here_now ∙ live in
        let one : y ≡ e = cc in
        let bodies : Directory ys to ≡ Directory slots p = sym body ∙ ap (λ (x : Entry). x.body) one ∙ is in cc))

-- a slot is set to a row that names n
module _ (links : List Link) (t : Tree) (d : ℕ) (h : IsDirectoryAt t d) (y : Entry) (ys : List Slot) (row : Slot) (n : ℕ) (x : Entry) (has : HasLinks links t) (live : entry_of t n ≡ Some x) (body : y.body ≡ Directory ys h.up) (named : named_by row ≡ Some n) where
  pub links_more : ((m : ℕ) → count_by (is_link m) ys ≡ count_by (is_link m) h.slots + one_link m row) → HasLinks (one_more links n) (with_entry t d (Some y))
  links_more count =
      slots_link links t has d h y ys n x (let own = link_of links n in record own { rows = own.rows + 1 }) live body
      (let now = count n in let one = one_own n row named in let was = has.rows n x live in omega (arith, now, one, was)) refl
      (λ m ne. (let now = count m in let one = one_other n m row named ne in omega (arith, now, one)))

  pub links_less : ((m : ℕ) → count_by (is_link m) ys + one_link m row ≡ count_by (is_link m) h.slots) → 0 < links_of t n → HasLinks (one_less links n) (with_entry t d (Some y))
  links_less count some =
      slots_link links t has d h y ys n x (let own = link_of links n in record own { rows = own.rows - 1 }) live body
      (let now = count n in let one = one_own n row named in let was = has.rows n x live in omega (arith, now, one, was, some)) refl
      (λ m ne. (let now = count m in let one = one_other n m row named ne in omega (arith, now, one)))

-- ---- a number that gets an entry, or none

module _ (links : List Link) (t : Tree) (n : ℕ) (has : HasLinks links t) where
  -- an entry with the same links and parent, or none
  pub links_keep : (y : Option Entry) → ((m : ℕ) → count_by (is_link m) (slots_of_entry y) ≡ count_by (is_link m) (slots_of t n))
      → ((z : Entry) → y ≡ Some z → (x : Entry) × (entry_of t n ≡ Some x) × (parent_of_body z.body ≡ parent_of_body x.body)) → HasPlace t n → HasLinks links (with_entry t n y)
  links_keep y same was place = record {
    places = has.places ∙ sym (places_with t n y);
    rows = λ m e live. (let old = before m e live in has.rows m old.0 old.1 ∙ (let now = links_with t n m y place in let one = same m in omega (arith, now, one)));
    parents = λ d p (e, slots, live, body). elim (cases_eq d n) [
      | inl is ↦
          let x = was e (own e (ap (entry_of (with_entry t n y)) (sym is) ∙ live)) in
          let dir = directory_by (let z = x.0 in z.body) p (sym x.2 ∙ ap parent_of_body body) in
          has.parents d p (x.0, dir.0, ap (entry_of t) is ∙ x.1, dir.1)
      | inr ne ↦ has.parents d p (other_directory t n y d p ne (e, slots, live, body))
    ];
  }
    where
      own : (e : Entry) → entry_of (with_entry t n y) n ≡ Some e → y ≡ Some e
      own e live = sym (entry_set t n y place) ∙ live

      before : (m : ℕ) (e : Entry) → entry_of (with_entry t n y) m ≡ Some e → (f : Entry) × (entry_of t m ≡ Some f)
      before m e live = elim (cases_eq m n) [
        | inl is ↦ (let x = was e (own e (ap (entry_of (with_entry t n y)) (sym is) ∙ live)) in (x.0, ap (entry_of t) is ∙ x.1))
        | inr ne ↦ (e, sym (entry-other t n m y (λ z. ne (sym z))) ∙ live)
      ]

  -- a new entry, which names nothing
  pub links_new : (x : Entry) (link : Link) → 1 ≤ n → n ≤ length links → entry_of t n ≡ None → list_all (λ slot. is_none (named_by slot)) (slots_of_body x.body) ≡ true → link.rows ≡ links_of t n
      → ((p : ℕ) → parent_of_body x.body ≡ Some p → link.parent ≡ p) → HasLinks (with_link links n link) (with_entry t n (Some x))
  links_new x link from within absent bare rows parent =
      links_set links t (with_entry t n (Some x)) n link from within has (places_with t n (Some x))
      (record {
        live = λ m e ne is. (e, sym (entry-other t n m (Some x) (λ z. ne (sym z))) ∙ is);
        links = λ m ne. same m;
        directories = λ d p ne dir. other_directory t n (Some x) d p ne dir;
      })
      (λ e is. rows ∙ sym (same n))
      (λ p (e, slots, live, is). (let both : Some x ≡ Some e = sym (entry_set t n (Some x) place) ∙ live in
      let one : x ≡ e = cc in parent p (ap (λ (z : Entry). parent_of_body z.body) one ∙ ap parent_of_body is)))
    where
      place : HasPlace t n
      place = go n refl from within
        where
          go : (m : ℕ) → n ≡ m → 1 ≤ m → m ≤ length links → HasPlace t m
          go zero is low high = absurd (omega arith)
          go (suc k) is low high = record { index = k; is = refl; within = (let p = has.places in omega (arith, p, high)) }

      same : (m : ℕ) → links_of (with_entry t n (Some x)) m ≡ links_of t m
      same m =
          let now = links_with t n m (Some x) place in
          let none : count_by (is_link m) (slots_of t n) ≡ 0 = ap (λ o. count_by (is_link m) (slots_of_entry o)) absent in
          let bare_here = count_none m (slots_of_body x.body) bare in
          omega (arith, now, none, bare_here)
