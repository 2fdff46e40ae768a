-- The list of inodes: empty, and with one more at its end.
use Rattle.std.proofs.Common.{◌≡◌, ℕ, ◌+◌, ◌-◌, ◌<◌, ◌≤◌, inl, inr, List, [], ◌∷◌, ◌++◌, length, drop, replicate, sym, ◌∙◌, ap, arith, length-append, length-set}
use Rattle.std.specs.Prelude.{true, false, ◌||◌, if◌then◌else◌, map, slice_set}
use Rattle.std.proofs.lemmas.Bool.{cases_eq, eq-eqb, ne_eqb}
use Rattle.std.proofs.lemmas.List.{drop-append-le, length-replicate, map-append, get_or-replicate, get_or-set_same, get_or-set_other}
use Rattle.std.proofs.lemmas.List.Elements.{All-nil, All-same}
use Rattle.qx_blockset.specs.Members.{Members, count_of, has, limit_of}
use Rattle.qx_geom.specs.Lists.{is_in}
use Rattle.qx_blockset.proofs.MembersInWords.{count-none}
use Rattle.qx_view.specs.Walk.{listed_after, new_ones}
use Rattle.qx_tables.specs.declared.listing.Listing.{Listing}
use Rattle.qx_tables.specs.declared.listing.Queued.{Queued}
use Rattle.qx_tables.specs.Tables.{HasListed, IsListing, pair_of}

-- no inode
abbrev no_one : List Queued
no_one = []

-- nothing is listed yet
pub none_listed : (l : Listing) (places : ℕ) → l.queue.items ≡ [] → l.next ≡ 0 → l.listed ≡ replicate places false → HasListed [] [] l
none_listed l places empty first none = record {
  taken = omega (arith, first);
  queue = ap (λ (qs : List Queued). map pair_of (drop l.next qs)) empty ∙ ap (λ k. map pair_of (drop k no_one)) first;
  each = λ n pos there.
      let long : length l.listed ≡ places = ap (λ (set : Members). length set) none ∙ length-replicate places false in
      ap (λ (set : Members). has set (n - 1)) none ∙ get_or-replicate places (n - 1) false false (omega (arith, long, pos, there));
}

-- and the list is one of so many inodes
pub none_listing : (l : Listing) (places : ℕ) → l.queue.items ≡ [] → l.next ≡ 0 → l.listed ≡ replicate places false → IsListing places l
none_listing l places empty first none = record {
  limit = ap (λ (set : Members). length set) none ∙ length-replicate places false;
  taken = omega (arith, first);
  queued = All-same (λ (q : Queued). (0 < q.inode) × (q.inode ≤ places)) l.queue.items no_one empty (All-nil (λ (q : Queued). (0 < q.inode) × (q.inode ≤ places)));
  counted = ap count_of none ∙ count-none places ∙ sym (ap (λ (qs : List Queued). length qs) empty);
  members = λ n pos there.
      ap (λ (set : Members). has set (n - 1)) none ∙ get_or-replicate places (n - 1) false false (omega (arith, pos, there)) ∙ sym (ap (λ (qs : List Queued). is_in (map (λ (q : Queued). q.inode) qs) n) empty);
}

-- the pairs that are left, with one more
more_left : (next : ℕ) (items : List Queued) (q : Queued) (left : List (ℕ × ℕ)) → next ≤ length items → map pair_of (drop next items) ≡ left → map pair_of (drop next (items ++ q ∷ [])) ≡ left ++ pair_of q ∷ []
more_left next items q left h e =
    ap (λ (z : List Queued). map pair_of z) (drop-append-le next items (q ∷ []) h) ∙ map-append pair_of (drop next items) (q ∷ []) ∙ ap (λ (z : List (ℕ × ℕ)). z ++ pair_of q ∷ []) e

-- who is in the set, with one more
more_listed : (set : Members) (n k : ℕ) (listed : List ℕ) → 0 < n → n ≤ limit_of set → 0 < k → has set (k - 1) ≡ is_in listed k → has (slice_set set (n - 1) true) (k - 1) ≡ is_in (n ∷ listed) k
more_listed set n k listed pos there from e = elim (cases_eq n k) [
  | inl is ↦ ap (λ j. has (slice_set set (n - 1) true) (j - 1)) (sym is) ∙ get_or-set_same set (n - 1) true false (omega (arith, pos, there)) ∙ sym (ap (λ b. b || is_in listed k) (eq-eqb n k is))
  | inr not ↦ get_or-set_other set (n - 1) (k - 1) true false (λ same. not (omega (arith, same, pos, from))) ∙ e ∙ sym (ap (λ b. b || is_in listed k) (ne_eqb n k not))
]

-- one more is listed
pub one_listed : (old new : Listing) (q : Queued) (left : List (ℕ × ℕ)) (listed : List ℕ) → HasListed left listed old → 0 < q.inode → q.inode ≤ limit_of old.listed → is_in listed q.inode ≡ false
    → new.next ≡ old.next → new.queue.items ≡ old.queue.items ++ q ∷ [] → new.listed ≡ slice_set old.listed (q.inode - 1) true
    → HasListed (left ++ map (λ k. (k, q.parent)) (new_ones (q.inode ∷ []) listed)) (listed_after (q.inode ∷ []) listed) new
one_listed old new q left listed h pos there absent next queue set =
    let pairs : left ++ map (λ k. (k, q.parent)) (new_ones (q.inode ∷ []) listed) ≡ left ++ pair_of q ∷ [] = ap (λ b. left ++ map (λ k. (k, q.parent)) (if b then [] else q.inode ∷ [])) absent in
    let inodes : listed_after (q.inode ∷ []) listed ≡ q.inode ∷ listed = ap (λ b. if b then listed else q.inode ∷ listed) absent in
    record {
      taken = let longer : length new.queue.items ≡ length old.queue.items + 1 = ap (λ (qs : List Queued). length qs) queue ∙ length-append old.queue.items (q ∷ []) in omega (arith, longer, next, h.taken);
      queue = ap (λ k. map pair_of (drop k new.queue.items)) next ∙ ap (λ (qs : List Queued). map pair_of (drop old.next qs)) queue ∙ more_left old.next old.queue.items q left h.taken h.queue ∙ sym pairs;
      each = λ k from to.
          let long : limit_of new.listed ≡ limit_of old.listed = ap (λ (s : Members). length s) set ∙ length-set old.listed (q.inode - 1) true in
          ap (λ (s : Members). has s (k - 1)) set ∙ more_listed old.listed q.inode k listed pos there from (h.each k from (omega (arith, long, to))) ∙ sym (ap (λ xs. is_in xs k) inodes);
    }
