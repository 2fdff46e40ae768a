-- The list of inodes: what holds of each inode on it, with one more at its end.
use Rattle.std.proofs.Common.{◌≡◌, ℕ, ◌-◌, ◌<◌, ◌≤◌, ◌⊎◌, inl, inr, List, [], ◌∷◌, ◌++◌, take, sym, ◌∙◌, ap, subst, arith}
use Rattle.std.specs.Prelude.{true, Some, is_some, map, All}
use Rattle.std.proofs.lemmas.List.{map-append}
use Rattle.std.proofs.lemmas.List.Elements.{All-append, All-cons, All-head, All-nil, All-tail}
use Rattle.qx_blockset.specs.Members.{has}
use Rattle.qx_geom.proofs.Members.{in_cases, in_left}
use Rattle.qx_geom.specs.Lists.{is_in}
use Rattle.qx_records.specs.declared.kind.Kind.TheVariants as kinds
use Rattle.qx_records.specs.InodeRecord.{kind_of}
use Rattle.qx_tables.specs.declared.listing.Listing.{Listing}
use Rattle.qx_tables.specs.declared.listing.Queued.{Queued}
use Rattle.qx_tables.specs.Tables.{IsListing, inode_at, inodes_on, places_of, taken_in}
use Rattle.qx_walk.specs.declared.state.Ground.{Ground}
use Rattle.qx_walk.specs.Steps.{AreWalked, ListsInodes}
use Rattle.qx_walk.specs.Trees.{IsReached, IsWalkedInode}

-- one more at the end of a list
one_more : (P : Queued → Type 0) (qs : List Queued) (q : Queued) → All P qs → P q → All P (qs ++ q ∷ [])
one_more P qs q all one = All-append P qs (q ∷ []) all (All-cons P q [] one (All-nil P))

-- what holds of each inode on a list holds of those that are among its numbers
held_by : (P : ℕ → Type 0) (qs : List Queued) (n : ℕ) → All (λ (q : Queued). P q.inode) qs → is_in (map (λ (q : Queued). q.inode) qs) n ≡ true → P n
held_by P [] n all there = absurd (cc)
held_by P (q ∷ qs) n all there = elim (in_cases q.inode n (map (λ (q : Queued). q.inode) qs) there) [
  | inl is ↦ subst P is (All-head (λ (q : Queued). P q.inode) q qs all)
  | inr later ↦ held_by P qs n (All-tail (λ (q : Queued). P q.inode) q qs all) later
]

module _ (ground : Ground) where
  -- it has a kind
  abbrev HasKind : Queued → Type 0
  HasKind q = is_some (kind_of (inode_at ground.table q.inode).mode) ≡ true

  -- the directory that listed it is an inode of the table
  abbrev HasParent : Queued → Type 0
  HasParent q = (0 < q.parent) × (q.parent ≤ places_of ground.table)

  -- a list of inode 1 alone, which is a directory
  pub lists_first : (l : Listing) → l.queue.items ≡ (record { inode = 1; parent = 1 }) ∷ [] → kind_of (inode_at ground.table 1).mode ≡ Some kinds.Directory → 0 < places_of ground.table → ListsInodes ground l
  lists_first l queue directory some =
      let first : Queued = record { inode = 1; parent = 1 } in
      record {
        top = ap (λ (qs : List Queued). is_in (map (λ (q : Queued). q.inode) qs) 1) queue;
        kinds = subst (λ (qs : List Queued). All HasKind qs) (sym queue) (All-cons HasKind first [] (ap (λ o. is_some o) directory) (All-nil HasKind));
        parents = subst (λ (qs : List Queued). All HasParent qs) (sym queue) (All-cons HasParent first [] (omega arith, some) (All-nil HasParent));
      }

  -- the inodes on the list are the same
  pub lists_same : (old new : Listing) → new.queue.items ≡ old.queue.items → ListsInodes ground old → ListsInodes ground new
  lists_same old new queue p = record {
    top = ap (λ (qs : List Queued). is_in (map (λ (q : Queued). q.inode) qs) 1) queue ∙ p.top;
    kinds = subst (λ (qs : List Queued). All HasKind qs) (sym queue) p.kinds;
    parents = subst (λ (qs : List Queued). All HasParent qs) (sym queue) p.parents;
  }

  -- or there is one more
  pub lists_more : (old new : Listing) (q : Queued) → (new.queue.items ≡ old.queue.items) ⊎ (new.queue.items ≡ old.queue.items ++ q ∷ [])
      → is_some (kind_of (inode_at ground.table q.inode).mode) ≡ true → (0 < q.parent) × (q.parent ≤ places_of ground.table) → ListsInodes ground old → ListsInodes ground new
  lists_more old new q (inl queue) kind parent p = lists_same old new queue p
  lists_more old new q (inr queue) kind parent p = record {
    top = ap (λ (qs : List Queued). is_in (map (λ (q : Queued). q.inode) qs) 1) queue ∙ ap (λ ns. is_in ns 1) (map-append (λ (q : Queued). q.inode) old.queue.items (q ∷ [])) ∙ in_left (inodes_on old) (q.inode ∷ []) 1 p.top;
    kinds = subst (λ (qs : List Queued). All HasKind qs) (sym queue) (one_more HasKind old.queue.items q p.kinds kind);
    parents = subst (λ (qs : List Queued). All HasParent qs) (sym queue) (one_more HasParent old.queue.items q p.parents parent);
  }

  -- ---- inodes that were taken

  -- none was yet
  pub walked_none : (l : Listing) → l.next ≡ 0 → AreWalked ground (taken_in l)
  walked_none l first = subst (λ k. AreWalked ground (take k l.queue.items)) (sym first) (All-nil (λ (q : Queued). IsWalkedInode ground.shape (inode_at ground.table q.inode)))

  -- one more was
  pub walked_more : (old new : List Queued) (q : Queued) → new ≡ old ++ q ∷ [] → IsWalkedInode ground.shape (inode_at ground.table q.inode) → AreWalked ground old → AreWalked ground new
  walked_more old new q is one all = subst (λ (qs : List Queued). AreWalked ground qs) (sym is) (one_more (λ (q : Queued). IsWalkedInode ground.shape (inode_at ground.table q.inode)) old q all one)

  -- all were
  pub walked_all : (old new : Listing) → new.queue.items ≡ old.queue.items → new.next ≡ old.next → taken_in new ≡ new.queue.items → AreWalked ground (taken_in old) → AreWalked ground new.queue.items
  walked_all old new queue next all p =
      let same : taken_in new ≡ taken_in old = ap (λ k. take k new.queue.items) next ∙ ap (λ (qs : List Queued). take old.next qs) queue in
      subst (λ (qs : List Queued). AreWalked ground qs) (sym same ∙ all) p

  -- and so was each inode that was listed
  pub reached_of : (places : ℕ) (l : Listing) (n : ℕ) → IsListing places l → ListsInodes ground l → AreWalked ground l.queue.items → 0 < n → n ≤ places → has l.listed (n - 1) ≡ true → IsReached ground.shape (inode_at ground.table n)
  reached_of places l n is lists walked pos low h =
      let there : is_in (inodes_on l) n ≡ true = sym (is.members n pos low) ∙ h in
      record {
        kind = held_by (λ k. is_some (kind_of (inode_at ground.table k).mode) ≡ true) l.queue.items n lists.kinds there;
        node = held_by (λ k. IsWalkedInode ground.shape (inode_at ground.table k)) l.queue.items n walked there;
      }
