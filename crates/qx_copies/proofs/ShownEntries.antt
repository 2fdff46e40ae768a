-- Inodes of which one is set, and what its node holds: they show the tree with that inode set.
use Rattle.std.proofs.Common.{◌≡◌, ◌≢◌, ℕ, zero, suc, ◌<◌, ◌≤◌, List, length, inl, inr, refl, sym, ◌∙◌, ap, subst, arith}
use Rattle.std.specs.Prelude.{Option}
use Rattle.std.proofs.lemmas.Bool.{cases_eq}
use Rattle.std.proofs.lemmas.List.{length-set}
use Rattle.qx_fields.specs.declared.order.Order.{Order}
use Rattle.qx_geom.specs.Lists.{each_below}
use Rattle.qx_geom.specs.Pointer.{ceil_div}
use Rattle.qx_nodes.specs.LongNames.{name_in}
use Rattle.qx_nodes.specs.NodeContents.{IsSameContent}
use Rattle.qx_records.specs.declared.inode.Inode.{Inode}
use Rattle.qx_model.specs.Directories.{with_entry}
use Rattle.qx_model.specs.Tree.{Entry, Tree, entry_of}
use Rattle.qx_model.proofs.Outlines.{entry-other, entry-same}
use Rattle.qx_model.proofs.WholeNumbers.{longs_with}
use Rattle.qx_copies.specs.Copies.{Contents, inode_at}
use Rattle.qx_copies.specs.Shown.{IsSameInode, SetsInode, Shows, reader_by}
use Rattle.qx_copies.proofs.ShownContents.{names_alike, reader_alike, same_alike}

-- the tree keeps its places
places_with : (t : Tree) (n : ℕ) (y : Option Entry) → length (with_entry t n y).inodes ≡ length t.inodes
places_with t zero y = refl
places_with t (suc n) y = length-set t.inodes n y

-- where one inode and its node's content are set, the tree is shown with it so
pub shows_set : (order : Order) (blocksize : ℕ) (before after : List (Option Inode)) (old new : Contents) (t : Tree) (n : ℕ) (x : Option Inode) (y : Option Entry) → 0 < blocksize → 1 ≤ n → n ≤ length before
    → Shows order blocksize before old t → SetsInode before after n x → ((o : ℕ) → o ≢ n → IsSameContent blocksize (old o) (new o)) → IsSameInode (reader_by order blocksize (old 0)) (new n) x y
    → Shows order blocksize after new (with_entry t n y)
shows_set order blocksize before after old new t n x y pos from within shows sets others is = record {
  places = places_with t n y ∙ shows.places ∙ sym sets.places;
  each = λ m some. subst (λ r. IsSameInode r (new m) (inode_at after m) (entry_of (with_entry t n y) m)) (sym (reader_alike order blocksize (old 0) (new 0) pos long_same)) (at m some);
  long_size = (let l = longs_with t n y in l.size) ∙ shows.long_size ∙ sym long_same.size;
  long_present = (let l = longs_with t n y in l.present) ∙ shows.long_present ∙ sym long_same.present;
  long_names = (let l = longs_with t n y in l.names) ∙ shows.long_names
      ∙ sym ((λ j. each_below (ceil_div (long_same.size j) blocksize) (name_in order blocksize (new 0))) ∙ ap (each_below (ceil_div (old 0).size blocksize)) (names_alike order blocksize (old 0) (new 0) pos long_same));
}
  where
    long_same : IsSameContent blocksize (old 0) (new 0)
    long_same = others 0 (λ z. omega (arith, z))

    there : entry_of (with_entry t n y) n ≡ y
    there = go n refl from within
      where
        go : (m : ℕ) → n ≡ m → 1 ≤ m → m ≤ length before → entry_of (with_entry t m y) m ≡ y
        go zero e low high = absurd (omega arith)
        go (suc k) e low high = entry-same t k y (let p = shows.places in omega (arith, p, high))

    at : (m : ℕ) → 0 < m → IsSameInode (reader_by order blocksize (old 0)) (new m) (inode_at after m) (entry_of (with_entry t n y) m)
    at m some = elim (cases_eq m n) [
      | inl e ↦ subst (λ k. IsSameInode (reader_by order blocksize (old 0)) (new k) (inode_at after k) (entry_of (with_entry t n y) k)) (sym e)
          (subst (λ a. IsSameInode (reader_by order blocksize (old 0)) (new n) a (entry_of (with_entry t n y) n)) (sym sets.is) (subst (λ b. IsSameInode (reader_by order blocksize (old 0)) (new n) x b) (sym there) is))
      | inr ne ↦
          subst (λ a. IsSameInode (reader_by order blocksize (old 0)) (new m) a (entry_of (with_entry t n y) m)) (sym (sets.others m ne))
          (subst (λ b. IsSameInode (reader_by order blocksize (old 0)) (new m) (inode_at before m) b) (sym (entry-other t n m y (λ z. ne (sym z))))
          (same_alike (reader_by order blocksize (old 0)) (old m) (new m) pos (others m ne) (inode_at before m) (entry_of t m) (shows.each m some)))
    ]
