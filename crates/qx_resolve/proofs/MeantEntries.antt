-- The entry of a number in the tree for which a state stands.
use Rattle.std.proofs.Common.{◌≡◌, ℕ, zero, suc, ◌<◌, ◌≤◌, inr, refl, sym, ◌∙◌, ap, subst, arith, List, [], ◌∷◌, length}
use Rattle.std.specs.Prelude.{Bool, true, false, Option, Some, None, Ok, Err, ok_or, option_and_then, slice_index_or}
use Rattle.qx_records.specs.declared.inode.Inode.{Inode}
use Rattle.qx_records.specs.declared.kind.Kind.{Kind}
use Rattle.qx_records.specs.declared.kind.Kind.TheVariants as kinds
use Rattle.qx_records.specs.InodeRecord.{kind_of}
use Rattle.qx_geom.specs.declared.root.Root.{Root}
use Rattle.qx_nodes.specs.NodeContents.{NodeContent, bytes_in, node_content}
use Rattle.qx_blocks.specs.BlockState.{BlockState}
use Rattle.qx_ptree.specs.Trees.{block_map}
use Rattle.qx_model.specs.declared.refusal.Refusal.TheVariants as refusals
use Rattle.qx_model.specs.Outcomes.{◌>>=◌}
use Rattle.qx_model.specs.Paths as paths
use Rattle.qx_model.specs.Tree.{Entry, IsDirectory, Tree, entry_of}
use Rattle.qx_view.specs.Entries.{IsEntryOf, Reader}
use Rattle.qx_copies.specs.Copies.{content_or_none, contents_of, inode_at, node_in, node_of_inode, node_of_kind}
use Rattle.qx_copies.specs.Shown.{IsSameInode, reader_by}
use Rattle.qx_working.specs.declared.working.Working.{Working}
use Rattle.qx_working.specs.Standing.{IsToldState}
use Rattle.qx_working.specs.States.{copy_of}
use Rattle.qx_resolve.specs.Answers.{IsLinkTo, Leads}
use Rattle.qx_resolve.specs.declared.leads.Lead.TheVariants as leads
use Rattle.qx_resolve.specs.Places.{if_directory}
use Rattle.qx_resolve.proofs.LedPaths.{directory_is, directory_none}
use Rattle.qx_resolve.proofs.KindsOfBodies.{IsOf, body_of_kind, has_no_parent, has_parent, kind_of_body, kind_of_directory, leads_in, leads_nowhere, leads_through, leads_to, target_of_link}

-- a number that is past all inodes has none
pub inode_within : (inodes : List (Option Inode)) (n : ℕ) (i : Inode) → inode_at inodes n ≡ Some i → (1 ≤ n) × (n ≤ length inodes)
inode_within inodes zero i is = absurd (cc)
inode_within inodes (suc k) i is = (omega arith, below inodes k is)
  where
    below : (xs : List (Option Inode)) (k : ℕ) → slice_index_or xs k None ≡ Some i → suc k ≤ length xs
    below [] k is = absurd (cc)
    below (x ∷ xs) zero is = omega arith
    below (x ∷ xs) (suc k) is = omega (arith, below xs k is)

module _ (m : BlockState) (w : Working) (t : Tree) (told : IsToldState m w t) where
  -- how the state's contents are read
  abbrev pub reader : Reader
  reader = reader_by w.order m.holdings.size (contents_of (block_map w.order m) (copy_of w) 0)

  -- the content of a number's node
  abbrev pub content : ℕ → NodeContent
  content n = contents_of (block_map w.order m) (copy_of w) n

  -- the inode and the entry of a number
  same_inode : (n : ℕ) → 0 < n → (o : Option Inode) → inode_at w.table.inodes n ≡ o → (x : Option Entry) → entry_of t n ≡ x → IsSameInode reader (content n) o x
  same_inode n some o is x e = subst (λ y. IsSameInode reader (content n) o y) e (subst (λ y. IsSameInode reader (content n) y (entry_of t n)) is (told.represents.shows.each n some))

  -- where none is live there is none
  pub none_meant : (n : ℕ) → inode_at w.table.inodes n ≡ None → entry_of t n ≡ None
  none_meant zero live = refl
  none_meant (suc n) live = go (entry_of t (suc n)) refl
    where
      go : (x : Option Entry) → entry_of t (suc n) ≡ x → entry_of t (suc n) ≡ None
      go None e = e
      go (Some x) e = absurd (same_inode (suc n) (omega arith) None live (Some x) e)

  -- a live inode has an entry
  pub one_meant : (n : ℕ) (i : Inode) → inode_at w.table.inodes n ≡ Some i → (e : Entry) × (entry_of t n ≡ Some e) × IsEntryOf reader i (content n) e
  one_meant zero i live = absurd (cc)
  one_meant (suc n) i live = go (entry_of t (suc n)) refl
    where
      go : (x : Option Entry) → entry_of t (suc n) ≡ x → (e : Entry) × (entry_of t (suc n) ≡ Some e) × IsEntryOf reader i (content (suc n)) e
      go None e = absurd (same_inode (suc n) (omega arith) (Some i) live None e)
      go (Some x) e = (x, e, same_inode (suc n) (omega arith) (Some i) live (Some x) e)

  -- none is led to
  pub none_led : (n : ℕ) (follow : Bool) → inode_at w.table.inodes n ≡ None → Leads t (Err refusals.NoEntry) (paths.lead_to t follow n)
  none_led n follow live = inr (ap (λ o. ok_or o refusals.NoEntry >>= λ (x : Entry). Ok (paths.lead_by follow n x.body)) (none_meant n live))

  -- a link is led through
  pub link_led : (n : ℕ) (i : Inode) → inode_at w.table.inodes n ≡ Some i → kind_of i.mode ≡ Some kinds.Link → Leads t (Ok (leads.Through n)) (paths.lead_to t true n)
  link_led n i live is =
      let x = one_meant n i live in
      let l = leads_through t n x.0 x.1 (body_of_kind _ i (content n) x.0 kinds.Link is x.2) in
      (l.0, (x.0, x.1, l.1), l.2)

  -- any other inode is led to, and so is a link that isn't followed
  pub other_led : (n : ℕ) (i : Inode) (follow : Bool) → inode_at w.table.inodes n ≡ Some i → (follow ≡ true → kind_of i.mode ≡ Some kinds.Link → ⊥) → Leads t (Ok (leads.To n)) (paths.lead_to t follow n)
  other_led n i follow live other =
      let x = one_meant n i live in
      leads_to t follow n x.0 x.1 (λ f l. other f (kind_of_body reader i (content n) x.0 x.2 l))

  -- no directory leads nowhere
  pub nowhere_led : (n : ℕ) (i : Inode) (follow : Bool) (name : List ℕ) → inode_at w.table.inodes n ≡ Some i → (kind_of i.mode ≡ Some kinds.Directory → ⊥) → paths.lead t follow n name ≡ Err refusals.NotDir
  nowhere_led n i follow name live other =
      let x = one_meant n i live in
      leads_nowhere t follow n name x.0 x.1 (λ d. other (kind_of_directory reader i (content n) x.0 x.2 d))

  -- a directory leads on by its names
  pub directory_led : (n : ℕ) (i : Inode) (follow : Bool) (name : List ℕ) → inode_at w.table.inodes n ≡ Some i → kind_of i.mode ≡ Some kinds.Directory → (p : ℕ) × IsDirectory t n p × (paths.lead t follow n name ≡ paths.lead_in t follow n p name)
  directory_led n i follow name live is =
      let x = one_meant n i live in
      let l = leads_in t follow n name x.0 x.1 (body_of_kind reader i (content n) x.0 kinds.Directory is x.2) in
      (l.1, (x.0, l.0, x.1, l.2), l.3)

  -- nothing leads on from a number that is not live
  pub unmeant_led : (n : ℕ) (follow : Bool) (name : List ℕ) → inode_at w.table.inodes n ≡ None → paths.lead t follow n name ≡ Err refusals.NoEntry
  unmeant_led n follow name live = ap (λ o. ok_or o refusals.NoEntry >>= λ (x : Entry). paths.lead_from t follow n name x.body) (none_meant n live)

  -- an entry is a live inode's
  inode_there : (n : ℕ) (e : Entry) → entry_of t n ≡ Some e → (i : Inode) × (inode_at w.table.inodes n ≡ Some i) × IsEntryOf reader i (content n) e
  inode_there n e is = go (inode_at w.table.inodes n) refl
    where
      go : (o : Option Inode) → inode_at w.table.inodes n ≡ o → (i : Inode) × (inode_at w.table.inodes n ≡ Some i) × IsEntryOf reader i (content n) e
      go None live = absurd (let both : None ≡ Some e = sym (none_meant n live) ∙ is in cc)
      go (Some i) live =
          let x = one_meant n i live in
          let same : x.0 ≡ e = (let both : Some x.0 ≡ Some e = sym x.1 ∙ is in cc) in
          (i, live, subst (λ (y : Entry). IsEntryOf reader i (content n) y) same x.2)

  -- a link has a node, whose bytes are its target; they are 1 to 1,023
  pub link_node : (n : ℕ) (target : List ℕ) → IsLinkTo t n target
      → (node : Root) × (node_in (copy_of w) n ≡ Some node) × (target ≡ bytes_in m.holdings.size (node_content (block_map w.order m) node)) × (0 < node.size) × (node.size < 1024)
  link_node zero target link = absurd (let both : None ≡ Some link.0 = link.1 in cc)
  link_node (suc k) target link =
      let i = inode_there (suc k) link.0 link.1 in
      let kind : kind_of i.0.mode ≡ Some kinds.Link = kind_of_body reader i.0 (content (suc k)) link.0 i.2 (subst (IsOf kinds.Link) (sym link.2) tt) in
      let there : node_in (copy_of w) (suc k) ≡ Some i.0.root = ap (λ (o : Option Inode). option_and_then node_of_inode o) i.1 ∙ ap (λ (o : Option Kind). node_of_kind i.0.root o) kind in
      let held = target_of_link reader i.0 (content (suc k)) link.0 target kind i.2 link.2 in
      subst (λ (o : Option Root). (target ≡ bytes_in m.holdings.size (content_or_none (block_map w.order m) o)) × (0 < (content_or_none (block_map w.order m) o).size) × ((content_or_none (block_map w.order m) o).size < 1024)
      → (node : Root) × (node_in (copy_of w) (suc k) ≡ Some node) × (target ≡ bytes_in m.holdings.size (node_content (block_map w.order m) node)) × (0 < node.size) × (node.size < 1024)) (sym there)
      (λ h. (i.0.root, there, h.0, h.1, h.2)) held

  -- whether an inode is a directory is seen by its kind
  pub none_directory : (n : ℕ) → inode_at w.table.inodes n ≡ None → if_directory t n ≡ Err refusals.NotDir
  none_directory n live = directory_none t n (none_meant n live)

  pub directory_meant : (n : ℕ) (i : Inode) → inode_at w.table.inodes n ≡ Some i → kind_of i.mode ≡ Some kinds.Directory → if_directory t n ≡ Ok n
  directory_meant n i live is =
      let x = one_meant n i live in
      directory_is t n x.0 x.1 true (has_parent x.0.body (body_of_kind reader i (content n) x.0 kinds.Directory is x.2))

  pub other_meant : (n : ℕ) (i : Inode) → inode_at w.table.inodes n ≡ Some i → (kind_of i.mode ≡ Some kinds.Directory → ⊥) → if_directory t n ≡ Err refusals.NotDir
  other_meant n i live other =
      let x = one_meant n i live in
      directory_is t n x.0 x.1 false (has_no_parent x.0.body (λ d. other (kind_of_directory reader i (content n) x.0 x.2 d)))
