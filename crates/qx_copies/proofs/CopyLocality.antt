-- Where blocks agree on what a copy meets, the copy stands for the same tree and the same ids, and is laid out alike.
use Rattle.std.proofs.Common.{◌≡◌, ℕ, zero, suc, List, refl, sym, ◌∙◌, subst}
use Rattle.std.specs.Prelude.{Option, Some, None, Contains}
use Rattle.qx_geom.specs.declared.root.Root.{Root}
use Rattle.qx_model.specs.Machine.{Copy}
use Rattle.qx_model.specs.Owners.{OfFurther, OfInode, OfInodes, OfLongfile, Owner}
use Rattle.qx_model.specs.Tree.{Tree}
use Rattle.qx_model.specs.TreePositions.{Position}
use Rattle.qx_nodes.proofs.ContentLocality.{content_same, reaches_of}
use Rattle.qx_nodes.proofs.VisitLocality.{visits_local}
use Rattle.qx_nodes.specs.BlockMap.{BlockMap, with_bytes}
use Rattle.qx_nodes.specs.Content.{HasSize, Reaches}
use Rattle.qx_nodes.specs.NodeContents.{IsSameContent}
use Rattle.qx_nodes.specs.Visits.{AgreesOn, Visit, visits_of}
use Rattle.qx_view.proofs.NodesAlike.{AgreesAt, foreign_node_alike, tail_alike}
use Rattle.qx_copies.specs.Copies.{BlockCopy, content_or_none, contents_of, no_content, node_in}
use Rattle.qx_copies.specs.Standing.{IsOwnCopy, MeetsBlock, Represents, RepresentsIds, StandsAt, node_of_owner}
use Rattle.qx_copies.proofs.ShownContents.{same_itself, shows_alike}

module _ (m : BlockMap) (g : ℕ → List ℕ) (c : BlockCopy) (held : (b : ℕ) → MeetsBlock m c b → m.bytes b ≡ g b) where
  -- the blocks of each node agree
  agrees : (o : ℕ) (node : Root) → node_in c o ≡ Some node → AgreesOn m g (visits_of m node)
  agrees o node there v among = held v.block (record { number = o; node = node; is = there; visit = v; met = among; block = refl })

  -- so it meets the same
  met_back : (o : ℕ) (node : Root) (v : Visit) → node_in c o ≡ Some node → Contains (visits_of (with_bytes m g) node) v → Contains (visits_of m node) v
  met_back o node v there among = subst (λ vs. Contains vs v) (sym (visits_local m g node (agrees o node there))) among

  met_on : (o : ℕ) (node : Root) (v : Visit) → node_in c o ≡ Some node → Contains (visits_of m node) v → Contains (visits_of (with_bytes m g) node) v
  met_on o node v there among = subst (λ vs. Contains vs v) (visits_local m g node (agrees o node there)) among

  -- and so does the copy
  pub meets_back : (b : ℕ) → MeetsBlock (with_bytes m g) c b → MeetsBlock m c b
  meets_back b h = record { number = h.number; node = h.node; is = h.is; visit = h.visit; met = met_back h.number h.node h.visit h.is h.met; block = h.block }

  pub meets_on : (b : ℕ) → MeetsBlock m c b → MeetsBlock (with_bytes m g) c b
  meets_on b h = record { number = h.number; node = h.node; is = h.is; visit = h.visit; met = met_on h.number h.node h.visit h.is h.met; block = h.block }

  -- the node of an owner is one of a number
  by_number : (o : Owner) (node : Root) → node_of_owner c o ≡ Some node → (n : ℕ) × (node_in c n ≡ Some node)
  by_number OfInodes node there = absurd (cc)
  by_number OfLongfile node there = (0, there)
  by_number (OfFurther k) node there = absurd (cc)
  by_number (OfInode zero) node there = absurd (cc)
  by_number (OfInode (suc k)) node there = (suc k, there)

  -- so the same block stands at a position
  stands_back : (p : Position) (b : ℕ) → StandsAt (with_bytes m g) c p b → StandsAt m c p b
  stands_back p b s = let at = by_number p.owner s.node s.is in record { node = s.node; is = s.is; met = met_back at.0 s.node _ at.1 s.met }

  stands_on : (p : Position) (b : ℕ) → StandsAt m c p b → StandsAt (with_bytes m g) c p b
  stands_on p b s = let at = by_number p.owner s.node s.is in record { node = s.node; is = s.is; met = met_on at.0 s.node _ at.1 s.met }

  module _ (t : Tree) (size : HasSize m) (is : Represents m c t) where
    -- the levels of each node reach its size
    reaches : (o : ℕ) (node : Root) → node_in c o ≡ Some node → Reaches m node
    reaches o node there = reaches_of m node size (is.bounded.levels o node there)

    -- the contents are the same
    same : (o : ℕ) → IsSameContent m.size (contents_of m c o) (contents_of (with_bytes m g) c o)
    same o = by_node (node_in c o) refl
      where
        by_node : (x : Option Root) → node_in c o ≡ x → IsSameContent m.size (content_or_none m x) (content_or_none (with_bytes m g) x)
        by_node None there = same_itself m.size no_content
        by_node (Some node) there = content_same m g node (reaches o node there) (agrees o node there)

    -- the copy stands for the same tree
    pub represents_on : Represents (with_bytes m g) c t
    represents_on = record {
      bounded = record { sixteen = is.bounded.sixteen; levels = is.bounded.levels };
      longfile_fits = is.longfile_fits;
      undamaged = record {
        blocks = λ o node v there among. is.undamaged.blocks o node v there (met_back o node v there among);
        once = λ o q a b u v at bt among bmong e. is.undamaged.once o q a b u v at bt (met_back o a u at among) (met_back q b v bt bmong) e;
      };
      rooted = is.rooted;
      shows = shows_alike m.order m.size c.inodes (contents_of m c) (contents_of (with_bytes m g) c) t size.size same is.shows;
    }

    -- each node agrees
    agrees_at : (o : ℕ) (node : Root) → node_in c o ≡ Some node → AgreesAt m g node
    agrees_at o node there = record { reaches = reaches o node there; on = agrees o node there; blocks = λ v among. is.undamaged.blocks o node v there among }

    -- where it is laid out as this project does, it is so over the other blocks
    pub own_on : IsOwnCopy m c t → IsOwnCopy (with_bytes m g) c t
    own_on own = record {
      whole = own.whole;
      used = own.used;
      inodes = own.inodes;
      nodes = λ o node there. sym (foreign_node_alike m g node (agrees_at o node there)) ∙ own.nodes o node there;
      tails = λ n node there. sym (tail_alike m g node (agrees_at (suc n) node there)) ∙ own.tails n node there;
    }

  -- and for the same ids
  pub ids_on : (k : Copy) (block : ℕ → ℕ) → HasSize m → RepresentsIds m c k block → RepresentsIds (with_bytes m g) c k block
  ids_on k block size is = record {
    tree = represents_on k.tree size is.tree;
    own = own_on k.tree size is.tree is.own;
    placed = λ p has. stands_on p (block (k.ids p)) (is.placed p has);
    no_other = λ p b s. is.no_other p b (stands_back p b s);
  }
