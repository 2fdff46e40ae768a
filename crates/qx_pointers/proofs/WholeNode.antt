-- What a passage through a node's pointers says of the node.
use Rattle.std.proofs.Common.{◌≡◌, ℕ, ◌<◌, List, [], ◌∷◌, length, sym, ◌∙◌, ap, subst}
use Rattle.std.specs.Prelude.{Bool, true, if◌then◌else◌, Some, Result, Ok, filter}
use Rattle.qx_blockset.specs.Members.{Members}
use Rattle.qx_geom.specs.Pointer.{absent, per_block}
use Rattle.qx_geom.specs.declared.root.Root.{Root}
use Rattle.qx_nodes.specs.BlockMap.{BlockMap}
use Rattle.qx_nodes.specs.Leaves.{leaves_below}
use Rattle.qx_nodes.specs.Visits.{is_leaf, visits_of}
use Rattle.qx_view.specs.declared.findings.Code.TheVariants as codes
use Rattle.qx_view.specs.declared.findings.Code.{Code}
use Rattle.qx_view.specs.Walk.{Test, Tested, first_failing, node_tests}
use Rattle.qx_pointers.proofs.BareBlocks.{bare_of}
use Rattle.qx_pointers.proofs.SeenParts.{tests_at}
use Rattle.qx_pointers.specs.declared.halt.Halt.{Halt}
use Rattle.qx_pointers.specs.declared.node.LeafPlace.{LeafPlace}
use Rattle.qx_pointers.specs.declared.node.Part.{Part}
use Rattle.qx_pointers.specs.declared.node.Visitor.{Visitor}
use Rattle.qx_pointers.specs.Halts.{Answers}
use Rattle.qx_pointers.specs.Marks.{GoesThrough}
use Rattle.qx_pointers.specs.Parts.{IsSeen, IsWhole, end_of, kept_leaves}
use Rattle.qx_pointers.specs.Passage.{Sees, bare_beside, strays_beside, visits_beside}

-- a test that passes, and then others
goes_on : (code : Code) (inode block : ℕ) (fits : Bool) (tests : List Test) (r : Result Part Halt) (a b : Members) → fits ≡ true → GoesThrough tests r a b → GoesThrough (Tested code inode block fits ∷ tests) r a b
goes_on code inode block fits tests r a b e p = record {
  answer = λ met marks. subst (λ o. Answers o r) (sym (ap (λ z. if z then first_failing met tests else Some (record { code = code; inode = inode; block = block })) e)) (p.answer met marks);
  marks = λ met marks. p.marks met marks;
}

module _ (m : BlockMap) (visitor : Visitor) (node : Root) (last : ℕ) (below : last ≡ leaves_below m node) (sixteen : length node.pointers ≡ 16) where
  -- a passage through its pointers
  abbrev pub SeesNode : Result Part Halt → Members → Members → List LeafPlace → List LeafPlace → Type 0
  SeesNode = Sees m visitor last (visits_beside m last node.levels 0 node.pointers (length node.pointers)) (strays_beside m last node.levels 0 node.pointers (length node.pointers)) (bare_beside m last node.levels 0 node.pointers (length node.pointers))

  -- what is met
  visits_are : visits_beside m last node.levels 0 node.pointers (length node.pointers) ≡ visits_of m node
  visits_are = λ i. visits_beside m (below i) node.levels 0 node.pointers (sixteen i)

  -- its tests were gone through
  pub node_gone : (fits : Bool) (r : Result Part Halt) (a b : Members) (xs ys : List LeafPlace) → fits ≡ true → SeesNode r a b xs ys → GoesThrough (node_tests m visitor.inode node fits) r a b
  node_gone fits r a b xs ys e u = goes_on codes.Levels visitor.inode absent fits (tests_at m visitor.inode (visits_of m node)) r a b e (subst (λ z. GoesThrough (tests_at m visitor.inode z) r a b) visits_are u.tests)

  -- what is seen of it
  pub node_seen : (part : Part) (a b : Members) (xs ys : List LeafPlace) → 0 < per_block m.size → SeesNode (Ok part) a b xs ys → IsWhole m node part
  node_seen part a b xs ys pos u =
      let p : IsSeen last (visits_beside m last node.levels 0 node.pointers (length node.pointers)) (strays_beside m last node.levels 0 node.pointers (length node.pointers)) (bare_beside m last node.levels 0 node.pointers (length node.pointers)) part = u.part in
      record {
        leaves = p.leaves ∙ ap (λ z. length (filter is_leaf z)) visits_are;
        strays = p.strays ∙ (λ i. strays_beside m (below i) node.levels 0 node.pointers (sixteen i));
        bare = p.bare ∙ (λ i. bare_beside m (below i) node.levels 0 node.pointers (sixteen i)) ∙ bare_of m node pos;
        end = p.end ∙ (λ i. end_of (below i) (visits_are i));
      }

  -- the leaves that are kept
  pub node_kept : (part : Part) (a b : Members) (ys : List LeafPlace) → SeesNode (Ok part) a b [] ys → ys ≡ kept_leaves visitor.keeps (visits_of m node)
  node_kept part a b ys u = u.leaves ∙ ap (kept_leaves visitor.keeps) visits_are
