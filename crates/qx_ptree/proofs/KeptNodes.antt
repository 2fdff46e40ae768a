-- A node whose blocks stay is the same node.
use Rattle.std.proofs.Common.{◌≡◌, ℕ, ◌<◌, inl, inr, List, sym, ◌∙◌, ap, subst}
use Rattle.std.specs.Prelude.{false, map, filter, replicate, IsTrue, Contains}
use Rattle.std.proofs.lemmas.Bool.{cases_eq}
use Rattle.qx_fields.specs.declared.order.Order.{Order}
use Rattle.qx_geom.specs.declared.root.Root.{Root}
use Rattle.qx_geom.specs.Lists.{is_in}
use Rattle.qx_geom.specs.Pointer.{absent, per_block}
use Rattle.qx_geom.specs.Positions.{shape_after}
use Rattle.qx_nodes.specs.BlockMap.{BlockMap, with_bytes}
use Rattle.qx_nodes.specs.Content.{content_of, leaf_bytes, piece_of}
use Rattle.qx_nodes.specs.ForeignNodes.{is_foreign_node}
use Rattle.qx_nodes.specs.Visits.{AgreesOn, LiesBelow, Visit, is_leaf, present_of, visits_of}
use Rattle.qx_nodes.proofs.ContentLocality.{content_local, leaf_bytes_local, piece_local}
use Rattle.qx_nodes.proofs.VisitLocality.{visits_local}
use Rattle.qx_blocks.specs.BlockState.{BlockState, IsConsistent}
use Rattle.qx_ptree.specs.declared.change.Change.{Change}
use Rattle.qx_ptree.specs.declared.plan.Plan.{Plan}
use Rattle.qx_ptree.specs.Alterations.{alteration_of}
use Rattle.qx_ptree.specs.Fates.{IsChange, written_by}
use Rattle.qx_ptree.specs.KeptNodes.{KeepsNode}
use Rattle.qx_ptree.specs.Plans.{IsPlan}
use Rattle.qx_ptree.specs.Takings.{LeavesOthers, Takes}
use Rattle.qx_ptree.specs.Trees.{HasLevels, IsNode, IsRegular, IsToldNode, IsWorking, block_map, pointer_at}
use Rattle.qx_ptree.proofs.AgreeingPointers.{plain_above}
use Rattle.qx_ptree.proofs.CarriedPlans.{absent_shared, private_after, works_after}
use Rattle.qx_ptree.proofs.LeavesByPointer.{bytes_by_pointer, bytes_of_hole}
use Rattle.qx_ptree.proofs.NodePositions.{position_of, there_met, told_numbers, told_reaches}
use Rattle.qx_ptree.proofs.PointerCounts.{words_positive}

-- blocks that are taken leave a node where bytes are told
pub kept_taken : (order : Order) (fresh : List ℕ) (m n : BlockState) (node : Root) → IsConsistent m → IsWorking order m node → IsTrue n.tells → Takes fresh m n → KeepsNode order m n node
kept_taken order fresh m n node s working told t = record {
  size = t.size;
  count = t.count;
  works = λ v c was. works_after fresh m n v.block t was;
  private = λ v c. private_after fresh m n v.block t (s.works_held v.block (working v c));
  bytes = λ v c. t.told_bytes told v.block (s.works_held v.block (working v c));
}

-- and so does a change of blocks that it doesn't meet
pub kept_others : (order : Order) (changed : List ℕ) (m n : BlockState) (node : Root) → LeavesOthers changed m n → ((v : Visit) → Contains (visits_of (block_map order m) node) v → is_in changed v.block ≡ false) → KeepsNode order m n node
kept_others order changed m n node l out = record { size = l.size; count = l.count; works = λ v c was. l.works v.block (out v c) ∙ was; private = λ v c. l.private v.block (out v c); bytes = λ v c. l.bytes v.block (out v c) }

module _ (order : Order) (m n : BlockState) (node : Root) (k : KeepsNode order m n node) where
  -- the blocks before
  abbrev old : BlockMap
  old = block_map order m

  -- those afterwards are the same with other bytes
  map_kept : block_map order n ≡ with_bytes old n.bytes
  map_kept i = record { order = order; size = k.size i; count = k.count i; bytes = n.bytes }

  -- which are the same on what the node meets
  bytes_agree : AgreesOn old n.bytes (visits_of old node)
  bytes_agree v c = sym (k.bytes v c)

  -- it meets the same
  pub visits_kept : visits_of (block_map order n) node ≡ visits_of old node
  visits_kept = ap (λ t. visits_of t node) map_kept ∙ sym (visits_local old n.bytes node bytes_agree)

  -- a leaf has the same bytes
  pub leaf_kept : (i : ℕ) → LiesBelow old node i → leaf_bytes (block_map order n) node i ≡ leaf_bytes old node i
  leaf_kept i below = ap (λ t. leaf_bytes t node i) map_kept ∙ sym (leaf_bytes_local old n.bytes node i below bytes_agree)

  -- what it meets is the working tree's
  pub working_kept : IsWorking order m node → IsWorking order n node
  working_kept working v c =
      let before : Contains (visits_of old node) v = subst (λ vs. Contains vs v) visits_kept c in
      k.works v before (working v before)

  -- it is as this project writes nodes
  pub regular_kept : IsConsistent m → IsWorking order m node → IsRegular order m node → IsRegular order n node
  regular_kept s working r = record {
    plain = ap (λ t. is_foreign_node t node) map_kept ∙ plain_above old n.bytes node (λ v c above. sym (k.bytes v c)) (λ v c. s.numbers v.block (s.works_held v.block (working v c))) r.plain;
    apart = λ u v a b same. r.apart u v (subst (λ vs. Contains vs u) visits_kept a) (subst (λ vs. Contains vs v) visits_kept b) same;
  }

-- one call after another
pub kept_then : (order : Order) (m n o : BlockState) (node : Root) → KeepsNode order m n node → KeepsNode order n o node → KeepsNode order m o node
kept_then order m n o node f g = record {
  size = g.size ∙ f.size;
  count = g.count ∙ f.count;
  works = λ v c was. g.works v (still v c) (f.works v c was);
  private = λ v c. g.private v (still v c) ∙ f.private v c;
  bytes = λ v c. g.bytes v (still v c) ∙ f.bytes v c;
} where
  still : (v : Visit) → Contains (visits_of (block_map order m) node) v → Contains (visits_of (block_map order n) node) v
  still v c = subst (λ vs. Contains vs v) (sym (visits_kept order m n node f)) c

-- ---- where bytes are told

module _ (order : Order) (m n : BlockState) (node : Root) (s : IsConsistent n) (k : KeepsNode order m n node) (is : IsToldNode order m node) where
  -- the same is known of the node
  pub told_kept : IsToldNode order n node
  told_kept = record {
    consistent = s;
    sixteen = is.sixteen;
    levels = subst (λ z. HasLevels z node) (sym k.size) is.levels;
    works = working_kept order m n node k is.works;
    regular = regular_kept order m n node k is.consistent is.works is.regular;
  }

  -- it has the same pointers
  pub pointers_kept : (l j : ℕ) → pointer_at (block_map order n) node l j ≡ pointer_at (block_map order m) node l j
  pointers_kept l j = elim (cases_eq (pointer_at (block_map order m) node l j) absent) [
    | inr there ↦ sym (position_of order n node told_kept (record { level = l; index = j; block = pointer_at (block_map order m) node l j })
        (subst (λ vs. Contains vs (record { level = l; index = j; block = pointer_at (block_map order m) node l j })) (sym (visits_kept order m n node k)) (there_met order m node is l j there)))
    | inl none ↦ elim (cases_eq (pointer_at (block_map order n) node l j) absent) [
      | inl too ↦ too ∙ sym none
      | inr there ↦ position_of order m node is (record { level = l; index = j; block = pointer_at (block_map order n) node l j })
          (subst (λ vs. Contains vs (record { level = l; index = j; block = pointer_at (block_map order n) node l j })) (visits_kept order m n node k) (there_met order n node told_kept l j there))
    ]
  ]

  -- their blocks are private where they were
  pub private_kept : (l j : ℕ) → n.holdings.private (pointer_at (block_map order n) node l j) ≡ m.holdings.private (pointer_at (block_map order m) node l j)
  private_kept l j = ap n.holdings.private (pointers_kept l j) ∙ elim (cases_eq (pointer_at (block_map order m) node l j) absent) [
    | inl none ↦ subst (λ q. n.holdings.private q ≡ m.holdings.private q) (sym none) (absent_shared n s ∙ sym (absent_shared m is.consistent))
    | inr there ↦ k.private (record { level = l; index = j; block = pointer_at (block_map order m) node l j }) (there_met order m node is l j there)
  ]

  -- its present leaves are the same
  pub present_kept : present_of (block_map order n) node ≡ present_of (block_map order m) node
  present_kept = ap (λ (vs : List Visit). map (λ (v : Visit). v.index) (filter is_leaf vs)) (visits_kept order m n node k)

  -- so a change makes the same of it
  pub alteration_kept : (c : Change) → alteration_of order n node c ≡ alteration_of order m node c
  alteration_kept c = λ i. record {
    blocksize = k.size i;
    old = record { levels = node.levels; present = present_kept i };
    new = shape_after (k.size i) (record { levels = node.levels; present = present_kept i }) c.size (written_by c) c.gone;
    written = written_by c;
    private = λ l j. private_kept l j i;
  }

  -- each leaf has the same bytes, also past the size
  pub all_leaves_kept : (i : ℕ) → leaf_bytes (block_map order n) node i ≡ leaf_bytes (block_map order m) node i
  all_leaves_kept i =
      let words : 0 < per_block m.holdings.size = words_positive m.holdings.size is.consistent.size in
      let words_new : 0 < per_block n.holdings.size = words_positive n.holdings.size s.size in
      elim (cases_eq (pointer_at (block_map order m) node 0 i) absent) [
        | inl none ↦ bytes_of_hole (block_map order n) node i words_new (told_numbers order n node told_kept) (pointers_kept 0 i ∙ none) ∙ ap (λ z. replicate z 0) k.size ∙ sym (bytes_of_hole (block_map order m) node i words (told_numbers order m node is) none)
        | inr there ↦
            bytes_by_pointer (block_map order n) node i words_new (told_numbers order n node told_kept) (λ e. there (sym (pointers_kept 0 i) ∙ e)) ∙ ap n.bytes (pointers_kept 0 i)
            ∙ k.bytes (record { level = 0; index = i; block = pointer_at (block_map order m) node 0 i }) (there_met order m node is 0 i there)
            ∙ sym (bytes_by_pointer (block_map order m) node i words (told_numbers order m node is) there)
      ]

-- it has the same bytes
pub content_kept : (order : Order) (m n : BlockState) (node : Root) (k : KeepsNode order m n node) → IsToldNode order m node → content_of (block_map order n) node ≡ content_of (block_map order m) node
content_kept order m n node k is = ap (λ t. content_of t node) (map_kept order m n node k) ∙ sym (content_local (block_map order m) n.bytes node (told_reaches order m node is) (bytes_agree order m n node k))

-- also within a leaf
pub piece_kept : (order : Order) (m n : BlockState) (node : Root) (at count : ℕ) (k : KeepsNode order m n node) → IsToldNode order m node → at < node.size → piece_of (block_map order n) node at count ≡ piece_of (block_map order m) node at count
piece_kept order m n node at count k is low = ap (λ t. piece_of t node at count) (map_kept order m n node k) ∙ sym (piece_local (block_map order m) n.bytes node at count (told_reaches order m node is) low (bytes_agree order m n node k))

-- ---- a node that can be changed, and a plan of it

-- it can be after a call that took blocks
pub node_taken : (order : Order) (fresh : List ℕ) (m n : BlockState) (node : Root) → IsConsistent m → Takes fresh m n → IsNode order m node → IsNode order n node
node_taken order fresh m n node s t is = record {
  levels = subst (λ size. HasLevels size node) (sym t.size) is.levels;
  works = λ told. working_kept order m n node (kept told) (is.works (t.told_before told));
  regular = λ told. regular_kept order m n node (kept told) s (is.works (t.told_before told)) (is.regular (t.told_before told));
} where
  kept : IsTrue n.tells → KeepsNode order m n node
  kept told = kept_taken order fresh m n node s (is.works (t.told_before told)) told t

-- and after a change of blocks that it doesn't meet, which it must be known not to only where bytes are told
pub node_others : (order : Order) (changed : List ℕ) (m n : BlockState) (node : Root) → IsConsistent m → LeavesOthers changed m n
    → (IsTrue m.tells → (v : Visit) → Contains (visits_of (block_map order m) node) v → is_in changed v.block ≡ false) → IsNode order m node → IsNode order n node
node_others order changed m n node s l out is = record {
  levels = subst (λ size. HasLevels size node) (sym l.size) is.levels;
  works = λ told. working_kept order m n node (kept told) (is.works (before told));
  regular = λ told. regular_kept order m n node (kept told) s (is.works (before told)) (is.regular (before told));
} where
  before : IsTrue n.tells → IsTrue m.tells
  before told = sym l.tells ∙ told

  kept : IsTrue n.tells → KeepsNode order m n node
  kept told = kept_others order changed m n node l (out (before told))

-- and after a call that took blocks the plan meets its conditions
pub plan_after : (f : List ℕ) (m n : BlockState) (plan : Plan) → IsConsistent m → IsPlan m plan → Takes f m n → IsPlan n plan
plan_after f m n plan s met t = record { node = node_taken plan.order f m n plan.node s t met.node; change = subst (λ size. IsChange size plan.change) (sym t.size) met.change }
