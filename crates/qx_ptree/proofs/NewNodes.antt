-- The node that a prepared change makes, once its bytes have come about: its present leaves, its blocks, and that it is as this project writes nodes.
use Rattle.std.proofs.Common.{◌≡◌, ◌≢◌, ℕ, zero, suc, ◌+◌, ◌*◌, ◌/◌, ◌^◌, ◌<◌, ◌≤◌, List, [], ◌∷◌, refl, sym, ◌∙◌, ap, subst, arith}
use Rattle.std.specs.Prelude.{Bool, true, false, not, ◌&&◌, ◌||◌, ◌==◌, nat_le, if◌then◌else◌, Contains, map, slice_index_or}
use Rattle.std.specs.List.{list_any, range_with_len}
use Rattle.std.proofs.lemmas.Bool.{eq-eqb, lt-leb}
use Rattle.qx_geom.specs.declared.root.Root.{Root}
use Rattle.qx_geom.specs.Layout.{levels_for}
use Rattle.qx_geom.specs.Lists.{each_below, is_in}
use Rattle.qx_geom.specs.Pointer.{absent, ceil_div, per_block}
use Rattle.qx_geom.specs.Positions.{HasPosition, has_position, index_above}
use Rattle.qx_geom.proofs.ImagesAndFilters.{Contains-in, in_Contains}
use Rattle.qx_geom.proofs.LeastTouch.{has_above, leaf_below, above_leaf}
use Rattle.qx_geom.proofs.Members.{Contains-cons, Contains-head, Contains-any}
use Rattle.qx_geom.proofs.Truths.{true_or_false}
use Rattle.qx_geom.proofs.AscendingLists.{ascending_same}
use Rattle.qx_nodes.specs.BlockMap.{BlockMap, word}
use Rattle.qx_nodes.specs.Content.{bytes_at_leaf, leaf_bytes}
use Rattle.qx_nodes.specs.ForeignNodes.{has_bare_block, has_leaf_below, has_strays, is_foreign_node, is_stray_under}
use Rattle.qx_nodes.specs.Leaves.{leaves_below}
use Rattle.qx_nodes.specs.Visits.{Visit, present_of, visits_of}
use Rattle.qx_nodes.proofs.LeafPaths.{begins_before}
use Rattle.qx_nodes.proofs.MetLeaves.{leaf_member, leaf_visit, node_leaf_found, present_ascends}
use Rattle.qx_blocks.specs.BlockState.{BlockState}
use Rattle.qx_ptree.specs.declared.plan.Plan.{Plan}
use Rattle.qx_ptree.specs.Alterations.{shape_in}
use Rattle.qx_ptree.specs.Building.{Shows}
use Rattle.qx_ptree.specs.Plans.{alteration_in, planned_pointer}
use Rattle.qx_ptree.specs.Trees.{block_map, pointer_at}
use Rattle.qx_ptree.specs.WorkState.{WorkState}
use Rattle.qx_ptree.proofs.BuiltNodes.{IsBuilt, map_with, old-held, old-visit, own_row}
use Rattle.qx_ptree.proofs.LeafParts.{new-ascends}
use Rattle.qx_ptree.proofs.MetPositions.{IsAt, IsMetWhole, pointer_met, visit_at}
use Rattle.qx_ptree.proofs.NewPositions.{new-apart, new-leads, new-number, new-there}
use Rattle.qx_ptree.proofs.PointerCounts.{words_positive}
use Rattle.qx_ptree.proofs.PointersByPosition.{pointer_step, pointer_top}
use Rattle.qx_ptree.proofs.WholeNeed.{new-below}

-- ---- words on lists

-- a test that each number fails passes at none
none_passes : (test : ℕ → Bool) (n : ℕ) → ((k : ℕ) → k < n → test k ≡ false) → list_any test (each_below n (λ k. k)) ≡ false
none_passes test n none = go 0 n (λ k low high. none k (omega arith))
  where
    go : (a n : ℕ) → ((k : ℕ) → a ≤ k → k < a + n → test k ≡ false) → list_any test (map (λ k. k) (range_with_len a n)) ≡ false
    go a zero none = refl
    go a (suc n) none = λ i. none a (omega arith) (omega arith) i || go (a + 1) n (λ k low high. none k (omega arith) (omega arith)) i

-- a test that each member fails passes at none
no_member_passes : {A : Type 0} (test : A → Bool) (xs : List A) → ((x : A) → Contains xs x → test x ≡ false) → list_any test xs ≡ false
no_member_passes test [] none = refl
no_member_passes test (x ∷ xs) none = λ i. none x (Contains-head x xs) i || no_member_passes test xs (λ y c. none y (Contains-cons x y xs c)) i

-- ---- the new node

module _ (m n : BlockState) (plan : Plan) (root : Root) (outside : List ℕ) (rest : WorkState) (b : IsBuilt m n plan root outside rest)
    (bytes : ℕ → List ℕ) (shows : Shows m n plan rest (own_row root) bytes) where
  -- blocks have words
  words : 0 < per_block m.holdings.size
  words = words_positive m.holdings.size b.told.consistent.size

  -- a position of the new node begins below its size
  begins-below : (k j : ℕ) → has_position m.holdings.size (alteration_in plan m).new k j ≡ true → j * per_block m.holdings.size ^ k < ceil_div root.size m.holdings.size
  begins-below k j there =
      let P : ℕ = per_block m.holdings.size in
      let l : (k ≤ (alteration_in plan m).new.levels) × ((i : ℕ) × (is_in (alteration_in plan m).new.present i ≡ true) × (index_above m.holdings.size k i ≡ j)) = leaf_below m.holdings.size (alteration_in plan m).new k j there in
      let i : ℕ = l.1.0 in
      let low : i < ceil_div plan.change.size m.holdings.size = new-below m.holdings.size (shape_in (block_map plan.order m) plan.node) plan.change i b.told.met.change l.1.1 in
      let end : ceil_div root.size m.holdings.size ≡ ceil_div plan.change.size m.holdings.size = ap (λ s. ceil_div s m.holdings.size) b.size in
      let first : j * P ^ k ≡ i / P ^ k * P ^ k = ap (λ x. x * P ^ k) (sym l.1.2) in
      omega (arith, low, end, first, begins_before i k P)

  -- a leaf of the new node is present
  pub new-leaf : (i : ℕ) → has_position m.holdings.size (alteration_in plan m).new 0 i ≡ true → is_in (alteration_in plan m).new.present i ≡ true
  new-leaf i there =
      let l : (0 ≤ (alteration_in plan m).new.levels) × ((x : ℕ) × (is_in (alteration_in plan m).new.present x ≡ true) × (index_above m.holdings.size 0 x ≡ i)) = leaf_below m.holdings.size (alteration_in plan m).new 0 i there in
      subst (λ x. is_in (alteration_in plan m).new.present x ≡ true) (sym (above_leaf m.holdings.size l.1.0) ∙ l.1.2) l.1.1

  -- and a present leaf is one of it
  pub leaf-there : (i : ℕ) → is_in (alteration_in plan m).new.present i ≡ true → has_position m.holdings.size (alteration_in plan m).new 0 i ≡ true
  leaf-there i there = subst (λ x. HasPosition m.holdings.size (alteration_in plan m).new 0 x) (above_leaf m.holdings.size i) (has_above m.holdings.size (alteration_in plan m).new 0 i (omega arith) there)

  -- ---- no strays

  -- a leaf's pointer is none
  leaf-plain : (index p : ℕ) → p ≡ pointer_at (map_with m plan bytes) root 0 index → (t : Bool) → (p == absent) ≡ t → (not t && nat_le (ceil_div root.size m.holdings.size) index) ≡ false
  leaf-plain index p is true e = refl
  leaf-plain index p is false e =
      let there : has_position m.holdings.size (alteration_in plan m).new 0 index ≡ true = new-there m n plan root outside rest b bytes shows 0 index (λ x. true_or_false (p == absent) (eq-eqb p absent (is ∙ x)) e) in
      let low : index < ceil_div plan.change.size m.holdings.size = new-below m.holdings.size (shape_in (block_map plan.order m) plan.node) plan.change index b.told.met.change (new-leaf index there) in
      let end : ceil_div root.size m.holdings.size ≡ ceil_div plan.change.size m.holdings.size = ap (λ s. ceil_div s m.holdings.size) b.size in
      lt-leb (ceil_div root.size m.holdings.size) index (omega (arith, low, end))

  -- nor is a block's, or one below it
  block-plain : (l index p : ℕ) (below : Bool) → p ≡ pointer_at (map_with m plan bytes) root l index → (t : Bool) → (p == absent) ≡ t → (t ≡ false → below ≡ false)
      → (not t && (nat_le (ceil_div root.size m.holdings.size) (index * per_block m.holdings.size ^ l) || below)) ≡ false
  block-plain l index p below is true e none = refl
  block-plain l index p below is false e none =
      let there : has_position m.holdings.size (alteration_in plan m).new l index ≡ true = new-there m n plan root outside rest b bytes shows l index (λ x. true_or_false (p == absent) (eq-eqb p absent (is ∙ x)) e) in
      λ i. lt-leb (ceil_div root.size m.holdings.size) (index * per_block m.holdings.size ^ l) (begins-below l index there) i || none refl i

  -- so none leads past the size
  plain-under : (l index p : ℕ) → l ≤ root.levels → p ≡ pointer_at (map_with m plan bytes) root l index → is_stray_under (map_with m plan bytes) (ceil_div root.size m.holdings.size) l index p ≡ false
  plain-under zero index p level is = leaf-plain index p is (p == absent) refl
  plain-under (suc l) index p level is =
      let t : BlockMap = map_with m plan bytes in
      let P : ℕ = per_block m.holdings.size in
      let last : ℕ = ceil_div root.size m.holdings.size in
      block-plain (suc l) index p (list_any (λ w. is_stray_under t last l (index * P + w) (word t p w)) (each_below P (λ w. w))) is (p == absent) refl
      (λ e. none_passes (λ w. is_stray_under t last l (index * P + w) (word t p w)) P
      (λ w low. plain-under l (index * P + w) (word t p w) (omega arith)
      (sym (pointer_step t root l index w level low ∙ ap (λ q. if q == absent then absent else word t q w) (sym is) ∙ ap (λ c. if c then absent else word t p w) e))))

  -- the node has no such pointer
  pub new-plain : has_strays (map_with m plan bytes) root ≡ false
  new-plain =
      let t : BlockMap = map_with m plan bytes in
      none_passes (λ j. is_stray_under t (leaves_below t root) root.levels j (slice_index_or root.pointers j absent)) 16
      (λ j low. plain-under root.levels j (slice_index_or root.pointers j absent) (omega arith) (sym (pointer_top t root j)))

  -- ---- what is met

  -- a visit stands at a position of the new node
  pub visit-there : (v : Visit) → Contains (visits_of (map_with m plan bytes) root) v
      → (v.block ≡ pointer_at (map_with m plan bytes) root v.level v.index) × (has_position m.holdings.size (alteration_in plan m).new v.level v.index ≡ true)
  visit-there v c =
      let at : IsAt (map_with m plan bytes) root v = visit_at (map_with m plan bytes) root v c in
      (at.block, new-there m n plan root outside rest b bytes shows v.level v.index (λ e. at.there (at.block ∙ e)))

  -- the new node is met as a whole
  pub new-whole : IsMetWhole (map_with m plan bytes) root
  new-whole = record {
    words = words;
    long = b.long;
    plain = new-plain;
    numbers = λ v c. let at = visit-there v c in subst (λ q. q < m.holdings.count) (sym at.0) (new-number m n plan root outside rest b bytes shows v.level v.index at.1);
  }

  -- each position of it is met
  pub new-visit : (k j : ℕ) → k ≤ root.levels → has_position m.holdings.size (alteration_in plan m).new k j ≡ true
      → Contains (visits_of (map_with m plan bytes) root) (record { level = k; index = j; block = pointer_at (map_with m plan bytes) root k j })
  new-visit k j level there = pointer_met (map_with m plan bytes) root k j new-whole level (new-leads m n plan root outside rest b bytes shows k j there)

  -- its present leaves are those that the change leaves
  pub new-present : present_of (map_with m plan bytes) root ≡ (alteration_in plan m).new.present
  new-present =
      let t : BlockMap = map_with m plan bytes in
      ascending_same (present_of t root) (alteration_in plan m).new.present (present_ascends t root words)
      (new-ascends m.holdings.size (shape_in (block_map plan.order m) plan.node) plan.change (present_ascends (block_map plan.order m) plan.node words)) to from
    where
      to : (i : ℕ) → Contains (present_of (map_with m plan bytes) root) i → Contains (alteration_in plan m).new.present i
      to i c =
          let t : BlockMap = map_with m plan bytes in
          let r : (v : Visit) × Contains (visits_of t root) v × (v.level ≡ 0) × (v.index ≡ i) = leaf_visit (visits_of t root) i c in
          let there : has_position m.holdings.size (alteration_in plan m).new 0 i ≡ true = sym (λ z. has_position m.holdings.size (alteration_in plan m).new (r.2 z) (r.3 z)) ∙ (visit-there r.0 r.1).1 in
          Contains-in (alteration_in plan m).new.present i (new-leaf i there)

      from : (i : ℕ) → Contains (alteration_in plan m).new.present i → Contains (present_of (map_with m plan bytes) root) i
      from i c =
          let t : BlockMap = map_with m plan bytes in
          let v : Visit = record { level = 0; index = i; block = pointer_at t root 0 i } in
          leaf_member (visits_of t root) v (new-visit 0 i (omega arith) (leaf-there i (in_Contains (alteration_in plan m).new.present i c))) refl

  -- a present leaf stands below each block
  leaf-under : (v : Visit) → Contains (visits_of (map_with m plan bytes) root) v → has_leaf_below (map_with m plan bytes) (visits_of (map_with m plan bytes) root) v ≡ true
  leaf-under v c =
      let t : BlockMap = map_with m plan bytes in
      let P : ℕ = per_block m.holdings.size in
      let l : (v.level ≤ (alteration_in plan m).new.levels) × ((i : ℕ) × (is_in (alteration_in plan m).new.present i ≡ true) × (index_above m.holdings.size v.level i ≡ v.index)) =
      leaf_below m.holdings.size (alteration_in plan m).new v.level v.index (visit-there v c).1 in
      let i : ℕ = l.1.0 in
      let u : Visit = record { level = 0; index = i; block = pointer_at t root 0 i } in
      Contains-any (λ (x : Visit). (x.level == 0) && (x.index / P ^ v.level == v.index)) (visits_of t root) u (new-visit 0 i (omega arith) (leaf-there i l.1.1)) (eq-eqb (i / P ^ v.level) v.index l.1.2)

  -- so no pointer block is bare
  new-bare : has_bare_block (map_with m plan bytes) root ≡ false
  new-bare =
      let t : BlockMap = map_with m plan bytes in
      no_member_passes (λ v. not (has_leaf_below t (visits_of t root) v)) (visits_of t root) (λ v c. ap not (leaf-under v c))

  -- the new node is as this project writes nodes
  pub new-native : is_foreign_node (map_with m plan bytes) root ≡ false
  new-native =
      let levels : root.levels ≡ levels_for m.holdings.size (ceil_div root.size m.holdings.size) = b.levels ∙ ap (λ s. levels_for m.holdings.size (ceil_div s m.holdings.size)) (sym b.size) in
      λ i. not (eq-eqb root.levels (levels_for m.holdings.size (ceil_div root.size m.holdings.size)) levels i) || (new-plain i || new-bare i)

  -- no block stands at two of its positions
  pub new-visits-apart : (u v : Visit) → Contains (visits_of (map_with m plan bytes) root) u → Contains (visits_of (map_with m plan bytes) root) v → u.block ≡ v.block → u ≡ v
  new-visits-apart u v c d is =
      let a = visit-there u c in
      let e = visit-there v d in
      let at : (u.level ≡ v.level) × (u.index ≡ v.index) = new-apart m n plan root outside rest b bytes shows u.level u.index v.level v.index a.1 e.1 (sym a.0 ∙ is ∙ e.0) in
      λ t. record { level = at.0 t; index = at.1 t; block = is t }

  -- ---- the bytes of leaves

  -- a leaf of the new node has the bytes of its block
  pub new-leaf-bytes : (i : ℕ) → has_position m.holdings.size (alteration_in plan m).new 0 i ≡ true → leaf_bytes (map_with m plan bytes) root i ≡ bytes (pointer_at (map_with m plan bytes) root 0 i)
  new-leaf-bytes i there =
      let t : BlockMap = map_with m plan bytes in
      let v : Visit = record { level = 0; index = i; block = pointer_at t root 0 i } in
      ap (bytes_at_leaf t) (node_leaf_found t root v words (new-visit 0 i (omega arith) there) refl (new-number m n plan root outside rest b bytes shows 0 i there))

  -- so has a leaf of the old one
  pub old-leaf-bytes : (i : ℕ) → planned_pointer plan m 0 i ≢ absent → leaf_bytes (block_map plan.order m) plan.node i ≡ m.bytes (planned_pointer plan m 0 i)
  old-leaf-bytes i there =
      let t : BlockMap = block_map plan.order m in
      let v : Visit = record { level = 0; index = i; block = planned_pointer plan m 0 i } in
      ap (bytes_at_leaf t) (node_leaf_found t plan.node v words (old-visit m n plan root outside rest b 0 i there) refl (b.told.consistent.numbers (planned_pointer plan m 0 i) (old-held m n plan root outside rest b 0 i there)))
