-- Three files that are written together: the changes that wait for them, and what they hold after each step.
use Rattle.std.proofs.Common.{◌≡◌, ℕ, ◌*◌, ◌^◌, ◌<◌, ◌≤◌, inl, inr, List, [], ◌∷◌, length, refl, sym, ◌∙◌, ap, subst, arith, slice_index}
use Rattle.std.specs.Prelude.{true, false, ◌||◌, Some, IsTrue, Contains, if◌then◌else◌}
use Rattle.std.proofs.lemmas.Bool.{ne_eqb}
use Rattle.std.proofs.Math.Nat.{pow-le-pow_right}
use Rattle.qx_fields.specs.declared.order.Order.{Order}
use Rattle.qx_geom.specs.declared.root.Root.{Root}
use Rattle.qx_geom.specs.Layout.{is_block_size}
use Rattle.qx_geom.specs.Lists.{Distinct, is_in}
use Rattle.qx_geom.specs.Pointer.{ceil_div, per_block, reach}
use Rattle.qx_geom.proofs.BlockSizes.{block_size-bounds}
use Rattle.qx_geom.proofs.Members.{Contains-cases}
use Rattle.qx_blocks.specs.BlockState.{BlockState, Holdings, IsBlockSize, IsConsistent}
use Rattle.qx_blocks.specs.Calls.{Keeps}
use Rattle.qx_ptree.specs.Fates.{IsChange, is_written}
use Rattle.qx_ptree.specs.Trees.{AreApart, HasLevels, IsNode, IsToldNode, IsWorking, block_map, empty_node}
use Rattle.qx_file.specs.FilePlans.{write_change}
use Rattle.qx_file.specs.Puts.{CanPut, HasByte, with_part}
use Rattle.qx_batch.specs.declared.batch.Waiting.{Waiting}
use Rattle.qx_batch.specs.declared.planned.Planned.{Planned}
use Rattle.qx_batch.specs.Batches.{AreCommitted, ArePairsApart, ArePrepared, plans_of}
use Rattle.qx_batch.specs.Changes.{AreChanged, IsChangedNode, IsKeptNode, changed_content, with_nodes}
use Rattle.qx_nodes.specs.NodeContents.{IsSameContent, NodeContent, node_content}
use Rattle.qx_batch.specs.Nodes.{AreLaid, AreNodesOf, Nodes, owners_of, with_node}
use Rattle.qx_batch.specs.Plans.{ArePlanned, IsPlanned}
use Rattle.qx_batch.specs.PutNodes.{ArePut, has_byte, put_content}
use Rattle.block_tests.specs.WrittenFiles.{AreWritten, Files, HaveLevels, IsWrite, all_are, with_three, written_content}

-- ---- block sizes

-- a block size passes the test
pub passes_size : (b : ℕ) → IsBlockSize b → IsTrue (is_block_size b)
passes_size b k = elim k [
  | inl e ↦ subst (λ x. IsTrue (is_block_size x)) (sym e) refl
  | inr k ↦ elim k [
    | inl e ↦ subst (λ x. IsTrue (is_block_size x)) (sym e) refl
    | inr k ↦ elim k [
      | inl e ↦ subst (λ x. IsTrue (is_block_size x)) (sym e) refl
      | inr e ↦ subst (λ x. IsTrue (is_block_size x)) (sym e) refl
    ]
  ]
]

-- 5 levels reach what fewer do
pub reach_five : (b : ℕ) (node : Root) → IsBlockSize b → HasLevels b node → node.size ≤ reach b 5 * b
reach_five b node k levels =
    let bounds = block_size-bounds b (passes_size b k) in
    let power : per_block b ^ node.levels ≤ per_block b ^ 5 = pow-le-pow_right (omega (arith, bounds.pointers_from)) levels.most in
    omega (arith, levels.reached, more (per_block b ^ node.levels) (per_block b ^ 5) power)
  where
    more : (x y : ℕ) → x ≤ y → 16 * x * b ≤ 16 * y * b
    more x y h = grind arith

-- ---- the changes that wait

-- three changes wait, for these plans
pub record AreThree (ws : List Waiting) (p q r : Planned) : Type 0 where
  pub first : Waiting
  pub second : Waiting
  pub third : Waiting
  pub are : ws ≡ first ∷ second ∷ third ∷ []
  pub first_plan : first.plan ≡ p
  pub second_plan : second.plan ≡ q
  pub third_plan : third.plan ≡ r
  pub has_first : Contains ws first
  pub has_second : Contains ws second
  pub has_third : Contains ws third

-- so it is where three were planned
pub are_three : (ws : List Waiting) (p q r : Planned) → plans_of ws ≡ p ∷ q ∷ r ∷ [] → AreThree ws p q r
are_three [] p q r e = absurd (cc)
are_three (a ∷ []) p q r e = absurd (cc)
are_three (a ∷ b ∷ []) p q r e = absurd (cc)
are_three (a ∷ b ∷ c ∷ []) p q r e = record {
  first = a;
  second = b;
  third = c;
  are = refl;
  first_plan = cc;
  second_plan = cc;
  third_plan = cc;
  has_first = (0, omega arith, refl);
  has_second = (1, omega arith, refl);
  has_third = (2, omega arith, refl);
}
are_three (a ∷ b ∷ c ∷ d ∷ ws) p q r e = absurd (cc)

-- a write that was planned of a node can be prepared
pub is_planned : (order : Order) (m : BlockState) (p : Planned) (node : Root) (size at count : ℕ) → size ≡ m.holdings.size → IsBlockSize m.holdings.size → p.node ≡ node → IsNode order m node → IsWrite size p at count → IsPlanned order m p
is_planned order m p node size at count same k is node_is w =
    let mine : IsNode order m p.node = subst (IsNode order m) (sym is) node_is in
    record {
      node = mine;
      change = subst (λ b. IsChange b p.change) same (w.change (subst (λ b. p.node.size ≤ reach b 5 * b) (sym same) (reach_five m.holdings.size p.node k mine.levels)));
    }

-- so can three
pub all_planned : (order : Order) (m : BlockState) (p q r : Planned) → IsPlanned order m p → IsPlanned order m q → IsPlanned order m r → ArePlanned order m (p ∷ q ∷ r ∷ [])
all_planned order m p q r first second third x c = elim (Contains-cases p x (q ∷ r ∷ []) c) [
  | inl e ↦ subst (IsPlanned order m) e first
  | inr c ↦ elim (Contains-cases q x (r ∷ []) c) [
    | inl e ↦ subst (IsPlanned order m) e second
    | inr c ↦ elim (Contains-cases r x [] c) [ inl e ↦ subst (IsPlanned order m) e third | inr c ↦ absurd (omega (arith, c.1)) ]
  ]
]

-- three changes were committed, and what each wrote is ready
pub record AreReadyThree (order : Order) (size : ℕ) (m : BlockState) (p q r : Planned) (ws : List Waiting) (roots : Files) : Type 0 where
  pub three : AreThree ws p q r
  pub blocksize : m.holdings.size ≡ size
  pub apart : ArePairsApart ws
  pub committed : AreCommitted order m ws
  pub first_root : roots.first ≡ three.first.prep.root
  pub second_root : roots.second ≡ three.second.prep.root
  pub third_root : roots.third ≡ three.third.prep.root

-- so they are after the commit
pub ready_committed : (order : Order) (size : ℕ) (old now m : BlockState) (p q r : Planned) (ws : List Waiting) (roots : Files) → size ≡ old.holdings.size → ArePrepared order old now (p ∷ q ∷ r ∷ []) ws → m.holdings.size ≡ now.holdings.size → AreCommitted order m ws
    → ((a b c : Waiting) → ws ≡ a ∷ b ∷ c ∷ [] → (roots.first ≡ a.prep.root) × (roots.second ≡ b.prep.root) × (roots.third ≡ c.prep.root)) → AreReadyThree order size m p q r ws roots
ready_committed order size old now m p q r ws roots same prepared after committed nodes =
    let t : AreThree ws p q r = are_three ws p q r prepared.plans in
    let new : (roots.first ≡ t.first.prep.root) × (roots.second ≡ t.second.prep.root) × (roots.third ≡ t.third.prep.root) = nodes t.first t.second t.third t.are in
    record {
      three = t;
      blocksize = after ∙ prepared.takes.size ∙ sym same;
      apart = prepared.can.apart;
      committed = committed;
      first_root = new.0;
      second_root = new.1;
      third_root = new.2;
    }

module _ (order : Order) (size : ℕ) (m : BlockState) (p q r : Planned) (ws : List Waiting) (roots : Files) (h : AreReadyThree order size m p q r ws roots) where
  -- and after bytes were put into one
  pub ready_on : (n : BlockState) → n.holdings ≡ m.holdings → AreCommitted order n ws → AreReadyThree order size n p q r ws roots
  ready_on n same committed = record {
    three = h.three;
    blocksize = ap (λ (x : Holdings). x.size) same ∙ h.blocksize;
    apart = h.apart;
    committed = committed;
    first_root = h.first_root;
    second_root = h.second_root;
    third_root = h.third_root;
  }

  -- the bytes of a write can be put into its node
  pub can_put : (x : Planned) (w : Waiting) (root : Root) (at count : ℕ) → w.plan ≡ x → Contains ws w → root ≡ w.prep.root → IsWrite size x at count → CanPut order m root at count
  can_put x w root at count is here same write = subst (λ node. CanPut order m node at count) (sym same) (write.can order m w h.blocksize is (h.committed w here))

  -- they lie in leaves that it wrote
  pub lie_written : (x : Planned) (w : Waiting) (at count i : ℕ) → w.plan ≡ x → IsWrite size x at count → HasByte m.holdings.size at count i → is_written w.plan.change i ≡ true
  lie_written x w at count i is write has = ap (λ (y : Planned). is_written y.change i) is ∙ write.writes i (subst (λ b. HasByte b at count i) h.blocksize has)

  -- the levels reach the sizes
  pub have_levels : HaveLevels m.holdings.size roots
  have_levels = (
    subst (HasLevels m.holdings.size) (sym h.first_root) (h.committed h.three.first h.three.has_first).levels,
    subst (HasLevels m.holdings.size) (sym h.second_root) (h.committed h.three.second h.three.has_second).levels,
    subst (HasLevels m.holdings.size) (sym h.third_root) (h.committed h.three.third h.three.has_third).levels,
  )

-- files of nothing lie at all numbers
pub laid_empty : (order : Order) (m : BlockState) → IsConsistent m → IsTrue m.tells → IsNode order m empty_node → AreApart order m empty_node empty_node → AreLaid order m (all_are empty_node)
laid_empty order m k told is none = record {
  node = λ o a at. subst (IsToldNode order m) (same a at) (record { consistent = k; sixteen = refl; levels = is.levels; works = is.works told; regular = is.regular told });
  apart = λ o q a b at to differ. subst (λ x. AreApart order m x b) (same a at) (subst (AreApart order m empty_node) (same b to) none);
} where
  same : (a : Root) → Some empty_node ≡ Some a → empty_node ≡ a
  same a e = cc

-- what a node meets is the working tree's while blocks are only read
pub works_kept : (order : Order) (m n : BlockState) (node : Root) → Keeps m n → (IsTrue m.tells → IsWorking order m node) → IsTrue n.tells → IsWorking order n node
works_kept order m n node k works told =
    let same : n ≡ m = k.told told in
    subst (λ x. IsWorking order x node) (sym same) (works (subst (λ (x : BlockState). IsTrue x.tells) same told))

-- ---- what a node holds, from step to step

-- the same as the same
same_then : (s : ℕ) (a b c : NodeContent) → IsSameContent s a b → IsSameContent s b c → IsSameContent s a c
same_then s a b c x y = record {
  size = y.size ∙ x.size;
  present = y.present ∙ x.present;
  leaves = λ i low. y.leaves i (subst (λ n. i < ceil_div n s) (sym x.size) low) ∙ x.leaves i low;
}

-- and so once the same bytes are put
same_put : (s at : ℕ) (bytes : List ℕ) (a b : NodeContent) → IsSameContent s a b → IsSameContent s (put_content s at bytes a) (put_content s at bytes b)
same_put s at bytes a b x = record {
  size = x.size;
  present = x.present;
  leaves = λ i low. ap (λ old. if has_byte s at (length bytes) i then with_part s i at bytes old else old) (x.leaves i low);
}

-- a node holds this
abbrev Holds : Order → ℕ → BlockState → Root → NodeContent → Type 0
Holds order s m node a = IsSameContent s a (node_content (block_map order m) node)

-- a node that is kept still does
on_kept : (order : Order) (s : ℕ) (m n : BlockState) (node : Root) (a : NodeContent) → m.holdings.size ≡ s → Holds order s m node a
    → IsSameContent m.holdings.size (node_content (block_map order m) node) (node_content (block_map order n) node) → Holds order s n node a
on_kept order s m n node a is h k = same_then s a (node_content (block_map order m) node) (node_content (block_map order n) node) h
    (subst (λ t. IsSameContent t (node_content (block_map order m) node) (node_content (block_map order n) node)) is k)

-- one into which bytes were put has them
on_put : (order : Order) (s : ℕ) (m n : BlockState) (node : Root) (at : ℕ) (bytes : List ℕ) (a : NodeContent) → m.holdings.size ≡ s → Holds order s m node a
    → IsSameContent m.holdings.size (put_content m.holdings.size at bytes (node_content (block_map order m) node)) (node_content (block_map order n) node) → Holds order s n node (put_content s at bytes a)
on_put order s m n node at bytes a is h k =
    same_then s (put_content s at bytes a) (put_content s at bytes (node_content (block_map order m) node)) (node_content (block_map order n) node)
    (same_put s at bytes a (node_content (block_map order m) node) h)
    (subst (λ t. IsSameContent t (put_content t at bytes (node_content (block_map order m) node)) (node_content (block_map order n) node)) is k)

-- a node that was changed for a write has what the change leaves
on_changed : (order : Order) (old new : BlockState) (p : Planned) (node root : Root) (at count : ℕ) → p.node ≡ node → p.change ≡ write_change node at count old.holdings.size → IsChangedNode order old new p (Some root)
    → Holds order old.holdings.size new root (changed_content old.holdings.size (write_change node at count old.holdings.size) (node_content (block_map order old) node))
on_changed order old new p node root at count is change c =
    let same : c.root ≡ root = cc (c.is) in
    subst (λ x. Holds order old.holdings.size new x (changed_content old.holdings.size (write_change node at count old.holdings.size) (node_content (block_map order old) node))) same
    (subst (λ x. Holds order old.holdings.size new c.root (changed_content old.holdings.size (write_change node at count old.holdings.size) (node_content (block_map order old) x))) is
    (subst (λ x. Holds order old.holdings.size new c.root (changed_content old.holdings.size x (node_content (block_map order old) p.node))) change c.holds))

-- ---- the numbers of three files

-- no number from 3 on is one of these
no_more : (o : ℕ) → 3 ≤ o → is_in (0 ∷ 1 ∷ 2 ∷ []) o ≡ false
no_more o far = λ i. ne_eqb 0 o (λ e. omega arith) i || (ne_eqb 1 o (λ e. omega arith) i || (ne_eqb 2 o (λ e. omega arith) i || false))

-- no two of them are alike
all_differ : Distinct {A = ℕ} (0 ∷ 1 ∷ 2 ∷ [])
all_differ = (
  λ c. elim (Contains-cases 1 0 (2 ∷ []) c) [ inl e ↦ omega arith | inr c ↦ elim (Contains-cases 2 0 [] c) [ inl e ↦ omega arith | inr c ↦ omega (arith, c.1) ] ],
  (λ c. elim (Contains-cases 2 1 [] c) [ inl e ↦ omega arith | inr c ↦ omega (arith, c.1) ], (λ c. omega (arith, c.1), tt)),
)

module _ (p q r : Planned) (p_is : p.owner ≡ 0) (q_is : q.owner ≡ 1) (r_is : r.owner ≡ 2) where
  -- their numbers
  owners : owners_of (p ∷ q ∷ r ∷ []) ≡ 0 ∷ 1 ∷ 2 ∷ []
  owners = λ i. p_is i ∷ q_is i ∷ r_is i ∷ []

  -- writes of the nodes that their numbers have
  pub nodes_of : (nodes : Nodes) → nodes 0 ≡ Some p.node → nodes 1 ≡ Some q.node → nodes 2 ≡ Some r.node → AreNodesOf nodes (p ∷ q ∷ r ∷ [])
  nodes_of nodes first second third = record {
    is = λ x c. elim (Contains-cases p x (q ∷ r ∷ []) c) [
      | inl e ↦ subst (λ (y : Planned). nodes y.owner ≡ Some y.node) e (ap nodes p_is ∙ first)
      | inr c ↦ elim (Contains-cases q x (r ∷ []) c) [
        | inl e ↦ subst (λ (y : Planned). nodes y.owner ≡ Some y.node) e (ap nodes q_is ∙ second)
        | inr c ↦ elim (Contains-cases r x [] c) [
          | inl e ↦ subst (λ (y : Planned). nodes y.owner ≡ Some y.node) e (ap nodes r_is ∙ third)
          | inr c ↦ absurd (omega (arith, c.1))
        ]
      ]
    ];
    owners = subst Distinct (sym owners) all_differ;
  }

  -- the nodes that the numbers have afterwards
  pub after_three : (nodes : Nodes) (ws : List Waiting) (roots : Files) (t : AreThree ws p q r) → roots.first ≡ t.first.prep.root → roots.second ≡ t.second.prep.root → roots.third ≡ t.third.prep.root
      → with_nodes nodes ws ≡ with_three nodes roots
  after_three nodes ws roots t first second third =
      let one : t.first.plan.owner ≡ 0 = ap (λ (x : Planned). x.owner) t.first_plan ∙ p_is in
      let two : t.second.plan.owner ≡ 1 = ap (λ (x : Planned). x.owner) t.second_plan ∙ q_is in
      let three : t.third.plan.owner ≡ 2 = ap (λ (x : Planned). x.owner) t.third_plan ∙ r_is in
      ap (with_nodes nodes) t.are
      ∙ (λ i. with_node (with_node (with_node nodes (three i) (Some (sym third i))) (two i) (Some (sym second i))) (one i) (Some (sym first i)))

  -- three files that were changed, and then got the bytes, are written
  module _ (order : Order) (old made one two new : BlockState) (nodes : Nodes) (files roots : Files) (places bytes : List ℕ)
      (p_node : p.node ≡ files.first) (q_node : q.node ≡ files.second) (r_node : r.node ≡ files.third)
      (p_change : p.change ≡ write_change files.first (slice_index places 0) (length bytes) old.holdings.size)
      (q_change : q.change ≡ write_change files.second (slice_index places 1) (length bytes) old.holdings.size)
      (r_change : r.change ≡ write_change files.third (slice_index places 2) (length bytes) old.holdings.size)
      (changed : AreChanged order nodes (with_three nodes roots) old made (p ∷ q ∷ r ∷ []))
      (first : ArePut order (with_three nodes roots) made one 0 (slice_index places 0) bytes)
      (second : ArePut order (with_three nodes roots) one two 1 (slice_index places 1) bytes)
      (third : ArePut order (with_three nodes roots) two new 2 (slice_index places 2) bytes) where
    -- the blocks' size stays
    one_size : one.holdings.size ≡ old.holdings.size
    one_size = ap (λ (h : Holdings). h.size) first.holdings ∙ changed.size

    two_size : two.holdings.size ≡ old.holdings.size
    two_size = ap (λ (h : Holdings). h.size) second.holdings ∙ one_size

    -- what the nodes hold
    first_holds : Holds order old.holdings.size new roots.first (written_content order old files.first (slice_index places 0) bytes)
    first_holds =
        on_kept order old.holdings.size two new roots.first _ two_size
        (on_kept order old.holdings.size one two roots.first _ one_size
        (on_put order old.holdings.size made one roots.first (slice_index places 0) bytes _ changed.size
        (on_changed order old made p files.first roots.first (slice_index places 0) (length bytes) p_node p_change
        (subst (λ o. IsChangedNode order old made p (with_three nodes roots o)) p_is (changed.changed p (0, omega arith, refl))))
        (first.put roots.first refl)) (second.kept 0 roots.first refl (λ e. omega arith)).holds) (third.kept 0 roots.first refl (λ e. omega arith)).holds

    second_holds : Holds order old.holdings.size new roots.second (written_content order old files.second (slice_index places 1) bytes)
    second_holds =
        on_kept order old.holdings.size two new roots.second _ two_size
        (on_put order old.holdings.size one two roots.second (slice_index places 1) bytes _ one_size
        (on_kept order old.holdings.size made one roots.second _ changed.size
        (on_changed order old made q files.second roots.second (slice_index places 1) (length bytes) q_node q_change
        (subst (λ o. IsChangedNode order old made q (with_three nodes roots o)) q_is (changed.changed q (1, omega arith, refl))))
        (first.kept 1 roots.second refl (λ e. omega arith)).holds) (second.put roots.second refl)) (third.kept 1 roots.second refl (λ e. omega arith)).holds

    third_holds : Holds order old.holdings.size new roots.third (written_content order old files.third (slice_index places 2) bytes)
    third_holds =
        on_put order old.holdings.size two new roots.third (slice_index places 2) bytes _ two_size
        (on_kept order old.holdings.size one two roots.third _ one_size
        (on_kept order old.holdings.size made one roots.third _ changed.size
        (on_changed order old made r files.third roots.third (slice_index places 2) (length bytes) r_node r_change
        (subst (λ o. IsChangedNode order old made r (with_three nodes roots o)) r_is (changed.changed r (2, omega arith, refl))))
        (first.kept 2 roots.third refl (λ e. omega arith)).holds) (second.kept 2 roots.third refl (λ e. omega arith)).holds) (third.put roots.third refl)

    -- and what all others hold
    other_holds : (o : ℕ) (node : Root) → nodes o ≡ Some node → 3 ≤ o → Holds order old.holdings.size new node (node_content (block_map order old) node)
    other_holds o node there far =
        let kept : IsKeptNode order old made node (with_three nodes roots o) = changed.kept o node there (subst (λ os. is_in os o ≡ false) (sym owners) (no_more o far)) in
        on_kept order old.holdings.size two new node _ two_size
        (on_kept order old.holdings.size one two node _ one_size
        (on_kept order old.holdings.size made one node _ changed.size kept.holds
        (first.kept o node kept.is (λ e. omega arith)).holds) (second.kept o node kept.is (λ e. omega arith)).holds) (third.kept o node kept.is (λ e. omega arith)).holds

    pub are_written : AreWritten order old new nodes files roots places bytes
    are_written = record { first = first_holds; second = second_holds; third = third_holds; others = other_holds; laid = third.laid }
