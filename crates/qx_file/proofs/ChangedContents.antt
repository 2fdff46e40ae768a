-- What a file holds once its change is committed, and once bytes were put into it.
use Rattle.std.proofs.Common.{◌≡◌, ℕ, ◌+◌, ◌-◌, ◌*◌, ◌/◌, ◌%◌, ◌<◌, ◌≤◌, inl, inr, List, length, take, refl, sym, ◌∙◌, ap, subst, arith, length-append, length-take}
use Rattle.std.specs.Prelude.{◌⊎◌, Bool, true, false, None, Some, nat_lt, replicate, slice_index, if◌then◌else◌}
use Rattle.std.proofs.Math.ListN.{get_or-append}
use Rattle.std.proofs.Math.Nat.{div-lt_iff_lt-mul, mod-lt, mul-le-mul_right}
use Rattle.std.proofs.lemmas.Bool.{cases_lt, ltb-false, ltb-true}
use Rattle.std.proofs.lemmas.List.{ext_get_or, get_or-append_right, get_or-replicate, get_or-take, length-replicate}
use Rattle.std.proofs.lemmas.List.FromFn.{get_or-map-range_with_len, length-map-range_with_len}
use Rattle.std.proofs.lemmas.Nat.{div-add-mod', div_below}
use Rattle.qx_bytes.specs.Ranges.{put_at}
use Rattle.qx_bytes.proofs.Puts.{byte_put_apart, byte_put_within, length_put}
use Rattle.qx_outside.specs.Trail.{resized}
use Rattle.qx_fields.specs.declared.order.Order.{Order}
use Rattle.qx_geom.specs.declared.root.Root.{Root}
use Rattle.qx_geom.specs.Lists.{is_in}
use Rattle.qx_geom.specs.Pointer.{ceil_div}
use Rattle.qx_geom.specs.Positions.{HasPosition}
use Rattle.qx_geom.proofs.AscendingLists.{div_rises}
use Rattle.qx_geom.proofs.ImagesAndFilters.{in_Contains}
use Rattle.qx_geom.proofs.LeastTouch.{above_leaf, has_above}
use Rattle.qx_geom.proofs.LevelCounts.{ceil_div-le}
use Rattle.qx_geom.proofs.PresentLeaves.{present_after_members}
use Rattle.qx_geom.proofs.Truths.{not_so, true_or_false}
use Rattle.qx_nodes.specs.Content.{byte_of, content_of, leaf_bytes}
use Rattle.qx_nodes.specs.Visits.{present_of}
use Rattle.qx_nodes.proofs.AbsentLeaves.{absent_bytes}
use Rattle.qx_blocks.specs.BlockState.{BlockState, IsConsistent}
use Rattle.qx_ptree.specs.Alterations.{Alteration}
use Rattle.qx_ptree.specs.Altered.{Alters, prepared_alteration}
use Rattle.qx_ptree.specs.Fates.{leaves_after, written_by}
use Rattle.qx_ptree.specs.KeptNodes.{KeepsNode}
use Rattle.qx_ptree.specs.Trees.{IsToldNode, block_map}
use Rattle.qx_ptree.specs.WaitingChanges.{IsWaiting}
use Rattle.qx_ptree.specs.WorkState.{Preparation}
use Rattle.qx_ptree.proofs.FirstHoles.{past_lacks}
use Rattle.qx_ptree.proofs.KeptNodes.{all_leaves_kept}
use Rattle.qx_ptree.proofs.NodePositions.{told_hole, told_lies}
use Rattle.qx_ptree.proofs.PointerCounts.{size_positive}
use Rattle.qx_ptree.proofs.SeveralChanges.{altered_told}
use Rattle.qx_file.specs.Contents.{HasNoTail}
use Rattle.qx_file.specs.FilePlans.{past_end}
use Rattle.qx_file.specs.Puts.{CanPut, Puts, leaves_end}
use Rattle.qx_file.proofs.PlannedChanges.{size_below}
use Rattle.qx_file.proofs.PutContent.{byte_put_after, byte_stays_after}

-- ---- words on bytes

-- a byte of zeros
of_zeros : (n j : ℕ) → j < n → slice_index (replicate n 0) j ≡ 0
of_zeros n j low = get_or-replicate n j 0 0 low

-- how many bytes a node has
content_long : (order : Order) (m : BlockState) (node : Root) → length (content_of (block_map order m) node) ≡ node.size
content_long order m node = length-map-range_with_len (λ k. byte_of (block_map order m) node k) 0 node.size

-- one of them
content_byte : (order : Order) (m : BlockState) (node : Root) (k : ℕ) → k < node.size → slice_index (content_of (block_map order m) node) k ≡ byte_of (block_map order m) node k
content_byte order m node k low = get_or-map-range_with_len (λ j. byte_of (block_map order m) node j) 0 node.size k k 0 low (omega arith)

-- a list that is cut or filled up
resized_long : (xs : List ℕ) (n : ℕ) → length (resized xs n) ≡ n
resized_long xs n = omega (arith, length-append (take n xs) (replicate (n - length xs) 0), length-take n xs, length-replicate {A = ℕ} (n - length xs) 0)

-- its bytes
byte_resized : (xs : List ℕ) (n k : ℕ) → k < n → slice_index (resized xs n) k ≡ (if nat_lt k (length xs) then slice_index xs k else 0)
byte_resized xs n k low = by (nat_lt k (length xs)) refl
  where
    by : (t : Bool) → nat_lt k (length xs) ≡ t → slice_index (resized xs n) k ≡ (if t then slice_index xs k else 0)
    by true e =
        let here : k < length xs = ltb-true k (length xs) e in
        get_or-append (take n xs) (replicate (n - length xs) 0) 0 k (omega (arith, here, length-take n xs)) ∙ get_or-take n xs k 0 low
    by false e =
        let past : length xs ≤ k = ltb-false k (length xs) e in
        get_or-append_right (take n xs) (replicate (n - length xs) 0) (length xs) k 0 (omega (arith, past, length-take n xs)) past ∙ get_or-replicate (n - length xs) (k - length xs) 0 0 (omega (arith, past))

-- a place below the leaves' end lies in one of them
in_leaves : (blocksize size k : ℕ) → 0 < blocksize → k < leaves_end blocksize size → k / blocksize < ceil_div size blocksize
in_leaves blocksize size k some low = div_below k blocksize (ceil_div size blocksize) some low

-- ---- a node

-- a file without a tail has no byte but 0 past its size, however far
pub no_tail : (order : Order) (m : BlockState) (node : Root) → IsToldNode order m node → HasNoTail order m node → (k : ℕ) → node.size ≤ k → byte_of (block_map order m) node k ≡ 0
no_tail order m node is none k past =
    let size : ℕ = m.holdings.size in
    let some : 0 < size = size_positive size is.consistent.size in
    elim (cases_lt (k / size) (ceil_div node.size size)) [
      | inl low ↦ none k past ((div-lt_iff_lt-mul some).0 low)
      | inr behind ↦ ap (λ (l : List ℕ). slice_index l (k % size)) (told_hole order m node is (k / size) (past_lacks (block_map order m) node (k / size) behind)) ∙ of_zeros size (k % size) (mod-lt k some)
    ]

-- it has none where it ends with a leaf
pub tail_whole : (order : Order) (m : BlockState) (node : Root) → 0 < m.holdings.size → node.size % m.holdings.size ≡ 0 → HasNoTail order m node
tail_whole order m node some even k past low = absurd (omega (arith, low, ends node.size m.holdings.size some even))
  where
    ends : (n b : ℕ) → 0 < b → n % b ≡ 0 → leaves_end b n ≤ n
    ends n b some even =
        let q : n / b * b + n % b ≡ n = div-add-mod' n b in
        let least : ceil_div n b ≤ n / b = ceil_div-le n b (n / b) some (omega (arith, q, even)) in
        let times : ceil_div n b * b ≤ n / b * b = mul-le-mul_right b least in
        omega (arith, q, times)

-- or where the leaf with its end isn't present
pub tail_hole : (order : Order) (m : BlockState) (node : Root) → IsToldNode order m node → is_in (present_of (block_map order m) node) (node.size / m.holdings.size) ≡ false → HasNoTail order m node
tail_hole order m node is out k past low =
    let size : ℕ = m.holdings.size in
    let some : 0 < size = size_positive size is.consistent.size in
    let same : k / size ≡ node.size / size = last node.size k size some past (in_leaves size node.size k some low) in
    ap (λ (l : List ℕ). slice_index l (k % size)) (told_hole order m node is (k / size) (ap (is_in (present_of (block_map order m) node)) same ∙ out)) ∙ of_zeros size (k % size) (mod-lt k some)
  where
    last : (n k b : ℕ) → 0 < b → n ≤ k → k / b < ceil_div n b → k / b ≡ n / b
    last n k b some past low =
        let q : n / b * b + n % b ≡ n = div-add-mod' n b in
        let r : n % b < b = mod-lt n some in
        let next : (n / b + 1) * b ≡ n / b * b + b = grind arith in
        let most : ceil_div n b ≤ n / b + 1 = ceil_div-le n b (n / b + 1) some (omega (arith, q, r, next)) in
        let least : n / b ≤ k / b = div_rises n k b past in
        omega (arith, low, most, least)

-- and it has none while its blocks stay
pub tail_kept : (order : Order) (m n : BlockState) (node : Root) → IsConsistent n → KeepsNode order m n node → IsToldNode order m node → HasNoTail order m node → HasNoTail order n node
tail_kept order m n node s kept is none k past low =
    (λ i. slice_index (leaf_bytes (block_map order n) node (k / kept.size i)) (k % kept.size i))
    ∙ ap (λ (l : List ℕ). slice_index l (k % m.holdings.size)) (all_leaves_kept order m n node s kept is (k / m.holdings.size))
    ∙ none k past (subst (λ z. k < leaves_end z node.size) kept.size low)

-- ---- the change

module _ (order : Order) (old now m : BlockState) (p : Preparation) (w : IsWaiting order old now p) (s : IsConsistent m) (a : Alters order old p m) where
  -- what it made of the node
  abbrev made : Alteration
  made = prepared_alteration order old p

  -- blocks have bytes
  some : 0 < old.holdings.size
  some = size_positive old.holdings.size w.node.consistent.size

  -- a leaf that is present has the bytes that it had, and another is 0
  pub leaf_after : (i : ℕ) → i < ceil_div p.root.size old.holdings.size → (t : Bool) → is_in made.new.present i ≡ t → leaf_bytes (block_map order m) p.root i ≡ (if t then leaf_bytes (block_map order old) p.node i else replicate old.holdings.size 0)
  leaf_after i low true there = a.bytes i (subst (λ x. HasPosition old.holdings.size made.new 0 x) (above_leaf old.holdings.size i) (has_above old.holdings.size made.new 0 i (omega arith) there))
  leaf_after i low false none =
      absent_bytes (block_map order m) p.root i (told_lies order m p.root (altered_told order old now m p w s a) i (subst (λ z. i < ceil_div p.root.size z) (sym a.blocksize) low))
      (λ c. true_or_false (is_in made.new.present i) (ap (λ xs. is_in xs i) (sym a.present) ∙ in_Contains (present_of (block_map order m) p.root) i c) none)
      ∙ ap (λ z. replicate z 0) a.blocksize

  -- so has a byte
  pub byte_after : (k : ℕ) → k < leaves_end old.holdings.size p.root.size → byte_of (block_map order m) p.root k ≡ (if is_in made.new.present (k / old.holdings.size) then byte_of (block_map order old) p.node k else 0)
  byte_after k low =
      (λ i. slice_index (leaf_bytes (block_map order m) p.root (k / a.blocksize i)) (k % a.blocksize i)) ∙ go (is_in made.new.present (k / old.holdings.size)) refl
    where
      go : (t : Bool) → is_in made.new.present (k / old.holdings.size) ≡ t → slice_index (leaf_bytes (block_map order m) p.root (k / old.holdings.size)) (k % old.holdings.size) ≡ (if t then byte_of (block_map order old) p.node k else 0)
      go true e = ap (λ (l : List ℕ). slice_index l (k % old.holdings.size)) (leaf_after (k / old.holdings.size) (in_leaves old.holdings.size p.root.size k some low) true e)
      go false e =
          ap (λ (l : List ℕ). slice_index l (k % old.holdings.size)) (leaf_after (k / old.holdings.size) (in_leaves old.holdings.size p.root.size k some low) false e)
          ∙ of_zeros old.holdings.size (k % old.holdings.size) (mod-lt k some)

  -- where its leaf isn't taken out it is as it was
  pub byte_same : (k : ℕ) → k < leaves_end old.holdings.size p.root.size → (p.change.gone ≡ Some (k / old.holdings.size) → ⊥) → byte_of (block_map order m) p.root k ≡ byte_of (block_map order old) p.node k
  byte_same k low stays = byte_after k low ∙ go (is_in made.new.present (k / old.holdings.size)) refl
    where
      -- a leaf that isn't present afterwards wasn't before
      hole : is_in made.new.present (k / old.holdings.size) ≡ false → is_in (present_of (block_map order old) p.node) (k / old.holdings.size) ≡ false
      hole out = not_so (is_in (present_of (block_map order old) p.node) (k / old.holdings.size)) (λ there.
          true_or_false (is_in made.new.present (k / old.holdings.size))
          ((present_after_members (present_of (block_map order old) p.node) (leaves_after old.holdings.size p.change) (written_by p.change) p.change.gone (k / old.holdings.size)).1
          (inr (there, subst (λ z. k / old.holdings.size < ceil_div z old.holdings.size) a.size (in_leaves old.holdings.size p.root.size k some low), stays))) out)

      go : (t : Bool) → is_in made.new.present (k / old.holdings.size) ≡ t → (if t then byte_of (block_map order old) p.node k else 0) ≡ byte_of (block_map order old) p.node k
      go true e = refl
      go false e = sym (ap (λ (l : List ℕ). slice_index l (k % old.holdings.size)) (told_hole order old p.node w.node (k / old.holdings.size) (hole e)) ∙ of_zeros old.holdings.size (k % old.holdings.size) (mod-lt k some))

  module _ (none : p.change.gone ≡ None) (tail : HasNoTail order old p.node) where
    -- no leaf is taken out
    stays : (i : ℕ) → p.change.gone ≡ Some i → ⊥
    stays i e = let no : None ≡ Some i = sym none ∙ e in cc

    -- it holds what it held, cut or filled up with 0
    pub content_after : content_of (block_map order m) p.root ≡ resized (content_of (block_map order old) p.node) p.root.size
    content_after = ext_get_or 0 (content_of (block_map order m) p.root) (resized (content_of (block_map order old) p.node) p.root.size) (content_long order m p.root ∙ sym (resized_long (content_of (block_map order old) p.node) p.root.size))
        (λ k low. byte_at k (omega (arith, low, content_long order m p.root)))
      where
        byte_at : (k : ℕ) → k < p.root.size → slice_index (content_of (block_map order m) p.root) k ≡ slice_index (resized (content_of (block_map order old) p.node) p.root.size) k
        byte_at k low =
            let below : p.root.size ≤ leaves_end old.holdings.size p.root.size = size_below old.holdings.size p.root.size some in
            content_byte order m p.root k low ∙ byte_same k (omega arith) (stays (k / old.holdings.size)) ∙ go (nat_lt k p.node.size) refl
            ∙ ap (λ n. if nat_lt k n then slice_index (content_of (block_map order old) p.node) k else 0) (sym (content_long order old p.node)) ∙ sym (byte_resized (content_of (block_map order old) p.node) p.root.size k low)
          where
            go : (t : Bool) → nat_lt k p.node.size ≡ t → byte_of (block_map order old) p.node k ≡ (if t then slice_index (content_of (block_map order old) p.node) k else 0)
            go true e = sym (content_byte order old p.node k (ltb-true k p.node.size e))
            go false e = no_tail order old p.node w.node tail k (ltb-false k p.node.size e)

    -- one that isn't cut has no tail either
    pub tail_after : p.node.size ≤ p.root.size → HasNoTail order m p.root
    tail_after grows k past low = byte_same k (subst (λ z. k < leaves_end z p.root.size) a.blocksize low) (stays (k / old.holdings.size)) ∙ no_tail order old p.node w.node tail k (omega arith)

-- ---- the put

module _ (order : Order) (m n : BlockState) (node : Root) (at : ℕ) (bytes : List ℕ) (is : IsToldNode order m node) (can : CanPut order m node at (length bytes)) (puts : Puts order node at bytes m n) where
  -- a file holds what was put into it in the place of as many
  pub content_put : at + length bytes ≤ node.size → content_of (block_map order n) node ≡ put_at (content_of (block_map order m) node) at bytes
  content_put room = ext_get_or 0 (content_of (block_map order n) node) (put_at (content_of (block_map order m) node) at bytes)
      (content_long order n node ∙ sym (length_put (content_of (block_map order m) node) bytes at (length bytes) refl (omega (arith, room, content_long order m node)) ∙ content_long order m node)) (λ k low. byte_at k (omega (arith, low, content_long order n node)))
    where
      apart : (k : ℕ) → k < node.size → (k < at) ⊎ (at + length bytes ≤ k) → slice_index (content_of (block_map order n) node) k ≡ slice_index (put_at (content_of (block_map order m) node) at bytes) k
      apart k low out =
          let below : node.size ≤ leaves_end m.holdings.size node.size = size_below m.holdings.size node.size (size_positive m.holdings.size is.consistent.size) in
          content_byte order n node k low ∙ byte_stays_after order m n node at bytes is.consistent can is.regular.apart puts k (omega arith) out ∙ sym (content_byte order m node k low)
          ∙ sym (byte_put_apart (content_of (block_map order m) node) bytes at (length bytes) k refl out (omega (arith, room, content_long order m node)))

      byte_at : (k : ℕ) → k < node.size → slice_index (content_of (block_map order n) node) k ≡ slice_index (put_at (content_of (block_map order m) node) at bytes) k
      byte_at k low = elim (cases_lt k at) [
        | inl before ↦ apart k low (inl before)
        | inr from ↦ elim (cases_lt k (at + length bytes)) [
          | inr behind ↦ apart k low (inr behind)
          | inl to ↦
              content_byte order n node k low ∙ byte_put_after order m n node at bytes is.consistent can is.regular.apart puts k from to
              ∙ sym (byte_put_within (content_of (block_map order m) node) bytes at (length bytes) k refl from to (omega (arith, room, content_long order m node)))
        ]
      ]

  -- what is put past its size changes nothing of that
  pub content_past : node.size ≤ at → content_of (block_map order n) node ≡ content_of (block_map order m) node
  content_past past = ext_get_or 0 (content_of (block_map order n) node) (content_of (block_map order m) node) (content_long order n node ∙ sym (content_long order m node)) (λ k low.
      let below : node.size ≤ leaves_end m.holdings.size node.size = size_below m.holdings.size node.size (size_positive m.holdings.size is.consistent.size) in
      let here : k < node.size = omega (arith, low, content_long order n node) in
      content_byte order n node k here ∙ byte_stays_after order m n node at bytes is.consistent can is.regular.apart puts k (omega arith) (inl (omega arith)) ∙ sym (content_byte order m node k here))

  -- and what is put below it no tail
  pub tail_put : at + length bytes ≤ node.size → HasNoTail order m node → HasNoTail order n node
  tail_put room none k past low =
      let before : k < leaves_end m.holdings.size node.size = subst (λ h. k < leaves_end h.size node.size) puts.holdings low in
      byte_stays_after order m n node at bytes is.consistent can is.regular.apart puts k before (inr (omega arith)) ∙ none k past before

-- zeros that are put from the file's end to that of its last leaf leave no tail
pub tail_zeros : (order : Order) (m n : BlockState) (node : Root) → IsToldNode order m node → CanPut order m node node.size (past_end m.holdings.size node.size) → Puts order node node.size (replicate (past_end m.holdings.size node.size) 0) m n
    → HasNoTail order n node
tail_zeros order m n node is can puts k past low =
    let size : ℕ = m.holdings.size in
    let some : 0 < size = size_positive size is.consistent.size in
    let count : ℕ = past_end size node.size in
    let before : k < leaves_end size node.size = subst (λ h. k < leaves_end h.size node.size) puts.holdings low in
    let to : k < node.size + count = omega (arith, before, ends node.size size some) in
    let zeros : List ℕ = replicate count 0 in
    let long : length zeros ≡ count = length-replicate count 0 in
    byte_put_after order m n node node.size zeros is.consistent (subst (CanPut order m node node.size) (sym long) can) is.regular.apart puts k past (omega (arith, to, long)) ∙ of_zeros count (k - node.size) (omega (arith, to, past))
  where
    ends : (n b : ℕ) → 0 < b → leaves_end b n ≤ n + past_end b n
    ends n b pos =
        let q : n / b * b + n % b ≡ n = div-add-mod' n b in
        let r : n % b < b = mod-lt n pos in
        let next : (n / b + 1) * b ≡ n / b * b + b = grind arith in
        let most : ceil_div n b ≤ n / b + 1 = ceil_div-le n b (n / b + 1) pos (omega (arith, q, r, next)) in
        let times : ceil_div n b * b ≤ (n / b + 1) * b = mul-le-mul_right b most in
        omega (arith, q, r, next, times)
