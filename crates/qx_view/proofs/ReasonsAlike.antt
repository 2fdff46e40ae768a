-- Where blocks agree on what a tree holds, the same reasons apply from 3 on, and the same is found last.
use Rattle.std.proofs.Common.{◌≡◌, inl, inr, ℕ, zero, suc, ◌+◌, ◌-◌, ◌*◌, ◌/◌, ◌%◌, ◌≤◌, ◌<◌, List, [], ◌∷◌, length, refl, ap, ◌∙◌, arith}
use Rattle.std.specs.Prelude.{Bool, true, false, not, ◌&&◌, ◌||◌, ◌==◌, Some, None, Contains, count_by, drop, filter, filter_map, flat_map, if◌then◌else◌, slice_get, slice_index}
use Rattle.std.specs.Int.{bit_at}
use Rattle.std.specs.List.{find, range_with_len}
use Rattle.std.proofs.lemmas.Bool.{cases_lt, eqb-false, eqb-true, le-leb, not-false}
use Rattle.std.proofs.lemmas.Nat.{div-add-mod', mul-le}
use Rattle.qx_geom.proofs.Truths.{not_true, or_left, or_right}
use Rattle.qx_geom.specs.Lists.{each_below, first_below, is_in}
use Rattle.qx_geom.specs.declared.geometry.Geometry.{Geometry}
use Rattle.qx_geom.specs.declared.root.Root.{Root}
use Rattle.qx_model.specs.Tree.{Entry, Tree, entry_of}
use Rattle.qx_nodes.proofs.ContentLocality.{piece_local}
use Rattle.qx_nodes.specs.BlockMap.{BlockMap, with_bytes}
use Rattle.qx_nodes.specs.Content.{HasSize}
use Rattle.qx_nodes.specs.Leaves.{leaves_below}
use Rattle.qx_nodes.specs.Visits.{present_of}
use Rattle.qx_records.specs.InodeRecord.{inode_in, kind_of}
use Rattle.qx_records.specs.declared.inode.Inode.{Inode}
use Rattle.qx_view.proofs.AlikeLists.{below_members, filter_alike, filter_map_alike, filter_members, flat_map_alike}
use Rattle.qx_view.proofs.NodesAlike.{AgreesAt, and_alike, foreign_directory_alike, foreign_node_alike, leaf_alike, present_alike, raw_alike, tail_alike}
use Rattle.qx_view.proofs.TreeLocality.{place_within, record_below}
use Rattle.qx_view.proofs.WalkAlike.{directory_not_special, entered, in_walk, inodes_agrees, longfile_agrees, node_agrees, same_inode}
use Rattle.qx_view.specs.Images.{Roots, inode_bytes, inode_places, raw_of}
use Rattle.qx_view.specs.Reading.{IsHeld, IsTreeOf}
use Rattle.qx_nodes.specs.ForeignNodes.{is_foreign_node}
use Rattle.qx_view.specs.Sound.{are_zero, bad_long_name, bit_differs, fails_dots, fails_inodes, fails_nodes, fails_tail, has_tail, is_foreign_directory, is_short, is_special_inode, is_special_kind, long_number, must_be_set, numbers_named}
use Rattle.qx_view.specs.Walk.{inode_mode, inode_root, is_directory_inode, is_directory_kind, walked_inodes}

-- where no number below a bound passes, each fails
none_from : (test : ℕ → Bool) (at n k : ℕ) → find test (range_with_len at n) ≡ None → at ≤ k → k < at + n → test k ≡ false
none_from test at zero k e low high = absurd (omega arith)
none_from test at (suc n) k e low high = go (test at) refl e (λ f above. none_from test (at + 1) n k f above (omega arith))
  where
    go : (b : Bool) → test at ≡ b → (if b then Some at else find test (range_with_len (at + 1) n)) ≡ None → (find test (range_with_len (at + 1) n) ≡ None → at + 1 ≤ k → test k ≡ false) → test k ≡ false
    go true x e more = absurd (cc)
    go false x e more = elim (cases_lt at k) [ inl above ↦ more e (omega arith) | inr same ↦ let here : k ≡ at = omega arith in ap test here ∙ x ]

-- each number below the bound
pub none_below : (test : ℕ → Bool) (n k : ℕ) → first_below test n ≡ None → k < n → test k ≡ false
none_below test n k e h = none_from test 0 n k e (omega arith) (omega arith)

-- ---- what is asked of an inode, by its record

-- whether its node is foreign
abbrev fails_nodes_by : BlockMap → Inode → Bool
fails_nodes_by m x = not (is_special_kind (kind_of x.mode)) && (is_foreign_node m x.root || (is_directory_kind (kind_of x.mode) && is_foreign_directory m x.root))

-- whether its first two records are foreign
abbrev fails_dots_by : BlockMap → Inode → Bool
fails_dots_by m x = is_directory_kind (kind_of x.mode) && not (is_short (raw_of m x.root 0) (46 ∷ []) && is_short (raw_of m x.root 1) (46 ∷ 46 ∷ []))

-- whether its bytes are as this project writes them
abbrev is_written_by_bytes : BlockMap → List ℕ → Bool
is_written_by_bytes m bytes =
    let i = inode_in m.order bytes in
    not (is_special_kind (kind_of i.mode)) && ((i.status == (if is_directory_kind (kind_of i.mode) then 1 else 3)) && ((i.ext_mode == 0) && are_zero (drop 102 bytes)))

-- the long-name numbers of its records
abbrev numbers_by : BlockMap → Inode → List ℕ
numbers_by m x = filter_map (λ k. long_number (raw_of m x.root k)) (each_below (x.root.size / 32) (λ k. k))

-- whether it has a tail
abbrev fails_tail_by : BlockMap → Inode → Bool
fails_tail_by m x = not (is_special_kind (kind_of x.mode)) && has_tail m x.root

module _ (m : BlockMap) (g : ℕ → List ℕ) (r : Roots) (t : Tree) (size : HasSize m) (is : IsTreeOf m r t) (held : (b : ℕ) → IsHeld m r t b → m.bytes b ≡ g b) where
  -- a bit of the bitmap
  pub bit_alike : (bitmap : Root) (geometry : Geometry) (blocks : List ℕ) (b : ℕ) → AgreesAt m g bitmap → b / 8 / m.size < leaves_below m bitmap → bit_differs m bitmap geometry blocks b ≡ bit_differs (with_bytes m g) bitmap geometry blocks b
  bit_alike bitmap geometry blocks b a h = ap (λ bs. not (bit_at (slice_index bs (b / 8 % m.size)) (b % 8) == (if must_be_set m geometry blocks b then 1 else 0))) (leaf_alike m g bitmap (b / 8 / m.size) a h)

  -- whether a node is foreign
  pub fails_nodes_alike : (n : ℕ) → fails_nodes m r (walked_inodes m r) n ≡ fails_nodes (with_bytes m g) r (walked_inodes m r) n
  fails_nodes_alike zero = foreign_node_alike m g r.longfile (longfile_agrees m g r t size is held)
  fails_nodes_alike (suc k) = and_alike (is_in (walked_inodes m r) (suc k)) _ _ (λ h.
      let e : (e : Entry) × (entry_of t (suc k) ≡ Some e) = in_walk m g r t size is held (suc k) h in
      and_alike (not (is_special_inode m r (suc k))) _ _ (λ plain.
      let a : AgreesAt m g (inode_root m r (suc k)) = node_agrees m g r t size is held (suc k) e.0 e.1 (not_true (is_special_inode m r (suc k)) plain) in
      λ i. foreign_node_alike m g (inode_root m r (suc k)) a i || (is_directory_inode m r (suc k) && foreign_directory_alike m g (inode_root m r (suc k)) a i))
      ∙ ap (fails_nodes_by (with_bytes m g)) (same_inode m g r t size is held (suc k) e.0 e.1))

  -- a directory that isn't foreign has room for its first two records
  has_two : 64 ≤ m.size → (node : Root) → is_foreign_directory m node ≡ false → 64 ≤ node.size
  has_two large node right =
      let some : (node.size == 0) ≡ false = or_left (node.size == 0) _ right in
      let rest : (not (node.size % m.size == 0) || not (length (present_of m node) == node.size / m.size)) ≡ false = or_right (node.size == 0) _ right in
      let whole : node.size % m.size ≡ 0 = eqb-true (node.size % m.size) 0 (not-false (node.size % m.size == 0) (or_left (not (node.size % m.size == 0)) _ rest)) in
      let split : node.size / m.size * m.size + node.size % m.size ≡ node.size = div-add-mod' node.size m.size in
      elim (cases_lt (node.size / m.size) 1) [
        | inl none ↦
            let times : node.size / m.size * m.size ≡ 0 * m.size = ap (λ q. q * m.size) (let e : node.size / m.size ≡ 0 = omega arith in e) in
            absurd (eqb-false node.size 0 some (omega arith))
        | inr one ↦ let times : 1 * m.size ≤ node.size / m.size * m.size = mul-le 1 m.size (node.size / m.size) m.size one (omega arith) in omega arith
      ]

  -- where its node isn't foreign, a directory's isn't either
  directory_right : (n : ℕ) → 0 < n → is_in (walked_inodes m r) n ≡ true → is_directory_inode m r n ≡ true → fails_nodes m r (walked_inodes m r) n ≡ false → is_foreign_directory m (inode_root m r n) ≡ false
  directory_right zero some h dir right = absurd (omega arith)
  directory_right (suc k) some h dir right =
      let plain : is_special_inode m r (suc k) ≡ false = directory_not_special (kind_of (inode_mode m r (suc k))) dir in
      parts (is_in (walked_inodes m r) (suc k)) (is_special_inode m r (suc k)) (is_foreign_node m (inode_root m r (suc k))) (is_directory_inode m r (suc k)) (is_foreign_directory m (inode_root m r (suc k))) h plain dir right
    where
      parts : (a b c d e : Bool) → a ≡ true → b ≡ false → d ≡ true → (a && (not b && (c || (d && e)))) ≡ false → e ≡ false
      parts true false false true e ea eb ed h = h
      parts true false true true e ea eb ed h = absurd (cc)
      parts true false c false e ea eb ed h = absurd (cc)
      parts true true c d e ea eb ed h = absurd (cc)
      parts false b c d e ea eb ed h = absurd (cc)

  -- whether the first two records are foreign, where no node is
  pub fails_dots_alike : 64 ≤ m.size → (n : ℕ) → fails_nodes m r (walked_inodes m r) n ≡ false → fails_dots m r (walked_inodes m r) n ≡ fails_dots (with_bytes m g) r (walked_inodes m r) n
  fails_dots_alike large n right = and_alike (is_in (walked_inodes m r) n) _ _ (λ h.
      let e : (e : Entry) × (entry_of t n ≡ Some e) = in_walk m g r t size is held n h in
      and_alike (is_directory_inode m r n) _ _ (λ dir.
      let a : AgreesAt m g (inode_root m r n) = node_agrees m g r t size is held n e.0 e.1 (directory_not_special (kind_of (inode_mode m r n)) dir) in
      let two : 64 ≤ (inode_root m r n).size = has_two large (inode_root m r n) (directory_right n (is.each n e.0 e.1).positive h dir right) in
      λ i. not (is_short (raw_alike m g (inode_root m r n) 0 a (omega arith) i) (46 ∷ []) && is_short (raw_alike m g (inode_root m r n) 1 a (omega arith) i) (46 ∷ 46 ∷ [])))
      ∙ ap (fails_dots_by (with_bytes m g)) (same_inode m g r t size is held n e.0 e.1))

  -- the bytes of an inode that has a place
  same_bytes : (k : ℕ) → suc k < inode_places r + 1 → inode_bytes m r.inodes (suc k) ≡ inode_bytes (with_bytes m g) r.inodes (suc k)
  same_bytes k h =
      let a : AgreesAt m g r.inodes = inodes_agrees m g r t size is held in
      piece_local m g r.inodes ((suc k - 1) * 128) 128 a.reaches (omega (arith, place_within r.inodes (suc k) (le-leb (suc k) (inode_places r) (omega arith)))) a.on

  -- whether an inode is foreign
  pub fails_inodes_alike : (n : ℕ) → n < inode_places r + 1 → fails_inodes m r (walked_inodes m r) n ≡ fails_inodes (with_bytes m g) r (walked_inodes m r) n
  fails_inodes_alike zero h = refl
  fails_inodes_alike (suc k) h = ap (λ bs. if is_in (walked_inodes m r) (suc k) then not (is_written_by_bytes m bs) else not (are_zero bs)) (same_bytes k h)

  -- the long names that are named
  numbers_alike : numbers_named m r (walked_inodes m r) ≡ numbers_named (with_bytes m g) r (walked_inodes m r)
  numbers_alike =
      flat_map_alike _ _ (filter (is_directory_inode m r) (walked_inodes m r)) (λ d c.
      let among : Contains (walked_inodes m r) d × (is_directory_inode m r d ≡ true) = filter_members (is_directory_inode m r) (walked_inodes m r) d c in
      let e : (e : Entry) × (entry_of t d ≡ Some e) = entered m g r t size is held d among.0 in
      let a : AgreesAt m g (inode_root m r d) = node_agrees m g r t size is held d e.0 e.1 (directory_not_special (kind_of (inode_mode m r d)) among.1) in
      filter_map_alike _ _ (each_below ((inode_root m r d).size / 32) (λ k. k)) (λ k low. ap (λ raw. long_number raw) (raw_alike m g (inode_root m r d) k a (record_below k (inode_root m r d).size (below_members ((inode_root m r d).size / 32) k low))))
      ∙ ap (numbers_by (with_bytes m g)) (same_inode m g r t size is held d e.0 e.1))
      ∙ ap (λ ds. flat_map (λ d. filter_map (λ k. long_number (raw_of (with_bytes m g) (inode_root (with_bytes m g) r d) k)) (each_below ((inode_root (with_bytes m g) r d).size / 32) (λ k. k))) ds)
      (filter_alike _ _ (walked_inodes m r) (λ d c. let e : (e : Entry) × (entry_of t d ≡ Some e) = entered m g r t size is held d c in ap (λ x. is_directory_kind (kind_of x.mode)) (same_inode m g r t size is held d e.0 e.1)))

  -- so the first long name that isn't named once
  pub bad_long_name_alike : bad_long_name m r (walked_inodes m r) ≡ bad_long_name (with_bytes m g) r (walked_inodes m r)
  bad_long_name_alike = λ i. if not (r.longfile.size % m.size == 0) then Some 0 else slice_get (filter (λ n. not (count_by (λ k. k == n) (numbers_alike i) == 1)) (present_alike m g r.longfile (longfile_agrees m g r t size is held) i)) 0

  -- whether a node has a tail
  pub fails_tail_alike : (n : ℕ) → fails_tail m r (walked_inodes m r) n ≡ fails_tail (with_bytes m g) r (walked_inodes m r) n
  fails_tail_alike zero = tail_alike m g r.inodes (inodes_agrees m g r t size is held)
  fails_tail_alike (suc k) = and_alike (is_in (walked_inodes m r) (suc k)) _ _ (λ h.
      let e : (e : Entry) × (entry_of t (suc k) ≡ Some e) = in_walk m g r t size is held (suc k) h in
      and_alike (not (is_special_inode m r (suc k))) _ _ (λ plain. tail_alike m g (inode_root m r (suc k)) (node_agrees m g r t size is held (suc k) e.0 e.1 (not_true (is_special_inode m r (suc k)) plain)))
      ∙ ap (fails_tail_by (with_bytes m g)) (same_inode m g r t size is held (suc k) e.0 e.1))
