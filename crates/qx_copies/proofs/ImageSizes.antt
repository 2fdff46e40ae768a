-- Sizes in whole blocks and whole records, and what an entry has of its node.
use Rattle.std.proofs.Common.{◌≡◌, ◌≢◌, ℕ, inl, inr, ◌+◌, ◌*◌, ◌/◌, ◌%◌, ◌≤◌, ◌<◌, List, length, sym, ◌∙◌, ap, subst, arith}
use Rattle.std.specs.Prelude.{false, min, Some, Contains, slice_index, slice_index_or}
use Rattle.std.proofs.Math.Nat.{mul_assoc}
use Rattle.std.proofs.lemmas.Bool.{cases_lt}
use Rattle.std.proofs.lemmas.List.FromFn.{length-map-range_with_len}
use Rattle.std.proofs.lemmas.Nat.{div-add-mod', mul-le}
use Rattle.qx_geom.specs.declared.root.Root.{Root}
use Rattle.qx_geom.specs.Pointer.{absent, ceil_div}
use Rattle.qx_geom.proofs.LevelCounts.{ceil_div-is}
use Rattle.qx_geom.proofs.Members.{parts-Contains}
use Rattle.qx_geom.proofs.Truths.{true_or_false}
use Rattle.qx_model.specs.Tree.{Entry, Tree, entry_of, is_special_body}
use Rattle.qx_nodes.proofs.MetLeaves.{leaf_visit, under_low}
use Rattle.qx_nodes.specs.BlockMap.{BlockMap}
use Rattle.qx_nodes.specs.Leaves.{leaves_below}
use Rattle.qx_nodes.specs.NodeContents.{NodeContent, bytes_in, node_content}
use Rattle.qx_nodes.specs.Visits.{Visit, present_of, visits_of, visits_under}
use Rattle.qx_records.specs.declared.kind.Kind.{Kind}
use Rattle.qx_records.specs.declared.kind.Kind.TheVariants as kinds
use Rattle.qx_view.specs.Entries.{Holds, Reader}
use Rattle.qx_view.specs.Images.{Roots}
use Rattle.qx_view.specs.Reading.{IsTreeOf, reader_of}
use Rattle.qx_view.specs.Walk.{inode_root}

-- ---- sizes

-- whole blocks are whole records
pub records_whole : (n b : ℕ) → n % b ≡ 0 → b % 32 ≡ 0 → n ≡ 32 * (n / 32)
records_whole n b whole records =
    let split : n / b * b + n % b ≡ n = div-add-mod' n b in
    let each : b / 32 * 32 + b % 32 ≡ b = div-add-mod' b 32 in
    let parts : b ≡ b / 32 * 32 = omega (arith, each, records) in
    let times : n / b * b ≡ n / b * (b / 32) * 32 = ap (λ z. n / b * z) parts ∙ sym (mul_assoc (n / b) (b / 32) 32) in
    let all : n ≡ n / b * (b / 32) * 32 = sym split ∙ (let none : n / b * b + n % b ≡ n / b * b = omega (arith, whole) in none) ∙ times in
    whole_of (n / b * (b / 32)) n all
  where
    whole_of : (q n : ℕ) → n ≡ q * 32 → n ≡ 32 * (n / 32)
    whole_of q n e = omega (arith, e)

-- whole blocks are as many as there are parts
pub parts_whole : (n b : ℕ) → 0 < b → n % b ≡ 0 → ceil_div n b ≡ n / b
parts_whole n b pos whole = sym (ceil_div-is n b pos) ∙ ap (λ z. n / b + min 1 z) whole ∙ (let none : n / b + min 1 0 ≡ n / b = omega arith in none)

-- and are the size again
pub blocks_whole : (n b : ℕ) → 0 < b → n % b ≡ 0 → n ≡ ceil_div n b * b
blocks_whole n b pos whole =
    let split : n / b * b + n % b ≡ n = div-add-mod' n b in
    let none : n / b * b + n % b ≡ n / b * b = omega (arith, whole) in
    sym split ∙ none ∙ ap (λ z. z * b) (sym (parts_whole n b pos whole))

-- some whole blocks are two records at least
pub two_rows : (n m : ℕ) → 64 ≤ m → n ≢ 0 → n % m ≡ 0 → 64 ≤ n
two_rows n m large some whole = elim (cases_lt (n / m) 1) [
  | inl none ↦
      let split : n / m * m + n % m ≡ n = div-add-mod' n m in
      let zero_times : n / m * m ≡ 0 * m = ap (λ q. q * m) (let e : n / m ≡ 0 = omega arith in e) in
      absurd (some (omega (arith, split, whole, zero_times)))
  | inr one ↦
      let split : n / m * m + n % m ≡ n = div-add-mod' n m in
      let times : 1 * m ≤ n / m * m = mul-le 1 m (n / m) m one (omega arith) in
      omega (arith, split, times)
]

-- ---- nodes

-- a present leaf lies below the size
pub present_low : (m : BlockMap) (node : Root) (i : ℕ) → Contains (present_of m node) i → i < leaves_below m node
present_low m node i c =
    let v : (v : Visit) × Contains (visits_of m node) v × (v.level ≡ 0) × (v.index ≡ i) = leaf_visit (visits_of m node) i c in
    let part : ℕ → List Visit = λ j. visits_under m (leaves_below m node) node.levels j (slice_index_or node.pointers j absent) in
    let from : (j : ℕ) × (j < 16) × Contains (part j) v.0 = parts-Contains 16 part v.0 v.1 in
    subst (λ k. k < leaves_below m node) v.3 (under_low m (leaves_below m node) node.levels from.0 (slice_index_or node.pointers from.0 absent) v.0 from.2 v.2)

-- what an entry that is no special has of its content
pub node_facts : (rd : Reader) (c : NodeContent) (k : Kind) (e : Entry) → Holds rd c k e → is_special_body e.body ≡ false → (e.size ≡ c.size) × (e.present ≡ c.present)
node_facts rd c kinds.Directory e h own = (h.size, h.present)
node_facts rd c kinds.File e h own = (h.size, h.present)
node_facts rd c kinds.Link e h own = (h.size, h.present)
node_facts rd c kinds.Special e h own = absurd (true_or_false (is_special_body e.body) (ap (λ b. is_special_body b) h.body) own)

-- so an entry's size and present leaves are its node's
pub size_here : (m : BlockMap) (r : Roots) (t : Tree) (is : IsTreeOf m r t) (n : ℕ) (e : Entry) → entry_of t n ≡ Some e → is_special_body e.body ≡ false → (e.size ≡ (inode_root m r n).size) × (e.present ≡ present_of m (inode_root m r n))
size_here m r t is n e at own = let i = (is.each n e at).is in node_facts (reader_of m r.longfile) (node_content m (inode_root m r n)) i.kind e i.holds own

-- a content has as many bytes as its size says
pub bytes_long : (blocksize : ℕ) (c : NodeContent) → length (bytes_in blocksize c) ≡ c.size
bytes_long blocksize c = length-map-range_with_len (λ k. slice_index (c.leaves (k / blocksize)) (k % blocksize)) 0 c.size
