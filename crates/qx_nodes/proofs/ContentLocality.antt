-- What a node holds depends on the blocks that it meets alone.
use Rattle.std.proofs.Common.{◌≡◌, ℕ, zero, suc, ◌+◌, ◌*◌, ◌/◌, ◌%◌, ◌^◌, ◌<◌, List, refl, sym, ◌∙◌, ap, subst, arith}
use Rattle.std.specs.Prelude.{◌&&◌, nat_le, IsTrue, slice_index, slice_range, map, filter}
use Rattle.std.proofs.Math.Nat.{mul-div_cancel, mul-pos, pow-suc, pow-zero}
use Rattle.std.proofs.lemmas.Nat.{div_below}
use Rattle.std.proofs.lemmas.Bool.{leb-true}
use Rattle.qx_geom.specs.declared.root.Root.{Root}
use Rattle.qx_geom.proofs.LevelCounts.{ceil_div-below, part_below}
use Rattle.qx_geom.proofs.Members.{each_alike}
use Rattle.qx_geom.proofs.Truths.{and_left, and_right}
use Rattle.qx_geom.specs.Pointer.{per_block, reach}
use Rattle.qx_nodes.proofs.LeafPaths.{leaf_local, node_leaf_met}
use Rattle.qx_nodes.specs.BlockMap.{BlockMap, with_bytes}
use Rattle.qx_nodes.specs.Content.{HasSize, Reaches, byte_of, bytes_at_leaf, content_of, leaf_bytes, levels_fit, piece_of}
use Rattle.qx_nodes.specs.Leaves.{Block, Damage, Hole, Leaf, leaf_of, leaves_below}
use Rattle.qx_nodes.specs.NodeContents.{IsSameContent, node_content}
use Rattle.qx_nodes.specs.Visits.{AgreesOn, IsMet, LiesBelow, Visit, is_leaf, visits_of}
use Rattle.qx_nodes.proofs.VisitLocality.{visits_local}

-- the bytes of the block at a leaf, where they are alike in each block that is met
bytes_alike : (m : BlockMap) (g : ℕ → List ℕ) (i : ℕ) (x : Leaf) (vs : List Visit) → IsMet i m.count x vs → AgreesOn m g vs → bytes_at_leaf m x ≡ bytes_at_leaf (with_bytes m g) x
bytes_alike m g i (Block b) vs t same = same _ t
bytes_alike m g i Hole vs t same = refl
bytes_alike m g i Damage vs t same = refl

-- the bytes of a leaf
pub leaf_bytes_local : (m : BlockMap) (g : ℕ → List ℕ) (node : Root) (i : ℕ) → LiesBelow m node i → AgreesOn m g (visits_of m node) → leaf_bytes m node i ≡ leaf_bytes (with_bytes m g) node i
leaf_bytes_local m g node i h same =
    bytes_alike m g i (leaf_of m node i) (visits_of m node) (node_leaf_met m node i h) same
    ∙ ap (λ x. bytes_at_leaf (with_bytes m g) x) (leaf_local m g node i h same)

-- powers of what is above 0
pub pow_above : (P l : ℕ) → 0 < P → 0 < P ^ l
pow_above P zero pos = rw (pow-zero P) (omega arith)
pow_above P (suc l) pos = rw (pow-suc P l) (mul-pos (pow_above P l pos) pos)

-- a byte below the size lies in a leaf below it
pub lies_below : (m : BlockMap) (node : Root) (k : ℕ) → Reaches m node → k < node.size → LiesBelow m node (k / m.size)
lies_below m node k r h = record {
  positive = r.words;
  below = part_below k node.size m.size r.size h;
  reached = div_below (k / m.size) (per_block m.size ^ node.levels) 16 (pow_above (per_block m.size) node.levels r.words) (div_below k m.size (16 * per_block m.size ^ node.levels) r.size (omega (arith, r.reached)));
}

-- so does a leaf that begins below it
pub first_lies : (m : BlockMap) (node : Root) (i : ℕ) → Reaches m node → i * m.size < node.size → LiesBelow m node i
first_lies m node i r low = subst (λ k. LiesBelow m node k) (mul-div_cancel i r.size) (lies_below m node (i * m.size) r low)

-- and each of as many leaves as there are
pub leaf_lies : (m : BlockMap) (node : Root) (i : ℕ) → Reaches m node → i < leaves_below m node → LiesBelow m node i
leaf_lies m node i r low = first_lies m node i r (ceil_div-below node.size m.size i r.size low)

-- a byte of a node
pub byte_local : (m : BlockMap) (g : ℕ → List ℕ) (node : Root) (k : ℕ) → Reaches m node → k < node.size → AgreesOn m g (visits_of m node) → byte_of m node k ≡ byte_of (with_bytes m g) node k
byte_local m g node k r h same = ap (λ bs. slice_index bs (k % m.size)) (leaf_bytes_local m g node (k / m.size) (lies_below m node k r h) same)

-- all bytes of a node
pub content_local : (m : BlockMap) (g : ℕ → List ℕ) (node : Root) → Reaches m node → AgreesOn m g (visits_of m node) → content_of m node ≡ content_of (with_bytes m g) node
content_local m g node r same = each_alike node.size _ _ (λ k h. byte_local m g node k r h same)

-- so a node has the same content
pub content_same : (m : BlockMap) (g : ℕ → List ℕ) (node : Root) → Reaches m node → AgreesOn m g (visits_of m node) → IsSameContent m.size (node_content m node) (node_content (with_bytes m g) node)
content_same m g node r same = record {
  size = refl;
  present = ap (λ vs. map (λ (v : Visit). v.index) (filter is_leaf vs)) (sym (visits_local m g node same));
  leaves = λ i low. sym (leaf_bytes_local m g node i (leaf_lies m node i r low) same);
}

-- bytes within a leaf
pub piece_local : (m : BlockMap) (g : ℕ → List ℕ) (node : Root) (at count : ℕ) → Reaches m node → at < node.size → AgreesOn m g (visits_of m node) → piece_of m node at count ≡ piece_of (with_bytes m g) node at count
piece_local m g node at count r h same = ap (λ (bs : List ℕ). slice_range bs (at % m.size) (at % m.size + count)) (leaf_bytes_local m g node (at / m.size) (lies_below m node at r h) same)

-- a node within the bounds reaches its size
pub reaches_of : (m : BlockMap) (node : Root) → HasSize m → IsTrue (levels_fit m node) → Reaches m node
reaches_of m node s fit = record {
  size = s.size;
  words = s.words;
  reached = leb-true _ _ (and_left (nat_le node.size (reach m.size node.levels * m.size)) (nat_le node.size (2 ^ 48)) (and_right (nat_le node.levels 5) (nat_le node.size (reach m.size node.levels * m.size) && nat_le node.size (2 ^ 48)) fit));
}
