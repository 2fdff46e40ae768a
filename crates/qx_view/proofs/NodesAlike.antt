-- What is asked of a node has the same answer where the blocks that it meets are the same.
use Rattle.std.proofs.Common.{◌≡◌, ◌≢◌, ℕ, zero, suc, ◌+◌, ◌-◌, ◌*◌, ◌^◌, ◌/◌, ◌%◌, ◌<◌, List, refl, ap, ◌∙◌, subst, arith}
use Rattle.std.specs.Prelude.{Bool, true, false, not, ◌&&◌, ◌||◌, ◌==◌, Contains, drop, filter, length, map, nat_le, slice_index_or}
use Rattle.std.specs.List.{list_any}
use Rattle.std.proofs.Math.Nat.{mul-div_cancel}
use Rattle.std.proofs.lemmas.Bool.{eqb-false, leb-false}
use Rattle.std.proofs.lemmas.Nat.{div-add-mod', le-div}
use Rattle.qx_fields.specs.Number.{field}
use Rattle.qx_geom.proofs.LevelCounts.{ceil_div-below}
use Rattle.qx_geom.proofs.Members.{Contains-parts}
use Rattle.qx_geom.proofs.Truths.{not_true}
use Rattle.qx_geom.specs.Lists.{each_below}
use Rattle.qx_geom.specs.Pointer.{absent, per_block}
use Rattle.qx_geom.specs.declared.root.Root.{Root}
use Rattle.qx_nodes.proofs.ContentLocality.{leaf_bytes_local, lies_below, piece_local}
use Rattle.qx_nodes.proofs.VisitLocality.{visits_local}
use Rattle.qx_nodes.specs.BlockMap.{BlockMap, with_bytes, word}
use Rattle.qx_nodes.specs.Content.{Reaches, leaf_bytes}
use Rattle.qx_nodes.specs.Leaves.{leaves_below}
use Rattle.qx_nodes.specs.Visits.{AgreesOn, LiesBelow, Visit, is_leaf, present_of, visits_of, visits_under}
use Rattle.qx_records.specs.NameRecord.{raw_in}
use Rattle.qx_view.proofs.AlikeLists.{any_alike, below_members}
use Rattle.qx_view.proofs.SystemTrees.{met_below, met_there}
use Rattle.qx_view.specs.Images.{raw_of}
use Rattle.qx_nodes.specs.ForeignNodes.{has_bare_block, has_leaf_below, has_strays, is_foreign_node, is_stray_under}
use Rattle.qx_view.specs.Sound.{are_zero, has_tail, is_foreign_directory}

-- other bytes are the same in what a node meets, all of which are blocks
pub record AgreesAt (m : BlockMap) (g : ℕ → List ℕ) (node : Root) : Type 0 where
  pub reaches : Reaches m node
  pub on : AgreesOn m g (visits_of m node)
  pub blocks : (v : Visit) → Contains (visits_of m node) v → v.block < m.count

-- a second test matters only where the first is passed
pub and_alike : (a b c : Bool) → (a ≡ true → b ≡ c) → (a && b) ≡ (a && c)
and_alike true b c same = same refl
and_alike false b c same = refl

-- or only where it isn't
pub or_alike : (a b c : Bool) → (a ≡ false → b ≡ c) → (a || b) ≡ (a || c)
or_alike true b c same = refl
or_alike false b c same = same refl

-- the pointers past the size are the same
strays_alike : (m : BlockMap) (g : ℕ → List ℕ) (last l index p : ℕ) → AgreesOn m g (visits_under m last l index p) → ((v : Visit) → Contains (visits_under m last l index p) v → v.block < m.count)
    → is_stray_under m last l index p ≡ is_stray_under (with_bytes m g) last l index p
strays_alike m g last zero index p on blocks = refl
strays_alike m g last (suc l) index p on blocks =
    by_pointer (p == absent) refl (λ w below. strays_alike m g last l (index * per_block m.size + w) (word m p w) (λ v d. on v (below v d)) (λ v d. blocks v (below v d)))
  where
    by_pointer : (a : Bool) → (p == absent) ≡ a
        → ((w : ℕ) → ((v : Visit) → Contains (visits_under m last l (index * per_block m.size + w) (word m p w)) v → Contains (visits_under m last (suc l) index p) v)
        → is_stray_under m last l (index * per_block m.size + w) (word m p w) ≡ is_stray_under (with_bytes m g) last l (index * per_block m.size + w) (word m p w))
        → (not a && (nat_le last (index * per_block m.size ^ suc l) || list_any (λ w. is_stray_under m last l (index * per_block m.size + w) (word m p w)) (each_below (per_block m.size) (λ w. w))))
        ≡ (not a && (nat_le last (index * per_block m.size ^ suc l) || list_any (λ w. is_stray_under (with_bytes m g) last l (index * per_block m.size + w) (word (with_bytes m g) p w)) (each_below (per_block m.size) (λ w. w))))
    by_pointer true e more = refl
    by_pointer false e more = or_alike (nat_le last (index * per_block m.size ^ suc l)) _ _ (λ before.
        let met : Contains (visits_under m last (suc l) index p) (record { level = suc l; index = index; block = p }) = met_there m last (suc l) index p e (leb-false last (index * per_block m.size ^ suc l) before) in
        any_alike _ _ (each_below (per_block m.size) (λ w. w)) (λ w c.
        more w (λ v d. met_below m last (suc l) index p l w (record { level = suc l; index = index; block = p }) v refl (blocks (record { level = suc l; index = index; block = p }) met) (below_members (per_block m.size) w c) met d)
        ∙ ap (λ bs. is_stray_under (with_bytes m g) last l (index * per_block m.size + w) (field m.order 4 bs (4 * w))) (on (record { level = suc l; index = index; block = p }) met)))

-- so are those of a node
has_strays_alike : (m : BlockMap) (g : ℕ → List ℕ) (node : Root) → AgreesAt m g node → has_strays m node ≡ has_strays (with_bytes m g) node
has_strays_alike m g node a = any_alike _ _ (each_below 16 (λ j. j)) (λ j c.
    let in_node : (v : Visit) → Contains (visits_under m (leaves_below m node) node.levels j (slice_index_or node.pointers j absent)) v → Contains (visits_of m node) v = λ v d. Contains-parts 16 (λ j. visits_under m (leaves_below m node) node.levels j (slice_index_or node.pointers j absent)) j v (below_members 16 j c) d in
    strays_alike m g (leaves_below m node) node.levels j (slice_index_or node.pointers j absent) (λ v d. a.on v (in_node v d)) (λ v d. a.blocks v (in_node v d)))

-- whether a node is foreign
pub foreign_node_alike : (m : BlockMap) (g : ℕ → List ℕ) (node : Root) → AgreesAt m g node → is_foreign_node m node ≡ is_foreign_node (with_bytes m g) node
foreign_node_alike m g node a =
    let strays : has_strays m node ≡ has_strays (with_bytes m g) node = has_strays_alike m g node a in
    let bare : has_bare_block m node ≡ has_bare_block (with_bytes m g) node = ap (λ vs. list_any (λ v. not (has_leaf_below m vs v)) vs) (visits_local m g node a.on) in
    or_alike _ _ _ (λ e i. strays i || bare i)

-- its present leaves
pub present_alike : (m : BlockMap) (g : ℕ → List ℕ) (node : Root) → AgreesAt m g node → present_of m node ≡ present_of (with_bytes m g) node
present_alike m g node a = ap (λ vs. map (λ (v : Visit). v.index) (filter is_leaf vs)) (visits_local m g node a.on)

-- whether a directory's is foreign
pub foreign_directory_alike : (m : BlockMap) (g : ℕ → List ℕ) (node : Root) → AgreesAt m g node → is_foreign_directory m node ≡ is_foreign_directory (with_bytes m g) node
foreign_directory_alike m g node a = ap (λ present. (node.size == 0) || (not (node.size % m.size == 0) || not (length present == node.size / m.size))) (present_alike m g node a)

-- a record within its size
pub raw_alike : (m : BlockMap) (g : ℕ → List ℕ) (node : Root) (k : ℕ) → AgreesAt m g node → k * 32 < node.size → raw_of m node k ≡ raw_of (with_bytes m g) node k
raw_alike m g node k a h = ap (λ bs. raw_in m.order bs) (piece_local m g node (k * 32) 32 a.reaches h a.on)

-- a leaf
pub leaf_alike : (m : BlockMap) (g : ℕ → List ℕ) (node : Root) (j : ℕ) → AgreesAt m g node → j < leaves_below m node → leaf_bytes m node j ≡ leaf_bytes (with_bytes m g) node j
leaf_alike m g node j a h =
    let begins : j * m.size < node.size = ceil_div-below node.size m.size j a.reaches.size h in
    leaf_bytes_local m g node j (subst (λ i. LiesBelow m node i) (mul-div_cancel j a.reaches.size) (lies_below m node (j * m.size) a.reaches begins)) a.on

-- and what stands past the size
pub tail_alike : (m : BlockMap) (g : ℕ → List ℕ) (node : Root) → AgreesAt m g node → has_tail m node ≡ has_tail (with_bytes m g) node
tail_alike m g node a = and_alike (not (node.size % m.size == 0)) _ _ (λ some.
    ap (λ bs. not (are_zero (drop (node.size % m.size) bs))) (leaf_alike m g node (node.size / m.size) a (part_leaf (not_true (node.size % m.size == 0) some))))
  where
    part_leaf : (node.size % m.size == 0) ≡ false → node.size / m.size < leaves_below m node
    part_leaf some =
        let rest : node.size % m.size ≢ 0 = eqb-false (node.size % m.size) 0 some in
        let split : node.size / m.size * m.size + node.size % m.size ≡ node.size = div-add-mod' node.size m.size in
        le-div (suc (node.size / m.size)) (node.size + m.size - 1) m.size a.reaches.size (omega arith)
