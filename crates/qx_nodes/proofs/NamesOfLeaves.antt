-- A long name is what the bytes of its leaf say, and what the Longfile's content says.
use Rattle.std.proofs.Common.{◌≡◌, ℕ, ◌*◌, List, refl, sym, ◌∙◌, ap}
use Rattle.std.specs.Prelude.{Bool, true, false, not, ◌&&◌, nat_lt, if◌then◌else◌, Option, None, replicate}
use Rattle.std.proofs.lemmas.Bool.{eq-eqb, ltb-true}
use Rattle.qx_fields.specs.Number.{field}
use Rattle.qx_fields.specs.declared.order.Order.{Order}
use Rattle.qx_geom.specs.declared.root.Root.{Root}
use Rattle.qx_geom.specs.Lists.{is_in}
use Rattle.qx_geom.proofs.ImagesAndFilters.{in_Contains}
use Rattle.qx_geom.proofs.Truths.{true_or_false}
use Rattle.qx_nodes.proofs.AbsentLeaves.{absent_bytes}
use Rattle.qx_nodes.proofs.ContentLocality.{first_lies}
use Rattle.qx_nodes.proofs.ZeroBytes.{short_field_zeros}
use Rattle.qx_nodes.specs.BlockMap.{BlockMap}
use Rattle.qx_nodes.specs.Content.{Reaches, bytes_at_leaf, leaf_bytes}
use Rattle.qx_nodes.specs.Leaves.{Block, Damage, Hole, Leaf, leaf_of}
use Rattle.qx_nodes.specs.LongNames.{long_name, name_at_leaf, name_in}
use Rattle.qx_nodes.specs.NodeContents.{node_content}
use Rattle.qx_nodes.specs.Visits.{LiesBelow, present_of}
use Rattle.qx_records.specs.NameRecord.{long_name_in}

-- bytes 0 say no name
no_name : (order : Order) (c : ℕ) → long_name_in order (replicate c 0) ≡ None
unfolding long_name_in
no_name order c = none _ _ _ (eq-eqb (field order 2 (replicate c 0) 0) 0 (short_field_zeros order c 0))
  where
    none : (a b : Bool) (name : Option (List ℕ)) → a ≡ true → (if not a && b then name else None) ≡ None
    none true b name e = refl
    none false b name e = absurd (cc)

-- the name at a leaf is what its bytes say
at_leaf : (m : BlockMap) (x : Leaf) → name_at_leaf m x ≡ long_name_in m.order (bytes_at_leaf m x)
at_leaf m (Block b) = refl
at_leaf m Hole = sym (no_name m.order m.size)
at_leaf m Damage = sym (no_name m.order m.size)

-- so is a long name, as far as the Longfile goes
pub name_by_bytes : (m : BlockMap) (longfile : Root) (n : ℕ) → long_name m longfile n ≡ (if nat_lt (n * m.size) longfile.size then long_name_in m.order (leaf_bytes m longfile n) else None)
name_by_bytes m longfile n = ap (λ name. if nat_lt (n * m.size) longfile.size then name else None) (at_leaf m (leaf_of m longfile n))

-- and what the content says
pub name_by_content : (m : BlockMap) (longfile : Root) (n : ℕ) → Reaches m longfile → name_in m.order m.size (node_content m longfile) n ≡ long_name m longfile n
name_by_content m longfile n r =
    where_taken (nat_lt (n * m.size) longfile.size) _ _ (λ low. left_out (is_in (present_of m longfile) n) _ (λ out.
    let below : LiesBelow m longfile n = first_lies m longfile n r (ltb-true (n * m.size) longfile.size low) in
    ap (λ (l : List ℕ). long_name_in m.order l) (absent_bytes m longfile n below (λ c. true_or_false (is_in (present_of m longfile) n) (in_Contains (present_of m longfile) n c) out)) ∙ no_name m.order m.size))
    ∙ sym (name_by_bytes m longfile n)
  where
    -- alike where it is taken
    where_taken : (b : Bool) (x y : Option (List ℕ)) → (b ≡ true → x ≡ y) → (if b then x else None) ≡ (if b then y else None)
    where_taken true x y same = same refl
    where_taken false x y same = refl

    -- nothing is left out that is there
    left_out : (b : Bool) (x : Option (List ℕ)) → (b ≡ false → x ≡ None) → (if b then x else None) ≡ x
    left_out true x none = refl
    left_out false x none = sym (none refl)
