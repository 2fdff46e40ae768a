-- Which places are those of live inodes.
use Rattle.std.proofs.Common.{◌≡◌, ℕ, ◌<◌, zero, suc, false, List, ◌∷◌, map, set, replicate, refl, sym, ◌∙◌, ap, arith, Some, None}
use Rattle.std.specs.Prelude.{◌==◌, is_some}
use Rattle.std.proofs.lemmas.Bool.Decides.{nat_tests}
use Rattle.std.proofs.lemmas.List.{map-set}
use Rattle.qx_blockset.specs.Members.{Members}
use Rattle.qx_fields.specs.declared.order.Order.{Order}
use Rattle.qx_fields.specs.declared.order.Order.TheVariants.{Little, Big}
use Rattle.qx_fields.specs.Number.{field}
use Rattle.qx_records.specs.declared.inode.Inode.{Inode}
use Rattle.qx_records.specs.InodeRecord.{inode_in}
use Rattle.qx_itable.specs.TableState.{if_live}

-- what stands in memory where none is live
abbrev pub blank : Inode
blank = record {
  root = record { size = 0; pointers = replicate 16 0; levels = 0 };
  uid = 0;
  gid = 0;
  ftime = 0;
  mtime = 0;
  atime = 0;
  ctime = 0;
  mode = 0;
  ext_mode = 0;
  status = 0;
}

-- an inode without a mode isn't live
pub if_live-dead : (inode : Inode) → inode.mode ≡ 0 → if_live inode ≡ None
if_live-dead inode dead = rw dead refl

-- one with a mode is
pub if_live-live : (inode : Inode) → 0 < inode.mode → if_live inode ≡ Some inode
if_live-live inode live =
    let some : (inode.mode == 0) ≡ false = grind (arith, nat_tests) in
    rw some refl

-- the places of the live inodes once one was set
pub places-set : (items : List Inode) (live : Members) (place : ℕ) (inode : Inode) → live ≡ map is_some (map if_live items)
    → set live place (is_some (if_live inode)) ≡ map is_some (map if_live (set items place inode))
places-set items live place inode are =
    ap (λ (s : Members). set s place (is_some (if_live inode))) are
    ∙ sym (map-set is_some (map if_live items) place (if_live inode))
    ∙ ap (map is_some) (sym (map-set if_live items place inode))

-- inodes of which none is live
pub none-live : (count : ℕ) (inode : Inode) → if_live inode ≡ None → map if_live (replicate count inode) ≡ replicate count None
none-live zero inode dead = refl
none-live (suc n) inode dead = λ i. dead i ∷ none-live n inode dead i

-- and their places
pub no-places : (count : ℕ) (inode : Inode) → if_live inode ≡ None → map is_some (map if_live (replicate count inode)) ≡ replicate count false
no-places zero inode dead = refl
no-places (suc n) inode dead = λ i. is_some (dead i) ∷ no-places n inode dead i

-- a record of bytes 0 has no mode
zero-mode : (order : Order) → field order 2 (replicate 128 0) 32 ≡ 0
unfolding field
zero-mode Little = refl
zero-mode Big = refl

-- so it is that of no live inode
pub zeros-dead : (order : Order) → if_live (inode_in order (replicate 128 0)) ≡ None
unfolding inode_in
zeros-dead order = if_live-dead (inode_in order (replicate 128 0)) (zero-mode order)
