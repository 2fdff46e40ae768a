-- The blocks of a new volume are put piece after piece: what each call leaves.
use Rattle.std.proofs.Common.{◌≡◌, ℕ, ◌+◌, ◌*◌, ◌≤◌, true, Result, Ok, IsErr, Option, List, ◌++◌, length, refl, ap, sym, ◌∙◌, subst, arith}
use Rattle.std.specs.Prelude.{IfSome}
use Rattle.std.proofs.Math.Nat.{mul-le-mul_right}
use Rattle.qx_bytes.proofs.Puts.{length_put}
use Rattle.qx_fields.specs.declared.order.Order.{Order}
use Rattle.qx_geom.specs.declared.geometry.Geometry.{Geometry}
use Rattle.qx_geom.specs.Layout.{IsGeometry}
use Rattle.qx_geom.proofs.SystemBlocks.{area_place-second}
use Rattle.qx_geom.proofs.VolumeNumbers.{IsGeometry-keeps}
use Rattle.qx_outside.specs.Calls.{Did, Syncs, Writes}
use Rattle.qx_outside.specs.Puts.{HasPut, IsAtRest, IsPartOf}
use Rattle.qx_outside.specs.Ranges.{put_at}
use Rattle.qx_outside.specs.Outside.{Outside}
use Rattle.qx_outside.specs.Trail.{wrote, synced}
use Rattle.qx_outside.proofs.PuttingMoments.{IsPartOf-taken, put_none}
use Rattle.qx_outside.proofs.Throughout.{reaches_moves}
use Rattle.qx_outside.proofs.ToldLengths.{told_weaker}
use Rattle.qx_make.specs.Blocks.{blocks_bytes, made_block_bytes, top_block}
use Rattle.qx_make.specs.Stages.{Passes, Performs, PutsAll, Stage, after_stage, all_block_bytes, blocks_stage}
use Rattle.qx_make.proofs.MadeBlockLengths.{length-made_block}
use Rattle.qx_system.proofs.PartsInOrder.{length-parts}
use Rattle.qx_make.proofs.PiecesWritten.{parts_split, parts_within, put_next}
use Rattle.qx_make.proofs.StageSteps.{HasBegun, begin_stage, end_stage, fail_to_put, fail_to_sync, none_of_err, put_in_stage}

module _ (g : Geometry) (e : IsGeometry g) (order : Order) (moment : ℕ) where
  -- so many blocks from one on
  abbrev pub parts : ℕ → ℕ → List ℕ
  parts first count = blocks_bytes g order moment first count

  pub length-made : (count first : ℕ) → length (parts first count) ≡ count * g.blocksize
  length-made count first = length-parts (made_block_bytes g order moment) g.blocksize (length-made_block g e order moment) count first

  -- the volume has room for them
  blocks_room : (first count : ℕ) → first + count ≤ top_block g + 1 → 0x3000 + first * g.blocksize + count * g.blocksize ≤ g.len4
  blocks_room first count within =
      let v = IsGeometry-keeps g e in
      let last = area_place-second g e in
      let few : (first + count) * g.blocksize ≤ g.num_blocks * g.blocksize = mul-le-mul_right g.blocksize (let up : first + count ≤ g.num_blocks = omega (arith, within, v.room) in up) in
      omega (arith, few, last)

  -- so has the device, where its length is told
  pub piece_told : (first count : ℕ) (piece : List ℕ) (len : Option ℕ) → piece ≡ parts first count → first + count ≤ top_block g + 1 → IfSome len (λ n. g.len4 ≤ n)
      → IfSome len (λ n. 0x3000 + first * g.blocksize + length piece ≤ n)
  piece_told first count piece len is within told =
      told_weaker len (λ n. g.len4 ≤ n) (λ n. 0x3000 + first * g.blocksize + length piece ≤ n)
      (λ n enough. omega (arith, blocks_room first count within, ap length is, length-made count first)) told

  module _ (bytes : List ℕ) (long : g.len4 ≤ length bytes) where
    -- the stage, and the bytes with so many blocks
    abbrev stage : Stage
    stage = blocks_stage g order moment bytes

    abbrev pub so_far : ℕ → List ℕ
    so_far count = put_at bytes 0x3000 (parts 0 count)

    -- none of them
    so_far-none : so_far 0 ≡ bytes
    so_far-none = put_none bytes 0x3000

    -- all of them
    so_far-all : so_far (top_block g + 1) ≡ after_stage stage
    unfolding all_block_bytes
    so_far-all = refl

    -- some more
    so_far-more : (first count : ℕ) → first + count ≤ top_block g + 1 → put_at (so_far first) (0x3000 + first * g.blocksize) (parts first count) ≡ so_far (first + count)
    so_far-more first count within =
        ap (λ (i : ℕ). put_at (so_far first) i (parts first count)) (let at : 0x3000 + first * g.blocksize ≡ 0x3000 + length (parts 0 first) = omega (arith, length-made first 0) in at)
        ∙ put_next bytes (parts 0 first) (parts first count) 0x3000 (omega (arith, blocks_room first count within))
        ∙ ap (λ (l : List ℕ). put_at bytes 0x3000 l) (ap (λ (x : ℕ). parts 0 first ++ parts x count) (let from : first ≡ 0 + first = omega arith in from) ∙ sym (parts_split (made_block_bytes g order moment) 0 first count))

    -- the length stays
    pub length-blocks : length (after_stage stage) ≡ length bytes
    unfolding all_block_bytes
    length-blocks = length_put bytes (parts 0 (top_block g + 1)) 0x3000 (length (parts 0 (top_block g + 1))) refl (omega (arith, length-made (top_block g + 1) 0, blocks_room 0 (top_block g + 1) (omega arith)))

    -- a piece is a part of the stage
    piece_part : (first count : ℕ) → first + count ≤ top_block g + 1 → IsPartOf stage.puts (0x3000 + first * g.blocksize) (parts first count)
    unfolding all_block_bytes
    piece_part first count within =
        IsPartOf-taken stage.puts (record { at = 0x3000; bytes = all_block_bytes g order moment }) (first * g.blocksize) (parts first count) (0, omega arith, refl)
        (let enough : (first + count) * g.blocksize ≤ (top_block g + 1) * g.blocksize = mul-le-mul_right g.blocksize within in
        omega (arith, length-made count first, length-made (top_block g + 1) 0, enough))
        (parts_within (made_block_bytes g order moment) g.blocksize (length-made_block g e order moment) first count (top_block g + 1) within)

    module _ where
      pub no_piece : (a : Outside) → HasBegun stage (so_far 0) a a
      no_piece a = subst (λ (now : List ℕ). HasBegun stage now a a) (sym so_far-none) (begin_stage stage a)

      pub one_piece : (first count : ℕ) (a b c : Outside) → first + count ≤ top_block g + 1
          → Did (wrote (0x3000 + first * g.blocksize) (parts first count) (parts first count) true) b c → Writes (0x3000 + first * g.blocksize) (parts first count) b c
          → HasBegun stage (so_far first) a b → HasBegun stage (so_far (first + count)) a c
      one_piece first count a b c within did writes begun =
          subst (λ (now : List ℕ). HasBegun stage now a c) (so_far-more first count within)
          (put_in_stage stage (0x3000 + first * g.blocksize) (parts first count) (so_far first) a b c (piece_part first count within)
          (omega (arith, blocks_room first count within, length-made count first)) did writes begun)

      module _ {T E : Type 0} where
        pub piece_fails : (result : Result T E) (first count : ℕ) (a b c : Outside) → IsErr result → first + count ≤ top_block g + 1
            → Writes (0x3000 + first * g.blocksize) (parts first count) b c → HasBegun stage (so_far first) a b → PutsAll stage result a c
        piece_fails result first count a b c err within writes begun =
            let p = fail_to_put stage result err (0x3000 + first * g.blocksize) (parts first count) (so_far first) a b c (piece_part first count within)
            (omega (arith, blocks_room first count within, length-made count first)) writes begun in
            record { reaches = p.reaches; ok = none_of_err stage result _ err; now = none_of_err stage result _ err; others = p.others }

        pub pieces_done : (x : T) (first : ℕ) (a b : Outside) → first ≡ top_block g + 1 → HasBegun stage (so_far first) a b → PutsAll {E = E} stage (Ok x) a b
        pieces_done x first a b all begun =
            let whole : HasBegun stage (after_stage stage) a b = subst (λ (now : List ℕ). HasBegun stage now a b) so_far-all (subst (λ (n : ℕ). HasBegun stage (so_far n) a b) all begun) in
            record { reaches = reaches_moves (IsAtRest bytes) (HasPut bytes stage.puts (after_stage stage)) (IsAtRest bytes) (Passes stage) a b whole.moves; ok = whole.moves; now = whole.bytes; others = whole.others }

      -- the sync behind them
      module _ {T E : Type 0} where
        begun_by : (x : T) (a b : Outside) → PutsAll {E = E} stage (Ok x) a b → HasBegun stage (after_stage stage) a b
        begun_by x a b p = record { moves = p.ok; bytes = p.now; others = p.others }

        pub blocks_sync_fails : (x : T) (result : Result T E) (a b c : Outside) → IsErr result → PutsAll {E = E} stage (Ok x) a b → Syncs b c → Performs stage result a c
        blocks_sync_fails x result a b c err p syncs = fail_to_sync stage result err a b c syncs (begun_by x a b p)

        pub blocks_done : (x y : T) (a b c : Outside) → PutsAll {E = E} stage (Ok x) a b → Did (synced true) b c → Syncs b c → Performs {E = E} stage (Ok y) a c
        blocks_done x y a b c p did syncs = end_stage stage y a b c did syncs (begun_by x a b p)
