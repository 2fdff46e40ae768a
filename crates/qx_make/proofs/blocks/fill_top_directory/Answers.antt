use Rattle.std.proofs.Common.{◌≡◌, ℕ, ◌-◌, ◌++◌, List, replicate, take, drop, length, ◌∙◌, lit<}
use Rattle.qx_bytes.proofs.Pieces.{filled, fill_part}
use Rattle.qx_make.specs.Blocks.{top_directory_bytes}
use Rattle.qx_make.proofs.TopDirectory.{blanks_from, row_pieces}
use Rattle.qx_make.proofs.blocks.fill_top_directory.Goals as goal

pub returns : goal.returns
unfolding top_directory_bytes
returns c =
    let pieces = row_pieces c.args.order in
    let n : ℕ = length c.args.into.now in
    let blanks : List ℕ = replicate 64 0 ++ replicate (n - 64) 0 in
    let zeros : c.fill.new.self ≡ blanks = c.fill.ensures.after (λ y e. cc) ∙ blanks_from 64 n c.requires in
    let with_dot = take 0 c.fill.new.self ++ (c.write_short.new.into ++ drop 32 (drop 0 c.fill.new.self)) in
    let dot : with_dot ≡ filled 1 pieces blanks = fill_part 0 pieces blanks _ _ (lit< tt) zeros c.write_short.ensures.bytes in
    fill_part 1 pieces blanks _ _ (lit< tt) dot c.write_short-2.ensures.bytes
