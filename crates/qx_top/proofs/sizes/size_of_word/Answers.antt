use Rattle.std.proofs.Common.{◌≡◌, ◌∷◌, [], false, arith}
use Rattle.qx_top.specs.Sizes.{ends_in, size_of}
use Rattle.qx_top.proofs.SizeWords.{not_suffixed}
use Rattle.qx_top.proofs.sizes.size_of_word.Goals as goal

pub returns : goal.returns
unfolding size_of
returns c =
    let word = c.args.word.now in
    let k : ends_in word (75 ∷ []) ≡ false = not_suffixed 75 (omega arith) word c.strip_suffix.result c.strip_suffix.ensures.cases c.in_default.is in
    let m : ends_in word (77 ∷ []) ≡ false = not_suffixed 77 (omega arith) word c.strip_suffix-2.result c.strip_suffix-2.ensures.cases c.in_default-strip_suffix.is in
    let g : ends_in word (71 ∷ []) ≡ false = not_suffixed 71 (omega arith) word c.strip_suffix-3.result c.strip_suffix-3.ensures.cases c.in_default-strip_suffix-2.is in
    rw (k, m, g) c.units-2.ensures
