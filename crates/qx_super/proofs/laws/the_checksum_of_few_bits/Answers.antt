use Rattle.std.proofs.Common.{[], ◌∷◌, replicate, refl, ◌∙◌, sym, ap, append-nil}
use Rattle.qx_super.specs.Checksum.{shift, divided, checksum_of}
use Rattle.qx_super.proofs.LongDivision.{checksum_of-zeros, checksum_none}
use Rattle.qx_super.proofs.laws.the_checksum_of_few_bits.Goals as goal

pub returns-clause-zeros : goal.returns-clause-zeros
returns-clause-zeros c = ap checksum_of (sym (append-nil (replicate 504 0))) ∙ checksum_of-zeros 504 [] ∙ checksum_none

pub returns-clause-one : goal.returns-clause-one
unfolding shift divided checksum_of
returns-clause-one c = checksum_of-zeros 503 (1 ∷ []) ∙ refl

pub returns-clause-two : goal.returns-clause-two
unfolding shift divided checksum_of
returns-clause-two c = checksum_of-zeros 503 (2 ∷ []) ∙ refl
