use Rattle.std.proofs.Common.{◌≡◌, ◌+◌, ◌/◌, ◌∙◌, sym, ap, length, arith}
use Rattle.qx_blockset.specs.Words.{in_words, members}
use Rattle.qx_blockset.specs.Members.{count_of}
use Rattle.qx_blockset.proofs.MembersInWords.{same-limit}
use Rattle.qx_blockset.proofs.set.BlockSet.copy_from.Goals as goal

pub copy_from_slice-requires : goal.copy_from_slice-requires
copy_from_slice-requires c =
    let same : c.self.inside.limit ≡ c.other.inside.limit = same-limit c.self.inside c.other.inside c.args.self.now c.args.other.now c.self.view_is c.other.view_is c.requires in
    omega (arith, c.self.invariant.words, c.other.invariant.words, c.deref.ensures.len, c.self.inside.words.ok.0, c.other.inside.words.ok.0, ap length c.deref.ensures.value, same)

pub invariant_of-self : goal.invariant_of-self
invariant_of-self c =
    let same : c.self.inside.limit ≡ c.other.inside.limit = same-limit c.self.inside c.other.inside c.args.self.now c.args.other.now c.self.view_is c.other.view_is c.requires in
    let words : c.copy_from_slice.new.self.items ≡ c.other.inside.words.items = c.copy_from_slice.ensures.items ∙ c.deref.ensures.value in
    record {
      words = ap length words ∙ c.other.invariant.words ∙ ap (λ n. (n + 63) / 64) (sym same);
      clean = λ b high. ap (λ ws. in_words ws b) words ∙ c.other.invariant.clean b (omega arith);
      counted = c.other.invariant.counted ∙ sym (λ i. count_of (members (words i) (same i)));
    }

pub returns : goal.returns
returns c =
    let same : c.self.inside.limit ≡ c.other.inside.limit = same-limit c.self.inside c.other.inside c.args.self.now c.args.other.now c.self.view_is c.other.view_is c.requires in
    let words : c.copy_from_slice.new.self.items ≡ c.other.inside.words.items = c.copy_from_slice.ensures.items ∙ c.deref.ensures.value in
    (λ i. members (words i) (same i)) ∙ c.other.view_is
