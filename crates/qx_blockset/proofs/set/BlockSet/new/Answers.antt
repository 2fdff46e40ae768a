use Rattle.std.proofs.Common.{rules, ◌≡◌, replicate, sym, ◌∙◌, ap, arith, length}
use Rattle.std.proofs.lemmas.List.{length-replicate}
use Rattle.qx_blockset.specs.Words.{in_words, members}
use Rattle.qx_blockset.specs.Members.{count_of}
use Rattle.qx_blockset.proofs.MembersInWords.{in_words-zero, members-zero, count-none}
use Rattle.qx_blockset.proofs.set.BlockSet.new.Goals as goal

pub invariant_of-result : goal.invariant_of-result
invariant_of-result c =
    let zeros : c.in_ok-words.words.items ≡ replicate c.div_ceil.result 0 = search rules in
    record {
      words = ap length zeros ∙ length-replicate c.div_ceil.result 0 ∙ omega (arith, c.div_ceil.ensures);
      clean = λ b _. ap (λ ws. in_words ws b) zeros ∙ in_words-zero c.div_ceil.result b;
      counted = sym (ap (λ ws. count_of (members ws c.args.limit)) zeros ∙ ap count_of (members-zero c.div_ceil.result c.args.limit) ∙ count-none c.args.limit);
    }

pub returns : goal.returns
returns c =
    let zeros : c.in_ok-words.words.items ≡ replicate c.div_ceil.result 0 = search rules in
    ap (λ ws. members ws c.args.limit) zeros ∙ members-zero c.div_ceil.result c.args.limit
