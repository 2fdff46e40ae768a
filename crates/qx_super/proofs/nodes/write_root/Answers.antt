use Rattle.std.proofs.Common.{◌≡◌, ◌*◌, ◌+◌, ◌++◌, ℕ, List, length, replicate, set, ap, ◌∙◌, arith, rules, lit<, lit≤}
use Rattle.std.specs.List.{replace_range}
use Rattle.std.proofs.lemmas.List.{set-append_right}
use Rattle.qx_bytes.proofs.Pieces.{filled, fill_next}
use Rattle.qx_fields.specs.Number.{digits, all_digits, put_field, put_fields}
use Rattle.qx_fields.proofs.Fields.{length_digits, length_all_digits}
use Rattle.qx_super.specs.RootNode.{root_bytes, root_of}
use Rattle.qx_super.proofs.WrittenRoots.{root_pieces, root_of-root_bytes}
use Rattle.qx_super.proofs.nodes.write_root.Goals as goal

pub returns-clause-bytes : goal.returns-clause-bytes
unfolding root_bytes put_field put_fields
returns-clause-bytes c =
    let root = c.args.root.now in
    let order = c.args.order in
    let sixteen : length root.pointers ≡ 16 = omega arith in
    let pieces = root_pieces order root sixteen in
    let size = digits order 8 root.size in
    let pointers = all_digits order 4 root.pointers in
    let zeros : c.fill.new.self ≡ replicate 80 0 = search rules in
    let one : c.put64.new.into ≡ filled 1 pieces (replicate 80 0) = fill_next 0 pieces (replicate 80 0) _ _ (lit< tt) zeros c.put64.ensures in
    let end : 8 + 4 * length root.pointers ≡ 72 = omega arith in
    let two : c.put32s.new.into ≡ filled 2 pieces (replicate 80 0) =
    fill_next 1 pieces (replicate 80 0) _ _ (lit< tt) one (c.put32s.ensures.bytes ∙ ap (λ (n : ℕ). replace_range c.put64.new.into 8 n pointers) end) in
    ap (λ (l : List ℕ). set l 72 root.levels) two
    ∙ set-append_right size (pointers ++ replicate 8 0) 8 72 root.levels (length_digits order 8 root.size) (lit≤ tt)
    ∙ ap (λ (l : List ℕ). size ++ l) (set-append_right pointers (replicate 8 0) 64 64 root.levels (length_all_digits order 4 root.pointers ∙ ap (λ (n : ℕ). 4 * n) sixteen) (lit≤ tt))

pub returns-clause-fits : goal.returns-clause-fits
returns-clause-fits c = record { size = omega arith; sixteen = omega arith; pointers = c.put32s.ensures.fit }

pub returns-clause-read_back : goal.returns-clause-read_back
returns-clause-read_back c =
    ap (λ (l : List ℕ). root_of c.args.order l) (returns-clause-bytes c) ∙ root_of-root_bytes c.args.order c.args.root.now (returns-clause-fits c)
