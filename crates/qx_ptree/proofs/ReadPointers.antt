-- The pointers that are read from a block are the words of it.
use Rattle.std.proofs.Common.{◌≡◌, ◌≢◌, ℕ, ◌+◌, ◌*◌, ◌<◌, List, sym, ◌∙◌, ap, subst, arith}
use Rattle.std.specs.Prelude.{◌==◌, if◌then◌else◌, slice_index, IsTrue}
use Rattle.std.proofs.lemmas.Bool.{ne_eqb}
use Rattle.std.proofs.lemmas.List.FromFn.{get_or-map-range_with_len}
use Rattle.qx_fields.specs.declared.order.Order.{Order}
use Rattle.qx_fields.specs.Number.{field, fields}
use Rattle.qx_geom.specs.Pointer.{absent}
use Rattle.qx_nodes.specs.BlockMap.{word}
use Rattle.qx_blocks.specs.BlockState.{BlockState}
use Rattle.qx_blocks.specs.Calls.{Keeps}
use Rattle.qx_ptree.specs.Trees.{Leads, block_map}

-- number w of those that are read
pub read_word_at : (order : Order) (m : BlockState) (p n w : ℕ) (bytes : List ℕ) → bytes ≡ m.bytes p → w < n → slice_index (fields order 4 n bytes 0) w ≡ word (block_map order m) p w
unfolding fields
read_word_at order m p n w bytes is low =
    let at : 0 + 4 * w ≡ 4 * w = omega arith in
    get_or-map-range_with_len (λ k. field order 4 bytes (0 + 4 * k)) 0 n w w 0 low (omega arith) ∙ (λ i. field order 4 (is i) (at i))

-- so each is the word of the block to which the pointer leads
pub words_after : (order : Order) (old mid : BlockState) (p lead n : ℕ) (bytes into : List ℕ) → Keeps old mid → lead ≢ absent → (Leads old p → lead ≡ p) → (IsTrue old.tells → Leads old p)
    → (IsTrue mid.tells → bytes ≡ old.bytes lead) → into ≡ fields order 4 n bytes 0
    → IsTrue mid.tells → (w : ℕ) → w < n → slice_index into w ≡ (if p == absent then absent else word (block_map order old) p w)
words_after order old mid p lead n bytes into keeps there same leads bytes_are is told w low =
    let lead_is : lead ≡ p = same (leads (subst (λ x. IsTrue x.tells) (keeps.told told) told)) in
    let here : p ≢ absent = λ e. there (lead_is ∙ e) in
    ap (λ xs. slice_index xs w) is ∙ read_word_at order old lead n w bytes (bytes_are told) low ∙ ap (λ q. word (block_map order old) q w) lead_is
    ∙ sym (ap (λ b. if b then absent else word (block_map order old) p w) (ne_eqb p absent here))
