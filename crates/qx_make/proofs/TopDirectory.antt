-- The root directory's rows, one after another.
use Rattle.std.proofs.Common.{◌≡◌, ℕ, ◌+◌, ◌-◌, ◌≤◌, List, [], ◌∷◌, ◌++◌, replicate, ap, sym, ◌∙◌, arith, lit≤}
use Rattle.std.proofs.lemmas.List.{replicate-append-replicate}
use Rattle.qx_bytes.proofs.Pieces.{Piece}
use Rattle.qx_fields.specs.declared.order.Order.{Order}
use Rattle.qx_records.specs.WrittenNames.{short_bytes}
use Rattle.qx_records.proofs.WrittenRecords.{length_short_bytes}

-- bytes 0, the first of them apart
pub blanks_from : (k n : ℕ) → k ≤ n → replicate {A = ℕ} n 0 ≡ replicate k 0 ++ replicate (n - k) 0
blanks_from k n low = sym (replicate-append-replicate k (n - k) 0 ∙ ap (λ (i : ℕ). replicate i 0) (let e : k + (n - k) ≡ n = omega arith in e))

-- the rows `.` and `..`
abbrev pub row_pieces : Order → List Piece
row_pieces order =
    record { wide = 32; bytes = short_bytes order 1 (46 ∷ []); long = length_short_bytes order 1 (46 ∷ []) (lit≤ tt) }
    ∷ record { wide = 32; bytes = short_bytes order 1 (46 ∷ 46 ∷ []); long = length_short_bytes order 1 (46 ∷ 46 ∷ []) (lit≤ tt) }
    ∷ []
