-- What a root node is written as, piece by piece, and that it is read back.
use Rattle.std.proofs.Common.{◌≡◌, ℕ, ◌+◌, ◌-◌, ◌*◌, ◌≤◌, List, [], ◌∷◌, length, replicate, drop, get_or, refl, ap, sym, ◌∙◌, arith, lit<, length-append}
use Rattle.std.specs.Prelude.{slice_range, slice_index}
use Rattle.std.proofs.lemmas.List.{get_or-take, get_or-drop}
use Rattle.qx_bytes.proofs.Pieces.{Piece, range_of_piece}
use Rattle.qx_fields.specs.declared.order.Order.{Order}
use Rattle.qx_fields.specs.Number.{digits, all_digits, field, fields}
use Rattle.qx_fields.proofs.Fields.{length_digits, length_all_digits, field_spelled, fields_spelled}
use Rattle.qx_geom.specs.declared.root.Root.{Root}
use Rattle.qx_super.specs.RootNode.{root_of, root_bytes, FitsRoot}

module _ (order : Order) (root : Root) (sixteen : length root.pointers ≡ 16) where
  -- size, pointers, levels, and mode and spare bytes
  abbrev pub root_pieces : List Piece
  root_pieces =
      record { wide = 8; bytes = digits order 8 root.size; long = length_digits order 8 root.size }
      ∷ record { wide = 64; bytes = all_digits order 4 root.pointers; long = length_all_digits order 4 root.pointers ∙ ap (λ (n : ℕ). 4 * n) sixteen }
      ∷ record { wide = 1; bytes = root.levels ∷ []; long = refl } ∷ record { wide = 7; bytes = replicate 7 0; long = refl } ∷ []

  pub length_root_bytes : length (root_bytes order root) ≡ 80
  unfolding root_bytes
  length_root_bytes =
      omega (arith, length-append {A = ℕ}, length_digits order 8 root.size, length_all_digits order 4 root.pointers)

-- the first of some bytes is that of a range
first_of_range : (bytes : List ℕ) (at : ℕ) (x : ℕ) → slice_range bytes at (at + 1) ≡ x ∷ [] → slice_index bytes at ≡ x
first_of_range bytes at x range =
    sym (get_or-drop at bytes 0 0 ∙ ap (λ (i : ℕ). get_or bytes i 0) (let e : at + 0 ≡ at = omega arith in e))
    ∙ sym (get_or-take (at + 1 - at) (drop at bytes) 0 0 (omega arith)) ∙ ap (λ (l : List ℕ). get_or l 0 0) range

-- a node that is written is read back
pub root_of-root_bytes : (order : Order) (root : Root) → FitsRoot root → root_of order (root_bytes order root) ≡ root
unfolding root_of root_bytes
root_of-root_bytes order root fits =
    let pieces = root_pieces order root fits.sixteen in
    let bytes = root_bytes order root in
    let size : field order 8 bytes 0 ≡ root.size = field_spelled order 8 root.size bytes 0 fits.size (range_of_piece 0 pieces [] (lit< tt)) in
    let room : 8 + 4 * 16 ≤ length bytes = omega (arith, length_root_bytes order root fits.sixteen) in
    let pointers : fields order 4 16 bytes 8 ≡ root.pointers = fields_spelled order 4 16 root.pointers bytes 8 fits.sixteen fits.pointers room (range_of_piece 1 pieces [] (lit< tt)) in
    let levels : slice_index bytes 72 ≡ root.levels = first_of_range bytes 72 root.levels (range_of_piece 2 pieces [] (lit< tt)) in
    rw (size, pointers, levels) refl
