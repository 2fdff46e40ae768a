-- What an inode is written as, piece by piece, and that it is read back.
use Rattle.std.proofs.Common.{◌≡◌, ℕ, suc, ◌+◌, ◌*◌, ◌<◌, ◌≤◌, List, [], ◌∷◌, ◌++◌, length, replicate, refl, ap, ◌∙◌, arith, lit<}
use Rattle.std.specs.Prelude.{slice_range, slice_index}
use Rattle.qx_bytes.proofs.Pieces.{Piece, joined, joined-append, filled, place_of, bytes_of, length-joined, range_of_piece, byte_of_range}
use Rattle.qx_fields.specs.declared.order.Order.{Order}
use Rattle.qx_fields.specs.Number.{digits, all_digits, field, fields}
use Rattle.qx_fields.proofs.Fields.{length_all_digits, field_spelled, fields_spelled}
use Rattle.qx_records.specs.declared.inode.Inode.{Inode}
use Rattle.qx_records.specs.InodeRecord.{inode_in}
use Rattle.qx_records.specs.WrittenInode.{inode_bytes, FitsInode}
use Rattle.qx_records.proofs.WrittenRecords.{spelled, single, blank}

module _ (order : Order) (inode : Inode) (sixteen : length inode.root.pointers ≡ 16) where
  -- the sixteen pointers
  abbrev pub pointers : Piece
  pointers = record { wide = 64; bytes = all_digits order 4 inode.root.pointers; long = length_all_digits order 4 inode.root.pointers ∙ ap (λ (n : ℕ). 4 * n) sixteen }

  abbrev pub inode_pieces : List Piece
  inode_pieces =
      spelled order 8 inode.root.size
      ∷ spelled order 4 inode.uid
      ∷ spelled order 4 inode.gid
      ∷ spelled order 4 inode.ftime
      ∷ spelled order 4 inode.mtime
      ∷ spelled order 4 inode.atime
      ∷ spelled order 4 inode.ctime
      ∷ spelled order 2 inode.mode
      ∷ spelled order 2 inode.ext_mode
      ∷ pointers
      ∷ single inode.root.levels
      ∷ single inode.status
      ∷ blank 26
      ∷ []

  -- the owners and the times
  abbrev pub words : List ℕ
  words = inode.uid ∷ inode.gid ∷ inode.ftime ∷ inode.mtime ∷ inode.atime ∷ inode.ctime ∷ []

  -- the same as it is put over bytes 0: owners and times at once
  abbrev pub put_pieces : List Piece
  put_pieces =
      spelled order 8 inode.root.size
      ∷ record { wide = 24; bytes = all_digits order 4 words; long = length_all_digits order 4 words }
      ∷ spelled order 2 inode.mode
      ∷ spelled order 2 inode.ext_mode
      ∷ pointers
      ∷ single inode.root.levels
      ∷ single inode.status
      ∷ []

  -- what was put is what an inode has
  pub filled-all : filled 7 put_pieces (replicate 128 0) ≡ inode_bytes order inode
  unfolding inode_bytes
  filled-all =
      let six = spelled order 4 inode.uid ∷ spelled order 4 inode.gid ∷ spelled order 4 inode.ftime ∷ spelled order 4 inode.mtime ∷ spelled order 4 inode.atime ∷ spelled order 4 inode.ctime ∷ [] in
      let rest = digits order 2 inode.mode ++ (digits order 2 inode.ext_mode ++ (all_digits order 4 inode.root.pointers ++ ((inode.root.levels ∷ []) ++ ((inode.status ∷ []) ++ replicate 26 0)))) in
      ap (λ (l : List ℕ). digits order 8 inode.root.size ++ l) (joined-append six rest)

  pub inode_bytes-is : inode_bytes order inode ≡ joined inode_pieces []
  unfolding inode_bytes
  inode_bytes-is = refl

  pub length_inode_bytes : length (inode_bytes order inode) ≡ 128
  length_inode_bytes = ap (λ (l : List ℕ). length l) inode_bytes-is ∙ length-joined inode_pieces []

module _ (order : Order) (inode : Inode) (fits : FitsInode inode) where
  abbrev bytes : List ℕ
  bytes = inode_bytes order inode

  abbrev pieces : List Piece
  pieces = inode_pieces order inode fits.sixteen

  -- the bytes of a piece
  range : (k : ℕ) → k < 13 → slice_range bytes (place_of k pieces) (place_of (suc k) pieces) ≡ bytes_of k pieces
  range k within =
      ap (λ (l : List ℕ). slice_range l (place_of k pieces) (place_of (suc k) pieces)) (inode_bytes-is order inode fits.sixteen)
      ∙ range_of_piece k pieces [] within

  -- an inode that is written is read back
  pub inode_in-inode_bytes : inode_in order bytes ≡ inode
  unfolding inode_in
  inode_in-inode_bytes =
      let size : field order 8 bytes 0 ≡ inode.root.size = field_spelled order 8 inode.root.size bytes 0 fits.size (range 0 (lit< tt)) in
      let uid : field order 4 bytes 8 ≡ inode.uid = field_spelled order 4 inode.uid bytes 8 fits.uid (range 1 (lit< tt)) in
      let gid : field order 4 bytes 12 ≡ inode.gid = field_spelled order 4 inode.gid bytes 12 fits.gid (range 2 (lit< tt)) in
      let ftime : field order 4 bytes 16 ≡ inode.ftime = field_spelled order 4 inode.ftime bytes 16 fits.ftime (range 3 (lit< tt)) in
      let mtime : field order 4 bytes 20 ≡ inode.mtime = field_spelled order 4 inode.mtime bytes 20 fits.mtime (range 4 (lit< tt)) in
      let atime : field order 4 bytes 24 ≡ inode.atime = field_spelled order 4 inode.atime bytes 24 fits.atime (range 5 (lit< tt)) in
      let ctime : field order 4 bytes 28 ≡ inode.ctime = field_spelled order 4 inode.ctime bytes 28 fits.ctime (range 6 (lit< tt)) in
      let mode : field order 2 bytes 32 ≡ inode.mode = field_spelled order 2 inode.mode bytes 32 fits.mode (range 7 (lit< tt)) in
      let ext_mode : field order 2 bytes 34 ≡ inode.ext_mode = field_spelled order 2 inode.ext_mode bytes 34 fits.ext_mode (range 8 (lit< tt)) in
      let room : 36 + 4 * 16 ≤ length bytes = omega (arith, length_inode_bytes order inode fits.sixteen) in
      let pointers_read : fields order 4 16 bytes 36 ≡ inode.root.pointers = fields_spelled order 4 16 inode.root.pointers bytes 36 fits.sixteen fits.pointers room (range 9 (lit< tt)) in
      let levels : slice_index bytes 100 ≡ inode.root.levels = byte_of_range bytes 100 inode.root.levels (range 10 (lit< tt)) in
      let status : slice_index bytes 101 ≡ inode.status = byte_of_range bytes 101 inode.status (range 11 (lit< tt)) in
      rw (size, uid, gid, ftime, mtime, atime, ctime, mode, ext_mode, pointers_read, levels, status) refl
