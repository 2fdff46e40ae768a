-- What a superblock is written as, piece by piece, and that it is read back.
use Rattle.std.proofs.Common.{◌≡◌, ℕ, suc, ◌-◌, ◌<◌, Bool, true, List, [], ◌∷◌, ◌++◌, length, replicate, take, drop, Option, Some, None, Ok, Err, refl, ap, sym, ◌∙◌, lit<, eq-eqb, if◌then◌else◌}
use Rattle.std.specs.Prelude.{◌==◌, slice_range}
use Rattle.std.specs.List.{replace_range}
use Rattle.std.proofs.lemmas.List.{length-replicate}
use Rattle.qx_bytes.proofs.Pieces.{Piece, joined, joined-append, filled, bytes_of, place_of, drop_past, replace_past, range_of_piece, length-joined}
use Rattle.qx_fields.specs.declared.order.Order.{Order}
use Rattle.qx_fields.specs.declared.order.Order.TheVariants.{Little, Big}
use Rattle.qx_fields.specs.Number.{number, digits, all_digits, field}
use Rattle.qx_fields.proofs.Fields.{length_digits, length_all_digits, field_spelled}
use Rattle.qx_geom.specs.declared.root.Root.{Root}
use Rattle.qx_super.specs.Checksum.{checksum_of}
use Rattle.qx_super.specs.RootNode.{root_of, root_bytes}
use Rattle.qx_super.specs.Superblock.{Superblock, fields_in, order_of, fits_device, valid_in, superblock_of, has_checksum_in, has_right_checksum}
use Rattle.qx_super.specs.Written.{super_body, super_bytes, superblock_written, written_or_refused, FitsSuper}
use Rattle.qx_super.specs.declared.superblock.SuperFault.TheVariants.{Checksum, Geometry}
use Rattle.qx_super.specs.declared.writing.Super.{Super}
use Rattle.qx_super.proofs.LongDivision.{checksum_of-lt}
use Rattle.qx_super.proofs.ValidSuperblocks.{from_eight}
use Rattle.qx_super.proofs.WrittenRoots.{length_root_bytes, root_of-root_bytes}

-- a number of so many bytes
abbrev pub spelled : Order → ℕ → ℕ → Piece
spelled order n x = record { wide = n; bytes = digits order n x; long = length_digits order n x }

-- so many bytes 0
abbrev pub blank : ℕ → Piece
blank n = record { wide = n; bytes = replicate n 0; long = length-replicate n 0 }

-- a root node
abbrev pub node : (order : Order) (root : Root) → length root.pointers ≡ 16 → Piece
node order root sixteen = record { wide = 80; bytes = root_bytes order root; long = length_root_bytes order root sixteen }

module _ (s : Super) (inode : length s.inode.pointers ≡ 16) (bitmap : length s.bitmap.pointers ≡ 16) (longfile : length s.longfile.pointers ≡ 16) (fourth : length s.fourth.pointers ≡ 16) where
  -- the magic, this checksum, and all that follows it
  abbrev pub super_pieces : Piece → List Piece
  super_pieces sum =
      spelled s.order 4 0x68191122
      ∷ sum
      ∷ spelled s.order 8 s.serial
      ∷ spelled s.order 4 s.ctime
      ∷ spelled s.order 4 s.atime
      ∷ blank 4
      ∷ spelled s.order 2 s.version1
      ∷ blank 2
      ∷ blank 16
      ∷ spelled s.order 4 s.blocksize
      ∷ spelled s.order 4 s.num_inodes
      ∷ spelled s.order 4 s.free_inodes
      ∷ spelled s.order 4 s.num_blocks
      ∷ spelled s.order 4 s.free_blocks
      ∷ blank 4
      ∷ node s.order s.inode inode
      ∷ node s.order s.bitmap bitmap
      ∷ node s.order s.longfile longfile
      ∷ node s.order s.fourth fourth
      ∷ blank 120
      ∷ []

  -- the block size and the counts
  abbrev pub counts : List ℕ
  counts = s.blocksize ∷ s.num_inodes ∷ s.free_inodes ∷ s.num_blocks ∷ s.free_blocks ∷ []

  -- the same as it is put over bytes 0: the checksum last, the counts at once
  abbrev pub put_pieces : List Piece
  put_pieces =
      spelled s.order 4 0x68191122
      ∷ blank 4
      ∷ spelled s.order 8 s.serial
      ∷ spelled s.order 4 s.ctime
      ∷ spelled s.order 4 s.atime
      ∷ blank 4
      ∷ spelled s.order 2 s.version1
      ∷ blank 2
      ∷ blank 16
      ∷ record { wide = 20; bytes = all_digits s.order 4 counts; long = length_all_digits s.order 4 counts }
      ∷ blank 4
      ∷ node s.order s.inode inode
      ∷ node s.order s.bitmap bitmap
      ∷ node s.order s.longfile longfile
      ∷ node s.order s.fourth fourth
      ∷ []

  -- what was put is what a superblock has, but for its checksum
  pub filled-all : filled 15 put_pieces (replicate 512 0) ≡ digits s.order 4 0x68191122 ++ (replicate 4 0 ++ super_body s)
  unfolding super_body
  filled-all =
      let five = spelled s.order 4 s.blocksize ∷ spelled s.order 4 s.num_inodes ∷ spelled s.order 4 s.free_inodes ∷ spelled s.order 4 s.num_blocks ∷ spelled s.order 4 s.free_blocks ∷ [] in
      let roots = root_bytes s.order s.inode ++ (root_bytes s.order s.bitmap ++ (root_bytes s.order s.longfile ++ (root_bytes s.order s.fourth ++ replicate 120 0))) in
      ap (λ (l : List ℕ). digits s.order 4 0x68191122 ++ (replicate 4 0 ++ (digits s.order 8 s.serial ++ (digits s.order 4 s.ctime ++ (digits s.order 4 s.atime ++ (replicate 4 0 ++ (digits s.order 2 s.version1 ++ (replicate 2 0 ++ (replicate 16 0 ++ l)))))))))
      (joined-append five (replicate 4 0 ++ roots))

  pub super_bytes-is : super_bytes s ≡ joined (super_pieces (spelled s.order 4 (checksum_of (super_body s)))) []
  unfolding super_bytes super_body
  super_bytes-is = refl

-- the order in which the magic was put
order_of-magic : (order : Order) (bytes : List ℕ) → slice_range bytes 0 4 ≡ digits order 4 0x68191122 → order_of bytes ≡ Some order
unfolding order_of field
order_of-magic Little bytes e = ap (λ (l : List ℕ). if number Little 4 l == 0x68191122 then Some Little else (if number Big 4 l == 0x68191122 then Some Big else None)) e
order_of-magic Big bytes e = ap (λ (l : List ℕ). if number Little 4 l == 0x68191122 then Some Little else (if number Big 4 l == 0x68191122 then Some Big else None)) e

module _ (s : Super) (fits : FitsSuper s) where
  abbrev bytes : List ℕ
  bytes = super_bytes s

  abbrev pieces : List Piece
  pieces = super_pieces s fits.inode.sixteen fits.bitmap.sixteen fits.longfile.sixteen fits.fourth.sixteen (spelled s.order 4 (checksum_of (super_body s)))

  -- the bytes of a piece
  range : (k : ℕ) → k < 20 → slice_range bytes (place_of k pieces) (place_of (suc k) pieces) ≡ bytes_of k pieces
  range k within =
      ap (λ (l : List ℕ). slice_range l (place_of k pieces) (place_of (suc k) pieces)) (super_bytes-is s fits.inode.sixteen fits.bitmap.sixteen fits.longfile.sixteen fits.fourth.sixteen)
      ∙ range_of_piece k pieces [] within

  -- what was written is what the fields say
  fields_written : fields_in s.order bytes ≡ superblock_written s
  fields_written =
      let serial : field s.order 8 bytes 8 ≡ s.serial = field_spelled s.order 8 s.serial bytes 8 fits.serial (range 2 (lit< tt)) in
      let ctime : field s.order 4 bytes 16 ≡ s.ctime = field_spelled s.order 4 s.ctime bytes 16 fits.ctime (range 3 (lit< tt)) in
      let atime : field s.order 4 bytes 20 ≡ s.atime = field_spelled s.order 4 s.atime bytes 20 fits.atime (range 4 (lit< tt)) in
      let version1 : field s.order 2 bytes 28 ≡ s.version1 = field_spelled s.order 2 s.version1 bytes 28 fits.version1 (range 6 (lit< tt)) in
      let volume_id : slice_range bytes 32 48 ≡ replicate 16 0 = range 8 (lit< tt) in
      let blocksize : field s.order 4 bytes 48 ≡ s.blocksize = field_spelled s.order 4 s.blocksize bytes 48 fits.blocksize (range 9 (lit< tt)) in
      let num_inodes : field s.order 4 bytes 52 ≡ s.num_inodes = field_spelled s.order 4 s.num_inodes bytes 52 fits.num_inodes (range 10 (lit< tt)) in
      let free_inodes : field s.order 4 bytes 56 ≡ s.free_inodes = field_spelled s.order 4 s.free_inodes bytes 56 fits.free_inodes (range 11 (lit< tt)) in
      let num_blocks : field s.order 4 bytes 60 ≡ s.num_blocks = field_spelled s.order 4 s.num_blocks bytes 60 fits.num_blocks (range 12 (lit< tt)) in
      let free_blocks : field s.order 4 bytes 64 ≡ s.free_blocks = field_spelled s.order 4 s.free_blocks bytes 64 fits.free_blocks (range 13 (lit< tt)) in
      let inode : root_of s.order (slice_range bytes 72 152) ≡ s.inode = ap (λ (l : List ℕ). root_of s.order l) (range 15 (lit< tt)) ∙ root_of-root_bytes s.order s.inode fits.inode in
      let bitmap : root_of s.order (slice_range bytes 152 232) ≡ s.bitmap = ap (λ (l : List ℕ). root_of s.order l) (range 16 (lit< tt)) ∙ root_of-root_bytes s.order s.bitmap fits.bitmap in
      let longfile : root_of s.order (slice_range bytes 232 312) ≡ s.longfile = ap (λ (l : List ℕ). root_of s.order l) (range 17 (lit< tt)) ∙ root_of-root_bytes s.order s.longfile fits.longfile in
      let fourth : root_of s.order (slice_range bytes 312 392) ≡ s.fourth = ap (λ (l : List ℕ). root_of s.order l) (range 18 (lit< tt)) ∙ root_of-root_bytes s.order s.fourth fits.fourth in
      rw (serial, ctime, atime, version1, volume_id, blocksize, num_inodes, free_inodes, num_blocks, free_blocks, inode, bitmap, longfile, fourth) refl

  -- what follows the checksum
  body_behind : drop 8 bytes ≡ super_body s
  unfolding super_bytes
  body_behind = drop_past (spelled s.order 4 0x68191122) (digits s.order 4 (checksum_of (super_body s)) ++ super_body s) 4 ∙ drop_past (spelled s.order 4 (checksum_of (super_body s))) (super_body s) 0

  -- the checksum is right
  sum_written : field s.order 4 bytes 4 ≡ checksum_of (drop 8 bytes)
  sum_written =
      field_spelled s.order 4 (checksum_of (super_body s)) bytes 4 (checksum_of-lt (super_body s)) (range 1 (lit< tt)) ∙ ap checksum_of (sym body_behind)

  -- a superblock that is written is read back
  pub superblock_of-super_bytes : (len : ℕ) → superblock_of bytes len ≡ written_or_refused s len
  superblock_of-super_bytes len =
      ap (λ (o : Option Order). valid_in o bytes len) (order_of-magic s.order bytes (range 0 (lit< tt)))
      ∙ ap (λ (b : Bool). if b then (if fits_device (fields_in s.order bytes) len then Ok (fields_in s.order bytes) else Err Geometry) else Err Checksum) (eq-eqb (field s.order 4 bytes 4) (checksum_of (drop 8 bytes)) sum_written)
      ∙ ap (λ (b : Superblock). if fits_device b len then Ok b else Err Geometry) fields_written

  pub checksum_written : has_right_checksum bytes ≡ true
  checksum_written =
      ap (λ (o : Option Order). has_checksum_in o bytes) (order_of-magic s.order bytes (range 0 (lit< tt)))
      ∙ eq-eqb (field s.order 4 bytes 4) (checksum_of (drop 8 bytes)) sum_written

  pub length_super_bytes : length bytes ≡ 512
  length_super_bytes =
      ap length (super_bytes-is s fits.inode.sixteen fits.bitmap.sixteen fits.longfile.sixteen fits.fourth.sixteen) ∙ length-joined pieces []

-- the checksum over what was put makes it the superblock
pub super_bytes-put : (s : Super) (filled_in : List ℕ) (sum : ℕ) → filled_in ≡ digits s.order 4 0x68191122 ++ (replicate 4 0 ++ super_body s)
    → sum ≡ checksum_of (take (length filled_in - 8) (drop 8 filled_in)) → replace_range filled_in 4 8 (digits s.order 4 sum) ≡ super_bytes s
unfolding super_bytes
super_bytes-put s filled_in sum whole summed =
    let magic = spelled s.order 4 0x68191122 in
    let body : take (length filled_in - 8) (drop 8 filled_in) ≡ super_body s =
    from_eight filled_in ∙ ap (λ (l : List ℕ). drop 8 l) whole ∙ drop_past magic (replicate 4 0 ++ super_body s) 4 in
    ap (λ (l : List ℕ). replace_range l 4 8 (digits s.order 4 sum)) whole
    ∙ replace_past magic (replicate 4 0 ++ super_body s) (digits s.order 4 sum) 0 4
    ∙ ap (λ (n : ℕ). digits s.order 4 0x68191122 ++ (digits s.order 4 n ++ super_body s)) (summed ∙ ap checksum_of body)
