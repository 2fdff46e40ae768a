-- How often the walk of a whole tree reads: no more than an eighth as often as there are bytes in its blocks.
use Rattle.std.proofs.Common.{◌≡◌, ℕ, ◌+◌, ◌*◌, ◌/◌, ◌%◌, ◌-◌, ◌^◌, ◌≤◌, inl, inr, replicate, sym, ◌∙◌, ap, subst, arith}
use Rattle.std.specs.Prelude.{Result, Ok, Err, false, nat_lt, if◌then◌else◌}
use Rattle.std.proofs.lemmas.Bool.{cases_lt, le-ltb, lt-ltb}
use Rattle.std.proofs.lemmas.List.{length-replicate}
use Rattle.std.proofs.lemmas.List.Sums.{count_by-le-length}
use Rattle.std.proofs.Math.Nat.{mul-le-mul_left, mul-le-mul_right}
use Rattle.qx_blockset.specs.Members.{Members, count_of, limit_of}
use Rattle.qx_geom.specs.declared.root.Root.{Root}
use Rattle.qx_outside.specs.Outside.{Outside}
use Rattle.qx_pointers.specs.declared.halt.Halt.{Halt}
use Rattle.qx_pointers.specs.declared.halt.Halt.TheVariants as halts
use Rattle.qx_pointers.specs.declared.source.Shape.{Shape}
use Rattle.qx_pointers.specs.Shown.{Looks}
use Rattle.qx_view.specs.Images.{places_in}
use Rattle.qx_walk.proofs.LeafRecords.{block_sizes}
use Rattle.qx_tables.specs.declared.listing.Listing.{Listing}
use Rattle.qx_tables.specs.declared.table.InodeTable.{InodeTable}
use Rattle.qx_tables.specs.Tables.{IsListing, places_of}
use Rattle.qx_walk.proofs.StepsInOrder.{looks_as, looks_err, looks_then, same_error}
use Rattle.qx_walk.specs.declared.state.Seen.{Seen}
use Rattle.qx_walk.specs.declared.state.Way.{Way}
use Rattle.qx_walk.specs.Steps.{Carries, reads_of}

-- the most reads of a tree
abbrev pub tree_reads : Shape → ℕ
tree_reads shape = shape.count * (shape.blocksize / 8)

-- reads of so many blocks, and of a leaf for each of so many places
few_reads : (b n c p size : ℕ) → b % 32 ≡ 0 → 512 ≤ b → c ≤ n → p ≤ size / 128 → size ≤ n * b → (2 + b / 32) * c + p ≤ n * (b / 8)
few_reads b n c p size whole large few places room =
    let w : ℕ = b / 32 in
    let is : b ≡ 32 * w = omega (arith, whole) in
    let eighth : b / 8 ≡ 4 * w = omega (arith, is) in
    let all : n * b ≡ 32 * (n * w) = ap (λ z. n * z) is ∙ grind arith in
    let most : n * (b / 8) ≡ 4 * (n * w) = ap (λ z. n * z) eighth ∙ grind arith in
    let some : n * 16 ≤ n * w = mul-le-mul_left n (omega (arith, is, large)) in
    let less : c * w ≤ n * w = mul-le-mul_right w few in
    let parts : (2 + w) * c ≡ 2 * c + c * w = grind arith in
    omega (arith, all, most, some, less, parts, few, places, room)

-- an Inode tree has no more places than inodes below its size
places_few : (n : ℕ) → (if nat_lt n (2 ^ 32) then n else 2 ^ 32 - 1) ≤ n
places_few n = elim (cases_lt n (2 ^ 32)) [
  | inl low ↦ subst (λ b. (if b then n else 2 ^ 32 - 1) ≤ n) (sym (lt-ltb n (2 ^ 32) low)) (omega arith)
  | inr high ↦ subst (λ b. (if b then n else 2 ^ 32 - 1) ≤ n) (sym (le-ltb n (2 ^ 32) high)) (omega (arith, high))
]

module _ (shape : Shape) where
  -- the blocks that were met, and some leaves of them again
  pub above_few : (met : Members) (leaves : ℕ) → limit_of met ≡ shape.count → leaves ≤ count_of met → count_of met + leaves ≤ tree_reads shape
  above_few met leaves limit few =
      let sizes = block_sizes shape.blocksize shape.sized in
      let most : count_of met ≤ limit_of met = count_by-le-length (λ b. b) met in
      let all : (2 + shape.blocksize / 32) * count_of met + 0 ≤ tree_reads shape = few_reads shape.blocksize shape.count (count_of met) 0 0 sizes.0 sizes.1 (omega (arith, most, limit)) (omega arith) (omega arith) in
      let twice : 2 * count_of met ≤ (2 + shape.blocksize / 32) * count_of met = mul-le-mul_right (count_of met) (omega arith) in
      omega (arith, all, twice, few)

  -- all blocks that were met, and a leaf for each inode that was taken
  pub tree_few : (way : Way) (seen : Seen) (inodes : Root) → limit_of way.met ≡ shape.count → seen.listing.next ≤ places_in inodes → inodes.size ≤ shape.count * shape.blocksize → reads_of shape way seen ≤ tree_reads shape
  tree_few way seen inodes limit next room =
      let sizes = block_sizes shape.blocksize shape.sized in
      let most : count_of way.met ≤ limit_of way.met = count_by-le-length (λ b. b) way.met in
      let all : (2 + shape.blocksize / 32) * count_of way.met + seen.listing.next ≤ tree_reads shape = few_reads shape.blocksize shape.count (count_of way.met) seen.listing.next inodes.size sizes.0 sizes.1 (omega (arith, most, limit)) (omega (arith, next, places_few (inodes.size / 128))) room in
      omega (arith, all)

-- ---- one call after another

-- a halt, whatever an Ok would hold
abbrev halted : {T : Type 0} → Halt → Result T Halt
halted halt = Err halt

-- want of memory is no fault
pub no_memory : {T : Type 0} (halt : Halt) → halted {T = T} halt ≡ halted {T = T} halts.NoMemory → halted {T = T} halt ≡ halted {T = T} halts.Device → ⊥
no_memory halts.NoMemory e f = absurd (cc)
no_memory halts.Device e f = absurd (cc)
no_memory (halts.Finding finding) e f = absurd (cc)

-- a listing has no more inodes taken than there are places
pub taken_few : (places : ℕ) (l : Listing) → IsListing places l → l.next ≤ places
taken_few places l is =
    let few : count_of l.listed ≤ limit_of l.listed = count_by-le-length (λ b. b) l.listed in
    omega (arith, few, is.limit, is.counted, is.taken)

-- the blocks that were met in the first node are of the shape's
pub first_limit : (shape : Shape) (a b : Members) → a ≡ replicate shape.count false → limit_of b ≡ limit_of a → limit_of b ≡ shape.count
first_limit shape a b none limit = limit ∙ ap limit_of none ∙ length-replicate shape.count false

module _ (shape : Shape) where
  -- the first node was walked, and leaves of it were read again
  pub read_first : {T : Type 0} (a b : Members) (h i : Outside) (r : Result T Halt) → Looks halts.Device (2 * count_of a) (2 * count_of b) h i r → Looks halts.Device 0 (count_of b + count_of b) h i r
  read_first a b h i r p = looks_as halts.Device _ _ _ _ h i r r (omega arith) (λ e. e) (λ e. e) p

  -- a further node was walked
  pub read_next : {T U : Type 0} (b c : Members) (leaves : ℕ) (h i o : Outside) (x : T) (r : Result U Halt) → Looks halts.Device 0 (count_of b + leaves) h i (Ok x) → Looks halts.Device (count_of b) (count_of c) i o r
      → Looks halts.Device 0 (count_of c + leaves) h o r
  read_next b c leaves h i o x r p q = looks_then halts.Device _ _ _ _ _ _ h i o x r (omega arith) p q

  -- the walk halts at it
  pub read_halts : {T U : Type 0} (b : Members) (leaves : ℕ) (h i : Outside) (halt : Halt) → limit_of b ≡ shape.count → leaves ≤ count_of b
      → Looks {T = T} halts.Device 0 (count_of b + leaves) h i (Err halt) → Looks {T = U} halts.Device 0 (tree_reads shape) h i (Err halt)
  read_halts b leaves h i halt limit few p = looks_err halts.Device _ _ _ _ h i halt (omega (arith, above_few shape b leaves limit few)) p

  -- or at something else
  pub read_other : {T U V : Type 0} (b : Members) (leaves : ℕ) (h i : Outside) (x : T) (halt : Halt) → limit_of b ≡ shape.count → leaves ≤ count_of b → (halted {T = V} halt ≡ halted {T = V} halts.Device → ⊥)
      → Looks halts.Device 0 (count_of b + leaves) h i (Ok x) → Looks {T = U} halts.Device 0 (tree_reads shape) h i (Err halt)
  read_other {U = U} {V = V} b leaves h i x halt limit few other p =
      looks_as halts.Device _ _ _ _ h i (Ok x) (halted {T = U} halt) (omega (arith, above_few shape b leaves limit few)) (λ e. absurd (other (same_error {T = U} {U = V} halt halts.Device e))) (λ e. absurd (cc)) p

  -- the inodes were walked
  pub read_inodes : {T U : Type 0} (table : InodeTable) (u v : Way) (s t : Seen) (leaves : ℕ) (inodes : Root) (h i o : Outside) (x : T) (r : Result U Halt) → leaves ≤ count_of u.met → places_of table ≡ places_in inodes → inodes.size ≤ shape.count * shape.blocksize
      → Looks halts.Device 0 (count_of u.met + leaves) h i (Ok x) → Carries (record { shape = shape; table = table }) 0 u v s t i o r → Looks halts.Device 0 (tree_reads shape) h o r
  read_inodes table u v s t leaves inodes h i o x r few places room p q =
      let twice : 2 * count_of u.met ≤ (1 + (1 + shape.blocksize / 32)) * count_of u.met = mul-le-mul_right (count_of u.met) (omega arith) in
      let all : reads_of shape v t ≤ tree_reads shape = tree_few shape v t inodes q.met (omega (arith, places, taken_few _ t.listing q.listing)) room in
      looks_then halts.Device _ _ _ _ _ _ h i o x r (omega (arith, twice, all, few)) p q.looks
