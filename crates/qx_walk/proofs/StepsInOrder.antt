-- Steps of the walk, one after another.
use Rattle.std.proofs.Common.{◌≡◌, ℕ, ◌+◌, ◌*◌, ◌≤◌, sym, ◌∙◌, ap, subst, arith}
use Rattle.std.specs.Prelude.{Result, Ok, Err, length}
use Rattle.std.proofs.Math.Nat.{add-mul, mul-le-mul_right}
use Rattle.qx_blockset.specs.Members.{count_of, limit_of}
use Rattle.qx_outside.specs.Causes.{Rose}
use Rattle.qx_outside.specs.Outside.{Outside}
use Rattle.qx_pointers.proofs.ShownBlocks.{reads_more, reads_then}
use Rattle.qx_pointers.specs.declared.halt.Halt.{Halt}
use Rattle.qx_pointers.specs.declared.halt.Halt.TheVariants as halts
use Rattle.qx_pointers.specs.Halts.{Asks}
use Rattle.qx_pointers.specs.Shown.{JustReads, Looks, ReadsOnce}
use Rattle.qx_view.specs.declared.findings.Finding.{Finding}
use Rattle.qx_tables.specs.Tables.{AreInside, IsListing, places_of}
use Rattle.qx_walk.proofs.ListedInodes.{lists_same}
use Rattle.qx_walk.specs.declared.state.Ground.{Ground}
use Rattle.qx_walk.specs.declared.state.Seen.{Seen}
use Rattle.qx_walk.specs.declared.state.Way.{Way}
use Rattle.qx_walk.specs.Steps.{Carries, IsUnderway, Lists, leaf_reads, reads_of}

-- ---- what only looks

-- an error, whatever an Ok would hold
abbrev pub failed : {T E : Type 0} → E → Result T E
failed e = Err e

-- errors that are the same are so
pub same_error : {T U E : Type 0} (x y : E) → failed {T = T} x ≡ failed {T = T} y → failed {T = U} x ≡ failed {T = U} y
same_error {U = U} x y e = let same : x ≡ y = cc in ap (failed {T = U}) same

-- one look after another
pub looks_then : {T U E : Type 0} (fault : E) (j k l n from to : ℕ) (a b c : Outside) (x : T) (r : Result U E) → from + k + n ≤ j + l + to
    → Looks fault j k a b (Ok x) → Looks fault l n b c r → Looks fault from to a c r
looks_then fault j k l n from to a b c x r few p q =
    let stands : b.dev_faults ≡ a.dev_faults = p.cause.kept (λ e. absurd (cc)) in
    record {
      reads = reads_then j k l n from to a b c few p.reads q.reads;
      cause = record {
        later = omega (arith, p.cause.later, q.cause.later);
        failed = λ e. subst (λ n. Rose n c.dev_faults) stands (q.cause.failed e);
        kept = λ no. q.cause.kept no ∙ stands;
      };
    }

-- the same with room for more, and with another answer that has this error just where the first has it
pub looks_as : {T U E : Type 0} (fault : E) (j k from to : ℕ) (a b : Outside) (r : Result T E) (q : Result U E) → from + k ≤ j + to
    → (q ≡ Err fault → r ≡ Err fault) → (r ≡ Err fault → q ≡ Err fault) → Looks fault j k a b r → Looks fault from to a b q
looks_as fault j k from to a b r q few back on p = record {
  reads = reads_more j k from to a b few p.reads;
  cause = record { later = p.cause.later; failed = λ e. p.cause.failed (back e); kept = λ no. p.cause.kept (λ e. no (on e)) };
}

-- what an Ok holds isn't looked at
pub looks_ok : {T U E : Type 0} (fault : E) (j k from to : ℕ) (a b : Outside) (x : T) (y : U) → from + k ≤ j + to → Looks fault j k a b (Ok x) → Looks fault from to a b (Ok y)
looks_ok fault j k from to a b x y few p = looks_as fault j k from to a b (Ok x) (Ok y) few (λ e. absurd (cc)) (λ e. absurd (cc)) p

-- nor is what it would hold where there is an error
pub looks_err : {T U E : Type 0} (fault : E) (j k from to : ℕ) (a b : Outside) (e : E) → from + k ≤ j + to → Looks {T = T} fault j k a b (Err e) → Looks {T = U} fault from to a b (Err e)
looks_err {T = T} {U = U} fault j k from to a b e few p =
    looks_as {T = T} {U = U} fault j k from to a b (Err e) (Err e) few (same_error {T = U} {U = T} e fault) (same_error {T = T} {U = U} e fault) p

-- calls that read and didn't fail, and then a look
pub looks_after : {U E : Type 0} (fault : E) (k l n from to : ℕ) (a b c : Outside) (r : Result U E) → from + k + n ≤ l + to → JustReads 0 k a b → b.dev_faults ≡ a.dev_faults → Looks fault l n b c r → Looks fault from to a c r
looks_after fault k l n from to a b c r few p stands q = record {
  reads = reads_then 0 k l n from to a b c (omega (arith, few)) p q.reads;
  cause = record {
    later = omega (arith, stands, q.cause.later);
    failed = λ e. subst (λ n. Rose n c.dev_faults) stands (q.cause.failed e);
    kept = λ no. q.cause.kept no ∙ stands;
  };
}

-- ---- records

-- so many blocks that were met explain the reads of a node and of so many leaves with records
spent : (w leaves u v : ℕ) → leaves + u ≤ v → (1 + w) * u + v + leaves * w ≤ u + (1 + w) * v
spent w leaves u v few =
    let all : (leaves + u) * w ≤ v * w = mul-le-mul_right w few in
    let parts : (leaves + u) * w ≡ leaves * w + u * w = add-mul leaves u w in
    let old : (1 + w) * u ≡ u + u * w = grind arith in
    let new : (1 + w) * v ≡ v + v * w = grind arith in
    omega (arith, all, parts, old, new)

module _ (ground : Ground) where
  -- records, and then others
  pub lists_then : {T U : Type 0} (j k most : ℕ) (a b c : Seen) (h i o : Outside) (x : T) (r : Result U Halt) → j + k ≤ most
      → Lists ground j a b h i (Ok x) → Lists ground k b c i o r → Lists ground most a c h o r
  lists_then j k most a b c h i o x r few p q = record {
    inside = q.inside;
    listing = q.listing;
    listed = q.listed;
    next = q.next ∙ p.next;
    taken = q.taken ∙ p.taken;
    looks = looks_then halts.Device 0 j 0 k 0 most h i o x r (omega (arith, few)) p.looks q.looks;
  }

  -- what an Ok holds isn't looked at
  pub lists_ok : {T U : Type 0} (j most : ℕ) (a b : Seen) (h i : Outside) (x : T) (y : U) → j ≤ most → Lists ground j a b h i (Ok x) → Lists ground most a b h i (Ok y)
  lists_ok j most a b h i x y few p = record { inside = p.inside; listing = p.listing; listed = p.listed; next = p.next; taken = p.taken; looks = looks_ok halts.Device 0 j 0 most h i x y (omega (arith, few)) p.looks }

  -- nor is what it would hold at a halt
  pub lists_err : {T U : Type 0} (j most : ℕ) (a b : Seen) (h i : Outside) (halt : Halt) → j ≤ most → Lists {T = T} ground j a b h i (Err halt) → Lists {T = U} ground most a b h i (Err halt)
  lists_err j most a b h i halt few p = record { inside = p.inside; listing = p.listing; listed = p.listed; next = p.next; taken = p.taken; looks = looks_err halts.Device 0 j 0 most h i halt (omega (arith, few)) p.looks }

  -- a block was read, and then records were walked
  pub lists_read : {T U F : Type 0} (j most : ℕ) (a b : Seen) (h i o : Outside) (x : T) (r : Result U Halt) → 1 + j ≤ most → ReadsOnce {E = F} h i (Ok x) → Lists ground j a b i o r → Lists ground most a b h o r
  lists_read j most a b h i o x r few once p = record {
    inside = p.inside;
    listing = p.listing;
    listed = p.listed;
    next = p.next;
    taken = p.taken;
    looks = looks_after halts.Device 1 0 j 0 most h i o r (omega (arith, few)) once.reads once.cause.kept p.looks;
  }

  -- ---- inodes

  -- inodes, and then the next one of the list
  pub carries_then : {T U : Type 0} (u v w : Way) (a b t c : Seen) (h i o : Outside) (x : T) (r : Result U Halt) → t.listing.next ≡ b.listing.next + 1
      → Carries ground 0 u v a b h i (Ok x) → Carries ground 1 v w t c i o r → Carries ground 0 u w a c h o r
  carries_then u v w a b t c h i o x r one p q = record {
    met = q.met;
    inside = q.inside;
    listing = q.listing;
    listed = q.listed;
    looks = looks_then halts.Device (reads_of ground.shape u a) (reads_of ground.shape v b + 0) (reads_of ground.shape v t) (reads_of ground.shape w c + 1) (reads_of ground.shape u a) (reads_of ground.shape w c + 0) h i o x r (omega (arith, one)) p.looks q.looks;
  }

  -- the list has no more
  pub carries_last : {T U : Type 0} (u v : Way) (a b t : Seen) (h i : Outside) (x : T) (y : U) → t.longs ≡ b.longs → IsListing (places_of ground.table) t.listing → t.listing.queue.items ≡ b.listing.queue.items → t.listing.next ≡ b.listing.next
      → Carries ground 0 u v a b h i (Ok x) → Carries ground 0 u v a t h i (Ok y)
  carries_last u v a b t h i x y longs listing queue next p = record {
    met = p.met;
    inside = subst (AreInside ground.shape.count) (sym longs) p.inside;
    listing = listing;
    listed = lists_same ground b.listing t.listing queue p.listed;
    looks = looks_ok halts.Device _ _ _ _ h i x y (omega (arith, next)) p.looks;
  }

  -- what an Ok holds isn't looked at
  pub carries_ok : {T U : Type 0} (more : ℕ) (u v : Way) (a b : Seen) (h i : Outside) (x : T) (y : U) → Carries ground more u v a b h i (Ok x) → Carries ground more u v a b h i (Ok y)
  carries_ok more u v a b h i x y p = record { met = p.met; inside = p.inside; listing = p.listing; listed = p.listed; looks = looks_ok halts.Device _ _ _ _ h i x y (omega arith) p.looks }

  -- the node of an inode that was taken, and no records
  carries_node : {T U : Type 0} (u v : Way) (s : Seen) (h i : Outside) (r : Result T Halt) (q : Result U Halt) → (q ≡ Err halts.Device → r ≡ Err halts.Device) → (r ≡ Err halts.Device → q ≡ Err halts.Device)
      → IsUnderway ground u s h → limit_of v.met ≡ limit_of u.met → length v.leaves.items + count_of u.met ≤ count_of v.met
      → Looks halts.Device (count_of u.met) (count_of v.met + 1) h i r → Carries ground 1 u v s s h i q
  carries_node u v s h i r q back on is limit few p = record {
    met = limit ∙ is.met;
    inside = is.inside;
    listing = is.listing;
    listed = is.listed;
    looks = looks_as halts.Device _ _ _ _ h i r q (omega (arith, spent (leaf_reads ground.shape) 0 (count_of u.met) (count_of v.met) (omega (arith, few)))) back on p;
  }

  -- the walk halts at it
  pub carries_halt : {T U : Type 0} (u v : Way) (s : Seen) (h i : Outside) (halt : Halt) → IsUnderway ground u s h → limit_of v.met ≡ limit_of u.met → length v.leaves.items + count_of u.met ≤ count_of v.met
      → Looks {T = T} halts.Device (count_of u.met) (count_of v.met + 1) h i (Err halt) → Carries {T = U} ground 1 u v s s h i (Err halt)
  carries_halt {T = T} {U = U} u v s h i halt = carries_node u v s h i (failed {T = T} halt) (failed {T = U} halt) (same_error {T = U} {U = T} halt halts.Device) (same_error {T = T} {U = U} halt halts.Device)

  -- or goes on
  pub carries_walked : {T U : Type 0} (u v : Way) (s : Seen) (h i : Outside) (x : T) (y : U) → IsUnderway ground u s h → limit_of v.met ≡ limit_of u.met → length v.leaves.items + count_of u.met ≤ count_of v.met
      → Looks halts.Device (count_of u.met) (count_of v.met + 1) h i (Ok x) → Carries ground 1 u v s s h i (Ok y)
  carries_walked u v s h i x y = carries_node u v s h i (Ok x) (Ok y) (λ e. absurd (cc)) (λ e. absurd (cc))

  -- or finds something behind it
  pub carries_found : {T U : Type 0} (u v : Way) (s : Seen) (h i : Outside) (x : T) (finding : Finding) → IsUnderway ground u s h → limit_of v.met ≡ limit_of u.met → length v.leaves.items + count_of u.met ≤ count_of v.met
      → Looks halts.Device (count_of u.met) (count_of v.met + 1) h i (Ok x) → Carries {T = U} ground 1 u v s s h i (Err (halts.Finding finding))
  carries_found {U = U} u v s h i x finding = carries_node u v s h i (Ok x) (failed {T = U} (halts.Finding finding)) (λ e. absurd (cc)) (λ e. absurd (cc))

  -- and the records of a directory
  pub carries_directory : {T U : Type 0} (u v w : Way) (s t : Seen) (h i o : Outside) (x : T) (r : Result U Halt) → IsUnderway ground u s h → w.met ≡ v.met
      → limit_of v.met ≡ limit_of u.met → length v.leaves.items + count_of u.met ≤ count_of v.met
      → Looks halts.Device (count_of u.met) (count_of v.met + 1) h i (Ok x) → Lists ground (length v.leaves.items * leaf_reads ground.shape) s t i o r → Carries ground 1 u w s t h o r
  carries_directory u v w s t h i o x r is same limit few p q = record {
    met = ap limit_of same ∙ limit ∙ is.met;
    inside = q.inside;
    listing = q.listing;
    listed = q.listed;
    looks = looks_then halts.Device _ _ _ _ _ _ h i o x r (omega (arith, ap count_of same, ap (λ n. (1 + leaf_reads ground.shape) * count_of n) same, q.next, spent (leaf_reads ground.shape) (length v.leaves.items) (count_of u.met) (count_of v.met) few)) p q.looks;
  }

-- ---- parts that test nothing

-- one part after another, whatever an Ok holds in the end
pub asks_then : {T U V : Type 0} (j k most : ℕ) (a b c : Outside) (x : T) (y : U) (z : V) → j + k ≤ most → Asks j a b (Ok x) → Asks k b c (Ok y) → Asks most a c (Ok z)
asks_then j k most a b c x y z few p q = record {
  reads = reads_then 0 j 0 k 0 most a b c (omega (arith, few)) p.reads q.reads;
  cause = record { later = omega (arith, p.cause.later, q.cause.later); failed = tt; kept = q.cause.kept ∙ p.cause.kept };
  device = tt;
}

-- and where the second halts
pub asks_halt : {T U V : Type 0} (j k most : ℕ) (a b c : Outside) (x : T) (halt : Halt) → j + k ≤ most → Asks j a b (Ok x) → Asks {T = U} k b c (Err halt) → Asks {T = V} most a c (Err halt)
asks_halt {U = U} {V = V} j k most a b c x halt few p q = record {
  reads = reads_then 0 j 0 k 0 most a b c (omega (arith, few)) p.reads q.reads;
  cause = record { later = omega (arith, p.cause.later, q.cause.later); failed = subst (λ n. Rose n c.dev_faults) p.cause.kept q.cause.failed; kept = tt };
  device = same_error {T = U} {U = V} halt halts.Device q.device;
}

-- a part that tests nothing looks alone
pub asks_looks : {T : Type 0} (most : ℕ) (a b : Outside) (r : Result T Halt) → Asks most a b r → Looks halts.Device 0 most a b r
asks_looks most a b (Ok x) p = record { reads = p.reads; cause = record { later = p.cause.later; failed = λ e. absurd (cc); kept = λ no. p.cause.kept } }
asks_looks most a b (Err halt) p = record { reads = p.reads; cause = record { later = p.cause.later; failed = λ e. p.cause.failed; kept = λ no. absurd (no p.device) } }
