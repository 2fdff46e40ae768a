-- How often a whole image is read: twice for its areas, and no more often than there are bytes before its second area.
use Rattle.std.proofs.Common.{◌≡◌, ℕ, ◌+◌, ◌*◌, ◌/◌, ◌≤◌, Option, Some, None, refl, sym, ◌∙◌, ap, subst, arith}
use Rattle.std.specs.Prelude.{IfSome, IsTrue, Result, Ok, Err, is_some, unwrap_or}
use Rattle.std.specs.Option.{option_map}
use Rattle.std.proofs.Math.Nat.{mul-le-mul_left}
use Rattle.qx_outside.specs.Calls.{Idles, LeavesConsole, ReadsAtMost}
use Rattle.qx_outside.specs.Causes.{StaysWhereTold}
use Rattle.qx_outside.specs.Outside.{Outside}
use Rattle.qx_pointers.proofs.ShownBlocks.{reads_more}
use Rattle.qx_pointers.specs.declared.halt.Halt.{Halt}
use Rattle.qx_pointers.specs.declared.halt.Halt.TheVariants as halts
use Rattle.qx_geom.specs.Layout.{is_block_size}
use Rattle.qx_view.specs.declared.findings.Finding.{Finding}
use Rattle.qx_pointers.specs.Shown.{JustReads, Looks}
use Rattle.qx_super.specs.Superblock.{Superblock, second_place_of}
use Rattle.qx_walk.specs.declared.survey.WalkFault.{WalkFault}
use Rattle.qx_walk.specs.declared.survey.WalkFault.TheVariants as faults
use Rattle.qx_walk.proofs.LeafRecords.{block_sizes}
use Rattle.qx_walk.specs.Surveys.{fault_of}

-- the reads of the tree and of the system blocks are no more than bytes
pub survey_few : (s : Superblock) (size count len : ℕ) → IsTrue (is_block_size s.blocksize) → size ≡ s.blocksize → count ≡ s.num_blocks → second_place_of s + 512 ≤ len → count * (size / 8) + 5 * count ≤ len
survey_few s size count len sized b n room =
    let sizes = block_sizes s.blocksize sized in
    let few : count * (size / 8 + 5) ≤ count * size = mul-le-mul_left count (omega (arith, sizes, b)) in
    let parts : count * (size / 8 + 5) ≡ count * (size / 8) + 5 * count = grind arith in
    let same : count * size ≡ s.num_blocks * s.blocksize = λ i. n i * b i in
    omega (arith, few, parts, same, room)

-- ---- the areas

-- so many reads more, where reads are counted
counted_more : (k : ℕ) (o : Option ℕ) → (is_some (option_map (λ n. n + k) o) ≡ is_some o) × (unwrap_or (option_map (λ n. n + k) o) 0 ≤ unwrap_or o 0 + k)
counted_more k None = (refl, omega arith)
counted_more k (Some n) = (refl, omega arith)

-- calls that read so often at most just read
pub just_read : (most : ℕ) (a b : Outside) → Idles a b → StaysWhereTold a.extent b.extent → ReadsAtMost most a b → LeavesConsole a b → JustReads 0 most a b
just_read most a b idle stays reads rest =
    let more = counted_more reads.count a.dev_reads in
    record {
      before = idle.before;
      same = idle.step;
      extent = λ len is. subst (λ x. IfSome x (λ n. a.extent ≡ Some n)) is stays.same;
      counted = ap is_some reads.reads ∙ more.0;
      reads = omega (arith, ap (λ x. unwrap_or x 0) reads.reads, more.1, reads.few);
      paths = rest.paths;
      console = rest.console;
    }

-- ---- the survey's fault

-- a halt, whatever an Ok would hold
abbrev halted : {T : Type 0} → Halt → Result T Halt
halted halt = Err halt

-- and a fault
abbrev failed : {T : Type 0} → WalkFault → Result T WalkFault
failed fault = Err fault

-- a walk that halted by the device has the device's fault
fault_back : {T U : Type 0} (halt : Halt) → failed {T = U} (fault_of halt) ≡ failed {T = U} faults.Device → halted {T = T} halt ≡ halted {T = T} halts.Device
fault_back halts.Device e = refl
fault_back halts.NoMemory e = absurd (cc)
fault_back (halts.Finding finding) e = absurd (cc)

-- and no other has
fault_on : {T U : Type 0} (halt : Halt) → halted {T = T} halt ≡ halted {T = T} halts.Device → failed {T = U} (fault_of halt) ≡ failed {T = U} faults.Device
fault_on halts.Device e = refl
fault_on halts.NoMemory e = absurd (cc)
fault_on (halts.Finding finding) e = absurd (cc)

-- the survey of a walk that halted
pub survey_halts : {T U : Type 0} (most len : ℕ) (a b : Outside) (halt : Halt) (fault : WalkFault) → most ≤ len → fault ≡ fault_of halt → Looks {T = T} halts.Device 0 most a b (Err halt) → Looks {T = U} faults.Device 0 len a b (Err fault)
survey_halts {T = T} {U = U} most len a b halt fault few is p = subst (λ f. Looks faults.Device 0 len a b (failed {T = U} f)) (sym is) (record {
  reads = reads_more 0 most 0 len a b (omega (arith, few)) p.reads;
  cause = record { later = p.cause.later; failed = λ e. p.cause.failed (fault_back {T = T} {U = U} halt e); kept = λ other. p.cause.kept (λ e. other (fault_on {T = T} {U = U} halt e)) };
})

-- of one with a last finding
pub survey_finds : {T U : Type 0} (most len : ℕ) (a b : Outside) (x : T) (finding : Finding) → most ≤ len → Looks halts.Device 0 most a b (Ok x) → Looks {T = U} faults.Device 0 len a b (Err (faults.Finding finding))
survey_finds most len a b x finding few p = record {
  reads = reads_more 0 most 0 len a b (omega (arith, few)) p.reads;
  cause = record { later = p.cause.later; failed = λ e. absurd (cc); kept = λ other. p.cause.kept (λ e. absurd (cc)) };
}

-- and of one without
pub survey_ends : {T U : Type 0} (most len : ℕ) (a b : Outside) (x : T) (y : U) → most ≤ len → Looks halts.Device 0 most a b (Ok x) → Looks faults.Device 0 len a b (Ok y)
survey_ends most len a b x y few p = record {
  reads = reads_more 0 most 0 len a b (omega (arith, few)) p.reads;
  cause = record { later = p.cause.later; failed = λ e. absurd (cc); kept = λ other. p.cause.kept (λ e. absurd (cc)) };
}
