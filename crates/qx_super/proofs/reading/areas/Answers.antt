use Rattle.std.proofs.Common.{◌≡◌, length, IsTrue, option_and_then, ap, sym, ◌∙◌, arith}
use Rattle.std.specs.Result.{result_ok}
use Rattle.qx_super.specs.Superblock.{superblock_of}
use Rattle.qx_outside.specs.Trail.{bytes_of}
use Rattle.qx_outside.proofs.ReadCounts.{reads_then}
use Rattle.qx_super.specs.Active.{AreRead, IsReadFrom, first_area, buffer_of, first_read, second_read, only_at, searched_place}
use Rattle.qx_super.proofs.ActiveAreas.{len_is, are_read, first_read-is, second_read-is}
use Rattle.qx_super.proofs.reading.areas.Given.{Over}
use Rattle.qx_super.proofs.reading.areas.Goals as goal

-- where the device tells, its length is the one that was given
long : (g : Over) (c : goal.After-second_in-second_super g) → IsTrue (g.D.Dev.outside c.read_area-2.new.host).tells → c.args.len ≡ length (bytes_of (g.D.Dev.outside c.read_area-2.new.host).history)
long g c told = len_is _ _ _ _ _ c.read_area.ensures.extent c.read_area-2.ensures.extent (g.met.D.Dev.extent_is c.read_area-2.new.host told) c.requires.len

-- the place is the one that the first area names
searched : (g : Over) (c : goal.After-second_in-second_super g) → c.place_to_search-place.result ≡ searched_place c.args.len (first_read c.read_area.new.into c.args.len)
searched g c = c.place_to_search-place.ensures ∙ ap (λ s. searched_place c.args.len s) (c.as_ref.ensures.value ∙ c.first_in-first_super.ensures)

-- the second superblock is that of the buffers
second_is : (g : Over) (c : goal.After-second_in-second_super g) → c.second_in-second_super.result ≡ second_read c.read_area.new.into c.read_area-2.new.into c.args.len
second_is g c = c.second_in-second_super.ensures ∙ ap (λ p. option_and_then (λ at. only_at at (result_ok (superblock_of c.read_area-2.new.into c.args.len))) p) (searched g c)

-- where the device tells, the buffers are what it has
read : (g : Over) (c : goal.After-second_in-second_super g) → IsTrue (g.D.Dev.outside c.read_area-2.new.host).tells → AreRead (bytes_of (g.D.Dev.outside c.read_area-2.new.host).history) c.read_area.new.into c.read_area-2.new.into
read g c told =
    let firsts : c.read_area.new.into ≡ buffer_of (first_area (bytes_of (g.D.Dev.outside c.read_area-2.new.host).history)) =
    c.in_ok-read_area.ensures.bytes (c.read_area-2.ensures.step.before told) ∙ ap (λ h. buffer_of (first_area (bytes_of h))) (sym (c.read_area-2.ensures.step.step told)) in
    are_read (bytes_of (g.D.Dev.outside c.read_area-2.new.host).history) _ _ c.args.len c.place_to_search-place.result (long g c told) firsts (searched g c) (c.in_ok-read_area-2.ensures.bytes told)

pub returns-clause-read : goal.returns-clause-read
returns-clause-read g c = record {
  first = c.read_area.new.into;
  second = c.read_area-2.new.into;
  first_long = c.read_area.ensures.long;
  second_long = c.read_area-2.ensures.long;
  first_is = c.first_in-first_super.ensures;
  second_is = second_is g c;
}

pub returns-clause-told : goal.returns-clause-told
returns-clause-told g c = λ told.
    let img = bytes_of (g.D.Dev.outside c.read_area-2.new.host).history in
    record {
      first = c.first_in-first_super.ensures ∙ ap (λ n. first_read c.read_area.new.into n) (long g c told) ∙ first_read-is img _ _ (read g c told);
      second = second_is g c ∙ ap (λ n. second_read c.read_area.new.into c.read_area-2.new.into n) (long g c told) ∙ second_read-is img _ _ (read g c told);
    }

pub returns-in_err-read_area-2-clause-reads : goal.returns-in_err-read_area-2-clause-reads
returns-in_err-read_area-2-clause-reads g c = reads_then 1 1 2 _ _ _ (omega arith) c.read_area-2.ensures.reads c.read_area.ensures.reads

pub returns-clause-reads : goal.returns-clause-reads
returns-clause-reads g c = reads_then 1 1 2 _ _ _ (omega arith) c.read_area-2.ensures.reads c.read_area.ensures.reads
