use Rattle.std.proofs.Common.{rules, ◌≡◌, refl, sym, subst, ap, ◌∙◌}
use Rattle.std.specs.Prelude.{IfSome}
use Rattle.qx_outside.specs.Trail.{bytes_of}
use Rattle.std.specs.FinMap.{get}
use Rattle.qx_alloc.specs.SpaceState.{is_held}
use Rattle.qx_blocks.specs.Calls.{Keeps}
use Rattle.qx_cache.specs.CacheState.{bytes_over, change_of, device_block, state_of}
use Rattle.qx_cache.specs.Calls.{after_read}
use Rattle.qx_cache.proofs.BlockMeanings.{keeps-read}
use Rattle.qx_cache.proofs.BlockReads.{changed-bytes}
use Rattle.qx_cache.proofs.blocks.CacheBlocks.read.Goals as goal

pub bring-requires : goal.bring-requires
bring-requires g c = c.requires

pub at_hand-requires-clause-held : goal.at_hand-requires-clause-held
at_hand-requires-clause-held g c = ap (λ s. is_held s.space c.args.b) (c.in_ok-bring.ensures.reads.ok refl) ∙ c.requires

pub returns : goal.returns
returns g c =
    let old = c.args.self.now in
    let new = c.bring.new.self in
    let whole : new ≡ after_read old new.host c.args.b = c.in_ok-bring.ensures.reads.ok refl in
    let kept = (after_read old new.host c.args.b).kept in
    let idles = c.in_ok-bring.ensures.reads.idles in (
      (
        refl,
        λ _. tt,
        (
          record {
            keeps = subst (λ w. Keeps (state_of g.H.Dev.outside old) (state_of g.H.Dev.outside w)) (sym whole) (keeps-read g.H.Dev.outside old new.host kept idles);
            others = record {
              aside = c.in_ok-bring.ensures.others.aside;
              cause = record { later = c.in_ok-bring.ensures.others.cause.later; failed = λ e. absurd (cc (e)); kept = λ _. search (rules, c.in_ok-bring.ensures.others.cause.kept) };
            };
          },
          λ told. c.at_hand.ensures.told told
              ∙ ap (λ w. bytes_over (bytes_of (g.H.Dev.outside new.host).history) w c.args.b) whole
              ∙ ap (λ h. bytes_over (bytes_of h) old c.args.b) (idles.step told),
          c.in_ok-bring.ensures.reads,
        ),
      ),
      record {
        long = c.at_hand.ensures.long ∙ ap (λ w. w.size) whole;
        ready = λ ready. changed-bytes (get old.changes c.args.b) (get old.frozen_changes c.args.b) (is_held old.space c.args.b) (device_block (bytes_of (g.H.Dev.outside old.host).history) old.size c.args.b) c.at_hand.result.now ready
            (subst (λ w. IfSome (change_of w c.args.b) (λ now. c.at_hand.result.now ≡ now)) whole c.at_hand.ensures.changed);
        leaves = tt;
      },
    )
