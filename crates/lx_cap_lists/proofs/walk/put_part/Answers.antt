use Rattle.std.proofs.Common.{◌+◌, ◌*◌, refl}
use Rattle.lx_cap_lists.specs.declared.runs.Span.{Span}
use Rattle.lx_cap_lists.proofs.MoreParts.{from_place, from_last}
use Rattle.lx_cap_lists.proofs.walk.put_part.Goals as goal

pub loop-from-preserved : goal.loop-from-preserved
loop-from-preserved c =
    let run : Span = record { from = c.args.bytes.part * 64 + c.in-Some.from; end = c.args.bytes.part * 64 + c.run_end-end.result } in (
      c.run_end-end.ensures.within,
      λ p part r. from_place p c.args.bytes c.loop-from.done.items c.put_run.new.done.items c.loop-from.last c.in_ok-last.last run c.loop-from.place c.in-Some.from c.run_end-end.result refl refl c.in-Some.ensures
          c.run_end-end.ensures.some c.run_end-end.ensures.within c.run_end-end.ensures.run part (c.in_ok-last.ensures p) (c.loop-from.invariant.1 p part r),
    )

pub returns : goal.returns
returns c = λ p part r. from_last p c.args.bytes _ _ c.loop-from.place c.loop-from.invariant.0 c.in_default.ensures part (c.loop-from.invariant.1 p part r)
