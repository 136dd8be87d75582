use Rattle.std.proofs.Common.{◌∙◌, sym, subst}
use Rattle.std.specs.Prelude.{IfOk, Result, Ok, Err, slice_index_or}
use Rattle.lx_threads.specs.declared.worker.Worker.{Worker}
use Rattle.lx_threads.specs.Working.{AfterWork}
use Rattle.lx_threads.proofs.running.work_all.Goals as goal

if_ok_then : {X E : Type 0} (r : Result X E) (P Q : X → Type 0) → IfOk r P → ((x : X) → P x → Q x) → IfOk r Q
if_ok_then (Ok x) P Q h f = f x h
if_ok_then (Err e) P Q h f = tt

pub returns-clause-each : goal.returns-clause-each
returns-clause-each g c = if_ok_then c.map_vec.result _ _ c.map_vec.ensures.each
    (λ done each i d w low is.
    let job = (each i d low).1 in
    subst (λ (u : Worker g.row.T.Denot g.row.N.Denot). AfterWork g.T.Part.program g.T.Part.stands g.T.Part.lacks g.N.Asker.stands g.N.Asker.lacks (g.N.Asker.machine c.args.code.now) c.args.code.now c.args.lock.now u (slice_index_or done.items i d))
    (sym (is ∙ job.job_is w)) job.call.met)
