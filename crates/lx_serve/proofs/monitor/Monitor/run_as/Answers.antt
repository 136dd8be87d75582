-- Without an expression nothing is looked up. With one that has a value only its instance may want memory.
use Rattle.std.proofs.Common.{ap, subst, sym, Some, Err}
use Rattle.std.proofs.lemmas.Result.{err_from_is_err_and}
use Rattle.lx_annot.specs.declared.action.Who.{Who}
use Rattle.lx_caps.specs.declared.Principal.TheVariants.{Shared, Global}
use Rattle.lx_model.specs.Enter.{runs_by}
use Rattle.lx_serve.specs.Entering.{RunsAs}
use Rattle.lx_serve.specs.declared.halt.Halt.TheVariants.{Memory}
use Rattle.lx_serve.proofs.Entered.{runs_plain, value_wants}
use Rattle.lx_serve.proofs.monitor.Monitor.run_as.Goals as goal

pub returns-in-Shared-clause-runs : goal.returns-in-Shared-clause-runs
returns-in-Shared-clause-runs g c = λ p s k.
    runs_plain g.C.CapStore.stands p c.args.self.now s (runs_by s c.args.home c.args.args.now (Some c.args.who.now)) (Shared c.args.home) k
    (ap (λ (w : Who). runs_by s c.args.home c.args.args.now (Some w)) c.in-Shared.is)

pub returns-in-Global-clause-runs : goal.returns-in-Global-clause-runs
returns-in-Global-clause-runs g c = λ p s k.
    runs_plain g.C.CapStore.stands p c.args.self.now s (runs_by s c.args.home c.args.args.now (Some c.args.who.now)) (Global c.args.home) k
    (ap (λ (w : Who). runs_by s c.args.home c.args.args.now (Some w)) c.in-Global.is)

pub returns-in_err-principal-in-Value-clause-runs : goal.returns-in_err-principal-in-Value-clause-runs
returns-in_err-principal-in-Value-clause-runs g c = λ p s k.
    let halt = err_from_is_err_and c.from_residual-in_err-principal-in-Value.result c.from_residual-in_err-principal-in-Value.ensures.1 in
    rw (halt.1, halt.2)
    (subst (λ (w : Who). RunsAs g.C.CapStore.stands p c.instance.new.self s (runs_by s c.args.home c.args.args.now (Some w)) (Err Memory)) (sym c.in-Value.is)
    (value_wants g.C.CapStore.stands p c.instance.new.self s c.args.home c.args.args.now c.in-Value.e c.in_ok-value-in-Value.value
    (c.in_err-principal-in-Value.ensures.named p s k) (c.in_ok-value-in-Value.ensures s.memory k.memory)))
