-- Without an annotation that tells it, a function runs as its module's shared principal.
use Rattle.std.proofs.Common.{ap, subst, sym, Option}
use Rattle.std.specs.Prelude.{option_copied}
use Rattle.lx_annot.specs.declared.action.Who.{Who}
use Rattle.lx_caps.specs.declared.Principal.TheVariants.{Shared}
use Rattle.lx_model.specs.Enter.{runs_by}
use Rattle.lx_serve.specs.Entering.{RunsAs}
use Rattle.lx_serve.proofs.Entered.{runs_plain}
use Rattle.lx_serve.proofs.monitor.Monitor.run_by.Goals as goal

pub returns-in-Some-clause-runs : goal.returns-in-Some-clause-runs
returns-in-Some-clause-runs g c = λ p s k.
    subst (λ (w : Option Who). RunsAs g.C.CapStore.stands p c.run_as.new.self s (runs_by s c.args.home c.args.args.now w) c.run_as.result) (sym (ap option_copied c.in-Some.is))
    (c.run_as.ensures.runs p s k)

pub returns-in-None-clause-runs : goal.returns-in-None-clause-runs
returns-in-None-clause-runs g c = λ p s k.
    runs_plain g.C.CapStore.stands p c.args.self.now s (runs_by s c.args.home c.args.args.now (option_copied c.args.who)) (Shared c.args.home) k
    (ap (runs_by s c.args.home c.args.args.now) (ap option_copied c.in-None.is))
