-- Inside one text the principal stays.
use Rattle.std.proofs.Common.{◌≡◌, ◌∙◌, ap}
use Rattle.lx_model.specs.Enter.{text_of_principal}
use Rattle.lx_model.specs.Program.{Home, is_in}
use Rattle.lx_serve.proofs.Targeted.{run_inside}
use Rattle.lx_serve.proofs.monitor.Monitor.run_called.Goals as goal

pub returns-then-is_in-clause-runs : goal.returns-then-is_in-clause-runs
returns-then-is_in-clause-runs g c = λ s k.
    let p = c.args.program.now in
    let is : c.is_in.result ≡ is_in p (text_of_principal c.args.who) c.args.function = c.is_in.ensures ∙ ap (λ (home : Home). is_in p home c.args.function) c.text_of.ensures in
    run_inside g.C.CapStore.stands p c.args.self.now s c.args.who c.args.function c.args.args.now c.is_in.result is c.if-is_in.true k
