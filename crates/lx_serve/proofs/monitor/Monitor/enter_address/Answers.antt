-- The function is found first, and then as whom it runs.
use Rattle.std.proofs.Common.{◌≡◌, ◌∙◌, ap}
use Rattle.lx_model.specs.Enter.{text_of_principal}
use Rattle.lx_model.specs.Program.{Home, is_in}
use Rattle.lx_serve.proofs.Targeted.{address_enters}
use Rattle.lx_serve.proofs.monitor.Monitor.enter_address.Goals as goal

pub returns-clause-tries : goal.returns-clause-tries
returns-clause-tries g c = λ s t k.
    let p = c.args.program.now in
    let n = c.in_ok-function.function in
    let is : c.is_in.result ≡ is_in p (text_of_principal c.args.who) n = c.is_in.ensures ∙ ap (λ (home : Home). is_in p home n) c.text_of.ensures in
    address_enters g.C.CapStore.stands p c.run_called.new.self s t c.args.who c.args.at c.args.args.now n c.in_ok-principal.principal c.is_in.result
    (c.in_ok-function.ensures s k) is (c.in_ok-principal.ensures.runs s k)
