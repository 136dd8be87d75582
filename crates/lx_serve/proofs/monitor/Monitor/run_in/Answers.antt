-- The kernel's functions run as the kernel.
use Rattle.std.proofs.Common.{◌≡◌, ap, Some, None}
use Rattle.lx_caps.specs.declared.Principal.TheVariants.{Kernel}
use Rattle.lx_model.specs.Enter.{runs_in}
use Rattle.lx_model.specs.Program.{home_of}
use Rattle.lx_serve.proofs.Entered.{runs_plain}
use Rattle.lx_serve.proofs.monitor.Monitor.run_in.Goals as goal

pub returns-in-Some-None-clause-runs : goal.returns-in-Some-None-clause-runs
returns-in-Some-None-clause-runs g c = λ s k.
    let p = c.args.program.now in
    let home : home_of p c.args.function ≡ Some None = cc in
    runs_plain g.C.CapStore.stands p c.args.self.now s (runs_in p s c.args.function c.args.args.now (home_of p c.args.function)) Kernel k
    (ap (runs_in p s c.args.function c.args.args.now) home)

pub returns-in-None-clause-runs : goal.returns-in-None-clause-runs
returns-in-None-clause-runs g c = λ s k.
    let p = c.args.program.now in
    let home : home_of p c.args.function ≡ None = cc in
    runs_plain g.C.CapStore.stands p c.args.self.now s (runs_in p s c.args.function c.args.args.now (home_of p c.args.function)) Kernel k
    (ap (runs_in p s c.args.function c.args.args.now) home)
