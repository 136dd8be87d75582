use Rattle.std.proofs.Common.{subst}
use Rattle.lx_model.specs.declared.program.Program.{Program}
use Rattle.lx_surface.specs.Begun.{OpensAll}
use Rattle.lx_surface.specs.Given.{Closes}
use Rattle.lx_surface.proofs.Exact.{exact}
use Rattle.lx_surface.proofs.opening.fill.Goals as goal

pub returns : goal.returns
returns c =
    let same = c.program-program.ensures in
    exact c.args.names.now c.args.work.now c.open_functions.new.work c.declare_all.new.work c.close.new.work c.requires.empty
    (subst (λ (p : Program). OpensAll p c.args.work.now c.open_functions.new.work) same c.in_ok-open_functions.ensures) c.in_ok-declare_all.ensures
    (subst (λ (p : Program). Closes p c.declare_all.new.work c.close.new.work) same c.in_ok-close.ensures)
