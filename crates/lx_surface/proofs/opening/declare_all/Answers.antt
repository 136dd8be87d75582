use Rattle.std.proofs.Common.{ap, arith, length}
use Rattle.lx_model.specs.declared.program.Program.{Program}
use Rattle.lx_surface.proofs.Beginnings.{all_modules, next_module}
use Rattle.lx_surface.proofs.opening.declare_all.Goals as goal

pub loop-module-preserved : goal.loop-module-preserved
loop-module-preserved c =
    let less = c.loop-module-test.true in
    record {
      within = omega (arith, less);
      so_far = next_module c.args.names.now c.args.work.now c.loop-module.work c.declare_text.new.work c.loop-module.«module» c.loop-module.invariant.so_far c.in_ok-declare_text.ensures;
    }

pub returns : goal.returns
returns c =
    let most = c.loop-module-test.false in
    let count = c.in_ok-count.ensures in
    let len = c.len.ensures in
    let same = ap (λ (p : Program). length p.modules) c.program.ensures in
    all_modules c.args.names.now c.args.work.now c.loop-module.work c.loop-module.«module» (omega (arith, most, count, len, same)) c.loop-module.invariant.so_far
