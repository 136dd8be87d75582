use Rattle.std.proofs.Common.{◌<◌, ◌≤◌, IsTrue, ap, sym, ◌∙◌, subst, arith}
use Rattle.std.specs.Int.{next_multiple_of}
use Rattle.lx_ir.specs.declared.module.Module.{Module}
use Rattle.lx_ir.specs.Layout.{is_lawful_type, align_of, size_of}
use Rattle.lx_model.specs.Effect.{Wants}
use Rattle.lx_model.specs.declared.request.What.TheVariants as what
use Rattle.lx_model.specs.Program.{module_of, home_or_kernel}
use Rattle.lx_image_steps.proofs.Sizes.{alignment_above, alignment_small}
use Rattle.lx_image_steps.proofs.memory.alloca.Goals as goal

pub align_of-align-requires : goal.align_of-align-requires
align_of-align-requires c =
    subst (λ (m : Module). IsTrue (is_lawful_type m.types c.args.ty.now)) (sym c.text_of-text.ensures) c.requires

pub next_multiple_of-requires-clause-nonzero : goal.next_multiple_of-requires-clause-nonzero
next_multiple_of-requires-clause-nonzero c = omega (arith, c.align_of-align.ensures, alignment_above c.text_of-text.result.now.types c.args.ty.now)

pub next_multiple_of-requires-clause-fits : goal.next_multiple_of-requires-clause-fits
next_multiple_of-requires-clause-fits c =
    let n = c.align_of-align.result in
    let small : n ≤ 8 = omega (arith, c.align_of-align.ensures, alignment_small c.text_of-text.result.now.types c.args.ty.now) in
    let above : 0 < n = omega (arith, c.align_of-align.ensures, alignment_above c.text_of-text.result.now.types c.args.ty.now) in
    omega (arith, small, above, c.args.run.now.below)

pub size_of-requires : goal.size_of-requires
size_of-requires c =
    subst (λ (m : Module). IsTrue (is_lawful_type m.types c.args.ty.now)) (sym c.text_of-text.ensures) c.requires

pub returns : goal.returns
returns c to =
    let p = c.args.code.now.program in
    let m = c.text_of-text.ensures in
    ap (λ n. Wants (what.Alloca n c.size_of.result)) (c.next_multiple_of.ensures.value ∙ ap (next_multiple_of c.args.run.now.high) (c.align_of-align.ensures ∙ ap (λ (x : Module). align_of x.types c.args.ty.now) m))
    ∙ ap (λ n. Wants (what.Alloca (next_multiple_of c.args.run.now.high (align_of (module_of p (home_or_kernel p c.args.run.now.function)).types c.args.ty.now)) n)) (c.size_of.ensures ∙ ap (λ (x : Module). size_of x.types c.args.ty.now) m)
