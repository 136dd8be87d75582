use Rattle.std.proofs.Common.{◌≡◌, ◌∙◌, ap, sym, Some, arith}
use Rattle.std.specs.Int.{next_multiple_of}
use Rattle.lx_ir.specs.declared.instr.Op.{Op}
use Rattle.lx_ir.specs.Layout.{Layout, layout, layout_of}
use Rattle.lx_model.specs.declared.request.What.TheVariants as what
use Rattle.lx_model.specs.Effect.{Wants, effect, types_of}
use Rattle.lx_image_steps.specs.Standing.{run_of}
use Rattle.lx_image_steps.proofs.Legs.{aligned}
use Rattle.lx_image_steps.proofs.Sizes.{alignment_above, alignment_small}
use Rattle.lx_image_steps.proofs.memory.alloca_by_table.Goals as goal

pub alloca_of-requires-clause-nonzero : goal.alloca_of-requires-clause-nonzero
alloca_of-requires-clause-nonzero c =
    let p = c.args.code.now.program in
    let types = types_of p (run_of c.args.code.now c.args.run.now) in
    let ty = c.in-Alloca.ty in
    let room = c.in-Some.room in
    let is = aligned types ty room.size room.align (c.in-Some.ensures c.in-Alloca.to ty (c.requires ∙ ap (λ (o : Op). Some o) c.in-Alloca.is)) in
    omega (arith, is, alignment_above types ty)

pub alloca_of-requires-clause-small : goal.alloca_of-requires-clause-small
alloca_of-requires-clause-small c =
    let p = c.args.code.now.program in
    let types = types_of p (run_of c.args.code.now c.args.run.now) in
    let ty = c.in-Alloca.ty in
    let room = c.in-Some.room in
    let is = aligned types ty room.size room.align (c.in-Some.ensures c.in-Alloca.to ty (c.requires ∙ ap (λ (o : Op). Some o) c.in-Alloca.is)) in
    omega (arith, is, alignment_small types ty)

pub returns-in-Some : goal.returns-in-Some
returns-in-Some c =
    let p = c.args.code.now.program in
    let a = run_of c.args.code.now c.args.run.now in
    let ty = c.in-Alloca.ty in
    let room = c.in-Some.room in
    let is : layout room.size room.align ≡ layout_of (types_of p a) ty = c.in-Some.ensures c.in-Alloca.to ty (c.requires ∙ ap (λ (o : Op). Some o) c.in-Alloca.is) in
    ap Wants c.alloca_of.ensures
    ∙ ap (λ (l : Layout). Wants (what.Alloca (next_multiple_of a.high l.align) l.size)) is
    ∙ ap (effect p a) (sym c.in-Alloca.is)
