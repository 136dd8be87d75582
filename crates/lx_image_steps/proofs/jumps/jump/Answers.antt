use Rattle.std.proofs.Common.{◌∙◌, ap, ℕ, List}
use Rattle.std.specs.Prelude.{bytes_eq, position}
use Rattle.lx_model.specs.Thread.{CodeBlock}
use Rattle.lx_image_steps.proofs.Jumping.{jumps_to, jumps_nowhere}
use Rattle.lx_image_steps.proofs.Leading.{leads_to}
use Rattle.lx_image_steps.specs.Standing.{run_of}
use Rattle.lx_image_steps.proofs.jumps.jump.Goals as goal

pub returns-in-Some-clause-does : goal.returns-in-Some-clause-does
returns-in-Some-clause-does c =
    let a = run_of c.args.code.now c.args.run.now in
    jumps_to c.args.code.now.program a c.args.label.now c.in-Some.number
    (c.in-Some.ensures ∙ ap (λ (l : List ℕ). position (λ (b : CodeBlock). bytes_eq b.label l) a.blocks) c.as_slice.ensures)

pub returns-in-Some-clause-leads : goal.returns-in-Some-clause-leads
returns-in-Some-clause-leads c =
    let a = run_of c.args.code.now c.args.run.now in
    leads_to a c.args.label.now c.in-Some.number
    (c.in-Some.ensures ∙ ap (λ (l : List ℕ). position (λ (b : CodeBlock). bytes_eq b.label l) a.blocks) c.as_slice.ensures)

pub returns-in-None-clause-does : goal.returns-in-None-clause-does
returns-in-None-clause-does c =
    let a = run_of c.args.code.now c.args.run.now in
    jumps_nowhere c.args.code.now.program a c.args.label.now
    (c.in-None.ensures ∙ ap (λ (l : List ℕ). position (λ (b : CodeBlock). bytes_eq b.label l) a.blocks) c.as_slice.ensures)
