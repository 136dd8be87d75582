use Rattle.std.proofs.Common.{◌≡◌, ◌∙◌, ap, sym, subst, List, drop}
use Rattle.lx_ir.specs.declared.instr.Op.{Op}
use Rattle.lx_image_code.specs.Code.{code_of}
use Rattle.lx_image_code.specs.Wrappers.{first_op, line_of, wrapper_lines}
use Rattle.lx_image_code.specs.declared.wrappers.Wrapper.{Wrapper}
use Rattle.lx_image_code.proofs.Made.{lines_made}
use Rattle.lx_image_code.proofs.wrappers.line_at.Goals as goal

pub returns-in-Image : goal.returns-in-Image
returns-in-Image c = λ p are.
    subst (λ (w : Wrapper). c.image_line.result ≡ line_of (first_op (drop c.args.at (wrapper_lines (code_of p c.args.images.now) w)))) (sym c.in-Image.is) (c.image_line.ensures p)

pub returns-in-Kernel : goal.returns-in-Kernel
returns-in-Kernel c = λ p are.
    subst (λ (w : Wrapper). c.made_line.result ≡ line_of (first_op (drop c.args.at (wrapper_lines (code_of p c.args.images.now) w)))) (sym c.in-Kernel.is)
    (c.made_line.ensures ∙ ap (λ (ls : List Op). line_of (first_op (drop c.args.at ls))) (lines_made p c.args.made.now c.in-Kernel.number are))
