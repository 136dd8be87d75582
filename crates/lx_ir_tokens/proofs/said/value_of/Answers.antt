use Rattle.std.proofs.Common.{◌∙◌, sym}
use Rattle.lx_words.specs.Text.{decimal_value}
use Rattle.lx_ir_tokens.specs.Said.{value_of_number, has_minus, digits_of}
use Rattle.lx_ir_tokens.proofs.Ranges.{too_wide}
use Rattle.lx_ir_tokens.proofs.said.value_of.Goals as goal

pub returns-in_err-magnitude : goal.returns-in_err-magnitude
unfolding value_of_number
returns-in_err-magnitude c =
    let e = too_wide (has_minus c.args.bytes.now) (decimal_value (digits_of c.args.bytes.now)) (rw (← c.digits_of.ensures) c.in_err-magnitude.ensures) in
    c.from_residual.ensures ∙ sym e
