-- No instruction of a program is a line that images alone have.
use Rattle.std.proofs.Common.{◌≡◌, ℕ, true, not, Option, Some, None, List, refl}
use Rattle.lx_ir.specs.declared.instr.Op.{Op}
use Rattle.lx_ir.specs.declared.instr.Op.TheVariants as op
use Rattle.lx_ir.specs.Operands.{is_image_line}
use Rattle.lx_ir_tokens.specs.declared.token.Tok.{Tok}
use Rattle.lx_ir_tokens.specs.declared.token.Kind.{Kind}
use Rattle.lx_ir_tokens.specs.declared.token.Kind.TheVariants as kinds
use Rattle.lx_ir_terms.specs.Context.{Context, bytes_of}
use Rattle.lx_ir_calls.specs.declared.writes.BlockWrite.{BlockWrite}
use Rattle.lx_ir_calls.specs.declared.image_lines.ImageLine.{ImageLine}
use Rattle.lx_ir_calls.specs.declared.intrinsics.TextForm.TheVariants.{Program}
use Rattle.lx_ir_calls.specs.declared.intrinsics.Intrinsic.TheVariants as intrinsics
use Rattle.lx_ir_calls.specs.Writes.{block_write_named}
use Rattle.lx_ir_calls.specs.Intrinsics.{write_or_line, intrinsic_of}
use Rattle.lx_ir_instructions.specs.Grammar.{IsForm}

write_is_no_line : (w : Option BlockWrite) (l : ImageLine) → write_or_line w None ≡ Some (intrinsics.Line l) → ⊥
write_is_no_line (Some w) l e = cc
write_is_no_line None l e = cc

module _ (context : Context) where
  no_line : (k : Kind) (n : ℕ) (l : ImageLine) → intrinsic_of context Program k n ≡ Some (intrinsics.Line l) → ⊥
  no_line kinds.Global n l e = write_is_no_line (block_write_named (bytes_of context n)) l e
  no_line k n l e = cc

  called_no_line : (t : Tok) (l : ImageLine) → intrinsic_of context Program t.kind t.name ≡ Some (intrinsics.Line l) → ⊥
  called_no_line t l e = no_line t.kind t.name l e

  pub form_no_line : (o : Op) (ts : List Tok) → IsForm context Program o ts → not (is_image_line o) ≡ true
  form_no_line (op.Guard at size narrow) ts h = let t = h.3.3.3.2.2 in absurd (called_no_line t.0 _ t.1)
  form_no_line (op.Check target) ts h = let t = h.3.3.3.2.2 in absurd (called_no_line t.0 _ t.1)
  form_no_line (op.Enter f) ts h = let t = h.3.3.3.2.2 in absurd (called_no_line t.0 _ t.1)
  form_no_line (op.Pre f k) ts h = let t = h.3.3.3.2.2 in absurd (called_no_line t.0 _ t.1)
  form_no_line (op.Post f k) ts h = let t = h.3.3.3.2.2 in absurd (called_no_line t.0 _ t.1)
  form_no_line (op.Leave f) ts h = let t = h.3.3.3.2.2 in absurd (called_no_line t.0 _ t.1)
  form_no_line o ts h = refl
