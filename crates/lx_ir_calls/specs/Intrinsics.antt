-- Calls whose names say what they do.
use Rattle.std.specs.Prelude.{ℕ, Option, Some, None, List, [], ◌∷◌, option_map}
use Rattle.lx_ir_tokens.specs.declared.token.Tok.{Tok}
use Rattle.lx_ir_tokens.specs.declared.token.Kind.{Kind}
use Rattle.lx_ir_tokens.specs.declared.token.Kind.TheVariants as kinds
use Rattle.lx_ir.specs.declared.instr.Op.{Op}
use Rattle.lx_ir_terms.specs.Context.{Context, bytes_of}
use Rattle.lx_ir_terms.specs.Reading.{Read}
use Rattle.lx_ir_calls.specs.declared.writes.BlockWrite.{BlockWrite}
use Rattle.lx_ir_calls.specs.declared.image_lines.ImageLine.{ImageLine}
use Rattle.lx_ir_calls.specs.declared.intrinsics.TextForm.{TextForm}
use Rattle.lx_ir_calls.specs.declared.intrinsics.TextForm.TheVariants as forms
use Rattle.lx_ir_calls.specs.declared.intrinsics.Intrinsic.{Intrinsic}
use Rattle.lx_ir_calls.specs.declared.intrinsics.Intrinsic.TheVariants as intrinsics
use Rattle.lx_ir_calls.specs.Writes.{block_write_named, block_write_behind}
use Rattle.lx_ir_calls.specs.ImageLines.{image_line_named, image_line_behind}

-- only the text of an image has its lines
abbrev pub line_named : TextForm → List ℕ → Option ImageLine
line_named forms.Program name = None
line_named forms.Image name = image_line_named name

abbrev pub write_or_line : Option BlockWrite → Option ImageLine → Option Intrinsic
write_or_line (Some w) line = Some (intrinsics.Write w)
write_or_line None line = option_map intrinsics.Line line

-- the names that say what their calls do
abbrev pub intrinsic_named : TextForm → List ℕ → Option Intrinsic
intrinsic_named form name = write_or_line (block_write_named name) (line_named form name)

abbrev pub intrinsic_of : Context → TextForm → Kind → ℕ → Option Intrinsic
intrinsic_of context form kinds.Global name = intrinsic_named form (bytes_of context name)
intrinsic_of context form _ name = None

-- what the name that stands next says
abbrev pub intrinsic_next : Context → TextForm → List Tok → Option Intrinsic
intrinsic_next context form [] = None
intrinsic_next context form (t ∷ ts) = intrinsic_of context form t.kind t.name

-- such a call behind its name
abbrev pub intrinsic_behind : Context → Intrinsic → List Tok → Read Op
intrinsic_behind context (intrinsics.Write w) ts = block_write_behind context w ts
intrinsic_behind context (intrinsics.Line l) ts = image_line_behind context l ts
