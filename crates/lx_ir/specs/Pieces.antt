-- The text of a piece of a line.
use Rattle.std.specs.Prelude.{List}
use Rattle.lx_ir.specs.declared.module.Function.{Function}
use Rattle.lx_ir.specs.declared.module.Module.{Module}
use Rattle.lx_ir.specs.declared.text.line.Piece.{Piece}
use Rattle.lx_ir.specs.declared.text.line.Piece.TheVariants as piece
use Rattle.lx_ir.specs.Text.{Text, local_text, global_text, given_text, value_text, operand_text, scalar_text, result_text, type_text, symbol_text, callee_text, number_text}

abbrev pub piece_text : Module → Function → Piece → Text
piece_text m f (piece.Text t) = t.now
piece_text m f (piece.Local name) = local_text name.now
piece_text m f (piece.Global name) = global_text name.now
piece_text m f (piece.Given to) = given_text f to
piece_text m f (piece.Value v) = value_text m f v
piece_text m f (piece.Operand ty v) = operand_text m f ty v
piece_text m f (piece.Scalar ty) = scalar_text ty
piece_text m f (piece.Result ty) = result_text ty
piece_text m f (piece.Type ty) = type_text m.types ty.now
piece_text m f (piece.Symbol s) = symbol_text m s
piece_text m f (piece.Callee c) = callee_text m f c
piece_text m f (piece.Number w) = number_text w.width w.bits
