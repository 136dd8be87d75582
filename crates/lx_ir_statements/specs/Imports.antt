-- Reading the parameters of a function that is declared.
use Rattle.std.specs.Prelude.{false, List, Ok, Err, if◌then◌else◌}
use Rattle.lx_ir_tokens.specs.declared.token.Tok.{Tok}
use Rattle.lx_ir_tokens.specs.declared.token.Mark.TheVariants.{OpenParenthesis, CloseParenthesis}
use Rattle.lx_ir.specs.declared.types.Scalar.{Scalar}
use Rattle.lx_ir_terms.specs.declared.fault.FaultKind.TheVariants.{OutOfProfile}
use Rattle.lx_ir_terms.specs.Reading.{Read, ◌>>=◌, at, behind, has, mark_at, listed_at}
use Rattle.lx_ir_terms.specs.Types.{scalar_at}
use Rattle.lx_ir_terms.specs.Words.{passed_at}
use Rattle.lx_ir_constants.specs.Constants.{is_register}
use Rattle.lx_ir_statements.specs.Words.{is_any_word}

-- the name of an import's parameter, which is not kept, or nothing; a word there is outside the profile
unfoldable pub unkept_name_at : List Tok → Read (Unit {0})
unkept_name_at ts = if has is_any_word ts then Err (at OutOfProfile ts) else Ok (tt, if has is_register ts then behind ts else ts)

-- the words and the name behind a type, which are not kept
abbrev pub unkept_at : List Tok → Read (Unit {0})
unkept_at ts = do
  w ← passed_at false ts
  unkept_name_at w.1

-- `T words`, or `T words %a`
abbrev pub import_parameter_at : List Tok → Read Scalar
import_parameter_at ts = do
  t ← scalar_at ts
  u ← unkept_at t.1
  Ok (t.0, u.1)

-- `(T, ..)`
abbrev pub import_parameters_at : List Tok → Read (List Scalar)
import_parameters_at ts = do
  o ← mark_at OpenParenthesis ts
  listed_at CloseParenthesis import_parameter_at o.1
