-- Reading the parameters of a function that is defined.
use Rattle.std.specs.Prelude.{ℕ, zero, suc, Bool, true, false, Option, Some, None, List, [], ◌∷◌, ◌++◌, length, Ok, Err, if◌then◌else◌}
use Rattle.std.specs.List.{list_all}
use Rattle.lx_words.specs.Lexemes.{is_digit}
use Rattle.lx_words.specs.Text.{decimal_text}
use Rattle.lx_ir_tokens.specs.declared.token.Tok.{Tok}
use Rattle.lx_ir_tokens.specs.declared.token.Kind.{Kind}
use Rattle.lx_ir_tokens.specs.declared.token.Kind.TheVariants as kinds
use Rattle.lx_ir_tokens.specs.declared.token.Mark.TheVariants.{Comma, OpenParenthesis, CloseParenthesis}
use Rattle.lx_ir_tokens.specs.Names.{number_of}
use Rattle.lx_ir.specs.declared.types.Scalar.{Scalar}
use Rattle.lx_ir.specs.declared.module.Parameter.{Parameter}
use Rattle.lx_ir_terms.specs.declared.fault.FaultKind.TheVariants.{OutOfProfile, Twice}
use Rattle.lx_ir_terms.specs.Context.{Context, bytes_of}
use Rattle.lx_ir_terms.specs.Reading.{Read, ◌>>=◌, at, refused, behind, is_mark, has, mark_at}
use Rattle.lx_ir_terms.specs.Types.{scalar_at}
use Rattle.lx_ir_terms.specs.Words.{passed_at}
use Rattle.lx_ir_statements.specs.declared.head.Head.{Head}
use Rattle.lx_ir_statements.specs.Numbers.{has_number, has_some, with_some}
use Rattle.lx_ir_statements.specs.Going.{going_at}

-- a name behind `%`
abbrev pub local_name : Kind → ℕ → Option ℕ
local_name kinds.Local name = Some name
local_name _ name = None

-- a name that is a number: digits alone
abbrev pub is_number : List ℕ → Bool
is_number name = list_all is_digit name

abbrev pub counted : Bool → ℕ → ℕ
counted true n = suc n
counted false n = n

-- no parameter yet
abbrev pub no_parameters : Head
no_parameters = record { params = []; registers = []; numbered = 0 }

-- one parameter more, whose name has this number where it stands in the table of names
abbrev pub with_parameter : Head → Option ℕ → List ℕ → Scalar → Head
with_parameter head number name ty =
    record {
      params = head.params ++ record { name = name; ty = ty } ∷ [];
      registers = with_some head.registers number;
      numbered = counted (is_number name) head.numbered;
    }

-- a parameter of this name
abbrev pub written_parameter : Context → Head → Scalar → ℕ → List Tok → Read Head
written_parameter context head ty name ts =
    if has_number head.registers name then Err (at Twice ts)
    else Ok (with_parameter head (Some name) (bytes_of context name) ty, behind ts)

-- the next number: how many of the parameters before have a number for a name
abbrev pub next_name : Head → List ℕ
next_name head = decimal_text head.numbered

-- the number of that name in the table of names, where it stands there
abbrev pub next_number : Context → Head → Option ℕ
next_number context head = number_of context.names (next_name head)

-- A parameter without a name takes the next number. Where that is taken, the fault is at its type.
abbrev pub nameless_parameter : Context → Head → Scalar → List Tok → List Tok → Read Head
nameless_parameter context head ty start ts =
    if has_some head.registers (next_number context head) then Err (at Twice start)
    else Ok (with_parameter head (next_number context head) (next_name head) ty, ts)

abbrev pub parameter_by : Context → Head → Scalar → List Tok → Kind → ℕ → List Tok → Read Head
parameter_by context head ty start kinds.Local name ts = written_parameter context head ty name ts
parameter_by context head ty start (kinds.Word w) name ts = Err (at OutOfProfile ts)
parameter_by context head ty start _ name ts = nameless_parameter context head ty start ts

-- What stands behind the type of a parameter and the words there: its name, or none. Any other word there is outside the profile. Where the text ends there, a name may yet follow.
abbrev pub parameter_named : Context → Head → Scalar → List Tok → List Tok → Read Head
parameter_named context head ty start [] = refused []
parameter_named context head ty start (t ∷ ts) = parameter_by context head ty start t.kind t.name (t ∷ ts)

-- `T words %a`, or `T words`
abbrev pub parameter_at : Context → Head → List Tok → Read Head
parameter_at context head ts = do
  t ← scalar_at ts
  w ← passed_at false t.1
  parameter_named context head t.0 ts w.1

-- further parameters, each behind a comma
abbrev pub further_parameters_at : Context → Head → List Tok → Read Head
further_parameters_at context head ts = going_at (λ h us. has (is_mark Comma) us) (λ h us. parameter_at context h (behind us)) (length ts) head ts

-- one parameter or more, and the parenthesis behind them
abbrev pub some_parameters_at : Context → List Tok → Read Head
some_parameters_at context ts = do
  h ← parameter_at context no_parameters ts
  hs ← further_parameters_at context h.0 h.1
  c ← mark_at CloseParenthesis hs.1
  Ok (hs.0, c.1)

-- parameters behind their parenthesis
abbrev pub listed_parameters_at : Context → List Tok → Read Head
listed_parameters_at context ts = if has (is_mark CloseParenthesis) ts then Ok (no_parameters, behind ts) else some_parameters_at context ts

-- `(T %a, ..)`
abbrev pub parameters_at : Context → List Tok → Read Head
parameters_at context ts = do
  o ← mark_at OpenParenthesis ts
  listed_parameters_at context o.1
