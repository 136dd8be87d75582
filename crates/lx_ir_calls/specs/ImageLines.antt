-- Reading the lines that images alone have.
use Rattle.std.specs.Prelude.{ℕ, Bool, true, false, Option, Some, None, List, Ok, if◌then◌else◌, option_map, codes, bytes_eq}
use Rattle.lx_ir_tokens.specs.declared.token.Tok.{Tok}
use Rattle.lx_ir_tokens.specs.declared.token.Kind.{Kind}
use Rattle.lx_ir_tokens.specs.declared.token.Kind.TheVariants as kinds
use Rattle.lx_ir_tokens.specs.declared.token.Mark.TheVariants.{Comma, OpenParenthesis, CloseParenthesis}
use Rattle.lx_words.specs.Word.{Word}
use Rattle.lx_words.specs.declared.word.Width.TheVariants.{W32}
use Rattle.lx_ir.specs.declared.types.Scalar.TheVariants.{Int, Ptr}
use Rattle.lx_ir.specs.declared.module.Symbol.{Symbol}
use Rattle.lx_ir.specs.declared.instr.Op.{Op}
use Rattle.lx_ir.specs.declared.instr.Op.TheVariants as op
use Rattle.lx_ir.specs.Operands.{guard_width}
use Rattle.lx_ir_terms.specs.declared.fault.FaultKind.{FaultKind}
use Rattle.lx_ir_terms.specs.declared.fault.FaultKind.TheVariants.{OutOfProfile, Unknown}
use Rattle.lx_ir_terms.specs.Context.{Context, symbol_of}
use Rattle.lx_ir_terms.specs.Reading.{Read, ◌>>=◌, pick_at, mark_at}
use Rattle.lx_ir_terms.specs.Words as passing
use Rattle.lx_ir_constants.specs.Constants.{number_in, word_refusal}
use Rattle.lx_ir_calls.specs.declared.image_lines.ImageLine.{ImageLine}
use Rattle.lx_ir_calls.specs.declared.image_lines.ImageLine.TheVariants as lines
use Rattle.lx_ir_calls.specs.Arguments.{given_type_at, given_argument_at, next_argument_at}

-- the names whose calls are such lines
abbrev pub image_line_named : List ℕ → Option ImageLine
image_line_named name =
    if bytes_eq name (codes "lxfi.guard") then Some (lines.Guard false)
    else if bytes_eq name (codes "lxfi.guard32") then Some (lines.Guard true)
    else if bytes_eq name (codes "lxfi.check") then Some lines.Check
    else if bytes_eq name (codes "lxfi.enter") then Some (lines.Crossing false)
    else if bytes_eq name (codes "lxfi.leave") then Some (lines.Crossing true)
    else if bytes_eq name (codes "lxfi.pre") then Some (lines.Action false)
    else if bytes_eq name (codes "lxfi.post") then Some (lines.Action true)
    else None

-- `(ptr p, iN n)`
abbrev pub guard_behind : Context → Bool → List Tok → Read Op
guard_behind context narrow ts = do
  o ← mark_at OpenParenthesis ts
  p ← given_argument_at context Ptr o.1
  n ← next_argument_at context (Int (guard_width narrow)) p.1
  c ← mark_at CloseParenthesis n.1
  Ok (op.Guard p.0 n.0 narrow, c.1)

-- `(ptr p)`
abbrev pub check_behind : Context → List Tok → Read Op
check_behind context ts = do
  o ← mark_at OpenParenthesis ts
  p ← given_argument_at context Ptr o.1
  c ← mark_at CloseParenthesis p.1
  Ok (op.Check p.0, c.1)

-- a function or global by its name
abbrev pub symbol_in : Context → Kind → ℕ → Option Symbol
symbol_in context kinds.Global name = symbol_of context name
symbol_in context _ name = None

-- how a token is refused there: any word is outside the profile
abbrev pub symbol_refusal : Kind → FaultKind
symbol_refusal kinds.Global = Unknown
symbol_refusal k = word_refusal k

-- `ptr @f`
abbrev pub symbol_argument_at : Context → List Tok → Read Symbol
symbol_argument_at context ts = do
  t ← given_type_at Ptr ts
  w ← passing.passed_at false t.1
  pick_at (λ t. symbol_in context t.kind t.name) symbol_refusal w.1

-- the line where a wrapper is left, or entered
abbrev pub crossing : Bool → Symbol → Op
crossing false f = op.Enter f
crossing true f = op.Leave f

-- `(ptr @f)`
abbrev pub crossing_behind : Context → Bool → List Tok → Read Op
crossing_behind context leaves ts = do
  o ← mark_at OpenParenthesis ts
  f ← symbol_argument_at context o.1
  c ← mark_at CloseParenthesis f.1
  Ok (crossing leaves f.0, c.1)

-- the number of an action: the bits of an `i32`
abbrev pub action_in : Kind → Option ℕ
action_in k = option_map (λ (w : Word). w.bits) (number_in W32 k)

-- how a token is refused there: a number that is no `i32` is outside the profile, and so is any word
abbrev pub action_refusal : Kind → FaultKind
action_refusal (kinds.Number v minus) = OutOfProfile
action_refusal k = word_refusal k

-- `, i32 K`
abbrev pub action_at : List Tok → Read ℕ
action_at ts = do
  c ← mark_at Comma ts
  t ← given_type_at (Int W32) c.1
  w ← passing.passed_at false t.1
  pick_at (λ t. action_in t.kind) action_refusal w.1

-- the line of an action behind a call, or before it
abbrev pub action : Bool → Symbol → ℕ → Op
action false f k = op.Pre f k
action true f k = op.Post f k

-- `(ptr @f, i32 K)`
abbrev pub action_behind : Context → Bool → List Tok → Read Op
action_behind context after ts = do
  o ← mark_at OpenParenthesis ts
  f ← symbol_argument_at context o.1
  k ← action_at f.1
  c ← mark_at CloseParenthesis k.1
  Ok (action after f.0 k.0, c.1)

-- a line behind its name
abbrev pub image_line_behind : Context → ImageLine → List Tok → Read Op
image_line_behind context (lines.Guard narrow) ts = guard_behind context narrow ts
image_line_behind context lines.Check ts = check_behind context ts
image_line_behind context (lines.Crossing leaves) ts = crossing_behind context leaves ts
image_line_behind context (lines.Action after) ts = action_behind context after ts
