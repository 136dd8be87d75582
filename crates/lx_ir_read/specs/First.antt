-- The first reading of a text: statement by statement, by a context that knows no names.
use Rattle.std.specs.Prelude.{ℕ, zero, suc, false, Option, Some, None, List, [], ◌∷◌, ◌++◌, length, Ok, Err}
use Rattle.lx_words.specs.declared.token.Token.{Token}
use Rattle.lx_ir_tokens.specs.declared.token.Tok.{Tok}
use Rattle.lx_ir_terms.specs.declared.fault.Fault.{Fault}
use Rattle.lx_ir_terms.specs.Context.{Context}
use Rattle.lx_ir_terms.specs.declared.fault.FaultKind.TheVariants as faults
use Rattle.lx_ir_terms.specs.Reading.{Read, ◌>>=◌, at}
use Rattle.lx_ir_calls.specs.declared.intrinsics.TextForm.{TextForm}
use Rattle.lx_ir_statements.specs.declared.form.Statement.{Statement}
use Rattle.lx_ir_statements.specs.declared.defined.Defined.{Defined}
use Rattle.lx_ir_statements.specs.Defined.{nothing_defined, with_statement}
use Rattle.lx_ir_statements.specs.Statements.{statement_at}
use Rattle.lx_ir_tables.specs.Numbering.{own_numbers}
use Rattle.lx_ir_read.specs.declared.first.Found.{Found}
use Rattle.lx_ir_read.specs.declared.first.Progress.{Progress}
use Rattle.lx_ir_read.specs.declared.first.FirstReading.{FirstReading}

-- a context that knows no names but those of registers
abbrev pub knowing_registers : List (List ℕ) → List (Option ℕ) → Context
knowing_registers names registers = record {
  types = [];
  symbols = [];
  registers = registers;
  named = [];
  layouts = [];
  limits = None;
  names = names;
  complete = false;
}

-- a context that knows no names: each register stands for the number of its name
abbrev pub unknown_context : List (List ℕ) → Context
unknown_context names = knowing_registers names (own_numbers 0 (length names))

abbrev pub found : ℕ → Statement → Found
found left s = record { left = left; statement = s }

abbrev pub no_progress : Progress
no_progress = record { defined = nothing_defined; statements = [] }

abbrev pub with_found : Context → Progress → Found → Progress
with_found context p f = record {
  defined = with_statement context p.defined f.statement;
  statements = p.statements ++ f ∷ [];
}

-- a statement, where those before define these names
abbrev pub found_at : Context → TextForm → List Token → Defined → List Tok → Read Found
found_at context form places defined ts = do
  s ← statement_at context form places defined ts
  Ok (found (length ts) s.0, s.1)

abbrev pub stopped : Progress → Option Fault → FirstReading
stopped p fault = record { statements = p.statements; fault = fault }

abbrev pub first_by : Context → (Progress → List Tok → FirstReading) → Progress → Read Found → FirstReading
first_by context next p (Ok f) = next (with_found context p f.0) f.1
first_by context next p (Err f) = stopped p (Some f)

-- behind the last statement no token is left
abbrev pub leftover : List Tok → Option Fault
leftover [] = None
leftover (t ∷ ts) = Some (at faults.Statement (t ∷ ts))

-- the statements behind those that were read, and the first fault; the number is at least that of the tokens
unfoldable pub first_at : Context → TextForm → List Token → ℕ → Progress → List Tok → FirstReading
first_at context form places zero p ts = stopped p (leftover ts)
first_at context form places (suc n) p [] = stopped p None
first_at context form places (suc n) p (t ∷ ts) = first_by context (first_at context form places n) p (found_at context form places p.defined (t ∷ ts))

-- the statements of a text up to the first fault
abbrev pub first_reading : TextForm → List (List ℕ) → List Token → List Tok → FirstReading
first_reading form names places toks = first_at (unknown_context names) form places (length toks) no_progress toks
