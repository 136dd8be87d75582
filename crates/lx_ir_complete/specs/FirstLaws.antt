-- The first reading of the statements of a module.
use Rattle.std.specs.Prelude.{◌≡◌, ℕ, List, None, length}
use Rattle.lx_words.specs.declared.token.Token.{Token}
use Rattle.lx_ir.specs.declared.module.Function.{Function}
use Rattle.lx_ir.specs.declared.module.Module.{Module}
use Rattle.lx_ir.specs.Lawful.{type_names, IsLawful}
use Rattle.lx_ir_tokens.specs.declared.token.Tok.{Tok}
use Rattle.lx_ir_terms.specs.Context.{Context}
use Rattle.lx_ir_calls.specs.declared.intrinsics.TextForm.{TextForm}
use Rattle.lx_ir_statements.specs.Defined.{nothing_defined}
use Rattle.lx_ir_complete.specs.Statements.{Own, StateModule}
use Rattle.lx_ir_read.specs.declared.first.Found.{Found}
use Rattle.lx_ir_read.specs.First.{first_reading}
use Rattle.lx_ir_read.specs.Tables.{types_of, globals_of, functions_of}
use Rattle.lx_ir_complete.specs.KnownTables.{AreOnce, named_things, global_names, function_names}
use Rattle.lx_ir_complete.specs.KnownLaws.{unknown}
use Rattle.lx_ir_complete.specs.First.{AreFound}

-- Statements that were found define the types, globals and functions of a module, in order.
pub record Defines (names : List (List ℕ)) (m : Module) (found : List Found) : Type 0 where
  pub types : types_of (length names) found ≡ named_things names (type_names m)
  pub globals : globals_of (length names) found ≡ named_things names (global_names m)
  pub functions : functions_of (unknown names) (length names) found ≡ named_things names (function_names m)

-- The first reading finds the statements of a module, without a fault, each in its place.
pub record FirstFinds (context : Context) (form : TextForm) (places : List Token) (m : Module) (toks : List Tok) : Type 0 where
  pub statements : List Own
  pub found : List Found
  pub are : AreFound form places context.names nothing_defined statements found toks
  pub reads : first_reading form context.names places toks ≡ record { statements = found; fault = None }
  pub defines : Defines context.names m found

-- Where tokens are the statements of a lawful module by contexts that know its names, the first reading, which knows none, finds them.
abbrev pub FirstReadingsFind : Type 0
FirstReadingsFind =
    (context : Context) (own : Function → Context) (form : TextForm) (places : List Token) (m : Module) (toks : List Tok)
    → IsLawful m → AreOnce context.names → ((f : Function) → (own f).names ≡ context.names)
    → StateModule context own form places m toks → FirstFinds context form places m toks
