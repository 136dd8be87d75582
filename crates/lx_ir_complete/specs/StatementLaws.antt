-- What is printed of a module is read again as what it says, the lines of its instructions aside.
use Rattle.std.specs.Prelude.{◌≡◌, Bool, true, IsTrue, None, List}
use Rattle.std.specs.List.{AllByRecursion}
use Rattle.lx_words.specs.declared.token.Token.{Token}
use Rattle.lx_ir.specs.declared.module.Function.{Function}
use Rattle.lx_ir.specs.declared.module.Module.{Module}
use Rattle.lx_ir.specs.Lookup.{is_defined}
use Rattle.lx_ir.specs.Text.{module_text}
use Rattle.lx_ir.specs.Lawful.{IsLawful}
use Rattle.lx_ir_tokens.specs.declared.read.IrTokens.{IrTokens}
use Rattle.lx_ir_tokens.specs.Reading.{ReadsAs}
use Rattle.lx_ir_terms.specs.Context.{Context}
use Rattle.lx_ir_calls.specs.declared.intrinsics.TextForm.{TextForm}
use Rattle.lx_ir_calls.specs.declared.intrinsics.TextForm.TheVariants.{Program}
use Rattle.lx_ir_complete.specs.Printed.{AreCalm}
use Rattle.lx_ir_complete.specs.Lines.{PrintsLines}
use Rattle.lx_ir_complete.specs.Knows.{Knows, KnowsRegisters, HasNoOwnNames}
use Rattle.lx_ir_complete.specs.Said.{SaysModule, is_kept_module}
use Rattle.lx_ir_complete.specs.Statements.{StateModule}

-- A function's own context has the names of the module's, knows what they stand for, and knows its registers.
pub record IsOwn (m : Module) (context : Context) (own : Function → Context) (f : Function) : Type 0 where
  pub names : (own f).names ≡ context.names
  pub knows : Knows m (own f)
  pub registers : is_defined f ≡ true → KnowsRegisters f (own f)

-- What is given of a module whose text is printed and read in this form, by contexts that know its names.
-- Where it is plain, the form is that of programs, and nothing of the module has a name of an image's own.
pub record IsGiven (plain : Bool) (form : TextForm) (m : Module) (context : Context) (of : Function → Context) : Type 0 where
  pub lawful : IsLawful m
  pub kept : IsTrue (is_kept_module form m)
  pub knows : Knows m context
  pub own : AllByRecursion (IsOwn m context of) m.functions
  pub program : IsTrue plain → form ≡ Program
  pub foreign : IsTrue plain → HasNoOwnNames m

-- the text of a module is lines that say it
abbrev pub ModulesArePrinted : TextForm → Type 0
ModulesArePrinted form =
    (plain : Bool) (m : Module) (context : Context) (own : Function → Context) → IsGiven plain form m context own → PrintsLines plain context.names (module_text m) (SaysModule context own form m)

-- the text of a module is read to its end, as tokens that say it
abbrev pub PrintedModulesAreRead : TextForm → Type 0
PrintedModulesAreRead form =
    (plain : Bool) (m : Module) (context : Context) (own : Function → Context) → IsGiven plain form m context own
    → (ir : IrTokens) → ReadsAs (module_text m) ir → ir.names ≡ context.names → SaysModule context own form m ir.toks × (ir.stop ≡ None)

-- The text of a module is read to its end, as its statements in order, wherever the tokens stand.
abbrev pub ModulesAreStated : TextForm → Type 0
ModulesAreStated form =
    (plain : Bool) (m : Module) (context : Context) (own : Function → Context) → IsGiven plain form m context own
    → (ir : IrTokens) → ReadsAs (module_text m) ir → ir.names ≡ context.names → (places : List Token) → StateModule context own form places m ir.toks × (ir.stop ≡ None)

-- Its tokens are calm: no constant `getelementptr` has an index that names no part, and where it is plain, no name is an image's own.
abbrev pub ModulesAreCalm : TextForm → Type 0
ModulesAreCalm form =
    (plain : Bool) (m : Module) (context : Context) (own : Function → Context) → IsGiven plain form m context own
    → (ir : IrTokens) → ReadsAs (module_text m) ir → ir.names ≡ context.names → AreCalm plain ir.names ir.toks
