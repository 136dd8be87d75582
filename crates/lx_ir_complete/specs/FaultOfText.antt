-- The first fault of a text, and what the grammar says of it.
use Rattle.std.specs.Prelude.{◌≡◌, ◌⊎◌, ℕ, Some, List, ◌∷◌, ◌++◌, length, Err}
use Rattle.lx_ir_tokens.specs.declared.token.Tok.{Tok}
use Rattle.lx_ir_tokens.specs.declared.read.IrTokens.{IrTokens}
use Rattle.lx_ir_tokens.specs.Reading.{ReadsAs}
use Rattle.lx_ir.specs.declared.module.Module.{Module}
use Rattle.lx_ir_calls.specs.declared.intrinsics.TextForm.{TextForm}
use Rattle.lx_ir_terms.specs.declared.fault.FaultKind.TheVariants.{Twice}
use Rattle.lx_ir_statements.specs.Defined.{nothing_defined}
use Rattle.lx_ir_read.specs.declared.fault.ReadFault.{ReadFault}
use Rattle.lx_ir_read.specs.declared.fault.TextFault.{TextFault}
use Rattle.lx_ir_read.specs.declared.fault.TextFault.TheVariants as texts
use Rattle.lx_ir_read.specs.declared.first.Found.{Found}
use Rattle.lx_ir_read.specs.First.{unknown_context}
use Rattle.lx_ir_read.specs.Fault.{shown}
use Rattle.lx_ir_read.specs.Reading.{module_at, FirstFault}
use Rattle.lx_ir_read.specs.Grammar.{AreStatements, IsModule}
use Rattle.lx_ir_complete.specs.Alike.{BeginAlike}
use Rattle.lx_ir_complete.specs.Laws.{text_at}

-- The token with which so many of the text are left stands there in no module: the tokens before it and it, with the names of this text,
-- fall into no statements, whatever follows that makes the same of it.
abbrev pub StandsNowhere : TextForm → IrTokens → ℕ → Type 0
StandsNowhere form ir left =
    (front more us : List Tok) (t : Tok) → ir.toks ≡ front ++ t ∷ more → left ≡ length (t ∷ more) → BeginAlike more us
    → (statements : List Found) → AreStatements (unknown_context ir.names) form ir.places nothing_defined statements (front ++ t ∷ us) → ⊥

-- What the grammar says of the place of a fault: the byte there begins no token, or the token at which the first reading stops stands there
-- in no module, where the fault is not a name that is defined twice.
abbrev pub IsRefused : TextForm → IrTokens → TextFault → Type 0
IsRefused form ir (texts.Byte stop) = ir.stop ≡ Some stop
IsRefused form ir (texts.Token f) = text_at form ir.names ir.places ir.toks ≡ Err f → (f.kind ≡ Twice → ⊥) → StandsNowhere form ir f.left

-- The first fault of a text that is no module: what reading forward meets first, by its kind, line and word.
pub record IsFirstFault (form : TextForm) (text : List ℕ) (fault : ReadFault) : Type 0 where
  pub ir : IrTokens
  pub reads : ReadsAs text ir
  pub place : TextFault
  pub met : module_at form ir ≡ Err place
  pub told : fault ≡ shown text ir place
  -- the text is no module of the grammar
  pub none : (m : Module) → IsModule form text m → ⊥
  pub refused : IsRefused form ir place

-- each first fault is one
abbrev pub FirstFaultsAreTold : Type 0
FirstFaultsAreTold = (form : TextForm) (text : List ℕ) (f : ReadFault) → FirstFault form text f → IsFirstFault form text f

-- a text has one at most
abbrev pub OneFirstFault : Type 0
OneFirstFault = (form : TextForm) (text : List ℕ) (e f : ReadFault) → IsFirstFault form text e → IsFirstFault form text f → e ≡ f

-- and each text is a module of the grammar or has one
abbrev pub ModulesOrFaults : Type 0
ModulesOrFaults = (form : TextForm) (text : List ℕ) → ((m : Module) × IsModule form text m) ⊎ ((f : ReadFault) × IsFirstFault form text f)
