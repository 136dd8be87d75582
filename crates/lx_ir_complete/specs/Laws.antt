-- What is a module by the grammar is read, and each text is answered.
use Rattle.std.specs.Prelude.{◌≡◌, ◌⊎◌, ℕ, Option, Some, None, List, [], ◌∷◌, ◌++◌, length, Ok, Err}
use Rattle.lx_words.specs.declared.token.Token.{Token}
use Rattle.lx_ir_tokens.specs.declared.token.Tok.{Tok}
use Rattle.lx_ir_tokens.specs.declared.read.IrTokens.{IrTokens}
use Rattle.lx_ir_tokens.specs.Reading.{ReadsAs}
use Rattle.lx_ir.specs.declared.module.Module.{Module}
use Rattle.lx_ir_calls.specs.declared.intrinsics.TextForm.{TextForm}
use Rattle.lx_ir_terms.specs.declared.fault.Fault.{Fault}
use Rattle.lx_ir_terms.specs.declared.fault.FaultKind.TheVariants.{Twice}
use Rattle.lx_ir_terms.specs.Reading.{Read}
use Rattle.lx_ir_statements.specs.Defined.{nothing_defined}
use Rattle.lx_ir_read.specs.declared.fault.ReadFault.{ReadFault}
use Rattle.lx_ir_read.specs.declared.first.Found.{Found}
use Rattle.lx_ir_read.specs.declared.first.FirstReading.{FirstReading}
use Rattle.lx_ir_read.specs.First.{unknown_context, first_reading}
use Rattle.lx_ir_read.specs.Reading.{SaysModule, FirstFault}
use Rattle.lx_ir_read.specs.Grammar.{AreStatements, IsModule}
use Rattle.lx_ir_complete.specs.Alike.{BeginAlike, StopsThere}

-- what is a module by the grammar is read as it
abbrev pub ModulesAreRead : Type 0
ModulesAreRead = (form : TextForm) (text : List ℕ) (m : Module) → IsModule form text m → SaysModule form text m

-- the grammar gives a text one module at most
abbrev pub OneModuleInGrammar : Type 0
OneModuleInGrammar = (form : TextForm) (text : List ℕ) (a b : Module) → IsModule form text a → IsModule form text b → a ≡ b

-- a text that has a fault is no module
abbrev pub FaultyTextsAreNone : Type 0
FaultyTextsAreNone = (form : TextForm) (text : List ℕ) (m : Module) (f : ReadFault) → FirstFault form text f → IsModule form text m → ⊥

-- each text falls into tokens, up to the first byte that begins none
abbrev pub TextsHaveTokens : Type 0
TextsHaveTokens = (text : List ℕ) → (ir : IrTokens) × ReadsAs text ir

-- each text says a module or has a first fault
abbrev pub TextsAreAnswered : Type 0
TextsAreAnswered = (form : TextForm) (text : List ℕ) → ((m : Module) × SaysModule form text m) ⊎ ((f : ReadFault) × FirstFault form text f)

-- A first reading, as the reading of all tokens: the statements, or the fault.

abbrev pub read_to : List Found → Option Fault → Read (List Found)
read_to statements None = Ok (statements, [])
read_to statements (Some fault) = Err fault

abbrev pub read_whole : FirstReading → Read (List Found)
read_whole r = read_to r.statements r.fault

abbrev pub text_at : TextForm → List (List ℕ) → List Token → List Tok → Read (List Found)
text_at form names places toks = read_whole (first_reading form names places toks)

-- The token at which the first reading of a text stops cannot stand there, whatever follows it, where the fault is not a name that is
-- defined twice.
abbrev pub TextsAreRefused : Type 0
TextsAreRefused =
    (form : TextForm) (names : List (List ℕ)) (places : List Token) (toks : List Tok) (fault : Fault)
    → (fault.kind ≡ Twice → ⊥) → text_at form names places toks ≡ Err fault → StopsThere (text_at form names places) toks fault

-- And by the grammar it stands there in no text: tokens that are the same up to it fall into no statements, whatever follows it.
abbrev pub RefusedTokensStandNowhere : Type 0
RefusedTokensStandNowhere =
    (form : TextForm) (names : List (List ℕ)) (places : List Token) (toks : List Tok) (fault : Fault)
    → (fault.kind ≡ Twice → ⊥) → text_at form names places toks ≡ Err fault
    → (front rest : List Tok) → toks ≡ front ++ rest → fault.left ≡ length rest
    → (t : Tok) (more us : List Tok) → rest ≡ t ∷ more → BeginAlike more us
    → (statements : List Found) → AreStatements (unknown_context names) form places nothing_defined statements (front ++ t ∷ us) → ⊥
