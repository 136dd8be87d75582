-- What is read of a text is what the grammar says it is.
use Rattle.std.specs.Prelude.{◌≡◌, ℕ, List}
use Rattle.lx_ir.specs.declared.module.Module.{Module}
use Rattle.lx_ir_calls.specs.declared.intrinsics.TextForm.{TextForm}
use Rattle.lx_ir_read.specs.declared.fault.ReadFault.{ReadFault}
use Rattle.lx_ir_read.specs.Reading.{SaysModule, FirstFault}
use Rattle.lx_ir_read.specs.Grammar.{IsModule}

-- a text says at most one module
abbrev pub OneModule : Type 0
OneModule = (form : TextForm) (text : List ℕ) (a b : Module) → SaysModule form text a → SaysModule form text b → a ≡ b

-- a text has at most one first fault
abbrev pub OneFault : Type 0
OneFault = (form : TextForm) (text : List ℕ) (e f : ReadFault) → FirstFault form text e → FirstFault form text f → e ≡ f

-- and no text has both
abbrev pub NotBoth : Type 0
NotBoth = (form : TextForm) (text : List ℕ) (m : Module) (f : ReadFault) → SaysModule form text m → FirstFault form text f → ⊥

-- what is read as a module is one
abbrev pub ModulesAreFound : Type 0
ModulesAreFound = (form : TextForm) (text : List ℕ) (m : Module) → SaysModule form text m → IsModule form text m
