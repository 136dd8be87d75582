-- What a function answers, against what reading gives.
use Rattle.std.specs.Prelude.{◌≡◌, Result, Ok, Err}
use Rattle.lx_ir_terms.specs.declared.fault.Fault.{Fault}
use Rattle.lx_ir_terms.specs.declared.fault.ReadError.{ReadError}
use Rattle.lx_ir_terms.specs.Reading.{Fails}
use Rattle.lx_ir_read.specs.declared.fault.TextFault.{TextFault}
use Rattle.lx_ir_read.specs.declared.module_error.ModuleError.{ModuleError}
use Rattle.lx_ir_read.specs.declared.module_error.ModuleError.TheVariants as errors

-- what was there before becomes what reading gives, unless memory ran out
abbrev pub Becomes : {X S : Type 0} → Result X ReadError → S → Result S Fault → Type 0
Becomes (Ok x) s read = read ≡ Ok s
Becomes (Err e) s read = Fails e read

-- an answer is what reading gives, unless memory ran out
abbrev pub Answers : {X : Type 0} → Result X ReadError → Result X Fault → Type 0
Answers (Ok x) read = read ≡ Ok x
Answers (Err e) read = Fails e read

abbrev pub FailsIn : {X : Type 0} → ModuleError → Result X TextFault → Type 0
FailsIn errors.Memory read = Unit {0}
FailsIn (errors.Fault f) read = read ≡ Err f

-- the same of faults of a text
abbrev pub AnswersText : {X : Type 0} → Result X ModuleError → Result X TextFault → Type 0
AnswersText (Ok x) read = read ≡ Ok x
AnswersText (Err e) read = FailsIn e read
