-- The first fault of what is linked, and how it is answered.
use Rattle.std.specs.Prelude.{◌≡◌, ℕ, ◌⊎◌, All, Option, Some, None, List, [], ◌∷◌, ◌++◌, Result, MatchResult, slice_get, codes}
use Rattle.std.specs.Option.{option_or}
use Rattle.lx_ir.specs.declared.module.Module.{Module}
use Rattle.lx_ir.specs.Verified.{IsVerified}
use Rattle.lx_annot.specs.declared.interface.Interface.{Interface}
use Rattle.lx_model.specs.declared.program.ProgramModule.{ProgramModule}
use Rattle.lx_script.specs.declared.case.Origin.{Origin}
use Rattle.lx_script.specs.declared.case.Origin.TheVariants as origin
use Rattle.lx_script.specs.declared.case.CaseModule.{CaseModule}
use Rattle.lx_script.specs.Case.{Case}
use Rattle.lx_link_texts.specs.declared.fault.FaultKind.{FaultKind}
use Rattle.lx_link_texts.specs.declared.fault.FaultKind.TheVariants as kind
use Rattle.lx_link_texts.specs.declared.fault.Source.{Source}
use Rattle.lx_link_texts.specs.declared.fault.Source.TheVariants as source
use Rattle.lx_link.specs.declared.linked.LinkedParts.{LinkedParts}
use Rattle.lx_link.specs.declared.fault.LinkFault.{LinkFault}
use Rattle.lx_link.specs.declared.fault.LinkFault.TheVariants.{Missing, Unannotated, SignatureDiffers, TooLarge, KernelIndirect, Memory}
use Rattle.lx_link_texts.specs.declared.sources.Sources.{Sources}
use Rattle.lx_link_texts.specs.Faults.{Fault, text_fault, limit_fault}
use Rattle.lx_link_texts.specs.Placing.{program_of}
use Rattle.lx_link.specs.Calls.{script_fault, calls_of}

-- a module with the name that a case gives it
abbrev pub named : CaseModule → Module → ProgramModule
named n m = record { name = n.name; «module» = m }

abbrev pub named_modules : List CaseModule → List Module → List ProgramModule
named_modules (n ∷ ns) (m ∷ ms) = named n m ∷ named_modules ns ms
named_modules _ _ = []

-- the modules of a program are verified
abbrev pub AreVerified : List ProgramModule → Type 0
AreVerified ms = All (λ (m : ProgramModule). IsVerified m.«module») ms

abbrev pub sources_of : Module → Interface → List ProgramModule → Sources
sources_of kernel i modules = record { kernel = kernel; interface = i; modules = modules }

-- the first fault: of the texts, then of the limits, then of the script
abbrev pub link_fault : Sources → Case → Option Fault
link_fault s c = option_or (text_fault s) (option_or (limit_fault s) (script_fault (program_of s) c.threads))

-- the first fault of the texts and of the limits: what is reckoned before there is a program
abbrev pub source_fault : Sources → Option Fault
source_fault s = option_or (text_fault s) (limit_fault s)

-- the program, and the calls of each thread
abbrev pub linked_of : Sources → Case → LinkedParts
linked_of s c = record { program = program_of s; calls = calls_of (program_of s) c.threads }

-- names of files

abbrev pub origin_name : Origin → List ℕ
origin_name origin.None = []
origin_name origin.Builtin = codes "builtin"
origin_name (origin.File name) = name

abbrev pub module_file : Option CaseModule → List ℕ
module_file None = []
module_file (Some m) = m.file

-- the file of a text; the case's own name is not known here
abbrev pub file_of : Case → Source → List ℕ
file_of c source.Kernel = origin_name c.kernel
file_of c source.Interface = origin_name c.interface
file_of c (source.Module k) = module_file (slice_get c.modules k)
file_of c source.Case = []

-- a name stands behind its mark, the word for a limit alone
abbrev pub mark_of : FaultKind → List ℕ
mark_of kind.Missing = codes "@"
mark_of kind.Unannotated = codes "@"
mark_of kind.SignatureDiffers = codes "@"
mark_of kind.TooLarge = []
mark_of kind.KernelIndirect = codes "@"

abbrev pub what_of : FaultKind → List ℕ → List ℕ
what_of kind name = mark_of kind ++ name

abbrev pub fault_named : FaultKind → List ℕ → ℕ → List ℕ → LinkFault
fault_named kind.Missing file line what = Missing file line what
fault_named kind.Unannotated file line what = Unannotated file line what
fault_named kind.SignatureDiffers file line what = SignatureDiffers file line what
fault_named kind.TooLarge file line what = TooLarge file line what
fault_named kind.KernelIndirect file line what = KernelIndirect file line what

-- the fault as it is answered
abbrev pub answered : Case → Fault → LinkFault
answered c x = fault_named x.kind (file_of c x.source) x.line (what_of x.kind x.name)

-- a pass goes on exactly where there is no fault, and answers the fault that there is, or want of memory
abbrev pub IsFault : Case → Option Fault → LinkFault → Type 0
IsFault c x e = (e ≡ Memory) ⊎ ((f : Fault) × (x ≡ Some f) × (e ≡ answered c f))

abbrev pub Stops : {T : Type 0} → Case → Option Fault → Result T LinkFault → Type 0
Stops c x r = MatchResult r (λ _. x ≡ None) (IsFault c x)

-- the same, where want of memory has this reason

abbrev pub IsFaultOr : Type 0 → Case → Option Fault → LinkFault → Type 0
IsFaultOr want c x e = ((e ≡ Memory) × want) ⊎ ((f : Fault) × (x ≡ Some f) × (e ≡ answered c f))

abbrev pub StopsOr : {T : Type 0} → Type 0 → Case → Option Fault → Result T LinkFault → Type 0
StopsOr want c x r = MatchResult r (λ _. x ≡ None) (IsFaultOr want c x)

-- memory was wanted for the names of a fault or, where neither the texts nor the limits have one, for a table
abbrev pub IsWanted : Type 0 → Type 0 → Sources → Type 0
IsWanted names tables s = names ⊎ (tables × (source_fault s ≡ None))
