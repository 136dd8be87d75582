-- The files of a command, in their order.
use Rattle.std.specs.Prelude.{◌≡◌, ℕ, List, [], ◌∷◌, codes, bytes_eq, position, Option, Some, None, Result}
use Rattle.lx_outside.specs.declared.file_text.FileText.{FileText}
use Rattle.lx_generate.specs.Kernel.{kernel_text}
use Rattle.lx_generate.specs.Interface.{interface_text}
use Rattle.lx_script.specs.declared.case.Origin.{Origin}
use Rattle.lx_script.specs.declared.case.Origin.TheVariants as origins
use Rattle.lx_script.specs.declared.case.CaseModule.{CaseModule}
use Rattle.lx_script.specs.Case.{Case}
use Rattle.lx_script.specs.Grammar.{SaysCase, FirstCaseFault}
use Rattle.lx_script.specs.Schedule.{Reads as SaysSchedule, FirstScheduleFault}
use Rattle.lx_ir.specs.declared.module.Module.{Module}
use Rattle.lx_ir_calls.specs.declared.intrinsics.TextForm.TheVariants.{Program, Image}
use Rattle.lx_ir_read.specs.Grammar.{IsModule}
use Rattle.lx_ir_complete.specs.FaultOfText.{IsFirstFault}
use Rattle.lx_annot.specs.declared.interface.Interface.{Interface}
use Rattle.lx_files.specs.declared.line.FaultKind.TheVariants as kinds
use Rattle.lx_files.specs.declared.line.FaultLine.{FaultLine}
use Rattle.lx_files.specs.declared.stop.InputStop.{InputStop}
use Rattle.lx_files.specs.declared.sources.ImageFile.{ImageFile}
use Rattle.lx_files.specs.declared.sources.Sources.{Sources}
use Rattle.lx_files.specs.Asked.{Asked}
use Rattle.lx_files.specs.Faults.{fault_at, script_line, module_line}
use Rattle.lx_files.specs.Dialects.{IsEither, FirstEither, either_line}
use Rattle.lx_files.specs.Turns.{Asks, Reads, Tells, Then, Gives}

-- Texts of a file: what they are by their grammar, or their first fault.

abbrev pub ReadsCase : List ℕ → List ℕ → Result Case InputStop → Type 0
ReadsCase file text answer = Reads SaysCase (Tells FirstCaseFault (script_line kinds.Case file)) text answer

abbrev pub ReadsModule : List ℕ → List ℕ → Result Module InputStop → Type 0
ReadsModule file text answer = Reads (IsModule Program) (Tells (IsFirstFault Program) (module_line file)) text answer

-- an image is read in a form of its own
abbrev pub ReadsImage : List ℕ → List ℕ → Result Module InputStop → Type 0
ReadsImage file text answer = Reads (IsModule Image) (Tells (IsFirstFault Image) (module_line file)) text answer

abbrev pub ReadsInterface : List ℕ → List ℕ → Result Interface InputStop → Type 0
ReadsInterface file text answer = Reads IsEither (Tells FirstEither (either_line file)) text answer

abbrev pub ReadsSchedule : List ℕ → List ℕ → Result (List ℕ) InputStop → Type 0
ReadsSchedule file text answer = Reads SaysSchedule (Tells FirstScheduleFault (script_line kinds.Schedule file)) text answer

-- Turns.

abbrev pub CaseTurn : List FileText → List ℕ → Result Case InputStop → Type 0
CaseTurn files name answer = Then (Asks files name) (ReadsCase name) answer

-- the number of the case's module with this name
abbrev pub module_named : Case → List ℕ → Option ℕ
module_named c word = position (λ m. bytes_eq m.name word) c.modules

-- the line about a module that the case lacks
abbrev pub lacks_line : List ℕ → List ℕ → FaultLine
lacks_line case word = fault_at case kinds.Case 3 0 word

abbrev pub NumberTurn : List ℕ → Case → List ℕ → Result ℕ InputStop → Type 0
NumberTurn case c word answer = Reads (λ w k. module_named c w ≡ Some k) (λ w f. (module_named c w ≡ None) × (f ≡ lacks_line case w)) word answer

-- the module that is named beside the case, where one is
abbrev pub WordTurn : List ℕ → Case → Option (List ℕ) → Result (Option ℕ) InputStop → Type 0
WordTurn case c None answer = Gives None answer
WordTurn case c (Some word) answer = Then (NumberTurn case c word) (λ k. Gives (Some k)) answer

abbrev pub ModuleTurn : List FileText → List ℕ → Result Module InputStop → Type 0
ModuleTurn files name answer = Then (Asks files name) (ReadsModule name) answer

abbrev pub no_module : Module
no_module = record { types = []; globals = []; functions = [] }

-- the file name of what the program brings along
abbrev pub builtin : List ℕ
builtin = codes "builtin"

abbrev pub KernelTurn : List FileText → Origin → Result Module InputStop → Type 0
KernelTurn files origins.None answer = Gives no_module answer
KernelTurn files origins.Builtin answer = ReadsModule builtin kernel_text answer
KernelTurn files (origins.File name) answer = ModuleTurn files name answer

abbrev pub no_interface : Interface
no_interface = record { reftypes = []; iterators = []; slots = []; fields = []; exports = [] }

abbrev pub InterfaceFileTurn : List FileText → List ℕ → Result Interface InputStop → Type 0
InterfaceFileTurn files name answer = Then (Asks files name) (ReadsInterface name) answer

abbrev pub InterfaceTurn : List FileText → Origin → Result Interface InputStop → Type 0
InterfaceTurn files origins.None answer = Gives no_interface answer
InterfaceTurn files origins.Builtin answer = ReadsInterface builtin interface_text answer
InterfaceTurn files (origins.File name) answer = InterfaceFileTurn files name answer

-- a module before those that a turn comes to
abbrev pub Before : (Result (List Module) InputStop → Type 0) → Module → Result (List Module) InputStop → Type 0
Before others first answer = Then others (λ ms. Gives (first ∷ ms)) answer

-- the modules in the order of the case
abbrev pub ModulesTurn : List FileText → List CaseModule → Result (List Module) InputStop → Type 0
ModulesTurn files [] answer = Gives [] answer
ModulesTurn files (m ∷ ms) answer = Then (ModuleTurn files m.file) (Before (ModulesTurn files ms)) answer

abbrev pub ScheduleFileTurn : List FileText → List ℕ → Result (List ℕ) InputStop → Type 0
ScheduleFileTurn files name answer = Then (Asks files name) (ReadsSchedule name) answer

-- the schedule, where one is asked for
abbrev pub ScheduleTurn : List FileText → Option (List ℕ) → Result (Option (List ℕ)) InputStop → Type 0
ScheduleTurn files None answer = Gives None answer
ScheduleTurn files (Some name) answer = Then (ScheduleFileTurn files name) (λ entries. Gives (Some entries)) answer

abbrev pub ImageFileTurn : List FileText → List ℕ → Result Module InputStop → Type 0
ImageFileTurn files name answer = Then (Asks files name) (ReadsImage name) answer

-- an image, and the name of its file
abbrev pub NamedImageTurn : List FileText → List ℕ → Result ImageFile InputStop → Type 0
NamedImageTurn files name answer = Then (ImageFileTurn files name) (λ x. Gives (record { file = name; text = x })) answer

-- the image, where one is asked for
abbrev pub ImageTurn : List FileText → Option (List ℕ) → Result (Option ImageFile) InputStop → Type 0
ImageTurn files None answer = Gives None answer
ImageTurn files (Some name) answer = Then (NamedImageTurn files name) (λ x. Gives (Some x)) answer

-- The case comes first, then the module that is named beside it, the kernel, the interface, the modules, the schedule, and the image.

abbrev pub sources : Case → Module → Interface → List Module → Option ℕ → Option (List ℕ) → Option ImageFile → Sources
sources c k i ms number s x = record { case = c; kernel = k; interface = i; modules = ms; besides = record { number = number; schedule = s; image = x } }

abbrev pub BehindSchedule : List FileText → Asked → Case → Option ℕ → Module → Interface → List Module → Option (List ℕ) → Result Sources InputStop → Type 0
BehindSchedule files asked c number k i ms s answer = Then (ImageTurn files asked.image) (λ x. Gives (sources c k i ms number s x)) answer

abbrev pub BehindModules : List FileText → Asked → Case → Option ℕ → Module → Interface → List Module → Result Sources InputStop → Type 0
BehindModules files asked c number k i ms answer = Then (ScheduleTurn files asked.schedule) (BehindSchedule files asked c number k i ms) answer

abbrev pub BehindInterface : List FileText → Asked → Case → Option ℕ → Module → Interface → Result Sources InputStop → Type 0
BehindInterface files asked c number k i answer = Then (ModulesTurn files c.modules) (BehindModules files asked c number k i) answer

abbrev pub BehindKernel : List FileText → Asked → Case → Option ℕ → Module → Result Sources InputStop → Type 0
BehindKernel files asked c number k answer = Then (InterfaceTurn files c.interface) (BehindInterface files asked c number k) answer

abbrev pub BehindWord : List FileText → Asked → Case → Option ℕ → Result Sources InputStop → Type 0
BehindWord files asked c number answer = Then (KernelTurn files c.kernel) (BehindKernel files asked c number) answer

abbrev pub BehindCase : List FileText → List ℕ → Asked → Case → Result Sources InputStop → Type 0
BehindCase files name asked c answer = Then (WordTurn name c asked.«module») (BehindWord files asked c) answer

-- what the files of a command come to, where the case has this name, and this is asked for besides
abbrev pub SourcesTurn : List FileText → List ℕ → Asked → Result Sources InputStop → Type 0
SourcesTurn files name asked answer = Then (CaseTurn files name) (BehindCase files name asked) answer
