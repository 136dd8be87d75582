-- The input of a command: a linked program with the calls of each thread, or what comes first of faults and of files that
-- are not there.
use Rattle.std.specs.Prelude.{◌≡◌, ℕ, List, Option, Some, None, Result, Ok, Err}
use Rattle.lx_outside.specs.declared.file_text.FileText.{FileText}
use Rattle.lx_link_texts.specs.declared.sources.Sources.{Sources as Texts}
use Rattle.lx_link_texts.specs.Faults.{Fault, all_annotated}
use Rattle.lx_link_texts.specs.Placing.{program_of}
use Rattle.lx_link.specs.Answers.{link_fault, named_modules, origin_name, sources_of}
use Rattle.lx_link.specs.Calls.{calls_of}
use Rattle.lx_ir.specs.declared.module.Module.{Module}
use Rattle.lx_script.specs.Case.{Case}
use Rattle.lx_files.specs.declared.sources.Besides.{Besides}
use Rattle.lx_files.specs.declared.sources.ImageFile.{ImageFile}
use Rattle.lx_files.specs.declared.sources.Sources.{Sources}
use Rattle.lx_files.specs.declared.stop.InputStop.{InputStop}
use Rattle.lx_files.specs.declared.stop.InputStop.TheVariants as stops
use Rattle.lx_files.specs.Asked.{Asked}
use Rattle.lx_files.specs.Turns.{Then, Gives}
use Rattle.lx_files.specs.Inputs.{SourcesTurn}
use Rattle.lx_input.specs.declared.input.Input.{Input}
use Rattle.lx_input.specs.declared.linked.VerifiedCase.{VerifiedCase}
use Rattle.lx_input.specs.Lines.{link_line}
use Rattle.lx_input.specs.Checks.{Passed, VerifyTurn, PropagateTurn, EachModule}

-- the texts that are linked: the modules have the names of the case
abbrev pub texts_of : Sources → Texts
texts_of s = sources_of s.kernel s.interface (named_modules s.case.modules s.modules)

-- the program of the texts, its script, which functions have which slot types, and what is asked for besides
abbrev pub input_of : Sources → Input
input_of s = record {
  program = program_of (texts_of s);
  script = calls_of (program_of (texts_of s)) s.case.threads;
  annotated = all_annotated (texts_of s);
  besides = s.besides;
}

-- the texts link, or the line is about the first fault; `case` is the name of the case
abbrev pub LinkTurn : List ℕ → Sources → Result Input InputStop → Type 0
LinkTurn case s (Ok i) = (link_fault (texts_of s) s.case ≡ None) × (i ≡ input_of s)
LinkTurn case s (Err (stops.Fault f)) = (x : Fault) × (link_fault (texts_of s) s.case ≡ Some x) × (f ≡ link_line case s.case x)
LinkTurn case s (Err (stops.Unread name)) = ⊥
LinkTurn case s (Err stops.Memory) = Unit {0}

-- the image is verified, where there is one
abbrev pub ImageCheck : Option ImageFile → Result Passed InputStop → Type 0
ImageCheck None answer = Gives tt answer
ImageCheck (Some x) answer = VerifyTurn x.file x.text answer

abbrev pub BehindLink : Input → Result Input InputStop → Type 0
BehindLink i answer = Then (ImageCheck i.besides.image) (λ _. Gives i) answer

-- behind the files the kernel is verified and then each module, slot types are handed on in each module, all is linked, and the image is
-- verified

abbrev pub BehindSlots : List ℕ → Sources → Result Input InputStop → Type 0
BehindSlots case s answer = Then (LinkTurn case s) BehindLink answer

abbrev pub BehindVerified : List ℕ → Sources → Result Input InputStop → Type 0
BehindVerified case s answer = Then (EachModule (PropagateTurn s.interface) s.case.modules s.modules) (λ _. BehindSlots case s) answer

abbrev pub BehindKernel : List ℕ → Sources → Result Input InputStop → Type 0
BehindKernel case s answer = Then (EachModule VerifyTurn s.case.modules s.modules) (λ _. BehindVerified case s) answer

abbrev pub CheckTurn : List ℕ → Sources → Result Input InputStop → Type 0
CheckTurn case s answer = Then (VerifyTurn {A = Unit {0}} (origin_name s.case.kernel) s.kernel) (λ _. BehindKernel case s) answer

-- the first two of these turns: the kernel is verified, and then each module
abbrev pub TextsTurn : Case → Module → List Module → Result Passed InputStop → Type 0
TextsTurn c kernel ms answer = Then (VerifyTurn {A = Unit {0}} (origin_name c.kernel) kernel) (λ _. EachModule VerifyTurn c.modules ms) answer

-- what was read, where these of its texts are verified
abbrev pub sources_by : VerifiedCase → Besides → Sources
sources_by c besides = record { case = c.case; kernel = c.texts.kernel; interface = c.texts.interface; modules = c.texts.modules.items; besides = besides }

-- what the files of a command come to, where the case has this name, and this is asked for besides
abbrev pub InputTurn : List FileText → List ℕ → Asked → Result Input InputStop → Type 0
InputTurn files case asked answer = Then (SourcesTurn files case asked) (CheckTurn case) answer
