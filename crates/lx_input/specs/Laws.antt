-- What an input is, and that it is settled.
use Rattle.std.specs.Prelude.{◌≡◌, ℕ, ◌≤◌, ◌<◌, All, List, Option, Some, None, length}
use Rattle.lx_ir.specs.declared.module.Module.{Module}
use Rattle.lx_ir.specs.Verified.{IsVerified}
use Rattle.lx_outside.specs.declared.file_text.FileText.{FileText}
use Rattle.lx_annot.specs.declared.interface.Interface.{Interface}
use Rattle.lx_propagate.specs.Slots.{conflict_of}
use Rattle.lx_link_texts.specs.WellFormed.{IsWellFormed, FitsCalls, texts_of}
use Rattle.lx_link_texts.specs.Faults.{all_annotated}
use Rattle.lx_model.specs.declared.program.Program.{Program}
use Rattle.lx_model.specs.declared.program.ProgramModule.{ProgramModule}
use Rattle.lx_files.specs.declared.sources.ImageFile.{ImageFile}
use Rattle.lx_files.specs.Asked.{Asked}
use Rattle.lx_files.specs.Laws.{IsOne, EndsAt}
use Rattle.lx_input.specs.declared.input.Input.{Input}
use Rattle.lx_input.specs.Inputs.{InputTurn}

-- the number is that of a module of the program, where there is one
abbrev pub IsModuleNumber : Program → Option ℕ → Type 0
IsModuleNumber p None = Unit {0}
IsModuleNumber p (Some k) = k < length p.modules

-- the image is lawful and has no fault, where there is one
abbrev pub IsVerifiedImage : Option ImageFile → Type 0
IsVerifiedImage None = Unit {0}
IsVerifiedImage (Some x) = IsVerified x.text

-- no function of the module gets two slot types that differ
abbrev pub HasNoConflict : Interface → Module → Type 0
HasNoConflict i m = conflict_of i m ≡ None

-- The program is well formed, its calls fit, and the list has the slot types of its modules' functions, none of which gets two that differ.
pub record IsLinkedInput (i : Input) : Type 0 where
  pub formed : IsWellFormed i.program
  pub fits : FitsCalls i.program i.script
  pub few : length i.script ≤ 16
  pub annotated : i.annotated ≡ all_annotated (texts_of i.program)
  pub agree : All (λ (m : ProgramModule). HasNoConflict i.program.interface m.«module») i.program.modules
  pub number : IsModuleNumber i.program i.besides.number

-- The image is verified, too.
pub record IsReady (i : Input) : Type 0 where
  pub linked : IsLinkedInput i
  pub image : IsVerifiedImage i.besides.image

-- What the files of a command come to is settled: one input at most or one first fault, and not both.
abbrev pub OneInput : Type 0
OneInput = (files : List FileText) (case : List ℕ) (asked : Asked) → IsOne (InputTurn files case asked)

-- Neither comes behind a file that is asked for and not there.
abbrev pub MissingFilesEnd : Type 0
MissingFilesEnd = (files : List FileText) (case : List ℕ) (asked : Asked) → EndsAt files (InputTurn files case asked)
