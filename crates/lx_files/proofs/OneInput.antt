-- What the files of a command come to is settled.
use Rattle.std.proofs.Common.{◌≡◌, ◌∙◌, sym, ℕ, List, [], ◌∷◌, Option, Some, None}
use Rattle.lx_words.proofs.Options.{some_is}
use Rattle.lx_outside.specs.declared.file_text.FileText.{FileText}
use Rattle.lx_script.specs.declared.case.Origin.{Origin}
use Rattle.lx_script.specs.declared.case.Origin.TheVariants as origins
use Rattle.lx_script.specs.declared.case.CaseModule.{CaseModule}
use Rattle.lx_script.specs.Case.{Case}
use Rattle.lx_script.specs.Grammar.{SaysCase, FirstCaseFault}
use Rattle.lx_script.specs.Schedule.{Reads as SaysSchedule, FirstScheduleFault}
use Rattle.lx_generate.specs.Kernel.{kernel_text}
use Rattle.lx_generate.specs.Interface.{interface_text}
use Rattle.lx_ir.specs.declared.module.Module.{Module}
use Rattle.lx_ir_calls.specs.declared.intrinsics.TextForm.TheVariants.{Program, Image}
use Rattle.lx_ir_read.specs.Grammar.{IsModule}
use Rattle.lx_ir_complete.specs.FaultOfText.{IsFirstFault}
use Rattle.lx_annot.specs.declared.interface.Interface.{Interface}
use Rattle.lx_files.specs.declared.line.FaultKind.TheVariants as kinds
use Rattle.lx_files.specs.declared.line.FaultLine.{FaultLine}
use Rattle.lx_files.specs.declared.sources.ImageFile.{ImageFile}
use Rattle.lx_files.specs.declared.sources.Sources.{Sources}
use Rattle.lx_files.specs.Asked.{Asked}
use Rattle.lx_files.specs.Faults.{script_line, module_line}
use Rattle.lx_files.specs.Dialects.{IsEither, FirstEither, either_line}
use Rattle.lx_files.specs.Turns.{Asks, Reads, Tells, Then, Gives}
use Rattle.lx_files.specs.Inputs.{NumberTurn, WordTurn, ModuleTurn, KernelTurn, InterfaceTurn, ModulesTurn, Before, ScheduleFileTurn, ScheduleTurn, ImageFileTurn, NamedImageTurn, ImageTurn, CaseTurn, BehindCase, BehindWord, BehindKernel, BehindInterface, BehindModules, BehindSchedule, SourcesTurn, sources, module_named, lacks_line, no_module, no_interface, builtin}
use Rattle.lx_files.specs.Laws.{IsSure, IsOne, EndsAt}
use Rattle.lx_files.proofs.Settled.{then_one, then_ends, gives_one, gives_ends, reads_one, reads_ends, tells_one, asks_one, asks_ends}

-- texts and files

module _ {A E : Type 0} (Says : List ℕ → A → Type 0) (First : List ℕ → E → Type 0) (sure : IsSure Says First) (line : E → Option FaultLine) where
  text_one : (text : List ℕ) → IsOne (Reads Says (Tells First line) text)
  text_one text =
      reads_one Says (Tells First line) text (sure.value text) (tells_one First line text (sure.fault text))
      (λ x f says told. sure.apart text x told.0 says told.1)

  file_one : (files : List FileText) (name : List ℕ) → IsOne (Then (Asks files name) (Reads Says (Tells First line)))
  file_one files name = then_one (Asks files name) (Reads Says (Tells First line)) (asks_one files name) text_one

  file_ends : (files : List FileText) (name : List ℕ) → EndsAt files (Then (Asks files name) (Reads Says (Tells First line)))
  file_ends files name =
      then_ends (Asks files name) (Reads Says (Tells First line)) files (asks_one files name) (asks_ends files name)
      (λ text. reads_ends Says (Tells First line) text files)

-- numbers

none_some : (a : ℕ) → Some a ≡ None → ⊥
none_some a e = absurd (cc e)

-- the turns of a command

module _ (case_sure : IsSure SaysCase FirstCaseFault) (module_sure : IsSure (IsModule Program) (IsFirstFault Program)) (image_sure : IsSure (IsModule Image) (IsFirstFault Image))
    (interface_sure : IsSure IsEither FirstEither) (schedule_sure : IsSure SaysSchedule FirstScheduleFault) (files : List FileText) where
  module_one : (name : List ℕ) → IsOne (ModuleTurn files name)
  module_one name = file_one (IsModule Program) (IsFirstFault Program) module_sure (module_line name) files name

  module_ends : (name : List ℕ) → EndsAt files (ModuleTurn files name)
  module_ends name = file_ends (IsModule Program) (IsFirstFault Program) module_sure (module_line name) files name

  kernel_one : (origin : Origin) → IsOne (KernelTurn files origin)
  kernel_one origins.None = gives_one no_module
  kernel_one origins.Builtin = text_one (IsModule Program) (IsFirstFault Program) module_sure (module_line builtin) kernel_text
  kernel_one (origins.File name) = module_one name

  kernel_ends : (origin : Origin) → EndsAt files (KernelTurn files origin)
  kernel_ends origins.None = gives_ends files no_module
  kernel_ends origins.Builtin = reads_ends (IsModule Program) (Tells (IsFirstFault Program) (module_line builtin)) kernel_text files
  kernel_ends (origins.File name) = module_ends name

  interface_one : (origin : Origin) → IsOne (InterfaceTurn files origin)
  interface_one origins.None = gives_one no_interface
  interface_one origins.Builtin = text_one IsEither FirstEither interface_sure (either_line builtin) interface_text
  interface_one (origins.File name) = file_one IsEither FirstEither interface_sure (either_line name) files name

  interface_ends : (origin : Origin) → EndsAt files (InterfaceTurn files origin)
  interface_ends origins.None = gives_ends files no_interface
  interface_ends origins.Builtin = reads_ends IsEither (Tells FirstEither (either_line builtin)) interface_text files
  interface_ends (origins.File name) = file_ends IsEither FirstEither interface_sure (either_line name) files name

  modules_one : (ms : List CaseModule) → IsOne (ModulesTurn files ms)
  modules_one [] = gives_one []
  modules_one (m ∷ ms) =
      then_one (ModuleTurn files m.file) (Before (ModulesTurn files ms)) (module_one m.file)
      (λ first. then_one (ModulesTurn files ms) (λ others. Gives (first ∷ others)) (modules_one ms) (λ others. gives_one (first ∷ others)))

  modules_ends : (ms : List CaseModule) → EndsAt files (ModulesTurn files ms)
  modules_ends [] = gives_ends files []
  modules_ends (m ∷ ms) =
      then_ends (ModuleTurn files m.file) (Before (ModulesTurn files ms)) files (module_one m.file) (module_ends m.file)
      (λ first. then_ends (ModulesTurn files ms) (λ others. Gives (first ∷ others)) files (modules_one ms) (modules_ends ms) (λ others. gives_ends files (first ∷ others)))

  schedule_one : (name : Option (List ℕ)) → IsOne (ScheduleTurn files name)
  schedule_one None = gives_one None
  schedule_one (Some name) =
      then_one (ScheduleFileTurn files name) (λ entries. Gives (Some entries))
      (file_one SaysSchedule FirstScheduleFault schedule_sure (script_line kinds.Schedule name) files name) (λ entries. gives_one (Some entries))

  schedule_ends : (name : Option (List ℕ)) → EndsAt files (ScheduleTurn files name)
  schedule_ends None = gives_ends files None
  schedule_ends (Some name) =
      then_ends (ScheduleFileTurn files name) (λ entries. Gives (Some entries)) files
      (file_one SaysSchedule FirstScheduleFault schedule_sure (script_line kinds.Schedule name) files name)
      (file_ends SaysSchedule FirstScheduleFault schedule_sure (script_line kinds.Schedule name) files name) (λ entries. gives_ends files (Some entries))

  -- a word asks for no file

  number_one : (case : List ℕ) (c : Case) (word : List ℕ) → IsOne (NumberTurn case c word)
  number_one case c word =
      reads_one (λ w k. module_named c w ≡ Some k) (λ w f. (module_named c w ≡ None) × (f ≡ lacks_line case w)) word
      (λ a b x y. some_is a b (sym x ∙ y))
      (λ e f x y. x.1 ∙ sym y.1)
      (λ a f x y. none_some a (sym x ∙ y.0))

  word_one : (case : List ℕ) (c : Case) (word : Option (List ℕ)) → IsOne (WordTurn case c word)
  word_one case c None = gives_one None
  word_one case c (Some word) = then_one (NumberTurn case c word) (λ k. Gives (Some k)) (number_one case c word) (λ k. gives_one (Some k))

  word_ends : (case : List ℕ) (c : Case) (word : Option (List ℕ)) → EndsAt files (WordTurn case c word)
  word_ends case c None = gives_ends files None
  word_ends case c (Some word) =
      then_ends (NumberTurn case c word) (λ k. Gives (Some k)) files (number_one case c word)
      (reads_ends (λ w k. module_named c w ≡ Some k) (λ w f. (module_named c w ≡ None) × (f ≡ lacks_line case w)) word files) (λ k. gives_ends files (Some k))

  named_one : (name : List ℕ) → IsOne (NamedImageTurn files name)
  named_one name =
      then_one (ImageFileTurn files name) (λ x. Gives (record { file = name; text = x }))
      (file_one (IsModule Image) (IsFirstFault Image) image_sure (module_line name) files name) (λ x. gives_one (record { file = name; text = x }))

  named_ends : (name : List ℕ) → EndsAt files (NamedImageTurn files name)
  named_ends name =
      then_ends (ImageFileTurn files name) (λ x. Gives (record { file = name; text = x })) files
      (file_one (IsModule Image) (IsFirstFault Image) image_sure (module_line name) files name)
      (file_ends (IsModule Image) (IsFirstFault Image) image_sure (module_line name) files name) (λ x. gives_ends files (record { file = name; text = x }))

  image_one : (name : Option (List ℕ)) → IsOne (ImageTurn files name)
  image_one None = gives_one None
  image_one (Some name) = then_one (NamedImageTurn files name) (λ x. Gives (Some x)) (named_one name) (λ x. gives_one (Some x))

  image_ends : (name : Option (List ℕ)) → EndsAt files (ImageTurn files name)
  image_ends None = gives_ends files None
  image_ends (Some name) = then_ends (NamedImageTurn files name) (λ x. Gives (Some x)) files (named_one name) (named_ends name) (λ x. gives_ends files (Some x))

  module _ (asked : Asked) (c : Case) (number : Option ℕ) where
    whole : Module → Interface → List Module → Option (List ℕ) → Option ImageFile → Sources
    whole k i ms s x = sources c k i ms number s x

    fifth_one : (k : Module) (i : Interface) (ms : List Module) (s : Option (List ℕ)) → IsOne (BehindSchedule files asked c number k i ms s)
    unfolding whole
    fifth_one k i ms s = then_one (ImageTurn files asked.image) (λ x. Gives (whole k i ms s x)) (image_one asked.image) (λ x. gives_one (whole k i ms s x))

    fifth_ends : (k : Module) (i : Interface) (ms : List Module) (s : Option (List ℕ)) → EndsAt files (BehindSchedule files asked c number k i ms s)
    unfolding whole
    fifth_ends k i ms s =
        then_ends (ImageTurn files asked.image) (λ x. Gives (whole k i ms s x)) files (image_one asked.image) (image_ends asked.image) (λ x. gives_ends files (whole k i ms s x))

    fourth_one : (k : Module) (i : Interface) (ms : List Module) → IsOne (BehindModules files asked c number k i ms)
    fourth_one k i ms = then_one (ScheduleTurn files asked.schedule) (BehindSchedule files asked c number k i ms) (schedule_one asked.schedule) (fifth_one k i ms)

    fourth_ends : (k : Module) (i : Interface) (ms : List Module) → EndsAt files (BehindModules files asked c number k i ms)
    fourth_ends k i ms =
        then_ends (ScheduleTurn files asked.schedule) (BehindSchedule files asked c number k i ms) files (schedule_one asked.schedule) (schedule_ends asked.schedule) (fifth_ends k i ms)

    third_one : (k : Module) (i : Interface) → IsOne (BehindInterface files asked c number k i)
    third_one k i = then_one (ModulesTurn files c.modules) (BehindModules files asked c number k i) (modules_one c.modules) (fourth_one k i)

    third_ends : (k : Module) (i : Interface) → EndsAt files (BehindInterface files asked c number k i)
    third_ends k i =
        then_ends (ModulesTurn files c.modules) (BehindModules files asked c number k i) files (modules_one c.modules) (modules_ends c.modules) (fourth_ends k i)

    second_one : (k : Module) → IsOne (BehindKernel files asked c number k)
    second_one k = then_one (InterfaceTurn files c.interface) (BehindInterface files asked c number k) (interface_one c.interface) (third_one k)

    second_ends : (k : Module) → EndsAt files (BehindKernel files asked c number k)
    second_ends k =
        then_ends (InterfaceTurn files c.interface) (BehindInterface files asked c number k) files (interface_one c.interface) (interface_ends c.interface) (third_ends k)

    first_one : IsOne (BehindWord files asked c number)
    first_one = then_one (KernelTurn files c.kernel) (BehindKernel files asked c number) (kernel_one c.kernel) second_one

    first_ends : EndsAt files (BehindWord files asked c number)
    first_ends = then_ends (KernelTurn files c.kernel) (BehindKernel files asked c number) files (kernel_one c.kernel) (kernel_ends c.kernel) second_ends

  module _ (asked : Asked) (name : List ℕ) where
    behind_one : (c : Case) → IsOne (BehindCase files name asked c)
    behind_one c = then_one (WordTurn name c asked.«module») (BehindWord files asked c) (word_one name c asked.«module») (first_one asked c)

    behind_ends : (c : Case) → EndsAt files (BehindCase files name asked c)
    behind_ends c =
        then_ends (WordTurn name c asked.«module») (BehindWord files asked c) files (word_one name c asked.«module») (word_ends name c asked.«module») (first_ends asked c)

    pub sources_one : IsOne (SourcesTurn files name asked)
    sources_one =
        then_one (CaseTurn files name) (BehindCase files name asked) (file_one SaysCase FirstCaseFault case_sure (script_line kinds.Case name) files name) behind_one

    pub sources_end : EndsAt files (SourcesTurn files name asked)
    sources_end =
        then_ends (CaseTurn files name) (BehindCase files name asked) files (file_one SaysCase FirstCaseFault case_sure (script_line kinds.Case name) files name)
        (file_ends SaysCase FirstCaseFault case_sure (script_line kinds.Case name) files name) behind_ends
