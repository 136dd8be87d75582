-- The turns of a command, one after the other.
use Rattle.std.proofs.Common.{◌≡◌, ◌<◌, refl, sym, subst, ℕ, List, length, Option, Some, None, Result, Ok, Err}
use Rattle.lx_outside.specs.declared.file_text.FileText.{FileText}
use Rattle.lx_script.specs.declared.case.Origin.{Origin}
use Rattle.lx_script.specs.declared.case.CaseModule.{CaseModule}
use Rattle.lx_script.specs.Case.{Case}
use Rattle.lx_ir.specs.declared.module.Module.{Module}
use Rattle.lx_annot.specs.declared.interface.Interface.{Interface}
use Rattle.lx_files.specs.declared.line.FaultLine.{FaultLine}
use Rattle.lx_files.specs.declared.stop.InputStop.{InputStop}
use Rattle.lx_files.specs.declared.stop.InputStop.TheVariants as stops
use Rattle.lx_files.specs.declared.sources.ImageFile.{ImageFile}
use Rattle.lx_files.specs.declared.sources.Sources.{Sources}
use Rattle.lx_files.specs.Asked.{Asked}
use Rattle.lx_files.specs.Sound.{IsOneOf, IsOneOfCase}
use Rattle.lx_files.specs.Turns.{Asks, Reads, Then, Gives, Took}
use Rattle.lx_files.specs.Inputs.{CaseTurn, WordTurn, KernelTurn, InterfaceTurn, ModulesTurn, ScheduleTurn, NamedImageTurn, ImageTurn, BehindCase, BehindWord, BehindKernel, BehindInterface, BehindModules, BehindSchedule, SourcesTurn, sources}
use Rattle.lx_files.proofs.Taken.{took_stop, took_then, took_read, took_gives}

-- the turn of a file, by the reader of its text

module _ {A : Type 0} (Says : List ℕ → A → Type 0) (Tells : List ℕ → FaultLine → Type 0) (name : List ℕ)
    {files files_now : Option (List FileText)} {faults faults_now : List (List ℕ)} where
  pub file_stop : (e : InputStop) → Took files files_now faults faults_now (λ fs. Asks fs name) (Err e)
      → Took files files_now faults faults_now (λ fs. Then (Asks fs name) (Reads Says Tells)) (Err e)
  file_stop e t = took_stop (λ fs. Asks fs name) (λ fs. Reads Says Tells) e t

  pub file_then : (text : List ℕ) (answer : Result A InputStop) → Took files files_now faults faults_now (λ fs. Asks fs name) (Ok text) → Reads Says Tells text answer
      → Took files files_now faults faults_now (λ fs. Then (Asks fs name) (Reads Says Tells)) answer
  file_then text answer t read =
      took_then (λ fs. Asks fs name) (λ fs. Reads Says Tells) text answer t (took_read files_now faults_now Says Tells text answer read)

-- memory runs out before a file is asked for
pub file_memory : {A : Type 0} (Says : List ℕ → A → Type 0) (Tells : List ℕ → FaultLine → Type 0) (name : List ℕ) (files : Option (List FileText)) (faults : List (List ℕ))
    → Took files files faults faults (λ fs. Then (Asks fs name) (Reads Says Tells)) (Err stops.Memory)
file_memory Says Tells name files faults = record { told = λ _ _. (Err stops.Memory, tt, refl); files_stay = refl; noted = refl }

pub named_memory : (name : List ℕ) (files : Option (List FileText)) (faults : List (List ℕ)) → Took files files faults faults (λ fs. NamedImageTurn fs name) (Err stops.Memory)
named_memory name files faults = record { told = λ _ _. (Err stops.Memory, (Err stops.Memory, tt, refl), refl); files_stay = refl; noted = refl }

-- the parts of a command's input

module _ (name : List ℕ) (asked : Asked) {files files_mid files_now : Option (List FileText)} {faults faults_mid faults_now : List (List ℕ)} where
  pub case_then : (c : Case) (answer : Result Sources InputStop) → Took files files_mid faults faults_mid (λ fs. CaseTurn fs name) (Ok c)
      → Took files_mid files_now faults_mid faults_now (λ fs. BehindCase fs name asked c) answer → Took files files_now faults faults_now (λ fs. SourcesTurn fs name asked) answer
  case_then c answer t u = took_then (λ fs. CaseTurn fs name) (λ fs. BehindCase fs name asked) c answer t u

  pub word_then : (c : Case) (number : Option ℕ) (answer : Result Sources InputStop) → Took files files_mid faults faults_mid (λ _. WordTurn name c asked.«module») (Ok number)
      → Took files_mid files_now faults_mid faults_now (λ fs. BehindWord fs asked c number) answer → Took files files_now faults faults_now (λ fs. BehindCase fs name asked c) answer
  word_then c number answer t u = took_then (λ _. WordTurn name c asked.«module») (λ fs. BehindWord fs asked c) number answer t u

module _ (name : List ℕ) (asked : Asked) {files files_now : Option (List FileText)} {faults faults_now : List (List ℕ)} where
  pub case_stop : (e : InputStop) → Took files files_now faults faults_now (λ fs. CaseTurn fs name) (Err e) → Took files files_now faults faults_now (λ fs. SourcesTurn fs name asked) (Err e)
  case_stop e t = took_stop (λ fs. CaseTurn fs name) (λ fs. BehindCase fs name asked) e t

  pub word_stop : (c : Case) (e : InputStop) → Took files files_now faults faults_now (λ _. WordTurn name c asked.«module») (Err e) → Took files files_now faults faults_now (λ fs. BehindCase fs name asked c) (Err e)
  word_stop c e t = took_stop (λ _. WordTurn name c asked.«module») (λ fs. BehindWord fs asked c) e t

module _ (asked : Asked) (number : Option ℕ) {files files_mid files_now : Option (List FileText)} {faults faults_mid faults_now : List (List ℕ)} where
  pub kernel_then : (c : Case) (origin : Origin) (k : Module) (answer : Result Sources InputStop) → origin ≡ c.kernel → Took files files_mid faults faults_mid (λ fs. KernelTurn fs origin) (Ok k)
      → Took files_mid files_now faults_mid faults_now (λ fs. BehindKernel fs asked c number k) answer → Took files files_now faults faults_now (λ fs. BehindWord fs asked c number) answer
  kernel_then c origin k answer is t u =
      took_then (λ fs. KernelTurn fs c.kernel) (λ fs. BehindKernel fs asked c number) k answer (subst (λ (o : Origin). Took files files_mid faults faults_mid (λ fs. KernelTurn fs o) (Ok k)) is t) u

  pub interface_then : (c : Case) (k : Module) (origin : Origin) (i : Interface) (answer : Result Sources InputStop) → origin ≡ c.interface → Took files files_mid faults faults_mid (λ fs. InterfaceTurn fs origin) (Ok i)
      → Took files_mid files_now faults_mid faults_now (λ fs. BehindInterface fs asked c number k i) answer → Took files files_now faults faults_now (λ fs. BehindKernel fs asked c number k) answer
  interface_then c k origin i answer is t u =
      took_then (λ fs. InterfaceTurn fs c.interface) (λ fs. BehindInterface fs asked c number k) i answer
      (subst (λ (o : Origin). Took files files_mid faults faults_mid (λ fs. InterfaceTurn fs o) (Ok i)) is t) u

  pub modules_then : (c : Case) (k : Module) (i : Interface) (listed : List CaseModule) (ms : List Module) (answer : Result Sources InputStop) → listed ≡ c.modules
      → Took files files_mid faults faults_mid (λ fs. ModulesTurn fs listed) (Ok ms)
      → Took files_mid files_now faults_mid faults_now (λ fs. BehindModules fs asked c number k i ms) answer → Took files files_now faults faults_now (λ fs. BehindInterface fs asked c number k i) answer
  modules_then c k i listed ms answer is t u =
      took_then (λ fs. ModulesTurn fs c.modules) (λ fs. BehindModules fs asked c number k i) ms answer
      (subst (λ (l : List CaseModule). Took files files_mid faults faults_mid (λ fs. ModulesTurn fs l) (Ok ms)) is t) u

  pub schedule_then : (c : Case) (k : Module) (i : Interface) (ms : List Module) (s : Option (List ℕ)) (answer : Result Sources InputStop) → Took files files_mid faults faults_mid (λ fs. ScheduleTurn fs asked.schedule) (Ok s)
      → Took files_mid files_now faults_mid faults_now (λ fs. BehindSchedule fs asked c number k i ms s) answer → Took files files_now faults faults_now (λ fs. BehindModules fs asked c number k i ms) answer
  schedule_then c k i ms s answer t u = took_then (λ fs. ScheduleTurn fs asked.schedule) (λ fs. BehindSchedule fs asked c number k i ms) s answer t u

module _ (asked : Asked) (number : Option ℕ) {files files_now : Option (List FileText)} {faults faults_now : List (List ℕ)} where
  pub kernel_stop : (c : Case) (origin : Origin) (e : InputStop) → origin ≡ c.kernel → Took files files_now faults faults_now (λ fs. KernelTurn fs origin) (Err e)
      → Took files files_now faults faults_now (λ fs. BehindWord fs asked c number) (Err e)
  kernel_stop c origin e is t =
      took_stop (λ fs. KernelTurn fs c.kernel) (λ fs. BehindKernel fs asked c number) e (subst (λ (o : Origin). Took files files_now faults faults_now (λ fs. KernelTurn fs o) (Err e)) is t)

  pub interface_stop : (c : Case) (k : Module) (origin : Origin) (e : InputStop) → origin ≡ c.interface → Took files files_now faults faults_now (λ fs. InterfaceTurn fs origin) (Err e)
      → Took files files_now faults faults_now (λ fs. BehindKernel fs asked c number k) (Err e)
  interface_stop c k origin e is t =
      took_stop (λ fs. InterfaceTurn fs c.interface) (λ fs. BehindInterface fs asked c number k) e
      (subst (λ (o : Origin). Took files files_now faults faults_now (λ fs. InterfaceTurn fs o) (Err e)) is t)

  pub modules_stop : (c : Case) (k : Module) (i : Interface) (listed : List CaseModule) (e : InputStop) → listed ≡ c.modules → Took files files_now faults faults_now (λ fs. ModulesTurn fs listed) (Err e)
      → Took files files_now faults faults_now (λ fs. BehindInterface fs asked c number k i) (Err e)
  modules_stop c k i listed e is t =
      took_stop (λ fs. ModulesTurn fs c.modules) (λ fs. BehindModules fs asked c number k i) e
      (subst (λ (l : List CaseModule). Took files files_now faults faults_now (λ fs. ModulesTurn fs l) (Err e)) is t)

  pub schedule_stop : (c : Case) (k : Module) (i : Interface) (ms : List Module) (e : InputStop) → Took files files_now faults faults_now (λ fs. ScheduleTurn fs asked.schedule) (Err e)
      → Took files files_now faults faults_now (λ fs. BehindModules fs asked c number k i ms) (Err e)
  schedule_stop c k i ms e t = took_stop (λ fs. ScheduleTurn fs asked.schedule) (λ fs. BehindSchedule fs asked c number k i ms) e t

  pub image_stop : (c : Case) (k : Module) (i : Interface) (ms : List Module) (s : Option (List ℕ)) (e : InputStop) → Took files files_now faults faults_now (λ fs. ImageTurn fs asked.image) (Err e)
      → Took files files_now faults faults_now (λ fs. BehindSchedule fs asked c number k i ms s) (Err e)
  image_stop c k i ms s e t = took_stop (λ fs. ImageTurn fs asked.image) (λ fs x. Gives (sources c k i ms number s x)) e t

  pub image_then : (c : Case) (k : Module) (i : Interface) (ms : List Module) (s : Option (List ℕ)) (x : Option ImageFile) → Took files files_now faults faults_now (λ fs. ImageTurn fs asked.image) (Ok x)
      → Took files files_now faults faults_now (λ fs. BehindSchedule fs asked c number k i ms s) (Ok (sources c k i ms number s x))
  image_then c k i ms s x t =
      took_then (λ fs. ImageTurn fs asked.image) (λ fs y. Gives (sources c k i ms number s y)) x
      (Ok (sources c k i ms number s x)) t (took_gives files_now faults_now (sources c k i ms number s x))

-- what is not asked of a shelf leaves it
pub took_word : (name : List ℕ) (c : Case) (word : Option (List ℕ)) (files : Option (List FileText)) (faults : List (List ℕ)) (answer : Result (Option ℕ) InputStop) → WordTurn name c word answer → Took files files faults faults (λ _. WordTurn name c word) answer
took_word name c None files faults answer is =
    subst (λ (a : Result (Option ℕ) InputStop). Took files files faults faults (λ _. WordTurn name c None) a) (sym is) (took_gives files faults None)
took_word name c (Some word) files faults answer (Ok k, reads, goes) =
    subst (λ (a : Result (Option ℕ) InputStop). Took files files faults faults (λ _. WordTurn name c (Some word)) a) (sym goes)
    (record { told = λ _ _. (Ok k, reads, refl); files_stay = refl; noted = refl })
took_word name c (Some word) files faults answer (Err stops.Memory, reads, goes) =
    subst (λ (a : Result (Option ℕ) InputStop). Took files files faults faults (λ _. WordTurn name c (Some word)) a) (sym goes)
    (record { told = λ _ _. (Err stops.Memory, reads, refl); files_stay = refl; noted = refl })
took_word name c (Some word) files faults answer (Err (stops.Fault f), reads, goes) =
    subst (λ (a : Result (Option ℕ) InputStop). Took files files faults faults (λ _. WordTurn name c (Some word)) a) (sym goes)
    (record { told = λ _ _. (Err (stops.Fault f), reads, refl); files_stay = refl; noted = refl })
took_word name c (Some word) files faults answer (Err (stops.Unread file), reads, goes) = absurd reads

-- a number of the case's modules is one of as many modules
pub same_number : (c : Case) (ms : List Module) (number : Option ℕ) → length ms ≡ length c.modules → IsOneOfCase c number → IsOneOf ms number
same_number c ms None as_many below = tt
same_number c ms (Some k) as_many below = subst (λ n. k < n) (sym as_many) below
