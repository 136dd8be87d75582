-- The checks of what was read, one after the other.
use Rattle.std.proofs.Common.{◌≡◌, subst, refl, ℕ, List, [], ◌∷◌, Option, Some, None, Result, Ok, Err}
use Rattle.lx_ir.specs.declared.module.Module.{Module}
use Rattle.lx_ir.specs.Faults.{FirstFault}
use Rattle.lx_script.specs.Case.{Case}
use Rattle.lx_script.specs.declared.case.CaseModule.{CaseModule}
use Rattle.lx_link.specs.Answers.{origin_name}
use Rattle.lx_files.specs.declared.stop.InputStop.{InputStop}
use Rattle.lx_files.specs.declared.stop.InputStop.TheVariants as stops
use Rattle.lx_files.specs.declared.sources.Sources.{Sources}
use Rattle.lx_files.specs.Turns.{Then, Gives, HasNoted}
use Rattle.lx_files.specs.declared.sources.ImageFile.{ImageFile}
use Rattle.lx_input.specs.declared.input.Input.{Input}
use Rattle.lx_input.specs.Checks.{Passed, VerifyTurn, PropagateTurn, EachModule}
use Rattle.lx_input.specs.Inputs.{LinkTurn, ImageCheck, BehindLink, BehindSlots, BehindVerified, BehindKernel, CheckTurn, TextsTurn}
use Rattle.lx_input.proofs.Each.{Turn}

-- a fault of a module does not depend on what a check gives
verify_err : (A B : Type 0) (file : List ℕ) (m : Module) (e : InputStop) → VerifyTurn {A = A} file m (Err e) → VerifyTurn {A = B} file m (Err e)
verify_err A B file m stops.Memory h = h
verify_err A B file m (stops.Unread name) h = h
verify_err A B file m (stops.Fault f) h = h

-- the kernel, and then the modules

module _ (c : Case) (kernel : Module) (ms : List Module) where
  pub kernel_stops : (file : List ℕ) (e : InputStop) → file ≡ origin_name c.kernel → VerifyTurn {A = Module} file kernel (Err e) → TextsTurn c kernel ms (Err e)
  kernel_stops file e called t =
      (Err e, verify_err Module (Unit {0}) (origin_name c.kernel) kernel e (subst (λ (f : List ℕ). VerifyTurn {A = Module} f kernel (Err e)) called t), refl)

  pub kernel_passed : (ns : List CaseModule) (answer : Result Passed InputStop) → ns ≡ c.modules → FirstFault kernel None → EachModule VerifyTurn ns ms answer → TextsTurn c kernel ms answer
  kernel_passed ns answer listed none rest = (Ok tt, none, subst (λ (xs : List CaseModule). EachModule VerifyTurn xs ms answer) listed rest)

module _ (case : List ℕ) (s : Sources) where
  pub texts_passed : (answer : Result Input InputStop) → TextsTurn s.case s.kernel s.modules (Ok tt) → BehindVerified case s answer → CheckTurn case s answer
  texts_passed answer (Ok x, t, goes) rest = (Ok x, t, (Ok tt, goes, rest))
  texts_passed answer (Err x, t, goes) rest = absurd (cc goes)

  pub texts_alike : (kernel : Module) (ms : List Module) (answer : Result Input InputStop) → kernel ≡ s.kernel → ms ≡ s.modules
      → BehindVerified case (record { case = s.case; kernel = kernel; interface = s.interface; modules = ms; besides = s.besides }) answer → BehindVerified case s answer
  texts_alike kernel ms answer same_kernel same h =
      subst (λ (k : Module). BehindVerified case (record { case = s.case; kernel = k; interface = s.interface; modules = s.modules; besides = s.besides }) answer) same_kernel
      (subst (λ (ys : List Module). BehindVerified case (record { case = s.case; kernel = kernel; interface = s.interface; modules = ys; besides = s.besides }) answer) same h)

-- a check asks for no file

then_reads_none : {A B : Type 0} (first : Result A InputStop → Type 0) (next : A → Result B InputStop → Type 0) (file : List ℕ) → (first (Err (stops.Unread file)) → ⊥)
    → ((x : A) → next x (Err (stops.Unread file)) → ⊥) → Then first next (Err (stops.Unread file)) → ⊥
then_reads_none first next file none others (Ok x, f, goes) = others x goes
then_reads_none first next file none others (Err e, f, goes) = let is : e ≡ stops.Unread file = cc in none (subst (λ (s : InputStop). first (Err s)) is f)

each_reads_none : (turn : Turn) (file : List ℕ) → ((name : List ℕ) (m : Module) → turn name m (Err (stops.Unread file)) → ⊥) → (ns : List CaseModule) (ms : List Module) → EachModule turn ns ms (Err (stops.Unread file)) → ⊥
each_reads_none turn file none [] ms h = absurd (cc)
each_reads_none turn file none (n ∷ ns) [] h = absurd (cc)
each_reads_none turn file none (n ∷ ns) (m ∷ ms) h =
    then_reads_none (turn n.file m) (λ _. EachModule turn ns ms) file (none n.file m) (λ _. each_reads_none turn file none ns ms) h

image_reads_none : (image : Option ImageFile) (file : List ℕ) → ImageCheck image (Err (stops.Unread file)) → ⊥
image_reads_none None file h = absurd (cc)
image_reads_none (Some x) file h = h

link_reads_none : (i : Input) (file : List ℕ) → BehindLink i (Err (stops.Unread file)) → ⊥
link_reads_none i file h = then_reads_none (ImageCheck i.besides.image) (λ _. Gives i) file (image_reads_none i.besides.image file) (λ _ x. absurd (cc)) h

pub check_reads_none : (case : List ℕ) (s : Sources) (file : List ℕ) → CheckTurn case s (Err (stops.Unread file)) → ⊥
check_reads_none case s file h =
    then_reads_none (VerifyTurn {A = Unit {0}} (origin_name s.case.kernel) s.kernel) (λ _. BehindKernel case s) file (λ x. x)
    (λ _. then_reads_none (EachModule VerifyTurn s.case.modules s.modules) (λ _. BehindVerified case s) file (each_reads_none VerifyTurn file (λ name m x. x) s.case.modules s.modules)
    (λ _. then_reads_none (EachModule (PropagateTurn s.interface) s.case.modules s.modules) (λ _. BehindSlots case s) file
    (each_reads_none (PropagateTurn s.interface) file (λ name m x. x) s.case.modules s.modules)
    (λ _. then_reads_none (LinkTurn case s) BehindLink file (λ x. x) (λ i. link_reads_none i file))))
    h

pub noted_check : (before now : List (List ℕ)) (case : List ℕ) (s : Sources) (e : InputStop) → now ≡ before → CheckTurn case s (Err e) → HasNoted {A = Input} before now (Err e)
noted_check before now case s stops.Memory stay h = stay
noted_check before now case s (stops.Fault f) stay h = stay
noted_check before now case s (stops.Unread file) stay h = absurd (check_reads_none case s file h)
