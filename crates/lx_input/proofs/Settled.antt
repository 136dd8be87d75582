-- What the files of a command come to is settled.
use Rattle.std.proofs.Common.{◌≡◌, ◌∙◌, sym, ap, refl, ℕ, List, [], ◌∷◌, Option, Some, None, Ok, Err}
use Rattle.lx_outside.specs.declared.file_text.FileText.{FileText}
use Rattle.lx_ir.specs.declared.module.Module.{Module}
use Rattle.lx_ir.specs.Faults.{FirstFault}
use Rattle.lx_ir_verify.specs.Laws.{OneFirstFault}
use Rattle.lx_annot.specs.declared.interface.Interface.{Interface}
use Rattle.lx_script.specs.declared.case.CaseModule.{CaseModule}
use Rattle.lx_link.specs.Answers.{origin_name}
use Rattle.lx_files.specs.declared.line.FaultLine.{FaultLine}
use Rattle.lx_files.specs.declared.stop.InputStop.TheVariants as stops
use Rattle.lx_files.specs.declared.sources.ImageFile.{ImageFile}
use Rattle.lx_files.specs.declared.sources.Sources.{Sources}
use Rattle.lx_files.specs.Asked.{Asked}
use Rattle.lx_files.specs.Turns.{Gives}
use Rattle.lx_files.specs.Inputs.{SourcesTurn}
use Rattle.lx_files.specs.Laws.{IsOne, EndsAt, OneInput as OneSources, MissingFilesEnd as MissingSourcesEnd}
use Rattle.lx_files.proofs.Settled.{then_one, then_ends, gives_one}
use Rattle.lx_input.specs.declared.input.Input.{Input}
use Rattle.lx_input.specs.Lines.{verify_line, conflict_line, link_line}
use Rattle.lx_input.specs.Checks.{VerifyTurn, PropagateTurn, EachModule}
use Rattle.lx_input.specs.Inputs.{LinkTurn, ImageCheck, BehindLink, BehindSlots, BehindVerified, BehindKernel, CheckTurn, InputTurn}
use Rattle.lx_input.proofs.Each.{Turn}
use Rattle.lx_input.proofs.Parts.{check_reads_none}

-- a check that passes or finds the line of what is found

module _ {X : Type 0} (Finds : Option X → Type 0) (one : (x y : Option X) → Finds x → Finds y → x ≡ y) (line : X → FaultLine) where
  passes_or_finds : Finds None → (x : X) → Finds (Some x) → ⊥
  passes_or_finds none x some = let is : None ≡ Some x = one None (Some x) none some in absurd (cc)

  same_line : (x y : X) → Finds (Some x) → Finds (Some y) → line x ≡ line y
  same_line x y fx fy = let is : Some x ≡ Some y = one (Some x) (Some y) fx fy in let same : x ≡ y = cc in ap line same

verify_one : OneFirstFault → (file : List ℕ) (m : Module) → IsOne (VerifyTurn {A = Unit {0}} file m)
verify_one one file m (Ok x) (Ok y) ra rb sa sb = refl
verify_one one file m (Ok x) (Err (stops.Fault f)) ra rb sa sb = absurd (passes_or_finds (FirstFault m) (one m) (verify_line file) ra rb.0 rb.1)
verify_one one file m (Ok x) (Err (stops.Unread name)) ra rb sa sb = absurd sb
verify_one one file m (Ok x) (Err stops.Memory) ra rb sa sb = absurd sb
verify_one one file m (Err (stops.Fault f)) (Ok y) ra rb sa sb = absurd (passes_or_finds (FirstFault m) (one m) (verify_line file) rb ra.0 ra.1)
verify_one one file m (Err (stops.Fault f)) (Err (stops.Fault g)) ra rb sa sb =
    ap (λ (h : FaultLine). Err (stops.Fault h)) (ra.2 ∙ same_line (FirstFault m) (one m) (verify_line file) ra.0 rb.0 ra.1 rb.1 ∙ sym rb.2)
verify_one one file m (Err (stops.Fault f)) (Err (stops.Unread name)) ra rb sa sb = absurd sb
verify_one one file m (Err (stops.Fault f)) (Err stops.Memory) ra rb sa sb = absurd sb
verify_one one file m (Err (stops.Unread name)) b ra rb sa sb = absurd sa
verify_one one file m (Err stops.Memory) b ra rb sa sb = absurd sa

propagate_one : (i : Interface) (file : List ℕ) (m : Module) → IsOne (PropagateTurn {A = Unit {0}} i file m)
propagate_one i file m (Ok x) (Ok y) ra rb sa sb = refl
propagate_one i file m (Ok x) (Err (stops.Fault f)) ra rb sa sb = absurd (cc (ra, rb.1))
propagate_one i file m (Ok x) (Err (stops.Unread name)) ra rb sa sb = absurd sb
propagate_one i file m (Ok x) (Err stops.Memory) ra rb sa sb = absurd sb
propagate_one i file m (Err (stops.Fault f)) (Ok y) ra rb sa sb = absurd (cc (ra.1, rb))
propagate_one i file m (Err (stops.Fault f)) (Err (stops.Fault g)) ra rb sa sb =
    let same : ra.0 ≡ rb.0 = cc (ra.1, rb.1) in ap (λ (h : FaultLine). Err (stops.Fault h)) (ra.2 ∙ ap (conflict_line file) same ∙ sym rb.2)
propagate_one i file m (Err (stops.Fault f)) (Err (stops.Unread name)) ra rb sa sb = absurd sb
propagate_one i file m (Err (stops.Fault f)) (Err stops.Memory) ra rb sa sb = absurd sb
propagate_one i file m (Err (stops.Unread name)) b ra rb sa sb = absurd sa
propagate_one i file m (Err stops.Memory) b ra rb sa sb = absurd sa

link_one : (case : List ℕ) (s : Sources) → IsOne (LinkTurn case s)
link_one case s (Ok x) (Ok y) ra rb sa sb = ap Ok (ra.1 ∙ sym rb.1)
link_one case s (Ok x) (Err (stops.Fault f)) ra rb sa sb = absurd (cc (ra.0, rb.1))
link_one case s (Ok x) (Err (stops.Unread name)) ra rb sa sb = absurd sb
link_one case s (Ok x) (Err stops.Memory) ra rb sa sb = absurd sb
link_one case s (Err (stops.Fault f)) (Ok y) ra rb sa sb = absurd (cc (ra.1, rb.0))
link_one case s (Err (stops.Fault f)) (Err (stops.Fault g)) ra rb sa sb =
    let same : ra.0 ≡ rb.0 = cc (ra.1, rb.1) in ap (λ (h : FaultLine). Err (stops.Fault h)) (ra.2 ∙ ap (link_line case s.case) same ∙ sym rb.2)
link_one case s (Err (stops.Fault f)) (Err (stops.Unread name)) ra rb sa sb = absurd sb
link_one case s (Err (stops.Fault f)) (Err stops.Memory) ra rb sa sb = absurd sb
link_one case s (Err (stops.Unread name)) b ra rb sa sb = absurd sa
link_one case s (Err stops.Memory) b ra rb sa sb = absurd sa

each_one : (turn : Turn) → ((file : List ℕ) (m : Module) → IsOne (turn file m)) → (ns : List CaseModule) (ms : List Module) → IsOne (EachModule turn ns ms)
each_one turn one [] ms = gives_one tt
each_one turn one (n ∷ ns) [] = gives_one tt
each_one turn one (n ∷ ns) (m ∷ ms) = then_one (turn n.file m) (λ _. EachModule turn ns ms) (one n.file m) (λ _. each_one turn one ns ms)

image_check_one : OneFirstFault → (image : Option ImageFile) → IsOne (ImageCheck image)
image_check_one one None = gives_one tt
image_check_one one (Some x) = verify_one one x.file x.text

image_one : OneFirstFault → (i : Input) → IsOne (BehindLink i)
image_one one i = then_one (ImageCheck i.besides.image) (λ _. Gives i) (image_check_one one i.besides.image) (λ _. gives_one i)

check_one : OneFirstFault → (case : List ℕ) (s : Sources) → IsOne (CheckTurn case s)
check_one one case s =
    then_one (VerifyTurn {A = Unit {0}} (origin_name s.case.kernel) s.kernel) (λ _. BehindKernel case s) (verify_one one (origin_name s.case.kernel) s.kernel)
    (λ _. then_one (EachModule VerifyTurn s.case.modules s.modules) (λ _. BehindVerified case s) (each_one VerifyTurn (verify_one one) s.case.modules s.modules)
    (λ _. then_one (EachModule (PropagateTurn s.interface) s.case.modules s.modules) (λ _. BehindSlots case s)
    (each_one (PropagateTurn s.interface) (propagate_one s.interface) s.case.modules s.modules)
    (λ _. then_one (LinkTurn case s) BehindLink (link_one case s) (image_one one))))

pub input_one : OneFirstFault → OneSources → (files : List FileText) (case : List ℕ) (asked : Asked) → IsOne (InputTurn files case asked)
input_one one sources files case asked = then_one (SourcesTurn files case asked) (CheckTurn case) (sources files case asked) (check_one one case)

pub input_ends : OneFirstFault → OneSources → MissingSourcesEnd → (files : List FileText) (case : List ℕ) (asked : Asked) → EndsAt files (InputTurn files case asked)
input_ends one sources missing files case asked =
    then_ends (SourcesTurn files case asked) (CheckTurn case) files (sources files case asked) (missing files case asked)
    (λ s file a unread none turn settled. check_reads_none case s file unread)
