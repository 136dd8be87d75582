-- What linking answers, and what is linked.
use Rattle.std.proofs.Common.{◌≡◌, ◌∙◌, sym, ap, subst, refl, ℕ, suc, ◌≤◌, List, [], ◌∷◌, length, map, Option, Some, None, Ok, Err, inl, inr, arith}
use Rattle.std.specs.Prelude.{All}
use Rattle.std.proofs.lemmas.List.{length-map}
use Rattle.lx_ir.specs.declared.module.Module.{Module}
use Rattle.lx_annot.specs.declared.interface.Interface.{Interface}
use Rattle.lx_slot_types.specs.declared.Marked.{Marked}
use Rattle.lx_propagate.specs.Slots.{annotated_of}
use Rattle.lx_script.specs.declared.case.CaseModule.{CaseModule}
use Rattle.lx_script.specs.declared.case.CaseCall.{CaseCall}
use Rattle.lx_script.specs.Case.{Case}
use Rattle.lx_model.specs.declared.program.Program.{Program}
use Rattle.lx_model.specs.declared.program.ProgramModule.{ProgramModule}
use Rattle.lx_model.specs.declared.program.ScriptCall.{ScriptCall}
use Rattle.lx_link_texts.specs.Placing.{program_of}
use Rattle.lx_link_texts.specs.WellFormed.{IsWellFormed, FitsCalls, texts_of as texts_of_program}
use Rattle.lx_link.specs.declared.linked.LinkedParts.{LinkedParts}
use Rattle.lx_link.specs.Calls.{calls_of, resolved}
use Rattle.lx_link_texts.specs.declared.fault.FaultKind.{FaultKind}
use Rattle.lx_link_texts.specs.declared.fault.FaultKind.TheVariants as links
use Rattle.lx_link_texts.specs.Faults.{Fault, all_annotated}
use Rattle.lx_link.specs.declared.fault.LinkFault.{LinkFault}
use Rattle.lx_link.specs.Answers.{IsFault, answered, fault_named, file_of, link_fault, linked_of, named_modules, sources_of, what_of}
use Rattle.lx_files.specs.declared.line.FaultLine.{FaultLine}
use Rattle.lx_files.specs.declared.stop.InputStop.{InputStop}
use Rattle.lx_files.specs.declared.stop.InputStop.TheVariants as stops
use Rattle.lx_files.specs.declared.line.FaultKind.TheVariants as kinds
use Rattle.lx_files.specs.declared.sources.Besides.{Besides}
use Rattle.lx_files.specs.declared.sources.Sources.{Sources}
use Rattle.lx_files.specs.Sound.{IsOneOf}
use Rattle.lx_files.specs.Faults.{IsTold, fault_at}
use Rattle.lx_input.specs.declared.input.Input.{Input}
use Rattle.lx_input.specs.Lines.{link_answer, link_line, link_number, named_or}
use Rattle.lx_input.specs.Inputs.{LinkTurn, texts_of}
use Rattle.lx_input.specs.Laws.{HasNoConflict, IsLinkedInput, IsModuleNumber}
use Rattle.lx_input.proofs.Agreeing.{all_named}

-- the line of an answer is that of the fault

number_answer : (case : List ℕ) (kind : FaultKind) (file : List ℕ) (line : ℕ) (what : List ℕ) → link_answer case (fault_named kind file line what) ≡ Some (fault_at (named_or case file) kinds.Link (link_number kind) line what)
number_answer case links.Missing file line what = refl
number_answer case links.Unannotated file line what = refl
number_answer case links.SignatureDiffers file line what = refl
number_answer case links.TooLarge file line what = refl
number_answer case links.KernelIndirect file line what = refl

line_answer : (case : List ℕ) (c : Case) (x : Fault) → link_answer case (answered c x) ≡ Some (link_line case c x)
line_answer case c x = number_answer case x.kind (file_of c x.source) x.line (what_of x.kind x.name)

link_fault_told : (case : List ℕ) (c : Case) (e : LinkFault) (f : FaultLine) (found : Option Fault) → link_answer case e ≡ Some f → IsFault c found e → (x : Fault) × (found ≡ Some x) × (f ≡ link_line case c x)
link_fault_told case c e f found told (inl memory) = let none : link_answer case e ≡ None = ap (link_answer case) memory in absurd (cc (none, told))
link_fault_told case c e f found told (inr (x, is, named)) =
    let there : link_answer case e ≡ Some (link_line case c x) = ap (link_answer case) named ∙ line_answer case c x in
    (x, is, cc (there, told))

pub link_told : (case : List ℕ) (s : Sources) (e : LinkFault) (stop : InputStop) → IsFault s.case (link_fault (texts_of s) s.case) e → IsTold (link_answer case e) stop → LinkTurn case s (Err stop)
link_told case s e stops.Memory is told = tt
link_told case s e (stops.Fault f) is told = link_fault_told case s.case e f (link_fault (texts_of s) s.case) told is
link_told case s e (stops.Unread name) is told = absurd told

-- what is linked is the input

all_marked_by : (i : Interface) (ns : List CaseModule) (ms : List Module) → length ms ≡ length ns
    → map (annotated_of i) ms ≡ map (λ (m : ProgramModule). annotated_of i m.«module») (named_modules ns ms)
all_marked_by i [] [] as_many = refl
all_marked_by i [] (m ∷ ms) as_many = absurd (omega (arith, as_many))
all_marked_by i (n ∷ ns) [] as_many = absurd (omega (arith, as_many))
all_marked_by i (n ∷ ns) (m ∷ ms) as_many = ap (λ (xs : List (List Marked)). annotated_of i m ∷ xs) (all_marked_by i ns ms (omega (arith, as_many)))

as_many_named : (ns : List CaseModule) (ms : List Module) → length ms ≡ length ns → length (named_modules ns ms) ≡ length ms
as_many_named [] [] as_many = refl
as_many_named [] (m ∷ ms) as_many = absurd (omega (arith, as_many))
as_many_named (n ∷ ns) [] as_many = absurd (omega (arith, as_many))
as_many_named (n ∷ ns) (m ∷ ms) as_many = ap suc (as_many_named ns ms (omega (arith, as_many)))

pub all_marked : (kernel : Module) (i : Interface) (ns : List CaseModule) (ms : List Module) (marks : List (List Marked)) → length ms ≡ length ns → marks ≡ map (annotated_of i) ms
    → marks ≡ all_annotated (sources_of kernel i (named_modules ns ms))
all_marked kernel i ns ms marks as_many is = is ∙ all_marked_by i ns ms as_many

abbrev input : Program → List (List ScriptCall) → List (List Marked) → Besides → Input
input p script marks besides = record { program = p; script = script; annotated = marks; besides = besides }

same_input : (p q : Program) (cs ds : List (List ScriptCall)) (ms ns : List (List Marked)) (besides : Besides) → p ≡ q → cs ≡ ds → ms ≡ ns → input p cs ms besides ≡ input q ds ns besides
same_input p q cs ds ms ns besides e f g =
    ap (λ (x : Program). input x cs ms besides) e
    ∙ ap (λ (x : List (List ScriptCall)). input q x ms besides) f
    ∙ ap (λ (x : List (List Marked)). input q ds x besides) g

module _ (case : List ℕ) (s : Sources) (linked : LinkedParts) (p : Program) (script : List (List ScriptCall)) (marks : List (List Marked))
    (is : linked ≡ linked_of (texts_of s) s.case) (program_is : p ≡ linked.program) (script_is : script ≡ linked.calls) (marks_are : marks ≡ all_annotated (texts_of s)) where
  program_of_texts : p ≡ program_of (texts_of s)
  program_of_texts = program_is ∙ ap (λ (x : LinkedParts). x.program) is

  calls_of_script : script ≡ calls_of (program_of (texts_of s)) s.case.threads
  calls_of_script = script_is ∙ ap (λ (x : LinkedParts). x.calls) is

  pub is_input : link_fault (texts_of s) s.case ≡ None → LinkTurn case s (Ok (record { program = p; script = script; annotated = marks; besides = s.besides }))
  is_input none = (
    none,
    same_input p (program_of (texts_of s)) script (calls_of (program_of (texts_of s)) s.case.threads) marks (all_annotated (texts_of s)) s.besides
        program_of_texts calls_of_script marks_are,
  )

  few_calls : length s.case.threads ≤ 16 → length script ≤ 16
  few_calls few =
      let as_many : length script ≡ length s.case.threads =
      ap length calls_of_script ∙ length-map s.case.threads (λ (calls : List CaseCall). map (resolved (program_of (texts_of s))) calls) in
      omega (arith, as_many, few)

  -- the program has the modules of the texts
  pub is_number : length s.modules ≡ length s.case.modules → (number : Option ℕ) → IsOneOf s.modules number → IsModuleNumber p number
  is_number as_many None below = tt
  is_number as_many (Some k) below =
      let modules : length p.modules ≡ length (named_modules s.case.modules s.modules) = ap (λ (q : Program). length q.modules) program_of_texts in
      let named : length (named_modules s.case.modules s.modules) ≡ length s.modules = as_many_named s.case.modules s.modules as_many in
      omega (arith, below, modules, named)

  pub is_linked : IsWellFormed linked.program → FitsCalls linked.program linked.calls → length s.case.threads ≤ 16 → length s.modules ≡ length s.case.modules → IsOneOf s.modules s.besides.number
      → All (HasNoConflict s.interface) s.modules → IsLinkedInput (record { program = p; script = script; annotated = marks; besides = s.besides })
  is_linked formed fits few as_many below agree = record {
    formed = subst IsWellFormed (sym program_is) formed;
    fits = subst (λ (q : Program). FitsCalls q script) (sym program_is) (subst (FitsCalls linked.program) (sym script_is) fits);
    few = few_calls few;
    annotated = marks_are ∙ ap (λ (q : Program). all_annotated (texts_of_program q)) (sym program_of_texts);
    agree =
        subst (λ (q : Program). All (λ (m : ProgramModule). HasNoConflict q.interface m.«module») q.modules) (sym program_of_texts)
        (all_named s.interface s.case.modules s.modules agree);
    number = is_number as_many s.besides.number below;
  }
