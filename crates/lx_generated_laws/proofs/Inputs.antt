-- The files of a generated case are an input.
use Rattle.std.proofs.Common.{◌≡◌, ℕ, ◌≤◌, List, [], ◌∷◌, None, Ok, refl, subst}
use Rattle.std.specs.Prelude.{codes}
use Rattle.lx_generate.specs.Generated.{case_text, module_text}
use Rattle.lx_generate.specs.Interface.{interface_text}
use Rattle.lx_generate.specs.Kernel.{kernel_text}
use Rattle.lx_ir.specs.declared.module.Module.{Module}
use Rattle.lx_ir.specs.Faults.{FirstFault}
use Rattle.lx_propagate.specs.Slots.{conflict_of}
use Rattle.lx_link.specs.Answers.{link_fault}
use Rattle.lx_input.specs.Files.Asked.{nothing}
use Rattle.lx_input.specs.Files.Inputs.{ReadsModule, ReadsInterface, SourcesTurn, builtin, sources}
use Rattle.lx_input.specs.Files.Sources.{Sources}
use Rattle.lx_input.specs.Inputs.{CheckTurn, input_of, texts_of}
use Rattle.lx_generated_laws.specs.Kernel.{interface}
use Rattle.lx_generated_laws.specs.Builtin.{InterfaceIsSaid, KernelIsSound, ModuleIsSound}
use Rattle.lx_generated_laws.specs.Cases.{CasesAreSaid, generated_case}
use Rattle.lx_generated_laws.specs.Inputs.{GeneratedFilesAreInputs, generated_files, generated_name}
use Rattle.lx_generated_laws.proofs.Linking.{no_conflict, no_link_fault}
use Rattle.lx_generated_laws.proofs.Hosted.{guest, host, same_guest, same_host}
use Rattle.lx_generated_laws.proofs.Sizes.{case_within, module_within}

-- what is read of the texts that do not hang on the number of calls
record Read (k m : Module) : Type 0 where
  of_kernel : ReadsModule builtin kernel_text (Ok k)
  of_interface : ReadsInterface builtin interface_text (Ok interface)
  of_module : ReadsModule (codes "gen.ll") module_text (Ok m)

-- the interface's text is one of statements and not of prototypes, as its first line tells
interface_read : InterfaceIsSaid → ReadsInterface builtin interface_text (Ok interface)
unfolding interface_text
interface_read said = said.is

-- the files give these texts
sources_read : (k m : Module) (n : ℕ) → n ≤ 4096 → CasesAreSaid → Read k m → SourcesTurn (generated_files n) generated_name nothing (Ok (sources (generated_case n) k interface (m ∷ []) None None None))
sources_read k m n few said r = (
  Ok (generated_case n),
  (Ok (case_text n), (refl, case_within n few), said n few),
  (
    Ok None,
    refl,
    (
      Ok k,
      r.of_kernel,
      (
        Ok interface,
        r.of_interface,
        (
          Ok (m ∷ []),
          (Ok m, (Ok module_text, (refl, module_within), r.of_module), (Ok [], refl, refl)),
          (
            Ok None,
            refl,
            (Ok None, refl, refl),
          ),
        ),
      ),
    ),
  ),
)

-- and they are sound
checked : (k m : Module) (n : ℕ) (case : List ℕ) → FirstFault k None → FirstFault m None → conflict_of interface m ≡ None
    → link_fault (texts_of (sources (generated_case n) k interface (m ∷ []) None None None)) (generated_case n) ≡ None
    → CheckTurn case (sources (generated_case n) k interface (m ∷ []) None None None) (Ok (input_of (sources (generated_case n) k interface (m ∷ []) None None None)))
checked k m n case kernel modules conflict links =
    let s : Sources = sources (generated_case n) k interface (m ∷ []) None None None in (
      Ok tt,
      kernel,
      (
        Ok tt,
        (Ok tt, modules, refl),
        (
          Ok tt,
          (Ok tt, conflict, refl),
          (
            Ok (input_of s),
            (links, refl),
            (Ok tt, refl, refl),
          ),
        ),
      ),
    )

pub files_are_inputs : CasesAreSaid → KernelIsSound → InterfaceIsSaid → ModuleIsSound → GeneratedFilesAreInputs
files_are_inputs said k i m n few =
    let ke : k.read ≡ host k.read = same_host k.read k.same in
    let me : m.read ≡ guest m.read = same_guest m.read m.same in
    let read : Read (host k.read) (guest m.read) = record {
      of_kernel = subst (λ x. ReadsModule builtin kernel_text (Ok x)) ke k.is;
      of_interface = interface_read i;
      of_module = subst (λ x. ReadsModule (codes "gen.ll") module_text (Ok x)) me m.is;
    } in
    let s : Sources = sources (generated_case n) (host k.read) interface (guest m.read ∷ []) None None None in (
      input_of s,
      (
        Ok s,
        sources_read (host k.read) (guest m.read) n few said read,
        checked (host k.read) (guest m.read) n generated_name (subst (λ x. FirstFault x None) ke k.no_fault) (subst (λ x. FirstFault x None) me m.no_fault) (no_conflict m.read) (no_link_fault k.read m.read n few),
      ),
    )
