-- Lines about what is wrong with texts that were read.
use Rattle.std.specs.Prelude.{ℕ, List, [], ◌∷◌, ◌++◌, codes, Option, Some, None}
use Rattle.lx_ir.specs.Faults.{Fault, TypeDiffers, NoSuchLabel, NotAssigned, PhiEdges, NoTerminator}
use Rattle.lx_ir_verify.specs.declared.fault.VerifyFault.{VerifyFault}
use Rattle.lx_ir_verify.specs.declared.fault.VerifyFault.TheVariants as verifies
use Rattle.lx_propagate.specs.Slots.{Conflict}
use Rattle.lx_propagate.specs.declared.fault.PropagateFault.{PropagateFault}
use Rattle.lx_propagate.specs.declared.fault.PropagateFault.TheVariants as propagates
use Rattle.lx_link_texts.specs.declared.fault.FaultKind.{FaultKind}
use Rattle.lx_link_texts.specs.declared.fault.FaultKind.TheVariants as links
use Rattle.lx_link_texts.specs.declared.fault.Source.{Source}
use Rattle.lx_link_texts.specs.Faults.{Fault as LinkFault}
use Rattle.lx_link.specs.declared.fault.LinkFault.{LinkFault as LinkAnswer}
use Rattle.lx_link.specs.declared.fault.LinkFault.TheVariants as answers
use Rattle.lx_link.specs.Answers.{file_of, what_of}
use Rattle.lx_script.specs.Case.{Case}
use Rattle.lx_files.specs.declared.line.FaultKind.TheVariants as kinds
use Rattle.lx_files.specs.declared.line.FaultLine.{FaultLine}
use Rattle.lx_files.specs.Faults.{fault_at}

-- the line about a fault that the verifier finds
abbrev pub verify_line : List ℕ → Fault → FaultLine
verify_line file (TypeDiffers line what) = fault_at file kinds.Verify 1 line what
verify_line file (NoSuchLabel line what) = fault_at file kinds.Verify 2 line what
verify_line file (NotAssigned line what) = fault_at file kinds.Verify 3 line what
verify_line file (PhiEdges line what) = fault_at file kinds.Verify 4 line what
verify_line file (NoTerminator line what) = fault_at file kinds.Verify 5 line what

-- `@FUNCTION FIRST SECOND`
abbrev pub conflict_text : Conflict → List ℕ
conflict_text x = codes "@" ++ x.function ++ codes " " ++ x.first ++ codes " " ++ x.second

-- the line about a function that gets two slot types that differ
abbrev pub conflict_line : List ℕ → Conflict → FaultLine
conflict_line file x = fault_at file kinds.Propagate 1 x.line (conflict_text x)

abbrev pub link_number : FaultKind → ℕ
link_number links.Missing = 1
link_number links.Unannotated = 2
link_number links.SignatureDiffers = 3
link_number links.TooLarge = 4
link_number links.KernelIndirect = 5

abbrev pub named_or : List ℕ → List ℕ → List ℕ
named_or case [] = case
named_or case (b ∷ bs) = b ∷ bs

-- the file of a text; what has no file of its own, as a call of the script, stands in the case, which has this name
abbrev pub linked_file : List ℕ → Case → Source → List ℕ
linked_file case c s = named_or case (file_of c s)

-- the line about what does not link
abbrev pub link_line : List ℕ → Case → LinkFault → FaultLine
link_line case c x = fault_at (linked_file case c x.source) kinds.Link (link_number x.kind) x.line (what_of x.kind x.name)

-- The same of what the checks answer. Want of memory is no fault of a text.

abbrev pub verify_answer : List ℕ → VerifyFault → Option FaultLine
verify_answer file verifies.Memory = None
verify_answer file (verifies.TypeDiffers line what) = Some (fault_at file kinds.Verify 1 line what)
verify_answer file (verifies.NoSuchLabel line what) = Some (fault_at file kinds.Verify 2 line what)
verify_answer file (verifies.NotAssigned line what) = Some (fault_at file kinds.Verify 3 line what)
verify_answer file (verifies.PhiEdges line what) = Some (fault_at file kinds.Verify 4 line what)
verify_answer file (verifies.NoTerminator line what) = Some (fault_at file kinds.Verify 5 line what)

abbrev pub propagate_answer : List ℕ → PropagateFault → Option FaultLine
propagate_answer file propagates.Memory = None
propagate_answer file (propagates.Conflict line function first second) =
    Some (conflict_line file (record { line = line; function = function; first = first; second = second }))

abbrev pub link_answer : List ℕ → LinkAnswer → Option FaultLine
link_answer case answers.Memory = None
link_answer case (answers.Missing file line what) = Some (fault_at (named_or case file) kinds.Link 1 line what)
link_answer case (answers.Unannotated file line what) = Some (fault_at (named_or case file) kinds.Link 2 line what)
link_answer case (answers.SignatureDiffers file line what) = Some (fault_at (named_or case file) kinds.Link 3 line what)
link_answer case (answers.TooLarge file line what) = Some (fault_at (named_or case file) kinds.Link 4 line what)
link_answer case (answers.KernelIndirect file line what) = Some (fault_at (named_or case file) kinds.Link 5 line what)
