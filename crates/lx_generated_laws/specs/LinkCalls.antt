-- The first fault of small scripts, and faults as they are answered.
use Rattle.std.specs.Prelude.{◌≡◌, ℕ, Option, Some, None, List, [], ◌∷◌, pos, negsuc, codes}
use Rattle.lx_words.specs.declared.word.Width.TheVariants.{W8, W64}
use Rattle.lx_words.specs.Word.{word}
use Rattle.lx_ir.specs.declared.types.Scalar.{Scalar}
use Rattle.lx_ir.specs.declared.types.Scalar.TheVariants.{Int, Ptr}
use Rattle.lx_ir.specs.declared.module.Module.{Module}
use Rattle.lx_ir.specs.declared.instr.Op.TheVariants as op
use Rattle.lx_generated_laws.specs.RowTexts.{i64, line, block, define, declare, param, of_functions}
use Rattle.lx_script.specs.declared.case.Origin.TheVariants as origin
use Rattle.lx_script.specs.declared.case.CaseArg.{CaseArg}
use Rattle.lx_script.specs.declared.case.CaseArg.TheVariants.{Number, Address}
use Rattle.lx_script.specs.declared.case.CaseCall.{CaseCall}
use Rattle.lx_script.specs.Case.{Case}
use Rattle.lx_link_texts.specs.declared.sources.Sources.{Sources}
use Rattle.lx_link_texts.specs.declared.fault.FaultKind.TheVariants.{Missing, Unannotated, SignatureDiffers, TooLarge, KernelIndirect}
use Rattle.lx_link_texts.specs.declared.fault.Source.TheVariants as source
use Rattle.lx_link_texts.specs.Faults.{Fault, fault}
use Rattle.lx_link_texts.specs.Placing.{program_of}
use Rattle.lx_link.specs.declared.fault.LinkFault.TheVariants as answer
use Rattle.lx_link.specs.Calls.{script_fault, calls_of}
use Rattle.lx_link.specs.Answers.{answered}
use Rattle.lx_generated_laws.specs.LinkedPrograms.{lone, hosted}

-- a call of a function of the module with this number, or of the kernel, with 100 units of fuel
abbrev pub called : ℕ → Option ℕ → List ℕ → List CaseArg → CaseCall
called row home name args = record { target = record { «module» = home; function = name }; args = args; fuel = 100; line = row }

-- the calls of one thread; `m` is the module's name, `m.ll` its file, and kernel and interface are built in
abbrev pub case_of : List CaseCall → Case
case_of calls =
    record {
      kernel = origin.Builtin;
      interface = origin.File (codes "i.lxfi");
      modules = record { name = codes "m"; file = codes "m.ll" } ∷ [];
      threads = calls ∷ [];
    }

-- a module whose `@f` takes one argument of a type
abbrev pub taking : Scalar → Module
taking t = of_functions (define (codes "f") (param (codes "x") t ∷ []) [] None (block (codes "0") (line (op.Ret None) ∷ []) ∷ []) ∷ [])

-- the first fault of one call of `@f` of that module with these arguments, at line 5
abbrev pub given : Scalar → List CaseArg → Option Fault
given t args = script_fault (program_of (lone (taking t))) ((called 5 (Some 0) (codes "f") args ∷ []) ∷ [])

abbrev pub differs : Option Fault
differs = Some (fault SignatureDiffers source.Case 5 (codes "f"))

-- a module that declares `@kmalloc`, over the kernel that the program brings along
abbrev pub declaring : Sources
declaring = hosted (of_functions (declare (codes "kmalloc") (param [] i64 ∷ []) (Some Ptr) ∷ []))

pub record WorkedCalls : Type 0 where
  -- from -2^(N-1) to 2^N - 1
  pub greatest : given (Int W8) (Number (pos 255) ∷ []) ≡ None
  pub past : given (Int W8) (Number (pos 256) ∷ []) ≡ differs
  pub least : given (Int W8) (Number (negsuc 127) ∷ []) ≡ None
  pub below : given (Int W8) (Number (negsuc 128) ∷ []) ≡ differs
  -- as many as the parameters
  pub too_few : given i64 [] ≡ differs
  pub too_many : given i64 (Number (pos 1) ∷ Number (pos 2) ∷ []) ≡ differs
  -- a name stands for an address
  pub named : given i64 (Address (Some 0) (codes "f") ∷ []) ≡ None
  pub named_past : given (Int W8) (Address (Some 0) (codes "f") ∷ []) ≡ differs
  -- what is missing goes before what does not fit, and the target before an argument's name
  pub name_first : given (Int W8) (Number (pos 256) ∷ Address (Some 0) (codes "h") ∷ []) ≡ Some (fault Missing source.Case 5 (codes "h"))
  pub target_first : script_fault (program_of (lone (taking i64))) ((called 5 (Some 0) (codes "g") (Address (Some 0) (codes "h") ∷ []) ∷ []) ∷ []) ≡ Some (fault Missing source.Case 5 (codes "g"))
  -- the first call, and the first thread
  pub call_first : script_fault (program_of (lone (taking i64))) ((called 5 (Some 0) (codes "f") [] ∷ called 6 (Some 0) (codes "g") [] ∷ []) ∷ []) ≡ differs
  pub thread_first : script_fault (program_of (lone (taking i64))) (((called 5 (Some 0) (codes "f") [] ∷ []) ∷ (called 7 (Some 0) (codes "g") [] ∷ []) ∷ [])) ≡ differs
  -- a text has the names that it defines alone
  pub declared : script_fault (program_of declaring) ((called 5 (Some 0) (codes "kmalloc") (Number (pos 1) ∷ []) ∷ []) ∷ []) ≡ Some (fault Missing source.Case 5 (codes "kmalloc"))
  pub declared_name : script_fault (program_of declaring) ((called 5 None (codes "kmalloc") (Address (Some 0) (codes "kmalloc") ∷ []) ∷ []) ∷ []) ≡ Some (fault Missing source.Case 5 (codes "kmalloc"))
  pub defined_name : script_fault (program_of declaring) ((called 5 None (codes "kmalloc") (Address None (codes "lock") ∷ []) ∷ []) ∷ []) ≡ None
  -- what is linked of a call
  pub words : calls_of (program_of (lone (taking (Int W8)))) ((called 5 (Some 0) (codes "f") (Number (negsuc 0) ∷ []) ∷ []) ∷ []) ≡ ((record { function = 6; args = word W8 255 ∷ []; fuel = 100 } ∷ []) ∷ [])
  pub address : calls_of (program_of declaring) ((called 5 None (codes "kmalloc") (Address None (codes "ndevs") ∷ []) ∷ []) ∷ []) ≡ ((record { function = 6; args = word W64 0x1000010 ∷ []; fuel = 100 } ∷ []) ∷ [])
  -- the file, the line and the name, as they are answered
  pub kernels : answered (case_of []) (fault KernelIndirect source.Kernel 3 (codes "f")) ≡ answer.KernelIndirect (codes "builtin") 3 (codes "@f")
  pub interfaces : answered (case_of []) (fault Missing source.Interface 4 (codes "f")) ≡ answer.Missing (codes "i.lxfi") 4 (codes "@f")
  pub modules : answered (case_of []) (fault Unannotated (source.Module 0) 5 (codes "f")) ≡ answer.Unannotated (codes "m.ll") 5 (codes "@f")
  pub limits : answered (case_of []) (fault TooLarge (source.Module 0) 1 (codes "globals")) ≡ answer.TooLarge (codes "m.ll") 1 (codes "globals")
  pub scripts : answered (case_of []) (fault SignatureDiffers source.Case 6 (codes "f")) ≡ answer.SignatureDiffers [] 6 (codes "@f")
