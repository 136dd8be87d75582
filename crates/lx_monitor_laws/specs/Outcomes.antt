-- The line of a report for each way in which a call ends.
use Rattle.std.specs.Prelude.{◌≡◌, Some, None, List, [], ◌∷◌, codes}
use Rattle.lx_words.specs.declared.word.Width.TheVariants.{W32}
use Rattle.lx_words.specs.Word.{word}
use Rattle.lx_caps.specs.declared.Principal.TheVariants.{Kernel, Shared, Global, Inst}
use Rattle.lx_caps.specs.declared.Cap.TheVariants.{Write, Call, Ref}
use Rattle.lx_ir.specs.declared.types.Scalar.TheVariants.{Int}
use Rattle.lx_ir.specs.declared.module.Function.{Function}
use Rattle.lx_annot.specs.declared.expr.Ty.TheVariants.{I32}
use Rattle.lx_annot.specs.declared.interface.Interface.{Interface}
use Rattle.lx_annot.specs.Canonical.{Text}
use Rattle.lx_annot.specs.Rows as annotations
use Rattle.lx_model.specs.declared.program.Program.{Program}
use Rattle.lx_model.specs.declared.program.ProgramFunction.TheVariants.{Of}
use Rattle.lx_model.specs.declared.account.CallOutcome.{CallOutcome}
use Rattle.lx_model.specs.declared.account.InstanceName.{InstanceName}
use Rattle.lx_model.specs.declared.request.Outcome.{Outcome}
use Rattle.lx_model.specs.declared.request.Outcome.TheVariants.{Returned, Refused, Trapped, Budget}
use Rattle.lx_model.specs.declared.request.Refusal.TheVariants as refusal
use Rattle.lx_model.specs.declared.request.Trap.TheVariants as trap
use Rattle.lx_report.specs.Report.{call_line_of}

abbrev function : Text → Function
function name = record { name = name; params = []; locals = []; ret = Some (Int W32); blocks = Some []; line = 0 }

-- a slot type `go` that is annotated as `probe` is, and an export `send` that is annotated as `xmit` is
abbrev interface : Interface
interface = record annotations.interface {
  slots = record { name = codes "go"; params = []; ret = I32; annotation = annotations.probe; line = 0 } ∷ [];
  exports = record { name = codes "send"; params = []; ret = I32; annotation = annotations.xmit; line = 0 } ∷ [];
}

-- a kernel with `send`, and a module `m` with `poke`
abbrev program : Program
program = record {
  kernel = record { types = []; globals = []; functions = function (codes "send") ∷ [] };
  modules = record { name = codes "m"; «module» = record { types = []; globals = []; functions = function (codes "poke") ∷ [] } } ∷ [];
  functions = Of None 0 ∷ Of (Some 0) 0 ∷ [];
  globals = [];
  interface = interface;
}

abbrev names : List InstanceName
names = record { «module» = 0; instance = 0; value = 0x1000020 } ∷ []

-- a call of `poke` on thread 2, behind one on thread 0 and two of its own
abbrev calls : CallOutcome → List CallOutcome
calls last =
    record { thread = 0; function = 1; outcome = Budget } ∷ record { thread = 2; function = 1; outcome = Budget }
    ∷ record { thread = 2; function = 1; outcome = Budget } ∷ last ∷ []

abbrev last_call : Outcome → CallOutcome
last_call o = record { thread = 2; function = 1; outcome = o }

-- its line
abbrev told : Outcome → Text
told o = call_line_of program (calls (last_call o)) names (3, last_call o)

pub record WorkedOutcomes : Type 0 where
  pub nothing : told (Returned None) ≡ codes "call 2.2 m:poke returned\n"
  pub value : told (Returned (Some (word W32 7))) ≡ codes "call 2.2 m:poke returned 7\n"
  pub negative : told (Returned (Some (word W32 0xffffffff))) ≡ codes "call 2.2 m:poke returned -1\n"
  pub budget : told Budget ≡ codes "call 2.2 m:poke budget\n"
  pub unmapped : told (Trapped (trap.Unmapped 0x1100000)) ≡ codes "call 2.2 m:poke trap 1 0x1100000\n"
  pub division : told (Trapped trap.Division) ≡ codes "call 2.2 m:poke trap 2\n"
  pub unreachable : told (Trapped trap.Unreachable) ≡ codes "call 2.2 m:poke trap 3\n"
  pub stack_full : told (Trapped trap.StackFull) ≡ codes "call 2.2 m:poke trap 4\n"
  pub too_deep : told (Trapped trap.TooDeep) ≡ codes "call 2.2 m:poke trap 5\n"
  pub signature : told (Trapped (trap.Signature 0x10060)) ≡ codes "call 2.2 m:poke trap 6 0x10060\n"
  pub not_live : told (Trapped (trap.NotLive 0x2000010)) ≡ codes "call 2.2 m:poke trap 7 0x2000010\n"
  pub write : told (Refused (refusal.Write (Shared 0) 0x1000000 8)) ≡ codes "call 2.2 m:poke refused 1 m.shared write 0x1000000+8\n"
  pub call : told (Refused (refusal.Call (Global 0) 0x10070)) ≡ codes "call 2.2 m:poke refused 2 m.global call 0x10070\n"
  pub reference : told (Refused (refusal.Ref (Inst 0 0) 0 0x1000040)) ≡ codes "call 2.2 m:poke refused 3 m[0x1000020] ref device 0x1000040\n"
  pub not_annotated : told (Refused (refusal.NotAnnotated Kernel 0x10080)) ≡ codes "call 2.2 m:poke refused 4 kernel call 0x10080\n"
  pub other_annotation : told (Refused (refusal.OtherAnnotation Kernel 0x10000 0 0)) ≡
      codes "call 2.2 m:poke refused 5 kernel call 0x10000: principal($0) pre(copy(ref(device), $0)) post(if ((return < 0)) transfer(ref(device), $0)) | principal($1) pre(transfer(skb_caps($0))) post(if ((return < 0)) transfer(skb_caps($0)))\n"
  pub writer : told (Refused (refusal.Writer (Shared 0) 0x10060 0x1000100)) ≡ codes "call 2.2 m:poke refused 6 m.shared call 0x10060 slot 0x1000100\n"
  pub on_stack : told (Refused (refusal.OnStack (Shared 0) 0x3000000 16)) ≡ codes "call 2.2 m:poke refused 7 m.shared write 0x3000000+16\n"
  pub outside : told (Refused (refusal.Outside (Global 0) 0x10fffff 2)) ≡ codes "call 2.2 m:poke refused 8 m.global write 0x10fffff+2\n"
  pub alias : told (Refused (refusal.Alias (Inst 0 0) 0x1000038 0x1000020)) ≡ codes "call 2.2 m:poke refused 9 m[0x1000020] alias 0x1000038 0x1000020\n"
  pub borrowed_range : told (Refused (refusal.Borrowed (Inst 0 0) (Write 0x2000010 24))) ≡ codes "call 2.2 m:poke refused 10 m[0x1000020] write 0x2000010+24\n"
  pub borrowed_call : told (Refused (refusal.Borrowed (Shared 0) (Call 0x10060))) ≡ codes "call 2.2 m:poke refused 10 m.shared call 0x10060\n"
  pub borrowed_reference : told (Refused (refusal.Borrowed (Shared 0) (Ref 0 0x1000040))) ≡ codes "call 2.2 m:poke refused 10 m.shared ref device 0x1000040\n"
