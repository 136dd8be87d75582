-- Worked reports.
use Rattle.std.specs.Prelude.{◌≡◌, ℕ, ◌-◌, ◌^◌, Option, Some, None, List, [], ◌∷◌, ◌++◌, codes}
use Rattle.lx_words.specs.declared.word.Width.TheVariants.{W1, W32, W64}
use Rattle.lx_words.specs.Word.{word}
use Rattle.lx_caps.specs.declared.Principal.TheVariants.{Kernel, Shared, Global, Inst}
use Rattle.lx_caps.specs.declared.Cap.TheVariants.{Write, Call, Ref}
use Rattle.lx_ir.specs.declared.types.Scalar.{Scalar}
use Rattle.lx_ir.specs.declared.types.Scalar.TheVariants.{Int, Ptr}
use Rattle.lx_ir.specs.declared.module.Brackets.TheVariants as brackets
use Rattle.lx_ir.specs.declared.module.Symbol.TheVariants as symbol
use Rattle.lx_ir.specs.declared.module.Pointer.TheVariants as pointer
use Rattle.lx_ir.specs.declared.module.Constant.TheVariants as constant
use Rattle.lx_ir.specs.declared.module.GlobalVar.{GlobalVar}
use Rattle.lx_ir.specs.declared.module.Function.{Function}
use Rattle.lx_ir.specs.declared.module.Module.{Module}
use Rattle.lx_ir.specs.IrType.{One, Struct, Named, none, also}
use Rattle.lx_ir.specs.Init.{Init, Plain, Group, no_more, more}
use Rattle.lx_annot.specs.declared.expr.Ty.TheVariants as ty
use Rattle.lx_annot.specs.declared.action.Annotation.{Annotation}
use Rattle.lx_annot.specs.declared.interface.Slot.{Slot}
use Rattle.lx_annot.specs.declared.interface.Interface.{Interface}
use Rattle.lx_annot.specs.Rows as annotations
use Rattle.lx_model.specs.declared.program.Program.{Program}
use Rattle.lx_model.specs.declared.program.ProgramFunction.{ProgramFunction}
use Rattle.lx_model.specs.declared.program.ProgramFunction.TheVariants.{Of}
use Rattle.lx_model.specs.declared.request.Outcome.TheVariants.{Returned, Refused}
use Rattle.lx_model.specs.declared.request.Refusal.TheVariants as refusal
use Rattle.lx_model.specs.declared.request.Trap.TheVariants as trap
use Rattle.lx_model.specs.declared.account.Account.{Account}
use Rattle.lx_model.specs.declared.account.InstanceName.{InstanceName}
use Rattle.lx_annot.specs.Canonical.{Text}
use Rattle.lx_model.specs.Program.{empty_module}
use Rattle.lx_report.specs.Report.{report_text, refusal_text, trap_text, outcome_text, principal_text, note_line}

abbrev define : Text → Option Scalar → Function
define name ret = record { name = name; params = []; locals = []; ret = ret; blocks = Some []; line = 0 }

abbrev with_functions : List Function → Module
with_functions functions = record { types = []; globals = []; functions = functions }

-- a program of a kernel and of one module, `m`
abbrev of_two : Module → Module → List ProgramFunction → Interface → Program
of_two kernel m functions i =
    record {
      kernel = kernel;
      modules = record { name = codes "m"; «module» = m } ∷ [];
      functions = functions;
      globals = [];
      interface = i;
    }

-- one function of the module, and no kernel
abbrev alone : Function → Program
alone f = of_two empty_module (with_functions (f ∷ [])) (Of (Some 0) 0 ∷ []) annotations.interface

-- a call that returns a word, within its own global
abbrev stored : Account
stored =
    record {
      schedule = 0 ∷ 0 ∷ 0 ∷ 0 ∷ 0 ∷ [];
      outcomes = record { thread = 0; function = 0; outcome = Returned (Some (word W32 7)) } ∷ [];
      notes = [];
      images = record { guards = 1; checks = 0; wrappers = 0 } ∷ [];
      owners =
          record { who = Shared 0; cap = Write 0x1000000 4 } ∷ record { who = Shared 0; cap = Call 0x10060 } ∷ [];
      names = [];
    }

-- a store past the end of a global
abbrev past : Account
past =
    record {
      schedule = 0 ∷ 0 ∷ [];
      outcomes = record { thread = 0; function = 0; outcome = Refused (refusal.Write (Shared 0) 0x1000000 8) } ∷ [];
      notes = [];
      images = record { guards = 1; checks = 0; wrappers = 0 } ∷ [];
      owners =
          record { who = Shared 0; cap = Write 0x1000000 7 } ∷ record { who = Shared 0; cap = Call 0x10060 } ∷ [];
      names = [];
    }

-- a module function without a result, and a kernel function with one
abbrev probing : Program
probing =
    of_two (with_functions (define (codes "do_probe") (Some (Int W32)) ∷ [])) (with_functions (define (codes "init") None ∷ []))
    (Of None 0 ∷ Of (Some 0) 0 ∷ []) annotations.interface

-- a store over bytes of the shared principal and of an instance
abbrev spanned : Account
spanned =
    record {
      schedule =
          0 ∷ 0 ∷ 0 ∷ 0 ∷ 0 ∷ 0 ∷ 0 ∷ 0 ∷ 0 ∷ 0 ∷ 0 ∷ 0 ∷ 0 ∷ 0 ∷ 0 ∷ 0 ∷ 0 ∷ 0 ∷ 0 ∷ 0 ∷ 0 ∷ 0 ∷ 0 ∷ 0 ∷ 0 ∷ [];
      outcomes =
          record { thread = 0; function = 1; outcome = Returned None }
          ∷ record { thread = 0; function = 0; outcome = Returned (Some (word W32 0)) } ∷ [];
      notes = [];
      images = record { guards = 1; checks = 0; wrappers = 3 } ∷ [];
      owners =
          record { who = Shared 0; cap = Write 0x10000e0 24 }
          ∷ record { who = Shared 0; cap = Call 0x10090 }
          ∷ record { who = Shared 0; cap = Call 0x100c0 }
          ∷ record { who = Shared 0; cap = Call 0x10130 }
          ∷ record { who = Shared 0; cap = Call 0x10140 }
          ∷ record { who = Inst 0 0; cap = Write 0x10000f8 8 }
          ∷ record { who = Inst 0 0; cap = Ref 0 0x1000020 } ∷ [];
      names = record { «module» = 0; instance = 0; value = 0x1000020 } ∷ [];
    }

-- two threads, a note and a refusal on the second thread
abbrev sending : Program
sending =
    of_two empty_module
    (with_functions (define (codes "make") None ∷ define (codes "send") (Some (Int W32)) ∷ define (codes "poke") None ∷ []))
    (Of (Some 0) 0 ∷ Of (Some 0) 1 ∷ Of (Some 0) 2 ∷ []) annotations.interface

abbrev raced : Account
raced =
    record {
      schedule =
          0 ∷ 0 ∷ 0 ∷ 0 ∷ 0 ∷ 0 ∷ 0 ∷ 0 ∷ 0 ∷ 0 ∷ 0 ∷ 0 ∷ 0 ∷ 0 ∷ 0 ∷ 0 ∷ 1 ∷ 1 ∷ 1 ∷ 1 ∷ 0 ∷ 0 ∷ 0 ∷ 0 ∷ 1 ∷ 0 ∷ 0
          ∷ 0 ∷ 0 ∷ 0 ∷ [];
      outcomes =
          record { thread = 0; function = 0; outcome = Returned None }
          ∷ record { thread = 0; function = 1; outcome = Returned (Some (word W32 0)) }
          ∷ record { thread = 1; function = 2; outcome = Refused (refusal.Write (Shared 0) 0x2000040 1) } ∷ [];
      notes = record { thread = 0; value = 8 } ∷ [];
      images = record { guards = 3; checks = 0; wrappers = 2 } ∷ [];
      owners = record { who = Shared 0; cap = Write 0x10000e0 8 } ∷ record { who = Shared 0; cap = Call 0x100d0 } ∷ [];
      names = [];
    }

-- two slot types, and a module whose function `xmit` stands in a slot of the second one
abbrev slot : Text → Annotation → Slot
slot name a = record { name = name; params = []; ret = ty.I32; annotation = a; line = 0 }

abbrev with_slots : Interface
with_slots =
    record annotations.interface {
      slots = slot (codes "probe") annotations.probe ∷ slot (codes "xmit") annotations.xmit ∷ [];
      fields =
          record { name = codes "struct.dev_ops"; index = 0; slot = 0; line = 0 }
          ∷ record { name = codes "struct.dev_ops"; index = 1; slot = 1; line = 0 } ∷ [];
    }

abbrev held : ℕ → Init
held f = Plain (constant.Pointer (pointer.Symbol (symbol.Function f) 0))

abbrev ops : GlobalVar
ops =
    record {
      name = codes "ops";
      constant = Rattle.std.specs.Prelude.false;
      ty = Named 0;
      init = Group brackets.Struct (One Ptr ∷ One Ptr ∷ []) (more (held 0) (more (held 1) no_more));
      line = 0;
    }

abbrev swapped : Program
swapped =
    of_two empty_module
    (record {
      types = record { name = codes "struct.dev_ops"; ty = Struct (also (One Ptr) (also (One Ptr) none)) } ∷ [];
      globals = ops ∷ [];
      functions = define (codes "probe") (Some (Int W32)) ∷ define (codes "xmit") (Some (Int W32)) ∷ [];
    })
    (Of (Some 0) 0 ∷ Of (Some 0) 1 ∷ []) with_slots

-- the names of two instances
abbrev two_names : List InstanceName
two_names = record { «module» = 0; instance = 0; value = 0x1000020 } ∷ record { «module» = 0; instance = 1; value = 0 } ∷ []

pub record WorkedReports : Type 0 where
  pub within : report_text (alone (define (codes "main") (Some (Int W32)))) stored ≡
      codes "schedule 0*5\n" ++ codes "call 0.0 m:main returned 7\n" ++ codes "image m guards 1 checks 0 wrappers 0\n"
      ++ codes "owns m.shared write 0x1000000+4\n" ++ codes "owns m.shared call 0x10060\n"
  pub past_the_end : report_text (alone (define (codes "main") None)) past ≡
      codes "schedule 0*2\n" ++ codes "call 0.0 m:main refused 1 m.shared write 0x1000000+8\n"
      ++ codes "image m guards 1 checks 0 wrappers 0\n" ++ codes "owns m.shared write 0x1000000+7\n"
      ++ codes "owns m.shared call 0x10060\n"
  pub across : report_text probing spanned ≡
      codes "schedule 0*25\n" ++ codes "call 0.0 m:init returned\n" ++ codes "call 0.1 kernel:do_probe returned 0\n"
      ++ codes "image m guards 1 checks 0 wrappers 3\n" ++ codes "owns m.shared write 0x10000e0+24\n"
      ++ codes "owns m.shared call 0x10090\n" ++ codes "owns m.shared call 0x100c0\n" ++ codes "owns m.shared call 0x10130\n"
      ++ codes "owns m.shared call 0x10140\n" ++ codes "owns m[0x1000020] write 0x10000f8+8\n"
      ++ codes "owns m[0x1000020] ref device 0x1000020\n"
  pub racing : report_text sending raced ≡
      codes "schedule 0*16 1*4 0*4 1*1 0*5\n" ++ codes "call 0.0 m:make returned\n" ++ codes "call 0.1 m:send returned 0\n"
      ++ codes "call 1.0 m:poke refused 1 m.shared write 0x2000040+1\n" ++ codes "note 0 8\n"
      ++ codes "image m guards 3 checks 0 wrappers 2\n" ++ codes "owns m.shared write 0x10000e0+8\n"
      ++ codes "owns m.shared call 0x100d0\n"
  pub another_annotation : refusal_text swapped [] (refusal.OtherAnnotation Kernel 0x10180 0 1) ≡
      codes "refused 5 kernel call 0x10180: principal($0) pre(copy(ref(device), $0)) post(if ((return < 0)) transfer(ref(device), $0)) | principal($1) pre(transfer(skb_caps($0))) post(if ((return < 0)) transfer(skb_caps($0)))"
  pub writer : refusal_text swapped [] (refusal.Writer (Shared 0) 0x10100 0x10000e0) ≡ codes "refused 6 m.shared call 0x10100 slot 0x10000e0"
  pub alias : refusal_text swapped two_names (refusal.Alias (Inst 0 0) 0x1000038 0x1000020) ≡ codes "refused 9 m[0x1000020] alias 0x1000038 0x1000020"
  pub null_name : principal_text swapped two_names (Inst 0 1) ≡ codes "m[0x0]"
  pub reference : refusal_text swapped [] (refusal.Ref (Shared 0) 0 0x1000020) ≡ codes "refused 3 m.shared ref device 0x1000020"
  pub beyond : refusal_text swapped [] (refusal.Outside (Global 0) (2 ^ 64 - 8) 16) ≡ codes "refused 8 m.global write 0xfffffffffffffff8+16"
  pub borrowed : refusal_text swapped two_names (refusal.Borrowed (Inst 0 0) (Write 0x2000010 24)) ≡ codes "refused 10 m[0x1000020] write 0x2000010+24"
  pub negative : outcome_text swapped [] 0 (Returned (Some (word W32 4294967291))) ≡ codes "returned -5"
  pub truth : outcome_text (alone (define (codes "is") (Some (Int W1)))) [] 0 (Returned (Some (word W1 1))) ≡ codes "returned 1"
  pub address : outcome_text (alone (define (codes "at") (Some Ptr))) [] 0 (Returned (Some (word W64 0x2000010))) ≡ codes "returned 0x2000010"
  pub not_live : trap_text (trap.NotLive 0) ≡ codes "trap 7 0x0"
  pub minus : note_line (record { thread = 3; value = 2 ^ 64 - 1 }) ≡ codes "note 3 -1\n"
