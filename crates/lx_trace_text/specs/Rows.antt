-- Worked texts of events.
use Rattle.std.specs.Prelude.{◌≡◌, ℕ, Bool, true, false, Option, Some, None, List, [], ◌∷◌, ◌++◌, codes}
use Rattle.lx_words.specs.declared.word.Width.TheVariants.{W1, W8, W16, W32, W64}
use Rattle.lx_words.specs.Word.{word}
use Rattle.lx_caps.specs.declared.Principal.{Principal}
use Rattle.lx_caps.specs.declared.Principal.TheVariants.{Kernel, Shared, Global, Inst}
use Rattle.lx_ir.specs.declared.module.GlobalVar.{GlobalVar}
use Rattle.lx_ir.specs.Init.{Bytes}
use Rattle.lx_ir.specs.IrType.{Array, One}
use Rattle.lx_ir.specs.declared.types.Scalar.{Scalar}
use Rattle.lx_ir.specs.declared.types.Scalar.TheVariants.{Int}
use Rattle.lx_ir.specs.declared.module.Function.{Function}
use Rattle.lx_ir.specs.declared.module.Module.{Module}
use Rattle.lx_annot.specs.declared.expr.Ty.TheVariants as ty
use Rattle.lx_annot.specs.declared.interface.Slot.{Slot as SlotType}
use Rattle.lx_annot.specs.Canonical.{Text}
use Rattle.lx_annot.specs.Rows as annotations
use Rattle.lx_model.specs.declared.program.Program.{Program}
use Rattle.lx_model.specs.declared.program.ProgramFunction.TheVariants.{Native, Of}
use Rattle.lx_model.specs.declared.account.InstanceName.{InstanceName}
use Rattle.lx_model.specs.declared.request.Outcome.TheVariants.{Returned, Refused, Trapped, Budget}
use Rattle.lx_model.specs.declared.request.Refusal.TheVariants as refusal
use Rattle.lx_model.specs.declared.request.Trap.TheVariants as trap
use Rattle.lx_model.specs.declared.request.Reply.{Reply}
use Rattle.lx_model.specs.declared.request.Reply.TheVariants.{Value, Done, Entered, Ended}
use Rattle.lx_model.specs.declared.request.Way.TheVariants.{Script, Direct, Indirect, Slot}
use Rattle.lx_model.specs.declared.request.What.{What}
use Rattle.lx_model.specs.declared.request.What.TheVariants as what
use Rattle.lx_trace_text.specs.declared.Site.{Site}
use Rattle.lx_trace_text.specs.declared.Traced.{Traced}
use Rattle.lx_trace_text.specs.Text.{event_line, trace_text}

-- a function of this name and result
abbrev define : Text → Option Scalar → Function
define name ret = record { name = name; params = []; locals = []; ret = ret; blocks = Some []; line = 0 }

-- a text of functions alone
abbrev with_functions : List Function → Module
with_functions functions = record { types = []; globals = []; functions = functions }

-- a global of 16 bytes
abbrev ops : GlobalVar
ops = record { name = codes "ops"; constant = false; ty = Array 2 (One (Int W64)); init = Bytes []; line = 0 }

-- a slot type
abbrev slot : SlotType
slot = record { name = codes "xmit"; params = []; ret = ty.I32; annotation = annotations.xmit; line = 0 }

-- a native, a function of the kernel with a result, and one of a module, `m`, which has a global
abbrev program : Program
program =
    record {
      kernel = with_functions (define (codes "probe") (Some (Int W32)) ∷ []);
      modules = record { name = codes "m"; «module» = record (with_functions (define (codes "poke") None ∷ [])) { globals = ops ∷ [] } } ∷ [];
      functions = Native 0 ∷ Of None 0 ∷ Of (Some 0) 0 ∷ [];
      globals = record { «module» = Some 0; global = 0; at = 0x1000000 } ∷ [];
      interface = record annotations.interface { slots = slot ∷ [] };
    }

-- the name of an instance
abbrev names : List InstanceName
names = record { «module» = 0; instance = 0; value = 0x2000000 } ∷ []

-- a line of the kernel's function
abbrev in_probe : Option Site
in_probe = Some (record { function = 1; line = 12 })

-- a line of the module's
abbrev in_poke : Option Site
in_poke = Some (record { function = 2; line = 17 })

-- an event of a thread's second call, which calls the kernel's function
abbrev event : Principal → Option Site → What → Reply → Traced
event who site w r =
    record { thread = 0; call = 1; function = 1; site = site; request = record { who = who; what = w }; reply = r }

-- its line, as the event with number 12, where no block is known
abbrev line_of : Principal → Option Site → What → Reply → Text
line_of who site w r = event_line program names [] 12 (event who site w r)

-- a load by the kernel's function, which reads 0, and a store of 0
abbrev loads : ℕ → Traced
loads at = event Kernel in_probe (what.Load at W64) (Value (word W64 0))

abbrev stores : ℕ → Traced
stores at = event Kernel in_probe (what.Store at (word W8 0)) Done

-- it allocates 64 bytes, which it gets at this address, and frees what it got there
abbrev allocates : ℕ → Traced
allocates at = event Kernel in_probe (what.Native 0 (word W64 64 ∷ [])) (Value (word W64 at))

abbrev frees : ℕ → Traced
frees at = event Kernel in_probe (what.Native 1 (word W64 at ∷ [])) Done

-- it takes bytes of its stack, and leaves them
abbrev takes : ℕ → ℕ → Traced
takes at size = event Kernel in_probe (what.Alloca at size) Done

abbrev leaves : ℕ → ℕ → Traced
leaves low high = event Kernel in_probe (what.Return low high) Done

-- its call ends
abbrev ends_call : Traced
ends_call = event Kernel None (what.Finish Budget) (Ended Budget)

-- the same of another thread's event
abbrev in_second : Traced → Traced
in_second e = record e { thread = 1 }

-- the text of events
abbrev told : List Traced → Text
told events = trace_text program names events

-- an action of the kernel's function, before its body or behind it
abbrev perform : Bool → ℕ → Principal → Principal → What
perform post index source dest = what.Perform 1 post index (record { args = word W64 0x2000040 ∷ []; ret = None }) source dest

pub record WorkedTraceTexts : Type 0 where
  -- events are numbered from 0
  pub numbered : trace_text program names
      (event Kernel None (what.Enter (Script 1) (word W64 0x2000040 ∷ [])) (Entered 1 Kernel false)
      ∷ event Kernel in_probe (what.Load 0x2000040 W32) (Value (word W32 4294967291)) ∷ []) ≡
      codes "done 0 0.1 kernel script: calls kernel:probe(0x2000040) enters kernel:probe as kernel\n"
      ++ codes "done 1 0.1 kernel kernel:probe:12: load i32 at 0x2000040 = -5\n"
  pub nothing : trace_text program names [] ≡ []
  -- a store that is refused
  pub refused : line_of (Shared 0) in_poke (what.Store 0x2000064 (word W8 5)) (Ended (Refused (refusal.Write (Shared 0) 0x2000064 1))) ≡
      codes "refused 12 0.1 m.shared m:poke:17: store i8 5 at 0x2000064: refused 1 m.shared write 0x2000064+1\n"
  -- a function's address is told with the function, and a native's is not
  pub trapped : line_of (Inst 0 0) in_poke (what.Load 0x10010 W16) (Ended (Trapped (trap.Unmapped 0x10010))) ≡
      codes "trap 12 0.1 m[0x2000000] m:poke:17: load i16 at 0x10010 (kernel:probe): trap 1 0x10010\n"
  pub native_at : line_of Kernel in_probe (what.Store 0x10000 (word W64 0)) (Ended (Trapped (trap.Unmapped 0x10000))) ≡
      codes "trap 12 0.1 kernel kernel:probe:12: store i64 0x0 at 0x10000: trap 1 0x10000\n"
  -- a truth value
  pub truth : line_of Kernel in_probe (what.Store 0x2000040 (word W1 1)) Done ≡
      codes "done 12 0.1 kernel kernel:probe:12: store i1 1 at 0x2000040\n"
  pub copy : line_of Kernel in_probe (what.Copy 0x2000080 0x2000040 16) Done ≡
      codes "done 12 0.1 kernel kernel:probe:12: copy 16 from 0x2000040 to 0x2000080\n"
  pub fill : line_of Kernel in_probe (what.Fill 0x2000040 0 16) Done ≡
      codes "done 12 0.1 kernel kernel:probe:12: fill 16 with 0 at 0x2000040\n"
  pub room : line_of (Global 0) in_poke (what.Alloca 0x3000000 16) Done ≡
      codes "done 12 0.1 m.global m:poke:17: alloca 16 at 0x3000000\n"
  pub left : line_of (Global 0) in_poke (what.Return 0x3000000 0x3000010) Done ≡
      codes "done 12 0.1 m.global m:poke:17: leaves 16 at 0x3000000\n"
  -- calls by a number, by an address, and through a slot
  pub direct : line_of (Shared 0) in_poke (what.Enter (Direct 1) []) (Entered 1 Kernel true) ≡
      codes "done 12 0.1 m.shared m:poke:17: calls kernel:probe() enters kernel:probe as kernel\n"
  pub indirect : line_of Kernel in_probe (what.Enter (Indirect 0x10020) (word W8 255 ∷ word W64 16 ∷ word W1 0 ∷ [])) (Entered 2 (Inst 0 0) true) ≡
      codes "done 12 0.1 kernel kernel:probe:12: calls 0x10020 (m:poke)(-1, 0x10, 0) enters m:poke as m[0x2000000]\n"
  pub through_slot : line_of Kernel in_probe (what.Enter (Slot 0x10000e0 0) []) (Entered 2 (Shared 0) true) ≡
      codes "done 12 0.1 kernel kernel:probe:12: calls slot xmit at 0x10000e0() enters m:poke as m.shared\n"
  pub no_slot : line_of Kernel in_probe (what.Enter (Slot 0x10000e0 1) []) (Entered 2 (Shared 0) true) ≡
      codes "done 12 0.1 kernel kernel:probe:12: calls slot  at 0x10000e0() enters m:poke as m.shared\n"
  pub native : line_of Kernel in_probe (what.Native 0 (word W64 64 ∷ [])) (Value (word W64 0x2000040)) ≡
      codes "done 12 0.1 kernel kernel:probe:12: calls k.alloc(0x40) = 0x2000040\n"
  pub alias : line_of Kernel in_probe (what.Native 5 []) Done ≡ codes "done 12 0.1 kernel kernel:probe:12: calls lxfi_princ_alias()\n"
  pub no_native : line_of Kernel in_probe (what.Native 6 []) Done ≡ codes "done 12 0.1 kernel kernel:probe:12: calls ()\n"
  -- the bytes of a global, and the one behind them
  pub in_global : told (loads 0x1000000 ∷ loads 0x1000008 ∷ loads 0x1000010 ∷ []) ≡
      codes "done 0 0.1 kernel kernel:probe:12: load i64 at 0x1000000 (m:@ops+0) = 0x0\n"
      ++ codes "done 1 0.1 kernel kernel:probe:12: load i64 at 0x1000008 (m:@ops+8) = 0x0\n"
      ++ codes "done 2 0.1 kernel kernel:probe:12: load i64 at 0x1000010 = 0x0\n"
  -- those of a block of the heap, and the one behind them; where the heap was full, 0 is no block
  pub in_block : told (allocates 0x2000040 ∷ stores 0x2000044 ∷ stores 0x2000080 ∷ allocates 0 ∷ stores 0x10 ∷ []) ≡
      codes "done 0 0.1 kernel kernel:probe:12: calls k.alloc(0x40) = 0x2000040\n"
      ++ codes "done 1 0.1 kernel kernel:probe:12: store i8 0 at 0x2000044 (event 0+4)\n"
      ++ codes "done 2 0.1 kernel kernel:probe:12: store i8 0 at 0x2000080\n"
      ++ codes "done 3 0.1 kernel kernel:probe:12: calls k.alloc(0x40) = 0x0\n"
      ++ codes "done 4 0.1 kernel kernel:probe:12: store i8 0 at 0x10\n"
  -- a block is taken back, and given anew
  pub given_anew : told (allocates 0x2000040 ∷ frees 0x2000040 ∷ stores 0x2000040 ∷ allocates 0x2000040 ∷ stores 0x2000041 ∷ []) ≡
      codes "done 0 0.1 kernel kernel:probe:12: calls k.alloc(0x40) = 0x2000040\n"
      ++ codes "done 1 0.1 kernel kernel:probe:12: calls k.free(0x2000040)\n"
      ++ codes "done 2 0.1 kernel kernel:probe:12: store i8 0 at 0x2000040\n"
      ++ codes "done 3 0.1 kernel kernel:probe:12: calls k.alloc(0x40) = 0x2000040\n"
      ++ codes "done 4 0.1 kernel kernel:probe:12: store i8 0 at 0x2000041 (event 3+1)\n"
  -- bytes of a stack, before and behind the return; of two blocks with one start the newer one
  pub in_stack : told (takes 0x3000000 0 ∷ takes 0x3000000 16 ∷ stores 0x3000008 ∷ leaves 0x3000000 0x3000010 ∷ stores 0x3000008 ∷ []) ≡
      codes "done 0 0.1 kernel kernel:probe:12: alloca 0 at 0x3000000\n"
      ++ codes "done 1 0.1 kernel kernel:probe:12: alloca 16 at 0x3000000\n"
      ++ codes "done 2 0.1 kernel kernel:probe:12: store i8 0 at 0x3000008 (event 1+8)\n"
      ++ codes "done 3 0.1 kernel kernel:probe:12: leaves 16 at 0x3000000\n"
      ++ codes "done 4 0.1 kernel kernel:probe:12: store i8 0 at 0x3000008\n"
  -- and behind the end of their thread's call
  pub at_end : told (takes 0x3000000 16 ∷ takes 0x3010000 16 ∷ ends_call ∷ stores 0x3000008 ∷ stores 0x3010008 ∷ []) ≡
      codes "done 0 0.1 kernel kernel:probe:12: alloca 16 at 0x3000000\n"
      ++ codes "done 1 0.1 kernel kernel:probe:12: alloca 16 at 0x3010000\n"
      ++ codes "ends 2 0.1 kernel script: ends: budget\n"
      ++ codes "done 3 0.1 kernel kernel:probe:12: store i8 0 at 0x3000008\n"
      ++ codes "done 4 0.1 kernel kernel:probe:12: store i8 0 at 0x3010008 (event 1+8)\n"
  -- both places of a copy
  pub copied : told (allocates 0x2000040 ∷ event Kernel in_probe (what.Copy 0x2000050 0x1000004 8) Done ∷ []) ≡
      codes "done 0 0.1 kernel kernel:probe:12: calls k.alloc(0x40) = 0x2000040\n"
      ++ codes "done 1 0.1 kernel kernel:probe:12: copy 8 from 0x1000004 (m:@ops+4) to 0x2000050 (event 0+16)\n"
  -- bytes that are set in a block
  pub filled : told (allocates 0x2000040 ∷ event Kernel in_probe (what.Fill 0x2000048 7 8) Done ∷ []) ≡
      codes "done 0 0.1 kernel kernel:probe:12: calls k.alloc(0x40) = 0x2000040\n"
      ++ codes "done 1 0.1 kernel kernel:probe:12: fill 8 with 7 at 0x2000048 (event 0+8)\n"
  -- the end of the second thread's call leaves the first one its stack
  pub at_another_end : told (takes 0x3000000 16 ∷ in_second (takes 0x3010000 16) ∷ in_second ends_call ∷ stores 0x3000008 ∷ stores 0x3010008 ∷ []) ≡
      codes "done 0 0.1 kernel kernel:probe:12: alloca 16 at 0x3000000\n"
      ++ codes "done 1 1.1 kernel kernel:probe:12: alloca 16 at 0x3010000\n"
      ++ codes "ends 2 1.1 kernel script: ends: budget\n"
      ++ codes "done 3 0.1 kernel kernel:probe:12: store i8 0 at 0x3000008 (event 0+8)\n"
      ++ codes "done 4 0.1 kernel kernel:probe:12: store i8 0 at 0x3010008\n"
  -- a lock that is got gives no bytes, whatever number is answered
  pub locked : told (event Kernel in_probe (what.Native 3 (word W64 0x1000000 ∷ [])) (Value (word W32 1)) ∷ stores 0x8 ∷ []) ≡
      codes "done 0 0.1 kernel kernel:probe:12: calls k.try_lock(0x1000000) = 1\n"
      ++ codes "done 1 0.1 kernel kernel:probe:12: store i8 0 at 0x8\n"
  -- actions before a body and behind it
  pub before : line_of (Shared 0) in_poke (perform false 0 (Shared 0) Kernel) Done ≡
      codes "done 12 0.1 m.shared m:poke:17: pre 0 of kernel:probe from m.shared to kernel\n"
  pub behind : line_of Kernel in_poke (perform true 2 Kernel (Shared 0)) (Ended (Refused (refusal.Ref Kernel 0 0x1000020))) ≡
      codes "refused 12 0.1 kernel m:poke:17: post 2 of kernel:probe from kernel to m.shared: refused 3 kernel ref device 0x1000020\n"
  -- the end of a call, and of one that is out of fuel
  pub ends : line_of Kernel None (what.Finish (Returned (Some (word W32 7)))) (Ended (Returned (Some (word W32 7)))) ≡
      codes "ends 12 0.1 kernel script: ends: returned 7\n"
  pub budget : line_of Kernel None (what.Finish Budget) (Ended Budget) ≡ codes "ends 12 0.1 kernel script: ends: budget\n"
