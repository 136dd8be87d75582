-- A packet that a module makes, and sends while another thread stores to it.
use Rattle.lx_caps.specs.declared.Cap.TheVariants as caps
use Rattle.lx_caps.specs.declared.Principal.TheVariants.{Shared}
use Rattle.lx_generated_laws.specs.Accounts.{GivesAccount, fuelled, asked, events, ended, shared, calls_at, image, plain_account}
use Rattle.lx_generated_laws.specs.Programs.{built_in, over}
use Rattle.lx_generated_laws.specs.RowTexts.{i32, i64, reg, n64, the_global, to_nothing, line, arg, call, param, block, define, declare, global}
use Rattle.lx_ir.specs.Init.{Plain}
use Rattle.lx_ir.specs.IrType.{One}
use Rattle.lx_ir.specs.declared.instr.Op.TheVariants as op
use Rattle.lx_ir.specs.declared.module.Constant.TheVariants as constant
use Rattle.lx_ir.specs.declared.module.Module.{Module}
use Rattle.lx_ir.specs.declared.module.Value.TheVariants as value
use Rattle.lx_ir.specs.declared.types.Scalar.TheVariants.{Int, Ptr}
use Rattle.lx_model.specs.declared.account.Owned.{Owned}
use Rattle.lx_model.specs.declared.program.Program.{Program}
use Rattle.lx_model.specs.declared.request.Outcome.TheVariants.{Returned, Refused, Budget}
use Rattle.lx_model.specs.declared.request.Outcome.{Outcome}
use Rattle.lx_model.specs.declared.request.Refusal.TheVariants as refusal
use Rattle.lx_words.specs.Word.{word}
use Rattle.lx_words.specs.declared.word.Width.TheVariants.{W8, W32}
use Rattle.std.specs.Prelude.{ℕ, Some, None, List, [], ◌∷◌, ◌++◌, codes}

abbrev pub the_module : Module
the_module =
    record {
      types = [];
      globals = (global (codes "pkt") (One Ptr) (Plain to_nothing) ∷ []);
      functions =
          declare (codes "skb_new") (param [] i64 ∷ []) (Some Ptr)
          ∷ declare (codes "netif_rx") (param [] Ptr ∷ []) (Some i32)
          ∷ define (codes "make") [] (codes "s" ∷ []) None
          (block (codes "0") (call (Some 0) (Some Ptr) 0 (arg i64 (n64 8) ∷ []) ∷ line (op.Store Ptr (reg 0) (the_global 0)) ∷ line (op.Ret None) ∷ []) ∷ [])
          ∷ define (codes "send") [] (codes "s" ∷ codes "r" ∷ []) (Some i32)
          (block (codes "0") (line (op.Load 0 Ptr (the_global 0)) ∷ call (Some 1) (Some i32) 1 (arg Ptr (reg 0) ∷ []) ∷ line (op.Ret (Some (arg i32 (reg 1)))) ∷ []) ∷ [])
          ∷ define (codes "poke") [] (codes "s" ∷ codes "d" ∷ []) None
          (block (codes "0") (line (op.Load 0 Ptr (the_global 0)) ∷ line (op.Load 1 Ptr (reg 0)) ∷ line (op.Store (Int W8) (value.Constant (constant.Number (word W8 1))) (reg 1)) ∷ line (op.Store (Int W8) (value.Constant (constant.Number (word W8 2))) (reg 1)) ∷ line (op.Ret None) ∷ []) ∷ [])
          ∷ [];
    }

abbrev pub program : Program
program = over built_in the_module (2 ∷ 3 ∷ 4 ∷ []) (0x10000e0 ∷ [])

-- what the module owns, besides what it has of a packet
abbrev pub owners : List Owned → List Owned
owners packet = shared (caps.Write 0x10000e0 8) ∷ packet ++ calls_at (0x100d0 ∷ 0x100e0 ∷ 0x10130 ∷ 0x10140 ∷ 0x10150 ∷ [])

-- by this schedule one thread makes a packet and sends it, and another one, whose call ends so, stores to it
abbrev pub EndsPoke : List ℕ → Outcome → Type 0
EndsPoke schedule outcome =
    GivesAccount program ((asked 19 [] ∷ asked 20 [] ∷ []) ∷ (asked 21 [] ∷ []) ∷ [])
    (record (plain_account schedule (ended 0 19 (Returned None) ∷ ended 0 20 (Returned (Some (word W32 0))) ∷ ended 1 21 outcome ∷ []) (image 3 0 2) (owners [])) { notes = record { thread = 0; value = 8 } ∷ [] })

-- A packet that is sent between two stores of another thread.
abbrev pub Raced : Type 0
Raced = EndsPoke (events 0 16 ++ events 1 4 ++ events 0 4 ++ events 1 1 ++ events 0 5) (Refused (refusal.Write (Shared 0) 0x2000040 1))

-- The same, where the other thread is done before.
abbrev pub RacedBefore : Type 0
RacedBefore = EndsPoke (events 0 16 ++ events 1 7 ++ events 0 9) (Returned None)

-- a packet is made with so much fuel in so many events: how the call ends, and what the module has of the packet
abbrev pub EndsMake : ℕ → ℕ → Outcome → List Owned → Type 0
EndsMake fuel n outcome packet =
    GivesAccount program ((fuelled 19 [] fuel ∷ []) ∷ []) (plain_account (events 0 n) (ended 0 19 outcome ∷ []) (image 3 0 2) (owners packet))

-- A call that runs out of fuel between two actions.
abbrev pub HalfGiven : Type 0
HalfGiven = EndsMake 33 13 Budget (shared (caps.Write 0x2000010 24) ∷ [])

-- The same, with fuel for both actions.
abbrev pub AllGiven : Type 0
AllGiven = EndsMake 36 16 (Returned None) (shared (caps.Write 0x2000010 24) ∷ shared (caps.Write 0x2000040 8) ∷ [])
