-- Natives by their numbers.
use Rattle.std.proofs.Common.{◌≡◌, ◌≢◌, ◌+◌, ◌≤◌, refl, sym, subst, ℕ, zero, suc, Result, Ok, Err, List, arith}
use Rattle.std.specs.Prelude.{IfOk}
use Rattle.lx_words.specs.Word.{Word}
use Rattle.lx_caps.specs.declared.Principal.{Principal}
use Rattle.lx_caps.specs.History.{History}
use Rattle.lx_model.specs.declared.program.Program.{Program}
use Rattle.lx_model.specs.declared.request.Reply.{Reply}
use Rattle.lx_model.specs.declared.request.What.TheVariants as what
use Rattle.lx_model.specs.Program.{NativeCall, AliasPrincipal, native_call}
use Rattle.lx_model.specs.State.{State}
use Rattle.lx_serve.specs.NativeCalls.{TriesNative}
use Rattle.lx_serve.specs.Room.{taken_by}
use Rattle.lx_serve.specs.Stands.{Tries}
use Rattle.lx_serve.specs.declared.halt.Halt.{Halt}
use Rattle.lx_serve.specs.declared.halt.Halt.TheVariants.{Ended, Memory}
use Rattle.lx_serve.specs.declared.monitor.Monitor.{Monitor}

-- every native behind the fifth is the alias
pub alias_call : (k : ℕ) → k ≢ 0 → k ≢ 1 → k ≢ 2 → k ≢ 3 → k ≢ 4 → native_call k ≡ AliasPrincipal
alias_call zero a b c d e = absurd (a refl)
alias_call (suc zero) a b c d e = absurd (b refl)
alias_call (suc (suc zero)) a b c d e = absurd (c refl)
alias_call (suc (suc (suc zero))) a b c d e = absurd (d refl)
alias_call (suc (suc (suc (suc zero)))) a b c d e = absurd (e refl)
alias_call (suc (suc (suc (suc (suc n))))) a b c d e = refl

as_native : {C : Type 0} (stands : C → History → Type 0) (p : Program) (m : Monitor C) (s : State) (t : ℕ) (by : Principal) (k : ℕ) (args : List Word) (result : Result Reply Halt)
    → TriesNative stands p m s t by (native_call k) args result → Tries stands p m s t by (what.Native k args) result
as_native stands p m s t by k args (Ok answer) tries = tries
as_native stands p m s t by k args (Err (Ended o)) tries = tries
as_native stands p m s t by k args (Err Memory) tries = tries

-- a native is tried by its number
pub native_tried : {C : Type 0} (stands : C → History → Type 0) (p : Program) (m : Monitor C) (s : State) (t : ℕ) (by : Principal) (k : ℕ) (n : NativeCall) (args : List Word) (result : Result Reply Halt)
    → native_call k ≡ n → TriesNative stands p m s t by n args result → Tries stands p m s t by (what.Native k args) result
native_tried stands p m s t by k n args result is tries =
    as_native stands p m s t by k args result (subst (λ (c : NativeCall). TriesNative stands p m s t by c args result) (sym is) tries)

-- what leaves all the room leaves what the reply may take
pub leaves_all : (result : Result Reply Halt) (before now : ℕ) → before ≤ now → IfOk result (λ reply. before ≤ now + taken_by reply)
leaves_all (Ok reply) before now all = omega arith
leaves_all (Err e) before now all = tt
