-- A request that is no finish ends its call just where it is decided so.
use Rattle.std.proofs.Common.{◌≡◌, ℕ, zero, suc, false, Option, Some, None, Ok, Err, List, ap}
use Rattle.lx_words.specs.Word.{Word}
use Rattle.lx_caps.specs.declared.Principal.{Principal}
use Rattle.lx_caps.specs.Memory.{number_at}
use Rattle.lx_annot.specs.Value.{Found}
use Rattle.lx_model.specs.declared.program.Program.{Program}
use Rattle.lx_model.specs.declared.request.Outcome.{Outcome}
use Rattle.lx_model.specs.declared.request.Reply.TheVariants.{Ended}
use Rattle.lx_model.specs.declared.request.Request.{Request}
use Rattle.lx_model.specs.declared.request.Way.{Way}
use Rattle.lx_model.specs.declared.request.What.{What}
use Rattle.lx_model.specs.declared.request.What.TheVariants as what
use Rattle.lx_model.specs.Decide.{decide, arg}
use Rattle.lx_model.specs.Enter.{Running, entered_function, runs_as}
use Rattle.lx_model.specs.Program.{NativeCall, Alloc, Free, ZeroBytes, TryLock, NoteValue, AliasPrincipal, native_call}
use Rattle.lx_model.specs.Serve.{after_native, after_try_lock, entering, entering_as, grant_what, serve, serve_by}
use Rattle.lx_model.specs.State.{State}
use Rattle.lx_run_laws.specs.Causes.{is_finish}

running_goes : (p : Program) (s : State) (who : Principal) (way : Way) (n : ℕ) (found : Found Running) (o : Outcome) → (entering_as p s who way n found).reply ≡ Ended o → ⊥
running_goes p s who way n (Ok r) o is = cc
running_goes p s who way n (Err at) o is = cc

entering_goes : (p : Program) (s : State) (who : Principal) (way : Way) (args : List Word) (target : Option ℕ) (o : Outcome) → (entering p s who way args target).reply ≡ Ended o → ⊥
entering_goes p s who way args None o is = cc
entering_goes p s who way args (Some n) o is = running_goes p s who way n (runs_as p s who way n args) o is

lock_goes : (s : State) (at n : ℕ) (o : Outcome) → (after_try_lock s at n).reply ≡ Ended o → ⊥
lock_goes s at zero o is = cc
lock_goes s at (suc n) o is = cc

native_goes : (s : State) (t : ℕ) (who : Principal) (k : NativeCall) (args : List Word) (o : Outcome) → (after_native s t who k args).reply ≡ Ended o → ⊥
native_goes s t who Alloc args o is = cc
native_goes s t who Free args o is = cc
native_goes s t who ZeroBytes args o is = cc
native_goes s t who TryLock args o is = lock_goes s (arg args 0) (number_at s.memory (arg args 0) 4) o is
native_goes s t who NoteValue args o is = cc
native_goes s t who AliasPrincipal args o is = cc

granted_goes : (p : Program) (s : State) (t : ℕ) (who : Principal) (w : What) (o : Outcome) → is_finish w ≡ false → (grant_what p s t who w).reply ≡ Ended o → ⊥
granted_goes p s t who (what.Load at width) o goes is = cc
granted_goes p s t who (what.Store at v) o goes is = cc
granted_goes p s t who (what.Copy to from len) o goes is = cc
granted_goes p s t who (what.Fill to byte len) o goes is = cc
granted_goes p s t who (what.Alloca at size) o goes is = cc
granted_goes p s t who (what.Enter way args) o goes is = entering_goes p s who way args (entered_function p s way) o is
granted_goes p s t who (what.Perform n post k env source dest) o goes is = cc
granted_goes p s t who (what.Return low high) o goes is = cc
granted_goes p s t who (what.Native k args) o goes is = native_goes s t who (native_call k) args o is
granted_goes p s t who (what.Finish q) o goes is = cc

pub same_end : (o x : Outcome) → Ended o ≡ Ended x → o ≡ x
same_end o x is = cc

decided_by : (d : Option Outcome) (p : Program) (s : State) (t : ℕ) (r : Request) (o : Outcome) → is_finish r.what ≡ false → (serve_by d p s t r).reply ≡ Ended o → d ≡ Some o
decided_by None p s t r o goes is = absurd (granted_goes p s t r.who r.what o goes is)
decided_by (Some x) p s t r o goes is = ap Some (same_end x o is)

pub is_decision : (p : Program) (s : State) (t : ℕ) (r : Request) (o : Outcome) → is_finish r.what ≡ false → (serve p s t r).reply ≡ Ended o → decide p s t r ≡ Some o
is_decision p s t r o goes is = decided_by (decide p s t r) p s t r o goes is

pub is_reply : (p : Program) (s : State) (t : ℕ) (r : Request) (o : Outcome) → decide p s t r ≡ Some o → (serve p s t r).reply ≡ Ended o
is_reply p s t r o is = ap (λ (d : Option Outcome). (serve_by d p s t r).reply) is
