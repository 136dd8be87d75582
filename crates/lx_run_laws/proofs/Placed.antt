-- What a request adds to the history lies in memory.
use Rattle.std.proofs.Common.{◌≡◌, ℕ, zero, suc, ◌+◌, ◌-◌, ◌≤◌, ◌<◌, Bool, true, false, Option, Some, None, Ok, Err, List, slice_get, refl, arith}
use Rattle.std.specs.Prelude.{nat_le, nat_lt}
use Rattle.std.proofs.lemmas.Bool.Decides.{nat_tests}
use Rattle.std.proofs.lemmas.Bool.{and_parts}
use Rattle.lx_words.specs.Word.{Word}
use Rattle.lx_caps.specs.declared.Principal.{Principal}
use Rattle.lx_caps.specs.declared.Principal.TheVariants.{Kernel, Shared, Global, Inst}
use Rattle.lx_caps.specs.declared.Cap.{Cap}
use Rattle.lx_caps.specs.declared.Cap.TheVariants as cap
use Rattle.lx_caps.specs.Regions.{mapped, stack_start, stack_end, stack_size}
use Rattle.lx_caps.specs.History.{History, with_grant, with_lend}
use Rattle.lx_caps.specs.Placed.{is_placed, AllPlaced}
use Rattle.lx_caps.specs.Memory.{number_at}
use Rattle.lx_caps.specs.Heap.{alloc_address}
use Rattle.lx_annot.specs.declared.expr.Env.{Env}
use Rattle.lx_annot.specs.Action.{Action}
use Rattle.lx_annot.specs.Value.{Found}
use Rattle.lx_model.specs.declared.program.Program.{Program}
use Rattle.lx_model.specs.declared.request.Outcome.{Outcome}
use Rattle.lx_model.specs.declared.request.Request.{Request}
use Rattle.lx_model.specs.declared.request.Way.{Way}
use Rattle.lx_model.specs.declared.request.What.{What}
use Rattle.lx_model.specs.declared.request.What.TheVariants as what
use Rattle.lx_model.specs.Program.{NativeCall, Alloc, Free, ZeroBytes, TryLock, NoteValue, AliasPrincipal, native_call}
use Rattle.lx_model.specs.Next.{actions_of}
use Rattle.lx_model.specs.State.{State}
use Rattle.lx_model.specs.Act.{outside, item_refusal}
use Rattle.lx_model.specs.Enter.{Running, entered_function, runs_as}
use Rattle.lx_model.specs.Decide.{decide, decide_what, decide_native, arg, result_or_none}
use Rattle.lx_model.specs.Serve.{serve, serve_by, grant_what, entering, entering_as, history_or, with_block, after_try_lock, after_native}
use Rattle.lx_run_laws.specs.Servable.{is_on_stack, is_servable, is_servable_what}
use Rattle.lx_model.proofs.Passing.{passed, neither, rest_none, first_none}
use Rattle.lx_model.proofs.ActKeeps.{Keeps, Any, action_keeps}

-- ranges of a stack

few_threads : (t : ℕ) → nat_lt t 16 ≡ true → t < 16
few_threads t is = grind (arith, nat_tests, is)

abbrev pub InStack : ℕ → ℕ → ℕ → Type 0
InStack t at size = (stack_start t ≤ at) × (at + size ≤ stack_end t)

in_stack : (t at size : ℕ) → t < 16 → InStack t at size → mapped at size ≡ true
in_stack t at size few (low, high) = grind (arith, nat_tests, few, low, high)

whole_stack : (t : ℕ) → t < 16 → mapped (stack_start t) stack_size ≡ true
whole_stack t few = in_stack t (stack_start t) stack_size few (omega arith, omega arith)

asked_range : (t at size : ℕ) → nat_le (stack_start t) at ≡ true → nat_le (at + size) (stack_end t) ≡ true → InStack t at size
asked_range t at size low high = (grind (arith, nat_tests, low), grind (arith, nat_tests, high))

given_back : (t low high : ℕ) → is_on_stack t low high ≡ true → InStack t low (high - low)
given_back t low high on = (grind (arith, nat_tests, on), grind (arith, nat_tests, on))

-- grants and strips

granted : (who : Principal) (c : Cap) (h : History) → is_placed c ≡ true → AllPlaced h → AllPlaced (with_grant who c h)
granted Kernel c h is all = all
granted (Shared m) c h is all = (is, all)
granted (Global m) c h is all = (is, all)
granted (Inst m k) c h is all = (is, all)

lent_placed_one : (t : ℕ) (who : Principal) (c : Cap) (h : History) → is_placed c ≡ true → AllPlaced h → AllPlaced (with_lend t who c h)
lent_placed_one t Kernel c h is all = all
lent_placed_one t (Shared m) c h is all = (is, all)
lent_placed_one t (Global m) c h is all = (is, all)
lent_placed_one t (Inst m k) c h is all = (is, all)

-- actions

item_placed : (source : Principal) (c : Cap) → outside source c ≡ None → is_placed c ≡ true
item_placed source (cap.Write at size) is = passed (mapped at size) _ is
item_placed source (cap.Call at) is = refl
item_placed source (cap.Ref ty at) is = refl

not_refused : (h : History) (transfers : Bool) (source : Principal) (c : Cap) → item_refusal h transfers true source c ≡ None → is_placed c ≡ true
not_refused h transfers source c is = item_placed source c (neither (outside source c) _ is).0

action_placed : (p : Program) (s : State) (t : ℕ) (env : Env) (source dest : Principal) (a : Option Action) → AllPlaced s.history
    → AllPlaced (history_or (result_or_none p s t a env source dest) s.history)
action_placed p s t env source dest a all = action_keeps AllPlaced p s t a env source dest keeps all where
  keeps : Keeps AllPlaced t source dest s.history Any
  keeps = record {
    grant = λ transfers c h passes named placed. granted dest c h (not_refused s.history transfers source c passes) placed;
    strip = λ c h passes placed. (not_refused s.history true source c passes, placed);
    loan = λ h placed. (refl, placed);
    lend = λ c h passes named placed. lent_placed_one t dest c h (not_refused s.history false source c passes) placed;
    shut = λ k h placed. (refl, placed);
  }

-- what is granted

entered_placed : (p : Program) (s : State) (who : Principal) (way : Way) (n : ℕ) (r : Found Running) → AllPlaced s.history
    → AllPlaced (entering_as p s who way n r).state.history
entered_placed p s who way n (Err at) all = all
entered_placed p s who way n (Ok r) all = all

entering_placed : (p : Program) (s : State) (who : Principal) (way : Way) (args : List Word) (n : Option ℕ) → AllPlaced s.history
    → AllPlaced (entering p s who way args n).state.history
entering_placed p s who way args None all = all
entering_placed p s who way args (Some n) all = entered_placed p s who way n (runs_as p s who way n args) all

block_placed : (at size : ℕ) (s : State) → AllPlaced s.history → AllPlaced (with_block at size s).history
block_placed zero size s all = all
block_placed (suc at) size s all = all

lock_placed : (s : State) (at n : ℕ) → AllPlaced s.history → AllPlaced (after_try_lock s at n).state.history
lock_placed s at zero all = all
lock_placed s at (suc n) all = all

native_placed : (s : State) (t : ℕ) (who : Principal) (k : NativeCall) (args : List Word) → AllPlaced s.history → decide_native s who k args ≡ None
    → AllPlaced (after_native s t who k args).state.history
native_placed s t who Alloc args all is = block_placed (alloc_address s.blocks (arg args 0)) (arg args 0) s all
native_placed s t who Free args all is = all
native_placed s t who ZeroBytes args all is = (passed (mapped (arg args 0) (arg args 1)) _ is, all)
native_placed s t who TryLock args all is = lock_placed s (arg args 0) (number_at s.memory (arg args 0) 4) all
native_placed s t who NoteValue args all is = all
native_placed s t who AliasPrincipal args all is = all

granted_placed : (p : Program) (s : State) (t : ℕ) (who : Principal) (w : What) → t < 16 → AllPlaced s.history → is_servable_what p t w ≡ true
    → decide_what p s t who w ≡ None → AllPlaced (grant_what p s t who w).state.history
granted_placed p s t who (what.Load at width) few all servable is = all
granted_placed p s t who (what.Store at w) few all servable is = all
granted_placed p s t who (what.Copy to from len) few all servable is = all
granted_placed p s t who (what.Fill to byte len) few all servable is = all
granted_placed p s t who (what.Alloca at size) few all servable is =
    let range : mapped at size ≡ true = in_stack t at size few (asked_range t at size servable (passed (nat_le (at + size) (stack_end t)) _ is)) in
    granted who (cap.Write at size) _ range (range, all)
granted_placed p s t who (what.Enter way args) few all servable is = entering_placed p s who way args (entered_function p s way) all
granted_placed p s t who (what.Perform n post k env source dest) few all servable is =
    action_placed p s t env source dest (slice_get (actions_of p n post) k) all
granted_placed p s t who (what.Return low high) few all servable is = (in_stack t low (high - low) few (given_back t low high servable), all)
granted_placed p s t who (what.Native k args) few all servable is = native_placed s t who (native_call k) args all is
granted_placed p s t who (what.Finish o) few all servable is = (refl, (whole_stack t few, all))

-- what is served

decided_placed : (p : Program) (s : State) (t : ℕ) (r : Request) (d : Option Outcome) → decide p s t r ≡ d → t < 16 → AllPlaced s.history
    → is_servable_what p t r.what ≡ true → AllPlaced (serve_by d p s t r).state.history
decided_placed p s t r (Some o) is few all servable = (refl, (whole_stack t few, all))
decided_placed p s t r None is few all servable = granted_placed p s t r.who r.what few all servable is

-- a request that may be served adds nothing that does not lie in memory
pub served_placed : (p : Program) (s : State) (t : ℕ) (r : Request) → AllPlaced s.history → is_servable p t r ≡ true → AllPlaced (serve p s t r).state.history
served_placed p s t r all servable =
    let parts = and_parts (nat_lt t 16) (is_servable_what p t r.what) servable in
    decided_placed p s t r (decide p s t r) refl (few_threads t parts.0) all parts.1
