-- A thread's own steps and requests keep the bytes that its functions have on the stack.
use Rattle.std.proofs.Common.{◌≡◌, ℕ, zero, suc, ◌+◌, ◌-◌, ◌<◌, ◌≤◌, Bool, true, false, ◌||◌, List, [], ◌∷◌, Option, Some, None, inl, inr, refl, sym, subst, arith, leb-true}
use Rattle.std.specs.Prelude.{nat_le, Ok, Err}
use Rattle.std.proofs.lemmas.Bool.{or_cases}
use Rattle.lx_words.specs.Word.{Word, word}
use Rattle.lx_words.specs.declared.word.Width.TheVariants.{W64}
use Rattle.lx_caps.specs.declared.Principal.{Principal}
use Rattle.lx_caps.specs.declared.Principal.TheVariants.{Kernel, Shared, Global, Inst}
use Rattle.lx_caps.specs.declared.Cap.TheVariants as cap
use Rattle.lx_caps.specs.declared.Atom.TheVariants.{Byte}
use Rattle.lx_caps.specs.declared.Act.TheVariants.{Strip, Zero}
use Rattle.lx_caps.specs.Regions.{covers, stacks_start, region_size, stack_start, stack_end}
use Rattle.lx_caps.specs.History.{History, keeps, with_grant}
use Rattle.lx_annot.specs.Value.{Found}
use Rattle.lx_model.specs.declared.program.Program.{Program}
use Rattle.lx_model.specs.declared.program.ScriptCall.{ScriptCall}
use Rattle.lx_model.specs.declared.request.Outcome.{Outcome}
use Rattle.lx_model.specs.declared.request.Outcome.TheVariants.{Trapped}
use Rattle.lx_model.specs.declared.request.Trap.TheVariants.{StackFull}
use Rattle.lx_model.specs.declared.request.Way.{Way}
use Rattle.lx_model.specs.declared.request.What.{What}
use Rattle.lx_model.specs.declared.request.What.TheVariants as what
use Rattle.lx_model.specs.declared.request.Reply.TheVariants.{Done}
use Rattle.lx_model.specs.Program.{NativeCall, Alloc, Free, ZeroBytes, TryLock, NoteValue, AliasPrincipal, native_call}
use Rattle.lx_model.specs.Thread.{Range, Activation, Crossing, Frame, Ending, activation, top_of_stack, activation_behind}
use Rattle.lx_model.specs.Next.{absorb, request, thread_behind, after_leaving, after_ret, after_entry, entered_frame, after_action, fits_site, with_alloca}
use Rattle.lx_model.specs.State.{State}
use Rattle.lx_model.specs.Act.{unless}
use Rattle.lx_model.specs.Enter.{Running, entered_function, runs_as}
use Rattle.lx_model.specs.Decide.{decide, arg, action_result}
use Rattle.lx_model.specs.Serve.{serve_by, entering, entering_as, with_block, after_try_lock, after_native, grant_what, history_or}
use Rattle.lx_images.specs.Kept.{is_kernel, within, KeepsAll, LiesIn, Piled, FramesKept, Kept, OnStack, AskKept}
use Rattle.lx_simulation.proofs.Absorbing.{thread_of, frame_of}
use Rattle.lx_simulation.proofs.Sparing.{spares_strip_above, spares_grant, perform_spares, starts_below, ends_above, frames_spared}
use Rattle.lx_model.proofs.Passing.{passed}
use Rattle.lx_caps.proofs.Covering.{covers_parts}
use Rattle.lx_caps.proofs.Principals.{same_principal_itself}

-- the frames behind a reply

past_kept : (h : History) (t : ℕ) (calls : List ScriptCall) (ended : List Ending) (fuel : ℕ) (due : Option Outcome) (fs : List Frame) (w : Option Word) →
    FramesKept h t fs → Kept h t (thread_behind w (thread_of calls ended fuel due fs))
past_kept h t calls ended fuel due [] w k = tt
past_kept h t calls ended fuel due (f ∷ fs) w k = k

leaving_kept : (h : History) (t : ℕ) (calls : List ScriptCall) (ended : List Ending) (fuel : ℕ) (due : Option Outcome) (old fs : List Frame) (w : Option Word) →
    FramesKept h t fs → Kept h t (after_leaving w fs (thread_of calls ended fuel due old))
leaving_kept h t calls ended fuel due old [] w k = tt
leaving_kept h t calls ended fuel due old (f ∷ fs) w k = k

-- a function that starts has nothing
no_bytes : (low high : ℕ) → LiesIn low high []
no_bytes low high b w = cc

no_bytes_kept : (h : History) (q : Principal) → KeepsAll h q []
no_bytes_kept h q b m w = cc

pub started_kept : (h : History) (t : ℕ) (p : Program) (n : ℕ) (args : List Word) (q : Principal) (x : Option Crossing) (gs : List Frame) →
    FramesKept h t gs → FramesKept h t (frame_of (activation p n args (top_of_stack t gs)) q x ∷ gs)
started_kept h t p n args q x gs k =
    ((omega arith, omega arith, ends_above h t gs k, no_bytes _ _), no_bytes_kept h q, k)

entry_kept : (h : History) (t : ℕ) (p : Program) (fits : Bool) (way : Way) (who q : Principal) (n : ℕ) (args : List Word) (crosses : Bool) (calls : List ScriptCall) (ended : List Ending) (fuel : ℕ) (due : Option Outcome) (gs : List Frame) →
    FramesKept h t gs → Kept h t (after_entry fits way (entered_frame p t who args gs n q crosses) (thread_of calls ended fuel due gs))
entry_kept h t p false way who q n args crosses calls ended fuel due gs k = tt
entry_kept h t p true way who q n args crosses calls ended fuel due gs k = started_kept h t p n args q (entered_frame p t who args gs n q crosses).crossing gs k

-- what is served

found_kept : (p : Program) (s : State) (t : ℕ) (calls : List ScriptCall) (ended : List Ending) (fuel : ℕ) (due : Option Outcome) (gs : List Frame) (who : Principal) (way : Way) (args : List Word) (n : ℕ) (found : Found Running) →
    FramesKept s.history t gs →
    Kept (entering_as p s who way n found).state.history t (absorb p t (thread_of calls ended fuel due gs) (request who (what.Enter way args)) (entering_as p s who way n found).reply)
found_kept p s t calls ended fuel due gs who way args n (Err at) k = past_kept s.history t calls ended fuel due gs None k
found_kept p s t calls ended fuel due gs who way args n (Ok r) k = entry_kept s.history t p (fits_site p way gs n) way who r.principal n args _ calls ended fuel due gs k

enter_kept : (p : Program) (s : State) (t : ℕ) (calls : List ScriptCall) (ended : List Ending) (fuel : ℕ) (due : Option Outcome) (gs : List Frame) (who : Principal) (way : Way) (args : List Word) (n : Option ℕ) →
    FramesKept s.history t gs →
    Kept (entering p s who way args n).state.history t (absorb p t (thread_of calls ended fuel due gs) (request who (what.Enter way args)) (entering p s who way args n).reply)
enter_kept p s t calls ended fuel due gs who way args None k = past_kept s.history t calls ended fuel due gs None k
enter_kept p s t calls ended fuel due gs who way args (Some n) k = found_kept p s t calls ended fuel due gs who way args n (runs_as p s who way n args) k

block_kept : (p : Program) (s : State) (t : ℕ) (calls : List ScriptCall) (ended : List Ending) (fuel : ℕ) (due : Option Outcome) (gs : List Frame) (at size : ℕ) (w : Option Word) →
    FramesKept s.history t gs → Kept (with_block at size s).history t (thread_behind w (thread_of calls ended fuel due gs))
block_kept p s t calls ended fuel due gs zero size w k = past_kept s.history t calls ended fuel due gs w k
block_kept p s t calls ended fuel due gs (suc n) size w k = past_kept s.history t calls ended fuel due gs w k

lock_kept : (p : Program) (s : State) (t : ℕ) (calls : List ScriptCall) (ended : List Ending) (fuel : ℕ) (due : Option Outcome) (gs : List Frame) (who : Principal) (k n : ℕ) (args : List Word) (at : ℕ) →
    FramesKept s.history t gs →
    Kept (after_try_lock s at n).state.history t (absorb p t (thread_of calls ended fuel due gs) (request who (what.Native k args)) (after_try_lock s at n).reply)
lock_kept p s t calls ended fuel due gs who k zero args at kept = past_kept s.history t calls ended fuel due gs _ kept
lock_kept p s t calls ended fuel due gs who k (suc n) args at kept = past_kept s.history t calls ended fuel due gs _ kept

native_kept : (p : Program) (s : State) (t : ℕ) (calls : List ScriptCall) (ended : List Ending) (fuel : ℕ) (due : Option Outcome) (gs : List Frame) (who : Principal) (k : ℕ) (n : NativeCall) (args : List Word) →
    FramesKept s.history t gs →
    Kept (after_native s t who n args).state.history t (absorb p t (thread_of calls ended fuel due gs) (request who (what.Native k args)) (after_native s t who n args).reply)
native_kept p s t calls ended fuel due gs who k Alloc args kept = block_kept p s t calls ended fuel due gs _ _ _ kept
native_kept p s t calls ended fuel due gs who k Free args kept = past_kept s.history t calls ended fuel due gs None kept
native_kept p s t calls ended fuel due gs who k ZeroBytes args kept =
    past_kept (Zero (arg args 0) (arg args 1) ∷ s.history) t calls ended fuel due gs None
    (frames_spared s.history (Zero (arg args 0) (arg args 1) ∷ s.history) t gs (λ q b l u o. o) kept)
native_kept p s t calls ended fuel due gs who k TryLock args kept = lock_kept p s t calls ended fuel due gs who k _ args (arg args 0) kept
native_kept p s t calls ended fuel due gs who k NoteValue args kept = past_kept s.history t calls ended fuel due gs None kept
native_kept p s t calls ended fuel due gs who k AliasPrincipal args kept = past_kept s.history t calls ended fuel due gs None kept

-- an action
action_kept : (h : History) (p : Program) (t : ℕ) (calls : List ScriptCall) (ended : List Ending) (fuel : ℕ) (due : Option Outcome) (gs : List Frame) →
    FramesKept h t gs → Kept h t (after_action p (thread_of calls ended fuel due gs))
action_kept h p t calls ended fuel due [] k = tt
action_kept h p t calls ended fuel due (f ∷ fs) k = k

-- a return
ret_kept : (h g : History) (p : Program) (t : ℕ) (calls : List ScriptCall) (ended : List Ending) (fuel : ℕ) (due : Option Outcome) (a : Activation) (q : Principal) (x : Option Crossing) (fs old : List Frame) →
    Piled t a fs → FramesKept g t fs → Kept g t (after_ret p (frame_of a q x ∷ fs) (thread_of calls ended fuel due old))
ret_kept h g p t calls ended fuel due a q None fs old pile k = leaving_kept g t calls ended fuel due old fs _ k
ret_kept h g p t calls ended fuel due a q (Some x) fs old pile k =
    ((pile.0, pile.1, pile.2, no_bytes a.low a.high), no_bytes_kept g q, k)

granted_byte : (q : Principal) (at size b : ℕ) (h : History) → is_kernel q ≡ false → covers at size b ≡ true → keeps (with_grant q (cap.Write at size) h) q (Byte b) ≡ true
granted_byte Kernel at size b h m e = cc
granted_byte (Shared n) at size b h m e = grind (arith, same_principal_itself (Shared n), e)
granted_byte (Global n) at size b h m e = grind (arith, same_principal_itself (Global n), e)
granted_byte (Inst n k) at size b h m e = grind (arith, same_principal_itself (Inst n k), e)

alloca_lies : (low high at size : ℕ) (rs : List Range) → low ≤ high → high ≤ at → LiesIn low high rs → LiesIn low (at + size) (record { at = at; size = size } ∷ rs)
alloca_lies low high at size rs lh ha lies b w =
    elim (or_cases (covers at size b) (within rs b) w) [
      | inl new ↦ (let c : at ≤ b = (covers_parts at size b new).0 in omega (arith, c, lh, ha), (covers_parts at size b new).1)
      | inr old ↦ ((lies b old).0, (let c : b < high = (lies b old).1 in omega (arith, c, ha)))
    ]

alloca_keeps : (h : History) (q : Principal) (low high at size : ℕ) (rs : List Range) → high ≤ at → LiesIn low high rs → KeepsAll h q rs →
    KeepsAll (with_grant q (cap.Write at size) (Strip (cap.Write at size) ∷ h)) q (record { at = at; size = size } ∷ rs)
alloca_keeps h q low high at size rs ha lies own b m w =
    elim (or_cases (covers at size b) (within rs b) w) [
      | inl new ↦ granted_byte q at size b (Strip (cap.Write at size) ∷ h) m new
      | inr old ↦ spares_grant low high q (cap.Write at size) h (Strip (cap.Write at size) ∷ h) (spares_strip_above low high at size h ha) q b (lies b old).0 (lies b old).1 (own b m old)
    ]

alloca_kept : (h : History) (t : ℕ) (a : Activation) (q : Principal) (x : Option Crossing) (fs : List Frame) (at size : ℕ) (w : Option Word) →
    a.high ≤ at → at + size ≤ stack_end t → FramesKept h t (frame_of a q x ∷ fs) →
    FramesKept (with_grant q (cap.Write at size) (Strip (cap.Write at size) ∷ h)) t (frame_of (activation_behind w (with_alloca at size a)) q x ∷ fs)
alloca_kept h t a q x fs at size w ha end k =
    let low : top_of_stack t fs ≤ a.low = k.0.0 in
    let part : a.low ≤ a.high = k.0.1 in (
      (k.0.0, omega (arith, part, ha), end, alloca_lies a.low a.high at size a.allocas part ha k.0.3),
      alloca_keeps h q a.low a.high at size a.allocas ha k.0.3 k.1,
      frames_spared h (with_grant q (cap.Write at size) (Strip (cap.Write at size) ∷ h)) t fs
          (spares_grant (stack_start t) (top_of_stack t fs) q (cap.Write at size) h (Strip (cap.Write at size) ∷ h)
          (spares_strip_above (stack_start t) (top_of_stack t fs) at size h (omega (arith, low, part, ha))))
          k.2,
    )

-- what is known of a request of the frame on top

abbrev pub AllocaFits : Principal → ℕ → List Frame → Type 0
AllocaFits who at [] = ⊥
AllocaFits who at (f ∷ fs) = (f.run.high ≤ at) × (f.principal ≡ who)

abbrev pub ReturnFits : ℕ → ℕ → List Frame → Type 0
ReturnFits low high [] = ⊥
ReturnFits low high (f ∷ fs) = (low ≡ f.run.low) × (high ≡ f.run.high)

abbrev pub AskFits : List Frame → Principal → What → Type 0
AskFits fs who (what.Alloca at size) = AllocaFits who at fs
AskFits fs who (what.Return low high) = ReturnFits low high fs
AskFits fs who w = Unit {0}

alloca_served : (p : Program) (s : State) (t : ℕ) (calls : List ScriptCall) (ended : List Ending) (fuel : ℕ) (due : Option Outcome) (gs : List Frame) (who : Principal) (at size : ℕ) →
    FramesKept s.history t gs → AllocaFits who at gs → unless (nat_le (at + size) (stack_end t)) (Trapped StackFull) ≡ None →
    Kept (with_grant who (cap.Write at size) (Strip (cap.Write at size) ∷ s.history)) t (absorb p t (thread_of calls ended fuel due gs) (request who (what.Alloca at size)) Done)
alloca_served p s t calls ended fuel due [] who at size k fits e = absurd fits
alloca_served p s t calls ended fuel due (f ∷ fs) who at size k fits e =
    subst (λ (q : Principal). FramesKept (with_grant q (cap.Write at size) (Strip (cap.Write at size) ∷ s.history)) t (frame_of (activation_behind (Some (word W64 at)) (with_alloca at size f.run)) f.principal f.crossing ∷ fs)) fits.1
    (alloca_kept s.history t f.run f.principal f.crossing fs at size (Some (word W64 at)) fits.0 (leb-true _ _ (passed _ _ e)) k)

return_served : (p : Program) (s : State) (t : ℕ) (calls : List ScriptCall) (ended : List Ending) (fuel : ℕ) (due : Option Outcome) (gs : List Frame) (who : Principal) (low high : ℕ) →
    FramesKept s.history t gs → ReturnFits low high gs →
    Kept (Strip (cap.Write low (high - low)) ∷ s.history) t (absorb p t (thread_of calls ended fuel due gs) (request who (what.Return low high)) Done)
return_served p s t calls ended fuel due [] who low high k fits = absurd fits
return_served p s t calls ended fuel due (f ∷ fs) who low high k fits =
    let below : top_of_stack t fs ≤ f.run.low = k.0.0 in
    ret_kept s.history (Strip (cap.Write low (high - low)) ∷ s.history) p t calls ended fuel due f.run f.principal f.crossing fs (f ∷ fs) k.0
    (frames_spared s.history (Strip (cap.Write low (high - low)) ∷ s.history) t fs
    (spares_strip_above (stack_start t) (top_of_stack t fs) low (high - low) s.history (subst (λ (n : ℕ). top_of_stack t fs ≤ n) (sym fits.0) below)) k.2)

le_trans : {a b c : ℕ} → a ≤ b → b ≤ c → a ≤ c
le_trans h k = omega (arith, h, k)

-- the stacks of the first sixteen threads
pub stacks_from : (t : ℕ) → stacks_start ≤ stack_start t
stacks_from t = grind arith

pub stacks_to : (t : ℕ) → t < 16 → stack_end t ≤ stacks_start + region_size
stacks_to t h = grind (arith, h)

granted_kept : (p : Program) (s : State) (t : ℕ) (calls : List ScriptCall) (ended : List Ending) (fuel : ℕ) (due : Option Outcome) (gs : List Frame) (who : Principal) (w : What) →
    t < 16 → FramesKept s.history t gs → AskFits gs who w → decide p s t (request who w) ≡ None →
    Kept (grant_what p s t who w).state.history t (absorb p t (thread_of calls ended fuel due gs) (request who w) (grant_what p s t who w).reply)
granted_kept p s t calls ended fuel due gs who (what.Alloca at size) low k fits e = alloca_served p s t calls ended fuel due gs who at size k fits e
granted_kept p s t calls ended fuel due gs who (what.Return from to) low k fits e = return_served p s t calls ended fuel due gs who from to k fits
granted_kept p s t calls ended fuel due gs who (what.Enter way args) low k fits e = enter_kept p s t calls ended fuel due gs who way args (entered_function p s way) k
granted_kept p s t calls ended fuel due gs who (what.Perform n post i env source dest) low k fits e =
    let to : top_of_stack t gs ≤ stack_end t = ends_above s.history t gs k in
    let all : stack_end t ≤ stacks_start + region_size = stacks_to t low in
    action_kept (history_or (action_result p s t n post i env source dest) s.history) p t calls ended fuel due gs
    (frames_spared s.history (history_or (action_result p s t n post i env source dest) s.history) t gs
    (perform_spares (stack_start t) (top_of_stack t gs) p s t n post i env source dest (stacks_from t) (le_trans to all)) k)
granted_kept p s t calls ended fuel due gs who (what.Native n args) low k fits e = native_kept p s t calls ended fuel due gs who n (native_call n) args k
granted_kept p s t calls ended fuel due gs who (what.Finish o) low k fits e = tt
granted_kept p s t calls ended fuel due gs who (what.Load at width) low k fits e = past_kept s.history t calls ended fuel due gs _ k
granted_kept p s t calls ended fuel due gs who w low k fits e = past_kept s.history t calls ended fuel due gs None k

by_outcome : (o : Option Outcome) (p : Program) (s : State) (t : ℕ) (calls : List ScriptCall) (ended : List Ending) (fuel : ℕ) (due : Option Outcome) (gs : List Frame) (who : Principal) (w : What) →
    decide p s t (request who w) ≡ o → t < 16 → FramesKept s.history t gs → AskFits gs who w →
    Kept (serve_by o p s t (request who w)).state.history t (absorb p t (thread_of calls ended fuel due gs) (request who w) (serve_by o p s t (request who w)).reply)
by_outcome (Some o) p s t calls ended fuel due gs who w e low k fits = tt
by_outcome None p s t calls ended fuel due gs who w e low k fits = granted_kept p s t calls ended fuel due gs who w low k fits e

on_alloca : (h : History) (t : ℕ) (gs : List Frame) (who : Principal) (at : ℕ) → FramesKept h t gs → AllocaFits who at gs → stack_start t ≤ at
on_alloca h t [] who at k fits = absurd fits
on_alloca h t (f ∷ fs) who at k fits = let l : stack_start t ≤ f.run.high = starts_below h t (f ∷ fs) k in le_trans l fits.0

on_return : (h : History) (t : ℕ) (gs : List Frame) (low high : ℕ) → FramesKept h t gs → ReturnFits low high gs → (stack_start t ≤ low) × (low ≤ high) × (high ≤ stack_end t)
on_return h t [] low high k fits = absurd fits
on_return h t (f ∷ fs) low high k fits =
    let l : stack_start t ≤ top_of_stack t fs = starts_below h t fs k.2 in
    let a : top_of_stack t fs ≤ f.run.low = k.0.0 in
    let b : f.run.low ≤ f.run.high = k.0.1 in
    let c : f.run.high ≤ stack_end t = k.0.2 in
    let x : low ≡ f.run.low = fits.0 in
    let y : high ≡ f.run.high = fits.1 in
    (omega (arith, l, a, x), omega (arith, b, x, y), omega (arith, c, y))

on_stack : (h : History) (t : ℕ) (gs : List Frame) (who : Principal) (w : What) → FramesKept h t gs → AskFits gs who w → OnStack t w
on_stack h t gs who (what.Alloca at size) k fits = on_alloca h t gs who at k fits
on_stack h t gs who (what.Return low high) k fits = on_return h t gs low high k fits
on_stack h t gs who w k fits = tt

-- a request that is served and taken in
pub served_kept : (p : Program) (s : State) (t : ℕ) (calls : List ScriptCall) (ended : List Ending) (fuel : ℕ) (due : Option Outcome) (gs : List Frame) (who : Principal) (w : What) →
    t < 16 → FramesKept s.history t gs → AskFits gs who w →
    AskKept p s t (thread_of calls ended fuel due gs) (request who w)
served_kept p s t calls ended fuel due gs who w low k fits =
    (by_outcome (decide p s t (request who w)) p s t calls ended fuel due gs who w refl low k fits, on_stack s.history t gs who w k fits, k)
