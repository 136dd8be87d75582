-- An action that the wrappers of its function have no line for is never asked for, whatever the code.
use Rattle.std.proofs.Common.{◌≡◌, ℕ, zero, suc, ◌+◌, ◌*◌, Bool, true, false, not, List, [], ◌∷◌, length, map, Option, Some, None, inl, inr, refl, subst, ◌∙◌, ap, eq-eqb}
use Rattle.std.specs.Prelude.{slice_get, slice_set}
use Rattle.lx_words.specs.Word.{Word}
use Rattle.lx_words.proofs.Tests.{first_of, second_of}
use Rattle.lx_words.proofs.Options.{none_some, some_same}
use Rattle.lx_caps.specs.declared.Principal.{Principal}
use Rattle.lx_caps.specs.declared.Principal.TheVariants.{Kernel}
use Rattle.lx_ir.specs.declared.module.Symbol.{Symbol}
use Rattle.lx_ir.specs.declared.module.Symbol.TheVariants as symbol
use Rattle.lx_ir.specs.declared.instr.Callee.{Callee}
use Rattle.lx_ir.specs.declared.instr.Callee.TheVariants as callee
use Rattle.lx_ir.specs.declared.instr.Op.{Op}
use Rattle.lx_ir.specs.declared.instr.Op.TheVariants as op
use Rattle.lx_annot.specs.declared.expr.Env.{Env}
use Rattle.lx_model.specs.declared.program.Program.{Program}
use Rattle.lx_model.specs.declared.program.ScriptCall.{ScriptCall}
use Rattle.lx_model.specs.declared.request.Entry.{Entry}
use Rattle.lx_model.specs.declared.request.Outcome.{Outcome}
use Rattle.lx_model.specs.declared.request.Outcome.TheVariants.{Trapped, Budget}
use Rattle.lx_model.specs.declared.request.Trap.TheVariants.{Unreachable}
use Rattle.lx_model.specs.declared.request.Way.{Way}
use Rattle.lx_model.specs.declared.request.Way.TheVariants.{Script, Direct, Indirect, Slot}
use Rattle.lx_model.specs.declared.request.What.{What}
use Rattle.lx_model.specs.declared.request.What.TheVariants as what
use Rattle.lx_model.specs.declared.request.Request.{Request}
use Rattle.lx_model.specs.declared.request.Reply.{Reply}
use Rattle.lx_model.specs.declared.request.Reply.TheVariants.{Value, Done, Entered, Ended}
use Rattle.lx_model.specs.Program.{Target, ToNative, ToSlot, ToImport, ToOwn, Nowhere, target}
use Rattle.lx_model.specs.Thread.{CodeBlock, Activation, has_call, behind_head}
use Rattle.lx_model.specs.Effect.{Effect, Moves, Wants, Enters, Calls, Traps, effect, division, arrival, slot_effect, target_effect, call_effect, argument_words, text_of}
use Rattle.lx_model.specs.Next.{request, has_action}
use Rattle.lx_model.specs.State.{State}
use Rattle.lx_model.specs.Decide.{decide}
use Rattle.lx_model.specs.Serve.{serve_by, serve}
use Rattle.lx_model.proofs.ServedJournal.{served_journal}
use Rattle.lx_images.specs.Image.{Code, Marks, no_marks, top, tail, below_top, ImageFrame, Runs, Wraps, ImageThread, ImageStep, ImageAsking, Goes, Asks, wrapped_import, wrapper_args, comes_to, if_paid, if_room, has_room, effect_step, first_line, costly_step, one_step, instruction_step, after_leaving, with_shadow, action_line, leaving_line, wrapper_line, start_step, frame_step, due_or, image_step, image_next_within, image_next, on_running, at_lines, entered_frames, fits_site, after_entry, behind_line, after_ret, after_reply, image_absorb}
use Rattle.lx_images.specs.ImageWorld.{ImageWorld, image_after_request, image_event_if, image_event_of, image_event, image_run, image_opening, fresh_image_thread}
use Rattle.lx_images.specs.Wrappers.{called_lines, in_lines}
use Rattle.lx_images.specs.Places.{IsIn}
use Rattle.lx_simulation.specs.Crossing.{is_action, lacks, LacksLine, NotFor}
use Rattle.lx_simulation.proofs.Table.{in_either}
use Rattle.lx_simulation.proofs.Wrapping.{is_not}

-- the wrappers of the function among these frames have no line for the action
abbrev Free : ℕ → Bool → ℕ → List ImageFrame → Type 0
Free n post k [] = Unit {0}
Free n post k (Runs a ∷ fs) = Free n post k fs
Free n post k (Wraps m args lines x ∷ fs) = (m ≡ n → lacks post k lines ≡ true) × Free n post k fs

-- nor is it asked for
abbrev FreeStep : ℕ → Bool → ℕ → ImageStep → Type 0
FreeStep n post k (Goes v) = Free n post k v.frames
FreeStep n post k (Asks v r) = Free n post k v.frames × NotFor n post k r.what

-- requests that are for no action

not_finish : (n : ℕ) (post : Bool) (k : ℕ) (o : Outcome) → NotFor n post k (what.Finish o)
not_finish n post k o env source dest e = cc

not_enter : (n : ℕ) (post : Bool) (k : ℕ) (way : Way) (args : List Word) → NotFor n post k (what.Enter way args)
not_enter n post k way args env source dest e = cc

not_native : (n : ℕ) (post : Bool) (k i : ℕ) (args : List Word) → NotFor n post k (what.Native i args)
not_native n post k i args env source dest e = cc

abbrev FreeEffect : ℕ → Bool → ℕ → Effect → Type 0
FreeEffect n post k (Wants w) = NotFor n post k w
FreeEffect n post k (Enters w) = NotFor n post k w
FreeEffect n post k e = Unit {0}

divides : (n : ℕ) (post : Bool) (k : ℕ) (a : Activation) (w : Option Word) → FreeEffect n post k (division a w)
divides n post k a None = tt
divides n post k a (Some w) = tt

arrives : (n : ℕ) (post : Bool) (k : ℕ) (p : Program) (a : Activation) (b : Option CodeBlock) → FreeEffect n post k (arrival p a b)
arrives n post k p a None = tt
arrives n post k p a (Some b) = tt

slots_free : (n : ℕ) (post : Bool) (k ty : ℕ) (args : List Word) → FreeEffect n post k (slot_effect ty args)
slots_free n post k ty [] = tt
slots_free n post k ty (s ∷ args) = not_enter n post k _ args

targets_free : (n : ℕ) (post : Bool) (k : ℕ) (x : Target) (args : List Word) → FreeEffect n post k (target_effect x args)
targets_free n post k (ToNative i) args = not_native n post k i args
targets_free n post k (ToSlot s) args = slots_free n post k s args
targets_free n post k (ToImport i) args = not_enter n post k (Direct i) args
targets_free n post k (ToOwn i) args = tt
targets_free n post k Nowhere args = tt

calls_free : (n : ℕ) (post : Bool) (k : ℕ) (p : Program) (a : Activation) (x : Callee) (args : List Word) → FreeEffect n post k (call_effect p a x args)
calls_free n post k p a (callee.Symbol (symbol.Function f)) args = targets_free n post k (target p (text_of p a) f) args
calls_free n post k p a (callee.Symbol (symbol.Global g)) args = tt
calls_free n post k p a (callee.Register r) args = not_enter n post k _ args

-- an instruction asks for no action
effects_free : (n : ℕ) (post : Bool) (k : ℕ) (p : Program) (a : Activation) (o : Op) → FreeEffect n post k (effect p a o)
effects_free n post k p a (op.Call to ret x args) = calls_free n post k p a x (argument_words p a args)
effects_free n post k p a (op.Binary to b ty x y) = divides n post k a _
effects_free n post k p a (op.Jump label) = arrives n post k p a _
effects_free n post k p a (op.Branch test x y) = arrives n post k p a _
effects_free n post k p a (op.Switch ty v otherwise cases) = arrives n post k p a _
effects_free n post k p a (op.Alloca to ty) = λ env source dest e. cc
effects_free n post k p a (op.Load to ty at) = λ env source dest e. cc
effects_free n post k p a (op.Store ty v at) = λ env source dest e. cc
effects_free n post k p a (op.CopyBlock moves dest source len) = λ env s d e. cc
effects_free n post k p a (op.FillBlock dest byte len) = λ env s d e. cc
effects_free n post k p a (op.Ret v) = λ env source dest e. cc
effects_free n post k p a (op.Compare to pred ty x y) = tt
effects_free n post k p a (op.Convert to how from x into) = tt
effects_free n post k p a (op.Unary to o ty x) = tt
effects_free n post k p a (op.Select to test ty x y) = tt
effects_free n post k p a (op.GetElementPtr to ty base indices) = tt
effects_free n post k p a _ = tt

-- steps

comes_free : (n : ℕ) (post : Bool) (k : ℕ) (o : Outcome) (v : ImageThread) → FreeStep n post k (comes_to o v)
comes_free n post k o v = (tt, not_finish n post k o)

paid_free : (n : ℕ) (post : Bool) (k : ℕ) (v : ImageThread) (fuel : ℕ) (go : ImageThread → ImageStep) → ((i : ℕ) → FreeStep n post k (go (record v { fuel = i }))) → FreeStep n post k (if_paid (record v { fuel = fuel }) go)
paid_free n post k v zero go h = comes_free n post k Budget (record v { fuel = 0 })
paid_free n post k v (suc i) go h = h i

room_free : (n : ℕ) (post : Bool) (k : ℕ) (b : Bool) (v : ImageThread) (s : ImageStep) → FreeStep n post k s → FreeStep n post k (if_room b v s)
room_free n post k true v s h = h
room_free n post k false v s h = (tt, not_finish n post k _)

effect_free : (n : ℕ) (post : Bool) (k : ℕ) (c : Code) (v : ImageThread) (m : Marks) (a : Activation) (fs : List ImageFrame) (e : Effect) → Free n post k fs → FreeEffect n post k e → FreeStep n post k (effect_step c v m a fs e)
effect_free n post k c v m a fs (Moves b) h e = h
effect_free n post k c v m a fs (Wants w) h e = (h, e)
effect_free n post k c v m a fs (Enters w) h e = room_free n post k (has_room (Runs a ∷ fs)) v _ (h, e)
effect_free n post k c v m a fs (Calls i args) h e = room_free n post k (has_room (Runs a ∷ fs)) v _ h
effect_free n post k c v m a fs (Traps trap) h e = comes_free n post k (Trapped trap) v

first_free : (n : ℕ) (post : Bool) (k : ℕ) (v : ImageThread) (m : ℕ) (args : List Word) (fs : List ImageFrame) (lines : List Op) → (m ≡ n → lacks post k lines ≡ true) → Free n post k fs → FreeStep n post k (first_line v m args fs lines)
first_free n post k v m args fs [] l h = comes_free n post k (Trapped Unreachable) v
first_free n post k v m args fs (op.Enter s ∷ lines) l h = ((l, h), not_enter n post k (Direct m) args)
first_free n post k v m args fs (o ∷ lines) l h = comes_free n post k (Trapped Unreachable) v

costly_free : (n : ℕ) (post : Bool) (k : ℕ) (c : Code) → LacksLine c n post k → (m : Marks) (a : Activation) (fs : List ImageFrame) (o : Op) (w : Option ℕ) (v : ImageThread) → wrapped_import c (text_of c.program a) o ≡ w → Free n post k fs → FreeStep n post k (costly_step c m a fs o w v)
costly_free n post k c l m a fs o (Some i) v e h =
    room_free n post k (has_room (Runs a ∷ fs)) v _
    (first_free n post k v i (wrapper_args c a o) (Runs a ∷ fs) (called_lines c (text_of c.program a) o) (λ same. l.called (text_of c.program a) o (e ∙ ap (λ (j : ℕ). Some j) same)) h)
costly_free n post k c l m a fs o None v e h = effect_free n post k c v m a fs (effect c.program a o) h (effects_free n post k c.program a o)

one_free : (n : ℕ) (post : Bool) (k : ℕ) (c : Code) → LacksLine c n post k → (v : ImageThread) (m : Marks) (a : Activation) (fs : List ImageFrame) (o : Op) (go : Marks → Activation → ImageStep) →
    ((i : Marks) (b : Activation) → FreeStep n post k (go i b)) → Free n post k fs → FreeStep n post k (one_step c v m a fs o go)
one_free n post k c l v m a fs (op.Guard at size narrow) go ih h = ih _ _
one_free n post k c l v m a fs (op.Check target) go ih h = ih _ _
one_free n post k c l v m a fs o go ih h =
    paid_free n post k v v.fuel (costly_step c m a fs o (wrapped_import c (text_of c.program a) o))
    (λ i. costly_free n post k c l m a fs o (wrapped_import c (text_of c.program a) o) (record v { fuel = i }) refl h)

code_free : (n : ℕ) (post : Bool) (k : ℕ) (c : Code) → LacksLine c n post k → (v : ImageThread) (fs : List ImageFrame) (os : List Op) (m : Marks) (a : Activation) → Free n post k fs → FreeStep n post k (instruction_step c v fs os m a)
code_free n post k c l v fs [] m a h = paid_free n post k v v.fuel (comes_to (Trapped Unreachable)) (λ i. comes_free n post k (Trapped Unreachable) (record v { fuel = i }))
code_free n post k c l v fs (o ∷ os) m a h = one_free n post k c l v m a fs o (instruction_step c v fs os) (λ i b. code_free n post k c l v fs os i b h) h

-- lines

leaves_free : (n : ℕ) (post : Bool) (k : ℕ) (x : Option Word) (fs : List ImageFrame) (v : ImageThread) → Free n post k fs → Free n post k (after_leaving x fs v).frames
leaves_free n post k x [] v h = tt
leaves_free n post k x (Runs a ∷ fs) v h = h
leaves_free n post k x (Wraps m args lines y ∷ fs) v h = h

leaving_free : (n : ℕ) (post : Bool) (k : ℕ) (v : ImageThread) (x : Option Word) (fs : List ImageFrame) (lines : List Op) → Free n post k fs → FreeStep n post k (leaving_line v x fs lines)
leaving_free n post k v x fs [] h = comes_free n post k (Trapped Unreachable) v
leaving_free n post k v x fs (op.Ret r ∷ lines) h = leaves_free n post k x fs v h
leaving_free n post k v x fs (o ∷ lines) h = comes_free n post k (Trapped Unreachable) v

is_pre : (s : Symbol) (j k : ℕ) (post : Bool) → false ≡ post → j ≡ k → is_action post k (op.Pre s j) ≡ true
is_pre s j k false e same = eq-eqb j k same
is_pre s j k true e same = cc

is_post : (s : Symbol) (j k : ℕ) (post : Bool) → true ≡ post → j ≡ k → is_action post k (op.Post s j) ≡ true
is_post s j k true e same = eq-eqb j k same
is_post s j k false e same = cc

pre_not : (n : ℕ) (post : Bool) (k m j : ℕ) (s : Symbol) (lines : List Op) (env : Env) (source dest : Principal) → (m ≡ n → lacks post k (op.Pre s j ∷ lines) ≡ true) → NotFor n post k (what.Perform m false j env source dest)
pre_not n post k m j s lines env source dest l env' source' dest' e =
    let function : m ≡ n = cc in
    let side : false ≡ post = cc in
    let number : j ≡ k = cc in
    is_not (is_action post k (op.Pre s j)) (is_pre s j k post side number) (first_of (not (is_action post k (op.Pre s j))) (lacks post k lines) (l function))

post_not : (n : ℕ) (post : Bool) (k m j : ℕ) (s : Symbol) (lines : List Op) (env : Env) (source dest : Principal) → (m ≡ n → lacks post k (op.Post s j ∷ lines) ≡ true) → NotFor n post k (what.Perform m true j env source dest)
post_not n post k m j s lines env source dest l env' source' dest' e =
    let function : m ≡ n = cc in
    let side : true ≡ post = cc in
    let number : j ≡ k = cc in
    is_not (is_action post k (op.Post s j)) (is_post s j k post side number) (first_of (not (is_action post k (op.Post s j))) (lacks post k lines) (l function))

action_free : (n : ℕ) (post : Bool) (k : ℕ) (b : Bool) (v : ImageThread) (fuel m : ℕ) (side : Bool) (j : ℕ) (args : List Word) (x : Option Word) (source dest : Principal) → Free n post k v.frames →
    NotFor n post k (what.Perform m side j (record { args = args; ret = x }) source dest) → FreeStep n post k (action_line b (record v { fuel = fuel }) m side j args x source dest)
action_free n post k true v zero m side j args x source dest h no' = comes_free n post k Budget (record v { fuel = 0 })
action_free n post k true v (suc i) m side j args x source dest h no' = (h, no')
action_free n post k false v fuel m side j args x source dest h no' = comes_free n post k (Trapped Unreachable) (record v { fuel = fuel })

line_free : (n : ℕ) (post : Bool) (k : ℕ) (c : Code) (v : ImageThread) (m : ℕ) (args : List Word) (x : Option Word) (fs : List ImageFrame) (lines : List Op) → Free n post k v.frames → (m ≡ n → lacks post k lines ≡ true) → Free n post k fs →
    FreeStep n post k (wrapper_line c v m args x fs lines)
line_free n post k c v m args x fs [] all l h = comes_free n post k (Trapped Unreachable) v
line_free n post k c v m args x fs (op.Pre s j ∷ lines) all l h =
    action_free n post k (has_action c.program m false j) v v.fuel m false j args None (below_top v.shadow) (top v.shadow) all (pre_not n post k m j s lines (record { args = args; ret = None }) (below_top v.shadow) (top v.shadow) l)
line_free n post k c v m args x fs (op.Post s j ∷ lines) all l h =
    action_free n post k (has_action c.program m true j) v v.fuel m true j args x (top v.shadow) (below_top v.shadow) all (post_not n post k m j s lines (record { args = args; ret = x }) (top v.shadow) (below_top v.shadow) l)
line_free n post k c v m args x fs (op.Leave s ∷ lines) all l h = leaving_free n post k (with_shadow (tail v.shadow) v) x fs lines h
line_free n post k c v m args x fs (op.Ret r ∷ lines) all l h = leaves_free n post k x fs v h
line_free n post k c v m args x fs (o ∷ lines) all l h = comes_free n post k (Trapped Unreachable) v

start_free : (n : ℕ) (post : Bool) (k : ℕ) (calls : List ScriptCall) (v : ImageThread) → Free n post k v.frames → FreeStep n post k (start_step calls v)
start_free n post k [] v h = comes_free n post k Budget v
start_free n post k (call ∷ calls) v h =
    paid_free n post k v v.fuel (λ w. Asks w (request Kernel (what.Enter (Script call.function) call.args))) (λ i. (h, not_enter n post k (Script call.function) call.args))

frame_free : (n : ℕ) (post : Bool) (k : ℕ) (c : Code) → LacksLine c n post k → (v : ImageThread) (fs : List ImageFrame) → Free n post k v.frames → Free n post k fs → FreeStep n post k (frame_step c v fs)
frame_free n post k c l v [] all h = start_free n post k v.calls v all
frame_free n post k c l v (Runs a ∷ fs) all h = code_free n post k c l v fs a.code no_marks a h
frame_free n post k c l v (Wraps m args lines x ∷ fs) all h = line_free n post k c v m args x fs lines all h.0 h.1

due_free : (n : ℕ) (post : Bool) (k : ℕ) (due : Option Outcome) (v : ImageThread) (s : ImageStep) → Free n post k v.frames → FreeStep n post k s → FreeStep n post k (due_or due v s)
due_free n post k (Some o) v s h f = (h, not_finish n post k o)
due_free n post k None v s h f = f

step_free : (n : ℕ) (post : Bool) (k : ℕ) (c : Code) → LacksLine c n post k → (v : ImageThread) → Free n post k v.frames → FreeStep n post k (image_step c v)
step_free n post k c l v h = due_free n post k v.due v (frame_step c v v.frames) h (frame_free n post k c l v v.frames h h)

-- requests

abbrev FreeAsking : ℕ → Bool → ℕ → ImageAsking → Type 0
FreeAsking n post k a = Free n post k a.thread.frames × NotFor n post k a.request.what

further_free : (i n : ℕ) (post : Bool) (k : ℕ) (c : Code) (s : ImageStep) → FreeStep n post k s → ((v : ImageThread) → Free n post k v.frames → FreeAsking n post k (image_next_within i c v)) →
    FreeAsking n post k (elim s [ Goes w ↦ image_next_within i c w | Asks w r ↦ record { thread = w; request = r } ])
further_free i n post k c (Goes v) h ih = ih v h
further_free i n post k c (Asks v r) h ih = h

next_free : (i n : ℕ) (post : Bool) (k : ℕ) (c : Code) → LacksLine c n post k → (v : ImageThread) → Free n post k v.frames → FreeAsking n post k (image_next_within i c v)
next_free zero n post k c l v h = (h, not_finish n post k Budget)
next_free (suc i) n post k c l v h = further_free i n post k c (image_step c v) (step_free n post k c l v h) (λ w f. next_free i n post k c l w f)

-- replies

rest_lacks : (post : Bool) (k : ℕ) (lines : List Op) → lacks post k lines ≡ true → lacks post k (behind_head lines) ≡ true
rest_lacks post k [] h = refl
rest_lacks post k (o ∷ lines) h = second_of (not (is_action post k o)) (lacks post k lines) h

at_free : (n : ℕ) (post : Bool) (k : ℕ) (c : Code) (t m : ℕ) (args : List Word) (x : Option Word) (fs : List ImageFrame) (lines : List Op) → (m ≡ n → lacks post k lines ≡ true) → Free n post k fs → Free n post k (at_lines c t m args x fs lines)
at_free n post k c t m args x fs [] l h = (l, h)
at_free n post k c t m args x fs (op.Call to ret f as' ∷ lines) l h = ((λ same. rest_lacks post k (op.Call to ret f as' ∷ lines) (l same)), h)
at_free n post k c t m args x fs (o ∷ lines) l h = (l, h)

behind_free : (n : ℕ) (post : Bool) (k : ℕ) (c : Code) (t : ℕ) (fs : List ImageFrame) → Free n post k fs → Free n post k (behind_line c t fs)
behind_free n post k c t [] h = tt
behind_free n post k c t (Runs a ∷ fs) h = h
behind_free n post k c t (Wraps m args lines x ∷ fs) h = at_free n post k c t m args x fs (behind_head lines) (λ same. rest_lacks post k lines (h.0 same)) h.1

entered_free : (n : ℕ) (post : Bool) (k : ℕ) (c : Code) → LacksLine c n post k → (t : ℕ) (crosses : Bool) (m : ℕ) (args : List Word) (fs : List ImageFrame) → Free n post k fs → Free n post k (entered_frames c t crosses m args fs)
entered_free n post k c l t true m args fs h =
    at_free n post k c t m args None fs (behind_head (in_lines c m)) (λ same. rest_lacks post k (in_lines c m) (ap (λ (i : ℕ). lacks post k (in_lines c i)) same ∙ l.entered)) h
entered_free n post k c l t false m args fs h = h

entry_free : (n : ℕ) (post : Bool) (k : ℕ) (c : Code) → LacksLine c n post k → (t : ℕ) (b : Bool) (way : Way) (args : List Word) (m : ℕ) (q : Principal) (crosses : Bool) (v : ImageThread) → Free n post k v.frames → Free n post k (after_entry c t b way args m q crosses v).frames
entry_free n post k c l t true way args m q crosses v h = entered_free n post k c l t crosses m args v.frames h
entry_free n post k c l t false way args m q crosses v h = tt

running_free : (n : ℕ) (post : Bool) (k : ℕ) (change : Activation → Activation) (fs : List ImageFrame) → Free n post k fs → Free n post k (on_running change fs)
running_free n post k change [] h = tt
running_free n post k change (Runs a ∷ fs) h = h
running_free n post k change (Wraps m args lines x ∷ fs) h = h

ret_free : (n : ℕ) (post : Bool) (k : ℕ) (c : Code) (fs : List ImageFrame) (v : ImageThread) → Free n post k v.frames → Free n post k fs → Free n post k (after_ret c fs v).frames
ret_free n post k c [] v all h = all
ret_free n post k c (Runs a ∷ fs) v all h = leaves_free n post k _ fs v h
ret_free n post k c (Wraps m args lines x ∷ fs) v all h = all

way_free : (n : ℕ) (post : Bool) (k : ℕ) (c : Code) → LacksLine c n post k → (t : ℕ) (v : ImageThread) (way : Way) (args : List Word) (m : ℕ) (q : Principal) (crosses : Bool) → Free n post k v.frames → Free n post k (after_reply c t v (what.Enter way args) (Entered m q crosses)).frames
way_free n post k c l t v (Direct f) args m q crosses h = behind_free n post k c t v.frames h
way_free n post k c l t v (Script f) args m q crosses h = entry_free n post k c l t (fits_site c (Script f) v.frames m) (Script f) args m q crosses v h
way_free n post k c l t v (Indirect f) args m q crosses h = entry_free n post k c l t (fits_site c (Indirect f) v.frames m) (Indirect f) args m q crosses v h
way_free n post k c l t v (Slot f ty) args m q crosses h = entry_free n post k c l t (fits_site c (Slot f ty) v.frames m) (Slot f ty) args m q crosses v h

reply_free : (n : ℕ) (post : Bool) (k : ℕ) (c : Code) → LacksLine c n post k → (t : ℕ) (v : ImageThread) (who : Principal) (w : What) (reply : Reply) → Free n post k v.frames → Free n post k (image_absorb c t v (request who w) reply).frames
reply_free n post k c l t v who w (Ended o) h = tt
reply_free n post k c l t v who (what.Alloca at size) (Value y) h = running_free n post k _ v.frames h
reply_free n post k c l t v who (what.Alloca at size) Done h = running_free n post k _ v.frames h
reply_free n post k c l t v who (what.Alloca at size) (Entered m q crosses) h = running_free n post k _ v.frames h
reply_free n post k c l t v who (what.Perform m side j env source dest) (Value y) h = behind_free n post k c t v.frames h
reply_free n post k c l t v who (what.Perform m side j env source dest) Done h = behind_free n post k c t v.frames h
reply_free n post k c l t v who (what.Perform m side j env source dest) (Entered i q crosses) h = behind_free n post k c t v.frames h
reply_free n post k c l t v who (what.Return low high) (Value y) h = ret_free n post k c v.frames v h h
reply_free n post k c l t v who (what.Return low high) Done h = ret_free n post k c v.frames v h h
reply_free n post k c l t v who (what.Return low high) (Entered m q crosses) h = ret_free n post k c v.frames v h h
reply_free n post k c l t v who (what.Enter way args) (Entered m q crosses) h = way_free n post k c l t v way args m q crosses h
reply_free n post k c l t v who (what.Enter (Direct f) args) (Value y) h = running_free n post k _ v.frames h
reply_free n post k c l t v who (what.Enter (Script f) args) (Value y) h = running_free n post k _ v.frames h
reply_free n post k c l t v who (what.Enter (Indirect f) args) (Value y) h = running_free n post k _ v.frames h
reply_free n post k c l t v who (what.Enter (Slot f ty) args) (Value y) h = running_free n post k _ v.frames h
reply_free n post k c l t v who (what.Enter (Direct f) args) Done h = running_free n post k _ v.frames h
reply_free n post k c l t v who (what.Enter (Script f) args) Done h = running_free n post k _ v.frames h
reply_free n post k c l t v who (what.Enter (Indirect f) args) Done h = running_free n post k _ v.frames h
reply_free n post k c l t v who (what.Enter (Slot f ty) args) Done h = running_free n post k _ v.frames h
reply_free n post k c l t v who w (Value y) h = running_free n post k _ v.frames h
reply_free n post k c l t v who w Done h = running_free n post k _ v.frames h
reply_free n post k c l t v who w (Entered m q crosses) h = running_free n post k _ v.frames h

absorb_free : (n : ℕ) (post : Bool) (k : ℕ) (c : Code) → LacksLine c n post k → (t : ℕ) (v : ImageThread) (r : Request) (reply : Reply) → Free n post k v.frames → Free n post k (image_absorb c t v r reply).frames
absorb_free n post k c l t v r (Ended o) h = tt
absorb_free n post k c l t v r (Value y) h = reply_free n post k c l t v r.who r.what (Value y) h
absorb_free n post k c l t v r Done h = reply_free n post k c l t v r.who r.what Done h
absorb_free n post k c l t v r (Entered m q crosses) h = reply_free n post k c l t v r.who r.what (Entered m q crosses) h

-- worlds

abbrev AllFree : ℕ → Bool → ℕ → List ImageThread → Type 0
AllFree n post k [] = Unit {0}
AllFree n post k (v ∷ vs) = Free n post k v.frames × AllFree n post k vs

record FreeWorld (n : ℕ) (post : Bool) (k : ℕ) (w : ImageWorld) : Type 0 where
  threads : AllFree n post k w.threads
  journal : (e : Entry) → IsIn e w.state.journal → NotFor n post k e.request.what

got_free : (n : ℕ) (post : Bool) (k : ℕ) (vs : List ImageThread) (t : ℕ) (v : ImageThread) → AllFree n post k vs → slice_get vs t ≡ Some v → Free n post k v.frames
got_free n post k [] t v all e = none_some e
got_free n post k (x ∷ vs) zero v all e = subst (λ (y : ImageThread). Free n post k y.frames) (some_same e) all.0
got_free n post k (x ∷ vs) (suc t) v all e = got_free n post k vs t v all.1 e

set_free : (n : ℕ) (post : Bool) (k : ℕ) (vs : List ImageThread) (t : ℕ) (v : ImageThread) → AllFree n post k vs → Free n post k v.frames → AllFree n post k (slice_set vs t v)
set_free n post k [] t v all h = tt
set_free n post k (x ∷ vs) zero v all h = (h, all.1)
set_free n post k (x ∷ vs) (suc t) v all h = (all.0, set_free n post k vs t v all.1 h)

entry_not : (n : ℕ) (post : Bool) (k : ℕ) (p : Program) (s : State) (t : ℕ) (r : Request) → ((e : Entry) → IsIn e s.journal → NotFor n post k e.request.what) → NotFor n post k r.what →
    (e : Entry) → IsIn e (serve p s t r).state.journal → NotFor n post k e.request.what
entry_not n post k p s t r old new e i =
    elim (in_either e (serve_by (decide p s t r) p s t r).state.journal (record { thread = t; request = r; reply = (serve_by (decide p s t r) p s t r).reply } ∷ []) i) [
      | inl a ↦ old e (subst (λ (es : List Entry). IsIn e es) (served_journal p s t r (decide p s t r)) a)
      | inr b ↦ elim b [ inl same ↦ subst (λ (x : Entry). NotFor n post k x.request.what) same new | inr none ↦ absurd none ]
    ]

request_free : (n : ℕ) (post : Bool) (k : ℕ) (c : Code) → LacksLine c n post k → (t : ℕ) (w : ImageWorld) (a : ImageAsking) → FreeWorld n post k w → FreeAsking n post k a → FreeWorld n post k (image_after_request c t w a)
request_free n post k c l t w a h f =
    record {
      threads = set_free n post k w.threads t (image_absorb c t a.thread a.request (serve c.program w.state t a.request).reply) h.threads (absorb_free n post k c l t a.thread a.request (serve c.program w.state t a.request).reply f.0);
      journal = entry_not n post k c.program w.state t a.request h.journal f.1;
    }

event_if_free : (n : ℕ) (post : Bool) (k : ℕ) (c : Code) → LacksLine c n post k → (b : Bool) (t : ℕ) (w : ImageWorld) (v : ImageThread) → FreeWorld n post k w → Free n post k v.frames → FreeWorld n post k (image_event_if b c t w v)
event_if_free n post k c l true t w v h f = request_free n post k c l t w (image_next c v) h (next_free (2 * v.fuel + length v.frames + 1) n post k c l v f)
event_if_free n post k c l false t w v h f = h

event_of_free : (n : ℕ) (post : Bool) (k : ℕ) (c : Code) → LacksLine c n post k → (t : ℕ) (w : ImageWorld) (v : Option ImageThread) → slice_get w.threads t ≡ v → FreeWorld n post k w → FreeWorld n post k (image_event_of v c t w)
event_of_free n post k c l t w None e h = h
event_of_free n post k c l t w (Some v) e h = event_if_free n post k c l (has_call v.calls) t w v h (got_free n post k w.threads t v h.threads e)

run_free : (n : ℕ) (post : Bool) (k : ℕ) (c : Code) → LacksLine c n post k → (schedule : List ℕ) (w : ImageWorld) → FreeWorld n post k w → FreeWorld n post k (image_run c schedule w)
run_free n post k c l [] w h = h
run_free n post k c l (t ∷ ts) w h = run_free n post k c l ts (image_event c t w) (event_of_free n post k c l t w (slice_get w.threads t) refl h)

fresh_free : (n : ℕ) (post : Bool) (k : ℕ) (script : List (List ScriptCall)) → AllFree n post k (map fresh_image_thread script)
fresh_free n post k [] = tt
fresh_free n post k (calls ∷ script) = (tt, fresh_free n post k script)

opening_free : (n : ℕ) (post : Bool) (k : ℕ) (c : Code) (script : List (List ScriptCall)) → FreeWorld n post k (image_opening c script)
opening_free n post k c script = record { threads = fresh_free n post k script; journal = λ e i. absurd i }

pub never_asked : (c : Code) (n : ℕ) (post : Bool) (k : ℕ) → LacksLine c n post k → (script : List (List ScriptCall)) (schedule : List ℕ) (e : Entry) → IsIn e (image_run c schedule (image_opening c script)).state.journal → NotFor n post k e.request.what
never_asked c n post k l script schedule = (run_free n post k c l schedule (image_opening c script) (opening_free n post k c script)).journal
