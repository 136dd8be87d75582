-- The monitor's reply to a request that fits may be given.
use Rattle.std.proofs.Common.{◌≡◌, ℕ, zero, suc, ◌+◌, Bool, true, false, ◌||◌, List, [], ◌∷◌, map, Option, Some, None, Ok, Err, refl, sym, subst, ◌∙◌, ap, leb-true}
use Rattle.std.specs.Prelude.{option_map, option_and_then, unwrap_or, nat_le, slice_get, if◌then◌else◌}
use Rattle.lx_words.specs.declared.word.Width.{Width}
use Rattle.lx_words.specs.Word.{Word}
use Rattle.lx_words.proofs.Widths.{width_is}
use Rattle.lx_words.proofs.Tests.{true_false, first_of, second_of}
use Rattle.lx_words.proofs.Options.{some_none, none_some, some_same}
use Rattle.lx_caps.specs.declared.Principal.{Principal}
use Rattle.lx_caps.specs.declared.Cap.TheVariants.{Call}
use Rattle.lx_caps.specs.Regions.{mapped, stack_end}
use Rattle.lx_caps.specs.History.{holds}
use Rattle.lx_caps.specs.Names.{Namings, named}
use Rattle.lx_caps.specs.Memory.{load64, number_at}
use Rattle.lx_annot.specs.declared.action.Who.{Who}
use Rattle.lx_annot.specs.declared.action.Who.TheVariants as who
use Rattle.lx_annot.specs.declared.interface.Parameter.{Parameter as DeclaredParameter}
use Rattle.lx_annot.specs.declared.interface.Slot.{Slot as SlotType}
use Rattle.lx_annot.specs.Value.{Found, and_then, value}
use Rattle.lx_ir.specs.declared.module.Function.{Function}
use Rattle.lx_model.specs.declared.program.Program.{Program}
use Rattle.lx_model.specs.declared.request.Outcome.{Outcome}
use Rattle.lx_model.specs.declared.request.Outcome.TheVariants.{Refused, Trapped}
use Rattle.lx_model.specs.declared.request.Refusal.TheVariants as refusal
use Rattle.lx_model.specs.declared.request.Trap.TheVariants.{Signature, StackFull}
use Rattle.lx_model.specs.declared.request.Reply.{Reply}
use Rattle.lx_model.specs.declared.request.Reply.TheVariants.{Value, Done, Entered, Ended}
use Rattle.lx_model.specs.declared.request.Request.{Request}
use Rattle.lx_model.specs.declared.request.Way.{Way}
use Rattle.lx_model.specs.declared.request.Way.TheVariants.{Script, Direct, Indirect, Slot}
use Rattle.lx_model.specs.declared.request.What.{What}
use Rattle.lx_model.specs.declared.request.What.TheVariants as what
use Rattle.lx_model.specs.Program.{Home, NativeCall, Alloc, Free, ZeroBytes, TryLock, NoteValue, AliasPrincipal, native_call, home_of, home_or_kernel, is_home, is_in, is_annotated, function_of, function_at, annotation_or_none, param_widths, result_width, same_widths, same_result, declared_width, is_of_width, are_declared, has_slot_signature}
use Rattle.lx_model.specs.State.{State}
use Rattle.lx_model.specs.Act.{unless, unmapped}
use Rattle.lx_model.specs.Enter.{Running, by_writers, decide_enter, decide_target, entered_function, fits_params, found_nothing, has_signature, instance_named, nobody, not_annotated, runs_as, runs_by, runs_in, slot_signature, slot_writers, text_of_principal}
use Rattle.lx_model.specs.Decide.{arg, decide, decide_what}
use Rattle.lx_model.specs.Serve.{after_native, after_try_lock, entering, entering_as, grant_what, serve, serve_by}
use Rattle.lx_model.specs.Fits.{Fits, FitsFunction, FitsSlot, FitsWay, FitsWhat, widths}
use Rattle.lx_link_texts.specs.Signatures.{native_result}
use Rattle.lx_simulation.proofs.Targets.{same_homes}
use Rattle.lx_linked.specs.Replies.{LeadsTo, ReplyFits}
use Rattle.lx_linked.proofs.FittingEffects.{same_listed}
use Rattle.lx_model.proofs.Passing.{passed, neither}
use Rattle.lx_model.proofs.Homes.{instance_text, kernel_home}
use Rattle.lx_linked.proofs.Entering.{no_target}

-- decisions

-- as whom a function runs

abbrev FoundText : Program → ℕ → Found Running → Type 0
FoundText p n (Err at) = Unit {0}
FoundText p n (Ok r) = text_of_principal r.principal ≡ home_or_kernel p n

valued_text : (p : Program) (names : Namings) (n m : ℕ) (found : Found ℕ) → Some m ≡ home_or_kernel p n → FoundText p n (and_then found (λ v. Ok (instance_named names m v)))
valued_text p names n m (Err at) h = tt
valued_text p names n m (Ok v) h = instance_text names m v (named names m v) ∙ h

by_text : (p : Program) (s : State) (n m : ℕ) (args : List Word) (o : Option Who) → Some m ≡ home_or_kernel p n → FoundText p n (runs_by s m args o)
by_text p s n m args None h = h
by_text p s n m args (Some who.Shared) h = h
by_text p s n m args (Some who.Global) h = h
by_text p s n m args (Some (who.Value e)) h = valued_text p s.names n m (value (load64 s.memory) (record { args = args; ret = None }) e) h

in_text : (p : Program) (s : State) (n : ℕ) (args : List Word) (o : Option Home) → home_of p n ≡ o → FoundText p n (runs_in p s n args o)
in_text p s n args None e = sym (ap (λ (o : Option Home). unwrap_or o None) e)
in_text p s n args (Some None) e = sym (ap (λ (o : Option Home). unwrap_or o None) e)
in_text p s n args (Some (Some m)) e = by_text p s n m args (annotation_or_none p n).principal (sym (ap (λ (o : Option Home). unwrap_or o None) e))

home_is : (home : Home) (o : Option Home) → is_home home o ≡ true → home ≡ unwrap_or o None
home_is home None e = true_false (sym e)
home_is home (Some other) e = sym (same_homes home other e)

if_text : (p : Program) (s : State) (caller : Principal) (n : ℕ) (args : List Word) (b : Bool) → is_in p (text_of_principal caller) n ≡ b → FoundText p n (if b then Ok (record { principal = caller; names = s.names }) else runs_in p s n args (home_of p n))
if_text p s caller n args true e = home_is (text_of_principal caller) (home_of p n) e
if_text p s caller n args false e = in_text p s n args (home_of p n) refl

runs_text : (p : Program) (s : State) (caller : Principal) (way : Way) (n : ℕ) (args : List Word) → FoundText p n (runs_as p s caller way n args)
runs_text p s caller (Script f) n args = in_text p s n args (home_of p n) refl
runs_text p s caller (Direct f) n args = in_text p s n args (home_of p n) refl
runs_text p s caller (Indirect a) n args = if_text p s caller n args (is_in p (text_of_principal caller) n) refl
runs_text p s caller (Slot at ty) n args = in_text p s n args (home_of p n) refl

-- what is entered

-- the function that a way leads to takes the arguments
abbrev Takes : Program → Way → List Word → ℕ → Type 0
Takes p way args n = FitsFunction p n args × LeadsTo p way n

fitted : (p : Program) (args : List Word) (n : ℕ) (o : Option Function) → function_of p n ≡ o → unwrap_or (option_map (λ (f : Function). same_widths (map (λ (x : Word). x.width) args) (param_widths f)) o) false ≡ true → FitsFunction p n args
fitted p args n None eo e = true_false (sym e)
fitted p args n (Some f) eo e = (f, eo, e)

one_width : (d : Option Width) (v w : Width) → is_of_width d v ≡ true → is_of_width d w ≡ true → v ≡ w
one_width None v w e h = true_false (sym e)
one_width (Some x) v w e h = sym (width_is x v e) ∙ width_is x w h

one_list : (ds : List DeclaredParameter) (vs ws : List Width) → are_declared ds vs ≡ true → are_declared ds ws ≡ true → vs ≡ ws
one_list [] [] [] e h = refl
one_list (d ∷ ds) (v ∷ vs) (w ∷ ws) e h =
    λ k. one_width (declared_width d.ty) v w (first_of (is_of_width (declared_width d.ty) v) (are_declared ds vs) e) (first_of (is_of_width (declared_width d.ty) w) (are_declared ds ws) h) k
    ∷ one_list ds vs ws (second_of (is_of_width (declared_width d.ty) v) (are_declared ds vs) e) (second_of (is_of_width (declared_width d.ty) w) (are_declared ds ws) h) k
one_list [] (v ∷ vs) ws e h = true_false (sym e)
one_list [] [] (w ∷ ws) e h = true_false (sym h)
one_list (d ∷ ds) [] ws e h = true_false (sym e)
one_list (d ∷ ds) (v ∷ vs) [] e h = true_false (sym h)

by_slot : (p : Program) (args : List Word) (n : ℕ) (t : SlotType) (o : Option SlotType) (fn : Option Function) → function_of p n ≡ fn → o ≡ Some t → are_declared t.params (widths args) ≡ true →
    unwrap_or (option_and_then (λ (s : SlotType). option_map (has_slot_signature s) fn) o) false ≡ true → FitsFunction p n args
by_slot p args n t None fn en eo declared e = none_some eo
by_slot p args n t (Some s) None en eo declared e = true_false (sym e)
by_slot p args n t (Some s) (Some f) en eo declared e =
    (f, en, same_listed (widths args) (param_widths f) (one_list s.params (widths args) (param_widths f) (ap (λ (x : SlotType). are_declared x.params (widths args)) (some_same eo) ∙ declared) (first_of (are_declared s.params (param_widths f)) (same_result (declared_width s.ret) (result_width f)) e)))

-- what is decided of a call that is served
record Entering (p : Program) (s : State) (caller : Principal) (way : Way) (args : List Word) : Type 0 where
  function : ℕ
  is : entered_function p s way ≡ Some function
  takes : Takes p way args function
  found : found_nothing (runs_as p s caller way function args) ≡ None

target_is : (p : Program) (s : State) (caller : Principal) (a : ℕ) (args : List Word) (o : Option ℕ) → function_at p a ≡ o → decide_target p s caller a args o ≡ None → Entering p s caller (Indirect a) args
target_is p s caller a args None eo e = some_none e
target_is p s caller a args (Some n) eo e =
    let behind = (neither (unless (is_in p (text_of_principal caller) n || is_annotated p n) (not_annotated caller a)) _ e).1 in
    let parts = neither (unless (fits_params p args n) (Trapped (Signature a))) (nobody p s caller (Indirect a) n args) behind in
    record { function = n; is = eo; takes = (fitted p args n (function_of p n) refl (passed (fits_params p args n) (Trapped (Signature a)) parts.0), tt); found = parts.1 }

slot_is : (p : Program) (s : State) (caller : Principal) (slot ty a : ℕ) (args : List Word) (o : Option ℕ) → number_at s.memory slot 8 ≡ a → function_at p a ≡ o → FitsSlot p ty args → by_writers p s caller slot ty a o (slot_writers p s slot) ≡ None →
    slot_signature p s caller (Slot slot ty) ty a args o ≡ None → Entering p s caller (Slot slot ty) args
slot_is p s caller slot ty a args None ea eo fits e h = absurd (no_target p s caller slot ty a (slot_writers p s slot) e)
slot_is p s caller slot ty a args (Some n) ea eo fits e h =
    let parts = neither (unless (has_signature p ty n) (Trapped (Signature a))) (nobody p s caller (Slot slot ty) n args) h in
    let sig : has_signature p ty n ≡ true = passed (has_signature p ty n) (Trapped (Signature a)) parts.0 in
    record {
      function = n;
      is = ap (function_at p) ea ∙ eo;
      takes = (by_slot p args n fits.0 (slice_get p.interface.slots ty) (function_of p n) refl fits.1 fits.2 sig, sig);
      found = parts.1;
    }

entering_is : (p : Program) (s : State) (caller : Principal) (way : Way) (args : List Word) → FitsWay p way args → decide_enter p s caller way args ≡ None → Entering p s caller way args
entering_is p s caller (Script n) args fits e = record { function = n; is = refl; takes = (fits, tt); found = e }
entering_is p s caller (Direct n) args fits e =
    record { function = n; is = refl; takes = (fits.1, refl); found = ap (λ (o : Option Home). found_nothing (runs_in p s n args o)) (kernel_home (home_of p n) fits.0) }
entering_is p s caller (Indirect a) args fits e = target_is p s caller a args (function_at p a) refl (neither (unless (holds s.history caller (Call a)) (Refused (refusal.Call caller a))) _ e).1
entering_is p s caller (Slot slot ty) args fits e =
    let behind = (neither (unless (mapped slot 8) (unmapped slot)) _ e).1 in
    let parts = neither (by_writers p s caller slot ty (number_at s.memory slot 8) (function_at p (number_at s.memory slot 8)) (slot_writers p s slot)) _ behind in
    slot_is p s caller slot ty (number_at s.memory slot 8) args (function_at p (number_at s.memory slot 8)) refl refl fits parts.0 parts.1

entered_as : (p : Program) (s : State) (t : ℕ) (caller : Principal) (way : Way) (args : List Word) (n : ℕ) (found : Found Running) → Takes p way args n → found_nothing found ≡ None → FoundText p n found → ReplyFits p t (what.Enter way args) (entering_as p s caller way n found).reply
entered_as p s t caller way args n (Err at) takes e text = some_none e
entered_as p s t caller way args n (Ok r) takes e text = (takes.0, text, takes.1)

enters : (p : Program) (s : State) (t : ℕ) (caller : Principal) (way : Way) (args : List Word) → Entering p s caller way args → ReplyFits p t (what.Enter way args) (entering p s caller way args (entered_function p s way)).reply
enters p s t caller way args x =
    subst (λ (o : Option ℕ). ReplyFits p t (what.Enter way args) (entering p s caller way args o).reply) (sym x.is)
    (entered_as p s t caller way args x.function (runs_as p s caller way x.function args) x.takes x.found (runs_text p s caller way x.function args))

-- natives

abbrev NativeReply : NativeCall → Reply → Type 0
NativeReply n (Value v) = native_result n ≡ Some v.width
NativeReply n Done = native_result n ≡ None
NativeReply n reply = ⊥

lock_reply : (s : State) (at n : ℕ) → NativeReply TryLock (after_try_lock s at n).reply
lock_reply s at zero = refl
lock_reply s at (suc n) = refl

native_reply : (s : State) (t : ℕ) (caller : Principal) (n : NativeCall) (args : List Word) → NativeReply n (after_native s t caller n args).reply
native_reply s t caller Alloc args = refl
native_reply s t caller Free args = refl
native_reply s t caller ZeroBytes args = refl
native_reply s t caller TryLock args = lock_reply s (arg args 0) (number_at s.memory (arg args 0) 4)
native_reply s t caller NoteValue args = refl
native_reply s t caller AliasPrincipal args = refl

native_fits : (p : Program) (t k : ℕ) (args : List Word) (reply : Reply) → NativeReply (native_call k) reply → ReplyFits p t (what.Native k args) reply
native_fits p t k args (Value v) h = h
native_fits p t k args Done h = h
native_fits p t k args (Entered n q crosses) h = h
native_fits p t k args (Ended o) h = tt

-- each request

granted : (p : Program) (s : State) (t : ℕ) (caller : Principal) (w : What) → FitsWhat p t caller w → decide_what p s t caller w ≡ None → ReplyFits p t w (grant_what p s t caller w).reply
granted p s t caller (what.Load at width) fits e = refl
granted p s t caller (what.Store at v) fits e = tt
granted p s t caller (what.Copy to from len) fits e = tt
granted p s t caller (what.Fill to byte len) fits e = tt
granted p s t caller (what.Alloca at size) fits e = leb-true (at + size) (stack_end t) (passed (nat_le (at + size) (stack_end t)) (Trapped StackFull) e)
granted p s t caller (what.Enter way args) fits e = enters p s t caller way args (entering_is p s caller way args fits e)
granted p s t caller (what.Perform n post k env source dest) fits e = tt
granted p s t caller (what.Return low high) fits e = tt
granted p s t caller (what.Native k args) fits e = native_fits p t k args _ (native_reply s t caller (native_call k) args)
granted p s t caller (what.Finish o) fits e = tt

decided : (d : Option Outcome) (p : Program) (s : State) (t : ℕ) (r : Request) → decide p s t r ≡ d → Fits p t r → ReplyFits p t r.what (serve_by d p s t r).reply
decided (Some o) p s t r e fits = tt
decided None p s t r e fits = granted p s t r.who r.what fits.2 e

pub served : (p : Program) (s : State) (t : ℕ) (r : Request) → Fits p t r → ReplyFits p t r.what (serve p s t r).reply
served p s t r fits = decided (decide p s t r) p s t r refl fits
