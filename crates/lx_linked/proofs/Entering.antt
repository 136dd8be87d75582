-- What the monitor replies fits what was asked.
use Rattle.std.proofs.Common.{◌≡◌, ℕ, zero, suc, Bool, true, false, ◌||◌, List, [], ◌∷◌, length, Option, Some, None, Ok, Err, refl, sym, subst, ◌∙◌, ap}
use Rattle.std.specs.Prelude.{slice_get, is_some, option_map, option_and_then, unwrap_or}
use Rattle.lx_words.specs.Word.{Word}
use Rattle.lx_words.specs.declared.word.Width.{Width}
use Rattle.lx_words.proofs.Tests.{first_of, second_of, false_true, never}
use Rattle.lx_words.proofs.Options.{none_some, some_same}
use Rattle.lx_words.proofs.Lists.{map_length}
use Rattle.lx_caps.specs.declared.Principal.{Principal}
use Rattle.lx_caps.specs.declared.Cap.TheVariants.{Call}
use Rattle.lx_caps.specs.History.{holds}
use Rattle.lx_caps.specs.Memory.{number_at}
use Rattle.lx_caps.specs.Regions.{mapped}
use Rattle.lx_annot.specs.Value.{Found}
use Rattle.lx_annot.specs.declared.interface.Slot.{Slot as SlotType}
use Rattle.lx_ir.specs.declared.module.Function.{Function}
use Rattle.lx_ir.specs.declared.module.Parameter.{Parameter}
use Rattle.lx_ir.specs.declared.instr.Op.{Op}
use Rattle.lx_ir.specs.Layout.{width_of}
use Rattle.lx_model.specs.declared.program.Program.{Program}
use Rattle.lx_model.specs.declared.request.Outcome.{Outcome}
use Rattle.lx_model.specs.declared.request.Outcome.TheVariants.{Refused, Trapped}
use Rattle.lx_model.specs.declared.request.Refusal.TheVariants as refusal
use Rattle.lx_model.specs.declared.request.Reply.{Reply}
use Rattle.lx_model.specs.declared.request.Reply.TheVariants.{Value, Entered, Ended}
use Rattle.lx_model.specs.declared.request.Trap.TheVariants.{Signature}
use Rattle.lx_model.specs.declared.request.Way.{Way}
use Rattle.lx_model.specs.declared.request.Way.TheVariants.{Script, Direct, Indirect, Slot}
use Rattle.lx_model.specs.declared.request.What.{What}
use Rattle.lx_model.specs.declared.request.What.TheVariants as what
use Rattle.lx_model.specs.Act.{unless, unmapped}
use Rattle.lx_model.specs.Decide.{decide}
use Rattle.lx_model.specs.Enter.{Running, entered_function, runs_as, runs_in, found_nothing, text_of_principal, not_annotated, fits_params, decide_target, by_writers, slot_writers, written_target, writer_refusal, slot_signature, decide_enter}
use Rattle.lx_model.specs.Enter.{has_signature as has_slot_type}
use Rattle.lx_model.specs.Next.{request, fits_site}
use Rattle.lx_model.specs.Program.{Home, home_of, function_of, function_at, is_in, is_annotated, NativeCall, Alloc, Free, ZeroBytes, TryLock, NoteValue, AliasPrincipal, native_call, same_result, param_widths, result_width, declared_width, are_declared, has_slot_signature}
use Rattle.lx_model.specs.Serve.{serve, serve_by, grant_what, entering, entering_as, after_native, after_try_lock}
use Rattle.lx_model.specs.State.{State}
use Rattle.lx_model.specs.Thread.{Frame}
use Rattle.lx_model.specs.Effect.{call_result}
use Rattle.lx_link_texts.specs.Signatures.{native_result}
use Rattle.lx_simulation.proofs.Counting.{declared_many, params_fit}
use Rattle.lx_linked.proofs.Signatures.{Takes, same_there}
use Rattle.lx_linked.proofs.Calling.{needs, WayFits, AskFits}
use Rattle.lx_model.proofs.Passing.{passed, neither}

-- the function that is entered fits its site, but for the result of an indirect call, which is tried at the site
abbrev pub EntryFits : Program → List Op → Way → List Word → ℕ → Type 0
EntryFits p code (Indirect a) args n = Takes p false (length args) n × (needs code ≡ true → is_some (call_result code) ≡ true)
EntryFits p code way args n = Takes p (needs code) (length args) n

-- whoever waits for a value gets one, and a function that is entered fits its site
abbrev pub RepliesWell : Program → List Op → What → Reply → Type 0
RepliesWell p code w (Ended o) = Unit {0}
RepliesWell p code (what.Alloca at size) r = Unit {0}
RepliesWell p code (what.Enter way args) (Entered n q x) = EntryFits p code way args n
RepliesWell p code (what.Enter way args) r = ⊥
RepliesWell p code (what.Perform n post k env source dest) r = Unit {0}
RepliesWell p code (what.Return low high) r = Unit {0}
RepliesWell p code (what.Finish o) r = ⊥
RepliesWell p code w (Value v) = Unit {0}
RepliesWell p code w r = needs code ≡ false

-- decisions

params_take : (p : Program) (args : List Word) (n : ℕ) → fits_params p args n ≡ true → Takes p false (length args) n
params_take p args n h g e = (params_fit p args (function_of p n) g e h, λ x. false_true x)

slot_type_takes : (p : Program) (need : Bool) (args : List Word) (t : Option SlotType) (o : Option Function) (g : Function) →
    ((st : SlotType) → t ≡ Some st → (length args ≡ length st.params) × (need ≡ true → is_some (declared_width st.ret) ≡ true)) → o ≡ Some g →
    unwrap_or (option_and_then (λ (st : SlotType). option_map (has_slot_signature st) o) t) false ≡ true → (length args ≡ length g.params) × (need ≡ true → is_some g.ret ≡ true)
slot_type_takes p need args None o g fits e h = false_true h
slot_type_takes p need args (Some st) None g fits e h = none_some e
slot_type_takes p need args (Some st) (Some f) g fits e h =
    let known = fits st refl in
    let many : length args ≡ length f.params = known.0 ∙ (sym (declared_many st.params (param_widths f) (first_of (are_declared st.params (param_widths f)) _ h)) ∙ map_length (λ (x : Parameter). width_of x.ty) f.params) in (
      many ∙ ap (λ (y : Function). length y.params) (some_same e),
      λ n. subst (λ (y : Function). is_some y.ret ≡ true) (some_same e) (same_there (declared_width st.ret) f (second_of _ (same_result (declared_width st.ret) (result_width f)) h) (known.1 n)),
    )

-- who is entered

found_fits : (p : Program) (s : State) (code : List Op) (who : Principal) (way : Way) (args : List Word) (n : ℕ) (found : Found Running) → found_nothing found ≡ None → EntryFits p code way args n → RepliesWell p code (what.Enter way args) (entering_as p s who way n found).reply
found_fits p s code who way args n (Err at) e fits = none_some (sym e)
found_fits p s code who way args n (Ok r) e fits = fits

kernel_found : (p : Program) (s : State) (n : ℕ) (args : List Word) (h : Option Home) → unwrap_or h None ≡ None → found_nothing (runs_in p s n args h) ≡ None
kernel_found p s n args None e = refl
kernel_found p s n args (Some None) e = refl
kernel_found p s n args (Some (Some m)) e = none_some (sym e)

script_takes : (p : Program) (code : List Op) (n m : ℕ) → Takes p false m n → needs code ≡ false → Takes p (needs code) m n
script_takes p code n m takes e = subst (λ (b : Bool). Takes p b m n) (sym e) takes

indirect_fits : (p : Program) (s : State) (code : List Op) (who : Principal) (a : ℕ) (args : List Word) (n : Option ℕ) → decide_target p s who a args n ≡ None → WayFits p code (Indirect a) args → RepliesWell p code (what.Enter (Indirect a) args) (entering p s who (Indirect a) args n).reply
indirect_fits p s code who a args None e fits = none_some (sym e)
indirect_fits p s code who a args (Some n) e fits =
    let behind = (neither (unless (is_in p (text_of_principal who) n || is_annotated p n) (not_annotated who a)) _ e).1 in
    let both = neither (unless (fits_params p args n) (Trapped (Signature a))) _ behind in
    found_fits p s code who (Indirect a) args n (runs_as p s who (Indirect a) n args) both.1 (params_take p args n (passed (fits_params p args n) (Trapped (Signature a)) both.0), fits)

pub no_target : (p : Program) (s : State) (who : Principal) (slot ty a : ℕ) (ws : List Principal) → by_writers p s who slot ty a None ws ≡ None → ⊥
no_target p s who slot ty a [] e = none_some (sym e)
no_target p s who slot ty a (w ∷ ws) e = none_some (sym (neither (writer_refusal s slot a (w ∷ ws)) (written_target p who a ty None) e).1)

slot_fits : (p : Program) (s : State) (code : List Op) (who : Principal) (at ty a : ℕ) (args : List Word) (n : Option ℕ) → by_writers p s who at ty a n (slot_writers p s at) ≡ None → slot_signature p s who (Slot at ty) ty a args n ≡ None → WayFits p code (Slot at ty) args →
    RepliesWell p code (what.Enter (Slot at ty) args) (entering p s who (Slot at ty) args n).reply
slot_fits p s code who at ty a args None ew es fits = absurd (no_target p s who at ty a (slot_writers p s at) ew)
slot_fits p s code who at ty a args (Some n) ew es fits =
    let both = neither (unless (has_slot_type p ty n) (Trapped (Signature a))) _ es in
    let sig = passed (has_slot_type p ty n) (Trapped (Signature a)) both.0 in
    found_fits p s code who (Slot at ty) args n (runs_as p s who (Slot at ty) n args) both.1
    (λ g e. slot_type_takes p (needs code) args (slice_get p.interface.slots ty) (function_of p n) g fits e sig)

enter_fits : (p : Program) (s : State) (code : List Op) (who : Principal) (way : Way) (args : List Word) → decide_enter p s who way args ≡ None → WayFits p code way args → RepliesWell p code (what.Enter way args) (entering p s who way args (entered_function p s way)).reply
enter_fits p s code who (Script n) args e fits = found_fits p s code who (Script n) args n (runs_as p s who (Script n) n args) e (script_takes p code n (length args) fits.0 fits.1)
enter_fits p s code who (Direct n) args e fits = found_fits p s code who (Direct n) args n (runs_as p s who (Direct n) n args) (kernel_found p s n args (home_of p n) fits.1) fits.0
enter_fits p s code who (Indirect a) args e fits = indirect_fits p s code who a args (function_at p a) (neither (unless (holds s.history who (Call a)) (Refused (refusal.Call who a))) _ e).1 fits
enter_fits p s code who (Slot at ty) args e fits =
    let behind = (neither (unless (mapped at 8) (unmapped at)) _ e).1 in
    let a : ℕ = number_at s.memory at 8 in
    let both = neither (by_writers p s who at ty a (function_at p a) (slot_writers p s at)) _ behind in
    slot_fits p s code who at ty a args (function_at p a) both.0 both.1 fits

-- natives

lock_fits : (p : Program) (s : State) (code : List Op) (k at n : ℕ) (args : List Word) → RepliesWell p code (what.Native k args) (after_try_lock s at n).reply
lock_fits p s code k at zero args = tt
lock_fits p s code k at (suc n) args = tt

native_fits : (p : Program) (s : State) (code : List Op) (t : ℕ) (who : Principal) (k : ℕ) (args : List Word) (call : NativeCall) → (needs code ≡ true → is_some (native_result call) ≡ true) → RepliesWell p code (what.Native k args) (after_native s t who call args).reply
native_fits p s code t who k args Alloc h = tt
native_fits p s code t who k args Free h = never (needs code) h
native_fits p s code t who k args ZeroBytes h = never (needs code) h
native_fits p s code t who k args TryLock h = lock_fits p s code k _ _ args
native_fits p s code t who k args NoteValue h = never (needs code) h
native_fits p s code t who k args AliasPrincipal h = never (needs code) h

-- a request that is served

granted_fits : (p : Program) (s : State) (code : List Op) (t : ℕ) (who : Principal) (w : What) → AskFits p code w → decide p s t (request who w) ≡ None → RepliesWell p code w (grant_what p s t who w).reply
granted_fits p s code t who (what.Enter way args) asked e = enter_fits p s code who way args e asked
granted_fits p s code t who (what.Native k args) asked e = native_fits p s code t who k args (native_call k) asked
granted_fits p s code t who (what.Load at w) asked e = tt
granted_fits p s code t who (what.Alloca at size) asked e = tt
granted_fits p s code t who (what.Return low high) asked e = tt
granted_fits p s code t who (what.Perform n post k env source dest) asked e = tt
granted_fits p s code t who (what.Finish o) asked e = tt
granted_fits p s code t who (what.Store at w) asked e = asked
granted_fits p s code t who (what.Copy to from len) asked e = asked
granted_fits p s code t who (what.Fill to byte len) asked e = asked

by_fits : (o : Option Outcome) (p : Program) (s : State) (code : List Op) (t : ℕ) (who : Principal) (w : What) → AskFits p code w → decide p s t (request who w) ≡ o → RepliesWell p code w (serve_by o p s t (request who w)).reply
by_fits (Some o) p s code t who w asked e = tt
by_fits None p s code t who w asked e = granted_fits p s code t who w asked e

pub served_fits : (p : Program) (s : State) (code : List Op) (t : ℕ) (who : Principal) (w : What) → AskFits p code w → RepliesWell p code w (serve p s t (request who w)).reply
served_fits p s code t who w asked = by_fits (decide p s t (request who w)) p s code t who w asked refl

-- at the site

abbrev pub top_code : List Frame → List Op
top_code [] = []
top_code (f ∷ fs) = f.run.code

site_result_there : (r : Option Width) (o : Option Function) (g : Function) → same_result r (option_and_then result_width o) ≡ true → o ≡ Some g → is_some r ≡ true → is_some g.ret ≡ true
site_result_there r None g e eg h = none_some eg
site_result_there r (Some f) g e eg h = subst (λ (y : Function). is_some y.ret ≡ true) (some_same eg) (same_there r f e h)

pub entry_takes : (p : Program) (way : Way) (args : List Word) (fs : List Frame) (n : ℕ) → fits_site p way fs n ≡ true → EntryFits p (top_code fs) way args n → Takes p (needs (top_code fs)) (length args) n
entry_takes p (Script m) args fs n e fits = fits
entry_takes p (Direct m) args fs n e fits = fits
entry_takes p (Slot at ty) args fs n e fits = fits
entry_takes p (Indirect a) args [] n e fits = λ g eg. ((fits.0 g eg).0, λ h. false_true h)
entry_takes p (Indirect a) args (f ∷ fs) n e fits = λ g eg. ((fits.0 g eg).0, λ h. site_result_there (call_result f.run.code) (function_of p n) g e eg (fits.1 h))
