-- What is refused has a cause.
use Rattle.std.proofs.Common.{◌≡◌, inl, inr, ⊎_elim, ℕ, zero, suc, true, false, not, ◌&&◌, ◌||◌, Option, Some, None, Ok, Err, List, refl, sym, subst, ◌∙◌, slice_get, option_and_then}
use Rattle.std.proofs.lemmas.Bool.{and_from}
use Rattle.std.proofs.lemmas.Option.{same_Some}
use Rattle.lx_words.specs.Width.{byte_count}
use Rattle.lx_words.specs.Word.{Word}
use Rattle.lx_caps.specs.declared.Principal.{Principal}
use Rattle.lx_caps.specs.declared.Principal.TheVariants.{Kernel, Shared, Global, Inst}
use Rattle.lx_caps.specs.declared.Cap.{Cap}
use Rattle.lx_caps.specs.declared.Cap.TheVariants as cap
use Rattle.lx_caps.specs.History.{History, holds, keeps_all}
use Rattle.lx_caps.specs.Memory.{number_at}
use Rattle.lx_caps.specs.Names.{named}
use Rattle.lx_caps.specs.Regions.{mapped}
use Rattle.lx_annot.specs.declared.expr.Env.{Env}
use Rattle.lx_annot.specs.Action.{Action}
use Rattle.lx_annot.specs.Value.{Found}
use Rattle.lx_model.specs.declared.program.Program.{Program}
use Rattle.lx_model.specs.declared.request.Outcome.{Outcome}
use Rattle.lx_model.specs.declared.request.Outcome.TheVariants.{Refused, Trapped}
use Rattle.lx_model.specs.declared.request.Refusal.{Refusal}
use Rattle.lx_model.specs.declared.request.Refusal.TheVariants as refusal
use Rattle.lx_model.specs.declared.request.Trap.TheVariants.{Signature}
use Rattle.lx_model.specs.declared.request.Request.{Request}
use Rattle.lx_model.specs.declared.request.Way.{Way}
use Rattle.lx_model.specs.declared.request.Way.TheVariants.{Script, Direct, Indirect, Slot}
use Rattle.lx_model.specs.declared.request.What.{What}
use Rattle.lx_model.specs.declared.request.What.TheVariants as what
use Rattle.lx_model.specs.Act.{or_else, unless, not_held, item_refusal}
use Rattle.lx_model.specs.Authority.{is_module}
use Rattle.lx_model.specs.Decide.{decide_write, decide_what, decide_native, decide_alias, unless_mapped, arg, outcome_of, result_or_none}
use Rattle.lx_model.specs.Enter.{Running, by_writers, decide_enter, decide_slot, decide_target, fits_params, found_nothing, has_signature, nobody, not_annotated, runs_as, slot_signature, slot_writers, text_of_principal}
use Rattle.lx_model.specs.Next.{actions_of, request}
use Rattle.lx_model.specs.Program.{Home, NativeCall, Alloc, Free, ZeroBytes, TryLock, NoteValue, AliasPrincipal, native_call, function_at}
use Rattle.lx_model.specs.State.{State}
use Rattle.lx_run_laws.specs.Authorised.{needs}
use Rattle.lx_run_laws.specs.Errands.{Errand, errand_of, errand_of_action, is_placed, is_on_stacks, is_in_memory}
use Rattle.lx_run_laws.specs.Causes.{IsReached, IsCauseOf, is_known_in, may_name}
use Rattle.lx_run_laws.proofs.Decisions.{either, either_test, failed, same_refusal, no_trap, past_trap, not_both, neither}
use Rattle.lx_run_laws.proofs.Items.{asked, errand_refusal, first_of, item_is, on_a_stack, out_of_memory}
use Rattle.lx_run_laws.proofs.Slots.{SlotRefusal, Lacks, Unknown, Otherwise, slot_refusal, stands}

-- the cause of a refusal that is known
named_so : (p : Program) (s : State) (r : Request) (x y : Refusal) → Refused y ≡ Refused x → IsCauseOf p s r y → IsCauseOf p s r x
named_so p s r x y is cause = subst (IsCauseOf p s r) (same_refusal y x is) cause

-- writes

write_lack : (p : Program) (s : State) (who : Principal) (w : What) (at size : ℕ) (x : Refusal) → is_module who ≡ true → needs w ≡ Some (cap.Write at size)
    → unless (holds s.history who (cap.Write at size)) (Refused (refusal.Write who at size)) ≡ Some (Refused x) → IsCauseOf p s (request who w) x
write_lack p s who w at size x of_module need is =
    let fails = failed (holds s.history who (cap.Write at size)) (Refused (refusal.Write who at size)) (Refused x) is in
    named_so p s (request who w) x (refusal.Write who at size) fails.1
    (inl (record { caller = refl; of_module = of_module; need = need; lack = fails.0 }))

write_cause : (p : Program) (s : State) (who : Principal) (w : What) (at size : ℕ) (x : Refusal) → needs w ≡ Some (cap.Write at size)
    → decide_write s who at size ≡ Some (Refused x) → IsCauseOf p s (request who w) x
write_cause p s Kernel w at size x need is = absurd (no_trap (mapped at size) _ x is)
write_cause p s (Shared m) w at size x need is = write_lack p s (Shared m) w at size x refl need is
write_cause p s (Global m) w at size x need is = write_lack p s (Global m) w at size x refl need is
write_cause p s (Inst m k) w at size x need is = write_lack p s (Inst m k) w at size x refl need is

-- calls

nobody_traps : (found : Found Running) (x : Refusal) → found_nothing found ≡ Some (Refused x) → ⊥
nobody_traps (Ok r) x is = cc
nobody_traps (Err at) x is = cc

lacks_call : (h : History) (who : Principal) (a : ℕ) → holds h who (cap.Call a) ≡ false → is_module who ≡ true
lacks_call h Kernel a is = absurd (cc)
lacks_call h (Shared m) a is = refl
lacks_call h (Global m) a is = refl
lacks_call h (Inst m k) a is = refl

target_unknown : (p : Program) (s : State) (who : Principal) (a : ℕ) (args : List Word) (target : Option ℕ) (x : Refusal) → decide_target p s who a args target ≡ Some (Refused x)
    → (Refused (refusal.NotAnnotated who a) ≡ Refused x) × (stands (is_known_in p (text_of_principal who)) target ≡ false)
target_unknown p s who a args None x is = (same_Some _ _ is, refl)
target_unknown p s who a args (Some n) x is =
    ⊎_elim
    (λ fails. (fails.1, fails.0))
    (λ behind. absurd (nobody_traps (runs_as p s who (Indirect a) n args) x (past_trap (fits_params p args n) (Signature a) x (nobody p s who (Indirect a) n args) behind.1).1))
    (either_test (is_known_in p (text_of_principal who) n) (not_annotated who a) (Refused x) (or_else (unless (fits_params p args n) (Trapped (Signature a))) (nobody p s who (Indirect a) n args)) is)

address_cause : (p : Program) (s : State) (who : Principal) (a : ℕ) (args : List Word) (x : Refusal) → decide_enter p s who (Indirect a) args ≡ Some (Refused x)
    → IsCauseOf p s (request who (what.Enter (Indirect a) args)) x
address_cause p s who a args x is =
    ⊎_elim
    (λ fails. named_so p s (request who (what.Enter (Indirect a) args)) x (refusal.Call who a) fails.1
    (inl (record { caller = refl; of_module = lacks_call s.history who a fails.0; need = refl; lack = fails.0 })))
    (λ behind.
    let unknown = target_unknown p s who a args (function_at p a) x behind.1 in
    named_so p s (request who (what.Enter (Indirect a) args)) x (refusal.NotAnnotated who a) unknown.0 (refl, (refl, behind.0, unknown.1)))
    (either_test (holds s.history who (cap.Call a)) (Refused (refusal.Call who a)) (Refused x) (decide_target p s who a args (function_at p a)) is)

signature_traps : (p : Program) (s : State) (who : Principal) (way : Way) (ty a : ℕ) (args : List Word) (target : Option ℕ) (x : Refusal)
    → slot_signature p s who way ty a args target ≡ Some (Refused x) → ⊥
signature_traps p s who way ty a args None x is = cc
signature_traps p s who way ty a args (Some n) x is =
    nobody_traps (runs_as p s who way n args) x (past_trap (has_signature p ty n) (Signature a) x (nobody p s who way n args) is).1

row_cause : (p : Program) (s : State) (who : Principal) (slot ty : ℕ) (args : List Word) (x : Refusal) → mapped slot 8 ≡ true
    → SlotRefusal p s who slot ty (number_at s.memory slot 8) (function_at p (number_at s.memory slot 8)) (slot_writers p s slot) x
    → IsCauseOf p s (request who (what.Enter (Slot slot ty) args)) x
row_cause p s who slot ty args x lies (Lacks w first) =
    record { ty = ty; args = args; asked = refl; lies = lies; address = refl; first = first }
row_cause p s who slot ty args x lies (Unknown held none) =
    (refl, (record { lies = lies; address = refl; held = held }, none))
row_cause p s who slot ty args x lies (Otherwise n some held at known differs) =
    (refl, record { slot = slot; args = args; asked = refl; written = some; call = record { lies = lies; address = refl; held = held }; target = at; annotated = known; differs = differs })

slot_cause : (p : Program) (s : State) (who : Principal) (slot ty : ℕ) (args : List Word) (x : Refusal) → decide_enter p s who (Slot slot ty) args ≡ Some (Refused x)
    → IsCauseOf p s (request who (what.Enter (Slot slot ty) args)) x
slot_cause p s who slot ty args x is =
    let a = number_at s.memory slot 8 in
    let row = past_trap (mapped slot 8) _ x (decide_slot p s who slot ty a args) is in
    ⊎_elim
    (λ first. row_cause p s who slot ty args x row.0 (slot_refusal p s who slot ty a (function_at p a) (slot_writers p s slot) x first))
    (λ behind. absurd (signature_traps p s who (Slot slot ty) ty a args (function_at p a) x behind.1))
    (either (by_writers p s who slot ty a (function_at p a) (slot_writers p s slot)) (slot_signature p s who (Slot slot ty) ty a args (function_at p a)) (Refused x) row.1)

enter_cause : (p : Program) (s : State) (who : Principal) (way : Way) (args : List Word) (x : Refusal) → decide_enter p s who way args ≡ Some (Refused x)
    → IsCauseOf p s (request who (what.Enter way args)) x
enter_cause p s who (Script n) args x is = absurd (nobody_traps (runs_as p s who (Script n) n args) x is)
enter_cause p s who (Direct n) args x is = absurd (cc)
enter_cause p s who (Indirect a) args x is = address_cause p s who a args x is
enter_cause p s who (Slot slot ty) args x is = slot_cause p s who slot ty args x is

-- actions

module _ (p : Program) (s : State) (who : Principal) (w : What) (e : Errand) where
  out_cause : (c : Cap) (x : Refusal) → IsReached p s w e.source e c → is_in_memory c ≡ false → out_of_memory e.source c ≡ Refused x → IsCauseOf p s (request who w) x
  out_cause (cap.Write at size) x reached out is = named_so p s (request who w) x (refusal.Outside e.source at size) is (e, reached, out)
  out_cause (cap.Call a) x reached out is = absurd (cc)
  out_cause (cap.Ref ty a) x reached out is = absurd (cc)

  stack_cause : (c : Cap) (x : Refusal) → IsReached p s w e.source e c → is_in_memory c ≡ true → e.transfers ≡ true → is_on_stacks c ≡ true → on_a_stack e.source c ≡ Refused x
      → IsCauseOf p s (request who w) x
  stack_cause (cap.Write at size) x reached in_memory transfers on is = named_so p s (request who w) x (refusal.OnStack e.source at size) is (e, reached, transfers, in_memory, on)
  stack_cause (cap.Call a) x reached in_memory transfers on is = absurd (cc)
  stack_cause (cap.Ref ty a) x reached in_memory transfers on is = absurd (cc)

  lack_cause : (c : Cap) (x : Refusal) → IsReached p s w e.source e c → is_placed e c ≡ true → holds s.history e.source c ≡ false → not_held e.source c ≡ Refused x
      → IsCauseOf p s (request who w) x
  lack_cause (cap.Write at size) x reached placed lack is = named_so p s (request who w) x (refusal.Write e.source at size) is (inr (e, reached, placed, lack))
  lack_cause (cap.Call a) x reached placed lack is = named_so p s (request who w) x (refusal.Call e.source a) is (inr (e, reached, placed, lack))
  lack_cause (cap.Ref ty a) x reached placed lack is = named_so p s (request who w) x (refusal.Ref e.source ty a) is (inr (e, reached, placed, lack))

  loan_cause : (c : Cap) (x : Refusal) → IsReached p s w e.source e c → is_placed e c ≡ true → holds s.history e.source c ≡ true
      → unless (not e.gives || keeps_all s.history e.source c) (Refused (refusal.Borrowed e.source c)) ≡ Some (Refused x) → IsCauseOf p s (request who w) x
  loan_cause c x reached placed held is =
      let fails = failed (not e.gives || keeps_all s.history e.source c) (Refused (refusal.Borrowed e.source c)) (Refused x) is in
      let loan = neither e.gives (keeps_all s.history e.source c) fails.0 in
      named_so p s (request who w) x (refusal.Borrowed e.source c) fails.1 (e, reached, placed, held, loan.0, loan.1)

  held_cause : (c : Cap) (x : Refusal) → IsReached p s w e.source e c → is_placed e c ≡ true
      → or_else (unless (holds s.history e.source c) (not_held e.source c)) (unless (not e.gives || keeps_all s.history e.source c) (Refused (refusal.Borrowed e.source c))) ≡ Some (Refused x)
      → IsCauseOf p s (request who w) x
  held_cause c x reached placed is =
      ⊎_elim
      (λ fails. lack_cause c x reached placed fails.0 fails.1)
      (λ behind. loan_cause c x reached placed behind.0 behind.1)
      (either_test (holds s.history e.source c) (not_held e.source c) (Refused x) _ is)

  placed_cause : (c : Cap) (x : Refusal) → IsReached p s w e.source e c → is_in_memory c ≡ true
      → or_else (unless (not (e.transfers && is_on_stacks c)) (on_a_stack e.source c))
      (or_else (unless (holds s.history e.source c) (not_held e.source c)) (unless (not e.gives || keeps_all s.history e.source c) (Refused (refusal.Borrowed e.source c)))) ≡ Some (Refused x)
      → IsCauseOf p s (request who w) x
  placed_cause c x reached in_memory is =
      ⊎_elim
      (λ fails. let on = not_both e.transfers (is_on_stacks c) fails.0 in stack_cause c x reached in_memory on.0 on.1 fails.1)
      (λ behind. held_cause c x reached (and_from (is_in_memory c) (not (e.transfers && is_on_stacks c)) in_memory behind.0) behind.1)
      (either_test (not (e.transfers && is_on_stacks c)) (on_a_stack e.source c) (Refused x) _ is)

  item_cause : (c : Cap) (x : Refusal) → IsReached p s w e.source e c → item_refusal s.history e.transfers e.gives e.source c ≡ Some (Refused x) → IsCauseOf p s (request who w) x
  item_cause c x reached is =
      ⊎_elim
      (λ fails. out_cause c x reached fails.0 fails.1)
      (λ behind. placed_cause c x reached behind.0 behind.1)
      (either_test (is_in_memory c) (out_of_memory e.source c) (Refused x) _ (sym (item_is s.history e c) ∙ is))

  errand_cause : (x : Refusal) → errand_of p s w ≡ Some e → errand_refusal s.history e ≡ Some (Refused x) → IsCauseOf p s (request who w) x
  errand_cause x performed is =
      let first = first_of s.history e e.items (Refused x) is in
      item_cause first.item x
      (record { performed = performed; source = refl; before = first.before; after = first.after; place = first.place; fine = first.fine })
      first.is

-- what an action comes to, by the errand that it is
by_errand : (p : Program) (s : State) (who : Principal) (w : What) (errand : Option Errand) (d : Option Outcome) (x : Refusal) → errand_of p s w ≡ errand
    → ((e : Errand) → errand ≡ Some e → d ≡ errand_refusal s.history e) → (errand ≡ None → d ≡ Some (Refused x) → ⊥) → d ≡ Some (Refused x) → IsCauseOf p s (request who w) x
by_errand p s who w None d x performed some none is = absurd (none refl is)
by_errand p s who w (Some e) d x performed some none is = errand_cause p s who w e x performed (sym (some e refl) ∙ is)

action_cause : (p : Program) (s : State) (t : ℕ) (who : Principal) (w : What) (found : Option Action) (env : Env) (source dest : Principal) (x : Refusal)
    → errand_of p s w ≡ option_and_then (λ a. errand_of_action p.interface a env source s.memory) found
    → outcome_of (result_or_none p s t found env source dest) ≡ Some (Refused x) → IsCauseOf p s (request who w) x
action_cause p s t who w None env source dest x performed is = absurd (cc)
action_cause p s t who w (Some a) env source dest x performed is =
    let row = asked p.interface a env t source dest s.memory s.history in
    by_errand p s who w (errand_of_action p.interface a env source s.memory) _ x performed row.0 (row.1 x) is

-- names

pub alias_is : (s : State) (who : Principal) (home : Home) (known further : ℕ) → decide_alias s who home known further ≡ unless (may_name s who home known further) (Refused (refusal.Alias who known further))
alias_is s who None known further = refl
alias_is s who (Some m) known further = refl

alias_cause : (p : Program) (s : State) (who : Principal) (k : ℕ) (args : List Word) (x : Refusal) → native_call k ≡ AliasPrincipal
    → decide_alias s who (text_of_principal who) (arg args 0) (arg args 1) ≡ Some (Refused x) → IsCauseOf p s (request who (what.Native k args)) x
alias_cause p s who k args x alias is =
    let fails = failed (may_name s who (text_of_principal who) (arg args 0) (arg args 1)) (Refused (refusal.Alias who (arg args 0) (arg args 1))) (Refused x) (sym (alias_is s who (text_of_principal who) (arg args 0) (arg args 1)) ∙ is) in
    named_so p s (request who (what.Native k args)) x (refusal.Alias who (arg args 0) (arg args 1)) fails.1
    (refl, record { native = k; args = args; asked = refl; alias = alias; names_known = refl; names_further = refl; barred = fails.0 })

native_cause : (p : Program) (s : State) (who : Principal) (k : ℕ) (native : NativeCall) (args : List Word) (x : Refusal) → native_call k ≡ native
    → decide_native s who native args ≡ Some (Refused x) → IsCauseOf p s (request who (what.Native k args)) x
native_cause p s who k Alloc args x named is = absurd (cc)
native_cause p s who k Free args x named is = absurd (no_trap _ _ x is)
native_cause p s who k ZeroBytes args x named is = absurd (no_trap _ _ x is)
native_cause p s who k TryLock args x named is = absurd (no_trap _ _ x is)
native_cause p s who k NoteValue args x named is = absurd (cc)
native_cause p s who k AliasPrincipal args x named is = alias_cause p s who k args x named is

copy_cause : (p : Program) (s : State) (who : Principal) (to from len : ℕ) (x : Refusal) → or_else (decide_write s who to (suc len)) (unless_mapped from (suc len)) ≡ Some (Refused x)
    → IsCauseOf p s (request who (what.Copy to from (suc len))) x
copy_cause p s who to from len x is =
    ⊎_elim
    (λ first. write_cause p s who (what.Copy to from (suc len)) to (suc len) x refl first)
    (λ behind. absurd (no_trap (mapped from (suc len)) _ x behind.1))
    (either (decide_write s who to (suc len)) (unless_mapped from (suc len)) (Refused x) is)

pub has_cause : (p : Program) (s : State) (t : ℕ) (who : Principal) (w : What) (x : Refusal) → decide_what p s t who w ≡ Some (Refused x) → IsCauseOf p s (request who w) x
has_cause p s t who (what.Load at width) x is = absurd (no_trap _ _ x is)
has_cause p s t who (what.Store at v) x is = write_cause p s who (what.Store at v) at (byte_count v.width) x refl is
has_cause p s t who (what.Copy to from zero) x is = absurd (cc)
has_cause p s t who (what.Copy to from (suc len)) x is = copy_cause p s who to from len x is
has_cause p s t who (what.Fill to byte len) x is = write_cause p s who (what.Fill to byte len) to len x refl is
has_cause p s t who (what.Alloca at size) x is = absurd (no_trap _ _ x is)
has_cause p s t who (what.Enter way args) x is = enter_cause p s who way args x is
has_cause p s t who (what.Perform n post k env source dest) x is =
    action_cause p s t who (what.Perform n post k env source dest) (slice_get (actions_of p n post) k) env source dest x refl is
has_cause p s t who (what.Native k args) x is = native_cause p s who k (native_call k) args x refl is
has_cause p s t who (what.Return low high) x is = absurd (cc)
has_cause p s t who (what.Finish o) x is = absurd (cc)
