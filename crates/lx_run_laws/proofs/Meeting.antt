-- What each request needs is met, but for the last need of one that is refused for it.
use Rattle.std.proofs.Common.{◌≡◌, ◌⊎◌, inl, inr, ⊎_elim, ℕ, zero, suc, Bool, true, false, cond, not, ◌&&◌, Option, Some, None, List, [], ◌∷◌, ◌++◌, refl, sym, ap, subst, ◌∙◌, map}
use Rattle.std.specs.Prelude.{if◌then◌else◌}
use Rattle.std.specs.List.{list_all}
use Rattle.std.proofs.lemmas.Bool.{and_left, and_from, cases_Bool}
use Rattle.std.proofs.lemmas.Option.{same_Some}
use Rattle.lx_words.specs.Width.{byte_count}
use Rattle.lx_words.specs.Word.{Word}
use Rattle.lx_caps.specs.declared.Principal.{Principal}
use Rattle.lx_caps.specs.declared.Principal.TheVariants.{Kernel, Shared, Global, Inst}
use Rattle.lx_caps.specs.declared.Cap.{Cap}
use Rattle.lx_caps.specs.declared.Cap.TheVariants as cap
use Rattle.lx_caps.specs.History.{History, holds}
use Rattle.lx_caps.specs.Memory.{number_at}
use Rattle.lx_caps.specs.Regions.{mapped}
use Rattle.lx_model.specs.declared.program.Program.{Program}
use Rattle.lx_model.specs.declared.request.Outcome.{Outcome}
use Rattle.lx_model.specs.declared.request.Refusal.{Refusal}
use Rattle.lx_model.specs.declared.request.Refusal.TheVariants as refusal
use Rattle.lx_model.specs.declared.request.Way.{Way}
use Rattle.lx_model.specs.declared.request.Way.TheVariants.{Script, Direct, Indirect, Slot}
use Rattle.lx_model.specs.declared.request.What.{What}
use Rattle.lx_model.specs.declared.request.What.TheVariants as what
use Rattle.lx_model.specs.Act.{not_held}
use Rattle.lx_model.specs.Authority.{is_module}
use Rattle.lx_model.specs.Decide.{decide_what}
use Rattle.lx_model.specs.Enter.{slot_writers}
use Rattle.lx_model.specs.Next.{request}
use Rattle.lx_model.specs.State.{State}
use Rattle.lx_run_laws.specs.Authorised.{needs}
use Rattle.lx_run_laws.specs.Causes.{IsCauseOf, IsLack, IsWriterLack}
use Rattle.lx_certificates.specs.declared.Need.{Need}
use Rattle.lx_certificates.specs.Needs.{is_met}
use Rattle.lx_run_laws.specs.Errands.{Errand, errand_of}
use Rattle.lx_run_laws.specs.Needs.{to_hold, item_needs, all_needs, is_for_need}
use Rattle.lx_run_laws.proofs.Causing.{errand_decides, is_decided, own_refused}
use Rattle.lx_run_laws.proofs.Needing.{Needing, AllMet, LastUnmet, asked, asked_met, asked_unmet, asked_kernel, items_need, not_false, only_last, who_is}
use Rattle.lx_run_laws.proofs.Refusing.{has_cause}
use Rattle.lx_run_laws.proofs.Slots.{first_without, have_call}

-- a request without an errand whose own need is held, and which is no slot call, is refused for no need

abbrev pub calls_slot : What → Bool
calls_slot (what.Enter (Slot slot ty) args) = true
calls_slot _ = false

-- the need of the request itself is held
abbrev HoldsOwn : State → Principal → What → Type 0
HoldsOwn s who w = (c : Cap) → is_module who ≡ true → needs w ≡ Some c → holds s.history who c ≡ true

none_some : {A : Type 0} (errand : Option Errand) (e : Errand) → errand ≡ None → errand ≡ Some e → A
none_some None e none is = absurd (cc)
none_some (Some f) e none is = absurd (cc)

none_cap : {A : Type 0} (o : Option Cap) (c : Cap) → o ≡ None → o ≡ Some c → A
none_cap None c none is = absurd (cc)
none_cap (Some d) c none is = absurd (cc)

no_lack : {A : Type 0} (p : Program) (s : State) (who : Principal) (w : What) (q : Principal) (c : Cap) → HoldsOwn s who w → errand_of p s w ≡ None → IsLack p s (request who w) q c → A
no_lack p s who w q c own none lack =
    ⊎_elim
    (λ mine. not_false (holds s.history q c) (subst (λ (v : Principal). is_module v ≡ true → holds s.history v c ≡ true) mine.caller (λ is. own c is mine.need) mine.of_module) mine.lack)
    (λ item. none_some (errand_of p s w) item.0 none item.1.performed)
    lack

no_call : {A : Type 0} (w : What) (slot ty : ℕ) (args : List Word) → calls_slot w ≡ false → w ≡ what.Enter (Slot slot ty) args → A
no_call w slot ty args none is = not_false (calls_slot w) (ap calls_slot is) none

no_need : (p : Program) (s : State) (who : Principal) (w : What) (x : Refusal) → HoldsOwn s who w → errand_of p s w ≡ None
    → ((q : Principal) (at slot : ℕ) → IsWriterLack p s w q at slot → ⊥) → IsCauseOf p s (request who w) x → is_for_need x ≡ false
no_need p s who w (refusal.Write q at size) own none writers cause = no_lack p s who w q (cap.Write at size) own none cause
no_need p s who w (refusal.Call q at) own none writers cause = no_lack p s who w q (cap.Call at) own none cause
no_need p s who w (refusal.Ref q ty at) own none writers cause = no_lack p s who w q (cap.Ref ty at) own none cause
no_need p s who w (refusal.NotAnnotated q at) own none writers cause = refl
no_need p s who w (refusal.OtherAnnotation q at ty n) own none writers cause = refl
no_need p s who w (refusal.Writer q at slot) own none writers cause = absurd (writers q at slot cause)
no_need p s who w (refusal.OnStack q at size) own none writers cause = refl
no_need p s who w (refusal.Outside q at size) own none writers cause = refl
no_need p s who w (refusal.Alias q known further) own none writers cause = refl
no_need p s who w (refusal.Borrowed q c) own none writers cause = none_some (errand_of p s w) cause.0 none cause.1.performed

same_slot : (slot ty : ℕ) (args : List Word) (other kind : ℕ) (more : List Word) → what.Enter (Slot slot ty) args ≡ what.Enter (Slot other kind) more → slot ≡ other
same_slot slot ty args other kind more is = cc

lack_row : {A : Type 0} (b all : Bool) (w q : Principal) (rest : Option Principal) → (b && all) ≡ true → cond (not b) (Some w) rest ≡ Some q → (all ≡ true → rest ≡ Some q → A) → A
lack_row true all w q rest held is go = go held is
lack_row false all w q rest held is go = absurd (cc)

-- where each holds the call, none is found that does not
found_lacks : {A : Type 0} (s : State) (a : ℕ) (ws : List Principal) (q : Principal) → have_call s a ws ≡ true → first_without s a ws ≡ Some q → A
found_lacks s a [] q held is = absurd (cc)
found_lacks s a (w ∷ ws) q held is =
    lack_row (holds s.history w (cap.Call a)) (have_call s a ws) w q (first_without s a ws) held is (found_lacks s a ws q)

module _ (p : Program) (s : State) (t : ℕ) (who : Principal) where
  abbrev pub RequestNeeds : What → List Need → Type 0
  RequestNeeds w ns = Needing s w (decide_what p s t who w) ns

  all_met : (w : What) (ns : List Need) → list_all (is_met s.history) ns ≡ true → HoldsOwn s who w → errand_of p s w ≡ None
      → ((q : Principal) (at slot : ℕ) → IsWriterLack p s w q at slot → ⊥) → RequestNeeds w ns
  all_met w ns all own none writers = AllMet all (λ x is. no_need p s who w x own none writers (has_cause p s t who w x is))

  nothing : (w : What) → needs w ≡ None → errand_of p s w ≡ None → calls_slot w ≡ false → RequestNeeds w []
  nothing w needless none calls =
      all_met w [] refl (λ c of_module is. none_cap (needs w) c needless is) none (λ q at slot lack. no_call w slot lack.ty lack.args calls lack.asked)

  -- one need of the request's own

  own_lack : (w : What) (c : Cap) → decide_what p s t who w ≡ Some (not_held who c) → holds s.history who c ≡ false → RequestNeeds w (to_hold who c ∷ [])
  own_lack w (cap.Write at size) is lack = LastUnmet (refusal.Write who at size) refl is (only_last s w _ (refusal.Write who at size) ((refl, refl), lack))
  own_lack w (cap.Call a) is lack = LastUnmet (refusal.Call who a) refl is (only_last s w _ (refusal.Call who a) ((refl, refl), lack))
  own_lack w (cap.Ref ty a) is lack = LastUnmet (refusal.Ref who ty a) refl is (only_last s w _ (refusal.Ref who ty a) ((refl, refl), lack))

  own_held : (w : What) (ns : List Need) (c : Cap) → list_all (is_met s.history) ns ≡ true → needs w ≡ Some c → (is_module who ≡ true → holds s.history who c ≡ true) → errand_of p s w ≡ None
      → calls_slot w ≡ false → RequestNeeds w ns
  own_held w ns c all need held none calls =
      all_met w ns all (λ b of_module is. subst (λ (d : Cap). holds s.history who d ≡ true) (same_Some c b (sym need ∙ is)) (held of_module)) none
      (λ q at slot lack. no_call w slot lack.ty lack.args calls lack.asked)

  own_asked : (w : What) (c : Cap) → needs w ≡ Some c → errand_of p s w ≡ None → calls_slot w ≡ false → RequestNeeds w (asked s.history (to_hold who c ∷ []))
  own_asked w c need none calls =
      ⊎_elim
      (λ kernel. subst (RequestNeeds w) (sym (asked_kernel s.history (to_hold who c) [] kernel))
      (own_held w [] c refl need (λ of_module. not_false (is_module who) of_module (ap is_module kernel)) none calls))
      (λ of_module. ⊎_elim
      (λ held. let met = and_from (holds s.history who c) true held refl in
      subst (RequestNeeds w) (sym (asked_met s.history (to_hold who c) [] of_module met))
      (own_held w (to_hold who c ∷ []) c (and_from (is_met s.history (to_hold who c)) true met refl) need (λ is. held) none calls))
      (λ lack. subst (RequestNeeds w) (sym (asked_unmet s.history (to_hold who c) [] of_module (and_left (holds s.history who c) true lack)))
      (own_lack w c (own_refused p s t who w of_module c need lack) lack))
      (cases_Bool (holds s.history who c)))
      (who_is who)

  -- the calls of a slot's writers

  -- whether each writer holds the call, or which one is the first that does not
  abbrev WritersNeed : ℕ → List Principal → List Need → Type 0
  WritersNeed a ws ns =
      ((have_call s a ws ≡ true) × (list_all (is_met s.history) ns ≡ true))
      ⊎ ((w : Principal) × (first_without s a ws ≡ Some w) × (holds s.history w (cap.Call a) ≡ false)
      × ((before : List Need) × (ns ≡ before ++ to_hold w (cap.Call a) ∷ []) × (list_all (is_met s.history) before ≡ true)))

  abbrev calls_by : ℕ → List Principal → List Need
  calls_by a ws = asked s.history (map (λ w. to_hold w (cap.Call a)) ws)

  -- a writer that holds the call, with its need or without
  held_more : (a : ℕ) (w : Principal) (ws : List Principal) (ns : List Need) → holds s.history w (cap.Call a) ≡ true → WritersNeed a ws ns → WritersNeed a (w ∷ ws) ns
  held_more a w ws ns held rest =
      ⊎_elim
      (λ all. inl (and_from (holds s.history w (cap.Call a)) (have_call s a ws) held all.0, all.1))
      (λ lack. inr (lack.0, ap (λ (b : Bool). cond (not b) (Some w) (first_without s a ws)) held ∙ lack.1, lack.2, lack.3))
      rest

  met_first : (a : ℕ) (ws : List Principal) (n : Need) (ns : List Need) → is_met s.history n ≡ true → WritersNeed a ws ns → WritersNeed a ws (n ∷ ns)
  met_first a ws n ns met rest =
      ⊎_elim
      (λ all. inl (all.0, and_from (is_met s.history n) (list_all (is_met s.history) ns) met all.1))
      (λ lack. inr (lack.0, lack.1, lack.2, (n ∷ lack.3.0, ap (λ (more : List Need). n ∷ more) lack.3.1, and_from (is_met s.history n) (list_all (is_met s.history) lack.3.0) met lack.3.2)))
      rest

  first_lacks : (a : ℕ) (w : Principal) (ws : List Principal) → holds s.history w (cap.Call a) ≡ false → WritersNeed a (w ∷ ws) (to_hold w (cap.Call a) ∷ [])
  first_lacks a w ws lack = inr (w, ap (λ (b : Bool). cond (not b) (Some w) (first_without s a ws)) lack, lack, ([], refl, refl))

  kernel_calls : (a : ℕ) (w : Principal) → w ≡ Kernel → holds s.history w (cap.Call a) ≡ true
  kernel_calls a w kernel = ap (λ (q : Principal). holds s.history q (cap.Call a)) kernel

  writers_need : (a : ℕ) (ws : List Principal) → WritersNeed a ws (calls_by a ws)
  writers_need a [] = inl (refl, refl)
  writers_need a (w ∷ ws) =
      let n = to_hold w (cap.Call a) in
      let more = map (λ v. to_hold v (cap.Call a)) ws in
      ⊎_elim
      (λ kernel. subst (WritersNeed a (w ∷ ws)) (sym (asked_kernel s.history n more kernel)) (held_more a w ws (calls_by a ws) (kernel_calls a w kernel) (writers_need a ws)))
      (λ of_module. ⊎_elim
      (λ held. let met = and_from (holds s.history w (cap.Call a)) true held refl in
      subst (WritersNeed a (w ∷ ws)) (sym (asked_met s.history n more of_module met))
      (met_first a (w ∷ ws) n (calls_by a ws) met (held_more a w ws (calls_by a ws) held (writers_need a ws))))
      (λ lack. subst (WritersNeed a (w ∷ ws)) (sym (asked_unmet s.history n more of_module (and_left (holds s.history w (cap.Call a)) true lack))) (first_lacks a w ws lack))
      (cases_Bool (holds s.history w (cap.Call a))))
      (who_is w)

  module _ (slot ty : ℕ) (args : List Word) where
    abbrev call : What
    call = what.Enter (Slot slot ty) args

    no_own : HoldsOwn s who call
    no_own c of_module is = absurd (cc)

    -- no writer that and_left the call
    writers_hold : have_call s (number_at s.memory slot 8) (slot_writers p s slot) ≡ true → (q : Principal) (at other : ℕ) → IsWriterLack p s call q at other → ⊥
    writers_hold held q at other lack =
        found_lacks s at (slot_writers p s slot) q
        (subst (λ (a : ℕ). have_call s a (slot_writers p s slot) ≡ true) (ap (λ (o : ℕ). number_at s.memory o 8) (same_slot slot ty args other lack.ty lack.args lack.asked) ∙ lack.address) held)
        (subst (λ (o : ℕ). first_without s at (slot_writers p s o) ≡ Some q) (sym (same_slot slot ty args other lack.ty lack.args lack.asked)) lack.first)

    unmapped_writers : mapped slot 8 ≡ false → (q : Principal) (at other : ℕ) → IsWriterLack p s call q at other → ⊥
    unmapped_writers out q at other lack =
        not_false (mapped slot 8) (subst (λ (o : ℕ). mapped o 8 ≡ true) (sym (same_slot slot ty args other lack.ty lack.args lack.asked)) lack.lies) out

    slot_mapped : mapped slot 8 ≡ true → RequestNeeds call (calls_by (number_at s.memory slot 8) (slot_writers p s slot))
    slot_mapped lies =
        ⊎_elim
        (λ all. all_met call _ all.1 no_own refl (writers_hold all.0))
        (λ lack. LastUnmet (refusal.Writer lack.0 (number_at s.memory slot 8) slot) refl
        (is_decided p s t (request who call) (refusal.Writer lack.0 (number_at s.memory slot 8) slot)
        (record { ty = ty; args = args; asked = refl; lies = lies; address = refl; first = lack.1 }))
        (record { before = lack.3.0; last = to_hold lack.0 (cap.Call (number_at s.memory slot 8)); place = lack.3.1; met = lack.3.2; named = ((refl, refl), lack.2, (refl, refl)) }))
        (writers_need (number_at s.memory slot 8) (slot_writers p s slot))

    slot_need : RequestNeeds call (asked s.history (all_needs p s who call))
    slot_need =
        ⊎_elim
        (λ lies. subst (λ (b : Bool). RequestNeeds call (asked s.history (if b then map (λ w. to_hold w (cap.Call (number_at s.memory slot 8))) (slot_writers p s slot) else []))) (sym lies) (slot_mapped lies))
        (λ out. subst (λ (b : Bool). RequestNeeds call (asked s.history (if b then map (λ w. to_hold w (cap.Call (number_at s.memory slot 8))) (slot_writers p s slot) else []))) (sym out)
        (all_met call [] refl no_own refl (unmapped_writers out)))
        (cases_Bool (mapped slot 8))

  errand_need : (w : What) (errand : Option Errand) → errand_of p s w ≡ errand → needs w ≡ None → calls_slot w ≡ false → RequestNeeds w (asked s.history (item_needs errand))
  errand_need w None performed needless calls = nothing w needless performed calls
  errand_need w (Some e) performed needless calls =
      subst (λ (d : Option Outcome). Needing s w d (asked s.history (item_needs (Some e)))) (sym (errand_decides p s t who w e performed)) (items_need s w e e.items)

  way_need : (way : Way) (args : List Word) → RequestNeeds (what.Enter way args) (asked s.history (all_needs p s who (what.Enter way args)))
  way_need (Script n) args = nothing (what.Enter (Script n) args) refl refl refl
  way_need (Direct n) args = nothing (what.Enter (Direct n) args) refl refl refl
  way_need (Indirect a) args = own_asked (what.Enter (Indirect a) args) (cap.Call a) refl refl refl
  way_need (Slot slot ty) args = slot_need slot ty args

  empty_written : (h : History) (q : Principal) (at : ℕ) → is_module q ≡ true → holds h q (cap.Write at zero) ≡ true
  empty_written h Kernel at of_module = absurd (cc)
  empty_written h (Shared m) at of_module = refl
  empty_written h (Global m) at of_module = refl
  empty_written h (Inst m k) at of_module = refl

  pub request_need : (w : What) → RequestNeeds w (asked s.history (all_needs p s who w))
  request_need (what.Load at width) = nothing (what.Load at width) refl refl refl
  request_need (what.Store at v) = own_asked (what.Store at v) (cap.Write at (byte_count v.width)) refl refl refl
  request_need (what.Copy to from zero) = nothing (what.Copy to from zero) refl refl refl
  request_need (what.Copy to from (suc len)) = own_asked (what.Copy to from (suc len)) (cap.Write to (suc len)) refl refl refl
  request_need (what.Fill to byte zero) = own_held (what.Fill to byte zero) [] (cap.Write to zero) refl refl (empty_written s.history who to) refl refl
  request_need (what.Fill to byte (suc len)) = own_asked (what.Fill to byte (suc len)) (cap.Write to (suc len)) refl refl refl
  request_need (what.Alloca at size) = nothing (what.Alloca at size) refl refl refl
  request_need (what.Enter way args) = way_need way args
  request_need (what.Perform n post k env source dest) =
      errand_need (what.Perform n post k env source dest) (errand_of p s (what.Perform n post k env source dest)) refl refl refl
  request_need (what.Return low high) = nothing (what.Return low high) refl refl refl
  request_need (what.Native k args) = nothing (what.Native k args) refl refl refl
  request_need (what.Finish o) = nothing (what.Finish o) refl refl refl
