-- What a slot call is refused for, whoever the slot's writers are and whatever stands at its address.
use Rattle.std.proofs.Common.{◌≡◌, ◌≢◌, ⊎_elim, ℕ, Bool, true, false, not, ◌&&◌, ◌||◌, Option, Some, None, List, [], ◌∷◌, refl, ap, subst, ◌∙◌, find, option_map, unwrap_or}
use Rattle.std.specs.Prelude.{if◌then◌else◌}
use Rattle.std.specs.List.{list_all}
use Rattle.std.proofs.lemmas.Option.{same_Some}
use Rattle.lx_caps.specs.declared.Principal.{Principal}
use Rattle.lx_caps.specs.declared.Cap.TheVariants.{Call}
use Rattle.lx_caps.specs.History.{holds}
use Rattle.lx_model.specs.declared.program.Program.{Program}
use Rattle.lx_model.specs.declared.request.Outcome.{Outcome}
use Rattle.lx_model.specs.declared.request.Outcome.TheVariants.{Refused}
use Rattle.lx_model.specs.declared.request.Refusal.{Refusal}
use Rattle.lx_model.specs.declared.request.Refusal.TheVariants as refusal
use Rattle.lx_model.specs.Act.{or_else, unless}
use Rattle.lx_model.specs.Enter.{by_writers, clean_target, not_annotated, same_annotation, writer_refusal, written_target}
use Rattle.lx_model.specs.Program.{is_annotated, is_in}
use Rattle.lx_model.specs.State.{State}
use Rattle.lx_run_laws.specs.Causes.{is_callable, is_known_in}
use Rattle.lx_run_laws.proofs.Decisions.{either, either_test, failed, same_refusal, at_test, at_first, at_second, at_first_test}
use Rattle.lx_model.proofs.Passing.{first_row, passed_on}

abbrev pub have_call : State → ℕ → List Principal → Bool
have_call s a ws = list_all (λ w. holds s.history w (Call a)) ws

abbrev pub first_without : State → ℕ → List Principal → Option Principal
first_without s a ws = find (λ v. not (holds s.history v (Call a))) ws

-- the writers

writer_row : (b : Bool) (s : State) (slot a : ℕ) (w : Principal) (rest : Option Principal) (more : Option Outcome) (o : Outcome)
    → or_else (unless b (Refused (refusal.Writer w a slot))) more ≡ Some o → (more ≡ Some o → (v : Principal) × (rest ≡ Some v) × (Refused (refusal.Writer v a slot) ≡ o))
    → (v : Principal) × ((if not b then Some w else rest) ≡ Some v) × (Refused (refusal.Writer v a slot) ≡ o)
writer_row true s slot a w rest more o is go = go is
writer_row false s slot a w rest more o is go = (w, refl, same_Some _ o is)

pub writer_first : (s : State) (slot a : ℕ) (ws : List Principal) (o : Outcome) → writer_refusal s slot a ws ≡ Some o
    → (w : Principal) × (first_without s a ws ≡ Some w) × (Refused (refusal.Writer w a slot) ≡ o)
writer_first s slot a [] o is = absurd (cc)
writer_first s slot a (w ∷ ws) o is =
    writer_row (holds s.history w (Call a)) s slot a w (first_without s a ws) (writer_refusal s slot a ws) o is (writer_first s slot a ws o)

all_row : (b all : Bool) (o : Outcome) (more : Option Outcome) → or_else (unless b o) more ≡ None → (more ≡ None → all ≡ true) → (b && all) ≡ true
all_row true all o more is go = go is
all_row false all o more is go = absurd (cc)

pub none_without : (s : State) (slot a : ℕ) (ws : List Principal) → writer_refusal s slot a ws ≡ None → have_call s a ws ≡ true
none_without s slot a [] is = refl
none_without s slot a (w ∷ ws) is = all_row (holds s.history w (Call a)) (have_call s a ws) _ (writer_refusal s slot a ws) is (none_without s slot a ws)

none_row : (b all : Bool) (o : Outcome) (more : Option Outcome) → (b && all) ≡ true → (all ≡ true → more ≡ None) → or_else (unless b o) more ≡ None
none_row true all o more is go = go is
none_row false all o more is go = absurd (cc)

pub held_none : (s : State) (slot a : ℕ) (ws : List Principal) → have_call s a ws ≡ true → writer_refusal s slot a ws ≡ None
held_none s slot a [] is = refl
held_none s slot a (w ∷ ws) is = none_row (holds s.history w (Call a)) (have_call s a ws) _ (writer_refusal s slot a ws) is (held_none s slot a ws)

pub first_refused : (s : State) (slot a : ℕ) (ws : List Principal) (w : Principal) → first_without s a ws ≡ Some w → writer_refusal s slot a ws ≡ Some (Refused (refusal.Writer w a slot))
first_refused s slot a [] w is = absurd (cc)
first_refused s slot a (v ∷ vs) w is =
    first_row (holds s.history v (Call a)) v w a slot (first_without s a vs) (writer_refusal s slot a vs) is (first_refused s slot a vs w)

-- the target

-- a function stands there, for which the test holds
abbrev pub stands : (ℕ → Bool) → Option ℕ → Bool
stands test target = unwrap_or (option_map test target) false

pub data SlotRefusal (p : Program) (s : State) (who : Principal) (slot ty a : ℕ) (target : Option ℕ) (ws : List Principal) : Refusal → Type 0 where
  Lacks : (w : Principal) → first_without s a ws ≡ Some w → SlotRefusal p s who slot ty a target ws (refusal.Writer w a slot)
  Unknown : have_call s a ws ≡ true → stands (is_callable p ws) target ≡ false → SlotRefusal p s who slot ty a target ws (refusal.NotAnnotated who a)
  Otherwise : (n : ℕ) → ws ≢ [] → have_call s a ws ≡ true → target ≡ Some n → is_annotated p n ≡ true → same_annotation p ty n ≡ false
      → SlotRefusal p s who slot ty a target ws (refusal.OtherAnnotation who a ty n)

module _ (p : Program) (s : State) (who : Principal) (slot ty a : ℕ) where
  cleaned : (target : Option ℕ) (x : Refusal) → clean_target p who a target ≡ Some (Refused x) → SlotRefusal p s who slot ty a target [] x
  cleaned None x is = subst (SlotRefusal p s who slot ty a None []) (same_refusal _ x (same_Some _ _ is)) (Unknown refl refl)
  cleaned (Some n) x is =
      let fails = failed (is_in p None n || is_annotated p n) (not_annotated who a) (Refused x) is in
      subst (SlotRefusal p s who slot ty a (Some n) []) (same_refusal _ x fails.1) (Unknown refl fails.0)

  written : (target : Option ℕ) (w : Principal) (ws : List Principal) (x : Refusal) → have_call s a (w ∷ ws) ≡ true → written_target p who a ty target ≡ Some (Refused x)
      → SlotRefusal p s who slot ty a target (w ∷ ws) x
  written None w ws x held is = subst (SlotRefusal p s who slot ty a None (w ∷ ws)) (same_refusal _ x (same_Some _ _ is)) (Unknown held refl)
  written (Some n) w ws x held is =
      ⊎_elim
      (λ fails. subst (SlotRefusal p s who slot ty a (Some n) (w ∷ ws)) (same_refusal _ x fails.1) (Unknown held fails.0))
      (λ behind.
      let fails = failed (same_annotation p ty n) (Refused (refusal.OtherAnnotation who a ty n)) (Refused x) behind.1 in
      subst (SlotRefusal p s who slot ty a (Some n) (w ∷ ws)) (same_refusal _ x fails.1) (Otherwise n (λ none. cc) held refl behind.0 fails.0))
      (either_test (is_annotated p n) (not_annotated who a) (Refused x) (unless (same_annotation p ty n) (Refused (refusal.OtherAnnotation who a ty n))) is)

  pub slot_refusal : (target : Option ℕ) (ws : List Principal) (x : Refusal) → by_writers p s who slot ty a target ws ≡ Some (Refused x) → SlotRefusal p s who slot ty a target ws x
  slot_refusal target [] x is = cleaned target x is
  slot_refusal target (w ∷ ws) x is =
      ⊎_elim
      (λ first.
      let found = writer_first s slot a (w ∷ ws) (Refused x) first in
      subst (SlotRefusal p s who slot ty a target (w ∷ ws)) (same_refusal _ x found.2) (Lacks found.0 found.1))
      (λ behind. written target w ws x (none_without s slot a (w ∷ ws) behind.0) behind.1)
      (either (writer_refusal s slot a (w ∷ ws)) (written_target p who a ty target) (Refused x) is)

  -- and each of these is what is decided

  pub lacks_refused : (target : Option ℕ) (ws : List Principal) (w : Principal) → first_without s a ws ≡ Some w → by_writers p s who slot ty a target ws ≡ Some (Refused (refusal.Writer w a slot))
  lacks_refused target [] w is = absurd (cc)
  lacks_refused target (v ∷ vs) w is = at_first (writer_refusal s slot a (v ∷ vs)) (written_target p who a ty target) _ (first_refused s slot a (v ∷ vs) w is)

  unknown_written : (target : Option ℕ) → stands (is_annotated p) target ≡ false → written_target p who a ty target ≡ Some (not_annotated who a)
  unknown_written None is = refl
  unknown_written (Some n) is = at_first_test (is_annotated p n) (not_annotated who a) _ is

  unknown_clean : (target : Option ℕ) → stands (is_known_in p None) target ≡ false → clean_target p who a target ≡ Some (not_annotated who a)
  unknown_clean None is = refl
  unknown_clean (Some n) is = at_test (is_known_in p None n) (not_annotated who a) is

  pub unknown_refused : (target : Option ℕ) (ws : List Principal) → have_call s a ws ≡ true → stands (is_callable p ws) target ≡ false → by_writers p s who slot ty a target ws ≡ Some (not_annotated who a)
  unknown_refused target [] held is = unknown_clean target is
  unknown_refused target (w ∷ ws) held is = at_second (writer_refusal s slot a (w ∷ ws)) (written_target p who a ty target) _ (held_none s slot a (w ∷ ws) held) (unknown_written target is)

  other_written : (target : Option ℕ) (n : ℕ) → target ≡ Some n → is_annotated p n ≡ true → same_annotation p ty n ≡ false → written_target p who a ty target ≡ Some (Refused (refusal.OtherAnnotation who a ty n))
  other_written target n is known differs =
      ap (written_target p who a ty) is ∙ passed_on (is_annotated p n) (not_annotated who a) _ _ known (at_test (same_annotation p ty n) _ differs)

  pub other_refused : (target : Option ℕ) (ws : List Principal) (n : ℕ) → ws ≢ [] → have_call s a ws ≡ true → target ≡ Some n → is_annotated p n ≡ true → same_annotation p ty n ≡ false
      → by_writers p s who slot ty a target ws ≡ Some (Refused (refusal.OtherAnnotation who a ty n))
  other_refused target [] n some held is known differs = absurd (some refl)
  other_refused target (w ∷ ws) n some held is known differs =
      at_second (writer_refusal s slot a (w ∷ ws)) (written_target p who a ty target) _ (held_none s slot a (w ∷ ws) held) (other_written target n is known differs)
