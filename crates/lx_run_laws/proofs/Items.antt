-- The items of an action, and which of them decides.
use Rattle.std.proofs.Common.{◌≡◌, ⊎_elim, ℕ, zero, suc, Bool, true, false, not, ◌&&◌, ◌||◌, Option, Some, None, Ok, Err, List, [], ◌∷◌, ◌++◌, refl, sym, ap, subst, ◌∙◌}
use Rattle.std.specs.List.{list_all}
use Rattle.std.proofs.lemmas.Bool.{and_from}
use Rattle.std.proofs.lemmas.Option.{same_Some}
use Rattle.lx_words.proofs.Tests.{first_of as first_true, second_of}
use Rattle.lx_caps.specs.declared.Principal.{Principal}
use Rattle.lx_caps.specs.declared.Cap.{Cap}
use Rattle.lx_caps.specs.declared.Cap.TheVariants.{Write, Call, Ref}
use Rattle.lx_caps.specs.History.{History, holds, keeps_all}
use Rattle.lx_caps.specs.Memory.{Memory, load64}
use Rattle.lx_annot.specs.declared.expr.Env.{Env}
use Rattle.lx_annot.specs.declared.interface.Interface.{Interface}
use Rattle.lx_annot.specs.Action.{Action, Copy, Transfer, Check, Lend, End, If}
use Rattle.lx_annot.specs.Items.{caps_of}
use Rattle.lx_annot.specs.Value.{Found, value}
use Rattle.lx_model.specs.declared.request.Outcome.{Outcome}
use Rattle.lx_model.specs.declared.request.Outcome.TheVariants.{Refused}
use Rattle.lx_model.specs.declared.request.Refusal.{Refusal}
use Rattle.lx_model.specs.declared.request.Refusal.TheVariants as refusal
use Rattle.lx_model.specs.Act.{or_else, unless, not_held, outside, on_stack, on_loan, item_refusal, first_refusal, result_unless, copied, transferred, checked, lent, act, on_condition, not_done, Acted}
use Rattle.lx_model.specs.Decide.{outcome_of}
use Rattle.lx_run_laws.specs.Errands.{Errand, errand_for, errand_of_action, where_true, is_in_memory, is_on_stacks, is_fine}
use Rattle.lx_run_laws.proofs.Decisions.{either, at_first, at_second}

-- what an action comes to is what its items are refused for

unless_outcome : (o : Option Outcome) (h : History) → outcome_of (result_unless o h) ≡ o
unless_outcome None h = refl
unless_outcome (Some o) h = refl

-- what the items of an errand are refused for
abbrev pub errand_refusal : History → Errand → Option Outcome
errand_refusal h e = first_refusal h e.transfers e.gives e.source e.items

abbrev IsAsked : History → Acted → Option Errand → Type 0
IsAsked h acted errand = ((e : Errand) → errand ≡ Some e → outcome_of acted ≡ errand_refusal h e) × ((x : Refusal) → errand ≡ None → outcome_of acted ≡ Some (Refused x) → ⊥)

asked_for : (source : Principal) (transfers gives : Bool) (items : List Cap) (h after : History)
    → IsAsked h (result_unless (first_refusal h transfers gives source items) after) (errand_for source transfers gives (Ok items))
asked_for source transfers gives items h after = (
  (λ e is. subst (λ (x : Errand). outcome_of (result_unless (first_refusal h transfers gives source items) after) ≡ errand_refusal h x) (same_Some _ e is)
      (unless_outcome (first_refusal h transfers gives source items) after)),
  (λ x none is. absurd (cc)),
)

asked_copy : (source dest : Principal) (h : History) (found : Found (List Cap)) → IsAsked h (copied source dest h found) (errand_for source false true found)
asked_copy source dest h (Err at) = ((λ e is. absurd (cc)), (λ x none is. cc))
asked_copy source dest h (Ok items) = asked_for source false true items h _

asked_transfer : (source dest : Principal) (h : History) (found : Found (List Cap)) → IsAsked h (transferred source dest h found) (errand_for source true true found)
asked_transfer source dest h (Err at) = ((λ e is. absurd (cc)), (λ x none is. cc))
asked_transfer source dest h (Ok items) = asked_for source true true items h _

asked_check : (source : Principal) (h : History) (found : Found (List Cap)) → IsAsked h (checked source h found) (errand_for source false false found)
asked_check source h (Err at) = ((λ e is. absurd (cc)), (λ x none is. cc))
asked_check source h (Ok items) = asked_for source false false items h _

asked_lend : (t : ℕ) (source dest : Principal) (h : History) (found : Found (List Cap)) → IsAsked h (lent t source dest h found) (errand_for source false true found)
asked_lend t source dest h (Err at) = ((λ e is. absurd (cc)), (λ x none is. cc))
asked_lend t source dest h (Ok items) = asked_for source false true items h _

asked_where : (found : Found ℕ) (h undone : History) (acted : Acted) (errand : Option Errand) → IsAsked h acted errand
    → IsAsked h (on_condition found undone acted) (where_true found errand)
asked_where (Err at) h undone acted errand asked = ((λ e is. absurd (cc)), (λ x none is. cc))
asked_where (Ok zero) h undone acted errand asked = ((λ e is. absurd (cc)), (λ x none is. cc))
asked_where (Ok (suc n)) h undone acted errand asked = asked

pub asked : (i : Interface) (a : Action) (env : Env) (t : ℕ) (source dest : Principal) (memory : Memory) (h : History)
    → IsAsked h (act i a env t source dest memory h) (errand_of_action i a env source memory)
asked i (Copy list) env t source dest memory h = asked_copy source dest h (caps_of i (load64 memory) env list)
asked i (Transfer list) env t source dest memory h = asked_transfer source dest h (caps_of i (load64 memory) env list)
asked i (Check list) env t source dest memory h = asked_check source h (caps_of i (load64 memory) env list)
asked i (Lend list) env t source dest memory h = asked_lend t source dest h (caps_of i (load64 memory) env list)
asked i (End k) env t source dest memory h = ((λ e is. absurd (cc)), (λ x none is. cc))
asked i (If e a) env t source dest memory h =
    asked_where (value (load64 memory) env e) h (not_done t a h) (act i a env t source dest memory h) (errand_of_action i a env source memory)
    (asked i a env t source dest memory h)

-- the tests of an item, in order

abbrev pub out_of_memory : Principal → Cap → Outcome
out_of_memory who (Write at size) = Refused (refusal.Outside who at size)
out_of_memory who c = not_held who c

abbrev pub on_a_stack : Principal → Cap → Outcome
on_a_stack who (Write at size) = Refused (refusal.OnStack who at size)
on_a_stack who c = not_held who c

abbrev pub item_row : History → Errand → Cap → Option Outcome
item_row h e c =
    or_else (unless (is_in_memory c) (out_of_memory e.source c))
    (or_else (unless (not (e.transfers && is_on_stacks c)) (on_a_stack e.source c))
    (or_else (unless (holds h e.source c) (not_held e.source c)) (unless (not e.gives || keeps_all h e.source c) (Refused (refusal.Borrowed e.source c)))))

outside_is : (who : Principal) (c : Cap) → outside who c ≡ unless (is_in_memory c) (out_of_memory who c)
outside_is who (Write at size) = refl
outside_is who (Call at) = refl
outside_is who (Ref ty at) = refl

on_stack_is : (b : Bool) (who : Principal) (c : Cap) → on_stack b who c ≡ unless (not (b && is_on_stacks c)) (on_a_stack who c)
on_stack_is true who (Write at size) = refl
on_stack_is true who (Call at) = refl
on_stack_is true who (Ref ty at) = refl
on_stack_is false who (Write at size) = refl
on_stack_is false who (Call at) = refl
on_stack_is false who (Ref ty at) = refl

on_loan_is : (b : Bool) (h : History) (who : Principal) (c : Cap) → on_loan b h who c ≡ unless (not b || keeps_all h who c) (Refused (refusal.Borrowed who c))
on_loan_is true h who c = refl
on_loan_is false h who c = refl

pub item_is : (h : History) (e : Errand) (c : Cap) → item_refusal h e.transfers e.gives e.source c ≡ item_row h e c
item_is h e c =
    ap (λ (o : Option Outcome). or_else o (or_else (on_stack e.transfers e.source c) (or_else (unless (holds h e.source c) (not_held e.source c)) (on_loan e.gives h e.source c)))) (outside_is e.source c)
    ∙ (ap (λ (o : Option Outcome). or_else (unless (is_in_memory c) (out_of_memory e.source c)) (or_else o (or_else (unless (holds h e.source c) (not_held e.source c)) (on_loan e.gives h e.source c)))) (on_stack_is e.transfers e.source c)
    ∙ ap (λ (o : Option Outcome). or_else (unless (is_in_memory c) (out_of_memory e.source c)) (or_else (unless (not (e.transfers && is_on_stacks c)) (on_a_stack e.source c)) (or_else (unless (holds h e.source c) (not_held e.source c)) o))) (on_loan_is e.gives h e.source c))

four_pass : (a b c d : Bool) (v w x y : Outcome) → or_else (unless a v) (or_else (unless b w) (or_else (unless c x) (unless d y))) ≡ None → ((a && b) && (c && d)) ≡ true
four_pass true true true true v w x y e = refl
four_pass true true true false v w x y e = absurd (cc)
four_pass true true false d v w x y e = absurd (cc)
four_pass true false c d v w x y e = absurd (cc)
four_pass false b c d v w x y e = absurd (cc)

pass_four : (a b c d : Bool) (v w x y : Outcome) → ((a && b) && (c && d)) ≡ true → or_else (unless a v) (or_else (unless b w) (or_else (unless c x) (unless d y))) ≡ None
pass_four true true true true v w x y e = refl
pass_four true true true false v w x y e = absurd (cc)
pass_four true true false d v w x y e = absurd (cc)
pass_four true false c d v w x y e = absurd (cc)
pass_four false b c d v w x y e = absurd (cc)

pub none_fine : (h : History) (e : Errand) (c : Cap) → item_refusal h e.transfers e.gives e.source c ≡ None → is_fine h e c ≡ true
none_fine h e c none =
    four_pass (is_in_memory c) (not (e.transfers && is_on_stacks c)) (holds h e.source c) (not e.gives || keeps_all h e.source c) _ _ _ _ (sym (item_is h e c) ∙ none)

pub fine_none : (h : History) (e : Errand) (c : Cap) → is_fine h e c ≡ true → item_refusal h e.transfers e.gives e.source c ≡ None
fine_none h e c fine =
    item_is h e c ∙ pass_four (is_in_memory c) (not (e.transfers && is_on_stacks c)) (holds h e.source c) (not e.gives || keeps_all h e.source c)
    (out_of_memory e.source c) (on_a_stack e.source c) (not_held e.source c) (Refused (refusal.Borrowed e.source c)) fine

-- the first item that is refused

pub record FirstOf (h : History) (e : Errand) (items : List Cap) (o : Outcome) : Type 0 where
  pub before : List Cap
  pub item : Cap
  pub after : List Cap
  pub place : items ≡ before ++ item ∷ after
  pub fine : list_all (is_fine h e) before ≡ true
  pub is : item_refusal h e.transfers e.gives e.source item ≡ Some o

pub first_of : (h : History) (e : Errand) (items : List Cap) (o : Outcome) → first_refusal h e.transfers e.gives e.source items ≡ Some o → FirstOf h e items o
first_of h e [] o is = absurd (cc)
first_of h e (c ∷ cs) o is =
    ⊎_elim
    (λ here. record { before = []; item = c; after = cs; place = refl; fine = refl; is = here })
    (λ behind.
    let rest = first_of h e cs o behind.1 in
    record { before = c ∷ rest.before; item = rest.item; after = rest.after; place = ap (λ xs. c ∷ xs) rest.place; fine = and_from (is_fine h e c) _ (none_fine h e c behind.0) rest.fine; is = rest.is })
    (either (item_refusal h e.transfers e.gives e.source c) (first_refusal h e.transfers e.gives e.source cs) o is)

pub at_item : (h : History) (e : Errand) (before : List Cap) (c : Cap) (after : List Cap) (o : Outcome) → list_all (is_fine h e) before ≡ true
    → item_refusal h e.transfers e.gives e.source c ≡ Some o → first_refusal h e.transfers e.gives e.source (before ++ c ∷ after) ≡ Some o
at_item h e [] c after o fine is = at_first (item_refusal h e.transfers e.gives e.source c) (first_refusal h e.transfers e.gives e.source after) o is
at_item h e (b ∷ bs) c after o fine is =
    at_second (item_refusal h e.transfers e.gives e.source b) (first_refusal h e.transfers e.gives e.source (bs ++ c ∷ after)) o
    (fine_none h e b (first_true (is_fine h e b) (list_all (is_fine h e) bs) fine)) (at_item h e bs c after o (second_of (is_fine h e b) (list_all (is_fine h e) bs) fine) is)
