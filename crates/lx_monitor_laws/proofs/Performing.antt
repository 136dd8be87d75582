-- What an action makes of a history.
use Rattle.std.proofs.Common.{◌≡◌, ◌⊎◌, inl, inr, ℕ, zero, suc, Bool, true, false, ◌&&◌, ◌||◌, Option, Some, None, Ok, Err, List, [], ◌∷◌, slice_get, refl, sym, ap, subst}
use Rattle.std.specs.Prelude.{option_and_then}
use Rattle.std.proofs.lemmas.Bool.{and_from, and_parts, eq-eqb, or_cases, or_left, or_right}
use Rattle.std.proofs.lemmas.Option.{same_Some}
use Rattle.lx_caps.specs.declared.Principal.{Principal}
use Rattle.lx_caps.specs.declared.Principal.TheVariants.{Kernel, Shared, Global, Inst}
use Rattle.lx_caps.specs.declared.Cap.{Cap}
use Rattle.lx_caps.specs.declared.Atom.{Atom}
use Rattle.lx_caps.specs.declared.Act.TheVariants.{Loan, Strip}
use Rattle.lx_caps.specs.History.{History, has, owns, same_principal, with_grant, with_lend}
use Rattle.lx_caps.specs.Loans.{lends}
use Rattle.lx_caps.specs.Memory.{Memory, load64}
use Rattle.lx_caps.proofs.Principals.{same_principal_is, same_principal_itself}
use Rattle.lx_caps.proofs.Lending.{still_lends, lend_owns}
use Rattle.lx_annot.specs.declared.expr.Env.{Env}
use Rattle.lx_annot.specs.declared.interface.Interface.{Interface}
use Rattle.lx_annot.specs.Action.{Action, Copy, Transfer, Check, Lend, End, If}
use Rattle.lx_annot.specs.Items.{caps_of}
use Rattle.lx_annot.specs.Value.{Found, value}
use Rattle.lx_model.specs.declared.program.Program.{Program}
use Rattle.lx_model.specs.declared.request.Outcome.{Outcome}
use Rattle.lx_model.specs.declared.request.Reply.TheVariants.{Done}
use Rattle.lx_model.specs.declared.request.Request.{Request}
use Rattle.lx_model.specs.declared.request.What.TheVariants.{Perform}
use Rattle.lx_model.specs.Act.{Acted, act, checked, copied, first_refusal, lent, not_done, on_condition, result_unless, transferred, with_grants, with_lends, with_strips}
use Rattle.lx_model.specs.Authority.{is_module}
use Rattle.lx_model.specs.Decide.{action_result, outcome_of, result_or_none}
use Rattle.lx_model.specs.Next.{actions_of, request}
use Rattle.lx_model.specs.Serve.{history_or, serve, serve_by}
use Rattle.lx_model.specs.State.{State}
use Rattle.lx_model.proofs.Transfers.{by_grants, transfers}
use Rattle.lx_run_laws.specs.Errands.{Errand, errand_for, errand_of, errand_of_action, where_true}
use Rattle.lx_monitor_laws.specs.ActionLaws.{IsPerformed, is_of_items}

-- grants

grant_keeps : (d : Principal) (c : Cap) (h : History) (q : Principal) (x : Atom) → owns h q x ≡ true → owns (with_grant d c h) q x ≡ true
grant_keeps Kernel c h q x is = is
grant_keeps (Shared m) c h q x is = or_right (same_principal q (Shared m) && has c x) _ is
grant_keeps (Global m) c h q x is = or_right (same_principal q (Global m) && has c x) _ is
grant_keeps (Inst m k) c h q x is = or_right (same_principal q (Inst m k) && has c x) _ is

grants_keep : (d : Principal) (cs : List Cap) (h : History) (q : Principal) (x : Atom) → owns h q x ≡ true → owns (with_grants d cs h) q x ≡ true
grants_keep d [] h q x is = is
grants_keep d (c ∷ cs) h q x is = grants_keep d cs (with_grant d c h) q x (grant_keeps d c h q x is)

own_atom : (d : Principal) (c : Cap) (x : Atom) → has c x ≡ true → (same_principal d d && has c x) ≡ true
own_atom d c x at = and_from (same_principal d d) (has c x) (same_principal_itself d) at

grant_gives : (d : Principal) (c : Cap) (h : History) (x : Atom) → is_module d ≡ true → has c x ≡ true → owns (with_grant d c h) d x ≡ true
grant_gives Kernel c h x is at = absurd (cc)
grant_gives (Shared m) c h x is at = or_left (same_principal (Shared m) (Shared m) && has c x) (owns h (Shared m) x) (own_atom (Shared m) c x at)
grant_gives (Global m) c h x is at = or_left (same_principal (Global m) (Global m) && has c x) (owns h (Global m) x) (own_atom (Global m) c x at)
grant_gives (Inst m k) c h x is at = or_left (same_principal (Inst m k) (Inst m k) && has c x) (owns h (Inst m k) x) (own_atom (Inst m k) c x at)

grants_give : (d : Principal) (cs : List Cap) (h : History) (x : Atom) → is_module d ≡ true → is_of_items cs x ≡ true → owns (with_grants d cs h) d x ≡ true
grants_give d [] h x is at = absurd (cc)
grants_give d (c ∷ cs) h x is at = elim (or_cases (has c x) (is_of_items cs x) at) [
  | inl here ↦ grants_keep d cs (with_grant d c h) d x (grant_gives d c h x is here)
  | inr there ↦ grants_give d cs (with_grant d c h) x is there
]

by_grants_of : (d : Principal) (cs : List Cap) (h : History) (q : Principal) (x : Atom) → owns (with_grants d cs h) q x ≡ true → (owns h q x ≡ true) ⊎ (q ≡ d)
by_grants_of d cs h q x is = elim (by_grants d cs h q x is) [ inl before ↦ inl before | inr same ↦ inr (same_principal_is q d same) ]

-- strips

strips_give_nothing : (cs : List Cap) (h : History) (q : Principal) (x : Atom) → owns (with_strips cs h) q x ≡ true → owns h q x ≡ true
strips_give_nothing [] h q x is = is
strips_give_nothing (c ∷ cs) h q x is = (and_parts _ (owns h q x) (strips_give_nothing cs (Strip c ∷ h) q x is)).1

-- lends

lends_keep : (t : ℕ) (d : Principal) (cs : List Cap) (h : History) (q : Principal) (x : Atom) → owns h q x ≡ true → owns (with_lends t d cs h) q x ≡ true
lends_keep t d [] h q x is = is
lends_keep t d (c ∷ cs) h q x is = lends_keep t d cs (with_lend t d c h) q x (lend_owns t d c h q x is)

lent_atom : (d : Principal) (c : Cap) (h : History) (t : ℕ) (x : Atom) → lends h t ≡ true → has c x ≡ true → (lends h t && (same_principal d d && has c x)) ≡ true
lent_atom d c h t x loaned at = and_from (lends h t) _ loaned (own_atom d c x at)

lend_gives : (t : ℕ) (d : Principal) (c : Cap) (h : History) (x : Atom) → lends h t ≡ true → is_module d ≡ true → has c x ≡ true → owns (with_lend t d c h) d x ≡ true
lend_gives t Kernel c h x loaned is at = absurd (cc)
lend_gives t (Shared m) c h x loaned is at =
    or_left (lends h t && (same_principal (Shared m) (Shared m) && has c x)) (owns h (Shared m) x) (lent_atom (Shared m) c h t x loaned at)
lend_gives t (Global m) c h x loaned is at =
    or_left (lends h t && (same_principal (Global m) (Global m) && has c x)) (owns h (Global m) x) (lent_atom (Global m) c h t x loaned at)
lend_gives t (Inst m k) c h x loaned is at =
    or_left (lends h t && (same_principal (Inst m k) (Inst m k) && has c x)) (owns h (Inst m k) x) (lent_atom (Inst m k) c h t x loaned at)

lends_give : (t : ℕ) (d : Principal) (cs : List Cap) (h : History) (x : Atom) → lends h t ≡ true → is_module d ≡ true → is_of_items cs x ≡ true
    → owns (with_lends t d cs h) d x ≡ true
lends_give t d [] h x loaned is at = absurd (cc)
lends_give t d (c ∷ cs) h x loaned is at = elim (or_cases (has c x) (is_of_items cs x) at) [
  | inl here ↦ lends_keep t d cs (with_lend t d c h) d x (lend_gives t d c h x loaned is here)
  | inr there ↦ lends_give t d cs (with_lend t d c h) x (still_lends t d c h loaned) is there
]

lent_by : (t : ℕ) (d : Principal) (c : Cap) (h : History) (q : Principal) (x : Atom) → (lends h t && (same_principal q d && has c x) || owns h q x) ≡ true
    → (owns h q x ≡ true) ⊎ (q ≡ d)
lent_by t d c h q x is = elim (or_cases (lends h t && (same_principal q d && has c x)) (owns h q x) is) [
  | inl lent ↦ inr (same_principal_is q d (and_parts (same_principal q d) (has c x) (and_parts (lends h t) _ lent).1).0)
  | inr before ↦ inl before
]

by_lend : (t : ℕ) (d : Principal) (c : Cap) (h : History) (q : Principal) (x : Atom) → owns (with_lend t d c h) q x ≡ true → (owns h q x ≡ true) ⊎ (q ≡ d)
by_lend t Kernel c h q x is = inl is
by_lend t (Shared m) c h q x is = lent_by t (Shared m) c h q x is
by_lend t (Global m) c h q x is = lent_by t (Global m) c h q x is
by_lend t (Inst m k) c h q x is = lent_by t (Inst m k) c h q x is

by_lends : (t : ℕ) (d : Principal) (cs : List Cap) (h : History) (q : Principal) (x : Atom) → owns (with_lends t d cs h) q x ≡ true → (owns h q x ≡ true) ⊎ (q ≡ d)
by_lends t d [] h q x is = inl is
by_lends t d (c ∷ cs) h q x is = elim (by_lends t d cs (with_lend t d c h) q x is) [
  | inl before ↦ by_lend t d c h q x before
  | inr same ↦ inr same
]

-- what an action comes to, where it is performed

abbrev IsDoneBy : Principal → History → Acted → Option Errand → Type 0
IsDoneBy dest h acted errand = (e : Errand) (g : History) → errand ≡ Some e → acted ≡ Ok g → IsPerformed dest e h g

-- of items that are not refused
done_unless : (d : Option Outcome) (new : History) (dest : Principal) (h : History) (errand : Errand) → IsPerformed dest errand h new
    → IsDoneBy dest h (result_unless d new) (Some errand)
done_unless None new dest h errand performed e g is at =
    subst (λ x. IsPerformed dest x h g) (same_Some errand e is) (subst (λ x. IsPerformed dest errand h x) (same_Ok new g at) performed) where
      same_Ok : (x y : History) → ◌≡◌ {A = Acted} (Ok x) (Ok y) → x ≡ y
      same_Ok x y e = cc
done_unless (Some o) new dest h errand performed e g is at = absurd (cc)

copy_done : (source dest : Principal) (h : History) (found : Found (List Cap)) → IsDoneBy dest h (copied source dest h found) (errand_for source false true found)
copy_done source dest h (Err at) = λ e g is there. absurd (cc)
copy_done source dest h (Ok items) = done_unless (first_refusal h false true source items) (with_grants dest items h) dest h _ (record {
  taken = λ no q x at is. absurd (cc);
  left = λ no q x is. grants_keep dest items h q x is;
  given = λ yes is x at. grants_give dest items h x is at;
  gained = λ q x is. by_grants_of dest items h q x is;
})

transfer_done : (source dest : Principal) (h : History) (found : Found (List Cap)) → IsDoneBy dest h (transferred source dest h found) (errand_for source true true found)
transfer_done source dest h (Err at) = λ e g is there. absurd (cc)
transfer_done source dest h (Ok items) = done_unless (first_refusal h true true source items) (with_grants dest items (with_strips items h)) dest h _ (record {
  taken = λ yes q x at is. same_principal_is q dest (transfers dest items h q x at is);
  left = λ no q x is. absurd (cc);
  given = λ yes is x at. grants_give dest items (with_strips items h) x is at;
  gained = λ q x is. elim (by_grants_of dest items (with_strips items h) q x is) [
    | inl before ↦ inl (strips_give_nothing items h q x before)
    | inr same ↦ inr same
  ];
})

check_done : (source dest : Principal) (h : History) (found : Found (List Cap)) → IsDoneBy dest h (checked source h found) (errand_for source false false found)
check_done source dest h (Err at) = λ e g is there. absurd (cc)
check_done source dest h (Ok items) = done_unless (first_refusal h false false source items) h dest h _ (record {
  taken = λ no q x at is. absurd (cc);
  left = λ no q x is. is;
  given = λ no is x at. absurd (cc);
  gained = λ q x is. inl is;
})

lend_done : (t : ℕ) (source dest : Principal) (h : History) (found : Found (List Cap)) → IsDoneBy dest h (lent t source dest h found) (errand_for source false true found)
lend_done t source dest h (Err at) = λ e g is there. absurd (cc)
lend_done t source dest h (Ok items) = done_unless (first_refusal h false true source items) (with_lends t dest items (Loan t ∷ h)) dest h _ (record {
  taken = λ no q x at is. absurd (cc);
  left = λ no q x is. lends_keep t dest items (Loan t ∷ h) q x is;
  given = λ yes is x at. lends_give t dest items (Loan t ∷ h) x (or_left _ (lends h t) (eq-eqb t t refl)) is at;
  gained = λ q x is. by_lends t dest items (Loan t ∷ h) q x is;
})

where_done : (found : Found ℕ) (dest : Principal) (h undone : History) (acted : Acted) (errand : Option Errand) → IsDoneBy dest h acted errand
    → IsDoneBy dest h (on_condition found undone acted) (where_true found errand)
where_done (Err at) dest h undone acted errand done = λ e g is there. absurd (cc)
where_done (Ok zero) dest h undone acted errand done = λ e g is there. absurd (cc)
where_done (Ok (suc n)) dest h undone acted errand done = done

act_done : (i : Interface) (a : Action) (env : Env) (t : ℕ) (source dest : Principal) (memory : Memory) (h : History)
    → IsDoneBy dest h (act i a env t source dest memory h) (errand_of_action i a env source memory)
act_done i (Copy list) env t source dest memory h = copy_done source dest h (caps_of i (load64 memory) env list)
act_done i (Transfer list) env t source dest memory h = transfer_done source dest h (caps_of i (load64 memory) env list)
act_done i (Check list) env t source dest memory h = check_done source dest h (caps_of i (load64 memory) env list)
act_done i (Lend list) env t source dest memory h = lend_done t source dest h (caps_of i (load64 memory) env list)
act_done i (End k) env t source dest memory h = λ e g is there. absurd (cc)
act_done i (If test a) env t source dest memory h =
    where_done (value (load64 memory) env test) dest h (not_done t a h) (act i a env t source dest memory h) (errand_of_action i a env source memory)
    (act_done i a env t source dest memory h)

found_done : (p : Program) (s : State) (t : ℕ) (found : Option Action) (env : Env) (source dest : Principal)
    → IsDoneBy dest s.history (result_or_none p s t found env source dest) (option_and_then (λ a. errand_of_action p.interface a env source s.memory) found)
found_done p s t None env source dest = λ e g is there. absurd (cc)
found_done p s t (Some a) env source dest = act_done p.interface a env t source dest s.memory s.history

-- what is served

is_done : (acted : Acted) (p : Program) (s : State) (t : ℕ) (r : Request) → (serve_by (outcome_of acted) p s t r).reply ≡ Done → (g : History) × (acted ≡ Ok g)
is_done (Ok g) p s t r h = (g, refl)
is_done (Err o) p s t r h = absurd (cc)

history_is : (acted : Acted) (g : History) (p : Program) (s : State) (t : ℕ) (who : Principal) (n : ℕ) (post : Bool) (k : ℕ) (env : Env) (source dest : Principal)
    → acted ≡ Ok g → action_result p s t n post k env source dest ≡ Ok g
    → g ≡ (serve_by (outcome_of acted) p s t (request who (Perform n post k env source dest))).state.history
history_is (Ok f) g p s t who n post k env source dest is at = sym (ap (λ (a : Acted). history_or a s.history) at)
history_is (Err o) g p s t who n post k env source dest is at = absurd (cc)

pub performed : (p : Program) (s : State) (t : ℕ) (who : Principal) (n : ℕ) (post : Bool) (k : ℕ) (env : Env) (source dest : Principal) (e : Errand)
    → errand_of p s (Perform n post k env source dest) ≡ Some e → (serve p s t (request who (Perform n post k env source dest))).reply ≡ Done
    → IsPerformed dest e s.history (serve p s t (request who (Perform n post k env source dest))).state.history
performed p s t who n post k env source dest e errand h =
    let acted = action_result p s t n post k env source dest in
    let (g, is) = is_done acted p s t (request who (Perform n post k env source dest)) h in
    subst (λ after. IsPerformed dest e s.history after) (history_is acted g p s t who n post k env source dest is is)
    (found_done p s t (slice_get (actions_of p n post) k) env source dest e g errand is)
