-- What an action keeps of a history: whatever each act that it adds keeps.
use Rattle.std.proofs.Common.{◌≡◌, ℕ, zero, suc, Bool, true, false, Option, Some, None, Ok, Err, List, [], ◌∷◌, refl}
use Rattle.std.specs.Prelude.{⊤, if◌then◌else◌}
use Rattle.std.specs.List.{AllByRecursion}
use Rattle.lx_caps.specs.declared.Principal.{Principal}
use Rattle.lx_caps.specs.declared.Cap.{Cap}
use Rattle.lx_caps.specs.declared.Act.TheVariants.{Strip, Loan, Shut}
use Rattle.lx_caps.specs.History.{History, with_grant, with_lend}
use Rattle.lx_caps.specs.Memory.{Memory, load64}
use Rattle.lx_annot.specs.declared.action.CapSpec.{CapSpec}
use Rattle.lx_annot.specs.declared.expr.Env.{Env}
use Rattle.lx_annot.specs.declared.interface.Interface.{Interface}
use Rattle.lx_annot.specs.Action.{Action, Copy, Transfer, Check, Lend, End, If, is_lend}
use Rattle.lx_annot.specs.Value.{Found, value}
use Rattle.lx_annot.specs.Items.{caps_of}
use Rattle.lx_model.specs.declared.program.Program.{Program}
use Rattle.lx_model.specs.declared.request.Outcome.{Outcome}
use Rattle.lx_model.specs.Act.{Acted, act, checked, copied, first_refusal, item_refusal, lent, not_done, on_condition, result_unless, transferred, with_grants, with_lends, with_strips}
use Rattle.lx_model.specs.Decide.{result_or_none}
use Rattle.lx_model.specs.Serve.{history_or}
use Rattle.lx_model.specs.State.{State}
use Rattle.lx_model.proofs.Passing.{neither}

-- the list that an action gives or lends, where it does so
abbrev pub list_given : Action → Option CapSpec
list_given (Copy list) = Some list
list_given (Transfer list) = Some list
list_given (Check list) = None
list_given (Lend list) = Some list
list_given (End k) = None
list_given (If e a) = list_given a

-- each act that an action adds to the history `h` keeps this: an item that is given, taken or lent was not refused, and is one of
-- those that the action names
pub record Keeps (P : History → Type 0) (t : ℕ) (source dest : Principal) (h : History) (Named : Cap → Type 0) : Type 0 where
  pub grant : (transfers : Bool) (c : Cap) (g : History) → item_refusal h transfers true source c ≡ None → Named c → P g → P (with_grant dest c g)
  pub strip : (c : Cap) (g : History) → item_refusal h true true source c ≡ None → P g → P (Strip c ∷ g)
  pub loan : (g : History) → P g → P (Loan t ∷ g)
  pub lend : (c : Cap) (g : History) → item_refusal h false true source c ≡ None → Named c → P g → P (with_lend t dest c g)
  pub shut : (k : ℕ) (g : History) → P g → P (Shut t k ∷ g)

abbrev pub AllNamed : (Cap → Type 0) → Found (List Cap) → Type 0
AllNamed Named (Err at) = ⊤
AllNamed Named (Ok cs) = AllByRecursion Named cs

module _ (P : History → Type 0) (t : ℕ) (source dest : Principal) (h : History) (Named : Cap → Type 0) (keeps : Keeps P t source dest h Named) where
  all_granted : (transfers : Bool) (cs : List Cap) (g : History) → AllByRecursion Named cs → first_refusal h transfers true source cs ≡ None → P g → P (with_grants dest cs g)
  all_granted transfers [] g named is all = all
  all_granted transfers (c ∷ cs) g named is all =
      let both = neither (item_refusal h transfers true source c) (first_refusal h transfers true source cs) is in
      all_granted transfers cs (with_grant dest c g) named.1 both.1 (keeps.grant transfers c g both.0 named.0 all)

  all_stripped : (cs : List Cap) (g : History) → first_refusal h true true source cs ≡ None → P g → P (with_strips cs g)
  all_stripped [] g is all = all
  all_stripped (c ∷ cs) g is all =
      let both = neither (item_refusal h true true source c) (first_refusal h true true source cs) is in
      all_stripped cs (Strip c ∷ g) both.1 (keeps.strip c g both.0 all)

  all_lent : (cs : List Cap) (g : History) → AllByRecursion Named cs → first_refusal h false true source cs ≡ None → P g → P (with_lends t dest cs g)
  all_lent [] g named is all = all
  all_lent (c ∷ cs) g named is all =
      let both = neither (item_refusal h false true source c) (first_refusal h false true source cs) is in
      all_lent cs (with_lend t dest c g) named.1 both.1 (keeps.lend c g both.0 named.0 all)

  either : (d : Option Outcome) (new : History) → (d ≡ None → P new) → P h → P (history_or (result_unless d new) h)
  either None new fresh all = fresh refl
  either (Some o) new fresh all = all

  copy_keeps : (found : Found (List Cap)) → AllNamed Named found → P h → P (history_or (copied source dest h found) h)
  copy_keeps (Err at) named all = all
  copy_keeps (Ok cs) named all = either (first_refusal h false true source cs) (with_grants dest cs h) (λ is. all_granted false cs h named is all) all

  transfer_keeps : (found : Found (List Cap)) → AllNamed Named found → P h → P (history_or (transferred source dest h found) h)
  transfer_keeps (Err at) named all = all
  transfer_keeps (Ok cs) named all =
      either (first_refusal h true true source cs) (with_grants dest cs (with_strips cs h))
      (λ is. all_granted true cs (with_strips cs h) named is (all_stripped cs h is all)) all

  check_keeps : (found : Found (List Cap)) → P h → P (history_or (checked source h found) h)
  check_keeps (Err at) all = all
  check_keeps (Ok cs) all = either (first_refusal h false false source cs) h (λ is. all) all

  lend_keeps : (found : Found (List Cap)) → AllNamed Named found → P h → P (history_or (lent t source dest h found) h)
  lend_keeps (Err at) named all = all
  lend_keeps (Ok cs) named all =
      either (first_refusal h false true source cs) (with_lends t dest cs (Loan t ∷ h)) (λ is. all_lent cs (Loan t ∷ h) named is (keeps.loan h all)) all

  undone_by : (b : Bool) → P h → P (if b then Loan t ∷ h else h)
  undone_by true all = keeps.loan h all
  undone_by false all = all

  condition_keeps : (found : Found ℕ) (undone : History) (acted : Acted) → P h → P undone → P (history_or acted h) → P (history_or (on_condition found undone acted) h)
  condition_keeps (Err at) undone acted all left more = all
  condition_keeps (Ok zero) undone acted all left more = left
  condition_keeps (Ok (suc n)) undone acted all left more = more

  -- an action keeps what its acts keep, whatever it is
  pub act_keeps : (i : Interface) (m : Memory) (env : Env) (a : Action) → ((list : CapSpec) → list_given a ≡ Some list → AllNamed Named (caps_of i (load64 m) env list)) → P h
      → P (history_or (act i a env t source dest m h) h)
  act_keeps i m env (Copy list) named all = copy_keeps (caps_of i (load64 m) env list) (named list refl) all
  act_keeps i m env (Transfer list) named all = transfer_keeps (caps_of i (load64 m) env list) (named list refl) all
  act_keeps i m env (Check list) named all = check_keeps (caps_of i (load64 m) env list) all
  act_keeps i m env (Lend list) named all = lend_keeps (caps_of i (load64 m) env list) (named list refl) all
  act_keeps i m env (End k) named all = keeps.shut k h all
  act_keeps i m env (If e a) named all =
      condition_keeps (value (load64 m) env e) (not_done t a h) (act i a env t source dest m h) all (undone_by (is_lend a) all) (act_keeps i m env a named all)

-- where it does not matter which items the action names

abbrev pub Any : Cap → Type 0
Any c = ⊤

all_any : (cs : List Cap) → AllByRecursion Any cs
all_any [] = tt
all_any (c ∷ cs) = (tt, all_any cs)

any_named : (found : Found (List Cap)) → AllNamed Any found
any_named (Err at) = tt
any_named (Ok cs) = all_any cs

pub action_keeps : (P : History → Type 0) (p : Program) (s : State) (t : ℕ) (o : Option Action) (env : Env) (source dest : Principal) → Keeps P t source dest s.history Any → P s.history
    → P (history_or (result_or_none p s t o env source dest) s.history)
action_keeps P p s t None env source dest keeps all = all
action_keeps P p s t (Some a) env source dest keeps all =
    act_keeps P t source dest s.history Any keeps p.interface s.memory env a (λ list is. any_named (caps_of p.interface (load64 s.memory) env list)) all
