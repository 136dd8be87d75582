-- What a history gives, where all that it gave before can be held by the module that was given it.
use Rattle.std.proofs.Common.{◌≡◌, ℕ, Bool, true, false, Option, Some, None, Ok, Err, inl, inr, List, [], ◌∷◌, refl, sym, ap, subst, ◌∙◌}
use Rattle.std.specs.Prelude.{⊤, ◌&&◌, not, nat_eq}
use Rattle.std.proofs.lemmas.Bool.{and_parts, eqb-true, or_cases}
use Rattle.lx_caps.specs.declared.Atom.{Atom}
use Rattle.lx_caps.specs.declared.Atom.TheVariants as atom
use Rattle.lx_caps.specs.declared.Cap.{Cap}
use Rattle.lx_caps.specs.declared.Cap.TheVariants as cap
use Rattle.lx_caps.specs.declared.Principal.{Principal}
use Rattle.lx_caps.specs.declared.Principal.TheVariants.{Kernel, Shared, Global, Inst}
use Rattle.lx_caps.specs.declared.Act.TheVariants as acts
use Rattle.lx_caps.specs.History.{History, has, holds, is_of, keeps_all, kept_among, owned_among, reaches, same_principal, with_grant, with_lend}
use Rattle.lx_caps.specs.Loans.{Endings, before_loan, before_shut, before_shut_all, goes_on, lends, none_end}
use Rattle.lx_caps.specs.Memory.{load64}
use Rattle.lx_annot.specs.declared.expr.Env.{Env}
use Rattle.lx_annot.specs.Action.{Action, If}
use Rattle.lx_annot.specs.Items.{caps_of}
use Rattle.lx_annot.specs.Value.{Found}
use Rattle.lx_model.specs.declared.program.Program.{Program}
use Rattle.lx_model.specs.Act.{act, item_refusal, not_held, on_stack, outside, unless}
use Rattle.lx_model.specs.Decide.{result_or_none}
use Rattle.lx_model.specs.Enter.{text_of_principal}
use Rattle.lx_model.specs.Serve.{history_or}
use Rattle.lx_model.specs.State.{State}
use Rattle.lx_surface.specs.declared.Thing.{Thing}
use Rattle.lx_surface.specs.Names.{gives, list_names}
use Rattle.lx_surface.specs.Reach.{Can}
use Rattle.lx_surface.proofs.Named.{AreNamed, Each, IsNamed, IsOf, caps_named}
use Rattle.lx_model.proofs.Passing.{passed, neither}
use Rattle.lx_model.proofs.ActKeeps.{AllNamed, Keeps, act_keeps, list_given}
use Rattle.std.specs.List.{AllByRecursion}
use Rattle.lx_annot.specs.declared.action.CapSpec.{CapSpec}

-- the module of a principal can hold each thing of which the capability is
abbrev pub IsWithin : Program → Principal → Cap → Type 0
IsWithin p q c = (m : ℕ) (x : Thing) → text_of_principal q ≡ Some m → IsOf p c x → Can p m x

-- so it is with each grant and each lend
abbrev pub AllWithin : Program → History → Type 0
AllWithin p [] = ⊤
AllWithin p (acts.Grant q c ∷ h) = IsWithin p q c × AllWithin p h
AllWithin p (acts.Strip c ∷ h) = AllWithin p h
AllWithin p (acts.Zero at size ∷ h) = AllWithin p h
AllWithin p (acts.Loan t ∷ h) = AllWithin p h
AllWithin p (acts.Lend t q c ∷ h) = IsWithin p q c × AllWithin p h
AllWithin p (acts.Shut t n ∷ h) = AllWithin p h
AllWithin p (acts.ShutAll t ∷ h) = AllWithin p h

-- whoever has an atom was given it

pub record Giver (p : Program) (among : Principal → Bool) (x : Atom) : Type 0 where
  pub who : Principal
  pub cap : Cap
  pub is_among : among who ≡ true
  pub has_it : has cap x ≡ true
  pub within : IsWithin p who cap

given_by : (p : Program) (among : Principal → Bool) (x : Atom) (q : Principal) (c : Cap) → (among q && has c x) ≡ true → IsWithin p q c → Giver p among x
given_by p among x q c is within =
    let both = and_parts (among q) (has c x) is in
    record { who = q; cap = c; is_among = both.0; has_it = both.1; within = within }

lent_by : (p : Program) (among : Principal → Bool) (x : Atom) (q : Principal) (c : Cap) (a b : Bool) → (a && (b && (among q && has c x))) ≡ true → IsWithin p q c → Giver p among x
lent_by p among x q c a b is within = given_by p among x q c (and_parts b (among q && has c x) (and_parts a (b && (among q && has c x)) is).1).1 within

pub keeper : (p : Program) (among : Principal → Bool) (h : History) (x : Atom) → kept_among among h x ≡ true → AllWithin p h → Giver p among x
keeper p among [] x is all = absurd (cc)
keeper p among (acts.Grant q c ∷ h) x is all = elim (or_cases (among q && has c x) (kept_among among h x) is) [
  | inl here ↦ given_by p among x q c here all.0
  | inr before ↦ keeper p among h x before all.1
]
keeper p among (acts.Strip c ∷ h) x is all = keeper p among h x (and_parts (not (has c x)) (kept_among among h x) is).1 all
keeper p among (acts.Zero at size ∷ h) x is all = keeper p among h x is all
keeper p among (acts.Loan t ∷ h) x is all = keeper p among h x is all
keeper p among (acts.Lend t q c ∷ h) x is all = keeper p among h x is all.1
keeper p among (acts.Shut t n ∷ h) x is all = keeper p among h x is all
keeper p among (acts.ShutAll t ∷ h) x is all = keeper p among h x is all

pub owner : (p : Program) (among : Principal → Bool) (ends : Endings) (h : History) (x : Atom) → owned_among among ends h x ≡ true → AllWithin p h → Giver p among x
owner p among ends [] x is all = absurd (cc)
owner p among ends (acts.Grant q c ∷ h) x is all = elim (or_cases (among q && has c x) (owned_among among ends h x) is) [
  | inl here ↦ given_by p among x q c here all.0
  | inr before ↦ owner p among ends h x before all.1
]
owner p among ends (acts.Strip c ∷ h) x is all = owner p among ends h x (and_parts (not (has c x)) (owned_among among ends h x) is).1 all
owner p among ends (acts.Zero at size ∷ h) x is all = owner p among ends h x is all
owner p among ends (acts.Loan t ∷ h) x is all = owner p among (before_loan t ends) h x is all
owner p among ends (acts.Lend t q c ∷ h) x is all =
    elim (or_cases (goes_on (ends t) && (lends h t && (among q && has c x))) (owned_among among ends h x) is) [
      | inl here ↦ lent_by p among x q c (goes_on (ends t)) (lends h t) here all.0
      | inr before ↦ owner p among ends h x before all.1
    ]
owner p among ends (acts.Shut t n ∷ h) x is all = owner p among (before_shut t n ends) h x is all
owner p among ends (acts.ShutAll t ∷ h) x is all = owner p among (before_shut_all t ends) h x is all

-- capabilities with the same atom are of the same things

call_of : (p : Program) (c : Cap) (b : ℕ) (x : Thing) → has c (atom.Call b) ≡ true → IsOf p (cap.Call b) x → IsOf p c x
call_of p (cap.Write at size) b x is of = absurd (cc)
call_of p (cap.Call a) b x is of = subst (λ n. IsOf p (cap.Call n) x) (sym (eqb-true a b is)) of
call_of p (cap.Ref t a) b x is of = absurd (cc)

ref_of : (p : Program) (c : Cap) (t b : ℕ) (x : Thing) → has c (atom.Ref t b) ≡ true → IsOf p (cap.Ref t b) x → IsOf p c x
ref_of p (cap.Write at size) t b x is of = absurd (cc)
ref_of p (cap.Call a) t b x is of = absurd (cc)
ref_of p (cap.Ref u a) t b x is of = by x of where
  same : u ≡ t
  same = eqb-true u t (and_parts (nat_eq u t) (nat_eq a b) is).0

  by : (x : Thing) → IsOf p (cap.Ref t b) x → IsOf p (cap.Ref u a) x
  by x of = subst (λ n. IsOf p (cap.Ref n b) x) (sym same) of

-- principals that one reaches are of its module

pub same_text : (q r : Principal) (m : ℕ) → same_principal q r ≡ true → text_of_principal q ≡ Some m → text_of_principal r ≡ Some m
same_text Kernel r m is of = absurd (cc)
same_text (Shared n) Kernel m is of = absurd (cc)
same_text (Shared n) (Shared k) m is of = ap Some (sym (eqb-true n k is)) ∙ of
same_text (Shared n) (Global k) m is of = absurd (cc)
same_text (Shared n) (Inst k i) m is of = absurd (cc)
same_text (Global n) Kernel m is of = absurd (cc)
same_text (Global n) (Shared k) m is of = absurd (cc)
same_text (Global n) (Global k) m is of = ap Some (sym (eqb-true n k is)) ∙ of
same_text (Global n) (Inst k i) m is of = absurd (cc)
same_text (Inst n j) Kernel m is of = absurd (cc)
same_text (Inst n j) (Shared k) m is of = absurd (cc)
same_text (Inst n j) (Global k) m is of = absurd (cc)
same_text (Inst n j) (Inst k i) m is of = ap Some (sym (eqb-true n k (and_parts (nat_eq n k) (nat_eq j i) is).0)) ∙ of

pub of_text : (m : ℕ) (q : Principal) → is_of m q ≡ true → text_of_principal q ≡ Some m
of_text m Kernel is = absurd (cc)
of_text m (Shared n) is = ap Some (sym (eqb-true m n is))
of_text m (Global n) is = ap Some (sym (eqb-true m n is))
of_text m (Inst n k) is = ap Some (sym (eqb-true m n is))

reached_text : (q r : Principal) (m : ℕ) → reaches q r ≡ true → text_of_principal q ≡ Some m → text_of_principal r ≡ Some m
reached_text Kernel r m is of = absurd (cc)
reached_text (Shared n) r m is of = same_text (Shared n) r m is of
reached_text (Global n) r m is of = of_text n r is ∙ of
reached_text (Inst n k) r m is of = elim (or_cases (same_principal (Inst n k) r) (same_principal (Shared n) r) is) [
  | inl itself ↦ same_text (Inst n k) r m itself of
  | inr shared ↦ same_text (Shared n) r m shared of
]

-- what is owned, held and kept is within the bound

pub called_within : (p : Program) (among : Principal → Bool) (b m : ℕ) (x : Thing) → Giver p among (atom.Call b) → ((q : Principal) → among q ≡ true → text_of_principal q ≡ Some m) → IsOf p (cap.Call b) x
    → Can p m x
called_within p among b m x g in_it of = g.within m x (in_it g.who g.is_among) (call_of p g.cap b x g.has_it of)

pub referred_within : (p : Program) (among : Principal → Bool) (t b m : ℕ) (x : Thing) → Giver p among (atom.Ref t b) → ((q : Principal) → among q ≡ true → text_of_principal q ≡ Some m)
    → IsOf p (cap.Ref t b) x → Can p m x
referred_within p among t b m x g in_it of = g.within m x (in_it g.who g.is_among) (ref_of p g.cap t b x g.has_it of)

by_reach : (who : Principal) (m : ℕ) → text_of_principal who ≡ Some m → (q : Principal) → reaches who q ≡ true → text_of_principal q ≡ Some m
by_reach who m of q is = reached_text who q m is of

kept_call : (p : Program) (h : History) (who : Principal) (a m : ℕ) (x : Thing) → keeps_all h who (cap.Call a) ≡ true → AllWithin p h → text_of_principal who ≡ Some m → IsOf p (cap.Call a) x → Can p m x
kept_call p h Kernel a m x is all text of = absurd (cc)
kept_call p h (Shared n) a m x is all text of = called_within p _ a m x (keeper p (reaches (Shared n)) h _ is all) (by_reach (Shared n) m text) of
kept_call p h (Global n) a m x is all text of = called_within p _ a m x (keeper p (reaches (Global n)) h _ is all) (by_reach (Global n) m text) of
kept_call p h (Inst n k) a m x is all text of = called_within p _ a m x (keeper p (reaches (Inst n k)) h _ is all) (by_reach (Inst n k) m text) of

kept_ref : (p : Program) (h : History) (who : Principal) (t a m : ℕ) (x : Thing) → keeps_all h who (cap.Ref t a) ≡ true → AllWithin p h → text_of_principal who ≡ Some m → IsOf p (cap.Ref t a) x → Can p m x
kept_ref p h Kernel t a m x is all text of = absurd (cc)
kept_ref p h (Shared n) t a m x is all text of = referred_within p _ t a m x (keeper p (reaches (Shared n)) h _ is all) (by_reach (Shared n) m text) of
kept_ref p h (Global n) t a m x is all text of = referred_within p _ t a m x (keeper p (reaches (Global n)) h _ is all) (by_reach (Global n) m text) of
kept_ref p h (Inst n k) t a m x is all text of = referred_within p _ t a m x (keeper p (reaches (Inst n k)) h _ is all) (by_reach (Inst n k) m text) of

kept_within : (p : Program) (h : History) (who : Principal) (c : Cap) → keeps_all h who c ≡ true → AllWithin p h → IsWithin p who c
kept_within p h who (cap.Write at size) is all m x text of = absurd of
kept_within p h who (cap.Call a) is all m x text of = kept_call p h who a m x is all text of
kept_within p h who (cap.Ref t a) is all m x text of = kept_ref p h who t a m x is all text of

-- whoever holds a call can hold the function that stands there
pub held_call : (p : Program) (h : History) (who : Principal) (a m : ℕ) (x : Thing) → holds h who (cap.Call a) ≡ true → AllWithin p h → text_of_principal who ≡ Some m → IsOf p (cap.Call a) x → Can p m x
held_call p h Kernel a m x is all text of = absurd (cc)
held_call p h (Shared n) a m x is all text of = called_within p _ a m x (owner p (reaches (Shared n)) none_end h _ is all) (by_reach (Shared n) m text) of
held_call p h (Global n) a m x is all text of = called_within p _ a m x (owner p (reaches (Global n)) none_end h _ is all) (by_reach (Global n) m text) of
held_call p h (Inst n k) a m x is all text of = called_within p _ a m x (owner p (reaches (Inst n k)) none_end h _ is all) (by_reach (Inst n k) m text) of

-- grants, lends and strips

pub granted : (p : Program) (q : Principal) (c : Cap) (h : History) → IsWithin p q c → AllWithin p h → AllWithin p (with_grant q c h)
granted p Kernel c h is all = all
granted p (Shared m) c h is all = (is, all)
granted p (Global m) c h is all = (is, all)
granted p (Inst m k) c h is all = (is, all)

lent_one : (p : Program) (t : ℕ) (q : Principal) (c : Cap) (h : History) → IsWithin p q c → AllWithin p h → AllWithin p (with_lend t q c h)
lent_one p t Kernel c h is all = all
lent_one p t (Shared m) c h is all = (is, all)
lent_one p t (Global m) c h is all = (is, all)
lent_one p t (Inst m k) c h is all = (is, all)

-- what is not refused is kept

item_kept : (h : History) (transfers : Bool) (source : Principal) (c : Cap) → item_refusal h transfers true source c ≡ None → keeps_all h source c ≡ true
item_kept h transfers source c is =
    let behind_place = (neither (outside source c) _ is).1 in
    let behind_stack = (neither (on_stack transfers source c) _ behind_place).1 in
    let behind_hold = (neither (unless (holds h source c) (not_held source c)) _ behind_stack).1 in
    passed (keeps_all h source c) _ behind_hold

-- an action gives its destination what it may: the things that it names, where the source's module can hold them
abbrev pub MayGive : Program → Principal → Principal → (Thing → Bool) → Type 0
MayGive p source dest names =
    (m : ℕ) (x : Thing) → text_of_principal dest ≡ Some m → names x ≡ true → ((k : ℕ) → text_of_principal source ≡ Some k → Can p k x) → Can p m x

-- actions

-- what an action names of what it gives
list_gives : (p : Program) (a : Action) (list : CapSpec) (x : Thing) → list_given a ≡ Some list → list_names p list x ≡ true → gives p a x ≡ true
list_gives p (If e a) list x is named = list_gives p a list x is named
list_gives p a list x is named = cc

named_given : (p : Program) (a : Action) (list : CapSpec) (cs : List Cap) → list_given a ≡ Some list → Each (IsNamed p (list_names p list)) cs → AllByRecursion (IsNamed p (gives p a)) cs
named_given p a list [] is named = tt
named_given p a list (c ∷ cs) is named = ((λ x of. list_gives p a list x is (named.0 x of)), named_given p a list cs is named.1)

given_named : (p : Program) (a : Action) (list : CapSpec) (found : Found (List Cap)) → list_given a ≡ Some list → AreNamed p (list_names p list) found → AllNamed (IsNamed p (gives p a)) found
given_named p a list (Err at) is named = tt
given_named p a list (Ok cs) is named = named_given p a list cs is named

act_within : (p : Program) (s : State) (t : ℕ) (env : Env) (source dest : Principal) (a : Action) → MayGive p source dest (gives p a) → AllWithin p s.history
    → AllWithin p (history_or (act p.interface a env t source dest s.memory s.history) s.history)
act_within p s t env source dest a may all =
    act_keeps (AllWithin p) t source dest s.history (IsNamed p (gives p a)) keeps p.interface s.memory env a
    (λ list is. given_named p a list (caps_of p.interface (load64 s.memory) env list) is (caps_named p (load64 s.memory) env list)) all where
      within : (transfers : Bool) (c : Cap) → item_refusal s.history transfers true source c ≡ None → IsNamed p (gives p a) c → IsWithin p dest c
      within transfers c passes named m x text of =
          may m x text (named x of) (λ k source_text. kept_within p s.history source c (item_kept s.history transfers source c passes) all k x source_text of)

      keeps : Keeps (AllWithin p) t source dest s.history (IsNamed p (gives p a))
      keeps = record {
        grant = λ transfers c h passes named before. granted p dest c h (within transfers c passes named) before;
        strip = λ c h passes before. before;
        loan = λ h before. before;
        lend = λ c h passes named before. lent_one p t dest c h (within false c passes named) before;
        shut = λ k h before. before;
      }

-- an action that may give so leaves a history within the bound
pub action_within : (p : Program) (s : State) (t : ℕ) (env : Env) (source dest : Principal) (o : Option Action) → ((a : Action) → o ≡ Some a → MayGive p source dest (gives p a)) → AllWithin p s.history
    → AllWithin p (history_or (result_or_none p s t o env source dest) s.history)
action_within p s t env source dest None may all = all
action_within p s t env source dest (Some a) may all = act_within p s t env source dest a (may a refl) all
