-- Needs are met, but for the last of a request that is refused for it.
use Rattle.std.proofs.Common.{◌≡◌, ◌⊎◌, inl, inr, ⊎_elim, Bool, true, false, cond, not, ◌&&◌, ◌||◌, Option, Some, List, [], ◌∷◌, refl, sym, ap, subst, ◌∙◌, map, filter, take_while}
use Rattle.std.specs.Prelude.{if◌then◌else◌}
use Rattle.std.specs.List.{list_all}
use Rattle.std.proofs.lemmas.List.Sums.{take_while-cons}
use Rattle.std.proofs.lemmas.Bool.{and_from, cases_Bool}
use Rattle.lx_words.proofs.Tests.{first_of, second_of}
use Rattle.lx_caps.specs.declared.Principal.{Principal}
use Rattle.lx_caps.specs.declared.Principal.TheVariants.{Kernel, Shared, Global, Inst}
use Rattle.lx_caps.specs.declared.Cap.{Cap}
use Rattle.lx_caps.specs.declared.Cap.TheVariants as cap
use Rattle.lx_caps.specs.History.{History, holds, keeps_all}
use Rattle.lx_caps.specs.Regions.{mapped}
use Rattle.lx_model.specs.declared.request.Outcome.{Outcome}
use Rattle.lx_model.specs.declared.request.Outcome.TheVariants.{Refused}
use Rattle.lx_model.specs.declared.request.Refusal.{Refusal}
use Rattle.lx_model.specs.declared.request.Refusal.TheVariants as refusal
use Rattle.lx_model.specs.declared.request.What.{What}
use Rattle.lx_model.specs.Act.{or_else, unless, not_held, item_refusal, first_refusal}
use Rattle.lx_model.specs.Authority.{is_module}
use Rattle.lx_model.specs.State.{State}
use Rattle.lx_certificates.specs.declared.Need.{Need}
use Rattle.lx_certificates.specs.Needs.{is_met, up_to_unmet}
use Rattle.lx_run_laws.specs.Errands.{Errand, is_in_memory, is_on_stacks, is_placed, need_of_item, is_fine}
use Rattle.lx_run_laws.specs.Needs.{is_for_need, IsNamed, IsUnmet}
use Rattle.lx_run_laws.proofs.Decisions.{at_first, at_first_test, at_test, either, either_test, neither, not_both, same_refusal}
use Rattle.lx_run_laws.proofs.Items.{fine_none, item_is, none_fine, on_a_stack, out_of_memory}
use Rattle.lx_model.proofs.Passing.{passed_on}

pub not_false : {A : Type 0} (b : Bool) → b ≡ true → b ≡ false → A
not_false true h k = absurd (cc)
not_false false h k = absurd (cc)

pub who_is : (q : Principal) → (q ≡ Kernel) ⊎ (is_module q ≡ true)
who_is Kernel = inl refl
who_is (Shared m) = inr refl
who_is (Global m) = inr refl
who_is (Inst m k) = inr refl

-- what a decision says of needs
pub data Needing (s : State) (w : What) (d : Option Outcome) (ns : List Need) : Type 0 where
  AllMet : list_all (is_met s.history) ns ≡ true → ((x : Refusal) → d ≡ Some (Refused x) → is_for_need x ≡ false) → Needing s w d ns
  LastUnmet : (x : Refusal) → is_for_need x ≡ true → d ≡ Some (Refused x) → IsUnmet s w ns x → Needing s w d ns

-- one need more that is met
pub met_more : (s : State) (w : What) (d : Option Outcome) (n : Need) (ns : List Need) → is_met s.history n ≡ true → Needing s w d ns → Needing s w d (n ∷ ns)
met_more s w d n ns met (AllMet all none) = AllMet (and_from (is_met s.history n) (list_all (is_met s.history) ns) met all) none
met_more s w d n ns met (LastUnmet x for is unmet) =
    LastUnmet x for is (record {
      before = n ∷ unmet.before;
      last = unmet.last;
      place = ap (λ (more : List Need). n ∷ more) unmet.place;
      met = and_from (is_met s.history n) (list_all (is_met s.history) unmet.before) met unmet.met;
      named = unmet.named;
    })

pub only_last : (s : State) (w : What) (n : Need) (x : Refusal) → IsNamed s w n x → IsUnmet s w (n ∷ []) x
only_last s w n x named = record { before = []; last = n; place = refl; met = refl; named = named }

-- the needs of modules among these, up to the first that is not met
abbrev pub asked : History → List Need → List Need
asked h ns = up_to_unmet h (filter (λ n. is_module n.who) ns)

pub asked_met : (h : History) (n : Need) (ns : List Need) → is_module n.who ≡ true → is_met h n ≡ true → asked h (n ∷ ns) ≡ n ∷ asked h ns
asked_met h n ns of_module met =
    ap (λ (b : Bool). up_to_unmet h (cond b (n ∷ filter (λ m. is_module m.who) ns) (filter (λ m. is_module m.who) ns))) of_module
    ∙ ap (λ (b : Bool). n ∷ (if b then asked h ns else [])) met

pub asked_unmet : (h : History) (n : Need) (ns : List Need) → is_module n.who ≡ true → is_met h n ≡ false → asked h (n ∷ ns) ≡ n ∷ []
asked_unmet h n ns of_module unmet =
    ap (λ (b : Bool). up_to_unmet h (cond b (n ∷ filter (λ m. is_module m.who) ns) (filter (λ m. is_module m.who) ns))) of_module
    ∙ ap (λ (b : Bool). n ∷ (if b then asked h ns else [])) unmet

pub asked_kernel : (h : History) (n : Need) (ns : List Need) → n.who ≡ Kernel → asked h (n ∷ ns) ≡ asked h ns
asked_kernel h n ns kernel =
    ap (λ (q : Principal). up_to_unmet h (cond (is_module q) (n ∷ filter (λ m. is_module m.who) ns) (filter (λ m. is_module m.who) ns))) kernel

-- items

-- a placed item that is not met is refused for it
record UnmetItem (s : State) (w : What) (e : Errand) (c : Cap) : Type 0 where
  pub x : Refusal
  pub for : is_for_need x ≡ true
  pub is : item_refusal s.history e.transfers e.gives e.source c ≡ Some (Refused x)
  pub named : IsNamed s w (need_of_item e c) x

module _ (s : State) (w : What) (e : Errand) where
  lack_unmet : (c : Cap) → holds s.history e.source c ≡ false → item_refusal s.history e.transfers e.gives e.source c ≡ Some (not_held e.source c) → UnmetItem s w e c
  lack_unmet (cap.Write at size) lack is = record { x = refusal.Write e.source at size; for = refl; is = is; named = ((refl, refl), lack) }
  lack_unmet (cap.Call a) lack is = record { x = refusal.Call e.source a; for = refl; is = is; named = ((refl, refl), lack) }
  lack_unmet (cap.Ref ty a) lack is = record { x = refusal.Ref e.source ty a; for = refl; is = is; named = ((refl, refl), lack) }

  loan_unmet : (c : Cap) → holds s.history e.source c ≡ true → (not e.gives || keeps_all s.history e.source c) ≡ false
      → item_refusal s.history e.transfers e.gives e.source c ≡ Some (Refused (refusal.Borrowed e.source c)) → UnmetItem s w e c
  loan_unmet c held loan is =
      let fails = neither e.gives (keeps_all s.history e.source c) loan in
      record { x = refusal.Borrowed e.source c; for = refl; is = is; named = ((refl, refl), fails.0, held, fails.1) }

  behind_places : (c : Cap) (o : Outcome) → is_placed e c ≡ true
      → or_else (unless (holds s.history e.source c) (not_held e.source c)) (unless (not e.gives || keeps_all s.history e.source c) (Refused (refusal.Borrowed e.source c))) ≡ Some o
      → item_refusal s.history e.transfers e.gives e.source c ≡ Some o
  behind_places c o placed is =
      item_is s.history e c
      ∙ passed_on (is_in_memory c) (out_of_memory e.source c) o _ (first_of (is_in_memory c) (not (e.transfers && is_on_stacks c)) placed)
      (passed_on (not (e.transfers && is_on_stacks c)) (on_a_stack e.source c) o _ (second_of (is_in_memory c) (not (e.transfers && is_on_stacks c)) placed) is)

  fails_of : (a b : Bool) → (a && b) ≡ false → (a ≡ false) ⊎ ((a ≡ true) × (b ≡ false))
  fails_of true b is = inr (refl, is)
  fails_of false b is = inl refl

  unmet_item : (c : Cap) → is_placed e c ≡ true → is_met s.history (need_of_item e c) ≡ false → UnmetItem s w e c
  unmet_item c placed unmet =
      ⊎_elim
      (λ lack. lack_unmet c lack (behind_places c _ placed (at_first_test (holds s.history e.source c) (not_held e.source c) _ lack)))
      (λ loan. loan_unmet c loan.0 loan.1 (behind_places c _ placed
      (passed_on (holds s.history e.source c) (not_held e.source c) _ _ loan.0 (at_test (not e.gives || keeps_all s.history e.source c) (Refused (refusal.Borrowed e.source c)) loan.1))))
      (fails_of (holds s.history e.source c) (not e.gives || keeps_all s.history e.source c) unmet)

  -- an item that lies where it may not is refused for that

  out_for_none : (c : Cap) (x : Refusal) → is_in_memory c ≡ false → out_of_memory e.source c ≡ Refused x → is_for_need x ≡ false
  out_for_none (cap.Write at size) x out is = sym (ap is_for_need (same_refusal _ x is))
  out_for_none (cap.Call a) x out is = absurd (cc)
  out_for_none (cap.Ref ty a) x out is = absurd (cc)

  stack_for_none : (c : Cap) (x : Refusal) → is_on_stacks c ≡ true → on_a_stack e.source c ≡ Refused x → is_for_need x ≡ false
  stack_for_none (cap.Write at size) x on is = sym (ap is_for_need (same_refusal _ x is))
  stack_for_none (cap.Call a) x on is = absurd (cc)
  stack_for_none (cap.Ref ty a) x on is = absurd (cc)

  misplaced : (c : Cap) (x : Refusal) → is_placed e c ≡ false → item_refusal s.history e.transfers e.gives e.source c ≡ Some (Refused x) → is_for_need x ≡ false
  misplaced c x out is =
      ⊎_elim
      (λ fails. out_for_none c x fails.0 fails.1)
      (λ behind. ⊎_elim
      (λ fails. stack_for_none c x (not_both e.transfers (is_on_stacks c) fails.0).1 fails.1)
      (λ rest. not_false (is_placed e c) (and_from (is_in_memory c) (not (e.transfers && is_on_stacks c)) behind.0 rest.0) out)
      (either_test (not (e.transfers && is_on_stacks c)) (on_a_stack e.source c) (Refused x) _ behind.1))
      (either_test (is_in_memory c) (out_of_memory e.source c) (Refused x) _ (sym (item_is s.history e c) ∙ is))

  -- the kernel meets each need of an item that lies in memory
  kernel_meets : (c : Cap) (gives : Bool) → is_in_memory c ≡ true → is_met s.history (record { who = Kernel; cap = c; kept = gives }) ≡ true
  kernel_meets (cap.Write at size) true in_memory = and_from (mapped at size) (mapped at size) in_memory in_memory
  kernel_meets (cap.Write at size) false in_memory = and_from (mapped at size) true in_memory refl
  kernel_meets (cap.Call a) true in_memory = refl
  kernel_meets (cap.Call a) false in_memory = refl
  kernel_meets (cap.Ref ty a) true in_memory = refl
  kernel_meets (cap.Ref ty a) false in_memory = refl

  abbrev pub needed : List Cap → List Need
  needed items = map (need_of_item e) (take_while (is_placed e) items)

  needed_placed : (c : Cap) (cs : List Cap) → is_placed e c ≡ true → needed (c ∷ cs) ≡ need_of_item e c ∷ needed cs
  needed_placed c cs placed =
      ap (map (need_of_item e)) (take_while-cons (is_placed e) c cs) ∙ ap (λ (b : Bool). map (need_of_item e) (cond b (c ∷ take_while (is_placed e) cs) [])) placed

  needed_misplaced : (c : Cap) (cs : List Cap) → is_placed e c ≡ false → needed (c ∷ cs) ≡ []
  needed_misplaced c cs out =
      ap (map (need_of_item e)) (take_while-cons (is_placed e) c cs) ∙ ap (λ (b : Bool). map (need_of_item e) (cond b (c ∷ take_while (is_placed e) cs) [])) out

  abbrev pub refusal_of : List Cap → Option Outcome
  refusal_of items = first_refusal s.history e.transfers e.gives e.source items

  abbrev pub ItemsNeed : List Cap → Type 0
  ItemsNeed items = Needing s w (refusal_of items) (asked s.history (needed items))

  out_step : (c : Cap) (cs : List Cap) → is_placed e c ≡ false → ItemsNeed (c ∷ cs)
  out_step c cs out =
      subst (λ (ns : List Need). Needing s w (refusal_of (c ∷ cs)) (asked s.history ns)) (sym (needed_misplaced c cs out))
      (AllMet refl (λ x is. ⊎_elim
      (λ here. misplaced c x out here)
      (λ behind. not_false (is_placed e c) (first_of (is_placed e c) (is_met s.history (need_of_item e c)) (none_fine s.history e c behind.0)) out)
      (either (item_refusal s.history e.transfers e.gives e.source c) (refusal_of cs) (Refused x) is)))

  -- the decision behind an item that is fine
  refusal_behind : (c : Cap) (cs : List Cap) → is_fine s.history e c ≡ true → refusal_of (c ∷ cs) ≡ refusal_of cs
  refusal_behind c cs fine = ap (λ (o : Option Outcome). or_else o (refusal_of cs)) (fine_none s.history e c fine)

  met_step : (c : Cap) (cs : List Cap) → is_placed e c ≡ true → is_module e.source ≡ true → is_met s.history (need_of_item e c) ≡ true → ItemsNeed cs → ItemsNeed (c ∷ cs)
  met_step c cs placed of_module met rest =
      subst (λ (d : Option Outcome). Needing s w d (asked s.history (needed (c ∷ cs)))) (sym (refusal_behind c cs (and_from (is_placed e c) _ placed met)))
      (subst (λ (ns : List Need). Needing s w (refusal_of cs) ns)
      (sym (ap (asked s.history) (needed_placed c cs placed) ∙ asked_met s.history (need_of_item e c) (needed cs) of_module met))
      (met_more s w (refusal_of cs) (need_of_item e c) (asked s.history (needed cs)) met rest))

  unmet_step : (c : Cap) (cs : List Cap) → is_placed e c ≡ true → is_module e.source ≡ true → is_met s.history (need_of_item e c) ≡ false → ItemsNeed (c ∷ cs)
  unmet_step c cs placed of_module unmet =
      let item = unmet_item c placed unmet in
      subst (λ (ns : List Need). Needing s w (refusal_of (c ∷ cs)) ns)
      (sym (ap (asked s.history) (needed_placed c cs placed) ∙ asked_unmet s.history (need_of_item e c) (needed cs) of_module unmet))
      (LastUnmet item.x item.for (at_first _ (refusal_of cs) _ item.is) (only_last s w (need_of_item e c) item.x item.named))

  kernel_step : (c : Cap) (cs : List Cap) → is_placed e c ≡ true → e.source ≡ Kernel → ItemsNeed cs → ItemsNeed (c ∷ cs)
  kernel_step c cs placed kernel rest =
      let in_memory = first_of (is_in_memory c) (not (e.transfers && is_on_stacks c)) placed in
      let met = subst (λ (q : Principal). is_met s.history (record { who = q; cap = c; kept = e.gives }) ≡ true) (sym kernel) (kernel_meets c e.gives in_memory) in
      subst (λ (d : Option Outcome). Needing s w d (asked s.history (needed (c ∷ cs)))) (sym (refusal_behind c cs (and_from (is_placed e c) _ placed met)))
      (subst (λ (ns : List Need). Needing s w (refusal_of cs) ns)
      (sym (ap (asked s.history) (needed_placed c cs placed) ∙ asked_kernel s.history (need_of_item e c) (needed cs) kernel)) rest)

  pub items_need : (items : List Cap) → ItemsNeed items
  items_need [] = AllMet refl (λ x is. absurd (cc))
  items_need (c ∷ cs) =
      ⊎_elim
      (λ placed. ⊎_elim
      (λ kernel. kernel_step c cs placed kernel (items_need cs))
      (λ of_module. ⊎_elim
      (λ met. met_step c cs placed of_module met (items_need cs))
      (λ unmet. unmet_step c cs placed of_module unmet)
      (cases_Bool (is_met s.history (need_of_item e c))))
      (who_is e.source))
      (λ out. out_step c cs out)
      (cases_Bool (is_placed e c))
