-- Functions, one by one.
use Rattle.std.proofs.Common.{◌≡◌, ℕ, suc, ◌+◌, ◌<◌, ◌≤◌, Option, None, List, ◌++◌, length, get_or, drop, sym, ap, subst, ◌∙◌, add-one, append_assoc, append-nil}
use Rattle.std.specs.Prelude.{option_to_list}
use Rattle.std.specs.Option.{option_or}
use Rattle.std.proofs.lemmas.List.{drop_all}
use Rattle.lx_words.proofs.Options.{or_some}
use Rattle.lx_words.proofs.Lists.{rest_at}
use Rattle.lx_ir.specs.declared.module.Function.{Function}
use Rattle.lx_annot.specs.declared.interface.Interface.{Interface}
use Rattle.lx_slot_types.specs.declared.Marked.{Marked}
use Rattle.lx_slot_sums.specs.declared.sums.SlotSum.{SlotSum}
use Rattle.lx_propagate.specs.declared.fault.PropagateFault.{PropagateFault}
use Rattle.lx_propagate.specs.declared.fault.PropagateFault.TheVariants as fault
use Rattle.lx_propagate.specs.Slots.{Conflict}
use Rattle.lx_propagate.specs.Decide.{conflict_in, first_conflict, mark_in, marked_in}
use Rattle.lx_propagate.specs.Answers.{IsAnswer, IsAnswerOr}

pub conflict_step : (i : Interface) (sums : ℕ → SlotSum) (fs : List Function) (k : ℕ) (f : Function) → k < length fs → f ≡ get_or fs k f → first_conflict i sums k (drop k fs) ≡ option_or (conflict_in i f (sums k)) (first_conflict i sums (k + 1) (drop (k + 1) fs))
conflict_step i sums fs k f h e =
    ap (first_conflict i sums k) (rest_at fs k f h e) ∙ ap (λ j. option_or (conflict_in i f (sums k)) (first_conflict i sums j (drop (k + 1) fs))) (sym (add-one k))

pub conflict_end : (i : Interface) (sums : ℕ → SlotSum) (fs : List Function) (k : ℕ) → length fs ≤ k → first_conflict i sums k (drop k fs) ≡ None
conflict_end i sums fs k h = ap (first_conflict i sums k) (drop_all k fs h)

-- a conflict that comes first is the answer
pub first_answer : (w : Type 0) (x rest y : Option Conflict) (e : PropagateFault) → y ≡ option_or x rest → IsAnswerOr w x e → IsAnswerOr w y e
first_answer w x rest y (fault.Conflict line function first second) p h = or_some x rest y _ p h
first_answer w x rest y fault.Memory p h = h

-- what is answered, whatever the reason of want of memory would be
pub is_answer : (w : Type 0) (x : Option Conflict) (e : PropagateFault) → IsAnswerOr ⊥ x e → IsAnswerOr w x e
is_answer w x (fault.Conflict line function first second) h = h
is_answer w x fault.Memory h = absurd h

pub any_want : (w : Type 0) (x : Option Conflict) (e : PropagateFault) → IsAnswerOr w x e → IsAnswer x e
any_want w x (fault.Conflict line function first second) h = h
any_want w x fault.Memory h = tt

pub wanted : (w : Type 0) (x : Option Conflict) (e : PropagateFault) → e ≡ fault.Memory → w → IsAnswerOr w x e
wanted w x e is h = subst (IsAnswerOr w x) (sym is) h

pub marked_more : (sums : ℕ → SlotSum) (fs : List Function) (k : ℕ) (f : Function) (before now new : List Marked) → k < length fs → f ≡ get_or fs k f → before ≡ now ++ marked_in sums k (drop k fs) → new ≡ now ++ option_to_list (mark_in k f (sums k)) → before ≡ new ++ marked_in sums (k + 1) (drop (k + 1) fs)
marked_more sums fs k f before now new h e p q =
    let one = option_to_list (mark_in k f (sums k)) in
    p
    ∙ (ap (λ r. now ++ marked_in sums k r) (rest_at fs k f h e)
    ∙ (sym (append_assoc now one (marked_in sums (suc k) (drop (k + 1) fs)))
    ∙ (ap (λ xs. xs ++ marked_in sums (suc k) (drop (k + 1) fs)) (sym q) ∙ ap (λ j. new ++ marked_in sums j (drop (k + 1) fs)) (sym (add-one k)))))

pub marked_done : (sums : ℕ → SlotSum) (fs : List Function) (k : ℕ) (before now : List Marked) → length fs ≤ k → before ≡ now ++ marked_in sums k (drop k fs) → now ≡ before
marked_done sums fs k before now h p =
    sym (append-nil now) ∙ (ap (λ xs. now ++ xs) (sym (ap (marked_in sums k) (drop_all k fs h))) ∙ sym p)
