-- Lemmas on the words of arguments, which stand beside parameters.
use Rattle.std.proofs.Common.{◌≡◌, ℕ, ◌+◌, ◌<◌, ◌≤◌, List, [], ◌∷◌, ◌++◌, length, get_or, drop, refl, ap, sym, ◌∙◌, append_assoc}
use Rattle.std.proofs.lemmas.List.{drop_all, append-nil}
use Rattle.lx_words.specs.Word.{Word}
use Rattle.lx_words.proofs.Lists.{rest_at}
use Rattle.lx_ir.specs.declared.module.Parameter.{Parameter}
use Rattle.lx_model.specs.declared.program.Program.{Program}
use Rattle.lx_script.specs.declared.case.CaseArg.{CaseArg}
use Rattle.lx_link.specs.Calls.{argument_word, argument_words}

goes_on : (old new : List Word) (w : Word) (rest next all : List Word) → old ++ rest ≡ all → rest ≡ w ∷ next → new ≡ old ++ w ∷ [] → new ++ next ≡ all
goes_on old new w rest next all h r n = ap (λ l. l ++ next) n ∙ append_assoc old (w ∷ []) next ∙ ap (λ l. old ++ l) (sym r) ∙ h

ends : (old rest all : List Word) → old ++ rest ≡ all → rest ≡ [] → old ≡ all
ends old rest all h r = sym (append-nil old) ∙ ap (λ l. old ++ l) (sym r) ∙ h

pub words_step : (p : Program) (xs : List Parameter) (args : List CaseArg) (i : ℕ) (x : Parameter) (a : CaseArg) (old new all : List Word) → i < length xs → i < length args → x ≡ get_or xs i x → a ≡ get_or args i a
    → old ++ argument_words p (drop i xs) (drop i args) ≡ all → new ≡ old ++ argument_word p x a ∷ [] → new ++ argument_words p (drop (i + 1) xs) (drop (i + 1) args) ≡ all
words_step p xs args i x a old new all h g d e k n =
    let q = rest_at xs i x h d in
    let r = rest_at args i a g e in
    goes_on old new (argument_word p x a) (argument_words p (drop i xs) (drop i args)) (argument_words p (drop (i + 1) xs) (drop (i + 1) args)) all k (λ j. argument_words p (q j) (r j)) n

pub words_end : (p : Program) (xs : List Parameter) (args : List CaseArg) (i : ℕ) (old all : List Word) → length xs ≤ i → old ++ argument_words p (drop i xs) (drop i args) ≡ all → old ≡ all
words_end p xs args i old all h k =
    ends old (argument_words p (drop i xs) (drop i args)) all k (ap (λ l. argument_words p l (drop i args)) (drop_all i xs h))

nothing : (p : Program) (xs : List Parameter) → argument_words p xs [] ≡ []
nothing p [] = refl
nothing p (x ∷ xs) = refl

pub words_out : (p : Program) (xs : List Parameter) (args : List CaseArg) (i : ℕ) (old all : List Word) → length args ≤ i → old ++ argument_words p (drop i xs) (drop i args) ≡ all → old ≡ all
words_out p xs args i old all h k =
    ends old (argument_words p (drop i xs) (drop i args)) all k (ap (argument_words p (drop i xs)) (drop_all i args h) ∙ nothing p (drop i xs))
