-- Loops that add something for each element of a list and its place.
use Rattle.std.proofs.Common.{◌≡◌, ℕ, suc, ◌+◌, ◌<◌, ◌≤◌, Bool, true, false, Option, Some, None, List, [], ◌∷◌, ◌++◌, length, get_or, map, take, drop, refl, ap, sym, ◌∙◌, add-one, append_assoc}
use Rattle.std.specs.Prelude.{filter_map, option_to_list}
use Rattle.std.specs.List.{cons_option}
use Rattle.std.proofs.lemmas.List.{drop_all, take_more}
use Rattle.std.proofs.lemmas.List.Elements.{filter_map-append}
use Rattle.lx_words.specs.Text.{decimal_text}
use Rattle.lx_words.proofs.Lists.{drop_next, some_left, goes_on, ends, map_append}
use Rattle.lx_ir.specs.declared.module.Symbol.{Symbol}
use Rattle.lx_ir.specs.declared.module.Symbol.TheVariants as symbol
use Rattle.lx_ir.specs.declared.module.Value.TheVariants as value
use Rattle.lx_ir.specs.declared.module.Parameter.{Parameter}
use Rattle.lx_ir.specs.declared.module.Function.{Function}
use Rattle.lx_ir.specs.declared.instr.Argument.{Argument}
use Rattle.lx_ir.specs.declared.instr.Callee.TheVariants as callee
use Rattle.lx_ir.specs.declared.instr.Instr.{Instr}
use Rattle.lx_ir.specs.declared.instr.Op.{Op}
use Rattle.lx_ir.specs.declared.instr.Op.TheVariants as op
use Rattle.lx_annot.specs.Action.{Action}
use Rattle.lx_annot.specs.declared.action.Annotation.{Annotation}
use Rattle.lx_annot.specs.declared.interface.Interface.{Interface}
use Rattle.lx_image_texts.specs.Marks.{is_wrapped}
use Rattle.lx_image_texts.specs.WrapperText.{wrapper_params, wrapper_args, pre_lines, post_lines, result_register, returned, wrapper_code, unlined, out_if, out_wrappers}
use Rattle.lx_wrap.specs.Exported.{exported, out_by}

-- parameters and arguments

pub params_step : (ps : List Parameter) (k : ℕ) (p : Parameter) (old new all : List Parameter) → k < length ps → p ≡ get_or ps k p
    → old ++ wrapper_params k (drop k ps) ≡ all → new ≡ old ++ record { name = decimal_text k; ty = p.ty } ∷ [] → new ++ wrapper_params (k + 1) (drop (k + 1) ps) ≡ all
params_step ps k p old new all h e was n =
    let one : Parameter = record { name = decimal_text k; ty = p.ty } in
    goes_on old new (one ∷ []) (wrapper_params k (drop k ps)) (wrapper_params (k + 1) (drop (k + 1) ps)) all was
    (ap (wrapper_params k) (drop_next ps k p h e) ∙ ap (λ j. one ∷ wrapper_params j (drop j ps)) (sym (add-one k))) n

pub params_end : (ps : List Parameter) (k : ℕ) (old all : List Parameter) → length ps ≤ k → old ++ wrapper_params k (drop k ps) ≡ all → old ≡ all
params_end ps k old all h was = ends old (wrapper_params k (drop k ps)) all was (ap (wrapper_params k) (drop_all k ps h))

pub args_step : (ps : List Parameter) (k : ℕ) (p : Parameter) (old new all : List Argument) → k < length ps → p ≡ get_or ps k p
    → old ++ wrapper_args k (drop k ps) ≡ all → new ≡ old ++ record { ty = p.ty; value = value.Register k } ∷ [] → new ++ wrapper_args (k + 1) (drop (k + 1) ps) ≡ all
args_step ps k p old new all h e was n =
    let one : Argument = record { ty = p.ty; value = value.Register k } in
    goes_on old new (one ∷ []) (wrapper_args k (drop k ps)) (wrapper_args (k + 1) (drop (k + 1) ps)) all was
    (ap (wrapper_args k) (drop_next ps k p h e) ∙ ap (λ j. one ∷ wrapper_args j (drop j ps)) (sym (add-one k))) n

pub args_end : (ps : List Parameter) (k : ℕ) (old all : List Argument) → length ps ≤ k → old ++ wrapper_args k (drop k ps) ≡ all → old ≡ all
args_end ps k old all h was = ends old (wrapper_args k (drop k ps)) all was (ap (wrapper_args k) (drop_all k ps h))

-- lines of actions

pub pre_step : (s : Symbol) (xs : List Action) (k : ℕ) (old new all : List Instr) → k < length xs
    → old ++ map unlined (pre_lines s k (drop k xs)) ≡ all → new ≡ old ++ unlined (op.Pre s k) ∷ [] → new ++ map unlined (pre_lines s (k + 1) (drop (k + 1) xs)) ≡ all
pre_step s xs k old new all h was n =
    goes_on old new (unlined (op.Pre s k) ∷ []) (map unlined (pre_lines s k (drop k xs))) (map unlined (pre_lines s (k + 1) (drop (k + 1) xs))) all was
    (ap (λ ys. map unlined (pre_lines s k ys)) ((some_left xs k h).1) ∙ ap (λ j. unlined (op.Pre s k) ∷ map unlined (pre_lines s j (drop j xs))) (sym (add-one k))) n

pub pre_end : (s : Symbol) (xs : List Action) (k : ℕ) (old all : List Instr) → length xs ≤ k → old ++ map unlined (pre_lines s k (drop k xs)) ≡ all → old ≡ all
pre_end s xs k old all h was = ends old (map unlined (pre_lines s k (drop k xs))) all was (ap (λ ys. map unlined (pre_lines s k ys)) (drop_all k xs h))

pub post_step : (s : Symbol) (xs : List Action) (k : ℕ) (old new all : List Instr) → k < length xs
    → old ++ map unlined (post_lines s k (drop k xs)) ≡ all → new ≡ old ++ unlined (op.Post s k) ∷ [] → new ++ map unlined (post_lines s (k + 1) (drop (k + 1) xs)) ≡ all
post_step s xs k old new all h was n =
    goes_on old new (unlined (op.Post s k) ∷ []) (map unlined (post_lines s k (drop k xs))) (map unlined (post_lines s (k + 1) (drop (k + 1) xs))) all was
    (ap (λ ys. map unlined (post_lines s k ys)) ((some_left xs k h).1) ∙ ap (λ j. unlined (op.Post s k) ∷ map unlined (post_lines s j (drop j xs))) (sym (add-one k))) n

pub post_end : (s : Symbol) (xs : List Action) (k : ℕ) (old all : List Instr) → length xs ≤ k → old ++ map unlined (post_lines s k (drop k xs)) ≡ all → old ≡ all
post_end s xs k old all h was = ends old (map unlined (post_lines s k (drop k xs))) all was (ap (λ ys. map unlined (post_lines s k ys)) (drop_all k xs h))

-- all lines

joined : {A : Type 0} (o a b c d e f : List A) → (((((o ++ a) ++ b) ++ c) ++ d) ++ e) ++ f ≡ o ++ (a ++ (b ++ (c ++ (d ++ (e ++ f)))))
joined o a b c d e f =
    append_assoc ((((o ++ a) ++ b) ++ c) ++ d) e f
    ∙ append_assoc (((o ++ a) ++ b) ++ c) d (e ++ f)
    ∙ append_assoc ((o ++ a) ++ b) c (d ++ (e ++ f))
    ∙ append_assoc (o ++ a) b (c ++ (d ++ (e ++ f)))
    ∙ append_assoc o a (b ++ (c ++ (d ++ (e ++ f))))

mapped : (ps qs rest : List Op) (o : Op) → map unlined (ps ++ (o ∷ (qs ++ rest))) ≡ map unlined ps ++ (unlined o ∷ (map unlined qs ++ map unlined rest))
mapped ps qs rest o = map_append unlined ps (o ∷ (qs ++ rest)) ∙ ap (λ ys. map unlined ps ++ (unlined o ∷ ys)) (map_append unlined qs rest)

pub whole_code : (f : Function) (n : ℕ) (a : Annotation) (pre post : List Action) (c0 c1 c2 c3 c4 c5 : List Instr) → pre ≡ a.pre → post ≡ a.post
    → c1 ≡ c0 ++ unlined (op.Enter (symbol.Function n)) ∷ []
    → c2 ≡ c1 ++ map unlined (pre_lines (symbol.Function n) 0 pre)
    → c3 ≡ c2 ++ unlined (op.Call (result_register (length f.params) f.ret) f.ret (callee.Symbol (symbol.Function n)) (wrapper_args 0 f.params)) ∷ []
    → c4 ≡ c3 ++ map unlined (post_lines (symbol.Function n) 0 post)
    → c5 ≡ (c4 ++ unlined (op.Leave (symbol.Function n)) ∷ []) ++ unlined (op.Ret (returned (length f.params) f.ret)) ∷ []
    → c5 ≡ c0 ++ map unlined (wrapper_code f n a)
whole_code f n a pre post c0 c1 c2 c3 c4 c5 p q e1 e2 e3 e4 e5 =
    let s : Symbol = symbol.Function n in
    let call : Op = op.Call (result_register (length f.params) f.ret) f.ret (callee.Symbol s) (wrapper_args 0 f.params) in
    let leave : Op = op.Leave s in
    let ret : Op = op.Ret (returned (length f.params) f.ret) in
    let front : List Instr = map unlined (pre_lines s 0 pre) in
    let back : List Instr = map unlined (post_lines s 0 post) in
    e5
    ∙ ap (λ c. (c ++ unlined leave ∷ []) ++ unlined ret ∷ []) (e4 ∙ ap (λ c. c ++ back) (e3 ∙ ap (λ c. c ++ unlined call ∷ []) (e2 ∙ ap (λ c. c ++ front) e1)))
    ∙ joined c0 (unlined (op.Enter s) ∷ []) front (unlined call ∷ []) back (unlined leave ∷ []) (unlined ret ∷ [])
    ∙ (λ j. c0 ++ (unlined (op.Enter s) ∷ (map unlined (pre_lines s 0 (p j)) ++ (unlined call ∷ (map unlined (post_lines s 0 (q j)) ++ (unlined leave ∷ unlined ret ∷ []))))))
    ∙ sym (ap (λ ys. c0 ++ (unlined (op.Enter s) ∷ ys)) (mapped (pre_lines s 0 a.pre) (post_lines s 0 a.post) (leave ∷ ret ∷ []) call))

-- wrappers of imports

out_is : (b : Bool) (i : Interface) (n : ℕ) (f : Function) → out_if b i n f ≡ out_by b (exported i f.name) n f
out_is true i n f = refl
out_is false i n f = refl

pub out_step : (i : Interface) (fs : List Function) (k : ℕ) (f : Function) (a : Option Annotation) (old new all : List Function) → k < length fs → f ≡ get_or fs k f → a ≡ exported i f.name
    → old ++ out_wrappers i k (drop k fs) ≡ all → new ≡ old ++ out_by (is_wrapped f) a k f → new ++ out_wrappers i (k + 1) (drop (k + 1) fs) ≡ all
out_step i fs k f a old new all h e is was n =
    goes_on old new (out_by (is_wrapped f) a k f) (out_wrappers i k (drop k fs)) (out_wrappers i (k + 1) (drop (k + 1) fs)) all was
    (ap (out_wrappers i k) (drop_next fs k f h e)
    ∙ ap (λ ys. ys ++ out_wrappers i (suc k) (drop (suc k) fs)) (out_is (is_wrapped f) i k f ∙ ap (λ x. out_by (is_wrapped f) x k f) (sym is))
    ∙ ap (λ j. out_by (is_wrapped f) a k f ++ out_wrappers i j (drop j fs)) (sym (add-one k))) n

pub out_end : (i : Interface) (fs : List Function) (k : ℕ) (old all : List Function) → length fs ≤ k → old ++ out_wrappers i k (drop k fs) ≡ all → old ≡ all
out_end i fs k old all h was = ends old (out_wrappers i k (drop k fs)) all was (ap (out_wrappers i k) (drop_all k fs h))

-- wrappers of functions that get slot types

cons_nil : {B : Type 0} (o : Option B) → cons_option o [] ≡ option_to_list o
cons_nil None = refl
cons_nil (Some b) = refl

-- a loop that appends what a function gives, where it gives something
pub filter_more : {A B : Type 0} (f : A → Option B) (xs : List A) (i : ℕ) (d : A) (before now new : List B) → i < length xs → now ≡ before ++ filter_map f (take i xs) → new ≡ now ++ option_to_list (f (get_or xs i d)) → new ≡ before ++ filter_map f (take (i + 1) xs)
filter_more f xs i d before now new h q r =
    let x = get_or xs i d in
    let t : filter_map f (take (i + 1) xs) ≡ filter_map f (take i xs) ++ option_to_list (f x) =
    ap (filter_map f) (take_more xs i d h) ∙ (filter_map-append f (take i xs) (x ∷ []) ∙ ap (λ zs. filter_map f (take i xs) ++ zs) (cons_nil (f x))) in
    r ∙ (ap (λ zs. zs ++ option_to_list (f x)) q ∙ (append_assoc before (filter_map f (take i xs)) (option_to_list (f x)) ∙ ap (λ zs. before ++ zs) (sym t)))
