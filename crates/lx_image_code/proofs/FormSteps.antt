-- The form of wrappers, line by line.
use Rattle.std.proofs.Common.{◌≡◌, ◌∙◌, refl, sym, ap, ℕ, suc, ◌+◌, ◌<◌, ◌≤◌, Bool, true, false, not, ◌&&◌, ◌||◌, Option, Some, None, List, [], ◌∷◌, drop, length, get_or, arith}
use Rattle.std.specs.Prelude.{option_and_then, option_map, find, position, slice_get}
use Rattle.std.specs.List.{list_all, list_any}
use Rattle.std.proofs.Math.Seq.{drop-cons}
use Rattle.std.proofs.lemmas.List.{drop_all}
use Rattle.lx_words.proofs.Tests.{no_other}
use Rattle.lx_words.proofs.Options.{map_none}
use Rattle.lx_words.proofs.Lists.{drop_next, there_is, found_is}
use Rattle.lx_ir.specs.declared.module.Module.{Module}
use Rattle.lx_ir.specs.declared.module.Symbol.{Symbol}
use Rattle.lx_ir.specs.declared.instr.Argument.{Argument}
use Rattle.lx_ir.specs.declared.instr.Callee.{Callee}
use Rattle.lx_ir.specs.declared.instr.Instr.{Instr}
use Rattle.lx_ir.specs.declared.instr.Op.{Op}
use Rattle.lx_ir.specs.declared.instr.Op.TheVariants as op
use Rattle.lx_ir.specs.declared.types.Scalar.{Scalar}
use Rattle.lx_name_tables.proofs.Firsts.{found_at, is_within, not_there}
use Rattle.lx_images.specs.WrapperForm.{calls_on, first_unformed, hands_on, has_formed_wrappers, have_formed_wrappers, is_before, is_behind, is_formed, is_function, is_register, is_wrapper, unformed_in}
use Rattle.lx_image_code.specs.Form.{is_ret, ops_of}

never : (b : Bool) → false ≡ (b && false)
never true = refl
never false = refl

-- arguments

pub hands_more : (xs : List Argument) (k : ℕ) (d : Argument) (all : Bool) → k < length xs → is_register k (get_or xs k d).value ≡ true → hands_on k (drop k xs) ≡ all
    → hands_on (k + 1) (drop (k + 1) xs) ≡ all
hands_more xs k d all h is was =
    let step : hands_on k (drop k xs) ≡ (is_register k (get_or xs k d).value && hands_on (suc k) (drop (suc k) xs)) = ap (hands_on k) (drop-cons xs k d h) in
    let next : suc k ≡ k + 1 = omega arith in
    sym (ap (λ n. hands_on n (drop n xs)) next) ∙ (sym (ap (λ b. b && hands_on (suc k) (drop (suc k) xs)) is) ∙ (sym step ∙ was))

pub hands_stop : (xs : List Argument) (k : ℕ) (d : Argument) (all : Bool) → k < length xs → is_register k (get_or xs k d).value ≡ false → hands_on k (drop k xs) ≡ all → false ≡ all
hands_stop xs k d all h is was =
    sym (ap (hands_on k) (drop-cons xs k d h) ∙ ap (λ b. b && hands_on (suc k) (drop (suc k) xs)) is) ∙ was

pub hands_end : (xs : List Argument) (k : ℕ) (all : Bool) → length xs ≤ k → hands_on k (drop k xs) ≡ all → true ≡ all
hands_end xs k all h was = sym (ap (hands_on k) (drop_all k xs h)) ∙ was

-- what is left of lines

ops_left : (xs : List Instr) (k : ℕ) (x : Instr) (o : Op) → k < length xs → x ≡ get_or xs k x → x.op ≡ o → ops_of (drop k xs) ≡ o ∷ ops_of (drop (suc k) xs)
ops_left xs k x o h e is = ap ops_of (drop_next xs k x h e) ∙ ap (λ p. p ∷ ops_of (drop (suc k) xs)) is

next_ops : (xs : List Instr) (k : ℕ) → ops_of (drop (suc k) xs) ≡ ops_of (drop (k + 1) xs)
next_ops xs k = let next : suc k ≡ k + 1 = omega arith in ap (λ n. ops_of (drop n xs)) next

-- behind the call

pub leave_is : (j : ℕ) (to : Option ℕ) (s : Symbol) (rest : List Op) → is_behind j to (op.Leave s ∷ rest) ≡ (is_function j s && is_ret to rest)
leave_is j to s [] = never (is_function j s)
leave_is j to s (op.Ret v ∷ []) = refl
leave_is j to s (op.Ret v ∷ (o ∷ rest)) = never (is_function j s)
leave_is j to s (op.Binary x0 x1 x2 x3 x4 ∷ rest) = never (is_function j s)
leave_is j to s (op.Compare x0 x1 x2 x3 x4 ∷ rest) = never (is_function j s)
leave_is j to s (op.Convert x0 x1 x2 x3 x4 ∷ rest) = never (is_function j s)
leave_is j to s (op.Unary x0 x1 x2 x3 ∷ rest) = never (is_function j s)
leave_is j to s (op.Select x0 x1 x2 x3 x4 ∷ rest) = never (is_function j s)
leave_is j to s (op.Phi x0 x1 x2 ∷ rest) = never (is_function j s)
leave_is j to s (op.Alloca x0 x1 ∷ rest) = never (is_function j s)
leave_is j to s (op.Load x0 x1 x2 ∷ rest) = never (is_function j s)
leave_is j to s (op.Store x0 x1 x2 ∷ rest) = never (is_function j s)
leave_is j to s (op.GetElementPtr x0 x1 x2 x3 ∷ rest) = never (is_function j s)
leave_is j to s (op.Call x0 x1 x2 x3 ∷ rest) = never (is_function j s)
leave_is j to s (op.CopyBlock x0 x1 x2 x3 ∷ rest) = never (is_function j s)
leave_is j to s (op.FillBlock x0 x1 x2 ∷ rest) = never (is_function j s)
leave_is j to s (op.Jump x0 ∷ rest) = never (is_function j s)
leave_is j to s (op.Branch x0 x1 x2 ∷ rest) = never (is_function j s)
leave_is j to s (op.Switch x0 x1 x2 x3 ∷ rest) = never (is_function j s)
leave_is j to s (op.Unreachable ∷ rest) = never (is_function j s)
leave_is j to s (op.Guard x0 x1 x2 ∷ rest) = never (is_function j s)
leave_is j to s (op.Check x0 ∷ rest) = never (is_function j s)
leave_is j to s (op.Enter x0 ∷ rest) = never (is_function j s)
leave_is j to s (op.Pre x0 x1 ∷ rest) = never (is_function j s)
leave_is j to s (op.Post x0 x1 ∷ rest) = never (is_function j s)
leave_is j to s (op.Leave x0 ∷ rest) = never (is_function j s)

pub behind_more : (xs : List Instr) (k : ℕ) (x : Instr) (j : ℕ) (to : Option ℕ) (s : Symbol) (n : ℕ) (all : Bool) → k < length xs → x ≡ get_or xs k x → x.op ≡ op.Post s n
    → is_function j s ≡ true → is_behind j to (ops_of (drop k xs)) ≡ all → is_behind j to (ops_of (drop (k + 1) xs)) ≡ all
behind_more xs k x j to s n all h e is same was =
    sym (ap (is_behind j to) (ops_left xs k x (op.Post s n) h e is) ∙ ap (λ b. b && is_behind j to (ops_of (drop (suc k) xs))) same ∙ ap (is_behind j to) (next_ops xs k)) ∙ was

pub behind_stop : (xs : List Instr) (k : ℕ) (x : Instr) (j : ℕ) (to : Option ℕ) (s : Symbol) (n : ℕ) (all : Bool) → k < length xs → x ≡ get_or xs k x → x.op ≡ op.Post s n
    → is_function j s ≡ false → is_behind j to (ops_of (drop k xs)) ≡ all → false ≡ all
behind_stop xs k x j to s n all h e is other was =
    sym (ap (is_behind j to) (ops_left xs k x (op.Post s n) h e is) ∙ ap (λ b. b && is_behind j to (ops_of (drop (suc k) xs))) other) ∙ was

-- at the line that leaves
pub behind_leave : (xs : List Instr) (k : ℕ) (x : Instr) (j : ℕ) (to : Option ℕ) (s : Symbol) (all : Bool) → k < length xs → x ≡ get_or xs k x → x.op ≡ op.Leave s
    → is_behind j to (ops_of (drop k xs)) ≡ all → (is_function j s && is_ret to (ops_of (drop (k + 1) xs))) ≡ all
behind_leave xs k x j to s all h e is was =
    sym (ap (is_behind j to) (ops_left xs k x (op.Leave s) h e is) ∙ leave_is j to s (ops_of (drop (suc k) xs)) ∙ ap (λ ys. is_function j s && is_ret to ys) (next_ops xs k)) ∙ was

pub behind_other : (xs : List Instr) (k : ℕ) (x : Instr) (j : ℕ) (to : Option ℕ) (all : Bool) → k < length xs → x ≡ get_or xs k x
    → ((rest : List Op) → is_behind j to (x.op ∷ rest) ≡ false) → is_behind j to (ops_of (drop k xs)) ≡ all → false ≡ all
behind_other xs k x j to all h e fails was = sym (ap (is_behind j to) (ops_left xs k x x.op h e refl) ∙ fails (ops_of (drop (suc k) xs))) ∙ was

pub behind_end : (xs : List Instr) (k : ℕ) (j : ℕ) (to : Option ℕ) (all : Bool) → length xs ≤ k → is_behind j to (ops_of (drop k xs)) ≡ all → false ≡ all
behind_end xs k j to all h was = sym (ap (λ ys. is_behind j to (ops_of ys)) (drop_all k xs h)) ∙ was

-- before the call

pub before_more : (xs : List Instr) (k : ℕ) (x : Instr) (j many : ℕ) (s : Symbol) (n : ℕ) (all : Bool) → k < length xs → x ≡ get_or xs k x → x.op ≡ op.Pre s n
    → is_function j s ≡ true → is_before j many (ops_of (drop k xs)) ≡ all → is_before j many (ops_of (drop (k + 1) xs)) ≡ all
before_more xs k x j many s n all h e is same was =
    sym (ap (is_before j many) (ops_left xs k x (op.Pre s n) h e is) ∙ ap (λ b. b && is_before j many (ops_of (drop (suc k) xs))) same ∙ ap (is_before j many) (next_ops xs k)) ∙ was

pub before_stop : (xs : List Instr) (k : ℕ) (x : Instr) (j many : ℕ) (s : Symbol) (n : ℕ) (all : Bool) → k < length xs → x ≡ get_or xs k x → x.op ≡ op.Pre s n
    → is_function j s ≡ false → is_before j many (ops_of (drop k xs)) ≡ all → false ≡ all
before_stop xs k x j many s n all h e is other was =
    sym (ap (is_before j many) (ops_left xs k x (op.Pre s n) h e is) ∙ ap (λ b. b && is_before j many (ops_of (drop (suc k) xs))) other) ∙ was

-- at the call
pub before_call : (xs : List Instr) (k : ℕ) (x : Instr) (j many : ℕ) (to : Option ℕ) (ret : Option Scalar) (f : Callee) (args : List Argument) (all : Bool) → k < length xs → x ≡ get_or xs k x
    → x.op ≡ op.Call to ret f args → is_before j many (ops_of (drop k xs)) ≡ all → (calls_on j many f args && is_behind j to (ops_of (drop (k + 1) xs))) ≡ all
before_call xs k x j many to ret f args all h e is was =
    sym (ap (is_before j many) (ops_left xs k x (op.Call to ret f args) h e is) ∙ ap (λ ys. calls_on j many f args && is_behind j to ys) (next_ops xs k)) ∙ was

pub before_other : (xs : List Instr) (k : ℕ) (x : Instr) (j many : ℕ) (all : Bool) → k < length xs → x ≡ get_or xs k x
    → ((rest : List Op) → is_before j many (x.op ∷ rest) ≡ false) → is_before j many (ops_of (drop k xs)) ≡ all → false ≡ all
before_other xs k x j many all h e fails was = sym (ap (is_before j many) (ops_left xs k x x.op h e refl) ∙ fails (ops_of (drop (suc k) xs))) ∙ was

pub before_end : (xs : List Instr) (k : ℕ) (j many : ℕ) (all : Bool) → length xs ≤ k → is_before j many (ops_of (drop k xs)) ≡ all → false ≡ all
before_end xs k j many all h was = sym (ap (λ ys. is_before j many (ops_of ys)) (drop_all k xs h)) ∙ was

-- the first line
pub wrapper_first : (xs : List Instr) (x : Instr) (s : Symbol) (j many : ℕ) → 0 < length xs → x ≡ get_or xs 0 x → x.op ≡ op.Enter s
    → (is_function j s && is_before j many (ops_of (drop 1 xs))) ≡ is_wrapper j many (ops_of xs)
wrapper_first xs x s j many h e is = sym (ap (is_wrapper j many) (ops_left xs 0 x (op.Enter s) h e is))

-- the first of images

none_failed : (b any all : Bool) → (any ≡ false → all ≡ true) → (not b || any) ≡ false → (b && all) ≡ true
none_failed true any all rest e = rest e
none_failed false any all rest e = absurd (cc)

fails_by : {A : Type 0} (t : A → Bool) (xs : List A) → list_any (λ x. not (t x)) xs ≡ false → list_all t xs ≡ true
fails_by t [] e = refl
fails_by t (y ∷ ys) e = none_failed (t y) (list_any (λ x. not (t x)) ys) (list_all t ys) (fails_by t ys) e

none_fails : {A : Type 0} (t : A → Bool) (xs : List A) → position (λ x. not (t x)) xs ≡ None → list_all t xs ≡ true
none_fails t xs none = fails_by t xs (sym (not_there (λ x. not (t x)) xs none))

abbrev first_from : List Module → Option ℕ → Option (ℕ × ℕ)
first_from images found = option_and_then (λ m. option_map (λ f. (m, f)) (option_and_then unformed_in (slice_get images m))) found

formed_from : (images : List Module) (found : Option ℕ) → position (λ x. not (has_formed_wrappers x)) images ≡ found → first_from images found ≡ None → have_formed_wrappers images ≡ true
formed_from images None e none = none_fails has_formed_wrappers images e
formed_from images (Some m) e none =
    let here = there_is images m (is_within (λ x. not (has_formed_wrappers x)) images m (sym e)) in
    let found : Some here.0 ≡ find (λ x. not (has_formed_wrappers x)) images = found_at (λ x. not (has_formed_wrappers x)) images m (Some here.0) e (sym here.1) in
    let unformed : unformed_in here.0 ≡ None =
    ap (option_and_then unformed_in) (sym here.1) ∙ map_none (λ (f : ℕ). (m, f)) (option_and_then unformed_in (slice_get images m)) none in
    no_other (has_formed_wrappers here.0) (none_fails (is_formed here.0) here.0.functions unformed) (found_is (λ x. not (has_formed_wrappers x)) images here.0 (sym found))

-- where none is found, all images have the form
pub all_formed : (images : List Module) → None ≡ first_unformed images → have_formed_wrappers images ≡ true
all_formed images none = formed_from images (position (λ x. not (has_formed_wrappers x)) images) refl (sym none)
