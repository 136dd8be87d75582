-- What is linked without a fault.
use Rattle.std.proofs.Common.{◌≡◌, ℕ, zero, suc, Bool, true, false, Option, Some, None, List, [], ◌∷◌, length, get_or, map, nat_eq, refl, ap, sym, subst, ◌∙◌, arith, ℤ, eqb-true}
use Rattle.std.specs.Prelude.{All, slice_get, position, option_and_then, unwrap_or, if◌then◌else◌}
use Rattle.std.specs.Option.{option_or}
use Rattle.std.proofs.lemmas.Option.{slice_get-get_or}
use Rattle.std.proofs.lemmas.List.Quantifiers.{position-Some}
use Rattle.std.proofs.lemmas.Bool.{and_from}
use Rattle.lx_words.specs.declared.word.Width.{Width}
use Rattle.lx_words.specs.declared.word.Width.TheVariants.{W1, W8, W16, W32, W64}
use Rattle.lx_words.specs.Width.{bit_count}
use Rattle.lx_words.specs.Word.{word, word_of_int}
use Rattle.lx_words.proofs.Tests.{first_of, second_of}
use Rattle.lx_words.proofs.Options.{first_none, rest_none}
use Rattle.lx_ir.specs.declared.module.Parameter.{Parameter}
use Rattle.lx_ir.specs.declared.module.Function.{Function}
use Rattle.lx_ir.specs.Faults.{first_some}
use Rattle.lx_ir.specs.Layout.{width_of}
use Rattle.lx_model.specs.declared.program.Program.{Program}
use Rattle.lx_model.specs.declared.program.ProgramFunction.{ProgramFunction}
use Rattle.lx_model.specs.declared.program.ProgramFunction.TheVariants.{Native, Of}
use Rattle.lx_model.specs.Program.{Home, same_home, module_of, is_entry, number_of, function_of, function_of_entry, same_widths}
use Rattle.lx_model.specs.Fits.{FitsFunction, widths}
use Rattle.lx_script.specs.declared.case.CaseArg.{CaseArg}
use Rattle.lx_script.specs.declared.case.CaseCall.{CaseCall}
use Rattle.lx_link_texts.specs.Faults.{Fault, defines, text_fault, limit_fault}
use Rattle.lx_link_texts.specs.Placing.{program_of}
use Rattle.lx_link_texts.specs.WellFormed.{FitsCall, FitsCalls}
use Rattle.lx_link_texts.specs.Laws.{AreWellFormed}
use Rattle.lx_link.specs.Calls.{is_in_range, value_or_zero, argument_value, argument_word, argument_words, all_fit, are_in_range, params_of, parameters, function_named, target, argument_fault, call_fault, call_fault_by, thread_fault, script_fault, call_to, resolved, calls_of}
use Rattle.lx_link.specs.Laws.{AreWellLinked, CallsFit}
use Rattle.lx_model.proofs.Homes.{same_home_is}
use Rattle.lx_link_texts.proofs.Sound.{passes}

-- Rows of passes.

all_mapped : {A B : Type 0} (f : A → Option Fault) (P : B → Type 0) (r : A → B) (xs : List A) → ((x : A) → f x ≡ None → P (r x)) → first_some f xs ≡ None → All P (map r xs)
all_mapped f P r [] g h k d less = absurd (omega (arith, less))
all_mapped f P r (x ∷ xs) g h zero d less = g x (first_none (f x) (first_some f xs) h)
all_mapped f P r (x ∷ xs) g h (suc k) d less = all_mapped f P r xs g (rest_none (f x) (first_some f xs) h) k d (omega (arith, less))

-- What a name names.

found_at : {X : Type 0} (p : X → Bool) (xs : List X) (n : ℕ) → position p xs ≡ Some n → (x : X) × (slice_get xs n ≡ Some x) × (p x ≡ true)
found_at p [] n h = absurd (cc)
found_at p (x ∷ xs) n h =
    let q = position-Some p (x ∷ xs) n x h in
    (get_or (x ∷ xs) n x, slice_get-get_or (x ∷ xs) n x q.0, q.1)

entry_function : (p : Program) (home : Home) (f : ℕ) (e : ProgramFunction) (g : Function) → is_entry home f e ≡ true → slice_get (module_of p home).functions f ≡ Some g → function_of_entry p (Some e) ≡ Some g
entry_function p home f (Native k) g is h = absurd (cc)
entry_function p home f (Of other k) g is h =
    let a = same_home_is home other (first_of (same_home home other) (nat_eq f k) is) in
    let b = eqb-true f k (second_of (same_home home other) (nat_eq f k) is) in
    subst (λ x. slice_get (module_of p x).functions k ≡ Some g) a (subst (λ y. slice_get (module_of p home).functions y ≡ Some g) b h)

named_by : (p : Program) (home : Home) (name : List ℕ) (o : Option ℕ) (n : ℕ) → position (defines name) (module_of p home).functions ≡ o → option_and_then (number_of p home) o ≡ Some n → (g : Function) × (function_of p n ≡ Some g)
named_by p home name None n e h = absurd (cc)
named_by p home name (Some f) n e h =
    let g = found_at (defines name) (module_of p home).functions f e in
    let x = found_at (is_entry home f) p.functions n h in
    (g.0, ap (function_of_entry p) x.1 ∙ entry_function p home f x.0 g.0 x.2 g.1)

named_function : (p : Program) (home : Home) (name : List ℕ) (n : ℕ) → function_named p home name ≡ Some n → (g : Function) × (function_of p n ≡ Some g)
named_function p home name n h = named_by p home name (position (defines name) (module_of p home).functions) n refl h

-- Arguments.

same_bits : (w : Width) → nat_eq (bit_count w) (bit_count w) ≡ true
same_bits W1 = refl
same_bits W8 = refl
same_bits W16 = refl
same_bits W32 = refl
same_bits W64 = refl

width_by : (b : Bool) (w : Width) (z : ℤ) → (unwrap_or (if b then Some (word_of_int w z) else None) (word w 0)).width ≡ w
width_by true w z = refl
width_by false w z = refl

word_width : (p : Program) (x : Parameter) (a : CaseArg) → (argument_word p x a).width ≡ width_of x.ty
word_width p x a = width_by (is_in_range (width_of x.ty) (value_or_zero (argument_value p a))) (width_of x.ty) (value_or_zero (argument_value p a))

words_fit : (p : Program) (xs : List Parameter) (args : List CaseArg) → length xs ≡ length args → same_widths (widths (argument_words p xs args)) (map (λ x. width_of x.ty) xs) ≡ true
words_fit p [] [] e = refl
words_fit p [] (a ∷ args) e = absurd (omega (arith, e))
words_fit p (x ∷ xs) [] e = absurd (omega (arith, e))
words_fit p (x ∷ xs) (a ∷ args) e =
    and_from _ _
    (subst (λ w. nat_eq (bit_count w) (bit_count (width_of x.ty)) ≡ true) (sym (word_width p x a)) (same_bits (width_of x.ty)))
    (words_fit p xs args (omega (arith, e)))

-- Calls.

fits_by : (p : Program) (c : CaseCall) (n : ℕ) (g : Function) → function_of p n ≡ Some g → all_fit p (parameters p n) c.args ≡ true → FitsFunction p n (argument_words p (parameters p n) c.args)
fits_by p c n g h all =
    let params : parameters p n ≡ g.params = ap params_of h in
    let many : length (parameters p n) ≡ length c.args = eqb-true _ _ (first_of (nat_eq (length (parameters p n)) (length c.args)) (are_in_range p (parameters p n) c.args) all) in
    (g, h, subst (λ xs. same_widths (widths (argument_words p (parameters p n) c.args)) (map (λ x. width_of x.ty) xs) ≡ true) params (words_fit p (parameters p n) c.args many))

call_by : (p : Program) (c : CaseCall) (t : Option ℕ) → target p c ≡ t → call_fault_by p c t ≡ None → FitsCall p (call_to p c (unwrap_or t 0))
call_by p c None e h = absurd (cc)
call_by p c (Some n) e h =
    let g = named_function p c.target.«module» c.target.function n e in
    fits_by p c n g.0 g.1 (passes (all_fit p (parameters p n) c.args) _ (rest_none (first_some (argument_fault p c.line) c.args) _ h))

call_fits : (p : Program) (c : CaseCall) → call_fault p c ≡ None → FitsCall p (resolved p c)
call_fits p c h = call_by p c (target p c) refl h

thread_fits : (p : Program) (calls : List CaseCall) → thread_fault p calls ≡ None → All (FitsCall p) (map (resolved p) calls)
thread_fits p calls h = all_mapped (call_fault p) (FitsCall p) (resolved p) calls (call_fits p) h

script_fits : (p : Program) (threads : List (List CaseCall)) → script_fault p threads ≡ None → FitsCalls p (calls_of p threads)
script_fits p threads h = all_mapped (thread_fault p) (All (FitsCall p)) (λ calls. map (resolved p) calls) threads (thread_fits p) h

pub calls_fit : CallsFit
calls_fit s c h =
    script_fits (program_of s) c.threads (rest_none (limit_fault s) (script_fault (program_of s) c.threads) (rest_none (text_fault s) (option_or (limit_fault s) (script_fault (program_of s) c.threads)) h))

pub well_linked : AreWellFormed → AreWellLinked
well_linked laws s c sound h =
    laws s sound
    (first_none (text_fault s) (option_or (limit_fault s) (script_fault (program_of s) c.threads)) h)
    (first_none (limit_fault s) (script_fault (program_of s) c.threads) (rest_none (text_fault s) (option_or (limit_fault s) (script_fault (program_of s) c.threads)) h))
