-- The call of a wrapper calls back what it wraps.
use Rattle.std.proofs.Common.{◌≡◌, ℕ, zero, suc, ◌+◌, ◌<◌, Bool, true, false, not, ◌&&◌, ◌||◌, List, [], ◌∷◌, ◌++◌, length, map, take, drop, Option, Some, None, refl, sym, subst, ◌∙◌, ap, arith}
use Rattle.std.specs.Prelude.{slice_get, option_map, filter, cond, unwrap_or, bytes_eq, codes, position}
use Rattle.std.specs.List.{list_all, list_any, position_or_len}
use Rattle.std.proofs.lemmas.Option.{slice_get-map, slice_get_within}
use Rattle.std.proofs.lemmas.Bool.{not-true, and_right, and_from}
use Rattle.lx_words.proofs.Lists.{bytes_itself, got_take, got_past, got_first, split_at, there_is}
use Rattle.lx_words.proofs.Options.{some_same, none_some}
use Rattle.lx_words.proofs.Tests.{false_true, first_of, second_of}
use Rattle.lx_ir.specs.declared.module.Symbol.TheVariants as symbol
use Rattle.lx_ir.specs.declared.module.GlobalVar.{GlobalVar}
use Rattle.lx_ir.specs.declared.module.Function.{Function}
use Rattle.lx_ir.specs.declared.module.Module.{Module}
use Rattle.lx_ir.specs.declared.instr.Callee.TheVariants as callee
use Rattle.lx_ir.specs.Lookup.{is_defined}
use Rattle.lx_ir.specs.Lawful.{IsLawful, is_own_name, is_distinct}
use Rattle.lx_ir.proofs.DistinctNames.{distinct_behind}
use Rattle.lx_annot.specs.declared.interface.Interface.{Interface}
use Rattle.lx_image_texts.specs.Marks.{is_alias, is_wrapped, one_if, wrapped_before, wrapper_number, callee_if, callee_for}
use Rattle.lx_image_texts.specs.Guards.{IsGuarded, AreGuarded, function_text, Guards}
use Rattle.lx_image_texts.specs.WrapperText.{out_if, out_wrappers, in_wrappers}
use Rattle.lx_image_texts.specs.ImageFaults.{has_out_wrapper, has_wrapper_named}
use Rattle.lx_image_texts.specs.Erased.{wrapped_number, erased_number, erased_callee, erased_text, erased_functions}
use Rattle.lx_image_texts.specs.Programs.{IsClosed}
use Rattle.lx_image_texts.proofs.Closed.{lawful_closed}
use Rattle.lx_image_texts.proofs.Erasing.{names_of, out_prefix, is_program_name, names_append, guarded_names, drop_names, plain_functions, kept_functions, CallsBack, functions_back}
use Rattle.lx_image_texts.proofs.SlotTypes.{defined_by}

-- the names of the image

out_one : (i : Interface) (n : ℕ) (f : Function) (fs : List Function) (b : Bool) → names_of (out_wrappers i (suc n) fs) ≡ map (λ (g : Function). out_prefix ++ g.name) (filter is_wrapped fs) → names_of (out_if b i n f ++ out_wrappers i (suc n) fs) ≡ map (λ (g : Function). out_prefix ++ g.name) (cond b (f ∷ filter is_wrapped fs) (filter is_wrapped fs))
out_one i n f fs true ih = ap (λ (ns : List (List ℕ)). (out_prefix ++ f.name) ∷ ns) ih
out_one i n f fs false ih = ih

pub out_wrapper_names : (i : Interface) (n : ℕ) (fs : List Function) → names_of (out_wrappers i n fs) ≡ map (λ (g : Function). out_prefix ++ g.name) (filter is_wrapped fs)
out_wrapper_names i n [] = refl
out_wrapper_names i n (f ∷ fs) = out_one i n f fs (is_wrapped f) (out_wrapper_names i (suc n) fs)

pub image_names : (i : Interface) (m x : Module) → Guards i m x → names_of x.functions ≡ names_of m.functions ++ (map (λ (g : Function). out_prefix ++ g.name) (filter is_wrapped m.functions) ++ names_of (in_wrappers i m))
image_names i m x g =
    ap names_of (sym (split_at (length m.functions) x.functions)) ∙ (names_append (take (length m.functions) x.functions) (drop (length m.functions) x.functions)
    ∙ (λ j. guarded_names m m.functions (take (length m.functions) x.functions) g.functions j
    ++ (drop_names i m x g ∙ (names_append (out_wrappers i 0 m.functions) (in_wrappers i m) ∙ ap (λ (ns : List (List ℕ)). ns ++ names_of (in_wrappers i m)) (out_wrapper_names i 0 m.functions))) j))

wrapped_cases : (y : Function) (ys : List Function) (k : ℕ) (x : Function) (b : Bool) →
    slice_get (filter is_wrapped ys) (wrapped_before ys k) ≡ Some x → slice_get (cond b (y ∷ filter is_wrapped ys) (filter is_wrapped ys)) (one_if b (wrapped_before ys k)) ≡ Some x
wrapped_cases y ys k x true h = h
wrapped_cases y ys k x false h = h

pub first_wrapped : (y : Function) (ys : List Function) (x : Function) (b : Bool) → y ≡ x → b ≡ true → slice_get (cond b (y ∷ filter is_wrapped ys) (filter is_wrapped ys)) 0 ≡ Some x
first_wrapped y ys x true same t = ap (λ (z : Function). Some z) same
first_wrapped y ys x false same t = false_true t

pub wrapped_at : (ys : List Function) (k : ℕ) (x : Function) → slice_get ys k ≡ Some x → is_wrapped x ≡ true → slice_get (filter is_wrapped ys) (wrapped_before ys k) ≡ Some x
wrapped_at [] k x e t = none_some e
wrapped_at (y ∷ ys) zero x e t = first_wrapped y ys x (is_wrapped y) (some_same e) (ap is_wrapped (some_same e) ∙ t)
wrapped_at (y ∷ ys) (suc k) x e t = wrapped_cases y ys k x (is_wrapped y) (wrapped_at ys k x e t)

pub named_at : (fs : List Function) (k : ℕ) (x : List ℕ) → slice_get (names_of fs) k ≡ Some x → (f : Function) × (slice_get fs k ≡ Some f) × (f.name ≡ x)
named_at [] k x e = none_some e
named_at (f ∷ fs) zero x e = (f, refl, some_same e)
named_at (f ∷ fs) (suc k) x e = named_at fs k x e

pub name_got : (fs : List Function) (k : ℕ) (f : Function) → slice_get fs k ≡ Some f → slice_get (names_of fs) k ≡ Some f.name
name_got fs k f e = slice_get-map (λ (h : Function). h.name) fs k ∙ ap (option_map (λ (h : Function). h.name)) e

pub length_names : (fs : List Function) → length (names_of fs) ≡ length fs
length_names [] = refl
length_names (f ∷ fs) = ap suc (length_names fs)

pub same_at : (i : Interface) (m x : Module) → Guards i m x → (k : ℕ) (f : Function) → slice_get m.functions k ≡ Some f → (g : Function) × (slice_get x.functions k ≡ Some g) × (g.name ≡ f.name)
same_at i m x h k f e =
    named_at x.functions k f.name
    (ap (λ (ns : List (List ℕ)). slice_get ns k) (image_names i m x h) ∙ got_first (names_of m.functions) (map (λ (g : Function). out_prefix ++ g.name) (filter is_wrapped m.functions) ++ names_of (in_wrappers i m)) k f.name (name_got m.functions k f e))

pub wrapper_at : (i : Interface) (m x : Module) → Guards i m x → (k : ℕ) (f : Function) → slice_get m.functions k ≡ Some f → is_wrapped f ≡ true → (w : Function) × (slice_get x.functions (wrapper_number m k) ≡ Some w) × (w.name ≡ out_prefix ++ f.name)
wrapper_at i m x h k f e t =
    named_at x.functions (wrapper_number m k) (out_prefix ++ f.name)
    (ap (λ (ns : List (List ℕ)). slice_get ns (wrapper_number m k)) (image_names i m x h)
    ∙ (ap (λ (n : ℕ). slice_get (names_of m.functions ++ (map (λ (g : Function). out_prefix ++ g.name) (filter is_wrapped m.functions) ++ names_of (in_wrappers i m))) (n + wrapped_before m.functions k)) (sym (length_names m.functions))
    ∙ (got_past (names_of m.functions) (map (λ (g : Function). out_prefix ++ g.name) (filter is_wrapped m.functions) ++ names_of (in_wrappers i m)) (wrapped_before m.functions k)
    ∙ got_first (map (λ (g : Function). out_prefix ++ g.name) (filter is_wrapped m.functions)) (names_of (in_wrappers i m)) (wrapped_before m.functions k) (out_prefix ++ f.name)
    (slice_get-map (λ (g : Function). out_prefix ++ g.name) (filter is_wrapped m.functions) (wrapped_before m.functions k) ∙ ap (option_map (λ (g : Function). out_prefix ++ g.name)) (wrapped_at m.functions k f e t)))))

-- the import of a name stands once

no_first : (a rest b : Bool) → a ≡ b → not (a || rest) ≡ true → b ≡ false
no_first true rest b e n = false_true n
no_first false rest b e n = sym e

no_rest : (a rest : Bool) → not (a || rest) ≡ true → not rest ≡ true
no_rest true rest n = false_true n
no_rest false rest n = n

not_here : (p : List ℕ → Bool) (ns : List (List ℕ)) (k : ℕ) (b : List ℕ) → not (list_any p ns) ≡ true → slice_get ns k ≡ Some b → p b ≡ false
not_here p [] k b n e = none_some e
not_here p (x ∷ ns) zero b n e = no_first (p x) (list_any p ns) (p b) (ap p (some_same e)) n
not_here p (x ∷ ns) (suc k) b n e = not_here p ns k b (no_rest (p x) (list_any p ns) n) e

pub distinct_at : (ns : List (List ℕ)) (j k : ℕ) (a b : List ℕ) → is_distinct ns ≡ true → slice_get ns j ≡ Some a → slice_get ns k ≡ Some b → j < k → bytes_eq a b ≡ false
distinct_at [] j k a b d ej ek l = none_some ej
distinct_at (n ∷ ns) zero zero a b d ej ek l = absurd (omega (arith, l))
distinct_at (n ∷ ns) zero (suc k) a b d ej ek l =
    subst (λ (y : List ℕ). bytes_eq y b ≡ false) (some_same ej) (not_here (bytes_eq n) ns k b (first_of (not (list_any (bytes_eq n) ns)) (is_distinct ns) d) ek)
distinct_at (n ∷ ns) (suc j) zero a b d ej ek l = absurd (omega (arith, l))
distinct_at (n ∷ ns) (suc j) (suc k) a b d ej ek l = distinct_at ns j k a b (second_of (not (list_any (bytes_eq n) ns)) (is_distinct ns) d) ej ek (omega (arith, l))

-- the first place

place_here : {A : Type 0} (p : A → Bool) (x : A) (xs : List A) (b : Bool) → p x ≡ b → b ≡ true → position_or_len p (x ∷ xs) ≡ 0
place_here p x xs true e t = grind (arith, e)
place_here p x xs false e t = false_true t

place_later : {A : Type 0} (p : A → Bool) (x : A) (xs : List A) (n : ℕ) → p x ≡ false → position_or_len p xs ≡ n → position_or_len p (x ∷ xs) ≡ suc n
place_later p x xs n e h = grind (arith, e, h)

place_at : {A : Type 0} (p : A → Bool) (xs : List A) (k : ℕ) (x : A) → slice_get xs k ≡ Some x → p x ≡ true → ((j : ℕ) (y : A) → j < k → slice_get xs j ≡ Some y → p y ≡ false) → position_or_len p xs ≡ k
place_at p [] k x e t none = none_some e
place_at p (y ∷ xs) zero x e t none = place_here p y xs (p y) refl (ap p (some_same e) ∙ t)
place_at p (y ∷ xs) (suc k) x e t none = place_later p y xs k (none 0 y (omega arith) refl) (place_at p xs k x e t (λ j z l ez. none (suc j) z (omega (arith, l)) ez))

position_within : {A : Type 0} (p : A → Bool) (xs : List A) → position_or_len p xs < length xs → position p xs ≡ Some (position_or_len p xs)
position_within p xs l = grind (arith, l)

pub position_at : {A : Type 0} (p : A → Bool) (xs : List A) (k : ℕ) (x : A) → slice_get xs k ≡ Some x → p x ≡ true → ((j : ℕ) (y : A) → j < k → slice_get xs j ≡ Some y → p y ≡ false) → position p xs ≡ Some k
position_at p xs k x e t none =
    let at : position_or_len p xs ≡ k = place_at p xs k x e t none in
    position_within p xs (subst (λ (n : ℕ). n < length xs) (sym at) (slice_get_within xs k x e)) ∙ ap (λ (n : ℕ). Some n) at

prefixed : (a b : List ℕ) → bytes_eq (out_prefix ++ a) (out_prefix ++ b) ≡ bytes_eq a b
prefixed a b = refl

pub guarded_at : (m : Module) (fs gs : List Function) (k : ℕ) (f : Function) → AreGuarded m fs gs → slice_get fs k ≡ Some f → (g : Function) × (slice_get gs k ≡ Some g) × IsGuarded m f g
guarded_at m [] gs k f h e = none_some e
guarded_at m (x ∷ fs) [] k f h e = absurd h
guarded_at m (x ∷ fs) (g ∷ gs) zero f h e = (g, refl, subst (λ (y : Function). IsGuarded m y g) (some_same e) h.0)
guarded_at m (x ∷ fs) (g ∷ gs) (suc k) f h e = guarded_at m fs gs k f h.1 e

pub all_at : (p : List ℕ → Bool) (ns : List (List ℕ)) (k : ℕ) (n : List ℕ) → list_all p ns ≡ true → slice_get ns k ≡ Some n → p n ≡ true
all_at p [] k n a e = none_some e
all_at p (x ∷ ns) zero n a e = ap p (sym (some_same e)) ∙ first_of (p x) (list_all p ns) a
all_at p (x ∷ ns) (suc k) n a e = all_at p ns k n (second_of (p x) (list_all p ns) a) e

pub less : (j k n : ℕ) → j < k → k < n → j < n
less j k n h l = omega (arith, h, l)

pub program_name : (m : Module) (i : Interface) (x : Module) → Guards i m x → (k : ℕ) (f : Function) → slice_get m.functions k ≡ Some f → is_own_name f.name ≡ false
program_name m i x g k f e = not-true (is_own_name f.name) (all_at is_program_name (names_of m.functions) k f.name (plain_functions m g.plain) (name_got m.functions k f e))

import_found : (i : Interface) (m x : Module) → is_distinct (names_of m.functions) ≡ true → Guards i m x → (k : ℕ) (f : Function) → k < length m.functions → slice_get m.functions k ≡ Some f → is_wrapped f ≡ true → wrapped_number x (out_prefix ++ f.name) ≡ Some k
import_found i m x law g k f l e t =
    let one = guarded_at m m.functions (take (length m.functions) x.functions) k f g.functions e in
    let got : slice_get x.functions k ≡ Some one.0 = sym (got_take x.functions (length m.functions) k l) ∙ one.1 in
    let name : one.0.name ≡ f.name = one.2.name in
    let defined : is_defined one.0 ≡ is_defined f = defined_by m f f.blocks one.0.blocks one.2.body in
    let has : has_out_wrapper one.0 ≡ true
    = and_from (not (is_defined one.0) && not (is_alias one.0)) (not (is_own_name one.0.name))
    ((λ j. not (defined j) && not (bytes_eq (name j) (codes "lxfi_princ_alias"))) ∙ t) (ap (λ (n : List ℕ). not (is_own_name n)) name ∙ ap not (program_name m i x g k f e)) in
    let called : bytes_eq (out_prefix ++ one.0.name) (out_prefix ++ f.name) ≡ true = ap (λ (n : List ℕ). bytes_eq (out_prefix ++ n) (out_prefix ++ f.name)) name ∙ bytes_itself (out_prefix ++ f.name) in
    position_at (has_wrapper_named (out_prefix ++ f.name)) x.functions k one.0 got (and_from (has_out_wrapper one.0) (bytes_eq (out_prefix ++ one.0.name) (out_prefix ++ f.name)) has called)
    (λ j y lj ey. (
    let mine = there_is m.functions j (less j k (length m.functions) lj l) in
    let same = same_at i m x g j mine.0 mine.1 in
    let it : y.name ≡ mine.0.name = ap (λ (z : Function). z.name) (some_same (sym ey ∙ same.1)) ∙ same.2 in
    and_right (has_out_wrapper y) (bytes_eq y.name f.name)
    (ap (λ (n : List ℕ). bytes_eq n f.name) it ∙ distinct_at (names_of m.functions) j k mine.0.name f.name law (name_got m.functions j mine.0 mine.1) (name_got m.functions k f e) lj)))

-- so each call comes back

own_back : (x : Module) (k : ℕ) (o : Option Function) (f : Function) → o ≡ Some f → is_own_name f.name ≡ false → erased_number x k o ≡ k
own_back x k None f e n = none_some e
own_back x k (Some g) f e n = ap (λ (b : Bool). unwrap_or (cond b (wrapped_number x g.name) None) k) (ap (λ (h : Function). is_own_name h.name) (some_same e) ∙ n)

wrapper_back : (x : Module) (n k : ℕ) (o : Option Function) (w : Function) (name : List ℕ) → o ≡ Some w → w.name ≡ out_prefix ++ name → wrapped_number x (out_prefix ++ name) ≡ Some k → erased_number x n o ≡ k
wrapper_back x n k None w name e en found = none_some e
wrapper_back x n k (Some g) w name e en found =
    let called : g.name ≡ out_prefix ++ name = ap (λ (h : Function). h.name) (some_same e) ∙ en in
    ap (λ (a : List ℕ). unwrap_or (cond (is_own_name a) (wrapped_number x a) None) n) called ∙ ap (λ (a : Option ℕ). unwrap_or a n) found

back_by : (i : Interface) (m x : Module) → is_distinct (names_of m.functions) ≡ true → Guards i m x → (k : ℕ) (f : Function) (b : Bool) → k < length m.functions → slice_get m.functions k ≡ Some f → is_wrapped f ≡ b → erased_callee x (callee_if b m k) ≡ callee.Symbol (symbol.Function k)
back_by i m x law g k f false l e t =
    let same = same_at i m x g k f e in
    ap (λ (n : ℕ). callee.Symbol (symbol.Function n)) (own_back x k (slice_get x.functions k) same.0 same.1 (ap is_own_name same.2 ∙ program_name m i x g k f e))
back_by i m x law g k f true l e t =
    let w = wrapper_at i m x g k f e t in
    ap (λ (n : ℕ). callee.Symbol (symbol.Function n)) (wrapper_back x (wrapper_number m k) k (slice_get x.functions (wrapper_number m k)) w.0 f.name w.1 w.2 (import_found i m x law g k f l e t))

calls_back : (i : Interface) (m x : Module) → is_distinct (names_of m.functions) ≡ true → Guards i m x → CallsBack m x
calls_back i m x law g k l =
    let f = there_is m.functions k l in
    ap (λ (o : Option Function). erased_callee x (callee_for m k o)) f.1 ∙ back_by i m x law g k f.0 (is_wrapped f.0) l f.1 refl

pub erased_is : (i : Interface) (m x : Module) → is_distinct (names_of m.functions) ≡ true → IsClosed m → Guards i m x → erased_functions x ≡ map function_text m.functions
erased_is i m x distinct closed g =
    ap (map (erased_text x)) (kept_functions i m x g) ∙ sym (functions_back m x m.functions (take (length m.functions) x.functions) (calls_back i m x distinct g) closed.lines g.plain.lines g.functions)

-- of a lawful program
pub erased_lawful : (i : Interface) (m x : Module) → IsLawful m → Guards i m x → erased_functions x ≡ map function_text m.functions
erased_lawful i m x law g = erased_is i m x (distinct_behind (map (λ (v : GlobalVar). v.name) m.globals) (names_of m.functions) law.symbols_once) (lawful_closed m law) g

any_by : (a b c : Bool) → (a || c) ≡ false → (c ≡ false → b ≡ false) → (a || b) ≡ false
any_by true b c e h = e
any_by false b c e h = h e

any_first : (p : List ℕ → Bool) (xs ys : List (List ℕ)) → list_any p (xs ++ ys) ≡ false → list_any p xs ≡ false
any_first p [] ys e = refl
any_first p (x ∷ xs) ys e = any_by (p x) (list_any p xs) (list_any p (xs ++ ys)) e (any_first p xs ys)

pub distinct_first : (xs ys : List (List ℕ)) → is_distinct (xs ++ ys) ≡ true → is_distinct xs ≡ true
distinct_first [] ys d = refl
distinct_first (x ∷ xs) ys d =
    and_from (not (list_any (bytes_eq x) xs)) (is_distinct xs)
    (ap not (any_first (bytes_eq x) xs ys (not-true (list_any (bytes_eq x) (xs ++ ys)) (first_of (not (list_any (bytes_eq x) (xs ++ ys))) (is_distinct (xs ++ ys)) d))))
    (distinct_first xs ys (second_of (not (list_any (bytes_eq x) (xs ++ ys))) (is_distinct (xs ++ ys)) d))

-- of an image in which each name stands once
pub erased_image : (i : Interface) (m x : Module) → is_distinct (names_of x.functions) ≡ true → IsClosed m → Guards i m x → erased_functions x ≡ map function_text m.functions
erased_image i m x distinct closed g =
    erased_is i m x (distinct_first (names_of m.functions) (map (λ (g : Function). out_prefix ++ g.name) (filter is_wrapped m.functions) ++ names_of (in_wrappers i m)) (ap is_distinct (sym (image_names i m x g)) ∙ distinct)) closed g
