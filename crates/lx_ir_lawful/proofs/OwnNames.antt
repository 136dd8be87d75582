-- No name of a program is an image's own.
use Rattle.std.proofs.Common.{◌≡◌, ℕ, suc, ◌-◌, Bool, true, false, not, ◌||◌, List, [], ◌∷◌, length, take, bytes_eq, codes, Some, None, refl, sym, ap, ◌∙◌, true≢false, arith}
use Rattle.std.specs.Prelude.{if◌then◌else◌}
use Rattle.std.specs.List.{list_all, list_any, AllByRecursion}
use Rattle.std.proofs.lemmas.Bool.{and_parts, or_parts, not-true}
use Rattle.std.proofs.lemmas.Slice.Eq.{bytes_eq-Decides}
use Rattle.lx_words.proofs.Options.{rest_of}
use Rattle.lx_ir.specs.Lawful.{is_own_name, is_image_name}
use Rattle.lx_ir_tokens.specs.declared.token.Tok.{Tok}
use Rattle.lx_ir_tokens.specs.declared.token.Kind.{Kind}
use Rattle.lx_ir_tokens.specs.declared.token.Kind.TheVariants as kinds
use Rattle.lx_ir_terms.specs.Context.{Context, bytes_of}
use Rattle.lx_ir_constants.specs.Misplaced.{is_misplaced}
use Rattle.lx_ir_calls.specs.declared.intrinsics.TextForm.{TextForm}
use Rattle.lx_ir_calls.specs.declared.intrinsics.TextForm.TheVariants as forms
use Rattle.lx_ir_read.specs.Fault.{name_at}
use Rattle.lx_ir_read.specs.Reading.{is_own, is_early, first_early}
use Rattle.lx_ir_lawful.proofs.SymbolThings.{global_is, AllGlobals}

pub taken_whole : (ts : List Tok) → take (length ts) ts ≡ ts
taken_whole [] = refl
taken_whole (t ∷ ts) = ap (λ us. t ∷ us) (taken_whole ts)

pub none_own : (form : TextForm) (context : Context) (ts : List Tok) → first_early form context 0 ts ≡ None → AllByRecursion (λ t. is_own form context.names t.kind t.name ≡ false) ts
none_own form context [] e = tt
none_own form context (t ∷ ts) e =
    let all : suc (length ts) - 0 ≡ suc (length ts) = omega arith in
    let whole = ap (λ n. if is_early form context (take n (t ∷ ts)) then Some (suc (length ts)) else first_early form context 0 ts) all
    ∙ ap (λ us. if is_early form context (t ∷ us) then Some (suc (length ts)) else first_early form context 0 ts) (taken_whole ts) in
    let both = rest_of (is_early form context (t ∷ ts)) (suc (length ts)) (first_early form context 0 ts) (sym whole ∙ e) in
    ((or_parts (is_own form context.names t.kind t.name) (is_misplaced context (t ∷ ts)) both.0).0, none_own form context ts both.1)

own_at : (form : TextForm) (names : List (List ℕ)) (k : Kind) (n : ℕ) → form ≡ forms.Program → k ≡ kinds.Global → is_own form names k n ≡ false → is_own_name (name_at names n) ≡ false
own_at form names k n program global e = ap (λ f. is_own f names kinds.Global n) (sym program) ∙ ap (λ j. is_own form names j n) (sym global) ∙ e

-- no name behind `@` in a program is an image's own
pub own_free : (form : TextForm) (context : Context) (ts : List Tok) → form ≡ forms.Program → AllByRecursion (λ t. is_own form context.names t.kind t.name ≡ false) ts → AllGlobals (λ n. not (is_own_name (bytes_of context n)) ≡ true) ts
own_free form context [] program all = tt
own_free form context (t ∷ ts) program all =
    ((λ global. ap not (own_at form context.names t.kind t.name program (global_is t.kind global) all.0)), own_free form context ts program all.1)

-- The names of lines of images are images' own.

one_of : (name : List ℕ) (xs : List (List ℕ)) → list_all is_own_name xs ≡ true → list_any (bytes_eq name) xs ≡ true → is_own_name name ≡ true
one_of name [] h e = absurd (cc e)
one_of name (x ∷ xs) h e =
    let both = and_parts (is_own_name x) (list_all is_own_name xs) h in
    by (bytes_eq name x) refl both.0 (one_of name xs both.1) e
  where
    by : (b : Bool) → bytes_eq name x ≡ b → is_own_name x ≡ true → (list_any (bytes_eq name) xs ≡ true → is_own_name name ≡ true) → (b || list_any (bytes_eq name) xs) ≡ true → is_own_name name ≡ true
    by true same own rest g = ap is_own_name ((bytes_eq-Decides name x).0 same) ∙ own
    by false same own rest g = rest g

image_by : (b : Bool) (name : List ℕ) → is_image_name name ≡ b → not (is_own_name name) ≡ true → b ≡ false
image_by false name e h = refl
image_by true name e h =
    let own = one_of name (codes "lxfi.guard" ∷ codes "lxfi.guard32" ∷ codes "lxfi.check" ∷ codes "lxfi.enter" ∷ codes "lxfi.pre" ∷ codes "lxfi.post" ∷ codes "lxfi.leave" ∷ []) refl e in
    absurd (true≢false (sym own ∙ not-true (is_own_name name) h))

pub no_image_name : (name : List ℕ) → not (is_own_name name) ≡ true → is_image_name name ≡ false
no_image_name name h = image_by (is_image_name name) name refl h
