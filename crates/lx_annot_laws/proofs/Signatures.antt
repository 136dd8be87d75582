-- The printed text of parameters and types says them.
use Rattle.std.proofs.Common.{◌≡◌, ◌∙◌, ℕ, ◌+◌, true, false, cond, nat_lt, Option, Some, None, List, [], ◌∷◌, ◌++◌, All, flat_map, length, bytes_eq, codes, if◌then◌else◌, refl, sym, ap, subst, append_assoc, arith}
use Rattle.std.specs.Prelude.{is_some}
use Rattle.std.specs.List.{AllByRecursion, IsDistinct, list_any, position_or_len}
use Rattle.std.proofs.lemmas.Bool.{or_from, false_from_ne_true, true≢false}
use Rattle.std.proofs.lemmas.Bool.Decides.{nat_tests}
use Rattle.std.proofs.lemmas.List.{map-append}
use Rattle.std.proofs.lemmas.List.Elements.{recursion_from_All}
use Rattle.std.proofs.lemmas.Slice.Eq.{bytes_eq-Decides}
use Rattle.lx_words.specs.declared.token.TokenRule.TheVariants as rules
use Rattle.lx_words.specs.declared.token.TokenKind.TheVariants as kinds
use Rattle.lx_words.specs.declared.token.Lexeme.TheVariants.{Token}
use Rattle.lx_words.specs.Lexemes.{lexeme_of, lexeme_behind, other_lexeme}
use Rattle.lx_words.proofs.Lists.{all_passed}
use Rattle.lx_annot.specs.declared.expr.Ty.{Ty}
use Rattle.lx_annot.specs.declared.expr.Ty.TheVariants as ty
use Rattle.lx_annot.specs.declared.interface.Parameter.{Parameter}
use Rattle.lx_annot.specs.Canonical.{Text}
use Rattle.lx_annot_expressions.specs.Names.{number_among, fresh_of}
use Rattle.lx_annot_expressions.specs.Exprs.{names_of_params}
use Rattle.lx_annot_expressions.specs.Grammar.{Is, ◌then◌}
use Rattle.lx_annot_terms.specs.Signatures.{Signature, type_of, is_reserved}
use Rattle.lx_annot_laws.specs.Parts.{IsFurther, IsType, IsParamName, IsParam, IsParams, IsSignature}
use Rattle.lx_cproto_print.specs.Printed.{type_text, param_text, params_text}
use Rattle.lx_annot_laws.specs.Says.{is_apart, tok, Says, IsWord}
use Rattle.lx_annot_laws.proofs.Pieces.{a_comma, an_open, a_close, beside, nothing, word_token, mark_is, space, closed, spaced}
use Rattle.lx_annot_laws.specs.PrintedPartLaws.{AreFree}

-- Types.

type_word : (t : Ty) → IsWord (type_text t)
unfolding lexeme_behind
type_word ty.Void = refl
type_word ty.Bool = refl
type_word ty.I8 = refl
type_word ty.U8 = refl
type_word ty.I16 = refl
type_word ty.U16 = refl
type_word ty.I32 = refl
type_word ty.U32 = refl
type_word ty.I64 = refl
type_word ty.Ptr = refl

type_again : (t : Ty) → type_of (type_text t) ≡ Some t
unfolding type_of
type_again ty.Void = refl
type_again ty.Bool = refl
type_again ty.I8 = refl
type_again ty.U8 = refl
type_again ty.I16 = refl
type_again ty.U16 = refl
type_again ty.I32 = refl
type_again ty.U32 = refl
type_again ty.I64 = refl
type_again ty.Ptr = refl

-- the text of a type says it
pub type_says : (t : Ty) → Says (type_text t) (IsType t)
type_says t = word_token {p = IsType t} (type_word t) (tok kinds.Word (type_text t), type_again t, refl)

-- Names that differ.

at_place : {A : Type 0} (P : A → Type 0) (xs : List A) (x : A) (ys : List A) → AllByRecursion P (xs ++ x ∷ ys) → P x
at_place P [] x ys h = h.0
at_place P (y ∷ xs) x ys h = at_place P xs x ys h.1

-- names differ either way
other_way : (x y : List ℕ) → bytes_eq x y ≡ false → bytes_eq y x ≡ false
other_way x y h = false_from_ne_true (bytes_eq y x) (λ e. absurd (true≢false (sym ((bytes_eq-Decides x y).1 (sym ((bytes_eq-Decides y x).0 e))) ∙ h)))

-- a name among others that differ is none of those before it
pub differs_before : (xs : List (List ℕ)) (x : List ℕ) (ys : List (List ℕ)) → IsDistinct bytes_eq (xs ++ x ∷ ys) → list_any (bytes_eq x) xs ≡ false
unfolding IsDistinct
differs_before [] x ys h = refl
differs_before (y ∷ xs) x ys h = or_from (bytes_eq x y) (list_any (bytes_eq x) xs) (other_way y x (at_place (λ z. bytes_eq y z ≡ false) xs x ys h.0)) (differs_before xs x ys h.1)

nowhere : (i n : ℕ) → i ≡ n → cond (nat_lt i n) (Some i) None ≡ None
nowhere i n e = let past : nat_lt i n ≡ false = grind (arith, nat_tests, e) in rw past refl

-- what is none of these names has no place among them, and is a fresh one
pub fresh_name : (names : List (List ℕ)) (name : List ℕ) → list_any (bytes_eq name) names ≡ false → fresh_of names kinds.Word name ≡ Some name
fresh_name names name h =
    let none : number_among names name ≡ None = nowhere (position_or_len (bytes_eq name) names) (length names) (all_passed (bytes_eq name) names h) in
    ap (λ (o : Option ℕ). if is_some o then None else Some name) none

-- Parameters.

a_colon : lexeme_of rules.Interface (codes ":") ≡ Some (Token kinds.Mark)
unfolding lexeme_behind other_lexeme
a_colon = refl

param_says : (before : List Parameter) (p : Parameter) → IsWord p.name → is_reserved (tok kinds.Word p.name ∷ []) ≡ false → list_any (bytes_eq p.name) (names_of_params before) ≡ false → Says (param_text p) (IsParam before p)
param_says before p word free new =
    spaced {p = IsType p.ty} {q = IsParamName (names_of_params before) p.name} (type_says p.ty)
    (word_token {p = IsParamName (names_of_params before) p.name} word (tok kinds.Word p.name, free, fresh_name (names_of_params before) p.name new, refl))

abbrev further_text : List Parameter → Text
further_text ps = flat_map (λ p. codes ", " ++ param_text p) ps

further_apart : (ps : List Parameter) → is_apart (further_text ps) ≡ true
further_apart [] = refl
further_apart (p ∷ ps) = refl

-- the names of these parameters are words that may name them
abbrev AreNames : List Parameter → Type 0
AreNames ps = AllByRecursion (λ (p : Parameter). IsWord p.name) ps × AllByRecursion (λ (p : Parameter). is_reserved (tok kinds.Word p.name ∷ []) ≡ false) ps

-- one parameter more stands before the others
moved : (before : List Parameter) (p : Parameter) (ps : List Parameter) → IsDistinct bytes_eq (names_of_params before ++ names_of_params (p ∷ ps)) → IsDistinct bytes_eq (names_of_params (before ++ p ∷ []) ++ names_of_params ps)
moved before p ps h =
    let whole : names_of_params before ++ names_of_params (p ∷ ps) ≡ names_of_params (before ++ p ∷ []) ++ names_of_params ps =
    sym (append_assoc (names_of_params before) (p.name ∷ []) (names_of_params ps)) ∙ ap (λ ns. ns ++ names_of_params ps) (sym (map-append (λ (q : Parameter). q.name) before (p ∷ []))) in
    subst (IsDistinct bytes_eq) whole h

further_say : (before ps : List Parameter) → AreNames ps → IsDistinct bytes_eq (names_of_params before ++ names_of_params ps) → Says (further_text ps) (IsFurther (codes ",") IsParam before ps)
further_say before [] names differ = nothing
further_say before (p ∷ ps) names differ =
    let one = param_says before p names.0.0 names.1.0 (differs_before (names_of_params before) p.name (names_of_params ps) differ) in
    let rest = further_say (before ++ p ∷ []) ps (names.0.1, names.1.1) (moved before p ps differ) in
    closed (codes ",") a_comma refl (space (beside {p = IsParam before p} {q = IsFurther (codes ",") IsParam (before ++ p ∷ []) ps} one (further_apart ps) rest))

some_say : (ps : List Parameter) → AreNames ps → IsDistinct bytes_eq (names_of_params ps) → Says (params_text ps) (IsParams ps)
some_say [] names differ = nothing
some_say (p ∷ ps) names differ =
    let one = param_says [] p names.0.0 names.1.0 refl in
    beside {p = IsParam [] p} {q = IsFurther (codes ",") IsParam (p ∷ []) ps} one (further_apart ps) (further_say (p ∷ []) ps (names.0.1, names.1.1) differ)

-- the text of parameters says them, where their names are words that differ, and none is reserved
pub params_say : (ps : List Parameter) → All (λ (p : Parameter). IsWord p.name) ps → AreFree ps → IsDistinct bytes_eq (names_of_params ps) → Says (params_text ps) (IsParams ps)
params_say ps words free differ =
    some_say ps (recursion_from_All (λ (p : Parameter). IsWord p.name) ps words, recursion_from_All (λ (p : Parameter). is_reserved (tok kinds.Word p.name ∷ []) ≡ false) ps free) differ

-- `: T (T P, ..)`
pub signature_says : (sig : Signature) → All (λ (p : Parameter). IsWord p.name) sig.params → AreFree sig.params → IsDistinct bytes_eq (names_of_params sig.params) → Says (codes ": " ++ (type_text sig.ret ++ (codes " (" ++ (params_text sig.params ++ codes ")")))) (IsSignature sig)
signature_says sig words free differ =
    closed (codes ":") a_colon refl (space (beside {p = IsType sig.ret} {q = Is (codes "(") then IsParams sig.params then Is (codes ")")} (type_says sig.ret) refl
    (space (closed (codes "(") an_open refl (beside {p = IsParams sig.params} {q = Is (codes ")")} (params_say sig.params words free differ) refl (mark_is a_close))))))
