-- Numbers of names in a table, and lines that are kept of a text.
use Rattle.std.proofs.Common.{◌≡◌, ◌∙◌, ◌⊎◌, inl, inr, ℕ, zero, suc, ◌≤◌, ◌<◌, true, false, not, Option, Some, None, List, [], ◌∷◌, ◌++◌, length, get_or, slice_get, bytes_eq, refl, sym, ap, true≢false, arith}
use Rattle.std.specs.Prelude.{count_by}
use Rattle.std.specs.List.{position_or_len}
use Rattle.std.proofs.lemmas.List.Quantifiers.{position-Some}
use Rattle.std.proofs.lemmas.List.Sums.{fails_before_first, length-filter, count_by-le-length}
use Rattle.std.proofs.lemmas.Option.{slice_get_within, slice_get-get_or, get_or_from_slice_get}
use Rattle.std.proofs.lemmas.Slice.Eq.{bytes_eq-Decides}
use Rattle.lx_words.specs.declared.token.Token.{Token}
use Rattle.lx_words.proofs.Options.{none_within}
use Rattle.lx_ir_tokens.specs.Lines.{kept_tokens, is_silent, from_line}
use Rattle.lx_ir_tokens.specs.Names.{number_of}

-- the name of a number
pub named : (names : List (List ℕ)) (name : List ℕ) (n : ℕ) → number_of names name ≡ Some n → slice_get names n ≡ Some name
named names name n at =
    let there = position-Some (bytes_eq name) names n [] at in
    let same : name ≡ get_or names n [] = (bytes_eq-Decides name (get_or names n [])).0 there.1 in
    slice_get-get_or names n [] there.0 ∙ ap Some (sym same)

-- a name that has no number stands nowhere
pub nowhere : (names : List (List ℕ)) (name : List ℕ) (i : ℕ) → number_of names name ≡ None → slice_get names i ≡ Some name → ⊥
nowhere names name i none at =
    let before : length names ≤ position_or_len (bytes_eq name) names = none_within (position_or_len (bytes_eq name) names) (length names) none in
    let within : i < length names = slice_get_within names i name at in
    let fails : bytes_eq name (get_or names i []) ≡ false = fails_before_first (bytes_eq name) names i [] (omega arith) in
    let it : get_or names i [] ≡ name = get_or_from_slice_get names i name [] at in
    let passes : bytes_eq name name ≡ true = (bytes_eq-Decides name name).1 refl in
    true≢false (sym passes ∙ ap (bytes_eq name) (sym it) ∙ fails)

-- what stands in a table with one name more
pub where_it_stands : (names : List (List ℕ)) (new : List ℕ) (i : ℕ) (name : List ℕ) → slice_get (names ++ new ∷ []) i ≡ Some name → (slice_get names i ≡ Some name) ⊎ ((i ≡ length names) × (new ≡ name))
where_it_stands [] new zero name h = inr (refl, cc)
where_it_stands [] new (suc i) name h = inl cc
where_it_stands (x ∷ xs) new zero name h = inl h
where_it_stands (x ∷ xs) new (suc i) name h =
    elim (where_it_stands xs new i name h) [ inl at ↦ inl at | inr last ↦ inr (ap suc last.0, last.1) ]

-- no more is kept than there was
pub fewer_kept : (text : List ℕ) (tokens : List Token) → length (kept_tokens text tokens) ≤ length tokens
unfolding kept_tokens
fewer_kept text tokens =
    let some : length (kept_tokens text tokens) ≡ count_by (λ t. not (is_silent text (from_line t.line tokens))) tokens = length-filter (λ t. not (is_silent text (from_line t.line tokens))) tokens in
    let few = count_by-le-length (λ t. not (is_silent text (from_line t.line tokens))) tokens in
    omega (arith, some, few)
