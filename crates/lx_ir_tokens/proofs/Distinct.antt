-- A table has no name twice.
use Rattle.std.proofs.Common.{◌≡◌, ◌∙◌, ◌⊎◌, inl, inr, ℕ, zero, suc, ◌≤◌, ◌<◌, true, false, Option, Some, None, is_some, List, [], ◌∷◌, ◌++◌, length, get_or, slice_get, fold, bytes_eq, refl, sym, ap, true≢false, arith}
use Rattle.std.specs.Prelude.{if◌then◌else◌}
use Rattle.std.specs.List.{position_or_len}
use Rattle.std.proofs.lemmas.List.Sums.{fails_before_first}
use Rattle.std.proofs.lemmas.Option.{slice_get_within, get_or_from_slice_get}
use Rattle.std.proofs.lemmas.Slice.Eq.{bytes_eq-Decides}
use Rattle.lx_words.specs.declared.token.Token.{Token}
use Rattle.lx_ir_tokens.specs.Names.{number_of}
use Rattle.lx_ir_tokens.specs.Reading.{said_at, with_said, names_of}
use Rattle.lx_ir_tokens.proofs.Numbered.{past}

-- a name stands at one place
abbrev pub IsDistinct : List (List ℕ) → Type 0
IsDistinct names = (i j : ℕ) (name : List ℕ) → slice_get names i ≡ Some name → slice_get names j ≡ Some name → i ≡ j

-- a name that has no number stands nowhere
pub nowhere : (names : List (List ℕ)) (name : List ℕ) (i : ℕ) → number_of names name ≡ None → slice_get names i ≡ Some name → ⊥
nowhere names name i none at =
    let before : length names ≤ position_or_len (bytes_eq name) names = past (position_or_len (bytes_eq name) names) (length names) none in
    let within : i < length names = slice_get_within names i name at in
    let fails : bytes_eq name (get_or names i []) ≡ false = fails_before_first (bytes_eq name) names i [] (omega arith) in
    let it : get_or names i [] ≡ name = get_or_from_slice_get names i name [] at in
    let passes : bytes_eq name name ≡ true = (bytes_eq-Decides name name).1 refl in
    true≢false (sym passes ∙ ap (bytes_eq name) (sym it) ∙ fails)

-- what stands in a table with one name more
pub where_it_stands : (names : List (List ℕ)) (new : List ℕ) (i : ℕ) (name : List ℕ) → slice_get (names ++ new ∷ []) i ≡ Some name → (slice_get names i ≡ Some name) ⊎ ((i ≡ length names) × (new ≡ name))
where_it_stands [] new zero name h = inr (refl, cc)
where_it_stands [] new (suc i) name h = inl cc
where_it_stands (x ∷ xs) new zero name h = inl h
where_it_stands (x ∷ xs) new (suc i) name h =
    elim (where_it_stands xs new i name h) [ inl at ↦ inl at | inr last ↦ inr (ap suc last.0, last.1) ]

joined : (names : List (List ℕ)) (new : List ℕ) → number_of names new ≡ None → IsDistinct names → IsDistinct (names ++ new ∷ [])
joined names new none distinct i j name at also = by (where_it_stands names new i name at) (where_it_stands names new j name also)
  where
    by : (slice_get names i ≡ Some name) ⊎ ((i ≡ length names) × (new ≡ name)) → (slice_get names j ≡ Some name) ⊎ ((j ≡ length names) × (new ≡ name)) → i ≡ j
    by (inl a) (inl b) = distinct i j name a b
    by (inl a) (inr b) = absurd (nowhere names new i none (a ∙ ap Some (sym b.1)))
    by (inr a) (inl b) = absurd (nowhere names new j none (b ∙ ap Some (sym a.1)))
    by (inr a) (inr b) = a.0 ∙ sym b.0

distinct_if : (names : List (List ℕ)) (new : List ℕ) (number : Option ℕ) → number_of names new ≡ number → IsDistinct names → IsDistinct (if is_some number then names else names ++ new ∷ [])
distinct_if names new (Some n) e distinct = distinct
distinct_if names new None e distinct = joined names new e distinct

distinct_more : (names : List (List ℕ)) (more : Option (List ℕ)) → IsDistinct names → IsDistinct (with_said names more)
distinct_more names None distinct = distinct
distinct_more names (Some new) distinct = distinct_if names new (number_of names new) refl distinct

distinct_from : (text : List ℕ) (names : List (List ℕ)) (ts : List Token) → IsDistinct names → IsDistinct (fold (λ ns t. with_said ns (said_at text t)) names ts)
distinct_from text names [] distinct = distinct
distinct_from text names (t ∷ ts) distinct =
    distinct_from text (with_said names (said_at text t)) ts (distinct_more names (said_at text t) distinct)

-- The names that tokens say are distinct.
pub distinct_names : (text : List ℕ) (ts : List Token) → IsDistinct (names_of text ts)
distinct_names text ts = distinct_from text [] ts (λ i j name at also. absurd (nothing name at))
  where
    nothing : (name : List ℕ) → None ≡ Some name → ⊥
    nothing name e = cc
