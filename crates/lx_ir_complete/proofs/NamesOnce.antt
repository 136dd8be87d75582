-- A text's table of names has no name twice.
use Rattle.std.proofs.Common.{◌≡◌, ◌∙◌, ◌⊎◌, inl, inr, ℕ, ◌≤◌, ◌<◌, true, false, Option, Some, None, is_some, List, [], ◌∷◌, ◌++◌, length, slice_get, fold, refl, sym, ap}
use Rattle.std.specs.Prelude.{if◌then◌else◌}
use Rattle.lx_words.specs.declared.token.Token.{Token}
use Rattle.lx_ir_tokens.specs.Names.{number_of}
use Rattle.lx_ir_tokens.specs.Reading.{said_at, with_said, names_of}
use Rattle.lx_ir_lawful.proofs.NameNumbers.{nowhere, where_it_stands}
use Rattle.lx_ir_complete.specs.KnownTables.{AreOnce}

longer : (names : List (List ℕ)) (new : List ℕ) → number_of names new ≡ None → AreOnce names → AreOnce (names ++ new ∷ [])
longer names new none once i j name at also = by (where_it_stands names new i name at) (where_it_stands names new j name also)
  where
    by : (slice_get names i ≡ Some name) ⊎ ((i ≡ length names) × (new ≡ name)) → (slice_get names j ≡ Some name) ⊎ ((j ≡ length names) × (new ≡ name)) → i ≡ j
    by (inl a) (inl b) = once i j name a b
    by (inl a) (inr b) = absurd (nowhere names new i none (a ∙ ap Some (sym b.1)))
    by (inr a) (inl b) = absurd (nowhere names new j none (b ∙ ap Some (sym a.1)))
    by (inr a) (inr b) = a.0 ∙ sym b.0

once_if : (names : List (List ℕ)) (new : List ℕ) (number : Option ℕ) → number_of names new ≡ number → AreOnce names → AreOnce (if is_some number then names else names ++ new ∷ [])
once_if names new (Some n) e once = once
once_if names new None e once = longer names new e once

once_more : (names : List (List ℕ)) (more : Option (List ℕ)) → AreOnce names → AreOnce (with_said names more)
once_more names None once = once
once_more names (Some new) once = once_if names new (number_of names new) refl once

once_from : (text : List ℕ) (names : List (List ℕ)) (ts : List Token) → AreOnce names → AreOnce (fold (λ ns t. with_said ns (said_at text t)) names ts)
once_from text names [] once = once
once_from text names (t ∷ ts) once = once_from text (with_said names (said_at text t)) ts (once_more names (said_at text t) once)

-- The names that tokens say stand once.
pub names_once : (text : List ℕ) (ts : List Token) → AreOnce (names_of text ts)
names_once text ts = once_from text [] ts (λ i j name at also. absurd (nothing name at))
  where
    nothing : (name : List ℕ) → None ≡ Some name → ⊥
    nothing name e = cc
