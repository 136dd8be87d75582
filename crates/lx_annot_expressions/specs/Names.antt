-- Names that were declared before. The number of a name is its place.
use Rattle.std.specs.Prelude.{ℕ, Option, Some, None, List, position, bytes_eq, is_some, if◌then◌else◌}
use Rattle.lx_words.specs.declared.token.TokenKind.{TokenKind}
use Rattle.lx_words.specs.declared.token.TokenKind.TheVariants as kinds
use Rattle.lx_annot_expressions.specs.declared.fault.FaultKind.TheVariants.{Unknown, Twice}
use Rattle.lx_annot_expressions.specs.Tokens.{Tok}
use Rattle.lx_annot_expressions.specs.Reading.{Read, pick_at, unless_word}

-- the number that a name has among these
abbrev pub number_among : List (List ℕ) → List ℕ → Option ℕ
number_among names name = position (bytes_eq name) names

abbrev pub known_of : List (List ℕ) → TokenKind → List ℕ → Option ℕ
known_of names kinds.Word bytes = number_among names bytes
known_of names _ bytes = None

-- a word that is one of these names
abbrev pub known_at : List (List ℕ) → List Tok → Read ℕ
known_at names ts = pick_at (λ t. known_of names t.kind t.bytes) (unless_word Unknown) ts

abbrev pub unless_known : List (List ℕ) → List ℕ → Option (List ℕ)
unless_known names name = if is_some (number_among names name) then None else Some name

abbrev pub fresh_of : List (List ℕ) → TokenKind → List ℕ → Option (List ℕ)
fresh_of names kinds.Word bytes = unless_known names bytes
fresh_of names _ bytes = None

-- a word that is none of these names
abbrev pub fresh_at : List (List ℕ) → List Tok → Read (List ℕ)
fresh_at names ts = pick_at (λ t. fresh_of names t.kind t.bytes) (unless_word Twice) ts
