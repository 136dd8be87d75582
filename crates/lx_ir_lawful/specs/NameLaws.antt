-- Laws on tables of names, and on names in order.
use Rattle.std.specs.Prelude.{◌≡◌, ℕ, false, IsTrue, Some, List, [], ◌∷◌, ◌++◌, slice_get}
use Rattle.lx_words.specs.declared.token.Token.{Token}
use Rattle.lx_ir.specs.Lawful.{is_distinct}
use Rattle.lx_ir_tokens.specs.Reading.{names_of}
use Rattle.lx_ir_statements.specs.Numbers.{has_number}
use Rattle.lx_ir_lawful.specs.NamedThings.{numbers_of, AreOnce}

-- Distinct names, and behind them a name whose number none of them has, are distinct.
abbrev pub NamesGrow : Type 0
NamesGrow =
    (names said : List (List ℕ)) (n : ℕ) (name : List ℕ) → AreOnce names → slice_get names n ≡ Some name → IsTrue (is_distinct said) → has_number (numbers_of names said) n ≡ false → IsTrue (is_distinct (said ++ name ∷ []))

-- The names that tokens say stand once in their table.
abbrev pub NamesStandOnce : Type 0
NamesStandOnce = (text : List ℕ) (tokens : List Token) → AreOnce (names_of text tokens)
