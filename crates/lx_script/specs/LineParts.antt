-- How the reader cuts a text.
use Rattle.std.specs.Prelude.{ℕ, List, [], ◌∷◌, Bool, not, ◌==◌, if◌then◌else◌}
use Rattle.lx_script.specs.Lines.{Statement, says_something}

abbrev pub is_space : ℕ → Bool
is_space b = b == 32

abbrev pub is_letter : ℕ → Bool
is_letter b = not (b == 32)

-- a statement, unless it is passed over
abbrev pub said : Statement → List Statement
said s = if says_something s then s ∷ [] else []
