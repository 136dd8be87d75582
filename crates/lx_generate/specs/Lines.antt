-- Texts by their lines.
use Rattle.std.specs.Prelude.{ℕ, List, ◌++◌, codes, flat_map}

-- the text of these lines, each of which ends with a line feed
abbrev pub text_of : List (List ℕ) → List ℕ
text_of lines = flat_map (λ line. line ++ codes "\n") lines
