-- What the bytes of a token say.
use Rattle.std.specs.Prelude.{ℕ, ◌-◌, ◌==◌, List, ◌++◌, length, take, drop, if◌then◌else◌, codes, slice_index}
use Rattle.lx_words.specs.declared.token.TokenKind.{TokenKind}
use Rattle.lx_words.specs.declared.token.TokenKind.TheVariants as kinds
use Rattle.lx_annot_expressions.specs.declared.fault.FaultKind.{FaultKind}
use Rattle.lx_annot_expressions.specs.declared.fault.FaultKind.TheVariants.{Twice}

abbrev pub all_but_last : List ℕ → List ℕ
all_but_last bytes = take (length bytes - 1) bytes

-- a name without the quotes round it, where it has any
abbrev pub unquoted : List ℕ → List ℕ
unquoted name = if slice_index name 0 == 34 then all_but_last (drop 1 name) else name

-- the name behind the `%` of a token
abbrev pub struct_of : List ℕ → List ℕ
struct_of bytes = unquoted (drop 1 bytes)

-- A fault says the token as it stands; a struct that is typed twice is named without quotes.
abbrev pub what_of : FaultKind → TokenKind → List ℕ → List ℕ
what_of Twice kinds.Local bytes = codes "%" ++ struct_of bytes
what_of kind token bytes = bytes
