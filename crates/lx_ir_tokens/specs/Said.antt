-- What the bytes of a token say.
use Rattle.std.specs.Prelude.{ℕ, ◌-◌, ◌^◌, List, [], ◌∷◌, length, take, drop, Bool, true, false, ◌&&◌, ◌==◌, nat_lt, if◌then◌else◌, Option, Some, None, ℤ, pos, negsuc, neg_ℤ, slice_index}
use Rattle.lx_words.specs.Lexemes.{is_hex}
use Rattle.lx_words.specs.Text.{decimal_value, hex_value}
use Rattle.lx_words.specs.declared.token.TokenKind.{TokenKind}
use Rattle.lx_words.specs.declared.token.TokenKind.TheVariants as token
use Rattle.lx_ir_tokens.specs.declared.token.Kind.{Kind}
use Rattle.lx_ir_tokens.specs.declared.token.Kind.TheVariants as kind
use Rattle.lx_ir_tokens.specs.declared.token.Mark.{Mark}
use Rattle.lx_ir_tokens.specs.declared.token.Mark.TheVariants.{Equal, Comma, OpenParenthesis, CloseParenthesis, OpenBrace, CloseBrace, OpenBracket, CloseBracket, Less, Greater, Hash, Exclamation, Colon}
use Rattle.lx_ir_tokens.specs.Keywords.{keyword_of}

-- bytes without the last of them
abbrev pub all_but_last : List ℕ → List ℕ
all_but_last bytes = take (length bytes - 1) bytes

-- a name without the quotes round it, where it has any
abbrev pub unquoted : List ℕ → List ℕ
unquoted name = if slice_index name 0 == 34 then all_but_last (drop 1 name) else name

-- the name behind the `%` or `@` of a token
abbrev pub name_said : List ℕ → List ℕ
name_said bytes = unquoted (drop 1 bytes)

-- A backslash and two hexadecimal digits say a byte; every other byte says itself.
abbrev pub unescaped : List ℕ → List ℕ
unescaped [] = []
unescaped (b ∷ []) = b ∷ []
unescaped (b ∷ c ∷ []) = b ∷ c ∷ []
unescaped (b ∷ h ∷ l ∷ bs) =
    elim (b == 92 && is_hex h && is_hex l) [ true ↦ hex_value (h ∷ l ∷ []) ∷ unescaped bs | false ↦ b ∷ unescaped (h ∷ l ∷ bs) ]

-- the bytes that a byte string says, between its `c` and quote and its last quote
abbrev pub bytes_said : List ℕ → List ℕ
bytes_said bytes = unescaped (all_but_last (drop 2 bytes))

-- a `-` stands before the digits of a number
abbrev pub has_minus : List ℕ → Bool
has_minus bytes = slice_index bytes 0 == 45

-- a number without its `-`
abbrev pub digits_of : List ℕ → List ℕ
digits_of bytes = if has_minus bytes then drop 1 bytes else bytes

-- the number of this sign and magnitude
abbrev pub with_sign : Bool → ℕ → ℤ
with_sign minus n = if minus then neg_ℤ (pos n) else pos n

-- an integer that has 128 bits with its sign
abbrev pub in_range : ℤ → Bool
in_range (pos n) = nat_lt n (2 ^ 127)
in_range (negsuc n) = nat_lt n (2 ^ 127)

-- the integer, where it is one of those
abbrev pub fitting : ℤ → Option ℤ
fitting z = if in_range z then Some z else None

-- the value of a number, where it has 128 bits with its sign
unfoldable pub value_of_number : List ℕ → Option ℤ
value_of_number bytes = fitting (with_sign (has_minus bytes) (decimal_value (digits_of bytes)))

-- the mark of this byte, which is one of the thirteen
abbrev pub mark_of : ℕ → Mark
mark_of b =
    if b == 61 then Equal
    else if b == 44 then Comma
    else if b == 40 then OpenParenthesis
    else if b == 41 then CloseParenthesis
    else if b == 123 then OpenBrace
    else if b == 125 then CloseBrace
    else if b == 91 then OpenBracket
    else if b == 93 then CloseBracket
    else if b == 60 then Less
    else if b == 62 then Greater
    else if b == 35 then Hash
    else if b == 33 then Exclamation
    else Colon

-- what a token of these bytes is to the grammar
abbrev pub kind_of : TokenKind → List ℕ → Kind
kind_of token.Word bytes = kind.Word (keyword_of bytes)
kind_of token.Local bytes = kind.Local
kind_of token.Global bytes = kind.Global
kind_of token.Number bytes = kind.Number (value_of_number bytes) (has_minus bytes)
kind_of token.Text bytes = kind.Text
kind_of token.Bytes bytes = kind.Bytes
kind_of token.Mark bytes = kind.Mark (mark_of (slice_index bytes 0))

-- the name of a token of these bytes, where it has one
abbrev pub said : TokenKind → List ℕ → Option (List ℕ)
said token.Word bytes = Some bytes
said token.Local bytes = Some (name_said bytes)
said token.Global bytes = Some (name_said bytes)
said token.Number bytes = Some bytes
said token.Text bytes = None
said token.Bytes bytes = Some (bytes_said bytes)
said token.Mark bytes = None

-- a token of this kind has a name
abbrev pub has_name : Kind → Bool
has_name kind.Text = false
has_name (kind.Mark mark) = false
has_name _ = true
