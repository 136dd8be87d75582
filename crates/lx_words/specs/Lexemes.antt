-- Which bytes, all of them, are a space, a comment or a token.
use Rattle.std.specs.Prelude.{ℕ, zero, suc, List, [], ◌∷◌, Bool, true, false, ◌&&◌, ◌||◌, not, Option, Some, None, nat_le, ◌==◌, if◌then◌else◌}
use Rattle.std.specs.List.{list_all}
use Rattle.lx_words.specs.declared.token.TokenRule.{TokenRule}
use Rattle.lx_words.specs.declared.token.TokenRule.TheVariants.{Ir, Interface, Prototype}
use Rattle.lx_words.specs.declared.token.Lexeme.{Lexeme}
use Rattle.lx_words.specs.declared.token.Lexeme.TheVariants.{Space, Comment, Token}
use Rattle.lx_words.specs.declared.token.TokenKind.TheVariants as kinds

abbrev pub is_within : ℕ → ℕ → ℕ → Bool
is_within low high b = nat_le low b && nat_le b high

-- a space, a tab, a line feed or a carriage return
abbrev pub is_space : ℕ → Bool
is_space b = b == 32 || b == 9 || b == 10 || b == 13

abbrev pub is_digit : ℕ → Bool
is_digit b = is_within 48 57 b

-- a letter, `$`, `.` or `_`
abbrev pub is_word_start : ℕ → Bool
is_word_start b = is_within 65 90 b || is_within 97 122 b || b == 36 || b == 46 || b == 95

abbrev pub is_word_byte : ℕ → Bool
is_word_byte b = is_word_start b || is_digit b

abbrev pub is_name_byte : ℕ → Bool
is_name_byte b = is_word_byte b || b == 45

abbrev pub is_hex : ℕ → Bool
is_hex b = is_digit b || is_within 65 70 b || is_within 97 102 b

-- printable, but the quote and the backslash
abbrev pub is_quoted_name_byte : ℕ → Bool
is_quoted_name_byte b = is_within 32 126 b && not (b == 34) && not (b == 92)

-- any byte but the quote
abbrev pub is_text_byte : ℕ → Bool
is_text_byte b = not (b == 34)

-- printable or from 128 on
abbrev pub is_plain_byte : ℕ → Bool
is_plain_byte b = nat_le 32 b && not (b == 127)

abbrev pub is_ir_mark : ℕ → Bool
is_ir_mark b = b == 61 || b == 44 || b == 40 || b == 41 || b == 123 || b == 125 || b == 91 || b == 93 || b == 60 || b == 62 || b == 35 || b == 33 || b == 58

abbrev pub is_nil : List ℕ → Bool
is_nil [] = true
is_nil (b ∷ bs) = false

-- bytes that pass, and a quote as the last
abbrev pub ends_quoted : (ℕ → Bool) → List ℕ → Bool
ends_quoted p [] = false
ends_quoted p (b ∷ bs) = if b == 34 then is_nil bs else p b && ends_quoted p bs

-- the same, where a backslash stands before two hexadecimal digits; the number is how many of these are still to come
abbrev pub ends_escaped : ℕ → List ℕ → Bool
ends_escaped digits [] = false
ends_escaped (suc digits) (b ∷ bs) = is_hex b && ends_escaped digits bs
ends_escaped zero (b ∷ bs) = if b == 34 then is_nil bs else if b == 92 then ends_escaped 2 bs else is_plain_byte b && ends_escaped 0 bs

-- one byte or more that pass
abbrev pub some_all : (ℕ → Bool) → List ℕ → Bool
some_all p [] = false
some_all p (b ∷ bs) = p b && list_all p bs

-- behind a quote: one byte or more, and the quote
abbrev pub ends_name : List ℕ → Bool
ends_name [] = false
ends_name (b ∷ bs) = is_quoted_name_byte b && ends_quoted is_quoted_name_byte bs

-- what stands behind the `%` or `@` of a name
abbrev pub is_name : List ℕ → Bool
is_name [] = false
is_name (b ∷ bs) = if b == 34 then ends_name bs else some_all is_name_byte (b ∷ bs)

-- what stands behind the `c` of a byte string
abbrev pub is_escaped : List ℕ → Bool
is_escaped [] = false
is_escaped (b ∷ bs) = b == 34 && ends_escaped 0 bs

-- the byte that alone begins a comment up to the end of the line
abbrev pub is_comment_mark : TokenRule → ℕ → Bool
is_comment_mark Ir b = b == 59
is_comment_mark Interface b = b == 35
is_comment_mark Prototype b = false

-- any byte but a line feed
abbrev pub is_line_byte : ℕ → Bool
is_line_byte b = not (b == 10)

-- behind the `/*` of a comment: bytes up to the first `*/`; starred says whether the byte before is a `*` of them
abbrev pub ends_block : Bool → List ℕ → Bool
ends_block starred [] = false
ends_block starred (b ∷ bs) = if starred && b == 47 then is_nil bs else ends_block (b == 42) bs

-- behind the first `/` of a comment: a second one and the line, or `*` and what follows up to `*/`
abbrev pub is_slashed : List ℕ → Bool
is_slashed [] = false
is_slashed (b ∷ bs) = if b == 47 then list_all is_line_byte bs else b == 42 && ends_block false bs

abbrev pub when : Bool → Lexeme → Option Lexeme
when test lexeme = if test then Some lexeme else None

-- `= >` behind such a byte makes one mark
abbrev pub is_interface_mark : ℕ → List ℕ → Bool
is_interface_mark b [] = b == 58 || b == 40 || b == 41 || b == 123 || b == 125 || b == 44 || b == 59 || b == 43 || b == 45 || b == 42 || b == 38 || b == 124 || b == 94 || b == 60 || b == 62 || b == 33
is_interface_mark b (c ∷ bs) = is_nil bs && (if c == 61 then b == 61 || b == 33 || b == 60 || b == 62 else b == c && (b == 60 || b == 62 || b == 38 || b == 124))

-- the tokens and comments that a byte begins in some of the forms alone
unfoldable pub other_lexeme : TokenRule → ℕ → List ℕ → Option Lexeme
other_lexeme Ir b bs = if b == 64 then when (is_name bs) (Token kinds.Global) else if b == 34 then when (ends_quoted is_text_byte bs) (Token kinds.Text) else if b == 45 then when (some_all is_digit bs) (Token kinds.Number) else when (is_ir_mark b && is_nil bs) (Token kinds.Mark)
other_lexeme Interface b bs = when (is_interface_mark b bs) (Token kinds.Mark)
other_lexeme Prototype b bs = if b == 47 then when (is_slashed bs) Comment else when (is_interface_mark b bs) (Token kinds.Mark)

-- a word, or in IR text a byte string
abbrev pub word_lexeme : TokenRule → ℕ → List ℕ → Option Lexeme
word_lexeme Ir b bs = if list_all is_word_byte bs then Some (Token kinds.Word) else when (b == 99 && is_escaped bs) (Token kinds.Bytes)
word_lexeme Interface b bs = when (list_all is_word_byte bs) (Token kinds.Word)
word_lexeme Prototype b bs = when (list_all is_word_byte bs) (Token kinds.Word)

-- what a first byte and the bytes behind it are, all of them
unfoldable pub lexeme_behind : TokenRule → ℕ → List ℕ → Option Lexeme
lexeme_behind rule b bs = if is_space b then when (is_nil bs) Space else if is_comment_mark rule b then when (list_all is_line_byte bs) Comment else if b == 37 then when (is_name bs) (Token kinds.Local) else if is_digit b then when (list_all is_digit bs) (Token kinds.Number) else if is_word_start b then word_lexeme rule b bs else other_lexeme rule b bs

-- what these bytes are, all of them
abbrev pub lexeme_of : TokenRule → List ℕ → Option Lexeme
lexeme_of rule [] = None
lexeme_of rule (b ∷ bs) = lexeme_behind rule b bs
