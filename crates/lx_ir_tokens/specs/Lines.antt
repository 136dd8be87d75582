-- Lines that say nothing to the grammar, and are passed over.
use Rattle.std.specs.Prelude.{ℕ, ◌≤◌, List, [], ◌∷◌, Bool, false, not, ◌&&◌, ◌||◌, ◌==◌, if◌then◌else◌, filter, length, ◌-◌, slice_get, slice_index}
use Rattle.std.specs.Option.{option_map_or}
use Rattle.lx_words.specs.declared.token.TokenKind.{TokenKind}
use Rattle.lx_words.specs.declared.token.TokenKind.TheVariants as token
use Rattle.lx_words.specs.declared.token.Token.{Token}
use Rattle.lx_words.specs.Cuts.{bytes_of}
use Rattle.lx_ir_tokens.specs.Keywords.{keyword_of, is_heading}

-- a token of this kind and these bytes is the mark of this byte
abbrev pub is_mark : ℕ → TokenKind → List ℕ → Bool
is_mark b token.Mark bytes = slice_index bytes 0 == b
is_mark b _ bytes = false

-- a heading word, a word that begins with `$`, or `!`
abbrev pub begins_silence : TokenKind → List ℕ → Bool
begins_silence token.Word bytes = slice_index bytes 0 == 36 || is_heading (keyword_of bytes)
begins_silence kind bytes = is_mark 33 kind bytes

-- the first of these tokens is `:`
abbrev pub colon_first : List ℕ → List Token → Bool
colon_first text [] = false
colon_first text (t ∷ ts) = is_mark 58 t.kind (bytes_of text t)

-- a line that begins with the first of these tokens is passed over
abbrev pub is_silent : List ℕ → List Token → Bool
is_silent text [] = false
is_silent text (t ∷ ts) = begins_silence t.kind (bytes_of text t) && not (colon_first text ts)

-- the tokens from the first of a line on
abbrev pub from_line : ℕ → List Token → List Token
from_line line [] = []
from_line line (t ∷ ts) = if t.line == line then t ∷ ts else from_line line ts

-- the tokens of the lines that are not passed over
unfoldable pub kept_tokens : List ℕ → List Token → List Token
kept_tokens text tokens = filter (λ t. not (is_silent text (from_line t.line tokens))) tokens

-- the line of the last token, or 1 where there is none
abbrev pub last_line : List Token → ℕ
last_line tokens = option_map_or (λ t. t.line) (slice_get tokens (length tokens - 1)) 1

-- the lines of tokens begin at this one and do not fall
abbrev pub Ascends : ℕ → List Token → Type 0
Ascends line [] = Unit {0}
Ascends line (t ∷ ts) = (line ≤ t.line) × Ascends t.line ts
