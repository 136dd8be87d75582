-- Texts that differ in names, in spaces and in comments alone.
use Rattle.std.specs.Prelude.{◌≡◌, ℕ, Bool, true, false, None, List, [], ◌∷◌, map, codes, bytes_eq}
use Rattle.std.specs.List.{list_any}
use Rattle.lx_words.specs.declared.token.Token.{Token}
use Rattle.lx_words.specs.declared.token.TokenKind.{TokenKind}
use Rattle.lx_words.specs.declared.token.TokenKind.TheVariants as kinds
use Rattle.lx_words.specs.declared.token.TokenRule.TheVariants as rules
use Rattle.lx_words.specs.Cuts.{Scans}
use Rattle.lx_annot_expressions.specs.Tokens.{Tok, toks_of}

-- what the second version of the language says besides: its number, and the word of the action that lends
abbrev pub words_of_loans : Bool → List (List ℕ)
words_of_loans false = []
words_of_loans true = codes "2" ∷ codes "lend" ∷ []

-- What the language says itself, in a version that may lend or may not: the first line, the words of statements, clauses, lists
-- and types, the marks and the operators. In the first version `lend` is a name as any other.
abbrev pub language : Bool → List (List ℕ)
language lends =
    codes "interface" ∷ codes "1"
    ∷ codes "reftype" ∷ codes "iterator" ∷ codes "slot" ∷ codes "field" ∷ codes "export"
    ∷ codes "principal" ∷ codes "pre" ∷ codes "post" ∷ codes "shared" ∷ codes "global"
    ∷ codes "copy" ∷ codes "transfer" ∷ codes "check" ∷ codes "if"
    ∷ codes "write" ∷ codes "call" ∷ codes "ref" ∷ codes "return" ∷ codes "load64"
    ∷ codes "void" ∷ codes "bool" ∷ codes "i8" ∷ codes "u8" ∷ codes "i16" ∷ codes "u16" ∷ codes "i32" ∷ codes "u32" ∷ codes "i64" ∷ codes "ptr"
    ∷ codes "(" ∷ codes ")" ∷ codes "{" ∷ codes "}" ∷ codes ":" ∷ codes "," ∷ codes ";"
    ∷ codes "||" ∷ codes "&&" ∷ codes "|" ∷ codes "^" ∷ codes "&" ∷ codes "==" ∷ codes "!="
    ∷ codes "<" ∷ codes "<=" ∷ codes ">" ∷ codes ">=" ∷ codes "<<" ∷ codes ">>" ∷ codes "+" ∷ codes "-" ∷ codes "*" ∷ codes "!"
    ∷ words_of_loans lends

-- whether these bytes are of the language itself
abbrev pub is_language : Bool → List ℕ → Bool
is_language lends text = list_any (bytes_eq text) (language lends)

-- Words are put in the place of words: what the language says itself is kept, and two words stay two.
pub record IsRenaming (lends : Bool) (r : List ℕ → List ℕ) : Type 0 where
  pub keeps : (text : List ℕ) → is_language lends text ≡ true → r text ≡ text
  pub apart : (x y : List ℕ) → r x ≡ r y → x ≡ y

-- the bytes of a token behind a renaming: of a word another one, and of all else the same
abbrev pub said : (List ℕ → List ℕ) → TokenKind → List ℕ → List ℕ
said r kinds.Word bytes = r bytes
said r kinds.Local bytes = bytes
said r kinds.Global bytes = bytes
said r kinds.Number bytes = bytes
said r kinds.Text bytes = bytes
said r kinds.Bytes bytes = bytes
said r kinds.Mark bytes = bytes

-- a token behind a renaming
abbrev pub renamed : (List ℕ → List ℕ) → Tok → Tok
renamed r t = record { kind = t.kind; bytes = said r t.kind t.bytes }

-- The second text has the tokens of the first, renamed, whatever stands between them and in whatever lines they stand.
pub record IsRenamed (r : List ℕ → List ℕ) (x y : List ℕ) : Type 0 where
  pub tokens : List Token
  pub others : List Token
  pub scans : Scans rules.Interface x tokens None
  pub other_scans : Scans rules.Interface y others None
  pub same : toks_of y others ≡ map (renamed r) (toks_of x tokens)

-- Two texts have the same tokens: they differ in spaces, comments and lines alone.
pub record HaveSameTokens (x y : List ℕ) : Type 0 where
  pub tokens : List Token
  pub others : List Token
  pub scans : Scans rules.Interface x tokens None
  pub other_scans : Scans rules.Interface y others None
  pub same : toks_of y others ≡ toks_of x tokens
