-- Laws on pieces: how a text that is laid out as lexemes is scanned.
use Rattle.std.specs.Prelude.{◌≡◌, List, [], None}
use Rattle.lx_words.specs.declared.token.TokenRule.TheVariants as rules
use Rattle.lx_words.specs.Cuts.{Piece, Scans, tokens_of}
use Rattle.lx_annot_expressions.specs.Tokens.{toks_of}
use Rattle.lx_annot_laws.specs.Says.{text_of, AreLaid, toks}

-- Where each piece is a lexeme that ends where the next begins, the text falls into these pieces and no others.
abbrev pub LaidAreScanned : Type 0
LaidAreScanned = (ps : List Piece) → AreLaid ps [] → Scans rules.Interface (text_of ps) (tokens_of 0 1 ps) None

-- The tokens of such a text are those of its pieces, wherever they stand.
abbrev pub PlacesDoNotCount : Type 0
PlacesDoNotCount = (ps : List Piece) → toks_of (text_of ps) (tokens_of 0 1 ps) ≡ toks ps
