-- The tokens of a text have the bytes of tokens, and so has each part of them.
use Rattle.std.proofs.Common.{◌≡◌, ℕ, List, [], ◌∷◌, ◌++◌, None, ap, ◌∙◌, subst}
use Rattle.std.proofs.lemmas.List.{map-append}
use Rattle.lx_words.specs.declared.token.TokenRule.TheVariants as rules
use Rattle.lx_words.specs.declared.token.Token.{Token}
use Rattle.lx_words.specs.Cuts.{Scans}
use Rattle.lx_words.proofs.Standing.{tokens_stand}
use Rattle.lx_annot_expressions.specs.Tokens.{Tok, tok_of, toks_of}
use Rattle.lx_annot_laws.specs.Says.{AreLexed, IsLexed}
use Rattle.lx_annot_laws.proofs.Named.{lexed_of, lexed_parts}

-- what stands in front
pub front_lexed : (ts front back : List Tok) → ts ≡ front ++ back → AreLexed ts → AreLexed front
front_lexed ts front back e h = (lexed_parts front back (subst AreLexed e h)).0

-- what stands behind it
pub back_lexed : (ts front back : List Tok) → ts ≡ front ++ back → AreLexed ts → AreLexed back
back_lexed ts front back e h = (lexed_parts front back (subst AreLexed e h)).1

-- one token
pub one_lexed : (ts : List Tok) (t : Tok) → ts ≡ t ∷ [] → AreLexed ts → IsLexed t
one_lexed ts t e h = (subst AreLexed e h).0

-- the tokens of a text in two parts
pub toks_split : (text : List ℕ) (tokens front back : List Token) → tokens ≡ front ++ back → toks_of text tokens ≡ toks_of text front ++ toks_of text back
toks_split text tokens front back e = ap (toks_of text) e ∙ map-append (tok_of text) front back

-- all tokens of a text
pub scanned_lexed : (text : List ℕ) (tokens : List Token) → Scans rules.Interface text tokens None → AreLexed (toks_of text tokens)
scanned_lexed text tokens (at, line, r) = lexed_of text tokens (tokens_stand rules.Interface text tokens at line [] r)
