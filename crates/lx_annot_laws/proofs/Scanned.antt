-- Laid pieces are what a text is cut into.
use Rattle.std.proofs.Common.{◌≡◌, ℕ, suc, ◌+◌, ◌-◌, ◌<◌, ◌≤◌, List, [], ◌∷◌, ◌++◌, length, take, true, refl, sym, ap, ◌∙◌, subst, arith, Some, None, append_assoc, length-append}
use Rattle.std.proofs.lemmas.List.{append-nil, take_at}
use Rattle.lx_words.specs.declared.token.TokenRule.TheVariants.{Interface}
use Rattle.lx_words.specs.declared.token.Lexeme.{Lexeme}
use Rattle.lx_words.specs.declared.token.Lexeme.TheVariants.{Space, Comment, Token}
use Rattle.lx_words.specs.declared.token.Token.{Token as TokenOfText}
use Rattle.lx_words.specs.Lexemes.{lexeme_of}
use Rattle.lx_words.specs.Longest.{Begins}
use Rattle.lx_words.specs.Cuts.{Piece, Cuts, Scans, feeds, token_at, tokens_of, place_after, line_after}
use Rattle.lx_words.proofs.Lists.{take_over, between}
use Rattle.lx_annot_expressions.specs.Tokens.{Tok, toks_of}
use Rattle.lx_annot_laws.specs.Says.{ends_before, text_of, AreLaid, tok_in, toks}
use Rattle.lx_annot_laws.proofs.Ends.{lost}

no_longer : (bytes : List ℕ) (r : ℕ) (more : List ℕ) (l : Lexeme) → lexeme_of Interface bytes ≡ Some l → ends_before l bytes (r ∷ more) ≡ true → lexeme_of Interface (bytes ++ r ∷ more) ≡ None
no_longer [] r more l e h = cc e
no_longer (b ∷ bs) r more l e h = lost b bs r more l h e

-- what is said of a rest whose first byte is this one
same_end : (bytes : List ℕ) (r : ℕ) (rest more : List ℕ) (l : Lexeme) → ends_before l bytes (r ∷ rest) ≡ true → ends_before l bytes (r ∷ more) ≡ true
same_end bytes r rest more Space h = h
same_end bytes r rest more Comment h = h
same_end bytes r rest more (Token Rattle.lx_words.specs.declared.token.TokenKind.TheVariants.Mark) h = h
same_end bytes r rest more (Token k) h = h

longer : (bytes rest : List ℕ) (l : Lexeme) → lexeme_of Interface bytes ≡ Some l → ends_before l bytes rest ≡ true → (m : ℕ) → length bytes < m → m ≤ length (bytes ++ rest) → lexeme_of Interface (take m (bytes ++ rest)) ≡ None
longer bytes [] l e h m lt le = let n = ap length (append-nil bytes) in absurd (omega (arith, n, lt, le))
longer bytes (r ∷ rest) l e h m lt le =
    let k : ℕ = m - length bytes - 1 in
    let n : m ≡ length bytes + suc k = omega arith in
    ap (lexeme_of Interface) (take_over bytes r rest k m n) ∙ no_longer bytes r (take k rest) l e (same_end bytes r rest (take k rest) l h)

-- A lexeme begins a text whose rest does not lengthen it.
pub begins : (bytes rest : List ℕ) (l : Lexeme) → lexeme_of Interface bytes ≡ Some l → ends_before l bytes rest ≡ true → Begins (lexeme_of Interface) (bytes ++ rest) l (length bytes)
begins bytes rest l e h = record {
  within = omega (arith, length-append bytes rest);
  is = ap (lexeme_of Interface) (take_at bytes rest (length bytes) refl) ∙ e;
  longer = longer bytes rest l e h;
}

pub cut : (ps : List Piece) (rest : List ℕ) → AreLaid ps rest → Cuts Interface (text_of ps ++ rest) ps rest
cut [] rest h = refl
cut (p ∷ ps) rest h =
    let whole : (p.bytes ++ text_of ps) ++ rest ≡ p.bytes ++ (text_of ps ++ rest) = append_assoc p.bytes (text_of ps) rest in
    (text_of ps ++ rest, whole, subst (λ t. Begins (lexeme_of Interface) t p.lexeme (length p.bytes)) (sym whole) (begins p.bytes (text_of ps ++ rest) p.lexeme h.0 h.1), cut ps rest h.2)

pub scanned : (ps : List Piece) → AreLaid ps [] → Scans Interface (text_of ps) (tokens_of 0 1 ps) None
scanned ps h = (
  place_after 0 ps,
  line_after 1 ps,
  record {
    pieces = ps;
    cut = subst (λ t. Cuts Interface t ps []) (append-nil (text_of ps)) (cut ps [] h);
    are = refl;
    place = refl;
    row = refl;
  },
)

module _ (whole : List ℕ) where
  -- the token of a lexeme, before those behind it
  one_there : (lexeme : Lexeme) (bytes before after : List ℕ) (at line : ℕ) (ts : List TokenOfText) (us : List Tok) → whole ≡ before ++ (bytes ++ after) → at ≡ length before → toks_of whole ts ≡ us
      → toks_of whole (token_at lexeme at (at + length bytes) line ++ ts) ≡ tok_in lexeme bytes ++ us
  one_there Space bytes before after at line ts us e l h = h
  one_there Comment bytes before after at line ts us e l h = h
  one_there (Token kind) bytes before after at line ts us e l h = λ j. record { kind = kind; bytes = between whole before bytes after at e l j } ∷ h j

  -- The tokens of pieces that stand in a text are those of the pieces.
  pub toks_there : (ps : List Piece) (before after : List ℕ) (at line : ℕ) → whole ≡ before ++ (text_of ps ++ after) → at ≡ length before → toks_of whole (tokens_of at line ps) ≡ toks ps
  toks_there [] before after at line e l = refl
  toks_there (p ∷ ps) before after at line e l =
      let here : whole ≡ before ++ (p.bytes ++ (text_of ps ++ after)) = e ∙ ap (λ t. before ++ t) (append_assoc p.bytes (text_of ps) after) in
      one_there p.lexeme p.bytes before (text_of ps ++ after) at line (tokens_of (at + length p.bytes) (line + feeds p.bytes) ps) (toks ps) here l
      (toks_there ps (before ++ p.bytes) after (at + length p.bytes) (line + feeds p.bytes) (here ∙ sym (append_assoc before p.bytes (text_of ps ++ after))) (ap (λ n. n + length p.bytes) l ∙ sym (length-append before p.bytes)))

pub placed : (ps : List Piece) → toks_of (text_of ps) (tokens_of 0 1 ps) ≡ toks ps
placed ps = toks_there (text_of ps) ps [] [] 0 1 (sym (append-nil (text_of ps))) refl

-- tokens of pieces side by side
pub tokens_joined : (ps qs : List Piece) (at line : ℕ) → tokens_of at line (ps ++ qs) ≡ tokens_of at line ps ++ tokens_of (place_after at ps) (line_after line ps) qs
tokens_joined [] qs at line = refl
tokens_joined (p ∷ ps) qs at line =
    ap (λ ts. token_at p.lexeme at (at + length p.bytes) line ++ ts) (tokens_joined ps qs (at + length p.bytes) (line + feeds p.bytes))
    ∙ sym (append_assoc (token_at p.lexeme at (at + length p.bytes) line) (tokens_of (at + length p.bytes) (line + feeds p.bytes) ps) (tokens_of (place_after (at + length p.bytes) ps) (line_after (line + feeds p.bytes) ps) qs))

pub place_is : (ps : List Piece) (at : ℕ) → place_after at ps ≡ at + length (text_of ps)
place_is [] at = omega arith
place_is (p ∷ ps) at = omega (arith, place_is ps (at + length p.bytes), length-append p.bytes (text_of ps))

-- how many tokens there are hangs on the pieces alone
one_counted : (lexeme : Lexeme) (bytes : List ℕ) (at end line : ℕ) (ts : List TokenOfText) (us : List Tok) → length ts ≡ length us → length (token_at lexeme at end line ++ ts) ≡ length (tok_in lexeme bytes ++ us)
one_counted Space bytes at end line ts us h = h
one_counted Comment bytes at end line ts us h = h
one_counted (Token kind) bytes at end line ts us h = ap suc h

pub counted : (ps : List Piece) (at line : ℕ) → length (tokens_of at line ps) ≡ length (toks ps)
counted [] at line = refl
counted (p ∷ ps) at line = one_counted p.lexeme p.bytes at (at + length p.bytes) line (tokens_of (at + length p.bytes) (line + feeds p.bytes) ps) (toks ps) (counted ps (at + length p.bytes) (line + feeds p.bytes))
