-- One lexeme more.
use Rattle.std.proofs.Common.{◌≡◌, ℕ, ◌+◌, List, [], ◌∷◌, ◌++◌, length, take, drop, refl, sym, ap, ◌∙◌, subst, append_assoc}
use Rattle.std.proofs.lemmas.List.{append-nil, take-append-drop, length-take-le}
use Rattle.lx_words.specs.declared.token.TokenRule.{TokenRule}
use Rattle.lx_words.specs.declared.token.Lexeme.{Lexeme}
use Rattle.lx_words.specs.declared.token.Token.{Token}
use Rattle.lx_words.specs.Lexemes.{lexeme_of}
use Rattle.lx_words.specs.Longest.{Begins}
use Rattle.lx_words.specs.Cuts.{Piece, Cuts, feeds, token_at, tokens_of, place_after, line_after, Reaches}

-- One piece at the end of the others.
cut_more : (rule : TokenRule) (text : List ℕ) (ps : List Piece) (p : Piece) (rest after : List ℕ) → Cuts rule text ps rest → rest ≡ p.bytes ++ after → Begins (lexeme_of rule) rest p.lexeme (length p.bytes) → Cuts rule text (ps ++ p ∷ []) after
cut_more rule text [] p rest after cut e b = (after, cut ∙ e, subst (λ t. Begins (lexeme_of rule) t p.lexeme (length p.bytes)) (sym cut) b, refl)
cut_more rule text (q ∷ ps) p rest after cut e b = (cut.0, cut.1, cut.2, cut_more rule cut.0 ps p rest after cut.3 e b)

tokens_more : (at line : ℕ) (ps : List Piece) (p : Piece) → tokens_of at line (ps ++ p ∷ []) ≡ tokens_of at line ps ++ token_at p.lexeme (place_after at ps) (place_after at ps + length p.bytes) (line_after line ps)
tokens_more at line [] p = append-nil (token_at p.lexeme at (at + length p.bytes) line)
tokens_more at line (q ∷ ps) p = ap (λ ts. token_at q.lexeme at (at + length q.bytes) line ++ ts) (tokens_more (at + length q.bytes) (line + feeds q.bytes) ps p) ∙ sym (append_assoc (token_at q.lexeme at (at + length q.bytes) line) (tokens_of (at + length q.bytes) (line + feeds q.bytes) ps) (token_at p.lexeme (place_after at (q ∷ ps)) (place_after at (q ∷ ps) + length p.bytes) (line_after line (q ∷ ps))))

place_more : (at : ℕ) (ps : List Piece) (p : Piece) → place_after at (ps ++ p ∷ []) ≡ place_after at ps + length p.bytes
place_more at [] p = refl
place_more at (q ∷ ps) p = place_more (at + length q.bytes) ps p

line_more : (line : ℕ) (ps : List Piece) (p : Piece) → line_after line (ps ++ p ∷ []) ≡ line_after line ps + feeds p.bytes
line_more line [] p = refl
line_more line (q ∷ ps) p = line_more (line + feeds q.bytes) ps p

pub reach_more : (rule : TokenRule) (text : List ℕ) (tokens : List Token) (at line : ℕ) (rest : List ℕ) (lexeme : Lexeme) (piece after : List ℕ)
    → Reaches rule text tokens at line rest → rest ≡ piece ++ after → Begins (lexeme_of rule) rest lexeme (length piece)
    → Reaches rule text (tokens ++ token_at lexeme at (at + length piece) line) (at + length piece) (line + feeds piece) after
reach_more rule text tokens at line rest lexeme piece after so_far e b =
    let p : Piece = record { lexeme = lexeme; bytes = piece } in
    record {
      pieces = so_far.pieces ++ p ∷ [];
      cut = cut_more rule text so_far.pieces p rest after so_far.cut e b;
      are = rw (so_far.are, so_far.place, so_far.row) (sym (tokens_more 0 1 so_far.pieces p));
      place = rw (so_far.place) (sym (place_more 0 so_far.pieces p));
      row = rw (so_far.row) (sym (line_more 1 so_far.pieces p));
    }

pub reach_start : (rule : TokenRule) (text : List ℕ) → Reaches rule text [] 0 1 text
reach_start rule text = record { pieces = []; cut = refl; are = refl; place = refl; row = refl }

pub reach_to : (rule : TokenRule) (text : List ℕ) (tokens : List Token) (at line : ℕ) (rest : List ℕ) (lexeme : Lexeme) (n : ℕ) (piece after : List ℕ) (more : List Token) (count : ℕ)
    → Reaches rule text tokens at line rest → piece ≡ take n rest → after ≡ drop n rest → Begins (lexeme_of rule) rest lexeme n → more ≡ tokens ++ token_at lexeme at (at + length piece) line → count ≡ feeds piece
    → Reaches rule text more (at + length piece) (line + count) after
reach_to rule text tokens at line rest lexeme n piece after more count so_far front back b m k =
    let whole : rest ≡ piece ++ after = rw (front, back) (sym (take-append-drop n rest)) in
    let len : length piece ≡ n = rw front (length-take-le n rest b.within) in
    rw (m, k) (reach_more rule text tokens at line rest lexeme piece after so_far whole (rw len b))
