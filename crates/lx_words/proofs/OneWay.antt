-- A text is cut in one way.
use Rattle.std.proofs.Common.{◌≡◌, ℕ, zero, suc, ◌≤◌, ◌<◌, List, [], ◌∷◌, ◌++◌, length, take, refl, sym, ap, ◌∙◌, subst, arith, Option, Some, None, ◌⊎◌, inl, inr}
use Rattle.std.proofs.lemmas.List.{take_at, append_cancel_left}
use Rattle.std.proofs.lemmas.Bool.{cases_order}
use Rattle.lx_words.specs.declared.token.TokenRule.{TokenRule}
use Rattle.lx_words.specs.declared.token.Lexeme.{Lexeme}
use Rattle.lx_words.specs.declared.token.Token.{Token}
use Rattle.lx_words.specs.declared.token.Stop.{Stop}
use Rattle.lx_words.specs.Lexemes.{lexeme_of}
use Rattle.lx_words.specs.Longest.{Begins, NothingBegins}
use Rattle.lx_words.specs.Cuts.{Piece, Cuts, tokens_of, line_after, Reaches, OneWay}
use Rattle.lx_words.proofs.Standing.{stop_stands}

not_both : (f : List ℕ → Option Lexeme) (t : List ℕ) (l : Lexeme) (n : ℕ) → NothingBegins f t → Begins f t l n → ⊥
not_both f t l n none b = let e : f (take n t) ≡ None = none.none n b.within in cc (b.is, e)

nothing_ends : (rule : TokenRule) → (m : ℕ) → m ≤ 0 → lexeme_of rule (take m []) ≡ None
nothing_ends rule zero le = refl
nothing_ends rule (suc m) le = absurd (omega arith)

ended : (rule : TokenRule) → NothingBegins (lexeme_of rule) []
ended rule = record { none = nothing_ends rule }

shorter : (f : List ℕ → Option Lexeme) (t : List ℕ) (k l : Lexeme) (m n : ℕ) → Begins f t k m → Begins f t l n → m < n → ⊥
shorter f t k l m n b c lt = let e : f (take n t) ≡ None = b.longer n lt c.within in cc (c.is, e)

same_length : (f : List ℕ → Option Lexeme) (t : List ℕ) (k l : Lexeme) (m n : ℕ) → Begins f t k m → Begins f t l n → (m ≡ n) ⊎ ((m < n) ⊎ (n < m)) → m ≡ n
same_length f t k l m n b c (inl e) = e
same_length f t k l m n b c (inr (inl lt)) = absurd (shorter f t k l m n b c lt)
same_length f t k l m n b c (inr (inr lt)) = absurd (shorter f t l k n m c b lt)

abbrev make_piece : Lexeme → List ℕ → Piece
make_piece l b = record { lexeme = l; bytes = b }

equal_pieces : (p q : Piece) → p.lexeme ≡ q.lexeme → p.bytes ≡ q.bytes → p ≡ q
equal_pieces p q e f = ap (λ l. make_piece l p.bytes) e ∙ ap (λ b. make_piece q.lexeme b) f

same_piece : (rule : TokenRule) (t u v : List ℕ) (p q : Piece) → t ≡ p.bytes ++ u → t ≡ q.bytes ++ v → Begins (lexeme_of rule) t p.lexeme (length p.bytes) → Begins (lexeme_of rule) t q.lexeme (length q.bytes) → (p ≡ q) × (u ≡ v)
same_piece rule t u v p q e f b c =
    let n : length p.bytes ≡ length q.bytes = same_length (lexeme_of rule) t p.lexeme q.lexeme (length p.bytes) (length q.bytes) b c (cases_order (length p.bytes) (length q.bytes)) in
    let x : take (length p.bytes) t ≡ p.bytes = ap (take (length p.bytes)) e ∙ take_at p.bytes u (length p.bytes) refl in
    let y : take (length q.bytes) t ≡ q.bytes = ap (take (length q.bytes)) f ∙ take_at q.bytes v (length q.bytes) refl in
    let bytes : p.bytes ≡ q.bytes = sym x ∙ ap (λ m. take m t) n ∙ y in
    let is : lexeme_of rule (take (length p.bytes) t) ≡ Some p.lexeme = b.is in
    let same : lexeme_of rule (take (length p.bytes) t) ≡ Some q.lexeme = ap (λ m. lexeme_of rule (take m t)) n ∙ c.is in
    let lexeme : p.lexeme ≡ q.lexeme = cc (is, same) in
    let both : p.bytes ++ u ≡ p.bytes ++ v = sym e ∙ f ∙ ap (λ w. w ++ v) (sym bytes) in
    (equal_pieces p q lexeme bytes, append_cancel_left p.bytes u v both)

one_cut : (rule : TokenRule) (t : List ℕ) (ps qs : List Piece) (r s : List ℕ) → Cuts rule t ps r → Cuts rule t qs s → NothingBegins (lexeme_of rule) r → NothingBegins (lexeme_of rule) s → (ps ≡ qs) × (r ≡ s)
one_cut rule t [] [] r s c d x y = (refl, sym c ∙ d)
one_cut rule t [] (q ∷ qs) r s c d x y = absurd (not_both (lexeme_of rule) t q.lexeme (length q.bytes) (subst (λ u. NothingBegins (lexeme_of rule) u) (sym c) x) d.2)
one_cut rule t (p ∷ ps) [] r s c d x y = absurd (not_both (lexeme_of rule) t p.lexeme (length p.bytes) (subst (λ u. NothingBegins (lexeme_of rule) u) (sym d) y) c.2)
one_cut rule t (p ∷ ps) (q ∷ qs) r s c d x y =
    let first = same_piece rule t c.0 d.0 p q c.1 d.1 c.2 d.2 in
    let others = one_cut rule c.0 ps qs r s c.3 (subst (λ u. Cuts rule u qs s) (sym first.1) d.3) x y in
    (cc (first.0, others.0), others.1)

one_reach : (rule : TokenRule) (t : List ℕ) (a b : List Token) (at line at' line' : ℕ) (r s : List ℕ) → Reaches rule t a at line r → Reaches rule t b at' line' s → NothingBegins (lexeme_of rule) r → NothingBegins (lexeme_of rule) s → (a ≡ b) × (line ≡ line') × (r ≡ s)
one_reach rule t a b at line at' line' r s c d x y =
    let same = one_cut rule t c.pieces d.pieces r s c.cut d.cut x y in
    (c.are ∙ ap (tokens_of 0 1) same.0 ∙ sym d.are, c.row ∙ ap (line_after 1) same.0 ∙ sym d.row, same.1)

abbrev make_stop : ℕ → ℕ → Stop
make_stop l b = record { line = l; byte = b }

same_stop : (s t : Stop) → s.line ≡ t.line → s.byte ≡ t.byte → s ≡ t
same_stop s t e f = ap (λ l. make_stop l s.byte) e ∙ ap (λ b. make_stop t.line b) f

pub one_way : (rule : TokenRule) (text : List ℕ) → OneWay rule text
one_way rule text = record {
  whole = λ a b x y. (one_reach rule text a b x.0 x.1 y.0 y.1 [] [] x.2 y.2 (ended rule) (ended rule)).0;
  stop = λ a b s t x y. let e = one_reach rule text a b x.0 s.line y.0 t.line (s.byte ∷ x.1) (t.byte ∷ y.1) x.2 y.2 x.3 y.3 in (e.0, same_stop s t e.1 (cc (e.2)));
  apart = λ a b s x y. let e = one_reach rule text a b x.0 x.1 y.0 s.line [] (s.byte ∷ y.1) x.2 y.2 (ended rule) y.3 in cc (e.2);
  place = stop_stands rule text;
}
