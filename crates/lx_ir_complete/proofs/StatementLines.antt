-- Lines one after the other.
use Rattle.std.proofs.Common.{◌≡◌, ℕ, List, [], ◌∷◌, ◌++◌, Bool, true, refl, sym, ap, ◌∙◌, subst, append_assoc}
use Rattle.std.specs.Prelude.{codes, flat_map}
use Rattle.std.specs.List.{AllZip, AllByRecursion, list_all}
use Rattle.std.proofs.lemmas.Bool.{and_parts, or_left}
use Rattle.std.proofs.lemmas.List.{append-nil}
use Rattle.std.proofs.lemmas.Grind.{flat_map-append}
use Rattle.lx_words.specs.Lexemes.{is_line_byte}
use Rattle.lx_words.specs.Cuts.{Piece}
use Rattle.lx_ir_tokens.specs.declared.token.Tok.{Tok}
use Rattle.lx_ir_terms.specs.Grammar.{Part, IsNothing, ◌then◌}
use Rattle.lx_ir_complete.specs.Pieces.{Lex, lexes, text_of}
use Rattle.lx_ir_complete.specs.Printed.{IsSeen, is_loud, AreCalm, Prints}
use Rattle.lx_ir_complete.specs.Lines.{line_of, colon_first, is_kept, IsLine, PrintsLines}
use Rattle.lx_ir_complete.proofs.Joining.{split, nothing_calm}

kept_if_loud : (ls : List Lex) → list_all is_loud ls ≡ true → is_kept ls ≡ true
kept_if_loud [] h = refl
kept_if_loud (l ∷ ls) h = or_left (is_loud l) (colon_first ls) (and_parts (is_loud l) (list_all is_loud ls) h).0

both : {A : Type 0} (P : A → Type 0) (xs ys : List A) → AllByRecursion P xs → AllByRecursion P ys → AllByRecursion P (xs ++ ys)
both P [] ys h k = k
both P (x ∷ xs) ys h k = (h.0, both P xs ys h.1 k)

nothing_said : (names : List (List ℕ)) (toks : List Tok) → AllZip (IsSeen names) [] toks → toks ≡ []
nothing_said names [] h = refl
nothing_said names (t ∷ ts) h = absurd h

module _ {plain : Bool} {names : List (List ℕ)} where
  -- pieces as a line
  pub piece_line : {t : List ℕ} {p : Part} (ps : List Piece) → text_of ps ≡ t → IsLine ps → ((toks : List Tok) → AllZip (IsSeen names) (lexes ps) toks → p toks)
      → ((toks more : List Tok) → AllZip (IsSeen names) (lexes ps) toks → AreCalm plain names more → AreCalm plain names (toks ++ more)) → PrintsLines plain names (t ++ codes "\n") p
  piece_line {t} ps e is says calm = record {
    lines = ps ∷ [];
    whole = append-nil (line_of ps) ∙ ap (λ u. u ++ codes "\n") e;
    each = (is, tt);
    says = λ toks h. says toks (subst (λ ls. AllZip (IsSeen names) ls toks) (append-nil (lexes ps)) h);
    calm = λ toks more h. calm toks more (subst (λ ls. AllZip (IsSeen names) ls toks) (append-nil (lexes ps)) h);
  }

  -- a text as a line
  pub line : {t : List ℕ} {p : Part} → Prints plain names t p → PrintsLines plain names (t ++ codes "\n") p
  line a =
      piece_line a.pieces a.whole
      (record {
        laid = λ more. a.laid (10 ∷ more) refl;
        one_line = ap (list_all is_line_byte) a.whole ∙ a.one_line;
        kept = kept_if_loud (lexes a.pieces) a.loud;
      })
      a.says a.calm

  pub no_lines : PrintsLines plain names [] IsNothing
  no_lines = record { lines = []; whole = refl; each = tt; says = nothing_said names; calm = nothing_calm plain names }

  -- lines, and others behind them
  pub lines : {t u : List ℕ} {p q : Part} → PrintsLines plain names t p → PrintsLines plain names u q → PrintsLines plain names (t ++ u) (p then q)
  lines {t} {u} a b = record {
    lines = a.lines ++ b.lines;
    whole = flat_map-append line_of a.lines b.lines ∙ ap (λ v. v ++ flat_map line_of b.lines) a.whole ∙ ap (λ v. t ++ v) b.whole;
    each = both IsLine a.lines b.lines a.each b.each;
    says = λ toks h.
        let s = split (IsSeen names) (flat_map lexes a.lines) (flat_map lexes b.lines) toks (subst (λ ls. AllZip (IsSeen names) ls toks) (flat_map-append lexes a.lines b.lines) h) in
        (s.front, s.back, a.says s.front s.first, b.says s.back s.second, s.whole);
    calm = λ toks more h c.
        let s = split (IsSeen names) (flat_map lexes a.lines) (flat_map lexes b.lines) toks (subst (λ ls. AllZip (IsSeen names) ls toks) (flat_map-append lexes a.lines b.lines) h) in
        subst (AreCalm plain names) (sym (ap (λ ts. ts ++ more) s.whole ∙ append_assoc s.front s.back more)) (a.calm s.front (s.back ++ more) s.first (b.calm s.back more s.second c));
  }

  -- the same lines, and another reading of their tokens
  pub lines_as : {t : List ℕ} {p q : Part} → ((ts : List Tok) → p ts → q ts) → PrintsLines plain names t p → PrintsLines plain names t q
  lines_as f a = record { lines = a.lines; whole = a.whole; each = a.each; says = λ toks h. f toks (a.says toks h); calm = a.calm }

  pub same_lines : {t u : List ℕ} {p : Part} → t ≡ u → PrintsLines plain names t p → PrintsLines plain names u p
  same_lines {p = p} e a = subst (λ v. PrintsLines plain names v p) e a
