-- The lines of a text are its statements, in the lines where they stand.
use Rattle.std.proofs.Common.{◌≡◌, ℕ, ◌+◌, ◌≤◌, List, [], ◌∷◌, ◌++◌, length, refl, sym, ap, ◌∙◌, subst, append_assoc, length-append}
use Rattle.std.specs.List.{AllByRecursion}
use Rattle.lx_words.specs.declared.token.TokenRule.TheVariants as rules
use Rattle.lx_words.specs.declared.token.Token.{Token}
use Rattle.lx_words.specs.Cuts.{Splits, tokens_of, place_after, line_after}
use Rattle.lx_annot.specs.declared.interface.Interface.{Interface}
use Rattle.lx_annot_expressions.specs.Tokens.{toks_of, most_tokens}
use Rattle.lx_annot_expressions.specs.Grammar.{Part, Is, ◌then◌}
use Rattle.lx_annot_read.specs.declared.head.Version.TheVariants as versions
use Rattle.lx_annot_read.proofs.Aside.{Same}
use Rattle.lx_annot_laws.specs.Statements.{Statement, OfReftype, OfIterator, OfSlot, OfField, OfExport, IsStatement, with_statement, Stands, AreStatements}
use Rattle.lx_annot_laws.specs.Says.{text_of, toks}
use Rattle.lx_annot_laws.proofs.Pieces.{texts_joined}
use Rattle.lx_annot_laws.proofs.Scanned.{scanned, toks_there, tokens_joined, place_is, counted}
use Rattle.lx_annot_laws.specs.RoundTripLaws.{IsShort}
use Rattle.lx_annot_laws.proofs.Said.{SaysLine, AreSaid, after, pieces_of}
use Rattle.lx_annot_laws.proofs.Lined.{lined, lined_there, statement_lined, statement_same, more_same}

-- A statement has a token.

pub no_word : (word : List ℕ) (q : Part) → (Is word then q) [] → ⊥
no_word word q (front, back, (t, h, e), rest, w) = cc (w ∙ ap (λ f. f ++ back) e)

no_statement : (i : Interface) (s : Statement) → IsStatement versions.Two i s [] → ⊥
no_statement i (OfReftype name) is = no_word _ _ is
no_statement i (OfIterator x) is = no_word _ _ is
no_statement i (OfSlot x) is = no_word _ _ is
no_statement i (OfField x) is = no_word _ _ is
no_statement i (OfExport x) is = no_word _ _ is

-- a line that is short enough has no more tokens, wherever it stands
few : {p : Part} (t : List ℕ) (h : SaysLine t p) (at line : ℕ) → IsShort t → length (tokens_of at line h.pieces) ≤ most_tokens
few t h at line short =
    let alone : Splits rules.Interface t (tokens_of 0 1 h.pieces) = subst (λ v. Splits rules.Interface v (tokens_of 0 1 h.pieces)) h.whole (scanned h.pieces (h.laid [])) in
    subst (λ n. n ≤ most_tokens) (counted h.pieces 0 1 ∙ sym (counted h.pieces at line)) (short (tokens_of 0 1 h.pieces) alone)

module _ (whole : List ℕ) where
  -- tokens that are a statement, in the line of the first one
  stands : (j : Interface) (s : Statement) (tokens : List Token) → length tokens ≤ most_tokens → IsStatement versions.Two j s (toks_of whole tokens) → (n : ℕ) × Stands whole versions.Two j (lined n s) tokens
  stands j s [] short is = absurd (no_statement j s is)
  stands j s (first ∷ more) short is =
      (first.line, record { first = first; more = more; whole = refl; short = short; line = lined_there first.line s; is = statement_lined j s first.line (toks_of whole (first ∷ more)) is })

  -- The lines that say statements are these statements, in lines of their own.
  pub walked : (i j : Interface) (ss : List Statement) (ts : List (List ℕ)) (h : AreSaid i ss ts) (before rest : List ℕ) (at line : ℕ)
      → Same i j → whole ≡ before ++ (text_of (pieces_of i ss ts h) ++ rest) → at ≡ length before → AllByRecursion IsShort ts
      → (xs : List Statement) × (k : Interface) × AreStatements whole versions.Two j xs k (tokens_of at line (pieces_of i ss ts h)) × Same (after i ss) k
  walked i j [] ts h before rest at line same e l short = ([], j, (refl, refl), same)
  walked i j (s ∷ ss) [] h before rest at line same e l short = absurd h
  walked i j (s ∷ ss) (t ∷ ts) h before rest at line same e l short =
      let ps = h.0.pieces in
      let qs = pieces_of (with_statement i s) ss ts h.1 in
      let here : whole ≡ before ++ (text_of ps ++ (text_of qs ++ rest)) = e ∙ ap (λ v. before ++ (v ++ rest)) (texts_joined ps qs) ∙ ap (λ v. before ++ v) (append_assoc (text_of ps) (text_of qs) rest) in
      let seen : toks_of whole (tokens_of at line ps) ≡ toks ps = toks_there whole ps before (text_of qs ++ rest) at line here l in
      let is : IsStatement versions.Two j s (toks_of whole (tokens_of at line ps)) = subst (IsStatement versions.Two j s) (sym seen) (statement_same i j s (toks ps) same h.0.is) in
      let first = stands j s (tokens_of at line ps) (few t h.0 at line short.0) is in
      let place : place_after at ps ≡ length (before ++ text_of ps) = place_is ps at ∙ ap (λ n. n + length (text_of ps)) l ∙ sym (length-append before (text_of ps)) in
      let others =
      walked (with_statement i s) (with_statement j (lined first.0 s)) ss ts h.1 (before ++ text_of ps) rest (place_after at ps) (line_after line ps)
      (more_same i j s first.0 same) (here ∙ sym (append_assoc before (text_of ps) (text_of qs ++ rest))) place short.1
      in
      (lined first.0 s ∷ others.0, others.1, (tokens_of at line ps, tokens_of (place_after at ps) (line_after line ps) qs, first.1, others.2, tokens_joined ps qs at line), others.3)
