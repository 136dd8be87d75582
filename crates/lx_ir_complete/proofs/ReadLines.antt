-- The tokens of a text of lines are all kept.
use Rattle.std.proofs.Common.{◌≡◌, ℕ, ◌+◌, ◌<◌, List, [], ◌∷◌, ◌++◌, length, Bool, true, false, not, ◌&&◌, ◌||◌, filter, refl, sym, ap, ◌∙◌, subst, arith, Option, Some, None, append_assoc, length-append}
use Rattle.std.specs.Prelude.{◌==◌, if◌then◌else◌, flat_map}
use Rattle.std.specs.List.{AllZip, AllByRecursion, list_all}
use Rattle.std.proofs.lemmas.Bool.{and_parts, and_from, or_right}
use Rattle.std.proofs.lemmas.List.{append-nil}
use Rattle.std.proofs.lemmas.List.Folds.{list_all-append}
use Rattle.lx_words.specs.declared.token.TokenRule.TheVariants.{Ir}
use Rattle.lx_words.specs.declared.token.Lexeme.{Lexeme}
use Rattle.lx_words.specs.declared.token.Lexeme.TheVariants.{Space, Comment, Token as token}
use Rattle.lx_words.specs.declared.token.Token.{Token}
use Rattle.lx_words.specs.declared.token.Stop.{Stop}
use Rattle.lx_words.specs.Lexemes.{is_line_byte, lexeme_of, lexeme_behind}
use Rattle.lx_words.specs.Cuts.{Piece, Scans, Splits, OneWay, bytes_of, feeds, token_at, tokens_of, place_after, line_after}
use Rattle.lx_words.proofs.Tests.{below_other as other, same_test}
use Rattle.lx_words.proofs.Lists.{between}
use Rattle.lx_ir_tokens.specs.declared.read.IrTokens.{IrTokens}
use Rattle.lx_ir_tokens.specs.Lines.{is_mark, begins_silence, is_silent, from_line, kept_tokens, colon_first as colon_token}
use Rattle.lx_ir_tokens.specs.Reading.{IsTokOf, ReadsAs}
use Rattle.lx_ir_terms.specs.Grammar.{Part}
use Rattle.lx_ir_complete.specs.Pieces.{text_of, AreLaid, Lex, lex_of, lexes}
use Rattle.lx_ir_complete.specs.Printed.{IsSeen, AreCalm}
use Rattle.lx_ir_complete.specs.Lines.{line_of, colon_first, is_kept, IsLine, PrintsLines}
use Rattle.lx_ir_complete.proofs.Joining.{texts_joined, lexes_joined, laid_joined}
use Rattle.lx_ir_complete.proofs.Scanned.{scanned, seen}

abbrev newline : Piece
newline = record { lexeme = Space; bytes = 10 ∷ [] }

-- the pieces of lines, with their line feeds
abbrev pub pieces_of : List (List Piece) → List Piece
pieces_of [] = []
pieces_of (ps ∷ lines) = ps ++ newline ∷ pieces_of lines

pub text_of_lines : (lines : List (List Piece)) → text_of (pieces_of lines) ≡ flat_map line_of lines
text_of_lines [] = refl
text_of_lines (ps ∷ lines) =
    texts_joined ps (newline ∷ pieces_of lines) ∙ sym (append_assoc (text_of ps) (10 ∷ []) (text_of (pieces_of lines))) ∙ ap (λ t. line_of ps ++ t) (text_of_lines lines)

lexes_of_lines : (lines : List (List Piece)) → lexes (pieces_of lines) ≡ flat_map lexes lines
lexes_of_lines [] = refl
lexes_of_lines (ps ∷ lines) = lexes_joined ps (newline ∷ pieces_of lines) ∙ ap (λ ls. lexes ps ++ ls) (lexes_of_lines lines)

a_newline : lexeme_of Ir (10 ∷ []) ≡ Some Space
unfolding lexeme_behind
a_newline = refl

laid_lines : (lines : List (List Piece)) → AllByRecursion IsLine lines → AreLaid (pieces_of lines) []
laid_lines [] h = tt
laid_lines (ps ∷ lines) h = laid_joined ps (newline ∷ pieces_of lines) [] (h.0.laid (text_of (pieces_of lines) ++ [])) (a_newline, refl, laid_lines lines h.1)

-- Tokens of lines.

feedless : (bs : List ℕ) → list_all is_line_byte bs ≡ true → feeds bs ≡ 0
feedless [] h = refl
feedless (b ∷ bs) h =
    let both = and_parts (is_line_byte b) (list_all is_line_byte bs) h in
    let other : (b == 10) ≡ false = not_true (b == 10) both.0 in
    rw other (feedless bs both.1)
  where
    not_true : (v : Bool) → not v ≡ true → v ≡ false
    not_true true e = cc e
    not_true false e = refl

tokens_joined : (at line : ℕ) (ps qs : List Piece) → tokens_of at line (ps ++ qs) ≡ tokens_of at line ps ++ tokens_of (place_after at ps) (line_after line ps) qs
tokens_joined at line [] qs = refl
tokens_joined at line (p ∷ ps) qs =
    ap (λ ts. token_at p.lexeme at (at + length p.bytes) line ++ ts) (tokens_joined (at + length p.bytes) (line + feeds p.bytes) ps qs)
    ∙ sym (append_assoc (token_at p.lexeme at (at + length p.bytes) line) (tokens_of (at + length p.bytes) (line + feeds p.bytes) ps) (tokens_of (place_after at (p ∷ ps)) (line_after line (p ∷ ps)) qs))

all_front : (p : ℕ → Bool) (xs ys : List ℕ) → list_all p (xs ++ ys) ≡ true → (list_all p xs ≡ true) × (list_all p ys ≡ true)
all_front p xs ys h = and_parts (list_all p xs) (list_all p ys) (sym (list_all-append p xs ys) ∙ h)

-- the line stays within a line
line_stays : (line : ℕ) (ps : List Piece) → list_all is_line_byte (text_of ps) ≡ true → line_after line ps ≡ line
line_stays line [] h = refl
line_stays line (p ∷ ps) h =
    let both = all_front is_line_byte p.bytes (text_of ps) h in
    let same : line + feeds p.bytes ≡ line = omega (arith, feedless p.bytes both.0) in
    ap (λ k. line_after k ps) same ∙ line_stays line ps both.1

place_is : (at : ℕ) (ps : List Piece) → place_after at ps ≡ at + length (text_of ps)
place_is at [] = omega arith
place_is at (p ∷ ps) = place_is (at + length p.bytes) ps ∙ omega (arith, length-append p.bytes (text_of ps))

-- all of these tokens stand in this line
abbrev InLine : ℕ → List Token → Type 0
InLine line ts = AllByRecursion (λ t. t.line ≡ line) ts

one_in_line : (lexeme : Lexeme) (at end line : ℕ) (ts : List Token) → InLine line ts → InLine line (token_at lexeme at end line ++ ts)
one_in_line Space at end line ts h = h
one_in_line Comment at end line ts h = h
one_in_line (token kind) at end line ts h = (refl, h)

in_line : (at line : ℕ) (ps : List Piece) → list_all is_line_byte (text_of ps) ≡ true → InLine line (tokens_of at line ps)
in_line at line [] h = tt
in_line at line (p ∷ ps) h =
    let both = all_front is_line_byte p.bytes (text_of ps) h in
    let same : line ≡ line + feeds p.bytes = omega (arith, feedless p.bytes both.0) in
    one_in_line p.lexeme at (at + length p.bytes) line (tokens_of (at + length p.bytes) (line + feeds p.bytes) ps)
    (subst (λ k. InLine line (tokens_of (at + length p.bytes) k ps)) same (in_line (at + length p.bytes) line ps both.1))

-- all of these tokens stand before this line
abbrev BeforeLine : ℕ → List Token → Type 0
BeforeLine line ts = AllByRecursion (λ t. t.line < line) ts

before_joined : (line : ℕ) (xs ys : List Token) → BeforeLine line xs → InLine line ys → BeforeLine (line + 1) (xs ++ ys)
before_joined line [] [] h k = tt
before_joined line [] (y ∷ ys) h k = (omega (arith, k.0), before_joined line [] ys tt k.1)
before_joined line (x ∷ xs) ys h k = (omega (arith, h.0), before_joined line xs ys h.1 k)

-- the tokens from the first of a line on
from_it : (line : ℕ) (before : List Token) (t : Token) (ts : List Token) → BeforeLine line before → t.line ≡ line → from_line line (before ++ t ∷ ts) ≡ t ∷ ts
from_it line [] t ts h e = ap (λ b. if b then t ∷ ts else from_line line ts) (same_test t.line line e)
from_it line (u ∷ before) t ts h e =
    ap (λ b. if b then u ∷ before ++ t ∷ ts else from_line line (before ++ t ∷ ts)) (other u.line line h.0) ∙ from_it line before t ts h.1 e

-- a token at its place
pub record IsAt (text : List ℕ) (l : Lex) (t : Token) : Type 0 where
  pub kind : t.kind ≡ l.kind
  pub bytes : bytes_of text t ≡ l.bytes

module _ (text : List ℕ) where
  one_at : (lexeme : Lexeme) (bytes before after : List ℕ) (at line : ℕ) (ls : List Lex) (ts : List Token) → text ≡ before ++ (bytes ++ after) → at ≡ length before
      → AllZip (IsAt text) ls ts → AllZip (IsAt text) (lex_of lexeme bytes ++ ls) (token_at lexeme at (at + length bytes) line ++ ts)
  one_at Space bytes before after at line ls ts e l h = h
  one_at Comment bytes before after at line ls ts e l h = h
  one_at (token kind) bytes before after at line ls ts e l h = (record { kind = refl; bytes = between text before bytes after at e l }, h)

  all_at : (ps : List Piece) (before rest : List ℕ) (at line : ℕ) → text ≡ before ++ (text_of ps ++ rest) → at ≡ length before → AllZip (IsAt text) (lexes ps) (tokens_of at line ps)
  all_at [] before rest at line e l = tt
  all_at (p ∷ ps) before rest at line e l =
      let here : text ≡ before ++ (p.bytes ++ (text_of ps ++ rest)) = e ∙ ap (λ t. before ++ t) (append_assoc p.bytes (text_of ps) rest) in
      one_at p.lexeme p.bytes before (text_of ps ++ rest) at line (lexes ps) (tokens_of (at + length p.bytes) (line + feeds p.bytes) ps) here l
      (all_at ps (before ++ p.bytes) rest (at + length p.bytes) (line + feeds p.bytes) (here ∙ sym (append_assoc before p.bytes (text_of ps ++ rest))) (ap (λ n. n + length p.bytes) l ∙ sym (length-append before p.bytes)))

  -- a line that is kept is not silent, whatever stands behind it
  colon_same : (ls : List Lex) (ts more : List Token) → AllZip (IsAt text) ls ts → colon_first ls ≡ true → colon_token text (ts ++ more) ≡ true
  colon_same [] ts more h k = cc k
  colon_same (l ∷ ls) [] more h k = absurd h
  colon_same (l ∷ ls) (t ∷ ts) more h k = ap (λ b. is_mark 58 t.kind b) h.0.bytes ∙ ap (λ q. is_mark 58 q l.bytes) h.0.kind ∙ k

  heard : (v w : Bool) → (not v || w) ≡ true → (v && not w) ≡ false
  heard true true h = refl
  heard true false h = cc h
  heard false w h = refl

  not_silent : (l : Lex) (ls : List Lex) (t : Token) (ts more : List Token) → AllZip (IsAt text) (l ∷ ls) (t ∷ ts) → is_kept (l ∷ ls) ≡ true → is_silent text (t ∷ ts ++ more) ≡ false
  not_silent l ls t ts more h k = by (colon_first ls) refl k
    where
      first : begins_silence t.kind (bytes_of text t) ≡ begins_silence l.kind l.bytes
      first = ap (λ b. begins_silence t.kind b) h.0.bytes ∙ ap (λ q. begins_silence q l.bytes) h.0.kind

      loud : (v : Bool) → (not v || false) ≡ true → v ≡ false
      loud true q = cc q
      loud false q = refl

      by : (v : Bool) → colon_first ls ≡ v → (not (begins_silence l.kind l.bytes) || v) ≡ true → is_silent text (t ∷ ts ++ more) ≡ false
      by true e q = ap (λ c. begins_silence t.kind (bytes_of text t) && not c) (colon_same ls ts more h.1 e) ∙ heard (begins_silence t.kind (bytes_of text t)) true (or_right (not (begins_silence t.kind (bytes_of text t))) true refl)
      by false e q = ap (λ c. c && not (colon_token text (ts ++ more))) (first ∙ loud (begins_silence l.kind l.bytes) q)

  abbrev stays : List Token → Token → Bool
  stays all t = not (is_silent text (from_line t.line all))

  in_line_stay : (all : List Token) (line : ℕ) (ts : List Token) → InLine line ts → is_silent text (from_line line all) ≡ false → list_all (stays all) ts ≡ true
  in_line_stay all line [] h q = refl
  in_line_stay all line (t ∷ ts) h q =
      and_from (stays all t) (list_all (stays all) ts) (ap (λ k. not (is_silent text (from_line k all))) h.0 ∙ ap not q) (in_line_stay all line ts h.1 q)

  line_stay : (all before : List Token) (line : ℕ) (ls : List Lex) (ts more : List Token) → all ≡ before ++ (ts ++ more) → BeforeLine line before → InLine line ts → AllZip (IsAt text) ls ts → is_kept ls ≡ true → list_all (stays all) ts ≡ true
  line_stay all before line ls [] more e b h z k = refl
  line_stay all before line [] (t ∷ ts) more e b h z k = absurd z
  line_stay all before line (l ∷ ls) (t ∷ ts) more e b h z k =
      in_line_stay all line (t ∷ ts) h (ap (λ us. is_silent text (from_line line us)) e ∙ ap (is_silent text) (from_it line before t (ts ++ more) b h.0) ∙ not_silent l ls t ts more z k)

  all_stay : (all before : List Token) (front : List ℕ) (at line : ℕ) (lines : List (List Piece)) → AllByRecursion IsLine lines → text ≡ front ++ text_of (pieces_of lines) → at ≡ length front
      → all ≡ before ++ tokens_of at line (pieces_of lines) → BeforeLine line before → list_all (stays all) (tokens_of at line (pieces_of lines)) ≡ true
  all_stay all before front at line [] h e l a b = refl
  all_stay all before front at line (ps ∷ lines) h e l a b =
      let ts : List Token = tokens_of at line ps in
      let end : ℕ = at + length (text_of ps) in
      let rest : List Token = tokens_of (end + 1) (line + 1) (pieces_of lines) in
      let place : place_after at ps ≡ end = place_is at ps in
      let row : line_after line ps ≡ line = line_stays line ps h.0.one_line in
      let parts : tokens_of at line (ps ++ newline ∷ pieces_of lines) ≡ ts ++ rest =
      tokens_joined at line ps (newline ∷ pieces_of lines) ∙ ap (λ i. ts ++ tokens_of i (line_after line ps) (newline ∷ pieces_of lines)) place ∙ ap (λ k. ts ++ tokens_of end k (newline ∷ pieces_of lines)) row
      in
      let whole : text ≡ front ++ (text_of ps ++ (10 ∷ text_of (pieces_of lines))) = e ∙ ap (λ t. front ++ t) (texts_joined ps (newline ∷ pieces_of lines)) in
      let next : text ≡ (front ++ (text_of ps ++ 10 ∷ [])) ++ text_of (pieces_of lines) =
      whole ∙ ap (λ t. front ++ t) (sym (append_assoc (text_of ps) (10 ∷ []) (text_of (pieces_of lines)))) ∙ sym (append_assoc front (text_of ps ++ 10 ∷ []) (text_of (pieces_of lines)))
      in
      let size : end + 1 ≡ length (front ++ (text_of ps ++ 10 ∷ [])) = omega (arith, l, length-append front (text_of ps ++ 10 ∷ []), length-append (text_of ps) (10 ∷ [])) in
      let here : list_all (stays all) ts ≡ true =
      line_stay all before line (lexes ps) ts rest (a ∙ ap (λ us. before ++ us) parts) b (in_line at line ps h.0.one_line) (all_at ps front (10 ∷ text_of (pieces_of lines)) at line whole l) h.0.kept
      in
      let there : list_all (stays all) rest ≡ true =
      all_stay all (before ++ ts) (front ++ (text_of ps ++ 10 ∷ [])) (end + 1) (line + 1) lines h.1 next size (a ∙ ap (λ us. before ++ us) parts ∙ sym (append_assoc before ts rest)) (before_joined line before ts b (in_line at line ps h.0.one_line))
      in
      ap (list_all (stays all)) parts ∙ list_all-append (stays all) ts rest ∙ and_from (list_all (stays all) ts) (list_all (stays all) rest) here there

  filter_all : (p : Token → Bool) (ts : List Token) → list_all p ts ≡ true → filter p ts ≡ ts
  filter_all p [] h = refl
  filter_all p (t ∷ ts) h =
      let both = and_parts (p t) (list_all p ts) h in
      rw (both.0) (ap (λ us. t ∷ us) (filter_all p ts both.1))

  all_kept : (tokens : List Token) → list_all (stays tokens) tokens ≡ true → kept_tokens text tokens ≡ tokens
  unfolding kept_tokens
  all_kept tokens h = filter_all (stays tokens) tokens h

  only_tokens : (tokens : List Token) (ts : List Token) (stop : Option Stop) → OneWay Ir text → Splits Ir text tokens → Scans Ir text ts stop → (ts ≡ tokens) × (stop ≡ None)
  only_tokens tokens ts None way h k = (way.whole ts tokens k h, refl)
  only_tokens tokens ts (Some s) way h k = absurd (way.apart tokens ts s h k)

-- The tokens of a text of lines, as they are read, are those of its lines.
pub lines_seen : (text : List ℕ) (lines : List (List Piece)) → AllByRecursion IsLine lines → (ir : IrTokens) → OneWay Ir text → flat_map line_of lines ≡ text → ReadsAs text ir → AllZip (IsSeen ir.names) (flat_map lexes lines) ir.toks × (ir.stop ≡ None)
lines_seen text lines each ir way whole reads =
    let ps : List Piece = pieces_of lines in
    let same : text_of ps ≡ text = text_of_lines lines ∙ whole in
    let laid : AreLaid ps [] = laid_lines lines each in
    let splits : Splits Ir text (tokens_of 0 1 ps) = subst (λ t. Splits Ir t (tokens_of 0 1 ps)) same (scanned ps laid) in
    let only = only_tokens text (tokens_of 0 1 ps) reads.tokens ir.stop way splits reads.scans in
    let stay : list_all (stays text (tokens_of 0 1 ps)) (tokens_of 0 1 ps) ≡ true = all_stay text (tokens_of 0 1 ps) [] [] 0 1 lines each (sym same) refl refl tt in
    let places : ir.places ≡ tokens_of 0 1 ps = reads.places ∙ ap (kept_tokens text) only.0 ∙ all_kept text (tokens_of 0 1 ps) stay in
    let toks : AllZip (IsTokOf text ir.names) (tokens_of 0 1 ps) ir.toks = subst (λ ts. AllZip (IsTokOf text ir.names) ts ir.toks) places reads.toks in
    let toks_of : AllZip (IsTokOf (text_of ps) ir.names) (tokens_of 0 1 ps) ir.toks = subst (λ t. AllZip (IsTokOf t ir.names) (tokens_of 0 1 ps) ir.toks) (sym same) toks in
    let are : AllZip (IsSeen ir.names) (lexes ps) ir.toks = seen ps ir.names ir.toks toks_of in
    (subst (λ ls. AllZip (IsSeen ir.names) ls ir.toks) (lexes_of_lines lines) are, only.1)

-- The same of a text of lines that says a part of the grammar.
pub lines_read : {plain : Bool} (text : List ℕ) (part : Part) (ir : IrTokens) → OneWay Ir text → PrintsLines plain ir.names text part → ReadsAs text ir → part ir.toks × (ir.stop ≡ None)
lines_read text part ir way lines reads =
    let are = lines_seen text lines.lines lines.each ir way lines.whole reads in
    (lines.says ir.toks are.0, are.1)

-- Its tokens are calm.
pub lines_calm : {plain : Bool} (text : List ℕ) (part : Part) (ir : IrTokens) → OneWay Ir text → PrintsLines plain ir.names text part → ReadsAs text ir → AreCalm plain ir.names ir.toks
lines_calm {plain} text part ir way lines reads =
    let are = lines_seen text lines.lines lines.each ir way lines.whole reads in
    subst (AreCalm plain ir.names) (append-nil ir.toks) (lines.calm ir.toks [] are.0 tt)
