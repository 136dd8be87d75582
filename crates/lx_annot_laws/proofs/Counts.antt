-- There are no more tokens than bytes, and no more statements than tokens.
use Rattle.std.proofs.Common.{◌≡◌, ℕ, suc, ◌+◌, ◌≤◌, None, List, [], ◌∷◌, length, ap, ◌∙◌, arith}
use Rattle.std.proofs.lemmas.List.{length-append}
use Rattle.lx_words.specs.declared.token.TokenRule.{TokenRule}
use Rattle.lx_words.specs.declared.token.Lexeme.TheVariants as lexemes
use Rattle.lx_words.specs.declared.token.Token.{Token}
use Rattle.lx_words.specs.Cuts.{Piece, Cuts, token_at, tokens_of, feeds, Scans}
use Rattle.lx_words.proofs.CutCounts.{some_byte, one_token}
use Rattle.lx_annot.specs.declared.interface.Interface.{Interface}
use Rattle.lx_annot_read.specs.declared.head.Version.{Version}
use Rattle.lx_annot_laws.specs.Statements.{Statement, OfReftype, OfIterator, OfSlot, OfField, OfExport, with_statement, AreStatements}

tokens_few : (rule : TokenRule) (pieces : List Piece) (at line : ℕ) (text rest : List ℕ) → Cuts rule text pieces rest → length (tokens_of at line pieces) ≤ length text
tokens_few rule [] at line text rest cut = omega arith
tokens_few rule (p ∷ ps) at line text rest (after, e, begins, cut) =
    let one = one_token p.lexeme at (at + length p.bytes) line in
    let some = some_byte rule text p.lexeme (length p.bytes) begins in
    let more = tokens_few rule ps (at + length p.bytes) (line + feeds p.bytes) after rest cut in
    let size : length text ≡ length p.bytes + length after = ap length e ∙ length-append p.bytes after in
    let all = length-append (token_at p.lexeme at (at + length p.bytes) line) (tokens_of (at + length p.bytes) (line + feeds p.bytes) ps) in
    omega (arith, one, some, more, size, all)

pub scanned_few : (rule : TokenRule) (text : List ℕ) (tokens : List Token) → Scans rule text tokens None → length tokens ≤ length text
scanned_few rule text tokens (at, line, r) =
    let few = tokens_few rule r.pieces 0 1 text [] r.cut in
    let same = ap length r.are in
    omega (arith, few, same)

-- a count that no statement raises by more than one
abbrev pub Slow : (Interface → ℕ) → Type 0
Slow count = (i : Interface) (s : Statement) → count (with_statement i s) ≤ suc (count i)

pub counted : (text : List ℕ) (v : Version) (count : Interface → ℕ) → Slow count → (i j : Interface) (ss : List Statement) (tokens : List Token) → AreStatements text v i ss j tokens → count j ≤ count i + length tokens
counted text v count slow i j [] tokens (same, e) = let k = ap count same in omega (arith, k)
counted text v count slow i j (s ∷ ss) tokens (front, back, stands, are, e) =
    let one = slow i s in
    let more = counted text v count slow (with_statement i s) j ss back are in
    let some = ap length stands.whole in
    let size : length tokens ≡ length front + length back = ap length e ∙ length-append front back in
    omega (arith, one, more, some, size)

pub slow_reftypes : Slow (λ i. length i.reftypes)
slow_reftypes i (OfReftype x) = let n = length-append i.reftypes (x ∷ []) in omega (arith, n)
slow_reftypes i (OfIterator x) = omega arith
slow_reftypes i (OfSlot x) = omega arith
slow_reftypes i (OfField x) = omega arith
slow_reftypes i (OfExport x) = omega arith

pub slow_iterators : Slow (λ i. length i.iterators)
slow_iterators i (OfReftype x) = omega arith
slow_iterators i (OfIterator x) = let n = length-append i.iterators (x ∷ []) in omega (arith, n)
slow_iterators i (OfSlot x) = omega arith
slow_iterators i (OfField x) = omega arith
slow_iterators i (OfExport x) = omega arith

pub slow_slots : Slow (λ i. length i.slots)
slow_slots i (OfReftype x) = omega arith
slow_slots i (OfIterator x) = omega arith
slow_slots i (OfSlot x) = let n = length-append i.slots (x ∷ []) in omega (arith, n)
slow_slots i (OfField x) = omega arith
slow_slots i (OfExport x) = omega arith

pub slow_fields : Slow (λ i. length i.fields)
slow_fields i (OfReftype x) = omega arith
slow_fields i (OfIterator x) = omega arith
slow_fields i (OfSlot x) = omega arith
slow_fields i (OfField x) = let n = length-append i.fields (x ∷ []) in omega (arith, n)
slow_fields i (OfExport x) = omega arith

pub slow_exports : Slow (λ i. length i.exports)
slow_exports i (OfReftype x) = omega arith
slow_exports i (OfIterator x) = omega arith
slow_exports i (OfSlot x) = omega arith
slow_exports i (OfField x) = omega arith
slow_exports i (OfExport x) = let n = length-append i.exports (x ∷ []) in omega (arith, n)
