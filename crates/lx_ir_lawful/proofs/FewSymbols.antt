-- A module has no more things than its text has bytes.
use Rattle.std.proofs.Common.{◌≡◌, ℕ, suc, ◌+◌, ◌≤◌, Bool, true, false, List, [], ◌∷◌, ◌++◌, length, Option, Some, None, ap, ◌∙◌, subst, arith}
use Rattle.std.specs.Prelude.{if◌then◌else◌}
use Rattle.std.proofs.lemmas.List.{length-append}
use Rattle.std.proofs.lemmas.Slice.Zip.{AllZip-long}
use Rattle.lx_words.specs.declared.token.TokenRule.{TokenRule}
use Rattle.lx_words.specs.declared.token.TokenRule.TheVariants.{Ir}
use Rattle.lx_words.specs.declared.token.Lexeme.TheVariants as lexemes
use Rattle.lx_words.specs.declared.token.Token.{Token}
use Rattle.lx_words.specs.declared.token.Stop.{Stop}
use Rattle.lx_words.specs.Cuts.{Reaches, Scans}
use Rattle.lx_words.proofs.CutCounts.{cut_few}
use Rattle.lx_ir.specs.declared.types.NamedType.{NamedType}
use Rattle.lx_ir.specs.declared.module.GlobalVar.{GlobalVar}
use Rattle.lx_ir.specs.declared.module.Function.{Function}
use Rattle.lx_ir_tokens.specs.declared.token.Tok.{Tok}
use Rattle.lx_ir_tokens.specs.declared.read.IrTokens.{IrTokens}
use Rattle.lx_ir_tokens.specs.Lines.{kept_tokens}
use Rattle.lx_ir_tokens.specs.Reading.{IsTokOf, ReadsAs}
use Rattle.lx_ir_lawful.proofs.NameNumbers.{fewer_kept}
use Rattle.lx_ir_terms.specs.Context.{Context, bytes_of}
use Rattle.lx_ir_calls.specs.declared.intrinsics.TextForm.{TextForm}
use Rattle.lx_ir_statements.specs.declared.form.Statement.{Statement}
use Rattle.lx_ir_statements.specs.declared.form.Statement.TheVariants as statements
use Rattle.lx_ir_statements.specs.declared.defined.Defined.{Defined}
use Rattle.lx_ir_statements.specs.Defined.{is_block_write}
use Rattle.lx_ir_statements.specs.Grammar.{IsStatement}
use Rattle.lx_ir_tables.specs.Numbering.{Numbering}
use Rattle.lx_ir_read.specs.declared.first.Found.{Found}
use Rattle.lx_ir_read.specs.declared.draft.Draft.{Draft}
use Rattle.lx_ir_read.specs.Again.{registers_in, with_defined, with_declared, import_of, local_names, kept}
use Rattle.lx_ir_read.specs.Fault.{line_shown}
use Rattle.lx_ir_read.specs.Grammar.{AreStatements, AddAll}

-- Tokens.

reached_few : (rule : TokenRule) (text : List ℕ) (tokens : List Token) (at line : ℕ) (rest : List ℕ) → Reaches rule text tokens at line rest → length tokens ≤ length text
reached_few rule text tokens at line rest r =
    let few = cut_few rule r.pieces 0 1 text rest r.cut in
    let same = ap length r.are in
    omega (arith, few, same)

scanned_few : (text : List ℕ) (tokens : List Token) (stop : Option Stop) → Scans Ir text tokens stop → length tokens ≤ length text
scanned_few text tokens None (at, line, r) = reached_few Ir text tokens at line [] r
scanned_few text tokens (Some stop) (at, more, r, nothing) = reached_few Ir text tokens at stop.line (stop.byte ∷ more) r

-- a text has no more tokens than bytes
pub tokens_few : (text : List ℕ) (ir : IrTokens) → ReadsAs text ir → length ir.toks ≤ length text
tokens_few text ir reads =
    let long : length ir.toks ≡ length ir.places = AllZip-long (IsTokOf text ir.names) ir.places ir.toks reads.toks in
    let same : length ir.places ≡ length (kept_tokens text reads.tokens) = ap length reads.places in
    let kept = fewer_kept text reads.tokens in
    let all = scanned_few text reads.tokens ir.stop reads.scans in
    omega (arith, long, same, kept, all)

-- Statements.

one_first : (t : Tok) (f b ts : List Tok) → f ≡ t ∷ [] → ts ≡ f ++ b → 1 ≤ length ts
one_first t f b ts e w =
    let size : length ts ≡ length f + length b = ap length w ∙ length-append f b in
    let one : length f ≡ 1 = ap length e in
    omega (arith, size, one)

some_token : (c : Context) (form : TextForm) (places : List Token) (defined : Defined) (s : Statement) (ts us : List Tok) → IsStatement c form places defined s ts us → 1 ≤ length ts
some_token c form places defined (statements.Type name ty) ts us (fresh, (f, b, (t, k, local, ty_name, e), rest, w)) = one_first t f b ts e w
some_token c form places defined (statements.Global name constant ty init) ts us (fresh, (f, b, (t, n, e), rest, w)) = one_first t f b ts e w
some_token c form places defined (statements.Import name ret params) ts us (may, (f, b, (t, k, e), rest, w)) = one_first t f b ts e w
some_token c form places defined (statements.Function name ret params blocks) ts us (fresh, plain, (head, before, behind, (f, b, (t, k, e), rest, w), body, same, whole)) =
    let one = one_first t f b before e w in
    let size : length ts ≡ length before + length behind = ap length whole ∙ length-append before behind in
    omega (arith, one, size)

abbrev pub size_of : Draft → ℕ
size_of d = length d.types + length d.globals + length d.imports + length d.functions

import_size : (b : Bool) (d : Draft) (f : Function) → size_of (if b then d else with_declared d f) ≤ suc (size_of d)
import_size true d f = omega arith
import_size false d f = let n = length-append d.imports (f ∷ []) in omega (arith, n)

kept_size : (c : Context) (registers : Numbering) (line : ℕ) (d : Draft) (s : Statement) → size_of (kept c registers line (with_defined c d s) s) ≤ suc (size_of d)
kept_size c registers line d (statements.Type name ty) =
    let x : NamedType = record { name = bytes_of c name; ty = ty } in
    let n = length-append d.types (x ∷ []) in omega (arith, n)
kept_size c registers line d (statements.Global name constant ty init) =
    let x : GlobalVar = record { name = bytes_of c name; constant = constant; ty = ty; init = init; line = line } in
    let n = length-append d.globals (x ∷ []) in omega (arith, n)
kept_size c registers line d (statements.Import name ret params) =
    import_size (is_block_write c name) (with_defined c d (statements.Import name ret params)) (import_of (bytes_of c name) ret params line)
kept_size c registers line d (statements.Function name ret params blocks) =
    let x : Function = record { name = bytes_of c name; params = params; locals = local_names c.names (length params) registers; ret = ret; blocks = Some blocks; line = line } in
    let n = length-append d.functions (x ∷ []) in omega (arith, n)

-- each statement has a token, and adds a thing at most
pub things_few : (u c : Context) (form : TextForm) (places : List Token) (toks : List Tok) (fs : List Found) (defined : Defined) (ts : List Tok) (d e : Draft) → AreStatements u form places defined fs ts → AddAll c form places toks d fs e → size_of e ≤ size_of d + length ts
things_few u c form places toks [] defined ts d e falls says = let same : size_of d ≡ size_of e = ap size_of says in omega (arith, same)
things_few u c form places toks (f ∷ fs) defined ts d e (front, back, left, is, more, w) (m, (s, front2, back2, is2, w2, k), rest) =
    let one : size_of m ≤ suc (size_of d) = subst (λ (x : Draft). size_of x ≤ suc (size_of d)) k (kept_size c (registers_in c.names f.statement) (line_shown places f.left) d s) in
    let some : 1 ≤ length front = some_token u form places defined f.statement front back is in
    let size : length ts ≡ length front + length back = ap length w ∙ length-append front back in
    let others = things_few u c form places toks fs _ back m e more rest in
    omega (arith, one, some, size, others)
