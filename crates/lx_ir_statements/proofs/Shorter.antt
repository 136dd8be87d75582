-- What the tests of the loops see is a token.
use Rattle.std.proofs.Common.{◌≡◌, ◌<◌, true, false, List, [], ◌∷◌, length, arith}
use Rattle.lx_words.proofs.Tests.{and_false}
use Rattle.lx_ir_tokens.specs.declared.token.Tok.{Tok}
use Rattle.lx_ir_terms.specs.Reading.{behind}
use Rattle.lx_ir_statements.specs.declared.body.Run.{Run}
use Rattle.lx_ir_statements.specs.Blocks.{has_label, run_goes_on}

pub label_shorter : (ts : List Tok) → has_label ts ≡ true → length (behind ts) < length ts
label_shorter [] h = cc
label_shorter (t ∷ ts) h = omega arith

pub run_some : (run : Run) (ts : List Tok) → run_goes_on run ts ≡ true → 0 < length ts
run_some run [] h = let f = and_false run.goes_on in cc
run_some run (t ∷ ts) h = omega arith
