use Rattle.std.proofs.Common.{◌≡◌, ◌∙◌, ◌≤◌, List, All, length, arith, ap, subst, sym}
use Rattle.std.proofs.lemmas.Slice.Zip.{AllZip-long}
use Rattle.lx_words.specs.declared.token.TokenRule.TheVariants.{Ir}
use Rattle.lx_words.specs.declared.token.Token.{Token}
use Rattle.lx_words.specs.Cuts.{IsTokenOf}
use Rattle.lx_ir_tokens.specs.Lines.{kept_tokens, Ascends}
use Rattle.lx_ir_tokens.specs.Reading.{IsTokOf}
use Rattle.lx_ir_tokens.proofs.Scanned.{lines_ascend, at_most_bytes, all_within}
use Rattle.lx_ir_tokens.proofs.KeptLines.{fewer_kept, all_kept}
use Rattle.lx_ir_tokens.proofs.OneReading.{all_numbered}
use Rattle.lx_ir_tokens.proofs.read.read_tokens.Goals as goal

pub kept_tokens-requires-clause-ascending : goal.kept_tokens-requires-clause-ascending
kept_tokens-requires-clause-ascending c =
    subst (Ascends 1) (sym c.as_slice-tokens.ensures) (lines_ascend Ir c.args.text.now c.in_ok-scanned.scanned.tokens c.in_ok-scanned.scanned.stop c.in_ok-scanned.ensures.scans)

pub all_seen-requires-clause-within : goal.all_seen-requires-clause-within
all_seen-requires-clause-within c =
    let text = c.args.text.now in
    let tokens = c.in_ok-scanned.scanned.tokens in
    let e : c.as_slice.result.now ≡ kept_tokens text tokens = c.as_slice.ensures ∙ c.in_ok-places.ensures ∙ ap (kept_tokens text) c.as_slice-tokens.ensures in
    let each : All (IsTokenOf Ir text) c.as_slice.result.now = subst (λ (ts : List Token). All (IsTokenOf Ir text) ts) (sym e) (all_kept (IsTokenOf Ir text) text tokens c.in_ok-scanned.ensures.each) in
    all_within Ir text c.as_slice.result.now each

pub all_seen-requires-clause-room : goal.all_seen-requires-clause-room
all_seen-requires-clause-room c =
    let text = c.args.text.now in
    let tokens = c.in_ok-scanned.scanned.tokens in
    let e : c.as_slice.result.now ≡ kept_tokens text tokens = c.as_slice.ensures ∙ c.in_ok-places.ensures ∙ ap (kept_tokens text) c.as_slice-tokens.ensures in
    let all : length tokens ≤ length text = at_most_bytes Ir text tokens c.in_ok-scanned.scanned.stop c.in_ok-scanned.ensures.scans in
    omega (arith, all, fewer_kept text tokens, ap (λ (ts : List Token). length ts) e)

pub returns-clause-each : goal.returns-clause-each
returns-clause-each c =
    let text = c.args.text.now in
    let tokens = c.in_ok-scanned.scanned.tokens in
    let e : c.in_ok-places.places ≡ kept_tokens text tokens = c.in_ok-places.ensures ∙ ap (kept_tokens text) c.as_slice-tokens.ensures in
    subst (λ (ts : List Token). All (IsTokenOf Ir text) ts) (sym e) (all_kept (IsTokenOf Ir text) text tokens c.in_ok-scanned.ensures.each)

pub returns-clause-paired : goal.returns-clause-paired
returns-clause-paired c =
    AllZip-long (IsTokOf c.args.text.now c.all_seen.new.names) c.as_slice.result.now c.in_ok-toks.toks c.in_ok-toks.ensures.toks ∙ ap (λ (ts : List Token). length ts) c.as_slice.ensures

pub returns-clause-numbered : goal.returns-clause-numbered
returns-clause-numbered c =
    all_numbered c.args.text.now c.all_seen.new.names c.as_slice.result.now c.in_ok-toks.toks c.in_ok-toks.ensures.toks
