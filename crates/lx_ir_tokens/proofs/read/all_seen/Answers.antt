use Rattle.std.proofs.Common.{◌+◌, ◌++◌, ◌∷◌, [], List, get_or, length, take, ap, subst, sym, arith}
use Rattle.std.specs.List.{AllZip}
use Rattle.lx_words.specs.declared.token.TokenKind.TheVariants.{Word}
use Rattle.lx_words.specs.declared.token.Token.{Token}
use Rattle.lx_ir_tokens.specs.declared.token.Tok.{Tok}
use Rattle.lx_ir_tokens.specs.Reading.{said_at, IsTokOf}
use Rattle.lx_ir_tokens.proofs.Growing.{table_more, seen_more, grows_by_one}
use Rattle.lx_ir_tokens.proofs.read.all_seen.Goals as goal

-- what stands past the end of a list of tokens
abbrev none : Token
none = record { kind = Word; start = 0; end = 0; line = 0 }

pub loop-place-preserved : goal.loop-place-preserved
loop-place-preserved c =
    let text = c.args.text.now in
    let places = c.args.places.now in
    let i = c.loop-place.place-index in
    let names = c.loop-place.names in
    let more = c.seen.new.names in
    let toks = c.loop-place.toks in
    let tok = c.in_ok-tok.tok in
    let seen : AllZip (IsTokOf text more) (take (i + 1) places) (toks ++ tok ∷ []) = seen_more text places i none names more toks tok c.loop-place-test.true c.in_ok-tok.ensures.table c.loop-place.invariant.seen c.in_ok-tok.ensures.tok in
    let one = grows_by_one names (said_at text (get_or places i none)) in
    let e = ap (λ (ns : List (List _)). length ns) c.in_ok-tok.ensures.table in
    record {
      table = table_more text places i none names more c.loop-place-test.true c.loop-place.invariant.table c.in_ok-tok.ensures.table;
      seen = subst (λ (ts : List Tok). AllZip (IsTokOf text more) (take (i + 1) places) ts) (sym c.in_ok-push.ensures.items) seen;
      few = omega (arith, one, e, c.loop-place.invariant.few);
    }
