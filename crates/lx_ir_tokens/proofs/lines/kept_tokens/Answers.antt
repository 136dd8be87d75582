use Rattle.std.proofs.Common.{◌∙◌, false}
use Rattle.std.proofs.lemmas.List.Elements.{All-rest}
use Rattle.lx_words.specs.Cuts.{IsWithin}
use Rattle.lx_ir_tokens.proofs.KeptLines.{advance, finish, kept_all, kept_from}
use Rattle.lx_ir_tokens.proofs.lines.kept_tokens.Goals as goal

pub loop-token-preserved : goal.loop-token-preserved
loop-token-preserved c = record {
  so_far = advance c.args.text.now c.loop-token.silent c.stays_silent-silent.result c.loop-token.line c.in-Some.token.now c.loop-token.rest.now c.in-Some.behind.now c.loop-token.kept c.add_unless.new.tokens
      (kept_from c.args.text.now false 0 c.args.tokens.now) c.in-Some.ensures.cases.0 c.stays_silent-silent.ensures c.in_ok-add_unless.ensures c.loop-token.invariant.so_far;
  within = All-rest (IsWithin c.args.text.now) c.in-Some.token.now c.in-Some.behind.now c.loop-token.rest.now c.in-Some.ensures.cases.0 c.loop-token.invariant.within;
}

pub returns : goal.returns
returns c =
    finish c.args.text.now c.loop-token.silent c.loop-token.line c.loop-token.rest.now c.loop-token.kept (kept_from c.args.text.now false 0 c.args.tokens.now) c.in_default.ensures.cases c.loop-token.invariant.so_far ∙ kept_all c.args.text.now c.args.tokens.now c.requires.ascending
