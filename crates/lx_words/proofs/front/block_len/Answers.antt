use Rattle.std.proofs.Common.{false, sym, ◌∙◌}
use Rattle.lx_words.specs.Lexemes.{ends_block}
use Rattle.lx_words.proofs.Fronts.{begins, goes_on, ends_here, never_ends, block_empty, block_end, block_on}
use Rattle.lx_words.proofs.front.block_len.Goals as goal

pub loop-i-init : goal.loop-i-init
loop-i-init c = begins (ends_block false) c.args.text.now

pub returns-then-closes_block : goal.returns-then-closes_block
returns-then-closes_block c = ends_here (ends_block false) (ends_block c.loop-i.starred) c.args.text.now c.loop-i.i c.loop-i-test.true (λ bs. block_end c.loop-i.starred _ bs (sym c.if-closes_block.ensures)) c.loop-i.invariant

pub loop-i-preserved : goal.loop-i-preserved
loop-i-preserved c = goes_on (ends_block false) (ends_block c.loop-i.starred) _ c.args.text.now c.loop-i.i c.loop-i-test.true (block_empty c.loop-i.starred) (λ bs. block_on c.loop-i.starred _ bs (sym c.if-closes_block.ensures)) c.loop-i.invariant

pub returns : goal.returns
returns c = never_ends (ends_block false) (ends_block c.loop-i.starred) c.args.text.now c.loop-i.i c.loop-i-test.false (block_empty c.loop-i.starred) c.loop-i.invariant
