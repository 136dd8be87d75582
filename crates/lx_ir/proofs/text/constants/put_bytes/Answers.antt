use Rattle.std.proofs.Common.{refl, get_or}
use Rattle.lx_words.proofs.Lists.{next_text, all_texts}
use Rattle.lx_ir.specs.Text.{byte_text}
use Rattle.lx_ir.proofs.text.constants.put_bytes.Goals as goal

pub loop-byte-preserved : goal.loop-byte-preserved
loop-byte-preserved c = next_text byte_text c.args.bytes.now c.loop-byte.byte-index (get_or c.args.bytes.now c.loop-byte.byte-index 0) 0 _ _ _ c.loop-byte-test.true refl c.loop-byte.invariant c.in_ok-put_byte.ensures

pub returns : goal.returns
returns c = all_texts byte_text c.args.bytes.now c.loop-byte.byte-index _ _ c.loop-byte-test.false c.loop-byte.invariant
