use Rattle.lx_words.proofs.Lists.{first_all}
use Rattle.lx_model.specs.Program.{is_entry}
use Rattle.lx_name_tables.proofs.keys.filled_numbers.Goals as goal

pub returns : goal.returns
returns c = λ home f. first_all (is_entry home f) c.args.functions.now c.loop-left.left _ c.loop-left-test.false (c.loop-left.invariant.so_far home f)
