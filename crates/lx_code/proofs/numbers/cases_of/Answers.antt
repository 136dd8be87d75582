use Rattle.lx_words.proofs.Lists.{first_all}
use Rattle.lx_code.specs.Firsts.{is_case}
use Rattle.lx_code.proofs.numbers.cases_of.Goals as goal

pub returns : goal.returns
returns g c = λ n. first_all (is_case (g.C.PlacedText.comes_to c.args.text.now) n) c.args.cases.now c.loop-left.left _ c.loop-left-test.false (c.loop-left.invariant.so_far n)
