use Rattle.std.proofs.Common.{◌∙◌, ◌&&◌, not, ap, arith}
use Rattle.lx_cap_nodes.specs.Bits.{is_set}
use Rattle.lx_cap_lists.proofs.BitLemmas.{set_left}
use Rattle.lx_act_index.proofs.RunLemmas.{in_whole}
use Rattle.lx_act_index.proofs.runs.others.Goals as goal

pub returns : goal.returns
returns c = λ k lt.
    set_left c.piece_bits.result c.args.mask k (omega arith) lt
    ∙ ap (λ b. b && not (is_set c.args.mask k)) (c.piece_bits.ensures k lt ∙ in_whole k lt)
