use Rattle.std.proofs.Common.{sym, ◌∙◌, arith}
use Rattle.lx_cap_nodes.specs.Words.{nodes_at}
use Rattle.lx_cap_lists.specs.Holders.{counts}
use Rattle.lx_cap_lists.proofs.HasLemmas.{all_had, kept_all}
use Rattle.lx_cap_lists.proofs.lists.has_bits.Goals as goal

pub returns-then-has_all : goal.returns-then-has_all
returns-then-has_all c =
    kept_all (counts c.args.in_reach) (nodes_at c.args.pool.now.places c.args.place) c.newest_bits.result c.args.wanted c.newest_bits.ensures (sym c.has_all.ensures ∙ c.if-has_all.true)

pub returns-then-has_all-2 : goal.returns-then-has_all-2
returns-then-has_all-2 c =
    kept_all (counts c.args.in_reach) (nodes_at c.args.pool.now.places c.args.place) c.kept_bits.result c.args.wanted c.kept_bits.ensures (sym c.has_all-2.ensures ∙ c.if-has_all-2.true)

pub returns : goal.returns
returns c =
    all_had (counts c.args.in_reach) (nodes_at c.args.pool.now.places c.args.place) c.reached.result c.args.wanted (omega arith) c.reached.ensures c.has_all-3.result c.has_all-3.ensures
