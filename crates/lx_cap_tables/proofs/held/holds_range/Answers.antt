use Rattle.std.proofs.Common.{◌/◌, ◌%◌, sym, arith}
use Rattle.lx_cap_lists.specs.Holders.{counts}
use Rattle.lx_cap_lists.specs.Tables.{shown_at}
use Rattle.lx_cap_nodes.specs.Pieces.{part_list}
use Rattle.lx_cap_lists.proofs.HeldLemmas.{each_none, held_all}
use Rattle.lx_cap_tables.proofs.held.holds_range.Goals as goal

pub returns-then-not-holds_part : goal.returns-then-not-holds_part
returns-then-not-holds_part c =
    let no = c.if-not-holds_part.ensures in
    sym (each_none (λ b. shown_at c.args.pool.now.places (part_list (b / 64)) (counts c.args.in_reach) (b % 64)) c.args.at c.args.size no.0 no.1 no.2)

pub returns : goal.returns
returns c =
    let le = c.loop-part-test.false in
    let high = c.loop-part.invariant.high in
    sym (held_all (λ b. shown_at c.args.pool.now.places (part_list (b / 64)) (counts c.args.in_reach) (b % 64)) c.args.at c.args.size c.loop-part.part c.requires.some (omega arith) c.loop-part.invariant.held)
