use Rattle.std.proofs.Common.{◌∙◌, sym}
use Rattle.lx_ir_walks.proofs.Predecessors.{before_is, not_absent}
use Rattle.lx_ir_walks.proofs.blocks.Blocks.before.Goals as goal

pub unreachable-requires : goal.unreachable-requires
unreachable-requires c = not_absent c.args.self.now c.args.name.now c.requires (sym c.number_of.ensures ∙ c.in-None.is)

pub returns : goal.returns
returns c =
    before_is c.args.self.now c.self.inside.names c.self.inside.sources.items c.args.name.now c.in-Some.number c.index.result.now c.self.view_is c.self.invariant (sym c.number_of.ensures ∙ c.in-Some.is) c.index.ensures
