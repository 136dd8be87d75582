use Rattle.std.proofs.Common.{ap, ◌∙◌}
use Rattle.std.specs.List.{list_all}
use Rattle.lx_ir.specs.Lookup.{blocks_of, instrs_of}
use Rattle.lx_spared.proofs.SparedRooms.{function_formed, has_forms, rooms_are, spared_is}
use Rattle.lx_spared.proofs.table.rooms_of.Goals as goal

pub widen_blocks-requires : goal.widen_blocks-requires
widen_blocks-requires c = ap (list_all (has_forms c.args.m.now)) c.blocks_of.ensures ∙ function_formed c.args.m.now c.args.f.now c.requires

pub returns : goal.returns
returns c =
    spared_is c.args.m.now.types (instrs_of c.args.f.now) _
    (rooms_are c.args.m.now.types c.blocks_of.result.now c.blocks_of-2.result.now (blocks_of c.args.f.now) c.new-table.result.entries c.widen_blocks.new.rooms.entries c.close_blocks.new.rooms.entries c.blocks_of.ensures c.blocks_of-2.ensures c.new-table.ensures.empty c.in_ok-widen_blocks.ensures c.in_ok-close_blocks.ensures)
