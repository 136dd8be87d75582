use Rattle.std.proofs.Common.{sym, subst, List}
use Rattle.std.proofs.lemmas.Result.{err_from_is_err_and}
use Rattle.lx_ir.specs.declared.module.Module.{Module}
use Rattle.lx_files.proofs.Listed.{HasRead, starts, file_named, goes_on, ends_early, ends_full, ends, ends_as_many}
use Rattle.lx_files.proofs.turns.modules_turn.Goals as goal

pub loop-entry-init : goal.loop-entry-init
loop-entry-init g c =
    subst (λ (read : List Module). HasRead (g.S.Shelf.files c.args.shelf.now) (g.S.Shelf.files c.args.shelf.now) (g.S.Shelf.faults c.args.shelf.now) (g.S.Shelf.faults c.args.shelf.now) c.args.modules.now c.args.modules.now read)
    (sym c.new-read.ensures) (starts (g.S.Shelf.files c.args.shelf.now) (g.S.Shelf.faults c.args.shelf.now) c.args.modules.now c.requires)

pub module_turn-requires : goal.module_turn-requires
module_turn-requires g c =
    file_named (g.S.Shelf.files c.args.shelf.now) (g.S.Shelf.files c.loop-entry.shelf) (g.S.Shelf.faults c.args.shelf.now) (g.S.Shelf.faults c.loop-entry.shelf) c.args.modules.now c.loop-entry.entry-index c.loop-entry.read c.entry-item.result c.as_slice.result.now
    c.loop-entry-test.true c.entry-item.is c.as_slice.ensures c.loop-entry.invariant

pub returns-in_err-module : goal.returns-in_err-module
returns-in_err-module g c =
    let p = err_from_is_err_and c.from_residual.result c.from_residual.ensures.1 in
    rw (p.1, p.2)
    (record {
      sound = tt;
      as_many = tt;
      turn = ends_early (g.S.Shelf.files c.args.shelf.now) (g.S.Shelf.files c.loop-entry.shelf) (g.S.Shelf.faults c.args.shelf.now) (g.S.Shelf.faults c.loop-entry.shelf) c.args.modules.now c.loop-entry.entry-index c.loop-entry.read c.entry-item.result c.as_slice.result.now
          c.loop-entry-test.true c.entry-item.is c.as_slice.ensures c.loop-entry.invariant
          c.in_err-module.field-0.0 c.in_err-module.ensures.turn;
    })

pub returns-in_err-push : goal.returns-in_err-push
returns-in_err-push g c =
    let p = err_from_is_err_and c.from_residual-in_err-push.result c.from_residual-in_err-push.ensures.1 in
    rw (p.1, p.2)
    (record {
      sound = tt;
      as_many = tt;
      turn = ends_full (g.S.Shelf.files c.args.shelf.now) (g.S.Shelf.files c.loop-entry.shelf) (g.S.Shelf.faults c.args.shelf.now) (g.S.Shelf.faults c.loop-entry.shelf) c.args.modules.now c.loop-entry.entry-index c.loop-entry.read c.entry-item.result c.as_slice.result.now
          c.loop-entry-test.true c.entry-item.is c.as_slice.ensures c.loop-entry.invariant
          c.in_ok-module.module c.in_ok-module.ensures.turn;
    })

pub loop-entry-preserved : goal.loop-entry-preserved
loop-entry-preserved g c =
    rw c.in_ok-push.ensures.items
    (goes_on (g.S.Shelf.files c.args.shelf.now) (g.S.Shelf.files c.loop-entry.shelf) (g.S.Shelf.faults c.args.shelf.now) (g.S.Shelf.faults c.loop-entry.shelf) c.args.modules.now c.loop-entry.entry-index c.loop-entry.read c.entry-item.result c.as_slice.result.now
    c.loop-entry-test.true c.entry-item.is c.as_slice.ensures c.loop-entry.invariant
    c.in_ok-module.module c.in_ok-module.ensures.sound c.in_ok-module.ensures.turn)

pub returns : goal.returns
returns g c = record {
  turn = ends (g.S.Shelf.files c.args.shelf.now) (g.S.Shelf.files c.loop-entry.shelf) (g.S.Shelf.faults c.args.shelf.now) (g.S.Shelf.faults c.loop-entry.shelf) c.args.modules.now c.loop-entry.entry-index c.loop-entry.read
      c.loop-entry-test.false c.loop-entry.invariant;
  sound = c.loop-entry.invariant.sound;
  as_many = ends_as_many (g.S.Shelf.files c.args.shelf.now) (g.S.Shelf.files c.loop-entry.shelf) (g.S.Shelf.faults c.args.shelf.now) (g.S.Shelf.faults c.loop-entry.shelf) c.args.modules.now c.loop-entry.entry-index c.loop-entry.read
      c.loop-entry-test.false c.loop-entry.invariant;
}
