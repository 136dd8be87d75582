use Rattle.std.proofs.Common.{arith, refl}
use Rattle.lx_surface.specs.Text.{type_line}
use Rattle.lx_surface.proofs.Numbered.{numbered_more_at, numbered_all}
use Rattle.lx_surface.proofs.text.put_types.Goals as goal

pub loop-place-preserved : goal.loop-place-preserved
loop-place-preserved c =
    numbered_more_at (type_line c.args.scope.bound.now c.args.scope.home c.args.scope.name.now) c.args.types.now c.args.types.now c.loop-place.place c.index-types-place.result _ _ _ refl (omega arith) c.index-types-place.is c.loop-place.invariant c.in_ok-put_type.ensures

pub returns : goal.returns
returns c = numbered_all (type_line c.args.scope.bound.now c.args.scope.home c.args.scope.name.now) c.args.types.now c.loop-place.place _ _ (omega arith) c.loop-place.invariant
