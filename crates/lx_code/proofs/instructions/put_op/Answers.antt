use Rattle.std.proofs.Common.{subst, Option, Some}
use Rattle.lx_code.specs.Fits.{at_place, FitsAt}
use Rattle.lx_code.specs.declared.instructions.Table.{Table}
use Rattle.lx_code.proofs.Large.{made_where, one_more_here, one_more_kept}
use Rattle.lx_code.proofs.Placed.{one_more}
use Rattle.lx_code.proofs.instructions.put_op.Goals as goal

pub returns-in_ok-insert-in-Some-clause-fits : goal.returns-in_ok-insert-in-Some-clause-fits
returns-in_ok-insert-in-Some-clause-fits g c = λ blocks at has b k.
    one_more (g.C.PlacedText.has c.args.text.now).types (g.C.PlacedText.comes_to c.args.text.now) blocks c.args.at.0 c.args.at.1 b k c.args.op.now c.in-Some.table (at_place c.args.tables.now.entries b k)
    (subst (λ (found : Option Table). FitsAt (g.C.PlacedText.has c.args.text.now).types (g.C.PlacedText.comes_to c.args.text.now) (Some c.args.op.now) found) c.in-Some.is c.in_ok-found.ensures.fits) at (has b k)
    (at_place c.insert.new.self.entries b k) (c.in_ok-insert-in-Some.ensures.updates.0 (b, k))

pub returns-in_ok-insert-in-Some-clause-kept : goal.returns-in_ok-insert-in-Some-clause-kept
returns-in_ok-insert-in-Some-clause-kept g c = λ b k.
    one_more_kept c.args.at.0 c.args.at.1 b k c.in-Some.table (at_place c.args.tables.now.entries b k) (at_place c.insert.new.self.entries b k) (c.in_ok-insert-in-Some.ensures.updates.0 (b, k))

pub returns-in_ok-insert-in-Some-clause-large : goal.returns-in_ok-insert-in-Some-clause-large
returns-in_ok-insert-in-Some-clause-large g c = λ wants.
    let b = c.args.at.0 in
    let k = c.args.at.1 in
    one_more_here b k c.in-Some.table (at_place c.args.tables.now.entries b k) (at_place c.insert.new.self.entries b k) (c.in_ok-insert-in-Some.ensures.updates.0 (b, k))

pub returns-in-None-clause-large : goal.returns-in-None-clause-large
returns-in-None-clause-large g c = λ wants. made_where c.in_ok-found.found (at_place c.args.tables.now.entries c.args.at.0 c.args.at.1) c.in-None.is (c.in_ok-found.ensures.large wants)
