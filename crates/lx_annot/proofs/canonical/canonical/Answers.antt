-- The principal and the actions stand with one space between.
use Rattle.lx_annot.proofs.Spaced.{joined_from}
use Rattle.lx_annot.proofs.canonical.canonical.Goals as goal

pub returns : goal.returns
returns c =
    joined_from c.args.i.now c.args.a.now.principal c.args.a.now.pre c.args.a.now.post _ _ _ _ _ c.in_ok-out.ensures c.as_slice.ensures c.in_ok-put_actions.ensures c.as_slice-2.ensures
    c.in_ok-put_actions-2.ensures
