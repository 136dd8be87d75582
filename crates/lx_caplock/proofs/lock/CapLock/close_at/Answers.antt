use Rattle.std.proofs.Common.{◌≡◌, sym, ◌∙◌, subst}
use mathlib.Core.Option.{some-injective}
use Rattle.lx_caplock.specs.Serving.{LegalFrom, Leaves}
use Rattle.lx_caplock.specs.Calls.{HasClosed}
use Rattle.lx_caplock.proofs.Steps.{closes}
use Rattle.lx_caplock.proofs.lock.CapLock.close_at.Goals as goal

pub returns : goal.returns
returns g c = let rest = c.requires.rest in let left = Leaves g.T.Part.program g.T.Part.stands in let legal = LegalFrom g.T.Part.program g.T.Part.stands in
    let t = closes left legal _ _ _ c.args.place.me.0 _ _ rest.spent rest.stage c.requires.alone c.close_with-closed.ensures.values.2 in
    let same : t.0 ≡ c.take-part.result = some-injective _ _ (sym t.2 ∙ c.take-part.ensures.value) in (t.1, subst (λ x. HasClosed left legal c.args.place.me.0 x t.1) same t.3)
