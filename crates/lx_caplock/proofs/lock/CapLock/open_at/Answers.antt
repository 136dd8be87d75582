use Rattle.std.proofs.Common.{rules, arith, ◌≡◌, [], ◌∷◌, List, Some, refl, sym, ap, ◌∙◌, subst}
use Rattle.lx_caplock.specs.Serving.{LegalFrom, Leaves}
use Rattle.lx_caplock.specs.Tickets.{TicketRule}
use Rattle.lx_caplock.specs.Views.{first_view}
use Rattle.lx_caplock.proofs.Steps.{starts}
use Rattle.atomic_table.specs.Table.{opening}
use Rattle.lx_caplock.proofs.lock.CapLock.open_at.Goals as goal

pub new-requires-3 : goal.new-requires-3
new-requires-3 g c = let left = Leaves g.T.Part.program g.T.Part.stands in let legal = LegalFrom g.T.Part.program g.T.Part.stands in
    let a : c.push.new.self.items ≡ c.args.part ∷ [] = search rules in let b : c.of.result.value ≡ c.args.part = search rules in
    subst (λ (xs : List g.row.T.Denot). TicketRule left legal (Some c.of.result.value) c.args.seats (opening (1 ∷ 0 ∷ 0 ∷ []) xs (first_view (Some c.of.result.value) c.args.seats))) (sym (a ∙ ap (λ x. x ∷ []) (sym b)))
    (starts left legal (Some c.of.result.value) c.args.seats c.of.result.value (omega arith) (omega arith) (refl, λ s h. h) (λ s h. tt))
