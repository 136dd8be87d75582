use Rattle.std.proofs.Common.{◌≡◌, refl, arith}
use Rattle.std.proofs.lemmas.Bool.Decides.{nat_tests}
use Rattle.lx_cap_lists.proofs.MoreParts.{stays, walks_on}
use Rattle.lx_cap_lists.proofs.walk.go_on.Goals as goal

pub returns-then-next-at_hand-clause-walks : goal.returns-then-next-at_hand-clause-walks
returns-then-next-at_hand-clause-walks c =
    let same : c.args.next.part ≡ c.args.walk.at_hand.part = grind (arith, nat_tests, c.if-next-at_hand.true) in λ p left. stays p _ c.args.walk _ c.args.next left same refl same refl

pub returns-clause-walks : goal.returns-clause-walks
returns-clause-walks c = λ p left. walks_on p _ _ c.args.walk _ c.args.next left (grind (arith, nat_tests, c.if-next-at_hand.false)) refl (c.in_ok-last.ensures p)
