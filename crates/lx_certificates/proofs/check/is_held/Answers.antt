-- What is owned was given, place by place.
use Rattle.std.proofs.Common.{◌∙◌, None, ap, arith, sym, reverse}
use Rattle.lx_caps.specs.History.{reached, each_byte}
use Rattle.lx_certificates.specs.declared.givers.Gifts.TheVariants.{Both}
use Rattle.lx_certificates.specs.Certificates.{is_wanted}
use Rattle.lx_certificates.specs.Givers.{count_of, giver, nth_atom}
use Rattle.lx_certificates.proofs.Reaching.{by_places, owning}
use Rattle.lx_certificates.proofs.check.is_held.Goals as goal

pub returns : goal.returns
returns c =
    let h = reverse c.args.acts.now in
    c.all_given.ensures ∙ ap (λ n. each_byte (λ k. is_wanted None (giver Both h c.args.who (nth_atom c.args.cap k))) 0 n) (omega (arith, c.count_of.ensures))
    ∙ ap (λ p. each_byte (λ k. p (nth_atom c.args.cap k)) 0 (count_of c.args.cap)) (owning h c.args.who) ∙ sym (by_places (reached h c.args.who) c.args.cap)
