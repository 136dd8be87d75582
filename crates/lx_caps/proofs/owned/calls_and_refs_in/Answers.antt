-- One act more, and in the end all acts.
use Rattle.std.proofs.Common.{◌&&◌, ◌||◌, ◌+◌, ◌<◌, arith, length, take, reverse, get_or, ap, subst, ◌∙◌}
use Rattle.std.proofs.lemmas.List.{take_all}
use Rattle.lx_caps.specs.declared.Principal.TheVariants.{Kernel}
use Rattle.lx_caps.specs.declared.Cap.TheVariants.{Write}
use Rattle.lx_caps.specs.declared.Act.TheVariants.{Grant}
use Rattle.lx_caps.specs.History.{owns}
use Rattle.lx_caps.specs.Order.{is_call_or_ref, stands_in}
use Rattle.lx_caps.specs.Once.{is_atom}
use Rattle.lx_caps.proofs.Found.{IsFound, found_all, found_more, found_none}
use Rattle.lx_caps.proofs.owned.calls_and_refs_in.Goals as goal
use Rattle.lx_caps.proofs.Items.{reverse_take_more}

pub loop-act-init : goal.loop-act-init
loop-act-init c = found_none (λ x. is_call_or_ref x && owns (reverse c.args.acts.now) c.args.who x) _ c.new-found.ensures.items

pub loop-act-preserved : goal.loop-act-preserved
loop-act-preserved c =
    let i = c.loop-act.act-index in
    let acts = c.args.acts.now in
    let below : i < length acts = omega arith in
    let d = Grant Kernel (Write 0 0) in
    found_more (λ x. is_call_or_ref x && owns (reverse acts) c.args.who x) (reverse (take i acts)) (reverse (take (i + 1) acts)) (get_or acts i d) c.loop-act.found.items _
    (reverse_take_more acts i d below) c.loop-act.invariant
    (λ x. c.in_ok-put_found.ensures x ∙ ap (λ o. stands_in x c.loop-act.found.items || is_atom o x) c.listed_by.ensures)

pub returns : goal.returns
returns c =
    let all = take_all c.loop-act.act-index c.args.acts.now (omega arith) in
    found_all (reverse c.args.acts.now) c.args.who c.loop-act.found.items
    (subst (λ acts. IsFound (λ x. is_call_or_ref x && owns (reverse c.args.acts.now) c.args.who x) (reverse acts) c.loop-act.found.items) all c.loop-act.invariant)
