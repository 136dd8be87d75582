-- One place more, and in the end all places.
use Rattle.std.proofs.Common.{◌&&◌, ◌+◌, ◌<◌, arith, length, take, reverse, get_or}
use Rattle.std.proofs.lemmas.List.{take_all}
use Rattle.lx_caps.specs.declared.Principal.TheVariants.{Kernel}
use Rattle.lx_caps.specs.declared.Cap.TheVariants.{Write}
use Rattle.lx_caps.specs.declared.Act.TheVariants.{Grant}
use Rattle.lx_caps.specs.History.{owns}
use Rattle.lx_caps.specs.Order.{is_behind}
use Rattle.lx_caps.specs.Placed.{AllPlaced-reverse}
use Rattle.lx_caps.proofs.NextOwned.{one_more, next_owned}
use Rattle.lx_caps.proofs.owned.next_in.Goals as goal
use Rattle.lx_caps.proofs.Items.{reverse_take_more}

pub loop-act-preserved : goal.loop-act-preserved
loop-act-preserved c =
    let i = c.loop-act.act-index in
    let acts = c.args.acts.now in
    let below : i < length acts = omega arith in
    rw (c.sooner-first.ensures, c.start.ensures)
    (one_more (λ x. is_behind c.args.after x && owns (reverse acts) c.args.who x) c.args.after (reverse (take i acts)) (reverse (take (i + 1) acts))
    (get_or acts i (Grant Kernel (Write 0 0))) (reverse_take_more acts i (Grant Kernel (Write 0 0)) below) c.loop-act.first c.loop-act.invariant)

pub returns : goal.returns
returns c =
    let all = take_all c.loop-act.act-index c.args.acts.now (omega arith) in
    let first = rw all at c.loop-act.invariant in
    next_owned (reverse c.args.acts.now) c.args.who c.args.after (AllPlaced-reverse c.args.acts.now c.requires) c.loop-act.first first
