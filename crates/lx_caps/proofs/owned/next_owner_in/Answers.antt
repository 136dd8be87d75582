-- One act more, and in the end all acts.
use Rattle.std.proofs.Common.{◌&&◌, ◌+◌, ◌<◌, arith, length, take, reverse, get_or}
use Rattle.std.proofs.lemmas.List.{take_all}
use Rattle.lx_caps.specs.declared.Principal.TheVariants.{Kernel}
use Rattle.lx_caps.specs.declared.Cap.TheVariants.{Write}
use Rattle.lx_caps.specs.declared.Act.TheVariants.{Grant}
use Rattle.lx_caps.specs.History.{owns}
use Rattle.lx_caps.specs.Precedence.{follows}
use Rattle.lx_caps.proofs.NextOwner.{all_given, one_given, was_given}
use Rattle.lx_caps.proofs.owned.next_owner_in.Goals as goal
use Rattle.lx_caps.proofs.Items.{reverse_take_more}

pub loop-act-preserved : goal.loop-act-preserved
loop-act-preserved c =
    let i = c.loop-act.act-index in
    let acts = c.args.acts.now in
    let below : i < length acts = omega arith in
    one_given (reverse (take i acts)) (reverse (take (i + 1) acts)) (get_or acts i (Grant Kernel (Write 0 0))) c.args.atom
    (λ q. follows c.args.after q && owns (reverse acts) q c.args.atom) c.owner_by.result c.earlier-first.result
    (reverse_take_more acts i (Grant Kernel (Write 0 0)) below) c.owner_by.ensures
    (c.earlier-first.ensures (λ q. was_given (reverse (take i acts)) c.args.atom q && (follows c.args.after q && owns (reverse acts) q c.args.atom)) c.loop-act.invariant)

pub returns : goal.returns
returns c =
    let all = take_all c.loop-act.act-index c.args.acts.now (omega arith) in
    let first = rw all at c.loop-act.invariant in
    all_given (reverse c.args.acts.now) c.args.atom c.args.after c.loop-act.first first
