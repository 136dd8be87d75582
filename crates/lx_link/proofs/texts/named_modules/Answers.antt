use Rattle.std.proofs.Common.{rules, ◌≡◌, ◌<◌, length, get_or, subst, arith}
use Rattle.std.proofs.lemmas.Iterator.Consumers.{YieldsList-turn}
use Rattle.std.proofs.lemmas.Iterator.Adapters.{YieldsList-from_vec}
use Rattle.lx_link.proofs.Modules.{many_named, named_more, unnamed, verified_more}
use Rattle.lx_link.proofs.texts.named_modules.Goals as goal

pub loop-verified-init : goal.loop-verified-init
loop-verified-init c = unnamed c.args.names.now c.new-list.result c.new-list.ensures

pub offset_bounds-names-len : goal.offset_bounds-names-len
offset_bounds-names-len c =
    let gives = c.into_iter-verified-iterator.ensures.into_iter_gives in
    let e = YieldsList-from_vec c.args.modules.items gives.0 (omega (arith, gives.1, c.args.modules.ok.0)) in
    let turn = YieldsList-turn e c.loop-verified.yielded c.loop-verified.verified-iterator c.loop-verified.yielded_by c.next.result c.next.new.self c.in-Some.verified c.in-Some.is c.next.ensures.steps in
    let many = many_named c.args.names.now c.loop-verified.yielded c.loop-verified.list (omega (arith, turn.0, c.requires)) c.loop-verified.invariant.0 in
    let below : c.len.result < length c.args.names.now = omega (arith, many, c.len.ensures, turn.0, c.requires) in
    search (rules, below)

pub bounds-names-len : goal.bounds-names-len
bounds-names-len c =
    let gives = c.into_iter-verified-iterator.ensures.into_iter_gives in
    let e = YieldsList-from_vec c.args.modules.items gives.0 (omega (arith, gives.1, c.args.modules.ok.0)) in
    let turn = YieldsList-turn e c.loop-verified.yielded c.loop-verified.verified-iterator c.loop-verified.yielded_by c.next.result c.next.new.self c.in-Some.verified c.in-Some.is c.next.ensures.steps in
    let many = many_named c.args.names.now c.loop-verified.yielded c.loop-verified.list (omega (arith, turn.0, c.requires)) c.loop-verified.invariant.0 in
    omega (arith, many, c.len.ensures, turn.0, c.requires)

pub loop-verified-preserved : goal.loop-verified-preserved
loop-verified-preserved c =
    let gives = c.into_iter-verified-iterator.ensures.into_iter_gives in
    let e = YieldsList-from_vec c.args.modules.items gives.0 (omega (arith, gives.1, c.args.modules.ok.0)) in
    let turn = YieldsList-turn e c.loop-verified.yielded c.loop-verified.verified-iterator c.loop-verified.yielded_by c.next.result c.next.new.self c.in-Some.verified c.in-Some.is c.next.ensures.steps in
    let below : length c.loop-verified.yielded < length c.args.names.now = omega (arith, turn.0, c.requires) in
    let many = many_named c.args.names.now c.loop-verified.yielded c.loop-verified.list (omega (arith, below)) c.loop-verified.invariant.0 in
    let place : c.len.result ≡ length c.loop-verified.yielded = omega (arith, c.len.ensures, many) in (
      named_more c.args.names.now c.loop-verified.yielded c.index-names-len.result c.in-Some.verified c.loop-verified.list c.push_module.new.list below
          (subst (λ k. c.index-names-len.result ≡ get_or c.args.names.now k c.index-names-len.result) place c.index-names-len.is) c.loop-verified.invariant.0 c.in_ok-push_module.ensures.list,
      verified_more c.loop-verified.list c.push_module.new.list c.index-names-len.result c.in-Some.verified c.loop-verified.invariant.1 c.in_ok-push_module.ensures.verified c.in_ok-push_module.ensures.list,
    )
