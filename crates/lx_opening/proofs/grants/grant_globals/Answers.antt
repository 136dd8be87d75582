use Rattle.std.proofs.Common.{ap, arith, get_or, length, None, subst, sym, ◌∙◌, ◌≡◌, ◌+◌, ◌<◌}
use Rattle.std.proofs.lemmas.List.{get_or_default}
use Rattle.lx_model.specs.declared.program.Program.{Program}
use Rattle.lx_model.specs.declared.program.ProgramGlobal.{ProgramGlobal}
use Rattle.lx_model.specs.Opening.{globals_granted}
use Rattle.lx_opening.specs.Ordered.{IsSplit}
use Rattle.lx_opening.proofs.Globals.{global_here}
use Rattle.lx_opening.proofs.Ordered.{are_ordered, granted_step, own_begin, own_end}
use Rattle.lx_opening.proofs.grants.grant_globals.Goals as goal

pub count_before-start-requires : goal.count_before-start-requires
count_before-start-requires g c = are_ordered c.args.code.now c.as_slice-globals.result.now c.requires (c.as_slice-globals.ensures ∙ ap (λ (q : Program). q.globals) c.program.ensures.whole)

pub count_before-end-requires : goal.count_before-end-requires
count_before-end-requires g c = are_ordered c.args.code.now c.as_slice-globals.result.now c.requires (c.as_slice-globals.ensures ∙ ap (λ (q : Program). q.globals) c.program.ensures.whole)

pub loop-place-init : goal.loop-place-init
loop-place-init g c =
    let p = c.args.code.now in
    let xs = c.as_slice-globals.result.now in
    let list : xs ≡ p.globals = c.as_slice-globals.ensures ∙ ap (λ (q : Program). q.globals) c.program.ensures.whole in
    let home : c.from.result ≡ c.args.home = search c.from.ensures in
    let split = subst (λ n. IsSplit (n + 1) xs c.count_before-start.result) home c.count_before-start.ensures.split in
    λ h kept. (h, kept, own_begin p c.args.home xs c.count_before-start.result h split ∙ ap (λ ys. globals_granted p c.args.home ys h) list)

pub grant_own-requires : goal.grant_own-requires
grant_own-requires g c =
    global_here c.args.code.now c.as_slice-globals.result.now c.loop-place.place (record { «module» = None; global = 0; at = 0 }) c.requires
    (c.as_slice-globals.ensures ∙ ap (λ (q : Program). q.globals) c.program.ensures.whole) (omega (arith, c.loop-place-test.true, c.count_before-end.ensures.within))

pub loop-place-preserved : goal.loop-place-preserved
loop-place-preserved g c =
    let p = c.args.code.now in
    let xs = c.as_slice-globals.result.now in
    let none : ProgramGlobal = record { «module» = None; global = 0; at = 0 } in
    let less : c.loop-place.place < length xs = omega (arith, c.loop-place-test.true, c.count_before-end.ensures.within) in
    let here : ProgramGlobal = get_or xs c.loop-place.place none in
    λ h kept.
    let old = c.loop-place.invariant h kept in
    (_, c.in_ok-grant_own.ensures _ old.1, granted_step p c.args.home xs c.loop-place.place here old.0 _ less (get_or_default xs c.loop-place.place none here less) old.2)

pub returns : goal.returns
returns g c =
    let p = c.args.code.now in
    let xs = c.as_slice-globals.result.now in
    let home : c.from-2.result ≡ c.args.home = search c.from-2.ensures in
    let split = subst (λ n. IsSplit (n + 2) xs c.count_before-end.result) home c.count_before-end.ensures.split in
    λ h kept.
    let old = c.loop-place.invariant h kept in
    subst (g.C.CapStore.stands c.loop-place.caps)
    (sym (own_end p c.args.home xs c.count_before-end.result c.loop-place.place old.0 split (omega (arith, c.loop-place-test.false))) ∙ old.2)
    old.1
