use Rattle.std.proofs.Common.{IsTrue, refl, sym, subst, ◌∙◌}
use Rattle.std.proofs.lemmas.Result.{err_from_is_err_and}
use Rattle.lx_images.specs.Image.{Code, ImageThread, image_next}
use Rattle.lx_interp.specs.Runner.{IsAsking}
use Rattle.lx_model.specs.Thread.{has_call}
use Rattle.lx_world.specs.Worlds.{StandsFor}
use Rattle.lx_world.proofs.Exact.{but_for, exact_others, place_told}
use Rattle.lx_world.proofs.Threads.{acts, busy, cannot_act, fault_stands}
use Rattle.lx_world.proofs.Wanted.{asks_next}
use Rattle.lx_world.proofs.world.World.local_from.Goals as goal

pub returns-then-is_idle-clause-no_work : goal.returns-then-is_idle-clause-no_work
returns-then-is_idle-clause-no_work g c = λ p w st.
    let off = cannot_act g.C.CapStore.stands c.args.self.now p w c.args.thread c.is_idle.result c.is_idle.ensures.idle c.if-is_idle.true st in
    (λ _. off, λ _. refl)

pub returns-clause-stands : goal.returns-clause-stands
returns-clause-stands g c = λ p w st.
    fault_stands g.C.CapStore.stands c.args.self.now _ p w c.args.thread c.at.result.now c.local_from.new.self refl refl c.at.ensures.value
    (c.is_idle.ensures.there c.if-is_idle.false) (λ s x part r. record { shared = part; runner = record { runs = c.local_from.ensures.stands c.args.thread x r.runs; stack = r.stack } }) st

pub returns-in_err-from-clause-stands : goal.returns-in_err-from-clause-stands
returns-in_err-from-clause-stands g c = λ p w st.
    fault_stands g.C.CapStore.stands c.args.self.now _ p w c.args.thread c.at.result.now c.local_from.new.self refl refl c.at.ensures.value
    (c.is_idle.ensures.there c.if-is_idle.false) (λ s x part r. record { shared = part; runner = record { runs = c.local_from.ensures.stands c.args.thread x r.runs; stack = r.stack } }) st

pub returns-clause-asks : goal.returns-clause-asks
returns-clause-asks g c = λ p w st.
    let work = busy c.args.self.now.runners.list.items c.args.thread c.at.result.now (sym c.is_idle.ensures.idle ∙ c.if-is_idle.false) c.at.ensures.value in
    asks_next p c.args.thread w c.args.self.now.runners.list.items _ c.at.result.now c.local_from.new.self st.threads c.at.ensures.value (c.is_idle.ensures.there c.if-is_idle.false) refl work
    (subst (λ (q : Code). (x : ImageThread) → StandsFor q c.args.thread c.at.result.now x → IsTrue (has_call x.calls) → IsAsking q c.args.thread c.local_from.new.self (image_next q x)) st.code
    (λ x r has. c.in_ok-from.ensures.asks c.args.thread x r.runs has))

pub returns-clause-no_work : goal.returns-clause-no_work
returns-clause-no_work g c = λ p w st.
    (λ e. absurd (cc), λ off. absurd (acts g.C.CapStore.stands c.args.self.now p w c.args.thread c.is_idle.result c.is_idle.ensures.idle c.if-is_idle.false st off))

pub returns-in_err-from-clause-no_work : goal.returns-in_err-from-clause-no_work
returns-in_err-from-clause-no_work g c =
    let q = err_from_is_err_and c.from_residual.result c.from_residual.ensures.1 in
    rw (q.1, q.2)
    (λ p w st. (λ e. absurd (cc), λ off. absurd (acts g.C.CapStore.stands c.args.self.now p w c.args.thread c.is_idle.result c.is_idle.ensures.idle c.if-is_idle.false st off)))

pub returns-clause-from : goal.returns-clause-from
returns-clause-from g c = λ p w x exact found.
    let old = c.args.self.now in
    place_told old p w c.args.thread c.at.result.now c.in_ok-from.from x c.at.ensures.value (c.is_idle.ensures.there c.if-is_idle.false)
    (busy old.runners.list.items c.args.thread c.at.result.now (sym c.is_idle.ensures.idle ∙ c.if-is_idle.false) c.at.ensures.value)
    (c.in_ok-from.ensures.from c.args.thread) exact found

pub returns-then-is_idle-clause-apart : goal.returns-then-is_idle-clause-apart
returns-then-is_idle-clause-apart g c = λ p w exact. but_for c.args.thread p c.args.self.now w exact

pub returns-clause-others : goal.returns-clause-others
returns-clause-others g c = λ p w exact. exact_others c.args.self.now _ p w c.args.thread c.local_from.new.self refl refl exact

pub returns-clause-apart : goal.returns-clause-apart
returns-clause-apart g c = λ p w exact. exact_others c.args.self.now _ p w c.args.thread c.local_from.new.self refl refl (but_for c.args.thread p c.args.self.now w exact)

pub returns-in_err-from-clause-others : goal.returns-in_err-from-clause-others
returns-in_err-from-clause-others g c = λ p w exact. exact_others c.args.self.now _ p w c.args.thread c.local_from.new.self refl refl exact

pub returns-in_err-from-clause-apart : goal.returns-in_err-from-clause-apart
returns-in_err-from-clause-apart g c = λ p w exact. exact_others c.args.self.now _ p w c.args.thread c.local_from.new.self refl refl (but_for c.args.thread p c.args.self.now w exact)
