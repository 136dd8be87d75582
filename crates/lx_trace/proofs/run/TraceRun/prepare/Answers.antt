use Rattle.std.proofs.Common.{◌≡◌, ◌∙◌, ap, sym, ℕ, None, Option, Some}
use Rattle.std.specs.Prelude.{option_map}
use Rattle.lx_images.specs.Asker.{CodePlace}
use Rattle.lx_interp.specs.Places.{stand_in}
use Rattle.lx_model.specs.declared.request.Request.{Request}
use Rattle.lx_code_lines.specs.Place.{image_place}
use Rattle.lx_simulation.specs.Images.{code_of}
use Rattle.lx_trace_text.specs.declared.Site.{Site}
use Rattle.lx_world.specs.InCall.{call_at}
use Rattle.lx_world.specs.Wants.{image_asks}
use Rattle.lx_trace.specs.Asked.{asked_if}
use Rattle.lx_trace.specs.Run.{image_behind}
use Rattle.lx_trace.specs.Trace.{site_of}
use Rattle.lx_trace.specs.declared.run.Asked.{Asked}
use Rattle.lx_trace.proofs.Behind.{asked_is, asks_something}
use Rattle.lx_trace.proofs.Standing.{prepared}
use Rattle.lx_trace.proofs.run.TraceRun.prepare.Goals as goal

-- the world has taken register steps alone, wherever it stops

pub returns-in_err-at-clause-stands : goal.returns-in_err-at-clause-stands
returns-in_err-at-clause-stands g c = λ p script s st. prepared _ p script s c.args.thread c.args.self.now c.local_from.new.self c.local_from.ensures.stands c.local_from.ensures.apart st

pub returns-in_err-asked-clause-stands : goal.returns-in_err-asked-clause-stands
returns-in_err-asked-clause-stands g c = λ p script s st. prepared _ p script s c.args.thread c.args.self.now c.local_from.new.self c.local_from.ensures.stands c.local_from.ensures.apart st

pub returns-in-Some-clause-stands : goal.returns-in-Some-clause-stands
returns-in-Some-clause-stands g c = λ p script s st. prepared _ p script s c.args.thread c.args.self.now c.local_from.new.self c.local_from.ensures.stands c.local_from.ensures.apart st

pub returns-in-None-clause-stands : goal.returns-in-None-clause-stands
returns-in-None-clause-stands g c = λ p script s st. prepared _ p script s c.args.thread c.args.self.now c.local_from.new.self c.local_from.ensures.stands c.local_from.ensures.apart st

-- what is asked

found_is : (x : Option Site) (call : Option (ℕ × ℕ)) (kept asked : Option Request) (found is : Option Asked) → kept ≡ asked → found ≡ asked_if x call kept → found ≡ is → asked_if x call asked ≡ is
found_is x call kept asked found is same made e = ap (asked_if x call) (sym same) ∙ sym made ∙ e

pub returns-in-Some-clause-asked : goal.returns-in-Some-clause-asked
returns-in-Some-clause-asked g c = λ p script s st.
    let run = st.of_run in
    let t = c.args.thread in
    let code = code_of p run.images in
    let v = image_behind p run.images script s in
    let x = site_of p (option_map image_place (option_map (stand_in code) c.in_ok-at.at)) in
    let found : asked_if x (call_at v t) (image_asks code t v) ≡ Some c.in-Some.asked
    = found_is x (call_at v t) _ _ c.in_ok-asked.field-0 _ (c.in_ok-at.ensures.asks code v run.world) (c.in_ok-asked.ensures code v (c.in_ok-at.ensures.stands code v run.world) run.lines) c.in-Some.is in
    asked_is c.simulation_laws.ensures code run.accepted run.guarded script s c.place_laws.ensures t x c.in-Some.asked
    (λ u got. ap (λ (o : Option CodePlace). site_of p (option_map image_place o)) (c.in_ok-at.ensures.from code v u st.exact got)) found

-- a thread that has work asks for something

pub returns-in-None-clause-no_work : goal.returns-in-None-clause-no_work
returns-in-None-clause-no_work g c = λ p script s st.
    let run = st.of_run in
    let t = c.args.thread in
    let code = code_of p run.images in
    let v = image_behind p run.images script s in
    let x = site_of p (option_map image_place (option_map (stand_in code) c.in_ok-at.at)) in
    let found : asked_if x (call_at v t) (image_asks code t v) ≡ None
    = found_is x (call_at v t) _ _ c.in_ok-asked.field-0 _ (c.in_ok-at.ensures.asks code v run.world) (c.in_ok-asked.ensures code v (c.in_ok-at.ensures.stands code v run.world) run.lines) c.in-None.is in
    absurd (asks_something c.simulation_laws.ensures code run.accepted run.guarded script s t x (λ idle. let e = (c.in_ok-at.ensures.no_work code v run.world).1 idle in cc) found)

pub returns-in-None-clause-unchanged : goal.returns-in-None-clause-unchanged
returns-in-None-clause-unchanged g c = λ p script s st is.
    let run = st.of_run in
    let t = c.args.thread in
    let code = code_of p run.images in
    let v = image_behind p run.images script s in
    let x = site_of p (option_map image_place (option_map (stand_in code) c.in_ok-at.at)) in
    let found : asked_if x (call_at v t) (image_asks code t v) ≡ None
    = found_is x (call_at v t) _ _ c.in_ok-asked.field-0 _ (c.in_ok-at.ensures.asks code v run.world) (c.in_ok-asked.ensures code v (c.in_ok-at.ensures.stands code v run.world) run.lines) c.in-None.is in
    absurd (asks_something c.simulation_laws.ensures code run.accepted run.guarded script s t x (λ idle. let e = (c.in_ok-at.ensures.no_work code v run.world).1 idle in cc) found)
