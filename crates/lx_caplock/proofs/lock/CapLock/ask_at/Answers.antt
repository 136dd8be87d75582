use Rattle.std.proofs.Common.{rules, ◌≡◌, ℕ, [], ◌∷◌, ◌++◌, List, get_or, sym, ap, ◌∙◌, subst}
use Rattle.lx_caplock.specs.declared.knowledge.View.{View}
use Rattle.lx_caplock.specs.Serving.{LegalFrom, Leaves}
use Rattle.lx_caplock.specs.History.{entry}
use Rattle.lx_caplock.specs.Views.{waiting, serving, released}
use Rattle.lx_caplock.specs.Telling.{TurnHasCome}
use Rattle.lx_caplock.specs.Calls.{Answers, Refuses}
use Rattle.lx_caplock.proofs.Steps.{tickets}
use Rattle.lx_caplock.proofs.Histories.{leaves_one, legal_one, takes_left}
use Rattle.lx_caplock.proofs.Asks.{counted, counted_none, answers, refuses}
use Rattle.lx_caplock.proofs.Rests.{rests_asked}
use Rattle.lx_caplock.proofs.lock.CapLock.ask_at.Goals as goal

pub fetch_add-ticket-requires : goal.fetch_add-ticket-requires
fetch_add-ticket-requires g c = let rest = c.requires.rest in (search rules, search rules, tickets _ _ _ _ _ _ _ rest.spent rest.stage)

pub serve_held-requires-clause-held : goal.serve_held-requires-clause-held
serve_held-requires-clause-held g c = let q = c.fetch_add-ticket.ensures.2 in let v : View g.row.T.Denot = c.args.place.now.me.0 in
    let come = subst (λ m. TurnHasCome (Leaves g.T.Part.program g.T.Part.stands) (LegalFrom g.T.Part.program g.T.Part.stands) m c.wait.new.place.me) (q.2 ∙ ap (λ l. (waiting v q.0, l)) c.requires.rest.no_slots) c.wait.ensures.come in
    (come.2, ap (λ m. m.1) come.3, takes_left g.T.Part.program g.T.Part.stands g.T.Part.takes v.opened_part come.2 come.1 c.args.thread c.args.request.now c.requires.fits come.4)

pub note-requires-clause-held : goal.note-requires-clause-held
note-requires-clause-held g c = let q = c.fetch_add-ticket.ensures.2 in let v : View g.row.T.Denot = c.args.place.now.me.0 in
    let come = subst (λ m. TurnHasCome (Leaves g.T.Part.program g.T.Part.stands) (LegalFrom g.T.Part.program g.T.Part.stands) m c.wait.new.place.me) (q.2 ∙ ap (λ l. (waiting v q.0, l)) c.requires.rest.no_slots) c.wait.ensures.come in
    let is : c.serve_held.new.place.me.0 ≡ serving (waiting v q.0) come.0 come.1 = c.serve_held.ensures.own.2 ∙ ap (λ m. m.0) come.3 in
    let served = c.in-Ok.ensures.serves in
    let same : come.2 ≡ served.0 = ap (λ (l : List (ℕ × g.row.T.Denot)). (get_or l 0 (0, come.2)).1) (sym (ap (λ m. m.1) come.3) ∙ served.2) in
    let left = subst (λ x. Leaves g.T.Part.program g.T.Part.stands v.opened_part x come.1) same come.4 in
    let e = entry v.number c.args.thread c.args.request.now c.in-Ok.reply in (
      served.1,
      served.3,
      subst (λ (u : View g.row.T.Denot). Leaves g.T.Part.program g.T.Part.stands u.opened_part served.1 (u.seen ++ entry u.number c.args.thread c.args.request.now c.in-Ok.reply ∷ [])) (sym is)
          (leaves_one g.T.Part.program g.T.Part.stands v.opened_part served.0 served.1 come.1 e served.4 served.5 left),
    )

pub note-requires-clause-legal : goal.note-requires-clause-legal
note-requires-clause-legal g c = let q = c.fetch_add-ticket.ensures.2 in let v : View g.row.T.Denot = c.args.place.now.me.0 in
    let come = subst (λ m. TurnHasCome (Leaves g.T.Part.program g.T.Part.stands) (LegalFrom g.T.Part.program g.T.Part.stands) m c.wait.new.place.me) (q.2 ∙ ap (λ l. (waiting v q.0, l)) c.requires.rest.no_slots) c.wait.ensures.come in
    let is : c.serve_held.new.place.me.0 ≡ serving (waiting v q.0) come.0 come.1 = c.serve_held.ensures.own.2 ∙ ap (λ m. m.0) come.3 in
    let served = c.in-Ok.ensures.serves in
    let same : come.2 ≡ served.0 = ap (λ (l : List (ℕ × g.row.T.Denot)). (get_or l 0 (0, come.2)).1) (sym (ap (λ m. m.1) come.3) ∙ served.2) in
    let left = subst (λ x. Leaves g.T.Part.program g.T.Part.stands v.opened_part x come.1) same come.4 in
    let e = entry v.number c.args.thread c.args.request.now c.in-Ok.reply in
    subst (λ (u : View g.row.T.Denot). LegalFrom g.T.Part.program g.T.Part.stands u.opened_part (u.seen ++ entry u.number c.args.thread c.args.request.now c.in-Ok.reply ∷ [])) (sym is)
    (legal_one g.T.Part.program g.T.Part.stands v.opened_part served.0 served.1 come.1 e served.5 left come.5)

pub returns-in-Ok-clause-rest : goal.returns-in-Ok-clause-rest
returns-in-Ok-clause-rest g c = let q = c.fetch_add-ticket.ensures.2 in let v : View g.row.T.Denot = c.args.place.now.me.0 in
    let come = subst (λ m. TurnHasCome (Leaves g.T.Part.program g.T.Part.stands) (LegalFrom g.T.Part.program g.T.Part.stands) m c.wait.new.place.me) (q.2 ∙ ap (λ l. (waiting v q.0, l)) c.requires.rest.no_slots) c.wait.ensures.come in
    let is : c.serve_held.new.place.me.0 ≡ serving (waiting v q.0) come.0 come.1 = c.serve_held.ensures.own.2 ∙ ap (λ m. m.0) come.3 in
    let served = c.in-Ok.ensures.serves in
    let same : come.2 ≡ served.0 = ap (λ (l : List (ℕ × g.row.T.Denot)). (get_or l 0 (0, come.2)).1) (sym (ap (λ m. m.1) come.3) ∙ served.2) in
    let left = subst (λ x. Leaves g.T.Part.program g.T.Part.stands v.opened_part x come.1) same come.4 in
    let e = entry v.number c.args.thread c.args.request.now c.in-Ok.reply in
    rests_asked c.args.place.now c.note.new.place c.requires.rest q.0 come.0 come.1 (e ∷ [])
    (c.note.ensures.2 ∙ ap (λ (u : View g.row.T.Denot). (released u (entry u.number c.args.thread c.args.request.now c.in-Ok.reply ∷ []), [])) is)
    (counted (LegalFrom g.T.Part.program g.T.Part.stands) v q.0 come.0 come.1 c.args.thread c.args.request.now c.in-Ok.reply come.6)

pub returns-in-Ok-clause-answer : goal.returns-in-Ok-clause-answer
returns-in-Ok-clause-answer g c = let q = c.fetch_add-ticket.ensures.2 in let v : View g.row.T.Denot = c.args.place.now.me.0 in
    let come = subst (λ m. TurnHasCome (Leaves g.T.Part.program g.T.Part.stands) (LegalFrom g.T.Part.program g.T.Part.stands) m c.wait.new.place.me) (q.2 ∙ ap (λ l. (waiting v q.0, l)) c.requires.rest.no_slots) c.wait.ensures.come in
    let is : c.serve_held.new.place.me.0 ≡ serving (waiting v q.0) come.0 come.1 = c.serve_held.ensures.own.2 ∙ ap (λ m. m.0) come.3 in
    let served = c.in-Ok.ensures.serves in
    let same : come.2 ≡ served.0 = ap (λ (l : List (ℕ × g.row.T.Denot)). (get_or l 0 (0, come.2)).1) (sym (ap (λ m. m.1) come.3) ∙ served.2) in
    let left = subst (λ x. Leaves g.T.Part.program g.T.Part.stands v.opened_part x come.1) same come.4 in
    let e = entry v.number c.args.thread c.args.request.now c.in-Ok.reply in
    let legal = LegalFrom g.T.Part.program g.T.Part.stands in
    let now : c.note.new.place.me ≡ (released (serving (waiting v q.0) come.0 come.1) (e ∷ []), []) =
    c.note.ensures.2 ∙ ap (λ (u : View g.row.T.Denot). (released u (entry u.number c.args.thread c.args.request.now c.in-Ok.reply ∷ []), [])) is in
    subst (λ (u : View g.row.T.Denot). Answers legal c.args.thread c.args.request.now v c.in-Ok.reply u) (sym (ap (λ m. m.0) now))
    (answers legal v q.0 come.0 come.1 c.args.thread c.args.request.now c.in-Ok.reply (legal_one g.T.Part.program g.T.Part.stands v.opened_part served.0 served.1 come.1 e served.5 left come.5) come.6)

pub returns-in-Err-clause-rest : goal.returns-in-Err-clause-rest
returns-in-Err-clause-rest g c = let q = c.fetch_add-ticket.ensures.2 in let v : View g.row.T.Denot = c.args.place.now.me.0 in
    let come = subst (λ m. TurnHasCome (Leaves g.T.Part.program g.T.Part.stands) (LegalFrom g.T.Part.program g.T.Part.stands) m c.wait.new.place.me) (q.2 ∙ ap (λ l. (waiting v q.0, l)) c.requires.rest.no_slots) c.wait.ensures.come in
    let is : c.serve_held.new.place.me.0 ≡ serving (waiting v q.0) come.0 come.1 = c.serve_held.ensures.own.2 ∙ ap (λ m. m.0) come.3 in
    rests_asked c.args.place.now c.release.new.place c.requires.rest q.0 come.0 come.1 []
    (c.release.ensures.2 ∙ ap (λ (u : View g.row.T.Denot). (released u [], [])) is)
    (counted_none v.number come.1 v.mine come.6.1)

pub returns-in-Err-clause-answer : goal.returns-in-Err-clause-answer
returns-in-Err-clause-answer g c = let q = c.fetch_add-ticket.ensures.2 in let v : View g.row.T.Denot = c.args.place.now.me.0 in
    let come = subst (λ m. TurnHasCome (Leaves g.T.Part.program g.T.Part.stands) (LegalFrom g.T.Part.program g.T.Part.stands) m c.wait.new.place.me) (q.2 ∙ ap (λ l. (waiting v q.0, l)) c.requires.rest.no_slots) c.wait.ensures.come in
    let is : c.serve_held.new.place.me.0 ≡ serving (waiting v q.0) come.0 come.1 = c.serve_held.ensures.own.2 ∙ ap (λ m. m.0) come.3 in
    let lacked = c.in-Err.ensures.lacks in
    let same : lacked.0 ≡ come.2 = ap (λ (l : List (ℕ × g.row.T.Denot)). (get_or l 0 (0, come.2)).1) (sym lacked.1 ∙ ap (λ m. m.1) come.3) in
    let leaves = Leaves g.T.Part.program g.T.Part.stands in
    let legal = LegalFrom g.T.Part.program g.T.Part.stands in
    let now : c.release.new.place.me ≡ (released (serving (waiting v q.0) come.0 come.1) [], []) =
    c.release.ensures.2 ∙ ap (λ (u : View g.row.T.Denot). (released u [], [])) is in
    subst (λ (u : View g.row.T.Denot). Refuses leaves legal g.T.Part.lacks c.args.thread c.args.request.now v u) (sym (ap (λ m. m.0) now))
    (refuses leaves legal g.T.Part.lacks v q.0 come.0 come.1 c.args.thread c.args.request.now come.2 come.4 come.5 come.6 (subst (λ (x : g.row.T.Denot). g.T.Part.lacks x c.args.thread c.args.request.now) same lacked.2))
