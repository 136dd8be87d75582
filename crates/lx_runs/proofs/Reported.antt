-- A report tells of a whole run.
use Rattle.std.proofs.Common.{◌≡◌, ◌∙◌, sym, ap, subst, refl, ℕ, Bool, true, List, ◌++◌, append_assoc, Option}
use Rattle.std.specs.Prelude.{flat_map}
use Rattle.std.specs.List.{enumerate_from}
use Rattle.lx_model.specs.declared.program.Program.{Program}
use Rattle.lx_model.specs.declared.program.ScriptCall.{ScriptCall}
use Rattle.lx_model.specs.declared.account.Account.{Account}
use Rattle.lx_model.specs.Account.{account, schedule_of}
use Rattle.lx_model.specs.World.{World, run, is_whole, opening}
use Rattle.lx_report.specs.Report.{report_text, schedule_line, call_line, note_line, image_line, owner_line}
use Rattle.lx_report.specs.Laws.{ReportLaws, IsSchedule}
use Rattle.lx_runs.specs.Reports.{IsAccountOf, IsAsked, IsReport, TellsRun, all_returned}
use Rattle.lx_runs.specs.declared.told.Told.{Told}
use Rattle.lx_runs.specs.declared.told.Told.TheVariants as told
use Rattle.lx_runs.proofs.Journal.{schedule_ran}
use Rattle.lx_run_laws.specs.Authorised.{AreAuthorised}
use Rattle.lx_run_laws.specs.PlainRuns.{IsPlainRun}
use Rattle.lx_linked.specs.Explained.{IsExplainedRun}
use Rattle.lx_linked.specs.Fitting.{IsFittingRun}

-- what stands behind the first line
abbrev behind_line : Program → Account → List ℕ
behind_line p a =
    flat_map (call_line p a) (enumerate_from 0 a.outcomes)
    ++ (flat_map note_line a.notes
    ++ (flat_map (image_line p) (enumerate_from 0 a.images)
    ++ flat_map (owner_line p a.names) a.owners))

five : (a b c d e : List ℕ) → a ++ b ++ c ++ d ++ e ≡ a ++ (b ++ (c ++ (d ++ e)))
five a b c d e = append_assoc (a ++ b ++ c) d e ∙ append_assoc (a ++ b) c (d ++ e) ∙ append_assoc a b (c ++ (d ++ e))

first_line : (p : Program) (a : Account) → report_text p a ≡ schedule_line a.schedule ++ behind_line p a
first_line p a =
    five (schedule_line a.schedule) (flat_map (call_line p a) (enumerate_from 0 a.outcomes)) (flat_map note_line a.notes)
    (flat_map (image_line p) (enumerate_from 0 a.images)) (flat_map (owner_line p a.names) a.owners)

pub account_is : (laws : ReportLaws) (p : Program) (w : World) (q : Program) (a : Account) (schedule text : List ℕ) (returned : Bool)
    → q ≡ p → a ≡ account p w → schedule ≡ schedule_of w → IsSchedule schedule → text ≡ report_text q a → returned ≡ all_returned a.outcomes
    → IsAccountOf p w returned text
account_is laws p w q a schedule text returned q_is a_is s_is lawful text_is returned_is =
    let reported : text ≡ report_text p (account p w) = text_is ∙ rw (q_is, a_is) refl in
    let line : text ≡ schedule_line (schedule_of w) ++ behind_line p (account p w) = reported ∙ first_line p (account p w) in
    let is_schedule : IsSchedule (schedule_of w) = subst IsSchedule s_is lawful in
    record {
      reported = reported;
      line = (behind_line p (account p w), line);
      only = λ other rest is_other same. laws.first_line other (schedule_of w) rest (behind_line p (account p w)) is_other is_schedule (sym same ∙ line);
      status = sym (returned_is ∙ ap (λ (b : Account). all_returned b.outcomes) a_is);
    }

pub report_is : (p : Program) (script : List (List ScriptCall)) (s : List ℕ) (asked : Option (List ℕ)) (returned : Bool) (text : List ℕ)
    → is_whole p s (opening p script) ≡ true → IsAsked asked s → AreAuthorised p s (opening p script) → IsPlainRun p script s → IsExplainedRun p script s → IsFittingRun p script s
    → IsAccountOf p (run p s (opening p script)) returned text → (r : IsReport p script returned text) × IsAsked asked r.schedule
report_is p script s asked returned text whole is_asked authorised plain explained fitting tells =
    let same : schedule_of (run p s (opening p script)) ≡ s = schedule_ran p s (opening p script) refl whole in (
      record {
        schedule = s;
        whole = whole;
        reported = tells.reported;
        line = (tells.line.0, tells.line.1 ∙ ap (λ (l : List ℕ). schedule_line l ++ tells.line.0) same);
        only = λ other rest is_other is. tells.only other rest is_other is ∙ same;
        status = tells.status;
        authorised = authorised;
        plain = plain;
        explained = explained;
        fitting = fitting;
      },
      is_asked,
    )

-- what is told is told of the run of a schedule
pub told_of : (p : Program) (script : List (List ScriptCall)) (s : List ℕ) (asked : Option (List ℕ)) (t : Told)
    → is_whole p s (opening p script) ≡ true → IsAsked asked s → AreAuthorised p s (opening p script) → IsPlainRun p script s → IsExplainedRun p script s → IsFittingRun p script s
    → (text : List ℕ) × (returned : Bool) × (t ≡ told.Report text returned) × IsAccountOf p (run p s (opening p script)) returned text
    → TellsRun p script asked t
told_of p script s asked t whole is_asked authorised plain explained fitting (text, returned, is, tells) =
    subst (TellsRun p script asked) (sym is) (report_is p script s asked returned text whole is_asked authorised plain explained fitting tells)
