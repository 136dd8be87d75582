-- What a report tells of its schedule.
use Rattle.std.specs.Prelude.{◌≡◌, ◌≢◌, ℕ, ◌<◌, ◌^◌, List, [], ◌∷◌, ◌++◌, All, length, flat_map, replicate}
use Rattle.lx_annot.specs.Canonical.{Text}
use Rattle.lx_model.specs.declared.program.Program.{Program}
use Rattle.lx_model.specs.declared.account.Account.{Account}
use Rattle.lx_report.specs.Runs.{Run, runs}
use Rattle.lx_report.specs.Report.{schedule_line, report_text}

-- the events of a run, written out
abbrev pub events_of : Run → List ℕ
events_of r = replicate r.count r.thread

-- no run is empty, and two neighbours are of different threads
abbrev pub AreMaximal : List Run → Type 0
AreMaximal [] = Unit {0}
AreMaximal (r ∷ []) = 0 < r.count
AreMaximal (r ∷ q ∷ rs) = (0 < r.count) × (r.thread ≢ q.thread) × AreMaximal (q ∷ rs)

-- thread numbers of 32 bits, and fewer events than 2 to 64
abbrev pub IsSchedule : List ℕ → Type 0
IsSchedule s = (length s < 2 ^ 64) × All (λ t. t < 2 ^ 32) s

pub record ReportLaws : Type 0 where
  -- the runs of a schedule are maximal, and written out they are the schedule
  pub written_out : (s : List ℕ) → flat_map events_of (runs s) ≡ s
  pub maximal : (s : List ℕ) → AreMaximal (runs s)
  -- the first line tells the schedule, whatever follows
  pub first_line : (s t : List ℕ) (more rest : Text) → IsSchedule s → IsSchedule t → schedule_line s ++ more ≡ schedule_line t ++ rest → s ≡ t
  -- so the same report comes of the same schedule alone
  pub recovered : (p q : Program) (a b : Account) → IsSchedule a.schedule → IsSchedule b.schedule → report_text p a ≡ report_text q b → a.schedule ≡ b.schedule
