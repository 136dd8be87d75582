-- What a trace says, in the words of the journal.
use Rattle.std.specs.Prelude.{◌≡◌, ◌≢◌, ℕ, Bool, true, false, Some, List, ◌++◌, map, length, slice_get}
use Rattle.lx_annot.specs.Canonical.{Text}
use Rattle.lx_link_texts.specs.WellFormed.{FitsCalls, IsWellFormed}
use Rattle.lx_model.specs.declared.program.Program.{Program}
use Rattle.lx_model.specs.declared.program.ScriptCall.{ScriptCall}
use Rattle.lx_model.specs.declared.request.Entry.{Entry}
use Rattle.lx_model.specs.declared.request.Outcome.{Outcome}
use Rattle.lx_model.specs.declared.request.Reply.TheVariants.{Ended}
use Rattle.lx_model.specs.declared.request.Way.TheVariants.{Script}
use Rattle.lx_model.specs.declared.request.What.{What}
use Rattle.lx_model.specs.declared.request.What.TheVariants as what
use Rattle.lx_model.specs.Next.{finish, next}
use Rattle.lx_model.specs.Thread.{Ending, Thread, has_work}
use Rattle.lx_model.specs.World.{World, event, is_whole, run}
use Rattle.lx_code_lines.specs.Place.{Place, asks_at}
use Rattle.lx_trace_text.specs.declared.Traced.{Traced}
use Rattle.lx_trace.specs.Trace.{IsTrace, behind, site, trace, traced}

-- the entry of the journal that an event makes
abbrev pub entry_of : Traced → Entry
entry_of e = record { thread = e.thread; request = e.request; reply = e.reply }

-- an instruction asks for it: it is no call of the script, no action of a call that crosses, and no end of a call
abbrev pub is_of_code : What → Bool
is_of_code (what.Enter (Script n) args) = false
is_of_code (what.Perform n post k env source dest) = false
is_of_code (what.Finish o) = false
is_of_code w = true

-- the event does not end a call that has come to its end
abbrev pub IsNoEnd : Traced → Type 0
IsNoEnd e = (o : Outcome) → e.request ≢ finish o

-- how an event that comes to an outcome ends the call that it belongs to: its function comes to the outcome
abbrev pub ending_by : Traced → Outcome → Ending
ending_by e o = record { function = e.function; outcome = o }

pub record TraceLaws : Type 0 where
  -- the trace of a whole schedule is what the journal gains, entry by entry
  pub journal : (p : Program) (schedule : List ℕ) (w : World) → is_whole p schedule w ≡ true → (run p schedule w).state.journal ≡ w.state.journal ++ map entry_of (trace p schedule w)
  -- so there is one event for each entry of the schedule
  pub count : (p : Program) (schedule : List ℕ) (w : World) → is_whole p schedule w ≡ true → length (trace p schedule w) ≡ length schedule
  -- a run has one trace, and one status
  pub one : (p : Program) (script : List (List ScriptCall)) (schedule : List ℕ) (a b : Text) (r s : Bool) → IsTrace p script schedule r a → IsTrace p script schedule s b → (a ≡ b) × (r ≡ s)
  -- an event that is replied an outcome ends the call that it is said to belong to, by its number and its function
  pub ended : (p : Program) (t : ℕ) (w : World) (thread : Thread) (o : Outcome) → slice_get w.threads t ≡ Some thread → has_work thread ≡ true → (traced p t w thread).reply ≡ Ended o
      → (after : Thread) × (slice_get (event p t w).threads t ≡ Some after) × (slice_get after.ended (traced p t w thread).call ≡ Some (ending_by (traced p t w thread) o))
  -- what an instruction asks for is asked at a place, whatever the program
  pub placed : (p : Program) (t : ℕ) (thread : Thread) → is_of_code (next p t thread).request.what ≡ true → (x : Place) × (asks_at p t thread ≡ Some x)
  -- at each point of a run of a well-formed program, what is asked at a place has its line, unless its call has come to its end
  pub sited : (p : Program) → IsWellFormed p → (script : List (List ScriptCall)) (schedule : List ℕ) → FitsCalls p script → (t : ℕ) (thread : Thread) → slice_get (behind p script schedule).threads t ≡ Some thread
      → IsNoEnd (traced p t (behind p script schedule) thread) → (x : Place) → asks_at p t thread ≡ Some x → (line : ℕ) × ((traced p t (behind p script schedule) thread).site ≡ Some (site x.function line))
