-- The trace of a run: what each event asked for, where in the texts, and what was replied.
use Rattle.std.specs.Prelude.{◌≡◌, ℕ, Bool, true, Option, Some, None, List, [], ◌∷◌, ◌++◌, length, option_map, slice_get}
use Rattle.std.specs.Option.{option_to_list}
use Rattle.lx_annot.specs.Canonical.{Text}
use Rattle.lx_model.specs.declared.program.Program.{Program}
use Rattle.lx_model.specs.declared.program.ScriptCall.{ScriptCall}
use Rattle.lx_model.specs.Account.{account}
use Rattle.lx_model.specs.Next.{next}
use Rattle.lx_model.specs.Serve.{serve}
use Rattle.lx_model.specs.Thread.{Thread}
use Rattle.lx_model.specs.World.{World, event, is_whole, opening, run}
use Rattle.lx_code_lines.specs.Place.{Place, asks_at, line_of}
use Rattle.lx_runs.specs.Reports.{all_returned}
use Rattle.lx_trace_text.specs.declared.Site.{Site}
use Rattle.lx_trace_text.specs.declared.Traced.{Traced}
use Rattle.lx_trace_text.specs.Text.{trace_text}

-- the function that the first of these calls calls
abbrev pub first_function : List ScriptCall → ℕ
first_function [] = 0
first_function (c ∷ cs) = c.function

-- a line of a function's text
abbrev pub site : ℕ → ℕ → Site
site n line = record { function = n; line = line }

-- a place by its line; none, where no instruction stands there
abbrev pub site_of : Program → Option Place → Option Site
site_of p None = None
site_of p (Some x) = option_map (site x.function) (line_of p x)

-- the next event of a thread: its call, which is counted by those that have ended, where it asks, what it asks for, and what is replied
abbrev pub traced : Program → ℕ → World → Thread → Traced
traced p t w thread =
    record {
      thread = t;
      call = length thread.ended;
      function = first_function thread.calls;
      site = site_of p (asks_at p t thread);
      request = (next p t thread).request;
      reply = (serve p w.state t (next p t thread).request).reply;
    }

-- the next event of the thread with this number, if there is such a thread
abbrev pub traced_at : Program → ℕ → World → Option Traced
traced_at p t w = option_map (traced p t w) (slice_get w.threads t)

-- the events of a schedule; a thread that there is not has none
abbrev pub trace : Program → List ℕ → World → List Traced
trace p [] w = []
trace p (t ∷ ts) w = option_to_list (traced_at p t w) ++ trace p ts (event p t w)

-- the monitor's world behind the events of a schedule
abbrev pub behind : Program → List (List ScriptCall) → List ℕ → World
behind p script schedule = run p schedule (opening p script)

-- The text is the trace of the monitor's run of the program as it is written, under a whole schedule
pub record IsTrace (p : Program) (script : List (List ScriptCall)) (schedule : List ℕ) (returned : Bool) (text : Text) : Type 0 where
  pub whole : is_whole p schedule (opening p script) ≡ true
  pub written : text ≡ trace_text p (account p (behind p script schedule)).names (trace p schedule (opening p script))
  -- and whether every call returned
  pub status : all_returned (account p (behind p script schedule)).outcomes ≡ returned
