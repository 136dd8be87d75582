-- What is known of an event before it is served.
use Rattle.std.specs.Prelude.{ℕ, Option, Some, None, length}
use Rattle.lx_model.specs.declared.program.Program.{Program}
use Rattle.lx_model.specs.declared.request.Reply.{Reply}
use Rattle.lx_model.specs.declared.request.Request.{Request}
use Rattle.lx_model.specs.Next.{next}
use Rattle.lx_model.specs.Thread.{Thread}
use Rattle.lx_code_lines.specs.Place.{asks_at}
use Rattle.lx_trace_text.specs.declared.Site.{Site}
use Rattle.lx_trace_text.specs.declared.Traced.{Traced}
use Rattle.lx_trace.specs.declared.run.Asked.{Asked}
use Rattle.lx_trace.specs.Trace.{first_function, site_of}

-- what is known of a thread's next event
abbrev pub asked_by : Program → ℕ → Thread → Asked
asked_by p t thread =
    record {
      call = length thread.ended;
      function = first_function thread.calls;
      site = site_of p (asks_at p t thread);
      request = (next p t thread).request;
    }

-- asked here, in this call, for this; nothing, where no call is left or nothing is asked
abbrev pub asked_if : Option Site → Option (ℕ × ℕ) → Option Request → Option Asked
asked_if x (Some call) (Some r) = Some (record { call = call.0; function = call.1; site = x; request = r })
asked_if x _ _ = None

-- the event, with what is replied
abbrev pub answered : ℕ → Asked → Reply → Traced
answered t a reply = record { thread = t; call = a.call; function = a.function; site = a.site; request = a.request; reply = reply }
