-- Whatever the schedule, the threads of a well-formed program ask as they may.
use Rattle.std.specs.Prelude.{◌≡◌, ℕ, ◌<◌, ◌≤◌, All, Some, List, length, slice_get}
use Rattle.lx_model.specs.declared.program.Program.{Program}
use Rattle.lx_model.specs.declared.program.ScriptCall.{ScriptCall}
use Rattle.lx_model.specs.declared.request.Request.{Request}
use Rattle.lx_model.specs.declared.request.Reply.{Reply}
use Rattle.lx_model.specs.Thread.{Thread, fresh_thread}
use Rattle.lx_model.specs.Next.{absorb, next}
use Rattle.lx_model.specs.State.{State}
use Rattle.lx_model.specs.Serve.{serve}
use Rattle.lx_model.specs.World.{opening, run}
use Rattle.lx_model.specs.Fits.{Fits}
use Rattle.lx_link_texts.specs.WellFormed.{FitsCall, FitsCalls, IsWellFormed}
use Rattle.lx_linked.specs.Replies.{ReplyFits}
use Rattle.lx_linked.specs.Threads.{ThreadFits}

pub record FittingLaws : Type 0 where
  -- one of sixteen threads fits before its first call, where its calls fit
  pub opens : (p : Program) (t : ℕ) (calls : List ScriptCall) → t < 16 → All (FitsCall p) calls → ThreadFits p t (fresh_thread calls)
  -- a thread that fits asks as it may
  pub asks : (p : Program) (t : ℕ) (thread : Thread) → IsWellFormed p → ThreadFits p t thread → Fits p t (next p t thread).request
  -- and fits behind each reply that may be given
  pub kept : (p : Program) (t : ℕ) (thread : Thread) (reply : Reply) → IsWellFormed p → ThreadFits p t thread → ReplyFits p t (next p t thread).request.what reply
      → ThreadFits p t (absorb p t (next p t thread).thread (next p t thread).request reply)
  -- as the monitor's is in each state
  pub served : (p : Program) (s : State) (t : ℕ) (r : Request) → Fits p t r → ReplyFits p t r.what (serve p s t r).reply
  -- so each thread of each world that a run of at most sixteen threads reaches fits, and asks as it may
  pub runs : (p : Program) (script : List (List ScriptCall)) (schedule : List ℕ) (t : ℕ) (thread : Thread) → IsWellFormed p → length script ≤ 16 → FitsCalls p script
      → slice_get (run p schedule (opening p script)).threads t ≡ Some thread → ThreadFits p t thread × Fits p t (next p t thread).request
