-- Threads that ask one request again and again.
use Rattle.std.specs.Prelude.{ℕ, ◌-◌, ◌==◌, not}
use Rattle.lx_model.specs.declared.request.Request.{Request}
use Rattle.lx_threads.specs.Machines.{Machine}

-- how often it will yet ask, and what
pub record Calls : Type 0 where
  pub left : ℕ
  pub request : Request

-- it has work while it will yet ask, and each reply is one call less
abbrev pub calling : Machine Calls
calling = record {
  works = λ x. not (x.left == 0);
  asks = λ t x. x.request;
  absorbs = λ t x reply. record { left = x.left - 1; request = x.request };
}
