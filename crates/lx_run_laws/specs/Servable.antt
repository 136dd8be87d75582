-- Which requests may be served, whatever their arguments are.
use Rattle.std.specs.Prelude.{ℕ, Bool, true, ◌&&◌, None, nat_le, nat_lt}
use Rattle.lx_caps.specs.Regions.{stack_start, stack_end}
use Rattle.lx_model.specs.declared.program.Program.{Program}
use Rattle.lx_model.specs.declared.request.Way.{Way}
use Rattle.lx_model.specs.declared.request.Way.TheVariants.{Script, Direct, Indirect, Slot}
use Rattle.lx_model.specs.declared.request.What.{What}
use Rattle.lx_model.specs.declared.request.What.TheVariants as what
use Rattle.lx_model.specs.declared.request.Request.{Request}
use Rattle.lx_model.specs.Program.{is_in}

-- the range between the two addresses lies in the thread's stack
abbrev pub is_on_stack : ℕ → ℕ → ℕ → Bool
is_on_stack t low high = nat_le (stack_start t) low && (nat_le low high && nat_le high (stack_end t))

-- a module calls only functions of the kernel by their names
abbrev pub is_servable_way : Program → Way → Bool
is_servable_way p (Script n) = true
is_servable_way p (Direct n) = is_in p None n
is_servable_way p (Indirect a) = true
is_servable_way p (Slot slot ty) = true

-- bytes are asked for at or above the stack's start, and those that are given back lie in the stack
abbrev pub is_servable_what : Program → ℕ → What → Bool
is_servable_what p t (what.Alloca at size) = nat_le (stack_start t) at
is_servable_what p t (what.Return low high) = is_on_stack t low high
is_servable_what p t (what.Enter way args) = is_servable_way p way
is_servable_what p t _ = true

-- a request of one of the 16 threads
abbrev pub is_servable : Program → ℕ → Request → Bool
is_servable p t r = nat_lt t 16 && is_servable_what p t r.what
