-- As whom a function is entered.
use Rattle.std.specs.Prelude.{◌≡◌, ℕ, List, Result, Ok, Err, if◌then◌else◌}
use Rattle.lx_words.specs.Word.{Word}
use Rattle.lx_caps.specs.History.{History}
use Rattle.lx_caps.specs.declared.Principal.{Principal}
use Rattle.lx_annot.specs.Value.{Found}
use Rattle.lx_model.specs.declared.program.Program.{Program}
use Rattle.lx_model.specs.Act.{unmapped}
use Rattle.lx_model.specs.Enter.{Running, runs_in, text_of_principal}
use Rattle.lx_model.specs.Program.{home_of, is_in}
use Rattle.lx_model.specs.State.{State}
use Rattle.lx_serve.specs.Stands.{Keeps}
use Rattle.lx_serve.specs.declared.halt.Halt.{Halt}
use Rattle.lx_serve.specs.declared.halt.Halt.TheVariants.{Ended, Memory}
use Rattle.lx_serve.specs.declared.monitor.Monitor.{Monitor}

-- as whom a function runs that is called by an address: inside its own text a principal stays
abbrev pub runs_called : Program → State → Principal → ℕ → List Word → Found Running
runs_called p s who n args =
    if is_in p (text_of_principal who) n then Ok (record { principal = who; names = s.names }) else runs_in p s n args (home_of p n)

-- the value is what was found, or the outcome that of looking at what is not mapped
abbrev pub IsValue : Found ℕ → Result ℕ Halt → Type 0
IsValue found (Ok v) = found ≡ Ok v
IsValue found (Err (Ended o)) = (at : ℕ) × (found ≡ Err at) × (o ≡ unmapped at)
IsValue found (Err Memory) = ⊥

-- the principal is the one that was looked up, and the monitor keeps the state with the names that are left
pub record IsNamed {C : Type 0} (stands : C → History → Type 0) (p : Program) (m : Monitor C) (s : State) (r : Running) (q : Principal) : Type 0 where
  pub principal : q ≡ r.principal
  pub keeps : Keeps stands p m (record s { names = r.names })

-- want of memory leaves the names
abbrev pub IsInstance : {C E : Type 0} → (C → History → Type 0) → Program → Monitor C → State → Running → Result Principal E → Type 0
IsInstance stands p m s r (Ok q) = IsNamed stands p m s r q
IsInstance stands p m s r (Err e) = Keeps stands p m s

-- a function runs as the principal; or its expression is not mapped, or memory is wanted though it is, and the state is as
-- it was
abbrev pub RunsAs : {C : Type 0} → (C → History → Type 0) → Program → Monitor C → State → Found Running → Result Principal Halt → Type 0
RunsAs stands p m s found (Ok q) = (r : Running) × (found ≡ Ok r) × IsNamed stands p m s r q
RunsAs stands p m s found (Err (Ended o)) = (at : ℕ) × (found ≡ Err at) × (o ≡ unmapped at) × Keeps stands p m s
RunsAs stands p m s found (Err Memory) = (r : Running) × (found ≡ Ok r) × Keeps stands p m s
