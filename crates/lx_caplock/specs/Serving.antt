-- Legal histories: each reply is the one that is served at its place. And what a history leaves of a part.
use Rattle.std.specs.Prelude.{◌≡◌, ℕ, List, [], ◌∷◌, Option, Some, None}
use Rattle.lx_model.specs.declared.program.Program.{Program}
use Rattle.lx_model.specs.declared.request.Reply.{Reply}
use Rattle.lx_model.specs.declared.request.Request.{Request}
use Rattle.lx_model.specs.State.{State}
use Rattle.lx_model.specs.Serve.{Served, serve}
use Rattle.lx_caplock.specs.declared.knowledge.Entry.{Entry}

-- the part answers as it is served, and stands for the state that is left
pub record IsServed {T : Type 0} (stands : T → State → Type 0) (new : T) (answer : Reply) (x : Served) : Type 0 where
  pub reply : answer ≡ x.reply
  pub state : stands new x.state

-- what the monitor makes of the request of an entry
abbrev pub served_by : Program → State → Entry → Served
served_by p s e = serve p s e.thread e.request

-- the state that a history leaves
abbrev pub state_after : Program → State → List Entry → State
state_after p s [] = s
state_after p s (e ∷ es) = state_after p (served_by p s e).state es

-- each reply is the one that is served at its place
abbrev pub IsLegal : Program → State → List Entry → Type 0
IsLegal p s [] = Unit {0}
IsLegal p s (e ∷ es) = (e.reply ≡ (served_by p s e).reply) × IsLegal p (served_by p s e).state es

module _ {T : Type 0} (program : T → Program) (stands : T → State → Type 0) where
  -- the history is legal from each state that the part stands for
  abbrev pub LegalFrom : Option T → List Entry → Type 0
  LegalFrom None history = Unit {0}
  LegalFrom (Some opened) history = (s : State) → stands opened s → IsLegal (program opened) s history

  -- the second part is what the history leaves of the first: for each state that the first stands for, the second stands for
  -- the state that the history leaves
  abbrev pub Leaves : Option T → T → List Entry → Type 0
  Leaves None left history = Unit {0}
  Leaves (Some opened) left history = (program left ≡ program opened) × ((s : State) → stands opened s → stands left (state_after (program opened) s history))

-- the request of the thread may be asked of a part of the same program as this one
abbrev pub MayAsk : {T : Type 0} → (T → Program) → (Program → ℕ → Request → Type 0) → Option T → ℕ → Request → Type 0
MayAsk program takes None t r = ⊥
MayAsk program takes (Some opened) t r = takes (program opened) t r
