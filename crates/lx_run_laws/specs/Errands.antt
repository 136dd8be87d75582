-- What actions ask of the capabilities that they name, and what requests need.
use Rattle.std.specs.Prelude.{ℕ, suc, Bool, true, false, not, ◌&&◌, Option, Some, None, Ok, Err, List, slice_get, option_and_then}
use Rattle.lx_caps.specs.declared.Principal.{Principal}
use Rattle.lx_caps.specs.declared.Cap.{Cap}
use Rattle.lx_caps.specs.declared.Cap.TheVariants.{Write}
use Rattle.lx_caps.specs.History.{History}
use Rattle.lx_caps.specs.Memory.{Memory, load64}
use Rattle.lx_caps.specs.Regions.{mapped, overlaps, stacks_start, region_size}
use Rattle.lx_certificates.specs.declared.Need.{Need}
use Rattle.lx_certificates.specs.Needs.{is_met}
use Rattle.lx_annot.specs.declared.expr.Env.{Env}
use Rattle.lx_annot.specs.declared.interface.Interface.{Interface}
use Rattle.lx_annot.specs.Action.{Action, Copy, Transfer, Check, Lend, End, If}
use Rattle.lx_annot.specs.Items.{caps_of}
use Rattle.lx_annot.specs.Value.{Found, value}
use Rattle.lx_model.specs.declared.program.Program.{Program}
use Rattle.lx_model.specs.declared.request.What.{What}
use Rattle.lx_model.specs.declared.request.What.TheVariants as what
use Rattle.lx_model.specs.Next.{actions_of}
use Rattle.lx_model.specs.State.{State}

-- what an action asks for: whose items, whether they are taken from everyone, whether they are given or lent on, and which
pub record Errand : Type 0 where
  pub source : Principal
  pub transfers : Bool
  pub gives : Bool
  pub items : List Cap

abbrev pub errand_for : Principal → Bool → Bool → Found (List Cap) → Option Errand
errand_for source transfers gives (Ok items) = Some (record { source = source; transfers = transfers; gives = gives; items = items })
errand_for source transfers gives (Err at) = None

-- an action is done where its condition is not 0
abbrev pub where_true : Found ℕ → Option Errand → Option Errand
where_true (Ok (suc n)) errand = errand
where_true _ errand = None

-- an action that is done, and whose items are found
abbrev pub errand_of_action : Interface → Action → Env → Principal → Memory → Option Errand
errand_of_action i (Copy list) env source memory = errand_for source false true (caps_of i (load64 memory) env list)
errand_of_action i (Transfer list) env source memory = errand_for source true true (caps_of i (load64 memory) env list)
errand_of_action i (Check list) env source memory = errand_for source false false (caps_of i (load64 memory) env list)
errand_of_action i (Lend list) env source memory = errand_for source false true (caps_of i (load64 memory) env list)
errand_of_action i (End k) env source memory = None
errand_of_action i (If e a) env source memory = where_true (value (load64 memory) env e) (errand_of_action i a env source memory)

-- the action that a request performs
abbrev pub errand_of : Program → State → What → Option Errand
errand_of p s (what.Perform n post k env source dest) =
    option_and_then (λ a. errand_of_action p.interface a env source s.memory) (slice_get (actions_of p n post) k)
errand_of p s _ = None

-- a range lies in memory
abbrev pub is_in_memory : Cap → Bool
is_in_memory (Write at size) = mapped at size
is_in_memory _ = true

-- a range has a byte of a stack
abbrev pub is_on_stacks : Cap → Bool
is_on_stacks (Write at size) = overlaps at size stacks_start region_size
is_on_stacks _ = false

-- an item lies in memory, and one that is transferred on no stack
abbrev pub is_placed : Errand → Cap → Bool
is_placed e c = is_in_memory c && not (e.transfers && is_on_stacks c)

-- what the source of an action needs for an item
abbrev pub need_of_item : Errand → Cap → Need
need_of_item e c = record { who = e.source; cap = c; kept = e.gives }

-- nothing is wrong with an item
abbrev pub is_fine : History → Errand → Cap → Bool
is_fine h e c = is_placed e c && is_met h (need_of_item e c)
