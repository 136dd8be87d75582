-- What an action asks for its items.
use Rattle.std.specs.Prelude.{Option, Some, None, List, []}
use Rattle.lx_caps.specs.declared.Principal.{Principal}
use Rattle.lx_caps.specs.declared.Cap.{Cap}
use Rattle.lx_annot.specs.Action.{Action}
use Rattle.lx_actions.specs.Deeds.{deed_of, gives, is_transfer}
use Rattle.lx_certificates.specs.declared.Need.{Need}
use Rattle.lx_run_laws.specs.Errands.{Errand}
use Rattle.lx_run_laws.specs.Needs.{item_needs}
use Rattle.lx_why.specs.declared.action_needs.Terms.{Terms}

-- what an action asks of its source, whatever conditions stand before it
abbrev pub terms_of : Principal → Action → Terms
terms_of source a = record { source = source; transfers = is_transfer (deed_of a); gives = gives (deed_of a) }

-- the errand of an action that asks so for these items
abbrev pub errand_by : Terms → List Cap → Errand
errand_by t items = record { source = t.source; transfers = t.transfers; gives = t.gives; items = items }

-- what is asked for items that were found, and nothing where they were not
abbrev pub needs_found : Terms → Option (List Cap) → List Need
needs_found t (Some items) = item_needs (Some (errand_by t items))
needs_found t None = []
