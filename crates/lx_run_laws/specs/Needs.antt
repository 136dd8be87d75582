-- What a request needs to be held and kept by modules, and the need that a refusal is for.
use Rattle.std.specs.Prelude.{◌≡◌, ℕ, zero, suc, Bool, true, false, Option, Some, None, List, [], ◌∷◌, ◌++◌, map, filter, take_while, if◌then◌else◌}
use Rattle.std.specs.List.{list_all}
use Rattle.lx_words.specs.Width.{byte_count}
use Rattle.lx_caps.specs.declared.Principal.{Principal}
use Rattle.lx_caps.specs.declared.Cap.{Cap}
use Rattle.lx_caps.specs.declared.Cap.TheVariants.{Write, Call, Ref}
use Rattle.lx_caps.specs.History.{holds, keeps_all}
use Rattle.lx_caps.specs.Memory.{number_at}
use Rattle.lx_caps.specs.Regions.{mapped}
use Rattle.lx_certificates.specs.declared.Need.{Need}
use Rattle.lx_certificates.specs.Needs.{is_met, up_to_unmet}
use Rattle.lx_model.specs.declared.program.Program.{Program}
use Rattle.lx_model.specs.declared.request.Outcome.TheVariants.{Refused}
use Rattle.lx_model.specs.declared.request.Refusal.{Refusal}
use Rattle.lx_model.specs.declared.request.Refusal.TheVariants as refusal
use Rattle.lx_model.specs.declared.request.Reply.{Reply}
use Rattle.lx_model.specs.declared.request.Reply.TheVariants.{Ended}
use Rattle.lx_model.specs.declared.request.Request.{Request}
use Rattle.lx_model.specs.declared.request.Way.TheVariants.{Indirect, Slot}
use Rattle.lx_model.specs.declared.request.What.{What}
use Rattle.lx_model.specs.declared.request.What.TheVariants as what
use Rattle.lx_model.specs.Authority.{is_module}
use Rattle.lx_model.specs.Enter.{slot_writers}
use Rattle.lx_model.specs.State.{State}
use Rattle.lx_run_laws.specs.Errands.{Errand, errand_of, is_placed, need_of_item}

-- a need of what is only used, so that a loan will do
abbrev pub to_hold : Principal → Cap → Need
to_hold who c = record { who = who; cap = c; kept = false }

-- the items before the first that may not lie where it does
abbrev pub item_needs : Option Errand → List Need
item_needs None = []
item_needs (Some e) = map (need_of_item e) (take_while (is_placed e) e.items)

-- what a request needs, of the kernel too: a write its bytes, a call by an address the call, a call through a slot the
-- call by each of the slot's writers, and an action its items
abbrev pub all_needs : Program → State → Principal → What → List Need
all_needs p s who (what.Store at w) = to_hold who (Write at (byte_count w.width)) ∷ []
all_needs p s who (what.Fill to byte zero) = []
all_needs p s who (what.Fill to byte (suc len)) = to_hold who (Write to (suc len)) ∷ []
all_needs p s who (what.Copy to from zero) = []
all_needs p s who (what.Copy to from (suc len)) = to_hold who (Write to (suc len)) ∷ []
all_needs p s who (what.Enter (Indirect a) args) = to_hold who (Call a) ∷ []
all_needs p s who (what.Enter (Slot slot ty) args) =
    if mapped slot 8 then map (λ w. to_hold w (Call (number_at s.memory slot 8))) (slot_writers p s slot) else []
all_needs p s who (what.Perform n post k env source dest) = item_needs (errand_of p s (what.Perform n post k env source dest))
all_needs p s who _ = []

-- what modules need for a request, in the order in which it is asked for
abbrev pub needs_of : Program → State → Request → List Need
needs_of p s r = up_to_unmet s.history (filter (λ n. is_module n.who) (all_needs p s r.who r.what))

-- the refusals for a need
abbrev pub is_for_need : Refusal → Bool
is_for_need (refusal.Write who at size) = true
is_for_need (refusal.Call who at) = true
is_for_need (refusal.Ref who ty at) = true
is_for_need (refusal.NotAnnotated who at) = false
is_for_need (refusal.OtherAnnotation who at ty n) = false
is_for_need (refusal.Writer who at slot) = true
is_for_need (refusal.OnStack who at size) = false
is_for_need (refusal.Outside who at size) = false
is_for_need (refusal.Alias who known further) = false
is_for_need (refusal.Borrowed who c) = true

-- a reply refuses for a need
abbrev pub refuses_need : Reply → Bool
refuses_need (Ended (Refused x)) = is_for_need x
refuses_need _ = false

-- the need is of this principal for this capability
abbrev pub IsNeed : Need → Principal → Cap → Type 0
IsNeed n who c = (n.who ≡ who) × (n.cap ≡ c)

-- the call through this slot leads to this address
abbrev pub IsThrough : State → What → ℕ → ℕ → Type 0
IsThrough s (what.Enter (Slot at ty) args) slot a = (at ≡ slot) × (number_at s.memory slot 8 ≡ a)
IsThrough s w slot a = ⊥

-- the refusal names the need, and what it lacks
abbrev pub IsNamed : State → What → Need → Refusal → Type 0
IsNamed s w n (refusal.Write who at size) = IsNeed n who (Write at size) × (holds s.history who (Write at size) ≡ false)
IsNamed s w n (refusal.Call who at) = IsNeed n who (Call at) × (holds s.history who (Call at) ≡ false)
IsNamed s w n (refusal.Ref who ty at) = IsNeed n who (Ref ty at) × (holds s.history who (Ref ty at) ≡ false)
IsNamed s w n (refusal.Writer who at slot) = IsNeed n who (Call at) × (holds s.history who (Call at) ≡ false) × IsThrough s w slot at
IsNamed s w n (refusal.Borrowed who c) = IsNeed n who c × (n.kept ≡ true) × (holds s.history who c ≡ true) × (keeps_all s.history who c ≡ false)
IsNamed s w n _ = ⊥

-- of these needs all but the last are met, and the refusal names the last
pub record IsUnmet (s : State) (w : What) (ns : List Need) (x : Refusal) : Type 0 where
  pub before : List Need
  pub last : Need
  pub place : ns ≡ before ++ last ∷ []
  pub met : list_all (is_met s.history) before ≡ true
  pub named : IsNamed s w last x
