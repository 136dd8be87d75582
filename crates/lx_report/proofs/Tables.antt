-- Tables of the slot types that functions of modules get.
use Rattle.std.proofs.Common.{◌≡◌, ◌∙◌, refl, sym, ap, subst, ℕ, zero, suc, ◌+◌, ◌<◌, Option, Some, List, [], ◌∷◌, ◌++◌, length, get_or, slice_get}
use Rattle.std.specs.Prelude.{All}
use Rattle.std.proofs.lemmas.List.{length-append}
use Rattle.std.proofs.lemmas.List.Elements.{All-get_or}
use Rattle.std.proofs.lemmas.Option.{slice_get-get_or, same_Some}
use Rattle.lx_annot.specs.declared.interface.Interface.{Interface}
use Rattle.lx_ir.specs.Lawful.{IsLawful}
use Rattle.lx_ir.specs.declared.module.Module.{Module}
use Rattle.lx_model.specs.declared.program.ProgramModule.{ProgramModule}
use Rattle.lx_model.specs.Program.{module_or_empty}
use Rattle.lx_slot_types.specs.Gets.{slot_of}
use Rattle.lx_propagate.specs.declared.slots.SlotTypes.{SlotTypes}
use Rattle.lx_propagate.specs.Told.{HasSlotTypes}
use Rattle.lx_propagate.specs.Within.{HasLawfulTypes}
use Rattle.lx_propagate.proofs.Within as within
use Rattle.lx_report.specs.Slots.{AreTypesOf, AreFirstTypes, AddsTypes}

pub lawful_types : (m : Module) → IsLawful m → HasLawfulTypes m
lawful_types m h = within.lawful_types m h

-- a module among lawful ones
pub lawful_there : (ms : List ProgramModule) (k : ℕ) (m : ProgramModule) → All (λ (x : ProgramModule). IsLawful x.«module») ms → k < length ms → m ≡ get_or ms k m → IsLawful m.«module»
lawful_there ms k m h within is = subst (λ (x : ProgramModule). IsLawful x.«module») (sym is) (All-get_or (λ (x : ProgramModule). IsLawful x.«module») ms k m within h)

pub adds_types : (i : Interface) (m : Module) (types : SlotTypes) (old new : List SlotTypes) → HasSlotTypes i m types → new ≡ old ++ types ∷ [] → AddsTypes i m old new
unfolding AddsTypes
adds_types i m types old new has is = (types, has, is)

-- where there is no table, each is that of its module
pub no_types : (i : Interface) (ms : List ProgramModule) → AreTypesOf i ms []
unfolding AreTypesOf
no_types i ms k types at = absurd (cc)

pub no_first_types : (i : Interface) (ms : List ProgramModule) → AreFirstTypes i ms 0 []
unfolding AreFirstTypes
no_first_types i ms = (refl, no_types i ms)

-- what holds of each table by its place holds with one more, where it holds of that one
each_more : (P : ℕ → SlotTypes → Type 0) (tables : List SlotTypes) (types : SlotTypes) → ((k : ℕ) → (t : SlotTypes) → slice_get tables k ≡ Some t → P k t) → P (length tables) types
    → (k : ℕ) → (t : SlotTypes) → slice_get (tables ++ types ∷ []) k ≡ Some t → P k t
each_more P [] types each last zero t at = subst (P zero) (same_Some types t at) last
each_more P [] types each last (suc k) t at = absurd (cc)
each_more P (s ∷ tables) types each last zero t at = each zero t at
each_more P (s ∷ tables) types each last (suc k) t at = each_more (λ n. P (suc n)) tables types (λ n. each (suc n)) last k t at

module _ (i : Interface) (ms : List ProgramModule) where
  more : (tables : List SlotTypes) (types : SlotTypes) → AreTypesOf i ms tables → HasSlotTypes i (module_or_empty (slice_get ms (length tables))) types → AreTypesOf i ms (tables ++ types ∷ [])
  unfolding AreTypesOf
  more tables types so_far has = each_more (λ k t. HasSlotTypes i (module_or_empty (slice_get ms k)) t) tables types so_far has

  pub first_types_more : (k : ℕ) (m : ProgramModule) (old new : List SlotTypes) → AreFirstTypes i ms k old → k < length ms → m ≡ get_or ms k m → AddsTypes i m.«module» old new → AreFirstTypes i ms (k + 1) new
  unfolding AreFirstTypes AddsTypes
  first_types_more k m old new (count, so_far) within is (types, has, added) =
      let there : m.«module» ≡ module_or_empty (slice_get ms (length old)) =
      ap module_or_empty (ap Some is ∙ sym (slice_get-get_or ms k m within) ∙ ap (slice_get ms) (sym count)) in
      let all = more old types so_far (subst (λ x. HasSlotTypes i x types) there has) in
      (ap length added ∙ length-append old (types ∷ []) ∙ ap (λ n. n + 1) count, subst (AreTypesOf i ms) (sym added) all)

  pub all_types : (k : ℕ) (tables : List SlotTypes) → AreFirstTypes i ms k tables → AreTypesOf i ms tables
  unfolding AreFirstTypes
  all_types k tables h = h.1

-- what a table tells is the slot type
pub slot_told : (i : Interface) (ms : List ProgramModule) (tables : List SlotTypes) (home f : ℕ) (types : SlotTypes) (slot : Option ℕ) → AreTypesOf i ms tables → slice_get tables home ≡ Some types
    → ((j : Interface) → (m : Module) → HasSlotTypes j m types → slot ≡ slot_of j m f) → slot ≡ slot_of i (module_or_empty (slice_get ms home)) f
unfolding AreTypesOf
slot_told i ms tables home f types slot are at tells = tells i (module_or_empty (slice_get ms home)) (are home types at)
