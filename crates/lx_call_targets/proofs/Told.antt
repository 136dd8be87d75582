-- What the writers of a slot that are found tell of all of them.
use Rattle.std.proofs.Common.{◌≡◌, ◌∙◌, ℕ, Bool, true, false, not, ◌&&◌, Option, Some, None, List, [], ◌∷◌, refl, ap, subst, if◌then◌else◌}
use Rattle.std.specs.Prelude.{filter, option_map}
use Rattle.std.proofs.lemmas.Bool.{both_ways}
use Rattle.std.specs.List.{find, flat_map, list_any}
use Rattle.lx_caps.specs.declared.Principal.{Principal}
use Rattle.lx_caps.specs.declared.Cap.TheVariants.{Call}
use Rattle.lx_caps.specs.History.{holds, same_principal}
use Rattle.lx_caps.specs.Names.{Namings}
use Rattle.lx_caps.specs.Precedence.{IsFirstPrincipal}
use Rattle.lx_caps.specs.Writers.{is_slot_writer}
use Rattle.lx_model.specs.declared.request.Outcome.{Outcome}
use Rattle.lx_model.specs.declared.request.Outcome.TheVariants.{Refused}
use Rattle.lx_model.specs.declared.request.Refusal.TheVariants as refusal
use Rattle.lx_model.specs.Act.{or_else, unless}
use Rattle.lx_model.specs.Enter.{writer_refusal}
use Rattle.lx_model.specs.State.{State, module_principals}
use Rattle.lx_slot_types.specs.Gets.{below}
use Rattle.lx_writer_sets.specs.Sets.{IsFirstWriter, IsSomeWriter}
use Rattle.lx_call_targets.specs.Writers.{AreTold, is_known, lacks}
use Rattle.lx_call_targets.specs.declared.writers.SlotWriters.TheVariants.{Nobody, AllHold, Lacks}
use Rattle.lx_call_targets.proofs.Listings.{first_in_order, known_listed}
use Rattle.lx_caps.proofs.PrincipalOrder.{one_first_principal, same_first}

-- nothing is left where nothing is found
none_left : (p : Principal → Bool) (qs : List Principal) → find p qs ≡ None → filter p qs ≡ []
none_left p [] none = refl
none_left p (q ∷ qs) none =
    (elim (p q) as (λ t. (if t then Some q else find p qs) ≡ None → (if t then q ∷ filter p qs else filter p qs) ≡ []) [
      | true ↦ λ e. absurd (cc)
      | false ↦ λ e. none_left p qs e
    ]) none

-- and what is found stands first in what is left
some_left : (p : Principal → Bool) (qs : List Principal) (w : Principal) → find p qs ≡ Some w → (more : List Principal) × (filter p qs ≡ w ∷ more)
some_left p [] w is = absurd (cc)
some_left p (q ∷ qs) w is =
    (elim (p q) as (λ t. (if t then Some q else find p qs) ≡ Some w → (more : List Principal) × ((if t then q ∷ filter p qs else filter p qs) ≡ w ∷ more)) [
      | true ↦ λ e. (filter p qs, let same : q ≡ w = cc in ap (λ x. x ∷ filter p qs) same)
      | false ↦ λ e. some_left p qs w e
    ]) is

module _ (s : State) (slot a : ℕ) where
  abbrev writes : Principal → Bool
  writes = is_slot_writer s.history slot

  abbrev has_call : Principal → Bool
  has_call q = holds s.history q (Call a)

  abbrev refused : Principal → Outcome
  refused q = Refused (refusal.Writer q a slot)

  -- one principal more
  refused_more : (q : Principal) (ws : List Principal) (found : Option Principal) (w c : Bool) → has_call q ≡ c → writer_refusal s slot a ws ≡ option_map refused found
      → writer_refusal s slot a (if w then q ∷ ws else ws) ≡ option_map refused (if w && not c then Some q else found)
  refused_more q ws found false c is rest = rest
  refused_more q ws found true true is rest = ap (λ b. or_else (unless b (refused q)) (writer_refusal s slot a ws)) is ∙ rest
  refused_more q ws found true false is rest = ap (λ b. or_else (unless b (refused q)) (writer_refusal s slot a ws)) is

  -- the refusal is that of the first writer that does not hold the call
  refused_by : (qs : List Principal) → writer_refusal s slot a (filter writes qs) ≡ option_map refused (find (λ q. writes q && not (has_call q)) qs)
  refused_by [] = refl
  refused_by (q ∷ qs) = refused_more q (filter writes qs) (find (λ r. writes r && not (has_call r)) qs) (writes q) (has_call q) refl (refused_by qs)

  turned : (k c w : Bool) → ((k && not c) && w) ≡ (k && (w && not c))
  turned true true true = refl
  turned true true false = refl
  turned true false true = refl
  turned true false false = refl
  turned false c w = refl

  module _ (names : Namings) (n : ℕ) where
    abbrev all : List Principal
    all = flat_map (module_principals names) (below n)

    -- the first that is found is the first that there is and that passes
    found_first : (p : Principal → Bool) → IsFirstPrincipal (λ q. is_known n names q && p q) (find p all)
    found_first p =
        let listed = known_listed names n in
        same_first (λ q. list_any (same_principal q) all && p q) (λ q. is_known n names q && p q) (λ q. ap (λ t. t && p q) (listed.each q)) (find p all) (first_in_order p all listed.ordered)

    is_found : (p : Principal → Bool) (first : Option Principal) → IsFirstPrincipal (λ q. is_known n names q && p q) first → find p all ≡ first
    is_found p first is = one_first_principal (λ q. is_known n names q && p q) (find p all) first (found_first p) is

    -- where there is some writer, a first one is found
    writer_found : (w : Principal) → IsSomeWriter s.history slot (is_known n names) (Some w) → (first : Option Principal) → find writes all ≡ first → (v : Principal) × (find writes all ≡ Some v)
    writer_found w is (Some v) found = (v, found)
    writer_found w is None none = absurd (both_ways (is_known n names w && writes w) (subst (IsFirstPrincipal (λ q. is_known n names q && writes q)) none (found_first writes) w) is)

    lacking_found : (first : Option Principal) → IsFirstWriter s.history slot (lacks n names s.history a) first → find (λ q. writes q && not (has_call q)) all ≡ first
    lacking_found first is =
        is_found (λ q. writes q && not (has_call q)) first
        (same_first (λ q. lacks n names s.history a q && writes q) (λ q. is_known n names q && (writes q && not (has_call q))) (λ q. turned (is_known n names q) (has_call q) (writes q)) first is)

    pub nobody : IsSomeWriter s.history slot (is_known n names) None → AreTold s slot a (filter writes all) Nobody
    nobody none = none_left writes all (is_found writes None none)

    pub lacking : (q : Principal) → IsFirstWriter s.history slot (lacks n names s.history a) (Some q) → AreTold s slot a (filter writes all) (Lacks q)
    lacking q is = refused_by all ∙ ap (option_map refused) (lacking_found (Some q) is)

    pub all_hold : (w : Principal) → IsSomeWriter s.history slot (is_known n names) (Some w) → IsFirstWriter s.history slot (lacks n names s.history a) None
        → AreTold s slot a (filter writes all) AllHold
    all_hold w some none =
        let found = writer_found w some (find writes all) refl in
        let first = some_left writes all found.0 found.1 in
        (found.0, first.0, first.1, refused_by all ∙ ap (option_map refused) (lacking_found None none))
