-- What actions and block writes ask.
use Rattle.std.proofs.Common.{◌≡◌, ◌∙◌, refl, sym, ap, ℕ, zero, suc, Bool, true, false, Option, Some, None, Ok, Err, List, [], map, take, length}
use Rattle.std.specs.Prelude.{filter, flat_map, option_and_then, slice_get, if◌then◌else◌}
use Rattle.std.specs.List.{prefix_len}
use Rattle.std.specs.Result.{result_ok}
use Rattle.std.proofs.lemmas.List.Folds.{length-prefix_len}
use Rattle.lx_caps.specs.declared.Principal.{Principal}
use Rattle.lx_caps.specs.declared.Cap.{Cap}
use Rattle.lx_caps.specs.declared.Cap.TheVariants.{Call}
use Rattle.lx_caps.specs.Memory.{Memory, load64, number_at}
use Rattle.lx_caps.specs.Regions.{mapped}
use Rattle.lx_caps.specs.Writers.{is_slot_writer}
use Rattle.lx_principals.specs.Instances.{Instances}
use Rattle.lx_slot_types.specs.Gets.{below}
use Rattle.lx_annot.specs.declared.expr.Env.{Env}
use Rattle.lx_annot.specs.declared.interface.Interface.{Interface}
use Rattle.lx_annot.specs.Action.{Action, End, If}
use Rattle.lx_annot.specs.Items.{action_caps, unless_zero}
use Rattle.lx_annot.specs.Value.{Found, and_then, value}
use Rattle.lx_certificates.specs.declared.Need.{Need}
use Rattle.lx_model.specs.declared.program.Program.{Program}
use Rattle.lx_model.specs.declared.request.What.TheVariants as what
use Rattle.lx_model.specs.Next.{actions_of}
use Rattle.lx_model.specs.State.{State, module_principals}
use Rattle.lx_serve.specs.Stands.{instances}
use Rattle.lx_run_laws.specs.Errands.{Errand, errand_for, errand_of_action, where_true}
use Rattle.lx_run_laws.specs.Needs.{all_needs, item_needs, to_hold}
use Rattle.lx_why.specs.declared.action_needs.Terms.{Terms}
use Rattle.lx_why.specs.AskedNeeds.{needs_found, terms_of}
use Rattle.lx_why.specs.ListedNeeds.{block_needs, of_modules, slot_needs, writer_needs}

-- the items at the front that pass are as many as they are
pub front_length : {A : Type 0} (p : A → Bool) (xs : List A) (n : ℕ) → n ≡ prefix_len p xs → n ≡ length (take n xs)
front_length p xs n is = is ∙ sym (length-prefix_len p xs) ∙ ap (λ (k : ℕ). length (take k xs)) (sym is)

-- the terms of an errand, and what was found for it
asked_for : (source : Principal) (transfers gives : Bool) (found : Found (List Cap)) → item_needs (errand_for source transfers gives found) ≡ needs_found (record { source = source; transfers = transfers; gives = gives }) (result_ok found)
asked_for source transfers gives (Ok items) = refl
asked_for source transfers gives (Err at) = refl

-- an action behind a condition
asked_if : (v : Found ℕ) (errand : Option Errand) (t : Terms) (found : Found (List Cap)) → item_needs errand ≡ needs_found t (result_ok found)
    → item_needs (where_true v errand) ≡ needs_found t (result_ok (and_then v (unless_zero found)))
asked_if (Err at) errand t found is = refl
asked_if (Ok zero) errand t found is = refl
asked_if (Ok (suc n)) errand t found is = is

-- what an action asks are its terms for what it names
pub asked : (i : Interface) (a : Action) (env : Env) (source : Principal) (m : Memory)
    → item_needs (errand_of_action i a env source m) ≡ needs_found (terms_of source a) (result_ok (action_caps i (load64 m) env a))
asked i (End k) env source m = refl
asked i (If e a) env source m =
    asked_if (value (load64 m) env e) (errand_of_action i a env source m) (terms_of source a) (action_caps i (load64 m) env a) (asked i a env source m)
asked i a env source m = asked_for source (terms_of source a).transfers (terms_of source a).gives (action_caps i (load64 m) env a)

-- block writes
pub filled : (p : Program) (s : State) (who : Principal) (to byte len : ℕ) → all_needs p s who (what.Fill to byte len) ≡ block_needs who to len
filled p s who to byte zero = refl
filled p s who to byte (suc n) = refl

pub copied : (p : Program) (s : State) (who : Principal) (to from len : ℕ) → all_needs p s who (what.Copy to from len) ≡ block_needs who to len
copied p s who to from zero = refl
copied p s who to from (suc n) = refl

-- an action of a crossing, where the annotation has it
pub performed : (p : Program) (s : State) (who : Principal) (n : ℕ) (post : Bool) (k : ℕ) (env : Env) (source dest : Principal) (a : Action) → Some a ≡ slice_get (actions_of p n post) k
    → all_needs p s who (what.Perform n post k env source dest) ≡ item_needs (errand_of_action p.interface a env source s.memory)
performed p s who n post k env source dest a is =
    ap (λ (o : Option Action). item_needs (option_and_then (λ x. errand_of_action p.interface x env source s.memory) o)) (sym is)

pub not_performed : (p : Program) (s : State) (who : Principal) (n : ℕ) (post : Bool) (k : ℕ) (env : Env) (source dest : Principal) → None ≡ slice_get (actions_of p n post) k
    → all_needs p s who (what.Perform n post k env source dest) ≡ []
not_performed p s who n post k env source dest is =
    ap (λ (o : Option Action). item_needs (option_and_then (λ x. errand_of_action p.interface x env source s.memory) o)) (sym is)

-- the needs of writers that are the slot's, for the address that stands in it
pub writers_asked : (p : Program) (s : State) (slot at : ℕ) (names : Instances) (ws : List Principal) (ns : List Need) → at ≡ number_at s.memory slot 8 → names ≡ instances p s
    → ws ≡ filter (is_slot_writer s.history slot) (flat_map (module_principals names.names) (below names.modules)) → ns ≡ of_modules (map (λ w. to_hold w (Call at)) ws)
    → ns ≡ of_modules (writer_needs p s slot)
writers_asked p s slot at names ws ns stands_there named written is =
    is
    ∙ ap (λ (a : ℕ). of_modules (map (λ w. to_hold w (Call a)) ws)) stands_there
    ∙ ap (λ (vs : List Principal). of_modules (map (λ w. to_hold w (Call (number_at s.memory slot 8))) vs))
    (written ∙ ap (λ (x : Instances). filter (is_slot_writer s.history slot) (flat_map (module_principals x.names) (below x.modules))) named)

-- a slot in memory, and one that is not
pub in_memory : (p : Program) (s : State) (slot : ℕ) → mapped slot 8 ≡ true → slot_needs p s slot ≡ writer_needs p s slot
in_memory p s slot is = ap (λ (b : Bool). if b then writer_needs p s slot else []) is

pub outside : (p : Program) (s : State) (slot : ℕ) → mapped slot 8 ≡ false → slot_needs p s slot ≡ []
outside p s slot is = ap (λ (b : Bool). if b then writer_needs p s slot else []) is
