-- What a call by an address or through a slot comes to, in parts.
use Rattle.std.proofs.Common.{◌≡◌, ◌∙◌, refl, sym, ap, subst, ℕ, ◌||◌, Bool, true, false, not, if◌then◌else◌, Option, Some, None, Result, Ok, Err, List, [], ◌∷◌}
use Rattle.std.specs.Prelude.{filter}
use Rattle.std.specs.List.{flat_map}
use Rattle.lx_words.specs.Word.{Word}
use Rattle.lx_caps.specs.declared.Principal.{Principal}
use Rattle.lx_caps.specs.declared.Cap.TheVariants.{Call}
use Rattle.lx_caps.specs.Regions.{mapped}
use Rattle.lx_caps.specs.History.{History, holds}
use Rattle.lx_caps.specs.Writers.{is_slot_writer}
use Rattle.lx_caps.specs.Memory.{number_at}
use Rattle.lx_annot.specs.Value.{Found}
use Rattle.lx_slot_types.specs.Gets.{below}
use Rattle.lx_principals.specs.Instances.{Instances}
use Rattle.lx_model.specs.declared.program.Program.{Program}
use Rattle.lx_model.specs.declared.request.Outcome.{Outcome}
use Rattle.lx_model.specs.declared.request.Outcome.TheVariants.{Refused, Trapped}
use Rattle.lx_model.specs.declared.request.Refusal.TheVariants as refusal
use Rattle.lx_model.specs.declared.request.Reply.TheVariants.{Entered}
use Rattle.lx_model.specs.declared.request.Trap.TheVariants.{Signature}
use Rattle.lx_model.specs.declared.request.Way.{Way}
use Rattle.lx_model.specs.declared.request.Way.TheVariants.{Indirect, Slot}
use Rattle.lx_model.specs.declared.request.What.TheVariants as what
use Rattle.lx_model.specs.Act.{or_else, unless, unmapped}
use Rattle.lx_model.specs.Enter.{Running, by_writers, clean_target, crosses, decide_enter, decide_target, entered_function, fits_params, found_nothing, nobody, not_annotated, runs_as, runs_in, slot_signature, slot_target, slot_writers, text_of_principal, writer_refusal, written_target}
use Rattle.lx_model.specs.Program.{Home, function_at, home_of, is_annotated, is_in, is_module_function}
use Rattle.lx_model.specs.Serve.{entering, entering_as}
use Rattle.lx_model.specs.State.{State, module_principals}
use Rattle.lx_call_targets.specs.Writers.{AreTold}
use Rattle.lx_call_targets.specs.declared.writers.SlotWriters.{SlotWriters}
use Rattle.lx_call_targets.specs.declared.writers.SlotWriters.TheVariants.{Nobody, AllHold, Lacks}
use Rattle.lx_serve.specs.Entering.{RunsAs, runs_called}
use Rattle.lx_serve.specs.Stands.{Keeps, Gives, Tries, instances}
use Rattle.lx_serve.specs.Targets.{Finds, nobody_at, unless_allowed, unless_called, unless_fitting, unless_known, unless_slot, unless_target}
use Rattle.lx_serve.specs.declared.halt.Halt.{Halt}
use Rattle.lx_serve.specs.declared.halt.Halt.TheVariants.{Ended, Memory}
use Rattle.lx_serve.specs.declared.monitor.Monitor.{Monitor}
use Rattle.lx_serve.proofs.Entered.{runs_plain}

-- the function at an address that may be entered from a text

pub known_none : (p : Program) (home : Home) (who : Principal) (a : ℕ) (found : Option ℕ) (halt : Halt) → None ≡ found → halt ≡ Ended (not_annotated who a) → Finds found (unless_known p home who a found) (Err halt)
known_none p home who a found halt none is =
    subst (λ (o : Option ℕ). Finds o (unless_known p home who a o) (Err halt)) none
    (subst (λ (h : Halt). Finds None (Some (not_annotated who a)) (Err h)) (sym is) refl)

pub known_off : (p : Program) (home : Home) (who : Principal) (a n : ℕ) (found : Option ℕ) (halt : Halt) → Some n ≡ found → (is_in p home n || is_annotated p n) ≡ false → halt ≡ Ended (not_annotated who a)
    → Finds found (unless_known p home who a found) (Err halt)
known_off p home who a n found halt some off is =
    subst (λ (o : Option ℕ). Finds o (unless_known p home who a o) (Err halt)) some
    (subst (λ (h : Halt). Finds (Some n) (unless_known p home who a (Some n)) (Err h)) (sym is) (ap (λ b. unless b (not_annotated who a)) off))

pub known_on : (p : Program) (home : Home) (who : Principal) (a n : ℕ) (found : Option ℕ) → Some n ≡ found → (is_in p home n || is_annotated p n) ≡ true → Finds found (unless_known p home who a found) (Ok n)
known_on p home who a n found some on =
    subst (λ (o : Option ℕ). Finds o (unless_known p home who a o) (Ok n)) some (refl, ap (λ b. unless b (not_annotated who a)) on)

-- what is decided in two parts

-- the first part decides against it
pub first_decides : (found : Option ℕ) (one two : Option Outcome) (halt : Halt) → Finds found one (Err halt) → Finds found (or_else one two) (Err halt)
first_decides found one two (Ended o) is = ap (λ d. or_else d two) is
first_decides found one two Memory is = is

-- the first part decides nothing, and the second is about the function that was found
pub second_decides : (found : Option ℕ) (one : Option Outcome) (two : Option ℕ → Option Outcome) (n : ℕ) (result : Result ℕ Halt) → Finds found one (Ok n) → Finds (Some n) (two (Some n)) result
    → Finds found (or_else one (two found)) result
second_decides found one two n (Ok k) first second = (first.0 ∙ second.0, (λ j. or_else (first.1 j) (two (first.0 j))) ∙ second.1)
second_decides found one two n (Err (Ended o)) first second = (λ j. or_else (first.1 j) (two (first.0 j))) ∙ second
second_decides found one two n (Err Memory) first second = second

-- whether the call is held

pub call_held : (p : Program) (s : State) (who : Principal) (a : ℕ) (args : List Word) (held : Bool) (result : Result ℕ Halt) → held ≡ holds s.history who (Call a) → held ≡ true
    → Finds (function_at p a) (unless_target p who a args (function_at p a)) result → Finds (function_at p a) (unless_called p s who a args) result
call_held p s who a args held result is on finds =
    subst (λ (b : Bool). Finds (function_at p a) (or_else (unless b (Refused (refusal.Call who a))) (unless_target p who a args (function_at p a))) result) (sym (sym is ∙ on)) finds

pub call_lacking : (p : Program) (s : State) (who : Principal) (a : ℕ) (args : List Word) (held : Bool) → held ≡ holds s.history who (Call a) → held ≡ false
    → Finds (function_at p a) (unless_called p s who a args) (Err (Ended (Refused (refusal.Call who a))))
call_lacking p s who a args held is off = ap (λ b. or_else (unless b (Refused (refusal.Call who a))) (unless_target p who a args (function_at p a))) (sym is ∙ off)

-- what the writers of a slot allow

module _ (p : Program) (s : State) (who : Principal) (slot ty a : ℕ) (names : Instances) (found : Option ℕ) (seen : SlotWriters) (same : names ≡ instances p s)
    (told : AreTold s slot a (filter (is_slot_writer s.history slot) (flat_map (module_principals names.names) (below names.modules))) seen) where
  as_seen : (x : SlotWriters) → seen ≡ x → AreTold s slot a (slot_writers p s slot) x
  as_seen x is =
      subst (AreTold s slot a (slot_writers p s slot)) is
      (subst (λ (i : Instances). AreTold s slot a (filter (is_slot_writer s.history slot) (flat_map (module_principals i.names) (below i.modules))) seen) same told)

  pub by_nobody : (result : Result ℕ Halt) → seen ≡ Nobody → Finds found (clean_target p who a found) result → Finds found (by_writers p s who slot ty a found (slot_writers p s slot)) result
  by_nobody result is finds = subst (λ (ws : List Principal). Finds found (by_writers p s who slot ty a found ws) result) (sym (as_seen Nobody is)) finds

  pub by_holders : (result : Result ℕ Halt) → seen ≡ AllHold → Finds found (written_target p who a ty found) result → Finds found (by_writers p s who slot ty a found (slot_writers p s slot)) result
  by_holders result is finds =
      let at = as_seen AllHold is in
      subst (λ (ws : List Principal). Finds found (by_writers p s who slot ty a found ws) result) (sym at.2)
      (subst (λ (d : Option Outcome). Finds found (or_else d (written_target p who a ty found)) result) (sym (sym (ap (writer_refusal s slot a) at.2) ∙ at.3)) finds)

  refused : (q : Principal) (ws : List Principal) → writer_refusal s slot a ws ≡ Some (Refused (refusal.Writer q a slot)) → by_writers p s who slot ty a found ws ≡ Some (Refused (refusal.Writer q a slot))
  refused q [] is = absurd cc
  refused q (w ∷ ws) is = ap (λ d. or_else d (written_target p who a ty found)) is

  pub by_lacking : (q : Principal) → seen ≡ Lacks q → Finds found (by_writers p s who slot ty a found (slot_writers p s slot)) (Err (Ended (Refused (refusal.Writer q a slot))))
  by_lacking q is = refused q (slot_writers p s slot) (as_seen (Lacks q) is)

-- whether the slot is mapped

pub slot_unmapped : (p : Program) (s : State) (who : Principal) (slot ty : ℕ) (o : Outcome) → Some o ≡ unless (mapped slot 8) (unmapped slot) → Finds (slot_target p s slot) (unless_slot p s who slot ty) (Err (Ended o))
slot_unmapped p s who slot ty o is = ap (λ d. or_else d (unless_allowed p s who slot ty (number_at s.memory slot 8))) (sym is)

pub slot_mapped : (p : Program) (s : State) (who : Principal) (slot ty a : ℕ) (result : Result ℕ Halt) → None ≡ unless (mapped slot 8) (unmapped slot) → a ≡ number_at s.memory slot 8
    → Finds (function_at p a) (unless_allowed p s who slot ty a) result → Finds (slot_target p s slot) (unless_slot p s who slot ty) result
slot_mapped p s who slot ty a result is at finds =
    subst (λ (d : Option Outcome). Finds (slot_target p s slot) (or_else d (unless_allowed p s who slot ty (number_at s.memory slot 8))) result) is
    (subst (λ (n : ℕ). Finds (function_at p n) (unless_allowed p s who slot ty n) result) at finds)

-- as whom a function runs that is called by an address

module _ {C : Type 0} (stands : C → History → Type 0) (p : Program) (m : Monitor C) (s : State) (who : Principal) (n : ℕ) (args : List Word) (inside : Bool) (is : inside ≡ is_in p (text_of_principal who) n) where
  abbrev run_if : Bool → Found Running
  run_if b = if b then Ok (record { principal = who; names = s.names }) else runs_in p s n args (home_of p n)

  pub run_inside : inside ≡ true → Keeps stands p m s → RunsAs stands p m s (runs_called p s who n args) (Ok who)
  run_inside on k = runs_plain stands p m s (runs_called p s who n args) who k (ap run_if (sym is ∙ on))

  pub run_across : (result : Result Principal Halt) → inside ≡ false → RunsAs stands p m s (runs_in p s n args (home_of p n)) result → RunsAs stands p m s (runs_called p s who n args) result
  run_across result off run = subst (λ (b : Bool). RunsAs stands p m s (run_if b) result) (sym (sym is ∙ off)) run

-- as the definitions bracket it

or_assoc : (a b c : Option Outcome) → or_else a (or_else b c) ≡ or_else (or_else a b) c
or_assoc (Some o) b c = refl
or_assoc None b c = refl

target_by : (p : Program) (s : State) (who : Principal) (a : ℕ) (args : List Word) (found : Option ℕ) → decide_target p s who a args found ≡ or_else (unless_target p who a args found) (nobody_at p s who (Indirect a) args found)
target_by p s who a args None = refl
target_by p s who a args (Some n) =
    or_assoc (unless (is_in p (text_of_principal who) n || is_annotated p n) (not_annotated who a)) (unless (fits_params p args n) (Trapped (Signature a)))
    (nobody p s who (Indirect a) n args)

called_by : (p : Program) (s : State) (who : Principal) (a : ℕ) (args : List Word) → decide_enter p s who (Indirect a) args ≡ or_else (unless_called p s who a args) (nobody_at p s who (Indirect a) args (function_at p a))
called_by p s who a args =
    let held = unless (holds s.history who (Call a)) (Refused (refusal.Call who a)) in
    ap (or_else held) (target_by p s who a args (function_at p a))
    ∙ or_assoc held (unless_target p who a args (function_at p a)) (nobody_at p s who (Indirect a) args (function_at p a))

fitting_by : (p : Program) (s : State) (who : Principal) (way : Way) (ty a : ℕ) (args : List Word) (found : Option ℕ) → slot_signature p s who way ty a args found ≡ or_else (unless_fitting p ty a found) (nobody_at p s who way args found)
fitting_by p s who way ty a args None = refl
fitting_by p s who way ty a args (Some n) = refl

slot_by : (p : Program) (s : State) (who : Principal) (slot ty : ℕ) (args : List Word) → decide_enter p s who (Slot slot ty) args ≡ or_else (unless_slot p s who slot ty) (nobody_at p s who (Slot slot ty) args (slot_target p s slot))
slot_by p s who slot ty args =
    let a = number_at s.memory slot 8 in
    let found = function_at p a in
    let placed = unless (mapped slot 8) (unmapped slot) in
    let writers = by_writers p s who slot ty a found (slot_writers p s slot) in
    let fits = unless_fitting p ty a found in
    let runs = nobody_at p s who (Slot slot ty) args found in
    ap (λ d. or_else placed (or_else writers d)) (fitting_by p s who (Slot slot ty) ty a args found)
    ∙ ap (or_else placed) (or_assoc writers fits runs)
    ∙ or_assoc placed (or_else writers fits) runs

-- a call is tried

decided_by : (d before : Option Outcome) (found : Option ℕ) (runs : Option ℕ → Option Outcome) (n : ℕ) → d ≡ or_else before (runs found) → Finds found before (Ok n) → d ≡ runs (Some n)
decided_by d before found runs n is finds = is ∙ (λ j. or_else (finds.1 j) (runs (finds.0 j)))

module _ {C : Type 0} (stands : C → History → Type 0) (p : Program) (m : Monitor C) (s : State) (t : ℕ) (who : Principal) (way : Way) (args : List Word) (before : Option Outcome) (found : Option ℕ)
    (parts : decide_enter p s who way args ≡ or_else before (nobody_at p s who way args found)) (same : entered_function p s way ≡ found) where
  stops : (e : Halt) → Keeps stands p m s → Finds found before (Err e) → Tries stands p m s t who (what.Enter way args) (Err e)
  stops (Ended o) k finds = (parts ∙ ap (λ d. or_else d (nobody_at p s who way args found)) finds, k)
  stops Memory k finds = absurd finds

  halts : (n : ℕ) (e : Halt) → Finds found before (Ok n) → RunsAs stands p m s (runs_as p s who way n args) (Err e) → Tries stands p m s t who (what.Enter way args) (Err e)
  halts n (Ended o) finds run = (
    decided_by _ before found (nobody_at p s who way args) n parts finds ∙ ap found_nothing run.1 ∙ ap Some (sym run.2),
    run.3,
  )
  halts n Memory finds run = (decided_by _ before found (nobody_at p s who way args) n parts finds ∙ ap found_nothing run.1, run.2)

  enters : (n : ℕ) (q : Principal) (over : Bool) → Finds found before (Ok n) → over ≡ crosses p who way n → RunsAs stands p m s (runs_as p s who way n args) (Ok q)
      → Tries stands p m s t who (what.Enter way args) (Ok (Entered n q over))
  enters n q over finds cross run = (
    decided_by _ before found (nobody_at p s who way args) n parts finds ∙ ap found_nothing run.1,
    subst (λ (f : Option ℕ). Gives stands p m (Entered n q over) (entering p s who way args f)) (sym (same ∙ finds.0))
        (subst (λ (r : Found Running). Gives stands p m (Entered n q over) (entering_as p s who way n r)) (sym run.1)
        (record { reply = ap (Entered n q) cross ∙ ap (λ (r : Principal). Entered n r (crosses p who way n)) run.2.principal; state = run.2.keeps })),
  )

module _ {C : Type 0} (stands : C → History → Type 0) (p : Program) (m : Monitor C) (s : State) (t : ℕ) (who : Principal) (a : ℕ) (args : List Word) where
  pub address_stops : (e : Halt) → Keeps stands p m s → Finds (function_at p a) (unless_called p s who a args) (Err e) → Tries stands p m s t who (what.Enter (Indirect a) args) (Err e)
  address_stops = stops stands p m s t who (Indirect a) args (unless_called p s who a args) (function_at p a) (called_by p s who a args) refl

  pub address_halts : (n : ℕ) (e : Halt) → Finds (function_at p a) (unless_called p s who a args) (Ok n) → RunsAs stands p m s (runs_called p s who n args) (Err e)
      → Tries stands p m s t who (what.Enter (Indirect a) args) (Err e)
  address_halts = halts stands p m s t who (Indirect a) args (unless_called p s who a args) (function_at p a) (called_by p s who a args) refl

  pub address_enters : (n : ℕ) (q : Principal) (inside : Bool) → Finds (function_at p a) (unless_called p s who a args) (Ok n) → inside ≡ is_in p (text_of_principal who) n
      → RunsAs stands p m s (runs_called p s who n args) (Ok q) → Tries stands p m s t who (what.Enter (Indirect a) args) (Ok (Entered n q (not inside)))
  address_enters n q inside finds is =
      enters stands p m s t who (Indirect a) args (unless_called p s who a args) (function_at p a) (called_by p s who a args) refl n q (not inside) finds (ap not is)

module _ {C : Type 0} (stands : C → History → Type 0) (p : Program) (m : Monitor C) (s : State) (t : ℕ) (who : Principal) (slot ty : ℕ) (args : List Word) where
  pub slot_stops : (e : Halt) → Keeps stands p m s → Finds (slot_target p s slot) (unless_slot p s who slot ty) (Err e) → Tries stands p m s t who (what.Enter (Slot slot ty) args) (Err e)
  slot_stops = stops stands p m s t who (Slot slot ty) args (unless_slot p s who slot ty) (slot_target p s slot) (slot_by p s who slot ty args) refl

  pub slot_halts : (n : ℕ) (e : Halt) → Finds (slot_target p s slot) (unless_slot p s who slot ty) (Ok n) → RunsAs stands p m s (runs_in p s n args (home_of p n)) (Err e)
      → Tries stands p m s t who (what.Enter (Slot slot ty) args) (Err e)
  slot_halts = halts stands p m s t who (Slot slot ty) args (unless_slot p s who slot ty) (slot_target p s slot) (slot_by p s who slot ty args) refl

  pub slot_enters : (n : ℕ) (q : Principal) (over : Bool) → Finds (slot_target p s slot) (unless_slot p s who slot ty) (Ok n) → over ≡ is_module_function p n
      → RunsAs stands p m s (runs_in p s n args (home_of p n)) (Ok q) → Tries stands p m s t who (what.Enter (Slot slot ty) args) (Ok (Entered n q over))
  slot_enters = enters stands p m s t who (Slot slot ty) args (unless_slot p s who slot ty) (slot_target p s slot) (slot_by p s who slot ty args) refl
