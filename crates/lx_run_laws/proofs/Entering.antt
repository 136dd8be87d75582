-- What a call that entered a function was decided by.
use Rattle.std.proofs.Common.{◌≡◌, ◌≢◌, ℕ, Bool, true, ◌||◌, Option, Some, None, Ok, Err, List, [], ◌∷◌, refl, subst}
use Rattle.lx_words.specs.Word.{Word}
use Rattle.lx_caps.specs.declared.Principal.{Principal}
use Rattle.lx_caps.specs.declared.Cap.TheVariants.{Call}
use Rattle.lx_caps.specs.History.{holds}
use Rattle.lx_caps.specs.Memory.{number_at}
use Rattle.lx_caps.specs.Regions.{mapped}
use Rattle.lx_annot.specs.Value.{Found}
use Rattle.lx_model.specs.declared.program.Program.{Program}
use Rattle.lx_model.specs.declared.request.Outcome.{Outcome}
use Rattle.lx_model.specs.declared.request.Outcome.TheVariants.{Refused, Trapped}
use Rattle.lx_model.specs.declared.request.Refusal.TheVariants as refusal
use Rattle.lx_model.specs.declared.request.Trap.TheVariants.{Signature}
use Rattle.lx_model.specs.declared.request.Reply.TheVariants.{Entered}
use Rattle.lx_model.specs.declared.request.Way.{Way}
use Rattle.lx_model.specs.declared.request.Way.TheVariants.{Script, Direct, Indirect, Slot}
use Rattle.lx_model.specs.declared.request.What.TheVariants as what
use Rattle.lx_model.specs.Act.{or_else, unless, unmapped}
use Rattle.lx_model.specs.Enter.{Running, by_writers, decide_enter, decide_slot, decide_target, entered_function, fits_params, has_signature, nobody, not_annotated, same_annotation, slot_signature, slot_writers, text_of_principal, writer_refusal, written_target}
use Rattle.lx_model.specs.Next.{request}
use Rattle.lx_model.specs.Program.{function_at, is_annotated, is_in}
use Rattle.lx_model.specs.Serve.{entering_as, serve, serve_by}
use Rattle.lx_model.specs.State.{State}
use Rattle.lx_run_laws.specs.Entries.{IsAddressEntry, IsSlotEntry, IsEntry}
use Rattle.lx_model.proofs.Passing.{passed, rest_none, first_none}
use Rattle.lx_model.proofs.Authority.{undecided, entered_target}

-- the function that is entered is the one that the way leads to

running : (p : Program) (s : State) (who : Principal) (way : Way) (m : ℕ) (r : Found Running) (n : ℕ) (q : Principal) (c : Bool)
    → (entering_as p s who way m r).reply ≡ Entered n q c → m ≡ n
running p s who way m (Err at) n q c h = absurd (cc)
running p s who way m (Ok r) n q c h = cc

granted : (d : Option Outcome) (p : Program) (s : State) (t : ℕ) (who : Principal) (way : Way) (args : List Word) (n : ℕ) (q : Principal) (c : Bool)
    → (serve_by d p s t (request who (what.Enter way args))).reply ≡ Entered n q c → entered_function p s way ≡ Some n
granted None p s t who way args n q c h = entered_target p s who way args (entered_function p s way) n q c h
granted (Some o) p s t who way args n q c h = absurd (cc)

same_number : (m n : ℕ) → Some m ≡ Some n → n ≡ m
same_number m n e = cc

-- a call by an address

address_entry : (p : Program) (s : State) (who : Principal) (a : ℕ) (args : List Word) (n : ℕ) → function_at p a ≡ Some n
    → decide_target p s who a args (Some n) ≡ None → IsAddressEntry p who a args n
address_entry p s who a args n at none =
    let known = unless (is_in p (text_of_principal who) n || is_annotated p n) (not_annotated who a) in
    let fits = unless (fits_params p args n) (Trapped (Signature a)) in
    let behind = rest_none known (or_else fits (nobody p s who (Indirect a) n args)) none in
    record {
      target = at;
      known = passed _ (not_annotated who a) (first_none known (or_else fits (nobody p s who (Indirect a) n args)) none);
      params = passed _ (Trapped (Signature a)) (first_none fits (nobody p s who (Indirect a) n args) behind);
    }

-- a call through a slot

target_written : (p : Program) (who : Principal) (a ty n : ℕ) → written_target p who a ty (Some n) ≡ None
    → (is_annotated p n ≡ true) × (same_annotation p ty n ≡ true)
target_written p who a ty n none =
    let known = unless (is_annotated p n) (not_annotated who a) in
    let same = unless (same_annotation p ty n) (Refused (refusal.OtherAnnotation who a ty n)) in
    (passed _ (not_annotated who a) (first_none known same none), passed _ (Refused (refusal.OtherAnnotation who a ty n)) (rest_none known same none))

slot_written : (p : Program) (s : State) (who : Principal) (slot ty a n : ℕ) (ws : List Principal) → by_writers p s who slot ty a (Some n) ws ≡ None
    → ws ≢ [] → (is_annotated p n ≡ true) × (same_annotation p ty n ≡ true)
slot_written p s who slot ty a n [] none some = absurd (some refl)
slot_written p s who slot ty a n (w ∷ ws) none some =
    target_written p who a ty n (rest_none (writer_refusal s slot a (w ∷ ws)) (written_target p who a ty (Some n)) none)

slot_clean : (p : Program) (s : State) (who : Principal) (slot ty a n : ℕ) (ws : List Principal) → by_writers p s who slot ty a (Some n) ws ≡ None
    → ws ≡ [] → (is_in p None n || is_annotated p n) ≡ true
slot_clean p s who slot ty a n [] none empty = passed (is_in p None n || is_annotated p n) (not_annotated who a) none
slot_clean p s who slot ty a n (w ∷ ws) none empty = absurd (cc)

slot_entry : (p : Program) (s : State) (who : Principal) (slot ty : ℕ) (args : List Word) (n : ℕ) → mapped slot 8 ≡ true
    → function_at p (number_at s.memory slot 8) ≡ Some n
    → or_else (by_writers p s who slot ty (number_at s.memory slot 8) (Some n) (slot_writers p s slot))
    (slot_signature p s who (Slot slot ty) ty (number_at s.memory slot 8) args (Some n)) ≡ None
    → IsSlotEntry p s slot ty n
slot_entry p s who slot ty args n lies at none =
    let a = number_at s.memory slot 8 in
    let writers = by_writers p s who slot ty a (Some n) (slot_writers p s slot) in
    let signature = slot_signature p s who (Slot slot ty) ty a args (Some n) in
    record {
      lies = lies;
      target = at;
      written = slot_written p s who slot ty a n (slot_writers p s slot) (first_none writers signature none);
      clean = slot_clean p s who slot ty a n (slot_writers p s slot) (first_none writers signature none);
      signature = passed (has_signature p ty n) (Trapped (Signature a))
          (first_none _ (nobody p s who (Slot slot ty) n args) (rest_none writers signature none));
    }

slot_decided : (p : Program) (s : State) (who : Principal) (slot ty : ℕ) (args : List Word) (n : ℕ)
    → function_at p (number_at s.memory slot 8) ≡ Some n → decide_enter p s who (Slot slot ty) args ≡ None → IsSlotEntry p s slot ty n
slot_decided p s who slot ty args n at none =
    let a = number_at s.memory slot 8 in
    let lies = unless (mapped slot 8) (unmapped slot) in
    let row = rest_none lies (decide_slot p s who slot ty a args) none in
    slot_entry p s who slot ty args n (passed _ (unmapped slot) (first_none lies (decide_slot p s who slot ty a args) none)) at
    (subst (λ (target : Option ℕ). or_else (by_writers p s who slot ty a target (slot_writers p s slot)) (slot_signature p s who (Slot slot ty) ty a args target) ≡ None) at row)

address_decided : (p : Program) (s : State) (who : Principal) (a : ℕ) (args : List Word) (n : ℕ)
    → function_at p a ≡ Some n → decide_enter p s who (Indirect a) args ≡ None → IsAddressEntry p who a args n
address_decided p s who a args n at none =
    address_entry p s who a args n at
    (subst (λ (target : Option ℕ). decide_target p s who a args target ≡ None) at
    (rest_none (unless (holds s.history who (Call a)) (Refused (refusal.Call who a))) (decide_target p s who a args (function_at p a)) none))

entry_by : (p : Program) (s : State) (who : Principal) (way : Way) (args : List Word) (n : ℕ) → entered_function p s way ≡ Some n
    → decide_enter p s who way args ≡ None → IsEntry p s who way args n
entry_by p s who (Script m) args n at none = same_number m n at
entry_by p s who (Direct m) args n at none = same_number m n at
entry_by p s who (Indirect a) args n at none = address_decided p s who a args n at none
entry_by p s who (Slot slot ty) args n at none = slot_decided p s who slot ty args n at none

pub is_entry : (p : Program) (s : State) (t : ℕ) (who : Principal) (way : Way) (args : List Word) (n : ℕ) (q : Principal) (c : Bool)
    → (serve p s t (request who (what.Enter way args))).reply ≡ Entered n q c → IsEntry p s who way args n
is_entry p s t who way args n q c h =
    entry_by p s who way args n (granted (decide_enter p s who way args) p s t who way args n q c h)
    (undecided (decide_enter p s who way args) p s t (request who (what.Enter way args)) n q c h)
