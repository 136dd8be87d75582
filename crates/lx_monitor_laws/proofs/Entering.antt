-- What calls enter, and which of them cross.
use Rattle.std.proofs.Common.{◌≡◌, ◌≢◌, ◌⊎◌, inl, inr, ℕ, ◌+◌, ◌-◌, ◌*◌, ◌/◌, ◌%◌, Bool, true, false, not, ◌&&◌, Option, Some, None, Ok, Err, List, [], slice_get, nat_eq, nat_le, is_some, refl, sym, ap, subst, arith, ◌∙◌}
use Rattle.std.specs.Prelude.{if◌then◌else◌, unwrap_or, option_map, option_and_then}
use Rattle.std.specs.List.{list_all}
use Rattle.std.proofs.lemmas.Bool.{eqb-true}
use Rattle.std.proofs.lemmas.Bool.Decides.{nat_tests}
use Rattle.std.proofs.lemmas.Slice.Eq.{bytes_eq-Decides}
use Rattle.lx_words.specs.Word.{Word}
use Rattle.lx_caps.specs.declared.Principal.{Principal}
use Rattle.lx_caps.specs.declared.Principal.TheVariants.{Kernel, Shared, Global, Inst}
use Rattle.lx_caps.specs.declared.Cap.TheVariants.{Call}
use Rattle.lx_caps.specs.History.{holds}
use Rattle.lx_caps.specs.Memory.{number_at}
use Rattle.lx_annot.specs.declared.action.Annotation.{Annotation}
use Rattle.lx_annot.specs.declared.interface.Slot.{Slot as SlotType}
use Rattle.lx_annot.specs.Value.{Found}
use Rattle.lx_model.specs.declared.program.Program.{Program}
use Rattle.lx_model.specs.declared.request.Outcome.{Outcome}
use Rattle.lx_model.specs.declared.request.Reply.TheVariants.{Entered}
use Rattle.lx_model.specs.declared.request.Way.{Way}
use Rattle.lx_model.specs.declared.request.Way.TheVariants.{Script, Direct, Indirect, Slot}
use Rattle.lx_model.specs.declared.request.What.TheVariants.{Enter}
use Rattle.lx_model.specs.Authority.{AuthorityLaws, is_module}
use Rattle.lx_model.specs.Decide.{decide_what}
use Rattle.lx_model.specs.Enter.{Running, annotation_text, crosses, entered_function, has_signature, runs_as, same_annotation, slot_writers, text_of_principal}
use Rattle.lx_model.specs.Next.{request}
use Rattle.lx_model.specs.Program.{Home, annotation_of, function_at, function_of, has_slot_signature, home_of, is_annotated, is_home, is_of_module, numbered, same_home, slot_annotation}
use Rattle.lx_model.specs.Serve.{serve_by, entering, entering_as}
use Rattle.lx_model.specs.State.{State}
use Rattle.lx_run_laws.proofs.Entering.{is_entry}
use Rattle.lx_monitor_laws.specs.EntryLaws.{Enters, IsAnnotatedAs, StaysIn, leaves_module}

-- an address leads to the function whose it is

numbered_is : (o : Option Home) (k n : ℕ) → (if is_some o then Some k else None) ≡ Some n → k ≡ n
numbered_is None k n e = cc
numbered_is (Some home) k n e = cc

address_if : (low even : Bool) (p : Program) (a n : ℕ) → nat_le 0x10000 a ≡ low → nat_eq (a % 16) 0 ≡ even
    → (if low && even then numbered p ((a - 0x10000) / 16) else None) ≡ Some n → a ≡ 0x10000 + 16 * n
address_if true true p a n l e h =
    let number = numbered_is (home_of p ((a - 0x10000) / 16)) ((a - 0x10000) / 16) n h in
    let whole = eqb-true (a % 16) 0 e in
    grind (arith, nat_tests, l, whole, number)
address_if true false p a n l e h = cc
address_if false even p a n l e h = cc

address_is : (p : Program) (a n : ℕ) → function_at p a ≡ Some n → a ≡ 0x10000 + 16 * n
address_is p a n h = address_if (nat_le 0x10000 a) (nat_eq (a % 16) 0) p a n refl refl h

pub stands : (p : Program) (s : State) (t : ℕ) (who : Principal) (at ty : ℕ) (args : List Word) (n : ℕ) (q : Principal) (c : Bool)
    → Enters p s t who (Slot at ty) args n q c → number_at s.memory at 8 ≡ 0x10000 + 16 * n
stands p s t who at ty args n q c h = address_is p (number_at s.memory at 8) n (is_entry p s t who (Slot at ty) args n q c h).target

-- a slot with a writer

slot_there : (p : Program) (n : ℕ) (found : Option SlotType) → unwrap_or (option_and_then (λ slot. option_map (has_slot_signature slot) (function_of p n)) found) false ≡ true
    → (slot : SlotType) × (found ≡ Some slot)
slot_there p n None h = absurd (cc)
slot_there p n (Some slot) h = (slot, refl)

some_there : (o : Option Annotation) → is_some o ≡ true → (a : Annotation) × (o ≡ Some a)
some_there None h = absurd (cc)
some_there (Some a) h = (a, refl)

annotated_as : (p : Program) (ty n : ℕ) → has_signature p ty n ≡ true → (is_annotated p n ≡ true) × (same_annotation p ty n ≡ true) → IsAnnotatedAs p ty n
annotated_as p ty n signature same =
    let (slot, declared) = slot_there p n (slice_get p.interface.slots ty) signature in
    let (annotation, own) = some_there (annotation_of p n) same.0 in
    let texts = (bytes_eq-Decides (annotation_text p (slot_annotation p.interface ty)) (annotation_text p (annotation_of p n))).0 same.1 in
    record {
      slot = slot;
      annotation = annotation;
      declared = declared;
      own = own;
      alike = sym (ap (λ (o : Option SlotType). annotation_text p (option_map (λ x. x.annotation) o)) declared) ∙ texts ∙ ap (annotation_text p) own;
    }

pub annotated : (p : Program) (s : State) (t : ℕ) (who : Principal) (at ty : ℕ) (args : List Word) (n : ℕ) (q : Principal) (c : Bool)
    → Enters p s t who (Slot at ty) args n q c → slot_writers p s at ≢ [] → IsAnnotatedAs p ty n
annotated p s t who at ty args n q c h some =
    let entry = is_entry p s t who (Slot at ty) args n q c h in
    annotated_as p ty n entry.signature (entry.written some)

pub held : (laws : AuthorityLaws) (p : Program) (s : State) (t : ℕ) (who : Principal) (at ty : ℕ) (args : List Word) (n : ℕ) (q : Principal) (c : Bool)
    → Enters p s t who (Slot at ty) args n q c → list_all (λ w. holds s.history w (Call (0x10000 + 16 * n))) (slot_writers p s at) ≡ true
held laws p s t who at ty args n q c h =
    subst (λ a. list_all (λ w. holds s.history w (Call a)) (slot_writers p s at) ≡ true) (stands p s t who at ty args n q c h)
    (laws.by_slot p s t who at ty args n q c h)

-- which calls cross

running_crosses : (p : Program) (s : State) (who : Principal) (way : Way) (m : ℕ) (r : Found Running) (n : ℕ) (q : Principal) (c : Bool)
    → (entering_as p s who way m r).reply ≡ Entered n q c → crosses p who way n ≡ c
running_crosses p s who way m (Err at) n q c h = absurd (cc)
running_crosses p s who way m (Ok r) n q c h = cc

entering_crosses : (p : Program) (s : State) (who : Principal) (way : Way) (args : List Word) (target : Option ℕ) (n : ℕ) (q : Principal) (c : Bool)
    → (entering p s who way args target).reply ≡ Entered n q c → crosses p who way n ≡ c
entering_crosses p s who way args None n q c h = absurd (cc)
entering_crosses p s who way args (Some m) n q c h = running_crosses p s who way m (runs_as p s who way m args) n q c h

served_crosses : (d : Option Outcome) (p : Program) (s : State) (t : ℕ) (who : Principal) (way : Way) (args : List Word) (n : ℕ) (q : Principal) (c : Bool)
    → (serve_by d p s t (request who (Enter way args))).reply ≡ Entered n q c → crosses p who way n ≡ c
served_crosses None p s t who way args n q c h = entering_crosses p s who way args (entered_function p s way) n q c h
served_crosses (Some o) p s t who way args n q c h = absurd (cc)

crosses_as : (p : Program) (s : State) (t : ℕ) (who : Principal) (way : Way) (args : List Word) (n : ℕ) (q : Principal) (c : Bool)
    → Enters p s t who way args n q c → crosses p who way n ≡ c
crosses_as p s t who way args n q c h = served_crosses (decide_what p s t who (Enter way args)) p s t who way args n q c h

another : (b : Bool) (k m : ℕ) → nat_eq k m ≡ b → (not b ≡ true) ⊎ ((not b ≡ false) × (Some k ≡ Some m))
another true k m e = inr (refl, ap Some (eqb-true k m e))
another false k m e = inl refl

other_text : (text : Home) (m : ℕ) → (not (same_home text (Some m)) ≡ true) ⊎ ((not (same_home text (Some m)) ≡ false) × (text ≡ Some m))
other_text None m = inl refl
other_text (Some k) m = another (nat_eq k m) k m refl

way_into : (p : Program) (who : Principal) (way : Way) (n m : ℕ) → home_of p n ≡ Some (Some m) → (crosses p who way n ≡ true) ⊎ ((crosses p who way n ≡ false) × StaysIn who way m)
way_into p who (Script f) n m home = inl (ap is_of_module home)
way_into p who (Direct f) n m home = inl refl
way_into p who (Indirect a) n m home =
    subst (λ (o : Option Home). (not (is_home (text_of_principal who) o) ≡ true) ⊎ ((not (is_home (text_of_principal who) o) ≡ false) × (text_of_principal who ≡ Some m)))
    (sym home) (other_text (text_of_principal who) m)
way_into p who (Slot at ty) n m home = inl (ap is_of_module home)

pub into_module : (p : Program) (s : State) (t : ℕ) (who : Principal) (way : Way) (args : List Word) (n : ℕ) (q : Principal) (c : Bool) (m : ℕ)
    → Enters p s t who way args n q c → home_of p n ≡ Some (Some m) → (c ≡ true) ⊎ ((c ≡ false) × StaysIn who way m)
into_module p s t who way args n q c m h home =
    subst (λ (b : Bool). (b ≡ true) ⊎ ((b ≡ false) × StaysIn who way m)) (crosses_as p s t who way args n q c h) (way_into p who way n m home)

kernel_text : (who : Principal) → not (same_home (text_of_principal who) None) ≡ is_module who
kernel_text Kernel = refl
kernel_text (Shared m) = refl
kernel_text (Global m) = refl
kernel_text (Inst m k) = refl

way_out : (p : Program) (who : Principal) (way : Way) (n : ℕ) → home_of p n ≡ Some None → crosses p who way n ≡ leaves_module who way
way_out p who (Script f) n home = ap is_of_module home
way_out p who (Direct f) n home = refl
way_out p who (Indirect a) n home = ap (λ (o : Option Home). not (is_home (text_of_principal who) o)) home ∙ kernel_text who
way_out p who (Slot at ty) n home = ap is_of_module home

pub into_kernel : (p : Program) (s : State) (t : ℕ) (who : Principal) (way : Way) (args : List Word) (n : ℕ) (q : Principal) (c : Bool)
    → Enters p s t who way args n q c → home_of p n ≡ Some None → c ≡ leaves_module who way
into_kernel p s t who way args n q c h home = sym (crosses_as p s t who way args n q c h) ∙ way_out p who way n home
