-- Why a request is refused.
use Rattle.std.specs.Prelude.{◌≡◌, ◌≢◌, ◌⊎◌, ℕ, Bool, true, false, not, ◌&&◌, ◌||◌, Some, None, List, [], ◌∷◌, ◌++◌, find, is_none, option_map, unwrap_or}
use Rattle.std.specs.List.{list_all}
use Rattle.lx_words.specs.Word.{Word}
use Rattle.lx_caps.specs.declared.Principal.{Principal}
use Rattle.lx_caps.specs.declared.Cap.{Cap}
use Rattle.lx_caps.specs.declared.Cap.TheVariants.{Write, Call, Ref}
use Rattle.lx_caps.specs.History.{holds, keeps_all}
use Rattle.lx_caps.specs.Memory.{number_at}
use Rattle.lx_caps.specs.Names.{named}
use Rattle.lx_caps.specs.Regions.{mapped, overlaps, stacks_start, region_size}
use Rattle.lx_model.specs.declared.program.Program.{Program}
use Rattle.lx_model.specs.declared.request.Refusal.{Refusal}
use Rattle.lx_model.specs.declared.request.Refusal.TheVariants as refusal
use Rattle.lx_model.specs.declared.request.Request.{Request}
use Rattle.lx_model.specs.declared.request.Way.TheVariants.{Indirect, Slot}
use Rattle.lx_model.specs.declared.request.What.{What}
use Rattle.lx_model.specs.declared.request.What.TheVariants as what
use Rattle.lx_model.specs.Authority.{is_module}
use Rattle.lx_model.specs.Decide.{arg, is_current}
use Rattle.lx_model.specs.Enter.{text_of_principal, slot_writers, same_annotation}
use Rattle.lx_model.specs.Program.{Home, AliasPrincipal, native_call, is_in, is_annotated, function_at}
use Rattle.lx_model.specs.State.{State}
use Rattle.lx_run_laws.specs.Authorised.{needs}
use Rattle.lx_run_laws.specs.Errands.{Errand, errand_of, is_placed, is_fine}

-- an action asks the principal for an item, and nothing is wrong with the items before it
pub record IsReached (p : Program) (s : State) (w : What) (who : Principal) (e : Errand) (c : Cap) : Type 0 where
  pub performed : errand_of p s w ≡ Some e
  pub source : e.source ≡ who
  pub before : List Cap
  pub after : List Cap
  pub place : e.items ≡ before ++ c ∷ after
  pub fine : list_all (is_fine s.history e) before ≡ true

-- a module does not hold what its own write or call needs
pub record IsOwnLack (s : State) (r : Request) (who : Principal) (c : Cap) : Type 0 where
  pub caller : r.who ≡ who
  pub of_module : is_module who ≡ true
  pub need : needs r.what ≡ Some c
  pub lack : holds s.history who c ≡ false

-- the source of an action does not hold an item, and the item lies where it may
abbrev pub IsItemLack : Program → State → What → Principal → Cap → Type 0
IsItemLack p s w who c = (e : Errand) × IsReached p s w who e c × (is_placed e c ≡ true) × (holds s.history who c ≡ false)

abbrev pub IsLack : Program → State → Request → Principal → Cap → Type 0
IsLack p s r who c = IsOwnLack s r who c ⊎ IsItemLack p s r.what who c

-- a slot in memory holds the address, and each of its writers holds the call
pub record IsWritersCall (p : Program) (s : State) (slot at : ℕ) : Type 0 where
  pub lies : mapped slot 8 ≡ true
  pub address : number_at s.memory slot 8 ≡ at
  pub held : list_all (λ w. holds s.history w (Call at)) (slot_writers p s slot) ≡ true

-- at the address stands a function for which the test holds
abbrev pub stands_at : Program → (ℕ → Bool) → ℕ → Bool
stands_at p test at = unwrap_or (option_map test (function_at p at)) false

-- the text's own functions, and those that are annotated
abbrev pub is_known_in : Program → Home → ℕ → Bool
is_known_in p home n = is_in p home n || is_annotated p n

-- what a slot with these writers may call: without a writer the kernel's functions too
abbrev pub is_callable : Program → List Principal → ℕ → Bool
is_callable p [] n = is_known_in p None n
is_callable p (w ∷ ws) n = is_annotated p n

-- the call is held, but at its address stands no function that may be called so
abbrev pub IsUnannotated : Program → State → Principal → What → ℕ → Type 0
IsUnannotated p s who (what.Enter (Indirect a) args) at =
    (a ≡ at) × (holds s.history who (Call at) ≡ true) × (stands_at p (is_known_in p (text_of_principal who)) at ≡ false)
IsUnannotated p s who (what.Enter (Slot slot ty) args) at =
    IsWritersCall p s slot at × (stands_at p (is_callable p (slot_writers p s slot)) at ≡ false)
IsUnannotated p s who w at = ⊥

-- a slot that has a writer leads to an annotated function, with another annotation's text than that of the slot's type
pub record IsOtherwise (p : Program) (s : State) (w : What) (at ty n : ℕ) : Type 0 where
  pub slot : ℕ
  pub args : List Word
  pub asked : w ≡ what.Enter (Slot slot ty) args
  pub written : slot_writers p s slot ≢ []
  pub call : IsWritersCall p s slot at
  pub target : function_at p at ≡ Some n
  pub annotated : is_annotated p n ≡ true
  pub differs : same_annotation p ty n ≡ false

-- a writer of the slot that is called is the first that does not hold the call
pub record IsWriterLack (p : Program) (s : State) (w : What) (who : Principal) (at slot : ℕ) : Type 0 where
  pub ty : ℕ
  pub args : List Word
  pub asked : w ≡ what.Enter (Slot slot ty) args
  pub lies : mapped slot 8 ≡ true
  pub address : number_at s.memory slot 8 ≡ at
  pub first : find (λ v. not (holds s.history v (Call at))) (slot_writers p s slot) ≡ Some who

-- the known name is the caller's, and the further one is free; the kernel has no names
abbrev pub may_name : State → Principal → Home → ℕ → ℕ → Bool
may_name s who None known further = false
may_name s who (Some m) known further = is_current who m (named s.names m known) && is_none (named s.names m further)

-- a name is asked for that may not be given
pub record IsMisnamed (s : State) (w : What) (who : Principal) (known further : ℕ) : Type 0 where
  pub native : ℕ
  pub args : List Word
  pub asked : w ≡ what.Native native args
  pub alias : native_call native ≡ AliasPrincipal
  pub names_known : arg args 0 ≡ known
  pub names_further : arg args 1 ≡ further
  pub barred : may_name s who (text_of_principal who) known further ≡ false

-- why a request is refused so
abbrev pub IsCauseOf : Program → State → Request → Refusal → Type 0
-- the range, the call or the reference is not held
IsCauseOf p s r (refusal.Write who at size) = IsLack p s r who (Write at size)
IsCauseOf p s r (refusal.Call who at) = IsLack p s r who (Call at)
IsCauseOf p s r (refusal.Ref who ty at) = IsLack p s r who (Ref ty at)
-- the caller would call what stands for no function that it may call
IsCauseOf p s r (refusal.NotAnnotated who at) = (r.who ≡ who) × IsUnannotated p s who r.what at
-- the caller calls through a slot another annotation than its type's
IsCauseOf p s r (refusal.OtherAnnotation who at ty n) = (r.who ≡ who) × IsOtherwise p s r.what at ty n
-- the call through the slot is not held by this writer
IsCauseOf p s r (refusal.Writer who at slot) = IsWriterLack p s r.what who at slot
-- what is to be transferred lies in memory, and has a byte of a stack
IsCauseOf p s r (refusal.OnStack who at size) =
    (e : Errand) × IsReached p s r.what who e (Write at size) × (e.transfers ≡ true) × (mapped at size ≡ true) × (overlaps at size stacks_start region_size ≡ true)
-- the range of an item does not lie in memory
IsCauseOf p s r (refusal.Outside who at size) =
    (e : Errand) × IsReached p s r.what who e (Write at size) × (mapped at size ≡ false)
-- the known name is not the caller's, or the further one is taken
IsCauseOf p s r (refusal.Alias who known further) = (r.who ≡ who) × IsMisnamed s r.what who known further
-- what is to be given on is held, but only on loan
IsCauseOf p s r (refusal.Borrowed who c) =
    (e : Errand) × IsReached p s r.what who e c × (is_placed e c ≡ true) × (holds s.history who c ≡ true) × (e.gives ≡ true) × (keeps_all s.history who c ≡ false)

-- a request that ends its call with the outcome that it brings
abbrev pub is_finish : What → Bool
is_finish (what.Finish o) = true
is_finish _ = false
