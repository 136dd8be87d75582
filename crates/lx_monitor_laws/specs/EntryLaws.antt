-- What calls enter: through a slot with a writer only a function with the annotation of the slot's type; and which calls cross.
use Rattle.std.specs.Prelude.{◌≡◌, ◌≢◌, ◌⊎◌, ℕ, ◌+◌, ◌*◌, Bool, true, false, Some, None, List, [], slice_get}
use Rattle.std.specs.List.{list_all}
use Rattle.lx_words.specs.Word.{Word}
use Rattle.lx_caps.specs.declared.Principal.{Principal}
use Rattle.lx_caps.specs.declared.Cap.TheVariants.{Call}
use Rattle.lx_caps.specs.History.{holds}
use Rattle.lx_caps.specs.Memory.{number_at}
use Rattle.lx_annot.specs.declared.action.Annotation.{Annotation}
use Rattle.lx_annot.specs.declared.interface.Slot.{Slot as SlotType}
use Rattle.lx_annot.specs.Canonical.{canonical}
use Rattle.lx_model.specs.declared.program.Program.{Program}
use Rattle.lx_model.specs.declared.request.Reply.TheVariants.{Entered}
use Rattle.lx_model.specs.declared.request.Way.{Way}
use Rattle.lx_model.specs.declared.request.Way.TheVariants.{Script, Direct, Indirect, Slot}
use Rattle.lx_model.specs.declared.request.What.TheVariants.{Enter}
use Rattle.lx_model.specs.Authority.{is_module}
use Rattle.lx_model.specs.Enter.{slot_writers, text_of_principal}
use Rattle.lx_model.specs.Next.{request}
use Rattle.lx_model.specs.Program.{annotation_of, home_of}
use Rattle.lx_model.specs.Serve.{serve}
use Rattle.lx_model.specs.State.{State}

-- the request to enter a function is replied so
abbrev pub Enters : Program → State → ℕ → Principal → Way → List Word → ℕ → Principal → Bool → Type 0
Enters p s t who way args n q crosses = (serve p s t (request who (Enter way args))).reply ≡ Entered n q crosses

-- the function has an annotation, and its canonical text is that of the slot type's annotation
pub record IsAnnotatedAs (p : Program) (ty n : ℕ) : Type 0 where
  pub slot : SlotType
  pub annotation : Annotation
  pub declared : slice_get p.interface.slots ty ≡ Some slot
  pub own : annotation_of p n ≡ Some annotation
  pub alike : canonical p.interface slot.annotation ≡ canonical p.interface annotation

-- the call goes by an address, and the caller is of that module
abbrev pub StaysIn : Principal → Way → ℕ → Type 0
StaysIn who (Indirect a) m = text_of_principal who ≡ Some m
StaysIn who _ m = ⊥

-- a module's call of a function of the kernel, by an address; every call by a name
abbrev pub leaves_module : Principal → Way → Bool
leaves_module who (Script n) = false
leaves_module who (Direct n) = true
leaves_module who (Indirect a) = is_module who
leaves_module who (Slot at ty) = false

pub record EntryLaws : Type 0 where
  -- what a call through a slot enters stands at the address that the slot's eight bytes hold
  pub stands : (p : Program) (s : State) (t : ℕ) (who : Principal) (at ty : ℕ) (args : List Word) (n : ℕ) (q : Principal) (crosses : Bool)
      → Enters p s t who (Slot at ty) args n q crosses → number_at s.memory at 8 ≡ 0x10000 + 16 * n
  -- where the slot has a writer, it is annotated as the slot's type is
  pub annotated : (p : Program) (s : State) (t : ℕ) (who : Principal) (at ty : ℕ) (args : List Word) (n : ℕ) (q : Principal) (crosses : Bool)
      → Enters p s t who (Slot at ty) args n q crosses → slot_writers p s at ≢ [] → IsAnnotatedAs p ty n
  -- and each writer held the call of it
  pub held : (p : Program) (s : State) (t : ℕ) (who : Principal) (at ty : ℕ) (args : List Word) (n : ℕ) (q : Principal) (crosses : Bool)
      → Enters p s t who (Slot at ty) args n q crosses → list_all (λ w. holds s.history w (Call (0x10000 + 16 * n))) (slot_writers p s at) ≡ true
  -- a call of a module's function crosses, through a slot too, but not by an address from the module itself
  pub into_module : (p : Program) (s : State) (t : ℕ) (who : Principal) (way : Way) (args : List Word) (n : ℕ) (q : Principal) (crosses : Bool) (m : ℕ)
      → Enters p s t who way args n q crosses → home_of p n ≡ Some (Some m) → (crosses ≡ true) ⊎ ((crosses ≡ false) × StaysIn who way m)
  -- a call of the kernel's function crosses by its name, and by an address from a module
  pub into_kernel : (p : Program) (s : State) (t : ℕ) (who : Principal) (way : Way) (args : List Word) (n : ℕ) (q : Principal) (crosses : Bool)
      → Enters p s t who way args n q crosses → home_of p n ≡ Some None → crosses ≡ leaves_module who way
