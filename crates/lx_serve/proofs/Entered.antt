-- What is entered, and as whom.
use Rattle.std.proofs.Common.{◌≡◌, ◌∙◌, refl, sym, ap, subst, ℕ, Bool, true, IsTrue, Option, Some, None, Result, Ok, Err, List}
use Rattle.std.specs.Prelude.{unwrap_or}
use Rattle.lx_words.specs.Word.{Word}
use Rattle.lx_caps.specs.declared.Principal.{Principal}
use Rattle.lx_caps.specs.declared.Principal.TheVariants.{Kernel, Inst}
use Rattle.lx_caps.specs.History.{History}
use Rattle.lx_caps.specs.Names.{Namings, named, instance_count}
use Rattle.lx_caps.specs.Memory.{load64}
use Rattle.lx_annot.specs.Expr.{Expr}
use Rattle.lx_annot.specs.declared.action.Who.{Who}
use Rattle.lx_annot.specs.declared.action.Who.TheVariants as who
use Rattle.lx_annot.specs.declared.action.Annotation.{Annotation}
use Rattle.lx_annot.specs.Value.{Found, and_then, value}
use Rattle.lx_principals.specs.Instances.{number_named, with_name, with_instance}
use Rattle.lx_model.specs.declared.program.Program.{Program}
use Rattle.lx_model.specs.declared.request.Reply.TheVariants.{Entered}
use Rattle.lx_model.specs.declared.request.Way.TheVariants.{Script, Direct}
use Rattle.lx_model.specs.declared.request.What.TheVariants as what
use Rattle.lx_model.specs.Program.{Home, home_of, is_in, is_module_function, annotation_of, no_annotation}
use Rattle.lx_model.specs.State.{State}
use Rattle.lx_model.specs.Enter.{Running, runs_in, runs_by, found_nothing, instance_named, instance_of}
use Rattle.lx_model.specs.Serve.{entering_as}
use Rattle.lx_serve.specs.Entering.{IsValue, IsNamed, RunsAs}
use Rattle.lx_serve.specs.Stands.{Keeps, Gives, Tries}
use Rattle.lx_serve.specs.declared.halt.Halt.{Halt}
use Rattle.lx_serve.specs.declared.halt.Halt.TheVariants.{Ended, Memory}
use Rattle.lx_serve.specs.declared.monitor.Monitor.{Monitor}
use Rattle.lx_model.proofs.Homes.{kernel_home}

named_by : (names : Namings) (m v : ℕ) (found : Option ℕ) → (instance_of names m v found ≡ record { principal = Inst m (unwrap_or found (instance_count names m)); names = with_name names m v found })
named_by names m v None = refl
named_by names m v (Some k) = refl

-- the instance with a name, as it is looked up and made
pub instance_is : (names : Namings) (m v : ℕ) → instance_named names m v ≡ record { principal = Inst m (number_named names m v); names = with_instance names m v }
instance_is names m v = named_by names m v (named names m v)

pub script_enters : {C : Type 0} (stands : C → History → Type 0) (p : Program) (m : Monitor C) (s : State) (t : ℕ) (by : Principal) (n : ℕ) (args : List Word) (q : Principal) (crosses : Bool)
    → crosses ≡ is_module_function p n → RunsAs stands p m s (runs_in p s n args (home_of p n)) (Ok q)
    → Tries stands p m s t by (what.Enter (Script n) args) (Ok (Entered n q crosses))
script_enters stands p m s t by n args q crosses same run = (
  ap found_nothing run.1,
  subst (λ (found : Found Running). Gives stands p m (Entered n q crosses) (entering_as p s by (Script n) n found)) (sym run.1)
      (record { reply = ap (λ (b : Bool). Entered n q b) same ∙ ap (λ (r : Principal). Entered n r (is_module_function p n)) run.2.principal; state = run.2.keeps }),
)

pub script_halts : {C : Type 0} (stands : C → History → Type 0) (p : Program) (m : Monitor C) (s : State) (t : ℕ) (by : Principal) (n : ℕ) (args : List Word) (e : Halt)
    → RunsAs stands p m s (runs_in p s n args (home_of p n)) (Err e) → Tries stands p m s t by (what.Enter (Script n) args) (Err e)
script_halts stands p m s t by n args (Ended o) run = (ap found_nothing run.1 ∙ ap Some (sym run.2), run.3)
script_halts stands p m s t by n args Memory run = (ap found_nothing run.1, run.2)

kernel_runs : (p : Program) (s : State) (n : ℕ) (args : List Word) → IsTrue (is_in p None n) → runs_in p s n args (home_of p n) ≡ Ok (record { principal = Kernel; names = s.names })
kernel_runs p s n args is = ap (runs_in p s n args) (kernel_home (home_of p n) is)

pub kernel_enters : {C : Type 0} (stands : C → History → Type 0) (p : Program) (m : Monitor C) (s : State) (t : ℕ) (by : Principal) (n : ℕ) (args : List Word)
    → IsTrue (is_in p None n) → Keeps stands p m s → Tries stands p m s t by (what.Enter (Direct n) args) (Ok (Entered n Kernel true))
kernel_enters stands p m s t by n args is k = (
  refl,
  subst (λ (found : Found Running). Gives stands p m (Entered n Kernel true) (entering_as p s by (Direct n) n found)) (sym (kernel_runs p s n args is))
      (record { reply = refl; state = record { memory = k.memory; blocks = k.blocks; names = k.names; history = k.history; notes = k.notes; sources = k.sources; texts = k.texts } }),
)

-- a principal's expression that has no value
pub value_halts : {C : Type 0} (stands : C → History → Type 0) (p : Program) (m : Monitor C) (s : State) (home : ℕ) (args : List Word) (e : Expr) (halt : Halt) → Keeps stands p m s
    → IsValue (value (load64 s.memory) (record { args = args; ret = None }) e) (Err halt) → RunsAs stands p m s (runs_by s home args (Some (who.Value e))) (Err halt)
value_halts stands p m s home args e (Ended o) k is = (is.0, ap (λ (found : Found ℕ). and_then found (λ v. Ok (instance_named s.names home v))) is.1, is.2, k)
value_halts stands p m s home args e Memory k is = absurd is

-- an expression that has a value, for which no instance could be made
pub value_wants : {C : Type 0} (stands : C → History → Type 0) (p : Program) (m : Monitor C) (s : State) (home : ℕ) (args : List Word) (e : Expr) (v : ℕ) → Keeps stands p m s
    → value (load64 s.memory) (record { args = args; ret = None }) e ≡ Ok v → RunsAs stands p m s (runs_by s home args (Some (who.Value e))) (Err Memory)
value_wants stands p m s home args e v k is = (instance_named s.names home v, ap (λ (found : Found ℕ). and_then found (λ w. Ok (instance_named s.names home w))) is, k)

pub value_runs : {C : Type 0} (stands : C → History → Type 0) (p : Program) (m : Monitor C) (s : State) (home : ℕ) (args : List Word) (e : Expr) (v : ℕ) (q : Principal)
    → value (load64 s.memory) (record { args = args; ret = None }) e ≡ Ok v → IsNamed stands p m s (instance_named s.names home v) q → RunsAs stands p m s (runs_by s home args (Some (who.Value e))) (Ok q)
value_runs stands p m s home args e v q is named = (instance_named s.names home v, ap (λ (found : Found ℕ). and_then found (λ w. Ok (instance_named s.names home w))) is, named)

pub module_runs : {C : Type 0} (stands : C → History → Type 0) (p : Program) (m : Monitor C) (s : State) (n home : ℕ) (args : List Word) (w : Option Who) (a : Option Annotation) (result : Result Principal Halt)
    → Some (Some home) ≡ home_of p n → w ≡ (unwrap_or a no_annotation).principal → a ≡ annotation_of p n → RunsAs stands p m s (runs_by s home args w) result
    → RunsAs stands p m s (runs_in p s n args (home_of p n)) result
module_runs stands p m s n home args w a result of says is run =
    subst (λ (h : Option Home). RunsAs stands p m s (runs_in p s n args h) result) of
    (subst (λ (x : Option Who). RunsAs stands p m s (runs_by s home args x) result) (says ∙ ap (λ (x : Option Annotation). (unwrap_or x no_annotation).principal) is) run)

-- nobody is looked up: the names stay
pub runs_plain : {C : Type 0} (stands : C → History → Type 0) (p : Program) (m : Monitor C) (s : State) (found : Found Running) (q : Principal) → Keeps stands p m s
    → found ≡ Ok (record { principal = q; names = s.names }) → RunsAs stands p m s found (Ok q)
runs_plain stands p m s found q k is = (
  record { principal = q; names = s.names },
  is,
  record { principal = refl; keeps = record { memory = k.memory; blocks = k.blocks; names = k.names; history = k.history; notes = k.notes; sources = k.sources; texts = k.texts } },
)
