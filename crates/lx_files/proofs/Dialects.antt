-- Interfaces in either dialect are settled.
use Rattle.std.proofs.Common.{◌≡◌, ◌∙◌, sym, subst, ℕ, List, Bool, true, false, Result, Ok, Err}
use Rattle.lx_annot.specs.declared.interface.Interface.{Interface}
use Rattle.lx_annot_read.specs.declared.fault.InterfaceFault.{InterfaceFault}
use Rattle.lx_cproto.specs.Texts.{is_cproto}
use Rattle.lx_annot_laws.specs.Statements.{IsInterface}
use Rattle.lx_annot_laws.specs.Declarations.{ArePrototypes}
use Rattle.lx_annot_laws.specs.FaultOfText.{IsFirstInterfaceFault, IsFirstPrototypeFault}
use Rattle.lx_files.specs.declared.stop.InputStop.{InputStop}
use Rattle.lx_files.specs.declared.stop.InputStop.TheVariants as stops
use Rattle.lx_files.specs.Dialects.{IsBy, FirstBy, IsEither, DialectFault, FirstEither, kind_by, either_line}
use Rattle.lx_files.specs.Faults.{interface_line}
use Rattle.lx_files.specs.Turns.{Reads, Tells}
use Rattle.lx_files.specs.Laws.{IsSure}

abbrev ReadsBy : Bool → List ℕ → List ℕ → Result Interface InputStop → Type 0
ReadsBy b file text answer = Reads (IsBy b) (Tells (FirstBy b) (interface_line (kind_by b) file)) text answer

-- what is read in the dialect of a text is read of it
pub read_so : (b : Bool) (file text : List ℕ) (answer : Result Interface InputStop) → is_cproto text ≡ b → ReadsBy b file text answer → Reads IsEither (Tells FirstEither (either_line file)) text answer
read_so b file text (Ok i) h says = subst (λ x. IsBy x text i) (sym h) says
read_so b file text (Err (stops.Fault f)) h (e, first, line) = (record { prototypes = b; fault = e }, (sym h, first), line)
read_so b file text (Err (stops.Unread name)) h told = told
read_so b file text (Err stops.Memory) h told = told

module _ (plain : IsSure IsInterface IsFirstInterfaceFault) (prototypes : IsSure ArePrototypes IsFirstPrototypeFault) where
  one_value : (b : Bool) (text : List ℕ) (i j : Interface) → IsBy b text i → IsBy b text j → i ≡ j
  one_value true text i j x y = prototypes.value text i j x y
  one_value false text i j x y = plain.value text i j x y

  one_first : (b : Bool) (text : List ℕ) (e f : InterfaceFault) → FirstBy b text e → FirstBy b text f → e ≡ f
  one_first true text e f x y = prototypes.fault text e f x y
  one_first false text e f x y = plain.fault text e f x y

  not_both : (b : Bool) (text : List ℕ) (i : Interface) (f : InterfaceFault) → IsBy b text i → FirstBy b text f → ⊥
  not_both true text i f x y = prototypes.apart text i f x y
  not_both false text i f x y = plain.apart text i f x y

  same_fault : (e f : DialectFault) → e.prototypes ≡ f.prototypes → e.fault ≡ f.fault → e ≡ f
  same_fault e f a b = λ k. record { prototypes = a k; fault = b k }

  pub either_sure : IsSure IsEither FirstEither
  either_sure = record {
    value = λ text i j x y. one_value (is_cproto text) text i j x y;
    fault = λ text e f x y.
        let same : e.prototypes ≡ f.prototypes = x.0 ∙ sym y.0 in
        same_fault e f same (one_first f.prototypes text e.fault f.fault (subst (λ b. FirstBy b text e.fault) same x.1) y.1);
    apart = λ text i f x y. not_both (is_cproto text) text i f.fault x (subst (λ b. FirstBy b text f.fault) y.0 y.1);
  }
