-- The first fault of a text, and what the grammar of its dialect says of it.
use Rattle.std.specs.Prelude.{◌≡◌, ◌⊎◌, ℕ, true, List}
use Rattle.lx_words.specs.declared.token.TokenRule.{TokenRule}
use Rattle.lx_words.specs.declared.token.TokenRule.TheVariants as rules
use Rattle.lx_annot.specs.declared.interface.Interface.{Interface}
use Rattle.lx_annot_read.specs.declared.fault.InterfaceFault.{InterfaceFault}
use Rattle.lx_annot_read.specs.Texts.{FirstInterfaceFault}
use Rattle.lx_cproto.specs.Texts.{FirstPrototypeFault}
use Rattle.lx_annot_laws.specs.Statements.{IsInterface}
use Rattle.lx_annot_laws.specs.Declarations.{ArePrototypes}
use Rattle.lx_annot_laws.specs.RefusedLaws.{is_refused, IsRefused, IsEnd}

-- The first fault of a text that is no interface: what reading forward meets first, by its kind, line and word.
pub record IsFirstFault (rule : TokenRule) (IsFault : List ℕ → InterfaceFault → Type 0) (IsText : List ℕ → Interface → Type 0) (text : List ℕ) (fault : InterfaceFault) : Type 0 where
  pub first : IsFault text fault
  -- the text is no interface of the grammar
  pub none : (i : Interface) → IsText text i → ⊥
  -- a token that no rule takes, or a name that is not declared, stands there in no interface, or the tokens end
  pub refused : is_refused fault ≡ true → IsRefused rule IsFault IsText text fault ⊎ IsEnd rule text fault

-- the first fault of a text of statements
abbrev pub IsFirstInterfaceFault : List ℕ → InterfaceFault → Type 0
IsFirstInterfaceFault text fault = IsFirstFault rules.Interface FirstInterfaceFault IsInterface text fault

-- the first fault of a text of prototypes
abbrev pub IsFirstPrototypeFault : List ℕ → InterfaceFault → Type 0
IsFirstPrototypeFault text fault = IsFirstFault rules.Prototype FirstPrototypeFault ArePrototypes text fault

-- each first fault of a text is one
abbrev pub FirstFaultsAreTold : TokenRule → (List ℕ → InterfaceFault → Type 0) → (List ℕ → Interface → Type 0) → Type 0
FirstFaultsAreTold rule IsFault IsText = (text : List ℕ) (fault : InterfaceFault) → IsFault text fault → IsFirstFault rule IsFault IsText text fault

-- It is so of either dialect.

abbrev pub InterfaceFaultsAreTold : Type 0
InterfaceFaultsAreTold = FirstFaultsAreTold rules.Interface FirstInterfaceFault IsInterface

abbrev pub PrototypeFaultsAreTold : Type 0
PrototypeFaultsAreTold = FirstFaultsAreTold rules.Prototype FirstPrototypeFault ArePrototypes
