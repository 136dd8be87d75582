-- What the grammar of a dialect says of the first fault of a text.
use Rattle.std.proofs.Common.{ℕ, List}
use Rattle.lx_words.specs.declared.token.TokenRule.{TokenRule}
use Rattle.lx_annot.specs.declared.interface.Interface.{Interface}
use Rattle.lx_annot_read.specs.declared.fault.InterfaceFault.{InterfaceFault}
use Rattle.lx_annot_laws.specs.RefusedLaws.{RefusedStandNowhere}
use Rattle.lx_annot_laws.specs.FaultOfText.{IsFirstFault}

module _ (rule : TokenRule) (IsFault : List ℕ → InterfaceFault → Type 0) (IsText : List ℕ → Interface → Type 0) where
  pub is_told : ((text : List ℕ) (i : Interface) (f : InterfaceFault) → IsText text i → IsFault text f → ⊥) → RefusedStandNowhere rule IsFault IsText → (text : List ℕ) (fault : InterfaceFault) → IsFault text fault → IsFirstFault rule IsFault IsText text fault
  is_told apart nowhere text fault first = record {
    first = first;
    none = λ i is. apart text i fault is first;
    refused = λ r. nowhere text fault r first;
  }
