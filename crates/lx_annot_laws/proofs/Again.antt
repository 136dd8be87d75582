-- What is printed of an interface that can be said is read again.
use Rattle.std.proofs.Common.{◌≡◌, ◌∙◌, ap}
use Rattle.lx_words.specs.TextLaws.{NumberTexts}
use Rattle.lx_annot.specs.declared.interface.Interface.{Interface}
use Rattle.lx_annot_read.specs.Aside.{lines_aside}
use Rattle.lx_annot_laws.specs.GrammarLaws.{InterfacesAreRead, InterfacesAreFound, OneInterface, NotBoth}
use Rattle.lx_annot_laws.specs.Statements.{IsInterface}
use Rattle.lx_cproto_print.specs.Printed.{interface_text}
use Rattle.lx_annot_laws.specs.RoundTripLaws.{IsReadAgain, SayableAreRead}
use Rattle.lx_annot_laws.proofs.PrintedWhole.{is_again}
use Rattle.lx_annot_laws.proofs.Lines.{statements_of, lines}

module _ (read : InterfacesAreRead) (found : InterfacesAreFound) (one : OneInterface) (apart : NotBoth) where
  answered : (i j : Interface) → IsInterface (interface_text i) j → lines_aside j ≡ lines_aside i → IsReadAgain i
  answered i j is same = record {
    read = (j, read (interface_text i) j is, same);
    same = λ k says. ap lines_aside (one (interface_text i) k j (found (interface_text i) k says) is) ∙ same;
    no_fault = λ fault first. apart (interface_text i) j fault is first;
  }

  pub sayable_again : NumberTexts → SayableAreRead
  sayable_again texts i s short =
      let u = lines texts i s in
      let j = is_again i (statements_of i) u.said u.end short in
      answered i j.0 j.1 j.2
