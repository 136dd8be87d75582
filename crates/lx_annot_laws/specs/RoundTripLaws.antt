-- What is printed is read again as the same interface.
use Rattle.std.specs.Prelude.{◌≡◌, ℕ, ◌≤◌, List, ◌++◌, map, All, length, codes}
use Rattle.std.specs.List.{concat}
use Rattle.lx_words.specs.declared.token.TokenRule.TheVariants as rules
use Rattle.lx_words.specs.declared.token.Token.{Token}
use Rattle.lx_words.specs.Cuts.{Splits}
use Rattle.lx_annot.specs.declared.interface.Interface.{Interface}
use Rattle.lx_annot.specs.Canonical.{Text}
use Rattle.lx_annot_expressions.specs.Tokens.{most_tokens}
use Rattle.lx_annot_read.specs.declared.fault.InterfaceFault.{InterfaceFault}
use Rattle.lx_annot_read.specs.Texts.{SaysInterface, FirstInterfaceFault}
use Rattle.lx_annot_read.specs.Aside.{lines_aside}
use Rattle.lx_cproto_print.specs.Printed.{reftype_line, iterator_line, slot_line, field_line, export_line, interface_text}
use Rattle.lx_annot_laws.specs.Sayable.{IsSayable}

-- the lines of a printed text behind its first one, each a statement
abbrev pub lines_of : Interface → List Text
lines_of i = map reftype_line i.reftypes ++ map (iterator_line i) i.iterators ++ map (slot_line i) i.slots ++ map (field_line i) i.fields ++ map (export_line i) i.exports

-- A printed text is its first line and these.
abbrev pub TextsAreLines : Type 0
TextsAreLines = (i : Interface) → interface_text i ≡ codes "interface 2\n" ++ concat (lines_of i)

-- a line of no more tokens than a statement may have
abbrev pub IsShort : Text → Type 0
IsShort line = (tokens : List Token) → Splits rules.Interface line tokens → length tokens ≤ most_tokens

-- each printed statement is no longer than one may be
abbrev pub HasShortLines : Interface → Type 0
HasShortLines i = All IsShort (lines_of i)

-- The printed text says an interface that is this one, lines aside. So `read_interface` may answer nothing else to it but want of memory.
pub record IsReadAgain (i : Interface) : Type 0 where
  pub read : (j : Interface) × SaysInterface (interface_text i) j × (lines_aside j ≡ lines_aside i)
  pub same : (j : Interface) → SaysInterface (interface_text i) j → lines_aside j ≡ lines_aside i
  pub no_fault : (fault : InterfaceFault) → FirstInterfaceFault (interface_text i) fault → ⊥

-- What is printed of an interface that can be said is read again.
abbrev pub SayableAreRead : Type 0
SayableAreRead = (i : Interface) → IsSayable i → HasShortLines i → IsReadAgain i

-- What is printed of an interface that a text says is read again, where its statements are short enough.
abbrev pub PrintedAreRead : (List ℕ → Interface → Type 0) → Type 0
PrintedAreRead says = (text : List ℕ) (i : Interface) → says text i → HasShortLines i → IsReadAgain i
