-- The parts of an interface that stand among the tokens of a text, from one of them on.
use Rattle.std.specs.Prelude.{◌≡◌, ℕ, ◌==◌, ◌≤◌, List, drop, length, map, None, Result, Ok, Err, if◌then◌else◌}
use Rattle.lx_words.specs.declared.token.Token.{Token}
use Rattle.lx_annot.specs.declared.action.Annotation.{Annotation}
use Rattle.lx_annot.specs.declared.interface.Item.{Item}
use Rattle.lx_annot.specs.declared.interface.CapIterator.{CapIterator}
use Rattle.lx_annot.specs.declared.interface.Interface.{Interface}
use Rattle.lx_annot_terms.specs.Signatures.{Signature}
use Rattle.lx_annot_terms.specs.Clauses.{clauses_at}
use Rattle.lx_annot_terms.specs.ItemReading.{scope_of_items, items_at}
use Rattle.lx_annot_read.specs.declared.fault.Met.{Met}
use Rattle.lx_annot_read.specs.declared.fault.InterfaceFault.{InterfaceFault}
use Rattle.lx_annot_read.specs.declared.fault.InterfaceFault.TheVariants as faults
use Rattle.lx_annot_read.specs.declared.head.Version.TheVariants as versions
use Rattle.lx_annot_read.specs.Faults.{answered, met_at_end}
use Rattle.lx_annot_read.specs.Interfaces.{known_in}
use Rattle.lx_annot_read.specs.Texts.{seen, limited}

-- the names of iterators, by number
abbrev pub names_of_iterators : List CapIterator → List (List ℕ)
names_of_iterators xs = map (λ (x : CapIterator). x.name) xs

-- the annotation that the clauses say which stand first, and the tokens behind them
abbrev pub clauses_next : Interface → Signature → List ℕ → List Token → Result (Annotation × List Token) Met
clauses_next i scope text tokens = limited text None tokens (clauses_at scope (known_in versions.Two i) (seen text tokens))

-- the items that stand first, over a parameter of this name, and the tokens behind them
abbrev pub items_first : Interface → List ℕ → List ℕ → List Token → Result (List Item × List Token) Met
items_first i param text tokens = limited text None tokens (items_at (scope_of_items param) (known_in versions.Two i) (seen text tokens))

-- Those from a token of a text on. Where none stands there, the text ends too early, in the line of its last token.
abbrev pub items_next : Interface → List ℕ → List ℕ → List Token → ℕ → Result (List Item × List Token) Met
items_next i param text tokens from = if from == length tokens then Err (met_at_end tokens None) else items_first i param text (drop from tokens)

-- A part was read up to the token of this number, which stands no further than behind the last.
pub record IsPart {A : Type 0} (read : Result (A × List Token) Met) (x : A) (tokens : List Token) (next : ℕ) : Type 0 where
  pub is : read ≡ Ok (x, drop next tokens)
  pub within : next ≤ length tokens

-- The reader of a part may answer so: the first fault, or want of memory.
abbrev pub PartFails : {A : Type 0} → Result A Met → InterfaceFault → Type 0
PartFails read faults.Memory = Unit {0}
PartFails read fault = (met : Met) × (read ≡ Err met) × (fault ≡ answered met)
