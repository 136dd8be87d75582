-- Worked rows: a token that is refused whatever follows it, and tokens at fault that could stand there, were it not for what follows them.
use Rattle.std.specs.Prelude.{◌≡◌, ℕ, true, false, None, List, [], ◌∷◌, Ok, Err, codes}
use Rattle.lx_words.specs.declared.token.TokenKind.TheVariants as kinds
use Rattle.lx_annot.specs.declared.expr.Ty.TheVariants as ty
use Rattle.lx_annot.specs.declared.action.CapSpec.{CapSpec}
use Rattle.lx_annot.specs.declared.action.CapSpec.TheVariants as spec
use Rattle.lx_annot.specs.declared.interface.Interface.{Interface}
use Rattle.lx_annot.specs.Expr.{Number, Load64}
use Rattle.lx_annot_expressions.specs.declared.fault.FaultKind.{FaultKind}
use Rattle.lx_annot_expressions.specs.declared.fault.FaultKind.TheVariants.{Statement, Unknown, Twice, NeedsSize}
use Rattle.lx_annot_expressions.specs.Tokens.{Tok}
use Rattle.lx_annot_expressions.specs.Reading.{Read}
use Rattle.lx_annot_expressions.specs.Exprs.{Scope}
use Rattle.lx_annot_terms.specs.Lists.{Known, list_at}
use Rattle.lx_annot_read.specs.declared.fault.InterfaceFault.TheVariants as faults
use Rattle.lx_annot_read.specs.Texts.{FirstInterfaceFault}
use Rattle.lx_annot_read.specs.Interfaces.{with_slot, with_field, empty, field_at}
use Rattle.lx_annot_laws.specs.RefusedLaws.{is_refused}
use Rattle.lx_annot_laws.specs.Says.{tok}

abbrev word : List ℕ → Tok
word bytes = tok kinds.Word bytes

abbrev mark : List ℕ → Tok
mark bytes = tok kinds.Mark bytes

abbrev number : List ℕ → Tok
number bytes = tok kinds.Number bytes

-- no parameter is in scope, and nothing is declared
abbrev no_names : Scope
no_names = record { params = []; ret = None }

abbrev nothing_known : Known
nothing_known = record { reftypes = []; iterators = []; lends = true }

-- a list, behind the `(` of an action
abbrev pub list : List Tok → Read CapSpec
list ts = list_at no_names nothing_known ts

-- fields, where one slot is declared, and the struct `s` has a field 0
abbrev one_field : Interface
one_field =
    with_field
    (with_slot empty (record { name = codes "f"; params = []; ret = ty.Void; annotation = record { principal = None; pre = []; post = [] }; line = 0 }))
    (record { name = codes "s"; index = 0; slot = 0; line = 0 })

abbrev pub field : List Tok → Read Interface
field ts = field_at 0 one_field ts

-- the fault is of this kind, at the token that so many tokens stand from the end on
abbrev pub Fails : {A : Type 0} → Read A → FaultKind → ℕ → Type 0
Fails read kind left = read ≡ Err (record { kind = kind; left = left })

pub record WorkedRefusals : Type 0 where
  pub mark_is_refused : is_refused (faults.Statement 1 (codes ")")) ≡ true
  pub text : FirstInterfaceFault (codes "interface 2\nfield %s 0 : f") (faults.Unknown 2 (codes "f"))
  pub name_is_refused : is_refused (faults.Unknown 1 (codes "q")) ≡ true
  pub load_may_follow : is_refused (faults.Unknown 1 (codes "load64")) ≡ false
  pub size_may_follow : is_refused (faults.NeedsSize 1 (codes "write")) ≡ false
  pub index_may_follow : is_refused (faults.Twice 1 (codes "%s")) ≡ false
  pub unknown : Fails (list (word (codes "call") ∷ mark (codes ",") ∷ word (codes "q") ∷ mark (codes ")") ∷ [])) Unknown 2
  pub unknown_call : Fails (list (word (codes "call") ∷ mark (codes ",") ∷ word (codes "q") ∷ mark (codes "(") ∷ number (codes "1") ∷ mark (codes ")") ∷ [])) Unknown 4
  pub no_load : Fails (list (word (codes "call") ∷ mark (codes ",") ∷ word (codes "load64") ∷ mark (codes ")") ∷ [])) Unknown 2
  pub load : list (word (codes "call") ∷ mark (codes ",") ∷ word (codes "load64") ∷ mark (codes "(") ∷ number (codes "1") ∷ mark (codes ")") ∷ []) ≡ Ok (spec.Call (Load64 (Number 1)), [])
  pub no_size : Fails (list (word (codes "write") ∷ mark (codes ",") ∷ number (codes "1") ∷ mark (codes ")") ∷ [])) NeedsSize 4
  pub size : list (word (codes "write") ∷ mark (codes ",") ∷ number (codes "1") ∷ mark (codes ",") ∷ number (codes "8") ∷ mark (codes ")") ∷ []) ≡ Ok (spec.Write (Number 1) (Number 8), mark (codes ")") ∷ [])
  pub no_list : Fails (list (word (codes "write") ∷ mark (codes ")") ∷ [])) Statement 1
  pub same_field : Fails (field (tok kinds.Local (codes "%s") ∷ number (codes "0") ∷ mark (codes ":") ∷ word (codes "f") ∷ [])) Twice 4
  pub other_field : field (tok kinds.Local (codes "%s") ∷ number (codes "1") ∷ mark (codes ":") ∷ word (codes "f") ∷ []) ≡ Ok (with_field one_field (record { name = codes "s"; index = 1; slot = 0; line = 0 }), [])
