-- What canonical texts do not depend on.
use Rattle.std.specs.Prelude.{◌≡◌, ℕ, List, map}
use Rattle.lx_annot.specs.declared.action.Annotation.{Annotation}
use Rattle.lx_annot.specs.declared.interface.Interface.{Interface}
use Rattle.lx_annot.specs.Canonical.{canonical}
use Rattle.lx_annot_expressions.specs.Tokens.{Tok}
use Rattle.lx_annot_terms.specs.Lists.{Known}
use Rattle.lx_annot_terms.specs.Signatures.{Signature}
use Rattle.lx_annot_read.specs.Head.{may_lend}
use Rattle.lx_annot_read.specs.Interfaces.{iterator_names}
use Rattle.lx_annot_laws.specs.Statements.{IsCallable, IsInterface}
use Rattle.lx_annot_laws.specs.Renaming.{IsRenaming, IsRenamed, HaveSameTokens, renamed}
use Rattle.lx_annot_laws.specs.Anew.{IsAnew, KeepsListNames, HaveSameTexts, anew_signature}

-- Of an interface, the canonical text has the names of reference types and of iterators alone.
abbrev pub OnlyListsAreNamed : Type 0
OnlyListsAreNamed = (i j : Interface) (a : Annotation) → j.reftypes ≡ i.reftypes → iterator_names j ≡ iterator_names i → canonical j a ≡ canonical i a

-- Where the parameters of one slot or export have other names, its clauses say the same annotation.
abbrev pub ParametersSayNothing : Type 0
ParametersSayNothing =
    (r : List ℕ → List ℕ) (known : Known) → IsRenaming known.lends r → map r known.reftypes ≡ known.reftypes → map r known.iterators ≡ known.iterators →
    (sig : Signature) (a : Annotation) (ts : List Tok) → IsCallable known sig a ts → IsCallable known (anew_signature r sig) a (map (renamed r) ts)

-- A text that is an interface is one with all names given anew too, in whatever lines and with whatever spaces and comments, and
-- says the same annotations.
abbrev pub RenamedIsRead : Type 0
RenamedIsRead =
    (r : List ℕ → List ℕ) (x y : List ℕ) (i : Interface) (is : IsInterface x i) → IsRenaming (may_lend is.version) r → IsRenamed r x y → (j : Interface) × IsInterface y j × IsAnew r i j

-- Where the names of reference types and iterators are kept, the canonical texts are the same.
abbrev pub NamesSayNothing : Type 0
NamesSayNothing =
    (r : List ℕ → List ℕ) (x y : List ℕ) (i j : Interface) (is : IsInterface x i) → IsRenaming (may_lend is.version) r → IsRenamed r x y → IsInterface y j → KeepsListNames r i → HaveSameTexts i j

-- Where two texts have the same tokens, the canonical texts are the same, whatever the spaces, comments and lines.
abbrev pub SpacesSayNothing : Type 0
SpacesSayNothing = (x y : List ℕ) (i j : Interface) → HaveSameTokens x y → IsInterface x i → IsInterface y j → HaveSameTexts i j
