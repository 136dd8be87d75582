-- A token at which the first reading of a text stops cannot stand there.
use Rattle.std.specs.Prelude.{◌≡◌, ◌⊎◌, ℕ, Bool, true, false, not, Option, None, List, [], ◌∷◌, ◌++◌, bytes_eq, codes}
use Rattle.lx_words.specs.declared.token.TokenRule.{TokenRule}
use Rattle.lx_words.specs.declared.token.TokenRule.TheVariants as rules
use Rattle.lx_words.specs.declared.token.Token.{Token}
use Rattle.lx_words.specs.declared.token.Stop.{Stop}
use Rattle.lx_words.specs.Cuts.{bytes_of, Scans}
use Rattle.lx_annot.specs.declared.interface.Interface.{Interface}
use Rattle.lx_annot_expressions.specs.Tokens.{Tok, toks_of}
use Rattle.lx_annot_read.specs.declared.fault.Kind.{Kind}
use Rattle.lx_annot_read.specs.declared.fault.InterfaceFault.{InterfaceFault}
use Rattle.lx_annot_read.specs.declared.fault.InterfaceFault.TheVariants as faults
use Rattle.lx_annot_read.specs.Faults.{fault_of, last_line}
use Rattle.lx_annot_read.specs.Texts.{FirstInterfaceFault}
use Rattle.lx_annot_laws.specs.Statements.{IsInterface}

-- The tokens of a text are these up to one of them, whatever stands behind it, in whatever lines, and whether or not a byte follows
-- that begins none.
pub record UpTo (rule : TokenRule) (text : List ℕ) (token : Token) (front : List Tok) : Type 0 where
  pub before : List Token
  pub more : List Token
  pub stop : Option Stop
  pub scans : Scans rule text (before ++ token ∷ more) stop
  pub same : toks_of text (before ++ token ∷ []) ≡ front

-- The faults that are a token which cannot stand there, whatever follows it: no rule takes it, or it is a name that is not declared. What
-- follows `load64` says whether it is a name.
abbrev pub is_refused : InterfaceFault → Bool
is_refused (faults.Statement line what) = true
is_refused (faults.Unknown line what) = not (bytes_eq what (codes "load64"))
is_refused (faults.Lexical line what) = false
is_refused (faults.Twice line what) = false
is_refused (faults.NeedsSize line what) = false
is_refused faults.Memory = false

-- the fault of this kind at a token
abbrev pub refusal : Kind → List ℕ → Token → InterfaceFault
refusal kind text token = fault_of kind token.line (bytes_of text token)

-- A dialect has its rule of tokens, its first faults of texts, and its texts that are interfaces.

-- The last of these tokens cannot stand behind those before it: each text with these tokens has its first fault there, of this kind, by its
-- line and word, and is no interface.
pub record StandsNowhere (rule : TokenRule) (IsFault : List ℕ → InterfaceFault → Type 0) (IsText : List ℕ → Interface → Type 0) (kind : Kind) (front : List Tok) : Type 0 where
  pub again : (text : List ℕ) (token : Token) → UpTo rule text token front → IsFault text (refusal kind text token)
  pub none : (text : List ℕ) (token : Token) → UpTo rule text token front → (i : Interface) → IsText text i → ⊥

-- The fault is a token of the text that cannot stand there.
pub record IsRefused (rule : TokenRule) (IsFault : List ℕ → InterfaceFault → Type 0) (IsText : List ℕ → Interface → Type 0) (text : List ℕ) (fault : InterfaceFault) : Type 0 where
  pub kind : Kind
  pub token : Token
  pub front : List Tok
  pub there : UpTo rule text token front
  pub is : fault ≡ refusal kind text token
  pub nowhere : StandsNowhere rule IsFault IsText kind front

-- the fault is that the tokens of the text end, in the line of the last
abbrev pub IsEnd : TokenRule → List ℕ → InterfaceFault → Type 0
IsEnd rule text fault = (tokens : List Token) × Scans rule text tokens None × (fault ≡ faults.Statement (last_line tokens) (codes "end"))

-- Where the first fault of a text is a token that cannot stand there, no text with the same tokens up to it is an interface.
abbrev pub RefusedStandNowhere : TokenRule → (List ℕ → InterfaceFault → Type 0) → (List ℕ → Interface → Type 0) → Type 0
RefusedStandNowhere rule IsFault IsText =
    (text : List ℕ) (fault : InterfaceFault) → is_refused fault ≡ true → IsFault text fault → IsRefused rule IsFault IsText text fault ⊎ IsEnd rule text fault

-- It is so of interface texts.
abbrev pub RefusedTokensStandNowhere : Type 0
RefusedTokensStandNowhere = RefusedStandNowhere rules.Interface FirstInterfaceFault IsInterface
