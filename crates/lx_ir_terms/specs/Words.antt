-- Words that are passed over before and behind types.
use Rattle.std.specs.Prelude.{ℕ, zero, suc, Bool, true, false, Option, List, [], ◌∷◌, length, Ok, if◌then◌else◌}
use Rattle.lx_ir_tokens.specs.declared.token.Tok.{Tok}
use Rattle.lx_ir_tokens.specs.declared.token.Kind.{Kind}
use Rattle.lx_ir_tokens.specs.declared.token.Kind.TheVariants as kinds
use Rattle.lx_ir_tokens.specs.declared.token.Mark.TheVariants.{OpenParenthesis, CloseParenthesis}
use Rattle.lx_ir_tokens.specs.declared.keyword.Keyword.{Keyword}
use Rattle.lx_ir_tokens.specs.declared.keyword.Keyword.TheVariants as keywords
use Rattle.lx_ir.specs.declared.types.Scalar.{Scalar}
use Rattle.lx_ir_terms.specs.declared.fault.FaultKind.{FaultKind}
use Rattle.lx_ir_terms.specs.declared.fault.FaultKind.TheVariants.{OutOfProfile}
use Rattle.lx_ir_terms.specs.Reading.{Read, ◌>>=◌, behind, has, mark_at, next_at, pick_at}
use Rattle.lx_ir_terms.specs.Types.{count_at, result_in, scalar_refusal}

-- a word that is passed over: one at a parameter, argument or result, or, where they may stand too, one before a global or function
abbrev pub is_passed_word : Bool → Keyword → Bool
is_passed_word linkage keywords.Linkage = linkage
is_passed_word linkage keywords.Parameter = true
is_passed_word linkage keywords.Align = true
is_passed_word linkage keywords.Dereferenceable = true
is_passed_word linkage keywords.Captures = true
is_passed_word linkage _ = false

abbrev pub is_passed : Bool → Kind → Bool
is_passed linkage (kinds.Word w) = is_passed_word linkage w
is_passed linkage _ = false

abbrev pub is_nothing_word : Kind → Bool
is_nothing_word (kinds.Word keywords.Nothing) = true
is_nothing_word _ = false

abbrev pub count_over : List Tok → Read (Unit {0})
count_over ts = count_at ts >>= λ n. Ok (tt, n.1)

-- `(N)`
abbrev pub enclosed_count_at : List Tok → Read (Unit {0})
enclosed_count_at ts = do
  o ← mark_at OpenParenthesis ts
  n ← count_at o.1
  mark_at CloseParenthesis n.1

-- `(none)`
abbrev pub enclosed_nothing_at : List Tok → Read (Unit {0})
enclosed_nothing_at ts = do
  o ← mark_at OpenParenthesis ts
  n ← next_at is_nothing_word o.1
  mark_at CloseParenthesis n.1

-- what stands behind a word that is passed over
abbrev pub tail_at : Keyword → List Tok → Read (Unit {0})
tail_at keywords.Align ts = count_over ts
tail_at keywords.Dereferenceable ts = enclosed_count_at ts
tail_at keywords.Captures ts = enclosed_nothing_at ts
tail_at _ ts = Ok (tt, ts)

abbrev pub word_of_kind : Kind → Keyword
word_of_kind (kinds.Word w) = w
word_of_kind _ = keywords.Other

abbrev pub first_word : List Tok → Keyword
first_word [] = keywords.Other
first_word (t ∷ ts) = word_of_kind t.kind

-- words that are passed over; the number is at least that of the tokens
unfoldable pub words_at : Bool → ℕ → List Tok → Read (Unit {0})
words_at linkage zero ts = Ok (tt, ts)
words_at linkage (suc n) ts =
    if has (is_passed linkage) ts then (tail_at (first_word ts) (behind ts) >>= λ w. words_at linkage n w.1) else Ok (tt, ts)

-- the words that stand next and are passed over
abbrev pub passed_at : Bool → List Tok → Read (Unit {0})
passed_at linkage ts = words_at linkage (length ts) ts

-- how a token is refused where words are passed over: any other word is outside the profile
abbrev pub word_refusal : Kind → FaultKind
word_refusal (kinds.Word w) = OutOfProfile
word_refusal k = scalar_refusal k

-- the type of a result, behind words that are passed over
abbrev pub passed_result_at : Bool → List Tok → Read (Option Scalar)
passed_result_at linkage ts = do
  w ← passed_at linkage ts
  pick_at (λ t. result_in t.kind) word_refusal w.1
