-- Steps one after the other, and what stands behind the operands of an instruction.
use Rattle.std.specs.Prelude.{ℕ, zero, suc, Bool, true, false, not, Option, Some, None, List, [], ◌∷◌, length, Ok, if◌then◌else◌}
use Rattle.lx_ir_tokens.specs.declared.token.Tok.{Tok}
use Rattle.lx_ir_tokens.specs.declared.token.Kind.{Kind}
use Rattle.lx_ir_tokens.specs.declared.token.Kind.TheVariants as kinds
use Rattle.lx_ir_tokens.specs.declared.token.Mark.TheVariants.{Comma, Exclamation, Hash, Colon}
use Rattle.lx_ir_tokens.specs.declared.keyword.Keyword.{Keyword}
use Rattle.lx_ir_tokens.specs.declared.keyword.Keyword.TheVariants as keywords
use Rattle.lx_ir_tokens.specs.Keywords.{is_behind_parentheses}
use Rattle.lx_ir_terms.specs.Reading.{Read, ◌>>=◌, behind, pick_at, is_mark, has, next_at, mark_at}
use Rattle.lx_ir_terms.specs.Words.{count_over}
use Rattle.lx_ir_constants.specs.Constants.{when, word_refusal}

-- Steps.

-- steps that say nothing, as long as the test holds; the number is at least that of the tokens
unfoldable pub steps_at : (List Tok → Bool) → (List Tok → Read (Unit {0})) → ℕ → List Tok → Read (Unit {0})
steps_at go step zero ts = Ok (tt, ts)
steps_at go step (suc n) ts = if go ts then (step ts >>= λ x. steps_at go step n x.1) else Ok (tt, ts)

-- steps that each say something, as long as the test holds; the number is at least that of the tokens
unfoldable pub items_while : {A : Type 0} → (List Tok → Bool) → (List Tok → Read A) → ℕ → List Tok → Read (List A)
items_while go step zero ts = Ok ([], ts)
items_while go step (suc n) ts =
    if go ts then (step ts >>= λ x. items_while go step n x.1 >>= λ xs. Ok (x.0 ∷ xs.0, xs.1)) else Ok ([], ts)

-- a comma stands next, and no metadata behind it
abbrev pub has_further : List Tok → Bool
has_further ts = if has (is_mark Comma) ts then not (has (is_mark Exclamation) (behind ts)) else false

-- one item or more with commas between them, up to metadata
abbrev pub unbroken_at : {A : Type 0} → (List Tok → Read A) → List Tok → Read (List A)
unbroken_at item ts = do
  x ← item ts
  xs ← items_while has_further (λ us. item (behind us)) (length x.1) x.1
  Ok (x.0 ∷ xs.0, xs.1)

-- Metadata.

-- the name of metadata that is passed over
abbrev pub is_metadata_name : Kind → Bool
is_metadata_name (kinds.Word keywords.Debug) = false
is_metadata_name (kinds.Word w) = true
is_metadata_name _ = false

-- `!name !N`; `dbg` is outside the profile
abbrev pub one_metadata_at : List Tok → Read (Unit {0})
one_metadata_at ts = do
  e ← mark_at Exclamation ts
  n ← pick_at (λ t. when (is_metadata_name t.kind)) word_refusal e.1
  f ← mark_at Exclamation n.1
  count_over f.1

abbrev pub has_comma : List Tok → Bool
has_comma ts = has (is_mark Comma) ts

-- `, !name !N`, any number of times
abbrev pub metadata_at : List Tok → Read (Unit {0})
metadata_at ts = steps_at has_comma (λ us. one_metadata_at (behind us)) (length ts) ts

-- An alignment.

abbrev pub is_align : Kind → Bool
is_align (kinds.Word keywords.Align) = true
is_align _ = false

-- `align N`; any other word there is outside the profile
abbrev pub one_align_at : List Tok → Read (Unit {0})
one_align_at ts = do
  a ← pick_at (λ t. when (is_align t.kind)) word_refusal ts
  count_over a.1

-- `, align N`, or nothing
abbrev pub align_at : List Tok → Read (Unit {0})
align_at ts = if has_further ts then one_align_at (behind ts) else Ok (tt, ts)

-- Words behind the parentheses of a call.

-- a word that begins no instruction
abbrev pub is_idle_word : Kind → Bool
is_idle_word (kinds.Word (keywords.Instruction w)) = false
is_idle_word (kinds.Word keywords.Tail) = false
is_idle_word (kinds.Word w) = true
is_idle_word _ = false

-- a colon stands behind the next token, or no token does, so that it may be a label
abbrev pub may_be_label : List Tok → Bool
may_be_label [] = true
may_be_label (t ∷ []) = true
may_be_label (t ∷ u ∷ us) = is_mark Colon u.kind

-- what stands next belongs to the call: `#`, or a word that begins no instruction and is no label
abbrev pub has_attribute : List Tok → Bool
has_attribute ts = if has (is_mark Hash) ts then true else if has is_idle_word ts then not (may_be_label ts) else false

abbrev pub is_text : Kind → Bool
is_text kinds.Text = true
is_text _ = false

abbrev pub attribute_in : Kind → Option Keyword
attribute_in (kinds.Word w) = if is_behind_parentheses w then Some w else None
attribute_in _ = None

-- what stands behind such a word
abbrev pub attribute_tail : Keyword → List Tok → Read (Unit {0})
attribute_tail keywords.Align ts = count_over ts
attribute_tail keywords.Section ts = next_at is_text ts
attribute_tail _ ts = Ok (tt, ts)

-- a word with what belongs to it; any word but those of this place is outside the profile
abbrev pub attribute_word_at : List Tok → Read (Unit {0})
attribute_word_at ts = do
  w ← pick_at (λ t. attribute_in t.kind) word_refusal ts
  attribute_tail w.0 w.1

-- `#N`, or a word
abbrev pub one_attribute_at : List Tok → Read (Unit {0})
one_attribute_at ts = if has (is_mark Hash) ts then count_over (behind ts) else attribute_word_at ts

abbrev pub attributes_at : List Tok → Read (Unit {0})
attributes_at ts = steps_at has_attribute one_attribute_at (length ts) ts
