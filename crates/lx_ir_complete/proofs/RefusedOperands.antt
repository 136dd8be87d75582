-- Operands, and what is passed over around them.
use Rattle.std.proofs.Common.{◌≡◌, ◌+◌, Bool, true, false, Option, None, List, [], ◌∷◌, length, Ok, refl, ap, ◌∙◌, arith}
use Rattle.std.specs.Prelude.{if◌then◌else◌, not}
use Rattle.std.proofs.lemmas.List.{length-append}
use Rattle.lx_ir_tokens.specs.declared.token.Tok.{Tok}
use Rattle.lx_ir_tokens.specs.declared.token.Kind.{Kind}
use Rattle.lx_ir_tokens.specs.declared.token.Mark.TheVariants.{Comma, Exclamation, Hash, OpenParenthesis, CloseParenthesis}
use Rattle.lx_ir_tokens.specs.declared.keyword.Keyword.{Keyword}
use Rattle.lx_ir_tokens.specs.declared.keyword.Keyword.TheVariants as keywords
use Rattle.lx_ir.specs.declared.types.Scalar.{Scalar}
use Rattle.lx_ir_terms.specs.declared.fault.FaultKind.{FaultKind}
use Rattle.lx_ir_terms.specs.Context.{Context}
use Rattle.lx_ir_terms.specs.Reading.{◌>>=◌, has, behind, is_mark, pick_at, next_at, mark_at}
use Rattle.lx_ir_terms.specs.Types.{count_in, count_at, always_refused}
use Rattle.lx_ir_terms.specs.Words.{is_passed, is_nothing_word, count_over, enclosed_count_at, enclosed_nothing_at, tail_at, word_of_kind, first_word, passed_at}
use Rattle.lx_ir_terms.specs.Grammar.{Picks}
use Rattle.lx_ir_terms.proofs.Parts.{pick_reads, pick_finds}
use Rattle.lx_ir_terms.proofs.Stopping.{pick_stops}
use Rattle.lx_ir_constants.specs.Constants.{when, word_refusal, value_at}
use Rattle.lx_ir_constants.specs.Grammar.{IsValue}
use Rattle.lx_ir_constants.proofs.ValueLaws.{value_again, value_found}
use Rattle.lx_ir_constants.proofs.ConstantStops.{value_stops}
use Rattle.lx_ir_operands.specs.Steps.{steps_at, has_further, is_metadata_name, one_metadata_at, has_comma, metadata_at, is_align, one_align_at, align_at, is_idle_word, may_be_label, has_attribute, is_text, attribute_in, attribute_tail, attribute_word_at, one_attribute_at, attributes_at}
use Rattle.lx_ir_operands.proofs.PassedLaws.{over_word, words_are_steps}
use Rattle.lx_ir_operands.proofs.AttributeLaws.{attribute_step, over_attributes}
use Rattle.lx_ir_complete.proofs.Local.{Looks, has_looks, Same, Plain, pure_plain, then_plain, last_plain, if_local, if_plain, choose_local, same_local, behind_local, from_laws}
use Rattle.lx_ir_complete.proofs.Loops.{Consumes, steps_plain, behind_consumes, has_some, next_plain, fits}

-- What stands next, and behind it.

pub further_looks : (us vs : List Tok) → Looks us vs → has_further us ≡ has_further vs
further_looks us vs l =
    ap (λ b. if b then not (has (is_mark Exclamation) (behind us)) else false) (has_looks (is_mark Comma) us vs l)
    ∙ ap (λ b. if has (is_mark Comma) vs then not b else false) l.second.bang

label_looks : (us vs : List Tok) → Looks us vs → may_be_label us ≡ may_be_label vs
label_looks [] [] l = refl
label_looks [] (v ∷ vs) l = let e = l.first in cc
label_looks (u ∷ us) [] l = let e = l.first in cc
label_looks (u ∷ []) (v ∷ []) l = refl
label_looks (u ∷ []) (v ∷ w ∷ vs) l = let e = l.second.some in cc
label_looks (u ∷ t ∷ us) (v ∷ []) l = let e = l.second.some in cc
label_looks (u ∷ t ∷ us) (v ∷ w ∷ vs) l = l.second.colon

pub attribute_looks : (us vs : List Tok) → Looks us vs → has_attribute us ≡ has_attribute vs
attribute_looks us vs l =
    ap (λ b. if b then true else if has is_idle_word us then not (may_be_label us) else false) (has_looks (is_mark Hash) us vs l)
    ∙ ap (λ b. if has (is_mark Hash) vs then true else if b then not (may_be_label us) else false) (has_looks is_idle_word us vs l)
    ∙ ap (λ b. if has (is_mark Hash) vs then true else if has is_idle_word vs then not b else false) (label_looks us vs l)

word_looks : (us vs : List Tok) → Looks us vs → first_word us ≡ first_word vs
word_looks [] [] l = refl
word_looks [] (v ∷ vs) l = let e = l.first in cc
word_looks (u ∷ us) [] l = let e = l.first in cc
word_looks (u ∷ us) (v ∷ vs) l = let e = l.first in let s : u ≡ v = cc in ap (λ (t : Tok). word_of_kind t.kind) s

module _ (asked : FaultKind → Bool) where
  pub pick_plain : {A : Type 0} (what : Tok → Option A) (how : Kind → FaultKind) → Plain asked (pick_at what how)
  pick_plain what how = from_laws asked (pick_at what how) (Picks what) (pick_reads what how) (pick_finds what how) (pick_stops what how)

  pub value_plain : (context : Context) → context.limits ≡ None → (ty : Scalar) → Plain asked (value_at context ty)
  value_plain context free ty = from_laws asked (value_at context ty) (IsValue context ty) (value_again context ty) (value_found context ty) (value_stops context free ty)

  pub count_plain : Plain asked count_over
  count_plain = last_plain asked count_at (λ n. tt) (pick_plain (λ t. count_in t.kind) always_refused)

  -- Words at an argument or result.

  enclosed_count_plain : Plain asked enclosed_count_at
  enclosed_count_plain =
      then_plain asked (mark_at OpenParenthesis) (λ o. count_at o.1 >>= λ n. mark_at CloseParenthesis n.1) (next_plain asked (is_mark OpenParenthesis))
      (λ o. then_plain asked (count_at) (λ n. mark_at CloseParenthesis n.1) (pick_plain (λ t. count_in t.kind) always_refused)
      (λ n. (next_plain asked (is_mark CloseParenthesis))))

  enclosed_nothing_plain : Plain asked enclosed_nothing_at
  enclosed_nothing_plain =
      then_plain asked (mark_at OpenParenthesis) (λ o. next_at is_nothing_word o.1 >>= λ n. mark_at CloseParenthesis n.1) (next_plain asked (is_mark OpenParenthesis))
      (λ o. then_plain asked (next_at is_nothing_word) (λ n. mark_at CloseParenthesis n.1) (next_plain asked is_nothing_word)
      (λ n. (next_plain asked (is_mark CloseParenthesis))))

  tail_plain : (w : Keyword) → Plain asked (tail_at w)
  tail_plain keywords.Align = count_plain
  tail_plain keywords.Dereferenceable = enclosed_count_plain
  tail_plain keywords.Captures = enclosed_nothing_plain
  tail_plain w = pure_plain asked tt

  over_word_plain : Plain asked over_word
  over_word_plain =
      choose_local asked Same first_word first_word word_looks (λ w ts. tail_at w (behind ts)) (λ w ts. tail_at w (behind ts))
      (λ w. behind_local asked Same (tail_at w) (tail_at w) (tail_plain w))

  over_word_shorter : (linkage : Bool) → Consumes (has (is_passed linkage)) over_word
  over_word_shorter linkage [] us x g e = cc
  over_word_shorter linkage (t ∷ ts) us x g e = let f = (tail_plain (word_of_kind t.kind)).ends ts us x e in fits f.0 ts us f.1

  pub passed_plain : (linkage : Bool) → Plain asked (passed_at linkage)
  passed_plain linkage =
      same_local asked Same (passed_at linkage) (passed_at linkage) (λ ts. steps_at (has (is_passed linkage)) over_word (length ts) ts) (λ ts. steps_at (has (is_passed linkage)) over_word (length ts) ts)
      (λ ts. words_are_steps linkage (length ts) ts) (λ ts. words_are_steps linkage (length ts) ts)
      (steps_plain (has (is_passed linkage)) over_word refl (over_word_shorter linkage) asked (has_looks (is_passed linkage)) over_word_plain)

  -- Metadata, and an alignment.

  one_metadata_plain : Plain asked one_metadata_at
  one_metadata_plain =
      then_plain asked (mark_at Exclamation) (λ e. pick_at (λ t. when (is_metadata_name t.kind)) word_refusal e.1 >>= λ n. mark_at Exclamation n.1 >>= λ f. count_over f.1) (next_plain asked (is_mark Exclamation))
      (λ e. then_plain asked (pick_at (λ t. when (is_metadata_name t.kind)) word_refusal) (λ n. mark_at Exclamation n.1 >>= λ f. count_over f.1) (pick_plain (λ t. when (is_metadata_name t.kind)) word_refusal)
      (λ n. then_plain asked (mark_at Exclamation) (λ f. count_over f.1) (next_plain asked (is_mark Exclamation))
      (λ f. count_plain)))

  pub metadata_plain : Plain asked metadata_at
  metadata_plain =
      steps_plain has_comma (λ us. one_metadata_at (behind us)) refl (behind_consumes asked has_comma one_metadata_at (has_some (is_mark Comma)) one_metadata_plain) asked (has_looks (is_mark Comma))
      (behind_local asked Same one_metadata_at one_metadata_at one_metadata_plain)

  pub one_align_plain : Plain asked one_align_at
  one_align_plain = then_plain asked (pick_at (λ t. when (is_align t.kind)) word_refusal) (λ a. count_over a.1) (pick_plain (λ t. when (is_align t.kind)) word_refusal) (λ a. count_plain)

  pub align_plain : Plain asked align_at
  align_plain =
      if_local asked Same has_further has_further further_looks (λ ts. one_align_at (behind ts)) (λ ts. one_align_at (behind ts)) (λ ts. Ok (tt, ts)) (λ ts. Ok (tt, ts))
      (behind_local asked Same one_align_at one_align_at one_align_plain) (pure_plain asked tt)

  -- Words behind a call.

  attribute_tail_plain : (w : Keyword) → Plain asked (attribute_tail w)
  attribute_tail_plain keywords.Align = count_plain
  attribute_tail_plain keywords.Section = next_plain asked is_text
  attribute_tail_plain w = pure_plain asked tt

  pub one_attribute_plain : Plain asked one_attribute_at
  one_attribute_plain =
      if_plain asked (is_mark Hash) (λ ts. count_over (behind ts)) attribute_word_at (behind_local asked Same count_over count_over count_plain)
      (then_plain asked (pick_at (λ t. attribute_in t.kind) word_refusal) (λ w. attribute_tail w.0 w.1) (pick_plain (λ t. attribute_in t.kind) word_refusal) attribute_tail_plain)

  pub one_attribute_shorter : (go : List Tok → Bool) → Consumes go one_attribute_at
  one_attribute_shorter go ts us x g e =
      let f = attribute_step (has (is_mark Hash) ts) ts us x refl e in
      let some = over_attributes.filled f.0 f.1 in
      let count : length ts ≡ length f.0 + length us = ap length f.2 ∙ length-append f.0 us in
      omega (arith, some, count)

  pub attributes_plain : Plain asked attributes_at
  attributes_plain = steps_plain has_attribute one_attribute_at refl (one_attribute_shorter has_attribute) asked attribute_looks one_attribute_plain
