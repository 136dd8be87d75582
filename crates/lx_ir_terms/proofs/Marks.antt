-- A token is one mark at most.
use Rattle.std.proofs.Common.{◌≡◌, Bool, true, false, List, [], ◌∷◌, refl, ap, ◌∙◌}
use denote.Enum.Bare.{same_true}
use Rattle.lx_ir_tokens.specs.declared.token.Tok.{Tok}
use Rattle.lx_ir_tokens.specs.declared.token.Kind.{Kind}
use Rattle.lx_ir_tokens.specs.declared.token.Kind.TheVariants as kinds
use Rattle.lx_ir_tokens.specs.declared.token.Mark.{Mark}
use Rattle.lx_ir_tokens.specs.contracts.token.Mark as mark
use Rattle.lx_ir_terms.specs.Reading.{has, behind, is_mark, same_mark}

pub mark_is : (m : Mark) (k : Kind) → is_mark m k ≡ true → k ≡ kinds.Mark m
mark_is m (kinds.Mark n) h = ap kinds.Mark (same_true mark.the_type tt n m h)
mark_is m (kinds.Word w) h = cc
mark_is m kinds.Local h = cc
mark_is m kinds.Global h = cc
mark_is m (kinds.Number v s) h = cc
mark_is m kinds.Text h = cc
mark_is m kinds.Bytes h = cc

-- what stands next is not another mark
pub other_mark : (m n : Mark) (ts : List Tok) → same_mark m n ≡ false → has (is_mark m) ts ≡ true → has (is_mark n) ts ≡ false
other_mark m n [] d h = refl
other_mark m n (t ∷ ts) d h = ap (is_mark n) (mark_is m t.kind h) ∙ d

pub record Next (p : Kind → Bool) (ts : List Tok) : Type 0 where
  pub token : Tok
  pub kind : p token.kind ≡ true
  pub whole : ts ≡ token ∷ behind ts

pub next_token : (p : Kind → Bool) (ts : List Tok) → has p ts ≡ true → Next p ts
next_token p [] h = cc
next_token p (t ∷ ts) h = record { token = t; kind = h; whole = refl }
