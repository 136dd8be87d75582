-- A constant expression, by how deep it may nest.
use Rattle.std.proofs.Common.{◌≡◌, ℕ, zero, suc, ◌-◌, ◌<◌, Bool, true, false, List, refl, arith}
use Rattle.lx_ir_tokens.specs.declared.token.Tok.{Tok}
use Rattle.lx_ir_terms.specs.Context.{Context}
use Rattle.lx_ir_terms.specs.Reading.{has, behind}
use Rattle.lx_ir_constants.specs.Constants.{is_cast_word, cast_behind, address_constant_at, expression_at, pointer_at}

pub is_cast : (context : Context) (depth : ℕ) (ts : List Tok) → 0 < depth → has is_cast_word ts ≡ true → expression_at context depth ts ≡ cast_behind (pointer_at context (depth - 1)) (behind ts)
is_cast context zero ts lt h = absurd (omega arith)
is_cast context (suc depth) ts lt h = let e : suc depth - 1 ≡ depth = omega arith in rw (h, e) refl

pub is_address : (context : Context) (depth : ℕ) (ts : List Tok) → 0 < depth → has is_cast_word ts ≡ false → expression_at context depth ts ≡ address_constant_at (pointer_at context depth) ts
is_address context zero ts lt h = absurd (omega arith)
is_address context (suc depth) ts lt h = rw h refl

pub ruleset expressions = (is_cast, is_address)
