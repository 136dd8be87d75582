-- Reading calls that write a block of memory.
use Rattle.std.specs.Prelude.{ℕ, Bool, true, false, Option, Some, None, List, Ok, if◌then◌else◌, codes, bytes_eq}
use Rattle.lx_ir_tokens.specs.declared.token.Tok.{Tok}
use Rattle.lx_ir_tokens.specs.declared.token.Kind.{Kind}
use Rattle.lx_ir_tokens.specs.declared.token.Kind.TheVariants as kinds
use Rattle.lx_ir_tokens.specs.declared.token.Mark.TheVariants.{Comma, OpenParenthesis, CloseParenthesis}
use Rattle.lx_ir_tokens.specs.declared.keyword.ConstantWord.TheVariants as constants
use Rattle.lx_ir_tokens.specs.declared.keyword.Keyword.TheVariants as keywords
use Rattle.lx_words.specs.declared.word.Width.{Width}
use Rattle.lx_words.specs.declared.word.Width.TheVariants.{W1, W8, W32, W64}
use Rattle.lx_ir.specs.declared.types.Scalar.TheVariants.{Int, Ptr}
use Rattle.lx_ir.specs.declared.instr.Op.{Op}
use Rattle.lx_ir.specs.declared.instr.Op.TheVariants as op
use Rattle.lx_ir_terms.specs.Context.{Context}
use Rattle.lx_ir_terms.specs.Reading.{Read, ◌>>=◌, pick_at, mark_at}
use Rattle.lx_ir_terms.specs.Words as passing
use Rattle.lx_ir_constants.specs.Constants.{when, word_refusal}
use Rattle.lx_ir_operands.specs.Operands.{argument}
use Rattle.lx_ir_calls.specs.declared.writes.BlockWrite.{BlockWrite}
use Rattle.lx_ir_calls.specs.declared.writes.BlockWrite.TheVariants as writes
use Rattle.lx_ir_calls.specs.Arguments.{given_type_at, given_argument_at, next_argument_at}

abbrev pub is_false_word : Kind → Bool
is_false_word (kinds.Word (keywords.Constant constants.False)) = true
is_false_word _ = false

-- `, i1 false)`; any other word in the place of `false` is outside the profile
abbrev pub not_volatile_at : List Tok → Read (Unit {0})
not_volatile_at ts = do
  c ← mark_at Comma ts
  t ← given_type_at (Int W1) c.1
  w ← passing.passed_at false t.1
  f ← pick_at (λ t. when (is_false_word t.kind)) word_refusal w.1
  mark_at CloseParenthesis f.1

-- the names whose calls are block writes
abbrev pub block_write_named : List ℕ → Option BlockWrite
block_write_named name =
    if bytes_eq name (codes "llvm.memcpy.p0.p0.i32") then Some (writes.Copy false W32)
    else if bytes_eq name (codes "llvm.memcpy.p0.p0.i64") then Some (writes.Copy false W64)
    else if bytes_eq name (codes "llvm.memmove.p0.p0.i32") then Some (writes.Copy true W32)
    else if bytes_eq name (codes "llvm.memmove.p0.p0.i64") then Some (writes.Copy true W64)
    else if bytes_eq name (codes "llvm.memset.p0.i32") then Some (writes.Fill W32)
    else if bytes_eq name (codes "llvm.memset.p0.i64") then Some (writes.Fill W64)
    else None

-- `(ptr d, ptr s, iN n, i1 false)`
abbrev pub copy_behind : Context → Bool → Width → List Tok → Read Op
copy_behind context moves w ts = do
  o ← mark_at OpenParenthesis ts
  d ← given_argument_at context Ptr o.1
  s ← next_argument_at context Ptr d.1
  n ← next_argument_at context (Int w) s.1
  v ← not_volatile_at n.1
  Ok (op.CopyBlock moves d.0 s.0 (argument (Int w) n.0), v.1)

-- `(ptr d, i8 b, iN n, i1 false)`
abbrev pub fill_behind : Context → Width → List Tok → Read Op
fill_behind context w ts = do
  o ← mark_at OpenParenthesis ts
  d ← given_argument_at context Ptr o.1
  b ← next_argument_at context (Int W8) d.1
  n ← next_argument_at context (Int w) b.1
  v ← not_volatile_at n.1
  Ok (op.FillBlock d.0 b.0 (argument (Int w) n.0), v.1)

abbrev pub block_write_behind : Context → BlockWrite → List Tok → Read Op
block_write_behind context (writes.Copy moves w) ts = copy_behind context moves w ts
block_write_behind context (writes.Fill w) ts = fill_behind context w ts
