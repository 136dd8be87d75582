-- Statements by a context that knows no names but those of registers.
use Rattle.std.proofs.Common.{◌≡◌, ◌⊎◌, inl, inr, ℕ, Option, Some, None, List, [], ◌∷◌, refl, ap, ◌∙◌}
use Rattle.lx_words.specs.declared.token.Token.{Token}
use Rattle.lx_ir_tokens.specs.declared.token.Tok.{Tok}
use Rattle.lx_ir.specs.IrType.{Named}
use Rattle.lx_ir_terms.specs.Context.{Context, nothing}
use Rattle.lx_ir_terms.specs.Types.{depth_limit}
use Rattle.lx_ir_calls.specs.declared.intrinsics.TextForm.{TextForm}
use Rattle.lx_ir_statements.specs.declared.form.Statement.{Statement}
use Rattle.lx_ir_statements.specs.declared.form.Statement.TheVariants as statements
use Rattle.lx_ir_statements.specs.declared.defined.Defined.{Defined}
use Rattle.lx_ir_statements.specs.Grammar.{IsStatement}
use Rattle.lx_ir_lawful.specs.Alike.{knowing_registers, AlikeStatements}
use Rattle.lx_ir_lawful.proofs.SeenTypes.{unnamed, unnamed_struct, written_seen}
use Rattle.lx_ir_lawful.proofs.SeenInits.{init_seen}
use Rattle.lx_ir_lawful.proofs.SeenBlocks.{head_seen, body_seen}

module _ (c : Context) (registers : List (Option ℕ)) (form : TextForm) (places : List Token) (defined : Defined) where
  abbrev d : Context
  d = knowing_registers c.names registers

  pub statement_seen : (s : Statement) (ts us : List Tok) → IsStatement c form places defined s ts us → (t : Statement) × IsStatement d form places defined t ts us × AlikeStatements c d s t
  statement_seen (statements.Type name ty) ts us (fresh, (f, b, (t, k, local, ty_name, w3), (f2, b2, equal, (f4, b4, word, (struct, body), w4), w2), w)) = (
    statements.Type name (unnamed ty),
    (fresh, (f, b, (t, nothing, local, written_seen c registers (Named k) (t ∷ []) ty_name, w3), (f2, b2, equal, (f4, b4, word, (unnamed_struct ty struct, written_seen c registers ty b4 body), w4), w2), w)),
    refl,
  )
  statement_seen (statements.Global name constant ty init) ts us (fresh, (f, b, symbol, (f2, b2, equal, (f3, b3, words, (f4, b4, storage, (f5, b5, of, (f6, b6, i, align, w6), w5), w4), w3), w2), w)) =
      let j = init_seen c registers depth_limit ty init f6 i in (
        statements.Global name constant (unnamed ty) j.0,
        (fresh, (f, b, symbol, (f2, b2, equal, (f3, b3, words, (f4, b4, storage, (f5, b5, written_seen c registers ty f5 of, (f6, b6, j.1, align, w6), w5), w4), w3), w2), w)),
        (refl, refl),
      )
  statement_seen (statements.Import name ret params) ts us h = (statements.Import name ret params, h, (refl, refl, refl))
  statement_seen (statements.Function name ret params blocks) ts us (fresh, plain, (head, front, back, (f, b, word, (f2, b2, result, (f3, b3, symbol, (f4, b4, opened, rest, w4), w3), w2), w), body, same, whole)) =
      let ys = body_seen c registers form places head.numbered head.registers blocks back us body in (
        statements.Function name ret params ys.0,
        (fresh, plain, (head, front, back, (f, b, word, (f2, b2, result, (f3, b3, symbol, (f4, b4, head_seen c registers head f4 opened, rest, w4), w3), w2), w), ys.1, same, whole)),
        (refl, refl, refl, ys.2),
      )
