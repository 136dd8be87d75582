-- Blocks, heads and statements where no limits are asked.
use Rattle.std.proofs.Common.{inl, inr, ℕ, List, [], ◌∷◌, ◌++◌}
use Rattle.lx_words.specs.declared.token.Token.{Token}
use Rattle.lx_ir_tokens.specs.declared.token.Tok.{Tok}
use Rattle.lx_ir.specs.declared.module.Parameter.{Parameter}
use Rattle.lx_ir.specs.declared.module.Block.{Block}
use Rattle.lx_ir.specs.declared.instr.Instr.{Instr}
use Rattle.lx_ir.specs.IrType.{Named}
use Rattle.lx_ir_terms.specs.Context.{Context}
use Rattle.lx_ir_terms.specs.Types.{depth_limit}
use Rattle.lx_ir_calls.specs.declared.intrinsics.TextForm.{TextForm}
use Rattle.lx_ir_statements.specs.declared.head.Head.{Head}
use Rattle.lx_ir_statements.specs.Parameters.{no_parameters, with_parameter}
use Rattle.lx_ir_statements.specs.HeadGrammar.{AreFurtherParameters, AreParameters, IsHead}
use Rattle.lx_ir_statements.specs.declared.body.Locals.{Locals}
use Rattle.lx_ir_statements.specs.Blocks.{given, with_register}
use Rattle.lx_ir_statements.specs.BlockGrammar.{AreInstrs, IsLabelled, IsFirst, AreFurtherBlocks, AreBlocks, IsBody}
use Rattle.lx_ir_statements.specs.declared.form.Statement.{Statement}
use Rattle.lx_ir_statements.specs.declared.form.Statement.TheVariants as statements
use Rattle.lx_ir_statements.specs.declared.defined.Defined.{Defined}
use Rattle.lx_ir_statements.specs.Grammar.{IsStatement}
use Rattle.lx_ir_complete.specs.Unlimited.{unlimited}
use Rattle.lx_ir_complete.proofs.FreeTypes.{written_free}
use Rattle.lx_ir_complete.proofs.FreeConstants.{init_free}
use Rattle.lx_ir_complete.proofs.FreeForms.{instr_free}

module _ (c : Context) where
  abbrev d : Context
  d = unlimited c

  -- Heads.

  further_parameters_free : (ps : List Parameter) (head last : Head) (ts : List Tok) → AreFurtherParameters c head ps last ts → AreFurtherParameters d head ps last ts
  further_parameters_free [] head last ts h = h
  further_parameters_free (p ∷ ps) head last ts (number, fresh, (f, b, m, (f2, b2, one, more, w2), w)) =
      (number, fresh, (f, b, m, (f2, b2, one, further_parameters_free ps (with_parameter head number p.name p.ty) last b2 more, w2), w))

  parameters_free : (ps : List Parameter) (last : Head) (ts : List Tok) → AreParameters c ps last ts → AreParameters d ps last ts
  parameters_free [] last ts h = h
  parameters_free (p ∷ ps) last ts (number, (f, b, one, more, w)) =
      (number, (f, b, one, further_parameters_free ps (with_parameter no_parameters number p.name p.ty) last b more, w))

  head_free : (head : Head) (ts : List Tok) → IsHead c head ts → IsHead d head ts
  head_free head ts (f, b, o, (f2, b2, ps, m, w2), w) = (f, b, o, (f2, b2, parameters_free head.params head f2 ps, m, w2), w)

  -- Blocks.

  module _ (form : TextForm) (places : List Token) where
    instrs_free : (is : List Instr) (first last : Locals) (ts us : List Tok) → AreInstrs c form places is first last ts us → AreInstrs d form places is first last ts us
    instrs_free [] first last ts us h = h
    instrs_free (i ∷ is) first last ts us (f, b, (one, line), fresh, more, w) =
        (f, b, (instr_free c form i.op f one, line), fresh, instrs_free is (with_register first (given f)) last b us more, w)

    labelled_free : (x : Block) (first last : Locals) (ts us : List Tok) → IsLabelled c form places x first last ts us → IsLabelled d form places x first last ts us
    labelled_free x first last ts us (l, m, back, k, colon, name, fresh, (run, are), w) = (l, m, back, k, colon, name, fresh, (run, instrs_free x.instrs _ last back us are), w)

    first_free : (numbered : ℕ) (x : Block) (first last : Locals) (ts us : List Tok) → IsFirst c form places numbered x first last ts us → IsFirst d form places numbered x first last ts us
    first_free numbered x first last ts us (inl h) = inl (labelled_free x first last ts us h)
    first_free numbered x first last ts us (inr (none, name, (run, are))) = inr (none, name, (run, instrs_free x.instrs _ last ts us are))

    further_blocks_free : (xs : List Block) (first last : Locals) (ts us : List Tok) → AreFurtherBlocks c form places xs first last ts us → AreFurtherBlocks d form places xs first last ts us
    further_blocks_free [] first last ts us h = h
    further_blocks_free (x ∷ xs) first last ts us (f, b, middle, one, more, w) =
        (f, b, middle, labelled_free x first middle f (b ++ us) one, further_blocks_free xs middle last b us more, w)

    blocks_free : (numbered : ℕ) (params : List ℕ) (xs : List Block) (ts us : List Tok) → AreBlocks c form places numbered params xs ts us → AreBlocks d form places numbered params xs ts us
    blocks_free numbered params [] ts us h = h
    blocks_free numbered params (x ∷ xs) ts us (f, b, middle, last, one, more, w) =
        (f, b, middle, last, first_free numbered x (record { registers = params; labels = [] }) middle f (b ++ us) one, further_blocks_free xs middle last b us more, w)

    body_free : (numbered : ℕ) (params : List ℕ) (xs : List Block) (ts us : List Tok) → IsBody c form places numbered params xs ts us → IsBody d form places numbered params xs ts us
    body_free numbered params xs ts us (inner, k, blocks, brace, w) = (inner, k, blocks_free numbered params xs inner (k ∷ us) blocks, brace, w)

    -- Statements.

    pub statement_free : (defined : Defined) (s : Statement) (ts us : List Tok) → IsStatement c form places defined s ts us → IsStatement d form places defined s ts us
    statement_free defined (statements.Type name ty) ts us (fresh, (f, b, (t, k, local, ty_name, w3), (f2, b2, equal, (f4, b4, word, (struct, body), w4), w2), w)) =
        (fresh, (f, b, (t, k, local, written_free c (Named k) (t ∷ []) ty_name, w3), (f2, b2, equal, (f4, b4, word, (struct, written_free c ty b4 body), w4), w2), w))
    statement_free defined (statements.Global name constant ty init) ts us (fresh, (f, b, symbol, (f2, b2, equal, (f3, b3, words, (f4, b4, storage, (f5, b5, of, (f6, b6, i, align, w6), w5), w4), w3), w2), w)) =
        (fresh, (f, b, symbol, (f2, b2, equal, (f3, b3, words, (f4, b4, storage, (f5, b5, written_free c ty f5 of, (f6, b6, init_free c depth_limit ty init f6 i, align, w6), w5), w4), w3), w2), w))
    statement_free defined (statements.Import name ret params) ts us h = h
    statement_free defined (statements.Function name ret params blocks) ts us (fresh, plain, (head, front, back, (f, b, word, (f2, b2, result, (f3, b3, symbol, (f4, b4, opened, rest, w4), w3), w2), w), body, same, whole)) =
        (fresh, plain, (head, front, back, (f, b, word, (f2, b2, result, (f3, b3, symbol, (f4, b4, head_free head f4 opened, rest, w4), w3), w2), w), body_free head.numbered head.registers blocks back us body, same, whole))
