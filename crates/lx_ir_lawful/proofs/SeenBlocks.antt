-- Blocks and heads by a context that knows no names but those of registers.
use Rattle.std.proofs.Common.{◌≡◌, ◌⊎◌, inl, inr, ℕ, Bool, true, false, not, ◌&&◌, Option, Some, None, List, [], ◌∷◌, ◌++◌, refl, sym, ap, ◌∙◌}
use Rattle.std.specs.List.{AllZip}
use Rattle.lx_words.specs.declared.token.Token.{Token}
use Rattle.lx_ir_tokens.specs.declared.token.Tok.{Tok}
use Rattle.lx_ir.specs.declared.module.Parameter.{Parameter}
use Rattle.lx_ir.specs.declared.module.Block.{Block}
use Rattle.lx_ir.specs.declared.instr.Instr.{Instr}
use Rattle.lx_ir.specs.Operands.{is_terminator}
use Rattle.lx_ir_terms.specs.Context.{Context}
use Rattle.lx_ir_calls.specs.declared.intrinsics.TextForm.{TextForm}
use Rattle.lx_ir_statements.specs.declared.head.Head.{Head}
use Rattle.lx_ir_statements.specs.Parameters.{no_parameters, with_parameter}
use Rattle.lx_ir_statements.specs.HeadGrammar.{AreFurtherParameters, AreParameters, IsHead}
use Rattle.lx_ir_statements.specs.Blocks.{given, with_register}
use Rattle.lx_ir_statements.specs.BlockGrammar.{IsLine, AreInstrs, is_run, IsRun, IsLabelled, IsUnlabelled, IsFirst, AreFurtherBlocks, AreBlocks, IsBody}
use Rattle.lx_ir_lawful.specs.Alike.{knowing_registers, AlikeInstrs, AlikeBlocks}
use Rattle.lx_ir_lawful.proofs.SeenForms.{instr_seen}

module _ (c : Context) (registers : List (Option ℕ)) where
  abbrev d : Context
  d = knowing_registers c.names registers

  -- Heads.

  further_parameters_seen : (ps : List Parameter) (head last : Head) (ts : List Tok) → AreFurtherParameters c head ps last ts → AreFurtherParameters d head ps last ts
  further_parameters_seen [] head last ts h = h
  further_parameters_seen (p ∷ ps) head last ts (number, fresh, (f, b, m, (f2, b2, one, more, w2), w)) =
      (number, fresh, (f, b, m, (f2, b2, one, further_parameters_seen ps (with_parameter head number p.name p.ty) last b2 more, w2), w))

  parameters_seen : (ps : List Parameter) (last : Head) (ts : List Tok) → AreParameters c ps last ts → AreParameters d ps last ts
  parameters_seen [] last ts h = h
  parameters_seen (p ∷ ps) last ts (number, (f, b, one, more, w)) =
      (number, (f, b, one, further_parameters_seen ps (with_parameter no_parameters number p.name p.ty) last b more, w))

  pub head_seen : (head : Head) (ts : List Tok) → IsHead c head ts → IsHead d head ts
  head_seen head ts (f, b, o, (f2, b2, ps, m, w2), w) = (f, b, o, (f2, b2, parameters_seen head.params head f2 ps, m, w2), w)

  -- Blocks.

  module _ (form : TextForm) (places : List Token) where
    line_seen : (i : Instr) (ts us : List Tok) → IsLine c form places i ts us → (j : Instr) × IsLine d form places j ts us × AlikeInstrs c d i j
    line_seen i ts us (h, l) = let o = instr_seen c registers form i.op ts h in (record { op = o.0; line = i.line }, (o.1, l), (o.2, refl))

    instrs_seen : (is : List Instr) (first last : _) (ts us : List Tok) → AreInstrs c form places is first last ts us → (js : List Instr) × AreInstrs d form places js first last ts us × AllZip (AlikeInstrs c d) is js
    instrs_seen [] first last ts us h = ([], h, tt)
    instrs_seen (i ∷ is) first last ts us (f, b, one, fresh, more, w) =
        let j = line_seen i f (b ++ us) one in
        let js = instrs_seen is (with_register first (given f)) last b us more in
        (j.0 ∷ js.0, (f, b, j.1, fresh, js.1, w), (j.2, js.2))

    both : (a b x y : Bool) → a ≡ b → x ≡ y → (not a && x) ≡ (not b && y)
    both a b x y e h = ap (λ v. not v && x) e ∙ ap (λ v. not b && v) h

    runs_alike : (is js : List Instr) → AllZip (AlikeInstrs c d) is js → is_run is ≡ is_run js
    runs_alike [] [] h = refl
    runs_alike [] (j ∷ js) h = absurd h
    runs_alike (i ∷ is) [] h = absurd h
    runs_alike (i ∷ []) (j ∷ []) h = refl
    runs_alike (i ∷ []) (j ∷ k ∷ js) h = absurd h.1
    runs_alike (i ∷ k ∷ is) (j ∷ []) h = absurd h.1
    runs_alike (i ∷ k ∷ is) (j ∷ l ∷ js) h = both (is_terminator i.op) (is_terminator j.op) (is_run (k ∷ is)) (is_run (l ∷ js)) h.0.0.ends (runs_alike (k ∷ is) (l ∷ js) h.1)

    run_seen : (is : List Instr) (first last : _) (ts us : List Tok) → IsRun c form places is first last ts us → (js : List Instr) × IsRun d form places js first last ts us × AllZip (AlikeInstrs c d) is js
    run_seen is first last ts us (r, h) = let js = instrs_seen is first last ts us h in (js.0, (sym (runs_alike is js.0 js.2) ∙ r, js.1), js.2)

    labelled_seen : (x : Block) (first last : _) (ts us : List Tok) → IsLabelled c form places x first last ts us → (y : Block) × IsLabelled d form places y first last ts us × AlikeBlocks c d x y
    labelled_seen x first last ts us (l, m, back, k, colon, name, fresh, run, w) =
        let js = run_seen x.instrs _ last back us run in
        (record { name = x.name; instrs = js.0 }, (l, m, back, k, colon, name, fresh, js.1, w), (refl, js.2))

    first_seen : (numbered : ℕ) (x : Block) (first last : _) (ts us : List Tok) → IsFirst c form places numbered x first last ts us → (y : Block) × IsFirst d form places numbered y first last ts us × AlikeBlocks c d x y
    first_seen numbered x first last ts us (inl h) = let y = labelled_seen x first last ts us h in (y.0, inl y.1, y.2)
    first_seen numbered x first last ts us (inr (none, name, run)) =
        let js = run_seen x.instrs _ last ts us run in
        (record { name = x.name; instrs = js.0 }, inr (none, name, js.1), (refl, js.2))

    further_blocks_seen : (xs : List Block) (first last : _) (ts us : List Tok) → AreFurtherBlocks c form places xs first last ts us → (ys : List Block) × AreFurtherBlocks d form places ys first last ts us × AllZip (AlikeBlocks c d) xs ys
    further_blocks_seen [] first last ts us h = ([], h, tt)
    further_blocks_seen (x ∷ xs) first last ts us (f, b, middle, one, more, w) =
        let y = labelled_seen x first middle f (b ++ us) one in
        let ys = further_blocks_seen xs middle last b us more in
        (y.0 ∷ ys.0, (f, b, middle, y.1, ys.1, w), (y.2, ys.2))

    blocks_seen : (numbered : ℕ) (params : List ℕ) (xs : List Block) (ts us : List Tok) → AreBlocks c form places numbered params xs ts us → (ys : List Block) × AreBlocks d form places numbered params ys ts us × AllZip (AlikeBlocks c d) xs ys
    blocks_seen numbered params [] ts us h = absurd h
    blocks_seen numbered params (x ∷ xs) ts us (f, b, middle, last, one, more, w) =
        let y = first_seen numbered x (record { registers = params; labels = [] }) middle f (b ++ us) one in
        let ys = further_blocks_seen xs middle last b us more in
        (y.0 ∷ ys.0, (f, b, middle, last, y.1, ys.1, w), (y.2, ys.2))

    pub body_seen : (numbered : ℕ) (params : List ℕ) (xs : List Block) (ts us : List Tok) → IsBody c form places numbered params xs ts us → (ys : List Block) × IsBody d form places numbered params ys ts us × AllZip (AlikeBlocks c d) xs ys
    body_seen numbered params xs ts us (inner, k, blocks, brace, w) =
        let ys = blocks_seen numbered params xs inner (k ∷ us) blocks in
        (ys.0, (inner, k, ys.1, brace, w), ys.2)
