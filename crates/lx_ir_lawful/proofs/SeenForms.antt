-- Instructions by a context that knows no names but those of registers.
use Rattle.std.proofs.Common.{◌≡◌, ℕ, true, Option, Some, None, List, [], ◌∷◌, refl, subst}
use Rattle.std.specs.Prelude.{map}
use Rattle.std.specs.List.{AllZip}
use Rattle.lx_ir_tokens.specs.declared.token.Tok.{Tok}
use Rattle.lx_words.specs.declared.word.Width.TheVariants.{W1}
use Rattle.lx_ir.specs.declared.types.Scalar.TheVariants.{Int}
use Rattle.lx_ir.specs.declared.module.Symbol.TheVariants.{Global}
use Rattle.lx_ir.specs.declared.instr.Op.{Op}
use Rattle.lx_ir.specs.declared.instr.Op.TheVariants as op
use Rattle.lx_ir_terms.specs.Context.{Context, nothing, register_number}
use Rattle.lx_ir_operands.specs.Operands.{argument}
use Rattle.lx_ir_operands.specs.Grammar.{IsCase, IsEdge, IsTyped}
use Rattle.lx_ir_calls.specs.declared.intrinsics.TextForm.{TextForm}
use Rattle.lx_ir_instructions.specs.Grammar.{IsForm, IsInstr}
use Rattle.lx_ir_lawful.specs.Alike.{knowing_registers, AlikeArguments, AlikeOps}
use Rattle.lx_ir_lawful.proofs.SeenTypes.{unnamed, written_seen}
use Rattle.lx_ir_lawful.proofs.SeenConstants.{value_seen}
use Rattle.lx_ir_lawful.proofs.SeenInits.{items_seen}
use Rattle.lx_ir_lawful.proofs.SeenOperands.{row_seen, AlikeEdges, AlikeCases, typed_seen, value_typed, second_seen, address_seen, again_seen, edge_seen, case_seen, edges_read, cases_read}
use Rattle.lx_ir_lawful.proofs.SeenCalls.{copy_seen, fill_seen, guard_seen, check_seen, crossing_seen, action_seen, plain_call_seen}

module _ (c : Context) (registers : List (Option ℕ)) (form : TextForm) where
  abbrev d : Context
  d = knowing_registers c.names registers

  abbrev Seen : Op → List Tok → Type 0
  Seen o ts = (p : Op) × IsForm d form p ts × AlikeOps c d o p

  pub form_seen : (o : Op) (ts : List Tok) → IsForm c form o ts → Seen o ts
  form_seen (op.Binary to o ty x y) ts (f1, b1, (t, k, e, g), (f2, b2, m, (f3, b3, first, (f4, b4, (f5, b5, flags, p, w5), q, w4), w3), w2), w1) =
      let u = value_typed c registers ty x b5 p in
      let v = second_seen c registers ty y b4 q in (
        op.Binary (register_number d t.name) o ty u.0 v.0,
        (f1, b1, (t, k, refl, g), (f2, b2, m, (f3, b3, first, (f4, b4, (f5, b5, flags, u.1, w5), v.1, w4), w3), w2), w1),
        record { given = (t.name, e, refl); read = (u.2, (v.2, tt)); ends = refl; lines = refl },
      )
  form_seen (op.Compare to r ty x y) ts (f1, b1, (t, k, e, g), (f2, b2, m, (f3, b3, first, (f4, b4, flags, (f5, b5, p, q, w5), w4), w3), w2), w1) =
      let u = value_typed c registers ty x f5 p in
      let v = second_seen c registers ty y b5 q in (
        op.Compare (register_number d t.name) r ty u.0 v.0,
        (f1, b1, (t, k, refl, g), (f2, b2, m, (f3, b3, first, (f4, b4, flags, (f5, b5, u.1, v.1, w5), w4), w3), w2), w1),
        record { given = (t.name, e, refl); read = (u.2, (v.2, tt)); ends = refl; lines = refl },
      )
  form_seen (op.Convert to how from x into) ts (f1, b1, (t, k, e, g), (f2, b2, m, (word, (f3, b3, first, (f4, b4, (f5, b5, flags, p, w5), q, w4), w3), is), w2), w1) =
      let u = value_typed c registers from x b5 p in (
        op.Convert (register_number d t.name) how from u.0 into,
        (f1, b1, (t, k, refl, g), (f2, b2, m, (word, (f3, b3, first, (f4, b4, (f5, b5, flags, u.1, w5), q, w4), w3), is), w2), w1),
        record { given = (t.name, e, refl); read = (u.2, tt); ends = refl; lines = refl },
      )
  form_seen (op.Unary to o ty x) ts (f1, b1, (t, k, e, g), (f2, b2, m, (f3, b3, first, (f5, b5, flags, p, w5), w3), w2), w1) =
      let u = value_typed c registers ty x b5 p in (
        op.Unary (register_number d t.name) o ty u.0,
        (f1, b1, (t, k, refl, g), (f2, b2, m, (f3, b3, first, (f5, b5, flags, u.1, w5), w3), w2), w1),
        record { given = (t.name, e, refl); read = (u.2, tt); ends = refl; lines = refl },
      )
  form_seen (op.Select to z ty x y) ts (f1, b1, (t, k, e, g), (f2, b2, m, (f3, b3, first, (f4, b4, flags, (f5, b5, p, (f6, b6, comma, (f7, b7, q, r, w7), w6), w5), w4), w3), w2), w1) =
      let s = value_seen c registers (Int W1) z f5 p in
      let u = value_typed c registers ty x f7 q in
      let v = again_seen c registers ty y b7 r in (
        op.Select (register_number d t.name) s.0 ty u.0 v.0,
        (f1, b1, (t, k, refl, g), (f2, b2, m, (f3, b3, first, (f4, b4, flags, (f5, b5, s.1, (f6, b6, comma, (f7, b7, u.1, v.1, w7), w6), w5), w4), w3), w2), w1),
        record { given = (t.name, e, refl); read = (s.2, (u.2, (v.2, tt))); ends = refl; lines = refl },
      )
  form_seen (op.Phi to ty edges) ts (f1, b1, (t, k, e, g), (f2, b2, m, (f3, b3, first, (f4, b4, flags, p, w4), w3), w2), w1) =
      let es = items_seen (IsEdge c ty) (IsEdge d ty) (AlikeEdges c registers) (edge_seen c registers ty) edges b4 p in (
        op.Phi (register_number d t.name) ty es.0,
        (f1, b1, (t, k, refl, g), (f2, b2, m, (f3, b3, first, (f4, b4, flags, es.1, w4), w3), w2), w1),
        record { given = (t.name, e, refl); read = edges_read c registers ty edges es.0 es.2; ends = refl; lines = refl },
      )
  form_seen (op.Alloca to ty) ts (f1, b1, (t, k, e, g), (f2, b2, m, (f3, b3, first, (f4, b4, (f5, b5, flags, p, w5), q, w4), w3), w2), w1) = (
    op.Alloca (register_number d t.name) (unnamed ty),
    (f1, b1, (t, k, refl, g), (f2, b2, m, (f3, b3, first, (f4, b4, (f5, b5, flags, written_seen c registers ty b5 p, w5), q, w4), w3), w2), w1),
    record { given = (t.name, e, refl); read = tt; ends = refl; lines = refl },
  )
  form_seen (op.Load to ty x) ts (f1, b1, (t, k, e, g), (f2, b2, m, (f3, b3, first, (f4, b4, flags, (f5, b5, p, q, w5), w4), w3), w2), w1) =
      let u = address_seen c registers x f5 p in (
        op.Load (register_number d t.name) ty u.0,
        (f1, b1, (t, k, refl, g), (f2, b2, m, (f3, b3, first, (f4, b4, flags, (f5, b5, u.1, q, w5), w4), w3), w2), w1),
        record { given = (t.name, e, refl); read = (u.2, tt); ends = refl; lines = refl },
      )
  form_seen (op.Store ty x y) ts (f3, b3, first, (f4, b4, (f5, b5, flags, p, w5), (f6, b6, q, r, w6), w4), w3) =
      let u = value_typed c registers ty x b5 p in
      let v = address_seen c registers y f6 q in (
        op.Store ty u.0 v.0,
        (f3, b3, first, (f4, b4, (f5, b5, flags, u.1, w5), (f6, b6, v.1, r, w6), w4), w3),
        record { given = tt; read = (u.2, (v.2, tt)); ends = refl; lines = refl },
      )
  form_seen (op.GetElementPtr to ty x is) ts (f1, b1, (t, k, e, g), (f2, b2, m, (f3, b3, first, (f4, b4, (f5, b5, flags, p, w5), (f6, b6, q, (f7, b7, comma, r, w7), w6), w4), w3), w2), w1) =
      let u = address_seen c registers x f6 q in
      let js = items_seen (IsTyped c) (IsTyped d) (AlikeArguments c d) (typed_seen c registers) is b7 r in (
        op.GetElementPtr (register_number d t.name) (unnamed ty) u.0 js.0,
        (f1, b1, (t, k, refl, g), (f2, b2, m, (f3, b3, first, (f4, b4, (f5, b5, flags, written_seen c registers ty b5 p, w5), (f6, b6, u.1, (f7, b7, comma, js.1, w7), w6), w4), w3), w2), w1),
        record { given = (t.name, e, refl); read = (u.2, js.2); ends = refl; lines = refl },
      )
  form_seen (op.Call None ret f args) ts (f1, b1, tails, (f2, b2, first, (f3, b3, result, (f4, b4, p, words, w4), w3), w2), w1) =
      let x = plain_call_seen c registers form f args f4 p in (
        op.Call None ret x.0 x.1,
        (f1, b1, tails, (f2, b2, first, (f3, b3, result, (f4, b4, x.2, words, w4), w3), w2), w1),
        record { given = tt; read = x.3; ends = refl; lines = refl },
      )
  form_seen (op.Call (Some to) ret f args) ts (f5, b5, (t, k, e, g), (f6, b6, m, (f1, b1, tails, (f2, b2, first, (f3, b3, result, (f4, b4, p, words, w4), w3), w2), w1), w6), w5) =
      let x = plain_call_seen c registers form f args f4 p in (
        op.Call (Some (register_number d t.name)) ret x.0 x.1,
        (f5, b5, (t, k, refl, g), (f6, b6, m, (f1, b1, tails, (f2, b2, first, (f3, b3, result, (f4, b4, x.2, words, w4), w3), w2), w1), w6), w5),
        record { given = (t.name, e, refl); read = x.3; ends = refl; lines = refl },
      )
  form_seen (op.CopyBlock moves x y len) ts (f1, b1, tails, (f2, b2, first, (f3, b3, result, (f4, b4, (width, is, (f5, b5, name, p, w5)), words, w4), w3), w2), w1) =
      let v = copy_seen c registers width x y len.value b5 p in (
        op.CopyBlock moves v.0 v.1 (argument len.ty v.2),
        (f1, b1, tails, (f2, b2, first, (f3, b3, result, (f4, b4, (width, is, (f5, b5, name, v.3, w5)), words, w4), w3), w2), w1),
        record { given = tt; read = (v.4, (v.5, (v.6, tt))); ends = refl; lines = refl },
      )
  form_seen (op.FillBlock x y len) ts (f1, b1, tails, (f2, b2, first, (f3, b3, result, (f4, b4, (width, is, (f5, b5, name, p, w5)), words, w4), w3), w2), w1) =
      let v = fill_seen c registers width x y len.value b5 p in (
        op.FillBlock v.0 v.1 (argument len.ty v.2),
        (f1, b1, tails, (f2, b2, first, (f3, b3, result, (f4, b4, (width, is, (f5, b5, name, v.3, w5)), words, w4), w3), w2), w1),
        record { given = tt; read = (v.4, (v.5, (v.6, tt))); ends = refl; lines = refl },
      )
  form_seen (op.Ret None) ts h = (op.Ret None, h, record { given = tt; read = tt; ends = refl; lines = refl })
  form_seen (op.Ret (Some x)) ts (f1, b1, first, (f2, b2, flags, p, w2), w1) =
      let u = typed_seen c registers x b2 p in
      (op.Ret (Some u.0), (f1, b1, first, (f2, b2, flags, u.1, w2), w1), record { given = tt; read = (u.2, tt); ends = refl; lines = refl })
  form_seen (op.Jump l) ts h = (op.Jump l, h, record { given = tt; read = tt; ends = refl; lines = refl })
  form_seen (op.Branch x l r) ts (f1, b1, first, (f2, b2, flags, (f3, b3, p, rest, w3), w2), w1) =
      let u = value_seen c registers (Int W1) x f3 p in
      (op.Branch u.0 l r, (f1, b1, first, (f2, b2, flags, (f3, b3, u.1, rest, w3), w2), w1), record { given = tt; read = (u.2, tt); ends = refl; lines = refl })
  form_seen (op.Switch ty x otherwise cases) ts (f1, b1, first, (f2, b2, (f3, b3, flags, p, w3), (f4, b4, l, (f5, b5, o, (f6, b6, q, m, w6), w5), w4), w2), w1) =
      let u = value_typed c registers ty x b3 p in
      let ks = row_seen (IsCase c ty) (IsCase d ty) (AlikeCases c registers) (case_seen c registers ty) cases f6 q in (
        op.Switch ty u.0 otherwise ks.0,
        (f1, b1, first, (f2, b2, (f3, b3, flags, u.1, w3), (f4, b4, l, (f5, b5, o, (f6, b6, ks.1, m, w6), w5), w4), w2), w1),
        record { given = tt; read = (u.2, cases_read c registers ty cases ks.0 ks.2); ends = refl; lines = refl },
      )
  form_seen op.Unreachable ts h = (op.Unreachable, h, record { given = tt; read = tt; ends = refl; lines = refl })
  form_seen (op.Guard x n narrow) ts (f1, b1, tails, (f2, b2, first, (f3, b3, result, (f4, b4, (f5, b5, name, p, w5), words, w4), w3), w2), w1) =
      let v = guard_seen c registers narrow x n b5 p in (
        op.Guard v.0 v.1 narrow,
        (f1, b1, tails, (f2, b2, first, (f3, b3, result, (f4, b4, (f5, b5, name, v.2, w5), words, w4), w3), w2), w1),
        record { given = tt; read = (v.3, (v.4, tt)); ends = refl; lines = refl },
      )
  form_seen (op.Check x) ts (f1, b1, tails, (f2, b2, first, (f3, b3, result, (f4, b4, (f5, b5, name, p, w5), words, w4), w3), w2), w1) =
      let v = check_seen c registers x b5 p in (
        op.Check v.0,
        (f1, b1, tails, (f2, b2, first, (f3, b3, result, (f4, b4, (f5, b5, name, v.1, w5), words, w4), w3), w2), w1),
        record { given = tt; read = (v.2, tt); ends = refl; lines = refl },
      )
  form_seen (op.Enter s) ts (f1, b1, tails, (f2, b2, first, (f3, b3, result, (f4, b4, (f5, b5, name, p, w5), words, w4), w3), w2), w1) = (
    op.Enter (Global nothing),
    (f1, b1, tails, (f2, b2, first, (f3, b3, result, (f4, b4, (f5, b5, name, crossing_seen c registers s b5 p, w5), words, w4), w3), w2), w1),
    record { given = tt; read = tt; ends = refl; lines = refl },
  )
  form_seen (op.Leave s) ts (f1, b1, tails, (f2, b2, first, (f3, b3, result, (f4, b4, (f5, b5, name, p, w5), words, w4), w3), w2), w1) = (
    op.Leave (Global nothing),
    (f1, b1, tails, (f2, b2, first, (f3, b3, result, (f4, b4, (f5, b5, name, crossing_seen c registers s b5 p, w5), words, w4), w3), w2), w1),
    record { given = tt; read = tt; ends = refl; lines = refl },
  )
  form_seen (op.Pre s x) ts (f1, b1, tails, (f2, b2, first, (f3, b3, result, (f4, b4, (f5, b5, name, p, w5), words, w4), w3), w2), w1) = (
    op.Pre (Global nothing) x,
    (f1, b1, tails, (f2, b2, first, (f3, b3, result, (f4, b4, (f5, b5, name, action_seen c registers s x b5 p, w5), words, w4), w3), w2), w1),
    record { given = tt; read = tt; ends = refl; lines = refl },
  )
  form_seen (op.Post s x) ts (f1, b1, tails, (f2, b2, first, (f3, b3, result, (f4, b4, (f5, b5, name, p, w5), words, w4), w3), w2), w1) = (
    op.Post (Global nothing) x,
    (f1, b1, tails, (f2, b2, first, (f3, b3, result, (f4, b4, (f5, b5, name, action_seen c registers s x b5 p, w5), words, w4), w3), w2), w1),
    record { given = tt; read = tt; ends = refl; lines = refl },
  )

  pub instr_seen : (o : Op) (ts : List Tok) → IsInstr c form o ts → (p : Op) × IsInstr d form p ts × AlikeOps c d o p
  instr_seen o ts (f, b, x, meta, w) = let p = form_seen o f x in (p.0, (f, b, p.1, meta, w), p.2)
