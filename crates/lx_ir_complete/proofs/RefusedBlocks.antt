-- Blocks. What is read of an instruction has its line, which hangs on how many tokens follow; nothing that is read behind it hangs on that.
use Rattle.std.proofs.Common.{◌≡◌, ℕ, ◌<◌, Bool, true, false, not, Option, Some, None, List, [], ◌∷◌, ◌++◌, length, Ok, Err, refl, sym, ap, ◌∙◌, subst}
use Rattle.std.specs.Prelude.{if◌then◌else◌, ◌&&◌, ◌||◌}
use Rattle.lx_words.specs.declared.token.Token.{Token}
use Rattle.lx_words.specs.Text.{decimal_text}
use Rattle.lx_words.proofs.Tests.{and_false}
use Rattle.lx_ir_tokens.specs.declared.token.Tok.{Tok}
use Rattle.lx_ir_tokens.specs.declared.token.Mark.TheVariants.{CloseBrace, Colon}
use Rattle.lx_ir_tokens.specs.Names.{number_of}
use Rattle.lx_ir.specs.declared.module.Block.{Block}
use Rattle.lx_ir.specs.declared.instr.Instr.{Instr}
use Rattle.lx_ir.specs.declared.instr.Op.{Op}
use Rattle.lx_ir.specs.Operands.{is_terminator}
use Rattle.lx_ir_terms.specs.declared.fault.FaultKind.{FaultKind}
use Rattle.lx_ir_terms.specs.declared.fault.FaultKind.TheVariants.{Twice, Statement}
use Rattle.lx_ir_terms.specs.Context.{Context, bytes_of}
use Rattle.lx_ir_terms.specs.Reading.{Read, ◌>>=◌, at, refused, behind, is_mark, has}
use Rattle.lx_ir_terms.proofs.Parts.{bind_ok, ok_same}
use Rattle.lx_ir_constants.specs.Constants.{first_name}
use Rattle.lx_ir_calls.specs.declared.intrinsics.TextForm.{TextForm}
use Rattle.lx_ir_instructions.specs.Instructions.{instruction_at}
use Rattle.lx_ir_instructions.proofs.InstructionLaws.{instructions_found}
use Rattle.lx_ir_statements.specs.Numbers.{has_number, has_some}
use Rattle.lx_ir_statements.specs.Parameters.{local_name}
use Rattle.lx_ir_statements.specs.declared.body.Locals.{Locals}
use Rattle.lx_ir_statements.specs.declared.body.Run.{Run}
use Rattle.lx_ir_statements.specs.Blocks.{line_at, may_be_label, has_label, ends_in_label, ends_block, given, line_of_text, with_register, instr_at, Going, run_goes_on, with_instr, run_step, no_instrs, further_instrs_at, run_at, block_behind, with_label, labelled_block_at, unlabelled_block_at, first_block_at, Body, body_goes_on, body_step, further_blocks_at, some_blocks_at, close_at, blocks_at}
use Rattle.lx_ir_statements.proofs.Filled.{instr_shorter}
use Rattle.lx_ir_complete.proofs.Local.{first_of, Looks, Same, Local, Plain, pure_local, pure_plain, fault_local, end_local, bind_local, if_local, if_plain, choose_local, behind_local}
use Rattle.lx_ir_complete.proofs.Loops.{Consumes, going_local, fits}
use Rattle.lx_ir_complete.proofs.RefusedForms.{name_looks, instruction_plain}

abbrev SameRead : {A : Type 0} → Read A → Read A → Type 0
SameRead a b = a ≡ b

-- What stands next.

given_looks : (us vs : List Tok) → first_of us ≡ first_of vs → given us ≡ given vs
given_looks [] [] e = refl
given_looks [] (v ∷ vs) e = cc
given_looks (u ∷ us) [] e = cc
given_looks (u ∷ us) (v ∷ vs) e = let s : u ≡ v = cc in ap (λ (t : Tok). local_name t.kind t.name) s

ending_looks : (us vs : List Tok) → Looks us vs → ends_in_label us ≡ ends_in_label vs
ending_looks [] [] l = refl
ending_looks [] (v ∷ vs) l = let e = l.first in cc
ending_looks (u ∷ us) [] l = let e = l.first in cc
ending_looks (u ∷ []) (v ∷ []) l = let e = l.first in let s : u ≡ v = cc in ap (λ (t : Tok). may_be_label t.kind) s
ending_looks (u ∷ []) (v ∷ w ∷ vs) l = let e = l.second.some in cc
ending_looks (u ∷ t ∷ us) (v ∷ []) l = let e = l.second.some in cc
ending_looks (u ∷ t ∷ us) (v ∷ w ∷ vs) l = refl

pub label_looks : (us vs : List Tok) → Looks us vs → has_label us ≡ has_label vs
label_looks [] [] l = refl
label_looks [] (v ∷ vs) l = let e = l.first in cc
label_looks (u ∷ us) [] l = let e = l.first in cc
label_looks (u ∷ us) (v ∷ vs) l =
    let e = l.first in
    let s : u ≡ v = cc in
    ap (λ (t : Tok). may_be_label t.kind && has (is_mark Colon) us) s ∙ ap (λ b. may_be_label v.kind && b) l.second.colon

block_looks : (us vs : List Tok) → Looks us vs → ends_block us ≡ ends_block vs
block_looks [] [] l = refl
block_looks [] (v ∷ vs) l = let e = l.first in cc
block_looks (u ∷ us) [] l = let e = l.first in cc
block_looks (u ∷ us) (v ∷ vs) l =
    let e = l.first in
    let s : u ≡ v = cc in
    ap (λ (t : Tok). is_mark CloseBrace t.kind || has_label (u ∷ us)) s ∙ ap (λ b. is_mark CloseBrace v.kind || b) (label_looks (u ∷ us) (v ∷ vs) l)

refused_ok : {A : Type 0} (x : A) (us : List Tok) → SameRead {A = A} (refused []) (Ok (x, us)) → ⊥
refused_ok x us e = cc

-- What is alike, whatever lines are.

abbrev SameOp : Instr → Instr → Type 0
SameOp i j = i.op ≡ j.op

abbrev SameInstr : Instr × Locals → Instr × Locals → Type 0
SameInstr x y = (x.0.op ≡ y.0.op) × (x.1 ≡ y.1)

abbrev SameGoing : Going → Going → Type 0
SameGoing x y = (x.0.goes_on ≡ y.0.goes_on) × (x.1 ≡ y.1)

abbrev SameLocals : {A : Type 0} → A × Locals → A × Locals → Type 0
SameLocals x y = x.1 ≡ y.1

abbrev pub Anything : {A : Type 0} → A → A → Type 0
Anything x y = Unit {0}

module _ (asked : FaultKind → Bool) (context : Context) (free : context.limits ≡ None) (form : TextForm) (places : List Token) where
  -- Instructions.

  abbrev with_line : List Tok → Op × List Tok → Read Instr
  with_line ts o = Ok (record { op = o.0; line = line_at places ts }, o.1)

  line_local : Local asked SameOp (line_of_text context form places) (line_of_text context form places)
  line_local =
      bind_local asked Same SameOp (instruction_at context form) (instruction_at context form) with_line with_line (instruction_plain asked context free form)
      (λ ts vs x y l e. pure_local asked SameOp (record { op = x; line = line_at places ts }) (record { op = y; line = line_at places vs }) e)

  abbrev and_locals : Locals → Option ℕ → Instr × List Tok → Read (Instr × Locals)
  and_locals locals n i = Ok ((i.0, with_register locals n), i.1)

  abbrev instr_unless : Bool → Locals → Option ℕ → List Tok → Read (Instr × Locals)
  instr_unless b locals n ts =
      if b then Err (at Twice ts)
      else if ends_in_label ts then refused []
      else (line_of_text context form places ts >>= and_locals locals n)

  instr_by : (b : Bool) (locals : Locals) (n : Option ℕ) → Local asked SameInstr (instr_unless b locals n) (instr_unless b locals n)
  instr_by true locals n = fault_local asked SameInstr Twice
  instr_by false locals n =
      if_local asked SameInstr ends_in_label ends_in_label ending_looks (λ ts. refused []) (λ ts. refused []) (λ ts. line_of_text context form places ts >>= and_locals locals n) (λ ts. line_of_text context form places ts >>= and_locals locals n) (end_local asked SameInstr)
      (bind_local asked SameOp SameInstr (line_of_text context form places) (line_of_text context form places) (λ ts. and_locals locals n) (λ ts. and_locals locals n) line_local
      (λ ts vs x y l e. pure_local asked SameInstr (x, with_register locals n) (y, with_register locals n) (e, refl)))

  instr_local : (locals : Locals) → Local asked SameInstr (instr_at context form places locals) (instr_at context form places locals)
  instr_local locals =
      choose_local asked SameInstr given given (λ us vs l. given_looks us vs l.first) (λ n ts. instr_unless (has_some locals.registers n) locals n ts) (λ n ts. instr_unless (has_some locals.registers n) locals n ts)
      (λ n. instr_by (has_some locals.registers n) locals n)

  instr_same : (a b : Locals) → a ≡ b → Local asked SameInstr (instr_at context form places a) (instr_at context form places b)
  instr_same a b e = subst (λ c. Local asked SameInstr (instr_at context form places a) (instr_at context form places c)) e (instr_local a)

  -- Instructions one after the other.

  abbrev goes : Going → List Tok → Bool
  goes h us = run_goes_on h.0 us

  abbrev with_run : Run → (Instr × Locals) × List Tok → Read Going
  with_run run i = Ok ((with_instr run i.0.0, i.0.1), i.1)

  step_local : (s r : Going) → SameGoing s r → Local asked SameGoing (run_step context form places s) (run_step context form places r)
  step_local s r related =
      bind_local asked SameInstr SameGoing (instr_at context form places s.1) (instr_at context form places r.1) (λ ts. with_run s.0) (λ ts. with_run r.0) (instr_same s.1 r.1 related.1)
      (λ ts vs x y l e. pure_local asked SameGoing (with_instr s.0 x.0, x.1) (with_instr r.0 y.0, y.1) (ap (λ o. not (is_terminator o)) e.0, e.1))

  goes_looks : (s r : Going) → SameGoing s r → (us vs : List Tok) → Looks us vs → goes s us ≡ goes r vs
  goes_looks s r related us vs l = ap (λ b. b && not (ends_block us)) related.0 ∙ ap (λ b. r.0.goes_on && not b) (block_looks us vs l)

  -- a step takes a token at least
  line_shorter : (ts us : List Tok) (i : Instr) → line_of_text context form places ts ≡ Ok (i, us) → length us < length ts
  line_shorter ts us i e =
      let o = bind_ok (instruction_at context form ts) (with_line ts) (i, us) e in
      let k = ok_same (record { op = o.0.0; line = line_at places ts }) i o.0.1 us o.2 in
      subst (λ r. length r < length ts) k.1 (instr_shorter context form (instructions_found context form) ts o.0.1 o.0.0 o.1)

  instr_size : (b c : Bool) (locals : Locals) (n : Option ℕ) (ts us : List Tok) (x : Instr × Locals) → ends_in_label ts ≡ c → instr_unless b locals n ts ≡ Ok (x, us) → length us < length ts
  instr_size true c locals n ts us x h e = cc
  instr_size false true locals n ts us x h e = let stopped : instr_unless false locals n ts ≡ refused [] = rw h refl in absurd (refused_ok x us (sym stopped ∙ e))
  instr_size false false locals n ts us x h e =
      let goes_on : instr_unless false locals n ts ≡ (line_of_text context form places ts >>= and_locals locals n) = rw h refl in
      let i = bind_ok (line_of_text context form places ts) (and_locals locals n) (x, us) (sym goes_on ∙ e) in
      let k = ok_same (i.0.0, with_register locals n) x i.0.1 us i.2 in
      subst (λ r. length r < length ts) k.1 (line_shorter ts i.0.1 i.0.0 i.1)

  step_shorter : (s : Going) → Consumes (goes s) (run_step context form places s)
  step_shorter s ts us x g e =
      let i = bind_ok (instr_at context form places s.1 ts) (with_run s.0) (x, us) e in
      let k = ok_same (with_instr s.0 i.0.0.0, i.0.0.1) x i.0.1 us i.2 in
      subst (λ r. length r < length ts) k.1 (instr_size (has_some s.1.registers (given ts)) (ends_in_label ts) s.1 (given ts) ts i.0.1 i.0.0 refl i.1)

  further_local : (s r : Going) → SameGoing s r → Local asked SameGoing (further_instrs_at context form places s) (further_instrs_at context form places r)
  further_local = going_local goes (run_step context form places) (λ s. and_false s.0.goes_on) step_shorter asked SameGoing goes_looks step_local

  -- Blocks.

  abbrev run_said : Going × List Tok → Read (List Instr × Locals)
  run_said r = Ok ((r.0.0.instrs, r.0.1), r.1)

  run_local : (a b : Locals) → a ≡ b → Local asked SameLocals (run_at context form places a) (run_at context form places b)
  run_local a b e =
      bind_local asked SameGoing SameLocals (further_instrs_at context form places (no_instrs, a)) (further_instrs_at context form places (no_instrs, b)) (λ ts. run_said) (λ ts. run_said) (further_local (no_instrs, a) (no_instrs, b) (refl, e))
      (λ ts vs x y l h. pure_local asked SameLocals (x.0.instrs, x.1) (y.0.instrs, y.1) h.1)

  abbrev block_said : List ℕ → (List Instr × Locals) × List Tok → Read (Block × Locals)
  block_said name r = Ok ((record { name = name; instrs = r.0.0 }, r.0.1), r.1)

  block_local : (name : List ℕ) (a b : Locals) → a ≡ b → Local asked SameLocals (block_behind context form places name a) (block_behind context form places name b)
  block_local name a b e =
      bind_local asked SameLocals SameLocals (run_at context form places a) (run_at context form places b) (λ ts. block_said name) (λ ts. block_said name) (run_local a b e)
      (λ ts vs x y l h. pure_local asked SameLocals (record { name = name; instrs = x.0 }, x.1) (record { name = name; instrs = y.0 }, y.1) h)

  -- a block behind its label and the colon
  abbrev labelled : ℕ → Locals → List Tok → Read (Block × Locals)
  labelled n locals ts = block_behind context form places (bytes_of context n) (with_label locals (Some n)) (behind (behind ts))

  labelled_local : (n : ℕ) (locals : Locals) → Local asked SameLocals (labelled n locals) (labelled n locals)
  labelled_local n locals =
      behind_local asked SameLocals (λ ts. block_behind context form places (bytes_of context n) (with_label locals (Some n)) (behind ts)) (λ ts. block_behind context form places (bytes_of context n) (with_label locals (Some n)) (behind ts))
      (behind_local asked SameLocals (block_behind context form places (bytes_of context n) (with_label locals (Some n))) (block_behind context form places (bytes_of context n) (with_label locals (Some n))) (block_local (bytes_of context n) (with_label locals (Some n)) (with_label locals (Some n)) refl))

  abbrev labelled_unless : Bool → ℕ → Locals → List Tok → Read (Block × Locals)
  labelled_unless b n locals ts = if b then Err (at Twice ts) else labelled n locals ts

  labelled_by : (b : Bool) (n : ℕ) (locals : Locals) → Local asked SameLocals (labelled_unless b n locals) (labelled_unless b n locals)
  labelled_by true n locals = fault_local asked SameLocals Twice
  labelled_by false n locals = labelled_local n locals

  labelled_block_local : (a b : Locals) → a ≡ b → Local asked SameLocals (labelled_block_at context form places a) (labelled_block_at context form places b)
  labelled_block_local a b e =
      subst (λ c. Local asked SameLocals (labelled_block_at context form places a) (labelled_block_at context form places c)) e
      (choose_local asked SameLocals first_name first_name (λ us vs l. name_looks us vs l.first) (λ n ts. labelled_unless (has_number a.labels n) n a ts) (λ n ts. labelled_unless (has_number a.labels n) n a ts)
      (λ n. labelled_by (has_number a.labels n) n a))

  first_local : (numbered : ℕ) (locals : Locals) → Local asked SameLocals (first_block_at context form places numbered locals) (first_block_at context form places numbered locals)
  first_local numbered locals =
      if_local asked SameLocals has_label has_label label_looks (labelled_block_at context form places locals) (labelled_block_at context form places locals) (unlabelled_block_at context form places numbered locals) (unlabelled_block_at context form places numbered locals)
      (labelled_block_local locals locals refl) (block_local (decimal_text numbered) (with_label locals (number_of context.names (decimal_text numbered))) (with_label locals (number_of context.names (decimal_text numbered))) refl)

  -- Blocks one after the other.

  abbrev with_block : Body → (Block × Locals) × List Tok → Read Body
  with_block body b = Ok ((body.0 ++ b.0.0 ∷ [], b.0.1), b.1)

  body_step_local : (s r : Body) → SameLocals s r → Local asked SameLocals (body_step context form places s) (body_step context form places r)
  body_step_local s r related =
      bind_local asked SameLocals SameLocals (labelled_block_at context form places s.1) (labelled_block_at context form places r.1) (λ ts. with_block s) (λ ts. with_block r) (labelled_block_local s.1 r.1 related)
      (λ ts vs x y l h. pure_local asked SameLocals (s.0 ++ x.0 ∷ [], x.1) (r.0 ++ y.0 ∷ [], y.1) h)

  labelled_size : (b : Bool) (n : ℕ) (locals : Locals) (ts us : List Tok) (x : Block × Locals) → has_label ts ≡ true → labelled_unless b n locals ts ≡ Ok (x, us) → length us < length ts
  labelled_size true n locals ts us x h e = cc
  labelled_size false n locals [] us x h e = cc
  labelled_size false n locals (t ∷ ts) us x h e =
      let f = (behind_local asked SameLocals (block_behind context form places (bytes_of context n) (with_label locals (Some n))) (block_behind context form places (bytes_of context n) (with_label locals (Some n))) (block_local (bytes_of context n) (with_label locals (Some n)) (with_label locals (Some n)) refl)).ends ts us x e in
      fits f.0 ts us f.1

  body_shorter : (s : Body) → Consumes (body_goes_on s) (body_step context form places s)
  body_shorter s ts us x g e =
      let b = bind_ok (labelled_block_at context form places s.1 ts) (with_block s) (x, us) e in
      let k = ok_same (s.0 ++ b.0.0.0 ∷ [], b.0.0.1) x b.0.1 us b.2 in
      subst (λ r. length r < length ts) k.1 (labelled_size (has_number s.1.labels (first_name ts)) (first_name ts) s.1 ts b.0.1 b.0.0 g b.1)

  further_blocks_local : (s r : Body) → SameLocals s r → Local asked SameLocals (further_blocks_at context form places s) (further_blocks_at context form places r)
  further_blocks_local = going_local body_goes_on (body_step context form places) (λ s. refl) body_shorter asked SameLocals (λ s r e us vs l. label_looks us vs l) body_step_local

  abbrev further_of : Block × Locals → Body
  further_of b = (b.0 ∷ [], b.1)

  abbrev blocks_said : Body × List Tok → Read (List Block)
  blocks_said bs = Ok (bs.0.0, bs.1)

  abbrev behind_first : (Block × Locals) × List Tok → Read (List Block)
  behind_first b = further_blocks_at context form places (further_of b.0) b.1 >>= blocks_said

  some_blocks_local : (numbered : ℕ) (registers : List ℕ) → Local asked Anything (some_blocks_at context form places numbered registers) (some_blocks_at context form places numbered registers)
  some_blocks_local numbered registers =
      bind_local asked SameLocals Anything (first_block_at context form places numbered (record { registers = registers; labels = [] })) (first_block_at context form places numbered (record { registers = registers; labels = [] })) (λ ts. behind_first) (λ ts. behind_first) (first_local numbered (record { registers = registers; labels = [] }))
      (λ ts vs x y l e. bind_local asked SameLocals Anything (further_blocks_at context form places (further_of x)) (further_blocks_at context form places (further_of y)) (λ ws. blocks_said) (λ ws. blocks_said) (further_blocks_local (further_of x) (further_of y) e)
      (λ ws zs p q k h. pure_local asked Anything p.0 q.0 tt))

  close_plain : Plain asked close_at
  close_plain =
      if_plain asked (is_mark CloseBrace) (λ ts. Ok (tt, behind ts)) (λ ts. if ends_in_label ts then refused [] else refused ts) (behind_local asked Same (λ ts. Ok (tt, ts)) (λ ts. Ok (tt, ts)) (pure_plain asked tt))
      (if_local asked Same ends_in_label ends_in_label ending_looks (λ ts. refused []) (λ ts. refused []) (λ ts. refused ts) (λ ts. refused ts) (end_local asked Same) (fault_local asked Same Statement))

  abbrev closed_by : List Block → Unit {0} × List Tok → Read (List Block)
  closed_by bs c = Ok (bs, c.1)

  abbrev to_close : List Block × List Tok → Read (List Block)
  to_close b = close_at b.1 >>= closed_by b.0

  pub blocks_local : (numbered : ℕ) (registers : List ℕ) → Local asked Anything (blocks_at context form places numbered registers) (blocks_at context form places numbered registers)
  blocks_local numbered registers =
      bind_local asked Anything Anything (some_blocks_at context form places numbered registers) (some_blocks_at context form places numbered registers) (λ ts. to_close) (λ ts. to_close) (some_blocks_local numbered registers)
      (λ ts vs x y l e. bind_local asked Same Anything close_at close_at (λ ws. closed_by x) (λ ws. closed_by y) close_plain (λ ws zs p q k h. pure_local asked Anything x y tt))
