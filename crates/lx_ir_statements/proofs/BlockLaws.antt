-- Blocks: what is in the grammar is read, and what is read is in the grammar.
use Rattle.std.proofs.Common.{◌≡◌, ℕ, zero, suc, ◌+◌, ◌≤◌, ◌<◌, Bool, true, false, Option, Some, List, [], ◌∷◌, ◌++◌, length, Ok, Err, ◌⊎◌, inl, inr, refl, sym, ap, ◌∙◌, subst, append_assoc, arith}
use Rattle.std.specs.Prelude.{if◌then◌else◌}
use Rattle.std.proofs.lemmas.List.{length-append, append-nil}
use Rattle.std.proofs.lemmas.Bool.{and_parts}
use Rattle.lx_words.specs.declared.token.Token.{Token}
use Rattle.lx_words.specs.Text.{decimal_text}
use Rattle.lx_ir_tokens.specs.declared.token.Tok.{Tok}
use Rattle.lx_ir_tokens.specs.declared.token.Mark.TheVariants.{Colon, CloseBrace}
use Rattle.lx_ir_tokens.specs.Names.{number_of}
use Rattle.lx_ir.specs.declared.instr.Instr.{Instr}
use Rattle.lx_ir.specs.declared.module.Block.{Block}
use Rattle.lx_ir_terms.specs.declared.fault.FaultKind.TheVariants.{Twice}
use Rattle.lx_ir_terms.specs.Context.{Context, bytes_of}
use Rattle.lx_ir_terms.specs.Reading.{Read, ◌>>=◌, at, refused, behind, has, is_mark}
use Rattle.lx_ir_terms.proofs.Marks.{next_token}
use Rattle.lx_ir_terms.proofs.Parts.{bind_ok, ok_same}
use Rattle.lx_ir_constants.specs.Constants.{first_name}
use Rattle.lx_ir_calls.specs.declared.intrinsics.TextForm.{TextForm}
use Rattle.lx_ir_instructions.specs.Laws.{MayFollow}
use Rattle.lx_ir_statements.specs.declared.body.Locals.{Locals}
use Rattle.lx_ir_statements.specs.Numbers.{has_number}
use Rattle.lx_ir_statements.specs.Going.{going_at}
use Rattle.lx_ir_statements.specs.Blocks.{may_be_label, has_label, ends_in_label, ends_block, run_at, with_label, block_behind, labelled_block_at, unlabelled_block_at, first_block_at, Body, body_goes_on, body_step, further_blocks_at, some_blocks_at, close_at, blocks_at}
use Rattle.lx_ir_statements.specs.BlockGrammar.{IsRun, IsLabelled, IsUnlabelled, IsFirst, AreFurtherBlocks, AreBlocks, IsBody}
use Rattle.lx_ir_statements.proofs.Starts.{label_follows, brace_follows, label_ends, brace_ends}
use Rattle.lx_ir_statements.proofs.RunLaws.{InstrLaws, run_reads, run_finds}

-- a label that stands next
record Label (ts : List Tok) : Type 0 where
  label : Tok
  mark : Tok
  rest : List Tok
  is : may_be_label label.kind ≡ true
  colon : is_mark Colon mark.kind ≡ true
  whole : ts ≡ label ∷ mark ∷ rest

next_label : (ts : List Tok) → has_label ts ≡ true → Label ts
next_label [] e = cc
next_label (t ∷ ts) e =
    let s = and_parts (may_be_label t.kind) (has (is_mark Colon) ts) e in
    let n = next_token (is_mark Colon) ts s.1 in
    record { label = t; mark = n.token; rest = behind ts; is = s.0; colon = n.kind; whole = ap (λ r. t ∷ r) n.whole }

module _ (context : Context) (form : TextForm) (laws : InstrLaws context form) (places : List Token) where
  -- What is in the grammar is read.

  labelled_again : (b : Block) (first last : Locals) (ts us : List Tok) → IsLabelled context form places b first last ts us → ends_block us ≡ true → MayFollow us → labelled_block_at context form places first (ts ++ us) ≡ Ok ((b, last), us)
  labelled_again b first last ts us (l, c, back, lab, col, name, new, run, w) ends m =
      rw (w, run_reads context form laws places b.instrs (with_label first (Some l.name)) last back us run ends m, new, name) refl

  unlabelled_again : (numbered : ℕ) (b : Block) (first last : Locals) (ts us : List Tok) → IsUnlabelled context form places numbered b first last ts us → ends_block us ≡ true → MayFollow us → unlabelled_block_at context form places numbered first (ts ++ us) ≡ Ok ((b, last), us)
  unlabelled_again numbered b first last ts us (apart, name, run) ends m =
      rw (run_reads context form laws places b.instrs (with_label first (number_of context.names (decimal_text numbered))) last ts us run ends m, name) refl

  first_again : (numbered : ℕ) (b : Block) (first last : Locals) (ts us : List Tok) → IsFirst context form places numbered b first last ts us → ends_block us ≡ true → MayFollow us → first_block_at context form places numbered first (ts ++ us) ≡ Ok ((b, last), us)
  first_again numbered b first last ts us (inl (l, c, back, lab, col, name, new, run, w)) ends m =
      let labelled = labelled_again b first last ts us (l, c, back, lab, col, name, new, run, w) ends m in
      let there : has_label (ts ++ us) ≡ true = rw w (label_ends l c (back ++ us) lab col).0 in
      rw there labelled
  first_again numbered b first last ts us (inr (apart, name, run)) ends m = rw apart (unlabelled_again numbered b first last ts us (apart, name, run) ends m)

  -- behind a block stands a label or the brace
  blocks_follow : (bs : List Block) (first last : Locals) (ts : List Tok) (c : Tok) (us : List Tok) → AreFurtherBlocks context form places bs first last ts (c ∷ us) → is_mark CloseBrace c.kind ≡ true → (ends_block (ts ++ c ∷ us) ≡ true) × MayFollow (ts ++ c ∷ us)
  blocks_follow [] first last ts c us (s, e) o = (rw e (brace_ends c us o).1, rw e (brace_follows c us o))
  blocks_follow (b ∷ bs) first last ts c us (f, r, middle, (l, d, back, lab, col, name, new, run, v), more, w) o =
      let parts : ts ++ c ∷ us ≡ f ++ (r ++ c ∷ us) = rw w (append_assoc f r (c ∷ us)) in
      let begins : f ++ (r ++ c ∷ us) ≡ l ∷ d ∷ (back ++ (r ++ c ∷ us)) = rw v refl in
      let whole : ts ++ c ∷ us ≡ l ∷ d ∷ (back ++ (r ++ c ∷ us)) = parts ∙ begins in
      (rw whole (label_ends l d (back ++ (r ++ c ∷ us)) lab col).1, rw whole (label_follows l d (back ++ (r ++ c ∷ us)) lab col))

  further_again : (bs done : List Block) (first last : Locals) (fuel : ℕ) (ts : List Tok) (c : Tok) (us : List Tok) → AreFurtherBlocks context form places bs first last ts (c ∷ us) → is_mark CloseBrace c.kind ≡ true → length (ts ++ c ∷ us) ≤ fuel → going_at body_goes_on (body_step context form places) fuel (done, first) (ts ++ c ∷ us) ≡ Ok ((done ++ bs, last), c ∷ us)
  unfolding going_at
  further_again [] done first last zero ts c us (s, e) o le = rw (e, s, append-nil done) refl
  further_again [] done first last (suc fuel) ts c us (s, e) o le = rw (e, s, append-nil done, (brace_ends c us o).0) refl
  further_again (b ∷ bs) done first last zero ts c us (f, r, middle, (l, d, back, lab, col, name, new, run, v), more, w) o le =
      let parts : ts ++ c ∷ us ≡ f ++ (r ++ c ∷ us) = rw w (append_assoc f r (c ∷ us)) in
      let begins : f ++ (r ++ c ∷ us) ≡ l ∷ d ∷ (back ++ (r ++ c ∷ us)) = rw v refl in
      let size : length (ts ++ c ∷ us) ≡ length (l ∷ d ∷ (back ++ (r ++ c ∷ us))) = ap length (parts ∙ begins) in
      absurd (omega (arith, size, le))
  further_again (b ∷ bs) done first last (suc fuel) ts c us (f, r, middle, (l, d, back, lab, col, name, new, run, v), more, w) o le =
      let whole : ts ++ c ∷ us ≡ f ++ (r ++ c ∷ us) = rw w (append_assoc f r (c ∷ us)) in
      let begins : f ++ (r ++ c ∷ us) ≡ l ∷ d ∷ (back ++ (r ++ c ∷ us)) = rw v refl in
      let there : has_label (f ++ (r ++ c ∷ us)) ≡ true = rw begins (label_ends l d (back ++ (r ++ c ∷ us)) lab col).0 in
      let follow = blocks_follow bs middle last r c us more o in
      let one = labelled_again b first middle f (r ++ c ∷ us) (l, d, back, lab, col, name, new, run, v) follow.0 follow.1 in
      let size : length (ts ++ c ∷ us) ≡ length (l ∷ d ∷ (back ++ (r ++ c ∷ us))) = ap length (whole ∙ begins) in
      let longer = length-append back (r ++ c ∷ us) in
      rw (whole, there, one) (further_again bs (done ++ b ∷ []) middle last fuel r c us more o (omega (arith, size, longer, le)) ∙ ap (λ bs. Ok ((bs, last), c ∷ us)) (append_assoc done (b ∷ []) bs))

  some_again : (numbered : ℕ) (registers : List ℕ) (bs : List Block) (ts : List Tok) (c : Tok) (us : List Tok) → AreBlocks context form places numbered registers bs ts (c ∷ us) → is_mark CloseBrace c.kind ≡ true → some_blocks_at context form places numbered registers (ts ++ c ∷ us) ≡ Ok (bs, c ∷ us)
  some_again numbered registers [] ts c us e o = absurd e
  some_again numbered registers (b ∷ bs) ts c us (f, r, middle, last, is, more, w) o =
      let whole : ts ++ c ∷ us ≡ f ++ (r ++ c ∷ us) = rw w (append_assoc f r (c ∷ us)) in
      let follow = blocks_follow bs middle last r c us more o in
      let one = first_again numbered b (record { registers = registers; labels = [] }) middle f (r ++ c ∷ us) is follow.0 follow.1 in
      let rest = further_again bs (b ∷ []) middle last (length (r ++ c ∷ us)) r c us more o (omega arith) in
      rw (whole, one, rest) refl

  pub body_again : (numbered : ℕ) (registers : List ℕ) (bs : List Block) (ts us : List Tok) → IsBody context form places numbered registers bs ts us → blocks_at context form places numbered registers (ts ++ us) ≡ Ok (bs, us)
  body_again numbered registers bs ts us (inner, c, are, o, w) =
      let whole : ts ++ us ≡ inner ++ (c ∷ us) = rw w (append_assoc inner (c ∷ []) us) in
      rw (whole, some_again numbered registers bs inner c us are o, o) refl

  -- What is read is in the grammar.

  abbrev BlockFound : (Block → Locals → List Tok → List Tok → Type 0) → Block → Locals → List Tok → List Tok → Type 0
  BlockFound part b last ts us = (front : List Tok) × part b last front us × (ts ≡ front ++ us)

  -- a block of this name
  named_found : (name : List ℕ) (start : Locals) (b : Block) (last : Locals) (ts us : List Tok) → block_behind context form places name start ts ≡ Ok ((b, last), us) → (name ≡ b.name) × ((front : List Tok) × IsRun context form places b.instrs start last front us × (ts ≡ front ++ us))
  named_found name start b last ts us e =
      let a = bind_ok (run_at context form places start ts) (λ r. Ok ((record { name = name; instrs = r.0.0 }, r.0.1), r.1)) ((b, last), us) e in
      let s = ok_same (record { name = name; instrs = a.0.0.0 }, a.0.0.1) (b, last) a.0.1 us a.2 in
      let w = run_finds context form laws places start a.0.0.1 a.0.0.0 ts a.0.1 a.1 in
      let run : IsRun context form places b.instrs start last w.0 us = subst (λ r. IsRun context form places b.instrs start last w.0 r) s.1 (subst (λ (z : Block × Locals). IsRun context form places z.0.instrs start z.1 w.0 a.0.1) s.0 w.1) in
      (ap (λ (z : Block × Locals). z.0.name) s.0, (w.0, run, w.2 ∙ ap (λ r. w.0 ++ r) s.1))

  abbrev labelled_by : Bool → Locals → List Tok → Read (Block × Locals)
  labelled_by b first ts =
      if b then Err (at Twice ts) else block_behind context form places (bytes_of context (first_name ts)) (with_label first (Some (first_name ts))) (behind (behind ts))

  labelled_found_by : (taken : Bool) (first : Locals) (b : Block) (last : Locals) (l c : Tok) (rest us : List Tok) → has_number first.labels l.name ≡ taken → may_be_label l.kind ≡ true → is_mark Colon c.kind ≡ true → labelled_by taken first (l ∷ c ∷ rest) ≡ Ok ((b, last), us) → BlockFound (λ b last. IsLabelled context form places b first last) b last (l ∷ c ∷ rest) us
  labelled_found_by true first b last l c rest us new lab col e = cc
  labelled_found_by false first b last l c rest us new lab col e =
      let n = named_found (bytes_of context l.name) (with_label first (Some l.name)) b last rest us e in
      (l ∷ c ∷ n.1.0, (l, c, n.1.0, lab, col, n.0, new, n.1.1, refl), ap (λ r. l ∷ c ∷ r) n.1.2)

  labelled_found : (first : Locals) (b : Block) (last : Locals) (ts us : List Tok) → has_label ts ≡ true → labelled_block_at context form places first ts ≡ Ok ((b, last), us) → BlockFound (λ b last. IsLabelled context form places b first last) b last ts us
  labelled_found first b last ts us h e =
      let n = next_label ts h in
      let e' : labelled_block_at context form places first (n.label ∷ n.mark ∷ n.rest) ≡ Ok ((b, last), us) = subst (λ r. labelled_block_at context form places first r ≡ Ok ((b, last), us)) n.whole e in
      let w = labelled_found_by (has_number first.labels n.label.name) first b last n.label n.mark n.rest us refl n.is n.colon e' in
      (w.0, w.1, n.whole ∙ w.2)

  abbrev first_by : Bool → ℕ → Locals → List Tok → Read (Block × Locals)
  first_by b numbered first ts = if b then labelled_block_at context form places first ts else unlabelled_block_at context form places numbered first ts

  first_found : (h : Bool) (numbered : ℕ) (first : Locals) (b : Block) (last : Locals) (ts us : List Tok) → has_label ts ≡ h → first_by h numbered first ts ≡ Ok ((b, last), us) → BlockFound (λ b last. IsFirst context form places numbered b first last) b last ts us
  first_found true numbered first b last ts us h e = let w = labelled_found first b last ts us h e in (w.0, inl w.1, w.2)
  first_found false numbered first b last ts us h e =
      let n = named_found (decimal_text numbered) (with_label first (number_of context.names (decimal_text numbered))) b last ts us e in
      (n.1.0, inr (subst (λ r. has_label r ≡ false) n.1.2 h, n.0, n.1.1), n.1.2)

  record FurtherFound (done : List Block) (first : Locals) (all : List Block) (last : Locals) (ts us : List Tok) : Type 0 where
    blocks : List Block
    front : List Tok
    are : AreFurtherBlocks context form places blocks first last front us
    whole : ts ≡ front ++ us
    collected : all ≡ done ++ blocks

  abbrev FurtherAreFound : ℕ → Type 0
  FurtherAreFound fuel = (done all : List Block) (first last : Locals) (ts us : List Tok) → going_at body_goes_on (body_step context form places) fuel (done, first) ts ≡ Ok ((all, last), us) → FurtherFound done first all last ts us

  no_further : (done all : List Block) (first last : Locals) (ts us : List Tok) (x : Read Body) → x ≡ Ok ((done, first), ts) → x ≡ Ok ((all, last), us) → FurtherFound done first all last ts us
  no_further done all first last ts us x a e =
      let s = ok_same (done, first) (all, last) ts us (sym a ∙ e) in
      record { blocks = []; front = []; are = (ap (λ (z : Body). z.1) s.0, refl); whole = s.1; collected = sym (ap (λ (z : Body). z.0) s.0) ∙ sym (append-nil done) }

  abbrev further_by : Bool → ℕ → Body → List Tok → Read Body
  further_by b fuel body ts = if b then (body_step context form places body ts >>= λ x. going_at body_goes_on (body_step context form places) fuel x.0 x.1) else Ok (body, ts)

  further_step : (fuel : ℕ) → FurtherAreFound fuel → (h : Bool) (done all : List Block) (first last : Locals) (ts us : List Tok) → has_label ts ≡ h → further_by h fuel (done, first) ts ≡ Ok ((all, last), us) → FurtherFound done first all last ts us
  further_step fuel k false done all first last ts us h e = no_further done all first last ts us (Ok ((done, first), ts)) refl e
  further_step fuel k true done all first last ts us h e =
      let a = bind_ok (body_step context form places (done, first) ts) (λ x. going_at body_goes_on (body_step context form places) fuel x.0 x.1) ((all, last), us) e in
      let b = bind_ok (labelled_block_at context form places first ts) (λ b. Ok ((done ++ b.0.0 ∷ [], b.0.1), b.1)) a.0 a.1 in
      let s = ok_same (done ++ b.0.0.0 ∷ [], b.0.0.1) a.0.0 b.0.1 a.0.1 b.2 in
      let l = labelled_found first b.0.0.0 b.0.0.1 ts b.0.1 h b.1 in
      let rest : going_at body_goes_on (body_step context form places) fuel (done ++ b.0.0.0 ∷ [], b.0.0.1) b.0.1 ≡ Ok ((all, last), us) = rw (s.0, s.1) a.2 in
      let m = k (done ++ b.0.0.0 ∷ []) all b.0.0.1 last b.0.1 us rest in
      let labelled : IsLabelled context form places b.0.0.0 first b.0.0.1 l.0 (m.front ++ us) = subst (λ r. IsLabelled context form places b.0.0.0 first b.0.0.1 l.0 r) m.whole l.1 in
      record {
        blocks = b.0.0.0 ∷ m.blocks;
        front = l.0 ++ m.front;
        are = (l.0, m.front, b.0.0.1, labelled, m.are, refl);
        whole = l.2 ∙ ap (λ r. l.0 ++ r) m.whole ∙ sym (append_assoc l.0 m.front us);
        collected = m.collected ∙ append_assoc done (b.0.0.0 ∷ []) m.blocks;
      }

  further_found : (fuel : ℕ) → FurtherAreFound fuel
  unfolding going_at
  further_found zero done all first last ts us e = no_further done all first last ts us (Ok ((done, first), ts)) refl e
  further_found (suc fuel) done all first last ts us e = further_step fuel (further_found fuel) (has_label ts) done all first last ts us refl e

  abbrev behind_first : Locals → (Block × Locals) × List Tok → Read (List Block)
  behind_first start b = further_blocks_at context form places (b.0.0 ∷ [], b.0.1) b.1 >>= λ bs. Ok (bs.0.0, bs.1)

  some_found : (numbered : ℕ) (registers : List ℕ) (bs : List Block) (ts us : List Tok) → some_blocks_at context form places numbered registers ts ≡ Ok (bs, us) → (front : List Tok) × AreBlocks context form places numbered registers bs front us × (ts ≡ front ++ us)
  some_found numbered registers bs ts us e =
      let start : Locals = record { registers = registers; labels = [] } in
      let a = bind_ok (first_block_at context form places numbered start ts) (behind_first start) (bs, us) e in
      let b = bind_ok (further_blocks_at context form places (a.0.0.0 ∷ [], a.0.0.1) a.0.1) (λ bs. Ok (bs.0.0, bs.1)) (bs, us) a.2 in
      let s = ok_same b.0.0.0 bs b.0.1 us b.2 in
      let f = first_found (has_label ts) numbered start a.0.0.0 a.0.0.1 ts a.0.1 refl a.1 in
      let m = further_found (length a.0.1) (a.0.0.0 ∷ []) b.0.0.0 a.0.0.1 b.0.0.1 a.0.1 b.0.1 b.1 in
      let first : IsFirst context form places numbered a.0.0.0 start a.0.0.1 f.0 (m.front ++ b.0.1) = subst (λ r. IsFirst context form places numbered a.0.0.0 start a.0.0.1 f.0 r) m.whole f.1 in
      let are : AreBlocks context form places numbered registers (a.0.0.0 ∷ m.blocks) (f.0 ++ m.front) b.0.1 = (f.0, m.front, a.0.0.1, b.0.0.1, first, m.are, refl) in
      let all : a.0.0.0 ∷ m.blocks ≡ bs = sym m.collected ∙ s.0 in
      (f.0 ++ m.front, subst (λ r. AreBlocks context form places numbered registers bs (f.0 ++ m.front) r) s.1 (subst (λ z. AreBlocks context form places numbered registers z (f.0 ++ m.front) b.0.1) all are), f.2 ∙ ap (λ r. f.0 ++ r) m.whole ∙ sym (append_assoc f.0 m.front b.0.1) ∙ ap (λ r. (f.0 ++ m.front) ++ r) s.1)

  abbrev close_by : Bool → Bool → List Tok → Read (Unit {0})
  close_by b c ts = if b then Ok (tt, behind ts) else if c then refused [] else refused ts

  close_found : (b c : Bool) (ts us : List Tok) (x : Unit {0}) → has (is_mark CloseBrace) ts ≡ b → close_by b c ts ≡ Ok (x, us) → (k : Tok) × (is_mark CloseBrace k.kind ≡ true) × (ts ≡ k ∷ us)
  close_found true c ts us x h e =
      let n = next_token (is_mark CloseBrace) ts h in
      (n.token, n.kind, n.whole ∙ ap (λ r. n.token ∷ r) (ok_same tt x (behind ts) us e).1)
  close_found false true ts us x h e = cc
  close_found false false ts us x h e = cc

  pub body_found : (numbered : ℕ) (registers : List ℕ) (ts us : List Tok) (bs : List Block) → blocks_at context form places numbered registers ts ≡ Ok (bs, us) → (front : List Tok) × IsBody context form places numbered registers bs front us × (ts ≡ front ++ us)
  body_found numbered registers ts us bs e =
      let a = bind_ok (some_blocks_at context form places numbered registers ts) (λ b. close_at b.1 >>= λ c. Ok (b.0, c.1)) (bs, us) e in
      let b = bind_ok (close_at a.0.1) (λ c. Ok (a.0.0, c.1)) (bs, us) a.2 in
      let s = ok_same a.0.0 bs b.0.1 us b.2 in
      let f = some_found numbered registers a.0.0 ts a.0.1 a.1 in
      let c = close_found (has (is_mark CloseBrace) a.0.1) (ends_in_label a.0.1) a.0.1 b.0.1 b.0.0 refl b.1 in
      let shut : a.0.1 ≡ c.0 ∷ us = c.2 ∙ ap (λ r. c.0 ∷ r) s.1 in
      let are : AreBlocks context form places numbered registers bs f.0 (c.0 ∷ us) = subst (λ r. AreBlocks context form places numbered registers bs f.0 r) shut (subst (λ z. AreBlocks context form places numbered registers z f.0 a.0.1) s.0 f.1) in
      (f.0 ++ c.0 ∷ [], (f.0, c.0, are, c.1, refl), f.2 ∙ ap (λ r. f.0 ++ r) shut ∙ sym (append_assoc f.0 (c.0 ∷ []) us))
