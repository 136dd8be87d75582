-- The instructions of a block: what is in the grammar is read, and what is read is in the grammar.
use Rattle.std.proofs.Common.{◌≡◌, ℕ, zero, suc, ◌+◌, ◌≤◌, ◌<◌, Bool, true, false, Option, Some, None, List, [], ◌∷◌, ◌++◌, length, Ok, Err, ◌⊎◌, inl, inr, refl, sym, ap, ◌∙◌, subst, append_assoc, arith}
use Rattle.std.specs.Prelude.{not, ◌&&◌, ◌||◌, if◌then◌else◌}
use Rattle.std.proofs.lemmas.List.{length-append, append-nil}
use Rattle.std.proofs.lemmas.Bool.{and_from}
use Rattle.lx_words.specs.declared.token.Token.{Token}
use Rattle.lx_words.proofs.Tests.{first_of, second_of}
use Rattle.lx_ir_tokens.specs.declared.token.Tok.{Tok}
use Rattle.lx_ir.specs.declared.instr.Instr.{Instr}
use Rattle.lx_ir.specs.declared.instr.Op.{Op}
use Rattle.lx_ir.specs.Operands.{is_terminator}
use Rattle.lx_ir_terms.specs.declared.fault.FaultKind.TheVariants.{Twice}
use Rattle.lx_ir_terms.specs.Context.{Context}
use Rattle.lx_ir_terms.specs.Reading.{Read, ◌>>=◌, at, refused, has}
use Rattle.lx_ir_terms.specs.Laws.{Finds}
use Rattle.lx_ir_terms.proofs.Parts.{bind_ok, ok_same}
use Rattle.lx_ir_calls.specs.declared.intrinsics.TextForm.{TextForm}
use Rattle.lx_ir_instructions.specs.Instructions.{instruction_at}
use Rattle.lx_ir_instructions.specs.Grammar.{IsInstr}
use Rattle.lx_ir_instructions.specs.Laws.{MayFollow}
use Rattle.lx_ir_statements.specs.declared.body.Locals.{Locals}
use Rattle.lx_ir_statements.specs.declared.body.Run.{Run}
use Rattle.lx_ir_statements.specs.Numbers.{has_some}
use Rattle.lx_ir_statements.specs.Going.{going_at}
use Rattle.lx_ir_statements.specs.Blocks.{line_at, ends_in_label, ends_block, given, line_of_text, with_register, instr_at, Going, run_goes_on, with_instr, run_step, no_instrs, further_instrs_at, run_at}
use Rattle.lx_ir_statements.specs.BlockGrammar.{IsLine, AreInstrs, is_run, IsRun}
use Rattle.lx_ir_statements.proofs.Starts.{instr_starts, start_follows, no_last, no_end}

-- reading and the grammar of single instructions agree, and an instruction has a token
pub record InstrLaws (context : Context) (form : TextForm) : Type 0 where
  pub read : (o : Op) (ts us : List Tok) → MayFollow us → IsInstr context form o ts → instruction_at context form (ts ++ us) ≡ Ok (o, us)
  pub found : Finds (instruction_at context form) (IsInstr context form)
  pub some : (o : Op) → IsInstr context form o [] → ⊥

module _ (context : Context) (form : TextForm) (laws : InstrLaws context form) (places : List Token) where
  -- What is in the grammar is read.

  line_again : (i : Instr) (ts us : List Tok) → IsLine context form places i ts us → MayFollow us → line_of_text context form places (ts ++ us) ≡ Ok (i, us)
  line_again i ts us (p, e) m = rw (laws.read i.op ts us m p, sym e) refl

  given_first : (o : Op) (ts us : List Tok) → IsInstr context form o ts → given (ts ++ us) ≡ given ts
  given_first o [] us p = absurd (laws.some o p)
  given_first o (t ∷ ts) us p = refl

  instr_again : (i : Instr) (first : Locals) (ts us : List Tok) → IsLine context form places i ts us → MayFollow us → has_some first.registers (given ts) ≡ false → instr_at context form places first (ts ++ us) ≡ Ok ((i, with_register first (given ts)), us)
  instr_again i first ts us (p, e) m new =
      rw (given_first i.op ts us p, new, no_last context form (ts ++ us) us i.op m.some (laws.read i.op ts us m p), line_again i ts us (p, e) m) refl

  -- behind an instruction stands what does not go on with it
  instrs_follow : (is : List Instr) (first last : Locals) (ts us : List Tok) → AreInstrs context form places is first last ts us → MayFollow us → MayFollow (ts ++ us)
  instrs_follow [] first last ts us (s, e) m = rw e m
  instrs_follow (i ∷ is) first last ts us (f, b, (p, l), new, r, w) m =
      let follow = instrs_follow is (with_register first (given f)) last b us r m in
      let whole : ts ++ us ≡ f ++ (b ++ us) = rw w (append_assoc f b us) in
      rw whole (start_follows (f ++ (b ++ us)) (instr_starts context form (f ++ (b ++ us)) (b ++ us) i.op (laws.read i.op f (b ++ us) follow p)))

  abbrev goes : Going → List Tok → Bool
  goes g us = run_goes_on g.0 us

  -- these instructions are read behind those of the run
  record RunAgain (is : List Instr) (run : Run) (first last : Locals) (fuel : ℕ) (ts us : List Tok) : Type 0 where
    ran : Run
    reads : going_at goes (run_step context form places) fuel (run, first) (ts ++ us) ≡ Ok ((ran, last), us)
    instrs : ran.instrs ≡ run.instrs ++ is

  abbrev MayGoOn : List Instr → Run → Type 0
  MayGoOn is run = (is ≡ []) ⊎ (run.goes_on ≡ true)

  and_false : (a : Bool) → (a && false) ≡ false
  and_false true = refl
  and_false false = refl

  run_ends : (run : Run) (us : List Tok) → ends_block us ≡ true → run_goes_on run us ≡ false
  run_ends run us e = rw e (and_false run.goes_on)

  none_again : (run : Run) (first : Locals) (fuel : ℕ) (us : List Tok) → ends_block us ≡ true → going_at goes (run_step context form places) fuel (run, first) us ≡ Ok ((run, first), us)
  unfolding going_at
  none_again run first zero us e = refl
  none_again run first (suc fuel) us e = rw (run_ends run us e) refl

  next_may : (i : Instr) (is : List Instr) (run : Run) → is_run (i ∷ is) ≡ true → MayGoOn is (with_instr run i)
  next_may i [] run e = inl refl
  next_may i (j ∷ is) run e = inr (first_of (not (is_terminator i.op)) (is_run (j ∷ is)) e)

  rest_runs : (i : Instr) (is : List Instr) → is_run (i ∷ is) ≡ true → is_run is ≡ true
  rest_runs i [] e = refl
  rest_runs i (j ∷ is) e = second_of (not (is_terminator i.op)) (is_run (j ∷ is)) e

  now_may : (i : Instr) (is : List Instr) (run : Run) → MayGoOn (i ∷ is) run → run.goes_on ≡ true
  now_may i is run (inl e) = cc
  now_may i is run (inr e) = e

  shorter : (o : Op) (f r : List Tok) → IsInstr context form o f → length r < length (f ++ r)
  shorter o [] r p = absurd (laws.some o p)
  shorter o (t ∷ f) r p = let n = length-append f r in omega arith

  -- one instruction, and those behind it
  run_on : (i : Instr) (is : List Instr) (run : Run) (first last : Locals) (fuel : ℕ) (ts f b us : List Tok) → ts ++ us ≡ f ++ (b ++ us) → IsLine context form places i f (b ++ us) → MayFollow (b ++ us) → has_some first.registers (given f) ≡ false → run.goes_on ≡ true → RunAgain is (with_instr run i) (with_register first (given f)) last fuel b us → RunAgain (i ∷ is) run first last (suc fuel) ts us
  unfolding going_at
  run_on i is run first last fuel ts f b us whole (p, l) follow new on ih =
      let within = no_end context form (f ++ (b ++ us)) (b ++ us) i.op follow.no_colon (laws.read i.op f (b ++ us) follow p) in
      let one = instr_again i first f (b ++ us) (p, l) follow new in
      record { ran = ih.ran; reads = rw (whole, on, within, one) ih.reads; instrs = ih.instrs ∙ append_assoc run.instrs (i ∷ []) is }

  run_again : (is : List Instr) (run : Run) (first last : Locals) (fuel : ℕ) (ts us : List Tok) → AreInstrs context form places is first last ts us → is_run is ≡ true → MayGoOn is run → length (ts ++ us) ≤ fuel → ends_block us ≡ true → MayFollow us → RunAgain is run first last fuel ts us
  run_again [] run first last fuel ts us (s, e) runs may le ends m =
      record { ran = run; reads = rw (e, sym s) (none_again run first fuel us ends); instrs = sym (append-nil run.instrs) }
  run_again (i ∷ is) run first last zero ts us (f, b, (p, l), new, r, w) runs may le ends m =
      let whole : ts ++ us ≡ f ++ (b ++ us) = rw w (append_assoc f b us) in
      let n = shorter i.op f (b ++ us) p in
      let size : length (ts ++ us) ≡ length (f ++ (b ++ us)) = ap length whole in
      absurd (omega (arith, n, size, le))
  run_again (i ∷ is) run first last (suc fuel) ts us (f, b, (p, l), new, r, w) runs may le ends m =
      let whole : ts ++ us ≡ f ++ (b ++ us) = rw w (append_assoc f b us) in
      let n = shorter i.op f (b ++ us) p in
      let size : length (ts ++ us) ≡ length (f ++ (b ++ us)) = ap length whole in
      run_on i is run first last fuel ts f b us whole (p, l) (instrs_follow is (with_register first (given f)) last b us r m) new (now_may i is run may) (run_again is (with_instr run i) (with_register first (given f)) last fuel b us r (rest_runs i is runs) (next_may i is run runs) (omega (arith, n, size, le)) ends m)

  pub run_reads : (is : List Instr) (first last : Locals) (ts us : List Tok) → IsRun context form places is first last ts us → ends_block us ≡ true → MayFollow us → run_at context form places first (ts ++ us) ≡ Ok ((is, last), us)
  run_reads is first last ts us (runs, are) ends m =
      let w = run_again is no_instrs first last (length (ts ++ us)) ts us are runs (inr refl) (omega arith) ends m in
      rw (w.reads, w.instrs) refl

  -- What is read is in the grammar.

  record LineFound (first : Locals) (i : Instr) (after : Locals) (ts us : List Tok) : Type 0 where
    front : List Tok
    is : IsLine context form places i front us
    new : has_some first.registers (given front) ≡ false
    becomes : with_register first (given front) ≡ after
    whole : ts ≡ front ++ us

  line_found : (first : Locals) (ts us : List Tok) (o : Op) → has_some first.registers (given ts) ≡ false → instruction_at context form ts ≡ Ok (o, us) → LineFound first (record { op = o; line = line_at places ts }) (with_register first (given ts)) ts us
  line_found first ts us o new e =
      let w = laws.found ts us o e in
      let g : given ts ≡ given w.0 = ap given w.2 ∙ given_first o w.0 us w.1 in
      record {
        front = w.0;
        is = (w.1, ap (line_at places) w.2);
        new = subst (λ r. has_some first.registers r ≡ false) g new;
        becomes = ap (with_register first) (sym g);
        whole = w.2;
      }

  abbrev instr_by : Bool → Bool → Locals → List Tok → Read (Instr × Locals)
  instr_by b c first ts =
      if b then Err (at Twice ts) else if c then refused [] else (line_of_text context form places ts >>= λ i. Ok ((i.0, with_register first (given ts)), i.1))

  instr_found_by : (b c : Bool) (first : Locals) (i : Instr) (after : Locals) (ts us : List Tok) → has_some first.registers (given ts) ≡ b → instr_by b c first ts ≡ Ok ((i, after), us) → LineFound first i after ts us
  instr_found_by true c first i after ts us new e = cc
  instr_found_by false true first i after ts us new e = cc
  instr_found_by false false first i after ts us new e =
      let a = bind_ok (line_of_text context form places ts) (λ i. Ok ((i.0, with_register first (given ts)), i.1)) ((i, after), us) e in
      let b = bind_ok (instruction_at context form ts) (λ o. Ok (record { op = o.0; line = line_at places ts }, o.1)) (a.0.0, a.0.1) a.1 in
      let s = ok_same (a.0.0, with_register first (given ts)) (i, after) a.0.1 us a.2 in
      let q = ok_same (record { op = b.0.0; line = line_at places ts }) a.0.0 b.0.1 a.0.1 b.2 in
      let there = line_found first ts b.0.1 b.0.0 new b.1 in
      let there' = subst (λ r. LineFound first (record { op = b.0.0; line = line_at places ts }) (with_register first (given ts)) ts r) (q.1 ∙ s.1) there in
      let there2 = subst (λ j. LineFound first j (with_register first (given ts)) ts us) q.0 there' in
      subst (λ z. LineFound first z.0 z.1 ts us) s.0 there2

  instr_found : (first : Locals) (i : Instr) (after : Locals) (ts us : List Tok) → instr_at context form places first ts ≡ Ok ((i, after), us) → LineFound first i after ts us
  instr_found first i after ts us e = instr_found_by (has_some first.registers (given ts)) (ends_in_label ts) first i after ts us refl e

  record RunFound (run ran : Run) (first last : Locals) (ts us : List Tok) : Type 0 where
    is : List Instr
    front : List Tok
    are : AreInstrs context form places is first last front us
    runs : is_run is ≡ true
    may : MayGoOn is run
    instrs : ran.instrs ≡ run.instrs ++ is
    whole : ts ≡ front ++ us

  abbrev run_by : Bool → ℕ → Going → List Tok → Read Going
  run_by b fuel g ts = if b then (run_step context form places g ts >>= λ x. going_at goes (run_step context form places) fuel x.0 x.1) else Ok (g, ts)

  abbrev RunsFound : ℕ → Type 0
  RunsFound fuel = (run ran : Run) (first last : Locals) (ts us : List Tok) → going_at goes (run_step context form places) fuel (run, first) ts ≡ Ok ((ran, last), us) → RunFound run ran first last ts us

  no_more : (run ran : Run) (first last : Locals) (ts us : List Tok) (x : Read Going) → x ≡ Ok ((run, first), ts) → x ≡ Ok ((ran, last), us) → RunFound run ran first last ts us
  no_more run ran first last ts us x a e =
      let s = ok_same (run, first) (ran, last) ts us (sym a ∙ e) in
      record { is = []; front = []; are = (ap (λ g. g.1) s.0, refl); runs = refl; may = inl refl; instrs = sym (ap (λ (g : Going). g.0.instrs) s.0) ∙ sym (append-nil run.instrs); whole = s.1 }

  more_run : (i : Instr) (is : List Instr) (run : Run) → MayGoOn is (with_instr run i) → is_run is ≡ true → is_run (i ∷ is) ≡ true
  more_run i [] run may runs = refl
  more_run i (j ∷ is) run (inl e) runs = cc
  more_run i (j ∷ is) run (inr e) runs = and_from (not (is_terminator i.op)) (is_run (j ∷ is)) e runs

  step_found : (fuel : ℕ) → RunsFound fuel → (b : Bool) (run ran : Run) (first last : Locals) (ts us : List Tok) → run_goes_on run ts ≡ b → run_by b fuel (run, first) ts ≡ Ok ((ran, last), us) → RunFound run ran first last ts us
  step_found fuel h false run ran first last ts us g e = no_more run ran first last ts us (Ok ((run, first), ts)) refl e
  step_found fuel h true run ran first last ts us g e =
      let a = bind_ok (run_step context form places (run, first) ts) (λ x. going_at goes (run_step context form places) fuel x.0 x.1) ((ran, last), us) e in
      let b = bind_ok (instr_at context form places first ts) (λ i. Ok ((with_instr run i.0.0, i.0.1), i.1)) a.0 a.1 in
      let s = ok_same (with_instr run b.0.0.0, b.0.0.1) a.0.0 b.0.1 a.0.1 b.2 in
      let l = instr_found first b.0.0.0 b.0.0.1 ts b.0.1 b.1 in
      let rest : going_at goes (run_step context form places) fuel (with_instr run b.0.0.0, b.0.0.1) b.0.1 ≡ Ok ((ran, last), us) = rw (s.0, s.1) a.2 in
      let m = h (with_instr run b.0.0.0) ran b.0.0.1 last b.0.1 us rest in
      let are : AreInstrs context form places m.is (with_register first (given l.front)) last m.front us = subst (λ k. AreInstrs context form places m.is k last m.front us) (sym l.becomes) m.are in
      let line : IsLine context form places b.0.0.0 l.front (m.front ++ us) = subst (λ r. IsLine context form places b.0.0.0 l.front r) m.whole l.is in
      record {
        is = b.0.0.0 ∷ m.is;
        front = l.front ++ m.front;
        are = (l.front, m.front, line, l.new, are, refl);
        runs = more_run b.0.0.0 m.is run m.may m.runs;
        may = inr (first_of run.goes_on (not (ends_block ts)) g);
        instrs = m.instrs ∙ append_assoc run.instrs (b.0.0.0 ∷ []) m.is;
        whole = l.whole ∙ ap (λ r. l.front ++ r) m.whole ∙ sym (append_assoc l.front m.front us);
      }

  runs_found : (fuel : ℕ) → RunsFound fuel
  unfolding going_at
  runs_found zero run ran first last ts us e = no_more run ran first last ts us (Ok ((run, first), ts)) refl e
  runs_found (suc fuel) run ran first last ts us e = step_found fuel (runs_found fuel) (run_goes_on run ts) run ran first last ts us refl e

  pub run_finds : (first last : Locals) (is : List Instr) (ts us : List Tok) → run_at context form places first ts ≡ Ok ((is, last), us) → (front : List Tok) × IsRun context form places is first last front us × (ts ≡ front ++ us)
  run_finds first last is ts us e =
      let a = bind_ok (further_instrs_at context form places (no_instrs, first) ts) (λ r. Ok ((r.0.0.instrs, r.0.1), r.1)) ((is, last), us) e in
      let s = ok_same (a.0.0.0.instrs, a.0.0.1) (is, last) a.0.1 us a.2 in
      let w = runs_found (length ts) no_instrs a.0.0.0 first a.0.0.1 ts a.0.1 a.1 in
      let all : w.is ≡ is = sym w.instrs ∙ ap (λ p. p.0) s.0 in
      let there : IsRun context form places w.is first a.0.0.1 w.front a.0.1 = (w.runs, w.are) in
      let there' : IsRun context form places is first last w.front us = subst (λ r. IsRun context form places is first last w.front r) s.1 (subst (λ l. IsRun context form places is first l w.front a.0.1) (ap (λ p. p.1) s.0) (subst (λ js. IsRun context form places js first a.0.0.1 w.front a.0.1) all there)) in
      (w.front, there', w.whole ∙ ap (λ r. w.front ++ r) s.1)
