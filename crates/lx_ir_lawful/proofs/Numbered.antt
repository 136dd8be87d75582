-- The registers of the blocks of a function, in order.
use Rattle.std.proofs.Common.{◌≡◌, Bool, inl, inr, ℕ, ◌≤◌, Some, List, [], ◌∷◌, ◌++◌, length, refl, ap, ◌∙◌, subst, append_assoc}
use Rattle.std.specs.Prelude.{flat_map, filter_map}
use Rattle.std.specs.List.{AllZip, AllByRecursion, cons_option}
use Rattle.std.proofs.lemmas.Grind.{flat_map-append}
use Rattle.std.proofs.lemmas.List.Elements.{filter_map-append}
use Rattle.lx_words.specs.declared.token.Token.{Token}
use Rattle.lx_words.proofs.Lists.{option_joined}
use Rattle.lx_ir_tokens.specs.declared.token.Tok.{Tok}
use Rattle.lx_ir.specs.declared.module.Block.{Block}
use Rattle.lx_ir.specs.declared.instr.Instr.{Instr}
use Rattle.lx_ir.specs.declared.instr.Op.{Op}
use Rattle.lx_ir.specs.Operands.{given_by, operands_where}
use Rattle.lx_ir.specs.Lawful.{counts_from, registers_in, numbers_read, first_come}
use Rattle.lx_ir_terms.specs.Context.{Context, nothing}
use Rattle.lx_ir_constants.specs.Constants.{is_register}
use Rattle.lx_ir_calls.specs.declared.intrinsics.TextForm.{TextForm}
use Rattle.lx_ir_instructions.specs.Grammar.{IsForm}
use Rattle.lx_ir_statements.specs.Blocks.{given, with_register, with_label}
use Rattle.lx_ir_statements.specs.BlockGrammar.{AreInstrs, IsLabelled, IsFirst, AreFurtherBlocks, AreBlocks, IsBody}
use Rattle.lx_ir_statements.proofs.TypeNames.{local_name_is}
use Rattle.lx_ir_tables.specs.Numbering.{Numbering}
use Rattle.lx_ir_tables.specs.Registers.{with_given_by, with_all_given, with_all_read}
use Rattle.lx_ir_lawful.specs.Alike.{AlikeInstrs, AlikeBlocks}
use Rattle.lx_ir_lawful.specs.Named.{AllNamed, FromNames}
use Rattle.lx_ir_lawful.proofs.NamedForms.{front, back}
use Rattle.lx_ir_lawful.specs.NamedThings.{numbers_of, named_things, AreOnce}
use Rattle.lx_ir_lawful.specs.TokenNames.{IsNamed}
use Rattle.lx_ir_lawful.proofs.RegisterTables.{unknown}
use Rattle.lx_ir_lawful.proofs.Given.{instr_given}
use Rattle.lx_ir_lawful.proofs.Passes.{more_none, more_more, Grown, knows_more, Gives, given_one, Reads, reads_none, reads_then, instrs_read}

-- What an instruction's tokens say of it, those of blocks say of all their instructions.

module _ (Q : ℕ → Type 0) (context : Context) (form : TextForm) (places : List Token) (P : Op → Type 0) (each : (o : Op) (ts : List Tok) → IsForm context form o ts → AllNamed Q ts → P o) where
  abbrev pub AllFrom : List Instr → Type 0
  AllFrom is = AllByRecursion (λ i. P i.op) is

  instrs_from : (is : List Instr) (first last : _) (ts us : List Tok) → AreInstrs context form places is first last ts us → AllNamed Q ts → AllFrom is
  instrs_from [] first last ts us h n = tt
  instrs_from (i ∷ is) first last ts us (f, b, ((f2, b2, is_form, meta, w2), line), fresh, more, w) n =
      (each i.op f2 is_form (front Q f2 b2 f w2 (front Q f b ts w n)), instrs_from is (with_register first (given f)) last b us more (back Q f b ts w n))

  labelled_from : (x : Block) (first last : _) (ts us : List Tok) → IsLabelled context form places x first last ts us → AllNamed Q ts → AllFrom x.instrs
  labelled_from x first last ts us (l, m, rest, k, colon, name, fresh, run, w) n = instrs_from x.instrs _ last rest us run.1 (subst (AllNamed Q) w n).1.1

  first_from : (numbered : ℕ) (x : Block) (first last : _) (ts us : List Tok) → IsFirst context form places numbered x first last ts us → AllNamed Q ts → AllFrom x.instrs
  first_from numbered x first last ts us (inl h) n = labelled_from x first last ts us h n
  first_from numbered x first last ts us (inr (none, name, run)) n = instrs_from x.instrs _ last ts us run.1 n

  further_from : (xs : List Block) (first last : _) (ts us : List Tok) → AreFurtherBlocks context form places xs first last ts us → AllNamed Q ts → AllByRecursion (λ x. AllFrom x.instrs) xs
  further_from [] first last ts us h n = tt
  further_from (x ∷ xs) first last ts us (f, b, middle, one, more, w) n =
      (labelled_from x first middle f (b ++ us) one (front Q f b ts w n), further_from xs middle last b us more (back Q f b ts w n))

  blocks_from : (numbered : ℕ) (params : List ℕ) (xs : List Block) (ts us : List Tok) → AreBlocks context form places numbered params xs ts us → AllNamed Q ts → AllByRecursion (λ x. AllFrom x.instrs) xs
  blocks_from numbered params [] ts us h n = absurd h
  blocks_from numbered params (x ∷ xs) ts us (f, b, middle, last, one, more, w) n =
      (first_from numbered x _ middle f (b ++ us) one (front Q f b ts w n), further_from xs middle last b us more (back Q f b ts w n))

  pub body_from : (numbered : ℕ) (params : List ℕ) (xs : List Block) (ts us : List Tok) → IsBody context form places numbered params xs ts us → AllNamed Q ts → AllByRecursion (λ x. AllFrom x.instrs) xs
  body_from numbered params xs ts us (inner, k, blocks, brace, w) n = blocks_from numbered params xs inner (k ∷ us) blocks (front Q inner (k ∷ []) ts w n)

-- the name that stands first
given_named : (Q : ℕ → Type 0) (ts : List Tok) → AllNamed Q ts → (n : ℕ) → given ts ≡ Some n → Q n
given_named Q [] h n e = absurd (cc e)
given_named Q (t ∷ ts) h n e = let s = local_name_is t.kind t.name n e in subst Q s.1 (h.0 (ap is_register s.0))

abbrev pub given_of : List Instr → List ℕ
given_of is = filter_map (λ i. given_by i.op) is

abbrev pub all_given : List Block → List ℕ
all_given bs = given_of (flat_map (λ b. b.instrs) bs)

abbrev pub all_read : Bool → List Block → List ℕ
all_read lines bs = numbers_read lines (flat_map (λ b. b.instrs) bs)

-- what the first block gives or reads, and the others
block_given : (b : Block) (bs : List Block) (rest : List ℕ) → all_given (b ∷ bs) ++ rest ≡ given_of b.instrs ++ (all_given bs ++ rest)
block_given b bs rest =
    ap (λ ks. ks ++ rest) (filter_map-append (λ i. given_by i.op) b.instrs (flat_map (λ x. x.instrs) bs)) ∙ append_assoc (given_of b.instrs) (all_given bs) rest

block_read : (lines : Bool) (b : Block) (bs : List Block) (rest : List ℕ) → all_read lines (b ∷ bs) ++ rest ≡ numbers_read lines b.instrs ++ (all_read lines bs ++ rest)
block_read lines b bs rest =
    ap (λ ks. ks ++ rest) (flat_map-append (λ i. registers_in (operands_where lines i.op)) b.instrs (flat_map (λ x. x.instrs) bs)) ∙ append_assoc (numbers_read lines b.instrs) (all_read lines bs) rest

module _ (names : List (List ℕ)) (once : AreOnce names) (few : length names ≤ nothing) (c : Context) (form : TextForm) (places : List Token) where
  abbrev u : Context
  u = unknown names

  abbrev Given : (List ℕ → List ℕ) → List (List ℕ) → List ℕ → Numbering → Type 0
  Given rs W taken t = Gives names once few c rs W taken t

  gives_then : (p q : List ℕ → List ℕ) (W : List (List ℕ)) (middle taken : List ℕ) (t s : Numbering) (a : Given p W middle t) → Given q a.after taken s → Given (λ ks. p (q ks)) W taken s
  gives_then p q W middle taken t s a b =
      record {
        after = b.after;
        more = more_more names once few c W a.after b.after a.more b.more;
        grown = b.grown;
        is = b.is;
        taken_is = b.taken_is;
        counts = λ R knows ks h. a.counts (b.more.0 ++ R) (knows_more names once few c a.after b.after R b.more knows) (q ks) (b.counts R knows ks h);
      }

  instrs_given : (is js : List Instr) (first last : _) (ts us : List Tok) (W : List (List ℕ)) → AllZip (AlikeInstrs c u) is js → AreInstrs u form places js first last ts us → AllNamed (IsNamed names) ts → Grown names once few c W → numbers_of names W ≡ first.registers
      → Given (λ ks. given_of is ++ ks) W last.registers (with_given_by (named_things names W) js)
  instrs_given [] [] first last ts us W alike (same, none) n g t =
      record { after = W; more = more_none names once few c W; grown = g; is = refl; taken_is = t ∙ ap (λ l. l.registers) same; counts = λ R knows ks h. h }
  instrs_given [] (j ∷ js) first last ts us W alike h n g t = absurd alike
  instrs_given (i ∷ is) [] first last ts us W alike h n g t = absurd alike
  instrs_given (i ∷ is) (j ∷ js) first last ts us W alike (f, b, one, fresh, more, w) n g t =
      let begins = instr_given u form j.op f one.0 in
      let step =
      given_one names once few c (given_by i.op) (given_by j.op) (given f) W first.registers alike.0.0.given begins (given_named (IsNamed names) f (front (IsNamed names) f b ts w n)) g t fresh in
      let rest = instrs_given is js (with_register first (given f)) last b us step.after alike.1 more (back (IsNamed names) f b ts w n) step.grown step.taken_is in
      let both = gives_then (λ ks. cons_option (given_by i.op) ks) (λ ks. given_of is ++ ks) W _ last.registers _ (with_given_by (named_things names step.after) js) step rest in
      record {
        after = both.after;
        more = both.more;
        grown = both.grown;
        is = ap (λ x. with_given_by x js) step.is ∙ both.is;
        taken_is = both.taken_is;
        counts = λ R knows ks h. ap (counts_from (length W)) (option_joined (given_by i.op) (given_of is) ks) ∙ both.counts R knows ks h;
      }

  labelled_given : (x y : Block) (first last : _) (ts us : List Tok) (W : List (List ℕ)) → AlikeBlocks c u x y → IsLabelled u form places y first last ts us → AllNamed (IsNamed names) ts → Grown names once few c W → numbers_of names W ≡ first.registers
      → Given (λ ks. given_of x.instrs ++ ks) W last.registers (with_given_by (named_things names W) y.instrs)
  labelled_given x y first last ts us W alike (l, m, rest, k, colon, name, fresh, run, w) n g t =
      instrs_given x.instrs y.instrs (with_label first (Some l.name)) last rest us W alike.1 run.1 (subst (AllNamed (IsNamed names)) w n).1.1 g t

  first_given : (numbered : ℕ) (x y : Block) (first last : _) (ts us : List Tok) (W : List (List ℕ)) → AlikeBlocks c u x y → IsFirst u form places numbered y first last ts us → AllNamed (IsNamed names) ts → Grown names once few c W → numbers_of names W ≡ first.registers
      → Given (λ ks. given_of x.instrs ++ ks) W last.registers (with_given_by (named_things names W) y.instrs)
  first_given numbered x y first last ts us W alike (inl h) n g t = labelled_given x y first last ts us W alike h n g t
  first_given numbered x y first last ts us W alike (inr (none, name, run)) n g t = instrs_given x.instrs y.instrs _ last ts us W alike.1 run.1 n g t

  further_given : (xs ys : List Block) (first last : _) (ts us : List Tok) (W : List (List ℕ)) → AllZip (AlikeBlocks c u) xs ys → AreFurtherBlocks u form places ys first last ts us → AllNamed (IsNamed names) ts → Grown names once few c W → numbers_of names W ≡ first.registers
      → Given (λ ks. all_given xs ++ ks) W last.registers (with_all_given (named_things names W) ys)
  further_given [] [] first last ts us W alike (same, none) n g t =
      record { after = W; more = more_none names once few c W; grown = g; is = refl; taken_is = t ∙ ap (λ l. l.registers) same; counts = λ R knows ks h. h }
  further_given [] (y ∷ ys) first last ts us W alike h n g t = absurd alike
  further_given (x ∷ xs) [] first last ts us W alike h n g t = absurd alike
  further_given (x ∷ xs) (y ∷ ys) first last ts us W alike (f, b, middle, one, more, w) n g t =
      let step = labelled_given x y first middle f (b ++ us) W alike.0 one (front (IsNamed names) f b ts w n) g t in
      let rest = further_given xs ys middle last b us step.after alike.1 more (back (IsNamed names) f b ts w n) step.grown step.taken_is in
      let both = gives_then (λ ks. given_of x.instrs ++ ks) (λ ks. all_given xs ++ ks) W middle.registers last.registers _ (with_all_given (named_things names step.after) ys) step rest in
      record {
        after = both.after;
        more = both.more;
        grown = both.grown;
        is = ap (λ v. with_all_given v ys) step.is ∙ both.is;
        taken_is = both.taken_is;
        counts = λ R knows ks h. ap (counts_from (length W)) (block_given x xs ks) ∙ both.counts R knows ks h;
      }

  -- what all blocks give
  pub record AllGiven (xs ys : List Block) (W : List (List ℕ)) : Type 0 where
    pub taken : List ℕ
    pub gives : Given (λ ks. all_given xs ++ ks) W taken (with_all_given (named_things names W) ys)

  pub body_given : (numbered : ℕ) (params : List ℕ) (xs ys : List Block) (ts us : List Tok) (W : List (List ℕ)) → AllZip (AlikeBlocks c u) xs ys → IsBody u form places numbered params ys ts us → AllNamed (IsNamed names) ts → Grown names once few c W → numbers_of names W ≡ params
      → AllGiven xs ys W
  body_given numbered params xs [] ts us W alike (inner, k, blocks, brace, w) n g t = absurd blocks
  body_given numbered params [] (y ∷ ys) ts us W alike (inner, k, blocks, brace, w) n g t = absurd alike
  body_given numbered params (x ∷ xs) (y ∷ ys) ts us W alike (inner, k, (f, b, middle, last, one, more, w2), brace, w) n g t =
      let here = front (IsNamed names) inner (k ∷ []) ts w n in
      let step = first_given numbered x y _ middle f (b ++ (k ∷ us)) W alike.0 one (front (IsNamed names) f b inner w2 here) g t in
      let rest = further_given xs ys middle last b (k ∷ us) step.after alike.1 more (back (IsNamed names) f b inner w2 here) step.grown step.taken_is in
      let both = gives_then (λ ks. given_of x.instrs ++ ks) (λ ks. all_given xs ++ ks) W middle.registers last.registers _ (with_all_given (named_things names step.after) ys) step rest in
      record {
        taken = last.registers;
        gives = record {
          after = both.after;
          more = both.more;
          grown = both.grown;
          is = ap (λ v. with_all_given v ys) step.is ∙ both.is;
          taken_is = both.taken_is;
          counts = λ R knows ks h. ap (counts_from (length W)) (block_given x xs ks) ∙ both.counts R knows ks h;
        };
      }

  pub blocks_read : (lines : Bool) (xs ys : List Block) (W : List (List ℕ)) → AllZip (AlikeBlocks c u) xs ys → AllByRecursion (λ y. AllByRecursion (λ j. FromNames (IsNamed names) u j.op) y.instrs) ys → Grown names once few c W
      → Reads names once few c (λ ks. all_read lines xs ++ ks) W (with_all_read lines (named_things names W) ys)
  blocks_read lines [] [] W alike from g = reads_none names once few c W g
  blocks_read lines [] (y ∷ ys) W alike from g = absurd alike
  blocks_read lines (x ∷ xs) [] W alike from g = absurd alike
  blocks_read lines (x ∷ xs) (y ∷ ys) W alike from g =
      let step = instrs_read names once few c lines x.instrs y.instrs W alike.0.1 from.0 g in
      let rest = blocks_read lines xs ys step.after alike.1 from.1 step.grown in
      let both = reads_then names once few c (λ ks. numbers_read lines x.instrs ++ ks) (λ ks. all_read lines xs ++ ks) W _ (with_all_read lines (named_things names step.after) ys) step rest in
      record {
        after = both.after;
        more = both.more;
        grown = both.grown;
        is = ap (λ v. with_all_read lines v ys) step.is ∙ both.is;
        comes = λ R knows last ks h. ap (first_come (length W) last) (block_read lines x xs ks) ∙ both.comes R knows last ks h;
      }
