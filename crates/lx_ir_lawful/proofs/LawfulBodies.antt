-- A function that is read has a lawful body.
use Rattle.std.proofs.Common.{◌≡◌, ℕ, suc, ◌+◌, ◌<◌, ◌≤◌, Bool, true, false, ◌&&◌, Option, Some, List, [], ◌∷◌, ◌++◌, length, map, nat_eq, nat_lt, nat_le, refl, sym, ap, ◌∙◌, arith, append_assoc}
use Rattle.std.specs.Prelude.{if◌then◌else◌, unwrap_or, flat_map}
use Rattle.std.specs.List.{list_all, cons_option, AllByRecursion}
use Rattle.std.proofs.lemmas.Bool.{and_parts, eqb-true, leb-true, and_from}
use Rattle.std.proofs.lemmas.Bool.Decides.{nat_tests}
use Rattle.std.proofs.lemmas.Grind.{flat_map-append}
use Rattle.std.proofs.lemmas.List.{length-map, length-append, append-nil}
use Rattle.std.proofs.lemmas.List.Folds.{list_all-append}
use Rattle.lx_words.specs.declared.token.Token.{Token}
use Rattle.lx_words.proofs.Tests.{three_true, eq_self, less_true as less_test}
use Rattle.lx_ir_tokens.specs.declared.token.Tok.{Tok}
use Rattle.lx_ir_tokens.specs.declared.token.Kind.TheVariants as kinds
use Rattle.lx_ir_tokens.specs.Names.{number_of}
use Rattle.lx_ir.specs.declared.types.Scalar.{Scalar}
use Rattle.lx_ir.specs.declared.module.Value.{Value}
use Rattle.lx_ir.specs.declared.module.Value.TheVariants as values
use Rattle.lx_ir.specs.declared.module.Parameter.{Parameter}
use Rattle.lx_ir.specs.declared.module.Block.{Block}
use Rattle.lx_ir.specs.declared.module.Function.{Function}
use Rattle.lx_ir.specs.declared.module.Module.{Module}
use Rattle.lx_ir.specs.declared.instr.Argument.{Argument}
use Rattle.lx_ir.specs.declared.instr.Instr.{Instr}
use Rattle.lx_ir.specs.declared.instr.Op.{Op}
use Rattle.lx_ir.specs.Operands.{operands_of, operands_where, labels_of, register_count, is_image_line}
use Rattle.lx_ir.specs.Lawful.{is_name, is_label, is_distinct, is_lawful_value, is_lawful_op, is_lawful_block, has_form, ends_once, counts_from, register_in, registers_in, numbers_read, first_come, numbers_registers}
use Rattle.lx_ir.proofs.DistinctNames.{distinct_behind}
use Rattle.lx_ir_lawful.proofs.LawfulLimits.{lawful}
use Rattle.lx_ir_terms.specs.Context.{Context, nothing}
use Rattle.lx_ir_calls.specs.declared.intrinsics.TextForm.{TextForm}
use Rattle.lx_ir_statements.specs.declared.head.Head.{Head}
use Rattle.lx_ir_statements.proofs.ImportLaws.{register_is}
use Rattle.lx_ir_tables.specs.Numbering.{numbering, table_of}
use Rattle.lx_ir_tables.specs.Registers.{with_parameters, with_all_given, with_all_read, registers_of}
use Rattle.lx_ir_lawful.specs.Tells.{Tells}
use Rattle.lx_ir_lawful.proofs.Constants.{written_lawful}
use Rattle.lx_ir_lawful.specs.Said.{is_said, Names, Said}
use Rattle.lx_ir_lawful.specs.Named.{AllNamed, FromLabel, FromNames}
use Rattle.lx_ir_lawful.proofs.Forms.{form_said}
use Rattle.lx_ir_lawful.proofs.NamedForms.{form_named}
use Rattle.lx_ir_lawful.specs.NamedThings.{named_things, AreOnce}
use Rattle.lx_ir_lawful.specs.TokenNames.{mark_count, IsNamed, IsTokenNamed}
use Rattle.lx_ir_lawful.proofs.FewNames.{few_names}
use Rattle.lx_ir_lawful.specs.BodyLaws.{said_by, ReadBody, LawfulBody}
use Rattle.lx_ir_lawful.proofs.RegisterTables.{unknown}
use Rattle.lx_ir_lawful.proofs.Passes.{more_more, Grown, reads_then}
use Rattle.lx_ir_lawful.proofs.Numbered.{all_given, all_read, body_from, AllGiven, body_given, blocks_read}
use Rattle.lx_ir_lawful.proofs.HeadNames.{GoodHead, head_good, head_few}
use Rattle.lx_ir_lawful.proofs.Labels.{labels_of as labels_in, LawfulLabels, body_labels}

seven_true : (a b c d e f g : Bool) → a ≡ true → b ≡ true → c ≡ true → d ≡ true → e ≡ true → f ≡ true → g ≡ true → (a && b && c && d && e && f && g) ≡ true
seven_true a b c d e f g p q r s t u v = rw (p, q, r, s, t, u, v) refl

-- Registers that come first in their order are below the last.

step_le : (b : Bool) (n last : ℕ) (ks : List ℕ) → ((m : ℕ) → first_come m last ks ≡ true → m ≤ last) → first_come (if b then suc n else n) last ks ≡ true → (if b then suc n else n) ≤ last
step_le true n last ks more h = more (suc n) h
step_le false n last ks more h = more n h

pub first_come_le : (n last : ℕ) (ks : List ℕ) → first_come n last ks ≡ true → n ≤ last
first_come_le n last [] h = let e : n ≡ last = eqb-true n last h in omega (arith, e)
first_come_le n last (k ∷ ks) h = by (nat_eq k n) (step_le (nat_eq k n) n last ks (λ m g. first_come_le m last ks g) (and_parts (nat_le k n) (first_come (if nat_eq k n then suc n else n) last ks) h).1)
  where
    by : (b : Bool) → (if b then suc n else n) ≤ last → n ≤ last
    by true le = omega (arith, le)
    by false le = le

below_by : (b : Bool) (k n last : ℕ) → nat_eq k n ≡ b → k ≤ n → (if b then suc n else n) ≤ last → nat_lt k last ≡ true
below_by true k n last e le up = let s : k ≡ n = eqb-true k n e in let less : k < last = omega (arith, s, up) in grind (arith, nat_tests, less)
below_by false k n last e le up = let less : k < n = grind (arith, nat_tests, e, le) in let more : k < last = omega (arith, less, up) in grind (arith, nat_tests, more)

below_last : (n last : ℕ) (ks : List ℕ) → first_come n last ks ≡ true → list_all (λ k. nat_lt k last) ks ≡ true
below_last n last [] h = refl
below_last n last (k ∷ ks) h =
    let both = and_parts (nat_le k n) (first_come (if nat_eq k n then suc n else n) last ks) h in
    and_from (nat_lt k last) (list_all (λ j. nat_lt j last) ks)
    (below_by (nat_eq k n) k n last refl (leb-true k n both.0) (step_le (nat_eq k n) n last ks (λ m g. first_come_le m last ks g) both.1))
    (below_last (if nat_eq k n then suc n else n) last ks both.1)

-- where numbers that count end
counts_last : (n k : ℕ) (xs : List ℕ) → counts_from n (xs ++ k ∷ []) ≡ true → k ≡ n + length xs
counts_last n k [] h = let e : k ≡ n = eqb-true k n (and_parts (nat_eq k n) true h).0 in omega (arith, e)
counts_last n k (x ∷ xs) h = let e : k ≡ suc n + length xs = counts_last (suc n) k xs (and_parts (nat_eq x n) (counts_from (suc n) (xs ++ k ∷ [])) h).1 in omega (arith, e)

-- Instructions.

module _ (m : Module) (f : Function) (c : Context) where
  abbrev below : List ℕ → Bool
  below ks = list_all (λ k. nat_lt k (register_count f)) ks

  by_value : (ty : Scalar) (v : Value) (ks : List ℕ) → is_said m ty v ≡ true → below (cons_option (register_in v) ks) ≡ true → (is_lawful_value m f ty v ≡ true) × (below ks ≡ true)
  by_value ty (values.Register r) ks said low = and_parts (nat_lt r (register_count f)) (below ks) low
  by_value ty (values.Constant k) ks said low = (said, low)

  operands_lawful : (xs : List Argument) → list_all (λ a. is_said m a.ty a.value) xs ≡ true → below (registers_in xs) ≡ true → list_all (λ a. is_lawful_value m f a.ty a.value) xs ≡ true
  operands_lawful [] said low = refl
  operands_lawful (x ∷ xs) said low =
      let both = and_parts (is_said m x.ty x.value) (list_all (λ a. is_said m a.ty a.value) xs) said in
      let one = by_value x.ty x.value (registers_in xs) both.0 low in
      and_from (is_lawful_value m f x.ty x.value) (list_all (λ a. is_lawful_value m f a.ty a.value) xs) one.0 (operands_lawful xs both.1 one.1)

  labels_lawful : (ls : List (List ℕ)) → AllByRecursion (FromLabel (IsNamed c.names) c) ls → list_all is_name ls ≡ true
  labels_lawful [] h = refl
  labels_lawful (l ∷ ls) h =
      let n = h.0 in
      let name : is_name l ≡ true = ap is_name (sym n.2 ∙ ap (λ o. unwrap_or o []) n.1.1) ∙ n.1.2 in
      and_from (is_name l) (list_all is_name ls) name (labels_lawful ls h.1)

  abbrev pub IsRead : Op → Type 0
  IsRead o = Said m o × FromNames (IsNamed c.names) c o

  op_lawful : (o : Op) → IsRead o → below (registers_in (operands_of o)) ≡ true → is_lawful_op m f o ≡ true
  op_lawful o h low =
      three_true (has_form m o) (list_all (λ a. is_lawful_value m f a.ty a.value) (operands_of o)) (list_all is_name (labels_of o)) h.0.form (operands_lawful (operands_of o) h.0.values low) (labels_lawful (labels_of o) h.1.labels)

  -- both kinds of instructions are all
  either_low : (o : Op) → below (registers_in (operands_where false o)) ≡ true → below (registers_in (operands_where true o)) ≡ true → below (registers_in (operands_of o)) ≡ true
  either_low o plain lines = by (is_image_line o) plain lines
    where
      by : (v : Bool) → below (registers_in (if v then [] else operands_of o)) ≡ true → below (registers_in (if v then operands_of o else [])) ≡ true → below (registers_in (operands_of o)) ≡ true
      by false plain lines = plain
      by true plain lines = lines

  both_low : (xs ys : List ℕ) → below (xs ++ ys) ≡ true → (below xs ≡ true) × (below ys ≡ true)
  both_low xs ys low = and_parts (below xs) (below ys) (sym (list_all-append (λ k. nat_lt k (register_count f)) xs ys) ∙ low)

  instrs_lawful : (is : List Instr) → AllByRecursion (λ i. IsRead i.op) is → below (numbers_read false is) ≡ true → below (numbers_read true is) ≡ true → list_all (λ i. is_lawful_op m f i.op) is ≡ true
  instrs_lawful [] h plain lines = refl
  instrs_lawful (i ∷ is) h plain lines =
      let p = both_low (registers_in (operands_where false i.op)) (numbers_read false is) plain in
      let l = both_low (registers_in (operands_where true i.op)) (numbers_read true is) lines in
      and_from (is_lawful_op m f i.op) (list_all (λ j. is_lawful_op m f j.op) is) (op_lawful i.op h.0 (either_low i.op p.0 l.0)) (instrs_lawful is h.1 p.1 l.1)

  block_low : (lines : Bool) (b : Block) (bs : List Block) → below (all_read lines (b ∷ bs)) ≡ true → (below (numbers_read lines b.instrs) ≡ true) × (below (all_read lines bs) ≡ true)
  block_low lines b bs low =
      both_low (numbers_read lines b.instrs) (all_read lines bs) (ap below (sym (flat_map-append (λ i. registers_in (operands_where lines i.op)) b.instrs (flat_map (λ x. x.instrs) bs))) ∙ low)

  pub blocks_lawful : (bs : List Block) → AllByRecursion (λ b. AllByRecursion (λ i. IsRead i.op) b.instrs) bs → below (all_read false bs) ≡ true → below (all_read true bs) ≡ true → list_all (λ x. is_label x.name && ends_once x.instrs) bs ≡ true → list_all (is_lawful_block m f) bs ≡ true
  blocks_lawful [] h plain lines good = refl
  blocks_lawful (b ∷ bs) h plain lines good =
      let p = block_low false b bs plain in
      let l = block_low true b bs lines in
      let two = and_parts (is_label b.name && ends_once b.instrs) (list_all (λ x. is_label x.name && ends_once x.instrs) bs) good in
      let one = and_parts (is_label b.name) (ends_once b.instrs) two.0 in
      and_from (is_lawful_block m f b) (list_all (is_lawful_block m f) bs)
      (three_true (is_label b.name) (ends_once b.instrs) (list_all (λ i. is_lawful_op m f i.op) b.instrs) one.0 one.1 (instrs_lawful b.instrs h.0 p.0 l.0))
      (blocks_lawful bs h.1 p.1 l.1 two.1)

-- Parameters.

parameters_added : (names : List (List ℕ)) (count : ℕ) (ps : List Parameter) (done : List (Option ℕ)) → with_parameters names (numbering count done) ps ≡ numbering count (done ++ map (number_of names) (said_by ps))
parameters_added names count [] done = ap (numbering count) (sym (append-nil done))
parameters_added names count (p ∷ ps) done =
    parameters_added names count ps (done ++ number_of names p.name ∷ []) ∙ ap (numbering count) (append_assoc done (number_of names p.name ∷ []) (map (number_of names) (said_by ps)))

locals_named : (names : List (List ℕ)) (ts : List Tok) → AllByRecursion (IsTokenNamed names) ts → AllNamed (IsNamed names) ts
locals_named names [] h = tt
locals_named names (t ∷ ts) h = ((λ e. h.0.local (register_is t.kind e)), locals_named names ts h.1)

-- Functions.

pub body_lawful : (m : Module) (c : Context) (form : TextForm) (places : List Token) (head : Head) (ds es : List Block) → Tells m c → Names form m c → AreOnce c.names → length c.names ≤ nothing → ReadBody c form places head ds es → LawfulBody m c head ds es
body_lawful m c form places head ds es tells told once few read =
    let names : List (List ℕ) = c.names in
    let u : Context = unknown names in
    let W : List (List ℕ) = said_by head.params in
    let good : GoodHead names once head = head_good names once head read.opening read.short (locals_named names read.opening read.named_opening) read.is_head in
    let all : AllNamed (IsNamed names) read.body = locals_named names read.body read.named_body in
    let grown : Grown names once few c W = record { distinct = good.distinct; each = good.each } in
    let given : AllGiven names once few c form places ds es W = body_given names once few c form places head.numbered head.registers ds es read.body read.behind W read.alike read.unknown_is all grown good.numbers in
    let from = body_from (IsNamed names) u form places (FromNames (IsNamed names) u) (form_named (IsNamed names) u form) head.numbered head.registers es read.body read.behind read.unknown_is all in
    let plain = blocks_read names once few c form places false ds es given.gives.after read.alike from given.gives.grown in
    let lines = blocks_read names once few c form places true ds es plain.after read.alike from plain.grown in
    let reads =
    reads_then names once few c (λ ks. all_read false ds ++ ks) (λ ks. all_read true ds ++ ks) given.gives.after (with_all_read false (named_things names given.gives.after) es) (with_all_read true (named_things names plain.after) es) plain lines in
    let more = more_more names once few c W given.gives.after reads.after given.gives.more reads.more in
    let V : List (List ℕ) = more.0 in
    let start : with_parameters names (numbering (length names) []) head.params ≡ named_things names W = parameters_added names (length names) head.params [] in
    let table : registers_of names (numbering (length names) []) head.params es ≡ named_things names reads.after =
    ap (λ t. with_all_read true (with_all_read false (with_all_given t es) es) es) start
    ∙ ap (λ t. with_all_read true (with_all_read false t es) es) given.gives.is
    ∙ ap (λ t. with_all_read true t es) plain.is
    ∙ reads.is in
    let knows : c.registers ≡ table_of (named_things names (given.gives.after ++ reads.more.0)) = read.registers ∙ ap table_of table ∙ ap (λ ws. table_of (named_things names ws)) reads.more.1 in
    let knows_all : c.registers ≡ table_of (named_things names (reads.after ++ [])) = read.registers ∙ ap table_of table ∙ ap (λ ws. table_of (named_things names ws)) (sym (append-nil reads.after)) in
    record {
      locals = V;
      numbers = more.2;
      is = table ∙ ap (named_things names) more.1;
      lawful = λ name ret line.
          let f : Function = record { name = name; params = head.params; locals = V; ret = ret; blocks = Some ds; line = line } in
          let labels : LawfulLabels c once form places ds = body_labels c once form places head.numbered head.registers ds read.body read.behind read.known_is read.named_body in
          let size : length W ≡ length head.params = length-map head.params (λ p. p.name) in
          let total : length reads.after ≡ length head.params + length V = ap length more.1 ∙ length-append W V ∙ ap (λ n. n + length V) size in
          let parameters : length head.params ≤ mark_count read.opening = head_few names once head read.opening read.is_head in
          let further : length V ≤ length names = few_names names V (distinct_behind W V (ap is_distinct (sym more.1) ∙ reads.grown.distinct)) more.2 in
          let limit : mark_count read.opening + length names < 4294967295 = read.few in
          let fewer : length head.params + length V < 4294967295 = omega (arith, parameters, further, limit) in
          let counts : counts_from (length head.params) (all_given ds) ≡ true =
          ap (λ n. counts_from n (all_given ds)) (sym size) ∙ ap (counts_from (length W)) (sym (append-nil (all_given ds))) ∙ given.gives.counts reads.more.0 knows [] refl in
          let place : length given.gives.after ≡ length W + length (all_given ds) =
          counts_last (length W) (length given.gives.after) (all_given ds) (given.gives.counts reads.more.0 knows (length given.gives.after ∷ []) (and_from (nat_eq (length given.gives.after) (length given.gives.after)) true (eq_self (length given.gives.after)) refl)) in
          let here : length head.params + length (all_given ds) ≡ length given.gives.after = omega (arith, place, size) in
          let last : nat_eq (length reads.after) (register_count f) ≡ true = ap (λ n. nat_eq n (register_count f)) total ∙ eq_self (register_count f) in
          let comes : first_come (length head.params + length (all_given ds)) (register_count f) (all_read false ds ++ all_read true ds) ≡ true =
          ap (λ n. first_come n (register_count f) (all_read false ds ++ all_read true ds)) here
          ∙ ap (λ ks. first_come (length given.gives.after) (register_count f) (all_read false ds ++ ks)) (sym (append-nil (all_read true ds)))
          ∙ reads.comes [] knows_all (register_count f) [] last in
          let numbered : numbers_registers f ≡ true =
          and_from (counts_from (length head.params) (all_given ds)) (first_come (length head.params + length (all_given ds)) (register_count f) (all_read false ds ++ all_read true ds)) counts comes in
          let low =
          both_low m f c (all_read false ds) (all_read true ds) (below_last (length head.params + length (all_given ds)) (register_count f) (all_read false ds ++ all_read true ds) comes) in
          let ops =
          body_from (IsNamed names) c form places (IsRead m f c) (λ o ts h n. (form_said m c form tells told (written_lawful m c tells lawful) o ts h, form_named (IsNamed names) c form o ts h n)) head.numbered head.registers ds read.body read.behind read.known_is all in
          let each : list_all (is_lawful_block m f) ds ≡ true = blocks_lawful m f c ds ops low.0 low.1 labels.each in
          let some : nat_lt 0 (length ds) ≡ true = less_test 0 (length ds) (let e : length ds ≡ suc (length labels.some.1) = ap length labels.some.2 in omega (arith, e)) in
          let names_are : list_all is_name (W ++ V) ≡ true = ap (list_all is_name) (sym more.1) ∙ reads.grown.each in
          let names_once : is_distinct (W ++ V) ≡ true = ap is_distinct (sym more.1) ∙ reads.grown.distinct in
          seven_true (list_all is_name (W ++ V)) (is_distinct (W ++ V)) (nat_lt (register_count f) 4294967295) (nat_lt 0 (length ds)) (is_distinct (labels_in ds)) (list_all (is_lawful_block m f) ds) (numbers_registers f)
          names_are names_once (less_test (register_count f) 4294967295 fewer) some labels.distinct each numbered;
    }
