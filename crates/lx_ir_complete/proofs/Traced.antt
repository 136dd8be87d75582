-- The registers of a function, as a first reading meets them.
use Rattle.std.proofs.Common.{◌≡◌, ℕ, zero, suc, ◌+◌, ◌<◌, ◌≤◌, List, [], ◌∷◌, ◌++◌, length, map, take, Bool, true, false, not, ◌&&◌, refl, sym, ap, ◌∙◌, subst, arith, Option, Some, None, is_none, slice_get, get_or, nat_eq, nat_lt, nat_le, append_assoc, true≢false}
use Rattle.std.specs.Prelude.{if◌then◌else◌, fold, flat_map, filter_map}
use Rattle.std.specs.List.{AllZip, cons_option}
use Rattle.std.proofs.Math.Seq.{take-suc}
use Rattle.std.proofs.lemmas.Bool.{and_parts, eqb-true, leb-true}
use Rattle.std.proofs.lemmas.Bool.Decides.{nat_tests}
use Rattle.std.proofs.lemmas.Grind.{flat_map-append}
use Rattle.std.proofs.lemmas.List.{length-append}
use Rattle.std.proofs.lemmas.List.Elements.{filter_map-append}
use Rattle.std.proofs.lemmas.Option.{slice_get_within, get_or_from_slice_get}
use Rattle.lx_words.proofs.Lists.{option_joined}
use Rattle.lx_words.proofs.Tests.{eq_self}
use Rattle.lx_ir.specs.declared.module.Value.{Value}
use Rattle.lx_ir.specs.declared.module.Value.TheVariants as values
use Rattle.lx_ir.specs.declared.module.Block.{Block}
use Rattle.lx_ir.specs.declared.instr.Argument.{Argument}
use Rattle.lx_ir.specs.declared.instr.Instr.{Instr}
use Rattle.lx_ir.specs.Operands.{operands_where, given_by}
use Rattle.lx_ir.specs.Lawful.{counts_from, register_in, registers_in, numbers_read, first_come}
use Rattle.lx_ir_terms.specs.Context.{Context}
use Rattle.lx_ir_tables.specs.Numbering.{Numbering, numbering, has_name, number_from, number_named, with_thing, is_new}
use Rattle.lx_ir_tables.specs.Registers.{with_given, with_given_by, with_all_given, with_read, with_operands, with_read_by, with_all_read}
use Rattle.lx_ir_lawful.specs.Alike.{AlikeRegisters, AlikeValues, AlikeArguments, AlikeGiven, AlikeOps}
use Rattle.lx_ir_lawful.proofs.ReadWhere.{read_where}
use Rattle.lx_ir_lawful.proofs.LawfulBodies.{first_come_le}

-- Lists.

-- numbers that come first in their order go up
first_come_step : (b : Bool) (n last : ℕ) (ks : List ℕ) → ((m : ℕ) → first_come m last ks ≡ true → m ≤ last) → first_come (if b then suc n else n) last ks ≡ true → n ≤ last
first_come_step true n last ks more h = let le : suc n ≤ last = more (suc n) h in omega (arith, le)
first_come_step false n last ks more h = more n h

-- Things that have a name.

pub is_named : (n : ℕ) (x : Option ℕ) → has_name n x ≡ true → x ≡ Some n
is_named n None e = cc
is_named n (Some m) e = ap Some (eqb-true m n e)

some_number : (b : Bool) (j : ℕ) (o : Option ℕ) → is_none o ≡ false → is_none (if b then Some j else o) ≡ false
some_number true j o h = refl
some_number false j o h = h

-- a name that stands at one of the first places has a number among them
named_before : (xs : List (Option ℕ)) (j r k n : ℕ) → r < k → slice_get xs r ≡ Some (Some n) → is_none (number_from j (take k xs) n) ≡ false
named_before [] j r k n lt at = cc at
named_before (x ∷ xs) j zero (suc k) n lt at =
    let e : x ≡ Some n = cc at in
    ap (λ b. is_none (if b then Some j else number_from (suc j) (take k xs) n)) (ap (has_name n) e ∙ eq_self n)
named_before (x ∷ xs) j (suc r) (suc k) n lt at = some_number (has_name n x) j (number_from (suc j) (take k xs) n) (named_before xs (suc j) r k n (omega (arith, lt)) at)
named_before (x ∷ xs) j r zero n lt at = absurd (omega (arith, lt))

-- a name that stands at none of the first places has none
unnamed_step : (b : Bool) (x : Option ℕ) (xs : List (Option ℕ)) (j k n : ℕ) → has_name n x ≡ b → (slice_get (x ∷ xs) zero ≡ Some (Some n) → ⊥) → is_none (number_from (suc j) (take k xs) n) ≡ true → is_none (if b then Some j else number_from (suc j) (take k xs) n) ≡ true
unnamed_step true x xs j k n e none rest = absurd (none (ap Some (is_named n x e)))
unnamed_step false x xs j k n e none rest = rest

unnamed_before : (xs : List (Option ℕ)) (j k n : ℕ) → ((i : ℕ) → i < k → slice_get xs i ≡ Some (Some n) → ⊥) → is_none (number_from j (take k xs) n) ≡ true
unnamed_before [] j zero n none = refl
unnamed_before [] j (suc k) n none = refl
unnamed_before (x ∷ xs) j zero n none = refl
unnamed_before (x ∷ xs) j (suc k) n none =
    unnamed_step (has_name n x) x xs j k n refl (none zero (omega arith)) (unnamed_before xs (suc j) k n (λ i lt at. none (suc i) (omega (arith, lt)) at))

-- Registers.

module _ (c d : Context) (count : ℕ) (things : List (Option ℕ))
    (traced : (r s : ℕ) → AlikeRegisters c d r s → r < length things → slice_get things r ≡ Some (Some s))
    (apart : (i j n : ℕ) → slice_get things i ≡ Some (Some n) → slice_get things j ≡ Some (Some n) → i ≡ j)
    (within : (i n : ℕ) → slice_get things i ≡ Some (Some n) → n < count) where
  -- so many of the things
  abbrev pub so_far : ℕ → Numbering
  so_far k = numbering count (take k things)

  one_more : (k s : ℕ) → slice_get things k ≡ Some (Some s) → with_thing (so_far k) (Some s) ≡ so_far (suc k)
  one_more k s at =
      let lt : k < length things = slice_get_within things k (Some s) at in
      let it : get_or things k None ≡ Some s = get_or_from_slice_get things k (Some s) None at in
      ap (numbering count) (ap (λ x. take k things ++ x ∷ []) (sym it) ∙ sym (take-suc things k None lt))

  -- What instructions give.

  abbrev given_of : List Instr → List ℕ
  given_of is = filter_map (λ i. given_by i.op) is

  abbrev AlikeInside : List Instr → List Instr → Type 0
  AlikeInside is js = AllZip (λ i j. AlikeOps c d i.op j.op) is js

  given_step : (o p : Option ℕ) → AlikeGiven c d o p → (k : ℕ) (ks : List ℕ) → counts_from k (cons_option o ks) ≡ true → k + length (cons_option o ks) ≤ length things
      → (j : ℕ) × (with_given (so_far k) p ≡ so_far j) × (counts_from j ks ≡ true) × (j + length ks ≡ k + length (cons_option o ks))
  given_step None None a k ks h le = (k, refl, h, refl)
  given_step None (Some s) a k ks h le = absurd a
  given_step (Some r) None a k ks h le = absurd a
  given_step (Some r) (Some s) a k ks h le =
      let both = and_parts (nat_eq r k) (counts_from (suc k) ks) h in
      let same : r ≡ k = eqb-true r k both.0 in
      let lt : r < length things = omega (arith, le, same) in
      let at : slice_get things k ≡ Some (Some s) = ap (slice_get things) (sym same) ∙ traced r s a lt in
      let count_same : suc k + length ks ≡ k + suc (length ks) = omega arith in
      (suc k, one_more k s at, both.1, count_same)

  given_instrs : (is js : List Instr) → AlikeInside is js → (k : ℕ) (rest : List ℕ) → counts_from k (given_of is ++ rest) ≡ true → k + length (given_of is ++ rest) ≤ length things
      → (j : ℕ) × (with_given_by (so_far k) js ≡ so_far j) × (counts_from j rest ≡ true) × (j + length rest ≡ k + length (given_of is ++ rest))
  given_instrs [] [] a k rest h le = (k, refl, h, refl)
  given_instrs [] (j ∷ js) a k rest h le = absurd a
  given_instrs (i ∷ is) [] a k rest h le = absurd a
  given_instrs (i ∷ is) (j ∷ js) a k rest h le =
      let whole = option_joined (given_by i.op) (given_of is) rest in
      let one = given_step (given_by i.op) (given_by j.op) a.0.given k (given_of is ++ rest) (ap (counts_from k) (sym whole) ∙ h) (subst (λ ks. k + length ks ≤ length things) whole le) in
      let bound : one.0 + length (given_of is ++ rest) ≤ length things = subst (λ n. n ≤ length things) (sym (one.3 ∙ ap (λ ks. k + length ks) (sym whole))) le in
      let more = given_instrs is js a.1 one.0 rest one.2 bound in
      (more.0, ap (λ t. with_given_by t js) one.1 ∙ more.1, more.2, more.3 ∙ one.3 ∙ ap (λ ks. k + length ks) (sym whole))

  abbrev AlikeBodies : List Block → List Block → Type 0
  AlikeBodies bs es = AllZip (λ b e. AlikeInside b.instrs e.instrs) bs es

  -- the first block's, and what follows
  block_given : (b : Block) (bs : List Block) (rest : List ℕ) → given_of (flat_map (λ x. x.instrs) (b ∷ bs)) ++ rest ≡ given_of b.instrs ++ (given_of (flat_map (λ x. x.instrs) bs) ++ rest)
  block_given b bs rest =
      ap (λ ks. ks ++ rest) (filter_map-append (λ i. given_by i.op) b.instrs (flat_map (λ x. x.instrs) bs)) ∙ append_assoc (given_of b.instrs) (given_of (flat_map (λ x. x.instrs) bs)) rest

  pub given_blocks : (bs es : List Block) → AlikeBodies bs es → (k : ℕ) (rest : List ℕ) → counts_from k (given_of (flat_map (λ b. b.instrs) bs) ++ rest) ≡ true → k + length (given_of (flat_map (λ b. b.instrs) bs) ++ rest) ≤ length things
      → (j : ℕ) × (with_all_given (so_far k) es ≡ so_far j) × (counts_from j rest ≡ true) × (j + length rest ≡ k + length (given_of (flat_map (λ b. b.instrs) bs) ++ rest))
  given_blocks [] [] a k rest h le = (k, refl, h, refl)
  given_blocks [] (e ∷ es) a k rest h le = absurd a
  given_blocks (b ∷ bs) [] a k rest h le = absurd a
  given_blocks (b ∷ bs) (e ∷ es) a k rest h le =
      let whole = block_given b bs rest in
      let tail : List ℕ = given_of (flat_map (λ x. x.instrs) bs) ++ rest in
      let one = given_instrs b.instrs e.instrs a.0 k tail (ap (counts_from k) (sym whole) ∙ h) (subst (λ ks. k + length ks ≤ length things) whole le) in
      let bound : one.0 + length tail ≤ length things = subst (λ n. n ≤ length things) (sym (one.3 ∙ ap (λ ks. k + length ks) (sym whole))) le in
      let more = given_blocks bs es a.1 one.0 rest one.2 bound in
      (more.0, ap (λ t. with_all_given t es) one.1 ∙ more.1, more.2, more.3 ∙ one.3 ∙ ap (λ ks. k + length ks) (sym whole))

  -- What instructions read.

  new_one : (k s : ℕ) → slice_get things k ≡ Some (Some s) → is_new (so_far k) s ≡ true
  new_one k s at =
      let lt : s < count = within k s at in
      let none : is_none (number_named (take k things) s) ≡ true = unnamed_before things 0 k s (λ i less here. let same : i ≡ k = apart i k s here at in omega (arith, less, same)) in
      let below : nat_lt s count ≡ true = grind (arith, nat_tests, lt) in
      ap (λ b. b && is_none (number_named (take k things) s)) below ∙ none

  old_one : (b : Bool) (k r s : ℕ) → r < k → slice_get things r ≡ Some (Some s) → nat_lt s count ≡ b → is_new (so_far k) s ≡ false
  old_one true k r s lt at e = ap (λ b. b && is_none (number_named (take k things) s)) e ∙ named_before things 0 r k s lt at
  old_one false k r s lt at e = ap (λ b. b && is_none (number_named (take k things) s)) e

  abbrev Reads : ℕ → ℕ → List ℕ → Numbering → Type 0
  Reads k last ks t = (j : ℕ) × (t ≡ so_far j) × (first_come j last ks ≡ true)

  read_by : (b : Bool) (r s k last : ℕ) (ks : List ℕ) → AlikeRegisters c d r s → last ≤ length things → nat_eq r k ≡ b → r ≤ k → first_come (if b then suc k else k) last ks ≡ true → Reads k last ks (with_read (so_far k) (values.Register s))
  read_by true r s k last ks a le e less h =
      let same : r ≡ k = eqb-true r k e in
      let up : suc k ≤ last = first_come_le (suc k) last ks h in
      let lt : r < length things = omega (arith, le, same, up) in
      let at : slice_get things k ≡ Some (Some s) = ap (slice_get things) (sym same) ∙ traced r s a lt in
      (suc k, ap (λ b. if b then with_thing (so_far k) (Some s) else so_far k) (new_one k s at) ∙ one_more k s at, h)
  read_by false r s k last ks a le e less h =
      let below : r < k = grind (arith, nat_tests, e, less) in
      let up : k ≤ last = first_come_le k last ks h in
      let lt : r < length things = omega (arith, le, below, up) in
      (k, ap (λ b. if b then with_thing (so_far k) (Some s) else so_far k) (old_one (nat_lt s count) k r s below (traced r s a lt) refl), h)

  read_step : (v w : Value) → AlikeValues c d v w → (k last : ℕ) (ks : List ℕ) → last ≤ length things → first_come k last (cons_option (register_in v) ks) ≡ true → Reads k last ks (with_read (so_far k) w)
  read_step (values.Register r) (values.Register s) a k last ks le h =
      let both = and_parts (nat_le r k) (first_come (if nat_eq r k then suc k else k) last ks) h in
      read_by (nat_eq r k) r s k last ks a le refl (leb-true r k both.0) both.1
  read_step (values.Constant x) (values.Constant y) a k last ks le h = (k, refl, h)
  read_step (values.Register r) (values.Constant y) a k last ks le h = absurd a
  read_step (values.Constant x) (values.Register s) a k last ks le h = absurd a

  read_operands : (xs ys : List Argument) → AllZip (AlikeArguments c d) xs ys → (k last : ℕ) (rest : List ℕ) → last ≤ length things → first_come k last (registers_in xs ++ rest) ≡ true → Reads k last rest (with_operands (so_far k) ys)
  read_operands [] [] a k last rest le h = (k, refl, h)
  read_operands [] (y ∷ ys) a k last rest le h = absurd a
  read_operands (x ∷ xs) [] a k last rest le h = absurd a
  read_operands (x ∷ xs) (y ∷ ys) a k last rest le h =
      let one = read_step x.value y.value a.0 k last (registers_in xs ++ rest) le (ap (first_come k last) (sym (option_joined (register_in x.value) (registers_in xs) rest)) ∙ h) in
      let more = read_operands xs ys a.1 one.0 last rest le one.2 in
      (more.0, ap (λ t. with_operands t ys) one.1 ∙ more.1, more.2)

  read_instrs : (lines : Bool) (is js : List Instr) → AlikeInside is js → (k last : ℕ) (rest : List ℕ) → last ≤ length things → first_come k last (numbers_read lines is ++ rest) ≡ true → Reads k last rest (with_read_by lines (so_far k) js)
  read_instrs lines [] [] a k last rest le h = (k, refl, h)
  read_instrs lines [] (j ∷ js) a k last rest le h = absurd a
  read_instrs lines (i ∷ is) [] a k last rest le h = absurd a
  read_instrs lines (i ∷ is) (j ∷ js) a k last rest le h =
      let xs : List Argument = operands_where lines i.op in
      let one =
      read_operands xs (operands_where lines j.op) (read_where c d lines i.op j.op a.0) k last (numbers_read lines is ++ rest) le
      (ap (first_come k last) (sym (append_assoc (registers_in xs) (numbers_read lines is) rest)) ∙ h) in
      let more = read_instrs lines is js a.1 one.0 last rest le one.2 in
      (more.0, ap (λ t. with_read_by lines t js) one.1 ∙ more.1, more.2)

  block_read : (lines : Bool) (b : Block) (bs : List Block) (rest : List ℕ) → numbers_read lines (flat_map (λ x. x.instrs) (b ∷ bs)) ++ rest ≡ numbers_read lines b.instrs ++ (numbers_read lines (flat_map (λ x. x.instrs) bs) ++ rest)
  block_read lines b bs rest =
      ap (λ ks. ks ++ rest) (flat_map-append (λ i. registers_in (operands_where lines i.op)) b.instrs (flat_map (λ x. x.instrs) bs)) ∙ append_assoc (numbers_read lines b.instrs) (numbers_read lines (flat_map (λ x. x.instrs) bs)) rest

  pub read_blocks : (lines : Bool) (bs es : List Block) → AlikeBodies bs es → (k last : ℕ) (rest : List ℕ) → last ≤ length things → first_come k last (numbers_read lines (flat_map (λ b. b.instrs) bs) ++ rest) ≡ true → Reads k last rest (with_all_read lines (so_far k) es)
  read_blocks lines [] [] a k last rest le h = (k, refl, h)
  read_blocks lines [] (e ∷ es) a k last rest le h = absurd a
  read_blocks lines (b ∷ bs) [] a k last rest le h = absurd a
  read_blocks lines (b ∷ bs) (e ∷ es) a k last rest le h =
      let tail : List ℕ = numbers_read lines (flat_map (λ x. x.instrs) bs) ++ rest in
      let one = read_instrs lines b.instrs e.instrs a.0 k last tail le (ap (first_come k last) (sym (block_read lines b bs rest)) ∙ h) in
      let more = read_blocks lines bs es a.1 one.0 last rest le one.2 in
      (more.0, ap (λ t. with_all_read lines t es) one.1 ∙ more.1, more.2)
