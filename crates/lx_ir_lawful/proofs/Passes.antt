-- The registers that instructions give and read, one after the other.
use Rattle.std.proofs.Common.{◌≡◌, ℕ, suc, ◌+◌, ◌<◌, ◌≤◌, Bool, true, false, ◌&&◌, Option, Some, None, is_some, List, [], ◌∷◌, ◌++◌, length, map, slice_get, nat_eq, nat_lt, nat_le, refl, sym, ap, ◌∙◌, subst, arith, append_assoc}
use Rattle.std.specs.Prelude.{if◌then◌else◌, is_none}
use Rattle.std.specs.List.{AllZip, AllByRecursion, list_all, list_any, cons_option}
use Rattle.std.proofs.lemmas.Bool.Decides.{nat_tests}
use Rattle.std.proofs.lemmas.Bool.{or_from, and_from}
use Rattle.std.proofs.lemmas.List.{length-map, length-append, map-append, append-nil}
use Rattle.std.proofs.lemmas.List.Folds.{list_all-append}
use Rattle.std.proofs.lemmas.Option.{slice_get_within}
use Rattle.lx_words.proofs.Tests.{eq_self, le_self, below_fails, is_below, less_true}
use Rattle.lx_words.proofs.Options.{rest_of}
use Rattle.lx_words.proofs.Lists.{option_joined}
use Rattle.lx_ir_tokens.specs.Names.{number_of}
use Rattle.lx_ir.specs.declared.module.Value.{Value}
use Rattle.lx_ir.specs.declared.module.Value.TheVariants as values
use Rattle.lx_ir.specs.declared.instr.Argument.{Argument}
use Rattle.lx_ir.specs.declared.instr.Instr.{Instr}
use Rattle.lx_ir.specs.declared.instr.Op.{Op}
use Rattle.lx_ir.specs.Operands.{operands_of, operands_where, is_image_line}
use Rattle.lx_ir.specs.Lawful.{is_name, is_distinct, counts_from, register_in, registers_in, numbers_read, first_come}
use Rattle.lx_ir_terms.specs.Context.{Context, nothing, register_or, register_number}
use Rattle.lx_ir_statements.specs.Numbers.{has_number, has_some, with_some}
use Rattle.lx_ir_tables.specs.Numbering.{Numbering, numbering, number_from, number_named, table_of, with_thing, is_new}
use Rattle.lx_ir_tables.specs.Registers.{with_given, with_read, with_operands, with_read_by}
use Rattle.lx_ir_lawful.specs.Alike.{AlikeRegisters, AlikeValues, AlikeArguments, AlikeGiven, AlikeInstrs}
use Rattle.lx_ir_lawful.proofs.ReadWhere.{read_where}
use Rattle.lx_ir_lawful.specs.Named.{FromValue, FromArgument, FromNames}
use Rattle.lx_ir_lawful.specs.NamedThings.{somes, numbers_of, has_numbers, named_things, AreOnce}
use Rattle.lx_ir_lawful.specs.TokenNames.{IsNamed}
use Rattle.lx_ir_lawful.proofs.Placed.{number_at_place}
use Rattle.lx_ir_lawful.proofs.NamedThings.{somes_more, fresh, stays, within, new_number, names_grow}
use Rattle.lx_ir_lawful.proofs.RegisterTables.{unknown, register_is, own_is, alike_register}
use Rattle.lx_ir_lawful.proofs.Given.{IsGiven}

turned : (n m : ℕ) → nat_eq m n ≡ false → nat_eq n m ≡ false
turned n m h = grind (arith, nat_tests, h)

-- a name that has no number is not among the numbers
lacking : (xs : List (Option ℕ)) (j n : ℕ) → number_from j xs n ≡ None → has_number (somes xs) n ≡ false
lacking [] j n h = refl
lacking (None ∷ xs) j n h = lacking xs (suc j) n h
lacking (Some m ∷ xs) j n h =
    let both = rest_of (nat_eq m n) j (number_from (suc j) xs n) h in
    or_from (nat_eq n m) (list_any (nat_eq n) (somes xs)) (turned n m both.0) (lacking xs (suc j) n both.1)

module _ (names : List (List ℕ)) (once : AreOnce names) (few : length names ≤ nothing) (c : Context) where
  abbrev u : Context
  u = unknown names

  -- names, and further ones behind them, which have numbers
  abbrev pub IsMore : List (List ℕ) → List (List ℕ) → Type 0
  IsMore W after = (V : List (List ℕ)) × (after ≡ W ++ V) × (has_numbers names V ≡ true)

  pub more_none : (W : List (List ℕ)) → IsMore W W
  more_none W = ([], sym (append-nil W), refl)

  pub more_more : (W X Y : List (List ℕ)) → IsMore W X → IsMore X Y → IsMore W Y
  more_more W X Y (V, e, k) (V2, e2, k2) =
      (V ++ V2, e2 ∙ ap (λ v. v ++ V2) e ∙ append_assoc W V V2, list_all-append (λ v. is_some (number_of names v)) V V2 ∙ and_from (has_numbers names V) (has_numbers names V2) k k2)

  pub record Grown (W : List (List ℕ)) : Type 0 where
    pub distinct : is_distinct W ≡ true
    pub each : list_all is_name W ≡ true

  -- the table of a context that knows these registers, and perhaps further ones behind them
  abbrev pub Knows : List (List ℕ) → List (List ℕ) → Type 0
  Knows W R = c.registers ≡ table_of (named_things names (W ++ R))

  pub knows_more : (W X R : List (List ℕ)) (m : IsMore W X) → Knows X R → Knows W (m.0 ++ R)
  knows_more W X R (V, e, k) h = h ∙ ap (λ ws. table_of (named_things names ws)) (ap (λ v. v ++ R) e ∙ append_assoc W V R)

  -- One name more.

  record One (W : List (List ℕ)) (n : ℕ) (after : List (List ℕ)) : Type 0 where
    more : IsMore W after
    grown : Grown after
    is : named_things names after ≡ with_thing (named_things names W) (Some n)
    size : length after ≡ suc (length W)
    number : (R : List (List ℕ)) → Knows after R → register_number c n ≡ length W

  one_more : (W : List (List ℕ)) (n : ℕ) (w : List ℕ) → slice_get names n ≡ Some w → is_name w ≡ true → Grown W → number_named (map (number_of names) W) n ≡ None → One W n (W ++ w ∷ [])
  one_more W n w at name g none =
      let it : number_of names w ≡ Some n = number_at_place names once n w at in
      let things : map (number_of names) (W ++ w ∷ []) ≡ map (number_of names) W ++ Some n ∷ [] =
      map-append (number_of names) W (w ∷ []) ∙ ap (λ o. map (number_of names) W ++ o ∷ []) it in
      record {
        more = (w ∷ [], refl, and_from (is_some (number_of names w)) true (ap is_some it) refl);
        grown = record {
          distinct = names_grow names W n w once at g.distinct (lacking (map (number_of names) W) 0 n none);
          each = list_all-append is_name W (w ∷ []) ∙ and_from (list_all is_name W) (is_name w && true) g.each (and_from (is_name w) true name refl);
        };
        is = ap (numbering (length names)) things;
        size = let l : length (W ++ w ∷ []) ≡ length W + 1 = length-append W (w ∷ []) in omega (arith, l);
        number = λ R knows.
            let lt : n < length names = slice_get_within names n w at in
            let all : map (number_of names) ((W ++ w ∷ []) ++ R) ≡ (map (number_of names) W ++ Some n ∷ []) ++ map (number_of names) R =
            map-append (number_of names) (W ++ w ∷ []) R ∙ ap (λ xs. xs ++ map (number_of names) R) things in
            register_is c (length names) n (map (number_of names) ((W ++ w ∷ []) ++ R)) knows lt
            ∙ ap (λ xs. register_or (number_named xs n)) all
            ∙ ap register_or (new_number (map (number_of names) W) (map (number_of names) R) n none)
            ∙ length-map W (number_of names);
      }

  -- What is given.

  pub record Gives (rs : List ℕ → List ℕ) (W : List (List ℕ)) (taken : List ℕ) (t : Numbering) : Type 0 where
    pub after : List (List ℕ)
    pub more : IsMore W after
    pub grown : Grown after
    pub is : t ≡ named_things names after
    pub taken_is : numbers_of names after ≡ taken
    pub counts : (R : List (List ℕ)) → Knows after R → (ks : List ℕ) → counts_from (length after) ks ≡ true → counts_from (length W) (rs ks) ≡ true

  given_some : (r s n : ℕ) (W : List (List ℕ)) (taken : List ℕ) → AlikeRegisters c u r s → register_number u n ≡ s → IsNamed names n → Grown W → numbers_of names W ≡ taken → has_number taken n ≡ false
      → Gives (λ ks. r ∷ ks) W (with_some taken (Some n)) (with_given (named_things names W) (Some s))
  given_some r s n W taken alike e (w, at, name) g t free =
      let lt : n < length names = slice_get_within names n w at in
      let same : s ≡ n = sym e ∙ own_is names n lt in
      let none : number_named (map (number_of names) W) n ≡ None = fresh (map (number_of names) W) 0 n (ap (λ ns. has_number ns n) t ∙ free) in
      let one = one_more W n w at name g none in
      let it : number_of names w ≡ Some n = number_at_place names once n w at in
      record {
        after = W ++ w ∷ [];
        more = one.more;
        grown = one.grown;
        is = ap (λ k. with_thing (named_things names W) (Some k)) same ∙ sym one.is;
        taken_is =
            ap somes (map-append (number_of names) W (w ∷ []) ∙ ap (λ o. map (number_of names) W ++ o ∷ []) it)
            ∙ somes_more (map (number_of names) W) (Some n) taken t free;
        counts = λ R knows ks h.
            let here : register_number c n ≡ r = ap (register_number c) (sym same) ∙ alike_register names c r s few alike (subst (λ k. k < length names) (sym same) lt) in
            let place : r ≡ length W = sym here ∙ one.number R knows in
            and_from (nat_eq r (length W)) (counts_from (suc (length W)) ks) (ap (λ k. nat_eq k (length W)) place ∙ eq_self (length W)) (ap (λ k. counts_from k ks) (sym one.size) ∙ h);
      }

  pub given_one : (o p first : Option ℕ) (W : List (List ℕ)) (taken : List ℕ) → AlikeGiven c u o p → IsGiven u p first → ((n : ℕ) → first ≡ Some n → IsNamed names n) → Grown W → numbers_of names W ≡ taken → has_some taken first ≡ false
      → Gives (λ ks. cons_option o ks) W (with_some taken first) (with_given (named_things names W) p)
  given_one None None first W taken alike given named g t free =
      record {
        after = W;
        more = more_none W;
        grown = g;
        is = refl;
        taken_is = t ∙ sym (ap (with_some taken) given);
        counts = λ R knows ks h. h;
      }
  given_one (Some r) (Some s) first W taken alike (n, is, e) named g t free =
      subst (λ f. Gives (λ ks. r ∷ ks) W (with_some taken f) (with_given (named_things names W) (Some s))) (sym is)
      (given_some r s n W taken alike e (named n is) g t (ap (has_some taken) (sym is) ∙ free))
  given_one None (Some s) first W taken alike given named g t free = absurd alike
  given_one (Some r) None first W taken alike given named g t free = absurd alike

  -- What is read.

  pub record Reads (rs : List ℕ → List ℕ) (W : List (List ℕ)) (t : Numbering) : Type 0 where
    pub after : List (List ℕ)
    pub more : IsMore W after
    pub grown : Grown after
    pub is : t ≡ named_things names after
    pub comes : (R : List (List ℕ)) → Knows after R → (last : ℕ) (ks : List ℕ) → first_come (length after) last ks ≡ true → first_come (length W) last (rs ks) ≡ true

  pub reads_none : (W : List (List ℕ)) → Grown W → Reads (λ ks. ks) W (named_things names W)
  reads_none W g = record { after = W; more = more_none W; grown = g; is = refl; comes = λ R knows last ks h. h }

  read_new : (r s n : ℕ) (w : List ℕ) (W : List (List ℕ)) → AlikeRegisters c u r s → s ≡ n → slice_get names n ≡ Some w → is_name w ≡ true → Grown W → number_named (map (number_of names) W) n ≡ None → Reads (λ ks. r ∷ ks) W (with_read (named_things names W) (values.Register s))
  read_new r s n w W alike same at name g none =
      let lt : n < length names = slice_get_within names n w at in
      let one = one_more W n w at name g none in
      let new : is_new (named_things names W) n ≡ true = and_from (nat_lt n (length names)) (is_none (number_named (map (number_of names) W) n)) (less_true n (length names) lt) (ap is_none none) in
      record {
        after = W ++ w ∷ [];
        more = one.more;
        grown = one.grown;
        is =
            ap (λ k. with_read (named_things names W) (values.Register k)) same
            ∙ ap (λ b. if b then with_thing (named_things names W) (Some n) else named_things names W) new
            ∙ sym one.is;
        comes = λ R knows last ks h.
            let here : register_number c n ≡ r = ap (register_number c) (sym same) ∙ alike_register names c r s few alike (subst (λ k. k < length names) (sym same) lt) in
            let place : r ≡ length W = sym here ∙ one.number R knows in
            and_from (nat_le r (length W)) (first_come (if nat_eq r (length W) then suc (length W) else length W) last ks)
            (ap (λ k. nat_le k (length W)) place ∙ le_self (length W))
            (ap (λ b. first_come (if b then suc (length W) else length W) last ks) (ap (λ k. nat_eq k (length W)) place ∙ eq_self (length W)) ∙ ap (λ k. first_come k last ks) (sym one.size) ∙ h);
      }

  read_old : (r s n k : ℕ) (w : List ℕ) (W : List (List ℕ)) → AlikeRegisters c u r s → s ≡ n → slice_get names n ≡ Some w → Grown W → number_named (map (number_of names) W) n ≡ Some k → Reads (λ ks. r ∷ ks) W (with_read (named_things names W) (values.Register s))
  read_old r s n k w W alike same at g old =
      let lt : n < length names = slice_get_within names n w at in
      let new : is_new (named_things names W) n ≡ false = ap (λ o. nat_lt n (length names) && is_none o) old ∙ ap (λ b. b && false) (less_true n (length names) lt) in
      let low : k < 0 + length (map (number_of names) W) = within (map (number_of names) W) 0 n k old in
      let less : k < length W = omega (arith, low, length-map W (number_of names)) in
      record {
        after = W;
        more = more_none W;
        grown = g;
        is =
            ap (λ m. with_read (named_things names W) (values.Register m)) same
            ∙ ap (λ b. if b then with_thing (named_things names W) (Some n) else named_things names W) new;
        comes = λ R knows last ks h.
            let here : register_number c n ≡ r = ap (register_number c) (sym same) ∙ alike_register names c r s few alike (subst (λ m. m < length names) (sym same) lt) in
            let number : register_number c n ≡ k =
            register_is c (length names) n (map (number_of names) (W ++ R)) knows lt
            ∙ ap (λ xs. register_or (number_named xs n)) (map-append (number_of names) W R)
            ∙ ap register_or (stays (map (number_of names) W) (map (number_of names) R) 0 n k old) in
            let place : r ≡ k = sym here ∙ number in
            and_from (nat_le r (length W)) (first_come (if nat_eq r (length W) then suc (length W) else length W) last ks)
            (ap (λ m. nat_le m (length W)) place ∙ is_below k (length W) less)
            (ap (λ b. first_come (if b then suc (length W) else length W) last ks) (ap (λ m. nat_eq m (length W)) place ∙ below_fails k (length W) less) ∙ h);
      }

  read_register : (r s n : ℕ) (w : List ℕ) (W : List (List ℕ)) (found : Option ℕ) → AlikeRegisters c u r s → s ≡ n → slice_get names n ≡ Some w → is_name w ≡ true → Grown W → number_named (map (number_of names) W) n ≡ found → Reads (λ ks. r ∷ ks) W (with_read (named_things names W) (values.Register s))
  read_register r s n w W None alike same at name g e = read_new r s n w W alike same at name g e
  read_register r s n w W (Some k) alike same at name g e = read_old r s n k w W alike same at g e

  read_one : (v x : Value) (W : List (List ℕ)) → AlikeValues c u v x → FromValue (IsNamed names) u x → Grown W → Reads (λ ks. cons_option (register_in v) ks) W (with_read (named_things names W) x)
  read_one (values.Register r) (values.Register s) W alike (n, (w, at, name), e) g =
      let same : s ≡ n = sym e ∙ own_is names n (slice_get_within names n w at) in
      read_register r s n w W (number_named (map (number_of names) W) n) alike same at name g refl
  read_one (values.Constant x) (values.Constant y) W alike from g = reads_none W g
  read_one (values.Register r) (values.Constant y) W alike from g = absurd alike
  read_one (values.Constant x) (values.Register s) W alike from g = absurd alike

  -- one after the other
  pub reads_then : (p q : List ℕ → List ℕ) (W : List (List ℕ)) (t s : Numbering) (a : Reads p W t) → Reads q a.after s → Reads (λ ks. p (q ks)) W s
  reads_then p q W t s a b =
      record {
        after = b.after;
        more = more_more W a.after b.after a.more b.more;
        grown = b.grown;
        is = b.is;
        comes = λ R knows last ks h. a.comes (b.more.0 ++ R) (knows_more a.after b.after R b.more knows) last (q ks) (b.comes R knows last ks h);
      }

  operands_read : (xs ys : List Argument) (W : List (List ℕ)) → AllZip (AlikeArguments c u) xs ys → AllByRecursion (FromArgument (IsNamed names) u) ys → Grown W → Reads (λ ks. registers_in xs ++ ks) W (with_operands (named_things names W) ys)
  operands_read [] [] W alike from g = reads_none W g
  operands_read [] (y ∷ ys) W alike from g = absurd alike
  operands_read (x ∷ xs) [] W alike from g = absurd alike
  operands_read (x ∷ xs) (y ∷ ys) W alike from g =
      let one = read_one x.value y.value W alike.0 from.0 g in
      let rest = operands_read xs ys one.after alike.1 from.1 one.grown in
      let both = reads_then (λ ks. cons_option (register_in x.value) ks) (λ ks. registers_in xs ++ ks) W (with_read (named_things names W) y.value) (with_operands (named_things names one.after) ys) one rest in
      record {
        after = both.after;
        more = both.more;
        grown = both.grown;
        is = ap (λ t. with_operands t ys) one.is ∙ both.is;
        comes = λ R knows last ks h. ap (first_come (length W) last) (option_joined (register_in x.value) (registers_in xs) ks) ∙ both.comes R knows last ks h;
      }

  -- what comes from names does so as a line of images, and as another
  from_where : (lines : Bool) (o : Op) → AllByRecursion (FromArgument (IsNamed names) u) (operands_of o) → AllByRecursion (FromArgument (IsNamed names) u) (operands_where lines o)
  from_where true o from = by (is_image_line o)
    where
      by : (v : Bool) → AllByRecursion (FromArgument (IsNamed names) u) (if v then operands_of o else [])
      by true = from
      by false = tt
  from_where false o from = by (is_image_line o)
    where
      by : (v : Bool) → AllByRecursion (FromArgument (IsNamed names) u) (if v then [] else operands_of o)
      by true = tt
      by false = from

  pub instrs_read : (lines : Bool) (is js : List Instr) (W : List (List ℕ)) → AllZip (AlikeInstrs c u) is js → AllByRecursion (λ j. FromNames (IsNamed names) u j.op) js → Grown W
      → Reads (λ ks. numbers_read lines is ++ ks) W (with_read_by lines (named_things names W) js)
  instrs_read lines [] [] W alike from g = reads_none W g
  instrs_read lines [] (j ∷ js) W alike from g = absurd alike
  instrs_read lines (i ∷ is) [] W alike from g = absurd alike
  instrs_read lines (i ∷ is) (j ∷ js) W alike from g =
      let one = operands_read (operands_where lines i.op) (operands_where lines j.op) W (read_where c u lines i.op j.op alike.0.0) (from_where lines j.op from.0.read) g in
      let rest = instrs_read lines is js one.after alike.1 from.1 one.grown in
      let both = reads_then (λ ks. registers_in (operands_where lines i.op) ++ ks) (λ ks. numbers_read lines is ++ ks) W (with_operands (named_things names W) (operands_where lines j.op)) (with_read_by lines (named_things names one.after) js) one rest in
      record {
        after = both.after;
        more = both.more;
        grown = both.grown;
        is = ap (λ t. with_read_by lines t js) one.is ∙ both.is;
        comes = λ R knows last ks h. ap (first_come (length W) last) (append_assoc (registers_in (operands_where lines i.op)) (numbers_read lines is) ks) ∙ both.comes R knows last ks h;
      }
