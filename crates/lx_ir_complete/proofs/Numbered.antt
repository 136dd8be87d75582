-- The registers of a function are numbered as the function numbers them.
use Rattle.std.proofs.Common.{◌≡◌, ℕ, zero, suc, ◌+◌, ◌<◌, ◌≤◌, List, [], ◌∷◌, ◌++◌, length, map, take, Bool, true, false, not, ◌&&◌, ◌||◌, bytes_eq, true≢false, refl, sym, ap, ◌∙◌, subst, arith, Option, Some, None, slice_get, nat_eq, nat_lt}
use Rattle.std.specs.Prelude.{if◌then◌else◌, fold, flat_map, filter_map}
use Rattle.std.specs.Option.{option_flatten}
use Rattle.std.specs.List.{AllZip, list_any}
use Rattle.std.proofs.lemmas.Slice.Eq.{bytes_eq-Decides}
use Rattle.std.proofs.Math.Seq.{take-length}
use Rattle.std.proofs.lemmas.Bool.{and_parts, ltb-true, eqb-true}
use Rattle.std.proofs.lemmas.List.{length-map, length-append, map-append, take_all, take_at, append-nil}
use Rattle.std.proofs.lemmas.Option.{slice_get_within, slice_get_past, slice_get-map}
use Rattle.lx_words.proofs.Tests.{not_less}
use Rattle.lx_ir.specs.declared.module.Block.{Block}
use Rattle.lx_ir.specs.declared.module.Function.{Function}
use Rattle.lx_ir.specs.declared.instr.Instr.{Instr}
use Rattle.lx_ir.specs.declared.instr.Op.{Op}
use Rattle.lx_ir.specs.Lookup.{blocks_of_option}
use Rattle.lx_ir.specs.Operands.{register_count, given_numbers, given_by}
use Rattle.lx_ir.specs.Text.{register_names}
use Rattle.lx_ir.specs.Lawful.{is_distinct, counts_from, first_come, read_numbers, numbers_read, numbers_registers}
use Rattle.lx_ir_tokens.specs.Names.{number_of}
use Rattle.lx_ir_lawful.proofs.NameNumbers.{named}
use Rattle.lx_ir_terms.specs.Context.{Context, entry, nothing, register_or, register_number}
use Rattle.lx_ir_tables.specs.Numbering.{Numbering, numbering, has_name, number_from, number_named, table_of, with_thing}
use Rattle.lx_ir_tables.specs.Registers.{with_parameters, with_all_given, with_all_read, registers_of}
use Rattle.lx_ir_tables.proofs.Noting.{numbers_long}
use Rattle.lx_ir_lawful.specs.Alike.{knowing_registers, AlikeRegisters, AlikeOps, AlikeInstrs, AlikeBlocks}
use Rattle.lx_ir_lawful.proofs.LawfulBodies.{first_come_le}
use Rattle.lx_ir_lawful.proofs.RegisterTables.{own_at}
use Rattle.lx_ir_complete.specs.Said.{SameOps, SameBlocks}
use Rattle.lx_ir_complete.specs.KnownTables.{AreOnce, named_things, HasRegisters}
use Rattle.lx_ir_complete.specs.KnownLaws.{unknown}
use Rattle.lx_ir_complete.proofs.TableNumbers.{entry_is}
use Rattle.lx_ir_complete.proofs.Traced.{given_blocks, read_blocks, is_named}
use Rattle.lx_ir_complete.proofs.KeptNames.{parameters_added, named_parameters}

-- Tables.

-- the thing that has a number
abbrev Thing : List (Option ℕ) → ℕ → ℕ → ℕ → Type 0
Thing xs j n m = (k : ℕ) × (m ≡ j + k) × (slice_get xs k ≡ Some (Some n))

numbered_step : (b : Bool) (x : Option ℕ) (xs : List (Option ℕ)) (j n m : ℕ) → has_name n x ≡ b → (number_from (suc j) xs n ≡ Some m → Thing xs (suc j) n m) → (if b then Some j else number_from (suc j) xs n) ≡ Some m → Thing (x ∷ xs) j n m
numbered_step true x xs j n m h more g = let same : j ≡ m = cc g in let place : m ≡ j + 0 = omega (arith, same) in (0, place, ap Some (is_named n x h))
numbered_step false x xs j n m h more g =
    let rest = more g in
    let place : m ≡ j + suc rest.0 = omega (arith, rest.1) in
    (suc rest.0, place, rest.2)

numbered : (xs : List (Option ℕ)) (j n m : ℕ) → number_from j xs n ≡ Some m → Thing xs j n m
numbered [] j n m e = cc
numbered (x ∷ xs) j n m e = numbered_step (has_name n x) x xs j n m refl (λ g. numbered xs (suc j) n m g) e

within_or_past : (n c : ℕ) (b : Bool) → nat_lt n c ≡ b → (things : List (Option ℕ)) (r : ℕ) → register_or (entry (table_of (numbering c things)) n) ≡ r → r < nothing → (n < c) × (slice_get things r ≡ Some (Some n))
within_or_past n c true e things r is lt = (less, by (number_named things n) refl)
  where
    less : n < c
    less = ltb-true n c e

    told : entry (table_of (numbering c things)) n ≡ number_named things n
    told = ap option_flatten (entry_is c n things less)

    by : (o : Option ℕ) → number_named things n ≡ o → slice_get things r ≡ Some (Some n)
    by None g = let it : nothing ≡ r = ap register_or (sym (told ∙ g)) ∙ is in absurd (omega (arith, it, lt))
    by (Some k) g =
        let it : k ≡ r = ap register_or (sym (told ∙ g)) ∙ is in
        let at = numbered things 0 n k g in
        let place : at.0 ≡ r = omega (arith, at.1, it) in
        subst (λ i. slice_get things i ≡ Some (Some n)) place at.2
within_or_past n c false e things r is lt =
    let past : c ≤ n = omega (arith, not_less n c e) in
    let none : slice_get (table_of (numbering c things)) n ≡ None = slice_get_past (table_of (numbering c things)) n (subst (λ l. l ≤ n) (sym (numbers_long 0 c things)) past) in
    let it : nothing ≡ r = ap (λ o. register_or (option_flatten o)) (sym none) ∙ is in
    absurd (omega (arith, it, lt))

-- Blocks with the same instructions.

same_inside : (c d : Context) (is js ks : List Instr) → SameOps is js → AllZip (λ i k. AlikeOps c d i.op k.op) is ks → AllZip (λ j k. AlikeOps c d j.op k.op) js ks
same_inside c d [] [] ks same a = a
same_inside c d [] (j ∷ js) ks same a = cc same
same_inside c d (i ∷ is) [] ks same a = cc same
same_inside c d (i ∷ is) (j ∷ js) [] same a = absurd a
same_inside c d (i ∷ is) (j ∷ js) (k ∷ ks) same a =
    let one : i.op ≡ j.op = cc same in
    let more : map (λ x. x.op) is ≡ map (λ x. x.op) js = cc same in
    (subst (λ o. AlikeOps c d o k.op) one a.0, same_inside c d is js ks more a.1)

ops_alike : (c d : Context) (is ks : List Instr) → AllZip (AlikeInstrs c d) is ks → AllZip (λ i k. AlikeOps c d i.op k.op) is ks
ops_alike c d [] [] a = a
ops_alike c d [] (k ∷ ks) a = absurd a
ops_alike c d (i ∷ is) [] a = absurd a
ops_alike c d (i ∷ is) (k ∷ ks) a = (a.0.0, ops_alike c d is ks a.1)

bodies_alike : (c d : Context) (ds bs es : List Block) → SameBlocks ds bs → AllZip (AlikeBlocks c d) ds es → AllZip (λ b e. AllZip (λ i j. AlikeOps c d i.op j.op) b.instrs e.instrs) bs es
bodies_alike c d [] [] es same a = a
bodies_alike c d [] (b ∷ bs) es same a = absurd same
bodies_alike c d (x ∷ ds) [] es same a = absurd same
bodies_alike c d (x ∷ ds) (b ∷ bs) [] same a = absurd a
bodies_alike c d (x ∷ ds) (b ∷ bs) (e ∷ es) same a =
    (same_inside c d x.instrs b.instrs e.instrs same.0.1 (ops_alike c d x.instrs e.instrs a.0.1), bodies_alike c d ds bs es same.1 a.1)

-- Parameters.

-- Things at places.

thing_named : (names ws : List (List ℕ)) (i n : ℕ) → slice_get (map (number_of names) ws) i ≡ Some (Some n) → (w : List ℕ) × (slice_get ws i ≡ Some w) × (number_of names w ≡ Some n)
thing_named names [] i n a = cc a
thing_named names (w ∷ ws) zero n a = (w, refl, some_thing (number_of names w) a)
  where
    some_thing : (o : Option ℕ) → Some o ≡ Some (Some n) → o ≡ Some n
    some_thing o e = cc e
thing_named names (w ∷ ws) (suc i) n a = thing_named names ws i n a

distinct_places : (names said : List (List ℕ)) → AreOnce said → (i j n : ℕ) → slice_get (map (number_of names) said) i ≡ Some (Some n) → slice_get (map (number_of names) said) j ≡ Some (Some n) → i ≡ j
distinct_places names said once i j n a b =
    let x = thing_named names said i n a in
    let y = thing_named names said j n b in
    let same : x.0 ≡ y.0 = some_same x.0 y.0 (sym (named names x.0 n x.2) ∙ named names y.0 n y.2) in
    once i j y.0 (x.1 ∙ ap Some same) y.1
  where
    some_same : (x y : List ℕ) → Some x ≡ Some y → x ≡ y
    some_same x y e = cc e

stands : (xs : List (List ℕ)) (j : ℕ) (x : List ℕ) → slice_get xs j ≡ Some x → list_any (bytes_eq x) xs ≡ true
stands [] j x at = cc at
stands (y ∷ ys) zero x at =
    let same : y ≡ x = cc at in
    ap (λ b. b || list_any (bytes_eq x) ys) ((bytes_eq-Decides x y).1 (sym same))
stands (y ∷ ys) (suc j) x at = or_right (bytes_eq x y) (list_any (bytes_eq x) ys) (stands ys j x at)
  where
    or_right : (a b : Bool) → b ≡ true → (a || b) ≡ true
    or_right true b e = refl
    or_right false b e = e

pub once_of : (xs : List (List ℕ)) → is_distinct xs ≡ true → AreOnce xs
once_of [] d i j name a b = cc a
once_of (x ∷ xs) d zero zero name a b = refl
once_of (x ∷ xs) d zero (suc j) name a b =
    let same : x ≡ name = cc a in
    let absent = (and_parts (not (list_any (bytes_eq x) xs)) (is_distinct xs) d).0 in
    absurd (true≢false (sym absent ∙ ap not (stands xs j x (b ∙ ap Some (sym same)))))
once_of (x ∷ xs) d (suc i) zero name a b =
    let same : x ≡ name = cc b in
    let absent = (and_parts (not (list_any (bytes_eq x) xs)) (is_distinct xs) d).0 in
    absurd (true≢false (sym absent ∙ ap not (stands xs i x (a ∙ ap Some (sym same)))))
once_of (x ∷ xs) d (suc i) (suc j) name a b = ap suc (once_of xs (and_parts (not (list_any (bytes_eq x) xs)) (is_distinct xs) d).1 i j name a b)

-- The registers.

module _ (f : Function) (c : Context) (few : register_count f < nothing) (has : HasRegisters f c) where
  abbrev things : List (Option ℕ)
  things = map (number_of c.names) (register_names f)

  abbrev d : Context
  d = unknown c.names

  count_things : length things ≡ register_count f
  count_things =
      length-map (register_names f) (number_of c.names) ∙ length-append (map (λ p. p.name) f.params) f.locals ∙ ap (λ n. n + length f.locals) (length-map f.params (λ p. p.name))

  traced : (r s : ℕ) → AlikeRegisters c d r s → r < length things → slice_get things r ≡ Some (Some s)
  traced r s (n, e, g) lt =
      let less : r < nothing = omega (arith, lt, count_things, few) in
      let here = within_or_past n (length c.names) (nat_lt n (length c.names)) refl things r (ap (λ t. register_or (entry t n)) (sym has) ∙ e) less in
      let none : 0 + n ≡ n = omega arith in
      let told : 0 + n ≡ s = ap (λ o. register_or (option_flatten o)) (sym (own_at 0 (length c.names) n here.0)) ∙ g in
      let own : n ≡ s = sym none ∙ told in
      here.1 ∙ ap (λ x. Some (Some x)) own

  within : (i n : ℕ) → slice_get things i ≡ Some (Some n) → n < length c.names
  within i n at = let w = thing_named c.names (register_names f) i n at in slice_get_within c.names n w.0 (named c.names w.0 n w.2)

  parameters_first : with_parameters c.names (numbering (length c.names) []) f.params ≡ numbering (length c.names) (take (length f.params) things)
  parameters_first =
      let front : List (Option ℕ) = map (number_of c.names) (map (λ p. p.name) f.params) in
      let count : length front ≡ length f.params = length-map (map (λ p. p.name) f.params) (number_of c.names) ∙ length-map f.params (λ p. p.name) in
      let whole : take (length f.params) things ≡ front =
      ap (take (length f.params)) (map-append (number_of c.names) (map (λ p. p.name) f.params) f.locals) ∙ take_at front (map (number_of c.names) f.locals) (length f.params) count in
      parameters_added c.names (length c.names) f.params [] ∙ ap (numbering (length c.names)) (sym (whole ∙ named_parameters c.names f.params))

  numbered_by : (bs es : List Block) → f.blocks ≡ Some bs → numbers_registers f ≡ true → is_distinct (register_names f) ≡ true → AllZip (λ b e. AllZip (λ i j. AlikeOps c d i.op j.op) b.instrs e.instrs) bs es
      → registers_of c.names (numbering (length c.names) []) f.params es ≡ numbering (length c.names) things
  numbered_by bs es body numbers distinct alike =
      let count : ℕ = length c.names in
      let apart = distinct_places c.names (register_names f) (once_of (register_names f) distinct) in
      let both = and_parts (counts_from (length f.params) (given_numbers f)) (first_come (length f.params + length (given_numbers f)) (register_count f) (read_numbers f)) numbers in
      let given : List ℕ = filter_map (λ i. given_by i.op) (flat_map (λ b. b.instrs) bs) in
      let plain : List ℕ = numbers_read false (flat_map (λ b. b.instrs) bs) in
      let lines : List ℕ = numbers_read true (flat_map (λ b. b.instrs) bs) in
      let given_same : given_numbers f ≡ given = ap (λ o. filter_map (λ i. given_by i.op) (flat_map (λ b. b.instrs) (blocks_of_option o))) body in
      let inside : Option (List Block) → List Instr = λ o. flat_map (λ b. b.instrs) (blocks_of_option o) in
      let read_same : read_numbers f ≡ plain ++ lines = ap (λ o. numbers_read false (inside o) ++ numbers_read true (inside o)) body in
      let up : length f.params + length (given_numbers f) ≤ register_count f = first_come_le (length f.params + length (given_numbers f)) (register_count f) (read_numbers f) both.1 in
      let ends : given_numbers f ≡ given ++ [] = given_same ∙ sym (append-nil given) in
      let bound : length f.params + length (given ++ []) ≤ length things = omega (arith, up, ap length ends, count_things) in
      let one = given_blocks c d count things traced apart within bs es alike (length f.params) [] (ap (counts_from (length f.params)) (sym ends) ∙ both.0) bound in
      let place : length f.params + length (given_numbers f) ≡ one.0 = omega (arith, one.3, ap length ends) in
      let le : register_count f ≤ length things = omega (arith, count_things) in
      let begins =
      read_blocks c d count things traced apart within false bs es alike one.0 (register_count f) (lines ++ []) le
      (ap (λ ks. first_come one.0 (register_count f) (plain ++ ks)) (append-nil lines) ∙ ap (first_come one.0 (register_count f)) (sym read_same) ∙ ap (λ n. first_come n (register_count f) (read_numbers f)) (sym place) ∙ both.1) in
      let more = read_blocks c d count things traced apart within true bs es alike begins.0 (register_count f) [] le begins.2 in
      let last : more.0 ≡ register_count f = eqb-true more.0 (register_count f) more.2 in
      let all : take more.0 things ≡ things = take_all more.0 things (omega (arith, last, count_things)) in
      ap (λ t. with_all_read true (with_all_read false (with_all_given t es) es) es) parameters_first
      ∙ ap (λ t. with_all_read true (with_all_read false t es) es) one.1
      ∙ ap (λ t. with_all_read true t es) begins.1
      ∙ more.1
      ∙ ap (numbering count) all

-- A first reading of a function numbers its registers as the function does.
pub registers_numbered : (f : Function) (bs ds es : List Block) (c : Context) → f.blocks ≡ Some bs → numbers_registers f ≡ true → is_distinct (register_names f) ≡ true → register_count f < nothing → AreOnce c.names → HasRegisters f c
    → SameBlocks ds bs → AllZip (AlikeBlocks c (unknown c.names)) ds es → registers_of c.names (numbering (length c.names) []) f.params es ≡ named_things c.names (register_names f)
registers_numbered f bs ds es c body numbers distinct few once has same alike =
    numbered_by f c few has bs es body numbers distinct (bodies_alike c (unknown c.names) ds bs es same alike)
