-- The text of a function says it, the lines of its instructions aside.
use Rattle.std.proofs.Common.{◌≡◌, ℕ, suc, ◌+◌, ◌≤◌, List, [], ◌∷◌, ◌++◌, map, length, take, Bool, true, false, ◌&&◌, refl, sym, ap, ◌∙◌, subst, arith, Option, Some, None, nat_eq, bytes_eq, length-append}
use Rattle.std.specs.Prelude.{flat_map, filter_map, nat_lt, if◌then◌else◌}
use Rattle.std.specs.List.{list_all, list_any, cons_option}
use Rattle.std.proofs.lemmas.Bool.{and_parts, and_from, or_parts, or_from}
use Rattle.std.proofs.lemmas.List.{take_at, length-map}
use Rattle.std.proofs.lemmas.List.Elements.{filter_map-append}
use Rattle.std.proofs.lemmas.List.Folds.{list_all-append}
use Rattle.lx_ir.specs.declared.module.Block.{Block}
use Rattle.lx_ir.specs.declared.module.Function.{Function}
use Rattle.lx_ir.specs.declared.module.Module.{Module}
use Rattle.lx_ir.specs.declared.instr.Instr.{Instr}
use Rattle.lx_ir.specs.Lookup.{blocks_of, blocks_of_option}
use Rattle.lx_ir.specs.Operands.{given_by, register_count, given_numbers}
use Rattle.lx_ir.specs.Text.{register_names, blocks_text, defined_text}
use Rattle.lx_ir.specs.Lawful.{is_name, is_label, is_distinct, is_lawful_op, ends_once, is_lawful_block, counts_from, read_numbers, numbers_registers, parameter_names, is_lawful_body, is_own_name}
use Rattle.lx_ir_terms.specs.Context.{Context}
use Rattle.lx_ir_terms.specs.Grammar.{◌then◌}
use Rattle.lx_ir_calls.specs.declared.intrinsics.TextForm.{TextForm}
use Rattle.lx_ir_calls.specs.declared.intrinsics.TextForm.TheVariants.{Program}
use Rattle.lx_ir_lawful.proofs.LawfulBodies.{first_come_le}
use Rattle.lx_ir_complete.specs.Lines.{PrintsLines}
use Rattle.lx_ir_complete.specs.Kept.{is_kept_op}
use Rattle.lx_ir_complete.specs.Knows.{may_stand}
use Rattle.lx_ir_complete.proofs.Sayings.{Saying, Registers}
use Rattle.lx_ir_complete.specs.Said.{SaysBody, are_kept_instrs}
use Rattle.lx_ir_complete.proofs.PrintedBlocks.{gives, given_count, counts, all_count, is_ready, is_ready_block, blocks_count, block_counts, block_names, Body, body_prints}
use Rattle.lx_ir_complete.proofs.PrintedHeads.{opening_prints}
use Rattle.lx_ir_complete.proofs.StatementLines.{lines, lines_as}
use Rattle.lx_ir_complete.proofs.Standing.{Stand}
use Rattle.lx_ir_complete.proofs.TableNumbers.{distinct_front}

-- Counting what is given.

abbrev all_given : List Instr → List ℕ
all_given is = filter_map (λ i. given_by i.op) is

one_given : (g : Option ℕ) (c : ℕ) (rest : List ℕ) (v : Bool) → counts_from (c + gives g) rest ≡ v → counts_from c (cons_option g rest) ≡ (counts g c && v)
one_given None c rest v e = let here : c + 0 ≡ c = omega arith in ap (λ k. counts_from k rest) (sym here) ∙ e
one_given (Some r) c rest v e = let here : suc c ≡ c + 1 = omega arith in ap (λ k. nat_eq r c && counts_from k rest) here ∙ ap (λ b. nat_eq r c && b) e

counted : (c : ℕ) (is : List Instr) → counts_from c (all_given is) ≡ all_count c is
counted c [] = refl
counted c (i ∷ is) = one_given (given_by i.op) c (all_given is) (all_count (c + gives (given_by i.op)) is) (counted (c + gives (given_by i.op)) is)

one_longer : (g : Option ℕ) (rest : List ℕ) → length (cons_option g rest) ≡ gives g + length rest
one_longer None rest = omega arith
one_longer (Some r) rest = omega arith

given_length : (is : List Instr) → length (all_given is) ≡ given_count is
given_length [] = refl
given_length (i ∷ is) = one_longer (given_by i.op) (all_given is) ∙ ap (λ n. gives (given_by i.op) + n) (given_length is)

counts_joined : (c : ℕ) (xs ys : List ℕ) → counts_from c (xs ++ ys) ≡ (counts_from c xs && counts_from (c + length xs) ys)
counts_joined c [] ys = let here : c ≡ c + 0 = omega arith in ap (λ k. counts_from k ys) here
counts_joined c (x ∷ xs) ys =
    let there : suc c + length xs ≡ c + suc (length xs) = omega arith in
    ap (λ b. nat_eq x c && b) (counts_joined (suc c) xs ys ∙ ap (λ k. counts_from (suc c) xs && counts_from k ys) there)
    ∙ assoc (nat_eq x c) (counts_from (suc c) xs) (counts_from (c + suc (length xs)) ys)
  where
    assoc : (a b d : Bool) → (a && (b && d)) ≡ (a && b && d)
    assoc true b d = refl
    assoc false b d = refl

-- the instructions of blocks
abbrev instrs : List Block → List Instr
instrs bs = flat_map (λ b. b.instrs) bs

blocks_counted : (c : ℕ) (bs : List Block) → counts_from c (all_given (instrs bs)) ≡ blocks_count c bs
blocks_counted c [] = refl
blocks_counted c (b ∷ bs) =
    ap (counts_from c) (filter_map-append (λ i. given_by i.op) b.instrs (instrs bs)) ∙ counts_joined c (all_given b.instrs) (all_given (instrs bs))
    ∙ ap (λ v. v && counts_from (c + length (all_given b.instrs)) (all_given (instrs bs))) (counted c b.instrs)
    ∙ ap (λ n. all_count c b.instrs && counts_from (c + n) (all_given (instrs bs))) (given_length b.instrs)
    ∙ ap (λ v. all_count c b.instrs && v) (blocks_counted (c + given_count b.instrs) bs)

blocks_given : (bs : List Block) → length (all_given (instrs bs)) ≡ block_counts bs
blocks_given [] = refl
blocks_given (b ∷ bs) =
    ap length (filter_map-append (λ i. given_by i.op) b.instrs (instrs bs)) ∙ length-append (all_given b.instrs) (all_given (instrs bs))
    ∙ ap (λ n. n + length (all_given (instrs bs))) (given_length b.instrs) ∙ ap (λ n. given_count b.instrs + n) (blocks_given bs)

-- What instructions and blocks owe.

module _ (form : TextForm) (m : Module) (f : Function) where
  ready_instrs : (is : List Instr) → list_all (λ i. is_lawful_op m f i.op) is ≡ true → are_kept_instrs form is ≡ true → list_all (is_ready form m f) is ≡ true
  ready_instrs [] h k = refl
  ready_instrs (i ∷ is) h k =
      let lawful = and_parts (is_lawful_op m f i.op) (list_all (λ x. is_lawful_op m f x.op) is) h in
      let kept = and_parts (is_kept_op i.op && may_stand form i.op) (are_kept_instrs form is) k in
      let both = and_parts (is_kept_op i.op) (may_stand form i.op) kept.0 in
      and_from (is_ready form m f i) (list_all (is_ready form m f) is)
      (and_from (is_lawful_op m f i.op && is_kept_op i.op) (may_stand form i.op) (and_from (is_lawful_op m f i.op) (is_kept_op i.op) lawful.0 both.0) both.1)
      (ready_instrs is lawful.1 kept.1)

  ready_blocks : (bs : List Block) → list_all (is_lawful_block m f) bs ≡ true → are_kept_instrs form (instrs bs) ≡ true → list_all (is_ready_block form m f) bs ≡ true
  ready_blocks [] h k = refl
  ready_blocks (b ∷ bs) h k =
      let lawful = and_parts (is_lawful_block m f b) (list_all (is_lawful_block m f) bs) h in
      let one = and_parts (is_label b.name && ends_once b.instrs) (list_all (λ i. is_lawful_op m f i.op) b.instrs) lawful.0 in
      let kept = and_parts (are_kept_instrs form b.instrs) (are_kept_instrs form (instrs bs)) (sym (list_all-append (λ (i : Instr). is_kept_op i.op && may_stand form i.op) b.instrs (instrs bs)) ∙ k) in
      and_from (is_ready_block form m f b) (list_all (is_ready_block form m f) bs)
      (and_from (is_label b.name && ends_once b.instrs) (list_all (is_ready form m f) b.instrs) one.0 (ready_instrs b.instrs one.1 kept.0))
      (ready_blocks bs lawful.1 kept.1)

fewer : (x : List ℕ) (xs ys : List (List ℕ)) → list_any (bytes_eq x) (xs ++ ys) ≡ false → list_any (bytes_eq x) xs ≡ false
fewer x [] ys h = refl
fewer x (z ∷ xs) ys h =
    let both = or_parts (bytes_eq x z) (list_any (bytes_eq x) (xs ++ ys)) h in
    or_from (bytes_eq x z) (list_any (bytes_eq x) xs) both.0 (fewer x xs ys both.1)

module _ {plain : Bool} {m : Module} {f : Function} {context : Context} (sayings : Saying plain m context) (registers : Registers f context) (form : TextForm) (program : plain ≡ true → form ≡ Program) where
  some_blocks : (d : is_distinct (register_names f) ≡ true) (n : length (register_names f) ≡ register_count f) (cs : List Block) → nat_lt 0 (length cs) ≡ true → list_all (is_ready_block form m f) cs ≡ true → blocks_count (length f.params) cs ≡ true
      → length f.params + block_counts cs ≤ register_count f → is_distinct (block_names cs) ≡ true → PrintsLines plain context.names (blocks_text m f cs) (Body sayings registers form program d n (length f.params) cs)
  some_blocks d n [] s r q l t = cc s
  some_blocks d n (c ∷ cs) s r q l t = body_prints sayings registers form program d n (length f.params) c cs r q l t

  -- a function with these blocks
  pub body_says : (bs : List Block) → f.blocks ≡ Some bs → (plain ≡ true → is_own_name f.name ≡ false) → is_name f.name ≡ true → is_lawful_body m f ≡ true → are_kept_instrs form (instrs bs) ≡ true → PrintsLines plain context.names (defined_text m f bs) (SaysBody context form f bs)
  body_says bs e own name h k =
      let has : blocks_of f ≡ bs = ap blocks_of_option e in
      let six = and_parts _ (numbers_registers f) h in
      let five = and_parts _ (list_all (is_lawful_block m f) (blocks_of f)) six.0 in
      let four = and_parts _ (is_distinct (map (λ b. b.name) (blocks_of f))) five.0 in
      let three = and_parts _ (nat_lt 0 (length (blocks_of f))) four.0 in
      let two = and_parts _ (nat_lt (register_count f) 4294967295) three.0 in
      let one = and_parts (list_all is_name (parameter_names f ++ f.locals)) (is_distinct (parameter_names f ++ f.locals)) two.0 in
      let numbered = and_parts (counts_from (length f.params) (given_numbers f)) _ six.1 in
      let given_is : given_numbers f ≡ all_given (instrs bs) = ap (λ cs. all_given (instrs cs)) has in
      let counts_is : blocks_count (length f.params) bs ≡ true = sym (blocks_counted (length f.params) bs) ∙ ap (counts_from (length f.params)) (sym given_is) ∙ numbered.0 in
      let most : length f.params + length (given_numbers f) ≤ register_count f = first_come_le (length f.params + length (given_numbers f)) (register_count f) (read_numbers f) numbered.1 in
      let size : length f.params + block_counts bs ≤ register_count f = omega (arith, most, ap length given_is, blocks_given bs) in
      let ready = ready_blocks form m f bs (ap (list_all (is_lawful_block m f)) (sym has) ∙ five.1) k in
      let labels : is_distinct (block_names bs) ≡ true = ap (λ cs. is_distinct (map (λ b. b.name) cs)) (sym has) ∙ four.1 in
      let some : nat_lt 0 (length bs) ≡ true = ap (λ cs. nat_lt 0 (length cs)) (sym has) ∙ three.1 in
      let many : length (register_names f) ≡ register_count f = omega (arith, length-append (parameter_names f) f.locals, length-map f.params (λ p. p.name)) in
      let params : is_distinct (parameter_names f) ≡ true = distinct_front (parameter_names f) f.locals one.1 in
      let names = and_parts (list_all is_name (parameter_names f)) (list_all is_name f.locals) (sym (list_all-append is_name (parameter_names f) f.locals) ∙ one.0) in
      let front : take (length f.params) (register_names f) ≡ parameter_names f =
      ap (λ n. take n (register_names f)) (sym (length-map f.params (λ p. p.name))) ∙ take_at (parameter_names f) f.locals (length (parameter_names f)) refl
      in
      lines_as {q = SaysBody context form f bs}
      (λ ts x us places.
      let o = x.2 in
      let b = x.3 us places o.2.numbered o.2.registers (subst (Stand context.names o.2.registers) (sym front) o.3) in
      (o.0, o.1, b.0, b.1, (o.2, x.0, x.1, o.5, b.2, o.4, x.4)))
      (lines (opening_prints sayings f own name params names.0) (some_blocks one.1 many bs some ready counts_is size labels))
