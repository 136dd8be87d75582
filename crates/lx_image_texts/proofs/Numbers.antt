-- The registers of a function are numbered in the image as in the module: marks give none, and read none but what others read.
use Rattle.std.proofs.Common.{◌≡◌, ℕ, suc, ◌+◌, ◌<◌, ◌≤◌, Bool, true, false, not, ◌&&◌, List, [], ◌∷◌, ◌++◌, length, Option, Some, None, cond, inl, inr, refl, sym, subst, ◌∙◌, ap, arith, append-nil, if◌then◌else◌}
use Rattle.std.specs.Prelude.{◌⊎◌, nat_eq, nat_le}
use Rattle.std.specs.List.{cons_option}
use Rattle.std.proofs.lemmas.Bool.{and_from, not-true}
use Rattle.lx_words.proofs.Tests.{below_fails, is_below, first_of, second_of}
use Rattle.lx_ir.specs.declared.module.Value.{Value}
use Rattle.lx_ir.specs.declared.module.Value.TheVariants as value
use Rattle.lx_ir.specs.declared.module.Function.{Function}
use Rattle.lx_ir.specs.declared.module.Module.{Module}
use Rattle.lx_ir.specs.declared.instr.Argument.{Argument}
use Rattle.lx_ir.specs.declared.instr.Instr.{Instr}
use Rattle.lx_ir.specs.declared.instr.Op.{Op}
use Rattle.lx_ir.specs.Lookup.{instrs_of}
use Rattle.lx_ir.specs.Operands.{operands_of, operands_where, is_image_line, register_count, given_numbers}
use Rattle.lx_ir.specs.Lawful.{counts_from, register_in, registers_in, numbers_read, read_numbers, first_come, numbers_registers}
use Rattle.lx_image_texts.proofs.Distinct.{Each}
use Rattle.lx_image_texts.proofs.Wrapping.{each_joined}
use Rattle.lx_image_texts.proofs.Beside.{Alike, IsMarkOf, Beside, ends, bare, marked, BesideFunction, code_beside, same_operands, same_line, mark_facts}
use Rattle.lx_image_texts.proofs.Along.{flat_same}
use Rattle.lx_image_texts.proofs.Flow.{given_same, count_same}
use Rattle.lx_image_texts.proofs.Unassigned.{IsIn, in_first, in_second, each_map, IsConstant, Reads, mark_reads}

-- what other lines read

other_same : (m : Module) (is js : List Instr) → Beside m is js → numbers_read false is ≡ numbers_read false js
other_same m is js b =
    flat_same (λ o. registers_in (operands_where false o)) m
    (λ o p a t. registers_in (if same_line m o p a t then [] else same_operands m o p a t))
    (λ k o e. ap (λ (l : Bool). registers_in (if l then [] else operands_of k)) (mark_facts k o e).line) is js b

-- a module's own lines are none that images alone have

plain_line : (o : Op) → not (is_image_line o) ≡ true → registers_in (operands_where true o) ≡ []
plain_line o p = ap (λ (l : Bool). registers_in (if l then operands_of o else [])) (not-true (is_image_line o) p)

plain_other : (o : Op) → not (is_image_line o) ≡ true → registers_in (operands_where false o) ≡ registers_in (operands_of o)
plain_other o p = ap (λ (l : Bool). registers_in (if l then [] else operands_of o)) (not-true (is_image_line o) p)

none_read : (m : Module) (is js : List Instr) → Beside m is js → numbers_read true is ≡ []
none_read m _ _ ends = refl
none_read m _ _ (bare i j is js a b) = λ t. plain_line i.op a.plain t ++ none_read m is js b t
none_read m _ _ (marked i k j is js e a b) = λ t. plain_line i.op a.plain t ++ none_read m is js b t

-- what marks read

in_more : (o : Option ℕ) (r : ℕ) (ks : List ℕ) → IsIn r ks → IsIn r (cons_option o ks)
in_more None r ks i = i
in_more (Some k) r ks i = inr i

in_registers : (xs : List Argument) (b : Argument) (r : ℕ) → IsIn b xs → b.value ≡ value.Register r → IsIn r (registers_in xs)
in_registers [] b r i e = absurd i
in_registers (a ∷ xs) b r (inl s) e = subst (λ (v : Value). IsIn r (cons_option (register_in v) (registers_in xs))) (sym (ap (λ (q : Argument). q.value) s ∙ e)) (inl refl)
in_registers (a ∷ xs) b r (inr i) e = in_more (register_in a.value) r (registers_in xs) (in_registers xs b r i e)

one_register : (xs : List Argument) (v : Value) (ks : List ℕ) → IsConstant v ⊎ ((b : Argument) × IsIn b xs × (b.value ≡ v)) → Each (λ r. IsIn r (registers_in xs)) ks → Each (λ r. IsIn r (registers_in xs)) (cons_option (register_in v) ks)
one_register xs (value.Register r) ks (inl c) h = absurd c
one_register xs (value.Register r) ks (inr b) h = (in_registers xs b.0 r b.1 b.2, h)
one_register xs (value.Constant c) ks s h = h

mark_registers : (xs ks : List Argument) → Each (Reads xs) ks → Each (λ r. IsIn r (registers_in xs)) (registers_in ks)
mark_registers xs [] h = tt
mark_registers xs (k ∷ ks) h = one_register xs k.value (registers_in ks) h.0 (mark_registers xs ks h.1)

mark_line : (k o : Op) → IsMarkOf k o → registers_in (operands_where true k) ≡ registers_in (operands_of k)
mark_line k o e = ap (λ (l : Bool). registers_in (if l then operands_of k else [])) (mark_facts k o e).line

abbrev AmongOthers : List Instr → ℕ → Type 0
AmongOthers is r = IsIn r (numbers_read false is)

image_line : (m : Module) (o p : Op) → Alike m o p → registers_in (operands_where true p) ≡ []
image_line m o p a = plain_line p (ap not (sym (same_line m o p a)) ∙ a.plain)

lines_read : (m : Module) (is js : List Instr) → Beside m is js → Each (AmongOthers is) (numbers_read true js)
lines_read m _ _ ends = tt
lines_read m _ _ (bare i j is js a b) =
    subst (λ (rs : List ℕ). Each (AmongOthers (i ∷ is)) (rs ++ numbers_read true js)) (sym (image_line m i.op j.op a))
    (each_map (AmongOthers is) (AmongOthers (i ∷ is)) (λ r h. in_second r (registers_in (operands_where false i.op)) (numbers_read false is) h) (numbers_read true js) (lines_read m is js b))
lines_read m _ _ (marked i k j is js e a b) =
    let others : Each (AmongOthers (i ∷ is)) (registers_in (operands_where true j.op) ++ numbers_read true js) =
    subst (λ (rs : List ℕ). Each (AmongOthers (i ∷ is)) (rs ++ numbers_read true js)) (sym (image_line m i.op j.op a))
    (each_map (AmongOthers is) (AmongOthers (i ∷ is)) (λ r h. in_second r (registers_in (operands_where false i.op)) (numbers_read false is) h) (numbers_read true js) (lines_read m is js b)) in
    let mine : Each (AmongOthers (i ∷ is)) (registers_in (operands_of k.op)) =
    each_map (λ r. IsIn r (registers_in (operands_of i.op))) (AmongOthers (i ∷ is))
    (λ r h. in_first r (registers_in (operands_where false i.op)) (numbers_read false is) (subst (λ (rs : List ℕ). IsIn r rs) (sym (plain_other i.op a.plain)) h))
    (registers_in (operands_of k.op)) (mark_registers (operands_of i.op) (operands_of k.op) (mark_reads k.op i.op e)) in
    each_joined (AmongOthers (i ∷ is)) (registers_in (operands_where true k.op)) (registers_in (operands_where true j.op) ++ numbers_read true js)
    (subst (Each (AmongOthers (i ∷ is))) (sym (mark_line k.op i.op e)) mine) others

-- Numbers that came before, or that come, change nothing behind.

abbrev pub Came : ℕ → List ℕ → ℕ → Type 0
Came n xs y = (y < n) ⊎ IsIn y xs

pub none_comes : (n last : ℕ) (ys : List ℕ) → Each (Came n []) ys → first_come n last ys ≡ nat_eq n last
none_comes n last [] h = refl
none_comes n last (y ∷ ys) (inl l, h) =
    (λ t. is_below y n l t && first_come (cond (below_fails y n l t) (suc n) n) last ys) ∙ none_comes n last ys h
none_comes n last (y ∷ ys) (inr i, h) = absurd i

past : (k n : ℕ) (b : Bool) → nat_eq k n ≡ b → nat_le k n ≡ true → k < cond b (suc n) n
past k n true e l = let s : k ≤ n = grind (arith, l) in omega (arith, s)
past k n false e l = grind (arith, e, l)

grown : (n : ℕ) (b : Bool) (y : ℕ) → y < n → y < cond b (suc n) n
grown n true y l = omega (arith, l)
grown n false y l = l

came_next : (k n : ℕ) (xs : List ℕ) → nat_le k n ≡ true → (y : ℕ) → Came n (k ∷ xs) y → Came (cond (nat_eq k n) (suc n) n) xs y
came_next k n xs l y (inl h) = inl (grown n (nat_eq k n) y h)
came_next k n xs l y (inr (inl e)) = inl (subst (λ (z : ℕ). z < cond (nat_eq k n) (suc n) n) e (past k n (nat_eq k n) refl l))
came_next k n xs l y (inr (inr i)) = inr i

-- those behind may go
come_before : (n last : ℕ) (xs ys : List ℕ) → Each (Came n xs) ys → first_come n last (xs ++ ys) ≡ true → first_come n last xs ≡ true
come_before n last [] ys h e = sym (none_comes n last ys h) ∙ e
come_before n last (k ∷ xs) ys h e =
    let next : ℕ = cond (nat_eq k n) (suc n) n in
    let l = first_of (nat_le k n) (first_come next last (xs ++ ys)) e in
    and_from (nat_le k n) (first_come next last xs) l
    (come_before next last xs ys (each_map (Came n (k ∷ xs)) (Came next xs) (came_next k n xs l) ys h) (second_of (nat_le k n) (first_come next last (xs ++ ys)) e))

-- and may come
come_behind : (n last : ℕ) (xs ys : List ℕ) → Each (Came n xs) ys → first_come n last xs ≡ true → first_come n last (xs ++ ys) ≡ true
come_behind n last [] ys h e = none_comes n last ys h ∙ e
come_behind n last (k ∷ xs) ys h e =
    let next : ℕ = cond (nat_eq k n) (suc n) n in
    let l = first_of (nat_le k n) (first_come next last xs) e in
    and_from (nat_le k n) (first_come next last (xs ++ ys)) l
    (come_behind next last xs ys (each_map (Came n (k ∷ xs)) (Came next xs) (came_next k n xs l) ys h) (second_of (nat_le k n) (first_come next last xs) e))

module _ (m : Module) (f g : Function) (beside : BesideFunction m f g) where
  counts_same : counts_from (length f.params) (given_numbers f) ≡ counts_from (length g.params) (given_numbers g)
  counts_same = λ t. counts_from (length (beside.params t)) (given_same m f g beside t)

  read_in_program : read_numbers f ≡ numbers_read false (instrs_of f)
  read_in_program =
      ap (λ (rs : List ℕ). numbers_read false (instrs_of f) ++ rs) (none_read m (instrs_of f) (instrs_of g) (code_beside m f g beside)) ∙ append-nil (numbers_read false (instrs_of f))

  read_in_image : read_numbers g ≡ numbers_read false (instrs_of f) ++ numbers_read true (instrs_of g)
  read_in_image = λ t. sym (other_same m (instrs_of f) (instrs_of g) (code_beside m f g beside)) t ++ numbers_read true (instrs_of g)

  come : Each (Came (length f.params + length (given_numbers f)) (numbers_read false (instrs_of f))) (numbers_read true (instrs_of g))
  come =
      each_map (AmongOthers (instrs_of f)) (Came (length f.params + length (given_numbers f)) (numbers_read false (instrs_of f))) (λ r h. inr h) (numbers_read true (instrs_of g))
      (lines_read m (instrs_of f) (instrs_of g) (code_beside m f g beside))

  comes_in_image : first_come (length g.params + length (given_numbers g)) (register_count g) (read_numbers g) ≡ first_come (length f.params + length (given_numbers f)) (register_count f) (numbers_read false (instrs_of f) ++ numbers_read true (instrs_of g))
  comes_in_image = λ t. first_come (length (sym beside.params t) + length (sym (given_same m f g beside) t)) (sym (count_same m f g beside) t) (read_in_image t)

  pub numbers_program : numbers_registers g ≡ true → numbers_registers f ≡ true
  numbers_program e =
      and_from (counts_from (length f.params) (given_numbers f)) (first_come (length f.params + length (given_numbers f)) (register_count f) (read_numbers f))
      (counts_same ∙ first_of (counts_from (length g.params) (given_numbers g)) (first_come (length g.params + length (given_numbers g)) (register_count g) (read_numbers g)) e)
      (ap (first_come (length f.params + length (given_numbers f)) (register_count f)) read_in_program
      ∙ come_before (length f.params + length (given_numbers f)) (register_count f) (numbers_read false (instrs_of f)) (numbers_read true (instrs_of g)) come
      (sym comes_in_image ∙ second_of (counts_from (length g.params) (given_numbers g)) (first_come (length g.params + length (given_numbers g)) (register_count g) (read_numbers g)) e))

  pub numbers_image : numbers_registers f ≡ true → numbers_registers g ≡ true
  numbers_image e =
      and_from (counts_from (length g.params) (given_numbers g)) (first_come (length g.params + length (given_numbers g)) (register_count g) (read_numbers g))
      (sym counts_same ∙ first_of (counts_from (length f.params) (given_numbers f)) (first_come (length f.params + length (given_numbers f)) (register_count f) (read_numbers f)) e)
      (comes_in_image
      ∙ come_behind (length f.params + length (given_numbers f)) (register_count f) (numbers_read false (instrs_of f)) (numbers_read true (instrs_of g)) come
      (sym (ap (first_come (length f.params + length (given_numbers f)) (register_count f)) read_in_program) ∙ second_of (counts_from (length f.params) (given_numbers f)) (first_come (length f.params + length (given_numbers f)) (register_count f) (read_numbers f)) e))
