-- What is kept of the statements of a module.
use Rattle.std.proofs.Common.{◌≡◌, ◌⊎◌, inl, inr, ℕ, zero, suc, ◌+◌, ◌<◌, ◌≤◌, Bool, true, false, not, ◌&&◌, List, [], ◌∷◌, ◌++◌, length, map, take, drop, refl, sym, ap, ◌∙◌, subst, arith, true≢false, Option, Some, None, slice_get, nat_eq, append_assoc}
use Rattle.std.specs.Prelude.{if◌then◌else◌, is_some, fold, unwrap_or}
use Rattle.std.specs.List.{AllZip, list_all}
use Rattle.std.proofs.Math.Seq.{drop-append_seam}
use Rattle.std.proofs.lemmas.Bool.{and_parts, eqb-true}
use Rattle.std.proofs.lemmas.List.{length-map, map-append, append-nil}
use Rattle.lx_ir.specs.declared.types.Scalar.{Scalar}
use Rattle.lx_ir.specs.declared.module.Parameter.{Parameter}
use Rattle.lx_ir.specs.declared.module.Value.{Value}
use Rattle.lx_ir.specs.declared.module.Value.TheVariants as values
use Rattle.lx_ir.specs.declared.module.Block.{Block}
use Rattle.lx_ir.specs.declared.instr.Argument.{Argument}
use Rattle.lx_ir.specs.declared.instr.Instr.{Instr}
use Rattle.lx_ir.specs.Operands.{given_by, operands_where}
use Rattle.lx_ir_tokens.specs.Names.{number_of}
use Rattle.lx_ir_lawful.proofs.NameNumbers.{named}
use Rattle.lx_ir_tables.specs.Numbering.{Numbering, numbering, with_thing, is_new}
use Rattle.lx_ir_tables.specs.Registers.{with_given, with_given_by, with_all_given, with_read, with_operands, with_read_by, with_all_read, with_parameters, registers_of}
use Rattle.lx_ir_read.specs.Again.{register_name, local_names, nameless}
use Rattle.lx_ir_complete.specs.KnownTables.{named_things}

-- Tables that grow by things with names alone.

-- the second table is the first and further things, each with a name
abbrev Grows : Numbering → Numbering → Type 0
Grows t u = (ns : List ℕ) × (u ≡ numbering t.count (t.things ++ map Some ns))

grown : (t : Numbering) → Grows t t
grown t = ([], ap (numbering t.count) (sym (append-nil t.things)))

on : (t u v : Numbering) → Grows t u → Grows u v → Grows t v
on t u v (ns, e) (ks, h) =
    let whole : numbering t.count ((t.things ++ map Some ns) ++ map Some ks) ≡ numbering t.count (t.things ++ map Some (ns ++ ks)) =
    ap (numbering t.count) (append_assoc t.things (map Some ns) (map Some ks) ∙ ap (λ xs. t.things ++ xs) (sym (map-append Some ns ks))) in
    (ns ++ ks, h ∙ ap (λ (w : Numbering). numbering w.count (w.things ++ map Some ks)) e ∙ whole)

given_grows : (t : Numbering) (o : Option ℕ) → Grows t (with_given t o)
given_grows t None = grown t
given_grows t (Some n) = (n ∷ [], refl)

given_by_grows : (is : List Instr) (t : Numbering) → Grows t (with_given_by t is)
given_by_grows [] t = grown t
given_by_grows (i ∷ is) t = on t (with_given t (given_by i.op)) (with_given_by t (i ∷ is)) (given_grows t (given_by i.op)) (given_by_grows is (with_given t (given_by i.op)))

all_given_grows : (bs : List Block) (t : Numbering) → Grows t (with_all_given t bs)
all_given_grows [] t = grown t
all_given_grows (b ∷ bs) t = on t (with_given_by t b.instrs) (with_all_given t (b ∷ bs)) (given_by_grows b.instrs t) (all_given_grows bs (with_given_by t b.instrs))

grows_if : (b : Bool) (t : Numbering) (n : ℕ) → Grows t (if b then with_thing t (Some n) else t)
grows_if true t n = (n ∷ [], refl)
grows_if false t n = grown t

read_grows : (t : Numbering) (v : Value) → Grows t (with_read t v)
read_grows t (values.Register n) = grows_if (is_new t n) t n
read_grows t (values.Constant c) = grown t

operands_grow : (xs : List Argument) (t : Numbering) → Grows t (with_operands t xs)
operands_grow [] t = grown t
operands_grow (x ∷ xs) t = on t (with_read t x.value) (with_operands t (x ∷ xs)) (read_grows t x.value) (operands_grow xs (with_read t x.value))

read_by_grows : (lines : Bool) (is : List Instr) (t : Numbering) → Grows t (with_read_by lines t is)
read_by_grows lines [] t = grown t
read_by_grows lines (i ∷ is) t =
    on t (with_operands t (operands_where lines i.op)) (with_read_by lines t (i ∷ is)) (operands_grow (operands_where lines i.op) t) (read_by_grows lines is (with_operands t (operands_where lines i.op)))

all_read_grows : (lines : Bool) (bs : List Block) (t : Numbering) → Grows t (with_all_read lines t bs)
all_read_grows lines [] t = grown t
all_read_grows lines (b ∷ bs) t = on t (with_read_by lines t b.instrs) (with_all_read lines t (b ∷ bs)) (read_by_grows lines b.instrs t) (all_read_grows lines bs (with_read_by lines t b.instrs))

pub parameters_added : (names : List (List ℕ)) (count : ℕ) (ps : List Parameter) (done : List (Option ℕ)) → with_parameters names (numbering count done) ps ≡ numbering count (done ++ map (λ p. number_of names p.name) ps)
parameters_added names count [] done = ap (numbering count) (sym (append-nil done))
parameters_added names count (p ∷ ps) done =
    parameters_added names count ps (done ++ number_of names p.name ∷ []) ∙ ap (numbering count) (append_assoc done (number_of names p.name ∷ []) (map (λ q. number_of names q.name) ps))

-- the registers of a function are its parameters and things with names
registers_grow : (names : List (List ℕ)) (ps : List Parameter) (bs : List Block) → (ns : List ℕ) × (registers_of names (numbering (length names) []) ps bs ≡ numbering (length names) (map (λ p. number_of names p.name) ps ++ map Some ns))
registers_grow names ps bs =
    let start : Numbering = with_parameters names (numbering (length names) []) ps in
    let given : Numbering = with_all_given start bs in
    let plain : Numbering = with_all_read false given bs in
    let g =
    on start plain (with_all_read true plain bs)
    (on start given plain (all_given_grows bs start) (all_read_grows false bs given))
    (all_read_grows true bs plain) in
    (g.0, g.1 ∙ ap (λ (t : Numbering). numbering t.count (t.things ++ map Some g.0)) (parameters_added names (length names) ps []))

-- Names of registers.

same_things : (c : ℕ) (xs ys : List (Option ℕ)) → numbering c xs ≡ numbering c ys → xs ≡ ys
same_things c xs ys e = ap (λ (t : Numbering). t.things) e

pub named_parameters : (names : List (List ℕ)) (ps : List Parameter) → map (number_of names) (map (λ p. p.name) ps) ≡ map (λ p. number_of names p.name) ps
named_parameters names [] = refl
named_parameters names (p ∷ ps) = ap (λ xs. number_of names p.name ∷ xs) (named_parameters names ps)

behind_front : {A : Type 0} (n : ℕ) (xs ys : List A) → length xs ≡ n → drop n (xs ++ ys) ≡ ys
behind_front n xs ys e = ap (λ k. drop k (xs ++ ys)) (sym e) ∙ drop-append_seam xs ys

-- names that have numbers are told by them
told : (names locals : List (List ℕ)) (ns : List ℕ) → map (number_of names) locals ≡ map Some ns → map (register_name names) (map (number_of names) locals) ≡ locals
told names [] ns e = refl
told names (l ∷ ls) [] e = cc e
told names (l ∷ ls) (n ∷ ns) e =
    let one : number_of names l ≡ Some n = cc e in
    let more : map (number_of names) ls ≡ map Some ns = cc e in
    let at = named names l n one in
    let here : register_name names (number_of names l) ≡ l = ap (register_name names) one ∙ ap (λ o. unwrap_or o []) at in
    ap (λ x. x ∷ map (register_name names) (map (number_of names) ls)) here ∙ ap (λ xs. l ∷ xs) (told names ls ns more)

-- The names that are kept of a function's registers are its own.
pub locals_told : (names : List (List ℕ)) (ps : List Parameter) (locals : List (List ℕ)) (bs : List Block) → registers_of names (numbering (length names) []) ps bs ≡ named_things names (map (λ p. p.name) ps ++ locals)
    → local_names names (length ps) (registers_of names (numbering (length names) []) ps bs) ≡ locals
locals_told names ps locals bs e =
    let front : List (Option ℕ) = map (λ p. number_of names p.name) ps in
    let count : length front ≡ length ps = length-map ps (λ p. number_of names p.name) in
    let whole : map (number_of names) (map (λ p. p.name) ps ++ locals) ≡ front ++ map (number_of names) locals =
    map-append (number_of names) (map (λ p. p.name) ps) locals ∙ ap (λ xs. xs ++ map (number_of names) locals) (named_parameters names ps) in
    let g = registers_grow names ps bs in
    let things : front ++ map Some g.0 ≡ front ++ map (number_of names) locals = same_things (length names) (front ++ map Some g.0) (front ++ map (number_of names) locals) (sym g.1 ∙ e ∙ ap (numbering (length names)) whole) in
    let rest : map (number_of names) locals ≡ map Some g.0 = sym (behind_front (length ps) front (map (number_of names) locals) count) ∙ ap (drop (length ps)) (sym things) ∙ behind_front (length ps) front (map Some g.0) count in
    ap (local_names names (length ps)) (e ∙ ap (numbering (length names)) whole) ∙ ap (map (register_name names)) (behind_front (length ps) front (map (number_of names) locals) count) ∙ told names locals g.0 rest
