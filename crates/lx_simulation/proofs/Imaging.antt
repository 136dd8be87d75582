-- Images of modules are accepted.
use Rattle.std.proofs.Common.{◌≡◌, ℕ, suc, ◌<◌, Bool, true, false, not, ◌&&◌, ◌||◌, List, [], ◌∷◌, ◌++◌, length, map, Option, Some, None, inl, inr, refl, sym, subst, ◌∙◌, ap, arith}
use Rattle.std.specs.Prelude.{nat_eq, bytes_eq}
use Rattle.std.specs.List.{list_all, list_any}
use Rattle.lx_words.proofs.Tests.{eq_self, true_false, first_of, second_of, above_fails}
use Rattle.lx_words.proofs.Lists.{bytes_itself}
use Rattle.lx_ir.specs.declared.types.Scalar.{Scalar}
use Rattle.lx_ir.specs.declared.module.Value.{Value as Operand}
use Rattle.lx_ir.specs.declared.module.Block.{Block}
use Rattle.lx_ir.specs.declared.module.Function.{Function}
use Rattle.lx_ir.specs.declared.module.Module.{Module}
use Rattle.lx_ir.specs.declared.instr.Callee.TheVariants as callee
use Rattle.lx_ir.specs.declared.instr.Op.{Op}
use Rattle.lx_ir.specs.declared.instr.Op.TheVariants as op
use Rattle.lx_ir.specs.Lookup.{blocks_of, blocks_of_option}
use Rattle.lx_ir.specs.Lawful.{is_distinct}
use Rattle.lx_image_texts.specs.Spared.{is_spared}
use Rattle.lx_image_texts.specs.Marks.{mark_of, image_op, size_value}
use Rattle.lx_image_texts.specs.Instrumented.{unless_left}
use Rattle.lx_images.specs.ImageCode.{image_ops, stores_in, Bare, bare_here, bare_in}
use Rattle.lx_image_texts.specs.Guards.{ops_of, IsMarked, AreMarked, HasMarks, IsGuarded}
use Rattle.lx_model.specs.Thread.{CodeBlock, code_block_of, routine_of}
use Rattle.lx_model.specs.Effect.{code_block_named}
use Rattle.lx_images.specs.Guarded.{code_or_none, bare_among, image_block, routine_in_image, spares_well, block_spares_well, function_spares_well}
use Rattle.lx_images.specs.Places.{IsIn}
use Rattle.lx_simulation.proofs.Elements.{any_of, in_map}
use Rattle.lx_simulation.proofs.Verifying.{name_of_block}

-- The code of a block is the image of its program's, with the guards that it has.

-- what a marked block shows
abbrev Shown : Module → Function → Bare → List Op → List Op → Type 0
Shown m f bare os is = (image_ops (Some m) bare os ≡ is) × (stores_in is ≡ stores_in os) × (spares_well m f bare os ≡ true)

-- the guards that are lacking, as they are found
abbrev Agrees : Bare → List Op → List Op → Type 0
Agrees bare os is = (k : ℕ) → k < stores_in os → bare k ≡ bare_in false is k

less_suc : (n : ℕ) → n < suc n
less_suc n = omega arith

less_more : (k n : ℕ) → k < n → k < suc n
less_more k n h = omega (arith, h)

here_same : (n : ℕ) (guarded further : Bool) → bare_here (true && nat_eq n n) guarded further ≡ not guarded
here_same n guarded further = ap (λ (b : Bool). bare_here (true && b) guarded further) (eq_self n)

here_other : (n k : ℕ) (guarded further : Bool) → k < n → bare_here (true && nat_eq n k) guarded further ≡ further
here_other n k guarded further h = ap (λ (b : Bool). bare_here (true && b) guarded further) (above_fails n k h)

-- a store, with its guard or spared
store_shown : (m : Module) (f : Function) (bare : Bare) (ty : Scalar) (x y : Operand) (os is rest : List Op) (b : Bool) → bare (stores_in os) ≡ b → (b ≡ true → is_spared m f (op.Store ty x y) ≡ true) →
    is ≡ unless_left b (op.Guard y (size_value ty) false ∷ []) ++ (op.Store ty x y ∷ rest) → Shown m f bare os rest → Shown m f bare (op.Store ty x y ∷ os) is
store_shown m f bare ty x y os is rest true eb spared e sh = (
  (λ j. unless_left (eb j) (op.Guard y (size_value ty) false ∷ []) ++ (op.Store ty x y ∷ sh.0 j)) ∙ sym e,
  ap stores_in e ∙ ap suc sh.1,
  (λ j. (not (true && eb j) || spared refl j) && sh.2 j),
)
store_shown m f bare ty x y os is rest false eb spared e sh = (
  (λ j. unless_left (eb j) (op.Guard y (size_value ty) false ∷ []) ++ (op.Store ty x y ∷ sh.0 j)) ∙ sym e,
  ap stores_in e ∙ ap suc sh.1,
  (λ j. (not (true && eb j) || is_spared m f (op.Store ty x y)) && sh.2 j),
)

-- any other instruction
abbrev pub NoStore : Op → Type 0
NoStore (op.Store ty x y) = ⊥
NoStore o = Unit {0}

other_ops : (m : Module) (bare : Bare) (o : Op) (os : List Op) → NoStore o → image_ops (Some m) bare (o ∷ os) ≡ mark_of o ++ (image_op m o ∷ image_ops (Some m) bare os)
other_ops m bare (op.Store ty x y) os n = absurd n
other_ops m bare (op.Call to ret (callee.Register r) args) os n = refl
other_ops m bare (op.Call to ret (callee.Symbol s) args) os n = refl
other_ops m bare o os n = refl

other_stores : (m : Module) (o : Op) (rest : List Op) → NoStore o → stores_in (mark_of o ++ (image_op m o ∷ rest)) ≡ stores_in rest
other_stores m (op.Store ty x y) rest n = absurd n
other_stores m (op.Call to ret (callee.Register r) args) rest n = refl
other_stores m (op.Call to ret (callee.Symbol s) args) rest n = refl
other_stores m o rest n = refl

pub other_bare : (m : Module) (o : Op) (rest : List Op) (k : ℕ) → NoStore o → bare_in false (mark_of o ++ (image_op m o ∷ rest)) k ≡ bare_in false rest k
other_bare m (op.Store ty x y) rest k n = absurd n
other_bare m (op.Call to ret (callee.Register r) args) rest k n = refl
other_bare m (op.Call to ret (callee.Symbol s) args) rest k n = refl
other_bare m o rest k n = refl

other_counts : (o : Op) (os : List Op) → NoStore o → stores_in (o ∷ os) ≡ stores_in os
other_counts (op.Store ty x y) os n = absurd n
other_counts o os n = refl

other_spares : (m : Module) (f : Function) (bare : Bare) (o : Op) (os : List Op) → NoStore o → spares_well m f bare (o ∷ os) ≡ spares_well m f bare os
other_spares m f bare (op.Store ty x y) os n = absurd n
other_spares m f bare o os n = refl

other_spared : (m : Module) (f : Function) (o : Op) → NoStore o → is_spared m f o ≡ true → ⊥
other_spared m f (op.Store ty x y) n e = n
other_spared m f o n e = true_false (sym e)

other_shown : (m : Module) (f : Function) (bare : Bare) (o : Op) (os is rest : List Op) → NoStore o → is ≡ mark_of o ++ (image_op m o ∷ rest) → Shown m f bare os rest → Shown m f bare (o ∷ os) is
other_shown m f bare o os is rest n e sh = (
  other_ops m bare o os n ∙ (ap (λ (xs : List Op). mark_of o ++ (image_op m o ∷ xs)) sh.0 ∙ sym e),
  ap stores_in e ∙ (other_stores m o rest n ∙ (sh.1 ∙ sym (other_counts o os n))),
  other_spares m f bare o os n ∙ sh.2,
)

rest_stores : (m : Module) (f : Function) (os is : List Op) → IsMarked m f os is → stores_in is ≡ stores_in os
rest_stores m f [] is h = ap stores_in h
rest_stores m f (op.Store ty x y ∷ os) is (rest, inl e, h) = ap stores_in e ∙ ap suc (rest_stores m f os rest h)
rest_stores m f (op.Store ty x y ∷ os) is (rest, inr e, h) = ap stores_in e.1 ∙ ap suc (rest_stores m f os rest h)
rest_stores m f (o ∷ os) is (rest, inl e, h) = ap stores_in e ∙ (other_stores m o rest tt ∙ (rest_stores m f os rest h ∙ sym (other_counts o os tt)))
rest_stores m f (o ∷ os) is (rest, inr e, h) = absurd (other_spared m f o tt e.0)

-- what the rest agrees on

guarded_agrees : (m : Module) (f : Function) (bare : Bare) (ty : Scalar) (x y : Operand) (os is rest : List Op) (b : Bool) → is ≡ unless_left b (op.Guard y (size_value ty) false ∷ []) ++ (op.Store ty x y ∷ rest) → stores_in rest ≡ stores_in os →
    Agrees bare (op.Store ty x y ∷ os) is → (bare (stores_in os) ≡ b) × Agrees bare os rest
guarded_agrees m f bare ty x y os is rest true e es h = (
  h (stores_in os) (less_suc (stores_in os)) ∙ (ap (λ (xs : List Op). bare_in false xs (stores_in os)) e ∙ (ap (λ (n : ℕ). bare_here (true && nat_eq n (stores_in os)) false (bare_in false rest (stores_in os))) es ∙ here_same (stores_in os) false (bare_in false rest (stores_in os)))),
  λ k l. h k (less_more k (stores_in os) l) ∙ (ap (λ (xs : List Op). bare_in false xs k) e ∙ (ap (λ (n : ℕ). bare_here (true && nat_eq n k) false (bare_in false rest k)) es ∙ here_other (stores_in os) k false (bare_in false rest k) l)),
)
guarded_agrees m f bare ty x y os is rest false e es h = (
  h (stores_in os) (less_suc (stores_in os)) ∙ (ap (λ (xs : List Op). bare_in false xs (stores_in os)) e ∙ (ap (λ (n : ℕ). bare_here (true && nat_eq n (stores_in os)) true (bare_in false rest (stores_in os))) es ∙ here_same (stores_in os) true (bare_in false rest (stores_in os)))),
  λ k l. h k (less_more k (stores_in os) l) ∙ (ap (λ (xs : List Op). bare_in false xs k) e ∙ (ap (λ (n : ℕ). bare_here (true && nat_eq n k) true (bare_in false rest k)) es ∙ here_other (stores_in os) k true (bare_in false rest k) l)),
)

other_agrees : (m : Module) (bare : Bare) (o : Op) (os is rest : List Op) → NoStore o → is ≡ mark_of o ++ (image_op m o ∷ rest) → Agrees bare (o ∷ os) is → Agrees bare os rest
other_agrees m bare o os is rest n e h k l =
    h k (subst (λ (c : ℕ). k < c) (sym (other_counts o os n)) l) ∙ (ap (λ (xs : List Op). bare_in false xs k) e ∙ other_bare m o rest k n)

marked_shown : (m : Module) (f : Function) (os is : List Op) (bare : Bare) → IsMarked m f os is → Agrees bare os is → Shown m f bare os is
marked_shown m f [] is bare h a = (sym h, ap stores_in h, refl)
marked_shown m f (op.Store ty x y ∷ os) is bare (rest, inl e, h) a =
    let r = guarded_agrees m f bare ty x y os is rest false e (rest_stores m f os rest h) a in
    store_shown m f bare ty x y os is rest false r.0 (λ t. true_false (sym t)) e (marked_shown m f os rest bare h r.1)
marked_shown m f (op.Store ty x y ∷ os) is bare (rest, inr e, h) a =
    let r = guarded_agrees m f bare ty x y os is rest true e.1 (rest_stores m f os rest h) a in
    store_shown m f bare ty x y os is rest true r.0 (λ t. e.0) e.1 (marked_shown m f os rest bare h r.1)
marked_shown m f (o ∷ os) is bare (rest, inl e, h) a = other_shown m f bare o os is rest tt e (marked_shown m f os rest bare h (other_agrees m bare o os is rest tt e a))
marked_shown m f (o ∷ os) is bare (rest, inr e, h) a = absurd (other_spared m f o tt e.0)

-- Blocks, by their names.

not_any : (a b : Bool) → (a ≡ true → b ≡ true) → not b ≡ true → a ≡ false
not_any true true h e = sym e
not_any true false h e = sym (h refl)
not_any false b h e = refl

pub other_name : (names : List (List ℕ)) (x y : List ℕ) → is_distinct (y ∷ names) ≡ true → IsIn x names → bytes_eq y x ≡ false
other_name names x y d i = not_any (bytes_eq y x) (list_any (bytes_eq y) names) (λ e. any_of (bytes_eq y) names x i e) (first_of (not (list_any (bytes_eq y) names)) (is_distinct names) d)

pub found_here : (c : Block) (cs : List Block) (label : List ℕ) (b : Bool) → bytes_eq c.name label ≡ b → b ≡ true → code_block_named (map code_block_of (c ∷ cs)) label ≡ Some (code_block_of c)
found_here c cs label true e t = grind (arith, e)
found_here c cs label false e t = true_false (sym t)

pub found_later : (c : Block) (cs : List Block) (label : List ℕ) → bytes_eq c.name label ≡ false → code_block_named (map code_block_of (c ∷ cs)) label ≡ code_block_named (map code_block_of cs) label
found_later c cs label e = grind (arith, e)

named : (cs : List Block) (c : Block) → is_distinct (map name_of_block cs) ≡ true → IsIn c cs → code_block_named (map code_block_of cs) c.name ≡ Some (code_block_of c)
named [] c d i = absurd i
named (y ∷ cs) c d (inl e) = subst (λ (z : Block). code_block_named (map code_block_of (y ∷ cs)) z.name ≡ Some (code_block_of z)) e (found_here y cs y.name (bytes_eq y.name y.name) refl (bytes_itself y.name))
named (y ∷ cs) c d (inr i) =
    found_later y cs c.name (other_name (map name_of_block cs) c.name y.name d (in_map name_of_block c cs i)) ∙ named cs c (second_of (not (list_any (bytes_eq y.name) (map name_of_block cs))) (is_distinct (map name_of_block cs)) d) i

same_labels : (m : Module) (f : Function) (bs cs : List Block) → AreMarked m f bs cs → map name_of_block cs ≡ map name_of_block bs
same_labels m f [] [] h = refl
same_labels m f (b ∷ bs) (c ∷ cs) h = λ j. h.0 j ∷ same_labels m f bs cs h.2 j
same_labels m f [] (c ∷ cs) h = absurd h
same_labels m f (b ∷ bs) [] h = absurd h

-- a block that is found by its name
block_shown : (m : Module) (f : Function) (all : List Block) (b c : Block) → (c.name ≡ b.name) → IsMarked m f (ops_of b) (ops_of c) → code_block_named (map code_block_of all) c.name ≡ Some (code_block_of c) →
    (code_block_of c ≡ image_block (Some m) (bare_among (map code_block_of all)) (code_block_of b)) × (block_spares_well m f (bare_among (map code_block_of all)) (code_block_of b) ≡ true)
block_shown m f all b c same h found =
    let at : (k : ℕ) → bare_among (map code_block_of all) b.name k ≡ bare_in false (ops_of c) k
    = λ k. ap (λ (x : Option CodeBlock). bare_in false (code_or_none x) k) (ap (code_block_named (map code_block_of all)) (sym same) ∙ found) in
    let sh = marked_shown m f (ops_of b) (ops_of c) (bare_among (map code_block_of all) b.name) h (λ k l. at k) in
    ((λ j. record { label = same j; code = sym sh.0 j }), sh.2)

blocks_shown : (m : Module) (f : Function) (all bs cs : List Block) → AreMarked m f bs cs → ((c : Block) → IsIn c cs → code_block_named (map code_block_of all) c.name ≡ Some (code_block_of c)) →
    (map code_block_of cs ≡ map (image_block (Some m) (bare_among (map code_block_of all))) (map code_block_of bs)) × (list_all (block_spares_well m f (bare_among (map code_block_of all))) (map code_block_of bs) ≡ true)
blocks_shown m f all [] [] h found = (refl, refl)
blocks_shown m f all (b ∷ bs) (c ∷ cs) h found =
    let one = block_shown m f all b c h.0 h.1 (found c (inl refl)) in
    let more = blocks_shown m f all bs cs h.2 (λ x i. found x (inr i)) in
    ((λ j. one.0 j ∷ more.0 j), (λ j. one.1 j && more.1 j))
blocks_shown m f all [] (c ∷ cs) h found = absurd h
blocks_shown m f all (b ∷ bs) [] h found = absurd h

abbrev pub FunctionShown : Module → Function → Function → Type 0
FunctionShown m f g =
    (routine_of g ≡ routine_in_image (Some m) (bare_among (routine_of g).blocks) (routine_of f)) × (function_spares_well m f (bare_among (routine_of g).blocks) ≡ true)

nothing_runs : (m : Module) (f g : Function) → f.blocks ≡ None → g.blocks ≡ None → g.locals ≡ f.locals → FunctionShown m f g
nothing_runs m f g ef eg el = (
  (λ j. record { blocks = (ap (λ (x : Option (List Block)). map code_block_of (blocks_of_option x)) eg ∙ ap (λ (x : Option (List Block)). map (image_block (Some m) (bare_among (routine_of g).blocks)) (map code_block_of (blocks_of_option x))) (sym ef)) j; locals = length (el j) }),
  ap (λ (x : Option (List Block)). list_all (block_spares_well m f (bare_among (routine_of g).blocks)) (map code_block_of (blocks_of_option x))) ef,
)

function_by : (m : Module) (f g : Function) (bs cs : Option (List Block)) → f.blocks ≡ bs → g.blocks ≡ cs → g.locals ≡ f.locals → HasMarks m f bs cs → is_distinct (map name_of_block (blocks_of f)) ≡ true → FunctionShown m f g
function_by m f g None None ef eg el h d = nothing_runs m f g ef eg el
function_by m f g (Some bs) (Some cs) ef eg el h d =
    let here : blocks_of f ≡ bs = ap blocks_of_option ef in
    let there : blocks_of g ≡ cs = ap blocks_of_option eg in
    let distinct : is_distinct (map name_of_block cs) ≡ true = ap is_distinct (same_labels m f bs cs h ∙ ap (map name_of_block) (sym here)) ∙ d in
    let sh = blocks_shown m f cs bs cs h (λ c i. named cs c distinct i) in
    let blocks : map code_block_of (blocks_of g) ≡ map (image_block (Some m) (bare_among (map code_block_of (blocks_of g)))) (map code_block_of (blocks_of f))
    = ap (map code_block_of) there ∙ (sh.0 ∙ (λ j. map (image_block (Some m) (bare_among (map code_block_of (sym there j)))) (map code_block_of (sym here j)))) in (
      (λ j. record { blocks = blocks j; locals = length (el j) }),
      (λ j. list_all (block_spares_well m f (bare_among (map code_block_of (there j)))) (map code_block_of (here j))) ∙ sh.1,
    )
function_by m f g None (Some cs) ef eg el h d = absurd h
function_by m f g (Some bs) None ef eg el h d = absurd h

pub function_shown : (m : Module) (f g : Function) → IsGuarded m f g → is_distinct (map name_of_block (blocks_of f)) ≡ true → FunctionShown m f g
function_shown m f g h d = function_by m f g f.blocks g.blocks refl refl h.locals h.body d
