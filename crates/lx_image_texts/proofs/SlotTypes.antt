-- An image without its wrappers' bodies has the slot types of its program.
use Rattle.std.proofs.Common.{◌≡◌, ℕ, suc, Bool, true, false, not, ◌&&◌, List, [], ◌∷◌, ◌++◌, length, map, take, drop, Option, Some, None, inl, inr, refl, sym, ◌∙◌, ap}
use Rattle.std.specs.Prelude.{slice_get, option_map, find, cond, nat_eq, flat_map, is_some, option_to_list}
use Rattle.std.specs.List.{list_all, list_any}
use Rattle.std.specs.Option.{option_or}
use Rattle.std.proofs.lemmas.Option.{slice_get-map}
use Rattle.std.proofs.lemmas.Grind.{flat_map-append}
use Rattle.lx_words.proofs.Options.{some_same, none_some, some_none}
use Rattle.lx_words.proofs.Lists.{split_at, map_append, no_more}
use Rattle.lx_words.proofs.Tests.{false_true, first_of, second_of}
use Rattle.lx_ir.specs.declared.types.NamedType.{NamedType}
use Rattle.lx_ir.specs.declared.module.Symbol.TheVariants as symbol
use Rattle.lx_ir.specs.declared.module.Pointer.TheVariants as pointer
use Rattle.lx_ir.specs.declared.module.Constant.TheVariants as constant
use Rattle.lx_ir.specs.declared.module.Value.{Value}
use Rattle.lx_ir.specs.declared.module.Value.TheVariants as value
use Rattle.lx_ir.specs.declared.module.Block.{Block}
use Rattle.lx_ir.specs.declared.module.GlobalVar.{GlobalVar}
use Rattle.lx_ir.specs.declared.module.Function.{Function}
use Rattle.lx_ir.specs.declared.module.Module.{Module}
use Rattle.lx_ir.specs.declared.instr.Callee.TheVariants as callee
use Rattle.lx_ir.specs.declared.instr.Instr.{Instr}
use Rattle.lx_ir.specs.declared.instr.Op.{Op}
use Rattle.lx_ir.specs.declared.instr.Op.TheVariants as op
use Rattle.lx_ir.specs.Lookup.{is_defined, blocks_of_option, instrs_of}
use Rattle.lx_ir.specs.Lawful.{is_own_name}
use Rattle.lx_annot.specs.declared.interface.Interface.{Interface}
use Rattle.lx_slot_types.specs.Sites.{FieldName, Site, sites_at, function_value, init_sites, fields_at, named_fields_at, fields_of_global, global_fields_at, address_fields, element_fields, register_fields, store_sites, function_sites, sites_of}
use Rattle.lx_slot_types.specs.Gets.{has_name, gets, below, slot_of}
use Rattle.lx_slot_types.specs.Texts.{differ}
use Rattle.lx_propagate.specs.Slots.{Conflict, conflict, other_slot, conflict_with, conflict_at, conflict_from, conflict_of, marked, mark_at, annotated_from, annotated_of}
use Rattle.lx_image_texts.specs.Marks.{mark_of, image_op}
use Rattle.lx_image_texts.specs.Guards.{unlined_global, ops_of, IsMarked, AreMarked, HasMarks, IsGuarded, AreGuarded, Guards}
use Rattle.lx_image_texts.specs.ImageFaults.{without_body, without_wrappers}
use Rattle.lx_image_texts.proofs.Erasing.{names_of, is_program_name, guarded_names, drop_names, plain_functions, all_own}

-- lists

flat_of_map : {A B C : Type 0} (h : B → List C) (f : A → B) (xs : List A) → flat_map (λ x. h (f x)) xs ≡ flat_map h (map f xs)
flat_of_map h f [] = refl
flat_of_map h f (x ∷ xs) = ap (λ zs. h (f x) ++ zs) (flat_of_map h f xs)

-- what an instruction adds, where marks and calls add nothing
abbrev Silent : {B : Type 0} → (Op → List B) → Type 0
Silent h =
    ((at size : Value) (narrow : Bool) → h (op.Guard at size narrow) ≡ [])
    × ((target : Value) → h (op.Check target) ≡ [])
    × ((m : Module) (o : Op) → h (image_op m o) ≡ h o)

marks_silent : {B : Type 0} (h : Op → List B) → Silent h → (o : Op) (rest : List Op) → flat_map h (mark_of o ++ rest) ≡ flat_map h rest
marks_silent h s (op.Store ty x y) rest = ap (λ zs. zs ++ flat_map h rest) (s.0 y _ false)
marks_silent h s (op.CopyBlock moves dest source len) rest = ap (λ zs. zs ++ flat_map h rest) (s.0 dest len.value _)
marks_silent h s (op.FillBlock dest byte len) rest = ap (λ zs. zs ++ flat_map h rest) (s.0 dest len.value _)
marks_silent h s (op.Call to ret (callee.Register r) args) rest = ap (λ zs. zs ++ flat_map h rest) (s.1 (value.Register r))
marks_silent h s (op.Call to ret (callee.Symbol t) args) rest = refl
marks_silent h s o rest = refl

marked_same : {B : Type 0} (h : Op → List B) → Silent h → (m : Module) (f : Function) (os is : List Op) → IsMarked m f os is → flat_map h is ≡ flat_map h os
marked_same h s m f [] is e = ap (flat_map h) e
marked_same h s m f (o ∷ os) is (rest, inl e, k) =
    ap (flat_map h) e ∙ (marks_silent h s o (image_op m o ∷ rest) ∙ (λ j. s.2 m o j ++ marked_same h s m f os rest k j))
marked_same h s m f (o ∷ os) is (rest, inr e, k) = ap (flat_map h) e.1 ∙ (λ j. s.2 m o j ++ marked_same h s m f os rest k j)

blocks_same : {B : Type 0} (h : Op → List B) → Silent h → (m : Module) (f : Function) (bs cs : List Block) → AreMarked m f bs cs → flat_map (λ (c : Block). flat_map h (ops_of c)) cs ≡ flat_map (λ (b : Block). flat_map h (ops_of b)) bs
blocks_same h s m f [] [] k = refl
blocks_same h s m f (b ∷ bs) (c ∷ cs) k = λ j. marked_same h s m f (ops_of b) (ops_of c) k.1 j ++ blocks_same h s m f bs cs k.2 j
blocks_same h s m f [] (c ∷ cs) k = absurd k
blocks_same h s m f (b ∷ bs) [] k = absurd k

by_blocks : {B : Type 0} (h : Op → List B) (bs : List Block) → flat_map (λ (i : Instr). h i.op) (flat_map (λ (b : Block). b.instrs) bs) ≡ flat_map (λ (b : Block). flat_map h (ops_of b)) bs
by_blocks h [] = refl
by_blocks h (b ∷ bs) =
    flat_map-append (λ (i : Instr). h i.op) b.instrs (flat_map (λ (b : Block). b.instrs) bs) ∙ (λ j. flat_of_map h (λ (i : Instr). i.op) b.instrs j ++ by_blocks h bs j)

bodies_same : {B : Type 0} (h : Op → List B) → Silent h → (m : Module) (f : Function) (bs cs : Option (List Block)) → HasMarks m f bs cs → flat_map (λ (i : Instr). h i.op) (flat_map (λ (b : Block). b.instrs) (blocks_of_option cs)) ≡ flat_map (λ (i : Instr). h i.op) (flat_map (λ (b : Block). b.instrs) (blocks_of_option bs))
bodies_same h s m f None None k = refl
bodies_same h s m f (Some bs) (Some cs) k = by_blocks h cs ∙ (blocks_same h s m f bs cs k ∙ sym (by_blocks h bs))
bodies_same h s m f None (Some cs) k = absurd k
bodies_same h s m f (Some bs) None k = absurd k

functions_same : {B : Type 0} (h : Op → List B) → Silent h → (m : Module) (f g : Function) → IsGuarded m f g → flat_map (λ (i : Instr). h i.op) (instrs_of g) ≡ flat_map (λ (i : Instr). h i.op) (instrs_of f)
functions_same h s m f g k = bodies_same h s m f f.blocks g.blocks k.body

-- sites

abbrev reg_fields : List NamedType → List Instr → Value → List FieldName
reg_fields types instrs (value.Register r) = flat_map (λ i. element_fields types r i.op) instrs
reg_fields types instrs (value.Constant c) = []

reg_is : (m : Module) (instrs : List Instr) (v : Value) → register_fields m instrs v ≡ reg_fields m.types instrs v
reg_is m instrs (value.Register r) = refl
reg_is m instrs (value.Constant c) = refl

element_image : (types : List NamedType) (r : ℕ) (m : Module) (o : Op) → element_fields types r (image_op m o) ≡ element_fields types r o
element_image types r m (op.Guard at size narrow) = refl
element_image types r m (op.Check target) = refl
element_image types r m (op.Call to ret y args) = refl
element_image types r m o = refl

element_silent : (types : List NamedType) (r : ℕ) → Silent (element_fields types r)
element_silent types r = ((λ at size narrow. refl), (λ target. refl), element_image types r)

reg_same : (m : Module) (f g : Function) → IsGuarded m f g → (types : List NamedType) (v : Value) → reg_fields types (instrs_of g) v ≡ reg_fields types (instrs_of f) v
reg_same m f g k types (value.Register r) = functions_same (element_fields types r) (element_silent types r) m f g k
reg_same m f g k types (value.Constant c) = refl

-- what a store adds, by the fields of its address
abbrev op_sites : (Value → List FieldName) → (Value → List FieldName) → Op → List Site
op_sites address regs (op.Store ty v at) = sites_at (address at ++ regs at) (function_value v)
op_sites address regs o = []

op_is : (m : Module) (instrs : List Instr) (o : Op) → store_sites m instrs o ≡ op_sites (address_fields m) (reg_fields m.types instrs) o
op_is m instrs (op.Store ty v at) = ap (λ (fs : List FieldName). sites_at (address_fields m at ++ fs) (function_value v)) (reg_is m instrs at)
op_is m instrs o = refl

sites_image : (address regs : Value → List FieldName) (m : Module) (o : Op) → op_sites address regs (image_op m o) ≡ op_sites address regs o
sites_image address regs m (op.Guard at size narrow) = refl
sites_image address regs m (op.Check target) = refl
sites_image address regs m (op.Call to ret y args) = refl
sites_image address regs m o = refl

sites_silent : (address regs : Value → List FieldName) → Silent (op_sites address regs)
sites_silent address regs = ((λ at size narrow. refl), (λ target. refl), sites_image address regs)

function_is : (m : Module) (instrs : List Instr) → function_sites m instrs ≡ flat_map (λ (i : Instr). op_sites (address_fields m) (reg_fields m.types instrs) i.op) instrs
function_is m instrs = λ j. flat_map (λ (i : Instr). op_is m instrs i.op j) instrs

-- globals

abbrev fields_or : List NamedType → Option GlobalVar → ℕ → List FieldName
fields_or types None o = []
fields_or types (Some g) o = fields_at types (named_fields_at types (length types)) g.ty o

same_global : (types : List NamedType) (a b : Option GlobalVar) → option_map unlined_global a ≡ option_map unlined_global b → (o : ℕ) → fields_or types a o ≡ fields_or types b o
same_global types None None e o = refl
same_global types (Some g) (Some h) e o = ap (λ (v : GlobalVar). fields_at types (named_fields_at types (length types)) v.ty o) (some_same e)
same_global types None (Some h) e o = none_some e
same_global types (Some g) None e o = none_some (sym e)

-- what is used of an image: its functions, and that wrappers stand behind them
pub record Half (m x : Module) : Type 0 where
  pub types : x.types ≡ m.types
  pub globals : map unlined_global x.globals ≡ map unlined_global m.globals
  pub functions : AreGuarded m m.functions (take (length m.functions) x.functions)
  pub program : list_all is_program_name (names_of (take (length m.functions) x.functions)) ≡ true
  pub own : list_all (λ n. not (is_program_name n)) (names_of (drop (length m.functions) x.functions)) ≡ true

fields_is : (m : Module) (g : Option GlobalVar) (o : ℕ) → fields_of_global m g o ≡ fields_or m.types g o
fields_is m None o = refl
fields_is m (Some g) o = refl

global_same : (i : Interface) (m x : Module) → Half m x → (g o : ℕ) → global_fields_at (without_wrappers x) g o ≡ global_fields_at m g o
global_same i m x k g o =
    fields_is (without_wrappers x) (slice_get x.globals g) o
    ∙ (ap (λ (ts : List NamedType). fields_or ts (slice_get x.globals g) o) k.types
    ∙ (same_global m.types (slice_get x.globals g) (slice_get m.globals g) (sym (slice_get-map unlined_global x.globals g) ∙ (ap (λ (gs : List GlobalVar). slice_get gs g) k.globals ∙ slice_get-map unlined_global m.globals g)) o
    ∙ sym (fields_is m (slice_get m.globals g) o)))

address_same : (i : Interface) (m x : Module) → Half m x → (v : Value) → address_fields (without_wrappers x) v ≡ address_fields m v
address_same i m x k (value.Constant (constant.Pointer (pointer.Symbol (symbol.Global g) o))) = global_same i m x k g o
address_same i m x k (value.Constant (constant.Pointer (pointer.Symbol (symbol.Function f) o))) = refl
address_same i m x k (value.Constant (constant.Pointer pointer.Null)) = refl
address_same i m x k (value.Constant (constant.Pointer (pointer.Blank b))) = refl
address_same i m x k (value.Constant (constant.Pointer (pointer.Number n))) = refl
address_same i m x k (value.Constant (constant.Number w)) = refl
address_same i m x k (value.Constant (constant.Truth b)) = refl
address_same i m x k (value.Constant (constant.Blank b w)) = refl
address_same i m x k (value.Constant (constant.Cast p w)) = refl
address_same i m x k (value.Register r) = refl

-- a function's sites

sites_same : (i : Interface) (m x : Module) → Half m x → (f g : Function) → IsGuarded m f g → function_sites (without_wrappers x) (instrs_of g) ≡ function_sites m (instrs_of f)
sites_same i m x k f g h =
    function_is (without_wrappers x) (instrs_of g)
    ∙ ((λ j. flat_map (λ (n : Instr). op_sites (λ v. address_same i m x k v j) (reg_fields (k.types j) (instrs_of g)) n.op) (instrs_of g))
    ∙ ((λ j. flat_map (λ (n : Instr). op_sites (address_fields m) (λ v. reg_same m f g h m.types v j) n.op) (instrs_of g))
    ∙ (functions_same (op_sites (address_fields m) (reg_fields m.types (instrs_of f))) (sites_silent (address_fields m) (reg_fields m.types (instrs_of f))) m f g h
    ∙ sym (function_is m (instrs_of f)))))

-- all functions, where wrappers have no bodies

kept_body : (g : Function) (b : Bool) → is_own_name g.name ≡ b → not b ≡ true → without_body g ≡ g
kept_body g true e n = false_true n
kept_body g false e n = ap (λ (c : Bool). cond c (record g { blocks = None }) g) e

pub wrapper_body : (g : Function) (b : Bool) → is_own_name g.name ≡ b → not (not b) ≡ true → without_body g ≡ record g { blocks = None }
wrapper_body g true e n = ap (λ (c : Bool). cond c (record g { blocks = None }) g) e
wrapper_body g false e n = false_true n

pub program_body : (g : Function) → not (is_own_name g.name) ≡ true → without_body g ≡ g
program_body g e = kept_body g (is_own_name g.name) refl e

all_sites : (i : Interface) (m x : Module) → Half m x → (fs gs : List Function) → AreGuarded m fs gs → list_all is_program_name (names_of gs) ≡ true → flat_map (λ (f : Function). function_sites (without_wrappers x) (instrs_of f)) (map without_body gs) ≡ flat_map (λ (f : Function). function_sites m (instrs_of f)) fs
all_sites i m x k [] gs h p = ap (λ (zs : List Function). flat_map (λ (f : Function). function_sites (without_wrappers x) (instrs_of f)) (map without_body zs)) h
all_sites i m x k (f ∷ fs) [] h p = absurd h
all_sites i m x k (f ∷ fs) (g ∷ gs) h p =
    λ j. (ap (λ (z : Function). function_sites (without_wrappers x) (instrs_of z)) (program_body g (first_of (is_program_name g.name) (list_all is_program_name (names_of gs)) p)) ∙ sites_same i m x k f g h.0) j
    ++ all_sites i m x k fs gs h.1 (second_of (is_program_name g.name) (list_all is_program_name (names_of gs)) p) j

no_sites : (y : Module) (ws : List Function) → list_all (λ n. not (is_program_name n)) (names_of ws) ≡ true → flat_map (λ (f : Function). function_sites y (instrs_of f)) (map without_body ws) ≡ []
no_sites y [] p = refl
no_sites y (w ∷ ws) p =
    λ j. (ap (λ (z : Function). function_sites y (instrs_of z)) (wrapper_body w (is_own_name w.name) refl (first_of (not (is_program_name w.name)) (list_all (λ n. not (is_program_name n)) (names_of ws)) p))) j
    ++ no_sites y ws (second_of (not (is_program_name w.name)) (list_all (λ n. not (is_program_name n)) (names_of ws)) p) j

pub parts_map : (n : ℕ) (xs : List Function) → map without_body xs ≡ map without_body (take n xs) ++ map without_body (drop n xs)
parts_map n xs = ap (map without_body) (sym (split_at n xs)) ∙ map_append without_body (take n xs) (drop n xs)

init_is : (a b : List GlobalVar) → map unlined_global a ≡ map unlined_global b → flat_map (λ g. init_sites g.ty g.init) a ≡ flat_map (λ g. init_sites g.ty g.init) b
init_is a b e =
    flat_of_map (λ (g : GlobalVar). init_sites g.ty g.init) unlined_global a ∙ (ap (flat_map (λ (g : GlobalVar). init_sites g.ty g.init)) e ∙ sym (flat_of_map (λ (g : GlobalVar). init_sites g.ty g.init) unlined_global b))

pub same_sites : (i : Interface) (m x : Module) → Half m x → sites_of (without_wrappers x) ≡ sites_of m
same_sites i m x k =
    λ j. init_is x.globals m.globals k.globals j
    ++ (ap (flat_map (λ (f : Function). function_sites (without_wrappers x) (instrs_of f))) (parts_map (length m.functions) x.functions)
    ∙ (flat_map-append (λ (f : Function). function_sites (without_wrappers x) (instrs_of f)) (map without_body (take (length m.functions) x.functions)) (map without_body (drop (length m.functions) x.functions))
    ∙ ((λ l. all_sites i m x k m.functions (take (length m.functions) x.functions) k.functions (k.program) l ++ no_sites (without_wrappers x) (drop (length m.functions) x.functions) (k.own) l)
    ∙ no_more (flat_map (λ (f : Function). function_sites m (instrs_of f)) m.functions)))) j

-- the slot types that functions get

abbrev types_by : Interface → List NamedType → FieldName → ℕ → Bool
types_by i types name s = list_any (λ f. has_name (slice_get types name.struct_number) f.name && (nat_eq f.index name.index && nat_eq f.slot s)) i.fields

gets_same : (i : Interface) (m x : Module) → Half m x → (f s : ℕ) → gets i (without_wrappers x) f s ≡ gets i m f s
gets_same i m x k f s = λ j. list_any (λ (site : Site). nat_eq site.function f && types_by i (k.types j) site.at s) (same_sites i m x k j)

slot_same : (i : Interface) (m x : Module) → Half m x → (f : ℕ) → slot_of i (without_wrappers x) f ≡ slot_of i m f
slot_same i m x k f = λ j. find (λ s. gets_same i m x k f s j) (below (length i.slots))

other_same : (i : Interface) (m x : Module) → Half m x → (f s : ℕ) → other_slot i (without_wrappers x) f s ≡ other_slot i m f s
other_same i m x k f s = λ j. find (λ t. gets_same i m x k f t j && differ i s t) (below (length i.slots))

pub defined_by : (m : Module) (f : Function) (bs cs : Option (List Block)) → HasMarks m f bs cs → is_some cs ≡ is_some bs
defined_by m f None None h = refl
defined_by m f (Some bs) (Some cs) h = refl
defined_by m f None (Some cs) h = absurd h
defined_by m f (Some bs) None h = absurd h

pub defined_same : (m : Module) (f g : Function) → IsGuarded m f g → is_defined g ≡ is_defined f
defined_same m f g h = defined_by m f f.blocks g.blocks h.body

mark_same : (i : Interface) (m x : Module) → Half m x → (n : ℕ) (f g : Function) → IsGuarded m f g → mark_at i (without_wrappers x) n g ≡ mark_at i m n f
mark_same i m x k n f g h = λ j. cond (defined_same m f g h j) (option_map (marked n) (slot_same i m x k n j)) None

marks_same : (i : Interface) (m x : Module) → Half m x → (n : ℕ) (fs gs zs : List Function) → AreGuarded m fs gs → list_all is_program_name (names_of gs) ≡ true → ((l : ℕ) → annotated_from i (without_wrappers x) l zs ≡ []) →
    annotated_from i (without_wrappers x) n (map without_body gs ++ zs) ≡ annotated_from i m n fs
marks_same i m x k n [] gs zs h p none = ap (λ (ys : List Function). annotated_from i (without_wrappers x) n (map without_body ys ++ zs)) h ∙ none n
marks_same i m x k n (f ∷ fs) [] zs h p none = absurd h
marks_same i m x k n (f ∷ fs) (g ∷ gs) zs h p none =
    λ j. option_to_list ((ap (mark_at i (without_wrappers x) n) (program_body g (first_of (is_program_name g.name) (list_all is_program_name (names_of gs)) p)) ∙ mark_same i m x k n f g h.0) j)
    ++ marks_same i m x k (suc n) fs gs zs h.1 (second_of (is_program_name g.name) (list_all is_program_name (names_of gs)) p) none j

no_marks : (i : Interface) (y : Module) (ws : List Function) → list_all (λ n. not (is_program_name n)) (names_of ws) ≡ true → (l : ℕ) → annotated_from i y l (map without_body ws) ≡ []
no_marks i y [] p l = refl
no_marks i y (w ∷ ws) p l =
    λ j. option_to_list (ap (mark_at i y l) (wrapper_body w (is_own_name w.name) refl (first_of (not (is_program_name w.name)) (list_all (λ n. not (is_program_name n)) (names_of ws)) p)) j)
    ++ no_marks i y ws (second_of (not (is_program_name w.name)) (list_all (λ n. not (is_program_name n)) (names_of ws)) p) (suc l) j

pub half_annotated : (i : Interface) (m x : Module) → Half m x → annotated_of i (without_wrappers x) ≡ annotated_of i m
half_annotated i m x k =
    ap (annotated_from i (without_wrappers x) 0) (parts_map (length m.functions) x.functions)
    ∙ marks_same i m x k 0 m.functions (take (length m.functions) x.functions) (map without_body (drop (length m.functions) x.functions)) k.functions (k.program)
    (no_marks i (without_wrappers x) (drop (length m.functions) x.functions) (k.own))

-- conflicts

either_none : (a b : Option Conflict) → option_or a b ≡ None → (a ≡ None) × (b ≡ None)
either_none None b e = (refl, e)
either_none (Some c) b e = some_none e

both_none : (a b : Option Conflict) → a ≡ None → b ≡ None → option_or a b ≡ None
both_none None b e h = h
both_none (Some c) b e h = some_none e

mapped_none : (f g : ℕ → Conflict) (o : Option ℕ) → option_map f o ≡ None → option_map g o ≡ None
mapped_none f g None e = refl
mapped_none f g (Some t) e = some_none e

with_none : (i : Interface) (m x : Module) → Half m x → (n : ℕ) (f g : Function) (s : Option ℕ) → conflict_with i m n f s ≡ None → conflict_with i (without_wrappers x) n g s ≡ None
with_none i m x k n f g None e = refl
with_none i m x k n f g (Some s) e =
    ap (option_map (λ t. conflict i g s t)) (other_same i m x k n s) ∙ mapped_none (λ t. conflict i f s t) (λ t. conflict i g s t) (other_slot i m n s) e

at_by : (i : Interface) (m x : Module) → Half m x → (n : ℕ) (f g : Function) (b : Bool) → cond b (conflict_with i m n f (slot_of i m n)) None ≡ None → cond b (conflict_with i (without_wrappers x) n g (slot_of i (without_wrappers x) n)) None ≡ None
at_by i m x k n f g true e = ap (conflict_with i (without_wrappers x) n g) (slot_same i m x k n) ∙ with_none i m x k n f g (slot_of i m n) e
at_by i m x k n f g false e = refl

at_none : (i : Interface) (m x : Module) → Half m x → (n : ℕ) (f g : Function) → IsGuarded m f g → conflict_at i m n f ≡ None → conflict_at i (without_wrappers x) n g ≡ None
at_none i m x k n f g h e =
    ap (λ (b : Bool). cond b (conflict_with i (without_wrappers x) n g (slot_of i (without_wrappers x) n)) None) (defined_same m f g h) ∙ at_by i m x k n f g (is_defined f) e

conflicts_none : (i : Interface) (m x : Module) → Half m x → (n : ℕ) (fs gs zs : List Function) → AreGuarded m fs gs → list_all is_program_name (names_of gs) ≡ true → ((l : ℕ) → conflict_from i (without_wrappers x) l zs ≡ None) → conflict_from i m n fs ≡ None →
    conflict_from i (without_wrappers x) n (map without_body gs ++ zs) ≡ None
conflicts_none i m x k n [] gs zs h p none e = ap (λ (ys : List Function). conflict_from i (without_wrappers x) n (map without_body ys ++ zs)) h ∙ none n
conflicts_none i m x k n (f ∷ fs) [] zs h p none e = absurd h
conflicts_none i m x k n (f ∷ fs) (g ∷ gs) zs h p none e =
    let parts = either_none (conflict_at i m n f) (conflict_from i m (suc n) fs) e in
    both_none (conflict_at i (without_wrappers x) n (without_body g)) (conflict_from i (without_wrappers x) (suc n) (map without_body gs ++ zs))
    (ap (conflict_at i (without_wrappers x) n) (program_body g (first_of (is_program_name g.name) (list_all is_program_name (names_of gs)) p)) ∙ at_none i m x k n f g h.0 parts.0)
    (conflicts_none i m x k (suc n) fs gs zs h.1 (second_of (is_program_name g.name) (list_all is_program_name (names_of gs)) p) none parts.1)

bare_none : (i : Interface) (y : Module) (ws : List Function) → list_all (λ n. not (is_program_name n)) (names_of ws) ≡ true → (l : ℕ) → conflict_from i y l (map without_body ws) ≡ None
bare_none i y [] p l = refl
bare_none i y (w ∷ ws) p l =
    both_none (conflict_at i y l (without_body w)) (conflict_from i y (suc l) (map without_body ws))
    (ap (conflict_at i y l) (wrapper_body w (is_own_name w.name) refl (first_of (not (is_program_name w.name)) (list_all (λ n. not (is_program_name n)) (names_of ws)) p)))
    (bare_none i y ws (second_of (not (is_program_name w.name)) (list_all (λ n. not (is_program_name n)) (names_of ws)) p) (suc l))

pub half_agrees : (i : Interface) (m x : Module) → Half m x → conflict_of i m ≡ None → conflict_of i (without_wrappers x) ≡ None
half_agrees i m x k agrees =
    ap (conflict_from i (without_wrappers x) 0) (parts_map (length m.functions) x.functions)
    ∙ conflicts_none i m x k 0 m.functions (take (length m.functions) x.functions) (map without_body (drop (length m.functions) x.functions)) k.functions (k.program)
    (bare_none i (without_wrappers x) (drop (length m.functions) x.functions) (k.own)) agrees

pub half_of : (i : Interface) (m x : Module) → Guards i m x → Half m x
half_of i m x k =
    record {
      types = k.types;
      globals = k.globals;
      functions = k.functions;
      program = ap (list_all is_program_name) (guarded_names m m.functions (take (length m.functions) x.functions) k.functions) ∙ plain_functions m k.plain;
      own = ap (list_all (λ n. not (is_program_name n))) (drop_names i m x k) ∙ all_own i m;
    }

pub same_annotated : (i : Interface) (m x : Module) → Guards i m x → annotated_of i (without_wrappers x) ≡ annotated_of i m
same_annotated i m x k = half_annotated i m x (half_of i m x k)

pub still_agrees : (i : Interface) (m x : Module) → Guards i m x → conflict_of i (without_wrappers x) ≡ None
still_agrees i m x k = half_agrees i m x (half_of i m x k) k.agrees

-- and the other way

with_back : (i : Interface) (m x : Module) → Half m x → (n : ℕ) (f g : Function) (s : Option ℕ) → conflict_with i (without_wrappers x) n g s ≡ None → conflict_with i m n f s ≡ None
with_back i m x k n f g None e = refl
with_back i m x k n f g (Some s) e =
    ap (option_map (λ t. conflict i f s t)) (sym (other_same i m x k n s)) ∙ mapped_none (λ t. conflict i g s t) (λ t. conflict i f s t) (other_slot i (without_wrappers x) n s) e

at_by_back : (i : Interface) (m x : Module) → Half m x → (n : ℕ) (f g : Function) (b : Bool) → cond b (conflict_with i (without_wrappers x) n g (slot_of i (without_wrappers x) n)) None ≡ None → cond b (conflict_with i m n f (slot_of i m n)) None ≡ None
at_by_back i m x k n f g true e = ap (conflict_with i m n f) (sym (slot_same i m x k n)) ∙ with_back i m x k n f g (slot_of i (without_wrappers x) n) e
at_by_back i m x k n f g false e = refl

at_back : (i : Interface) (m x : Module) → Half m x → (n : ℕ) (f g : Function) → IsGuarded m f g → conflict_at i (without_wrappers x) n g ≡ None → conflict_at i m n f ≡ None
at_back i m x k n f g h e =
    ap (λ (b : Bool). cond b (conflict_with i m n f (slot_of i m n)) None) (sym (defined_same m f g h)) ∙ at_by_back i m x k n f g (is_defined g) e

conflicts_back : (i : Interface) (m x : Module) → Half m x → (n : ℕ) (fs gs zs : List Function) → AreGuarded m fs gs → list_all is_program_name (names_of gs) ≡ true → conflict_from i (without_wrappers x) n (map without_body gs ++ zs) ≡ None → conflict_from i m n fs ≡ None
conflicts_back i m x k n [] gs zs h p e = refl
conflicts_back i m x k n (f ∷ fs) [] zs h p e = absurd h
conflicts_back i m x k n (f ∷ fs) (g ∷ gs) zs h p e =
    let parts = either_none (conflict_at i (without_wrappers x) n (without_body g)) (conflict_from i (without_wrappers x) (suc n) (map without_body gs ++ zs)) e in
    both_none (conflict_at i m n f) (conflict_from i m (suc n) fs)
    (at_back i m x k n f g h.0 (ap (conflict_at i (without_wrappers x) n) (sym (program_body g (first_of (is_program_name g.name) (list_all is_program_name (names_of gs)) p))) ∙ parts.0))
    (conflicts_back i m x k (suc n) fs gs zs h.1 (second_of (is_program_name g.name) (list_all is_program_name (names_of gs)) p) parts.1)

pub agrees_back : (i : Interface) (m x : Module) → Half m x → conflict_of i (without_wrappers x) ≡ None → conflict_of i m ≡ None
agrees_back i m x k e =
    conflicts_back i m x k 0 m.functions (take (length m.functions) x.functions) (map without_body (drop (length m.functions) x.functions)) k.functions k.program
    (ap (conflict_from i (without_wrappers x) 0) (sym (parts_map (length m.functions) x.functions)) ∙ e)
