-- Well-formed programs are within reach, and linked.
use Rattle.std.proofs.Common.{◌≡◌, ℕ, zero, suc, ◌+◌, ◌≤◌, Bool, true, false, ◌&&◌, Option, Some, None, List, [], ◌∷◌, ◌++◌, length, map, nat_lt, if◌then◌else◌, refl, arith}
use Rattle.std.specs.Prelude.{All, slice_get, is_some}
use Rattle.std.specs.List.{list_all}
use Rattle.std.proofs.lemmas.Bool.{and_parts, and_from}
use Rattle.lx_ir.specs.declared.module.Block.{Block}
use Rattle.lx_ir.specs.declared.module.Function.{Function}
use Rattle.lx_ir.specs.declared.module.Module.{Module}
use Rattle.lx_ir.specs.declared.instr.Instr.{Instr}
use Rattle.lx_ir.specs.declared.instr.Op.{Op}
use Rattle.lx_ir.specs.declared.instr.Op.TheVariants as op
use Rattle.lx_ir.specs.Layout.{is_lawful_type}
use Rattle.lx_ir.specs.Lawful.{IsLawful, has_form, is_lawful_op, is_lawful_value, is_lawful_block, is_lawful_body, is_lawful_import, is_lawful_function, is_name, is_label, ends_once, numbers_registers, parameter_names, is_distinct}
use Rattle.lx_ir.specs.Lookup.{blocks_of, blocks_of_option, is_defined}
use Rattle.lx_ir.specs.Operands.{operands_of, labels_of, register_count}
use Rattle.lx_annot.specs.declared.interface.CapIterator.{CapIterator}
use Rattle.lx_annot.specs.Items.{items_of}
use Rattle.lx_model.specs.declared.program.Program.{Program}
use Rattle.lx_model.specs.declared.program.ProgramModule.{ProgramModule}
use Rattle.lx_code.specs.Reach.{is_sized, are_sized, are_sized_instrs, is_sized_function, is_sized_module}
use Rattle.lx_annot.specs.Lawful.{IsLawfulIterator}
use Rattle.lx_link_texts.specs.WellFormed.{IsModuleOf}
use Rattle.lx_annotation_tables.specs.Laws.{AreWithinReach, AreLinked, AreSized}

all_more : {A : Type 0} (f g : A → Bool) → ((x : A) → f x ≡ true → g x ≡ true) → (xs : List A) → list_all f xs ≡ true → list_all g xs ≡ true
all_more f g h [] k = refl
all_more f g h (x ∷ xs) k =
    let a = and_parts (f x) (list_all f xs) k in
    and_from (g x) (list_all g xs) (h x a.0) (all_more f g h xs a.1)

formed : (m : Module) (o : Op) → has_form m o ≡ true → is_sized m.types o ≡ true
formed m (op.Binary to o ty a b) h = refl
formed m (op.Compare to p ty a b) h = refl
formed m (op.Convert to how from a into) h = refl
formed m (op.Unary to o ty a) h = refl
formed m (op.Select to c ty a b) h = refl
formed m (op.Phi to ty edges) h = refl
formed m (op.Alloca to ty) h = h
formed m (op.Load to ty at) h = refl
formed m (op.Store ty v at) h = refl
formed m (op.GetElementPtr to ty base indices) h = (and_parts (is_lawful_type m.types ty) (nat_lt 0 (length indices)) h).0
formed m (op.Call to ret target args) h = refl
formed m (op.CopyBlock moves dest source len) h = refl
formed m (op.FillBlock dest byte len) h = refl
formed m (op.Ret v) h = refl
formed m (op.Jump label) h = refl
formed m (op.Branch c a b) h = refl
formed m (op.Switch ty v otherwise cases) h = refl
formed m op.Unreachable h = refl
formed m (op.Guard at size narrow) h = refl
formed m (op.Check target) h = refl
formed m (op.Enter f) h = refl
formed m (op.Pre f k) h = refl
formed m (op.Post f k) h = refl
formed m (op.Leave f) h = refl

sized_op : (m : Module) (f : Function) (i : Instr) → is_lawful_op m f i.op ≡ true → is_sized m.types i.op ≡ true
sized_op m f i h =
    let a = and_parts (has_form m i.op && list_all (λ a. is_lawful_value m f a.ty a.value) (operands_of i.op)) (list_all is_name (labels_of i.op)) h in
    formed m i.op (and_parts (has_form m i.op) (list_all (λ a. is_lawful_value m f a.ty a.value) (operands_of i.op)) a.0).0

sized_block : (m : Module) (f : Function) (b : Block) → is_lawful_block m f b ≡ true → are_sized_instrs m.types b.instrs ≡ true
sized_block m f b h =
    all_more (λ (i : Instr). is_lawful_op m f i.op) (λ (i : Instr). is_sized m.types i.op) (sized_op m f) b.instrs
    (and_parts (is_label b.name && ends_once b.instrs) (list_all (λ (i : Instr). is_lawful_op m f i.op) b.instrs) h).1

sixth : (a b c d e f g : Bool) → (a && b && c && d && e && f && g) ≡ true → f ≡ true
sixth true true true true true true g h = refl
sixth true true true true true false g h = absurd (cc)
sixth true true true true false f g h = absurd (cc)
sixth true true true false e f g h = absurd (cc)
sixth true true false d e f g h = absurd (cc)
sixth true false c d e f g h = absurd (cc)
sixth false b c d e f g h = absurd (cc)

sized_blocks : (m : Module) (f : Function) (o : Option (List Block)) → (is_some o ≡ true → list_all (is_lawful_block m f) (blocks_of_option o) ≡ true) → are_sized m.types (blocks_of_option o) ≡ true
sized_blocks m f None h = refl
sized_blocks m f (Some bs) h = all_more (is_lawful_block m f) (λ (b : Block). are_sized_instrs m.types b.instrs) (sized_block m f) bs (h refl)

body_lawful : (m : Module) (f : Function) → is_lawful_body m f ≡ true → list_all (is_lawful_block m f) (blocks_of f) ≡ true
body_lawful m f h =
    sixth (list_all is_name (parameter_names f ++ f.locals)) (is_distinct (parameter_names f ++ f.locals)) (nat_lt (register_count f) 4294967295) (nat_lt 0 (length (blocks_of f)))
    (is_distinct (map (λ (b : Block). b.name) (blocks_of f))) (list_all (is_lawful_block m f) (blocks_of f)) (numbers_registers f) h

then_is : (b x y : Bool) → (if b then x else y) ≡ true → b ≡ true → x ≡ true
then_is true x y h e = h
then_is false x y h e = absurd (cc)

sized_function : (m : Module) (f : Function) → is_lawful_function m f ≡ true → is_sized_function m.types f ≡ true
sized_function m f h =
    let a = and_parts _ (if is_defined f then is_lawful_body m f else is_lawful_import f) h in
    sized_blocks m f f.blocks (λ e. body_lawful m f (then_is (is_defined f) (is_lawful_body m f) (is_lawful_import f) a.1 e))

pub sized_module : AreSized
sized_module m lawful = all_more (is_lawful_function m) (is_sized_function m.types) (sized_function m) m.functions lawful.functions

sized_modules : (kernel : Module) (p : Program) (ms : List ProgramModule) → All (λ (m : ProgramModule). IsModuleOf kernel p.interface m.«module») ms → list_all (λ (m : ProgramModule). is_sized_module m.«module») ms ≡ true
sized_modules kernel p [] all = refl
sized_modules kernel p (m ∷ ms) all =
    and_from (is_sized_module m.«module») (list_all (λ (x : ProgramModule). is_sized_module x.«module») ms)
    (sized_module m.«module» (all 0 m (omega arith)).verified.lawful)
    (sized_modules kernel p ms (λ k d less. all (suc k) d (omega (arith, less))))

pub within_reach : AreWithinReach
within_reach p well =
    record {
      functions = omega (arith, well.few_functions);
      slots = omega (arith, well.interface.numbered.slots);
      kernel = sized_module p.kernel well.kernel_verified.lawful;
      modules = sized_modules p.kernel p p.modules well.modules;
    }

-- iterators are short

short_items : (reftypes : ℕ) (xs : List CapIterator) (k : ℕ) → All (IsLawfulIterator reftypes) xs → length (items_of (slice_get xs k)) ≤ 16
short_items n [] k all = omega arith
short_items n (x ∷ xs) zero all = (all 0 x (omega arith)).few
short_items n (x ∷ xs) (suc k) all = short_items n xs k (λ j d less. all (suc j) d (omega (arith, less)))

pub linked : AreLinked
linked p well =
    record {
      iterators = λ k. short_items (length p.interface.reftypes) p.interface.iterators k well.interface.named.iterators;
      functions = omega (arith, well.few_functions);
    }
