-- Sites that are added to a table, one after another.
use Rattle.std.proofs.Common.{◌≡◌, ℕ, ◌+◌, ◌<◌, Bool, true, false, cond, Option, Some, None, List, [], ◌∷◌, ◌++◌, length, get_or, take, if◌then◌else◌, nat_eq, refl, sym, ap, ◌∙◌, subst, append_assoc, append-nil}
use Rattle.std.specs.Prelude.{flat_map, find, option_to_list}
use Rattle.lx_words.proofs.Tests.{true_eq}
use Rattle.lx_ir.specs.declared.module.Module.{Module}
use Rattle.lx_ir.specs.declared.module.Function.{Function}
use Rattle.lx_ir.specs.declared.module.GlobalVar.{GlobalVar}
use Rattle.lx_ir.specs.declared.module.Value.{Value}
use Rattle.lx_ir.specs.declared.module.Value.TheVariants as value
use Rattle.lx_ir.specs.declared.instr.Instr.{Instr}
use Rattle.lx_ir.specs.Lookup.{instrs_of}
use Rattle.lx_annot.specs.declared.interface.Interface.{Interface}
use Rattle.lx_slot_types.specs.Sites.{FieldName, Site, address_fields, function_sites, init_sites, register_fields, sites_at, sites_of, store_sites}
use Rattle.lx_slot_sums.specs.declared.sums.SlotSum.{SlotSum}
use Rattle.lx_slot_sums.specs.Sums.{Typing, sum_of, sum_or_none}
use Rattle.lx_slot_sums.proofs.Joining.{no_list}
use Rattle.lx_propagate.specs.Names.{names_for, register_sites}
use Rattle.lx_propagate.specs.Tables.{Table, sum_at, HasSums, Adds, HasRegisters, AddsStores}
use Rattle.lx_propagate.specs.Told.{HasSlotTypes}
use Rattle.lx_propagate.specs.declared.slots.SlotTypes.{SlotTypes}
use Rattle.lx_propagate.proofs.Names.{names_append, names_at, register_names}
use Rattle.lx_propagate.proofs.Walks.{flat_front, flat_flat_front}

pub adds_none : (i : Interface) (m : Module) (table : Table) → Adds i m [] table table
unfolding Adds
adds_none i m table n names e = e ∙ ap (sum_of i m) (sym (append-nil names))

pub adds_then : (i : Interface) (m : Module) (xs ys : List Site) (a b c : Table) → Adds i m xs a b → Adds i m ys b c → Adds i m (xs ++ ys) a c
unfolding Adds
adds_then i m xs ys a b c p q n names e =
    q n (names ++ names_for n xs) (p n names e)
    ∙ ap (sum_of i m) (append_assoc names (names_for n xs) (names_for n ys) ∙ ap (λ zs. names ++ zs) (sym (names_append n xs ys)))

-- an item more, and a list of items more
pub adds_more : {A : Type 0} (i : Interface) (m : Module) (f : A → List Site) (xs : List A) (k : ℕ) (x : A) (a b c : Table) → k < length xs → x ≡ get_or xs k x → Adds i m (flat_map f (take k xs)) a b → Adds i m (f x) b c → Adds i m (flat_map f (take (k + 1) xs)) a c
adds_more i m f xs k x a b c h e p q =
    subst (λ zs. Adds i m zs a c) (flat_front f xs k x h e) (adds_then i m (flat_map f (take k xs)) (f x) a b c p q)

pub adds_list_more : {A B : Type 0} (i : Interface) (m : Module) (f : B → List Site) (g : A → List B) (xs : List A) (k : ℕ) (x : A) (a b c : Table) → k < length xs → x ≡ get_or xs k x → Adds i m (flat_map f (flat_map g (take k xs))) a b → Adds i m (flat_map f (g x)) b c → Adds i m (flat_map f (flat_map g (take (k + 1) xs))) a c
adds_list_more i m f g xs k x a b c h e p q =
    subst (λ zs. Adds i m zs a c) (flat_flat_front f g xs k x h e) (adds_then i m (flat_map f (flat_map g (take k xs))) (flat_map f (g x)) a b c p q)

-- fields of one number, by what they come to
pub joined : (i : Interface) (m : Module) (number : ℕ) (more : List FieldName) (old new : Table) (sum join : SlotSum) → ((n : ℕ) → sum_at new n ≡ cond (nat_eq number n) join (sum_at old n)) → ((xs ys : List FieldName) → sum_at old number ≡ sum_of i m xs → sum ≡ sum_of i m ys → join ≡ sum_of i m (xs ++ ys)) → sum ≡ sum_of i m more → Adds i m (sites_at more (Some number)) old new
unfolding Adds
joined i m number more old new sum join put joins is n names e =
    put n ∙ by (nat_eq number n) refl ∙ ap (λ zs. sum_of i m (names ++ zs)) (sym (names_at n number more))
  where
    by : (b : Bool) → nat_eq number n ≡ b → cond b join (sum_at old n) ≡ sum_of i m (names ++ (if b then more else []))
    by true h = joins names more (ap (sum_at old) (true_eq number n h) ∙ e) is
    by false h = e ∙ ap (sum_of i m) (sym (append-nil names))

pub put_is : (b : Bool) (sum : SlotSum) (o : Option SlotSum) → sum_or_none (cond b (Some sum) o) ≡ cond b sum (sum_or_none o)
put_is true sum o = refl
put_is false sum o = refl

pub adds_nothing : (i : Interface) (m : Module) (sites : List Site) (table : Table) → sites ≡ [] → Adds i m sites table table
adds_nothing i m sites table e = subst (λ zs. Adds i m zs table table) (sym e) (adds_none i m table)

pub adds_nowhere : (i : Interface) (m : Module) (at : Option FieldName) (number : Option ℕ) (table : Table) → at ≡ None → Adds i m (sites_at (option_to_list at) number) table table
adds_nowhere i m at number table e = subst (λ o. Adds i m (sites_at (option_to_list o) number) table table) (sym e) (by number)
  where
    by : (number : Option ℕ) → Adds i m (sites_at [] number) table table
    by None = adds_none i m table
    by (Some n) = adds_none i m table

-- an empty table has no fields

nothing : (ns : List ℕ) → None ≡ find (λ (n : ℕ). false) ns
nothing [] = refl
nothing (n ∷ ns) = nothing ns

pub all_sums : (i : Interface) (m : Module) (sites : List Site) (old new : Table) → old ≡ [] → Adds i m sites old new → HasSums i m sites new
unfolding Adds
all_sums i m sites old new e p n = p n [] (ap (λ table. sum_at table n) e ∙ no_list i m)

pub all_registers : (i : Interface) (m text : Module) (instrs : List Instr) (old new : Table) → text ≡ m → old ≡ [] → Adds i text (register_sites m.types instrs) old new → HasRegisters i m instrs new
unfolding HasRegisters
all_registers i m text instrs old new same e p =
    all_sums i m (register_sites m.types instrs) old new e (subst (λ t. Adds i t (register_sites m.types instrs) old new) same p)

-- the same for stores of a function

pub stores_none : (i : Interface) (m : Module) (registers table : Table) → AddsStores i m registers (λ all. []) table table
unfolding AddsStores
stores_none i m registers table all h = adds_none i m table

pub stores_nothing : (i : Interface) (m : Module) (registers : Table) (more : List Instr → List Site) (table : Table) → ((all : List Instr) → more all ≡ []) → AddsStores i m registers more table table
unfolding AddsStores
stores_nothing i m registers more table e all h = adds_nothing i m (more all) table (e all)

pub stores_more : {A : Type 0} (i : Interface) (m : Module) (registers : Table) (f : List Instr → A → List Site) (xs : List A) (k : ℕ) (x : A) (a b c : Table) → k < length xs → x ≡ get_or xs k x → AddsStores i m registers (λ all. flat_map (f all) (take k xs)) a b → AddsStores i m registers (λ all. f all x) b c → AddsStores i m registers (λ all. flat_map (f all) (take (k + 1) xs)) a c
unfolding AddsStores
stores_more i m registers f xs k x a b c h e p q all r = adds_more i m (f all) xs k x a b c h e (p all r) (q all r)

pub stores_list_more : {A B : Type 0} (i : Interface) (m : Module) (registers : Table) (f : List Instr → B → List Site) (g : A → List B) (xs : List A) (k : ℕ) (x : A) (a b c : Table) → k < length xs → x ≡ get_or xs k x → AddsStores i m registers (λ all. flat_map (f all) (flat_map g (take k xs))) a b → AddsStores i m registers (λ all. flat_map (f all) (g x)) b c → AddsStores i m registers (λ all. flat_map (f all) (flat_map g (take (k + 1) xs))) a c
unfolding AddsStores
stores_list_more i m registers f g xs k x a b c h e p q all r = adds_list_more i m (f all) g xs k x a b c h e (p all r) (q all r)

-- a store of a function, by what its fields come to
pub stored : (i : Interface) (m : Module) (registers : Table) (names : List Instr → List FieldName) (number : ℕ) (function : Option ℕ) (sum : SlotSum) (a b : Table) → Some number ≡ function → ((all : List Instr) → HasRegisters i m all registers → sum ≡ sum_of i m (names all)) → ((ns : List FieldName) → sum ≡ sum_of i m ns → Adds i m (sites_at ns (Some number)) a b) → AddsStores i m registers (λ all. sites_at (names all) function) a b
unfolding AddsStores
stored i m registers names number function sum a b e is put all h =
    subst (λ o. Adds i m (sites_at (names all) o) a b) e (put (names all) (is all h))

-- what a register's fields come to
pub register_sum : (i : Interface) (m : Module) (registers : Table) (at : Value) (r : ℕ) (all : List Instr) → at ≡ value.Register r → HasRegisters i m all registers → sum_at registers r ≡ sum_of i m (address_fields m at ++ register_fields m all at)
unfolding HasRegisters
register_sum i m registers at r all e h =
    h r
    ∙ (ap (sum_of i m) (register_names m.types r all) ∙ ap (λ v. sum_of i m (address_fields m v ++ register_fields m all v)) (sym e))

pub function_added : (i : Interface) (text m : Module) (registers : Table) (instrs : List Instr) (a b : Table) → text ≡ m → HasRegisters i m instrs registers → AddsStores i text registers (λ all. flat_map (λ x. store_sites text all x.op) instrs) a b → Adds i m (function_sites m instrs) a b
unfolding AddsStores
function_added i text m registers instrs a b e h p =
    subst (λ t. AddsStores i t registers (λ all. flat_map (λ x. store_sites t all x.op) instrs) a b) e p instrs h

pub module_added : (i : Interface) (text m : Module) (globals : List GlobalVar) (functions : List Function) (a b c : Table) → text ≡ m → globals ≡ m.globals → functions ≡ m.functions → Adds i text (flat_map (λ g. init_sites g.ty g.init) globals) a b → Adds i m (flat_map (λ f. function_sites m (instrs_of f)) functions) b c → Adds i m (sites_of m) a c
module_added i text m globals functions a b c e g f p q =
    adds_then i m (flat_map (λ (x : GlobalVar). init_sites x.ty x.init) m.globals) (flat_map (λ (x : Function). function_sites m (instrs_of x)) m.functions) a b c
    (subst (λ gs. Adds i m (flat_map (λ (x : GlobalVar). init_sites x.ty x.init) gs) a b) g (subst (λ t. Adds i t (flat_map (λ (x : GlobalVar). init_sites x.ty x.init) globals) a b) e p))
    (subst (λ fs. Adds i m (flat_map (λ (x : Function). function_sites m (instrs_of x)) fs) b c) f q)

pub types_made : (i : Interface) (m : Module) (sums : Typing) (types : SlotTypes) (old : Table) → sums ≡ record { interface = i; text = m } → old ≡ [] → Adds sums.interface m (sites_of m) old types.sums.entries → HasSlotTypes i m types
unfolding HasSlotTypes
types_made i m sums types old e empty p =
    all_sums i m (sites_of m) old types.sums.entries empty (subst (λ (s : Typing). Adds s.interface m (sites_of m) old types.sums.entries) e p)
