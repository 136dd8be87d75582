-- The sites in stores, and with them all sites, are those where functions stand.
use Rattle.std.proofs.Common.{◌≡◌, refl, sym, ap, subst, ℕ, Bool, true, false, if◌then◌else◌, nat_eq, Some, List, [], ◌∷◌, ◌++◌, map, flat_map, ℤ, inl, inr, arith}
use Rattle.std.specs.Prelude.{◌⊎◌, nat_abs}
use Rattle.std.proofs.lemmas.Bool.Decides.{nat_tests}
use Rattle.lx_ir.specs.declared.types.NamedType.{NamedType}
use Rattle.lx_ir.specs.declared.types.Scalar.{Scalar}
use Rattle.lx_ir.specs.declared.module.Symbol.TheVariants as symbol
use Rattle.lx_ir.specs.declared.module.Pointer.TheVariants as pointer
use Rattle.lx_ir.specs.declared.module.Constant.TheVariants as constant
use Rattle.lx_ir.specs.declared.module.Value.{Value}
use Rattle.lx_ir.specs.declared.module.Value.TheVariants as value
use Rattle.lx_ir.specs.declared.module.GlobalVar.{GlobalVar}
use Rattle.lx_ir.specs.declared.module.Function.{Function}
use Rattle.lx_ir.specs.declared.module.Module.{Module}
use Rattle.lx_ir.specs.declared.instr.Argument.{Argument}
use Rattle.lx_ir.specs.declared.instr.Instr.{Instr}
use Rattle.lx_ir.specs.declared.instr.Op.{Op}
use Rattle.lx_ir.specs.declared.instr.Op.TheVariants as op
use Rattle.lx_ir.specs.declared.instr.Op.TheVariants.{Store, GetElementPtr}
use Rattle.lx_ir.specs.IrType.{IrType, Named}
use Rattle.lx_ir.specs.Layout.{part_at}
use Rattle.lx_ir.specs.Lookup.{instrs_of}
use Rattle.lx_slot_types.specs.Sites.{FieldName, Site, address_fields, behind_first, element_fields, field_if_named, field_name, function_sites, function_value, global_fields_at, index_number, init_sites, last_field, register_fields, site, sites_at, sites_of, store_sites}
use Rattle.lx_linked.specs.Members.{In, Exactly}
use Rattle.lx_linked.specs.Paths.{HasLawfulGlobals}
use Rattle.lx_linked.specs.Stands.{StandsIn, initial, stored, selected, Selects, function_operand, address_operand}
use Rattle.lx_linked.proofs.Members.{from_flat, in_either, in_flat, in_left, in_right, at_field, site_in}
use Rattle.lx_linked.proofs.Globals.{begins, is_listed}
use Rattle.lx_linked.proofs.Held.{is_held, is_operand, of_struct}
use Rattle.lx_linked.proofs.Held as held

-- the field that the last index selects

select_one : (types : List NamedType) (t : IrType) (i : ℤ) (name : FieldName) → In name (field_if_named t (nat_abs i)) → Selects types t (i ∷ []) name
select_one types t i name h =
    let s = of_struct t name (nat_abs i) h in
    record { front = []; last = i; number = s.number; are = refl; struct = s.named; field = s.field }

select_more : (types : List NamedType) (t : IrType) (i : ℤ) (is : List ℤ) (name : FieldName) → Selects types (part_at types t (i ∷ [])).ty is name → Selects types t (i ∷ is) name
select_more types t i is name s = record { front = i ∷ s.front; last = s.last; number = s.number; are = ap (λ xs. i ∷ xs) s.are; struct = s.struct; field = s.field }

selects : (types : List NamedType) (t : IrType) (is : List ℤ) (name : FieldName) → In name (last_field types t is) → Selects types t is name
selects types t [] name h = absurd h
selects types t (i ∷ []) name h = select_one types t i name h
selects types t (i ∷ j ∷ is) name h = select_more types t i (j ∷ is) name (selects types (part_at types t (i ∷ [])).ty (j ∷ is) name h)

of_named : (t : IrType) (n k : ℕ) (name : FieldName) → t ≡ Named n → name ≡ field_name n k → In name (field_if_named t k)
of_named t n k name e f = subst (λ u. In name (field_if_named u k)) (sym e) (inl f)

last_step : (types : List NamedType) (t : IrType) (i : ℤ) (front : List ℤ) (last : ℤ) → last_field types (part_at types t (i ∷ [])).ty (front ++ last ∷ []) ≡ last_field types t (i ∷ (front ++ last ∷ []))
last_step types t i [] last = refl
last_step types t i (j ∷ front) last = refl

last_in : (types : List NamedType) (t : IrType) (front : List ℤ) (last : ℤ) (n : ℕ) (name : FieldName) → (part_at types t front).ty ≡ Named n → name ≡ field_name n (nat_abs last) → In name (last_field types t (front ++ last ∷ []))
last_in types t [] last n name e f = of_named t n (nat_abs last) name e f
last_in types t (i ∷ front) last n name e f = subst (λ xs. In name xs) (last_step types t i front last) (last_in types (part_at types t (i ∷ [])).ty front last n name e f)

is_selected : (types : List NamedType) (t : IrType) (is : List ℤ) (name : FieldName) → Selects types t is name → In name (last_field types t is)
is_selected types t is name s = subst (λ xs. In name (last_field types t xs)) (sym s.are) (last_in types t s.front s.last s.number name s.struct s.field)

-- what an instruction says of a register

pub record Gives (types : List NamedType) (name : FieldName) (r : ℕ) (o : Op) : Type 0 where
  pub ty : IrType
  pub base : Value
  pub indices : List Argument
  pub is : o ≡ GetElementPtr r ty base indices
  pub selects : Selects types ty (behind_first (map index_number indices)) name

gives_by : (types : List NamedType) (name : FieldName) (r to : ℕ) (t : IrType) (base : Value) (indices : List Argument) (b : Bool) → nat_eq to r ≡ b → In name (if b then last_field types t (behind_first (map index_number indices)) else []) → Gives types name r (GetElementPtr to t base indices)
gives_by types name r to t base indices true e h =
    let q : to ≡ r = grind (arith, nat_tests, e) in
    record { ty = t; base = base; indices = indices; is = ap (λ x. GetElementPtr x t base indices) q; selects = selects types t (behind_first (map index_number indices)) name h }
gives_by types name r to t base indices false e h = absurd h

given_by : (types : List NamedType) (name : FieldName) (r : ℕ) (t : IrType) (base : Value) (indices : List Argument) (b : Bool) → nat_eq r r ≡ b → Selects types t (behind_first (map index_number indices)) name → In name (if b then last_field types t (behind_first (map index_number indices)) else [])
given_by types name r t base indices true e h = is_selected types t (behind_first (map index_number indices)) name h
given_by types name r t base indices false e h = absurd (grind (arith, nat_tests, e))

is_given : (types : List NamedType) (name : FieldName) (r : ℕ) (o : Op) (t : IrType) (base : Value) (indices : List Argument) → o ≡ GetElementPtr r t base indices → Selects types t (behind_first (map index_number indices)) name → In name (element_fields types r o)
is_given types name r o t base indices e h = subst (λ x. In name (element_fields types r x)) (sym e) (given_by types name r t base indices (nat_eq r r) refl h)

gives : (types : List NamedType) (name : FieldName) (r : ℕ) (o : Op) → In name (element_fields types r o) → Gives types name r o
gives types name r (GetElementPtr to t base indices) h = gives_by types name r to t base indices (nat_eq to r) refl h
gives types name r (op.Binary a b c d e) h = absurd h
gives types name r (op.Compare a b c d e) h = absurd h
gives types name r (op.Convert a b c d e) h = absurd h
gives types name r (op.Unary a b c d) h = absurd h
gives types name r (op.Select a b c d e) h = absurd h
gives types name r (op.Phi a b c) h = absurd h
gives types name r (op.Alloca a b) h = absurd h
gives types name r (op.Load a b c) h = absurd h
gives types name r (op.Store a b c) h = absurd h
gives types name r (op.Call a b c d) h = absurd h
gives types name r (op.CopyBlock a b c d) h = absurd h
gives types name r (op.FillBlock a b c) h = absurd h
gives types name r (op.Ret a) h = absurd h
gives types name r (op.Jump a) h = absurd h
gives types name r (op.Branch a b c) h = absurd h
gives types name r (op.Switch a b c d) h = absurd h
gives types name r op.Unreachable h = absurd h
gives types name r (op.Guard a b c) h = absurd h
gives types name r (op.Check a) h = absurd h
gives types name r (op.Enter a) h = absurd h
gives types name r (op.Pre a b) h = absurd h
gives types name r (op.Post a b) h = absurd h
gives types name r (op.Leave a) h = absurd h

-- what a store says

pub record Stores (m : Module) (instrs : List Instr) (name : FieldName) (f : ℕ) (o : Op) : Type 0 where
  pub ty : Scalar
  pub at : Value
  pub is : o ≡ Store ty (function_operand f) at
  pub field : In name (address_fields m at ++ register_fields m instrs at)

store_says : (m : Module) (instrs : List Instr) (name : FieldName) (f : ℕ) (ty : Scalar) (v at : Value) → In (site name f) (sites_at (address_fields m at ++ register_fields m instrs at) (function_value v)) → Stores m instrs name f (Store ty v at)
store_says m instrs name f ty v at h =
    let a = at_field name f (address_fields m at ++ register_fields m instrs at) (function_value v) h in
    record { ty = ty; at = at; is = ap (λ x. Store ty x at) (is_operand v f a.function); field = a.field }

says : (m : Module) (instrs : List Instr) (name : FieldName) (f : ℕ) (o : Op) → In (site name f) (store_sites m instrs o) → Stores m instrs name f o
says m instrs name f (Store ty v at) h = store_says m instrs name f ty v at h
says m instrs name f (op.Binary a b c d e) h = absurd h
says m instrs name f (op.Compare a b c d e) h = absurd h
says m instrs name f (op.Convert a b c d e) h = absurd h
says m instrs name f (op.Unary a b c d) h = absurd h
says m instrs name f (op.Select a b c d e) h = absurd h
says m instrs name f (op.Phi a b c) h = absurd h
says m instrs name f (op.Alloca a b) h = absurd h
says m instrs name f (op.Load a b c) h = absurd h
says m instrs name f (op.GetElementPtr a b c d) h = absurd h
says m instrs name f (op.Call a b c d) h = absurd h
says m instrs name f (op.CopyBlock a b c d) h = absurd h
says m instrs name f (op.FillBlock a b c) h = absurd h
says m instrs name f (op.Ret a) h = absurd h
says m instrs name f (op.Jump a) h = absurd h
says m instrs name f (op.Branch a b c) h = absurd h
says m instrs name f (op.Switch a b c d) h = absurd h
says m instrs name f op.Unreachable h = absurd h
says m instrs name f (op.Guard a b c) h = absurd h
says m instrs name f (op.Check a) h = absurd h
says m instrs name f (op.Enter a) h = absurd h
says m instrs name f (op.Pre a b) h = absurd h
says m instrs name f (op.Post a b) h = absurd h
says m instrs name f (op.Leave a) h = absurd h

is_said : (m : Module) (instrs : List Instr) (name : FieldName) (f : ℕ) (o : Op) (ty : Scalar) (at : Value) → o ≡ Store ty (function_operand f) at → In name (address_fields m at ++ register_fields m instrs at) → In (site name f) (store_sites m instrs o)
is_said m instrs name f o ty at e h =
    subst (λ x. In (site name f) (store_sites m instrs x)) (sym e) (site_in name f (address_fields m at ++ register_fields m instrs at) (Some f) h refl)

-- where it stores

at_address : (m : Module) (name : FieldName) (f : ℕ) (w : Function) (i : Instr) (ty : Scalar) (at : Value) → In w m.functions → In i (instrs_of w) → i.op ≡ Store ty (function_operand f) at → In name (address_fields m at) → StandsIn m name f
at_address m name f w i ty (value.Register r) p q e h = absurd h
at_address m name f w i ty (value.Constant (constant.Number x)) p q e h = absurd h
at_address m name f w i ty (value.Constant (constant.Truth x)) p q e h = absurd h
at_address m name f w i ty (value.Constant (constant.Blank x y)) p q e h = absurd h
at_address m name f w i ty (value.Constant (constant.Cast x y)) p q e h = absurd h
at_address m name f w i ty (value.Constant (constant.Pointer pointer.Null)) p q e h = absurd h
at_address m name f w i ty (value.Constant (constant.Pointer (pointer.Blank x))) p q e h = absurd h
at_address m name f w i ty (value.Constant (constant.Pointer (pointer.Number x))) p q e h = absurd h
at_address m name f w i ty (value.Constant (constant.Pointer (pointer.Symbol (symbol.Function x) o))) p q e h = absurd h
at_address m name f w i ty (value.Constant (constant.Pointer (pointer.Symbol (symbol.Global g) o))) p q e h = stored w i ty g o p q e (begins m g o name h)

at_register : (m : Module) (name : FieldName) (f : ℕ) (w : Function) (i : Instr) (ty : Scalar) (at : Value) → In w m.functions → In i (instrs_of w) → i.op ≡ Store ty (function_operand f) at → In name (register_fields m (instrs_of w) at) → StandsIn m name f
at_register m name f w i ty (value.Constant c) p q e h = absurd h
at_register m name f w i ty (value.Register r) p q e h =
    let s = from_flat (λ (x : Instr). element_fields m.types r x.op) name (instrs_of w) h in
    let g = gives m.types name r s.from.op s.gives in
    selected w i s.from ty r g.ty g.base g.indices p q e s.stands g.is g.selects

at_either : (m : Module) (name : FieldName) (f : ℕ) (w : Function) (i : Instr) (ty : Scalar) (at : Value) → In w m.functions → In i (instrs_of w) → i.op ≡ Store ty (function_operand f) at
    → In name (address_fields m at) ⊎ In name (register_fields m (instrs_of w) at) → StandsIn m name f
at_either m name f w i ty at p q e (inl h) = at_address m name f w i ty at p q e h
at_either m name f w i ty at p q e (inr h) = at_register m name f w i ty at p q e h

-- all sites

abbrev in_globals : Module → List Site
in_globals m = flat_map (λ (g : GlobalVar). init_sites g.ty g.init) m.globals

abbrev in_functions : Module → List Site
in_functions m = flat_map (λ (w : Function). function_sites m (instrs_of w)) m.functions

stands_by : (m : Module) (name : FieldName) (f : ℕ) → In (site name f) (in_globals m) ⊎ In (site name f) (in_functions m) → StandsIn m name f
stands_by m name f (inl h) =
    let s = from_flat (λ (g : GlobalVar). init_sites g.ty g.init) (site name f) m.globals h in
    initial s.from s.stands (is_held name f s.from.ty s.from.init s.gives)
stands_by m name f (inr h) =
    let s = from_flat (λ (w : Function). function_sites m (instrs_of w)) (site name f) m.functions h in
    let x = from_flat (λ (i : Instr). store_sites m (instrs_of s.from) i.op) (site name f) (instrs_of s.from) s.gives in
    let o = says m (instrs_of s.from) name f x.from.op x.gives in
    at_either m name f s.from x.from o.ty o.at s.stands x.stands o.is (in_either name (address_fields m o.at) (register_fields m (instrs_of s.from) o.at) o.field)

in_store : (m : Module) (name : FieldName) (f : ℕ) (w : Function) (i : Instr) (ty : Scalar) (at : Value) → In w m.functions → In i (instrs_of w) → i.op ≡ Store ty (function_operand f) at
    → In name (address_fields m at ++ register_fields m (instrs_of w) at) → In (site name f) (sites_of m)
in_store m name f w i ty at p q e h =
    let a = is_said m (instrs_of w) name f i.op ty at e h in
    let b = in_flat (λ (x : Instr). store_sites m (instrs_of w) x.op) i (site name f) (instrs_of w) q a in
    in_right (site name f) (in_globals m) (in_functions m) (in_flat (λ (x : Function). function_sites m (instrs_of x)) w (site name f) m.functions p b)

stands_listed : (m : Module) → HasLawfulGlobals m → (name : FieldName) (f : ℕ) → StandsIn m name f → In (site name f) (sites_of m)
stands_listed m l name f (initial g p h) =
    in_left (site name f) (in_globals m) (in_functions m)
    (in_flat (λ (x : GlobalVar). init_sites x.ty x.init) g (site name f) m.globals p (held.is_listed name f g.ty g.init h))
stands_listed m l name f (stored w i ty g o p q e b) =
    in_store m name f w i ty (address_operand g o) p q e
    (in_left name (global_fields_at m g o) (register_fields m (instrs_of w) (address_operand g o)) (is_listed m l g o name b))
stands_listed m l name f (selected w i x ty r t base indices p q e d g s) =
    in_store m name f w i ty (value.Register r) p q e
    (in_right name [] (register_fields m (instrs_of w) (value.Register r))
    (in_flat (λ (y : Instr). element_fields m.types r y.op) x name (instrs_of w) d (is_given m.types name r x.op t base indices g s)))

pub all_sites : (m : Module) → HasLawfulGlobals m → (name : FieldName) (f : ℕ) → Exactly (In (site name f) (sites_of m)) (StandsIn m name f)
all_sites m l name f = (λ h. stands_by m name f (in_either (site name f) (in_globals m) (in_functions m) h), stands_listed m l name f)
