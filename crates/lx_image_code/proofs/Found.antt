-- What tables find, in the blocks that run.
use Rattle.std.proofs.Common.{◌≡◌, ◌∙◌, refl, sym, ap, subst, ℕ, zero, suc, ◌+◌, ◌<◌, true, not, cond, Option, Some, None, IsSome, List, [], ◌∷◌, length, map, get_or, nat_eq, nat_lt, arith}
use Rattle.std.specs.Prelude.{IfSome, bytes_eq, position, slice_get}
use Rattle.std.specs.Borrow.{Bor}
use Rattle.std.specs.List.{list_all, position_or_len}
use Rattle.std.proofs.lemmas.Bool.{and_parts}
use Rattle.std.proofs.lemmas.Option.{slice_get-get_or, slice_get-map, slice_get_past}
use Rattle.lx_words.specs.Word.{signed}
use Rattle.lx_words.proofs.Tests.{false_true}
use Rattle.lx_words.proofs.Lists.{none_past}
use Rattle.lx_ir.specs.declared.instr.Argument.{Argument}
use Rattle.lx_ir.specs.declared.instr.Edge.{Edge}
use Rattle.lx_ir.specs.declared.types.NamedType.{NamedType}
use Rattle.lx_ir.specs.IrType.{IrType}
use Rattle.lx_ir.specs.Layout.{layout, layout_of}
use Rattle.lx_ir.specs.declared.instr.Op.{Op}
use Rattle.lx_ir.specs.declared.instr.Op.TheVariants as op
use Rattle.lx_ir.specs.declared.types.Scalar.{Scalar}
use Rattle.lx_ir.specs.declared.instr.SwitchCase.{SwitchCase}
use Rattle.lx_ir.specs.declared.module.Block.{Block}
use Rattle.lx_ir.specs.declared.module.Constant.TheVariants as constant
use Rattle.lx_ir.specs.declared.module.Function.{Function}
use Rattle.lx_ir.specs.declared.module.Value.{Value}
use Rattle.lx_ir.specs.declared.module.Value.TheVariants as value
use Rattle.lx_model.specs.declared.program.Program.{Program}
use Rattle.lx_model.specs.declared.program.ProgramFunction.{ProgramFunction}
use Rattle.lx_model.specs.Program.{home_or_kernel}
use Rattle.lx_model.specs.Thread.{Activation, CodeBlock, code_block_of, routine_or_none}
use Rattle.lx_model.specs.Effect.{bits, indices_of, operand}
use Rattle.lx_images.specs.Image.{Code, image_of_entry, image_function, image_routine}
use Rattle.lx_code.specs.declared.code_tables.CodeTables.{CodeTables}
use Rattle.lx_code.specs.Firsts.{Numbers, is_case, is_constant, is_fixed, is_from, is_named, is_number, number_of}
use Rattle.lx_code.specs.Fits.{wants_table, AreTablesOf, op_at as op_in}
use Rattle.lx_code.specs.Routes.{word_of, AreIndices, IsIndex, IsRoute}
use Rattle.lx_code.specs.declared.routes.Room.{Room}
use Rattle.lx_code.specs.declared.routes.Route.{Route}
use Rattle.lx_image_code.specs.Jumps.{blocks_or_none, home_in_entry, image_blocks, numbers_at, op_at, text_of_entry, types_in, IsCaseAt, IsEdgeAt, IsPhiDecided, IsRoomAt, IsRouteAt, IsSwitchDecided}

-- the blocks that run

pub blocks_of_routine : (f : Option Function) → (routine_or_none f).blocks ≡ map code_block_of (blocks_or_none f)
blocks_of_routine None = refl
blocks_of_routine (Some f) = refl

pub run_blocks : (c : Code) (n : ℕ) → (image_routine c n).blocks ≡ map code_block_of (image_blocks c n)
run_blocks c n = blocks_of_routine (image_function c n)

-- first places

same_length : (bs : List Block) → length (map code_block_of bs) ≡ length bs
same_length [] = refl
same_length (b ∷ bs) = ap suc (same_length bs)

same_first : (label : List ℕ) (bs : List Block) → position_or_len (λ (b : CodeBlock). bytes_eq b.label label) (map code_block_of bs) ≡ position_or_len (is_named label) bs
same_first label [] = refl
same_first label (b ∷ bs) = ap (λ n. cond (not (bytes_eq b.name label)) (1 + n) 0) (same_first label bs)

abbrev within : ℕ → ℕ → Option ℕ
within i n = cond (nat_lt i n) (Some i) None

named_place : (label : List ℕ) (bs : List Block) → position (is_named label) bs ≡ position (λ (b : CodeBlock). bytes_eq b.label label) (map code_block_of bs)
named_place label bs =
    ap (λ i. within i (length bs)) (sym (same_first label bs))
    ∙ ap (within (position_or_len (λ (b : CodeBlock). bytes_eq b.label label) (map code_block_of bs))) (sym (same_length bs))

-- the first block of a label
pub block_found : (c : Code) (n : ℕ) (label : List ℕ) (found : Option ℕ) → found ≡ position (is_named label) (image_blocks c n)
    → found ≡ position (λ (b : CodeBlock). bytes_eq b.label label) (image_routine c n).blocks
block_found c n label found is =
    is ∙ named_place label (image_blocks c n) ∙ ap (position (λ (b : CodeBlock). bytes_eq b.label label)) (sym (run_blocks c n))

-- a function that has no tables has no blocks
pub no_block : (c : Code) (n : ℕ) (label : List ℕ) (tables : List CodeTables) → length tables ≡ length c.program.functions → slice_get tables n ≡ None
    → None ≡ position (λ (b : CodeBlock). bytes_eq b.label label) (image_routine c n).blocks
no_block c n label tables count none =
    let far = none_past tables n none in
    let nothing : slice_get c.program.functions n ≡ None = slice_get_past c.program.functions n (omega (arith, far, count)) in
    sym (ap (λ (e : Option ProgramFunction). position (λ (b : CodeBlock). bytes_eq b.label label) (routine_or_none (image_of_entry c e)).blocks) nothing)

-- nor instructions
pub no_op : (c : Code) (n b k : ℕ) (tables : List CodeTables) → length tables ≡ length c.program.functions → slice_get tables n ≡ None
    → {A : Type 0} (o : Op) → op_at (image_routine c n).blocks b k ≡ Some o → A
no_op c n b k tables count none o at =
    let far = none_past tables n none in
    let nothing : slice_get c.program.functions n ≡ None = slice_get_past c.program.functions n (omega (arith, far, count)) in
    let here : None ≡ Some o = sym (ap (λ (e : Option ProgramFunction). op_at (routine_or_none (image_of_entry c e)).blocks b k) nothing) ∙ at in
    absurd (cc)

-- the instruction at a place

op_of_blocks : (bs : List Block) (b k : ℕ) → op_at (map code_block_of bs) b k ≡ op_in bs b k
op_of_blocks [] b k = refl
op_of_blocks (x ∷ bs) zero k = slice_get-map (λ i. i.op) x.instrs k
op_of_blocks (x ∷ bs) (suc b) k = op_of_blocks bs b k

op_is : (c : Code) (n b k : ℕ) (o : Op) → op_at (image_routine c n).blocks b k ≡ Some o → op_in (image_blocks c n) b k ≡ Some o
op_is c n b k o at = sym (op_of_blocks (image_blocks c n) b k) ∙ ap (λ bs. op_at bs b k) (sym (run_blocks c n)) ∙ at

-- the first case of a number

module _ (p : Program) (a : Activation) (f n : ℕ) (runs : a.function ≡ f) where
  abbrev numbers : Numbers
  numbers = numbers_at p (home_or_kernel p f)

  by_value : (v : Value) → is_constant v ≡ true → is_number (number_of numbers v) n ≡ nat_eq (bits p a v) n
  by_value (value.Register r) e = false_true e
  by_value (value.Constant c) e = ap (λ (k : ℕ). nat_eq (numbers_at p (home_or_kernel p k) c) n) (sym runs)

  same_cases : (cases : List SwitchCase) → list_all is_fixed cases ≡ true → position_or_len (is_case numbers n) cases ≡ position_or_len (λ c. nat_eq (bits p a c.value) n) cases
  same_cases [] all = refl
  same_cases (c ∷ cases) all =
      let both = and_parts (is_fixed c) (list_all is_fixed cases) all in
      let test = by_value c.value both.0 in
      let rest = same_cases cases both.1 in
      λ j. cond (not (test j)) (1 + rest j) 0

  case_found : (cases : List SwitchCase) (found : Option ℕ) → list_all is_fixed cases ≡ true → found ≡ position (is_case numbers n) cases → found ≡ position (λ c. nat_eq (bits p a c.value) n) cases
  case_found cases found all is = is ∙ ap (λ i. within i (length cases)) (same_cases cases all)

-- the numbers of indices

index_is : (p : Program) (a : Activation) (v : Value) → IsIndex (word_of v) (signed (operand p a v))
index_is p a (value.Register r) = _
index_is p a (value.Constant (constant.Number w)) = refl
index_is p a (value.Constant (constant.Truth b)) = _
index_is p a (value.Constant (constant.Blank b w)) = refl
index_is p a (value.Constant (constant.Pointer c)) = _
index_is p a (value.Constant (constant.Cast c w)) = _

are_indices : (p : Program) (a : Activation) (xs : List Argument) → AreIndices xs (indices_of p a xs)
are_indices p a [] = _
are_indices p a (x ∷ xs) = (index_is p a x.value, are_indices p a xs)

-- what a table finds at a place

module _ (c : Code) (t : CodeTables) (n b k : ℕ) (tables : AreTablesOf (types_in c.program n) (numbers_at c.program (home_or_kernel c.program n)) (image_blocks c n) t) where
  abbrev types_here : List NamedType
  types_here = types_in c.program n

  abbrev comes_to : Numbers
  comes_to = numbers_at c.program (home_or_kernel c.program n)

  pub case_at : (number : ℕ) (r : Option (Option ℕ))
      → IfSome r (λ found. (types : List NamedType) → (numbers : Numbers) → (blocks : List Block) → (ty : Scalar) → (v : Value) → (otherwise : List ℕ) → (cases : List SwitchCase)
      → AreTablesOf types numbers blocks t → op_in blocks b k ≡ Some (op.Switch ty v otherwise cases) → list_all is_fixed cases ≡ true)
      → IfSome r (λ found. (types : List NamedType) → (numbers : Numbers) → (blocks : List Block) → (ty : Scalar) → (v : Value) → (otherwise : List ℕ) → (cases : List SwitchCase)
      → AreTablesOf types numbers blocks t → op_in blocks b k ≡ Some (op.Switch ty v otherwise cases) → found ≡ position (is_case numbers number) cases)
      → IfSome r (λ found. IsCaseAt c.program n (op_at (image_routine c n).blocks b k) number found)
  case_at number None fixed first = _
  case_at number (Some found) fixed first = λ ty v otherwise cases at a runs.
      let bs = image_blocks c n in
      let here = op_is c n b k (op.Switch ty v otherwise cases) at in
      case_found c.program a n number runs cases found (fixed types_here comes_to bs ty v otherwise cases tables here) (first types_here comes_to bs ty v otherwise cases tables here)

  pub edge_at : (label : List ℕ) (r : Option (Option ℕ))
      → IfSome r (λ found. (types : List NamedType) → (numbers : Numbers) → (blocks : List Block) → (to : ℕ) → (ty : Scalar) → (edges : List Edge) → AreTablesOf types numbers blocks t
      → op_in blocks b k ≡ Some (op.Phi to ty edges) → found ≡ position (is_from label) edges)
      → IfSome r (λ found. IsEdgeAt (op_at (image_routine c n).blocks b k) label found)
  edge_at label None first = _
  edge_at label (Some found) first = λ to ty edges at.
      first types_here comes_to (image_blocks c n) to ty edges tables (op_is c n b k (op.Phi to ty edges) at)

  pub case_decided : (r : Option (Option ℕ))
      → ((types : List NamedType) → (numbers : Numbers) → (blocks : List Block) → (ty : Scalar) → (v : Value) → (otherwise : List ℕ) → (cases : List SwitchCase)
      → AreTablesOf types numbers blocks t → op_in blocks b k ≡ Some (op.Switch ty v otherwise cases) → wants_table (op.Switch ty v otherwise cases) ≡ true → IsSome r)
      → IsSwitchDecided (op_at (image_routine c n).blocks b k) r
  case_decided r quick = λ ty v otherwise cases at.
      quick types_here comes_to (image_blocks c n) ty v otherwise cases tables (op_is c n b k (op.Switch ty v otherwise cases) at)

  pub edge_decided : (r : Option (Option ℕ))
      → ((types : List NamedType) → (numbers : Numbers) → (blocks : List Block) → (to : ℕ) → (ty : Scalar) → (edges : List Edge)
      → AreTablesOf types numbers blocks t → op_in blocks b k ≡ Some (op.Phi to ty edges) → wants_table (op.Phi to ty edges) ≡ true → IsSome r)
      → IsPhiDecided (op_at (image_routine c n).blocks b k) r
  edge_decided r quick = λ to ty edges at. quick types_here comes_to (image_blocks c n) to ty edges tables (op_is c n b k (op.Phi to ty edges) at)

  pub room_found : (r : Option Room) → IfSome r (λ room. (types : List NamedType) → (numbers : Numbers) → (blocks : List Block) → (to : ℕ) → (ty : IrType) → AreTablesOf types numbers blocks t
      → op_in blocks b k ≡ Some (op.Alloca to ty) → layout room.size room.align ≡ layout_of types ty)
      → IfSome r (λ room. IsRoomAt c.program n (op_at (image_routine c n).blocks b k) room)
  room_found None fits = _
  room_found (Some room) fits = λ to ty at. fits types_here comes_to (image_blocks c n) to ty tables (op_is c n b k (op.Alloca to ty) at)

  pub route_found : (r : Option (Bor Route)) → IfSome r (λ route. (types : List NamedType) → (numbers : Numbers) → (blocks : List Block) → (to : ℕ) → (ty : IrType) → (base : Value)
      → (indices : List Argument) → AreTablesOf types numbers blocks t → op_in blocks b k ≡ Some (op.GetElementPtr to ty base indices) → IsRoute types ty indices route.now)
      → IfSome r (λ route. IsRouteAt c.program n (op_at (image_routine c n).blocks b k) route.now)
  route_found None fits = _
  route_found (Some route) fits = λ to ty base indices at a.
      fits types_here comes_to (image_blocks c n) to ty base indices tables (op_is c n b k (op.GetElementPtr to ty base indices) at)
      (indices_of c.program a indices) (are_indices c.program a indices)

-- the tables that a loop makes
pub tables_here : (c : Code) (xs : List ProgramFunction) (n : ℕ) (d : ProgramFunction) (t : CodeTables) → xs ≡ c.program.functions → n < length xs
    → AreTablesOf (text_of_entry c.program (Some (get_or xs n d))).types (numbers_at c.program (home_in_entry (Some (get_or xs n d)))) (blocks_or_none (image_of_entry c (Some (get_or xs n d)))) t
    → AreTablesOf (types_in c.program n) (numbers_at c.program (home_or_kernel c.program n)) (image_blocks c n) t
tables_here c xs n d t is below tables =
    let at : slice_get c.program.functions n ≡ Some (get_or xs n d) = sym (ap (λ (l : List ProgramFunction). slice_get l n) is) ∙ slice_get-get_or xs n d below in
    subst (λ (e : Option ProgramFunction). AreTablesOf (text_of_entry c.program e).types (numbers_at c.program (home_in_entry e)) (blocks_or_none (image_of_entry c e)) t) (sym at) tables
