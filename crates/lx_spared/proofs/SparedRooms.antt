-- Rooms spare just the stores that may lack their guard, and instructions of lawful functions have their forms.
use Rattle.std.proofs.Common.{◌≡◌, ℕ, ◌<◌, Bool, true, ◌&&◌, Option, Some, None, List, [], ◌∷◌, refl, ap, ◌∙◌}
use Rattle.std.specs.Prelude.{nat_le, flat_map}
use Rattle.std.specs.List.{list_all}
use Rattle.std.proofs.lemmas.Bool.{and_from}
use Rattle.lx_words.proofs.Tests.{first_of, second_of}
use Rattle.lx_ir.specs.declared.types.Scalar.{Scalar}
use Rattle.lx_ir.specs.declared.types.NamedType.{NamedType}
use Rattle.lx_ir.specs.declared.module.Value.{Value}
use Rattle.lx_ir.specs.declared.module.Value.TheVariants as value
use Rattle.lx_ir.specs.declared.module.Block.{Block}
use Rattle.lx_ir.specs.declared.module.Function.{Function}
use Rattle.lx_ir.specs.declared.module.Module.{Module}
use Rattle.lx_ir.specs.declared.instr.Instr.{Instr}
use Rattle.lx_ir.specs.declared.instr.Op.{Op}
use Rattle.lx_ir.specs.declared.instr.Op.TheVariants as op
use Rattle.lx_ir.specs.Layout.{scalar_size}
use Rattle.lx_ir.specs.Lookup.{blocks_of, blocks_of_option}
use Rattle.lx_ir.specs.Operands.{operands_of}
use Rattle.lx_ir.specs.Lawful.{has_form, is_label, ends_once, is_lawful_value, is_lawful_op, is_lawful_block, is_lawful_function}
use Rattle.lx_ir.proofs.Layouts.{scalar_align}
use Rattle.lx_image_texts.proofs.Erasing.{lawful_blocks}
use Rattle.lx_image_texts.specs.Spared.{is_spared_at, is_spared_in}
use Rattle.lx_spared.specs.Rooms.{room_at, has_room, spared_by}
use Rattle.lx_spared.specs.Stack.{kept_room, widest}
use Rattle.lx_spared.proofs.Stacked.{room_is}

-- rooms spare what is spared

abbrev AreRooms : List NamedType → List Instr → List (ℕ × ℕ) → Type 0
AreRooms types is rooms = (r : ℕ) → room_at rooms r ≡ kept_room r is (widest types r 0 is)

room_spares : (types : List NamedType) (is : List Instr) (rooms : List (ℕ × ℕ)) → AreRooms types is rooms → (ty : Scalar) (at : Value) → has_room rooms (scalar_size ty) at ≡ is_spared_at types is (scalar_size ty) at
room_spares types is rooms h ty (value.Register r) = ap (nat_le (scalar_size ty)) (h r) ∙ room_is types r (scalar_size ty) is (scalar_align ty)
room_spares types is rooms h ty (value.Constant c) = refl

pub spared_is : (types : List NamedType) (is : List Instr) (rooms : List (ℕ × ℕ)) → AreRooms types is rooms → (o : Op) → spared_by rooms o ≡ is_spared_in types is o
spared_is types is rooms h (op.Store ty v at) = room_spares types is rooms h ty at
spared_is types is rooms h (op.Binary to o ty a b) = refl
spared_is types is rooms h (op.Compare to p ty a b) = refl
spared_is types is rooms h (op.Convert to how from a into) = refl
spared_is types is rooms h (op.Unary to o ty a) = refl
spared_is types is rooms h (op.Select to c ty a b) = refl
spared_is types is rooms h (op.Phi to ty edges) = refl
spared_is types is rooms h (op.Alloca to ty) = refl
spared_is types is rooms h (op.Load to ty at) = refl
spared_is types is rooms h (op.GetElementPtr to ty base indices) = refl
spared_is types is rooms h (op.Call to ret x args) = refl
spared_is types is rooms h (op.CopyBlock moves dest source len) = refl
spared_is types is rooms h (op.FillBlock dest byte len) = refl
spared_is types is rooms h (op.Ret v) = refl
spared_is types is rooms h (op.Jump label) = refl
spared_is types is rooms h (op.Branch c a b) = refl
spared_is types is rooms h (op.Switch ty v otherwise cases) = refl
spared_is types is rooms h (op.Guard at size narrow) = refl
spared_is types is rooms h (op.Check target) = refl
spared_is types is rooms h (op.Enter f) = refl
spared_is types is rooms h (op.Pre f k) = refl
spared_is types is rooms h (op.Post f k) = refl
spared_is types is rooms h (op.Leave f) = refl
spared_is types is rooms h op.Unreachable = refl

-- a table that is first widened and then closed has the rooms of these blocks
pub rooms_are : (types : List NamedType) (widened closed blocks : List Block) (none wide kept : List (ℕ × ℕ)) → widened ≡ blocks → closed ≡ blocks → none ≡ []
    → ((r : ℕ) → room_at wide r ≡ widest types r (room_at none r) (flat_map (λ b. b.instrs) widened))
    → ((r : ℕ) → room_at kept r ≡ kept_room r (flat_map (λ b. b.instrs) closed) (room_at wide r))
    → AreRooms types (flat_map (λ b. b.instrs) blocks) kept
rooms_are types widened closed blocks none wide kept p q e w k =
    λ r. k r
    ∙ (λ j. kept_room r (flat_map (λ b. b.instrs) (q j)) (w r j))
    ∙ (λ j. kept_room r (flat_map (λ b. b.instrs) blocks) (widest types r (room_at (e j) r) (flat_map (λ b. b.instrs) (p j))))

-- instructions of lawful blocks have their forms

abbrev pub has_forms : Module → Block → Bool
has_forms m b = list_all (λ i. has_form m i.op) b.instrs

formed : (m : Module) (f : Function) (is : List Instr) → list_all (λ i. is_lawful_op m f i.op) is ≡ true → list_all (λ i. has_form m i.op) is ≡ true
formed m f [] h = refl
formed m f (i ∷ is) h =
    let here = first_of (is_lawful_op m f i.op) _ h in
    and_from (has_form m i.op) (list_all (λ j. has_form m j.op) is)
    (first_of (has_form m i.op) (list_all (λ a. is_lawful_value m f a.ty a.value) (operands_of i.op)) (first_of (has_form m i.op && list_all (λ a. is_lawful_value m f a.ty a.value) (operands_of i.op)) _ here))
    (formed m f is (second_of (is_lawful_op m f i.op) _ h))

pub formed_blocks : (m : Module) (f : Function) (bs : List Block) → list_all (is_lawful_block m f) bs ≡ true → list_all (has_forms m) bs ≡ true
formed_blocks m f [] h = refl
formed_blocks m f (b ∷ bs) h =
    let here = first_of (is_lawful_block m f b) _ h in
    and_from (has_forms m b) (list_all (has_forms m) bs)
    (formed m f b.instrs (second_of (is_label b.name && ends_once b.instrs) (list_all (λ i. is_lawful_op m f i.op) b.instrs) here))
    (formed_blocks m f bs (second_of (is_lawful_block m f b) _ h))

body_formed : (m : Module) (f : Function) (bs : Option (List Block)) → f.blocks ≡ bs → is_lawful_function m f ≡ true → list_all (has_forms m) (blocks_of_option bs) ≡ true
body_formed m f None e h = refl
body_formed m f (Some bs) e h = formed_blocks m f bs (lawful_blocks m f bs e h)

pub function_formed : (m : Module) (f : Function) → is_lawful_function m f ≡ true → list_all (has_forms m) (blocks_of f) ≡ true
function_formed m f h = body_formed m f f.blocks refl h
