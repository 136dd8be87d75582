-- Control goes through a function as through the same function in the image.
use Rattle.std.proofs.Common.{◌≡◌, ℕ, zero, suc, ◌+◌, not, ◌||◌, ◌&&◌, List, [], ◌∷◌, ◌++◌, length, map, Some, None, cond, refl, sym, ◌∙◌, ap}
use Rattle.std.specs.Prelude.{bytes_eq, filter_map, slice_get, slice_index_or, nat_eq, nat_lt}
use Rattle.std.specs.List.{list_any, position_or_len}
use Rattle.lx_ir.specs.declared.module.Parameter.{Parameter}
use Rattle.lx_ir.specs.declared.module.Block.{Block}
use Rattle.lx_ir.specs.declared.module.Function.{Function}
use Rattle.lx_ir.specs.declared.module.Module.{Module}
use Rattle.lx_ir.specs.Lookup.{blocks_of, instrs_of}
use Rattle.lx_ir.specs.Operands.{given_by, result_of, register_count, given_numbers, register_types}
use Rattle.lx_ir.specs.Faults.{has_block, block_number, instrs_at, no_instrs, exits_of, goes_to, is_predecessor, successors_of, has_edge, Walk, is_given, assigns, walk_assigns}
use Rattle.lx_image_texts.proofs.Beside.{Beside, ends, BesideBlock, BesideBlocks, no_blocks, blocks, BesideFunction, blocks_beside, code_beside, same_given, same_result, mark_facts}
use Rattle.lx_image_texts.proofs.Along.{filter_same, any_same, exits_same}

-- registers

pub given_same : (m : Module) (f g : Function) → BesideFunction m f g → given_numbers f ≡ given_numbers g
given_same m f g h = filter_same given_by m (same_given m) (λ k o e. (mark_facts k o e).given) (instrs_of f) (instrs_of g) (code_beside m f g h)

pub types_same : (m : Module) (f g : Function) → BesideFunction m f g → register_types f ≡ register_types g
types_same m f g h =
    λ t. map (λ (p : Parameter). p.ty) (h.params t) ++ filter_same result_of m (same_result m) (λ k o e. (mark_facts k o e).result) (instrs_of f) (instrs_of g) (code_beside m f g h) t

pub count_same : (m : Module) (f g : Function) → BesideFunction m f g → register_count f ≡ register_count g
count_same m f g h = λ t. length (h.params t) + length (h.locals t)

-- blocks

abbrev name_of : Block → List ℕ
name_of b = b.name

many_same : (m : Module) (bs cs : List Block) → BesideBlocks m bs cs → length bs ≡ length cs
many_same m _ _ no_blocks = refl
many_same m _ _ (blocks b c bs cs h rest) = ap suc (many_same m bs cs rest)

names_same_by : (m : Module) (bs cs : List Block) → BesideBlocks m bs cs → map name_of bs ≡ map name_of cs
names_same_by m _ _ no_blocks = refl
names_same_by m _ _ (blocks b c bs cs h rest) = λ t. h.name t ∷ names_same_by m bs cs rest t

pub names_same : (m : Module) (f g : Function) → BesideFunction m f g → map name_of (blocks_of f) ≡ map name_of (blocks_of g)
names_same m f g h = names_same_by m (blocks_of f) (blocks_of g) (blocks_beside m f.blocks g.blocks h.body)

pub blocks_same : (m : Module) (f g : Function) → BesideFunction m f g → length (blocks_of f) ≡ length (blocks_of g)
blocks_same m f g h = many_same m (blocks_of f) (blocks_of g) (blocks_beside m f.blocks g.blocks h.body)

has_same_by : (m : Module) (label : List ℕ) (bs cs : List Block) → BesideBlocks m bs cs → list_any (λ b. bytes_eq b.name label) bs ≡ list_any (λ b. bytes_eq b.name label) cs
has_same_by m label _ _ no_blocks = refl
has_same_by m label _ _ (blocks b c bs cs h rest) = λ t. bytes_eq (h.name t) label || has_same_by m label bs cs rest t

pub has_same : (m : Module) (f g : Function) → BesideFunction m f g → (label : List ℕ) → has_block f label ≡ has_block g label
has_same m f g h label = has_same_by m label (blocks_of f) (blocks_of g) (blocks_beside m f.blocks g.blocks h.body)

place_same : (m : Module) (label : List ℕ) (bs cs : List Block) → BesideBlocks m bs cs → position_or_len (λ b. bytes_eq b.name label) bs ≡ position_or_len (λ b. bytes_eq b.name label) cs
place_same m label _ _ no_blocks = refl
place_same m label _ _ (blocks b c bs cs h rest) = λ t. cond (not (bytes_eq (h.name t) label)) (1 + place_same m label bs cs rest t) 0

pub number_same : (m : Module) (f g : Function) → BesideFunction m f g → (label : List ℕ) → block_number f label ≡ block_number g label
number_same m f g h label =
    let place = place_same m label (blocks_of f) (blocks_of g) (blocks_beside m f.blocks g.blocks h.body) in
    λ t. cond (nat_lt (place t) (blocks_same m f g h t)) (Some (place t)) None

-- where control goes

pub exits_alike : (m : Module) (b c : Block) → BesideBlock m b c → exits_of b ≡ exits_of c
exits_alike m b c h = exits_same m b.instrs c.instrs h.code

predecessor_by : (m : Module) (name label : List ℕ) (bs cs : List Block) → BesideBlocks m bs cs → list_any (λ p. bytes_eq p.name label && goes_to p name) bs ≡ list_any (λ p. bytes_eq p.name label && goes_to p name) cs
predecessor_by m name label _ _ no_blocks = refl
predecessor_by m name label _ _ (blocks b c bs cs h rest) =
    λ t. (bytes_eq (h.name t) label && list_any (λ l. bytes_eq l name) (exits_alike m b c h t)) || predecessor_by m name label bs cs rest t

pub predecessor_same : (m : Module) (f g : Function) → BesideFunction m f g → (name label : List ℕ) → is_predecessor f name label ≡ is_predecessor g name label
predecessor_same m f g h name label = predecessor_by m name label (blocks_of f) (blocks_of g) (blocks_beside m f.blocks g.blocks h.body)

successors_by : (m : Module) (f g : Function) → BesideFunction m f g → (bs cs : List Block) → BesideBlocks m bs cs → map (successors_of f) bs ≡ map (successors_of g) cs
successors_by m f g h _ _ no_blocks = refl
successors_by m f g h _ _ (blocks b c bs cs one rest) =
    λ t. filter_map (λ label. number_same m f g h label t) (exits_alike m b c one t) ∷ successors_by m f g h bs cs rest t

edge_same : (m : Module) (f g : Function) → BesideFunction m f g → (a b : ℕ) → has_edge f a b ≡ has_edge g a b
edge_same m f g h a b =
    λ t. list_any (λ k. nat_eq k b) (slice_index_or (successors_by m f g h (blocks_of f) (blocks_of g) (blocks_beside m f.blocks g.blocks h.body) t) a [])

pub walk_image : (m : Module) (f g : Function) → BesideFunction m f g → (ps : List ℕ) (k : ℕ) → Walk f ps k → Walk g ps k
walk_image m f g h [] k w = w
walk_image m f g h (p ∷ ps) k w = (sym (edge_same m f g h p k) ∙ w.0, walk_image m f g h ps p w.1)

pub walk_program : (m : Module) (f g : Function) → BesideFunction m f g → (ps : List ℕ) (k : ℕ) → Walk g ps k → Walk f ps k
walk_program m f g h [] k w = w
walk_program m f g h (p ∷ ps) k w = (edge_same m f g h p k ∙ w.0, walk_program m f g h ps p w.1)

-- what blocks assign

at_by : (m : Module) (k : ℕ) (bs cs : List Block) → BesideBlocks m bs cs → Beside m (no_instrs (slice_get bs k)) (no_instrs (slice_get cs k))
at_by m k _ _ no_blocks = ends
at_by m zero _ _ (blocks b c bs cs h rest) = h.code
at_by m (suc k) _ _ (blocks b c bs cs h rest) = at_by m k bs cs rest

pub at_beside : (m : Module) (f g : Function) → BesideFunction m f g → (k : ℕ) → Beside m (instrs_at f k) (instrs_at g k)
at_beside m f g h k = at_by m k (blocks_of f) (blocks_of g) (blocks_beside m f.blocks g.blocks h.body)

pub assigns_same : (m : Module) (f g : Function) → BesideFunction m f g → (k r : ℕ) → assigns (instrs_at f k) r ≡ assigns (instrs_at g k) r
assigns_same m f g h k r =
    any_same (λ o. is_given r (given_by o)) m (λ o p a. ap (is_given r) (same_given m o p a)) (λ q o e. ap (is_given r) (mark_facts q o e).given) (instrs_at f k) (instrs_at g k) (at_beside m f g h k)

pub walk_assigns_same : (m : Module) (f g : Function) → BesideFunction m f g → (ps : List ℕ) (r : ℕ) → walk_assigns f ps r ≡ walk_assigns g ps r
walk_assigns_same m f g h ps r = λ t. list_any (λ p. assigns_same m f g h p r t) ps
