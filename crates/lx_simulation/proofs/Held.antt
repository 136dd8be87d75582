-- What a store without a guard needs is held.
use Rattle.std.proofs.Common.{◌≡◌, ℕ, zero, suc, ◌+◌, ◌<◌, ◌≤◌, Bool, true, false, not, ◌&&◌, ◌||◌, List, [], ◌∷◌, length, map, take, drop, Option, Some, None, inl, inr, refl, sym, subst, ◌∙◌, ap, arith, leb-true, eqb-true}
use Rattle.std.specs.Prelude.{slice_get, nat_eq, unwrap_or}
use Rattle.std.specs.List.{list_any}
use Rattle.std.proofs.lemmas.Bool.{or_parts}
use Rattle.lx_words.specs.declared.word.Width.{Width}
use Rattle.lx_words.specs.declared.word.Width.TheVariants as width
use Rattle.lx_words.specs.declared.word.Width.TheVariants.{W64}
use Rattle.lx_words.specs.Width.{byte_count}
use Rattle.lx_words.specs.Word.{Word, word}
use Rattle.lx_words.proofs.Tests.{true_false, first_of, second_of, zero_more, not_or}
use Rattle.lx_words.proofs.Options.{none_some, some_same}
use Rattle.lx_caps.specs.declared.Principal.{Principal}
use Rattle.lx_caps.specs.declared.Principal.TheVariants.{Kernel, Shared, Global, Inst}
use Rattle.lx_caps.specs.declared.Cap.TheVariants.{Write}
use Rattle.lx_caps.specs.declared.Atom.TheVariants.{Byte}
use Rattle.lx_caps.specs.Laws.{HistoryLaws}
use Rattle.lx_caps.specs.LoanLaws.{LoanLaws}
use Rattle.lx_caps.specs.Regions.{covers, mapped, stacks_start, region_size, stack_start, stack_end}
use Rattle.lx_caps.specs.History.{History, keeps, reaches, reached, each_byte, holds}
use Rattle.lx_ir.specs.declared.types.NamedType.{NamedType}
use Rattle.lx_ir.specs.declared.types.Scalar.{Scalar}
use Rattle.lx_ir.specs.declared.module.Value.{Value as Operand}
use Rattle.lx_ir.specs.declared.module.Value.TheVariants as value
use Rattle.lx_ir.specs.declared.module.Block.{Block}
use Rattle.lx_ir.specs.declared.module.Function.{Function}
use Rattle.lx_ir.specs.declared.module.Module.{Module}
use Rattle.lx_ir.specs.declared.instr.Instr.{Instr}
use Rattle.lx_ir.specs.declared.instr.Op.{Op}
use Rattle.lx_ir.specs.declared.instr.Op.TheVariants as op
use Rattle.lx_ir.specs.IrType.{IrType}
use Rattle.lx_ir.specs.Layout.{width_of, size_of}
use Rattle.lx_ir.specs.Lookup.{blocks_of, instrs_of}
use Rattle.lx_ir.specs.Operands.{given_by}
use Rattle.lx_ir.specs.Faults.{Read, reads_of, reads_of_blocks, reads_from, reads_of_op, read_here, instrs_at, no_instrs, assigns, walk_assigns, Walk}
use Rattle.lx_image_texts.specs.Spared.{is_spared, allocates}
use Rattle.lx_images.specs.ImageCode.{is_store, stores_in, Bare}
use Rattle.lx_model.specs.declared.program.Program.{Program}
use Rattle.lx_model.specs.declared.program.ProgramFunction.{ProgramFunction}
use Rattle.lx_model.specs.declared.program.ProgramFunction.TheVariants.{Native, Of}
use Rattle.lx_model.specs.Program.{Home, home_of_entry, function_of, function_of_entry, module_of}
use Rattle.lx_model.specs.Thread.{Range, Activation, Stage, Pre, Body, Post, Crossing, Frame, Thread, top_of_stack, code_block_of, routine_of}
use Rattle.lx_model.specs.Effect.{text_of, types_of, bits}
use Rattle.lx_simulation.proofs.Counted.{Code}
use Rattle.lx_images.specs.Guarded.{Accepted, bare_of, spares_well, block_spares_well}
use Rattle.lx_simulation.proofs.CountedStands.{StageIsBody, InBodyOf, StoreHeld}
use Rattle.lx_images.specs.Kept.{is_kernel, within, KeepsAll, LiesIn, FramesKept, Kept}
use Rattle.lx_images.specs.Places.{IsIn, HoldsPlace}
use Rattle.lx_simulation.proofs.Elements.{all_in, any_in, in_got, in_map, in_second, in_first}
use Rattle.lx_simulation.proofs.Verifying.{op_of, Sound, no_parameter}
use Rattle.lx_simulation.proofs.Walking.{PlaceIf, is_assigned, name_of, RegisteredIn, Registered, here, no_ops}
use Rattle.lx_simulation.proofs.Sparing.{starts_below}
use Rattle.lx_simulation.proofs.Frames.{sound_at, StoodBy, StoodIn, StageStood, TopStood, FramesStood, ThreadStood}
use Rattle.lx_caps.proofs.Bytes.{each_byte-from}

-- bytes that are kept are held, and lie in memory

itself : (q : Principal) → is_kernel q ≡ false → reaches q q ≡ true
itself Kernel e = true_false e
itself (Shared m) e = grind arith
itself (Global m) e = grind arith
itself (Inst m k) e = grind arith

byte_held : HistoryLaws → LoanLaws → (h : History) (q : Principal) (b : ℕ) → is_kernel q ≡ false → keeps h q (Byte b) ≡ true → reached h q (Byte b) ≡ true
byte_held laws loans h q b m o = (laws.by_an_owner h q (Byte b)).1 (q, itself q m, loans.kept_owned h q (Byte b) o)

each_step : (p : ℕ → Bool) (at n : ℕ) (b : Bool) → p at ≡ b → b ≡ true → each_byte p (suc at) n ≡ true → elim (p at) [ false ↦ false | true ↦ each_byte p (suc at) n ] ≡ true
each_step p at n true e t h = ap (λ (b : Bool). elim b [ false ↦ false | true ↦ each_byte p (suc at) n ]) e ∙ h
each_step p at n false e t h = true_false (sym t)

held_by : HistoryLaws → LoanLaws → (h : History) (q : Principal) (at n : ℕ) → is_kernel q ≡ false → ((b : ℕ) → at ≤ b → b < at + n → keeps h q (Byte b) ≡ true) → holds h q (Write at n) ≡ true
held_by laws loans h Kernel at n m own = true_false m
held_by laws loans h (Shared k) at n m own = each_byte-from (λ b. reached h (Shared k) (Byte b)) at n (λ b l u. byte_held laws loans h (Shared k) b m (own b l u))
held_by laws loans h (Global k) at n m own = each_byte-from (λ b. reached h (Global k) (Byte b)) at n (λ b l u. byte_held laws loans h (Global k) b m (own b l u))
held_by laws loans h (Inst k i) at n m own = each_byte-from (λ b. reached h (Inst k i) (Byte b)) at n (λ b l u. byte_held laws loans h (Inst k i) b m (own b l u))

held_or_kernel : HistoryLaws → LoanLaws → (h : History) (q : Principal) (at n : ℕ) (k : Bool) → is_kernel q ≡ k → mapped at n ≡ true → (is_kernel q ≡ false → (b : ℕ) → at ≤ b → b < at + n → keeps h q (Byte b) ≡ true) → holds h q (Write at n) ≡ true
held_or_kernel laws loans h Kernel at n k e lies own = lies
held_or_kernel laws loans h (Shared m) at n k e lies own = held_by laws loans h (Shared m) at n refl (own refl)
held_or_kernel laws loans h (Global m) at n k e lies own = held_by laws loans h (Global m) at n refl (own refl)
held_or_kernel laws loans h (Inst m i) at n k e lies own = held_by laws loans h (Inst m i) at n refl (own refl)

on_stack : (at n : ℕ) → stacks_start ≤ at → at + n ≤ stacks_start + region_size → mapped at n ≡ true
on_stack at n l u = grind (arith, l, u)

-- the range of an alloca

within_one : (x : Range) (rs : List Range) (b : ℕ) → IsIn x rs → covers x.at x.size b ≡ true → within rs b ≡ true
within_one x [] b i e = absurd i
within_one x (y ∷ rs) b (inl same) e = grind (arith, ap (λ (z : Range). covers z.at z.size b) same, e)
within_one x (y ∷ rs) b (inr i) e = grind (arith, within_one x rs b i e)

covers_part : (at size n b : ℕ) → n ≤ size → at ≤ b → b < at + n → covers at size b ≡ true
covers_part at size n b h l u = grind (arith, h, l, u)

some_bytes : (w : Width) → 0 < byte_count w
some_bytes width.W1 = omega arith
some_bytes width.W8 = omega arith
some_bytes width.W16 = omega arith
some_bytes width.W32 = omega arith
some_bytes width.W64 = omega arith

small_word : (n : ℕ) → n < 0x4000000 → (word W64 n).bits ≡ n
small_word n h = omega (arith, h)

-- all that is known of the bytes of a live frame
record Bytes (h : History) (t : ℕ) (q : Principal) (rs : List Range) : Type 0 where
  low : ℕ
  high : ℕ
  from : stack_start t ≤ low
  to : high ≤ stack_end t
  lies : LiesIn low high rs
  kept : KeepsAll h q rs

begins : (t at : ℕ) → stack_start t ≤ at → stacks_start ≤ at
begins t at l = grind (arith, l)

ends : (t end : ℕ) → t < 16 → end ≤ stack_end t → end ≤ stacks_start + region_size
ends t end few u = grind (arith, few, u)

small : (t at n : ℕ) → t < 16 → at + n ≤ stack_end t → at < 0x4000000
small t at n few u = grind (arith, few, u)

last_byte : (at n high : ℕ) → 0 < n → ((b : ℕ) → at ≤ b → b < at + n → b < high) → at + n < suc high
last_byte at zero high some h = omega (arith, some)
last_byte at (suc n) high some h = let l : at + n < high = h (at + n) (omega arith) (omega arith) in omega (arith, l)

first_byte : (h : History) (t : ℕ) (q : Principal) (rs : List Range) (x : Range) (n : ℕ) → Bytes h t q rs → IsIn x rs → 0 < n → n ≤ x.size → (stack_start t ≤ x.at) × (x.at + n ≤ stack_end t)
first_byte h t q rs x n k i some fits =
    let first : (k.low ≤ x.at) × (x.at < k.high) = k.lies x.at (within_one x rs x.at i (covers_part x.at x.size n x.at fits (omega arith) (omega (arith, some)))) in
    let l : k.low ≤ x.at = first.0 in
    let last : x.at + n < suc k.high = last_byte x.at n k.high some (λ b lb ub. (k.lies b (within_one x rs b i (covers_part x.at x.size n b fits lb ub))).1) in
    let from : stack_start t ≤ k.low = k.from in
    let to : k.high ≤ stack_end t = k.to in
    (omega (arith, l, from), omega (arith, last, to))

store_is_held : HistoryLaws → LoanLaws → (h : History) (t : ℕ) (q : Principal) (rs : List Range) (x : Range) (n : ℕ) → t < 16 → Bytes h t q rs → IsIn x rs → 0 < n → n ≤ x.size →
    (holds h q (Write x.at n) ≡ true) × (mapped x.at n ≡ true) × (x.at < 0x4000000)
store_is_held laws loans h t q rs x n few k i some fits =
    let placed = first_byte h t q rs x n k i some fits in
    let l : stack_start t ≤ x.at = placed.0 in
    let u : x.at + n ≤ stack_end t = placed.1 in
    let lies : mapped x.at n ≡ true = on_stack x.at n (begins t x.at l) (ends t (x.at + n) few u) in (
      held_or_kernel laws loans h q x.at n (is_kernel q) refl lies (λ m b lb ub. k.kept b m (within_one x rs b i (covers_part x.at x.size n b fits lb ub))),
      lies,
      small t x.at n few u,
    )

-- what spares a store

-- an instruction that allocates at the register
allocates_it : (types : List NamedType) (r n : ℕ) (o : Op) → allocates types r n o ≡ true → (ty : IrType) × (o ≡ op.Alloca r ty) × (n ≤ size_of types ty)
allocates_it types r n (op.Alloca to ty) e = (ty, ap (λ (k : ℕ). op.Alloca k ty) (eqb-true to r (first_of (nat_eq to r) _ e)), leb-true n (size_of types ty) (second_of (nat_eq to r) _ e))
allocates_it types r n _ e = true_false (sym e)

-- the register of a spared store's address, and its alloca
record SparedBy (m : Module) (g : Function) (ty : Scalar) (at : Operand) : Type 0 where
  register : ℕ
  is : at ≡ value.Register register
  instr : Instr
  here : IsIn instr (instrs_of g)
  allocated : IrType
  op_is : instr.op ≡ op.Alloca register allocated
  fits : byte_count (width_of ty) ≤ size_of m.types allocated

spared_by : (m : Module) (g : Function) (ty : Scalar) (stored at : Operand) → is_spared m g (op.Store ty stored at) ≡ true → SparedBy m g ty at
spared_by m g ty stored (value.Constant c) e = true_false (sym e)
spared_by m g ty stored (value.Register r) e =
    let found = any_in (λ (i : Instr). allocates m.types r (byte_count (width_of ty)) i.op) (instrs_of g) (first_of (list_any (λ (i : Instr). allocates m.types r (byte_count (width_of ty)) i.op) (instrs_of g)) _ e) in
    let a = allocates_it m.types r (byte_count (width_of ty)) found.0.op found.2 in
    record { register = r; is = refl; instr = found.0; here = found.1; allocated = a.0; op_is = a.1; fits = a.2 }

-- the rest of a block spares well
spares_rest : (m : Module) (g : Function) (bare : Bare) (is : List Instr) (k : ℕ) → spares_well m g bare (map op_of is) ≡ true → spares_well m g bare (map op_of (drop k is)) ≡ true
spares_rest m g bare is zero e = e
spares_rest m g bare [] (suc k) e = e
spares_rest m g bare (i ∷ is) (suc k) e = spares_rest m g bare is k (second_of (not (is_store i.op && bare (stores_in (map op_of is))) || is_spared m g i.op) (spares_well m g bare (map op_of is)) e)

head_spared : (m : Module) (g : Function) (bare : Bare) (ty : Scalar) (stored at : Operand) (os : List Op) → bare (stores_in os) ≡ true → spares_well m g bare (op.Store ty stored at ∷ os) ≡ true → is_spared m g (op.Store ty stored at) ≡ true
head_spared m g bare ty stored at os eb e =
    not_or (bare (stores_in os)) (is_spared m g (op.Store ty stored at)) eb (first_of (not (true && bare (stores_in os)) || is_spared m g (op.Store ty stored at)) (spares_well m g bare os) e)

named_block : (g : Function) (bs : List Block) (k j : ℕ) (i : Instr) → slice_get (no_instrs (slice_get bs k)) j ≡ Some i → (b : Block) × (slice_get bs k ≡ Some b)
named_block g [] k j i e = none_some e
named_block g (b ∷ bs) zero j i e = (b, refl)
named_block g (b ∷ bs) (suc k) j i e = named_block g bs k j i e

-- reads of a store's address

pub read_first : (g : Function) (k p : ℕ) (is : List Instr) (j : ℕ) (i : Instr) (x : Read) → slice_get is j ≡ Some i → IsIn x (reads_of_op g k (p + j) i.line i.op) → IsIn x (reads_from g k p is)
read_first g k p [] j i x e r = none_some e
read_first g k p (y ∷ is) zero i x e r =
    let at : p + 0 ≡ p = omega arith in
    in_first x (reads_of_op g k p y.line y.op) (reads_from g k (suc p) is)
    (subst (λ (z : Instr). IsIn x (reads_of_op g k p z.line z.op)) (sym (some_same e)) (subst (λ (n : ℕ). IsIn x (reads_of_op g k n i.line i.op)) at r))
read_first g k p (y ∷ is) (suc j) i x e r =
    let at : p + suc j ≡ suc p + j = omega arith in
    in_second x (reads_of_op g k p y.line y.op) (reads_from g k (suc p) is) (read_first g k (suc p) is j i x e (subst (λ (n : ℕ). IsIn x (reads_of_op g k n i.line i.op)) at r))

pub read_block : (g : Function) (k : ℕ) (bs : List Block) (l j : ℕ) (i : Instr) (x : Read) → slice_get (no_instrs (slice_get bs l)) j ≡ Some i → IsIn x (reads_of_op g (k + l) j i.line i.op) → IsIn x (reads_of_blocks g k bs)
read_block g k [] l j i x e r = none_some e
read_block g k (b ∷ bs) zero j i x e r =
    let at : k + 0 ≡ k = omega arith in
    let start : 0 + j ≡ j = omega arith in
    in_first x (reads_from g k 0 b.instrs) (reads_of_blocks g (suc k) bs)
    (read_first g k 0 b.instrs j i x e (subst (λ (n : ℕ). IsIn x (reads_of_op g k n i.line i.op)) (sym start) (subst (λ (n : ℕ). IsIn x (reads_of_op g n j i.line i.op)) at r)))
read_block g k (b ∷ bs) (suc l) j i x e r =
    let at : k + suc l ≡ suc k + l = omega arith in
    in_second x (reads_from g k 0 b.instrs) (reads_of_blocks g (suc k) bs) (read_block g (suc k) bs l j i x e (subst (λ (n : ℕ). IsIn x (reads_of_op g n j i.line i.op)) at r))

abbrev pub the_read : ℕ → ℕ → ℕ → ℕ → Read
the_read k j r line = record { block = k; place = j; register = r; line = line }

store_reads : (g : Function) (k j line : ℕ) (ty : Scalar) (stored : Operand) (r : ℕ) → IsIn (the_read k j r line) (reads_of_op g k j line (op.Store ty stored (value.Register r)))
store_reads g k j line ty stored r = in_second (the_read k j r line) (read_here k j line stored) (the_read k j r line ∷ []) (inl refl)

-- so it is assigned

pub assigned_cases : (m : Module) (g : Function) → Sound m g → (walk : List ℕ) (k j r line : ℕ) (b : Bool) → is_assigned g walk k j r ≡ b → length g.params ≤ r → Walk g walk k → IsIn (the_read k j r line) (reads_of g) → b ≡ true
assigned_cases m g s walk k j r line true e above comes at = refl
assigned_cases m g s walk k j r line false e above comes at =
    let none = or_parts (walk_assigns g walk r) (assigns (take j (instrs_at g k)) r) e in
    absurd (s.reads (the_read k j r line) at (record { no_parameter = above; walk = walk; comes = comes; not_before = none.0; not_here = none.1 }))

placed_if : (b : Bool) (types : List NamedType) (a : Activation) (r : ℕ) (ty : IrType) → b ≡ true → PlaceIf b types a r ty → HoldsPlace types a r ty
placed_if true types a r ty e h = h
placed_if false types a r ty e h = true_false (sym e)

-- where the function's number is in the program

entry_of : (p : Program) (e : Option ProgramFunction) (m : ℕ) (g : Function) → unwrap_or (home_of_entry e) None ≡ Some m → function_of_entry p e ≡ Some g → (k : ℕ) × (e ≡ Some (Of (Some m) k)) × (slice_get (module_of p (Some m)).functions k ≡ Some g)
entry_of p None m g eh eg = none_some eh
entry_of p (Some (Native k)) m g eh eg = none_some eh
entry_of p (Some (Of None k)) m g eh eg = none_some eh
entry_of p (Some (Of (Some n) k)) m g eh eg =
    let same : n ≡ m = some_same eh in
    (k, ap (λ (x : ℕ). Some (Of (Some x) k)) same, ap (λ (x : ℕ). slice_get (module_of p (Some x)).functions k) (sym same) ∙ eg)

live_stood : (p : Program) (a : Activation) (s : Stage) → StageIsBody s → StageStood p a s → StoodIn p a
live_stood p a Body l st = st
live_stood p a (Pre k) l st = st
live_stood p a (Post k v) l st = absurd l

top_stood : (p : Program) (a : Activation) (x : Option Crossing) → InBodyOf x → TopStood p a x → StoodIn p a
top_stood p a None l st = st
top_stood p a (Some c) l st = live_stood p a c.stage l st

-- the place that the store's register holds
place_of_store : (c : Code) → Accepted c → (a : Activation) (m : ℕ) (ty : Scalar) (stored at : Operand) (behind : List Op) (f : Option Function) → function_of c.program a.function ≡ f → text_of c.program a ≡ Some m → a.code ≡ op.Store ty stored at ∷ behind →
    bare_of c a.function a.label (stores_in behind) ≡ true → StoodBy (text_of c.program a) (types_of c.program a) f a →
    (x : Range) × IsIn x a.allocas × (bits c.program a at ≡ (word W64 x.at).bits) × (byte_count (width_of ty) ≤ x.size)
place_of_store c acc a m ty stored at behind None ef et ec eb st = no_ops (sym st ∙ ec)
place_of_store c acc a m ty stored at behind (Some g) ef et ec eb st =
    let p : Program = c.program in
    let s : Sound (module_of p (text_of p a)) g = sound_at p acc.verified a.function g ef in
    let h = here (instrs_at g st.block) st.place (op.Store ty stored at) behind (sym st.code ∙ ec) in
    let entry = entry_of p (slice_get p.functions a.function) m g et ef in
    let body = named_block g (blocks_of g) st.block st.place h.instr h.got in
    let all : block_spares_well (module_of p (Some m)) g (bare_of c a.function) (code_block_of body.0) ≡ true
    = all_in (block_spares_well (module_of p (Some m)) g (bare_of c a.function)) (routine_of g).blocks (code_block_of body.0) (acc.spared a.function m entry.0 g entry.1 entry.2)
    (in_map code_block_of body.0 (blocks_of g) (in_got (blocks_of g) st.block body.0 body.1)) in
    let label : body.0.name ≡ a.label = sym (st.label ∙ ap name_of body.1) in
    let whole : spares_well (module_of p (Some m)) g (bare_of c a.function a.label) (map op_of (instrs_at g st.block)) ≡ true
    = ap (λ (is : List Instr). spares_well (module_of p (Some m)) g (bare_of c a.function a.label) (map op_of is)) (ap no_instrs body.1)
    ∙ (ap (λ (l : List ℕ). spares_well (module_of p (Some m)) g (bare_of c a.function l) (map op_of body.0.instrs)) (sym label) ∙ all) in
    let rest : spares_well (module_of p (Some m)) g (bare_of c a.function a.label) (op.Store ty stored at ∷ behind) ≡ true
    = ap (spares_well (module_of p (Some m)) g (bare_of c a.function a.label)) (sym ec ∙ st.code) ∙ spares_rest (module_of p (Some m)) g (bare_of c a.function a.label) (instrs_at g st.block) st.place whole in
    let by = spared_by (module_of p (Some m)) g ty stored at (head_spared (module_of p (Some m)) g (bare_of c a.function a.label) ty stored at behind eb rest) in
    let reg : Registered (types_of p a) g a st.walk st.block st.place = subst (λ (x : Home). RegisteredIn x (types_of p a) g a st.walk st.block st.place) et st.registered in
    let seen : IsIn (the_read st.block st.place by.register h.instr.line) (reads_of g)
    = read_block g 0 (blocks_of g) st.block st.place h.instr (the_read st.block st.place by.register h.instr.line) h.got
    (subst (λ (n : ℕ). IsIn (the_read st.block st.place by.register h.instr.line) (reads_of_op g n st.place h.instr.line h.instr.op)) (zero_more st.block)
    (subst (λ (o : Op). IsIn (the_read st.block st.place by.register h.instr.line) (reads_of_op g st.block st.place h.instr.line o)) (ap (op.Store ty stored) (sym by.is) ∙ sym h.same)
    (store_reads g st.block st.place h.instr.line ty stored by.register))) in
    let assigned : is_assigned g st.walk st.block st.place by.register ≡ true
    = assigned_cases (module_of p (text_of p a)) g s st.walk st.block st.place by.register h.instr.line (is_assigned g st.walk st.block st.place by.register) refl
    (no_parameter (module_of p (text_of p a)) g s by.instr by.register by.here (ap given_by by.op_is)) st.comes seen in
    let held = placed_if (is_assigned g st.walk st.block st.place by.register) (types_of p a) a by.register by.allocated assigned (reg.1 by.instr by.register by.allocated by.here by.op_is) in
    let types : types_of p a ≡ (module_of p (Some m)).types = ap (λ (x : Home). (module_of p x).types) et in (
      held.0,
      held.1,
      ap (bits p a) by.is ∙ ap (λ (w : Word). w.bits) held.2,
      subst (λ (n : ℕ). byte_count (width_of ty) ≤ n) (ap (λ (ts : List NamedType). size_of ts by.allocated) (sym types) ∙ sym held.3) by.fits,
    )

frame_bytes : (h : History) (t : ℕ) (f : Frame) (fs : List Frame) → FramesKept h t (f ∷ fs) → Bytes h t f.principal f.run.allocas
frame_bytes h t f fs k =
    let l : stack_start t ≤ top_of_stack t fs = starts_below h t fs k.2 in
    let a : top_of_stack t fs ≤ f.run.low = k.0.0 in
    record { low = f.run.low; high = f.run.high; from = omega (arith, l, a); to = k.0.2; lies = k.0.3; kept = k.1 }

-- what a store that lacks its guard needs is held
pub store_held : HistoryLaws → LoanLaws → (c : Code) → Accepted c → (h : History) (t : ℕ) (thread : Thread) → t < 16 → Kept h t thread → ThreadStood c.program thread → StoreHeld c h thread
store_held laws loans c acc h t thread few kept stood frame below m ty stored at behind frames live text code bare =
    let k : FramesKept h t (frame ∷ below) = subst (λ (fs : List Frame). FramesKept h t fs) frames kept in
    let st : FramesStood c.program (frame ∷ below) = subst (λ (fs : List Frame). FramesStood c.program fs) frames stood.0 in
    let place = place_of_store c acc frame.run m ty stored at behind (function_of c.program frame.run.function) refl text code bare (top_stood c.program frame.run frame.crossing live st.0) in
    let held = store_is_held laws loans h t frame.principal frame.run.allocas place.0 (byte_count (width_of ty)) few (frame_bytes h t frame below k) place.1 (some_bytes (width_of ty)) place.3 in
    let begin : bits c.program frame.run at ≡ place.0.at = place.2 ∙ small_word place.0.at held.2 in (
      ap (λ (n : ℕ). holds h frame.principal (Write n (byte_count (width_of ty)))) begin ∙ held.0,
      ap (λ (n : ℕ). mapped n (byte_count (width_of ty))) begin ∙ held.1,
    )
