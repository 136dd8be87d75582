-- The fault of an instruction is the first.
use Rattle.std.proofs.Common.{◌≡◌, ◌⊎◌, inl, inr, refl, sym, ◌∙◌, ap, subst, arith, ℕ, zero, suc, ◌+◌, ◌<◌, Bool, true, false, List, [], ◌∷◌, ◌++◌, length, Option, Some, None, slice_get}
use Rattle.std.specs.Prelude.{option_map, cond, flat_map, take}
use Rattle.std.specs.Option.{option_or}
use Rattle.lx_words.proofs.Options.{map_none, map_some, neither_some}
use Rattle.lx_words.proofs.Tests.{zero_more, more_onto}
use Rattle.lx_ir.specs.declared.module.Block.{Block}
use Rattle.lx_ir.specs.declared.module.Function.{Function}
use Rattle.lx_ir.specs.declared.module.Module.{Module}
use Rattle.lx_ir.specs.declared.instr.Instr.{Instr}
use Rattle.lx_ir.specs.declared.instr.Op.{Op}
use Rattle.lx_ir.specs.Lookup.{blocks_of}
use Rattle.lx_ir.specs.Faults.{first_some}
use Rattle.lx_image_texts.specs.ImageFaults.{ImageFault, Kind, kind_at, first_op, fault_at, fault_in_block, fault_in_blocks, fault_in_function, is_wrapper}
use Rattle.lx_image_texts.specs.Watched.{op_before, op_at, kind_here, NoneBefore, NoneInFront, IsFirst}

-- one or the other of two
pub or_some : {A : Type 0} (a b : Option A) (e : A) → option_or a b ≡ Some e → (a ≡ Some e) ⊎ ((a ≡ None) × (b ≡ Some e))
or_some None b e h = inr (refl, h)
or_some (Some x) b e h = inl h

-- The instructions of a block, behind this one.

abbrev before_of : Option Op → List Instr → ℕ → Option Op
before_of before is zero = before
before_of before is (suc n) = option_map (λ (i : Instr). i.op) (slice_get is n)

abbrev kind_of : Module → Function → Option Op → List Instr → ℕ → Instr → Option Kind
kind_of x f before is n i = kind_at x f (before_of before is n) i.op (op_at is (suc n))

one_on : (before : Option Op) (i : Instr) (is : List Instr) (n : ℕ) → before_of (Some i.op) is n ≡ before_of before (i ∷ is) (suc n)
one_on before i is zero = refl
one_on before i is (suc n) = refl

start : (is : List Instr) (n : ℕ) → before_of None is n ≡ op_before is n
start is zero = refl
start is (suc n) = refl

next_of : (is : List Instr) → first_op is ≡ op_at is 0
next_of [] = refl
next_of (i ∷ is) = refl

-- none up to a number, behind this one
abbrev NoneUpTo : Module → Function → Option Op → List Instr → ℕ → Type 0
NoneUpTo x f before is n = (a : ℕ) (i : Instr) → a < n → slice_get is a ≡ Some i → kind_of x f before is a i ≡ None

step_kind : (x : Module) (f : Function) (before : Option Op) (y : Instr) (is : List Instr) (a : ℕ) (i : Instr) → kind_of x f (Some y.op) is a i ≡ kind_of x f before (y ∷ is) (suc a) i
step_kind x f before y is a i = ap (λ (z : Option Op). kind_at x f z i.op (op_at is (suc a))) (one_on before y is a)

grown : (x : Module) (f : Function) (before : Option Op) (y : Instr) (is : List Instr) (n : ℕ) → kind_at x f before y.op (first_op is) ≡ None → NoneUpTo x f (Some y.op) is n → NoneUpTo x f before (y ∷ is) (suc n)
grown x f before y is n none rest zero i less at =
    let same : y ≡ i = cc at in
    subst (λ (z : Instr). kind_at x f before z.op (op_at is 0) ≡ None) same (ap (kind_at x f before y.op) (sym (next_of is)) ∙ none)
grown x f before y is n none rest (suc a) i less at = sym (step_kind x f before y is a i) ∙ rest a i (omega (arith, less)) at

none_in_block : (x : Module) (f : Function) (place : ℕ) (before : Option Op) (is : List Instr) → fault_in_block x f place before is ≡ None → NoneUpTo x f before is (length is)
none_in_block x f place before [] e = λ a i less at. cc at
none_in_block x f place before (y ∷ is) e =
    let o = neither_some (option_map (fault_at f place y) (kind_at x f before y.op (first_op is))) (fault_in_block x f (suc place) (Some y.op) is) e in
    grown x f before y is (length is) (map_none (fault_at f place y) (kind_at x f before y.op (first_op is)) o.0) (none_in_block x f (suc place) (Some y.op) is o.1)

-- the first in a block

record InBlock (x : Module) (f : Function) (place : ℕ) (before : Option Op) (is : List Instr) (e : ImageFault) : Type 0 where
  n : ℕ
  i : Instr
  at : slice_get is n ≡ Some i
  kind : kind_of x f before is n i ≡ Some e.kind
  front : NoneUpTo x f before is n
  line : e.line ≡ i.line
  name : e.function ≡ f.name
  number : e.place ≡ n + place

none_yet : (x : Module) (f : Function) (before : Option Op) (is : List Instr) → NoneUpTo x f before is 0
none_yet x f before is a i less at = absurd (omega (arith, less))

first_in_block : (x : Module) (f : Function) (place : ℕ) (before : Option Op) (is : List Instr) (e : ImageFault) → fault_in_block x f place before is ≡ Some e → InBlock x f place before is e
first_in_block x f place before [] e h = cc h
first_in_block x f place before (y ∷ is) e h = by (or_some (option_map (fault_at f place y) (kind_at x f before y.op (first_op is))) (fault_in_block x f (suc place) (Some y.op) is) e h) (λ there. first_in_block x f (suc place) (Some y.op) is e there)
  where
    by : (option_map (fault_at f place y) (kind_at x f before y.op (first_op is)) ≡ Some e) ⊎ ((option_map (fault_at f place y) (kind_at x f before y.op (first_op is)) ≡ None) × (fault_in_block x f (suc place) (Some y.op) is ≡ Some e)) → (fault_in_block x f (suc place) (Some y.op) is ≡ Some e → InBlock x f (suc place) (Some y.op) is e) → InBlock x f place before (y ∷ is) e
    by (inl here) more =
        let m = map_some (fault_at f place y) (kind_at x f before y.op (first_op is)) e here in
        record {
          n = 0;
          i = y;
          at = refl;
          kind = ap (kind_at x f before y.op) (sym (next_of is)) ∙ (m.1 ∙ ap (λ (z : ImageFault). Some z.kind) m.2);
          front = none_yet x f before (y ∷ is);
          line = ap (λ (z : ImageFault). z.line) (sym m.2);
          name = ap (λ (z : ImageFault). z.function) (sym m.2);
          number = ap (λ (z : ImageFault). z.place) (sym m.2) ∙ zero_more place;
        }
    by (inr (none, there)) more =
        let r = more there in
        record {
          n = suc r.n;
          i = r.i;
          at = r.at;
          kind = sym (step_kind x f before y is r.n r.i) ∙ r.kind;
          front = grown x f before y is r.n (map_none (fault_at f place y) (kind_at x f before y.op (first_op is)) none) r.front;
          line = r.line;
          name = r.name;
          number = r.number ∙ more_onto r.n place;
        }

-- Blocks.

here_kind : (x : Module) (f : Function) (is : List Instr) (n : ℕ) (i : Instr) → kind_of x f None is n i ≡ kind_here x f is n i
here_kind x f is n i = ap (λ (z : Option Op). kind_at x f z i.op (op_at is (suc n))) (start is n)

none_here : (x : Module) (f : Function) (is : List Instr) (n : ℕ) → NoneUpTo x f None is n → NoneBefore x f is n
none_here x f is n none a i less at = sym (here_kind x f is a i) ∙ none a i less at

abbrev pub NoneOf : Module → Function → List Block → ℕ → Type 0
NoneOf x f bs j = (a : ℕ) (b : Block) → a < j → slice_get bs a ≡ Some b → NoneBefore x f b.instrs (length b.instrs)

block_grown : (x : Module) (f : Function) (c : Block) (bs : List Block) (j : ℕ) → NoneBefore x f c.instrs (length c.instrs) → NoneOf x f bs j → NoneOf x f (c ∷ bs) (suc j)
block_grown x f c bs j none rest zero b less at = let same : c ≡ b = cc at in subst (λ (z : Block). NoneBefore x f z.instrs (length z.instrs)) same none
block_grown x f c bs j none rest (suc a) b less at = rest a b (omega (arith, less)) at

pub none_in_blocks : (x : Module) (f : Function) (place : ℕ) (bs : List Block) → fault_in_blocks x f place bs ≡ None → NoneOf x f bs (length bs)
none_in_blocks x f place [] e = λ a b less at. cc at
none_in_blocks x f place (c ∷ bs) e =
    let o = neither_some (fault_in_block x f place None c.instrs) (fault_in_blocks x f (length c.instrs + place) bs) e in
    block_grown x f c bs (length bs) (none_here x f c.instrs (length c.instrs) (none_in_block x f place None c.instrs o.0)) (none_in_blocks x f (length c.instrs + place) bs o.1)

pub record InBlocks (x : Module) (f : Function) (place : ℕ) (bs : List Block) (e : ImageFault) : Type 0 where
  pub j : ℕ
  pub b : Block
  pub n : ℕ
  pub i : Instr
  pub block : slice_get bs j ≡ Some b
  pub instr : slice_get b.instrs n ≡ Some i
  pub kind : kind_here x f b.instrs n i ≡ Some e.kind
  pub before : NoneBefore x f b.instrs n
  pub blocks : NoneOf x f bs j
  pub line : e.line ≡ i.line
  pub name : e.function ≡ f.name
  pub number : e.place ≡ n + (length (flat_map (λ (c : Block). c.instrs) (take j bs)) + place)

length_join : {A : Type 0} (xs ys : List A) → length (xs ++ ys) ≡ length ys + length xs
length_join [] ys = omega arith
length_join (x ∷ xs) ys = let ih : length (xs ++ ys) ≡ length ys + length xs = length_join xs ys in omega (arith, ih)

behind_block : (a b c d n : ℕ) → n ≡ a + b → d + (a + (b + c)) ≡ d + (n + c)
behind_block a b c d n e = omega (arith, e)

no_block_yet : (x : Module) (f : Function) (bs : List Block) → NoneOf x f bs 0
no_block_yet x f bs a b less at = absurd (omega (arith, less))

first_in_blocks : (x : Module) (f : Function) (place : ℕ) (bs : List Block) (e : ImageFault) → fault_in_blocks x f place bs ≡ Some e → InBlocks x f place bs e
first_in_blocks x f place [] e h = cc h
first_in_blocks x f place (c ∷ bs) e h = by (or_some (fault_in_block x f place None c.instrs) (fault_in_blocks x f (length c.instrs + place) bs) e h) (λ there. first_in_blocks x f (length c.instrs + place) bs e there)
  where
    by : (fault_in_block x f place None c.instrs ≡ Some e) ⊎ ((fault_in_block x f place None c.instrs ≡ None) × (fault_in_blocks x f (length c.instrs + place) bs ≡ Some e)) → (fault_in_blocks x f (length c.instrs + place) bs ≡ Some e → InBlocks x f (length c.instrs + place) bs e) → InBlocks x f place (c ∷ bs) e
    by (inl here) more =
        let r = first_in_block x f place None c.instrs e here in
        record {
          j = 0;
          b = c;
          n = r.n;
          i = r.i;
          block = refl;
          instr = r.at;
          kind = sym (here_kind x f c.instrs r.n r.i) ∙ r.kind;
          before = none_here x f c.instrs r.n r.front;
          blocks = no_block_yet x f (c ∷ bs);
          line = r.line;
          name = r.name;
          number = r.number ∙ ap (λ (m : ℕ). r.n + m) (zero_more place);
        }
    by (inr (none, there)) more =
        let r = more there in
        record {
          j = suc r.j;
          b = r.b;
          n = r.n;
          i = r.i;
          block = r.block;
          instr = r.instr;
          kind = r.kind;
          before = r.before;
          blocks = block_grown x f c bs r.j (none_here x f c.instrs (length c.instrs) (none_in_block x f place None c.instrs none)) r.blocks;
          line = r.line;
          name = r.name;
          number = r.number ∙ behind_block (length (flat_map (λ (d : Block). d.instrs) (take r.j bs))) (length c.instrs) place r.n (length (c.instrs ++ flat_map (λ (d : Block). d.instrs) (take r.j bs))) (length_join c.instrs (flat_map (λ (d : Block). d.instrs) (take r.j bs)));
        }

-- Functions.

pub unless_wrapper : (x : Module) (g : Function) → is_wrapper g ≡ false → fault_in_function x g ≡ fault_in_blocks x g 0 (blocks_of g)
unless_wrapper x g plain = ap (λ (w : Bool). cond w None (fault_in_blocks x g 0 (blocks_of g))) plain

some_in_blocks : (x : Module) (g : Function) (w : Bool) (e : ImageFault) → is_wrapper g ≡ w → cond w None (fault_in_blocks x g 0 (blocks_of g)) ≡ Some e → (is_wrapper g ≡ false) × (fault_in_blocks x g 0 (blocks_of g) ≡ Some e)
some_in_blocks x g true e is h = cc h
some_in_blocks x g false e is h = (is, h)

abbrev pub NoneFrom : Module → List Function → ℕ → Type 0
NoneFrom x fs k = (a : ℕ) (g : Function) → a < k → slice_get fs a ≡ Some g → is_wrapper g ≡ false → NoneInFront x g (length (blocks_of g))

pub record InFunctions (x : Module) (fs : List Function) (e : ImageFault) : Type 0 where
  pub k : ℕ
  pub f : Function
  pub at : slice_get fs k ≡ Some f
  pub program : is_wrapper f ≡ false
  pub inside : InBlocks x f 0 (blocks_of f) e
  pub front : NoneFrom x fs k

no_function_yet : (x : Module) (fs : List Function) → NoneFrom x fs 0
no_function_yet x fs a g less at plain = absurd (omega (arith, less))

function_grown : (x : Module) (h : Function) (fs : List Function) (k : ℕ) → fault_in_function x h ≡ None → NoneFrom x fs k → NoneFrom x (h ∷ fs) (suc k)
function_grown x h fs k none rest zero g less at plain =
    let same : h ≡ g = cc at in
    none_in_blocks x g 0 (blocks_of g) (sym (unless_wrapper x g plain) ∙ sym (ap (fault_in_function x) same) ∙ none)
function_grown x h fs k none rest (suc a) g less at plain = rest a g (omega (arith, less)) at plain

pub first_in_functions : (x : Module) (fs : List Function) (e : ImageFault) → first_some (fault_in_function x) fs ≡ Some e → InFunctions x fs e
first_in_functions x [] e h = cc h
first_in_functions x (g ∷ fs) e h = by (or_some (fault_in_function x g) (first_some (fault_in_function x) fs) e h) (λ there. first_in_functions x fs e there)
  where
    by : (fault_in_function x g ≡ Some e) ⊎ ((fault_in_function x g ≡ None) × (first_some (fault_in_function x) fs ≡ Some e)) → (first_some (fault_in_function x) fs ≡ Some e → InFunctions x fs e) → InFunctions x (g ∷ fs) e
    by (inl here) more =
        let s = some_in_blocks x g (is_wrapper g) e refl here in
        record { k = 0; f = g; at = refl; program = s.0; inside = first_in_blocks x g 0 (blocks_of g) e s.1; front = no_function_yet x (g ∷ fs) }
    by (inr (none, there)) more =
        let r = more there in
        record { k = suc r.k; f = r.f; at = r.at; program = r.program; inside = r.inside; front = function_grown x g fs r.k none r.front }

pub is_first : (x : Module) (e : ImageFault) → first_some (fault_in_function x) x.functions ≡ Some e → IsFirst x e
is_first x e h =
    let r = first_in_functions x x.functions e h in
    record {
      k = r.k;
      f = r.f;
      j = r.inside.j;
      b = r.inside.b;
      n = r.inside.n;
      i = r.inside.i;
      function = r.at;
      block = r.inside.block;
      instr = r.inside.instr;
      kind = r.inside.kind;
      before = r.inside.before;
      blocks = r.inside.blocks;
      functions = r.front;
    }
