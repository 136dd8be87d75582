-- Rooms, one step after another.
use Rattle.std.proofs.Common.{◌≡◌, ℕ, ◌+◌, ◌<◌, ◌≤◌, max, Bool, true, false, cond, not, ◌&&◌, ◌||◌, Option, Some, List, [], ◌∷◌, ◌++◌, length, get_or, drop, refl, ap, sym, ◌∙◌, arith, nat_eq}
use Rattle.std.specs.Prelude.{unwrap_or, flat_map, nat_le}
use Rattle.std.specs.List.{list_all, list_any}
use Rattle.std.proofs.lemmas.Bool.Decides.{nat_tests}
use Rattle.std.proofs.lemmas.List.{drop_all, drop_more}
use Rattle.std.proofs.lemmas.List.Folds.{list_all-append}
use Rattle.lx_words.proofs.Tests.{with_false, both_turned, or_joined}
use Rattle.lx_ir.specs.declared.types.NamedType.{NamedType}
use Rattle.lx_ir.specs.declared.module.Block.{Block}
use Rattle.lx_ir.specs.declared.instr.Argument.{Argument}
use Rattle.lx_ir.specs.declared.instr.Instr.{Instr}
use Rattle.lx_ir.specs.declared.instr.Op.{Op}
use Rattle.lx_ir.specs.declared.instr.Op.TheVariants as op
use Rattle.lx_ir.specs.Layout.{size_of}
use Rattle.lx_image_texts.specs.Spared.{is_register, reads, uses_as_address, allocates, keeps_address}
use Rattle.lx_spared.specs.Stack.{allocated, widest, kept_room}

pub put_is : (b : Bool) (v : ℕ) (o : Option ℕ) → unwrap_or (cond b (Some v) o) 0 ≡ cond b v (unwrap_or o 0)
put_is true v o = refl
put_is false v o = refl

pub widened : (f : ℕ → ℕ) (k size r : ℕ) (b : Bool) → nat_eq k r ≡ b → f k < size → cond b size (f r) ≡ max (f r) (cond b size 0)
widened f k size r true e h =
    let same : k ≡ r = grind (arith, nat_tests, e) in
    let at : f k ≡ f r = ap f same in
    grind (arith, h, at)
widened f k size r false e h = grind arith

pub wide_enough : (f : ℕ → ℕ) (k size r : ℕ) (b : Bool) → nat_eq k r ≡ b → size ≤ f k → f r ≡ max (f r) (cond b size 0)
wide_enough f k size r true e h =
    let same : k ≡ r = grind (arith, nat_tests, e) in
    let at : f k ≡ f r = ap f same in
    grind (arith, h, at)
wide_enough f k size r false e h = grind arith

pub closed : (f : ℕ → ℕ) (k r : ℕ) (b : Bool) → nat_eq k r ≡ b → f k ≤ 0 → f r ≡ cond b 0 (f r)
closed f k r true e h =
    let same : k ≡ r = grind (arith, nat_tests, e) in
    let at : f k ≡ f r = ap f same in
    grind (arith, h, at)
closed f k r false e h = refl

-- what is taken by one and by the rest

pub either : (a b : Bool) (n : ℕ) → cond (a || b) 0 n ≡ cond b 0 (cond a 0 n)
either true true n = refl
either true false n = refl
either false b n = refl

pub both : (a b : Bool) (n : ℕ) → cond (a && b) n 0 ≡ cond b (cond a n 0) 0
both true b n = refl
both false true n = refl
both false false n = refl

pub turned : (a : Bool) (n : ℕ) → cond a 0 n ≡ cond (not a) n 0
turned true n = refl
turned false n = refl

-- lists that go on with another

pub kept_join : (r : ℕ) (xs ys : List Instr) (n : ℕ) → kept_room r (xs ++ ys) n ≡ kept_room r ys (kept_room r xs n)
kept_join r xs ys n =
    ap (λ (b : Bool). cond b n 0) (list_all-append (λ (i : Instr). uses_as_address r i.op) xs ys)
    ∙ both (list_all (λ (i : Instr). uses_as_address r i.op) xs) (list_all (λ (i : Instr). uses_as_address r i.op) ys) n

pub widest_join : (types : List NamedType) (r n : ℕ) (xs ys : List Instr) → widest types r n (xs ++ ys) ≡ widest types r (widest types r n xs) ys
widest_join types r n [] ys = refl
widest_join types r n (i ∷ is) ys = widest_join types r (max n (allocated types r i.op)) is ys

-- a room is wide enough where some alloca is

max_by : (size a b : ℕ) (x y : Bool) → nat_le size a ≡ x → nat_le size b ≡ y → nat_le size (max a b) ≡ (x || y)
max_by size a b true y e h = grind (arith, nat_tests, e)
max_by size a b false true e h = grind (arith, nat_tests, h)
max_by size a b false false e h = grind (arith, nat_tests, e, h)

le_max : (size a b : ℕ) → nat_le size (max a b) ≡ (nat_le size a || nat_le size b)
le_max size a b = max_by size a b (nat_le size a) (nat_le size b) refl refl

never : (size : ℕ) → 0 < size → nat_le size 0 ≡ false
never size h = grind (arith, nat_tests, h)

given : (b : Bool) (size n : ℕ) → 0 < size → nat_le size (cond b n 0) ≡ (b && nat_le size n)
given true size n h = refl
given false size n h = never size h

allocates_is : (types : List NamedType) (r size : ℕ) → 0 < size → (o : Op) → nat_le size (allocated types r o) ≡ allocates types r size o
allocates_is types r size h (op.Alloca to ty) = given (nat_eq to r) size (size_of types ty) h
allocates_is types r size h (op.Binary to o ty a b) = never size h
allocates_is types r size h (op.Compare to p ty a b) = never size h
allocates_is types r size h (op.Convert to how from a into) = never size h
allocates_is types r size h (op.Unary to o ty a) = never size h
allocates_is types r size h (op.Select to c ty a b) = never size h
allocates_is types r size h (op.Phi to ty edges) = never size h
allocates_is types r size h (op.Load to ty at) = never size h
allocates_is types r size h (op.Store ty v at) = never size h
allocates_is types r size h (op.GetElementPtr to ty base indices) = never size h
allocates_is types r size h (op.Call to ret x args) = never size h
allocates_is types r size h (op.CopyBlock moves dest source len) = never size h
allocates_is types r size h (op.FillBlock dest byte len) = never size h
allocates_is types r size h (op.Ret v) = never size h
allocates_is types r size h (op.Jump label) = never size h
allocates_is types r size h (op.Branch c a b) = never size h
allocates_is types r size h (op.Switch ty v otherwise cases) = never size h
allocates_is types r size h op.Unreachable = never size h
allocates_is types r size h (op.Guard at s narrow) = never size h
allocates_is types r size h (op.Check target) = never size h
allocates_is types r size h (op.Enter f) = never size h
allocates_is types r size h (op.Pre f k) = never size h
allocates_is types r size h (op.Post f k) = never size h
allocates_is types r size h (op.Leave f) = never size h

wide_is : (types : List NamedType) (r size : ℕ) → 0 < size → (n : ℕ) (is : List Instr) → nat_le size (widest types r n is) ≡ (nat_le size n || list_any (λ i. allocates types r size i.op) is)
wide_is types r size h n [] = with_false (nat_le size n)
wide_is types r size h n (i ∷ is) =
    wide_is types r size h (max n (allocated types r i.op)) is
    ∙ ap (λ (b : Bool). b || list_any (λ (j : Instr). allocates types r size j.op) is) (le_max size n (allocated types r i.op) ∙ ap (λ (b : Bool). nat_le size n || b) (allocates_is types r size h i.op))
    ∙ or_joined (nat_le size n) (allocates types r size i.op) (list_any (λ (j : Instr). allocates types r size j.op) is)

pub room_is : (types : List NamedType) (r size : ℕ) (is : List Instr) → 0 < size → nat_le size (kept_room r is (widest types r 0 is)) ≡ keeps_address types is size r
room_is types r size is h =
    let all : Bool = list_all (λ (i : Instr). uses_as_address r i.op) is in
    let any : Bool = list_any (λ (i : Instr). allocates types r size i.op) is in
    given all size (widest types r 0 is) h
    ∙ ap (λ (b : Bool). all && b) (wide_is types r size h 0 is ∙ ap (λ (b : Bool). b || any) (never size h))
    ∙ both_turned all any

-- loops

pub read_step : (r : ℕ) (xs : List Argument) (k : ℕ) (x : Argument) (old new : ℕ) → k < length xs → x ≡ get_or xs k x → new ≡ cond (is_register r x.value) 0 old → cond (reads r (drop k xs)) 0 old ≡ cond (reads r (drop (k + 1) xs)) 0 new
read_step r xs k x old new h at e =
    ap (λ ys. cond (reads r ys) 0 old) (drop_more xs k x h ∙ ap (λ y. y ∷ drop (k + 1) xs) (sym at))
    ∙ either (is_register r x.value) (reads r (drop (k + 1) xs)) old
    ∙ ap (λ n. cond (reads r (drop (k + 1) xs)) 0 n) (sym e)

pub read_end : (r : ℕ) (xs : List Argument) (k : ℕ) (old : ℕ) → length xs ≤ k → cond (reads r (drop k xs)) 0 old ≡ old
read_end r xs k old h = ap (λ ys. cond (reads r ys) 0 old) (drop_all k xs h)

pub kept_step : (r : ℕ) (is : List Instr) (k : ℕ) (i : Instr) (old new : ℕ) → k < length is → i ≡ get_or is k i → new ≡ cond (uses_as_address r i.op) old 0 → kept_room r (drop k is) old ≡ kept_room r (drop (k + 1) is) new
kept_step r is k i old new h at e =
    ap (λ js. kept_room r js old) (drop_more is k i h ∙ ap (λ j. j ∷ drop (k + 1) is) (sym at))
    ∙ both (uses_as_address r i.op) (list_all (λ j. uses_as_address r j.op) (drop (k + 1) is)) old
    ∙ ap (kept_room r (drop (k + 1) is)) (sym e)

pub kept_end : (r : ℕ) (is : List Instr) (k : ℕ) (old : ℕ) → length is ≤ k → kept_room r (drop k is) old ≡ old
kept_end r is k old h = ap (λ js. kept_room r js old) (drop_all k is h)

-- all instructions of blocks
abbrev instrs_in : List Block → List Instr
instrs_in bs = flat_map (λ b. b.instrs) bs

pub kept_block : (r : ℕ) (bs : List Block) (k : ℕ) (b : Block) (old new : ℕ) → k < length bs → b ≡ get_or bs k b → new ≡ kept_room r b.instrs old → kept_room r (instrs_in (drop k bs)) old ≡ kept_room r (instrs_in (drop (k + 1) bs)) new
kept_block r bs k b old new h at e =
    ap (λ cs. kept_room r (instrs_in cs) old) (drop_more bs k b h ∙ ap (λ c. c ∷ drop (k + 1) bs) (sym at))
    ∙ kept_join r b.instrs (instrs_in (drop (k + 1) bs)) old
    ∙ ap (kept_room r (instrs_in (drop (k + 1) bs))) (sym e)

pub kept_blocks : (r : ℕ) (bs : List Block) (k : ℕ) (old : ℕ) → length bs ≤ k → kept_room r (instrs_in (drop k bs)) old ≡ old
kept_blocks r bs k old h = ap (λ cs. kept_room r (instrs_in cs) old) (drop_all k bs h)

pub wide_step : (types : List NamedType) (r : ℕ) (is : List Instr) (k : ℕ) (i : Instr) (old new : ℕ) → k < length is → i ≡ get_or is k i → new ≡ max old (allocated types r i.op) → widest types r old (drop k is) ≡ widest types r new (drop (k + 1) is)
wide_step types r is k i old new h at e =
    ap (widest types r old) (drop_more is k i h ∙ ap (λ j. j ∷ drop (k + 1) is) (sym at))
    ∙ ap (λ n. widest types r n (drop (k + 1) is)) (sym e)

pub wide_end : (types : List NamedType) (r : ℕ) (is : List Instr) (k : ℕ) (old : ℕ) → length is ≤ k → widest types r old (drop k is) ≡ old
wide_end types r is k old h = ap (widest types r old) (drop_all k is h)

pub wide_block : (types : List NamedType) (r : ℕ) (bs : List Block) (k : ℕ) (b : Block) (old new : ℕ) → k < length bs → b ≡ get_or bs k b → new ≡ widest types r old b.instrs → widest types r old (instrs_in (drop k bs)) ≡ widest types r new (instrs_in (drop (k + 1) bs))
wide_block types r bs k b old new h at e =
    ap (λ cs. widest types r old (instrs_in cs)) (drop_more bs k b h ∙ ap (λ c. c ∷ drop (k + 1) bs) (sym at))
    ∙ widest_join types r old b.instrs (instrs_in (drop (k + 1) bs))
    ∙ ap (λ n. widest types r n (instrs_in (drop (k + 1) bs))) (sym e)

pub wide_blocks : (types : List NamedType) (r : ℕ) (bs : List Block) (k : ℕ) (old : ℕ) → length bs ≤ k → widest types r old (instrs_in (drop k bs)) ≡ old
wide_blocks types r bs k old h = ap (λ cs. widest types r old (instrs_in cs)) (drop_all k bs h)
