-- Types of C hang on the tokens that they are, and on the one behind them.
use Rattle.std.proofs.Common.{◌≡◌, ℕ, zero, suc, ◌≤◌, Bool, true, false, Option, Some, None, List, [], ◌∷◌, length, Ok, refl, sym, ap, ◌∙◌, subst, arith, codes}
use Rattle.std.specs.Prelude.{if◌then◌else◌, ◌||◌}
use Rattle.lx_words.proofs.Tests.{with_false}
use Rattle.lx_annot.specs.declared.expr.Ty.{Ty}
use Rattle.lx_annot.specs.declared.expr.Ty.TheVariants as ty
use Rattle.lx_annot_expressions.specs.Tokens.{Tok}
use Rattle.lx_annot_expressions.specs.Reading.{Read, ◌>>=◌, refused, behind, has, word_of, word_at, pick_at, always_refused, steps_at}
use Rattle.lx_annot_terms.proofs.ListReads.{other_text}
use Rattle.lx_cproto.specs.Types.{without_const, is_mark, behind_marks, is_pointed, word_type, unsigned_type, long_at, unsigned_by, unsigned_next, unsigned_at, signed_at, struct_at, word_base_at, base_at, pointed_at, type_at}
use Rattle.lx_annot_laws.proofs.Local.{Looks, has_looks, Same, SameRead, Plain, pure_plain, then_plain, last_plain, over_plain, refused_plain, if_plain, choose_local, same_local, behind_local, pick_plain}
use Rattle.lx_annot_laws.proofs.Loops.{shorter, Hungry, over_hungry, pick_hungry, then_hungry, if_hungry, behind_hungry, steps_plain}

-- Tokens that are gone over.

abbrev over : Unit {0} → List Tok → Read (Unit {0})
over s ts = Ok (s, behind ts)

abbrev consts : ℕ → List Tok → Read (Unit {0})
consts n ts = steps_at (has (codes "const")) over n tt ts

const_by : (n : ℕ) (t : Tok) (ts : List Tok) (b : Bool) → consts n ts ≡ Ok (tt, without_const ts) → (if b then (over tt (t ∷ ts) >>= λ x. steps_at (has (codes "const")) over n x.0 x.1) else Ok (tt, t ∷ ts)) ≡ Ok (tt, if b then without_const ts else t ∷ ts)
const_by n t ts true h = h
const_by n t ts false h = refl

consts_are : (n : ℕ) (ts : List Tok) → length ts ≤ n → consts n ts ≡ Ok (tt, without_const ts)
unfolding steps_at
consts_are zero [] le = refl
consts_are zero (t ∷ ts) le = absurd (omega (arith, le))
consts_are (suc n) [] le = refl
consts_are (suc n) (t ∷ ts) le = const_by n t ts (has (codes "const") (t ∷ ts)) (consts_are n ts (omega (arith, le)))

consts_plain : Plain (λ ts. consts (length ts) ts)
consts_plain = steps_plain (has (codes "const")) over refl (λ s. over_hungry s) (has_looks (codes "const")) (λ s. over_plain s) tt

module _ {A : Type 0} (read : List Tok → Read A) (h : Plain read) where
  abbrev behind_consts : List Tok → Read A
  behind_consts ts = consts (length ts) ts >>= λ x. read x.1

  as_consts : (ts : List Tok) → read (without_const ts) ≡ behind_consts ts
  as_consts ts = ap (λ (r : Read (Unit {0})). r >>= λ x. read x.1) (sym (consts_are (length ts) ts (omega arith)))

  pub const_plain : Plain (λ ts. read (without_const ts))
  const_plain = same_local Same (λ ts. read (without_const ts)) (λ ts. read (without_const ts)) behind_consts behind_consts as_consts as_consts (then_plain (λ ts. consts (length ts) ts) (λ x. read x.1) consts_plain (λ x. h))

  const_hungry_by : Hungry read → (t : Tok) (ts us : List Tok) (x : A) (b : Bool) → read (if b then without_const ts else t ∷ ts) ≡ Ok (x, us) → length us ≤ length ts
  const_hungry_by g t ts us x true e = shorter (λ vs. read (without_const vs)) const_plain ts us x e
  const_hungry_by g t ts us x false e = g t ts us x e

  pub const_hungry : Hungry read → Hungry (λ ts. read (without_const ts))
  const_hungry g t ts us x e = const_hungry_by g t ts us x (has (codes "const") (t ∷ ts)) e

-- The marks behind a base, and whether a star is among them.

abbrev mark_step : Bool → List Tok → Read Bool
mark_step b ts = if has (codes "*") ts then Ok (true, behind ts) else Ok (b, behind ts)

mark_plain : (b : Bool) → Plain (mark_step b)
mark_plain b = if_plain (codes "*") (λ ts. Ok (true, behind ts)) (λ ts. Ok (b, behind ts)) (over_plain true) (over_plain b)

mark_hungry : (b : Bool) → Hungry (mark_step b)
mark_hungry b = if_hungry (has (codes "*")) (λ ts. Ok (true, behind ts)) (λ ts. Ok (b, behind ts)) (over_hungry true) (over_hungry b)

mark_looks : (us vs : List Tok) → Looks us vs → is_mark us ≡ is_mark vs
mark_looks us vs l = λ i. has_looks (codes "*") us vs l i || has_looks (codes "const") us vs l i

abbrev marks : ℕ → Bool → List Tok → Read Bool
marks n b ts = steps_at is_mark mark_step n b ts

or_true : (b : Bool) → true ≡ b || true
or_true true = refl
or_true false = refl

-- what is left to read behind one token, by whether it is a star or a `const`
abbrev mark_said : Bool → Bool → List Tok → Read Bool
mark_said b star ts = if star then Ok (true, ts) else Ok (b, ts)

abbrev marks_by : ℕ → Bool → Bool → Bool → Tok → List Tok → Read Bool
marks_by n b star const t ts = if star || const then (mark_said b star ts >>= λ x. steps_at is_mark mark_step n x.0 x.1) else Ok (b, t ∷ ts)

abbrev marks_said : Bool → Bool → Bool → Tok → List Tok → Read Bool
marks_said b star const t ts = Ok (b || (has (codes "*") (if const then without_const ts else t ∷ ts)), if star || const then behind_marks ts else t ∷ ts)

mark_by : (n : ℕ) (b star const : Bool) (t : Tok) (ts : List Tok) → has (codes "*") (t ∷ ts) ≡ star → (star ≡ true → const ≡ false) → ((c : Bool) → marks n c ts ≡ Ok (c || is_pointed ts, behind_marks ts)) → marks_by n b star const t ts ≡ marks_said b star const t ts
mark_by n b true true t ts s other h = let no : true ≡ false = other refl in cc
mark_by n b true false t ts s other h = h true ∙ ap (λ c. Ok (c, behind_marks ts)) (or_true b ∙ ap (λ k. b || k) (sym s))
mark_by n b false true t ts s other h = h b
mark_by n b false false t ts s other h = ap (λ c. Ok (c, t ∷ ts)) (with_false b ∙ ap (λ k. b || k) (sym s))

marks_are : (n : ℕ) (b : Bool) (ts : List Tok) → length ts ≤ n → marks n b ts ≡ Ok (b || is_pointed ts, behind_marks ts)
unfolding steps_at
marks_are zero b [] le = ap (λ c. Ok (c, [])) (with_false b)
marks_are zero b (t ∷ ts) le = absurd (omega (arith, le))
marks_are (suc n) b [] le = ap (λ c. Ok (c, [])) (with_false b)
marks_are (suc n) b (t ∷ ts) le =
    mark_by n b (has (codes "*") (t ∷ ts)) (has (codes "const") (t ∷ ts)) t ts refl (λ s. other_text (codes "*") (codes "const") (t ∷ ts) s refl) (λ c. marks_are n c ts (omega (arith, le)))

marks_plain : Plain (λ ts. marks (length ts) false ts)
marks_plain = steps_plain is_mark mark_step refl mark_hungry mark_looks mark_plain false

pointed_each : (base : Option Ty) (b : Bool) → Plain (λ us. pointed_at base b us)
pointed_each base true = pure_plain ty.Ptr
pointed_each (Some t) false = pure_plain t
pointed_each None false = refused_plain {A = Ty}

-- what stands behind a base
abbrev pub tail_at : Option Ty → List Tok → Read Ty
tail_at base ts = pointed_at base (is_pointed ts) (behind_marks ts)

abbrev marked : Option Ty → List Tok → Read Ty
marked base ts = marks (length ts) false ts >>= λ x. pointed_at base x.0 x.1

as_marks : (base : Option Ty) (ts : List Tok) → tail_at base ts ≡ marked base ts
as_marks base ts = ap (λ (r : Read Bool). r >>= λ x. pointed_at base x.0 x.1) (sym (marks_are (length ts) false ts (omega arith)))

pub tail_plain : (base : Option Ty) → Plain (tail_at base)
tail_plain base = same_local Same (tail_at base) (tail_at base) (marked base) (marked base) (as_marks base) (as_marks base) (then_plain (λ ts. marks (length ts) false ts) (λ x. pointed_at base x.0 x.1) marks_plain (pointed_each base))

-- Bases.

abbrev of_long : List Tok → Read (Option Ty)
of_long ts = Ok (Some ty.I64, long_at ts)

long_by : (b : Bool) (ts : List Tok) → SameRead {A = Option Ty} (Ok (Some ty.I64, if b then behind ts else ts)) (if b then Ok (Some ty.I64, behind ts) else Ok (Some ty.I64, ts))
long_by true ts = refl
long_by false ts = refl

long_plain : Plain of_long
long_plain =
    same_local Same of_long of_long (λ ts. if has (codes "long") ts then Ok (Some ty.I64, behind ts) else Ok (Some ty.I64, ts)) (λ ts. if has (codes "long") ts then Ok (Some ty.I64, behind ts) else Ok (Some ty.I64, ts))
    (λ ts. long_by (has (codes "long") ts) ts) (λ ts. long_by (has (codes "long") ts) ts)
    (if_plain (codes "long") (λ ts. Ok (Some ty.I64, behind ts)) (λ ts. Ok (Some ty.I64, ts)) (over_plain (Some ty.I64)) (pure_plain (Some ty.I64)))

abbrev longs : List Tok → Read (Option Ty)
longs ts = of_long (without_const ts)

longs_plain : Plain longs
longs_plain = const_plain of_long long_plain

unsigned_looks : (us vs : List Tok) → Looks us vs → unsigned_next us ≡ unsigned_next vs
unsigned_looks [] [] l = refl
unsigned_looks [] (v ∷ vs) l = cc
unsigned_looks (u ∷ us) [] l = cc
unsigned_looks (u ∷ us) (v ∷ vs) l = let s : u ≡ v = cc in ap (λ (t : Tok). unsigned_type t.bytes) s

unsigned_each : (o : Option Ty) → Plain (λ ts. unsigned_by o ts)
unsigned_each None = pure_plain (Some ty.U32)
unsigned_each (Some t) = over_plain (Some t)

unsigned_plain : Plain unsigned_at
unsigned_plain =
    if_plain (codes "long") (λ ts. longs (behind ts)) (λ ts. unsigned_by (unsigned_next ts) ts) (behind_local Same longs longs longs_plain)
    (choose_local Same unsigned_next unsigned_next unsigned_looks (λ o ts. unsigned_by o ts) (λ o ts. unsigned_by o ts) unsigned_each)

signed_plain : Plain signed_at
signed_plain = if_plain (codes "char") (λ ts. Ok (Some ty.I8, behind ts)) (λ ts. refused ts) (over_plain (Some ty.I8)) (refused_plain {A = Option Ty})

pub word_plain : Plain word_at
word_plain = pick_plain (λ t. word_of t.kind t.bytes) always_refused

pub struct_plain : Plain struct_at
struct_plain = last_plain word_at (λ n. None) word_plain

word_base_plain : Plain word_base_at
word_base_plain = last_plain (pick_at (λ t. word_type t.bytes) always_refused) (λ t. Some t) (pick_plain (λ t. word_type t.bytes) always_refused)

word_base_hungry : Hungry word_base_at
word_base_hungry = then_hungry (pick_at (λ t. word_type t.bytes) always_refused) (λ t. Ok (Some t.0, t.1)) (pick_hungry (λ t. word_type t.bytes) always_refused) (λ t. pure_plain (Some t))

abbrev pub structs : List Tok → Read (Option Ty)
structs ts = struct_at (without_const ts)

abbrev unsigneds : List Tok → Read (Option Ty)
unsigneds ts = unsigned_at (without_const ts)

abbrev signeds : List Tok → Read (Option Ty)
signeds ts = signed_at (without_const ts)

pub structs_plain : Plain structs
structs_plain = const_plain struct_at struct_plain

unsigneds_plain : Plain unsigneds
unsigneds_plain = const_plain unsigned_at unsigned_plain

signeds_plain : Plain signeds
signeds_plain = const_plain signed_at signed_plain

base_plain : Plain base_at
unfolding base_at
base_plain =
    if_plain (codes "struct") (λ ts. structs (behind ts)) (λ ts. if has (codes "unsigned") ts then unsigneds (behind ts) else if has (codes "signed") ts then signeds (behind ts) else if has (codes "long") ts then longs (behind ts) else word_base_at ts) (behind_local Same structs structs structs_plain)
    (if_plain (codes "unsigned") (λ ts. unsigneds (behind ts)) (λ ts. if has (codes "signed") ts then signeds (behind ts) else if has (codes "long") ts then longs (behind ts) else word_base_at ts) (behind_local Same unsigneds unsigneds unsigneds_plain)
    (if_plain (codes "signed") (λ ts. signeds (behind ts)) (λ ts. if has (codes "long") ts then longs (behind ts) else word_base_at ts) (behind_local Same signeds signeds signeds_plain)
    (if_plain (codes "long") (λ ts. longs (behind ts)) word_base_at (behind_local Same longs longs longs_plain) word_base_plain)))

base_hungry : Hungry base_at
unfolding base_at
base_hungry =
    if_hungry (has (codes "struct")) (λ ts. structs (behind ts)) (λ ts. if has (codes "unsigned") ts then unsigneds (behind ts) else if has (codes "signed") ts then signeds (behind ts) else if has (codes "long") ts then longs (behind ts) else word_base_at ts) (behind_hungry structs structs_plain)
    (if_hungry (has (codes "unsigned")) (λ ts. unsigneds (behind ts)) (λ ts. if has (codes "signed") ts then signeds (behind ts) else if has (codes "long") ts then longs (behind ts) else word_base_at ts) (behind_hungry unsigneds unsigneds_plain)
    (if_hungry (has (codes "signed")) (λ ts. signeds (behind ts)) (λ ts. if has (codes "long") ts then longs (behind ts) else word_base_at ts) (behind_hungry signeds signeds_plain)
    (if_hungry (has (codes "long")) (λ ts. longs (behind ts)) word_base_at (behind_hungry longs longs_plain) word_base_hungry)))

abbrev based : List Tok → Read (Option Ty)
based ts = base_at (without_const ts)

based_plain : Plain based
based_plain = const_plain base_at base_plain

-- a type
pub type_plain : Plain type_at
unfolding type_at
type_plain = then_plain based (λ b. tail_at b.0 b.1) based_plain tail_plain

pub type_hungry : Hungry type_at
unfolding type_at
type_hungry = then_hungry based (λ b. tail_at b.0 b.1) (const_hungry base_at base_plain base_hungry) tail_plain

-- behind `struct`
abbrev pub struct_tail : List Tok → Read Ty
struct_tail ts = structs ts >>= λ b. tail_at b.0 b.1

pub struct_tail_plain : Plain struct_tail
struct_tail_plain = then_plain structs (λ b. tail_at b.0 b.1) structs_plain tail_plain

-- The words `void` and `struct` are gone over, whatever stands behind them.

void_is : (t : Tok) (ts : List Tok) → t.bytes ≡ codes "void" → type_at (t ∷ ts) ≡ tail_at (Some ty.Void) ts
unfolding type_at base_at word_type
void_is t ts e = subst (λ b. type_at (record { kind = t.kind; bytes = b } ∷ ts) ≡ tail_at (Some ty.Void) ts) (sym e) refl

struct_is : (t : Tok) (ts : List Tok) → t.bytes ≡ codes "struct" → type_at (t ∷ ts) ≡ struct_tail ts
unfolding type_at base_at
struct_is t ts e = subst (λ b. type_at (record { kind = t.kind; bytes = b } ∷ ts) ≡ struct_tail ts) (sym e) refl

pub type_of_void : (t : Tok) (ts : List Tok) → t.bytes ≡ codes "void" → type_at (t ∷ ts) ≡ tail_at (Some ty.Void) ts
type_of_void t ts e = void_is t ts e

pub type_of_struct : (t : Tok) (ts : List Tok) → t.bytes ≡ codes "struct" → type_at (t ∷ ts) ≡ struct_tail ts
type_of_struct t ts e = struct_is t ts e
