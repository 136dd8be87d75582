-- The names of structs that prototypes declare, and the numbers of their members.
use Rattle.std.proofs.Common.{◌≡◌, ℕ, suc, ◌<◌, ◌==◌, ◌&&◌, Bool, true, false, Some, List, [], ◌∷◌, ◌++◌, All, ◌⊎◌, inl, inr, refl, sym, ap, ◌∙◌, bytes_eq, arith}
use Rattle.std.specs.Prelude.{◌||◌, if◌then◌else◌}
use Rattle.std.specs.List.{list_any, list_all}
use Rattle.std.proofs.lemmas.Bool.{and_parts, or_left, and_from}
use Rattle.std.proofs.lemmas.List.Elements.{All-weaker}
use Rattle.std.proofs.lemmas.List.Folds.{list_any_none}
use Rattle.std.proofs.lemmas.Slice.Eq.{bytes_eq-Decides}
use Rattle.lx_words.specs.declared.token.TokenKind.TheVariants as kinds
use Rattle.lx_words.specs.declared.token.Lexeme.TheVariants as lexemes
use Rattle.lx_words.specs.Lexemes.{is_space, is_digit, is_word_start, is_word_byte, is_name_byte, is_line_byte, is_interface_mark, is_name, is_nil, when, lexeme_behind, other_lexeme}
use Rattle.lx_words.proofs.Lists.{any_front, any_last}
use Rattle.lx_words.proofs.Tests.{and_false}
use Rattle.lx_words.proofs.WholeLexemes.{when_is}
use Rattle.lx_annot.specs.declared.interface.Field.{Field}
use Rattle.lx_annot.specs.declared.interface.Interface.{Interface}
use Rattle.lx_annot_read.specs.Interfaces.{is_field, is_typed}
use Rattle.lx_annot_laws.specs.Says.{IsWord}
use Rattle.lx_annot_laws.specs.Sayable.{IsStructName}
use Rattle.lx_annot_laws.proofs.StructNames.{name_of_bytes}
use Rattle.lx_cproto.specs.Statements.{struct_type}
use Rattle.lx_annot_laws.proofs.PrototypeLawful.{same_struct, below_differs}

-- Names.

word_by : (a b c d e t1 t2 t3 t4 t5 t6 : Bool) → (if a then when t1 lexemes.Space else if b then when t2 lexemes.Comment else if c then when t3 (lexemes.Token kinds.Local) else if d then when t4 (lexemes.Token kinds.Number) else if e then when t5 (lexemes.Token kinds.Word) else when t6 (lexemes.Token kinds.Mark)) ≡ Some (lexemes.Token kinds.Word) → (e ≡ true) × (t5 ≡ true)
word_by true b c d e t1 t2 t3 t4 t5 t6 h = let k : lexemes.Space ≡ lexemes.Token kinds.Word = (when_is t1 lexemes.Space (lexemes.Token kinds.Word) h).1 in cc
word_by false true c d e t1 t2 t3 t4 t5 t6 h = let k : lexemes.Comment ≡ lexemes.Token kinds.Word = (when_is t2 lexemes.Comment (lexemes.Token kinds.Word) h).1 in cc
word_by false false true d e t1 t2 t3 t4 t5 t6 h = let k : lexemes.Token kinds.Local ≡ lexemes.Token kinds.Word = (when_is t3 (lexemes.Token kinds.Local) (lexemes.Token kinds.Word) h).1 in cc
word_by false false false true e t1 t2 t3 t4 t5 t6 h = let k : lexemes.Token kinds.Number ≡ lexemes.Token kinds.Word = (when_is t4 (lexemes.Token kinds.Number) (lexemes.Token kinds.Word) h).1 in cc
word_by false false false false true t1 t2 t3 t4 t5 t6 h = (refl, (when_is t5 (lexemes.Token kinds.Word) (lexemes.Token kinds.Word) h).0)
word_by false false false false false t1 t2 t3 t4 t5 t6 h = let k : lexemes.Token kinds.Mark ≡ lexemes.Token kinds.Word = (when_is t6 (lexemes.Token kinds.Mark) (lexemes.Token kinds.Word) h).1 in cc

word_parts : (b : ℕ) (bs : List ℕ) → IsWord (b ∷ bs) → (is_word_start b ≡ true) × (list_all is_word_byte bs ≡ true)
unfolding lexeme_behind other_lexeme
word_parts b bs h = word_by (is_space b) (b == 35) (b == 37) (is_digit b) (is_word_start b) (is_nil bs) (list_all is_line_byte bs) (is_name bs) (list_all is_digit bs) (list_all is_word_byte bs) (is_interface_mark b bs) h

name_byte : (b : ℕ) → is_word_byte b ≡ true → is_name_byte b ≡ true
name_byte b h = or_left (is_word_byte b) (b == 45) h

name_bytes : (bs : List ℕ) → list_all is_word_byte bs ≡ true → list_all is_name_byte bs ≡ true
name_bytes [] h = refl
name_bytes (b ∷ bs) h =
    let k = and_parts (is_word_byte b) (list_all is_word_byte bs) h in
    and_from (is_name_byte b) (list_all is_name_byte bs) (name_byte b k.0) (name_bytes bs k.1)

word_bytes : (name : List ℕ) → IsWord name → list_all is_name_byte name ≡ true
word_bytes [] h = cc
word_bytes (b ∷ bs) h =
    let k = word_parts b bs h in
    and_from (is_name_byte b) (list_all is_name_byte bs) (name_byte b (or_left (is_word_start b) (is_digit b) k.0)) (name_bytes bs k.1)

-- the type of a struct has a name of such bytes
pub struct_said : (name : List ℕ) → IsWord name → IsStructName (struct_type name)
struct_said name h = name_of_bytes 115 (116 ∷ 114 ∷ 117 ∷ 99 ∷ 116 ∷ 46 ∷ name) (word_bytes name h)

-- Fields of structs.

-- a field of one of these structs
abbrev pub IsOf : List (List ℕ) → Field → Type 0
IsOf known f = list_any (λ z. bytes_eq f.name (struct_type z)) known ≡ true

-- or of this one, with a number below the next
abbrev pub IsOfThese : List (List ℕ) → List ℕ → ℕ → Field → Type 0
IsOfThese known s n f = IsOf known f ⊎ ((f.name ≡ struct_type s) × (f.index < n))

not_old : (known : List (List ℕ)) (s : List ℕ) (n : ℕ) (f : Field) (b : Bool) → list_any (bytes_eq s) known ≡ false → bytes_eq f.name (struct_type s) ≡ b → IsOf known f → (f.index == n) && b ≡ false
not_old known s n f false fresh h is = and_false (f.index == n)
not_old known s n f true fresh h is =
    let same : f.name ≡ struct_type s = (bytes_eq-Decides f.name (struct_type s)).0 h in
    let there : list_any (bytes_eq s) known ≡ true = sym (same_struct known s) ∙ ap (λ y. list_any (λ z. bytes_eq y (struct_type z)) known) (sym same) ∙ is in
    cc

not_there : (known : List (List ℕ)) (s : List ℕ) (n : ℕ) (f : Field) → list_any (bytes_eq s) known ≡ false → IsOfThese known s n f → is_field (struct_type s) n f ≡ false
not_there known s n f fresh (inl is) = not_old known s n f (bytes_eq f.name (struct_type s)) fresh refl is
not_there known s n f fresh (inr (same, lt)) = below_differs f.index n (bytes_eq f.name (struct_type s)) lt

-- the next number of a struct that is new is typed in no field
pub no_field : (known : List (List ℕ)) (s : List ℕ) (n : ℕ) (i : Interface) → list_any (bytes_eq s) known ≡ false → All (IsOfThese known s n) i.fields → is_typed i (struct_type s) n ≡ false
no_field known s n i fresh are = list_any_none (is_field (struct_type s) n) i.fields (All-weaker (IsOfThese known s n) (λ f. is_field (struct_type s) n f ≡ false) (λ f. not_there known s n f fresh) i.fields are)

-- the same fields where a member more stands, and before and behind a struct
pub later : (known : List (List ℕ)) (s : List ℕ) (n : ℕ) (f : Field) → IsOfThese known s n f → IsOfThese known s (suc n) f
later known s n f (inl is) = inl is
later known s n f (inr (same, lt)) = inr (same, omega (arith, lt))

pub old_or_last : (known : List (List ℕ)) (s : List ℕ) (n : ℕ) (f : Field) → IsOfThese known s n f → IsOf (known ++ s ∷ []) f
old_or_last known s n f (inl is) = any_front (λ z. bytes_eq f.name (struct_type z)) known (s ∷ []) is
old_or_last known s n f (inr (same, lt)) = any_last (λ z. bytes_eq f.name (struct_type z)) known s ((bytes_eq-Decides f.name (struct_type s)).1 same)
