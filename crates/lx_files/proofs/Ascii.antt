-- Texts of bytes below 128, and their parts.
use Rattle.std.proofs.Common.{◌≡◌, ℕ, zero, suc, ◌+◌, ◌<◌, ◌==◌, ◌&&◌, ◌||◌, Bool, true, false, cond, List, [], ◌∷◌, get_or, take, arith, ◌⊎◌, inl, inr, refl}
use Rattle.std.specs.Prelude.{filter, nat_le}
use Rattle.std.specs.List.{prefix_len, slice_split, onto_first}
use Rattle.std.specs.Str.{IsAscii, IsUtf8}
use Rattle.std.proofs.lemmas.Str.{IsUtf8-from_ascii}
use borrow.Author.Tests.{eqb-true, leb-true}
use Rattle.lx_script.specs.Lines.{is_allowed, front_of}

abbrev pub AreAscii : List ℕ → Type 0
AreAscii [] = Unit {0}
AreAscii (b ∷ bs) = (b < 128) × AreAscii bs

abbrev pub EachAscii : List (List ℕ) → Type 0
EachAscii [] = Unit {0}
EachAscii (w ∷ ws) = AreAscii w × EachAscii ws

pub ascii_at : (bs : List ℕ) → AreAscii bs → (i : ℕ) → get_or bs i 0 < 128
ascii_at [] h i = omega arith
ascii_at (b ∷ bs) h zero = h.0
ascii_at (b ∷ bs) h (suc i) = ascii_at bs h.1 i

-- by a name that code can cite
pub name_utf8 : (bs : List ℕ) → IsAscii bs → IsUtf8 bs
name_utf8 bs h = IsUtf8-from_ascii bs h

-- the text up to the first byte that may not stand in it

either_true : (a b c : Bool) → (a || (b && c)) ≡ true → (a ≡ true) ⊎ (c ≡ true)
either_true true b c is = inl refl
either_true false true c is = inr is
either_true false false c is = absurd (cc)

allowed_small : (b : ℕ) → is_allowed b ≡ true → b < 128
allowed_small b is = elim (either_true (b == 10) (nat_le 32 b) (nat_le b 126) is) [
  | inl feed ↦ omega (arith, eqb-true b 10 feed)
  | inr printable ↦ omega (arith, leb-true b 126 printable)
]

front_by : (b : ℕ) (bs : List ℕ) (n : ℕ) (test : Bool) → is_allowed b ≡ test → AreAscii (take n bs) → AreAscii (take (cond test (1 + n) 0) (b ∷ bs))
front_by b bs n true is h = let one : 1 + n ≡ suc n = omega arith in rw one (allowed_small b is, h)
front_by b bs n false is h = tt

pub front_ascii : (text : List ℕ) → AreAscii (front_of text)
front_ascii [] = tt
front_ascii (b ∷ bs) = front_by b bs (prefix_len is_allowed bs) (is_allowed b) refl (front_ascii bs)

-- the parts between separators

onto_ascii : (x : ℕ) (parts : List (List ℕ)) → x < 128 → EachAscii parts → EachAscii (onto_first x parts)
onto_ascii x [] h e = ((h, tt), tt)
onto_ascii x (p ∷ ps) h e = ((h, e.0), e.1)

split_by : (x : ℕ) (parts : List (List ℕ)) (test : Bool) → x < 128 → EachAscii parts → EachAscii (cond test ([] ∷ parts) (onto_first x parts))
split_by x parts true h e = (tt, e)
split_by x parts false h e = onto_ascii x parts h e

pub split_ascii : (p : ℕ → Bool) (xs : List ℕ) → AreAscii xs → EachAscii (slice_split p xs)
split_ascii p [] h = (tt, tt)
split_ascii p (x ∷ xs) h = split_by x (slice_split p xs) (p x) h.0 (split_ascii p xs h.1)

filter_by : (w : List ℕ) (ws : List (List ℕ)) (test : Bool) → AreAscii w → EachAscii ws → EachAscii (cond test (w ∷ ws) ws)
filter_by w ws true h e = (h, e)
filter_by w ws false h e = e

pub filter_ascii : (p : List ℕ → Bool) (ws : List (List ℕ)) → EachAscii ws → EachAscii (filter p ws)
filter_ascii p [] h = tt
filter_ascii p (w ∷ ws) h = filter_by w (filter p ws) (p w) h.0 (filter_ascii p ws h.1)
