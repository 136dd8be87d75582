-- The bounds on what it takes to see whether a slot is clean, and to note a writer.
use Rattle.std.specs.Prelude.{ℕ, zero, suc, ◌+◌, ◌-◌, ◌*◌, ◌/◌, Bool, false, nat_eq, ◌||◌, List, [], ◌∷◌, if◌then◌else◌}
use Rattle.lx_caps.specs.declared.Principal.{Principal}
use Rattle.lx_caps.specs.declared.Act.TheVariants.{Grant, Strip, Zero, Loan, Lend, Shut, ShutAll}
use Rattle.lx_caps.specs.History.{History, same_principal}
use Rattle.lx_caps.specs.Writers.{is_writer}

-- the test holds of some number below the bound
unfoldable pub some_below : ℕ → (ℕ → Bool) → Bool
some_below zero p = false
some_below (suc n) p = p n || some_below n p

abbrev pub is_among : Principal → List Principal → Bool
is_among q [] = false
is_among q (p ∷ ps) = same_principal q p || is_among q ps

-- these, and one more if it is not among them
abbrev pub and_one : Principal → List Principal → List Principal
and_one q others = if is_among q others then others else q ∷ others

-- how many of these pass
abbrev pub count_of : (Principal → Bool) → List Principal → ℕ
count_of p [] = 0
count_of p (q ∷ qs) = if p q then suc (count_of p qs) else count_of p qs

-- who was granted or lent something, each once
abbrev pub receivers : History → List Principal
receivers [] = []
receivers (Grant q c ∷ h) = and_one q (receivers h)
receivers (Strip c ∷ h) = receivers h
receivers (Zero at size ∷ h) = receivers h
receivers (Loan t ∷ h) = receivers h
receivers (Lend t q c ∷ h) = and_one q (receivers h)
receivers (Shut t n ∷ h) = receivers h
receivers (ShutAll t ∷ h) = receivers h

-- the principal is a writer of a byte of the part
abbrev pub writes_part_of : History → ℕ → Principal → Bool
writes_part_of h part q = some_below 64 (λ k. is_writer h (part * 64 + k) q)

-- the parts of 64 bytes that the slot's eight bytes lie in
abbrev pub touched : ℕ → List ℕ
touched slot = if nat_eq (slot / 64) ((slot + 7) / 64) then slot / 64 ∷ [] else slot / 64 ∷ (slot + 7) / 64 ∷ []

-- the pairs of a writer and one of these parts, where the writer is one of a byte of the part
abbrev pub pairs : History → List ℕ → ℕ
pairs h [] = 0
pairs h (part ∷ parts) = count_of (writes_part_of h part) (receivers h) + pairs h parts

-- two, and the pairs of a writer and a touched part: so two alone where no byte of a touched part has a writer
unfoldable pub look_bound : History → ℕ → ℕ
look_bound h slot = 2 + pairs h (touched slot)

-- how many parts of 64 bytes a range lies in, whoever has written there
unfoldable pub note_bound : ℕ → ℕ → ℕ
note_bound at size = if nat_eq size 0 then 0 else (at + size + 63) / 64 - at / 64
