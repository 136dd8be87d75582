-- Lemmas on globals that are placed one behind another.
use Rattle.std.proofs.Common.{◌≡◌, ℕ, zero, suc, ◌+◌, ◌-◌, ◌*◌, ◌/◌, ◌<◌, ◌≤◌, Bool, true, false, ◌&&◌, nat_le, Some, List, [], ◌∷◌, ◌++◌, length, get_or, drop, refl, ap, sym, subst, ◌∙◌, append_assoc, arith}
use Rattle.std.specs.List.{list_all}
use Rattle.std.specs.Prelude.{All, IsTrue}
use Rattle.std.proofs.lemmas.List.{drop_all, append-nil}
use Rattle.std.proofs.lemmas.Bool.Decides.{nat_tests}
use Rattle.lx_words.proofs.Lists.{rest_at, goes_on, ends}
use Rattle.lx_ir.specs.declared.types.NamedType.{NamedType}
use Rattle.lx_ir.specs.declared.module.GlobalVar.{GlobalVar}
use Rattle.lx_ir.specs.declared.module.Module.{Module}
use Rattle.lx_ir.specs.IrType.{IrType}
use Rattle.lx_ir.specs.Layout.{size_of, is_lawful_type, is_type_within, names_struct, parts_of}
use Rattle.lx_model.specs.declared.program.ProgramModule.{ProgramModule}
use Rattle.lx_model.specs.declared.program.ProgramGlobal.{ProgramGlobal}
use Rattle.lx_model.specs.Program.{Home}
use Rattle.lx_link_texts.specs.Placing.{end_behind, end_of, global_size, last_end, module_places, modules_end, place, places_from, start_behind}

-- sizes

within : (a b : Bool) (n : ℕ) → (a && nat_le n 4294967296 && b) ≡ true → n ≤ 4294967296
within a b n h = grind (arith, nat_tests)

within_depth : (types : List NamedType) (depth : ℕ) (t : IrType) → is_type_within types (suc depth) t ≡ true → size_of types t ≤ 4294967296
within_depth types depth t h = within (names_struct types t) (list_all (is_type_within types depth) (parts_of types t)) (size_of types t) h

pub size_within : (types : List NamedType) (t : IrType) → is_lawful_type types t ≡ true → size_of types t ≤ 4294967296
size_within types t h = within_depth types 63 t h

-- one global more

pub places_step : (types : List NamedType) (home : Home) (gs : List GlobalVar) (i : ℕ) (g : GlobalVar) (end next size : ℕ) (old new all : List ProgramGlobal) → i < length gs → g ≡ get_or gs i g
    → size ≡ global_size types g → next ≡ start_behind end + size → old ++ places_from types home i end (drop i gs) ≡ all
    → new ≡ old ++ place home i (start_behind end) ∷ [] → new ++ places_from types home (i + 1) next (drop (i + 1) gs) ≡ all
places_step types home gs i g end next size old new all h e s n k w =
    let at : end_of types end g ≡ next = ap (λ z. start_behind end + z) (sym s) ∙ sym n in
    let rest : places_from types home i end (drop i gs) ≡ (place home i (start_behind end) ∷ []) ++ places_from types home (i + 1) next (drop (i + 1) gs) =
    ap (places_from types home i end) (rest_at gs i g h e) ∙ ap (λ z. place home i (start_behind end) ∷ places_from types home (i + 1) z (drop (i + 1) gs)) at in
    goes_on old new (place home i (start_behind end) ∷ []) (places_from types home i end (drop i gs)) (places_from types home (i + 1) next (drop (i + 1) gs)) all k rest w

pub places_end : (types : List NamedType) (home : Home) (gs : List GlobalVar) (i end : ℕ) (old all : List ProgramGlobal) → length gs ≤ i → old ++ places_from types home i end (drop i gs) ≡ all → old ≡ all
places_end types home gs i end old all h k = ends old (places_from types home i end (drop i gs)) all k (ap (places_from types home i end) (drop_all i gs h))

-- where they end

pub end_step : (types : List NamedType) (gs : List GlobalVar) (i : ℕ) (g : GlobalVar) (end next size all : ℕ) → i < length gs → g ≡ get_or gs i g
    → size ≡ global_size types g → next ≡ start_behind end + size → end_behind types end (drop i gs) ≡ all → end_behind types next (drop (i + 1) gs) ≡ all
end_step types gs i g end next size all h e s n k =
    let at : end_of types end g ≡ next = ap (λ z. start_behind end + z) (sym s) ∙ sym n in
    ap (λ z. end_behind types z (drop (i + 1) gs)) (sym at) ∙ sym (ap (end_behind types end) (rest_at gs i g h e)) ∙ k

pub end_all : (types : List NamedType) (gs : List GlobalVar) (i end all : ℕ) → length gs ≤ i → end_behind types end (drop i gs) ≡ all → end ≡ all
end_all types gs i end all h k = sym (ap (end_behind types end) (drop_all i gs h)) ∙ k

-- no end lies before one that came earlier

pub behind : (end : ℕ) → end ≤ start_behind end
behind end = omega arith

pub farther : (types : List NamedType) (end : ℕ) (gs : List GlobalVar) → end ≤ end_behind types end gs
farther types end [] = omega arith
farther types end (g ∷ gs) =
    let a = behind end in
    let b : start_behind end ≤ end_of types end g = omega arith in
    let c = farther types (end_of types end g) gs in
    omega (arith, a, b, c)

pub farther_modules : (end : ℕ) (ms : List ProgramModule) → end ≤ modules_end end ms
farther_modules end [] = omega arith
farther_modules end (m ∷ ms) =
    let a = farther m.«module».types end m.«module».globals in
    let b = farther_modules (end_behind m.«module».types end m.«module».globals) ms in
    omega (arith, a, b)

-- what is past the region stays past it
pub past_step : (types : List NamedType) (gs : List GlobalVar) (i : ℕ) (g : GlobalVar) (end size all : ℕ) → i < length gs → g ≡ get_or gs i g
    → size ≡ global_size types g → end_behind types end (drop i gs) ≡ all → last_end < start_behind end + size → last_end < all
past_step types gs i g end size all h d s k p =
    let next = end_step types gs i g end (start_behind end + size) size all h d s refl k in
    let far = farther types (start_behind end + size) (drop (i + 1) gs) in
    omega (arith, far, next, p)

-- where the last end is within the region, those before it are
pub next_within : (types : List NamedType) (gs : List GlobalVar) (i : ℕ) (g : GlobalVar) (end next size all : ℕ) → i < length gs → g ≡ get_or gs i g
    → size ≡ global_size types g → next ≡ start_behind end + size → end_behind types end (drop i gs) ≡ all → all ≤ last_end → next ≤ last_end
next_within types gs i g end next size all h d s n k fits =
    let last = end_step types gs i g end next size all h d s n k in
    let far = farther types next (drop (i + 1) gs) in
    omega (arith, far, last, fits)

-- one module more

pub module_places_step : (ms : List ProgramModule) (i : ℕ) (m : ProgramModule) (end next : ℕ) (old new all : List ProgramGlobal) → i < length ms → m ≡ get_or ms i m
    → next ≡ end_behind m.«module».types end m.«module».globals → old ++ module_places i end (drop i ms) ≡ all
    → new ≡ old ++ places_from m.«module».types (Some i) 0 end m.«module».globals → new ++ module_places (i + 1) next (drop (i + 1) ms) ≡ all
module_places_step ms i m end next old new all h e n k w =
    let piece = places_from m.«module».types (Some i) 0 end m.«module».globals in
    let rest : module_places i end (drop i ms) ≡ piece ++ module_places (i + 1) next (drop (i + 1) ms) =
    ap (module_places i end) (rest_at ms i m h e) ∙ ap (λ z. piece ++ module_places (i + 1) z (drop (i + 1) ms)) (sym n) in
    goes_on old new piece (module_places i end (drop i ms)) (module_places (i + 1) next (drop (i + 1) ms)) all k rest w

pub module_places_end : (ms : List ProgramModule) (i end : ℕ) (old all : List ProgramGlobal) → length ms ≤ i → old ++ module_places i end (drop i ms) ≡ all → old ≡ all
module_places_end ms i end old all h k = ends old (module_places i end (drop i ms)) all k (ap (module_places i end) (drop_all i ms h))

pub modules_end_step : (ms : List ProgramModule) (i : ℕ) (m : ProgramModule) (end next all : ℕ) → i < length ms → m ≡ get_or ms i m
    → next ≡ end_behind m.«module».types end m.«module».globals → modules_end end (drop i ms) ≡ all → modules_end next (drop (i + 1) ms) ≡ all
modules_end_step ms i m end next all h e n k =
    ap (λ z. modules_end z (drop (i + 1) ms)) n ∙ sym (ap (modules_end end) (rest_at ms i m h e)) ∙ k

pub modules_end_all : (ms : List ProgramModule) (i end all : ℕ) → length ms ≤ i → modules_end end (drop i ms) ≡ all → end ≡ all
modules_end_all ms i end all h k = sym (ap (modules_end end) (drop_all i ms h)) ∙ k

pub past_modules : (ms : List ProgramModule) (i : ℕ) (m : ProgramModule) (end all : ℕ) → i < length ms → m ≡ get_or ms i m
    → modules_end end (drop i ms) ≡ all → last_end < end_behind m.«module».types end m.«module».globals → last_end < all
past_modules ms i m end all h d k p =
    let next = modules_end_step ms i m end (end_behind m.«module».types end m.«module».globals) all h d refl k in
    let far = farther_modules (end_behind m.«module».types end m.«module».globals) (drop (i + 1) ms) in
    omega (arith, far, next, p)

-- what is past the region behind the kernel
pub past_kernel : (ms : List ProgramModule) (end : ℕ) → last_end < end → last_end < modules_end end ms
past_kernel ms end p = let far = farther_modules end ms in omega (arith, far, p)

pub module_within : (ms : List ProgramModule) (i : ℕ) (m : ProgramModule) (end all : ℕ) → i < length ms → m ≡ get_or ms i m
    → modules_end end (drop i ms) ≡ all → all ≤ last_end → end_behind m.«module».types end m.«module».globals ≤ last_end
module_within ms i m end all h d k fits =
    let next = modules_end_step ms i m end (end_behind m.«module».types end m.«module».globals) all h d refl k in
    let far = farther_modules (end_behind m.«module».types end m.«module».globals) (drop (i + 1) ms) in
    omega (arith, far, next, fits)

pub kernel_within : (ms : List ProgramModule) (end : ℕ) → modules_end end ms ≤ last_end → end ≤ last_end
kernel_within ms end fits = let far = farther_modules end ms in omega (arith, far, fits)
