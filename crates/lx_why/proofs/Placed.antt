-- Acts that lie in memory, read from either end.
use Rattle.std.proofs.Common.{◌≡◌, true, subst, List, [], ◌∷◌, ◌++◌, reverse}
use Rattle.std.specs.Prelude.{All}
use Rattle.std.proofs.lemmas.List.{reverse-append}
use Rattle.std.proofs.lemmas.List.Elements.{All-cons, All-nil}
use Rattle.lx_caps.specs.declared.Act.{Act}
use Rattle.lx_caps.specs.Placed.{AllPlaced, is_placed_act}

-- the last act and those before it
parts : (acts : List Act) (last : Act) → AllPlaced (acts ++ last ∷ []) → AllPlaced acts × (is_placed_act last ≡ true)
parts [] last all = (tt, all.0)
parts (act ∷ acts) last all =
    let rest = parts acts last all.1 in
    ((all.0, rest.0), rest.1)

pub all_placed : (acts : List Act) → AllPlaced (reverse acts) → All (λ (a : Act). is_placed_act a ≡ true) acts
all_placed [] all = All-nil (λ (a : Act). is_placed_act a ≡ true)
all_placed (act ∷ acts) all =
    let both = parts (reverse acts) act (subst AllPlaced (reverse-append (act ∷ []) acts) all) in
    All-cons (λ (a : Act). is_placed_act a ≡ true) act acts both.1 (all_placed acts both.0)
