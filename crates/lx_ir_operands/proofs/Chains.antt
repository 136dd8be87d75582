-- Rules of which the first says nothing that the grammar keeps.
use Rattle.std.proofs.Common.{List, ◌++◌, refl, sym, ap, ◌∙◌, append_assoc}
use Rattle.lx_ir_tokens.specs.declared.token.Tok.{Tok}
use Rattle.lx_ir_terms.specs.Reading.{Read, ◌>>=◌}
use Rattle.lx_ir_terms.specs.Grammar.{Part, ◌then◌}
use Rattle.lx_ir_terms.specs.Laws.{Finds}
use Rattle.lx_ir_terms.proofs.Parts.{bind_ok}

-- a rule that finds this part whatever it says, and a rule behind it
pub then_finds : {A B : Type 0} (read : List Tok → Read A) (g : A × List Tok → Read B) (p : Part) (q : B → Part) → Finds read (λ x. p) → ((x : A) → Finds (λ us. g (x, us)) q) → Finds (λ ts. read ts >>= g) (λ y. p then q y)
then_finds read g p q h k ts us y e =
    let a = bind_ok (read ts) g (y, us) e in
    let w = h ts a.0.1 a.0.0 a.1 in
    let v = k a.0.0 a.0.1 us y a.2 in
    (w.0 ++ v.0, (w.0, v.0, w.1, v.1, refl), w.2 ∙ (ap (λ r. w.0 ++ r) v.2 ∙ sym (append_assoc w.0 v.0 us)))
