-- A call or a reference has no bytes.
use Rattle.std.proofs.Common.{◌∷◌, subst, sym, inl, inr, arith}
use Rattle.lx_caps.specs.declared.Cap.{Cap}
use Rattle.lx_caps.specs.declared.Act.TheVariants.{Grant, Lend}
use Rattle.lx_writer_sets.specs.Stands.{StandsForWriters}
use Rattle.lx_writer_sets.proofs.noted.note_cap.Goals as goal

pub returns-in-Call : goal.returns-in-Call
returns-in-Call c =
    let laws = c.writer_set_laws.ensures in
    record {
      appends = λ h stands. elim c.in-Call.is [
        | inl call ↦ subst (λ (cap : Cap). StandsForWriters c.args.sets.now (Grant c.args.to cap ∷ h)) (sym call.1) (laws.grant_call c.args.sets.now h c.args.to call.0 stands)
        | inr ref ↦ subst (λ (cap : Cap). StandsForWriters c.args.sets.now (Grant c.args.to cap ∷ h)) (sym ref.2) (laws.grant_ref c.args.sets.now h c.args.to ref.0 ref.1 stands)
      ];
      lends = λ h t stands lending. elim c.in-Call.is [
        | inl call ↦ subst (λ (cap : Cap). StandsForWriters c.args.sets.now (Lend t c.args.to cap ∷ h)) (sym call.1) (laws.lend_call c.args.sets.now h t c.args.to call.0 lending stands)
        | inr ref ↦ subst (λ (cap : Cap). StandsForWriters c.args.sets.now (Lend t c.args.to cap ∷ h)) (sym ref.2) (laws.lend_ref c.args.sets.now h t c.args.to ref.0 ref.1 lending stands)
      ];
      takes = omega arith;
    }
