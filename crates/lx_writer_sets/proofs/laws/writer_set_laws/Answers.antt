use Rattle.std.proofs.Common.{◌∷◌, ◌∙◌}
use Rattle.lx_caps.specs.declared.Cap.TheVariants.{Call, Ref}
use Rattle.lx_caps.specs.declared.Act.TheVariants.{Grant, Strip, Loan, Lend, Shut, ShutAll}
use Rattle.lx_caps.specs.History.{same_principal}
use Rattle.lx_caps.specs.Loans.{lends}
use Rattle.lx_caps.specs.Writers.{is_writer}
use Rattle.lx_writer_sets.proofs.Recording.{stays, none_lent}
use Rattle.lx_writer_sets.proofs.laws.writer_set_laws.Goals as goal
use Rattle.lx_caps.proofs.Tests.{no_more}

pub returns : goal.returns
returns c =
    let laws = c.history_laws.ensures in
    record {
      strip = λ sets h cap. stays sets.parts.lists h (Strip cap ∷ h) (laws.stripped h cap);
      loan = λ sets h t. stays sets.parts.lists h (Loan t ∷ h) (laws.opened h t);
      shut = λ sets h t n. stays sets.parts.lists h (Shut t n ∷ h) (laws.shut h t n);
      shut_all = λ sets h t. stays sets.parts.lists h (ShutAll t ∷ h) (laws.shut_all h t);
      grant_call = λ sets h to at. stays sets.parts.lists h (Grant to (Call at) ∷ h) (λ b q. laws.granted h to (Call at) b q ∙ no_more (same_principal q to) (is_writer h b q));
      grant_ref = λ sets h to ty at. stays sets.parts.lists h (Grant to (Ref ty at) ∷ h) (λ b q. laws.granted h to (Ref ty at) b q ∙ no_more (same_principal q to) (is_writer h b q));
      lend_call = λ sets h t to at lending. stays sets.parts.lists h (Lend t to (Call at) ∷ h) (λ b q. laws.lent h t to (Call at) b q ∙ none_lent (lends h t) (same_principal q to) (is_writer h b q));
      lend_ref = λ sets h t to ty at lending. stays sets.parts.lists h (Lend t to (Ref ty at) ∷ h) (λ b q. laws.lent h t to (Ref ty at) b q ∙ none_lent (lends h t) (same_principal q to) (is_writer h b q));
    }
