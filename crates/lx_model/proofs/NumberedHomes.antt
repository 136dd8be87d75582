-- A number of a function tells its home.
use Rattle.std.proofs.Common.{◌≡◌, ℕ, Some, get_or, ap, ◌∙◌}
use Rattle.std.proofs.lemmas.List.Quantifiers.{position-Some}
use Rattle.std.proofs.lemmas.Option.{slice_get-get_or}
use Rattle.lx_model.specs.declared.program.Program.{Program}
use Rattle.lx_model.specs.declared.program.ProgramFunction.TheVariants.{Native}
use Rattle.lx_model.specs.Program.{Home, home_of_entry, home_or_kernel, is_home, is_entry, number_of}
use Rattle.lx_model.proofs.Homes.{entry_in, home_is}

pub numbered_in : (p : Program) (home : Home) (f n : ℕ) → number_of p home f ≡ Some n → home_or_kernel p n ≡ home
numbered_in p home f n is =
    let there = position-Some (is_entry home f) p.functions n (Native 0) is in
    home_is p home n (ap (λ e. is_home home (home_of_entry e)) (slice_get-get_or p.functions n (Native 0) there.0)
    ∙ entry_in home f (get_or p.functions n (Native 0)) there.1)
