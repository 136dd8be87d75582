-- Each text is taken apart, or computed.
use Rattle.std.proofs.Common.{inl, inr, refl}
use Rattle.lx_generated_laws.proofs.images.worked_images.Goals as goal

pub returns : goal.returns
returns c = record {
  stored = record { plain = record { lines = refl; names = refl }; agrees = refl; types = refl; globals = refl; functions = (record { name = refl; params = refl; locals = refl; ret = refl; body = (refl, (_, inl refl, (_, inl refl, (_, inl refl, refl))), tt) }, refl); wrappers = refl };
  guarded = record { plain = record { lines = refl; names = refl }; agrees = refl; types = refl; globals = refl; functions = (record { name = refl; params = refl; locals = refl; ret = refl; body = (refl, (_, inl refl, (_, inl refl, (_, inl refl, (_, inl refl, refl)))), tt) }, refl); wrappers = refl };
  spared = record { plain = record { lines = refl; names = refl }; agrees = refl; types = refl; globals = refl; functions = (record { name = refl; params = refl; locals = refl; ret = refl; body = (refl, (_, inl refl, (_, inr (refl, refl), (_, inl refl, (_, inl refl, refl)))), tt) }, refl); wrappers = refl };
  hooked = record { plain = record { lines = refl; names = refl }; agrees = refl; types = refl; globals = refl; functions = (record { name = refl; params = refl; locals = refl; ret = refl; body = tt }, (record { name = refl; params = refl; locals = refl; ret = refl; body = (refl, (_, inl refl, (_, inl refl, (_, inl refl, refl))), tt) }, (record { name = refl; params = refl; locals = refl; ret = refl; body = (refl, (_, inl refl, (_, inl refl, (_, inl refl, refl))), tt) }, refl))); wrappers = refl };
  made_stored = record { types = refl; globals = refl; functions = refl; wrappers = refl };
  made_hooked = record { types = refl; globals = refl; functions = refl; wrappers = refl };
  made_spared = record { types = refl; globals = refl; functions = refl; wrappers = refl };
  made_guarded = record { types = refl; globals = refl; functions = refl; wrappers = refl };
  erased_stored = refl;
  erased_hooked = refl;
  erased_guarded = refl;
}
