-- The image is taken apart, and each row is computed.
use Rattle.std.proofs.Common.{◌≡◌, true, false, inl, refl}
use Rattle.lx_generated_laws.proofs.images.worked_wrappers.Goals as goal

false_true : {A : Type 0} → false ≡ true → A
false_true e = cc

pub returns : goal.returns
returns c = record {
  image = record { plain = record { lines = refl; names = refl }; agrees = refl; types = refl; globals = refl; functions = (record { name = refl; params = refl; locals = refl; ret = refl; body = tt }, (record { name = refl; params = refl; locals = refl; ret = refl; body = (refl, (_, inl refl, (_, inl refl, refl)), tt) }, refl)); wrappers = refl };
  made = record { types = refl; globals = refl; functions = refl; wrappers = refl };
  erased = refl;
  right = refl;
  called = refl;
  mentioned = refl;
  missing = refl;
  other_head = refl;
  swapped = refl;
  memset = λ l. false_true l.functions;
}
