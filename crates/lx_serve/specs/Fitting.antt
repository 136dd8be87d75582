-- What a lawful caller asks may be served.
use Rattle.std.proofs.Common.{◌≡◌, ℕ, true, refl, List, lt-ltb}
use Rattle.std.specs.Prelude.{◌&&◌, nat_le, nat_lt}
use Rattle.std.proofs.lemmas.Bool.{le-leb, and_from}
use Rattle.lx_words.specs.Word.{Word}
use Rattle.lx_caps.specs.Regions.{stack_start, stack_end}
use Rattle.lx_caps.specs.declared.Principal.{Principal}
use Rattle.lx_model.specs.declared.program.Program.{Program}
use Rattle.lx_model.specs.declared.request.Request.{Request}
use Rattle.lx_model.specs.declared.request.Way.{Way}
use Rattle.lx_model.specs.declared.request.Way.TheVariants as way
use Rattle.lx_model.specs.declared.request.What.{What}
use Rattle.lx_model.specs.declared.request.What.TheVariants as what
use Rattle.lx_model.specs.Fits.{Fits, FitsWay, FitsWhat}
use Rattle.lx_run_laws.specs.Servable.{is_servable, is_servable_way, is_servable_what}

fitting_way : (p : Program) (w : Way) (args : List Word) → FitsWay p w args → is_servable_way p w ≡ true
fitting_way p (way.Script n) args fits = refl
fitting_way p (way.Direct n) args fits = fits.0
fitting_way p (way.Indirect a) args fits = refl
fitting_way p (way.Slot slot ty) args fits = refl

fitting_what : (p : Program) (t : ℕ) (who : Principal) (w : What) → FitsWhat p t who w → is_servable_what p t w ≡ true
fitting_what p t who (what.Load at width) fits = refl
fitting_what p t who (what.Store at v) fits = refl
fitting_what p t who (what.Copy to from len) fits = refl
fitting_what p t who (what.Fill to byte len) fits = refl
fitting_what p t who (what.Alloca at size) fits = le-leb (stack_start t) at fits.0
fitting_what p t who (what.Return low high) fits =
    and_from (nat_le (stack_start t) low) (nat_le low high && nat_le high (stack_end t)) (le-leb (stack_start t) low fits.0)
    (and_from (nat_le low high) (nat_le high (stack_end t)) (le-leb low high fits.1) (le-leb high (stack_end t) fits.2))
fitting_what p t who (what.Enter w args) fits = fitting_way p w args fits
fitting_what p t who (what.Perform n post k env source dest) fits = refl
fitting_what p t who (what.Native k args) fits = refl
fitting_what p t who (what.Finish o) fits = refl

pub fitting_servable : (p : Program) (t : ℕ) (r : Request) → Fits p t r → is_servable p t r ≡ true
fitting_servable p t r fits = and_from (nat_lt t 16) (is_servable_what p t r.what) (lt-ltb t 16 fits.0) (fitting_what p t r.who r.what fits.2)
