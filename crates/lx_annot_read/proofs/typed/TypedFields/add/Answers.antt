use Rattle.std.proofs.Common.{◌∙◌, ap, refl, map, ℕ, List, Bool, ◌&&◌, nat_eq, bytes_eq}
use Rattle.std.specs.Borrow.{Bor}
use Rattle.lx_annot_read.specs.Typed.{is_place}
use Rattle.lx_annot_read.proofs.Places.{put_last}
use Rattle.lx_annot_read.proofs.typed.TypedFields.add.Goals as goal

abbrev seen : Bor (List ℕ) × ℕ → List ℕ × ℕ
seen place = (place.0.now, place.1)

abbrev same : Bor (List ℕ) × ℕ → Bor (List ℕ) × ℕ → Bool
same x y = bytes_eq x.0.now y.0.now && nat_eq x.1 y.1

pub returns-clause-ok : goal.returns-clause-ok
returns-clause-ok c =
    ap (map seen) c.in_ok-insert.ensures.keys
    ∙ put_last seen same (is_place c.args.name.now c.args.index) c.self.inside.places.keys (c.args.name, c.args.index) c.args.self.now c.self.view_is (λ x. refl) c.requires.absent
