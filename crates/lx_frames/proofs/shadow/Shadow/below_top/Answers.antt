use Rattle.std.proofs.Common.{◌≡◌, length, ap, ◌∙◌, arith}
use Rattle.lx_images.specs.Image.{below_top}
use Rattle.lx_frames.proofs.Reversed.{last_but_one}
use Rattle.lx_frames.proofs.shadow.Shadow.below_top.Goals as goal

pub returns : goal.returns
returns c =
    let all = c.self.inside.principals in
    let count : c.len-count.result ≡ length all.items = omega (arith, c.len-count.ensures, all.ok.0) in
    c.index.ensures
    ∙ last_but_one all.items c.len-count.result c.index.result.now count (omega (arith, c.if-count-lt2.false))
    ∙ ap (λ s. below_top s.principals) c.self.view_is
