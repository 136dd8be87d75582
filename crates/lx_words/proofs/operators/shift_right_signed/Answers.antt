use Rattle.std.proofs.Common.{◌≡◌, ◌/◌, ◌^◌, ◌<◌, negsuc, sym, ap, ◌∙◌, subst}
use Rattle.lx_words.specs.Width.{modulus}
use Rattle.lx_words.specs.Word.{Word, word, word_of_int}
use Rattle.lx_words.proofs.Shifts.{shifts_negative, shifts_positive}
use Rattle.lx_words.proofs.operators.shift_right_signed.Goals as goal

pub returns-then-is_negative : goal.returns-then-is_negative
returns-then-is_negative c =
    let a = c.args.a in
    let k = c.below_minus_one.result in
    let wide : c.a.inside.width ≡ a.width = ap (λ (w : Word). w.width) c.a.view_is in
    let bound : a.bits < modulus a.width = subst (λ (w : Word). w.bits < modulus w.width) c.a.view_is c.a.invariant in
    c.cut_negative.ensures
    ∙ ap (λ w. word_of_int w (negsuc (k / 2 ^ c.min.result))) wide
    ∙ ap (λ j. word_of_int a.width (negsuc (k / 2 ^ j))) c.min.ensures
    ∙ shifts_negative a.width a.bits k c.args.by bound (sym c.if-is_negative.ensures) c.below_minus_one.ensures

pub returns-else-is_negative : goal.returns-else-is_negative
returns-else-is_negative c =
    let a = c.args.a in
    let view = c.a-else-is_negative.view_is in
    let m = c.min-else-is_negative.result in
    c.cut.ensures
    ∙ ap (λ (w : Word). word w.width (w.bits / 2 ^ m)) view
    ∙ ap (λ j. word a.width (a.bits / 2 ^ j)) c.min-else-is_negative.ensures
    ∙ shifts_positive a.width a.bits c.args.by (sym c.if-is_negative.ensures)
