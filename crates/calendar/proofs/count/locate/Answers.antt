-- Each place holds the day or leaves it to the next.
use Rattle.std.proofs.Common.{◌-◌, ◌+◌, sym, ◌∙◌, ap, arith}
use Rattle.calendar.specs.Dates.{locate}
use Rattle.calendar.proofs.Counting.{locate_here, locate_on, locate_end}
use Rattle.calendar.proofs.count.locate.Goals as goal

pub returns-then-rest-length-clause-value : goal.returns-then-rest-length-clause-value
returns-then-rest-length-clause-value g c =
    let w = g.P.Places.length c.args.places.now in
    let h = locate_here w c.args.last c.loop-place.place c.loop-place.rest c.loop-place-test.true (omega (arith, c.if-rest-length.true, c.length-length.ensures)) in
    sym (c.loop-place.invariant.0 ∙ h)

pub loop-place-preserved : goal.loop-place-preserved
loop-place-preserved g c =
    let w = g.P.Places.length c.args.places.now in
    let p = c.loop-place.place in
    let h = locate_on w c.args.last p c.loop-place.rest c.loop-place-test.true (omega (arith, c.if-rest-length.false, c.length-length.ensures)) in
    let e = ap (λ x. locate w (c.args.last - (p + 1)) (p + 1) (c.loop-place.rest - x)) (sym c.length-length.ensures) in
    (c.loop-place.invariant.0 ∙ h ∙ e, omega (arith, c.loop-place.invariant.1))

pub returns-clause-value : goal.returns-clause-value
returns-clause-value g c =
    let w = g.P.Places.length c.args.places.now in
    let e = c.loop-place.auto.place-end c.requires in
    let h = locate_end w c.args.last c.loop-place.place c.loop-place.rest (omega (arith, e, c.loop-place-test.false)) in
    sym (c.loop-place.invariant.0 ∙ h)
