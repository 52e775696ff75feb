-- The days of the places add up to their total.
use Rattle.std.proofs.Common.{◌+◌, ◌-◌, ◌≤◌, arith, rules}
use Rattle.calendar.proofs.Counting.{total_more, total_grows}
use Rattle.calendar.proofs.count.days_before.Goals as goal

pub overflow_add-days : goal.overflow_add-days
overflow_add-days g c =
    let w = g.P.Places.length c.args.places.now in
    let p = c.loop-earlier.earlier in
    let m = total_more w c.args.first p c.loop-earlier.auto.earlier in
    let f = total_grows w c.args.first (p + 1 - c.args.first) (c.args.place - c.args.first) (omega (arith, c.loop-earlier-test.true)) in
    let low : c.loop-earlier.days + c.length-days.result ≤ 36525 = omega (arith, m, f, c.loop-earlier.invariant, c.length-days.ensures, c.requires.low) in
    search rules

pub loop-earlier-preserved : goal.loop-earlier-preserved
loop-earlier-preserved g c =
    let m = total_more (g.P.Places.length c.args.places.now) c.args.first c.loop-earlier.earlier c.loop-earlier.auto.earlier in
    omega (arith, m, c.loop-earlier.invariant, c.length-days.ensures)
