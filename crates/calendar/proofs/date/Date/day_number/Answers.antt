-- A month's first day with a number is low enough for a day more of the month.
use Rattle.std.proofs.Common.{◌+◌, ◌-◌, ◌≤◌, arith, rules}
use Rattle.std.proofs.lemmas.Bool.Decides.{nat_tests}
use Rattle.calendar.specs.Dates.{first_counted, first_day, month_of}
use Rattle.calendar.proofs.Choosing.{given}
use Rattle.calendar.proofs.Dating.{years_low, months_low}
use Rattle.calendar.proofs.date.Date.day_number.Goals as goal

pub overflow_add-number : goal.overflow_add-number
overflow_add-number c =
    let d = c.args.self.now in
    let t = given (first_counted (month_of d)) (first_day d.year d.month) c.in_ok-first.first (search rules) in
    let so = t.so in
    let y = years_low d.year (grind (arith, nat_tests)) in
    let m = months_low d.year d.month (grind (arith, nat_tests)) in
    let low : c.in_ok-first.first + (d.day - 1) ≤ 40000 = omega (arith, t.same, y, m, c.month_length.ensures.bound, c.if-self-month_length.false) in
    search rules
