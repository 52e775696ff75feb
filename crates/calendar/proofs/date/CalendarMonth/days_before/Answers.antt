-- The days of the years before the month's, and of the months before it.
use Rattle.std.proofs.Common.{arith, rules}
use Rattle.calendar.proofs.Dating.{years_low, months_low}
use Rattle.calendar.proofs.date.CalendarMonth.days_before.Goals as goal

pub days_before-years-requires-clause-low : goal.days_before-years-requires-clause-low
days_before-years-requires-clause-low c = years_low c.args.self.now.year c.requires.to_2100

pub days_before-requires-clause-low : goal.days_before-requires-clause-low
days_before-requires-clause-low c =
    let m = months_low c.args.self.now.year c.args.self.now.month c.requires.to_december in omega (arith, m)

pub returns-clause-bound : goal.returns-clause-bound
returns-clause-bound c =
    let y = years_low c.args.self.now.year c.requires.to_2100 in
    let m = months_low c.args.self.now.year c.args.self.now.month c.requires.to_december in
    omega (arith, y, m, c.days_before-years.ensures, c.days_before.ensures)

pub overflow_add-result : goal.overflow_add-result
overflow_add-result c = let low = returns-clause-bound c in search rules
