use Rattle.std.proofs.Common.{◌≡◌, sym, ap, ◌∙◌, arith}
use Rattle.calendar.specs.Dates.{date_of, month_of, first_counted, first_day}
use Rattle.calendar.specs.declared.date.CalendarMonth.{CalendarMonth}
use Rattle.calendar.specs.declared.date.Date.{Date}
use Rattle.calendar.proofs.Numbering.{dated_is}
use Rattle.metering.specs.Sums.{Sums}
use Rattle.tally.proofs.Opening.{of_day, at_first, first_counted_lem}
use Rattle.tally.proofs.progress.OpenMonth.start.Goals as goal

pub invariant_of-result : goal.invariant_of-result
invariant_of-result c =
    let n = c.args.day in
    let d = dated_is n c.in_ok-date.date (sym c.date_of.ensures ∙ c.in_ok-date.was) in
    let is = c.calendar_month.ensures ∙ ap month_of (sym d.1) in
    let one : (date_of n).day ≡ 1 = ap (λ (x : Date). x.day) d.1 ∙ c.if-date-ne1.false in
    let first = at_first n d.0 one in
    let same = ap (λ (m : CalendarMonth). first_day m.year m.month) is in
    let begun = ap first_counted is ∙ first_counted_lem _ (of_day n d.0) in
    let zero = ap (λ (t : Sums). t.days) c.none.ensures in
    record {
      begun = begun;
      tied = omega (arith, first, same, zero);
      inside = omega (arith, zero);
      ended = d.0;
    }
