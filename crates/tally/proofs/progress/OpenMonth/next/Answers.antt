use Rattle.std.proofs.Common.{◌≡◌, true, sym, ap, ◌∙◌, arith}
use Rattle.calendar.specs.Dates.{first_day, first_counted}
use Rattle.calendar.specs.declared.date.CalendarMonth.{CalendarMonth}
use Rattle.tally.specs.Progress.{progress_of, is_full}
use Rattle.tally.proofs.Closing.{full_days}
use Rattle.metering.specs.Sums.{Sums}
use Rattle.tally.proofs.Opening.{after, adjoins, first_counted_lem}
use Rattle.tally.proofs.progress.OpenMonth.next.Goals as goal

pub invariant_of-result : goal.invariant_of-result
invariant_of-result c =
    let o = c.args.self.now in
    let full : is_full (progress_of o) ≡ true = sym c.is_full.ensures ∙ c.if-not-is_full.false in
    let d = full_days (progress_of o) full in
    let is = c.month_after.ensures in
    let counted = ap first_counted is ∙ first_counted_lem _ (after o.month d.0) in
    let first = ap (λ (m : CalendarMonth). first_day m.year m.month) is ∙ adjoins o.month d.0 in
    let zero = ap (λ (t : Sums). t.days) c.none.ensures in
    record {
      begun = counted;
      tied = omega (arith, first, o.tied, d.1, zero);
      inside = omega (arith, zero);
      ended = o.ended;
    }
