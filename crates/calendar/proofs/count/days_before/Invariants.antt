-- The loop over the earlier places: the days so far.
use Rattle.std.proofs.Common.{◌≡◌, ◌-◌}
use Rattle.calendar.specs.Dates.{total}
use Rattle.calendar.proofs.count.days_before.Given as goal

abbrev pub invariant-loop-earlier : goal.invariant-loop-earlier
invariant-loop-earlier g l = l.days ≡ total (g.P.Places.length l.places) l.fn.first (l.earlier - l.fn.first)
