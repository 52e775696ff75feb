-- The loop over the places: what is left to locate from this place on.
use Rattle.std.proofs.Common.{◌≡◌, ◌-◌, ◌≤◌}
use Rattle.calendar.specs.Dates.{locate}
use Rattle.calendar.proofs.count.locate.Given as goal

abbrev pub invariant-loop-place : goal.invariant-loop-place
invariant-loop-place g l =
    (locate (g.P.Places.length l.places) (l.last - l.fn.first) l.fn.first l.day ≡ locate (g.P.Places.length l.places) (l.last - l.place) l.place l.rest)
    × (l.rest ≤ l.day)
