use Rattle.std.proofs.Common.{◌≡◌, map, drop}
use Rattle.metering.specs.Acceptance.{in_place}
use Rattle.metering.proofs.accept.are_placed.Given as goal

-- what is left, after the end of the last notice, is in place where the whole is
abbrev pub invariant-loop-announced : goal.invariant-loop-announced
invariant-loop-announced g l =
    in_place l.season l.low l.after (map g.N.Announced.notice (drop l.announced-index l.notices))
    ≡ in_place l.season l.low l.low (map g.N.Announced.notice l.notices)
