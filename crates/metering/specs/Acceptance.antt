-- Which notices a day may have.
use Rattle.std.specs.Prelude.{ℕ, Bool, true, false, cond, ◌&&◌, List, [], ◌∷◌, length, ℤ, pos, negsuc, is_some, Some, None, Ok, Err, Option, Result, int_le, int_lt, nat_le}
use Rattle.calendar.specs.BySeasons.{in_season}
use Rattle.calendar.specs.declared.by_season.BySeason.{BySeason}
use Rattle.calendar.specs.Seasons.{season_of, opens}
use Rattle.calendar.specs.declared.date.Date.{Date}
use Rattle.calendar.specs.declared.season.Season.{Season}
use Rattle.calendar.specs.declared.season.SeasonKind.{SeasonKind}
use Rattle.calendar.specs.declared.season.SeasonKind.TheVariants.{Summer, Winter}
use Rattle.metering.specs.Notices.{period_of}
use Rattle.metering.specs.declared.accept.NoticeFault.{NoticeFault}
use Rattle.metering.specs.declared.accept.NoticeFault.TheVariants.{NotElected, OutOfPlace}
use Rattle.metering.specs.declared.notice.Notice.{Notice}
use Rattle.metering.specs.declared.period.Period.{Period}

-- the number of each refusal
abbrev pub number_of : NoticeFault → ℕ
number_of NotElected = 11
number_of OutOfPlace = 12

-- a firm demand for each season; none where curtailment is not elected
abbrev pub FirmDemands : Type 0
FirmDemands = BySeason (Option ℕ)

-- the firm demand of a season, if curtailment is elected for it
abbrev pub firm_in : FirmDemands → SeasonKind → Option ℕ
firm_in f s = in_season f s

-- three hours before the day in summer, two in winter
abbrev pub eve : SeasonKind → ℤ
eve Summer = negsuc 179
eve Winter = negsuc 119

-- the earliest minute of a notice: on a season's first day none comes the evening before
abbrev pub earliest : SeasonKind → Date → ℤ
earliest s d = cond (opens d) (pos 0) (eve s)

-- a release comes after its notice
abbrev pub released_after : ℤ → Option ℤ → Bool
released_after minute None = true
released_after minute (Some release) = int_lt minute release

-- a notice not too early, before the last window's end, and released after it came, if at all
abbrev pub placed : SeasonKind → ℤ → Notice → Bool
placed s low n = int_le low n.minute && (is_some (period_of s n) && released_after n.minute n.release)

abbrev pub end_in : ℤ → Option Period → ℤ
end_in minute None = minute
end_in minute (Some p) = p.end

-- the end of a notice's period
abbrev pub end_of : SeasonKind → Notice → ℤ
end_of s n = end_in n.minute (period_of s n)

-- each notice in its place, and none before the end of the notice before it
abbrev pub in_place : SeasonKind → ℤ → ℤ → List Notice → Bool
in_place s low after [] = true
in_place s low after (n ∷ ns) = placed s low n && (int_le after n.minute && in_place s low (end_of s n) ns)

-- at most four notices, each in its place
abbrev pub orderly : SeasonKind → Date → List Notice → Bool
orderly s d ns = nat_le (length ns) 4 && in_place s (earliest s d) (earliest s d) ns

-- a season that is elected
abbrev pub elects : FirmDemands → Option Season → Bool
elects f None = false
elects f (Some s) = is_some (firm_in f s.kind)

abbrev pub orderly_in : Option Season → Date → List Notice → Bool
orderly_in None d ns = false
orderly_in (Some s) d ns = orderly s.kind d ns

-- a day without notices is accepted; with notices it lies in an elected season, and they are orderly
abbrev pub acceptance : Date → FirmDemands → List Notice → Result (Unit {0}) NoticeFault
acceptance d f [] = Ok tt
acceptance d f (n ∷ ns) =
    cond (elects f (season_of d))
    (cond (orderly_in (season_of d) d (n ∷ ns)) (Ok tt) (Err OutOfPlace))
    (Err NotElected)
