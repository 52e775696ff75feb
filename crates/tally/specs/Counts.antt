-- The notices of a calendar year, by season.
use Rattle.std.specs.Prelude.{ℕ, ◌+◌, cond, Some, None, Option, ◌==◌, nat_le}
use Rattle.calendar.specs.BySeasons.{in_season, with_season}
use Rattle.calendar.specs.declared.by_season.BySeason.{BySeason}
use Rattle.calendar.specs.declared.season.SeasonKind.{SeasonKind}
use Rattle.calendar.specs.declared.season.SeasonKind.TheVariants.{Summer, Winter}
use Rattle.tally.specs.declared.counts.NoticeCounts.{NoticeCounts}

-- a year with its counts
abbrev pub counts : ℕ → BySeason ℕ → NoticeCounts
counts y n = record { year = y; notices = n }

-- a year without notices so far
abbrev pub none_in : ℕ → NoticeCounts
none_in y = counts y (record { summer = 0; winter = 0 })

-- the counts as they stand in a year: another year than theirs has had none
abbrev pub carried : NoticeCounts → ℕ → NoticeCounts
carried c y = cond (c.year == y) c (none_in y)

-- at most 19 in summer, 13 in winter
abbrev pub limit_of : SeasonKind → ℕ
limit_of Summer = 19
limit_of Winter = 13

-- how many of a season were counted
abbrev pub count_in : NoticeCounts → SeasonKind → ℕ
count_in c s = in_season c.notices s

-- so many more in a season
abbrev pub adding : NoticeCounts → SeasonKind → ℕ → NoticeCounts
adding c s n = counts c.year (with_season c.notices s (count_in c s + n))

abbrev pub limited : NoticeCounts → SeasonKind → ℕ → Option NoticeCounts
limited c s n = cond (nat_le (count_in c s + n) (limit_of s)) (Some (adding c s n)) None

-- the counts after a day of a year with so many notices; none where its season then has more than it may
abbrev pub counting : NoticeCounts → ℕ → Option SeasonKind → ℕ → Option NoticeCounts
counting c y None n = Some (carried c y)
counting c y (Some s) n = limited (carried c y) s n
