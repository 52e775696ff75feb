-- The seasons of curtailment: summer from 16 May to 30 September, winter from 1 December to 31 March.
use Rattle.std.specs.Prelude.{ℕ, ◌+◌, ◌-◌, Bool, cond, ◌&&◌, ◌||◌, Some, None, Option, ◌==◌, nat_le}
use Rattle.calendar.specs.declared.date.Date.{Date}
use Rattle.calendar.specs.declared.date.CalendarMonth.{CalendarMonth}
use Rattle.calendar.specs.declared.season.Season.{Season}
use Rattle.calendar.specs.declared.season.SeasonKind.{SeasonKind}
use Rattle.calendar.specs.declared.season.SeasonKind.TheVariants.{Summer, Winter}
use Rattle.calendar.specs.Dates.{date, number_of}

-- from 16 May to 30 September
abbrev pub in_summer : Date → Bool
in_summer d = (d.month == 5 && nat_le 16 d.day) || (nat_le 6 d.month && nat_le d.month 9)

-- a winter's December
abbrev pub in_december : Date → Bool
in_december d = d.month == 12

-- the January, February or March of a winter that began the year before
abbrev pub in_late_winter : Date → Bool
in_late_winter d = nat_le 1 d.month && nat_le d.month 3

-- the season of a kind that began in year y
abbrev pub season : SeasonKind → ℕ → Season
season kind y = record { kind = kind; year = y }

abbrev pub summer : ℕ → Season
summer y = season Summer y

abbrev pub winter : ℕ → Season
winter y = season Winter y

-- the season that holds a day, by its kind and the year in which it began
abbrev pub season_of : Date → Option Season
season_of d =
    cond (in_summer d) (Some (summer d.year))
    (cond (in_december d) (Some (winter d.year))
    (cond (in_late_winter d) (Some (winter (d.year - 1))) None))

-- the day is the first of a season
abbrev pub opens : Date → Bool
opens d = (d.month == 5 && d.day == 16) || (d.month == 12 && d.day == 1)

-- the first date of a season that began in year y
abbrev pub first_date_in : SeasonKind → ℕ → Date
first_date_in Summer y = date y 5 16
first_date_in Winter y = date y 12 1

-- the last date of a season that began in year y
abbrev pub last_date_in : SeasonKind → ℕ → Date
last_date_in Summer y = date y 9 30
last_date_in Winter y = date (y + 1) 3 31

abbrev pub first_date : Season → Date
first_date s = first_date_in s.kind s.year

abbrev pub last_date : Season → Date
last_date s = last_date_in s.kind s.year

-- the number of a season's first day; none where that day has none
abbrev pub season_first : Season → Option ℕ
season_first s = number_of (first_date s)

-- the number of a season's last day; none where that day has none
abbrev pub season_last : Season → Option ℕ
season_last s = number_of (last_date s)

-- the season to which a month's credit belongs: June to September, December, and January to March
abbrev pub credited_season : CalendarMonth → Option Season
credited_season m =
    cond (nat_le 6 m.month && nat_le m.month 9) (Some (summer m.year))
    (cond (m.month == 12) (Some (winter m.year))
    (cond (nat_le 1 m.month && nat_le m.month 3) (Some (winter (m.year - 1))) None))
