-- The month that is open: today, the days that were taken of it, and their sums.
use Rattle.std.specs.Prelude.{ℕ, ◌+◌, Bool, cond, not, ◌&&◌, Some, None, Option, ◌==◌, nat_le, nat_lt}
use Rattle.billing.specs.declared.figures.Figures.{Figures}
use Rattle.calendar.specs.Dates.{date_of, month_of, month_length, counted, last_day_of}
use Rattle.calendar.specs.declared.date.CalendarMonth.{CalendarMonth}
use Rattle.calendar.specs.declared.date.Date.{Date}
use Rattle.metering.specs.Sums.{sums_of, nothing, plus, month_figures}
use Rattle.metering.specs.declared.day.DayFigures.{DayFigures}
use Rattle.tally.specs.declared.progress.OpenMonth.{OpenMonth}

-- an open month in plain numbers: the next day to be taken, the calendar month, how many of its days were taken, and their sums
pub record Progress : Type 0 where
  pub today : ℕ
  pub month : CalendarMonth
  pub days : ℕ
  pub sums : DayFigures

abbrev pub progress_of : OpenMonth → Progress
progress_of o = record { today = o.today; month = o.month; days = (sums_of o.sums).days; sums = (sums_of o.sums).figures }

-- a month of which no day was taken yet
abbrev pub begun : ℕ → CalendarMonth → Progress
begun day m = record { today = day; month = m; days = 0; sums = nothing }

-- a month's first day, up to 31 December 2099
abbrev pub opens_month : ℕ → Bool
opens_month day = nat_le day 36524 && (date_of day).day == 1

-- the month that begins on a day
abbrev pub started : ℕ → Option Progress
started day = cond (opens_month day) (Some (begun day (month_of (date_of day)))) None

-- all days of the month were taken
abbrev pub is_full : Progress → Bool
is_full p = counted p.month && p.days == month_length p.month.year p.month.month

-- the date of today; while the month is full there is none to be taken
abbrev pub date_today : Progress → Option Date
date_today p = cond (is_full p) None (Some (date_of p.today))

abbrev pub with_day : Progress → DayFigures → Progress
with_day p f = record { today = p.today + 1; month = p.month; days = p.days + 1; sums = plus p.sums f }

-- the month with one day more; none while it is full, or after 31 December 2099
abbrev pub day_taken : Progress → DayFigures → Option Progress
day_taken p f = cond (not (is_full p) && nat_le p.today 36524) (Some (with_day p f)) None

-- the month's last day, once it was taken
abbrev pub last_taken : Progress → Option ℕ
last_taken p = cond (is_full p) (last_day_of p.month) None

-- the month's figures, with the two that are given at its closing
abbrev pub figures_at : Progress → ℕ → ℕ → Figures
figures_at p supplementary entered = month_figures p.month.month (record { days = p.days; figures = p.sums }) supplementary entered

-- the two figures keep their limits: 100,000 kW, and 40 million dollars
abbrev pub closable : ℕ → ℕ → Bool
closable supplementary entered = nat_le supplementary 100000 && nat_le entered 4000000000

abbrev pub closed_at : Progress → ℕ → ℕ → Option Figures
closed_at p supplementary entered =
    cond (is_full p && closable supplementary entered) (Some (figures_at p supplementary entered)) None

abbrev pub month_after : CalendarMonth → CalendarMonth
month_after m =
    cond (nat_lt m.month 12) (record { year = m.year; month = m.month + 1 }) (record { year = m.year + 1; month = 1 })

-- the month after, once all days of this one were taken
abbrev pub turned : Progress → Option Progress
turned p = cond (is_full p) (Some (begun p.today (month_after p.month))) None
