-- Dates and day numbers: day 0 is 1 January 2000, and days are counted year by year, then month by month.
use Rattle.std.specs.Prelude.{ℕ, zero, suc, ◌+◌, ◌-◌, ◌/◌, ◌%◌, Bool, cond, not, ◌&&◌, ◌||◌, List, ◌++◌, codes, decimal, Some, None, Option, ◌==◌, nat_le, nat_lt}
use Rattle.calendar.specs.declared.date.Date.{Date}
use Rattle.calendar.specs.declared.date.CalendarMonth.{CalendarMonth}

-- every fourth year, but of the full centuries only every fourth
abbrev pub leap : ℕ → Bool
leap y = y % 4 == 0 && (not (y % 100 == 0) || y % 400 == 0)

abbrev pub year_length : ℕ → ℕ
year_length y = cond (leap y) 366 365

abbrev pub is_month : ℕ → Bool
is_month m = nat_le 1 m && nat_le m 12

-- April, June, September and November
abbrev pub has_thirty : ℕ → Bool
has_thirty m = m == 4 || (m == 6 || (m == 9 || m == 11))

-- the days of month m in year y; none where there is no such month
abbrev pub month_length : ℕ → ℕ → ℕ
month_length y m =
    cond (m == 2) (cond (leap y) 29 28)
    (cond (has_thirty m) 30
    (cond (is_month m) 31 0))

-- counts n from place i on, where place j takes w j: the place that holds it, at most `more` places on, and the rest there
unfoldable pub locate : (ℕ → ℕ) → ℕ → ℕ → ℕ → ℕ × ℕ
locate w zero i n = (i, n)
locate w (suc more) i n = cond (nat_lt n (w i)) (i, n) (locate w more (i + 1) (n - w i))

-- what k places from place i on take together
abbrev pub total : (ℕ → ℕ) → ℕ → ℕ → ℕ
total w i zero = 0
total w i (suc k) = w i + total w (i + 1) k

abbrev pub date : ℕ → ℕ → ℕ → Date
date y m d = record { year = y; month = m; day = d }

-- the date in year y, from its month and the days of the month before it
abbrev pub in_year : ℕ → ℕ × ℕ → Date
in_year y place = date y place.0 (place.1 + 1)

-- the date from its year and the days of the year before it
abbrev pub from_year : ℕ × ℕ → Date
from_year place = in_year place.0 (locate (month_length place.0) 11 1 place.1)

-- the date of day n: its year from 2000 on, then its month from January on
unfoldable pub date_of : ℕ → Date
date_of n = from_year (locate year_length 100 2000 n)

-- 1 January 2100, the last day with a number
abbrev pub last_day : ℕ
last_day = 36525

-- the date of a day number; none past the end
abbrev pub dated : ℕ → Option Date
dated n = cond (nat_le n last_day) (Some (date_of n)) None

-- the number of the first day of month m of year y: the days of the years before it and of the months before it
abbrev pub first_day : ℕ → ℕ → ℕ
first_day y m = total year_length 2000 (y - 2000) + total (month_length y) 1 (m - 1)

abbrev pub day_number : Date → ℕ
day_number d = first_day d.year d.month + (d.day - 1)

abbrev pub month_of : Date → CalendarMonth
month_of d = record { year = d.year; month = d.month }

-- a month of the years 2000 to 2099: each of its days has a number
abbrev pub counted : CalendarMonth → Bool
counted m = nat_le 2000 m.year && (nat_le m.year 2099 && is_month m.month)

-- a month whose first day has a number: January 2100 too
abbrev pub first_counted : CalendarMonth → Bool
first_counted m = counted m || (m.year == 2100 && m.month == 1)

abbrev pub length_of : CalendarMonth → Option ℕ
length_of m = cond (counted m) (Some (month_length m.year m.month)) None

abbrev pub first_day_of : CalendarMonth → Option ℕ
first_day_of m = cond (first_counted m) (Some (first_day m.year m.month)) None

abbrev pub last_day_of : CalendarMonth → Option ℕ
last_day_of m = cond (counted m) (Some (first_day m.year m.month + month_length m.year m.month - 1)) None

-- a date of the calendar, from 1 January 2000 to 1 January 2100
abbrev pub numbered : Date → Bool
numbered d =
    first_counted (month_of d) && (nat_le 1 d.day && (nat_le d.day (month_length d.year d.month) && nat_le (day_number d) last_day))

-- the number of a date; none where there is no such day or it has no number
abbrev pub number_of : Date → Option ℕ
number_of d = cond (numbered d) (Some (day_number d)) None

-- a month as it is written: the year, a dash, and the tens and ones of the month
abbrev pub month_text : CalendarMonth → List ℕ
month_text m = decimal m.year ++ (codes "-" ++ (decimal (m.month / 10) ++ decimal (m.month % 10)))
