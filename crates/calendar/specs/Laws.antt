-- The laws of the calendar: what holds of the date of every day number, of its month and of its season.
use Rattle.std.specs.Prelude.{◌≡◌, ℕ, ◌+◌, ◌-◌, ◌*◌, ◌<◌, ◌≤◌, true, cond, ◌⊎◌, Some, None, ◌≢◌, nat_lt}
use Rattle.calendar.specs.declared.date.Date.{Date}
use Rattle.calendar.specs.declared.date.CalendarMonth.{CalendarMonth}
use Rattle.calendar.specs.declared.season.Season.{Season}
use Rattle.calendar.specs.declared.season.SeasonKind.{SeasonKind}
use Rattle.calendar.specs.declared.season.SeasonKind.TheVariants.{Summer, Winter}
use Rattle.calendar.specs.Dates.{date, date_of, day_number, number_of, first_day, month_length, month_of, first_day_of, last_day_of, last_day}
use Rattle.calendar.specs.Seasons.{season_of, opens, summer, winter, season_first, season_last, credited_season}

-- a date that the calendar has
pub record Real (d : Date) : Type 0 where
  pub from_2000 : 2000 ≤ d.year
  pub to_2100 : d.year ≤ 2100
  pub from_january : 1 ≤ d.month
  pub to_december : d.month ≤ 12
  pub from_first : 1 ≤ d.day
  pub to_last : d.day ≤ month_length d.year d.month

-- the day after a date: in its month, else the first of the next month, else of the next year
abbrev pub day_after : Date → Date
day_after d =
    cond (nat_lt d.day (month_length d.year d.month)) (date d.year d.month (d.day + 1))
    (cond (nat_lt d.month 12) (date d.year (d.month + 1) 1)
    (date (d.year + 1) 1 1))

-- months in their order
abbrev pub month_index : CalendarMonth → ℕ
month_index m = 12 * m.year + m.month

abbrev pub kind_index : SeasonKind → ℕ
kind_index Summer = 0
kind_index Winter = 1

-- seasons in their order
abbrev pub season_index : Season → ℕ
season_index s = 2 * s.year + kind_index s.kind

-- of day n's month: its first day, its length, and its place in order
abbrev pub first_of : ℕ → ℕ
first_of n = first_day (date_of n).year (date_of n).month

abbrev pub length_at : ℕ → ℕ
length_at n = month_length (date_of n).year (date_of n).month

abbrev pub index_at : ℕ → ℕ
index_at n = month_index (month_of (date_of n))

-- the numbers run from 1 January 2000 to 1 January 2100
abbrev pub Ends : Type 0
Ends = (date_of 0 ≡ date 2000 1 1) × (date_of last_day ≡ date 2100 1 1)

-- the next number's date is the day after
abbrev pub NextDay : Type 0
NextDay = (n : ℕ) → n < last_day → date_of (n + 1) ≡ day_after (date_of n)

abbrev pub RealDates : Type 0
RealDates = (n : ℕ) → n ≤ last_day → Real (date_of n)

-- the number of a day's date is the day's number
abbrev pub ThereAndBack : Type 0
ThereAndBack = (n : ℕ) → n ≤ last_day → (day_number (date_of n) ≡ n) × (number_of (date_of n) ≡ Some n)

-- so two days of one date are one day
abbrev pub OneDay : Type 0
OneDay = (n k : ℕ) → n ≤ last_day → k ≤ last_day → date_of n ≡ date_of k → n ≡ k

-- the date of a date's number is that date
abbrev pub BackAndThere : Type 0
BackAndThere = (d : Date) (n : ℕ) → number_of d ≡ Some n → (n ≤ last_day) × (date_of n ≡ d)

-- a day lies in its month
abbrev pub InItsMonth : Type 0
InItsMonth = (n : ℕ) → n ≤ last_day → (first_of n ≤ n) × (n < first_of n + length_at n)

-- and the days from a month's first to its last are in that month
abbrev pub MonthHolds : Type 0
MonthHolds =
    (n y m : ℕ) → 2000 ≤ y → y ≤ 2100 → 1 ≤ m → m ≤ 12 → first_day y m ≤ n → n < first_day y m + month_length y m
    → date_of n ≡ date y m (n - first_day y m + 1)

-- the same by the numbers that a month answers: its days are those from its first day to its last
abbrev pub MonthDays : Type 0
MonthDays =
    (m : CalendarMonth) (f l n : ℕ) → first_day_of m ≡ Some f → last_day_of m ≡ Some l
    → (n ≤ last_day → month_of (date_of n) ≡ m → (f ≤ n) × (n ≤ l)) × (f ≤ n → n ≤ l → month_of (date_of n) ≡ m)

-- before a month's last day the next day is in the same month
abbrev pub MonthStays : Type 0
MonthStays = (n : ℕ) → n < last_day → n + 1 < first_of n + length_at n → month_of (date_of (n + 1)) ≡ month_of (date_of n)

-- on its last day the next month follows
abbrev pub MonthTurns : Type 0
MonthTurns = (n : ℕ) → n < last_day → n + 1 ≡ first_of n + length_at n → index_at (n + 1) ≡ index_at n + 1

-- each month begins where the one before it ends, and each year too
abbrev pub MonthsAdjoin : Type 0
MonthsAdjoin =
    ((y m : ℕ) → 1 ≤ m → m < 12 → first_day y (m + 1) ≡ first_day y m + month_length y m)
    × ((y : ℕ) → 2000 ≤ y → first_day (y + 1) 1 ≡ first_day y 12 + month_length y 12)

abbrev pub MonthsInOrder : Type 0
MonthsInOrder = (n k : ℕ) → n ≤ k → k ≤ last_day → index_at n ≤ index_at k

-- the days of a summer, and of a winter, by the first days of their months; winters from 1999 on
pub record SeasonNumbers : Type 0 where
  pub summer_first : (y : ℕ) → 2000 ≤ y → y ≤ 2099 → season_first (summer y) ≡ Some (first_day y 5 + 15)
  pub summer_last : (y : ℕ) → 2000 ≤ y → y ≤ 2099 → season_last (summer y) ≡ Some (first_day y 9 + 29)
  pub winter_first : (y : ℕ) → 2000 ≤ y → y ≤ 2099 → season_first (winter y) ≡ Some (first_day y 12)
  pub winter_last : (y : ℕ) → 1999 ≤ y → y ≤ 2098 → season_last (winter y) ≡ Some (first_day (y + 1) 3 + 30)
  pub summer_none : (y : ℕ) → (y < 2000) ⊎ (2099 < y) → (season_first (summer y) ≡ None) × (season_last (summer y) ≡ None)
  pub winter_no_first : (y : ℕ) → (y < 2000) ⊎ (2099 < y) → season_first (winter y) ≡ None
  pub winter_no_last : (y : ℕ) → (y < 1999) ⊎ (2098 < y) → season_last (winter y) ≡ None

-- a season holds the days from its first to its last, and no others
pub record SeasonHolds : Type 0 where
  pub from : (n : ℕ) (s : Season) (f : ℕ) → n ≤ last_day → season_of (date_of n) ≡ Some s → season_first s ≡ Some f → f ≤ n
  pub to : (n : ℕ) (s : Season) (l : ℕ) → n ≤ last_day → season_of (date_of n) ≡ Some s → season_last s ≡ Some l → n ≤ l
  pub between : (n : ℕ) (s : Season) (f l : ℕ) → season_first s ≡ Some f → season_last s ≡ Some l → f ≤ n → n ≤ l → season_of (date_of n) ≡ Some s
  pub first_winter : (n l : ℕ) → season_last (winter 1999) ≡ Some l → n ≤ l → season_of (date_of n) ≡ Some (winter 1999)
  pub last_winter : (n f : ℕ) → season_first (winter 2099) ≡ Some f → f ≤ n → n ≤ last_day → season_of (date_of n) ≡ Some (winter 2099)

-- so a summer holds the days from 16 May to 30 September of its year
abbrev pub SummerDays : Type 0
SummerDays =
    (y n : ℕ) → 2000 ≤ y → y ≤ 2099 → n ≤ last_day
    → (season_of (date_of n) ≡ Some (summer y) → (first_day y 5 + 15 ≤ n) × (n ≤ first_day y 9 + 29))
    × (first_day y 5 + 15 ≤ n → n ≤ first_day y 9 + 29 → season_of (date_of n) ≡ Some (summer y))

-- and a winter those from 1 December of its year to 31 March of the next
abbrev pub WinterDays : Type 0
WinterDays =
    (y n : ℕ) → 2000 ≤ y → y ≤ 2098 → n ≤ last_day
    → (season_of (date_of n) ≡ Some (winter y) → (first_day y 12 ≤ n) × (n ≤ first_day (y + 1) 3 + 30))
    × (first_day y 12 ≤ n → n ≤ first_day (y + 1) 3 + 30 → season_of (date_of n) ≡ Some (winter y))

-- a day opens a season where it is the first that the season holds
abbrev pub Opening : Type 0
Opening =
    ((n : ℕ) → n ≤ last_day → opens (date_of n) ≡ true → (s : Season) × (season_of (date_of n) ≡ Some s) × (season_first s ≡ Some n))
    × ((s : Season) (f : ℕ) → season_first s ≡ Some f → (opens (date_of f) ≡ true) × (season_of (date_of f) ≡ Some s))

abbrev pub SeasonsInOrder : Type 0
SeasonsInOrder =
    (n k : ℕ) (s t : Season) → n ≤ k → k ≤ last_day → season_of (date_of n) ≡ Some s → season_of (date_of k) ≡ Some t → season_index s ≤ season_index t

-- the season to which a day's month is credited holds the day
abbrev pub CreditedHolds : Type 0
CreditedHolds = (d : Date) (s : Season) → credited_season (month_of d) ≡ Some s → season_of d ≡ Some s

-- and outside May a day's season is the one to which its month is credited
abbrev pub HeldCredited : Type 0
HeldCredited = (d : Date) (s : Season) → season_of d ≡ Some s → (d.month ≢ 5) → credited_season (month_of d) ≡ Some s

abbrev pub CreditedInOrder : Type 0
CreditedInOrder =
    (i j : CalendarMonth) (s t : Season) → 1 ≤ i.year → month_index i ≤ month_index j → credited_season i ≡ Some s → credited_season j ≡ Some t
    → season_index s ≤ season_index t

-- all of them
pub record CalendarLaws : Type 0 where
  pub ends : Ends
  pub next_day : NextDay
  pub real_dates : RealDates
  pub there_and_back : ThereAndBack
  pub back_and_there : BackAndThere
  pub one_day : OneDay
  pub in_its_month : InItsMonth
  pub month_holds : MonthHolds
  pub month_days : MonthDays
  pub month_stays : MonthStays
  pub month_turns : MonthTurns
  pub months_adjoin : MonthsAdjoin
  pub months_in_order : MonthsInOrder
  pub season_numbers : SeasonNumbers
  pub season_holds : SeasonHolds
  pub summer_days : SummerDays
  pub winter_days : WinterDays
  pub opening : Opening
  pub seasons_in_order : SeasonsInOrder
  pub credited_holds : CreditedHolds
  pub held_credited : HeldCredited
  pub credited_in_order : CreditedInOrder
