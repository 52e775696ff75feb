-- The closed months of the season that is running, to which a later raise reaches back.
use Rattle.std.specs.Prelude.{ℕ, ◌-◌, Bool, cond, ◌&&◌, ◌||◌, List, [], ◌∷◌, ◌++◌, map, ◌==◌, nat_le}
use Rattle.billing.specs.Few.{items_in}
use Rattle.billing.specs.declared.figures.Figures.{Figures}
use Rattle.calendar.specs.declared.date.CalendarMonth.{CalendarMonth}
use Rattle.account.specs.declared.kept.SeasonRow.{SeasonRow}
use Rattle.account.specs.declared.kept.SeasonRows.{SeasonRows}

-- a closed month: its figures, and the credit that it was given, in cents
pub record Credited : Type 0 where
  pub month : CalendarMonth
  pub figures : Figures
  pub credit : ℕ

abbrev pub credited_month : CalendarMonth → Figures → ℕ → Credited
credited_month m f c = record { month = m; figures = f; credit = c }

abbrev pub credited : SeasonRow → Credited
credited r = credited_month r.month r.figures r.credit

-- the months that are kept, oldest first
abbrev pub kept_in : SeasonRows → List Credited
kept_in s = map credited (items_in s.rows)

-- the month after is credited to the same season: June to August, and December to February
abbrev pub goes_on : ℕ → Bool
goes_on number = (nat_le 6 number && nat_le number 8) || (number == 12 || (nat_le 1 number && nat_le number 2))

-- a closed month is kept while its season goes on; with its last month a season lets all of them go
abbrev pub kept_after : ℕ → List Credited → Credited → List Credited
kept_after number kept newest = cond (goes_on number) (kept ++ newest ∷ []) []

-- how many months of its season are credited before a month
abbrev pub place_of : ℕ → ℕ
place_of number = cond (nat_le 6 number && nat_le number 9) (number - 6) (cond (nat_le 1 number && nat_le number 3) number 0)
