-- The limits of a month's figures.
use Rattle.std.specs.Prelude.{◌≡◌, ℕ, ◌*◌, ◌≤◌, Bool, true, ◌&&◌, ◌||◌, ◌==◌, nat_le}
use Rattle.calendar.specs.Dates.{is_month, month_length}
use Rattle.billing.specs.declared.figures.Figures.{Figures}

-- a month of this number can have this many days: as many as in a common year or in a leap year
abbrev pub has_days : ℕ → ℕ → Bool
has_days number days =
    is_month number && (days == month_length 2001 number || days == month_length 2004 number)

-- demands within the meter's range, an entered bill within its own
abbrev pub modest : Figures → Bool
modest m = nat_le m.peak 100000 && (nat_le m.supplementary 100000 && nat_le m.entered 4000000000)

-- the energy is that of 48 half hours a day, of which the highest is the peak
abbrev pub measured : Figures → Bool
measured m = nat_le m.peak m.energy && nat_le m.energy (48 * m.days * m.peak)

-- the half hours in windows are at most 20 a day, none of them above the peak
abbrev pub windowed : Figures → Bool
windowed m = nat_le m.halves (20 * m.days) && nat_le m.curtailable (m.halves * m.peak)

-- the figures keep all their limits
abbrev pub within : Figures → Bool
within m = has_days m.number m.days && (modest m && (measured m && windowed m))

abbrev pub Within : Figures → Type 0
Within m = within m ≡ true

-- what the limits come to, figure by figure
pub record Limited (m : Figures) : Type 0 where
  pub number : m.number ≤ 12
  pub days : m.days ≤ 31
  pub peak : m.peak ≤ 100000
  pub supplementary : m.supplementary ≤ 100000
  pub entered : m.entered ≤ 4000000000
  pub energy : m.energy ≤ 148800000
  pub halves : m.halves ≤ 620
  pub curtailable : m.curtailable ≤ 62000000
  pub under : m.curtailable ≤ m.halves * m.peak
