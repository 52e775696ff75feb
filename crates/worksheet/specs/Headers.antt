-- The first line of a worksheet: the plan, the month and the terms.
use Rattle.std.specs.Prelude.{ℕ, cond, List, [], ◌∷◌, Some, None, Ok, Err, codes, Option, Result, ◌==◌, nat_le, slice_index}
use Rattle.std.specs.Str.{bytes_eq}
use Rattle.std.specs.Option.{ok_or}
use Rattle.billing.specs.Schedules.{schedule_at}
use Rattle.billing.specs.declared.schedule.Schedule.{Schedule}
use Rattle.billing.specs.declared.schedule.Schedule.TheVariants.{Gs3Ev, Eight}
use Rattle.calendar.specs.declared.date.CalendarMonth.{CalendarMonth}
use Rattle.worksheet.specs.Text.{exactly}
use Rattle.worksheet.specs.declared.header.BasisTerms.{BasisTerms}
use Rattle.worksheet.specs.declared.header.BasisTerms.TheVariants as basis
use Rattle.worksheet.specs.declared.header.Header.{Header}
use Rattle.worksheet.specs.declared.header.Plan.{Plan}
use Rattle.worksheet.specs.declared.header.Plan.TheVariants as plan
use Rattle.worksheet.specs.declared.header.RateTerms.{RateTerms}
use Rattle.worksheet.specs.declared.header.RateTerms.TheVariants as rate
use Rattle.worksheet.specs.declared.wrong.Wrong.{Wrong}
use Rattle.worksheet.specs.declared.wrong.Wrong.TheVariants as wrong

-- the schedule that a month is billed under
abbrev pub schedule_in : RateTerms → Schedule
schedule_in (rate.Gs3ev t) = Gs3Ev
schedule_in (rate.Entered s) = s

-- the plan that a word names
abbrev pub plan_of : List ℕ → Option Plan
plan_of word =
    cond (bytes_eq word (codes "gs3ev")) (Some plan.Gs3ev)
    (cond (bytes_eq word (codes "entered")) (Some plan.Entered)
    (cond (bytes_eq word (codes "metered")) (Some plan.Metered)
    (cond (bytes_eq word (codes "standby")) (Some plan.Standby) None)))

-- that plan; a word that names none is wrong
abbrev pub plan_for : List ℕ → Result Plan Wrong
plan_for word = ok_or (plan_of word) wrong.Plan

abbrev month : List ℕ → CalendarMonth
month ns = record { year = slice_index ns 0; month = slice_index ns 1 }

-- YEAR MONTH SUPPLY MINIMUM KEPT RIDER, where SUPPLY is 1 or 0
abbrev pub gs3ev_header : Option (List ℕ) → Result Header Wrong
gs3ev_header None = Err wrong.Terms
gs3ev_header (Some ns) =
    cond (nat_le (slice_index ns 2) 1)
    (Ok (record {
      month = month ns;
      rate = rate.Gs3ev (record { supply = (slice_index ns 2 == 1); minimum = slice_index ns 3; kept = slice_index ns 4 });
      rider = slice_index ns 5;
      basis = basis.NoBasis;
      entered = 0;
      supplementary = 0;
    }))
    (Err wrong.Supply)

-- an entered bill of a schedule, if its code is one
abbrev pub entering : CalendarMonth → ℕ → ℕ → BasisTerms → Option Schedule → Result Header Wrong
entering m entered rider b None = Err wrong.Code
entering m entered rider b (Some s) =
    Ok (record { month = m; rate = rate.Entered s; rider = rider; basis = b; entered = entered; supplementary = 0 })

-- YEAR MONTH CODE CENTS RIDER
abbrev pub entered_header : Option (List ℕ) → Result Header Wrong
entered_header None = Err wrong.Terms
entered_header (Some ns) = entering (month ns) (slice_index ns 3) (slice_index ns 4) basis.NoBasis (schedule_at (slice_index ns 2))

-- YEAR MONTH CODE CENTS RIDER FIRM
abbrev pub metered_header : Option (List ℕ) → Result Header Wrong
metered_header None = Err wrong.Terms
metered_header (Some ns) =
    entering (month ns) (slice_index ns 3) (slice_index ns 4) (basis.Metered (slice_index ns 5)) (schedule_at (slice_index ns 2))

-- YEAR MONTH CENTS RIDER SUMMER WINTER STANDBY COMBINED HOURS SUPPLEMENTARY FIRM, under Schedule 8
abbrev pub standby_header : Option (List ℕ) → Result Header Wrong
standby_header None = Err wrong.Terms
standby_header (Some ns) =
    Ok (record {
      month = month ns;
      rate = rate.Entered Eight;
      rider = slice_index ns 3;
      basis = basis.Standby (record { summer = slice_index ns 4; winter = slice_index ns 5; standby = slice_index ns 6; combined = slice_index ns 7; hours = slice_index ns 8 }) (slice_index ns 10);
      entered = slice_index ns 2;
      supplementary = slice_index ns 9;
    })

abbrev termed : List (List ℕ) → Result Plan Wrong → Result Header Wrong
termed words (Err w) = Err w
termed words (Ok plan.Gs3ev) = gs3ev_header (exactly 6 words)
termed words (Ok plan.Entered) = entered_header (exactly 5 words)
termed words (Ok plan.Metered) = metered_header (exactly 6 words)
termed words (Ok plan.Standby) = standby_header (exactly 11 words)

-- the first word names the plan, and the plan says how many numbers follow
abbrev pub header_of : List (List ℕ) → Result Header Wrong
header_of [] = Err wrong.Plan
header_of (word ∷ words) = termed words (plan_for word)
