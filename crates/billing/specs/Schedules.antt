-- The schedules and their codes.
use Rattle.std.specs.Prelude.{ℕ, cond, List, [], ◌∷◌, Some, None, Option, Ok, Err, Result, ◌==◌}
use Rattle.billing.specs.declared.schedule.Schedule.{Schedule}
use Rattle.billing.specs.declared.schedule.UnknownCode.{UnknownCode}
use Rattle.billing.specs.declared.schedule.Schedule.TheVariants.{Gs3Ev, Five, Six, SixTs, Gs2, Gs2T, Gs3, Gs4, Eight}

-- a schedule's code
abbrev pub code_of : Schedule → ℕ
code_of Gs3Ev = 1
code_of Five = 2
code_of Six = 3
code_of SixTs = 4
code_of Gs2 = 5
code_of Gs2T = 6
code_of Gs3 = 7
code_of Gs4 = 8
code_of Eight = 9

abbrev pub schedules : List Schedule
schedules = Gs3Ev ∷ Five ∷ Six ∷ SixTs ∷ Gs2 ∷ Gs2T ∷ Gs3 ∷ Gs4 ∷ Eight ∷ []

-- the first of the schedules with a code
abbrev pub with_code : ℕ → List Schedule → Option Schedule
with_code code [] = None
with_code code (s ∷ rest) = cond (code == code_of s) (Some s) (with_code code rest)

-- the schedule that has a code, if one has
abbrev pub schedule_at : ℕ → Option Schedule
schedule_at code = with_code code schedules

-- a schedule that was found; else the code, as unknown
abbrev pub found : ℕ → Option Schedule → Result Schedule UnknownCode
found code (Some s) = Ok s
found code None = Err (record { 0 = code })

-- the schedule of a code; a code that no schedule has is handed back
abbrev pub schedule_for : ℕ → Result Schedule UnknownCode
schedule_for code = found code (schedule_at code)
