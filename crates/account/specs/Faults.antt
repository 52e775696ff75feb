-- The number of each refusal, and the first of several.
use Rattle.std.specs.Prelude.{ℕ, Bool, cond, List, [], ◌∷◌, Some, None, Ok, Err, Option, Result}
use Rattle.billing.specs.Faults as terms
use Rattle.metering.specs.Acceptance as notices
use Rattle.metering.specs.declared.accept.NoticeFault.{NoticeFault}
use Rattle.account.specs.declared.fault.AccountFault.{AccountFault}
use Rattle.account.specs.declared.fault.AccountFault.TheVariants.{Terms, AlreadyOpen, NotMonthStart, FirmDemandTooHigh, ScheduleNotServed, FirmDemandNotAdmitted, Unopened, MonthNotClosed, NotToday, Readings, Notices, TooManyNotices, LedgerFull, DaysMissing, ClosingFigures, NoSuchMonth, NoStatementLeft, BufferTooShort}

abbrev pub number_of : AccountFault → ℕ
number_of (Terms f) = terms.number_of f
number_of AlreadyOpen = 2
number_of NotMonthStart = 3
number_of FirmDemandTooHigh = 4
number_of ScheduleNotServed = 5
number_of FirmDemandNotAdmitted = 6
number_of Unopened = 7
number_of MonthNotClosed = 8
number_of NotToday = 9
number_of Readings = 10
number_of (Notices f) = notices.number_of f
number_of TooManyNotices = 13
number_of LedgerFull = 14
number_of DaysMissing = 19
number_of ClosingFigures = 20
number_of NoSuchMonth = 21
number_of NoStatementLeft = 22
number_of BufferTooShort = 23

-- what a call answers: nothing more where it is accepted
abbrev pub Answer : Type 0
Answer = Result (Unit {0}) AccountFault

-- a refusal where a test holds
abbrev pub when : Bool → AccountFault → Option AccountFault
when test f = cond test (Some f) None

-- the refusal of a day's notices, if there is one
abbrev pub not_taken : Result (Unit {0}) NoticeFault → Option AccountFault
not_taken (Ok x) = None
not_taken (Err f) = Some (Notices f)

abbrev pub or_else : Option AccountFault → Option AccountFault → Option AccountFault
or_else None next = next
or_else (Some f) next = Some f

-- the first refusal of several
abbrev pub first_of : List (Option AccountFault) → Option AccountFault
first_of [] = None
first_of (f ∷ fs) = or_else f (first_of fs)
