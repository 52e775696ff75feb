-- What is printed: the report of a worksheet, or the line that is wrong and why.
use Rattle.std.specs.Prelude.{◌≡◌, ℕ, ◌*◌, ◌/◌, ◌%◌, Bool, true, false, List, [], ◌++◌, Some, None, Ok, Err, codes, decimal, Option, Result}
use Rattle.billing.specs.Amounts.{cents}
use Rattle.billing.specs.declared.figures.Figures.{Figures}
use Rattle.rates.specs.Gs3ev.{billing}
use Rattle.rates.specs.declared.gs3ev.Billing.{Billing}
use Rattle.rates.specs.declared.gs3ev.Billing.TheVariants as billing
use Rattle.worksheet.specs.Sheets.{sheet_of}
use Rattle.worksheet.specs.Text.{pieces}
use Rattle.worksheet.specs.Wrongs.{fault_text}
use Rattle.calendar.specs.Dates.{month_text}
use Rattle.report.specs.Works.{worked_of}
use Rattle.worksheet.specs.declared.header.RateTerms.{RateTerms}
use Rattle.worksheet.specs.declared.header.RateTerms.TheVariants as rate
use Rattle.worksheet.specs.declared.wrong.Wrong as wrong
use Rattle.report.specs.declared.print.ReportError.{ReportError}
use Rattle.report.specs.declared.print.ReportError.TheVariants.{Worksheet, OutOfMemory}
use Rattle.report.specs.declared.print.Way.{Way}
use Rattle.report.specs.declared.print.Way.TheVariants as ways
use Rattle.worksheet.specs.declared.sheet.Fault.{Fault}
use Rattle.worksheet.specs.declared.sheet.Sheet.{Sheet}
use Rattle.report.specs.declared.work.Worked.{Worked}

-- dollars, a point, and two digits of cents
abbrev pub amount : ℕ → List ℕ
amount n = decimal (n / 100) ++ (codes "." ++ (decimal (n / 10 % 10) ++ decimal (n % 10)))

abbrev way_by : Billing → Way
way_by billing.NonDemand = ways.NonDemand
way_by billing.Demand = ways.Demand

-- how a month was billed
abbrev pub way_of : RateTerms → Figures → Way
way_of (rate.Gs3ev t) m = way_by (billing m)
way_of (rate.Entered s) m = ways.Entered

abbrev pub way : Way → List ℕ
way ways.NonDemand = codes "non-demand"
way ways.Demand = codes "demand"
way ways.Entered = codes "entered"

-- the month and its days
abbrev pub month_line : Sheet → List ℕ
month_line s = codes "MONTH " ++ (month_text s.header.month ++ (codes " OF " ++ (decimal s.figures.days ++ codes " DAYS\n")))

-- a sum of half-hour readings in kWh, of which a reading is half, with a tenth
abbrev pub energy_text : ℕ → List ℕ
energy_text n = decimal (n / 2) ++ (codes "." ++ decimal (n % 2 * 5))

-- its energy and its demand
abbrev pub measures : Figures → List ℕ
measures m = codes "ENERGY " ++ (energy_text m.energy ++ (codes " KWH\nDEMAND " ++ (decimal m.peak ++ codes " KW\n")))

-- how it was billed, charges and floor, and the larger of them
abbrev pub sums : Way → Worked → List ℕ
sums w worked =
    codes "BILLING "
    ++ (way w
    ++ (codes "\nCHARGES "
    ++ (amount (cents worked.charges 1)
    ++ (codes "\nFLOOR "
    ++ (amount (cents worked.floor 1)
    ++ (codes "\nBILL "
    ++ (amount worked.bill
    ++ codes "\n")))))))

abbrev pub credit_line : Option ℕ → List ℕ
credit_line None = []
credit_line (Some c) = codes "CREDIT " ++ (amount c ++ codes "\n")

-- the report of a worksheet that was worked out
abbrev pub report_of : Sheet → Worked → List ℕ
report_of s worked =
    ((month_line s ++ measures s.figures) ++ sums (way_of s.header.rate s.figures) worked) ++ credit_line worked.credit

-- the line that is wrong, and why
abbrev pub fault_line : Fault → List ℕ
fault_line f = fault_text f ++ codes "\n"

abbrev worked_answer : Sheet → Result Worked wrong.Wrong → Bool × List ℕ
worked_answer s (Ok worked) = (true, report_of s worked)
worked_answer s (Err w) = (false, fault_line (record { line = 1; wrong = w }))

abbrev sheet_answer : Result Sheet Fault → Bool × List ℕ
sheet_answer (Ok s) = worked_answer s (worked_of s)
sheet_answer (Err f) = (false, fault_line f)

-- whether a text is a worksheet that can be worked out, and what is printed of it
abbrev pub answer_of : List ℕ → Bool × List ℕ
answer_of text = sheet_answer (sheet_of (pieces 10 text))

abbrev pub Answers : List ℕ → Bool → List ℕ → Type 0
Answers text accepted printed = (accepted ≡ (answer_of text).0) × (printed ≡ (answer_of text).1)

-- the fault that stands against a worksheet worked out, which its terms have in the first line
abbrev terms_fault : Result Worked wrong.Wrong → Option Fault
terms_fault (Ok worked) = None
terms_fault (Err w) = Some (record { line = 1; wrong = w })

abbrev sheet_fault : Result Sheet Fault → Option Fault
sheet_fault (Ok s) = terms_fault (worked_of s)
sheet_fault (Err f) = Some f

-- what is wrong with a text, if anything is
abbrev pub fault_of : List ℕ → Option Fault
fault_of text = sheet_fault (sheet_of (pieces 10 text))

-- why there is no report: this is wrong with the text, and so the answer is that line; or memory ran out over a right one
abbrev pub Refuses : List ℕ → ReportError → Type 0
Refuses text (Worksheet f) = (fault_of text ≡ Some f) × Answers text false (fault_line f)
Refuses text OutOfMemory = (answer_of text).0 ≡ true

-- how that is said
abbrev pub error_text : ReportError → List ℕ
error_text (Worksheet f) = fault_text f
error_text OutOfMemory = codes "memory allocation failed"
