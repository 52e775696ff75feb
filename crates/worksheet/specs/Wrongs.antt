-- What can be wrong with a worksheet, in words.
use Rattle.std.specs.Prelude.{ℕ, List, ◌++◌, codes, decimal}
use Rattle.worksheet.specs.declared.sheet.Fault.{Fault}
use Rattle.worksheet.specs.declared.wrong.Wrong.{Wrong}
use Rattle.worksheet.specs.declared.wrong.Wrong.TheVariants as wrong

-- what is wrong, in words
abbrev pub reason : Wrong → List ℕ
reason wrong.Plan = codes "the first word is not gs3ev, entered, metered or standby"
reason wrong.Terms = codes "after the plan stand not just its numbers, one space before each"
reason wrong.Supply = codes "supply is not 1 or 0"
reason wrong.Code = codes "the schedule code is not 1 to 9"
reason wrong.Month = codes "the month is not 1 to 12, or the year not 2000 to 2099"
reason wrong.Readings = codes "a day has not just 48 readings of 0 to 100000 kW, a space between each two"
reason wrong.Missing = codes "a day is missing"
reason wrong.More = codes "more lines than the month has days"
reason wrong.Limits = codes "a term is outside its limits (refusal 1)"
reason wrong.Basis = codes "the basis is not open to the schedule (refusal 5)"

-- the line that is wrong, and why
abbrev pub fault_text : Fault → List ℕ
fault_text f = codes "line " ++ (decimal f.line ++ (codes ": " ++ reason f.wrong))
