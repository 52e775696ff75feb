-- The curtailment prices of a season, in grains, from the price rows.
use Rattle.std.specs.Prelude.{ℕ}
use Rattle.billing.specs.Amounts.{cents}
use Rattle.billing.specs.Prices.{Rows, class_on}
use Rattle.billing.specs.declared.price.MonthClass.TheVariants.{OctoberToMay}
use Rattle.calendar.specs.declared.season.SeasonKind.{SeasonKind}

-- for each kW of curtailable load
abbrev pub credit_price : Rows → SeasonKind → ℕ
credit_price rows s = (rows (class_on s)).credit

-- for each kW above the firm demand
abbrev pub failure_price : Rows → SeasonKind → ℕ
failure_price rows s = (rows (class_on s)).failure

-- for communication and administration, every month, in cents
abbrev pub monthly_charge : Rows → ℕ
monthly_charge rows = cents (rows OctoberToMay).monthly 1
