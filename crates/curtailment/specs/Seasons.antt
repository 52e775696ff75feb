-- How high the curtailment prices are.
use Rattle.std.specs.Prelude.{◌≤◌}
use Rattle.std.proofs.Common.{arith}
use Rattle.billing.specs.Prices.{filed}
use Rattle.calendar.specs.declared.season.SeasonKind.{SeasonKind}
use Rattle.calendar.specs.declared.season.SeasonKind.TheVariants.{Summer, Winter}
use Rattle.curtailment.specs.Pricing.{credit_price, failure_price}

pub credit_price_low : (s : SeasonKind) → credit_price filed s ≤ 108570000
credit_price_low Summer = omega arith
credit_price_low Winter = omega arith

pub failure_price_low : (s : SeasonKind) → failure_price filed s ≤ 434220000
failure_price_low Summer = omega arith
failure_price_low Winter = omega arith
