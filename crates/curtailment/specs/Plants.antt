-- The standby basis: its kW and money within their bounds, and a credit never higher at a higher firm demand.
use Rattle.std.specs.Prelude.{ℕ, ◌+◌, ◌-◌, ◌*◌, ◌≤◌}
use Rattle.std.proofs.Common.{arith, mul-le-mul_left}
use Rattle.std.proofs.lemmas.Nat.{mul-le}
use Rattle.std.proofs.lemmas.Bool.Decides.{nat_tests}
use Rattle.billing.specs.Limits.{Limited}
use Rattle.billing.specs.Prices.{filed}
use Rattle.billing.specs.declared.figures.Figures.{Figures}
use Rattle.calendar.specs.declared.season.SeasonKind.{SeasonKind}
use Rattle.calendar.specs.declared.season.SeasonKind.TheVariants.{Summer, Winter}
use Rattle.curtailment.specs.Pricing.{credit_price, failure_price}
use Rattle.curtailment.specs.Standing.{terms_of, supplementary, available, standby_credit, failing, standby_failure}
use Rattle.curtailment.specs.declared.standby.Standby.{Standby}
use Rattle.curtailment.specs.declared.standby.StandbyTerms.{StandbyTerms}
use Rattle.curtailment.specs.Seasons.{credit_price_low, failure_price_low}

above : (t : StandbyTerms) (s : SeasonKind) → t.summer ≤ supplementary t s
above t Summer = omega arith
above t Winter = omega arith

available_low : (b : Standby) (s : SeasonKind) (f : ℕ) → available (terms_of b) s f ≤ 100000
available_low b s f = let p = b.combined.within in let q = b.standby.within in grind (arith, nat_tests)

-- rests on the combined demand being covered by summer and standby demand
available_falls : (b : Standby) (s : SeasonKind) (f g : ℕ) → f ≤ g → available (terms_of b) s g ≤ available (terms_of b) s f
available_falls b s f g h = let a = above (terms_of b) s in let i = b.covered in grind (arith, nat_tests)

weight_low : (b : Standby) (s : SeasonKind) (m : Figures) (f : ℕ) → Limited m
    → (terms_of b).hours * available (terms_of b) s f + 3500 * (m.supplementary - f) ≤ 1226000000
weight_low b s m f l =
    let h = mul-le (terms_of b).hours (available (terms_of b) s f) 8760 100000 b.year (available_low b s f) in
    omega (arith, h, l.supplementary)

pub standby_bounded : (b : Standby) (s : SeasonKind) (m : Figures) (f : ℕ) → Limited m
    → standby_credit filed (terms_of b) s m f ≤ 1000000000
standby_bounded b s m f l =
    let c = mul-le (credit_price filed s) _ 108570000 1226000000 (credit_price_low s) (weight_low b s m f l) in
    omega (arith, c)

pub standby_falls : (b : Standby) (s : SeasonKind) (m : Figures) (f g : ℕ) → f ≤ g
    → standby_credit filed (terms_of b) s m g ≤ standby_credit filed (terms_of b) s m f
standby_falls b s m f g h =
    let t = terms_of b in
    let a = mul-le-mul_left t.hours (available_falls b s f g h) in
    let w : t.hours * available t s g + 3500 * (m.supplementary - g) ≤ t.hours * available t s f + 3500 * (m.supplementary - f) = omega (arith, a) in
    let p = mul-le-mul_left (credit_price filed s) w in
    omega (arith, p)

pub failing_low : (b : Standby) (k f q : ℕ) → k ≤ 100000 → q ≤ 100000 → failing (terms_of b) k f q ≤ 1226000000
failing_low b k f q u v =
    let x = mul-le (terms_of b).hours (q - f) 8760 100000 b.year (omega arith) in
    let y = mul-le (terms_of b).hours (q - k) 8760 100000 b.year (omega arith) in
    grind (arith, nat_tests)

supplementary_low : (b : Standby) (s : SeasonKind) → supplementary (terms_of b) s ≤ 100000
supplementary_low b Summer = b.summer.within
supplementary_low b Winter = omega (arith, b.summer.within, b.winter.within)

pub failure_bounded_lem : (b : Standby) (s : SeasonKind) (f q : ℕ) → q ≤ 100000 → standby_failure filed (terms_of b) s f q ≤ 1000000000
failure_bounded_lem b s f q v =
    let l = failing_low b (supplementary (terms_of b) s) f q (supplementary_low b s) v in
    let c = mul-le (failure_price filed s) _ 434220000 1226000000 (failure_price_low s) l in
    omega (arith, c)
