-- The metered credit: within its bound, and never higher at a higher firm demand.
use Rattle.std.specs.Prelude.{ℕ, zero, suc, ◌-◌, ◌*◌, ◌<◌, ◌≤◌, cond, ◌==◌}
use Rattle.std.proofs.Common.{arith, mul-le-mul_left}
use Rattle.std.proofs.lemmas.Nat.{mul-le}
use Rattle.std.proofs.lemmas.Bool.Decides.{nat_tests}
use Rattle.billing.specs.Limits.{Limited}
use Rattle.billing.specs.Prices.{filed}
use Rattle.billing.specs.declared.figures.Figures.{Figures}
use Rattle.billing.proofs.Rounding.{cents_rises, cents_below}
use Rattle.calendar.specs.declared.season.SeasonKind.{SeasonKind}
use Rattle.curtailment.specs.Metering.{metered_credit}
use Rattle.curtailment.specs.Pricing.{credit_price}
use Rattle.curtailment.specs.Seasons.{credit_price_low}

-- a credit that is nothing without readings
none_or : (n x y : ℕ) → (0 < n → x ≤ y) → cond (n == 0) 0 x ≤ y
none_or zero x y h = omega arith
none_or (suc n) x y h = let p = h (omega arith) in grind (arith, nat_tests)

none_or_both : (n x y : ℕ) → (0 < n → x ≤ y) → cond (n == 0) 0 x ≤ cond (n == 0) 0 y
none_or_both zero x y h = omega arith
none_or_both (suc n) x y h = let p = h (omega arith) in grind (arith, nat_tests)

pub metered_bounded : (s : SeasonKind) (m : Figures) (f : ℕ) → Limited m → metered_credit filed s m f ≤ 1000000000
metered_bounded s m f l =
    let n = m.halves in
    let a = mul-le n m.peak n 100000 (omega arith) l.peak in
    let b : m.curtailable - n * f ≤ 100000 * n = omega (arith, a, l.under) in
    let c = mul-le (credit_price filed s) (m.curtailable - n * f) 108570000 (100000 * n) (credit_price_low s) b in
    none_or n _ 1000000000
    (λ p. let q = cents_below (credit_price filed s * (m.curtailable - n * f)) n 1000000001 p (omega (arith, c)) in omega (arith, q))

pub metered_falls : (s : SeasonKind) (m : Figures) (f g : ℕ) → f ≤ g → metered_credit filed s m g ≤ metered_credit filed s m f
metered_falls s m f g h =
    let n = m.halves in
    let a = mul-le-mul_left n h in
    let b : m.curtailable - n * g ≤ m.curtailable - n * f = omega (arith, a) in
    let c = mul-le-mul_left (credit_price filed s) b in
    none_or_both n _ _
    (λ p. cents_rises (credit_price filed s * (m.curtailable - n * g)) (credit_price filed s * (m.curtailable - n * f)) n p c)
