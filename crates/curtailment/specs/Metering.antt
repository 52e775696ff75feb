-- The metered basis.
use Rattle.std.specs.Prelude.{ℕ, ◌-◌, ◌*◌, Bool, true, false, cond, ◌==◌}
use Rattle.billing.specs.Amounts.{cents}
use Rattle.billing.specs.Prices.{Rows}
use Rattle.billing.specs.declared.figures.Figures.{Figures}
use Rattle.billing.specs.declared.schedule.Schedule.{Schedule}
use Rattle.billing.specs.declared.schedule.Schedule.TheVariants.{Gs3Ev, Eight}
use Rattle.calendar.specs.declared.season.SeasonKind.{SeasonKind}
use Rattle.curtailment.specs.Pricing.{credit_price, failure_price}

-- every schedule but GS-3EV and 8: Schedules 5, 6, 6TS, GS-2, GS-2T, GS-3 and GS-4
abbrev pub metered_serves : Schedule → Bool
metered_serves Gs3Ev = false
metered_serves Eight = false
metered_serves _ = true

-- the price for each kW by which the average reading in the windows exceeds the firm demand;
-- of n readings that sum to P, the average less F is (P - n * F) / n, and without readings there is no credit
abbrev pub metered_credit : Rows → SeasonKind → Figures → ℕ → ℕ
metered_credit rows s m f =
    cond (m.halves == 0) 0 (cents (credit_price rows s * (m.curtailable - m.halves * f)) m.halves)

-- the price for each kW of demand above the firm demand
abbrev pub metered_failure : Rows → SeasonKind → ℕ → ℕ → ℕ
metered_failure rows s f q = cents (failure_price rows s * (q - f)) 1
