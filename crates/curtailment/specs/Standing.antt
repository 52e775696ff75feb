-- The standby basis: its terms, credit and failure charge.
use Rattle.std.specs.Prelude.{ℕ, ◌+◌, ◌-◌, ◌*◌, max, Bool, true, false, cond, ◌&&◌, Ok, Err, Result, nat_le}
use Rattle.billing.specs.Amounts.{cents}
use Rattle.billing.specs.Prices.{Rows}
use Rattle.billing.specs.declared.fault.TermsFault.{TermsFault}
use Rattle.billing.specs.declared.fault.TermsFault.TheVariants.{OutsideLimits}
use Rattle.billing.specs.declared.figures.Figures.{Figures}
use Rattle.billing.specs.declared.schedule.Schedule.{Schedule}
use Rattle.billing.specs.declared.schedule.Schedule.TheVariants.{Eight}
use Rattle.calendar.specs.declared.season.SeasonKind.{SeasonKind}
use Rattle.calendar.specs.declared.season.SeasonKind.TheVariants.{Summer, Winter}
use Rattle.curtailment.specs.Asking.{kw_of}
use Rattle.curtailment.specs.Pricing.{credit_price, failure_price}
use Rattle.curtailment.specs.declared.standby.Standby.{Standby}
use Rattle.curtailment.specs.declared.standby.StandbyTerms.{StandbyTerms}

-- the contract figures of a standby basis
abbrev pub terms_of : Standby → StandbyTerms
terms_of b =
    record {
      summer = kw_of b.summer;
      winter = kw_of b.winter;
      standby = kw_of b.standby;
      combined = kw_of b.combined;
      hours = b.hours;
    }

-- demands up to 100,000 kW, up to 8,760 hours, and the combined demand covered by summer and standby demand
abbrev pub fit : StandbyTerms → Bool
fit t =
    nat_le t.summer 100000
    && (nat_le t.winter 100000
    && (nat_le t.standby 100000
    && (nat_le t.combined 100000
    && (nat_le t.hours 8760
    && nat_le t.combined (t.summer + t.standby)))))

abbrev pub agreed : StandbyTerms → Result StandbyTerms TermsFault
agreed t = cond (fit t) (Ok t) (Err OutsideLimits)

-- Schedule 8
abbrev pub standby_serves : Schedule → Bool
standby_serves Eight = true
standby_serves _ = false

-- the supplementary demand that counts in a season: in winter the larger of the two
abbrev pub supplementary : StandbyTerms → SeasonKind → ℕ
supplementary t Summer = t.summer
supplementary t Winter = max t.summer t.winter

-- the standby kW that a firm demand makes available: all up to the supplementary demand, above it what is left of the combined demand
abbrev pub available : StandbyTerms → SeasonKind → ℕ → ℕ
available t s f = cond (nat_le f (supplementary t s)) t.standby (t.combined - f)

-- price times hours / 3500 for each available kW, and price for each kW of billing demand above the firm demand
abbrev pub standby_credit : Rows → StandbyTerms → SeasonKind → Figures → ℕ → ℕ
standby_credit rows t s m f =
    cents (credit_price rows s * (t.hours * available t s f + 3500 * (m.supplementary - f))) 3500

-- the kW that fail, in 3,500ths: whole up to the supplementary demand, above it by hours / 3500
abbrev pub failing : StandbyTerms → ℕ → ℕ → ℕ → ℕ
failing t k f q =
    cond (nat_le q f) 0
    (cond (nat_le q k) (3500 * (q - f))
    (cond (nat_le k f) (t.hours * (q - f))
    (3500 * (k - f) + t.hours * (q - k))))

-- price for each kW that fails
abbrev pub standby_failure : Rows → StandbyTerms → SeasonKind → ℕ → ℕ → ℕ
standby_failure rows t s f q = cents (failure_price rows s * failing t (supplementary t s) f q) 3500
