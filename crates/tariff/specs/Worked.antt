-- Figures worked by hand, and that the written rules give each of them.
use Rattle.std.specs.Prelude.{◌≡◌, ℕ, ◌-◌, true, List, [], ◌∷◌, pos, Some, None, Option}
use Rattle.std.specs.List.{AllByRecursion}
use Rattle.billing.specs.Prices.{filed}
use Rattle.billing.specs.declared.figures.Figures.{Figures}
use Rattle.calendar.specs.declared.season.SeasonKind.TheVariants.{Summer}
use Rattle.curtailment.specs.Metering.{metered_credit}
use Rattle.curtailment.specs.Standing.{standby_credit, standby_failure}
use Rattle.curtailment.specs.declared.standby.StandbyTerms.{StandbyTerms}
use Rattle.metering.specs.Notices.{period_of}
use Rattle.metering.specs.Periods.{half_hours}
use Rattle.metering.specs.declared.period.Period.{Period}
use Rattle.rates.specs.Bills.{base_bill}
use Rattle.rates.specs.Gs3ev.{quoted}
use Rattle.rates.specs.declared.gs3ev.Holding.{Holding}

-- a worked figure: what was asked, and the answer in cents or half hours
pub data Line : Type 0 where
  -- GS-3EV with supply, a 30-day June, no kept month: peak, energy, minimum demand
  Bill : (peak energy minimum cents : ℕ) → Line
  -- metered credit of June: firm demand, sum and number of the readings in the windows
  MeteredCredit : (firm curtailable halves cents : ℕ) → Line
  -- standby credit of June at the plant below: supplementary billing demand, firm demand
  PlantCredit : (supplementary firm cents : ℕ) → Line
  -- summer failure charge at the plant below: firm demand, demand
  PlantFailure : (firm demand cents : ℕ) → Line
  -- half hours of a summer notice without a release
  SummerNotice : (minute halves : ℕ) → Line

abbrev june : (energy peak supplementary curtailable halves : ℕ) → Figures
june energy peak supplementary curtailable halves =
    record {
      number = 6;
      days = 30;
      energy = energy;
      peak = peak;
      supplementary = supplementary;
      entered = 0;
      curtailable = curtailable;
      halves = halves;
    }

abbrev supplied : ℕ → Holding
supplied minimum = record { supply = true; minimum = minimum; kept = [] }

-- 1,000 kW in summer, 800 in winter, 500 standby, 1,500 combined, 1,750 hours
abbrev plant : StandbyTerms
plant = record { summer = 1000; winter = 800; standby = 500; combined = 1500; hours = 1750 }

abbrev halves_in : Option Period → ℕ
halves_in None = 0
halves_in (Some p) = (half_hours p).past - (half_hours p).first

-- the written rules give the figure
abbrev pub Stands : Line → Type 0
Stands (Bill d e m c) = base_bill (quoted filed (supplied m) (june e d 0 0 0)) ≡ c
Stands (MeteredCredit f p n c) = metered_credit filed Summer (june 1440000 1001 0 p n) f ≡ c
Stands (PlantCredit b f c) = standby_credit filed plant Summer (june 0 0 b 0 0) f ≡ c
Stands (PlantFailure f q c) = standby_failure filed plant Summer f q ≡ c
Stands (SummerNotice minute n) = halves_in (period_of Summer (record { minute = pos minute; release = None })) ≡ n

abbrev pub lines : List Line
lines =
    Bill 600 240000 0 654140
    ∷ Bill 600 240001 0 804093
    ∷ Bill 50 50 0 16550
    ∷ Bill 0 0 700 125856
    ∷ MeteredCredit 400 420000 420 217140
    ∷ MeteredCredit 400 420001 420 217141
    ∷ PlantCredit 1050 1000 108570
    ∷ PlantCredit 1050 1001 108027
    ∷ PlantFailure 600 1000 578960
    ∷ PlantFailure 600 1200 723700
    ∷ PlantFailure 1100 1200 72370
    ∷ SummerNotice 810 14
    ∷ SummerNotice 811 13
    ∷ SummerNotice 840 13
    ∷ SummerNotice 1230 0
    ∷ []

-- the written rules give every worked figure
abbrev pub WorkedFigures : Type 0
WorkedFigures = AllByRecursion Stands lines
