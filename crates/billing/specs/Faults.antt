-- The number of the tariff's own refusal.
use Rattle.std.specs.Prelude.{ℕ}
use Rattle.billing.specs.declared.fault.TermsFault.{TermsFault}
use Rattle.billing.specs.declared.fault.TermsFault.TheVariants.{OutsideLimits}

abbrev pub number_of : TermsFault → ℕ
number_of OutsideLimits = 1
