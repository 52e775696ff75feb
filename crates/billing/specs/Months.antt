-- A month by its figures, and what making one answers.
use Rattle.std.specs.Prelude.{cond, Ok, Err, Result}
use Rattle.billing.specs.declared.fault.TermsFault.{TermsFault}
use Rattle.billing.specs.declared.fault.TermsFault.TheVariants.{OutsideLimits}
use Rattle.billing.specs.declared.figures.Figures.{Figures}
use Rattle.billing.specs.declared.month.Month.{Month}
use Rattle.billing.specs.Limits.{within}

-- a month's figures
abbrev pub figures_of : Month → Figures
figures_of m = m.figures

-- a function of what was made; a refusal stays as it is
abbrev pub map_ok : {X Y E : Type 0} → (X → Y) → Result X E → Result Y E
map_ok f (Ok x) = Ok (f x)
map_ok f (Err e) = Err e

-- the figures themselves where they keep their limits, else the refusal
abbrev pub checked : Figures → Result Figures TermsFault
checked m = cond (within m) (Ok m) (Err OutsideLimits)
