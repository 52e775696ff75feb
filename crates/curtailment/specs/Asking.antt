-- What a question to a basis answers: a figure above 100,000 kW is refused.
use Rattle.std.specs.Prelude.{ℕ, cond, ◌&&◌, Ok, Err, Result, nat_le}
use Rattle.billing.specs.declared.fault.TermsFault.{TermsFault}
use Rattle.billing.specs.declared.fault.TermsFault.TheVariants.{OutsideLimits}
use Rattle.curtailment.specs.declared.kilowatts.Kilowatts.{Kilowatts}

-- the number of kW of a demand within the limit
abbrev pub kw_of : Kilowatts → ℕ
kw_of d = d.kw

-- asked at a firm demand
abbrev pub limited : ℕ → ℕ → Result ℕ TermsFault
limited firm answer = cond (nat_le firm 100000) (Ok answer) (Err OutsideLimits)

-- asked at a firm demand and a demand
abbrev pub limited_both : ℕ → ℕ → ℕ → Result ℕ TermsFault
limited_both firm demand answer = cond (nat_le firm 100000 && nat_le demand 100000) (Ok answer) (Err OutsideLimits)
