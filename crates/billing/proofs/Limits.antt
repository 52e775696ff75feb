-- What a month's limits come to, figure by figure.
use Rattle.std.proofs.Common.{◌≡◌, ℕ, ◌*◌, ◌≤◌, true, ◌&&◌, arith}
use Rattle.std.proofs.lemmas.Bool.{and_parts}
use Rattle.std.proofs.lemmas.Nat.{mul-le}
use Rattle.std.proofs.lemmas.Bool.Decides.{nat_tests}
use Rattle.billing.specs.declared.figures.Figures.{Figures}
use Rattle.billing.specs.Limits.{has_days, modest, measured, windowed, Within, Limited}

-- no month is longer than 31 days
short : (number days : ℕ) → has_days number days ≡ true → (number ≤ 12) × (days ≤ 31)
short number days h =
    let n : number ≤ 12 = grind (arith, nat_tests) in
    let d : days ≤ 31 = grind (arith, nat_tests) in
    (n, d)

pub limited : (m : Figures) → Within m → Limited m
limited m w =
    let p = and_parts (has_days m.number m.days) (modest m && (measured m && windowed m)) w in
    let q = and_parts (modest m) (measured m && windowed m) p.1 in
    let r = and_parts (measured m) (windowed m) q.1 in
    let d = short m.number m.days p.0 in
    let s = q.0 in
    let t = r.0 in
    let v = r.1 in
    let k : m.peak ≤ 100000 = grind (arith, nat_tests) in
    let e : m.energy ≤ 48 * m.days * m.peak = grind (arith, nat_tests) in
    let h : m.halves ≤ 20 * m.days = grind (arith, nat_tests) in
    let u : m.curtailable ≤ m.halves * m.peak = grind (arith, nat_tests) in
    let n : m.halves ≤ 620 = omega (arith, d.1) in
    let x = mul-le (48 * m.days) m.peak 1488 100000 (omega (arith, d.1)) k in
    let y = mul-le m.halves m.peak 620 100000 n k in
    record {
      number = d.0;
      days = d.1;
      peak = k;
      supplementary = grind (arith, nat_tests);
      entered = grind (arith, nat_tests);
      energy = omega (arith, e, x);
      halves = n;
      curtailable = omega (arith, u, y);
      under = u;
    }
