-- The figures of a full month keep a month's limits.
use Rattle.std.proofs.Common.{◌≡◌, ℕ, ◌≤◌, Bool, ◌&&◌, None, true, false, cond, eqb, Some, Ok, Err, Option, Result, refl, ap, ◌∙◌, arith}
use Rattle.std.specs.Option.{option_map}
use Rattle.std.specs.Result.{result_ok}
use Rattle.std.proofs.lemmas.Bool.{and_parts}
use Rattle.std.proofs.lemmas.Bool.Decides.{nat_tests}
use Rattle.billing.specs.Limits.{has_days, modest, measured, windowed, within}
use Rattle.billing.specs.Months.{map_ok}
use Rattle.calendar.specs.Dates.{is_month, leap, month_length, has_thirty, counted}
use Rattle.tally.specs.Progress.{Progress, is_full, figures_at, closable}
use Rattle.metering.specs.Days.{Accrued}

-- a month has as many days as in a common year or in a leap year
has_days_lem : (y m : ℕ) → is_month m ≡ true → has_days m (month_length y m) ≡ true
has_days_lem y m h =
    elim (leap y) as (λ t. leap y ≡ t → has_days m (cond (eqb m 2) (cond t 29 28) (cond (has_thirty m) 30 (cond (is_month m) 31 0))) ≡ true) [
      | true ↦ λ e. grind (arith, nat_tests)
      | false ↦ λ e. grind (arith, nat_tests)
    ] refl

-- a full month is one of 2000 to 2099, with as many days taken as it has
pub full_days : (p : Progress) → is_full p ≡ true
    → (counted p.month ≡ true) × (p.days ≡ month_length p.month.year p.month.month)
full_days p h =
    let a = and_parts (counted p.month) (eqb p.days (month_length p.month.year p.month.month)) h in
    let q = a.1 in
    let e : p.days ≡ month_length p.month.year p.month.month = grind (arith, nat_tests) in
    (a.0, e)

pub figures_within : (p : Progress) (b u : ℕ) → Accrued p.days p.sums → is_full p ≡ true → b ≤ 100000 → u ≤ 4000000000
    → within (figures_at p b u) ≡ true
figures_within p b u a f h k =
    let d = full_days p f in
    let c = d.0 in
    let i : is_month p.month.month ≡ true = grind (arith, nat_tests) in
    let n = has_days_lem p.month.year p.month.month i in
    let days : has_days p.month.month p.days ≡ true = ap (has_days p.month.month) d.1 ∙ n in
    let range = a.range in
    let least = a.least in
    let most = a.most in
    let few = a.few in
    let under = a.under in
    let m : modest (figures_at p b u) ≡ true = grind (arith, nat_tests) in
    let e : measured (figures_at p b u) ≡ true = grind (arith, nat_tests) in
    let w : windowed (figures_at p b u) ≡ true = grind (arith, nat_tests) in
    rw (days, m, e, w)

-- so they keep them where the two figures keep theirs, and only there
pub within_as_closable : (p : Progress) (b u : ℕ) → Accrued p.days p.sums → is_full p ≡ true → within (figures_at p b u) ≡ closable b u
within_as_closable p b u a f =
    elim (closable b u) as (λ t. closable b u ≡ t → within (figures_at p b u) ≡ t) [
      | true ↦ λ e. figures_within p b u a f (grind (arith, nat_tests)) (grind (arith, nat_tests))
      | false ↦ λ e.
          let m : modest (figures_at p b u) ≡ false = grind (arith, nat_tests) in
          rw m (and_false (has_days p.month.month p.days))
    ] refl
  where
    and_false : (t : Bool) → (t && false) ≡ false
    and_false true = refl
    and_false false = refl

-- what was made, or nothing where it was refused
pub made_of : {X Y E : Type 0} (f : X → Y) (r : Result X E) (o : Option X) (t : Bool) (y : Y) (e : E) → o ≡ result_ok r
    → map_ok f r ≡ cond t (Ok y) (Err e) → option_map f o ≡ cond t (Some y) None
made_of f (Ok x) o true y e h k = ap (option_map f) h ∙ (let i : f x ≡ y = cc in ap Some i)
made_of f (Ok x) o false y e h k = absurd (let z : ◌≡◌ {A = ℕ} 0 1 = cc in omega arith)
made_of f (Err x) o true y e h k = absurd (let z : ◌≡◌ {A = ℕ} 0 1 = cc in omega arith)
made_of f (Err x) o false y e h k = ap (option_map f) h
