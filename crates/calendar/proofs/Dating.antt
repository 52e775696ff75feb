-- The date of every day number: it is real, its number is the day's, and the next day's date follows it.
use Rattle.std.proofs.Common.{◌≡◌, ℕ, suc, ◌+◌, ◌-◌, ◌<◌, ◌≤◌, cond, sym, refl, ap, ◌∙◌, inl, inr, arith}
use Rattle.std.proofs.lemmas.Bool.{cases_Bool, cond_both}
use Rattle.std.proofs.lemmas.Bool.Decides.{nat_tests}
use Rattle.calendar.specs.declared.date.Date.{Date}
use Rattle.calendar.specs.Dates.{leap, year_length, month_length, total, date, in_year, from_year, date_of, first_day, day_number, last_day}
use Rattle.calendar.specs.Laws.{Real}
use Rattle.calendar.proofs.Counting.{total_last, total_grows, lands, placed}

pub same_date : {y z m n d e : ℕ} → y ≡ z → m ≡ n → d ≡ e → date y m d ≡ date z n e
same_date p q r = cc

-- the twelve months fill the year
pub months_fill : (y : ℕ) → total (month_length y) 1 12 ≡ year_length y
months_fill y = elim (cases_Bool (leap y)) [ inl e ↦ rw e | inr e ↦ rw e ]

pub year_most : (y : ℕ) → year_length y ≤ 366
year_most y = cond_both (leap y) 366 365 (λ x. x ≤ 366) (λ e. omega arith) (λ e. omega arith)

pub february_least : (y : ℕ) → 28 ≤ cond (leap y) 29 28
february_least y = cond_both (leap y) 29 28 (λ x. 28 ≤ x) (λ e. omega arith) (λ e. omega arith)

pub month_least : (y m : ℕ) → 1 ≤ m → m ≤ 12 → 28 ≤ month_length y m
month_least y m a b = let f = february_least y in grind (arith, nat_tests)

pub february_most : (y : ℕ) → cond (leap y) 29 28 ≤ 29
february_most y = cond_both (leap y) 29 28 (λ x. x ≤ 29) (λ e. omega arith) (λ e. omega arith)

pub month_most : (y m : ℕ) → month_length y m ≤ 31
month_most y m = let f = february_most y in grind (arith, nat_tests)

-- the years before one up to 2100 have at most 36,525 days
pub years_low : (y : ℕ) → y ≤ 2100 → total year_length 2000 (y - 2000) ≤ last_day
years_low y h = let g = total_grows year_length 2000 (y - 2000) 100 (omega arith) in omega (arith, g)

-- the months before one have at most 366 days
pub months_low : (y m : ℕ) → m ≤ 12 → total (month_length y) 1 (m - 1) ≤ 366
months_low y m h =
    let g = total_grows (month_length y) 1 (m - 1) 12 (omega arith) in
    let f = months_fill y in
    let l = year_most y in
    omega (arith, g, f, l)

-- a day of a month is a day of its year
pub month_in_year : (y j q : ℕ) → j ≤ 11 → q < month_length y (1 + j) → total (month_length y) 1 j + q < year_length y
month_in_year y j q h l =
    let s = total_last (month_length y) 1 j in
    let g = total_grows (month_length y) 1 (suc j) 12 (omega arith) in
    let f = months_fill y in
    omega (arith, s, g, f)

-- the date at j months and q days into the year k years after 2000
pub date_at : (n k j q : ℕ) → k ≤ 100 → j ≤ 11 → q < month_length (2000 + k) (1 + j)
    → n ≡ total year_length 2000 k + (total (month_length (2000 + k)) 1 j + q) → date_of n ≡ date (2000 + k) (1 + j) (q + 1)
unfolding date_of
date_at n k j q hk hj hq e =
    let y = 2000 + k in
    let r = total (month_length y) 1 j + q in
    let years = lands year_length 100 2000 k n r hk e (month_in_year y j q hj hq) in
    let months = lands (month_length y) 11 1 j r q hj refl hq in
    ap from_year years ∙ ap (in_year y) months

-- how a day's date is counted: k years after 2000, j months and q days
pub record Count (n : ℕ) : Type 0 where
  pub k : ℕ
  pub j : ℕ
  pub q : ℕ
  pub years : k ≤ 100
  pub months : j ≤ 11
  pub days : q < month_length (2000 + k) (1 + j)
  pub sum : n ≡ total year_length 2000 k + (total (month_length (2000 + k)) 1 j + q)

-- every day number is counted so
pub count_of : (n : ℕ) → n ≤ last_day → Count n
count_of n h =
    let a = placed year_length 100 2000 n (omega arith) in
    let f = months_fill (2000 + a.k) in
    let b = placed (month_length (2000 + a.k)) 11 1 a.r (omega (arith, a.rest, f)) in
    record {
      k = a.k;
      j = b.k;
      q = b.r;
      years = a.near;
      months = b.near;
      days = b.rest;
      sum = omega (arith, a.sum, b.sum);
    }

pub count_date : (n : ℕ) (c : Count n) → date_of n ≡ date (2000 + c.k) (1 + c.j) (c.q + 1)
count_date n c = date_at n c.k c.j c.q c.years c.months c.days c.sum

-- a real date is the date of its number
pub date_of_is : (d : Date) → Real d → date_of (day_number d) ≡ d
date_of_is d real =
    let k = d.year - 2000 in
    let j = d.month - 1 in
    let ye : 2000 + k ≡ d.year = omega (arith, real.from_2000) in
    let me : 1 + j ≡ d.month = omega (arith, real.from_january) in
    let de : d.day - 1 + 1 ≡ d.day = omega (arith, real.from_first) in
    let we : month_length (2000 + k) (1 + j) ≡ month_length d.year d.month = ap (λ (y : ℕ). month_length y (1 + j)) ye ∙ ap (month_length d.year) me in
    let te : total (month_length (2000 + k)) 1 j ≡ total (month_length d.year) 1 j = ap (λ (y : ℕ). total (month_length y) 1 j) ye in
    let at = date_at (day_number d) k j (d.day - 1) (omega (arith, real.to_2100)) (omega (arith, real.to_december))
    (omega (arith, we, real.to_last, real.from_first)) (omega (arith, te)) in
    at ∙ same_date ye me de

-- each day's date is real
pub date_of_real : (n : ℕ) → n ≤ last_day → Real (date_of n)
date_of_real n h =
    let c = count_of n h in
    rw (count_date n c) (record {
      from_2000 = omega arith;
      to_2100 = omega (arith, c.years);
      from_january = omega arith;
      to_december = omega (arith, c.months);
      from_first = omega arith;
      to_last = omega (arith, c.days);
    })

-- the number of a day's date is the day's
pub date_of_number : (n : ℕ) → n ≤ last_day → day_number (date_of n) ≡ n
date_of_number n h =
    let c = count_of n h in
    let ye : 2000 + c.k - 2000 ≡ c.k = omega arith in
    let me : 1 + c.j - 1 ≡ c.j = omega arith in
    let a = ap (total year_length 2000) ye in
    let b = ap (total (month_length (2000 + c.k)) 1) me in
    ap day_number (count_date n c) ∙ omega (arith, a, b, c.sum)

pub first_date_lem : date_of 0 ≡ date 2000 1 1
first_date_lem = date_at 0 0 0 0 (omega arith) (omega arith) (omega arith) refl

pub last_date_lem : date_of last_day ≡ date 2100 1 1
last_date_lem = date_at last_day 100 0 0 (omega arith) (omega arith) (omega arith) refl

-- two days of one date are one day
pub one_day : (n k : ℕ) → n ≤ last_day → k ≤ last_day → date_of n ≡ date_of k → n ≡ k
one_day n k h l e = sym (date_of_number n h) ∙ ap day_number e ∙ date_of_number k l

-- the days from a month's first to its last are in that month
pub held_by_month : (n y m : ℕ) → 2000 ≤ y → y ≤ 2100 → 1 ≤ m → m ≤ 12 → first_day y m ≤ n → n < first_day y m + month_length y m → date_of n ≡ date y m (n - first_day y m + 1)
held_by_month n y m a b c e f g =
    let d = date y m (n - first_day y m + 1) in
    let r : Real d = record { from_2000 = a; to_2100 = b; from_january = c; to_december = e; from_first = omega arith; to_last = omega arith } in
    let i : n ≡ day_number d = omega arith in
    ap date_of i ∙ date_of_is d r
