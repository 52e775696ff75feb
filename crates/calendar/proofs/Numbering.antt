-- The number of every date: real dates up to the last day have one, and no others.
use Rattle.std.proofs.Common.{◌≡◌, ℕ, suc, ◌+◌, ◌-◌, ◌<◌, ◌≤◌, true, leb, Some, sym, ap, ◌∙◌, inl, inr, arith}
use Rattle.std.proofs.lemmas.Bool.{cases_lt, cond-true, and_parts, and_from, leb-true, le-leb}
use Rattle.std.proofs.lemmas.Bool.Decides.{nat_tests}
use Rattle.calendar.specs.declared.date.Date.{Date}
use Rattle.calendar.specs.Dates.{year_length, month_length, date_of, day_number, month_of, last_day, dated, first_counted, numbered, number_of}
use Rattle.calendar.specs.Laws.{Real}
use Rattle.calendar.proofs.Choosing.{given}
use Rattle.calendar.proofs.Counting.{total_last, total_grows}
use Rattle.calendar.proofs.Dating.{month_in_year, date_of_is, date_of_real, date_of_number}

-- a date with a number: it is real, and the number's date is that date
pub record Known (d : Date) (n : ℕ) : Type 0 where
  pub real : Real d
  pub number : day_number d ≡ n
  pub within : n ≤ last_day
  pub back : date_of n ≡ d

pub known : (d : Date) (n : ℕ) → number_of d ≡ Some n → Known d n
known d n e =
    let t = given (numbered d) (day_number d) n e in
    let a = and_parts (first_counted (month_of d)) _ t.so in
    let b = and_parts (leb 1 d.day) _ a.1 in
    let c = and_parts (leb d.day (month_length d.year d.month)) _ b.1 in
    let m = a.0 in
    let real : Real d = record {
      from_2000 = grind (arith, nat_tests);
      to_2100 = grind (arith, nat_tests);
      from_january = grind (arith, nat_tests);
      to_december = grind (arith, nat_tests);
      from_first = leb-true 1 d.day b.0;
      to_last = leb-true _ _ c.0;
    } in
    record {
      real = real;
      number = t.same;
      within = omega (arith, leb-true (day_number d) last_day c.1, t.same);
      back = ap date_of (sym t.same) ∙ date_of_is d real;
    }

-- a date of the years 2000 to 2099 comes before the last day
pub before_last : (d : Date) → Real d → d.year ≤ 2099 → day_number d < last_day
before_last d r h =
    let k = d.year - 2000 in
    let j = d.month - 1 in
    let ye : 2000 + k ≡ d.year = omega (arith, r.from_2000) in
    let me : 1 + j ≡ d.month = omega (arith, r.from_january) in
    let we = ap (month_length d.year) me in
    let le = ap year_length ye in
    let inside = month_in_year d.year j (d.day - 1) (omega (arith, r.to_december)) (omega (arith, we, r.to_last, r.from_first)) in
    let s = total_last year_length 2000 k in
    let g = total_grows year_length 2000 (suc k) 100 (omega arith) in
    omega (arith, inside, s, g, le)

-- January is the only month of 2100 that begins by the last day
only_january : (d : Date) → Real d → 2100 ≤ d.year → day_number d ≤ last_day → d.month ≡ 1
only_january d r y h =
    let k : 100 ≤ d.year - 2000 = omega (arith, y) in
    let g = total_grows year_length 2000 100 (d.year - 2000) k in
    elim (cases_lt d.month 2) [
      | inl l ↦ omega (arith, l, r.from_january)
      | inr m ↦ let t = total_grows (month_length d.year) 1 1 (d.month - 1) (omega arith) in absurd (omega (arith, g, t, h))
    ]

first_counted_lem : (d : Date) → Real d → day_number d ≤ last_day → first_counted (month_of d) ≡ true
first_counted_lem d r h =
    let a = r.from_2000 in
    let b = r.to_2100 in
    let c = r.from_january in
    let e = r.to_december in
    elim (cases_lt d.year 2100) [
      | inl l ↦ grind (arith, nat_tests)
      | inr g ↦ let m = only_january d r g h in grind (arith, nat_tests)
    ]

-- every real date up to the last day has its number
pub has_number : (d : Date) → Real d → day_number d ≤ last_day → number_of d ≡ Some (day_number d)
has_number d r h =
    cond-true _ _ _ (and_from _ _ (first_counted_lem d r h) (and_from _ _ (le-leb 1 d.day r.from_first) (and_from _ _ (le-leb _ _ r.to_last) (le-leb (day_number d) last_day h))))

-- a day's date has the day's number
pub number_back : (n : ℕ) → n ≤ last_day → number_of (date_of n) ≡ Some n
number_back n h =
    let e = date_of_number n h in
    has_number (date_of n) (date_of_real n h) (omega (arith, e)) ∙ ap Some e

-- a day number that has a date
pub dated_is : (n : ℕ) (d : Date) → dated n ≡ Some d → (n ≤ last_day) × (date_of n ≡ d)
dated_is n d e = let t = given (leb n last_day) (date_of n) d e in (leb-true n last_day t.so, t.same)
