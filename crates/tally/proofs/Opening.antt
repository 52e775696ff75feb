-- Where an open month stands in the calendar: how it begins, what today's date is, and how the next month follows.
use Rattle.std.proofs.Common.{◌≡◌, ℕ, ◌+◌, ◌-◌, ◌<◌, ◌≤◌, true, false, cond, ◌&&◌, eqb, ltb, leb, sym, refl, ap, ◌∙◌, arith}
use Rattle.std.proofs.lemmas.Bool.Decides.{nat_tests}
use Rattle.calendar.specs.Dates.{date, date_of, month_of, day_number, first_day, month_length, counted, first_counted, last_day}
use Rattle.calendar.specs.Laws.{month_index}
use Rattle.calendar.specs.declared.date.CalendarMonth.{CalendarMonth}
use Rattle.calendar.proofs.Dating.{date_of_real, date_of_number, last_date_lem, held_by_month, month_least}
use Rattle.calendar.proofs.Following.{months_in_order, month_adjoins, year_adjoins}
use Rattle.tally.specs.Progress.{Progress, is_full, month_after}

-- a month whose first day has a number lies in 2000 to 2099, or is January 2100
pub record Placed (m : CalendarMonth) : Type 0 where
  pub from_2000 : 2000 ≤ m.year
  pub to_2100 : m.year ≤ 2100
  pub from_january : 1 ≤ m.month
  pub to_december : m.month ≤ 12
  pub last : m.year ≡ 2100 → m.month ≡ 1

pub placed : (m : CalendarMonth) → first_counted m ≡ true → Placed m
placed m h =
    record {
      from_2000 = grind (arith, nat_tests);
      to_2100 = grind (arith, nat_tests);
      from_january = grind (arith, nat_tests);
      to_december = grind (arith, nat_tests);
      last = λ e. grind (arith, nat_tests);
    }

pub first_counted_lem : (m : CalendarMonth) → Placed m → first_counted m ≡ true
first_counted_lem m p =
    let a = p.from_2000 in
    let b = p.to_2100 in
    let c = p.from_january in
    let d = p.to_december in
    let e : (m.year ≤ 2099) → first_counted m ≡ true = λ h. grind (arith, nat_tests) in
    let f : (m.year ≡ 2100) → first_counted m ≡ true = λ h. let k = p.last h in grind (arith, nat_tests) in
    elim (leb m.year 2099) as (λ t. leb m.year 2099 ≡ t → first_counted m ≡ true) [
      | true ↦ λ q. e (grind (arith, nat_tests))
      | false ↦ λ q. f (grind (arith, nat_tests))
    ] refl

-- the month of a day up to the last with a number
pub of_day : (n : ℕ) → n ≤ last_day → Placed (month_of (date_of n))
of_day n h =
    let r = date_of_real n h in
    let i = months_in_order n last_day h (omega arith) in
    let e : month_index (month_of (date_of last_day)) ≡ 25201 = ap (λ d. month_index (month_of d)) last_date_lem in
    record {
      from_2000 = r.from_2000;
      to_2100 = r.to_2100;
      from_january = r.from_january;
      to_december = r.to_december;
      last = λ y. omega (arith, i, e, y, r.from_january);
    }

-- a month's first day stands where its month begins
pub at_first : (n : ℕ) → n ≤ last_day → (date_of n).day ≡ 1 → n ≡ first_day (date_of n).year (date_of n).month + 0
at_first n h e = let k = date_of_number n h in omega (arith, k, e)

-- the date of a day of the month, by the days before it
pub date_in : (m : CalendarMonth) (today days : ℕ) → Placed m → today ≡ first_day m.year m.month + days
    → days < month_length m.year m.month → date m.year m.month (days + 1) ≡ date_of today
date_in m today days p t l =
    let h = held_by_month today m.year m.month p.from_2000 p.to_2100 p.from_january p.to_december (omega (arith, t)) (omega (arith, t, l)) in
    let e : days + 1 ≡ today - first_day m.year m.month + 1 = omega (arith, t) in
    ap (date m.year m.month) e ∙ sym h

-- the last month begins on the last day
last_first : first_day 2100 1 ≡ last_day
last_first =
    let k = date_of_number last_day (omega arith) in
    let e : day_number (date_of last_day) ≡ first_day 2100 1 + (1 - 1) = ap day_number last_date_lem in
    omega (arith, k, e)

-- the month after a whole month
pub after : (m : CalendarMonth) → counted m ≡ true → Placed (month_after m)
after m h =
    let y : m.year ≤ 2099 = grind (arith, nat_tests) in
    let z : 2000 ≤ m.year = grind (arith, nat_tests) in
    let a : 1 ≤ m.month = grind (arith, nat_tests) in
    let b : m.month ≤ 12 = grind (arith, nat_tests) in
    elim (ltb m.month 12) as (λ t. ltb m.month 12 ≡ t → Placed (cond t (record { year = m.year; month = m.month + 1 }) (record { year = m.year + 1; month = 1 }))) [
      | true ↦ λ q. let l : m.month < 12 = grind (arith, nat_tests) in
          record { from_2000 = z; to_2100 = omega arith; from_january = omega arith; to_december = omega arith; last = λ e. absurd (omega arith) }
      | false ↦ λ q. record { from_2000 = omega arith; to_2100 = omega arith; from_january = omega arith; to_december = omega arith; last = λ e. refl }
    ] refl

pub adjoins : (m : CalendarMonth) → counted m ≡ true
    → first_day (month_after m).year (month_after m).month ≡ first_day m.year m.month + month_length m.year m.month
adjoins m h =
    let z : 2000 ≤ m.year = grind (arith, nat_tests) in
    let a : 1 ≤ m.month = grind (arith, nat_tests) in
    let b : m.month ≤ 12 = grind (arith, nat_tests) in
    let goal : CalendarMonth → Type 0 = λ x. first_day x.year x.month ≡ first_day m.year m.month + month_length m.year m.month in
    elim (ltb m.month 12) as (λ t. ltb m.month 12 ≡ t → goal (cond t (record { year = m.year; month = m.month + 1 }) (record { year = m.year + 1; month = 1 }))) [
      | true ↦ λ q. month_adjoins m.year m.month a (grind (arith, nat_tests))
      | false ↦ λ q. let e : m.month ≡ 12 = grind (arith, nat_tests) in rw e (year_adjoins m.year z)
    ] refl

-- while a month is not full, one of its days is left
pub not_full : (p : Progress) → Placed p.month → p.today ≡ first_day p.month.year p.month.month + p.days
    → p.days ≤ month_length p.month.year p.month.month → p.today ≤ last_day → is_full p ≡ false
    → p.days < month_length p.month.year p.month.month
not_full p m tied inside ended f =
    elim (leb p.month.year 2099) as (λ t. leb p.month.year 2099 ≡ t → p.days < month_length p.month.year p.month.month) [
      | true ↦ λ e.
          let a = m.from_2000 in
          let b = m.from_january in
          let c = m.to_december in
          let k : counted p.month ≡ true = grind (arith, nat_tests) in
          let n : eqb p.days (month_length p.month.year p.month.month) ≡ false =
          ap (λ t. t && eqb p.days (month_length p.month.year p.month.month)) (sym k) ∙ f in
          let z : p.days ≡ month_length p.month.year p.month.month → ⊥ = λ i. grind (arith, nat_tests) in
          grind (arith, nat_tests)
      | false ↦ λ e.
          let a = m.to_2100 in
          let y : p.month.year ≡ 2100 = grind (arith, nat_tests) in
          let n = m.last y in
          let first : first_day p.month.year p.month.month ≡ last_day = ap (λ k. first_day k p.month.month) y ∙ ap (first_day 2100) n ∙ last_first in
          let l = month_least p.month.year p.month.month m.from_january m.to_december in
          omega (arith, first, tied, ended, l)
    ] refl
