-- The day after a day, and the order of days and months.
use Rattle.std.proofs.Common.{◌≡◌, ℕ, suc, ◌+◌, ◌-◌, ◌*◌, ◌<◌, ◌≤◌, Some, sym, refl, ap, ◌∙◌, inl, inr, add-one, arith}
use native.Mathlib.Decide.{le_ind}
use Rattle.std.proofs.lemmas.Bool.{lt-ltb, le-ltb, cases_lt, cond-true, cond-false}
use Rattle.std.proofs.lemmas.Bool.Decides.{nat_tests}
use Rattle.calendar.specs.declared.date.Date.{Date}
use Rattle.calendar.specs.declared.date.CalendarMonth.{CalendarMonth}
use Rattle.calendar.specs.Dates.{year_length, month_length, total, date, date_of, first_day, month_of, counted, first_counted, first_day_of, last_day_of, last_day}
use Rattle.calendar.specs.Laws.{Real, day_after, month_index}
use Rattle.calendar.proofs.Choosing.{given}
use Rattle.calendar.proofs.Counting.{total_last, total_more, total_fewer}
use Rattle.calendar.proofs.Dating.{Count, count_of, count_date, date_at, date_of_real, date_of_number, months_fill, month_least, month_most, same_date, held_by_month}

-- the three ways on from a date
pub after_in_month : (d : Date) → d.day < month_length d.year d.month → day_after d ≡ date d.year d.month (d.day + 1)
after_in_month d l = cond-true _ _ _ (lt-ltb d.day (month_length d.year d.month) l)

pub after_in_year : (d : Date) → month_length d.year d.month ≤ d.day → d.month < 12 → day_after d ≡ date d.year (d.month + 1) 1
after_in_year d g l =
    cond-false _ _ _ (le-ltb d.day (month_length d.year d.month) g) ∙ cond-true _ _ _ (lt-ltb d.month 12 l)

pub after_year : (d : Date) → month_length d.year d.month ≤ d.day → 12 ≤ d.month → day_after d ≡ date (d.year + 1) 1 1
after_year d g l =
    cond-false _ _ _ (le-ltb d.day (month_length d.year d.month) g) ∙ cond-false _ _ _ (le-ltb d.month 12 l)

module _ (n : ℕ) (c : Count n) where
  in_month : c.q + 1 < month_length (2000 + c.k) (1 + c.j) → date_of (n + 1) ≡ day_after (date (2000 + c.k) (1 + c.j) (c.q + 1))
  in_month l =
      date_at (n + 1) c.k c.j (c.q + 1) c.years c.months l (omega (arith, c.sum))
      ∙ sym (after_in_month (date (2000 + c.k) (1 + c.j) (c.q + 1)) l)

  in_year_lem : month_length (2000 + c.k) (1 + c.j) ≤ c.q + 1 → c.j < 11 → date_of (n + 1) ≡ day_after (date (2000 + c.k) (1 + c.j) (c.q + 1))
  in_year_lem g l =
      let s = total_last (month_length (2000 + c.k)) 1 c.j in
      let m = month_least (2000 + c.k) (1 + suc c.j) (omega arith) (omega arith) in
      date_at (n + 1) c.k (suc c.j) 0 c.years (omega arith) (omega (arith, m)) (omega (arith, s, c.sum, c.days))
      ∙ same_date refl (omega arith) refl
      ∙ sym (after_in_year (date (2000 + c.k) (1 + c.j) (c.q + 1)) g (omega arith))

  in_next_year : n < last_day → month_length (2000 + c.k) (1 + c.j) ≤ c.q + 1 → 11 ≤ c.j → date_of (n + 1) ≡ day_after (date (2000 + c.k) (1 + c.j) (c.q + 1))
  in_next_year h g l =
      let s = total_last (month_length (2000 + c.k)) 1 c.j in
      let j : suc c.j ≡ 12 = omega (arith, c.months) in
      let w = ap (total (month_length (2000 + c.k)) 1) j ∙ months_fill (2000 + c.k) in
      let t = total_last year_length 2000 c.k in
      let k = total_fewer year_length 2000 c.k 100 (omega (arith, c.sum)) in
      date_at (n + 1) (suc c.k) 0 0 (omega (arith, k)) (omega arith) (omega arith) (omega (arith, s, w, t, c.sum, c.days))
      ∙ same_date (omega arith) refl refl
      ∙ sym (after_year (date (2000 + c.k) (1 + c.j) (c.q + 1)) g (omega arith))

  counted_next : n < last_day → date_of (n + 1) ≡ day_after (date (2000 + c.k) (1 + c.j) (c.q + 1))
  counted_next h =
      elim (cases_lt (c.q + 1) (month_length (2000 + c.k) (1 + c.j))) [
        | inl l ↦ in_month l
        | inr g ↦ elim (cases_lt c.j 11) [ inl l ↦ in_year_lem g l | inr e ↦ in_next_year h g e ]
      ]

-- the date of the next day is the day after
pub next_day : (n : ℕ) → n < last_day → date_of (n + 1) ≡ day_after (date_of n)
next_day n h =
    let c = count_of n (omega arith) in
    counted_next n c h ∙ ap day_after (sym (count_date n c))

-- on another day than its month's last the month stays
pub month_stays : (n : ℕ) → n < last_day → n + 1 < first_day (date_of n).year (date_of n).month + month_length (date_of n).year (date_of n).month → month_of (date_of (n + 1)) ≡ month_of (date_of n)
month_stays n h l =
    let e = date_of_number n (omega arith) in
    let r = date_of_real n (omega arith) in
    ap month_of (next_day n h ∙ after_in_month (date_of n) (omega (arith, e, r.from_first)))

-- on its last day the next month follows
pub after_month_index : (d : Date) → Real d → month_length d.year d.month ≤ d.day → month_index (month_of (day_after d)) ≡ month_index (month_of d) + 1
after_month_index d r g =
    elim (cases_lt d.month 12) [
      | inl l ↦ ap (λ (x : Date). month_index (month_of x)) (after_in_year d g l) ∙ omega arith
      | inr e ↦ ap (λ (x : Date). month_index (month_of x)) (after_year d g e) ∙ omega (arith, r.to_december)
    ]

pub month_turns : (n : ℕ) → n < last_day → n + 1 ≡ first_day (date_of n).year (date_of n).month + month_length (date_of n).year (date_of n).month → month_index (month_of (date_of (n + 1))) ≡ month_index (month_of (date_of n)) + 1
month_turns n h l =
    let e = date_of_number n (omega arith) in
    let r = date_of_real n (omega arith) in
    ap (λ (x : Date). month_index (month_of x)) (next_day n h) ∙ after_month_index (date_of n) r (omega (arith, e, r.from_first))

-- each day lies in its month
pub in_its_month : (n : ℕ) → n ≤ last_day → (first_day (date_of n).year (date_of n).month ≤ n) × (n < first_day (date_of n).year (date_of n).month + month_length (date_of n).year (date_of n).month)
in_its_month n h =
    let e = date_of_number n h in
    let r = date_of_real n h in
    (omega (arith, e), omega (arith, e, r.from_first, r.to_last))

-- dates by year, then month, then day
abbrev pub rank : Date → ℕ
rank d = 32 * month_index (month_of d) + d.day

pub after_rank : (d : Date) → Real d → rank d < rank (day_after d)
after_rank d r =
    let most = month_most d.year d.month in
    elim (cases_lt d.day (month_length d.year d.month)) [
      | inl l ↦ rw (after_in_month d l) (omega arith)
      | inr g ↦
          elim (cases_lt d.month 12) [
            | inl l ↦ rw (after_in_year d g l) (omega (arith, r.to_last, most))
            | inr e ↦ rw (after_year d g e) (omega (arith, r.to_last, r.to_december, most))
          ]
    ]

pub rank_step : (n : ℕ) → n < last_day → rank (date_of n) < rank (date_of (n + 1))
rank_step n h = rw (next_day n h) (after_rank (date_of n) (date_of_real n (omega arith)))

-- later days have later dates
pub dates_in_order : (n k : ℕ) → n ≤ k → k ≤ last_day → rank (date_of n) ≤ rank (date_of k)
dates_in_order n k h =
    le_ind (λ (m : ℕ). m ≤ last_day → rank (date_of n) ≤ rank (date_of m))
    (λ _. omega arith)
    (λ m g before l.
    let s = rank_step m (omega arith) in
    let b = before (omega arith) in
    let e = ap (λ (x : ℕ). rank (date_of x)) (add-one m) in
    omega (arith, s, b, e))
    k h

-- and later dates are of later days
pub days_in_order : (n k : ℕ) → n ≤ last_day → rank (date_of n) ≤ rank (date_of k) → n ≤ k
days_in_order n k h l =
    elim (cases_lt k n) [
      | inl g ↦
          let s = rank_step k (omega arith) in
          let b = dates_in_order (k + 1) n (omega arith) h in
          absurd (omega (arith, s, b))
      | inr e ↦ e
    ]

-- months never go back
pub months_in_order : (n k : ℕ) → n ≤ k → k ≤ last_day → month_index (month_of (date_of n)) ≤ month_index (month_of (date_of k))
months_in_order n k h l =
    let o = dates_in_order n k h l in
    let r = date_of_real k l in
    let most = month_most (date_of k).year (date_of k).month in
    omega (arith, o, r.to_last, most)

-- each month begins where the one before it ends
pub month_adjoins : (y m : ℕ) → 1 ≤ m → m < 12 → first_day y (m + 1) ≡ first_day y m + month_length y m
month_adjoins y m a b = let t = total_more (month_length y) 1 m a in omega (arith, t)

-- and each year where its December ends
pub year_adjoins : (y : ℕ) → 2000 ≤ y → first_day (y + 1) 1 ≡ first_day y 12 + month_length y 12
year_adjoins y a =
    let t = total_more year_length 2000 y a in
    let f = months_fill y in
    omega (arith, t, f)

-- a month that answers a last day: a month of the years 2000 to 2099
pub record Whole (m : CalendarMonth) (f l : ℕ) : Type 0 where
  pub from_2000 : 2000 ≤ m.year
  pub to_2099 : m.year ≤ 2099
  pub from_january : 1 ≤ m.month
  pub to_december : m.month ≤ 12
  pub first : f ≡ first_day m.year m.month
  pub last : l + 1 ≡ first_day m.year m.month + month_length m.year m.month

pub whole : (m : CalendarMonth) (f l : ℕ) → first_day_of m ≡ Some f → last_day_of m ≡ Some l → Whole m f l
whole m f l a b =
    let t = given (first_counted m) (first_day m.year m.month) f a in
    let u = given (counted m) (first_day m.year m.month + month_length m.year m.month - 1) l b in
    let c = u.so in
    let low : 1 ≤ m.month = grind (arith, nat_tests) in
    let high : m.month ≤ 12 = grind (arith, nat_tests) in
    let least = month_least m.year m.month low high in
    record {
      from_2000 = grind (arith, nat_tests);
      to_2099 = grind (arith, nat_tests);
      from_january = low;
      to_december = high;
      first = sym t.same;
      last = omega (arith, u.same, least);
    }

-- its days are those from its first day to its last
pub month_days : (m : CalendarMonth) (f l n : ℕ) → first_day_of m ≡ Some f → last_day_of m ≡ Some l
    → (n ≤ last_day → month_of (date_of n) ≡ m → (f ≤ n) × (n ≤ l)) × (f ≤ n → n ≤ l → month_of (date_of n) ≡ m)
month_days m f l n a b =
    let w = whole m f l a b in (
      (λ h e.
          let i = in_its_month n h in
          let x = ap (λ (k : CalendarMonth). first_day k.year k.month) e in
          let y = ap (λ (k : CalendarMonth). month_length k.year k.month) e in
          (omega (arith, i, x, w.first), omega (arith, i, x, y, w.last))),
      λ g h. ap month_of (held_by_month n m.year m.month w.from_2000 (omega (arith, w.to_2099)) w.from_january w.to_december (omega (arith, w.first)) (omega (arith, w.last))),
    )
