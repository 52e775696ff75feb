-- Which days a season holds, which months are credited to it, and the order of seasons.
use Rattle.std.proofs.Common.{◌≡◌, ℕ, ◌+◌, ◌-◌, ◌*◌, ◌<◌, ◌≤◌, true, false, ◌&&◌, eqb, ◌⊎◌, Some, None, sym, refl, ap, ◌∙◌, subst, inl, inr, arith}
use Rattle.std.proofs.lemmas.Bool.{cases_lt, cond-true, cond-false, and_left, and_parts, or_cases, eqb-true}
use Rattle.std.proofs.lemmas.Bool.Decides.{nat_tests}
use Rattle.calendar.specs.declared.date.Date.{Date}
use Rattle.calendar.specs.declared.date.CalendarMonth.{CalendarMonth}
use Rattle.calendar.specs.declared.season.Season.{Season}
use Rattle.calendar.specs.declared.season.SeasonKind.{SeasonKind}
use Rattle.calendar.specs.declared.season.SeasonKind.TheVariants.{Summer, Winter}
use Rattle.calendar.specs.Dates.{month_length, first_day, date, date_of, month_of, last_day, first_counted, number_of}
use Rattle.calendar.specs.Seasons.{in_summer, in_december, in_late_winter, summer, winter, season_of, opens, first_date_in, first_date, last_date, season_first, season_last, credited_season}
use Rattle.calendar.specs.Laws.{Real, month_index, season_index}
use Rattle.calendar.proofs.Choosing.{Taken, taken}
use Rattle.calendar.proofs.Dating.{month_most, month_least, date_of_real, last_date_lem, same_date}
use Rattle.calendar.proofs.Numbering.{known, before_last, has_number, number_back}
use Rattle.calendar.proofs.Following.{rank, dates_in_order, days_in_order}

pub held : (d : Date) (s : Season) → season_of d ≡ Some s
    → Taken (in_summer d) (summer d.year) s ⊎ (Taken (in_december d) (winter d.year) s ⊎ Taken (in_late_winter d) (winter (d.year - 1)) s)
held d s e = taken (in_summer d) (in_december d) (in_late_winter d) (summer d.year) (winter d.year) (winter (d.year - 1)) s e

pub september : (y m : ℕ) → m ≡ 9 → month_length y m ≡ 30
september y m e = ap (month_length y) e

-- what a season holds lies between its first and its last date
pub record Spanned (s : Season) (d : Date) : Type 0 where
  pub from : rank (first_date s) ≤ rank d
  pub to : rank d ≤ rank (last_date s)

module _ (d : Date) (year : 1 ≤ d.year) (first : 1 ≤ d.day) (last : d.day ≤ month_length d.year d.month) where
  summer_spans : in_summer d ≡ true → Spanned (summer d.year) d
  summer_spans t =
      let most = month_most d.year d.month in
      let low : 32 * 5 + 16 ≤ 32 * d.month + d.day = grind (arith, nat_tests) in
      let high : d.month ≤ 9 = grind (arith, nat_tests) in
      record {
        from = omega (arith, low);
        to = elim (cases_lt d.month 9) [
          | inl l ↦ omega (arith, most, last)
          | inr e ↦ let s = september d.year d.month (omega (arith, high)) in omega (arith, high, s, last)
        ];
      }

  december_spans : in_december d ≡ true → Spanned (winter d.year) d
  december_spans t =
      let most = month_most d.year d.month in
      let is : d.month ≡ 12 = grind (arith, nat_tests) in
      record { from = omega (arith, is, first); to = omega (arith, is, most, last) }

  late_winter_spans : in_late_winter d ≡ true → Spanned (winter (d.year - 1)) d
  late_winter_spans t =
      let most = month_most d.year d.month in
      let low : 1 ≤ d.month = grind (arith, nat_tests) in
      let high : d.month ≤ 3 = grind (arith, nat_tests) in
      record { from = omega (arith, low, first, year); to = omega (arith, high, most, last, year) }

  pub spanned : (s : Season) → season_of d ≡ Some s → Spanned s d
  spanned s e =
      elim (held d s e) [
        | inl t ↦ subst (λ (x : Season). Spanned x d) t.same (summer_spans t.so)
        | inr (inl t) ↦ subst (λ (x : Season). Spanned x d) t.same (december_spans t.so)
        | inr (inr t) ↦ subst (λ (x : Season). Spanned x d) t.same (late_winter_spans t.so)
      ]

-- and the dates between them are held by it
pub summer_holds : (d : Date) (y : ℕ) → Real d → Spanned (summer y) d → season_of d ≡ Some (summer y)
summer_holds d y r p =
    let most = month_most d.year d.month in
    let same : d.year ≡ y = omega (arith, p.from, p.to, r.from_january, r.to_december, r.to_last, most) in
    let t : in_summer d ≡ true = let low = p.from in let high = p.to in let day = r.to_last in let month = r.to_december in grind (arith, nat_tests) in
    cond-true _ _ _ t ∙ ap (λ (x : ℕ). Some (summer x)) same

pub winter_holds : (d : Date) (y : ℕ) → Real d → Spanned (winter y) d → season_of d ≡ Some (winter y)
winter_holds d y r p =
    let most = month_most d.year d.month in
    let low = p.from in
    let high = p.to in
    elim (cases_lt d.month 4) [
      | inl l ↦
          let same : d.year - 1 ≡ y = omega (arith, low, high, r.from_2000, r.to_last, r.from_january, most) in
          let one = r.from_january in
          let s : in_summer d ≡ false = grind (arith, nat_tests) in
          let t : in_december d ≡ false = grind (arith, nat_tests) in
          let u : in_late_winter d ≡ true = grind (arith, nat_tests) in
          cond-false _ _ _ s ∙ cond-false _ _ _ t ∙ cond-true _ _ _ u ∙ ap (λ (x : ℕ). Some (winter x)) same
      | inr g ↦
          let is : d.month ≡ 12 = omega (arith, low, high, r.to_december, r.to_last, r.from_first, most) in
          let same : d.year ≡ y = omega (arith, low, high, is, r.to_last, r.from_first, most) in
          let s : in_summer d ≡ false = grind (arith, nat_tests) in
          let t : in_december d ≡ true = grind (arith, nat_tests) in
          cond-false _ _ _ s ∙ cond-true _ _ _ t ∙ ap (λ (x : ℕ). Some (winter x)) same
    ]

holds_by : (k : SeasonKind) (y : ℕ) (d : Date) → Real d → Spanned (record { kind = k; year = y }) d → season_of d ≡ Some (record { kind = k; year = y })
holds_by Summer y d r p = summer_holds d y r p
holds_by Winter y d r p = winter_holds d y r p

pub holds : (s : Season) (d : Date) → Real d → Spanned s d → season_of d ≡ Some s
holds s d r p = holds_by s.kind s.year d r p

-- a day held by a season comes no earlier than its first day
pub held_from : (n : ℕ) (s : Season) (f : ℕ) → n ≤ last_day → season_of (date_of n) ≡ Some s → season_first s ≡ Some f → f ≤ n
held_from n s f h e g =
    let r = date_of_real n h in
    let p = spanned (date_of n) (omega (arith, r.from_2000)) r.from_first r.to_last s e in
    let k = known (first_date s) f g in
    let b = ap rank k.back in
    days_in_order f n k.within (omega (arith, b, p.from))

-- nor later than its last
pub held_to : (n : ℕ) (s : Season) (l : ℕ) → n ≤ last_day → season_of (date_of n) ≡ Some s → season_last s ≡ Some l → n ≤ l
held_to n s l h e g =
    let r = date_of_real n h in
    let p = spanned (date_of n) (omega (arith, r.from_2000)) r.from_first r.to_last s e in
    let k = known (last_date s) l g in
    let b = ap rank k.back in
    days_in_order n l h (omega (arith, b, p.to))

-- and each day between them is held by it
pub held_between : (n : ℕ) (s : Season) (f l : ℕ) → season_first s ≡ Some f → season_last s ≡ Some l → f ≤ n → n ≤ l → season_of (date_of n) ≡ Some s
held_between n s f l a b g h =
    let i = known (first_date s) f a in
    let j = known (last_date s) l b in
    let within : n ≤ last_day = omega (arith, j.within) in
    let p = dates_in_order f n g within in
    let q = dates_in_order n l h j.within in
    let x = ap rank i.back in
    let y = ap rank j.back in
    holds s (date_of n) (date_of_real n within) (record { from = omega (arith, p, x); to = omega (arith, q, y) })

-- the days before the first winter's last day are held by it
pub first_winter : (n l : ℕ) → season_last (winter 1999) ≡ Some l → n ≤ l → season_of (date_of n) ≡ Some (winter 1999)
first_winter n l b h =
    let j = known (last_date (winter 1999)) l b in
    let within : n ≤ last_day = omega (arith, j.within) in
    let q = dates_in_order n l h j.within in
    let y = ap rank j.back in
    let r = date_of_real n within in
    winter_holds (date_of n) 1999 r (record { from = omega (arith, r.from_2000, r.from_january, r.from_first); to = omega (arith, q, y) })

-- the days from the last winter's first day on are held by it
pub last_winter : (n f : ℕ) → season_first (winter 2099) ≡ Some f → f ≤ n → n ≤ last_day → season_of (date_of n) ≡ Some (winter 2099)
last_winter n f a g h =
    let i = known (first_date (winter 2099)) f a in
    let p = dates_in_order f n g h in
    let x = ap rank i.back in
    let q = dates_in_order n last_day h (omega arith) in
    let y = ap rank last_date_lem in
    winter_holds (date_of n) 2099 (date_of_real n h) (record { from = omega (arith, p, x); to = omega (arith, q, y) })

-- a day of a month in the years 2000 to 2099, by the month's first day
numbered_in : (y m d : ℕ) → 2000 ≤ y → y ≤ 2099 → 1 ≤ m → m ≤ 12 → 1 ≤ d → d ≤ month_length y m → number_of (date y m d) ≡ Some (first_day y m + (d - 1))
numbered_in y m d a b c e f g =
    let r : Real (date y m d) = record { from_2000 = a; to_2100 = omega arith; from_january = c; to_december = e; from_first = f; to_last = g } in
    let l = before_last (date y m d) r b in
    has_number (date y m d) r (omega (arith, l))

pub summer_first : (y : ℕ) → 2000 ≤ y → y ≤ 2099 → season_first (summer y) ≡ Some (first_day y 5 + 15)
summer_first y a b = numbered_in y 5 16 a b (omega arith) (omega arith) (omega arith) (omega arith)

pub summer_last : (y : ℕ) → 2000 ≤ y → y ≤ 2099 → season_last (summer y) ≡ Some (first_day y 9 + 29)
summer_last y a b = numbered_in y 9 30 a b (omega arith) (omega arith) (omega arith) (omega arith)

pub winter_first : (y : ℕ) → 2000 ≤ y → y ≤ 2099 → season_first (winter y) ≡ Some (first_day y 12)
winter_first y a b = numbered_in y 12 1 a b (omega arith) (omega arith) (omega arith) (omega arith) ∙ ap Some (omega arith)

pub winter_last : (y : ℕ) → 1999 ≤ y → y ≤ 2098 → season_last (winter y) ≡ Some (first_day (y + 1) 3 + 30)
winter_last y a b = numbered_in (y + 1) 3 31 (omega arith) (omega arith) (omega arith) (omega arith) (omega arith) (omega arith)

-- the days of a season with both numbers
between : (s : Season) (f l n : ℕ) → season_first s ≡ Some f → season_last s ≡ Some l → n ≤ last_day
    → (season_of (date_of n) ≡ Some s → (f ≤ n) × (n ≤ l)) × (f ≤ n → n ≤ l → season_of (date_of n) ≡ Some s)
between s f l n a b h = ((λ e. (held_from n s f h e a, held_to n s l h e b)), λ g k. held_between n s f l a b g k)

pub summer_days : (y n : ℕ) → 2000 ≤ y → y ≤ 2099 → n ≤ last_day
    → (season_of (date_of n) ≡ Some (summer y) → (first_day y 5 + 15 ≤ n) × (n ≤ first_day y 9 + 29))
    × (first_day y 5 + 15 ≤ n → n ≤ first_day y 9 + 29 → season_of (date_of n) ≡ Some (summer y))
summer_days y n a b h = between (summer y) (first_day y 5 + 15) (first_day y 9 + 29) n (summer_first y a b) (summer_last y a b) h

pub winter_days : (y n : ℕ) → 2000 ≤ y → y ≤ 2098 → n ≤ last_day
    → (season_of (date_of n) ≡ Some (winter y) → (first_day y 12 ≤ n) × (n ≤ first_day (y + 1) 3 + 30))
    × (first_day y 12 ≤ n → n ≤ first_day (y + 1) 3 + 30 → season_of (date_of n) ≡ Some (winter y))
winter_days y n a b h =
    between (winter y) (first_day y 12) (first_day (y + 1) 3 + 30) n (winter_first y a (omega arith)) (winter_last y (omega arith) b) h

unnumbered : (d : Date) → first_counted (month_of d) ≡ false → number_of d ≡ None
unnumbered d e = cond-false _ _ _ (and_left (first_counted (month_of d)) _ e)

-- a season that begins or ends on a day without a number
pub summer_unnumbered : (y : ℕ) → (y < 2000) ⊎ (2099 < y) → (season_first (summer y) ≡ None) × (season_last (summer y) ≡ None)
summer_unnumbered y (inl l) = (unnumbered (date y 5 16) (grind (arith, nat_tests)), unnumbered (date y 9 30) (grind (arith, nat_tests)))
summer_unnumbered y (inr g) = (unnumbered (date y 5 16) (grind (arith, nat_tests)), unnumbered (date y 9 30) (grind (arith, nat_tests)))

pub winter_unbegun : (y : ℕ) → (y < 2000) ⊎ (2099 < y) → season_first (winter y) ≡ None
winter_unbegun y (inl l) = unnumbered (date y 12 1) (grind (arith, nat_tests))
winter_unbegun y (inr g) = unnumbered (date y 12 1) (grind (arith, nat_tests))

pub winter_unended : (y : ℕ) → (y < 1999) ⊎ (2098 < y) → season_last (winter y) ≡ None
winter_unended y (inl l) = unnumbered (date (y + 1) 3 31) (grind (arith, nat_tests))
winter_unended y (inr g) = unnumbered (date (y + 1) 3 31) (grind (arith, nat_tests))

ordered_by : (k m : SeasonKind) (y z : ℕ) → rank (first_date (record { kind = k; year = y })) ≤ rank (last_date (record { kind = m; year = z })) → season_index (record { kind = k; year = y }) ≤ season_index (record { kind = m; year = z })
ordered_by Summer Summer y z h = omega arith
ordered_by Summer Winter y z h = omega arith
ordered_by Winter Summer y z h = omega arith
ordered_by Winter Winter y z h = omega arith

-- a season that begins no later than another ends comes no later
ordered : (s t : Season) → rank (first_date s) ≤ rank (last_date t) → season_index s ≤ season_index t
ordered s t h = ordered_by s.kind t.kind s.year t.year h

-- seasons never go back from day to day
pub seasons_in_order : (n k : ℕ) (s t : Season) → n ≤ k → k ≤ last_day → season_of (date_of n) ≡ Some s → season_of (date_of k) ≡ Some t → season_index s ≤ season_index t
seasons_in_order n k s t h l e f =
    let q = date_of_real n (omega arith) in
    let r = date_of_real k l in
    let a = spanned (date_of n) (omega (arith, q.from_2000)) q.from_first q.to_last s e in
    let b = spanned (date_of k) (omega (arith, r.from_2000)) r.from_first r.to_last t f in
    let o = dates_in_order n k h l in
    ordered s t (omega (arith, a.from, o, b.to))

-- the season to which a day's month is credited holds the day
pub credited_holds : (d : Date) (s : Season) → credited_season (month_of d) ≡ Some s → season_of d ≡ Some s
credited_holds d s e = grind (arith, nat_tests)

-- and outside May the season that holds a day is the one to which its month is credited
pub held_credited : (d : Date) (s : Season) → season_of d ≡ Some s → (d.month ≡ 5 → ⊥) → credited_season (month_of d) ≡ Some s
held_credited d s e h = grind (arith, nat_tests)

credited_month_lem : (m : CalendarMonth) (s : Season) → credited_season m ≡ Some s → (1 ≤ m.month) × (m.month ≤ 12)
credited_month_lem m s e = (grind (arith, nat_tests), grind (arith, nat_tests))

credited_spans : (m : CalendarMonth) (s : Season) → 1 ≤ m.year → credited_season m ≡ Some s → Spanned s (date m.year m.month 1)
credited_spans m s y e =
    let d = date m.year m.month 1 in
    let b = credited_month_lem m s e in
    let least = month_least m.year m.month b.0 b.1 in
    spanned d y (omega arith) (omega (arith, least)) s (credited_holds d s e)

-- nor from credited month to credited month
pub credited_in_order : (i j : CalendarMonth) (s t : Season) → 1 ≤ i.year → month_index i ≤ month_index j → credited_season i ≡ Some s → credited_season j ≡ Some t → season_index s ≤ season_index t
credited_in_order i j s t y h e f =
    let p = credited_month_lem i s e in
    let q = credited_month_lem j t f in
    let a = credited_spans i s y e in
    let b = credited_spans j t (omega (arith, p.0, q.1)) f in
    ordered s t (omega (arith, a.from, b.to))

-- a day that opens a season is the first that the season holds
pub opens_first : (n : ℕ) → n ≤ last_day → opens (date_of n) ≡ true → (s : Season) × (season_of (date_of n) ≡ Some s) × (season_first s ≡ Some n)
opens_first n h e =
    let d = date_of n in
    let back = number_back n h in
    elim (or_cases (eqb d.month 5 && eqb d.day 16) (eqb d.month 12 && eqb d.day 1) e) [
      | inl t ↦
          let p = and_parts (eqb d.month 5) _ t in
          let is : date d.year 5 16 ≡ d = same_date refl (sym (eqb-true _ _ p.0)) (sym (eqb-true _ _ p.1)) in
          (summer d.year, ap season_of (sym is), ap number_of is ∙ back)
      | inr t ↦
          let p = and_parts (eqb d.month 12) _ t in
          let is : date d.year 12 1 ≡ d = same_date refl (sym (eqb-true _ _ p.0)) (sym (eqb-true _ _ p.1)) in
          (winter d.year, ap season_of (sym is), ap number_of is ∙ back)
    ]

first_opens_by : (k : SeasonKind) (y : ℕ) → (opens (first_date_in k y) ≡ true) × (season_of (first_date_in k y) ≡ Some (record { kind = k; year = y }))
first_opens_by Summer y = (refl, refl)
first_opens_by Winter y = (refl, refl)

-- the first day of a season opens it
pub first_opens : (s : Season) (f : ℕ) → season_first s ≡ Some f → (opens (date_of f) ≡ true) × (season_of (date_of f) ≡ Some s)
first_opens s f e =
    let b = (known (first_date s) f e).back in
    let o = first_opens_by s.kind s.year in
    (ap opens b ∙ o.0, ap season_of b ∙ o.1)
