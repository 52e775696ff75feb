-- The laws of the calendar, each by its lemma.
use Rattle.calendar.specs.Laws.{CalendarLaws, SeasonNumbers, SeasonHolds}
use Rattle.calendar.proofs.Dating.{first_date_lem, last_date_lem, date_of_real, date_of_number, one_day, held_by_month}
use Rattle.calendar.proofs.Numbering.{known, number_back}
use Rattle.calendar.proofs.Following.{next_day, in_its_month, month_days, month_stays, month_turns, month_adjoins, year_adjoins, months_in_order}
use Rattle.calendar.proofs.Holding.{summer_first, summer_last, winter_first, winter_last, summer_unnumbered, winter_unbegun, winter_unended, held_from, held_to, held_between, first_winter, last_winter, summer_days, winter_days, opens_first, first_opens, seasons_in_order, credited_holds, held_credited, credited_in_order}

pub season_numbers : SeasonNumbers
season_numbers = record {
  summer_first = summer_first;
  summer_last = summer_last;
  winter_first = winter_first;
  winter_last = winter_last;
  summer_none = summer_unnumbered;
  winter_no_first = winter_unbegun;
  winter_no_last = winter_unended;
}

pub season_holds : SeasonHolds
season_holds = record { from = held_from; to = held_to; between = held_between; first_winter = first_winter; last_winter = last_winter }

pub calendar_laws : CalendarLaws
calendar_laws = record {
  ends = (first_date_lem, last_date_lem);
  next_day = next_day;
  real_dates = date_of_real;
  there_and_back = λ n h. (date_of_number n h, number_back n h);
  back_and_there = λ d n e. ((known d n e).within, (known d n e).back);
  one_day = one_day;
  in_its_month = in_its_month;
  month_holds = held_by_month;
  month_days = month_days;
  month_stays = month_stays;
  month_turns = month_turns;
  months_adjoin = (month_adjoins, year_adjoins);
  months_in_order = months_in_order;
  season_numbers = season_numbers;
  season_holds = season_holds;
  summer_days = summer_days;
  winter_days = winter_days;
  opening = (opens_first, first_opens);
  seasons_in_order = seasons_in_order;
  credited_holds = credited_holds;
  held_credited = held_credited;
  credited_in_order = credited_in_order;
}
