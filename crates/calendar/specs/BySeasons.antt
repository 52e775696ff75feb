-- A value for each of the two seasons.
use Rattle.calendar.specs.declared.by_season.BySeason.{BySeason}
use Rattle.calendar.specs.declared.season.SeasonKind.{SeasonKind}
use Rattle.calendar.specs.declared.season.SeasonKind.TheVariants.{Summer, Winter}

module _ {T : Type 0} where
  -- the value of a season
  abbrev pub in_season : BySeason T → SeasonKind → T
  in_season b Summer = b.summer
  in_season b Winter = b.winter

  -- the same with another value in a season
  abbrev pub with_season : BySeason T → SeasonKind → T → BySeason T
  with_season b Summer x = record { summer = x; winter = b.winter }
  with_season b Winter x = record { summer = b.summer; winter = x }
