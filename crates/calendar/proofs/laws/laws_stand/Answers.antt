-- The laws of the calendar, each by its lemma.
use Rattle.calendar.proofs.Standing.{calendar_laws}
use Rattle.calendar.proofs.laws.laws_stand.Goals as goal

pub returns : goal.returns
returns c = calendar_laws
