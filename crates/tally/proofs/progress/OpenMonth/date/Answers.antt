use Rattle.std.proofs.Common.{◌≡◌, ℕ, ◌+◌, false, cond, Some, None, sym, ap, ◌∙◌}
use Rattle.calendar.specs.Dates.{date, date_of}
use Rattle.tally.specs.Progress.{progress_of, is_full}
use Rattle.tally.proofs.Opening.{placed, date_in, not_full}
use Rattle.tally.proofs.progress.OpenMonth.date.Goals as goal

pub returns : goal.returns
returns c =
    let o = c.args.self.now in
    let full : is_full (progress_of o) ≡ false = sym c.if-is_full.ensures in
    let p = placed o.month o.begun in
    let day = ap (λ (d : ℕ). date o.month.year o.month.month (d + 1)) c.days.ensures in
    ap Some (day ∙ date_in o.month o.today o.sums.days p o.tied (not_full (progress_of o) p o.tied o.inside o.ended full))
    ∙ ap (λ t. cond t None (Some (date_of o.today))) (sym full)
