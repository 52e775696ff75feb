-- The month is made where its figures keep their limits.
use Rattle.std.proofs.Common.{◌≡◌, Bool, true, cond, ◌&&◌, Some, None, sym, ap, ◌∙◌}
use Rattle.billing.specs.Limits.{within}
use Rattle.billing.specs.Months.{figures_of, checked}
use Rattle.billing.specs.declared.fault.TermsFault.TheVariants.{OutsideLimits}
use Rattle.tally.specs.Progress.{progress_of, is_full, figures_at, closable}
use Rattle.tally.proofs.Closing.{within_as_closable, made_of}
use Rattle.tally.proofs.progress.OpenMonth.closed.Goals as goal

pub returns : goal.returns
returns c =
    let o = c.args.self.now in
    let p = progress_of o in
    let b = c.args.supplementary in
    let u = c.args.entered in
    let figures = figures_at p b u in
    let full : is_full p ≡ true = sym c.is_full.ensures ∙ c.if-not-is_full.false in
    let w = within_as_closable p b u o.sums.accrued full in
    made_of figures_of c.new.result c.ok.result (within figures) figures OutsideLimits c.ok.ensures.value
    (c.new.ensures ∙ ap checked c.month_figures-figures.ensures)
    ∙ ap (λ (t : Bool). cond t (Some figures) None) (w ∙ ap (λ (t : Bool). t && closable b u) (sym full))
