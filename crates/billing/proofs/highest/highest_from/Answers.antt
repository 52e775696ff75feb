use Rattle.std.proofs.Common.{ap, ◌∙◌, rules}
use Rattle.billing.specs.Highest.{lower, best}
use Rattle.billing.proofs.Tops.{higher, folded}
use Rattle.billing.proofs.highest.highest_from.Goals as goal

pub returns : goal.returns
returns g c =
    let low = lower g.T.Demand.kw in
    let w = c.fold.ensures.runs in
    let m = (c.iter.ensures.runs w.0 w.0.seen).4 w.2 ∙ ap (λ s. s.rest.now) w.1 ∙ c.iter.ensures.rest in
    let f = w.3 (higher low) (λ x y r f k. search rules) in
    ap (λ b. b.now) f ∙ folded low c.args.first w.0.items ∙ ap (best low c.args.first.now) m
