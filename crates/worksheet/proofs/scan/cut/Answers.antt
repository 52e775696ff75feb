-- The pieces of a text at its first stop.
use Rattle.std.proofs.Common.{◌+◌, ◌∷◌, take, sym, ap, ◌∙◌}
use Rattle.std.proofs.lemmas.List.{take_rest}
use Rattle.worksheet.specs.Text.{pieces}
use Rattle.worksheet.proofs.Scanning.{at_stop, one_piece}
use Rattle.worksheet.proofs.scan.cut.Goals as goal

pub returns-in-Some : goal.returns-in-Some
returns-in-Some c =
    let xs = c.args.text.now in
    let s = c.args.stop in
    let i = c.in-Some.place in
    at_stop s xs i (sym c.place_of.ensures ∙ c.in-Some.is) ∙ ap (λ ys. take i xs ∷ pieces s ys) (sym (take_rest xs (i + 1)))

pub returns-in-None : goal.returns-in-None
returns-in-None c = one_piece c.args.stop c.args.text.now (sym c.place_of.ensures ∙ c.in-None.is)
