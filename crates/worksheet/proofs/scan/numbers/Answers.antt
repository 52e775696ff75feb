-- One word more is read into the next place, and behind the last place nothing may follow.
use Rattle.std.proofs.Common.{◌≡◌, ◌<◌, Bool, true, false, not, length, Some, None, sym, refl, ap, ◌∙◌, arith, length-set, take_all}
use Rattle.std.proofs.lemmas.List.{take_more_set}
use Rattle.std.specs.Bool.{then_some}
use Rattle.std.specs.Option.{option_map, is_some}
use Rattle.worksheet.specs.Text.{pieces, exactly}
use Rattle.worksheet.proofs.Scanning.{one_number, too_many, just}
use Rattle.worksheet.proofs.scan.numbers.Goals as goal

pub loop-place-preserved : goal.loop-place-preserved
loop-place-preserved g c =
    let n = c.in_ok-place.field-0 in
    let i = c.loop-place.place-index in
    let long : i < length c.loop-place.place-items = omega (arith, c.loop-place.invariant.1, c.loop-place-test.true) in (
      one_number g.row.N c.args.line.now _ _ i n (option_map (λ x. x.now) c.loop-place.rest) _ _ _ c.loop-place-test.true (ap (option_map (λ x. x.now)) c.in_ok-rest.was) c.cut.ensures (sym c.in_ok-place.ensures) (take_more_set c.loop-place.place-items i n long) c.loop-place.invariant.0,
      simp length-set c.loop-place.invariant.1,
    )

more_left : (n : Bool) → true ≡ not n → n ≡ false
more_left true e = e
more_left false e = refl

none_left : (n : Bool) → false ≡ not n → n ≡ true
none_left true e = refl
none_left false e = e

pub returns : goal.returns
returns g c =
    let rest = option_map (λ x. x.now) c.loop-place.rest in
    let line = c.args.line.now in
    let i = c.loop-place.place-index in
    let found = c.loop-place.place-items in
    let end = c.loop-place-test.false in
    let inv = c.loop-place.invariant.0 in
    elim c.loop-place.rest as (λ o. c.loop-place.rest ≡ o → c.then_some.result ≡ exactly g.row.N (pieces 32 line)) [
      | None ↦ λ e.
          let n = none_left c.is_none.result (sym (ap is_some e) ∙ c.is_none.ensures) in
          let all = take_all i found (omega (arith, c.loop-place.invariant.1, end)) in
          c.then_some.ensures ∙ ap (λ b. then_some b found) n ∙ sym (just g.row.N line found _ i rest end (ap (option_map (λ x. x.now)) e) all inv)
      | Some t ↦ λ e.
          let n = more_left c.is_none.result (sym (ap is_some e) ∙ c.is_none.ensures) in
          c.then_some.ensures ∙ ap (λ b. then_some b found) n ∙ sym (too_many g.row.N line _ i rest _ end (ap (option_map (λ x. x.now)) e) inv)
    ] refl
