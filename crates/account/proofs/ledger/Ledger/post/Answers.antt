use Rattle.std.proofs.Common.{◌≡◌, ◌+ℤ◌, vec_items, vec_len, sym, ap, ◌∙◌, arith, w64, SFits, to_z, of_z, rules}
use Rattle.std.proofs.lemmas.Int.{to_z-of_z, ints}
use Rattle.statement.specs.Rows.{balance_of}
use Rattle.account.proofs.Balances.{balance_push}
use Rattle.account.proofs.ledger.Ledger.post.Goals as goal

pub invariant_of-self : goal.invariant_of-self
invariant_of-self c =
    let o = c.args.self.now in
    let z = c.plus-self.result in
    let cents = c.args.row.cents in
    let n = vec_len o.rows in
    let len = c.push_reserved.ensures.len in
    let below = o.below in
    let above = o.above in
    let fit : SFits w64 o.balance = search rules in
    let fit_row : SFits w64 cents = search rules in
    let fit-sum : SFits w64 z = search rules in
    let held = to_z-of_z w64 o.balance fit in
    let row = to_z-of_z w64 cents fit_row in
    let stored = to_z-of_z w64 z fit-sum in
    let sum : to_z w64 (of_z w64 z) ≡ o.balance +ℤ cents = stored ∙ c.plus-self.ensures ∙ ap (λ b. b +ℤ to_z w64 (of_z w64 cents)) held ∙ ap (λ x. o.balance +ℤ x) row in
    let items = ap balance_of c.push_reserved.ensures.items ∙ balance_push (vec_items o.rows) c.args.row in
    let kept : to_z w64 (of_z w64 z) ≡ balance_of (vec_items c.push_reserved.new.self) = sum ∙ ap (λ b. b +ℤ cents) o.summed ∙ sym items in
    record {
      most = o.most;
      fits = omega (arith, len, c.requires.room);
      reserved = search rules;
      summed = kept;
      below = omega (arith, ints, sum, below, len, c.requires.modest.0);
      above = omega (arith, ints, sum, above, len, c.requires.modest.1);
    }
