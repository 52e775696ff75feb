-- The sum of rows with one more.
use Rattle.std.proofs.Common.{◌≡◌, List, [], ◌∷◌, ◌++◌, ◌+ℤ◌, arith}
use Rattle.std.proofs.lemmas.Int.{ints}
use Rattle.statement.specs.Rows.{balance_of}
use Rattle.statement.specs.declared.row.Row.{Row}

pub balance_push : (rs : List Row) (r : Row) → balance_of (rs ++ r ∷ []) ≡ balance_of rs +ℤ r.cents
balance_push [] r = omega (arith, ints)
balance_push (x ∷ xs) r = let h = balance_push xs r in omega (arith, ints, h)
