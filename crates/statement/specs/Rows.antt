-- Rows and their balance.
use Rattle.std.specs.Prelude.{List, [], ◌∷◌, ℤ, pos, ◌+ℤ◌}
use Rattle.statement.specs.declared.row.Row.{Row}

-- the sum of the rows
abbrev pub balance_of : List Row → ℤ
balance_of [] = pos 0
balance_of (r ∷ rs) = r.cents +ℤ balance_of rs
