-- A ledger by its rows and its room.
use Rattle.std.specs.Prelude.{◌≡◌, ℕ, ◌-◌, ◌<◌, ◌≤◌, List, [], length, ℤ, pos, neg_ℤ, ◌≤ℤ◌, Ok, Err, vec_items, Result}
use Rattle.statement.specs.declared.row.Row.{Row}
use Rattle.account.specs.declared.ledger.Ledger.{Ledger}
use Rattle.account.specs.declared.ledger.LedgerFault.{LedgerFault}
use Rattle.account.specs.declared.ledger.LedgerFault.TheVariants.{TooManyRows, NoMemory}

abbrev pub rows_of : Ledger → List Row
rows_of l = vec_items l.rows

-- how many rows it has room for, and how many more
abbrev pub limit_of : Ledger → ℕ
limit_of l = l.limit

abbrev pub free_of : Ledger → ℕ
free_of l = limit_of l - length (rows_of l)

-- a new ledger has no rows; above 65,536 rows it is refused, and below that only for want of memory
abbrev pub Begins : ℕ → Result Ledger LedgerFault → Type 0
Begins limit (Ok l) = (limit ≤ 65536) × (limit_of l ≡ limit) × (rows_of l ≡ [])
Begins limit (Err TooManyRows) = 65536 < limit
Begins limit (Err NoMemory) = limit ≤ 65536

-- no single row passes a billion dollars either way
abbrev pub Modest : ℤ → Type 0
Modest cents = (cents ≤ℤ pos 100000000000) × (neg_ℤ (pos 100000000000) ≤ℤ cents)
