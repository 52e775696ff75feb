-- The loop over the places: the numbers so far, and what of the line is left.
use Rattle.std.proofs.Common.{◌≡◌, ◌-◌, length, take}
use Rattle.std.specs.Option.{option_map}
use Rattle.worksheet.specs.Text.{pieces, pieces_in, exactly}
use Rattle.worksheet.proofs.Scanning.{prefix}
use Rattle.worksheet.proofs.scan.numbers.Given as goal

abbrev pub invariant-loop-place : goal.invariant-loop-place
invariant-loop-place g l =
    (prefix (take l.place-index l.place-items) (exactly (g.row.N - l.place-index) (pieces_in 32 (option_map (λ x. x.now) l.rest))) ≡ exactly g.row.N (pieces 32 l.line))
    × (length l.place-items ≡ g.row.N)
