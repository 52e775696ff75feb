use Rattle.std.proofs.Common.{◌≡◌, ◌<◌, drop}
use Rattle.worksheet.specs.Text.{read_on}
use Rattle.worksheet.proofs.scan.number.Given as goal

abbrev pub invariant-loop-byte : goal.invariant-loop-byte
invariant-loop-byte l = (read_on l.value (drop l.byte-index l.word) ≡ read_on 0 l.word) × (l.value < 4294967296)
