-- At most so many items in a fixed place, by the list that they make.
use Rattle.std.specs.Prelude.{ℕ, List, take}
use Rattle.billing.specs.declared.few.Few.{Few}

-- the items
abbrev pub items_in : {X : Type 0} {n : ℕ} → Few X n → List X
items_in few = take few.count few.places
