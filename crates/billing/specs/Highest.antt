-- The highest item of a run, the first among equals.
use Rattle.std.specs.Prelude.{◌≡◌, ℕ, Bool, true, false, cond, List, [], ◌∷◌, ◌++◌, Some, None, Option, nat_lt}
use Rattle.std.specs.List.{AllByRecursion}

-- which of two items is the lower, by the kW that they tell
abbrev pub lower : {X : Type 0} → (X → ℕ) → X → X → Bool
lower kw x y = nat_lt (kw x) (kw y)

-- the highest of an item and those after it: another takes its place only where it is higher
abbrev pub best : {X : Type 0} → (X → X → Bool) → X → List X → X
best low b [] = b
best low b (x ∷ xs) = best low (cond (low b x) x b) xs

-- the highest item of a run; an empty run has none
abbrev pub highest : {X : Type 0} → (X → X → Bool) → List X → Option X
highest low [] = None
highest low (x ∷ xs) = Some (best low x xs)

-- an item of the run: each before it is lower, and it is lower than none after it
pub record Leads {X : Type 0} (low : X → X → Bool) (xs : List X) (x : X) : Type 0 where
  pub before : List X
  pub after : List X
  pub split : xs ≡ before ++ x ∷ after
  pub first : AllByRecursion (λ y. low y x ≡ true) before
  pub top : AllByRecursion (λ y. low x y ≡ false) after

-- the two laws of a total order that allows ties
pub record Order {X : Type 0} (low : X → X → Bool) : Type 0 where
  pub apart : (x y : X) → low x y ≡ true → low y x ≡ false
  pub chain : (x y z : X) → low x y ≡ false → low y z ≡ false → low x z ≡ false
