-- Lines, words and numbers of a text.
use Rattle.std.specs.List.{slice_split}
use Rattle.std.specs.Prelude.{ℕ, zero, suc, ◌+◌, ◌-◌, ◌*◌, Bool, cond, ◌&&◌, List, [], ◌∷◌, Some, None, Option, ◌==◌, nat_le, nat_lt}

-- the pieces of a text between its bytes `stop`: its lines, or the words of a line
abbrev pub pieces : ℕ → List ℕ → List (List ℕ)
pieces stop text = slice_split (λ b. b == stop) text

-- those of what is left, if anything is
abbrev pub pieces_in : ℕ → Option (List ℕ) → List (List ℕ)
pieces_in stop None = []
pieces_in stop (Some text) = pieces stop text

abbrev pub digit : ℕ → Bool
digit b = nat_le 48 b && nat_le b 57

-- what a digit stands for
abbrev pub digit_of : ℕ → Option ℕ
digit_of b = cond (digit b) (Some (b - 48)) None

-- the number that n and then the digits write, if there are only digits and it is below 2^32
abbrev pub read_on : ℕ → List ℕ → Option ℕ
read_on n [] = Some n
read_on n (b ∷ bs) =
    cond (digit b && nat_lt (10 * n + (b - 48)) 4294967296) (read_on (10 * n + (b - 48)) bs) None

-- the number that a word writes
abbrev pub number_of : List ℕ → Option ℕ
number_of [] = None
number_of (b ∷ bs) = read_on 0 (b ∷ bs)

abbrev pub before : Option ℕ → Option (List ℕ) → Option (List ℕ)
before None ns = None
before (Some n) None = None
before (Some n) (Some ns) = Some (n ∷ ns)

-- just k words, each a number
abbrev pub exactly : ℕ → List (List ℕ) → Option (List ℕ)
exactly zero [] = Some []
exactly zero (w ∷ ws) = None
exactly (suc k) [] = None
exactly (suc k) (w ∷ ws) = before (number_of w) (exactly k ws)
