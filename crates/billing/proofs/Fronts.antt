-- One more item in front of a few.
use Rattle.std.proofs.Common.{◌≡◌, ℕ, zero, suc, ◌+◌, ◌-◌, ◌<◌, min, List, [], ◌∷◌, ◌++◌, length, take, drop, slice_set, sym, refl, ap, ◌∙◌, arith, length-take, length-drop}
use Rattle.std.proofs.lemmas.List.{take-take, take_min}

-- the first n of the first `count`, of n places and one more
firsts : {X : Type 0} (n count : ℕ) (xs : List X) → length xs ≡ suc n → take (min count n) (take n xs) ≡ take n (take count xs)
firsts n count xs l =
    let a = take-take (min count n) n xs (omega arith) in
    let b = take-take (min count n) count xs (omega arith) in
    let m : min count n ≡ min n (length (take count xs)) = simp length-take (omega arith) in
    a ∙ sym b ∙ ap (λ k. take k (take count xs)) m ∙ take_min n (take count xs)

place : {X : Type 0} (item : X) (ys zs : List X) → length ys ≡ 1 → slice_set (ys ++ zs) 0 item ≡ item ∷ zs
place item [] zs h = absurd (omega arith)
place item (y ∷ []) zs h = refl
place item (y ∷ (z ∷ ys)) zs h = absurd (omega arith)

-- the last place goes to the front and is written over
pub turned : {X : Type 0} (item : X) (n : ℕ) (xs : List X) → length xs ≡ suc n → slice_set (drop n xs ++ take n xs) 0 item ≡ item ∷ take n xs
turned item n xs h = let l : length (drop n xs) ≡ 1 = simp length-drop (omega arith) in place item (drop n xs) (take n xs) l

-- one more in front of all places is one more in front of those in use, and the last goes where all were in use
pub fronted : {X : Type 0} (item : X) (k n count : ℕ) (xs ys : List X) → length xs ≡ n → 0 < n → k ≡ min (count + 1) n
    → ys ≡ drop (length xs - 1) xs ++ take (length xs - 1) xs → take k (slice_set ys 0 item) ≡ take n (item ∷ take count xs)
fronted item k zero count xs ys l p e is = absurd (omega arith)
fronted item k (suc n) count xs ys l p e is =
    let m : length xs - 1 ≡ n = omega arith in
    let r : slice_set ys 0 item ≡ item ∷ take n xs = rw (is, m) (turned item n xs l) in
    let j : k ≡ suc (min count n) = omega arith in
    let s : take (min count n) (take n xs) ≡ take n (take count xs) = firsts n count xs l in
    rw (r, j) (ap (λ zs. item ∷ zs) s)
