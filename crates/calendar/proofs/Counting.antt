-- Counting along places of any widths: where a count lands, and what it passes on the way.
use Rattle.std.proofs.Common.{◌≡◌, ℕ, zero, suc, ◌+◌, ◌-◌, ◌<◌, ◌≤◌, sym, refl, ap, ◌∙◌, inl, inr, add-zero, arith}
use Rattle.std.proofs.lemmas.Bool.{lt-ltb, le-ltb, cases_lt}
use Rattle.calendar.specs.Dates.{locate, total}

pub pair_is : {a b c d : ℕ} → a ≡ c → b ≡ d → ◌≡◌ {A = ℕ × ℕ} (a, b) (c, d)
pair_is p q = cc

-- where a count of n from place i lands: k places on, with r left over
pub record Place (w : ℕ → ℕ) (more i n : ℕ) : Type 0 where
  pub k : ℕ
  pub r : ℕ
  pub near : k ≤ more
  pub sum : n ≡ total w i k + r
  pub rest : r < w (i + k)

module _ (w : ℕ → ℕ) where
  -- the last of the places counted apart
  pub total_last : (i k : ℕ) → total w i (suc k) ≡ total w i k + w (i + k)
  total_last i zero = let e = ap w (add-zero i) in omega (arith, e)
  total_last i (suc k) =
      let h = total_last (i + 1) k in
      let e : w (i + 1 + k) ≡ w (i + suc k) = ap w (omega arith) in
      omega (arith, h, e)

  -- more places take no less
  pub total_grows : (i j k : ℕ) → j ≤ k → total w i j ≤ total w i k
  total_grows i zero k h = omega arith
  total_grows i (suc j) zero h = absurd (omega arith)
  total_grows i (suc j) (suc k) h = let p = total_grows (i + 1) j k (omega arith) in omega (arith, p)

  -- so what takes less is fewer places
  pub total_fewer : (i j k : ℕ) → total w i j < total w i k → j < k
  total_fewer i j k h =
      elim (cases_lt j k) [
        | inl l ↦ l
        | inr g ↦ absurd (let p = total_grows i k j g in omega (arith, p))
      ]

  -- a count that passes k whole places and leaves r in the next lands there
  pub lands : (more i k n r : ℕ) → k ≤ more → n ≡ total w i k + r → r < w (i + k) → locate w more i n ≡ (i + k, r)
  unfolding locate
  lands zero i zero n r h e l = pair_is (omega arith) (omega arith)
  lands zero i (suc k) n r h e l = absurd (omega arith)
  lands (suc more) i zero n r h e l =
      let z = ap w (add-zero i) in
      let t : n < w i = omega (arith, z) in
      rw (lt-ltb n (w i) t) (pair_is (omega arith) (omega arith))
  lands (suc more) i (suc k) n r h e l =
      let z : w (i + 1 + k) ≡ w (i + suc k) = ap w (omega arith) in
      let t : w i ≤ n = omega arith in
      let p = lands more (i + 1) k (n - w i) r (omega arith) (omega arith) (omega (arith, z)) in
      rw (le-ltb n (w i) t) (p ∙ pair_is (omega arith) refl)

  -- every count below what all the places take lands at one of them
  pub placed : (more i n : ℕ) → n < total w i (suc more) → Place w more i n
  placed zero i n h =
      let z = ap w (add-zero i) in
      record { k = 0; r = n; near = omega arith; sum = omega arith; rest = omega (arith, z) }
  placed (suc more) i n h =
      elim (cases_lt n (w i)) [
        | inl l ↦ let z = ap w (add-zero i) in record { k = 0; r = n; near = omega arith; sum = omega arith; rest = omega (arith, z) }
        | inr g ↦
            let p = placed more (i + 1) (n - w i) (omega arith) in
            let z : w (i + 1 + p.k) ≡ w (i + suc p.k) = ap w (omega arith) in
            record { k = suc p.k; r = p.r; near = omega (arith, p.near); sum = omega (arith, p.sum); rest = omega (arith, z, p.rest) }
      ]

-- the places from i up to p, and p itself
pub total_more : (w : ℕ → ℕ) (i p : ℕ) → i ≤ p → total w i (p + 1 - i) ≡ total w i (p - i) + w p
total_more w i p h =
    let a : suc (p - i) ≡ p + 1 - i = omega arith in
    let b : i + (p - i) ≡ p = omega arith in
    sym (ap (total w i) a) ∙ total_last w i (p - i) ∙ ap (λ (x : ℕ). total w i (p - i) + w x) b

module _ (w : ℕ → ℕ) (last i n : ℕ) where
  -- one of the places up to the last holds the count
  pub locate_here : i < last → n < w i → locate w (last - i) i n ≡ (i, n)
  unfolding locate
  locate_here h l =
      let e : last - i ≡ suc (last - (i + 1)) = omega arith in
      rw e (rw (lt-ltb n (w i) l))

  -- or it goes on from the next
  pub locate_on : i < last → w i ≤ n → locate w (last - i) i n ≡ locate w (last - (i + 1)) (i + 1) (n - w i)
  unfolding locate
  locate_on h g =
      let e : last - i ≡ suc (last - (i + 1)) = omega arith in
      rw e (rw (le-ltb n (w i) g))

  -- the last takes all that is left
  pub locate_end : i ≡ last → locate w (last - i) i n ≡ (last, n)
  unfolding locate
  locate_end h =
      let e : last - i ≡ 0 = omega arith in
      rw e (pair_is h refl)
