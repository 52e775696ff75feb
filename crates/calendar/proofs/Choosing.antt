-- Which of several tests a choice took.
use Rattle.std.proofs.Common.{◌≡◌, ℕ, Bool, true, false, cond, ◌⊎◌, Some, None, refl, inl, inr, arith}

pub some_is : {X : Type 0} {x y : X} → Some x ≡ Some y → x ≡ y
some_is e = cc

pub none_some : {X : Type 0} {x : X} → None ≡ Some x → ⊥
none_some e = let z : ◌≡◌ {A = ℕ} 0 1 = cc in omega arith

-- the test came out true, and the choice is what stands there
pub record Taken {X : Type 0} (test : Bool) (is s : X) : Type 0 where
  pub so : test ≡ true
  pub same : is ≡ s

-- three tests, and none
pub taken : {X : Type 0} (p q r : Bool) (x y z s : X) → cond p (Some x) (cond q (Some y) (cond r (Some z) None)) ≡ Some s
    → Taken p x s ⊎ (Taken q y s ⊎ Taken r z s)
taken true q r x y z s e = inl (record { so = refl; same = some_is e })
taken false true r x y z s e = inr (inl (record { so = refl; same = some_is e }))
taken false false true x y z s e = inr (inr (record { so = refl; same = some_is e }))
taken false false false x y z s e = absurd (none_some e)

-- one test, and none
pub given : {X : Type 0} (p : Bool) (x s : X) → cond p (Some x) None ≡ Some s → Taken p x s
given true x s e = record { so = refl; same = some_is e }
given false x s e = absurd (none_some e)
