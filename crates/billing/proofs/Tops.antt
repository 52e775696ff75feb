-- The highest item: the best of references, and that it leads the run.
use Rattle.std.proofs.Common.{◌≡◌, ℕ, ◌≤◌, Bool, true, false, cond, List, [], ◌∷◌, ◌++◌, length, get_or, drop, map, Some, Bor, sym, refl, ap, ◌∙◌, arith}
use Rattle.std.specs.List.{AllByRecursion, fold}
use Rattle.std.proofs.lemmas.Bool.Decides.{nat_tests}
use Rattle.billing.specs.Highest.{lower, best, highest, Leads, Order}

-- the whole list from its first item and the rest
pub whole : {X : Type 0} (low : X → X → Bool) (xs : List X) (d : X) → 1 ≤ length xs
    → highest low xs ≡ Some (best low (get_or xs 0 d) (drop 1 xs))
whole low [] d h = absurd (omega arith)
whole low (x ∷ xs) d h = refl

module _ {X : Type 0} (low : X → X → Bool) where
  -- which of two references goes on as the best so far
  abbrev pub higher : Bor X → Bor X → Bor X
  higher b x = cond (low b.now x.now) x b

  chosen : (t : Bool) (x b : Bor X) → (cond t x b).now ≡ cond t x.now b.now
  chosen true x b = refl
  chosen false x b = refl

  -- the best of references is a reference to the best
  pub folded : (b : Bor X) (xs : List (Bor X)) → (fold higher b xs).now ≡ best low b.now (map (λ y. y.now) xs)
  folded b [] = refl
  folded b (x ∷ xs) = folded (higher b x) xs ∙ ap (λ y. best low y (map (λ y. y.now) xs)) (chosen (low b.now x.now) x b)

module _ {X : Type 0} (low : X → X → Bool) (order : Order low) where
  same : (x : X) → low x x ≡ false
  same x = elim (low x x) as (λ t. low x x ≡ t → t ≡ false) [ true ↦ λ e. sym e ∙ order.apart x x e | false ↦ λ e. refl ] refl

  -- b below x, and r not below x: b is below r
  under : (b x r : X) → low b x ≡ true → low r x ≡ false → low b r ≡ true
  under b x r h k =
      elim (low b r) as (λ t. low b r ≡ t → t ≡ true) [ true ↦ λ e. refl | false ↦ λ e. sym (order.chain b r x e k) ∙ h ] refl

  -- b below r, and b not below x: x is below r
  past : (b x r : X) → low b r ≡ true → low b x ≡ false → low x r ≡ true
  past b x r h k =
      elim (low x r) as (λ t. low x r ≡ t → t ≡ true) [ true ↦ λ e. refl | false ↦ λ e. sym (order.chain b x r k e) ∙ h ] refl

  -- what leads a run is not below its first item
  head : (x r : X) (xs before after : List X) → x ∷ xs ≡ before ++ r ∷ after → AllByRecursion (λ y. low y r ≡ true) before
      → low r x ≡ false
  head x r xs [] after e f = let i : r ≡ x = cc in rw i (same x)
  head x r xs (y ∷ ys) after e f = let i : x ≡ y = cc in order.apart x r (rw i f.0)

  -- one more item in front, which is lower
  later : (b x r : X) (xs : List X) → low b x ≡ true → Leads low (x ∷ xs) r → Leads low (b ∷ x ∷ xs) r
  later b x r xs h l =
      record {
        before = b ∷ l.before;
        after = l.after;
        split = ap (λ t. b ∷ t) l.split;
        first = (under b x r h (head x r xs l.before l.after l.split l.first), l.first);
        top = l.top;
      }

  -- one more item behind the first, which is not higher
  behind : (b x r : X) (xs before after : List X) → low b x ≡ false → b ∷ xs ≡ before ++ r ∷ after
      → AllByRecursion (λ y. low y r ≡ true) before → AllByRecursion (λ y. low r y ≡ false) after → Leads low (b ∷ x ∷ xs) r
  behind b x r xs [] after h e f t =
      let i : r ≡ b = cc in
      let j : b ∷ x ∷ xs ≡ r ∷ x ∷ after = cc in
      record { before = []; after = x ∷ after; split = j; first = tt; top = (rw i h, t) }
  behind b x r xs (y ∷ ys) after h e f t =
      let i : b ≡ y = cc in
      let j : b ∷ x ∷ xs ≡ b ∷ x ∷ (ys ++ r ∷ after) = cc in
      let k : low b r ≡ true = rw i f.0 in
      record { before = b ∷ x ∷ ys; after = after; split = j; first = (k, (past b x r k h, f.1)); top = t }

  kept : (b x r : X) (xs : List X) → low b x ≡ false → Leads low (b ∷ xs) r → Leads low (b ∷ x ∷ xs) r
  kept b x r xs h l = behind b x r xs l.before l.after h l.split l.first l.top

  -- the best of an item and those after it leads them, whatever orders the items
  pub best_leads : (b : X) (xs : List X) → Leads low (b ∷ xs) (best low b xs)
  best_leads b [] = record { before = []; after = []; split = refl; first = tt; top = tt }
  best_leads b (x ∷ xs) =
      elim (low b x) as (λ t. low b x ≡ t → Leads low (b ∷ x ∷ xs) (best low (cond t x b) xs)) [
        | true ↦ λ e. later b x (best low x xs) xs e (best_leads x xs)
        | false ↦ λ e. kept b x (best low b xs) xs e (best_leads b xs)
      ] refl

  -- and so the highest of a run leads it
  pub highest_leads : (xs : List X) (x : X) → highest low xs ≡ Some x → Leads low xs x
  highest_leads [] x e = absurd (let z : ◌≡◌ {A = ℕ} 0 1 = cc in omega arith)
  highest_leads (y ∷ xs) x e = let i : best low y xs ≡ x = cc in rw i at (best_leads y xs)

-- items are ordered by the kW that they tell
pub by_kw : {X : Type 0} (kw : X → ℕ) → Order (lower kw)
by_kw kw = record { apart = λ x y h. grind (arith, nat_tests); chain = λ x y z h k. grind (arith, nat_tests) }

-- the same by the kW that they tell
pub best_by_kw : {X : Type 0} (kw : X → ℕ) (b : X) (xs : List X) → Leads (lower kw) (b ∷ xs) (best (lower kw) b xs)
best_by_kw kw = best_leads (lower kw) (by_kw kw)
