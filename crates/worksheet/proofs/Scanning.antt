-- Cutting a text into pieces, byte by byte, and reading numbers.
use Rattle.std.proofs.Common.{◌≡◌, ℕ, Bool, position, suc, ◌+◌, ◌-◌, ◌*◌, ◌<◌, ◌≤◌, true, false, cond, ◌&&◌, eqb, ltb, List, [], ◌∷◌, ◌++◌, length, get_or, take, drop, Some, None, Option, sym, refl, ap, ◌∙◌, append_assoc, append-nil, arith}
use Rattle.std.proofs.lemmas.List.{drop_more}
use Rattle.std.specs.List.{position_or_len, onto_first}
use Rattle.std.proofs.lemmas.Bool.{ltb-true, ltb-false}
use Rattle.std.proofs.lemmas.List.Elements.{All-from_get_or}
use Rattle.std.proofs.lemmas.List.Sums.{fails_before_first}
use Rattle.std.proofs.lemmas.List.Splits.{slice_split_first, slice_split_none}
use Rattle.worksheet.specs.Text.{pieces, pieces_in, digit, read_on, number_of, before, exactly}

-- which way a choice of an index went
found : (t : Bool) (x i : ℕ) → cond t (Some x) None ≡ Some i → (t ≡ true) × (x ≡ i)
found true x i e = let s : x ≡ i = cc in (refl, s)
found false x i e = absurd (let z : ◌≡◌ {A = ℕ} 0 1 = cc in omega arith)

missed : (t : Bool) (x : ℕ) → cond t (Some x) None ≡ None → t ≡ false
missed true x e = absurd (let z : ◌≡◌ {A = ℕ} 0 1 = cc in omega arith)
missed false x e = refl

module _ (stop : ℕ) (xs : List ℕ) where
  -- the first stop at i: the piece before it and the pieces behind
  pub at_stop : (i : ℕ) → position (λ b. eqb b stop) xs ≡ Some i → pieces stop xs ≡ take i xs ∷ pieces stop (drop (i + 1) xs)
  at_stop i e =
      let p = λ (b : ℕ). eqb b stop in
      let f = found (ltb (position_or_len p xs) (length xs)) (position_or_len p xs) i e in
      slice_split_first p xs 0 (ltb-true _ _ f.0) ∙ ap (λ k. take k xs ∷ pieces stop (drop (k + 1) xs)) f.1

  -- no stop at all: one piece
  pub one_piece : position (λ b. eqb b stop) xs ≡ None → pieces stop xs ≡ xs ∷ []
  one_piece e =
      let p = λ (b : ℕ). eqb b stop in
      let m = ltb-false _ _ (missed (ltb (position_or_len p xs) (length xs)) (position_or_len p xs) e) in
      slice_split_none p xs (All-from_get_or (λ b. p b ≡ false) xs 0 (λ k h. fails_before_first p xs k 0 (omega (arith, h, m))))

-- one digit on
module _ (n : ℕ) (xs : List ℕ) (i : ℕ) (h : i < length xs) where
  read_more : read_on n (drop i xs) ≡ cond (digit (get_or xs i 0) && ltb (10 * n + (get_or xs i 0 - 48)) 4294967296) (read_on (10 * n + (get_or xs i 0 - 48)) (drop (i + 1) xs)) None
  read_more = ap (read_on n) (drop_more xs i 0 h)

  pub read_stops : (digit (get_or xs i 0) && ltb (10 * n + (get_or xs i 0 - 48)) 4294967296) ≡ false → read_on n (drop i xs) ≡ None
  read_stops e = read_more ∙ ap (λ t. cond t (read_on (10 * n + (get_or xs i 0 - 48)) (drop (i + 1) xs)) None) e

pub some_word : (xs : List ℕ) → 0 < length xs → number_of xs ≡ read_on 0 xs
some_word [] h = absurd (omega arith)
some_word (x ∷ xs) h = refl

-- numbers in front of those that follow, if all of those are numbers
abbrev pub prefix : List ℕ → Option (List ℕ) → Option (List ℕ)
prefix xs None = None
prefix xs (Some ys) = Some (xs ++ ys)

nothing_before : (r : Option (List ℕ)) → prefix [] r ≡ r
nothing_before None = refl
nothing_before (Some ys) = refl

-- one number more in front
pushed : (xs : List ℕ) (n : ℕ) (r : Option (List ℕ)) → prefix xs (before (Some n) r) ≡ prefix (xs ++ n ∷ []) r
pushed xs n None = refl
pushed xs n (Some ys) = ap Some (sym (append_assoc xs (n ∷ []) ys))

-- some piece is left
pub exactly_none : (stop : ℕ) (xs : List ℕ) → exactly 0 (pieces stop xs) ≡ None
exactly_none stop [] = refl
exactly_none stop (b ∷ bs) =
    elim (eqb b stop) as (λ t. exactly 0 (cond t ([] ∷ pieces stop bs) (onto_first b (pieces stop bs))) ≡ None) [
      | true ↦ refl
      | false ↦ first b (pieces stop bs)
    ]
  where
    first : (b : ℕ) (ps : List (List ℕ)) → exactly 0 (onto_first b ps) ≡ None
    first b [] = refl
    first b (p ∷ ps) = refl

-- the words of a line that are read so far, and those that are left
module _ (k : ℕ) (line : List ℕ) where
  pub begins : prefix [] (exactly (k - 0) (pieces 32 line)) ≡ exactly k (pieces 32 line)
  begins = nothing_before (exactly (k - 0) (pieces 32 line)) ∙ ap (λ n. exactly n (pieces 32 line)) (omega arith)

  -- words are missing
  pub short : (xs : List ℕ) (i : ℕ) (rest : Option (List ℕ)) → i < k → rest ≡ None
      → prefix xs (exactly (k - i) (pieces_in 32 rest)) ≡ exactly k (pieces 32 line) → exactly k (pieces 32 line) ≡ None
  short xs i rest h e inv =
      let n : k - i ≡ suc (k - (i + 1)) = omega arith in
      sym inv ∙ ap (λ r. prefix xs (exactly (k - i) (pieces_in 32 r))) e ∙ ap (λ m. prefix xs (exactly m [])) n

  -- one word on
  word : (xs : List ℕ) (i : ℕ) (rest : Option (List ℕ)) (text w : List ℕ) (ws : List (List ℕ)) → i < k → rest ≡ Some text → pieces 32 text ≡ w ∷ ws
      → prefix xs (exactly (k - i) (pieces_in 32 rest)) ≡ exactly k (pieces 32 line)
      → prefix xs (before (number_of w) (exactly (k - (i + 1)) ws)) ≡ exactly k (pieces 32 line)
  word xs i rest text w ws h e p inv =
      let n : k - i ≡ suc (k - (i + 1)) = omega arith in
      sym (ap (λ r. prefix xs (exactly (k - i) (pieces_in 32 r))) e ∙ ap (λ ps. prefix xs (exactly (k - i) ps)) p ∙ ap (λ m. prefix xs (exactly m (w ∷ ws))) n) ∙ inv

  -- which is the number n
  pub one_number : (xs ys : List ℕ) (i n : ℕ) (rest : Option (List ℕ)) (text w : List ℕ) (ws : List (List ℕ)) → i < k → rest ≡ Some text → pieces 32 text ≡ w ∷ ws
      → number_of w ≡ Some n → ys ≡ xs ++ n ∷ [] → prefix xs (exactly (k - i) (pieces_in 32 rest)) ≡ exactly k (pieces 32 line)
      → prefix ys (exactly (k - (i + 1)) ws) ≡ exactly k (pieces 32 line)
  one_number xs ys i n rest text w ws h e p some is inv =
      ap (λ zs. prefix zs (exactly (k - (i + 1)) ws)) is
      ∙ sym (pushed xs n (exactly (k - (i + 1)) ws))
      ∙ ap (λ o. prefix xs (before o (exactly (k - (i + 1)) ws))) (sym some)
      ∙ word xs i rest text w ws h e p inv

  -- all are read, and more words follow, or none
  pub too_many : (xs : List ℕ) (i : ℕ) (rest : Option (List ℕ)) (text : List ℕ) → k ≤ i → rest ≡ Some text
      → prefix xs (exactly (k - i) (pieces_in 32 rest)) ≡ exactly k (pieces 32 line) → exactly k (pieces 32 line) ≡ None
  too_many xs i rest text h e inv =
      let z : k - i ≡ 0 = omega arith in
      sym inv ∙ ap (λ r. prefix xs (exactly (k - i) (pieces_in 32 r))) e ∙ ap (λ m. prefix xs (exactly m (pieces 32 text))) z ∙ ap (prefix xs) (exactly_none 32 text)

  pub just : (xs ys : List ℕ) (i : ℕ) (rest : Option (List ℕ)) → k ≤ i → rest ≡ None → ys ≡ xs
      → prefix ys (exactly (k - i) (pieces_in 32 rest)) ≡ exactly k (pieces 32 line) → exactly k (pieces 32 line) ≡ Some xs
  just xs ys i rest h e is inv =
      let z : k - i ≡ 0 = omega arith in
      sym inv ∙ ap (λ r. prefix ys (exactly (k - i) (pieces_in 32 r))) e ∙ ap (λ m. prefix ys (exactly m [])) z ∙ ap Some (append-nil ys ∙ is)
