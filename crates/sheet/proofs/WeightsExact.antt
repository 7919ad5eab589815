-- One pass from the last row back finds the most weight on any way, so the piece that is refused is the first heavy one.
use Rattle.std.proofs.Common.{◌≡◌, ℕ, zero, suc, ◌+◌, ◌-◌, ◌<◌, ◌≤◌, max, Bool, true, false, cond, not, ◌&&◌, ◌||◌, eqb, ltb, ◌⊎◌, List, [], ◌∷◌, length, get_or, drop, Some, None, sym, refl, ap, ◌∙◌, subst, inl, inr, arith}
use Rattle.std.proofs.lemmas.List.{get_or-drop, get_or_past, drop-drop}
use Rattle.std.proofs.lemmas.Bool.{false≢true, both_ways, cases_eq, cases_lt, cases_Bool, cond-true, cond-false, and_from, and_parts, or_parts, or_cases, or_left, or_right, not-false, ltb-true, lt-ltb, le-ltb, eqb-true, eq-eqb, ne_eqb}
use Rattle.std.proofs.lemmas.Bool.Decides.{nat_tests}
use Rattle.sheet.specs.Kinds.{weight_of}
use Rattle.sheet.specs.Routines.{Command, assign, load, store, new, free, jump, branch, cut, call, done}
use Rattle.sheet.specs.Written.{command_kind}
use Rattle.sheet.specs.Flow.{row_at, is_cut, opens, closes, ends, strays, bad_target, Leads, Way, close, step, Opens, Heavy, InPlace, Most}
use Rattle.sheet.specs.Reading.{ahead, weighs, weights, first_heavy, heavy_piece}
use Rattle.sheet.proofs.Lowest.{lowest, lowest_none, none_lowest, lowest_some}

pub length-weights : (i : ℕ) (rows : List Command) → length (weights i rows) ≡ length rows
length-weights i [] = refl
length-weights i (c ∷ cs) = ap suc (length-weights (suc i) cs)

ahead_bounded : (i : ℕ) (ws : List ℕ) (r n : ℕ) → ((k : ℕ) → get_or ws k 0 ≤ n) → ahead i ws r ≤ n
ahead_bounded i ws r n f = let h = f (r - suc i) in grind (arith, nat_tests)

weighs_bounded : (c : Command) (i : ℕ) (ws : List ℕ) (n : ℕ) → ((k : ℕ) → get_or ws k 0 ≤ n) → weighs c i ws ≤ suc n
weighs_bounded (assign x e) i ws n f = let h = f 0 in omega arith
weighs_bounded (load x y) i ws n f = let h = f 0 in omega arith
weighs_bounded (store x e) i ws n f = let h = f 0 in omega arith
weighs_bounded (new x) i ws n f = let h = f 0 in omega arith
weighs_bounded (free x) i ws n f = let h = f 0 in omega arith
weighs_bounded (jump r) i ws n f = let h = ahead_bounded i ws r n f in omega arith
weighs_bounded (branch e g r) i ws n f = let h = f 0 in let k = ahead_bounded i ws r n f in omega arith
weighs_bounded (cut l) i ws n f = omega arith
weighs_bounded (call x q y z s t l) i ws n f = omega arith
weighs_bounded done i ws n f = omega arith

pub weights_bounded : (i : ℕ) (rows : List Command) (k : ℕ) → get_or (weights i rows) k 0 ≤ length rows
weights_bounded i [] k = omega arith
weights_bounded i (c ∷ cs) zero = weighs_bounded c i (weights (suc i) cs) (length cs) (weights_bounded (suc i) cs)
weights_bounded i (c ∷ cs) (suc k) = let h = weights_bounded (suc i) cs k in omega arith

-- what each entry is made of
weights_at : (k i n : ℕ) (rows : List Command) → n ≡ k + i → get_or (weights i rows) k 0 ≡ weighs (get_or rows k done) n (drop (suc k) (weights i rows))
weights_at k i n [] e = refl
weights_at zero i n (c ∷ cs) e = let q : i ≡ n = omega arith in ap (λ m. weighs c m (weights (suc i) cs)) q
weights_at (suc k) i n (c ∷ cs) e = weights_at k (suc i) n cs (omega arith)

pub weights-drop : (k i n : ℕ) (rows : List Command) → n ≡ k + i → weights n (drop k rows) ≡ drop k (weights i rows)
weights-drop zero i n rows e = let q : n ≡ i = omega arith in ap (λ m. weights m rows) q
weights-drop (suc k) i n [] e = refl
weights-drop (suc k) i n (c ∷ cs) e = weights-drop k (suc i) n cs (omega arith)

-- the most weight from row i on, by the pass
abbrev pub most : List Command → ℕ → ℕ
most rows i = get_or (weights 1 rows) (i - 1) 0

cut_closes : (c : Command) → is_cut c ≡ true → closes c ≡ true
cut_closes (assign x e) h = h
cut_closes (load x y) h = h
cut_closes (store x e) h = h
cut_closes (new x) h = h
cut_closes (free x) h = h
cut_closes (jump r) h = h
cut_closes (branch e f r) h = h
cut_closes (cut l) h = h
cut_closes (call x q y z s t l) h = refl
cut_closes done h = refl

closed_stays : (c : Command) (i j : ℕ) → closes c ≡ true → Leads c i j → ⊥
closed_stays (assign x e) i j h l = absurd (false≢true h)
closed_stays (load x y) i j h l = absurd (false≢true h)
closed_stays (store x e) i j h l = absurd (false≢true h)
closed_stays (new x) i j h l = absurd (false≢true h)
closed_stays (free x) i j h l = absurd (false≢true h)
closed_stays (jump r) i j h l = absurd (false≢true h)
closed_stays (branch e f r) i j h l = absurd (false≢true h)
closed_stays (cut k) i j h l = l
closed_stays (call x q y z s t k) i j h l = l
closed_stays done i j h l = l

module _ (rows : List Command) where
  -- the entries behind row i
  abbrev rest : ℕ → List ℕ
  rest i = drop i (weights 1 rows)

  most-is : (i : ℕ) → 1 ≤ i → most rows i ≡ weighs (row_at rows i) i (rest i)
  most-is i h =
      let q : suc (i - 1) ≡ i = omega arith in
      weights_at (i - 1) 1 i rows (omega arith) ∙ ap (λ n. weighs (row_at rows i) i (drop n (weights 1 rows))) q

  next_is : (i : ℕ) → get_or (rest i) 0 0 ≡ most rows (suc i)
  next_is i = let q : i + 0 ≡ suc i - 1 = omega arith in get_or-drop i (weights 1 rows) 0 0 ∙ ap (λ n. get_or (weights 1 rows) n 0) q

  ahead-is : (i r : ℕ) → i < r → ahead i (rest i) r ≡ most rows r
  ahead-is i r h =
      let q : i + (r - suc i) ≡ r - 1 = omega arith in
      cond-true (ltb i r) (get_or (rest i) (r - suc i) 0) 0 (lt-ltb i r h) ∙ (get_or-drop i (weights 1 rows) (r - suc i) 0 ∙ ap (λ n. get_or (weights 1 rows) n 0) q)

  ahead-back : (i r : ℕ) → r ≤ i → ahead i (rest i) r ≡ 0
  ahead-back i r h = cond-false (ltb i r) (get_or (rest i) (r - suc i) 0) 0 (le-ltb i r h)

  -- a target is a later row or a cut
  target_cases : (i r : ℕ) → strays rows i r ≡ false → (i < r) ⊎ (is_cut (row_at rows r) ≡ true)
  target_cases i r e = elim (or_cases (ltb i r) (is_cut (row_at rows r)) (not-false (ltb i r || is_cut (row_at rows r)) e)) [
    | inl h ↦ inl (ltb-true i r h)
    | inr h ↦ inr h
  ]

  -- a row leads on to a later row, with what is left of the weight, or to a cut
  abbrev LeadsOn : Command → ℕ → ℕ → Type 0
  LeadsOn c i j = ((i < j) × (weight_of (command_kind c) + most rows j ≤ weighs c i (rest i))) ⊎ ((is_cut (row_at rows j) ≡ true) × (weight_of (command_kind c) ≡ 0))

  to_next : (v i j : ℕ) → j ≡ suc i → v + most rows j ≤ v + get_or (rest i) 0 0
  to_next v i j e = subst (λ m. v + most rows m ≤ v + get_or (rest i) 0 0) (sym e) (let h = next_is i in omega arith)

  to_target : (v i r j : ℕ) → strays rows i r ≡ false → j ≡ r → ahead i (rest i) r ≤ v → ((i < j) × (0 + most rows j ≤ v)) ⊎ ((is_cut (row_at rows j) ≡ true) × (◌≡◌ {A = ℕ} 0 0))
  to_target v i r j b e h = elim (target_cases i r b) [
    | inl l ↦ inl (omega arith, let q = ahead-is i r l in subst (λ m. 0 + most rows m ≤ v) (sym e) (omega arith))
    | inr c ↦ inr (subst (λ m. is_cut (row_at rows m) ≡ true) (sym e) c, refl)
  ]

  leads_on : (c : Command) (i j : ℕ) → bad_target rows i c ≡ false → Leads c i j → LeadsOn c i j
  leads_on (assign x e) i j b l = inl (omega arith, let h = to_next 0 i j l in omega arith)
  leads_on (load x y) i j b l = inl (omega arith, to_next 1 i j l)
  leads_on (store x e) i j b l = inl (omega arith, to_next 1 i j l)
  leads_on (new x) i j b l = inl (omega arith, to_next 1 i j l)
  leads_on (free x) i j b l = inl (omega arith, to_next 1 i j l)
  leads_on (jump r) i j b l = to_target (ahead i (rest i) r) i r j b l (omega arith)
  leads_on (branch e f r) i j b (inl l) = to_target (max (get_or (rest i) 0 0) (ahead i (rest i) r)) i r j b l (omega arith)
  leads_on (branch e f r) i j b (inr l) = inl (omega arith, let h = to_next 0 i j l in omega arith)
  leads_on (cut k) i j b l = absurd l
  leads_on (call x q y z s t k) i j b l = absurd l
  leads_on done i j b l = absurd l

  closed_way : {j w : ℕ} → closes (row_at rows j) ≡ true → Way rows j w → w ≡ 0
  closed_way {j} {w} h (close e) = refl
  closed_way {j} {w} h (step {j = k} {w = v} l y) = absurd (closed_stays (row_at rows j) j k h l)

  module _ (in_place : InPlace rows) where
    in_place_at : (i : ℕ) → 1 ≤ i → bad_target rows i (row_at rows i) ≡ false
    in_place_at i h = elim (cases_lt (length rows) i) [
      | inl g ↦ subst (λ c. bad_target rows i c ≡ false) (sym (get_or_past rows (i - 1) done (omega arith))) refl
      | inr g ↦ (or_parts (bad_target rows i (row_at rows i)) (eqb i (length rows) && not (ends (row_at rows i))) (in_place i h g)).0
    ]

    -- no way weighs more
    pub way_bounded : {i w : ℕ} → 1 ≤ i → Way rows i w → w ≤ most rows i
    way_bounded {i} {w} h (close e) = omega arith
    way_bounded {i} {w} h (step {j = j} {w = v} l y) =
        let m = most-is i h in
        elim (leads_on (row_at rows i) i j (in_place_at i h) l) [
          | inl o ↦ let b = way_bounded (omega arith) y in omega arith
          | inr o ↦ let z = closed_way (cut_closes (row_at rows j) o.0) y in omega arith
        ]

    step_as : (c : Command) (i j v w : ℕ) → c ≡ row_at rows i → Leads c i j → Way rows j w → weight_of (command_kind c) + w ≡ v → Way rows i v
    step_as c i j v w e l y q = subst (Way rows i) (sym (ap (λ d. weight_of (command_kind d) + w) e) ∙ q) (step (subst (λ d. Leads d i j) e l) y)

    close_as : (c : Command) (i v : ℕ) → c ≡ row_at rows i → closes c ≡ true → 0 ≡ v → Way rows i v
    close_as c i v e h q = subst (Way rows i) q (close (subst (λ d. closes d ≡ true) e h))

    -- the ways from later rows on
    abbrev Later : ℕ → Type 0
    Later i = (j : ℕ) → i < j → Way rows j (most rows j)

    way_next : (c : Command) (i v : ℕ) → c ≡ row_at rows i → Leads c i (suc i) → weight_of (command_kind c) + get_or (rest i) 0 0 ≡ v → Later i → Way rows i v
    way_next c i v e l q f = step_as c i (suc i) v (most rows (suc i)) e l (f (suc i) (omega arith)) (let h = next_is i in omega arith)

    way_target : (c : Command) (i r : ℕ) → c ≡ row_at rows i → Leads c i r → weight_of (command_kind c) ≡ 0 → strays rows i r ≡ false → Later i → Way rows i (ahead i (rest i) r)
    way_target c i r e l z b f = elim (cases_lt i r) [
      | inl h ↦ step_as c i r (ahead i (rest i) r) (most rows r) e l (f r h) (let q = ahead-is i r h in omega arith)
      | inr h ↦ elim (target_cases i r b) [
        | inl g ↦ absurd (omega arith)
        | inr k ↦ step_as c i r (ahead i (rest i) r) 0 e l (close (cut_closes (row_at rows r) k)) (let q = ahead-back i r h in omega arith)
      ]
    ]

    -- from each row there is a way of its weight if there is one from each later row
    way_on : (c : Command) (i : ℕ) → c ≡ row_at rows i → bad_target rows i c ≡ false → Later i → Way rows i (weighs c i (rest i))
    way_on (assign x y) i e b f = way_next (assign x y) i (get_or (rest i) 0 0) e refl (omega arith) f
    way_on (load x y) i e b f = way_next (load x y) i (1 + get_or (rest i) 0 0) e refl refl f
    way_on (store x y) i e b f = way_next (store x y) i (1 + get_or (rest i) 0 0) e refl refl f
    way_on (new x) i e b f = way_next (new x) i (1 + get_or (rest i) 0 0) e refl refl f
    way_on (free x) i e b f = way_next (free x) i (1 + get_or (rest i) 0 0) e refl refl f
    way_on (jump r) i e b f = way_target (jump r) i r e refl refl b f
    way_on (branch x y r) i e b f = elim (cases_lt (get_or (rest i) 0 0) (ahead i (rest i) r)) [
      | inl h ↦ let q : ahead i (rest i) r ≡ max (get_or (rest i) 0 0) (ahead i (rest i) r) = omega arith in subst (Way rows i) q (way_target (branch x y r) i r e (inl refl) refl b f)
      | inr h ↦ way_next (branch x y r) i (max (get_or (rest i) 0 0) (ahead i (rest i) r)) e (inr refl) (omega arith) f
    ]
    way_on (cut k) i e b f = close_as (cut k) i 0 e refl refl
    way_on (call x q y z s t k) i e b f = close_as (call x q y z s t k) i 0 e refl refl
    way_on done i e b f = close_as done i 0 e refl refl

    -- by the number of rows from i on
    way_within : (n i : ℕ) → length rows < n + i → 1 ≤ i → Way rows i (most rows i)
    way_within zero i l h = close_as done i (most rows i) (sym (get_or_past rows (i - 1) done (omega arith))) refl (sym (get_or_past (weights 1 rows) (i - 1) 0 (let q = length-weights 1 rows in omega arith)))
    way_within (suc n) i l h = subst (Way rows i) (sym (most-is i h)) (way_on (row_at rows i) i refl (in_place_at i h) (λ j g. way_within n j (omega arith) (omega arith)))

    -- some way weighs as much
    pub way_there : (i : ℕ) → 1 ≤ i → Way rows i (most rows i)
    way_there i h = way_within (length rows) i (omega arith) h

  -- a piece opens behind row p and weighs too much by the pass
  abbrev over : ℕ → Bool
  over p = (eqb p 0 || opens (row_at rows p)) && ltb 8 (most rows (suc p))

  same_test : (a b c : Bool) (m n : ℕ) → a ≡ false → c ≡ b → n ≡ m → (c && ltb 8 n) ≡ ((a || b) && ltb 8 m)
  same_test a b c m n p q r = rw (p, q, r)

  row_ahead : (k : ℕ) (c : Command) (cs : List Command) → drop k rows ≡ c ∷ cs → c ≡ row_at rows (suc k)
  row_ahead k c cs e = let q : k + 0 ≡ suc k - 1 = omega arith in ap (λ xs. get_or xs 0 done) (sym e) ∙ (get_or-drop k rows 0 done ∙ ap (λ n. get_or rows n done) q)

  rows_behind : (k : ℕ) (c : Command) (cs : List Command) → drop k rows ≡ c ∷ cs → drop (suc k) rows ≡ cs
  rows_behind k c cs e = let q : suc k ≡ k + 1 = omega arith in ap (λ n. drop n rows) q ∙ (sym (drop-drop 1 k rows) ∙ ap (drop 1) e)

  heavy_search : (k : ℕ) (cs : List Command) → drop k rows ≡ cs → first_heavy (suc k) cs ≡ lowest over (suc k) (length cs)
  heavy_search k [] e = refl
  heavy_search k (c ∷ cs) e =
      let behind = rows_behind k c cs e in
      let w : get_or (weights (suc (suc k)) cs) 0 0 ≡ most rows (suc (suc k)) =
      ap (λ xs. get_or (weights (suc (suc k)) xs) 0 0) (sym behind) ∙ (ap (λ ws. get_or ws 0 0) (weights-drop (suc k) 1 (suc (suc k)) rows (omega arith)) ∙ next_is (suc k)) in
      ap (λ b. cond b (Some (suc k)) (first_heavy (suc (suc k)) cs))
      (same_test (eqb (suc k) 0) (opens (row_at rows (suc k))) (opens c) (most rows (suc (suc k))) (get_or (weights (suc (suc k)) cs) 0 0) (ne_eqb (suc k) 0 (λ q. omega arith)) (ap opens (row_ahead k c cs e)) w)
      ∙ ap (λ o. cond (over (suc k)) (Some (suc k)) o) (heavy_search (suc k) cs behind)

  as_lowest : heavy_piece rows ≡ lowest over 0 (suc (length rows))
  as_lowest = ap (λ o. cond (ltb 8 (get_or (weights 1 rows) 0 0)) (Some 0) o) (heavy_search 0 rows refl)

  opens_test : (p : ℕ) → Opens rows p → ((eqb p 0 || opens (row_at rows p)) ≡ true) × (p ≤ length rows)
  opens_test p (inl e) = (or_left (eqb p 0) (opens (row_at rows p)) (eq-eqb p 0 e), omega arith)
  opens_test p (inr o) = (or_right (eqb p 0) (opens (row_at rows p)) o.2, o.1)

  test_opens : (p : ℕ) → p ≤ length rows → (eqb p 0 || opens (row_at rows p)) ≡ true → Opens rows p
  test_opens p h e = elim (cases_eq p 0) [
    | inl z ↦ inl z
    | inr n ↦ elim (or_cases (eqb p 0) (opens (row_at rows p)) e) [
      | inl z ↦ inl (eqb-true p 0 z)
      | inr o ↦ inr (omega arith, h, o)
    ]
  ]

  module _ (in_place : InPlace rows) where
    heavy_over : (p : ℕ) → Heavy rows p → (p ≤ length rows) × (over p ≡ true)
    heavy_over p h =
        let o = opens_test p h.opening in
        let b = way_bounded in_place {i = suc p} {w = h.weight} (omega arith) h.way in
        (o.1, and_from (eqb p 0 || opens (row_at rows p)) (ltb 8 (most rows (suc p))) o.0 (lt-ltb 8 (most rows (suc p)) (omega (arith, b, h.over))))

    over_heavy : (p : ℕ) → p ≤ length rows → over p ≡ true → Heavy rows p
    over_heavy p l e =
        let b = and_parts (eqb p 0 || opens (row_at rows p)) (ltb 8 (most rows (suc p))) e in
        record { opening = test_opens p l b.0; weight = most rows (suc p); over = ltb-true 8 (most rows (suc p)) b.1; way = way_there in_place (suc p) (omega arith) }

    pub heavy_none : heavy_piece rows ≡ None → (p : ℕ) → Heavy rows p → ⊥
    heavy_none e p h =
        let o = heavy_over p h in
        both_ways (over p) (lowest_none over 0 (suc (length rows)) (sym as_lowest ∙ e) p (omega arith) (omega arith)) o.1

    pub none_heavy : ((p : ℕ) → Heavy rows p → ⊥) → heavy_piece rows ≡ None
    none_heavy f = as_lowest ∙ none_lowest over 0 (suc (length rows)) (λ p h l. elim (cases_Bool (over p)) [
      | inl t ↦ absurd (f p (over_heavy p (omega arith) t))
      | inr t ↦ t
    ])

    pub heavy_first : (p : ℕ) → heavy_piece rows ≡ Some p → Heavy rows p × ((q : ℕ) → q < p → Heavy rows q → ⊥)
    heavy_first p e =
        let f = lowest_some over 0 (suc (length rows)) p (sym as_lowest ∙ e) in
        (over_heavy p (omega arith) f.passes, λ q l h. both_ways (over q) (f.below q (omega arith) l) (heavy_over q h).1)

-- the weight of a piece is the most on any way
pub most_exact : (rows : List Command) → InPlace rows → (k : ℕ) → Most rows (suc k) (get_or (weights 1 rows) k 0)
most_exact rows p k =
    let e : suc k - 1 ≡ k = omega arith in
    subst (λ n. Most rows (suc k) (get_or (weights 1 rows) n 0)) e
    (record { reached = way_there rows p (suc k) (omega arith); greatest = λ v w. way_bounded rows p (omega arith) w })
