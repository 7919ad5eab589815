-- The pass from the last row back, entry by entry.
use Rattle.std.proofs.Common.{◌≡◌, ℕ, zero, suc, ◌+◌, ◌-◌, ◌<◌, ◌≤◌, max, Bool, true, false, cond, ◌&&◌, ltb, List, ◌∷◌, length, get_or, drop, set, replicate, Some, sym, refl, ap, ◌∙◌, subst, inl, inr, add-one, arith}
use Rattle.std.proofs.lemmas.List.{at_drop_more, at_drop_all, get_or-set_same, get_or-set_other, length-drop, get_or-drop}
use Rattle.std.proofs.lemmas.Bool.{cases_Bool, cond-true, cond-false, ltb-true, lt-ltb, le-ltb}
use Rattle.sheet.specs.Routines.{Command, assign, load, store, new, free, jump, branch, cut, call, done}
use Rattle.sheet.specs.Reading.{ahead, weighs, weights, first_heavy, heavy_piece}
use Rattle.sheet.specs.Flow.{opens}
use Rattle.sheet.specs.ModelReading.{ahead_in, weighs_in}
use Rattle.sheet.proofs.WeightsExact.{weights_bounded, weights-drop}

-- from entry i on, ws has what W has
abbrev pub Agree : List ℕ → ℕ → List ℕ → Type 0
Agree ws i W = (k : ℕ) → get_or ws (i + k) 0 ≡ get_or W k 0

first_same : (ws W : List ℕ) (i : ℕ) → Agree ws i W → get_or ws i 0 ≡ get_or W 0 0
first_same ws W i a = let e : i ≡ i + 0 = omega arith in ap (λ n. get_or ws n 0) e ∙ a 0

ahead_same : (ws W : List ℕ) (i r : ℕ) → Agree ws i W → ahead_in i ws r ≡ ahead i W r
ahead_same ws W i r a = elim (cases_Bool (ltb i r)) [
  | inl t ↦
      let h = ltb-true i r t in
      let e : r - 1 ≡ i + (r - suc i) = omega arith in
      ap (λ b. cond b (get_or ws (r - 1) 0) 0) t ∙ (ap (λ n. get_or ws n 0) e ∙ (a (r - suc i) ∙ sym (ap (λ b. cond b (get_or W (r - suc i) 0) 0) t)))
  | inr f ↦ ap (λ b. cond b (get_or ws (r - 1) 0) 0) f ∙ sym (ap (λ b. cond b (get_or W (r - suc i) 0) 0) f)
]

pub weighs_same : (c : Command) (i : ℕ) (ws W : List ℕ) → Agree ws i W → weighs_in c i ws ≡ weighs c i W
weighs_same (assign x e) i ws W a = first_same ws W i a
weighs_same (load x y) i ws W a = ap (λ n. 1 + n) (first_same ws W i a)
weighs_same (store x e) i ws W a = ap (λ n. 1 + n) (first_same ws W i a)
weighs_same (new x) i ws W a = ap (λ n. 1 + n) (first_same ws W i a)
weighs_same (free x) i ws W a = ap (λ n. 1 + n) (first_same ws W i a)
weighs_same (jump r) i ws W a = ahead_same ws W i r a
weighs_same (branch e f r) i ws W a = ap (λ n. max n (ahead_in i ws r)) (first_same ws W i a) ∙ ap (λ n. max (get_or W 0 0) n) (ahead_same ws W i r a)
weighs_same (cut l) i ws W a = refl
weighs_same (call x q y z s t l) i ws W a = refl
weighs_same done i ws W a = refl

-- one entry more in front
agree_more : (ws W : List ℕ) (i w : ℕ) → i < length ws → Agree ws (suc i) W → Agree (set ws i w) i (w ∷ W)
agree_more ws W i w h a zero = let e : i + 0 ≡ i = omega arith in ap (λ n. get_or (set ws i w) n 0) e ∙ get_or-set_same ws i w 0 h
agree_more ws W i w h a (suc k) =
    let e : i + suc k ≡ suc i + k = omega arith in
    let ne : suc i + k ≡ i → ⊥ = λ q. omega arith in
    ap (λ n. get_or (set ws i w) n 0) e ∙ (get_or-set_other ws i (suc i + k) w 0 ne ∙ a k)

-- what is found out once the rows from i on are passed
abbrev pub Passed : List ℕ → ℕ → List Command → Type 0
Passed ws i rows = Agree ws i (weights (suc i) (drop i rows))

pub passed_none : (ws : List ℕ) (i : ℕ) (rows : List Command) → length rows ≤ i → ((k : ℕ) → get_or ws k 0 ≡ 0) → Passed ws i rows
passed_none ws i rows h z k = z (i + k) ∙ sym (ap (λ W. get_or W k 0) (at_drop_all (weights (suc i)) rows i h))

pub passed_more : (ws : List ℕ) (i w : ℕ) (rows : List Command) (c : Command) → i < length rows → i < length ws → c ≡ get_or rows i done → w ≡ weighs_in c (i + 1) ws → Passed ws (i + 1) rows → Passed (set ws i w) i rows
passed_more ws i w rows c h l e q a =
    let n = add-one i in
    let b : Agree ws (suc i) (weights (suc (suc i)) (drop (suc i) rows)) = subst (λ m. Agree ws m (weights (suc m) (drop m rows))) n a in
    let s : w ≡ weighs (get_or rows i done) (suc i) (weights (suc (suc i)) (drop (suc i) rows)) =
    q ∙ (ap (λ m. weighs_in c m ws) n ∙ (weighs_same c (suc i) ws (weights (suc (suc i)) (drop (suc i) rows)) b ∙ ap (λ x. weighs x (suc i) (weights (suc (suc i)) (drop (suc i) rows))) e)) in
    let d : weights (suc i) (drop i rows) ≡ weighs (get_or rows i done) (suc i) (weights (suc (suc i)) (drop (suc i) rows)) ∷ weights (suc (suc i)) (drop (suc i) rows) =
    at_drop_more (weights (suc i)) rows i done h ∙ ap (λ m. weighs (get_or rows i done) (suc i) (weights (suc (suc i)) (drop m rows)) ∷ weights (suc (suc i)) (drop m rows)) n in
    subst (λ W. Agree (set ws i w) i W) (sym d) (subst (λ x. Agree (set ws i w) i (x ∷ weights (suc (suc i)) (drop (suc i) rows))) s (agree_more ws (weights (suc (suc i)) (drop (suc i) rows)) i w l b))

pub passed_small : (ws : List ℕ) (i n : ℕ) (rows : List Command) → length rows ≤ n → Passed ws i rows → get_or ws i 0 ≤ n
passed_small ws i n rows h a =
    let e = first_same ws (weights (suc i) (drop i rows)) i a in
    let b = weights_bounded (suc i) (drop i rows) 0 in
    let d = length-drop i rows in
    omega arith

pub zeros : (n k : ℕ) → ◌≡◌ {A = ℕ} (get_or (replicate n 0) k 0) 0
zeros zero k = refl
zeros (suc n) zero = refl
zeros (suc n) (suc k) = zeros n k

-- behind the last turn all rows are passed
pub passed_all : (ws : List ℕ) (i : ℕ) (rows : List Command) → i ≡ 0 → Passed ws i rows → (k : ℕ) → get_or ws k 0 ≡ get_or (weights 1 rows) k 0
passed_all ws i rows e a k =
    let b = subst (λ m. Passed ws m rows) e a in
    let z : k ≡ 0 + k = omega arith in
    ap (λ m. get_or ws m 0) z ∙ b k

-- the search for a heavy piece, step by step
heavy_at : (rows : List Command) (i : ℕ) → get_or (weights (suc (i + 1)) (drop (i + 1) rows)) 0 0 ≡ get_or (weights 1 rows) (i + 1) 0
heavy_at rows i =
    let e : suc (i + 1) ≡ i + 1 + 1 = omega arith in
    let z : i + 1 + 0 ≡ i + 1 = omega arith in
    ap (λ W. get_or W 0 0) (weights-drop (i + 1) 1 (suc (i + 1)) rows e) ∙ (get_or-drop (i + 1) (weights 1 rows) 0 0 ∙ ap (λ n. get_or (weights 1 rows) n 0) z)

heavy_step : (rows : List Command) (i : ℕ) → i < length rows
    → first_heavy (i + 1) (drop i rows) ≡ cond (opens (get_or rows i done) && ltb 8 (get_or (weights 1 rows) (i + 1) 0)) (Some (i + 1)) (first_heavy (i + 1 + 1) (drop (i + 1) rows))
heavy_step rows i h =
    at_drop_more (first_heavy (i + 1)) rows i done h
    ∙ (ap (λ w. cond (opens (get_or rows i done) && ltb 8 w) (Some (i + 1)) (first_heavy (suc (i + 1)) (drop (i + 1) rows))) (heavy_at rows i)
    ∙ ap (λ n. cond (opens (get_or rows i done) && ltb 8 (get_or (weights 1 rows) (i + 1) 0)) (Some (i + 1)) (first_heavy n (drop (i + 1) rows))) (sym (add-one (i + 1))))

pub heavy_here : (rows : List Command) (i : ℕ) (b : Bool) → i < length rows → b ≡ (opens (get_or rows i done) && ltb 8 (get_or (weights 1 rows) (i + 1) 0)) → b ≡ true → first_heavy (i + 1) (drop i rows) ≡ Some (i + 1)
heavy_here rows i b h e t = heavy_step rows i h ∙ cond-true _ (Some (i + 1)) (first_heavy (i + 1 + 1) (drop (i + 1) rows)) (sym e ∙ t)

pub heavy_later : (rows : List Command) (i : ℕ) (b : Bool) → i < length rows → b ≡ (opens (get_or rows i done) && ltb 8 (get_or (weights 1 rows) (i + 1) 0)) → b ≡ false → first_heavy (i + 1) (drop i rows) ≡ first_heavy (i + 1 + 1) (drop (i + 1) rows)
heavy_later rows i b h e t = heavy_step rows i h ∙ cond-false _ (Some (i + 1)) (first_heavy (i + 1 + 1) (drop (i + 1) rows)) (sym e ∙ t)

pub start_light : (rows : List Command) → get_or (weights 1 rows) 0 0 ≤ 8 → heavy_piece rows ≡ first_heavy 1 rows
start_light rows h = cond-false (ltb 8 (get_or (weights 1 rows) 0 0)) (Some 0) (first_heavy 1 rows) (le-ltb 8 (get_or (weights 1 rows) 0 0) h)

pub start_heavy : (rows : List Command) → 8 < get_or (weights 1 rows) 0 0 → heavy_piece rows ≡ Some 0
start_heavy rows h = cond-true (ltb 8 (get_or (weights 1 rows) 0 0)) (Some 0) (first_heavy 1 rows) (lt-ltb 8 (get_or (weights 1 rows) 0 0) h)
