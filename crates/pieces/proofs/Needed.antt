-- Proofs: what a run does from a state does not depend on the names that it does not need.
use Rattle.std.proofs.Common.{◌≡◌, ℕ, suc, Bool, true, false, cond, ◌&&◌, ◌||◌, ◌≢◌, List, [], ◌∷◌, Some, sym, refl, ap, ◌∙◌, subst, inl, inr, arith}
use Rattle.std.specs.List.{filter}
use Rattle.std.proofs.lemmas.Bool.Decides.{nat_tests}
use Rattle.std.proofs.lemmas.Bool.{cases_eq, cases_Bool}
use Rattle.heap.specs.Heaps.{Heap, without, IsCell, IsLseg}
use Rattle.heap.specs.Lists.{Holds}
use Rattle.heap.specs.declared.atoms.Atom.{Atom}
use Rattle.heap.specs.declared.atoms.Atom.TheVariants.{Eq, Neq, Next, Lseg}
use Rattle.sheet.specs.Routines.{Command, assign, load, store, new, free, jump, branch, cut, call, done}
use Rattle.sheet.specs.Flow.{row_at}
use Rattle.pieces.specs.Pieces.{put, mem, State, Does, Runs, here, on, Contract, touched, closing, Opening, Allowed, Lives, Keeps}
use Rattle.pieces.specs.ModelNeeded.{mentions, mentioned, needed_at, in_closing, Enough, lean}

-- a list speaks of the names that it mentions
same_holds : (l : List Atom) (v u : ℕ → ℕ) (h : Heap) → ((n : ℕ) → mentions n l ≡ true → v n ≡ u n) → Holds v l h → Holds u l h
same_holds [] v u h a H = H
same_holds (Eq x y ∷ l) v u h a (e, H) =
    let p = a x (grind (arith, nat_tests)) in let q = a y (grind (arith, nat_tests)) in
    (sym p ∙ e ∙ q, same_holds l v u h (λ n t. a n (grind (arith, nat_tests))) H)
same_holds (Neq x y ∷ l) v u h a (e, H) =
    let p = a x (grind (arith, nat_tests)) in let q = a y (grind (arith, nat_tests)) in
    ((λ f. e (p ∙ f ∙ sym q)), same_holds l v u h (λ n t. a n (grind (arith, nat_tests))) H)
same_holds (Next x y ∷ l) v u h a (i, j, sp, C, H) =
    let p = a x (grind (arith, nat_tests)) in let q = a y (grind (arith, nat_tests)) in
    (i, j, sp, subst (λ m. IsCell m (u y) i) p (subst (λ m. IsCell (v x) m i) q C), same_holds l v u j (λ n t. a n (grind (arith, nat_tests))) H)
same_holds (Lseg x y ∷ l) v u h a (i, j, sp, L, H) =
    let p = a x (grind (arith, nat_tests)) in let q = a y (grind (arith, nat_tests)) in
    (i, j, sp, subst (λ m. IsLseg i m (u y)) p (subst (λ m. IsLseg i (v x) m) q L), same_holds l v u j (λ n t. a n (grind (arith, nat_tests))) H)

-- a state with other values
abbrev pub with_env : State → (ℕ → ℕ) → State
with_env s e = record { row = s.row; env = e; heap = s.heap }

module _ (callee : ℕ → Contract) (after : List Atom) (rows : List Command) (need : ℕ → ℕ → Bool) (ok : Enough callee after rows need) where
  -- the values that matter from row r on are the same
  abbrev pub Agree : ℕ → (ℕ → ℕ) → (ℕ → ℕ) → Type 0
  Agree r v u = (n : ℕ) → need r n ≡ true → v n ≡ u n

  abbrev Needs : ℕ → Command → Type 0
  Needs r w = (n : ℕ) → needed_at (λ k. need k n) (in_closing callee after rows n) n r w ≡ true → need r n ≡ true

  abbrev Follows : Command → Type 0
  Follows w = (s u : State) (e : ℕ → ℕ) → Needs s.row w → Agree s.row s.env e → Does w s u → (e' : ℕ → ℕ) × Does w (with_env s e) (with_env u e') × Agree u.row u.env e'

  -- one value written, the same on both sides
  written : (r k x a : ℕ) (v e : ℕ → ℕ) → Agree r v e → ((n : ℕ) → n ≢ x → need k n ≡ true → need r n ≡ true) → Agree k (put v x a) (put e x a)
  written r k x a v e A up n t = elim (cases_eq n x) [
    | inl q ↦ grind (arith, nat_tests)
    | inr q ↦ let b = A n (up n q t) in grind (arith, nat_tests)
  ]

  follows_assign : (x y : ℕ) → Follows (assign x y)
  follows_assign x y s u e N A d =
      let b = A y (N y (grind (arith, nat_tests))) in
      let w = written s.row (suc s.row) x (s.env y) s.env e A (λ n q t. N n (grind (arith, nat_tests))) in (
        put e x (s.env y),
        (rw d (ap (λ v. record { row = suc s.row; env = put e x v; heap = s.heap }) b)),
        rw d w,
      )

  follows_load : (x y : ℕ) → Follows (load x y)
  follows_load x y s u e N A (v, l, d) =
      let b = A y (N y (grind (arith, nat_tests))) in
      let w = written s.row (suc s.row) x v s.env e A (λ n q t. N n (grind (arith, nat_tests))) in
      (put e x v, (v, ap s.heap (sym b) ∙ l, rw d refl), rw d w)

  abbrev After : State → (ℕ → ℕ) → Heap → State
  After s e h = record { row = suc s.row; env = e; heap = h }

  follows_store : (x y : ℕ) → Follows (store x y)
  follows_store x y s u e N A (l, d) =
      let b = A x (N x (grind (arith, nat_tests))) in let c = A y (N y (grind (arith, nat_tests))) in
      let w : Agree (suc s.row) s.env e = (λ n t. A n (N n (grind (arith, nat_tests)))) in (
        e,
        ((λ q. l (ap s.heap b ∙ q)), rw d (ap (λ a. After s e (put s.heap a (Some (s.env y)))) b ∙ ap (λ a. After s e (put s.heap (e x) (Some a))) c)),
        rw d w,
      )

  follows_new : (x : ℕ) → Follows (new x)
  follows_new x s u e N A (a, z, l, d) =
      let w = written s.row (suc s.row) x a s.env e A (λ n q t. N n (grind (arith, nat_tests))) in
      (put e x a, (a, z, l, rw d refl), rw d w)

  follows_free : (x : ℕ) → Follows (free x)
  follows_free x s u e N A (l, d) =
      let b = A x (N x (grind (arith, nat_tests))) in
      let w : Agree (suc s.row) s.env e = (λ n t. A n (N n (grind (arith, nat_tests)))) in
      (e, ((λ q. l (ap s.heap b ∙ q)), rw d (ap (λ a. After s e (without s.heap a)) b)), rw d w)

  follows_jump : (t : ℕ) → Follows (jump t)
  follows_jump t s u e N A d = let w : Agree t s.env e = (λ n q. A n (N n q)) in (e, rw d refl, rw d w)

  follows_branch : (x y t : ℕ) → Follows (branch x y t)
  follows_branch x y t s u e N A d =
      let b = A x (N x (grind (arith, nat_tests))) in let c = A y (N y (grind (arith, nat_tests))) in
      elim d [
        | inl (q, d) ↦ let w : Agree t s.env e = (λ n p. A n (N n (grind (arith, nat_tests)))) in (e, inl (sym b ∙ q ∙ c, rw d refl), rw d w)
        | inr (q, d) ↦ let w : Agree (suc s.row) s.env e = (λ n p. A n (N n (grind (arith, nat_tests)))) in (e, inr ((λ f. q (b ∙ f ∙ sym c)), rw d refl), rw d w)
      ]

  follows : (w : Command) → Follows w
  follows (assign x y) = follows_assign x y
  follows (load x y) = follows_load x y
  follows (store x y) = follows_store x y
  follows (new x) = follows_new x
  follows (free x) = follows_free x
  follows (jump t) = follows_jump t
  follows (branch x y t) = follows_branch x y t
  follows (cut l) = λ s u e N A d. absurd d
  follows (call x q y z i j l) = λ s u e N A d. absurd d
  follows done = λ s u e N A d. absurd d

  -- a run from a state goes the same way from a state that agrees with it
  pub run_follows : (g : State) (s : State) → Runs rows g s → (e : ℕ → ℕ) → Agree s.row s.env e → (e' : ℕ → ℕ) × Runs rows (with_env g e') (with_env s e) × Agree g.row g.env e'
  run_follows g s here e A = (e, here, A)
  run_follows g s (on {u = u} d t) e A =
      let x = follows (row_at rows s.row) s u e (λ n. ok s.row n) A d in
      let y = run_follows g u t x.0 x.2 in
      (y.0, on x.1 y.1, y.2)

  touch_needs : (w : Command) (r x : ℕ) → Needs r w → touched w ≡ Some x → need r x ≡ true
  touch_needs (assign x y) r n N e = absurd (grind (arith, nat_tests))
  touch_needs (load x y) r n N e = let q : y ≡ n = cc in N n (grind (arith, nat_tests))
  touch_needs (store x y) r n N e = let q : x ≡ n = cc in N n (grind (arith, nat_tests))
  touch_needs (new x) r n N e = absurd (grind (arith, nat_tests))
  touch_needs (free x) r n N e = let q : x ≡ n = cc in N n (grind (arith, nat_tests))
  touch_needs (jump t) r n N e = absurd (grind (arith, nat_tests))
  touch_needs (branch x y t) r n N e = absurd (grind (arith, nat_tests))
  touch_needs (cut l) r n N e = absurd (grind (arith, nat_tests))
  touch_needs (call x q y z i j l) r n N e = absurd (grind (arith, nat_tests))
  touch_needs done r n N e = absurd (grind (arith, nat_tests))

  close_needs : (w : Command) (r n : ℕ) → w ≡ row_at rows r → Needs r w → (l : List Atom) → closing callee after w ≡ Some l → mentions n l ≡ true → need r n ≡ true
  close_needs (assign x y) r n q N l e t = absurd (grind (arith, nat_tests))
  close_needs (load x y) r n q N l e t = absurd (grind (arith, nat_tests))
  close_needs (store x y) r n q N l e t = absurd (grind (arith, nat_tests))
  close_needs (new x) r n q N l e t = absurd (grind (arith, nat_tests))
  close_needs (free x) r n q N l e t = absurd (grind (arith, nat_tests))
  close_needs (jump k) r n q N l e t = absurd (grind (arith, nat_tests))
  close_needs (branch x y k) r n q N l e t = absurd (grind (arith, nat_tests))
  close_needs (cut m) r n q N l e t = N n (ap (λ w. mentioned n (closing callee after w)) (sym q) ∙ ap (mentioned n) e ∙ t)
  close_needs (call x c y z i j m) r n q N l e t = N n (ap (λ w. mentioned n (closing callee after w)) (sym q) ∙ ap (mentioned n) e ∙ t)
  close_needs done r n q N l e t = N n (ap (λ w. mentioned n (closing callee after w)) (sym q) ∙ ap (mentioned n) e ∙ t)

  -- what holds of the row at one of them holds at the other
  pub lives_back : (g : State) (e : ℕ → ℕ) → Agree g.row g.env e → Lives (row_at rows g.row) (with_env g e) → Lives (row_at rows g.row) g
  lives_back g e A L x q =
      let v = L x q in let b = A x (touch_needs (row_at rows g.row) g.row x (λ n. ok g.row n) q) in
      (v.0, ap g.heap b ∙ v.1)

  pub keeps_back : (g : State) (e : ℕ → ℕ) → Agree g.row g.env e → Keeps callee after (row_at rows g.row) (with_env g e) → Keeps callee after (row_at rows g.row) g
  keeps_back g e A K l q = same_holds l e g.env g.heap (λ n t. sym (A n (close_needs (row_at rows g.row) g.row n refl (λ n. ok g.row n) l q t))) (K l q)

-- the names that are left out are 0
abbrev only : List ℕ → (ℕ → ℕ) → ℕ → ℕ
only names v n = cond (mem n names) (v n) 0

mem-kept : (p : ℕ → Bool) (l : List ℕ) (n : ℕ) → mem n (filter p l) ≡ (p n && mem n l)
mem-kept p [] n = elim (cases_Bool (p n)) [ inl t ↦ rw t | inr t ↦ rw t ]
mem-kept p (x ∷ l) n =
    let ih = mem-kept p l n in
    elim (cases_Bool (p x)) [
      | inl t ↦ rw t (elim (cases_eq n x) [ inl e ↦ let q : p n ≡ true = (ap p e ∙ t) in grind (arith, nat_tests) | inr e ↦ grind (arith, nat_tests) ])
      | inr t ↦ rw t (elim (cases_eq n x) [ inl e ↦ let q : p n ≡ false = (ap p e ∙ t) in grind (arith, nat_tests) | inr e ↦ grind (arith, nat_tests) ])
    ]

module _ (callee : ℕ → Contract) (after : List Atom) (rows : List Command) (need : ℕ → ℕ → Bool) (ok : Enough callee after rows need) (o : Opening) where
  abbrev wanted : ℕ → Bool
  wanted n = mentions n o.list || need o.row n

  -- the state with the names that are not needed at nil
  abbrev pub bared : State → State
  bared s = with_env s (only (filter wanted o.names) s.env)

  -- a name that is wanted keeps its value: it is one of the opening's, or 0 anyway
  stays : (s : State) → Allowed o s → (n : ℕ) → wanted n ≡ true → s.env n ≡ (bared s).env n
  stays s A n t =
      let k = mem-kept wanted o.names n in
      elim (cases_Bool (mem n o.names)) [
        | inl m ↦ let q : mem n (filter wanted o.names) ≡ true = k ∙ rw (t, m) in rw q
        | inr m ↦ let q : mem n (filter wanted o.names) ≡ false = k ∙ rw (t, m) in rw q (A.far n m)
      ]

  pub bared_allowed : (s : State) → Allowed o s → Allowed (lean need o) (bared s)
  bared_allowed s A = record {
    first = A.first;
    far = λ n t. rw t;
    holds = same_holds o.list s.env (bared s).env s.heap (λ n t. stays s A n (grind (arith, nat_tests))) A.holds;
  }

  pub bared_agrees : (s : State) → Allowed o s → Agree callee after rows need ok s.row s.env (bared s).env
  bared_agrees s A n t = stays s A n (let f = A.first in let q : need o.row n ≡ true = rw f at t in rw q (elim (cases_Bool (mentions n o.list)) [ inl b ↦ rw b | inr b ↦ rw b ]))

  pub lean_allowed : (s : State) → Allowed (lean need o) s → Allowed o s
  lean_allowed s A = record {
    first = A.first;
    far = λ n t. A.far n (mem-kept wanted o.names n ∙ (elim (cases_Bool (wanted n)) [ inl b ↦ rw (b, t) | inr b ↦ rw b ]));
    holds = A.holds;
  }
