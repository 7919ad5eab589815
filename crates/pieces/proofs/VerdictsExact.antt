-- Proofs: a search that is worked off gives the verdict of the meaning, and there is only one.
use Rattle.std.proofs.Common.{◌≡◌, ℕ, zero, suc, ◌+◌, ◌<◌, ◌≤◌, Bool, false, eqb, ◌⊎◌, List, [], ◌∷◌, ◌++◌, length, Some, None, Ok, Err, Option, sym, refl, ap, ◌∙◌, subst, inl, inr, arith}
use Rattle.std.specs.List.{filter}
use Rattle.std.proofs.lemmas.Bool.Decides.{nat_tests}
use Rattle.std.proofs.lemmas.List.{get_or_past}
use Rattle.std.proofs.lemmas.Bool.{cases_Bool, cases_lt}
use Rattle.heap.specs.declared.atoms.Atom.{Atom}
use Rattle.sheet.specs.Routines.{Command, Routine, done}
use Rattle.sheet.specs.Flow.{row_at}
use Rattle.pieces.specs.declared.verdicts.Flaw.TheVariants.{DeadCell, FalseList}
use Rattle.pieces.specs.Flaws.{Verdict}
use Rattle.pieces.specs.Pieces.{mem, from, State, Contract, Opening, opening, behind, Comes, touched, closing, Misses, Lives, Breaks, Keeps, Right, TouchesDead, ClosesFalse, Lowest, Judged}
use Rattle.pieces.specs.ModelChoices.{SomeOf, Has, gather, lowest}
use Rattle.pieces.specs.ModelStages.{Item, Reaches, Apart}
use Rattle.pieces.specs.ModelNeeded.{Enough, lean}
use Rattle.pieces.specs.ModelSearch.{Searched, start_of, start_at, judge}
use Rattle.pieces.proofs.Choices.{some_gather, gather_some}
use Rattle.pieces.proofs.PileWorked.{none_has, low}
use Rattle.pieces.proofs.Needed.{with_env, Agree, run_follows, lives_back, keeps_back, bared, bared_allowed, bared_agrees, lean_allowed}
use Rattle.pieces.proofs.ItemsLead.{opened_to, opened_from}

-- no piece opens behind the last row
within : (callee : ℕ → Contract) (R : Routine) (n p : ℕ) (o : Opening) → length R.rows ≤ n → opening callee R p ≡ Some o → p < suc n
within callee R n zero o l e = omega arith
within callee R n (suc p) o l e = elim (cases_lt p (length R.rows)) [
  | inl q ↦ omega arith
  | inr q ↦
      let d = get_or_past R.rows p done q in
      let z : behind callee (from 1 R.variables ++ from 7 R.ghosts) (suc (suc p)) done ≡ Some o = rw d at e in absurd (grind (arith, nat_tests))
]

-- a cell cannot be live and dead, nor a list hold and not
not_both : (rows : List Command) (g : State) (r : ℕ) → g.row ≡ r → Misses (row_at rows r) g → Lives (row_at rows g.row) g → ⊥
not_both rows g r e (x, t, d) l = let v = l x (subst (λ k. touched (row_at rows k) ≡ Some x) (sym e) t) in let z = v.1 in grind (arith, nat_tests)

not_kept : (callee : ℕ → Contract) (after : List Atom) (rows : List Command) (g : State) (r : ℕ) → g.row ≡ r → Breaks callee after (row_at rows r) g → Keeps callee after (row_at rows g.row) g → ⊥
not_kept callee after rows g r e (l, t, d) k = d (k l (subst (λ k. closing callee after (row_at rows k) ≡ Some l) (sym e) t))

module _ (callee : ℕ → Contract) (R : Routine) (need : ℕ → ℕ → Bool) (ok : Enough callee R.after R.rows need) (n : ℕ) (all : length R.rows ≤ n) where
  abbrev rows : List Command
  rows = R.rows

  abbrev starts : List Item
  starts = gather (suc n) (start_at need callee R)

  -- what a piece comes to is reached from the items, up to names that do not matter
  lead : (g : State) → Comes callee R g → (e : ℕ → ℕ) × SomeOf (Reaches rows (with_env g e)) starts × Agree callee R.after rows need ok g.row g.env e
  lead g C =
      let o = C.opens in let s = C.start in
      let x = run_follows callee R.after rows need ok g s C.runs (bared callee R.after rows need ok o s).env (bared_agrees callee R.after rows need ok o s C.allowed) in
      let y = opened_to rows (with_env g x.0) (lean need o) (bared callee R.after rows need ok o s) (bared_allowed callee R.after rows need ok o s C.allowed) x.1 in (
        x.0,
        some_gather (Reaches rows (with_env g x.0)) (suc n) (start_at need callee R) C.piece (within callee R n C.piece o all C.is_opening)
            (subst (λ q. SomeOf (Reaches rows (with_env g x.0)) (start_of need q)) (sym C.is_opening) (inl y)),
        x.2,
      )

  come : (g : State) → SomeOf (Reaches rows g) starts → Comes callee R g
  come g S = let x = gather_some (Reaches rows g) (suc n) (start_at need callee R) S in go x.0 (opening callee R x.0) refl x.2
    where
      go : (p : ℕ) (q : Option Opening) → opening callee R p ≡ q → SomeOf (Reaches rows g) (start_of need q) → Comes callee R g
      go p None e T = absurd T
      go p (Some o) e (inr T) = absurd T
      go p (Some o) e (inl T) =
          let y = opened_from rows g (lean need o) T in
          record { piece = p; opens = o; is_opening = e; start = y.0; allowed = lean_allowed callee R.after rows need ok o y.0 y.1; runs = y.2 }

  module _ (dead false-at : Option ℕ) (W : Searched callee R.after rows starts dead false-at []) where
    abbrev D : List ℕ
    D = W.touching.seen

    abbrev B : List ℕ
    B = W.closing.seen

    -- a state that a piece comes to is seen, or all is well there
    lives_or : (g : State) → Comes callee R g → Has g.row D ⊎ Lives (row_at rows g.row) g
    lives_or g C = let x = lead g C in elim (W.touching.to (with_env g x.0) x.1) [
      | inl (inl h) ↦ inl h
      | inl (inr l) ↦ inr (lives_back callee R.after rows need ok g x.0 x.2 l)
      | inr z ↦ absurd z
    ]

    keeps_or : (g : State) → Comes callee R g → Has g.row B ⊎ Keeps callee R.after (row_at rows g.row) g
    keeps_or g C = let x = lead g C in elim (W.closing.to (with_env g x.0) x.1) [
      | inl (inl h) ↦ inl h
      | inl (inr l) ↦ inr (keeps_back callee R.after rows need ok g x.0 x.2 l)
      | inr z ↦ absurd z
    ]

    dead_to : (r : ℕ) → TouchesDead callee R r → Has r D
    dead_to r (g, C, e, m) = elim (lives_or g C) [
      | inl h ↦ subst (λ k. Has k D) e h
      | inr l ↦ absurd (not_both rows g r e m l)
    ]

    dead_from : (r : ℕ) → Has r D → TouchesDead callee R r
    dead_from r h = let x = W.touching.from r h in (x.0, come x.0 x.3, x.1, x.2)

    false_to : (r : ℕ) → ClosesFalse callee R r → Has r B
    false_to r (g, C, e, m) = elim (keeps_or g C) [
      | inl h ↦ subst (λ k. Has k B) e h
      | inr k ↦ absurd (not_kept callee R.after rows g r e m k)
    ]

    false_from : (r : ℕ) → Has r B → ClosesFalse callee R r
    false_from r h = let x = W.closing.from r h in (x.0, come x.0 x.3, x.1, x.2)

    no_dead : dead ≡ None → (r : ℕ) → ¬ TouchesDead callee R r
    no_dead e r t = none_has D (sym W.touching.lowest_is ∙ e) r (dead_to r t)

    lowest_of : (P : ℕ → Type 0) (l : List ℕ) (r : ℕ) → lowest l ≡ Some r → ((k : ℕ) → Has k l → P k) → ((k : ℕ) → P k → Has k l) → Lowest P r
    lowest_of P l r e f t = let x = low l r e in (f r x.0, λ k p. x.1 k (t k p))

    judged : (o p : Option ℕ) → dead ≡ o → false-at ≡ p → Judged callee R (judge o p)
    judged (Some r) p e f = lowest_of (TouchesDead callee R) D r (sym W.touching.lowest_is ∙ e) dead_from dead_to
    judged None (Some r) e f = (no_dead e, lowest_of (ClosesFalse callee R) B r (sym W.closing.lowest_is ∙ f) false_from false_to)
    judged None None e f = λ g C. (
      elim (lives_or g C) [ inl h ↦ absurd (none_has D (sym W.touching.lowest_is ∙ e) g.row h) | inr l ↦ l ],
      elim (keeps_or g C) [ inl h ↦ absurd (none_has B (sym W.closing.lowest_is ∙ f) g.row h) | inr l ↦ l ],
    )

    pub search_judges : Judged callee R (judge dead false-at)
    search_judges = judged dead false-at refl refl

-- a right routine meets neither number
right_lives : (callee : ℕ → Contract) (R : Routine) → Right callee R → (r : ℕ) → ¬ TouchesDead callee R r
right_lives callee R t r (g, C, e, m) = not_both R.rows g r e m (t g C).0

right_keeps : (callee : ℕ → Contract) (R : Routine) → Right callee R → (r : ℕ) → ¬ ClosesFalse callee R r
right_keeps callee R t r (g, C, e, m) = not_kept callee R.after R.rows g r e m (t g C).1

pub one_verdict : (callee : ℕ → Contract) (R : Routine) (v u : Verdict) → Judged callee R v → Judged callee R u → v ≡ u
one_verdict callee R (Ok t) (Ok u) a b = refl
one_verdict callee R (Ok u) (Err (DeadCell k)) a b = absurd (right_lives callee R a k b.0)
one_verdict callee R (Ok u) (Err (FalseList k)) a b = absurd (right_keeps callee R a k b.1.0)
one_verdict callee R (Err (DeadCell r)) (Ok u) a b = absurd (right_lives callee R b r a.0)
one_verdict callee R (Err (DeadCell r)) (Err (DeadCell k)) a b = let x = a.1 k b.0 in let y = b.1 r a.0 in let z : r ≡ k = omega arith in ap (λ n. Err (DeadCell n)) z
one_verdict callee R (Err (DeadCell r)) (Err (FalseList k)) a b = absurd (b.0 r a.0)
one_verdict callee R (Err (FalseList r)) (Ok u) a b = absurd (right_keeps callee R b r a.1.0)
one_verdict callee R (Err (FalseList r)) (Err (DeadCell k)) a b = absurd (a.0 k b.0)
one_verdict callee R (Err (FalseList r)) (Err (FalseList k)) a b = let x = a.1.1 k b.1.0 in let y = b.1.1 r a.1.0 in let z : r ≡ k = omega arith in ap (λ n. Err (FalseList n)) z

-- names that an opening has are told apart
mem-from : (m n k : ℕ) → m < n → mem m (from n k) ≡ false
mem-from m n zero q = refl
mem-from m n (suc k) q = let a = mem-from m (suc n) k (omega arith) in let b : eqb n m ≡ false = grind (arith, nat_tests) in rw (b, a)

mem-both : (m n k g : ℕ) → m < n → n + k ≤ 7 → mem m (from n k ++ from 7 g) ≡ false
mem-both m n zero g q l = mem-from m 7 g (omega arith)
mem-both m n (suc k) g q l = let a = mem-both m (suc n) k g (omega arith) (omega arith) in let b : eqb n m ≡ false = grind (arith, nat_tests) in rw (b, a)

apart_from : (n k : ℕ) → Apart (from n k)
apart_from n zero = tt
apart_from n (suc k) = (mem-from n (suc n) k (omega arith), apart_from (suc n) k)

pub apart_names : (n k g : ℕ) → n + k ≤ 7 → Apart (from n k ++ from 7 g)
apart_names n zero g l = apart_from 7 g
apart_names n (suc k) g l = (mem-both n (suc n) k g (omega arith) (omega arith), apart_names (suc n) k g (omega arith))

mem-less : (p : ℕ → Bool) (l : List ℕ) (n : ℕ) → mem n l ≡ false → mem n (filter p l) ≡ false
mem-less p [] n t = refl
mem-less p (x ∷ l) n t =
    let ih = mem-less p l n (grind (arith, nat_tests)) in let q : eqb x n ≡ false = grind (arith, nat_tests) in
    elim (cases_Bool (p x)) [ inl b ↦ rw (b, q, ih) | inr b ↦ rw (b, ih) ]

pub apart_kept : (p : ℕ → Bool) (l : List ℕ) → Apart l → Apart (filter p l)
apart_kept p [] a = tt
apart_kept p (x ∷ l) a = elim (cases_Bool (p x)) [ inl b ↦ rw b (mem-less p l x a.0, apart_kept p l a.1) | inr b ↦ rw b (apart_kept p l a.1) ]
